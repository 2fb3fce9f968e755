-- The trace of a run is a trace text.
use Rattle.std.proofs.Common.{◌≡◌, ◌≢◌, ℕ, suc, ◌+◌, ◌^◌, ◌<◌, ◌≤◌, Bool, true, false, List, [], ◌∷◌, ◌++◌, Option, Some, None, filter, length, map, refl, sym, ap, ◌∙◌, subst, arith, append_assoc, append-nil, eqb-true, ne_eqb, eq-eqb}
use Rattle.std.specs.Prelude.{◌==◌, flat_map}
use Rattle.std.proofs.lemmas.Grind.{flat_map-append}
use Rattle.fk_image.specs.Events.{event_number}
use Rattle.fk_image.specs.declared.event.Event.{Event}
use Rattle.fk_trace.specs.declared.column.Column.{Column}
use Rattle.fk_trace.specs.declared.column.Column.TheVariants.{Counts, Of}
use Rattle.fk_trace.specs.Text.{Commit, Commits, Range, all_events, cycle_lines, event_lines, first_lines, head_text, joined, last_line, line_if, lines_from, number_in, occurs, range_text, ranges, shows}
use Rattle.fk_replay_text.specs.Trace.{AreInOrder, ComesAfter, HasNumber, IsLine, Rise, Told, all_told_text, told_text}
use Rattle.fk_replay_text.specs.Written.{AreCommits, AreCycles, IsCommit, TracesAreTexts, shown_ranges, told_events, told_from, told_if}
use Rattle.fk_replay_text.proofs.Fields.{event_small}

-- ---- the ranges of all harts follow each other without gaps, with different numbers

abbrev pub OtherFirst : ℕ → List Range → Type 0
OtherFirst number [] = Unit {0}
OtherFirst number (r ∷ rs) = r.number ≢ number

abbrev pub Tiles : (hart end : ℕ) → List Range → Type 0
Tiles hart end [] = hart ≡ end
Tiles hart end (r ∷ rs) = (r.first ≡ hart) × (r.first ≤ r.last) × OtherFirst r.number rs × Tiles (suc r.last) end rs

eqb-false : (a b : ℕ) → (a == b) ≡ false → a ≢ b
eqb-false a b e same = let bad : true ≡ false = sym (eq-eqb a b same) ∙ e in cc

joined_tiles : (hart end number : ℕ) (rs : List Range) → Tiles (suc hart) end rs → Tiles hart end (joined hart number rs)
joined_tiles hart end number [] t = (refl, omega arith, tt, t)
joined_tiles hart end number (r ∷ rs) t = by (r.number == number) refl
  where
    by : (b : Bool) → (r.number == number) ≡ b → Tiles hart end (joined hart number (r ∷ rs))
    by true e =
        let first = t.0 in
        let ordered = t.1 in
        let le : hart ≤ r.last = omega arith in
        rw e (refl, le, t.2, t.3)
    by false e = rw e (refl, omega arith, eqb-false r.number number e, t)

pub tiles : (hart : ℕ) (numbers : List ℕ) → Tiles hart (hart + length numbers) (ranges hart numbers)
tiles hart [] = omega arith
tiles hart (n ∷ numbers) =
    let count : suc hart + length numbers ≡ hart + length (n ∷ numbers) = omega arith in
    joined_tiles hart (hart + length (n ∷ numbers)) n (ranges (suc hart) numbers)
    (subst (λ (e : ℕ). Tiles (suc hart) e (ranges (suc hart) numbers)) count (tiles (suc hart) numbers))

-- ---- the ranges that a line shows

abbrev pub shown : Column → List Range → List Range
shown column rs = filter (λ r. shows column r.number) rs

-- the numbers of all ranges that a line shows are those of its column
abbrev AreOf : Column → List Range → Type 0
AreOf column [] = Unit {0}
AreOf column (r ∷ rs) = (shows column r.number ≡ true → HasNumber column r.number) × AreOf column rs

-- a range before some hart, whose number the range at that hart doesn't have
abbrev Precedes : Option Range → (hart : ℕ) → List Range → Type 0
Precedes None hart rs = Unit {0}
Precedes (Some q) hart rs = (q.last < hart) × (suc q.last ≡ hart → OtherFirst q.number rs)

precedes_next : (q : Option Range) (hart : ℕ) (r : Range) (rs : List Range) → r.first ≡ hart → r.first ≤ r.last → Precedes q hart (r ∷ rs) → Precedes q (suc r.last) rs
precedes_next None hart r rs e le p = tt
precedes_next (Some q) hart r rs e le p =
    let low = p.0 in
    (omega arith, λ (next : suc q.last ≡ suc r.last). absurd (no next))
  where
    no : suc q.last ≡ suc r.last → ⊥
    no next = let low = p.0 in omega arith

comes : (q : Option Range) (hart : ℕ) (r : Range) (rs : List Range) → r.first ≡ hart → Precedes q hart (r ∷ rs) → ComesAfter q r
comes None hart r rs e p = tt
comes (Some q) hart r rs e p = record { above = subst (λ (h : ℕ). q.last < h) (sym e) p.0; apart = λ next same. p.1 (next ∙ e) (sym same) }

tiles_end : (hart end : ℕ) (rs : List Range) → Tiles hart end rs → hart ≤ end
tiles_end hart end [] t = omega arith
tiles_end hart end (r ∷ rs) t =
    let first = t.0 in
    let ordered = t.1 in
    let more = tiles_end (suc r.last) end rs t.3 in
    omega arith

rise : (column : Column) (hart end harts : ℕ) (q : Option Range) (rs : List Range) → Tiles hart end rs → end ≤ harts → AreOf column rs → Precedes q hart rs
    → Rise column harts q (shown column rs)
rise column hart end harts q [] t le are p = tt
rise column hart end harts q (r ∷ rs) t le are p =
    by (rise column (suc r.last) end harts (Some r) rs t.3 le are.1 (omega arith, λ next. t.2))
    (rise column (suc r.last) end harts q rs t.3 le are.1 (precedes_next q hart r rs t.0 t.1 p)) (shows column r.number) refl
  where
    by : Rise column harts (Some r) (shown column rs) → Rise column harts q (shown column rs) → (b : Bool) → shows column r.number ≡ b → Rise column harts q (shown column (r ∷ rs))
    by more rest true e =
        let ends = tiles_end (suc r.last) end rs t.3 in
        let within : r.last < harts = omega arith in
        rw e (record { ordered = t.1; below = within; number = are.0 e }, comes q hart r rs t.0 p, more)
    by more rest false e = rw e rest

-- ---- numbers

abbrev NumbersOf : Column → List ℕ → Type 0
NumbersOf column [] = Unit {0}
NumbersOf column (n ∷ numbers) = (shows column n ≡ true → HasNumber column n) × NumbersOf column numbers

joined_of : (column : Column) (hart number : ℕ) (rs : List Range) → (shows column number ≡ true → HasNumber column number) → AreOf column rs
    → AreOf column (joined hart number rs)
joined_of column hart number [] h are = (h, tt)
joined_of column hart number (r ∷ rs) h are = by (r.number == number) refl
  where
    by : (b : Bool) → (r.number == number) ≡ b → AreOf column (joined hart number (r ∷ rs))
    by true e = rw e are
    by false e = rw e (h, are)

ranges_of : (column : Column) (hart : ℕ) (numbers : List ℕ) → NumbersOf column numbers → AreOf column (ranges hart numbers)
ranges_of column hart [] of = tt
ranges_of column hart (n ∷ numbers) of = joined_of column hart n (ranges (suc hart) numbers) of.0 (ranges_of column (suc hart) numbers of.1)

shown_number : (column : Column) (commit : Commit) → IsCommit commit → shows column (number_in column commit) ≡ true → HasNumber column (number_in column commit)
shown_number Counts None is e = let bad : false ≡ true = e in absurd (cc)
shown_number Counts (Some commit) is e = is
shown_number (Of event) None is e = eqb-true 0 (event_number event) e
shown_number (Of event) (Some commit) is e = eqb-true commit.1 (event_number event) e

numbers_of : (column : Column) (commits : Commits) → AreCommits commits → NumbersOf column (map (number_in column) commits)
numbers_of column [] are = tt
numbers_of column (c ∷ commits) are = (shown_number column c are.0, numbers_of column commits are.1)

-- ---- a line that occurs shows a range

abbrev AnyShown : Column → List Range → Type 0
AnyShown column rs = 0 < length (shown column rs)

shown_more : (column : Column) (r : Range) (rs : List Range) → AnyShown column rs → AnyShown column (r ∷ rs)
shown_more column r rs any = by (shows column r.number) refl
  where
    by : (b : Bool) → shows column r.number ≡ b → AnyShown column (r ∷ rs)
    by true e = rw e (omega arith)
    by false e = rw e any

shown_here : (column : Column) (r : Range) (rs : List Range) → shows column r.number ≡ true → AnyShown column (r ∷ rs)
shown_here column r rs e = rw e (omega arith)

joined_here : (column : Column) (hart number : ℕ) (rs : List Range) → shows column number ≡ true → AnyShown column (joined hart number rs)
joined_here column hart number [] e = shown_here column (record { first = hart; last = hart; number = number }) [] e
joined_here column hart number (r ∷ rs) e = by (r.number == number) refl
  where
    by : (b : Bool) → (r.number == number) ≡ b → AnyShown column (joined hart number (r ∷ rs))
    by true f =
        let same : r.number ≡ number = eqb-true r.number number f in
        let there : shows column r.number ≡ true = ap (shows column) same ∙ e in
        rw f (shown_here column (record r { first = hart }) rs there)
    by false f = rw f (shown_here column (record { first = hart; last = hart; number = number }) (r ∷ rs) e)

joined_more : (column : Column) (hart number : ℕ) (rs : List Range) → AnyShown column rs → AnyShown column (joined hart number rs)
joined_more column hart number [] any = absurd (omega arith)
joined_more column hart number (r ∷ rs) any = by (r.number == number) refl
  where
    same_shown : AnyShown column (record r { first = hart } ∷ rs)
    same_shown = by_shown (shows column r.number) refl
      where
        by_shown : (b : Bool) → shows column r.number ≡ b → AnyShown column (record r { first = hart } ∷ rs)
        by_shown true e = rw e (omega arith)
        by_shown false e = let rest : 0 < length (shown column rs) = rw e at any in rw e rest

    by : (b : Bool) → (r.number == number) ≡ b → AnyShown column (joined hart number (r ∷ rs))
    by true f = rw f same_shown
    by false f = rw f (shown_more column (record { first = hart; last = hart; number = number }) (r ∷ rs) any)

occurring : (column : Column) (hart : ℕ) (commits : Commits) → occurs column commits ≡ true → AnyShown column (ranges hart (map (number_in column) commits))
occurring column hart [] e = let bad : false ≡ true = e in absurd (cc)
occurring column hart (c ∷ commits) e = by (occurring column (suc hart) commits) (shows column (number_in column c)) refl
  where
    by : (occurs column commits ≡ true → AnyShown column (ranges (suc hart) (map (number_in column) commits))) → (b : Bool) → shows column (number_in column c) ≡ b
        → AnyShown column (ranges hart (map (number_in column) (c ∷ commits)))
    by more true f = joined_here column hart (number_in column c) (ranges (suc hart) (map (number_in column) commits)) f
    by more false f =
        let rest : occurs column commits ≡ true = rw f at e in
        joined_more column hart (number_in column c) (ranges (suc hart) (map (number_in column) commits)) (more rest)

length_numbers : (column : Column) (commits : Commits) → length (map (number_in column) commits) ≡ length commits
length_numbers column [] = refl
length_numbers column (c ∷ commits) = let rest = length_numbers column commits in omega arith

-- the line of a column
abbrev pub line_of : Column → (cycle : ℕ) → Commits → Told
line_of column cycle commits = record { column = column; cycle = cycle; ranges = shown_ranges column (map (number_in column) commits) }

is_line : (column : Column) (harts cycle : ℕ) (commits : Commits) → 0 < cycle → cycle < 2 ^ 32 → length commits ≡ harts → AreCommits commits
    → occurs column commits ≡ true → IsLine harts (line_of column cycle commits)
is_line column harts cycle commits begun small long are e =
    let count = length_numbers column commits in
    let numbers = map (number_in column) commits in
    let le : 0 + length numbers ≤ harts = omega arith in
    record {
      begun = begun;
      word = small;
      ranges = (
        occurring column 0 commits e,
        rise column 0 (0 + length numbers) harts None (ranges 0 numbers) (tiles 0 numbers) le (ranges_of column 0 numbers (numbers_of column commits are)) tt,
      );
    }

-- ---- the order of lines

-- lines that come before others
abbrev CanGoOn : (harts last cycle : ℕ) → List Told → Type 0
CanGoOn harts last cycle told = (now event : ℕ) → now ≤ cycle → AreInOrder harts last now event told

-- events that come later than a rank, in their order
abbrev RiseFrom : (before : ℕ) → List Event → Type 0
RiseFrom before [] = Unit {0}
RiseFrom before (event ∷ events) = (before < event_number event) × RiseFrom (event_number event) events

rise_later : (low before : ℕ) (events : List Event) → low ≤ before → RiseFrom before events → RiseFrom low events
rise_later low before [] le r = tt
rise_later low before (event ∷ events) le r = let less = r.0 in (omega arith, r.1)

all_rise : RiseFrom 0 all_events
all_rise = (omega arith, (omega arith, (omega arith, (omega arith, (omega arith, (omega arith, tt))))))

events_in_order : (harts last cycle before : ℕ) (commits : Commits) (events : List Event) (rest : List Told) → 0 < cycle → cycle < 2 ^ 32
    → length commits ≡ harts → AreCommits commits → RiseFrom before events → CanGoOn harts last cycle rest
    → AreInOrder harts last cycle before (told_events cycle commits events ++ rest)
events_in_order harts last cycle before commits [] rest begun small long are r on = on cycle before (omega arith)
events_in_order harts last cycle before commits (event ∷ events) rest begun small long are r on =
    let less = r.0 in
    let low : before ≤ event_number event = omega arith in
    by (events_in_order harts last cycle (event_number event) commits events rest begun small long are r.1 on)
    (events_in_order harts last cycle before commits events rest begun small long are (rise_later before (event_number event) events low r.1) on)
    (occurs (Of event) commits) refl
  where
    by : AreInOrder harts last cycle (event_number event) (told_events cycle commits events ++ rest) → AreInOrder harts last cycle before (told_events cycle commits events ++ rest)
        → (b : Bool) → occurs (Of event) commits ≡ b → AreInOrder harts last cycle before (told_events cycle commits (event ∷ events) ++ rest)
    by more skipped true e = rw e (is_line (Of event) harts cycle commits begun small long are e, (refl, r.0), more)
    by more skipped false e = rw e skipped

-- a hart with an event commits operations
shows_count : (event : Event) (commit : Commit) → IsCommit commit → shows (Of event) (number_in (Of event) commit) ≡ true → shows Counts (number_in Counts commit) ≡ true
shows_count event None is e =
    let same : 0 ≡ event_number event = eqb-true 0 (event_number event) e in
    let some = event_small event in absurd (omega arith)
shows_count event (Some commit) is e =
    let some = is.0 in
    let other : (commit.0 == 0) ≡ false = ne_eqb commit.0 0 (λ z. omega (arith, z)) in
    rw other refl

no_event : (event : Event) (commits : Commits) → AreCommits commits → occurs Counts commits ≡ false → occurs (Of event) commits ≡ false
no_event event [] are e = refl
no_event event (c ∷ commits) are e = by (no_event event commits are.1 (rest_is (shows Counts (number_in Counts c)) refl)) (shows (Of event) (number_in (Of event) c)) refl
  where
    rest_is : (b : Bool) → shows Counts (number_in Counts c) ≡ b → occurs Counts commits ≡ false
    rest_is true g = let bad : true ≡ false = rw g at e in absurd (cc)
    rest_is false g = rw g at e

    by : occurs (Of event) commits ≡ false → (b : Bool) → shows (Of event) (number_in (Of event) c) ≡ b → occurs (Of event) (c ∷ commits) ≡ false
    by none true f =
        let there = shows_count event c are.0 f in
        let bad : true ≡ false = rw there at e in absurd (cc)
    by none false f = rw f none

no_events : (cycle : ℕ) (commits : Commits) (events : List Event) → AreCommits commits → occurs Counts commits ≡ false → told_events cycle commits events ≡ []
no_events cycle commits [] are e = refl
no_events cycle commits (event ∷ events) are e = rw (no_event event commits are e) (no_events cycle commits events are e)

in_order : (harts last cycle : ℕ) (cycles : List Commits) (now event : ℕ) → 0 < cycle → cycle + length cycles ≡ suc last → last < 2 ^ 32 → AreCycles harts cycles → now < cycle
    → AreInOrder harts last now event (told_from cycle cycles)
in_order harts last cycle [] now event begun count small are low = omega arith
in_order harts last cycle (commits ∷ cycles) now event begun count small are low =
    let next : suc cycle + length cycles ≡ suc last = omega arith in
    subst (AreInOrder harts last now event) (sym (append_assoc (told_if Counts cycle commits) (told_events cycle commits all_events) (told_from (suc cycle) cycles)))
    (by (λ at rnk le. in_order harts last (suc cycle) cycles at rnk (omega arith) next small are.2 (omega arith)) (occurs Counts commits) refl)
  where
    word : cycle < 2 ^ 32
    word = omega arith

    by : ((at rnk : ℕ) → at ≤ cycle → AreInOrder harts last at rnk (told_from (suc cycle) cycles)) → (b : Bool) → occurs Counts commits ≡ b
        → AreInOrder harts last now event (told_if Counts cycle commits ++ (told_events cycle commits all_events ++ told_from (suc cycle) cycles))
    by others true e = rw e (
      is_line Counts harts cycle commits begun word are.0 are.1 e,
      low,
      events_in_order harts last cycle 0 commits all_events (told_from (suc cycle) cycles) begun word are.0 are.1 all_rise others,
    )
    by others false e = rw (e, no_events cycle commits all_events are.1 e) (others now event (omega arith))

-- ---- the text

text_shown : (column : Column) (rs : List Range) → flat_map (range_text column) (shown column rs) ≡ flat_map (range_text column) rs
text_shown column [] = refl
text_shown column (r ∷ rs) = by (text_shown column rs) (shows column r.number) refl
  where
    by : flat_map (range_text column) (shown column rs) ≡ flat_map (range_text column) rs → (b : Bool) → shows column r.number ≡ b
        → flat_map (range_text column) (shown column (r ∷ rs)) ≡ flat_map (range_text column) (r ∷ rs)
    by rest true e = ap (flat_map (range_text column)) (kept e) ∙ ap (λ l. range_text column r ++ l) rest
      where
        kept : shows column r.number ≡ true → shown column (r ∷ rs) ≡ r ∷ shown column rs
        kept e = rw e refl
    by rest false e = ap (flat_map (range_text column)) (gone e) ∙ rest ∙ ap (λ l. l ++ flat_map (range_text column) rs) (sym (empty e))
      where
        gone : shows column r.number ≡ false → shown column (r ∷ rs) ≡ shown column rs
        gone e = rw e refl

        empty : shows column r.number ≡ false → range_text column r ≡ []
        empty e = rw e refl

line_is : (column : Column) (cycle : ℕ) (commits : Commits) → all_told_text (told_if column cycle commits) ≡ line_if column cycle commits
line_is column cycle commits = by (occurs column commits) refl
  where
    numbers : List ℕ
    numbers = map (number_in column) commits

    by : (b : Bool) → occurs column commits ≡ b → all_told_text (told_if column cycle commits) ≡ line_if column cycle commits
    by true e = rw e (append-nil (told_text (line_of column cycle commits))
        ∙ ap (λ l. head_text column cycle ++ (l ++ 10 ∷ [])) (text_shown column (ranges 0 (map (number_in column) commits)))
        ∙ sym (append_assoc (head_text column cycle) (flat_map (range_text column) (ranges 0 (map (number_in column) commits))) (10 ∷ [])))
    by false e = rw e refl

events_are : (cycle : ℕ) (commits : Commits) (events : List Event) → all_told_text (told_events cycle commits events) ≡ event_lines cycle commits events
events_are cycle commits [] = refl
events_are cycle commits (event ∷ events) =
    flat_map-append told_text (told_if (Of event) cycle commits) (told_events cycle commits events)
    ∙ ap (λ l. l ++ all_told_text (told_events cycle commits events)) (line_is (Of event) cycle commits)
    ∙ ap (λ l. line_if (Of event) cycle commits ++ l) (events_are cycle commits events)

lines_are : (cycle : ℕ) (cycles : List Commits) → all_told_text (told_from cycle cycles) ≡ lines_from cycle cycles
lines_are cycle [] = refl
lines_are cycle (commits ∷ cycles) =
    flat_map-append told_text (told_if Counts cycle commits ++ told_events cycle commits all_events) (told_from (suc cycle) cycles)
    ∙ ap (λ l. l ++ all_told_text (told_from (suc cycle) cycles))
    (flat_map-append told_text (told_if Counts cycle commits) (told_events cycle commits all_events)
    ∙ ap (λ l. l ++ all_told_text (told_events cycle commits all_events)) (line_is Counts cycle commits)
    ∙ ap (λ l. line_if Counts cycle commits ++ l) (events_are cycle commits all_events))
    ∙ ap (λ l. cycle_lines cycle commits ++ l) (lines_are (suc cycle) cycles)

pub traces_are_texts : TracesAreTexts
traces_are_texts harts cycles some few small are =
    let count : 1 + length cycles ≡ suc (length cycles) = omega arith in
    let order : AreInOrder harts (length cycles) 0 0 (told_from 1 cycles) = in_order harts (length cycles) 1 cycles 0 0 (omega arith) count small are (omega arith) in
    record {
      some = some;
      few = few;
      behind = lines_from 1 cycles ++ last_line (length cycles);
      body = record {
        word = small;
        order = order;
        spells = ap (λ l. l ++ last_line (length cycles)) (sym (lines_are 1 cycles));
      };
      spells = append_assoc (first_lines harts) (lines_from 1 cycles) (last_line (length cycles));
    }
