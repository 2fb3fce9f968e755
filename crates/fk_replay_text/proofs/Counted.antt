-- The rounds of the trace of a run are the counts that its harts commit.
use Rattle.std.proofs.Common.{◌≡◌, ℕ, zero, suc, ◌+◌, ◌<◌, ◌≤◌, Bool, true, false, List, [], ◌∷◌, ◌++◌, length, map, refl, sym, ap, ap₂, ◌∙◌, arith, eqb-true, ne_eqb}
use Rattle.std.specs.Prelude.{◌==◌, if◌then◌else◌}
use Rattle.std.proofs.lemmas.Bool.Decides.{nat_tests}
use Rattle.fk_image.specs.declared.event.Event.{Event}
use Rattle.fk_trace.specs.declared.column.Column.TheVariants.{Counts, Of}
use Rattle.fk_trace.specs.Text.{Commits, Range, all_events, joined, number_in, occurs, ranges, shows}
use Rattle.fk_replay_text.specs.Trace.{Told, moments_of}
use Rattle.fk_replay_text.specs.Rounds.{RoundsAreCounts, count_in, counts_from, ranges_at, round_of, rounds_from}
use Rattle.fk_replay_text.specs.Written.{AreCycles, shown_ranges, told_events, told_from, told_if}
use Rattle.fk_replay_text.proofs.Written.{Tiles, shown, tiles}

-- ---- one range

before_first : (r : Range) (rs : List Range) (g : ℕ) → g < r.first → count_in (r ∷ rs) g ≡ count_in rs g
before_first r rs g lt = grind (arith, nat_tests)

behind_last : (r : Range) (rs : List Range) (g : ℕ) → r.last < g → count_in (r ∷ rs) g ≡ count_in rs g
behind_last r rs g lt = grind (arith, nat_tests)

inside : (r : Range) (rs : List Range) (g : ℕ) → r.first ≤ g → g ≤ r.last → count_in (r ∷ rs) g ≡ r.number
inside r rs g low high = grind (arith, nat_tests)

shows_not : (n : ℕ) → shows Counts n ≡ false → n ≡ 0
shows_not n e = grind arith

-- no range has a hart below the first one
low : (hart end g : ℕ) (rs : List Range) → Tiles hart end rs → g < hart → count_in (shown Counts rs) g ≡ 0
low hart end g [] t lt = refl
low hart end g (r ∷ rs) t lt =
    let first = t.0 in
    let ordered = t.1 in
    let early : g < r.first = omega arith in
    let rest : count_in (shown Counts rs) g ≡ 0 = low (suc r.last) end g rs t.3 (omega arith) in
    by early rest (shows Counts r.number) refl
  where
    by : g < r.first → count_in (shown Counts rs) g ≡ 0 → (b : Bool) → shows Counts r.number ≡ b → count_in (shown Counts (r ∷ rs)) g ≡ 0
    by early rest true e = rw e (before_first r (shown Counts rs) g early ∙ rest)
    by early rest false e = rw e rest

-- ---- one more hart

abbrev single : ℕ → ℕ → Range
single hart number = record { first = hart; last = hart; number = number }

first_shown : (hart end n : ℕ) (rs : List Range) → Tiles (suc hart) end rs → (b : Bool) → shows Counts n ≡ b → count_in (shown Counts (single hart n ∷ rs)) hart ≡ n
first_shown hart end n rs t true e = rw e (inside (single hart n) (shown Counts rs) hart (omega arith) (omega arith))
first_shown hart end n rs t false e =
    let none : n ≡ 0 = shows_not n e in rw e (low (suc hart) end hart rs t (omega arith) ∙ sym none)

wider_shown : (hart end : ℕ) (r : Range) (rs : List Range) → hart ≤ r.last → Tiles (suc r.last) end rs → (b : Bool) → shows Counts r.number ≡ b
    → count_in (shown Counts (record r { first = hart } ∷ rs)) hart ≡ r.number
wider_shown hart end r rs le t true e = rw e (inside (record r { first = hart }) (shown Counts rs) hart (omega arith) le)
wider_shown hart end r rs le t false e =
    let none : r.number ≡ 0 = shows_not r.number e in rw e (low (suc r.last) end hart rs t (omega arith) ∙ sym none)

here : (hart end n : ℕ) (rs : List Range) → Tiles (suc hart) end rs → count_in (shown Counts (joined hart n rs)) hart ≡ n
here hart end n [] t = first_shown hart end n [] t (shows Counts n) refl
here hart end n (r ∷ rs) t = by (r.number == n) refl
  where
    by : (b : Bool) → (r.number == n) ≡ b → count_in (shown Counts (joined hart n (r ∷ rs))) hart ≡ n
    by true e =
        let first = t.0 in
        let ordered = t.1 in
        let le : hart ≤ r.last = omega arith in
        rw e (wider_shown hart end r rs le t.3 (shows Counts r.number) refl ∙ eqb-true r.number n e)
    by false e = rw e (first_shown hart end n (r ∷ rs) t (shows Counts n) refl)

single_later : (hart n g : ℕ) (rs : List Range) → hart < g → (b : Bool) → shows Counts n ≡ b → count_in (shown Counts (single hart n ∷ rs)) g ≡ count_in (shown Counts rs) g
single_later hart n g rs lt true e = rw e (behind_last (single hart n) (shown Counts rs) g lt)
single_later hart n g rs lt false e = rw e refl

wider_later : (hart g : ℕ) (r : Range) (rs : List Range) → r.first ≡ suc hart → hart < g → (b : Bool) → shows Counts r.number ≡ b
    → count_in (shown Counts (record r { first = hart } ∷ rs)) g ≡ count_in (shown Counts (r ∷ rs)) g
wider_later hart g r rs first lt true e = rw e (same (shown Counts rs))
  where
    same : (ss : List Range) → count_in (record r { first = hart } ∷ ss) g ≡ count_in (r ∷ ss) g
    same ss = grind (arith, nat_tests)
wider_later hart g r rs first lt false e = rw e refl

later : (hart end n g : ℕ) (rs : List Range) → Tiles (suc hart) end rs → hart < g → count_in (shown Counts (joined hart n rs)) g ≡ count_in (shown Counts rs) g
later hart end n g [] t lt = single_later hart n g [] lt (shows Counts n) refl
later hart end n g (r ∷ rs) t lt = by (r.number == n) refl
  where
    by : (b : Bool) → (r.number == n) ≡ b → count_in (shown Counts (joined hart n (r ∷ rs))) g ≡ count_in (shown Counts (r ∷ rs)) g
    by true e = rw e (wider_later hart g r rs t.0 lt (shows Counts r.number) refl)
    by false e = rw e (single_later hart n g (r ∷ rs) lt (shows Counts n) refl)

-- ---- all harts

same_counts : (xs ys : List Range) (hart first number : ℕ) → ((g : ℕ) → hart < g → count_in xs g ≡ count_in ys g) → hart < first
    → counts_from xs first number ≡ counts_from ys first number
same_counts xs ys hart first zero same lt = refl
same_counts xs ys hart first (suc n) same lt = ap₂ ◌∷◌ (same first lt) (same_counts xs ys hart (suc first) n same (omega arith))

counts : (hart : ℕ) (numbers : List ℕ) → counts_from (shown Counts (ranges hart numbers)) hart (length numbers) ≡ numbers
counts hart [] = refl
counts hart (n ∷ numbers) =
    let t = tiles (suc hart) numbers in
    let end = suc hart + length numbers in
    let long : length (n ∷ numbers) ≡ suc (length numbers) = omega arith in
    ap (counts_from (shown Counts (ranges hart (n ∷ numbers))) hart) long
    ∙ ap₂ ◌∷◌ (here hart end n (ranges (suc hart) numbers) t)
    (same_counts (shown Counts (ranges hart (n ∷ numbers))) (shown Counts (ranges (suc hart) numbers)) hart (suc hart) (length numbers)
    (λ g lt. later hart end n g (ranges (suc hart) numbers) t lt) (omega arith) ∙ counts (suc hart) numbers)

-- where no hart commits, no range is shown
none_single : (hart n : ℕ) (rs : List Range) → shows Counts n ≡ false → shown Counts rs ≡ [] → shown Counts (single hart n ∷ rs) ≡ []
none_single hart n rs e none = rw e none

none_joined : (hart n : ℕ) (rs : List Range) → shows Counts n ≡ false → shown Counts rs ≡ [] → shown Counts (joined hart n rs) ≡ []
none_joined hart n [] e none = none_single hart n [] e none
none_joined hart n (r ∷ rs) e none = by (r.number == n) refl
  where
    rest_is : (b : Bool) → shows Counts r.number ≡ b → shown Counts (record r { first = hart } ∷ rs) ≡ []
    rest_is true f = let bad : r ∷ shown Counts rs ≡ [] = rw f at none in absurd (cc)
    rest_is false f = let rest : shown Counts rs ≡ [] = rw f at none in rw f rest

    by : (b : Bool) → (r.number == n) ≡ b → shown Counts (joined hart n (r ∷ rs)) ≡ []
    by true f = rw f (rest_is (shows Counts r.number) refl)
    by false f = rw f (none_single hart n (r ∷ rs) e none)

none_occurs : (hart : ℕ) (commits : Commits) → occurs Counts commits ≡ false → shown Counts (ranges hart (map (number_in Counts) commits)) ≡ []
none_occurs hart [] e = refl
none_occurs hart (c ∷ commits) e = by (none_occurs (suc hart) commits) (shows Counts (number_in Counts c)) refl
  where
    by : (occurs Counts commits ≡ false → shown Counts (ranges (suc hart) (map (number_in Counts) commits)) ≡ []) → (b : Bool) → shows Counts (number_in Counts c) ≡ b
        → shown Counts (ranges hart (map (number_in Counts) (c ∷ commits))) ≡ []
    by more true f = let bad : true ≡ false = rw f at e in absurd (cc)
    by more false f =
        let rest : occurs Counts commits ≡ false = rw f at e in
        none_joined hart (number_in Counts c) (ranges (suc hart) (map (number_in Counts) commits)) f (more rest)

long_numbers : (commits : Commits) → length (map (number_in Counts) commits) ≡ length commits
long_numbers [] = refl
long_numbers (c ∷ commits) = let rest = long_numbers commits in omega arith

round_is : (harts : ℕ) (commits : Commits) → length commits ≡ harts → round_of harts (shown_ranges Counts (map (number_in Counts) commits)) ≡ map (number_in Counts) commits
round_is harts commits long =
    ap (counts_from (shown_ranges Counts (map (number_in Counts) commits)) 0) (sym (long_numbers commits ∙ long)) ∙ counts 0 (map (number_in Counts) commits)

-- ---- the moments of cycles

event_moments : (cycle : ℕ) (commits : Commits) (events : List Event) (rest : List Told) → moments_of (told_events cycle commits events ++ rest) ≡ moments_of rest
event_moments cycle commits [] rest = refl
event_moments cycle commits (event ∷ events) rest = by (event_moments cycle commits events rest) (occurs (Of event) commits) refl
  where
    by : moments_of (told_events cycle commits events ++ rest) ≡ moments_of rest → (b : Bool) → occurs (Of event) commits ≡ b
        → moments_of (told_events cycle commits (event ∷ events) ++ rest) ≡ moments_of rest
    by more true e = rw e more
    by more false e = rw e more

-- the moments of a cycle and of those behind it
cycle_moments : (cycle : ℕ) (commits : Commits) (rest : List Told) (b : Bool) → occurs Counts commits ≡ b
    → moments_of ((told_if Counts cycle commits ++ told_events cycle commits all_events) ++ rest)
    ≡ (if b then (cycle, shown_ranges Counts (map (number_in Counts) commits)) ∷ moments_of rest else moments_of rest)
cycle_moments cycle commits rest true e =
    rw e (ap (λ l. (cycle, shown_ranges Counts (map (number_in Counts) commits)) ∷ l) (event_moments cycle commits all_events rest))
cycle_moments cycle commits rest false e = rw e (event_moments cycle commits all_events rest)

not_same : (a b : ℕ) → a < b → (b == a) ≡ false
not_same a b lt = ne_eqb b a (λ e. omega (arith, e))

-- later cycles tell nothing of an earlier one
earlier : (cycle t : ℕ) (cycles : List Commits) → t < cycle → ranges_at (moments_of (told_from cycle cycles)) t ≡ []
earlier cycle t [] lt = refl
earlier cycle t (commits ∷ cycles) lt =
    let rest = earlier (suc cycle) t cycles (omega arith) in
    ap (λ m. ranges_at m t) (cycle_moments cycle commits (told_from (suc cycle) cycles) (occurs Counts commits) refl) ∙ by rest (occurs Counts commits)
  where
    by : ranges_at (moments_of (told_from (suc cycle) cycles)) t ≡ [] → (b : Bool)
        → ranges_at (if b then (cycle, shown_ranges Counts (map (number_in Counts) commits)) ∷ moments_of (told_from (suc cycle) cycles) else moments_of (told_from (suc cycle) cycles)) t ≡ []
    by rest true = rw (not_same t cycle lt) rest
    by rest false = rest

skip : (harts cycle first number : ℕ) (x : List Range) (moments : List (ℕ × List Range)) → cycle < first
    → rounds_from harts ((cycle, x) ∷ moments) first number ≡ rounds_from harts moments first number
skip harts cycle first zero x moments lt = refl
skip harts cycle first (suc n) x moments lt =
    let other : (cycle == first) ≡ false = ne_eqb cycle first (λ e. omega (arith, e)) in
    let now : ranges_at ((cycle, x) ∷ moments) first ≡ ranges_at moments first = rw other refl in
    ap₂ ◌∷◌ (ap (round_of harts) now) (skip harts cycle (suc first) n x moments (omega arith))

all_rounds : (harts cycle : ℕ) (cycles : List Commits) → AreCycles harts cycles
    → rounds_from harts (moments_of (told_from cycle cycles)) cycle (length cycles) ≡ map (map (number_in Counts)) cycles
all_rounds harts cycle [] are = refl
all_rounds harts cycle (commits ∷ cycles) are =
    let long : length (commits ∷ cycles) ≡ suc (length cycles) = omega arith in
    ap (rounds_from harts (moments_of (told_from cycle (commits ∷ cycles))) cycle) long
    ∙ ap (λ m. rounds_from harts m cycle (suc (length cycles))) (cycle_moments cycle commits (told_from (suc cycle) cycles) (occurs Counts commits) refl)
    ∙ by (all_rounds harts (suc cycle) cycles are.2) (occurs Counts commits) refl
  where
    same : (n : ℕ) → (n == n) ≡ true
    same n = grind arith

    by : rounds_from harts (moments_of (told_from (suc cycle) cycles)) (suc cycle) (length cycles) ≡ map (map (number_in Counts)) cycles → (b : Bool) → occurs Counts commits ≡ b
        → rounds_from harts (if b then (cycle, shown_ranges Counts (map (number_in Counts) commits)) ∷ moments_of (told_from (suc cycle) cycles) else moments_of (told_from (suc cycle) cycles)) cycle (suc (length cycles))
        ≡ map (number_in Counts) commits ∷ map (map (number_in Counts)) cycles
    by later_rounds true e =
        let here_is : ranges_at ((cycle, shown_ranges Counts (map (number_in Counts) commits)) ∷ moments_of (told_from (suc cycle) cycles)) cycle ≡ shown_ranges Counts (map (number_in Counts) commits) = rw (same cycle) refl in
        ap₂ ◌∷◌ (ap (round_of harts) here_is ∙ round_is harts commits are.0)
        (skip harts cycle (suc cycle) (length cycles) (shown_ranges Counts (map (number_in Counts) commits)) (moments_of (told_from (suc cycle) cycles)) (omega arith) ∙ later_rounds)
    by later_rounds false e =
        let none : ranges_at (moments_of (told_from (suc cycle) cycles)) cycle ≡ [] = earlier (suc cycle) cycle cycles (omega arith) in
        let empty : shown_ranges Counts (map (number_in Counts) commits) ≡ [] = none_occurs 0 commits e in
        ap₂ ◌∷◌ (ap (round_of harts) (none ∙ sym empty) ∙ round_is harts commits are.0) later_rounds

pub rounds_are_counts : RoundsAreCounts
rounds_are_counts harts cycles are = all_rounds harts 1 cycles are
