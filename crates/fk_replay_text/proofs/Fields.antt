-- What the fields of a line spell.
use Rattle.std.proofs.Common.{◌≡◌, ◌≢◌, ℕ, ◌^◌, ◌<◌, ◌≤◌, true, false, List, [], ◌∷◌, ◌++◌, refl, sym, ap, ◌∙◌, arith, append_assoc, append-nil, eq-eqb}
use Rattle.std.specs.Prelude.{◌==◌, codes, decimal}
use Rattle.std.proofs.lemmas.Bool.{ne_eqb}
use Rattle.std.proofs.lemmas.Fmt.{decimal_injective}
use Rattle.fk_image.specs.Events.{event_number}
use Rattle.fk_image.specs.declared.event.Event.{Event}
use Rattle.fk_image.specs.declared.event.Event.TheVariants.{Split, Shrink, End, Resume, Meet, Agree}
use Rattle.fk_trace.specs.declared.column.Column.{Column}
use Rattle.fk_trace.specs.declared.column.Column.TheVariants.{Counts, Of}
use Rattle.fk_trace.specs.Text.{Range, range_text}
use Rattle.fk_replay_text.specs.Texts.{Lacks, IsCut}
use Rattle.fk_replay_text.specs.Fields.{field_text, HasOwnNumber, SpellsRange}
use Rattle.fk_replay_text.specs.Trace.{HasNumber, IsRange}
use Rattle.fk_replay_text.proofs.Cutting.{cut_once, lacks_append, lacks_no_cut}
use Rattle.fk_replay_text.proofs.Decimals.{decimal_lacks}

pub event_small : (event : Event) → (0 < event_number event) × (event_number event ≤ 6)
event_small Split = (omega arith, omega arith)
event_small Shrink = (omega arith, omega arith)
event_small End = (omega arith, omega arith)
event_small Resume = (omega arith, omega arith)
event_small Meet = (omega arith, omega arith)
event_small Agree = (omega arith, omega arith)

number_small : (column : Column) (n : ℕ) → HasNumber column n → n < 2 ^ 32
number_small Counts n h = let le = h.1 in omega arith
number_small (Of event) n h = let small = event_small event in omega arith

own_number : (column : Column) (n : ℕ) → HasNumber column n → HasOwnNumber column n
own_number Counts n h = tt
own_number (Of event) n h = h

pub spells_own : (column : Column) (harts : ℕ) (r : Range) → harts < 2 ^ 32 → IsRange column harts r → SpellsRange column r (field_text column r)
spells_own column harts r few is =
    let below = is.below in
    let ordered = is.ordered in
    record {
      first = omega arith;
      last = omega arith;
      number = number_small column r.number is.number;
      own = own_number column r.number is.number;
      spells = refl;
    }

counts_text : (a b n : ℕ) → codes " " ++ decimal a ++ codes "-" ++ decimal b ++ (codes "*" ++ decimal n) ≡ 32 ∷ (decimal a ++ (45 ∷ (decimal b ++ (42 ∷ decimal n))))
counts_text a b n = simp append_assoc

marks_text : (a b : ℕ) → codes " " ++ decimal a ++ codes "-" ++ decimal b ++ [] ≡ 32 ∷ (decimal a ++ (45 ∷ decimal b))
marks_text a b = append-nil (codes " " ++ decimal a ++ codes "-" ++ decimal b) ∙ simp append_assoc

-- a range of a line is written behind a blank
pub shown : (column : Column) (r : Range) → HasNumber column r.number → range_text column r ≡ 32 ∷ field_text column r
shown Counts r h =
    let some = h.0 in
    let other : (r.number == 0) ≡ false = ne_eqb r.number 0 (λ e. omega (arith, e)) in
    rw other (counts_text r.first r.last r.number)
shown (Of event) r h =
    let same : (r.number == event_number event) ≡ true = eq-eqb r.number (event_number event) h in
    rw same (marks_text r.first r.last)

-- fields have digits and two signs
pub field_lacks : (byte : ℕ) (column : Column) (r : Range) → byte < 42 → SpellsRange column r (field_text column r) → Lacks byte (field_text column r)
field_lacks byte Counts r low s =
    let digit : byte < 48 = omega arith in
    let dash : 45 ≢ byte = omega arith in
    let star : 42 ≢ byte = omega arith in
    lacks_append byte (decimal r.first) _ (decimal_lacks byte r.first digit s.first)
    (dash, lacks_append byte (decimal r.last) _ (decimal_lacks byte r.last digit s.last) (star, decimal_lacks byte r.number digit s.number))
field_lacks byte (Of event) r low s =
    let digit : byte < 48 = omega arith in
    let dash : 45 ≢ byte = omega arith in
    lacks_append byte (decimal r.first) _ (decimal_lacks byte r.first digit s.first) (dash, decimal_lacks byte r.last digit s.last)

lacks_dash : (n : ℕ) → n < 2 ^ 32 → Lacks 45 (decimal n)
lacks_dash n h = decimal_lacks 45 n (omega arith) h

lacks_star : (n : ℕ) → n < 2 ^ 32 → Lacks 42 (decimal n)
lacks_star n h = decimal_lacks 42 n (omega arith) h

-- ---- the parts of a field

abbrev behind_dash : Column → Range → List ℕ
behind_dash Counts r = decimal r.last ++ (42 ∷ decimal r.number)
behind_dash (Of event) r = decimal r.last

field_is : (column : Column) (r : Range) → field_text column r ≡ decimal r.first ++ (45 ∷ behind_dash column r)
field_is Counts r = refl
field_is (Of event) r = refl

pub no_dash : (column : Column) (r : Range) (field : List ℕ) → Lacks 45 field → SpellsRange column r field → ⊥
no_dash column r field lacks s = lacks_no_cut 45 field (decimal r.first) (behind_dash column r) lacks (s.spells ∙ field_is column r)

at_dash : (column : Column) (r : Range) (field before behind : List ℕ) → IsCut 45 field before behind → SpellsRange column r field → (before ≡ decimal r.first) × (behind ≡ behind_dash column r)
at_dash column r field before behind is s =
    cut_once 45 before behind (decimal r.first) (behind_dash column r) is.lacks (lacks_dash r.first s.first) (sym is.parts ∙ s.spells ∙ field_is column r)

pub first_part : (column : Column) (r : Range) (field before behind : List ℕ) → IsCut 45 field before behind → SpellsRange column r field → before ≡ decimal r.first
first_part column r field before behind is s = (at_dash column r field before behind is s).0

pub last_mark : (event : Event) (r : Range) (field before behind : List ℕ) → IsCut 45 field before behind → SpellsRange (Of event) r field → behind ≡ decimal r.last
last_mark event r field before behind is s = (at_dash (Of event) r field before behind is s).1

pub no_star : (r : Range) (field before behind : List ℕ) → IsCut 45 field before behind → Lacks 42 behind → SpellsRange Counts r field → ⊥
no_star r field before behind is lacks s =
    lacks_no_cut 42 behind (decimal r.last) (decimal r.number) lacks (at_dash Counts r field before behind is s).1

pub at_star : (r : Range) (field before behind last number : List ℕ) → IsCut 45 field before behind → IsCut 42 behind last number → SpellsRange Counts r field
    → (last ≡ decimal r.last) × (number ≡ decimal r.number)
at_star r field before behind last number is star s =
    cut_once 42 last number (decimal r.last) (decimal r.number) star.lacks (lacks_star r.last s.last) (sym star.parts ∙ (at_dash Counts r field before behind is s).1)

pub spells_counts : (field before behind last number : List ℕ) (a b c : ℕ) → IsCut 45 field before behind → IsCut 42 behind last number
    → before ≡ decimal a → last ≡ decimal b → number ≡ decimal c → field ≡ decimal a ++ (45 ∷ (decimal b ++ (42 ∷ decimal c)))
spells_counts field before behind last number a b c is star e f g =
    is.parts ∙ ap (λ l. before ++ (45 ∷ l)) star.parts ∙ rw (e, f, g) refl

pub spells_marks : (field before behind : List ℕ) (a b : ℕ) → IsCut 45 field before behind → before ≡ decimal a → behind ≡ decimal b → field ≡ decimal a ++ (45 ∷ decimal b)
spells_marks field before behind a b is e f = is.parts ∙ rw (e, f) refl

-- ---- a field spells one range

same_number : (m n : ℕ) → m < 2 ^ 32 → n < 2 ^ 32 → decimal m ≡ decimal n → m ≡ n
same_number m n h k e = decimal_injective m n (omega arith) (omega arith) e

same_range : (r s : Range) → r.first ≡ s.first → r.last ≡ s.last → r.number ≡ s.number → r ≡ s
same_range r s e f g =
    let first : ℕ → Range = λ x. record { first = x; last = r.last; number = r.number } in
    let last : ℕ → Range = λ x. record { first = s.first; last = x; number = r.number } in
    let number : ℕ → Range = λ x. record { first = s.first; last = s.last; number = x } in
    ap first e ∙ ap last f ∙ ap number g

cut_here : (column : Column) (r : Range) (field : List ℕ) → SpellsRange column r field → IsCut 45 field (decimal r.first) (behind_dash column r)
cut_here column r field s = record { parts = s.spells ∙ field_is column r; lacks = lacks_dash r.first s.first }

pub field_once : (column : Column) (r s : Range) (field : List ℕ) → SpellsRange column r field → SpellsRange column s field → r ≡ s
field_once Counts r s field a b =
    let at = cut_here Counts r field a in
    let first = first_part Counts s field _ _ at b in
    let star : IsCut 42 (behind_dash Counts r) (decimal r.last) (decimal r.number) = record { parts = refl; lacks = lacks_star r.last a.last } in
    let parts = at_star s field _ _ _ _ at star b in
    same_range r s (same_number r.first s.first a.first b.first first) (same_number r.last s.last a.last b.last parts.0)
    (same_number r.number s.number a.number b.number parts.1)
field_once (Of event) r s field a b =
    let at = cut_here (Of event) r field a in
    let first = first_part (Of event) s field _ _ at b in
    let last = last_mark event s field _ _ at b in
    same_range r s (same_number r.first s.first a.first b.first first) (same_number r.last s.last a.last b.last last) (a.own ∙ sym b.own)
