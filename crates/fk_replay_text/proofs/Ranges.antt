-- The ranges of a line, read one by one.
use Rattle.std.proofs.Common.{◌≡◌, ◌≢◌, ℕ, ◌+◌, ◌^◌, ◌<◌, List, [], ◌∷◌, ◌++◌, Option, Some, None, length, refl, sym, ap, ◌∙◌, subst, arith, append-nil, append_assoc}
use Rattle.std.specs.Prelude.{flat_map}
use Rattle.std.proofs.lemmas.Grind.{flat_map-append}
use Rattle.fk_trace.specs.declared.column.Column.{Column}
use Rattle.fk_trace.specs.Text.{Range, range_text}
use Rattle.fk_replay_text.specs.Texts.{Stops, IsWord}
use Rattle.fk_replay_text.specs.Fields.{field_text, SpellsRange}
use Rattle.fk_replay_text.specs.Trace.{AreRanges, ComesAfter, IsRange, Rise}
use Rattle.fk_replay_text.proofs.Cutting.{word_once}
use Rattle.fk_replay_text.proofs.Fields.{field_lacks, field_once, shown, spells_own}

abbrev pub text_of : Column → List Range → List ℕ
text_of column rs = flat_map (range_text column) rs

-- one range and others behind it
text_cons : (column : Column) (harts : ℕ) (r : Range) (rs : List Range) → IsRange column harts r → text_of column (r ∷ rs) ≡ 32 ∷ (field_text column r ++ text_of column rs)
text_cons column harts r rs is = ap (λ l. l ++ text_of column rs) (shown column r is.number)

pub ranges_stop : (column : Column) (harts : ℕ) (before : Option Range) (rs : List Range) → Rise column harts before rs → Stops 32 (text_of column rs)
ranges_stop column harts before [] h = tt
ranges_stop column harts before (r ∷ rs) h = subst (Stops 32) (sym (text_cons column harts r rs h.0)) refl

-- the ranges that a text goes on with
pub record GoesOnWith (column : Column) (harts : ℕ) (rest : List ℕ) (before : Option Range) (acts rs : List Range) : Type 0 where
  pub more : List Range
  pub are : rs ≡ acts ++ more
  pub rise : Rise column harts before more
  pub spells : rest ≡ text_of column more

-- these ranges were read of the text, and all ranges that it spells begin with them
pub record IsReadUpTo (column : Column) (harts : ℕ) (text rest : List ℕ) (acts : List Range) (before : Option Range) : Type 0 where
  pub stops : Stops 32 rest
  pub spells : text ≡ text_of column acts ++ rest
  pub rise : (more : List Range) → Rise column harts before more → Rise column harts None (acts ++ more)
  pub all : (rs : List Range) → Rise column harts None rs → text ≡ text_of column rs → GoesOnWith column harts rest before acts rs

pub begins : (column : Column) (harts : ℕ) (text : List ℕ) → Stops 32 text → IsReadUpTo column harts text text [] None
begins column harts text stops = record {
  stops = stops;
  spells = refl;
  rise = λ more h. h;
  all = λ rs h e. record { more = rs; are = refl; rise = h; spells = e };
}

-- what is behind a blank
record IsNext (column : Column) (harts : ℕ) (before : Option Range) (field others : List ℕ) (more : List Range) : Type 0 where
  first : Range
  later : List Range
  are : more ≡ first ∷ later
  spells : SpellsRange column first field
  is : IsRange column harts first
  comes : ComesAfter before first
  rise : Rise column harts (Some first) later
  rest : others ≡ text_of column later

next_is : (column : Column) (harts : ℕ) (before : Option Range) (rest behind field others : List ℕ) (more : List Range) → harts < 2 ^ 32
    → Rise column harts before more → rest ≡ text_of column more → rest ≡ 32 ∷ behind → IsWord behind field others → IsNext column harts before field others more
next_is column harts before rest behind field others [] few h e b w = absurd (cc)
next_is column harts before rest behind field others (r ∷ more) few h e b w =
    let own = spells_own column harts r few h.0 in
    let text : 32 ∷ behind ≡ 32 ∷ (field_text column r ++ text_of column more) = sym b ∙ e ∙ text_cons column harts r more h.0 in
    let tail : behind ≡ field_text column r ++ text_of column more = cc in
    let low : 32 < 42 = omega arith in
    let once = word_once 32 field others (field_text column r) (text_of column more) w.lacks (field_lacks 32 column r low own) w.ends
    (ranges_stop column harts (Some r) more h.2) (sym w.parts ∙ tail) in
    record {
      first = r;
      later = more;
      are = refl;
      spells = record { first = own.first; last = own.last; number = own.number; own = own.own; spells = once.0 };
      is = h.0;
      comes = h.1;
      rise = h.2;
      rest = once.1;
    }

-- where the next field is no range that may come there, no ranges have this text
pub refuses : (column : Column) (harts : ℕ) (text rest behind field others : List ℕ) (acts : List Range) (before : Option Range) → harts < 2 ^ 32
    → IsReadUpTo column harts text rest acts before → rest ≡ 32 ∷ behind → IsWord behind field others
    → ((r : Range) → SpellsRange column r field → IsRange column harts r → ComesAfter before r → ⊥)
    → (rs : List Range) → AreRanges column harts rs → text ≢ text_of column rs
refuses column harts text rest behind field others acts before few reads b w none rs are e =
    let g = reads.all rs are.1 e in
    let n = next_is column harts before rest behind field others g.more few g.rise g.spells b w in
    none n.first n.spells n.is n.comes

pub other_range : (column : Column) (harts : ℕ) (before : Option Range) (field : List ℕ) (a : Range) → SpellsRange column a field
    → (IsRange column harts a → ComesAfter before a → ⊥) → (r : Range) → SpellsRange column r field → IsRange column harts r → ComesAfter before r → ⊥
other_range column harts before field a spells none r s is comes =
    let same : r ≡ a = field_once column r a field s spells in
    none (subst (IsRange column harts) same is) (subst (ComesAfter before) same comes)

-- one more range
pub reads_on : (column : Column) (harts : ℕ) (text rest behind field others : List ℕ) (acts : List Range) (before : Option Range) (a : Range) → harts < 2 ^ 32
    → IsReadUpTo column harts text rest acts before → rest ≡ 32 ∷ behind → IsWord behind field others → SpellsRange column a field
    → IsRange column harts a → ComesAfter before a → IsReadUpTo column harts text others (acts ++ (a ∷ [])) (Some a)
reads_on column harts text rest behind field others acts before a few reads b w spells is comes = record {
  stops = w.ends;
  spells = text_is;
  rise = λ more h. subst (Rise column harts None) (sym (append_assoc acts (a ∷ []) more)) (reads.rise (a ∷ more) (is, comes, h));
  all = λ rs h e. more_is rs (reads.all rs h e);
}
  where
    here : rest ≡ range_text column a ++ others
    here = b ∙ ap (λ l. 32 ∷ l) (w.parts ∙ ap (λ l. l ++ others) spells.spells) ∙ sym (ap (λ l. l ++ others) (shown column a is.number))

    text_is : text ≡ text_of column (acts ++ (a ∷ [])) ++ others
    text_is =
        reads.spells ∙ ap (λ l. text_of column acts ++ l) here ∙ sym (append_assoc (text_of column acts) (range_text column a) others)
        ∙ ap (λ l. (text_of column acts ++ l) ++ others) (sym (append-nil (range_text column a)))
        ∙ sym (ap (λ l. l ++ others) (flat_map-append (range_text column) acts (a ∷ [])))

    more_is : (rs : List Range) → GoesOnWith column harts rest before acts rs → GoesOnWith column harts others (Some a) (acts ++ (a ∷ [])) rs
    more_is rs g =
        let n = next_is column harts before rest behind field others g.more few g.rise g.spells b w in
        let same : n.first ≡ a = field_once column n.first a field n.spells spells in
        record {
          more = n.later;
          are = g.are ∙ ap (λ l. acts ++ l) (n.are ∙ ap (λ r. r ∷ n.later) same) ∙ sym (append_assoc acts (a ∷ []) n.later);
          rise = subst (λ (r : Range). Rise column harts (Some r) n.later) same n.rise;
          spells = n.rest;
        }

-- ---- the end of the text

at_end : (rest : List ℕ) → Stops 32 rest → ((behind : List ℕ) → rest ≢ 32 ∷ behind) → rest ≡ []
at_end [] stops none = refl
at_end (b ∷ bs) stops none = absurd (none bs (ap (λ x. x ∷ bs) stops))

-- no range was read
pub none_read : (column : Column) (harts : ℕ) (text rest : List ℕ) (acts : List Range) (before : Option Range)
    → IsReadUpTo column harts text rest acts before → ((behind : List ℕ) → rest ≢ 32 ∷ behind) → acts ≡ []
    → (rs : List Range) → AreRanges column harts rs → text ≢ text_of column rs
none_read column harts text rest acts before reads none empty rs are e =
    let g = reads.all rs are.1 e in
    let rs_is : rs ≡ g.more = g.are ∙ ap (λ l. l ++ g.more) empty in
    nothing g.more g.rise (g.spells) (subst (λ (l : List Range). 0 < length l) rs_is are.0)
  where
    nothing : (more : List Range) → Rise column harts before more → rest ≡ text_of column more → 0 < length more → ⊥
    nothing [] h s some = omega arith
    nothing (r ∷ more) h s some = none (field_text column r ++ text_of column more) (s ∙ text_cons column harts r more h.0)

pub all_read : (column : Column) (harts : ℕ) (text rest : List ℕ) (acts : List Range) (before : Option Range)
    → IsReadUpTo column harts text rest acts before → ((behind : List ℕ) → rest ≢ 32 ∷ behind) → 0 < length acts
    → AreRanges column harts acts × (text ≡ text_of column acts)
all_read column harts text rest acts before reads none some =
    let end = at_end rest reads.stops none in
    let rise : Rise column harts None acts = subst (Rise column harts None) (append-nil acts) (reads.rise [] tt) in
    ((some, rise), reads.spells ∙ ap (λ l. text_of column acts ++ l) end ∙ append-nil (text_of column acts))
