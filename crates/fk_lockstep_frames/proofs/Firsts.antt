-- The frame of a part is the first in the group of that part.
use Rattle.std.proofs.Common.{◌≡◌, ℕ, zero, suc, ◌+◌, ◌-◌, ◌*◌, ◌^◌, ◌<◌, ◌≤◌, ◌==◌, Bool, true, false, true≢false, List, [], ◌∷◌, Option, Some, None, refl, sym, ap, ◌∙◌, subst, arith, drop, if◌then◌else◌}
use Rattle.std.specs.Prelude.{map}
use Rattle.std.proofs.lemmas.Bool.{eqb-true}
use Rattle.std.proofs.Math.Dec.{eqb-suc-zero}
use Rattle.fk_num.specs.Word.{Memory}
use Rattle.fk_space.specs.Space.{Space, IsSpace}
use Rattle.fk_meaning.specs.Processor.{Call, Level, Processor}
use Rattle.fk_lockstep_frames.specs.Nests.{Nest, OfFunction, OfPart, nesting, frame_at, frame_has, has_word, taken, outward}
use Rattle.fk_lockstep_frames.specs.Taken.{HasTaken, AreTaken, Begins, AreBegun, HasNests, IsFirstFrame}
use Rattle.fk_lockstep_frames.proofs.Lies.{pick}

none_some : (words : ℕ) → None ≡ Some words → ⊥
none_some words e = absurd (cc)

-- the first frame in a group, so many levels outward
record IsFirst (out number : ℕ) (first : Memory) (levels : List Level) : Type 0 where
  pub level : Level
  pub around : Level
  pub further : List Level
  pub there : drop out levels ≡ level ∷ around ∷ further
  pub begins : first number ≡ level.space.low + 8
  pub within : level.space.low + 8 ≤ 2 ^ 20

begins_there : (frame : Option ℕ) (words first word : ℕ) → frame ≡ Some words → Begins frame first word → first ≡ word
begins_there None words first word e begins = absurd (none_some words e)
begins_there (Some n) words first word e begins = begins

no_call : (nests : List Nest) (first : Memory) (calls : List Memory) → nests ≡ [] → AreBegun nests (first ∷ calls) [] → ⊥
no_call [] first calls e begun = begun
no_call (n ∷ nests) first calls e begun = absurd (cc)

header_within : (words : ℕ) (s : Space) → HasTaken words s → s.low + 8 ≤ 2 ^ 20
header_within words s has =
    let is = has.space in
    let header = is.header in
    let ordered = is.ordered in
    let within = is.within in
    let shared = is.shared in
    omega (arith, header, ordered, within, shared)

first_frame : (nests : List Nest) (first : Memory) (calls : List Memory) (l : Level) (outer : List Level) (part words : ℕ) → HasTaken (taken nests) l.space
    → AreTaken (outward nests) (map (λ (l : Level). l.space) outer) → AreBegun nests (first ∷ calls) (l.space.low ∷ map (λ (l : Level). l.space.low) outer)
    → frame_at nests (suc part) ≡ Some words → (suc part ≤ nesting nests) × IsFirst (nesting nests - suc part) (suc part) first (l ∷ outer)
first_frame [] first calls l outer part words has around begun e = absurd (none_some words e)
first_frame (OfFunction f ∷ nests) first calls l outer part words has around begun e =
    absurd (none_some words (sym (ap (λ b. if b then f else None) (eqb-suc-zero part)) ∙ e))
first_frame (OfPart b f ∷ nests) first calls l [] part words has around begun e = absurd (no_call nests first calls around begun.1)
first_frame (OfPart b f ∷ nests) first calls l (o ∷ outer) part words has around begun e =
    pick f (frame_at nests (suc part)) (suc part) (suc (nesting nests)) words (suc part == suc (nesting nests)) refl e
    (λ here is.
    let none : 0 ≡ suc (nesting nests) - suc part = omega (arith, here) in (
      omega (arith, here),
      subst (λ k. IsFirst k (suc part) first (l ∷ o ∷ outer)) none
          (record {
            level = l;
            around = o;
            further = outer;
            there = refl;
            begins = ap first here ∙ begins_there f words (first (suc (nesting nests))) (l.space.low + 8) is begun.0;
            within = header_within (taken (OfPart b f ∷ nests)) l.space has;
          }),
    ))
    (λ is.
    let inner = first_frame nests first calls o outer part words around.0 around.1 begun.1 is in
    let low : suc part ≤ nesting nests = inner.0 in
    let more : suc (nesting nests - suc part) ≡ suc (nesting nests) - suc part = omega (arith, low) in
    let x = inner.1 in (
      omega (arith, low),
      subst (λ k. IsFirst k (suc part) first (l ∷ o ∷ outer)) more
          (record { level = x.level; around = x.around; further = x.further; there = x.there; begins = x.begins; within = x.within }),
    ))

pub part_begins : (nests : List Nest) (p : Processor) → HasNests nests p → (part word : ℕ) → has_word nests (suc part) word ≡ true
    → (suc part ≤ nesting nests) × IsFirstFrame (nesting nests - suc part) (suc part) p
part_begins nests p h part word has = by (frame_at nests (suc part)) refl has
  where
    by : (frame : Option ℕ) → frame_at nests (suc part) ≡ frame → frame_has frame word ≡ true → (suc part ≤ nesting nests) × IsFirstFrame (nesting nests - suc part) (suc part) p
    by None e is = absurd (true≢false (sym is))
    by (Some words) e is =
        let s = h.spaces in
        let x = first_frame nests p.call.frames (map (λ (c : Call). c.frames) p.callers) p.level p.outer part words s.0 s.1 h.frames e in
        let y = x.1 in
        (x.0, record { level = y.level; around = y.around; further = y.further; there = y.there; first = y.begins; within = y.within })
