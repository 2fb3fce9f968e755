-- The numbers of parts that `fork` takes, on which its group has agreed.
use Rattle.std.specs.Prelude.{◌≡◌, ℕ, zero, suc, ◌≤◌, nat_lt, Bool, true, List, [], ◌∷◌, length}
use Rattle.std.specs.Prelude.{Option, Some, None, is_some}
use Rattle.fk_meaning_operation.specs.Kinds.{class_of}
use Rattle.fk_meaning_operation.specs.declared.operation.Operation.{Operation}
use Rattle.fk_meaning_operation.specs.declared.operation.Operation.TheVariants as o
use Rattle.fk_meaning_operation.specs.declared.operation.SplitKind.{SplitKind}
use Rattle.fk_meaning_operation.specs.declared.operation.SplitKind.TheVariants.{IfElse, Fork}
use Rattle.fk_meaning_operation.specs.declared.kinds.Class.{Class}
use Rattle.fk_meaning_operation.specs.declared.kinds.Class.TheVariants.{Local, Request, Tree}
use Rattle.fk_meaning.specs.Processor.{Processor, Setting, values, last, before, in_place}
use Rattle.fk_meaning.specs.Local.{local}
use Rattle.fk_meaning.specs.Request.{with_answer}
use Rattle.fk_meaning.specs.Group.{enters, divided, does, goes_onward}
use Rattle.fk_meaning.specs.Round.{Step}
use Rattle.fk_meaning.specs.Behind.{grown}

-- the numbers of parts on which a processor's group has agreed and which no `fork` has taken yet,
-- the last one first. `are_pending` tells whether a list can be these numbers, by the work and the
-- state of the processor. `pending` is their count, which the work alone determines
pub record Counts (W : Type 0) : Type 0 where
  pub pending : W → ℕ
  pub are_pending : W → Processor → (numbers : List ℕ) → Bool
  pub many : (work : W) (p : Processor) (numbers : List ℕ) → are_pending work p numbers ≡ true
      → length numbers ≡ pending work

module _ {W : Type 0} (next : W → Option (Step W)) (outs : W → List W) (counts : Counts W) where
  abbrev pub ArePending : W → Processor → (numbers : List ℕ) → Type 0
  ArePending work p numbers = counts.are_pending work p numbers ≡ true

  -- at the point that is met first after a part or a body there are as many, or no more
  abbrev pub AsMany : ℕ → List W → Type 0
  AsMany n [] = Unit {0}
  AsMany n (met ∷ behind) = counts.pending met ≡ n

  abbrev pub NoMore : ℕ → List W → Type 0
  NoMore n [] = Unit {0}
  NoMore n (met ∷ behind) = counts.pending met ≤ n

  -- an operation leaves the pending numbers as they are
  abbrev pub Leaves : Class → Operation → (here : W) → (rest : Bool → W) → Type 0
  Leaves Local op here rest =
      (set : Setting) (onward : Bool) (p : Processor) (ns : List ℕ) → ArePending here p ns
      → ArePending (rest onward) (local set op p) ns
  Leaves Request op here rest =
      (answer : ℕ) (p : Processor) (ns : List ℕ) → ArePending here p ns
      → ArePending (rest true) (with_answer op answer p) ns
  Leaves Tree op here rest =
      (highest lowest size : ℕ) (p : Processor) (ns : List ℕ) → ArePending here p ns
      → ArePending (rest (goes_onward op highest lowest p)) (does op highest size p) ns

  abbrev pub LeavesAtSplit : SplitKind → (here : W) → (rest : Bool → W) → Type 0
  LeavesAtSplit by here rest =
      (size : ℕ) (part : Option ℕ) (p : Processor) (ns : List ℕ) → ArePending here p ns
      → ArePending (rest (enters by part)) (divided by size p part) ns

  -- a `fork` takes the last number, which is the value that it splits by, and leaves the others
  abbrev pub IsTaken : (p after : Processor) (behind : W) (numbers : List ℕ) → Type 0
  IsTaken p after behind ns = (others : List ℕ) × (ns ≡ last (before 2 (values p)) ∷ others)
      × ArePending behind after others

  -- an agree may add the value that all members then have. A `fork` takes the last number, which is
  -- the value that it splits by, and on which the group agreed in the present part. At a `start`
  -- there are none. Every other operation leaves the numbers as they are
  abbrev pub CountsGoOn : Operation → (here : W) → (rest : Bool → W) → Type 0
  CountsGoOn o.Agree here rest =
      (value : ℕ) (p : Processor) (ns : List ℕ) → ArePending here p ns
      → ArePending (rest true) (in_place value p)
      (grown (nat_lt (counts.pending here) (counts.pending (rest true))) value ns)
  CountsGoOn (o.Split Fork) here rest =
      ((size : ℕ) (part : Option ℕ) (p : Processor) (ns : List ℕ) → ArePending here p ns
      → IsTaken p (divided Fork size p part) (rest (is_some part)) ns)
      × NoMore (counts.pending (rest true)) (outs here)
  CountsGoOn (o.Split IfElse) here rest = LeavesAtSplit IfElse here rest
      × AsMany (counts.pending here) (outs (rest true))
  CountsGoOn (o.Split by) here rest = LeavesAtSplit by here rest × Unit {0}
  CountsGoOn o.Farm here rest = Leaves Tree o.Farm here rest
      × AsMany (counts.pending here) (outs (rest true))
  CountsGoOn o.Begin here rest = Leaves Tree o.Begin here rest × (counts.pending here ≡ 0)
  CountsGoOn op here rest = Leaves (class_of op) op here rest

  abbrev pub CountedNext : (IsCounted : W → Type 0) → (here : W) → Option (Step W) → Type 0
  CountedNext IsCounted here None = Unit {0}
  CountedNext IsCounted here (Some step) =
      CountsGoOn step.operation here step.rest × ((onward : Bool) → IsCounted (step.rest onward))

  -- for this many operations, whichever branches are taken
  abbrev pub CountedFor : (operations : ℕ) → W → Type 0
  CountedFor zero here = Unit {0}
  CountedFor (suc n) here = CountedNext (CountedFor n) here (next here)

  abbrev pub IsCounted : W → Type 0
  IsCounted here = (operations : ℕ) → CountedFor operations here
