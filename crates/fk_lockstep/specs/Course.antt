-- How a processor goes through groups and bodies, as determined by its work alone.
use Rattle.std.specs.Prelude.{◌≡◌, ℕ, zero, suc, Bool, true, false, List, [], ◌∷◌, Option, Some}
use Rattle.std.specs.Prelude.{None}
use Rattle.fk_meaning_operation.specs.declared.operation.Operation.{Operation}
use Rattle.fk_meaning_operation.specs.declared.operation.Operation.TheVariants as o
use Rattle.fk_meaning_operation.specs.declared.operation.SplitKind.{SplitKind}
use Rattle.fk_meaning_operation.specs.declared.operation.SplitKind.TheVariants.{IfElse}
use Rattle.fk_meaning.specs.Round.{Step}

-- the context of a processor: in a group in lockstep, directly after an agree or not; waiting for
-- parts, within a `start` or for one; or by itself, in a body or outside of each `start`
pub data Context : Type 0 where
  InGroup : (agreed : Bool) → Context
  Waits : (within : Bool) → Context
  ByItself : (within : Bool) → Context

-- after waiting, a processor goes on in its group, or by itself
abbrev pub after_waiting : (within : Bool) → Context
after_waiting true = InGroup false
after_waiting false = ByItself false

-- `outs` lists the remaining work at each point where a processor meets those of outer nodes: after
-- each part and at the end of each body that it is in, and at each `start` ahead of it
module _ {W : Type 0} (next : W → Option (Step W)) (outs : W → List W) where
  module _ (Follows : Context → W → Type 0) where
    -- the processor goes on where it is
    abbrev pub Stays : Context → (here : W) → (rest : Bool → W) → Type 0
    Stays context here rest = (onward : Bool)
        → (outs (rest onward) ≡ outs here) × Follows context (rest onward)

    -- after the parts of a split comes the point where the other members wait
    abbrev pub Parts : SplitKind → (here : W) → (rest : Bool → W) → (outs_of_part : List W) → Type 0
    Parts by here rest [] = ⊥
    Parts IfElse here rest (parent ∷ behind) =
        (behind ≡ outs here) × (outs parent ≡ outs here) × Follows (Waits true) parent
        × Follows (InGroup false) (rest true) × Follows (InGroup false) (rest false)
        × (outs (rest false) ≡ parent ∷ behind)
    Parts by here rest (parent ∷ behind) =
        (behind ≡ outs here) × (outs parent ≡ outs here) × Follows (Waits true) parent
        × Follows (InGroup false) (rest true) × (rest false ≡ parent)

    -- which operations a processor may do where it is, and how it goes on
    abbrev pub Does : Context → Operation → (here : W) → (rest : Bool → W) → Type 0
    Does (InGroup agreed) (o.Branch onward) here rest = (agreed ≡ true)
        × Stays (InGroup false) here rest
    Does (InGroup agreed) o.Block here rest = (agreed ≡ true) × Stays (InGroup false) here rest
    Does (InGroup agreed) o.Agree here rest = Stays (InGroup true) here rest
    Does (InGroup agreed) (o.Split by) here rest = Parts by here rest (outs (rest true))
    Does (InGroup agreed) o.Shrink here rest =
        (outs (rest true) ≡ outs here) × Follows (InGroup false) (rest true)
        × (outs here ≡ rest false ∷ outs (rest false))
    Does (InGroup agreed) o.End here rest = outs here ≡ rest true ∷ outs (rest true)
    Does (InGroup agreed) o.Farm here rest =
        (outs (rest true) ≡ rest false ∷ outs here) × (outs (rest false) ≡ rest false ∷ outs here)
        × Follows (ByItself true) (rest true) × Follows (ByItself true) (rest false)
    Does (InGroup agreed) o.Seq here rest =
        (outs (rest true) ≡ rest false ∷ outs here) × (outs (rest false) ≡ rest false ∷ outs here)
        × Follows (ByItself true) (rest true) × Follows (ByItself true) (rest false)
    Does (InGroup agreed) o.Begin here rest = ⊥
    Does (InGroup agreed) o.Resume here rest = ⊥
    Does (InGroup agreed) (o.Meet true) here rest = ⊥
    Does (InGroup agreed) o.Halt here rest = ⊥
    Does (InGroup agreed) operation here rest = Stays (InGroup false) here rest
    Does (Waits within) o.Resume here rest = (outs (rest true) ≡ outs here)
        × Follows (after_waiting within) (rest true)
    Does (Waits within) operation here rest = ⊥
    Does (ByItself within) (o.Split by) here rest = ⊥
    Does (ByItself within) o.Shrink here rest = ⊥
    Does (ByItself within) o.End here rest = ⊥
    Does (ByItself within) o.Farm here rest = ⊥
    Does (ByItself within) o.Seq here rest = ⊥
    Does (ByItself within) o.Resume here rest = ⊥
    Does (ByItself true) o.Begin here rest = ⊥
    Does (ByItself false) o.Begin here rest =
        (outs here ≡ here ∷ outs (rest false)) × Follows (Waits false) (rest false)
        × (outs (rest true) ≡ rest false ∷ outs (rest false)) × Follows (InGroup false) (rest true)
    Does (ByItself true) (o.Meet true) here rest =
        (outs here ≡ here ∷ outs (rest true)) × Follows (InGroup false) (rest true)
    Does (ByItself false) (o.Meet true) here rest = ⊥
    Does (ByItself true) o.Halt here rest = ⊥
    Does (ByItself false) o.Halt here rest = (onward : Bool) → next (rest onward) ≡ None
    Does (ByItself within) operation here rest = Stays (ByItself within) here rest

    abbrev pub DoesNext : Context → (here : W) → Option (Step W) → Type 0
    DoesNext context here None = Unit {0}
    DoesNext context here (Some step) = Does context step.operation here step.rest

  -- for this many operations, whichever branches are taken
  abbrev pub FollowsFor : (operations : ℕ) → Context → W → Type 0
  FollowsFor zero context here = Unit {0}
  FollowsFor (suc n) context here = DoesNext (FollowsFor n) context here (next here)

  abbrev pub Follows : Context → W → Type 0
  Follows context here = (operations : ℕ) → FollowsFor operations context here
