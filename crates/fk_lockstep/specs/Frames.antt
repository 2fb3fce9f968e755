-- What calls must do, and what a group may take of its space. A function takes its frame and leaves
-- it in one group, in which it was called. Parts and bodies are left in the call in which they were
-- entered.
use Rattle.std.specs.Prelude.{◌≡◌, ℕ, zero, suc, ◌<◌, ◌≤◌, Bool, true, false, List, [], ◌∷◌, Option}
use Rattle.std.specs.Prelude.{Some, None}
use Rattle.fk_meaning_operation.specs.declared.operation.Operation.{Operation}
use Rattle.fk_meaning_operation.specs.declared.operation.Operation.TheVariants as o
use Rattle.fk_meaning_operation.specs.declared.operation.SplitKind.TheVariants.{IfElse}
use Rattle.fk_meaning.specs.Round.{Step}

-- the effect of an operation on calls
pub data Calling : Type 0 where
  Enters : Calling
  Leaves : Calling
  Remains : Calling

abbrev pub calling : Operation → Calling
calling (o.Enter arguments) = Enters
calling (o.Leave gives framed) = Leaves
calling op = Remains

-- an operation that takes words of a group's space, or gives them back
abbrev pub takes_space : Operation → Bool
takes_space (o.Frame nesting words) = true
takes_space o.Block = true
takes_space (o.Leave gives framed) = framed
takes_space op = false

-- an operation that takes the frame of a function
abbrev pub is_own_frame : Operation → Bool
is_own_frame (o.Frame zero words) = true
is_own_frame op = false

abbrev pub is_start : Operation → Bool
is_start o.Begin = true
is_start op = false

abbrev pub is_split : Operation → Bool
is_split (o.Split by) = true
is_split op = false

abbrev pub one_less : ℕ → ℕ
one_less zero = zero
one_less (suc n) = n

abbrev pub is_none_round : ℕ → Bool
is_none_round zero = true
is_none_round (suc n) = false

-- the number of groups around a processor's own after an operation
abbrev pub round_after : Operation → (onward : Bool) → ℕ → ℕ
round_after o.Begin true n = suc n
round_after o.Begin false n = n
round_after (o.Split IfElse) onward n = suc n
round_after (o.Split by) true n = suc n
round_after (o.Split by) false n = n
round_after o.Shrink true n = n
round_after o.Shrink false n = one_less n
round_after o.End onward n = one_less n
round_after op onward n = n

-- whether a processor runs by itself after an operation
abbrev pub alone_after : Operation → (round : ℕ) → (alone : Bool) → Bool
alone_after o.Farm n alone = true
alone_after o.Seq n alone = true
alone_after (o.Meet true) n alone = false
alone_after o.Begin n alone = false
alone_after o.Resume n alone = is_none_round n
alone_after op n alone = alone

-- `outs` lists the remaining work at each point where a processor meets those of outer nodes, and
-- `depth` is the number of calls that wait in a piece of work
module _ {W : Type 0} (next : W → Option (Step W)) (outs : W → List W) (depth : W → ℕ) where
  abbrev pub NoDeeper : ℕ → List W → Type 0
  NoDeeper d [] = Unit {0}
  NoDeeper d (met ∷ behind) = depth met ≤ d

  abbrev pub Higher : ℕ → List W → Type 0
  Higher d [] = Unit {0}
  Higher d (met ∷ behind) = depth met < d

  abbrev pub AsDeep : ℕ → List W → Type 0
  AsDeep d [] = Unit {0}
  AsDeep d (met ∷ behind) = depth met ≡ d

  -- a call is left only in the part and body in which it was entered
  abbrev pub Calls : Calling → (here : W) → (rest : Bool → W) → Type 0
  Calls Enters here rest = depth (rest true) ≡ suc (depth here)
  Calls Leaves here rest = (depth here ≡ suc (depth (rest true)))
      × NoDeeper (depth (rest true)) (outs here)
  Calls Remains here rest = (onward : Bool) → depth (rest onward) ≡ depth here

  module _ (Framed : (round : ℕ) → (alone : Bool) → W → Type 0) where
    -- a processor by itself takes no words of its group's space. A function takes its frame in the
    -- part in which it was called. A `start` occurs in `main`, and other processors wait for a part
    -- in the call in which it was entered
    pub record FramesGoOn (round : ℕ) (alone : Bool) (op : Operation) (here : W)
        (rest : Bool → W) : Type 0 where
      pub calls : Calls (calling op) here rest
      pub in_group : takes_space op ≡ true → alone ≡ false
      pub own : is_own_frame op ≡ true → Higher (depth here) (outs here)
      pub outermost : is_start op ≡ true → depth here ≡ 0
      pub met : is_split op ≡ true → AsDeep (depth here) (outs (rest true))
      pub goes_on : (onward : Bool)
          → Framed (round_after op onward round) (alone_after op round alone) (rest onward)

    abbrev pub FramedNext : (round : ℕ) → (alone : Bool) → (here : W) → Option (Step W) → Type 0
    FramedNext round alone here None = Unit {0}
    FramedNext round alone here (Some step) = FramesGoOn round alone step.operation here step.rest

  -- for this many operations, whichever branches are taken. `round` groups are around the
  -- processor's own, and `alone` tells whether it runs by itself
  abbrev pub FramedFor : (operations : ℕ) → (round : ℕ) → (alone : Bool) → W → Type 0
  FramedFor zero round alone here = Unit {0}
  FramedFor (suc n) round alone here = FramedNext (FramedFor n) round alone here (next here)

  abbrev pub IsFramed : (round : ℕ) → (alone : Bool) → W → Type 0
  IsFramed round alone here = (operations : ℕ) → FramedFor operations round alone here
