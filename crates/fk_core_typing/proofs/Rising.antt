-- Along well typed code there are as many values as are counted.
use Rattle.std.proofs.Common.{◌≡◌, ℕ, ◌+◌, ◌-◌, Bool, List, [], ◌∷◌, length, drop, replicate, sym, ap, ◌∙◌, arith, length-append}
use Rattle.std.proofs.lemmas.List.{length-drop, length-replicate}
use Rattle.fk_meaning_operation.specs.declared.operation.Operation.{Operation}
use Rattle.fk_meaning_operation.specs.declared.operation.Operation.TheVariants as o
use Rattle.fk_layout_sizes.specs.Operations.{takes}
use Rattle.fk_lockstep_frames.specs.Nests.{Nest}
use Rattle.fk_core_typing.specs.LocalDepths.{leaves, results}
use Rattle.fk_core_liveness.specs.declared.places.FunctionKind.{FunctionKind}
use Rattle.fk_core_liveness.specs.declared.places.FunctionKind.TheVariants.{Called}
use Rattle.fk_core_typing.specs.declared.constants.Constants.{Constants}
use Rattle.fk_core_typing.specs.Values.{Value, Unknown, State, changed, values_behind, behind, behind_call}
use Rattle.fk_core_typing.specs.Heights.{raised, results_of}

pub changed_length : (takes leaves : ℕ) (vs : List Value) → length (changed takes leaves vs) ≡ length vs - takes + leaves
changed_length takes leaves vs =
    let a = length-append (replicate leaves Unknown) (drop takes vs) in
    let b = length-replicate leaves Unknown in
    let c = length-drop takes vs in
    omega arith

values_length : (nests : List Nest) (op : Operation) (onward : Bool) (known : Constants) (vs : List Value)
    → length (values_behind nests op onward known vs) ≡ length vs - takes op + leaves op onward
values_length nests (o.Push n) onward known vs = omega arith
values_length nests (o.Get own) onward known vs = omega arith
values_length nests o.CopyLast onward known [] = changed_length 0 1 []
values_length nests o.CopyLast onward known (v ∷ vs) = omega arith
values_length nests (o.Check shared_alone) onward known [] = changed_length 0 0 []
values_length nests (o.Check shared_alone) onward known (v ∷ vs) = omega arith
values_length nests o.Agree onward known [] = changed_length 0 0 []
values_length nests o.Agree onward known (v ∷ vs) = omega arith
values_length nests (o.Binary sign turned) onward known [] = changed_length 2 1 []
values_length nests (o.Binary sign turned) onward known (b ∷ []) = changed_length 2 1 (b ∷ [])
values_length nests (o.Binary sign turned) onward known (b ∷ a ∷ vs) = omega arith
values_length nests op onward known vs = changed_length (takes op) (leaves op onward) vs

pub rises : (op : Operation) (onward : Bool) (s : State) → length (behind op onward s).values ≡ raised (length s.values) op onward
rises op onward s = values_length s.place.nests op onward s.constants s.values

module _ (place_of : ℕ → FunctionKind) where
  pub called_rises : (op : Operation) (f : ℕ) (gives : Bool) (s : State) → place_of f ≡ Called gives
      → length s.values - takes op + results_of (place_of f) ≡ length (behind_call (takes op) gives s).values
  called_rises op f gives s e =
      ap (λ p. length s.values - takes op + results_of p) e ∙ sym (changed_length (takes op) (results gives) s.values)
