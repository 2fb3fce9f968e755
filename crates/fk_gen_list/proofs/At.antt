-- How many cycles the operation at an index takes.
use Rattle.std.proofs.Common.{◌≡◌, ℕ, List, Bool, ap, ◌∙◌}
use Rattle.std.specs.Prelude.{slice_get}
use Rattle.std.specs.Option.{option_map_or}
use Rattle.fk_meaning_operation.specs.declared.operation.Operation.{Operation}
use Rattle.fk_core.specs.declared.op.CoreOp.{CoreOp}
use Rattle.fk_sim_block.specs.Next.{OpAt}
use Rattle.fk_core_liveness.specs.declared.set.Set.{Set}
use Rattle.fk_gen.specs.declared.placed.Levels.{Levels}
use Rattle.fk_gen_list.specs.Layout.{placed}
use Rattle.fk_gen_list.specs.Cycles.{before_of, behind_of, before_at, behind_at}

module _ (core : List CoreOp) (globals : ℕ) (kept : List Set) (saved : List Levels) (i : ℕ) (op : CoreOp) (operation : Operation) (stands : OpAt core i op operation) where
  pub before_is : before_at (slice_get core i) ≡ before_of op operation
  before_is = ap before_at stands.stands ∙ ap (λ o. option_map_or (before_of op) o 0) stands.is_read

  abbrev pub behind_here : Bool → ℕ
  behind_here onward = behind_of (placed core globals kept saved i op) operation onward

  abbrev pub behind_there : Bool → ℕ
  behind_there onward = behind_at core globals kept saved i (slice_get core i) onward

  -- on either way
  pub behind_is : behind_there ≡ behind_here
  behind_is =
      ap (λ o. λ onward. behind_at core globals kept saved i o onward) stands.stands
      ∙ ap (λ o. λ onward. option_map_or (λ x. behind_of (placed core globals kept saved i op) x onward) o 0) stands.is_read
