-- Code can be made of lists that can have groups.
use Rattle.std.proofs.Common.{◌≡◌, ℕ, ◌≤◌, false, List, length, Some, slice_get, sym, subst, refl}
use Rattle.std.specs.Prelude.{IsSome}
use Rattle.std.proofs.lemmas.Option.{slice_get_within}
use Rattle.fk_meaning_operation.specs.declared.operation.Operation.{Operation}
use Rattle.fk_meaning_operation.specs.declared.operation.Operation.TheVariants as o
use Rattle.fk_core.specs.declared.op.CoreOp.{CoreOp}
use Rattle.fk_core.specs.Next.{is_jump}
use Rattle.fk_core.specs.Numbers.{operation_of}
use Rattle.fk_core.specs.WellFormed.{IsOperation, LeadsOn}
use Rattle.fk_core_typing.specs.LocalDepths.{needs}
use Rattle.fk_gen_group.specs.Blocks.{HasSplitValues}
use Rattle.fk_sim_block.proofs.Standing.{landing_here}
use Rattle.fk_compile.proofs.Rooms.{level_words, shrinks_deep, parts_deep}
use Rattle.fk_compile.specs.ListLaws.{GroupedListsAreGenerable}

-- what is no jump is where an index leads, so it is an operation
are_operations : (core : List CoreOp) → LeadsOn core → (i : ℕ) (op : CoreOp) → slice_get core i ≡ Some op → is_jump op ≡ false
    → IsSome (operation_of op.kind op.number)
are_operations core leads i op e f =
    let at : IsOperation core i = subst (IsOperation core) (landing_here core i op e f) (leads i (slice_get_within core i op e)) in
    let same : at.op ≡ op = let stands = at.stands in cc in
    subst (λ (x : CoreOp). IsSome (operation_of x.kind x.number)) same (subst IsSome (sym at.is_read) refl)

split_values : (operation : Operation) (depth : ℕ) → needs operation ≤ depth → HasSplitValues (Some operation) depth
split_values (o.Split by) depth enough = enough
split_values operation depth enough = tt

pub grouped_lists_are_generable : GroupedListsAreGenerable
grouped_lists_are_generable core kept saved main firsts can blocks leads live least are words first_words =
    let held = can.held kept live least in
    record {
      blocks = blocks;
      operations = are_operations core leads;
      begins = can.steady.within.begins;
      frames = held.frames;
      suits = held.suits;
      keeps = held.keeps;
      of_file = held.of_file;
      levels = level_words core main (length firsts) kept can.steady.within.begins can.steady.within.leads held least saved are (shrinks_deep core main can.nests) (parts_deep core main can.nests)
          (record { there = λ i. record { at = 0; changes = λ r. false }; coming = λ i h. h });
      values = λ i op operation at. split_values operation op.depth (can.enough i op operation at.stands at.is_read);
      words = words;
      first_words = first_words;
    }
