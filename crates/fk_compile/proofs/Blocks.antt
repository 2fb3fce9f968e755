-- Operations have blocks, with their targets in the list, and find their values.
use Rattle.std.proofs.Common.{◌≡◌, ℕ, suc, ◌<◌, ◌≤◌, List, [], length, true, false, arith, refl, inl, inr}
use Rattle.std.proofs.lemmas.Option.{slice_get_within}
use Rattle.std.proofs.lemmas.List.Elements.{All-head}
use Rattle.fk_meaning_operation.specs.declared.operation.Multiprefix.{Multiprefix}
use Rattle.fk_meaning_operation.specs.declared.operation.Multiprefix.TheVariants.{MpAdd, MpMax, MpAnd, MpOr}
use Rattle.fk_meaning_operation.specs.declared.operation.Operation.{Operation}
use Rattle.fk_meaning_operation.specs.declared.operation.Operation.TheVariants.{Branch, Enter, Combine, Begin, Agree, Frame, Block, Split, Shrink, End, Resume, Farm, Seq, Meet, Halt}
use Rattle.fk_meaning_operation.specs.declared.operation.SplitKind.TheVariants.{IfAlone, IfElse, AndThen, OrElse, Loop, Fork}
use Rattle.fk_core.specs.declared.op.CoreOp.{CoreOp}
use Rattle.fk_core.specs.Next.{behind_jump}
use Rattle.fk_core_flat.specs.Items.{straight, way_of}
use Rattle.fk_core_typing.specs.LocalDepths.{needs}
use Rattle.fk_sim_block.specs.Next.{OpAt}
use Rattle.fk_sim_block.specs.Ready.{is_alone}
use Rattle.fk_core_typing.specs.Laws.{LeadsWithin}
use Rattle.fk_gen_list.specs.Generable.{HasOwnBlock, has_target}
use Rattle.fk_sim_block.specs.Lockstep.{values_of_step}
use Rattle.fk_compile.specs.ListLaws.{ListsHaveBlocks, StepsFindValues}
use Rattle.fk_compile.proofs.Aims.{straight_has_no_target}

never : {A : Type 0} → false ≡ true → A
never e = absurd (cc)

combine_alone : (by : Multiprefix) → is_alone (Combine by) ≡ true
combine_alone MpAdd = refl
combine_alone MpMax = refl
combine_alone MpAnd = refl
combine_alone MpOr = refl

own_block : (operation : Operation) → HasOwnBlock operation
own_block (Split IfAlone) = inr (inr refl)
own_block (Split IfElse) = inr (inr refl)
own_block (Split AndThen) = inr (inr refl)
own_block (Split OrElse) = inr (inr refl)
own_block (Split Loop) = inr (inr refl)
own_block (Split Fork) = inr (inr refl)
own_block Shrink = inr (inr refl)
own_block Halt = inr (inl refl)
own_block Begin = inr (inr refl)
own_block Agree = inr (inr refl)
own_block (Frame nesting words) = inr (inr refl)
own_block Block = inr (inr refl)
own_block Farm = inr (inr refl)
own_block Seq = inr (inr refl)
own_block End = inr (inr refl)
own_block Resume = inr (inr refl)
own_block (Meet closing) = inr (inr refl)
own_block (Combine by) = inl (combine_alone by)
own_block operation = inl refl

-- a branch and what leads away goes on at its target, which is in the list; the other steps go straight on
target_within : (core : List CoreOp) → LeadsWithin core → (i : ℕ) (op : CoreOp) (operation : Operation) → OpAt core i op operation
    → (way_of operation ≡ straight → op.target ≡ 0) → has_target operation ≡ true → op.target < length core
target_within core leads i op (Branch onward) stands none target = (leads.within i op (Branch onward) stands.stands stands.is_read refl false).at
target_within core leads i op Begin stands none target = (leads.within i op Begin stands.stands stands.is_read refl false).at
target_within core leads i op Farm stands none target = (leads.within i op Farm stands.stands stands.is_read refl false).at
target_within core leads i op Seq stands none target = (leads.within i op Seq stands.stands stands.is_read refl false).at
target_within core leads i op (Split by) stands none target = (leads.within i op (Split by) stands.stands stands.is_read refl false).at
target_within core leads i op Shrink stands none target = (leads.within i op Shrink stands.stands stands.is_read refl false).at
target_within core leads i op End stands none target = (leads.within i op End stands.stands stands.is_read refl false).at
target_within core leads i op Agree stands none target = let e = none refl in let within = slice_get_within core i op stands.stands in omega (arith, e, within)
target_within core leads i op (Frame nesting words) stands none target = let e = none refl in let within = slice_get_within core i op stands.stands in omega (arith, e, within)
target_within core leads i op Block stands none target = let e = none refl in let within = slice_get_within core i op stands.stands in omega (arith, e, within)
target_within core leads i op Resume stands none target = let e = none refl in let within = slice_get_within core i op stands.stands in omega (arith, e, within)
target_within core leads i op (Meet closing) stands none target = let e = none refl in let within = slice_get_within core i op stands.stands in omega (arith, e, within)
target_within core leads i op operation stands none target = never target

pub lists_have_blocks : ListsHaveBlocks
lists_have_blocks bodies core entry shaped listed leads = record {
  jumps = λ i op at jump. let there = leads.jumps i op at jump in slice_get_within core op.target there.op there.stands;
  operations = λ i op operation stands. own_block operation;
  targets = λ i op operation stands target.
      target_within core leads i op operation stands (straight_has_no_target bodies core entry shaped listed i op operation stands) target;
  returns = λ i op n stands.
      All-head (λ j. j < length core) (behind_jump core (suc i)) [] (leads.within i op (Enter n) stands.stands stands.is_read refl true).callers;
}

none : (depth : ℕ) → 0 ≤ depth
none depth = omega arith

found_values : (operation : Operation) (depth : ℕ) → needs operation ≤ depth → values_of_step operation ≤ depth
found_values Begin depth enough = enough
found_values Agree depth enough = enough
found_values (Split by) depth enough = enough
found_values Shrink depth enough = enough
found_values operation depth enough = none depth

pub steps_find_values : StepsFindValues
steps_find_values core enough i op operation stands step = found_values operation op.depth (enough i op operation stands.stands stands.is_read)
