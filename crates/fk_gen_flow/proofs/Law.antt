-- The laws of the blocks, from what each block does.
use Rattle.std.proofs.Common.{◌≡◌, ℕ, ◌^◌, ◌<◌, ◌≤◌, List, Bool, true, false, Some, ap, subst, ◌∙◌}
use Rattle.std.specs.Prelude.{if◌then◌else◌}
use Rattle.fk_meaning_operation.specs.declared.operation.Operation.{Operation}
use Rattle.fk_meaning_operation.specs.declared.operation.Operation.TheVariants.{Branch, Leave, Enter, Halt}
use Rattle.fk_core.specs.declared.op.CoreOp.{CoreOp}
use Rattle.fk_core.specs.Next.{is_jump}
use Rattle.fk_core.specs.Numbers.{operation_of}
use Rattle.fk_image.specs.declared.Image.{Image}
use Rattle.fk_sim_block.specs.Stands.{Places}
use Rattle.fk_sim_block.specs.Next.{OpAt}
use Rattle.fk_sim_block.specs.Ready.{is_alone}
use Rattle.fk_sim_block.specs.Suits.{Fits}
use Rattle.fk_gen.specs.InPlace.{HasBlock}
use Rattle.fk_gen.proofs.Does.{does_of}
use Rattle.fk_gen_flow.specs.Flow.{jump_block}
use Rattle.fk_gen_flow.specs.Calls.{HasShared}
use Rattle.fk_gen_flow.specs.Blocks.{is_flow, flow_block, block_by}
use Rattle.fk_gen_flow.specs.Keeps.{BlockKeeps, before_commit, behind_commit}
use Rattle.fk_gen_flow.specs.Laws.{JumpsGo, FlowBlocksDo, FlowBlocksKeep, HaltsEnd, HartsBegin, CallsReturn, ClearsEnough}
use Rattle.fk_gen_flow.proofs.Does.{jump_goes, branch_keeps, halt_does}
use Rattle.fk_gen_flow.proofs.Leaves.{leave_keeps}
use Rattle.fk_gen_flow.proofs.Enters.{enter_keeps}
use Rattle.fk_gen_flow.proofs.Begins.{begins_in_root}

never : {A : Type 0} → false ≡ true → A
never e = absurd (cc)

pub block_of_jump : (clears back : ℕ) (op : CoreOp) → is_jump op ≡ true → flow_block clears back op ≡ jump_block op.target
block_of_jump clears back op e = ap (λ b. if b then jump_block op.target else block_by clears back op (operation_of op.kind op.number)) e

pub block_of_operation : (core : List CoreOp) (i : ℕ) (op : CoreOp) (operation : Operation) (clears back : ℕ) → OpAt core i op operation
    → flow_block clears back op ≡ block_by clears back op (Some operation)
block_of_operation core i op operation clears back at =
    ap (λ b. if b then jump_block op.target else block_by clears back op (operation_of op.kind op.number)) at.no_jump ∙ ap (block_by clears back op) at.is_read

pub jumps_go : JumpsGo
jumps_go core image places bound i op jump block flows = jump_goes core image bound places i op block flows

pub halts_end : HaltsEnd
halts_end core image places bound i op clears back at block =
    halt_does core image bound places i op (subst (HasBlock image bound places i) (block_of_operation core i op Halt clears back at) block) at

pub harts_begin : HartsBegin
harts_begin core image places bound firsts main opening are is_main none setting t number running =
    (begins_in_root core image bound places firsts main opening are is_main none setting t number running).begins

keeps : (core : List CoreOp) (image : Image) (places : Places) (bound : ℕ → ℕ) (i : ℕ) (op : CoreOp) (operation : Operation) (clears back : ℕ)
    → OpAt core i op operation → is_alone operation ≡ true → is_flow operation ≡ true → op.site < 2 ^ 32
    → HasBlock image bound places i (block_by clears back op (Some operation)) → HasShared image bound → CallsReturn core image bound places
    → places.frames.of_file ≤ 56 → Fits core places.frames i op operation → ClearsEnough places.frames i clears operation
    → BlockKeeps core image places 1 (before_commit operation) (behind_commit clears operation) i op operation
keeps core image places bound i op (Branch onward) clears back at alone flow small block shared calls few fits enough = branch_keeps core image bound places i op onward block at fits
keeps core image places bound i op (Leave gives framed) clears back at alone flow small block shared calls few fits enough =
    leave_keeps core image bound places i op gives framed few calls block at fits
keeps core image places bound i op (Enter arguments) clears back at alone flow small block shared calls few fits enough =
    enter_keeps core image bound places i op arguments clears back few small shared block (calls.points i op arguments at) at fits enough
keeps core image places bound i op Halt clears back at alone flow small block shared calls few fits enough = never alone
keeps core image places bound i op operation clears back at alone flow small block shared calls few fits enough = never flow

pub flow_blocks_keep : FlowBlocksKeep
flow_blocks_keep core image places bound i op operation clears back at alone flow small block shared calls few fits enough =
    keeps core image places bound i op operation clears back at alone flow small (subst (HasBlock image bound places i) (block_of_operation core i op operation clears back at) block) shared calls few fits enough

pub flow_blocks_do : FlowBlocksDo
flow_blocks_do core image places bound i op operation clears back at alone flow small block shared calls few fits enough setting t p h enters =
    does_of core image places setting t p h _ _ _ (flow_blocks_keep core image places bound i op operation clears back at alone flow small block shared calls few fits enough setting t p h enters)
