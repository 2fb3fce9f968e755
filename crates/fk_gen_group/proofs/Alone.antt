-- All operations that processors do alone.
use Rattle.std.proofs.Common.{◌≡◌, ℕ, List, length, true, refl}
use Rattle.fk_meaning_operation.specs.declared.operation.Operation.{Operation}
use Rattle.fk_meaning_operation.specs.declared.operation.Operation.TheVariants.{Leave, Enter}
use Rattle.fk_core.specs.declared.op.CoreOp.{CoreOp}
use Rattle.fk_image.specs.declared.Image.{Image}
use Rattle.fk_sim_block.specs.Stands.{Places, frame_end}
use Rattle.fk_sim_block.specs.Next.{OpAt}
use Rattle.fk_sim_block.specs.Ready.{is_alone}
use Rattle.fk_gen_flow.specs.Keeps.{KeepsBelow, frames_behind, result_word}
use Rattle.fk_sim_block.specs.Node.{Nestings, space_frames}
use Rattle.fk_sim_block.specs.Law.{Cycles, BlockDoesInNode}
use Rattle.fk_gen_group.specs.Laws.{levels_at}
use Rattle.fk_gen_group.specs.InNode.{LevelsFit, BlockKeepsIn, LoneBlocksStayInNode}
use Rattle.fk_gen_group.proofs.InNode.{does_in_node, in_cycles_of, same_call_in_node}
use Rattle.fk_gen_group.proofs.Calls.{has_entered, enters_in_node, has_left, leaves_in_node}

stays : (core : List CoreOp) (image : Image) (places : Places) (nestings : Nestings) (cycles : Cycles) (i : ℕ) (op : CoreOp) (operation : Operation)
    → OpAt core i op operation → is_alone operation ≡ true → LevelsFit core places nestings i op operation
    → BlockKeepsIn core image places (levels_at nestings i) (cycles.before i) (cycles.behind i) i op operation → BlockDoesInNode core image places nestings cycles 1 i op operation
stays core image places nestings cycles i op (Enter n) stands alone levels keeps setting t runs first m p en member finds =
    in_cycles_of core image places nestings cycles setting t i (Enter n) runs first m p alone member
    (does_in_node core image places nestings setting p t runs (cycles.before i) (cycles.behind i true) m (KeepsBelow (frame_end (length p.runner.has.callers)) (space_frames m.hart) m.hart) (keeps setting t p m.hart en tt)
    (λ h' d s s' e done kept.
    enters_in_node core image places nestings i op n stands levels setting p t runs first m h' d en member done kept
    (has_entered core image places nestings i op n stands levels setting p d s s' en.index e)))
stays core image places nestings cycles i op (Leave gives framed) stands alone levels keeps setting t runs first m p en member finds =
    in_cycles_of core image places nestings cycles setting t i (Leave gives framed) runs first m p alone member
    (does_in_node core image places nestings setting p t runs (cycles.before i) (cycles.behind i true) m
    (KeepsBelow (result_word p.runner.has.callers) (frames_behind framed p.runner.has m.hart) m.hart) (keeps setting t p m.hart en tt)
    (λ h' d s s' e done kept.
    leaves_in_node core image places nestings i op gives framed stands levels setting p t runs first m h' d en member kept
    (has_left core image places nestings i op gives framed stands levels setting p d s s' en.index e)))
stays core image places nestings cycles i op operation stands alone levels keeps setting t runs first m p en member finds =
    same_call_in_node core image places nestings cycles i op operation stands alone refl levels keeps setting t runs first m p en member finds

pub lone_blocks_stay_in_node : LoneBlocksStayInNode
lone_blocks_stay_in_node core image places nestings cycles i op operation stands alone levels keeps =
    stays core image places nestings cycles i op operation stands alone levels keeps
