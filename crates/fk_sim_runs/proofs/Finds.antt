-- A processor finds the frame of a part of which it gets a word.
use Rattle.std.proofs.Common.{◌≡◌, ℕ, suc, ◌-◌, ◌≤◌, List, Some, sym, subst}
use Rattle.std.specs.Prelude.{slice_get}
use Rattle.std.proofs.lemmas.Option.{slice_get_within}
use Rattle.fk_meaning_operation.specs.declared.operation.OwnValue.TheVariants as n
use Rattle.fk_meaning_operation.specs.declared.operation.Operation.{Operation}
use Rattle.fk_meaning_operation.specs.declared.operation.Operation.TheVariants as o
use Rattle.fk_meaning.specs.Processor.{Processor, Setting}
use Rattle.fk_meaning.specs.Round.{Runner}
use Rattle.fk_core.specs.declared.op.CoreOp.{CoreOp}
use Rattle.fk_core.specs.Numbers.{operation_of}
use Rattle.fk_core.specs.Next.{Position, position, landing}
use Rattle.fk_lockstep_frames.specs.Taken.{IsFirstFrame}
use Rattle.fk_lockstep_frames.specs.Lists.{HasToldFrames}
use Rattle.fk_sim_block.specs.Node.{Nestings}
use Rattle.fk_sim_block.specs.Found.{FrameBegins, FindsFrame}
use Rattle.fk_sim_runs.specs.Lists.{IsOfTree}

frame_begins : (out number : ℕ) (p : Processor) → IsFirstFrame out number p → FrameBegins out number p
frame_begins out number p x = record { level = x.level; around = x.around; further = x.further; there = x.there; first = x.first; within = x.within }

module _ (core : List CoreOp) (nestings : Nestings) (main : ℕ) (list : IsOfTree core nestings main) (setting : Setting) (r : Runner Position) (told : HasToldFrames core main list.frames setting r)
    (op : CoreOp) (at : slice_get core (landing core r.left.at) ≡ Some op) where
  pub finds_frame : (operation : Operation) → operation_of op.kind op.number ≡ Some operation
      → FindsFrame nestings operation (record r { left = position (landing core r.left.at) r.left.callers })
  finds_frame (o.Get (n.FrameAddress (suc part) word)) read =
      let i = landing core r.left.at in
      let asks = (list.frames.fits i op (o.Get (n.FrameAddress (suc part) word)) at read).asks in
      let x = told.begins part word asks in
      subst (λ nest. (suc part ≤ nest) × FrameBegins (nest - suc part) (suc part) r.has) (sym (list.nest i (slice_get_within core i op at)))
      (x.0, frame_begins _ (suc part) r.has x.1)
  finds_frame operation read = tt
