use Rattle.std.specs.Prelude.{slice_index}
use Rattle.fk_meaning.specs.Next.{Work}
use Rattle.fk_meaning_state.specs.View.{setting_of}
use Rattle.fk_meaning_state.proofs.Begun.{one_more}
use Rattle.fk_meaning_state.proofs.processor.beginners.Goals as goal

pub loop-number-preserved : goal.loop-number-preserved
loop-number-preserved c = λ (left : Work).
    one_more (setting_of c.args.setting) (slice_index c.args.firsts.now) left c.loop-number.number c.loop-number.processors.items c.push.new.self.items c.in_ok-processor.processor (c.loop-number.invariant left) c.in_ok-processor.ensures c.in_ok-push.ensures.items
