-- Those so far are the first ones.
use Rattle.std.proofs.Common.{◌≡◌, map}
use Rattle.std.specs.Prelude.{slice_index}
use Rattle.fk_meaning.specs.Next.{Work}
use Rattle.fk_meaning.specs.Schedule as run
use Rattle.fk_meaning_state.specs.View.{setting_of, runner_of}
use Rattle.fk_meaning_state.proofs.processor.beginners.Given as goal

abbrev pub invariant-loop-number : goal.invariant-loop-number
invariant-loop-number l =
    (left : Work) → map (runner_of left) l.processors.items ≡ run.beginners (setting_of l.setting) (slice_index l.firsts) left 0 l.number
