-- What a trace in memory tells.
use Rattle.std.specs.Prelude.{◌≡◌, ℕ, List, map}
use Rattle.fk_trace.specs.Text.{Range}
use Rattle.fk_replay_text.specs.Trace.{Told, IsTrace, moments_of}
use Rattle.fk_replay_text.specs.declared.trace.Acts.{Acts}
use Rattle.fk_replay_text.specs.declared.trace.Moment.{Moment}
use Rattle.fk_replay_text.specs.declared.trace.Trace.{Trace}

abbrev pub range_of : Acts → Range
range_of acts = record { first = acts.first; last = acts.last; number = acts.count }

abbrev pub moment_of : Moment → ℕ × List Range
moment_of moment = (moment.cycle, map range_of moment.acts.items)

-- the trace has the harts, the cycles and the counts of the text
pub record IsTold (trace : Trace) (text : List ℕ) : Type 0 where
  pub lines : List Told
  pub text_is : IsTrace trace.harts trace.cycles lines text
  pub moments : map moment_of trace.moments.items ≡ moments_of lines
