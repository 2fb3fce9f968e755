use Rattle.std.proofs.Common.{◌≡◌, ◌-◌, ◌+◌, map}
use Rattle.std.specs.List.{range_with_len}
use Rattle.fk_ports.specs.Known.{IsGiven}
use Rattle.fk_machine.specs.View.{machine_of}
use Rattle.fk_top.specs.Ending.{variable_of}
use Rattle.fk_top.specs.Outcome.{words_in}
use Rattle.fk_top.specs.Report.{words_text}
use Rattle.fk_top.proofs.shown.give_words.Given as goal

-- the words from an index on are still to be given
abbrev pub invariant-loop-index : goal.invariant-loop-index
invariant-loop-index g l = record {
  given : IsGiven (words_text l.fn.variable.signed (words_in (machine_of l.fn.machine) (variable_of l.fn.variable)))
      (words_text l.fn.variable.signed (map (machine_of l.fn.machine).shared.words (range_with_len (l.fn.variable.first + l.index) (l.fn.variable.words - l.index))))
      (g.K.Sink.taken l.initial.out) (g.K.Sink.taken l.out);
  steady : g.K.Sink.faults l.out ≡ g.K.Sink.faults l.initial.out;
}
