-- What follows runs of a list follows those of the program whose code stands in it.
use Rattle.std.proofs.Common.{sym, ap, subst, ◌∙◌}
use Rattle.fk_meaning.specs.Processor.{setting_of}
use Rattle.fk_core.specs.KeepsRuns.{FlatListsKeepRuns}
use Rattle.fk_machine.specs.Run.{machine, rounds}
use Rattle.fk_sim_rounds.specs.Follows.{StandsAgree}
use Rattle.fk_sim_rounds.specs.Programs.{ProgramsAreFollowed}

pub programs_are_followed : FlatListsKeepRuns → ProgramsAreFollowed
programs_are_followed keeps_runs tables program core entry firsts image input p n code f =
    let alike = keeps_runs tables program core entry code image.globals.items firsts input p (setting_of p image.globals.items input) (rounds image input p n) in
    record {
      lawful = alike.back f.lawful;
      agrees = record {
        output = f.agrees.output ∙ ap (λ s. s.output) (sym alike.store);
        words = λ i lt. f.agrees.words i lt ∙ ap (λ s. s.words i) (sym alike.store);
        stand = subst (λ st. StandsAgree (machine image input p n).stand st) (sym alike.stand) f.agrees.stand;
      };
    }
