use Rattle.fk_syntax.specs.ProgramView.{program_of}
use Rattle.fk_check.proofs.Told.{right}
use Rattle.fk_check.proofs.check.checked.Goals as goal

pub returns-clause-facts : goal.returns-clause-facts
returns-clause-facts c =
    (right (program_of c.args.program.now) c.in_ok-facts.facts c.regions-placed.new.facts c.sharing-shared.new.facts c.in_ok-facts.ensures c.regions-placed.result c.sharing-shared.result c.told.result
    c.regions-placed.ensures.answer c.sharing-shared.ensures.answer c.told.ensures).0

pub returns-clause-refused : goal.returns-clause-refused
returns-clause-refused c =
    (right (program_of c.args.program.now) c.in_ok-facts.facts c.regions-placed.new.facts c.sharing-shared.new.facts c.in_ok-facts.ensures c.regions-placed.result c.sharing-shared.result c.told.result
    c.regions-placed.ensures.answer c.sharing-shared.ensures.answer c.told.ensures).2
