use Rattle.std.proofs.Common.{◌∙◌}
use Rattle.fk_types_structs.proofs.names.place_of.Goals as goal

pub returns-in-Some : goal.returns-in-Some
returns-in-Some c = λ names finds. c.in-Some.ensures.value ∙ finds c.args.name.now

pub returns-in-None : goal.returns-in-None
returns-in-None c = λ names finds. c.in-None.ensures.value ∙ finds c.args.name.now
