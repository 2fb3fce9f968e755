use Rattle.fk_types_rules.proofs.Alike.{alike}
use Rattle.fk_types_rules.proofs.laws.right_environments.Goals as goal

pub returns : goal.returns
returns c = λ program env other one two place rule h. alike program env other one two place rule h
