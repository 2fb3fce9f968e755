use Rattle.fk_types_rules.proofs.Example.{example_sound, number_typed}
use Rattle.fk_types_rules.proofs.laws.example_has_a_type.Goals as goal

pub returns : goal.returns
returns c = record { well_formed = example_sound; typed = number_typed }
