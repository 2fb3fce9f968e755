use Rattle.fk_compile.proofs.Led.{programs_are_led}
use Rattle.fk_compile.proofs.laws.programs_are_led.Goals as goal

pub returns : goal.returns
returns c = programs_are_led
