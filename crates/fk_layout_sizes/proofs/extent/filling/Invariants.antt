-- The parameters that are left are filled as all are.
use Rattle.std.proofs.Common.{◌≡◌, map, drop}
use Rattle.fk_syntax.specs.ProgramView.{declared_of}
use Rattle.fk_layout_sizes.specs.Places.{filling}
use Rattle.fk_layout_sizes.proofs.extent.filling.Given as goal

abbrev pub invariant-loop-parameter : goal.invariant-loop-parameter
invariant-loop-parameter l = filling (map declared_of (drop l.parameter-index l.parameters)) ≡ filling (map declared_of l.parameters)
