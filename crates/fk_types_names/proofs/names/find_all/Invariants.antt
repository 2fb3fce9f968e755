-- The meanings before the mark are found.
use Rattle.std.proofs.Common.{length}
use Rattle.fk_types_names.specs.Filling.{AreFound}
use Rattle.fk_types_names.specs.Scoped.{all_marks}
use Rattle.fk_types_names.proofs.names.find_all.Given as goal

abbrev pub invariant-loop-at : goal.invariant-loop-at
invariant-loop-at l = AreFound (all_marks l.scoped) (length l.fn.meanings) l.meanings l.at
