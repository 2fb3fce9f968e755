-- The numbers of the declarations so far are set.
use Rattle.std.proofs.Common.{map, take}
use Rattle.fk_types_names.specs.View.{declaration_of}
use Rattle.fk_types_names.specs.TableView.{shown}
use Rattle.fk_types_bindings.specs.Bound.{AreDeclared}
use Rattle.fk_types_bindings.proofs.bound.set_declared.Given as goal

abbrev pub invariant-loop-number : goal.invariant-loop-number
invariant-loop-number l = AreDeclared (shown l.bodies) (map declaration_of (take l.number l.declared)) l.fn.numbers l.numbers
