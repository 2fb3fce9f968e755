-- Those so far, and those of the marks that are left, are those of all.
use Rattle.std.proofs.Common.{◌≡◌, ◌++◌, map, drop}
use Rattle.fk_types_names.specs.View.{mark_of, declaration_of}
use Rattle.fk_types_names.specs.Outline.{declared_in}
use Rattle.fk_types_names.proofs.survey.declarations.Given as goal

abbrev pub invariant-loop-mark : goal.invariant-loop-mark
invariant-loop-mark l = map declaration_of l.declarations.items ++ declared_in (map mark_of (drop l.mark-index l.marks)) ≡ declared_in (map mark_of l.marks)
