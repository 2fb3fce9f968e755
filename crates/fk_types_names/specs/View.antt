-- The declarations and marks of the code in the form of the definitions.
use Rattle.fk_syntax.specs.View.{named}
use Rattle.fk_syntax.specs.ProgramView.{declared_of, function_of}
use Rattle.fk_types_names.specs.declared.outline.Declaration.{Declaration}
use Rattle.fk_types_names.specs.declared.outline.Declaration.TheVariants as d
use Rattle.fk_types_names.specs.declared.outline.Mark.{Mark}
use Rattle.fk_types_names.specs.declared.outline.Mark.TheVariants as m
use Rattle.fk_types_names.specs.Outline as o
use Rattle.fk_types_names.specs.Outline.{DeclarationTree, MarkTree}

abbrev pub declaration_of : Declaration → DeclarationTree
declaration_of (d.Variable variable) = o.Variable (declared_of variable.now)
declaration_of (d.Function function) = o.Header (function_of function.now)

abbrev pub mark_of : Mark → MarkTree
mark_of m.Opens = o.Opens
mark_of m.Closes = o.Closes
mark_of (m.Declares declaration) = o.Declares (declaration_of declaration)
mark_of (m.Uses name) = o.Uses (named name)
