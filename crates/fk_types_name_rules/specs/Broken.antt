-- The rules about names that a program breaks.
use Rattle.fk_syntax.specs.Program.{ProgramTree}
use Rattle.fk_check_rules.specs.declared.rule.Rule.TheVariants as r
use Rattle.fk_check_rules.specs.Least.{Breaks, only, either}
use Rattle.fk_types_names.specs.Outline.{outline}
use Rattle.fk_types_name_rules.specs.Named.{UsesUndeclared, DeclaresTwice}
use Rattle.fk_types_name_rules.specs.Headers.{HasWrongHeader, LacksMain}

abbrev pub NamesBreak : ProgramTree → Breaks
NamesBreak program =
    either (only r.Undeclared (UsesUndeclared (outline program)))
    (either (only r.DeclaredTwice (DeclaresTwice (outline program)))
    (either (only r.HeadersDiffer (HasWrongHeader program.items))
    (only r.NoMain (LacksMain program))))
