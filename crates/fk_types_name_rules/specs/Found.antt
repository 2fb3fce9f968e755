-- The rules that one mark or one item breaks.
use Rattle.std.specs.Prelude.{◌⊎◌, ℕ, List}
use Rattle.fk_syntax.specs.Program.{ItemTree, StructItem, VariablesItem, FunctionItem}
use Rattle.fk_check_rules.specs.declared.rule.Rule.TheVariants as r
use Rattle.fk_check_rules.specs.Least.{Breaks, either}
use Rattle.fk_check_rules.specs.Told.{told}
use Rattle.fk_types_names.specs.declared.names.Meaning.TheVariants.{Undeclared}
use Rattle.fk_types_names.specs.Outline.{MarkTree, Opens, Closes, Declares, Uses, name_of}
use Rattle.fk_types_names.specs.Means.{MeansAt}
use Rattle.fk_types_name_rules.specs.Named.{IsAgain, IsTaken}
use Rattle.fk_types_name_rules.specs.Headers.{IsWrongHeader, IsWrongMain}

-- no rule is broken
abbrev pub nothing : Breaks
nothing place rule = ⊥

abbrev pub MarkBreaks : List MarkTree → ℕ → MarkTree → Breaks
MarkBreaks marks at Opens = nothing
MarkBreaks marks at Closes = nothing
MarkBreaks marks at (Declares d) =
    told r.DeclaredTwice (name_of d).place (IsAgain marks at d ⊎ IsTaken marks at d)
MarkBreaks marks at (Uses name) =
    told r.Undeclared name.place (MeansAt marks name.bytes at Undeclared)

abbrev pub ItemBreaks : List ItemTree → ℕ → ItemTree → Breaks
ItemBreaks items at (StructItem name members) = nothing
ItemBreaks items at (VariablesItem variables) = nothing
ItemBreaks items at (FunctionItem function) =
    either (told r.HeadersDiffer function.name.place (IsWrongHeader items at function))
    (told r.NoMain function.name.place (IsWrongMain function))
