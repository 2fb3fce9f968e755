-- Code whose operations a visitor meets unchanged.
use Rattle.std.specs.Prelude.{◌≡◌, List, [], ◌∷◌}
use Rattle.fk_meaning_operation.specs.declared.operation.Operation.{Operation}
use Rattle.fk_syntax.specs.Program.{FunctionTree}
use Rattle.fk_meaning_forms.specs.Code.{Code, done, perform, choose, while, until, quit, break}
use Rattle.fk_meaning_forms.specs.Code.{continue, call, ends}
use Rattle.fk_layout_walk.specs.declared.known.ProgramTables.{ProgramTables}
use Rattle.fk_layout_walk.specs.Shown.{shown}
use Rattle.fk_layout_walk_statements.specs.Texts.{code_in}
use Rattle.fk_lower.specs.Building.{IsUnbegun}
use Rattle.fk_lower.specs.Faults.{HaveNumbers}

-- Each number of an operation has room in a word.
abbrev pub HasRoom : Operation → Type 0
HasRoom op = shown op ≡ op

-- Each number of the code's operations has room in a word, and no loop is under way.
abbrev pub IsWhole : {A : Type 0} → Code A → Type 0
IsWhole done = Unit {0}
IsWhole (perform t op rest) = HasRoom op × IsWhole rest
IsWhole (choose t op x y rest) = HasRoom op × IsWhole x × IsWhole y × IsWhole rest
IsWhole (while test body step rest) = IsWhole test × IsWhole body × IsWhole step × IsWhole rest
IsWhole (until body test rest) = IsWhole body × IsWhole test × IsWhole rest
IsWhole (quit t op rest) = HasRoom op × IsWhole rest
IsWhole (break rest) = IsWhole rest
IsWhole (continue rest) = IsWhole rest
IsWhole (call t op f opening rest) = HasRoom op × IsWhole opening × IsWhole rest
IsWhole (ends t op rest) = HasRoom op × IsWhole rest
IsWhole code = ⊥

-- Code that can be built.
abbrev pub IsPlain : {A : Type 0} → Code A → Type 0
IsPlain code = IsUnbegun code × IsWhole code

-- The code of all functions is whole (`IsWhole`); and it can be built (`IsPlain`).
abbrev pub AreWhole : ProgramTables → List FunctionTree → Type 0
AreWhole known [] = Unit {0}
AreWhole known (f ∷ fs) = IsWhole (code_in known f) × AreWhole known fs

abbrev pub ArePlain : ProgramTables → List FunctionTree → Type 0
ArePlain known [] = Unit {0}
ArePlain known (f ∷ fs) = IsPlain (code_in known f) × ArePlain known fs

-- Each operation of the code of functions has a number.
abbrev pub AreNumbered : ProgramTables → List FunctionTree → Type 0
AreNumbered known [] = Unit {0}
AreNumbered known (f ∷ fs) = HaveNumbers (code_in known f) × AreNumbered known fs
