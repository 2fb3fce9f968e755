-- Laws of what names denote.
use Rattle.std.specs.Prelude.{◌≡◌, ℕ}
use Rattle.fk_syntax.specs.Program.{ProgramTree}
use Rattle.fk_syntax.specs.WellFormed.{IsWellFormed}
use Rattle.fk_types_names.specs.declared.names.Meaning.{Meaning}
use Rattle.fk_types_names.specs.Means.{Means}

-- a token has at most one meaning
abbrev pub MeansOnce : Type 0
MeansOnce = (program : ProgramTree) (token : ℕ) (m n : Meaning) → IsWellFormed program
    → Means program token m → Means program token n → m ≡ n
