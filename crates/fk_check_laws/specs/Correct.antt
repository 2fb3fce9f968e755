-- Programs that keep all rules.
use Rattle.std.specs.Prelude.{◌≤◌, ◌^◌}
use Rattle.fk_syntax.specs.declared.facts.Facts.{Facts}
use Rattle.fk_syntax.specs.Program.{ProgramTree}
use Rattle.fk_syntax.specs.WellFormed.{IsWellFormed}
use Rattle.fk_check.specs.Known.{AreAllFacts}

-- a program of at most 2^20 tokens that keeps all rules, with its facts
pub record IsCorrect (program : ProgramTree) (facts : Facts) : Type 0 where
  pub well_formed : IsWellFormed program
  pub small : program.tokens ≤ 2 ^ 20
  pub known : AreAllFacts program facts
