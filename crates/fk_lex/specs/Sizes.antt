-- The size of a step in bytes.
use Rattle.std.specs.Prelude.{ℕ}
use Rattle.fk_lex.specs.declared.step.Step.{Step}
use Rattle.fk_lex.specs.declared.step.Step.TheVariants.{Gap, Token, Fault}

-- the number of bytes of a gap or a token; for a fault its distance from the point
abbrev pub size_of : Step → ℕ
size_of (Gap n) = n
size_of (Token n kind) = n
size_of (Fault n kind) = n
