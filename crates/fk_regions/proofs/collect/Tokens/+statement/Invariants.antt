-- The tokens so far, and those of what is left, are those before and those of all.
use Rattle.std.proofs.Common.{◌≡◌, ◌++◌, map, drop}
use Rattle.fk_syntax.specs.Program.{statements_of}
use Rattle.fk_syntax.specs.ProgramView.{statement_of}
use Rattle.fk_regions.specs.Tokens.{statements_tokens}
use Rattle.fk_regions.specs.Collected.{within}
use Rattle.fk_regions.specs.TokensView.{seen_in}
use Rattle.fk_regions.proofs.collect.Tokens.+statement.Given as goal

abbrev pub invariant-add_statements-loop-statement : goal.invariant-add_statements-loop-statement
invariant-add_statements-loop-statement l = seen_in l.into ++ (statements_tokens within l.around (statements_of (map statement_of (drop l.statement-index l.statements)))) ≡ seen_in l.fn.into ++ (statements_tokens within l.around (statements_of (map statement_of l.statements)))
