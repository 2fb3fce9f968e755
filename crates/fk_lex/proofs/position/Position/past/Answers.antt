use Rattle.std.proofs.Common.{sym}
use Rattle.fk_lex.proofs.Lines.{line_after}
use Rattle.fk_lex.proofs.position.Position.past.Goals as goal

pub returns-in-Token : goal.returns-in-Token
returns-in-Token c = sym (line_after c.args.self c.args.passed.now (c.requires.in_line _ _ c.in-Token.is))
