-- What the grammar of programs needs to know about a kind of token.
use Rattle.std.specs.Prelude.{Option, Some, None}
use Rattle.fk_syntax.specs.declared.program.Mode.{Mode}
use Rattle.fk_syntax.specs.declared.program.Mode.TheVariants as mode
use Rattle.fk_lex.specs.declared.token.TokenKind.{TokenKind}
use Rattle.fk_lex.specs.declared.token.TokenKind.TheVariants as kind

-- the mode words
abbrev pub mode_told : TokenKind → Option Mode
mode_told kind.Sync = Some mode.Sync
mode_told kind.Async = Some mode.Async
mode_told kind.Straight = Some mode.Straight
mode_told k = None
