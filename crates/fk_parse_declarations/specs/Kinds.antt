-- What the grammar of declarations needs to know about a kind of token.
use Rattle.std.specs.Prelude.{Option, Some, None, Bool, true, false}
use Rattle.fk_lex.specs.declared.token.TokenKind.{TokenKind}
use Rattle.fk_lex.specs.declared.token.TokenKind.TheVariants as kind

-- the sharing words, and whether each is `sh`
abbrev pub sharing_told : TokenKind → Option Bool
sharing_told kind.Sh = Some true
sharing_told kind.Pr = Some false
sharing_told k = None
