-- What the grammar of expressions needs to know about a kind of token.
use Rattle.std.specs.Prelude.{ℕ, Option, Some, None, Bool}
use Rattle.fk_syntax.specs.declared.sign.Sign.{Sign}
use Rattle.fk_syntax.specs.declared.sign.Sign.TheVariants as sign
use Rattle.fk_lex.specs.declared.token.TokenKind.{TokenKind}
use Rattle.fk_lex.specs.declared.token.TokenKind.TheVariants as kind

abbrev pub number_told : TokenKind → Option (ℕ × Bool)
number_told (kind.Number value unsigned) = Some (value, unsigned)
number_told k = None

-- the signs before an operand
abbrev pub prefix_told : TokenKind → Option Sign
prefix_told kind.Minus = Some sign.Minus
prefix_told kind.Plus = Some sign.Plus
prefix_told kind.Exclamation = Some sign.Exclamation
prefix_told kind.Tilde = Some sign.Tilde
prefix_told kind.Star = Some sign.Star
prefix_told kind.Ampersand = Some sign.Ampersand
prefix_told kind.Increment = Some sign.Increment
prefix_told kind.Decrement = Some sign.Decrement
prefix_told k = None

-- the signs of assignments
abbrev pub assignment_told : TokenKind → Option Sign
assignment_told kind.Assign = Some sign.Assign
assignment_told kind.PlusAssign = Some sign.PlusAssign
assignment_told kind.MinusAssign = Some sign.MinusAssign
assignment_told kind.StarAssign = Some sign.StarAssign
assignment_told kind.SlashAssign = Some sign.SlashAssign
assignment_told kind.PercentAssign = Some sign.PercentAssign
assignment_told kind.AmpersandAssign = Some sign.AmpersandAssign
assignment_told kind.BarAssign = Some sign.BarAssign
assignment_told kind.CaretAssign = Some sign.CaretAssign
assignment_told kind.ShiftLeftAssign = Some sign.ShiftLeftAssign
assignment_told kind.ShiftRightAssign = Some sign.ShiftRightAssign
assignment_told k = None

-- the binary operators: their looseness, from 1, and their signs
abbrev pub operator_told : TokenKind → Option (ℕ × Sign)
operator_told kind.Star = Some (1, sign.Star)
operator_told kind.Slash = Some (1, sign.Slash)
operator_told kind.Percent = Some (1, sign.Percent)
operator_told kind.Plus = Some (2, sign.Plus)
operator_told kind.Minus = Some (2, sign.Minus)
operator_told kind.ShiftLeft = Some (3, sign.ShiftLeft)
operator_told kind.ShiftRight = Some (3, sign.ShiftRight)
operator_told kind.LessThan = Some (4, sign.LessThan)
operator_told kind.LessOrEqual = Some (4, sign.LessOrEqual)
operator_told kind.GreaterThan = Some (4, sign.GreaterThan)
operator_told kind.GreaterOrEqual = Some (4, sign.GreaterOrEqual)
operator_told kind.EqualTo = Some (5, sign.EqualTo)
operator_told kind.NotEqualTo = Some (5, sign.NotEqualTo)
operator_told kind.Ampersand = Some (6, sign.Ampersand)
operator_told kind.Caret = Some (7, sign.Caret)
operator_told kind.Bar = Some (8, sign.Bar)
operator_told kind.AndAnd = Some (9, sign.AndAnd)
operator_told kind.OrOr = Some (10, sign.OrOr)
operator_told k = None
