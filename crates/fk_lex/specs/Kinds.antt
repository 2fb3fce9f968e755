-- What bytes spell: keywords, words, numbers and signs.
use Rattle.std.specs.Prelude.{◌≡◌, ℕ, ◌+◌, ◌-◌, ◌*◌, ◌<◌, ◌≤◌, ◌^◌, ◌==◌, ◌&&◌, ◌||◌, nat_le}
use Rattle.std.specs.Prelude.{nat_lt, Bool, true, false, Option, Some, None, List, [], ◌∷◌, ◌++◌}
use Rattle.std.specs.Prelude.{length, take, drop, slice_index, codes, if◌then◌else◌}
use Rattle.std.specs.List.{list_all}
use Rattle.std.specs.Str.{bytes_eq}
use Rattle.fk_lex.specs.declared.token.TokenKind.{TokenKind}
use Rattle.fk_lex.specs.declared.token.TokenKind.TheVariants.{Word, Number, Int, Unsigned, Void}
use Rattle.fk_lex.specs.declared.token.TokenKind.TheVariants.{Struct, Sh, Pr, Sync, Async, Straight}
use Rattle.fk_lex.specs.declared.token.TokenKind.TheVariants.{If, Else, While, Do, For, Start, Farm}
use Rattle.fk_lex.specs.declared.token.TokenKind.TheVariants.{Seq, Fork, Join, Barrier, Break}
use Rattle.fk_lex.specs.declared.token.TokenKind.TheVariants.{Continue, Return, Sizeof, Puts}
use Rattle.fk_lex.specs.declared.token.TokenKind.TheVariants.{ShiftLeftAssign, ShiftRightAssign}
use Rattle.fk_lex.specs.declared.token.TokenKind.TheVariants.{ShiftLeft, ShiftRight, LessOrEqual}
use Rattle.fk_lex.specs.declared.token.TokenKind.TheVariants.{GreaterOrEqual, EqualTo, NotEqualTo}
use Rattle.fk_lex.specs.declared.token.TokenKind.TheVariants.{AndAnd, OrOr, PlusAssign, MinusAssign}
use Rattle.fk_lex.specs.declared.token.TokenKind.TheVariants.{StarAssign, SlashAssign}
use Rattle.fk_lex.specs.declared.token.TokenKind.TheVariants.{PercentAssign, AmpersandAssign}
use Rattle.fk_lex.specs.declared.token.TokenKind.TheVariants.{BarAssign, CaretAssign, Increment}
use Rattle.fk_lex.specs.declared.token.TokenKind.TheVariants.{Decrement, Arrow, Plus, Minus, Star}
use Rattle.fk_lex.specs.declared.token.TokenKind.TheVariants.{Slash, Percent, Ampersand, Bar, Caret}
use Rattle.fk_lex.specs.declared.token.TokenKind.TheVariants.{Tilde, Exclamation, LessThan}
use Rattle.fk_lex.specs.declared.token.TokenKind.TheVariants.{GreaterThan, Assign, Question, Colon}
use Rattle.fk_lex.specs.declared.token.TokenKind.TheVariants.{Comma, Semicolon, OpenParenthesis}
use Rattle.fk_lex.specs.declared.token.TokenKind.TheVariants.{CloseParenthesis, OpenBrace}
use Rattle.fk_lex.specs.declared.token.TokenKind.TheVariants.{CloseBrace, OpenBracket, CloseBracket}
use Rattle.fk_lex.specs.declared.token.TokenKind.TheVariants.{Dot, At, Dollar}
use Rattle.fk_lex.specs.Bytes.{is_letter, is_digit, is_word_byte, digit_value, is_suffix, is_x}

abbrev pub keywords : List (List ℕ × TokenKind)
keywords =
    (codes "int", Int) ∷
    (codes "unsigned", Unsigned) ∷
    (codes "void", Void) ∷
    (codes "struct", Struct) ∷
    (codes "sh", Sh) ∷
    (codes "pr", Pr) ∷
    (codes "sync", Sync) ∷
    (codes "async", Async) ∷
    (codes "straight", Straight) ∷
    (codes "if", If) ∷
    (codes "else", Else) ∷
    (codes "while", While) ∷
    (codes "do", Do) ∷
    (codes "for", For) ∷
    (codes "start", Start) ∷
    (codes "farm", Farm) ∷
    (codes "seq", Seq) ∷
    (codes "fork", Fork) ∷
    (codes "join", Join) ∷
    (codes "barrier", Barrier) ∷
    (codes "break", Break) ∷
    (codes "continue", Continue) ∷
    (codes "return", Return) ∷
    (codes "sizeof", Sizeof) ∷
    (codes "puts", Puts) ∷
    []

-- signs of three bytes
abbrev pub triple_signs : List (List ℕ × TokenKind)
triple_signs =
    (codes "<<=", ShiftLeftAssign) ∷
    (codes ">>=", ShiftRightAssign) ∷
    []

-- signs of two bytes
abbrev pub double_signs : List (List ℕ × TokenKind)
double_signs =
    (codes "<<", ShiftLeft) ∷
    (codes ">>", ShiftRight) ∷
    (codes "<=", LessOrEqual) ∷
    (codes ">=", GreaterOrEqual) ∷
    (codes "==", EqualTo) ∷
    (codes "!=", NotEqualTo) ∷
    (codes "&&", AndAnd) ∷
    (codes "||", OrOr) ∷
    (codes "+=", PlusAssign) ∷
    (codes "-=", MinusAssign) ∷
    (codes "*=", StarAssign) ∷
    (codes "/=", SlashAssign) ∷
    (codes "%=", PercentAssign) ∷
    (codes "&=", AmpersandAssign) ∷
    (codes "|=", BarAssign) ∷
    (codes "^=", CaretAssign) ∷
    (codes "++", Increment) ∷
    (codes "--", Decrement) ∷
    (codes "->", Arrow) ∷
    []

-- signs of one byte
abbrev pub single_signs : List (List ℕ × TokenKind)
single_signs =
    (codes "+", Plus) ∷
    (codes "-", Minus) ∷
    (codes "*", Star) ∷
    (codes "/", Slash) ∷
    (codes "%", Percent) ∷
    (codes "&", Ampersand) ∷
    (codes "|", Bar) ∷
    (codes "^", Caret) ∷
    (codes "~", Tilde) ∷
    (codes "!", Exclamation) ∷
    (codes "<", LessThan) ∷
    (codes ">", GreaterThan) ∷
    (codes "=", Assign) ∷
    (codes "?", Question) ∷
    (codes ":", Colon) ∷
    (codes ",", Comma) ∷
    (codes ";", Semicolon) ∷
    (codes "(", OpenParenthesis) ∷
    (codes ")", CloseParenthesis) ∷
    (codes "{", OpenBrace) ∷
    (codes "}", CloseBrace) ∷
    (codes "[", OpenBracket) ∷
    (codes "]", CloseBracket) ∷
    (codes ".", Dot) ∷
    (codes "@", At) ∷
    (codes "$", Dollar) ∷
    []

abbrev pub signs : List (List ℕ × TokenKind)
signs = triple_signs ++ (double_signs ++ single_signs)

-- the kind that a table has for these bytes
abbrev pub lookup : List (List ℕ × TokenKind) → List ℕ → Option TokenKind
lookup [] bytes = None
lookup (entry ∷ others) bytes = if bytes_eq entry.0 bytes then Some entry.1 else lookup others bytes

abbrev pub or_word : Option TokenKind → TokenKind
or_word None = Word
or_word (Some keyword) = keyword

abbrev pub is_empty : List ℕ → Bool
is_empty [] = true
is_empty (c ∷ cs) = false

-- digits of a base, and then at most one `u` or `U`
abbrev pub is_tail : ℕ → List ℕ → Bool
is_tail base [] = true
is_tail base (c ∷ cs) = if nat_lt (digit_value c) base then is_tail base cs
    else (is_suffix c && is_empty cs)

-- `x` or `X`, a hexadecimal digit, and more of them
abbrev pub is_hexadecimal : List ℕ → Bool
is_hexadecimal [] = false
is_hexadecimal (x ∷ []) = false
is_hexadecimal (x ∷ d ∷ ds) = (is_x x && nat_lt (digit_value d) 16) && is_tail 16 ds

-- decimal digits not beginning with 0, 0 and octal digits, or 0x and hexadecimal digits
abbrev pub is_numeral : List ℕ → Bool
is_numeral [] = false
is_numeral (c ∷ cs) = if c == 48 then is_hexadecimal cs || is_tail 8 cs
    else is_digit c && is_tail 10 cs

-- the value of digits of a base that follow digits with this value
abbrev pub value_in : ℕ → ℕ → List ℕ → ℕ
value_in base value [] = value
value_in base value (c ∷ cs) =
    if nat_lt (digit_value c) base then value_in base (value * base + digit_value c) cs else value

unfoldable pub numeral_value : List ℕ → ℕ
numeral_value bytes =
    if slice_index bytes 0 == 48
    then (if is_x (slice_index bytes 1) then value_in 16 0 (drop 2 bytes) else value_in 8 0 bytes)
    else value_in 10 0 bytes

-- a number is unsigned if it has the suffix or is at least 2^31
unfoldable pub is_unsigned : List ℕ → Bool
is_unsigned bytes =
    is_suffix (slice_index bytes (length bytes - 1)) || nat_le (2 ^ 31) (numeral_value bytes)

-- the number that a numeral below 2^32 spells
unfoldable pub number_of : List ℕ → Option TokenKind
number_of bytes = if nat_lt (numeral_value bytes) (2 ^ 32)
    then Some (Number (numeral_value bytes) (is_unsigned bytes)) else None

-- the word, keyword, number or sign that these bytes spell
unfoldable pub kind_of : List ℕ → Option TokenKind
kind_of [] = None
kind_of (c ∷ cs) =
    if is_letter c
    then (if list_all is_word_byte cs then Some (or_word (lookup keywords (c ∷ cs))) else None)
    else (if is_digit c then (if is_numeral (c ∷ cs)
    then Some (Number (numeral_value (c ∷ cs)) (is_unsigned (c ∷ cs))) else None)
    else lookup signs (c ∷ cs))

-- `n` is the length of the longest prefix of a text that passes a test
pub record LongestBy (test : List ℕ → Bool) (text : List ℕ) (n : ℕ) : Type 0 where
  pub within : n ≤ length text
  pub passes : test (take n text) ≡ true
  pub longest : (m : ℕ) → n < m → m ≤ length text → test (take m text) ≡ false

abbrev pub LongestNumeral : List ℕ → ℕ → Type 0
LongestNumeral text n = LongestBy is_numeral text n

abbrev pub LongestTail : ℕ → List ℕ → ℕ → Type 0
LongestTail base text n = LongestBy (is_tail base) text n

-- `n` is the length of the longest prefix of a text that spells a token, and `kind` is its kind
pub record Longest (text : List ℕ) (n : ℕ) (kind : TokenKind) : Type 0 where
  pub within : n ≤ length text
  pub spells : kind_of (take n text) ≡ Some kind
  pub longest : (m : ℕ) → n < m → m ≤ length text → kind_of (take m text) ≡ None

-- no prefix of a text spells a token
abbrev pub SpellsNone : List ℕ → Type 0
SpellsNone text = (m : ℕ) → m ≤ length text → kind_of (take m text) ≡ None
