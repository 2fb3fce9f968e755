-- The tokens of the text of the lock.
use Rattle.std.specs.Prelude.{◌≡◌, ℕ, false, List, [], ◌∷◌, ◌++◌, codes}
use Rattle.fk_lex.specs.declared.token.TokenKind.{TokenKind}
use Rattle.fk_lex.specs.declared.token.TokenKind.TheVariants as kind
use Rattle.fk_lex.specs.Reading.{Spelled, Tokens}
use Rattle.fk_locks_tokens.specs.Text.{lock_bytes}

-- a token of these bytes at a line and a column
abbrev pub spelled : (line column : ℕ) → TokenKind → List ℕ → Spelled
spelled line column kind bytes =
    record { kind = kind; bytes = bytes; place = record { line = line; column = column } }

-- the struct
abbrev pub struct_tokens : List Spelled
struct_tokens =
    spelled 1 1 kind.Struct (codes "struct")
    ∷ spelled 1 8 kind.Word (codes "FairLock")
    ∷ spelled 1 17 kind.OpenBrace (codes "{")
    ∷ spelled 1 19 kind.Unsigned (codes "unsigned")
    ∷ spelled 1 28 kind.Word (codes "next")
    ∷ spelled 1 32 kind.Semicolon (codes ";")
    ∷ spelled 1 34 kind.Unsigned (codes "unsigned")
    ∷ spelled 1 43 kind.Word (codes "now")
    ∷ spelled 1 46 kind.Semicolon (codes ";")
    ∷ spelled 1 48 kind.CloseBrace (codes "}")
    ∷ spelled 1 49 kind.Semicolon (codes ";")
    ∷ []

-- the function that takes a lock
abbrev pub take_tokens : List Spelled
take_tokens =
    spelled 2 1 kind.Void (codes "void")
    ∷ spelled 2 6 kind.Word (codes "fair_take")
    ∷ spelled 2 15 kind.OpenParenthesis (codes "(")
    ∷ spelled 2 16 kind.Struct (codes "struct")
    ∷ spelled 2 23 kind.Word (codes "FairLock")
    ∷ spelled 2 32 kind.Star (codes "*")
    ∷ spelled 2 33 kind.Word (codes "l")
    ∷ spelled 2 34 kind.CloseParenthesis (codes ")")
    ∷ spelled 2 36 kind.OpenBrace (codes "{")
    ∷ spelled 2 38 kind.Pr (codes "pr")
    ∷ spelled 2 41 kind.Unsigned (codes "unsigned")
    ∷ spelled 2 50 kind.Word (codes "t")
    ∷ spelled 2 52 kind.Assign (codes "=")
    ∷ spelled 2 54 kind.Word (codes "mpadd")
    ∷ spelled 2 59 kind.OpenParenthesis (codes "(")
    ∷ spelled 2 60 kind.Ampersand (codes "&")
    ∷ spelled 2 61 kind.Word (codes "l")
    ∷ spelled 2 62 kind.Arrow (codes "->")
    ∷ spelled 2 64 kind.Word (codes "next")
    ∷ spelled 2 68 kind.Comma (codes ",")
    ∷ spelled 2 70 (kind.Number 1 false) (codes "1")
    ∷ spelled 2 71 kind.CloseParenthesis (codes ")")
    ∷ spelled 2 72 kind.Semicolon (codes ";")
    ∷ spelled 2 74 kind.While (codes "while")
    ∷ spelled 2 80 kind.OpenParenthesis (codes "(")
    ∷ spelled 2 81 kind.Word (codes "l")
    ∷ spelled 2 82 kind.Arrow (codes "->")
    ∷ spelled 2 84 kind.Word (codes "now")
    ∷ spelled 2 88 kind.NotEqualTo (codes "!=")
    ∷ spelled 2 91 kind.Word (codes "t")
    ∷ spelled 2 92 kind.CloseParenthesis (codes ")")
    ∷ spelled 2 94 kind.Semicolon (codes ";")
    ∷ spelled 2 96 kind.CloseBrace (codes "}")
    ∷ []

-- the function that gives a lock
abbrev pub give_tokens : List Spelled
give_tokens =
    spelled 3 1 kind.Void (codes "void")
    ∷ spelled 3 6 kind.Word (codes "fair_give")
    ∷ spelled 3 15 kind.OpenParenthesis (codes "(")
    ∷ spelled 3 16 kind.Struct (codes "struct")
    ∷ spelled 3 23 kind.Word (codes "FairLock")
    ∷ spelled 3 32 kind.Star (codes "*")
    ∷ spelled 3 33 kind.Word (codes "l")
    ∷ spelled 3 34 kind.CloseParenthesis (codes ")")
    ∷ spelled 3 36 kind.OpenBrace (codes "{")
    ∷ spelled 3 38 kind.Word (codes "mpadd")
    ∷ spelled 3 43 kind.OpenParenthesis (codes "(")
    ∷ spelled 3 44 kind.Ampersand (codes "&")
    ∷ spelled 3 45 kind.Word (codes "l")
    ∷ spelled 3 46 kind.Arrow (codes "->")
    ∷ spelled 3 48 kind.Word (codes "now")
    ∷ spelled 3 51 kind.Comma (codes ",")
    ∷ spelled 3 53 (kind.Number 1 false) (codes "1")
    ∷ spelled 3 54 kind.CloseParenthesis (codes ")")
    ∷ spelled 3 55 kind.Semicolon (codes ";")
    ∷ spelled 3 57 kind.CloseBrace (codes "}")
    ∷ []

abbrev pub lock_tokens : List Spelled
lock_tokens = struct_tokens ++ (take_tokens ++ give_tokens)

-- The tokens of a text that begins with the text of the lock begin with those of the lock.
abbrev pub LockTokensFirst : Type 0
LockTokensFirst =
    (user : List ℕ) (tokens : List Spelled) → Tokens (lock_bytes ++ user) tokens
    → (more : List Spelled) × (tokens ≡ lock_tokens ++ more)
