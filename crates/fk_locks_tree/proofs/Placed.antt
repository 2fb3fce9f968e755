-- The tokens of the lock with their indices.
use Rattle.std.proofs.Common.{ℕ, false, List, ◌∷◌, codes}
use Rattle.fk_lex.specs.declared.token.TokenKind.{TokenKind}
use Rattle.fk_lex.specs.declared.token.TokenKind.TheVariants as kind
use Rattle.fk_parse_combinators.specs.Languages.{Placed}

abbrev pub put : (at line column : ℕ) → TokenKind → List ℕ → Placed
put at line column kind bytes = record { at = at; kind = kind; bytes = bytes; place = record { line = line; column = column } }

abbrev pub struct_before : List Placed → List Placed
struct_before rest =
    put 0 1 1 kind.Struct (codes "struct")
    ∷ put 1 1 8 kind.Word (codes "FairLock")
    ∷ put 2 1 17 kind.OpenBrace (codes "{")
    ∷ put 3 1 19 kind.Unsigned (codes "unsigned")
    ∷ put 4 1 28 kind.Word (codes "next")
    ∷ put 5 1 32 kind.Semicolon (codes ";")
    ∷ put 6 1 34 kind.Unsigned (codes "unsigned")
    ∷ put 7 1 43 kind.Word (codes "now")
    ∷ put 8 1 46 kind.Semicolon (codes ";")
    ∷ put 9 1 48 kind.CloseBrace (codes "}")
    ∷ put 10 1 49 kind.Semicolon (codes ";")
    ∷ rest

abbrev pub take_before : List Placed → List Placed
take_before rest =
    put 11 2 1 kind.Void (codes "void")
    ∷ put 12 2 6 kind.Word (codes "fair_take")
    ∷ put 13 2 15 kind.OpenParenthesis (codes "(")
    ∷ put 14 2 16 kind.Struct (codes "struct")
    ∷ put 15 2 23 kind.Word (codes "FairLock")
    ∷ put 16 2 32 kind.Star (codes "*")
    ∷ put 17 2 33 kind.Word (codes "l")
    ∷ put 18 2 34 kind.CloseParenthesis (codes ")")
    ∷ put 19 2 36 kind.OpenBrace (codes "{")
    ∷ put 20 2 38 kind.Pr (codes "pr")
    ∷ put 21 2 41 kind.Unsigned (codes "unsigned")
    ∷ put 22 2 50 kind.Word (codes "t")
    ∷ put 23 2 52 kind.Assign (codes "=")
    ∷ put 24 2 54 kind.Word (codes "mpadd")
    ∷ put 25 2 59 kind.OpenParenthesis (codes "(")
    ∷ put 26 2 60 kind.Ampersand (codes "&")
    ∷ put 27 2 61 kind.Word (codes "l")
    ∷ put 28 2 62 kind.Arrow (codes "->")
    ∷ put 29 2 64 kind.Word (codes "next")
    ∷ put 30 2 68 kind.Comma (codes ",")
    ∷ put 31 2 70 (kind.Number 1 false) (codes "1")
    ∷ put 32 2 71 kind.CloseParenthesis (codes ")")
    ∷ put 33 2 72 kind.Semicolon (codes ";")
    ∷ put 34 2 74 kind.While (codes "while")
    ∷ put 35 2 80 kind.OpenParenthesis (codes "(")
    ∷ put 36 2 81 kind.Word (codes "l")
    ∷ put 37 2 82 kind.Arrow (codes "->")
    ∷ put 38 2 84 kind.Word (codes "now")
    ∷ put 39 2 88 kind.NotEqualTo (codes "!=")
    ∷ put 40 2 91 kind.Word (codes "t")
    ∷ put 41 2 92 kind.CloseParenthesis (codes ")")
    ∷ put 42 2 94 kind.Semicolon (codes ";")
    ∷ put 43 2 96 kind.CloseBrace (codes "}")
    ∷ rest

abbrev pub give_before : List Placed → List Placed
give_before rest =
    put 44 3 1 kind.Void (codes "void")
    ∷ put 45 3 6 kind.Word (codes "fair_give")
    ∷ put 46 3 15 kind.OpenParenthesis (codes "(")
    ∷ put 47 3 16 kind.Struct (codes "struct")
    ∷ put 48 3 23 kind.Word (codes "FairLock")
    ∷ put 49 3 32 kind.Star (codes "*")
    ∷ put 50 3 33 kind.Word (codes "l")
    ∷ put 51 3 34 kind.CloseParenthesis (codes ")")
    ∷ put 52 3 36 kind.OpenBrace (codes "{")
    ∷ put 53 3 38 kind.Word (codes "mpadd")
    ∷ put 54 3 43 kind.OpenParenthesis (codes "(")
    ∷ put 55 3 44 kind.Ampersand (codes "&")
    ∷ put 56 3 45 kind.Word (codes "l")
    ∷ put 57 3 46 kind.Arrow (codes "->")
    ∷ put 58 3 48 kind.Word (codes "now")
    ∷ put 59 3 51 kind.Comma (codes ",")
    ∷ put 60 3 53 (kind.Number 1 false) (codes "1")
    ∷ put 61 3 54 kind.CloseParenthesis (codes ")")
    ∷ put 62 3 55 kind.Semicolon (codes ";")
    ∷ put 63 3 57 kind.CloseBrace (codes "}")
    ∷ rest
