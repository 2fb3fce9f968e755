-- How what may come next is read.
use Rattle.std.proofs.Common.{◌≡◌, List, Some, Ok, Bool, true}
use Rattle.fk_lex.specs.declared.token.TokenKind.{TokenKind}
use Rattle.fk_parse_combinators.specs.Languages.{Placed}
use Rattle.fk_parse_combinators.specs.Readers.{Reader, next_is, optional}

pub optional_read : {A : Type 0} (is : TokenKind → Bool) (P : Reader A) (ts : List Placed) (a : A) (rest : List Placed)
    → next_is is ts ≡ true → P ts ≡ Ok (a, rest) → optional is P ts ≡ Ok (Some a, rest)
optional_read is P ts a rest n e = rw (n, e)
