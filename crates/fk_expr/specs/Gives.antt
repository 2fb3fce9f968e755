-- What the code returns about a token that opens a level.
use Rattle.std.specs.Prelude.{◌≡◌, ℕ, List, Option, Some, None, Bool, true, false, ◌⊎◌, Result, Ok}
use Rattle.std.specs.Prelude.{Err}
use Rattle.fk_lex.specs.declared.token.TokenKind.{TokenKind}
use Rattle.fk_parse_combinators.specs.declared.fault.SyntaxFault.{SyntaxFault}
use Rattle.fk_parse_combinators.specs.Languages.{Placed}
use Rattle.fk_parse_combinators.specs.Reads as stop
use Rattle.fk_expr.specs.Reading.{Readers}
use Rattle.fk_parse_combinators.specs.Readers.{unexpected, next_is}
use Rattle.fk_expr.specs.Ahead.{readers}
use Rattle.fk_parse_combinators.specs.Gives.{Halts}

-- the next token doesn't have one of these kinds, or it does and opens a level too many
abbrev pub CannotOpen : (TokenKind → Bool) → Option Readers → SyntaxFault → List Placed → Type 0
CannotOpen is inner fault ts =
    (next_is is ts ≡ false) × Halts (unexpected {A = Placed} ts) fault ts
    ⊎ (next_is is ts ≡ true) × (inner ≡ None) × Halts {A = Placed} (Err (stop.Nesting ts)) fault ts

-- this number of levels is left inside the next token, or it opens a level too many
abbrev pub Nests : Option Readers → Result ℕ SyntaxFault → List Placed → Type 0
Nests inner (Ok left) ts = inner ≡ Some (readers left)
Nests inner (Err fault) ts = (inner ≡ None) × Halts {A = Placed} (Err (stop.Nesting ts)) fault ts

-- this number of levels is left inside the next token, which must have one of these kinds
abbrev pub Opens : (TokenKind → Bool) → Option Readers → Result ℕ SyntaxFault → List Placed → Type 0
Opens is inner (Ok left) ts = (next_is is ts ≡ true) × (inner ≡ Some (readers left))
Opens is inner (Err fault) ts = CannotOpen is inner fault ts
