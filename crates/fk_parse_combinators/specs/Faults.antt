-- The meaning of the faults of the code.
use Rattle.std.specs.Prelude.{◌≡◌, ℕ, List, ◌∷◌, map, drop}
use Rattle.fk_lex.specs.declared.token.Token.{Token}
use Rattle.fk_lex.specs.View.{spelled}
use Rattle.fk_parse_combinators.specs.declared.fault.SyntaxFault.{SyntaxFault}
use Rattle.fk_parse_combinators.specs.declared.fault.SyntaxFault.TheVariants.{Unexpected, EndOfText}
use Rattle.fk_parse_combinators.specs.declared.fault.SyntaxFault.TheVariants.{Nesting, Memory}
use Rattle.fk_parse_combinators.specs.Languages.{Placed, numbered}
use Rattle.fk_parse_combinators.specs.Reads.{Stop}
use Rattle.fk_parse_combinators.specs.Reads as stop

-- there wasn't enough memory
abbrev pub IsMemory : SyntaxFault → Type 0
IsMemory (Memory error) = Unit {0}
IsMemory fault = ⊥

-- a fault gives the reason why nothing is read, with the place of the token at fault; there may be
-- too little memory for any reason
abbrev pub Tells : (Stop → Type 0) → SyntaxFault → Type 0
Tells why (Unexpected place) = (t : Placed) × (rest : List Placed) × (t.place ≡ place)
    × why (stop.Unexpected (t ∷ rest))
Tells why EndOfText = why stop.EndOfText
Tells why (Nesting place) = (t : Placed) × (rest : List Placed) × (t.place ≡ place)
    × why (stop.Nesting (t ∷ rest))
Tells why (Memory error) = Unit {0}

-- the tokens of a text from index `at` on
abbrev pub tokens_from : ℕ → List Token → List Placed
tokens_from at tokens = numbered at (map spelled (drop at tokens))
