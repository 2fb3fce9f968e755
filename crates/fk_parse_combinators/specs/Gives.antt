-- The results of the code in terms of the readers of the definitions: one clause covers both values
-- and faults.
use Rattle.std.specs.Prelude.{◌≡◌, List, [], ◌∷◌, Option, Some, None, Result, Ok, Err}
use Rattle.fk_syntax.specs.declared.place.Place.{Place}
use Rattle.fk_parse_combinators.specs.declared.fault.SyntaxFault.{SyntaxFault}
use Rattle.fk_parse_combinators.specs.declared.fault.SyntaxFault.TheVariants.{Unexpected, EndOfText}
use Rattle.fk_parse_combinators.specs.declared.fault.SyntaxFault.TheVariants.{Nesting, Memory}
use Rattle.fk_parse_combinators.specs.Languages.{Placed}
use Rattle.fk_parse_combinators.specs.Reads.{Answer}
use Rattle.fk_parse_combinators.specs.Reads as stop

-- the place of the next token
abbrev pub next_place : List Placed → Option Place
next_place [] = None
next_place (t ∷ ts) = Some t.place

-- a reader stops with the fault of the code, at the tokens that are left; there may be too little
-- memory for any answer
abbrev pub Halts : {A : Type 0} → Answer A → SyntaxFault → List Placed → Type 0
Halts answer (Unexpected place) now = (answer ≡ Err (stop.Unexpected now))
    × (next_place now ≡ Some place)
Halts answer EndOfText now = answer ≡ Err stop.EndOfText
Halts answer (Nesting place) now = (answer ≡ Err (stop.Nesting now)) × (next_place now ≡ Some place)
Halts answer (Memory error) now = Unit {0}

-- the result of the code, seen through a view, with the tokens that are left, is the answer of a
-- reader
abbrev pub Gives : {A B : Type 0} → (A → B) → Result A SyntaxFault → List Placed → Answer B → Type 0
Gives view (Ok a) now answer = answer ≡ Ok (view a, now)
Gives view (Err fault) now answer = Halts answer fault now

-- the view of the result is made of the value that a reader reads
abbrev pub Makes : {A B C : Type 0} → (B → A) → (C → A) → Result C SyntaxFault → List Placed
    → Answer B → Type 0
Makes {B = B} made view (Ok c) now answer = (b : B) × (answer ≡ Ok (b, now)) × (made b ≡ view c)
Makes made view (Err fault) now answer = Halts answer fault now
