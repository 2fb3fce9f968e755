-- Where a token opens a level too many, reading stops.
use Rattle.std.proofs.Common.{Result, ◌≡◌, ℕ, ◌<◌, List, [], ◌∷◌, Option, Bool, true, false, Ok, Err, length, ap, sym, subst, inl, inr, arith}
use Rattle.fk_lex.specs.declared.token.TokenKind.{TokenKind}
use Rattle.fk_parse_combinators.specs.declared.fault.SyntaxFault.{SyntaxFault}
use Rattle.fk_parse_combinators.specs.declared.fault.SyntaxFault.TheVariants.{Unexpected, EndOfText, Nesting, Memory}
use Rattle.fk_parse_combinators.specs.Languages.{Placed}
use Rattle.fk_parse_combinators.specs.Reads.{Stop}
use Rattle.fk_parse_combinators.specs.Readers.{Reader, opened, within, unexpected, next_is, either}
use Rattle.fk_expr.specs.Reading.{Readers}
use Rattle.fk_parse_combinators.specs.Gives.{Halts}
use Rattle.fk_expr.specs.Gives.{CannotOpen, Nests, Opens}
use Rattle.fk_parse_combinators.proofs.Halting.{same, halts_after, halts_memory, halts_going}
use Rattle.fk_parse_combinators.proofs.Repeats.{going_start, going_more, going_end}

other_value : (A B : Type 0) (s : Stop) (fault : SyntaxFault) (now : List Placed) → Halts {A = A} (Err s) fault now → Halts {A = B} (Err s) fault now
other_value A B s (Unexpected place) now h = (ap (same A B) h.0, h.1)
other_value A B s EndOfText now h = ap (same A B) h
other_value A B s (Nesting place) now h = (ap (same A B) h.0, h.1)
other_value A B s (Memory error) now h = tt

stops_too : (A B : Type 0) (ts : List Placed) (fault : SyntaxFault) (now : List Placed) → Halts (unexpected {A = A} ts) fault now → Halts (unexpected {A = B} ts) fault now
stops_too A B [] fault now h = other_value A B _ fault now h
stops_too A B (t ∷ ts) fault now h = other_value A B _ fault now h

-- where a token can't open a level, what would be read behind it stops
pub halts_opened : {A : Type 0} (is : TokenKind → Bool) (inner : Option Readers) (f : Readers → Reader A) (ts : List Placed) (fault : SyntaxFault)
    → CannotOpen is inner fault ts → Halts (opened is inner f ts) fault ts
halts_opened {A = A} is inner f ts fault (inl h) =
    subst (λ b. Halts (either b (within inner f) unexpected ts) fault ts) (sym h.0) (stops_too Placed A ts fault ts h.1)
halts_opened {A = A} is inner f ts fault (inr h) =
    subst (λ b. Halts (either b (within inner f) unexpected ts) fault ts) (sym h.0)
    (subst (λ i. Halts (within i f ts) fault ts) (sym h.1) (other_value Placed A _ fault ts h.2))

-- a token comes next
pub next_some : (is : TokenKind → Bool) (ts : List Placed) → next_is is ts ≡ true → 0 < length ts
next_some is [] n = cc
next_some is (t ∷ ts) n = omega arith

-- a token of these kinds opens a level where there is one more
pub opens_next : (is : TokenKind → Bool) (inner : Option Readers) (r : Result ℕ SyntaxFault) (ts : List Placed) → next_is is ts ≡ true → Nests inner r ts → Opens is inner r ts
opens_next is inner (Ok left) ts n h = (n, h)
opens_next is inner (Err fault) ts n h = inr (n, h.0, h.1)

-- a token of other kinds opens none
pub opens_none : (is : TokenKind → Bool) (inner : Option Readers) (fault : SyntaxFault) (ts : List Placed) → next_is is ts ≡ false
    → Halts (unexpected {A = Placed} ts) fault ts → Opens is inner (Err fault) ts
opens_none is inner fault ts n h = inl (n, h)

-- what the functions that read go by
pub ruleset halting = (halts_after, halts_opened, halts_memory, halts_going, going_start, going_more, going_end)
