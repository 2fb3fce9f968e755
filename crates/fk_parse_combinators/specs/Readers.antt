-- Readers of tokens, and their combinators. The contracts of private functions describe in these
-- terms what is read.
use Rattle.std.specs.Prelude.{ℕ, zero, suc, List, [], ◌∷◌, Option, Some, None, Bool, true, false}
use Rattle.std.specs.Prelude.{Ok, Err, length}
use Rattle.fk_lex.specs.declared.token.TokenKind.{TokenKind}
use Rattle.fk_parse_combinators.specs.Languages.{Placed}
use Rattle.fk_parse_combinators.specs.Reads.{Unexpected, EndOfText, Nesting, Answer}
use Rattle.fk_parse_combinators.specs.Kinds.{just}

-- ---- readers and their combinators

abbrev pub Reader : Type 0 → Type 0
Reader A = List Placed → Answer A

-- goes on reading after an answer
abbrev pub after : {A B : Type 0} → Answer A → (A → List Placed → Answer B) → Answer B
after (Ok x) f = f x.0 x.1
after (Err e) f = Err e

-- a function applied to the value that a reader reads
abbrev pub giving : {A B : Type 0} → (A → B) → Reader A → Reader B
giving f P ts = after (P ts) (λ a rest. Ok (f a, rest))

-- two readers, one after the other
infixr 40 ◌and◌
abbrev pub ◌and◌ : {A B : Type 0} → Reader A → Reader B → Reader (A × B)
(P and Q) ts = after (P ts) (λ a rest. after (Q rest) (λ b others. Ok ((a, b), others)))

-- whether the next token has one of these kinds
abbrev pub next_is : (TokenKind → Bool) → List Placed → Bool
next_is is [] = false
next_is is (t ∷ ts) = is t.kind

-- the value that the kind of the next token gives
abbrev pub next_tells : {A : Type 0} → (TokenKind → Option A) → List Placed → Option A
next_tells told [] = None
next_tells told (t ∷ ts) = told t.kind

abbrev pub does_tell : {A : Type 0} → Option A → Bool
does_tell None = false
does_tell (Some a) = true

-- the kinds that give a value
abbrev pub tells : {A : Type 0} → (TokenKind → Option A) → TokenKind → Bool
tells told kind = does_tell (told kind)

-- the next token doesn't fit after what was read
abbrev pub unexpected : {A : Type 0} → Reader A
unexpected [] = Err EndOfText
unexpected (t ∷ ts) = Err (Unexpected (t ∷ ts))

-- the next token, which must have this kind
abbrev pub expect : TokenKind → Reader Placed
expect kind [] = Err EndOfText
expect kind (t ∷ ts) =
    elim (just kind t.kind) [ true ↦ Ok (t, ts) | false ↦ Err (Unexpected (t ∷ ts)) ]

-- the next token, whose kind must give a value
abbrev pub told_by : {A : Type 0} → Placed → List Placed → Option A → Answer (Placed × A)
told_by t ts None = Err (Unexpected (t ∷ ts))
told_by t ts (Some a) = Ok ((t, a), ts)

abbrev pub expect_told : {A : Type 0} → (TokenKind → Option A) → Reader (Placed × A)
expect_told told [] = Err EndOfText
expect_told told (t ∷ ts) = told_by t ts (told t.kind)

-- one reader or another, by the next token
abbrev pub either : {A : Type 0} → Bool → Reader A → Reader A → Reader A
either true P Q ts = P ts
either false P Q ts = Q ts

abbrev pub by_next : {A : Type 0} → (TokenKind → Bool) → Reader A → Reader A → Reader A
by_next is P Q ts = either (next_is is ts) P Q ts

-- a reader, if the next token begins what it reads; else nothing
abbrev pub optional : {A : Type 0} → (TokenKind → Bool) → Reader A → Reader (Option A)
optional is P = by_next is (giving Some P) (λ ts. Ok (None, ts))

-- at most this many repetitions, as long as the next token begins one
abbrev pub repeated_within : {A : Type 0} → ℕ → (TokenKind → Bool) → Reader A → Reader (List A)
repeated_within zero is P ts = Ok ([], ts)
repeated_within (suc most) is P ts =
    by_next is (giving (λ (first, others). first ∷ others) (P and repeated_within most is P))
    (λ rest. Ok ([], rest)) ts

-- all repetitions: there are no more of them than tokens, because each has at least one
unfoldable pub repeated : {A : Type 0} → (TokenKind → Bool) → Reader A → Reader (List A)
repeated is P ts = repeated_within (length ts) is P ts

-- ---- levels

-- a reader one level deeper
abbrev pub within : {R A : Type 0} → Option R → (R → Reader A) → Reader A
within None f ts = Err (Nesting ts)
within (Some inner) f ts = f inner ts

-- the next token must have one of these kinds, and opens a level
abbrev pub opened : {R A : Type 0} → (TokenKind → Bool) → Option R → (R → Reader A) → Reader A
opened is inner f = by_next is (within inner f) unexpected
