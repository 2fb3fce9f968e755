-- Where one step of a reader stops, the reader stops.
use Rattle.std.proofs.Common.{◌≡◌, ℕ, zero, suc, ◌<◌, ◌≤◌, List, [], ◌∷◌, ◌++◌, Bool, true, Ok, Err, length, map, slice_index_or, refl, ap, sym, subst, arith}
use Rattle.fk_lex.specs.declared.token.Token.{Token}
use Rattle.fk_lex.specs.declared.token.TokenKind.{TokenKind}
use Rattle.fk_lex.specs.View.{spelled}
use Rattle.fk_parse_combinators.specs.declared.fault.SyntaxFault.{SyntaxFault}
use Rattle.fk_parse_combinators.specs.declared.fault.SyntaxFault.TheVariants.{Unexpected, EndOfText, Nesting, Memory}
use Rattle.fk_parse_combinators.specs.Languages.{Placed, numbered}
use Rattle.fk_parse_combinators.specs.Reads.{Stop, Answer, EndOfText as EndOfTextStop}
use Rattle.fk_parse_combinators.specs.Readers.{Reader, after, unexpected, next_is, either, repeated_within, repeated, giving, ◌and◌}
use Rattle.fk_parse_combinators.specs.Gives.{Halts}
use Rattle.fk_parse_combinators.specs.Faults.{IsMemory}
use Rattle.fk_parse_combinators.proofs.Repeats.{Going}

-- an answer without a value
abbrev pub same : (A B : Type 0) → Answer A → Answer B
same A B (Ok x) = Err EndOfTextStop
same A B (Err s) = Err s

err_after : {A B : Type 0} (a : Answer A) (f : A → List Placed → Answer B) (s : Stop) → a ≡ Err s → after a f ≡ Err s
err_after a f s e = ap (λ r. after r f) e

pub halts_after : {A B : Type 0} (a : Answer A) (f : A → List Placed → Answer B) (fault : SyntaxFault) (now : List Placed) → Halts a fault now → Halts (after a f) fault now
halts_after a f (Unexpected place) now h = (err_after a f _ h.0, h.1)
halts_after a f EndOfText now h = err_after a f _ h
halts_after a f (Nesting place) now h = (err_after a f _ h.0, h.1)
halts_after a f (Memory error) now h = tt

-- the fault of the next token
pub halts_unexpected : (at : ℕ) (rest : List Token) (d : Token) (now : List Placed) → 0 < length rest → numbered at (map spelled rest) ≡ now
    → Halts (unexpected {A = Placed} now) (Unexpected (slice_index_or rest 0 d).place) now
halts_unexpected at [] d now h e = absurd (omega (arith, h))
halts_unexpected at (t ∷ rest) d now h e = subst (λ ts. Halts (unexpected {A = Placed} ts) (Unexpected t.place) ts) e (refl, refl)

-- memory may run out at any answer
pub halts_memory : {A : Type 0} (a : Answer A) (fault : SyntaxFault) (now : List Placed) → IsMemory fault → Halts a fault now
halts_memory a (Memory error) now h = tt
halts_memory a (Unexpected place) now h = absurd h
halts_memory a (Nesting place) now h = absurd h
halts_memory a EndOfText now h = absurd h

-- ---- loops

stops_too_far : {A : Type 0} (fuel : ℕ) (is : TokenKind → Bool) (P : Reader A) (ahead : List Placed) (fault : SyntaxFault) (now : List Placed)
    → length ahead ≤ fuel → next_is is ahead ≡ true → Halts (P ahead) fault now → Halts (repeated_within fuel is P ahead) fault now
stops_too_far zero is P [] fault now few n h = cc
stops_too_far zero is P (t ∷ ts) fault now few n h = absurd (omega (arith, few))
stops_too_far (suc fuel) is P ahead fault now few n h =
    subst (λ b. Halts (either b (giving (λ x. x.0 ∷ x.1) (P and repeated_within fuel is P)) (λ rest. Ok ([], rest)) ahead) fault now) (sym n)
    (halts_after (after (P ahead) (λ a rest. after (repeated_within fuel is P rest) (λ b others. Ok ((a, b), others)))) (λ x rest. Ok (x.0 ∷ x.1, rest)) fault now
    (halts_after (P ahead) (λ a rest. after (repeated_within fuel is P rest) (λ b others. Ok ((a, b), others))) fault now h))

-- where one of many stops, the loop stops
pub halts_going : {A : Type 0} (is : TokenKind → Bool) (P : Reader A) (start ahead : List Placed) (items : List A) (fault : SyntaxFault) (now : List Placed)
    → next_is is ahead ≡ true → Halts (P ahead) fault now → Going is P start items ahead → Halts (repeated is P start) fault now
halts_going is P start ahead items fault now n h g =
    subst (λ a. Halts a fault now) (sym g.goes)
    (halts_after (repeated_within g.fuel is P ahead) (λ xs rest. Ok (items ++ xs, rest)) fault now (stops_too_far g.fuel is P ahead fault now g.enough n h))
