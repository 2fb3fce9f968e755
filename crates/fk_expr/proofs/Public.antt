-- What was read of tokens, by their indices.
use Rattle.std.proofs.Common.{◌≡◌, ℕ, ◌+◌, ◌-◌, ◌≤◌, List, [], ◌∷◌, ◌++◌, Some, Result, Ok, Err, IfOk, length, map, drop, ap, sym, ◌∙◌, subst, arith}
use Rattle.std.proofs.lemmas.List.{drop-drop, length-append, length-drop}
use Rattle.fk_lex.specs.declared.token.Token.{Token}
use Rattle.fk_lex.specs.View.{spelled}
use Rattle.fk_parse_combinators.specs.declared.fault.SyntaxFault.{SyntaxFault}
use Rattle.fk_parse_combinators.specs.declared.fault.SyntaxFault.TheVariants.{Unexpected, EndOfText, Nesting, Memory}
use Rattle.fk_parse_combinators.specs.declared.limits.TheConstants.{LEVELS}
use Rattle.fk_parse_combinators.specs.Languages.{Placed, numbered, tokens_of}
use Rattle.fk_parse_combinators.specs.Reads.{Stop, Answer, Family, Reads}
use Rattle.fk_parse_combinators.specs.Reads as stop
use Rattle.fk_parse_combinators.specs.Faults.{Tells, tokens_from}
use Rattle.fk_parse_combinators.specs.Gives.{Halts, Gives, next_place}
use Rattle.fk_expr.specs.Grammar.{base, Comma, Assignment}
use Rattle.fk_expr.specs.Reading.{inner, read_base, read_comma, read_assignment}
use Rattle.fk_parse_combinators.proofs.Cursors.{length-numbered}
use Rattle.fk_expr.proofs.TypeNames.{reads_base}
use Rattle.fk_parse_combinators.proofs.Longest.{reads}
use Rattle.fk_expr.proofs.Expressions.{reads_comma, reads_assignment}
use Rattle.std.specs.Result.{IsErrAnd, IfErr}
use Rattle.fk_parse_combinators.specs.Kinds.{just}
use Rattle.fk_lex.specs.declared.token.TokenKind.TheVariants as kind

tail_of : (at : ℕ) (ts : List Token) (s rest : List Placed) → numbered at (map spelled ts) ≡ s ++ rest
    → rest ≡ numbered (at + length s) (map spelled (drop (length s) ts))
tail_of at ts [] rest e = sym e ∙ ap (λ n. numbered n (map spelled ts)) (omega arith)
tail_of at [] (p ∷ s) rest e = cc
tail_of at (t ∷ ts) (p ∷ s) rest e =
    tail_of (at + 1) ts s rest (ap (drop 1) e) ∙ ap (λ n. numbered n (map spelled (drop (length s) ts))) (omega arith)

-- what is left of tokens are the last ones
pub lands : (at : ℕ) (ts : List Token) (s rest : List Placed) → at ≤ length ts → tokens_from at ts ≡ s ++ rest → rest ≡ tokens_from (length ts - length rest) ts
lands at ts s rest h e =
    let n : length (drop at ts) ≡ length s + length rest = sym (length-numbered at (drop at ts)) ∙ ap (λ (xs : List Placed). length xs) e ∙ length-append s rest in
    let d : length (drop at ts) + at ≡ length ts = grind (arith, length-drop) in
    let k : at + length s ≡ length ts - length rest = omega arith in
    tail_of at (drop at ts) s rest e ∙ grind (arith, drop-drop)

-- an answer with a value is one where the rest of the tokens is left
pub read_to : {A : Type 0} (L : Family A) (at : ℕ) (ts : List Token) (answer : Answer A) (a : A) (now : List Placed)
    → at ≤ length ts → Reads L (tokens_from at ts) answer → answer ≡ Ok (a, now) → Reads L (tokens_from at ts) (Ok (a, tokens_from (length ts - length now) ts))
read_to L at ts answer a now h r e =
    let v : Reads L (tokens_from at ts) (Ok (a, now)) = subst (λ x. Reads L (tokens_from at ts) x) e r in
    subst (λ rest. Reads L (tokens_from at ts) (Ok (a, rest))) (lands at ts (tokens_of v.stretch) now h v.longest.first) v

told : (make : List Placed → Stop) (why : Stop → Type 0) (now : List Placed) (place : _) → next_place now ≡ Some place → why (make now)
    → (t : Placed) × (rest : List Placed) × (t.place ≡ place) × why (make (t ∷ rest))
told make why [] place e w = cc
told make why (t ∷ rest) place e w = (t, rest, cc, w)

-- where a reader halts, the fault tells why
pub halts_tells : {A : Type 0} (why : Stop → Type 0) (answer : Answer A) (fault : SyntaxFault) (now : List Placed)
    → ((s : Stop) → answer ≡ Err s → why s) → Halts answer fault now → Tells why fault
halts_tells why answer (Unexpected place) now w h = told stop.Unexpected why now place h.1 (w _ h.0)
halts_tells why answer EndOfText now w h = w _ h
halts_tells why answer (Nesting place) now w h = told stop.Nesting why now place h.1 (w _ h.0)
halts_tells why answer (Memory error) now w h = tt

-- a call that only hands on the fault
pub tells_fault : {X : Type 0} (why : Stop → Type 0) (r : Result X SyntaxFault) (fault : SyntaxFault) → IsErrAnd r (λ z. z ≡ fault) → Tells why fault → IfErr r (Tells why)
tells_fault why (Ok x) fault e h = absurd e
tells_fault why (Err z) fault e h = subst (λ z. Tells why z) (sym e) h

pub short_from : (at : ℕ) (ts : List Token) → length (tokens_from at ts) ≤ length ts
short_from at ts = grind (arith, length-numbered, length-drop)

stop_of : {A : Type 0} (L : Family A) (tokens : List Placed) (answer : Answer A) → Reads L tokens answer → (s : Stop) → answer ≡ Err s → Reads L tokens (Err s)
stop_of L tokens answer r s e = subst (λ a. Reads L tokens a) e r

-- where a reader that reads as a language says halts, the fault tells why
pub refuses : {A : Type 0} (L : Family A) (tokens : List Placed) (answer : Answer A) (fault : SyntaxFault) (now : List Placed)
    → Reads L tokens answer → Halts answer fault now → Tells (λ stop. Reads L tokens (Err stop)) fault
refuses L tokens answer fault now r h = halts_tells (λ stop. Reads L tokens (Err stop)) answer fault now (stop_of L tokens answer r) h

-- ---- at a cursor

-- what holds of an answer holds of the value that was read
pub given : {A X : Type 0} (view : X → A) (r : Result X SyntaxFault) (now : List Placed) (answer : Answer A) (R : Answer A → Type 0)
    → Gives view r now answer → R answer → IfOk r (λ x. R (Ok (view x, now)))
given view (Ok x) now answer R g h = subst R g h
given view (Err fault) now answer R g h = tt

-- and of the reason that a fault tells
pub not_given : {A X : Type 0} (view : X → A) (r : Result X SyntaxFault) (now : List Placed) (answer : Answer A) (R : Answer A → Type 0)
    → Gives view r now answer → R answer → IfErr r (Tells (λ stop. R (Err stop)))
not_given view (Ok x) now answer R g h = tt
not_given view (Err fault) now answer R g h = halts_tells (λ stop. R (Err stop)) answer fault now (λ s e. subst R e h) g

-- tokens are read so, where so many levels are left
pub comma_where : (left : ℕ) (ts : List Placed) → left ≤ LEVELS → Reads (Comma (LEVELS - left)) ts (read_comma (inner left) ts)
comma_where left ts h =
    let same : LEVELS - (LEVELS - left) ≡ left = omega arith in
    subst (λ n. Reads (Comma (LEVELS - left)) ts (read_comma (inner n) ts)) same (reads_comma (LEVELS - left) ts (omega arith))

pub assignment_where : (left : ℕ) (ts : List Placed) → left ≤ LEVELS → Reads (Assignment (LEVELS - left)) ts (read_assignment (inner left) ts)
assignment_where left ts h =
    let same : LEVELS - (LEVELS - left) ≡ left = omega arith in
    subst (λ n. Reads (Assignment (LEVELS - left)) ts (read_assignment (inner n) ts)) same (reads_assignment (LEVELS - left) ts (omega arith))

-- and the first words of a type
pub base_where : (ts : List Placed) → Reads (λ bound. base 0) ts (read_base ts)
base_where ts =
    reads {L = λ bound. base 0} {P = read_base} {goes_on = just kind.Int} {room = λ bound. Unit {0}}
    (record { enough = 0; has_room = tt; exact = λ bound. (reads_base 0 (omega arith)).exact }) ts
