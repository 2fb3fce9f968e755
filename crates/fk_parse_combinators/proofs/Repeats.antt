-- How a loop reads as many as come.
use Rattle.std.proofs.Common.{◌≡◌, ℕ, zero, suc, ◌<◌, ◌≤◌, List, [], ◌∷◌, ◌++◌, Bool, true, false, Ok, Err, length, map, refl, sym, ap, ◌∙◌, subst, arith, append_assoc, le_refl}
use Rattle.std.proofs.lemmas.List.{append-nil, map-append}
use Rattle.fk_lex.specs.declared.token.TokenKind.{TokenKind}
use Rattle.fk_parse_combinators.specs.Languages.{Placed}
use Rattle.fk_parse_combinators.specs.Reads.{Answer}
use Rattle.fk_parse_combinators.specs.Readers.{Reader, after, giving, ◌and◌, next_is, either, repeated_within, repeated}

-- from a start these were read, and what is ahead is read on
pub record Going {A : Type 0} (is : TokenKind → Bool) (P : Reader A) (start : List Placed) (items : List A) (ahead : List Placed) : Type 0 where
  pub fuel : ℕ
  pub enough : length ahead ≤ fuel
  pub goes : repeated is P start ≡ after (repeated_within fuel is P ahead) (λ xs rest. Ok (items ++ xs, rest))
  pub within : length ahead ≤ length start

after_same : {A : Type 0} (a : Answer (List A)) → a ≡ after a (λ xs rest. Ok ([] ++ xs, rest))
after_same (Ok x) = refl
after_same (Err e) = refl

pub going_start : {A : Type 0} (is : TokenKind → Bool) (P : Reader A) (start : List Placed) → Going is P start [] start
unfolding repeated
going_start is P start = record { fuel = length start; enough = le_refl (length start); goes = after_same _; within = le_refl (length start) }

after_cons : {A : Type 0} (a : A) (r : Answer (List A)) → after {A = A × List A} (after r (λ b others. Ok ((a, b), others))) (λ x rest. Ok (x.0 ∷ x.1, rest)) ≡ after r (λ xs others. Ok (a ∷ xs, others))
after_cons a (Ok x) = refl
after_cons a (Err e) = refl

after_push : {A : Type 0} (items : List A) (a : A) (r : Answer (List A))
    → after (after r (λ xs others. Ok (a ∷ xs, others))) (λ xs rest. Ok (items ++ xs, rest)) ≡ after r (λ xs rest. Ok ((items ++ a ∷ []) ++ xs, rest))
after_push items a (Ok x) = ap (λ xs. Ok (xs, x.1)) (sym (append_assoc items (a ∷ []) x.0))
after_push items a (Err e) = refl

-- one more
repeated_more : {A : Type 0} (n : ℕ) (is : TokenKind → Bool) (P : Reader A) (ahead rest : List Placed) (a : A)
    → next_is is ahead ≡ true → P ahead ≡ Ok (a, rest) → repeated_within (suc n) is P ahead ≡ after (repeated_within n is P rest) (λ xs others. Ok (a ∷ xs, others))
repeated_more {A} n is P ahead rest a h e =
    let Q : Reader (List A) = giving (λ x. x.0 ∷ x.1) (P and repeated_within n is P) in
    let R : Reader (List A) = (λ rest. Ok ([], rest)) in
    ap (λ b. either b Q R ahead) h ∙ ap (λ r. after {A = A × List A} (after r (λ a rest. after (repeated_within n is P rest) (λ b others. Ok ((a, b), others)))) (λ x rest. Ok (x.0 ∷ x.1, rest))) e ∙ after_cons a (repeated_within n is P rest)

repeated_end : {A : Type 0} (n : ℕ) (is : TokenKind → Bool) (P : Reader A) (ahead : List Placed) → next_is is ahead ≡ false → repeated_within n is P ahead ≡ Ok ([], ahead)
repeated_end {A} zero is P ahead h = refl
repeated_end {A} (suc n) is P ahead h =
    let Q : Reader (List A) = giving (λ x. x.0 ∷ x.1) (P and repeated_within n is P) in
    let R : Reader (List A) = (λ rest. Ok ([], rest)) in
    ap (λ b. either b Q R ahead) h

-- none comes
pub repeated_none : {A : Type 0} (is : TokenKind → Bool) (P : Reader A) (ahead : List Placed) → next_is is ahead ≡ false → repeated is P ahead ≡ Ok ([], ahead)
unfolding repeated
repeated_none is P ahead h = repeated_end (length ahead) is P ahead h

more_by : {A : Type 0} (fuel : ℕ) (is : TokenKind → Bool) (P : Reader A) (start ahead rest : List Placed) (items : List A) (a : A)
    → next_is is ahead ≡ true → P ahead ≡ Ok (a, rest) → length rest < length ahead → length ahead ≤ fuel → length ahead ≤ length start
    → repeated is P start ≡ after (repeated_within fuel is P ahead) (λ xs rest. Ok (items ++ xs, rest))
    → Going is P start (items ++ a ∷ []) rest
more_by zero is P start ahead rest items a n e less enough within goes = absurd (omega arith)
more_by (suc fuel) is P start ahead rest items a n e less enough within goes = record {
  fuel = fuel;
  enough = omega arith;
  goes = goes ∙ ap (λ r. after r (λ xs rest. Ok (items ++ xs, rest))) (repeated_more fuel is P ahead rest a n e) ∙ after_push items a (repeated_within fuel is P rest);
  within = omega arith;
}

pub going_more : {A : Type 0} (is : TokenKind → Bool) (P : Reader A) (start ahead rest : List Placed) (items : List A) (a : A)
    → next_is is ahead ≡ true → P ahead ≡ Ok (a, rest) → length rest < length ahead → Going is P start items ahead → Going is P start (items ++ a ∷ []) rest
going_more is P start ahead rest items a n e less g = more_by g.fuel is P start ahead rest items a n e less g.enough g.within g.goes

pub going_end : {A : Type 0} (is : TokenKind → Bool) (P : Reader A) (start ahead : List Placed) (items : List A)
    → next_is is ahead ≡ false → Going is P start items ahead → repeated is P start ≡ Ok (items, ahead)
going_end is P start ahead items n g =
    g.goes ∙ ap (λ r. after r (λ xs rest. Ok (items ++ xs, rest))) (repeated_end g.fuel is P ahead n) ∙ ap (λ xs. Ok (xs, ahead)) (append-nil items)

-- the same where the tokens that are left go by another name
pub going_ended : {A : Type 0} (is : TokenKind → Bool) (P : Reader A) (start ahead now : List Placed) (items : List A)
    → next_is is ahead ≡ false → now ≡ ahead → Going is P start items ahead → repeated is P start ≡ Ok (items, now)
going_ended is P start ahead now items n e g = going_end is P start ahead items n g ∙ ap (λ ts. Ok (items, ts)) (sym e)

-- ---- where the items are those of a list of the code

pub items_more : {X A : Type 0} (is : TokenKind → Bool) (P : Reader A) (start ahead rest : List Placed) (view : X → A) (items more : List X) (x : X)
    → next_is is ahead ≡ true → P ahead ≡ Ok (view x, rest) → length rest < length ahead → more ≡ items ++ x ∷ [] → Going is P start (map view items) ahead → Going is P start (map view more) rest
items_more is P start ahead rest view items more x n e less pushed g =
    subst (λ xs. Going is P start xs rest) (sym (ap (map view) pushed ∙ map-append view items (x ∷ []))) (going_more is P start ahead rest (map view items) (view x) n e less g)
