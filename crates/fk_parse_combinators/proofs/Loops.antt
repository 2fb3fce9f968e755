-- What a loop that reads as many as come knows as it goes.
use Rattle.std.proofs.Common.{◌≡◌, ◌+◌, ◌<◌, ◌≤◌, ◌^◌, List, [], ◌∷◌, ◌++◌, Bool, true, false, Ok, length, length-append, ap, arith}
use Rattle.fk_lex.specs.declared.token.TokenKind.{TokenKind}
use Rattle.fk_parse_combinators.specs.Languages.{Placed}
use Rattle.fk_parse_combinators.specs.Readers.{Reader, next_is, repeated}
use Rattle.fk_parse_combinators.specs.Ahead.{Shortens, Leaves}
use Rattle.fk_parse_combinators.proofs.Repeats.{Going, going_start, going_more, going_ended}

-- from a start these were read, and what is ahead is read on
pub record Loops {A : Type 0} (is : TokenKind → Bool) (P : Reader A) (start : List Placed) (items : List A) (ahead : List Placed) : Type 0 where
  pub less : length items + length ahead ≤ length start
  pub few : length ahead < 2 ^ 32 → length start < 2 ^ 32
  pub going : Going is P start items ahead

pub loops_start : {A : Type 0} (is : TokenKind → Bool) (P : Reader A) (start : List Placed) → Loops is P start [] start
loops_start is P start = record { less = omega arith; few = λ h. h; going = going_start is P start }

pub loops_more : {A : Type 0} (is : TokenKind → Bool) (P : Reader A) (start ahead rest : List Placed) (items : List A) (a : A)
    → next_is is ahead ≡ true → P ahead ≡ Ok (a, rest) → Shortens ahead rest → Loops is P start items ahead → Loops is P start (items ++ a ∷ []) rest
loops_more is P start ahead rest items a n e less l = record {
  less = omega (arith, length-append items (a ∷ []), less.0, l.less);
  few = λ h. l.few less.1;
  going = going_more is P start ahead rest items a n e less.0 l.going;
}

pub loops_end : {A : Type 0} (is : TokenKind → Bool) (P : Reader A) (start ahead now : List Placed) (items : List A)
    → next_is is ahead ≡ false → now ≡ ahead → length ahead < 2 ^ 32 → Loops is P start items ahead → (repeated is P start ≡ Ok (items, now)) × Leaves start now
loops_end is P start ahead now items n e h l =
    (going_ended is P start ahead now items n e l.going, (omega (arith, ap (λ (ts : List Placed). length ts) e, l.less), l.few h))
