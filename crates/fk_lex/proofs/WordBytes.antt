-- A table of all bytes that tells letters, digits and `_`.
use Rattle.std.proofs.Common.{◌≡◌, ℕ, zero, suc, ◌+◌, ◌<◌, ◌&&◌, not, Bool, true, false, List, [], ◌∷◌, length, get_or, refl, sym, ap, ◌∙◌, arith, if◌then◌else◌}
use Rattle.fk_lex.specs.Bytes.{is_word_byte}
use Rattle.fk_lex.proofs.Tests.{both_true}

abbrev same : Bool → Bool → Bool
same a b = if a then b else not b

same_is : (a b : Bool) → same a b ≡ true → a ≡ b
same_is true true is = refl
same_is true false is = cc
same_is false true is = cc
same_is false false is = refl

-- a table tells the bytes from this one on
abbrev pub tells_from : ℕ → List Bool → Bool
tells_from first [] = true
tells_from first (told ∷ others) = same told (is_word_byte first) && tells_from (first + 1) others

told_at : (table : List Bool) (first k c : ℕ) → tells_from first table ≡ true → k < length table → c ≡ first + k → get_or table k false ≡ is_word_byte c
told_at [] first k c tells inside is = absurd (omega arith)
told_at (told ∷ others) first zero c tells inside is =
    let here : first ≡ c = omega arith in
    same_is told (is_word_byte first) (both_true (same told (is_word_byte first)) (tells_from (first + 1) others) tells).0 ∙ ap is_word_byte here
told_at (told ∷ others) first (suc k) c tells inside is =
    told_at others (first + 1) k c (both_true (same told (is_word_byte first)) (tells_from (first + 1) others) tells).1 (omega arith) (omega arith)

-- a table of all bytes
pub told : (table : List Bool) (c : ℕ) → tells_from 0 table ≡ true → length table ≡ 256 → c < 256 → get_or table c false ≡ is_word_byte c
told table c tells all small = told_at table 0 c c tells (omega arith) (omega arith)
