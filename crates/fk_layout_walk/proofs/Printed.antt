-- What is left of a text.
use Rattle.std.proofs.Common.{◌≡◌, ℕ, ◌<◌, ◌≤◌, ◌≢◌, List, [], ◌∷◌, drop, get_or, length, refl, arith, rules}
use Rattle.fk_meaning_forms.specs.Texts.{up_to_quote, escaped}

pub short : (xs : List ℕ) → length xs ≤ 1 → up_to_quote xs ≡ []
short [] h = refl
short (x ∷ []) h = refl
short (x ∷ y ∷ zs) h = absurd (omega arith)

pub next_escaped : (xs : List ℕ) → 1 < length xs → get_or xs 0 0 ≡ 92 → up_to_quote xs ≡ escaped (get_or xs 1 0) ∷ up_to_quote (drop 2 xs)
next_escaped [] h e = absurd (omega arith)
next_escaped (b ∷ []) h e = absurd (omega arith)
next_escaped (b ∷ x ∷ xs) h e = search rules

pub next_byte : (xs : List ℕ) → 1 < length xs → get_or xs 0 0 ≢ 92 → up_to_quote xs ≡ get_or xs 0 0 ∷ up_to_quote (drop 1 xs)
next_byte [] h e = absurd (omega arith)
next_byte (b ∷ []) h e = absurd (omega arith)
next_byte (b ∷ x ∷ xs) h e = search rules
