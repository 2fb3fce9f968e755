-- Sizes in bytes as words, and masks of ones.
use Rattle.std.proofs.Common.{◌≡◌, ℕ, ◌+◌, ◌-◌, ◌/◌, ◌^◌, ◌<◌, ◌≤◌, ap, ◌∙◌, arith}
use Rattle.std.specs.Prelude.{bit_and, if◌then◌else◌}
use Rattle.std.proofs.lemmas.Nat.Bits.{and_high_mask}
use Rattle.std.proofs.lemmas.Bool.{lt-ltb, le-ltb}
use Rattle.fk_meaning_store.specs.Serve.{words_of}

pub ones : (x : ℕ) → x < 2 ^ 32 → bit_and x (2 ^ 32 - 1) ≡ x
ones x lt = and_high_mask 32 0 (omega arith) x lt ∙ omega arith

pub words_small : (bytes : ℕ) → bytes < 2 ^ 31 → words_of bytes ≡ (bytes + 3) / 4
words_small bytes lt = ap (λ b. if b then (bytes + 3) / 4 else 0) (lt-ltb bytes (2 ^ 31) lt)

pub words_large : (bytes : ℕ) → 2 ^ 31 ≤ bytes → words_of bytes ≡ 0
words_large bytes le = ap (λ b. if b then (bytes + 3) / 4 else 0) (le-ltb bytes (2 ^ 31) le)
