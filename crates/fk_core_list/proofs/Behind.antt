-- Where the first jump from an index on stands.
use Rattle.std.proofs.Common.{◌≡◌, ℕ, zero, suc, ◌<◌, ◌≤◌, List, [], ◌∷◌, length, get_or, true, false, ap, refl, ◌∙◌, arith}
use Rattle.std.specs.Prelude.{if◌then◌else◌}
use Rattle.fk_core.specs.declared.op.CoreOp.{CoreOp}
use Rattle.fk_core.specs.Next.{is_jump, past_jump, behind_jump}

-- at a jump
pub behind_at : (ops : List CoreOp) (i : ℕ) (other : CoreOp) → i < length ops → is_jump (get_or ops i other) ≡ true → behind_jump ops i ≡ suc i
behind_at [] i other lt e = absurd (let z : ⊥ = omega arith in z)
behind_at (op ∷ ops) zero other lt e = ap (λ b. if b then 1 else suc (past_jump ops)) e
behind_at (op ∷ ops) (suc i) other lt e = ap (λ n. suc n) (behind_at ops i other (omega arith) e)

from_here : (ops : List CoreOp) → past_jump ops ≡ behind_jump ops 0
from_here [] = refl
from_here (op ∷ ops) = refl

-- at another operation
pub behind_on : (ops : List CoreOp) (i : ℕ) (other : CoreOp) → i < length ops → is_jump (get_or ops i other) ≡ false → behind_jump ops i ≡ behind_jump ops (suc i)
behind_on [] i other lt e = absurd (let z : ⊥ = omega arith in z)
behind_on (op ∷ ops) zero other lt e = ap (λ b. if b then 1 else suc (past_jump ops)) e ∙ ap (λ n. suc n) (from_here ops)
behind_on (op ∷ ops) (suc i) other lt e = ap (λ n. suc n) (behind_on ops i other (omega arith) e)

-- behind the list
pub behind_end : (ops : List CoreOp) (i : ℕ) → length ops ≤ i → behind_jump ops i ≡ i
behind_end [] zero le = refl
behind_end [] (suc i) le = refl
behind_end (op ∷ ops) zero le = absurd (let z : ⊥ = omega arith in z)
behind_end (op ∷ ops) (suc i) le = ap (λ n. suc n) (behind_end ops i (omega arith))
