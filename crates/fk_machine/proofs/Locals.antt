-- The local memories of all harts.
use Rattle.std.proofs.Common.{◌≡◌, ℕ, zero, suc, ◌+◌, ◌-◌, ◌*◌, List, [], ◌∷◌, take, drop, ◌∙◌, refl}
use Rattle.std.specs.Prelude.{slice_index}
use Rattle.std.proofs.lemmas.List.{get_or-drop}
use Rattle.std.proofs.Math.Path.{fun_ext}
use Rattle.fk_machine.specs.View.{local_of}

zeros-take : (k : ℕ) (xs : List ℕ) → ((i : ℕ) → slice_index xs i ≡ 0) → (i : ℕ) → slice_index (take k xs) i ≡ 0
zeros-take zero xs zeros i = refl
zeros-take (suc k) [] zeros i = refl
zeros-take (suc k) (x ∷ xs) zeros zero = zeros 0
zeros-take (suc k) (x ∷ xs) zeros (suc i) = zeros-take k xs (λ j. zeros (suc j)) i

-- a part of zeros is a memory of zeros
pub local_of-zeros : (xs : List ℕ) → ((i : ℕ) → slice_index xs i ≡ 0) → (n : ℕ) → local_of xs n ≡ (λ i. 0)
local_of-zeros xs zeros n = fun_ext (zeros-take (32784 * n + 32768 - 32784 * n) (drop (32784 * n) xs) (λ i. get_or-drop (32784 * n) xs i 0 ∙ zeros (32784 * n + i)))
