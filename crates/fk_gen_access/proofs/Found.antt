-- Where the values of a call stand in its hart's memory.
use Rattle.std.proofs.Common.{◌≡◌, ℕ, suc, ◌-◌, ◌<◌, ◌≤◌, List, ◌∷◌, length, ap, subst, sym, ◌∙◌, arith}
use Rattle.fk_num.specs.Word.{Memory, put, word_sum}
use Rattle.fk_sim_block.specs.Stands.{HasValues, frame_end, value_of, local_address}
use Rattle.fk_gen.specs.Lines.{at_value}
use Rattle.fk_gen.proofs.Values.{same_word, values_pushed}
use Rattle.fk_gen.proofs.ValueLines.{place_word}
use Rattle.fk_gen_access.proofs.Walk.{IsLocalAddress, local_index}

-- the k-th value of the running call stands k words before the word behind its frame
pub value_index : (n k a : ℕ) → n < 256 → 0 < k → k ≤ 56 → a ≡ local_address (frame_end n) → local_index (word_sum a (at_value k)) ≡ place_word n k
value_index n k a few some room e = omega arith

pub value_place : (n k a : ℕ) → n < 256 → 0 < k → k ≤ 56 → a ≡ local_address (frame_end n) → IsLocalAddress (word_sum a (at_value k))
value_place n k a few some room e = (omega arith, omega arith)

pub word_at : (m : Memory) (i v j : ℕ) → j ≡ i → put m i v j ≡ v
word_at m i v j e = ap (put m i v) e ∙ same_word m i v

-- one more value is put below the others
pub value_put : (m : Memory) (n k v w : ℕ) (vs : List ℕ) → suc (length vs) ≤ frame_end n → k ≡ place_word n (suc (length vs)) → v ≡ w → HasValues (value_of m n) vs
    → HasValues (value_of (put m k v) n) (w ∷ vs)
value_put m n k v w vs room at e held =
    subst (λ x. HasValues (value_of (put m k v) n) (x ∷ vs)) e (subst (λ j. HasValues (value_of (put m j v) n) (v ∷ vs)) (sym at) (values_pushed m n v vs room held))
