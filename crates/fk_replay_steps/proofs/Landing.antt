-- Where jumps lead.
use Rattle.std.proofs.Common.{◌≡◌, ℕ, suc, ◌+◌, ◌-◌, ◌<◌, List, length, true, ap, ◌∙◌, arith}
use Rattle.std.specs.Prelude.{slice_get, Some}
use Rattle.fk_core.specs.declared.op.CoreOp.{CoreOp}
use Rattle.fk_core.specs.Next.{is_jump, through, led_by, landing_by}

-- from a jump to where its target leads
pub on_by : (ops : List CoreOp) (jumps i : ℕ) (op : CoreOp) → slice_get ops i ≡ Some op → is_jump op ≡ true → landing_by ops (suc jumps) i ≡ landing_by ops jumps op.target
on_by ops jumps i op at jump =
    ap (λ o. led_by o (landing_by ops jumps) i) at ∙ ap (λ b. through b (landing_by ops jumps) i op.target) jump

-- the same for the jumps that are left behind others
pub on : (ops : List CoreOp) (passed i : ℕ) (op : CoreOp) → passed < length ops → slice_get ops i ≡ Some op → is_jump op ≡ true → landing_by ops (length ops - passed) i ≡ landing_by ops (length ops - (passed + 1)) op.target
on ops passed i op lt at jump =
    let left : length ops - passed ≡ suc (length ops - (passed + 1)) = omega arith in
    ap (λ k. landing_by ops k i) left ∙ on_by ops (length ops - (passed + 1)) i op at jump
