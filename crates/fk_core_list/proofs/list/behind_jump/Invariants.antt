-- No jump has been found so far.
use Rattle.std.proofs.Common.{◌≡◌, ℕ, ◌-◌, ◌≤◌, List, length}
use Rattle.fk_core.specs.declared.op.CoreOp.{CoreOp}
use Rattle.fk_core.specs.Next.{behind_jump}
use Rattle.fk_core_list.proofs.list.behind_jump.Given as goal

pub record Sought (ops : List CoreOp) (index end : ℕ) : Type 0 where
  pub low : end ≤ length ops
  pub same : behind_jump ops end ≡ behind_jump ops index

abbrev pub invariant-ops : goal.invariant-ops
invariant-ops l = Sought l.ops l.index l.end

abbrev pub decreases-ops : goal.decreases-ops
decreases-ops l = length l.ops - l.end
