-- The indices from one on have been gone through.
use Rattle.std.proofs.Common.{◌≡◌, ℕ, ◌<◌, ◌≤◌, Bool, true, false, List, length}
use Rattle.fk_core.specs.declared.op.CoreOp.{CoreOp}
use Rattle.fk_core_liveness.specs.declared.set.Set.{Set}
use Rattle.fk_core_liveness.specs.Live.{asked, IsLeast, words_in, left_over}
use Rattle.fk_core_liveness.proofs.live.pass.Given as goal

pub record Gone (core : List CoreOp) (before live : List Set) (index : ℕ) (found : Bool) : Type 0 where
  pub low : index ≤ length live
  pub least : IsLeast core (words_in live)
  pub most : left_over live ≤ left_over before
  pub falls : found ≡ true → left_over live < left_over before
  pub all : found ≡ false → (i word : ℕ) → index ≤ i → asked core (words_in live) i word ≡ true → words_in live i word ≡ true

abbrev pub invariant-back : goal.invariant-back
invariant-back l = Gone l.ops l.initial.live l.live l.index l.found

abbrev pub decreases-back : goal.decreases-back
decreases-back l = l.index
