-- As many sets as operations, and none with a word that could be left out.
use Rattle.std.proofs.Common.{◌≡◌, List, length}
use Rattle.fk_core.specs.declared.op.CoreOp.{CoreOp}
use Rattle.fk_core_liveness.specs.declared.set.Set.{Set}
use Rattle.fk_core_liveness.specs.Live.{IsLeast, words_in, left_over}
use Rattle.fk_core_liveness.proofs.live.settle.Given as goal

pub record Growing (core : List CoreOp) (live : List Set) : Type 0 where
  pub long : length live ≡ length core
  pub least : IsLeast core (words_in live)

abbrev pub invariant-passes : goal.invariant-passes
invariant-passes l = Growing l.ops l.live

abbrev pub decreases-passes : goal.decreases-passes
decreases-passes l = left_over l.live
