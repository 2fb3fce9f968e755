-- The operations so far.
use Rattle.std.proofs.Common.{ℕ, ◌<◌}
use Rattle.fk_compile.proofs.Generable.{HasWordsAt}
use Rattle.fk_compile.proofs.list.have_words.Given as goal

abbrev pub invariant-loop-op : goal.invariant-loop-op
invariant-loop-op l = (k : ℕ) → k < l.op-index → HasWordsAt l.ops k
