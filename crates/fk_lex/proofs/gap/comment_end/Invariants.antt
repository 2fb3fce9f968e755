use Rattle.std.proofs.Common.{ℕ, ◌≤◌, ◌<◌}
use Rattle.fk_lex.specs.Steps.{EndsAt}
use Rattle.fk_lex.proofs.gap.comment_end.Given as goal

abbrev pub invariant-loop-at : goal.invariant-loop-at
invariant-loop-at l = (m : ℕ) → 2 ≤ m → m < l.at → EndsAt l.text m → ⊥
