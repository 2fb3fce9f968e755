use Rattle.std.proofs.Common.{◌≡◌, ◌+◌, ℕ, List, Option, slice_index, subst, sym, arith}
use Rattle.std.proofs.lemmas.Grind.{common_steps}
use Rattle.fk_replay_steps.specs.Pace.{remainder, IsLateNow}
use Rattle.fk_replay_steps.proofs.Counted.{none_late}
use Rattle.fk_replay_steps.proofs.pace.Pace.late.Goals as goal

pub returns-then-index-eq0 : goal.returns-then-index-eq0
returns-then-index-eq0 c =
    let items = c.self.inside.since.items in
    let parts = c.self.inside.counts.items in
    let first = c.in_ok-first.first in
    let last : first + 255 ≡ c.args.round = grind (arith, common_steps) in
    let none : slice_index parts (remainder first) ≡ 0 = grind (arith, common_steps) in
    λ h late. none_late items parts c.self.inside.able first c.args.round c.self.invariant last none h (subst (λ (a : List (Option ℕ)). IsLateNow a c.args.round h) (sym c.self.view_is) late)
