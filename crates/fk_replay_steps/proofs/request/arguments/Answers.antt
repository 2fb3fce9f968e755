use Rattle.std.proofs.Common.{◌≡◌, ℕ, ◌-◌, ◌++◌, length, drop, replicate, ap, refl, ◌∙◌, arith}
use Rattle.std.specs.Prelude.{slice_index}
use Rattle.std.proofs.lemmas.Grind.{common_steps}
use Rattle.fk_replay_steps.proofs.Arguments.{made_arguments}
use Rattle.fk_replay_steps.proofs.request.arguments.Goals as goal

pub returns : goal.returns
returns c =
    let values = c.args.values.now in
    let left = c.saturating_sub-left.result in
    let zeros = c.args.count - (length values - left) in
    let all : c.extend_from_slice.new.self.items ≡ replicate {A = ℕ} zeros 0 ++ drop left values = grind (arith, common_steps) in
    let is_left : left ≡ length values - c.args.count = grind (arith, common_steps) in
    ap slice_index all ∙ made_arguments values c.args.count left zeros is_left refl
