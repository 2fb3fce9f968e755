use Rattle.std.proofs.Common.{◌≡◌, ℕ, ◌≤◌, ◌^◌, true, is_some, ap, sym, subst, ◌∙◌, reverse}
use Rattle.fk_space.specs.Space.{share}
use Rattle.fk_meaning.specs.Group.{parts}
use Rattle.fk_meaning_operation.specs.declared.operation.SplitKind.{SplitKind}
use Rattle.fk_replay_steps.proofs.Rooms.{few_shares}
use Rattle.fk_replay_steps.proofs.group.has_room.Goals as goal

pub returns-else-count-eq0-clause-few : goal.returns-else-count-eq0-clause-few
returns-else-count-eq0-clause-few c =
    let space = c.args.processor.now.level.space in
    let values = reverse c.args.processor.now.call.values.items in
    let count = c.parts-count.result in
    λ is by operation.
    let same : c.in-Split.by ≡ by = cc in
    let found : is_some (share space count) ≡ true = ap is_some (sym c.share.ensures) ∙ sym c.is_some-else-count-eq0.ensures ∙ is in
    let counted : count ≡ parts by values = c.parts-count.ensures ∙ ap (λ (b : SplitKind). parts b values) same in
    subst (λ (k : ℕ). k ≤ 2 ^ 18) counted (few_shares space c.free.ensures.space count found)
