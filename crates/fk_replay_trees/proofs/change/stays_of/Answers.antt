use Rattle.std.proofs.Common.{ℕ, ap, sym, ◌∙◌, get_or}
use Rattle.fk_meaning.specs.Group.{stays}
use Rattle.fk_replay_trees.specs.Changes.{has_of}
use Rattle.fk_replay_trees.proofs.Members.{push_one, has_there}
use Rattle.fk_replay_trees.proofs.change.stays_of.Goals as goal

pub loop-member-preserved : goal.loop-member-preserved
loop-member-preserved c =
    let i = c.loop-member.member-index in
    let actors = c.args.actors.now in
    let h = get_or c.args.members.now i 0 in
    push_one (λ (k : ℕ). stays (has_of actors k)) c.args.members.now i c.loop-member.stay.items c.push.new.self.items c.stays.result
    c.loop-member-test.true c.loop-member.invariant c.in_ok-push.ensures.items
    (c.stays.ensures ∙ ap stays (sym (has_there actors h c.index-actors-member.result (c.requires.members.each i c.loop-member-test.true) c.index-actors-member.is)))
