use Rattle.std.proofs.Common.{ℕ, ap, sym, ◌∙◌, get_or}
use Rattle.fk_meaning.specs.Processor as p
use Rattle.fk_meaning.specs.Group.{part}
use Rattle.fk_meaning.specs.Told.{number_of}
use Rattle.fk_replay_trees.specs.Changes.{has_of}
use Rattle.fk_replay_trees.proofs.Members.{push_one, has_there, number_is}
use Rattle.fk_replay_trees.proofs.change.parts_of.Goals as goal

pub loop-member-preserved : goal.loop-member-preserved
loop-member-preserved c =
    let i = c.loop-member.member-index in
    let actors = c.args.actors.now in
    let count = c.args.count in
    let h = get_or c.args.members.now i 0 in
    push_one (λ (k : ℕ). number_of count (part c.args.by (p.values (has_of actors k)))) c.args.members.now i c.loop-member.of.items c.push.new.self.items c.unwrap_or.result
    c.loop-member-test.true c.loop-member.invariant c.in_ok-push.ensures.items
    (c.unwrap_or.ensures ∙ number_is count c.part-part.result
    ∙ ap (number_of count) (c.part-part.ensures.part
    ∙ ap (λ (q : p.Processor). part c.args.by (p.values q)) (sym (has_there actors h c.index-actors-member.result (c.requires.members.each i c.loop-member-test.true) c.index-actors-member.is))))
