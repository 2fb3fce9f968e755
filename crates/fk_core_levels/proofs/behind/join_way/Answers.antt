use Rattle.std.proofs.Common.{◌<◌, length, ap, sym, ◌∙◌, subst, arith}
use Rattle.fk_core_levels.specs.Behind.{leads}
use Rattle.fk_core_levels.specs.Levels.{joined, IsSettling}
use Rattle.fk_core_levels.proofs.Raised.{joined_stays}
use Rattle.fk_core_levels.proofs.Settling.{few_behind, joined_settles}
use Rattle.fk_core_levels.proofs.behind.join_way.Goals as goal

pub join-requires-clause-few : goal.join-requires-clause-few
join-requires-clause-few c = few_behind c.args.ops.now c.args.saved.now c.requires.settling c.args.index

pub join-requires-clause-few_there : goal.join-requires-clause-few_there
join-requires-clause-few_there c = few_behind c.args.ops.now c.args.saved.now c.requires.settling c.leads-other.result

pub returns-clause-settling : goal.returns-clause-settling
returns-clause-settling c =
    let there : leads c.args.ops.now c.args.index c.args.onward < length c.args.ops.now = omega (arith, c.leads-other.ensures, c.if-other-ops.false) in
    subst (IsSettling c.args.ops.now) (sym (c.join.ensures.joined ∙ ap (λ j. joined c.args.saved.now c.args.index j) c.leads-other.ensures))
    (joined_settles c.args.ops.now c.args.saved.now c.args.index c.args.onward c.requires.settling c.requires.inside there)

pub returns-clause-stays : goal.returns-clause-stays
returns-clause-stays c none there =
    let long = c.requires.settling.long in
    let inside = c.requires.inside in
    joined_stays c.args.saved.now c.args.index (leads c.args.ops.now c.args.index c.args.onward) (omega (arith, inside, long)) (omega (arith, there, long))
    (ap (λ j. joined c.args.saved.now c.args.index j) (sym c.leads-other.ensures) ∙ sym c.join.ensures.joined ∙ c.join.ensures.same none)
