-- The earlier of the first faults by the two kinds of rules.
use Rattle.std.proofs.Common.{◌≡◌, Some, Option, subst}
use Rattle.fk_check_rules.specs.declared.rule.Rule.{Rule}
use Rattle.fk_syntax.specs.declared.place.Place.{Place}
use Rattle.fk_check_rules.specs.Least.{IsLeast}
use Rattle.fk_check_rules.proofs.LeastLemmas.{IsLeast-either}
use Rattle.fk_regions.specs.Judged.{misplaced_rule, straight_rule}
use Rattle.fk_regions.proofs.judge.token_fault.Goals as goal

pub returns : goal.returns
returns c =
    let token = c.args.token.now in
    let P = λ (o : Option Rule) (at : Place) (rule : Rule). (at ≡ token.spot.place) × (o ≡ Some rule) in
    IsLeast-either (P (misplaced_rule token.around token.word c.args.callee)) (P (straight_rule token.around token.word c.args.callee))
    c.fault_at.result c.fault_at-2.result c.first_of.result
    (subst (λ o. IsLeast (P o) c.fault_at.result) c.misplaced_rule-misplaced.ensures c.fault_at.ensures)
    (subst (λ o. IsLeast (P o) c.fault_at-2.result) c.straight_rule-straight.ensures c.fault_at-2.ensures)
    c.first_of.ensures
