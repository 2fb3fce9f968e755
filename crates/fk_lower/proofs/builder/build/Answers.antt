use Rattle.std.proofs.Common.{rules, arith, ◌+◌, ◌≤◌, [], List, map, length, fold, drop, get_or, sym, ap, subst, ◌∙◌}
use Rattle.std.proofs.lemmas.Result.{err_from_is_err_and}
use Rattle.fk_meaning_operation.specs.declared.operation.Operation.TheVariants as o
use Rattle.fk_lower.specs.declared.event.CodeEvent.{CodeEvent}
use Rattle.fk_lower.specs.declared.event.CodeEvent.TheVariants as e
use Rattle.std.specs.List.{count_by}
use Rattle.fk_meaning_forms.specs.Code.{done}
use Rattle.std.proofs.lemmas.List.{at_drop_all}
use Rattle.fk_lower.specs.Building.{Event, Building, building, after, has_site}
use Rattle.fk_lower.specs.Faults.{IsFew}
use Rattle.fk_lower.specs.BuilderView.{event_of, building_of}
use Rattle.fk_lower.proofs.Placing.{AllPlaced, one_left, few_at_start, few_after, sites_after, fault_at}
use Rattle.fk_lower.proofs.Built.{all_shown, placed, refused_at_end}
use Rattle.fk_lower.proofs.builder.build.Goals as goal

pub returns-clause-built : goal.returns-clause-built
returns-clause-built c =
    let last = c.loop-event.builder in
    let events = c.args.events.now in
    let over : length events ≤ c.loop-event.event-index = search (rules, arith) in
    all_shown c.args.site last.site (map event_of events) (building_of last) c.finish.result
    (sym (at_drop_all (λ l. fold after (building_of last) (map event_of l)) events c.loop-event.event-index over) ∙ c.loop-event.invariant.built)
    c.finish.ensures.built

pub returns-clause-refused : goal.returns-clause-refused
returns-clause-refused c =
    let last = c.loop-event.builder in
    let events = c.args.events.now in
    let over : length events ≤ c.loop-event.event-index = search (rules, arith) in
    refused_at_end c.args.site (map event_of events) (building_of last) c.finish.result
    (sym (at_drop_all (λ l. fold after (building_of last) (map event_of l)) events c.loop-event.event-index over) ∙ c.loop-event.invariant.built)
    c.finish.ensures.fault c.finish.ensures.open

pub loop-event-init : goal.loop-event-init
loop-event-init c =
    let events = map event_of c.args.events.now in
    let start = building c.args.site [] done in
    let new = c.new-builder.ensures.built in
    record {
      built = ap (λ (b : Building). fold after b events) new;
      measured = c.new-builder.ensures.measured;
      few = subst (λ (b : Building). IsFew b) (sym new) (few_at_start c.args.site);
      counted = ap (λ (b : Building). b.site + count_by has_site events) new;
      placed = λ code w e. subst (λ (b : Building). AllPlaced b events) (sym new) (subst (λ (l : List Event). AllPlaced start l) e (placed code w start));
    }

-- what is read behind the end of the events
abbrev first : CodeEvent
first = e.Perform (o.Push 0)

pub returns-in_err-take-clause-refused : goal.returns-in_err-take-clause-refused
returns-in_err-take-clause-refused c =
    let events = c.args.events.now in
    let n = c.loop-event.event-index in
    let b = building_of c.loop-event.builder in
    let x = event_of (get_or events n first) in
    let xs = map event_of (drop (n + 1) events) in
    let left = one_left events n first c.loop-event-test.true in
    let i = c.loop-event.invariant in
    let p = err_from_is_err_and c.from_residual.result c.from_residual.ensures.1 in
    rw (p.1, p.2)
    (fault_at c.args.site (map event_of events) b x xs c.in_err-take.field-0.0
    (sym (ap (λ (l : List Event). b.site + count_by has_site l) left) ∙ i.counted)
    (λ code w same. subst (λ (l : List Event). AllPlaced b l) left (i.placed code w same))
    c.in_err-take.ensures.refused)

pub loop-event-preserved : goal.loop-event-preserved
loop-event-preserved c =
    let events = c.args.events.now in
    let n = c.loop-event.event-index in
    let b = building_of c.loop-event.builder in
    let x = event_of (get_or events n first) in
    let xs = map event_of (drop (n + 1) events) in
    let left = one_left events n first c.loop-event-test.true in
    let made = c.in_ok-take.ensures.built in
    let i = c.loop-event.invariant in
    record {
      built = ap (λ (b : Building). fold after b xs) made ∙ sym (ap (λ (l : List Event). fold after b l) left) ∙ i.built;
      measured = c.in_ok-take.ensures.measured;
      few = subst (λ (b : Building). IsFew b) (sym made) (few_after b x i.few c.in_ok-take.ensures.low);
      counted = ap (λ (b : Building). b.site + count_by has_site xs) made
          ∙ sites_after b x xs (c.args.site + count_by has_site (map event_of events)) (sym (ap (λ (l : List Event). b.site + count_by has_site l) left) ∙ i.counted);
      placed = λ code w same. subst (λ (b : Building). AllPlaced b xs) (sym made) (subst (λ (l : List Event). AllPlaced b l) left (i.placed code w same)).1;
    }
