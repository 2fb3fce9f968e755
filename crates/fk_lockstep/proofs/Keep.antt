-- Where nothing changes the tree a group stays together.
use Rattle.std.proofs.Common.{◌≡◌, ℕ, true, false, true≢false, ◌∙◌, sym, refl}
use Rattle.fk_meaning_operation.specs.declared.operation.Operation.{Operation}
use Rattle.fk_meaning_operation.specs.declared.operation.Operation.TheVariants as o
use Rattle.fk_meaning.specs.Processor.{Processor}
use Rattle.fk_meaning.specs.Next.{Work, next}
use Rattle.fk_lockstep.specs.InStep.{leaves_step}
use Rattle.fk_lockstep.specs.Together.{OneWay, ActTogether}
use Rattle.fk_lockstep.specs.Untouched.{changes_tree}
use Rattle.fk_lockstep.specs.Keep.{GroupsStayTogether}
use Rattle.fk_lockstep.proofs.Rounds.{groups_go_on}
use Rattle.fk_lockstep.proofs.Untouched.{untouched_nodes_stay}

changed : {A : Type 0} → true ≡ false → A
changed e = absurd (true≢false e)

quiet_way : (op : Operation) (highest lowest : ℕ) (p q : Processor) → changes_tree op ≡ false → OneWay op highest lowest p q
quiet_way o.Begin highest lowest p q e = changed e
quiet_way (o.Split by) highest lowest p q e = changed e
quiet_way o.Shrink highest lowest p q e = changed e
quiet_way o.Seq highest lowest p q e = changed e
quiet_way op highest lowest p q e = refl

quiet_stays : (op : Operation) → changes_tree op ≡ false → leaves_step op ≡ false
quiet_stays o.Farm e = changed e
quiet_stays o.Seq e = changed e
quiet_stays o.End e = changed e
quiet_stays op e = refl

pub groups_stay_together : GroupsStayTogether
groups_stay_together may_call bodies all_bodies set round s g h r q act agreed start =
    let others = untouched_nodes_stay Work (next bodies) set round s in
    let first_place = others.places r.has.number act.first_apart in
    let second_place = others.places q.has.number act.second_apart in
    let together : ActTogether (next bodies) set round s g h r q = record {
      no_fault = act.no_fault;
      first = act.first;
      second = act.second;
      count = act.count;
      first_count = act.first_count;
      second_count = act.second_count;
      one_node = act.one_node;
      one_way = λ a b step does other. quiet_way step.operation _ _ a.runner.has b.runner.has (act.quiet a step does);
      still_one_node = first_place ∙ act.one_node ∙ sym second_place;
    } in
    let on = groups_go_on may_call bodies all_bodies set round s g h r q together agreed start in
    let again = on.together (λ a step does. quiet_stays step.operation (act.quiet a step does)) in
    record {
      first = on.first;
      second = on.second;
      first_is = on.first_is;
      second_is = on.second_is;
      agreed = again.0;
      together = again.1;
      first_place = first_place;
      second_place = second_place;
    }
