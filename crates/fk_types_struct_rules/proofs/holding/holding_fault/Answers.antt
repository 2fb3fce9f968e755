use Rattle.std.proofs.Common.{sym, subst, ◌∙◌}
use Rattle.fk_types_graph.specs.Graph.{IsOnCycle}
use Rattle.fk_types_graph.specs.Marks.{IsMarked}
use Rattle.fk_types_struct_rules.proofs.holding.holding_fault.Goals as goal

pub first_holder-requires-clause-suspects : goal.first_holder-requires-clause-suspects
first_holder-requires-clause-suspects c = λ v h. subst (λ m. IsMarked m v) (sym c.deref-3.ensures.value)
    (c.in_ok-suspects.ensures.marked v (subst (λ g. IsOnCycle g v) (c.deref-2.ensures.value ∙ sym c.deref.ensures.value) h))
