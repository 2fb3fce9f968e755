use Rattle.fk_check_rules.specs.declared.rule.Rule.TheVariants as rules
use Rattle.fk_types_graph.specs.Graph.{IsOnCycle}
use Rattle.fk_types_struct_rules.proofs.StructLemmas.{At-found}
use Rattle.fk_types_struct_rules.proofs.holding.holder_fault.Goals as goal

pub returns-then-branch : goal.returns-then-branch
returns-then-branch c = At-found rules.NoStruct c.args.place (IsOnCycle c.args.graph.now c.args.index) c.args.fault c.first_of-first.result c.first_of-first.ensures (c.in_ok-is_holder.ensures.0 c.if-branch.true)
