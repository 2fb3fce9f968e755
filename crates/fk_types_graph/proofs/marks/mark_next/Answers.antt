use Rattle.std.proofs.lemmas.Result.{on_ok_weaker}
use Rattle.fk_types_graph.specs.Marks.{Marks}
use Rattle.fk_types_graph.proofs.marks.mark_next.Goals as goal

pub returns-in-Some-clause-fewer : goal.returns-in-Some-clause-fewer
returns-in-Some-clause-fewer c =
    on_ok_weaker c.mark_all.result
    (λ (m : Marks c.deref.result.now c.args.marks.now c.mark_all.new.marks c.args.waiting.now.items c.mark_all.new.waiting.items). m.fewer) c.mark_all.ensures
