use Rattle.std.proofs.Common.{◌∙◌, sym, rules, tests}
use Rattle.std.proofs.lemmas.Iterator.{YieldsList-from_slice}
use Rattle.std.proofs.lemmas.Iterator.Search.{all_from_yields_List}
use Rattle.fk_machine.specs.declared.hart.TrackedHart.{TrackedHart}
use Rattle.fk_machine.proofs.Harts.{all_ended-harts_of}
use Rattle.fk_machine.proofs.turns.have_ended.Goals as goal

pub returns : goal.returns
returns c = λ local.
    all_from_yields_List (λ (h : TrackedHart). h.state.ended) _ _ _ c.all.ensures.ran (YieldsList-from_slice c.args.harts.now cc) (λ x b q k. search (rules, tests))
    ∙ sym (all_ended-harts_of 0 c.args.harts.now local)
