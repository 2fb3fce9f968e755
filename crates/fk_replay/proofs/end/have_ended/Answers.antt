-- A run has ended if all processors have.
use Rattle.std.proofs.Common.{◌∙◌, rules, tests}
use Rattle.std.proofs.lemmas.Iterator.{YieldsList-from_slice}
use Rattle.std.proofs.lemmas.Iterator.Search.{all_from_yields_List}
use Rattle.fk_replay.proofs.Ending.{has_ended, all_ended}
use Rattle.fk_replay.proofs.end.have_ended.Goals as goal

pub returns : goal.returns
returns c = λ setting.
    all_from_yields_List (has_ended c.args.ops.now) _ _ _ c.all.ensures.ran (YieldsList-from_slice c.args.actors.now cc) (λ x b q k. search (rules, tests))
    ∙ all_ended c.args.ops.now setting c.args.actors.now
