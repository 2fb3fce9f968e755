use Rattle.std.proofs.Common.{refl}
use Rattle.fk_check_rules.proofs.LeastLemmas.{IsLeast-either}
use Rattle.fk_types_judgments.specs.Term as m
use Rattle.fk_types_forms.proofs.PartLemmas.{made-part}
use Rattle.std.proofs.Common.{false}
use Rattle.fk_types_forms.proofs.forms.counted_after.Goals as goal

pub returns : goal.returns
returns c = λ env t is. made-part env (m.Count c.args.spot false t) _ _ _ _ _ c.made.ensures (cc) is.first refl refl refl
    (IsLeast-either _ _ _ _ _ is.fault (c.count_fault.ensures env t is) c.first_of.ensures)
