use Rattle.std.proofs.Common.{refl}
use Rattle.fk_check_rules.proofs.LeastLemmas.{IsLeast-either}
use Rattle.fk_types_judgments.specs.Term as m
use Rattle.fk_types_forms.proofs.PartLemmas.{made-part}
use Rattle.std.proofs.Common.{true}
use Rattle.fk_types_forms.proofs.forms.counted_before.Goals as goal

pub returns : goal.returns
returns c = λ env t is. made-part env (m.Count c.args.spot true t) _ _ _ _ _ c.made.ensures (cc) refl refl refl refl
    (IsLeast-either _ _ _ _ _ is.fault (c.count_fault.ensures env t is) c.first_of.ensures)
