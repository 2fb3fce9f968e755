use Rattle.std.proofs.Common.{refl, ◌∙◌}
use Rattle.fk_check_rules.proofs.LeastLemmas.{IsLeast-either}
use Rattle.fk_types_judgments.specs.Term as m
use Rattle.fk_types_judgments.specs.Typing as y
use Rattle.fk_types_forms.proofs.PartLemmas.{made-part, both-same}
use Rattle.fk_types_forms.proofs.forms.comma.Goals as goal

pub returns : goal.returns
returns c = λ env spot l r il ir. made-part env (m.Comma spot l r) _ _ _ _ _ c.made.ensures
    (c.last_of.ensures ∙ both-same y.last_of _ _ _ _ il.type ir.type)
    il.first refl refl refl
    (IsLeast-either _ _ _ _ _ (c.as_statement.ensures env l il) (c.as_statement-2.ensures env r ir) c.first_of-fault.ensures)
