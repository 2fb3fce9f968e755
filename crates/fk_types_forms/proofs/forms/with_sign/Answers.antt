use Rattle.std.proofs.Common.{sym, subst}
use Rattle.fk_types_judgments.specs.Term as m
use Rattle.fk_types_forms.specs.Parts.{IsPart}
use Rattle.fk_types_forms.proofs.NameLemmas.{joined-other}
use Rattle.fk_types_forms.proofs.forms.with_sign.Goals as goal

pub returns-in-Comma : goal.returns-in-Comma
returns-in-Comma c = λ env l r il ir. subst (λ sign. IsPart env (m.joined_term c.args.spot sign l r) c.comma.result) (sym c.in-Comma.is) (c.comma.ensures env c.args.spot l r il ir)

pub returns-in_default : goal.returns-in_default
returns-in_default c = λ env l r il ir. subst (λ term. IsPart env term c.binary.result) (joined-other c.args.spot c.args.sign l r c.in_default.not-Comma) (c.binary.ensures env l r il ir)
