use Rattle.std.proofs.Common.{◌≡◌, true, inl, inr, refl, sym, subst}
use Rattle.fk_syntax.specs.declared.sign.Sign.{Sign}
use Rattle.fk_types_judgments.specs.Term.{prefix_term}
use Rattle.fk_types_rules.specs.Constant.{is_more}
use Rattle.fk_types_checker.proofs.MoreLemmas.{more-prefix}
use Rattle.fk_types_checker.proofs.constant.is_of_memory.Goals as goal

pub returns-in-Star : goal.returns-in-Star
returns-in-Star c = λ env spot operand.
    let more = λ (sign : Sign) (e : c.args.sign ≡ sign) (so : is_more env (prefix_term spot sign operand) ≡ true). subst (λ v. is_more env (prefix_term spot v operand) ≡ true) (sym e) so in
    elim c.in-Star.is [ inl e ↦ more _ e refl | inr (inl e) ↦ more _ e refl | inr (inr (inl e)) ↦ more _ e refl | inr (inr (inr e)) ↦ more _ e refl ]

pub returns-in_default : goal.returns-in_default
returns-in_default c = λ env spot operand. more-prefix env spot c.args.sign operand c.in_default.not-Star c.in_default.not-Ampersand c.in_default.not-Increment c.in_default.not-Decrement
