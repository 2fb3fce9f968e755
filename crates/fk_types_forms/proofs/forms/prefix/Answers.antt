use Rattle.std.proofs.Common.{◌≡◌, refl, sym, subst}
use Rattle.fk_syntax.specs.declared.sign.Sign.TheVariants as s
use Rattle.fk_types_judgments.specs.Term as m
use Rattle.fk_types_forms.specs.Parts.{IsPart}
use Rattle.fk_types_forms.proofs.NameLemmas.{prefix-other}
use Rattle.std.proofs.Common.{true, inl, inr}
use Rattle.fk_syntax.specs.declared.sign.Sign.{Sign}
use Rattle.fk_types_forms.proofs.forms.prefix.Goals as goal

pub returns-in-Star : goal.returns-in-Star
returns-in-Star c = λ env t is. subst (λ sign. IsPart env (m.prefix_term c.args.spot sign t) c.dereference.result) (sym c.in-Star.is) (c.dereference.ensures env t is)

pub returns-in-Ampersand : goal.returns-in-Ampersand
returns-in-Ampersand c = λ env t is. subst (λ sign. IsPart env (m.prefix_term c.args.spot sign t) c.address_of.result) (sym c.in-Ampersand.is) (c.address_of.ensures env t is)

pub returns-in-Increment : goal.returns-in-Increment
returns-in-Increment c = λ env t is.
    let with = λ (sign : Sign) (e : sign ≡ c.args.sign) (count : m.prefix_term c.args.spot sign t ≡ m.Count c.args.spot true t).
    subst (λ v. IsPart env (m.prefix_term c.args.spot v t) c.counted_before.result) e (subst (λ term. IsPart env term c.counted_before.result) (sym count) (c.counted_before.ensures env t is)) in
    elim c.in-Increment.is [ inl e ↦ with s.Increment (sym e) refl | inr e ↦ with s.Decrement (sym e) refl ]

pub returns-in_default : goal.returns-in_default
returns-in_default c = λ env t is. subst (λ term. IsPart env term c.signed.result)
    (prefix-other c.args.spot c.args.sign t c.in_default.not-Star c.in_default.not-Ampersand c.in_default.not-Increment c.in_default.not-Decrement) (c.signed.ensures env t is)
