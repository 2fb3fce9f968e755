use Rattle.std.proofs.Common.{length, sym, ap, subst, ◌∙◌}
use Rattle.fk_types_names.proofs.FindLemmas.{written}
use Rattle.fk_types_rules.specs.Bound.{pieces_references, AreBound, AreUnbound}
use Rattle.fk_types_bindings.proofs.bound.bindings.Goals as goal

pub returns-clause-bound : goal.returns-clause-bound
returns-clause-bound c = λ env program sound apart size all structs names types.
    let numbers = c.in_ok-numbers.numbers in
    let new = c.set_all.new.numbers in
    let lent = ap length c.deref_mut.ensures.value in
    subst (AreBound env program) (sym (written numbers.len new numbers.items (sym numbers.ok.0) (c.set_all.auto.numbers ∙ lent)))
    (c.set_all.ensures.bound env program sound apart (lent ∙ sym numbers.ok.0 ∙ c.in_ok-numbers.ensures.len ∙ size)
    (c.list.ensures ∙ c.in_ok-references.ensures ∙ ap pieces_references all) (record { structs = structs; names = names; types = types }))

pub returns-clause-unbound : goal.returns-clause-unbound
returns-clause-unbound c = λ env program all structs names types.
    let numbers = c.in_ok-numbers.numbers in
    let new = c.set_all.new.numbers in
    let lent = ap length c.deref_mut.ensures.value in
    subst (AreUnbound env program) (sym (written numbers.len new numbers.items (sym numbers.ok.0) (c.set_all.auto.numbers ∙ lent)))
    (c.set_all.ensures.unbound env program _ (c.deref_mut.ensures.value ∙ c.in_ok-numbers.ensures.items_if_clones_equal (λ y e. e))
    (c.list.ensures ∙ c.in_ok-references.ensures ∙ ap pieces_references all) (record { structs = structs; names = names; types = types }))
