use Rattle.std.proofs.Common.{map, replicate, ap, subst, ◌∙◌}
use Rattle.fk_types_names.specs.Outline.{declarations}
use Rattle.fk_types_names.specs.View.{declaration_of}
use Rattle.fk_types_names.specs.TableView.{shown}
use Rattle.fk_types_bindings.specs.Bodies.{AreBodies}
use Rattle.fk_types_bindings.specs.Bound.{AreDeclared, AreReferred}
use Rattle.fk_types_bindings.proofs.BoundLemmas.{all-bound, all-unbound}
use Rattle.fk_types_bindings.proofs.bound.set_all.Goals as goal

pub returns-clause-bound : goal.returns-clause-bound
returns-clause-bound c = λ env program sound apart size all known.
    let bodies = shown c.args.bodies.now in
    all-bound env program bodies c.args.numbers.now c.set_declared.new.numbers c.set_referred.new.numbers sound apart size
    (subst (λ ds. AreBodies ds bodies) known.names.declared c.requires.bodies)
    (subst (λ ds. AreDeclared bodies ds c.args.numbers.now c.set_declared.new.numbers) (ap (map declaration_of) c.deref.ensures.value ∙ known.names.declared) c.set_declared.ensures)
    (subst (λ rs. AreReferred env program rs c.set_declared.new.numbers c.set_referred.new.numbers) all (c.set_referred.ensures env program known))

pub returns-clause-unbound : goal.returns-clause-unbound
returns-clause-unbound c = λ env program n zeros all known.
    let bodies = shown c.args.bodies.now in
    let declared = subst (λ ds. AreDeclared bodies ds c.args.numbers.now c.set_declared.new.numbers) (ap (map declaration_of) c.deref.ensures.value ∙ known.names.declared) c.set_declared.ensures in
    all-unbound env program bodies n c.set_declared.new.numbers c.set_referred.new.numbers
    (subst (λ ds. AreBodies ds bodies) known.names.declared c.requires.bodies)
    (subst (λ ns. AreDeclared bodies (declarations program) ns c.set_declared.new.numbers) zeros declared)
    (subst (λ rs. AreReferred env program rs c.set_declared.new.numbers c.set_referred.new.numbers) all (c.set_referred.ensures env program known))
