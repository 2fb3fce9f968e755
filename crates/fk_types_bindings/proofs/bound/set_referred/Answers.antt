use Rattle.fk_types_references.specs.View.{reference_of}
use Rattle.fk_types_rules.specs.Bound.{Refers, token_of}
use Rattle.fk_types_bindings.proofs.SetLemmas.{set-none, set-more, set-whole}
use Rattle.fk_types_bindings.proofs.bound.set_referred.Goals as goal

pub loop-reference-init : goal.loop-reference-init
loop-reference-init c = λ env program known. set-none token_of (λ i r number. Refers env program r number) c.args.numbers.now

pub loop-reference-preserved : goal.loop-reference-preserved
loop-reference-preserved c = λ env program known.
    set-more token_of (λ i r number. Refers env program r number) reference_of c.args.references.now c.loop-reference.reference-index _ c.args.numbers.now c.loop-reference.numbers c.set.new.numbers c.token_of.result c.number.result
    c.loop-reference-test.true c.token_of.ensures c.set.ensures (c.number.ensures env program known) (c.loop-reference.invariant env program known)

pub returns : goal.returns
returns c = λ env program known.
    set-whole token_of (λ i r number. Refers env program r number) reference_of c.args.references.now c.loop-reference.reference-index c.args.numbers.now c.loop-reference.numbers
    c.loop-reference-test.false (c.loop-reference.invariant env program known)
