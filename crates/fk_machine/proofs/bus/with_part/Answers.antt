use Rattle.std.proofs.Common.{◌≢◌, ℕ, ◌<◌, ◌≤◌, sym, ap, subst, ◌∙◌, arith}
use Rattle.fk_isa.specs.Tells.{IsSize}
use Rattle.fk_machine.proofs.Parts.{spliced, splices}
use Rattle.fk_machine.proofs.bus.with_part.Goals as goal

some_bytes : (size : ℕ) → IsSize size → size ≢ 4 → (1 ≤ size) × (size ≤ 2)
some_bytes size is other = grind arith

pub overflow_add-result : goal.overflow_add-result
overflow_add-result c =
    let some = some_bytes c.args.size c.requires.size c.if-size-eq4.false in
    let s = splices c.args.word c.args.byte c.args.size c.args.value (omega arith) some.0 some.1 c.requires.within in
    let lt = subst (λ size. spliced c.args.word c.args.byte size c.args.value < 4294967296) (sym c.from.ensures) s.fits in
    omega (arith, lt)

pub returns : goal.returns
returns c =
    let some = some_bytes c.args.size c.requires.size c.if-size-eq4.false in
    let s = splices c.args.word c.args.byte c.args.size c.args.value (omega arith) some.0 some.1 c.requires.within in
    ap (λ size. spliced c.args.word c.args.byte size c.args.value) c.from.ensures ∙ s.is
