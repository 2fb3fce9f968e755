use Rattle.std.proofs.Common.{◌≡◌, ℕ, ◌/◌, Some, sym, ap, ◌∙◌, arith}
use Rattle.std.proofs.lemmas.Bool.Decides.{nat_tests}
use Rattle.fk_isa.specs.Flat.{Flat, flat_of, conditional, after_store}
use Rattle.fk_isa.specs.Tells.{Gives}
use Rattle.fk_isa.proofs.flat.FlatMemory.store_conditional.Goals as goal

stores : (m : Flat) (hart a v r : ℕ) → r ≡ a / 4 → conditional m hart a v (Some r) ≡ Gives 0 (after_store m a 4 v)
stores m hart a v r e = grind (arith, nat_tests)

pub returns-in-Some : goal.returns-in-Some
returns-in-Some c =
    ap (conditional (flat_of c.args.self.now) c.args.hart c.args.address c.args.value) c.in-Some.is
    ∙ stores (flat_of c.args.self.now) c.args.hart c.args.address c.args.value c.in-Some.reserved c.if-reserved-address.true
    ∙ ap (λ m. Gives 0 m) (sym c.put.ensures)
