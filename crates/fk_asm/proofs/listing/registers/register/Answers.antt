use Rattle.std.proofs.Common.{◌≡◌, length, arith, ap, ◌∙◌}
use Rattle.fk_asm.specs.Listing.{register}
use Rattle.fk_asm.proofs.Names.{length-register-le}
use Rattle.fk_asm.proofs.listing.registers.register.Goals as goal

pub returns-clause-short : goal.returns-clause-short
unfolding register
returns-clause-short c =
    let named : c.text_at.result.now ≡ register c.args.number = c.text_at.ensures ∙ ap register c.from.ensures in
    omega (arith, ap length named, length-register-le c.args.number)
