use Rattle.std.proofs.Common.{ap, Some, ◌∙◌}
use Rattle.fk_isa.proofs.Found.{found}
use Rattle.fk_asm.proofs.Jumps.{Fits-placed}
use Rattle.fk_asm.proofs.line.Line.word.Goals as goal

pub encode-requires : goal.encode-requires
encode-requires c =
    record { fits = rw c.placed.ensures (Fits-placed c.args.bound.now c.args.own c.args.self.now c.requires.fits c.requires.near) }

pub returns : goal.returns
returns c = found c.encode.result c.placed.result c.encode.ensures.row ∙ ap Some c.placed.ensures
