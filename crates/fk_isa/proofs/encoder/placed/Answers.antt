use Rattle.fk_isa.proofs.Computation.{computes}
use Rattle.fk_isa.proofs.encoder.placed.Goals as goal

pub placed_computation-requires-clause-computation : goal.placed_computation-requires-clause-computation
placed_computation-requires-clause-computation c =
    computes c.args.instruction
    c.in_default.not-Jal c.in_default.not-Jalr c.in_default.not-Beq c.in_default.not-Bne
    c.in_default.not-Blt c.in_default.not-Bge c.in_default.not-Bltu c.in_default.not-Bgeu
    c.in_default.not-Lb c.in_default.not-Lh c.in_default.not-Lw c.in_default.not-Lbu
    c.in_default.not-Lhu c.in_default.not-Sb c.in_default.not-Sh c.in_default.not-Sw
    c.in_default.not-Fence c.in_default.not-Ecall c.in_default.not-Ebreak c.in_default.not-LrW
    c.in_default.not-ScW c.in_default.not-AmoSwapW c.in_default.not-AmoAddW
    c.in_default.not-AmoXorW c.in_default.not-AmoAndW c.in_default.not-AmoOrW
    c.in_default.not-AmoMinW c.in_default.not-AmoMaxW c.in_default.not-AmoMinuW
    c.in_default.not-AmoMaxuW
