use Rattle.std.proofs.Common.{◌≡◌, [], ◌∷◌, None, replicate}
use Rattle.fk_isa.specs.declared.instruction.Instruction.TheVariants.{Addi, Beq}
use Rattle.fk_asm.specs.Assembly.{straight, jump_to}
use Rattle.fk_machine_tests.proofs.asm.write_far_branch.Given as goal

abbrev pub invariant-loop : goal.invariant-loop
invariant-loop l =
    l.assembler ≡ record { lines = jump_to (Beq 0 0 0) 0 ∷ replicate l.counter (straight (Addi 0 0 0)); bound = None ∷ []; commits = [] }
