-- Words that the GNU assembler gives, with the instructions that were assembled, made by tools/riscv_vectors.py: the table
-- has them so.
use Rattle.std.proofs.Common.{◌≡◌, ℕ, List, [], ◌∷◌, Some, map, true, false, refl}
use Rattle.fk_isa.specs.declared.instruction.Instruction.{Instruction}
use Rattle.fk_isa.specs.declared.instruction.Instruction.TheVariants.{Lui, Auipc, Jal, Jalr, Beq, Bne, Blt, Bge, Bltu, Bgeu, Lb, Lh, Lw, Lbu, Lhu, Sb, Sh, Sw, Addi, Slti, Sltiu, Xori, Ori, Andi, Slli, Srli, Srai, Add, Sub, Sll, Slt, Sltu, Xor, Srl, Sra, Or, And, Mul, Mulh, Mulhsu, Mulhu, Div, Divu, Rem, Remu, Fence, Ecall, Ebreak, LrW, ScW, AmoSwapW, AmoAddW, AmoXorW, AmoAndW, AmoOrW, AmoMinW, AmoMaxW, AmoMinuW, AmoMaxuW}
use Rattle.fk_isa.specs.Find.{row, jump_row, branch_row, load_row, store_row, left_shift_row, right_shift_row, immediate_row, base_row, other_row, product_row, operation_row, fence_row, system_row, reserved_row, word_row, atomic_row}

abbrev assembled : List (ℕ × Instruction)
assembled =
    (0x00000037, Lui 0 0x0) ∷
    (0x00000017, Auipc 0 0x0) ∷
    (0x8000006f, Jal 0 0xfff00000) ∷
    (0x80000067, Jalr 0 0 0xfffff800) ∷
    (0x80000063, Beq 0 0 0xfffff000) ∷
    (0x80001063, Bne 0 0 0xfffff000) ∷
    (0x80004063, Blt 0 0 0xfffff000) ∷
    (0x80005063, Bge 0 0 0xfffff000) ∷
    (0x80006063, Bltu 0 0 0xfffff000) ∷
    (0x80007063, Bgeu 0 0 0xfffff000) ∷
    (0x80000003, Lb 0 0 0xfffff800) ∷
    (0x80001003, Lh 0 0 0xfffff800) ∷
    (0x80002003, Lw 0 0 0xfffff800) ∷
    (0x80004003, Lbu 0 0 0xfffff800) ∷
    (0x80005003, Lhu 0 0 0xfffff800) ∷
    (0x80000023, Sb 0 0 0xfffff800) ∷
    (0x80001023, Sh 0 0 0xfffff800) ∷
    (0x80002023, Sw 0 0 0xfffff800) ∷
    (0x80000013, Addi 0 0 0xfffff800) ∷
    (0x80002013, Slti 0 0 0xfffff800) ∷
    (0x80003013, Sltiu 0 0 0xfffff800) ∷
    (0x80004013, Xori 0 0 0xfffff800) ∷
    (0x80006013, Ori 0 0 0xfffff800) ∷
    (0x80007013, Andi 0 0 0xfffff800) ∷
    (0x00001013, Slli 0 0 0) ∷
    (0x00005013, Srli 0 0 0) ∷
    (0x40005013, Srai 0 0 0) ∷
    (0x00000033, Add 0 0 0) ∷
    (0x40000033, Sub 0 0 0) ∷
    (0x00001033, Sll 0 0 0) ∷
    (0x00002033, Slt 0 0 0) ∷
    (0x00003033, Sltu 0 0 0) ∷
    (0x00004033, Xor 0 0 0) ∷
    (0x00005033, Srl 0 0 0) ∷
    (0x40005033, Sra 0 0 0) ∷
    (0x00006033, Or 0 0 0) ∷
    (0x00007033, And 0 0 0) ∷
    (0x02000033, Mul 0 0 0) ∷
    (0x02001033, Mulh 0 0 0) ∷
    (0x02002033, Mulhsu 0 0 0) ∷
    (0x02003033, Mulhu 0 0 0) ∷
    (0x02004033, Div 0 0 0) ∷
    (0x02005033, Divu 0 0 0) ∷
    (0x02006033, Rem 0 0 0) ∷
    (0x02007033, Remu 0 0 0) ∷
    (0x1000202f, LrW 0 0 false false) ∷
    (0x1800202f, ScW 0 0 0 false false) ∷
    (0x0800202f, AmoSwapW 0 0 0 false false) ∷
    (0x0000202f, AmoAddW 0 0 0 false false) ∷
    (0x2000202f, AmoXorW 0 0 0 false false) ∷
    (0x6000202f, AmoAndW 0 0 0 false false) ∷
    (0x4000202f, AmoOrW 0 0 0 false false) ∷
    (0x8000202f, AmoMinW 0 0 0 false false) ∷
    (0xa000202f, AmoMaxW 0 0 0 false false) ∷
    (0xc000202f, AmoMinuW 0 0 0 false false) ∷
    (0xe000202f, AmoMaxuW 0 0 0 false false) ∷
    (0xffffffb7, Lui 31 0xfffff) ∷
    (0xffffff97, Auipc 31 0xfffff) ∷
    (0x7fffffef, Jal 31 0x000ffffe) ∷
    (0x7fff8fe7, Jalr 31 31 0x000007ff) ∷
    (0x7fff8fe3, Beq 31 31 0x00000ffe) ∷
    (0x7fff9fe3, Bne 31 31 0x00000ffe) ∷
    (0x7fffcfe3, Blt 31 31 0x00000ffe) ∷
    (0x7fffdfe3, Bge 31 31 0x00000ffe) ∷
    (0x7fffefe3, Bltu 31 31 0x00000ffe) ∷
    (0x7fffffe3, Bgeu 31 31 0x00000ffe) ∷
    (0x7fff8f83, Lb 31 31 0x000007ff) ∷
    (0x7fff9f83, Lh 31 31 0x000007ff) ∷
    (0x7fffaf83, Lw 31 31 0x000007ff) ∷
    (0x7fffcf83, Lbu 31 31 0x000007ff) ∷
    (0x7fffdf83, Lhu 31 31 0x000007ff) ∷
    (0x7fff8fa3, Sb 31 31 0x000007ff) ∷
    (0x7fff9fa3, Sh 31 31 0x000007ff) ∷
    (0x7fffafa3, Sw 31 31 0x000007ff) ∷
    (0x7fff8f93, Addi 31 31 0x000007ff) ∷
    (0x7fffaf93, Slti 31 31 0x000007ff) ∷
    (0x7fffbf93, Sltiu 31 31 0x000007ff) ∷
    (0x7fffcf93, Xori 31 31 0x000007ff) ∷
    (0x7fffef93, Ori 31 31 0x000007ff) ∷
    (0x7fffff93, Andi 31 31 0x000007ff) ∷
    (0x01ff9f93, Slli 31 31 31) ∷
    (0x01ffdf93, Srli 31 31 31) ∷
    (0x41ffdf93, Srai 31 31 31) ∷
    (0x01ff8fb3, Add 31 31 31) ∷
    (0x41ff8fb3, Sub 31 31 31) ∷
    (0x01ff9fb3, Sll 31 31 31) ∷
    (0x01ffafb3, Slt 31 31 31) ∷
    (0x01ffbfb3, Sltu 31 31 31) ∷
    (0x01ffcfb3, Xor 31 31 31) ∷
    (0x01ffdfb3, Srl 31 31 31) ∷
    (0x41ffdfb3, Sra 31 31 31) ∷
    (0x01ffefb3, Or 31 31 31) ∷
    (0x01ffffb3, And 31 31 31) ∷
    (0x03ff8fb3, Mul 31 31 31) ∷
    (0x03ff9fb3, Mulh 31 31 31) ∷
    (0x03ffafb3, Mulhsu 31 31 31) ∷
    (0x03ffbfb3, Mulhu 31 31 31) ∷
    (0x03ffcfb3, Div 31 31 31) ∷
    (0x03ffdfb3, Divu 31 31 31) ∷
    (0x03ffefb3, Rem 31 31 31) ∷
    (0x03ffffb3, Remu 31 31 31) ∷
    (0x140fafaf, LrW 31 31 true false) ∷
    (0x1dffafaf, ScW 31 31 31 true false) ∷
    (0x0dffafaf, AmoSwapW 31 31 31 true false) ∷
    (0x05ffafaf, AmoAddW 31 31 31 true false) ∷
    (0x25ffafaf, AmoXorW 31 31 31 true false) ∷
    (0x65ffafaf, AmoAndW 31 31 31 true false) ∷
    (0x45ffafaf, AmoOrW 31 31 31 true false) ∷
    (0x85ffafaf, AmoMinW 31 31 31 true false) ∷
    (0xa5ffafaf, AmoMaxW 31 31 31 true false) ∷
    (0xc5ffafaf, AmoMinuW 31 31 31 true false) ∷
    (0xe5ffafaf, AmoMaxuW 31 31 31 true false) ∷
    (0xabcde537, Lui 10 0xabcde) ∷
    (0xabcde517, Auipc 10 0xabcde) ∷
    (0x2abaa56f, Jal 10 0x000aaaaa) ∷
    (0xaaba8567, Jalr 10 21 0xfffffaab) ∷
    (0x2a6a85e3, Beq 21 6 0x00000aaa) ∷
    (0x2a6a95e3, Bne 21 6 0x00000aaa) ∷
    (0x2a6ac5e3, Blt 21 6 0x00000aaa) ∷
    (0x2a6ad5e3, Bge 21 6 0x00000aaa) ∷
    (0x2a6ae5e3, Bltu 21 6 0x00000aaa) ∷
    (0x2a6af5e3, Bgeu 21 6 0x00000aaa) ∷
    (0xaaba8503, Lb 10 21 0xfffffaab) ∷
    (0xaaba9503, Lh 10 21 0xfffffaab) ∷
    (0xaabaa503, Lw 10 21 0xfffffaab) ∷
    (0xaabac503, Lbu 10 21 0xfffffaab) ∷
    (0xaabad503, Lhu 10 21 0xfffffaab) ∷
    (0xaa6a85a3, Sb 21 6 0xfffffaab) ∷
    (0xaa6a95a3, Sh 21 6 0xfffffaab) ∷
    (0xaa6aa5a3, Sw 21 6 0xfffffaab) ∷
    (0xaaba8513, Addi 10 21 0xfffffaab) ∷
    (0xaabaa513, Slti 10 21 0xfffffaab) ∷
    (0xaabab513, Sltiu 10 21 0xfffffaab) ∷
    (0xaabac513, Xori 10 21 0xfffffaab) ∷
    (0xaabae513, Ori 10 21 0xfffffaab) ∷
    (0xaabaf513, Andi 10 21 0xfffffaab) ∷
    (0x015a9513, Slli 10 21 21) ∷
    (0x015ad513, Srli 10 21 21) ∷
    (0x415ad513, Srai 10 21 21) ∷
    (0x006a8533, Add 10 21 6) ∷
    (0x406a8533, Sub 10 21 6) ∷
    (0x006a9533, Sll 10 21 6) ∷
    (0x006aa533, Slt 10 21 6) ∷
    (0x006ab533, Sltu 10 21 6) ∷
    (0x006ac533, Xor 10 21 6) ∷
    (0x006ad533, Srl 10 21 6) ∷
    (0x406ad533, Sra 10 21 6) ∷
    (0x006ae533, Or 10 21 6) ∷
    (0x006af533, And 10 21 6) ∷
    (0x026a8533, Mul 10 21 6) ∷
    (0x026a9533, Mulh 10 21 6) ∷
    (0x026aa533, Mulhsu 10 21 6) ∷
    (0x026ab533, Mulhu 10 21 6) ∷
    (0x026ac533, Div 10 21 6) ∷
    (0x026ad533, Divu 10 21 6) ∷
    (0x026ae533, Rem 10 21 6) ∷
    (0x026af533, Remu 10 21 6) ∷
    (0x120aa52f, LrW 10 21 false true) ∷
    (0x1a6aa52f, ScW 10 21 6 false true) ∷
    (0x0a6aa52f, AmoSwapW 10 21 6 false true) ∷
    (0x026aa52f, AmoAddW 10 21 6 false true) ∷
    (0x226aa52f, AmoXorW 10 21 6 false true) ∷
    (0x626aa52f, AmoAndW 10 21 6 false true) ∷
    (0x426aa52f, AmoOrW 10 21 6 false true) ∷
    (0x826aa52f, AmoMinW 10 21 6 false true) ∷
    (0xa26aa52f, AmoMaxW 10 21 6 false true) ∷
    (0xc26aa52f, AmoMinuW 10 21 6 false true) ∷
    (0xe26aa52f, AmoMaxuW 10 21 6 false true) ∷
    (0x00000073, Ecall) ∷
    (0x00100073, Ebreak) ∷
    (0x0310000f, Fence 0x620 0) ∷
    (0x8330000f, Fence 0x10660 0) ∷
    []

pub assembled_words_have_their_rows : map (λ x. row x.0) assembled ≡ map (λ x. Some x.1) assembled
unfolding row jump_row branch_row load_row store_row left_shift_row right_shift_row immediate_row base_row other_row product_row operation_row fence_row system_row reserved_row word_row atomic_row
assembled_words_have_their_rows = refl
