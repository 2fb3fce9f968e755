-- An instruction has at most one word.
use Rattle.std.proofs.Common.{◌≡◌, ℕ, Bool, ◌+◌, ◌*◌, ◌^◌, ◌<◌, ◌==◌, sym, ◌∙◌, arith}
use Rattle.std.proofs.lemmas.Bool.Decides.{nat_tests}
use Rattle.fk_isa.specs.declared.instruction.Instruction.{Instruction}
use Rattle.fk_isa.specs.declared.instruction.Instruction.TheVariants.{Lui, Auipc, Jal, Jalr, Beq, Bne, Blt, Bge, Bltu, Bgeu, Lb, Lh, Lw, Lbu, Lhu, Sb, Sh, Sw, Addi, Slti, Sltiu, Xori, Ori, Andi, Slli, Srli, Srai, Add, Sub, Sll, Slt, Sltu, Xor, Srl, Sra, Or, And, Mul, Mulh, Mulhsu, Mulhu, Div, Divu, Rem, Remu, Fence, Ecall, Ebreak, LrW, ScW, AmoSwapW, AmoAddW, AmoXorW, AmoAndW, AmoOrW, AmoMinW, AmoMaxW, AmoMinuW, AmoMaxuW}
use Rattle.fk_isa.specs.Bits.{bits, opcode, funct3, funct7, rd, rs1, rs2, extended}
use Rattle.fk_isa.specs.Row.{Row, RFormat, IFormat, SFormat, BFormat, UFormat, JFormat, AFormat, FenceFormat}

-- a word from its fields
parts : (w : ℕ) → w < 2 ^ 32 → w ≡ funct7 w * 2 ^ 25 + rs2 w * 2 ^ 20 + rs1 w * 2 ^ 15 + funct3 w * 2 ^ 12 + rd w * 2 ^ 7 + opcode w
parts w f = omega arith

same_12 : (m n : ℕ) → m < 2 ^ 12 → n < 2 ^ 12 → extended 12 m ≡ extended 12 n → m ≡ n
same_12 m n f g e = grind (arith, nat_tests)

same_13 : (m n : ℕ) → m < 2 ^ 13 → n < 2 ^ 13 → extended 13 m ≡ extended 13 n → m ≡ n
same_13 m n f g e = grind (arith, nat_tests)

same_21 : (m n : ℕ) → m < 2 ^ 21 → n < 2 ^ 21 → extended 21 m ≡ extended 21 n → m ≡ n
same_21 m n f g e = grind (arith, nat_tests)

same_bit : (m n : ℕ) → m < 2 → n < 2 → (m == 1) ≡ (n == 1) → m ≡ n
same_bit m n f g e = grind (arith, nat_tests)

r_word : {f7 f3 code d a b : ℕ} (w v : ℕ) → w < 2 ^ 32 → v < 2 ^ 32 → RFormat w f7 f3 code d a b → RFormat v f7 f3 code d a b → w ≡ v
r_word w v f g p q = omega (arith, parts w f, parts v g)

i_word : {f3 code d a imm : ℕ} (w v : ℕ) → w < 2 ^ 32 → v < 2 ^ 32 → IFormat w f3 code d a imm → IFormat v f3 code d a imm → w ≡ v
i_word w v f g p q =
    let same : bits w 20 12 ≡ bits v 20 12 = same_12 _ _ (omega arith) (omega arith) (p.immediate ∙ sym q.immediate) in
    omega arith

s_word : {f3 code a b imm : ℕ} (w v : ℕ) → w < 2 ^ 32 → v < 2 ^ 32 → SFormat w f3 code a b imm → SFormat v f3 code a b imm → w ≡ v
s_word w v f g p q =
    let same : funct7 w * 2 ^ 5 + rd w ≡ funct7 v * 2 ^ 5 + rd v = same_12 _ _ (omega arith) (omega arith) (p.immediate ∙ sym q.immediate) in
    omega (arith, parts w f, parts v g)

upper_part : (w : ℕ) → w < 2 ^ 32 → funct7 w ≡ bits w 31 1 * 2 ^ 6 + bits w 25 6
upper_part w f = omega arith

lower_part : (w : ℕ) → rd w ≡ bits w 8 4 * 2 + bits w 7 1
lower_part w = omega arith

b_word : {f3 code a b imm : ℕ} (w v : ℕ) → w < 2 ^ 32 → v < 2 ^ 32 → BFormat w f3 code a b imm → BFormat v f3 code a b imm → w ≡ v
b_word w v f g p q =
    let same : bits w 31 1 * 2 ^ 12 + bits w 7 1 * 2 ^ 11 + bits w 25 6 * 2 ^ 5 + bits w 8 4 * 2 ≡ bits v 31 1 * 2 ^ 12 + bits v 7 1 * 2 ^ 11 + bits v 25 6 * 2 ^ 5 + bits v 8 4 * 2 = same_13 _ _ (omega arith) (omega arith) (p.immediate ∙ sym q.immediate) in
    let sign : bits w 31 1 ≡ bits v 31 1 = omega arith in
    let eleven : bits w 7 1 ≡ bits v 7 1 = omega arith in
    let middle : bits w 25 6 ≡ bits v 25 6 = omega arith in
    let lower : bits w 8 4 ≡ bits v 8 4 = omega arith in
    let above : funct7 w ≡ funct7 v = upper_part w f ∙ (rw (sign, middle) (sym (upper_part v g))) in
    let below : rd w ≡ rd v = lower_part w ∙ (rw (lower, eleven) (sym (lower_part v))) in
    omega (arith, parts w f, parts v g)

u_word : {code d imm : ℕ} (w v : ℕ) → w < 2 ^ 32 → v < 2 ^ 32 → UFormat w code d imm → UFormat v code d imm → w ≡ v
u_word w v f g p q = omega arith

j_word : {code d imm : ℕ} (w v : ℕ) → w < 2 ^ 32 → v < 2 ^ 32 → JFormat w code d imm → JFormat v code d imm → w ≡ v
j_word w v f g p q =
    let same : bits w 31 1 * 2 ^ 20 + bits w 12 8 * 2 ^ 12 + bits w 20 1 * 2 ^ 11 + bits w 21 10 * 2 ≡ bits v 31 1 * 2 ^ 20 + bits v 12 8 * 2 ^ 12 + bits v 20 1 * 2 ^ 11 + bits v 21 10 * 2 = same_21 _ _ (omega arith) (omega arith) (p.immediate ∙ sym q.immediate) in
    omega arith

a_word : {f5 : ℕ} {aq rl : Bool} {f3 code d a b : ℕ} (w v : ℕ) → w < 2 ^ 32 → v < 2 ^ 32 → AFormat w f5 aq rl f3 code d a b → AFormat v f5 aq rl f3 code d a b → w ≡ v
a_word w v f g p q =
    let acquire : bits w 26 1 ≡ bits v 26 1 = same_bit _ _ (omega arith) (omega arith) (p.acquire ∙ sym q.acquire) in
    let release : bits w 25 1 ≡ bits v 25 1 = same_bit _ _ (omega arith) (omega arith) (p.release ∙ sym q.release) in
    let upper : funct7 w ≡ funct7 v = omega arith in
    omega (arith, parts w f, parts v g)

fence_word : {f3 code high low : ℕ} (w v : ℕ) → w < 2 ^ 32 → v < 2 ^ 32 → FenceFormat w f3 code high low → FenceFormat v f3 code high low → w ≡ v
fence_word w v f g p q = omega arith

pub one_word : (i : Instruction) (w v : ℕ) → w < 2 ^ 32 → v < 2 ^ 32 → Row w i → Row v i → w ≡ v
one_word (Lui rd imm) w v f g p q = u_word w v f g p q
one_word (Auipc rd imm) w v f g p q = u_word w v f g p q
one_word (Jal rd imm) w v f g p q = j_word w v f g p q
one_word (Jalr rd rs1 imm) w v f g p q = i_word w v f g p q
one_word (Beq rs1 rs2 imm) w v f g p q = b_word w v f g p q
one_word (Bne rs1 rs2 imm) w v f g p q = b_word w v f g p q
one_word (Blt rs1 rs2 imm) w v f g p q = b_word w v f g p q
one_word (Bge rs1 rs2 imm) w v f g p q = b_word w v f g p q
one_word (Bltu rs1 rs2 imm) w v f g p q = b_word w v f g p q
one_word (Bgeu rs1 rs2 imm) w v f g p q = b_word w v f g p q
one_word (Lb rd rs1 imm) w v f g p q = i_word w v f g p q
one_word (Lh rd rs1 imm) w v f g p q = i_word w v f g p q
one_word (Lw rd rs1 imm) w v f g p q = i_word w v f g p q
one_word (Lbu rd rs1 imm) w v f g p q = i_word w v f g p q
one_word (Lhu rd rs1 imm) w v f g p q = i_word w v f g p q
one_word (Sb rs1 rs2 imm) w v f g p q = s_word w v f g p q
one_word (Sh rs1 rs2 imm) w v f g p q = s_word w v f g p q
one_word (Sw rs1 rs2 imm) w v f g p q = s_word w v f g p q
one_word (Addi rd rs1 imm) w v f g p q = i_word w v f g p q
one_word (Slti rd rs1 imm) w v f g p q = i_word w v f g p q
one_word (Sltiu rd rs1 imm) w v f g p q = i_word w v f g p q
one_word (Xori rd rs1 imm) w v f g p q = i_word w v f g p q
one_word (Ori rd rs1 imm) w v f g p q = i_word w v f g p q
one_word (Andi rd rs1 imm) w v f g p q = i_word w v f g p q
one_word (Slli rd rs1 distance) w v f g p q = r_word w v f g p q
one_word (Srli rd rs1 distance) w v f g p q = r_word w v f g p q
one_word (Srai rd rs1 distance) w v f g p q = r_word w v f g p q
one_word (Add rd rs1 rs2) w v f g p q = r_word w v f g p q
one_word (Sub rd rs1 rs2) w v f g p q = r_word w v f g p q
one_word (Sll rd rs1 rs2) w v f g p q = r_word w v f g p q
one_word (Slt rd rs1 rs2) w v f g p q = r_word w v f g p q
one_word (Sltu rd rs1 rs2) w v f g p q = r_word w v f g p q
one_word (Xor rd rs1 rs2) w v f g p q = r_word w v f g p q
one_word (Srl rd rs1 rs2) w v f g p q = r_word w v f g p q
one_word (Sra rd rs1 rs2) w v f g p q = r_word w v f g p q
one_word (Or rd rs1 rs2) w v f g p q = r_word w v f g p q
one_word (And rd rs1 rs2) w v f g p q = r_word w v f g p q
one_word (Mul rd rs1 rs2) w v f g p q = r_word w v f g p q
one_word (Mulh rd rs1 rs2) w v f g p q = r_word w v f g p q
one_word (Mulhsu rd rs1 rs2) w v f g p q = r_word w v f g p q
one_word (Mulhu rd rs1 rs2) w v f g p q = r_word w v f g p q
one_word (Div rd rs1 rs2) w v f g p q = r_word w v f g p q
one_word (Divu rd rs1 rs2) w v f g p q = r_word w v f g p q
one_word (Rem rd rs1 rs2) w v f g p q = r_word w v f g p q
one_word (Remu rd rs1 rs2) w v f g p q = r_word w v f g p q
one_word (Fence high low) w v f g p q = fence_word w v f g p q
one_word Ecall w v f g p q = p ∙ sym q
one_word Ebreak w v f g p q = p ∙ sym q
one_word (LrW rd rs1 aq rl) w v f g p q = a_word w v f g p q
one_word (ScW rd rs1 rs2 aq rl) w v f g p q = a_word w v f g p q
one_word (AmoSwapW rd rs1 rs2 aq rl) w v f g p q = a_word w v f g p q
one_word (AmoAddW rd rs1 rs2 aq rl) w v f g p q = a_word w v f g p q
one_word (AmoXorW rd rs1 rs2 aq rl) w v f g p q = a_word w v f g p q
one_word (AmoAndW rd rs1 rs2 aq rl) w v f g p q = a_word w v f g p q
one_word (AmoOrW rd rs1 rs2 aq rl) w v f g p q = a_word w v f g p q
one_word (AmoMinW rd rs1 rs2 aq rl) w v f g p q = a_word w v f g p q
one_word (AmoMaxW rd rs1 rs2 aq rl) w v f g p q = a_word w v f g p q
one_word (AmoMinuW rd rs1 rs2 aq rl) w v f g p q = a_word w v f g p q
one_word (AmoMaxuW rd rs1 rs2 aq rl) w v f g p q = a_word w v f g p q
