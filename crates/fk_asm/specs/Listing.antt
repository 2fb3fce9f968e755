-- The texts of instructions, as assemblers write them.
use Rattle.std.specs.Prelude.{ℕ, ◌/◌, ◌%◌, ◌^◌, Bool, true, false, List, [], ◌∷◌, ◌++◌, map}
use Rattle.std.specs.Prelude.{slice_index_or, codes}
use Rattle.std.specs.Fmt.{decimal, digit_glyph, digits, signed_decimal}
use Rattle.std.specs.Option.{option_map_or}
use Rattle.fk_num.specs.Word.{signed}
use Rattle.fk_isa.specs.Find.{row}
use Rattle.fk_isa.specs.declared.instruction.Instruction.{Instruction}
use Rattle.fk_isa.specs.declared.instruction.Instruction.TheVariants.{Lui, Auipc, Jal, Jalr, Beq}
use Rattle.fk_isa.specs.declared.instruction.Instruction.TheVariants.{Bne, Blt, Bge, Bltu, Bgeu, Lb}
use Rattle.fk_isa.specs.declared.instruction.Instruction.TheVariants.{Lh, Lw, Lbu, Lhu, Sb, Sh, Sw}
use Rattle.fk_isa.specs.declared.instruction.Instruction.TheVariants.{Addi, Slti, Sltiu, Xori, Ori}
use Rattle.fk_isa.specs.declared.instruction.Instruction.TheVariants.{Andi, Slli, Srli, Srai, Add}
use Rattle.fk_isa.specs.declared.instruction.Instruction.TheVariants.{Sub, Sll, Slt, Sltu, Xor, Srl}
use Rattle.fk_isa.specs.declared.instruction.Instruction.TheVariants.{Sra, Or, And, Mul, Mulh}
use Rattle.fk_isa.specs.declared.instruction.Instruction.TheVariants.{Mulhsu, Mulhu, Div, Divu, Rem}
use Rattle.fk_isa.specs.declared.instruction.Instruction.TheVariants.{Remu, Fence, Ecall, Ebreak}
use Rattle.fk_isa.specs.declared.instruction.Instruction.TheVariants.{LrW, ScW, AmoSwapW, AmoAddW}
use Rattle.fk_isa.specs.declared.instruction.Instruction.TheVariants.{AmoXorW, AmoAndW, AmoOrW}
use Rattle.fk_isa.specs.declared.instruction.Instruction.TheVariants.{AmoMinW, AmoMaxW, AmoMinuW}
use Rattle.fk_isa.specs.declared.instruction.Instruction.TheVariants.{AmoMaxuW}

-- ---- numbers

-- The hexadecimal digits of a number, without leading zeros.
abbrev pub hexadecimal : ℕ → List ℕ
hexadecimal n = digits 16 false n

-- The hexadecimal digit of a number at a place, counted from its last digit on.
abbrev pub digit_at : ℕ → ℕ → ℕ
digit_at n place = digit_glyph false (n / 16 ^ place % 16)

-- A word in eight hexadecimal digits.
unfoldable pub eight_digits : ℕ → List ℕ
eight_digits w = map (digit_at w) (7 ∷ 6 ∷ 5 ∷ 4 ∷ 3 ∷ 2 ∷ 1 ∷ 0 ∷ [])

-- The signed value of a word in decimal.
abbrev pub immediate : ℕ → List ℕ
immediate w = signed_decimal (signed w)

-- ---- registers

-- The names of the registers 0 to 31.
abbrev pub register_names : List (List ℕ)
register_names =
    codes "zero" ∷ codes "ra" ∷ codes "sp" ∷ codes "gp" ∷ codes "tp" ∷
    codes "t0" ∷ codes "t1" ∷ codes "t2" ∷
    codes "s0" ∷ codes "s1" ∷
    codes "a0" ∷ codes "a1" ∷ codes "a2" ∷ codes "a3" ∷ codes "a4" ∷ codes "a5" ∷
    codes "a6" ∷ codes "a7" ∷
    codes "s2" ∷ codes "s3" ∷ codes "s4" ∷ codes "s5" ∷ codes "s6" ∷ codes "s7" ∷ codes "s8" ∷
    codes "s9" ∷ codes "s10" ∷ codes "s11" ∷
    codes "t3" ∷ codes "t4" ∷ codes "t5" ∷ codes "t6" ∷
    []

-- The name of a register.
unfoldable pub register : ℕ → List ℕ
register number = slice_index_or register_names number []

-- ---- the shapes of texts

-- A name and the first register after it.
abbrev pub name_and_register : List ℕ → ℕ → List ℕ
name_and_register name r = name ++ codes " " ++ register r ++ codes ", "

-- The register of an address.
abbrev pub in_parentheses : ℕ → List ℕ
in_parentheses r = codes "(" ++ register r ++ codes ")"

-- `lui rd, 0x30000`
unfoldable pub upper : List ℕ → ℕ → ℕ → List ℕ
upper name rd imm = name_and_register name rd ++ codes "0x" ++ hexadecimal imm

-- `jal rd, -8`
unfoldable pub jump : List ℕ → ℕ → ℕ → List ℕ
jump name rd imm = name_and_register name rd ++ immediate imm

-- `lw rd, 12(rs1)`
unfoldable pub at_offset : List ℕ → ℕ → ℕ → ℕ → List ℕ
at_offset name r base imm = name_and_register name r ++ immediate imm ++ in_parentheses base

-- `addi rd, rs1, -1`
unfoldable pub with_immediate : List ℕ → ℕ → ℕ → ℕ → List ℕ
with_immediate name a b imm = name_and_register name a ++ register b ++ codes ", " ++ immediate imm

-- `slli rd, rs1, 31`
unfoldable pub with_distance : List ℕ → ℕ → ℕ → ℕ → List ℕ
with_distance name a b distance =
    name_and_register name a ++ register b ++ codes ", " ++ decimal distance

-- `add rd, rs1, rs2`
unfoldable pub three_registers : List ℕ → ℕ → ℕ → ℕ → List ℕ
three_registers name a b c = name_and_register name a ++ register b ++ codes ", " ++ register c

-- The suffix of a name for the bits aq and rl.
unfoldable pub ordering : Bool → Bool → List ℕ
ordering false false = []
ordering true false = codes ".aq"
ordering false true = codes ".rl"
ordering true true = codes ".aqrl"

-- `lr.w.aq rd, (rs1)`
unfoldable pub reserving : List ℕ → Bool → Bool → ℕ → ℕ → List ℕ
reserving name aq rl rd base = name_and_register (name ++ ordering aq rl) rd ++ in_parentheses base

-- `amoadd.w rd, rs2, (rs1)`
unfoldable pub atomic : List ℕ → Bool → Bool → ℕ → ℕ → ℕ → List ℕ
atomic name aq rl rd value base = name_and_register (name ++ ordering aq rl) rd ++ register value
    ++ codes ", " ++ in_parentheses base

-- ---- the table

-- The text of an instruction.
abbrev pub text_of : Instruction → List ℕ
text_of (Lui rd imm) = upper (codes "lui") rd imm
text_of (Auipc rd imm) = upper (codes "auipc") rd imm
text_of (Jal rd imm) = jump (codes "jal") rd imm
text_of (Jalr rd rs1 imm) = at_offset (codes "jalr") rd rs1 imm
text_of (Beq rs1 rs2 imm) = with_immediate (codes "beq") rs1 rs2 imm
text_of (Bne rs1 rs2 imm) = with_immediate (codes "bne") rs1 rs2 imm
text_of (Blt rs1 rs2 imm) = with_immediate (codes "blt") rs1 rs2 imm
text_of (Bge rs1 rs2 imm) = with_immediate (codes "bge") rs1 rs2 imm
text_of (Bltu rs1 rs2 imm) = with_immediate (codes "bltu") rs1 rs2 imm
text_of (Bgeu rs1 rs2 imm) = with_immediate (codes "bgeu") rs1 rs2 imm
text_of (Lb rd rs1 imm) = at_offset (codes "lb") rd rs1 imm
text_of (Lh rd rs1 imm) = at_offset (codes "lh") rd rs1 imm
text_of (Lw rd rs1 imm) = at_offset (codes "lw") rd rs1 imm
text_of (Lbu rd rs1 imm) = at_offset (codes "lbu") rd rs1 imm
text_of (Lhu rd rs1 imm) = at_offset (codes "lhu") rd rs1 imm
text_of (Sb rs1 rs2 imm) = at_offset (codes "sb") rs2 rs1 imm
text_of (Sh rs1 rs2 imm) = at_offset (codes "sh") rs2 rs1 imm
text_of (Sw rs1 rs2 imm) = at_offset (codes "sw") rs2 rs1 imm
text_of (Addi rd rs1 imm) = with_immediate (codes "addi") rd rs1 imm
text_of (Slti rd rs1 imm) = with_immediate (codes "slti") rd rs1 imm
text_of (Sltiu rd rs1 imm) = with_immediate (codes "sltiu") rd rs1 imm
text_of (Xori rd rs1 imm) = with_immediate (codes "xori") rd rs1 imm
text_of (Ori rd rs1 imm) = with_immediate (codes "ori") rd rs1 imm
text_of (Andi rd rs1 imm) = with_immediate (codes "andi") rd rs1 imm
text_of (Slli rd rs1 distance) = with_distance (codes "slli") rd rs1 distance
text_of (Srli rd rs1 distance) = with_distance (codes "srli") rd rs1 distance
text_of (Srai rd rs1 distance) = with_distance (codes "srai") rd rs1 distance
text_of (Add rd rs1 rs2) = three_registers (codes "add") rd rs1 rs2
text_of (Sub rd rs1 rs2) = three_registers (codes "sub") rd rs1 rs2
text_of (Sll rd rs1 rs2) = three_registers (codes "sll") rd rs1 rs2
text_of (Slt rd rs1 rs2) = three_registers (codes "slt") rd rs1 rs2
text_of (Sltu rd rs1 rs2) = three_registers (codes "sltu") rd rs1 rs2
text_of (Xor rd rs1 rs2) = three_registers (codes "xor") rd rs1 rs2
text_of (Srl rd rs1 rs2) = three_registers (codes "srl") rd rs1 rs2
text_of (Sra rd rs1 rs2) = three_registers (codes "sra") rd rs1 rs2
text_of (Or rd rs1 rs2) = three_registers (codes "or") rd rs1 rs2
text_of (And rd rs1 rs2) = three_registers (codes "and") rd rs1 rs2
text_of (Mul rd rs1 rs2) = three_registers (codes "mul") rd rs1 rs2
text_of (Mulh rd rs1 rs2) = three_registers (codes "mulh") rd rs1 rs2
text_of (Mulhsu rd rs1 rs2) = three_registers (codes "mulhsu") rd rs1 rs2
text_of (Mulhu rd rs1 rs2) = three_registers (codes "mulhu") rd rs1 rs2
text_of (Div rd rs1 rs2) = three_registers (codes "div") rd rs1 rs2
text_of (Divu rd rs1 rs2) = three_registers (codes "divu") rd rs1 rs2
text_of (Rem rd rs1 rs2) = three_registers (codes "rem") rd rs1 rs2
text_of (Remu rd rs1 rs2) = three_registers (codes "remu") rd rs1 rs2
text_of (Fence high low) = codes "fence"
text_of Ecall = codes "ecall"
text_of Ebreak = codes "ebreak"
text_of (LrW rd rs1 aq rl) = reserving (codes "lr.w") aq rl rd rs1
text_of (ScW rd rs1 rs2 aq rl) = atomic (codes "sc.w") aq rl rd rs2 rs1
text_of (AmoSwapW rd rs1 rs2 aq rl) = atomic (codes "amoswap.w") aq rl rd rs2 rs1
text_of (AmoAddW rd rs1 rs2 aq rl) = atomic (codes "amoadd.w") aq rl rd rs2 rs1
text_of (AmoXorW rd rs1 rs2 aq rl) = atomic (codes "amoxor.w") aq rl rd rs2 rs1
text_of (AmoAndW rd rs1 rs2 aq rl) = atomic (codes "amoand.w") aq rl rd rs2 rs1
text_of (AmoOrW rd rs1 rs2 aq rl) = atomic (codes "amoor.w") aq rl rd rs2 rs1
text_of (AmoMinW rd rs1 rs2 aq rl) = atomic (codes "amomin.w") aq rl rd rs2 rs1
text_of (AmoMaxW rd rs1 rs2 aq rl) = atomic (codes "amomax.w") aq rl rd rs2 rs1
text_of (AmoMinuW rd rs1 rs2 aq rl) = atomic (codes "amominu.w") aq rl rd rs2 rs1
text_of (AmoMaxuW rd rs1 rs2 aq rl) = atomic (codes "amomaxu.w") aq rl rd rs2 rs1

-- The text of a word that has no row in the table of instructions.
unfoldable pub unknown : ℕ → List ℕ
unknown w = codes ".word 0x" ++ eight_digits w

-- The text of a word: that of its row.
unfoldable pub listed : ℕ → List ℕ
listed w = option_map_or text_of (row w) (unknown w)

-- A line of a listing: the address, the word and its text.
unfoldable pub line_of : ℕ → ℕ → List ℕ
line_of address w = eight_digits address ++ codes ": " ++ eight_digits w ++ codes "  "
    ++ listed w ++ 10 ∷ []
