-- A trapping instruction changes nothing.
use Rattle.std.proofs.Common.{◌≡◌, ℕ, Bool, true, false, if◌then◌else◌}
use Rattle.std.specs.Prelude.{◌%◌, ◌==◌}
use Rattle.fk_num.specs.Word.{word_sum}
use Rattle.fk_isa.specs.declared.effect.Effect.TheVariants.{Next, Trap}
use Rattle.fk_isa.specs.declared.instruction.Instruction.{Instruction}
use Rattle.fk_isa.specs.declared.instruction.Instruction.TheVariants.{Jal, Jalr, Beq, Bne, Blt, Bge, Bltu, Bgeu, Lb, Lh, Lw, Lbu, Lhu, Sb, Sh, Sw, Ecall, Ebreak, LrW, ScW, AmoSwapW, AmoAddW, AmoXorW, AmoAndW, AmoOrW, AmoMinW, AmoMaxW, AmoMinuW, AmoMaxuW}
use Rattle.fk_isa.specs.Tells.{Answer, Gives, Traps, Stored, GoesOn, Ends, FaultsAt, Tells}
use Rattle.fk_isa.specs.Step.{HartState, Outcome, After, puts, stores_to, branch, step}

-- what it comes to where it traps is where it began
abbrev IsSame : {S : Type 0} → HartState → S → ℕ → Outcome S → Type 0
IsSame {S} h s kind outcome = (after : HartState) (left : S) → outcome ≡ After (Trap kind) after left → (after ≡ h) × (left ≡ s)

puts_same : {S : Type 0} (h : HartState) (s : S) (kind rd : ℕ) (f : ℕ → ℕ) (answer : Answer S ℕ) → IsSame h s kind (puts h s rd f answer)
puts_same h s kind rd f (Gives v next) after left e = absurd (cc)
puts_same h s kind rd f (Traps code) after left e = (cc, cc)

stores_same : {S : Type 0} (h : HartState) (s : S) (kind : ℕ) (answer : Answer S Stored) → IsSame h s kind (stores_to h s answer)
stores_same h s kind (Gives GoesOn next) after left e = absurd (cc)
stores_same h s kind (Gives Ends next) after left e = absurd (cc)
stores_same h s kind (Gives (FaultsAt site) next) after left e = absurd (cc)
stores_same h s kind (Traps code) after left e = (cc, cc)

jump_same : {S : Type 0} (h to : HartState) (s : S) (kind : ℕ) (fits : Bool) → IsSame h s kind (After (if fits then Next else Trap 3) (if fits then to else h) s)
jump_same h to s kind true after left e = absurd (cc)
jump_same h to s kind false after left e = (cc, cc)

branch_same : {S : Type 0} (holds : Bool) (h : HartState) (s : S) (kind imm : ℕ) → IsSame h s kind (branch holds h s imm)
branch_same true h s kind imm after left e = jump_same h _ s kind (word_sum h.pc imm % 4 == 0) after left e
branch_same false h s kind imm after left e = absurd (cc)

-- an instruction that goes on doesn't trap
goes_same : {S : Type 0} (h to : HartState) (s : S) (kind : ℕ) → IsSame h s kind (After Next to s)
goes_same h to s kind after left e = absurd (cc)

stops_same : {S : Type 0} (h : HartState) (s : S) (kind code : ℕ) → IsSame h s kind (After (Trap code) h s)
stops_same h s kind code after left e = (cc, cc)

pub same : {S : Type 0} (t : Tells S) (n : ℕ) (i : Instruction) (h : HartState) (s : S) (kind : ℕ) → IsSame h s kind (step t n i h s)
same t n (Jal rd imm) h s kind = jump_same h _ s kind _
same t n (Jalr rd rs1 imm) h s kind = jump_same h _ s kind _
same t n (Beq rs1 rs2 imm) h s kind = branch_same _ h s kind imm
same t n (Bne rs1 rs2 imm) h s kind = branch_same _ h s kind imm
same t n (Blt rs1 rs2 imm) h s kind = branch_same _ h s kind imm
same t n (Bge rs1 rs2 imm) h s kind = branch_same _ h s kind imm
same t n (Bltu rs1 rs2 imm) h s kind = branch_same _ h s kind imm
same t n (Bgeu rs1 rs2 imm) h s kind = branch_same _ h s kind imm
same t n (Lb rd rs1 imm) h s kind = puts_same h s kind rd _ _
same t n (Lh rd rs1 imm) h s kind = puts_same h s kind rd _ _
same t n (Lw rd rs1 imm) h s kind = puts_same h s kind rd _ _
same t n (Lbu rd rs1 imm) h s kind = puts_same h s kind rd _ _
same t n (Lhu rd rs1 imm) h s kind = puts_same h s kind rd _ _
same t n (Sb rs1 rs2 imm) h s kind = stores_same h s kind _
same t n (Sh rs1 rs2 imm) h s kind = stores_same h s kind _
same t n (Sw rs1 rs2 imm) h s kind = stores_same h s kind _
same t n Ecall h s kind = stops_same h s kind 5
same t n Ebreak h s kind = stops_same h s kind 6
same t n (LrW rd rs1 aq rl) h s kind = puts_same h s kind rd _ _
same t n (ScW rd rs1 rs2 aq rl) h s kind = puts_same h s kind rd _ _
same t n (AmoSwapW rd rs1 rs2 aq rl) h s kind = puts_same h s kind rd _ _
same t n (AmoAddW rd rs1 rs2 aq rl) h s kind = puts_same h s kind rd _ _
same t n (AmoXorW rd rs1 rs2 aq rl) h s kind = puts_same h s kind rd _ _
same t n (AmoAndW rd rs1 rs2 aq rl) h s kind = puts_same h s kind rd _ _
same t n (AmoOrW rd rs1 rs2 aq rl) h s kind = puts_same h s kind rd _ _
same t n (AmoMinW rd rs1 rs2 aq rl) h s kind = puts_same h s kind rd _ _
same t n (AmoMaxW rd rs1 rs2 aq rl) h s kind = puts_same h s kind rd _ _
same t n (AmoMinuW rd rs1 rs2 aq rl) h s kind = puts_same h s kind rd _ _
same t n (AmoMaxuW rd rs1 rs2 aq rl) h s kind = puts_same h s kind rd _ _
same t n _ h s kind = goes_same h _ s kind
