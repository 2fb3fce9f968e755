-- An instruction that is none of the others computes.
use Rattle.std.proofs.Common.{◌≡◌, ℕ, Bool, refl}
use Rattle.fk_isa.specs.declared.instruction.Instruction.{Instruction}
use Rattle.fk_isa.specs.declared.instruction.Instruction.TheVariants.{Jal, Jalr, Beq, Bne, Blt, Bge, Bltu, Bgeu, Lb, Lh, Lw, Lbu, Lhu, Sb, Sh, Sw, Fence, Ecall, Ebreak, LrW, ScW, AmoSwapW, AmoAddW, AmoXorW, AmoAndW, AmoOrW, AmoMinW, AmoMaxW, AmoMinuW, AmoMaxuW}
use Rattle.fk_isa.specs.Computation.{IsComputation}

-- an instruction has not a form, by the number of the form's fields
abbrev IsNot0 : Instruction → Instruction → Type 0
IsNot0 i form = i ≡ form → ⊥

abbrev IsNot2 : Instruction → (ℕ → ℕ → Instruction) → Type 0
IsNot2 i form = (a b : ℕ) → i ≡ form a b → ⊥

abbrev IsNot3 : Instruction → (ℕ → ℕ → ℕ → Instruction) → Type 0
IsNot3 i form = (a b c : ℕ) → i ≡ form a b c → ⊥

abbrev IsNot4 : Instruction → (ℕ → ℕ → Bool → Bool → Instruction) → Type 0
IsNot4 i form = (a b : ℕ) (aq rl : Bool) → i ≡ form a b aq rl → ⊥

abbrev IsNot5 : Instruction → (ℕ → ℕ → ℕ → Bool → Bool → Instruction) → Type 0
IsNot5 i form = (a b c : ℕ) (aq rl : Bool) → i ≡ form a b c aq rl → ⊥

pub computes : (i : Instruction)
    → IsNot2 i Jal → IsNot3 i Jalr → IsNot3 i Beq → IsNot3 i Bne → IsNot3 i Blt → IsNot3 i Bge
    → IsNot3 i Bltu → IsNot3 i Bgeu → IsNot3 i Lb → IsNot3 i Lh → IsNot3 i Lw → IsNot3 i Lbu
    → IsNot3 i Lhu → IsNot3 i Sb → IsNot3 i Sh → IsNot3 i Sw → IsNot2 i Fence → IsNot0 i Ecall
    → IsNot0 i Ebreak → IsNot4 i LrW → IsNot5 i ScW → IsNot5 i AmoSwapW → IsNot5 i AmoAddW
    → IsNot5 i AmoXorW → IsNot5 i AmoAndW → IsNot5 i AmoOrW → IsNot5 i AmoMinW → IsNot5 i AmoMaxW
    → IsNot5 i AmoMinuW → IsNot5 i AmoMaxuW
    → IsComputation i
computes i
    jal jalr beq bne blt bge bltu bgeu lb lh lw lbu lhu sb sh sw fence ecall ebreak lr sc amoswap
    amoadd amoxor amoand amoor amomin amomax amominu amomaxu =
    cases i refl
  where
    cases : (j : Instruction) → i ≡ j → IsComputation j
    cases (Jal a b) e = absurd (jal a b e)
    cases (Jalr a b c) e = absurd (jalr a b c e)
    cases (Beq a b c) e = absurd (beq a b c e)
    cases (Bne a b c) e = absurd (bne a b c e)
    cases (Blt a b c) e = absurd (blt a b c e)
    cases (Bge a b c) e = absurd (bge a b c e)
    cases (Bltu a b c) e = absurd (bltu a b c e)
    cases (Bgeu a b c) e = absurd (bgeu a b c e)
    cases (Lb a b c) e = absurd (lb a b c e)
    cases (Lh a b c) e = absurd (lh a b c e)
    cases (Lw a b c) e = absurd (lw a b c e)
    cases (Lbu a b c) e = absurd (lbu a b c e)
    cases (Lhu a b c) e = absurd (lhu a b c e)
    cases (Sb a b c) e = absurd (sb a b c e)
    cases (Sh a b c) e = absurd (sh a b c e)
    cases (Sw a b c) e = absurd (sw a b c e)
    cases (Fence a b) e = absurd (fence a b e)
    cases Ecall e = absurd (ecall e)
    cases Ebreak e = absurd (ebreak e)
    cases (LrW a b aq rl) e = absurd (lr a b aq rl e)
    cases (ScW a b c aq rl) e = absurd (sc a b c aq rl e)
    cases (AmoSwapW a b c aq rl) e = absurd (amoswap a b c aq rl e)
    cases (AmoAddW a b c aq rl) e = absurd (amoadd a b c aq rl e)
    cases (AmoXorW a b c aq rl) e = absurd (amoxor a b c aq rl e)
    cases (AmoAndW a b c aq rl) e = absurd (amoand a b c aq rl e)
    cases (AmoOrW a b c aq rl) e = absurd (amoor a b c aq rl e)
    cases (AmoMinW a b c aq rl) e = absurd (amomin a b c aq rl e)
    cases (AmoMaxW a b c aq rl) e = absurd (amomax a b c aq rl e)
    cases (AmoMinuW a b c aq rl) e = absurd (amominu a b c aq rl e)
    cases (AmoMaxuW a b c aq rl) e = absurd (amomaxu a b c aq rl e)
    cases _ e = tt
