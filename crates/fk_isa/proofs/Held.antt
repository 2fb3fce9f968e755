-- What is found is the row of the word.
use Rattle.std.proofs.Common.{◌≡◌, ℕ, Bool, true, false, ◌==◌, if◌then◌else◌, Option, Some, None, refl, subst, sym, ◌∙◌, ◌↔◌}
use Rattle.std.proofs.lemmas.Bool.{eqb-true}
use Rattle.fk_isa.specs.declared.instruction.Instruction.{Instruction}
use Rattle.fk_isa.specs.declared.instruction.Instruction.TheVariants.{Lui, Auipc, Jal, Jalr, Beq, Bne, Blt, Bge, Bltu, Bgeu, Lb, Lh, Lw, Lbu, Lhu, Sb, Sh, Sw, Addi, Slti, Sltiu, Xori, Ori, Andi, Slli, Srli, Srai, Add, Sub, Sll, Slt, Sltu, Xor, Srl, Sra, Or, And, Mul, Mulh, Mulhsu, Mulhu, Div, Divu, Rem, Remu, Fence, Ecall, Ebreak, LrW, ScW, AmoSwapW, AmoAddW, AmoXorW, AmoAndW, AmoOrW, AmoMinW, AmoMaxW, AmoMinuW, AmoMaxuW}
use Rattle.fk_isa.specs.Find.{row, jump_row, branch_row, load_row, store_row, left_shift_row, right_shift_row, immediate_row, base_row, other_row, product_row, operation_row, fence_row, system_row, reserved_row, word_row, atomic_row}
use Rattle.fk_isa.specs.Found.{HasNoRow}
use Rattle.fk_isa.specs.Row.{Row}
use Rattle.fk_isa.proofs.Found.{found}
use Rattle.fk_isa.specs.Bits.{bits, is_set, opcode, funct3, funct5, funct7, rd, rs1, rs2, i_immediate, s_immediate, b_immediate, u_immediate, j_immediate}

-- what is found of a word, if something is, is its row
pub record IsRowOf (w : ℕ) (found : Option Instruction) : Type 0 where
  pub row : (i : Instruction) → found ≡ Some i → Row w i

nothing : {w : ℕ} → IsRowOf w None
nothing = record { row = λ i e. cc }

here : {w : ℕ} (i : Instruction) → Row w i → IsRowOf w (Some i)
here {w} i r = record { row = λ j e. let same : i ≡ j = cc in subst (λ k. Row w k) same r }

choose : (w : ℕ) (b : Bool) (x y : Option Instruction) → (b ≡ true → IsRowOf w x) → IsRowOf w y → IsRowOf w (if b then x else y)
choose w true x y f g = f refl
choose w false x y f g = g

equal : (a b : ℕ) → (a == b) ≡ true → a ≡ b
equal a b e = eqb-true a b e

jump : (w : ℕ) → opcode w ≡ 0x67 → IsRowOf w (jump_row w)
unfolding jump_row
jump w lower =
    choose w _ _ _ (λ t. here (Jalr (rd w) (rs1 w) (i_immediate w)) (record { middle = equal _ _ t; lower = lower; to = refl; from = refl; immediate = refl }))
    (nothing)

branch : (w : ℕ) → opcode w ≡ 0x63 → IsRowOf w (branch_row w)
unfolding branch_row
branch w lower =
    choose w _ _ _ (λ t. here (Beq (rs1 w) (rs2 w) (b_immediate w)) (record { middle = equal _ _ t; lower = lower; from = refl; and = refl; immediate = refl }))
    (choose w _ _ _ (λ t. here (Bne (rs1 w) (rs2 w) (b_immediate w)) (record { middle = equal _ _ t; lower = lower; from = refl; and = refl; immediate = refl }))
    (choose w _ _ _ (λ t. here (Blt (rs1 w) (rs2 w) (b_immediate w)) (record { middle = equal _ _ t; lower = lower; from = refl; and = refl; immediate = refl }))
    (choose w _ _ _ (λ t. here (Bge (rs1 w) (rs2 w) (b_immediate w)) (record { middle = equal _ _ t; lower = lower; from = refl; and = refl; immediate = refl }))
    (choose w _ _ _ (λ t. here (Bltu (rs1 w) (rs2 w) (b_immediate w)) (record { middle = equal _ _ t; lower = lower; from = refl; and = refl; immediate = refl }))
    (choose w _ _ _ (λ t. here (Bgeu (rs1 w) (rs2 w) (b_immediate w)) (record { middle = equal _ _ t; lower = lower; from = refl; and = refl; immediate = refl }))
    (nothing))))))

load : (w : ℕ) → opcode w ≡ 0x03 → IsRowOf w (load_row w)
unfolding load_row
load w lower =
    choose w _ _ _ (λ t. here (Lb (rd w) (rs1 w) (i_immediate w)) (record { middle = equal _ _ t; lower = lower; to = refl; from = refl; immediate = refl }))
    (choose w _ _ _ (λ t. here (Lh (rd w) (rs1 w) (i_immediate w)) (record { middle = equal _ _ t; lower = lower; to = refl; from = refl; immediate = refl }))
    (choose w _ _ _ (λ t. here (Lw (rd w) (rs1 w) (i_immediate w)) (record { middle = equal _ _ t; lower = lower; to = refl; from = refl; immediate = refl }))
    (choose w _ _ _ (λ t. here (Lbu (rd w) (rs1 w) (i_immediate w)) (record { middle = equal _ _ t; lower = lower; to = refl; from = refl; immediate = refl }))
    (choose w _ _ _ (λ t. here (Lhu (rd w) (rs1 w) (i_immediate w)) (record { middle = equal _ _ t; lower = lower; to = refl; from = refl; immediate = refl }))
    (nothing)))))

store : (w : ℕ) → opcode w ≡ 0x23 → IsRowOf w (store_row w)
unfolding store_row
store w lower =
    choose w _ _ _ (λ t. here (Sb (rs1 w) (rs2 w) (s_immediate w)) (record { middle = equal _ _ t; lower = lower; from = refl; and = refl; immediate = refl }))
    (choose w _ _ _ (λ t. here (Sh (rs1 w) (rs2 w) (s_immediate w)) (record { middle = equal _ _ t; lower = lower; from = refl; and = refl; immediate = refl }))
    (choose w _ _ _ (λ t. here (Sw (rs1 w) (rs2 w) (s_immediate w)) (record { middle = equal _ _ t; lower = lower; from = refl; and = refl; immediate = refl }))
    (nothing)))

left_shift : (w : ℕ) → opcode w ≡ 0x13 → funct3 w ≡ 1 → IsRowOf w (left_shift_row w)
unfolding left_shift_row
left_shift w lower middle =
    choose w _ _ _ (λ t. here (Slli (rd w) (rs1 w) (rs2 w)) (record { upper = equal _ _ t; middle = middle; lower = lower; to = refl; from = refl; and = refl }))
    (nothing)

right_shift : (w : ℕ) → opcode w ≡ 0x13 → funct3 w ≡ 5 → IsRowOf w (right_shift_row w)
unfolding right_shift_row
right_shift w lower middle =
    choose w _ _ _ (λ t. here (Srli (rd w) (rs1 w) (rs2 w)) (record { upper = equal _ _ t; middle = middle; lower = lower; to = refl; from = refl; and = refl }))
    (choose w _ _ _ (λ t. here (Srai (rd w) (rs1 w) (rs2 w)) (record { upper = equal _ _ t; middle = middle; lower = lower; to = refl; from = refl; and = refl }))
    (nothing))

immediate : (w : ℕ) → opcode w ≡ 0x13 → IsRowOf w (immediate_row w)
unfolding immediate_row
immediate w lower =
    choose w _ _ _ (λ t. here (Addi (rd w) (rs1 w) (i_immediate w)) (record { middle = equal _ _ t; lower = lower; to = refl; from = refl; immediate = refl }))
    (choose w _ _ _ (λ t. left_shift w lower (equal _ _ t))
    (choose w _ _ _ (λ t. here (Slti (rd w) (rs1 w) (i_immediate w)) (record { middle = equal _ _ t; lower = lower; to = refl; from = refl; immediate = refl }))
    (choose w _ _ _ (λ t. here (Sltiu (rd w) (rs1 w) (i_immediate w)) (record { middle = equal _ _ t; lower = lower; to = refl; from = refl; immediate = refl }))
    (choose w _ _ _ (λ t. here (Xori (rd w) (rs1 w) (i_immediate w)) (record { middle = equal _ _ t; lower = lower; to = refl; from = refl; immediate = refl }))
    (choose w _ _ _ (λ t. right_shift w lower (equal _ _ t))
    (choose w _ _ _ (λ t. here (Ori (rd w) (rs1 w) (i_immediate w)) (record { middle = equal _ _ t; lower = lower; to = refl; from = refl; immediate = refl }))
    (choose w _ _ _ (λ t. here (Andi (rd w) (rs1 w) (i_immediate w)) (record { middle = equal _ _ t; lower = lower; to = refl; from = refl; immediate = refl }))
    (nothing))))))))

base : (w : ℕ) → opcode w ≡ 0x33 → funct7 w ≡ 0 → IsRowOf w (base_row w)
unfolding base_row
base w lower upper =
    choose w _ _ _ (λ t. here (Add (rd w) (rs1 w) (rs2 w)) (record { upper = upper; middle = equal _ _ t; lower = lower; to = refl; from = refl; and = refl }))
    (choose w _ _ _ (λ t. here (Sll (rd w) (rs1 w) (rs2 w)) (record { upper = upper; middle = equal _ _ t; lower = lower; to = refl; from = refl; and = refl }))
    (choose w _ _ _ (λ t. here (Slt (rd w) (rs1 w) (rs2 w)) (record { upper = upper; middle = equal _ _ t; lower = lower; to = refl; from = refl; and = refl }))
    (choose w _ _ _ (λ t. here (Sltu (rd w) (rs1 w) (rs2 w)) (record { upper = upper; middle = equal _ _ t; lower = lower; to = refl; from = refl; and = refl }))
    (choose w _ _ _ (λ t. here (Xor (rd w) (rs1 w) (rs2 w)) (record { upper = upper; middle = equal _ _ t; lower = lower; to = refl; from = refl; and = refl }))
    (choose w _ _ _ (λ t. here (Srl (rd w) (rs1 w) (rs2 w)) (record { upper = upper; middle = equal _ _ t; lower = lower; to = refl; from = refl; and = refl }))
    (choose w _ _ _ (λ t. here (Or (rd w) (rs1 w) (rs2 w)) (record { upper = upper; middle = equal _ _ t; lower = lower; to = refl; from = refl; and = refl }))
    (choose w _ _ _ (λ t. here (And (rd w) (rs1 w) (rs2 w)) (record { upper = upper; middle = equal _ _ t; lower = lower; to = refl; from = refl; and = refl }))
    (nothing))))))))

other : (w : ℕ) → opcode w ≡ 0x33 → funct7 w ≡ 0x20 → IsRowOf w (other_row w)
unfolding other_row
other w lower upper =
    choose w _ _ _ (λ t. here (Sub (rd w) (rs1 w) (rs2 w)) (record { upper = upper; middle = equal _ _ t; lower = lower; to = refl; from = refl; and = refl }))
    (choose w _ _ _ (λ t. here (Sra (rd w) (rs1 w) (rs2 w)) (record { upper = upper; middle = equal _ _ t; lower = lower; to = refl; from = refl; and = refl }))
    (nothing))

product : (w : ℕ) → opcode w ≡ 0x33 → funct7 w ≡ 1 → IsRowOf w (product_row w)
unfolding product_row
product w lower upper =
    choose w _ _ _ (λ t. here (Mul (rd w) (rs1 w) (rs2 w)) (record { upper = upper; middle = equal _ _ t; lower = lower; to = refl; from = refl; and = refl }))
    (choose w _ _ _ (λ t. here (Mulh (rd w) (rs1 w) (rs2 w)) (record { upper = upper; middle = equal _ _ t; lower = lower; to = refl; from = refl; and = refl }))
    (choose w _ _ _ (λ t. here (Mulhsu (rd w) (rs1 w) (rs2 w)) (record { upper = upper; middle = equal _ _ t; lower = lower; to = refl; from = refl; and = refl }))
    (choose w _ _ _ (λ t. here (Mulhu (rd w) (rs1 w) (rs2 w)) (record { upper = upper; middle = equal _ _ t; lower = lower; to = refl; from = refl; and = refl }))
    (choose w _ _ _ (λ t. here (Div (rd w) (rs1 w) (rs2 w)) (record { upper = upper; middle = equal _ _ t; lower = lower; to = refl; from = refl; and = refl }))
    (choose w _ _ _ (λ t. here (Divu (rd w) (rs1 w) (rs2 w)) (record { upper = upper; middle = equal _ _ t; lower = lower; to = refl; from = refl; and = refl }))
    (choose w _ _ _ (λ t. here (Rem (rd w) (rs1 w) (rs2 w)) (record { upper = upper; middle = equal _ _ t; lower = lower; to = refl; from = refl; and = refl }))
    (choose w _ _ _ (λ t. here (Remu (rd w) (rs1 w) (rs2 w)) (record { upper = upper; middle = equal _ _ t; lower = lower; to = refl; from = refl; and = refl }))
    (nothing))))))))

operation : (w : ℕ) → opcode w ≡ 0x33 → IsRowOf w (operation_row w)
unfolding operation_row
operation w lower =
    choose w _ _ _ (λ t. base w lower (equal _ _ t))
    (choose w _ _ _ (λ t. other w lower (equal _ _ t))
    (choose w _ _ _ (λ t. product w lower (equal _ _ t))
    (nothing)))

fence : (w : ℕ) → opcode w ≡ 0x0f → IsRowOf w (fence_row w)
unfolding fence_row
fence w lower =
    choose w _ _ _ (λ t. here (Fence (bits w 15 17) (bits w 7 5)) (record { middle = equal _ _ t; lower = lower; above = refl; below = refl }))
    (nothing)

system : (w : ℕ) → IsRowOf w (system_row w)
unfolding system_row
system w =
    choose w _ _ _ (λ t. here Ecall (equal _ _ t))
    (choose w _ _ _ (λ t. here Ebreak (equal _ _ t))
    (nothing))

reserved : (w : ℕ) → opcode w ≡ 0x2f → funct3 w ≡ 2 → funct5 w ≡ 2 → IsRowOf w (reserved_row w)
unfolding reserved_row
reserved w lower middle upper =
    choose w _ _ _ (λ t. here (LrW (rd w) (rs1 w) (is_set w 26) (is_set w 25)) (record { upper = upper; acquire = refl; release = refl; middle = middle; lower = lower; to = refl; from = refl; and = equal _ _ t }))
    (nothing)

word : (w : ℕ) → opcode w ≡ 0x2f → funct3 w ≡ 2 → IsRowOf w (word_row w)
unfolding word_row
word w lower middle =
    choose w _ _ _ (λ t. reserved w lower middle (equal _ _ t))
    (choose w _ _ _ (λ t. here (ScW (rd w) (rs1 w) (rs2 w) (is_set w 26) (is_set w 25)) (record { upper = equal _ _ t; acquire = refl; release = refl; middle = middle; lower = lower; to = refl; from = refl; and = refl }))
    (choose w _ _ _ (λ t. here (AmoSwapW (rd w) (rs1 w) (rs2 w) (is_set w 26) (is_set w 25)) (record { upper = equal _ _ t; acquire = refl; release = refl; middle = middle; lower = lower; to = refl; from = refl; and = refl }))
    (choose w _ _ _ (λ t. here (AmoAddW (rd w) (rs1 w) (rs2 w) (is_set w 26) (is_set w 25)) (record { upper = equal _ _ t; acquire = refl; release = refl; middle = middle; lower = lower; to = refl; from = refl; and = refl }))
    (choose w _ _ _ (λ t. here (AmoXorW (rd w) (rs1 w) (rs2 w) (is_set w 26) (is_set w 25)) (record { upper = equal _ _ t; acquire = refl; release = refl; middle = middle; lower = lower; to = refl; from = refl; and = refl }))
    (choose w _ _ _ (λ t. here (AmoAndW (rd w) (rs1 w) (rs2 w) (is_set w 26) (is_set w 25)) (record { upper = equal _ _ t; acquire = refl; release = refl; middle = middle; lower = lower; to = refl; from = refl; and = refl }))
    (choose w _ _ _ (λ t. here (AmoOrW (rd w) (rs1 w) (rs2 w) (is_set w 26) (is_set w 25)) (record { upper = equal _ _ t; acquire = refl; release = refl; middle = middle; lower = lower; to = refl; from = refl; and = refl }))
    (choose w _ _ _ (λ t. here (AmoMinW (rd w) (rs1 w) (rs2 w) (is_set w 26) (is_set w 25)) (record { upper = equal _ _ t; acquire = refl; release = refl; middle = middle; lower = lower; to = refl; from = refl; and = refl }))
    (choose w _ _ _ (λ t. here (AmoMaxW (rd w) (rs1 w) (rs2 w) (is_set w 26) (is_set w 25)) (record { upper = equal _ _ t; acquire = refl; release = refl; middle = middle; lower = lower; to = refl; from = refl; and = refl }))
    (choose w _ _ _ (λ t. here (AmoMinuW (rd w) (rs1 w) (rs2 w) (is_set w 26) (is_set w 25)) (record { upper = equal _ _ t; acquire = refl; release = refl; middle = middle; lower = lower; to = refl; from = refl; and = refl }))
    (choose w _ _ _ (λ t. here (AmoMaxuW (rd w) (rs1 w) (rs2 w) (is_set w 26) (is_set w 25)) (record { upper = equal _ _ t; acquire = refl; release = refl; middle = middle; lower = lower; to = refl; from = refl; and = refl }))
    (nothing)))))))))))

atomic : (w : ℕ) → opcode w ≡ 0x2f → IsRowOf w (atomic_row w)
unfolding atomic_row
atomic w lower =
    choose w _ _ _ (λ t. word w lower (equal _ _ t))
    (nothing)

row_found : (w : ℕ) → IsRowOf w (row w)
unfolding row
row_found w =
    choose w _ _ _ (λ t. here (Lui (rd w) (u_immediate w)) (record { lower = equal _ _ t; to = refl; immediate = refl }))
    (choose w _ _ _ (λ t. here (Auipc (rd w) (u_immediate w)) (record { lower = equal _ _ t; to = refl; immediate = refl }))
    (choose w _ _ _ (λ t. here (Jal (rd w) (j_immediate w)) (record { lower = equal _ _ t; to = refl; immediate = refl }))
    (choose w _ _ _ (λ t. jump w (equal _ _ t))
    (choose w _ _ _ (λ t. branch w (equal _ _ t))
    (choose w _ _ _ (λ t. load w (equal _ _ t))
    (choose w _ _ _ (λ t. store w (equal _ _ t))
    (choose w _ _ _ (λ t. immediate w (equal _ _ t))
    (choose w _ _ _ (λ t. operation w (equal _ _ t))
    (choose w _ _ _ (λ t. fence w (equal _ _ t))
    (choose w _ _ _ (λ t. system w)
    (choose w _ _ _ (λ t. atomic w (equal _ _ t))
    (nothing))))))))))))

pub held : (w : ℕ) (i : Instruction) → row w ≡ Some i → Row w i
held w i e = (row_found w).row i e

-- a table that answers what is found answers the rows
pub table : (w : ℕ) (answer : Option Instruction) → answer ≡ row w → (i : Instruction) → (answer ≡ Some i) ↔ Row w i
table w answer e i = (λ f. held w i (sym e ∙ f), λ r. e ∙ found w i r)

lacks : (w : ℕ) (answer : Option Instruction) → row w ≡ answer → HasNoRow w → answer ≡ None
lacks w None e h = refl
lacks w (Some i) e h = absurd (h i (held w i e))

pub none : (w : ℕ) → (row w ≡ None) ↔ HasNoRow w
none w = (λ e i r. let f : Some i ≡ None = sym (found w i r) ∙ e in cc, λ h. lacks w (row w) refl h)
