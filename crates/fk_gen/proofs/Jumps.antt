-- Jumps and branches in their places.
use Rattle.std.proofs.Common.{◌≡◌, ℕ, ◌*◌, ◌/◌, ◌%◌, ◌≤◌, true, false, ap, ◌∙◌, arith, eq-eqb}
use Rattle.std.specs.Prelude.{◌==◌, nat_le}
use Rattle.fk_num.specs.Word.{word_sum}
use Rattle.fk_image.specs.declared.Image.{Image}
use Rattle.fk_isa.specs.declared.instruction.Instruction.TheVariants.{Jal, Jalr, Beq, Bne, Bgeu}
use Rattle.fk_isa.specs.Step.{set_register}
use Rattle.fk_machine.specs.Hart.{Hart, Shared, Setting, Goes}
use Rattle.fk_machine.specs.Step.{perform}
use Rattle.fk_asm.specs.Assembly.{jump_to}
use Rattle.std.specs.Int.{w32, cast_unsigned}
use Rattle.fk_asm.specs.Jump.{distance}
use Rattle.fk_asm.proofs.Jumps.{word_sum-distance}
use Rattle.fk_sim_nodes.specs.Alone.{Holds, IsAt, IsPrivateIn}
use Rattle.fk_gen.specs.InPlace.{resolved}
use Rattle.fk_gen.proofs.Walk.{private}

-- the hart at an address, with that of the next instruction in register rd
abbrev pub jumps : Hart → (rd target : ℕ) → Hart
jumps h rd target = record h { registers = set_register h.registers rd (word_sum h.pc 4); pc = target }

pub jal_goes : (t : Setting) (number rd imm target : ℕ) (h : Hart) (s : Shared) → word_sum h.pc imm ≡ target → target % 4 ≡ 0
    → perform t number (Jal rd imm) h s ≡ Goes (jumps h rd target) s
jal_goes t number rd imm target h s e aligned =
    let f : (word_sum h.pc imm % 4 == 0) ≡ true = eq-eqb _ 0 (ap (λ a. a % 4) e ∙ aligned) in
    jal_at f ∙ ap (λ a. Goes (jumps h rd a) s) e
  where
    jal_at : (word_sum h.pc imm % 4 == 0) ≡ true → perform t number (Jal rd imm) h s ≡ Goes (jumps h rd (word_sum h.pc imm)) s
    jal_at f = rw f

pub jalr_goes : (t : Setting) (number rd rs imm target : ℕ) (h : Hart) (s : Shared) → word_sum (h.registers rs) imm / 2 * 2 ≡ target → target % 4 ≡ 0
    → perform t number (Jalr rd rs imm) h s ≡ Goes (jumps h rd target) s
jalr_goes t number rd rs imm target h s e aligned =
    let f : (word_sum (h.registers rs) imm / 2 * 2 % 4 == 0) ≡ true = eq-eqb _ 0 (ap (λ a. a % 4) e ∙ aligned) in
    jalr_at f ∙ ap (λ a. Goes (jumps h rd a) s) e
  where
    jalr_at : (word_sum (h.registers rs) imm / 2 * 2 % 4 == 0) ≡ true → perform t number (Jalr rd rs imm) h s ≡ Goes (jumps h rd (word_sum (h.registers rs) imm / 2 * 2)) s
    jalr_at f = rw f

-- `jal` to a label
pub jal_private : (image : Image) (bound : ℕ → ℕ) (t : Setting) (number k rd label : ℕ) (h : Hart) → Holds image t
    → IsAt image k (resolved bound k (jump_to (Jal rd 0) label)) 0 → bound label ≤ 262144 → h.pc ≡ 4 * k → h.ended ≡ false
    → IsPrivateIn image t number h (jumps h rd (4 * bound label))
jal_private image bound t number k rd label h holds at near pc live =
    let within = at.within in
    let imm = cast_unsigned w32 (distance k (bound label)) in
    let e : word_sum h.pc imm ≡ 4 * bound label = ap (λ a. word_sum a imm) pc ∙ word_sum-distance k (bound label) (omega arith) (omega arith) in
    let aligned : 4 * bound label % 4 ≡ 0 = omega arith in
    private image t number k (Jal rd imm) h (jumps h rd (4 * bound label)) holds at pc live
    (λ s. (s.reserved, jal_goes t number rd imm (4 * bound label) h s e aligned))

-- the hart behind a branch
abbrev pub goes_to_pc : Hart → (target : ℕ) → Hart
goes_to_pc h target = record h { pc = target }

bne_taken_goes : (t : Setting) (number a b imm : ℕ) (h : Hart) (s : Shared) → (h.registers a == h.registers b) ≡ false → (word_sum h.pc imm % 4 == 0) ≡ true
    → perform t number (Bne a b imm) h s ≡ Goes (goes_to_pc h (word_sum h.pc imm)) s
bne_taken_goes t number a b imm h s e f = rw (e, f)

bne_on_goes : (t : Setting) (number a b imm : ℕ) (h : Hart) (s : Shared) → (h.registers a == h.registers b) ≡ true
    → perform t number (Bne a b imm) h s ≡ Goes (goes_to_pc h (word_sum h.pc 4)) s
bne_on_goes t number a b imm h s e = rw e

beq_taken_goes : (t : Setting) (number a b imm : ℕ) (h : Hart) (s : Shared) → (h.registers a == h.registers b) ≡ true → (word_sum h.pc imm % 4 == 0) ≡ true
    → perform t number (Beq a b imm) h s ≡ Goes (goes_to_pc h (word_sum h.pc imm)) s
beq_taken_goes t number a b imm h s e f = rw (e, f)

beq_on_goes : (t : Setting) (number a b imm : ℕ) (h : Hart) (s : Shared) → (h.registers a == h.registers b) ≡ false
    → perform t number (Beq a b imm) h s ≡ Goes (goes_to_pc h (word_sum h.pc 4)) s
beq_on_goes t number a b imm h s e = rw e

-- a branch that goes as far, and one that goes on
pub bne_taken : (image : Image) (t : Setting) (number k a b imm : ℕ) (h : Hart) → Holds image t → IsAt image k (Bne a b imm) 0 → h.pc ≡ 4 * k → h.ended ≡ false
    → (h.registers a == h.registers b) ≡ false → word_sum h.pc imm % 4 ≡ 0 → IsPrivateIn image t number h (goes_to_pc h (word_sum h.pc imm))
bne_taken image t number k a b imm h holds at pc live e aligned =
    private image t number k (Bne a b imm) h (goes_to_pc h (word_sum h.pc imm)) holds at pc live
    (λ s. (s.reserved, bne_taken_goes t number a b imm h s e (eq-eqb _ 0 aligned)))

pub bne_on : (image : Image) (t : Setting) (number k a b imm : ℕ) (h : Hart) → Holds image t → IsAt image k (Bne a b imm) 0 → h.pc ≡ 4 * k → h.ended ≡ false
    → (h.registers a == h.registers b) ≡ true → IsPrivateIn image t number h (goes_to_pc h (word_sum h.pc 4))
bne_on image t number k a b imm h holds at pc live e =
    private image t number k (Bne a b imm) h (goes_to_pc h (word_sum h.pc 4)) holds at pc live (λ s. (s.reserved, bne_on_goes t number a b imm h s e))

pub beq_taken : (image : Image) (t : Setting) (number k a b imm : ℕ) (h : Hart) → Holds image t → IsAt image k (Beq a b imm) 0 → h.pc ≡ 4 * k → h.ended ≡ false
    → (h.registers a == h.registers b) ≡ true → word_sum h.pc imm % 4 ≡ 0 → IsPrivateIn image t number h (goes_to_pc h (word_sum h.pc imm))
beq_taken image t number k a b imm h holds at pc live e aligned =
    private image t number k (Beq a b imm) h (goes_to_pc h (word_sum h.pc imm)) holds at pc live
    (λ s. (s.reserved, beq_taken_goes t number a b imm h s e (eq-eqb _ 0 aligned)))

pub beq_on : (image : Image) (t : Setting) (number k a b imm : ℕ) (h : Hart) → Holds image t → IsAt image k (Beq a b imm) 0 → h.pc ≡ 4 * k → h.ended ≡ false
    → (h.registers a == h.registers b) ≡ false → IsPrivateIn image t number h (goes_to_pc h (word_sum h.pc 4))
beq_on image t number k a b imm h holds at pc live e =
    private image t number k (Beq a b imm) h (goes_to_pc h (word_sum h.pc 4)) holds at pc live (λ s. (s.reserved, beq_on_goes t number a b imm h s e))

bgeu_taken_goes : (t : Setting) (number a b imm : ℕ) (h : Hart) (s : Shared) → nat_le (h.registers b) (h.registers a) ≡ true → (word_sum h.pc imm % 4 == 0) ≡ true
    → perform t number (Bgeu a b imm) h s ≡ Goes (goes_to_pc h (word_sum h.pc imm)) s
bgeu_taken_goes t number a b imm h s e f = rw (e, f)

bgeu_on_goes : (t : Setting) (number a b imm : ℕ) (h : Hart) (s : Shared) → nat_le (h.registers b) (h.registers a) ≡ false
    → perform t number (Bgeu a b imm) h s ≡ Goes (goes_to_pc h (word_sum h.pc 4)) s
bgeu_on_goes t number a b imm h s e = rw e

pub bgeu_taken : (image : Image) (t : Setting) (number k a b imm : ℕ) (h : Hart) → Holds image t → IsAt image k (Bgeu a b imm) 0 → h.pc ≡ 4 * k → h.ended ≡ false
    → nat_le (h.registers b) (h.registers a) ≡ true → word_sum h.pc imm % 4 ≡ 0 → IsPrivateIn image t number h (goes_to_pc h (word_sum h.pc imm))
bgeu_taken image t number k a b imm h holds at pc live e aligned =
    private image t number k (Bgeu a b imm) h (goes_to_pc h (word_sum h.pc imm)) holds at pc live
    (λ s. (s.reserved, bgeu_taken_goes t number a b imm h s e (eq-eqb _ 0 aligned)))

pub bgeu_on : (image : Image) (t : Setting) (number k a b imm : ℕ) (h : Hart) → Holds image t → IsAt image k (Bgeu a b imm) 0 → h.pc ≡ 4 * k → h.ended ≡ false
    → nat_le (h.registers b) (h.registers a) ≡ false → IsPrivateIn image t number h (goes_to_pc h (word_sum h.pc 4))
bgeu_on image t number k a b imm h holds at pc live e =
    private image t number k (Bgeu a b imm) h (goes_to_pc h (word_sum h.pc 4)) holds at pc live (λ s. (s.reserved, bgeu_on_goes t number a b imm h s e))
