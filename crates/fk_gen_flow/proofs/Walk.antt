-- A hart that runs private instructions one by one.
use Rattle.std.proofs.Common.{◌≡◌, ℕ, suc, ◌+◌, ◌-◌, ◌*◌, ◌<◌, ◌≤◌, false, ap, ◌∙◌, arith, refl}
use Rattle.std.specs.Int.{w32, cast_unsigned}
use Rattle.fk_num.specs.Word.{Memory, put, word_sum}
use Rattle.fk_image.specs.declared.Image.{Image}
use Rattle.fk_isa.specs.declared.instruction.Instruction.{Instruction}
use Rattle.fk_isa.specs.declared.instruction.Instruction.TheVariants.{Lw, Sw, Jal, Jalr}
use Rattle.fk_asm.specs.Jump.{distance, with_distance}
use Rattle.fk_asm.proofs.Jumps.{word_sum-distance}
use Rattle.fk_machine.specs.Hart.{Hart, Shared, Setting}
use Rattle.fk_machine.specs.Step.{perform}
use Rattle.fk_machine.proofs.Performs.{writes, moves}
use Rattle.fk_sim_nodes.specs.Alone.{Holds, IsAt, GoesAlone, RunsPrivately, later}
use Rattle.fk_sim_block.specs.Stands.{local_address}
use Rattle.fk_gen.specs.Lines.{at_value}
use Rattle.fk_gen.proofs.Walk.{private, can_run_goes, LocalAt}
use Rattle.fk_gen.proofs.Jumps.{jumps, jal_goes as jal, jalr_goes as jalr}

-- in so many cycles a hart comes privately to one of which something holds
pub record Comes (image : Image) (t : Setting) (number cycles : ℕ) (h : Hart) (Goal : Hart → Type 0) : Type 0 where
  pub hart : Hart
  pub runs : RunsPrivately image t number cycles h hart
  pub goal : Goal hart

-- a hart that is about to run the instruction at word k of a machine
pub record IsAbout (image : Image) (t : Setting) (k : ℕ) (h : Hart) : Type 0 where
  pub code : Holds image t
  pub live : h.ended ≡ false
  pub at : h.pc ≡ 4 * k

pub there : (image : Image) (t : Setting) (number : ℕ) (h : Hart) (Goal : Hart → Type 0) → Goal h → Comes image t number 0 h Goal
there image t number h Goal goal = record { hart = h; runs = refl; goal = goal }

pub first : (image : Image) (t : Setting) (number cycles k : ℕ) (i : Instruction) (h h1 : Hart) (Goal : Hart → Type 0) → IsAbout image t k h → IsAt image k i 0
    → ((s : Shared) → GoesAlone (perform t number i h s) h1 s) → Comes image (later t) number cycles h1 Goal → Comes image t number (suc cycles) h Goal
first image t number cycles k i h h1 Goal about at goes rest = record {
  hart = rest.hart;
  runs = (h1, private image t number k i h h1 about.code at about.at about.live goes, rest.runs);
  goal = rest.goal;
}

pub next_word : (a k : ℕ) → a ≡ 4 * k → k < 262144 → word_sum a 4 ≡ 4 * suc k
next_word a k e lt = omega arith

-- one that gives a register a value, or none
pub writing : (image : Image) (t : Setting) (k : ℕ) (h : Hart) (rd v : ℕ) → IsAbout image t k h → k < 262144 → IsAbout image (later t) (suc k) (writes h rd v)
writing image t k h rd v about lt = record { code = about.code; live = about.live; at = next_word h.pc k about.at lt }

pub storing : (image : Image) (t : Setting) (k : ℕ) (h : Hart) (m : Memory) → IsAbout image t k h → k < 262144 → IsAbout image (later t) (suc k) (record (moves h) { local = m })
storing image t k h m about lt = record { code = about.code; live = about.live; at = next_word h.pc k about.at lt }

-- ---- local words

abbrev pub IsLocal : (address word : ℕ) → Type 0
IsLocal a w = (a ≡ local_address w) × (w < 32768)

pub words_back : (e d a : ℕ) → a ≡ local_address e → d ≤ e → e ≤ 16384 → word_sum a (at_value d) ≡ local_address (e - d)
words_back e d a same le most = omega arith

-- the word so many words before one
pub word_before : (e d a : ℕ) → a ≡ local_address (e - 1) → d < e → e ≤ 16384 → IsLocal (word_sum a (at_value d)) (e - suc d)
word_before e d a same lt most = (omega arith, omega arith)

pub near_word : (e c w a imm : ℕ) → a ≡ local_address e → imm ≡ 4 * c → w ≡ e + c → w < 32768 → IsLocal (word_sum a imm) w
near_word e c w a imm same is word lt = (omega arith, omega arith)

pub lw_goes : (t : Setting) (number rd rs imm w : ℕ) (h : Hart) → IsLocal (word_sum (h.registers rs) imm) w
    → (s : Shared) → GoesAlone (perform t number (Lw rd rs imm) h s) (writes h rd (h.local w)) s
lw_goes t number rd rs imm w h is s = can_run_goes (Lw rd rs imm) (LocalAt w) h (is.1, is.0) t number s

pub sw_goes : (t : Setting) (number rs rv imm w : ℕ) (h : Hart) → IsLocal (word_sum (h.registers rs) imm) w
    → (s : Shared) → GoesAlone (perform t number (Sw rs rv imm) h s) (record (moves h) { local = put h.local w (h.registers rv) }) s
sw_goes t number rs rv imm w h is s = can_run_goes (Sw rs rv imm) (LocalAt w) h (is.1, is.0) t number s

-- ---- jumps

pub jal_goes : (t : Setting) (number rd imm k target : ℕ) (h : Hart) → h.pc ≡ 4 * k → k < 262144 → target ≤ 262144
    → (s : Shared) → GoesAlone (perform t number (with_distance (Jal rd imm) (distance k target)) h s) (jumps h rd (4 * target)) s
jal_goes t number rd imm k target h e lt le s = (
  s.reserved,
  jal t number rd (cast_unsigned w32 (distance k target)) (4 * target) h s (ap (λ a. word_sum a (cast_unsigned w32 (distance k target))) e ∙ word_sum-distance k target (omega arith) (omega arith)) (omega arith),
)

pub jalr_goes : (t : Setting) (number rd rs imm target : ℕ) (h : Hart) → h.registers rs + imm ≡ 4 * target → target ≤ 262144
    → (s : Shared) → GoesAlone (perform t number (Jalr rd rs imm) h s) (jumps h rd (4 * target)) s
jalr_goes t number rd rs imm target h e le s = (s.reserved, jalr t number rd rs imm (4 * target) h s (omega arith) (omega arith))

-- one past the next instruction
pub skip_goes : (t : Setting) (number rd k : ℕ) (h : Hart) → h.pc ≡ 4 * k → k < 262144
    → (s : Shared) → GoesAlone (perform t number (Jal rd 8) h s) (jumps h rd (4 * suc (suc k))) s
skip_goes t number rd k h e lt s = (s.reserved, jal t number rd 8 (4 * suc (suc k)) h s (omega arith) (omega arith))
