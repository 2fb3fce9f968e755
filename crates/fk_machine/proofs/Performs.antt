-- What the instructions of straight code come to, on whole words.
use Rattle.std.proofs.Common.{◌≡◌, ℕ, ◌*◌, ◌/◌, ◌%◌, ◌++◌, true, refl, eq-eqb}
use Rattle.fk_num.specs.Word.{put, word_sum, signed_line}
use Rattle.fk_isa.specs.declared.instruction.Instruction.TheVariants.{Lui, Addi, Add, Lw, Sw}
use Rattle.fk_isa.specs.Atomic.{unless}
use Rattle.fk_isa.specs.Step.{set_register}
use Rattle.fk_machine.specs.declared.place.Device.TheVariants.{OutInt, Fault, Halt}
use Rattle.fk_machine.specs.declared.place.Location.TheVariants.{SharedWord, ControlWord, LocalWord, DeviceWord}
use Rattle.fk_machine.specs.declared.stand.Stand.TheVariants.{Faulted}
use Rattle.fk_machine.specs.Place.{place_of}
use Rattle.fk_machine.specs.Hart.{Hart, Shared, Setting, Goes, Stops}
use Rattle.fk_machine.specs.Reach.{cleared, reserves}
use Rattle.fk_machine.specs.Step.{perform}

-- the hart after an instruction that gives register rd a value
abbrev pub writes : Hart → ℕ → ℕ → Hart
writes h rd v = record h { registers = set_register h.registers rd v; pc = word_sum h.pc 4 }

-- the hart after an instruction that gives no register a value
abbrev pub moves : Hart → Hart
moves h = record h { pc = word_sum h.pc 4 }

pub lui : (t : Setting) (number rd imm : ℕ) (h : Hart) (s : Shared) → perform t number (Lui rd imm) h s ≡ Goes (writes h rd (imm * 4096)) s
lui t number rd imm h s = refl

pub addi : (t : Setting) (number rd rs imm : ℕ) (h : Hart) (s : Shared)
    → perform t number (Addi rd rs imm) h s ≡ Goes (writes h rd (word_sum (h.registers rs) imm)) s
addi t number rd rs imm h s = refl

pub add : (t : Setting) (number rd ra rb : ℕ) (h : Hart) (s : Shared)
    → perform t number (Add rd ra rb) h s ≡ Goes (writes h rd (word_sum (h.registers ra) (h.registers rb))) s
add t number rd ra rb h s = refl

-- ---- at an address that is a multiple of 4

pub lw-local : (t : Setting) (number rd rs imm i : ℕ) (h : Hart) (s : Shared) → word_sum (h.registers rs) imm % 4 ≡ 0
    → place_of (word_sum (h.registers rs) imm) ≡ LocalWord i → perform t number (Lw rd rs imm) h s ≡ Goes (writes h rd (h.local i)) s
lw-local t number rd rs imm i h s e f = let aligned = eq-eqb _ 0 e in rw (aligned, f)

pub lw-shared : (t : Setting) (number rd rs imm i : ℕ) (h : Hart) (s : Shared) → word_sum (h.registers rs) imm % 4 ≡ 0
    → place_of (word_sum (h.registers rs) imm) ≡ SharedWord i → perform t number (Lw rd rs imm) h s ≡ Goes (writes h rd (s.words i)) s
lw-shared t number rd rs imm i h s e f = let aligned = eq-eqb _ 0 e in rw (aligned, f)

pub lw-control : (t : Setting) (number rd rs imm i : ℕ) (h : Hart) (s : Shared) → word_sum (h.registers rs) imm % 4 ≡ 0
    → place_of (word_sum (h.registers rs) imm) ≡ ControlWord i → perform t number (Lw rd rs imm) h s ≡ Goes (writes h rd (s.control i)) s
lw-control t number rd rs imm i h s e f = let aligned = eq-eqb _ 0 e in rw (aligned, f)

-- a store to the hart's own memory can end the hart's own reservation
pub sw-local : (t : Setting) (number rs rv imm i : ℕ) (h : Hart) (s : Shared) → word_sum (h.registers rs) imm % 4 ≡ 0
    → place_of (word_sum (h.registers rs) imm) ≡ LocalWord i
    → perform t number (Sw rs rv imm) h s
    ≡ Goes (record (moves h) { local = put h.local i (h.registers rv) })
    (record s { reserved = reserves s.reserved number (unless (word_sum (h.registers rs) imm / 4 * 4) (s.reserved number)) })
sw-local t number rs rv imm i h s e f = let aligned = eq-eqb _ 0 e in rw (aligned, f)

-- one to shared data or control ends those of its word
pub sw-shared : (t : Setting) (number rs rv imm i : ℕ) (h : Hart) (s : Shared) → word_sum (h.registers rs) imm % 4 ≡ 0
    → place_of (word_sum (h.registers rs) imm) ≡ SharedWord i
    → perform t number (Sw rs rv imm) h s
    ≡ Goes (moves h) (record s { words = put s.words i (h.registers rv); reserved = cleared s.reserved (word_sum (h.registers rs) imm / 4 * 4) })
sw-shared t number rs rv imm i h s e f = let aligned = eq-eqb _ 0 e in rw (aligned, f)

pub sw-control : (t : Setting) (number rs rv imm i : ℕ) (h : Hart) (s : Shared) → word_sum (h.registers rs) imm % 4 ≡ 0
    → place_of (word_sum (h.registers rs) imm) ≡ ControlWord i
    → perform t number (Sw rs rv imm) h s
    ≡ Goes (moves h) (record s { control = put s.control i (h.registers rv); reserved = cleared s.reserved (word_sum (h.registers rs) imm / 4 * 4) })
sw-control t number rs rv imm i h s e f = let aligned = eq-eqb _ 0 e in rw (aligned, f)

pub sw-out_int : (t : Setting) (number rs rv imm : ℕ) (h : Hart) (s : Shared) → word_sum (h.registers rs) imm % 4 ≡ 0
    → place_of (word_sum (h.registers rs) imm) ≡ DeviceWord OutInt
    → perform t number (Sw rs rv imm) h s ≡ Goes (moves h) (record s { output = s.output ++ signed_line (h.registers rv) })
sw-out_int t number rs rv imm h s e f = let aligned = eq-eqb _ 0 e in rw (aligned, f)

pub sw-fault : (t : Setting) (number rs rv imm : ℕ) (h : Hart) (s : Shared) → word_sum (h.registers rs) imm % 4 ≡ 0
    → place_of (word_sum (h.registers rs) imm) ≡ DeviceWord Fault
    → perform t number (Sw rs rv imm) h s ≡ Stops (Faulted (h.registers rv) number)
sw-fault t number rs rv imm h s e f = let aligned = eq-eqb _ 0 e in rw (aligned, f)

pub sw-halt : (t : Setting) (number rs rv imm : ℕ) (h : Hart) (s : Shared) → word_sum (h.registers rs) imm % 4 ≡ 0
    → place_of (word_sum (h.registers rs) imm) ≡ DeviceWord Halt
    → perform t number (Sw rs rv imm) h s ≡ Goes (record (moves h) { ended = true }) s
sw-halt t number rs rv imm h s e f = let aligned = eq-eqb _ 0 e in rw (aligned, f)
