-- How a hart runs lines that touch nothing but itself.
use Rattle.std.proofs.Common.{◌≡◌, ℕ, zero, suc, ◌+◌, ◌*◌, ◌%◌, ◌<◌, List, [], ◌∷◌, ◌++◌, length, false, sym, ap, subst, ◌∙◌, arith, refl, eq-eqb}
use Rattle.fk_num.specs.Word.{Memory, put, word_sum}
use Rattle.fk_num.specs.Op.{applied}
use Rattle.fk_num.specs.declared.operator.Op.TheVariants as op
use Rattle.fk_image.specs.declared.Image.{Image}
use Rattle.fk_isa.specs.declared.instruction.Instruction.{Instruction}
use Rattle.fk_isa.specs.declared.instruction.Instruction.TheVariants.{Lui, Lw, Sw, Addi, Slti, Sltiu, Xori, Ori, Andi, Slli, Srli, Srai, Add, Sub, Sll, Slt, Sltu, Xor, Srl, Sra, Or, And, Mul, Mulh, Mulhsu, Mulhu, Div, Divu, Rem, Remu}
use Rattle.fk_machine.specs.declared.place.Device.TheVariants.{HartId, Harts, Inputs}
use Rattle.fk_machine.specs.declared.place.Location.TheVariants.{DeviceWord}
use Rattle.fk_machine.specs.Place.{place_of, device_at}
use Rattle.fk_machine.specs.Hart.{Hart, Shared, Setting, Goes}
use Rattle.fk_machine.specs.Step.{perform}
use Rattle.fk_machine.specs.Run.{count_in}
use Rattle.fk_machine.proofs.Performs.{writes, moves, lw-local, sw-local}
use Rattle.fk_machine.proofs.Places.{place_of-local}
use Rattle.fk_asm.specs.Block.{MarkedLine}
use Rattle.fk_sim_nodes.specs.Alone.{Holds, IsAt, GoesAlone, IsPrivateIn, RunsPrivately, later, in_cycles}
use Rattle.fk_sim_nodes.proofs.InPlace.{step_at}
use Rattle.fk_sim_block.specs.Stands.{local_address}
use Rattle.fk_gen.specs.Lines.{quiet}
use Rattle.fk_gen.specs.InPlace.{LinesAt}

-- ---- what a line reaches

-- the numbers that devices tell a hart
pub record Told : Type 0 where
  pub number : ℕ
  pub harts : ℕ
  pub inputs : ℕ

abbrev pub told_of : Setting → (number : ℕ) → Told
told_of t number = record { number = number; harts = t.harts; inputs = t.inputs }

-- nothing but registers, a word of local memory, or a device that tells a number
pub data Reached : Type 0 where
  Plain : Reached
  LocalAt : (word : ℕ) → Reached
  TellsNumber : Reached
  TellsHarts : Reached
  TellsInputs : Reached

abbrev pub loaded : Told → Hart → Reached → ℕ
loaded told h Plain = 0
loaded told h (LocalAt w) = h.local w
loaded told h TellsNumber = told.number
loaded told h TellsHarts = told.harts
loaded told h TellsInputs = told.inputs

abbrev pub stored : Hart → Reached → ℕ → Memory
stored h (LocalAt w) v = put h.local w v
stored h reached v = h.local

-- the address of what a load reaches, and of what a store does
abbrev pub IsLoadable : (address : ℕ) → Reached → Type 0
IsLoadable a Plain = ⊥
IsLoadable a (LocalAt w) = (w < 32768) × (a ≡ local_address w)
IsLoadable a TellsNumber = a ≡ 0x30000014
IsLoadable a TellsHarts = a ≡ 0x30000018
IsLoadable a TellsInputs = a ≡ 0x3000001c

abbrev pub IsStorable : (address : ℕ) → Reached → Type 0
IsStorable a (LocalAt w) = (w < 32768) × (a ≡ local_address w)
IsStorable a reached = ⊥

-- ---- one instruction

-- the hart after it
abbrev pub after : Told → Instruction → Reached → Hart → Hart
after told (Lui rd imm) r h = writes h rd (imm * 4096)
after told (Addi rd a imm) r h = writes h rd (applied op.Add (h.registers a) imm)
after told (Slti rd a imm) r h = writes h rd (applied op.LtS (h.registers a) imm)
after told (Sltiu rd a imm) r h = writes h rd (applied op.LtU (h.registers a) imm)
after told (Xori rd a imm) r h = writes h rd (applied op.Xor (h.registers a) imm)
after told (Ori rd a imm) r h = writes h rd (applied op.Or (h.registers a) imm)
after told (Andi rd a imm) r h = writes h rd (applied op.And (h.registers a) imm)
after told (Slli rd a n) r h = writes h rd (applied op.Shl (h.registers a) n)
after told (Srli rd a n) r h = writes h rd (applied op.ShrU (h.registers a) n)
after told (Srai rd a n) r h = writes h rd (applied op.ShrS (h.registers a) n)
after told (Add rd a b) r h = writes h rd (applied op.Add (h.registers a) (h.registers b))
after told (Sub rd a b) r h = writes h rd (applied op.Sub (h.registers a) (h.registers b))
after told (Sll rd a b) r h = writes h rd (applied op.Shl (h.registers a) (h.registers b))
after told (Slt rd a b) r h = writes h rd (applied op.LtS (h.registers a) (h.registers b))
after told (Sltu rd a b) r h = writes h rd (applied op.LtU (h.registers a) (h.registers b))
after told (Xor rd a b) r h = writes h rd (applied op.Xor (h.registers a) (h.registers b))
after told (Srl rd a b) r h = writes h rd (applied op.ShrU (h.registers a) (h.registers b))
after told (Sra rd a b) r h = writes h rd (applied op.ShrS (h.registers a) (h.registers b))
after told (Or rd a b) r h = writes h rd (applied op.Or (h.registers a) (h.registers b))
after told (And rd a b) r h = writes h rd (applied op.And (h.registers a) (h.registers b))
after told (Mul rd a b) r h = writes h rd (applied op.Mul (h.registers a) (h.registers b))
after told (Mulh rd a b) r h = writes h rd (applied op.MulHS (h.registers a) (h.registers b))
after told (Mulhsu rd a b) r h = writes h rd (applied op.MulHSU (h.registers a) (h.registers b))
after told (Mulhu rd a b) r h = writes h rd (applied op.MulHU (h.registers a) (h.registers b))
after told (Div rd a b) r h = writes h rd (applied op.DivS (h.registers a) (h.registers b))
after told (Divu rd a b) r h = writes h rd (applied op.DivU (h.registers a) (h.registers b))
after told (Rem rd a b) r h = writes h rd (applied op.RemS (h.registers a) (h.registers b))
after told (Remu rd a b) r h = writes h rd (applied op.RemU (h.registers a) (h.registers b))
after told (Lw rd a imm) r h = writes h rd (loaded told h r)
after told (Sw a v imm) r h = record (moves h) { local = stored h r (h.registers v) }
after told i r h = h

-- it reaches this, and goes on to the next
abbrev pub CanRun : Instruction → Reached → Hart → Type 0
CanRun (Lui rd imm) r h = Unit {0}
CanRun (Addi rd a imm) r h = Unit {0}
CanRun (Slti rd a imm) r h = Unit {0}
CanRun (Sltiu rd a imm) r h = Unit {0}
CanRun (Xori rd a imm) r h = Unit {0}
CanRun (Ori rd a imm) r h = Unit {0}
CanRun (Andi rd a imm) r h = Unit {0}
CanRun (Slli rd a n) r h = Unit {0}
CanRun (Srli rd a n) r h = Unit {0}
CanRun (Srai rd a n) r h = Unit {0}
CanRun (Add rd a b) r h = Unit {0}
CanRun (Sub rd a b) r h = Unit {0}
CanRun (Sll rd a b) r h = Unit {0}
CanRun (Slt rd a b) r h = Unit {0}
CanRun (Sltu rd a b) r h = Unit {0}
CanRun (Xor rd a b) r h = Unit {0}
CanRun (Srl rd a b) r h = Unit {0}
CanRun (Sra rd a b) r h = Unit {0}
CanRun (Or rd a b) r h = Unit {0}
CanRun (And rd a b) r h = Unit {0}
CanRun (Mul rd a b) r h = Unit {0}
CanRun (Mulh rd a b) r h = Unit {0}
CanRun (Mulhsu rd a b) r h = Unit {0}
CanRun (Mulhu rd a b) r h = Unit {0}
CanRun (Div rd a b) r h = Unit {0}
CanRun (Divu rd a b) r h = Unit {0}
CanRun (Rem rd a b) r h = Unit {0}
CanRun (Remu rd a b) r h = Unit {0}
CanRun (Lw rd a imm) r h = IsLoadable (word_sum (h.registers a) imm) r
CanRun (Sw a v imm) r h = IsStorable (word_sum (h.registers a) imm) r
CanRun i r h = ⊥

place-number : place_of 0x30000014 ≡ DeviceWord HartId
unfolding place_of device_at
place-number = refl

place-harts : place_of 0x30000018 ≡ DeviceWord Harts
unfolding place_of device_at
place-harts = refl

place-inputs : place_of 0x3000001c ≡ DeviceWord Inputs
unfolding place_of device_at
place-inputs = refl

lw-number : (t : Setting) (number rd a imm : ℕ) (h : Hart) (s : Shared) → word_sum (h.registers a) imm % 4 ≡ 0
    → place_of (word_sum (h.registers a) imm) ≡ DeviceWord HartId → perform t number (Lw rd a imm) h s ≡ Goes (writes h rd number) s
lw-number t number rd a imm h s e f = let aligned = eq-eqb _ 0 e in rw (aligned, f)

lw-harts : (t : Setting) (number rd a imm : ℕ) (h : Hart) (s : Shared) → word_sum (h.registers a) imm % 4 ≡ 0
    → place_of (word_sum (h.registers a) imm) ≡ DeviceWord Harts → perform t number (Lw rd a imm) h s ≡ Goes (writes h rd t.harts) s
lw-harts t number rd a imm h s e f = let aligned = eq-eqb _ 0 e in rw (aligned, f)

lw-inputs : (t : Setting) (number rd a imm : ℕ) (h : Hart) (s : Shared) → word_sum (h.registers a) imm % 4 ≡ 0
    → place_of (word_sum (h.registers a) imm) ≡ DeviceWord Inputs → perform t number (Lw rd a imm) h s ≡ Goes (writes h rd t.inputs) s
lw-inputs t number rd a imm h s e f = let aligned = eq-eqb _ 0 e in rw (aligned, f)

lw_goes : (r : Reached) (t : Setting) (number rd a imm : ℕ) (h : Hart) (s : Shared) → IsLoadable (word_sum (h.registers a) imm) r
    → perform t number (Lw rd a imm) h s ≡ Goes (writes h rd (loaded (told_of t number) h r)) s
lw_goes Plain t number rd a imm h s q = absurd q
lw_goes (LocalAt w) t number rd a imm h s q =
    let e = q.1 in
    lw-local t number rd a imm w h s (omega arith) (place_of-local _ w q.0 e)
lw_goes TellsNumber t number rd a imm h s q = lw-number t number rd a imm h s (omega arith) (ap place_of q ∙ place-number)
lw_goes TellsHarts t number rd a imm h s q = lw-harts t number rd a imm h s (omega arith) (ap place_of q ∙ place-harts)
lw_goes TellsInputs t number rd a imm h s q = lw-inputs t number rd a imm h s (omega arith) (ap place_of q ∙ place-inputs)

sw_goes : (r : Reached) (t : Setting) (number a v imm : ℕ) (h : Hart) (s : Shared) → IsStorable (word_sum (h.registers a) imm) r
    → GoesAlone (perform t number (Sw a v imm) h s) (record (moves h) { local = stored h r (h.registers v) }) s
sw_goes (LocalAt w) t number a v imm h s q =
    let e = q.1 in
    (_, sw-local t number a v imm w h s (omega arith) (place_of-local _ w q.0 e))
sw_goes r t number a v imm h s q = absurd (assumption q)

pub can_run_goes : (i : Instruction) (r : Reached) (h : Hart) → CanRun i r h → (t : Setting) (number : ℕ) (s : Shared)
    → GoesAlone (perform t number i h s) (after (told_of t number) i r h) s
can_run_goes (Lui rd imm) r h q t number s = (s.reserved, refl)
can_run_goes (Addi rd a imm) r h q t number s = (s.reserved, refl)
can_run_goes (Slti rd a imm) r h q t number s = (s.reserved, refl)
can_run_goes (Sltiu rd a imm) r h q t number s = (s.reserved, refl)
can_run_goes (Xori rd a imm) r h q t number s = (s.reserved, refl)
can_run_goes (Ori rd a imm) r h q t number s = (s.reserved, refl)
can_run_goes (Andi rd a imm) r h q t number s = (s.reserved, refl)
can_run_goes (Slli rd a n) r h q t number s = (s.reserved, refl)
can_run_goes (Srli rd a n) r h q t number s = (s.reserved, refl)
can_run_goes (Srai rd a n) r h q t number s = (s.reserved, refl)
can_run_goes (Add rd a b) r h q t number s = (s.reserved, refl)
can_run_goes (Sub rd a b) r h q t number s = (s.reserved, refl)
can_run_goes (Sll rd a b) r h q t number s = (s.reserved, refl)
can_run_goes (Slt rd a b) r h q t number s = (s.reserved, refl)
can_run_goes (Sltu rd a b) r h q t number s = (s.reserved, refl)
can_run_goes (Xor rd a b) r h q t number s = (s.reserved, refl)
can_run_goes (Srl rd a b) r h q t number s = (s.reserved, refl)
can_run_goes (Sra rd a b) r h q t number s = (s.reserved, refl)
can_run_goes (Or rd a b) r h q t number s = (s.reserved, refl)
can_run_goes (And rd a b) r h q t number s = (s.reserved, refl)
can_run_goes (Mul rd a b) r h q t number s = (s.reserved, refl)
can_run_goes (Mulh rd a b) r h q t number s = (s.reserved, refl)
can_run_goes (Mulhsu rd a b) r h q t number s = (s.reserved, refl)
can_run_goes (Mulhu rd a b) r h q t number s = (s.reserved, refl)
can_run_goes (Div rd a b) r h q t number s = (s.reserved, refl)
can_run_goes (Divu rd a b) r h q t number s = (s.reserved, refl)
can_run_goes (Rem rd a b) r h q t number s = (s.reserved, refl)
can_run_goes (Remu rd a b) r h q t number s = (s.reserved, refl)
can_run_goes (Lw rd a imm) r h q t number s = (s.reserved, lw_goes r t number rd a imm h s q)
can_run_goes (Sw a v imm) r h q t number s = sw_goes r t number a v imm h s q
can_run_goes i r h q t number s = absurd (assumption q)

pub can_run_goes_on : (told : Told) (i : Instruction) (r : Reached) (h : Hart) → CanRun i r h
    → ((after told i r h).pc ≡ word_sum h.pc 4) × ((after told i r h).ended ≡ h.ended)
can_run_goes_on told (Lui rd imm) r h q = (refl, refl)
can_run_goes_on told (Addi rd a imm) r h q = (refl, refl)
can_run_goes_on told (Slti rd a imm) r h q = (refl, refl)
can_run_goes_on told (Sltiu rd a imm) r h q = (refl, refl)
can_run_goes_on told (Xori rd a imm) r h q = (refl, refl)
can_run_goes_on told (Ori rd a imm) r h q = (refl, refl)
can_run_goes_on told (Andi rd a imm) r h q = (refl, refl)
can_run_goes_on told (Slli rd a n) r h q = (refl, refl)
can_run_goes_on told (Srli rd a n) r h q = (refl, refl)
can_run_goes_on told (Srai rd a n) r h q = (refl, refl)
can_run_goes_on told (Add rd a b) r h q = (refl, refl)
can_run_goes_on told (Sub rd a b) r h q = (refl, refl)
can_run_goes_on told (Sll rd a b) r h q = (refl, refl)
can_run_goes_on told (Slt rd a b) r h q = (refl, refl)
can_run_goes_on told (Sltu rd a b) r h q = (refl, refl)
can_run_goes_on told (Xor rd a b) r h q = (refl, refl)
can_run_goes_on told (Srl rd a b) r h q = (refl, refl)
can_run_goes_on told (Sra rd a b) r h q = (refl, refl)
can_run_goes_on told (Or rd a b) r h q = (refl, refl)
can_run_goes_on told (And rd a b) r h q = (refl, refl)
can_run_goes_on told (Mul rd a b) r h q = (refl, refl)
can_run_goes_on told (Mulh rd a b) r h q = (refl, refl)
can_run_goes_on told (Mulhsu rd a b) r h q = (refl, refl)
can_run_goes_on told (Mulhu rd a b) r h q = (refl, refl)
can_run_goes_on told (Div rd a b) r h q = (refl, refl)
can_run_goes_on told (Divu rd a b) r h q = (refl, refl)
can_run_goes_on told (Rem rd a b) r h q = (refl, refl)
can_run_goes_on told (Remu rd a b) r h q = (refl, refl)
can_run_goes_on told (Lw rd a imm) r h q = (refl, refl)
can_run_goes_on told (Sw a v imm) r h q = (refl, refl)
can_run_goes_on told i r h q = absurd (assumption q)

-- ---- one instruction in its place

pub private : (image : Image) (t : Setting) (number k : ℕ) (i : Instruction) (h h' : Hart) → Holds image t → IsAt image k i 0 → h.pc ≡ 4 * k
    → h.ended ≡ false → ((s : Shared) → GoesAlone (perform t number i h s) h' s) → IsPrivateIn image t number h h'
private image t number k i h h' holds at e live goes = record {
  live = live;
  counted = ap (count_in image.commits.items) e ∙ at.counted;
  goes = λ s. let g = goes s in (g.0, step_at image k 0 i at t holds number h s e ∙ g.1);
}

pub runs_join : (image : Image) (t : Setting) (number m n : ℕ) (h h1 h2 : Hart) → RunsPrivately image t number m h h1
    → RunsPrivately image (in_cycles m t) number n h1 h2 → RunsPrivately image t number (m + n) h h2
runs_join image t number zero n h h1 h2 a b =
    let e : n ≡ 0 + n = omega arith in
    subst (λ k. RunsPrivately image t number k h h2) e (subst (λ g. RunsPrivately image t number n g h2) (sym a) b)
runs_join image t number (suc m) n h h1 h2 a b =
    let e : suc (m + n) ≡ suc m + n = omega arith in
    subst (λ k. RunsPrivately image t number k h h2) e (a.0, a.1, runs_join image (later t) number m n a.0 h1 h2 a.2 b)

-- ---- several lines: each with what it reaches

abbrev pub Quiets : Type 0
Quiets = List (Instruction × Reached)

abbrev pub quiet_lines : Quiets → List MarkedLine
quiet_lines [] = []
quiet_lines (l ∷ ls) = quiet l.0 ∷ quiet_lines ls

-- the hart after them
abbrev pub walk : Told → Quiets → Hart → Hart
walk told [] h = h
walk told (l ∷ ls) h = walk told ls (after told l.0 l.1 h)

abbrev pub CanWalk : Told → Quiets → Hart → Type 0
CanWalk told [] h = Unit {0}
CanWalk told (l ∷ ls) h = CanRun l.0 l.1 h × CanWalk told ls (after told l.0 l.1 h)

pub record Walked (image : Image) (t : Setting) (number k : ℕ) (ls : Quiets) (h : Hart) : Type 0 where
  pub runs : RunsPrivately image t number (length ls) h (walk (told_of t number) ls h)
  pub pc : (walk (told_of t number) ls h).pc ≡ 4 * (k + length ls)
  pub live : (walk (told_of t number) ls h).ended ≡ false

-- they are run privately, from the cycle on in which the hart comes to the first
pub walked : (image : Image) (bound : ℕ → ℕ) (t : Setting) (number : ℕ) → Holds image t → (ls : Quiets) (k : ℕ) (h : Hart)
    → LinesAt image bound k (quiet_lines ls) → h.pc ≡ 4 * k → h.ended ≡ false → CanWalk (told_of t number) ls h
    → Walked image t number k ls h
walked image bound t number holds [] k h at e live q = record { runs = refl; pc = omega arith; live = live }
walked image bound t number holds (l ∷ ls) k h at e live q =
    let told = told_of t number in
    let on = can_run_goes_on told l.0 l.1 h q.0 in
    let within = at.0.within in
    let on-pc = on.0 in
    let e' : (after told l.0 l.1 h).pc ≡ 4 * suc k = omega arith in
    let w = walked image bound (later t) number holds ls (suc k) (after told l.0 l.1 h) at.1 e' (on.1 ∙ live) q.1 in
    record {
      runs = (
        after told l.0 l.1 h,
        private image t number k l.0 h (after told l.0 l.1 h) holds at.0 e live (λ s. can_run_goes l.0 l.1 h q.0 t number s),
        w.runs,
      );
      pc = let wp = w.pc in omega arith;
      live = w.live;
    }

-- lines one after another
pub lines_split : (image : Image) (bound : ℕ → ℕ) (k : ℕ) (xs ys : List MarkedLine) → LinesAt image bound k (xs ++ ys)
    → LinesAt image bound k xs × LinesAt image bound (k + length xs) ys
lines_split image bound k [] ys at = let e : k ≡ k + 0 = omega arith in (tt, subst (λ n. LinesAt image bound n ys) e at)
lines_split image bound k (m ∷ xs) ys at =
    let rest = lines_split image bound (suc k) xs ys at.1 in
    let e : suc k + length xs ≡ k + suc (length xs) = omega arith in
    ((at.0, rest.0), subst (λ n. LinesAt image bound n ys) e rest.1)
