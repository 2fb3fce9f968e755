-- Values that blocks take, and values that they give.
use Rattle.std.proofs.Common.{◌≡◌, ℕ, suc, ◌-◌, ◌<◌, ◌≤◌, List, ◌∷◌, length, ap, subst, sym, ◌∙◌, arith}
use Rattle.fk_num.specs.Word.{put}
use Rattle.fk_meaning.specs.Processor.{values, last, before}
use Rattle.fk_core.specs.declared.op.CoreOp.{CoreOp}
use Rattle.fk_isa.specs.declared.instruction.Instruction.{Instruction}
use Rattle.fk_machine.specs.Hart.{Hart}
use Rattle.fk_sim_block.specs.Owner.{Owner}
use Rattle.fk_sim_block.specs.Stands.{Places, HasValues, HasRoom, local_address, frame_end, value_in, end_register}
use Rattle.fk_sim_block.specs.Suits.{Flows, nothing}
use Rattle.fk_gen.specs.Operands.{operand, result}
use Rattle.fk_gen.proofs.Values.{other_word, value_at, value_place, values_put}
use Rattle.fk_gen.proofs.Standing.{InMemory, with_list, value_written}
use Rattle.fk_gen.proofs.Walk.{Told, Reached, LocalAt, CanRun, after}

-- ---- what lines reach

-- the word of a place, where so many calls wait
abbrev pub place_word : (waiting place : ℕ) → ℕ
place_word n k = frame_end n - k

-- what the line of an operand or a result reaches
abbrev pub place_reached : (waiting place : ℕ) → Reached
place_reached n k = LocalAt (place_word n k)

abbrev pub operand_line : (register waiting place : ℕ) → Instruction × Reached
operand_line register n k = (operand register k, place_reached n k)

abbrev pub result_line : (register waiting place : ℕ) → Instruction × Reached
result_line register n k = (result register k, place_reached n k)

pub operand_runs : (register n k : ℕ) (h : Hart) → h.registers end_register ≡ local_address (frame_end n) → n < 256 → 1 ≤ k → k ≤ 64
    → CanRun (operand register k) (place_reached n k) h
operand_runs register n k h e few some most = value_place (h.registers end_register) n k e few some most

pub result_runs : (register n k : ℕ) (h : Hart) → h.registers end_register ≡ local_address (frame_end n) → n < 256 → 1 ≤ k → k ≤ 64
    → CanRun (result register k) (place_reached n k) h
result_runs register n k h e few some most = value_place (h.registers end_register) n k e few some most

-- ---- what an operand is

-- the last value, and the one before it
pub operand_is : (at : ℕ → ℕ) (d : ℕ) (vs : List ℕ) → HasValues at vs → length vs ≡ d → 1 ≤ d → at d ≡ last vs
operand_is at d vs held depth some =
    let e : d ≡ length vs - 0 = omega arith in
    ap at e ∙ value_at 0 at vs (omega arith) held

pub earlier_is : (at : ℕ → ℕ) (d : ℕ) (vs : List ℕ) → HasValues at vs → length vs ≡ d → 2 ≤ d → at (d - 1) ≡ last (before 1 vs)
earlier_is at d vs held depth two =
    let e : d - 1 ≡ length vs - 1 = omega arith in
    ap at e ∙ value_at 1 at vs (omega arith) held

-- where local memory stays, so do all values
pub others_stay : (n k : ℕ) (h h' : Hart) → h'.local ≡ h.local → value_in h' n k ≡ value_in h n k
others_stay n k h h' e = ap (λ m. m (frame_end n - k)) e

-- ---- what a result does

-- the words below its place stay
pub result_keeps : (told : Told) (register n k : ℕ) (h : Hart) (j : ℕ) → j < frame_end n - k → (after told (result register k) (place_reached n k) h).local j ≡ h.local j
result_keeps told register n k h j lt = other_word h.local (frame_end n - k) (h.registers register) j (λ e. omega arith)

-- with it the hart has in memory the processor that has it in place of the last so many values
pub result_stands : (core : List CoreOp) (places : Places) (told : Told) (a : ℕ) (p : Owner) (i i' register dropped k v : ℕ) (h : Hart)
    → places.frames.of_file ≤ 56 → length p.runner.has.callers < 256 → p.runner.left.at ≡ i → HasRoom places.frames i k
    → dropped ≤ length (values p.runner.has) → k ≡ suc (length (values p.runner.has)) - dropped → Flows core places.frames nothing i i'
    → h.registers register ≡ v → InMemory places h.local a p
    → InMemory places (after told (result register k) (place_reached (length p.runner.has.callers) k) h).local a
    (with_list core places i' (v ∷ before dropped (values p.runner.has)) p)
result_stands core places told a p i i' register dropped k v h few waiting at room enough top flows e held =
    let n = length p.runner.has.callers in
    let vs = values p.runner.has in
    let header = room.header in
    subst (λ x. InMemory places (put h.local (frame_end n - k) x) a (with_list core places i' (v ∷ before dropped vs) p)) (sym e)
    (value_written core places h.local a p i i' k v (v ∷ before dropped vs) few waiting at room (omega arith) flows held
    (values_put dropped k h.local n v vs enough top (omega arith) held.running.values))
