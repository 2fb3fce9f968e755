-- Instructions that touch nothing but their hart, in a straight line: what each reaches is told by the hart that comes to it.
use Rattle.std.proofs.Common.{◌≡◌, ℕ, suc, ◌-◌, ◌/◌, ◌<◌, List, [], ◌∷◌, map, length, ap, refl}
use Rattle.fk_num.specs.Word.{word_sum}
use Rattle.fk_isa.specs.declared.instruction.Instruction.{Instruction}
use Rattle.fk_isa.specs.declared.instruction.Instruction.TheVariants.{Lw, Sw}
use Rattle.fk_machine.specs.Hart.{Hart}
use Rattle.fk_sim_block.specs.Stands.{local_address}
use Rattle.fk_gen.specs.Lines.{quiet}
use Rattle.fk_gen.proofs.Walk.{Told, Reached, Plain, LocalAt, Quiets, after, quiet_lines, walk, CanWalk}

-- the word of the local memory at an address
abbrev pub local_index : (address : ℕ) → ℕ
local_index a = (a - 0x20000000) / 4

abbrev pub IsLocalAddress : (address : ℕ) → Type 0
IsLocalAddress a = (local_index a < 32768) × (a ≡ local_address (local_index a))

abbrev pub reached : Instruction → Hart → Reached
reached (Lw rd rs imm) h = LocalAt (local_index (word_sum (h.registers rs) imm))
reached (Sw rs rv imm) h = LocalAt (local_index (word_sum (h.registers rs) imm))
reached i h = Plain

abbrev pub quiets : Told → List Instruction → Hart → Quiets
quiets told [] h = []
quiets told (i ∷ is) h = (i, reached i h) ∷ quiets told is (after told i (reached i h) h)

-- the hart after them
abbrev pub walk_straight : Told → List Instruction → Hart → Hart
walk_straight told is h = walk told (quiets told is h) h

abbrev pub CanWalkStraight : Told → List Instruction → Hart → Type 0
CanWalkStraight told is h = CanWalk told (quiets told is h) h

pub quiets_lines : (told : Told) (is : List Instruction) (h : Hart) → quiet_lines (quiets told is h) ≡ map quiet is
quiets_lines told [] h = refl
quiets_lines told (i ∷ is) h = ap (λ ls. quiet i ∷ ls) (quiets_lines told is (after told i (reached i h) h))

pub quiets_length : (told : Told) (is : List Instruction) (h : Hart) → length (quiets told is h) ≡ length is
quiets_length told [] h = refl
quiets_length told (i ∷ is) h = ap (λ n. suc n) (quiets_length told is (after told i (reached i h) h))
