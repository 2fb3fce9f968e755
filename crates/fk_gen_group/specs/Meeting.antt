-- The lines of a meeting, and where a hart is in them.
use Rattle.std.specs.Prelude.{◌≡◌, ◌≢◌, ℕ, zero, suc, ◌+◌, ◌-◌, ◌*◌, ◌%◌, ◌^◌, ◌<◌, ◌≤◌, List, []}
use Rattle.std.specs.Prelude.{◌∷◌, true, false, Option, Some, None, ◌⊎◌}
use Rattle.fk_num.specs.Word.{Memory}
use Rattle.fk_image.specs.declared.Image.{Image}
use Rattle.fk_image.specs.declared.event.Event.{Event}
use Rattle.fk_isa.specs.declared.instruction.Instruction.{Instruction}
use Rattle.fk_isa.specs.declared.instruction.Instruction.TheVariants.{Lui, Lw, Sw, Addi, Andi, Beq}
use Rattle.fk_isa.specs.declared.instruction.Instruction.TheVariants.{Bne, AmoAddW}
use Rattle.fk_asm.specs.Block.{MarkedLine}
use Rattle.fk_machine.specs.Hart.{Hart, Setting}
use Rattle.fk_sim_nodes.specs.Node.{Member, Words}
use Rattle.fk_sim_nodes.specs.Alone.{Holds, RunsPrivately, Stays, later}
use Rattle.fk_sim_nodes.specs.Phase.{Phase, Outside, Away, Coming, Waiting, Leaving, Moves}
use Rattle.fk_sim_nodes.specs.Phase.{word_after}
use Rattle.fk_sim_block.specs.Stands.{zero_register}
use Rattle.fk_gen.specs.Registers.{t0, t1}
use Rattle.fk_gen.specs.Lines.{quiet, commits_as}
use Rattle.fk_gen.specs.InPlace.{LinesAt}
use Rattle.fk_sim_block.specs.Node.{control_address, root_words}

-- Where harts meet: a register with the address of the arrival word, one with the number of
-- members, and the event that leaving is, if it is the operation.
pub record Meeting : Type 0 where
  pub arrivals : ℕ
  pub size : ℕ
  pub leaving : Option Event

abbrev pub leaving_line : Option Event → Instruction → MarkedLine
leaving_line (Some event) i = commits_as event i
leaving_line None i = quiet i

abbrev pub count_of_leaving : Option Event → ℕ
count_of_leaving (Some event) = 1
count_of_leaving None = 0

-- The device at 0x30000010 gives the number of cycles finished. The first six lines take 5 or 6
-- cycles, so that the addition comes in an even cycle. The load then comes in odd cycles, and so
-- does the store of 0, with which all leave.
abbrev pub meeting_lines : Meeting → List MarkedLine
meeting_lines g =
    quiet (Lui t0 0x30000) ∷ quiet (Lw t0 t0 16) ∷ quiet (Andi t0 t0 1) ∷
    quiet (Addi t1 zero_register 1) ∷
    quiet (Beq t0 zero_register 8) ∷ quiet (Addi zero_register zero_register 0) ∷
    quiet (AmoAddW zero_register g.arrivals t1 false false) ∷ quiet (Lw t0 g.arrivals 0) ∷
    quiet (Bne t0 g.size (2 ^ 32 - 4)) ∷ leaving_line g.leaving (Sw g.arrivals zero_register 0) ∷ []

-- The lines don't write the two registers of the meeting.
pub record IsMeeting (g : Meeting) : Type 0 where
  pub arrivals_t0 : g.arrivals ≢ t0
  pub arrivals_t1 : g.arrivals ≢ t1
  pub size_t0 : g.size ≢ t0
  pub size_t1 : g.size ≢ t1

-- The number of steps between the poll that finds all members and the store.
abbrev pub lead : ℕ
lead = 1

module _ (g : Meeting) where
  -- A hart at the first line: its arrival word is control word w, and n members meet there.
  pub record IsReadyToMeet (w n : ℕ) (h : Hart) : Type 0 where
    pub live : h.ended ≡ false
    pub nought : h.registers zero_register ≡ 0
    pub within : w < root_words + 64
    pub arrivals : h.registers g.arrivals ≡ control_address w
    pub size : h.registers g.size ≡ n

  -- A hart has all that another has, except t0, t1 and its place in the code.
  pub record Keeps (first h : Hart) : Type 0 where
    pub live : h.ended ≡ first.ended
    pub local : h.local ≡ first.local
    pub others : (r : ℕ) → r ≢ t0 → r ≢ t1 → h.registers r ≡ first.registers r

  module _ (image : Image) (k n : ℕ) (first : Hart) where
    -- A hart at the addition.
    pub record IsArriving (h : Hart) : Type 0 where
      pub at : h.pc ≡ 4 * (k + 6)
      pub keeps : Keeps first h
      pub one : h.registers t1 ≡ 1

    -- A hart after the lines.
    pub record HasLeft (h : Hart) : Type 0 where
      pub at : h.pc ≡ 4 * (k + 10)
      pub keeps : Keeps first h

    -- Where a hart that came to the lines at word k is at the beginning of a cycle, by its phase.
    abbrev pub IsInPhase : Setting → (number : ℕ) → Phase → Hart → Type 0
    IsInPhase t number Outside h = ⊥
    IsInPhase t number Away h = ⊥
    IsInPhase t number (Coming d) h =
        ((t.finished + d) % 2 ≡ 0)
        × ((arriving : Hart) × RunsPrivately image t number d h arriving × IsArriving arriving)
    IsInPhase t number Waiting h =
        Keeps first h
        × (((t.finished % 2 ≡ 1) × (h.pc ≡ 4 * (k + 7)))
        ⊎ ((t.finished % 2 ≡ 0) × (h.pc ≡ 4 * (k + 8)) × (h.registers t0 ≢ n)))
    IsInPhase t number (Leaving zero) h = Keeps first h × (t.finished % 2 ≡ 1)
        × (h.pc ≡ 4 * (k + 9))
    IsInPhase t number (Leaving (suc zero)) h =
        Keeps first h × (t.finished % 2 ≡ 0) × (h.pc ≡ 4 * (k + 8)) × (h.registers t0 ≡ n)
    IsInPhase t number (Leaving (suc (suc d))) h = ⊥

    -- After its turn a hart is in its next phase, or has left.
    abbrev pub Continues : Setting → (number found : ℕ) → Phase → Phase → Hart → Type 0
    Continues t number v (Leaving zero) f' h = (f' ≡ Away) × HasLeft h
    Continues t number v f f' h = IsInPhase (later t) number f' h

  abbrev pub count_for : Phase → ℕ
  count_for (Leaving zero) = count_of_leaving g.leaving
  count_for f = 0

  -- The turn of a member in its phase touches the arrival word alone.
  pub record Turn (image : Image) (mine : Words) (k w n : ℕ) (first : Hart) (t : Setting)
      (f : Phase) (m : Member) (own : Memory) : Type 0 where
    pub hart : Hart
    pub words : Memory
    pub phase : Phase
    pub stays : Stays image mine t (count_for f) m own hart words
    pub arrivals : words w ≡ word_after f (own w)
    pub others : (j : ℕ) → j ≢ w → words j ≡ own j
    pub moves : Moves t.finished n lead (own w) f phase
    pub continues : Continues image k n first t m.number (own w) f phase hart

-- The lines are at word k, and can be those of a meeting.
pub record HasMeeting (g : Meeting) (image : Image) (bound : ℕ → ℕ) (k : ℕ) : Type 0 where
  pub fits : IsMeeting g
  pub lines : LinesAt image bound k (meeting_lines g)

-- A hart that comes to the lines arrives after 5 or 6 cycles, in an even one.
abbrev pub HartsArrive : Type 0
HartsArrive =
    (g : Meeting) (image : Image) (bound : ℕ → ℕ) (k w n number : ℕ) (t : Setting) (h : Hart)
    → HasMeeting g image bound k
    → Holds image t → IsReadyToMeet g w n h → h.pc ≡ 4 * k
    → (d : ℕ) × (5 ≤ d) × (d ≤ 6) × IsInPhase g image k n h t number (Coming d) h

-- A hart in the lines goes through its phases.
abbrev pub HartsMove : Type 0
HartsMove =
    (g : Meeting) (image : Image) (bound : ℕ → ℕ) (mine : Words) (k w n : ℕ) (t : Setting)
    (first : Hart) (f : Phase) (m : Member) (own : Memory)
    → HasMeeting g image bound k → mine w ≡ true → Holds image t → IsReadyToMeet g w n first
    → IsInPhase g image k n first t m.number f m.hart → Turn g image mine k w n first t f m own
