-- The states of the code, as those of the definitions.
use Rattle.std.specs.Prelude.{ℕ, suc, ◌+◌, ◌*◌, ◌/◌, ◌%◌, ◌==◌, List, [], ◌∷◌, Option, Some, None}
use Rattle.std.specs.Prelude.{if◌then◌else◌, map, slice_index, slice_index_or, slice_range}
use Rattle.fk_num.specs.Word.{Memory}
use Rattle.fk_isa.specs.declared.hart.Hart.{Hart as HartState}
use Rattle.fk_machine.specs.declared.hart.TrackedHart.{TrackedHart}
use Rattle.fk_machine.specs.declared.shared.SharedState.{SharedState}
use Rattle.fk_isa.specs.declared.instruction.Instruction.{Instruction}
use Rattle.fk_machine.specs.declared.setting.CodeWord.{CodeWord}
use Rattle.fk_machine.specs.declared.setting.Setting.{Setting as SettingState}
use Rattle.fk_machine.specs.declared.machine.Machine.{Machine as MachineState}
use Rattle.fk_machine.specs.Commit.{Commits}
use Rattle.fk_machine.specs.Hart.{Hart, Shared, Setting}
use Rattle.fk_machine.specs.Cycle.{Machine}

-- A hart with its local memory.
abbrev pub hart_of : HartState → Memory → Hart
hart_of h local =
    record { registers = slice_index h.registers; pc = h.pc; local = local; ended = h.ended }

-- The local memory of the hart with a number, in those of all harts: 32,768 words each, with 16
-- unused ones after them.
abbrev pub local_of : List ℕ → ℕ → Memory
local_of locals number = slice_index (slice_range locals (32784 * number) (32784 * number + 32768))

-- The harts from a number on, each with its local memory.
abbrev pub harts_of : ℕ → List TrackedHart → (ℕ → Memory) → List Hart
harts_of number [] local = []
harts_of number (h ∷ hs) local = hart_of h.state (local number) ∷ harts_of (suc number) hs local

-- The address that each hart ran in the last cycle.
abbrev pub ran_of : List TrackedHart → List (Option ℕ)
ran_of hs = map (λ h. h.ran) hs

-- The address that a hart runs when it is served.
abbrev pub address_of : HartState → Option ℕ
address_of h = if h.ended then None else Some h.pc

-- A hart that was not served.
abbrev pub unserved : TrackedHart → TrackedHart
unserved h = record h { ran = None }

abbrev pub shared_of : SharedState → Shared
shared_of s = record {
  words = slice_index s.words.items;
  control = slice_index s.control.items;
  output = s.output.items;
  reserved = λ number. slice_index_or s.reserved.items number None;
}

-- The instruction that a word of the code is, if it is one.
abbrev pub row_of : CodeWord → Option Instruction
row_of w = if w.is_known then Some w.instruction else None

abbrev pub setting_of : SettingState → Setting
setting_of t = record {
  code = map row_of t.code.items;
  harts = t.harts;
  inputs = t.inputs;
  finished = t.finished;
}

-- What the code commits, by a table with an entry for each of its words.
abbrev pub entry_at : List (Option (ℕ × ℕ)) → Commits
entry_at table pc = if pc % 4 == 0 then slice_index_or table (pc / 4) None else None

-- The machine of the definitions that a machine of the code stands for.
unfoldable pub machine_of : MachineState → Machine
machine_of m =
    record {
      code = map row_of m.setting.code.items;
      commits = entry_at m.setting.commits.items;
      harts = harts_of 0 m.harts.items (local_of m.locals.items);
      ran = ran_of m.harts.items;
      shared = shared_of m.shared;
      inputs = m.setting.inputs;
      begun = m.setting.finished;
      stand = m.stand;
    }

-- The words of the code, those that are no instructions too.
abbrev pub code_of : MachineState → List ℕ
code_of m = m.setting.words.items
