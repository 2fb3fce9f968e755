-- Machines, and one cycle of them.
use Rattle.std.specs.Prelude.{ℕ, suc, ◌+◌, List, [], ◌∷◌, ◌++◌, Option, Some, None, Bool, true}
use Rattle.std.specs.Prelude.{false, ◌&&◌, cond, map, length, replicate, slice_index}
use Rattle.fk_num.specs.Word.{Memory}
use Rattle.fk_image.specs.declared.Image.{Image}
use Rattle.fk_isa.specs.declared.instruction.Instruction.{Instruction}
use Rattle.fk_isa.specs.Find.{row}
use Rattle.fk_machine.specs.Commit.{Commits, commits_of}
use Rattle.fk_machine.specs.declared.stand.Stand.{Stand}
use Rattle.fk_machine.specs.declared.stand.Stand.TheVariants.{Running, Finished, Faulted, Trapped}
use Rattle.fk_machine.specs.Hart.{Hart, Shared, Setting, Effect, Goes, Stops}
use Rattle.fk_machine.specs.Step.{step}

-- What the harts from some number on do in a cycle: the harts and the shared state after it, the
-- address that each hart ran (none for one that was not served), and the status that ended the
-- cycle, if one did.
pub record Turns : Type 0 where
  pub harts : List Hart
  pub shared : Shared
  pub ran : List (Option ℕ)
  pub stop : Option Stand

abbrev pub before : Hart → Option ℕ → Turns → Turns
before h pc rest =
    record { harts = h ∷ rest.harts; shared = rest.shared; ran = pc ∷ rest.ran; stop = rest.stop }

abbrev pub no_address : Hart → Option ℕ
no_address h = None

-- The turns of hart h, after its effect, and of the others in hs. They are not served if the effect
-- ends the machine.
abbrev pub after_effect : Hart → List Hart → (Shared → Turns) → Shared → Effect → Turns
after_effect h hs others s (Goes h' s') = before h' (Some h.pc) (others s')
after_effect h hs others s (Stops stand) =
    record { harts = h ∷ hs; shared = s; ran = Some h.pc ∷ map no_address hs; stop = Some stand }

-- A hart that has ended is skipped.
abbrev pub turn : Bool → Setting → ℕ → Hart → List Hart → (Shared → Turns) → Shared → Turns
turn true t number h hs others s = before h None (others s)
turn false t number h hs others s = after_effect h hs others s (step t number h s)

-- The turns of all harts, in ascending number.
abbrev pub turns : Setting → ℕ → List Hart → Shared → Turns
turns t number [] s = record { harts = []; shared = s; ran = []; stop = None }
turns t number (h ∷ hs) s = turn h.ended t number h hs (turns t (suc number) hs) s

-- A machine. `commits` tells what its code commits. `ran` has the address that each hart ran in the
-- last cycle, and `shared.output` has the bytes of that cycle.
pub record Machine : Type 0 where
  pub code : List (Option Instruction)
  pub commits : Commits
  pub harts : List Hart
  pub ran : List (Option ℕ)
  pub shared : Shared
  pub inputs : ℕ
  pub begun : ℕ
  pub stand : Stand

abbrev pub setting_of : Machine → Setting
setting_of m =
    record { code = m.code; harts = length m.harts; inputs = m.inputs; finished = m.begun }

-- A cycle begins with nothing printed.
abbrev pub unprinted : Shared → Shared
unprinted s = record s { output = [] }

abbrev pub turns_of : Machine → Turns
turns_of m = turns (setting_of m) 0 m.harts (unprinted m.shared)

abbrev pub all_ended : List Hart → Bool
all_ended [] = true
all_ended (h ∷ hs) = h.ended && all_ended hs

abbrev pub stand_after : Option Stand → List Hart → Stand
stand_after None harts = cond (all_ended harts) Finished Running
stand_after (Some stand) harts = stand

abbrev pub is_running : Stand → Bool
is_running Running = true
is_running Finished = false
is_running (Faulted site hart) = false
is_running (Trapped hart pc kind) = false

abbrev pub after_turns : Machine → Turns → Machine
after_turns m t =
    record {
      code = m.code;
      commits = m.commits;
      harts = t.harts;
      ran = t.ran;
      shared = t.shared;
      inputs = m.inputs;
      begun = m.begun + 1;
      stand = stand_after t.stop t.harts;
    }

-- One cycle. A machine that doesn't run stays as it is.
abbrev pub cycle : Machine → Machine
cycle m = cond (is_running m.stand) (after_turns m (turns_of m)) m

abbrev pub first_hart : Hart
first_hart = record { registers = λ r. 0; pc = 0; local = λ i. 0; ended = false }

-- Shared data begins with the globals of the image, then the input numbers, then zeros.
abbrev pub first_words : Image → List ℕ → Memory
first_words image input = slice_index (image.globals.items ++ input)

abbrev pub machine_opening : Image → List ℕ → ℕ → Machine
machine_opening image input p =
    record {
      code = map row image.code.items;
      commits = commits_of image.commits.items;
      harts = replicate p first_hart;
      ran = replicate p None;
      shared = record {
        words = first_words image input;
        control = λ i. 0;
        output = [];
        reserved = λ number. None;
      };
      inputs = length input;
      begun = 0;
      stand = Running;
    }
