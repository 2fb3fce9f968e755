-- Where a hart finds the frame of a part.
use Rattle.std.specs.Prelude.{◌≡◌, ℕ, suc, ◌+◌, ◌-◌, ◌*◌, ◌^◌, ◌==◌, ◌≤◌, length, Bool, true, false}
use Rattle.fk_meaning_operation.specs.declared.operation.OwnValue.TheVariants.{FrameAddress}
use Rattle.fk_meaning_operation.specs.declared.operation.Operation.{Operation}
use Rattle.fk_meaning_operation.specs.declared.operation.Operation.TheVariants.{Get}
use Rattle.fk_machine.specs.Hart.{Hart}
use Rattle.fk_sim_block.specs.Owner.{Owner}
use Rattle.fk_sim_block.specs.Stands.{Places, frame_start}
use Rattle.fk_sim_block.specs.Node.{node_register, control_address}
use Rattle.fk_gen.specs.declared.placed.Levels.{Levels}

-- How many levels outward a part is, by its number in the call.
abbrev pub outward : Levels → (nesting : ℕ) → ℕ
outward levels nesting = levels.nest - nesting

-- The private word with the node of the group so many levels outward.
abbrev pub node_word : Levels → (out : ℕ) → ℕ
node_word levels out = levels.behind + 4 * (levels.count - out) + 1

-- The node of a group: the innermost one's is in a register, and others' are in the frame.
abbrev pub node_by : (is_own : Bool) → Places → Levels → (out waiting : ℕ) → Hart → ℕ
node_by true places levels out waiting h = h.registers node_register
node_by false places levels out waiting h =
    h.local (frame_start places waiting + 7 + node_word levels out)

-- The group frame with a number begins after the header of a group, whose node the hart has.
pub record FindsNode (places : Places) (levels : Levels) (nesting : ℕ) (p : Owner)
    (h : Hart) : Type 0 where
  pub first : ℕ
  pub node : node_by (outward levels nesting == 0) places levels (outward levels nesting)
      (length p.runner.has.callers) h ≡ control_address first
  pub frame : p.runner.has.call.frames nesting ≡ first + 8
  pub within : first + 8 ≤ 2 ^ 20

-- What a block asks of its hart that gets the address of a word of the frame of a part.
abbrev pub FindsPart : Places → Levels → Operation → Owner → Hart → Type 0
FindsPart places levels (Get (FrameAddress (suc part) word)) p h =
    FindsNode places levels (suc part) p h
FindsPart places levels operation p h = Unit {0}
