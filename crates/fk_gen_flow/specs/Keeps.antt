-- What the blocks of control flow guarantee besides doing their operations: how many cycles they
-- take, and what they keep of their harts.
use Rattle.std.specs.Prelude.{◌≡◌, ℕ, suc, ◌+◌, ◌-◌, ◌*◌, ◌<◌, ◌==◌, nat_le, List, [], ◌∷◌, length}
use Rattle.std.specs.Prelude.{Bool, true, false, if◌then◌else◌}
use Rattle.fk_meaning_operation.specs.declared.operation.Operation.{Operation}
use Rattle.fk_meaning_operation.specs.declared.operation.Operation.TheVariants.{Branch, Leave}
use Rattle.fk_meaning_operation.specs.declared.operation.Operation.TheVariants.{Enter}
use Rattle.fk_meaning.specs.Processor.{Call, Processor, Setting}
use Rattle.fk_meaning.specs.Local.{is_onward}
use Rattle.fk_core.specs.declared.op.CoreOp.{CoreOp}
use Rattle.fk_image.specs.declared.Image.{Image}
use Rattle.fk_machine.specs.Hart.{Hart, Setting as MachineSetting}
use Rattle.fk_sim_block.specs.Owner.{Owner}
use Rattle.fk_sim_block.specs.Stands.{Places, frame_end}
use Rattle.fk_sim_block.specs.Suits.{writes}
use Rattle.fk_sim_block.specs.Block.{Enters}
use Rattle.fk_sim_block.specs.Node.{node_register, body_register, space_frames, space_blocks}
use Rattle.fk_sim_block.specs.Node.{control_address}
use Rattle.fk_gen.specs.Keeps.{Keeps, DoesAnd, peak}
use Rattle.fk_gen_flow.specs.Calls.{most_own}

-- ---- cycles

-- The cycles before the commit. Before it a call looks at the depth, and stores the frame of its
-- caller.
abbrev pub before_commit : Operation → ℕ
before_commit (Enter arguments) = 3
before_commit operation = 0

-- The cycles of a call after its commit: one for each word that it clears, and two more; two for
-- each argument, and two more where the code that all calls share copies them; and four for the new
-- frame.
abbrev pub copying_takes : (own : Bool) (arguments : ℕ) → ℕ
copying_takes own arguments = 2 * arguments + (if own then 0 else 2)

abbrev pub clearing_takes : (none : Bool) (clears : ℕ) → ℕ
clearing_takes none clears = if none then 0 else clears + 2

abbrev pub call_takes : (clears arguments : ℕ) → ℕ
call_takes clears arguments =
    clearing_takes (clears == 0) clears
    + copying_takes (nat_le arguments (most_own (clears == 0))) arguments + 4

-- Those of the end of a call: three more where it gives a group frame back.
abbrev pub leaving_takes : (gives framed : Bool) → ℕ
leaving_takes gives framed = (if gives then 7 else 4) + (if framed then 3 else 0)

-- The number of cycles after a commit, by the branch that the operation takes.
abbrev pub behind_commit : (clears : ℕ) → Operation → (onward : Bool) → ℕ
behind_commit clears (Branch turned) onward = if onward then 1 else 2
behind_commit clears (Leave gives framed) onward = leaving_takes gives framed
behind_commit clears (Enter arguments) onward = call_takes clears arguments
behind_commit clears operation onward = 0

-- ---- what stays

-- The word where the innermost waiting call takes its result.
abbrev pub result_word : List Call → ℕ
result_word [] = 0
result_word (c ∷ calls) = frame_end (length calls) - suc (length c.values)

-- The address at which the frames of the group end after the end of a call: where the group frame
-- of that call begins, if it gives one back.
abbrev pub frames_behind : (framed : Bool) → Processor → Hart → ℕ
frames_behind true p h = control_address (p.call.frames 0)
frames_behind false p h = space_frames h

-- a hart keeps what it knows of its node, but where the frames of the group end, and all words
-- below one
pub record KeepsBelow (word frames : ℕ) (h h' : Hart) : Type 0 where
  pub node : h'.registers node_register ≡ h.registers node_register
  pub body : h'.registers body_register ≡ h.registers body_register
  pub frames_end : space_frames h' ≡ frames
  pub blocks : space_blocks h' ≡ space_blocks h
  pub words : (j : ℕ) → j < word → h'.local j ≡ h.local j

-- What the block of an operation keeps. A call keeps all words below its own frame, and the end of
-- a call those below the result. Other operations keep what blocks without a call do.
abbrev pub KeepsFor : Places → Operation → (depth : ℕ) → Processor → (h h' : Hart) → Type 0
KeepsFor places (Enter arguments) depth p h h' =
    KeepsBelow (frame_end (length p.callers)) (space_frames h) h h'
KeepsFor places (Leave gives framed) depth p h h' =
    KeepsBelow (result_word p.callers) (frames_behind framed p h) h h'
KeepsFor places operation depth p h h' =
    Keeps places (length p.callers) (peak operation depth) (writes operation) h h'

-- The block of an operation does it by a commit with this count, in this many cycles, and keeps
-- what must be kept.
abbrev pub BlockKeeps : (core : List CoreOp) → Image → Places → (count before : ℕ)
    → (behind : (onward : Bool) → ℕ) → (i : ℕ) → CoreOp → Operation → Type 0
BlockKeeps core image places count before behind i op operation =
    (setting : Setting) (t : MachineSetting) (p : Owner) (h : Hart)
    → Enters core image places setting t i op operation p h
    → DoesAnd core image places setting t count p h before
    (behind (is_onward operation p.runner.has))
    (λ h'. KeepsFor places operation op.depth p.runner.has h h')
