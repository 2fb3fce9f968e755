-- For each index of a flat list, whether a `fork` divided the group around the part there, and how
-- many words the frame of that group has. The end of the part needs them to find where the frames
-- of that group end.
use Rattle.std.specs.Prelude.{ℕ, zero, suc, ◌==◌, Bool, false, List, [], ◌∷◌, map, length}
use Rattle.std.specs.Prelude.{slice_get, Option, Some, None, if◌then◌else◌}
use Rattle.fk_meaning_operation.specs.declared.operation.SplitKind.{SplitKind}
use Rattle.fk_meaning_operation.specs.declared.operation.SplitKind.TheVariants.{Fork}
use Rattle.fk_meaning_operation.specs.declared.operation.Operation.{Operation}
use Rattle.fk_meaning_operation.specs.declared.operation.Operation.TheVariants.{Split, Resume}
use Rattle.fk_meaning_operation.specs.declared.operation.Operation.TheVariants.{Frame, Begin, End}
use Rattle.fk_core.specs.declared.op.CoreOp.{CoreOp}
use Rattle.fk_core_levels.specs.Count.{read, opens}

-- A part that is open: whether a `fork` divided the group around, and how many words the frame of
-- that group has.
pub record OpenPart : Type 0 where
  pub fork : Option ℕ
  pub words : ℕ

-- The open parts at an operation, the innermost first, and how many words the innermost one's frame
-- has.
pub record Parts : Type 0 where
  pub parts : List OpenPart
  pub words : ℕ

abbrev pub no_part : Parts
no_part = record { parts = []; words = 0 }

-- At a resume the parts before it have ended.
abbrev pub closed : List OpenPart → Parts
closed [] = no_part
closed (part ∷ held) = record { parts = held; words = part.words }

abbrev pub come_to : Option Operation → Parts → Parts
come_to (Some Resume) parts = closed parts.parts
come_to operation parts = parts

-- The words of the frame of the group around the innermost part, if a `fork` divided that group.
abbrev pub fork_of : List OpenPart → Option ℕ
fork_of [] = None
fork_of (part ∷ held) = part.fork

-- The words of the frame of the group at a level, if a `fork` divided that group. Level 0 is the
-- outermost.
abbrev pub fork_at : List OpenPart → (level : ℕ) → Option ℕ
fork_at [] level = None
fork_at (part ∷ held) level = if length held == level then part.fork else fork_at held level

abbrev pub left_by : SplitKind → (words : ℕ) → Option ℕ
left_by Fork words = Some words
left_by by words = None

abbrev pub opened : SplitKind → Parts → Parts
opened by parts = record {
  parts = record { fork = left_by by parts.words; words = parts.words } ∷ parts.parts;
  words = 0;
}

-- A frame of number 0 is the function's own, and in no part.
abbrev pub taken : (number words : ℕ) → Parts → Parts
taken zero words parts = parts
taken (suc number) words parts = record parts { words = words }

-- A split opens a part without a frame, and the next part begins after the end of another.
abbrev pub leave : Option Operation → Parts → Parts
leave (Some (Split by)) parts = opened by parts
leave (Some (Frame number words)) parts = taken number words parts
leave (Some Begin) parts = record parts { words = 0 }
leave (Some End) parts = record parts { words = 0 }
leave operation parts = parts

-- In the opening of a call no part is open.
abbrev pub open_from : Parts → (opening : Bool) → List CoreOp → List (List OpenPart)
open_from parts opening [] = []
open_from parts opening (op ∷ ops) =
    let there = come_to (read op) parts in
    (if opening then [] else there.parts)
    ∷ open_from (leave (read op) there) (opens opening op) ops

abbrev pub open_parts : List CoreOp → List (List OpenPart)
open_parts ops = open_from no_part false ops

-- For each index, whether a `fork` made the innermost part, as `fork_of` tells.
abbrev pub forks : List CoreOp → List (Option ℕ)
forks ops = map fork_of (open_parts ops)

abbrev pub fork_in : Option (List OpenPart) → (level : ℕ) → Option ℕ
fork_in None level = None
fork_in (Some held) level = fork_at held level

-- Whether a `fork` left a level at an index, as `fork_at` tells.
abbrev pub level_forks : List CoreOp → (index level : ℕ) → Option ℕ
level_forks ops index level = fork_in (slice_get (open_parts ops) index) level
