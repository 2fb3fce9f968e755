-- The state of an assembler, and the code that it makes.
use Rattle.std.specs.Prelude.{◌≡◌, ℕ, ◌*◌, ◌<◌, ℤ, List, [], map, length, All, Option, Some, None}
use Rattle.std.specs.Prelude.{IsSome, IfSome, IsSomeAnd, option_map, option_and_then, slice_get}
use Rattle.std.specs.Prelude.{slice_index_or}
use Rattle.std.specs.Option.{option_map_or}
use Rattle.std.specs.List.{enumerate_from}
use Rattle.fk_isa.specs.declared.instruction.Instruction.{Instruction}
use Rattle.fk_asm.specs.declared.line.Line.{Line}
use Rattle.fk_asm.specs.Jump.{distance, Reaches, with_distance}

-- An assembler: its lines, the index of the word to which each label is bound (if it is bound), and
-- the commit entries.
pub record Assembly : Type 0 where
  pub lines : List Line
  pub bound : List (Option ℕ)
  pub commits : List (ℕ × ℕ)

abbrev pub empty : Assembly
empty = record { lines = []; bound = []; commits = [] }

-- A line that goes to no label.
abbrev pub straight : Instruction → Line
straight i = record { instruction = i; label = None }

-- A line that goes to a label.
abbrev pub jump_to : Instruction → ℕ → Line
jump_to i label = record { instruction = i; label = Some label }

-- The address of the next word.
abbrev pub next_address : Assembly → ℕ
next_address a = 4 * length a.lines

-- Each commit entry is that of a word already added, so the next word has none.
abbrev pub AreFollowed : Assembly → Type 0
AreFollowed a = All (λ entry. entry.0 < next_address a) a.commits

-- The index of the word to which a line goes.
abbrev pub target : List (Option ℕ) → Line → Option ℕ
target bound line = option_and_then (λ label. slice_index_or bound label None) line.label

-- The label to which a line goes is bound, if there is one.
abbrev pub IsBound : List (Option ℕ) → Line → Type 0
IsBound bound line = IfSome line.label (λ _. IsSome (target bound line))

-- The distance that the line of a word goes.
abbrev pub distance_of : List (Option ℕ) → ℕ → Line → Option ℤ
distance_of bound own line = option_map (distance own) (target bound line)

-- The instruction of the line of a word: a jump to a label goes the distance to it.
abbrev pub placed : List (Option ℕ) → ℕ → Line → Instruction
placed bound own line =
    option_map_or (with_distance line.instruction) (distance_of bound own line) line.instruction

-- The instructions of all lines.
abbrev pub instructions : List (Option ℕ) → List Line → List Instruction
instructions bound lines = map (λ word. placed bound word.0 word.1) (enumerate_from 0 lines)

-- The format of the line of a word can hold its distance.
abbrev pub IsNear : List (Option ℕ) → ℕ → Line → Type 0
IsNear bound own line = IfSome (distance_of bound own line) (Reaches line.instruction)

-- The line of a word goes a distance that its format can't hold.
abbrev pub IsTooFar : List (Option ℕ) → ℕ → Line → ℤ → Type 0
IsTooFar bound own line d = (distance_of bound own line ≡ Some d) × (¬ Reaches line.instruction d)

-- The lines below an index are near.
abbrev pub AreNearBelow : List (Option ℕ) → List Line → ℕ → Type 0
AreNearBelow bound lines n = (k : ℕ) → k < n → IfSome (slice_get lines k) (IsNear bound k)

-- The line at an index is the first that is too far.
pub record IsFirstTooFar (bound : List (Option ℕ)) (lines : List Line) (k : ℕ)
    (d : ℤ) : Type 0 where
  pub far : IsSomeAnd (slice_get lines k) (λ line. IsTooFar bound k line d)
  pub first : AreNearBelow bound lines k
