-- What is seen of a run: its output, some words of shared data, and its stand.
use Rattle.std.specs.Prelude.{ℕ, suc, Bool, true, false, ◌&&◌, List, [], ◌∷◌, ◌++◌, Option, Some, None, map}
use Rattle.fk_num.specs.Word.{signed_line}
use Rattle.fk_meaning.specs.Processor.{Setting}
use Rattle.fk_meaning.specs.Round.{Step, Fault, State, Round, result, is_allowed, is_possible, cut}
use Rattle.fk_meaning.specs.Schedule.{Schedule, SourceStand, stand_of}

abbrev pub Seen : Type 0
Seen = List ℕ × List ℕ × SourceStand × Bool

module _ {W : Type 0} (next : W → Option (Step W)) (set : Setting) where
  abbrev pub shown : (words : List ℕ) → (lawful : Bool) → State W → Seen
  shown words lawful s = (s.store.output, map s.store.words words, stand_of next set s, lawful)

  -- an allowed round with a fault, of which the processors up to that of the fault are left
  abbrev pub stopped : (whole : Round) → Option Fault → (words : List ℕ) → Bool → State W → Seen
  stopped whole None words lawful s = shown words false s
  stopped whole (Some fault) words lawful s =
      shown words (lawful && is_allowed next set whole s) (result next set (cut (suc fault.processor) whole) s)

  abbrev pub ended : Option Round → (words : List ℕ) → Bool → State W → Seen
  ended None words lawful s = shown words lawful s
  ended (Some whole) words lawful s = stopped whole (result next set whole s).fault words lawful s

  -- a run whose rounds are possible, and the last one stopped where a whole round with a fault is given
  abbrev pub seen_by : Bool → Schedule → Option Round → (words : List ℕ) → State W → Seen
  seen_by lawful [] whole words s = ended whole words lawful s
  seen_by lawful (round ∷ rounds) whole words s =
      seen_by (lawful && is_possible next set round s) rounds whole words (result next set round s)

  abbrev pub seen : Schedule → Option Round → (words : List ℕ) → State W → Seen
  seen rounds whole words s = seen_by true rounds whole words s

-- what is printed: a number on a line of its own, or a byte
pub data Print : Type 0 where
  Line : (number : ℕ) → Print
  Byte : (byte : ℕ) → Print

abbrev pub lines : List ℕ → List Print → List ℕ
lines bytes [] = bytes
lines bytes (Line v ∷ more) = lines (bytes ++ signed_line v) more
lines bytes (Byte b ∷ more) = lines (bytes ++ b ∷ []) more
