-- Touches as the code collects and marks them.
use Rattle.std.specs.Prelude.{◌≡◌, ℕ, suc, ◌+◌, ◌*◌, ◌^◌, ◌<◌, ◌≤◌, ◌==◌, ◌&&◌, nat_lt, nat_le}
use Rattle.std.specs.Prelude.{if◌then◌else◌, min, List, [], ◌∷◌, Option, Some, None, Bool, true}
use Rattle.std.specs.Prelude.{count_by, slice_index}
use Rattle.fk_isa.specs.declared.instruction.Instruction.{Instruction}
use Rattle.fk_isa.specs.Step.{HartState}
use Rattle.fk_machine.specs.declared.stand.Stand.{Stand}
use Rattle.fk_machine.specs.declared.stand.Stand.TheVariants.{Running, Finished, Faulted, Trapped}
use Rattle.fk_audit.specs.declared.access.AccessKind.{AccessKind}
use Rattle.fk_audit.specs.declared.touch.Touch.{Touch}
use Rattle.fk_audit.specs.declared.marks.Marks.{Marks}
use Rattle.fk_audit.specs.declared.verdict.Clash.{Clash}
use Rattle.fk_audit.specs.Access.{is_kind}
use Rattle.fk_audit.specs.Touch.{touch_of, with_touch}

-- What the next instruction of a hart touches, if the hart has not ended.
abbrev pub next_touch : List (Option Instruction) → ℕ → HartState → Option Touch
next_touch code number h = if h.ended then None else touch_of code number h

-- What harts touch, the first of which has this number, if all are served and none traps.
abbrev pub next_touches : List (Option Instruction) → ℕ → List HartState → List Touch
next_touches code number [] = []
next_touches code number (h ∷ hs) =
    with_touch (next_touch code number h) (next_touches code (suc number) hs)

-- Whether a hart that had not ended was served in a cycle and didn't trap, by the machine's status
-- after it.
abbrev pub is_served : Stand → ℕ → Bool
is_served Running number = true
is_served Finished number = true
is_served (Faulted site hart) number = nat_le number hart
is_served (Trapped hart pc kind) number = nat_lt number hart

-- Whether a touch is of a kind, and its hart was served.
abbrev pub is_counted : Stand → AccessKind → Touch → Bool
is_counted stand kind t = is_served stand t.hart && is_kind kind t.kind

-- How many of such touches are of a word.
abbrev pub counted : Stand → AccessKind → List Touch → ℕ → ℕ
counted stand kind touches word =
    count_by (λ t. is_counted stand kind t && (t.word == word)) touches

-- The mark of a word that was touched so many times in a cycle: the cycle's number exactly if it
-- was touched at all.
pub record IsMark (cycle count mark : ℕ) : Type 0 where
  pub touched : 1 ≤ count → mark ≡ cycle
  pub untouched : count ≡ 0 → mark < cycle

-- The least word of which a fact holds, if it holds of any.
abbrev pub IsLeast : (ℕ → Type 0) → Option ℕ → Type 0
IsLeast holds None = (word : ℕ) → ¬ holds word
IsLeast holds (Some word) =
    (word < 2 ^ 20) × holds word × ((other : ℕ) → other < word → ¬ holds other)

abbrev pub lesser : Option ℕ → ℕ → Option ℕ
lesser None word = Some word
lesser (Some least) word = Some (min least word)

abbrev pub least_of : Option ℕ → Option ℕ → Option ℕ
least_of least None = least
least_of least (Some word) = lesser least word

-- No mark is of a later cycle than this one.
pub record AreUpTo (cycle : ℕ) (marks : Marks) : Type 0 where
  pub read : (word : ℕ) → slice_index marks.read.items word ≤ cycle
  pub written : (word : ℕ) → slice_index marks.written.items word ≤ cycle

-- The first clash of a kind, where a run had this one so far, and the next cycle, of this number,
-- has a clash of this word.
abbrev pub first_of : Option Clash → ℕ → Option ℕ → Option Clash
first_of (Some clash) cycle word = Some clash
first_of None cycle None = None
first_of None cycle (Some word) =
    Some (record { cycle = cycle; address = 0x10000000 + 4 * word })
