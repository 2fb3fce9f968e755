-- Words that harts share in a cycle, and the first of them in a run.
use Rattle.std.specs.Prelude.{◌≡◌, ℕ, ◌+◌, ◌*◌, ◌<◌, ◌≤◌, ◌==◌, ◌&&◌, Bool, true, Option, Some}
use Rattle.std.specs.Prelude.{None, count_by}
use Rattle.fk_machine.specs.Cycle.{Machine, is_running}
use Rattle.fk_machine.specs.Run.{after}
use Rattle.fk_audit.specs.declared.access.AccessKind.{AccessKind}
use Rattle.fk_audit.specs.declared.access.AccessKind.TheVariants.{Read, Write}
use Rattle.fk_audit.specs.declared.touch.Touch.{Touch}
use Rattle.fk_audit.specs.declared.verdict.Clash.{Clash}
use Rattle.fk_audit.specs.Access.{is_kind}
use Rattle.fk_audit.specs.Touch.{touches}

abbrev pub is_of : AccessKind → ℕ → Touch → Bool
is_of kind word t = is_kind kind t.kind && (t.word == word)

-- How many harts read a word in the next cycle of a machine, or write it.
abbrev pub touching : AccessKind → Machine → ℕ → ℕ
touching kind m word = count_by (is_of kind word) (touches m)

-- A word clashes in a cycle if two or more harts touch it. The clash is of reads if all of them
-- read, and else of writes.
abbrev pub Clashes : AccessKind → Machine → ℕ → Type 0
Clashes Read m word = (2 ≤ touching Read m word) × (touching Write m word ≡ 0)
Clashes Write m word =
    (2 ≤ touching Read m word + touching Write m word) × (1 ≤ touching Write m word)

-- The first clash of a kind in at most `bound` cycles of a machine: that of the least cycle, and in
-- it of the least word. Cycles are counted from 1, so `before` is the number of those before it.
pub record IsFirst (kind : AccessKind) (m : Machine) (bound : ℕ) (clash : Clash) : Type 0 where
  pub before : ℕ
  pub word : ℕ
  pub cycle_is : clash.cycle ≡ before + 1
  pub address_is : clash.address ≡ 0x10000000 + 4 * word
  pub within : before < bound
  pub begun : is_running (after before m).stand ≡ true
  pub clashes : Clashes kind (after before m) word
  pub earlier : (n other : ℕ) → n < before → ¬ Clashes kind (after n m) other
  pub less : (other : ℕ) → other < word → ¬ Clashes kind (after before m) other

-- The first clash of a kind, or None exactly if no cycle that is begun has one.
abbrev pub IsFirstOf : AccessKind → Machine → ℕ → Option Clash → Type 0
IsFirstOf kind m bound None =
    (n word : ℕ) → n < bound → is_running (after n m).stand ≡ true
    → ¬ Clashes kind (after n m) word
IsFirstOf kind m bound (Some clash) = IsFirst kind m bound clash
