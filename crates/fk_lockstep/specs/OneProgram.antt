-- Groups whose members have one remaining program.
use Rattle.std.specs.Prelude.{◌≡◌, ℕ, ◌≤◌, Bool, true, false, List, [], ◌∷◌, length, map, Option}
use Rattle.std.specs.Prelude.{Some, None, slice_get}
use Rattle.fk_num.specs.Word.{Memory}
use Rattle.fk_meaning_operation.specs.declared.operation.SplitKind.{SplitKind}
use Rattle.fk_meaning_operation.specs.declared.operation.Operation.TheVariants as o
use Rattle.fk_tree.specs.Tree as t
use Rattle.fk_tree.specs.Tree.{is_member}
use Rattle.fk_tree.specs.declared.node.Kind.TheVariants.{Lockstep, Waiting}
use Rattle.fk_tree.specs.Sound.{IsSound}
use Rattle.fk_meaning.specs.Processor.{Processor, Setting, values, last}
use Rattle.fk_meaning.specs.Group.{parts}
use Rattle.fk_meaning.specs.Round.{Step, Runner, State}
use Rattle.fk_meaning.specs.Schedule.{Schedule, opening, run, ArePossible}
use Rattle.fk_lockstep.specs.Course.{ByItself, Follows}
use Rattle.fk_lockstep.specs.Counts.{Counts, ArePending, IsCounted}

-- `@` and the size of a processor's group, and of each group around it
abbrev pub groups_of : Processor → List (ℕ × ℕ)
groups_of p = map (λ l. (l.number, l.size)) (p.level ∷ p.outer)

module _ {W : Type 0} (next : W → Option (Step W)) where
  -- two members of a group in lockstep have the same work left, before a branch the same last
  -- value, and before a split the same number of parts. They have the same `@` and sizes of their
  -- groups, and `groupsize()` is the number of members
  pub record AreTogether (s : State W) (n : ℕ) (r q : Runner W) : Type 0 where
    pub left : r.left ≡ q.left
    pub branch : (step : Step W) (onward : Bool) → next r.left ≡ Some step
        → step.operation ≡ o.Branch onward
        → last (values r.has) ≡ last (values q.has)
    pub divide : (step : Step W) (by : SplitKind) → next r.left ≡ Some step
        → step.operation ≡ o.Split by → parts by (values r.has) ≡ parts by (values q.has)
    pub groups : groups_of r.has ≡ groups_of q.has
    pub size : r.has.level.size ≡ length (t.members s.tree n)

  abbrev pub HaveOneProgram : State W → Type 0
  HaveOneProgram s =
      (n g h : ℕ) (r q : Runner W) → t.kind s.tree n ≡ Some Lockstep
      → is_member g (t.members s.tree n) ≡ true → is_member h (t.members s.tree n) ≡ true
      → slice_get s.runners g ≡ Some r → slice_get s.runners h ≡ Some q
      → AreTogether s n r q

  -- two processors that wait at one node have the same work left and the same groups
  abbrev pub WaitersHaveOneProgram : State W → Type 0
  WaitersHaveOneProgram s =
      (g h first parts : ℕ) (r q : Runner W) → s.tree.places g ≡ s.tree.places h
      → t.kind s.tree (s.tree.places g) ≡ Some (Waiting first parts)
      → slice_get s.runners g ≡ Some r → slice_get s.runners h ≡ Some q
      → (r.left ≡ q.left) × (groups_of r.has ≡ groups_of q.has)

  -- two processors that are about to begin the group of a `start` have the same work left
  abbrev pub BeginnersHaveOneProgram : State W → Type 0
  BeginnersHaveOneProgram s =
      (g h : ℕ) (r q : Runner W) (a b : Step W) → slice_get s.runners g ≡ Some r
      → slice_get s.runners h ≡ Some q
      → next r.left ≡ Some a → next q.left ≡ Some b → a.operation ≡ o.Begin → b.operation ≡ o.Begin
      → r.left ≡ q.left

  -- all of these hold, and each processor is at exactly one node
  pub record KeepOneProgram (processors : ℕ) (s : State W) : Type 0 where
    pub members : HaveOneProgram s
    pub waiters : WaitersHaveOneProgram s
    pub beginners : BeginnersHaveOneProgram s
    pub tree : IsSound processors s.tree

-- the invariant holds after a schedule of possible rounds
abbrev pub GroupsHaveOneProgram : (W : Type 0) → Type 0
GroupsHaveOneProgram W =
    (next : W → Option (Step W)) (outs : W → List W) (program : W)
    → Follows next outs (ByItself false) program
    → (counts : Counts W) → ((p : Processor) → ArePending next outs counts program p [])
    → IsCounted next outs counts program
    → (setting : Setting) (schedule : Schedule) (processors : ℕ) (globals input : List ℕ)
    (firsts : Memory) → 1 ≤ processors
    → ArePossible next setting schedule (opening processors globals input firsts program)
    → (run next setting schedule (opening processors globals input firsts program)).fault ≡ None
    → KeepOneProgram next processors
    (run next setting schedule (opening processors globals input firsts program))
