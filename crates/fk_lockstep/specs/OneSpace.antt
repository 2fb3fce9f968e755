-- Groups whose members have one space.
use Rattle.std.specs.Prelude.{◌≡◌, ℕ, ◌≤◌, true, false, List, [], ◌∷◌, map, Option, Some, None}
use Rattle.std.specs.Prelude.{slice_get}
use Rattle.fk_num.specs.Word.{Memory}
use Rattle.fk_space.specs.Space.{Space}
use Rattle.fk_tree.specs.Tree as t
use Rattle.fk_tree.specs.Tree.{is_member}
use Rattle.fk_tree.specs.declared.node.Kind.TheVariants.{Lockstep, Waiting}
use Rattle.fk_meaning.specs.Processor.{Processor, Setting}
use Rattle.fk_meaning.specs.Round.{Step, Runner, State}
use Rattle.fk_meaning.specs.Schedule.{Schedule, opening, run, ArePossible}
use Rattle.fk_lockstep.specs.Together.{SameLevel, SameLevels}
use Rattle.fk_lockstep.specs.Course.{ByItself, Follows}
use Rattle.fk_lockstep.specs.Counts.{Counts, ArePending, IsCounted}
use Rattle.fk_lockstep.specs.Frames.{IsFramed}

-- the levels of the own group, and of each group around it, differ in `$` alone
abbrev pub HaveSameLevels : Processor → Processor → Type 0
HaveSameLevels p q = SameLevel p.level q.level × SameLevels p.outer q.outer

-- the space of the own group, and that of each group around it
abbrev pub spaces_of : Processor → List Space
spaces_of p = map (λ l. l.space) (p.level ∷ p.outer)

module _ {W : Type 0} where
  -- two members of a group in lockstep have the same levels
  abbrev pub MembersHaveOneSpace : State W → Type 0
  MembersHaveOneSpace s =
      (n g h : ℕ) (r q : Runner W) → t.kind s.tree n ≡ Some Lockstep
      → is_member g (t.members s.tree n) ≡ true → is_member h (t.members s.tree n) ≡ true
      → slice_get s.runners g ≡ Some r → slice_get s.runners h ≡ Some q
      → HaveSameLevels r.has q.has

  -- two processors that wait at one node have the same levels
  abbrev pub WaitersHaveOneSpace : State W → Type 0
  WaitersHaveOneSpace s =
      (g h first parts : ℕ) (r q : Runner W) → s.tree.places g ≡ s.tree.places h
      → t.kind s.tree (s.tree.places g) ≡ Some (Waiting first parts)
      → slice_get s.runners g ≡ Some r → slice_get s.runners h ≡ Some q
      → HaveSameLevels r.has q.has

  -- all processors at one node, also those by themselves, have the same spaces
  abbrev pub NodesHaveOneSpace : State W → Type 0
  NodesHaveOneSpace s =
      (g h : ℕ) (r q : Runner W) → s.tree.places g ≡ s.tree.places h
      → slice_get s.runners g ≡ Some r → slice_get s.runners h ≡ Some q
      → spaces_of r.has ≡ spaces_of q.has

  pub record KeepOneSpace (s : State W) : Type 0 where
    pub members : MembersHaveOneSpace s
    pub waiters : WaitersHaveOneSpace s
    pub nodes : NodesHaveOneSpace s

-- the invariant holds after a schedule of possible rounds. In the beginning no call waits, no group
-- is around that of all processors, and each processor runs by itself
abbrev pub GroupsHaveOneSpace : (W : Type 0) → Type 0
GroupsHaveOneSpace W =
    (next : W → Option (Step W)) (outs : W → List W) (program : W)
    → Follows next outs (ByItself false) program
    → (counts : Counts W) → ((p : Processor) → ArePending next outs counts program p [])
    → IsCounted next outs counts program
    → (depth : W → ℕ) → depth program ≡ 0 → IsFramed next outs depth 0 true program
    → (setting : Setting) (schedule : Schedule) (processors : ℕ) (globals input : List ℕ)
    (firsts : Memory) → 1 ≤ processors
    → ArePossible next setting schedule (opening processors globals input firsts program)
    → (run next setting schedule (opening processors globals input firsts program)).fault ≡ None
    → KeepOneSpace (run next setting schedule (opening processors globals input firsts program))
