-- Runs of programs whose processors go through groups and bodies.
use Rattle.std.specs.Prelude.{◌≡◌, ℕ, ◌≤◌, false, true, List, [], ◌∷◌, Option, Some, None}
use Rattle.std.specs.Prelude.{slice_get, slice_index}
use Rattle.fk_num.specs.Word.{Memory}
use Rattle.fk_space.specs.Space.{IsSpace}
use Rattle.fk_tree.specs.Sound.{IsSound}
use Rattle.fk_meaning.specs.Processor.{Processor, Setting, setting_of, group_space}
use Rattle.fk_meaning_operation.specs.declared.operation.Operation.TheVariants.{Begin}
use Rattle.fk_meaning.specs.Round.{Step, Runner, State}
use Rattle.fk_meaning.specs.Schedule.{Schedule, opening, run, ArePossible}
use Rattle.fk_lockstep.specs.Course.{ByItself, Follows}
use Rattle.fk_lockstep.specs.Counts.{Counts, ArePending, IsCounted}
use Rattle.fk_lockstep.specs.Frames.{IsFramed}
use Rattle.fk_lockstep.specs.OneProgram.{HaveOneProgram, KeepOneProgram}
use Rattle.fk_lockstep.specs.OneSpace.{KeepOneSpace}
use Rattle.fk_lockstep_tree.specs.Where.{InRoot, Goes}
use Rattle.fk_lockstep_tree.specs.Placed.{HasTree}
use Rattle.fk_lockstep_tree.specs.Rounds.{IsSingle, HaveOwnSpaces}

-- in each round each processor does at most one operation
abbrev pub AreSingle : Schedule → Type 0
AreSingle [] = Unit {0}
AreSingle (round ∷ schedule) = IsSingle round × AreSingle schedule

-- two processors that are about to begin the group of a `start` are at one place
abbrev pub BeginAtOne : {W X : Type 0} → (W → Option (Step W)) → (place : W → X) → State W → Type 0
BeginAtOne {W} next place s =
    (g h : ℕ) (r q : Runner W) (a b : Step W) → slice_get s.runners g ≡ Some r
    → slice_get s.runners h ≡ Some q
    → next r.left ≡ Some a → next q.left ≡ Some b → a.operation ≡ Begin → b.operation ≡ Begin
    → place r.left ≡ place q.left

module _ {W X : Type 0} (next : W → Option (Step W)) (place : W → X) where
  -- each processor is at one node, and stands there as its operations and its levels tell; the
  -- members of each group have one program and one space; and processors that begin a group are at
  -- one place
  pub record StandsInTree (set : Setting) (s : State W) : Type 0 where
    pub sound : IsSound set.processors s.tree
    pub one_program : HaveOneProgram next s
    pub one_space : KeepOneSpace s
    pub tree : HasTree next set s
    pub beginners : BeginAtOne next place s

  -- processors stand in the tree after every schedule of possible rounds of this kind, if the words
  -- for groups are a space
  abbrev pub AlwaysInTree : (program : W) → Type 0
  AlwaysInTree program =
      (processors : ℕ) (globals firsts input : List ℕ) (schedule : Schedule)
      → let set = setting_of processors globals input in
      let first = opening processors globals input (slice_index firsts) program in
      1 ≤ processors → IsSpace (group_space set) → ArePossible next set schedule first
      → AreSingle schedule → (run next set schedule first).fault ≡ None
      → StandsInTree set (run next set schedule first)

-- after a schedule of possible rounds of this kind, the members of each group have one program and
-- one space, and each processor is where its operations have led it. This holds if a `fork` takes
-- the number of parts on which its group has agreed, and if in every run all processors have words
-- of a space in their levels
abbrev pub RunsStayInTrees : (W : Type 0) → Type 0
RunsStayInTrees W =
    (next : W → Option (Step W)) (outs : W → List W) (counts : Counts W) (depth : W → ℕ)
    (program : W) (processors : ℕ) (globals input : List ℕ) (firsts : Memory) (schedule : Schedule)
    → let set = setting_of processors globals input in
    let first = opening processors globals input firsts program in
    Follows next outs (ByItself false) program
    → ((p : Processor) → ArePending next outs counts program p [])
    → IsCounted next outs counts program → Goes next InRoot program
    → depth program ≡ 0 → IsFramed next outs depth 0 true program
    → ((before : Schedule) → HaveOwnSpaces (run next set before first)) → 1 ≤ processors
    → ArePossible next set schedule first → AreSingle schedule
    → (run next set schedule first).fault ≡ None
    → KeepOneProgram next processors (run next set schedule first)
    × KeepOneSpace (run next set schedule first)
    × HasTree next set (run next set schedule first)
