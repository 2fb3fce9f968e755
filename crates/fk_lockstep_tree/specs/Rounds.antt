-- Rounds of programs whose processors go through groups and bodies.
use Rattle.std.specs.Prelude.{◌≡◌, ◌≢◌, ℕ, ◌<◌, ◌≤◌, List, true, Option, Some, None, slice_get}
use Rattle.std.specs.Prelude.{slice_index, ◌⊎◌}
use Rattle.fk_space.specs.Space.{IsSpace}
use Rattle.fk_tree.specs.declared.node.Kind.TheVariants.{Lockstep}
use Rattle.fk_tree.specs.Tree as t
use Rattle.fk_tree.specs.Tree.{is_member}
use Rattle.fk_tree.specs.Sound.{IsSound}
use Rattle.fk_meaning.specs.Processor.{Setting}
use Rattle.fk_meaning.specs.Round.{Step, Runner, State, Round, result, is_possible}
use Rattle.fk_lockstep.specs.OneProgram.{HaveOneProgram}
use Rattle.fk_lockstep.specs.OneSpace.{MembersHaveOneSpace}
use Rattle.fk_lockstep_nodes.specs.Steps.{stepping}
use Rattle.fk_lockstep_tree.specs.Ranges.{ranges_of}
use Rattle.fk_lockstep_tree.specs.Placed.{HasTree}
use Rattle.fk_lockstep_tree.specs.Steps.{AreKnown}

-- each processor does at most one operation, as in a cycle of a machine
abbrev pub IsSingle : Round → Type 0
IsSingle round = (h : ℕ) → slice_index round h ≤ 1

-- all processors have words of a space in their level
abbrev pub HaveOwnSpaces : {W : Type 0} → State W → Type 0
HaveOwnSpaces {W} s =
    (h : ℕ) (r : Runner W) → slice_get s.runners h ≡ Some r → IsSpace r.has.level.space

module _ {W : Type 0} (next : W → Option (Step W)) (set : Setting) (round : Round)
    (s : State W) where
  -- a possible round of this kind, of a state whose groups have one program
  pub record IsRound : Type 0 where
    pub sound : IsSound set.processors s.tree
    pub one_program : HaveOneProgram next s
    pub tree : HasTree next set s
    pub single : IsSingle round
    pub possible : is_possible next set round s ≡ true

  -- a round of this kind in which the members of a group have one space, each processor has words
  -- of a space in its level, and the tree after it is sound
  pub record IsRoundInSpaces : Type 0 where
    pub base : IsRound
    pub one_space : MembersHaveOneSpace s
    pub spaces : HaveOwnSpaces s
    pub behind : IsSound set.processors (result next set round s).tree

abbrev pub RoundsAreKnown : (W : Type 0) → Type 0
RoundsAreKnown W =
    (next : W → Option (Step W)) (set : Setting) (round : Round) (s : State W)
    → IsRound next set round s → AreKnown s.tree (stepping next set round s)

abbrev pub RoundsKeepTrees : (W : Type 0) → Type 0
RoundsKeepTrees W =
    (next : W → Option (Step W)) (set : Setting) (round : Round) (s : State W)
    → IsRoundInSpaces next set round s → HasTree next set (result next set round s)

-- a node that was there before the round and is there after it has the same words
abbrev pub RangesStay : (W : Type 0) → Type 0
RangesStay W =
    (next : W → Option (Step W)) (set : Setting) (round : Round) (s : State W) (g : ℕ)
    → let behind = result next set round s in
    IsRoundInSpaces next set round s → g < s.tree.given → behind.tree.nodes g ≢ None
    → ranges_of behind g ≡ ranges_of s g

-- these processors have this count in a round
abbrev pub HaveCount : Round → (members : List ℕ) → (count : ℕ) → Type 0
HaveCount round members count = (h : ℕ) → is_member h members ≡ true → slice_index round h ≡ count

-- of a group that is in lockstep after the round, all members were in the round, or none
abbrev pub RoundsTakeGroups : (W : Type 0) → Type 0
RoundsTakeGroups W =
    (next : W → Option (Step W)) (set : Setting) (round : Round) (s : State W) (g : ℕ)
    → let behind = (result next set round s).tree in
    IsRound next set round s → t.kind behind g ≡ Some Lockstep
    → HaveCount round (t.members behind g) 1 ⊎ HaveCount round (t.members behind g) 0
