-- The control words of the group to come: while there is no group, nobody is at them.
use Rattle.std.specs.Prelude.{◌≡◌, ◌≢◌, ℕ, ◌+◌, ◌^◌, ◌<◌, ◌≤◌, List, length, true, is_some, ◌⊎◌}
use Rattle.fk_num.specs.Word.{Memory}
use Rattle.fk_space.specs.Space.{Space}
use Rattle.fk_tree.specs.Tree as trees
use Rattle.fk_tree.specs.Tree.{Tree}
use Rattle.fk_meaning.specs.Processor.{Setting}
use Rattle.fk_meaning.specs.Round.{State, result, is_possible}
use Rattle.fk_core.specs.declared.op.CoreOp.{CoreOp}
use Rattle.fk_core.specs.Next.{Position, next}
use Rattle.fk_image.specs.declared.Image.{Image}
use Rattle.fk_machine.specs.Cycle.{Machine, is_running, cycle, machine_opening}
use Rattle.fk_sim_nodes.specs.Source.{AllPass}
use Rattle.fk_sim_match.specs.Stage.{Stage, counts_for}
use Rattle.fk_sim_block.specs.Owner.{Commons, Doing, core_source}
use Rattle.fk_sim_block.specs.Stands.{Places}
use Rattle.fk_sim_block.specs.Node.{Nestings, IsAtRest, root_words}
use Rattle.fk_sim_block.specs.Law.{Cycles, GroupLaw}
use Rattle.fk_sim_match.specs.Nodes.{first_of}
use Rattle.fk_sim_rounds.specs.Next.{JumpsLead}
use Rattle.fk_sim_rounds.specs.After.{tree_after}
use Rattle.fk_sim_rounds.specs.Rounds.{EndsGroup}
use Rattle.fk_sim_rounds.specs.Rest.{HasNoGroup}
use Rattle.fk_sim_rounds.specs.Machines.{GoesWith, GoesToStart}

-- The header of a group in the root, of which there is one at a time, begins at one word, below the
-- words of the root.
pub record HaveOneHeader (tree : Tree) (spaces : ℕ → Space) (first : ℕ) : Type 0 where
  pub same : (g : ℕ) → g ≢ 0 → is_some (tree.nodes g) ≡ true → trees.parent tree g ≡ 0
      → first_of spaces g ≡ first
  pub within : first + 8 ≤ root_words

-- Where there is no group, nobody is at the words of the one to come.
abbrev pub IsReadyForGroup : Tree → (first : ℕ) → (control : Memory) → Type 0
IsReadyForGroup tree first control = HasNoGroup tree → IsAtRest first control

-- Nobody is at these words when the machine begins.
abbrev pub OpeningsAreReady : Type 0
OpeningsAreReady = (image : Image) (input : List ℕ) (p : ℕ) (tree : Tree) (first : ℕ)
    → IsReadyForGroup tree first (machine_opening image input p).shared.control

-- A cycle of a machine that follows a state keeps `IsReadyForGroup`, if each group stays or ends in
-- its round.
abbrev pub CyclesStayReady : Type 0
CyclesStayReady =
    (core : List CoreOp) (image : Image) (places : Places) (nestings : Nestings) (cycles : Cycles)
    (firsts : List ℕ) (main : ℕ) (setting : Setting) (spaces : ℕ → Space)
    (s : State Position) (nodes : List ℕ) (printed : List ℕ) (stages : List Stage)
    (m : Machine) (first : ℕ)
    → GroupLaw core image places nestings cycles firsts main → JumpsLead core
    → length m.harts < 2 ^ 31 → is_running m.stand ≡ true
    → (with : GoesWith core image places nestings setting spaces s nodes printed stages m)
    → is_possible (next core) setting (counts_for stages) s ≡ true
    → HaveOneHeader s.tree spaces first
    → ((did : List Doing) (shared : Commons) → AllPass (core_source core setting)
    (counts_for stages) with.followed.ps with.followed.shared did shared
    → EndsGroup s.tree did ⊎ (HasNoGroup (tree_after s.tree did) → HasNoGroup s.tree))
    → IsReadyForGroup s.tree first m.shared.control
    → IsReadyForGroup (result (next core) setting (counts_for stages) s).tree first
    (cycle m).shared.control

-- Where all processors have met at the beginning of `start`, nobody comes to these words. So nobody
-- is at them when the group begins.
abbrev pub StartsStayReady : Type 0
StartsStayReady =
    (core : List CoreOp) (image : Image) (places : Places) (nestings : Nestings) (setting : Setting)
    (spaces : ℕ → Space)
    (s : State Position) (nodes : List ℕ) (printed : List ℕ) (stages : List Stage)
    (m : Machine) (first : ℕ)
    → JumpsLead core → length m.harts < 2 ^ 31 → is_running m.stand ≡ true
    → GoesToStart core image places nestings setting spaces s nodes printed stages m
    → is_possible (next core) setting (counts_for stages) s ≡ true
    → HaveOneHeader s.tree spaces first → HasNoGroup s.tree
    → IsReadyForGroup s.tree first m.shared.control
    → IsAtRest first (cycle m).shared.control
