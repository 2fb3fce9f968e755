-- What is known of the states that runs of lists come to.
use Rattle.std.proofs.Common.{◌≡◌, ◌⊎◌, inl, inr, ⊎_elim, ℕ, ◌<◌, ◌≤◌, Bool, true, false, List, [], ◌∷◌, length, Option, Some, None, refl, sym, ap, ◌∙◌, subst, arith}
use Rattle.std.specs.Prelude.{slice_get, slice_index}
use Rattle.std.specs.Prelude.{All}
use Rattle.std.proofs.lemmas.List.Elements.{All-nil, All-cons}
use Rattle.fk_space.specs.Space.{Space, IsSpace}
use Rattle.fk_lockstep_frames.specs.Nests.{Nest, outward}
use Rattle.fk_lockstep_frames.specs.Lists.{told as told_nests}
use Rattle.fk_lockstep_frames.specs.Taken.{spaces_of, AreTaken}
use Rattle.fk_tree.specs.Tree as t
use Rattle.fk_tree.specs.Tree.{Tree, is_member, root}
use Rattle.fk_tree.specs.declared.node.Kind.TheVariants.{Asynchronous}
use Rattle.fk_meaning.specs.Processor.{Processor, Setting, setting_of, group_space}
use Rattle.fk_meaning.specs.Group.{goes_onward}
use Rattle.fk_meaning.specs.Round.{Step, Runner, State, Round, Acting, body_of, agreed, lowest, all_changes, settled_by, settled, result, is_possible}
use Rattle.fk_meaning.specs.Schedule.{Schedule, run, ArePossible}
use Rattle.fk_lockstep.proofs.Rounds.{settled_at}
use Rattle.fk_core.specs.declared.op.CoreOp.{CoreOp}
use Rattle.fk_core.specs.Next.{Position, position, landing, next, list_opening}
use Rattle.fk_lockstep.proofs.Round.{first_is, at_below, some_at, settled_length}
use Rattle.fk_lockstep_frames.proofs.Lists.{lists_tell_frames}
use Rattle.fk_lockstep_nodes.specs.Steps.{stepping}
use Rattle.fk_lockstep_tree.specs.Rounds.{IsSingle}
use Rattle.fk_lockstep_tree.specs.Runs.{AreSingle}
use Rattle.fk_lockstep_tree.proofs.Acts.{Acts, acts, stepping_length, result_is}
use Rattle.fk_lockstep_tree.specs.Where.{Where, InRoot, Goes}
use Rattle.fk_lockstep_tree.specs.Placed.{where_in}
use Rattle.fk_lockstep_tree.proofs.Opening.{begins_at, root_kind}
use Rattle.fk_lockstep_tree.proofs.Paths.{at_node}
use Rattle.fk_lockstep_tree.proofs.Runs.{are_all, round_by_round}
use Rattle.fk_sim_block.specs.Next.{step_at}
use Rattle.fk_sim_block.specs.Lists.{StaysInList}
use Rattle.fk_sim_rounds.specs.InRange.{ListsStayInRange}
use Rattle.fk_sim_rounds.proofs.Way.{ended_next}
use Rattle.fk_sim_block.specs.Node.{Nestings}
use Rattle.fk_sim_runs.specs.Lists.{IsOfTree}
use Rattle.fk_sim_runs.specs.Facts.{HasSpace, ReachedStatesHaveNests}
use Rattle.fk_sim_runs.specs.Reached.{the_end, RunsReach}
use Rattle.fk_sim_runs.proofs.Trees.{is_space}
use Rattle.fk_sim_runs.proofs.Levels.{levels_are_told, saves_levels}
use Rattle.fk_sim_runs.proofs.Ways.{leading, goes_within}
use Rattle.fk_sim_runs.proofs.Finds.{finds_frame}
use Rattle.fk_sim_runs.proofs.Numbers.{saves_numbers}

abbrev IsThere : List CoreOp → Position → Type 0
IsThere core w = StaysInList core w ⊎ (w ≡ the_end core)

abbrev AreThere : List CoreOp → State Position → Type 0
AreThere core s = (h : ℕ) (r : Runner Position) → slice_get s.runners h ≡ Some r → IsThere core r.left

-- each round keeps them there
module _ (core : List CoreOp) (set : Setting) (round : Round) (s : State Position) (single : IsSingle round) (possible : is_possible (next core) set round s ≡ true)
    (goes : (h : ℕ) (r : Runner Position) → slice_get s.runners h ≡ Some r → IsThere core r.left → (step : Step Position) → next core r.left ≡ Some step → (onward : Bool) → IsThere core (step.rest onward))
    (there : AreThere core s) where
  abbrev actors : List (Acting Position)
  actors = stepping (next core) set round s

  abbrev new : Tree
  new = all_changes actors s.tree actors s.tree

  settled_there : (h : ℕ) (a : Acts (next core) set round s single possible h) → IsThere core (settled_by actors s.tree new a.acting.runner a.acting.due).left
  settled_there h a =
      let here = there h a.runner a.is in
      ⊎_elim
      (λ idle. subst (λ (x : Acting Position). IsThere core (settled_by actors s.tree new x.runner x.due).left) (sym idle.0) here)
      (λ busy. ⊎_elim
      (λ moved.
      subst (λ (due : Option (Step Position)). IsThere core (settled_by actors s.tree new a.acting.runner due).left) (sym moved.due)
      (subst (IsThere core) (sym moved.left) (goes h a.runner a.is here moved.step moved.next_is moved.onward)))
      (λ d.
      let ms = t.members s.tree (s.tree.places a.runner.has.number) in
      subst (λ (x : Acting Position). IsThere core (settled_by actors s.tree new x.runner x.due).left) (sym d.is)
      (goes h a.runner a.is here d.step d.next_is (goes_onward d.step.operation (agreed actors ms) (lowest ms) a.runner.has)))
      busy.1)
      a.comes

  round_there : AreThere core (result (next core) set round s)
  round_there =
      subst (AreThere core) (sym (result_is (next core) set round s single possible))
      (λ h r at.
      let below = at_below (settled actors s.tree new actors) h r at in
      let long = settled_length actors s.tree new actors in
      let many = stepping_length (next core) set round s single possible in
      let a = acts (next core) set round s single possible h (omega (arith, below, long, many)) in
      let same : r ≡ settled_by actors s.tree new a.acting.runner a.acting.due
      = first_is r (settled_by actors s.tree new a.acting.runner a.acting.due) (sym at ∙ settled_at actors s.tree new actors h a.acting a.at) in
      subst (λ (x : Runner Position). IsThere core x.left) (sym same) (settled_there h a))

module _ (core : List CoreOp) (nestings : Nestings) (main : ℕ) (list : IsOfTree core nestings main) (words firsts input : List ℕ) (p : ℕ)
    (room : HasSpace (setting_of p words input)) where
  abbrev set : Setting
  set = setting_of p words input

  abbrev first : State Position
  first = list_opening main words firsts input p

  begin_there : AreThere core first
  begin_there h r at =
      let b = begins_at set (slice_index firsts) (position main []) 0 p h r at in
      inl (subst (StaysInList core) (sym b.left) (record { at = list.begins; callers = All-nil (λ i. i < length core) }))

  -- behind its operation
  goes_there : (schedule : Schedule) (h : ℕ) (r : Runner Position)
      → slice_get (run (next core) set schedule first).runners h ≡ Some r → IsThere core r.left → (step : Step Position) → next core r.left ≡ Some step → (onward : Bool) → IsThere core (step.rest onward)
  goes_there schedule h r at there step e onward =
      ⊎_elim
      (λ w.
      let l = leading core list.well_formed.leads_on r.left w.at in
      let same : step ≡ step_at core (landing core r.left.at) l.op l.operation r.left.callers = first_is _ _ (sym e ∙ l.is_next) in
      let may = list.may words firsts input p schedule (is_space set room) h r l.op l.operation at l.at.stands l.at.is_read in
      subst (λ (x : Step Position). IsThere core (x.rest onward)) (sym same)
      (goes_within core nestings main list (landing core r.left.at) l.op l.operation r onward l.at may w.callers))
      (λ ended. let clash : None ≡ Some step = sym (ended_next core []) ∙ ap (next core) (sym ended) ∙ e in absurd (cc)) there

  all_there : (schedule : Schedule) → ArePossible (next core) set schedule first → AreSingle schedule → (run (next core) set schedule first).fault ≡ None → AreThere core (run (next core) set schedule first)
  all_there schedule possible single none =
      round_by_round (next core) set first (AreThere core)
      (λ xs round before running' one next_possible there.
      round_there core set round (run (next core) set xs first) one next_possible (goes_there xs) there)
      [] schedule (are_all (next core) set schedule first possible none) single begin_there

pub reached_states_have_nests : ReachedStatesHaveNests
reached_states_have_nests core main frames words firsts input p schedule room h r at =
    lists_tell_frames core main frames words firsts input p schedule (is_space (setting_of p words input) room) h r at

-- `main` is gone through from the root on
main_goes : (core : List CoreOp) (nestings : Nestings) (main : ℕ) → IsOfTree core nestings main → (words firsts input : List ℕ) (p : ℕ) → 1 ≤ p → IsSpace (group_space (setting_of p words input))
    → Goes (next core) InRoot (position main [])
main_goes core nestings main list words firsts input p some space =
    let stands = list.in_tree p words firsts input [] some space tt tt refl in
    let many = stands.tree.many in
    let r = some_at (list_opening main words firsts input p).runners 0 (omega (arith, some, many)) in
    let b = begins_at (setting_of p words input) (slice_index firsts) (position main []) 0 p 0 r.0 r.1 in
    let placed = stands.tree.placed 0 r.0 r.1 in
    let runs = is_member 0 (body_of (Some (Asynchronous false)) (t.members (root p) 0)) in
    let there : where_in (length r.0.has.outer) (Some (Asynchronous false)) runs ≡ Some placed.place
    = sym (at_node (root p) 0 (length r.0.has.outer) 0 (Asynchronous false) refl (root_kind p some)) ∙ placed.there in
    let in_root : InRoot ≡ placed.place
    = first_is InRoot placed.place (subst (λ (q : Processor). where_in (length q.outer) (Some (Asynchronous false)) runs ≡ Some placed.place) b.has there) in
    subst (Goes (next core) InRoot) b.left (subst (λ (q : Where). Goes (next core) q r.0.left) (sym in_root) placed.goes)

callers_within : (core : List CoreOp) (w : Position) → IsThere core w → All (λ i. i < length core) w.callers
callers_within core w (inl within) = within.callers
callers_within core w (inr ended) = subst (λ (v : Position). All (λ i. i < length core) v.callers) (sym ended) (All-nil (λ i. i < length core))

-- the spaces of the nests of a processor
all_spaces : (nests : List Nest) (spaces : List Space) → AreTaken nests spaces → All IsSpace spaces
all_spaces nests [] taken = All-nil IsSpace
all_spaces nests (s ∷ spaces) taken = All-cons IsSpace s spaces taken.0.space (all_spaces (outward nests) spaces taken.1)

pub runs_reach : ListsStayInRange → RunsReach
runs_reach stay core nestings main list words firsts input p schedule some given possible single none =
    let setting = setting_of p words input in
    let space = is_space setting given.room in
    record {
      stands = list.in_tree p words firsts input schedule some space possible single none;
      spaces = λ h r at.
          let told = lists_tell_frames core main list.frames words firsts input p schedule space h r at in
          all_spaces (told_nests core list.frames.in_main list.frames.nests r.left) (spaces_of r.has) told.nests.spaces;
      saves = λ h r at.
          let leads = main_goes core nestings main list words firsts input p some space in
          let there = all_there core nestings main list words firsts input p given.room schedule possible single none h r at in
          saves_levels core main list.frames nestings list.levels r (levels_are_told core main list.frames leads words firsts input p schedule h r at) (callers_within core r.left there);
      numbers = λ h r at. saves_numbers core nestings main list setting r (lists_tell_frames core main list.frames words firsts input p schedule space h r at);
      within = all_there core nestings main list words firsts input p given.room schedule possible single none;
      depth = λ h r op at stands. list.well_formed.depths words firsts input p schedule possible none h r op at stands;
      may = λ h r op operation at stands is_read. list.may words firsts input p schedule space h r op operation at stands is_read;
      finds = λ h r op operation at stands is_read.
          finds_frame core nestings main list setting r (lists_tell_frames core main list.frames words firsts input p schedule space h r at) op stands operation is_read;
      in_range = λ h r at. stay core main words firsts input p schedule given h r at;
    }
