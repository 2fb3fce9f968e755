-- What a round leaves of processors, by those of the state behind it.
use Rattle.std.proofs.Common.{◌≡◌, ◌≢◌, ⊎_elim, ℕ, zero, suc, ◌+◌, ◌<◌, ◌==◌, Bool, true, false, List, [], ◌∷◌, length, Option, Some, None, refl, sym, ap, ◌∙◌, subst, arith, ◌≤◌}
use Rattle.std.specs.Prelude.{map, slice_get, slice_index}
use Rattle.std.proofs.lemmas.List.{length-map}
use Rattle.std.proofs.lemmas.Bool.{eqb-true, false≢true}
use Rattle.fk_meaning_operation.specs.Kinds.{class_of}
use Rattle.fk_meaning_operation.specs.declared.operation.Operation.TheVariants as o
use Rattle.fk_space.specs.Space.{Space}
use Rattle.fk_tree.specs.declared.node.Kind.TheVariants.{Lockstep}
use Rattle.fk_tree.specs.Tree as trees
use Rattle.fk_tree.specs.Tree.{Tree}
use Rattle.fk_tree.specs.Sound.{Has}
use Rattle.fk_tree.proofs.Shapes.{has_some}
use Rattle.fk_meaning.specs.Processor.{Setting}
use Rattle.fk_meaning.specs.Round.{Step, Runner, State, Round, Acting, all_changes, settled, body_of, is_possible}
use Rattle.fk_meaning.proofs.Natural.{runner_by, state_by}
use Rattle.fk_lockstep.proofs.Rounds.{map_at}
use Rattle.fk_core.specs.declared.op.CoreOp.{CoreOp}
use Rattle.fk_core.specs.Next.{Position, landing, next}
use Rattle.fk_sim_nodes.specs.Node.{add, of_node}
use Rattle.fk_sim_match.specs.Stage.{Stage, counts_for}
use Rattle.fk_lockstep.proofs.Round.{first_is, some_at, at_below}
use Rattle.fk_lockstep_tree.specs.Where.{Where, InRoot, InGroup, Goes}
use Rattle.fk_lockstep_nodes.specs.Steps.{stepping}
use Rattle.fk_lockstep_tree.specs.Ranges.{ranges_of}
use Rattle.fk_lockstep_tree.specs.Rounds.{IsSingle, HaveCount}
use Rattle.fk_lockstep_tree.proofs.Acts.{acts, counts_as, result_is}
use Rattle.fk_lockstep_tree.proofs.Moves.{ends_in_root}
use Rattle.fk_lockstep_tree.proofs.Paths.{at_node, lockstep_place}
use Rattle.fk_lockstep_tree.proofs.Taken.{rounds_take_groups}
use Rattle.fk_sim_block.specs.Owner.{Heaps, Owner, Doing}
use Rattle.fk_sim_block.specs.Next.{OpAt, step_at}
use Rattle.fk_sim_block.specs.Lists.{StaysInList}
use Rattle.fk_sim_block.specs.Node.{Nestings}
use Rattle.fk_sim_match.proofs.Rounds.{lockstep_kind}
use Rattle.fk_sim_rounds.specs.Next.{JumpsLead, HasRange, landed, all_landed, HasNext, AllAt, AllAbout, MayInGroup, HaveNext}
use Rattle.fk_sim_rounds.specs.After.{actings, runners_of, tree_after, owner_after, owners_after, is_halt, halts, ArePlaces}
use Rattle.fk_sim_rounds.proofs.Agreed.{place_at}
use Rattle.fk_sim_rounds.proofs.Program.{runner_at}
use Rattle.fk_sim_rounds.proofs.Way.{ended_next}
use Rattle.fk_sim_rounds.specs.Beside.{landed_runner, landed_state}
use Rattle.fk_sim_rounds.specs.Homes.{AllNext, PartsAreTold}
use Rattle.fk_sim_rounds.specs.Rounds.{IsTree}
use Rattle.fk_sim_rounds.specs.Transport.{HaveSameSpaces}
use Rattle.fk_sim_rounds.proofs.Transport.{spaced_same}
use Rattle.fk_sim_rounds.proofs.Trees.{some_there}
use Rattle.fk_sim_rounds.proofs.Landed.{landing_twice, next_landed}
use Rattle.fk_sim_rounds.proofs.Results.{cycles_are_results}
use Rattle.fk_sim_runs.specs.Lists.{IsOfTree}
use Rattle.fk_sim_runs.specs.Reached.{the_end}
use Rattle.fk_sim_runs.specs.Behind.{HadNext, behind, IsRoundOf, AreReached, spaces_in_round, ReachedRoundsGoOn}
use Rattle.fk_sim_runs.proofs.Ways.{stays_within}
use Rattle.fk_sim_runs.proofs.Nexts.{leads_to, reached_processors_have_next}
use Rattle.fk_sim_runs.proofs.Groups.{runners_length, reached_groups_have_next}
use Rattle.fk_sim_runs.proofs.Trees.{reached_trees_have_spaces}
use Rattle.fk_sim_runs.proofs.Known.{counts_single, possible_landed, steppers, actings_many}
use Rattle.fk_sim_runs.proofs.Over.{told_range, own_range, over_behind, is_round}
use Rattle.fk_sim_runs.proofs.Marked.{Marked, here, there, lands_alike, ended, here_is, there_is, Went, Goes as Gone, goes}

-- ---- lists

run_settled : (acting : List (Acting Position)) (old new : Tree) (ds : List Doing) → runners_of (map (owner_after acting old new) ds) ≡ settled acting old new (actings ds)
run_settled acting old new [] = refl
run_settled acting old new (d ∷ ds) = ap (λ l. (owner_after acting old new d).runner ∷ l) (run_settled acting old new ds)

actings_at : (ds : List Doing) (h : ℕ) (d : Doing) → slice_get ds h ≡ Some d → slice_get (actings ds) h ≡ Some d.acting
actings_at ds h d at = map_at (λ (x : Doing). x.acting) ds h d at

actings_length : (ds : List Doing) → length (actings ds) ≡ length ds
actings_length [] = refl
actings_length (d ∷ ds) = ap suc (actings_length ds)

-- these runners, with the heaps of owners
abbrev seated : List (Runner Position) → List Owner → List Owner
seated (r ∷ rs) (p ∷ ps) = let q : Owner = record { runner = r; heap = p.heap } in q ∷ seated rs ps
seated [] ps = []
seated (r ∷ rs) [] = []

seated_runners : (rs : List (Runner Position)) (ps : List Owner) → length rs ≡ length ps → runners_of (seated rs ps) ≡ rs
seated_runners [] [] many = refl
seated_runners (r ∷ rs) (p ∷ ps) many = ap (λ l. r ∷ l) (seated_runners rs ps (omega (arith, many)))
seated_runners [] (p ∷ ps) many = absurd (omega (arith, many))
seated_runners (r ∷ rs) [] many = absurd (omega (arith, many))

module _ (core : List CoreOp) (leads : JumpsLead core) where
  -- landed owners are the same where their landed runners are
  landed_alike : (m : Runner Marked) (heap : Heaps)
      → let p : Owner = record { runner = runner_by here m; heap = heap } in
      let q : Owner = record { runner = runner_by (there core leads) m; heap = heap } in landed core p ≡ landed core q
  landed_alike m heap = ap (λ (w : Position). let r : Runner Position = record { left = w; has = m.has } in let p : Owner = record { runner = r; heap = heap } in p) (sym (lands_alike core leads m.left))

  seated_alike : (ms : List (Runner Marked)) (ps : List Owner) → runners_of ps ≡ map (runner_by (there core leads)) ms
      → all_landed core (seated (map (runner_by here) ms) ps) ≡ all_landed core ps
  seated_alike [] [] same = refl
  seated_alike (m ∷ ms) (p ∷ ps) same =
      let first : p.runner ≡ runner_by (there core leads) m = cc in
      let rest : runners_of ps ≡ map (runner_by (there core leads)) ms = cc in
      ap (λ q. q ∷ all_landed core (seated (map (runner_by here) ms) ps))
      (landed_alike m p.heap ∙ ap (λ r. let q : Owner = record { runner = r; heap = p.heap } in landed core q) (sym first))
      ∙ ap (λ l. landed core p ∷ l) (seated_alike ms ps rest)
  seated_alike [] (p ∷ ps) same = absurd (cc)
  seated_alike (m ∷ ms) [] same = absurd (cc)

  landed_add : (b : Bool) (p : Owner) (ps qs : List Owner) → all_landed core ps ≡ qs → all_landed core (add b p ps) ≡ add b (landed core p) qs
  landed_add true p ps qs e = ap (λ l. landed core p ∷ l) e
  landed_add false p ps qs e = e

  landed_node : (g : ℕ) (nodes : List ℕ) (ps : List Owner) → all_landed core (of_node g nodes ps) ≡ of_node g nodes (all_landed core ps)
  landed_node g [] ps = refl
  landed_node g (n ∷ nodes) [] = refl
  landed_node g (n ∷ nodes) (p ∷ ps) = landed_add (n == g) p (of_node g nodes ps) (of_node g nodes (all_landed core ps)) (landed_node g nodes ps)

-- those of a node are at one index where others are
at_add : (i j : ℕ) (b : Bool) (p q : Owner) (ps qs : List Owner) → AllAt i (add b p ps) → (b ≡ true → p.runner.left.at ≡ i → q.runner.left.at ≡ j) → (AllAt i ps → AllAt j qs)
    → AllAt j (add b q qs)
at_add i j true p q ps qs all first others = (first refl all.0, others all.1)
at_add i j false p q ps qs all first others = others all

at_by : (g i j : ℕ) (nodes : List ℕ) (ps qs : List Owner) → length ps ≡ length qs → AllAt i (of_node g nodes ps)
    → ((k : ℕ) (p q : Owner) → slice_get nodes k ≡ Some g → slice_get ps k ≡ Some p → slice_get qs k ≡ Some q → p.runner.left.at ≡ i → q.runner.left.at ≡ j) → AllAt j (of_node g nodes qs)
at_by g i j [] ps qs many all each = tt
at_by g i j (n ∷ nodes) [] [] many all each = tt
at_by g i j (n ∷ nodes) (p ∷ ps) (q ∷ qs) many all each =
    at_add i j (n == g) p q (of_node g nodes ps) (of_node g nodes qs) all (λ e. each 0 p q (ap (λ x. Some x) (eqb-true n g e)) refl refl)
    (λ rest. at_by g i j nodes ps qs (omega (arith, many)) rest (λ k. each (suc k)))
at_by g i j (n ∷ nodes) [] (q ∷ qs) many all each = absurd (omega (arith, many))
at_by g i j (n ∷ nodes) (p ∷ ps) [] many all each = absurd (omega (arith, many))

all_next : (core : List CoreOp) (nestings : Nestings) (setting : Setting) (tree : Tree) (number : ℕ) (afters : List (Option Stage)) (ds : List Doing) (ps : List Owner)
    → length afters ≡ length ds → length ps ≡ length ds
    → ((i : ℕ) (d : Doing) (p : Owner) → slice_get afters i ≡ Some None → slice_get ds i ≡ Some d → slice_get ps i ≡ Some p → halts d.acting.due ≡ false
    → HasNext core nestings setting tree (number + i) (landed core p)) → AllNext core nestings setting tree number afters ds ps
all_next core nestings setting tree number [] [] [] many long each = tt
all_next core nestings setting tree number (a ∷ afters) (d ∷ ds) (p ∷ ps) many long each = (
  (λ e more.
      let none : number + 0 ≡ number = omega arith in
      subst (λ j. HasNext core nestings setting tree j (landed core p)) none (each 0 d p (ap (λ x. Some x) e) refl refl more)),
  all_next core nestings setting tree (suc number) afters ds ps (omega (arith, many)) (omega (arith, long))
      (λ i c q gone at at' more.
      let next_one : number + suc i ≡ suc number + i = omega arith in
      subst (λ j. HasNext core nestings setting tree j (landed core q)) next_one (each (suc i) c q gone at at' more)),
)
all_next core nestings setting tree number [] (d ∷ ds) ps many long each = absurd (omega (arith, many))
all_next core nestings setting tree number (a ∷ afters) [] ps many long each = absurd (omega (arith, many))
all_next core nestings setting tree number [] [] (p ∷ ps) many long each = absurd (omega (arith, long))
all_next core nestings setting tree number (a ∷ afters) (d ∷ ds) [] many long each = absurd (omega (arith, long))

had_at : (core : List CoreOp) (afters : List (Option Stage)) (rs : List (Runner Position)) → HadNext core afters rs → (i : ℕ) (r : Runner Position) → slice_get afters i ≡ Some None → slice_get rs i ≡ Some r
    → next core r.left ≢ None
had_at core [] [] had i r gone at = absurd (cc)
had_at core (a ∷ afters) (q ∷ rs) had zero r gone at =
    let same : q ≡ r = first_is q r at in
    subst (λ (x : Runner Position). next core x.left ≢ None) same (had.0 (first_is a None gone))
had_at core (a ∷ afters) (q ∷ rs) had (suc i) r gone at = had_at core afters rs had.1 i r gone at
had_at core [] (q ∷ rs) had i r gone at = absurd had
had_at core (a ∷ afters) [] had i r gone at = absurd had

had_many : (core : List CoreOp) (afters : List (Option Stage)) (rs : List (Runner Position)) → HadNext core afters rs → length afters ≡ length rs
had_many core [] [] had = refl
had_many core (a ∷ afters) (r ∷ rs) had = ap suc (had_many core afters rs had.1)
had_many core [] (r ∷ rs) had = absurd had
had_many core (a ∷ afters) [] had = absurd had

-- all have the words of their nodes
all_told : (tree : Tree) (spaces : ℕ → Space) (number : ℕ) (ds : List Doing) (ps : List Owner) → length ps ≡ length ds
    → ((i : ℕ) (p : Owner) → slice_get ps i ≡ Some p → HasRange (spaces (tree.places (number + i))) p.runner.has.level.space) → PartsAreTold tree spaces number ds ps
all_told tree spaces number [] [] many each = tt
all_told tree spaces number (d ∷ ds) (p ∷ ps) many each =
    let none : number + 0 ≡ number = omega arith in (
      (λ enters. subst (λ j. HasRange (spaces (tree.places j)) p.runner.has.level.space) none (each 0 p refl)),
      all_told tree spaces (suc number) ds ps (omega (arith, many))
          (λ i q at.
          let next_one : number + suc i ≡ suc number + i = omega arith in
          subst (λ j. HasRange (spaces (tree.places j)) q.runner.has.level.space) next_one (each (suc i) q at)),
    )
all_told tree spaces number [] (p ∷ ps) many each = absurd (omega (arith, many))
all_told tree spaces number (d ∷ ds) [] many each = absurd (omega (arith, many))

-- ---- one round

module _ (core : List CoreOp) (nestings : Nestings) (main : ℕ) (setting : Setting) (s : State Position) (stages : List Stage) (did : List Doing) (list : IsOfTree core nestings main)
    (reached : AreReached core setting s stages nestings) (round : IsRoundOf core setting s stages did) where
  abbrev counts : Round
  counts = counts_for stages

  abbrev last : State Position
  last = behind core setting s stages

  abbrev to : Marked → Position
  to = there core list.jumps

  pub single : IsSingle counts
  single = counts_single stages round.singles

  abbrev marks : State Marked
  marks = ended core list.jumps setting counts s

  abbrev owners : List Owner
  owners = owners_after s.tree last.tree did

  last_is : last ≡ state_by here marks
  last_is = here_is core list.jumps setting counts s

  pub landing_possible : is_possible (next core) setting counts (landed_state core s) ≡ true
  landing_possible = possible_landed core list.jumps setting s counts round.possible

  pub actors_are : stepping (next core) setting counts (landed_state core s) ≡ actings did
  actors_are = steppers core setting stages s round.ps did round.shared round.shared' round.order round.beside round.singles round.passes

  owners_run : runners_of owners ≡ map (runner_by to) marks.runners
  owners_run =
      let tree = (cycles_are_results core setting stages s round.ps did round.shared round.shared' list.jumps round.order round.beside round.singles round.passes).tree in
      ap (λ (t : Tree). runners_of (owners_after s.tree t did)) tree ∙ run_settled (actings did) s.tree (tree_after s.tree did) did
      ∙ ap (λ l. settled l s.tree (all_changes l s.tree l s.tree) l) (sym actors_are)
      ∙ sym (ap (λ (u : State Position). u.runners) (result_is (next core) setting counts (landed_state core s) single landing_possible))
      ∙ ap (λ (u : State Position). u.runners) (there_is core list.jumps setting counts s)

  pub many : length s.runners ≡ setting.processors
  many = reached.before.stands.tree.many

  pub did_many : length did ≡ setting.processors
  did_many =
      sym (actings_length did)
      ∙ actings_many core list.jumps setting stages s round.ps did round.shared round.shared' round.order round.beside round.singles round.possible round.passes ∙ many

  owners_many : length owners ≡ setting.processors
  owners_many = length-map did (owner_after (actings did) s.tree last.tree) ∙ did_many

  -- a processor before the round and behind it, and its owner
  record Stood (h : ℕ) : Type 0 where
    before : Runner Position
    was : slice_get s.runners h ≡ Some before
    mark : Runner Marked
    gone : Gone core list.jumps setting counts s single round.possible h before mark
    after : slice_get last.runners h ≡ Some (runner_by here mark)
    owner : Owner
    owns : slice_get owners h ≡ Some owner
    runs : owner.runner ≡ runner_by to mark

  stood : (h : ℕ) → h < setting.processors → Stood h
  stood h lt =
      let r = some_at s.runners h (omega (arith, lt, many)) in
      let m = goes core list.jumps setting counts s single round.possible h r.0 (at_below s.runners h r.0 r.1) r.1 in
      let o' = some_at owners h (omega (arith, lt, owners_many)) in
      record {
        before = r.0;
        was = r.1;
        mark = m.0;
        gone = m.2;
        after = ap (λ (u : State Position). slice_get u.runners h) last_is ∙ map_at (runner_by here) marks.runners h m.0 m.1;
        owner = o'.0;
        owns = o'.1;
        runs = first_is o'.0.runner (runner_by to m.0)
            (sym (runner_at owners h o'.0 o'.1) ∙ ap (λ l. slice_get l h) owners_run ∙ map_at (runner_by to) marks.runners h m.0 m.1);
      }

  -- its operation was no halt, where what it did is none
  no_halt : (h : ℕ) (st : Stood h) (w : Went core list.jumps setting counts s single round.possible h st.before st.mark) → h < setting.processors
      → (d : Doing) → slice_get did h ≡ Some d → halts d.acting.due ≡ false → w.step.operation ≢ o.Halt
  no_halt h st w lt d at more is_halted =
      let size = length-map s.runners (landed_runner core) in
      let below : h < length (map (landed_runner core) s.runners) = omega (arith, lt, many, size) in
      let b = acts (next core) setting counts (landed_state core s) single landing_possible h below in
      let runner : b.runner ≡ landed_runner core st.before = first_is b.runner (landed_runner core st.before) (sym b.is ∙ map_at (landed_runner core) s.runners h st.before st.was) in
      let next_is : next core b.runner.left ≡ Some w.step = ap (λ (q : Runner Position). next core q.left) runner ∙ next_landed core list.jumps st.before.left ∙ w.next_is in
      let same : b.acting ≡ d.acting = first_is b.acting d.acting (sym b.at ∙ ap (λ l. slice_get l h) actors_are ∙ actings_at did h d at) in
      ⊎_elim
      (λ idle. ⊎_elim
      (λ zero_is. let both : 0 ≡ 1 = sym (counts_as (next core) setting counts (landed_state core s) single landing_possible h b ∙ zero_is) ∙ w.one in omega (arith, both))
      (λ none. let clash : None ≡ Some w.step = sym none ∙ next_is in cc) idle.1)
      (λ busy. ⊎_elim
      (λ moved.
      let step : moved.step ≡ w.step = first_is moved.step w.step (sym moved.next_is ∙ next_is) in
      moved.plain (ap (λ (x : Step Position). class_of x.operation) step ∙ ap class_of is_halted))
      (λ due.
      let step : due.step ≡ w.step = first_is due.step w.step (sym due.next_is ∙ next_is) in
      let due_is : d.acting.due ≡ Some due.step = sym (ap (λ (x : Acting Position). x.due) same) ∙ ap (λ (x : Acting Position). x.due) due.is in
      false≢true (sym more ∙ ap halts due_is ∙ ap (λ (x : Step Position). is_halt x.operation) step ∙ ap is_halt is_halted))
      busy.1)
      b.comes

  -- so it is not at its end
  is_going : (h : ℕ) (st : Stood h) → h < setting.processors → next core st.before.left ≢ None → (d : Doing) → slice_get did h ≡ Some d → halts d.acting.due ≡ false → here st.mark.left ≢ the_end core
  is_going h st lt had d at more ends =
      ⊎_elim
      (λ stays. had (ap (next core) (sym (ap here stays.left) ∙ ends) ∙ ended_next core []))
      (λ w.
      let starts : st.before.left ≢ the_end core = λ e. had (ap (next core) e ∙ ended_next core []) in
      let l = leads_to core nestings main setting s list reached.before h st.before st.was starts in
      let i = landing core st.before.left.at in
      let step : w.step ≡ step_at core i l.op l.operation st.before.left.callers = first_is w.step (step_at core i l.op l.operation st.before.left.callers) (sym w.next_is ∙ l.is_next) in
      let no = no_halt h st w lt d at more in
      let may = reached.before.may h st.before l.op l.operation st.was l.at.stands l.at.is_read in
      let was : StaysInList core st.before.left = ⊎_elim (λ x. x) (λ e. absurd (starts e)) (reached.before.within h st.before st.was) in
      let is = stays_within core nestings main list i l.op l.operation st.before w.onward l.at may was.callers (λ e. no (ap (λ (x : Step Position). x.operation) step ∙ e)) in
      let goes_there : StaysInList core (w.step.rest w.onward) = subst (λ (x : Step Position). StaysInList core (x.rest w.onward)) (sym step) is in
      let end : w.step.rest w.onward ≡ the_end core = sym (ap here w.left) ∙ ends in
      let at_end : (w.step.rest w.onward).at ≡ length core = ap (λ (v : Position). v.at) end in
      let within : (w.step.rest w.onward).at < length core = goes_there.at in
      omega (arith, at_end, within))
      st.gone

  has_next : (h : ℕ) (st : Stood h) → h < setting.processors → next core st.before.left ≢ None → (d : Doing) → slice_get did h ≡ Some d → halts d.acting.due ≡ false
      → HasNext core nestings setting last.tree h (landed core st.owner)
  has_next h st lt had d at more =
      let r = runner_by here st.mark in
      let have = reached_processors_have_next core nestings main setting last h r st.owner.heap list reached.after st.after (is_going h st lt had d at more) in
      subst (HasNext core nestings setting last.tree h)
      (landed_alike core list.jumps st.mark st.owner.heap ∙ ap (λ x. let q : Owner = record { runner = x; heap = st.owner.heap } in landed core q) (sym st.runs)) have

  pub ahead : (afters : List (Option Stage)) → HadNext core afters s.runners → AllNext core nestings setting last.tree 0 afters did owners
  ahead afters had =
      all_next core nestings setting last.tree 0 afters did owners (had_many core afters s.runners had ∙ many ∙ sym did_many) (owners_many ∙ sym did_many)
      (λ i d p gone at at' more.
      let below = at_below did i d at in
      let lt : i < setting.processors = omega (arith, below, did_many) in
      let st = stood i lt in
      let same : st.owner ≡ p = first_is st.owner p (sym st.owns ∙ at') in
      let none : 0 + i ≡ i = omega arith in
      subst (λ j. HasNext core nestings setting last.tree j (landed core p)) (sym none)
      (subst (λ (q : Owner). HasNext core nestings setting last.tree i (landed core q)) same (has_next i st lt (had_at core afters s.runners had i st.before gone st.was) d at more)))

  -- ---- the words of nodes

  abbrev words : ℕ → Space
  words = spaces_in_round core setting s stages

  same_words : HaveSameSpaces last.tree words (ranges_of last)
  same_words = over_behind core nestings main setting stages s list reached.before reached.after round.singles round.possible

  pub tree_behind : IsTree setting last.tree words
  tree_behind =
      let t = reached_trees_have_spaces core nestings setting last reached.after in
      record { sound = t.sound; spaced = spaced_same last.tree (ranges_of last) words (λ g some. sym (same_words g some)) t.spaced }

  -- a processor has those of its node
  has_words : (h : ℕ) (st : Stood h) → h < setting.processors → HasRange (words (last.tree.places h)) st.owner.runner.has.level.space
  has_words h st lt =
      let r = runner_by here st.mark in
      let n = last.tree.places h in
      let there = some_there (last.tree.nodes n) (has_some last.tree n h (reached.after.stands.sound.placed h lt).member) in
      subst (λ (q : Runner Position). HasRange (words n) q.has.level.space) (sym st.runs)
      (told_range (words n) r.has.level.space (same_words n there ∙ own_range core nestings setting last h r reached.after st.after lt))

  pub parts_behind : PartsAreTold last.tree words 0 did owners
  parts_behind =
      all_told last.tree words 0 did owners (owners_many ∙ sym did_many)
      (λ i p at.
      let below = at_below owners i p at in
      let lt : i < setting.processors = omega (arith, below, owners_many) in
      let st = stood i lt in
      let none : 0 + i ≡ i = omega arith in
      subst (λ j. HasRange (words (last.tree.places j)) p.runner.has.level.space) (sym none)
      (subst (λ (q : Owner). HasRange (words (last.tree.places i)) q.runner.has.level.space) (first_is st.owner p (sym st.owns ∙ at)) (has_words i st lt)))

  -- a group: all were in the round, or none
  module _ (nodes : List ℕ) (places : ArePlaces last.tree 0 nodes) (few : length nodes ≡ setting.processors) (limit : setting.processors ≤ 1024) (g : ℕ) (locked : trees.kind last.tree g ≡ Some Lockstep) where
    abbrev seats : List Owner
    seats = seated last.runners owners

    seats_run : last.runners ≡ runners_of seats
    seats_run = sym (seated_runners last.runners owners (reached.after.stands.tree.many ∙ sym owners_many))

    have : HaveNext core nestings (of_node g nodes seats)
    have = reached_groups_have_next core nestings main setting last nodes seats g list reached.after limit places few seats_run locked

    same_landed : all_landed core (of_node g nodes seats) ≡ all_landed core (of_node g nodes owners)
    same_landed =
        landed_node core list.jumps g nodes seats
        ∙ ap (of_node g nodes) (ap (λ (u : State Position). all_landed core (seated u.runners owners)) last_is ∙ seated_alike core list.jumps marks.runners owners owners_run)
        ∙ sym (landed_node core list.jumps g nodes owners)

    -- of one of its members
    record Sits (k : ℕ) (p q : Owner) : Type 0 where
      st : Stood k
      member : Has last.tree g k
      seat : p.runner ≡ runner_by here st.mark
      owner : q.runner ≡ runner_by to st.mark
      depth : ℕ
      goes_in : Goes (next core) (InGroup depth) (here st.mark.left)

    sits : (k : ℕ) (p q : Owner) → slice_get nodes k ≡ Some g → slice_get seats k ≡ Some p → slice_get owners k ≡ Some q → Sits k p q
    sits k p q node at at' =
        let below = at_below nodes k g node in
        let lt : k < setting.processors = omega (arith, below, few) in
        let st = stood k lt in
        let none : 0 + k ≡ k = omega arith in
        let place : last.tree.places k ≡ g
        = sym (first_is g (last.tree.places (0 + k)) (sym node ∙ place_at last.tree 0 k nodes places below) ∙ ap last.tree.places none) in
        let placed = reached.after.stands.tree.placed k (runner_by here st.mark) st.after in
        let above = length st.mark.has.outer in
        let runs = trees.is_member k (body_of (Some Lockstep) (trees.members last.tree g)) in
        let in_group = lockstep_place above runs placed.place (sym (at_node last.tree k above g Lockstep place locked) ∙ placed.there) in
        record {
          st = st;
          member = subst (λ (n : ℕ). Has last.tree n k) place (reached.after.stands.sound.placed k lt).member;
          seat = first_is p.runner (runner_by here st.mark) (sym (runner_at seats k p at) ∙ ap (λ l. slice_get l k) (sym seats_run) ∙ st.after);
          owner = ap (λ (x : Owner). x.runner) (first_is q st.owner (sym at' ∙ st.owns)) ∙ st.runs;
          depth = in_group.depth;
          goes_in = subst (λ (w : Where). Goes (next core) w (here st.mark.left)) in_group.is placed.goes;
        }

    -- who was in the round is where the state has it
    one_at : (k : ℕ) (p q : Owner) → Sits k p q → slice_index counts k ≡ 1 → q.runner.left.at ≡ p.runner.left.at
    one_at k p q x one =
        let same : to x.st.mark.left ≡ here x.st.mark.left
        = ⊎_elim
        (λ stays. ⊎_elim
        (λ zero_is. let both : 0 ≡ 1 = sym zero_is ∙ one in absurd (omega (arith, both)))
        (λ none.
        let clash : InGroup x.depth ≡ InRoot = ends_in_root (next core) (InGroup x.depth) (here x.st.mark.left) x.goes_in (ap (λ m. next core (here m)) stays.left ∙ none) in absurd (cc)) stays.idle)
        (λ w. ap to w.left ∙ sym (ap here w.left))
        x.st.gone in
        ap (λ (r : Runner Position). r.left.at) x.owner ∙ ap (λ (w : Position). w.at) same ∙ sym (ap (λ (r : Runner Position). r.left.at) x.seat)

    -- and who wasn't is where jumps lead it
    none_at : (k : ℕ) (p q : Owner) → Sits k p q → slice_index counts k ≡ 0 → q.runner.left.at ≡ landing core p.runner.left.at
    none_at k p q x none =
        let same : (to x.st.mark.left).at ≡ landing core (here x.st.mark.left).at
        = ⊎_elim
        (λ stays. ap (λ m. (to m).at) stays.left ∙ sym (ap (λ m. landing core (here m).at) stays.left))
        (λ w. let both : 0 ≡ 1 = sym none ∙ w.one in absurd (omega (arith, both)))
        x.st.gone in
        ap (λ (r : Runner Position). r.left.at) x.owner ∙ same ∙ sym (ap (λ (r : Runner Position). landing core r.left.at) x.seat)

    go_on : (j : ℕ) → landing core j ≡ landing core have.at → AllAt j (of_node g nodes owners) → HaveNext core nestings (of_node g nodes owners)
    go_on j lands at = record {
      at = j;
      all_at = at;
      op = have.op;
      operation = have.operation;
      stands = subst (λ (i : ℕ). OpAt core i have.op have.operation) (sym lands) have.stands;
      about = subst (λ (i : ℕ). AllAbout i have.op have.operation (all_landed core (of_node g nodes owners))) (sym lands)
          (subst (AllAbout (landing core have.at) have.op have.operation) same_landed have.about);
      may = subst (MayInGroup nestings have.operation) same_landed have.may;
    }

    seats_many : length seats ≡ length owners
    seats_many = sym (runners_length seats) ∙ ap (λ l. length l) (sym seats_run) ∙ reached.after.stands.tree.many ∙ sym owners_many

    group_goes_on : HaveNext core nestings (of_node g nodes owners)
    group_goes_on =
        ⊎_elim
        (λ (all : HaveCount counts (trees.members last.tree g) 1).
        go_on have.at refl
        (at_by g have.at have.at nodes seats owners seats_many have.all_at
        (λ k p q node at at' e. let x = sits k p q node at at' in one_at k p q x (all k x.member) ∙ e)))
        (λ (none : HaveCount counts (trees.members last.tree g) 0).
        go_on (landing core have.at) (landing_twice core list.jumps have.at)
        (at_by g have.at (landing core have.at) nodes seats owners seats_many have.all_at
        (λ k p q node at at' e. let x = sits k p q node at at' in none_at k p q x (none k x.member) ∙ ap (landing core) e)))
        (rounds_take_groups Position (next core) setting counts s g (is_round core nestings setting stages s reached.before round.singles round.possible) locked)

pub reached_rounds_go_on : ReachedRoundsGoOn
reached_rounds_go_on core nestings main setting s stages afters did list limit reached round had = record {
  tree = tree_behind core nestings main setting s stages did list reached round;
  parts = parts_behind core nestings main setting s stages did list reached round;
  ahead = ahead core nestings main setting s stages did list reached round afters had;
  groups = λ nodes places few g lock committed.
      group_goes_on core nestings main setting s stages did list reached round nodes places few limit g (lockstep_kind (trees.kind (behind core setting s stages).tree g) lock);
}
