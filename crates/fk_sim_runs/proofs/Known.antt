-- The rounds of machines are known ones.
use Rattle.std.proofs.Common.{◌≡◌, ◌≢◌, ◌⊎◌, inl, inr, ⊎_elim, ℕ, zero, suc, ◌+◌, ◌≤◌, ◌<◌, ◌&&◌, ◌==◌, true, false, List, [], ◌∷◌, map, length, slice_get, Option, Some, None, refl, sym, ap, ◌∙◌, subst, arith, eq-eqb}
use Rattle.std.specs.Prelude.{is_none}
use Rattle.std.proofs.lemmas.Bool.{cond-true}
use Rattle.std.proofs.lemmas.List.{length-map}
use Rattle.fk_space.specs.Space.{Space}
use Rattle.fk_meaning_operation.specs.declared.operation.Operation.{Operation}
use Rattle.fk_meaning_operation.specs.declared.operation.Operation.TheVariants as o
use Rattle.fk_tree.specs.Tree as trees
use Rattle.fk_tree.specs.Tree.{Tree}
use Rattle.fk_tree.specs.Sound.{IsSound}
use Rattle.fk_tree.proofs.Lists.{below-has}
use Rattle.fk_meaning.specs.Processor.{Processor, Setting}
use Rattle.fk_meaning.specs.Round.{Runner, State, Round, Phases, Acting, lowest, result, is_allowed, is_possible}
use Rattle.fk_core.specs.declared.op.CoreOp.{CoreOp}
use Rattle.fk_core.specs.Next.{Position, position, landing, next}
use Rattle.fk_sim_nodes.specs.Source.{AllPass}
use Rattle.fk_sim_match.specs.Stage.{Stage, distance, operations_of, count_for, counts_for, AllDoOne}
use Rattle.fk_lockstep.specs.OneProgram.{AreTogether, HaveOneProgram}
use Rattle.fk_lockstep.proofs.Round.{first_is}
use Rattle.fk_lockstep_nodes.specs.Steps.{KeepsOrDoes, StepsBy, only, stepping}
use Rattle.fk_lockstep_tree.specs.Where.{Where, GoesNext, GoesFor, Goes}
use Rattle.fk_lockstep_tree.specs.Ranges.{range_of, level_of, has_of, ranges_of}
use Rattle.fk_lockstep_tree.specs.Placed.{IsPlaced, IsInTree, HasTree}
use Rattle.fk_lockstep_tree.specs.Steps.{StepFits, AreKnown}
use Rattle.fk_lockstep_tree.specs.Rounds.{IsSingle}
use Rattle.fk_lockstep_tree.proofs.Acts.{stepping_length}
use Rattle.fk_lockstep_tree.proofs.Known.{rounds_are_known}
use Rattle.fk_sim_block.specs.Owner.{Commons, Owner, Doing, core_source}
use Rattle.fk_sim_rounds.specs.After.{actings}
use Rattle.fk_sim_rounds.specs.Next.{JumpsLead}
use Rattle.fk_sim_rounds.specs.Rounds.{AllStandIn, StepIsKnown, IsKnownRound}
use Rattle.fk_sim_rounds.specs.Beside.{landed_runner, landed_state, AreInOrder, IsBeside}
use Rattle.fk_sim_rounds.proofs.Landed.{next_landed, results_land, allowed_land}
use Rattle.fk_sim_rounds.proofs.Results.{actings_same, all_passed}
use Rattle.fk_sim_runs.specs.Facts.{BeginsGroup, ReachedRoundsAreKnown}

-- ---- counts of machines

count_single : (n : ℕ) (d : Option ℕ) → n ≡ 1 → count_for n d ≤ 1
count_single n None one = omega arith
count_single n (Some zero) one = omega (arith, one)
count_single n (Some (suc d)) one = omega arith

pub counts_single : (stages : List Stage) → AllDoOne stages → IsSingle (counts_for stages)
counts_single [] ones h = omega arith
counts_single (s ∷ stages) ones zero = count_single (operations_of s) (distance s) ones.0
counts_single (s ∷ stages) ones (suc h) = counts_single stages ones.1 h

-- ---- those who step, as machines have them

abbrev IsKnown : Tree → List Doing → Type 0
IsKnown tree ds = IsKnownRound tree ds ⊎ BeginsGroup tree ds

-- each step that fits is known, but the beginning of a group
known_step : (tree : Tree) (g : ℕ) (op : Operation) → op ≢ o.Begin → StepFits tree g op → AllStandIn tree g → StepIsKnown tree g op
known_step tree g o.Begin other fits stand = absurd (other refl)
known_step tree g o.Resume other fits stand = (fits, stand)
known_step tree g (o.Split by) other fits stand = fits
known_step tree g o.Shrink other fits stand = fits
known_step tree g o.Farm other fits stand = fits
known_step tree g o.Seq other fits stand = fits
known_step tree g o.End other fits stand = fits
known_step tree g (o.Meet true) other fits stand = (fits.1, stand)
known_step tree g (o.Meet false) other fits stand = absurd fits
known_step tree g op other fits stand = absurd fits

begins_or_not : (d : Option Operation) → (d ≡ Some o.Begin) ⊎ (d ≢ Some o.Begin)
begins_or_not (Some o.Begin) = inl refl
begins_or_not (Some op) = inr (λ e. absurd (cc))
begins_or_not None = inr (λ e. absurd (cc))

-- where all are at one node, only its step counts
steps_there : (tree : Tree) (g : ℕ) (op : Operation) (does : ℕ → Option Operation) (number : ℕ) (actings : List (Acting Position)) → does g ≡ Some op
    → ((h : ℕ) → h < number + length actings → tree.places h ≡ g) → StepsBy tree does number actings → StepsBy tree (only g op) number actings
steps_there tree g op does number [] is stand steps = tt
steps_there tree g op does number (a ∷ actings) is stand steps =
    let at = stand number (omega arith) in
    let same : does (tree.places number) ≡ only g op (tree.places number)
    = ap does at ∙ is ∙ sym (cond-true (tree.places number == g) (Some op) None (eq-eqb (tree.places number) g at)) in (
      steps.0,
      subst (λ (d : Option Operation). KeepsOrDoes d a.due) same steps.1,
      steps_there tree g op does (suc number) actings is (λ h lt. stand h (omega (arith, lt))) steps.2,
    )

module _ (p : ℕ) (tree : Tree) (sound : IsSound p tree) (ds : List Doing) (many : length (actings ds) ≡ p) (known : AreKnown tree (actings ds)) where
  -- all are in the root
  in_root : known.does 0 ≡ Some o.Begin → (h : ℕ) → h < 0 + length (actings ds) → tree.places h ≡ 0
  in_root begins h lt =
      (known.may 0 o.Begin begins).stand h (subst (λ (ms : List ℕ). trees.is_member h ms ≡ true) (sym sound.root) (below-has p h [] (omega (arith, lt, many))))

  known_so : IsKnown tree ds
  known_so =
      ⊎_elim
      (λ begins. inr (record {
        kind = (known.fits 0 o.Begin begins).1;
        stand = (known.may 0 o.Begin begins).stand;
        steps = steps_there tree 0 o.Begin known.does 0 (actings ds) begins (in_root begins) known.steps;
      }))
      (λ other. inl (record {
        does = known.does;
        steps = known.steps;
        known = λ g op e. known_step tree g op (not_begin other g op e) (known.fits g op e) (known.may g op e).stand;
        divide = known.divide;
      }))
      (begins_or_not (known.does 0))
    where
      not_begin : known.does 0 ≢ Some o.Begin → (g : ℕ) (op : Operation) → known.does g ≡ Some op → op ≢ o.Begin
      not_begin other g op e begins =
          let does' : known.does g ≡ Some o.Begin = e ∙ ap (λ (x : Operation). Some x) begins in
          other (ap known.does (sym (known.fits g o.Begin does').0) ∙ does')

-- ---- a state whose processors are at their operations

module _ (core : List CoreOp) (leads : JumpsLead core) (setting : Setting) (s : State Position) where
  abbrev landing_of : Position → Position
  landing_of w = position (landing core w.at) w.callers

  goes_landed : (place : Where) (w : Position) → Goes (next core) place w → Goes (next core) place (landing_of w)
  goes_landed place w goes zero = tt
  goes_landed place w goes (suc n) = subst (GoesNext (next core) (GoesFor (next core) n) place) (sym (next_landed core leads w)) (goes (suc n))

  pub landed_at : (rs : List (Runner Position)) (h : ℕ) (r : Runner Position) → slice_get (map (landed_runner core) rs) h ≡ Some r
      → (before : Runner Position) × (slice_get rs h ≡ Some before) × (r ≡ landed_runner core before)
  landed_at [] h r at = absurd (cc)
  landed_at (q ∷ rs) zero r at = (q, refl, sym (first_is (landed_runner core q) r at))
  landed_at (q ∷ rs) (suc h) r at = landed_at rs h r at

  pub one_program : HaveOneProgram (next core) s → HaveOneProgram (next core) (landed_state core s)
  one_program one' n g h r q kind in_g in_h r_is q_is =
      let r' = landed_at s.runners g r r_is in
      let q' = landed_at s.runners h q q_is in
      let t = one' n g h r'.0 q'.0 kind in_g in_h r'.1 q'.1 in
      subst (λ x. AreTogether (next core) (landed_state core s) n x q) (sym r'.2)
      (subst (λ y. AreTogether (next core) (landed_state core s) n (landed_runner core r'.0) y) (sym q'.2)
      (record {
        left = ap landing_of t.left;
        branch = λ step onward e is. t.branch step onward (sym (next_landed core leads r'.0.left) ∙ e) is;
        divide = λ step by e is. t.divide step by (sym (next_landed core leads r'.0.left) ∙ e) is;
        groups = t.groups;
        size = t.size;
      }))

  -- each processor is what it was
  has_landed : (rs : List (Runner Position)) (h : ℕ) → has_of (slice_get (map (landed_runner core) rs) h) ≡ has_of (slice_get rs h)
  has_landed [] h = refl
  has_landed (r ∷ rs) zero = refl
  has_landed (r ∷ rs) (suc h) = has_landed rs h

  ranges_landed : (g : ℕ) → ranges_of (landed_state core s) g ≡ ranges_of s g
  ranges_landed g = ap (λ (p : Processor). range_of (level_of s.tree g p).space) (has_landed s.runners (lowest (trees.members s.tree g)))

  same_ranges : ranges_of (landed_state core s) ≡ ranges_of s
  same_ranges = λ j. λ g. ranges_landed g j

  pub in_tree : HasTree (next core) setting s → HasTree (next core) setting (landed_state core s)
  in_tree has =
      subst (λ (spaces : ℕ → Space). IsInTree (next core) setting spaces (landed_state core s)) (sym same_ranges)
      (record {
        many = length-map s.runners (landed_runner core) ∙ has.many;
        upward = has.upward;
        placed = λ h r at.
            let b = landed_at s.runners h r at in
            let p = has.placed h b.0 b.1 in
            subst (λ x. IsPlaced (next core) setting (ranges_of s) s.tree h x) (sym b.2)
            (record { number_is = p.number_is; place = p.place; there = p.there; goes = goes_landed p.place b.0.left p.goes; levels = p.levels });
        ranges = has.ranges;
      })

  pub possible_landed : (round : Round) → is_possible (next core) setting round s ≡ true → is_possible (next core) setting round (landed_state core s) ≡ true
  possible_landed round e =
      let fault : (result (next core) setting round (landed_state core s)).fault ≡ (result (next core) setting round s).fault
      = ap (λ (u : State Position). u.fault) (results_land core leads setting round s) in
      ap (λ a. is_none s.fault && a && is_none (result (next core) setting round (landed_state core s)).fault) (allowed_land core leads setting round s)
      ∙ ap (λ f. is_none s.fault && is_allowed (next core) setting round s && is_none f) fault ∙ e

-- ---- the processors of a machine

-- they are those who stand before the steps of the tree
pub steppers : (core : List CoreOp) (setting : Setting) (stages : List Stage) (s : State Position) (ps : List Owner) (did : List Doing) (shared shared' : Commons) → AreInOrder 0 s.runners → IsBeside core setting s ps shared
    → AllDoOne stages → AllPass (core_source core setting) (counts_for stages) ps shared did shared' → stepping (next core) setting (counts_for stages) (landed_state core s) ≡ actings did
steppers core setting stages s ps did shared shared' order beside ones all =
    let p = all_passed core setting stages s ps did shared shared' order beside ones all in
    ap (λ (x : Phases Position). x.acting) p.all ∙ actings_same did

-- there are as many as the state has processors
pub actings_many : (core : List CoreOp) (leads : JumpsLead core) (setting : Setting) (stages : List Stage) (s : State Position) (ps : List Owner) (did : List Doing) (shared shared' : Commons)
    → AreInOrder 0 s.runners → IsBeside core setting s ps shared → AllDoOne stages → is_possible (next core) setting (counts_for stages) s ≡ true
    → AllPass (core_source core setting) (counts_for stages) ps shared did shared' → length (actings did) ≡ length s.runners
actings_many core leads setting stages s ps did shared shared' order beside ones possible all =
    ap (λ l. length l) (sym (steppers core setting stages s ps did shared shared' order beside ones all))
    ∙ stepping_length (next core) setting (counts_for stages) (landed_state core s) (counts_single stages ones) (possible_landed core leads setting s (counts_for stages) possible)
    ∙ length-map s.runners (landed_runner core)

pub reached_rounds_are_known : ReachedRoundsAreKnown
reached_rounds_are_known core nestings main setting stages s ps did shared shared' list is order beside ones possible all =
    let round = counts_for stages in
    let known = rounds_are_known Position (next core) setting round (landed_state core s) (record {
      sound = is.stands.sound;
      one_program = one_program core list.jumps setting s is.stands.one_program;
      tree = in_tree core list.jumps setting s is.stands.tree;
      single = counts_single stages ones;
      possible = possible_landed core list.jumps setting s round possible;
    }) in
    let same = steppers core setting stages s ps did shared shared' order beside ones all in
    let many = actings_many core list.jumps setting stages s ps did shared shared' order beside ones possible all ∙ is.stands.tree.many in
    known_so setting.processors s.tree is.stands.sound did many (subst (λ l. AreKnown s.tree l) same known)
