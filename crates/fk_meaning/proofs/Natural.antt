-- The rounds of what is left in one form are those of what is left in another, where each form's next operation is the
-- other's by a map.
use Rattle.std.proofs.Common.{◌≡◌, ℕ, zero, suc, ◌+◌, Bool, true, false, ◌&&◌, List, [], ◌∷◌, length, map, Option, Some, None, is_none, is_some, ap, ap₂, ◌∙◌, sym, refl, subst, take, inl, inr}
use Rattle.std.specs.Prelude.{option_map, ◌==◌, nat_lt, if◌then◌else◌}
use Rattle.fk_tree.specs.Tree as t
use Rattle.fk_meaning_operation.specs.Kinds.{class_of}
use Rattle.fk_meaning_operation.specs.declared.kinds.Class.{Class}
use Rattle.fk_meaning_operation.specs.declared.kinds.Class.TheVariants.{Local, Request, Tree}
use Rattle.fk_meaning_store.specs.Store.{Store}
use Rattle.fk_meaning_store.specs.Serve.{Answer, Served, Faults, serve}
use Rattle.fk_meaning.specs.Processor.{Setting, values, last}
use Rattle.fk_meaning.specs.Request.{request}
use Rattle.fk_meaning.specs.Group.{does, goes_onward, changes, has_room}
use Rattle.fk_meaning.specs.Round.{Step, Runner, Fault, State, Round, Acting, Phase, Passes, Breaks, Phases, taking, answered, do_request, request_phase, before_others, after_phase, all_requests, who, lowest, highest, change_by, all_changes, settled_by, settled, runner_of, tree_phase, do_local, local_phase, after_one, after_locals, begin, begin_all, all_locals, result, joint_due, joint_at, all_fit, is_local_next, are_local, may_act, all_may_act, is_allowed, is_possible, IsStopped}
use Rattle.fk_meaning.specs.Schedule.{Schedule, run, SourceFinished, SourceRunning, all_done, stand_by, stand_of, ArePossible, CouldAct, KeepsPace, IsLawful}

abbrev pub step_by : {V W : Type 0} → (V → W) → Step V → Step W
step_by f step = record { operation = step.operation; site = step.site; rest = λ onward. f (step.rest onward) }

abbrev pub runner_by : {V W : Type 0} → (V → W) → Runner V → Runner W
runner_by f r = record { left = f r.left; has = r.has }

abbrev pub acting_by : {V W : Type 0} → (V → W) → Acting V → Acting W
acting_by f a = record { due = option_map (step_by f) a.due; runner = runner_by f a.runner }

abbrev pub phases_by : {V W : Type 0} → (V → W) → Phases V → Phases W
phases_by f r = record { store = r.store; acting = map (acting_by f) r.acting; fault = r.fault }

abbrev pub phase_by : {V W : Type 0} → (V → W) → Phase V → Phase W
phase_by f (Passes s a) = Passes s (acting_by f a)
phase_by f (Breaks site) = Breaks site

abbrev pub state_by : {V W : Type 0} → (V → W) → State V → State W
state_by f s = record { store = s.store; tree = s.tree; runners = map (runner_by f) s.runners; fault = s.fault }

-- the phases that don't ask what is next
asked : {V W : Type 0} (f : V → W) (s : Store) (a : Acting V) (c : Class) (step : Step V) → do_request s (acting_by f a) c (step_by f step) ≡ phase_by f (do_request s a c step)
asked f s a Local step = refl
asked f s a Request step = of_answer (serve (request step.operation a.runner.has) s a.runner.has.number)
  where
    of_answer : (answer : Answer) → answered (step_by f step) a.runner.has answer ≡ phase_by f (answered step a.runner.has answer)
    of_answer (Served s' v) = refl
    of_answer (Faults kind) = refl
asked f s a Tree step = of_room (has_room step.operation a.runner.has)
  where
    of_room : (room : Bool) → (if room then Passes s (acting_by f a) else Breaks step.site) ≡ phase_by f (if room then Passes s a else Breaks step.site)
    of_room true = refl
    of_room false = refl

requested : {V W : Type 0} (f : V → W) (s : Store) (a : Acting V) (due : Option (Step V)) → request_phase s (acting_by f a) (option_map (step_by f) due) ≡ phase_by f (request_phase s a due)
requested f s a None = refl
requested f s a (Some step) = asked f s a (class_of step.operation) step

all_requested : {V W : Type 0} (f : V → W) (number : ℕ) (actings : List (Acting V)) (s : Store) → all_requests number (map (acting_by f) actings) s ≡ phases_by f (all_requests number actings s)
all_requested f number [] s = refl
all_requested {V = V} {W = W} f number (a ∷ actings) s =
    ap (after_phase number s (acting_by f a) (map (acting_by f) actings) (all_requests (suc number) (map (acting_by f) actings))) (requested f s a a.due)
    ∙ after (λ s'. all_requested f (suc number) actings s') (request_phase s a a.due)
  where
    after : ((s' : Store) → all_requests (suc number) (map (acting_by f) actings) s' ≡ phases_by f (all_requests (suc number) actings s'))
        → (phase : Phase V) → after_phase number s (acting_by f a) (map (acting_by f) actings) (all_requests (suc number) (map (acting_by f) actings)) (phase_by f phase)
        ≡ phases_by f (after_phase number s a actings (all_requests (suc number) actings) phase)
    after h (Passes s' a') = ap (before_others (acting_by f a')) (h s')
    after h (Breaks site) = refl

-- the steps of the tree
who_is : {V W : Type 0} (f : V → W) (actings : List (Acting V)) (h : ℕ) → who (map (acting_by f) actings) h ≡ who actings h
who_is f [] h = refl
who_is f (a ∷ actings) zero = refl
who_is f (a ∷ actings) (suc h) = who_is f actings h

same_who : {V W : Type 0} (f : V → W) (actings : List (Acting V)) → who (map (acting_by f) actings) ≡ who actings
same_who f actings = λ i h. who_is f actings h i

changed_by : {V W : Type 0} (f : V → W) (actings : List (Acting V)) (old : t.Tree) (h : ℕ) (due : Option (Step V)) (tree : t.Tree) → change_by (map (acting_by f) actings) old h (option_map (step_by f) due) tree ≡ change_by actings old h due tree
changed_by f actings old h None tree = refl
changed_by f actings old h (Some step) tree =
    let n = old.places h in
    let members = t.members old n in
    ap (λ w. if h == lowest members then changes step.operation n w (last (values (w (highest members)))) h tree else tree) (same_who f actings)

all_changed : {V W : Type 0} (f : V → W) (actings : List (Acting V)) (old : t.Tree) (others : List (Acting V)) (tree : t.Tree) → all_changes (map (acting_by f) actings) old (map (acting_by f) others) tree ≡ all_changes actings old others tree
all_changed f actings old [] tree = refl
all_changed f actings old (a ∷ others) tree =
    ap (all_changes (map (acting_by f) actings) old (map (acting_by f) others)) (changed_by f actings old a.runner.has.number a.due tree)
    ∙ all_changed f actings old others (change_by actings old a.runner.has.number a.due tree)

one_settled : {V W : Type 0} (f : V → W) (actings : List (Acting V)) (old new : t.Tree) (r : Runner V) (due : Option (Step V)) → settled_by (map (acting_by f) actings) old new (runner_by f r) (option_map (step_by f) due) ≡ runner_by f (settled_by actings old new r due)
one_settled f actings old new r None = refl
one_settled {V = V} {W = W} f actings old new r (Some step) =
    let h = r.has.number in
    let ms = t.members old (old.places h) in
    ap (λ w. let runner : Runner W = record {
      left = f (step.rest (goes_onward step.operation (last (values (w (highest ms)))) (lowest ms) r.has));
      has = does step.operation (last (values (w (highest ms)))) (length (t.members new (new.places h))) r.has;
    } in runner) (same_who f actings)

all_settled : {V W : Type 0} (f : V → W) (actings : List (Acting V)) (old new : t.Tree) (others : List (Acting V)) → settled (map (acting_by f) actings) old new (map (acting_by f) others) ≡ map (runner_by f) (settled actings old new others)
all_settled f actings old new [] = refl
all_settled f actings old new (a ∷ others) = ap₂ ◌∷◌ (one_settled f actings old new a.runner a.due) (all_settled f actings old new others)

runners_of : {V W : Type 0} (f : V → W) (actings : List (Acting V)) → map runner_of (map (acting_by f) actings) ≡ map (runner_by f) (map runner_of actings)
runners_of f [] = refl
runners_of f (a ∷ actings) = ap (λ rs. runner_by f a.runner ∷ rs) (runners_of f actings)

tree_phases : {V W : Type 0} (f : V → W) (tree : t.Tree) (s : Store) (actings : List (Acting V)) (fault : Option Fault) → tree_phase tree s (map (acting_by f) actings) fault ≡ state_by f (tree_phase tree s actings fault)
tree_phases {V = V} {W = W} f tree s actings None =
    ap (λ new. let state : State W = record { store = s; tree = new; runners = settled (map (acting_by f) actings) tree new (map (acting_by f) actings); fault = None } in state) (all_changed f actings tree actings tree)
    ∙ ap (λ rs. let state : State W = record { store = s; tree = all_changes actings tree actings tree; runners = rs; fault = None } in state) (all_settled f actings tree (all_changes actings tree actings tree) actings)
tree_phases {V = V} {W = W} f tree s actings (Some fault) =
    ap (λ rs. let state : State W = record { store = s; tree = tree; runners = rs; fault = Some fault } in state) (runners_of f actings)

joint_is : {V W : Type 0} (f : V → W) (due : Option (Step V)) → joint_due (option_map (step_by f) due) ≡ joint_due due
joint_is f None = refl
joint_is f (Some step) = refl

joint_is_at : {V W : Type 0} (f : V → W) (actings : List (Acting V)) (h : ℕ) → joint_at (map (acting_by f) actings) h ≡ joint_at actings h
joint_is_at f [] h = refl
joint_is_at f (a ∷ actings) zero = joint_is f a.due
joint_is_at f (a ∷ actings) (suc h) = joint_is_at f actings h

-- the phases that ask what is next
module _ {V W : Type 0} (next : V → Option (Step V)) (next' : W → Option (Step W)) (set : Setting) (f : V → W) (natural : (w : V) → next' (f w) ≡ option_map (step_by f) (next w)) where
  local_done : (a : Acting V) (c : Class) (step : Step V) → do_local next' set (acting_by f a) c (step_by f step) ≡ acting_by f (do_local next set a c step)
  local_done a Local step = refl
  local_done a Request step = refl
  local_done a Tree step = refl

  locally : (a : Acting V) (due : Option (Step V)) → local_phase next' set (acting_by f a) (option_map (step_by f) due) ≡ acting_by f (local_phase next set a due)
  locally a None = refl
  locally a (Some step) = local_done a (class_of step.operation) step

  takes : (r : Runner V) → taking (runner_by f r) (next' (f r.left)) ≡ acting_by f (taking r (next r.left))
  takes r = ap (taking (runner_by f r)) (natural r.left)

  one_more : (r : Runner V) → after_one next' set (runner_by f r) ≡ runner_by f (after_one next set r)
  one_more r =
      ap (λ (a : Acting W). (local_phase next' set a a.due).runner) (takes r)
      ∙ ap (λ (a : Acting W). a.runner) (locally (taking r (next r.left)) (next r.left))

  many_more : (c : ℕ) (r : Runner V) → after_locals next' set c (runner_by f r) ≡ runner_by f (after_locals next set c r)
  many_more zero r = refl
  many_more (suc c) r = ap (after_locals next' set c) (one_more r) ∙ many_more c (after_one next set r)

  begins : (c : ℕ) (r : Runner V) → begin next' set c (runner_by f r) ≡ acting_by f (begin next set c r)
  begins zero r = refl
  begins (suc c) r = ap (λ (q : Runner W). taking q (next' q.left)) (many_more c r) ∙ takes (after_locals next set c r)

  all_begin : (round : Round) (rs : List (Runner V)) → begin_all next' set round (map (runner_by f) rs) ≡ map (acting_by f) (begin_all next set round rs)
  all_begin [] rs = refl
  all_begin (c ∷ round) [] = refl
  all_begin (c ∷ round) (r ∷ rs) = ap₂ ◌∷◌ (begins c r) (all_begin round rs)

  all_local : (actings : List (Acting V)) → all_locals next' set (map (acting_by f) actings) ≡ map (acting_by f) (all_locals next set actings)
  all_local [] = refl
  all_local (a ∷ actings) = ap₂ ◌∷◌ (locally a a.due) (all_local actings)

  pub results : (round : Round) (s : State V) → result next' set round (state_by f s) ≡ state_by f (result next set round s)
  results round s =
      let same : all_locals next' set (begin_all next' set round (map (runner_by f) s.runners)) ≡ map (acting_by f) (all_locals next set (begin_all next set round s.runners))
      = ap (all_locals next' set) (all_begin round s.runners) ∙ all_local (begin_all next set round s.runners) in
      let r = all_requests 0 (all_locals next set (begin_all next set round s.runners)) s.store in
      let requests : all_requests 0 (all_locals next' set (begin_all next' set round (map (runner_by f) s.runners))) s.store ≡ phases_by f r
      = ap (λ actings. all_requests 0 actings s.store) same ∙ all_requested f 0 (all_locals next set (begin_all next set round s.runners)) s.store in
      ap (λ (r : Phases W). tree_phase s.tree r.store r.acting r.fault) requests
      ∙ tree_phases f s.tree r.store r.acting r.fault

  pub runs : (schedule : Schedule) (s : State V) → run next' set schedule (state_by f s) ≡ state_by f (run next set schedule s)
  runs [] s = refl
  runs (round ∷ schedule) s = ap (run next' set schedule) (results round s) ∙ runs schedule (result next set round s)

  none_next : (step : Option (Step V)) → is_none (option_map (step_by f) step) ≡ is_none step
  none_next None = refl
  none_next (Some step) = refl

  done_alike : (rs : List (Runner V)) → all_done next' set (map (runner_by f) rs) ≡ all_done next set rs
  done_alike [] = refl
  done_alike (r ∷ rs) = ap₂ ◌&&◌ (ap is_none (natural r.left) ∙ none_next (next r.left)) (done_alike rs)

  stands_alike : (fault : Option Fault) (rs : List (Runner V)) → stand_by next' set fault (map (runner_by f) rs) ≡ stand_by next set fault rs
  stands_alike None rs = ap (λ all. if all then SourceFinished else SourceRunning) (done_alike rs)
  stands_alike (Some fault) rs = refl

  pub stands : (s : State V) → stand_of next' set (state_by f s) ≡ stand_of next set s
  stands s = stands_alike s.fault s.runners

  -- which rounds are allowed
  next_is_local : (step : Option (Step V)) → is_local_next next' set (option_map (step_by f) step) ≡ is_local_next next set step
  next_is_local None = refl
  next_is_local (Some step) = refl

  has_next : (step : Option (Step V)) → is_some (option_map (step_by f) step) ≡ is_some step
  has_next None = refl
  has_next (Some step) = refl

  locals_alike : (c : ℕ) (r : Runner V) → are_local next' set c (runner_by f r) ≡ are_local next set c r
  locals_alike zero r = refl
  locals_alike (suc c) r =
      ap₂ ◌&&◌
      (ap (is_local_next next' set) (natural r.left) ∙ next_is_local (next r.left))
      (ap (are_local next' set c) (one_more r) ∙ locals_alike c (after_one next set r))

  may_alike : (c : ℕ) (r : Runner V) → may_act next' set c (runner_by f r) ≡ may_act next set c r
  may_alike zero r = refl
  may_alike (suc c) r =
      let q = after_locals next set c r in
      ap₂ ◌&&◌
      (ap (λ b. nat_lt c 255 && b) (locals_alike c r))
      (ap (λ (q : Runner W). is_some (next' q.left)) (many_more c r) ∙ ap is_some (natural q.left) ∙ has_next (next q.left))

  all_may_alike : (round : Round) (rs : List (Runner V)) → all_may_act next' set round (map (runner_by f) rs) ≡ all_may_act next set round rs
  all_may_alike [] [] = refl
  all_may_alike [] (r ∷ rs) = refl
  all_may_alike (c ∷ round) [] = refl
  all_may_alike (c ∷ round) (r ∷ rs) = ap₂ ◌&&◌ (may_alike c r) (all_may_alike round rs)

  fit_alike : (round : Round) (s : State V) → all_fit round (joint_at (begin_all next' set round (map (runner_by f) s.runners))) s.tree 0 round ≡ all_fit round (joint_at (begin_all next set round s.runners)) s.tree 0 round
  fit_alike round s =
      ap (λ actings. all_fit round (joint_at actings) s.tree 0 round) (all_begin round s.runners)
      ∙ ap (λ does. all_fit round does s.tree 0 round) (λ i h. joint_is_at f (begin_all next set round s.runners) h i)

  pub allowed_alike : (round : Round) (s : State V) → is_allowed next' set round (state_by f s) ≡ is_allowed next set round s
  allowed_alike round s = ap₂ ◌&&◌ (all_may_alike round s.runners) (fit_alike round s)

  fault_alike : (round : Round) (s : State V) → (result next' set round (state_by f s)).fault ≡ (result next set round s).fault
  fault_alike round s = ap (λ (s' : State W). s'.fault) (results round s)

  pub possible_alike : (round : Round) (s : State V) → is_possible next' set round (state_by f s) ≡ is_possible next set round s
  possible_alike round s =
      ap₂ ◌&&◌ (ap (λ b. is_none s.fault && b) (allowed_alike round s)) (ap is_none (fault_alike round s))

  stopped_to : (round : Round) (s : State V) → IsStopped next set round s → IsStopped next' set round (state_by f s)
  stopped_to round s h = record {
    running = h.running;
    whole = h.whole;
    allowed = allowed_alike h.whole s ∙ h.allowed;
    fault = h.fault;
    faults = fault_alike h.whole s ∙ h.faults;
    is_cut = h.is_cut;
  }

  stopped_from : (round : Round) (s : State V) → IsStopped next' set round (state_by f s) → IsStopped next set round s
  stopped_from round s h = record {
    running = h.running;
    whole = h.whole;
    allowed = sym (allowed_alike h.whole s) ∙ h.allowed;
    fault = h.fault;
    faults = sym (fault_alike h.whole s) ∙ h.faults;
    is_cut = h.is_cut;
  }

  all_possible_to : (schedule : Schedule) (s : State V) → ArePossible next set schedule s → ArePossible next' set schedule (state_by f s)
  all_possible_to [] s h = h
  all_possible_to (round ∷ []) s (inl h) = inl (possible_alike round s ∙ h)
  all_possible_to (round ∷ []) s (inr h) = inr (stopped_to round s h)
  all_possible_to (round ∷ other ∷ schedule) s h =
      (possible_alike round s ∙ h.0, subst (ArePossible next' set (other ∷ schedule)) (sym (results round s)) (all_possible_to (other ∷ schedule) (result next set round s) h.1))

  all_possible_from : (schedule : Schedule) (s : State V) → ArePossible next' set schedule (state_by f s) → ArePossible next set schedule s
  all_possible_from [] s h = h
  all_possible_from (round ∷ []) s (inl h) = inl (sym (possible_alike round s) ∙ h)
  all_possible_from (round ∷ []) s (inr h) = inr (stopped_from round s h)
  all_possible_from (round ∷ other ∷ schedule) s h =
      (sym (possible_alike round s) ∙ h.0, all_possible_from (other ∷ schedule) (result next set round s) (subst (ArePossible next' set (other ∷ schedule)) (results round s) h.1))

  could_to : (h : ℕ) (s : State V) → CouldAct next set h s → CouldAct next' set h (state_by f s)
  could_to h s c = record { round = c.round; allowed = allowed_alike c.round s ∙ c.allowed; within = c.within }

  could_from : (h : ℕ) (s : State V) → CouldAct next' set h (state_by f s) → CouldAct next set h s
  could_from h s c = record { round = c.round; allowed = sym (allowed_alike c.round s) ∙ c.allowed; within = c.within }

  pace_to : (schedule : Schedule) (s : State V) → KeepsPace next set schedule s → KeepsPace next' set schedule (state_by f s)
  pace_to schedule s pace h t long could =
      pace h t long (λ i less. could_from h (run next set (take (t + i) schedule) s) (subst (CouldAct next' set h) (runs (take (t + i) schedule) s) (could i less)))

  pace_from : (schedule : Schedule) (s : State V) → KeepsPace next' set schedule (state_by f s) → KeepsPace next set schedule s
  pace_from schedule s pace h t long could =
      pace h t long (λ i less. subst (CouldAct next' set h) (sym (runs (take (t + i) schedule) s)) (could_to h (run next set (take (t + i) schedule) s) (could i less)))

  -- a schedule is lawful for the one exactly where it is for the other
  pub lawful_to : (schedule : Schedule) (s : State V) → IsLawful next set schedule s → IsLawful next' set schedule (state_by f s)
  lawful_to schedule s h = record { possible = all_possible_to schedule s h.possible; pace = pace_to schedule s h.pace }

  pub lawful_from : (schedule : Schedule) (s : State V) → IsLawful next' set schedule (state_by f s) → IsLawful next set schedule s
  lawful_from schedule s h = record { possible = all_possible_from schedule s h.possible; pace = pace_from schedule s h.pace }
