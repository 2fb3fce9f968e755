-- What a possible round makes of those who aren't in it, and of their nodes.
use Rattle.std.proofs.Common.{◌≡◌, ◌≢◌, ◌⊎◌, inl, inr, ℕ, zero, suc, ◌+◌, ◌<◌, ◌==◌, ◌&&◌, ◌||◌, Bool, true, false, true≢false, List, [], ◌∷◌, length, slice_get, Option, Some, None, is_none, refl, sym, ap, ◌∙◌, subst, arith}
use Rattle.std.specs.Prelude.{slice_index}
use Rattle.std.proofs.lemmas.Bool.{and_parts, and_from, eqb-true, eq-eqb}
use Rattle.std.proofs.lemmas.List.{length-map}
use Rattle.fk_meaning_operation.specs.Kinds.{joint_of}
use Rattle.fk_meaning_operation.specs.declared.operation.Operation.{Operation}
use Rattle.fk_meaning_operation.specs.declared.kinds.Joint.{Joint}
use Rattle.fk_meaning_operation.specs.declared.kinds.Joint.TheVariants.{Alone, Starting, AtBarrier, Closing, Resuming}
use Rattle.fk_tree.specs.declared.node.Kind.{Kind}
use Rattle.fk_tree.specs.declared.node.Kind.TheVariants.{Lockstep, Waiting, Asynchronous}
use Rattle.fk_tree.specs.Tree as t
use Rattle.fk_tree.specs.Tree.{Tree, Node, is_member, is_from, has_ended, have_ended}
use Rattle.fk_tree.specs.Sound.{Has, IsSound, awaits}
use Rattle.fk_tree.proofs.Shapes.{has_some, some-given, from_within}
use Rattle.fk_meaning.specs.Processor.{Setting}
use Rattle.fk_meaning.specs.Round.{Step, Runner, State, Round, Acting, Phases, Fault, taking, joint_due, joint_at, same_joint, body_of, all_do, joins, fits_kind, all_fit, local_phase, begin, begin_all, asking, all_requests, all_changes, settled, tree_phase, who, all_may_act, is_allowed, is_possible, result}
use Rattle.fk_meaning.proofs.Stopped.{phase_fault}
use Rattle.fk_lockstep.proofs.Round.{all_at, some_at, first_is, index_at, joint_is, requests_length, counts_there, begin_length}
use Rattle.fk_lockstep.proofs.Rounds.{begin_at, map_at, settled_at, asked_at}
use Rattle.fk_lockstep_nodes.specs.Steps.{KeepsOrDoes, StepsBy, NodesStep, tree_by, stepping}
use Rattle.fk_lockstep_nodes.proofs.Nodes.{rounds_step_nodes}
use Rattle.fk_lockstep_tree.specs.Steps.{AreKnown}
use Rattle.fk_replay_counts.specs.Steady.{IsSteadyInTree}
use Rattle.fk_replay_rounds.proofs.Joints.{taken_stay}
use Rattle.fk_replay_able.specs.Able.{waits_for_none, step_of, step_at, joint_before}
use Rattle.fk_replay_able.proofs.Able.{untrue, same_is, ActsAt, acts_at, fits_at, fits_some, alone_free}

-- ---- steps by number

pub step_by : {W : Type 0} (tree : Tree) (does : ℕ → Option Operation) (number : ℕ) (actings : List (Acting W)) (i : ℕ) (a : Acting W)
    → StepsBy tree does number actings → slice_get actings i ≡ Some a → KeepsOrDoes (does (tree.places (number + i))) a.due
step_by tree does number [] i a steps at = absurd (cc)
step_by tree does number (b ∷ actings) zero a steps at =
    let same : number ≡ number + 0 = omega arith in
    subst (λ (k : ℕ). KeepsOrDoes (does (tree.places k)) a.due) same
    (subst (λ (x : Acting _). KeepsOrDoes (does (tree.places number)) x.due) (first_is b a at) steps.1)
step_by tree does number (b ∷ actings) (suc i) a steps at =
    let same : suc number + i ≡ number + suc i = omega arith in
    subst (λ (k : ℕ). KeepsOrDoes (does (tree.places k)) a.due) same (step_by tree does (suc number) actings i a steps.2 at)

same_there : {A : Type 0} (xs : List A) (h : ℕ) (x y : A) → slice_get xs h ≡ Some x → x ≡ y → slice_get xs h ≡ Some y
same_there xs h x y at same = at ∙ ap (λ z. Some z) same

none_of : {A : Type 0} (x : Option A) → is_none x ≡ true → x ≡ None
none_of None e = refl
none_of (Some a) e = untrue e

none_or_some : {A : Type 0} (x : Option A) → (x ≡ None) ⊎ (x ≢ None)
none_or_some None = inl refl
none_or_some (Some a) = inr (λ e. cc)

pub zero_or_more : (c : ℕ) → (c ≡ 0) ⊎ (0 < c)
zero_or_more zero = inl refl
zero_or_more (suc c) = inr (omega arith)

module _ {W X : Type 0} (next : W → Option (Step W)) (place : W → X) (set : Setting) (round : Round) (s : State W) (steady : IsSteadyInTree next place set s)
    (possible : is_possible next set round s ≡ true) where
  abbrev pub sound : IsSound set.processors s.tree
  sound = steady.stands.sound

  abbrev pub behind : State W
  behind = result next set round s

  abbrev phases : Phases W
  phases = all_requests 0 (asking next set round s.runners) s.store

  abbrev actings : List (Acting W)
  actings = phases.acting

  abbrev pub taken : ℕ → Joint
  taken h = joint_at (begin_all next set round s.runners) h

  both : (is_none s.fault && is_allowed next set round s ≡ true) × (is_none behind.fault ≡ true)
  both = and_parts (is_none s.fault && is_allowed next set round s) (is_none behind.fault) possible

  going : behind.fault ≡ None
  going = none_of behind.fault both.1

  no_fault : phases.fault ≡ None
  no_fault = sym (phase_fault s.tree phases.store phases.acting phases.fault) ∙ going

  allowed : (all_may_act next set round s.runners ≡ true) × (all_fit round taken s.tree 0 round ≡ true)
  allowed = and_parts (all_may_act next set round s.runners) (all_fit round taken s.tree 0 round) (and_parts (is_none s.fault) (is_allowed next set round s) both.0).1

  pub may : all_may_act next set round s.runners ≡ true
  may = allowed.0

  counts : length round ≡ length s.runners
  counts = counts_there next set round s.runners may

  many : length actings ≡ set.processors
  many =
      requests_length 0 (asking next set round s.runners) s.store
      ∙ length-map (begin_all next set round s.runners) (λ (a : Acting W). local_phase next set a a.due)
      ∙ begin_length next set round s.runners counts
      ∙ steady.stands.tree.many

  abbrev new : Tree
  new = all_changes actings s.tree actings s.tree

  runners_are : behind.runners ≡ settled actings s.tree new actings
  runners_are = ap (λ (f : Option Fault). (tree_phase s.tree phases.store actings f).runners) no_fault

  pub known : AreKnown s.tree (stepping next set round s)
  known = steady.known round possible

  pub nodes : NodesStep s.tree behind.tree (who (stepping next set round s)) known.does
  nodes = rounds_step_nodes W next set round s known.does sound going many known.steps known.may

  -- ---- a processor that isn't in the round

  idle : (h : ℕ) → h < set.processors → slice_index round h ≡ 0 → (r : Runner W) × (slice_get s.runners h ≡ Some r) × (slice_get actings h ≡ Some (taking r None))
  idle h lt absent =
      let size = steady.stands.tree.many in
      let r = some_at s.runners h (omega arith) in
      let c = some_at round h (omega (arith, lt, size, counts)) in
      let none : c.0 ≡ 0 = sym (index_at round h c.0 c.1) ∙ absent in
      let begun : slice_get (begin_all next set round s.runners) h ≡ Some (taking r.0 None)
      = begin_at next set round s.runners h c.0 r.0 c.1 r.1 ∙ ap (λ (k : ℕ). Some (begin next set k r.0)) none in
      let passing = asked_at 0 (asking next set round s.runners) s.store h (taking r.0 None) no_fault
      (map_at (λ (a : Acting W). local_phase next set a a.due) (begin_all next set round s.runners) h (taking r.0 None) begun) in
      (r.0, r.1, same_there actings h passing.acting (taking r.0 None) passing.at passing.comes)

  pub runner_stays : (h : ℕ) → h < set.processors → slice_index round h ≡ 0 → slice_get behind.runners h ≡ slice_get s.runners h
  runner_stays h lt absent =
      let x = idle h lt absent in
      ap (λ (rs : List (Runner W)). slice_get rs h) runners_are ∙ settled_at actings s.tree new actings h (taking x.0 None) x.2 ∙ sym x.1

  pub step_stays : (h : ℕ) → h < set.processors → slice_index round h ≡ 0 → step_at next behind h ≡ step_at next s h
  step_stays h lt absent = ap (step_of next) (runner_stays h lt absent)

  pub none_steps : (h : ℕ) → h < set.processors → slice_index round h ≡ 0 → known.does (s.tree.places h) ≡ None
  none_steps h lt absent =
      let x = idle h lt absent in
      let same : 0 + h ≡ h = omega arith in
      by (known.does (s.tree.places h))
      (subst (λ (k : ℕ). KeepsOrDoes (known.does (s.tree.places k)) (taking x.0 None).due) same (step_by s.tree known.does 0 actings h (taking x.0 None) known.steps x.2))
    where
      by : (d : Option Operation) → KeepsOrDoes {W = W} d None → d ≡ None
      by None steps = refl
      by (Some operation) steps = absurd steps

  pub place_kept : (h : ℕ) → known.does (s.tree.places h) ≡ None → behind.tree.places h ≡ s.tree.places h
  place_kept h none =
      let g = s.tree.places h in
      nodes.places h ∙ ap (λ (d : Option Operation). (tree_by s.tree (who (stepping next set round s)) (nodes.first g) g d).places h) none

  pub place_stays : (h : ℕ) → h < set.processors → slice_index round h ≡ 0 → behind.tree.places h ≡ s.tree.places h
  place_stays h lt absent = place_kept h (none_steps h lt absent)

  -- a node at which nobody steps
  pub node_stays : (n : ℕ) → n < s.tree.given → known.does n ≡ None → behind.tree.nodes n ≡ s.tree.nodes n
  node_stays n lt none = nodes.nodes n lt ∙ ap (λ (d : Option Operation). (tree_by s.tree (who (stepping next set round s)) (nodes.first n) n d).nodes n) none

  -- of a node that steps all are in the round
  pub all_present : (n m : ℕ) (operation : Operation) → known.does n ≡ Some operation → Has s.tree n m → slice_index round m ≡ 0 → ⊥
  all_present n m operation e has absent =
      let at = (known.may n operation e).stand m has in
      let none = none_steps m (sound.within n m has) absent in
      let same : known.does n ≡ None = ap known.does (sym at) ∙ none in
      cc

  pub none_at : (n m : ℕ) → Has s.tree n m → slice_index round m ≡ 0 → known.does n ≡ None
  none_at n m has absent = by (known.does n) refl
    where
      by : (d : Option Operation) → known.does n ≡ d → known.does n ≡ None
      by None e = e
      by (Some operation) e = absurd (all_present n m operation e has absent)

  -- the joint operation that is due at a node that steps
  pub joint_steps : (n m : ℕ) (operation : Operation) → known.does n ≡ Some operation → Has s.tree n m → taken m ≡ joint_of operation
  joint_steps n m operation e has =
      let lt = sound.within n m has in
      let a = some_at actings m (omega (arith, lt, many)) in
      let zero_more : 0 + m ≡ m = omega arith in
      let at = (known.may n operation e).stand m has in
      let does : KeepsOrDoes (known.does (s.tree.places m)) a.0.due
      = subst (λ (k : ℕ). KeepsOrDoes (known.does (s.tree.places k)) a.0.due) zero_more (step_by s.tree known.does 0 actings m a.0 known.steps a.1) in
      sym (taken_stay W next set round s m) ∙ joint_is actings m a.0 a.1
      ∙ by a.0.due (subst (λ (d : Option Operation). KeepsOrDoes d a.0.due) (ap known.does at ∙ e) does)
    where
      by : (due : Option (Step W)) → KeepsOrDoes (Some operation) due → joint_due due ≡ joint_of operation
      by None steps = absurd steps
      by (Some step) steps = ap joint_of steps

  -- what has ended stays so
  pub ended_stays : (n : ℕ) → n < s.tree.given → s.tree.nodes n ≡ None → behind.tree.nodes n ≡ None
  ended_stays n lt none = node_stays n lt (by (known.does n) refl) ∙ none
    where
      by : (d : Option Operation) → known.does n ≡ d → known.does n ≡ None
      by None e = e
      by (Some operation) e = absurd ((known.may n operation e).there none)

  -- a node none of whose members is in the round has the same parts
  part_ended : (n c : ℕ) → awaits (t.kind s.tree n) c ≡ true → ((m : ℕ) → Has s.tree n m → slice_index round m ≡ 0) → behind.tree.nodes c ≡ None → s.tree.nodes c ≡ None
  part_ended n c awaited absent ended = by (none_or_some (s.tree.nodes c))
    where
      member : (ms : List ℕ) → t.members s.tree c ≡ ms → s.tree.nodes c ≢ None → (m : ℕ) × (is_member m ms ≡ true)
      member [] e there = absurd (there (sound.living c e))
      member (m ∷ ms) e there = (m, ap (λ (b : Bool). b || is_member m ms) (eq-eqb m m refl))

      by : (s.tree.nodes c ≡ None) ⊎ (s.tree.nodes c ≢ None) → s.tree.nodes c ≡ None
      by (inl none) = none
      by (inr there) =
          let m = member (t.members s.tree c) refl there in
          let above : Has s.tree n m.0 = subst (λ (i : ℕ). Has s.tree i m.0) (sound.children n c awaited there) (sound.among c m.0 (sound.lower n c awaited) m.1) in
          sym (node_stays c (sound.former n c awaited) (none_at c m.0 m.1 (absent m.0 above))) ∙ ended

  abbrev EndsAlike : Tree → Tree → (first k : ℕ) → Type 0
  EndsAlike a b first k = (i : ℕ) → i < k → a.nodes (first + i) ≡ None → b.nodes (first + i) ≡ None

  ends_alike : (a b : Tree) (first k : ℕ) → EndsAlike a b first k → have_ended a first k ≡ true → have_ended b first k ≡ true
  ends_alike a b first zero same e = refl
  ends_alike a b first (suc k) same e =
      let parts = and_parts (has_ended a (first + k)) (have_ended a first k) e in
      and_from (has_ended b (first + k)) (have_ended b first k) (ap is_none (same k (omega arith) (none_of (a.nodes (first + k)) parts.0)))
      (ends_alike a b first k (λ i lt. same i (omega arith)) parts.1)

  ready_alike : (a b : Tree) (n : ℕ) → t.kind a n ≡ t.kind b n → ((c : ℕ) → awaits (t.kind a n) c ≡ true → a.nodes c ≡ None → b.nodes c ≡ None) → t.ready a n ≡ true → t.ready b n ≡ true
  ready_alike a b n kind same e = ap (t.is_ready b) (sym kind) ∙ by (t.kind a n) refl e
    where
      by : (k : Option Kind) → t.kind a n ≡ k → t.is_ready a k ≡ true → t.is_ready b k ≡ true
      by None is e = untrue e
      by (Some Lockstep) is e = untrue e
      by (Some (Asynchronous alone)) is e = untrue e
      by (Some (Waiting first parts)) is e =
          ends_alike a b first parts (λ i lt. same (first + i) (ap (λ (k : Option Kind). awaits k (first + i)) is ∙ from_within first parts (first + i) (omega arith) (omega arith))) e

  pub ready_stays : (n m : ℕ) → Has s.tree n m → slice_index round m ≡ 0 → t.ready s.tree n ≡ true → t.ready behind.tree n ≡ true
  ready_stays n m has absent ready =
      let same = node_stays n (some-given set.processors s.tree sound n (has_some s.tree n m has)) (none_at n m has absent) in
      ready_alike s.tree behind.tree n (ap t.kind_of (sym same)) (λ c awaited. ended_stays c (sound.former n c awaited)) ready

  pub ready_before : (n m : ℕ) → Has s.tree n m → ((i : ℕ) → Has s.tree n i → slice_index round i ≡ 0) → t.ready behind.tree n ≡ true → t.ready s.tree n ≡ true
  ready_before n m has absent ready =
      let same = node_stays n (some-given set.processors s.tree sound n (has_some s.tree n m has)) (none_at n m has (absent m has)) in
      ready_alike behind.tree s.tree n (ap t.kind_of same) (λ c awaited. part_ended n c (ap (λ (x : Option Node). awaits (t.kind_of x) c) (sym same) ∙ awaited) absent) ready

  -- ---- joint operations are done by all whom they need

  pub fit_at_node : (m : ℕ) → 0 < slice_index round m → fits_kind round taken s.tree m (s.tree.places m) (t.kind s.tree (s.tree.places m)) ≡ true
  fit_at_node m in_it = fits_some round taken s.tree m (slice_index round m) in_it (fits_at round taken s.tree 0 round m m (omega arith) allowed.1 in_it)

  -- who waits for others does its operation once
  pub once : (m : ℕ) (k : Option Kind) → 0 < slice_index round m → waits_for_none k (joint_before next s m) ≡ false → (slice_index round m ≡ 1) × (taken m ≡ joint_before next s m)
  once m k in_it waits = by x.lone
    where
      x : ActsAt next set s (taken m) m (slice_index round m)
      x = acts_at next set s round m may in_it

      by : (joint_before next s m ≡ Alone) ⊎ (slice_index round m ≡ 1) → (slice_index round m ≡ 1) × (taken m ≡ joint_before next s m)
      by (inl alone) = absurd (true≢false (sym (alone_free k) ∙ ap (waits_for_none k) (sym alone) ∙ waits))
      by (inr one) = (one, x.same one)

  all_one : (j : Joint) (ms : List ℕ) (i : ℕ) → all_do round taken j ms ≡ true → is_member i ms ≡ true → (slice_index round i ≡ 1) × (taken i ≡ j)
  all_one j ms i all is =
      let it = and_parts (slice_index round i == 1) (same_joint j (taken i)) (all_at (λ h. (slice_index round h == 1) && same_joint j (taken h)) ms i all is) in
      (eqb-true (slice_index round i) 1 it.0, same_is j (taken i) it.1)

  pub all_in : (m n : ℕ) (k : Option Kind) (j : Joint) → 0 < slice_index round m → t.kind s.tree n ≡ k → taken m ≡ j → fits_kind round taken s.tree m n k ≡ true → waits_for_none k j ≡ false
      → (i : ℕ) → Has s.tree n i → (slice_index round i ≡ 1) × (taken i ≡ j)
  all_in m n k j in_it kind is fit waits i has = by k j kind (join k fit) waits
    where
      join : (x : Option Kind) → fits_kind round taken s.tree m n x ≡ true → waits_for_none x j ≡ false → joins round taken s.tree n j ≡ true
      join None e off = subst (λ (y : Joint). joins round taken s.tree n y ≡ true) is e
      join (Some Lockstep) e off = absurd (true≢false off)
      join (Some (Waiting first parts)) e off = subst (λ (y : Joint). joins round taken s.tree n y ≡ true) is e
      join (Some (Asynchronous alone)) e off = subst (λ (y : Joint). joins round taken s.tree n y ≡ true) is e

      by : (x : Option Kind) (y : Joint) → t.kind s.tree n ≡ x → (waits_for_none x y ≡ false → joins round taken s.tree n y ≡ true) → waits_for_none x y ≡ false → (slice_index round i ≡ 1) × (taken i ≡ y)
      by x Alone e all off = absurd (true≢false (sym (alone_free x) ∙ off))
      by x Starting e all off = all_one Starting (t.members s.tree n) i (all off) has
      by x Closing e all off = all_one Closing (t.members s.tree n) i (all off) has
      by x Resuming e all off = all_one Resuming (t.members s.tree n) i (and_parts (t.ready s.tree n) (all_do round taken Resuming (t.members s.tree n)) (all off)).1 has
      by None AtBarrier e all off = absurd (has_some s.tree n i has (none_by (s.tree.nodes n) e))
        where
          none_by : (z : Option Node) → t.kind_of z ≡ None → z ≡ None
          none_by None e = refl
          none_by (Some node) e = absurd (cc)
      by (Some Lockstep) AtBarrier e all off = absurd (true≢false off)
      by (Some (Waiting first parts)) AtBarrier e all off =
          all_one AtBarrier (t.members s.tree n) i (subst (λ (z : Option Kind). all_do round taken AtBarrier (body_of z (t.members s.tree n)) ≡ true) e (all off)) has
      by (Some (Asynchronous true)) AtBarrier e all off = absurd (true≢false off)
      by (Some (Asynchronous false)) AtBarrier e all off =
          all_one AtBarrier (t.members s.tree n) i (subst (λ (z : Option Kind). all_do round taken AtBarrier (body_of z (t.members s.tree n)) ≡ true) e (all off)) has

  -- so where one who waits for others isn't in the round, nobody of its node does that operation
  pub whole : (m : ℕ) → 0 < slice_index round m → waits_for_none (t.kind s.tree (s.tree.places m)) (joint_before next s m) ≡ false
      → (i : ℕ) → Has s.tree (s.tree.places m) i → (slice_index round i ≡ 1) × (taken i ≡ joint_before next s m)
  whole m in_it waits i has =
      let one = once m (t.kind s.tree (s.tree.places m)) in_it waits in
      all_in m (s.tree.places m) (t.kind s.tree (s.tree.places m)) (joint_before next s m) in_it refl one.1 (fit_at_node m in_it) waits i has

  pub none_in : (n h : ℕ) (j : Joint) → Has s.tree n h → slice_index round h ≡ 0 → waits_for_none (t.kind s.tree n) j ≡ false
      → (m : ℕ) → s.tree.places m ≡ n → joint_before next s m ≡ j → slice_index round m ≡ 0
  none_in n h j has absent waits m at is = by (zero_or_more (slice_index round m))
    where
      by : (slice_index round m ≡ 0) ⊎ (0 < slice_index round m) → slice_index round m ≡ 0
      by (inl none) = none
      by (inr in_it) =
          let off : waits_for_none (t.kind s.tree (s.tree.places m)) (joint_before next s m) ≡ false
          = ap (λ (k : ℕ). waits_for_none (t.kind s.tree k) (joint_before next s m)) at ∙ ap (waits_for_none (t.kind s.tree n)) is ∙ waits in
          let one = whole m in_it off h (subst (λ (k : ℕ). Has s.tree k h) (sym at) has) in
          let one_is = one.0 in
          absurd (omega (arith, one_is, absent))
