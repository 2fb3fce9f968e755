-- What a round leaves before the steps that change the tree: who does none of them has gone on.
use Rattle.std.proofs.Common.{◌≡◌, ◌≢◌, ◌⊎◌, inl, inr, ⊎_elim, ℕ, zero, suc, ◌+◌, ◌<◌, ◌==◌, ◌&&◌, ◌||◌, Bool, true, false, true≢false, List, [], ◌∷◌, length, slice_get, Option, Some, None, refl, sym, ap, ◌∙◌, subst, subst₂, arith}
use Rattle.std.specs.Prelude.{slice_index, option_map, is_none}
use Rattle.std.specs.List.{list_all}
use Rattle.std.proofs.lemmas.Bool.{cases_eq, and_parts, eqb-true, eq-eqb}
use Rattle.std.proofs.lemmas.List.{length-map}
use Rattle.std.proofs.lemmas.Option.{get_or_from_slice_get}
use Rattle.fk_meaning_operation.specs.Kinds.{class_of, joint_of}
use Rattle.fk_meaning_operation.specs.declared.operation.Operation.{Operation}
use Rattle.fk_meaning_operation.specs.declared.operation.Operation.TheVariants as o
use Rattle.fk_meaning_operation.specs.declared.kinds.Class.{Class}
use Rattle.fk_meaning_operation.specs.declared.kinds.Class.TheVariants as class
use Rattle.fk_meaning_operation.specs.declared.kinds.Joint.{Joint}
use Rattle.fk_meaning_operation.specs.declared.kinds.Joint.TheVariants as joint
use Rattle.fk_meaning_store.specs.Store.{Store}
use Rattle.fk_tree.specs.declared.node.Kind.{Kind}
use Rattle.fk_tree.specs.declared.node.Kind.TheVariants.{Lockstep, Waiting, Asynchronous}
use Rattle.fk_tree.specs.Tree as t
use Rattle.fk_tree.specs.Tree.{Tree, members, parent, kind, is_member, ready}
use Rattle.fk_tree.specs.Sound.{Has, awaits}
use Rattle.fk_tree.proofs.Shapes.{has_some}
use Rattle.fk_tree.proofs.Turns.{IsLeaf, leaf_by, leaf_ready, idle-lockstep, idle-asynchronous}
use Rattle.fk_meaning.specs.Processor.{Setting}
use Rattle.fk_meaning.specs.Group.{does}
use Rattle.fk_meaning.specs.Round.{Step, Runner, Fault, State, Round, Acting, Phase, Passes, Breaks, Phases, taking, joint_due, joint_at, same_joint, all_do, joins, do_local, fits_kind, fits, all_fit, after_phase, all_requests, request_phase, lowest, agreed, who, change_by, all_changes, settled_by, settled, local_phase, after_locals, begin, begin_all, asking, may_act, all_may_act, result, is_allowed, is_possible}
use Rattle.fk_meaning.proofs.Stopped.{phase_fault}
use Rattle.fk_lockstep.specs.Untouched.{changes_tree}
use Rattle.fk_lockstep.proofs.Rounds.{Outcome, begin_at, map_at, asked_at}
use Rattle.fk_lockstep.proofs.Moves.{local_number, answer_number}
use Rattle.fk_lockstep.specs.Counts.{Counts}
use Rattle.fk_lockstep.specs.OneProgram.{groups_of}
use Rattle.fk_lockstep.proofs.Sizes.{local_groups, answer_groups}
use Rattle.fk_lockstep.proofs.Acting.{untrue, Here, Out, told, Is, AtNode, Settles, within, plain_way, Grouped, Parted, ahead_of, Apart, taken_by, acting_elim, after_passing, closed, passing_grouped, passing_is, closed_grouped, quietly, closed_is, lone_many, lone_closed, lone_joint, wait_many, wait_closed, resumes}
use Rattle.fk_lockstep.proofs.Trees.{NodeIs, IsThere, Inv, leaf_place}

-- lists
pub first_is : {A : Type 0} (x y : A) → Some x ≡ Some y → x ≡ y
first_is x y e = cc

pub all_at : (f : ℕ → Bool) (ms : List ℕ) (m : ℕ) → list_all f ms ≡ true → is_member m ms ≡ true → f m ≡ true
all_at f [] m e is = untrue is
all_at f (x ∷ ms) m e is =
    let both = and_parts (f x) (list_all f ms) e in
    ⊎_elim
    (λ same. subst (λ (i : ℕ). f i ≡ true) (sym same) both.0)
    (λ other. all_at f ms m both.1 (sym (not_first m x ms other) ∙ is))
    (cases_eq m x)
  where
    by : (b : Bool) → (rest : Bool) → b ≡ false → (b || rest) ≡ rest
    by true rest e' = absurd (true≢false e')
    by false rest e' = refl

    eq_false : (b : Bool) → (b ≡ true → ⊥) → b ≡ false
    eq_false true f' = absurd (f' refl)
    eq_false false f' = refl

    not_first : (m' x' : ℕ) (ms' : List ℕ) → m' ≢ x' → is_member m' (x' ∷ ms') ≡ is_member m' ms'
    not_first m' x' ms' ne = by (m' == x') (is_member m' ms') (eq_false (m' == x') (λ e'. ne (eqb-true m' x' e')))

pub lowest_member : (h : ℕ) (ms : List ℕ) → is_member h ms ≡ true → is_member (lowest ms) ms ≡ true
lowest_member h [] is = is
lowest_member h (m ∷ ms) is = ap (λ (b : Bool). b || is_member m ms) (eq-eqb m m refl)

pub index_at : (round : List ℕ) (h c : ℕ) → slice_get round h ≡ Some c → slice_index round h ≡ c
index_at round h c e = get_or_from_slice_get round h c 0 e

pub fit_at : (round : Round) (does_at : ℕ → Joint) (tree : Tree) (counts : List ℕ) (h j c : ℕ) → all_fit round does_at tree h counts ≡ true → slice_get counts j ≡ Some c
    → fits round does_at tree (h + j) c ≡ true
fit_at round does_at tree [] h j c e at = absurd (cc)
fit_at round does_at tree (d ∷ counts) h zero c e at =
    let same : d ≡ c = cc in
    let zero_more : h ≡ h + 0 = omega arith in
    subst₂ (λ (i d' : ℕ). fits round does_at tree i d' ≡ true) zero_more same (and_parts (fits round does_at tree h d) (all_fit round does_at tree (suc h) counts) e).0
fit_at round does_at tree (d ∷ counts) h (suc j) c e at =
    let next_one : suc h + j ≡ h + suc j = omega arith in
    subst (λ (i : ℕ). fits round does_at tree i c ≡ true) next_one
    (fit_at round does_at tree counts (suc h) j c (and_parts (fits round does_at tree h d) (all_fit round does_at tree (suc h) counts) e).1 at)

pub requests_length : {W : Type 0} (number : ℕ) (actings : List (Acting W)) (s : Store) → length (all_requests number actings s).acting ≡ length actings
requests_length number [] s = refl
requests_length {W = W} number (a ∷ actings) s = by (λ s'. requests_length (suc number) actings s') (request_phase s a a.due)
  where
    by : ((s' : Store) → length (all_requests (suc number) actings s').acting ≡ length actings) → (phase : Phase W)
        → length (after_phase number s a actings (all_requests (suc number) actings) phase).acting ≡ length (a ∷ actings)
    by others (Passes s' b) = ap (λ (n : ℕ). suc n) (others s')
    by others (Breaks site) = refl

pub settled_length : {W : Type 0} (actings : List (Acting W)) (old new : Tree) (others : List (Acting W)) → length (settled actings old new others) ≡ length others
settled_length actings old new [] = refl
settled_length actings old new (a ∷ others) = ap (λ (n : ℕ). suc n) (settled_length actings old new others)

pub who_is : {W : Type 0} (actings : List (Acting W)) (h : ℕ) (b : Acting W) → slice_get actings h ≡ Some b → who actings h ≡ b.runner.has
who_is [] h b e = absurd (cc)
who_is (a ∷ actings) zero b e = let same : a ≡ b = cc in ap (λ (x : Acting _). x.runner.has) same
who_is (a ∷ actings) (suc h) b e = who_is actings h b e

pub joint_is : {W : Type 0} (actings : List (Acting W)) (h : ℕ) (b : Acting W) → slice_get actings h ≡ Some b → joint_at actings h ≡ joint_due b.due
joint_is [] h b e = absurd (cc)
joint_is (a ∷ actings) zero b e = let same : a ≡ b = cc in ap (λ (x : Acting _). joint_due x.due) same
joint_is (a ∷ actings) (suc h) b e = joint_is actings h b e

pub some_at : {A : Type 0} (xs : List A) (i : ℕ) → i < length xs → (x : A) × (slice_get xs i ≡ Some x)
some_at [] i lt = absurd (omega arith)
some_at (x ∷ xs) zero lt = (x, refl)
some_at (x ∷ xs) (suc i) lt = some_at xs i (omega arith)

pub at_below : {A : Type 0} (xs : List A) (i : ℕ) (x : A) → slice_get xs i ≡ Some x → i < length xs
at_below [] i x e = absurd (cc)
at_below (y ∷ xs) zero x e = omega arith
at_below (y ∷ xs) (suc i) x e = let lt = at_below xs i x e in omega arith

module _ {W : Type 0} (next : W → Option (Step W)) (set : Setting) where
  pub counts_there : (round : Round) (rs : List (Runner W)) → all_may_act next set round rs ≡ true → length round ≡ length rs
  counts_there [] [] e = refl
  counts_there (c ∷ round) (r ∷ rs) e = ap (λ (n : ℕ). suc n) (counts_there round rs (and_parts (may_act next set c r) (all_may_act next set round rs) e).1)
  counts_there [] (r ∷ rs) e = untrue e
  counts_there (c ∷ round) [] e = untrue e

  pub begin_length : (round : Round) (rs : List (Runner W)) → length round ≡ length rs → length (begin_all next set round rs) ≡ length rs
  begin_length [] [] e = refl
  begin_length (c ∷ round) (r ∷ rs) e = ap (λ (n : ℕ). suc n) (begin_length round rs (omega (arith, e)))
  begin_length [] (r ∷ rs) e = e
  begin_length (c ∷ round) [] e = refl

  one_number : (r : Runner W) (due : Option (Step W)) → (local_phase next set (taking r due) due).runner.has.number ≡ r.has.number
  one_number r None = refl
  one_number r (Some step) = by (class_of step.operation)
    where
      by : (c : Class) → (do_local next set (taking r (Some step)) c step).runner.has.number ≡ r.has.number
      by class.Local = local_number set step.operation r.has
      by class.Request = refl
      by class.Tree = refl

  locals_number : (count : ℕ) (r : Runner W) → (after_locals next set count r).has.number ≡ r.has.number
  locals_number zero r = refl
  locals_number (suc c) r = locals_number c (local_phase next set (taking r (next r.left)) (next r.left)).runner ∙ one_number r (next r.left)

  one_groups : (r : Runner W) (due : Option (Step W)) → groups_of (local_phase next set (taking r due) due).runner.has ≡ groups_of r.has
  one_groups r None = refl
  one_groups r (Some step) = by (class_of step.operation)
    where
      by : (c : Class) → groups_of (do_local next set (taking r (Some step)) c step).runner.has ≡ groups_of r.has
      by class.Local = local_groups set step.operation r.has
      by class.Request = refl
      by class.Tree = refl

  locals_groups : (count : ℕ) (r : Runner W) → groups_of (after_locals next set count r).has ≡ groups_of r.has
  locals_groups zero r = refl
  locals_groups (suc c) r = locals_groups c (local_phase next set (taking r (next r.left)) (next r.left)).runner ∙ one_groups r (next r.left)

joint_same : (op op' : Operation) → changes_tree op ≡ true → joint_of op ≢ joint.Alone → same_joint (joint_of op) (joint_of op') ≡ true → op' ≡ op
joint_same o.Begin o.Begin e alone same = refl
joint_same o.Begin (o.Meet true) e alone same = untrue same
joint_same o.Begin (o.Meet false) e alone same = untrue same
joint_same o.Begin op' e alone same = untrue same
joint_same o.Resume o.Resume e alone same = refl
joint_same o.Resume (o.Meet true) e alone same = untrue same
joint_same o.Resume (o.Meet false) e alone same = untrue same
joint_same o.Resume op' e alone same = untrue same
joint_same (o.Meet true) (o.Meet true) e alone same = refl
joint_same (o.Meet true) (o.Meet false) e alone same = untrue same
joint_same (o.Meet true) op' e alone same = untrue same
joint_same (o.Meet false) op' e alone same = untrue e
joint_same op op' e alone same = absurd (alone refl)

-- the only steps by which who runs by itself, or waits, changes the tree
joint_class : (op : Operation) → joint_of op ≢ joint.Alone → class_of op ≡ class.Tree
joint_class o.Begin alone = refl
joint_class o.Resume alone = refl
joint_class (o.Meet true) alone = refl
joint_class (o.Meet false) alone = refl
joint_class op alone = absurd (alone refl)

module _ {W : Type 0} (next : W → Option (Step W)) (outs : W → List W) (counts : Counts W) (set : Setting) (round : Round) (s : State W) where
  abbrev pub phases : Phases W
  phases = all_requests 0 (asking next set round s.runners) s.store

  abbrev pub actings : List (Acting W)
  actings = phases.acting

  abbrev pub old : Tree
  old = s.tree

  abbrev pub new : Tree
  new = all_changes actings old actings old

  abbrev pub settle : Runner W → Option (Step W) → Runner W
  settle r due = settled_by actings old new r due

  abbrev pub has_at : ℕ → Option (Runner W)
  has_at h = slice_get s.runners h

  abbrev pub Sound : (p : ℕ) (tree : Tree) (has : ℕ → Option (Runner W)) (here : ℕ → Here W) (behind : ℕ → List (Out W)) → Type 0
  Sound p tree has here behind = Inv (told {W = W}) (Grouped next outs counts) (Parted next outs counts) (Apart next outs counts) (Is next outs counts) p tree has here behind

  -- runners stand in the order of their numbers
  pub record Ordered (p : ℕ) : Type 0 where
    pub many : length s.runners ≡ p
    pub numbers : (h : ℕ) (r : Runner W) → slice_get s.runners h ≡ Some r → r.has.number ≡ h

  module _ (p : ℕ) (here : ℕ → Here W) (behind : ℕ → List (Out W)) (inv : Sound p old has_at here behind) (ordered : Ordered p) (possible : is_possible next set round s ≡ true) where
    both_possible : (is_none s.fault && is_allowed next set round s ≡ true) × (is_none (result next set round s).fault ≡ true)
    both_possible = and_parts (is_none s.fault && is_allowed next set round s) (is_none (result next set round s).fault) possible

    allowed : is_allowed next set round s ≡ true
    allowed = (and_parts (is_none s.fault) (is_allowed next set round s) both_possible.0).1

    none_of : (f : Option Fault) → is_none f ≡ true → f ≡ None
    none_of None e = refl
    none_of (Some f) e = untrue e

    pub no_fault : phases.fault ≡ None
    no_fault = sym (phase_fault old phases.store actings phases.fault) ∙ none_of (result next set round s).fault both_possible.1

    may_all : all_may_act next set round s.runners ≡ true
    may_all = (and_parts (all_may_act next set round s.runners) (all_fit round (joint_at (begin_all next set round s.runners)) old 0 round) allowed).0

    fit_all : all_fit round (joint_at (begin_all next set round s.runners)) old 0 round ≡ true
    fit_all = (and_parts (all_may_act next set round s.runners) (all_fit round (joint_at (begin_all next set round s.runners)) old 0 round) allowed).1

    counts_length : length round ≡ length s.runners
    counts_length = counts_there next set round s.runners may_all

    pub acting_length : length actings ≡ p
    acting_length =
        requests_length 0 (asking next set round s.runners) s.store
        ∙ length-map (begin_all next set round s.runners) (λ (a : Acting W). local_phase next set a a.due)
        ∙ begin_length next set round s.runners counts_length
        ∙ ordered.many

    -- what a processor does with its count
    abbrev asked : ℕ → Runner W → Acting W
    asked count r = let a = begin next set count r in local_phase next set a a.due

    pub record Acts (h : ℕ) : Type 0 where
      pub runner : Runner W
      pub is : slice_get s.runners h ≡ Some runner
      pub count : ℕ
      pub counted : slice_get round h ≡ Some count
      pub acting : Acting W
      pub at : slice_get actings h ≡ Some acting
      pub comes : Outcome (asked count runner) (asked count runner).due acting

    pub acts : (h : ℕ) → h < p → Acts h
    acts h lt =
        let lt' : h < length s.runners = omega (arith, ordered.many) in
        let lt'' : h < length round = omega (arith, ordered.many, counts_length) in
        let r = some_at s.runners h lt' in
        let c = some_at round h lt'' in
        let there = map_at (λ (a : Acting W). local_phase next set a a.due) (begin_all next set round s.runners) h (begin next set c.0 r.0)
        (begin_at next set round s.runners h c.0 r.0 c.1 r.1) in
        let passing = asked_at 0 (asking next set round s.runners) s.store h (asked c.0 r.0) no_fault there in
        record { runner = r.0; is = r.1; count = c.0; counted = c.1; acting = passing.acting; at = passing.at; comes = passing.comes }

    -- who is not in the round, or has passed all but one of its operations
    pub idles : (h : ℕ) (a : Acts h) → a.count ≡ 0 → a.acting ≡ taking a.runner None
    idles h a e = subst (λ (c : ℕ). Outcome (asked c a.runner) (asked c a.runner).due a.acting) e a.comes

    pub takes : (h : ℕ) (a : Acts h) (c : ℕ) → a.count ≡ suc c → Outcome (taken_by next outs counts set (after_locals next set c a.runner)) (taken_by next outs counts set (after_locals next set c a.runner)).due a.acting
    takes h a c e = subst (λ (c' : ℕ). Outcome (asked c' a.runner) (asked c' a.runner).due a.acting) e a.comes

    pub q_number : (h : ℕ) (a : Acts h) (c : ℕ) → (after_locals next set c a.runner).has.number ≡ h
    q_number h a c = locals_number next set c a.runner ∙ ordered.numbers h a.runner a.is

    pub cases_count : (c : ℕ) → (c ≡ 0) ⊎ ((d : ℕ) × (c ≡ suc d))
    cases_count zero = inl refl
    cases_count (suc d) = inr (d, refl)

    pub number_at : (h : ℕ) (b : Acting W) → slice_get actings h ≡ Some b → b.runner.has.number ≡ h
    number_at h b at =
        let a = acts h (omega (arith, acting_length, at_below actings h b at)) in
        let same : a.acting ≡ b = first_is a.acting b (sym a.at ∙ at) in
        subst (λ (b' : Acting W). b'.runner.has.number ≡ h) same
        (⊎_elim
        (λ none. subst (λ (b' : Acting W). b'.runner.has.number ≡ h) (sym (idles h a none)) (ordered.numbers h a.runner a.is))
        (λ d.
        let q = after_locals next set d.0 a.runner in
        acting_elim next outs counts set (λ (b' : Acting W). b'.runner.has.number ≡ h) q a.acting
        (λ e. q_number h a d.0)
        (λ step e c. local_number set step.operation q.has ∙ q_number h a d.0)
        (λ step v e c. answer_number step.operation v q.has ∙ q_number h a d.0)
        (λ step e c. q_number h a d.0)
        (takes h a d.0 d.1))
        (cases_count a.count))

    -- what each step of the tree keeps, one after the other, all of them keep
    module _ (K : ℕ → Tree → Type 0)
        (one : (i : ℕ) → i < p → (a : Acting W) → slice_get actings i ≡ Some a → (tree : Tree) → K i tree → K (suc i) (change_by actings old i a.due tree)) where
      others_keep : (others : List (Acting W)) (i : ℕ) (tree : Tree) → ((j : ℕ) → slice_get others j ≡ slice_get actings (i + j)) → i + length others ≡ p
          → K i tree → K p (all_changes actings old others tree)
      others_keep [] i tree same size k = let e : i ≡ p = omega (arith, size) in subst (λ (j : ℕ). K j tree) e k
      others_keep (a ∷ others) i tree same size k =
          let zero_more : i + 0 ≡ i = omega arith in
          let at : slice_get actings i ≡ Some a = ap (slice_get actings) (sym zero_more) ∙ sym (same 0) in
          let lt : i < p = omega (arith, size) in
          let next_one : K (suc i) (change_by actings old a.runner.has.number a.due tree)
          = subst (λ (j : ℕ). K (suc i) (change_by actings old j a.due tree)) (sym (number_at i a at)) (one i lt a at tree k) in
          others_keep others (suc i) (change_by actings old a.runner.has.number a.due tree)
          (λ j. let e : i + suc j ≡ suc i + j = omega arith in same (suc j) ∙ ap (slice_get actings) e)
          (omega (arith, size)) next_one

      pub all_keep : K 0 old → K p new
      all_keep first = others_keep actings 0 old (λ j. let e : j ≡ 0 + j = omega arith in ap (slice_get actings) e) (omega (arith, acting_length)) first

    pub groups_at : (h : ℕ) (b : Acting W) (r : Runner W) → slice_get actings h ≡ Some b → slice_get s.runners h ≡ Some r → groups_of b.runner.has ≡ groups_of r.has
    groups_at h b r at is =
        let a = acts h (omega (arith, acting_length, at_below actings h b at)) in
        let same : a.acting ≡ b = first_is a.acting b (sym a.at ∙ at) in
        let same_runner : a.runner ≡ r = first_is a.runner r (sym a.is ∙ is) in
        subst₂ (λ (b' : Acting W) (r' : Runner W). groups_of b'.runner.has ≡ groups_of r'.has) same same_runner
        (⊎_elim
        (λ none. ap (λ (b' : Acting W). groups_of b'.runner.has) (idles h a none))
        (λ d.
        let q = after_locals next set d.0 a.runner in
        let before : groups_of q.has ≡ groups_of a.runner.has = locals_groups next set d.0 a.runner in
        acting_elim next outs counts set (λ (b' : Acting W). groups_of b'.runner.has ≡ groups_of a.runner.has) q a.acting
        (λ e. before)
        (λ step e c. local_groups set step.operation q.has ∙ before)
        (λ step v e c. answer_groups step.operation v q.has ∙ before)
        (λ step e c. before)
        (takes h a d.0 d.1))
        (cases_count a.count))

    -- a step of the tree that is due
    record Due (h : ℕ) (a : Acts h) (step : Step W) : Type 0 where
      count : ℕ
      counted : a.count ≡ suc count
      stands : next (after_locals next set count a.runner).left ≡ Some step
      of_tree : class_of step.operation ≡ class.Tree
      acting : a.acting ≡ taking (after_locals next set count a.runner) (Some step)

    no_step : {A : Type 0} (step : Step W) → ◌≡◌ {A = Option (Step W)} None (Some step) → A
    no_step step e = absurd (cc)

    due_is : (h : ℕ) (a : Acts h) (step : Step W) → a.acting.due ≡ Some step → Due h a step
    due_is h a step due =
        ⊎_elim
        (λ none. no_step step (sym (ap (λ (b : Acting W). b.due) (idles h a none)) ∙ due))
        (λ d.
        let q = after_locals next set d.0 a.runner in
        acting_elim next outs counts set (λ (b : Acting W). b ≡ a.acting → Due h a step) q a.acting
        (λ e same. no_step step (ap (λ (b : Acting W). b.due) same ∙ due))
        (λ step' e c same. no_step step (ap (λ (b : Acting W). b.due) same ∙ due))
        (λ step' v e c same. no_step step (ap (λ (b : Acting W). b.due) same ∙ due))
        (λ step' e c same.
        let is : step' ≡ step = first_is step' step (ap (λ (b : Acting W). b.due) same ∙ due) in
        subst (Due h a) is (record { count = d.0; counted = d.1; stands = e; of_tree = c; acting = sym same }))
        (takes h a d.0 d.1) refl)
        (cases_count a.count)

    -- who stands at a step of the tree takes it
    due_by : (h : ℕ) (a : Acts h) (c : ℕ) (step : Step W) → a.count ≡ suc c → next (after_locals next set c a.runner).left ≡ Some step → class_of step.operation ≡ class.Tree
        → a.acting.due ≡ Some step
    due_by h a c step e stands tree =
        let q = after_locals next set c a.runner in
        acting_elim next outs counts set (λ (b : Acting W). b.due ≡ Some step) q a.acting
        (λ none. no_step step (sym none ∙ stands))
        (λ step' e' c'. let same : step' ≡ step = first_is step' step (sym e' ∙ stands) in clash step' step same c' tree)
        (λ step' v e' c'. let same : step' ≡ step = first_is step' step (sym e' ∙ stands) in clash' step' step same c' tree)
        (λ step' e' c'. sym e' ∙ stands)
        (takes h a c e)
      where
        clash : {A : Type 0} (step' step'' : Step W) → step' ≡ step'' → class_of step'.operation ≡ class.Local → class_of step''.operation ≡ class.Tree → A
        clash step' step'' same c' tree' = let clash : class.Local ≡ class.Tree = sym c' ∙ ap (λ (u : Step W). class_of u.operation) same ∙ tree' in absurd (cc)

        clash' : {A : Type 0} (step' step'' : Step W) → step' ≡ step'' → class_of step'.operation ≡ class.Request → class_of step''.operation ≡ class.Tree → A
        clash' step' step'' same c' tree' = let clash : class.Request ≡ class.Tree = sym c' ∙ ap (λ (u : Step W). class_of u.operation) same ∙ tree' in absurd (cc)

    -- the counts of a group in lockstep
    fits_at : (h : ℕ) (a : Acts h) → fits round (joint_at (begin_all next set round s.runners)) old h a.count ≡ true
    fits_at h a =
        let same : 0 + h ≡ h = omega arith in
        subst (λ (i : ℕ). fits round (joint_at (begin_all next set round s.runners)) old i a.count ≡ true) same
        (fit_at round (joint_at (begin_all next set round s.runners)) old round 0 h a.count fit_all a.counted)

    fits_some : (h n c : ℕ) (a : Acts h) → a.count ≡ suc c → old.places h ≡ n → fits_kind round (joint_at (begin_all next set round s.runners)) old h n (kind old n) ≡ true
    fits_some h n c a e place =
        subst (λ (m : ℕ). fits_kind round (joint_at (begin_all next set round s.runners)) old h m (kind old m) ≡ true) place
        (subst (λ (c' : ℕ). fits round (joint_at (begin_all next set round s.runners)) old h c' ≡ true) e (fits_at h a))

    module _ (n : ℕ) (locked : kind old n ≡ Some Lockstep) where
      group_leaf : IsLeaf old n
      group_leaf = leaf_by p n Lockstep old inv.sound idle-lockstep locked

      group_place : (h : ℕ) → Has old n h → old.places h ≡ n
      group_place h is = leaf_place (told {W = W}) (Grouped next outs counts) (Parted next outs counts) (Apart next outs counts) (Is next outs counts) p old has_at here behind inv n group_leaf h is

      with_one : (g h : ℕ) (a : Acts g) (b : Acts h) → Has old n g → Has old n h → (c : ℕ) → a.count ≡ suc c → b.count ≡ suc c
      with_one g h a b in_g in_h c e =
          let fit = fits_some g n c a e (group_place g in_g) in
          let whole : list_all (λ m. slice_index round m == slice_index round g) (members old n) ≡ true
          = subst (λ (o' : Option Kind). fits_kind round (joint_at (begin_all next set round s.runners)) old g n o' ≡ true) locked fit in
          let equal : slice_index round h ≡ slice_index round g = eqb-true (slice_index round h) (slice_index round g) (all_at (λ m. slice_index round m == slice_index round g) (members old n) h whole in_h) in
          sym (index_at round h b.count b.counted) ∙ equal ∙ index_at round g a.count a.counted ∙ e

      pub one_count : (g h : ℕ) (a : Acts g) (b : Acts h) → Has old n g → Has old n h → b.count ≡ a.count
      one_count g h a b in_g in_h =
          ⊎_elim
          (λ none. ⊎_elim
          (λ none'. none' ∙ sym none)
          (λ d. let e : a.count ≡ suc d.0 = with_one h g b a in_h in_g d.0 d.1 in let clash : suc d.0 ≡ 0 = sym e ∙ none in absurd (omega (arith, clash)))
          (cases_count b.count))
          (λ d. with_one g h a b in_g in_h d.0 d.1 ∙ sym d.1)
          (cases_count a.count)

    -- what a group has when its members have done what doesn't change the tree
    abbrev value : ℕ → ℕ
    value n = agreed actings (members old n)

    abbrev counted_here : (count n : ℕ) → Here W
    counted_here zero n = here n
    counted_here (suc c) n = closed next outs counts set (value n) (after_passing next outs counts set c (here n))

    abbrev here_by : Option Kind → ℕ → Here W
    here_by None n = here n
    here_by (Some Lockstep) n = counted_here (slice_index round (lowest (members old n))) n
    here_by (Some (Waiting first k)) n = here n
    here_by (Some (Asynchronous alone)) n = here n

    abbrev pub now_here : ℕ → Here W
    now_here n = here_by (kind old n) n

    abbrev pub quiet : Acting W → Runner W
    quiet b = quietly next outs counts set settle b

    abbrev pub now_has : ℕ → Option (Runner W)
    now_has h = option_map quiet (slice_get actings h)

    plain_left : (r : Runner W) (step : Step W) → changes_tree step.operation ≡ false → (settle r (Some step)).left ≡ step.rest true
    plain_left r step e = ap step.rest (plain_way step.operation (agreed actings (members old (old.places r.has.number))) (lowest (members old (old.places r.has.number))) r.has e)

    settles : (v : ℕ) (r : Runner W) → agreed actings (members old (old.places r.has.number)) ≡ v → (step : Step W) → changes_tree step.operation ≡ false
        → Settles next outs counts v step r (settle r (Some step))
    settles v r same step e = record {
      size = length (members new (new.places r.has.number));
      left = plain_left r step e;
      has = ap (λ (v' : ℕ). does step.operation v' (length (members new (new.places r.has.number))) r.has) same;
    }

    counted_is : (n h : ℕ) (a : Acts h) → old.places h ≡ n → Grouped next outs counts (behind n) (here n) → (Is next outs counts) (here n) a.runner → (c : ℕ) → a.count ≡ c → (Is next outs counts) (counted_here c n) (quiet a.acting)
    counted_is n h a place g is zero e = subst (λ (b : Acting W). (Is next outs counts) (here n) (quiet b)) (sym (idles h a e)) is
    counted_is n h a place g is (suc c) e =
        let q = after_locals next set c a.runner in
        closed_is next outs counts set settle (behind n) (after_passing next outs counts set c (here n)) (passing_grouped next outs counts set c (behind n) (here n) g) (value n) q
        (passing_is next outs counts set c (behind n) (here n) g a.runner is) (λ r. refl)
        (settles (value n) q (ap value (ap old.places (q_number h a c) ∙ place)))
        a.acting (takes h a c e)

    group_is : (n h : ℕ) (a : Acts h) → h < p → old.places h ≡ n → kind old n ≡ Some Lockstep → Grouped next outs counts (behind n) (here n) → (Is next outs counts) (here n) a.runner
        → (Is next outs counts) (here_by (Some Lockstep) n) (quiet a.acting)
    group_is n h a lt place locked g is =
        let in_h : Has old n h = subst (λ (m : ℕ). Has old m h) place (inv.sound.placed h lt).member in
        let l = lowest (members old n) in
        let in_l : Has old n l = lowest_member h (members old n) in_h in
        let b = acts l (inv.sound.within n l in_l) in
        let same : a.count ≡ slice_index round l = one_count n locked l h b a in_l in_h ∙ sym (index_at round l b.count b.counted) in
        counted_is n h a place g is (slice_index round l) same

    wait_is : (n h : ℕ) (a : Acts h) → Parted next outs counts n (behind n) (here n) → (Is next outs counts) (here n) a.runner → (Is next outs counts) (here n) (quiet a.acting)
    wait_is n h a g is =
        ⊎_elim
        (λ none. subst (λ (b : Acting W). (Is next outs counts) (here n) (quiet b)) (sym (idles h a none)) is)
        (λ d.
        let r = a.runner in
        let q = after_locals next set d.0 r in
        let same : q ≡ r = wait_many next outs counts set settle n (behind n) (here n) g d.0 r is.left in
        let left : q.left ≡ (here n).left = ap (λ (u : Runner W). u.left) same ∙ is.left in
        subst ((Is next outs counts) (here n)) (sym (wait_closed next outs counts set settle n (behind n) (here n) g q left (λ u. refl) a.acting (takes h a d.0 d.1) ∙ same)) is)
        (cases_count a.count)

    lone_is : (n h : ℕ) (a : Acts h) → Apart next outs counts n (behind n) (here n) a.runner → Apart next outs counts n (behind n) (here n) (quiet a.acting)
    lone_is n h a g =
        ⊎_elim
        (λ none. subst (λ (b : Acting W). Apart next outs counts n (behind n) (here n) (quiet b)) (sym (idles h a none)) g)
        (λ d.
        let q = after_locals next set d.0 a.runner in
        lone_closed next outs counts set settle (within n) (ahead_of next outs counts n (behind n) (here n)) (here n).numbers (AtNode next outs counts (behind n) (here n)) q
        (lone_many next outs counts set settle (within n) (ahead_of next outs counts n (behind n) (here n)) (here n).numbers (AtNode next outs counts (behind n) (here n)) d.0 a.runner g)
        (λ u. refl) (agreed actings (members old (old.places q.has.number))) (settles (agreed actings (members old (old.places q.has.number))) q refl) a.acting (takes h a d.0 d.1))
        (cases_count a.count)

    abbrev IsNow : (n : ℕ) (k : Option Kind) (x : Here W) (r : Runner W) → Type 0
    IsNow n k x r = IsThere (told {W = W}) (Grouped next outs counts) (Parted next outs counts) (Apart next outs counts) (Is next outs counts) p n k (behind n) x r

    abbrev NodeNow : (n : ℕ) (k : Option Kind) (x : Here W) → Type 0
    NodeNow n k x = NodeIs (told {W = W}) (Grouped next outs counts) (Parted next outs counts) (Apart next outs counts) (Is next outs counts) p n k (behind n) x

    kind_none : (o' : Option t.Node) → t.kind_of o' ≡ None → o' ≡ None
    kind_none None e = refl
    kind_none (Some a) e = cc

    there_by : (n h : ℕ) (a : Acts h) → h < p → old.places h ≡ n → (k : Option Kind) → kind old n ≡ k → NodeNow n k (here n) → IsNow n k (here n) a.runner
        → IsNow n k (here_by k n) (quiet a.acting)
    there_by n h a lt place None e node is =
        absurd (has_some old n h (subst (λ (m : ℕ). Has old m h) place (inv.sound.placed h lt).member) (kind_none (old.nodes n) e))
    there_by n h a lt place (Some Lockstep) e node is = group_is n h a lt place e node is
    there_by n h a lt place (Some (Waiting first k)) e node is = wait_is n h a node is
    there_by n h a lt place (Some (Asynchronous alone)) e node is = lone_is n h a is

    mapped : (h : ℕ) (b : Acting W) (r : Runner W) → slice_get actings h ≡ Some b → now_has h ≡ Some r → r ≡ quiet b
    mapped h b r at e = first_is r (quiet b) (sym e ∙ ap (λ (o' : Option (Acting W)). option_map quiet o') at)

    now_there : (h : ℕ) (r : Runner W) → h < p → now_has h ≡ Some r → IsNow (old.places h) (kind old (old.places h)) (now_here (old.places h)) r
    now_there h r lt e =
        let a = acts h lt in
        let n = old.places h in
        subst (IsNow n (kind old n) (now_here n)) (sym (mapped h a.acting r a.at e))
        (there_by n h a lt refl (kind old n) refl (inv.node n) (inv.there h a.runner lt a.is))

    counted_grouped : (n c : ℕ) → Grouped next outs counts (behind n) (here n) → Grouped next outs counts (behind n) (counted_here c n)
    counted_grouped n zero g = g
    counted_grouped n (suc c) g =
        closed_grouped next outs counts set (value n) (behind n) (after_passing next outs counts set c (here n)) (passing_grouped next outs counts set c (behind n) (here n) g)

    node_by : (n : ℕ) (k : Option Kind) → NodeNow n k (here n) → NodeNow n k (here_by k n)
    node_by n None g = tt
    node_by n (Some Lockstep) g = counted_grouped n (slice_index round (lowest (members old n))) g
    node_by n (Some (Waiting first k)) g = g
    node_by n (Some (Asynchronous alone)) g = tt

    waiting_same : (o' : Option Kind) (m n : ℕ) → awaits o' m ≡ true → here_by o' n ≡ here n
    waiting_same None m n e = refl
    waiting_same (Some Lockstep) m n e = untrue e
    waiting_same (Some (Waiting first k)) m n e = refl
    waiting_same (Some (Asynchronous alone)) m n e = refl

    pub now_inv : Sound p old now_has now_here behind
    now_inv = record {
      sound = inv.sound;
      chain = λ m ne some.
          let up = parent old m in
          inv.chain m ne some ∙ ap (λ (x : Here W). told x ∷ behind up) (sym (waiting_same (kind old up) m up (inv.sound.awaited m ne some)));
      node = λ n. node_by n (kind old n) (inv.node n);
      there = now_there;
    }

    -- who is about to change the tree does so with all members of its node
    pub record Moving (g : ℕ) (op : Operation) (n : ℕ) : Type 0 where
      pub place : old.places g ≡ n
      pub acting : Acting W
      pub at : slice_get actings g ≡ Some acting
      pub step : Step W
      pub due : acting.due ≡ Some step
      pub same : step.operation ≡ op
      pub stands : next acting.runner.left ≡ Some step

    moving : (g n : ℕ) (op : Operation) (a : Acts g) (c : ℕ) (step : Step W) → old.places g ≡ n → a.count ≡ suc c → next (after_locals next set c a.runner).left ≡ Some step
        → class_of step.operation ≡ class.Tree → step.operation ≡ op → Moving g op n
    moving g n op a c step place e stands tree same =
        let due = due_by g a c step e stands tree in
        let d = due_is g a step due in
        record {
          place = place;
          acting = a.acting;
          at = a.at;
          step = step;
          due = due;
          same = same;
          stands = subst (λ (b : Acting W). next b.runner.left ≡ Some step) (sym d.acting) d.stands;
        }

    move_together : (n h : ℕ) → h < p → old.places h ≡ n → kind old n ≡ Some Lockstep → (a : Acts h) (step : Step W) → Due h a step → (g : ℕ) → Has old n g → Moving g step.operation n
    move_together n h lt place locked a step d g in_g =
        let in_h : Has old n h = subst (λ (m : ℕ). Has old m h) place (inv.sound.placed h lt).member in
        let b = acts g (inv.sound.within n g in_g) in
        let count : b.count ≡ suc d.count = one_count n locked h g a b in_h in_g ∙ d.counted in
        let grouped : Grouped next outs counts (behind n) (here n) = subst (λ (k : Option Kind). NodeNow n k (here n)) locked (inv.node n) in
        let place_g = group_place n locked g in_g in
        let is_h = subst (λ (k : Option Kind). IsNow n k (here n) a.runner) locked (subst (λ (m : ℕ). IsThere (told {W = W}) (Grouped next outs counts) (Parted next outs counts) (Apart next outs counts) (Is next outs counts) p m (kind old m) (behind m) (here m) a.runner) place (inv.there h a.runner lt a.is)) in
        let is_g = subst (λ (k : Option Kind). IsNow n k (here n) b.runner) locked (subst (λ (m : ℕ). IsThere (told {W = W}) (Grouped next outs counts) (Parted next outs counts) (Apart next outs counts) (Is next outs counts) p m (kind old m) (behind m) (here m) b.runner) place_g (inv.there g b.runner (inv.sound.within n g in_g) b.is)) in
        let x = after_passing next outs counts set d.count (here n) in
        let q_h = passing_is next outs counts set d.count (behind n) (here n) grouped a.runner is_h in
        let q_g = passing_is next outs counts set d.count (behind n) (here n) grouped b.runner is_g in
        let stands : next (after_locals next set d.count b.runner).left ≡ Some step = ap next (q_g.left ∙ sym q_h.left) ∙ d.stands in
        moving g n step.operation b d.count step place_g count stands d.of_tree refl

    -- a joint operation
    joint_moves : (n h : ℕ) (op : Operation) → changes_tree op ≡ true → joint_of op ≢ joint.Alone → IsLeaf old n
        → all_do round (joint_at (begin_all next set round s.runners)) (joint_of op) (members old n) ≡ true → (g : ℕ) → Has old n g → Moving g op n
    joint_moves n h op changes together leaf all g in_g =
        let lt = inv.sound.within n g in_g in
        let b = acts g lt in
        let both = and_parts (slice_index round g == 1) (same_joint (joint_of op) (joint_at (begin_all next set round s.runners) g))
        (all_at (λ m. (slice_index round m == 1) && same_joint (joint_of op) (joint_at (begin_all next set round s.runners) m)) (members old n) g all in_g) in
        let one : b.count ≡ 1 = sym (index_at round g b.count b.counted) ∙ eqb-true (slice_index round g) 1 both.0 in
        let began : slice_get (begin_all next set round s.runners) g ≡ Some (begin next set b.count b.runner) = begin_at next set round s.runners g b.count b.runner b.counted b.is in
        let does_is : same_joint (joint_of op) (joint_due (next b.runner.left)) ≡ true
        = subst (λ (j : Joint). same_joint (joint_of op) j ≡ true)
        (joint_is (begin_all next set round s.runners) g (begin next set b.count b.runner) began ∙ ap (λ (c : ℕ). joint_due (begin next set c b.runner).due) one) both.1 in
        by b one (next b.runner.left) refl does_is
      where
        place_of : (g' : ℕ) → Has old n g' → old.places g' ≡ n
        place_of g' is = leaf_place (told {W = W}) (Grouped next outs counts) (Parted next outs counts) (Apart next outs counts) (Is next outs counts) p old has_at here behind inv n leaf g' is

        no_alone : {A : Type 0} (j : Joint) → j ≢ joint.Alone → same_joint j joint.Alone ≡ true → A
        no_alone joint.Alone ne e = absurd (ne refl)
        no_alone joint.Starting ne e = untrue e
        no_alone joint.AtBarrier ne e = untrue e
        no_alone joint.Closing ne e = untrue e
        no_alone joint.Resuming ne e = untrue e

        by : (b : Acts g) → b.count ≡ 1 → (due : Option (Step W)) → next b.runner.left ≡ due → same_joint (joint_of op) (joint_due due) ≡ true → Moving g op n
        by b one None e f = no_alone (joint_of op) together f
        by b one (Some step) e f =
            let same : step.operation ≡ op = joint_same op step.operation changes together f in
            moving g n op b 0 step (place_of g in_g) one e (ap class_of same ∙ joint_class op together) same

    -- what fits a node that is no group in lockstep
    joint_fits : (n h : ℕ) (a : Acts h) (step : Step W) → Due h a step → old.places h ≡ n → (k : Kind) → kind old n ≡ Some k → k ≢ Lockstep
        → joins round (joint_at (begin_all next set round s.runners)) old n (joint_of step.operation) ≡ true
    joint_fits n h a step d place k e ne =
        let began : slice_get (begin_all next set round s.runners) h ≡ Some (begin next set a.count a.runner) = begin_at next set round s.runners h a.count a.runner a.counted a.is in
        let does_is : joint_at (begin_all next set round s.runners) h ≡ joint_of step.operation
        = joint_is (begin_all next set round s.runners) h (begin next set a.count a.runner) began
        ∙ ap (λ (c : ℕ). joint_due (begin next set c a.runner).due) d.counted
        ∙ ap joint_due d.stands in
        subst (λ (j : Joint). joins round (joint_at (begin_all next set round s.runners)) old n j ≡ true) does_is
        (by k ne (subst (λ (k' : Option Kind). fits_kind round (joint_at (begin_all next set round s.runners)) old h n k' ≡ true) e (fits_some h n d.count a d.counted place)))
      where
        by : (k' : Kind) → k' ≢ Lockstep → fits_kind round (joint_at (begin_all next set round s.runners)) old h n (Some k') ≡ true
            → joins round (joint_at (begin_all next set round s.runners)) old n (joint_at (begin_all next set round s.runners) h) ≡ true
        by Lockstep ne' f = absurd (ne' refl)
        by (Waiting first parts) ne' f = f
        by (Asynchronous alone) ne' f = f

    joins_all : (n : ℕ) (op : Operation) → changes_tree op ≡ true → joint_of op ≢ joint.Alone → joins round (joint_at (begin_all next set round s.runners)) old n (joint_of op) ≡ true
        → all_do round (joint_at (begin_all next set round s.runners)) (joint_of op) (members old n) ≡ true
    joins_all n o.Begin e together f = f
    joins_all n (o.Meet true) e together f = f
    joins_all n o.Resume e together f = (and_parts (ready old n) (all_do round (joint_at (begin_all next set round s.runners)) joint.Resuming (members old n)) f).1
    joins_all n (o.Meet false) e together f = untrue e
    joins_all n op e together f = absurd (together refl)

    resume_ready : (n : ℕ) (op : Operation) → op ≡ o.Resume → joins round (joint_at (begin_all next set round s.runners)) old n (joint_of op) ≡ true → ready old n ≡ true
    resume_ready n op e f =
        let f' : joins round (joint_at (begin_all next set round s.runners)) old n joint.Resuming ≡ true
        = subst (λ (op' : Operation). joins round (joint_at (begin_all next set round s.runners)) old n (joint_of op') ≡ true) e f in
        (and_parts (ready old n) (all_do round (joint_at (begin_all next set round s.runners)) joint.Resuming (members old n)) f').0

    resume_together : (op : Operation) → op ≡ o.Resume → joint_of op ≢ joint.Alone
    resume_together op e alone = let clash : joint.Resuming ≡ joint.Alone = sym (ap joint_of e) ∙ alone in cc

    move_by : (n h : ℕ) → h < p → old.places h ≡ n → (a : Acts h) (step : Step W) → Due h a step → changes_tree step.operation ≡ true
        → (k : Option Kind) → kind old n ≡ k → NodeNow n k (here n) → IsNow n k (here n) a.runner → (g : ℕ) → Has old n g → Moving g step.operation n
    move_by n h lt place a step d changes None e node is g in_g = absurd (has_some old n g in_g (kind_none (old.nodes n) e))
    move_by n h lt place a step d changes (Some Lockstep) e node is g in_g = move_together n h lt place e a step d g in_g
    move_by n h lt place a step d changes (Some (Waiting first parts)) e node is g in_g =
        let same : after_locals next set d.count a.runner ≡ a.runner = wait_many next outs counts set settle n (behind n) (here n) node d.count a.runner is.left in
        let stands : next (here n).left ≡ Some step = sym (ap next (ap (λ (u : Runner W). u.left) same ∙ is.left)) ∙ d.stands in
        let resume : step.operation ≡ o.Resume = resumes next outs counts set settle n (behind n) (here n) node step stands in
        let joined = joint_fits n h a step d place (Waiting first parts) e (λ same_one. cc) in
        let together = resume_together step.operation resume in
        joint_moves n h step.operation changes together (leaf_ready p n old inv.sound (resume_ready n step.operation resume joined))
        (joins_all n step.operation changes together joined) g in_g
    move_by n h lt place a step d changes (Some (Asynchronous alone)) e node is g in_g =
        let q = after_locals next set d.count a.runner in
        let lone = lone_many next outs counts set settle (within n) (ahead_of next outs counts n (behind n) (here n)) (here n).numbers (AtNode next outs counts (behind n) (here n)) d.count a.runner is in
        let together = lone_joint next outs counts (within n) (ahead_of next outs counts n (behind n) (here n)) (here n).numbers (AtNode next outs counts (behind n) (here n)) q lone step d.stands changes in
        let joined = joint_fits n h a step d place (Asynchronous alone) e (λ same_one. cc) in
        joint_moves n h step.operation changes together (leaf_by p n (Asynchronous alone) old inv.sound (idle-asynchronous alone) e)
        (joins_all n step.operation changes together joined) g in_g

    pub all_move : (h : ℕ) → h < p → (b : Acting W) → slice_get actings h ≡ Some b → (step : Step W) → b.due ≡ Some step → changes_tree step.operation ≡ true
        → (g : ℕ) → Has old (old.places h) g → Moving g step.operation (old.places h)
    all_move h lt b at step due changes g in_g =
        let a = acts h lt in
        let n = old.places h in
        let same : a.acting ≡ b = first_is a.acting b (sym a.at ∙ at) in
        let d = due_is h a step (ap (λ (x : Acting W). x.due) same ∙ due) in
        move_by n h lt refl a step d changes (kind old n) refl (inv.node n) (inv.there h a.runner lt a.is) g in_g
