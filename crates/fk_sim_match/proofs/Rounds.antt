-- The round of those whose stages commit is allowed.
use Rattle.std.proofs.Common.{◌≡◌, ℕ, zero, suc, ◌+◌, ◌≤◌, ◌<◌, ◌==◌, ◌&&◌, List, [], ◌∷◌, length, slice_index, Bool, true, false, cond, Option, Some, None, sym, ap, subst, ◌∙◌, refl, arith, ◌⊎◌, inl, inr, ⊎_elim}
use Rattle.std.specs.Prelude.{slice_get, is_some, is_none}
use Rattle.std.specs.List.{list_all}
use Rattle.std.proofs.lemmas.Bool.{cases_Bool, cases_eq, cases_lt, and_from, or_cases, or_left, or_right, eq-eqb, ne_eqb, false≢true}
use Rattle.fk_num.specs.Word.{Memory}
use Rattle.fk_space.specs.Space.{Space}
use Rattle.fk_tree.specs.declared.node.Kind.{Kind}
use Rattle.fk_tree.specs.declared.node.Kind.TheVariants.{Lockstep, Waiting, Asynchronous}
use Rattle.fk_tree.specs.Tree as t
use Rattle.fk_tree.specs.Tree.{Node, Tree, members_of, is_member, is_from}
use Rattle.fk_tree.specs.Sound.{Has, IsAt, awaits, IsSound}
use Rattle.fk_tree.proofs.Shapes.{from_within}
use Rattle.fk_meaning_operation.specs.declared.kinds.Joint.{Joint}
use Rattle.fk_meaning_operation.specs.declared.kinds.Joint.TheVariants.{Alone, Starting, AtBarrier, Closing, Resuming}
use Rattle.fk_meaning.specs.Processor.{Setting}
use Rattle.fk_meaning.specs.Round.{Runner, State, Round, joint_due, joint_at, same_joint, body_of, all_do, joins, fits_kind, fits, all_fit, may_act, all_may_act, begin, begin_all, is_allowed}
use Rattle.fk_core.specs.declared.op.CoreOp.{CoreOp}
use Rattle.fk_core.specs.Next.{Position, next}
use Rattle.fk_image.specs.declared.Image.{Image}
use Rattle.fk_machine.specs.Hart.{Hart, Setting as MachineSetting}
use Rattle.fk_sim_nodes.specs.Node.{Member, numbered, of_node, add}
use Rattle.fk_sim_nodes.specs.Phase.{Phase, Outside, Away, Coming, Waiting as Polls, Leaving, members, Each, Stays, Leaves}
use Rattle.fk_sim_match.specs.Stage.{Ending, Commits, Unites, Stage, Ended, Acts, Meets, count_of_stage, counts_for, kept, absent, phase_of}
use Rattle.fk_sim_match.specs.Plan.{Plan, IsOpen, phase_at, phases_from, phases, Binds, InLockstep, AllAct, IsInside, IsBound}
use Rattle.fk_sim_block.specs.Owner.{Heaps, Owner, core_source}
use Rattle.fk_sim_block.specs.Stands.{Places}
use Rattle.fk_sim_block.specs.Node.{Nestings}
use Rattle.fk_sim_match.specs.Nodes.{first_of, HaveSpaces, body_at, meeters_at, is_arrival, is_lockstep, nodes_of, plan_of}
use Rattle.fk_sim_match.specs.Laws.{TellsMeeters}
use Rattle.fk_sim_match.specs.Behind.{blocks_of}
use Rattle.fk_sim_match.specs.Rounds.{closing_joint, joint_at_word, ending_of, IsDue, MeetsAtWord, IsDueAt, AllDue, owners_of, RoundsAreAllowed}
use Rattle.fk_sim_match.proofs.Nodes.{few_arrivals, tells}

-- ---- lists by hart

record At {A : Type 0} (xs : List A) (h : ℕ) : Type 0 where
  is : A
  at : slice_get xs h ≡ Some is

some_at : {A : Type 0} (xs : List A) (h : ℕ) → h < length xs → At xs h
some_at [] h lt = absurd (omega (arith, lt))
some_at (x ∷ xs) zero lt = record { is = x; at = refl }
some_at (x ∷ xs) (suc h) lt = let r = some_at xs h (omega (arith, lt)) in record { is = r.is; at = r.at }

counts_at : (stages : List Stage) (h : ℕ) (x : Stage) → slice_get stages h ≡ Some x → slice_index (counts_for stages) h ≡ count_of_stage x
counts_at [] h x at = absurd (cc)
counts_at (y ∷ stages) zero x at = let e : y ≡ x = cc in ap count_of_stage e
counts_at (y ∷ stages) (suc h) x at = counts_at stages h x at

pub all_true : (f : ℕ → Bool) (ms : List ℕ) → ((m : ℕ) → is_member m ms ≡ true → f m ≡ true) → list_all f ms ≡ true
all_true f [] g = refl
all_true f (m ∷ ms) g =
    and_from (f m) (list_all f ms) (g m (or_left (m == m) (is_member m ms) (eq-eqb m m refl)))
    (all_true f ms (λ n is. g n (or_right (n == m) (is_member n ms) is)))

some_member : (ms : List ℕ) → (ms ≡ [] → ⊥) → (m : ℕ) × (is_member m ms ≡ true)
some_member [] ne = absurd (ne refl)
some_member (m ∷ ms) ne = (m, or_left (m == m) (is_member m ms) (eq-eqb m m refl))

same_joints : (j : Joint) → same_joint j j ≡ true
same_joints Alone = refl
same_joints Starting = refl
same_joints AtBarrier = refl
same_joints Closing = refl
same_joints Resuming = refl

pub all_fit_by : (round : Round) (does : ℕ → Joint) (tree : Tree) (h : ℕ) (counts : List ℕ) → ((i : ℕ) → i < length counts → fits round does tree (h + i) (slice_index counts i) ≡ true)
    → all_fit round does tree h counts ≡ true
all_fit_by round does tree h [] f = refl
all_fit_by round does tree h (c ∷ counts) f =
    let here : h + 0 ≡ h = omega arith in
    and_from (fits round does tree h c) (all_fit round does tree (suc h) counts)
    (subst (λ k. fits round does tree k c ≡ true) here (f 0 (omega arith)))
    (all_fit_by round does tree (suc h) counts (λ i lt. let e : h + suc i ≡ suc h + i = omega arith in subst (λ k. fits round does tree k (slice_index counts i) ≡ true) e (f (suc i) (omega (arith, lt)))))

-- ---- phases by hart

each_at : (P : Phase → Type 0) (plan : Plan) (g w number : ℕ) (ns : List ℕ) (stages : List Stage) (h k n : ℕ) (x : Stage) → number + h ≡ k
    → Each P (phases_from plan g w number ns (kept stages)) → slice_get ns h ≡ Some n → slice_get stages h ≡ Some x
    → P (phase_at (n == g) (plan.member w k) (phase_of w (plan.member w k) (Some x)))
each_at P plan g w number (j ∷ ns) (y ∷ stages) zero k n x e all here at =
    let same : j ≡ n = cc in
    let is : y ≡ x = cc in
    let e' : number ≡ k = omega (arith, e) in
    subst (λ i. P (phase_at (n == g) (plan.member w i) (phase_of w (plan.member w i) (Some x)))) e'
    (subst (λ z. P (phase_at (n == g) (plan.member w number) (phase_of w (plan.member w number) (Some z)))) is
    (subst (λ i. P (phase_at (i == g) (plan.member w number) (phase_of w (plan.member w number) (Some y)))) same all.0))
each_at P plan g w number (j ∷ ns) (y ∷ stages) (suc h) k n x e all here at = each_at P plan g w (suc number) ns stages h k n x (omega (arith, e)) all.1 here at
each_at P plan g w number [] stages h k n x e all here at = absurd (cc)
each_at P plan g w number (j ∷ ns) [] h k n x e all here at = absurd (cc)

-- a member that leaves now stands in the node
leaves_at : (w : ℕ) (here : Bool) (f : Phase) → Leaves 0 (phase_at here true f) → (here ≡ true) × Leaves 0 f
leaves_at w true f leaves = (refl, leaves)
leaves_at w false f leaves = absurd (assumption leaves)

leaving_is : (e : Ending) (v w : ℕ) (f : Phase) → IsInside f → Leaves 0 (cond (v == w) f Away) → Meets e v f ≡ Meets e w (Leaving 0)
leaving_is ending v w f inside leaves =
    ⊎_elim (λ e. this (subst (λ b. Leaves 0 (cond b f Away)) (eq-eqb v w e) leaves) e) (λ ne. absurd (subst (λ b. Leaves 0 (cond b f Away)) (ne_eqb v w ne) leaves)) (cases_eq v w)
  where
    phase_is : (f : Phase) → IsInside f → Leaves 0 f → f ≡ Leaving 0
    phase_is Outside inside leaves = absurd (assumption inside)
    phase_is Away inside leaves = absurd (assumption inside)
    phase_is (Coming d) inside leaves = absurd (assumption leaves)
    phase_is Polls inside leaves = absurd (assumption leaves)
    phase_is (Leaving d) inside leaves = ap (λ k. Leaving k) leaves

    this : Leaves 0 f → v ≡ w → Meets ending v f ≡ Meets ending w (Leaving 0)
    this leaves e = ap (λ g. Meets ending v g) (phase_is f inside leaves) ∙ ap (λ k. Meets ending k (Leaving 0)) e

-- ---- trees

pub alive : (o : Option Node) (m : ℕ) → is_member m (members_of o) ≡ true → is_some o ≡ true
alive None m is = absurd (false≢true is)
alive (Some node) m is = refl

pub not_none : (o : Option Node) → is_some o ≡ true → (o ≡ None → ⊥)
not_none o is e = false≢true (sym (ap (λ x. is_some x) e) ∙ is)

some_or_none : (o : Option Node) → (is_none o ≡ true) ⊎ (is_some o ≡ true)
some_or_none None = inl refl
some_or_none (Some node) = inr refl

module _ (p : ℕ) (tree : Tree) (sound : IsSound p tree) where
  -- members of a group in lockstep stand there
  pub leaf_place : (n m : ℕ) → t.kind tree n ≡ Some Lockstep → Has tree n m → tree.places m ≡ n
  leaf_place n m kind has =
      sym
      (sound.only m n
      (record {
        member = has;
        own = λ k ne up has'.
            let some = not_none (tree.nodes k) (alive (tree.nodes k) m has') in
            let awaited : awaits (t.kind tree n) k ≡ true = subst (λ j. awaits (t.kind tree j) k ≡ true) up (sound.awaited k ne some) in
            false≢true (subst (λ x. awaits x k ≡ true) kind awaited);
      }))

  pub given : (n : ℕ) → is_some (tree.nodes n) ≡ true → n < tree.given
  given n is = ⊎_elim (λ lt. lt) (λ le. absurd (not_none (tree.nodes n) is (sound.numbered n le))) (cases_lt n tree.given)

  -- a node whose members all stand there has no parts any more
  parts_ended : (n first parts : ℕ) → t.kind tree n ≡ Some (Waiting first parts) → ((m : ℕ) → Has tree n m → tree.places m ≡ n) → (i : ℕ) → is_from first parts i ≡ true
      → is_none (tree.nodes i) ≡ true
  parts_ended n first parts kind all i part =
      ⊎_elim (λ none. none)
      (λ some.
      let here = not_none (tree.nodes i) some in
      let awaited : awaits (t.kind tree n) i ≡ true = subst (λ x. awaits x i ≡ true) (sym kind) part in
      let up = sound.children n i awaited here in
      let ne = sound.lower n i awaited in
      let one = some_member (t.members tree i) (λ empty. here (sound.living i empty)) in
      let has : Has tree n one.0 = subst (λ j. Has tree j one.0) up (sound.among i one.0 ne one.1) in
      let at : IsAt tree one.0 n = subst (λ j. IsAt tree one.0 j) (all one.0 has) (sound.placed one.0 (sound.within n one.0 has)) in
      absurd (at.own i ne up one.1))
      (some_or_none (tree.nodes i))

  ended_to : (first parts k : ℕ) → k ≤ parts → ((i : ℕ) → is_from first parts i ≡ true → is_none (tree.nodes i) ≡ true) → t.have_ended tree first k ≡ true
  ended_to first parts zero le ended = refl
  ended_to first parts (suc k) le ended =
      and_from (t.has_ended tree (first + k)) (t.have_ended tree first k) (ended (first + k) (from_within first parts (first + k) (omega arith) (omega (arith, le))))
      (ended_to first parts k (omega (arith, le)) ended)

-- ---- one processor

module _ (core : List CoreOp) (setting : Setting) (tree : Tree) (spaces : ℕ → Space) where
  may_single : (inner : ℕ) (r : Runner Position) → inner ≡ 0 → is_some (next core r.left) ≡ true → may_act (next core) setting (suc inner) r ≡ true
  may_single inner r single some = subst (λ n. may_act (next core) setting (suc n) r ≡ true) (sym single) some

  may_one : (g : ℕ) (x : Stage) (r : Runner Position) → IsDueAt core tree spaces g x r → may_act (next core) setting (count_of_stage x) r ≡ true
  may_one g Ended r due = refl
  may_one g (Acts zero inner) r due = may_single inner r due.single (ap is_some due.next_is)
  may_one g (Acts (suc d) inner) r due = refl
  may_one g (Meets e w Outside) r due = refl
  may_one g (Meets e w Away) r due = refl
  may_one g (Meets e w (Coming d)) r due = refl
  may_one g (Meets e w Polls) r due = refl
  may_one g (Meets Commits w (Leaving zero)) r due = ap is_some due.1.next_is
  may_one g (Meets Unites w (Leaving zero)) r due = refl
  may_one g (Meets Commits w (Leaving (suc d))) r due = refl
  may_one g (Meets Unites w (Leaving (suc d))) r due = refl

  may_all : (number : ℕ) (stages : List Stage) (rs : List (Runner Position)) → AllDue core tree spaces number stages rs → all_may_act (next core) setting (counts_for stages) rs ≡ true
  may_all number [] [] all = refl
  may_all number (x ∷ stages) (r ∷ rs) all =
      and_from (may_act (next core) setting (count_of_stage x) r) (all_may_act (next core) setting (counts_for stages) rs) (may_one (tree.places number) x r all.1)
      (may_all (suc number) stages rs all.2)
  may_all number stages rs all = absurd (assumption all)

  due_length : (number : ℕ) (stages : List Stage) (rs : List (Runner Position)) → AllDue core tree spaces number stages rs → length stages ≡ length rs
  due_length number [] [] all = refl
  due_length number (x ∷ stages) (r ∷ rs) all = ap suc (due_length (suc number) stages rs all.2)
  due_length number stages rs all = absurd (assumption all)

  due_at : (number : ℕ) (stages : List Stage) (rs : List (Runner Position)) (h k : ℕ) (x : Stage) (r : Runner Position) → AllDue core tree spaces number stages rs → number + h ≡ k
      → slice_get stages h ≡ Some x → slice_get rs h ≡ Some r → IsDueAt core tree spaces (tree.places k) x r × (slice_get (nodes_of tree rs) h ≡ Some (tree.places k))
  due_at number (y ∷ stages) (q ∷ rs) zero k x r all e at here =
      let is : y ≡ x = cc in
      let same : q ≡ r = cc in
      let e' : number ≡ k = omega (arith, e) in (
        subst (λ j. IsDueAt core tree spaces (tree.places j) x r) e'
            (subst (λ z. IsDueAt core tree spaces (tree.places number) z r) is (subst (λ z. IsDueAt core tree spaces (tree.places number) y z) same all.1)),
        ap (λ j. Some (tree.places j)) (all.0 ∙ e'),
      )
  due_at number (y ∷ stages) (q ∷ rs) (suc h) k x r all e at here = due_at (suc number) stages rs h k x r all.2 (omega (arith, e)) at here
  due_at number [] rs h k x r all e at here = absurd (cc)
  due_at number (y ∷ stages) [] h k x r all e at here = absurd (cc)

  joint_here : (stages : List Stage) (rs : List (Runner Position)) (h : ℕ) (x : Stage) (r : Runner Position) → slice_get stages h ≡ Some x → slice_get rs h ≡ Some r
      → joint_at (begin_all (next core) setting (counts_for stages) rs) h ≡ joint_due (begin (next core) setting (count_of_stage x) r).due
  joint_here (y ∷ stages) (q ∷ rs) zero x r at here =
      let is : y ≡ x = cc in
      let same : q ≡ r = cc in
      ap (λ z. joint_due (begin (next core) setting (count_of_stage z) q).due) is ∙ ap (λ z. joint_due (begin (next core) setting (count_of_stage x) z).due) same
  joint_here (y ∷ stages) (q ∷ rs) (suc h) x r at here = joint_here stages rs h x r at here
  joint_here [] rs h x r at here = absurd (cc)
  joint_here (y ∷ stages) [] h x r at here = absurd (cc)

-- all act at one distance
abbrev AllAre : (d inner : ℕ) → List Stage → Type 0
AllAre d inner [] = Unit {0}
AllAre d inner (x ∷ stages) = (x ≡ Acts d inner) × AllAre d inner stages

past_one : (d inner : ℕ) (b : Bool) (x : Stage) (stages : List Stage) → AllAre d inner (add b x stages) → AllAre d inner stages
past_one d inner true x stages all = all.1
past_one d inner false x stages all = all

act_at : (d inner g : ℕ) (ns : List ℕ) (stages : List Stage) (h : ℕ) (x : Stage) → AllAre d inner (of_node g ns stages) → slice_get ns h ≡ Some g → slice_get stages h ≡ Some x
    → x ≡ Acts d inner
act_at d inner g (n ∷ ns) (y ∷ stages) zero x all here at =
    let same : n ≡ g = cc in
    let is : y ≡ x = cc in
    sym is ∙ (subst (λ b. AllAre d inner (add b y (of_node g ns stages))) (eq-eqb n g same) all).0
act_at d inner g (n ∷ ns) (y ∷ stages) (suc h) x all here at = act_at d inner g ns stages h x (past_one d inner (n == g) y (of_node g ns stages) all) here at
act_at d inner g [] stages h x all here at = absurd (cc)
act_at d inner g (n ∷ ns) [] h x all here at = absurd (cc)

pub lockstep_kind : (k : Option Kind) → is_lockstep k ≡ true → k ≡ Some Lockstep
lockstep_kind None is = absurd (false≢true is)
lockstep_kind (Some Lockstep) is = refl
lockstep_kind (Some (Waiting first parts)) is = absurd (false≢true is)
lockstep_kind (Some (Asynchronous alone)) is = absurd (false≢true is)

nobody_inside : (fs : List Phase) → members fs ≡ 0 → Each (λ f. f ≡ Outside) fs
nobody_inside [] e = tt
nobody_inside (Outside ∷ fs) e = (refl, nobody_inside fs e)
nobody_inside (Away ∷ fs) e = absurd (omega (arith, e))
nobody_inside (Coming d ∷ fs) e = absurd (omega (arith, e))
nobody_inside (Polls ∷ fs) e = absurd (omega (arith, e))
nobody_inside (Leaving d ∷ fs) e = absurd (omega (arith, e))

-- those who run the body of a node meet at its first word, or nobody does
body_or_none : (k : Option Kind) (g : ℕ) (ms : List ℕ) → (body_at k g ms ≡ body_of k ms) ⊎ (body_at k g ms ≡ [])
body_or_none None g ms = inl refl
body_or_none (Some Lockstep) g ms = inl refl
body_or_none (Some (Waiting first parts)) zero ms = inl refl
body_or_none (Some (Waiting first parts)) (suc g) ms = inr refl
body_or_none (Some (Asynchronous alone)) g ms = inl refl

-- ---- a whole round

module _ (core : List CoreOp) (image : Image) (places : Places) (nestings : Nestings) (setting : Setting) (p : ℕ) (spaces : ℕ → Space) (u : MachineSetting) (stages : List Stage) (hs : List Hart)
    (own : ℕ → Memory) (heaps : ℕ → Heaps) (s : State Position) (spaced : HaveSpaces s.tree spaces) (sound : IsSound p s.tree) (many : length s.runners ≡ p) (due : AllDue core s.tree spaces 0 stages s.runners)
    (bound : IsBound (core_source core setting) image (plan_of s.tree spaces (nodes_of s.tree s.runners))
    (blocks_of core image places nestings setting (plan_of s.tree spaces (nodes_of s.tree s.runners)) (first_of spaces)) u stages hs (owners_of heaps s.runners) own) where
  abbrev tree : Tree
  tree = s.tree

  abbrev nodes : List ℕ
  nodes = nodes_of s.tree s.runners

  abbrev plan : Plan
  plan = plan_of s.tree spaces (nodes_of s.tree s.runners)

  abbrev round : Round
  round = counts_for stages

  abbrev does : ℕ → Joint
  does = joint_at (begin_all (next core) setting (counts_for stages) s.runners)

  -- a processor, at its stage
  record Here (h : ℕ) : Type 0 where
    stage : Stage
    runner : Runner Position
    at : slice_get stages h ≡ Some stage
    is_due : IsDueAt core tree spaces (tree.places h) stage runner
    node : slice_get nodes h ≡ Some (tree.places h)
    count : slice_index round h ≡ count_of_stage stage
    joint : does h ≡ joint_due (begin (next core) setting (count_of_stage stage) runner).due

  here : (h : ℕ) → h < p → Here h
  here h lt =
      let as_many = due_length core setting tree spaces 0 stages s.runners due in
      let x = some_at stages h (omega (arith, lt, many, as_many)) in
      let r = some_at s.runners h (omega (arith, lt, many)) in
      let is = due_at core setting tree spaces 0 stages s.runners h h x.is r.is due (omega arith) x.at r.at in
      record {
        stage = x.is;
        runner = r.is;
        at = x.at;
        is_due = is.0;
        node = is.1;
        count = counts_at stages h x.is x.at;
        joint = joint_here core setting tree spaces stages s.runners h x.is r.is x.at r.at;
      }

  -- ---- in lockstep

  act_only : (d inner : ℕ) (xs : List Stage) (ms : List Member) (ps : List Owner)
      → AllAct (core_source core setting) image plan (blocks_of core image places nestings setting plan (first_of spaces)) d inner xs ms ps → AllAre d inner xs
  act_only d inner [] [] [] all = tt
  act_only d inner (x ∷ xs) (m ∷ ms) (q ∷ ps) all = (all.0, act_only d inner xs ms ps all.1)
  act_only d inner xs ms ps all = absurd (assumption all)

  -- the distance of all members of a group
  group_acts : (n : ℕ) → is_lockstep (t.kind tree n) ≡ true → (d : ℕ) × (inner : ℕ) × ((h : ℕ) (x : Stage) → slice_get nodes h ≡ Some n → slice_get stages h ≡ Some x → x ≡ Acts d inner)
  group_acts n is =
      let group : InLockstep (core_source core setting) image plan (blocks_of core image places nestings setting plan (first_of spaces)) u n (of_node n nodes stages)
      (of_node n nodes (numbered 0 hs)) (of_node n nodes (owners_of heaps s.runners)) (own n)
      = subst
      (λ b.
      Binds (core_source core setting) image plan (blocks_of core image places nestings setting plan (first_of spaces)) b u n (of_node n nodes stages)
      (of_node n nodes (numbered 0 hs)) (of_node n nodes (owners_of heaps s.runners)) (own n))
      is (bound.binds n) in
      let all = act_only group.distance group.inner (of_node n nodes stages) (of_node n nodes (numbered 0 hs)) (of_node n nodes (owners_of heaps s.runners)) group.alike in (
        group.distance,
        group.inner,
        λ h x node at. act_at group.distance group.inner n nodes stages h x all node at,
      )

  fits_group : (h : ℕ) → h < p → t.kind tree (tree.places h) ≡ Some Lockstep → fits_kind round does tree h (tree.places h) (Some Lockstep) ≡ true
  fits_group h lt kind =
      let n = tree.places h in
      let acts = group_acts n (ap is_lockstep kind) in
      let count_is : (m : ℕ) → m < p → tree.places m ≡ n → slice_index round m ≡ count_of_stage (Acts acts.0 acts.1)
      = λ m lt' e.
      let x = here m lt' in
      x.count ∙ ap count_of_stage (acts.2 m x.stage (x.node ∙ ap (λ k. Some k) e) x.at) in
      all_true (λ m. slice_index round m == slice_index round h) (t.members tree n)
      (λ m is. eq-eqb (slice_index round m) (slice_index round h) (count_is m (sound.within n m is) (leaf_place p tree sound n m kind is) ∙ sym (count_is h lt refl)))

  -- elsewhere each acts by itself, joint operations aside
  fits_free : (h n : ℕ) (k : Option Kind) → is_lockstep k ≡ false → fits_kind round does tree h n k ≡ joins round does tree n (does h)
  fits_free h n None each = refl
  fits_free h n (Some Lockstep) each = absurd (cc)
  fits_free h n (Some (Waiting first parts)) each = refl
  fits_free h n (Some (Asynchronous alone)) each = refl

  -- ---- by meeting

  module _ (h w : ℕ) (lt : h < p) (x : Here h) (leaves : x.stage ≡ Meets Commits w (Leaving 0)) (meets : MeetsAtWord core tree spaces Commits (tree.places h) w x.runner) where
    abbrev n : ℕ
    n = tree.places h

    free : is_lockstep (t.kind tree n) ≡ false
    free =
        ⊎_elim
        (λ is. let acts = group_acts n is in let e = sym leaves ∙ acts.2 h x.stage x.node x.at in absurd (cc))
        (λ no. no)
        (cases_Bool (is_lockstep (t.kind tree n)))

    lives : is_some (tree.nodes n) ≡ true
    lives = alive (tree.nodes n) h (sound.placed h lt).member

    told : TellsMeeters tree plan n meets.offset (first_of spaces n + meets.offset)
    told = tells tree spaces spaced nodes n meets.offset lives (given p tree sound n lives) (few_arrivals meets.offset meets.arrival)

    is_open : IsOpen plan n w
    is_open = (subst (λ k. plan.words n k ≡ true) (sym meets.word_is) told.own, subst (λ k. plan.arrivals k ≡ true) (sym meets.word_is) (told.arrival ∙ meets.arrival))

    staged : slice_get stages h ≡ Some (Meets Commits w (Leaving 0))
    staged = x.at ∙ ap (λ y. Some y) leaves

    -- its own phase is known
    this : (P : Phase → Type 0) → P (phase_at (n == n) (plan.member w h) (phase_of w (plan.member w h) (Some (Meets Commits w (Leaving 0))))) → P (Leaving 0)
    this P q =
        subst (λ b. P (cond b (Leaving 0) (absent (plan.member w h)))) (eq-eqb w w refl)
        (subst (λ b. P (phase_at b (plan.member w h) (phase_of w (plan.member w h) (Some (Meets Commits w (Leaving 0)))))) (eq-eqb n n refl) q)

    -- so all who meet there leave now
    all_leave : Each (Leaves 0) (phases plan n w (kept stages))
    all_leave =
        ⊎_elim
        (λ stay. absurd (this (λ f. Stays f) (each_at Stays plan n w 0 nodes stages h h n (Meets Commits w (Leaving 0)) (omega arith) stay x.node staged)))
        (λ gone.
        let e : 0 ≡ gone.0 = this (λ f. Leaves gone.0 f) (each_at (λ f. Leaves gone.0 f) plan n w 0 nodes stages h h n (Meets Commits w (Leaving 0)) (omega arith) gone.1 x.node staged) in
        subst (λ k. Each (Leaves k) (phases plan n w (kept stages))) (sym e) gone.1)
        (bound.counts n w free is_open).together

    -- somebody meets there
    somebody_meets : meeters_at tree n meets.offset ≡ [] → ⊥
    somebody_meets none =
        let size : plan.size w ≡ 0 = ap (λ k. plan.size k) meets.word_is ∙ told.size ∙ ap (λ ms. length ms) none in
        let outside = nobody_inside (phases plan n w (kept stages)) ((bound.counts n w free is_open).size ∙ size) in
        let e : Leaving 0 ≡ Outside = this (λ f. f ≡ Outside) (each_at (λ f. f ≡ Outside) plan n w 0 nodes stages h h n (Meets Commits w (Leaving 0)) (omega arith) outside x.node staged) in
        absurd (cc)

    -- each of them stands in the node, commits, and does the same
    record Joins (m : ℕ) : Type 0 where
      place : tree.places m ≡ n
      count : slice_index round m ≡ 1
      joint : does m ≡ joint_at_word n (t.kind tree n) meets.offset

    stands_so : (m : ℕ) (y : Here m) → Leaves 0 (phase_at (tree.places m == n) true (phase_of w true (Some y.stage))) → (tree.places m ≡ n) × (y.stage ≡ Meets Commits w (Leaving 0))
    stands_so m y q =
        let there = leaves_at w (tree.places m == n) (phase_of w true (Some y.stage)) q in
        let place = eqb_same (tree.places m) n there.0 in
        let is = stage_is y.stage y.is_due there.1 in
        let at : IsInside (Leaving 0) × MeetsAtWord core tree spaces is.0 n w y.runner
        = subst (λ k. IsInside (Leaving 0) × MeetsAtWord core tree spaces is.0 k w y.runner) place (subst (λ z. IsDueAt core tree spaces (tree.places m) z y.runner) is.1 y.is_due) in
        let word = meets.word_is in
        let word' = at.1.word_is in
        let same : at.1.offset ≡ meets.offset = omega (arith, word, word') in
        let ending : is.0 ≡ Commits = at.1.ends ∙ ap (λ o. ending_of (joint_at_word n (t.kind tree n) o)) same ∙ sym meets.ends in
        (place, is.1 ∙ ap (λ e. Meets e w (Leaving 0)) ending)
      where
        eqb_same : (a b : ℕ) → (a == b) ≡ true → a ≡ b
        eqb_same a b e = ⊎_elim (λ same. same) (λ ne. absurd (false≢true (sym (ne_eqb a b ne) ∙ e))) (cases_eq a b)

        stage_is : (z : Stage) → IsDueAt core tree spaces (tree.places m) z y.runner → Leaves 0 (phase_of w true (Some z)) → (e : Ending) × (z ≡ Meets e w (Leaving 0))
        stage_is Ended d l = absurd (assumption l)
        stage_is (Acts k inner) d l = absurd (assumption l)
        stage_is (Meets e v f) d l = (e, leaving_is e v w f d.0 l)

    joins_so : (m : ℕ) → is_member m (meeters_at tree n meets.offset) ≡ true → m < p → Joins m
    joins_so m is lt' =
        let y = here m lt' in
        let member : plan.member w m ≡ true = subst (λ k. plan.member k m ≡ true) (sym meets.word_is) (told.member m ∙ is) in
        let phase = each_at (λ f. Leaves 0 f) plan n w 0 nodes stages m m (tree.places m) y.stage (omega arith) all_leave y.node y.at in
        let so = stands_so m y (subst (λ b. Leaves 0 (phase_at (tree.places m == n) b (phase_of w b (Some y.stage)))) member phase) in
        let meets' : IsInside (Leaving 0) × MeetsAtWord core tree spaces Commits n w y.runner
        = subst (λ k. IsInside (Leaving 0) × MeetsAtWord core tree spaces Commits k w y.runner) so.0 (subst (λ z. IsDueAt core tree spaces (tree.places m) z y.runner) so.1 y.is_due) in
        let word = meets.word_is in
        let word' = meets'.1.word_is in
        let same : meets'.1.offset ≡ meets.offset = omega (arith, word, word') in
        record {
          place = so.0;
          count = y.count ∙ ap count_of_stage so.1;
          joint = y.joint
              ∙ ap (λ z. joint_due (begin (next core) setting (count_of_stage z) y.runner).due) so.1
              ∙ ap joint_due meets'.1.next_is
              ∙ meets'.1.joint
              ∙ ap (λ o. joint_at_word n (t.kind tree n) o) same;
        }

    all_do_so : (ms : List ℕ) → ((m : ℕ) → is_member m ms ≡ true → Joins m) → all_do round does (joint_at_word n (t.kind tree n) meets.offset) ms ≡ true
    all_do_so ms joins =
        let j = joint_at_word n (t.kind tree n) meets.offset in
        all_true (λ m. slice_index round m == 1 && same_joint j (does m)) ms
        (λ m is.
        let so = joins m is in
        and_from (slice_index round m == 1) (same_joint j (does m)) (eq-eqb (slice_index round m) 1 so.count) (ap (same_joint j) so.joint ∙ same_joints j))

    within_body : (k : Option Kind) (ms : List ℕ) (m : ℕ) → is_member m (body_of k ms) ≡ true → is_member m ms ≡ true
    within_body None ms m is = absurd (false≢true is)
    within_body (Some Lockstep) ms m is = is
    within_body (Some (Waiting first parts)) ms m is = is
    within_body (Some (Asynchronous false)) ms m is = is
    within_body (Some (Asynchronous true)) [] m is = is
    within_body (Some (Asynchronous true)) (g ∷ ms) m is =
        ⊎_elim (λ e. or_left (m == g) (is_member m ms) e) (λ e. absurd (false≢true e)) (or_cases (m == g) (is_member m []) is)

    -- all members meet at the second word
    members_join : meets.offset ≡ 1 → (m : ℕ) → Has tree n m → Joins m
    members_join e m has = joins_so m (subst (λ o. is_member m (meeters_at tree n o) ≡ true) (sym e) has) (sound.within n m has)

    members_do : (k : Option Kind) → t.kind tree n ≡ k → meets.offset ≡ 1 → all_do round does (closing_joint n k) (t.members tree n) ≡ true
    members_do k kind e =
        subst (λ a. all_do round does (closing_joint n a) (t.members tree n) ≡ true) kind
        (subst (λ o. all_do round does (joint_at_word n (t.kind tree n) o) (t.members tree n) ≡ true) e (all_do_so (t.members tree n) (members_join e)))

    -- of the root, or of another body
    body_joins : (alone : Bool) (g : ℕ) → all_do round does (closing_joint g (Some (Asynchronous alone))) (t.members tree n) ≡ true
        → joins round does tree n (closing_joint g (Some (Asynchronous alone))) ≡ true
    body_joins alone zero all = all
    body_joins alone (suc g) all = all

    closing_joins : (k : Option Kind) → t.kind tree n ≡ k → meets.offset ≡ 1 → joins round does tree n (closing_joint n k) ≡ true
    closing_joins None kind e = refl
    closing_joins (Some Lockstep) kind e = refl
    closing_joins (Some (Asynchronous alone)) kind e = body_joins alone n (members_do (Some (Asynchronous alone)) kind e)
    closing_joins (Some (Waiting first parts)) kind e =
        let ready : t.ready tree n ≡ true
        = ap (λ a. t.is_ready tree a) kind
        ∙ ended_to p tree sound first parts parts (omega arith) (parts_ended p tree sound n first parts kind (λ m has. (members_join e m has).place)) in
        and_from (t.ready tree n) (all_do round does Resuming (t.members tree n)) ready (members_do (Some (Waiting first parts)) kind e)

    joins_by : (o : ℕ) → meets.offset ≡ o → joins round does tree n (joint_at_word n (t.kind tree n) o) ≡ true
    joins_by zero e =
        ⊎_elim
        (λ body.
        let meet : meeters_at tree n 0 ≡ body_of (t.kind tree n) (t.members tree n) = body in
        subst (λ o. all_do round does (joint_at_word n (t.kind tree n) o) (body_of (t.kind tree n) (t.members tree n)) ≡ true) e
        (all_do_so (body_of (t.kind tree n) (t.members tree n))
        (λ m is.
        joins_so m (subst (λ o. is_member m (meeters_at tree n o) ≡ true) (sym e) (subst (λ ms. is_member m ms ≡ true) (sym meet) is))
        (sound.within n m (within_body (t.kind tree n) (t.members tree n) m is)))))
        (λ none. absurd (somebody_meets (ap (λ o. meeters_at tree n o) e ∙ none)))
        (body_or_none (t.kind tree n) n (t.members tree n))
    joins_by (suc zero) e = closing_joins (t.kind tree n) refl e
    joins_by (suc (suc o)) e = absurd (false≢true (subst (λ k. is_arrival k ≡ true) e meets.arrival))

    joint_so : does h ≡ joint_at_word n (t.kind tree n) meets.offset
    joint_so = x.joint ∙ ap (λ z. joint_due (begin (next core) setting (count_of_stage z) x.runner).due) leaves ∙ ap joint_due meets.next_is ∙ meets.joint

    fits_meeting : fits_kind round does tree h n (t.kind tree n) ≡ true
    fits_meeting =
        fits_free h n (t.kind tree n) free ∙ ap (λ j. joins round does tree n j) joint_so ∙ joins_by meets.offset refl

  -- ---- all of them

  fits_alone : (h inner : ℕ) (lt : h < p) (x : Here h) → x.stage ≡ Acts 0 inner → IsDue core tree spaces (tree.places h) inner x.runner → fits_kind round does tree h (tree.places h) (t.kind tree (tree.places h)) ≡ true
  fits_alone h inner lt x e is_due =
      let n = tree.places h in
      ⊎_elim
      (λ is.
      let kind = lockstep_kind (t.kind tree n) is in
      subst (λ k. fits_kind round does tree h n k ≡ true) (sym kind) (fits_group h lt kind))
      (λ no.
      let joint : does h ≡ Alone
      = x.joint ∙ ap (λ z. joint_due (begin (next core) setting (count_of_stage z) x.runner).due) e
      ∙ ap (λ k. joint_due (begin (next core) setting (suc k) x.runner).due) is_due.single ∙ ap joint_due is_due.next_is ∙ is_due.joint no in
      fits_free h n (t.kind tree n) no ∙ ap (λ j. joins round does tree n j) joint)
      (cases_Bool (is_lockstep (t.kind tree n)))

  fits_by : (h : ℕ) (lt : h < p) (x : Here h) (z : Stage) → x.stage ≡ z → IsDueAt core tree spaces (tree.places h) z x.runner → fits round does tree h (count_of_stage z) ≡ true
  fits_by h lt x Ended e is_due = refl
  fits_by h lt x (Acts zero inner) e is_due = fits_alone h inner lt x e is_due
  fits_by h lt x (Acts (suc d) inner) e is_due = refl
  fits_by h lt x (Meets ending w Outside) e is_due = refl
  fits_by h lt x (Meets ending w Away) e is_due = refl
  fits_by h lt x (Meets ending w (Coming d)) e is_due = refl
  fits_by h lt x (Meets ending w Polls) e is_due = refl
  fits_by h lt x (Meets Commits w (Leaving zero)) e is_due = fits_meeting h w lt x e is_due.1
  fits_by h lt x (Meets Unites w (Leaving zero)) e is_due = refl
  fits_by h lt x (Meets Commits w (Leaving (suc d))) e is_due = refl
  fits_by h lt x (Meets Unites w (Leaving (suc d))) e is_due = refl

  fits_one : (h : ℕ) → h < p → fits round does tree h (slice_index round h) ≡ true
  fits_one h lt = let x = here h lt in subst (λ c. fits round does tree h c ≡ true) (sym x.count) (fits_by h lt x x.stage refl x.is_due)

  counts_length : (xs : List Stage) → length (counts_for xs) ≡ length xs
  counts_length [] = refl
  counts_length (x ∷ xs) = ap suc (counts_length xs)

  allowed : is_allowed (next core) setting round s ≡ true
  allowed =
      let as_many = due_length core setting tree spaces 0 stages s.runners due in
      let counted = counts_length stages in
      and_from (all_may_act (next core) setting round s.runners) (all_fit round does tree 0 round) (may_all core setting tree spaces 0 stages s.runners due)
      (all_fit_by round does tree 0 round
      (λ i lt. let e : i ≡ 0 + i = omega arith in subst (λ k. fits round does tree k (slice_index round i) ≡ true) e (fits_one i (omega (arith, lt, many, as_many, counted)))))

pub rounds_are_allowed : RoundsAreAllowed
rounds_are_allowed core image places nestings setting p spaces u stages hs own heaps s spaced sound many due bound =
    allowed core image places nestings setting p spaces u stages hs own heaps s spaced sound many due bound
