-- Who steps in a round: at each node nobody, or all its members together.
use Rattle.std.proofs.Common.{◌≡◌, ◌≢◌, ◌⊎◌, inl, inr, ⊎_elim, ℕ, suc, ◌+◌, ◌<◌, ◌&&◌, ◌==◌, Bool, true, false, List, [], ◌∷◌, length, slice_get, Option, Some, None, refl, sym, ap, ◌∙◌, subst, arith, eq-eqb, if◌then◌else◌}
use Rattle.std.specs.Prelude.{slice_index}
use Rattle.std.specs.List.{list_all}
use Rattle.std.proofs.lemmas.Bool.{cases_Bool, cond-true, and_parts, eqb-true}
use Rattle.fk_meaning_operation.specs.Kinds.{class_of, joint_of}
use Rattle.fk_meaning_operation.specs.declared.kinds.Class.TheVariants as class
use Rattle.fk_meaning_operation.specs.declared.kinds.Joint.{Joint}
use Rattle.fk_meaning_operation.specs.declared.kinds.Joint.TheVariants as joint
use Rattle.fk_meaning_operation.specs.declared.operation.SplitKind.{SplitKind}
use Rattle.fk_meaning_operation.specs.declared.operation.Operation.{Operation}
use Rattle.fk_meaning_operation.specs.declared.operation.Operation.TheVariants as o
use Rattle.fk_tree.specs.declared.node.Kind.{Kind}
use Rattle.fk_tree.specs.declared.node.Kind.TheVariants.{Lockstep, Waiting, Asynchronous}
use Rattle.fk_tree.specs.Tree as t
use Rattle.fk_tree.specs.Tree.{Node, Tree, members, parent, kind, is_member, ready}
use Rattle.fk_tree.specs.Sound.{Has}
use Rattle.fk_tree.proofs.Shapes.{has_some}
use Rattle.fk_tree.proofs.Turns.{IsLeaf, leaf_by, leaf_ready, idle-lockstep, idle-asynchronous}
use Rattle.fk_meaning.specs.Processor.{Processor, Setting, values}
use Rattle.fk_meaning.specs.Group.{parts}
use Rattle.fk_meaning.specs.Round.{Step, State, Round, Acting, taking, lowest, who, joint_due, same_joint, all_do, joins, fits_kind}
use Rattle.fk_lockstep.specs.Untouched.{changes_tree}
use Rattle.fk_lockstep.proofs.Round.{first_is, all_at, at_below, lowest_member, who_is}
use Rattle.fk_lockstep_tree.specs.Where.{Where, InRoot, Waits, InGroup, InBody, BehindBody, goes}
use Rattle.fk_lockstep_tree.specs.Ranges.{ranges_of}
use Rattle.fk_lockstep_tree.specs.Placed.{where_in, IsPlaced}
use Rattle.fk_lockstep_nodes.specs.Steps.{Keeps, Does, KeepsOrDoes, StepsBy, MayStep, stepping}
use Rattle.fk_lockstep_tree.specs.Steps.{StepFits, AreKnown}
use Rattle.fk_lockstep_tree.specs.Rounds.{IsRound, RoundsAreKnown}
use Rattle.fk_lockstep_tree.proofs.Moves.{OfGroups, root_begins, waiters_resume, group_steps, shrinks_deep, bodies_meet, others_meet, joint_tells, not_alone, joint_is_step, goes_on}
use Rattle.fk_lockstep_tree.proofs.Paths.{at_root, below_root, parent_below, at_node, waiting_place, IsAlone, HasBodyThere, lockstep_place, body_place}
use Rattle.fk_lockstep_tree.proofs.Acts.{IsDue, does_at, Acts, acts, counts_as, due_at, fits_at, stepping_length}

-- ---- lists

none_kind : (x : Option Node) → t.kind_of x ≡ None → x ≡ None
none_kind None e = refl
none_kind (Some node) e = absurd (cc)

-- somebody changes the tree
pub record Changes {W : Type 0} (actings : List (Acting W)) : Type 0 where
  pub index : ℕ
  pub acting : Acting W
  pub at : slice_get actings index ≡ Some acting
  pub step : Step W
  pub due : acting.due ≡ Some step
  pub changes : changes_tree step.operation ≡ true

due_keeps : {W : Type 0} (due : Option (Step W)) → Keeps due ⊎ ((step : Step W) × (due ≡ Some step) × (changes_tree step.operation ≡ true))
due_keeps None = inl tt
due_keeps (Some step) = ⊎_elim (λ e. inr (step, refl, e)) (λ e. inl e) (cases_Bool (changes_tree step.operation))

-- all do what their nodes do, if each does
pub all_step : {W : Type 0} (tree : Tree) (does : ℕ → Option Operation) (number : ℕ) (actings : List (Acting W))
    → ((i : ℕ) (b : Acting W) → slice_get actings i ≡ Some b → (b.runner.has.number ≡ number + i) × KeepsOrDoes (does (tree.places (number + i))) b.due) → StepsBy tree does number actings
all_step tree does number [] each = tt
all_step tree does number (a ∷ actings) each =
    let zero_more : number + 0 ≡ number = omega arith in
    let first = subst (λ (n : ℕ). (a.runner.has.number ≡ n) × KeepsOrDoes (does (tree.places n)) a.due) zero_more (each 0 a refl) in (
      first.0,
      first.1,
      all_step tree does (suc number) actings
          (λ i b at.
          let more : number + suc i ≡ suc number + i = omega arith in
          subst (λ (n : ℕ). (b.runner.has.number ≡ n) × KeepsOrDoes (does (tree.places n)) b.due) more (each (suc i) b at)),
    )

does_along : {W : Type 0} (operation : Operation) (due due' : Option (Step W)) → due ≡ due' → Does operation due' → Does operation due
does_along {W = W} operation due due' e does = subst (λ (x : Option (Step W)). Does operation x) (sym e) does

-- the change of the tree that is due for one
abbrev pub changing_op : {W : Type 0} → Option (Step W) → Option Operation
changing_op None = None
changing_op (Some step) = if changes_tree step.operation then Some step.operation else None

abbrev pub due_of : {W : Type 0} → Option (Acting W) → Option (Step W)
due_of None = None
due_of (Some a) = a.due

changing_does : {W : Type 0} (op : Operation) (due : Option (Step W)) → Does op due → changes_tree op ≡ true → changing_op due ≡ Some op
changing_does op None does changes = absurd does
changing_does op (Some step) does changes =
    cond-true (changes_tree step.operation) (Some step.operation) None (ap changes_tree does ∙ changes) ∙ ap (λ (x : Operation). Some x) does

-- who does such a change
record Found {W : Type 0} (op : Operation) (due : Option (Step W)) : Type 0 where
  step : Step W
  due_is : due ≡ Some step
  changes : changes_tree step.operation ≡ true
  is : step.operation ≡ op

changing_found : {W : Type 0} (op : Operation) (due : Option (Step W)) → changing_op due ≡ Some op → Found op due
changing_found op None e = absurd (cc)
changing_found op (Some step) e = by (changes_tree step.operation) refl e
  where
    by : (b : Bool) → changes_tree step.operation ≡ b → (if b then Some step.operation else None) ≡ Some op → Found op (Some step)
    by true is e' = record { step = step; due_is = refl; changes = is; is = first_is step.operation op e' }
    by false is e' = absurd (cc)

-- of a group in lockstep all steps fit that groups do
locked_fits : (tree : Tree) (g d : ℕ) (op : Operation) (to : Where) → OfGroups op → goes (InGroup d) op true ≡ Some to → ((m : ℕ) → d ≡ suc m → parent tree g ≢ 0) → kind tree g ≡ Some Lockstep
    → StepFits tree g op
locked_fits tree g d (o.Split by) to of way deep e = e
locked_fits tree g d o.Shrink to of way deep e = let s = shrinks_deep d true to way in (e, deep s.0 s.1)
locked_fits tree g d o.End to of way deep e = e
locked_fits tree g d o.Farm to of way deep e = e
locked_fits tree g d o.Seq to of way deep e = e
locked_fits tree g d op to of way deep e = absurd of

module _ {W : Type 0} (next : W → Option (Step W)) (set : Setting) (round : Round) (s : State W) (is : IsRound next set round s) where
  abbrev pub Act : ℕ → Type 0
  Act h = Acts next set round s is.single is.possible h

  abbrev pub actors : List (Acting W)
  actors = stepping next set round s

  abbrev pub dues : ℕ → Joint
  dues = does_at next set round s is.single is.possible

  pub act : (h : ℕ) → h < set.processors → Act h
  act h lt = let many = is.tree.many in acts next set round s is.single is.possible h (omega (arith, many, lt))

  pub many : length actors ≡ set.processors
  many = stepping_length next set round s is.single is.possible ∙ is.tree.many

  pub placed : (h : ℕ) (a : Act h) → IsPlaced next set (ranges_of s) s.tree h a.runner
  placed h a = is.tree.placed h a.runner a.is

  -- who is about to change the tree, in the round
  record Changing (h : ℕ) (op : Operation) : Type 0 where
    act : Act h
    one : act.count ≡ 1
    step : Step W
    op_is : step.operation ≡ op
    next_is : next act.runner.left ≡ Some step
    tree : class_of step.operation ≡ class.Tree
    changes : changes_tree step.operation ≡ true

  changing : (c : Changes actors) → Changing c.index c.step.operation
  changing c =
      let size = many in
      let lt = at_below actors c.index c.acting c.at in
      let a = act c.index (omega (arith, size, lt)) in
      let same : a.acting ≡ c.acting = first_is a.acting c.acting (sym a.at ∙ c.at) in
      let due : a.acting.due ≡ Some c.step = ap (λ (x : Acting W). x.due) same ∙ c.due in
      ⊎_elim
      (λ idle. let clash : None ≡ Some c.step = sym (ap (λ (x : Acting W). x.due) idle.0) ∙ due in absurd (cc))
      (λ busy. ⊎_elim
      (λ moved. let clash : None ≡ Some c.step = sym moved.due ∙ due in absurd (cc))
      (λ d.
      let step : d.step ≡ c.step = first_is d.step c.step (sym (ap (λ (x : Acting W). x.due) d.is) ∙ due) in
      record {
        act = a;
        one = busy.0;
        step = d.step;
        op_is = ap (λ (x : Step W). x.operation) step;
        next_is = d.next_is;
        tree = d.tree;
        changes = ap (λ (x : Step W). changes_tree x.operation) step ∙ c.changes;
      })
      busy.1)
      a.comes

  -- who has the next operation of one, and is in the round with it, does it
  due_by : (h : ℕ) (a : Act h) (step : Step W) → a.count ≡ 1 → next a.runner.left ≡ Some step → class_of step.operation ≡ class.Tree → a.acting ≡ taking a.runner (Some step)
  due_by h a step one e tree =
      ⊎_elim
      (λ idle. ⊎_elim (λ zero. let both : 0 ≡ 1 = sym zero ∙ one in absurd (omega (arith, both)))
      (λ none. let clash : None ≡ Some step = sym none ∙ e in absurd (cc)) idle.1)
      (λ busy. ⊎_elim
      (λ moved.
      let same : moved.step ≡ step = first_is moved.step step (sym moved.next_is ∙ e) in
      absurd (moved.plain (ap (λ (x : Step W). class_of x.operation) same ∙ tree)))
      (λ d.
      let same : d.step ≡ step = first_is d.step step (sym d.next_is ∙ e) in
      d.is ∙ ap (λ (x : Step W). taking a.runner (Some x)) same)
      busy.1)
      a.comes

  does_by : (h : ℕ) (a : Act h) (step : Step W) (op : Operation) → a.count ≡ 1 → next a.runner.left ≡ Some step → class_of step.operation ≡ class.Tree → step.operation ≡ op → Does op a.acting.due
  does_by h a step op one e tree same = does_along op a.acting.due (Some step) (ap (λ (x : Acting W). x.due) (due_by h a step one e tree)) same

  -- all do a joint operation
  joined : (op : Operation) (ms : List ℕ) → changes_tree op ≡ true → joint_of op ≢ joint.Alone → all_do round dues (joint_of op) ms ≡ true
      → (h : ℕ) (a : Act h) → is_member h ms ≡ true → Does op a.acting.due
  joined op ms changes together all h a in_ms =
      let both = and_parts (slice_index round h == 1) (same_joint (joint_of op) (dues h)) (all_at (λ m. (slice_index round m == 1) && same_joint (joint_of op) (dues m)) ms h all in_ms) in
      let one : a.count ≡ 1 = sym (counts_as next set round s is.single is.possible h a) ∙ eqb-true (slice_index round h) 1 both.0 in
      by a one (next a.runner.left) refl
      (subst (λ (j : Joint). same_joint (joint_of op) j ≡ true) (due_at next set round s is.single is.possible h a one) both.1)
    where
      by : (b : Act h) → b.count ≡ 1 → (due : Option (Step W)) → next b.runner.left ≡ due → same_joint (joint_of op) (joint_due due) ≡ true → Does op b.acting.due
      by b one None e same = absurd (not_alone (joint_of op) together same)
      by b one (Some step) e same =
          let op_is = joint_tells op step.operation changes together same in
          does_by h b step op one e (ap class_of op_is ∙ joint_is_step op together) op_is

  -- what fits a node that is no group in lockstep
  joins_at : (h n : ℕ) (a : Act h) (k : Kind) → a.count ≡ 1 → s.tree.places h ≡ n → kind s.tree n ≡ Some k → k ≢ Lockstep
      → (step : Step W) → next a.runner.left ≡ Some step → joins round dues s.tree n (joint_of step.operation) ≡ true
  joins_at h n a k one at e ne step next_is =
      let fit = fits_at next set round s is.single is.possible h a one in
      let here : fits_kind round dues s.tree h n (kind s.tree n) ≡ true = subst (λ (m : ℕ). fits_kind round dues s.tree h m (kind s.tree m) ≡ true) at fit in
      let due : dues h ≡ joint_of step.operation = due_at next set round s is.single is.possible h a one ∙ ap joint_due next_is in
      subst (λ (j : Joint). joins round dues s.tree n j ≡ true) due (by k ne (subst (λ (x : Option Kind). fits_kind round dues s.tree h n x ≡ true) e here))
    where
      by : (k' : Kind) → k' ≢ Lockstep → fits_kind round dues s.tree h n (Some k') ≡ true → joins round dues s.tree n (dues h) ≡ true
      by Lockstep ne' f = absurd (ne' refl)
      by (Waiting first parts) ne' f = f
      by (Asynchronous alone) ne' f = f

  -- a group in lockstep does one operation
  locked : (g h : ℕ) (a : Act h) (step : Step W) → s.tree.places h ≡ g → kind s.tree g ≡ Some Lockstep → Has s.tree g h → a.count ≡ 1 → next a.runner.left ≡ Some step
      → class_of step.operation ≡ class.Tree → (j : ℕ) (b : Act j) → Has s.tree g j → Does step.operation b.acting.due
  locked g h a step at e in_h one next_is tree j b in_j =
      let fit = fits_at next set round s is.single is.possible h a one in
      let here : fits_kind round dues s.tree h g (kind s.tree g) ≡ true = subst (λ (m : ℕ). fits_kind round dues s.tree h m (kind s.tree m) ≡ true) at fit in
      let all : list_all (λ m. slice_index round m == slice_index round h) (members s.tree g) ≡ true = subst (λ (x : Option Kind). fits_kind round dues s.tree h g x ≡ true) e here in
      let same = eqb-true (slice_index round j) (slice_index round h) (all_at (λ m. slice_index round m == slice_index round h) (members s.tree g) j all in_j) in
      let count : b.count ≡ 1
      = sym (counts_as next set round s is.single is.possible j b) ∙ same ∙ counts_as next set round s is.single is.possible h a ∙ one in
      let left = (is.one_program g j h b.runner a.runner e in_j in_h b.is a.is).left in
      does_by j b step step.operation count (ap next left ∙ next_is) tree refl

  -- the node of a processor
  pub member_at : (h n : ℕ) → h < set.processors → s.tree.places h ≡ n → Has s.tree n h
  member_at h n lt e = subst (λ (m : ℕ). Has s.tree m h) e (is.sound.placed h lt).member

  pub there_at : (h : ℕ) → h < set.processors → s.tree.nodes (s.tree.places h) ≢ None
  there_at h lt = has_some s.tree (s.tree.places h) h (is.sound.placed h lt).member

  pub leaf_stand : (n : ℕ) → IsLeaf s.tree n → (h : ℕ) → Has s.tree n h → s.tree.places h ≡ n
  leaf_stand n leaf h has = sym (is.sound.only h n (record { member = has; own = λ m ne up has'. leaf m ne (has_some s.tree m h has') up }))

  pub number_at : (h : ℕ) (a : Act h) → a.acting.runner.has.number ≡ h
  number_at h a =
      ⊎_elim
      (λ idle. ap (λ (x : Acting W). x.runner.has.number) idle.0 ∙ (placed h a).number_is)
      (λ busy. ⊎_elim
      (λ moved.
      let p = placed h a in
      let to = goes_on next p.place a.runner.left moved.step p.goes moved.next_is true in
      (moved.levels p.place true to.0 to.1).0.0 ∙ p.number_is)
      (λ d. ap (λ (x : Acting W). x.runner.has.number) d.is ∙ (placed h a).number_is)
      busy.1)
      a.comes

  -- all members of a node stand there and do one step
  pub record Together (g : ℕ) (op : Operation) : Type 0 where
    pub changes : changes_tree op ≡ true
    pub fits : StepFits s.tree g op
    pub one : ℕ
    pub member : Has s.tree g one
    pub stand : (h : ℕ) → Has s.tree g h → s.tree.places h ≡ g
    pub does : (h : ℕ) (a : Act h) → Has s.tree g h → Does op a.acting.due

  module _ (h : ℕ) (lt : h < set.processors) (op : Operation) (c : Changing h op) (g : ℕ) (at : s.tree.places h ≡ g) where
    abbrev Done : Type 0
    Done = Together g op

    abbrev here : IsPlaced next set (ranges_of s) s.tree h c.act.runner
    here = placed h c.act

    abbrev above : ℕ
    above = length c.act.runner.has.outer

    way : (to : Where) × (goes here.place c.step.operation true ≡ Some to)
    way = let to = goes_on next here.place c.act.runner.left c.step here.goes c.next_is true in (to.0, to.1)

    way_from : (place : Where) → here.place ≡ place → goes place c.step.operation true ≡ Some way.0
    way_from place e = subst (λ (q : Where). goes q c.step.operation true ≡ Some way.0) e way.1

    in_node : Has s.tree g h
    in_node = member_at h g lt at

    changes_op : changes_tree op ≡ true
    changes_op = ap changes_tree (sym c.op_is) ∙ c.changes

    place_by : (k : Kind) → kind s.tree g ≡ Some k → where_in above (Some k) (is_member h (t.runs k (members s.tree g))) ≡ Some here.place
    place_by k e = sym (at_node s.tree h above g k at e) ∙ here.there

    by_group : kind s.tree g ≡ Some Lockstep → Done
    by_group e =
        let p = lockstep_place above (is_member h (t.runs Lockstep (members s.tree g))) here.place (place_by Lockstep e) in
        let goes' = way_from (InGroup p.depth) p.is in
        let of = group_steps p.depth c.step.operation true way.0 c.changes goes' in
        let deep : (m : ℕ) → p.depth ≡ suc m → parent s.tree g ≢ 0
        = λ m two zero_is.
        parent_below set s.tree (ranges_of s) h (s.tree.places h) c.act.runner.has.level c.act.runner.has.outer m here.levels (p.above_is ∙ ap suc two) (ap (parent s.tree) at ∙ zero_is) in
        record {
          changes = changes_op;
          fits = subst (λ (x : Operation). StepFits s.tree g x) c.op_is (locked_fits s.tree g p.depth c.step.operation way.0 of goes' deep e);
          one = h;
          member = in_node;
          stand = leaf_stand g (leaf_by set.processors g Lockstep s.tree is.sound idle-lockstep e);
          does = λ j b in_j. subst (λ (x : Operation). Does x b.acting.due) c.op_is (locked g h c.act c.step at e in_node c.one c.next_is c.tree j b in_j);
        }

    -- what all do together
    joint_is : (k : Kind) → kind s.tree g ≡ Some k → k ≢ Lockstep → (x : Operation) → c.step.operation ≡ x → joins round dues s.tree g (joint_of x) ≡ true
    joint_is k e ne x op_is = subst (λ (y : Operation). joins round dues s.tree g (joint_of y) ≡ true) op_is (joins_at h g c.act k c.one at e ne c.step c.next_is)

    by_joint : (x : Operation) → c.step.operation ≡ x → changes_tree x ≡ true → joint_of x ≢ joint.Alone → StepFits s.tree g x → ((j : ℕ) → Has s.tree g j → s.tree.places j ≡ g)
        → all_do round dues (joint_of x) (members s.tree g) ≡ true → Done
    by_joint x op_is changes together fits stand all =
        let same : x ≡ op = sym op_is ∙ c.op_is in
        record {
          changes = changes_op;
          fits = subst (λ (y : Operation). StepFits s.tree g y) same fits;
          one = h;
          member = in_node;
          stand = stand;
          does = λ j b in_j. subst (λ (y : Operation). Does y b.acting.due) same (joined x (members s.tree g) changes together all j b in_j);
        }

    by_waiting : (first parts : ℕ) → kind s.tree g ≡ Some (Waiting first parts) → Done
    by_waiting first parts e =
        let place : here.place ≡ Waits above
        = first_is here.place (Waits above) (sym (place_by (Waiting first parts) e) ∙ waiting_place above first parts (is_member h (t.runs (Waiting first parts) (members s.tree g)))) in
        let op_is = waiters_resume above c.step.operation true way.0 (way_from (Waits above) place) in
        let all : ready s.tree g && all_do round dues joint.Resuming (members s.tree g) ≡ true = joint_is (Waiting first parts) e (λ f. cc) o.Resume op_is in
        let both = and_parts (ready s.tree g) (all_do round dues joint.Resuming (members s.tree g)) all in
        by_joint o.Resume op_is refl (λ f. cc) (first, parts, e) (leaf_stand g (leaf_ready set.processors g s.tree is.sound both.0)) both.1

    by_root : kind s.tree g ≡ Some (Asynchronous false) → IsAlone above false here.place → Done
    by_root e root =
        let op_is = root_begins c.step.operation true way.0 c.changes (way_from InRoot root.is) in
        let zero_is : g ≡ 0 = sym at ∙ at_root set s.tree (ranges_of s) h (s.tree.places h) c.act.runner.has.level c.act.runner.has.outer here.levels root.above_is in
        by_joint o.Begin op_is refl (λ f. cc) (zero_is, e) (leaf_stand g (leaf_by set.processors g (Asynchronous false) s.tree is.sound (idle-asynchronous false) e))
        (joint_is (Asynchronous false) e (λ f. cc) o.Begin op_is)

    by_body : (alone : Bool) → kind s.tree g ≡ Some (Asynchronous alone) → HasBodyThere above here.place → Done
    by_body alone e body =
        let op_is : c.step.operation ≡ o.Meet true
        = ⊎_elim (λ f. bodies_meet body.depth c.step.operation true way.0 c.changes (way_from (InBody body.depth) f))
        (λ f. others_meet body.depth c.step.operation true way.0 (way_from (BehindBody body.depth) f)) body.is in
        let ne : g ≢ 0
        = λ zero. below_root set s.tree (ranges_of s) h (s.tree.places h) c.act.runner.has.level c.act.runner.has.outer body.depth here.levels body.above_is (at ∙ zero) in
        by_joint (o.Meet true) op_is refl (λ f. cc) (ne, (alone, e)) (leaf_stand g (leaf_by set.processors g (Asynchronous alone) s.tree is.sound (idle-asynchronous alone) e))
        (joint_is (Asynchronous alone) e (λ f. cc) (o.Meet true) op_is)

    by_async : (alone : Bool) → kind s.tree g ≡ Some (Asynchronous alone) → Done
    by_async alone e =
        ⊎_elim
        (λ root. by_root (e ∙ ap (λ (b : Bool). Some (Asynchronous b)) root.free) (record { above_is = root.above_is; free = refl; is = root.is }))
        (λ body. by_body alone e body)
        (body_place above alone (is_member h (t.runs (Asynchronous alone) (members s.tree g))) here.place (place_by (Asynchronous alone) e))

    by_kind : (x : Option Kind) → kind s.tree g ≡ x → Done
    by_kind None e = absurd (has_some s.tree g h in_node (none_kind (s.tree.nodes g) e))
    by_kind (Some Lockstep) e = by_group e
    by_kind (Some (Waiting first parts)) e = by_waiting first parts e
    by_kind (Some (Asynchronous alone)) e = by_async alone e

    together : Done
    together = by_kind (kind s.tree g) refl

  -- ---- what each node does

  -- what the lowest member is to do that changes the tree, if it stands there
  abbrev pub does_of : ℕ → Option Operation
  does_of g = let low = lowest (members s.tree g) in if s.tree.places low == g then changing_op (due_of (slice_get actors low)) else None

  -- where one does, all do
  pub together_of : (g : ℕ) (op : Operation) → does_of g ≡ Some op → Together g op
  together_of g op e = by (s.tree.places low == g) refl e
    where
      low : ℕ
      low = lowest (members s.tree g)

      found : (b : Option (Acting W)) → slice_get actors low ≡ b → s.tree.places low ≡ g → changing_op (due_of b) ≡ Some op → Together g op
      found None at stands e' = absurd (cc)
      found (Some b) at stands e' =
          let f = changing_found op b.due e' in
          let size = many in
          let below = at_below actors low b at in
          let lt : low < set.processors = omega (arith, size, below) in
          let c = changing (record { index = low; acting = b; at = at; step = f.step; due = f.due_is; changes = f.changes }) in
          subst (Together g) f.is (together low lt f.step.operation c g stands)

      by : (b : Bool) → (s.tree.places low == g) ≡ b → (if b then changing_op (due_of (slice_get actors low)) else None) ≡ Some op → Together g op
      by true is' e' = found (slice_get actors low) refl (eqb-true (s.tree.places low) g is') e'
      by false is' e' = absurd (cc)

  -- and what all do is what the node does
  pub does_all : (g : ℕ) (op : Operation) → Together g op → does_of g ≡ Some op
  does_all g op all =
      let low = lowest (members s.tree g) in
      let in_low = lowest_member all.one (members s.tree g) all.member in
      let lt = is.sound.within g low in_low in
      let a = act low lt in
      cond-true (s.tree.places low == g) (changing_op (due_of (slice_get actors low))) None (eq-eqb (s.tree.places low) g (all.stand low in_low))
      ∙ ap (λ (x : Option (Acting W)). changing_op (due_of x)) a.at ∙ changing_does op a.acting.due (all.does low a in_low) all.changes

  pub each_steps : (h : ℕ) (a : Act h) → h < set.processors → KeepsOrDoes (does_of (s.tree.places h)) a.acting.due
  each_steps h a lt = by (does_of (s.tree.places h)) refl
    where
      g : ℕ
      g = s.tree.places h

      by : (d : Option Operation) → does_of (s.tree.places h) ≡ d → KeepsOrDoes d a.acting.due
      by (Some op) e = (together_of g op e).does h a (member_at h g lt refl)
      by None e =
          ⊎_elim (λ keeps. keeps)
          (λ x.
          let c = changing (record { index = h; acting = a.acting; at = a.at; step = x.0; due = x.1; changes = x.2 }) in
          let all = together h lt x.0.operation c g refl in
          let clash : None ≡ Some x.0.operation = sym e ∙ does_all g x.0.operation all in
          absurd (cc))
          (due_keeps a.acting.due)

  pub steps_known : StepsBy s.tree does_of 0 actors
  steps_known =
      all_step s.tree does_of 0 actors
      (λ i b at.
      let size = many in
      let below = at_below actors i b at in
      let lt : i < set.processors = omega (arith, size, below) in
      let a = act i lt in
      let same : a.acting ≡ b = first_is a.acting b (sym a.at ∙ at) in
      let none : 0 + i ≡ i = omega arith in
      subst (λ (x : Acting W). (x.runner.has.number ≡ 0 + i) × KeepsOrDoes (does_of (s.tree.places (0 + i))) x.due) same
      (number_at i a ∙ sym none, subst (λ (n : ℕ). KeepsOrDoes (does_of (s.tree.places n)) a.acting.due) (sym none) (each_steps i a lt)))

  pub may_of : (g : ℕ) (op : Operation) → does_of g ≡ Some op → MayStep s.tree g op
  may_of g op e =
      let all = together_of g op e in
      record { there = has_some s.tree g all.one all.member; stand = all.stand; root = λ begins. (subst (λ (x : Operation). StepFits s.tree g x) begins all.fits).0 }

  -- who does a step of the tree was about to do it
  pub due_is : (h : ℕ) (a : Act h) (op : Operation) → Does op a.acting.due → (d : IsDue next set a.runner a.acting) × (d.step.operation ≡ op)
  due_is h a op does' =
      ⊎_elim
      (λ idle. absurd (subst (λ (x : Option (Step W)). Does op x) (ap (λ (x : Acting W). x.due) idle.0) does'))
      (λ busy. ⊎_elim (λ moved. absurd (subst (λ (x : Option (Step W)). Does op x) moved.due does'))
      (λ d. (d, subst (λ (x : Option (Step W)). Does op x) (ap (λ (x : Acting W). x.due) d.is) does')) busy.1)
      a.comes

  -- the members of a group make as many parts
  pub parts_as_many : (g h : ℕ) (by : SplitKind) → does_of g ≡ Some (o.Split by) → Has s.tree g h
      → parts by (values (who actors h)) ≡ parts by (values (who actors (lowest (members s.tree g))))
  parts_as_many g h by e has =
      let all = together_of g (o.Split by) e in
      let low = lowest (members s.tree g) in
      let in_low = lowest_member all.one (members s.tree g) all.member in
      let a = act h (is.sound.within g h has) in
      let b = act low (is.sound.within g low in_low) in
      let d = due_is h a (o.Split by) (all.does h a has) in
      let d' = due_is low b (o.Split by) (all.does low b in_low) in
      let together = is.one_program g h low a.runner b.runner all.fits has in_low a.is b.is in
      ap (λ (q : Processor). parts by (values q)) (who_is actors h a.acting a.at ∙ ap (λ (x : Acting W). x.runner.has) d.0.is)
      ∙ together.divide d.0.step by d.0.next_is d.1
      ∙ ap (λ (q : Processor). parts by (values q)) (sym (who_is actors low b.acting b.at ∙ ap (λ (x : Acting W). x.runner.has) d'.0.is))

  known : AreKnown s.tree actors
  known = record {
    does = does_of;
    steps = steps_known;
    may = may_of;
    fits = λ g op e. (together_of g op e).fits;
    divide = parts_as_many;
  }

pub rounds_are_known : (W : Type 0) → RoundsAreKnown W
rounds_are_known W next set round s is = known next set round s is
