-- The law of one remaining program, round after round.
use Rattle.std.proofs.Common.{◌≡◌, ◌≢◌, ⊎_elim, inr, ℕ, zero, suc, ◌+◌, ◌<◌, ◌≤◌, true, false, List, [], ◌∷◌, length, slice_get, Option, Some, None, is_some, refl, sym, ap, ◌∙◌, subst, arith}
use Rattle.fk_num.specs.Word.{Memory}
use Rattle.fk_meaning_operation.specs.declared.operation.Operation.{Operation}
use Rattle.fk_meaning_operation.specs.declared.operation.Operation.TheVariants as o
use Rattle.fk_tree.specs.declared.node.Kind.{Kind}
use Rattle.fk_tree.specs.declared.node.Kind.TheVariants.{Lockstep, Waiting, Asynchronous}
use Rattle.fk_tree.specs.Tree as t
use Rattle.fk_tree.specs.Tree.{members, kind, below, root, node_of}
use Rattle.fk_tree.specs.Sound.{Has}
use Rattle.fk_tree.proofs.Shapes.{with_same, with_other, has_some, kind-node_of}
use Rattle.fk_tree.proofs.RootSound.{root_sound}
use Rattle.fk_tree.proofs.Turns.{leaf_by, idle-lockstep}
use Rattle.fk_meaning.specs.Processor.{Processor, Setting, setting_of, values, last}
use Rattle.fk_meaning.specs.Round.{Step, Runner, State, Round, Acting, result, is_possible, IsStopped}
use Rattle.fk_meaning.specs.Schedule.{Schedule, beginners, opening, run, ArePossible}
use Rattle.fk_meaning.proofs.Stopped.{stopped_faults}
use Rattle.fk_lockstep.specs.Counts.{Counts, ArePending, CountsGoOn, IsCounted}
use Rattle.fk_lockstep.specs.Course.{InGroup, Waits, ByItself, Does, FollowsFor, Follows}
use Rattle.fk_lockstep.specs.OneProgram.{groups_of, HaveOneProgram, WaitersHaveOneProgram, BeginnersHaveOneProgram, GroupsHaveOneProgram}
use Rattle.fk_lockstep.proofs.Acting.{untrue, Here, Out, told, lefts, bare, lefts_bare, HasValue, within, Is, AtNode, without, Grouped, Parted, Apart, parts_same, counts_so, does_so, going_on}
use Rattle.fk_lockstep.proofs.Trees.{IsThere, NodeIs, ThereAt, Inv, leaf_place}
use Rattle.fk_lockstep.proofs.Round.{first_is, some_at, at_below, actings as actings_of, Ordered, groups_at}
use Rattle.fk_lockstep.proofs.Settled.{after as after_of, result_is, many_after, same_has, settled_from, numbers_after}
use Rattle.fk_lockstep.proofs.KeptSizes.{Sized, new_sizes, new_sized, new_groups}
use Rattle.fk_lockstep.proofs.Changes.{ends_none, last_stage}

module _ {W : Type 0} (next : W → Option (Step W)) (outs : W → List W) (counts : Counts W) where
  abbrev pub Sound : (p : ℕ) → State W → (here : ℕ → Here W) (behind : ℕ → List (Out W)) → Type 0
  Sound p s here behind = Inv (told {W = W}) (Grouped next outs counts) (Parted next outs counts) (Apart next outs counts) (Is next outs counts) p s.tree (λ h. slice_get s.runners h) here behind

  pub record Good (p : ℕ) (s : State W) : Type 0 where
    pub here : ℕ → Here W
    pub behind : ℕ → List (Out W)
    pub inv : Sound p s here behind
    pub many : length s.runners ≡ p
    pub numbers : (h : ℕ) (r : Runner W) → slice_get s.runners h ≡ Some r → r.has.number ≡ h
    pub sizes : ℕ → List (ℕ × ℕ)
    pub sized : Sized p s.tree sizes
    pub groups : (h : ℕ) (r : Runner W) → slice_get s.runners h ≡ Some r → groups_of r.has ≡ sizes (s.tree.places h)

  -- what it says of a group
  pub grouped_at : (p : ℕ) (s : State W) (good : Good p s) (n : ℕ) → kind s.tree n ≡ Some Lockstep → Grouped next outs counts (good.behind n) (good.here n)
  grouped_at p s good n locked =
      subst (λ (o' : Option Kind). NodeIs (told {W = W}) (Grouped next outs counts) (Parted next outs counts) (Apart next outs counts) (Is next outs counts) p n o' (good.behind n) (good.here n)) locked (good.inv.node n)

  -- and of each member
  member_place : (p : ℕ) (s : State W) (good : Good p s) (n : ℕ) → kind s.tree n ≡ Some Lockstep → (k : ℕ) → Has s.tree n k → s.tree.places k ≡ n
  member_place p s good n locked =
      leaf_place (told {W = W}) (Grouped next outs counts) (Parted next outs counts) (Apart next outs counts) (Is next outs counts) p s.tree (λ j. slice_get s.runners j) good.here good.behind good.inv n
      (leaf_by p n Lockstep s.tree good.inv.sound idle-lockstep locked)

  pub member_is : (p : ℕ) (s : State W) (good : Good p s) (n : ℕ) → kind s.tree n ≡ Some Lockstep → (k : ℕ) → Has s.tree n k → (u : Runner W) → slice_get s.runners k ≡ Some u
      → Is next outs counts (good.here n) u
  member_is p s good n locked k in_k u u_is =
      subst (λ (o' : Option Kind). IsThere (told {W = W}) (Grouped next outs counts) (Parted next outs counts) (Apart next outs counts) (Is next outs counts) p n o' (good.behind n) (good.here n) u) locked
      (subst (λ (m : ℕ). ThereAt (told {W = W}) (Grouped next outs counts) (Parted next outs counts) (Apart next outs counts) (Is next outs counts) p s.tree good.here good.behind m u) (member_place p s good n locked k in_k)
      (good.inv.there k u (good.inv.sound.within n k in_k) u_is))

  good_together : (p : ℕ) (s : State W) → Good p s → HaveOneProgram next s
  good_together p s good n g h r q locked in_g in_h r_is q_is =
      let inv = good.inv in
      let grouped = grouped_at p s good n locked in
      let r_groups : groups_of r.has ≡ good.sizes n = good.groups g r r_is ∙ ap good.sizes (member_place p s good n locked g in_g) in
      let q_groups : groups_of q.has ≡ good.sizes n = good.groups h q q_is ∙ ap good.sizes (member_place p s good n locked h in_h) in
      let lower : n ≢ 0 = λ e. inv.sound.free (sym (ap (kind s.tree) e) ∙ locked) in
      let whole = r_groups ∙ good.sized.chain n lower (has_some s.tree n g in_g) in
      let first = member_is p s good n locked g in_g r r_is in
      let second = member_is p s good n locked h in_h q q_is in
      record {
        left = first.left ∙ sym second.left;
        branch = λ step onward stands branch.
            let so = does_so next outs counts (InGroup (is_some (good.here n).agreed)) (good.here n).left step grouped.follows (ap next (sym first.left) ∙ stands) 0 in
            let agreed = (subst (λ (op : Operation). Does next outs (FollowsFor next outs 0) (InGroup (is_some (good.here n).agreed)) op (good.here n).left step.rest) branch so).0 in
            same_value (good.here n).agreed agreed r q first.value second.value;
        divide = λ step by stands splits.
            let so = counts_so next outs counts (good.here n).left step first.counted (ap next (sym first.left) ∙ stands) in
            parts_same next outs counts by (good.here n).left step.rest (subst (λ (op : Operation). CountsGoOn next outs counts op (good.here n).left step.rest) splits so)
            r.has q.has (good.here n).numbers first.numbers second.numbers;
        groups = r_groups ∙ sym q_groups;
        size = ap size_in whole;
      }
    where
      size_in : List (ℕ × ℕ) → ℕ
      size_in [] = 0
      size_in (k ∷ ks) = k.1

      same_value : (a : Option ℕ) → is_some a ≡ true → (r' q' : Runner W) → HasValue a r' → HasValue a q' → last (values r'.has) ≡ last (values q'.has)
      same_value None e r' q' f g' = untrue e
      same_value (Some v) e r' q' f g' = f ∙ sym g'

  good_waiters : (p : ℕ) (s : State W) → Good p s → WaitersHaveOneProgram next s
  good_waiters p s good g h first parts r q one waits r_is q_is =
      let is_there : (k : ℕ) → s.tree.places g ≡ s.tree.places k → (u : Runner W) → slice_get s.runners k ≡ Some u → (Is next outs counts) (good.here (s.tree.places g)) u
      = λ k same u u_is.
      let size = good.many in
      let lt = at_below s.runners k u u_is in
      let lt' : k < p = omega (arith, size, lt) in
      subst (λ (o' : Option Kind). IsThere (told {W = W}) (Grouped next outs counts) (Parted next outs counts) (Apart next outs counts) (Is next outs counts) p (s.tree.places g) o' (good.behind (s.tree.places g)) (good.here (s.tree.places g)) u) waits
      (subst (λ (m : ℕ). ThereAt (told {W = W}) (Grouped next outs counts) (Parted next outs counts) (Apart next outs counts) (Is next outs counts) p s.tree good.here good.behind m u) (sym same)
      (good.inv.there k u lt' u_is)) in (
        (is_there g refl r r_is).left ∙ sym (is_there h one q q_is).left,
        good.groups g r r_is ∙ ap good.sizes one ∙ sym (good.groups h q q_is),
      )

  -- and of those who are about to begin a group: they are in the root, and the others wait there for them
  begins_in_root : (p n : ℕ) (o' : Option Kind) (b : List (Out W)) (x : Here W) (r : Runner W) (step : Step W) → o' ≢ None
      → NodeIs (told {W = W}) (Grouped next outs counts) (Parted next outs counts) (Apart next outs counts) (Is next outs counts) p n o' b x
      → IsThere (told {W = W}) (Grouped next outs counts) (Parted next outs counts) (Apart next outs counts) (Is next outs counts) p n o' b x r
      → next r.left ≡ Some step → step.operation ≡ o.Begin → (n ≡ 0) × (lefts b ≡ r.left ∷ outs (step.rest false))
  begins_in_root p n None b x r step some node there e begins = absurd (some refl)
  begins_in_root p n (Some Lockstep) b x r step some node there e begins =
      absurd (subst (λ (op : Operation). Does next outs (FollowsFor next outs 0) (InGroup (is_some x.agreed)) op x.left step.rest) begins
      (does_so next outs counts (InGroup (is_some x.agreed)) x.left step node.follows (ap next (sym there.left) ∙ e) 0))
  begins_in_root p n (Some (Waiting first parts)) b x r step some node there e begins =
      absurd (subst (λ (op : Operation). Does next outs (FollowsFor next outs 0) (Waits (within n)) op x.left step.rest) begins
      (does_so next outs counts (Waits (within n)) x.left step node.follows (ap next (sym there.left) ∙ e) 0))
  begins_in_root p zero (Some (Asynchronous alone)) b x r step some node there e begins =
      let lone = going_on next outs counts false (lefts b) x.numbers (AtNode next outs counts b x) r there step e in
      let so = subst (λ (op : Operation). Does next outs (FollowsFor next outs 0) (ByItself false) op r.left step.rest) begins
      (does_so next outs counts (ByItself false) r.left step lone.follows e 0) in
      (refl, sym lone.outs_are ∙ so.0)
  begins_in_root p (suc n) (Some (Asynchronous alone)) b x r step some node there e begins =
      let lone = going_on next outs counts true (x.left ∷ lefts b) x.numbers (AtNode next outs counts b x) r there step e in
      absurd (subst (λ (op : Operation). Does next outs (FollowsFor next outs 0) (ByItself true) op r.left step.rest) begins
      (does_so next outs counts (ByItself true) r.left step lone.follows e 0))

  good_beginners : (p : ℕ) (s : State W) → Good p s → BeginnersHaveOneProgram next s
  good_beginners p s good g h r q a b r_is q_is a_is b_is a_begins b_begins =
      same_first _ _ _ _ (sym (ahead g r a r_is a_is a_begins) ∙ ahead h q b q_is b_is b_begins)
    where
      same_first : (w v : W) (ws vs : List W) → w ∷ ws ≡ v ∷ vs → w ≡ v
      same_first w v ws vs e = cc

      of_kind : (o' : Option t.Node) → o' ≢ None → t.kind_of o' ≢ None
      of_kind None some = absurd (some refl)
      of_kind (Some node) some = λ e. cc

      ahead : (k : ℕ) (u : Runner W) (step : Step W) → slice_get s.runners k ≡ Some u → next u.left ≡ Some step → step.operation ≡ o.Begin
          → lefts (good.behind 0) ≡ u.left ∷ outs (step.rest false)
      ahead k u step at e begins =
          let n = s.tree.places k in
          let many = good.many in
          let below = at_below s.runners k u at in
          let lt : k < p = omega (arith, many, below) in
          let there = has_some s.tree n k (good.inv.sound.placed k lt).member in
          let so = begins_in_root p n (kind s.tree n) (good.behind n) (good.here n) u step (of_kind (s.tree.nodes n) there) (good.inv.node n) (good.inv.there k u lt at) e begins in
          subst (λ (m : ℕ). lefts (good.behind m) ≡ u.left ∷ outs (step.rest false)) so.0 so.1

  module _ (set : Setting) (round : Round) (s : State W) (p : ℕ) (good : Good p s) (possible : is_possible next set round s ≡ true) where
    ordered : Ordered next outs counts set round s p
    ordered = record { many = good.many; numbers = good.numbers }

    abbrev actings : List (Acting W)
    actings = actings_of next outs counts set round s

    abbrev after : State W
    after = after_of next outs counts set round s p good.here good.behind good.inv ordered possible

    sizes_are : (h : ℕ) (b : Acting W) → slice_get actings h ≡ Some b → h < p → groups_of b.runner.has ≡ good.sizes (s.tree.places h)
    sizes_are h b at lt =
        let size = good.many in
        let r = some_at s.runners h (omega (arith, size, lt)) in
        groups_at next outs counts set round s p good.here good.behind good.inv ordered possible h b r.0 at r.1 ∙ good.groups h r.0 r.1

    good_after : Good p after
    good_after =
        let st = last_stage next outs counts set round s p good.here good.behind good.inv ordered possible in
        record {
          here = st.here;
          behind = st.behind;
          inv = record {
            sound = st.inv.sound;
            chain = st.inv.chain;
            node = st.inv.node;
            there = λ h r lt e. st.inv.there h r lt (sym (same_has next outs counts set round s p good.here good.behind good.inv ordered possible h lt) ∙ e);
          };
          many = many_after next outs counts set round s p good.here good.behind good.inv ordered possible;
          numbers = numbers_after next outs counts set round s p good.here good.behind good.inv ordered possible;
          sizes = new_sizes next outs counts set round s p good.here good.behind good.inv ordered possible good.sizes good.sized sizes_are;
          sized = new_sized next outs counts set round s p good.here good.behind good.inv ordered possible good.sizes good.sized sizes_are;
          groups = λ h r e.
              let size = many_after next outs counts set round s p good.here good.behind good.inv ordered possible in
              let lt = at_below after.runners h r e in
              let lt' : h < p = omega (arith, size, lt) in
              let f = settled_from next outs counts set round s p good.here good.behind good.inv ordered possible h r e in
              ap (λ (u : Runner W). groups_of u.has) f.is
              ∙ new_groups next outs counts set round s p good.here good.behind good.inv ordered possible good.sizes good.sized sizes_are h lt' f.acting f.at;
        }

    pub good_round : Good p (result next set round s)
    good_round = subst (Good p) (sym (result_is next outs counts set round s p good.here good.behind good.inv ordered possible)) good_after

  -- a stopped round has a fault
  pub not_stopped : {A : Type 0} (set : Setting) (round : Round) (s : State W) → IsStopped next set round s → (result next set round s).fault ≡ None → A
  not_stopped set round s stopped none = let clash : Some stopped.fault ≡ None = sym (stopped_faults next set round s stopped) ∙ none in absurd (cc)

  pub good_run : (set : Setting) (schedule : Schedule) (p : ℕ) (s : State W) → Good p s → ArePossible next set schedule s → (run next set schedule s).fault ≡ None → Good p (run next set schedule s)
  good_run set [] p s good possible none = good
  good_run set (round ∷ []) p s good possible none =
      ⊎_elim (λ is. good_round set round s p good is) (λ stopped. not_stopped set round s stopped none) possible
  good_run set (round ∷ other ∷ schedule) p s good possible none =
      good_run set (other ∷ schedule) p (result next set round s) (good_round set round s p good possible.0) possible.1 none

  -- the beginning
  pub record Beginner (size : ℕ) (program : W) (h : ℕ) (r : Runner W) : Type 0 where
    pub left : r.left ≡ program
    pub number : r.has.number ≡ h
    pub groups : groups_of r.has ≡ (0, size) ∷ []

  pub beginner_at : (set : Setting) (firsts : Memory) (program : W) (h count i : ℕ) (r : Runner W) → slice_get (beginners set firsts program h count) i ≡ Some r → Beginner set.processors program (h + i) r
  beginner_at set firsts program h zero i r e = absurd (cc)
  beginner_at set firsts program h (suc count) zero r e =
      let same = first_is _ r e in
      let more : h ≡ h + 0 = omega arith in
      record { left = ap (λ (u : Runner W). u.left) (sym same); number = ap (λ (u : Runner W). u.has.number) (sym same) ∙ more; groups = ap (λ (u : Runner W). groups_of u.has) (sym same) }
  beginner_at set firsts program h (suc count) (suc i) r e =
      let more : suc h + i ≡ h + suc i = omega arith in
      subst (λ (j : ℕ). Beginner set.processors program j r) more (beginner_at set firsts program (suc h) count i r e)

  beginners_length : (set : Setting) (firsts : Memory) (program : W) (h count : ℕ) → length (beginners set firsts program h count) ≡ count
  beginners_length set firsts program h zero = refl
  beginners_length set firsts program h (suc count) = ap (λ (n : ℕ). suc n) (beginners_length set firsts program (suc h) count)

  module _ (program : W) (follows : Follows next outs (ByItself false) program) (none : (p : Processor) → ArePending next outs counts program p []) (counted : IsCounted next outs counts program) (processors : ℕ) (globals input : List ℕ) (firsts : Memory) (some : 1 ≤ processors) where
    abbrev pub start : State W
    start = opening processors globals input firsts program

    abbrev at_start : ℕ → Here W
    at_start n = without program []

    abbrev ahead_at_start : ℕ → List (Out W)
    ahead_at_start n = bare (outs program)

    pub only_root : (n : ℕ) → n ≢ 0 → (root processors).nodes n ≡ None
    only_root n ne = with_other 0 (node_of (below processors []) 0 (Asynchronous false)) (λ i. None) n ne

    pub root_kind : kind (root processors) 0 ≡ Some (Asynchronous false)
    root_kind =
        let sound = root_sound processors some in
        let there = has_some (root processors) 0 0 (sound.placed 0 (omega (arith, some))).member in
        let same : (root processors).nodes 0 ≡ node_of (below processors []) 0 (Asynchronous false)
        = with_same 0 (node_of (below processors []) 0 (Asynchronous false)) (λ i. None) 0 refl in
        ap t.kind_of same ∙ kind-node_of (below processors []) 0 (Asynchronous false) (λ none. there (same ∙ none))

    pub good_start : Good processors start
    good_start = record {
      here = at_start;
      behind = ahead_at_start;
      inv = record {
        sound = root_sound processors some;
        chain = λ m ne is. absurd (is (only_root m ne));
        node = λ n. node_at n;
        there = λ h r lt e.
            subst (λ (o' : Option Kind). IsThere (told {W = W}) (Grouped next outs counts) (Parted next outs counts) (Apart next outs counts) (Is next outs counts) processors 0 o' (bare (outs program)) (without program []) r) (sym root_kind)
            (let left = (beginner_at (setting_of processors globals input) firsts program 0 processors h r e).left in
            inr (record {
              outs_are = ap outs left ∙ sym (lefts_bare (outs program));
              follows = subst (Follows next outs (ByItself false)) (sym left) follows;
              more = [];
              numbers = subst (λ (w : W). ArePending next outs counts w r.has []) (sym left) (none r.has);
              counted = subst (IsCounted next outs counts) (sym left) counted;
              holds = record { many = counts.many program r.has [] (none r.has); ends = ends_none (outs program) };
            }));
      };
      many = beginners_length (setting_of processors globals input) firsts program 0 processors;
      numbers = λ h r e. (beginner_at (setting_of processors globals input) firsts program 0 processors h r e).number ∙ zero_less h;
      sizes = λ n. (0, processors) ∷ [];
      sized = record { root = refl; number = λ m. 0; chain = λ m ne is. absurd (is (only_root m ne)) };
      groups = λ h r e. (beginner_at (setting_of processors globals input) firsts program 0 processors h r e).groups;
    }
      where
        zero_less : (h : ℕ) → 0 + h ≡ h
        zero_less h = omega arith

        node_at : (n : ℕ) → NodeIs (told {W = W}) (Grouped next outs counts) (Parted next outs counts) (Apart next outs counts) (Is next outs counts) processors n (kind (root processors) n) (bare (outs program)) (without program [])
        node_at zero = subst (λ (o' : Option Kind). NodeIs (told {W = W}) (Grouped next outs counts) (Parted next outs counts) (Apart next outs counts) (Is next outs counts) processors 0 o' (bare (outs program)) (without program [])) (sym root_kind) tt
        node_at (suc n) =
            subst (λ (o' : Option t.Node). NodeIs (told {W = W}) (Grouped next outs counts) (Parted next outs counts) (Apart next outs counts) (Is next outs counts) processors (suc n) (t.kind_of o') (bare (outs program)) (without program []))
            (sym (only_root (suc n) (λ same_one. omega (arith, same_one)))) tt

pub groups_have_one_program : (W : Type 0) → GroupsHaveOneProgram W
groups_have_one_program W next outs program follows counts nothing counted set schedule processors globals input firsts some possible none =
    let last = run next set schedule (opening processors globals input firsts program) in
    let good = good_run next outs counts set schedule processors (opening processors globals input firsts program) (good_start next outs counts program follows nothing counted processors globals input firsts some) possible none in
    record {
      members = good_together next outs counts processors last good;
      waiters = good_waiters next outs counts processors last good;
      beginners = good_beginners next outs counts processors last good;
      tree = good.inv.sound;
    }
