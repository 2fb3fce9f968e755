-- What becomes known when a processor comes to its next operation.
use Rattle.std.proofs.Common.{◌≡◌, ◌≢◌, ◌⊎◌, inl, inr, ⊎_elim, ℕ, suc, ◌+◌, ◌<◌, ◌≤◌, ◌==◌, ◌&&◌, ◌||◌, Bool, true, false, true≢false, List, ◌∷◌, length, slice_get, Option, Some, None, is_some, refl, sym, ap, ◌∙◌, subst, subst₂, arith}
use Rattle.std.proofs.lemmas.Bool.{and_parts, eqb-true, eq-eqb, ne_eqb, cases_eq}
use Rattle.fk_meaning_operation.specs.declared.kinds.Joint.{Joint}
use Rattle.fk_meaning_operation.specs.declared.kinds.Joint.TheVariants.{Alone, Starting, AtBarrier, Closing, Resuming}
use Rattle.fk_tree.specs.declared.node.Kind.{Kind}
use Rattle.fk_tree.specs.declared.node.Kind.TheVariants.{Lockstep, Waiting, Asynchronous}
use Rattle.fk_tree.specs.Tree as t
use Rattle.fk_tree.specs.Tree.{Tree, Node, is_member}
use Rattle.fk_tree.specs.Sound.{Has, is_ascending, is_below_all}
use Rattle.fk_tree.proofs.Shapes.{has_some}
use Rattle.fk_tree.proofs.Lists.{below_all-member}
use Rattle.fk_tree.proofs.Turns.{leaf_by, leaf_ready, idle-asynchronous}
use Rattle.fk_meaning.specs.Processor.{Setting}
use Rattle.fk_meaning.specs.Round.{Step, Runner, State, joint_due, same_joint, body_of, lowest}
use Rattle.fk_lockstep.proofs.Round.{some_at, first_is}
use Rattle.fk_lockstep_tree.specs.Where.{Where, InRoot, Waits, GoesFor, GoesNext}
use Rattle.fk_lockstep_tree.specs.Runs.{StandsInTree}
use Rattle.fk_lockstep_tree.proofs.Paths.{at_node, waiting_place}
use Rattle.fk_replay_able.specs.Able.{waits_for_none, step_of, step_at, joint_before, AreMet, IsAble}
use Rattle.fk_replay_able.specs.Known.{with_one, with_all, number_of, is_free, is_before, is_coming, IsCounter, IsAnnounced, KnowsAble, CountsOne, Arrives, ArrivalsKnowAble, OpeningsKnowAble}
use Rattle.fk_replay_able.proofs.Able.{untrue, same_is, same_self, alone_free, leaf_stands, waits_resume, within}
use Rattle.fk_replay_able.proofs.Numbers.{first_member, later_member, either_member, same_number, at_most, all_have, each_has, some_has, one_less}
use Rattle.fk_replay_able.proofs.Counted.{lowest_has}

or_true : (a b : Bool) → (a || b) ≡ true → (a ≡ true) ⊎ (b ≡ true)
or_true true b e = inl refl
or_true false b e = inr e

or_right : (a b : Bool) → b ≡ true → (a || b) ≡ true
or_right true b e = refl
or_right false b e = e

and_false : (a : Bool) → (a && false) ≡ false
and_false true = refl
and_false false = refl

-- who waits for others is before a joint operation
not_alone : (k : Option Kind) (joint : Joint) → waits_for_none k joint ≡ false → same_joint joint Alone ≡ false
not_alone k Alone waits = absurd (true≢false (sym (alone_free k) ∙ waits))
not_alone k Starting waits = refl
not_alone k AtBarrier waits = refl
not_alone k Closing waits = refl
not_alone k Resuming waits = refl

due_waits : {W : Type 0} (k : Option Kind) (due : Option (Step W)) → waits_for_none k (joint_due due) ≡ false → is_some due ≡ true
due_waits k None waits = absurd (true≢false (sym (alone_free k) ∙ waits))
due_waits k (Some step) waits = refl

due_ended : {W : Type 0} (due : Option (Step W)) → is_some due ≡ false → joint_due due ≡ Alone
due_ended None e = refl
due_ended (Some step) e = absurd (true≢false e)

-- ---- before anybody has come

module _ {W X : Type 0} (next : W → Option (Step W)) (place : W → X) (set : Setting) (s : State W) (coming : List ℕ) (stands : StandsInTree next place set s)
    (ascending : is_ascending coming ≡ true) (these : (h : ℕ) → is_member h coming ≡ true → h < set.processors) (all : (h : ℕ) → h < set.processors → is_member h coming ≡ true) where
  pub at_first : KnowsAble next s coming (λ h. false) (λ h joint. 0)
  at_first = record {
    ascending = ascending;
    placed = λ h is. (stands.sound.placed h (these h is)).member;
    true_of = λ h e. untrue e;
    whole = λ h a. inr (record { by = h; comes = all h (within next place set s stands h a.goes_on); concerns = inl refl });
    together = λ g h e waits has. e;
    counted = λ h joint c.
        let ms = t.members s.tree (s.tree.places h) in
        let same = same_number (is_coming next s coming joint) (is_before next s joint) ms
        (λ m is. ap (λ (b : Bool). b && is_before next s joint m) (all m (stands.sound.within (s.tree.places h) m is))) in
        omega (arith, same);
    others = λ h joint other. refl;
  }

pub openings_know_able : (W X : Type 0) → OpeningsKnowAble W X
openings_know_able W X next place set s coming stands ascending these all = at_first next place set s coming stands ascending these all

-- ---- one comes

module _ {W X : Type 0} (next : W → Option (Step W)) (place : W → X) (set : Setting) (s : State W) (stands : StandsInTree next place set s) where
  -- who waits for parts has an operation left
  waiting_goes_on : (m first parts : ℕ) → m < set.processors → t.kind s.tree (s.tree.places m) ≡ Some (Waiting first parts) → is_some (step_at next s m) ≡ true
  waiting_goes_on m first parts lt kind = by (some_at s.runners m (let size = stands.tree.many in omega (arith, lt, size)))
    where
      due : (r : Runner W) (q : Where) → q ≡ Waits (length r.has.outer) → (d : Option (Step W)) → GoesNext next (GoesFor next 0) q d → is_some d ≡ true
      due r q is None goes = absurd (let bad : Waits (length r.has.outer) ≡ InRoot = sym is ∙ goes in cc)
      due r q is (Some step) goes = refl

      by : (r : Runner W) × (slice_get s.runners m ≡ Some r) → is_some (step_at next s m) ≡ true
      by found =
          let r = found.0 in
          let p = stands.tree.placed m r found.1 in
          let above = length r.has.outer in
          let is : p.place ≡ Waits above =
          first_is p.place (Waits above)
          (sym p.there ∙ at_node s.tree m above (s.tree.places m) (Waiting first parts) refl kind
          ∙ waiting_place above first parts (is_member m (body_of (Some (Waiting first parts)) (t.members s.tree (s.tree.places m))))) in
          ap (λ (x : Option (Runner W)). is_some (step_of next x)) found.1 ∙ due r p.place is (next r.left) (p.goes 1)

  module _ (h : ℕ) (coming : List ℕ) (able : ℕ → Bool) (arrived : ℕ → Joint → ℕ) (knows : KnowsAble next s (h ∷ coming) able arrived) where
    abbrev n : ℕ
    n = s.tree.places h

    abbrev ms : List ℕ
    ms = t.members s.tree n

    abbrev j : Joint
    j = joint_before next s h

    here : Has s.tree n h
    here = knows.placed h (first_member h coming)

    rises : (is_below_all h coming ≡ true) × (is_ascending coming ≡ true)
    rises = and_parts (is_below_all h coming) (is_ascending coming) knows.ascending

    gone : is_member h coming ≡ false
    gone = by (is_member h coming) refl
      where
        by : (b : Bool) → is_member h coming ≡ b → is_member h coming ≡ false
        by false e = e
        by true e = let lt = below_all-member h coming h rises.0 e in absurd (omega (arith, lt))

    placed_on : (m : ℕ) → is_member m coming ≡ true → Has s.tree (s.tree.places m) m
    placed_on m is = knows.placed m (later_member h m coming is)

    member_there : (g : ℕ) → IsAble next s g → n ≡ s.tree.places g → is_member g ms ≡ true
    member_there g a same =
        subst (λ (i : ℕ). Has s.tree i g) (sym same) (stands.sound.placed g (within next place set s stands g a.goes_on)).member

    -- ---- those who are counted

    coming_other : (joint : Joint) (m : ℕ) → m ≢ h → is_coming next s coming joint m ≡ is_coming next s (h ∷ coming) joint m
    coming_other joint m ne = ap (λ (b : Bool). (b || is_member m coming) && is_before next s joint m) (sym (ne_eqb m h ne))

    coming_same : (joint : Joint) (m : ℕ) → (m ≡ h → is_before next s joint h ≡ false) → is_coming next s coming joint m ≡ is_coming next s (h ∷ coming) joint m
    coming_same joint m apart = ⊎_elim (λ e. by e) (λ ne. coming_other joint m ne) (cases_eq m h)
      where
        off : m ≡ h → is_before next s joint m ≡ false
        off e = ap (is_before next s joint) e ∙ apart e

        by : m ≡ h → is_coming next s coming joint m ≡ is_coming next s (h ∷ coming) joint m
        by e =
            ap (λ (b : Bool). is_member m coming && b) (off e) ∙ and_false (is_member m coming)
            ∙ sym (ap (λ (b : Bool). is_member m (h ∷ coming) && b) (off e) ∙ and_false (is_member m (h ∷ coming)))

    counts_same : (arrived' : ℕ → Joint → ℕ) (g : ℕ) (joint : Joint) → IsCounter next s g joint → (Has s.tree (s.tree.places g) h → is_before next s joint h ≡ false) → arrived' g joint ≡ arrived g joint
        → arrived' g joint + number_of (is_coming next s coming joint) (t.members s.tree (s.tree.places g)) ≡ number_of (is_before next s joint) (t.members s.tree (s.tree.places g))
    counts_same arrived' g joint c apart same =
        let all = knows.counted g joint c in
        let number = same_number (is_coming next s coming joint) (is_coming next s (h ∷ coming) joint) (t.members s.tree (s.tree.places g))
        (λ m is. coming_same joint m (λ e. apart (subst (λ (i : ℕ). Has s.tree (s.tree.places g) i) e is))) in
        omega (arith, all, number, same)

    -- members of a node where each acts by itself stand there
    stands_at : (g : ℕ) (joint : Joint) → IsCounter next s g joint → Has s.tree (s.tree.places g) h → n ≡ s.tree.places g
    stands_at g joint c has =
        let k = s.tree.places g in
        leaf_stands set.processors s.tree stands.sound k (leaf_by set.processors k (Asynchronous c.alone) s.tree stands.sound (idle-asynchronous c.alone) c.kind) h has

    -- ---- those who are known

    -- others who wait for it
    record Meets (g : ℕ) : Type 0 where
      able_is : IsAble next s g
      waits : is_free next s g ≡ false
      there : n ≡ s.tree.places g
      met : AreMet next s n j

    meets_by : (g : ℕ) → IsAble next s g → is_free next s g ≡ false → n ≡ s.tree.places g → Meets g
    meets_by g a waits there = by a.free
      where
        by : (waits_for_none (t.kind s.tree (s.tree.places g)) (joint_before next s g) ≡ true) ⊎ AreMet next s (s.tree.places g) (joint_before next s g) → Meets g
        by (inl free) = absurd (true≢false (sym free ∙ waits))
        by (inr met) =
            let same = met.before h (subst (λ (i : ℕ). Has s.tree i h) there here) in
            record { able_is = a; waits = waits; there = there; met = subst₂ (λ (i : ℕ) (joint : Joint). AreMet next s i joint) (sym there) (sym same) met }

    meets_waits : (g : ℕ) → Meets g → is_free next s h ≡ false
    meets_waits g m = by m.able_is.free
      where
        by : (waits_for_none (t.kind s.tree (s.tree.places g)) (joint_before next s g) ≡ true) ⊎ AreMet next s (s.tree.places g) (joint_before next s g) → is_free next s h ≡ false
        by (inl free) = absurd (true≢false (sym free ∙ m.waits))
        by (inr met) =
            let same = met.before h (subst (λ (i : ℕ). Has s.tree i h) m.there here) in
            ap (λ (i : ℕ). waits_for_none (t.kind s.tree i) j) m.there ∙ ap (waits_for_none (t.kind s.tree (s.tree.places g))) same ∙ m.waits

    whole_by : (able' : ℕ → Bool) → ((g : ℕ) → able g ≡ true → able' g ≡ true) → (IsAble next s h → (able' h ≡ true) ⊎ IsAnnounced next s coming h)
        → ((g : ℕ) → Meets g → (able' g ≡ true) ⊎ IsAnnounced next s coming g) → (g : ℕ) → IsAble next s g → (able' g ≡ true) ⊎ IsAnnounced next s coming g
    whole_by able' keep own other g a = ⊎_elim (λ e. inl (keep g e)) (λ x. by x.by x.concerns (either_member h x.by coming x.comes)) (knows.whole g a)
      where
        mine : (b : ℕ) → b ≡ h → (b ≡ g) ⊎ ((is_free next s g ≡ false) × (s.tree.places b ≡ s.tree.places g)) → (able' g ≡ true) ⊎ IsAnnounced next s coming g
        mine b is (inl same) = let e : h ≡ g = sym is ∙ same in subst (λ (i : ℕ). (able' i ≡ true) ⊎ IsAnnounced next s coming i) e (own (subst (IsAble next s) (sym e) a))
        mine b is (inr waits) = other g (meets_by g a waits.0 (ap s.tree.places (sym is) ∙ waits.1))

        by : (b : ℕ) → (b ≡ g) ⊎ ((is_free next s g ≡ false) × (s.tree.places b ≡ s.tree.places g)) → (b ≡ h) ⊎ (is_member b coming ≡ true) → (able' g ≡ true) ⊎ IsAnnounced next s coming g
        by b concerns (inl is) = mine b is concerns
        by b concerns (inr later) = inr (record { by = b; comes = later; concerns = concerns })

    -- nothing becomes known
    same_known : (arrived' : ℕ → Joint → ℕ) → (IsAble next s h → (able h ≡ true) ⊎ IsAnnounced next s coming h) → ((g : ℕ) → Meets g → (able g ≡ true) ⊎ IsAnnounced next s coming g)
        → ((g : ℕ) (joint : Joint) → IsCounter next s g joint
        → arrived' g joint + number_of (is_coming next s coming joint) (t.members s.tree (s.tree.places g)) ≡ number_of (is_before next s joint) (t.members s.tree (s.tree.places g)))
        → ((g : ℕ) (joint : Joint) → (IsCounter next s g joint → ⊥) → arrived' g joint ≡ 0) → KnowsAble next s coming able arrived'
    same_known arrived' own other counted others = record {
      ascending = rises.1;
      placed = placed_on;
      true_of = knows.true_of;
      whole = whole_by able (λ g e. e) own other;
      together = knows.together;
      counted = counted;
      others = others;
    }

    -- all members of its node become known
    all_able : AreMet next s n j → is_free next s h ≡ false → (m : ℕ) → is_member m ms ≡ true → IsAble next s m
    all_able met waits m is =
        let at = met.stand m is in
        let same = met.before m is in
        record {
          goes_on = due_waits (t.kind s.tree n) (step_at next s m) (ap (waits_for_none (t.kind s.tree n)) same ∙ waits);
          free = inr (subst₂ (λ (i : ℕ) (joint : Joint). AreMet next s i joint) (sym at) (sym same) met);
        }

    all_known : (arrived' : ℕ → Joint → ℕ) → AreMet next s n j → is_free next s h ≡ false
        → ((g : ℕ) (joint : Joint) → IsCounter next s g joint
        → arrived' g joint + number_of (is_coming next s coming joint) (t.members s.tree (s.tree.places g)) ≡ number_of (is_before next s joint) (t.members s.tree (s.tree.places g)))
        → ((g : ℕ) (joint : Joint) → (IsCounter next s g joint → ⊥) → arrived' g joint ≡ 0) → KnowsAble next s coming (with_all ms able) arrived'
    all_known arrived' met waits counted others = record {
      ascending = rises.1;
      placed = placed_on;
      true_of = λ g e. ⊎_elim (λ is. all_able met waits g is) (λ was. knows.true_of g was) (or_true (is_member g ms) (able g) e);
      whole = whole_by (with_all ms able) (λ g e. or_right (is_member g ms) (able g) e)
          (λ a. inl (ap (λ (b : Bool). b || able h) here)) (λ g m. inl (ap (λ (b : Bool). b || able g) (member_there g m.able_is m.there)));
      together = λ g x e off has.
          ⊎_elim (λ is. ap (λ (b : Bool). b || able x) (subst (λ (i : ℕ). Has s.tree i x) (met.stand g is) has))
          (λ was. or_right (is_member x ms) (able x) (knows.together g x was off has)) (or_true (is_member g ms) (able g) e);
      counted = counted;
      others = others;
    }

    -- ---- the cases

    ended : is_some (step_at next s h) ≡ false → KnowsAble next s coming able arrived
    ended e =
        same_known arrived (λ a. absurd (true≢false (sym a.goes_on ∙ e))) (λ g m. absurd (true≢false (sym free ∙ meets_waits g m)))
        (λ g joint c. counts_same arrived g joint c (λ has. ap (same_joint joint) is_alone ∙ not_alone (Some (Asynchronous c.alone)) joint c.waits) refl)
        knows.others
      where
        is_alone : j ≡ Alone
        is_alone = due_ended (step_at next s h) e

        free : is_free next s h ≡ true
        free = ap (waits_for_none (t.kind s.tree n)) is_alone ∙ alone_free (t.kind s.tree n)

    by_itself : is_some (step_at next s h) ≡ true → is_free next s h ≡ true → KnowsAble next s coming (with_one h able) arrived
    by_itself goes_on free = record {
      ascending = rises.1;
      placed = placed_on;
      true_of = λ g e. ⊎_elim (λ is. subst (IsAble next s) (sym (eqb-true g h is)) (record { goes_on = goes_on; free = inl free })) (λ was. knows.true_of g was) (or_true (g == h) (able g) e);
      whole = whole_by (with_one h able) (λ g e. or_right (g == h) (able g) e)
          (λ a. inl (ap (λ (b : Bool). b || able h) (eq-eqb h h refl))) (λ g m. absurd (true≢false (sym free ∙ meets_waits g m)));
      together = λ g x e off has.
          ⊎_elim (λ is. absurd (true≢false (sym free ∙ ap (is_free next s) (sym (eqb-true g h is)) ∙ off)))
          (λ was. or_right (x == h) (able x) (knows.together g x was off has)) (or_true (g == h) (able g) e);
      counted = λ g joint c. counts_same arrived g joint c (λ has. apart g joint c has (is_before next s joint h) refl) refl;
      others = knows.others;
    }
      where
        apart : (g : ℕ) (joint : Joint) → IsCounter next s g joint → Has s.tree (s.tree.places g) h → (b : Bool) → is_before next s joint h ≡ b → is_before next s joint h ≡ false
        apart g joint c has false e = e
        apart g joint c has true e =
            let at = stands_at g joint c has in
            let same = same_is joint j e in
            absurd (true≢false (sym free ∙ ap (λ (i : ℕ). waits_for_none (t.kind s.tree i) j) at ∙ ap (λ (k : Option Kind). waits_for_none k j) c.kind
            ∙ ap (waits_for_none (Some (Asynchronous c.alone))) same ∙ c.waits))

    -- to resume isn't counted
    module _ (resume : j ≡ Resuming) (waits : is_free next s h ≡ false) where
      resume_apart : (g : ℕ) (joint : Joint) → IsCounter next s g joint → is_before next s joint h ≡ false
      resume_apart g joint c = by (is_before next s joint h) refl
        where
          by : (b : Bool) → is_before next s joint h ≡ b → is_before next s joint h ≡ false
          by false e = e
          by true e = absurd (c.other (sym (same_is joint j e) ∙ resume))

      resume_counts : (g : ℕ) (joint : Joint) → IsCounter next s g joint
          → arrived g joint + number_of (is_coming next s coming joint) (t.members s.tree (s.tree.places g)) ≡ number_of (is_before next s joint) (t.members s.tree (s.tree.places g))
      resume_counts g joint c = counts_same arrived g joint c (λ has. resume_apart g joint c) refl

      met_ready : t.ready s.tree n ≡ true → AreMet next s n j
      met_ready ready = record { ready = λ e. ready; stand = stand; before = before }
        where
          stand : (m : ℕ) → Has s.tree n m → s.tree.places m ≡ n
          stand m has = leaf_stands set.processors s.tree stands.sound n (leaf_ready set.processors n s.tree stands.sound ready) m has

          waiting : (k : Option Kind) → t.kind s.tree n ≡ k → t.is_ready s.tree k ≡ true → (first : ℕ) × (parts : ℕ) × (t.kind s.tree n ≡ Some (Waiting first parts))
          waiting None e is = untrue is
          waiting (Some Lockstep) e is = untrue is
          waiting (Some (Asynchronous alone)) e is = untrue is
          waiting (Some (Waiting first parts)) e is = (first, parts, e)

          before : (m : ℕ) → Has s.tree n m → joint_before next s m ≡ j
          before m has =
              let k = waiting (t.kind s.tree n) refl ready in
              let kind = ap (t.kind s.tree) (stand m has) ∙ k.2 in
              waits_resume next place set s stands m k.0 k.1 kind (waiting_goes_on m k.0 k.1 (stands.sound.within n m has) kind) ∙ sym resume

      resumes : t.ready s.tree n ≡ true → KnowsAble next s coming (with_all ms able) arrived
      resumes ready = all_known arrived (met_ready ready) waits resume_counts knows.others

      resumed : able h ≡ true → KnowsAble next s coming able arrived
      resumed e =
          same_known arrived (λ a. inl e) (λ g m. inl (knows.together h g e waits (member_there g m.able_is m.there))) resume_counts knows.others

      awaits : t.ready s.tree n ≡ false → KnowsAble next s coming able arrived
      awaits off =
          same_known arrived (λ a. own a.free) (λ g m. absurd (true≢false (sym (m.met.ready resume) ∙ off))) resume_counts knows.others
        where
          own : (waits_for_none (t.kind s.tree n) j ≡ true) ⊎ AreMet next s n j → (able h ≡ true) ⊎ IsAnnounced next s coming h
          own (inl free) = absurd (true≢false (sym free ∙ waits))
          own (inr met) = absurd (true≢false (sym (met.ready resume) ∙ off))

    -- one more is counted
    module _ (other : j ≢ Resuming) (waits : is_free next s h ≡ false) where
      kind_here : (alone : Bool) × (t.kind s.tree n ≡ Some (Asynchronous alone))
      kind_here = by (t.kind s.tree n) refl
        where
          by : (k : Option Kind) → t.kind s.tree n ≡ k → (alone : Bool) × (t.kind s.tree n ≡ Some (Asynchronous alone))
          by None e = absurd (has_some s.tree n h here (none_by (s.tree.nodes n) e))
            where
              none_by : (x : Option Node) → t.kind_of x ≡ None → x ≡ None
              none_by None is = refl
              none_by (Some node) is = absurd (cc)
          by (Some Lockstep) e = absurd (true≢false (sym (ap (λ (k : Option Kind). waits_for_none k j) e) ∙ waits))
          by (Some (Waiting first parts)) e = absurd (other (waits_resume next place set s stands h first parts e (due_waits (t.kind s.tree n) (step_at next s h) waits)))
          by (Some (Asynchronous alone)) e = (alone, e)

      all_stand : (m : ℕ) → Has s.tree n m → s.tree.places m ≡ n
      all_stand m has =
          leaf_stands set.processors s.tree stands.sound n (leaf_by set.processors n (Asynchronous kind_here.0) s.tree stands.sound (idle-asynchronous kind_here.0) kind_here.1) m has

      low_at : s.tree.places (lowest ms) ≡ n
      low_at = all_stand (lowest ms) (lowest_has set.processors s.tree stands.sound n (Asynchronous kind_here.0) kind_here.1)

      counter_low : IsCounter next s (lowest ms) j
      counter_low = record {
        alone = kind_here.0;
        kind = ap (t.kind s.tree) low_at ∙ kind_here.1;
        lowest = sym (ap (λ (i : ℕ). lowest (t.members s.tree i)) low_at);
        waits = sym (ap (λ (k : Option Kind). waits_for_none k j) kind_here.1) ∙ waits;
        other = other;
      }

      -- with it they are no more than there are
      one_before : suc (arrived (lowest ms) j) + number_of (is_coming next s coming j) ms ≡ number_of (is_before next s j) ms
      one_before =
          let all = subst (λ (i : ℕ). arrived (lowest ms) j + number_of (is_coming next s (h ∷ coming) j) (t.members s.tree i) ≡ number_of (is_before next s j) (t.members s.tree i)) low_at
          (knows.counted (lowest ms) j counter_low) in
          let less = one_less (is_coming next s coming j) (is_coming next s (h ∷ coming) j) h ms (stands.sound.ascending n) here
          (ap (λ (b : Bool). b && is_before next s j h) gone)
          (ap (λ (b : Bool). b && is_before next s j h) (first_member h coming) ∙ same_self j)
          (λ m ne. coming_other j m ne) in
          omega (arith, all, less)

      few : suc (arrived (lowest ms) j) ≤ length ms
      few = let all = one_before in let most = at_most (is_before next s j) ms in omega (arith, all, most)

      module _ (arrived' : ℕ → Joint → ℕ) (counts : CountsOne next s h coming able arrived arrived') where
        at_low : arrived' (lowest ms) j + number_of (is_coming next s coming j) ms ≡ number_of (is_before next s j) ms
        at_low = let all = one_before in let one = counts.one in omega (arith, all, one)

        decide_low : (g : ℕ) (joint : Joint) → ((g ≡ lowest ms) × (joint ≡ j)) ⊎ ((g ≡ lowest ms) × (joint ≡ j) → ⊥)
        decide_low g joint = by (cases_eq g (lowest ms)) (same_joint joint j) refl
          where
            by : (g ≡ lowest ms) ⊎ (g ≢ lowest ms) → (b : Bool) → same_joint joint j ≡ b → ((g ≡ lowest ms) × (joint ≡ j)) ⊎ ((g ≡ lowest ms) × (joint ≡ j) → ⊥)
            by (inr ne) b e = inr (λ x. ne x.0)
            by (inl is) true e = inl (is, sym (same_is joint j e))
            by (inl is) false e = inr (λ x. true≢false (sym (same_self joint) ∙ ap (same_joint joint) x.1 ∙ e))

        one_counted : (g : ℕ) (joint : Joint) → IsCounter next s g joint
            → arrived' g joint + number_of (is_coming next s coming joint) (t.members s.tree (s.tree.places g)) ≡ number_of (is_before next s joint) (t.members s.tree (s.tree.places g))
        one_counted g joint c = ⊎_elim (λ x. mine x) (λ apart_is. counts_same arrived' g joint c (λ has. apart apart_is has (is_before next s joint h) refl) (counts.same g joint apart_is)) (decide_low g joint)
          where
            mine : (g ≡ lowest ms) × (joint ≡ j)
                → arrived' g joint + number_of (is_coming next s coming joint) (t.members s.tree (s.tree.places g)) ≡ number_of (is_before next s joint) (t.members s.tree (s.tree.places g))
            mine x =
                subst₂ (λ (i : ℕ) (k : Joint). arrived' i k + number_of (is_coming next s coming k) (t.members s.tree (s.tree.places i)) ≡ number_of (is_before next s k) (t.members s.tree (s.tree.places i)))
                (sym x.0) (sym x.1)
                (subst (λ (i : ℕ). arrived' (lowest ms) j + number_of (is_coming next s coming j) (t.members s.tree i) ≡ number_of (is_before next s j) (t.members s.tree i)) (sym low_at) at_low)

            apart : ((g ≡ lowest ms) × (joint ≡ j) → ⊥) → Has s.tree (s.tree.places g) h → (b : Bool) → is_before next s joint h ≡ b → is_before next s joint h ≡ false
            apart apart_is has false e = e
            apart apart_is has true e =
                let at = stands_at g joint c has in
                absurd (apart_is (c.lowest ∙ ap (λ (i : ℕ). lowest (t.members s.tree i)) (sym at), sym (same_is joint j e)))

        one_other : (g : ℕ) (joint : Joint) → (IsCounter next s g joint → ⊥) → arrived' g joint ≡ 0
        one_other g joint none =
            ⊎_elim (λ x. absurd (none (subst₂ (λ (i : ℕ) (k : Joint). IsCounter next s i k) (sym x.0) (sym x.1) counter_low)))
            (λ apart_is. counts.same g joint apart_is ∙ knows.others g joint none) (decide_low g joint)

        last : arrived' (lowest ms) j ≡ length ms → KnowsAble next s coming (with_all ms able) arrived'
        last full = all_known arrived' (record { ready = λ e. absurd (other e); stand = all_stand; before = before }) waits one_counted one_other
          where
            as_many : number_of (is_before next s j) ms ≡ length ms
            as_many = let all = at_low in let most = at_most (is_before next s j) ms in omega (arith, all, most, full)

            before : (m : ℕ) → Has s.tree n m → joint_before next s m ≡ j
            before m has = same_is j (joint_before next s m) (each_has (is_before next s j) ms as_many m has)

        -- somebody is still to come
        to_come : AreMet next s n j → arrived' (lowest ms) j ≢ length ms → (m : ℕ) × (is_member m coming ≡ true) × (s.tree.places m ≡ n)
        to_come met part =
            let as_many = all_have (is_before next s j) ms (λ m is. ap (same_joint j) (met.before m is) ∙ same_self j) in
            let all = at_low in
            let x = some_has (is_coming next s coming j) ms (λ none. part (omega (arith, none, all, as_many))) in
            (x.0, (and_parts (is_member x.0 coming) (is_before next s j x.0) x.2).0, met.stand x.0 x.1)

        still : arrived' (lowest ms) j ≢ length ms → KnowsAble next s coming able arrived'
        still part = same_known arrived' (λ a. own a.free) (λ g m. announced g m.waits m.there m.met) one_counted one_other
          where
            announced : (g : ℕ) → is_free next s g ≡ false → n ≡ s.tree.places g → AreMet next s n j → (able g ≡ true) ⊎ IsAnnounced next s coming g
            announced g off there met = let x = to_come met part in inr (record { by = x.0; comes = x.1; concerns = inr (off, x.2 ∙ there) })

            own : (waits_for_none (t.kind s.tree n) j ≡ true) ⊎ AreMet next s n j → (able h ≡ true) ⊎ IsAnnounced next s coming h
            own (inl free) = absurd (true≢false (sym free ∙ waits))
            own (inr met) = announced h waits refl met

    pub arrives : Arrives next s h coming able arrived
    arrives = record {
      ended = ended;
      by_itself = by_itself;
      resumes = λ resume waits ready. resumes resume waits ready;
      resumed = λ resume waits e. resumed resume waits e;
      awaits = λ resume waits off. awaits resume waits off;
      few = λ other waits. few other waits;
      last = λ arrived' other waits counts full. last other waits arrived' counts full;
      waits = λ arrived' other waits counts part. still other waits arrived' counts part;
    }

pub arrivals_know_able : (W X : Type 0) → ArrivalsKnowAble W X
arrivals_know_able W X next place set s h coming able arrived stands knows = arrives next place set s stands h coming able arrived knows
