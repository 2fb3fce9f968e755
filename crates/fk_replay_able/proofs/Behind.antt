-- Who could act after a possible round.
use Rattle.std.proofs.Common.{◌≡◌, ◌⊎◌, inl, inr, ℕ, ◌<◌, ◌==◌, ◌||◌, Bool, true, false, true≢false, List, [], ◌∷◌, Option, is_some, refl, sym, ap, ◌∙◌, subst, arith}
use Rattle.std.specs.Prelude.{slice_index}
use Rattle.std.proofs.lemmas.Bool.{eqb-true}
use Rattle.fk_tree.specs.declared.node.Kind.{Kind}
use Rattle.fk_tree.specs.Tree as t
use Rattle.fk_tree.specs.Tree.{Node, is_member}
use Rattle.fk_tree.specs.Sound.{Has}
use Rattle.fk_tree.proofs.Shapes.{has_some, some-given}
use Rattle.fk_meaning.specs.Processor.{Setting}
use Rattle.fk_meaning.specs.Round.{Step, State, Round, joint_due, is_possible, result}
use Rattle.fk_replay_counts.specs.Steady.{IsSteadyInTree}
use Rattle.fk_replay_able.specs.Able.{waits_for_none, step_at, joint_before, AreMet, IsAble}
use Rattle.fk_replay_able.proofs.Able.{untrue}
use Rattle.fk_replay_able.proofs.Rounds as rounds
use Rattle.fk_replay_able.proofs.Rounds.{zero_or_more}

-- whether some of these are in a round
pub find_in : (round : Round) (ms : List ℕ) → ((m : ℕ) × (is_member m ms ≡ true) × (0 < slice_index round m)) ⊎ ((m : ℕ) → is_member m ms ≡ true → slice_index round m ≡ 0)
find_in round [] = inr (λ m is. untrue is)
find_in round (x ∷ ms) = by (zero_or_more (slice_index round x)) (find_in round ms)
  where
    first : is_member x (x ∷ ms) ≡ true
    first = let same : (x == x) ≡ true = grind arith in ap (λ (b : Bool). b || is_member x ms) same

    later : (m : ℕ) → is_member m ms ≡ true → is_member m (x ∷ ms) ≡ true
    later m is = or_right (m == x) is
      where
        or_right : (a : Bool) → is_member m ms ≡ true → (a || is_member m ms) ≡ true
        or_right true e = refl
        or_right false e = e

    each : slice_index round x ≡ 0 → ((m : ℕ) → is_member m ms ≡ true → slice_index round m ≡ 0) → (m : ℕ) (b : Bool) → (m == x) ≡ b → (b || is_member m ms) ≡ true → slice_index round m ≡ 0
    each none others m true e is = ap (slice_index round) (eqb-true m x e) ∙ none
    each none others m false e is = others m is

    by : (slice_index round x ≡ 0) ⊎ (0 < slice_index round x) → ((m : ℕ) × (is_member m ms ≡ true) × (0 < slice_index round m)) ⊎ ((m : ℕ) → is_member m ms ≡ true → slice_index round m ≡ 0)
        → ((m : ℕ) × (is_member m (x ∷ ms) ≡ true) × (0 < slice_index round m)) ⊎ ((m : ℕ) → is_member m (x ∷ ms) ≡ true → slice_index round m ≡ 0)
    by (inr in_it) more = inl (x, first, in_it)
    by (inl none) (inl found) = inl (found.0, later found.0 found.1, found.2)
    by (inl none) (inr others) = inr (λ m is. each none others m (m == x) refl is)

module _ {W X : Type 0} (next : W → Option (Step W)) (place : W → X) (set : Setting) (round : Round) (s : State W) (steady : IsSteadyInTree next place set s)
    (possible : is_possible next set round s ≡ true) where
  abbrev behind : State W
  behind = result next set round s

  module _ (h : ℕ) (lt : h < set.processors) (absent : slice_index round h ≡ 0) where
    abbrev n : ℕ
    n = s.tree.places h

    has : Has s.tree n h
    has = (steady.stands.sound.placed h lt).member

    pub node_same : behind.tree.nodes n ≡ s.tree.nodes n
    node_same =
        rounds.node_stays next place set round s steady possible n (some-given set.processors s.tree steady.stands.sound n (has_some s.tree n h has))
        (rounds.none_steps next place set round s steady possible h lt absent)

    pub place_same : behind.tree.places h ≡ n
    place_same = rounds.place_stays next place set round s steady possible h lt absent

    pub members_same : t.members behind.tree (behind.tree.places h) ≡ t.members s.tree n
    members_same = ap (t.members behind.tree) place_same ∙ ap t.members_of node_same

    pub step_same : step_at next behind h ≡ step_at next s h
    step_same = rounds.step_stays next place set round s steady possible h lt absent

    pub joint_same : joint_before next behind h ≡ joint_before next s h
    joint_same = ap joint_due step_same

    pub kind_same : t.kind behind.tree (behind.tree.places h) ≡ t.kind s.tree n
    kind_same = ap (t.kind behind.tree) place_same ∙ ap t.kind_of node_same

    pub free_same : waits_for_none (t.kind behind.tree (behind.tree.places h)) (joint_before next behind h) ≡ waits_for_none (t.kind s.tree n) (joint_before next s h)
    free_same = ap (λ (k : Option Kind). waits_for_none k (joint_before next behind h)) kind_same ∙ ap (waits_for_none (t.kind s.tree n)) joint_same

    has_before : (m : ℕ) → Has behind.tree (behind.tree.places h) m → Has s.tree n m
    has_before m is = subst (λ (ms : List ℕ). is_member m ms ≡ true) members_same is

    has_after : (m : ℕ) → Has s.tree n m → Has behind.tree (behind.tree.places h) m
    has_after m is = subst (λ (ms : List ℕ). is_member m ms ≡ true) (sym members_same) is

    below : (m : ℕ) → Has s.tree n m → m < set.processors
    below m is = steady.stands.sound.within n m is

    -- all whom it waits for are absent too
    pub all_absent : AreMet next s n (joint_before next s h) → waits_for_none (t.kind s.tree n) (joint_before next s h) ≡ false → (m : ℕ) → Has s.tree n m → slice_index round m ≡ 0
    all_absent met waits m is = rounds.none_in next place set round s steady possible n h (joint_before next s h) has absent waits m (met.stand m is) (met.before m is)

    met_stays : AreMet next s n (joint_before next s h) → waits_for_none (t.kind s.tree n) (joint_before next s h) ≡ false
        → AreMet next behind (behind.tree.places h) (joint_before next behind h)
    met_stays met waits = record {
      ready = λ is. subst (λ (k : ℕ). t.ready behind.tree k ≡ true) (sym place_same)
          (rounds.ready_stays next place set round s steady possible n h has absent (met.ready (sym joint_same ∙ is)));
      stand = λ m is'.
          let is = has_before m is' in
          rounds.place_stays next place set round s steady possible m (below m is) (all_absent met waits m is) ∙ met.stand m is ∙ sym place_same;
      before = λ m is'.
          let is = has_before m is' in
          ap joint_due (rounds.step_stays next place set round s steady possible m (below m is) (all_absent met waits m is)) ∙ met.before m is ∙ sym joint_same;
    }

    pub stays : IsAble next s h → IsAble next behind h
    stays a = record { goes_on = ap is_some step_same ∙ a.goes_on; free = by (waits_for_none (t.kind s.tree n) (joint_before next s h)) refl a.free }
      where
        by : (b : Bool) → waits_for_none (t.kind s.tree n) (joint_before next s h) ≡ b → (waits_for_none (t.kind s.tree n) (joint_before next s h) ≡ true) ⊎ AreMet next s n (joint_before next s h)
            → (waits_for_none (t.kind behind.tree (behind.tree.places h)) (joint_before next behind h) ≡ true) ⊎ AreMet next behind (behind.tree.places h) (joint_before next behind h)
        by true e free = inl (free_same ∙ e)
        by false e (inl free) = absurd (true≢false (sym free ∙ e))
        by false e (inr met) = inr (met_stays met e)

    -- or one of those whom it waits for was in the round, and stands at its node
    pub record Joined : Type 0 where
      pub other : ℕ
      pub in_it : 0 < slice_index round other
      pub waits : waits_for_none (t.kind behind.tree (behind.tree.places h)) (joint_before next behind h) ≡ false
      pub there : behind.tree.places other ≡ behind.tree.places h

    pub becomes : IsAble next behind h → IsAble next s h ⊎ Joined
    becomes a = by (waits_for_none (t.kind s.tree n) (joint_before next s h)) refl a.free
      where
        goes_on : is_some (step_at next s h) ≡ true
        goes_on = sym (ap is_some step_same) ∙ a.goes_on

        met_before : AreMet next behind (behind.tree.places h) (joint_before next behind h) → ((m : ℕ) → is_member m (t.members s.tree n) ≡ true → slice_index round m ≡ 0)
            → AreMet next s n (joint_before next s h)
        met_before met none = record {
          ready = λ is. rounds.ready_before next place set round s steady possible n h has none
              (subst (λ (k : ℕ). t.ready behind.tree k ≡ true) place_same (met.ready (joint_same ∙ is)));
          stand = λ m is. sym (rounds.place_stays next place set round s steady possible m (below m is) (none m is)) ∙ met.stand m (has_after m is) ∙ place_same;
          before = λ m is.
              sym (ap joint_due (rounds.step_stays next place set round s steady possible m (below m is) (none m is))) ∙ met.before m (has_after m is) ∙ joint_same;
        }

        search : waits_for_none (t.kind s.tree n) (joint_before next s h) ≡ false → AreMet next behind (behind.tree.places h) (joint_before next behind h)
            → ((m : ℕ) × (is_member m (t.members s.tree n) ≡ true) × (0 < slice_index round m)) ⊎ ((m : ℕ) → is_member m (t.members s.tree n) ≡ true → slice_index round m ≡ 0)
            → IsAble next s h ⊎ Joined
        search e met (inl found) = inr (record { other = found.0; in_it = found.2; waits = free_same ∙ e; there = met.stand found.0 (has_after found.0 found.1) })
        search e met (inr none) = inl (record { goes_on = goes_on; free = inr (met_before met none) })

        by : (b : Bool) → waits_for_none (t.kind s.tree n) (joint_before next s h) ≡ b
            → (waits_for_none (t.kind behind.tree (behind.tree.places h)) (joint_before next behind h) ≡ true) ⊎ AreMet next behind (behind.tree.places h) (joint_before next behind h)
            → IsAble next s h ⊎ Joined
        by true e free = inl (record { goes_on = goes_on; free = inl e })
        by false e (inl free) = absurd (true≢false (sym free ∙ free_same ∙ e))
        by false e (inr met) = search e met (find_in round (t.members s.tree n))
