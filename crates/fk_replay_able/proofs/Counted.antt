-- Those who have come are counted after a round as before it.
use Rattle.std.proofs.Common.{◌≡◌, ◌≢◌, ◌⊎◌, inl, inr, ⊎_elim, ℕ, ◌+◌, ◌<◌, ◌&&◌, Bool, true, false, true≢false, List, [], ◌∷◌, Option, Some, None, refl, sym, ap, ◌∙◌, subst, arith}
use Rattle.std.specs.Prelude.{slice_index}
use Rattle.std.proofs.lemmas.Bool.{cases_eq}
use Rattle.fk_meaning_operation.specs.Kinds.{joint_of}
use Rattle.fk_meaning_operation.specs.declared.operation.Operation.{Operation}
use Rattle.fk_meaning_operation.specs.declared.operation.Operation.TheVariants as o
use Rattle.fk_meaning_operation.specs.declared.kinds.Joint.{Joint}
use Rattle.fk_meaning_operation.specs.declared.kinds.Joint.TheVariants.{Alone, Starting, AtBarrier, Closing, Resuming}
use Rattle.fk_tree.specs.declared.node.Kind.{Kind}
use Rattle.fk_tree.specs.declared.node.Kind.TheVariants.{Lockstep, Waiting, Asynchronous}
use Rattle.fk_tree.specs.Tree as t
use Rattle.fk_tree.specs.Tree.{Tree, Node, is_member}
use Rattle.fk_tree.specs.Sound.{Has, IsSound}
use Rattle.fk_tree.proofs.Shapes.{has_some, some-given}
use Rattle.fk_tree.proofs.Turns.{leaf_by, idle-asynchronous}
use Rattle.fk_meaning.specs.Processor.{Setting}
use Rattle.fk_meaning.specs.Round.{Step, State, Round, joint_due, same_joint, lowest, fits_kind, is_possible, result}
use Rattle.fk_lockstep_tree.specs.Steps.{StepFits}
use Rattle.fk_lockstep_tree.specs.Runs.{StandsInTree}
use Rattle.fk_replay_counts.specs.Steady.{IsSteadyInTree}
use Rattle.fk_replay_able.specs.Able.{waits_for_none, joint_before, IsAble}
use Rattle.fk_replay_able.specs.Known.{number_of, is_free, is_before, is_coming, IsCounter, IsAnnounced, KnowsAble, joint_taken, DoesLowest, AreForgotten, AreInRound, RoundsKnowAble}
use Rattle.fk_replay_able.proofs.Able.{untrue, same_is, same_self, leaf_stands, acts_at, within}
use Rattle.fk_replay_able.proofs.Rounds as rounds
use Rattle.fk_replay_able.proofs.Rounds.{zero_or_more}
use Rattle.fk_replay_able.proofs.Behind as after
use Rattle.fk_replay_able.proofs.Numbers.{one_if, first_member, sums, none_has, same_number}

-- ---- whether a processor counts others

pub lowest_has : (p : ℕ) (tree : Tree) → IsSound p tree → (n : ℕ) (k : Kind) → t.kind tree n ≡ Some k → Has tree n (lowest (t.members tree n))
lowest_has p tree sound n k kind = by (t.members tree n) refl
  where
    kind_of_none : (x : Option Node) → x ≡ None → t.kind_of x ≡ Some k → ⊥
    kind_of_none None e is = cc
    kind_of_none (Some node) e is = cc

    by : (ms : List ℕ) → t.members tree n ≡ ms → is_member (lowest ms) ms ≡ true
    by [] e = absurd (kind_of_none (tree.nodes n) (sound.living n e) kind)
    by (m ∷ ms) e = first_member m ms

module _ {W : Type 0} (next : W → Option (Step W)) (s : State W) where
  pub decide_counter : (h : ℕ) (joint : Joint) → IsCounter next s h joint ⊎ (IsCounter next s h joint → ⊥)
  decide_counter h joint = by (t.kind s.tree (s.tree.places h)) refl
    where
      not_asynchronous : (k : Option Kind) → t.kind s.tree (s.tree.places h) ≡ k → ((alone : Bool) → k ≡ Some (Asynchronous alone) → ⊥) → IsCounter next s h joint → ⊥
      not_asynchronous k e none c = none c.alone (sym e ∙ c.kind)

      resuming : (j : Joint) → (j ≡ Resuming) ⊎ (j ≢ Resuming)
      resuming Resuming = inl refl
      resuming Alone = inr (λ e. absurd (cc))
      resuming Starting = inr (λ e. absurd (cc))
      resuming AtBarrier = inr (λ e. absurd (cc))
      resuming Closing = inr (λ e. absurd (cc))

      same_alone : (a b : Bool) → Some (Asynchronous a) ≡ Some (Asynchronous b) → a ≡ b
      same_alone a b e = cc

      found : (alone : Bool) → t.kind s.tree (s.tree.places h) ≡ Some (Asynchronous alone) → (b : Bool) → waits_for_none (Some (Asynchronous alone)) joint ≡ b
          → (h ≡ lowest (t.members s.tree (s.tree.places h))) ⊎ (h ≢ lowest (t.members s.tree (s.tree.places h))) → (joint ≡ Resuming) ⊎ (joint ≢ Resuming)
          → IsCounter next s h joint ⊎ (IsCounter next s h joint → ⊥)
      found alone e true waits low other =
          inr (λ c. let same = same_alone alone c.alone (sym e ∙ c.kind) in true≢false (sym waits ∙ ap (λ (a : Bool). waits_for_none (Some (Asynchronous a)) joint) same ∙ c.waits))
      found alone e false waits (inl low) (inl resumes) = inr (λ c. c.other resumes)
      found alone e false waits (inl low) (inr other) = inl (record { alone = alone; kind = e; lowest = low; waits = waits; other = other })
      found alone e false waits (inr high) other = inr (λ c. high c.lowest)

      by : (k : Option Kind) → t.kind s.tree (s.tree.places h) ≡ k → IsCounter next s h joint ⊎ (IsCounter next s h joint → ⊥)
      by None e = inr (not_asynchronous None e (λ alone is. absurd (cc)))
      by (Some Lockstep) e = inr (not_asynchronous (Some Lockstep) e (λ alone is. absurd (cc)))
      by (Some (Waiting first parts)) e = inr (not_asynchronous (Some (Waiting first parts)) e (λ alone is. absurd (cc)))
      by (Some (Asynchronous alone)) e =
          found alone e (waits_for_none (Some (Asynchronous alone)) joint) refl (cases_eq h (lowest (t.members s.tree (s.tree.places h)))) (resuming joint)

-- ---- a round

module _ {W X : Type 0} (next : W → Option (Step W)) (place : W → X) (set : Setting) (round : Round) (s : State W) (coming : List ℕ) (able able' : ℕ → Bool)
    (arrived arrived' : ℕ → Joint → ℕ) (steady : IsSteadyInTree next place set s) (stands : StandsInTree next place set (result next set round s))
    (possible : is_possible next set round s ≡ true) (knows : KnowsAble next s [] able arrived) (forgotten : AreForgotten next set round s able able' arrived arrived')
    (in_round : AreInRound round coming) where
  abbrev behind : State W
  behind = result next set round s

  abbrev does : ℕ → Option Operation
  does = (rounds.known next place set round s steady possible).does

  abbrev taken : ℕ → Joint
  taken = joint_taken next set round s

  is_in : (m : ℕ) → 0 < slice_index round m → is_member m coming ≡ true
  is_in m in_it = in_round.back m in_it

  is_out : (m : ℕ) → slice_index round m ≡ 0 → is_member m coming ≡ false
  is_out m absent = by (is_member m coming) refl
    where
      by : (b : Bool) → is_member m coming ≡ b → is_member m coming ≡ false
      by false e = e
      by true e = let in_it = in_round.there m e in absurd (omega (arith, in_it, absent))

  decide_lowest : (h : ℕ) (joint : Joint) → DoesLowest next set round s h joint ⊎ (DoesLowest next set round s h joint → ⊥)
  decide_lowest h joint = by (zero_or_more (slice_index round h)) (cases_eq h (lowest (t.members s.tree (s.tree.places h)))) (same_joint joint (taken h)) refl
    where
      by : (slice_index round h ≡ 0) ⊎ (0 < slice_index round h)
          → (h ≡ lowest (t.members s.tree (s.tree.places h))) ⊎ (h ≢ lowest (t.members s.tree (s.tree.places h))) → (b : Bool) → same_joint joint (taken h) ≡ b
          → DoesLowest next set round s h joint ⊎ (DoesLowest next set round s h joint → ⊥)
      by (inl absent) low b e = inr (λ d. let in_it = d.within in omega (arith, in_it, absent))
      by (inr in_it) (inr high) b e = inr (λ d. high d.lowest)
      by (inr in_it) (inl low) true e = inl (record { within = in_it; lowest = low; taken = sym (same_is joint (taken h) e) })
      by (inr in_it) (inl low) false e = inr (λ d. true≢false (sym (same_self joint) ∙ ap (same_joint joint) d.taken ∙ e))

  -- what was none stays so
  zero_kept : (h : ℕ) (joint : Joint) → arrived h joint ≡ 0 → arrived' h joint ≡ 0
  zero_kept h joint none = ⊎_elim (λ d. forgotten.forgotten h joint d) (λ other. forgotten.kept h joint other ∙ none) (decide_lowest h joint)

  -- nobody was to come
  counted_before : (h : ℕ) (joint : Joint) → IsCounter next s h joint → arrived h joint ≡ number_of (is_before next s joint) (t.members s.tree (s.tree.places h))
  counted_before h joint c =
      let none = none_has (is_coming next s [] joint) (t.members s.tree (s.tree.places h)) (λ m is. refl) in
      let all = knows.counted h joint c in
      omega (arith, none, all)

  counter_has : (h : ℕ) (joint : Joint) → IsCounter next s h joint → Has s.tree (s.tree.places h) h
  counter_has h joint c =
      subst (λ (i : ℕ). Has s.tree (s.tree.places h) i) (sym c.lowest) (lowest_has set.processors s.tree steady.stands.sound (s.tree.places h) (Asynchronous c.alone) c.kind)

  -- the steps of a node where each acts by itself are joint
  own_steps : (n : ℕ) (alone : Bool) (operation : Operation) → t.kind s.tree n ≡ Some (Asynchronous alone) → StepFits s.tree n operation
      → waits_for_none (Some (Asynchronous alone)) (joint_of operation) ≡ false
  own_steps n true o.Begin kind fit = refl
  own_steps n false o.Begin kind fit = refl
  own_steps n true (o.Meet true) kind fit = refl
  own_steps n false (o.Meet true) kind fit = refl
  own_steps n alone o.Resume kind fit = absurd (let bad = fit.2 in cc)
  own_steps n alone (o.Split by) kind fit = absurd (cc)
  own_steps n alone o.Shrink kind fit = absurd (let bad = fit.0 in cc)
  own_steps n alone o.Farm kind fit = absurd (cc)
  own_steps n alone o.Seq kind fit = absurd (cc)
  own_steps n alone o.End kind fit = absurd (cc)
  own_steps n alone operation kind fit = absurd fit

  -- if the node of a processor steps, then nobody who waits there is counted any longer
  nobody_left : (h : ℕ) (operation : Operation) → does (s.tree.places h) ≡ Some operation → (joint : Joint) → arrived' h joint ≡ 0
  nobody_left h operation e joint = ⊎_elim (λ c. by c) (λ none. zero_kept h joint (knows.others h joint none)) (decide_counter next s h joint)
    where
      present : (m : ℕ) → is_member m (t.members s.tree (s.tree.places h)) ≡ true → 0 < slice_index round m
      present m is = ⊎_elim (λ absent. absurd (rounds.all_present next place set round s steady possible (s.tree.places h) m operation e is absent)) (λ in_it. in_it) (zero_or_more (slice_index round m))

      takes : (m : ℕ) → is_member m (t.members s.tree (s.tree.places h)) ≡ true → taken m ≡ joint_of operation
      takes m is = rounds.joint_steps next place set round s steady possible (s.tree.places h) m operation e is

      by : IsCounter next s h joint → arrived' h joint ≡ 0
      by c = ⊎_elim (λ d. forgotten.forgotten h joint d) (λ other. forgotten.kept h joint other ∙ counted_before h joint c ∙ none_has (is_before next s joint) (t.members s.tree (s.tree.places h)) (λ m is. apart other m is))
          (decide_lowest h joint)
        where
          waits : waits_for_none (Some (Asynchronous c.alone)) (joint_of operation) ≡ false
          waits = own_steps (s.tree.places h) c.alone operation c.kind ((rounds.known next place set round s steady possible).fits (s.tree.places h) operation e)

          is_joint : (m : ℕ) → is_member m (t.members s.tree (s.tree.places h)) ≡ true → joint_before next s m ≡ joint_of operation
          is_joint m is =
              let at = ((rounds.known next place set round s steady possible).may (s.tree.places h) operation e).stand m is in
              let fit = subst (λ (i : ℕ). fits_kind round taken s.tree m i (t.kind s.tree i) ≡ true) at (rounds.fit_at_node next place set round s steady possible m (present m is)) in
              let one = rounds.all_in next place set round s steady possible m (s.tree.places h) (Some (Asynchronous c.alone)) (joint_of operation) (present m is) c.kind (takes m is)
              (subst (λ (k : Option Kind). fits_kind round taken s.tree m (s.tree.places h) k ≡ true) c.kind fit) waits m is in
              sym ((acts_at next set s round m (rounds.may next place set round s steady possible) (present m is)).same one.0) ∙ takes m is

          apart : (DoesLowest next set round s h joint → ⊥) → (m : ℕ) → is_member m (t.members s.tree (s.tree.places h)) ≡ true → is_before next s joint m ≡ false
          apart other m is = tell (is_before next s joint m) refl
            where
              tell : (b : Bool) → is_before next s joint m ≡ b → is_before next s joint m ≡ false
              tell false is_it = is_it
              tell true is_it =
                  let has = counter_has h joint c in
                  absurd (other (record { within = present h has; lowest = c.lowest; taken = sym (same_is joint (joint_before next s m) is_it) ∙ is_joint m is ∙ sym (takes h has) }))

  -- a node at which nobody steps
  module _ (h : ℕ) (lt : h < set.processors) (none : does (s.tree.places h) ≡ None) where
    node_kept : behind.tree.nodes (s.tree.places h) ≡ s.tree.nodes (s.tree.places h)
    node_kept =
        let n = s.tree.places h in
        rounds.node_stays next place set round s steady possible n
        (some-given set.processors s.tree steady.stands.sound n (has_some s.tree n h (steady.stands.sound.placed h lt).member)) none

    node_is : behind.tree.nodes (behind.tree.places h) ≡ s.tree.nodes (s.tree.places h)
    node_is = ap behind.tree.nodes (rounds.place_kept next place set round s steady possible h none) ∙ node_kept

    counter_before : (joint : Joint) → IsCounter next behind h joint → IsCounter next s h joint
    counter_before joint c = record {
      alone = c.alone;
      kind = sym (ap t.kind_of node_is) ∙ c.kind;
      lowest = c.lowest ∙ ap (λ (x : Option Node). lowest (t.members_of x)) node_is;
      waits = c.waits;
      other = c.other;
    }

    counter_after : (joint : Joint) → IsCounter next s h joint → IsCounter next behind h joint
    counter_after joint c = record {
      alone = c.alone;
      kind = ap t.kind_of node_is ∙ c.kind;
      lowest = c.lowest ∙ sym (ap (λ (x : Option Node). lowest (t.members_of x)) node_is);
      waits = c.waits;
      other = c.other;
    }

    abbrev Counts : (joint : Joint) → List ℕ → Type 0
    Counts joint ms = arrived' h joint + number_of (is_coming next behind coming joint) ms ≡ number_of (is_before next behind joint) ms

    module _ (joint : Joint) (c : IsCounter next s h joint) where
      abbrev n : ℕ
      n = s.tree.places h

      abbrev ms : List ℕ
      ms = t.members s.tree n

      waits_here : waits_for_none (t.kind s.tree n) joint ≡ false
      waits_here = ap (λ (k : Option Kind). waits_for_none k joint) c.kind ∙ c.waits

      -- all are in the round, if they do it
      done_by_all : DoesLowest next set round s h joint → Counts joint ms
      done_by_all d =
          let zero_is = forgotten.forgotten h joint d in
          let same = same_number (is_coming next behind coming joint) (is_before next behind joint) ms
          (λ m is.
          let one = rounds.all_in next place set round s steady possible h n (t.kind s.tree n) joint d.within refl (sym d.taken)
          (rounds.fit_at_node next place set round s steady possible h d.within) waits_here m is in
          let one_is = one.0 in
          ap (λ (b : Bool). b && is_before next behind joint m) (is_in m (omega (arith, one_is)))) in
          omega (arith, zero_is, same)

      not_before : (DoesLowest next set round s h joint → ⊥) → (m : ℕ) → is_member m ms ≡ true → 0 < slice_index round m → is_before next s joint m ≡ false
      not_before other m is in_it = tell (is_before next s joint m) refl
        where
          tell : (b : Bool) → is_before next s joint m ≡ b → is_before next s joint m ≡ false
          tell false is_it = is_it
          tell true is_it =
              let at = leaf_stands set.processors s.tree steady.stands.sound n (leaf_by set.processors n (Asynchronous c.alone) s.tree steady.stands.sound (idle-asynchronous c.alone) c.kind) m is in
              let joint_is = same_is joint (joint_before next s m) is_it in
              let waits = ap (λ (k : ℕ). waits_for_none (t.kind s.tree k) (joint_before next s m)) at ∙ ap (waits_for_none (t.kind s.tree n)) joint_is ∙ waits_here in
              let one = rounds.whole next place set round s steady possible m in_it waits h (subst (λ (k : ℕ). Has s.tree k h) (sym at) (counter_has h joint c)) in
              let one_is = one.0 in
              absurd (other (record { within = omega (arith, one_is); lowest = c.lowest; taken = sym joint_is ∙ sym one.1 }))

      -- and if not, those who have come are those who were there, and those who come are others
      others_come : (DoesLowest next set round s h joint → ⊥) → Counts joint ms
      others_come other =
          let kept = forgotten.kept h joint other ∙ counted_before h joint c in
          let all = sums (is_before next s joint) (is_coming next behind coming joint) (is_before next behind joint) ms (λ m is. by m is (zero_or_more (slice_index round m))) in
          omega (arith, kept, all)
        where
          nothing : (a : Bool) → one_if a + one_if false ≡ one_if a
          nothing true = refl
          nothing false = refl

          only : (a : Bool) → one_if false + one_if (true && a) ≡ one_if a
          only true = refl
          only false = refl

          by : (m : ℕ) → is_member m ms ≡ true → (slice_index round m ≡ 0) ⊎ (0 < slice_index round m)
              → one_if (is_before next s joint m) + one_if (is_coming next behind coming joint m) ≡ one_if (is_before next behind joint m)
          by m is (inl absent) =
              let stays = ap (λ (x : Option (Step W)). same_joint joint (joint_due x)) (rounds.step_stays next place set round s steady possible m (steady.stands.sound.within n m is) absent) in
              ap (λ (b : Bool). one_if (is_before next s joint m) + one_if (b && is_before next behind joint m)) (is_out m absent)
              ∙ nothing (is_before next s joint m) ∙ sym (ap one_if stays)
          by m is (inr in_it) =
              ap (λ (b : Bool). one_if b + one_if (is_coming next behind coming joint m)) (not_before other m is in_it)
              ∙ ap (λ (b : Bool). one_if false + one_if (b && is_before next behind joint m)) (is_in m in_it)
              ∙ only (is_before next behind joint m)

      counts_there : Counts joint (t.members behind.tree (behind.tree.places h))
      counts_there = subst (Counts joint) (sym (ap t.members_of node_is)) (⊎_elim (λ d. done_by_all d) (λ other. others_come other) (decide_lowest h joint))

  -- a node where each acts by itself, whose members did another step before
  new_counts : (h : ℕ) (operation : Operation) (joint : Joint) → does (s.tree.places h) ≡ Some operation → IsCounter next behind h joint
      → arrived' h joint + number_of (is_coming next behind coming joint) (t.members behind.tree (behind.tree.places h))
      ≡ number_of (is_before next behind joint) (t.members behind.tree (behind.tree.places h))
  new_counts h operation joint e c =
      let zero_is = nobody_left h operation e joint in
      let same = same_number (is_coming next behind coming joint) (is_before next behind joint) (t.members behind.tree (behind.tree.places h))
      (λ m is. ap (λ (b : Bool). b && is_before next behind joint m) (is_in m (present m is))) in
      omega (arith, zero_is, same)
    where
      has : is_member h (t.members behind.tree (behind.tree.places h)) ≡ true
      has = subst (λ (i : ℕ). is_member i (t.members behind.tree (behind.tree.places h)) ≡ true) (sym c.lowest) (lowest_has set.processors behind.tree stands.sound (behind.tree.places h) (Asynchronous c.alone) c.kind)

      kept : (m : ℕ) → is_member m (t.members behind.tree (behind.tree.places h)) ≡ true → slice_index round m ≡ 0 → ⊥
      kept m is absent =
          let lt = stands.sound.within (behind.tree.places h) m is in
          let at : behind.tree.places m ≡ (behind.tree.places h)
          = leaf_stands set.processors behind.tree stands.sound (behind.tree.places h) (leaf_by set.processors (behind.tree.places h) (Asynchronous c.alone) behind.tree stands.sound (idle-asynchronous c.alone) c.kind) m is in
          let q = s.tree.places m in
          let same : behind.tree.nodes (behind.tree.places h) ≡ s.tree.nodes q = ap behind.tree.nodes (sym at) ∙ ap behind.tree.nodes (after.place_same next place set round s steady possible m lt absent)
          ∙ after.node_same next place set round s steady possible m lt absent in
          let was : Has s.tree q h = subst (λ (l : List ℕ). is_member h l ≡ true) (ap t.members_of same) has in
          let kind : t.kind s.tree q ≡ Some (Asynchronous c.alone) = sym (ap t.kind_of same) ∙ c.kind in
          let there = leaf_stands set.processors s.tree steady.stands.sound q (leaf_by set.processors q (Asynchronous c.alone) s.tree steady.stands.sound (idle-asynchronous c.alone) kind) h was in
          let none = rounds.none_steps next place set round s steady possible m lt absent in
          let bad : does (s.tree.places h) ≡ None = ap does there ∙ none in
          cc

      present : (m : ℕ) → is_member m (t.members behind.tree (behind.tree.places h)) ≡ true → 0 < slice_index round m
      present m is = ⊎_elim (λ absent. absurd (kept m is absent)) (λ in_it. in_it) (zero_or_more (slice_index round m))

  by_does : {A : Type 0} (h : ℕ) → (does (s.tree.places h) ≡ None → A) → ((operation : Operation) → does (s.tree.places h) ≡ Some operation → A) → A
  by_does {A = A} h none some = by (does (s.tree.places h)) refl
    where
      by : (d : Option Operation) → does (s.tree.places h) ≡ d → A
      by None e = none e
      by (Some operation) e = some operation e

  counter_below : (h : ℕ) (joint : Joint) → IsCounter next behind h joint → h < set.processors
  counter_below h joint c =
      let n = behind.tree.places h in
      stands.sound.within n h (subst (λ (i : ℕ). Has behind.tree n i) (sym c.lowest) (lowest_has set.processors behind.tree stands.sound n (Asynchronous c.alone) c.kind))

  counted_behind : (h : ℕ) (joint : Joint) → IsCounter next behind h joint
      → arrived' h joint + number_of (is_coming next behind coming joint) (t.members behind.tree (behind.tree.places h))
      ≡ number_of (is_before next behind joint) (t.members behind.tree (behind.tree.places h))
  counted_behind h joint c =
      let lt = counter_below h joint c in
      by_does h (λ none. counts_there h lt none joint (counter_before h lt none joint c)) (λ operation e. new_counts h operation joint e c)

  others_behind : (h : ℕ) (joint : Joint) → (IsCounter next behind h joint → ⊥) → arrived' h joint ≡ 0
  others_behind h joint other =
      ⊎_elim
      (λ c.
      let lt = steady.stands.sound.within (s.tree.places h) h (counter_has h joint c) in
      by_does h (λ none. absurd (other (counter_after h lt none joint c))) (λ operation e. nobody_left h operation e joint))
      (λ none. zero_kept h joint (knows.others h joint none)) (decide_counter next s h joint)

  -- ---- who is able

  absent_of : (h : ℕ) → able' h ≡ true → (slice_index round h ≡ 0) × (able h ≡ true)
  absent_of h e =
      ⊎_elim (λ absent. (absent, sym (forgotten.absent h absent) ∙ e)) (λ in_it. absurd (true≢false (sym e ∙ forgotten.present h in_it))) (zero_or_more (slice_index round h))

  below_before : (h : ℕ) → IsAble next s h → h < set.processors
  below_before h a = within next place set s steady.stands h a.goes_on

  true_behind : (h : ℕ) → able' h ≡ true → IsAble next behind h
  true_behind h e =
      let x = absent_of h e in
      let a = knows.true_of h x.1 in
      after.stays next place set round s steady possible h (below_before h a) x.0 a

  whole_behind : (h : ℕ) → IsAble next behind h → (able' h ≡ true) ⊎ IsAnnounced next behind coming h
  whole_behind h a = ⊎_elim (λ absent. by absent) (λ in_it. inr (record { by = h; comes = is_in h in_it; concerns = inl refl })) (zero_or_more (slice_index round h))
    where
      lt : h < set.processors
      lt = within next place set behind stands h a.goes_on

      was : slice_index round h ≡ 0 → (able h ≡ true) ⊎ IsAnnounced next s [] h → (able' h ≡ true) ⊎ IsAnnounced next behind coming h
      was absent (inl e) = inl (forgotten.absent h absent ∙ e)
      was absent (inr announced) = untrue announced.comes

      by : slice_index round h ≡ 0 → (able' h ≡ true) ⊎ IsAnnounced next behind coming h
      by absent =
          ⊎_elim (λ before. was absent (knows.whole h before))
          (λ joined. inr (record { by = joined.other; comes = is_in joined.other joined.in_it; concerns = inr (joined.waits, joined.there) }))
          (after.becomes next place set round s steady possible h lt absent a)

  together_behind : (g h : ℕ) → able' g ≡ true → is_free next behind g ≡ false → Has behind.tree (behind.tree.places g) h → able' h ≡ true
  together_behind g h e waits has =
      let x = absent_of g e in
      let a = knows.true_of g x.1 in
      let lt = below_before g a in
      let waits_before = sym (after.free_same next place set round s steady possible g lt x.0) ∙ waits in
      let has_before = subst (λ (ms : List ℕ). is_member h ms ≡ true) (after.members_same next place set round s steady possible g lt x.0) has in
      let met = ⊎_elim (λ free. absurd (true≢false (sym free ∙ waits_before))) (λ met. met) a.free in
      let absent = after.all_absent next place set round s steady possible g lt x.0 met waits_before h has_before in
      forgotten.absent h absent ∙ knows.together g h x.1 waits_before has_before

  placed_behind : (h : ℕ) → is_member h coming ≡ true → Has behind.tree (behind.tree.places h) h
  placed_behind h is = (stands.sound.placed h (present_below (in_round.there h is))).member
    where
      present_below : 0 < slice_index round h → h < set.processors
      present_below in_it = within next place set s steady.stands h (acts_at next set s round h (rounds.may next place set round s steady possible) in_it).goes_on

  pub knows_behind : KnowsAble next behind coming able' arrived'
  knows_behind = record {
    ascending = in_round.ascending;
    placed = placed_behind;
    true_of = true_behind;
    whole = whole_behind;
    together = together_behind;
    counted = counted_behind;
    others = others_behind;
  }

pub rounds_know_able : (W X : Type 0) → RoundsKnowAble W X
rounds_know_able W X next place set round s coming able able' arrived arrived' steady stands possible knows forgotten in_round =
    knows_behind next place set round s coming able able' arrived arrived' steady stands possible knows forgotten in_round
