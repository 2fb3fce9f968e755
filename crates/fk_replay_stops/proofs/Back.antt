-- What is left of a whole round up to its first fault.
use Rattle.std.proofs.Common.{◌≡◌, ⊎_elim, ℕ, zero, suc, ◌+◌, ◌<◌, ◌≤◌, ◌==◌, ◌&&◌, ◌||◌, Bool, true, List, [], ◌∷◌, slice_get, Option, Some, None, nat_lt, refl, sym, ap, ap₂, ◌∙◌, subst, arith}
use Rattle.std.specs.Prelude.{slice_index}
use Rattle.std.specs.List.{list_all}
use Rattle.std.proofs.lemmas.Bool.{cases_lt, and_parts, and_from, or_right, eqb-true, lt-ltb}
use Rattle.fk_tree.specs.declared.node.Kind.{Kind}
use Rattle.fk_tree.specs.declared.node.Kind.TheVariants.{Lockstep, Waiting, Asynchronous}
use Rattle.fk_tree.specs.Tree as t
use Rattle.fk_meaning_operation.specs.declared.kinds.Joint.{Joint}
use Rattle.fk_meaning_operation.specs.declared.kinds.Joint.TheVariants.{Alone, Starting, AtBarrier, Closing, Resuming}
use Rattle.fk_meaning.specs.Processor.{Setting}
use Rattle.fk_meaning.specs.Round.{Step, Runner, State, Round, cut, joint_at, same_joint, body_of, all_do, joins, fits_kind, fits, all_fit, begin_all, may_act, all_may_act, IsStopped}
use Rattle.fk_meaning.proofs.Stopped.{stopped_faults}
use Rattle.fk_replay_rounds.specs.Fits.{all_have, one_joins, all_join, joins_below, fits_kind_below, fits_below, all_fit_below}
use Rattle.fk_replay_rounds.specs.Stops.{joint_up_to, FaultsLast}
use Rattle.fk_replay_rounds.proofs.Fitting.{list_all_at}
use Rattle.fk_replay_stops.proofs.Places.{untrue, all_members, cut_low, cut_high, fit_at, below_each, joint_with, joint_is, one_is_next, up_low, up_high}

module _ {W : Type 0} (next : W → Option (Step W)) (set : Setting) where
  cut_may : (first : ℕ) (round : Round) (rs : List (Runner W)) → all_may_act next set round rs ≡ true → all_may_act next set (cut first round) rs ≡ true
  cut_may zero [] [] e = refl
  cut_may (suc n) [] [] e = refl
  cut_may first [] (r ∷ rs) e = untrue e
  cut_may first (c ∷ round) [] e = untrue e
  cut_may zero (c ∷ round) (r ∷ rs) e =
      cut_may zero round rs (and_parts (may_act next set c r) (all_may_act next set round rs) e).1
  cut_may (suc n) (c ∷ round) (r ∷ rs) e =
      let both = and_parts (may_act next set c r) (all_may_act next set round rs) e in
      and_from (may_act next set c r) (all_may_act next set (cut n round) rs) both.0 (cut_may n round rs both.1)

  module _ (whole : Round) (rs : List (Runner W)) (last : ℕ) (tree : t.Tree) where
    abbrev round : Round
    round = cut (suc last) whole

    abbrev takes : ℕ → Joint
    takes = joint_at (begin_all next set whole rs)

    abbrev joint : ℕ → Joint
    joint = joint_up_to next set round rs last

    same_count : (m : ℕ) → m ≤ last → slice_index round m ≡ slice_index whole m
    same_count m le = cut_low (suc last) whole m (omega arith)

    same_low : (m : ℕ) → m ≤ last → joint m ≡ takes m
    same_low m le =
        up_low next set round rs last m le ∙ ap (λ (c : ℕ). joint_with next set c (slice_get rs m)) (same_count m le) ∙ sym (joint_is next set whole rs m)

    same_high : (m : ℕ) → last < m → slice_index whole m ≡ 1 → joint m ≡ takes m
    same_high m lt one =
        up_high next set round rs last m lt ∙ sym (one_is_next next set (slice_get rs m))
        ∙ ap (λ (c : ℕ). joint_with next set c (slice_get rs m)) (sym one) ∙ sym (joint_is next set whole rs m)

    have_back : (h : ℕ) (ms : List ℕ) → h ≤ last → list_all (λ m. slice_index whole m == slice_index whole h) ms ≡ true
        → all_have round last (slice_index round h) ms ≡ true
    have_back h ms le e =
        all_members (λ m. nat_lt last m || (slice_index round m == slice_index round h)) ms
        (λ m is. ⊎_elim
        (λ lt. ap (λ (b : Bool). b || (slice_index round m == slice_index round h)) (lt-ltb last m lt))
        (λ low. or_right (nat_lt last m) (slice_index round m == slice_index round h)
        (ap₂ (λ (a b : ℕ). a == b) (same_count m low) (same_count h le) ∙ list_all_at (λ k. slice_index whole k == slice_index whole h) ms m e is))
        (cases_lt last m))

    joins_back : (j : Joint) (ms : List ℕ) → all_do whole takes j ms ≡ true → all_join round last joint j ms ≡ true
    joins_back j ms e =
        all_members (one_joins round last joint j) ms
        (λ m is.
        let both = and_parts (slice_index whole m == 1) (same_joint j (takes m)) (list_all_at (λ h. (slice_index whole h == 1) && same_joint j (takes h)) ms m e is) in
        let one = eqb-true (slice_index whole m) 1 both.0 in
        ⊎_elim
        (λ lt. and_from (nat_lt last m || (slice_index round m == 1)) (same_joint j (joint m))
        (ap (λ (b : Bool). b || (slice_index round m == 1)) (lt-ltb last m lt)) (ap (same_joint j) (same_high m lt one) ∙ both.1))
        (λ low. and_from (nat_lt last m || (slice_index round m == 1)) (same_joint j (joint m))
        (or_right (nat_lt last m) (slice_index round m == 1) (ap (λ (c : ℕ). c == 1) (same_count m low) ∙ both.0)) (ap (same_joint j) (same_low m low) ∙ both.1))
        (cases_lt last m))

    node_back : (n : ℕ) (j : Joint) → joins whole takes tree n j ≡ true → joins_below round last joint tree n j ≡ true
    node_back n Alone e = refl
    node_back n Starting e = joins_back Starting (t.members tree n) e
    node_back n AtBarrier e = joins_back AtBarrier (body_of (t.kind tree n) (t.members tree n)) e
    node_back n Closing e = joins_back Closing (t.members tree n) e
    node_back n Resuming e =
        let both = and_parts (t.ready tree n) (all_do whole takes Resuming (t.members tree n)) e in
        and_from (t.ready tree n) (all_join round last joint Resuming (t.members tree n)) both.0 (joins_back Resuming (t.members tree n) both.1)

    apart_back : (h n : ℕ) → h ≤ last → joins whole takes tree n (takes h) ≡ true → joins_below round last joint tree n (joint h) ≡ true
    apart_back h n le e = ap (joins_below round last joint tree n) (same_low h le) ∙ node_back n (takes h) e

    kind_back : (h n : ℕ) (kind : Option Kind) → h ≤ last → fits_kind whole takes tree h n kind ≡ true → fits_kind_below round last joint tree h n kind ≡ true
    kind_back h n (Some Lockstep) le e = have_back h (t.members tree n) le e
    kind_back h n (Some (Waiting first parts)) le e = apart_back h n le e
    kind_back h n (Some (Asynchronous alone)) le e = apart_back h n le e
    kind_back h n None le e = apart_back h n le e

    one_back : (h c : ℕ) → h ≤ last → fits whole takes tree h c ≡ true → fits_below round last joint tree h c ≡ true
    one_back h zero le e = refl
    one_back h (suc c) le e = let n = tree.places h in kind_back h n (t.kind tree n) le e

    pub fits_back : all_fit whole takes tree 0 whole ≡ true → (j : ℕ) → fits_below round last joint tree (0 + j) (slice_index round j) ≡ true
    fits_back e j =
        let here : j ≡ 0 + j = omega arith in
        ⊎_elim
        (λ lt. ap (fits_below round last joint tree (0 + j)) (cut_high (suc last) whole j (omega (arith, lt))))
        (λ low. subst (λ (c : ℕ). fits_below round last joint tree (0 + j) c ≡ true) (sym (same_count j low))
        (one_back (0 + j) (slice_index whole j) (omega (arith, low)) (fit_at whole takes tree 0 whole j e)))
        (cases_lt last j)

  pub back : (round : Round) (s : State W) (stopped : IsStopped next set round s) → FaultsLast next set round s stopped.fault
  back round s stopped =
      let whole = stopped.whole in
      let last = stopped.fault.processor in
      let left = cut (suc last) whole in
      let takes = joint_at (begin_all next set whole s.runners) in
      let both = and_parts (all_may_act next set whole s.runners) (all_fit whole takes s.tree 0 whole) stopped.allowed in
      record {
        may = subst (λ (r : Round). all_may_act next set r s.runners ≡ true) (sym stopped.is_cut) (cut_may (suc last) whole s.runners both.0);
        faults = stopped_faults next set round s stopped;
        last = λ h lt. subst (λ (r : Round). slice_index r h ≡ 0) (sym stopped.is_cut) (cut_high (suc last) whole h (omega (arith, lt)));
        fits = subst (λ (r : Round). all_fit_below r last (joint_up_to next set r s.runners last) s.tree 0 r ≡ true) (sym stopped.is_cut)
            (below_each left last (joint_up_to next set left s.runners last) s.tree 0 left (fits_back whole s.runners last s.tree both.1));
      }
