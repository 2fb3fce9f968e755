-- A round, from its phases.
use Rattle.std.proofs.Common.{◌≡◌, ℕ, zero, suc, ◌+◌, ◌<◌, ◌≤◌, Bool, true, false, ◌&&◌, List, [], ◌∷◌, length, map, Option, Some, None, ap, refl, sym, ◌∙◌, subst, arith}
use Rattle.std.specs.Prelude.{nat_lt, slice_index, slice_get, option_map, is_none, is_some}
use Rattle.std.proofs.Math.Path.{fun_ext}
use Rattle.fk_tree.specs.Tree as t
use Rattle.fk_tree.specs.Tree.{Tree, is_member}
use Rattle.fk_tree.specs.Sound.{IsSound}
use Rattle.fk_tree.specs.declared.node.Kind.{Kind}
use Rattle.fk_tree.specs.declared.node.Kind.TheVariants.{Lockstep, Waiting, Asynchronous}
use Rattle.fk_meaning_operation.specs.Kinds.{class_of, joint_of}
use Rattle.fk_meaning_operation.specs.declared.operation.Operation.{Operation}
use Rattle.fk_meaning_operation.specs.declared.operation.Operation.TheVariants.{Resume}
use Rattle.fk_meaning_operation.specs.declared.kinds.Joint.TheVariants.{Alone, Resuming}
use Rattle.fk_meaning_store.specs.Store.{Store}
use Rattle.fk_meaning.specs.Processor.{Setting}
use Rattle.fk_meaning.specs.Round as rounds
use Rattle.fk_meaning.specs.Round.{Step, Runner, Acting, State, Round, Fault, taking, begin, begin_all, asking, all_requests, tree_phase, result, all_changes, settled, joint_due, all_fit, fits_kind, may_act, all_may_act, are_local, after_one, after_locals, is_local_next, is_allowed, is_possible, IsStopped}
use Rattle.fk_core.specs.declared.op.CoreOp.{CoreOp}
use Rattle.fk_core.specs.Next.{Position, next}
use Rattle.fk_lockstep_nodes.specs.Steps.{stepping}
use Rattle.fk_lockstep_tree.proofs.Waiters.{waiters_resume}
use Rattle.fk_lockstep_tree.specs.Ranges.{ranges_of}
use Rattle.fk_replay_rounds.specs.Fits.{all_fit_below}
use Rattle.fk_replay_rounds.specs.Stops as stops
use Rattle.fk_replay_rounds.specs.Stops.{joint_up_to, IsTogether, FaultsLast, StopsTell, FaultsOfTheLastStop}
use Rattle.fk_replay_rounds.proofs.Joints.{asking_joints, request_joints, fit_whole, absent_asking, absent_requests}
use Rattle.fk_replay_phases.specs.declared.phases.Fault as code
use Rattle.fk_replay_phases.specs.declared.actor.Actor.{Actor}
use Rattle.fk_replay_phases.specs.Actors.{acting_of, actings_of, runners_of, fault_of, HaveBegun, HaveAsked}
use Rattle.fk_replay_phases.specs.Joints.{joint_at, joint_by}
use Rattle.fk_replay_run.specs.Steady.{IsSteady}
use Rattle.fk_replay_take.specs.Asked.{AreServed}

and_true : (a b : Bool) → a && b ≡ true → (a ≡ true) × (b ≡ true)
and_true true b e = (refl, e)
and_true false b e = absurd (let bad : false ≡ true = e in cc)

get_map : {A B : Type 0} (f : A → B) (xs : List A) (n : ℕ) → slice_get (map f xs) n ≡ option_map f (slice_get xs n)
get_map f [] n = refl
get_map f (x ∷ xs) zero = refl
get_map f (x ∷ xs) (suc n) = get_map f xs n

-- the joint operation of a processor, in both forms
acting_joint : (core : List CoreOp) (actors : List Actor) (h : ℕ) → rounds.joint_at (actings_of core actors) h ≡ joint_by core false (slice_get actors h)
acting_joint core [] h = refl
acting_joint core (a ∷ actors) zero = refl
acting_joint core (a ∷ actors) (suc h) = acting_joint core actors h

module _ (core : List CoreOp) (set : Setting) (round : Round) (s : State Position) where
  pub asked_of : (before mid after : List Actor) (store : Store) (fault : Option code.Fault) → s.runners ≡ runners_of before → HaveBegun core set round before mid true → HaveAsked core s.store store mid after fault
      → AreServed core set round s after store fault
  asked_of before mid after store fault same begun asks = record {
    may = ap (all_may_act (next core) set round) same ∙ sym begun.whether;
    phase = ap (λ rs. all_requests 0 (asking (next core) set round rs) s.store) same ∙ ap (λ xs. all_requests 0 xs s.store) (sym (begun.begun refl)) ∙ asks.phase;
  }

  -- the result of the round
  pub result_is : (after : List Actor) (store : Store) (fault : Option code.Fault) → AreServed core set round s after store fault
      → result (next core) set round s ≡ tree_phase s.tree store (actings_of core after) (option_map (fault_of core) fault)
  result_is after store fault asks = ap (λ r. tree_phase s.tree r.store r.acting r.fault) asks.phase

  pub stepping_is : (after : List Actor) (store : Store) (fault : Option code.Fault) → AreServed core set round s after store fault → stepping (next core) set round s ≡ actings_of core after
  stepping_is after store fault asks = ap (λ r. r.acting) asks.phase

  -- the joint operations that processors have taken
  pub taken_joint : (after : List Actor) (store : Store) (fault : Option code.Fault) → AreServed core set round s after store fault → (h : ℕ) → joint_by core false (slice_get after h) ≡ rounds.joint_at (begin_all (next core) set round s.runners) h
  taken_joint after store fault asks h =
      sym (acting_joint core after h) ∙ ap (λ xs. rounds.joint_at xs h) (sym (stepping_is after store fault asks))
      ∙ request_joints 0 (asking (next core) set round s.runners) s.store h ∙ asking_joints (next core) set round s.runners h

  -- a processor that isn't in the round stands as before
  absent_joint : (after : List Actor) (store : Store) (fault : Option code.Fault) → AreServed core set round s after store fault → length round ≡ length s.runners → (h : ℕ) → slice_index round h ≡ 0
      → joint_by core true (slice_get after h) ≡ stops.joint_next (next core) set (slice_get s.runners h)
  absent_joint after store fault asks many h none = by_runner (slice_get s.runners h) refl
    where
      same : (o : Option Actor) → option_map (acting_of core) o ≡ slice_get (stepping (next core) set round s) h → (r : Runner Position) → slice_get (stepping (next core) set round s) h ≡ Some (taking r None)
          → joint_by core true o ≡ joint_due (next core r.left)
      same None e r f = absurd (let bad : None ≡ Some (taking r None) = e ∙ f in cc)
      same (Some a) e r f =
          let as_acting : Some (acting_of core a) ≡ Some (taking r None) = e ∙ f in
          let is : acting_of core a ≡ taking r None = cc in
          ap (λ (x : Acting Position). joint_due (next core x.runner.left)) is

      found : option_map (acting_of core) (slice_get after h) ≡ slice_get (stepping (next core) set round s) h
      found = sym (get_map (acting_of core) after h) ∙ ap (λ xs. slice_get xs h) (sym (stepping_is after store fault asks))

      by_runner : (o : Option (Runner Position)) → slice_get s.runners h ≡ o → joint_by core true (slice_get after h) ≡ stops.joint_next (next core) set (slice_get s.runners h)
      by_runner (Some r) e =
          same (slice_get after h) found r (absent_requests 0 (asking (next core) set round s.runners) s.store h (taking r None) (absent_asking (next core) set round s.runners h r many e none) refl)
          ∙ ap (stops.joint_next (next core) set) (sym e)
      by_runner None e = past (slice_get after h) (found ∙ past_stepping) ∙ ap (stops.joint_next (next core) set) (sym e)
        where
          past : (o : Option Actor) → option_map (acting_of core) o ≡ None → joint_by core true o ≡ Alone
          past None f = refl
          past (Some a) f = absurd (let bad : Some (acting_of core a) ≡ None = f in cc)

          none_asking : (cs : Round) (rs : List (Runner Position)) (k : ℕ) → slice_get rs k ≡ None → slice_get (asking (next core) set cs rs) k ≡ None
          none_asking [] rs k f = refl
          none_asking (c ∷ cs) [] k f = refl
          none_asking (c ∷ cs) (r ∷ rs) zero f = absurd (let bad : Some r ≡ None = f in cc)
          none_asking (c ∷ cs) (r ∷ rs) (suc k) f = none_asking cs rs k f

          none_requests : (n : ℕ) (xs : List (Acting Position)) (st : Store) (k : ℕ) → slice_get xs k ≡ None → slice_get (all_requests n xs st).acting k ≡ None
          none_requests n [] st k f = refl
          none_requests n (x ∷ xs) st zero f = absurd (let bad : Some x ≡ None = f in cc)
          none_requests n (x ∷ xs) st (suc k) f = by_phase (rounds.request_phase st x x.due) (λ st'. none_requests (suc n) xs st' k f)
            where
              by_phase : (phase : rounds.Phase Position) → ((st' : Store) → slice_get (all_requests (suc n) xs st').acting k ≡ None) → slice_get (rounds.after_phase n st x xs (all_requests (suc n) xs) phase).acting (suc k) ≡ None
              by_phase (rounds.Passes st' x') more = more st'
              by_phase (rounds.Breaks site) more = f

          past_stepping : slice_get (stepping (next core) set round s) h ≡ None
          past_stepping = none_requests 0 (asking (next core) set round s.runners) s.store h (none_asking round s.runners h e)

  pub joints_up_to : (after : List Actor) (store : Store) (fault : Option code.Fault) → AreServed core set round s after store fault → length round ≡ length s.runners → (last : ℕ) → ((h : ℕ) → last < h → slice_index round h ≡ 0)
      → joint_at core after last ≡ joint_up_to (next core) set round s.runners last
  joints_up_to after store fault asks many last none = fun_ext (λ h. by_above h (nat_lt last h) refl)
    where
      by_above : (h : ℕ) (above : Bool) → nat_lt last h ≡ above → joint_by core (nat_lt last h) (slice_get after h) ≡ stops.joint_by (next core) set round s.runners (nat_lt last h) h
      by_above h true e =
          let lt : last < h = grind arith in
          ap (λ b. joint_by core b (slice_get after h)) e ∙ absent_joint after store fault asks many h (none h lt) ∙ sym (ap (λ b. stops.joint_by (next core) set round s.runners b h) e)
      by_above h false e =
          ap (λ b. joint_by core b (slice_get after h)) e ∙ taken_joint after store fault asks h ∙ sym (ap (λ b. stops.joint_by (next core) set round s.runners b h) e)

  -- ---- who waits resumes

  may_one : (cs : Round) (rs : List (Runner Position)) (h : ℕ) → all_may_act (next core) set cs rs ≡ true → 0 < slice_index cs h → (r : Runner Position) × (slice_get rs h ≡ Some r) × (may_act (next core) set (slice_index cs h) r ≡ true)
  may_one [] rs zero may some = absurd (let z : ⊥ = omega arith in z)
  may_one [] rs (suc h) may some = absurd (let z : ⊥ = omega arith in z)
  may_one (c ∷ cs) [] h may some = absurd (let bad : false ≡ true = may in cc)
  may_one (c ∷ cs) (r ∷ rs) zero may some = (r, refl, (and_true (may_act (next core) set c r) (all_may_act (next core) set cs rs) may).0)
  may_one (c ∷ cs) (r ∷ rs) (suc h) may some = may_one cs rs h (and_true (may_act (next core) set c r) (all_may_act (next core) set cs rs) may).1 some

  begin_joint : (cs : Round) (rs : List (Runner Position)) (h : ℕ) (r : Runner Position) → slice_get rs h ≡ Some r → 0 < slice_index cs h → rounds.joint_at (begin_all (next core) set cs rs) h ≡ joint_due (begin (next core) set (slice_index cs h) r).due
  begin_joint [] rs zero r is some = absurd (let z : ⊥ = omega arith in z)
  begin_joint [] rs (suc h) r is some = absurd (let z : ⊥ = omega arith in z)
  begin_joint (c ∷ cs) [] h r is some = absurd (let bad : None ≡ Some r = is in cc)
  begin_joint (c ∷ cs) (q ∷ rs) zero r is some = let same : q ≡ r = cc in ap (λ x. joint_due (begin (next core) set c x).due) same
  begin_joint (c ∷ cs) (q ∷ rs) (suc h) r is some = begin_joint cs rs h r is some

  resumes_of : (r : Runner Position) (count : ℕ) → ((step : Step Position) → next core r.left ≡ Some step → step.operation ≡ Resume) → 0 < count → may_act (next core) set count r ≡ true → joint_due (begin (next core) set count r).due ≡ Resuming
  resumes_of r zero only some may = absurd (let z : ⊥ = omega arith in z)
  resumes_of r (suc zero) only some may = by_next (next core r.left) refl
    where
      parts : (is_some (next core r.left) ≡ true)
      parts = (and_true (nat_lt 0 255 && true) (is_some (next core r.left)) may).1

      by_next : (o : Option (Step Position)) → next core r.left ≡ o → joint_due (next core r.left) ≡ Resuming
      by_next None e = absurd (let bad : false ≡ true = sym (ap is_some e) ∙ parts in cc)
      by_next (Some step) e = ap joint_due e ∙ ap joint_of (only step e)
  resumes_of r (suc (suc k)) only some may = absurd (by_next (next core r.left) refl)
    where
      first_local : is_local_next (next core) set (next core r.left) ≡ true
      first_local =
          let all = and_true (nat_lt (suc k) 255 && are_local (next core) set (suc k) r) (is_some (next core (after_locals (next core) set (suc k) r).left)) may in
          let locals = and_true (nat_lt (suc k) 255) (are_local (next core) set (suc k) r) all.0 in
          (and_true (is_local_next (next core) set (next core r.left)) (are_local (next core) set k (after_one (next core) set r)) locals.1).0

      by_next : (o : Option (Step Position)) → next core r.left ≡ o → ⊥
      by_next None e = let bad : false ≡ true = sym (ap (is_local_next (next core) set) e) ∙ first_local in cc
      by_next (Some step) e =
          let bad : false ≡ true = sym (ap (λ op. rounds.is_local (class_of op)) (only step e)) ∙ sym (ap (is_local_next (next core) set) e) ∙ first_local in
          cc

  pub waits : (steady : IsSteady core set s) (after : List Actor) (store : Store) (fault : Option code.Fault) → AreServed core set round s after store fault → (last h first parts : ℕ) → 0 < slice_index round h → h ≤ last
      → t.kind s.tree (s.tree.places h) ≡ Some (Waiting first parts) → joint_at core after last h ≡ Resuming
  waits steady after store fault asks last h first parts some low kind =
      let found = may_one round s.runners h asks.may some in
      let only : (step : Step Position) → next core found.0.left ≡ Some step → step.operation ≡ Resume =
      λ step e. waiters_resume Position (next core) set (ranges_of s) s h first parts found.0 step steady.stands.tree kind found.1 e in
      let not_above : nat_lt last h ≡ false = grind arith in
      ap (λ b. joint_by core b (slice_get after h)) not_above ∙ taken_joint after store fault asks h
      ∙ begin_joint round s.runners h found.0 found.1 some ∙ resumes_of found.0 (slice_index round h) only some found.2

  pub together : IsSteady core set s → IsTogether (next core) set s
  together steady = record {
    running = steady.running;
    sound = steady.stands.sound;
    many = steady.stands.tree.many;
    together = steady.together;
    waits = λ h first parts r step kind is due. waiters_resume Position (next core) set (ranges_of s) s h first parts r step steady.stands.tree kind is due;
  }

  -- ---- answers

  pub not_begun : all_may_act (next core) set round s.runners ≡ false → (is_possible (next core) set round s ≡ true → ⊥) × ((tells : StopsTell (next core) set round s) → IsStopped (next core) set round s → ⊥)
  not_begun cannot = (
    λ possible.
        let allowed = (and_true (is_none s.fault) (is_allowed (next core) set round s) (and_true (is_none s.fault && is_allowed (next core) set round s) (is_none (result (next core) set round s).fault) possible).0).1 in
        let may = (and_true (all_may_act (next core) set round s.runners) (all_fit round (rounds.joint_at (begin_all (next core) set round s.runners)) s.tree 0 round) allowed).0 in
        let bad : false ≡ true = sym cannot ∙ may in cc,
    λ tells stopped. let bad : false ≡ true = sym cannot ∙ (tells.back stopped).may in cc,
  )

  -- with nobody above the last processor, all joint operations are those of the round
  up_to_all : (last : ℕ) → length s.runners ≤ suc last → joint_up_to (next core) set round s.runners last ≡ rounds.joint_at (begin_all (next core) set round s.runners)
  up_to_all last few = fun_ext (λ h. by_above h (nat_lt last h) refl)
    where
      none_there : (rs : List (Runner Position)) (h : ℕ) → length rs ≤ h → slice_get rs h ≡ None
      none_there [] h le = refl
      none_there (r ∷ rs) zero le = absurd (let z : ⊥ = omega arith in z)
      none_there (r ∷ rs) (suc h) le = none_there rs h (omega arith)

      alone_there : (cs : Round) (rs : List (Runner Position)) (h : ℕ) → length rs ≤ h → rounds.joint_at (begin_all (next core) set cs rs) h ≡ Alone
      alone_there [] rs h le = refl
      alone_there (c ∷ cs) [] h le = refl
      alone_there (c ∷ cs) (r ∷ rs) zero le = absurd (let z : ⊥ = omega arith in z)
      alone_there (c ∷ cs) (r ∷ rs) (suc h) le = alone_there cs rs h (omega arith)

      by_above : (h : ℕ) (above : Bool) → nat_lt last h ≡ above → stops.joint_by (next core) set round s.runners (nat_lt last h) h ≡ rounds.joint_at (begin_all (next core) set round s.runners) h
      by_above h false e = ap (λ b. stops.joint_by (next core) set round s.runners b h) e
      by_above h true e =
          let lt : last < h = grind arith in
          ap (λ b. stops.joint_by (next core) set round s.runners b h) e
          ∙ ap (stops.joint_next (next core) set) (none_there s.runners h (omega arith))
          ∙ sym (alone_there round s.runners h (omega arith))

  -- the test of the code, for a whole round
  pub fits_whole : (after : List Actor) (store : Store) (fault : Option code.Fault) → AreServed core set round s after store fault → length round ≡ length s.runners → (p last : ℕ) → IsSound p s.tree → length s.runners ≡ p → p ≤ suc last
      → all_fit_below round last (joint_at core after last) s.tree 0 round ≡ all_fit round (rounds.joint_at (begin_all (next core) set round s.runners)) s.tree 0 round
  fits_whole after store fault asks many p last sound all few =
      ap (λ j. all_fit_below round last j s.tree 0 round) (joints_up_to after store fault asks many last (λ h lt. out_of round h (omega arith)) ∙ up_to_all last (omega arith))
      ∙ fit_whole round last (rounds.joint_at (begin_all (next core) set round s.runners)) s.tree (λ n h is. let lt = sound.within n h is in omega arith) 0 round
    where
      out_of : (xs : List ℕ) (h : ℕ) → length xs ≤ h → slice_index xs h ≡ 0
      out_of [] zero le = refl
      out_of [] (suc h) le = refl
      out_of (x ∷ xs) zero le = absurd (let z : ⊥ = omega arith in z)
      out_of (x ∷ xs) (suc h) le = out_of xs h (omega arith)

  pub is_it_possible : s.fault ≡ None → all_may_act (next core) set round s.runners ≡ true → all_fit round (rounds.joint_at (begin_all (next core) set round s.runners)) s.tree 0 round ≡ true
      → (result (next core) set round s).fault ≡ None → is_possible (next core) set round s ≡ true
  is_it_possible running may fit no_fault =
      ap (λ f. (is_none f && is_allowed (next core) set round s) && is_none (result (next core) set round s).fault) running
      ∙ ap (λ b. (b && all_fit round (rounds.joint_at (begin_all (next core) set round s.runners)) s.tree 0 round) && is_none (result (next core) set round s).fault) may
      ∙ ap (λ b. b && is_none (result (next core) set round s).fault) fit
      ∙ ap is_none no_fault

  -- who has not fitted, without a fault
  pub not_fitting : all_fit round (rounds.joint_at (begin_all (next core) set round s.runners)) s.tree 0 round ≡ false → (result (next core) set round s).fault ≡ None
      → (is_possible (next core) set round s ≡ true → ⊥) × ((tells : StopsTell (next core) set round s) → IsStopped (next core) set round s → ⊥)
  not_fitting misfit no_fault = (
    λ possible.
        let allowed = (and_true (is_none s.fault) (is_allowed (next core) set round s) (and_true (is_none s.fault && is_allowed (next core) set round s) (is_none (result (next core) set round s).fault) possible).0).1 in
        let fit = (and_true (all_may_act (next core) set round s.runners) (all_fit round (rounds.joint_at (begin_all (next core) set round s.runners)) s.tree 0 round) allowed).1 in
        let bad : false ≡ true = sym misfit ∙ fit in cc,
    λ tells stopped. let bad : None ≡ Some stopped.fault = sym no_fault ∙ (tells.back stopped).faults in cc,
  )

  -- a fault that isn't the last, or whose others don't fit
  pub not_stopping : (fault : Fault) → (result (next core) set round s).fault ≡ Some fault
      → (((h : ℕ) → fault.processor < h → slice_index round h ≡ 0) → all_fit_below round fault.processor (joint_up_to (next core) set round s.runners fault.processor) s.tree 0 round ≡ true → ⊥)
      → (is_possible (next core) set round s ≡ true → ⊥) × ((tells : StopsTell (next core) set round s) → IsStopped (next core) set round s → ⊥)
  not_stopping fault faults neither = (
    λ possible.
        let none = (and_true (is_none s.fault && is_allowed (next core) set round s) (is_none (result (next core) set round s).fault) possible).1 in
        let bad : false ≡ true = sym (ap is_none faults) ∙ none in cc,
    λ tells stopped.
        let told = tells.back stopped in
        let same : Some fault ≡ Some stopped.fault = sym faults ∙ told.faults in
        let is : stopped.fault ≡ fault = cc in
        neither (λ h lt. told.last h (let e : stopped.fault.processor ≡ fault.processor = ap (λ (f : Fault). f.processor) is in omega arith))
        (ap (λ (f : Fault). all_fit_below round f.processor (joint_up_to (next core) set round s.runners f.processor) s.tree 0 round) (sym is) ∙ told.fits),
  )

  -- who resumes finds its parts ended
  pub resumes : (tree : t.Tree) (h : ℕ) (operation : Operation) → operation ≡ Resume
      → all_fit round (rounds.joint_at (begin_all (next core) set round s.runners)) tree 0 round ≡ true → 0 < slice_index round h
      → rounds.joint_at (begin_all (next core) set round s.runners) h ≡ Resuming → (t.kind tree (tree.places h) ≡ Some Lockstep → ⊥) → t.ready tree (tree.places h) ≡ true
  resumes tree h operation is fit some joint not_group = by_kind (t.kind tree (tree.places h)) refl (one 0 round h fit some)
    where
      one : (first : ℕ) (counts : Round) (k : ℕ) → all_fit round (rounds.joint_at (begin_all (next core) set round s.runners)) tree first counts ≡ true → 0 < slice_index counts k
          → fits_kind round (rounds.joint_at (begin_all (next core) set round s.runners)) tree (first + k) (tree.places (first + k)) (t.kind tree (tree.places (first + k))) ≡ true
      one first [] zero all lt = absurd (let z : ⊥ = omega arith in z)
      one first [] (suc k) all lt = absurd (let z : ⊥ = omega arith in z)
      one first (zero ∷ counts) zero all lt = absurd (let z : ⊥ = omega arith in z)
      one first (zero ∷ counts) (suc k) all lt = subst (λ (m : ℕ). fits_kind round (rounds.joint_at (begin_all (next core) set round s.runners)) tree m (tree.places m) (t.kind tree (tree.places m)) ≡ true) (let e : suc first + k ≡ first + suc k = omega arith in e) (one (suc first) counts k all lt)
      one first (suc c ∷ counts) zero all lt = subst (λ (m : ℕ). fits_kind round (rounds.joint_at (begin_all (next core) set round s.runners)) tree m (tree.places m) (t.kind tree (tree.places m)) ≡ true) (let e : first ≡ first + 0 = omega arith in e)
          (and_true (fits_kind round (rounds.joint_at (begin_all (next core) set round s.runners)) tree first (tree.places first) (t.kind tree (tree.places first))) (all_fit round (rounds.joint_at (begin_all (next core) set round s.runners)) tree (suc first) counts) all).0
      one first (suc c ∷ counts) (suc k) all lt = subst (λ (m : ℕ). fits_kind round (rounds.joint_at (begin_all (next core) set round s.runners)) tree m (tree.places m) (t.kind tree (tree.places m)) ≡ true) (let e : suc first + k ≡ first + suc k = omega arith in e)
          (one (suc first) counts k (and_true (fits_kind round (rounds.joint_at (begin_all (next core) set round s.runners)) tree first (tree.places first) (t.kind tree (tree.places first))) (all_fit round (rounds.joint_at (begin_all (next core) set round s.runners)) tree (suc first) counts) all).1 lt)

      ready_of : rounds.joins round (rounds.joint_at (begin_all (next core) set round s.runners)) tree (tree.places h) (rounds.joint_at (begin_all (next core) set round s.runners) h) ≡ true → t.ready tree (tree.places h) ≡ true
      ready_of e = (and_true (t.ready tree (tree.places h)) (rounds.all_do round (rounds.joint_at (begin_all (next core) set round s.runners)) Resuming (t.members tree (tree.places h)))
          (sym (ap (rounds.joins round (rounds.joint_at (begin_all (next core) set round s.runners)) tree (tree.places h)) joint) ∙ e)).0

      by_kind : (k : Option Kind) → t.kind tree (tree.places h) ≡ k → fits_kind round (rounds.joint_at (begin_all (next core) set round s.runners)) tree (0 + h) (tree.places (0 + h)) (t.kind tree (tree.places (0 + h))) ≡ true → t.ready tree (tree.places h) ≡ true
      by_kind k e fits = at k e (subst (λ (m : ℕ). fits_kind round (rounds.joint_at (begin_all (next core) set round s.runners)) tree m (tree.places m) (t.kind tree (tree.places m)) ≡ true) (let z : 0 + h ≡ h = omega arith in z) fits)
        where
          at : (k : Option Kind) → t.kind tree (tree.places h) ≡ k → fits_kind round (rounds.joint_at (begin_all (next core) set round s.runners)) tree h (tree.places h) (t.kind tree (tree.places h)) ≡ true → t.ready tree (tree.places h) ≡ true
          at (Some Lockstep) e f = absurd (not_group e)
          at None e f = ready_of (sym (ap (fits_kind round (rounds.joint_at (begin_all (next core) set round s.runners)) tree h (tree.places h)) e) ∙ f)
          at (Some (Waiting first parts)) e f = ready_of (sym (ap (fits_kind round (rounds.joint_at (begin_all (next core) set round s.runners)) tree h (tree.places h)) e) ∙ f)
          at (Some (Asynchronous alone)) e f = ready_of (sym (ap (fits_kind round (rounds.joint_at (begin_all (next core) set round s.runners)) tree h (tree.places h)) e) ∙ f)
