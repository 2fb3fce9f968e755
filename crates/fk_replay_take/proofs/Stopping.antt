-- A round with a fault among its requests: whether the fault stops it.
use Rattle.std.proofs.Common.{◌≡◌, ℕ, zero, suc, ◌+◌, ◌<◌, ◌≤◌, Bool, true, false, ◌⊎◌, inl, inr, List, [], ◌∷◌, length, Option, Some, None, ap, refl, sym, ◌∙◌, subst, arith}
use Rattle.std.specs.Prelude.{slice_index, slice_get}
use Rattle.fk_tree.specs.View.{tree_of}
use Rattle.fk_meaning_store.specs.Store.{Store}
use Rattle.fk_meaning_store.specs.View.{store_of}
use Rattle.fk_meaning_state.specs.View.{setting_of}
use Rattle.fk_meaning.specs.Processor.{Setting}
use Rattle.fk_meaning.specs.Round as rounds
use Rattle.fk_meaning.specs.Round.{Step, Runner, Acting, Round, Phase, Passes, Breaks, taking, request_phase, after_phase, asking, all_requests}
use Rattle.fk_core.specs.declared.op.CoreOp.{CoreOp}
use Rattle.fk_core.specs.Next.{Position, next}
use Rattle.fk_replay_rounds.specs.Fits.{all_fit_below}
use Rattle.fk_replay_rounds.proofs.Joints.{absent_asking}
use Rattle.fk_replay_phases.specs.declared.phases.Fault.{Fault}
use Rattle.fk_replay_phases.specs.Present.{present, numbers_of}
use Rattle.fk_replay_phases.specs.Actors.{runners_of, fault_of}
use Rattle.fk_replay_phases.specs.Joints.{joint_at}
use Rattle.fk_replay_run.specs.declared.run.Run.{Run}
use Rattle.fk_replay_take.specs.Taken.{IsStoppedBy, IsNeither, is_last_of}
use Rattle.fk_replay_take.specs.Asked.{IsAsked}
use Rattle.fk_replay_take.proofs.Last.{behind_last, is_last_one}
use Rattle.fk_replay_take.proofs.Served.{round_same, numbers, tells, fit_is}
use Rattle.fk_replay_take.proofs.Taking.{is_stopped, is_neither_stopping}

-- ---- the processor that faults is in the round

module _ {W : Type 0} where
  -- a processor that faults has an operation to do
  pub record Faulting (number : ℕ) (actings : List (Acting W)) (processor : ℕ) : Type 0 where
    pub k : ℕ
    pub is : processor ≡ number + k
    pub acting : Acting W
    pub there : slice_get actings k ≡ Some acting
    pub due : acting.due ≡ None → ⊥

  fault_due : (number : ℕ) (actings : List (Acting W)) (st : Store) (f : rounds.Fault) → (all_requests number actings st).fault ≡ Some f → Faulting number actings f.processor
  fault_due number [] st f e = absurd (let bad : None ≡ Some f = e in cc)
  fault_due number (a ∷ actings) st f e = by_phase (request_phase st a a.due) refl (λ st' e'. fault_due (suc number) actings st' f e') e
    where
      by_phase : (phase : Phase W) → request_phase st a a.due ≡ phase → ((st' : Store) → (all_requests (suc number) actings st').fault ≡ Some f → Faulting (suc number) actings f.processor)
          → (after_phase number st a actings (all_requests (suc number) actings) phase).fault ≡ Some f → Faulting number (a ∷ actings) f.processor
      by_phase (Passes st' a') same more e' =
          let m = more st' e' in
          let at : suc number + m.k ≡ number + suc m.k = omega arith in
          record { k = suc m.k; is = m.is ∙ at; acting = m.acting; there = m.there; due = m.due }
      by_phase (Breaks site) same more e' =
          let found : Some (record { site = site; processor = number }) ≡ Some f = e' in
          let is : record { site = site; processor = number } ≡ f = cc in
          let here : number ≡ number + 0 = omega arith in
          record {
            k = 0;
            is = sym (ap (λ (g : rounds.Fault). g.processor) is) ∙ here;
            acting = a;
            there = refl;
            due = λ none. let bad : Passes st a ≡ Breaks site = sym (ap (request_phase st a) none) ∙ same in cc;
          }

  asking_there : (next' : W → Option (Step W)) (set : Setting) (round : Round) (rs : List (Runner W)) (k : ℕ) (a : Acting W) → slice_get (asking next' set round rs) k ≡ Some a
      → (r : Runner W) × (slice_get rs k ≡ Some r)
  asking_there next' set [] rs k a e = absurd (let bad : None ≡ Some a = e in cc)
  asking_there next' set (c ∷ round) [] k a e = absurd (let bad : None ≡ Some a = e in cc)
  asking_there next' set (c ∷ round) (r ∷ rs) zero a e = (r, refl)
  asking_there next' set (c ∷ round) (r ∷ rs) (suc k) a e = asking_there next' set round rs k a e

  pub faulting : (next' : W → Option (Step W)) (set : Setting) (round : Round) (rs : List (Runner W)) (st : Store) (f : rounds.Fault) → length round ≡ length rs
      → (all_requests 0 (asking next' set round rs) st).fault ≡ Some f → 0 < slice_index round f.processor
  faulting next' set round rs st f many e =
      let d = fault_due 0 (asking next' set round rs) st f e in
      let at : d.k ≡ f.processor = let z = d.is in omega (arith, z) in
      subst (λ (k : ℕ). 0 < slice_index round k) at (by_count d (slice_index round d.k) refl)
    where
      by_count : (d : Faulting 0 (asking next' set round rs) f.processor) (c : ℕ) → slice_index round d.k ≡ c → 0 < slice_index round d.k
      by_count d (suc c) is = omega (arith, is)
      by_count d zero is =
          let r = asking_there next' set round rs d.k d.acting d.there in
          let both : Some d.acting ≡ Some (taking r.0 None) = sym d.there ∙ absent_asking next' set round rs d.k r.0 many r.1 is in
          let same : d.acting ≡ taking r.0 None = cc in
          absurd (d.due (ap (λ (y : Acting W). y.due) same))

-- ---- answers

module _ (core : List CoreOp) (round : Round) (old now : Run) (fault : Fault) (x : IsAsked core round old now (Some fault)) where
  is_last : (b : Bool) → is_last_of fault.processor (numbers_of now.acting.items) ≡ b → is_last_of fault.processor (present 0 round) ≡ b
  is_last b e = ap (is_last_of fault.processor) (sym (numbers core round old now (Some fault) x)) ∙ e

  none_above : is_last_of fault.processor (numbers_of now.acting.items) ≡ true → (h : ℕ) → fault.processor < h → slice_index round h ≡ 0
  none_above e h lt = behind_last fault.processor 0 round h (is_last true e) (omega arith)

  pub low : is_last_of fault.processor (numbers_of now.acting.items) ≡ true → (h : ℕ) → 0 < slice_index round h → h ≤ fault.processor
  low e h some = by (le_or h fault.processor)
    where
      le_or : (a b : ℕ) → (a ≤ b) ⊎ (b < a)
      le_or a b = grind arith

      by : (h ≤ fault.processor) ⊎ (fault.processor < h) → h ≤ fault.processor
      by (inl le) = le
      by (inr lt) = let none = none_above e h lt in absurd (omega (arith, none, some))

  abbrev fits_now : Bool
  fits_now = all_fit_below now.counts.items fault.processor (joint_at core now.actors.items fault.processor) (tree_of now.tree) 0 now.counts.items

  fits_there : (b : Bool) → fits_now ≡ b → all_fit_below round fault.processor (joint_at core now.actors.items fault.processor) (tree_of old.tree) 0 round ≡ b
  fits_there b e = sym (fit_is core round old now (Some fault) x fault.processor) ∙ e

  pub stops : is_last_of fault.processor (numbers_of now.acting.items) ≡ true → fits_now ≡ true → IsStoppedBy core round old now fault
  stops last fits =
      is_stopped core round old now now.actors.items fault x.steady (round_same core round old now (Some fault) x) x.served (none_above last) (fits_there true fits)
      (tells core round old now (Some fault) x) x.pace (numbers core round old now (Some fault) x)

  -- others are above it
  pub not_last : is_last_of fault.processor (numbers_of now.acting.items) ≡ false → IsNeither core round old now
  not_last e =
      is_neither_stopping core round old now now.actors.items (store_of now.store) fault (round_same core round old now (Some fault) x) x.served
      (λ none fits.
      let there = faulting (next core) (setting_of old.setting) round (runners_of old.actors.items) (store_of old.store) (fault_of core fault) (round_same core round old now (Some fault) x)
      (ap (λ (r : rounds.Phases Position). r.fault) x.served.phase) in
      let bad : false ≡ true = sym (is_last false e) ∙ is_last_one fault.processor 0 fault.processor round (let z : fault.processor ≡ 0 + fault.processor = omega arith in z) there none in
      cc)
      (tells core round old now (Some fault) x)

  -- the others don't fit
  pub misfit : fits_now ≡ false → IsNeither core round old now
  misfit e =
      is_neither_stopping core round old now now.actors.items (store_of now.store) fault (round_same core round old now (Some fault) x) x.served
      (λ none fits. let bad : false ≡ true = sym (fits_there false e) ∙ fits in cc)
      (tells core round old now (Some fault) x)
