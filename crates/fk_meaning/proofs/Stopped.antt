-- A stopped round has the fault of the round that it is left of.
use Rattle.std.proofs.Common.{◌≡◌, ℕ, suc, ◌+◌, List, [], ◌∷◌, Option, Some, None, ap, ◌∙◌, sym, refl, subst, arith}
use Rattle.fk_meaning.specs.Processor.{Setting}
use Rattle.fk_meaning_store.specs.Store.{Store}
use Rattle.fk_tree.specs.Tree as t
use Rattle.fk_meaning.specs.Round.{Step, Runner, Fault, State, Round, Acting, Phase, Passes, Breaks, cut, request_phase, after_phase, all_requests, tree_phase, local_phase, begin, begin_all, all_locals, result, IsStopped}

pub phase_fault : {W : Type 0} (tree : t.Tree) (s : Store) (actings : List (Acting W)) (fault : Option Fault) → (tree_phase tree s actings fault).fault ≡ fault
phase_fault tree s actings None = refl
phase_fault tree s actings (Some f) = refl

abbrev fault_or : Fault → Option Fault → Fault
fault_or f None = f
fault_or f (Some g) = g

module _ {W : Type 0} (next : W → Option (Step W)) (set : Setting) where
  abbrev requests : ℕ → Round → List (Runner W) → Store → Option Fault
  requests number round rs s = (all_requests number (all_locals next set (begin_all next set round rs)) s).fault

  record Kept (number : ℕ) (round : Round) (rs : List (Runner W)) (s : Store) (f : Fault) : Type 0 where
    above : ℕ
    is_above : f.processor ≡ number + above
    kept : requests number (cut (suc above) round) rs s ≡ Some f

  abbrev acted : ℕ → Runner W → Acting W
  acted c r = let b = begin next set c r in local_phase next set b b.due

  abbrev served : ℕ → Round → List (Runner W) → Store → Acting W → Phase W → Option Fault
  served number round rs s a phase =
      (after_phase number s a (all_locals next set (begin_all next set round rs)) (all_requests (suc number) (all_locals next set (begin_all next set round rs))) phase).fault

  keeps : (number : ℕ) (round : Round) (rs : List (Runner W)) (s : Store) (f : Fault) → requests number round rs s ≡ Some f → Kept number round rs s f
  keeps number [] rs s f e = absurd (cc)
  keeps number (c ∷ round) [] s f e = absurd (cc)
  keeps number (c ∷ round) (r ∷ rs) s f e =
      by (λ s' e'. keeps (suc number) round rs s' f e') (request_phase s (acted c r) (acted c r).due) refl e
    where
      by : ((s' : Store) → requests (suc number) round rs s' ≡ Some f → Kept (suc number) round rs s' f)
          → (phase : Phase W) → request_phase s (acted c r) (acted c r).due ≡ phase → served number round rs s (acted c r) phase ≡ Some f
          → Kept number (c ∷ round) (r ∷ rs) s f
      by h (Passes s' a') p e =
          let k = h s' e in
          let above = k.above in
          let processor = f.processor in
          let is : processor ≡ suc number + above = k.is_above in
          let is_above : processor ≡ number + suc above = omega arith in
          record { above = suc above; is_above = is_above; kept = ap (served number (cut (suc above) round) rs s (acted c r)) p ∙ k.kept }
      by h (Breaks site) p e =
          let processor = f.processor in
          let is : number ≡ processor = ap (λ o. (fault_or f o).processor) e in
          let is_above : processor ≡ number + 0 = omega arith in
          record { above = 0; is_above = is_above; kept = ap (served number (cut 0 round) rs s (acted c r)) p ∙ e }

  -- so a run ends with it
  pub stopped_faults : (round : Round) (s : State W) (h : IsStopped next set round s) → (result next set round s).fault ≡ Some h.fault
  stopped_faults round s h =
      let r = all_requests 0 (all_locals next set (begin_all next set h.whole s.runners)) s.store in
      let whole : requests 0 h.whole s.runners s.store ≡ Some h.fault = sym (phase_fault s.tree r.store r.acting r.fault) ∙ h.faults in
      let k = keeps 0 h.whole s.runners s.store h.fault whole in
      let above = k.above in
      let processor = h.fault.processor in
      let is : processor ≡ 0 + above = k.is_above in
      let same : above ≡ processor = omega arith in
      let kept : requests 0 (cut (suc processor) h.whole) s.runners s.store ≡ Some h.fault
      = subst (λ n. requests 0 (cut (suc n) h.whole) s.runners s.store ≡ Some h.fault) same k.kept in
      let q = all_requests 0 (all_locals next set (begin_all next set (cut (suc processor) h.whole) s.runners)) s.store in
      subst (λ round. (result next set round s).fault ≡ Some h.fault) (sym h.is_cut) (phase_fault s.tree q.store q.acting q.fault ∙ kept)
