-- Rounds in which nobody acts.
use Rattle.std.proofs.Common.{◌≡◌, ℕ, zero, suc, ◌<◌, Bool, true, ◌&&◌, List, [], ◌∷◌, length, map, Option, None, refl, sym, ap, ap₂, ◌∙◌, arith}
use Rattle.std.specs.Prelude.{is_none, slice_index}
use Rattle.fk_tree.specs.Tree as t
use Rattle.fk_meaning_operation.specs.declared.kinds.Joint.{Joint}
use Rattle.fk_meaning_store.specs.Store.{Store}
use Rattle.fk_meaning.specs.Processor.{Setting}
use Rattle.fk_meaning.specs.Round.{Step, Runner, State, Round, Fault, Acting, Phases, taking, all_requests, all_changes, settled, tree_phase, asking, result, all_fit, all_may_act, joint_at, begin_all, is_possible}

module _ {W : Type 0} (next : W → Option (Step W)) (setting : Setting) where
  -- each processor has a count, which is 0
  abbrev pub AreIdle : Round → List (Runner W) → Type 0
  AreIdle [] [] = Unit {0}
  AreIdle (c ∷ round) (r ∷ rs) = (c ≡ 0) × AreIdle round rs
  AreIdle [] (r ∷ rs) = ⊥
  AreIdle (c ∷ round) [] = ⊥

  abbrev idle : Runner W → Acting W
  idle r = taking r None

  abbrev all_idle : List (Runner W) → List (Acting W)
  all_idle rs = map idle rs

  asks_nothing : (round : Round) (rs : List (Runner W)) → AreIdle round rs → asking next setting round rs ≡ all_idle rs
  asks_nothing [] [] x = refl
  asks_nothing (zero ∷ round) (r ∷ rs) x = ap (λ (others : List (Acting W)). idle r ∷ others) (asks_nothing round rs x.1)
  asks_nothing (suc c ∷ round) (r ∷ rs) x = let e = x.0 in absurd (omega (arith, e))
  asks_nothing [] (r ∷ rs) x = absurd x
  asks_nothing (c ∷ round) [] x = absurd x

  abbrev passes : Store → List (Runner W) → Phases W
  passes store rs = record { store = store; acting = all_idle rs; fault = None }

  no_requests : (number : ℕ) (rs : List (Runner W)) (store : Store) → all_requests number (all_idle rs) store ≡ passes store rs
  no_requests number [] store = refl
  no_requests number (r ∷ rs) store = ap (λ (p : Phases W). record p { acting = idle r ∷ p.acting }) (no_requests (suc number) rs store)

  no_changes : (actings : List (Acting W)) (old : t.Tree) (rs : List (Runner W)) (tree : t.Tree) → all_changes actings old (all_idle rs) tree ≡ tree
  no_changes actings old [] tree = refl
  no_changes actings old (r ∷ rs) tree = no_changes actings old rs tree

  settled_idle : (actings : List (Acting W)) (old new : t.Tree) (rs : List (Runner W)) → settled actings old new (all_idle rs) ≡ rs
  settled_idle actings old new [] = refl
  settled_idle actings old new (r ∷ rs) = ap (λ (rest : List (Runner W)). r ∷ rest) (settled_idle actings old new rs)

  no_steps : (tree : t.Tree) (store : Store) (rs : List (Runner W))
      → tree_phase tree store (all_idle rs) None ≡ record { store = store; tree = tree; runners = rs; fault = None }
  no_steps tree store rs =
      let actings = all_idle rs in
      let new = all_changes actings tree actings tree in
      ap₂ (λ (u : t.Tree) (runners : List (Runner W)). record { store = store; tree = u; runners = runners; fault = None })
      (no_changes actings tree rs tree) (settled_idle actings tree new rs)

  running : (s : State W) → s.fault ≡ None → (record { store = s.store; tree = s.tree; runners = s.runners; fault = None }) ≡ s
  running s e = ap (λ (f : Option Fault). record { store = s.store; tree = s.tree; runners = s.runners; fault = f }) (sym e)

  -- it leaves the state as it is
  pub idle_result : (round : Round) (s : State W) → AreIdle round s.runners → s.fault ≡ None → result next setting round s ≡ s
  idle_result round s x e =
      ap (λ (actings : List (Acting W)). let p = all_requests 0 actings s.store in tree_phase s.tree p.store p.acting p.fault) (asks_nothing round s.runners x)
      ∙ ap (λ (p : Phases W). tree_phase s.tree p.store p.acting p.fault) (no_requests 0 s.runners s.store)
      ∙ no_steps s.tree s.store s.runners ∙ running s e

  may_idle : (round : Round) (rs : List (Runner W)) → AreIdle round rs → all_may_act next setting round rs ≡ true
  may_idle [] [] x = refl
  may_idle (zero ∷ round) (r ∷ rs) x = may_idle round rs x.1
  may_idle (suc c ∷ round) (r ∷ rs) x = let e = x.0 in absurd (omega (arith, e))
  may_idle [] (r ∷ rs) x = absurd x
  may_idle (c ∷ round) [] x = absurd x

  fit_idle : (whole : Round) (does : ℕ → Joint) (tree : t.Tree) (h : ℕ) (round : Round) (rs : List (Runner W)) → AreIdle round rs → all_fit whole does tree h round ≡ true
  fit_idle whole does tree h [] [] x = refl
  fit_idle whole does tree h (zero ∷ round) (r ∷ rs) x = fit_idle whole does tree (suc h) round rs x.1
  fit_idle whole does tree h (suc c ∷ round) (r ∷ rs) x = let e = x.0 in absurd (omega (arith, e))
  fit_idle whole does tree h [] (r ∷ rs) x = absurd x
  fit_idle whole does tree h (c ∷ round) [] x = absurd x

  -- and it is possible
  pub idle_possible : (round : Round) (s : State W) → AreIdle round s.runners → s.fault ≡ None → is_possible next setting round s ≡ true
  idle_possible round s x e =
      ap₂ (λ (a b : Bool). a && b)
      (ap₂ (λ (a b : Bool). a && b) (ap (λ (f : Option Fault). is_none f) e)
      (ap₂ (λ (a b : Bool). a && b) (may_idle round s.runners x) (fit_idle round (joint_at (begin_all next setting round s.runners)) s.tree 0 round s.runners x)))
      (ap (λ (f : Option Fault). is_none f) (ap (λ (u : State W). u.fault) (idle_result round s x e) ∙ e))

  nobody : (round : Round) (rs : List (Runner W)) → AreIdle round rs → (h : ℕ) → slice_index round h ≡ 0
  nobody [] [] x h = refl
  nobody (c ∷ round) (r ∷ rs) x zero = x.0
  nobody (c ∷ round) (r ∷ rs) x (suc h) = nobody round rs x.1 h
  nobody [] (r ∷ rs) x h = absurd x
  nobody (c ∷ round) [] x h = absurd x

  pub nobody_in : (round : Round) (rs : List (Runner W)) → AreIdle round rs → (h : ℕ) → 0 < slice_index round h → ⊥
  nobody_in round rs x h within = let none = nobody round rs x h in omega (arith, none, within)

  pub are_idle : (round : Round) (rs : List (Runner W)) → length round ≡ length rs → ((h : ℕ) → slice_index round h ≡ 0) → AreIdle round rs
  are_idle [] [] many none = tt
  are_idle (c ∷ round) (r ∷ rs) many none = (none 0, are_idle round rs (omega (arith, many)) (λ h. none (suc h)))
  are_idle [] (r ∷ rs) many none = absurd (omega (arith, many))
  are_idle (c ∷ round) [] many none = absurd (omega (arith, many))
