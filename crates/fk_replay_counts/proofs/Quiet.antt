-- Rounds of local operations alone.
use Rattle.std.proofs.Common.{◌≡◌, ℕ, zero, suc, true, true≢false, List, [], ◌∷◌, map, Option, Some, None, refl, sym, ap, ap₂, ◌∙◌}
use Rattle.std.proofs.lemmas.Bool.{and_parts}
use Rattle.fk_meaning_operation.specs.Kinds.{class_of}
use Rattle.fk_meaning_operation.specs.declared.kinds.Class.{Class}
use Rattle.fk_meaning_operation.specs.declared.kinds.Class.TheVariants.{Local, Request, Tree}
use Rattle.fk_meaning_store.specs.Store.{Store}
use Rattle.fk_tree.specs.Tree as t
use Rattle.fk_meaning.specs.Processor.{Setting}
use Rattle.fk_meaning.specs.Round.{Step, Runner, State, Round, Acting, Phases, taking, all_requests, all_changes, settled, tree_phase, is_local, do_local, local_phase, after_one, after_locals, begin, asking, result, is_local_next, are_local}

module _ {W : Type 0} (next : W → Option (Step W)) (set : Setting) where
  -- each processor has a count, and that many local operations are next
  abbrev pub AreQuiet : Round → List (Runner W) → Type 0
  AreQuiet [] [] = Unit {0}
  AreQuiet (c ∷ round) (r ∷ rs) = (are_local next set c r ≡ true) × AreQuiet round rs
  AreQuiet [] (r ∷ rs) = ⊥
  AreQuiet (c ∷ round) [] = ⊥

  abbrev pub advanced : Round → List (Runner W) → List (Runner W)
  advanced [] rs = []
  advanced (c ∷ round) [] = []
  advanced (c ∷ round) (r ∷ rs) = after_locals next set c r ∷ advanced round rs

  abbrev idle : Runner W → Acting W
  idle r = taking r None

  abbrev all_idle : List (Runner W) → List (Acting W)
  all_idle rs = map idle rs

  last_is_local : (c : ℕ) (r : Runner W) → are_local next set (suc c) r ≡ true → is_local_next next set (next (after_locals next set c r).left) ≡ true
  last_is_local zero r e = (and_parts (is_local_next next set (next r.left)) true e).0
  last_is_local (suc c) r e = last_is_local c (after_one next set r) (and_parts (is_local_next next set (next r.left)) (are_local next set (suc c) (after_one next set r)) e).1

  pub last_one : (c : ℕ) (r : Runner W) → after_locals next set (suc c) r ≡ after_one next set (after_locals next set c r)
  last_one zero r = refl
  last_one (suc c) r = last_one c (after_one next set r)

  does_it : (q : Runner W) (step : Step W) (class : Class) → is_local class ≡ true
      → do_local next set (taking q (Some step)) class step ≡ idle (do_local next set (taking q (Some step)) class step).runner
  does_it q step Local e = refl
  does_it q step Request e = absurd (true≢false (sym e))
  does_it q step Tree e = absurd (true≢false (sym e))

  done_is_idle : (q : Runner W) (due : Option (Step W)) → is_local_next next set due ≡ true
      → local_phase next set (taking q due) due ≡ idle (local_phase next set (taking q due) due).runner
  done_is_idle q None e = absurd (true≢false (sym e))
  done_is_idle q (Some step) e = does_it q step (class_of step.operation) e

  pub asks_nothing : (c : ℕ) (r : Runner W) → are_local next set c r ≡ true
      → (let a = begin next set c r in local_phase next set a a.due) ≡ idle (after_locals next set c r)
  asks_nothing zero r e = refl
  asks_nothing (suc c) r e =
      let q = after_locals next set c r in
      done_is_idle q (next q.left) (last_is_local c r e) ∙ ap idle (sym (last_one c r))

  nothing_asked : (round : Round) (rs : List (Runner W)) → AreQuiet round rs → asking next set round rs ≡ all_idle (advanced round rs)
  nothing_asked [] [] quiet = refl
  nothing_asked (c ∷ round) (r ∷ rs) quiet = ap₂ (λ (a : Acting W) (rest : List (Acting W)). a ∷ rest) (asks_nothing c r quiet.0) (nothing_asked round rs quiet.1)
  nothing_asked [] (r ∷ rs) quiet = absurd quiet
  nothing_asked (c ∷ round) [] quiet = absurd quiet

  abbrev passed : Store → List (Runner W) → Phases W
  passed store rs = record { store = store; acting = all_idle rs; fault = None }

  no_requests : (number : ℕ) (rs : List (Runner W)) (store : Store) → all_requests number (all_idle rs) store ≡ passed store rs
  no_requests number [] store = refl
  no_requests number (r ∷ rs) store = ap (λ (p : Phases W). record p { acting = idle r ∷ p.acting }) (no_requests (suc number) rs store)

  no_changes : (actings : List (Acting W)) (old : t.Tree) (rs : List (Runner W)) (tree : t.Tree) → all_changes actings old (all_idle rs) tree ≡ tree
  no_changes actings old [] tree = refl
  no_changes actings old (r ∷ rs) tree = no_changes actings old rs tree

  settled_idle : (actings : List (Acting W)) (old new : t.Tree) (rs : List (Runner W)) → settled actings old new (all_idle rs) ≡ rs
  settled_idle actings old new [] = refl
  settled_idle actings old new (r ∷ rs) = ap (λ (rest : List (Runner W)). r ∷ rest) (settled_idle actings old new rs)

  abbrev pub gone_on : Round → State W → State W
  gone_on round s = record { store = s.store; tree = s.tree; runners = advanced round s.runners; fault = None }

  no_steps : (tree : t.Tree) (store : Store) (rs : List (Runner W))
      → tree_phase tree store (all_idle rs) None ≡ record { store = store; tree = tree; runners = rs; fault = None }
  no_steps tree store rs =
      let actings = all_idle rs in
      let new = all_changes actings tree actings tree in
      ap₂ (λ (u : t.Tree) (runners : List (Runner W)). record { store = store; tree = u; runners = runners; fault = None })
      (no_changes actings tree rs tree) (settled_idle actings tree new rs)

  -- such a round lets each processor go on, and nothing else
  pub quiet_result : (round : Round) (s : State W) → AreQuiet round s.runners → result next set round s ≡ gone_on round s
  quiet_result round s quiet =
      let rs = advanced round s.runners in
      ap (λ (actings : List (Acting W)). let p = all_requests 0 actings s.store in tree_phase s.tree p.store p.acting p.fault) (nothing_asked round s.runners quiet)
      ∙ ap (λ (p : Phases W). tree_phase s.tree p.store p.acting p.fault) (no_requests 0 rs s.store)
      ∙ no_steps s.tree s.store rs
