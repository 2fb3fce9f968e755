-- What each operation keeps of its processor is so of all processors in every run.
use Rattle.std.proofs.Common.{◌≡◌, ℕ, zero, suc, List, [], ◌∷◌, Option, Some, None, Bool, true, false, sym, ap, subst, refl}
use Rattle.std.specs.Prelude.{map, length, if◌then◌else◌, slice_get}
use Rattle.fk_tree.specs.Tree as t
use Rattle.fk_meaning_operation.specs.Kinds.{class_of}
use Rattle.fk_meaning_operation.specs.declared.kinds.Class.{Class}
use Rattle.fk_meaning_operation.specs.declared.kinds.Class.TheVariants.{Local, Request, Tree}
use Rattle.fk_meaning_store.specs.Store.{Store}
use Rattle.fk_meaning_store.specs.Serve as store
use Rattle.fk_meaning.specs.Processor.{Processor, Setting}
use Rattle.fk_meaning.specs.Local.{local, is_onward}
use Rattle.fk_meaning.specs.Request.{request, with_answer}
use Rattle.fk_meaning.specs.Group.{has_room, does, goes_onward}
use Rattle.fk_meaning.specs.Round.{Step, Runner, State, Fault, Round, Acting, taking, runner_of, Phase, Passes, Breaks, Phases, agreed, lowest, do_local, local_phase, after_one, after_locals, begin, asking, do_request, answered, request_phase, after_phase, all_requests, all_changes, settled_by, settled, tree_phase, result}
use Rattle.fk_meaning.specs.Schedule.{Schedule, run}

abbrev pub gone : {W : Type 0} → Step W → Bool → Processor → Runner W
gone step onward p = record { left = step.rest onward; has = p }

-- operations of each class keep it. A request keeps it where it is served
pub record AreKept {W : Type 0} (next : W → Option (Step W)) (set : Setting) (P : Runner W → Type 0) : Type 0 where
  pub locals : (r : Runner W) (step : Step W) → P r → next r.left ≡ Some step → class_of step.operation ≡ Local
      → P (gone step (is_onward step.operation r.has) (local set step.operation r.has))
  pub requests : (r : Runner W) (step : Step W) (s s' : Store) (v : ℕ) → P r → next r.left ≡ Some step → class_of step.operation ≡ Request
      → store.serve (request step.operation r.has) s r.has.number ≡ store.Served s' v → P (gone step true (with_answer step.operation v r.has))
  pub steps : (r : Runner W) (step : Step W) (highest lowest' size : ℕ) → P r → next r.left ≡ Some step → class_of step.operation ≡ Tree
      → P (gone step (goes_onward step.operation highest lowest' r.has) (does step.operation highest size r.has))

module _ {W : Type 0} (next : W → Option (Step W)) (set : Setting) (P : Runner W → Type 0) (kept : AreKept next set P) where
  -- what is due of a processor is its next operation, of one of some classes
  IsDue : (Class → Bool) → Runner W → Option (Step W) → Type 0
  IsDue may r None = Unit {0}
  IsDue may r (Some step) = (next r.left ≡ Some step) × (may (class_of step.operation) ≡ true)

  abbrev any : Class → Bool
  any c = true

  abbrev no_local : Class → Bool
  no_local Local = false
  no_local Request = true
  no_local Tree = true

  abbrev only_tree : Class → Bool
  only_tree Local = false
  only_tree Request = false
  only_tree Tree = true

  record Is (may : Class → Bool) (a : Acting W) : Type 0 where
    keeps : P a.runner
    due : IsDue may a.runner a.due

  abbrev All : (Class → Bool) → List (Acting W) → Type 0
  All may [] = Unit {0}
  All may (a ∷ as') = Is may a × All may as'

  abbrev pub AllKept : List (Runner W) → Type 0
  AllKept [] = Unit {0}
  AllKept (r ∷ rs) = P r × AllKept rs

  taking_is : (r : Runner W) → P r → Is any (taking r (next r.left))
  unfolding IsDue
  taking_is r p = record { keeps = p; due = by (next r.left) refl }
    where
      by : (n : Option (Step W)) → next r.left ≡ n → IsDue any r n
      by None e = tt
      by (Some step) e = (e, refl)

  local_by : (r : Runner W) (step : Step W) (c : Class) → class_of step.operation ≡ c → P r → next r.left ≡ Some step → Is no_local (do_local next set (taking r (Some step)) c step)
  unfolding IsDue
  local_by r step Local e p n = record { keeps = kept.locals r step p n e; due = tt }
  local_by r step Request e p n = record { keeps = p; due = (n, ap no_local e) }
  local_by r step Tree e p n = record { keeps = p; due = (n, ap no_local e) }

  local_is : (a : Acting W) (due : Option (Step W)) → P a.runner → IsDue any a.runner due → a.due ≡ due → Is no_local (local_phase next set a due)
  unfolding IsDue
  local_is a None p d e = record { keeps = p; due = subst (IsDue no_local a.runner) (sym e) tt }
  local_is a (Some step) p d e =
      subst (λ x. Is no_local (do_local next set (record { due = x; runner = a.runner }) (class_of step.operation) step)) (sym e)
      (local_by a.runner step (class_of step.operation) refl p d.0)

  after_kept : (c : ℕ) (r : Runner W) → P r → P (after_locals next set c r)
  after_kept zero r p = p
  after_kept (suc c) r p =
      let a = taking_is r p in after_kept c (after_one next set r) (local_is (taking r (next r.left)) (next r.left) p a.due refl).keeps

  begin_is : (c : ℕ) (r : Runner W) → P r → Is any (begin next set c r)
  unfolding IsDue
  begin_is zero r p = record { keeps = p; due = tt }
  begin_is (suc c) r p = taking_is (after_locals next set c r) (after_kept c r p)

  asking_are : (round : Round) (rs : List (Runner W)) → AllKept rs → All no_local (asking next set round rs)
  asking_are [] [] all = tt
  asking_are [] (r ∷ rs) all = tt
  asking_are (c ∷ round) [] all = tt
  asking_are (c ∷ round) (r ∷ rs) all =
      let a = begin next set c r in
      let is = begin_is c r all.0 in
      (local_is a a.due is.keeps is.due refl, asking_are round rs all.1)

  abbrev IsPhase : Phase W → Type 0
  IsPhase (Passes s a) = Is only_tree a
  IsPhase (Breaks site) = Unit {0}

  request_is : (s : Store) (a : Acting W) (due : Option (Step W)) → P a.runner → IsDue no_local a.runner due → a.due ≡ due → IsPhase (request_phase s a due)
  unfolding IsDue
  request_is s a None p d e = record { keeps = p; due = subst (IsDue only_tree a.runner) (sym e) tt }
  request_is s a (Some step) p d e = by (class_of step.operation) refl
    where
      served : class_of step.operation ≡ Request → (answer : store.Answer) → store.serve (request step.operation a.runner.has) s a.runner.has.number ≡ answer → IsPhase (answered step a.runner.has answer)
      served c (store.Served s' v) f = record { keeps = kept.requests a.runner step s s' v p d.0 c f; due = tt }
      served c (store.Faults kind) f = tt

      roomy : class_of step.operation ≡ Tree → (room : Bool) → IsPhase (if room then Passes s a else Breaks step.site)
      roomy c true = record { keeps = p; due = subst (IsDue only_tree a.runner) (sym e) (d.0, ap only_tree c) }
      roomy c false = tt

      by : (c : Class) → class_of step.operation ≡ c → IsPhase (do_request s a c step)
      by Local c = absurd (let f = sym (ap no_local c) in let g = d.1 in cc)
      by Request c = served c (store.serve (request step.operation a.runner.has) s a.runner.has.number) refl
      by Tree c = roomy c (has_room step.operation a.runner.has)

  -- those who are served are kept, and so are all where one faults
  Done : Phases W → Type 0
  Done r = AllKept (map runner_of r.acting) × (r.fault ≡ None → All only_tree r.acting)

  runners_kept : (may : Class → Bool) (as' : List (Acting W)) → All may as' → AllKept (map runner_of as')
  runners_kept may [] all = tt
  runners_kept may (a ∷ as') all = (all.0.keeps, runners_kept may as' all.1)

  after_done : (number : ℕ) (s : Store) (a : Acting W) (as' : List (Acting W)) (phase : Phase W) → Is no_local a → All no_local as' → IsPhase phase
      → ((s' : Store) → Done (all_requests (suc number) as' s')) → Done (after_phase number s a as' (all_requests (suc number) as') phase)
  unfolding Done
  after_done number s a as' (Passes s' a') is all phase rest = let r = rest s' in ((phase.keeps, r.0), λ e. (phase, r.1 e))
  after_done number s a as' (Breaks site) is all phase rest = ((is.keeps, runners_kept no_local as' all), λ e. absurd (cc))

  requests_done : (number : ℕ) (as' : List (Acting W)) (s : Store) → All no_local as' → Done (all_requests number as' s)
  unfolding Done
  requests_done number [] s all = (tt, λ e. tt)
  requests_done number (a ∷ as') s all =
      after_done number s a as' (request_phase s a a.due) all.0 all.1 (request_is s a a.due all.0.keeps all.0.due refl) (λ s'. requests_done (suc number) as' s' all.1)

  settled_one : (all : List (Acting W)) (old new : t.Tree) (r : Runner W) (due : Option (Step W)) → P r → IsDue only_tree r due → P (settled_by all old new r due)
  unfolding IsDue
  settled_one all old new r None p d = p
  settled_one all old new r (Some step) p d =
      let members = t.members old (old.places r.has.number) in
      kept.steps r step (agreed all members) (lowest members) (length (t.members new (new.places r.has.number))) p d.0 (tree_class (class_of step.operation) d.1)
    where
      tree_class : (c : Class) → only_tree c ≡ true → c ≡ Tree
      tree_class Local e = absurd (cc)
      tree_class Request e = absurd (cc)
      tree_class Tree e = refl

  settled_kept : (all : List (Acting W)) (old new : t.Tree) (as' : List (Acting W)) → All only_tree as' → AllKept (settled all old new as')
  settled_kept all old new [] is = tt
  settled_kept all old new (a ∷ as') is = (settled_one all old new a.runner a.due is.0.keeps is.0.due, settled_kept all old new as' is.1)

  tree_kept : (tree : t.Tree) (s : Store) (as' : List (Acting W)) (fault : Option Fault) → AllKept (map runner_of as') → (fault ≡ None → All only_tree as') → AllKept (tree_phase tree s as' fault).runners
  tree_kept tree s as' None all is = settled_kept as' tree (all_changes as' tree as' tree) as' (is refl)
  tree_kept tree s as' (Some fault) all is = all

  pub run_kept : (schedule : Schedule) (s : State W) → AllKept s.runners → AllKept (run next set schedule s).runners
  unfolding Done
  run_kept [] s all = all
  run_kept (round ∷ schedule) s all =
      let r = all_requests 0 (asking next set round s.runners) s.store in
      let done = requests_done 0 (asking next set round s.runners) s.store (asking_are round s.runners all) in
      run_kept schedule (result next set round s) (tree_kept s.tree r.store r.acting r.fault done.0 done.1)

  pub kept_at : (rs : List (Runner W)) (h : ℕ) (r : Runner W) → AllKept rs → slice_get rs h ≡ Some r → P r
  kept_at [] h r all e = absurd (cc)
  kept_at (q ∷ rs) zero r all e = let same : q ≡ r = cc in subst P same all.0
  kept_at (q ∷ rs) (suc h) r all e = kept_at rs h r all.1 e
