-- The requests of a round go in turn.
use Rattle.std.proofs.Common.{◌≡◌, ℕ, zero, suc, Bool, true, false, true≢false, List, [], ◌∷◌, take, Option, Some, None, ap, ◌∙◌, sym, refl}
use Rattle.std.specs.Prelude.{slice_get, if◌then◌else◌}
use Rattle.fk_meaning_operation.specs.Kinds.{class_of}
use Rattle.fk_meaning_operation.specs.declared.operation.Operation.{Operation}
use Rattle.fk_meaning_operation.specs.declared.operation.Operation.TheVariants as o
use Rattle.fk_meaning_operation.specs.declared.kinds.Class.{Class}
use Rattle.fk_meaning_operation.specs.declared.kinds.Class.TheVariants.{Local, Request, Tree}
use Rattle.fk_meaning_store.specs.declared.request.Request as request
use Rattle.fk_meaning_store.specs.Store.{Store}
use Rattle.fk_meaning_store.specs.Serve.{Answer, Served, Faults, serve}
use Rattle.fk_tree.specs.Tree as t
use Rattle.fk_meaning.specs.Processor.{Processor, Setting, values, last}
use Rattle.fk_meaning.specs.Request.{request as request_of, with_answer}
use Rattle.fk_meaning.specs.Group.{has_room}
use Rattle.fk_meaning.specs.Round.{Step, Runner, Fault, State, Round, Acting, Phase, Passes, Breaks, Phases, done, answered, do_request, request_phase, after_phase, all_requests, all_changes, settled_by, settled, tree_phase, asking, result}
use Rattle.fk_meaning.specs.Touch.{touches, touch_by, touch_of, operation_due, touch, after, answer, after_touch, word_after, last_of, GoesInTurn, RequestsGoInTurn}
use Rattle.fk_meaning.proofs.Served.{GoodBy, good}
use Rattle.fk_meaning.proofs.Stopped.{phase_fault}

-- the word after one processor's phase, and its answer as its last value
abbrev FineAs : {W : Type 0} → (word : ℕ) → Option request.Request → Store → (x : ℕ) → Acting W → Type 0
FineAs word touched s' x b =
    (s'.words x ≡ after_touch touched word) × ((q : request.Request) → touched ≡ Some q → (b.due ≡ None) × (last (values b.runner.has) ≡ answer q word))

abbrev Fine : {W : Type 0} → (x : ℕ) → Store → Option request.Request → Phase W → Type 0
Fine x s touched (Passes s' b) = FineAs (s.words x) touched s' x b
Fine x s touched (Breaks site) = Unit {0}

nothing : {A : Type 0} (q : request.Request) → None ≡ Some q → A
nothing q e = absurd (cc)

last_is : (x v : ℕ) (operation : Operation) (p : Processor) → touches x (request_of operation p) ≡ true → last (values (with_answer operation v p)) ≡ v
last_is x v o.Read p e = refl
last_is x v o.Write p e = refl
last_is x v (o.Combine by) p e = refl
last_is x v operation p e = absurd (true≢false (sym e))

fine_answer : {W : Type 0} (x : ℕ) (s : Store) (step : Step W) (p : Processor) (given : Answer) (b : Bool) → touches x (request_of step.operation p) ≡ b
    → GoodBy x b (after (request_of step.operation p)) (answer (request_of step.operation p)) s given
    → Fine x s (if b then Some (request_of step.operation p) else None) (answered step p given)
fine_answer x s step p (Served s' v) true e h =
    let q = request_of step.operation p in
    let same : last (values (with_answer step.operation v p)) ≡ answer q (s.words x) = last_is x v step.operation p e ∙ h.1 refl in
    (h.0, λ q' is. (refl, same ∙ (let asked : q ≡ q' = cc in ap (λ r. answer r (s.words x)) asked)))
fine_answer x s step p (Served s' v) false e h = (h.0, λ q e'. nothing q e')
fine_answer x s step p (Faults kind) b e h = tt

fine_room : {W : Type 0} (x site : ℕ) (s : Store) (a : Acting W) (room : Bool) → Fine x s None (if room then Passes s a else Breaks site)
fine_room x site s a true = (refl, λ q e'. nothing q e')
fine_room x site s a false = tt

fine_class : {W : Type 0} (x : ℕ) (s : Store) (a : Acting W) (c : Class) (step : Step W) → Fine x s (touch_by x a.runner.has c step.operation) (do_request s a c step)
fine_class x s a Local step = (refl, λ q e'. nothing q e')
fine_class x s a Request step =
    let p = a.runner.has in
    let q = request_of step.operation p in
    fine_answer x s step p (serve q s p.number) (touches x q) refl (good x q s p.number)
fine_class x s a Tree step = fine_room x step.site s a (has_room step.operation a.runner.has)

fine : {W : Type 0} (x : ℕ) (s : Store) (a : Acting W) (due : Option (Step W)) → Fine x s (touch_of x a.runner.has (operation_due due)) (request_phase s a due)
fine x s a None = (refl, λ q e'. nothing q e')
fine x s a (Some step) = fine_class x s a (class_of step.operation) step

-- all of them
word_turns : {W : Type 0} (x number : ℕ) (actings : List (Acting W)) (s : Store) → (all_requests number actings s).fault ≡ None
    → (all_requests number actings s).store.words x ≡ word_after x actings (s.words x)
word_turns x number [] s e = refl
word_turns {W = W} x number (a ∷ actings) s e = by (λ s' e'. word_turns x (suc number) actings s' e') (request_phase s a a.due) (fine x s a a.due) e
  where
    by : ((s' : Store) → (all_requests (suc number) actings s').fault ≡ None → (all_requests (suc number) actings s').store.words x ≡ word_after x actings (s'.words x))
        → (phase : Phase W) → Fine x s (touch x a) phase → (after_phase number s a actings (all_requests (suc number) actings) phase).fault ≡ None
        → (after_phase number s a actings (all_requests (suc number) actings) phase).store.words x ≡ word_after x (a ∷ actings) (s.words x)
    by turns (Passes s' b) f e' = turns s' e' ∙ ap (word_after x actings) f.0
    by turns (Breaks site) f e' = absurd (cc)

-- who touches it has done so, with its answer
record Answered {W : Type 0} (actings : List (Acting W)) (h word : ℕ) : Type 0 where
  acting : Acting W
  at : slice_get actings h ≡ Some acting
  done : acting.due ≡ None
  value : last (values acting.runner.has) ≡ word

answers_at : {W : Type 0} (x number : ℕ) (actings : List (Acting W)) (s : Store) (h : ℕ) (a : Acting W) (q : request.Request)
    → (all_requests number actings s).fault ≡ None → slice_get actings h ≡ Some a → touch x a ≡ Some q
    → Answered (all_requests number actings s).acting h (answer q (word_after x (take h actings) (s.words x)))
answers_at x number [] s h a q e at touched = absurd (cc)
answers_at {W = W} x number (a' ∷ actings) s zero a q e at touched = by (request_phase s a' a'.due) (fine x s a' a'.due) e
  where
    same : a' ≡ a
    same = cc

    by : (phase : Phase W) → Fine x s (touch x a') phase → (after_phase number s a' actings (all_requests (suc number) actings) phase).fault ≡ None
        → Answered (after_phase number s a' actings (all_requests (suc number) actings) phase).acting 0 (answer q (s.words x))
    by (Passes s' b) f e' =
        let g = f.1 q (ap (touch x) same ∙ touched) in
        record { acting = b; at = refl; done = g.0; value = g.1 }
    by (Breaks site) f e' = absurd (cc)
answers_at {W = W} x number (a' ∷ actings) s (suc h) a q e at touched = by (λ s' e'. answers_at x (suc number) actings s' h a q e' at touched) (request_phase s a' a'.due) (fine x s a' a'.due) e
  where
    by : ((s' : Store) → (all_requests (suc number) actings s').fault ≡ None
        → Answered (all_requests (suc number) actings s').acting h (answer q (word_after x (take h actings) (s'.words x))))
        → (phase : Phase W) → Fine x s (touch x a') phase → (after_phase number s a' actings (all_requests (suc number) actings) phase).fault ≡ None
        → Answered (after_phase number s a' actings (all_requests (suc number) actings) phase).acting (suc h) (answer q (word_after x (take h actings) (after_touch (touch x a') (s.words x))))
    by turns (Passes s' b) f e' =
        let r = turns s' e' in
        record {
          acting = r.acting;
          at = r.at;
          done = r.done;
          value = r.value ∙ ap (λ w. answer q (word_after x (take h actings) w)) f.0;
        }
    by turns (Breaks site) f e' = absurd (cc)

-- who is done keeps its values in the phase of the tree
kept : {W : Type 0} (actings : List (Acting W)) (old new : t.Tree) (others : List (Acting W)) (h : ℕ) (b : Acting W)
    → slice_get others h ≡ Some b → b.due ≡ None → last_of (settled actings old new others) h ≡ Some (last (values b.runner.has))
kept actings old new [] h b at done = absurd (cc)
kept actings old new (c ∷ others) zero b at done =
    let same : c ≡ b = cc in
    let settles : settled_by actings old new c.runner c.due ≡ c.runner
    = ap (settled_by actings old new c.runner) (ap (λ (a : Acting _). a.due) same ∙ done) in
    ap (λ (r : Runner _). Some (last (values r.has))) settles ∙ ap (λ (a : Acting _). Some (last (values a.runner.has))) same
kept actings old new (c ∷ others) (suc h) b at done = kept actings old new others h b at done

phase_is : {W : Type 0} (tree : t.Tree) (s : Store) (actings : List (Acting W)) (fault : Option Fault) → (tree_phase tree s actings fault).fault ≡ None
    → fault ≡ None
phase_is tree s actings fault e = sym (phase_fault tree s actings fault) ∙ e

module _ {W : Type 0} (next : W → Option (Step W)) (set : Setting) where
  abbrev phases : Round → State W → Phases W
  phases round s = all_requests 0 (asking next set round s.runners) s.store

  abbrev after_tree : Round → State W → Option Fault → State W
  after_tree round s fault = tree_phase s.tree (phases round s).store (phases round s).acting fault

  pub in_turn : (round : Round) (s : State W) (x : ℕ) → (result next set round s).fault ≡ None → GoesInTurn next set round s x
  in_turn round s x e =
      let asks = asking next set round s.runners in
      let r = phases round s in
      let none : r.fault ≡ None = phase_is s.tree r.store r.acting r.fault e in
      let is : result next set round s ≡ after_tree round s None = ap (after_tree round s) none in
      record {
        answers = λ h q touched.
            let g = answers_at x 0 asks s.store h touched.0 q none touched.1 touched.2 in
            ap (λ (u : State W). last_of u.runners h) is
            ∙ kept r.acting s.tree (all_changes r.acting s.tree r.acting s.tree) r.acting h g.acting g.at g.done
            ∙ ap (λ v. Some v) g.value;
        word = ap (λ (u : State W). u.store.words x) is ∙ word_turns x 0 asks s.store none;
      }

pub requests_go_in_turn : (W : Type 0) → RequestsGoInTurn W
requests_go_in_turn W next set round s x e = in_turn next set round s x e
