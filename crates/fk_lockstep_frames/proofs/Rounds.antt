-- Runs keep what each operation keeps, for any form of what is left to do.
use Rattle.std.proofs.Common.{◌≡◌, ℕ, zero, suc, Bool, true, false, if◌then◌else◌, List, [], ◌∷◌, map, slice_get, Option, Some, None, refl, sym, subst}
use Rattle.fk_meaning_operation.specs.declared.kinds.Class.{Class}
use Rattle.fk_meaning_operation.specs.declared.kinds.Class.TheVariants.{Local, Request, Tree}
use Rattle.fk_meaning_operation.specs.Kinds.{class_of}
use Rattle.fk_meaning_store.specs.Store.{Store}
use Rattle.fk_meaning_store.specs.Serve.{Answer, Served, Faults, serve}
use Rattle.fk_tree.specs.Tree as t
use Rattle.fk_meaning.specs.Processor.{Processor, Setting}
use Rattle.fk_meaning.specs.Local.{local, is_onward}
use Rattle.fk_meaning.specs.Request.{request, with_answer}
use Rattle.fk_meaning.specs.Group.{does, goes_onward, has_room}
use Rattle.fk_meaning.specs.Round.{Step, Runner, Fault, State, Round, Acting, Phase, Passes, Breaks, Phases, taking, runner_of, answered, do_request, request_phase, after_phase, all_requests, settled_by, settled, tree_phase, do_local, local_phase, after_one, after_locals, begin, asking, all_changes, result}
use Rattle.fk_meaning.specs.Schedule.{Schedule, run}

abbrev pub AllAre : {X : Type 0} → (X → Type 0) → List X → Type 0
AllAre P [] = Unit {0}
AllAre P (x ∷ xs) = P x × AllAre P xs

pub all_at : {X : Type 0} (P : X → Type 0) (xs : List X) (i : ℕ) (x : X) → AllAre P xs → slice_get xs i ≡ Some x → P x
all_at P [] i x all e = absurd (cc)
all_at P (y ∷ ys) zero x all e = let same : y ≡ x = cc in subst P same all.0
all_at P (y ∷ ys) (suc i) x all e = all_at P ys i x all.1 e

-- what holds of a processor and its work, and is kept by each operation; by a step of the tree where there is room for it
module _ {W : Type 0} (next : W → Option (Step W)) (FitsAt : W → Processor → Type 0)
    (after_local : (set : Setting) (left : W) (p : Processor) (step : Step W) → FitsAt left p → next left ≡ Some step
    → class_of step.operation ≡ Local → FitsAt (step.rest (is_onward step.operation p)) (local set step.operation p))
    (after_request : (s s' : Store) (v : ℕ) (left : W) (p : Processor) (step : Step W) → FitsAt left p → next left ≡ Some step
    → class_of step.operation ≡ Request → serve (request step.operation p) s p.number ≡ Served s' v → FitsAt (step.rest true) (with_answer step.operation v p))
    (after_tree : (highest lowest size : ℕ) (left : W) (p : Processor) (step : Step W) → FitsAt left p → next left ≡ Some step
    → class_of step.operation ≡ Tree → has_room step.operation p ≡ true → FitsAt (step.rest (goes_onward step.operation highest lowest p)) (does step.operation highest size p)) where
  abbrev pub RunnerFits : Runner W → Type 0
  RunnerFits r = FitsAt r.left r.has

  -- what a processor has taken is its next operation
  abbrev IsDue : (Step W → Type 0) → W → Option (Step W) → Type 0
  IsDue P left None = Unit {0}
  IsDue P left (Some step) = (next left ≡ Some step) × P step

  abbrev Later : Class → Type 0
  Later Local = ⊥
  Later c = Unit {0}

  abbrev IsAny : Step W → Type 0
  IsAny step = Unit {0}

  abbrev IsLater : Step W → Type 0
  IsLater step = Later (class_of step.operation)

  -- a step of the tree that has room
  abbrev HasRoom : Processor → Step W → Type 0
  HasRoom p step = (class_of step.operation ≡ Tree) × (has_room step.operation p ≡ true)

  record ActingFits (P : Processor → Step W → Type 0) (a : Acting W) : Type 0 where
    fits : RunnerFits a.runner
    due : IsDue (P a.runner.has) a.runner.left a.due

  abbrev Begun : Acting W → Type 0
  Begun a = ActingFits (λ p. IsAny) a

  abbrev Asks : Acting W → Type 0
  Asks a = ActingFits (λ p. IsLater) a

  abbrev Steps : Acting W → Type 0
  Steps a = ActingFits HasRoom a

  taken : (r : Runner W) (step : Option (Step W)) → next r.left ≡ step → RunnerFits r → Begun (taking r step)
  taken r None e fits = record { fits = fits; due = tt }
  taken r (Some step) e fits = record { fits = fits; due = (e, tt) }

  module _ (set : Setting) where
    locally : (r : Runner W) (step : Step W) (c : Class) → class_of step.operation ≡ c → RunnerFits r → next r.left ≡ Some step
        → Asks (do_local next set (taking r (Some step)) c step)
    locally r step Local e fits due = record { fits = after_local set r.left r.has step fits due e; due = tt }
    locally r step Request e fits due = record { fits = fits; due = (due, subst Later (sym e) tt) }
    locally r step Tree e fits due = record { fits = fits; due = (due, subst Later (sym e) tt) }

    in_locals : (r : Runner W) (step : Option (Step W)) → Begun (taking r step) → Asks (local_phase next set (taking r step) step)
    in_locals r None x = record { fits = x.fits; due = tt }
    in_locals r (Some step) x = locally r step (class_of step.operation) refl x.fits x.due.0

    one_more : (r : Runner W) → RunnerFits r → RunnerFits (after_one next set r)
    one_more r fits = let x = in_locals r (next r.left) (taken r (next r.left) refl fits) in x.fits

    some_more : (count : ℕ) (r : Runner W) → RunnerFits r → RunnerFits (after_locals next set count r)
    some_more zero r fits = fits
    some_more (suc c) r fits = some_more c (after_one next set r) (one_more r fits)

    begins : (count : ℕ) (r : Runner W) → RunnerFits r → Asks (let a = begin next set count r in local_phase next set a a.due)
    begins zero r fits = in_locals r None (record { fits = fits; due = tt })
    begins (suc c) r fits =
        let q = after_locals next set c r in
        in_locals q (next q.left) (taken q (next q.left) refl (some_more c r fits))

    all_begin : (round : Round) (rs : List (Runner W)) → AllAre RunnerFits rs → AllAre Asks (asking next set round rs)
    all_begin [] rs fits = tt
    all_begin (c ∷ round) [] fits = tt
    all_begin (c ∷ round) (r ∷ rs) fits = (begins c r fits.0, all_begin round rs fits.1)

  -- who passes the phase of requests
  PassesFit : Phase W → Type 0
  PassesFit (Passes s a) = Steps a
  PassesFit (Breaks site) = Unit {0}

  answers : (r : Runner W) (step : Step W) → RunnerFits r → next r.left ≡ Some step → class_of step.operation ≡ Request → (s : Store) (answer : Answer) → serve (request step.operation r.has) s r.has.number ≡ answer → PassesFit (answered step r.has answer)
  unfolding PassesFit
  answers r step fits due e s (Served s' v) served = record { fits = after_request s s' v r.left r.has step fits due e served; due = tt }
  answers r step fits due e s (Faults kind) served = tt

  rooms : (s : Store) (r : Runner W) (step : Step W) → RunnerFits r → next r.left ≡ Some step → class_of step.operation ≡ Tree → (room : Bool) → has_room step.operation r.has ≡ room
      → PassesFit (if room then Passes s (taking r (Some step)) else Breaks step.site)
  unfolding PassesFit
  rooms s r step fits due e true room = record { fits = fits; due = (due, (e, room)) }
  rooms s r step fits due e false room = tt

  asks : (s : Store) (r : Runner W) (step : Step W) (c : Class) → class_of step.operation ≡ c → Later c → RunnerFits r → next r.left ≡ Some step
      → PassesFit (do_request s (taking r (Some step)) c step)
  unfolding PassesFit
  asks s r step Local e later fits due = absurd later
  asks s r step Request e later fits due = answers r step fits due e s (serve (request step.operation r.has) s r.has.number) refl
  asks s r step Tree e later fits due = rooms s r step fits due e (has_room step.operation r.has) refl

  requests : (s : Store) (r : Runner W) (due : Option (Step W)) → RunnerFits r → IsDue IsLater r.left due → PassesFit (request_phase s (taking r due) due)
  unfolding PassesFit
  requests s r None fits due = record { fits = fits; due = tt }
  requests s r (Some step) fits due = asks s r step (class_of step.operation) refl due.1 fits due.0

  -- all of them, up to the first fault
  abbrev HasRunner : Acting W → Type 0
  HasRunner a = RunnerFits a.runner

  record PhasesFit (phases : Phases W) : Type 0 where
    runners : AllAre HasRunner phases.acting
    whole : phases.fault ≡ None → AllAre Steps phases.acting

  runners_of : (actings : List (Acting W)) → AllAre Asks actings → AllAre HasRunner actings
  runners_of [] fits = tt
  runners_of (a ∷ actings) fits = (fits.0.fits, runners_of actings fits.1)

  after : (number : ℕ) (s : Store) (a : Acting W) (actings : List (Acting W)) (others : Store → Phases W) (phase : Phase W)
      → AllAre Asks (a ∷ actings) → ((s' : Store) → PhasesFit (others s')) → PassesFit phase → PhasesFit (after_phase number s a actings others phase)
  unfolding PassesFit
  after number s a actings others (Passes s' b) fits more x =
      let rest = more s' in record { runners = (x.fits, rest.runners); whole = λ e. (x, rest.whole e) }
  after number s a actings others (Breaks site) fits more x = record { runners = runners_of (a ∷ actings) fits; whole = λ e. absurd (cc) }

  all_ask : (number : ℕ) (actings : List (Acting W)) (s : Store) → AllAre Asks actings → PhasesFit (all_requests number actings s)
  all_ask number [] s fits = record { runners = tt; whole = λ e. tt }
  all_ask number (a ∷ actings) s fits =
      after number s a actings (all_requests (suc number) actings) (request_phase s a a.due) fits (λ s'. all_ask (suc number) actings s' fits.1)
      (requests s a.runner a.due fits.0.fits fits.0.due)

  -- the steps of the tree
  settles : (actings : List (Acting W)) (old new : t.Tree) (r : Runner W) (due : Option (Step W)) → RunnerFits r → IsDue (HasRoom r.has) r.left due
      → RunnerFits (settled_by actings old new r due)
  settles actings old new r None fits due = fits
  settles actings old new r (Some step) fits due = after_tree _ _ _ r.left r.has step fits due.0 due.1.0 due.1.1

  all_settle : (actings : List (Acting W)) (old new : t.Tree) (others : List (Acting W)) → AllAre Steps others
      → AllAre RunnerFits (settled actings old new others)
  all_settle actings old new [] fits = tt
  all_settle actings old new (a ∷ others) fits = (settles actings old new a.runner a.due fits.0.fits fits.0.due, all_settle actings old new others fits.1)

  only_runners : (actings : List (Acting W)) → AllAre HasRunner actings → AllAre RunnerFits (map runner_of actings)
  only_runners [] fits = tt
  only_runners (a ∷ actings) fits = (fits.0, only_runners actings fits.1)

  in_tree : (tree : t.Tree) (s : Store) (actings : List (Acting W)) (fault : Option Fault) → AllAre HasRunner actings
      → (fault ≡ None → AllAre Steps actings) → AllAre RunnerFits (tree_phase tree s actings fault).runners
  in_tree tree s actings None runners whole = all_settle actings tree (all_changes actings tree actings tree) actings (whole refl)
  in_tree tree s actings (Some fault) runners whole = only_runners actings runners

  abbrev pub StateFits : State W → Type 0
  StateFits s = AllAre RunnerFits s.runners

  module _ (set : Setting) where
    one_round : (round : Round) (s : State W) → StateFits s → StateFits (result next set round s)
    one_round round s fits =
        let asked = asking next set round s.runners in
        let r = all_requests 0 asked s.store in
        let x = all_ask 0 asked s.store (all_begin set round s.runners fits) in
        in_tree s.tree r.store r.acting r.fault x.runners x.whole

    pub runs : (schedule : Schedule) (s : State W) → StateFits s → StateFits (run next set schedule s)
    runs [] s fits = fits
    runs (round ∷ schedule) s fits = runs schedule (result next set round s) (one_round round s fits)
