-- The phase of requests, of which only those who have taken an operation have a part.
use Rattle.std.proofs.Common.{◌≡◌, ℕ, zero, suc, ◌+◌, ◌<◌, ◌≤◌, Bool, true, ◌⊎◌, inl, inr, List, [], ◌∷◌, length, get_or, set, drop, map, Option, Some, None, ap, refl, sym, ◌∙◌, subst, arith}
use Rattle.std.specs.Prelude.{slice_index, slice_get, option_map, if◌then◌else◌}
use Rattle.std.proofs.lemmas.List.{length-map, length-reverse, length-set}
use Rattle.std.proofs.lemmas.Option.{slice_get-map}
use Rattle.fk_meaning_operation.specs.Kinds.{class_of}
use Rattle.fk_meaning_operation.specs.declared.kinds.Class.{Class}
use Rattle.fk_meaning_operation.specs.declared.kinds.Class.TheVariants.{Tree}
use Rattle.fk_meaning_store.specs.Store.{Store}
use Rattle.fk_meaning_state.specs.View.{processor_of, call_of}
use Rattle.fk_meaning.specs.Group.{has_room}
use Rattle.fk_meaning.specs.Round as rounds
use Rattle.fk_meaning.specs.Round.{Round, Step, Phase, Passes, Breaks, Phases, all_requests, after_phase, before_others, do_request, request_phase}
use Rattle.fk_core.specs.declared.op.CoreOp.{CoreOp}
use Rattle.fk_core.specs.Next.{Position}
use Rattle.fk_replay_steps.specs.Steps.{step_at, callers_of, runner_of}
use Rattle.fk_replay_rounds.specs.Own.{IsOwn, AreOwn}
use Rattle.fk_replay_phases.specs.Present.{present, numbers_of}
use Rattle.fk_replay_phases.specs.Actors.{acting_of, actings_of, due_of, runners_of, modes_of, AreInRound, CanBeAsked, CanAllBeAsked, IsReady, HasPassed, HasBroken, HasAsked, HaveAsked, fault_of}
use Rattle.fk_replay_phases.specs.declared.acting.Acting.{Acting}
use Rattle.fk_replay_phases.specs.declared.actor.Actor.{Actor}
use Rattle.fk_replay_steps.specs.declared.list.Due.{Due}
use Rattle.fk_replay_phases.specs.declared.phases.Fault as code
use Rattle.fk_replay_phases.proofs.Present.{next_acting, none_acting}
use Rattle.fk_replay_phases.proofs.Sparse.{SoFar, begun, below, more, at_end, get_set, get_set_other}

module _ (core : List CoreOp) where
  tree_passes : (s : Store) (a : rounds.Acting Position) (step : Step Position) (class : Class) → class ≡ Tree → has_room step.operation a.runner.has ≡ true → do_request s a class step ≡ Passes s a
  tree_passes s a step class is room =
      ap (λ (k : Class). do_request s a k step) is ∙ ap (λ (b : Bool). if b then Passes s a else Breaks step.site) room

  -- who is ready passes
  pub passes : (a : Actor) → IsReady core a → (s : Store) → request_phase s (acting_of core a) (due_of core a) ≡ Passes s (acting_of core a)
  passes a ready s = by a.taken refl
    where
      by : (taken : Option Due) → a.taken ≡ taken → request_phase s (acting_of core a) (due_of core a) ≡ Passes s (acting_of core a)
      by None e = ap (λ o. request_phase s (acting_of core a) (option_map (step_at core (callers_of a.runner)) o)) e
      by (Some due) e =
          ap (λ o. request_phase s (acting_of core a) (option_map (step_at core (callers_of a.runner)) o)) e
          ∙ tree_passes s (acting_of core a) (step_at core (callers_of a.runner) due) (class_of due.operation) (ready.class due e) (ready.room due e)

  pub free_ready : (a : Actor) → a.taken ≡ None → IsReady core a
  free_ready a none = record {
    within = λ due e. absurd (no due e);
    class = λ due e. absurd (no due e);
    room = λ due e. absurd (no due e);
    few = λ due by e f. absurd (no due e);
  }
    where
      no : (due : Due) → a.taken ≡ Some due → ⊥
      no due e = cc

  -- one passes behind others that are ready
  pub pass_one : (n h : ℕ) (now : List Actor) (a new : Actor) (s s' : Store) → slice_get now h ≡ Some a → ((g : ℕ) (y : Actor) → g < h → slice_get now g ≡ Some y → IsReady core y)
      → request_phase s (acting_of core a) (due_of core a) ≡ Passes s' (acting_of core new) → IsReady core new
      → all_requests n (actings_of core now) s ≡ all_requests n (actings_of core (set now h new)) s'
  pass_one n h [] a new s s' is ready e is_ready = absurd (let bad : None ≡ Some a = is in cc)
  pass_one n zero (b ∷ now) a new s s' is ready e is_ready =
      let same : b ≡ a = cc in
      let first : request_phase s (acting_of core b) (due_of core b) ≡ Passes s' (acting_of core new) = ap (λ y. request_phase s (acting_of core y) (due_of core y)) same ∙ e in
      ap (after_phase n s (acting_of core b) (actings_of core now) (all_requests (suc n) (actings_of core now))) first
      ∙ sym (ap (after_phase n s' (acting_of core new) (actings_of core now) (all_requests (suc n) (actings_of core now))) (passes new is_ready s'))
  pass_one n (suc h) (b ∷ now) a new s s' is ready e is_ready =
      let b_ready = ready 0 b (omega arith) refl in
      let others = pass_one (suc n) h now a new s s' is (λ g y lt at. ready (suc g) y (omega arith) at) e is_ready in
      ap (after_phase n s (acting_of core b) (actings_of core now) (all_requests (suc n) (actings_of core now))) (passes b b_ready s)
      ∙ ap (before_others (acting_of core b)) others
      ∙ sym (ap (after_phase n s' (acting_of core b) (actings_of core (set now h new)) (all_requests (suc n) (actings_of core (set now h new)))) (passes b b_ready s'))

  -- one faults behind others that are ready
  pub break_one : (n h : ℕ) (now : List Actor) (a : Actor) (s : Store) (site : ℕ) → slice_get now h ≡ Some a → ((g : ℕ) (y : Actor) → g < h → slice_get now g ≡ Some y → IsReady core y)
      → request_phase s (acting_of core a) (due_of core a) ≡ Breaks site
      → all_requests n (actings_of core now) s ≡ record { store = s; acting = actings_of core now; fault = Some (record { site = site; processor = n + h }) }
  break_one n h [] a s site is ready e = absurd (let bad : None ≡ Some a = is in cc)
  break_one n zero (b ∷ now) a s site is ready e =
      let same : b ≡ a = cc in
      let first : request_phase s (acting_of core b) (due_of core b) ≡ Breaks site = ap (λ y. request_phase s (acting_of core y) (due_of core y)) same ∙ e in
      let here : n ≡ n + 0 = omega arith in
      ap (after_phase n s (acting_of core b) (actings_of core now) (all_requests (suc n) (actings_of core now))) first
      ∙ ap (λ (k : ℕ). record { store = s; acting = actings_of core (b ∷ now); fault = Some (record { site = site; processor = k }) }) here
  break_one n (suc h) (b ∷ now) a s site is ready e =
      let b_ready = ready 0 b (omega arith) refl in
      let others = break_one (suc n) h now a s site is (λ g y lt at. ready (suc g) y (omega arith) at) e in
      let here : suc n + h ≡ n + suc h = omega arith in
      ap (after_phase n s (acting_of core b) (actings_of core now) (all_requests (suc n) (actings_of core now))) (passes b b_ready s)
      ∙ ap (before_others (acting_of core b)) others
      ∙ ap (λ (k : ℕ). record { store = s; acting = actings_of core (b ∷ now); fault = Some (record { site = site; processor = k }) }) here

  -- all are ready
  pub pass_all : (n : ℕ) (now : List Actor) (s : Store) → ((g : ℕ) (y : Actor) → slice_get now g ≡ Some y → IsReady core y)
      → all_requests n (actings_of core now) s ≡ record { store = s; acting = actings_of core now; fault = None }
  pass_all n [] s ready = refl
  pass_all n (b ∷ now) s ready =
      ap (after_phase n s (acting_of core b) (actings_of core now) (all_requests (suc n) (actings_of core now))) (passes b (ready 0 b refl) s)
      ∙ ap (before_others (acting_of core b)) (pass_all (suc n) now s (λ g y at. ready (suc g) y at))

  -- ---- the loop

  -- a processor that has passed
  pub record Passed (old : List Actor) (h : ℕ) (x : Actor) : Type 0 where
    pub ready : IsReady core x
    pub mode : (a : Actor) → slice_get old h ≡ Some a → x.mode ≡ a.mode

  pub free : (acting : List Acting) (old : List Actor) (in_round : AreInRound acting old) → (h : ℕ) (x : Actor) → slice_get old h ≡ Some x → slice_index in_round.round h ≡ 0 → Passed old h x
  free acting old in_round h x is none = record {
    ready = free_ready x (in_round.others h x is none);
    mode = λ a at. let same : x ≡ a = cc in cc;
  }

  pub record AsksAt (acting : List Acting) (old : List Actor) (first : Store) (index : ℕ) (now : List Actor) (s : Store) : Type 0 where
    pub in_round : AreInRound acting old
    pub n : ℕ
    pub ahead : present n (drop n in_round.round) ≡ numbers_of (drop index acting)
    pub so : SoFar (Passed old) old n now
    pub same : all_requests 0 (actings_of core old) first ≡ all_requests 0 (actings_of core now) s

  pub asks_first : (acting : List Acting) (old : List Actor) (s : Store) → AreInRound acting old → AsksAt acting old s 0 old s
  asks_first acting old s in_round = record { in_round = in_round; n = 0; ahead = sym in_round.numbers; so = begun (Passed old) old; same = refl }

  before : (acting : List Acting) (old now : List Actor) (first s : Store) (i : ℕ) (x : Acting) → (at : AsksAt acting old first i now s) → i < length acting → x ≡ get_or acting i x
      → (g : ℕ) (y : Actor) → g < x.number → slice_get now g ≡ Some y → Passed old g y
  before acting old now first s i x at lt is g y low there =
      let ahead = next_acting at.in_round.round at.n acting i x at.ahead lt is in
      below (Passed old) old at.in_round.round (free acting old at.in_round) at.n x.number now at.so ahead.next.1.none g y low there

  -- what is known of the next one
  pub record AsksNext (many : ℕ) (now : List Actor) (h : ℕ) : Type 0 where
    pub high : h < length now
    pub own : (a : Actor) → slice_get now h ≡ Some a → a.runner.processor.number < many
    pub calls : (a : Actor) → slice_get now h ≡ Some a → length a.runner.processor.callers.items < 256
    pub can : (a : Actor) → slice_get now h ≡ Some a → CanBeAsked core a

  pub asks_next : (many : ℕ) (acting : List Acting) (old now : List Actor) (first s : Store) (i : ℕ) (x : Acting) → AsksAt acting old first i now s → length old ≡ many → AreOwn (runners_of old)
      → CanAllBeAsked core old → i < length acting → x ≡ get_or acting i x → AsksNext many now x.number
  asks_next many acting old now first s i x at all own can lt is =
      let next = (next_acting at.in_round.round at.n acting i x at.ahead lt is).next.1 in
      let before : slice_get now x.number ≡ slice_get old x.number = at.so.rest x.number next.low in
      let high : x.number < length old = let z = next.high in let y = at.in_round.many in omega arith in
      record {
        high = let z = at.so.many in omega arith;
        own = λ a here. let number = (is_own a (sym before ∙ here)).number in omega arith;
        calls = λ a here.
            let calls = (is_own a (sym before ∙ here)).calls in
            let turned = length-reverse (map call_of a.runner.processor.callers.items) in
            let same = length-map a.runner.processor.callers.items call_of in
            omega (arith, calls, turned, same);
        can = λ a here. can.each x.number a (sym before ∙ here);
      }
    where
      is_own : (a : Actor) → slice_get old x.number ≡ Some a → IsOwn x.number (processor_of a.runner.processor)
      is_own a there =
          own.each x.number (runner_of a.runner) (slice_get-map (λ (y : Actor). runner_of y.runner) old x.number ∙ ap (option_map (λ (y : Actor). runner_of y.runner)) there)

  pub asks_more : (acting : List Acting) (old now : List Actor) (first s s' : Store) (i : ℕ) (x : Acting) (a new : Actor) (fault : Option ℕ) → AsksAt acting old first i now s
      → i < length acting → x ≡ get_or acting i x → slice_get now x.number ≡ Some a → HasAsked core s s' a new fault → fault ≡ None
      → AsksAt acting old first (i + 1) (set now x.number new) s'
  asks_more acting old now first s s' i x a new fault at lt is here tells none =
      let has : HasPassed core s s' a new = subst (HasAsked core s s' a new) none tells in
      let round = at.in_round.round in
      let ahead = next_acting round at.n acting i x at.ahead lt is in
      let within : x.number < length now = let high = ahead.next.1.high in let all = at.so.many in let many = at.in_round.many in omega arith in
      record {
        in_round = at.in_round;
        n = suc x.number;
        ahead = ahead.rest;
        so = more (Passed old) old round (free acting old at.in_round) at.n x.number new ahead.next.0 now ahead.next.1 at.so within
            (record {
              ready = has.ready;
              mode = λ b there.
                  let same : Some b ≡ Some a = sym there ∙ sym (at.so.rest x.number ahead.next.1.low) ∙ here in
                  let b_is : b ≡ a = cc in
                  has.mode ∙ ap (λ (y : Actor). y.mode) (sym b_is);
            });
        same = at.same ∙ pass_one 0 x.number now a new s s' here (λ g y low there. (before acting old now first s i x at lt is g y low there).ready) has.passes has.ready;
      }

  all_modes : (old now : List Actor) → length now ≡ length old → ((h : ℕ) (x : Actor) → slice_get now h ≡ Some x → (a : Actor) → slice_get old h ≡ Some a → x.mode ≡ a.mode) → modes_of now ≡ modes_of old
  all_modes [] [] all mode = refl
  all_modes [] (x ∷ now) all mode = absurd (let z : ⊥ = omega arith in z)
  all_modes (a ∷ old) [] all mode = absurd (let z : ⊥ = omega arith in z)
  all_modes (a ∷ old) (x ∷ now) all mode =
      ap (λ m. m ∷ modes_of now) (mode 0 x refl a refl) ∙ ap (λ ms. a.mode ∷ ms) (all_modes old now (omega arith) (λ h y is b there. mode (suc h) y is b there))

  pub asks_end : (acting : List Acting) (old now : List Actor) (first s : Store) (i : ℕ) → AsksAt acting old first i now s → length acting ≤ i → HaveAsked core first s old now None
  asks_end acting old now first s i at le =
      let round = at.in_round.round in
      let passed = at_end (Passed old) old round (free acting old at.in_round) at.n now at.so (λ h low. none_acting round at.n h acting i at.ahead le low) in
      record {
        phase = at.same ∙ pass_all 0 now s (λ g y there. (passed g y there).ready);
        ready = λ e. record { each = λ h y there. (passed h y there).ready };
        modes = all_modes old now at.so.many (λ h x is a there. (passed h x is).mode a there);
      }

  pub asks_break : (acting : List Acting) (old now : List Actor) (first s s' : Store) (i : ℕ) (x : Acting) (a new : Actor) (fault : code.Fault) (site : Option ℕ) → AsksAt acting old first i now s
      → i < length acting → x ≡ get_or acting i x → slice_get now x.number ≡ Some a → HasAsked core s s' a new site → site ≡ Some fault.site → fault.processor ≡ x.number
      → HaveAsked core first s' old (set now x.number new) (Some fault)
  asks_break acting old now first s s' i x a new fault site at lt is here tells there_is who =
      let stays : actings_of core (set now x.number new) ≡ actings_of core now = same_actings now x.number here in
      record {
        phase = at.same ∙ break_one 0 x.number now a s fault.site here (λ g y low there. (before acting old now first s i x at lt is g y low there).ready) has.breaks
            ∙ ap (λ (k : ℕ). record { store = s; acting = actings_of core now; fault = Some (record { site = fault.site; processor = k }) }) ((let z : 0 + x.number ≡ x.number = omega arith in z) ∙ sym who)
            ∙ ap (λ st. record { store = st; acting = actings_of core now; fault = Some (fault_of core fault) }) (sym has.store)
            ∙ ap (λ (ys : List (rounds.Acting Position)). record { store = s'; acting = ys; fault = Some (fault_of core fault) }) (sym stays);
        ready = λ e. absurd (let bad : Some fault ≡ None = e in cc);
        modes = all_modes old (set now x.number new) (length-set now x.number new ∙ at.so.many) (λ h y there b from. mode h y there b from (place h x.number));
      }
    where
      has : HasBroken core s s' a new fault.site
      has = subst (HasAsked core s s' a new) there_is tells

      place : (h g : ℕ) → (h < g) ⊎ ((h ≡ g) ⊎ (g < h))
      place h g = grind arith

      mode : (h : ℕ) (y : Actor) → slice_get (set now x.number new) h ≡ Some y → (b : Actor) → slice_get old h ≡ Some b → (h < x.number) ⊎ ((h ≡ x.number) ⊎ (x.number < h)) → y.mode ≡ b.mode
      mode h y there b from (inl low) = (before acting old now first s i x at lt is h y low (sym (get_set_other now x.number h new (λ e. omega arith)) ∙ there)).mode b from
      mode h y there b from (inr (inl e)) =
          let next = (next_acting at.in_round.round at.n acting i x at.ahead lt is).next.1 in
          let within : x.number < length now = let high = next.high in let all = at.so.many in let many = at.in_round.many in omega arith in
          let y_is : Some y ≡ Some new = sym there ∙ ap (slice_get (set now x.number new)) e ∙ get_set now x.number new within in
          let b_is : Some b ≡ Some a = sym from ∙ ap (slice_get old) e ∙ sym (at.so.rest x.number next.low) ∙ here in
          let mode_is = has.mode in
          cc
      mode h y there b from (inr (inr high)) =
          let next = (next_acting at.in_round.round at.n acting i x at.ahead lt is).next.1 in
          let low = next.low in
          let same : Some y ≡ Some b = sym there ∙ get_set_other now x.number h new (λ e. omega arith) ∙ at.so.rest h (omega arith) ∙ from in
          cc

      same_actings : (ys : List Actor) (h : ℕ) → slice_get ys h ≡ Some a → actings_of core (set ys h new) ≡ actings_of core ys
      same_actings [] h e = refl
      same_actings (y ∷ ys) zero e = let y_is : y ≡ a = cc in ap (λ z. z ∷ actings_of core ys) (has.actor ∙ ap (acting_of core) (sym y_is))
      same_actings (y ∷ ys) (suc h) e = ap (λ zs. acting_of core y ∷ zs) (same_actings ys h e)
