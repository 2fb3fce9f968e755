-- Runs round by round.
use Rattle.std.proofs.Common.{◌≡◌, ◌+◌, ◌<◌, ◌&&◌, ℕ, zero, suc, Bool, true, false, true≢false, [], ◌∷◌, Option, Some, None, arith, ap, ◌∙◌, refl, sym, subst}
use Rattle.std.specs.Prelude.{fold, is_none, slice_get, take}
use Rattle.std.proofs.lemmas.List.Sums.{fold-append}
use Rattle.fk_meaning.specs.Processor.{Setting}
use Rattle.fk_meaning.specs.Round.{Step, Runner, State, Round, is_allowed, is_possible, result}
use Rattle.fk_meaning.specs.Schedule.{Schedule, ArePossible, beginners, first_processor, run}
use Rattle.fk_num.specs.Word.{Memory}
use Rattle.fk_tickets.specs.Lock.{Lock, after}
use Rattle.fk_locks_runs.specs.Locks.{AreOfLock, IsUsed, asked, events, history}
use Rattle.fk_locks_calls.proofs.Events.{FairFrom, fair_append}

and_last : (a b c : Bool) → (a && b && c) ≡ true → c ≡ true
and_last true true c e = e
and_last true false c e = absurd (true≢false (sym e))
and_last false b c e = absurd (true≢false (sym e))

none_is : {A : Type 0} (o : Option A) → is_none o ≡ true → o ≡ None
none_is None e = refl
none_is (Some a) e = absurd (true≢false (sym e))

module _ {W : Type 0} (next : W → Option (Step W)) (set : Setting) where
  possible_none : (round : Round) (s : State W) → is_possible next set round s ≡ true → (result next set round s).fault ≡ None
  possible_none round s e = none_is (result next set round s).fault (and_last (is_none s.fault) (is_allowed next set round s) (is_none (result next set round s).fault) e)

  -- a round that isn't the last one has no fault
  pub record GoesOn (schedule : Schedule) (s : State W) (i : ℕ) : Type 0 where
    pub round : Round
    pub is_round : slice_get schedule i ≡ Some round
    pub no_fault : (result next set round (run next set (take i schedule) s)).fault ≡ None

  pub goes_on : (schedule : Schedule) (s : State W) → ArePossible next set schedule s → (t i : ℕ) (last : Round) → slice_get schedule t ≡ Some last → i < t → GoesOn schedule s i
  goes_on [] s h t i last at lt = absurd (cc)
  goes_on (round ∷ []) s h zero i last at lt = absurd (omega (arith, lt))
  goes_on (round ∷ []) s h (suc t) i last at lt = absurd (cc)
  goes_on (round ∷ other ∷ schedule) s h zero i last at lt = absurd (omega (arith, lt))
  goes_on (round ∷ other ∷ schedule) s h (suc t) zero last at lt = record { round = round; is_round = refl; no_fault = possible_none round s h.0 }
  goes_on (round ∷ other ∷ schedule) s h (suc t) (suc i) last at lt =
      let rest = goes_on (other ∷ schedule) (result next set round s) h.1 t i last at (omega (arith, lt)) in
      record { round = rest.round; is_round = rest.is_round; no_fault = rest.no_fault }

  pub run_more : (schedule : Schedule) (s : State W) (t : ℕ) (round : Round) → slice_get schedule t ≡ Some round
      → run next set (take (suc t) schedule) s ≡ result next set round (run next set (take t schedule) s)
  run_more [] s t round at = absurd (cc)
  run_more (r ∷ schedule) s zero round at = let same : r ≡ round = cc in ap (λ k. result next set k s) same
  run_more (r ∷ schedule) s (suc t) round at = run_more schedule (result next set r s) t round at

  module _ (x : ℕ) where
    pub history_more : (schedule : Schedule) (s : State W) (l : Lock) (t : ℕ) (round : Round) → slice_get schedule t ≡ Some round
        → fold after l (history next set x (take (suc t) schedule) s)
        ≡ fold after (fold after l (history next set x (take t schedule) s)) (events x (asked next set round (run next set (take t schedule) s)))
    history_more [] s l t round at = absurd (cc)
    history_more (r ∷ schedule) s l zero round at =
        let same : r ≡ round = cc in
        fold-append after l (events x (asked next set r s)) [] ∙ ap (λ k. fold after l (events x (asked next set k s))) same
    history_more (r ∷ schedule) s l (suc t) round at =
        let s' = result next set r s in
        let es = events x (asked next set r s) in
        fold-append after l es (history next set x (take (suc t) schedule) s')
        ∙ history_more schedule s' (fold after l es) t round at
        ∙ ap (λ k. fold after k (events x (asked next set round (run next set (take t schedule) s')))) (sym (fold-append after l es (history next set x (take t schedule) s')))

    pub used_by : (schedule : Schedule) (s : State W) → ((t : ℕ) (round : Round) → slice_get schedule t ≡ Some round → AreOfLock x (asked next set round (run next set (take t schedule) s))) → IsUsed next set x schedule s
    used_by [] s all = tt
    used_by (r ∷ schedule) s all = (all 0 r refl, used_by schedule (result next set r s) (λ t round at. all (suc t) round at))

    pub fair_by : (p : ℕ) (schedule : Schedule) (s : State W) (l : Lock)
        → ((t : ℕ) (round : Round) → slice_get schedule t ≡ Some round → FairFrom p (fold after l (history next set x (take t schedule) s)) (events x (asked next set round (run next set (take t schedule) s))))
        → FairFrom p l (history next set x schedule s)
    fair_by p [] s l all = tt
    fair_by p (r ∷ schedule) s l all =
        let s' = result next set r s in
        let es = events x (asked next set r s) in
        fair_append p l es (history next set x schedule s') (all 0 r refl)
        (fair_by p schedule s' (fold after l es)
        (λ t round at.
        subst (λ k. FairFrom p k (events x (asked next set round (run next set (take t schedule) s')))) (fold-append after l es (history next set x (take t schedule) s')) (all (suc t) round at)))

-- the processors at the beginning
pub record Begins {W : Type 0} (set : Setting) (firsts : Memory) (left : W) (h most : ℕ) (r : Runner W) : Type 0 where
  pub low : h < most
  pub is_first : r ≡ record { left = left; has = first_processor set firsts h }

pub begins_at : {W : Type 0} (set : Setting) (firsts : Memory) (left : W) (n count i : ℕ) (r : Runner W) → slice_get (beginners set firsts left n count) i ≡ Some r → Begins set firsts left (n + i) (n + count) r
begins_at set firsts left n zero i r at = absurd (cc)
begins_at set firsts left n (suc count) zero r at =
    let here : n ≡ n + 0 = omega arith in
    let same : record { left = left; has = first_processor set firsts n } ≡ r = cc in
    record { low = omega arith; is_first = sym same ∙ ap (λ k. record { left = left; has = first_processor set firsts k }) here }
begins_at set firsts left n (suc count) (suc i) r at =
    let rest = begins_at set firsts left (suc n) count i r at in
    let low = rest.low in
    let m : suc n + i ≡ n + suc i = omega arith in
    record { low = omega (arith, low); is_first = rest.is_first ∙ ap (λ k. record { left = left; has = first_processor set firsts k }) m }
