-- Schedules, cut behind so many rounds.
use Rattle.std.proofs.Common.{◌≡◌, ℕ, zero, suc, ◌<◌, ◌&&◌, true, inl, [], ◌∷◌, Option, Some, None, take, refl, ap, arith}
use Rattle.std.specs.Prelude.{slice_get, is_none}
use Rattle.std.proofs.lemmas.Bool.{and_parts, false≢true}
use Rattle.fk_meaning.specs.Processor.{Setting}
use Rattle.fk_meaning.specs.Round.{Step, State, Round, Fault, result, is_allowed, is_possible}
use Rattle.fk_meaning.specs.Schedule.{Schedule, ArePossible}
use Rattle.fk_replay_schedules.specs.Answers.{after}

none_of : (f : Option Fault) → is_none f ≡ true → f ≡ None
none_of None e = refl
none_of (Some f) e = absurd (false≢true e)

module _ {W : Type 0} (next : W → Option (Step W)) (setting : Setting) where
  -- a possible round leaves no fault, and there was none
  pub no_fault : (round : Round) (s : State W) → is_possible next setting round s ≡ true → (result next setting round s).fault ≡ None
  no_fault round s e = none_of (result next setting round s).fault (and_parts (is_none s.fault && is_allowed next setting round s) (is_none (result next setting round s).fault) e).1

  -- the state after one more round
  pub one_more : (schedule : Schedule) (n : ℕ) (round : Round) (s : State W) → slice_get schedule n ≡ Some round
      → after next setting schedule s (suc n) ≡ result next setting round (after next setting schedule s n)
  one_more [] n round s e = let clash : None ≡ Some round = e in absurd (cc)
  one_more (r ∷ schedule) zero round s e = let same : r ≡ round = cc in ap (λ (x : Round). result next setting x s) same
  one_more (r ∷ schedule) (suc n) round s e = one_more schedule n round (result next setting r s) e

  abbrev Possible : Schedule → State W → (n : ℕ) → Type 0
  Possible schedule s n = (m : ℕ) (round : Round) → m < n → slice_get schedule m ≡ Some round → is_possible next setting round (after next setting schedule s m) ≡ true

  -- the first rounds are possible
  pub first_possible : (schedule : Schedule) (s : State W) (n : ℕ) → Possible schedule s n → ArePossible next setting (take n schedule) s
  first_possible schedule s zero possible = tt
  first_possible [] s (suc n) possible = tt
  first_possible (r ∷ schedule) s (suc n) possible =
      more schedule n (possible 0 r (omega arith) refl) (first_possible schedule (result next setting r s) n (λ m round low e. possible (suc m) round (omega arith) e))
    where
      more : (schedule : Schedule) (n : ℕ) → is_possible next setting r s ≡ true → ArePossible next setting (take n schedule) (result next setting r s) → ArePossible next setting (r ∷ take n schedule) s
      more schedule zero first others = inl first
      more [] (suc n) first others = inl first
      more (q ∷ schedule) (suc n) first others = (first, others)
