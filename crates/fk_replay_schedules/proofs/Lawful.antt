-- The schedules that are lawful are those without a bad and without a late round.
use Rattle.std.proofs.Common.{◌≡◌, ℕ, zero, suc, ◌+◌, ◌<◌, true, ◌⊎◌, inl, inr, [], ◌∷◌, Option, Some, None, refl, sym, ap, ◌∙◌, subst, arith}
use Rattle.std.specs.Prelude.{slice_get, slice_index}
use Rattle.fk_meaning.specs.Processor.{Setting}
use Rattle.fk_meaning.specs.Round.{Step, State, Round, result, is_possible, IsStopped}
use Rattle.fk_meaning.specs.Schedule.{Schedule, ArePossible, IsIn, IsLawful, KeepsPace}
use Rattle.fk_replay_schedules.specs.Answers.{IsGoodBehind, IsLate}
use Rattle.fk_replay_schedules.specs.Laws.{HasNoFault}

module _ {W : Type 0} (next : W → Option (Step W)) (setting : Setting) where
  abbrev Good : Schedule → State W → Type 0
  Good schedule s = (n : ℕ) (round : Round) → slice_get schedule n ≡ Some round → IsGoodBehind next setting schedule s n round

  behind_one : (round other : Round) (schedule : Schedule) (s : State W) (n : ℕ) (r : Round)
      → IsGoodBehind next setting (round ∷ other ∷ schedule) s (suc n) r → IsGoodBehind next setting (other ∷ schedule) (result next setting round s) n r
  behind_one round other schedule s n r (inl p) = inl p
  behind_one round other schedule s n r (inr q) = let e = q.0 in inr (omega arith, q.1)

  first_of_more : (round other : Round) (schedule : Schedule) (s : State W) → IsGoodBehind next setting (round ∷ other ∷ schedule) s 0 round
      → is_possible next setting round s ≡ true
  first_of_more round other schedule s (inl p) = p
  first_of_more round other schedule s (inr q) = let e = q.0 in absurd (omega arith)

  only_one : (round : Round) (s : State W) → IsGoodBehind next setting (round ∷ []) s 0 round → (is_possible next setting round s ≡ true) ⊎ IsStopped next setting round s
  only_one round s (inl p) = inl p
  only_one round s (inr q) = inr q.1

  possible : (schedule : Schedule) (s : State W) → Good schedule s → ArePossible next setting schedule s
  possible [] s good = tt
  possible (round ∷ []) s good = only_one round s (good 0 round refl)
  possible (round ∷ other ∷ schedule) s good = (
    first_of_more round other schedule s (good 0 round refl),
    possible (other ∷ schedule) (result next setting round s) (λ n r e. behind_one round other schedule s n r (good (suc n) r e)),
  )

  -- ---- pace

  -- one of the rounds behind t has the processor
  record Found (schedule : Schedule) (h t k : ℕ) : Type 0 where
    i : ℕ
    low : i < k
    round : Round
    is : slice_get schedule (t + i) ≡ Some round
    within : IsIn h round

  abbrev Absent : Schedule → (h t k : ℕ) → Type 0
  Absent schedule h t k = (i : ℕ) → i < k → (round : Round) → slice_get schedule (t + i) ≡ Some round → IsIn h round → ⊥

  -- whether one round has the processor
  here : (schedule : Schedule) (h n : ℕ) → ((round : Round) × (slice_get schedule n ≡ Some round) × IsIn h round)
      ⊎ ((round : Round) → slice_get schedule n ≡ Some round → IsIn h round → ⊥)
  here schedule h n = by (slice_get schedule n) refl
    where
      by : (o : Option Round) → slice_get schedule n ≡ o → ((round : Round) × (slice_get schedule n ≡ Some round) × IsIn h round)
          ⊎ ((round : Round) → slice_get schedule n ≡ Some round → IsIn h round → ⊥)
      by None e = inr (λ round f is. none_is round (sym e ∙ f))
        where
          none_is : (round : Round) → None ≡ Some round → ⊥
          none_is round e = cc
      by (Some round) e = count (slice_index round h) refl
        where
          count : (c : ℕ) → slice_index round h ≡ c → ((r : Round) × (slice_get schedule n ≡ Some r) × IsIn h r)
              ⊎ ((r : Round) → slice_get schedule n ≡ Some r → IsIn h r → ⊥)
          count zero z = inr (λ r f is. none r (sym e ∙ f) is)
            where
              none : (r : Round) → Some round ≡ Some r → IsIn h r → ⊥
              none r f is = let same : round ≡ r = cc in let w : 0 < slice_index round h = subst (λ (x : Round). 0 < slice_index x h) (sym same) is in omega arith
          count (suc c) z = inl (round, e, omega arith)

  search_for : (schedule : Schedule) (h t k : ℕ) → Found schedule h t k ⊎ Absent schedule h t k
  search_for schedule h t zero = inr (λ i low round e is. absurd (omega arith))
  search_for schedule h t (suc k) = by (search_for schedule h t k) (here schedule h (t + k))
    where
      by : Found schedule h t k ⊎ ((i : ℕ) → i < k → (round : Round) → slice_get schedule (t + i) ≡ Some round → IsIn h round → ⊥)
          → ((round : Round) × (slice_get schedule (t + k) ≡ Some round) × IsIn h round)
          ⊎ ((round : Round) → slice_get schedule (t + k) ≡ Some round → IsIn h round → ⊥)
          → Found schedule h t (suc k) ⊎ ((i : ℕ) → i < suc k → (round : Round) → slice_get schedule (t + i) ≡ Some round → IsIn h round → ⊥)
      by (inl f) last = let low = f.low in inl (record { i = f.i; low = omega arith; round = f.round; is = f.is; within = f.within })
      by (inr none) (inl l) = inl (record { i = k; low = omega arith; round = l.0; is = l.1; within = l.2 })
      by (inr none) (inr absent) = inr (λ i low round e is. at i low round e is)
        where
          at : (i : ℕ) → i < suc k → (round : Round) → slice_get schedule (t + i) ≡ Some round → IsIn h round → ⊥
          at i low round e is = split (i_cases i k low)
            where
              i_cases : (i k : ℕ) → i < suc k → (i < k) ⊎ (i ≡ k)
              i_cases i k low = grind arith

              split : (i < k) ⊎ (i ≡ k) → ⊥
              split (inl lt) = none i lt round e is
              split (inr same) = absent round (sym (ap (λ n. slice_get schedule (t + n)) same) ∙ e) is

  keeps : (schedule : Schedule) (s : State W) → ((r h : ℕ) → IsLate next setting schedule s r h → ⊥) → KeepsPace next setting schedule s
  keeps schedule s none h t within able = by (search_for schedule h t 256)
    where
      by : Found schedule h t 256 ⊎ ((i : ℕ) → i < 256 → (round : Round) → slice_get schedule (t + i) ≡ Some round → IsIn h round → ⊥)
          → (i : ℕ) × (i < 256) × (round : Round) × (slice_get schedule (t + i) ≡ Some round) × IsIn h round
      by (inl f) = (f.i, f.low, f.round, f.is, f.within)
      by (inr absent) = absurd (none (t + 256) h (record { behind = t; number = refl; there = within; able = able; absent = absent }))

  pub lawful : (schedule : Schedule) (s : State W) → Good schedule s → ((r h : ℕ) → IsLate next setting schedule s r h → ⊥) → IsLawful next setting schedule s
  lawful schedule s good none = record { possible = possible schedule s good; pace = keeps schedule s none }

  -- ---- lawful schedules

  good_one : (round : Round) (s : State W) → (is_possible next setting round s ≡ true) ⊎ IsStopped next setting round s → IsGoodBehind next setting (round ∷ []) s 0 round
  good_one round s (inl p) = inl p
  good_one round s (inr q) = inr (refl, q)

  behind_more : (round other : Round) (schedule : Schedule) (s : State W) (n : ℕ) (r : Round)
      → IsGoodBehind next setting (other ∷ schedule) (result next setting round s) n r → IsGoodBehind next setting (round ∷ other ∷ schedule) s (suc n) r
  behind_more round other schedule s n r (inl p) = inl p
  behind_more round other schedule s n r (inr q) = let e = q.0 in inr (omega arith, q.1)

  good : (schedule : Schedule) (s : State W) → ArePossible next setting schedule s → Good schedule s
  good [] s are n r e = let bad : None ≡ Some r = e in absurd (cc)
  good (round ∷ []) s are zero r e = let same : round ≡ r = cc in subst (IsGoodBehind next setting (round ∷ []) s 0) same (good_one round s are)
  good (round ∷ []) s are (suc n) r e = let bad : None ≡ Some r = e in absurd (cc)
  good (round ∷ other ∷ schedule) s are zero r e =
      let same : round ≡ r = cc in subst (IsGoodBehind next setting (round ∷ other ∷ schedule) s 0) same (inl are.0)
  good (round ∷ other ∷ schedule) s are (suc n) r e =
      behind_more round other schedule s n r (good (other ∷ schedule) (result next setting round s) are.1 n r e)

  pub no_fault : (schedule : Schedule) (s : State W) → IsLawful next setting schedule s → HasNoFault next setting schedule s
  no_fault schedule s is = record {
    none_bad = λ r b. b.bad (good schedule s is.possible b.behind b.round b.is);
    none_late = λ r h l. late r h l;
  }
    where
      late : (r h : ℕ) → IsLate next setting schedule s r h → ⊥
      late r h l =
          let there = l.there in
          let number = l.number in
          let found = is.pace h l.behind (omega arith) l.able in
          l.absent found.0 found.1 found.2 found.3 found.4
