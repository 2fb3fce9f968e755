-- Those who could act and are absent.
use Rattle.std.proofs.Common.{◌≡◌, ℕ, zero, suc, ◌+◌, ◌-◌, ◌<◌, ◌≤◌, true, ◌⊎◌, inl, inr, Option, Some, None, length, refl, sym, ap, ◌∙◌, subst, arith}
use Rattle.std.specs.Prelude.{slice_get, slice_index}
use Rattle.std.proofs.lemmas.Option.{slice_get_within}
use Rattle.fk_meaning.specs.Processor.{Setting}
use Rattle.fk_meaning.specs.Round.{Step, State, Round, is_possible, IsStopped}
use Rattle.fk_meaning.specs.Schedule.{Schedule, CouldAct, IsIn, IsLawful}
use Rattle.fk_replay_schedules.specs.Answers.{after, IsBad, IsGoodBehind, IsLate, IsNotPossible, IsPassedOver}
use Rattle.fk_replay_schedules.specs.Paced.{Since, Leaves, Begins, IsAbsent, HasWaited, IsPaced, ArePassed}
use Rattle.fk_replay_schedules.proofs.Lawful.{lawful}

-- whether a processor is in a round
pub in_or_not : (h : ℕ) (round : Round) → IsIn h round ⊎ (IsIn h round → ⊥)
in_or_not h round = by (slice_index round h) refl
  where
    by : (c : ℕ) → slice_index round h ≡ c → IsIn h round ⊎ (IsIn h round → ⊥)
    by zero e = inr (λ (is : 0 < slice_index round h). omega (arith, e, is))
    by (suc c) e = let low : 0 < slice_index round h = omega (arith, e) in inl low

module _ {W : Type 0} (next : W → Option (Step W)) (setting : Setting) (schedule : Schedule) (opening : State W) where
  abbrev Late : (r h : ℕ) → Type 0
  Late r h = IsLate next setting schedule opening r h

  abbrev Could : (h n : ℕ) → Type 0
  Could h n = CouldAct next setting h (after next setting schedule opening n)

  abbrev Away : (h n : ℕ) → Type 0
  Away h n = IsAbsent next setting schedule opening h n

  -- ---- the opening

  pub paced_at_first : (since : Since) → ((h f : ℕ) → since h ≡ Some f → f ≡ 1) → ((h f : ℕ) → since h ≡ Some f → CouldAct next setting h opening)
      → ((h : ℕ) → since h ≡ None → CouldAct next setting h opening → ⊥) → IsPaced next setting schedule opening since 0
  paced_at_first since first could cannot = record {
    waited = λ h f e. (
      0,
      first h f e,
      record {
        begun = omega arith;
        able = λ i low high. at h i (could h f e) (omega arith);
        absent = λ i low high. absurd (omega arith);
        longest = λ i e'. absurd (omega (arith, e'));
      },
    );
    cannot = cannot;
  }
    where
      at : (h i : ℕ) → CouldAct next setting h opening → i ≡ 0 → Could h i
      at h i c e = subst (Could h) (sym e) c

  pub passed_at_first : ArePassed next setting schedule opening 0
  passed_at_first = record {
    possible = λ m round low. absurd (omega arith);
    on_time = λ q h low l. let e = l.number in omega arith;
  }

  -- ---- late rounds

  module _ (n : ℕ) (round : Round) (old new : Since) (is : slice_get schedule n ≡ Some round) (paced : IsPaced next setting schedule opening old n) (left : Leaves round old new) where
    same_round : (r : Round) → slice_get schedule n ≡ Some r → round ≡ r
    same_round r e = let both : Some round ≡ Some r = sym is ∙ e in cc

    away : (h : ℕ) → (IsIn h round → ⊥) → Away h n
    away h out r e within = out (subst (IsIn h) (sym (same_round r e)) within)

    -- whoever is told after the round was told before it, and isn't in it
    record WasTold (h f : ℕ) : Type 0 where
      out : IsIn h round → ⊥
      told : old h ≡ Some f

    was_told : (h f : ℕ) → new h ≡ Some f → WasTold h f
    was_told h f e = by (in_or_not h round)
      where
        by : IsIn h round ⊎ (IsIn h round → ⊥) → WasTold h f
        by (inl within) = let clash : None ≡ Some f = sym (left.gone h within) ∙ e in absurd (cc)
        by (inr out) = record { out = out; told = sym (left.kept h out) ∙ e }

    -- who waited before the round and isn't in it
    waits_on : (h first : ℕ) → HasWaited next setting schedule opening h first n → (IsIn h round → ⊥) → (i : ℕ) → first ≤ i → i < suc n → Away h i
    waits_on h first w out i low high = by (cases i n high)
      where
        cases : (i n : ℕ) → i < suc n → (i < n) ⊎ (n ≡ i)
        cases i n high = grind arith

        by : (i < n) ⊎ (n ≡ i) → Away h i
        by (inl less) = w.absent i low less
        by (inr same) = subst (Away h) same (away h out)

    pub told_is_late : (h f : ℕ) → f + 255 ≡ suc n → new h ≡ Some f → Late (suc n) h
    told_is_late h f number e =
        let was = was_told h f e in
        let w = paced.waited h f was.told in
        late w.0 w.1 w.2 was.out
      where
        late : (first : ℕ) → f ≡ suc first → HasWaited next setting schedule opening h first n → (IsIn h round → ⊥) → Late (suc n) h
        late first f_is w out = record {
          behind = first;
          number = omega (arith, f_is, number);
          there = let low = slice_get_within schedule n round is in omega arith;
          able = λ i low. w.able (first + i) (omega arith) (omega (arith, f_is, number, low));
          absent = λ i low. waits_on h first w out (first + i) (omega arith) (omega (arith, f_is, number, low));
        }

    module _ (passed : ArePassed next setting schedule opening n) where
      -- who is passed over waits since 255 rounds before
      late_since : (h first behind : ℕ) → behind + 255 ≡ n → ((i : ℕ) → i < 256 → Could h (behind + i)) → ((i : ℕ) → i < 256 → Away h (behind + i))
          → HasWaited next setting schedule opening h first n → first ≡ behind
      late_since h first behind number able absent w = by (cases first behind)
        where
          cases : (a b : ℕ) → (a ≡ b) ⊎ ((i : ℕ) × (suc i ≡ a) × (b ≤ i)) ⊎ ((b' : ℕ) × (b ≡ suc b') × (a ≤ b'))
          cases zero zero = inl refl
          cases zero (suc b) = inr (inr (b, refl, omega arith))
          cases (suc a) zero = inr (inl (a, refl, omega arith))
          cases (suc a) (suc b) = up (cases a b)
            where
              up : (a ≡ b) ⊎ ((i : ℕ) × (suc i ≡ a) × (b ≤ i)) ⊎ ((b' : ℕ) × (b ≡ suc b') × (a ≤ b')) → (suc a ≡ suc b) ⊎ ((i : ℕ) × (suc i ≡ suc a) × (suc b ≤ i)) ⊎ ((b' : ℕ) × (suc b ≡ suc b') × (suc a ≤ b'))
              up (inl e) = inl (ap suc e)
              up (inr (inl x)) = inr (inl (suc x.0, ap suc x.1, let low = x.2 in omega arith))
              up (inr (inr x)) = inr (inr (suc x.0, ap suc x.1, let low = x.2 in omega arith))

          longer : (i : ℕ) → suc i ≡ first → behind ≤ i → ⊥
          longer i first_is low =
              let begun = w.begun in
              let j : ℕ = i - behind in
              let high : j < 256 = omega (arith, number, first_is, begun, low) in
              let at : behind + j ≡ i = omega (arith, low) in
              w.longest i first_is (subst (Could h) at (able j high)) (subst (Away h) at (absent j high))

          shorter : (b : ℕ) → behind ≡ suc b → first ≤ b → ⊥
          shorter b behind_is low = passed.on_time n h (omega arith) (record {
            behind = b;
            number = omega (arith, number, behind_is);
            there = let within = slice_get_within schedule n round is in omega arith;
            able = λ i high. w.able (b + i) (omega arith) (omega (arith, number, behind_is, high));
            absent = λ i high. w.absent (b + i) (omega arith) (omega (arith, number, behind_is, high));
          })

          by : (first ≡ behind) ⊎ ((i : ℕ) × (suc i ≡ first) × (behind ≤ i)) ⊎ ((b' : ℕ) × (behind ≡ suc b') × (first ≤ b')) → first ≡ behind
          by (inl e) = e
          by (inr (inl x)) = absurd (longer x.0 x.1 x.2)
          by (inr (inr x)) = absurd (shorter x.0 x.1 x.2)

      pub late_is_told : (h : ℕ) → Late (suc n) h → (first : ℕ) × (first + 255 ≡ suc n) × (new h ≡ Some first)
      late_is_told h l = by (old h) refl
        where
          number : l.behind + 255 ≡ n
          number = let e = l.number in omega (arith, e)

          could : Could h n
          could = subst (Could h) number (l.able 255 (omega arith))

          out : IsIn h round → ⊥
          out = l.absent 255 (omega arith) round (subst (λ (m : ℕ). slice_get schedule m ≡ Some round) (sym number) is)

          told : (f first : ℕ) → old h ≡ Some f → f ≡ suc first → first ≡ l.behind → (f : ℕ) × (f + 255 ≡ suc n) × (new h ≡ Some f)
          told f first e f_is same = (f, omega (arith, f_is, same, number), left.kept h out ∙ e)

          by : (o : Option ℕ) → old h ≡ o → (f : ℕ) × (f + 255 ≡ suc n) × (new h ≡ Some f)
          by None e = absurd (paced.cannot h e could)
          by (Some f) e = let w = paced.waited h f e in told f w.0 e w.1 (late_since h w.0 l.behind number l.able l.absent w.2)

    -- ---- one more round

    pub kept : (newer : Since) → Begins next setting (after next setting schedule opening (suc n)) (suc (suc n)) new newer → IsPaced next setting schedule opening newer (suc n)
    kept newer begins = record { waited = λ h f e. waited h f e (new h) refl; cannot = begins.cannot }
      where
        -- one who could act only now
        fresh : (h f : ℕ) → newer h ≡ Some f → new h ≡ None → f ≡ suc (suc n) → HasWaited next setting schedule opening h (suc n) (suc n)
        fresh h f e none f_is = record {
          begun = omega arith;
          able = λ i low high. subst (Could h) (between i low high) (begins.could h f e);
          absent = λ i low high. absurd (omega arith);
          longest = λ i e' could absent. not_longer (subst (Could h) (behind i e') could) (subst (Away h) (behind i e') absent);
        }
          where
            between : (i : ℕ) → suc n ≤ i → i ≤ suc n → suc n ≡ i
            between i low high = omega arith

            behind : (i : ℕ) → suc i ≡ suc n → i ≡ n
            behind i e' = omega (arith, e')

            not_longer : Could h n → Away h n → ⊥
            not_longer could absent = by (in_or_not h round)
              where
                by : IsIn h round ⊎ (IsIn h round → ⊥) → ⊥
                by (inl within) = absent round is within
                by (inr out) = paced.cannot h (sym (left.kept h out) ∙ none) could

        -- one who goes on waiting
        goes_on : (h f first : ℕ) → newer h ≡ Some f → HasWaited next setting schedule opening h first n → (IsIn h round → ⊥) → HasWaited next setting schedule opening h first (suc n)
        goes_on h f first e w out = record {
          begun = let low = w.begun in omega arith;
          able = λ i low high. able i low (cases i (suc n) high);
          absent = λ i low high. waits_on h first w out i low high;
          longest = w.longest;
        }
          where
            cases : (i m : ℕ) → i ≤ m → (i < m) ⊎ (m ≡ i)
            cases i m high = grind arith

            able : (i : ℕ) → first ≤ i → (i < suc n) ⊎ (suc n ≡ i) → Could h i
            able i low (inl less) = w.able i low (omega arith)
            able i low (inr same) = subst (Could h) same (begins.could h f e)

        waited : (h f : ℕ) → newer h ≡ Some f → (o : Option ℕ) → new h ≡ o → (first : ℕ) × (f ≡ suc first) × HasWaited next setting schedule opening h first (suc n)
        waited h f e None none = let f_is = begins.begun h f none e in (suc n, f_is, fresh h f e none f_is)
        waited h f e (Some g) some =
            let same : g ≡ f = (let both : Some g ≡ Some f = sym (begins.kept h g some) ∙ e in cc) in
            let was = was_told h f (some ∙ ap Some same) in
            let w = paced.waited h f was.told in
            (w.0, w.1, goes_on h f w.0 e w.2 was.out)

  pub passed_next : (n : ℕ) (round : Round) → slice_get schedule n ≡ Some round → ArePassed next setting schedule opening n
      → is_possible next setting round (after next setting schedule opening n) ≡ true → ((h : ℕ) → Late (suc n) h → ⊥) → ArePassed next setting schedule opening (suc n)
  passed_next n round is passed possible on_time = record {
    possible = λ m r low e. possible_at m r e (cases m n low);
    on_time = λ q h low l. on_time_at q h l (up_to q n low);
  }
    where
      cases : (m n : ℕ) → m < suc n → (m < n) ⊎ (m ≡ n)
      cases m n low = grind arith

      up_to : (q n : ℕ) → q ≤ suc n → (q ≤ n) ⊎ (q ≡ suc n)
      up_to q n low = grind arith

      possible_at : (m : ℕ) (r : Round) → slice_get schedule m ≡ Some r → (m < n) ⊎ (m ≡ n) → is_possible next setting r (after next setting schedule opening m) ≡ true
      possible_at m r e (inl less) = passed.possible m r less e
      possible_at m r e (inr same) =
          let both : Some round ≡ Some r = sym is ∙ ap (slice_get schedule) (sym same) ∙ e in
          let one : round ≡ r = cc in
          subst (λ (x : Round). is_possible next setting x (after next setting schedule opening m) ≡ true) one
          (subst (λ (k : ℕ). is_possible next setting round (after next setting schedule opening k) ≡ true) (sym same) possible)

      on_time_at : (q h : ℕ) → Late q h → (q ≤ n) ⊎ (q ≡ suc n) → ⊥
      on_time_at q h l (inl low) = passed.on_time q h low l
      on_time_at q h l (inr same) = on_time h (subst (λ (k : ℕ). Late k h) same l)

  -- ---- answers

  -- no round before is bad
  good_before : (n : ℕ) → ArePassed next setting schedule opening n → (q : ℕ) → q ≤ n → IsBad next setting schedule opening q → ⊥
  good_before n passed q low b =
      let number = b.number in
      b.bad (inl (passed.possible b.behind b.round (omega (arith, number, low)) b.is))

  pub not_possible : (n : ℕ) (round : Round) → slice_get schedule n ≡ Some round → ArePassed next setting schedule opening n
      → (IsGoodBehind next setting schedule opening n round → ⊥) → IsNotPossible next setting schedule opening (suc n)
  not_possible n round is passed bad = record {
    bad = record { behind = n; number = refl; round = round; is = is; bad = bad };
    first = λ q low. good_before n passed q (omega arith);
    on_time = λ q h low. passed.on_time q h (omega arith);
  }

  pub passed_over : (n : ℕ) (round : Round) (h : ℕ) → slice_get schedule n ≡ Some round → ArePassed next setting schedule opening n
      → IsGoodBehind next setting schedule opening n round → Late (suc n) h → ((g : ℕ) → g < h → Late (suc n) g → ⊥) → IsPassedOver next setting schedule opening (suc n) h
  passed_over n round h is passed good late least = record {
    late = late;
    least = least;
    first = λ q g low. passed.on_time q g (omega arith);
    good = λ q low b. good_up_to q b (cases q n low);
  }
    where
      cases : (q n : ℕ) → q ≤ suc n → (q ≤ n) ⊎ (q ≡ suc n)
      cases q n low = grind arith

      good_up_to : (q : ℕ) → IsBad next setting schedule opening q → (q ≤ n) ⊎ (q ≡ suc n) → ⊥
      good_up_to q b (inl low) = good_before n passed q low b
      good_up_to q b (inr same) =
          let number = b.number in
          let at : b.behind ≡ n = omega (arith, number, same) in
          let both : Some round ≡ Some b.round = sym is ∙ ap (slice_get schedule) (sym at) ∙ b.is in
          let one : round ≡ b.round = cc in
          b.bad (subst (IsGoodBehind next setting schedule opening b.behind) one (subst (λ (k : ℕ). IsGoodBehind next setting schedule opening k round) (sym at) good))

  -- all rounds are passed
  pub all_passed : ArePassed next setting schedule opening (length schedule) → IsLawful next setting schedule opening
  all_passed passed = lawful next setting schedule opening
      (λ n round e. inl (passed.possible n round (slice_get_within schedule n round e) e))
      (λ r h l. let there = l.there in passed.on_time r h there l)

  -- all rounds but the last are passed, which is stopped and late for nobody
  pub all_but_last : (n : ℕ) (round : Round) → slice_get schedule n ≡ Some round → suc n ≡ length schedule → ArePassed next setting schedule opening n
      → IsStopped next setting round (after next setting schedule opening n) → ((h : ℕ) → Late (suc n) h → ⊥) → IsLawful next setting schedule opening
  all_but_last n round is last passed stopped on_time = lawful next setting schedule opening
      (λ m r e. good m r e (cases m n (let low = slice_get_within schedule m r e in omega (arith, last, low))))
      (λ r h l. let there = l.there in late r h l (up_to r n (omega (arith, last, there))))
    where
      cases : (m n : ℕ) → m < suc n → (m < n) ⊎ (m ≡ n)
      cases m n low = grind arith

      up_to : (q n : ℕ) → q ≤ suc n → (q ≤ n) ⊎ (q ≡ suc n)
      up_to q n low = grind arith

      good : (m : ℕ) (r : Round) → slice_get schedule m ≡ Some r → (m < n) ⊎ (m ≡ n) → IsGoodBehind next setting schedule opening m r
      good m r e (inl less) = inl (passed.possible m r less e)
      good m r e (inr same) =
          let both : Some round ≡ Some r = sym is ∙ ap (slice_get schedule) (sym same) ∙ e in
          let one : round ≡ r = cc in
          inr (
            ap suc same ∙ last,
            subst (λ (x : Round). IsStopped next setting x (after next setting schedule opening m)) one
                (subst (λ (k : ℕ). IsStopped next setting round (after next setting schedule opening k)) (sym same) stopped),
          )

      late : (r h : ℕ) → Late r h → (r ≤ n) ⊎ (r ≡ suc n) → ⊥
      late r h l (inl low) = passed.on_time r h low l
      late r h l (inr same) = on_time h (subst (λ (k : ℕ). Late k h) same l)
