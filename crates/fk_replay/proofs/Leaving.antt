-- Those who are in a round are no longer absent.
use Rattle.std.proofs.Common.{◌≡◌, ◌≢◌, ℕ, zero, suc, ◌+◌, ◌<◌, ◌⊎◌, inl, inr, List, [], ◌∷◌, length, set, get_or, Option, Some, None, ap, refl, sym, ◌∙◌, subst, arith}
use Rattle.std.specs.Prelude.{slice_get, slice_index, option_map}
use Rattle.std.proofs.lemmas.Option.{slice_get-map, slice_get-get_or, slice_get_within}
use Rattle.fk_meaning.specs.Round.{Round}
use Rattle.fk_meaning.specs.Schedule.{IsIn}
use Rattle.fk_replay_schedules.specs.Paced.{Leaves}
use Rattle.fk_replay_steps.specs.Pace.{Absences, since}
use Rattle.fk_replay_phases.specs.Present.{present, numbers_of}
use Rattle.fk_replay_arrivals.proofs.Begun.{set_length}
use Rattle.fk_replay_phases.specs.declared.acting.Acting.{Acting}
use Rattle.fk_replay_take.proofs.Places.{present_there, there_present}

set_here : (absences : Absences) (h : ℕ) → since (set absences h None) h ≡ None
set_here [] h = refl
set_here (x ∷ xs) zero = refl
set_here (x ∷ xs) (suc h) = set_here xs h

set_there : (absences : Absences) (g h : ℕ) → g ≢ h → since (set absences g None) h ≡ since absences h
set_there [] g h ne = refl
set_there (x ∷ xs) zero zero ne = absurd (ne refl)
set_there (x ∷ xs) zero (suc h) ne = refl
set_there (x ∷ xs) (suc g) zero ne = refl
set_there (x ∷ xs) (suc g) (suc h) ne = set_there xs g h (λ e. ne (ap suc e))

same_or : (g h : ℕ) → (g ≡ h) ⊎ (g ≢ h)
same_or zero zero = inl refl
same_or zero (suc h) = inr (λ e. absurd (omega (arith, e)))
same_or (suc g) zero = inr (λ e. absurd (omega (arith, e)))
same_or (suc g) (suc h) = up (same_or g h)
  where
    up : (g ≡ h) ⊎ (g ≢ h) → (suc g ≡ suc h) ⊎ (suc g ≢ suc h)
    up (inl e) = inl (ap suc e)
    up (inr ne) = inr (λ e. ne (omega (arith, e)))

module _ (acting : List Acting) (old : Absences) where
  -- so many of them have left
  pub record LeavesAt (i : ℕ) (now : Absences) : Type 0 where
    pub many : length now ≡ length old
    pub gone : (h j : ℕ) (x : Acting) → j < i → slice_get acting j ≡ Some x → x.number ≡ h → since now h ≡ None
    pub kept : (h : ℕ) → ((j : ℕ) (x : Acting) → j < i → slice_get acting j ≡ Some x → x.number ≡ h → ⊥) → since now h ≡ since old h

  pub leaves_first : LeavesAt 0 old
  leaves_first = record { many = refl; gone = λ h j x low. absurd (omega arith); kept = λ h none. refl }

  pub leaves_more : (i : ℕ) (now : Absences) (x : Acting) → LeavesAt i now → i < length acting → x ≡ get_or acting i x → LeavesAt (i + 1) (set now x.number None)
  leaves_more i now x at low is = record { many = set_length now x.number None ∙ at.many; gone = λ h j y lt e n. gone h j y e n (cases j i lt) (same_or x.number h); kept = λ h none. kept h none (same_or x.number h) }
    where
      here : slice_get acting i ≡ Some x
      here = slice_get-get_or acting i x low ∙ ap (λ (y : Acting). Some y) (sym is)

      cases : (j i : ℕ) → j < i + 1 → (j < i) ⊎ (j ≡ i)
      cases j i lt = grind arith

      gone : (h j : ℕ) (y : Acting) → slice_get acting j ≡ Some y → y.number ≡ h → (j < i) ⊎ (j ≡ i) → (x.number ≡ h) ⊎ (x.number ≢ h) → since (set now x.number None) h ≡ None
      gone h j y e n place (inl same) = subst (λ (m : ℕ). since (set now x.number None) m ≡ None) same (set_here now x.number)
      gone h j y e n (inl lt) (inr ne) = set_there now x.number h ne ∙ at.gone h j y lt e n
      gone h j y e n (inr j_is) (inr ne) =
          let both : Some x ≡ Some y = sym here ∙ ap (slice_get acting) (sym j_is) ∙ e in
          let one : x ≡ y = cc in
          absurd (ne (ap (λ (z : Acting). z.number) one ∙ n))

      kept : (h : ℕ) → ((j : ℕ) (y : Acting) → j < i + 1 → slice_get acting j ≡ Some y → y.number ≡ h → ⊥) → (x.number ≡ h) ⊎ (x.number ≢ h) → since (set now x.number None) h ≡ since old h
      kept h none (inl same) = absurd (none i x (omega arith) here same)
      kept h none (inr ne) = set_there now x.number h ne ∙ at.kept h (λ j y lt e n. none j y (omega arith) e n)

  number_at : (j : ℕ) (o : Option Acting) (g : ℕ) → slice_get acting j ≡ o → option_map (λ (a : Acting). a.number) o ≡ Some g → (x : Acting) × (slice_get acting j ≡ Some x) × (x.number ≡ g)
  number_at j None g e n = let clash : None ≡ Some g = n in absurd (cc)
  number_at j (Some x) g e n = let same : x.number ≡ g = cc in (x, e, same)

  pub leaves_all : (now : Absences) (round : Round) → LeavesAt (length acting) now → numbers_of acting ≡ present 0 round → Leaves round (since old) (since now)
  leaves_all now round at numbers = record { gone = λ h within. gone h within; kept = λ h out. at.kept h (λ j x low e n. out (inside h j x e n)) }
    where
      as_number : (j : ℕ) → slice_get (present 0 round) j ≡ option_map (λ (a : Acting). a.number) (slice_get acting j)
      as_number j = ap (λ (ns : List ℕ). slice_get ns j) (sym numbers) ∙ slice_get-map (λ (a : Acting). a.number) acting j

      gone : (h : ℕ) → IsIn h round → since now h ≡ None
      gone h within =
          let p = present_there 0 round h within in
          let x = number_at p.0 (slice_get acting p.0) (0 + h) refl (sym (as_number p.0) ∙ p.1) in
          at.gone h p.0 x.0 (slice_get_within acting p.0 x.0 x.1) x.1 (let e = x.2 in omega (arith, e))

      inside : (h j : ℕ) (x : Acting) → slice_get acting j ≡ Some x → x.number ≡ h → IsIn h round
      inside h j x e n =
          let t = there_present 0 round j x.number (as_number j ∙ ap (option_map (λ (a : Acting). a.number)) e) in
          let same : t.0 ≡ h = (let u = t.1 in omega (arith, u, n)) in
          subst (λ (m : ℕ). 0 < slice_index round m) same t.2
