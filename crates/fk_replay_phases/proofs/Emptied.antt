-- The counts of those who act are removed, one after the other.
use Rattle.std.proofs.Common.{◌≡◌, ◌≢◌, ℕ, zero, suc, ◌+◌, ◌<◌, ◌≤◌, ◌⊎◌, inl, inr, List, [], ◌∷◌, length, get_or, set, drop, ap, refl, ◌∙◌, arith}
use Rattle.std.specs.Prelude.{slice_index}
use Rattle.std.proofs.lemmas.List.{length-set}
use Rattle.fk_replay_phases.specs.Present.{AreNone, present, numbers_of}
use Rattle.fk_replay_phases.specs.declared.acting.Acting.{Acting}
use Rattle.fk_replay_phases.proofs.Present.{next_acting, none_acting}

-- a number in a list that is set, and the others
pub index_set : (xs : List ℕ) (i c : ℕ) → i < length xs → slice_index (set xs i c) i ≡ c
index_set [] i c lt = absurd (let z : ⊥ = omega arith in z)
index_set (x ∷ xs) zero c lt = refl
index_set (x ∷ xs) (suc i) c lt = index_set xs i c (omega arith)

pub index_set_other : (xs : List ℕ) (i j c : ℕ) → i ≢ j → slice_index (set xs i c) j ≡ slice_index xs j
index_set_other [] i j c ne = refl
index_set_other (x ∷ xs) zero zero c ne = absurd (ne refl)
index_set_other (x ∷ xs) zero (suc j) c ne = refl
index_set_other (x ∷ xs) (suc i) zero c ne = refl
index_set_other (x ∷ xs) (suc i) (suc j) c ne = index_set_other xs i j c (λ e. ne (ap suc e))

module _ (acting : List Acting) (old : List ℕ) where
  pub record DismissesAt (i : ℕ) (now : List ℕ) : Type 0 where
    pub n : ℕ
    pub ahead : present n (drop n old) ≡ numbers_of (drop i acting)
    pub many : length now ≡ length old
    pub done : (h : ℕ) → h < n → slice_index now h ≡ 0
    pub rest : (h : ℕ) → n ≤ h → slice_index now h ≡ slice_index old h

  pub dismisses_within : (i : ℕ) (now : List ℕ) (x : Acting) → DismissesAt i now → i < length acting → x ≡ get_or acting i x → x.number < length now
  dismisses_within i now x at lt is =
      let next = (next_acting old at.n acting i x at.ahead lt is).next.1 in
      let high = next.high in
      let many = at.many in
      omega arith

  pub dismisses_more : (i : ℕ) (now : List ℕ) (x : Acting) → DismissesAt i now → i < length acting → x ≡ get_or acting i x → DismissesAt (i + 1) (set now x.number 0)
  dismisses_more i now x at lt is =
      let ahead = next_acting old at.n acting i x at.ahead lt is in
      let high = ahead.next.1.high in
      let low = ahead.next.1.low in
      let many = at.many in
      record {
        n = suc x.number;
        ahead = ahead.rest;
        many = length-set now x.number 0 ∙ at.many;
        done = λ h less. by_place h ahead.next.1.none (lt_or h x.number less) (le_or h at.n) (omega arith);
        rest = λ h le. index_set_other now x.number h 0 (λ e. omega arith) ∙ at.rest h (omega arith);
      }
    where
      lt_or : (h n : ℕ) → h < suc n → (h < n) ⊎ (h ≡ n)
      lt_or h n lt = grind arith

      le_or : (h n : ℕ) → (h < n) ⊎ (n ≤ h)
      le_or h n = grind arith

      by_place : (h : ℕ) → ((g : ℕ) → at.n ≤ g → g < x.number → slice_index old g ≡ 0) → (h < x.number) ⊎ (h ≡ x.number) → (h < at.n) ⊎ (at.n ≤ h) → x.number < length now → slice_index (set now x.number 0) h ≡ 0
      by_place h none (inr e) place within = ap (slice_index (set now x.number 0)) e ∙ index_set now x.number 0 within
      by_place h none (inl less) (inl before) within = index_set_other now x.number h 0 (λ e. omega arith) ∙ at.done h before
      by_place h none (inl less) (inr behind) within = index_set_other now x.number h 0 (λ e. omega arith) ∙ at.rest h behind ∙ none h behind less

  pub dismisses_end : (i : ℕ) (now : List ℕ) → DismissesAt i now → length acting ≤ i → AreNone (length old) now
  dismisses_end i now at le = record { many = at.many; none = λ h. by_place h (le_or h at.n) }
    where
      le_or : (h n : ℕ) → (h < n) ⊎ (n ≤ h)
      le_or h n = grind arith

      by_place : (h : ℕ) → (h < at.n) ⊎ (at.n ≤ h) → slice_index now h ≡ 0
      by_place h (inl before) = at.done h before
      by_place h (inr behind) = at.rest h behind ∙ none_acting old at.n h acting i at.ahead le behind
