-- Those who act, one after the other, fit to the lowest members of their nodes.
use Rattle.std.proofs.Common.{◌≡◌, ℕ, suc, ◌+◌, ◌<◌, ◌≤◌, Bool, true, false, ◌⊎◌, inl, inr, List, [], ◌∷◌, length, get_or, drop, map, ap, refl, sym, ◌∙◌, subst, arith}
use Rattle.std.specs.Prelude.{slice_index}
use Rattle.fk_tree.specs.Tree as t
use Rattle.fk_tree.specs.Tree.{Tree}
use Rattle.fk_meaning_operation.specs.declared.kinds.Joint.{Joint}
use Rattle.fk_meaning.specs.Round.{Round}
use Rattle.fk_replay_rounds.specs.Modes.{mode_of}
use Rattle.fk_replay_rounds.specs.Fits.{fits_by, all_fit_below, AreThere}
use Rattle.fk_replay_rounds.proofs.Fitting.{tell}
use Rattle.fk_replay_phases.specs.Present.{present, numbers_of, acting_at, all_acting}
use Rattle.fk_replay_phases.specs.declared.acting.Acting.{Acting}
use Rattle.fk_replay_phases.proofs.Present.{next_acting, none_acting}

module _ (round : Round) (last : ℕ) (joint : ℕ → Joint) (tree : Tree) (p : ℕ) (acting : List Acting) where
  pub record FitsAt (i : ℕ) : Type 0 where
    pub n : ℕ
    pub ahead : present n (drop n round) ≡ numbers_of (drop i acting)
    pub fit : (h : ℕ) → h < n → 0 < slice_index round h → fits_by round last joint tree h (tree.places h) (mode_of (t.kind tree (tree.places h))) ≡ true

  numbers_map : (ns : List ℕ) → numbers_of (map (acting_at tree) ns) ≡ ns
  numbers_map [] = refl
  numbers_map (n ∷ ns) = ap (λ ms. n ∷ ms) (numbers_map ns)

  pub fits_first : acting ≡ all_acting tree (present 0 round) → FitsAt 0
  fits_first is = record {
    n = 0;
    ahead = sym (ap numbers_of is ∙ numbers_map (present 0 round));
    fit = λ h lt some. absurd (let z : ⊥ = omega arith in z);
  }

  lt_or : (h n : ℕ) → h < suc n → (h < n) ⊎ (h ≡ n)
  lt_or h n lt = grind arith

  le_or : (h n : ℕ) → (h < n) ⊎ (n ≤ h)
  le_or h n = grind arith

  pub fits_more : (i : ℕ) (x : Acting) → FitsAt i → i < length acting → x ≡ get_or acting i x → fits_by round last joint tree x.number (tree.places x.number) (mode_of (t.kind tree (tree.places x.number))) ≡ true → FitsAt (i + 1)
  fits_more i x at lt is fits =
      let ahead = next_acting round at.n acting i x at.ahead lt is in
      record {
        n = suc x.number;
        ahead = ahead.rest;
        fit = λ h less some. by_eq h some ahead.next.1.none (lt_or h x.number less) (le_or h at.n);
      }
    where
      by_eq : (h : ℕ) → 0 < slice_index round h → ((g : ℕ) → at.n ≤ g → g < x.number → slice_index round g ≡ 0) → (h < x.number) ⊎ (h ≡ x.number) → (h < at.n) ⊎ (at.n ≤ h)
          → fits_by round last joint tree h (tree.places h) (mode_of (t.kind tree (tree.places h))) ≡ true
      by_eq h some none (inr e) place = subst (λ (k : ℕ). fits_by round last joint tree k (tree.places k) (mode_of (t.kind tree (tree.places k))) ≡ true) (sym e) fits
      by_eq h some none (inl less) (inl before) = at.fit h before some
      by_eq h some none (inl less) (inr behind) = absurd (let e = none h behind less in let z : ⊥ = omega arith in z)

  pub fits_end : (i : ℕ) → FitsAt i → length acting ≤ i → AreThere round last joint tree p → all_fit_below round last joint tree 0 round ≡ true
  fits_end i at le there = (tell round last joint tree p there).there (record { each = λ h some. by_place h some (le_or h at.n) })
    where
      by_place : (h : ℕ) → 0 < slice_index round h → (h < at.n) ⊎ (at.n ≤ h) → fits_by round last joint tree h (tree.places h) (mode_of (t.kind tree (tree.places h))) ≡ true
      by_place h some (inl before) = at.fit h before some
      by_place h some (inr behind) = absurd (let e = none_acting round at.n h acting i at.ahead le behind in let z : ⊥ = omega arith in z)

  pub fits_not : (i : ℕ) (x : Acting) → FitsAt i → i < length acting → x ≡ get_or acting i x → AreThere round last joint tree p
      → fits_by round last joint tree x.number (tree.places x.number) (mode_of (t.kind tree (tree.places x.number))) ≡ false → all_fit_below round last joint tree 0 round ≡ false
  fits_not i x at lt is there misfit = by_all (all_fit_below round last joint tree 0 round) refl
    where
      by_all : (b : Bool) → all_fit_below round last joint tree 0 round ≡ b → all_fit_below round last joint tree 0 round ≡ false
      by_all false e = e
      by_all true e =
          let ahead = next_acting round at.n acting i x at.ahead lt is in
          let fits = ((tell round last joint tree p there).back e).each x.number ahead.next.1.some in
          absurd (let bad : false ≡ true = sym misfit ∙ fits in cc)

  -- whether a processor fits, told at its node
  pub fits_at : (x : Acting) (b : Bool) → x ≡ acting_at tree x.number → b ≡ fits_by round last joint tree x.number x.node (mode_of (t.kind tree x.node))
      → b ≡ fits_by round last joint tree x.number (tree.places x.number) (mode_of (t.kind tree (tree.places x.number)))
  fits_at x b is tells = tells ∙ ap (λ (n : ℕ). fits_by round last joint tree x.number n (mode_of (t.kind tree n))) (ap (λ (y : Acting). y.node) is)

  -- what is known of the next one
  pub next_number : (i : ℕ) (x : Acting) → FitsAt i → i < length acting → x ≡ get_or acting i x → AreThere round last joint tree p → (x.number < p) × (x.number ≤ last)
  next_number i x at lt is there =
      let ahead = next_acting round at.n acting i x at.ahead lt is in
      (there.within x.number ahead.next.1.some, there.low x.number ahead.next.1.some)
