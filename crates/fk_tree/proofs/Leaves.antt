-- One member more stays, or leaves.
use Rattle.std.proofs.Common.{◌≡◌, ◌≢◌, ⊎_elim, ℕ, ◌+◌, ◌<◌, ◌==◌, Bool, true, false, not, ◌&&◌, ◌||◌, cond, List, length, get_or, take, sym, ap, ◌∙◌, arith, get_or-set_same, get_or-set_other}
use Rattle.std.proofs.Math.ListN.{set}
use Rattle.std.proofs.lemmas.Bool.{cases_eq, cond-true, cond-false, eq-eqb, ne_eqb, or_right, and_from, and_right, not_from_true, not_from_false}
use Rattle.std.proofs.lemmas.List.{take_more, get_or-drop}
use Rattle.std.proofs.lemmas.List.Filters.{FiltersInPlace}
use Rattle.fk_tree.specs.Tree.{is_member, stays_by}
use Rattle.fk_tree.specs.Sound.{is_ascending}
use Rattle.fk_tree.specs.Seen.{left_to}
use Rattle.fk_tree.proofs.Lists.{told_at, member_at}
use Rattle.fk_tree.proofs.Divide.{get_or-default}
use Rattle.fk_tree.proofs.Places.{or-same, member-append}

module _ (node : ℕ) (ms : List ℕ) (stay : List Bool) (old : ℕ → ℕ) (up : is_ascending ms ≡ true) (len : length stay ≡ length ms) where
  abbrev stays : ℕ → Bool
  stays = stays_by ms stay

  abbrev after : ℕ → ℕ → ℕ
  after j h = left_to node stays (take j ms) old h

  -- the element that is read is the member of the list as it was
  pub member_is : (ys : List ℕ) (k j x : ℕ) → FiltersInPlace stays ms ys k j → j < length ms → x ≡ get_or ys j x → x ≡ get_or ms j 0
  member_is ys k j x f lt is =
      let z : j + 0 ≡ j = omega arith in
      is ∙ ap (λ (i : ℕ). get_or ys i x) (sym z) ∙ sym (get_or-drop j ys 0 x) ∙ ap (λ (zs : List ℕ). get_or zs 0 x) f.rest
      ∙ get_or-drop j ms 0 x ∙ ap (λ (i : ℕ). get_or ms i x) z ∙ get_or-default ms j x 0 lt

  pub stays_at : (j x : ℕ) (b : Bool) → j < length ms → x ≡ get_or ms j 0 → get_or stay j false ≡ b → stays x ≡ b
  stays_at j x b lt is e = ap stays is ∙ told_at false ms stay j up lt (omega arith) ∙ e

  more : (j h : ℕ) → j < length ms → is_member h (take (j + 1) ms) ≡ (is_member h (take j ms) || (h == get_or ms j 0))
  more j h lt = ap (is_member h) (take_more ms j 0 lt) ∙ member-append h (take j ms) (get_or ms j 0)

  same_other : (j h : ℕ) → j < length ms → h ≢ get_or ms j 0 → after j h ≡ after (j + 1) h
  same_other j h lt ne =
      ap (λ (b : Bool). cond (b && not (stays h)) node (old h))
      (sym (more j h lt ∙ or-same (is_member h (take j ms)) (h == get_or ms j 0) (ne_eqb h (get_or ms j 0) ne)))

  stays_old : (b : Bool) (h : ℕ) → stays h ≡ true → cond (b && not (stays h)) node (old h) ≡ old h
  stays_old b h e = cond-false (b && not (stays h)) node (old h) (and_right b (not (stays h)) (not_from_true (stays h) e))

  pub one_stays : (j x : ℕ) → j < length ms → x ≡ get_or ms j 0 → stays x ≡ true → (h : ℕ) → after j h ≡ after (j + 1) h
  one_stays j x lt is e h =
      ⊎_elim
      (λ same.
      let e' : stays h ≡ true = ap stays (same ∙ sym is) ∙ e in
      stays_old (is_member h (take j ms)) h e' ∙ sym (stays_old (is_member h (take (j + 1) ms)) h e'))
      (λ ne. same_other j h lt ne)
      (cases_eq h (get_or ms j 0))

  pub one_leaves : (j x : ℕ) → j < length ms → x ≡ get_or ms j 0 → stays x ≡ false → (now : List ℕ) → x < length now
      → ((h : ℕ) → get_or now h 0 ≡ after j h) → (h : ℕ) → get_or (set now x node) h 0 ≡ after (j + 1) h
  one_leaves j x lt is e now within before h =
      ⊎_elim
      (λ same.
      let at : h ≡ x = same ∙ sym is in
      let in_list : is_member h (take (j + 1) ms) ≡ true = more j h lt ∙ or_right (is_member h (take j ms)) (h == get_or ms j 0) (eq-eqb h (get_or ms j 0) same) in
      let gone : (is_member h (take (j + 1) ms) && not (stays h)) ≡ true =
      and_from (is_member h (take (j + 1) ms)) (not (stays h)) in_list (not_from_false (stays h) (ap stays at ∙ e)) in
      ap (λ (i : ℕ). get_or (set now x node) i 0) at ∙ get_or-set_same now x node 0 within
      ∙ sym (cond-true (is_member h (take (j + 1) ms) && not (stays h)) node (old h) gone))
      (λ ne.
      let apart : h ≢ x = λ e'. ne (e' ∙ is) in
      get_or-set_other now x h node 0 apart ∙ before h ∙ same_other j h lt ne)
      (cases_eq h (get_or ms j 0))

  pub member_within : (j x n : ℕ) → j < length ms → x ≡ get_or ms j 0 → ((h : ℕ) → is_member h ms ≡ true → h < n) → x < n
  member_within j x n lt is within = omega (arith, is, within (get_or ms j 0) (member_at ms j lt))
