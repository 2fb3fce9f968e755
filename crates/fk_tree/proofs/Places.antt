-- One member more is in its part.
use Rattle.std.proofs.Common.{◌≡◌, ◌≢◌, ⊎_elim, ℕ, ◌+◌, ◌≤◌, ◌<◌, ◌==◌, Bool, true, false, ◌||◌, cond, List, [], ◌∷◌, ◌++◌, length, get_or, take, Option, Some, None, refl, sym, ap, ◌∙◌, arith, get_or-set_same, get_or-set_other}
use Rattle.std.proofs.Math.ListN.{set}
use Rattle.std.proofs.lemmas.Bool.{cases_Bool, cases_eq, cond-true, cond-false, eq-eqb, ne_eqb, or_right}
use Rattle.std.proofs.lemmas.List.{take_more}
use Rattle.fk_tree.specs.Tree.{is_member, place_in, parts_by}
use Rattle.fk_tree.specs.Sound.{is_ascending}
use Rattle.fk_tree.specs.Seen.{placed_by}
use Rattle.fk_tree.proofs.Divide.{enters_at, waits_at}

pub or-same : (a b : Bool) → b ≡ false → (a || b) ≡ a
or-same false b e = e
or-same true b e = refl

pub member-append : (h : ℕ) (xs : List ℕ) (m : ℕ) → is_member h (xs ++ m ∷ []) ≡ (is_member h xs || (h == m))
member-append h [] m = or-same (h == m) false refl
member-append h (x ∷ xs) m = ap (λ (b : Bool). (h == x) || b) (member-append h xs m) ∙ or_assoc (h == x) (is_member h xs) (h == m)
  where
    or_assoc : (a b c : Bool) → (a || (b || c)) ≡ ((a || b) || c)
    or_assoc false b c = refl
    or_assoc true b c = refl

module _ (first parts : ℕ) (members of : List ℕ) (old : ℕ → ℕ) (up : is_ascending members ≡ true) (len : length of ≡ length members) where
  abbrev part : ℕ → Option ℕ
  part = parts_by parts members of

  abbrev after : ℕ → ℕ → ℕ
  after j h = placed_by first part (take j members) old h

  member_more : (j h : ℕ) → j < length members → is_member h (take (j + 1) members) ≡ (is_member h (take j members) || (h == get_or members j 0))
  member_more j h lt = ap (is_member h) (take_more members j 0 lt) ∙ member-append h (take j members) (get_or members j 0)

  same_other : (j h : ℕ) → j < length members → h ≢ get_or members j 0 → after j h ≡ after (j + 1) h
  same_other j h lt ne =
      ap (λ (b : Bool). cond b (place_in (old h) first (part h)) (old h))
      (sym (member_more j h lt ∙ or-same (is_member h (take j members)) (h == get_or members j 0) (ne_eqb h (get_or members j 0) ne)))

  pub unplaced : (h : ℕ) → old h ≡ after 0 h
  unplaced h = refl

  both_old : (b : Bool) (h : ℕ) → part h ≡ None → cond b (place_in (old h) first (part h)) (old h) ≡ old h
  both_old b h none =
      ⊎_elim
      (λ t. cond-true b (place_in (old h) first (part h)) (old h) t ∙ ap (place_in (old h) first) none)
      (λ f. cond-false b (place_in (old h) first (part h)) (old h) f)
      (cases_Bool b)

  pub stays_put : (j : ℕ) → j < length members → parts ≤ get_or of j 0 → (h : ℕ) → after j h ≡ after (j + 1) h
  stays_put j lt out h =
      ⊎_elim
      (λ e.
      let none : part h ≡ None = ap part e ∙ waits_at first 0 parts members of (λ i. None) up len j lt out in
      both_old (is_member h (take j members)) h none ∙ sym (both_old (is_member h (take (j + 1) members)) h none))
      (λ ne. same_other j h lt ne)
      (cases_eq h (get_or members j 0))

  pub moves : (j k : ℕ) → j < length members → k ≡ get_or of j 0 → k < parts → (now : List ℕ) → get_or members j 0 < length now
      → ((h : ℕ) → get_or now h 0 ≡ after j h) → (h : ℕ) → get_or (set now (get_or members j 0) (first + k)) h 0 ≡ after (j + 1) h
  moves j k lt named in_part now within before h =
      ⊎_elim
      (λ e.
      let in_part' : get_or of j 0 < parts = omega arith in
      let goes : part h ≡ Some k = ap part e ∙ enters_at first 0 parts members of (λ i. None) up len j lt in_part' ∙ ap Some (sym named) in
      let is : is_member h (take (j + 1) members) ≡ true =
      member_more j h lt ∙ or_right (is_member h (take j members)) (h == get_or members j 0) (eq-eqb h (get_or members j 0) e) in
      ap (λ (i : ℕ). get_or (set now (get_or members j 0) (first + k)) i 0) e
      ∙ get_or-set_same now (get_or members j 0) (first + k) 0 within
      ∙ sym (ap (place_in (old h) first) goes)
      ∙ sym (cond-true (is_member h (take (j + 1) members)) (place_in (old h) first (part h)) (old h) is))
      (λ ne.
      get_or-set_other now (get_or members j 0) h (first + k) 0 ne ∙ before h ∙ same_other j h lt ne)
      (cases_eq h (get_or members j 0))

-- one processor more waits at a node
pub settles : (node : ℕ) (ms : List ℕ) (old : ℕ → ℕ) (j : ℕ) → j < length ms → (now : List ℕ) → get_or ms j 0 < length now
    → ((h : ℕ) → get_or now h 0 ≡ cond (is_member h (take j ms)) node (old h))
    → (h : ℕ) → get_or (set now (get_or ms j 0) node) h 0 ≡ cond (is_member h (take (j + 1) ms)) node (old h)
settles node ms old j lt now within before h =
    let more : is_member h (take (j + 1) ms) ≡ (is_member h (take j ms) || (h == get_or ms j 0)) =
    ap (is_member h) (take_more ms j 0 lt) ∙ member-append h (take j ms) (get_or ms j 0) in
    ⊎_elim
    (λ e.
    let is : is_member h (take (j + 1) ms) ≡ true = more ∙ or_right (is_member h (take j ms)) (h == get_or ms j 0) (eq-eqb h (get_or ms j 0) e) in
    ap (λ (i : ℕ). get_or (set now (get_or ms j 0) node) i 0) e ∙ get_or-set_same now (get_or ms j 0) node 0 within
    ∙ sym (cond-true (is_member h (take (j + 1) ms)) node (old h) is))
    (λ ne.
    get_or-set_other now (get_or ms j 0) h node 0 ne ∙ before h
    ∙ ap (λ (b : Bool). cond b node (old h)) (sym (more ∙ or-same (is_member h (take j ms)) (h == get_or ms j 0) (ne_eqb h (get_or ms j 0) ne))))
    (cases_eq h (get_or ms j 0))
