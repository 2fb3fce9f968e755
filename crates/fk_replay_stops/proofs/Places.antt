-- Members, counts and joint operations, by their places.
use Rattle.std.proofs.Common.{◌≡◌, ℕ, zero, suc, ◌+◌, ◌<◌, ◌≤◌, ◌==◌, ◌||◌, Bool, true, false, List, [], ◌∷◌, length, slice_get, Option, Some, None, refl, sym, ap, ◌∙◌, subst, arith}
use Rattle.std.specs.Prelude.{slice_index}
use Rattle.std.specs.List.{list_all}
use Rattle.std.proofs.lemmas.Bool.{and_parts, and_from, or_right, eq-eqb, false≢true, lt-ltb, le-ltb}
use Rattle.fk_tree.specs.Tree as t
use Rattle.fk_tree.specs.Tree.{is_member}
use Rattle.fk_meaning_operation.specs.declared.kinds.Joint.{Joint}
use Rattle.fk_meaning_operation.specs.declared.kinds.Joint.TheVariants.{Alone}
use Rattle.fk_meaning.specs.Processor.{Setting}
use Rattle.fk_meaning.specs.Round.{Step, Runner, Round, cut, joint_due, joint_at, fits, all_fit, begin, begin_all, may_act, all_may_act}
use Rattle.fk_replay_rounds.specs.Fits.{fits_below, all_fit_below}
use Rattle.fk_replay_rounds.specs.Stops.{joint_next, joint_by, joint_up_to}

pub untrue : {A : Type 0} → false ≡ true → A
untrue e = absurd (false≢true e)

pub or_not : (a b : Bool) → a ≡ false → (a || b) ≡ true → b ≡ true
or_not true b isnt e = untrue (sym isnt)
or_not false b isnt e = e

-- a test holds of all members if it does of each
pub all_members : (f : ℕ → Bool) (ms : List ℕ) → ((m : ℕ) → is_member m ms ≡ true → f m ≡ true) → list_all f ms ≡ true
all_members f [] each = refl
all_members f (m ∷ ms) each =
    and_from (f m) (list_all f ms) (each m (ap (λ (b : Bool). b || is_member m ms) (eq-eqb m m refl)))
    (all_members f ms (λ k is. each k (or_right (k == m) (is_member k ms) is)))

-- counts
pub within : (xs : List ℕ) (h c : ℕ) → slice_index xs h ≡ suc c → h < length xs
within [] h c e = absurd (cc)
within (x ∷ xs) zero c e = omega arith
within (x ∷ xs) (suc h) c e = let lt = within xs h c e in omega arith

pub cut_low : (first : ℕ) (round : Round) (h : ℕ) → h < first → slice_index (cut first round) h ≡ slice_index round h
cut_low zero round h lt = absurd (omega arith)
cut_low (suc n) [] h lt = refl
cut_low (suc n) (c ∷ round) zero lt = refl
cut_low (suc n) (c ∷ round) (suc h) lt = cut_low n round h (omega arith)

pub cut_high : (first : ℕ) (round : Round) (h : ℕ) → first ≤ h → slice_index (cut first round) h ≡ 0
cut_high zero [] h le = refl
cut_high zero (c ∷ round) zero le = refl
cut_high zero (c ∷ round) (suc h) le = cut_high zero round h (omega arith)
cut_high (suc n) [] h le = refl
cut_high (suc n) (c ∷ round) zero le = absurd (omega arith)
cut_high (suc n) (c ∷ round) (suc h) le = cut_high n round h (omega arith)

-- what fits, by place
pub fit_at : (round : Round) (does' : ℕ → Joint) (tree : t.Tree) (h : ℕ) (counts : List ℕ) (j : ℕ) → all_fit round does' tree h counts ≡ true
    → fits round does' tree (h + j) (slice_index counts j) ≡ true
fit_at round does' tree h [] j e = refl
fit_at round does' tree h (c ∷ counts) zero e =
    let same : h ≡ h + 0 = omega arith in
    subst (λ (i : ℕ). fits round does' tree i c ≡ true) same (and_parts (fits round does' tree h c) (all_fit round does' tree (suc h) counts) e).0
fit_at round does' tree h (c ∷ counts) (suc j) e =
    let same : suc h + j ≡ h + suc j = omega arith in
    subst (λ (i : ℕ). fits round does' tree i (slice_index counts j) ≡ true) same
    (fit_at round does' tree (suc h) counts j (and_parts (fits round does' tree h c) (all_fit round does' tree (suc h) counts) e).1)

pub fit_each : (round : Round) (does' : ℕ → Joint) (tree : t.Tree) (h : ℕ) (counts : List ℕ)
    → ((j : ℕ) → fits round does' tree (h + j) (slice_index counts j) ≡ true) → all_fit round does' tree h counts ≡ true
fit_each round does' tree h [] each = refl
fit_each round does' tree h (c ∷ counts) each =
    let here : h + 0 ≡ h = omega arith in
    and_from (fits round does' tree h c) (all_fit round does' tree (suc h) counts)
    (subst (λ (i : ℕ). fits round does' tree i c ≡ true) here (each 0))
    (fit_each round does' tree (suc h) counts
    (λ j. let same : h + suc j ≡ suc h + j = omega arith in subst (λ (i : ℕ). fits round does' tree i (slice_index counts j) ≡ true) same (each (suc j))))

pub below_at : (round : Round) (last : ℕ) (joint : ℕ → Joint) (tree : t.Tree) (h : ℕ) (counts : List ℕ) (j : ℕ) → all_fit_below round last joint tree h counts ≡ true
    → fits_below round last joint tree (h + j) (slice_index counts j) ≡ true
below_at round last joint tree h [] j e = refl
below_at round last joint tree h (c ∷ counts) zero e =
    let same : h ≡ h + 0 = omega arith in
    subst (λ (i : ℕ). fits_below round last joint tree i c ≡ true) same
    (and_parts (fits_below round last joint tree h c) (all_fit_below round last joint tree (suc h) counts) e).0
below_at round last joint tree h (c ∷ counts) (suc j) e =
    let same : suc h + j ≡ h + suc j = omega arith in
    subst (λ (i : ℕ). fits_below round last joint tree i (slice_index counts j) ≡ true) same
    (below_at round last joint tree (suc h) counts j (and_parts (fits_below round last joint tree h c) (all_fit_below round last joint tree (suc h) counts) e).1)

pub below_each : (round : Round) (last : ℕ) (joint : ℕ → Joint) (tree : t.Tree) (h : ℕ) (counts : List ℕ)
    → ((j : ℕ) → fits_below round last joint tree (h + j) (slice_index counts j) ≡ true) → all_fit_below round last joint tree h counts ≡ true
below_each round last joint tree h [] each = refl
below_each round last joint tree h (c ∷ counts) each =
    let here : h + 0 ≡ h = omega arith in
    and_from (fits_below round last joint tree h c) (all_fit_below round last joint tree (suc h) counts)
    (subst (λ (i : ℕ). fits_below round last joint tree i c ≡ true) here (each 0))
    (below_each round last joint tree (suc h) counts
    (λ j. let same : h + suc j ≡ suc h + j = omega arith in subst (λ (i : ℕ). fits_below round last joint tree i (slice_index counts j) ≡ true) same (each (suc j))))

module _ {W : Type 0} (next : W → Option (Step W)) (set : Setting) where
  -- who may act, by place
  pub may_at : (round : Round) (rs : List (Runner W)) (h : ℕ) (q : Runner W) → all_may_act next set round rs ≡ true → slice_get rs h ≡ Some q
      → may_act next set (slice_index round h) q ≡ true
  may_at [] [] h q e at = absurd (cc)
  may_at [] (r ∷ rs) h q e at = untrue e
  may_at (c ∷ round) [] h q e at = untrue e
  may_at (c ∷ round) (r ∷ rs) zero q e at =
      let same : r ≡ q = cc in
      subst (λ (x : Runner W). may_act next set c x ≡ true) same (and_parts (may_act next set c r) (all_may_act next set round rs) e).0
  may_at (c ∷ round) (r ∷ rs) (suc h) q e at = may_at round rs h q (and_parts (may_act next set c r) (all_may_act next set round rs) e).1 at

  pub may_each : (round : Round) (rs : List (Runner W)) → length round ≡ length rs
      → ((h : ℕ) (q : Runner W) → slice_get rs h ≡ Some q → may_act next set (slice_index round h) q ≡ true) → all_may_act next set round rs ≡ true
  may_each [] [] long each = refl
  may_each [] (r ∷ rs) long each = absurd (let bad : 0 ≡ suc (length rs) = long in omega arith)
  may_each (c ∷ round) [] long each = absurd (let bad : suc (length round) ≡ 0 = long in omega arith)
  may_each (c ∷ round) (r ∷ rs) long each =
      let shorter : length round ≡ length rs = omega (arith, long) in
      and_from (may_act next set c r) (all_may_act next set round rs) (each 0 r refl) (may_each round rs shorter (λ h q at. each (suc h) q at))

  pub same_length : (round : Round) (rs : List (Runner W)) → all_may_act next set round rs ≡ true → length round ≡ length rs
  same_length [] [] e = refl
  same_length [] (r ∷ rs) e = untrue e
  same_length (c ∷ round) [] e = untrue e
  same_length (c ∷ round) (r ∷ rs) e = ap (λ (n : ℕ). suc n) (same_length round rs (and_parts (may_act next set c r) (all_may_act next set round rs) e).1)

  -- the joint operation that a processor takes with a count
  abbrev pub joint_with : (count : ℕ) → Option (Runner W) → Joint
  joint_with c None = Alone
  joint_with c (Some r) = joint_due (begin next set c r).due

  nobody_joins : (o : Option (Runner W)) → Alone ≡ joint_with 0 o
  nobody_joins None = refl
  nobody_joins (Some r) = refl

  pub joint_is : (round : Round) (rs : List (Runner W)) (h : ℕ) → joint_at (begin_all next set round rs) h ≡ joint_with (slice_index round h) (slice_get rs h)
  joint_is [] rs h = nobody_joins (slice_get rs h)
  joint_is (c ∷ round) [] h = refl
  joint_is (c ∷ round) (r ∷ rs) zero = refl
  joint_is (c ∷ round) (r ∷ rs) (suc h) = joint_is round rs h

  pub one_is_next : (o : Option (Runner W)) → joint_with 1 o ≡ joint_next next set o
  one_is_next None = refl
  one_is_next (Some r) = refl

  pub up_low : (round : Round) (rs : List (Runner W)) (last h : ℕ) → h ≤ last → joint_up_to next set round rs last h ≡ joint_with (slice_index round h) (slice_get rs h)
  up_low round rs last h le = ap (λ (b : Bool). joint_by next set round rs b h) (le-ltb last h le) ∙ joint_is round rs h

  pub up_high : (round : Round) (rs : List (Runner W)) (last h : ℕ) → last < h → joint_up_to next set round rs last h ≡ joint_next next set (slice_get rs h)
  up_high round rs last h lt = ap (λ (b : Bool). joint_by next set round rs b h) (lt-ltb last h lt)
