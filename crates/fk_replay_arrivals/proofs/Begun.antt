-- Who becomes known to be able.
use Rattle.std.proofs.Common.{◌≡◌, ◌⊎◌, inl, inr, ℕ, zero, suc, ◌+◌, ◌<◌, ◌≤◌, ◌==◌, ◌||◌, Bool, true, false, List, [], ◌∷◌, length, set, slice_get, take, Option, Some, None, is_some, refl, sym, ap, ◌∙◌, subst, arith, if◌then◌else◌}
use Rattle.std.specs.Prelude.{slice_index}
use Rattle.std.proofs.lemmas.Bool.{eqb-true, eq-eqb, ne_eqb, cases_eq}
use Rattle.std.proofs.lemmas.List.{take_all}
use Rattle.std.proofs.lemmas.Option.{slice_get-get_or}
use Rattle.fk_tree.specs.Tree.{is_member}
use Rattle.fk_replay_steps.specs.Pace.{Absences, if_there, since, begun}
use Rattle.fk_replay_phases.specs.Present.{AreBelow}
use Rattle.fk_replay_arrivals.specs.Arrived.{is_known, HaveBegun, BecomesKnown}

-- one element is replaced
pub set_length : {A : Type 0} (xs : List A) (i : ℕ) (x : A) → length (set xs i x) ≡ length xs
set_length [] i x = refl
set_length (y ∷ xs) zero x = refl
set_length (y ∷ xs) (suc i) x = ap (λ (n : ℕ). suc n) (set_length xs i x)

pub set_here : {A : Type 0} (xs : List A) (i : ℕ) (x : A) → i < length xs → slice_get (set xs i x) i ≡ Some x
set_here [] i x lt = absurd (omega arith)
set_here (y ∷ xs) zero x lt = refl
set_here (y ∷ xs) (suc i) x lt = set_here xs i x (omega arith)

pub set_there : {A : Type 0} (xs : List A) (i j : ℕ) (x : A) → (j ≡ i → ⊥) → slice_get (set xs i x) j ≡ slice_get xs j
set_there [] i j x ne = refl
set_there (y ∷ xs) zero zero x ne = absurd (ne refl)
set_there (y ∷ xs) zero (suc j) x ne = refl
set_there (y ∷ xs) (suc i) zero x ne = refl
set_there (y ∷ xs) (suc i) (suc j) x ne = set_there xs i j x (λ e. ne (ap (λ (n : ℕ). suc n) e))

-- nobody becomes known, or some do after others
pub becomes_none : (round : ℕ) (a : Absences) → BecomesKnown round a a
becomes_none round a = record {
  many = refl;
  kept = λ m first is. is;
  begun = λ m first none is. absurd (let bad : None ≡ Some first = sym none ∙ is in cc);
}

pub becomes_both : (round : ℕ) (a b c : Absences) → BecomesKnown round a b → BecomesKnown round b c → BecomesKnown round a c
becomes_both round a b c one two = record {
  many = two.many ∙ one.many;
  kept = λ m first is. two.kept m first (one.kept m first is);
  begun = λ m first none is. by m first none (since b m) refl is;
}
  where
    by : (m first : ℕ) → since a m ≡ None → (x : Option ℕ) → since b m ≡ x → since c m ≡ Some first → first ≡ round
    by m first none None e is = two.begun m first e is
    by m first none (Some f) e is =
        let same : Some first ≡ Some f = sym is ∙ two.kept m f e in
        let is_first : first ≡ f = cc in
        is_first ∙ one.begun m f none e

-- what one beginning does
pub record BeginsOne (h round : ℕ) (old new : Absences) : Type 0 where
  pub becomes : BecomesKnown round old new
  pub known : (m : ℕ) → is_known new m ≡ ((m == h) || is_known old m)

pub begins_one : (a : Absences) (h round : ℕ) → h < length a → BeginsOne h round a (begun a h round)
begins_one a h round lt = by (since a h) refl
  where
    was : (first : ℕ) → since a h ≡ Some first → (m : ℕ) (b : Bool) → (m == h) ≡ b → is_known a m ≡ (b || is_known a m)
    was first e m true same = ap (is_known a) (eqb-true m h same) ∙ ap is_some e
    was first e m false same = refl

    there : (m : ℕ) → (m ≡ h → ⊥) → since (set a h (Some round)) m ≡ since a m
    there m ne = ap if_there (set_there a h m (Some round) ne)

    here : since (set a h (Some round)) h ≡ Some round
    here = ap if_there (set_here a h (Some round) lt)

    now_known : (m : ℕ) → (m ≡ h) ⊎ (m ≡ h → ⊥) → is_known (set a h (Some round)) m ≡ ((m == h) || is_known a m)
    now_known m (inl e) =
        ap (is_known (set a h (Some round))) e ∙ ap is_some here ∙ sym (ap (λ (b : Bool). b || is_known a m) (eq-eqb m h e))
    now_known m (inr ne) = ap is_some (there m ne) ∙ sym (ap (λ (b : Bool). b || is_known a m) (ne_eqb m h ne))

    keeps : since a h ≡ None → (m first : ℕ) → (m ≡ h) ⊎ (m ≡ h → ⊥) → since a m ≡ Some first → since (set a h (Some round)) m ≡ Some first
    keeps none m first (inl e) was_known = absurd (let bad : None ≡ Some first = sym none ∙ sym (ap (since a) e) ∙ was_known in cc)
    keeps none m first (inr ne) was_known = there m ne ∙ was_known

    begins : (m first : ℕ) → (m ≡ h) ⊎ (m ≡ h → ⊥) → since a m ≡ None → since (set a h (Some round)) m ≡ Some first → first ≡ round
    begins m first (inl e) none is = let same : Some first ≡ Some round = sym is ∙ ap (since (set a h (Some round))) e ∙ here in cc
    begins m first (inr ne) none is = absurd (let bad : None ≡ Some first = sym none ∙ sym (there m ne) ∙ is in cc)

    unchanged : (first : ℕ) → since a h ≡ Some first → BeginsOne h round a a
    unchanged first e = record { becomes = becomes_none round a; known = λ m. was first e m (m == h) refl }

    changed : since a h ≡ None → BeginsOne h round a (set a h (Some round))
    changed none = record {
      becomes = record {
        many = set_length a h (Some round);
        kept = λ m first is. keeps none m first (cases_eq m h) is;
        begun = λ m first e is. begins m first (cases_eq m h) e is;
      };
      known = λ m. now_known m (cases_eq m h);
    }

    by : (x : Option ℕ) → since a h ≡ x → BeginsOne h round a (begun a h round)
    by (Some first) e = subst (BeginsOne h round a) (sym (ap (λ (x : Option ℕ). if is_some x then a else set a h (Some round)) e)) (unchanged first e)
    by None e = subst (BeginsOne h round a) (sym (ap (λ (x : Option ℕ). if is_some x then a else set a h (Some round)) e)) (changed e)

-- one after the other
pub none_begin : (round : ℕ) (a : Absences) → HaveBegun [] round a a
none_begin round a = record { becomes = becomes_none round a; known = λ m. refl }

or_assoc : (x y z : Bool) → (y || (x || z)) ≡ ((x || y) || z)
or_assoc true true z = refl
or_assoc true false z = refl
or_assoc false true z = refl
or_assoc false false z = refl

member_more : (ms : List ℕ) (i h m : ℕ) → slice_get ms i ≡ Some h → is_member m (take (suc i) ms) ≡ (is_member m (take i ms) || (m == h))
member_more [] i h m at = absurd (cc)
member_more (x ∷ ms) zero h m at = let same : x ≡ h = cc in or_false (m == x) ∙ ap (λ (k : ℕ). m == k) same
  where
    or_false : (b : Bool) → (b || false) ≡ b
    or_false true = refl
    or_false false = refl
member_more (x ∷ ms) (suc i) h m at = ap (λ (b : Bool). (m == x) || b) (member_more ms i h m at) ∙ assoc (m == x) (is_member m (take i ms)) (m == h)
  where
    assoc : (a b c : Bool) → (a || (b || c)) ≡ ((a || b) || c)
    assoc true b c = refl
    assoc false b c = refl

pub begins_more : (ms : List ℕ) (i round : ℕ) (old now : Absences) → i < length ms → AreBelow (length old) ms → HaveBegun (take i ms) round old now
    → HaveBegun (take (i + 1) ms) round old (begun now (slice_index ms i) round)
begins_more ms i round old now low below so_far = subst (λ (n : ℕ). HaveBegun (take n ms) round old (begun now h round)) (let e : suc i ≡ i + 1 = omega arith in e) (record {
  becomes = becomes_both round old now (begun now h round) so_far.becomes one.becomes;
  known = λ m.
      one.known m ∙ ap (λ (b : Bool). (m == h) || b) (so_far.known m) ∙ or_assoc (is_member m (take i ms)) (m == h) (is_known old m)
      ∙ sym (ap (λ (b : Bool). b || is_known old m) (member_more ms i h m (slice_get-get_or ms i 0 low)));
})
  where
    h : ℕ
    h = slice_index ms i

    one : BeginsOne h round now (begun now h round)
    one = begins_one now h round (let lt = below.each i low in let many = so_far.becomes.many in omega (arith, lt, many))

pub begins_all : (ms : List ℕ) (i round : ℕ) (old now : Absences) → length ms ≤ i → HaveBegun (take i ms) round old now → HaveBegun ms round old now
begins_all ms i round old now all so_far = subst (λ (xs : List ℕ). HaveBegun xs round old now) (take_all i ms all) so_far
