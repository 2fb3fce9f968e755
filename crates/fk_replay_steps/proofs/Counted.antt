-- How many processors are absent, by the remainders of the rounds since which they are.
use Rattle.std.proofs.Common.{◌≡◌, ℕ, zero, suc, ◌+◌, ◌-◌, ◌<◌, ◌≤◌, ◌^◌, ◌⊎◌, Bool, true, false, cond, List, [], ◌∷◌, length, get_or, set, Option, Some, None, refl, sym, ◌∙◌, ap, subst, inl, inr, arith}
use Rattle.std.specs.Prelude.{count_by, is_some, slice_get, slice_index}
use Rattle.std.proofs.lemmas.List.{length-set, get_or-set_same, get_or-set_other, get_or_default, set_past}
use Rattle.std.proofs.lemmas.List.Sums.{sum_by-cons, sum_by-set, count_by-le-length}
use Rattle.std.proofs.lemmas.Option.{slice_get_within, slice_get_past, get_or_from_slice_get}
use Rattle.fk_replay_steps.specs.Pace.{Absences, IsCounted, begun, IsLateNow, has_remainder, if_there, remainder, since}

abbrev number : Bool → ℕ
number b = cond b 1 0

-- one element is replaced by another one
count-set : {X : Type 0} (p : X → Bool) (xs : List X) (i : ℕ) (x y : X) → slice_get xs i ≡ Some x
    → count_by p (set xs i y) + number (p x) ≡ count_by p xs + number (p y)
count-set {X} p xs i x y e =
    let same : get_or xs i y ≡ x = get_or_from_slice_get xs i x y e in
    let moved : count_by p (set xs i y) + number (p (get_or xs i y)) ≡ count_by p xs + number (p y) =
    sum_by-set (λ z. cond (p z) 1 0) xs i y y (slice_get_within xs i x e) in
    subst (λ (z : X). count_by p (set xs i y) + number (p z) ≡ count_by p xs + number (p y)) same moved

none_counted : {X : Type 0} (p : X → Bool) (xs : List X) → count_by p xs ≡ 0
    → (i : ℕ) (x : X) → slice_get xs i ≡ Some x → p x ≡ false
none_counted p [] none i x e = absurd (cc)
none_counted {X} p (y ∷ xs) none i x e =
    let both = split (p y) refl in
    at i e both.0 (λ j f. none_counted p xs both.1 j x f)
  where
    more : count_by p (y ∷ xs) ≡ number (p y) + count_by p xs
    more = sum_by-cons (λ z. cond (p z) 1 0) y xs

    split : (b : Bool) → p y ≡ b → (p y ≡ false) × (count_by p xs ≡ 0)
    split true is = let n : number (p y) ≡ 1 = ap number is in absurd (omega (arith, more, none, n))
    split false is = let n : number (p y) ≡ 0 = ap number is in (is, omega (arith, more, none, n))

    at : (i : ℕ) → slice_get (y ∷ xs) i ≡ Some x → p y ≡ false → ((j : ℕ) → slice_get xs j ≡ Some x → p x ≡ false) → p x ≡ false
    at zero e is rest = let same : y ≡ x = cc in subst (λ (z : X). p z ≡ false) same is
    at (suc i) e is rest = rest i e

count_none : {X : Type 0} (p : X → Bool) (xs : List X) → ((i : ℕ) (x : X) → slice_get xs i ≡ Some x → p x ≡ false) → count_by p xs ≡ 0
count_none p [] none = refl
count_none p (x ∷ xs) none =
    let more : count_by p (x ∷ xs) ≡ number (p x) + count_by p xs = sum_by-cons (λ z. cond (p z) 1 0) x xs in
    let n : number (p x) ≡ 0 = ap number (none 0 x refl) in
    let rest : count_by p xs ≡ 0 = count_none p xs (λ i y e. none (suc i) y e) in
    omega (arith, more, n, rest)

no_remainder : (j k r : ℕ) → (k ≡ j → ⊥) → k ≡ remainder r → has_remainder j (Some r) ≡ false
no_remainder j k r other is = grind arith

own_remainder : (k r : ℕ) → k ≡ remainder r → has_remainder k (Some r) ≡ true
own_remainder k r is = grind arith

same_or_not : (k j : ℕ) → (k ≡ j) ⊎ (k ≡ j → ⊥)
same_or_not k j = grind arith

pub read_part : (parts : List ℕ) (k round n : ℕ) → length parts ≡ 256 → k ≡ remainder round → n ≡ get_or parts k n → n ≡ slice_index parts (remainder round)
read_part parts k round n all is read =
    let low : k < length parts = omega arith in
    read ∙ get_or_default parts k n 0 low ∙ ap (λ i. get_or parts i 0) is

-- the parts after one of them is changed
module _ (absences new : Absences) (parts : List ℕ) (k n : ℕ) where
  parts_after : length parts ≡ 256 → k < 256
      → ((j : ℕ) → j < 256 → slice_index parts j ≡ count_by (has_remainder j) absences)
      → n ≡ count_by (has_remainder k) new
      → ((j : ℕ) → (k ≡ j → ⊥) → count_by (has_remainder j) new ≡ count_by (has_remainder j) absences)
      → (j : ℕ) → j < 256 → slice_index (set parts k n) j ≡ count_by (has_remainder j) new
  parts_after all within counted here others j low = by (same_or_not k j)
    where
      by : (k ≡ j) ⊎ (k ≡ j → ⊥) → slice_index (set parts k n) j ≡ count_by (has_remainder j) new
      by (inl same) =
          ap (λ i. get_or (set parts k n) i 0) (sym same)
          ∙ get_or-set_same parts k n 0 (omega (arith, all, within))
          ∙ here
          ∙ ap (λ i. count_by (has_remainder i) new) same
      by (inr other) =
          get_or-set_other parts k j n 0 (λ e. other (sym e)) ∙ counted j low ∙ sym (others j other)

-- one more
pub record OneMore (absences : Absences) (parts : List ℕ) (able h round n : ℕ) : Type 0 where
  pub part_fits : n + 1 < 2 ^ 32
  pub able_fits : able + 1 < 2 ^ 32
  pub counted : IsCounted (set absences h (Some round)) (set parts (remainder round) (n + 1)) (able + 1)

pub one_more : (absences : Absences) (parts : List ℕ) (able h round n : ℕ) → IsCounted absences parts able
    → slice_get absences h ≡ Some None → n ≡ slice_index parts (remainder round) → OneMore absences parts able h round n
one_more absences parts able h round n is e there =
    let few = is.few in
    let parted = is.parted in
    let all = is.all in
    let k = remainder round in
    let new = set absences h (Some round) in
    let within : k < 256 = omega arith in
    let length_is : length new ≡ length absences = length-set absences h (Some round) in
    let was : n ≡ count_by (has_remainder k) absences = there ∙ is.part k within in
    let own : number (has_remainder k (Some round)) ≡ 1 = ap number (own_remainder k round refl) in
    let moved : count_by (has_remainder k) new + 0 ≡ count_by (has_remainder k) absences + number (has_remainder k (Some round)) =
    count-set (has_remainder k) absences h None (Some round) e in
    let here : n + 1 ≡ count_by (has_remainder k) new = omega (arith, was, own, moved) in
    let moved_all : count_by is_some new + 0 ≡ count_by is_some absences + 1 = count-set is_some absences h None (Some round) e in
    let all_here : able + 1 ≡ count_by is_some new = omega (arith, all, moved_all) in
    let part_low : count_by (has_remainder k) new ≤ length new = count_by-le-length (has_remainder k) new in
    let all_low : count_by is_some new ≤ length new = count_by-le-length is_some new in
    let others : (j : ℕ) → (k ≡ j → ⊥) → count_by (has_remainder j) new ≡ count_by (has_remainder j) absences =
    λ j other. omega (arith, count-set (has_remainder j) absences h None (Some round) e, ap number (no_remainder j k round other refl)) in
    record {
      part_fits = omega (arith, here, part_low, length_is, few);
      able_fits = omega (arith, all_here, all_low, length_is, few);
      counted = record {
        few = omega (arith, length_is, few);
        parted = length-set parts k (n + 1) ∙ parted;
        part = parts_after absences new parts k (n + 1) parted within is.part here others;
        all = all_here;
      };
    }

-- one less
pub record OneLess (absences : Absences) (parts : List ℕ) (able h round n : ℕ) : Type 0 where
  pub part_some : 1 ≤ n
  pub able_some : 1 ≤ able
  pub counted : IsCounted (set absences h None) (set parts (remainder round) (n - 1)) (able - 1)

pub one_less : (absences : Absences) (parts : List ℕ) (able h round n : ℕ) → IsCounted absences parts able
    → slice_get absences h ≡ Some (Some round) → n ≡ slice_index parts (remainder round) → OneLess absences parts able h round n
one_less absences parts able h round n is e there =
    let few = is.few in
    let parted = is.parted in
    let all = is.all in
    let k = remainder round in
    let new = set absences h None in
    let within : k < 256 = omega arith in
    let length_is : length new ≡ length absences = length-set absences h None in
    let was : n ≡ count_by (has_remainder k) absences = there ∙ is.part k within in
    let own : number (has_remainder k (Some round)) ≡ 1 = ap number (own_remainder k round refl) in
    let moved : count_by (has_remainder k) new + number (has_remainder k (Some round)) ≡ count_by (has_remainder k) absences + 0 =
    count-set (has_remainder k) absences h (Some round) None e in
    let moved_all : count_by is_some new + 1 ≡ count_by is_some absences + 0 = count-set is_some absences h (Some round) None e in
    let here : n - 1 ≡ count_by (has_remainder k) new = omega (arith, was, own, moved) in
    let all_here : able - 1 ≡ count_by is_some new = omega (arith, all, moved_all) in
    let others : (j : ℕ) → (k ≡ j → ⊥) → count_by (has_remainder j) new ≡ count_by (has_remainder j) absences =
    λ j other. omega (arith, count-set (has_remainder j) absences h (Some round) None e, ap number (no_remainder j k round other refl)) in
    record {
      part_some = omega (arith, was, own, moved);
      able_some = omega (arith, all, moved_all);
      counted = record {
        few = omega (arith, length_is, few);
        parted = length-set parts k (n - 1) ∙ parted;
        part = parts_after absences new parts k (n - 1) parted within is.part here others;
        all = all_here;
      };
    }

-- ---- what begins

since_there : (absences : Absences) (h : ℕ) (x : Option ℕ) → slice_get absences h ≡ Some x → since absences h ≡ x
since_there absences h x e = ap if_there e

pub begun_past : (absences : Absences) (h round : ℕ) → length absences ≤ h → absences ≡ begun absences h round
begun_past absences h round le =
    sym (ap (λ (o : Option ℕ). cond (is_some o) absences (set absences h (Some round))) (ap if_there (slice_get_past absences h le)) ∙ set_past absences h (Some round) le)

pub begun_able : (absences : Absences) (h round : ℕ) (x : Option ℕ) → slice_get absences h ≡ Some x → is_some x ≡ true → absences ≡ begun absences h round
begun_able absences h round x e some =
    sym (ap (λ (b : Bool). cond b absences (set absences h (Some round))) (ap is_some (since_there absences h x e) ∙ some))

pub begun_absent : (absences : Absences) (h round : ℕ) (x : Option ℕ) → slice_get absences h ≡ Some x → is_some x ≡ false → set absences h (Some round) ≡ begun absences h round
begun_absent absences h round x e none =
    sym (ap (λ (b : Bool). cond b absences (set absences h (Some round))) (ap is_some (since_there absences h x e) ∙ none))

pub is_none : (x : Option ℕ) → is_some x ≡ false → x ≡ None
is_none None none = refl
is_none (Some r) none = absurd (cc)

-- ---- nobody is absent

pub none_since : (absences : Absences) (parts : List ℕ) (able : ℕ) → IsCounted absences parts able → able ≡ 0
    → (h : ℕ) → since absences h ≡ None
none_since absences parts able is z h = by (slice_get absences h) refl
  where
    by : (o : Option (Option ℕ)) → slice_get absences h ≡ o → if_there o ≡ None
    by None e = refl
    by (Some None) e = refl
    by (Some (Some r)) e =
        let bad : true ≡ false = none_counted is_some absences (sym is.all ∙ z) h (Some r) e in absurd (cc)

pub all_since : (absences : Absences) (parts : List ℕ) (able : ℕ) → IsCounted absences parts able
    → ((h : ℕ) → since absences h ≡ None) → able ≡ 0
all_since absences parts able is none = is.all ∙ count_none is_some absences (λ i x e. ap is_some (sym (ap if_there e) ∙ none i))

-- ---- late rounds

pub first_there : (absences : Absences) (h f : ℕ) → since absences h ≡ Some f → slice_get absences h ≡ Some (Some f)
first_there absences h f e = by (slice_get absences h) refl
  where
    by : (o : Option (Option ℕ)) → slice_get absences h ≡ o → slice_get absences h ≡ Some (Some f)
    by None is = let bad : None ≡ Some f = sym (ap if_there is) ∙ e in absurd (cc)
    by (Some x) is = let same : x ≡ Some f = sym (ap if_there is) ∙ e in is ∙ ap (λ (y : Option ℕ). Some y) same

-- nobody is absent since a round whose remainder no such round has
pub none_late : (absences : Absences) (parts : List ℕ) (able first round : ℕ) → IsCounted absences parts able
    → first + 255 ≡ round → slice_index parts (remainder first) ≡ 0 → (h : ℕ) → IsLateNow absences round h → ⊥
none_late absences parts able first round is last z h late =
    let late_first = late.first in
    let late_last = late.last in
    let same : late_first ≡ first = omega arith in
    let k = remainder first in
    let within : k < 256 = omega arith in
    let not_counted : has_remainder k (Some late_first) ≡ false =
    none_counted (has_remainder k) absences (sym (is.part k within) ∙ z) h (Some late_first) (first_there absences h late_first late.absent) in
    let counted : has_remainder k (Some late_first) ≡ true = own_remainder k late_first (ap remainder (sym same)) in
    let bad : true ≡ false = sym counted ∙ not_counted in
    absurd (cc)
