-- The first part of a list that is split at the elements of a kind, and what is behind it.
use Rattle.std.proofs.Common.{◌≡◌, ℕ, ◌+◌, ◌-◌, ◌<◌, ◌≤◌, Bool, true, false, not, List, [], ◌∷◌, Some, None, length, take, drop, filter, arith, refl, ap, sym}
use Rattle.std.specs.List.{position, position_or_len, slice_split, take_while}
use Rattle.std.proofs.Math.Numerals.{one-add}
use Rattle.std.proofs.lemmas.List.{take_rest, length-drop}
use Rattle.std.proofs.lemmas.List.Folds.{length-prefix_len}
use Rattle.std.proofs.lemmas.List.Sums.{prefix_len-le-length}
use Rattle.fk_top_input.specs.Input.{is_some_word}

-- the parts that aren't empty
abbrev pub parts : (ℕ → Bool) → List ℕ → List (List ℕ)
parts p xs = filter is_some_word (slice_split p xs)

-- the first n elements are the first part, and the parts behind it are those of the rest
pub record SplitsOff (p : ℕ → Bool) (xs : List ℕ) (n : ℕ) : Type 0 where
  pub others : List (List ℕ)
  pub split : slice_split p xs ≡ take n xs ∷ others
  pub rest : filter is_some_word others ≡ parts p (drop n xs)

split_cons : (p : ℕ → Bool) (x : ℕ) (xs : List ℕ) (b : Bool) → p x ≡ b → SplitsOff p xs (position_or_len p xs)
    → SplitsOff p (x ∷ xs) (position_or_len p (x ∷ xs))
split_cons p x xs true e behind = record {
  others = slice_split p xs;
  split = rw e refl;
  rest = rw e (rw e refl);
}
split_cons p x xs false e behind = record {
  others = behind.others;
  split = rw (e, behind.split, one-add) refl;
  rest = rw (e, one-add) behind.rest;
}

split_off : (p : ℕ → Bool) (xs : List ℕ) → SplitsOff p xs (position_or_len p xs)
split_off p [] = record { others = []; split = refl; rest = refl }
split_off p (x ∷ xs) = split_cons p x xs (p x) refl (split_off p xs)

-- the first part that isn't empty begins at s and has n elements
pub record FirstPart (p : ℕ → Bool) (xs : List ℕ) (s n : ℕ) : Type 0 where
  pub parts_are : parts p xs ≡ take n (drop s xs) ∷ parts p (drop n (drop s xs))
  pub some : 0 < n

begun_cons : (p : ℕ → Bool) (x : ℕ) (xs : List ℕ) → p x ≡ false → SplitsOff p xs (position_or_len p xs)
    → FirstPart p (x ∷ xs) 0 (position_or_len p (x ∷ xs))
begun_cons p x xs e behind = record {
  parts_are = rw (e, behind.split, one-add) (ap (λ rest. (x ∷ take (position_or_len p xs) xs) ∷ rest) behind.rest);
  some = rw e (omega arith);
}

first_cons : (p : ℕ → Bool) (x : ℕ) (xs : List ℕ) (b : Bool) → p x ≡ b
    → (position_or_len (λ y. not (p y)) xs < length xs → FirstPart p xs (position_or_len (λ y. not (p y)) xs) (position_or_len p (drop (position_or_len (λ y. not (p y)) xs) xs)))
    → position_or_len (λ y. not (p y)) (x ∷ xs) < length (x ∷ xs)
    → FirstPart p (x ∷ xs) (position_or_len (λ y. not (p y)) (x ∷ xs)) (position_or_len p (drop (position_or_len (λ y. not (p y)) (x ∷ xs)) (x ∷ xs)))
first_cons p x xs true e behind within =
    let less : 1 + position_or_len (λ y. not (p y)) xs < length (x ∷ xs) = rw e at within in
    let first = behind (omega arith) in
    record {
      parts_are = rw (e, one-add) first.parts_are;
      some = rw (e, one-add) first.some;
    }
first_cons p x xs false e behind within =
    rw e (begun_cons p x xs e (split_off p xs))

pub first_part : (p : ℕ → Bool) (xs : List ℕ) → position_or_len (λ y. not (p y)) xs < length xs
    → FirstPart p xs (position_or_len (λ y. not (p y)) xs) (position_or_len p (drop (position_or_len (λ y. not (p y)) xs) xs))
first_part p [] within = absurd (omega arith)
first_part p (x ∷ xs) within = first_cons p x xs (p x) refl (first_part p xs) within

none_cons : (p : ℕ → Bool) (x : ℕ) (xs : List ℕ) (b : Bool) → p x ≡ b → (length xs ≤ position_or_len (λ y. not (p y)) xs → parts p xs ≡ [])
    → length (x ∷ xs) ≤ position_or_len (λ y. not (p y)) (x ∷ xs) → parts p (x ∷ xs) ≡ []
none_cons p x xs true e behind past =
    let more : length (x ∷ xs) ≤ 1 + position_or_len (λ y. not (p y)) xs = rw e at past in
    rw e (behind (omega arith))
none_cons p x xs false e behind past =
    let more : length (x ∷ xs) ≤ 0 = rw e at past in absurd (omega arith)

-- where no element begins a part, no part has an element
pub no_part : (p : ℕ → Bool) (xs : List ℕ) → length xs ≤ position_or_len (λ y. not (p y)) xs → parts p xs ≡ []
no_part p [] past = refl
no_part p (x ∷ xs) past = none_cons p x xs (p x) refl (no_part p xs) past

-- the first index that passes is the length of the front that doesn't, and is in the list
pub at_position : (p : ℕ → Bool) (xs : List ℕ) (i : ℕ) → position p xs ≡ Some i → (i < length xs) × (i ≡ position_or_len p xs)
at_position p xs i e = grind arith

pub no_position : (p : ℕ → Bool) (xs : List ℕ) → position p xs ≡ None → length xs ≤ position_or_len p xs
no_position p xs e = grind arith

-- by the place where the first part begins
pub record PartAt (p : ℕ → Bool) (xs : List ℕ) (s : ℕ) : Type 0 where
  pub parts_are : parts p xs ≡ take (length (take_while (λ y. not (p y)) (drop s xs))) (drop s xs) ∷ parts p (drop (length (take_while (λ y. not (p y)) (drop s xs))) (drop s xs))
  pub some : 0 < length (take_while (λ y. not (p y)) (drop s xs))
  pub within : s < length xs

pub part_at : (p : ℕ → Bool) (xs : List ℕ) (s : ℕ) → position (λ y. not (p y)) xs ≡ Some s → PartAt p xs s
part_at p xs s e =
    let at = at_position (λ y. not (p y)) xs s e in
    let within : position_or_len (λ y. not (p y)) xs < length xs = omega (arith, at.0, at.1) in
    let first = first_part p xs within in
    let here : FirstPart p xs s (position_or_len p (drop s xs)) = rw at.1 first in
    record {
      parts_are = rw (length-prefix_len (λ y. not (p y)) (drop s xs)) here.parts_are;
      some = rw (length-prefix_len (λ y. not (p y)) (drop s xs)) here.some;
      within = at.0;
    }

-- what a split of the rest of the list gives
pub front_and_rest : (p : ℕ → Bool) (xs : List ℕ) (s n : ℕ) (front back : List ℕ) → Some s ≡ position (λ y. not (p y)) xs
    → n ≡ length (take_while (λ y. not (p y)) (take (length xs - s) (drop s xs)))
    → front ≡ take n (take (length xs - s) (drop s xs)) → back ≡ drop n (take (length xs - s) (drop s xs))
    → (parts p xs ≡ front ∷ parts p back) × (length back + 1 ≤ length xs)
front_and_rest p xs s n front back e long front_is back_is =
    let first = part_at p xs s (sym e) in
    let long_is : n ≡ length (take_while (λ y. not (p y)) (drop s xs)) = rw (take_rest xs s) at long in
    let f : front ≡ take n (drop s xs) = rw (take_rest xs s) at front_is in
    let b : back ≡ drop n (drop s xs) = rw (take_rest xs s) at back_is in
    let some : 0 < n = rw long_is first.some in
    let within : s < length xs = first.within in
    (rw (f, b, long_is) first.parts_are, rw b (omega (arith, length-drop n (drop s xs), length-drop s xs)))

pub front-le : (p : ℕ → Bool) (xs : List ℕ) → length (take_while p xs) ≤ length xs
front-le p xs = rw (length-prefix_len p xs) (prefix_len-le-length p xs)
