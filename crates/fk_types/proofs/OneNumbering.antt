-- The numbers of things that are numbered in the order in which they are first met.
use Rattle.std.proofs.Common.{◌≡◌, ◌⊎◌, inl, inr, ℕ, zero, suc, ◌<◌, ◌≤◌, List, [], ◌∷◌, length, Some, slice_get, refl, sym, ap, subst, ◌∙◌, arith}
use Rattle.std.proofs.lemmas.Bool.{cases_lt}
use Rattle.std.proofs.lemmas.Option.{none-some, same_Some, slice_get_within, slice_get-get_or}
use Rattle.std.proofs.Math.Nat.{eq-or-lt_of_le}

-- an index below the next one is below this one, or it is this one
below_next : (n k : ℕ) → k < suc n → (k ≡ n) ⊎ (k < n)
below_next n k low = let le : k ≤ n = omega arith in eq-or-lt_of_le le

-- lists that have the same at each index
pub same_lists : {X : Type 0} (xs ys : List X) → ((i : ℕ) (x : X) → slice_get xs i ≡ Some x → slice_get ys i ≡ Some x) → length ys ≤ length xs → xs ≡ ys
same_lists [] [] same few = refl
same_lists [] (y ∷ ys) same few = absurd (omega arith)
same_lists (x ∷ xs) [] same few = absurd (none-some x (same 0 x refl))
same_lists (x ∷ xs) (y ∷ ys) same few =
    let head : y ≡ x = same_Some y x (same 0 x refl) in
    let tail : xs ≡ ys = same_lists xs ys (λ i. same (suc i)) (omega (arith, few)) in
    cc

-- tokens have numbers, which are indices of a list in which each thing stands once, and each is first met at a token
pub record IsNumbering {X : Type 0} (xs : List X) (Has : ℕ → ℕ → Type 0) : Type 0 where
  pub once : (at m n : ℕ) → Has at m → Has at n → m ≡ n
  pub distinct : (i j : ℕ) (x : X) → slice_get xs i ≡ Some x → slice_get xs j ≡ Some x → i ≡ j
  pub met : (n : ℕ) → n < length xs → (at : ℕ) × Has at n × ((before m : ℕ) → before < at → Has before m → m < n)

-- two numberings number the same things at the same tokens
pub record Agree {X : Type 0} (xs ys : List X) (One Two : ℕ → ℕ → Type 0) : Type 0 where
  pub there : (at m : ℕ) → One at m → (n : ℕ) × Two at n
  pub back : (at n : ℕ) → Two at n → (m : ℕ) × One at m
  pub same : (at m n : ℕ) → One at m → Two at n → (x : X) × (slice_get xs m ≡ Some x) × (slice_get ys n ≡ Some x)

module _ {X : Type 0} (xs ys : List X) (One Two : ℕ → ℕ → Type 0) (one : IsNumbering xs One) (two : IsNumbering ys Two) (agree : Agree xs ys One Two) where
  -- the first one of a number that is not below is met at the same token as in the other
  abbrev IsSameAt : ℕ → Type 0
  IsSameAt i = (x : X) → slice_get xs i ≡ Some x → slice_get ys i ≡ Some x

  -- a greater number than the one that is next is none
  no_greater : (n a m : ℕ) (x : X) → ((i : ℕ) → i < n → IsSameAt i) → One a n → ((before k : ℕ) → before < a → One before k → k < n) → Two a m → n < m → slice_get ys m ≡ Some x → ⊥
  no_greater n a m x below here first other greater stands =
      let inside : n < length ys = omega (arith, greater, slice_get_within ys m x stands) in
      let met = two.met n inside in
      elim (cases_lt a met.0) [
        | inl earlier ↦ (let less = met.2 a m earlier other in absurd (omega (arith, less, greater)))
        | inr past ↦ elim (eq-or-lt_of_le past) [
          | inl same ↦ (let equal : n ≡ m = two.once a n m (subst (λ at. Two at n) same met.1) other in absurd (omega (arith, equal, greater)))
          | inr before ↦
              let old = agree.back met.0 n met.1 in
              let less = first met.0 old.0 before old.1 in
              let both = agree.same met.0 old.0 n old.1 met.1 in
              let equal : old.0 ≡ n = two.distinct old.0 n both.0 (below old.0 less both.0 both.1) both.2 in
              absurd (omega (arith, equal, less))
        ]
      ]

  next_same : (n : ℕ) → ((i : ℕ) → i < n → IsSameAt i) → IsSameAt n
  next_same n below x stands =
      let met = one.met n (slice_get_within xs n x stands) in
      let a = met.0 in
      let other = agree.there a n met.1 in
      let m = other.0 in
      let both = agree.same a n m met.1 other.1 in
      let thing : both.0 ≡ x = same_Some both.0 x (sym both.1 ∙ stands) in
      elim (cases_lt m n) [
        | inl less ↦ (let equal : m ≡ n = one.distinct m n both.0 (lower m less both.0 both.2) both.1 in absurd (omega (arith, equal, less)))
        | inr past ↦ elim (eq-or-lt_of_le past) [
          | inl same ↦ ap (slice_get ys) same ∙ both.2 ∙ ap Some thing
          | inr greater ↦ absurd (no_greater n a m both.0 below met.1 met.2 other.1 greater both.2)
        ]
      ]
    where
      -- a thing of a lower number in the other has it here too
      lower : (m : ℕ) → m < n → (y : X) → slice_get ys m ≡ Some y → slice_get xs m ≡ Some y
      lower m less y there =
          let inside : m < length xs = omega (arith, less, slice_get_within xs n x stands) in
          let mine = slice_get-get_or xs m y inside in
          mine ∙ sym (below m less _ mine) ∙ there

  all_same : (n i : ℕ) → i < n → IsSameAt i
  all_same zero i low = absurd (omega arith)
  all_same (suc n) i low = elim (below_next n i low) [
    | inl same ↦ subst IsSameAt (sym same) (next_same n (all_same n))
    | inr less ↦ all_same n i less
  ]

  pub same_at : (i : ℕ) → IsSameAt i
  same_at i = all_same (suc i) i (omega arith)

-- so there is one list of them
pub one_list : {X : Type 0} (xs ys : List X) (One Two : ℕ → ℕ → Type 0) → IsNumbering xs One → IsNumbering ys Two → Agree xs ys One Two → xs ≡ ys
one_list xs ys One Two one two agree = same_lists xs ys (same_at xs ys One Two one two agree) (few (length ys) refl)
  where
    turned : Agree ys xs Two One
    turned = record {
      there = agree.back;
      back = agree.there;
      same = λ at m n h k. let both = agree.same at n m k h in (both.0, both.2, both.1);
    }

    beyond : (n : ℕ) → n < length ys → length xs ≤ n → ⊥
    beyond n inside past =
        let met = two.met n inside in
        let other = agree.back met.0 n met.1 in
        let both = agree.same met.0 other.0 n other.1 met.1 in
        let stands = same_at ys xs Two One two one turned n both.0 both.2 in
        let low = slice_get_within xs n both.0 stands in
        absurd (omega (arith, low, past))

    few : (n : ℕ) → length ys ≡ n → length ys ≤ length xs
    few zero e = omega (arith, e)
    few (suc n) e =
        let inside : n < length ys = omega (arith, e) in
        elim (cases_lt n (length xs)) [
          | inl less ↦ omega (arith, e, less)
          | inr past ↦ absurd (beyond n inside past)
        ]
