-- A well-formed program has at most as many declarations as tokens.
use Rattle.std.proofs.Common.{◌≡◌, inl, inr, ℕ, zero, suc, ◌+◌, ◌<◌, ◌≤◌, Bool, cond, ltb, List, [], ◌∷◌, length, Some, slice_get, sum_by, refl, ap, arith}
use Rattle.std.proofs.lemmas.Bool.{cases_lt, cases_eq, lt-ltb, le-ltb}
use Rattle.std.proofs.lemmas.List.Sums.{sum_by-cons}
use Rattle.std.proofs.lemmas.Option.{slice_get_within}
use Rattle.fk_syntax.specs.Program.{ProgramTree}
use Rattle.fk_syntax.specs.WellFormed.{IsWellFormed}
use Rattle.fk_syntax.specs.Nodes.{items_indices}
use Rattle.fk_types_names.specs.Outline.{DeclarationTree, declarations}
use Rattle.fk_types_rules.proofs.Counting.{by, times, one-same, node-once}
use Rattle.fk_types_rules.proofs.Pieces.{name_token, pieces_named, of_items}
use Rattle.fk_types_bindings.proofs.Below.{declared_below}
use Rattle.fk_types_obligations.specs.Pieces.{pieces}
use Rattle.fk_check_laws.proofs.Each.{Each, each}
use Rattle.fk_check_laws.proofs.Notes.{among}

abbrev count_if : Bool → ℕ
count_if b = cond b 1 0

module _ {X : Type 0} (token : X → ℕ) where
  -- 1 for a thing below a number
  abbrev below : ℕ → X → ℕ
  below n x = count_if (ltb (token x) n)

  one_more : (n : ℕ) (x : X) → below (suc n) x ≤ below n x + by token n x
  one_more n x = elim (cases_lt (token x) n) [
    | inl less ↦ omega (arith, ap count_if (lt-ltb (token x) n less), ap count_if (lt-ltb (token x) (suc n) (omega (arith, less))))
    | inr not ↦ elim (cases_eq n (token x)) [
      | inl same ↦ omega (arith, one-same n (token x) same, ap count_if (lt-ltb (token x) (suc n) (omega (arith, same))))
      | inr other ↦ omega (arith, ap count_if (le-ltb (token x) (suc n) (omega (arith, not, other))))
    ]
  ]

  more : (n : ℕ) (xs : List X) → sum_by (below (suc n)) xs ≤ sum_by (below n) xs + times token n xs
  more n [] = omega arith
  more n (x ∷ xs) = omega (
    arith,
    one_more n x,
    more n xs,
    sum_by-cons (below (suc n)) x xs,
    sum_by-cons (below n) x xs,
    sum_by-cons (by token n) x xs,
  )

  none : (xs : List X) → sum_by (below 0) xs ≡ 0
  none [] = refl
  none (x ∷ xs) = omega (arith, none xs, sum_by-cons (below 0) x xs, ap count_if (le-ltb (token x) 0 (omega arith)))

  few : (xs : List X) → ((at : ℕ) → times token at xs ≤ 1) → (n : ℕ) → sum_by (below n) xs ≤ n
  few xs once zero = omega (arith, none xs)
  few xs once (suc n) = omega (arith, few xs once n, more n xs, once n)

  all : (n : ℕ) (xs : List X) → Each (λ x. token x < n) xs → sum_by (below n) xs ≡ length xs
  all n [] h = refl
  all n (x ∷ xs) h = omega (arith, all n xs h.1, sum_by-cons (below n) x xs, ap count_if (lt-ltb (token x) n h.0))

module _ (program : ProgramTree) (sound : IsWellFormed program) where
  declared_once : (at : ℕ) → times name_token at (declarations program) ≤ 1
  declared_once at =
      let stands = of_items program.items in
      omega (
        arith,
        pieces_named (pieces program) at,
        ap (times name_token at) stands.declared,
        stands.within.count at,
        node-once at (items_indices program.items) sound.distinct,
      )

  pub number_low : (number : ℕ) (d : DeclarationTree) → slice_get (declarations program) number ≡ Some d → number < program.tokens
  number_low number d is =
      let declared = declarations program in
      let low = each (λ (x : DeclarationTree). name_token x < program.tokens) declared (λ i x here. declared_below program sound x (among declared i x here)) in
      omega (
        arith,
        slice_get_within declared number d is,
        all name_token program.tokens declared low,
        few name_token declared declared_once program.tokens,
      )
