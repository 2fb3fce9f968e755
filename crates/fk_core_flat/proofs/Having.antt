-- What stands in a list behind what.
use Rattle.std.proofs.Common.{◌≡◌, ℕ, suc, ◌+◌, Bool, true, false, List, [], ◌∷◌, ◌++◌, length, sym, refl, subst, arith}
use Rattle.fk_core.specs.declared.op.CoreOp.{CoreOp}
use Rattle.fk_core.specs.CodeAt.{Leads, Stay, Go}
use Rattle.fk_core_flat.specs.Items.{Item, Has}
use Rattle.fk_core_flat.specs.Flat.{skip}

module _ (core : List CoreOp) where
  pub has_front : (i : ℕ) (xs ys : List Item) → Has core i (xs ++ ys) → Has core i xs
  has_front i [] ys h = tt
  has_front i (x ∷ xs) ys h = (h.0, has_front (suc i) xs ys h.1)

  pub has_back : (i r : ℕ) (xs ys : List Item) → r ≡ i + length xs → Has core i (xs ++ ys) → Has core r ys
  has_back i r [] ys e h = let f : i ≡ r = omega arith in subst (λ j. Has core j ys) f h
  has_back i r (x ∷ xs) ys e h = let f : r ≡ suc i + length xs = omega arith in has_back (suc i) r xs ys f h.1

  -- who comes to a jump that may be left out comes to where it leads
  pub skipped : (entry : ℕ → ℕ) (here : Bool) (i target : ℕ) (ys : List Item) → Has core i (skip here target ++ ys) → (here ≡ true → target ≡ i) → Leads core entry i target
  skipped entry true i target ys h is = subst (λ j. Leads core entry i j) (sym (is refl)) Stay
  skipped entry false i target ys h is =
      let item = h.0 in
      Go item.0 item.1 item.2.0 (subst (λ j. Leads core entry j target) (sym item.2.1) Stay)
