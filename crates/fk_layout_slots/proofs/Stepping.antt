-- A step of a loop that puts what an element comes to behind a list.
use Rattle.std.proofs.Common.{◌≡◌, ℕ, suc, ◌+◌, ◌<◌, List, ◌∷◌, ◌++◌, length, get_or, map, drop, ap, ap₂, ◌∙◌, sym, arith, append_assoc}
use Rattle.std.proofs.Math.Seq.{drop-cons}

-- what is left of a list is its next element, and what is left behind that
pub one_left : {A B : Type 0} (f : A → B) (xs : List A) (i : ℕ) (x : A) → i < length xs → x ≡ get_or xs i x
    → map f (drop i xs) ≡ f x ∷ map f (drop (i + 1) xs)
one_left f xs i x h is =
    let n : suc i ≡ i + 1 = omega arith in
    ap (λ l. map f l) (drop-cons xs i x h) ∙ ap₂ (λ y k. f y ∷ map f (drop k xs)) (sym is) n

-- what is there with what is left stays the same where a part of the latter comes to the former
pub passed : {A : Type 0} (old new more rest left : List A) → new ≡ old ++ more → left ≡ more ++ rest → new ++ rest ≡ old ++ left
passed old new more rest left n e = ap (λ l. l ++ rest) n ∙ append_assoc old more rest ∙ ap (λ l. old ++ l) (sym e)
