-- Rounds by hand, of a heap of 10 words, the last of shared data. The tops and the addresses are those that the sizes give: the heap's first word is
-- 1048566, at the address 268435456 + 4 * 1048566.
use Rattle.std.proofs.Common.{ℕ, List, [], ◌∷◌, true, false, Option, Some, None, arith, refl}
use Rattle.fk_meaning_store.specs.Store.{Store}
use Rattle.fk_sim_heap.specs.Shows.{ShowsTop, AllHire, AllCount}

abbrev store_with : (top : ℕ) → Store
store_with top = record { words = λ i. 0; heaps = λ h. λ i. 0; top = top; output = [] }

-- the third of five doesn't fit, though fewer words would; the fourth finds the heap full, and the fifth asks for none
abbrev first_asks : List (Option ℕ)
first_asks = Some 3 ∷ None ∷ Some 8 ∷ Some 1 ∷ Some 0 ∷ []

abbrev first_answers : List ℕ
first_answers = 272629720 ∷ 0 ∷ 0 ∷ 0 ∷ []

first_hire : AllHire first_asks (store_with 1048566) first_answers (store_with 1048576)
first_hire = (store_with 1048569, refl, (store_with 1048576, refl, (store_with 1048576, refl, (store_with 1048576, refl, refl))))

first_count : AllCount 1048566 0 (false ∷ false ∷ false ∷ false ∷ false ∷ []) first_asks first_answers 12 (false ∷ false ∷ true ∷ true ∷ true ∷ [])
first_count = (refl, refl, (refl, (refl, refl, (refl, refl, (refl, refl, refl)))))

-- once more: who has not noted that the heap is full passes its end once, and a size of more words than shared data has is one of as many
abbrev again_asks : List (Option ℕ)
again_asks = Some 2 ∷ Some 0 ∷ Some 1048577 ∷ None ∷ Some 5 ∷ []

abbrev again_answers : List ℕ
again_answers = 0 ∷ 0 ∷ 0 ∷ 0 ∷ []

again_hire : AllHire again_asks (store_with 1048576) again_answers (store_with 1048576)
again_hire = (store_with 1048576, refl, (store_with 1048576, refl, (store_with 1048576, refl, (store_with 1048576, refl, refl))))

again_count : AllCount 1048566 12 (false ∷ false ∷ true ∷ true ∷ true ∷ []) again_asks again_answers 14 (true ∷ true ∷ true ∷ true ∷ true ∷ [])
again_count = (refl, refl, (refl, refl, (refl, refl, (refl, (refl, refl, refl)))))

-- a request that takes the last word leaves the heap not full for one of no words
abbrev exact_asks : List (Option ℕ)
exact_asks = Some 4 ∷ Some 6 ∷ Some 0 ∷ Some 1048577 ∷ Some 1 ∷ []

abbrev exact_answers : List ℕ
exact_answers = 272629720 ∷ 272629736 ∷ 0 ∷ 0 ∷ 0 ∷ []

exact_hire : AllHire exact_asks (store_with 1048566) exact_answers (store_with 1048576)
exact_hire = (store_with 1048570, refl, (store_with 1048576, refl, (store_with 1048576, refl, (store_with 1048576, refl, (store_with 1048576, refl, refl)))))

exact_count : AllCount 1048566 0 (false ∷ false ∷ false ∷ false ∷ false ∷ []) exact_asks exact_answers 1048587 (false ∷ false ∷ false ∷ true ∷ true ∷ [])
exact_count = (refl, refl, (refl, refl, (refl, refl, (refl, refl, (refl, refl, refl)))))

-- what the count shows before and after each: the record of the relation is made
opens : ShowsTop 1048566 1048566 0 0
opens = record { shown = refl; past = λ some. absurd (omega arith); few = omega arith }

shows_first : ShowsTop 1048566 1048576 12 3
shows_first = record { shown = refl; past = λ some. omega arith; few = omega arith }

shows_exact : ShowsTop 1048566 1048576 1048587 2
shows_exact = record { shown = refl; past = λ some. omega arith; few = omega arith }
