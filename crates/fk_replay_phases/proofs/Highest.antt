-- The last of some numbers, and members of nodes.
use Rattle.std.proofs.Common.{◌≡◌, ℕ, zero, suc, ◌-◌, ◌<◌, Bool, true, false, ◌||◌, List, [], ◌∷◌, length, get_or, ap, refl, sym, ◌∙◌, subst, arith}
use Rattle.std.specs.Prelude.{◌==◌, slice_index}
use Rattle.fk_tree.specs.Tree as t
use Rattle.fk_tree.specs.Tree.{Tree, is_member}
use Rattle.fk_tree.specs.Sound.{IsSound}
use Rattle.fk_meaning.specs.Round.{lowest, highest}
use Rattle.fk_replay_phases.specs.Present.{AreBelow, acting_at, all_acting}
use Rattle.fk_replay_phases.specs.declared.acting.Acting.{Acting}

pub none : (xs : List ℕ) → length xs ≡ 0 → 0 ≡ highest xs
none [] e = refl
none (x ∷ xs) e = absurd (let z : ⊥ = omega arith in z)

pub last_one : (xs : List ℕ) → 0 < length xs → get_or xs (length xs - 1) 0 ≡ highest xs
last_one [] lt = absurd (let z : ⊥ = omega arith in z)
last_one (x ∷ []) lt = refl
last_one (x ∷ y ∷ ys) lt =
    ap (λ (k : ℕ). get_or (x ∷ y ∷ ys) k 0) (let e : length (x ∷ y ∷ ys) - 1 ≡ suc (length (y ∷ ys) - 1) = omega arith in e)
    ∙ last_one (y ∷ ys) (omega arith)

-- an element, whatever stands for one that isn't there
pub element : (xs : List Acting) (i : ℕ) (d : Acting) → i < length xs → get_or xs i d ≡ get_or xs i (get_or xs i d)
element [] i d lt = absurd (let z : ⊥ = omega arith in z)
element (x ∷ xs) zero d lt = refl
element (x ∷ xs) (suc i) d lt = element xs i d (omega arith)

pub self_in : (x : ℕ) (xs : List ℕ) → is_member x (x ∷ xs) ≡ true
self_in x xs = grind arith

pub later_in : (x y : ℕ) (xs : List ℕ) → is_member x xs ≡ true → is_member x (y ∷ xs) ≡ true
later_in x y xs is = by (x == y)
  where
    by : (b : Bool) → b || is_member x xs ≡ true
    by true = refl
    by false = is

-- the highest of some numbers is one of them
pub highest_has : (ms : List ℕ) (h : ℕ) → is_member h ms ≡ true → is_member (highest ms) ms ≡ true
highest_has [] h e = absurd (let bad : false ≡ true = e in cc)
highest_has (m ∷ []) h e = self_in m []
highest_has (m ∷ k ∷ ms) h e = later_in (highest (k ∷ ms)) m (k ∷ ms) (highest_has (k ∷ ms) k (self_in k ms))

index_in : (xs : List ℕ) (i : ℕ) → i < length xs → is_member (slice_index xs i) xs ≡ true
index_in [] i lt = absurd (let z : ⊥ = omega arith in z)
index_in (x ∷ xs) zero lt = self_in x xs
index_in (x ∷ xs) (suc i) lt = later_in (slice_index xs i) x xs (index_in xs i (omega arith))

-- the members of a node are processors
pub members_below : (p n : ℕ) (tree : Tree) → IsSound p tree → AreBelow p (t.members tree n)
members_below p n tree sound = record { each = λ i lt. sound.within n (slice_index (t.members tree n) i) (index_in (t.members tree n) i lt) }

lowest_in : (xs : List ℕ) (h : ℕ) → is_member h xs ≡ true → is_member (lowest xs) xs ≡ true
lowest_in [] h is = is
lowest_in (x ∷ xs) h is = self_in x xs

pub lowest_below : (p h : ℕ) (tree : Tree) → IsSound p tree → h < p → lowest (t.members tree (tree.places h)) < p
lowest_below p h tree sound lt =
    sound.within (tree.places h) (lowest (t.members tree (tree.places h))) (lowest_in (t.members tree (tree.places h)) h (sound.placed h lt).member)

-- the lowest member of the node of one who acts
pub acting_low : (p : ℕ) (tree : Tree) (x : Acting) → IsSound p tree → x.number < p → x ≡ acting_at tree x.number → x.lowest < p
acting_low p tree x sound lt is = subst (λ (k : ℕ). k < p) (sym (ap (λ (y : Acting). y.lowest) is)) (lowest_below p x.number tree sound lt)

-- an element of a list that is told by its numbers
pub element_at : (xs : List Acting) (i : ℕ) (x : Acting) (tree : Tree) (ns : List ℕ) → xs ≡ all_acting tree ns → i < length xs → x ≡ get_or xs i x → x ≡ acting_at tree x.number
element_at [] i x tree ns e lt is = absurd (let z : ⊥ = omega arith in z)
element_at (y ∷ ys) i x tree [] e lt is = absurd (let bad : y ∷ ys ≡ [] = e in cc)
element_at (y ∷ ys) zero x tree (n ∷ ns) e lt is =
    let head : y ≡ acting_at tree n = cc in
    let x_is : x ≡ acting_at tree n = is ∙ head in
    x_is ∙ ap (λ (z : Acting). acting_at tree z.number) (sym x_is)
element_at (y ∷ ys) (suc i) x tree (n ∷ ns) e lt is = let tail : ys ≡ all_acting tree ns = cc in element_at ys i x tree ns tail (omega arith) is
