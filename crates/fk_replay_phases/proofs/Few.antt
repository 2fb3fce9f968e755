-- How many members nodes have.
use Rattle.std.proofs.Common.{◌≡◌, ℕ, suc, ◌+◌, ◌<◌, ◌≤◌, ◌==◌, ◌||◌, Bool, true, false, List, [], ◌∷◌, length, nat_lt, ap, refl, arith}
use Rattle.std.proofs.lemmas.Bool.{and_parts, or_right, eqb-true, eq-eqb, false≢true, ltb-true}
use Rattle.fk_tree.specs.Tree.{Tree, members, is_member}
use Rattle.fk_tree.specs.Sound.{IsSound, is_ascending, is_below_all}

-- ascending numbers from one number on are no more than the numbers that there are
few_ascending : (ms : List ℕ) (low p : ℕ) → low ≤ p → is_ascending ms ≡ true → ((h : ℕ) → is_member h ms ≡ true → (low ≤ h) × (h < p)) → low + length ms ≤ p
few_ascending [] low p le up each = omega (arith, le)
few_ascending (m ∷ ms) low p le up each =
    let both = and_parts (is_below_all m ms) (is_ascending ms) up in
    let self : is_member m (m ∷ ms) ≡ true = ap (λ (b : Bool). b || is_member m ms) (eq-eqb m m refl) in
    let own = each m self in
    let bottom = own.0 in
    let top = own.1 in
    let rest = few_ascending ms (suc m) p (omega (arith, top)) both.1
    (λ h is. (above m ms h both.0 is, (each h (or_right (h == m) (is_member h ms) is)).1)) in
    omega (arith, bottom, rest)
  where
    above : (k : ℕ) (hs : List ℕ) (h : ℕ) → is_below_all k hs ≡ true → is_member h hs ≡ true → suc k ≤ h
    above k [] h below is = absurd (false≢true is)
    above k (g ∷ hs) h below is =
        let parts = and_parts (nat_lt k g) (is_below_all k hs) below in
        let first = ltb-true k g parts.0 in
        by (h == g) refl (λ later. above k hs h parts.1 later) first is
      where
        by : (b : Bool) → (h == g) ≡ b → (is_member h hs ≡ true → suc k ≤ h) → k < g → (b || is_member h hs) ≡ true → suc k ≤ h
        by true e more first is' = let same = eqb-true h g e in omega (arith, same, first)
        by false e more first is' = more is'

-- a node has no more members than there are processors
pub few_members : (p n : ℕ) (tree : Tree) → IsSound p tree → length (members tree n) ≤ p
few_members p n tree sound =
    let few = few_ascending (members tree n) 0 p (omega arith) (sound.ascending n) (λ h has. (omega arith, sound.within n h has)) in omega (arith, few)
