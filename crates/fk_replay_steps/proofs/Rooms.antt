-- A split that finds its words has few parts.
use Rattle.std.proofs.Common.{◌≡◌, ℕ, ◌*◌, ◌≤◌, ◌^◌, Bool, true, false, cond, Some, None, is_some, nat_lt, refl, ap, sym, ◌∙◌, arith}
use Rattle.std.proofs.lemmas.Bool.{ltb-false}
use Rattle.fk_space.specs.Space.{Space, IsSpace, equal_part, free, share}

pub few_shares : (s : Space) → IsSpace s → (k : ℕ) → is_some (share s k) ≡ true → k ≤ 2 ^ 18
few_shares s space k is = by (nat_lt (free s) (4 * k)) refl
  where
    by : (b : Bool) → nat_lt (free s) (4 * k) ≡ b → k ≤ 2 ^ 18
    by true e =
        let none : is_some (share s k) ≡ false = ap (λ (b : Bool). is_some (cond b None (cond (nat_lt (equal_part s k) 16) None (Some (equal_part s k))))) e in
        let bad : true ≡ false = sym is ∙ none in
        absurd (cc)
    by false e =
        let enough : 4 * k ≤ free s = ltb-false (free s) (4 * k) e in
        let ordered = space.ordered in
        let within = space.within in
        let shared = space.shared in
        omega arith
