-- The least word of which a fact holds.
use Rattle.std.proofs.Common.{◌≡◌, ℕ, ◌^◌, ◌<◌, Option, Some, None, ◌⊎◌, inl, inr, refl, sym, subst, arith}
use Rattle.std.specs.Prelude.{min}
use Rattle.std.proofs.lemmas.Bool.{cases_lt}
use Rattle.fk_audit.specs.Mark.{IsLeast, lesser, least_of}

-- the same fact in other words
pub least_same : (P Q : ℕ → Type 0) (o : Option ℕ) → ((w : ℕ) → P w → Q w) → ((w : ℕ) → Q w → P w) → IsLeast P o → IsLeast Q o
least_same P Q None there back none = λ w has. none w (back w has)
least_same P Q (Some least) there back is = (is.0, there least is.1, λ other less has. is.2 other less (back other has))

-- one of two facts
pub least_either : (P Q : ℕ → Type 0) (o other : Option ℕ) → IsLeast P o → IsLeast Q other → IsLeast (λ w. P w ⊎ Q w) (least_of o other)
least_either P Q o None p q =
    least_same P (λ w. P w ⊎ Q w) o (λ w has. inl has) (λ w has. elim has [ inl there ↦ there | inr there ↦ absurd (q w there) ]) p
least_either P Q None (Some y) p q =
    (q.0, inr q.1, λ w less has. elim has [ inl there ↦ p w there | inr there ↦ q.2 w less there ])
least_either P Q (Some x) (Some y) p q =
    let R : ℕ → Type 0 = λ n. (n < 2 ^ 20) × (P n ⊎ Q n) × ((w : ℕ) → w < n → ¬ (P w ⊎ Q w)) in
    elim (cases_lt y x) [
      | inl below ↦
          let e : min x y ≡ y = omega (arith, below) in
          subst R (sym e) (q.0, inr q.1, λ w less has. elim has [ inl there ↦ p.2 w (omega (arith, less, below)) there | inr there ↦ q.2 w less there ])
      | inr above ↦
          let e : min x y ≡ x = omega (arith, above) in
          subst R (sym e) (p.0, inl p.1, λ w less has. elim has [ inl there ↦ p.2 w less there | inr there ↦ q.2 w (omega (arith, less, above)) there ])
    ]

-- a fact that holds of one word more
pub least_more : (P Q : ℕ → Type 0) (x : ℕ) (o : Option ℕ) → x < 2 ^ 20 → Q x → ((w : ℕ) → P w → Q w) → ((w : ℕ) → Q w → P w ⊎ (w ≡ x)) → IsLeast P o → IsLeast Q (lesser o x)
least_more P Q x o within holds there back is =
    least_same (λ w. P w ⊎ (w ≡ x)) Q (lesser o x) (λ w has. elim has [ inl p ↦ there w p | inr e ↦ subst Q (sym e) holds ]) back
    (least_either P (λ w. w ≡ x) o (Some x) is (within, refl, λ w less e. absurd (omega (arith, less, e))))
