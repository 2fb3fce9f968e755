-- How many go into the group of `start`, and where its blocks end, as its lines compute it.
use Rattle.std.proofs.Common.{◌≡◌, ℕ, ◌+◌, ◌-◌, ◌*◌, ◌/◌, ◌^◌, ◌<◌, ◌≤◌, true, false, sym, ap, ◌∙◌, arith, ◌⊎◌, inl, inr}
use Rattle.std.specs.Prelude.{nat_lt, min, if◌then◌else◌}
use Rattle.std.specs.Int.{from_bool}
use Rattle.std.proofs.lemmas.Bool.{cases_lt, lt-ltb, le-ltb}
use Rattle.std.proofs.Math.Nat.{min-eq_left, min-eq_right}
use Rattle.fk_num.specs.Word.{word, word_sum}
use Rattle.fk_num.specs.Op.{applied}
use Rattle.fk_num.specs.declared.operator.Op.TheVariants.{Add, Shl, ShrU}
use Rattle.fk_meaning.specs.Group.{not_negative}
use Rattle.fk_sim_block.specs.Node.{control_address}

-- 0 for a negative word
abbrev pub positive : (v : ℕ) → ℕ
positive v = word (v * from_bool (nat_lt (v / 2 ^ 31) 1))

pub positive_is : (v : ℕ) → positive v ≡ not_negative v
positive_is v = by (cases_lt v (2 ^ 31))
  where
    by : (v < 2 ^ 31) ⊎ (2 ^ 31 ≤ v) → positive v ≡ not_negative v
    by (inl lt) =
        let small : nat_lt (v / 2 ^ 31) 1 ≡ true = lt-ltb (v / 2 ^ 31) 1 (omega arith) in
        let e : word (v * 1) ≡ v = omega arith in
        ap (λ b. word (v * from_bool b)) small ∙ e ∙ sym (ap (λ b. if b then v else 0) (lt-ltb v (2 ^ 31) lt))
    by (inr le) =
        let big : nat_lt (v / 2 ^ 31) 1 ≡ false = le-ltb (v / 2 ^ 31) 1 (omega arith) in
        let e : word (v * 0) ≡ 0 = omega arith in
        ap (λ b. word (v * from_bool b)) big ∙ e ∙ sym (ap (λ b. if b then v else 0) (le-ltb v (2 ^ 31) le))

-- the lesser one of two
abbrev pub lesser : (c size : ℕ) → ℕ
lesser c size =
    word_sum (word (c * from_bool (nat_lt c size))) (word (size * from_bool (nat_lt (from_bool (nat_lt c size)) 1)))

lesser_is : (c size : ℕ) → size ≤ 1024 → lesser c size ≡ min c size
lesser_is c size few = by (cases_lt c size)
  where
    by : (c < size) ⊎ (size ≤ c) → lesser c size ≡ min c size
    by (inl lt) =
        let e : word_sum (word (c * 1)) (word (size * 0)) ≡ c = omega arith in
        ap (λ b. word_sum (word (c * from_bool b)) (word (size * from_bool (nat_lt (from_bool b) 1)))) (lt-ltb c size lt) ∙ e
        ∙ sym (min-eq_left {n = c} {m = size} (omega arith))
    by (inr le) =
        let e : word_sum (word (c * 0)) (word (size * 1)) ≡ size = omega arith in
        ap (λ b. word_sum (word (c * from_bool b)) (word (size * from_bool (nat_lt (from_bool b) 1)))) (le-ltb c size le) ∙ e
        ∙ sym (min-eq_right {n = size} {m = c} le)

abbrev pub sized : (v size : ℕ) → ℕ
sized v size = lesser (positive v) size

pub sized_is : (v size : ℕ) → size ≤ 1024 → sized v size ≡ min (not_negative v) size
sized_is v size few = lesser_is (positive v) size few ∙ ap (λ c. min c size) (positive_is v)

-- who is below it
pub below_lesser : (n c size : ℕ) → n < size → nat_lt n (min c size) ≡ nat_lt n c
below_lesser n c size lt = by (cases_lt c size)
  where
    by : (c < size) ⊎ (size ≤ c) → nat_lt n (min c size) ≡ nat_lt n c
    by (inl less) = ap (nat_lt n) (min-eq_left {n = c} {m = size} (omega arith))
    by (inr le) = ap (nat_lt n) (min-eq_right {n = size} {m = c} le) ∙ lt-ltb n size lt ∙ sym (lt-ltb n c (omega arith))

-- the address of the control word halfway from the one with this address to those of the root
abbrev pub halfway : (address : ℕ) → ℕ
halfway a = applied Shl (applied ShrU (applied Add (0x18400 * 4096) a) 3) 2

pub halfway_is : (low : ℕ) → low ≤ 2 ^ 20 → halfway (control_address low) ≡ control_address (low + (2 ^ 20 - low) / 2)
halfway_is low le = omega arith
