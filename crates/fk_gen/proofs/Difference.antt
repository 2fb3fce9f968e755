-- The difference of two words.
use Rattle.std.proofs.Common.{◌≡◌, ℕ, ◌+◌, ◌-◌, ◌*◌, ◌%◌, ◌^◌, ◌≤◌, pos, refl, ap, arith}
use Rattle.std.specs.Prelude.{◌-ℤ◌, ◌+ℤ◌, unsigned_abs}
use Rattle.std.proofs.lemmas.Int.{ints, int_rem_euclid_is}
use Rattle.fk_num.specs.Op.{applied}
use Rattle.fk_num.specs.declared.operator.Op.TheVariants.{Sub}

pub difference : (a b : ℕ) → b ≤ 2 ^ 32 → applied Sub a b ≡ (a + (2 ^ 32 - b)) % 2 ^ 32
difference a b le =
    let e : (pos a -ℤ pos b) +ℤ pos (1 * 2 ^ 32) ≡ pos (a + (2 ^ 32 - b)) = omega (arith, ints) in
    ap unsigned_abs (int_rem_euclid_is (pos a -ℤ pos b) (pos (2 ^ 32)) (2 ^ 32) 1 (a + (2 ^ 32 - b)) (omega arith) refl e)
