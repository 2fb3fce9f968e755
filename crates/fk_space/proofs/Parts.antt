-- Where the parts of a split lie.
use Rattle.std.proofs.Common.{◌≡◌, ℕ, suc, ◌+◌, ◌-◌, ◌*◌, ◌/◌, ◌≤◌, ◌<◌, Some, IsSome, arith}
use Rattle.std.proofs.Math.Nat.{mul-div-le, mul-le-mul_right}
use Rattle.fk_space.specs.Space.{Space, free, equal_part, share}

-- the words kept back are free, and a share has at least 16
pub record IsRoomy (s : Space) (k : ℕ) : Type 0 where
  pub kept : 4 * k ≤ free s
  pub large : 16 ≤ equal_part s k

-- i + 1 of k equal parts of n words have at most n
pub parts-le : (n k i : ℕ) → i < k → i * (n / k) + n / k ≤ n
parts-le n k i h = let e : suc i * (n / k) ≤ k * (n / k) = mul-le-mul_right (n / k) h in omega (arith, e, mul-div-le n k)

pub roomy_of : (s : Space) (k : ℕ) → IsSome (share s k) → IsRoomy s k
roomy_of s k h = grind arith

pub equal_of : (s : Space) (k words : ℕ) → share s k ≡ Some words → equal_part s k ≡ words
equal_of s k words h = grind arith

pub part_ends : (s : Space) (k i : ℕ) → IsSome (share s k) → i < k → s.frames + 4 * k + (i * equal_part s k + equal_part s k) ≤ s.frames + free s
part_ends s k i some h = let r = roomy_of s k some in omega (arith, parts-le (free s - 4 * k) k i h)

pub ruleset parts = (roomy_of, part_ends)
