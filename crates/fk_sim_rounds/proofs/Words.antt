-- The operators give words of words.
use Rattle.std.proofs.Common.{ℕ, ℤ, pos, negsuc, ◌-◌, ◌*◌, ◌/◌, ◌%◌, ◌^◌, ◌<◌, Bool, true, false, arith}
use Rattle.std.specs.Prelude.{◌==◌, if◌then◌else◌, nat_le, nat_lt, int_lt, int_le, ◌-ℤ◌, ◌*ℤ◌, int_div, int_rem, not}
use Rattle.std.specs.Int.{from_bool, int_shr}
use Rattle.std.proofs.lemmas.Nat.{and_le_l, or_lt, xor_lt}
use Rattle.std.proofs.Math.Nat.{div-le_self, mod-le}
use Rattle.fk_num.specs.Word.{word, signed}
use Rattle.fk_num.specs.Op.{residue, word_of, upper_word, distance, applied}
use Rattle.fk_num.specs.declared.operator.Op.{Op}
use Rattle.fk_num.specs.declared.operator.Op.TheVariants as f

-- what is so of both is so of either
pub if_either : {A : Type 0} (P : A → Type 0) (b : Bool) (x y : A) → P x → P y → P (if b then x else y)
if_either P true x y p q = p
if_either P false x y p q = q

abbrev pub IsWord : ℕ → Type 0
IsWord v = v < 2 ^ 32

pub word_is : (n : ℕ) → IsWord (word n)
word_is n = omega arith

word_of-is : (z : ℤ) → IsWord (word_of z)
word_of-is (pos a) = omega arith
word_of-is (negsuc a) = omega arith

residue-wide : (z : ℤ) → residue 64 z < 2 ^ 64
residue-wide (pos a) = omega arith
residue-wide (negsuc a) = omega arith

upper-is : (z : ℤ) → IsWord (upper_word z)
upper-is z = let r = residue-wide z in omega arith

from_bool-is : (b : Bool) → IsWord (from_bool b)
from_bool-is true = omega arith
from_bool-is false = omega arith

either : (b : Bool) (x y : ℕ) → IsWord x → IsWord y → IsWord (if b then x else y)
either b x y p q = if_either {A = ℕ} IsWord b x y p q

pub applied-is : (op : Op) (a b : ℕ) → IsWord a → IsWord b → IsWord (applied op a b)
applied-is f.Add a b p q = omega arith
applied-is f.Sub a b p q = word_of-is (pos a -ℤ pos b)
applied-is f.Mul a b p q = word_is (a * b)
applied-is f.MulHS a b p q = upper-is (signed a *ℤ signed b)
applied-is f.MulHSU a b p q = upper-is (signed a *ℤ pos b)
applied-is f.MulHU a b p q = upper-is (pos a *ℤ pos b)
applied-is f.DivS a b p q = either (b == 0) (2 ^ 32 - 1) (word_of (int_div (signed a) (signed b))) (omega arith) (word_of-is (int_div (signed a) (signed b)))
applied-is f.DivU a b p q = either (b == 0) (2 ^ 32 - 1) (a / b) (omega arith) (let le = div-le_self a b in omega arith)
applied-is f.RemS a b p q = either (b == 0) a (word_of (int_rem (signed a) (signed b))) p (word_of-is (int_rem (signed a) (signed b)))
applied-is f.RemU a b p q = either (b == 0) a (a % b) p (let le = mod-le a b in omega arith)
applied-is f.And a b p q = let le = and_le_l a b in omega arith
applied-is f.Or a b p q = or_lt 32 a b p q
applied-is f.Xor a b p q = xor_lt 32 a b p q
applied-is f.Shl a b p q = word_is (a * 2 ^ distance b)
applied-is f.ShrS a b p q = word_of-is (int_shr (signed a) (distance b))
applied-is f.ShrU a b p q = let le = div-le_self a (2 ^ distance b) in omega arith
applied-is f.LtS a b p q = from_bool-is (int_lt (signed a) (signed b))
applied-is f.LtU a b p q = from_bool-is (nat_lt a b)
applied-is f.LeS a b p q = from_bool-is (int_le (signed a) (signed b))
applied-is f.LeU a b p q = from_bool-is (nat_le a b)
applied-is f.Eq a b p q = from_bool-is (a == b)
applied-is f.Ne a b p q = from_bool-is (not (a == b))
applied-is f.MinS a b p q = either (int_le (signed a) (signed b)) a b p q
applied-is f.MaxS a b p q = either (int_le (signed a) (signed b)) b a q p
applied-is f.MinU a b p q = omega arith
applied-is f.MaxU a b p q = omega arith
