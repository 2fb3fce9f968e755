-- An address with the mask of a region is the address of the region exactly where it is that of one of its words.
use Rattle.std.proofs.Common.{◌≡◌, ℕ, ◌+◌, ◌*◌, ◌/◌, ◌%◌, ◌^◌, ◌<◌, Bool, true, false, refl, ap, sym, ◌∙◌, arith, inl, inr}
use Rattle.std.specs.Prelude.{◌==◌, bit_and}
use Rattle.std.proofs.lemmas.Nat.{and_block, and_mask}
use Rattle.std.proofs.lemmas.Bool.{eq-eqb, eqb-true, false_from_ne_true}
use Rattle.fk_meaning_store.specs.Serve.{may_use}
use Rattle.fk_gen_access.proofs.Addresses.{IsShared, IsPrivate, used, may_shared, may_private}

abbrev pub shared_bits : ℕ → ℕ
shared_bits a = bit_and a 0xffc00003

abbrev pub heap_bits : ℕ → ℕ
heap_bits a = bit_and a 0xffff0003

shared_parts : (a : ℕ) → shared_bits a ≡ a / 2 ^ 22 % 2 ^ 10 * 2 ^ 22 + a % 2 ^ 22 % 2 ^ 2
shared_parts a =
    let e : a ≡ a / 2 ^ 22 * 2 ^ 22 + a % 2 ^ 22 = omega arith in
    ap (λ x. bit_and x 0xffc00003) e ∙ and_block 22 (a / 2 ^ 22) 1023 (a % 2 ^ 22) 3 (omega arith) (omega arith)
    ∙ ap (λ x. x * 2 ^ 22 + bit_and (a % 2 ^ 22) 3) (and_mask (a / 2 ^ 22) 10)
    ∙ ap (λ x. a / 2 ^ 22 % 2 ^ 10 * 2 ^ 22 + x) (and_mask (a % 2 ^ 22) 2)

heap_parts : (a : ℕ) → heap_bits a ≡ a / 2 ^ 16 % 2 ^ 16 * 2 ^ 16 + a % 2 ^ 16 % 2 ^ 2
heap_parts a =
    let e : a ≡ a / 2 ^ 16 * 2 ^ 16 + a % 2 ^ 16 = omega arith in
    ap (λ x. bit_and x 0xffff0003) e ∙ and_block 16 (a / 2 ^ 16) 65535 (a % 2 ^ 16) 3 (omega arith) (omega arith)
    ∙ ap (λ x. x * 2 ^ 16 + bit_and (a % 2 ^ 16) 3) (and_mask (a / 2 ^ 16) 16)
    ∙ ap (λ x. a / 2 ^ 16 % 2 ^ 16 * 2 ^ 16 + x) (and_mask (a % 2 ^ 16) 2)

of_shared : (a : ℕ) → a < 2 ^ 32 → IsShared a → shared_bits a ≡ 0x10000000
of_shared a lt s = let e = s.aligned in let f = s.from in let g = s.below in shared_parts a ∙ omega arith

is_shared : (a : ℕ) → a < 2 ^ 32 → shared_bits a ≡ 0x10000000 → IsShared a
is_shared a lt e = let f = sym (shared_parts a) ∙ e in record { aligned = omega arith; from = omega arith; below = omega arith }

of_private : (a : ℕ) → a < 2 ^ 32 → IsPrivate a → heap_bits a ≡ 0x20010000
of_private a lt s = let e = s.aligned in let f = s.from in let g = s.below in heap_parts a ∙ omega arith

is_private : (a : ℕ) → a < 2 ^ 32 → heap_bits a ≡ 0x20010000 → IsPrivate a
is_private a lt e = let f = sym (heap_parts a) ∙ e in record { aligned = omega arith; from = omega arith; below = omega arith }

never : true ≡ false → ⊥
never e = cc

-- what a check finds
pub data Checks (alone : Bool) (a : ℕ) : Type 0 where
  InShared : may_use alone a ≡ true → (shared_bits a == 0x10000000) ≡ true → Checks alone a
  InHeap : alone ≡ false → may_use alone a ≡ true → (shared_bits a == 0x10000000) ≡ false → (heap_bits a == 0x20010000) ≡ true → Checks alone a
  Nowhere : may_use alone a ≡ false → (shared_bits a == 0x10000000) ≡ false → (alone ≡ false → (heap_bits a == 0x20010000) ≡ false) → Checks alone a

nowhere : (alone : Bool) (a : ℕ) → a < 2 ^ 32 → (shared_bits a == 0x10000000) ≡ false → (alone ≡ false → (heap_bits a == 0x20010000) ≡ false) → may_use alone a ≡ false
nowhere alone a lt e f =
    false_from_ne_true (may_use alone a) (λ m. elim (used alone a m) [
      | inl s ↦ never (sym (eq-eqb (shared_bits a) 0x10000000 (of_shared a lt s)) ∙ e)
      | inr p ↦ never (sym (eq-eqb (heap_bits a) 0x20010000 (of_private a lt p.1)) ∙ f p.0)
    ])

by_heap : (a : ℕ) → a < 2 ^ 32 → (shared_bits a == 0x10000000) ≡ false → (b : Bool) → (heap_bits a == 0x20010000) ≡ b → Checks false a
by_heap a lt e true f = InHeap refl (may_private a (is_private a lt (eqb-true (heap_bits a) 0x20010000 f))) e f
by_heap a lt e false f = Nowhere (nowhere false a lt e (λ g. f)) e (λ g. f)

by_shared : (alone : Bool) (a : ℕ) → a < 2 ^ 32 → (b : Bool) → (shared_bits a == 0x10000000) ≡ b → Checks alone a
by_shared alone a lt true e = InShared (may_shared alone a (is_shared a lt (eqb-true (shared_bits a) 0x10000000 e))) e
by_shared true a lt false e = Nowhere (nowhere true a lt e (λ g. absurd (never g))) e (λ g. absurd (never g))
by_shared false a lt false e = by_heap a lt e (heap_bits a == 0x20010000) refl

pub checks : (alone : Bool) (a : ℕ) → a < 2 ^ 32 → Checks alone a
checks alone a lt = by_shared alone a lt (shared_bits a == 0x10000000) refl
