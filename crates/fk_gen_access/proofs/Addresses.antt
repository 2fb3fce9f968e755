-- Addresses that may be used, as the machine knows them.
use Rattle.std.proofs.Common.{◌≡◌, ℕ, ◌+◌, ◌*◌, ◌%◌, ◌^◌, ◌<◌, ◌≤◌, Bool, true, false, refl, arith, ◌⊎◌, inl, inr}
use Rattle.std.specs.Prelude.{not, ◌&&◌}
use Rattle.std.proofs.lemmas.Bool.{and_parts, and_from, or_cases, or_left, or_right, eqb-true, eq-eqb, leb-true, ltb-true, le-leb, lt-ltb, false_from_ne_true}
use Rattle.fk_machine.specs.declared.place.Location.TheVariants.{SharedWord, LocalWord}
use Rattle.fk_machine.specs.Place.{place_of}
use Rattle.fk_machine.proofs.Places.{place_of-shared, place_of-local}
use Rattle.fk_meaning_store.specs.Serve.{is_in, is_shared, is_private, may_use, shared_index, private_index}

-- a word of shared data
pub record IsShared (a : ℕ) : Type 0 where
  pub aligned : a % 4 ≡ 0
  pub from : 0x10000000 ≤ a
  pub below : a < 0x10400000

-- one of the private heap
pub record IsPrivate (a : ℕ) : Type 0 where
  pub aligned : a % 4 ≡ 0
  pub from : 0x20010000 ≤ a
  pub below : a < 0x20020000

in_parts : (a start words : ℕ) → is_in a start words ≡ true → (start ≤ a) × (a < start + 4 * words)
in_parts a start words e = let b = and_parts _ _ e in (leb-true start a b.0, ltb-true a (start + 4 * words) b.1)

in_from : (a start words : ℕ) → start ≤ a → a < start + 4 * words → is_in a start words ≡ true
in_from a start words p q = and_from _ _ (le-leb start a p) (lt-ltb a (start + 4 * words) q)

shared_parts : (a : ℕ) → a % 4 ≡ 0 → is_shared a ≡ true → IsShared a
shared_parts a e f =
    let b = in_parts a 0x10000000 (2 ^ 20) f in
    record { aligned = e; from = b.0; below = omega (arith, b.1) }

private_parts : (a : ℕ) → a % 4 ≡ 0 → is_private a ≡ true → IsPrivate a
private_parts a e f =
    let b = in_parts a 0x20010000 16384 f in
    record { aligned = e; from = b.0; below = omega (arith, b.1) }

pub shared_is : (a : ℕ) → IsShared a → is_shared a ≡ true
shared_is a s = in_from a 0x10000000 (2 ^ 20) s.from (let b = s.below in omega arith)

pub private_is : (a : ℕ) → IsPrivate a → is_private a ≡ true
private_is a s = in_from a 0x20010000 16384 s.from (let b = s.below in omega arith)

pub not_shared : (a : ℕ) → IsPrivate a → is_shared a ≡ false
not_shared a s =
    false_from_ne_true (is_shared a) (λ e. let b = (in_parts a 0x10000000 (2 ^ 20) e).1 in let f = s.from in absurd (omega arith))

-- which may be used
by_alone : (alone : Bool) (a : ℕ) → a % 4 ≡ 0 → (not alone && is_private a) ≡ true → (alone ≡ false) × IsPrivate a
by_alone true a e f = absurd (cc)
by_alone false a e f = (refl, private_parts a e f)

pub used : (alone : Bool) (a : ℕ) → may_use alone a ≡ true → IsShared a ⊎ ((alone ≡ false) × IsPrivate a)
used alone a e =
    let b = and_parts _ _ e in
    let aligned = eqb-true (a % 4) 0 b.0 in
    elim (or_cases _ _ b.1) [
      | inl s ↦ inl (shared_parts a aligned s)
      | inr p ↦ inr (by_alone alone a aligned p)
    ]

pub may_shared : (alone : Bool) (a : ℕ) → IsShared a → may_use alone a ≡ true
may_shared alone a s = and_from _ _ (eq-eqb (a % 4) 0 s.aligned) (or_left _ _ (shared_is a s))

pub may_private : (a : ℕ) → IsPrivate a → may_use false a ≡ true
may_private a s = and_from _ _ (eq-eqb (a % 4) 0 s.aligned) (or_right _ _ (private_is a s))

-- their places on the machine
pub shared_place : (a : ℕ) → IsShared a → place_of a ≡ SharedWord (shared_index a)
shared_place a s =
    let e = s.aligned in
    let f = s.from in
    let g = s.below in
    place_of-shared a (shared_index a) (omega arith) (omega arith)

pub private_place : (a : ℕ) → IsPrivate a → place_of a ≡ LocalWord (16384 + private_index a)
private_place a s =
    let e = s.aligned in
    let f = s.from in
    let g = s.below in
    place_of-local a (16384 + private_index a) (omega arith) (omega arith)

pub private_few : (a : ℕ) → IsPrivate a → private_index a < 16384
private_few a s = let f = s.from in let g = s.below in omega arith
