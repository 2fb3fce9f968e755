-- What the addresses of words name.
use Rattle.std.proofs.Common.{◌≡◌, ℕ, ◌+◌, ◌-◌, ◌*◌, ◌/◌, ◌^◌, ◌<◌, ◌≤◌, true, false, refl, ap, ◌∙◌, arith}
use Rattle.std.proofs.lemmas.Bool.Decides.{nat_tests}
use Rattle.fk_machine.specs.declared.place.Device.TheVariants.{OutInt, Fault, Halt}
use Rattle.fk_machine.specs.declared.place.Location.TheVariants.{SharedWord, ControlWord, LocalWord, DeviceWord}
use Rattle.fk_machine.specs.Place.{is_in, place_of, device_at}

shared_at : (a : ℕ) → is_in a 0x10000000 (2 ^ 20) ≡ true → place_of a ≡ SharedWord ((a - 0x10000000) / 4)
unfolding place_of
shared_at a e = rw e

control_at : (a : ℕ) → is_in a 0x10000000 (2 ^ 20) ≡ false → is_in a 0x18000000 (2 ^ 20 + 64) ≡ true
    → place_of a ≡ ControlWord ((a - 0x18000000) / 4)
unfolding place_of
control_at a e f = rw (e, f)

local_at : (a : ℕ) → is_in a 0x10000000 (2 ^ 20) ≡ false → is_in a 0x18000000 (2 ^ 20 + 64) ≡ false → is_in a 0x20000000 32768 ≡ true
    → place_of a ≡ LocalWord ((a - 0x20000000) / 4)
unfolding place_of
local_at a e f g = rw (e, f, g)

within : (a start words : ℕ) → start ≤ a → a < start + 4 * words → is_in a start words ≡ true
within a start words p q = grind (arith, nat_tests)

above : (a start words : ℕ) → start + 4 * words ≤ a → is_in a start words ≡ false
above a start words p = grind (arith, nat_tests)

-- word i of shared data
pub place_of-shared : (a i : ℕ) → i < 2 ^ 20 → a ≡ 0x10000000 + 4 * i → place_of a ≡ SharedWord i
place_of-shared a i lt e =
    let same : (a - 0x10000000) / 4 ≡ i = omega arith in
    shared_at a (within a 0x10000000 (2 ^ 20) (omega arith) (omega arith)) ∙ ap SharedWord same

-- word i of shared control
pub place_of-control : (a i : ℕ) → i < 2 ^ 20 + 64 → a ≡ 0x18000000 + 4 * i → place_of a ≡ ControlWord i
place_of-control a i lt e =
    let same : (a - 0x18000000) / 4 ≡ i = omega arith in
    control_at a (above a 0x10000000 (2 ^ 20) (omega arith)) (within a 0x18000000 (2 ^ 20 + 64) (omega arith) (omega arith)) ∙ ap ControlWord same

-- word i of the hart's own memory
pub place_of-local : (a i : ℕ) → i < 32768 → a ≡ 0x20000000 + 4 * i → place_of a ≡ LocalWord i
place_of-local a i lt e =
    let same : (a - 0x20000000) / 4 ≡ i = omega arith in
    local_at a (above a 0x10000000 (2 ^ 20) (omega arith)) (above a 0x18000000 (2 ^ 20 + 64) (omega arith)) (within a 0x20000000 32768 (omega arith) (omega arith))
    ∙ ap LocalWord same

pub place_of-out_int : place_of 0x30000000 ≡ DeviceWord OutInt
unfolding place_of device_at
place_of-out_int = refl

pub place_of-fault : place_of 0x30000008 ≡ DeviceWord Fault
unfolding place_of device_at
place_of-fault = refl

pub place_of-halt : place_of 0x3000000c ≡ DeviceWord Halt
unfolding place_of device_at
place_of-halt = refl
