-- The map of addresses.
use Rattle.std.specs.Prelude.{ℕ, ◌+◌, ◌-◌, ◌*◌, ◌/◌, ◌^◌, ◌==◌, nat_lt, nat_le, ◌&&◌, if◌then◌else◌}
use Rattle.std.specs.Prelude.{Bool}
use Rattle.fk_machine.specs.declared.place.Device.TheVariants.{OutInt, OutChar, Fault, Halt, Cycle}
use Rattle.fk_machine.specs.declared.place.Device.TheVariants.{HartId, Harts, Inputs}
use Rattle.fk_machine.specs.declared.place.Location.{Location}
use Rattle.fk_machine.specs.declared.place.Location.TheVariants.{SharedWord, ControlWord, LocalWord}
use Rattle.fk_machine.specs.declared.place.Location.TheVariants.{DeviceWord, Nowhere}

-- Whether an address is in a memory of this many words from a start on.
abbrev pub is_in : ℕ → ℕ → ℕ → Bool
is_in a start words = nat_le start a && nat_lt a (start + 4 * words)

-- The devices, of one word each.
unfoldable pub device_at : ℕ → Location
device_at a =
    if a == 0x30000000 then DeviceWord OutInt
    else if a == 0x30000004 then DeviceWord OutChar
    else if a == 0x30000008 then DeviceWord Fault
    else if a == 0x3000000c then DeviceWord Halt
    else if a == 0x30000010 then DeviceWord Cycle
    else if a == 0x30000014 then DeviceWord HartId
    else if a == 0x30000018 then DeviceWord Harts
    else if a == 0x3000001c then DeviceWord Inputs
    else Nowhere

-- The word that has an address: one of the 2^20 words of shared data, of the 2^20 + 64 words of
-- shared control, or of the 32,768 words of the hart's own memory.
unfoldable pub place_of : ℕ → Location
place_of a =
    if is_in a 0x10000000 (2 ^ 20) then SharedWord ((a - 0x10000000) / 4)
    else if is_in a 0x18000000 (2 ^ 20 + 64) then ControlWord ((a - 0x18000000) / 4)
    else if is_in a 0x20000000 32768 then LocalWord ((a - 0x20000000) / 4)
    else device_at a
