-- Places that are in the machine.
use Rattle.std.specs.Prelude.{◌<◌, ◌^◌, ◌+◌}
use Rattle.fk_machine.specs.declared.place.Location.{Location}
use Rattle.fk_machine.specs.declared.place.Location.TheVariants.{SharedWord, ControlWord, LocalWord}
use Rattle.fk_machine.specs.declared.place.Location.TheVariants.{DeviceWord, Nowhere}

-- A word of a memory is within that memory.
abbrev pub IsInMachine : Location → Type 0
IsInMachine (SharedWord i) = i < 2 ^ 20
IsInMachine (ControlWord i) = i < 2 ^ 20 + 64
IsInMachine (LocalWord i) = i < 32768
IsInMachine (DeviceWord device) = Unit {0}
IsInMachine Nowhere = Unit {0}
