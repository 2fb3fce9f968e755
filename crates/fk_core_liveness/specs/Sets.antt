-- Sets of numbers below 64, each by its mask.
use Rattle.std.specs.Prelude.{ℕ, ◌/◌, ◌%◌, ◌^◌, ◌==◌, nat_lt, Bool, ◌&&◌}

abbrev pub is_in : (mask number : ℕ) → Bool
is_in mask number = nat_lt number 64 && (mask / 2 ^ number % 2 == 1)
