-- A text that is read word by word.
use Rattle.std.proofs.Common.{◌≡◌, ℕ, ◌+◌, ◌≤◌, List, [], ◌++◌, Result, length, map, arith}
use Rattle.fk_top_input.specs.Input.{words, number_of, faults_from, input_of, unless_fault}
use Rattle.fk_top_input.specs.declared.fault.InputFault.{InputFault}

-- what the rest of a text makes of its input, where these numbers were read of it and the last of them had this place
abbrev pub input_after : ℕ → List ℕ → ℕ → List (List ℕ) → Result (List ℕ) InputFault
input_after limit numbers place rest = unless_fault (numbers ++ map number_of rest) (faults_from limit (place + 1) rest)

-- these numbers were read of the text, none of them at fault, and this is the rest
pub record IsReadUpTo (limit : ℕ) (text rest numbers : List ℕ) (place : ℕ) : Type 0 where
  pub input : input_of limit text ≡ input_after limit numbers place (words rest)
  pub short : place + length rest ≤ 1048576

pub begins : (limit : ℕ) (text : List ℕ) → length text ≤ 1048576 → IsReadUpTo limit text text [] 0
begins limit text short = record { input = grind arith; short = omega arith }
