-- How much of the input a call takes at most.
use Rattle.std.proofs.Common.{◌≡◌, ℕ, ◌≤◌, List, [], Option, Some, None, Result, Ok, Err, refl, arith}
use Rattle.std.specs.Prelude.{OnErr}
use Rattle.std.specs.Io.KnownBytes.{prepend_known}
use Rattle.fk_ports.specs.Known.{GivesAtMost, MovesFirst}
use Rattle.fk_top_words.specs.Command.{Command, Run, Build, Exec, ListCode, Elf, Unelf, Audit, Trace, Replay, Selftest, Locks}
use Rattle.fk_top.specs.Words.{most_input}

pub none_lost : (most : ℕ) (left : Option (List ℕ)) → GivesAtMost most left left
none_lost most left = record { given = []; few = omega arith; left = by left }
  where
    by : (known : Option (List ℕ)) → known ≡ prepend_known [] known
    by None = refl
    by (Some bytes) = refl

pub no_more : (most more : ℕ) (before now : Option (List ℕ)) → most ≤ more → GivesAtMost most before now → GivesAtMost more before now
no_more most more before now le gives = let few = gives.few in record { given = gives.given; few = omega arith; left = gives.left }

pub moved : (most : ℕ) (before now : Option (List ℕ)) (old new : List ℕ) → MovesFirst most before now old new → GivesAtMost most before now
moved most before now old new moves = record { given = moves.bytes; few = moves.few; left = moves.left }

pub few_input : (command : Command) → most_input command ≤ 1048577
few_input (Run file harts cycles show) = omega arith
few_input (Build file image) = omega arith
few_input (Exec image harts cycles) = omega arith
few_input (ListCode image) = omega arith
few_input (Elf image file) = omega arith
few_input (Unelf file image) = omega arith
few_input (Audit file harts cycles) = omega arith
few_input (Trace file harts cycles) = omega arith
few_input (Replay file trace) = omega arith
few_input (Selftest statements) = omega arith
few_input Locks = omega arith

-- of an ending that is refused for want of memory, or isn't
pub lost_or_not : {A E : Type 0} (r : Result A E) (most : ℕ) (before now : Option (List ℕ)) → GivesAtMost most before now → OnErr r (GivesAtMost most before now)
lost_or_not (Ok a) most before now gives = tt
lost_or_not (Err e) most before now gives = gives
