use Rattle.std.proofs.Common.{◌≡◌, ℕ, ◌<◌, ◌++◌, false, map, take, drop, get_or, None}
use Rattle.fk_isa.specs.Atomic.{unless}
use Rattle.fk_machine.proofs.shared.clear_all.Given as goal

abbrev pub invariant-loop-reservation : goal.invariant-loop-reservation
invariant-loop-reservation l = record {
  cleared : l.reserved ≡ map (unless l.word) (take l.reservation-index l.initial.reserved) ++ drop l.reservation-index l.initial.reserved;
  none : l.left ≡ false → (k : ℕ) → k < l.reservation-index → get_or l.reserved k None ≡ None;
}
