use Rattle.std.proofs.Common.{◌≡◌, ◌≤◌, ◌<◌, ◌^◌, map, take, vec_len}
use Rattle.std.specs.Prelude.{All, vec_capacity}
use Rattle.fk_machine.specs.Step.{state_of}
use Rattle.fk_machine.specs.View.{machine_of}
use Rattle.fk_audit.specs.Mark.{next_touches}
use Rattle.fk_audit.proofs.touch.collect.Given as goal

abbrev pub invariant-loop-number : goal.invariant-loop-number
invariant-loop-number l = record {
  collected : l.touches.items ≡ next_touches (machine_of l.machine).code 0 (take l.number (map state_of (machine_of l.machine).harts));
  within : All (λ t. t.word < 2 ^ 20) l.touches.items;
  few : vec_len l.touches ≤ l.number;
  room : vec_capacity l.initial.touches ≤ vec_capacity l.touches;
}
