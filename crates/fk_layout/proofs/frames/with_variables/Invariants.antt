-- The count so far and that of the rest are that of all.
use Rattle.std.proofs.Common.{◌≡◌, ◌≤◌, ◌+◌, ◌-◌, ◌^◌, min, false, map, drop, length}
use Rattle.fk_syntax.specs.ProgramView.{declared_of}
use Rattle.fk_layout_globals.specs.Variables.{kept}
use Rattle.fk_layout.proofs.frames.with_variables.Given as goal

abbrev pub invariant-loop-variable : goal.invariant-loop-variable
invariant-loop-variable l = record {
  counted : min (l.behind + length (kept false (map declared_of (drop l.variable-index l.variables)))) (2 ^ 64 - 1) ≡ min (l.count + length (kept false (map declared_of l.variables))) (2 ^ 64 - 1);
  small : l.behind ≤ 2 ^ 64 - 1;
}
