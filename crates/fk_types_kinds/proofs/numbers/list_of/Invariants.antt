use Rattle.std.proofs.Common.{◌≡◌, take}
use Rattle.fk_types_kinds.specs.Rows.{kinds_in}
use Rattle.fk_types_kinds.proofs.numbers.list_of.Given as goal

abbrev pub invariant-loop-row : goal.invariant-loop-row
invariant-loop-row l = l.kinds.items ≡ kinds_in (take l.row-index l.rows)
