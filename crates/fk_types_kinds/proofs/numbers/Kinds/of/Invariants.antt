-- The kinds of the tokens so far were met.
use Rattle.std.proofs.Common.{◌≤◌, length, take}
use Rattle.fk_types_structs.specs.Whole.{structs_in}
use Rattle.fk_types_kinds.specs.Rows.{kinds_in}
use Rattle.fk_types_kinds.specs.Met.{AreMet}
use Rattle.fk_types_kinds.proofs.numbers.Kinds.of.Given as goal

abbrev pub invariant-loop-kind : goal.invariant-loop-kind
invariant-loop-kind l = record {
  met : AreMet (structs_in l.structs) (take l.kind-index l.types) (kinds_in l.met.keys) l.numbers.items;
  few : length l.met.keys ≤ l.kind-index;
}
