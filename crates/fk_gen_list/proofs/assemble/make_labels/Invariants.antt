use Rattle.std.proofs.Common.{◌≡◌, ◌≤◌, None}
use Rattle.std.specs.Prelude.{replicate}
use Rattle.fk_asm.specs.Assembly.{empty}
use Rattle.fk_gen_list.proofs.assemble.make_labels.Given as goal

abbrev pub invariant-loop : goal.invariant-loop
invariant-loop l = record {
  made : l.into ≡ record empty { bound = replicate l.counter None };
  within : l.counter ≤ l.count;
}
