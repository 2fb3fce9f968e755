use Rattle.std.proofs.Common.{count_by, is_none}
use Rattle.fk_types_structs.specs.Table.{types_of, AreFound}
use Rattle.fk_types_structs.proofs.words.settle_all.Given as goal

abbrev pub invariant-loop : goal.invariant-loop
invariant-loop l = AreFound (types_of l.structs) l.sizes

-- each further pass finds the words of one struct at least
abbrev pub decreases-loop : goal.decreases-loop
decreases-loop l = count_by is_none l.sizes
