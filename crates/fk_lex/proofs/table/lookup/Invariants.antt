use Rattle.std.proofs.Common.{◌≡◌, drop, map}
use Rattle.fk_lex.specs.Kinds
use Rattle.fk_lex.specs.View.{entry_of}
use Rattle.fk_lex.proofs.table.lookup.Given as goal

abbrev pub invariant-loop-spelling : goal.invariant-loop-spelling
invariant-loop-spelling l = Kinds.lookup (map entry_of l.table) l.bytes ≡ Kinds.lookup (map entry_of (drop l.spelling-index l.table)) l.bytes
