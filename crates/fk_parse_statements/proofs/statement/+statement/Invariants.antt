use Rattle.std.proofs.Common.{◌+◌, ◌*◌, map, length}
use Rattle.fk_syntax.specs.ProgramView.{statement_of}
use Rattle.fk_parse_combinators.proofs.Repeats.{Going}
use Rattle.fk_parse_statements.specs.Reading.{begins_statement}
use Rattle.fk_parse_statements.specs.Parts.{read_nested}
use Rattle.fk_parse_statements.proofs.statement.+statement.Given as goal

abbrev pub decreases-statement : goal.decreases-statement
decreases-statement l = 8 * l.left + 5

abbrev pub decreases-block : goal.decreases-block
decreases-block l = 8 * l.left + 2

abbrev pub decreases-if_else : goal.decreases-if_else
decreases-if_else l = 8 * l.left + 4

abbrev pub decreases-branches : goal.decreases-branches
decreases-branches l = 8 * l.left + 3

abbrev pub decreases-do_while : goal.decreases-do_while
decreases-do_while l = 8 * l.left + 2

abbrev pub decreases-headed : goal.decreases-headed
decreases-headed l = 8 * l.left + 2

abbrev pub decreases-otherwise : goal.decreases-otherwise
decreases-otherwise l = 8 * l.left + 2

abbrev pub decreases-boxed : goal.decreases-boxed
decreases-boxed l = 8 * l.left + 1

abbrev pub decreases-nested : goal.decreases-nested
decreases-nested l = 8 * l.left

abbrev pub invariant-block-loop-alloc : goal.invariant-block-loop-alloc
invariant-block-loop-alloc l =
    Going begins_statement (read_nested l.left) l.initial.cursor (map statement_of l.statements.items) l.cursor

abbrev pub decreases-block-loop-alloc : goal.decreases-block-loop-alloc
decreases-block-loop-alloc l = length l.cursor
