use Rattle.std.proofs.Common.{arith, sym, subst, ◌∙◌}
use Rattle.fk_syntax.specs.ProgramView.{statement_of}
use Rattle.fk_parse_combinators.proofs.Behind.{gives_fault}
use Rattle.fk_parse_combinators.proofs.Repeats.{going_end, items_more}
use Rattle.fk_parse_combinators.proofs.Halting.{halts_going}
use Rattle.fk_parse_combinators.specs.Gives.{Gives}
use Rattle.fk_parse_statements.proofs.Headers.{nested_reads}
use Rattle.fk_parse_headers.specs.Headers.{headed, read_header}
use Rattle.fk_parse_statements.specs.Parts.{read_nested}
use Rattle.fk_parse_statements.proofs.Completing.{both_give, both_shorten, boxed_give, boxed_shorten}
use Rattle.fk_parse_statements.proofs.Blocks.{block_reads, block_stops, block_open}
use Rattle.fk_parse_statements.proofs.statement.+statement.Goals as goal

pub block-returns-in_err-nested-clause-read : goal.block-returns-in_err-nested-clause-read
block-returns-in_err-nested-clause-read t c =
    gives_fault _ _ _ _ _ c.from_residual-in_err-nested.ensures.1
    (block_stops c.args.left _ _ _ _ c.nested.new.cursor c.in_ok-expect.ensures.read
    (halts_going _ _ _ _ _ _ _ (sym c.statement_is_next.ensures ∙ c.loop-alloc-test.true) c.in_err-nested.ensures.read c.loop-alloc.invariant))

pub block-loop-alloc-preserved : goal.block-loop-alloc-preserved
block-loop-alloc-preserved t c =
    items_more _ _ _ _ _ statement_of _ _ c.in_ok-nested.field-0 (sym c.statement_is_next.ensures ∙ c.loop-alloc-test.true) c.in_ok-nested.ensures.read
    (omega (arith, c.in_ok-nested.ensures.shorter)) c.in_ok-put.ensures.items c.loop-alloc.invariant

pub block-returns-in_err-expect-2-clause-read : goal.block-returns-in_err-expect-2-clause-read
block-returns-in_err-expect-2-clause-read t c =
    gives_fault _ _ _ _ _ c.from_residual-in_err-expect-2.ensures.1
    (block_open c.args.left _ _ _ _ _ _ c.expect-2.new.self c.in_ok-expect.ensures.read
    (going_end _ _ _ _ _ (sym c.statement_is_next.ensures ∙ c.loop-alloc-test.false) c.loop-alloc.invariant) c.in_err-expect-2.ensures.read)

pub block-returns-clause-read : goal.block-returns-clause-read
block-returns-clause-read t c =
    block_reads c.args.left _ _ _ _ _ _ _ c.in_ok-expect.ensures.read
    (going_end _ _ _ _ _ (sym c.statement_is_next.ensures ∙ c.loop-alloc-test.false) c.loop-alloc.invariant) c.in_ok-expect-2.ensures.read

pub nested-returns-clause-read : goal.nested-returns-clause-read
nested-returns-clause-read t c =
    subst (λ a. Gives statement_of c.statement.result c.statement.new.cursor a)
    (sym (nested_reads c.args.left c.in_ok-inside.inside c.args.cursor.now c.in_ok-inside.ensures.read.0 c.in_ok-inside.ensures.less))
    c.statement.ensures.read

pub headed-returns-clause-read : goal.headed-returns-clause-read
headed-returns-clause-read t c =
    c.completed.ensures.read _ _
    (both_give (λ (header, body). headed header body) (read_header c.args.left) (read_nested c.args.left) _ _ _ _ _ _ c.in_ok-header.ensures.read c.boxed-body.ensures.read)

pub headed-returns-clause-shorter : goal.headed-returns-clause-shorter
headed-returns-clause-shorter t c =
    both_shorten _ _ _ _ _ c.in_ok-header.ensures.shorter c.boxed-body.ensures.shorter c.completed.ensures.both

pub boxed-returns-clause-read : goal.boxed-returns-clause-read
boxed-returns-clause-read t c =
    boxed_give statement_of c.nested.result _ _ _ c.in_box.ensures.value c.in_box.ensures.fault c.nested.ensures.read

pub boxed-returns-clause-shorter : goal.boxed-returns-clause-shorter
boxed-returns-clause-shorter t c = boxed_shorten c.nested.result _ _ _ c.in_box.ensures.value c.nested.ensures.shorter
