-- The lines that were made are those of the block.
use Rattle.std.proofs.Common.{◌≡◌, OnOk, OnErr, [], ◌∷◌, map, ap, subst, ◌∙◌}
use Rattle.fk_asm.specs.Block.{HasBegun, with_block}
use Rattle.fk_gen.specs.Lines.{marked}
use Rattle.fk_gen_access.specs.Blocks.{lines, take_block}
use Rattle.fk_gen_access.proofs.Made.{line_of, last_of, made, all_same}
use Rattle.fk_gen_access.proofs.blocks.take.Goals as goal

same_lines : (c : goal.After-emit_lines) → map marked (c.commits.result ∷ c.quiet.result ∷ c.quiet-2.result ∷ c.quiet-3.result ∷ c.quiet-4.result ∷ c.quiet-5.result ∷ c.quiet-6.result
    ∷ c.quiet-7.result ∷ c.quiet-8.result ∷ c.quiet-9.result ∷ c.quiet-10.result ∷ c.quiet-11.result ∷ c.quiet-12.result ∷ c.quiet-13.result ∷ c.quiet-14.result ∷ [])
    ≡ lines (take_block c.args.depth)
same_lines c = all_same (c.commits.result ∷ c.quiet.result ∷ c.quiet-2.result ∷ c.quiet-3.result ∷ c.quiet-4.result ∷ c.quiet-5.result ∷ c.quiet-6.result
    ∷ c.quiet-7.result ∷ c.quiet-8.result ∷ c.quiet-9.result ∷ c.quiet-10.result ∷ c.quiet-11.result ∷ c.quiet-12.result ∷ c.quiet-13.result ∷ c.quiet-14.result ∷ []) (made (take_block c.args.depth))
    (c.commits.ensures ∙ ap last_of c.operand.ensures.exact, (c.quiet.ensures, (c.quiet-2.ensures, (c.quiet-3.ensures, (c.quiet-4.ensures, (c.quiet-5.ensures, (c.quiet-6.ensures, (c.quiet-7.ensures, (c.quiet-8.ensures, (c.quiet-9.ensures, (c.quiet-10.ensures, (c.quiet-11.ensures, (c.quiet-12.ensures ∙ ap line_of c.result.ensures.exact, (c.quiet-13.ensures, (c.quiet-14.ensures, tt)))))))))))))))

pub returns-clause-added : goal.returns-clause-added
returns-clause-added c =
    subst (λ ls. OnOk c.emit_lines.result (c.emit_lines.new.into ≡ with_block c.args.into.now ls)) (same_lines c) c.emit_lines.ensures.added

pub returns-clause-begun : goal.returns-clause-begun
returns-clause-begun c =
    subst (λ ls. OnErr c.emit_lines.result (HasBegun ls c.args.into.now c.emit_lines.new.into)) (same_lines c) c.emit_lines.ensures.begun
