-- The lines that were made are those of the specification.
use Rattle.std.proofs.Common.{◌≡◌, List, [], ◌∷◌, OnOk, ap, subst, refl}
use Rattle.fk_asm.specs.Block.{MarkedLine, with_block}
use Rattle.fk_gen.specs.Lines.{marked}
use Rattle.fk_gen_flow.proofs.Rows.{row}
use Rattle.fk_gen_group.specs.Splits.{fork_saving}
use Rattle.fk_gen_group.proofs.parts.emit_fork_saving.Goals as goal

pub returns : goal.returns
returns c =
    let e : marked c.quiet.result ∷ marked c.quiet-2.result ∷ marked c.quiet-3.result ∷ marked c.quiet-4.result ∷ marked c.quiet-5.result
    ∷ marked c.quiet-6.result ∷ marked c.quiet-7.result ∷ marked c.quiet-8.result ∷ marked c.quiet-9.result ∷ marked c.quiet-10.result
    ∷ marked c.quiet-11.result ∷ marked c.quiet-12.result ∷ marked c.quiet-13.result ∷ []
    ≡ fork_saving =
    row (ap marked c.quiet.ensures) (row (ap marked c.quiet-2.ensures) (row (ap marked c.quiet-3.ensures) (row (ap marked c.quiet-4.ensures)
    (row (ap marked c.quiet-5.ensures) (row (ap marked c.quiet-6.ensures) (row (ap marked c.quiet-7.ensures) (row (ap marked c.quiet-8.ensures)
    (row (ap marked c.quiet-9.ensures) (row (ap marked c.quiet-10.ensures) (row (ap marked c.quiet-11.ensures) (row (ap marked c.quiet-12.ensures)
    (row (ap marked c.quiet-13.ensures) refl)))))))))))) in
    record {
      added = subst (λ (ms : List MarkedLine). OnOk c.emit_lines.result (c.emit_lines.new.into ≡ with_block c.args.into.now ms)) e c.emit_lines.ensures.added;
    }
