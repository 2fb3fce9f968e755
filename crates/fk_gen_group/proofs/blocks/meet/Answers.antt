-- The lines that were made are those of the meeting.
use Rattle.std.proofs.Common.{◌≡◌, List, [], ◌∷◌, OnErr, ap, subst, ◌∙◌, refl}
use Rattle.fk_asm.specs.Block.{MarkedLine, HasBegun}
use Rattle.fk_gen.specs.Lines.{marked}
use Rattle.fk_gen_group.specs.Blocks.{meet_block}
use Rattle.fk_gen_group.proofs.blocks.meet.Goals as goal

row : {x y : MarkedLine} {xs ys : List MarkedLine} → x ≡ y → xs ≡ ys → x ∷ xs ≡ y ∷ ys
row {x} {y} {xs} {ys} e f = ap (λ z. z ∷ xs) e ∙ ap (λ zs. y ∷ zs) f

pub returns-clause-begun : goal.returns-clause-begun
returns-clause-begun c =
    let e : marked c.quiet.result ∷ marked c.quiet-2.result ∷ marked c.quiet-3.result ∷ marked c.quiet-4.result ∷ marked c.quiet-5.result ∷ marked c.quiet-6.result
    ∷ marked c.quiet-7.result ∷ marked c.quiet-8.result ∷ marked c.quiet-9.result ∷ marked c.quiet-10.result ∷ marked c.commits_as.result ∷ []
    ≡ meet_block c.args.event c.args.word c.args.size =
    row (ap marked c.quiet.ensures) (row (ap marked c.quiet-2.ensures) (row (ap marked c.quiet-3.ensures) (row (ap marked c.quiet-4.ensures) (row (ap marked c.quiet-5.ensures)
    (row (ap marked c.quiet-6.ensures) (row (ap marked c.quiet-7.ensures) (row (ap marked c.quiet-8.ensures) (row (ap marked c.quiet-9.ensures) (row (ap marked c.quiet-10.ensures)
    (row (ap marked c.commits_as.ensures) refl)))))))))) in
    subst (λ (ms : List MarkedLine). OnErr c.emit_lines.result (HasBegun ms c.args.into.now c.emit_lines.new.into)) e c.emit_lines.ensures.begun
