-- The lines that were made are those that take the frame.
use Rattle.std.proofs.Common.{◌≡◌, List, [], ◌∷◌, OnErr, ap, subst, ◌∙◌, refl}
use Rattle.fk_isa.specs.declared.instruction.Instruction.TheVariants.{Lui, Addi}
use Rattle.fk_asm.specs.Block.{MarkedLine, HasBegun}
use Rattle.fk_gen.specs.Registers.{t1}
use Rattle.fk_gen.specs.Lines.{marked, quiet}
use Rattle.fk_gen_group.specs.Blocks.{frame_lines}
use Rattle.fk_gen_group.proofs.blocks.emit_taking.Goals as goal

row : {x y : MarkedLine} {xs ys : List MarkedLine} → x ≡ y → xs ≡ ys → x ∷ xs ≡ y ∷ ys
row {x} {y} {xs} {ys} e f = ap (λ z. z ∷ xs) e ∙ ap (λ zs. y ∷ zs) f

pub returns-clause-begun : goal.returns-clause-begun
returns-clause-begun c =
    let e : marked c.quiet.result ∷ marked c.quiet-2.result ∷ marked c.quiet-3.result ∷ marked c.quiet-4.result ∷ marked c.commits.result ∷ marked c.quiet-5.result
    ∷ marked c.quiet-6.result ∷ marked c.commits-2.result ∷ []
    ≡ frame_lines c.args.nesting c.args.site =
    row (ap marked c.quiet.ensures) (row (ap marked c.quiet-2.ensures) (row (ap marked c.quiet-3.ensures ∙ ap (λ v. quiet (Lui t1 v)) c.high_part.ensures.exact)
    (row (ap marked c.quiet-4.ensures ∙ ap (λ v. quiet (Addi t1 t1 v)) c.low_part.ensures.exact) (row (ap marked c.commits.ensures)
    (row (ap marked c.quiet-5.ensures ∙ ap quiet c.first_taking.ensures.exact) (row (ap marked c.quiet-6.ensures ∙ ap quiet c.second_taking.ensures.exact)
    (row (ap marked c.commits-2.ensures) refl))))))) in
    subst (λ (ms : List MarkedLine). OnErr c.emit_lines.result (HasBegun ms c.args.into.now c.emit_lines.new.into)) e c.emit_lines.ensures.begun
