use Rattle.std.proofs.Common.{refl, sym, ◌∙◌, arith}
use Rattle.std.proofs.lemmas.Bool.{false≢true}
use Rattle.fk_types_names.specs.Outline.{Declares, name_of}
use Rattle.fk_types_names.specs.View.{declaration_of, mark_of}
use Rattle.fk_types_names.specs.Scoped.{all_marks}
use Rattle.fk_types_names.proofs.ScopedLemmas.{named_at}
use Rattle.fk_types_name_rules.proofs.NamedLemmas.{again_here, again_hidden, again_not}
use Rattle.fk_types_name_rules.proofs.named.is_again.Goals as goal

pub returns-in-Some : goal.returns-in-Some
returns-in-Some c =
    let marks = all_marks c.args.scoped.now in
    let d = declaration_of c.args.declaration.now in
    let i = c.in-Some.ensures (name_of d).bytes (named_at marks c.args.at (Declares d) (name_of d).bytes c.requires.declared refl) in
    let level = sym c.depth.ensures ∙ (c.if-depth.true ∙ c.depth-then-first-at.ensures) in
    again_here marks c.args.at d c.in-Some.first i (mark_of c.mark.result.now) c.are_headers.result c.if-first-at.true level c.mark.ensures c.are_headers.ensures

pub returns-in_default : goal.returns-in_default
returns-in_default c =
    let marks = all_marks c.args.scoped.now in
    let d = declaration_of c.args.declaration.now in
    let i = c.in-Some.ensures (name_of d).bytes (named_at marks c.args.at (Declares d) (name_of d).bytes c.requires.declared refl) in (
      λ e. absurd (false≢true e),
      λ h. absurd (again_not marks c.args.at d c.in-Some.first i (λ p. c.if-depth.false (c.depth.ensures ∙ (p.1 ∙ sym c.depth-then-first-at.ensures))) h),
    )

pub returns-in_default-2 : goal.returns-in_default-2
returns-in_default-2 c =
    let marks = all_marks c.args.scoped.now in
    let d = declaration_of c.args.declaration.now in
    let i = c.in-Some.ensures (name_of d).bytes (named_at marks c.args.at (Declares d) (name_of d).bytes c.requires.declared refl) in (
      λ e. absurd (false≢true e),
      λ h. absurd (again_not marks c.args.at d c.in-Some.first i (λ p. let less = p.0 in omega (arith, less)) h),
    )

pub returns-in_default-3 : goal.returns-in_default-3
returns-in_default-3 c =
    let marks = all_marks c.args.scoped.now in
    let d = declaration_of c.args.declaration.now in
    let hidden = c.in_default.ensures (name_of d).bytes (named_at marks c.args.at (Declares d) (name_of d).bytes c.requires.declared refl) in
    (λ e. absurd (false≢true e), λ h. absurd (again_hidden marks c.args.at d hidden h))
