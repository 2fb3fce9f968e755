use Rattle.std.proofs.Common.{ap, subst, ◌∙◌}
use Rattle.fk_lex.specs.Steps.{directive_step, StepBy}
use Rattle.fk_lex.proofs.Lines.{line_so_far}
use Rattle.fk_lex.proofs.step.step_at.Goals as goal

pub returns-in-Directive : goal.returns-in-Directive
returns-in-Directive c = λ before split here.
    let text = c.args.text.now in
    let blanks = c.only_blanks.ensures ∙ line_so_far c.args.source.now before text c.args.at split here in
    subst (λ b. StepBy b before text c.directive_step.result) c.in-Directive.ensures (c.directive_step.ensures ∙ ap (λ b. directive_step b text) blanks)
