use Rattle.std.proofs.Common.{◌∙◌, ◌||◌, Result, IfOk, ap₂, subst}
use Rattle.std.proofs.lemmas.Result.{IfOk-weaker}
use Rattle.clap.specs.Simple.{with_rule}
use Rattle.clap.specs.declared.builder.command.Command.{Command}
use Rattle.fk_top_words.specs.Written.{IsLocal}
use Rattle.fk_top_words.proofs.commands.taking.Goals as goal

pub returns : goal.returns
returns c = λ app rule is_rule is.
    let was : IsLocal app c.in_ok-command.field-0 = subst (λ (r : Result Command _). IfOk r (IsLocal app)) c.in_ok-command.was is in
    IfOk-weaker c.arg.result _ _ (λ r adds. record {
      shape = adds.shape c.requires ∙ ap₂ with_rule was.shape is_rule;
      local = adds.globals ∙ ap₂ (λ a b. a || b) was.local c.requires;
    }) c.arg.ensures
