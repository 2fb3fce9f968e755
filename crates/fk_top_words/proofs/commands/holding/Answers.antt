use Rattle.std.proofs.Common.{◌≡◌, ◌∙◌, Result, IfOk, ap, ap₂, subst}
use Rattle.std.proofs.lemmas.Result.{IfOk-weaker}
use Rattle.clap.specs.Simple.{App, app_of, with_subcommand}
use Rattle.clap.specs.declared.builder.command.Command.{Command}
use Rattle.fk_top_words.specs.Written.{IsLocal, alone}
use Rattle.fk_top_words.proofs.commands.holding.Goals as goal

pub returns : goal.returns
returns c = λ app shape is is_inner.
    let was : app_of c.in_ok-command.field-0 ≡ app = subst (λ (r : Result Command _). IfOk r (λ x. app_of x ≡ app)) c.in_ok-command.was is in
    let inner : IsLocal (alone shape) c.in_ok-inner.field-0 = subst (λ (r : Result Command _). IfOk r (IsLocal (alone shape))) c.in_ok-inner.was is_inner in
    IfOk-weaker c.subcommand.result _ _ (λ r adds. adds.shape inner.local ∙ ap₂ with_subcommand was (ap (λ (a : App). a.top) inner.shape)) c.subcommand.ensures
