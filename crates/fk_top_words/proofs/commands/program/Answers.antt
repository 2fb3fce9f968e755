use Rattle.std.proofs.Common.{◌∙◌, ap, true}
use Rattle.clap.specs.Simple.{App, app_of_fields}
use Rattle.clap.specs.declared.builder.command.Command.{Command}
use Rattle.clap.specs.declared.builder.command.Command.TheOpen.{Command-F}
use Rattle.fk_top_words.proofs.commands.program.Goals as goal

-- the settings of the program
abbrev set : App → App
set a = record a {
  top = record a.top {
    no_binary_name = true;
    disable_help_flag = true;
    disable_help_subcommand = true;
    subcommand_required = true;
  };
}

pub returns : goal.returns
returns c =
    let fields = c.subcommand_required.ensures
    ∙ ap (λ (f : Command-F Command). record f { subcommand_required = true }) (c.disable_help_subcommand.ensures
    ∙ ap (λ (f : Command-F Command). record f { disable_help_subcommand = true }) (c.disable_help_flag.ensures
    ∙ ap (λ (f : Command-F Command). record f { disable_help_flag = true }) c.no_binary_name.ensures)) in
    ap app_of_fields fields ∙ ap set c.new.ensures.app
