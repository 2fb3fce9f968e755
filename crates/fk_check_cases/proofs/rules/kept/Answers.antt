-- What is said of a program without a layout is said of it where something of that is asked.
use Rattle.std.proofs.Common.{inl, inr, map}
use Rattle.fk_lex.specs.View.{spelled}
use Rattle.fk_check_cases.proofs.rules.kept.Goals as goal

pub returns-in-Sites : goal.returns-in-Sites
returns-in-Sites c = c.without_layout.ensures c.args.asked (map spelled c.args.tokens.items) (inl c.in-Sites.is)

pub returns : goal.returns
returns c = c.without_layout-in-Err-lay_out.ensures c.args.asked (map spelled c.args.tokens.items) (inr c.in-Layout.is)
