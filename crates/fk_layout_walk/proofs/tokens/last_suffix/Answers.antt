use Rattle.std.proofs.Common.{◌∙◌, List, map, ap, sym}
use Rattle.fk_syntax.specs.declared.expression.Suffix.{Suffix}
use Rattle.fk_syntax.specs.Tree.{suffixes_of}
use Rattle.fk_syntax.specs.View.{suffix_of}
use Rattle.fk_meaning_forms.specs.Expressions.{last_suffix}
use Rattle.fk_layout_walk.proofs.Last.{last_of_suffixes, none_is_last}
use Rattle.fk_layout_walk.proofs.tokens.last_suffix.Goals as goal

pub returns-in-Some : goal.returns-in-Some
returns-in-Some c = λ before. last_of_suffixes before c.args.suffixes.now c.in-Some.suffix.now (sym c.in-Some.ensures.value) ∙ sym c.suffix_token.ensures

pub returns-in-None : goal.returns-in-None
returns-in-None c = λ before. ap (λ (xs : List Suffix). last_suffix before (suffixes_of (map suffix_of xs))) (none_is_last c.args.suffixes.now (sym c.in-None.ensures.value))
