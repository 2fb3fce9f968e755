use Rattle.std.proofs.Common.{sym, subst}
use Rattle.std.specs.Prelude.{MatchOption}
use Rattle.fk_types_names.specs.Visible.{IsHidden, IsInnermost}
use Rattle.fk_types_names.specs.Scoped.{NamesHere, all_marks}
use Rattle.fk_types_names.proofs.SurveyLemmas.{at_within}
use Rattle.fk_types_names.proofs.scoped.ScopedMarks.innermost.Goals as goal

pub returns : goal.returns
returns c = λ bytes names.
    let marks = all_marks c.args.self.now in
    let at = c.args.at in
    subst (λ o. MatchOption o (IsHidden marks bytes at) (IsInnermost marks bytes at)) (sym c.found.ensures)
    (c.requires.innermost.each at bytes (at_within (NamesHere bytes) marks at names) names)
