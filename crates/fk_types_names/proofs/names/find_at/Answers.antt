use Rattle.std.proofs.Common.{Some, sym, subst, ap, ◌∙◌}
use Rattle.std.specs.Prelude.{MatchOption, length}
use Rattle.fk_syntax.specs.View.{named}
use Rattle.fk_types_names.specs.View.{mark_of}
use Rattle.fk_types_names.specs.Visible.{DeclaresHere, IsHidden, IsInnermost}
use Rattle.fk_types_names.specs.Means.{UsesAt}
use Rattle.fk_types_names.specs.Scoped.{all_marks}
use Rattle.fk_types_names.proofs.SurveyLemmas.{at_within}
use Rattle.fk_types_names.proofs.ScopedLemmas.{use_named}
use Rattle.fk_types_names.proofs.FindLemmas.{found_use, found_other, not_used, same_some}
use Rattle.fk_types_names.proofs.names.find_at.Goals as goal

pub meaning-meaning-requires-clause-within : goal.meaning-meaning-requires-clause-within
meaning-meaning-requires-clause-within c = λ o e.
    let marks = all_marks c.args.scoped.now in
    let name = c.in-Uses.name.bytes.now in
    let used : UsesAt marks (named c.in-Uses.name) c.args.at = c.mark.ensures ∙ ap (λ m. Some (mark_of m)) c.in-Uses.is in
    let i = subst (λ x. MatchOption x (IsHidden marks name c.args.at) (IsInnermost marks name c.args.at)) e (c.innermost-innermost.ensures name (use_named marks c.args.at (named c.in-Uses.name) used)) in
    at_within (DeclaresHere name) marks o i.declares

pub bounds-meanings-name : goal.bounds-meanings-name
bounds-meanings-name c =
    let used : UsesAt (all_marks c.args.scoped.now) (named c.in-Uses.name) c.args.at = c.mark.ensures ∙ ap (λ m. Some (mark_of m)) c.in-Uses.is in
    c.requires.apart.below c.args.at (named c.in-Uses.name) used

pub returns-in-Uses : goal.returns-in-Uses
returns-in-Uses c =
    let marks = all_marks c.args.scoped.now in
    let used : UsesAt marks (named c.in-Uses.name) c.args.at = c.mark.ensures ∙ ap (λ m. Some (mark_of m)) c.in-Uses.is in
    let means = c.meaning-meaning.ensures c.args.at (c.innermost-innermost.ensures c.in-Uses.name.bytes.now (use_named marks c.args.at (named c.in-Uses.name) used)) in
    found_use marks (length c.args.meanings.now) c.args.at c.args.meanings.now (named c.in-Uses.name) c.meaning-meaning.result used c.requires.apart means c.requires.before

pub returns-in_default : goal.returns-in_default
returns-in_default c =
    found_other (all_marks c.args.scoped.now) (length c.args.meanings.now) c.args.at c.args.meanings.now
    (λ name used. not_used c.mark.result.now c.in_default.not-Uses name (same_some (mark_of c.mark.result.now) _ (sym c.mark.ensures ∙ used)))
    c.requires.before
