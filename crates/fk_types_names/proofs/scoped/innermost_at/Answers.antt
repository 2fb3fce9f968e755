-- The mark declares or uses the name for which the reader is asked.
use Rattle.std.proofs.Common.{inl, inr, Some, subst, ap, ◌∙◌}
use Rattle.std.specs.Prelude.{MatchOption}
use Rattle.fk_syntax.specs.View.{named}
use Rattle.fk_types_names.specs.Outline.{Opens, Closes, Declares, Uses}
use Rattle.fk_types_names.specs.View.{declaration_of, mark_of}
use Rattle.fk_types_names.specs.Visible.{IsHidden, IsInnermost}
use Rattle.fk_types_names.specs.Reading.{marks_of}
use Rattle.fk_types_names.proofs.ScopedLemmas.{named_here}
use Rattle.fk_types_names.proofs.scoped.innermost_at.Goals as goal

pub returns-in-Declares : goal.returns-in-Declares
returns-in-Declares c = λ bytes names.
    let marks = marks_of c.args.reader.now in
    let at = c.args.at in
    let here = c.mark.ensures ∙ ap (λ m. Some (mark_of m)) c.in-Declares.is in
    let same = c.name.ensures ∙ named_here marks at (Declares (declaration_of c.in-Declares.declaration)) bytes here names in
    subst (λ n. MatchOption c.innermost.result (IsHidden marks n at) (IsInnermost marks n at)) same (c.innermost.ensures at c.requires.here)

pub returns-in-Uses : goal.returns-in-Uses
returns-in-Uses c = λ bytes names.
    let marks = marks_of c.args.reader.now in
    let at = c.args.at in
    let here = c.mark.ensures ∙ ap (λ m. Some (mark_of m)) c.in-Uses.is in
    let same = named_here marks at (Uses (named c.in-Uses.name)) bytes here names in
    subst (λ n. MatchOption c.innermost-in-Uses.result (IsHidden marks n at) (IsInnermost marks n at)) same (c.innermost-in-Uses.ensures at c.requires.here)

pub returns-in-Opens : goal.returns-in-Opens
returns-in-Opens c = λ bytes names.
    let marks = marks_of c.args.reader.now in
    elim c.in-Opens.is [
      | inl opens ↦ absurd (named_here marks c.args.at Opens bytes (c.mark.ensures ∙ ap (λ m. Some (mark_of m)) opens) names)
      | inr closes ↦ absurd (named_here marks c.args.at Closes bytes (c.mark.ensures ∙ ap (λ m. Some (mark_of m)) closes) names)
    ]
