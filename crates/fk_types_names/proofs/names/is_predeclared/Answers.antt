use Rattle.std.proofs.Common.{length, sym, ◌∙◌, arith}
use Rattle.std.proofs.lemmas.Bool.{false≢true, eqb-true}
use Rattle.fk_types_names.specs.Means.{predeclared}
use Rattle.fk_types_names.proofs.WordLemmas.{among_words, begins}
use Rattle.fk_types_names.proofs.names.is_predeclared.Goals as goal

pub returns-then-is_empty : goal.returns-then-is_empty
returns-then-is_empty c = (
  λ e. absurd (false≢true e),
  λ h. absurd (omega (arith, (begins c.args.name.now h).0, eqb-true (length c.args.name.now) 0 (sym c.is_empty.ensures ∙ c.if-is_empty.true))),
)

pub returns-then-not-is_initial : goal.returns-then-not-is_initial
returns-then-not-is_initial c = (
  λ e. absurd (false≢true e),
  λ h. absurd (false≢true (sym c.if-not-is_initial.true ∙ c.is_initial.ensures ∙ (begins c.args.name.now h).1)),
)

pub returns : goal.returns
returns c = (
  λ e. (among_words predeclared c.args.name.now).0 (sym c.contains.ensures.value ∙ e),
  λ h. c.contains.ensures.value ∙ (among_words predeclared c.args.name.now).1 h,
)
