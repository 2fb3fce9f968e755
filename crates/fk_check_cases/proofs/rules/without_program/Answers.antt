-- A fault that isn't want of memory is that of the tokens.
use Rattle.std.proofs.Common.{◌≡◌, ◌⊎◌, ℕ, List, inl, inr, subst}
use Rattle.fk_syntax.specs.declared.place.Place.{Place}
use Rattle.fk_lex.specs.Reading.{Spelled, Tokens}
use Rattle.fk_parse_combinators.specs.declared.fault.SyntaxFault.{SyntaxFault}
use Rattle.fk_parse_combinators.specs.declared.fault.SyntaxFault.TheVariants as fault
use Rattle.fk_parse.specs.Refusals.{RefusesTokens}
use Rattle.fk_check_cases.specs.Answers.{HasNoProgram}
use Rattle.fk_check_cases.specs.Answers as said
use Rattle.fk_check_cases.proofs.rules.without_program.Goals as goal

no_tree : (source : List ℕ) (tokens : List Spelled) (found : SyntaxFault)
    → ((p : Place) × (found ≡ fault.Unexpected p)) ⊎ ((found ≡ fault.EndOfText) ⊎ ((p : Place) × (found ≡ fault.Nesting p)))
    → Tokens source tokens → RefusesTokens tokens found → HasNoProgram source
no_tree source tokens found (inl is) spelled h = said.no_tree tokens (fault.Unexpected is.0) spelled (subst (RefusesTokens tokens) is.1 h) (λ m. m)
no_tree source tokens found (inr (inl is)) spelled h = said.no_tree tokens fault.EndOfText spelled (subst (RefusesTokens tokens) is h) (λ m. m)
no_tree source tokens found (inr (inr is)) spelled h = said.no_tree tokens (fault.Nesting is.0) spelled (subst (RefusesTokens tokens) is.1 h) (λ m. m)

pub returns-in-Unexpected : goal.returns-in-Unexpected
returns-in-Unexpected c = λ asked source tokens spelled h. no_tree source tokens c.args.fault c.in-Unexpected.is spelled h
