-- A fault that isn't want of memory is the text's own.
use Rattle.std.proofs.Common.{◌≡◌, ◌⊎◌, ℕ, List, inl, inr, subst}
use Rattle.fk_syntax.specs.declared.place.Place.{Place}
use Rattle.fk_lex.specs.declared.token.LexFault.{LexFault}
use Rattle.fk_lex.specs.declared.token.LexFault.TheVariants as fault
use Rattle.fk_lex.specs.View.{IsFault}
use Rattle.fk_check_cases.specs.Answers.{HasNoProgram}
use Rattle.fk_check_cases.specs.Answers as said
use Rattle.fk_check_cases.proofs.rules.without_tokens.Goals as goal

no_tokens : (source : List ℕ) (found : LexFault)
    → ((p : Place) × (found ≡ fault.BadByte p)) ⊎ (((p : Place) × (found ≡ fault.OpenComment p)) ⊎ (((p : Place) × (found ≡ fault.OpenString p)) ⊎ ((p : Place) × (found ≡ fault.WideNumber p))))
    → IsFault source found → HasNoProgram source
no_tokens source found (inl is) h = said.no_tokens (fault.BadByte is.0) (subst (IsFault source) is.1 h)
no_tokens source found (inr (inl is)) h = said.no_tokens (fault.OpenComment is.0) (subst (IsFault source) is.1 h)
no_tokens source found (inr (inr (inl is))) h = said.no_tokens (fault.OpenString is.0) (subst (IsFault source) is.1 h)
no_tokens source found (inr (inr (inr is))) h = said.no_tokens (fault.WideNumber is.0) (subst (IsFault source) is.1 h)

pub returns-in-BadByte : goal.returns-in-BadByte
returns-in-BadByte c = λ asked source h. no_tokens source c.args.fault c.in-BadByte.is h
