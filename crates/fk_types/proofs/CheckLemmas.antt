-- What comes of a check.
use Rattle.std.proofs.Common.{◌≡◌, ◌⊎◌, inl, inr, ℕ, List, Option, Some, None, replicate, fold, refl, sym, ap, subst, ◌∙◌}
use Rattle.fk_syntax.specs.declared.facts.CheckFault.TheVariants as c
use Rattle.fk_syntax.specs.declared.facts.Facts.{Facts}
use Rattle.fk_syntax.specs.Program.{ProgramTree}
use Rattle.fk_syntax.specs.WellFormed.{IsWellFormed}
use Rattle.fk_check_rules.specs.declared.fault.Fault.{Fault}
use Rattle.fk_check_rules.specs.Rules.{number_of}
use Rattle.fk_check_rules.specs.Least.{IsLeast}
use Rattle.fk_types_operators.specs.declared.values.ExpressionType.{ExpressionType}
use Rattle.fk_types_judgments.specs.Names.{Env, IsEnv}
use Rattle.fk_types_expressions.specs.Read.{with_note}
use Rattle.fk_types_obligations.specs.Pieces.{pieces}
use Rattle.fk_types_rules.specs.Noted.{pieces_noted, AreTypes}
use Rattle.fk_types_rules.specs.Broken.{Broken, IsRefusal}
use Rattle.fk_types_rules.specs.Facts.{AreFactsIn, AreFacts}
use Rattle.fk_types_rules.proofs.Tokens.{are_types}

pub none_or : {X : Type 0} (o : Option X) → (o ≡ None) ⊎ ((x : X) × (o ≡ Some x))
none_or None = inl refl
none_or (Some x) = inr (x, refl)

module _ (program : ProgramTree) (env : Env) where
  -- a table in which all types are noted has them
  pub typed : IsWellFormed program → (before after : List (Option ExpressionType)) → before ≡ replicate program.tokens None → after ≡ fold with_note before (pieces_noted env (pieces program))
      → AreTypes env program after
  typed sound before after none noted = subst (AreTypes env program) (sym (noted ∙ ap (λ types. fold with_note types (pieces_noted env (pieces program))) none)) (are_types program sound env)

  -- the first rule that is broken
  pub refused : IsEnv program env → (fault : Fault) (number : ℕ) → IsLeast (Broken env program) (Some fault) → number ≡ number_of fault.rule → IsRefusal program (c.Rule fault.place number)
  refused right fault number least is = (env, right, fault.rule, least, is)

  -- none is broken
  pub accepted : IsEnv program env → (facts : Facts) → IsLeast (Broken env program) None → AreFactsIn env program facts → AreFacts program facts
  accepted right facts least known = record { env = env; right = right; kept = least; known = known }
