-- What the names that are known say of calls is what the program's names mean.
use Rattle.std.proofs.Common.{◌≡◌, ℕ, map, Option, Some, None, slice_get, refl, sym, ap, subst, ◌∙◌}
use Rattle.fk_syntax.specs.Program.{FunctionTree, ProgramTree}
use Rattle.fk_types_names.specs.declared.names.Names.{Names}
use Rattle.fk_types_names.specs.declared.names.Meaning.{Meaning}
use Rattle.fk_types_names.specs.declared.names.Meaning.TheVariants as m
use Rattle.fk_types_names.specs.Outline.{DeclarationTree, Variable, Header}
use Rattle.fk_types_names.specs.View.{declaration_of}
use Rattle.fk_types_names.specs.Names.{meaning_in, AreNames}
use Rattle.fk_regions.specs.declared.callee.Callee.{Callee}
use Rattle.fk_regions.specs.declared.callee.Callee.TheVariants as c
use Rattle.fk_regions.specs.Called.{Calls, callee_of, callee_meant, callee_in}

callee-declared : (d : Option DeclarationTree) (callee : Callee) → callee_of d ≡ Some callee → (function : FunctionTree) × (d ≡ Some (Header function)) × (c.Function function.mode ≡ callee)
callee-declared None callee e = absurd (cc)
callee-declared (Some (Variable variable)) callee e = absurd (cc)
callee-declared (Some (Header function)) callee e = (function, refl, cc)

module _ (program : ProgramTree) (names : Names) (are : AreNames program names) (token : ℕ) where
  pub calls-finds : (callee : Callee) → Calls program token callee → callee_in names token ≡ Some callee
  calls-finds (c.Function mode) h =
      ap (callee_meant (map declaration_of names.declarations.items)) ((are.means token (m.Declared h.0)).1 h.2)
      ∙ ap (λ ds. callee_of (slice_get ds h.0)) are.declared
      ∙ ap callee_of h.3
      ∙ ap (λ mode. Some (c.Function mode)) h.4
  calls-finds c.Predeclared h = ap (callee_meant (map declaration_of names.declarations.items)) ((are.means token m.Predeclared).1 h)

  meant-tells : (meaning : Option Meaning) (callee : Callee) → meaning_in names token ≡ meaning → callee_meant (map declaration_of names.declarations.items) meaning ≡ Some callee → Calls program token callee
  meant-tells None callee e h = absurd (cc)
  meant-tells (Some (m.Declared number)) callee e h =
      let t = callee-declared (slice_get (map declaration_of names.declarations.items) number) callee h in
      subst (Calls program token) t.2
      (number, t.0, (are.means token (m.Declared number)).0 e, ap (λ ds. slice_get ds number) (sym are.declared) ∙ t.1, refl)
  meant-tells (Some m.Predeclared) callee e h =
      let same : c.Predeclared ≡ callee = cc in
      subst (Calls program token) same ((are.means token m.Predeclared).0 e)
  meant-tells (Some m.Undeclared) callee e h = absurd (cc)

  pub calls-tells : (callee : Callee) → callee_in names token ≡ Some callee → Calls program token callee
  calls-tells callee h = meant-tells (meaning_in names token) callee refl h
