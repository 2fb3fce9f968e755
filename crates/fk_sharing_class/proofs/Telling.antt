-- What the names that are known say of a token is what it is in the program.
use Rattle.std.proofs.Common.{◌≡◌, ◌↔◌, ℕ, Bool, true, false, map, Option, Some, None, IsTrue, slice_get, refl, sym, ap, subst, ◌∙◌}
use Rattle.std.proofs.Math.Path.{fun_ext}
use Rattle.fk_syntax.specs.Tree.{Tree}
use Rattle.fk_syntax.specs.Program.{ProgramTree}
use Rattle.fk_types_names.specs.declared.names.Names.{Names}
use Rattle.fk_types_names.specs.declared.names.Meaning.{Meaning}
use Rattle.fk_types_names.specs.declared.names.Meaning.TheVariants as m
use Rattle.fk_types_names.specs.Outline.{DeclarationTree, Variable, Header, declarations}
use Rattle.fk_types_names.specs.View.{declaration_of}
use Rattle.fk_types_names.specs.Means.{Means}
use Rattle.fk_types_names.specs.Names.{meaning_in, AreNames}
use Rattle.fk_sharing_class.specs.declared.thing.Thing.{Thing}
use Rattle.fk_sharing_class.specs.declared.thing.Thing.TheVariants.{SharedVariable, PrivateVariable, Function, Predeclared}
use Rattle.fk_sharing_class.specs.Things.{Is, Tells, variable_thing, thing_of, thing_meant, thing_in}
use Rattle.fk_sharing_class.specs.Class.{is_shared}
use Rattle.fk_sharing_class.specs.Shared.{IsShared}

module _ (program : ProgramTree) (names : Names) (are : AreNames program names) where
  -- what is declared under the number that a token means
  declares-is : (token number : ℕ) (d : Option DeclarationTree) (x : Thing) → Means program token (m.Declared number) → slice_get (declarations program) number ≡ d → thing_of d ≡ Some x → Is program token x
  declares-is token number None x h e t = absurd (cc)
  declares-is token number (Some (Variable variable)) x h e t =
      let is : (b : Bool) → variable.shared ≡ b → Is program token (variable_thing b) = λ b.
      elim b as (λ b. variable.shared ≡ b → Is program token (variable_thing b)) [ true ↦ (λ s. (number, variable, h, e, s)) | false ↦ (λ s. (number, variable, h, e, s)) ] in
      let same : variable_thing variable.shared ≡ x = cc in
      subst (Is program token) same (is variable.shared refl)
  declares-is token number (Some (Header function)) x h e t =
      let same : Function ≡ x = cc in
      subst (Is program token) same (number, function, h, e)

  meant-is : (token : ℕ) (meaning : Option Meaning) (x : Thing) → meaning_in names token ≡ meaning → thing_meant (map declaration_of names.declarations.items) meaning ≡ Some x → Is program token x
  meant-is token None x e h = absurd (cc)
  meant-is token (Some (m.Declared number)) x e h =
      declares-is token number (slice_get (declarations program) number) x ((are.means token (m.Declared number)).0 e) refl (ap (λ ds. thing_of (slice_get ds number)) (sym are.declared) ∙ h)
  meant-is token (Some m.Predeclared) x e h =
      let same : Predeclared ≡ x = cc in
      subst (Is program token) same ((are.means token m.Predeclared).0 e)
  meant-is token (Some m.Undeclared) x e h = absurd (cc)

  declared-thing : (token number : ℕ) → Means program token (m.Declared number) → thing_in names token ≡ thing_of (slice_get (declarations program) number)
  declared-thing token number h = ap (thing_meant (map declaration_of names.declarations.items)) ((are.means token (m.Declared number)).1 h) ∙ ap (λ ds. thing_of (slice_get ds number)) are.declared

  is-thing : (token : ℕ) (x : Thing) → Is program token x → thing_in names token ≡ Some x
  is-thing token SharedVariable h = declared-thing token h.0 h.2 ∙ ap thing_of h.3 ∙ ap (λ b. Some (variable_thing b)) h.4
  is-thing token PrivateVariable h = declared-thing token h.0 h.2 ∙ ap thing_of h.3 ∙ ap (λ b. Some (variable_thing b)) h.4
  is-thing token Function h = declared-thing token h.0 h.2 ∙ ap thing_of h.3
  is-thing token Predeclared h = ap (thing_meant (map declaration_of names.declarations.items)) ((are.means token m.Predeclared).1 h)

  pub names-tell : Tells program (thing_in names)
  names-tell token x = (λ e. meant-is token (meaning_in names token) x refl e, is-thing token x)

-- two functions that tell the same are one
same-answer : (program : ProgramTree) (f g : ℕ → Option Thing) → Tells program f → Tells program g → (token : ℕ) (a b : Option Thing) → f token ≡ a → g token ≡ b → a ≡ b
same-answer program f g tf tg token None None e h = refl
same-answer program f g tf tg token None (Some y) e h = let other = (tf token y).1 ((tg token y).0 h) in absurd (cc)
same-answer program f g tf tg token (Some x) b e h = sym ((tg token x).1 ((tf token x).0 e)) ∙ h

pub same-telling : (program : ProgramTree) (f g : ℕ → Option Thing) → Tells program f → Tells program g → f ≡ g
same-telling program f g tf tg = fun_ext (λ token. same-answer program f g tf tg token (f token) (g token) refl refl)

pub shared-in : (program : ProgramTree) (names : Names) → AreNames program names → (tree : Tree) (result : Bool) → result ≡ is_shared (thing_in names) tree → IsTrue result ↔ IsShared program tree
shared-in program names are tree result e = (
  (λ h. (thing_in names, names-tell program names are, subst IsTrue e h)),
  (λ s. subst IsTrue (ap (λ f. is_shared f tree) (same-telling program s.0 (thing_in names) s.1 (names-tell program names are)) ∙ sym e) s.2),
)
