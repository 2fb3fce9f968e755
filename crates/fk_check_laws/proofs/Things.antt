-- What each token of a program is, where it is a name that means something.
use Rattle.std.proofs.Common.{◌≡◌, ◌⊎◌, inl, inr, ℕ, zero, suc, Bool, true, false, List, [], ◌∷◌, Option, Some, None, slice_get, refl, sym, ap, subst, ◌∙◌}
use Rattle.std.specs.Prelude.{◌↔◌}
use Rattle.std.proofs.lemmas.Bool.{cases_eq}
use Rattle.std.proofs.lemmas.Option.{same_Some}
use Rattle.fk_syntax.specs.Tree.{Named}
use Rattle.fk_syntax.specs.Program.{ProgramTree}
use Rattle.fk_syntax.specs.WellFormed.{IsWellFormed}
use Rattle.fk_types_names.specs.declared.names.Meaning.{Meaning}
use Rattle.fk_types_names.specs.declared.names.Meaning.TheVariants as m
use Rattle.fk_types_names.specs.Outline.{DeclarationTree, MarkTree, Variable, Header, Opens, Closes, Declares, Uses, declarations, outline}
use Rattle.fk_types_names.specs.Means.{Means, UsesAt}
use Rattle.fk_types_names.proofs.Apart.{apart_in}
use Rattle.fk_types_names.proofs.FindLemmas.{meaning_once}
use Rattle.fk_types_rules.proofs.Meanings.{means-something}
use Rattle.fk_sharing_class.specs.declared.thing.Thing.{Thing}
use Rattle.fk_sharing_class.specs.declared.thing.Thing.TheVariants.{SharedVariable, PrivateVariable, Function, Predeclared}
use Rattle.fk_sharing_class.specs.Things.{Is, Tells, variable_thing}

-- a name in an expression stands at a token
abbrev IsUse : List MarkTree → ℕ → Type 0
IsUse marks token = (name : Named) × (from : ℕ) × UsesAt marks name from × (name.at ≡ token)

abbrev IsNoUse : List MarkTree → ℕ → Type 0
IsNoUse marks token = (name : Named) (from : ℕ) → UsesAt marks name from → name.at ≡ token → ⊥

abbrev MayUse : List MarkTree → ℕ → Type 0
MayUse marks token = IsUse marks token ⊎ IsNoUse marks token

same_use : (a b : Named) → Some (Uses a) ≡ Some (Uses b) → a ≡ b
same_use a b e = cc

find : (marks : List MarkTree) (token : ℕ) → MayUse marks token
find [] token = inr (λ name from is same. absurd (cc))
find (mark ∷ marks) token = elim (find marks token) [
  | inl u ↦ inl (u.0, suc u.1, u.2, u.3)
  | inr none ↦ first mark none
]
  where
    behind : (head : MarkTree) → ((name : Named) → head ≡ Uses name → name.at ≡ token → ⊥) → IsNoUse marks token → IsNoUse (head ∷ marks) token
    behind head other none name zero is same = other name (same_Some head (Uses name) is) same
    behind head other none name (suc from) is same = none name from is same

    first : (head : MarkTree) → IsNoUse marks token → MayUse (head ∷ marks) token
    first Opens none = inr (behind Opens (λ name e same. absurd (cc)) none)
    first Closes none = inr (behind Closes (λ name e same. absurd (cc)) none)
    first (Declares d) none = inr (behind (Declares d) (λ name e same. absurd (cc)) none)
    first (Uses used) none = elim (cases_eq used.at token) [
      | inl here ↦ inl (used, 0, refl, here)
      | inr other ↦ inr (behind (Uses used) (λ name e same. other (ap (λ (x : Named). x.at) (same_use used name (ap Some e)) ∙ same)) none)
    ]

module _ (program : ProgramTree) (sound : IsWellFormed program) (token : ℕ) where
  abbrev Told : Type 0
  Told = (o : Option Thing) × ((x : Thing) → (o ≡ Some x) ↔ Is program token x)

  once : (a b : Meaning) → Means program token a → Means program token b → a ≡ b
  once a b h k = meaning_once (outline program) program.tokens token a b (apart_in program sound) h k

  means_of : (x : Thing) → Is program token x → (meaning : Meaning) × Means program token meaning
  means_of SharedVariable is = (m.Declared is.0, is.2)
  means_of PrivateVariable is = (m.Declared is.0, is.2)
  means_of Function is = (m.Declared is.0, is.2)
  means_of Predeclared is = (m.Predeclared, is)

  nothing : ((x : Thing) → Is program token x → ⊥) → Told
  nothing none = (None, (λ x. ((λ e. absurd (cc)), (λ is. absurd (none x is)))))

  -- of a declaration
  number_same : (a b : ℕ) → m.Declared a ≡ m.Declared b → a ≡ b
  number_same a b e = cc

  module _ (number : ℕ) (means : Means program token (m.Declared number)) where
    there : (other : ℕ) (d : DeclarationTree) → Means program token (m.Declared other) → slice_get (declarations program) other ≡ Some d → slice_get (declarations program) number ≡ Some d
    there other d h is = ap (slice_get (declarations program)) (number_same number other (once (m.Declared number) (m.Declared other) means h)) ∙ is

    unless_predeclared : Means program token m.Predeclared → ⊥
    unless_predeclared h = let e = once (m.Declared number) m.Predeclared means h in cc

    what : (x : Thing) → Is program token x → (d : DeclarationTree) × (slice_get (declarations program) number ≡ Some d)
    what SharedVariable is = (Variable is.1, there is.0 (Variable is.1) is.2 is.3)
    what PrivateVariable is = (Variable is.1, there is.0 (Variable is.1) is.2 is.3)
    what Function is = (Header is.1, there is.0 (Header is.1) is.2 is.3)
    what Predeclared is = absurd (unless_predeclared is)

    none_is : slice_get (declarations program) number ≡ None → (x : Thing) → Is program token x → ⊥
    none_is none x is = let d = what x is in let e = sym none ∙ d.1 in cc

    declared : (o : Option DeclarationTree) → slice_get (declarations program) number ≡ o → Told
    declared None none = nothing (none_is none)
    declared (Some (Header f)) at = (Some Function, (λ x. ((λ e. subst (Is program token) (same_Some Function x e) (number, f, means, at)), (λ is. back x is))))
      where
        back : (x : Thing) → Is program token x → Some Function ≡ Some x
        back SharedVariable is = let e = sym at ∙ there is.0 (Variable is.1) is.2 is.3 in cc
        back PrivateVariable is = let e = sym at ∙ there is.0 (Variable is.1) is.2 is.3 in cc
        back Function is = refl
        back Predeclared is = absurd (unless_predeclared is)
    declared (Some (Variable v)) at = (Some (variable_thing v.shared), (λ x. ((λ e. subst (Is program token) (same_Some (variable_thing v.shared) x e) (forth v.shared refl)), (λ is. back x is))))
      where
        forth : (shared : Bool) → v.shared ≡ shared → Is program token (variable_thing shared)
        forth true e = (number, v, means, at, e)
        forth false e = (number, v, means, at, e)

        same : (w : _) → Some (Variable v) ≡ Some (Variable w) → v ≡ w
        same w e = cc

        back : (x : Thing) → Is program token x → Some (variable_thing v.shared) ≡ Some x
        back SharedVariable is = ap (λ b. Some (variable_thing b)) (ap (λ w. w.shared) (same is.1 (sym at ∙ there is.0 (Variable is.1) is.2 is.3)) ∙ is.4)
        back PrivateVariable is = ap (λ b. Some (variable_thing b)) (ap (λ w. w.shared) (same is.1 (sym at ∙ there is.0 (Variable is.1) is.2 is.3)) ∙ is.4)
        back Function is = let e = sym at ∙ there is.0 (Header is.1) is.2 is.3 in cc
        back Predeclared is = absurd (unless_predeclared is)

  told : (meaning : Meaning) → Means program token meaning → Told
  told (m.Declared number) means = declared number means (slice_get (declarations program) number) refl
  told m.Predeclared means = (Some Predeclared, (λ x. ((λ e. subst (Is program token) (same_Some Predeclared x e) means), (λ is. back x is))))
    where
      back : (x : Thing) → Is program token x → Some Predeclared ≡ Some x
      back SharedVariable is = absurd (unless_predeclared is.0 is.2 means)
      back PrivateVariable is = absurd (unless_predeclared is.0 is.2 means)
      back Function is = absurd (unless_predeclared is.0 is.2 means)
      back Predeclared is = refl
  told m.Undeclared means = nothing (λ x is. let h = means_of x is in never h.0 h.1 (once h.0 m.Undeclared h.1 means) x is)
    where
      never : (meaning : Meaning) → Means program token meaning → meaning ≡ m.Undeclared → (x : Thing) → Is program token x → ⊥
      never meaning means' e SharedVariable is = let clash = once (m.Declared is.0) m.Undeclared is.2 means in cc
      never meaning means' e PrivateVariable is = let clash = once (m.Declared is.0) m.Undeclared is.2 means in cc
      never meaning means' e Function is = let clash = once (m.Declared is.0) m.Undeclared is.2 means in cc
      never meaning means' e Predeclared is = let clash = once m.Predeclared m.Undeclared is means in cc

  at_token : Told
  at_token = elim (find (outline program) token) [
    | inl u ↦ let some = means-something (outline program) u.0.bytes u.1 in told some.0 (record { name = u.0; from = u.1; used = u.2; here = u.3; meant = some.1 })
    | inr none ↦ nothing (λ x is. let h = means_of x is in none h.1.name h.1.from h.1.used h.1.here)
  ]

pub thing : (program : ProgramTree) → IsWellFormed program → ℕ → Option Thing
thing program sound token = (at_token program sound token).0

pub thing_tells : (program : ProgramTree) (sound : IsWellFormed program) → Tells program (thing program sound)
unfolding thing
thing_tells program sound token = (at_token program sound token).1
