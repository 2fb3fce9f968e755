-- The binding of `main` alone means `main`.
use Rattle.std.proofs.Common.{◌≡◌, ◌⊎◌, inl, inr, ℕ, Bool, true, false, List, [], ◌∷◌, refl, sym, ◌∙◌}
use Rattle.std.specs.Prelude.{◌==◌, not, if◌then◌else◌}
use Rattle.std.proofs.lemmas.Bool.{false≢true, eqb-true, eq-eqb}
use Rattle.fk_syntax.specs.Program.{FunctionTree}
use Rattle.fk_meaning_forms.specs.Tables.{Tables}
use Rattle.fk_meaning_forms.specs.Statements.{is_nothing}
use Rattle.fk_meaning_forms.specs.Program.{functions_of, binding_of, is_main, main_in, main_of}
use Rattle.fk_core_liveness.specs.declared.places.FunctionKind.TheVariants.{Main, Called}
use Rattle.fk_lower_laws.specs.Asked.{place_by, place_in}
use Rattle.fk_lower_laws.specs.TypedLaws.{HasMain, IsMainAlone, MainHasItsPlace}

module _ (tables : Tables) where
  -- one of the functions has a binding
  abbrev IsBound : (binding : ℕ) → List FunctionTree → Type 0
  IsBound b [] = ⊥
  IsBound b (f ∷ fs) = ((binding_of tables f == b) ≡ true) ⊎ IsBound b fs

  never : {X : Type 0} → false ≡ true → X
  never e = absurd (false≢true e)

  bound : (fs : List FunctionTree) → HasMain fs → IsBound (main_in tables fs) fs
  bound [] has = absurd has
  bound (f ∷ fs) has = by (is_main f) has (λ more. bound fs more)
    where
      by : (main : Bool) → (main ≡ true) ⊎ HasMain fs → (HasMain fs → IsBound (main_in tables fs) fs)
          → ((binding_of tables f == (if main then binding_of tables f else main_in tables fs)) ≡ true) ⊎ IsBound (if main then binding_of tables f else main_in tables fs) fs
      by true has' others = inl (eq-eqb (binding_of tables f) (binding_of tables f) refl)
      by false (inl e) others = never e
      by false (inr more) others = inr (others more)

  is_there : (main : ℕ) (fs : List FunctionTree) → IsMainAlone tables main fs → IsBound main fs → place_in tables fs main ≡ Main
  is_there main [] alone has = absurd has
  is_there main (f ∷ fs) alone has = by (binding_of tables f == main) (is_main f) alone.0 has (λ more. is_there main fs alone.1 more)
    where
      by : (is main' : Bool) → is ≡ main' → (is ≡ true) ⊎ IsBound main fs → (IsBound main fs → place_in tables fs main ≡ Main)
          → (if is then (if main' then Main else Called (not (is_nothing f.result))) else place_in tables fs main) ≡ Main
      by true true e has' others = refl
      by true false e has' others = never (sym e)
      by false main' e (inl is) others = never is
      by false main' e (inr more) others = others more

  is_main_place : (f : FunctionTree) → place_by f ≡ Main → is_main f ≡ true
  is_main_place f = by (is_main f)
    where
      by : (main : Bool) → (if main then Main else Called (not (is_nothing f.result))) ≡ Main → main ≡ true
      by true e = refl
      by false e = absurd (cc)

  is_alone : (main binding : ℕ) (fs : List FunctionTree) → IsMainAlone tables main fs → place_in tables fs binding ≡ Main → binding ≡ main
  is_alone main binding [] alone e = absurd (cc)
  is_alone main binding (f ∷ fs) alone e = by (binding_of tables f == binding) refl (λ later. is_alone main binding fs alone.1 later) e
    where
      by : (is : Bool) → (binding_of tables f == binding) ≡ is → (place_in tables fs binding ≡ Main → binding ≡ main) → (if is then place_by f else place_in tables fs binding) ≡ Main → binding ≡ main
      by true is others e' =
          sym (eqb-true (binding_of tables f) binding is) ∙ eqb-true (binding_of tables f) main (alone.0 ∙ is_main_place f e')
      by false is others e' = others e'

pub main_has_its_place : MainHasItsPlace
main_has_its_place tables program has alone =
    let fs = functions_of program.items in
    let main = main_of tables program in
    (is_there tables main fs alone (bound tables fs has), λ binding e. is_alone tables main binding fs alone e)
