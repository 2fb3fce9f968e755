-- The code of programs is well typed.
use Rattle.std.proofs.Common.{◌≡◌, ℕ, ◌+◌, Bool, true, false, List, [], ◌∷◌, not, Option, Some, None, refl, sym, subst}
use Rattle.std.specs.Prelude.{◌==◌, is_some, if◌then◌else◌}
use Rattle.fk_syntax.specs.declared.program.Mode.{Mode}
use Rattle.fk_syntax.specs.Tree.{Named, TypeTree}
use Rattle.fk_syntax.specs.Program.{DeclaredTree, Statements, FunctionTree}
use Rattle.fk_meaning.specs.Shaped.{BodyShaped, FunctionsShaped}
use Rattle.fk_meaning_forms.specs.Code.{size, numbered}
use Rattle.fk_meaning_forms.specs.Tables.{Tables, frame_at}
use Rattle.fk_meaning_forms.specs.Statements.{Inside, is_nothing}
use Rattle.fk_meaning_forms.specs.Program.{functions_of, binding_of, signature_of, no_signature, signature_in, is_main, code_of, body_in}
use Rattle.fk_core_liveness.specs.declared.places.FunctionKind.{FunctionKind}
use Rattle.fk_core_liveness.specs.declared.places.FunctionKind.TheVariants.{Main, Called}
use Rattle.fk_meaning_forms.specs.Expressions.{Signature}
use Rattle.fk_core_typing.specs.Values.{Place, with_frame, State, bare}
use Rattle.fk_core_typing.specs.Typed.{Typed}
use Rattle.fk_core_typing.proofs.Granting.{grants_itself}
use Rattle.fk_lower_laws.specs.Parts.{HasLevel}
use Rattle.fk_lower_laws.specs.Asked.{BodyAsked, place_by, place_in, place_of, frame_with, frame_for, Opens, FunctionsAsked}
use Rattle.fk_lower_laws.specs.TypedLaws.{FormsAreTyped}
use Rattle.fk_lower_laws.proofs.TypedOk.{level, Ok, ended}
use Rattle.fk_lower_laws.proofs.TypedStatements.{outermost, body_fine}

-- the frame of a function that is called has the words of its `sh` parameters
opens_in : (tables : Tables) (functions : (binding : ℕ) → Signature) (places : (binding : ℕ) → FunctionKind) → frame_at tables no_signature.at 0 ≡ None → (fs : List FunctionTree)
    → FunctionsAsked tables functions places fs → (b : ℕ) (gives : Bool) → place_in tables fs b ≡ Called gives → Opens tables (place_in tables fs b) (signature_in tables fs b)
opens_in tables functions places none [] asks b gives is = record { level = subst (HasLevel 0) (sym none) tt; parameters = tt }
opens_in tables functions places none (f ∷ fs) asks b gives is = by (binding_of tables f == b) (opens_in tables functions places none fs asks.2 b gives) is
  where
    called : (main : Bool) → (if main then Main else Called (not (is_nothing f.result))) ≡ Called gives → main ≡ false
    called true e = absurd (cc)
    called false e = refl

    by : (here : Bool) → (place_in tables fs b ≡ Called gives → Opens tables (place_in tables fs b) (signature_in tables fs b))
        → (if here then place_by f else place_in tables fs b) ≡ Called gives
        → Opens tables (if here then place_by f else place_in tables fs b) (if here then signature_of f else signature_in tables fs b)
    by true more e = asks.1 (called (is_main f) e)
    by false more e = more e

module _ (tables : Tables) (everyone : List FunctionTree) (places : (binding : ℕ) → FunctionKind)
    (opens : (b : ℕ) (gives : Bool) → places b ≡ Called gives → Opens tables (places b) (signature_in tables everyone b)) where
  abbrev frames : (binding : ℕ) → Option ℕ
  frames = frame_for tables (signature_in tables everyone) places

  -- where the code of a function begins
  abbrev begins : FunctionTree → Place
  begins f = outermost (place_by f) (frame_at tables f.name.at 0)

  function_by : (mode : Mode) (kind : TypeTree) (name : Named) (parameters : List DeclaredTree) (body : Option Statements)
      → let f : FunctionTree = record { mode = mode; result = kind; name = name; parameters = parameters; body = body } in
      BodyAsked tables (signature_in tables everyone) places (place_by f) (frame_at tables name.at 0) body → BodyShaped tables (signature_in tables everyone) body
      → Ok places frames None (level (begins f) []) (code_of tables everyone f) (level (begins f) [])
  function_by mode kind name parameters None asks shaped = ended
  function_by mode kind name parameters (Some statements) asks shaped =
      let f : FunctionTree = record { mode = mode; result = kind; name = name; parameters = parameters; body = Some statements } in
      let inside : Inside = record { main = is_main f; framed = is_some (frame_at tables name.at 0) } in
      body_fine tables (signature_in tables everyone) places opens inside (frame_at tables name.at 0) refl (is_nothing kind) statements asks.0 shaped asks.1 asks.2

  function_fine : (f : FunctionTree) → BodyAsked tables (signature_in tables everyone) places (place_by f) (frame_at tables f.name.at 0) f.body → BodyShaped tables (signature_in tables everyone) f.body
      → Ok places frames None (level (begins f) []) (code_of tables everyone f) (level (begins f) [])
  function_fine f asks shaped = function_by f.mode f.result f.name f.parameters f.body asks shaped

  -- where the code of a binding begins
  abbrev first_of : List FunctionTree → (binding : ℕ) → State
  first_of fs b = bare (with_frame (place_in tables fs b) (frame_with (place_in tables fs b) (frame_at tables (signature_in tables fs b).at 0)))

  bodies : (fs : List FunctionTree) (first binding : ℕ) → FunctionsAsked tables (signature_in tables everyone) places fs
      → FunctionsShaped tables (signature_in tables everyone) fs
      → (end : State) × Typed places frames None (first_of fs binding) (body_in tables everyone first fs binding) end
  bodies [] first binding asks all = (first_of [] binding, grants_itself (first_of [] binding))
  bodies (f ∷ fs) first binding asks all =
      by (binding_of tables f == binding)
      (bodies fs (first + size (code_of tables everyone f)) binding asks.2 all.1)
    where
      by : (is : Bool)
          → (end : State) × Typed places frames None (first_of fs binding) (body_in tables everyone (first + size (code_of tables everyone f)) fs binding) end
          → let kind = if is then place_by f else place_in tables fs binding in
          (end : State) × Typed places frames None
          (bare (with_frame kind (frame_with kind (frame_at tables (if is then signature_of f else signature_in tables fs binding).at 0))))
          (if is then numbered first (code_of tables everyone f) else body_in tables everyone (first + size (code_of tables everyone f)) fs binding) end
      by true others = (
        level (begins f) [],
        (function_fine f asks.0 all.0).typed (bare (begins f)) (grants_itself (bare (begins f))) first,
      )
      by false others = others

pub forms_are_typed : FormsAreTyped
forms_are_typed tables program asks all binding =
    let fs = functions_of program.items in
    bodies tables fs (place_of tables program) (opens_in tables (signature_in tables fs) (place_of tables program) asks.0 fs asks.1) fs 0 binding asks.1 all
