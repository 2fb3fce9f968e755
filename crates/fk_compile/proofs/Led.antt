-- Programs that are in place lead each processor from place to place.
use Rattle.std.proofs.Common.{◌≡◌, ℕ, suc, ◌+◌, Bool, true, false, true≢false, List, [], ◌∷◌, Option, Some, None, ap, ◌∙◌, sym, refl, subst}
use Rattle.std.proofs.lemmas.Bool.{eqb-true}
use Rattle.std.specs.Prelude.{◌==◌, is_some, if◌then◌else◌}
use Rattle.fk_syntax.specs.declared.program.Mode.{Mode}
use Rattle.fk_syntax.specs.Tree.{Named, TypeTree}
use Rattle.fk_syntax.specs.Program.{DeclaredTree, Statements, FunctionTree}
use Rattle.fk_meaning_forms.specs.Code.{Code, done, perform, choose, while, until, turn, again, quit, break, continue, call, ends, size, numbered}
use Rattle.fk_meaning_forms.specs.Tables.{Tables, frame_at}
use Rattle.fk_meaning_forms.specs.Expressions.{Signature}
use Rattle.fk_meaning_forms.specs.Statements.{Inside, is_nothing}
use Rattle.fk_meaning_forms.specs.Program.{functions_of, binding_of, signature_of, no_signature, signature_in, is_main, code_of, body_in, main_of}
use Rattle.fk_meaning.specs.Shape.{of_function}
use Rattle.fk_meaning.specs.Shaped.{BodyShaped, FunctionsShaped}
use Rattle.fk_meaning.proofs.Spine.{untrue}
use Rattle.fk_meaning.proofs.NestedPrograms.{body_shaped}
use Rattle.fk_lockstep_tree.specs.Where.{Where}
use Rattle.fk_lockstep_structure.specs.Placed as w
use Rattle.fk_lockstep_structure.specs.InPlace.{NoneShared, BodyInPlace, FunctionsInPlace}
use Rattle.fk_lockstep_structure.specs.Inner.{FunctionsInner}
use Rattle.fk_lockstep_tree.specs.Leads.{Loop, turning, Leads}
use Rattle.fk_compile.specs.Led.{ProgramsAreLed}
use Rattle.fk_compile.proofs.Wants.{Base, Main, Root, Group, Body, place_of, who_of, Want}
use Rattle.fk_compile.proofs.LedTexts.{MayLeave, body_leads}

-- numbers in place of the places change nothing
numbers : {A : Type 0} (may_call : (in_group : Bool) → (function : ℕ) → Bool) (f : Where) (l : Option Loop) (p : Where) (code : Code A) (e : Where) (first : ℕ)
    → Leads may_call f l p code e → Leads may_call f l p (numbered first code) e
numbers may_call f l p done e first h = h
numbers may_call f l p (perform t op rest) e first h = (h.0, h.1, numbers may_call f l h.0 rest e (suc first) h.2)
numbers may_call f l p (choose t op a b rest) e first h = (
  h.0,
  h.1,
  h.2,
  h.3,
  h.4,
  h.5,
  numbers may_call f l h.0 a h.2 (suc first) h.6,
  numbers may_call f l h.1 b h.3 (suc first + size a) h.7,
  numbers may_call f l h.2 rest e (suc first + size a + size b) h.8,
  numbers may_call f l h.3 rest e (suc first + size a + size b) h.9,
)
numbers may_call f l p (while test body step rest) e first h =
    let loop = Some (turning p h.0) in (
      h.0,
      numbers may_call f loop p test p first h.1,
      numbers may_call f loop p body p (first + size test) h.2,
      numbers may_call f loop p step p (first + size test + size body) h.3,
      numbers may_call f l h.0 rest e (first + size test + size body + size step) h.4,
    )
numbers may_call f l p (until body test rest) e first h =
    let loop = Some (turning p h.0) in (
      h.0,
      numbers may_call f loop p body p first h.1,
      numbers may_call f loop p test p (first + size body) h.2,
      numbers may_call f l h.0 rest e (first + size body + size test) h.3,
    )
numbers may_call f l p (turn test body step rest) e first h = absurd h
numbers may_call f l p (again test body step rest) e first h = absurd h
numbers may_call f l p (quit t op rest) e first h = (h.0, h.1, h.2, numbers may_call f l p rest e (suc first) h.3)
numbers may_call f l p (break rest) e first h = (h.0, h.1, numbers may_call f l p rest e first h.2)
numbers may_call f l p (continue rest) e first h = (h.0, h.1, numbers may_call f l p rest e first h.2)
numbers may_call f l p (call t op function opening rest) e first h =
    (h.0, h.1, numbers may_call p None p opening p (suc first) h.2, numbers may_call f l p rest e (suc first + size opening) h.3)
numbers may_call f l p (ends t op rest) e first h = (h.0, h.1, numbers may_call f l p rest e (suc first) h.2)

abbrev wanted : Base → (outermost : Bool) → Want
wanted b outermost = record {
  base = b;
  outermost = outermost;
  function = place_of b;
  loop = None;
  exits = of_function;
  part = false;
  breaks = λ e. untrue e;
  continues = λ e. untrue e;
  tests = λ e. untrue e;
  returns = λ e. refl;
  parted = λ e. untrue e;
}

module _ (tables : Tables) (may_call : (in_group : Bool) → (function : ℕ) → Bool) (everyone : List FunctionTree) where
  abbrev functions : (binding : ℕ) → Signature
  functions = signature_in tables everyone

  -- what is so of the functions that processors call by themselves
  abbrev AreCalledAlone : (P : Signature → Type 0) → List FunctionTree → Type 0
  AreCalledAlone P [] = P no_signature
  AreCalledAlone P (f ∷ fs) = (may_call false (binding_of tables f) ≡ true → P (signature_of f)) × AreCalledAlone P fs

  called_alone : (P : Signature → Type 0) (fs : List FunctionTree) → AreCalledAlone P fs → (binding : ℕ) → may_call false binding ≡ true → P (signature_in tables fs binding)
  called_alone P [] h binding may = h
  called_alone P (f ∷ fs) h binding may = by (binding_of tables f == binding) refl (called_alone P fs h.1 binding may)
    where
      by : (is : Bool) → (binding_of tables f == binding) ≡ is → P (signature_in tables fs binding) → P (if is then signature_of f else signature_in tables fs binding)
      by true is others = h.0 (subst (λ b. may_call false b ≡ true) (sym (eqb-true (binding_of tables f) binding is)) may)
      by false is others = others

  -- they have no parameters with `sh`, and no frame
  none_shared : (main : ℕ) (fs : List FunctionTree) → FunctionsInPlace tables may_call main fs → AreCalledAlone (λ s. NoneShared s.parameters) fs
  none_shared main [] h = tt
  none_shared main (f ∷ fs) h = ((λ may. (h.1 may).2), none_shared main fs h.3)

  none_framed : (fs : List FunctionTree) → frame_at tables no_signature.at 0 ≡ None → FunctionsInner tables may_call fs → AreCalledAlone (λ s. frame_at tables s.at 0 ≡ None) fs
  none_framed [] none h = none
  none_framed (f ∷ fs) none h = (h.1, none_framed fs none h.2)

  module _ (unshared : (binding : ℕ) → may_call false binding ≡ true → NoneShared (functions binding).parameters)
      (frameless : (binding : ℕ) → may_call false binding ≡ true → frame_at tables (functions binding).at 0 ≡ None) where
    abbrev Leaves : FunctionTree → Base → Type 0
    Leaves f b = MayLeave (is_main f) (is_some (frame_at tables f.name.at 0)) (place_of b)

    -- a function, by its parts
    function_by : (b : Base) (outermost main : Bool) (mode : Mode) (result : TypeTree) (name : Named) (parameters : List DeclaredTree) (body : Option Statements)
        → let f : FunctionTree = record { mode = mode; result = result; name = name; parameters = parameters; body = body } in
        is_main f ≡ main → w.is_main (who_of b outermost) ≡ main → BodyInPlace tables may_call main (who_of b outermost) body → Leaves f b → BodyShaped tables functions body
        → Leads may_call (place_of b) None (place_of b) (code_of tables everyone f) (place_of b)
    function_by b outermost main mode result name parameters None is who_is h leaves shaped = refl
    function_by b outermost main mode result name parameters (Some statements) is who_is h leaves shaped =
        let f : FunctionTree = record { mode = mode; result = result; name = name; parameters = parameters; body = Some statements } in
        let inside : Inside = record { main = is_main f; framed = is_some (frame_at tables name.at 0) } in
        body_leads tables functions may_call unshared frameless (wanted b outermost) inside (is_nothing result) statements
        (subst (λ m. w.is_main (who_of b outermost) ≡ m) (sym is) who_is) leaves
        (subst (λ m. BodyInPlace tables may_call m (who_of b outermost) (Some statements)) (sym is) h)
        (body_shaped tables functions inside (is_nothing result) statements shaped)

    -- functions that are run there; and `main`
    abbrev Given : (b : Base) (outermost : Bool) (binding : ℕ) → FunctionTree → Type 0
    Given b outermost binding f =
        (binding_of tables f == binding) ≡ true
        → (main : Bool) × (is_main f ≡ main) × (w.is_main (who_of b outermost) ≡ main) × BodyInPlace tables may_call main (who_of b outermost) f.body
        × Leaves f b

    abbrev AllGiven : (b : Base) (outermost : Bool) (binding : ℕ) → List FunctionTree → Type 0
    AllGiven b outermost binding [] = Unit {0}
    AllGiven b outermost binding (f ∷ fs) = Given b outermost binding f × AllGiven b outermost binding fs

    bodies : (b : Base) (outermost : Bool) (binding : ℕ) (fs : List FunctionTree) (first : ℕ) → AllGiven b outermost binding fs → FunctionsShaped tables functions fs
        → Leads may_call (place_of b) None (place_of b) (body_in tables everyone first fs binding) (place_of b)
    bodies b outermost binding [] first h shaped = refl
    bodies b outermost binding (f ∷ fs) first h shaped =
        by (binding_of tables f == binding) refl
        (bodies b outermost binding fs (first + size (code_of tables everyone f)) h.1 shaped.1)
      where
        by : (is : Bool) → (binding_of tables f == binding) ≡ is
            → Leads may_call (place_of b) None (place_of b) (body_in tables everyone (first + size (code_of tables everyone f)) fs binding) (place_of b)
            → Leads may_call (place_of b) None (place_of b)
            (if is then numbered first (code_of tables everyone f) else body_in tables everyone (first + size (code_of tables everyone f)) fs binding) (place_of b)
        by true is others =
            let g = h.0 is in
            numbers may_call (place_of b) None (place_of b) (code_of tables everyone f) (place_of b) first
            (function_by b outermost g.0 f.mode f.result f.name f.parameters f.body g.1 g.2 g.3 g.4 shaped.0)
        by false is others = others

    in_groups : (depth main binding : ℕ) (fs : List FunctionTree) → may_call true binding ≡ true → FunctionsInPlace tables may_call main fs → AllGiven (Group depth) true binding fs
    in_groups depth main binding [] may h = tt
    in_groups depth main binding (f ∷ fs) may h = (
      (λ e.
          let g = h.0 (subst (λ b. may_call true b ≡ true) (sym (eqb-true (binding_of tables f) binding e)) may) in
          (false, g.0, refl, g.1, λ main' framed. (depth, refl))),
      in_groups depth main binding fs may h.3,
    )

    -- functions that are called by processors by themselves
    in_bodies : (b : Base) → who_of b true ≡ w.OfBody → (main binding : ℕ) (fs : List FunctionTree) → may_call false binding ≡ true → FunctionsInPlace tables may_call main fs
        → FunctionsInner tables may_call fs → AllGiven b true binding fs
    in_bodies b is main binding [] may h i = tt
    in_bodies b is main binding (f ∷ fs) may h i = (
      (λ e.
          let may' = subst (λ k. may_call false k ≡ true) (sym (eqb-true (binding_of tables f) binding e)) may in
          let g = h.1 may' in (
            false,
            g.0,
            ap w.is_main is,
            subst (λ who. BodyInPlace tables may_call false who f.body) (sym is) g.1,
            λ main' framed. absurd (true≢false (sym framed ∙ ap is_some (i.1 may'))),
          )),
      in_bodies b is main binding fs may h.3 i.2,
    )

    in_main : (main : ℕ) (fs : List FunctionTree) → FunctionsInPlace tables may_call main fs → AllGiven Main true main fs
    in_main main [] h = tt
    in_main main (f ∷ fs) h = ((λ e. let g = h.2 e in (true, g.0, refl, g.1, λ main' framed. absurd (true≢false (sym g.0 ∙ main')))), in_main main fs h.3)

pub programs_are_led : ProgramsAreLed
programs_are_led tables program may_call placed inner none shaped =
    let fs = functions_of program.items in
    let main = main_of tables program in
    let unshared = called_alone tables may_call fs (λ s. NoneShared s.parameters) fs (none_shared tables may_call fs main fs placed.in_place) in
    let frameless = called_alone tables may_call fs (λ s. frame_at tables s.at 0 ≡ None) fs (none_framed tables may_call fs fs none inner) in
    record {
      shaped = shaped;
      in_group = λ depth function closed may.
          bodies tables may_call fs unshared frameless (Group depth) true function fs 0 (in_groups tables may_call fs unshared frameless depth main function fs may placed.in_place) placed.shaped;
      in_root = λ function closed may.
          bodies tables may_call fs unshared frameless Root true function fs 0 (in_bodies tables may_call fs unshared frameless Root refl main function fs may placed.in_place inner) placed.shaped;
      in_body = λ depth function closed may.
          bodies tables may_call fs unshared frameless (Body depth) true function fs 0 (in_bodies tables may_call fs unshared frameless (Body depth) refl main function fs may placed.in_place inner) placed.shaped;
      main_of = bodies tables may_call fs unshared frameless Main true main fs 0 (in_main tables may_call fs unshared frameless main fs placed.in_place) placed.shaped;
    }
