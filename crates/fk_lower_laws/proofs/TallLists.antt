-- The depths that are told of a text are those of its code.
use Rattle.std.proofs.Common.{◌≡◌, ℕ, zero, suc, ◌+◌, Bool, true, false, List, [], ◌∷◌, ◌++◌, length, Option, Some, None, refl, sym, ap, subst, arith, length-append}
use Rattle.std.specs.Prelude.{◌==◌, slice_get, unwrap_or, if◌then◌else◌}
use Rattle.std.specs.List.{All}
use Rattle.std.proofs.Math.Seq.{append_snoc}
use Rattle.fk_syntax.specs.Program.{FunctionTree, ItemTree, ProgramTree}
use Rattle.fk_layout_sizes.specs.Places.{beginning}
use Rattle.fk_meaning_forms.specs.Code.{Code, size, numbered}
use Rattle.fk_meaning_forms.specs.Expressions.{Coded}
use Rattle.fk_meaning_forms.specs.Tables.{Tables}
use Rattle.fk_meaning_forms.specs.Program.{binding_of, signature_in, code_of, body_in, bodies_of}
use Rattle.fk_layout_walk.specs.declared.known.ProgramTables.{ProgramTables}
use Rattle.fk_layout_walk.specs.Known.{tables_of, items_in}
use Rattle.fk_layout_walk_statements.specs.Texts.{functions_in}
use Rattle.fk_core.specs.declared.op.CoreOp.{CoreOp}
use Rattle.fk_core_flat.specs.Shape.{is_closed, IsShaped}
use Rattle.fk_core_liveness.specs.declared.places.FunctionKind.{FunctionKind}
use Rattle.fk_lower.specs.Depths.{depth_at, AreTold}
use Rattle.fk_lower_text.specs.Depths.{depths_from, depths_of}
use Rattle.fk_lower_text.proofs.Deep.{many}
use Rattle.fk_lower_text.proofs.Opened.{opened}
use Rattle.fk_core_typing.specs.Values.{with_frame, State, bare}
use Rattle.fk_core_typing.specs.Typed.{Loop, Typed, AreTyped}
use Rattle.fk_core_typing.specs.Heights.{HasHeights}
use Rattle.fk_core_typing.specs.Laws.{HasHeightsOf}
use Rattle.fk_lower_laws.specs.Asked.{place_in, place_of, frame_for, frame_of}
use Rattle.fk_meaning.specs.Shaped.{BodyShaped, FunctionsShaped, ProgramShaped}
use Rattle.fk_lower_laws.proofs.Waiting.{function_waiting}
use Rattle.fk_core_flat.specs.Fitting.{ProgramFits}
use Rattle.fk_core_flat.proofs.Programs.{forms_are_shaped}
use Rattle.fk_lower_laws.proofs.Low.{counted}
use Rattle.fk_lower_laws.proofs.Frames.{agree_in}
use Rattle.fk_lower_laws.specs.HeightLaws.{ListsHaveHeights}
use Rattle.fk_lower_laws.proofs.Heights.{Tell, two, tall}

-- a list tells its own elements
at_length : (before : List ℕ) (x : ℕ) (xs : List ℕ) → slice_get (before ++ x ∷ xs) (length before) ≡ Some x
at_length [] x xs = refl
at_length (y ∷ before) x xs = at_length before x xs

tell_behind : (before xs : List ℕ) → Tell (depth_at (before ++ xs)) (length before) xs
tell_behind before [] = tt
tell_behind before (x ∷ xs) =
    let depths = before ++ x ∷ xs in
    let n : length (before ++ x ∷ []) ≡ suc (length before) = omega (arith, length-append before (x ∷ [])) in
    let here : depth_at depths (length before) ≡ x = ap (λ (found : Option ℕ). unwrap_or found 0) (at_length before x xs) in (
      here,
      subst (λ k. Tell (depth_at depths) k xs) n (subst (λ ds. Tell (depth_at ds) (length (before ++ x ∷ [])) xs) (append_snoc before x xs) (tell_behind (before ++ x ∷ []) xs)),
    )

-- what is so of each operation of a list is so of the one at an index
at_index : (P : CoreOp → Type 0) (core : List CoreOp) → All P core → (i : ℕ) (op : CoreOp) → slice_get core i ≡ Some op → P op
at_index P [] all i op e = cc
at_index P (x ∷ core) all zero op e = let same : x ≡ op = cc in subst P same (all 0 x (omega arith))
at_index P (x ∷ core) all (suc i) op e = at_index P core (λ k d h. all (suc k) d (omega (arith, h))) i op e

module _ (known : ProgramTables) (has_body : ℕ → Bool) where
  abbrev tables : Tables
  tables = tables_of known

  abbrev everyone : List FunctionTree
  everyone = functions_in known

  abbrev places : (binding : ℕ) → FunctionKind
  places b = place_in tables everyone b

  abbrev frames : (binding : ℕ) → Option ℕ
  frames b = frame_for tables (signature_in tables everyone) places b

  function_tall : (depth : ℕ → ℕ) (f : FunctionTree) (site : ℕ) (l : Option Loop) (s e : State)
      → BodyShaped tables (signature_in tables everyone) f.body → IsShaped has_body false (numbered site (code_of tables everyone f))
      → Typed places frames l s (numbered site (code_of tables everyone f)) e
      → Tell depth site (depths_from (signature_in tables everyone) beginning (code_of tables everyone f))
      → HasHeights places depth 0 (numbered site (code_of tables everyone f))
  function_tall depth f site l s e all shaped typed told =
      let code = code_of tables everyone f in
      let functions = signature_in tables everyone in
      tall functions places depth code beginning site refl
      (counted functions places frames (agree_in tables everyone) has_body code site false l s e shaped typed (function_waiting tables everyone f all))
      (opened has_body code site false shaped) told

  abbrev code : FunctionTree → Coded
  code f = code_of tables everyone f

  abbrev own : FunctionTree → List ℕ
  own f = depths_from (signature_in tables everyone) beginning (code f)

  abbrev behind : FunctionTree → List FunctionTree → (site b : ℕ) → Code ℕ
  behind f fs site b = body_in tables everyone (site + size (code f)) fs b

  bodies_tall : (depth : ℕ → ℕ) (fs : List FunctionTree) (site b : ℕ) (l : Option Loop) (s e : State) → FunctionsShaped tables (signature_in tables everyone) fs
      → IsShaped has_body false (body_in tables everyone site fs b) → Typed places frames l s (body_in tables everyone site fs b) e
      → Tell depth site (depths_of known fs) → HasHeights places depth 0 (body_in tables everyone site fs b)
  bodies_tall depth [] site b l s e all shaped typed told = tt
  bodies_tall depth (f ∷ fs) site b l s e all shaped typed told =
      by (binding_of tables f == b)
      (λ shaped typed. bodies_tall depth fs (site + size (code f)) b l s e all.1 shaped typed parts.1)
      shaped typed
    where
      parts : Tell depth site (own f) × Tell depth (site + size (code f)) (depths_of known fs)
      parts = two depth (own f) (depths_of known fs) site (site + size (code f)) (ap (λ k. site + k) (many (signature_in tables everyone) (code f) beginning)) told

      by : (is : Bool) → (IsShaped has_body false (behind f fs site b) → Typed places frames l s (behind f fs site b) e → HasHeights places depth 0 (behind f fs site b))
          → IsShaped has_body false (if is then numbered site (code f) else behind f fs site b)
          → Typed places frames l s (if is then numbered site (code f) else behind f fs site b) e
          → HasHeights places depth 0 (if is then numbered site (code f) else behind f fs site b)
      by true more shaped' typed' =
          function_tall depth f site l s e all.0 shaped' typed' parts.0
      by false more shaped' typed' = more shaped' typed'

abbrev Holds : ProgramTables → List CoreOp → ProgramTree → Type 0
Holds known core program =
    ProgramFits (tables_of known) program → ProgramShaped (tables_of known) program
    → AreTyped (place_of (tables_of known) program) (frame_of (tables_of known) program) (bodies_of (tables_of known) program)
    → AreTold (depths_of known (functions_in known)) core
    → HasHeightsOf (bodies_of (tables_of known) program) core (place_of (tables_of known) program)

-- of a program that has the very items
own_heights : (known : ProgramTables) (program : ProgramTree) (core : List CoreOp) → Holds known core (record program { items = items_in known })
own_heights known program core fits all typed told =
    let own : ProgramTree = record program { items = items_in known } in
    let depths = depths_of known (functions_in known) in
    record {
      depth = depth_at depths;
      told = λ i op operation here is. at_index (λ op. op.depth ≡ depth_at depths op.site) core told i op here;
      heights = λ b.
          let end = typed b in
          let shaped = forms_are_shaped (tables_of known) own fits b in
          bodies_tall known (λ f. is_closed (bodies_of (tables_of known) own f)) (depth_at depths) (functions_in known) 0 b None
          (bare (with_frame (place_of (tables_of known) own b) (frame_of (tables_of known) own b))) end.0 all shaped.0 end.1
          (tell_behind [] depths);
    }

pub lists_have_heights : ListsHaveHeights
lists_have_heights known program core items =
    let same = ap (λ (items : List ItemTree). let with_items : ProgramTree = record program { items = items } in with_items) items in
    subst (Holds known core) (sym same) (own_heights known program core)
