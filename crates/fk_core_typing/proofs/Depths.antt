-- Flat lists of well typed code have the depths that are counted along it.
use Rattle.std.proofs.Common.{◌≡◌, ℕ, suc, ◌+◌, ◌-◌, ◌≤◌, true, List, [], length, slice_get, Option, Some, None, inl, inr, refl, sym, ap, ◌∙◌, subst, arith}
use Rattle.std.specs.Prelude.{◌⊎◌}
use Rattle.std.proofs.lemmas.Option.{slice_get_past}
use Rattle.fk_meaning_operation.specs.declared.operation.Operation.{Operation}
use Rattle.fk_meaning_operation.specs.declared.operation.Operation.TheVariants as o
use Rattle.fk_layout_sizes.specs.Operations.{takes}
use Rattle.fk_meaning_forms.specs.Code.{Code}
use Rattle.fk_core_liveness.specs.declared.places.FunctionKind.{FunctionKind}
use Rattle.fk_core_liveness.specs.declared.places.FunctionKind.TheVariants as p
use Rattle.fk_core.specs.declared.op.CoreOp.{CoreOp}
use Rattle.fk_core.specs.Numbers.{operation_of}
use Rattle.fk_core.specs.Next.{landing, behind_jump, follows}
use Rattle.fk_core.specs.WellFormed.{IsOperation}
use Rattle.fk_core.proofs.Leading.{op_stops}
use Rattle.fk_core_flat.specs.Items.{Item, jump, act, way_of}
use Rattle.fk_core_flat.specs.Shape.{is_done, is_closed}
use Rattle.fk_core_flat.proofs.CodeAt.{Stood}
use Rattle.fk_core_flat.proofs.Jumps.{jumps_lead_to_operations}
use Rattle.fk_core_typing.specs.declared.places.Within.{Within}
use Rattle.fk_core_typing.specs.declared.places.Within.TheVariants.{Main, Called}
use Rattle.fk_core_typing.specs.LocalDepths as d
use Rattle.fk_core_typing.specs.LocalDepths.{results, leaves, is_ordinary}
use Rattle.fk_core_typing.proofs.Asked.{stays_none, stays_at, leads_to, ordinary}
use Rattle.fk_core_typing.specs.Values.{Place, with_frame, entered, State, bare, behind, behind_call, Grants}
use Rattle.fk_core_typing.specs.Heights.{HasHeights}
use Rattle.fk_core_typing.specs.Laws.{IsTypedList, HasHeightsOf, TypedListsHaveDepths}
use Rattle.fk_core_typing.proofs.Granting.{as_long, grants_both}
use Rattle.fk_core_typing.proofs.Rising.{changed_length, rises}
use Rattle.fk_core_typing.proofs.Sound.{Comes, SoundAt, IsSound}
use Rattle.fk_core_typing.proofs.Valued as v
use Rattle.fk_core_typing.proofs.Valued.{same_ways, values, values_lawful, all_judged}
use Rattle.fk_core_typing.proofs.Listed.{some_same, entries, Found, found, of_jump, of_operation, goes_on}
use Rattle.fk_core_typing.proofs.Knowing.{label_done, same_function}

abbrev within_kind : FunctionKind → Within
within_kind p.Main = Main
within_kind (p.Called gives) = Called gives

abbrev within_of : Place → Within
within_of place = within_kind place.function

module _ (bodies : ℕ → Code ℕ) (core : List CoreOp) (entry : ℕ → ℕ) (place_of : ℕ → FunctionKind) (frame_of : ℕ → Option ℕ) (typed : IsTypedList bodies core entry place_of frame_of)
    (tall : HasHeightsOf bodies core place_of) where
  abbrev at : ℕ → State
  at = v.at bodies core entry place_of frame_of typed

  heights : true ≡ true → (f : ℕ) → HasHeights place_of tall.depth 0 (bodies f)
  heights z = tall.heights

  abbrev ComesTo : State → ℕ → Type 0
  ComesTo = Comes core entry place_of (values place_of frame_of) (values_lawful place_of frame_of) at true tall.depth

  abbrev within : ℕ → Within
  within i = within_of (at i).place

  abbrev Sounds : ℕ → CoreOp → Operation → Type 0
  Sounds i op operation = IsSound core entry place_of (values place_of frame_of) (values_lawful place_of frame_of) at true tall.depth (at i) i op.site operation op.target

  sounds : (i : ℕ) (op : CoreOp) (operation : Operation) → slice_get core i ≡ Some op → operation_of op.kind op.number ≡ Some operation → Sounds i op operation
  sounds = of_operation bodies core entry place_of frame_of typed (values place_of frame_of) (values_lawful place_of frame_of) (all_judged bodies core entry place_of frame_of typed) (bare (entered p.Main)) true tall.depth heights

  -- an operation has as many values as its depth says
  deep : (i : ℕ) (op : CoreOp) (operation : Operation) → slice_get core i ≡ Some op → operation_of op.kind op.number ≡ Some operation
      → length (at i).values ≡ op.depth
  deep i op operation e r = sym ((sounds i op operation e r).height refl) ∙ sym (tall.told i op operation e r)

  deep_at : (i : ℕ) (op : CoreOp) → slice_get core i ≡ Some op → IsOperation core i → length (at i).values ≡ op.depth
  deep_at i op e is = deep i op is.operation e (subst (λ (x : CoreOp). operation_of x.kind x.number ≡ Some is.operation) (some_same op is.op (slice_get core i) e is.stands) is.is_read)

  -- who comes to an index in a state comes next to an operation with so many values
  comes_to : (s : State) (j : ℕ) → ComesTo s j → d.Comes core within j (length s.values) (within_of s.place)
  comes_to s j c op e = by (found bodies core entry place_of frame_of typed (values place_of frame_of) (values_lawful place_of frame_of) (all_judged bodies core entry place_of frame_of typed) (bare (entered p.Main)) true tall.depth heights j c.below)
    where
      at_index : (i : ℕ) → landing core j ≡ i → IsOperation core i → Grants s (at i) → (length s.values ≡ op.depth) × (within (landing core j) ≡ within_of s.place)
      at_index i l is g =
          let e' : slice_get core i ≡ Some op = subst (λ x. slice_get core x ≡ Some op) l e in (
            as_long s.values (at i).values g.values ∙ deep_at i op e' is,
            ap within l ∙ ap within_of (sym g.place),
          )

      by_item : (item : Item) → Stood core entry j item → SoundAt core entry place_of (values place_of frame_of) (values_lawful place_of frame_of) at true tall.depth j item
          → (length s.values ≡ op.depth) × (within (landing core j) ≡ within_of s.place)
      by_item (act n operation target) stood sound =
          let stops = op_stops core entry j stood.0 operation stood.1 stood.2.0 stood.0 stood.1 in
          at_index j (stays_at core (length core) j stood.0 stood.1 stops) (record { op = stood.0; operation = operation; stands = stood.1; is_read = stood.2.0 }) c.grants
      by_item (jump target) stood sound =
          let is = jumps_lead_to_operations bodies core entry typed.shaped typed.flat j stood.0 stood.1 stood.2.0 in
          let stops = op_stops core entry stood.0.target is.op is.operation is.stands is.is_read is.op is.stands in
          let leads = leads_to core j stood.0 is.op stood.1 stood.2.0 is.stands stops in
          let g = of_jump bodies core entry place_of frame_of typed (values place_of frame_of) (values_lawful place_of frame_of) (all_judged bodies core entry place_of frame_of typed) (bare (entered p.Main)) true tall.depth heights j stood.0 stood.1 stood.2.0 in
          at_index stood.0.target leads is (grants_both s (at j) (at stood.0.target) c.grants g.grants)

      by : Found bodies core entry place_of frame_of typed (values place_of frame_of) (values_lawful place_of frame_of) (all_judged bodies core entry place_of frame_of typed) (bare (entered p.Main)) true tall.depth heights j → (length s.values ≡ op.depth) × (within (landing core j) ≡ within_of s.place)
      by f = by_item f.item f.stood f.sound

  -- the same at another number of values and place
  comes_with : (s : State) (j count : ℕ) (place : Within) → length s.values ≡ count → within_of s.place ≡ place → ComesTo s j → d.Comes core within j count place
  comes_with s j count place v w c op e =
      let h = comes_to s j c op e in (sym v ∙ h.0, h.1 ∙ w)

  by_ordinary : (op : Operation) (i n target : ℕ) → is_ordinary op ≡ true → IsSound core entry place_of (values place_of frame_of) (values_lawful place_of frame_of) at true tall.depth (at i) i n op target
      → d.GoesOn core within op i target (length (at i).values) (within i)
  by_ordinary op i n target r s =
      ordinary core within op i target (length (at i).values) (within i) r
      (λ onward. comes_with (behind op onward (at i)) (follows core op i target [] onward).at (length (at i).values - takes op + leaves op onward) (within i)
      (rises op onward (at i)) (ap within_kind (same_function op onward (at i).place))
      (goes_on bodies core entry place_of frame_of typed (values place_of frame_of) (values_lawful place_of frame_of) (all_judged bodies core entry place_of frame_of typed) (bare (entered p.Main)) true tall.depth heights op (at i) i target (way_of op) refl r (same_ways op (at i)) s.goes onward))

  goes : (op : Operation) (i n target : ℕ) → IsSound core entry place_of (values place_of frame_of) (values_lawful place_of frame_of) at true tall.depth (at i) i n op target
      → d.GoesOn core within op i target (length (at i).values) (within i)
  goes (o.Enter arguments) i n target s =
      let next : suc i ≡ i + 1 = omega arith in (
        s.goes.1,
        (
          subst (λ j. d.Comes core within j 0 (Called s.goes.1)) next (comes_to (bare (entered (p.Called s.goes.1))) (suc i) s.goes.4),
          subst (λ j. d.Comes core within (behind_jump core j) (length (at i).values - arguments + results s.goes.1) (within i)) next
              (comes_with (behind_call arguments s.goes.1 (at i)) (behind_jump core (suc i)) (length (at i).values - arguments + results s.goes.1) (within i)
              (changed_length arguments (results s.goes.1) (at i).values) refl s.goes.5),
        ),
      )
  goes (o.Leave gives framed) i n target s = ap within_of s.goes.1
  goes o.Halt i n target s = ap within_of s.goes
  goes op i n target s = by_ordinary op i n target refl s

  fits : (i : ℕ) → d.FitsAt core within i
  fits i op operation e r =
      let s = sounds i op operation e r in
      let v = deep i op operation e r in
      subst (λ h. (d.needs operation ≤ h) × d.GoesOn core within operation i op.target h (within i)) v
      (s.may.values, goes operation i op.site op.target s)

  begins : (main : ℕ) → place_of main ≡ p.Main → (is_done (bodies main) ≡ true) ⊎ (is_closed (bodies main) ≡ true) → d.Comes core within (entry main) 0 Main
  begins main is (inl done) op e =
      let end = typed.flat.begins main ∙ label_done (bodies main) None (typed.flat.place main) (length core) done in
      let none : slice_get core (length core) ≡ None = slice_get_past core (length core) (omega arith) in
      let stays = ap (landing core) end ∙ stays_none core (length core) (length core) none in
      let absurdity : ◌≡◌ {A = Option CoreOp} None (Some op) = sym none ∙ sym (ap (slice_get core) stays) ∙ e in
      absurd (cc)
  begins main is (inr closed) op e =
      comes_with (bare (with_frame (place_of main) (frame_of main))) (entry main) 0 Main refl (ap within_kind is) (entries bodies core entry place_of frame_of typed (values place_of frame_of) (values_lawful place_of frame_of) (all_judged bodies core entry place_of frame_of typed) (bare (entered p.Main)) true tall.depth heights main closed) op e

pub typed_lists_have_depths : TypedListsHaveDepths
typed_lists_have_depths bodies core entry place_of frame_of typed tall main is = record {
  within = within bodies core entry place_of frame_of typed tall;
  begins = begins bodies core entry place_of frame_of typed tall main is (typed.shaped main).1;
  fits = fits bodies core entry place_of frame_of typed tall;
}
