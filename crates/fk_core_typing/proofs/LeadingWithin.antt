-- Flat lists of well typed code stay within themselves.
use Rattle.std.proofs.Common.{◌≡◌, ℕ, zero, suc, ◌<◌, Bool, true, false, true≢false, List, [], ◌∷◌, length, All, Option, arith, refl, sym, ◌∙◌, subst}
use Rattle.fk_meaning_operation.specs.declared.operation.Operation.{Operation}
use Rattle.fk_meaning_operation.specs.declared.operation.Operation.TheVariants as o
use Rattle.fk_core_liveness.specs.declared.places.FunctionKind.{FunctionKind}
use Rattle.fk_meaning_forms.specs.Code.{Code}
use Rattle.fk_core.specs.declared.op.CoreOp.{CoreOp}
use Rattle.fk_core.specs.Next.{follows, behind_jump}
use Rattle.fk_core_flat.specs.Items as w
use Rattle.fk_core_flat.specs.Items.{Way, way_of}
use Rattle.fk_core_flat.specs.Shape.{is_closed}
use Rattle.fk_core_flat.proofs.Ways.{goes_by}
use Rattle.fk_core_flat.proofs.Jumps.{jumps_lead_to_operations}
use Rattle.fk_sim_block.specs.Lists.{is_end, StaysInList}
use Rattle.fk_core_liveness.specs.declared.places.FunctionKind.TheVariants.{Main}
use Rattle.fk_core_typing.specs.Values.{entered, bare}
use Rattle.fk_core_typing.specs.Laws.{IsTypedList, TypedListsLeadWithin}
use Rattle.fk_core_typing.proofs.Sound.{Goes}
use Rattle.fk_core_typing.proofs.System.{System, IsLawful}
use Rattle.fk_core_typing.proofs.Valued.{values, values_lawful, all_judged, at}
use Rattle.fk_core_typing.proofs.Listed.{of_operation, entries}

out_ends : (op : Operation) → way_of op ≡ w.out → is_end op ≡ true
out_ends (o.Leave gives framed) e = refl
out_ends o.Halt e = refl
out_ends op e = absurd (cc)

module _ (core : List CoreOp) (entry : ℕ → ℕ) (place_of : ℕ → FunctionKind) (sys : System) (lawful : IsLawful sys place_of) (state : ℕ → sys.State) (told : Bool) (depth : ℕ → ℕ) where
  nobody : All (λ i. i < length core) []
  nobody k d h = absurd (let z : ⊥ = omega arith in z)

  one : (j : ℕ) → j < length core → All (λ i. i < length core) (j ∷ [])
  one j b zero d h = b
  one j b (suc k) d h = absurd (let z : ⊥ = omega arith in z)

  inside : (op : Operation) (s : sys.State) (i target : ℕ) (way : Way) → way_of op ≡ way → is_end op ≡ false
      → Goes core entry place_of sys lawful state told depth way op s i target
      → (onward : Bool) → StaysInList core (follows core op i target [] onward)
  inside op s i target w.straight e n g onward = subst (StaysInList core) (sym (goes_by core op w.straight e i target [] onward)) (record { at = g.below; callers = nobody })
  inside op s i target w.either e n g true = subst (StaysInList core) (sym (goes_by core op w.either e i target [] true)) (record { at = g.0.below; callers = nobody })
  inside op s i target w.either e n g false = subst (StaysInList core) (sym (goes_by core op w.either e i target [] false)) (record { at = g.1.below; callers = nobody })
  inside op s i target w.onto e n g onward = subst (StaysInList core) (sym (goes_by core op w.onto e i target [] onward)) (record { at = g.below; callers = nobody })
  inside op s i target w.into e n g onward = subst (StaysInList core) (sym (goes_by core op w.into e i target [] onward)) (record { at = g.4.below; callers = one (behind_jump core (suc i)) g.5.below })
  inside op s i target w.out e n g onward = absurd (true≢false (sym (out_ends op e) ∙ n))

-- a function with code begins in the list
pub entries_are_within : (bodies : ℕ → Code ℕ) (core : List CoreOp) (entry : ℕ → ℕ) (place_of : ℕ → FunctionKind) (frame_of : ℕ → Option ℕ) → IsTypedList bodies core entry place_of frame_of
    → (f : ℕ) → is_closed (bodies f) ≡ true → entry f < length core
entries_are_within bodies core entry place_of frame_of typed f closed =
    let none : ℕ → ℕ = λ n. 0 in
    let comes = entries bodies core entry place_of frame_of typed (values place_of frame_of) (values_lawful place_of frame_of) (all_judged bodies core entry place_of frame_of typed) (bare (entered Main)) false none (λ z. absurd (true≢false (sym z))) f closed in
    comes.below

pub typed_lists_lead_within : TypedListsLeadWithin
typed_lists_lead_within bodies core entry place_of frame_of typed =
    let none : ℕ → ℕ = λ n. 0 in
    record {
      jumps = λ i op e z. jumps_lead_to_operations bodies core entry typed.shaped typed.flat i op e z;
      within = λ i op operation e is n onward.
          (let sound = of_operation bodies core entry place_of frame_of typed (values place_of frame_of) (values_lawful place_of frame_of) (all_judged bodies core entry place_of frame_of typed) (bare (entered Main)) false none (λ z. absurd (true≢false (sym z))) i op operation e is in
          inside core entry place_of (values place_of frame_of) (values_lawful place_of frame_of) (at bodies core entry place_of frame_of typed) false none operation (at bodies core entry place_of frame_of typed i) i op.target (way_of operation) refl n sound.goes onward);
    }
