-- A list that another interpreter of the same rules made, of functions that are well typed:
-- int f(int n) { return n ? 1 + f(n - 1) : 0; } void main(void) { putint(f(3)); }
use Rattle.std.proofs.Common.{◌≡◌, ℕ, zero, suc, ◌+◌, ◌<◌, ◌≤◌, Bool, true, false, List, [], ◌∷◌, slice_get, get_or, Option, None, Some, inl, inr, refl, sym, ap, ◌∙◌, subst, arith}
use Rattle.std.specs.Prelude.{◌==◌, ◌||◌, ◌&&◌, ◌⊎◌}
use Rattle.std.proofs.lemmas.Bool.{eqb-true}
use Rattle.fk_meaning_forms.specs.Code.{done}
use Rattle.fk_core.specs.declared.op.CoreOp.{CoreOp}
use Rattle.fk_core.specs.Next.{is_jump}
use Rattle.fk_core.proofs.Leading.{op_stops}
use Rattle.fk_core.proofs.Examples.{recursion_core as core}
use Rattle.fk_core_flat.specs.Flat.{extent}
use Rattle.fk_core_flat.proofs.ListExamples.{f_code, main_code, of_binding, bodies, entry, is_flat, are_shaped}
use Rattle.fk_core_typing.specs.LocalDepths.{HasLocalDepths}
use Rattle.fk_core_liveness.specs.declared.places.FunctionKind.{FunctionKind}
use Rattle.fk_core_liveness.specs.declared.places.FunctionKind.TheVariants.{Main, Called}
use Rattle.fk_lockstep_frames.specs.Lists.{HasLocalFrames}
use Rattle.fk_core_typing.specs.LocalAddresses.{HasKnowledge}
use Rattle.fk_core_typing.specs.declared.constants.Constant.TheVariants.{Number}
use Rattle.fk_core_typing.specs.AddressValues.{constants}
use Rattle.fk_core_typing.specs.Values.{Unknown, entered, State, bare, Grants}
use Rattle.fk_core_typing.specs.Typed.{Typed, IsTyped, AreTyped}
use Rattle.fk_core_typing.specs.Heights.{HasHeights}
use Rattle.fk_core_typing.specs.Laws.{IsTypedList, LeadsWithin, HasHeightsOf}
use Rattle.fk_core_typing.proofs.Granting.{none_asked, good_as_itself, grants_itself}
use Rattle.fk_core_typing.proofs.Examples.{may, at}
use Rattle.fk_core_typing.proofs.LeadingWithin.{typed_lists_lead_within}
use Rattle.fk_core_typing.proofs.Knowing.{typed_lists_know}
use Rattle.fk_core_typing.proofs.Depths.{typed_lists_have_depths}

abbrev place_of : ℕ → FunctionKind
place_of f = of_binding (Called true) Main (Called true) (f == 0) (f == 1)

abbrev frame_of : ℕ → Option ℕ
frame_of f = None

abbrev none : State
none = at (Called true) []

abbrev one : State
one = at (Called true) (Unknown ∷ [])

-- one value of which nothing is asked, whatever constant it is
any : (place : FunctionKind) (n : ℕ) → Grants (record { place = entered place; values = Unknown ∷ []; constants = constants (Some (Number n)) None }) (at place (Unknown ∷ []))
any place n = record { place = refl; values = good_as_itself (Unknown ∷ []); constants = none_asked _ }

f_is_typed : IsTyped place_of frame_of 0 f_code
f_is_typed = (
  none,
  (
    may _ _ tt (omega arith, omega arith) tt,
    (
      may _ _ tt (omega arith, omega arith) tt,
      one,
      (may _ _ tt (omega arith, omega arith) tt, (may _ _ tt (omega arith, omega arith) tt, (may _ _ tt (omega arith, omega arith) tt, (may _ _ tt (omega arith, omega arith) tt, (may _ _ tt (omega arith, omega arith) tt, true, refl, grants_itself none, (may _ _ tt (omega arith, omega arith) tt, grants_itself one)))))),
      (may _ _ tt (omega arith, omega arith) tt, any (Called true) 0),
      (may _ _ tt (omega arith, omega arith) tt, (None, refl, refl), (may _ _ tt (omega arith, omega arith) tt, (may _ _ tt (omega arith, omega arith) tt, (None, refl, refl), grants_itself none))),
      refl,
    ),
  ),
)

main_is_typed : IsTyped place_of frame_of 1 main_code
main_is_typed = (
  at Main [],
  (
    may _ _ tt (omega arith, omega arith) tt,
    (may _ _ tt (omega arith, omega arith) tt, true, refl, grants_itself none, (may _ _ tt (omega arith, omega arith) tt, (may _ _ tt (omega arith, omega arith) tt, refl, grants_itself (at Main [])))),
  ),
)

typed_by : (is_f is_main : Bool)
    → (end : State) × Typed place_of frame_of None (bare (entered (of_binding (Called true) Main (Called true) is_f is_main))) (of_binding f_code main_code done is_f is_main) end
typed_by true is_main = f_is_typed
typed_by false true = main_is_typed
typed_by false false = (none, grants_itself none)

are_typed : AreTyped place_of frame_of bodies
are_typed f = typed_by (f == 0) (f == 1)

-- which binding an index lies in
abbrev owner : ℕ → ℕ → Type 0
owner i f = ((i < 14) × (f ≡ 0)) ⊎ ((14 ≤ i) × (f ≡ 1))

owned : (i f : ℕ) (is_f is_main : Bool) → (f == 0) ≡ is_f → (f == 1) ≡ is_main
    → of_binding 0 14 19 is_f is_main ≤ i → i < of_binding 0 14 19 is_f is_main + extent false (of_binding f_code main_code done is_f is_main) → owner i f
owned i f true is_main a b low high = inl ((let h : i < 0 + 14 = high in omega (arith, h)), eqb-true f 0 a)
owned i f false true a b low high = inr (low, eqb-true f 1 b)
owned i f false false a b low high = absurd (let h : i < 19 + 0 = high in let l : 19 ≤ i = low in let z : ⊥ = omega (arith, h, l) in z)

same_owner : (i f g : ℕ) → owner i f → owner i g → f ≡ g
same_owner i f g (inl a) (inl b) = a.1 ∙ sym b.1
same_owner i f g (inr a) (inr b) = a.1 ∙ sym b.1
same_owner i f g (inl a) (inr b) = absurd (let x = a.0 in let y = b.0 in let z : ⊥ = omega (arith, x, y) in z)
same_owner i f g (inr a) (inl b) = absurd (let x = a.0 in let y = b.0 in let z : ⊥ = omega (arith, x, y) in z)

typed_list : IsTypedList bodies core entry place_of frame_of
typed_list = record {
  shaped = are_shaped;
  flat = is_flat;
  apart = λ i f g a b. same_owner i f g (owned i f (f == 0) (f == 1) refl refl a.0 a.1) (owned i g (g == 0) (g == 1) refl refl b.0 b.1);
  typed = are_typed;
}

-- the depths in the list are those that are counted
abbrev depth : ℕ → ℕ
depth n = get_or (0 ∷ 1 ∷ 0 ∷ 1 ∷ 2 ∷ 3 ∷ 2 ∷ 2 ∷ 0 ∷ 1 ∷ 0 ∷ 1 ∷ 0 ∷ 1 ∷ 1 ∷ 0 ∷ []) n 0

abbrev is_told : CoreOp → Bool
is_told op = is_jump op || (op.depth == depth op.site)

-- all of a list are so
abbrev each : (p : CoreOp → Bool) → List CoreOp → Bool
each p [] = true
each p (op ∷ ops) = p op && each p ops

both : (a b : Bool) → (a && b) ≡ true → (a ≡ true) × (b ≡ true)
both true true e = (refl, refl)
both true false e = absurd (cc)
both false b e = absurd (cc)

each_at : (p : CoreOp → Bool) (ops : List CoreOp) (i : ℕ) (op : CoreOp) → each p ops ≡ true → slice_get ops i ≡ Some op → p op ≡ true
each_at p [] i op h e = absurd (cc)
each_at p (x ∷ xs) zero op h e = let same : x ≡ op = cc in subst (λ y. p y ≡ true) same (both (p x) (each p xs) h).0
each_at p (x ∷ xs) (suc i) op h e = each_at p xs i op (both (p x) (each p xs) h).1 e

heights_by : (is_f is_main : Bool) → HasHeights place_of depth 0 (of_binding f_code main_code done is_f is_main)
heights_by true is_main = (refl, (refl, (refl, (refl, (refl, (refl, (refl, tt, (refl, tt)))))), (refl, tt), (refl, (refl, (refl, tt)))))
heights_by false true = (refl, (refl, tt, (refl, (refl, tt))))
heights_by false false = tt

has_heights : HasHeightsOf bodies core place_of
has_heights = record {
  depth = depth;
  told = λ i op operation e r.
      (let n = op_stops core entry i op operation e r op e in
      let t = each_at is_told core i op refl e in
      eqb-true op.depth (depth op.site) (sym (ap (λ b. b || (op.depth == depth op.site)) n) ∙ t));
  heights = λ f. heights_by (f == 0) (f == 1);
}

has_depths : HasLocalDepths core 14
has_depths = typed_lists_have_depths bodies core entry place_of frame_of typed_list has_heights 1 refl

has_knowledge : (local : HasLocalFrames core 14) × HasKnowledge core 14 local.nests
has_knowledge = typed_lists_know bodies core entry place_of frame_of typed_list 1 refl refl

leads_within : LeadsWithin core
leads_within = typed_lists_lead_within bodies core entry place_of frame_of typed_list
