-- At each index of a list its counts are the levels of the states, for each system of states that keeps their places.
use Rattle.std.proofs.Common.{◌≡◌, ◌⊎◌, ℕ, zero, suc, ◌+◌, ◌-◌, ◌<◌, ◌≤◌, Bool, false, List, [], ◌∷◌, length, slice_get, Option, Some, None, inl, inr, refl, sym, ap, ◌∙◌, subst, arith}
use Rattle.std.proofs.lemmas.Bool.{cases_lt}
use Rattle.std.proofs.lemmas.Option.{slice_get_within}
use Rattle.fk_meaning_operation.specs.declared.operation.Operation.TheVariants.{Split, Shrink}
use Rattle.fk_meaning_forms.specs.Code.{Code}
use Rattle.fk_meaning.specs.Shape.{of_function, Shape}
use Rattle.fk_meaning.proofs.Spine.{untrue}
use Rattle.fk_meaning_operation.specs.declared.operation.Operation.{Operation}
use Rattle.fk_core.specs.declared.op.CoreOp.{CoreOp}
use Rattle.fk_core_levels.specs.Count.{read, counts, nests}
use Rattle.fk_core_levels.specs.Forks.{fork_at, fork_in, level_forks}
use Rattle.fk_core_flat.specs.Flat.{extent, flat}
use Rattle.fk_core_flat.specs.Shape.{is_closed}
use Rattle.fk_core_flat.proofs.Lengths.{flat_length}
use Rattle.fk_core_liveness.specs.declared.places.FunctionKind.{FunctionKind}
use Rattle.fk_core_liveness.specs.declared.places.FunctionKind.TheVariants.{Main}
use Rattle.fk_core_liveness.specs.Frames.{is_main_place}
use Rattle.fk_core_typing.specs.Laws.{IsTypedList, LiesIn}
use Rattle.fk_core_typing.specs.Values.{Place, State, with_frame, entered, bare, behind}
use Rattle.fk_core_typing.proofs.System.{System, Judged, IsLawful}
use Rattle.fk_core_typing.proofs.Marks.{Noted, marks, mark_length}
use Rattle.fk_core_typing.proofs.Listed.{state, noted, has_below}
use Rattle.fk_core_typing.proofs.Valued.{values, values_lawful, all_judged, at}
use Rattle.fk_core_typing.proofs.Knowing.{typed_lists_know, frames_of_states}
use Rattle.fk_lockstep_frames.specs.Nests.{Nest, nesting, levels_of, forks_of}
use Rattle.fk_core_counting.specs.Laws.{IsRun, TypedListsTellLevels}
use Rattle.fk_core_counting.proofs.Folding.{Parts, none, Fold, fold, folded, stepped, counted, nested, opened, told_by}
use Rattle.fk_core_counting.proofs.Ways.{levels_at, forks_at, parts_at, Says, Stand, stand_at, stand_begun}
use Rattle.fk_core_counting.proofs.Forks.{told_forks}
use Rattle.fk_core_counting.proofs.Walk.{KeepsPlaces, AreRight, walk}

module _ (bodies : (binding : ℕ) → Code ℕ) (core : List CoreOp) (entry : ℕ → ℕ) (place_of : (binding : ℕ) → FunctionKind) (frame_of : (binding : ℕ) → Option ℕ)
    (typed : IsTypedList bodies core entry place_of frame_of) (may_call : (in_group : Bool) → (function : ℕ) → Bool) (shapes : (f : ℕ) → Shape false false of_function (bodies f))
    (run : (f : ℕ) → IsRun may_call (place_of f) (bodies f)) (sys : System) (lawful : IsLawful sys place_of)
    (judged : (f : ℕ) → (end : sys.State) × Judged sys None (sys.first f) (bodies f) end) (nothing : sys.State) (place : sys.State → Place) (keeps : KeepsPlaces sys place place_of) where
  abbrev has_body : ℕ → Bool
  has_body f = is_closed (bodies f)

  abbrev begins : ℕ → ℕ
  begins f = typed.flat.place f

  abbrev long : ℕ → ℕ
  long f = extent false (bodies f)

  abbrev here : ℕ → Fold
  here i = folded none false core i

  abbrev states : ℕ → List sys.State
  states f = marks sys false None (sys.first f) (bodies f) (judged f).0 (judged f).1

  abbrev Right : ℕ → List sys.State → Type 0
  Right i ss = AreRight core entry may_call has_body sys place place_of keeps here (stepped none false core) i ss

  -- along a function, if nothing is open where it is written
  along : (f : ℕ) → here (begins f) ≡ fold none false → Right (begins f) (states f) × (here (begins f + long f) ≡ fold none false)
  along f e =
      let first = keeps.first f in
      let who = (run f).who in
      let stand : Stand who (place (sys.first f)) none = stand_at who (place (sys.first f)) (with_frame (place_of f) first.0) none first.1 (stand_begun who (place_of f) first.0 (run f).by_main) in
      walk core entry may_call has_body sys place place_of keeps here (stepped none false core) (bodies f) false None None (sys.first f) (judged f).0 (begins f) (length core) none none who
      false false false false of_function false false (typed.shaped f).0 (shapes f) (run f).placed (judged f).1 (typed.flat.has f) (run f).shrinks (run f).frames (λ is. untrue is) (λ is. untrue is) stand refl e

  inside : (f : ℕ) → 0 < long f → begins f < length core
  inside f some =
      let items = flat entry false None (begins f) (length core) (bodies f) in
      let l = flat_length entry (bodies f) false None (begins f) (length core) in
      let lt = has_below core entry items (begins f) 0 (omega (arith, l, some)) (typed.flat.has f) in
      omega (arith, lt)

  -- so it is where the first function is written, and where another one ends
  behind_another : (f g : ℕ) → 0 < long f → 0 < begins f → begins g ≤ begins f - 1 → begins f - 1 < begins g + long g → (begins f < begins g + long g) ⊎ (begins g + long g ≤ begins f)
      → here (begins g) ≡ fold none false → here (begins f) ≡ fold none false
  behind_another f g some lt low high (inl less) h =
      let one : LiesIn bodies core entry place_of frame_of begins (begins f) f = (omega arith, omega (arith, some)) in
      let other : LiesIn bodies core entry place_of frame_of begins (begins f) g = (omega (arith, low, lt), less) in
      let far : begins g ≡ begins f = ap begins (typed.apart (begins f) g f other one) in
      absurd (let z : ⊥ = omega (arith, far, low, lt) in z)
  behind_another f g some lt low high (inr end) h =
      let e : begins f ≡ begins g + long g = omega (arith, lt, high, end) in
      ap here e ∙ (along g h).1

  behind_others : (f : ℕ) → 0 < long f → (0 < begins f) ⊎ (begins f ≤ 0) → ((g : ℕ) → begins g < begins f → 0 < long g → here (begins g) ≡ fold none false) → here (begins f) ≡ fold none false
  behind_others f some (inr first) others = ap here (let e : begins f ≡ 0 = omega (arith, first) in e)
  behind_others f some (inl lt) others =
      let within = inside f some in
      let c = typed.flat.covers (begins f - 1) (omega (arith, within)) in
      let low = c.1 in
      let high = c.2 in
      behind_another f c.0 some lt low high (cases_lt (begins f) (begins c.0 + long c.0)) (others c.0 (omega (arith, lt, low)) (omega (arith, low, high)))

  closed : (fuel f : ℕ) → begins f < fuel → 0 < long f → here (begins f) ≡ fold none false
  closed zero f few some = absurd (let z : ⊥ = omega (arith, few) in z)
  closed (suc fuel) f few some = behind_others f some (cases_lt 0 (begins f)) (λ g low some'. closed fuel g (omega (arith, few, low)) some')

  abbrev there : ℕ → sys.State
  there i = state bodies core entry place_of frame_of typed sys lawful judged nothing i

  -- what is told at an index, and what is said of its operation
  abbrev Tells : ℕ → Type 0
  Tells i = (told_by (slice_get core i) (here i) ≡ parts_at (place (there i)))
      × ((op : CoreOp) (operation : Operation) → slice_get core i ≡ Some op → read op ≡ Some operation → Says operation (place (there i)))

  right_at : (i : ℕ) (ss : List sys.State) (d : ℕ) → d < length ss → Right i ss → Noted there i ss → Tells (i + d)
  right_at i [] d lt right noted' = absurd (let z : ⊥ = omega arith in z)
  right_at i (s ∷ ss) zero lt right noted' =
      subst Tells (let e : i ≡ i + 0 = omega arith in e)
      (right.0.0 ∙ sym (ap (λ x. parts_at (place x)) noted'.0), λ op operation at is. subst (λ x. Says operation (place x)) (sym noted'.0) (right.0.1 op operation at is))
  right_at i (s ∷ ss) (suc d) lt right noted' =
      subst Tells (let e : suc i + d ≡ i + suc d = omega arith in e) (right_at (suc i) ss d (omega (arith, lt)) right.1 noted'.1)

  tells : (i : ℕ) → i < length core → Tells i
  tells i lt =
      let c = typed.flat.covers i lt in
      let f = c.0 in
      let low = c.1 in
      let high = c.2 in
      let d = i - begins f in
      let e : begins f + d ≡ i = omega (arith, low) in
      let l = mark_length sys false None (sys.first f) (bodies f) (judged f).0 (judged f).1 in
      let empty = closed (suc (begins f)) f (omega arith) (omega (arith, low, high)) in
      subst Tells e (right_at (begins f) (states f) d (omega (arith, l, low, high)) (along f empty).0 (noted bodies core entry place_of frame_of typed sys lawful judged nothing f))

  pub levels_told : (i : ℕ) → i < length core → slice_get (counts core) i ≡ Some (levels_at (place (there i)))
  levels_told i lt = counted none false core i lt ∙ ap (λ (k : Parts). Some k.levels) (tells i lt).0

  pub parts_told : (i : ℕ) → i < length core → slice_get (nests core) i ≡ Some (nesting (place (there i)).nests)
  parts_told i lt = nested none false core i lt ∙ ap (λ (k : Parts). Some k.around) (tells i lt).0

  pub forks_told : (i level : ℕ) → i < length core → level_forks core i level ≡ fork_at (forks_at (place (there i))).parts level
  forks_told i level lt = ap (λ x. fork_in x level) (opened none false core i lt) ∙ ap (λ (k : Parts). fork_at k.forks.parts level) (tells i lt).0

  pub says_at : (i : ℕ) (op : CoreOp) (operation : Operation) → slice_get core i ≡ Some op → read op ≡ Some operation → Says operation (place (there i))
  says_at i op operation at is = (tells i (slice_get_within core i op at)).1 op operation at is

-- ---- for what is known of values

module _ (place_of : (binding : ℕ) → FunctionKind) (frame_of : (binding : ℕ) → Option ℕ) where
  values_keep : KeepsPlaces (values place_of frame_of) (λ (s : State). s.place) place_of
  values_keep = record {
    grants = λ s t g. g.place;
    stands = λ s t e. e;
    behind = λ op onward s. refl;
    begins = λ op f gives. refl;
    enters = λ op f gives. (frame_of f, refl);
    calls = λ op gives s. refl;
    may = λ op s m. m.place;
    first = λ f. (frame_of f, refl);
  }

pub typed_lists_tell_levels : TypedListsTellLevels
typed_lists_tell_levels bodies core entry place_of frame_of may_call typed shapes run main is none =
    let known = typed_lists_know bodies core entry place_of frame_of typed main is none in (
      known.0,
      known.1,
      record {
        levels = λ i lt. levels i lt ∙ ap Some (sym (same_levels i));
        parts = λ i lt. parts i lt ∙ ap (λ (nests' : List Nest). Some (nesting nests')) (sym (same i).0);
        forks = λ i level lt less.
            forks i level lt
            ∙ told_forks (is_main_place (there i).place.function) (there i).place.nests level (subst (λ n. level < n) (same_levels i) less)
            ∙ sym (ap (λ (nests' : List Nest). forks_of (is_main_place (there i).place.function) nests' level) (same i).0)
            ∙ sym (ap (λ b. forks_of b ((typed_lists_know bodies core entry place_of frame_of typed main is none).0.nests i) level) (same i).1);
        splits = λ i op by at read in_main.
            subst (λ (nests' : List Nest). 1 ≤ nesting nests') (sym (same i).0) (says i op (Split by) at read (sym (same i).1 ∙ in_main));
        shrinks = λ i op at read. subst (λ n. 1 ≤ n) (sym (same_levels i)) (says i op Shrink at read);
      },
    )
  where
    there : ℕ → State
    there i = at bodies core entry place_of frame_of typed i

    same : (i : ℕ) → ((typed_lists_know bodies core entry place_of frame_of typed main is none).0.nests i ≡ (there i).place.nests)
        × ((typed_lists_know bodies core entry place_of frame_of typed main is none).0.in_main i ≡ is_main_place (there i).place.function)
    same i = frames_of_states bodies core entry place_of frame_of typed main is none i

    same_levels : (i : ℕ) → levels_of ((typed_lists_know bodies core entry place_of frame_of typed main is none).0.in_main i) ((typed_lists_know bodies core entry place_of frame_of typed main is none).0.nests i)
        ≡ levels_at (there i).place
    same_levels i =
        ap (λ b. levels_of b ((typed_lists_know bodies core entry place_of frame_of typed main is none).0.nests i)) (same i).1
        ∙ ap (λ (nests' : List Nest). levels_of (is_main_place (there i).place.function) nests') (same i).0

    place_in : State → Place
    place_in s = s.place

    levels : (i : ℕ) → i < length core → slice_get (counts core) i ≡ Some (levels_at (there i).place)
    levels i lt =
        levels_told bodies core entry place_of frame_of typed may_call shapes run (values place_of frame_of) (values_lawful place_of frame_of)
        (all_judged bodies core entry place_of frame_of typed) (bare (entered Main)) place_in (values_keep place_of frame_of) i lt

    parts : (i : ℕ) → i < length core → slice_get (nests core) i ≡ Some (nesting (there i).place.nests)
    parts i lt =
        parts_told bodies core entry place_of frame_of typed may_call shapes run (values place_of frame_of) (values_lawful place_of frame_of)
        (all_judged bodies core entry place_of frame_of typed) (bare (entered Main)) place_in (values_keep place_of frame_of) i lt

    forks : (i level : ℕ) → i < length core → level_forks core i level ≡ fork_at (forks_at (there i).place).parts level
    forks i level lt =
        forks_told bodies core entry place_of frame_of typed may_call shapes run (values place_of frame_of) (values_lawful place_of frame_of)
        (all_judged bodies core entry place_of frame_of typed) (bare (entered Main)) place_in (values_keep place_of frame_of) i level lt

    says : (i : ℕ) (op : CoreOp) (operation : Operation) → slice_get core i ≡ Some op → read op ≡ Some operation → Says operation (there i).place
    says i op operation at' is' =
        says_at bodies core entry place_of frame_of typed may_call shapes run (values place_of frame_of) (values_lawful place_of frame_of)
        (all_judged bodies core entry place_of frame_of typed) (bare (entered Main)) place_in (values_keep place_of frame_of) i op operation at' is'
