-- Flat lists of well typed code have knowledge of addresses.
use Rattle.std.proofs.Common.{◌≡◌, ℕ, zero, suc, ◌+◌, ◌≤◌, Bool, true, false, List, [], ◌∷◌, length, drop, Option, Some, None, inl, inr, refl, sym, ap, ◌∙◌, subst, subst₂, arith}
use Rattle.std.specs.Prelude.{not, ◌&&◌, ◌||◌, ◌⊎◌, if◌then◌else◌}
use Rattle.fk_num.specs.Word.{word}
use Rattle.fk_meaning_operation.specs.declared.operation.Operation.{Operation}
use Rattle.fk_meaning_operation.specs.declared.operation.Operation.TheVariants as o
use Rattle.fk_meaning_operation.specs.declared.operation.OwnValue.TheVariants as n
use Rattle.fk_meaning_operation.specs.declared.operation.SplitKind.{SplitKind}
use Rattle.fk_meaning_operation.specs.declared.operation.SplitKind.TheVariants as s
use Rattle.fk_meaning_store.specs.Serve.{may_use}
use Rattle.fk_meaning_forms.specs.Code.{Code}
use Rattle.fk_core_liveness.specs.declared.places.FunctionKind.{FunctionKind}
use Rattle.fk_core_liveness.specs.declared.places.FunctionKind.TheVariants.{Main, Called}
use Rattle.fk_core_liveness.specs.Frames.{is_main_place}
use Rattle.fk_core.specs.declared.op.CoreOp.{CoreOp}
use Rattle.fk_core.specs.Next.{follows, behind_jump}
use Rattle.fk_core.specs.CodeAt.{Around}
use Rattle.fk_core_flat.specs.Flat.{label}
use Rattle.fk_core_flat.specs.Items.{way_of}
use Rattle.fk_core_flat.specs.Shape.{is_done, is_closed}
use Rattle.fk_sim_block.specs.Suits.{looks_at}
use Rattle.fk_layout_sizes.specs.Operations.{takes}
use Rattle.fk_core_typing.specs.LocalDepths.{is_ordinary, results, leaves}
use Rattle.fk_core_typing.specs.declared.change.Change.{Change}
use Rattle.fk_core_typing.specs.declared.constants.Constant.{Constant}
use Rattle.fk_core_typing.specs.declared.constants.Constant.TheVariants.{Number, FrameWord}
use Rattle.fk_core_typing.specs.declared.constants.Constants.{Constants}
use Rattle.fk_core_typing.specs.AddressValues.{by, is_address, joined_constant, constants_behind, no_constants, after, change, called, unchanged}
use Rattle.fk_lockstep_frames.specs.Nests.{Nest, has_word}
use Rattle.fk_lockstep_frames.specs.Nests as frames
use Rattle.fk_lockstep_frames.specs.Lists as l
use Rattle.fk_lockstep_frames.specs.Lists.{HasLocalFrames}
use Rattle.fk_core_typing.specs.LocalAddresses as k
use Rattle.fk_core_typing.specs.LocalAddresses.{AreSameIn}
use Rattle.fk_core_typing.specs.Values as u
use Rattle.fk_core_typing.specs.Values.{Value, Unknown, Usable, Shared, Place, with_frame, entered, place_behind, State, is_known, of_number, of_constant, checked, changed, values_behind, bare, behind, behind_call, AreAsGood, May, Grants}
use Rattle.fk_core_typing.specs.Heights.{HasHeights}
use Rattle.fk_core_typing.specs.Laws.{IsTypedList, TypedListsKnow}
use Rattle.fk_core_typing.proofs.Done.{by_done}
use Rattle.fk_core_typing.proofs.Granting.{same_both, grants_itself}
use Rattle.fk_core_typing.proofs.Sound.{Comes, IsSound}
use Rattle.fk_core_typing.proofs.Valued as v
use Rattle.fk_core_typing.proofs.Valued.{same_ways, values, values_lawful, all_judged}
use Rattle.fk_core_typing.proofs.Listed.{at_end, entries, of_jump, of_operation, goes_on}

-- what is known of the value of a number
abbrev pub known_at : (shared_alone : Bool) → List Value → (value : ℕ) → Bool
known_at sh [] n = false
known_at sh (v ∷ vs) zero = is_known sh v
known_at sh (v ∷ vs) (suc n) = known_at sh vs n

good_known : (vs ws : List Value) → AreAsGood vs ws → (sh : Bool) (n : ℕ) → known_at sh ws n ≡ true → known_at sh vs n ≡ true
good_known [] [] g sh n e = absurd (cc)
good_known (v ∷ vs) (w ∷ ws) g sh zero e = g.0 sh e
good_known (v ∷ vs) (w ∷ ws) g sh (suc n) e = good_known vs ws g.1 sh n e
good_known [] (w ∷ ws) g sh n e = absurd g
good_known (v ∷ vs) [] g sh n e = absurd g

known_dropped : (sh : Bool) (d : ℕ) (vs : List Value) (n : ℕ) → known_at sh (drop d vs) n ≡ known_at sh vs (d + n)
known_dropped sh zero vs n = ap (known_at sh vs) (let e : n ≡ 0 + n = omega arith in e)
known_dropped sh (suc d) [] n = refl
known_dropped sh (suc d) (v ∷ vs) n = known_dropped sh d vs n ∙ ap (known_at sh (v ∷ vs)) (let e : suc (d + n) ≡ suc d + n = omega arith in e)

dropping : (sh : Bool) (d : ℕ) (vs : List Value) (n : ℕ) → known_at sh (drop d vs) n ≡ true → after (by d None) (known_at sh vs) n ≡ true
dropping sh d vs n e = sym (known_dropped sh d vs n) ∙ e

pushing : (sh : Bool) (d : ℕ) (vs : List Value) (v : Value) (address : Bool) → (is_known sh v ≡ true → address ≡ true)
    → (n : ℕ) → known_at sh (v ∷ drop d vs) n ≡ true → after (by d (Some address)) (known_at sh vs) n ≡ true
pushing sh d vs v address h zero e = h e
pushing sh d vs v address h (suc n) e = sym (known_dropped sh d vs n) ∙ e

-- what is known of a number
fewer : (x y z : Bool) → (x && (y || (false && z))) ≡ true → (x && (y || (true && z))) ≡ true
fewer true true z e = refl
fewer true false z e = absurd (cc)
fewer false y z e = absurd (cc)

picked : (a b : Bool) (sh : Bool) → (a ≡ true → b ≡ true) → is_known sh (if a then Shared else if b then Usable else Unknown) ≡ true → (if sh then a else b) ≡ true
picked true b true h e = refl
picked true b false h e = h refl
picked false true true h e = absurd (cc)
picked false true false h e = refl
picked false false sh h e = absurd (cc)

known_number : (sh : Bool) (n : ℕ) → is_known sh (of_number n) ≡ true → may_use sh n ≡ true
known_number true n e = picked (may_use true n) (may_use false n) true (fewer _ _ _) e
known_number false n e = picked (may_use true n) (may_use false n) false (fewer _ _ _) e

known_word : (sh has : Bool) → is_known sh (if has then Shared else Unknown) ≡ true → has ≡ true
known_word sh true e = refl
known_word sh false e = absurd (cc)

known_constant : (sh : Bool) (nests : List Nest) (c : Option Constant) → is_known sh (of_constant nests c) ≡ true → is_address sh nests c ≡ true
known_constant sh nests None e = e
known_constant sh nests (Some (Number n)) e = known_number sh n e
known_constant sh nests (Some (FrameWord nesting offset)) e = known_word sh (has_word nests nesting offset) e

known_checked : (sh checked_alone : Bool) (v : Value) → is_known sh (checked checked_alone v) ≡ true → (is_known sh v || (checked_alone || not sh)) ≡ true
known_checked sh true Unknown e = refl
known_checked true true Usable e = refl
known_checked false true Usable e = refl
known_checked sh true Shared e = refl
known_checked sh false Shared e = refl
known_checked sh false Unknown e = e
known_checked true false Usable e = e
known_checked false false Usable e = refl

-- behind a split
split_known : (nests : List Nest) (split : SplitKind) (last : Bool) (known : Constants) (vs : List Value) (onward sh : Bool) (n : ℕ)
    → known_at sh (changed (takes (o.Split split)) (leaves (o.Split split) onward) vs) n ≡ true
    → after (change sh nests (o.Split split) onward last known) (known_at sh vs) n ≡ true
split_known nests s.IfAlone last known vs true sh n e = dropping sh 1 vs n e
split_known nests s.IfAlone last known vs false sh n e = dropping sh 1 vs n e
split_known nests s.IfElse last known vs true sh n e = dropping sh 1 vs n e
split_known nests s.IfElse last known vs false sh n e = dropping sh 1 vs n e
split_known nests s.AndThen last known vs true sh n e = dropping sh 1 vs n e
split_known nests s.AndThen last known vs false sh n e = pushing sh 1 vs Unknown false (λ z. z) n e
split_known nests s.OrElse last known vs true sh n e = dropping sh 1 vs n e
split_known nests s.OrElse last known vs false sh n e = pushing sh 1 vs Unknown false (λ z. z) n e
split_known nests s.Loop last known vs true sh n e = dropping sh 0 vs n e
split_known nests s.Loop last known vs false sh n e = dropping sh 0 vs n e
split_known nests s.Fork last known vs true sh n e = dropping sh 3 vs n e
split_known nests s.Fork last known vs false sh n e = dropping sh 3 vs n e

-- behind an operation no more is known than was, or than it makes
change_known : (nests : List Nest) (op : Operation) (known : Constants) (vs : List Value) (onward : Bool) → is_ordinary op ≡ true → looks_at op ≤ length vs
    → (sh : Bool) (n : ℕ) → known_at sh (values_behind nests op onward known vs) n ≡ true → after (change sh nests op onward (known_at sh vs 0) known) (known_at sh vs) n ≡ true
change_known nests (o.Push m) known vs onward r few sh n e = pushing sh 0 vs (of_number (word m)) (may_use sh (word m)) (known_number sh (word m)) n e
change_known nests (o.Get (n.FrameAddress nesting offset)) known vs onward r few sh n e =
    let c = Some (FrameWord nesting offset) in
    pushing sh 0 vs (of_constant nests c) (is_address sh nests c) (known_constant sh nests c) n e
change_known nests (o.Get variable) known vs onward r few sh n e = pushing sh 0 vs Unknown false (λ z. z) n e
change_known nests (o.Set variable) known vs onward r few sh n e = dropping sh 0 vs n e
change_known nests o.DropLast known vs onward r few sh n e = dropping sh 1 vs n e
change_known nests o.CopyLast known [] onward r few sh n e = absurd (let z : ⊥ = omega arith in z)
change_known nests o.CopyLast known (v ∷ vs) onward r few sh n e = pushing sh 0 (v ∷ vs) v (is_known sh v) (λ z. z) n e
change_known nests (o.Apply sign) known vs onward r few sh n e = pushing sh 1 vs Unknown false (λ z. z) n e
change_known nests (o.Binary sign turned) known [] onward r few sh n e = absurd (let z : ⊥ = omega arith in z)
change_known nests (o.Binary sign turned) known (x ∷ []) onward r few sh n e = absurd (let z : ⊥ = omega arith in z)
change_known nests (o.Binary sign turned) known (x ∷ y ∷ vs) onward r few sh n e =
    let c = joined_constant sign turned known.second known.last in
    pushing sh 2 (x ∷ y ∷ vs) (of_constant nests c) (is_address sh nests c) (known_constant sh nests c) n e
change_known nests (o.Index size) known vs onward r few sh n e = pushing sh 2 vs Unknown false (λ z. z) n e
change_known nests (o.Branch way) known vs onward r few sh n e = dropping sh 1 vs n e
change_known nests o.Take known vs onward r few sh n e = pushing sh 1 vs Unknown false (λ z. z) n e
change_known nests (o.Check alone) known [] onward r few sh n e = absurd (let z : ⊥ = omega arith in z)
change_known nests (o.Check alone) known (v ∷ vs) onward r few sh n e =
    pushing sh 1 (v ∷ vs) (checked alone v) (is_known sh v || (alone || not sh)) (known_checked sh alone v) n e
change_known nests o.Read known vs onward r few sh n e = pushing sh 1 vs Unknown false (λ z. z) n e
change_known nests o.Write known vs onward r few sh n e = pushing sh 2 vs Unknown false (λ z. z) n e
change_known nests (o.Combine by) known vs onward r few sh n e = pushing sh 2 vs Unknown false (λ z. z) n e
change_known nests o.PrintNumber known vs onward r few sh n e = dropping sh 1 vs n e
change_known nests o.PrintByte known vs onward r few sh n e = dropping sh 1 vs n e
change_known nests o.Heap known vs onward r few sh n e = pushing sh 1 vs Unknown false (λ z. z) n e
change_known nests o.Begin known vs onward r few sh n e = dropping sh 1 vs n e
change_known nests o.Agree known [] onward r few sh n e = absurd (cc)
change_known nests o.Agree known (v ∷ vs) onward r few sh n e = pushing sh 1 (v ∷ vs) Unknown false (λ z. z) n e
change_known nests (o.Frame nesting words) known vs onward r few sh n e = dropping sh 0 vs n e
change_known nests o.Block known vs onward r few sh n e = pushing sh 1 vs Unknown false (λ z. z) n e
change_known nests (o.Split split) known vs onward r few sh n e = split_known nests split (known_at sh vs 0) known vs onward sh n e
change_known nests o.Shrink known vs onward r few sh n e = dropping sh 1 vs n e
change_known nests o.End known vs onward r few sh n e = dropping sh 0 vs n e
change_known nests o.Resume known vs onward r few sh n e = dropping sh 0 vs n e
change_known nests o.Farm known vs onward r few sh n e = dropping sh 0 vs n e
change_known nests o.Seq known vs onward r few sh n e = dropping sh 0 vs n e
change_known nests (o.Meet closing) known vs onward r few sh n e = dropping sh 0 vs n e
change_known nests op known vs onward r few sh n e = absurd (cc)

-- behind a call
call_known : (arguments : ℕ) (gives : Bool) (vs : List Value) (sh : Bool) (n : ℕ) → known_at sh (changed arguments (results gives) vs) n ≡ true
    → after (called arguments gives) (known_at sh vs) n ≡ true
call_known arguments true vs sh n e = pushing sh arguments vs Unknown false (λ z. z) n e
call_known arguments false vs sh n e = dropping sh arguments vs n e

bare_known : (vs : List Value) → AreAsGood [] vs → (sh : Bool) (n : ℕ) → known_at sh vs n ≡ false
bare_known [] g sh n = refl
bare_known (v ∷ vs) g sh n = absurd g

-- what is used as an address
last_asked : (vs : List Value) → 1 ≤ length vs → u.Asks o.Read vs → known_at false vs 0 ≡ true
last_asked [] few h = absurd (let z : ⊥ = omega arith in z)
last_asked (a ∷ vs) few h = h

below_asked : (vs : List Value) → 2 ≤ length vs → u.Asks o.Write vs → known_at false vs 1 ≡ true
below_asked [] few h = absurd (let z : ⊥ = omega arith in z)
below_asked (x ∷ []) few h = absurd (let z : ⊥ = omega arith in z)
below_asked (x ∷ a ∷ vs) few h = h

combined_asked : (by : _) (vs : List Value) → 2 ≤ length vs → u.Asks (o.Combine by) vs → known_at true vs 1 ≡ true
combined_asked by [] few h = absurd (let z : ⊥ = omega arith in z)
combined_asked by (x ∷ []) few h = absurd (let z : ⊥ = omega arith in z)
combined_asked by (x ∷ a ∷ vs) few h = h

-- an operation stays in its function
pub same_function : (op : Operation) (onward : Bool) (place : Place) → (place_behind op onward place).function ≡ place.function
same_function (o.Enter arguments) onward place = refl
same_function (o.Leave gives framed) onward place = refl
same_function o.Halt onward place = refl
same_function op onward place = refl

ordinary_nests : (op : Operation) (onward : Bool) (place : Place) → is_ordinary op ≡ true → (place_behind op onward place).nests ≡ frames.behind op onward place.nests
ordinary_nests (o.Enter arguments) onward place e = absurd (cc)
ordinary_nests (o.Leave gives framed) onward place e = absurd (cc)
ordinary_nests o.Halt onward place e = absurd (cc)
ordinary_nests op onward place e = refl

abbrev is_main : FunctionKind → Bool
is_main Main = true
is_main (Called gives) = false

pub label_done : (code : Code ℕ) (c : Around) (i k : ℕ) → is_done code ≡ true → label c i k code ≡ k
label_done code c i k e = by_done (λ x. label c i k x ≡ k) code e refl

module _ (bodies : ℕ → Code ℕ) (core : List CoreOp) (entry : ℕ → ℕ) (place_of : ℕ → FunctionKind) (frame_of : ℕ → Option ℕ) (typed : IsTypedList bodies core entry place_of frame_of) where
  abbrev at : ℕ → State
  at = v.at bodies core entry place_of frame_of typed

  abbrev none_of : ℕ → ℕ
  none_of n = 0

  untold : false ≡ true → (f : ℕ) → HasHeights place_of none_of 0 (bodies f)
  untold z = absurd (cc)

  abbrev ComesTo : State → ℕ → Type 0
  ComesTo = Comes core entry place_of (values place_of frame_of) (values_lawful place_of frame_of) at false none_of

  abbrev within : ℕ → FunctionKind
  within i = (at i).place.function

  abbrev known : Bool → (index value : ℕ) → Bool
  known sh i n = known_at sh (at i).values n

  abbrev constants : ℕ → Constants
  constants i = (at i).constants

  abbrev nests : ℕ → List Nest
  nests i = (at i).place.nests

  leads : (changes : Bool → Change) (behind : Constants) (s : State) (i j : ℕ) → s.place.function ≡ (at i).place.function
      → ((sh : Bool) (n : ℕ) → known_at sh s.values n ≡ true → after (changes sh) (known sh i) n ≡ true)
      → AreSameIn s.constants behind → ComesTo s j → k.Leads core nests within known constants changes behind i j
  leads changes behind s i j p h c comes = record {
    inside = sym (ap (λ (place : Place). place.function) comes.grants.place) ∙ p;
    is_known = λ sh n e. h sh n (good_known s.values (at j).values comes.grants.values sh n e);
    same = same_both (constants j) s.constants behind comes.grants.constants c;
  }

  bare_at : (place : Place) (i : ℕ) → Grants (bare place) (at i) → k.KnowsNothing core nests within known constants i
  bare_at place i g = record { addresses = λ sh n. bare_known (at i).values g.values sh n; same = g.constants }

  ordinary : (op : Operation) (i target : ℕ) → is_ordinary op ≡ true
      → ((onward : Bool) → k.Leads core nests within known constants (λ sh. change sh (nests i) op onward (known sh i 0) (constants i)) (constants_behind op (constants i)) i (follows core op i target [] onward).at)
      → k.GoesOn core nests within known constants op i target
  ordinary (o.Enter n) i target r h = absurd (cc)
  ordinary (o.Leave gives framed) i target r h = absurd (cc)
  ordinary o.Halt i target r h = absurd (cc)
  ordinary op i target r h = h

  abbrev Sounds : (i n : ℕ) → Operation → (target : ℕ) → Type 0
  Sounds i n op target = IsSound core entry place_of (values place_of frame_of) (values_lawful place_of frame_of) at false none_of (at i) i n op target

  by_ordinary : (op : Operation) (i n target : ℕ) → is_ordinary op ≡ true → Sounds i n op target
      → k.GoesOn core nests within known constants op i target
  by_ordinary op i n target r s =
      ordinary op i target r (λ onward. leads (λ sh. change sh (nests i) op onward (known sh i 0) (constants i)) (constants_behind op (constants i))
      (behind op onward (at i)) i (follows core op i target [] onward).at (same_function op onward (at i).place)
      (change_known (nests i) op (constants i) (at i).values onward r s.may.looks)
      (grants_itself (behind op onward (at i))).constants
      (goes_on bodies core entry place_of frame_of typed (values place_of frame_of) (values_lawful place_of frame_of) (all_judged bodies core entry place_of frame_of typed) (bare (entered Main)) false none_of untold op (at i) i target (way_of op) refl r (same_ways op (at i)) s.goes onward))

  goes : (op : Operation) (i n target : ℕ) → Sounds i n op target → k.GoesOn core nests within known constants op i target
  goes (o.Enter arguments) i n target s = record {
    gives = s.goes.1;
    inside = sym (ap (λ (place : Place). place.function) s.goes.4.grants.place);
    begins = bare_at (entered (Called s.goes.1)) (suc i) s.goes.4.grants;
    back = leads (λ sh. called arguments s.goes.1) no_constants (behind_call arguments s.goes.1 (at i)) i (behind_jump core (suc i)) refl
        (call_known arguments s.goes.1 (at i).values) (grants_itself (bare (entered Main))).constants s.goes.5;
  }
  goes (o.Leave gives framed) i n target s = ap (λ (place : Place). place.function) s.goes.1
  goes o.Halt i n target s = ap (λ (place : Place). place.function) s.goes
  goes op i n target s = by_ordinary op i n target refl s

  asks : (op : Operation) (i : ℕ) → May op (at i) → k.Asks core nests within known constants op i
  asks o.Read i m = last_asked (at i).values m.looks m.asks
  asks o.Write i m = below_asked (at i).values m.looks m.asks
  asks (o.Combine by) i m = combined_asked by (at i).values m.looks m.asks
  asks op i m = tt

  bare_main : (i : ℕ) → Grants (bare (entered Main)) (at i) → k.IsBare core nests within known constants i
  bare_main i g = record { inside = sym (ap (λ (place : Place). place.function) g.place); nothing = bare_at (entered Main) i g }

  end_is_bare : (i : ℕ) → i ≡ length core → Grants (bare (entered Main)) (at i)
  end_is_bare i e = subst (Grants (bare (entered Main))) (sym (ap at e ∙ at_end bodies core entry place_of frame_of typed (values place_of frame_of) (values_lawful place_of frame_of) (all_judged bodies core entry place_of frame_of typed) (bare (entered Main)))) (grants_itself (bare (entered Main)))

  begins : (main : ℕ) → place_of main ≡ Main → frame_of main ≡ None → (is_done (bodies main) ≡ true) ⊎ (is_closed (bodies main) ≡ true) → Grants (bare (entered Main)) (at (entry main))
  begins main is none (inl d) =
      end_is_bare (entry main) (typed.flat.begins main ∙ label_done (bodies main) None (typed.flat.place main) (length core) d)
  begins main is none (inr c) =
      subst₂ (λ (p : FunctionKind) (f : Option ℕ). Grants (bare (with_frame p f)) (at (entry main))) is none (entries bodies core entry place_of frame_of typed (values place_of frame_of) (values_lawful place_of frame_of) (all_judged bodies core entry place_of frame_of typed) (bare (entered Main)) false none_of untold main c).grants

  -- the frames
  abbrev in_main : ℕ → Bool
  in_main i = is_main (at i).place.function

  abbrev frame_leads : (there : List Nest) (i j : ℕ) → Type 0
  frame_leads there i j = l.Leads core in_main nests there i j

  leads_on : (s : State) (i j : ℕ) → s.place.function ≡ (at i).place.function → ComesTo s j → frame_leads s.place.nests i j
  leads_on s i j same comes = record {
    main = ap is_main (sym (ap (λ (place : Place). place.function) comes.grants.place) ∙ same);
    nested = sym (ap (λ (place : Place). place.nests) comes.grants.place);
  }

  outermost : (i : ℕ) → (at i).place ≡ entered Main → l.IsOutermost core in_main nests i
  outermost i e = record { main = ap (λ (place : Place). is_main place.function) e; nested = ap (λ (place : Place). place.nests) e }

  frame_asks : (op : Operation) (i : ℕ) → May op (at i) → l.Asks core in_main nests op i
  frame_asks (o.Get (n.FrameAddress nesting offset)) i m = m.place
  frame_asks (o.Get known) i m = tt
  frame_asks o.Begin i m = outermost i m.place
  frame_asks (o.Leave gives framed) i m = tt
  frame_asks (o.Frame number words) i m = m.place
  frame_asks o.Shrink i m = m.place
  frame_asks o.End i m = m.place
  frame_asks op i m = tt

  frames_on : (op : Operation) (i target : ℕ) → is_ordinary op ≡ true
      → ((onward : Bool) → frame_leads (frames.behind op onward (nests i)) i (follows core op i target [] onward).at) → l.GoesOn core in_main nests op i target
  frames_on (o.Enter n) i target r h = absurd (cc)
  frames_on (o.Leave gives framed) i target r h = absurd (cc)
  frames_on o.Halt i target r h = absurd (cc)
  frames_on op i target r h = h

  on_ordinary : (op : Operation) (i n target : ℕ) → is_ordinary op ≡ true → Sounds i n op target → l.GoesOn core in_main nests op i target
  on_ordinary op i n target r s =
      frames_on op i target r (λ onward. subst (λ (there : List Nest). frame_leads there i (follows core op i target [] onward).at)
      (ordinary_nests op onward (at i).place r)
      (leads_on (behind op onward (at i)) i (follows core op i target [] onward).at (same_function op onward (at i).place)
      (goes_on bodies core entry place_of frame_of typed (values place_of frame_of) (values_lawful place_of frame_of) (all_judged bodies core entry place_of frame_of typed) (bare (entered Main)) false none_of untold op (at i) i target (way_of op) refl r (same_ways op (at i)) s.goes onward)))

  frame_goes : (op : Operation) (i n target : ℕ) → Sounds i n op target → l.GoesOn core in_main nests op i target
  frame_goes (o.Enter arguments) i n target s = record {
    main = ap (λ (place : Place). is_main place.function) (sym s.goes.4.grants.place);
    begins = sym (ap (λ (place : Place). place.nests) s.goes.4.grants.place);
    back = leads_on (behind_call arguments s.goes.1 (at i)) i (behind_jump core (suc i)) refl s.goes.5;
  }
  frame_goes (o.Leave gives framed) i n target s = record {
    main = ap (λ (place : Place). is_main place.function) s.goes.1;
    frame = s.goes.0;
    nested = ap (λ (place : Place). place.nests) s.goes.1;
    gives_back = s.goes.2;
  }
  frame_goes o.Halt i n target s = outermost i s.goes
  frame_goes op i n target s = on_ordinary op i n target refl s

module _ (bodies : ℕ → Code ℕ) (core : List CoreOp) (entry : ℕ → ℕ) (place_of : ℕ → FunctionKind) (frame_of : ℕ → Option ℕ)
    (typed : IsTypedList bodies core entry place_of frame_of) (main : ℕ) (is : place_of main ≡ Main) (none : frame_of main ≡ None) where
  has_frames : HasLocalFrames core (entry main)
  has_frames = record {
    in_main = in_main bodies core entry place_of frame_of typed;
    nests = nests bodies core entry place_of frame_of typed;
    begins = outermost bodies core entry place_of frame_of typed (entry main) (let g = begins bodies core entry place_of frame_of typed main is none (typed.shaped main).1 in sym g.place);
    ends = outermost bodies core entry place_of frame_of typed (length core) (let g = end_is_bare bodies core entry place_of frame_of typed (length core) refl in sym g.place);
    jumps = λ i op e z.
        leads_on bodies core entry place_of frame_of typed (at bodies core entry place_of frame_of typed i) i op.target refl
        (of_jump bodies core entry place_of frame_of typed (values place_of frame_of) (values_lawful place_of frame_of) (all_judged bodies core entry place_of frame_of typed) (bare (entered Main)) false (none_of bodies core entry place_of frame_of typed) (untold bodies core entry place_of frame_of typed) i op e z);
    fits = λ i op operation e r.
        (let s = of_operation bodies core entry place_of frame_of typed (values place_of frame_of) (values_lawful place_of frame_of) (all_judged bodies core entry place_of frame_of typed) (bare (entered Main)) false (none_of bodies core entry place_of frame_of typed) (untold bodies core entry place_of frame_of typed) i op operation e r in
        record {
          asks = frame_asks bodies core entry place_of frame_of typed operation i s.may;
          goes_on = frame_goes bodies core entry place_of frame_of typed operation i op.site op.target s;
        });
  }

pub typed_lists_know : TypedListsKnow
unfolding has_frames
typed_lists_know bodies core entry place_of frame_of typed main is none = (
  has_frames bodies core entry place_of frame_of typed main is none,
  record {
    within = within bodies core entry place_of frame_of typed;
    known = known bodies core entry place_of frame_of typed;
    constants = constants bodies core entry place_of frame_of typed;
    begins = bare_main bodies core entry place_of frame_of typed (entry main) (begins bodies core entry place_of frame_of typed main is none (typed.shaped main).1);
    ends = bare_main bodies core entry place_of frame_of typed (length core) (end_is_bare bodies core entry place_of frame_of typed (length core) refl);
    jumps = λ i op e z.
        leads bodies core entry place_of frame_of typed (λ sh. unchanged) (at bodies core entry place_of frame_of typed i).constants (at bodies core entry place_of frame_of typed i) i op.target
        refl (λ sh n. dropping sh 0 (at bodies core entry place_of frame_of typed i).values n) (grants_itself (at bodies core entry place_of frame_of typed i)).constants
        (of_jump bodies core entry place_of frame_of typed (values place_of frame_of) (values_lawful place_of frame_of) (all_judged bodies core entry place_of frame_of typed) (bare (entered Main)) false (none_of bodies core entry place_of frame_of typed) (untold bodies core entry place_of frame_of typed) i op e z);
    fits = λ i op operation e r.
        (let s = of_operation bodies core entry place_of frame_of typed (values place_of frame_of) (values_lawful place_of frame_of) (all_judged bodies core entry place_of frame_of typed) (bare (entered Main)) false (none_of bodies core entry place_of frame_of typed) (untold bodies core entry place_of frame_of typed) i op operation e r in
        record {
          asks = asks bodies core entry place_of frame_of typed operation i s.may;
          goes_on = goes bodies core entry place_of frame_of typed operation i op.site op.target s;
        });
  },
)

-- the frames are told by the states
same_main : (kind : FunctionKind) → is_main kind ≡ is_main_place kind
same_main Main = refl
same_main (Called gives) = refl

pub frames_of_states : (bodies : ℕ → Code ℕ) (core : List CoreOp) (entry : ℕ → ℕ) (place_of : ℕ → FunctionKind) (frame_of : ℕ → Option ℕ)
    (typed : IsTypedList bodies core entry place_of frame_of) (main : ℕ) (is : place_of main ≡ Main) (none : frame_of main ≡ None) (i : ℕ)
    → let local = (typed_lists_know bodies core entry place_of frame_of typed main is none).0 in
    let place = (at bodies core entry place_of frame_of typed i).place in
    (local.nests i ≡ place.nests) × (local.in_main i ≡ is_main_place place.function)
unfolding has_frames typed_lists_know
frames_of_states bodies core entry place_of frame_of typed main is none i = (refl, same_main (at bodies core entry place_of frame_of typed i).place.function)
