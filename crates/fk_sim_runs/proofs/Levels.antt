-- The levels that calls save are those of the parts that they are in.
use Rattle.std.proofs.Common.{◌≡◌, ⊎_elim, ℕ, zero, suc, ◌+◌, ◌-◌, ◌==◌, ◌<◌, ◌≤◌, Bool, true, false, true≢false, if◌then◌else◌, List, [], ◌∷◌, length, Option, Some, None, refl, sym, ap, ◌∙◌, subst, arith}
use Rattle.std.specs.Prelude.{All, slice_get, slice_index}
use Rattle.std.proofs.lemmas.Bool.{cases_eq}
use Rattle.std.proofs.lemmas.List.Elements.{All-cons, All-head, All-tail}
use Rattle.fk_num.specs.Word.{Memory}
use Rattle.fk_meaning_store.specs.Store.{Store}
use Rattle.fk_meaning_store.specs.Serve.{Served, serve}
use Rattle.fk_meaning_operation.specs.Kinds.{class_of}
use Rattle.fk_meaning_operation.specs.declared.kinds.Class.TheVariants.{Local, Request, Tree}
use Rattle.fk_meaning_operation.specs.declared.operation.SplitKind.{SplitKind}
use Rattle.fk_meaning_operation.specs.declared.operation.SplitKind.TheVariants as s
use Rattle.fk_meaning_operation.specs.declared.operation.SplitKind.TheVariants.{IfElse}
use Rattle.fk_meaning_operation.specs.declared.operation.Operation.{Operation}
use Rattle.fk_meaning_operation.specs.declared.operation.Operation.TheVariants as o
use Rattle.fk_meaning.specs.Processor.{Level, Processor, Setting, setting_of, values, last, drop_last, enter_level, to_outer, leave_level}
use Rattle.fk_meaning.specs.Behind.{tail}
use Rattle.fk_meaning.specs.Local.{is_onward, local as local_of}
use Rattle.fk_meaning.specs.Request.{request, with_answer}
use Rattle.fk_meaning.specs.Group.{part, divided, start_level, is_taken, with_size, stays, does, enters, goes_onward, has_room}
use Rattle.fk_meaning.specs.Round.{Step, Runner}
use Rattle.fk_meaning.specs.Schedule.{beginners}
use Rattle.fk_core.specs.declared.op.CoreOp.{CoreOp}
use Rattle.fk_core.specs.Next.{Position, position, is_jump, through, led_by, landing_by, landing, behind_jump, returned, follows, next, list_opening}
use Rattle.fk_lockstep.specs.Untouched.{changes_tree}
use Rattle.fk_lockstep.proofs.Round.{first_is, at_below}
use Rattle.fk_lockstep_frames.specs.Nests.{Nest, OfFunction, OfPart, nesting, levels_of, take_frame, behind, IsInPart}
use Rattle.fk_lockstep_frames.specs.Lists.{HasLocalFrames, Leads, Calls, Asks, GoesOn}
use Rattle.fk_lockstep_frames.proofs.Found.{found}
use Rattle.fk_lockstep_frames.proofs.Rounds.{AllAre, RunnerFits, all_at, runs}
use Rattle.fk_lockstep_tree.specs.Where.{Where, InRoot, Waits, InGroup, InBody, BehindBody, behind_waiting, divides, shrinks, goes, Goes}
use Rattle.fk_lockstep_tree.proofs.Moves.{keeps_place, keeps_tree, local_same, answer_same, does_same, goes_on}
use Rattle.fk_sim_block.specs.Node.{Nestings}
use Rattle.fk_sim_block.specs.Lockstep.{NoneSaved}
use Rattle.fk_sim_runs.specs.Levels.{StandsIn, parts_in, StandsAt, AllStandAt, HasToldLevels, LevelsAreTold, leaves_part, SavesLevels}

-- ---- the number of groups that a processor is in

-- by its place
abbrev groups_at : Where → ℕ
groups_at InRoot = 0
groups_at (Waits n) = n
groups_at (InGroup n) = suc n
groups_at (InBody n) = suc n
groups_at (BehindBody n) = suc n

-- and behind an operation, of one that was in n groups
abbrev groups_behind : Operation → (onward : Bool) → (n : ℕ) → ℕ
groups_behind o.Begin true n = suc n
groups_behind (o.Split IfElse) onward n = suc n
groups_behind (o.Split by) true n = suc n
groups_behind o.Shrink false n = n - 1
groups_behind o.End onward n = n - 1
groups_behind op onward n = n

comes_to : (place to : Where) → Some place ≡ Some to → groups_at to ≡ groups_at place
comes_to place to e = ap groups_at (sym (first_is place to e))

waiting_groups : (n : ℕ) → groups_at (behind_waiting n) ≡ n
waiting_groups zero = refl
waiting_groups (suc n) = refl

divided_groups : (by : SplitKind) (n : ℕ) (onward : Bool) (to : Where) → divides by n onward ≡ Some to → groups_at to ≡ groups_behind (o.Split by) onward (suc n)
divided_groups s.Fork n true to e = comes_to (InGroup (suc n)) to e
divided_groups s.Fork n false to e = comes_to (Waits (suc n)) to e
divided_groups s.IfElse n onward to e = comes_to (InGroup (suc n)) to e
divided_groups s.IfAlone n true to e = comes_to (InGroup (suc n)) to e
divided_groups s.IfAlone n false to e = comes_to (Waits (suc n)) to e
divided_groups s.AndThen n true to e = comes_to (InGroup (suc n)) to e
divided_groups s.AndThen n false to e = comes_to (Waits (suc n)) to e
divided_groups s.OrElse n true to e = comes_to (InGroup (suc n)) to e
divided_groups s.OrElse n false to e = comes_to (Waits (suc n)) to e
divided_groups s.Loop n true to e = comes_to (InGroup (suc n)) to e
divided_groups s.Loop n false to e = comes_to (Waits (suc n)) to e

shrunk_groups : (n : ℕ) (onward : Bool) (to : Where) → shrinks n onward ≡ Some to → groups_at to ≡ groups_behind o.Shrink onward (suc n)
shrunk_groups zero onward to e = absurd (cc)
shrunk_groups (suc n) true to e = comes_to (InGroup (suc n)) to e
shrunk_groups (suc n) false to e = let at = comes_to (Waits (suc n)) to e in omega (arith, at)

ended_groups : (n : ℕ) (to : Where) → Some (Waits n) ≡ Some to → groups_at to ≡ suc n - 1
ended_groups n to e = let at = comes_to (Waits n) to e in omega (arith, at)

body_groups : (n : ℕ) (onward : Bool) (to : Where) → Some (if onward then InBody n else BehindBody n) ≡ Some to → groups_at to ≡ suc n
body_groups n true to e = comes_to (InBody n) to e
body_groups n false to e = comes_to (BehindBody n) to e

groups_go : (place : Where) (op : Operation) (onward : Bool) (to : Where) → goes place op onward ≡ Some to → groups_at to ≡ groups_behind op onward (groups_at place)
groups_go InRoot (o.Leave gives true) onward to e = absurd (cc)
groups_go InRoot o.Begin true to e = comes_to (InGroup 0) to e
groups_go InRoot o.Begin false to e = comes_to (Waits 0) to e
groups_go InRoot (o.Split by) onward to e = absurd (cc)
groups_go InRoot o.Shrink onward to e = absurd (cc)
groups_go InRoot o.End onward to e = absurd (cc)
groups_go InRoot o.Farm onward to e = absurd (cc)
groups_go InRoot o.Seq onward to e = absurd (cc)
groups_go InRoot (o.Meet true) onward to e = absurd (cc)
groups_go InRoot o.Resume onward to e = absurd (cc)
groups_go InRoot op onward to e = ap groups_at (keeps_place InRoot op onward to refl e)
groups_go (Waits n) o.Resume onward to e = comes_to (behind_waiting n) to e ∙ waiting_groups n
groups_go (Waits n) op onward to e = absurd (cc)
groups_go (InGroup n) o.Begin onward to e = absurd (cc)
groups_go (InGroup n) (o.Split by) onward to e = divided_groups by n onward to e
groups_go (InGroup n) o.Shrink onward to e = shrunk_groups n onward to e
groups_go (InGroup n) o.End onward to e = ended_groups n to e
groups_go (InGroup n) o.Farm onward to e = body_groups n onward to e
groups_go (InGroup n) o.Seq onward to e = body_groups n onward to e
groups_go (InGroup n) (o.Meet true) onward to e = absurd (cc)
groups_go (InGroup n) o.Resume onward to e = absurd (cc)
groups_go (InGroup n) op onward to e = ap groups_at (keeps_place (InGroup n) op onward to refl e)
groups_go (InBody n) (o.Leave gives true) onward to e = absurd (cc)
groups_go (InBody n) o.Begin onward to e = absurd (cc)
groups_go (InBody n) (o.Split by) onward to e = absurd (cc)
groups_go (InBody n) o.Shrink onward to e = absurd (cc)
groups_go (InBody n) o.End onward to e = absurd (cc)
groups_go (InBody n) o.Farm onward to e = absurd (cc)
groups_go (InBody n) o.Seq onward to e = absurd (cc)
groups_go (InBody n) (o.Meet true) onward to e = comes_to (InGroup n) to e
groups_go (InBody n) o.Resume onward to e = absurd (cc)
groups_go (InBody n) op onward to e = ap groups_at (keeps_place (InBody n) op onward to refl e)
groups_go (BehindBody n) (o.Meet true) onward to e = comes_to (InGroup n) to e
groups_go (BehindBody n) op onward to e = absurd (cc)

-- a group alone splits
splits_inside : (place : Where) (by : SplitKind) (onward : Bool) (to : Where) → goes place (o.Split by) onward ≡ Some to → 1 ≤ groups_at place
splits_inside InRoot by onward to e = absurd (cc)
splits_inside (Waits n) by onward to e = absurd (cc)
splits_inside (InGroup n) by onward to e = omega arith
splits_inside (InBody n) by onward to e = absurd (cc)
splits_inside (BehindBody n) by onward to e = absurd (cc)

-- ---- the levels around its own

-- it has one for each group
abbrev IsAround : Where → Processor → Type 0
IsAround place p = length p.outer ≡ groups_at place

same_outer : (place to : Where) (op : Operation) (onward : Bool) (p q : Processor) → changes_tree op ≡ false → goes place op onward ≡ Some to → q.outer ≡ p.outer → IsAround place p → IsAround to q
same_outer place to op onward p q keep e same is = ap (λ (ls : List Level). length ls) same ∙ is ∙ sym (ap groups_at (keeps_place place op onward to keep e))

around_local : (set : Setting) (place to : Where) (op : Operation) (onward : Bool) (p : Processor) → class_of op ≡ Local → goes place op onward ≡ Some to → IsAround place p → IsAround to (local_of set op p)
around_local set place to op onward p c e is =
    same_outer place to op onward p (local_of set op p) (keeps_tree op (λ tree. let clash : Local ≡ Tree = sym c ∙ tree in cc)) e (local_same set place op onward to p e).0.1 is

around_request : (v : ℕ) (place to : Where) (op : Operation) (onward : Bool) (p : Processor) → class_of op ≡ Request → goes place op onward ≡ Some to → IsAround place p → IsAround to (with_answer op v p)
around_request v place to op onward p c e is =
    same_outer place to op onward p (with_answer op v p) (keeps_tree op (λ tree. let clash : Request ≡ Tree = sym c ∙ tree in cc)) e (answer_same place op v p).0.1 is

-- behind a step of the tree
left_outer : (q : Processor) (outer : List Level) → q.outer ≡ outer → length (to_outer q outer).outer ≡ length outer - 1
left_outer q [] e = ap (λ (ls : List Level). length ls) e
left_outer q (l ∷ ls) e = omega arith

left_level : (p : Processor) → length (leave_level p).outer ≡ length p.outer - 1
left_level p = left_outer p p.outer refl

begun_outer : (size : ℕ) (p : Processor) (onward : Bool)
    → length (if onward then enter_level (start_level p size) (drop_last 1 p) else drop_last 1 p).outer ≡ groups_behind o.Begin onward (length p.outer)
begun_outer size p true = refl
begun_outer size p false = refl

-- who enters a part has one more; in one of two all do
abbrev of_two : Bool → Option ℕ
of_two first = if first then Some 1 else Some 0

no_waiter : (first : Bool) → of_two first ≡ None → ⊥
no_waiter true e = absurd (cc)
no_waiter false e = absurd (cc)

divided_outer : (by : SplitKind) (size : ℕ) (p : Processor) (chosen : Option ℕ) → part by (values p) ≡ chosen → length (divided by size p chosen).outer ≡ groups_behind (o.Split by) (enters by chosen) (length p.outer)
divided_outer s.IfElse size p None e = absurd (no_waiter (last (values p) == 0) e)
divided_outer s.IfElse size p (Some i) e = refl
divided_outer s.IfAlone size p None e = refl
divided_outer s.IfAlone size p (Some i) e = refl
divided_outer s.AndThen size p None e = refl
divided_outer s.AndThen size p (Some i) e = refl
divided_outer s.OrElse size p None e = refl
divided_outer s.OrElse size p (Some i) e = refl
divided_outer s.Loop size p None e = refl
divided_outer s.Loop size p (Some i) e = refl
divided_outer s.Fork size p None e = refl
divided_outer s.Fork size p (Some i) e = refl

shrunk_outer : (size : ℕ) (p : Processor) (onward : Bool)
    → length (if onward then with_size size (drop_last 1 p) else leave_level (drop_last 1 p)).outer ≡ groups_behind o.Shrink onward (length p.outer)
shrunk_outer size p true = refl
shrunk_outer size p false = left_level (drop_last 1 p)

stepped_outer : (op : Operation) (highest lowest size : ℕ) (p : Processor) → changes_tree op ≡ true
    → length (does op highest size p).outer ≡ groups_behind op (goes_onward op highest lowest p) (length p.outer)
stepped_outer o.Begin highest lowest size p e = begun_outer size p (is_taken highest p)
stepped_outer (o.Split by) highest lowest size p e = divided_outer by size p (part by (values p)) refl
stepped_outer o.Shrink highest lowest size p e = shrunk_outer size p (stays p)
stepped_outer o.End highest lowest size p e = left_level p
stepped_outer o.Farm highest lowest size p e = refl
stepped_outer o.Seq highest lowest size p e = refl
stepped_outer (o.Meet true) highest lowest size p e = refl
stepped_outer o.Resume highest lowest size p e = refl
stepped_outer op highest lowest size p e = absurd (cc)

around_step : (highest lowest size : ℕ) (place to : Where) (op : Operation) (p : Processor) → goes place op (goes_onward op highest lowest p) ≡ Some to → IsAround place p → IsAround to (does op highest size p)
around_step highest lowest size place to op p e is = by (changes_tree op) refl
  where
    by : (b : Bool) → changes_tree op ≡ b → IsAround to (does op highest size p)
    by true changes =
        stepped_outer op highest lowest size p changes ∙ ap (groups_behind op (goes_onward op highest lowest p)) is
        ∙ sym (groups_go place op (goes_onward op highest lowest p) to e)
    by false keep =
        same_outer place to op (goes_onward op highest lowest p) p (does op highest size p) keep e (does_same place op (goes_onward op highest lowest p) to highest size p keep e).0.1 is

-- ---- the parts of a call

nesting_framed : (words : ℕ) (ns : List Nest) → nesting (take_frame words ns) ≡ nesting ns
nesting_framed words [] = refl
nesting_framed words (OfFunction frame ∷ ns) = refl
nesting_framed words (OfPart b frame ∷ ns) = refl

nesting_left : (ns : List Nest) (outside : ℕ) → IsInPart ns → nesting (tail ns) + outside ≡ (nesting ns + outside) - 1
nesting_left [] outside part = absurd part
nesting_left (OfFunction frame ∷ ns) outside part = absurd part
nesting_left (OfPart b frame ∷ ns) outside part = omega arith

some_part : (ns : List Nest) → IsInPart ns → 1 ≤ nesting ns
some_part [] part = absurd part
some_part (OfFunction frame ∷ ns) part = absurd part
some_part (OfPart b frame ∷ ns) part = omega arith

module _ (core : List CoreOp) (main : ℕ) (local : HasLocalFrames core main) where
  abbrev At : (outside index : ℕ) → Type 0
  At outside i = StandsAt core main local outside i

  abbrev AllAt : List ℕ → Type 0
  AllAt indices = AllStandAt core main local indices

  abbrev inside : List ℕ → ℕ
  inside indices = parts_in core main local indices

  -- at an index that is known by its nests
  at_index : (outside i j : ℕ) (nests : List Nest) → StandsIn (local.in_main i) outside nests → local.in_main j ≡ local.in_main i → local.nests j ≡ nests → At outside j
  at_index outside i j nests stands main_is nests_are =
      subst (λ (b : Bool). StandsIn b outside (local.nests j)) (sym main_is) (subst (λ (ns : List Nest). StandsIn (local.in_main i) outside ns) (sym nests_are) stands)

  inside_at : (i : ℕ) (nests : List Nest) (callers : List ℕ) → local.nests i ≡ nests → inside (i ∷ callers) ≡ nesting nests + inside callers
  inside_at i nests callers e = ap (λ (ns : List Nest). nesting ns + inside callers) e

  -- ---- jumps

  record Lands (i j : ℕ) : Type 0 where
    main_is : local.in_main j ≡ local.in_main i
    same : local.nests j ≡ local.nests i

  landed_by : (jumps i : ℕ) → Lands i (landing_by core jumps i)
  landed_by zero i = record { main_is = refl; same = refl }
  landed_by (suc jumps) i = by (λ j. landed_by jumps j) (slice_get core i) refl
    where
      through_so : ((j : ℕ) → Lands j (landing_by core jumps j)) → (op : CoreOp) → slice_get core i ≡ Some op → (b : Bool) → is_jump op ≡ b → Lands i (through b (landing_by core jumps) i op.target)
      through_so further op at true jump =
          let leads = local.jumps i op at jump in
          let rest = further op.target in
          record { main_is = rest.main_is ∙ leads.main; same = rest.same ∙ leads.nested }
      through_so further op at false jump = record { main_is = refl; same = refl }

      by : ((j : ℕ) → Lands j (landing_by core jumps j)) → (x : Option CoreOp) → slice_get core i ≡ x → Lands i (led_by x (landing_by core jumps) i)
      by further None e = record { main_is = refl; same = refl }
      by further (Some op) e = through_so further op e (is_jump op) refl

  landed : (i : ℕ) → Lands i (landing core i)
  landed i = landed_by (length core) i

  -- ---- one operation

  abbrev AsksAt : Operation → ℕ → Type 0
  AsksAt op i = Asks core local.in_main local.nests op i

  -- an operation of a call that neither begins one nor ends it
  abbrev IsOrdinary : Operation → Type 0
  IsOrdinary (o.Enter arguments) = ⊥
  IsOrdinary (o.Leave gives frees) = ⊥
  IsOrdinary o.Halt = ⊥
  IsOrdinary op = Unit {0}

  -- a group alone splits
  abbrev IsInGroup : Operation → (groups : ℕ) → Type 0
  IsInGroup (o.Split by) groups = 1 ≤ groups
  IsInGroup op groups = Unit {0}

  in_group_at : (place : Where) (op : Operation) (onward : Bool) (to : Where) (groups : ℕ) → goes place op onward ≡ Some to → groups ≡ groups_at place → IsInGroup op groups
  in_group_at place (o.Split by) onward to groups e is = let some = splits_inside place by onward to e in omega (arith, some, is)
  in_group_at place op onward to groups e is = tt

  behind_called : (op : Operation) (i outside : ℕ) → IsOrdinary op → AsksAt op i → IsInGroup op (nesting (local.nests i) + outside) → At outside i → (onward : Bool)
      → local.in_main i ≡ false → outside ≡ 0 → nesting (behind op onward (local.nests i)) ≡ 0
  behind_called o.Begin i outside plain asks group stands onward other none = absurd (true≢false (sym asks.main ∙ other))
  behind_called (o.Split by) i outside plain asks group stands onward other none = let few = stands.called other none in absurd (omega (arith, few, none, group))
  behind_called o.Shrink i outside plain asks group stands onward other none =
      let few = stands.called other none in
      let some = some_part (local.nests i) asks.0 in
      absurd (omega (arith, few, some))
  behind_called o.End i outside plain asks group stands onward other none =
      let few = stands.called other none in
      let some = some_part (local.nests i) asks in
      absurd (omega (arith, few, some))
  behind_called (o.Frame number words) i outside plain asks group stands onward other none = nesting_framed words (local.nests i) ∙ stands.called other none
  behind_called (o.Enter arguments) i outside plain asks group stands onward other none = absurd plain
  behind_called (o.Leave gives frees) i outside plain asks group stands onward other none = absurd plain
  behind_called o.Halt i outside plain asks group stands onward other none = absurd plain
  behind_called op i outside plain asks group stands onward other none = stands.called other none

  behind_parts : (op : Operation) (i outside : ℕ) → IsOrdinary op → AsksAt op i → (onward : Bool)
      → nesting (behind op onward (local.nests i)) + outside ≡ groups_behind op onward (nesting (local.nests i) + outside)
  behind_parts o.Begin i outside plain asks true = omega arith
  behind_parts o.Begin i outside plain asks false = refl
  behind_parts (o.Split IfElse) i outside plain asks onward = omega arith
  behind_parts (o.Split by) i outside plain asks true = omega arith
  behind_parts (o.Split by) i outside plain asks false = refl
  behind_parts o.Shrink i outside plain asks true = refl
  behind_parts o.Shrink i outside plain asks false = nesting_left (local.nests i) outside asks.0
  behind_parts o.End i outside plain asks onward = nesting_left (local.nests i) outside asks
  behind_parts (o.Frame number words) i outside plain asks onward = ap (λ (n : ℕ). n + outside) (nesting_framed words (local.nests i))
  behind_parts (o.Enter arguments) i outside plain asks onward = absurd plain
  behind_parts (o.Leave gives frees) i outside plain asks onward = absurd plain
  behind_parts o.Halt i outside plain asks onward = absurd plain
  behind_parts op i outside plain asks onward = refl

  -- how calls stand, of a processor at a place
  record Stand (place : Where) (i : ℕ) (callers : List ℕ) : Type 0 where
    groups : inside (i ∷ callers) ≡ groups_at place
    all : AllAt (i ∷ callers)

  abbrev StandsFrom : Where → Position → Type 0
  StandsFrom place w = Stand place w.at w.callers

  module _ (place : Where) (i target : ℕ) (callers : List ℕ) (stand : Stand place i callers) where
    goes_to : (j : ℕ) (op : Operation) (onward : Bool) (to : Where) → goes place op onward ≡ Some to → IsOrdinary op → AsksAt op i
        → Leads core local.in_main local.nests (behind op onward (local.nests i)) i j → Stand to j callers
    goes_to j op onward to e plain asks leads =
        let here = stand.all.0 in
        let group = in_group_at place op onward to (inside (i ∷ callers)) e stand.groups in
        record {
          groups =
              inside_at j (behind op onward (local.nests i)) callers leads.nested ∙ behind_parts op i (inside callers) plain asks onward ∙ ap (groups_behind op onward) stand.groups
              ∙ sym (groups_go place op onward to e);
          all = (
            at_index (inside callers) i j (behind op onward (local.nests i))
                (record { outermost = here.outermost; called = behind_called op i (inside callers) plain asks group here onward }) leads.main leads.nested,
            stand.all.1,
          );
        }

    -- the call that waits, or the end of the list
    returned_parts : (cs : List ℕ) → inside ((returned core cs).at ∷ (returned core cs).callers) ≡ inside cs
    returned_parts [] = let ends = local.ends in inside_at (length core) (OfFunction None ∷ []) [] ends.nested
    returned_parts (c ∷ cs) = refl

    returned_stand : (cs : List ℕ) → AllAt cs → AllAt ((returned core cs).at ∷ (returned core cs).callers)
    returned_stand [] all = (record { outermost = λ e. refl; called = λ e none. (let ends = local.ends in ap nesting ends.nested) }, tt)
    returned_stand (c ∷ cs) all = all

    returns : (frame : Option ℕ) (to : Where) → local.nests i ≡ OfFunction frame ∷ [] → groups_at to ≡ groups_at place → StandsFrom to (returned core callers)
    returns frame to function same =
        let none : nesting (local.nests i) ≡ 0 = ap nesting function in
        let total = stand.groups in
        let back = returned_parts callers in
        record { groups = omega (arith, none, total, back, same); all = returned_stand callers stand.all.1 }

    enters_call : (to : Where) → groups_at to ≡ groups_at place → Calls core local.in_main local.nests i → Stand to (suc i) (behind_jump core (suc i) ∷ callers)
    enters_call to same c =
        let back = c.back in
        let none : nesting (local.nests (suc i)) ≡ 0 = ap nesting c.begins in
        let there : nesting (local.nests (behind_jump core (suc i))) ≡ nesting (local.nests i) = ap nesting back.nested in
        let total = stand.groups in
        record {
          groups = omega (arith, none, there, total, same);
          all = (
            record { outermost = λ e. absurd (true≢false (sym e ∙ c.main)); called = λ e few. none },
            (at_index (inside callers) i (behind_jump core (suc i)) (local.nests i) stand.all.0 back.main back.nested, stand.all.1),
          );
        }

    follows_stand : (op : Operation) → AsksAt op i → GoesOn core local.in_main local.nests op i target → (onward : Bool) (to : Where)
        → goes place op onward ≡ Some to → StandsFrom to (follows core op i target callers onward)
    follows_stand (o.Leave gives framed') asks on onward to e = returns on.frame to on.nested (groups_go place (o.Leave gives framed') onward to e)
    follows_stand o.Halt asks on onward to e = returns None to on.nested (groups_go place o.Halt onward to e)
    follows_stand (o.Enter n) asks on onward to e = enters_call to (groups_go place (o.Enter n) onward to e) on
    follows_stand o.End asks on onward to e = goes_to target o.End onward to e tt asks (on onward)
    follows_stand op asks on true to e = goes_to (suc i) op true to e tt asks (on true)
    follows_stand op asks on false to e = goes_to (follows core op i target [] false).at op false to e tt asks (on false)

  -- ---- runs

  -- a processor at a place, to which its operations have led it
  record Fits (w : Position) (p : Processor) : Type 0 where
    place : Where
    leads : Goes (next core) place w
    around : IsAround place p
    stand : StandsFrom place w

  -- at its operation
  at_landing : (place : Where) (w : Position) → StandsFrom place w → Stand place (landing core w.at) w.callers
  at_landing place w stand =
      let lands = landed w.at in
      record {
        groups = inside_at (landing core w.at) (local.nests w.at) w.callers lands.same ∙ stand.groups;
        all = (at_index (inside w.callers) w.at (landing core w.at) (local.nests w.at) stand.all.0 lands.main_is lands.same, stand.all.1);
      }

  stands_on : (place : Where) (w : Position) (step : Step Position) → StandsFrom place w → next core w ≡ Some step → (onward : Bool) (to : Where) → goes place step.operation onward ≡ Some to
      → StandsFrom to (step.rest onward)
  stands_on place w step stand due onward to e =
      let x = found core w step due in
      let i = landing core w.at in
      let fits = local.fits i x.op x.operation x.stands x.reads in
      let e' : goes place x.operation onward ≡ Some to = subst (λ (y : Step Position). goes place y.operation onward ≡ Some to) x.is e in
      subst (λ (y : Step Position). StandsFrom to (y.rest onward)) (sym x.is)
      (follows_stand place i x.op.target w.callers (at_landing place w stand) x.operation fits.asks fits.goes_on onward to e')

  -- behind an operation, on the way that it takes
  fits_on : (w : Position) (p q : Processor) (step : Step Position) (onward : Bool) → Fits w p → next core w ≡ Some step
      → ((place to : Where) → goes place step.operation onward ≡ Some to → IsAround place p → IsAround to q) → Fits (step.rest onward) q
  fits_on w p q step onward fits due outer =
      let on = goes_on (next core) fits.place w step fits.leads due onward in
      record {
        place = on.0;
        leads = on.2;
        around = outer fits.place on.0 on.1 fits.around;
        stand = stands_on fits.place w step fits.stand due onward on.0 on.1;
      }

  locally : (set : Setting) (w : Position) (p : Processor) (step : Step Position) → Fits w p → next core w ≡ Some step
      → class_of step.operation ≡ Local → Fits (step.rest (is_onward step.operation p)) (local_of set step.operation p)
  locally set w p step fits due e =
      fits_on w p (local_of set step.operation p) step (is_onward step.operation p) fits due
      (λ place to way is. around_local set place to step.operation (is_onward step.operation p) p e way is)

  requests : (s s' : Store) (v : ℕ) (w : Position) (p : Processor) (step : Step Position) → Fits w p → next core w ≡ Some step
      → class_of step.operation ≡ Request → serve (request step.operation p) s p.number ≡ Served s' v → Fits (step.rest true) (with_answer step.operation v p)
  requests s s' v w p step fits due e served =
      fits_on w p (with_answer step.operation v p) step true fits due (λ place to way is. around_request v place to step.operation true p e way is)

  steps : (highest lowest size : ℕ) (w : Position) (p : Processor) (step : Step Position) → Fits w p → next core w ≡ Some step
      → class_of step.operation ≡ Tree → has_room step.operation p ≡ true → Fits (step.rest (goes_onward step.operation highest lowest p)) (does step.operation highest size p)
  steps highest lowest size w p step fits due e room =
      fits_on w p (does step.operation highest size p) step (goes_onward step.operation highest lowest p) fits due
      (λ place to way is. around_step highest lowest size place to step.operation p way is)

  abbrev AllFit : List (Runner Position) → Type 0
  AllFit rs = AllAre (RunnerFits (next core) Fits locally requests steps) rs

  -- the beginning
  first_stand : StandsFrom InRoot (position main [])
  first_stand =
      let begins = local.begins in
      record {
        groups = inside_at main (OfFunction None ∷ []) [] begins.nested;
        all = (record { outermost = λ e. refl; called = λ e none. ap nesting begins.nested }, tt);
      }

  all_first : Goes (next core) InRoot (position main []) → (set : Setting) (firsts : Memory) (h count : ℕ) → AllFit (beginners set firsts (position main []) h count)
  all_first leads set firsts h zero = tt
  all_first leads set firsts h (suc count) = (record { place = InRoot; leads = leads; around = refl; stand = first_stand }, all_first leads set firsts (suc h) count)

  told_levels : (r : Runner Position) → Fits r.left r.has → HasToldLevels core main local r
  told_levels r fits =
      let here = at_landing fits.place r.left fits.stand in
      record { groups = fits.around ∙ sym here.groups; calls = here.all }

  -- ---- as machines need it

  none_of : (outside i : ℕ) → At outside i → nesting (local.nests i) + outside ≤ 1 → levels_of (local.in_main i) (local.nests i) ≡ 0
  none_of outside i stands few = by (local.in_main i) refl
    where
      by : (b : Bool) → local.in_main i ≡ b → levels_of b (local.nests i) ≡ 0
      by true e = omega (arith, few)
      by false e =
          ⊎_elim (λ none. let z = stands.called e none in omega (arith, z)) (λ some. omega (arith, some, few)) (cases_eq outside 0)

  some_of : (outside i : ℕ) → At outside i → IsInPart (local.nests i) → 2 ≤ nesting (local.nests i) + outside → 0 < levels_of (local.in_main i) (local.nests i)
  some_of outside i stands part many = by (local.in_main i) refl
    where
      by : (b : Bool) → local.in_main i ≡ b → 0 < levels_of b (local.nests i)
      by true e = let none = stands.outermost e in omega (arith, none, many)
      by false e = let some = some_part (local.nests i) part in omega (arith, some)

  pub part_asked : (op : Operation) (i : ℕ) → leaves_part op ≡ true → AsksAt op i → IsInPart (local.nests i)
  part_asked o.Shrink i leaves asks = asks.0
  part_asked o.End i leaves asks = asks
  part_asked op i leaves asks = absurd (cc)

  module _ (nestings : Nestings) (levels : (i : ℕ) → i < length core → nestings.levels i ≡ levels_of (local.in_main i) (local.nests i)) where
    none_saved : (indices : List ℕ) → AllAt indices → All (λ i. i < length core) indices → inside indices ≤ 1 → NoneSaved nestings indices
    none_saved [] all below few = tt
    none_saved (i ∷ indices) all below few = (
      levels i (All-head (λ j. j < length core) i indices below) ∙ none_of (inside indices) i all.0 few,
      none_saved indices all.1 (All-tail (λ j. j < length core) i indices below) (omega (arith, few)),
    )

    pub saves_levels : (r : Runner Position) → HasToldLevels core main local r → All (λ i. i < length core) r.left.callers → SavesLevels core nestings r
    saves_levels r told below = record {
      none = λ op operation at few.
          let i = landing core r.left.at in
          none_saved (i ∷ r.left.callers) told.calls (All-cons (λ j. j < length core) i r.left.callers (at_below core i op at.stands) below)
          (let groups = told.groups in omega (arith, groups, few));
      some = λ op operation at many leaves.
          let i = landing core r.left.at in
          let groups = told.groups in
          let fits = local.fits i op operation at.stands at.is_read in
          let some = some_of (inside r.left.callers) i told.calls.0 (part_asked operation i leaves fits.asks) (omega (arith, groups, many)) in
          subst (λ (n : ℕ). 0 < n) (sym (levels i (at_below core i op at.stands))) some;
    }

pub levels_are_told : LevelsAreTold
levels_are_told core main local leads words firsts input p schedule h r at =
    let set = setting_of p words input in
    let all = runs (next core) (Fits core main local) (locally core main local) (requests core main local) (steps core main local) set schedule
    (list_opening main words firsts input p) (all_first core main local leads set (slice_index firsts) 0 p) in
    told_levels core main local r
    (all_at (RunnerFits (next core) (Fits core main local) (locally core main local) (requests core main local) (steps core main local)) _ h r all at)
