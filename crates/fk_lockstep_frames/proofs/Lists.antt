-- Lists whose indices tell the nests of the running call.
use Rattle.std.proofs.Common.{◌≡◌, ℕ, zero, suc, ◌-◌, ◌≤◌, ◌==◌, Bool, true, false, true≢false, List, [], ◌∷◌, ◌++◌, length, slice_get, Option, Some, None, is_some, if◌then◌else◌, refl, sym, ap, ◌∙◌, subst}
use Rattle.std.specs.Prelude.{◌^◌, ◌<◌, All}
use Rattle.std.proofs.lemmas.List.Elements.{All-nil, All-cons}
use Rattle.fk_num.specs.Word.{Memory}
use Rattle.fk_meaning_operation.specs.declared.operation.OwnValue.TheVariants.{FrameAddress}
use Rattle.fk_meaning_operation.specs.declared.operation.SplitKind.TheVariants as s
use Rattle.fk_meaning_operation.specs.declared.operation.Operation.{Operation}
use Rattle.fk_meaning_operation.specs.declared.operation.Operation.TheVariants as o
use Rattle.fk_meaning_operation.specs.declared.kinds.Class.TheVariants.{Local, Request, Tree}
use Rattle.fk_meaning_operation.specs.Kinds.{class_of}
use Rattle.fk_meaning_store.specs.Store.{Store}
use Rattle.fk_meaning_store.specs.Serve.{Served, serve, may_use}
use Rattle.fk_space.specs.Space.{Space, IsSpace}
use Rattle.fk_meaning.specs.Behind.{tail}
use Rattle.fk_meaning.specs.Processor.{Processor, Setting, setting_of, group_space}
use Rattle.fk_meaning.specs.Local.{local as local_of, is_onward, known}
use Rattle.fk_meaning.specs.Request.{request, with_answer}
use Rattle.fk_meaning.specs.Group.{does, goes_onward, has_room}
use Rattle.fk_meaning.specs.Round.{Step, Runner}
use Rattle.fk_meaning.specs.Schedule.{beginners, first_processor}
use Rattle.fk_core.specs.declared.op.CoreOp.{CoreOp}
use Rattle.fk_core.specs.Next.{Position, position, is_jump, through, led_by, landing_by, landing, behind_jump, follows, next, list_opening}
use Rattle.fk_lockstep_frames.specs.Nests.{Nest, OfFunction, OfPart, nesting, frame_at, frame_has, has_word, is_numbered, taken, outward, take_frame, behind, MayLeave, MayTake, IsInPart, May, TellsOn}
use Rattle.fk_lockstep_frames.specs.Taken.{numbers_of, HasTaken, TakesInPart, AreNumbered, KeepsNumbers, HasNests, IsFirstFrame}
use Rattle.fk_lockstep_frames.specs.Lists.{nests_of, told, IsOutermost, Leads, Calls, Returns, Asks, GoesOn, HasLocalFrames, ListsTellFrames}
use Rattle.fk_lockstep_frames.proofs.Rounds.{AllAre, all_at, RunnerFits, runs}
use Rattle.fk_lockstep_frames.proofs.Runs.{local_on, request_on, tree_on, first_nests}
use Rattle.fk_lockstep_frames.proofs.Found.{found}
use Rattle.fk_lockstep_frames.proofs.Lies.{frames_lie_in_spaces}
use Rattle.fk_lockstep_frames.proofs.Firsts.{part_begins}

-- the nests of one call: parts, and the function
abbrev pub IsOfCall : List Nest → Type 0
IsOfCall [] = ⊥
IsOfCall (OfFunction frame ∷ []) = Unit {0}
IsOfCall (OfFunction frame ∷ nest ∷ nests) = ⊥
IsOfCall (OfPart b frame ∷ nests) = IsOfCall nests

-- nothing outside counts in them
nesting_same : (ns more : List Nest) → IsOfCall ns → nesting (ns ++ more) ≡ nesting ns
nesting_same [] more call = absurd call
nesting_same (OfFunction f ∷ ns) more call = refl
nesting_same (OfPart b f ∷ ns) more call = ap (λ n. suc n) (nesting_same ns more call)

frame_at_same : (ns more : List Nest) (number : ℕ) → IsOfCall ns → frame_at (ns ++ more) number ≡ frame_at ns number
frame_at_same [] more number call = absurd call
frame_at_same (OfFunction f ∷ ns) more number call = refl
frame_at_same (OfPart b f ∷ ns) more number call =
    ap (λ n. if number == suc n then f else frame_at (ns ++ more) number) (nesting_same ns more call)
    ∙ ap (λ other. if number == suc (nesting ns) then f else other) (frame_at_same ns more number call)

-- the numbers of groups
all_small : (ns : List Nest) (numbers : List (ℕ × ℕ)) → AreNumbered ns numbers → All (λ n. n.0 < 2 ^ 16) numbers
all_small ns [] h = All-nil (λ (n : ℕ × ℕ). n.0 < 2 ^ 16)
all_small ns (n ∷ []) h = All-cons (λ (m : ℕ × ℕ). m.0 < 2 ^ 16) n [] h (All-nil (λ (m : ℕ × ℕ). m.0 < 2 ^ 16))
all_small ns (n ∷ around ∷ numbers) h = All-cons (λ (m : ℕ × ℕ). m.0 < 2 ^ 16) n (around ∷ numbers) h.0 (all_small (outward ns) (around ∷ numbers) h.2)

keeps_numbers : (ns more : List Nest) (numbers : List (ℕ × ℕ)) → AreNumbered (ns ++ more) numbers → KeepsNumbers ns numbers
keeps_numbers [] more numbers h = tt
keeps_numbers (OfFunction f ∷ ns) more numbers h = tt
keeps_numbers (OfPart true f ∷ ns) more numbers h = tt
keeps_numbers (OfPart false f ∷ ns) more [] h = tt
keeps_numbers (OfPart false f ∷ ns) more (n ∷ []) h = tt
keeps_numbers (OfPart false f ∷ ns) more (n ∷ around ∷ numbers) h = h.1 refl

-- and the words that are taken in the innermost one
takes_in_part : (ns more : List Nest) (s : Space) → HasTaken (taken (ns ++ more)) s → TakesInPart ns s
takes_in_part [] more s h = tt
takes_in_part (OfFunction f ∷ ns) more s h = tt
takes_in_part (OfPart b f ∷ ns) more s h = h.frames

-- the operations that go on in their call
abbrev IsOrdinary : Operation → Type 0
IsOrdinary (o.Enter arguments) = ⊥
IsOrdinary (o.Leave gives framed) = ⊥
IsOrdinary o.Halt = ⊥
IsOrdinary op = Unit {0}

tail_front : (ns more : List Nest) → IsOfCall ns → tail (ns ++ more) ≡ tail ns ++ more
tail_front [] more call = absurd call
tail_front (n ∷ ns) more call = refl

frame_front : (words : ℕ) (ns more : List Nest) → IsOfCall ns → take_frame words (ns ++ more) ≡ take_frame words ns ++ more
frame_front words [] more call = absurd call
frame_front words (n ∷ ns) more call = refl

behind_front : (op : Operation) (onward : Bool) (ns more : List Nest) → IsOrdinary op → IsOfCall ns → behind op onward (ns ++ more) ≡ behind op onward ns ++ more
behind_front (o.Enter n) onward ns more e call = absurd e
behind_front (o.Leave gives framed) onward ns more e call = absurd e
behind_front o.Halt onward ns more e call = absurd e
behind_front (o.Frame number words) onward ns more e call = frame_front words ns more call
behind_front o.Begin true ns more e call = refl
behind_front o.Begin false ns more e call = refl
behind_front (o.Split s.IfElse) onward ns more e call = refl
behind_front (o.Split by) true ns more e call = refl
behind_front (o.Split by) false ns more e call = refl
behind_front o.Shrink true ns more e call = refl
behind_front o.Shrink false ns more e call = tail_front ns more call
behind_front o.End onward ns more e call = tail_front ns more call
behind_front op onward ns more e call = refl

tail_of_call : (ns : List Nest) → IsInPart ns → IsOfCall ns → IsOfCall (tail ns)
tail_of_call [] may call = absurd may
tail_of_call (OfFunction f ∷ ns) may call = absurd may
tail_of_call (OfPart b f ∷ ns) may call = call

frame_of_call : (words number : ℕ) (ns : List Nest) → MayTake number ns → IsOfCall ns → IsOfCall (take_frame words ns)
frame_of_call words number [] may call = absurd call
frame_of_call words number (OfFunction f ∷ []) may call = tt
frame_of_call words number (OfFunction f ∷ n ∷ ns) may call = absurd call
frame_of_call words number (OfPart b f ∷ ns) may call = call

in_part_front : (ns more : List Nest) → IsInPart ns → IsInPart (ns ++ more)
in_part_front [] more may = absurd may
in_part_front (OfFunction f ∷ ns) more may = absurd may
in_part_front (OfPart b f ∷ []) more may = absurd may
in_part_front (OfPart b f ∷ n ∷ ns) more may = tt

numbered_front : (ns more : List Nest) → IsInPart ns → is_numbered (ns ++ more) ≡ is_numbered ns
numbered_front [] more may = absurd may
numbered_front (OfFunction f ∷ ns) more may = absurd may
numbered_front (OfPart b f ∷ ns) more may = refl

take_front : (number : ℕ) (ns more : List Nest) → MayTake number ns → IsOfCall ns → MayTake number (ns ++ more)
take_front number [] more may call = absurd may
take_front number (n ∷ ns) more may call = (may.0 ∙ sym (nesting_same (n ∷ ns) more call), may.1)

module _ (core : List CoreOp) (main : ℕ) (local : HasLocalFrames core main) where
  abbrev in_main : ℕ → Bool
  in_main = local.in_main

  abbrev nests : ℕ → List Nest
  nests = local.nests

  abbrev pub tells : Position → List Nest
  tells w = told core local.in_main local.nests w

  abbrev others : List ℕ → List Nest
  others callers = nests_of core local.in_main local.nests callers

  -- each function that is called has a caller, and `main` has none
  abbrev pub InOrder : (i : ℕ) → (callers : List ℕ) → Type 0
  InOrder i [] = IsOfCall (local.nests i) × (local.in_main i ≡ true)
  InOrder i (c ∷ callers) = IsOfCall (local.nests i) × (local.in_main i ≡ false) × InOrder c callers

  of_call : (i : ℕ) (callers : List ℕ) → InOrder i callers → IsOfCall (nests i)
  of_call i [] order = order.0
  of_call i (c ∷ callers) order = order.0

  order_at : (i j : ℕ) (callers : List ℕ) → in_main j ≡ in_main i → IsOfCall (nests j) → InOrder i callers → InOrder j callers
  order_at i j [] same call order = (call, same ∙ order.1)
  order_at i j (c ∷ callers) same call order = (call, same ∙ order.1, order.2)

  order_led : (there : List Nest) (i j : ℕ) (callers : List ℕ) → Leads core local.in_main local.nests there i j → IsOfCall there → InOrder i callers → InOrder j callers
  order_led there i j callers leads call order = order_at i j callers leads.main (subst IsOfCall (sym leads.nested) call) order

  no_callers : (i : ℕ) (callers : List ℕ) → in_main i ≡ true → InOrder i callers → callers ≡ []
  no_callers i [] is order = refl
  no_callers i (c ∷ callers) is order = absurd (true≢false (sym is ∙ order.1))

  -- jumps lead to where the same holds
  record Lands (i j : ℕ) (callers : List ℕ) : Type 0 where
    order : InOrder j callers
    same : nests j ≡ nests i

  landed_by : (jumps i : ℕ) (callers : List ℕ) → InOrder i callers → Lands i (landing_by core jumps i) callers
  landed_by zero i callers order = record { order = order; same = refl }
  landed_by (suc jumps) i callers order = by (λ j there. landed_by jumps j callers there) (slice_get core i) refl
    where
      through_jump : ((j : ℕ) → InOrder j callers → Lands j (landing_by core jumps j) callers) → (op : CoreOp) → slice_get core i ≡ Some op
          → (b : Bool) → is_jump op ≡ b → Lands i (through b (landing_by core jumps) i op.target) callers
      through_jump more op is true jump =
          let leads = local.jumps i op is jump in
          let there = more op.target (order_led (nests i) i op.target callers leads (of_call i callers order) order) in
          record { order = there.order; same = there.same ∙ leads.nested }
      through_jump more op is false jump = record { order = order; same = refl }

      by : ((j : ℕ) → InOrder j callers → Lands j (landing_by core jumps j) callers) → (slot : Option CoreOp) → slice_get core i ≡ slot
          → Lands i (led_by slot (landing_by core jumps) i) callers
      by more None is = record { order = order; same = refl }
      by more (Some op) is = through_jump more op is (is_jump op) refl

  landed : (i : ℕ) (callers : List ℕ) → InOrder i callers → Lands i (landing core i) callers
  landed i callers order = landed_by (length core) i callers order

  -- what an operation makes of all nests
  record After (i target : ℕ) (callers : List ℕ) (op : Operation) : Type 0 where
    may : May op (nests i ++ others callers)
    on : (onward : Bool) → tells (follows core op i target callers onward) ≡ behind op onward (nests i ++ others callers)
    order : (onward : Bool) → let w = follows core op i target callers onward in InOrder w.at w.callers

  module _ (i target : ℕ) where
    abbrev Asked : Operation → Type 0
    Asked op = Asks core local.in_main local.nests op i

    abbrev Going : Operation → Type 0
    Going op = GoesOn core local.in_main local.nests op i target

    entering : (arguments : ℕ) (callers : List ℕ) → InOrder i callers → Calls core local.in_main local.nests i → After i target callers (o.Enter arguments)
    entering arguments callers order calls =
        let back = behind_jump core (suc i) in
        let leads = calls.back in
        record {
          may = tt;
          on = λ onward. ap (λ (ns : List Nest). ns ++ (nests back ++ others callers)) calls.begins ∙ ap (λ (ns : List Nest). OfFunction None ∷ (ns ++ others callers)) leads.nested;
          order = λ onward. (subst IsOfCall (sym calls.begins) tt, calls.main, order_led (nests i) i back callers leads (of_call i callers order) order);
        }

    may_leave : (framed : Bool) (frame : Option ℕ) (ns more : List Nest) → is_some frame ≡ framed → IsOfCall ns → MayLeave framed (OfFunction frame ∷ (ns ++ more))
    may_leave framed frame [] more is call = absurd call
    may_leave framed frame (n ∷ ns) more is call = is

    leaving : (gives framed : Bool) (callers : List ℕ) → InOrder i callers → Returns core local.in_main local.nests framed i → After i target callers (o.Leave gives framed)
    leaving gives framed [] order returns = absurd (true≢false (sym order.1 ∙ returns.main))
    leaving gives framed (c ∷ callers) order returns = record {
      may = subst (λ (ns : List Nest). MayLeave framed (ns ++ (nests c ++ others callers))) (sym returns.nested) (may_leave framed returns.frame (nests c) (others callers) returns.gives_back (of_call c callers order.2));
      on = λ onward. sym (ap (λ (ns : List Nest). tail (ns ++ (nests c ++ others callers))) returns.nested);
      order = λ onward. order.2;
    }

    halting : (callers : List ℕ) → InOrder i callers → IsOutermost core local.in_main local.nests i → After i target callers o.Halt
    halting [] order outer =
        let ends = local.ends in
        record {
          may = tt;
          on = λ onward. ap (λ (ns : List Nest). ns ++ []) (ends.nested ∙ sym outer.nested);
          order = λ onward. (subst IsOfCall (sym ends.nested) tt, ends.main);
        }
    halting (c ∷ callers) order outer = absurd (true≢false (sym outer.main ∙ order.1))

    -- an operation that goes on in its call
    going : (op : Operation) → IsOrdinary op → Going op → (onward : Bool)
        → Leads core local.in_main local.nests (behind op onward (nests i)) i (follows core op i target [] onward).at
    going (o.Enter n) e g onward = absurd e
    going (o.Leave gives framed) e g onward = absurd e
    going o.Halt e g onward = absurd e
    going op e g onward = g onward

    same_callers : (op : Operation) (callers : List ℕ) (onward : Bool) → IsOrdinary op
        → follows core op i target callers onward ≡ position (follows core op i target [] onward).at callers
    same_callers (o.Enter n) callers onward e = absurd e
    same_callers (o.Leave gives framed) callers onward e = absurd e
    same_callers o.Halt callers onward e = absurd e
    same_callers o.End callers onward e = refl
    same_callers op callers true e = refl
    same_callers op callers false e = refl

    may_begin : (callers : List ℕ) → InOrder i callers → IsOutermost core local.in_main local.nests i → nests i ++ others callers ≡ OfFunction None ∷ []
    may_begin [] order outer = ap (λ (ns : List Nest). ns ++ []) outer.nested
    may_begin (c ∷ callers) order outer = absurd (true≢false (sym outer.main ∙ order.1))

    may_front : (op : Operation) (callers : List ℕ) → IsOrdinary op → InOrder i callers → Asked op → May op (nests i ++ others callers)
    may_front (o.Enter n) callers e order asks = absurd e
    may_front (o.Leave gives framed) callers e order asks = absurd e
    may_front o.Halt callers e order asks = absurd e
    may_front (o.Frame number words) callers e order asks = take_front number (nests i) (others callers) asks (of_call i callers order)
    may_front o.Begin callers e order asks = may_begin callers order asks
    may_front o.Shrink callers e order asks = (in_part_front (nests i) (others callers) asks.0, numbered_front (nests i) (others callers) asks.0 ∙ asks.1)
    may_front o.End callers e order asks = in_part_front (nests i) (others callers) asks
    may_front op callers e order asks = tt

    behind_of_call : (op : Operation) (onward : Bool) → IsOrdinary op → Asked op → IsOfCall (nests i) → IsOfCall (behind op onward (nests i))
    behind_of_call (o.Enter n) onward e asks call = absurd e
    behind_of_call (o.Leave gives framed) onward e asks call = absurd e
    behind_of_call o.Halt onward e asks call = absurd e
    behind_of_call (o.Frame number words) onward e asks call = frame_of_call words number (nests i) asks call
    behind_of_call o.Begin true e asks call = call
    behind_of_call o.Begin false e asks call = call
    behind_of_call (o.Split s.IfElse) onward e asks call = call
    behind_of_call (o.Split by) true e asks call = call
    behind_of_call (o.Split by) false e asks call = call
    behind_of_call o.Shrink true e asks call = call
    behind_of_call o.Shrink false e asks call = tail_of_call (nests i) asks.0 call
    behind_of_call o.End onward e asks call = tail_of_call (nests i) asks call
    behind_of_call op onward e asks call = call

    ordinary : (op : Operation) (callers : List ℕ) → IsOrdinary op → InOrder i callers → Asked op → Going op → After i target callers op
    ordinary op callers e order asks g =
        let call = of_call i callers order in
        let leads = going op e g in
        record {
          may = may_front op callers e order asks;
          on = λ onward.
              ap tells (same_callers op callers onward e) ∙ ap (λ (ns : List Nest). ns ++ others callers) (let to = leads onward in to.nested)
              ∙ sym (behind_front op onward (nests i) (others callers) e call);
          order = λ onward. subst (λ (w : Position). InOrder w.at w.callers) (sym (same_callers op callers onward e))
              (order_led (behind op onward (nests i)) i (follows core op i target [] onward).at callers (leads onward) (behind_of_call op onward e asks call) order);
        }

    after : (op : Operation) (callers : List ℕ) → InOrder i callers → Asked op → Going op → After i target callers op
    after (o.Enter n) callers order asks g = entering n callers order g
    after (o.Leave gives framed) callers order asks g = leaving gives framed callers order g
    after o.Halt callers order asks g = halting callers order g
    after op callers order asks g = ordinary op callers tt order asks g

  -- the next operation of a position, and what it leads to
  record Goes (w : Position) (step : Step Position) : Type 0 where
    tells_on : TellsOn (next core) tells w step
    order : (onward : Bool) → InOrder (step.rest onward).at (step.rest onward).callers

  goes : (w : Position) (step : Step Position) → InOrder w.at w.callers → next core w ≡ Some step → Goes w step
  goes w step order due =
      let x = found core w step due in
      let lands = landed w.at w.callers order in
      let fits = local.fits (landing core w.at) x.op x.operation x.stands x.reads in
      let a = after (landing core w.at) x.op.target x.operation w.callers lands.order fits.asks fits.goes_on in
      subst (Goes w) (sym x.is) (record {
        tells_on = record {
          may = subst (λ (ns : List Nest). May x.operation (ns ++ others w.callers)) lands.same a.may;
          on = λ onward. a.on onward ∙ ap (λ (ns : List Nest). behind x.operation onward (ns ++ others w.callers)) lands.same;
        };
        order = a.order;
      })

  -- what holds of a processor and its position
  abbrev pub FitsList : Position → Processor → Type 0
  FitsList w p = InOrder w.at w.callers × HasNests (tells w) p

  pub list_local : (set : Setting) (w : Position) (p : Processor) (step : Step Position) → FitsList w p → next core w ≡ Some step
      → class_of step.operation ≡ Local → FitsList (step.rest (is_onward step.operation p)) (local_of set step.operation p)
  list_local set w p step fits due e =
      let g = goes w step fits.0 due in (g.order (is_onward step.operation p), local_on (next core) tells set w p step g.tells_on fits.1 e)

  pub list_request : (s s' : Store) (v : ℕ) (w : Position) (p : Processor) (step : Step Position) → FitsList w p → next core w ≡ Some step
      → class_of step.operation ≡ Request → serve (request step.operation p) s p.number ≡ Served s' v → FitsList (step.rest true) (with_answer step.operation v p)
  list_request s s' v w p step fits due e served =
      let g = goes w step fits.0 due in (g.order true, request_on (next core) tells v w p step g.tells_on fits.1 e)

  pub list_tree : (highest lowest size : ℕ) (w : Position) (p : Processor) (step : Step Position) → FitsList w p → next core w ≡ Some step
      → class_of step.operation ≡ Tree → has_room step.operation p ≡ true → FitsList (step.rest (goes_onward step.operation highest lowest p)) (does step.operation highest size p)
  list_tree highest lowest size w p step fits due e room =
      let g = goes w step fits.0 due in
      (g.order (goes_onward step.operation highest lowest p), tree_on (next core) tells highest lowest size w p step g.tells_on fits.1 e room)

  -- a word of a frame of the running call
  pub usable_at : (set : Setting) (w : Position) (p : Processor) (number word : ℕ) → FitsList w p → has_word (nests (landing core w.at)) number word ≡ true
      → may_use true (known set p (FrameAddress number word)) ≡ true
  usable_at set w p number word fits has =
      let lands = landed w.at w.callers fits.0 in
      let here : frame_at (tells w) number ≡ frame_at (nests (landing core w.at)) number =
      frame_at_same (nests w.at) (others w.callers) number (of_call w.at w.callers fits.0) ∙ ap (λ (ns : List Nest). frame_at ns number) (sym lands.same) in
      let lie = frames_lie_in_spaces (tells w) p fits.1 in
      lie.usable set number word (ap (λ (frame : Option ℕ). frame_has frame word) here ∙ has)

  -- the frame of a part of the running call
  pub begins_at : (w : Position) (p : Processor) (part word : ℕ) → FitsList w p → has_word (nests (landing core w.at)) (suc part) word ≡ true
      → (suc part ≤ nesting (nests (landing core w.at))) × IsFirstFrame (nesting (nests (landing core w.at)) - suc part) (suc part) p
  begins_at w p part word fits has =
      let lands = landed w.at w.callers fits.0 in
      let call = of_call w.at w.callers fits.0 in
      let here : frame_at (tells w) (suc part) ≡ frame_at (nests (landing core w.at)) (suc part) =
      frame_at_same (nests w.at) (others w.callers) (suc part) call ∙ ap (λ (ns : List Nest). frame_at ns (suc part)) (sym lands.same) in
      let same : nesting (tells w) ≡ nesting (nests (landing core w.at)) = nesting_same (nests w.at) (others w.callers) call ∙ ap nesting (sym lands.same) in
      subst (λ n. (suc part ≤ n) × IsFirstFrame (n - suc part) (suc part) p) same
      (part_begins (tells w) p fits.1 part word (ap (λ (frame : Option ℕ). frame_has frame word) here ∙ has))

  -- the numbers of its groups
  numbers_at : (w : Position) (p : Processor) → FitsList w p → KeepsNumbers (nests (landing core w.at)) (numbers_of p)
  numbers_at w p fits =
      let lands = landed w.at w.callers fits.0 in
      let h = fits.1 in
      keeps_numbers (nests (landing core w.at)) (others w.callers) (numbers_of p)
      (subst (λ (ns : List Nest). AreNumbered (ns ++ others w.callers) (numbers_of p)) (sym lands.same) h.numbers)

  taken_at : (w : Position) (p : Processor) → FitsList w p → TakesInPart (nests (landing core w.at)) p.level.space
  taken_at w p fits =
      let lands = landed w.at w.callers fits.0 in
      let spaces = fits.1.spaces in
      takes_in_part (nests (landing core w.at)) (others w.callers) p.level.space
      (subst (λ (ns : List Nest). HasTaken (taken (ns ++ others w.callers)) p.level.space) (sym lands.same) spaces.0)

  -- the beginning
  pub begins_list : (set : Setting) (firsts : Memory) (h : ℕ) → IsSpace (group_space set) → FitsList (position main []) (first_processor set firsts h)
  begins_list set firsts h space =
      let begins = local.begins in
      let is : tells (position main []) ≡ OfFunction None ∷ [] = ap (λ (ns : List Nest). ns ++ []) begins.nested in (
        (subst IsOfCall (sym begins.nested) tt, begins.main),
        subst (λ (ns : List Nest). HasNests ns (first_processor set firsts h)) (sym is) (first_nests set firsts h space),
      )

  abbrev pub AllFitList : List (Runner Position) → Type 0
  AllFitList rs = AllAre (RunnerFits (next core) FitsList list_local list_request list_tree) rs

  pub first_list : (set : Setting) (firsts : Memory) (h count : ℕ) → IsSpace (group_space set) → AllFitList (beginners set firsts (position main []) h count)
  first_list set firsts h zero space = tt
  first_list set firsts h (suc count) space = (begins_list set firsts h space, first_list set firsts (suc h) count space)

pub lists_tell_frames : ListsTellFrames
lists_tell_frames core main local words firsts input p schedule space h r here =
    let set = setting_of p words input in
    let all = runs (next core) (FitsList core main local) (list_local core main local) (list_request core main local) (list_tree core main local) set schedule
    (list_opening main words firsts input p) (first_list core main local set _ 0 p space) in
    let fits = all_at (RunnerFits (next core) (FitsList core main local) (list_local core main local) (list_request core main local) (list_tree core main local)) _ h r all here in
    record {
      nests = fits.1;
      usable = λ number word has. usable_at core main local set r.left r.has number word fits has;
      begins = λ part word has. begins_at core main local r.left r.has part word fits has;
      small = (let h = fits.1 in all_small _ (numbers_of r.has) h.numbers);
      numbers = numbers_at core main local r.left r.has fits;
      taken = taken_at core main local r.left r.has fits;
    }
