-- A processor whose values go with what is known, and what an operation makes of it.
use Rattle.std.proofs.Common.{◌≡◌, ℕ, zero, suc, ◌+◌, ◌<◌, ◌==◌, Bool, true, false, List, [], ◌∷◌, length, slice_get, Option, Some, None, if◌then◌else◌, refl, sym, subst, arith}
use Rattle.fk_meaning_operation.specs.declared.operation.Operation.{Operation}
use Rattle.fk_meaning_operation.specs.declared.operation.Operation.TheVariants as o
use Rattle.fk_meaning_operation.specs.declared.operation.Variable.TheVariants as v
use Rattle.fk_meaning_operation.specs.declared.operation.OwnValue.TheVariants as n
use Rattle.fk_meaning_operation.specs.declared.kinds.Class.TheVariants.{Local, Request, Tree}
use Rattle.fk_meaning_operation.specs.Kinds.{class_of}
use Rattle.fk_num.specs.Word.{word}
use Rattle.fk_meaning_store.specs.Store.{Store}
use Rattle.fk_meaning_store.specs.Serve.{Served, Faults, serve, may_use, words_of}
use Rattle.fk_space.specs.Space.{Space, IsSpace, frame, block}
use Rattle.fk_meaning_store.specs.Store.{address_of}
use Rattle.fk_meaning.specs.Processor.{Call, Processor, Setting, values, last, before, in_place, drop_last, enter_level, to_outer, leave_level}
use Rattle.fk_meaning.specs.Local.{local, is_onward, handed, to_caller, unframed, in_order}
use Rattle.fk_meaning.specs.Request.{request, with_answer}
use Rattle.fk_meaning.specs.Group.{does, goes_onward, stays as stays_in, is_taken, start_level, part, taken_by, enters, divided, with_size, framed, allotted}
use Rattle.fk_core.specs.declared.op.CoreOp.{CoreOp}
use Rattle.fk_core.specs.Next.{Position, is_jump, through, led_by, landing_by, landing, behind_jump, follows, returned}
use Rattle.fk_sim_block.specs.Ready.{MayDo}
use Rattle.fk_meaning.specs.Round.{Runner}
use Rattle.fk_meaning_operation.specs.declared.kinds.FaultKind.TheVariants.{BadAddress}
use Rattle.fk_core_liveness.specs.declared.places.FunctionKind.{FunctionKind}
use Rattle.fk_core_liveness.specs.declared.places.FunctionKind.TheVariants.{Main, Called}
use Rattle.fk_core_typing.specs.declared.change.Change.{Change}
use Rattle.fk_lockstep_frames.specs.Nests.{Nest, has_word}
use Rattle.fk_core_typing.specs.declared.constants.Constant.TheVariants.{Number, FrameWord}
use Rattle.fk_core_typing.specs.declared.constants.Constants.{Constants}
use Rattle.fk_num.specs.Op.{applied}
use Rattle.fk_core_typing.specs.AddressValues as ch
use Rattle.fk_core_typing.specs.AddressValues.{after, change, pushed_by, called, unchanged, no_constants, constants_behind, is_address, joined_constant}
use Rattle.fk_core_typing.specs.LocalAddresses.{AreSameIn, Leads, Calls, HasKnowledge, Fits as FitsAt}
use Rattle.fk_core_typing.proofs.DepthSteps.{no_local, no_step}
use Rattle.fk_core_typing.proofs.AddressValues.{Knows, nothing, dropped, all_kept, one_pushed, any_pushed, one_replaced, two_replaced, two_joined, any_joined, words_taken, passed, taken_callers, outer_values, outer_callers, divides, last_holds, second_holds, value_of, HasConstants, no_constant, fewer_constants, constant_pushed, constant_joined, constant_may, joined_may, joined_two}

-- what is known of the caller's values stays so, with a result or without
behind_call : (shared_alone : Bool) (known : ℕ → Bool) (n : ℕ) (gives : Bool) (v : ℕ) (p : Processor) → Knows shared_alone known (values p)
    → Knows shared_alone (after (called n gives) known) (handed gives v (record (p.call) { values = before n (values p) })).values
behind_call shared_alone known n true v p knows = any_pushed shared_alone (λ k. known (n + k)) v (before n (values p)) (dropped shared_alone known n (values p) knows)
behind_call shared_alone known n false v p knows = dropped shared_alone known n (values p) knows

module _ (core : List CoreOp) (main : ℕ) (nests : ℕ → List Nest) (known : HasKnowledge core main nests) where
  -- the calls that wait: each goes on with its values, and whatever result of the one that it waits for
  abbrev pub Waits : FunctionKind → (callers : List ℕ) → (calls : List Call) → Type 0
  Waits Main [] [] = Unit {0}
  Waits (Called gives) (back ∷ callers) (call ∷ calls) =
      (place : FunctionKind) × (known.within back ≡ place)
      × ((v : ℕ) (shared_alone : Bool) → Knows shared_alone (known.known shared_alone back) (handed gives v call).values)
      × AreSameIn (known.constants back) no_constants
      × Waits place callers calls
  Waits place callers calls = ⊥

  pub record Stands (index : ℕ) (callers : List ℕ) (p : Processor) : Type 0 where
    pub knows : (shared_alone : Bool) → Knows shared_alone (known.known shared_alone index) (values p)
    pub constants : HasConstants p.call.frames (known.constants index) (values p)
    pub waits : Waits (known.within index) callers p.callers

  -- from an index to another, in the same call
  goes : (changes : Bool → Change) (behind : Constants) (i j : ℕ) (callers : List ℕ) (p q : Processor)
      → Leads core nests known.within known.known known.constants changes behind i j
      → Waits (known.within i) callers p.callers → q.callers ≡ p.callers
      → ((shared_alone : Bool) → Knows shared_alone (after (changes shared_alone) (known.known shared_alone i)) (values q))
      → HasConstants q.call.frames behind (values q) → Stands j callers q
  goes changes behind i j callers p q leads waits same knows has = record {
    knows = λ shared_alone value e. knows shared_alone value (leads.is_known shared_alone value e);
    constants = fewer_constants q.call.frames (known.constants j) behind (values q) leads.same has;
    waits = (let there : Waits (known.within j) callers p.callers = subst (λ (place : FunctionKind). Waits place callers p.callers) (sym leads.inside) waits in
        subst (λ (calls : List Call). Waits (known.within j) callers calls) (sym same) there);
  }

  -- jumps lead on
  jumps : (i : ℕ) (op : CoreOp) (callers : List ℕ) (p : Processor) → slice_get core i ≡ Some op → is_jump op ≡ true → Stands i callers p → Stands op.target callers p
  jumps i op callers p e j stands =
      goes (λ shared_alone. unchanged) (known.constants i) i op.target callers p p (known.jumps i op e j) stands.waits refl
      (λ shared_alone. all_kept shared_alone (known.known shared_alone i) (values p) (stands.knows shared_alone)) stands.constants

  lands_by : (count i : ℕ) (callers : List ℕ) (p : Processor) → Stands i callers p → Stands (landing_by core count i) callers p
  lands_by zero i callers p stands = stands
  lands_by (suc count) i callers p stands = by (λ j there. lands_by count j callers p there) (slice_get core i) refl
    where
      through_jump : ((j : ℕ) → Stands j callers p → Stands (landing_by core count j) callers p) → (op : CoreOp) → slice_get core i ≡ Some op
          → (b : Bool) → is_jump op ≡ b → Stands (through b (landing_by core count) i op.target) callers p
      through_jump more op e true j = more op.target (jumps i op callers p e j stands)
      through_jump more op e false j = stands

      by : ((j : ℕ) → Stands j callers p → Stands (landing_by core count j) callers p) → (slot : Option CoreOp) → slice_get core i ≡ slot
          → Stands (led_by slot (landing_by core count) i) callers p
      by more None e = stands
      by more (Some op) e = through_jump more op e (is_jump op) refl

  pub lands : (i : ℕ) (callers : List ℕ) (p : Processor) → Stands i callers p → Stands (landing core i) callers p
  lands i callers p stands = lands_by (length core) i callers p stands

  -- the end of the program, and that of a call
  stops : (callers : List ℕ) (p : Processor) → Waits Main callers p.callers → Stands (returned core callers).at (returned core callers).callers p
  stops [] p waits = record {
    knows = λ shared_alone. nothing shared_alone (known.known shared_alone (length core)) (values p) (let none = known.ends.nothing in none.addresses shared_alone);
    constants = fewer_constants p.call.frames (known.constants (length core)) no_constants (values p) (let none = known.ends.nothing in none.same) (no_constant p.call.frames (values p));
    waits = subst (λ (place : FunctionKind). Waits place [] p.callers) (sym known.ends.inside) waits;
  }
  stops (back ∷ callers) p waits = absurd waits

  returns : (gives : Bool) (v : ℕ) (p : Processor) (callers : List ℕ) (calls : List Call) → Waits (Called gives) callers calls
      → Stands (returned core callers).at (returned core callers).callers (to_caller gives v p calls)
  returns gives v p [] calls waits = absurd waits
  returns gives v p (back ∷ callers) [] waits = absurd waits
  returns true v p (back ∷ callers) (call ∷ calls) waits = record {
    knows = λ shared_alone. waits.2 v shared_alone;
    constants = fewer_constants call.frames (known.constants back) no_constants (handed true v call).values waits.3 (no_constant call.frames (handed true v call).values);
    waits = subst (λ (place : FunctionKind). Waits place callers calls) (sym waits.1) waits.4;
  }
  returns false v p (back ∷ callers) (call ∷ calls) waits = record {
    knows = λ shared_alone. waits.2 v shared_alone;
    constants = fewer_constants call.frames (known.constants back) no_constants (handed false v call).values waits.3 (no_constant call.frames (handed false v call).values);
    waits = subst (λ (place : FunctionKind). Waits place callers calls) (sym waits.1) waits.4;
  }

  -- a processor at an operation
  module _ (i target : ℕ) (callers : List ℕ) (p : Processor) (stands : Stands i callers p) where
    abbrev K : Bool → ℕ → Bool
    K shared_alone = known.known shared_alone i

    abbrev C : Constants
    C = known.constants i

    abbrev pub Fitting : Operation → Type 0
    Fitting op = FitsAt core nests known.within known.known known.constants i target op

    abbrev pub Going : Operation → Bool → Processor → Type 0
    Going op onward q = let w = follows core op i target callers onward in Stands w.at w.callers q

    -- an operation that goes on in its call
    on_way : (onward : Bool) (op : Operation) (j : ℕ) (q : Processor)
        → Leads core nests known.within known.known known.constants (λ s. change s (nests i) op onward (K s 0) C) (constants_behind op C) i j → q.callers ≡ p.callers
        → ((s : Bool) → Knows s (after (change s (nests i) op onward (K s 0) C) (K s)) (values q)) → HasConstants q.call.frames (constants_behind op C) (values q) → Stands j callers q
    on_way onward op j q leads same knows has = goes (λ s. change s (nests i) op onward (K s 0) C) (constants_behind op C) i j callers p q leads stands.waits same knows has

    on : (op : Operation) (j : ℕ) (q : Processor)
        → Leads core nests known.within known.known known.constants (λ s. change s (nests i) op true (K s 0) C) (constants_behind op C) i j → q.callers ≡ p.callers
        → ((s : Bool) → Knows s (after (change s (nests i) op true (K s 0) C) (K s)) (values q)) → HasConstants q.call.frames (constants_behind op C) (values q) → Stands j callers q
    on = on_way true

    -- the addresses of the words of the frames of the call may be used
    abbrev pub AreUsable : Type 0
    AreUsable = (nesting offset : ℕ) → has_word (nests i) nesting offset ≡ true → may_use true (value_of p.call.frames (FrameWord nesting offset)) ≡ true

    pub by_local : (set : Setting) (op : Operation) → Fitting op → class_of op ≡ Local → AreUsable → Going op (is_onward op p) (local set op p)
    by_local set (o.Push n) f e usable =
        on (o.Push n) (suc i) (local set (o.Push n) p) (f.goes_on true) refl
        (λ s. one_pushed s (λ v. K s (0 + v)) (may_use s (word n)) (word n) (values p) (λ may. may) (all_kept s (K s) (values p) (stands.knows s)))
        (constant_pushed p.call.frames (Number (word n)) C (values p) stands.constants)
    by_local set (o.Get (n.FrameAddress nesting offset)) f e usable =
        let address = FrameWord nesting offset in
        on (o.Get (n.FrameAddress nesting offset)) (suc i) (local set (o.Get (n.FrameAddress nesting offset)) p) (f.goes_on true) refl
        (λ s. one_pushed s (λ v. K s (0 + v)) (has_word (nests i) nesting offset) (value_of p.call.frames address) (values p)
        (constant_may p.call.frames (nests i) usable s address) (all_kept s (K s) (values p) (stands.knows s))) (constant_pushed p.call.frames address C (values p) stands.constants)
    by_local set (o.Get k) f e usable =
        on (o.Get k) (suc i) (local set (o.Get k) p) (f.goes_on true) refl
        (λ s. any_pushed s (λ v. K s (0 + v)) _ (values p) (all_kept s (K s) (values p) (stands.knows s))) (no_constant _ _)
    by_local set (o.Set (v.Private w)) f e usable =
        on (o.Set (v.Private w)) (suc i) (local set (o.Set (v.Private w)) p) (f.goes_on true) refl (λ s. all_kept s (K s) (values p) (stands.knows s)) (no_constant _ (values p))
    by_local set (o.Set (v.OfFile w)) f e usable =
        on (o.Set (v.OfFile w)) (suc i) (local set (o.Set (v.OfFile w)) p) (f.goes_on true) refl (λ s. all_kept s (K s) (values p) (stands.knows s)) (no_constant _ (values p))
    by_local set o.DropLast f e usable =
        on o.DropLast (suc i) (local set o.DropLast p) (f.goes_on true) refl (λ s. dropped s (K s) 1 (values p) (stands.knows s)) (no_constant _ _)
    by_local set o.CopyLast f e usable =
        on o.CopyLast (suc i) (local set o.CopyLast p) (f.goes_on true) refl
        (λ s. one_pushed s (λ v. K s (0 + v)) (K s 0) (last (values p)) (values p) (λ it. last_holds s (values p) (stands.knows s 0 it))
        (all_kept s (K s) (values p) (stands.knows s))) (no_constant _ _)
    by_local set (o.Apply sign) f e usable =
        on (o.Apply sign) (suc i) (local set (o.Apply sign) p) (f.goes_on true) refl (λ s. one_replaced s (K s) _ (values p) (stands.knows s)) (no_constant _ _)
    by_local set (o.Binary sign turned) f e usable =
        on (o.Binary sign turned) (suc i) (local set (o.Binary sign turned) p) (f.goes_on true) refl
        (λ s. two_joined s (K s) (is_address s (nests i) (joined_constant sign turned C.second C.last)) (in_order turned (applied sign)) (values p)
        (joined_may p.call.frames (nests i) usable s sign turned C (values p) stands.constants)
        (joined_two p.call.frames (nests i) usable s sign turned C (values p) stands.constants) (stands.knows s))
        (constant_joined p.call.frames sign turned C (values p) stands.constants)
    by_local set (o.Index size) f e usable =
        on (o.Index size) (suc i) (local set (o.Index size) p) (f.goes_on true) refl (λ s. any_joined s (K s) _ (values p) (stands.knows s)) (no_constant _ _)
    by_local set (o.Branch onward) f e usable = branch (is_onward (o.Branch onward) p)
      where
        branch : (way : Bool) → Going (o.Branch onward) way (local set (o.Branch onward) p)
        branch true =
            on (o.Branch onward) (suc i) (local set (o.Branch onward) p) (f.goes_on true) refl (λ s. dropped s (K s) 1 (values p) (stands.knows s)) (no_constant _ _)
        branch false =
            on_way false (o.Branch onward) target (local set (o.Branch onward) p) (f.goes_on false) refl (λ s. dropped s (K s) 1 (values p) (stands.knows s)) (no_constant _ _)
    by_local set o.Take f e usable =
        on o.Take (suc i) (local set o.Take p) (f.goes_on true) (taken_callers _ p) (λ s. words_taken s (K s) _ p (stands.knows s)) (no_constant _ _)
    by_local set (o.Leave gives framed) f e usable =
        returns gives (last (values p)) (unframed framed p) callers p.callers (subst (λ (place : FunctionKind). Waits place callers p.callers) f.goes_on stands.waits)
    by_local set (o.Combine by) f e usable = absurd (no_local by e)
    by_local set op f e usable = absurd (cc)

    -- a check that is served
    passes : (b : Bool) (s s' : Store) (v : ℕ) → (if b then Served s 0 else Faults BadAddress) ≡ Served s' v → b ≡ true
    passes true s s' v e = refl
    passes false s s' v e = absurd (cc)

    entering : (n v : ℕ) → Calls core nests known.within known.known known.constants n i → Going (o.Enter n) true (with_answer (o.Enter n) v p)
    entering n v calls =
        let back = behind_jump core (suc i) in
        let caller : Call = record (p.call) { values = before n (values p) } in
        let waits : Waits (Called calls.gives) (back ∷ callers) (caller ∷ p.callers) = (
          known.within back,
          refl,
          (λ w s value e. behind_call s (K s) n calls.gives w p (stands.knows s) value (let leads = calls.back in leads.is_known s value e)),
          (let leads = calls.back in leads.same),
          (let leads = calls.back in subst (λ (place : FunctionKind). Waits place callers p.callers) (sym leads.inside) stands.waits),
        ) in
        record {
          knows = λ s. nothing s (known.known s (suc i)) [] (let none = calls.begins in none.addresses s);
          constants = fewer_constants _ (known.constants (suc i)) no_constants [] (let none = calls.begins in none.same) (no_constant _ []);
          waits = subst (λ (place : FunctionKind). Waits place (back ∷ callers) (caller ∷ p.callers)) (sym calls.inside) waits;
        }

    pub by_request : (s s' : Store) (v : ℕ) (op : Operation) → Fitting op → class_of op ≡ Request → serve (request op p) s p.number ≡ Served s' v
        → Going op true (with_answer op v p)
    by_request s s' v (o.Check checked) f e served =
        let may = passes (may_use checked (last (values p))) s s' v served in
        on (o.Check checked) (suc i) (with_answer (o.Check checked) v p) (f.goes_on true) refl (λ asked. passed asked checked (K asked) (values p) may (stands.knows asked)) (no_constant _ _)
    by_request s s' v o.Read f e served = on o.Read (suc i) (with_answer o.Read v p) (f.goes_on true) refl (λ s. one_replaced s (K s) v (values p) (stands.knows s)) (no_constant _ _)
    by_request s s' v o.Write f e served = on o.Write (suc i) (with_answer o.Write v p) (f.goes_on true) refl (λ s. two_replaced s (K s) v (values p) (stands.knows s)) (no_constant _ _)
    by_request s s' v (o.Combine by) f e served = on (o.Combine by) (suc i) (with_answer (o.Combine by) v p) (f.goes_on true) refl (λ s. two_replaced s (K s) v (values p) (stands.knows s)) (no_constant _ _)
    by_request s s' v o.PrintNumber f e served = on o.PrintNumber (suc i) (with_answer o.PrintNumber v p) (f.goes_on true) refl (λ s. dropped s (K s) 1 (values p) (stands.knows s)) (no_constant _ _)
    by_request s s' v o.PrintByte f e served = on o.PrintByte (suc i) (with_answer o.PrintByte v p) (f.goes_on true) refl (λ s. dropped s (K s) 1 (values p) (stands.knows s)) (no_constant _ _)
    by_request s s' v o.Heap f e served = on o.Heap (suc i) (with_answer o.Heap v p) (f.goes_on true) refl (λ s. one_replaced s (K s) v (values p) (stands.knows s)) (no_constant _ _)
    by_request s s' v (o.Enter n) f e served = entering n v f.goes_on
    by_request s s' v op f e served = absurd (cc)

    -- those that leave the values of a processor as they are
    stays : (onward : Bool) (op : Operation) (j : ℕ) (q : Processor)
        → Leads core nests known.within known.known known.constants (λ s. change s (nests i) op onward (K s 0) C) (constants_behind op C) i j
        → ((s : Bool) → change s (nests i) op onward (K s 0) C ≡ unchanged) → constants_behind op C ≡ no_constants
        → values q ≡ values p → q.callers ≡ p.callers → Stands j callers q
    stays onward op j q leads no_change none same calls =
        on_way onward op j q leads calls
        (λ s. subst (λ (c : Change). Knows s (after c (K s)) (values q)) (sym (no_change s))
        (subst (Knows s (after unchanged (K s))) (sym same) (all_kept s (K s) (values p) (stands.knows s))))
        (subst (λ (c : Constants). HasConstants q.call.frames c (values q)) (sym none) (no_constant _ (values q)))

    pub by_tree : (highest lowest size : ℕ) (op : Operation) → Fitting op → class_of op ≡ Tree
        → Going op (goes_onward op highest lowest p) (does op highest size p)
    by_tree highest lowest size o.Begin f e = begin (is_taken highest p)
      where
        begin : (way : Bool) → Going o.Begin way (if way then enter_level (start_level p size) (drop_last 1 p) else drop_last 1 p)
        begin true =
            on o.Begin (suc i) (enter_level (start_level p size) (drop_last 1 p)) (f.goes_on true) refl (λ s. dropped s (K s) 1 (values p) (stands.knows s)) (no_constant _ _)
        begin false = on_way false o.Begin target (drop_last 1 p) (f.goes_on false) refl (λ s. dropped s (K s) 1 (values p) (stands.knows s)) (no_constant _ _)
    by_tree highest lowest size o.Agree f e =
        on o.Agree (suc i) (in_place highest p) (f.goes_on true) refl (λ s. one_replaced s (K s) highest (values p) (stands.knows s)) (no_constant _ _)
    by_tree highest lowest size (o.Frame nesting words) f e = frames (frame p.level.space words)
      where
        frames : (space : Option Space) → Going (o.Frame nesting words) true (framed nesting p space)
        frames None = stays true (o.Frame nesting words) (suc i) (framed nesting p None) (f.goes_on true) (λ s. refl) refl refl refl
        frames (Some space) = stays true (o.Frame nesting words) (suc i) (framed nesting p (Some space)) (f.goes_on true) (λ s. refl) refl refl refl
    by_tree highest lowest size o.Block f e = blocks (words_of (last (values p)) == 0) (block p.level.space (words_of (last (values p))))
      where
        blocks : (none : Bool) (found : Option (ℕ × Space)) → Going o.Block true (if none then in_place 0 p else allotted p found)
        blocks true found = on o.Block (suc i) (in_place 0 p) (f.goes_on true) refl (λ s. one_replaced s (K s) 0 (values p) (stands.knows s)) (no_constant _ _)
        blocks false None = on o.Block (suc i) (in_place 0 p) (f.goes_on true) refl (λ s. one_replaced s (K s) 0 (values p) (stands.knows s)) (no_constant _ _)
        blocks false (Some found) =
            on o.Block (suc i) (allotted p (Some found)) (f.goes_on true) refl (λ s. one_replaced s (K s) (address_of found.0) (values p) (stands.knows s)) (no_constant _ _)
    by_tree highest lowest size (o.Split split) f e = divide (part split (values p))
      where
        parts : (way : Bool) (q : Processor) → q.callers ≡ p.callers → ((s : Bool) → Knows s (after (ch.by (taken_by split) (pushed_by split way)) (K s)) (values q))
            → Going (o.Split split) way q
        parts true q same knows = on (o.Split split) (suc i) q (f.goes_on true) same knows (no_constant _ (values q))
        parts false q same knows = on_way false (o.Split split) target q (f.goes_on false) same knows (no_constant _ (values q))

        divide : (part : Option ℕ) → Going (o.Split split) (enters split part) (divided split size p part)
        divide None = parts (enters split None) (divided split size p None) refl (λ s. divides s (K s) split size p None (stands.knows s))
        divide (Some n) = parts (enters split (Some n)) (divided split size p (Some n)) refl (λ s. divides s (K s) split size p (Some n) (stands.knows s))
    by_tree highest lowest size o.Shrink f e = shrink (stays_in p)
      where
        shrink : (way : Bool) → Going o.Shrink way (if way then with_size size (drop_last 1 p) else leave_level (drop_last 1 p))
        shrink true = on o.Shrink (suc i) (with_size size (drop_last 1 p)) (f.goes_on true) refl (λ s. dropped s (K s) 1 (values p) (stands.knows s)) (no_constant _ _)
        shrink false =
            on_way false o.Shrink target (to_outer (drop_last 1 p) p.outer) (f.goes_on false) (outer_callers (drop_last 1 p) p.outer)
            (λ s. subst (Knows s (after (ch.by 1 None) (K s))) (sym (outer_values (drop_last 1 p) p.outer)) (dropped s (K s) 1 (values p) (stands.knows s))) (no_constant _ _)
    by_tree highest lowest size o.End f e =
        stays true o.End target (to_outer p p.outer) (f.goes_on true) (λ s. refl) refl (outer_values p p.outer) (outer_callers p p.outer)
    by_tree highest lowest size o.Resume f e = stays true o.Resume (suc i) p (f.goes_on true) (λ s. refl) refl refl refl
    by_tree highest lowest size o.Farm f e = stays true o.Farm (suc i) p (f.goes_on true) (λ s. refl) refl refl refl
    by_tree highest lowest size o.Seq f e = body (goes_onward o.Seq highest lowest p)
      where
        body : (way : Bool) → Going o.Seq way p
        body true = stays true o.Seq (suc i) p (f.goes_on true) (λ s. refl) refl refl refl
        body false = stays false o.Seq target p (f.goes_on false) (λ s. refl) refl refl refl
    by_tree highest lowest size (o.Meet closing) f e = stays true (o.Meet closing) (suc i) p (f.goes_on true) (λ s. refl) refl refl refl
    by_tree highest lowest size o.Halt f e = stops callers p (subst (λ (place : FunctionKind). Waits place callers p.callers) f.goes_on stands.waits)
    by_tree highest lowest size (o.Combine by) f e = absurd (no_step by e)
    by_tree highest lowest size op f e = absurd (cc)

  waits_called : (gives : Bool) (callers : List ℕ) (calls : List Call) → Waits (Called gives) callers calls → 0 < length callers
  waits_called gives [] calls waits = absurd waits
  waits_called gives (back ∷ callers) calls waits = omega arith

  waits_main : (callers : List ℕ) (calls : List Call) → Waits Main callers calls → callers ≡ []
  waits_main [] calls waits = refl
  waits_main (back ∷ callers) calls waits = absurd waits

  -- so it may do its operation
  pub may_do : (r : Runner Position) (i target : ℕ) (op : Operation) → Stands i r.left.callers r.has → IsSpace r.has.level.space → FitsAt core nests known.within known.known known.constants i target op → MayDo op r
  may_do r i target o.Read stands space f = last_holds false (values r.has) (stands.knows false 0 f.asks)
  may_do r i target o.Write stands space f = second_holds false (values r.has) (stands.knows false 1 f.asks)
  may_do r i target (o.Combine by) stands space f = second_holds true (values r.has) (stands.knows true 1 f.asks)
  may_do r i target (o.Leave gives framed) stands space f =
      waits_called gives r.left.callers r.has.callers (subst (λ (place : FunctionKind). Waits place r.left.callers r.has.callers) f.goes_on stands.waits)
  may_do r i target o.Halt stands space f =
      waits_main r.left.callers r.has.callers (subst (λ (place : FunctionKind). Waits place r.left.callers r.has.callers) f.goes_on stands.waits)
  may_do r i target (o.Frame number words) stands space f = space
  may_do r i target o.Block stands space f = space
  may_do r i target op stands space f = tt
