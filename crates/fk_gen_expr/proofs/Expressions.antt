-- The block of each operation of expressions does it.
use Rattle.std.proofs.Common.{◌≡◌, ℕ, zero, suc, ◌+◌, ◌-◌, ◌*◌, ◌^◌, ◌<◌, ◌≤◌, List, [], ◌∷◌, ◌++◌, length, Bool, true, false, refl, sym, ap, subst, ◌∙◌, arith}
use Rattle.std.specs.Prelude.{◌==◌, if◌then◌else◌}
use Rattle.std.proofs.lemmas.List.{length-append}
use Rattle.std.proofs.lemmas.Bool.{eqb-true, eq-eqb, ne_eqb}
use Rattle.fk_num.specs.Word.{put, word, word_sum}
use Rattle.fk_num.specs.Op.{applied}
use Rattle.fk_num.specs.declared.operator.Op.{Op}
use Rattle.fk_meaning_operation.specs.declared.operation.OwnValue.{OwnValue}
use Rattle.fk_meaning_operation.specs.declared.operation.OwnValue.TheVariants.{Value, Rank, GroupNumber, ProcessorNumber, Processors, GroupSize, InputLength, FrameAddress, InputAddress}
use Rattle.fk_meaning_operation.specs.declared.operation.Operation.{Operation}
use Rattle.fk_meaning_operation.specs.declared.operation.Operation.TheVariants.{Push, Get, Set, DropLast, CopyLast, Apply, Binary, Index}
use Rattle.fk_meaning_operation.specs.declared.operation.Unary.{Unary}
use Rattle.fk_meaning_operation.specs.declared.operation.Variable.{Variable}
use Rattle.fk_meaning_operation.specs.declared.operation.Variable.TheVariants.{Private, OfFile}
use Rattle.fk_meaning_store.specs.Store.{address_of}
use Rattle.fk_meaning.specs.Processor.{Setting, values, last, before, with_values}
use Rattle.fk_meaning.specs.Local.{local, applied_to, in_order}
use Rattle.fk_core.specs.declared.op.CoreOp.{CoreOp}
use Rattle.fk_core.specs.Next.{position}
use Rattle.fk_image.specs.declared.Image.{Image}
use Rattle.fk_isa.specs.declared.instruction.Instruction.{Instruction}
use Rattle.fk_isa.specs.declared.instruction.Instruction.TheVariants.{Lui, Addi, Slli, Add, Mul, Lw, Sw}
use Rattle.fk_machine.specs.Hart.{Hart, Setting as MachineSetting}
use Rattle.fk_sim_block.specs.Owner.{Owner, number_of, owner_of}
use Rattle.fk_sim_block.specs.Stands.{Places, HasRoom, IsGroupFrame, TellsFrame, frame_start, local_address, value_in, StandsFor, zero_register, frame_register, local_register, device_register, number_register, rank_register, size_register, group_frame_register}
use Rattle.fk_sim_block.specs.Next.{OpAt}
use Rattle.fk_sim_block.specs.Suits.{Fits, Flows, writes}
use Rattle.fk_sim_block.specs.Block.{Enters}
use Rattle.fk_sim_block.specs.Node.{control_address}
use Rattle.fk_gen.specs.declared.placed.Levels.{Levels}
use Rattle.fk_gen.specs.Parts.{outward, node_word, node_by, FindsNode, FindsPart}
use Rattle.fk_gen.specs.InPlace.{HasBlock}
use Rattle.fk_gen.specs.Keeps.{Keeps, DoesAnd, past_first, peak}
use Rattle.fk_gen.specs.Lines.{first_commits, at_private, high_part, low_part, load_by, load_number, add_by}
use Rattle.fk_gen.proofs.Walk.{Told, Quiets, Reached, Plain, LocalAt, TellsNumber, TellsHarts, TellsInputs, walk, CanRun, CanWalk, told_of, after}
use Rattle.fk_gen_expr.specs.Operators.{operator_code, sign_instruction}
use Rattle.fk_gen_expr.specs.Expressions.{IsExpression, expression_block, load_node, past_header, own_address, part_address, times_size}
use Rattle.fk_gen_expr.specs.Law.{ExpressionsDo, ExpressionsKeep}
use Rattle.fk_gen.specs.Operands.{operand, result}
use Rattle.fk_gen.proofs.ValueLines.{place_reached, operand_line, result_line, operand_runs, result_runs, operand_is, earlier_is, result_keeps, result_stands}
use Rattle.fk_gen.proofs.Values.{other_word, values_before, joined_is, private_place, own_place, number_of_parts, number_of_low_part, sum_of_low, sum_of_parts}
use Rattle.fk_gen.proofs.Does.{local_doing, does_of}
use Rattle.fk_gen.proofs.Standing.{InMemory, in_memory, stands_with, with_list, nothing_written, private_written, own_written}
use Rattle.fk_gen.specs.Registers.{t0, t1, t2}
use Rattle.fk_gen_expr.proofs.Local.{length-on_registers, IsLocal, code_does, instructions_of, on_registers, instructions_of-append, walk-append, can_walk-append}
use Rattle.fk_gen_expr.proofs.Operators.{few_of_operator, HasSame, Gives, HasOperands, itself, gives_behind, operator_gives, sign_gives}
use Rattle.fk_gen_expr.proofs.Values.{last_word, words_before, element, word_element}

less_room : (places : Places) (i more less : ℕ) → less ≤ more → HasRoom places.frames i more → HasRoom places.frames i less
less_room places i more less le room =
    let header = room.header in
    record { header = omega arith; kept = λ word e. let k = room.kept word e in omega arith }

module _ (core : List CoreOp) (image : Image) (places : Places) (bound : ℕ → ℕ) (i : ℕ) (op : CoreOp) (levels : Levels) (setting : Setting) (t : MachineSetting) (p : Owner) (h : Hart) where
  abbrev told : Told
  told = told_of t (number_of p)

  -- how many calls wait, and the values
  abbrev n : ℕ
  n = length p.runner.has.callers

  abbrev d : ℕ
  d = op.depth

  abbrev vs : List ℕ
  vs = values p.runner.has

  abbrev globals : ℕ
  globals = length image.globals.items

  -- the operation at the index, its block, and a hart that stands there
  pub record Here (operation : Operation) : Type 0 where
    pub at : OpAt core i op operation
    pub is : IsExpression globals levels d operation
    pub block : HasBlock image bound places i (expression_block globals levels d operation)
    pub few : places.frames.of_file ≤ 56
    pub fits : Fits core places.frames i op operation
    pub enters : Enters core image places setting t i op operation p h
    pub finds : FindsPart places levels operation p h

  -- it does its operation, and keeps what such a block keeps
  abbrev KeepsMost : Operation → Hart → Type 0
  KeepsMost operation h' = Keeps places n (peak operation d) (writes operation) h h'

  abbrev pub IsDone : Operation → Type 0
  IsDone operation = DoesAnd core image places setting t 1 p h 0 (past_first (expression_block globals levels d operation)) (KeepsMost operation)

  -- behind its code it stands for a processor of the same level, with as many calls waiting, that it has in memory, with the
  -- same group frame
  stands_after : (operation : Operation) (h2 : Hart) (p2 : Owner) → Here operation → HasSame h h2 → p2.runner.has.level ≡ p.runner.has.level
      → length p2.runner.has.callers ≡ n → p2.runner.has.top ≡ p.runner.has.top
      → InMemory places h2.local (h.registers group_frame_register) p2 → StandsFor places p2 h2
  stands_after operation h2 p2 here same level calls top held =
      stands_with places p p2 h h2 here.enters.at.stands
      (same.0, same.1, same.2, same.3, same.4, same.5, same.6, same.7, same.8, same.10, same.11, same.12, same.17) level calls (same.9 ∙ here.enters.at.stands.top ∙ sym top) held

  -- code that leaves a value in a register, which then is stored in place of the last so many
  value_does : (operation : Operation) (code : Quiets) (register dropped k v : ℕ) → Here operation
      → first_commits 1 (instructions_of (code ++ result_line register n k ∷ [])) ≡ expression_block globals levels d operation
      → length code ≤ 20
      → IsLocal core i op operation p
      → local setting operation p.runner.has ≡ with_values p.runner.has (v ∷ before dropped vs)
      → Gives told code h register v
      → Flows core places.frames (λ word. false) i (suc i)
      → HasRoom places.frames i k → dropped ≤ length vs → k ≡ suc (length vs) - dropped → k ≤ peak operation d
      → IsDone operation
  value_does operation code register dropped k v here same short is_local done gives flows room enough top high =
      let stands = here.enters.at.stands in
      let store : Instruction × Reached = result_line register n k in
      let full : Quiets = code ++ store ∷ [] in
      let h1 = walk told code h in
      let h2 = after told store.0 store.1 h1 in
      let waiting = here.enters.ready.in_range.waiting in
      let header = room.header in
      let new = v ∷ before dropped vs in
      let can = can_walk-append told code (store ∷ []) h gives.can (result_runs register n k h1 (gives.same.2 ∙ stands.behind) waiting (omega arith) (omega arith), tt) in
      let written : InMemory places h2.local (h.registers group_frame_register) (with_list core places (suc i) new p) =
      result_stands core places told (h.registers group_frame_register) p i (suc i) register dropped k v h1 here.few waiting here.enters.index room enough top flows gives.result
      (subst (λ m. InMemory places m (h.registers group_frame_register) p) (sym gives.local) (in_memory places p h stands)) in
      let standing : StandsFor places (with_list core places (suc i) new p) h2 =
      stands_after operation h2 (with_list core places (suc i) new p) here gives.same refl refl refl written in
      let size : length full ≡ length code + 1 = length-append code (store ∷ []) in
      let kept : KeepsMost operation h2 =
      record {
        node = gives.same.13;
        body = gives.same.14;
        frames = gives.same.15;
        blocks = gives.same.16;
        header = λ j lt apart. result_keeps told register n k h1 j (omega arith) ∙ ap (λ m. m j) gives.local;
        words = λ j from lt apart. result_keeps told register n k h1 j (omega arith) ∙ ap (λ m. m j) gives.local;
      } in
      subst (λ block. DoesAnd core image places setting t 1 p h 0 (past_first block) (KeepsMost operation)) same
      (code_does core image places bound i op operation setting t p h full (KeepsMost operation) here.at here.enters
      (subst (HasBlock image bound places i) (sym same) here.block) (omega arith) (omega arith) is_local can
      (subst (λ w. StandsFor places (record p { runner = record { left = w; has = local setting operation p.runner.has } }) (walk told full h)) (sym is_local.onward)
      (subst (λ q. StandsFor places (record p { runner = record { left = position (suc i) p.runner.left.callers; has = q } }) (walk told full h)) (sym done)
      (subst (StandsFor places (with_list core places (suc i) new p)) (sym (walk-append told code (store ∷ []) h)) standing)))
      (subst (KeepsMost operation) (sym (walk-append told code (store ∷ []) h)) kept))

  -- ---- what a hart finds

  top_at : (operation : Operation) → Here operation → 1 ≤ d → value_in h n d ≡ last vs
  top_at operation here some = operand_is (value_in h n) d vs here.enters.at.stands.running.values here.enters.ready.depth some

  second_at : (operation : Operation) → Here operation → 2 ≤ d → value_in h n (d - 1) ≡ last (before 1 vs)
  second_at operation here two = earlier_is (value_in h n) d vs here.enters.at.stands.running.values here.enters.ready.depth two

  -- an operand is taken
  reaches : (operation : Operation) (register k : ℕ) → Here operation → 1 ≤ k → k ≤ 64 → CanRun (operand register k) (place_reached n k) h
  reaches operation register k here first last =
      operand_runs register n k h here.enters.at.stands.behind here.enters.ready.in_range.waiting first last

  -- ---- operations that push

  -- room for one more value
  room_for_one : HasRoom places.frames i (suc d) → HasRoom places.frames i (d + 1)
  room_for_one room = less_room places i (suc d) (d + 1) (omega arith) room

  -- the lines of a number and a store
  number_lines : (short : Bool) (number : ℕ) (store : Instruction) (word : ℕ) → (high_part number == 0) ≡ short
      → first_commits 1 (instructions_of (on_registers (load_by short number) ++ (store, LocalAt word) ∷ [])) ≡ first_commits 1 (load_number number ++ store ∷ [])
  number_lines short number store word e =
      ap (λ is. first_commits 1 is) (instructions_of-append (load_by short number) ((store, LocalAt word) ∷ [])) ∙ ap (λ b. first_commits 1 (load_by b number ++ store ∷ [])) (sym e)

  few_of_number : (short : Bool) (number : ℕ) → length (on_registers (load_by short number)) ≤ 20
  few_of_number true number = omega arith
  few_of_number false number = omega arith

  number_gives : (short : Bool) (number : ℕ) → (high_part number == 0) ≡ short → h.registers zero_register ≡ 0 → Gives told (on_registers (load_by short number)) h t0 (word number)
  number_gives true number e nought = record {
    can = (tt, tt);
    same = itself h;
    local = refl;
    result = ap (λ z. word_sum z (low_part number)) nought ∙ number_of_low_part number e;
  }
  number_gives false number e nought = record {
    can = (tt, (tt, tt));
    same = itself h;
    local = refl;
    result = number_of_parts number;
  }

  push_does : (number : ℕ) → Here (Push number) → IsDone (Push number)
  push_does number here =
      let depth = here.enters.ready.depth in
      let short = high_part number == 0 in
      value_does (Push number) (on_registers (load_by short number)) t0 0 (d + 1) (word number) here (number_lines short number _ _ refl) (few_of_number short number)
      record { kind = refl; onward = refl } refl
      (number_gives short number refl here.enters.at.stands.nought)
      (here.fits.goes_on true) (room_for_one here.fits.place) (omega arith) (omega arith) (omega arith)

  copy_does : Here CopyLast → IsDone CopyLast
  copy_does here =
      let depth = here.enters.ready.depth in
      let is = here.is in
      value_does CopyLast (operand_line t0 n d ∷ []) t0 0 (d + 1) (last vs) here refl (omega arith)
      record { kind = refl; onward = refl } refl
      record {
        can = (reaches CopyLast t0 d here is.0 (omega arith), tt);
        same = itself h;
        local = refl;
        result = top_at CopyLast here is.0;
      }
      (here.fits.goes_on true) (room_for_one here.fits.place) (omega arith) (omega arith) (omega arith)

  -- what code leaves in a register of what is known
  get_with : (known : OwnValue) (code : Quiets) (register v : ℕ) → Here (Get known)
      → first_commits 1 (instructions_of (code ++ result_line register n (d + 1) ∷ [])) ≡ expression_block globals levels d (Get known)
      → length code ≤ 20
      → local setting (Get known) p.runner.has ≡ with_values p.runner.has (v ∷ vs)
      → Gives told code h register v → IsDone (Get known)
  get_with known code register v here same short done gives =
      let depth = here.enters.ready.depth in
      let place = here.fits.place in
      value_does (Get known) code register 0 (d + 1) v here same short record { kind = refl; onward = refl } done gives
      (here.fits.goes_on true) (room_for_one place.1) (omega arith) (omega arith) (omega arith)

  -- one that a register has
  in_register : (register v : ℕ) → h.registers register ≡ v → Gives told [] h register v
  in_register register v e = record { can = tt; same = itself h; local = refl; result = e }

  -- one that a device tells
  by_device : (offset v : ℕ) (reached : Reached) → CanWalk told ((Lw t0 device_register offset, reached) ∷ []) h → (walk told ((Lw t0 device_register offset, reached) ∷ []) h).registers t0 ≡ v
      → Gives told ((Lw t0 device_register offset, reached) ∷ []) h t0 v
  by_device offset v reached can e = record {
    can = can;
    same = itself h;
    local = refl;
    result = e;
  }

  -- a register and a number
  sum_gives : (short : Bool) (number a : ℕ) → (high_part number == 0) ≡ short → (g : Hart) → g.registers t1 ≡ a → Gives told (on_registers (add_by short number t1)) g t0 (word (a + number))
  sum_gives true number a e g is = record {
    can = (tt, tt);
    same = itself g;
    local = refl;
    result = ap (λ x. word_sum x (low_part number)) is ∙ sum_of_low a (low_part number) number (number_of_low_part number e);
  }
  sum_gives false number a e g is = record {
    can = (tt, (tt, (tt, tt)));
    same = itself g;
    local = refl;
    result =
        ap (λ x. word_sum (word_sum (high_part number * 4096) (low_part number)) x) is
        ∙ sum_of_parts a (word_sum (high_part number * 4096) (low_part number)) number (number_of_parts number);
  }

  few_of_sum : (load : Instruction × Reached) (short : Bool) (number : ℕ) → length (load ∷ on_registers (add_by short number t1)) ≤ 20
  few_of_sum load true number = omega arith
  few_of_sum load false number = omega arith

  -- the register of group frames and a number
  own_sum_gives : (short : Bool) (number a : ℕ) → (high_part number == 0) ≡ short → h.registers group_frame_register ≡ a
      → Gives told (on_registers (add_by short number group_frame_register)) h t0 (word (a + number))
  own_sum_gives true number a e is = record {
    can = (tt, tt);
    same = itself h;
    local = refl;
    result = ap (λ x. word_sum x (low_part number)) is ∙ sum_of_low a (low_part number) number (number_of_low_part number e);
  }
  own_sum_gives false number a e is = record {
    can = (tt, (tt, (tt, tt)));
    same = itself h;
    local = refl;
    result =
        ap (λ x. word_sum (word_sum (high_part number * 4096) (low_part number)) x) is
        ∙ sum_of_parts a (word_sum (high_part number * 4096) (low_part number)) number (number_of_parts number);
  }

  few_of_own : (short : Bool) (number : ℕ) → length (on_registers (add_by short number group_frame_register)) ≤ 20
  few_of_own true number = omega arith
  few_of_own false number = omega arith

  -- the address of a word of the function's own group frame
  own_word_does : (w : ℕ) → Here (Get (FrameAddress 0 w)) → IsDone (Get (FrameAddress 0 w))
  own_word_does w here =
      let place = here.fits.place in
      let told_at = ap places.frames.group here.enters.index ∙ place.0.0 in
      let has : IsGroupFrame (h.registers group_frame_register) (p.runner.has.call.frames 0) =
      subst (λ o. TellsFrame o (h.registers group_frame_register) p.runner.has.call) told_at here.enters.at.stands.groups.0 in
      let a = address_of (p.runner.has.call.frames 0) in
      let number = 4 * w in
      let short = high_part number == 0 in
      let code = on_registers (add_by short number group_frame_register) in
      let same : word (a + number) ≡ word (address_of (p.runner.has.call.frames 0 + w)) = omega arith in
      get_with (FrameAddress 0 w) code t0 (word (address_of (p.runner.has.call.frames 0 + w))) here
      (ap (λ is. first_commits 1 is) (instructions_of-append (add_by short number group_frame_register) (result_line t0 n (d + 1) ∷ []))) (few_of_own short number) refl
      (subst (Gives told code h t0) same (own_sum_gives short number a refl has.is))

  word_and_nothing : (a : ℕ) → a < 2 ^ 32 → word_sum a 0 ≡ a
  word_and_nothing a small = omega (arith, small)

  -- the node of a group is loaded
  abbrev node_place : (is_own : Bool) (out : ℕ) → Reached
  node_place true out = Plain
  node_place false out = LocalAt (frame_start places n + 7 + node_word levels out)

  node_gives : (is_own : Bool) (out a : ℕ) → h.registers frame_register ≡ local_address (frame_start places n) → n < 256 → places.frames.of_file ≤ 56 → levels.behind + 4 * levels.count ≤ 57 → a < 2 ^ 32
      → node_by is_own places levels out n h ≡ a → Gives told ((load_node is_own levels out, node_place is_own out) ∷ []) h t1 a
  node_gives true out a frame calls few room small node = record {
    can = (tt, tt);
    same = itself h;
    local = refl;
    result = ap (λ x. word_sum x 0) node ∙ word_and_nothing a small;
  }
  node_gives false out a frame calls few room small node = record {
    can = (private_place places (h.registers frame_register) n (node_word levels out) frame calls few (omega arith), tt);
    same = itself h;
    local = refl;
    result = node;
  }

  -- the address of a word of the frame of a part
  part_word_does : (nesting w : ℕ) → (nesting == 0) ≡ false → FindsNode places levels nesting p h → Here (Get (FrameAddress nesting w)) → IsDone (Get (FrameAddress nesting w))
  part_word_does nesting w of_part found here =
      let stands = here.enters.at.stands in
      let small = here.is.1.0 in
      let own = outward levels nesting == 0 in
      let out = outward levels nesting in
      let a = control_address found.first in
      let node = found.node in
      let frame = found.frame in
      let within = found.within in
      let number = past_header w in
      let short = high_part number == 0 in
      let load : Instruction × Reached = (load_node own levels out, node_place own out) in
      let same : word (a + number) ≡ word (address_of (p.runner.has.call.frames nesting + w)) = omega arith in
      let first = node_gives own out a stands.frame here.enters.ready.in_range.waiting here.few here.is.1.1 (omega arith) node in
      get_with (FrameAddress nesting w) (load ∷ on_registers (add_by short number t1)) t0 (word (address_of (p.runner.has.call.frames nesting + w))) here
      (ap (λ rest. first_commits 1 (load_node own levels out ∷ rest)) (instructions_of-append (add_by short number t1) (result_line t0 n (d + 1) ∷ []))
      ∙ ap (λ (b : Bool). first_commits 1 (if b then own_address d w else part_address levels d nesting w)) (sym of_part))
      (few_of_sum load short number) refl
      (subst (Gives told (load ∷ on_registers (add_by short number t1)) h t0) same
      (gives_behind told (load ∷ []) (on_registers (add_by short number t1)) h t0 (word (a + number))
      first.can first.same first.local
      (sum_gives short number a refl (after told load.0 load.1 h) first.result)))

  frame_word_does : (nesting w : ℕ) → Here (Get (FrameAddress nesting w)) → IsDone (Get (FrameAddress nesting w))
  frame_word_does zero w here = own_word_does w here
  frame_word_does (suc nesting) w here =
      part_word_does (suc nesting) w (ne_eqb (suc nesting) 0 (λ e. omega arith)) here.finds here

  get_does : (known : OwnValue) → Here (Get known) → IsDone (Get known)
  get_does (Value (Private w)) here =
      let stands = here.enters.at.stands in
      let is = here.is in
      let place = here.fits.place in
      get_with (Value (Private w)) ((Lw t0 frame_register (at_private w), LocalAt (frame_start places n + 7 + w)) ∷ []) t0 (p.runner.has.call.privates w) here refl (omega arith) refl
      record {
        can = (private_place places (h.registers frame_register) n w stands.frame here.enters.ready.in_range.waiting here.few is.1, tt);
        same = itself h;
        local = refl;
        result = stands.running.privates w (ap (λ at. places.frames.keeps at w) here.enters.index ∙ place.0);
      }
  get_does (Value (OfFile w)) here =
      let stands = here.enters.at.stands in
      let is = here.is in
      let place = here.fits.place in
      get_with (Value (OfFile w)) ((Lw t0 local_register (at_private w), LocalAt (7 + w)) ∷ []) t0 (p.runner.has.own w) here refl (omega arith) refl
      record {
        can = (own_place (h.registers local_register) w stands.local is.1, tt);
        same = itself h;
        local = refl;
        result = stands.own w place.0;
      }
  get_does Rank here = get_with Rank [] rank_register p.runner.has.level.rank here refl (omega arith) refl (in_register rank_register _ here.enters.at.stands.rank)
  get_does GroupNumber here = get_with GroupNumber [] number_register p.runner.has.level.number here refl (omega arith) refl (in_register number_register _ here.enters.at.stands.number)
  get_does GroupSize here = get_with GroupSize [] size_register p.runner.has.level.size here refl (omega arith) refl (in_register size_register _ here.enters.at.stands.size)
  get_does ProcessorNumber here =
      get_with ProcessorNumber ((Lw t0 device_register 20, TellsNumber) ∷ []) t0 p.runner.has.number here refl (omega arith) refl
      (by_device 20 p.runner.has.number TellsNumber (ap (λ a. word_sum a 20) here.enters.at.stands.devices, tt) refl)
  get_does Processors here =
      get_with Processors ((Lw t0 device_register 24, TellsHarts) ∷ []) t0 setting.processors here refl (omega arith) refl
      (by_device 24 setting.processors TellsHarts (ap (λ a. word_sum a 24) here.enters.at.stands.devices, tt) here.enters.running.processors)
  get_does InputLength here =
      get_with InputLength ((Lw t0 device_register 28, TellsInputs) ∷ []) t0 setting.inputs here refl (omega arith) refl
      (by_device 28 setting.inputs TellsInputs (ap (λ a. word_sum a 28) here.enters.at.stands.devices, tt) here.enters.running.inputs)
  get_does InputAddress here =
      let is = here.is in
      let small = is.1 in
      let e = here.enters.running.globals in
      let whole : word (address_of globals) ≡ address_of setting.globals = omega arith in
      let short = high_part (address_of globals) == 0 in
      let gives = number_gives short (address_of globals) refl here.enters.at.stands.nought in
      get_with InputAddress (on_registers (load_by short (address_of globals))) t0 (address_of setting.globals) here
      (number_lines short (address_of globals) _ _ refl) (few_of_number short (address_of globals)) refl
      record {
        can = gives.can;
        same = gives.same;
        local = gives.local;
        result = gives.result ∙ whole;
      }
  get_does (FrameAddress nesting w) here = frame_word_does nesting w here

  -- ---- signs, operators and indices

  apply_does : (sign : Unary) → Here (Apply sign) → IsDone (Apply sign)
  apply_does sign here =
      let depth = here.enters.ready.depth in
      let is = here.is in
      let load : Instruction × Reached = operand_line t0 n d in
      value_does (Apply sign) (load ∷ on_registers (sign_instruction sign ∷ [])) t0 1 d (applied_to sign (last vs)) here refl (omega arith)
      record { kind = refl; onward = refl } refl
      (gives_behind told (load ∷ []) (on_registers (sign_instruction sign ∷ [])) h t0 (applied_to sign (last vs))
      (reaches (Apply sign) t0 d here is.0 is.1, tt) (itself h) refl
      (sign_gives told sign (after told load.0 load.1 h) (last vs) here.enters.at.stands.nought (top_at (Apply sign) here is.0)))
      (here.fits.goes_on true) here.fits.room (omega arith) (omega arith) (omega arith)

  join_with : (sign : Op) (turned : Bool) (first second : Instruction × Reached) (a b : ℕ) → Here (Binary sign turned)
      → first_commits 1 (first.0 ∷ second.0 ∷ (operator_code sign ++ result t0 (d - 1) ∷ [])) ≡ expression_block globals levels d (Binary sign turned)
      → CanWalk told (first ∷ second ∷ []) h → HasSame h (walk told (first ∷ second ∷ []) h)
      → (walk told (first ∷ second ∷ []) h).local ≡ h.local
      → HasOperands (walk told (first ∷ second ∷ []) h) a b
      → in_order turned (applied sign) (last (before 1 vs)) (last vs) ≡ applied sign a b
      → IsDone (Binary sign turned)
  join_with sign turned first second a b here same can unchanged locals operands order =
      let depth = here.enters.ready.depth in
      let is = here.is in
      let short = few_of_operator sign in
      let count = length-on_registers (operator_code sign) in
      value_does (Binary sign turned) (first ∷ second ∷ on_registers (operator_code sign)) t0 2 (d - 1) (applied sign a b) here
      (ap (λ rest. first_commits 1 (first.0 ∷ second.0 ∷ rest)) (instructions_of-append (operator_code sign) _) ∙ same)
      (omega arith)
      record { kind = refl; onward = refl }
      (ap (with_values p.runner.has) (joined_is (in_order turned (applied sign)) vs (omega arith) ∙ ap (λ v. v ∷ before 2 vs) order))
      (gives_behind told (first ∷ second ∷ []) (on_registers (operator_code sign)) h t0 (applied sign a b) can unchanged locals
      (operator_gives told sign (walk told (first ∷ second ∷ []) h) a b operands))
      (here.fits.goes_on true) (less_room places i d (d - 1) (omega arith) here.fits.room) (omega arith) (omega arith) (omega arith)

  join_does : (sign : Op) (turned : Bool) → Here (Binary sign turned) → IsDone (Binary sign turned)
  join_does sign false here =
      let is = here.is in
      let words = here.enters.ready.in_range.values in
      let first : Instruction × Reached = operand_line t0 n (d - 1) in
      let second : Instruction × Reached = operand_line t1 n d in
      let a = second_at (Binary sign false) here is.0 in
      let b = top_at (Binary sign false) here (omega arith) in
      join_with sign false first second (last (before 1 vs)) (last vs) here refl
      (reaches (Binary sign false) t0 (d - 1) here (omega arith) (omega arith), (reaches (Binary sign false) t1 d here (omega arith) is.1, tt))
      (itself h) refl
      record {
        nought = here.enters.at.stands.nought;
        first = a;
        second = b;
        first_word = subst (λ v. v < 2 ^ 32) (sym a) (last_word (before 1 vs) (words_before vs words));
        second_word = subst (λ v. v < 2 ^ 32) (sym b) (last_word vs words);
      }
      refl
  join_does sign true here =
      let is = here.is in
      let words = here.enters.ready.in_range.values in
      let first : Instruction × Reached = operand_line t1 n (d - 1) in
      let second : Instruction × Reached = operand_line t0 n d in
      let a = second_at (Binary sign true) here is.0 in
      let b = top_at (Binary sign true) here (omega arith) in
      join_with sign true first second (last vs) (last (before 1 vs)) here refl
      (reaches (Binary sign true) t1 (d - 1) here (omega arith) (omega arith), (reaches (Binary sign true) t0 d here (omega arith) is.1, tt))
      (itself h) refl
      record {
        nought = here.enters.at.stands.nought;
        first = b;
        second = a;
        first_word = subst (λ v. v < 2 ^ 32) (sym b) (last_word vs words);
        second_word = subst (λ v. v < 2 ^ 32) (sym a) (last_word (before 1 vs) (words_before vs words));
      }
      refl

  -- code behind the two values, that leaves the address in t0
  index_with : (size : ℕ) (code : Quiets) → Here (Index size)
      → first_commits 1 (operand t0 (d - 1) ∷ operand t1 d ∷ instructions_of (code ++ result_line t0 n (d - 1) ∷ [])) ≡ expression_block globals levels d (Index size)
      → length code ≤ 10
      → ((g : Hart) → g.registers t0 ≡ last (before 1 vs) → g.registers t1 ≡ last vs → Gives told code g t0 (word (last (before 1 vs) + last vs * size)))
      → IsDone (Index size)
  index_with size code here same few gives =
      let depth = here.enters.ready.depth in
      let is = here.is in
      let first : Instruction × Reached = operand_line t0 n (d - 1) in
      let second : Instruction × Reached = operand_line t1 n d in
      value_does (Index size) (first ∷ second ∷ code) t0 2 (d - 1) (word (last (before 1 vs) + last vs * size)) here same (omega arith)
      record { kind = refl; onward = refl }
      (ap (with_values p.runner.has) (joined_is (λ address index. word (address + index * size)) vs (omega arith)))
      (gives_behind told (first ∷ second ∷ []) code h t0 (word (last (before 1 vs) + last vs * size))
      (reaches (Index size) t0 (d - 1) here (omega arith) (omega arith), (reaches (Index size) t1 d here (omega arith) is.1, tt)) (itself h) refl
      (gives (walk told (first ∷ second ∷ []) h) (second_at (Index size) here is.0) (top_at (Index size) here (omega arith))))
      (here.fits.goes_on true) (less_room places i d (d - 1) (omega arith) here.fits.room) (omega arith) (omega arith) (omega arith)

  index_by : (size : ℕ) (is_word : Bool) → (size == 4) ≡ is_word → Here (Index size) → IsDone (Index size)
  index_by size true e here =
      index_with size ((Slli t1 t1 2, Plain) ∷ (Add t0 t0 t1, Plain) ∷ []) here
      (ap (λ b. first_commits 1 (operand t0 (d - 1) ∷ operand t1 d ∷ (times_size b size ++ Add t0 t0 t1 ∷ result t0 (d - 1) ∷ []))) (sym e)) (omega arith)
      (λ g a b. record {
        can = (tt, (tt, tt));
        same = itself g;
        local = refl;
        result =
            ap (λ x. word_sum x (word (g.registers t1 * 4))) a ∙ ap (λ x. word_sum (last (before 1 vs)) (word (x * 4))) b
            ∙ word_element (last (before 1 vs)) (last vs) size (eqb-true size 4 e);
      })
  index_by size false e here =
      let is = here.is in
      let number = word_sum (high_part size * 4096) (low_part size) in
      index_with size ((Lui t2 (high_part size), Plain) ∷ (Addi t2 t2 (low_part size), Plain) ∷ (Mul t1 t1 t2, Plain) ∷ (Add t0 t0 t1, Plain) ∷ []) here
      (ap (λ b. first_commits 1 (operand t0 (d - 1) ∷ operand t1 d ∷ (times_size b size ++ Add t0 t0 t1 ∷ result t0 (d - 1) ∷ []))) (sym e)) (omega arith)
      (λ g a b. record {
        can = (tt, (tt, (tt, (tt, tt))));
        same = itself g;
        local = refl;
        result =
            ap (λ x. word_sum x (word (g.registers t1 * number))) a ∙ ap (λ x. word_sum (last (before 1 vs)) (word (x * number))) b
            ∙ element (last (before 1 vs)) (last vs) size is.2;
      })

  index_does : (size : ℕ) → Here (Index size) → IsDone (Index size)
  index_does size here = index_by size (size == 4) refl here

  -- ---- operations that store a variable, or nothing

  drop_does : Here DropLast → IsDone DropLast
  drop_does here =
      let flows : Flows core places.frames (λ word. false) i (suc i) = here.fits.goes_on true in
      let h1 = after told (Addi zero_register zero_register 0) Plain h in
      let new = before 1 vs in
      code_does core image places bound i op DropLast setting t p h ((Addi zero_register zero_register 0, Plain) ∷ []) (KeepsMost DropLast) here.at here.enters here.block (omega arith) (omega arith)
      record { kind = refl; onward = refl }
      (tt, tt)
      (stands_after DropLast h1 (with_list core places (suc i) new p) here (itself h) refl refl refl
      (nothing_written core places h.local (h.registers group_frame_register) p i (suc i) d new here.few here.enters.ready.in_range.waiting here.enters.index here.fits.room flows
      (in_memory places p h here.enters.at.stands)
      (values_before 1 (value_in h n) vs here.enters.at.stands.running.values)))
      record { node = refl; body = refl; frames = refl; blocks = refl; header = λ j lt apart. refl; words = λ j from lt apart. refl }

  set_does : (variable : Variable) → Here (Set variable) → IsDone (Set variable)
  set_does (Private w) here =
      let depth = here.enters.ready.depth in
      let stands = here.enters.at.stands in
      let waiting = here.enters.ready.in_range.waiting in
      let is = here.is in
      let flows : Flows core places.frames (writes (Set (Private w))) i (suc i) = here.fits.goes_on true in
      let load : Instruction × Reached = operand_line t0 n d in
      let store : Instruction × Reached = (Sw frame_register t0 (at_private w), LocalAt (frame_start places n + 7 + w)) in
      let h1 = after told load.0 load.1 h in
      let h2 = after told store.0 store.1 h1 in
      let new : Owner = owner_of (local_doing core image places setting i op (Set (Private w)) p) in
      let found = ap (put h.local (frame_start places n + 7 + w)) (sym (top_at (Set (Private w)) here is.0)) in
      code_does core image places bound i op (Set (Private w)) setting t p h (load ∷ store ∷ []) (KeepsMost (Set (Private w))) here.at here.enters here.block (omega arith) (omega arith)
      record { kind = refl; onward = refl }
      (reaches (Set (Private w)) t0 d here is.0 is.1, (private_place places (h.registers frame_register) n w stands.frame waiting here.few is.2, tt))
      (stands_after (Set (Private w)) h2 new here (itself h) refl refl refl
      (subst (λ m. InMemory places m (h.registers group_frame_register) new) found
      (private_written core places h.local (h.registers group_frame_register) p i (suc i) w (last vs) d here.few waiting here.enters.index here.fits.room (omega arith) here.fits.place flows
      (in_memory places p h stands))))
      record {
        node = refl;
        body = refl;
        frames = refl;
        blocks = refl;
        header = λ j lt apart. other_word h.local (frame_start places n + 7 + w) (h1.registers t0) j (λ e. omega arith);
        words = λ j from lt apart. other_word h.local (frame_start places n + 7 + w) (h1.registers t0) j (apart w (eq-eqb w w refl));
      }
  set_does (OfFile w) here =
      let depth = here.enters.ready.depth in
      let stands = here.enters.at.stands in
      let waiting = here.enters.ready.in_range.waiting in
      let is = here.is in
      let flows : Flows core places.frames (λ word. false) i (suc i) = here.fits.goes_on true in
      let load : Instruction × Reached = operand_line t0 n d in
      let store : Instruction × Reached = (Sw local_register t0 (at_private w), LocalAt (7 + w)) in
      let place = here.fits.place in
      let h1 = after told load.0 load.1 h in
      let h2 = after told store.0 store.1 h1 in
      let new : Owner = owner_of (local_doing core image places setting i op (Set (OfFile w)) p) in
      let found = ap (put h.local (7 + w)) (sym (top_at (Set (OfFile w)) here is.0)) in
      code_does core image places bound i op (Set (OfFile w)) setting t p h (load ∷ store ∷ []) (KeepsMost (Set (OfFile w))) here.at here.enters here.block (omega arith) (omega arith)
      record { kind = refl; onward = refl }
      (reaches (Set (OfFile w)) t0 d here is.0 is.1, (own_place (h.registers local_register) w stands.local is.2, tt))
      (stands_after (Set (OfFile w)) h2 new here (itself h) refl refl refl
      (subst (λ m. InMemory places m (h.registers group_frame_register) new) found
      (own_written core places h.local (h.registers group_frame_register) p i (suc i) w (last vs) d here.few waiting here.enters.index here.fits.room (omega arith) here.fits.place flows
      (in_memory places p h stands))))
      record {
        node = refl;
        body = refl;
        frames = refl;
        blocks = refl;
        header = λ j lt apart. other_word h.local (7 + w) (h1.registers t0) j (λ e. omega arith);
        words = λ j from lt apart. other_word h.local (7 + w) (h1.registers t0) j (λ e. omega arith);
      }

  -- each of them
  pub block_does : (operation : Operation) → Here operation → IsDone operation
  block_does (Push number) here = push_does number here
  block_does (Get known) here = get_does known here
  block_does (Set variable) here = set_does variable here
  block_does DropLast here = drop_does here
  block_does CopyLast here = copy_does here
  block_does (Apply sign) here = apply_does sign here
  block_does (Binary sign turned) here = join_does sign turned here
  block_does (Index size) here = index_does size here
  block_does operation here = let is = here.is in absurd (assumption is)

pub expressions_keep : ExpressionsKeep
expressions_keep core image places bound i op levels operation at is block few fits setting t p h enters finds =
    block_does core image places bound i op levels setting t p h operation
    record { at = at; is = is; block = block; few = few; fits = fits; enters = enters; finds = finds }

pub expressions_do : ExpressionsDo
expressions_do core image places bound i op levels operation at is block few fits setting t p h enters finds =
    does_of core image places setting t p h _ _ _ (expressions_keep core image places bound i op levels operation at is block few fits setting t p h enters finds)
