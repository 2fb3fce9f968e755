-- How many cycles the blocks of a list take at most.
use Rattle.std.proofs.Common.{◌≡◌, ℕ, suc, ◌+◌, ◌*◌, ◌^◌, ◌<◌, ◌≤◌, List, [], ◌∷◌, length, map, length-append, Bool, true, false, Option, Some, None, sym, subst, arith, refl}
use Rattle.std.specs.Prelude.{◌==◌, slice_get, if◌then◌else◌}
use Rattle.std.specs.Option.{option_map_or}
use Rattle.std.proofs.lemmas.Bool.{eqb-true}
use Rattle.std.proofs.lemmas.List.{length-map}
use Rattle.fk_meaning_operation.specs.declared.operation.Operation.{Operation}
use Rattle.fk_meaning_operation.specs.declared.operation.Operation.TheVariants.{Push, Get, Set, DropLast, CopyLast, Apply, Binary, Index, Branch, Leave, Check, Enter, Begin, Frame, Split, Shrink, End}
use Rattle.fk_meaning_operation.specs.declared.operation.SplitKind.{SplitKind}
use Rattle.fk_meaning_operation.specs.declared.operation.SplitKind.TheVariants.{IfAlone, IfElse, AndThen, OrElse, Loop, Fork}
use Rattle.fk_core.specs.declared.op.CoreOp.{CoreOp}
use Rattle.fk_core.specs.Next.{is_jump}
use Rattle.fk_core.specs.Numbers.{operation_of}
use Rattle.fk_sim_block.specs.Stands.{Frames}
use Rattle.fk_sim_block.specs.Next.{OpAt}
use Rattle.fk_sim_block.specs.Ready.{is_alone}
use Rattle.fk_sim_block.specs.Suits.{Fits, Suits}
use Rattle.fk_sim_block.specs.Block.{most_before, most_behind}
use Rattle.fk_core_liveness.specs.declared.set.Set as sets
use Rattle.fk_gen.specs.declared.placed.Levels.{Levels}
use Rattle.fk_gen.specs.declared.placed.Placed.{Placed}
use Rattle.fk_gen.specs.Lines.{quiet, high_part, load_by, add_by, add_number}
use Rattle.fk_gen.specs.Keeps.{past_first}
use Rattle.fk_asm.specs.Block.{MarkedLine}
use Rattle.fk_gen_expr.specs.Expressions.{IsExpression, expression_block}
use Rattle.fk_gen_expr.proofs.Shape.{IsShortCode, block_short}
use Rattle.fk_gen_access.specs.Blocks.{is_access}
use Rattle.fk_gen_flow.specs.Blocks.{is_flow}
use Rattle.fk_gen_flow.specs.Calls.{most_privates}
use Rattle.fk_gen_flow.proofs.Enters.{few_take}
use Rattle.fk_gen_group.specs.Splits.{split_goes_on, end_part_takes, header_frames, found_line, frames_sum}
use Rattle.fk_gen_list.specs.Layout.{placed}
use Rattle.fk_gen_list.proofs.Clears.{few_clears}
use Rattle.fk_gen_list.proofs.Suited.{no_node_words, has_expression}
use Rattle.fk_gen_list.specs.Cycles.{before_of, behind_of, before_at, behind_at}

-- ---- before a commit

short_number : (short : Bool) (n steps : ℕ) → steps ≤ 5 → length (load_by short n) + steps ≤ most_before
short_number true n steps le = omega arith
short_number false n steps le = omega arith

short_sum : (short : Bool) (n register : ℕ) → length (add_by short n register) + 4 ≤ most_before
short_sum true n register = omega arith
short_sum false n register = omega arith

few_before_of : (op : CoreOp) (operation : Operation) → before_of op operation ≤ most_before
few_before_of op (Check true) = short_number (high_part op.site == 0) op.site 3 (omega arith)
few_before_of op (Check false) = short_number (high_part op.site == 0) op.site 5 (omega arith)
few_before_of op (Frame nesting words) = short_sum (high_part (4 * words) == 0) (4 * words) 12
few_before_of op (Split IfAlone) = omega arith
few_before_of op (Split IfElse) = omega arith
few_before_of op (Split AndThen) = omega arith
few_before_of op (Split OrElse) = omega arith
few_before_of op (Split Loop) = omega arith
few_before_of op (Split Fork) = omega arith
few_before_of op operation = omega arith

few_before_by : (op : CoreOp) (o : Option Operation) → option_map_or (before_of op) o 0 ≤ most_before
few_before_by op None = omega arith
few_before_by op (Some operation) = few_before_of op operation

pub few_before_at : (o : Option CoreOp) → before_at o ≤ most_before
few_before_at None = omega arith
few_before_at (Some op) = few_before_by op (operation_of op.kind op.number)

-- ---- behind it

past_short : (ls : List MarkedLine) → IsShortCode (length ls) → past_first ls ≤ most_behind
past_short [] short = omega arith
past_short (l ∷ ls) short = let few = short.few in omega arith

few_expression : (globals : ℕ) (levels other : Levels) (depth : ℕ) (operation : Operation) → IsExpression globals other depth operation → past_first (expression_block globals levels depth operation) ≤ most_behind
few_expression globals levels other depth operation is = past_short (expression_block globals levels depth operation) (block_short globals levels other depth operation is)

few_parts : (by : SplitKind) (levels : ℕ) (onward : Bool) → split_goes_on by levels onward ≤ most_behind
few_parts IfElse levels true = omega arith
few_parts IfElse levels false = omega arith
few_parts Fork levels true = by (levels == 0)
  where
    by : (first : Bool) → (if first then 16 else 15) ≤ most_behind
    by true = omega arith
    by false = omega arith
few_parts by levels true = omega arith
few_parts by levels false = omega arith

few_at_end : (fork : Option ℕ) (levels : ℕ) → end_part_takes fork levels ≤ most_behind
few_at_end None levels = omega arith
few_at_end (Some words) levels = by (levels == 1)
  where
    few_sum : (short : Bool) → length (add_by short (32 + 4 * words) 10) ≤ 3
    few_sum true = omega arith
    few_sum false = omega arith

    by : (first : Bool) → 6 + length (if first then header_frames else frames_sum words) ≤ most_behind
    by true = omega arith
    by false =
        let both = length-append (map quiet (add_number (32 + 4 * words) 10)) found_line in
        let same = length-map (add_number (32 + 4 * words) 10) quiet in
        let sum = few_sum (high_part (32 + 4 * words) == 0) in
        omega arith

module _ (core : List CoreOp) (frames : Frames) (i : ℕ) (here : Placed) (few : frames.of_file ≤ 56) (number : here.op.number < 2 ^ 32) (some : here.globals ≤ 2 ^ 20)
    (cleared : here.clears ≤ most_privates) where
  of_expression : (operation : Operation) → operation_of here.op.kind here.op.number ≡ Some operation → Fits core frames i here.op operation → is_alone operation ≡ true
      → is_flow operation ≡ false → is_access (Some operation) ≡ false → past_first (expression_block here.globals here.levels here.op.depth operation) ≤ most_behind
  of_expression operation read fits alone f a =
      let none : Levels = record { count = 0; behind = 0; nest = 0; fork = None } in
      few_expression here.globals here.levels none here.op.depth operation
      (has_expression core frames i here.globals none here.op operation read fits few number some (no_node_words operation) alone f a)

  few_behind_of : (operation : Operation) (onward : Bool) → operation_of here.op.kind here.op.number ≡ Some operation → Fits core frames i here.op operation
      → behind_of here operation onward ≤ most_behind
  few_behind_of (Push n) onward read fits = of_expression (Push n) read fits refl refl refl
  few_behind_of (Get known) onward read fits = of_expression (Get known) read fits refl refl refl
  few_behind_of (Set variable) onward read fits = of_expression (Set variable) read fits refl refl refl
  few_behind_of DropLast onward read fits = of_expression DropLast read fits refl refl refl
  few_behind_of CopyLast onward read fits = of_expression CopyLast read fits refl refl refl
  few_behind_of (Apply sign) onward read fits = of_expression (Apply sign) read fits refl refl refl
  few_behind_of (Binary sign turned) onward read fits = of_expression (Binary sign turned) read fits refl refl refl
  few_behind_of (Index size) onward read fits = of_expression (Index size) read fits refl refl refl
  few_behind_of (Branch turned) true read fits = omega arith
  few_behind_of (Branch turned) false read fits = omega arith
  few_behind_of (Leave true true) onward read fits = omega arith
  few_behind_of (Leave true false) onward read fits = omega arith
  few_behind_of (Leave false true) onward read fits = omega arith
  few_behind_of (Leave false false) onward read fits = omega arith
  few_behind_of (Enter n) onward read fits = few_take here.clears n cleared fits.goes_on.few
  few_behind_of Begin true read fits = omega arith
  few_behind_of Begin false read fits = omega arith
  few_behind_of End onward read fits = few_end (here.levels.count == 0)
    where
      few_end : (start : Bool) → (if start then 6 else end_part_takes here.levels.fork here.levels.count) ≤ most_behind
      few_end true = omega arith
      few_end false = few_at_end here.levels.fork here.levels.count
  few_behind_of (Split by) onward read fits = few_parts by here.levels.count onward
  few_behind_of Shrink true read fits = omega arith
  few_behind_of Shrink false read fits = omega arith
  few_behind_of operation onward read fits = omega arith

-- a jump is no operation
no_operation : (op : CoreOp) (operation : Operation) → is_jump op ≡ true → operation_of op.kind op.number ≡ Some operation → ⊥
no_operation op operation jump read = nothing (subst (λ k. operation_of k op.number ≡ Some operation) (eqb-true op.kind 0 jump) read)
  where
    nothing : operation_of 0 op.number ≡ Some operation → ⊥
    nothing e = cc

pub is_op_at : (core : List CoreOp) (i : ℕ) (op : CoreOp) (operation : Operation) → slice_get core i ≡ Some op → operation_of op.kind op.number ≡ Some operation → OpAt core i op operation
is_op_at core i op operation at read = record { stands = at; no_jump = by (is_jump op) refl; is_read = read }
  where
    by : (b : Bool) → is_jump op ≡ b → b ≡ false
    by true e = absurd (no_operation op operation e read)
    by false e = refl

module _ (core : List CoreOp) (frames : Frames) (main : ℕ) (suits : Suits core frames main) (globals : ℕ) (some : globals ≤ 2 ^ 20) (kept : List sets.Set) (saved : List Levels)
    (words : (i : ℕ) (op : CoreOp) → slice_get core i ≡ Some op → op.number < 2 ^ 32) where
  by_operation : (i : ℕ) (op : CoreOp) (here : Placed) (onward : Bool) (o : Option Operation) → here.op ≡ op → here.globals ≡ globals → here.clears ≤ most_privates → slice_get core i ≡ Some op → operation_of op.kind op.number ≡ o
      → option_map_or (λ operation. behind_of here operation onward) o 0 ≤ most_behind
  by_operation i op here onward None same many cleared at read = omega arith
  by_operation i op here onward (Some operation) same many cleared at read =
      few_behind_of core frames i here suits.few (subst (λ x. x.number < 2 ^ 32) (sym same) (words i op at)) (subst (λ n. n ≤ 2 ^ 20) (sym many) some) cleared operation onward
      (subst (λ (x : CoreOp). operation_of x.kind x.number ≡ Some operation) (sym same) read)
      (subst (λ x. Fits core frames i x operation) (sym same) (suits.fits i op operation (is_op_at core i op operation at read)))

  pub few_behind_at : (i : ℕ) (onward : Bool) (o : Option CoreOp) → slice_get core i ≡ o → behind_at core globals kept saved i o onward ≤ most_behind
  few_behind_at i onward None at = omega arith
  few_behind_at i onward (Some op) at = by_operation i op (placed core globals kept saved i op) onward (operation_of op.kind op.number) refl refl
      (few_clears (operation_of op.kind op.number) (slice_get kept (suc i))) at refl
