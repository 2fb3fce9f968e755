-- Calls of a list return into their own blocks, where a jump leads to the index at which their callers go on.
use Rattle.std.proofs.Common.{◌≡◌, ℕ, suc, ◌+◌, ◌-◌, List, length, Bool, true, false, Option, Some, None, sym, ap, subst, ◌∙◌, arith, refl, length-append}
use Rattle.std.specs.Prelude.{slice_get, if◌then◌else◌}
use Rattle.fk_meaning_operation.specs.declared.operation.Operation.{Operation}
use Rattle.fk_meaning_operation.specs.declared.operation.Operation.TheVariants.{Enter}
use Rattle.fk_core.specs.declared.op.CoreOp.{CoreOp}
use Rattle.fk_core.specs.Next.{is_jump, behind_jump}
use Rattle.fk_core.specs.Numbers.{operation_of}
use Rattle.fk_image.specs.declared.Image.{Image}
use Rattle.fk_sim_block.specs.Stands.{Places, ReturnPoint}
use Rattle.fk_sim_block.specs.Next.{OpAt}
use Rattle.fk_core_liveness.specs.declared.set.Set.{Set}
use Rattle.fk_gen.specs.declared.placed.Levels.{Levels}
use Rattle.fk_gen.specs.declared.placed.Placed.{Placed}
use Rattle.fk_gen.specs.InPlace.{HasBlock, LinesAt}
use Rattle.fk_gen.proofs.Walk.{lines_split}
use Rattle.fk_gen_flow.specs.Flow.{jump_block}
use Rattle.fk_gen_flow.specs.Calls.{word_lines, frame_lines, enter_block, past_return}
use Rattle.fk_gen_flow.specs.Laws.{CallsReturn, return_in}
use Rattle.fk_gen_flow.proofs.Law.{block_of_operation}
use Rattle.fk_gen_list.specs.Generable.{return_by, return_at}
use Rattle.fk_gen_list.specs.Kinds.{block_in, block_of}
use Rattle.fk_gen_list.specs.Layout.{back_by, placed}
use Rattle.fk_gen_list.proofs.Suited.{kind_here}

module _ (core : List CoreOp) (image : Image) (bound : ℕ → ℕ) (places : Places) (kept : List Set) (saved : List Levels)
    (blocks : (i : ℕ) (op : CoreOp) → slice_get core i ≡ Some op → HasBlock image bound places i (block_of (placed core (length image.globals.items) kept saved i op)))
    (returns : (i : ℕ) → places.returns i ≡ return_at core places.block i (slice_get core i)) where
  abbrev here : (i : ℕ) → CoreOp → Placed
  here i op = placed core (length image.globals.items) kept saved i op

  -- the block of a call
  entered : (i : ℕ) (op : CoreOp) (n : ℕ) → OpAt core i op (Enter n) → HasBlock image bound places i (enter_block (here i op).clears n op.depth op.site (behind_jump core (suc i)))
  entered i op n stands =
      subst (λ back. HasBlock image bound places i (enter_block (here i op).clears n op.depth op.site back)) (ap (λ o. back_by o core i) stands.is_read)
      (subst (HasBlock image bound places i) (block_of_operation core i op (Enter n) (here i op).clears (here i op).back stands)
      (subst (λ k. HasBlock image bound places i (block_in k (here i op))) (kind_here core i op (Enter n) stands) (blocks i op stands.stands)))

  jump_back : (i : ℕ) (op : CoreOp) (n : ℕ) → OpAt core i op (Enter n) → LinesAt image bound (places.block (suc i) - past_return) (jump_block (behind_jump core (suc i)))
  jump_back i op n stands =
      let back = behind_jump core (suc i) in
      let block = entered i op n stands in
      let words = word_lines (here i op).clears n in
      let k = places.block i in
      let k7 = suc (suc (suc (suc (suc (suc (suc k)))))) in
      let lines = (lines_split image bound k7 words (frame_lines back) block.lines.1.1.1.1.1.1.1).1 in
      let next = block.next in
      let total = length-append words (frame_lines back) in
      let same : suc (k7 + length words) ≡ places.block (suc i) - past_return = omega arith in
      subst (λ w. LinesAt image bound w (jump_block back)) same (lines.1.0, tt)

  points : (i : ℕ) (op : CoreOp) (n : ℕ) → OpAt core i op (Enter n) → places.returns i ≡ Some (return_in core places.block i)
  points i op n stands =
      returns i ∙ ap (return_at core places.block i) stands.stands
      ∙ ap (λ b. if b then None else return_by core places.block i (operation_of op.kind op.number)) stands.no_jump
      ∙ ap (return_by core places.block i) stands.is_read

  at_operation : (i : ℕ) (point : ReturnPoint) (op : CoreOp) (o : Option Operation) → slice_get core i ≡ Some op → is_jump op ≡ false → operation_of op.kind op.number ≡ o
      → return_by core places.block i o ≡ Some point → LinesAt image bound point.word (jump_block point.index)
  at_operation i point op (Some (Enter n)) at no_jump read e =
      let same : return_in core places.block i ≡ point = cc in
      subst (λ p. LinesAt image bound p.word (jump_block p.index)) same (jump_back i op n (record { stands = at; no_jump = no_jump; is_read = read }))
  at_operation i point op o at no_jump read e = absurd (cc)

  at_op : (i : ℕ) (point : ReturnPoint) (op : CoreOp) (jump : Bool) → slice_get core i ≡ Some op → is_jump op ≡ jump
      → (if jump then None else return_by core places.block i (operation_of op.kind op.number)) ≡ Some point → LinesAt image bound point.word (jump_block point.index)
  at_op i point op true at is e = absurd (cc)
  at_op i point op false at is e = at_operation i point op (operation_of op.kind op.number) at is refl e

  at_index : (i : ℕ) (point : ReturnPoint) (o : Option CoreOp) → slice_get core i ≡ o → return_at core places.block i o ≡ Some point → LinesAt image bound point.word (jump_block point.index)
  at_index i point None at e = absurd (cc)
  at_index i point (Some op) at e = at_op i point op (is_jump op) at refl e

  pub calls_return : CallsReturn core image bound places
  calls_return = record {
    points = points;
    jumps = λ i point e. at_index i point (slice_get core i) refl (sym (returns i) ∙ e);
  }
