-- The values that an operation looks at, where its block looks for them.
use Rattle.std.proofs.Common.{◌≡◌, ℕ, ◌-◌, ◌<◌, ◌≤◌, List, length, ap, ◌∙◌, arith}
use Rattle.fk_num.specs.Word.{word_sum}
use Rattle.fk_meaning_operation.specs.declared.operation.Operation.{Operation}
use Rattle.fk_meaning.specs.Processor.{Setting, values, last, before}
use Rattle.fk_core.specs.declared.op.CoreOp.{CoreOp}
use Rattle.fk_image.specs.declared.Image.{Image}
use Rattle.fk_machine.specs.Hart.{Hart, Setting as MachineSetting}
use Rattle.fk_sim_block.specs.Owner.{Owner}
use Rattle.fk_sim_block.specs.Stands.{Places, end_register, value_in}
use Rattle.fk_sim_block.specs.Suits.{Fits}
use Rattle.fk_sim_block.specs.Block.{Enters}
use Rattle.fk_gen.specs.Lines.{at_value}
use Rattle.fk_gen_access.proofs.Walk.{IsLocalAddress, local_index}
use Rattle.fk_gen.proofs.Values.{value_at}
use Rattle.fk_gen.proofs.ValueLines.{place_word}
use Rattle.fk_gen_access.proofs.Found.{value_index, value_place}

-- the k-th value, v, stands where its block looks for it
pub record IsFound (p : Owner) (h : Hart) (k v : ℕ) : Type 0 where
  pub place : IsLocalAddress (word_sum (h.registers end_register) (at_value k))
  pub index : local_index (word_sum (h.registers end_register) (at_value k)) ≡ place_word (length p.runner.has.callers) k
  pub value : h.local (local_index (word_sum (h.registers end_register) (at_value k))) ≡ v
  pub some : 0 < k
  pub few : k ≤ 56
  pub calls : length p.runner.has.callers < 256

module _ (core : List CoreOp) (image : Image) (places : Places) (i : ℕ) (op : CoreOp) (operation : Operation) (setting : Setting) (t : MachineSetting) (p : Owner) (h : Hart) where
  operand : (j k : ℕ) → j < op.depth → k ≡ op.depth - j → Enters core image places setting t i op operation p h → Fits core places.frames i op operation
      → IsFound p h k (last (before j (values p.runner.has)))
  operand j k lt e en fits =
      let most = fits.few in
      let few : k ≤ 56 = omega arith in
      let some : 0 < k = omega arith in
      let calls = en.ready.in_range.waiting in
      let n = length p.runner.has.callers in
      let stands = en.at.stands in
      let depth = en.ready.depth in
      let index = value_index n k (h.registers end_register) calls some few stands.behind in
      let same : place_word n k ≡ place_word n (length (values p.runner.has) - j) = omega arith in
      record {
        place = value_place n k (h.registers end_register) calls some few stands.behind;
        index = index;
        value = ap h.local (index ∙ same) ∙ value_at j (value_in h n) (values p.runner.has) (omega arith) stands.running.values;
        some = some;
        few = few;
        calls = calls;
      }

  pub last_found : Enters core image places setting t i op operation p h → Fits core places.frames i op operation → 0 < op.depth
      → IsFound p h op.depth (last (values p.runner.has))
  last_found en fits some = operand 0 op.depth some (omega arith) en fits

  pub earlier_found : Enters core image places setting t i op operation p h → Fits core places.frames i op operation → 1 < op.depth
      → IsFound p h (op.depth - 1) (last (before 1 (values p.runner.has)))
  earlier_found en fits some = operand 1 (op.depth - 1) some (omega arith) en fits
