-- Where the last value of a processor stands.
use Rattle.std.proofs.Common.{◌≡◌, ℕ, ◌-◌, ◌/◌, ◌<◌, List, length, sym, ap, ◌∙◌, arith, refl}
use Rattle.fk_num.specs.Word.{word_sum}
use Rattle.fk_meaning_operation.specs.declared.operation.Operation.{Operation}
use Rattle.fk_meaning.specs.Processor.{Setting, values, last}
use Rattle.fk_core.specs.declared.op.CoreOp.{CoreOp}
use Rattle.fk_image.specs.declared.Image.{Image}
use Rattle.fk_machine.specs.Hart.{Hart, Setting as MachineSetting}
use Rattle.fk_sim_block.specs.Owner.{Owner}
use Rattle.fk_sim_block.specs.Stands.{Places, local_address, end_register, value_in}
use Rattle.fk_sim_block.specs.Block.{Enters}
use Rattle.fk_gen.specs.Lines.{at_value}
use Rattle.fk_gen.proofs.Values.{value_place}
use Rattle.fk_sim_block.specs.Node.{Nestings}
use Rattle.fk_gen_group.specs.Laws.{IsInPlace}
use Rattle.fk_gen.proofs.ValueLines.{place_word, operand_is}

-- the word of the local memory at an address
abbrev pub local_index : (address : ℕ) → ℕ
local_index a = (a - 0x20000000) / 4

-- the last of so many values, as the lines find it
abbrev pub value_word : (depth : ℕ) → Hart → ℕ
value_word depth h = local_index (word_sum (h.registers end_register) (at_value depth))

module _ (core : List CoreOp) (image : Image) (bound : ℕ → ℕ) (places : Places) (nestings : Nestings) (i : ℕ) (op : CoreOp) (operation : Operation)
    (place : IsInPlace core image bound places nestings i op operation) (setting : Setting) (t : MachineSetting) (p : Owner) where
  pub record IsValue (h : Hart) : Type 0 where
    pub within : value_word op.depth h < 32768
    pub address : word_sum (h.registers end_register) (at_value op.depth) ≡ local_address (value_word op.depth h)
    pub index : value_word op.depth h ≡ place_word (length p.runner.has.callers) op.depth

  pub is_value : (first h : Hart) → 0 < op.depth → Enters core image places setting t i op operation p first → h.registers end_register ≡ first.registers end_register → IsValue h
  is_value first h some en same =
      let header = place.fits.room.header in
      let calls = en.ready.in_range.waiting in
      let n = length p.runner.has.callers in
      let at = value_place (h.registers end_register) n op.depth (same ∙ en.at.stands.behind) calls (omega arith) (omega arith) in
      let lt = at.0 in
      let address = at.1 in
      let index : value_word op.depth h ≡ place_word n op.depth = omega arith in
      record { within = omega arith; address = address ∙ ap local_address (sym index); index = index }

  pub is_last : (h : Hart) → 0 < op.depth → Enters core image places setting t i op operation p h → h.local (value_word op.depth h) ≡ last (values p.runner.has)
  is_last h some en =
      let v = is_value h h some en refl in
      let n = length p.runner.has.callers in
      ap h.local v.index ∙ operand_is (value_in h n) op.depth (values p.runner.has) en.at.stands.running.values en.ready.depth some
