-- The code of signs and operators: the operands in t0 and t1, the result in t0.
use Rattle.std.specs.Prelude.{List, [], ◌∷◌}
use Rattle.fk_num.specs.declared.operator.Op.{Op}
use Rattle.fk_num.specs.declared.operator.Op.TheVariants as op
use Rattle.fk_meaning_operation.specs.declared.operation.Unary.{Unary}
use Rattle.fk_meaning_operation.specs.declared.operation.Unary.TheVariants.{Negate, Complement, Not}
use Rattle.fk_isa.specs.declared.instruction.Instruction.{Instruction}
use Rattle.fk_isa.specs.declared.instruction.Instruction.TheVariants.{Xori, Sltiu, Add, Sub, Sll}
use Rattle.fk_isa.specs.declared.instruction.Instruction.TheVariants.{Slt, Sltu, Xor, Srl, Sra, Or}
use Rattle.fk_isa.specs.declared.instruction.Instruction.TheVariants.{And, Mul, Mulh, Mulhsu, Mulhu}
use Rattle.fk_isa.specs.declared.instruction.Instruction.TheVariants.{Div, Divu, Rem, Remu}
use Rattle.fk_sim_block.specs.Stands.{zero_register}
use Rattle.fk_gen.specs.Registers.{t0, t1, t2}

-- The instruction of a sign, on the word in t0.
abbrev pub sign_instruction : Unary → Instruction
sign_instruction Negate = Sub t0 zero_register t0
sign_instruction Complement = Xori t0 t0 0xffffffff
sign_instruction Not = Sltiu t0 t0 1

-- The first instruction of an operator, and the only one of most operators. For an order that isn't
-- strict it is a strict one with swapped operands, for a comparison for equality a difference, and
-- for a least or greatest word a test, in t2.
abbrev pub first_instruction : Op → Instruction
first_instruction op.Add = Add t0 t0 t1
first_instruction op.Sub = Sub t0 t0 t1
first_instruction op.Mul = Mul t0 t0 t1
first_instruction op.MulHS = Mulh t0 t0 t1
first_instruction op.MulHSU = Mulhsu t0 t0 t1
first_instruction op.MulHU = Mulhu t0 t0 t1
first_instruction op.DivS = Div t0 t0 t1
first_instruction op.DivU = Divu t0 t0 t1
first_instruction op.RemS = Rem t0 t0 t1
first_instruction op.RemU = Remu t0 t0 t1
first_instruction op.And = And t0 t0 t1
first_instruction op.Or = Or t0 t0 t1
first_instruction op.Xor = Xor t0 t0 t1
first_instruction op.Shl = Sll t0 t0 t1
first_instruction op.ShrS = Sra t0 t0 t1
first_instruction op.ShrU = Srl t0 t0 t1
first_instruction op.LtS = Slt t0 t0 t1
first_instruction op.LtU = Sltu t0 t0 t1
first_instruction op.LeS = Slt t0 t1 t0
first_instruction op.LeU = Sltu t0 t1 t0
first_instruction op.Eq = Sub t0 t0 t1
first_instruction op.Ne = Sub t0 t0 t1
first_instruction op.MinS = Slt t2 t1 t0
first_instruction op.MaxS = Slt t2 t1 t0
first_instruction op.MinU = Sltu t2 t1 t0
first_instruction op.MaxU = Sltu t2 t1 t0

-- Makes a mask of ones or zeros of a test in t2, which is 1 or 0.
abbrev pub mask : Instruction
mask = Sub t2 zero_register t2

-- `keep_first` keeps t0 where the mask is ones, and else puts t1 in its place. `take_second` does
-- the opposite.
abbrev pub keep_first : List Instruction
keep_first = mask ∷ Sub t0 t0 t1 ∷ And t0 t0 t2 ∷ Add t0 t0 t1 ∷ []

abbrev pub take_second : List Instruction
take_second = mask ∷ Sub t1 t1 t0 ∷ And t1 t1 t2 ∷ Add t0 t1 t0 ∷ []

abbrev pub other_instructions : Op → List Instruction
other_instructions op.LeS = Xori t0 t0 1 ∷ []
other_instructions op.LeU = Xori t0 t0 1 ∷ []
other_instructions op.Eq = Sltiu t0 t0 1 ∷ []
other_instructions op.Ne = Sltu t0 zero_register t0 ∷ []
other_instructions op.MinS = take_second
other_instructions op.MaxS = keep_first
other_instructions op.MinU = take_second
other_instructions op.MaxU = keep_first
other_instructions o = []

abbrev pub operator_code : Op → List Instruction
operator_code o = first_instruction o ∷ other_instructions o
