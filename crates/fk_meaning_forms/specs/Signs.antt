-- The operations of signs on two values.
use Rattle.std.specs.Prelude.{Bool, true, false, if◌then◌else◌}
use Rattle.fk_num.specs.declared.operator.Op.{Op}
use Rattle.fk_num.specs.declared.operator.Op.TheVariants as f
use Rattle.fk_meaning_operation.specs.declared.operation.Operation.{Operation}
use Rattle.fk_meaning_operation.specs.declared.operation.Operation.TheVariants.{Binary}
use Rattle.fk_syntax.specs.declared.sign.Sign.{Sign}
use Rattle.fk_syntax.specs.declared.sign.Sign.TheVariants as g
use Rattle.fk_meaning_forms.specs.declared.signs.Move.{Move}
use Rattle.fk_meaning_forms.specs.declared.signs.Move.TheVariants.{Forth, Back, NoMove}

-- the operator of a sign, on the values in their order or swapped
abbrev pub either : (unsigned : Bool) → (signed other : Op) → Operation
either unsigned signed other = Binary (if unsigned then other else signed) false

abbrev pub operator_of : Sign → (unsigned : Bool) → Operation
operator_of g.Minus u = Binary f.Sub false
operator_of g.MinusAssign u = Binary f.Sub false
operator_of g.Decrement u = Binary f.Sub false
operator_of g.Star u = Binary f.Mul false
operator_of g.StarAssign u = Binary f.Mul false
operator_of g.Slash u = either u f.DivS f.DivU
operator_of g.SlashAssign u = either u f.DivS f.DivU
operator_of g.Percent u = either u f.RemS f.RemU
operator_of g.PercentAssign u = either u f.RemS f.RemU
operator_of g.Ampersand u = Binary f.And false
operator_of g.AmpersandAssign u = Binary f.And false
operator_of g.Bar u = Binary f.Or false
operator_of g.BarAssign u = Binary f.Or false
operator_of g.Caret u = Binary f.Xor false
operator_of g.CaretAssign u = Binary f.Xor false
operator_of g.ShiftLeft u = Binary f.Shl false
operator_of g.ShiftLeftAssign u = Binary f.Shl false
operator_of g.ShiftRight u = either u f.ShrS f.ShrU
operator_of g.ShiftRightAssign u = either u f.ShrS f.ShrU
operator_of g.LessThan u = either u f.LtS f.LtU
operator_of g.LessOrEqual u = either u f.LeS f.LeU
operator_of g.GreaterThan u = Binary (if u then f.LtU else f.LtS) true
operator_of g.GreaterOrEqual u = Binary (if u then f.LeU else f.LeS) true
operator_of g.EqualTo u = Binary f.Eq false
operator_of g.NotEqualTo u = Binary f.Ne false
operator_of sign u = Binary f.Add false

-- a shift is unsigned if the shifted value is. Every other operator is unsigned if one side is
abbrev pub is_shift : Sign → Bool
is_shift g.ShiftLeft = true
is_shift g.ShiftLeftAssign = true
is_shift g.ShiftRight = true
is_shift g.ShiftRightAssign = true
is_shift sign = false

-- the effect of a sign on a pointer on its left
abbrev pub move_of : Sign → Move
move_of g.Plus = Forth
move_of g.PlusAssign = Forth
move_of g.Increment = Forth
move_of g.Minus = Back
move_of g.MinusAssign = Back
move_of g.Decrement = Back
move_of sign = NoMove
