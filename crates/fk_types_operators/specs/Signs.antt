-- The table of signs: the operands of each sign, and the type of its result.
use Rattle.std.specs.Prelude.{Bool, true, false, ◌&&◌, ◌||◌, nat_eq, Option, Some, None}
use Rattle.std.specs.Prelude.{if◌then◌else◌}
use Rattle.fk_syntax.specs.declared.sign.Sign.{Sign}
use Rattle.fk_syntax.specs.declared.sign.Sign.TheVariants as s
use Rattle.fk_types_structs.specs.declared.types.Root.{Root}
use Rattle.fk_types_structs.specs.declared.types.Root.TheVariants as r
use Rattle.fk_types_operators.specs.declared.values.Target.{Target}
use Rattle.fk_types_operators.specs.declared.values.Value.{Value}
use Rattle.fk_types_operators.specs.declared.values.Value.TheVariants.{Int, Unsigned, Pointer}
use Rattle.fk_types_operators.specs.declared.values.Operand.{Operand}

abbrev pub is_same_root : Root → Root → Bool
is_same_root r.Int r.Int = true
is_same_root r.Unsigned r.Unsigned = true
is_same_root r.Void r.Void = true
is_same_root (r.Struct i) (r.Struct j) = nat_eq i j
is_same_root _ _ = false

abbrev pub is_void_root : Root → Bool
is_void_root r.Int = false
is_void_root r.Unsigned = false
is_void_root r.Void = true
is_void_root (r.Struct index) = false

-- whether a pointer to this target is `void *`
abbrev pub is_void : Target → Bool
is_void t = is_void_root t.root && nat_eq t.stars 0

abbrev pub is_same_target : Target → Target → Bool
is_same_target a b = is_same_root a.root b.root && nat_eq a.stars b.stars

-- whether pointers to these targets convert to each other
abbrev pub do_convert : Target → Target → Bool
do_convert a b = is_same_target a b || is_void a || is_void b

abbrev pub is_integer : Value → Bool
is_integer Int = true
is_integer Unsigned = true
is_integer (Pointer t) = false

-- an integer converts to a pointer if it is the number 0
abbrev pub fits : Bool → Value → Value → Bool
fits is_zero (Pointer a) (Pointer b) = do_convert a b
fits is_zero (Pointer a) _ = false
fits is_zero _ (Pointer b) = is_zero
fits is_zero _ _ = true

-- whether a value converts to a type
abbrev pub converts : Operand → Value → Bool
converts from to = fits from.is_zero from.value to

-- two integers give `unsigned` if one of them is unsigned
abbrev pub joined : Value → Value → Option Value
joined Int Int = Some Int
joined Int Unsigned = Some Unsigned
joined Unsigned Int = Some Unsigned
joined Unsigned Unsigned = Some Unsigned
joined _ _ = None

-- the type of a pointer after it is moved; `void *` can't be moved
abbrev pub moved : Target → Option Value
moved t = if is_void t then None else Some (Pointer t)

-- `+` and `-`
abbrev pub summed : Value → Value → Option Value
summed (Pointer t) Int = moved t
summed (Pointer t) Unsigned = moved t
summed a b = joined a b

-- `<<` and `>>`
abbrev pub shifted : Value → Value → Option Value
shifted Int Int = Some Int
shifted Int Unsigned = Some Int
shifted Unsigned Int = Some Unsigned
shifted Unsigned Unsigned = Some Unsigned
shifted _ _ = None

-- `int` if a test holds
abbrev pub int_if : Bool → Option Value
int_if holds = if holds then Some Int else None

-- whether two values can be ordered; an integer and a pointer can't
abbrev pub are_ordered : Value → Value → Bool
are_ordered (Pointer a) (Pointer b) = do_convert a b
are_ordered (Pointer a) _ = false
are_ordered _ (Pointer b) = false
are_ordered _ _ = true

-- whether two values can be compared for equality; a pointer and the number 0 can
abbrev pub are_comparable : Bool → Bool → Value → Value → Bool
are_comparable left_zero right_zero (Pointer a) (Pointer b) = do_convert a b
are_comparable left_zero right_zero (Pointer a) _ = right_zero
are_comparable left_zero right_zero _ (Pointer b) = left_zero
are_comparable left_zero right_zero _ _ = true

-- the type of a sign between two operands; signs that don't occur there have none
abbrev pub binary : Sign → Operand → Operand → Option Value
binary s.Star a b = joined a.value b.value
binary s.Slash a b = joined a.value b.value
binary s.Percent a b = joined a.value b.value
binary s.Ampersand a b = joined a.value b.value
binary s.Bar a b = joined a.value b.value
binary s.Caret a b = joined a.value b.value
binary s.Plus a b = summed a.value b.value
binary s.Minus a b = summed a.value b.value
binary s.ShiftLeft a b = shifted a.value b.value
binary s.ShiftRight a b = shifted a.value b.value
binary s.LessThan a b = int_if (are_ordered a.value b.value)
binary s.LessOrEqual a b = int_if (are_ordered a.value b.value)
binary s.GreaterThan a b = int_if (are_ordered a.value b.value)
binary s.GreaterOrEqual a b = int_if (are_ordered a.value b.value)
binary s.EqualTo a b = int_if (are_comparable a.is_zero b.is_zero a.value b.value)
binary s.NotEqualTo a b = int_if (are_comparable a.is_zero b.is_zero a.value b.value)
binary s.AndAnd a b = Some Int
binary s.OrOr a b = Some Int
binary _ a b = None

-- the type of a sign before an operand, except for signs that need the operand's location
abbrev pub prefixed : Sign → Value → Option Value
prefixed s.Plus Int = Some Int
prefixed s.Plus Unsigned = Some Unsigned
prefixed s.Minus Int = Some Int
prefixed s.Minus Unsigned = Some Unsigned
prefixed s.Tilde Int = Some Int
prefixed s.Tilde Unsigned = Some Unsigned
prefixed s.Exclamation value = Some Int
prefixed _ value = None

-- `++` and `--`
abbrev pub counted : Value → Option Value
counted Int = Some Int
counted Unsigned = Some Unsigned
counted (Pointer t) = moved t

-- the common type of two pointers, which is `void *` if one of them is
abbrev pub met : Target → Target → Option Value
met a b = if is_void a then Some (Pointer a) else (if is_void b then Some (Pointer b)
    else (if is_same_target a b then Some (Pointer a) else None))

-- a pointer if a test holds
abbrev pub pointer_if : Bool → Target → Option Value
pointer_if holds t = if holds then Some (Pointer t) else None

-- the type of a `?:`, each of whose two operands may be the number 0
abbrev pub chosen_of : Bool → Bool → Value → Value → Option Value
chosen_of left_zero right_zero (Pointer a) (Pointer b) = met a b
chosen_of left_zero right_zero (Pointer a) _ = pointer_if right_zero a
chosen_of left_zero right_zero _ (Pointer b) = pointer_if left_zero b
chosen_of left_zero right_zero a b = joined a b

-- the type of a `?:`
abbrev pub chosen : Operand → Operand → Option Value
chosen a b = chosen_of a.is_zero b.is_zero a.value b.value

-- the operator of a compound assignment such as `+=`. `=` and all other signs have none
abbrev pub sign_within : Sign → Option Sign
sign_within s.PlusAssign = Some s.Plus
sign_within s.MinusAssign = Some s.Minus
sign_within s.StarAssign = Some s.Star
sign_within s.SlashAssign = Some s.Slash
sign_within s.PercentAssign = Some s.Percent
sign_within s.AmpersandAssign = Some s.Ampersand
sign_within s.BarAssign = Some s.Bar
sign_within s.CaretAssign = Some s.Caret
sign_within s.ShiftLeftAssign = Some s.ShiftLeft
sign_within s.ShiftRightAssign = Some s.ShiftRight
sign_within _ = None
