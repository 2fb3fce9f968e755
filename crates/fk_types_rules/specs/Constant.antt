-- The initial values that are allowed outside functions.
use Rattle.std.specs.Prelude.{Bool, true, false, ◌||◌, is_some}
use Rattle.fk_check_rules.specs.declared.rule.Rule.TheVariants as rules
use Rattle.fk_check_rules.specs.Least.{Breaks}
use Rattle.fk_types_judgments.specs.Term.{Term, Number, Puts, Sizeof, Use, GroupNumber, GroupRank}
use Rattle.fk_types_judgments.specs.Term.{Prefix, Dereference, Address, Count, Cast, Binary, Comma}
use Rattle.fk_types_judgments.specs.Term.{Index, Call, Member, Through, Assign, Choose, first_place}
use Rattle.fk_types_judgments.specs.Names.{Env}
use Rattle.fk_types_judgments.specs.Typing.{value_in, type_of}
use Rattle.fk_types_judgments.specs.Broken.{where_so}

-- an expression holds more than numbers, `sizeof`, casts, signs that take values, `?` with its `:`
-- and the comma. A name without a value breaks another rule, and is no more
abbrev pub is_more : Env → Term → Bool
is_more env (Number spot value unsigned) = false
is_more env (Puts spot) = true
is_more env (Sizeof spot type) = false
is_more env (Use name) = is_some (value_in (type_of env (Use name)))
is_more env (GroupNumber spot) = true
is_more env (GroupRank spot) = true
is_more env (Prefix spot sign operand) = is_more env operand
is_more env (Dereference spot pointer) = true
is_more env (Address spot place) = true
is_more env (Count spot is_before place) = true
is_more env (Cast spot type operand) = is_more env operand
is_more env (Binary spot sign left right) = is_more env left || is_more env right
is_more env (Comma spot left right) = is_more env left || is_more env right
is_more env (Index spot whole by) = true
is_more env (Call spot callee arguments) = true
is_more env (Member spot whole member) = true
is_more env (Through spot pointer member) = true
is_more env (Assign spot sign place value) = true
is_more env (Choose spot condition first second) =
    is_more env condition || is_more env first || is_more env second

-- an initial value outside functions has more
abbrev pub ConstantBreaks : Env → Term → Breaks
ConstantBreaks env term = where_so rules.NotConstant (first_place term) (is_more env term)
