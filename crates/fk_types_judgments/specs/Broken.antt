-- The rules that expressions break: those that one of their parts breaks by its use, and those that
-- they break themselves by the types of their parts.
use Rattle.std.specs.Prelude.{ℕ, Bool, true, false, not, ◌&&◌, List, length, nat_eq, Option, Some}
use Rattle.std.specs.Prelude.{None, is_some, is_none, slice_get, IsTrue}
use Rattle.std.specs.Option.{option_and_then}
use Rattle.fk_syntax.specs.declared.place.Place.{Place}
use Rattle.fk_syntax.specs.declared.place.Spot.{Spot}
use Rattle.fk_syntax.specs.declared.sign.Sign.{Sign}
use Rattle.fk_syntax.specs.declared.sign.Sign.TheVariants as s
use Rattle.fk_syntax.specs.Tree.{Named, TypeTree}
use Rattle.fk_check_rules.specs.declared.rule.Rule.{Rule}
use Rattle.fk_check_rules.specs.declared.rule.Rule.TheVariants as rules
use Rattle.fk_check_rules.specs.Least.{Breaks, only, either}
use Rattle.fk_types_struct_rules.specs.Declarations.{NamesNoStruct, SizeofBreaks, At}
use Rattle.fk_types_operators.specs.declared.values.Value.{Value}
use Rattle.fk_types_operators.specs.declared.values.Operand.{Operand}
use Rattle.fk_types_operators.specs.declared.values.ExpressionType.{ExpressionType}
use Rattle.fk_types_operators.specs.Values.{value_of, is_array}
use Rattle.fk_types_operators.specs.Signs.{is_integer, binary, prefixed, counted, chosen}
use Rattle.fk_types_judgments.specs.Term.{Term, Terms, Number, Puts, Sizeof, Use, GroupNumber}
use Rattle.fk_types_judgments.specs.Term.{GroupRank, Prefix, Dereference, Address, Count, Cast}
use Rattle.fk_types_judgments.specs.Term.{Binary, Comma, Index, Call, Member, Through, Assign}
use Rattle.fk_types_judgments.specs.Term.{Choose, no_terms, also, count_of, first_place}
use Rattle.fk_types_judgments.specs.Names.{Parameter, Meant, Kept, Constant, Called, Main}
use Rattle.fk_types_judgments.specs.Names.{Undeclared, Env}
use Rattle.fk_types_judgments.specs.Typing.{value_in, operand_in, is_zero, left_of, is_no_target}
use Rattle.fk_types_judgments.specs.Typing.{is_no_value_type, pointed, struct_of, struct_at}
use Rattle.fk_types_judgments.specs.Typing.{member_place, does_assign, called_as, parameters_of}
use Rattle.fk_types_judgments.specs.Typing.{does_take, type_of}

-- a rule is broken at a place if a test holds
abbrev pub where_so : Rule → Place → Bool → Breaks
where_so rule place holds = only rule (At place (IsTrue holds))

abbrev pub nothing : Breaks
nothing place rule = ⊥

-- there is a value, and a test holds for it
abbrev pub is_such : {X : Type 0} → (X → Bool) → Option X → Bool
is_such test None = false
is_such test (Some x) = test x

-- the expression is a struct or has no value, and is used as a value
abbrev pub is_no_value : ExpressionType → Bool
is_no_value type = is_none (value_of type)

abbrev pub ValueBreaks : Env → Term → Breaks
ValueBreaks env term =
    where_so rules.NoValue (first_place term) (is_such is_no_value (type_of env term))

-- the expression is a condition, but is neither a number nor a pointer
abbrev pub ConditionBreaks : Env → Term → Breaks
ConditionBreaks env term =
    where_so rules.NoCondition (first_place term) (is_such is_no_value (type_of env term))

-- the expression is a struct, and is a statement or is before or after a comma
abbrev pub is_struct : ExpressionType → Bool
is_struct type = is_none (left_of type)

abbrev pub StatementBreaks : Env → Term → Breaks
StatementBreaks env term =
    where_so rules.NoValue (first_place term) (is_such is_struct (type_of env term))

-- a name isn't declared, or denotes a function that isn't called
abbrev pub is_undeclared : Meant → Bool
is_undeclared (Kept type) = false
is_undeclared (Constant value) = false
is_undeclared (Called parameters result) = false
is_undeclared Main = false
is_undeclared Undeclared = true

abbrev pub is_function : Meant → Bool
is_function (Kept type) = false
is_function (Constant value) = false
is_function (Called parameters result) = true
is_function Main = true
is_function Undeclared = false

abbrev pub is_main : Meant → Bool
is_main (Kept type) = false
is_main (Constant value) = false
is_main (Called parameters result) = false
is_main Main = true
is_main Undeclared = false

abbrev pub NameBreaks : Meant → Place → Breaks
NameBreaks meant place = either (where_so rules.Undeclared place (is_undeclared meant))
    (where_so rules.NoFunction place (is_function meant))

-- a called name isn't declared, or it is `main`
abbrev pub CalledNameBreaks : Meant → Place → Breaks
CalledNameBreaks meant place = either (where_so rules.Undeclared place (is_undeclared meant))
    (where_so rules.MainCalled place (is_main meant))

-- a sign doesn't take its operands
abbrev pub are_refused : (Operand → Operand → Option Value) → Option Operand → Option Operand → Bool
are_refused f (Some a) (Some b) = is_none (f a b)
are_refused f _ _ = false

-- the target of an assignment isn't a variable
abbrev pub TargetBreaks : Env → Spot → Term → Breaks
TargetBreaks env spot place = where_so rules.NoTarget spot.place (is_no_target env place)

-- the target of an assignment is an array
abbrev pub WholeBreaks : Env → Spot → Term → Breaks
WholeBreaks env spot place =
    where_so rules.WholeAssigned spot.place (is_such is_array (type_of env place))

-- `++` or `--` doesn't count its operand
abbrev pub is_not_counted : ExpressionType → Bool
is_not_counted type = not (is_array type) && is_none (option_and_then counted (value_of type))

-- the target of an assignment isn't an array, but the assignment doesn't take the value
abbrev pub is_not_assigned : Sign → Option ExpressionType → Option Operand → Bool
is_not_assigned sign (Some target) (Some from) =
    not (is_array target) && not (does_assign sign (value_of target) from)
is_not_assigned sign _ _ = false

-- the rule that such an assignment breaks
abbrev pub assign_rule : Sign → Rule
assign_rule s.Assign = rules.NoConversion
assign_rule sign = rules.WrongOperands

-- the operand of a dereference isn't a pointer, or is a `void *`
abbrev pub is_no_pointer : Value → Bool
is_no_pointer value = is_none (pointed value)

abbrev pub is_no_integer : Value → Bool
is_no_integer value = not (is_integer value)

-- the struct doesn't have the member, or there is no struct
abbrev pub MemberBreaks : Env → Spot → Bool → Option ℕ → Named → Breaks
MemberBreaks env spot is_typed index member =
    where_so rules.NoMember spot.place (is_typed && is_none (member_place env index member))

-- the called expression isn't a function
abbrev pub is_no_function : Meant → Bool
is_no_function (Kept type) = is_some type
is_no_function (Constant value) = true
is_no_function (Called parameters result) = false
is_no_function Main = false
is_no_function Undeclared = false

-- a call has another number of arguments than the function has parameters
abbrev pub is_wrong_count : Meant → ℕ → Bool
is_wrong_count (Called parameters result) count = not (nat_eq count (length parameters))
is_wrong_count (Kept type) count = false
is_wrong_count (Constant value) count = false
is_wrong_count Main count = false
is_wrong_count Undeclared count = false

-- an argument doesn't convert to the type of its parameter
abbrev pub is_not_taken : Option Parameter → Option Operand → Bool
is_not_taken (Some parameter) (Some from) = not (does_take parameter from)
is_not_taken parameter _ = false

-- the struct of a cast isn't declared, or the cast is neither to an integer nor to a pointer
abbrev pub CastBreaks : Env → Spot → TypeTree → Breaks
CastBreaks env spot type = either (only rules.NoStruct (NamesNoStruct env.structs type))
    (where_so rules.WrongOperands spot.place (is_no_value_type type))

-- the rules that a part breaks when it is used as a value, as a condition, or as a statement
abbrev pub as_value : Env → Term → Breaks → Breaks
as_value env term inner = either inner (ValueBreaks env term)

abbrev pub as_condition : Env → Term → Breaks → Breaks
as_condition env term inner = either inner (ConditionBreaks env term)

abbrev pub as_statement : Env → Term → Breaks → Breaks
as_statement env term inner = either inner (StatementBreaks env term)

-- the rules that a called expression breaks, which are its own if it isn't a name
abbrev pub as_called : Env → Term → Breaks → Breaks
as_called env (Use name) inner = CalledNameBreaks (env.meant name) name.place
as_called env _ inner = inner

-- the rules that an expression breaks, whatever its use
abbrev mutual
  pub Broken : Env → Term → Breaks
  Broken env (Number spot value unsigned) = nothing
  Broken env (Puts spot) = nothing
  Broken env (Sizeof spot type) = SizeofBreaks env.structs type spot.place
  Broken env (Use name) = NameBreaks (env.meant name) name.place
  Broken env (GroupNumber spot) = nothing
  Broken env (GroupRank spot) = nothing
  Broken env (Prefix spot sign operand) = either (as_value env operand (Broken env operand))
      (where_so rules.WrongOperands spot.place
      (is_such (λ v. is_none (prefixed sign v)) (value_in (type_of env operand))))
  Broken env (Dereference spot pointer) = either (as_value env pointer (Broken env pointer))
      (where_so rules.NoPointer spot.place (is_such is_no_pointer (value_in (type_of env pointer))))
  Broken env (Address spot place) = either (Broken env place) (TargetBreaks env spot place)
  Broken env (Count spot is_before place) =
      either (Broken env place) (either (TargetBreaks env spot place)
      (either (WholeBreaks env spot place)
      (where_so rules.WrongOperands spot.place (is_such is_not_counted (type_of env place)))))
  Broken env (Cast spot type operand) =
      either (as_value env operand (Broken env operand)) (CastBreaks env spot type)
  Broken env (Binary spot sign left right) =
      either (either (as_value env left (Broken env left)) (as_value env right (Broken env right)))
      (where_so rules.WrongOperands spot.place (are_refused (binary sign) (operand_in (is_zero left)
      (type_of env left)) (operand_in (is_zero right) (type_of env right))))
  Broken env (Comma spot left right) =
      either (as_statement env left (Broken env left)) (as_statement env right (Broken env right))
  Broken env (Index spot whole by) =
      either (either (as_value env whole (Broken env whole)) (as_value env by (Broken env by)))
      (either
      (where_so rules.NoPointer spot.place (is_such is_no_pointer (value_in (type_of env whole))))
      (where_so rules.WrongOperands spot.place (is_such is_no_integer (value_in (type_of env by)))))
  Broken env (Call spot callee arguments) =
      either (either (as_called env callee (Broken env callee))
      (ArgumentsBreak env (parameters_of (called_as env callee (type_of env callee))) arguments))
      (either (where_so rules.NoFunction spot.place
      (is_no_function (called_as env callee (type_of env callee))))
      (where_so rules.WrongCount spot.place
      (is_wrong_count (called_as env callee (type_of env callee)) (count_of arguments))))
  Broken env (Member spot whole member) = either (Broken env whole)
      (MemberBreaks env spot (is_some (type_of env whole))
      (option_and_then struct_of (type_of env whole)) member)
  Broken env (Through spot pointer member) = either (as_value env pointer (Broken env pointer))
      (MemberBreaks env spot (is_some (value_in (type_of env pointer)))
      (option_and_then struct_at (value_in (type_of env pointer))) member)
  Broken env (Assign spot sign place value) =
      either (either (Broken env place) (as_value env value (Broken env value)))
      (either (TargetBreaks env spot place) (either (WholeBreaks env spot place)
      (where_so (assign_rule sign) spot.place
      (is_not_assigned sign (type_of env place) (operand_in (is_zero value) (type_of env value))))))
  Broken env (Choose spot condition first second) =
      either (either (as_condition env condition (Broken env condition))
      (either (as_value env first (Broken env first)) (as_value env second (Broken env second))))
      (where_so rules.WrongOperands spot.place (are_refused chosen (operand_in (is_zero first)
      (type_of env first)) (operand_in (is_zero second) (type_of env second))))

  pub ArgumentsBreak : Env → List Parameter → Terms → Breaks
  ArgumentsBreak env parameters no_terms = nothing
  ArgumentsBreak env parameters (also before last) =
      either (ArgumentsBreak env parameters before) (either (as_value env last (Broken env last))
      (where_so rules.NoConversion (first_place last) (is_not_taken
      (slice_get parameters (count_of before)) (operand_in (is_zero last) (type_of env last)))))
