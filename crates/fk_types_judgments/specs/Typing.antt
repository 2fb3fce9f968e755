-- The types of expressions, given by equations over the table of signs. An expression has no type
-- if it or one of its parts breaks a rule.
use Rattle.std.specs.Prelude.{◌≡◌, ℕ, zero, Bool, true, false, not, ◌&&◌, List, [], ◌∷◌, ◌++◌}
use Rattle.std.specs.Prelude.{length, nat_eq, Option, Some, None, is_some, slice_get, if◌then◌else◌}
use Rattle.std.specs.Option.{option_map, option_and_then}
use Rattle.fk_syntax.specs.declared.sign.Sign.{Sign}
use Rattle.fk_syntax.specs.declared.sign.Sign.TheVariants as s
use Rattle.fk_syntax.specs.Tree.{Named, BaseType, TypeTree}
use Rattle.fk_syntax.specs.Tree as t
use Rattle.fk_types_structs.specs.declared.types.Root.{Root}
use Rattle.fk_types_structs.specs.declared.types.Root.TheVariants as r
use Rattle.fk_types_structs.specs.declared.types.DataType.{DataType}
use Rattle.fk_types_structs.specs.Types.{type_spelled, member_named}
use Rattle.fk_types_operators.specs.declared.values.Value.{Value}
use Rattle.fk_types_operators.specs.declared.values.Value.TheVariants.{Int, Unsigned, Pointer}
use Rattle.fk_types_operators.specs.declared.values.Operand.{Operand}
use Rattle.fk_types_operators.specs.declared.values.ExpressionType.{ExpressionType}
use Rattle.fk_types_operators.specs.declared.values.ExpressionType.TheVariants.{Stored, Computed}
use Rattle.fk_types_operators.specs.declared.values.ExpressionType.TheVariants.{Nothing}
use Rattle.fk_types_operators.specs.Values.{target, value_stored, value_of, is_array, address_of}
use Rattle.fk_types_operators.specs.Signs.{is_void, is_integer, converts, binary, prefixed, counted}
use Rattle.fk_types_operators.specs.Signs.{chosen, sign_within}
use Rattle.fk_types_judgments.specs.Term.{Term, Terms, Number, Puts, Sizeof, Use, GroupNumber}
use Rattle.fk_types_judgments.specs.Term.{GroupRank, Prefix, Dereference, Address, Count, Cast}
use Rattle.fk_types_judgments.specs.Term.{Binary, Comma, Index, Call, Member, Through, Assign}
use Rattle.fk_types_judgments.specs.Term.{Choose, no_terms, also, count_of}
use Rattle.fk_types_judgments.specs.Names.{Parameter, Typed, Words, Result, Always, Pointed, Meant}
use Rattle.fk_types_judgments.specs.Names.{Kept, Constant, Called, Main, Undeclared, Env}

-- the value type of an expression with this type, and the operand that it is for a sign
abbrev pub value_in : Option ExpressionType → Option Value
value_in type = option_and_then value_of type

abbrev pub operand_in : Bool → Option ExpressionType → Option Operand
operand_in is_zero type =
    option_map (λ (v : Value). record { value = v; is_zero = is_zero }) (value_in type)

abbrev pub computed : Option Value → Option ExpressionType
computed value = option_map Computed value

-- the type that two operands give together, if both exist
abbrev pub of_both : (Operand → Operand → Option Value) → Option Operand
    → Option Operand → Option Value
of_both f (Some a) (Some b) = f a b
of_both f _ _ = None

-- whether an expression is the number 0, written as one token
abbrev pub is_zero : Term → Bool
is_zero (Number spot value unsigned) = nat_eq value 0
is_zero _ = false

-- the type that a statement or a side of a comma leaves: that of a value or of nothing, but not
-- that of a struct
abbrev pub left_of : ExpressionType → Option ExpressionType
left_of Nothing = Some Nothing
left_of (Computed value) = Some (Computed value)
left_of (Stored type) = computed (value_stored type)

-- the type of a name that isn't called
abbrev pub name_type : Meant → Option ExpressionType
name_type (Kept type) = option_map Stored type
name_type (Constant value) = Some (Computed value)
name_type (Called parameters result) = None
name_type Main = None
name_type Undeclared = None

-- a name denotes a value that is not a variable
abbrev pub is_constant : Meant → Bool
is_constant (Kept type) = false
is_constant (Constant value) = true
is_constant (Called parameters result) = false
is_constant Main = false
is_constant Undeclared = false

-- an expression isn't a variable, member, element or dereference
abbrev pub is_no_target : Env → Term → Bool
is_no_target env (Use name) = is_constant (env.meant name)
is_no_target env (Dereference spot pointer) = false
is_no_target env (Index spot whole by) = false
is_no_target env (Member spot whole member) = false
is_no_target env (Through spot pointer member) = false
is_no_target env _ = true

-- a written type is neither an integer nor a pointer
abbrev pub is_no_value_base : BaseType → Bool
is_no_value_base t.Int = false
is_no_value_base t.Unsigned = false
is_no_value_base t.Void = true
is_no_value_base (t.Struct name) = true

abbrev pub is_no_value_type : TypeTree → Bool
is_no_value_type type = is_no_value_base type.base && nat_eq type.stars 0

-- the type of a `sizeof`
abbrev pub sizeof_type : Option DataType → Option ExpressionType
sizeof_type None = None
sizeof_type (Some type) = if is_void (target type.root type.stars) then None
    else Some (Computed Unsigned)

-- the type of a cast
abbrev pub cast_type : Option DataType → Option Value → Option ExpressionType
cast_type (Some type) (Some value) = computed (value_stored type)
cast_type _ _ = None

-- the type of what a pointer points to; there is none for a `void *`
abbrev pub pointed : Value → Option ExpressionType
pointed (Pointer t) = if is_void t then None
    else Some (Stored (record { root = t.root; stars = t.stars; length = None }))
pointed Int = None
pointed Unsigned = None

-- the type of an element of an array
abbrev pub element : Option Value → Option Value → Option ExpressionType
element (Some whole) (Some by) = if is_integer by then pointed whole else None
element _ _ = None

-- the index of the struct that a root with this number of stars is
abbrev pub struct_of_root : Root → ℕ → Option ℕ
struct_of_root (r.Struct index) zero = Some index
struct_of_root _ _ = None

-- the index of the struct that an expression with this type is, and of the one that a value points
-- to
abbrev pub struct_of : ExpressionType → Option ℕ
struct_of (Stored type) = if is_some type.length then None else struct_of_root type.root type.stars
struct_of (Computed value) = None
struct_of Nothing = None

abbrev pub struct_at : Value → Option ℕ
struct_at (Pointer t) = struct_of_root t.root t.stars
struct_at Int = None
struct_at Unsigned = None

-- the position of a member in its struct, and the type of the member
abbrev pub member_place : Env → Option ℕ → Named → Option ℕ
member_place env index member = option_and_then (λ i. member_named env.structs i member.bytes) index

abbrev pub member_type : Env → Option ℕ → Named → Option ExpressionType
member_type env index member = option_and_then (λ i. option_and_then (λ place.
    option_map Stored (env.member_type i place)) (member_named env.structs i member.bytes)) index

-- a value converts to a type; a struct or a whole array isn't such a type
abbrev pub does_convert : Operand → Option Value → Bool
does_convert from None = false
does_convert from (Some to) = converts from to

-- whether an assignment takes a value: for `=` if it converts to the type of the target, else if
-- the operator takes it
abbrev pub does_sign_take : Sign → Option Value → Operand → Bool
does_sign_take sign None from = false
does_sign_take sign (Some to) from = is_some (option_and_then
    (λ within. binary within (record { value = to; is_zero = false }) from) (sign_within sign))

abbrev pub does_assign : Sign → Option Value → Operand → Bool
does_assign s.Assign to from = does_convert from to
does_assign sign to from = does_sign_take sign to from

abbrev pub assigned : Sign → Option ExpressionType → Option Operand → Option ExpressionType
assigned sign (Some target) (Some from) = if not (is_array target)
    && does_assign sign (value_of target) from then computed (value_of target) else None
assigned sign _ _ = None

-- the type of `++` and `--` on a stored value
abbrev pub counted_type : ExpressionType → Option ExpressionType
counted_type type = if is_array type then None
    else computed (option_and_then counted (value_of type))

-- the type of a comma expression
abbrev pub last_of : Option ExpressionType → Option ExpressionType → Option ExpressionType
last_of (Some left) (Some right) = if is_some (left_of left) then left_of right else None
last_of _ _ = None

-- the type of a `?:`, which requires a condition with a value
abbrev pub branched : Option Value → Option Operand → Option Operand → Option ExpressionType
branched (Some condition) first second = computed (of_both chosen first second)
branched None first second = None

-- the integer type that a root with this number of stars is
abbrev pub integer_under : Root → ℕ → Option Value
integer_under r.Int zero = Some Int
integer_under r.Unsigned zero = Some Unsigned
integer_under _ _ = None

abbrev pub word_at : Value → Option Value
word_at (Pointer t) = integer_under t.root t.stars
word_at Int = None
word_at Unsigned = None

-- whether a parameter takes an operand
abbrev pub does_take : Parameter → Operand → Bool
does_take Words from = is_some (word_at from.value)
does_take (Typed None) from = true
does_take (Typed (Some type)) from = does_convert from (value_stored type)

-- whether an argument fits: it has a value, which its parameter takes. Arguments without a
-- parameter are detected by their count
abbrev pub does_fit : Option Parameter → Option Operand → Bool
does_fit (Some parameter) (Some from) = does_take parameter from
does_fit None (Some from) = true
does_fit parameter None = false

-- the parameters of what a name denotes, and the type of its calls
abbrev pub parameters_of : Meant → List Parameter
parameters_of (Called parameters result) = parameters
parameters_of (Kept type) = []
parameters_of (Constant value) = []
parameters_of Main = []
parameters_of Undeclared = []

abbrev pub result_in : Result → Option Value → Option ExpressionType
result_in (Always type) first = type
result_in Pointed first = computed (option_and_then word_at first)

abbrev pub call_type : Meant → ℕ → Bool → Option Value → Option ExpressionType
call_type (Called parameters result) count do_fit first =
    if nat_eq count (length parameters) && do_fit then result_in result first else None
call_type (Kept type) count do_fit first = None
call_type (Constant value) count do_fit first = None
call_type Main count do_fit first = None
call_type Undeclared count do_fit first = None

-- what is called: for a name what it denotes. Any other expression that has a type isn't a function
abbrev pub called_as : Env → Term → Option ExpressionType → Meant
called_as env (Use name) type = env.meant name
called_as env _ None = Kept None
called_as env _ (Some type) = Constant Int

-- the first one of two values that exists
abbrev pub either_value : Option Value → Option Value → Option Value
either_value None second = second
either_value (Some first) second = Some first

abbrev pub number_type : Bool → ExpressionType
number_type true = Computed Unsigned
number_type false = Computed Int

-- the type of an expression
abbrev mutual
  pub type_of : Env → Term → Option ExpressionType
  type_of env (Number spot value unsigned) = Some (number_type unsigned)
  type_of env (Puts spot) = Some Nothing
  type_of env (Sizeof spot type) = sizeof_type (type_spelled env.structs type None)
  type_of env (Use name) = name_type (env.meant name)
  type_of env (GroupNumber spot) = Some (Computed Int)
  type_of env (GroupRank spot) = Some (Computed Int)
  type_of env (Prefix spot sign operand) =
      computed (option_and_then (prefixed sign) (value_in (type_of env operand)))
  type_of env (Dereference spot pointer) = option_and_then pointed (value_in (type_of env pointer))
  type_of env (Address spot place) = if is_no_target env place then None
      else computed (option_and_then address_of (type_of env place))
  type_of env (Count spot is_before place) = if is_no_target env place then None
      else option_and_then counted_type (type_of env place)
  type_of env (Cast spot type operand) =
      cast_type (type_spelled env.structs type None) (value_in (type_of env operand))
  type_of env (Binary spot sign left right) =
      computed (of_both (binary sign) (operand_in (is_zero left) (type_of env left))
      (operand_in (is_zero right) (type_of env right)))
  type_of env (Comma spot left right) = last_of (type_of env left) (type_of env right)
  type_of env (Index spot whole by) =
      element (value_in (type_of env whole)) (value_in (type_of env by))
  type_of env (Call spot callee arguments) =
      call_type (called_as env callee (type_of env callee)) (count_of arguments)
      (do_all_fit env (parameters_of (called_as env callee (type_of env callee))) arguments)
      (first_value env arguments)
  type_of env (Member spot whole member) =
      member_type env (option_and_then struct_of (type_of env whole)) member
  type_of env (Through spot pointer member) =
      member_type env (option_and_then struct_at (value_in (type_of env pointer))) member
  type_of env (Assign spot sign place value) = if is_no_target env place then None
      else assigned sign (type_of env place) (operand_in (is_zero value) (type_of env value))
  type_of env (Choose spot condition first second) = branched (value_in (type_of env condition))
      (operand_in (is_zero first) (type_of env first))
      (operand_in (is_zero second) (type_of env second))

  -- whether each argument fits its parameter
  pub do_all_fit : Env → List Parameter → Terms → Bool
  do_all_fit env parameters no_terms = true
  do_all_fit env parameters (also before last) = do_all_fit env parameters before
      && does_fit (slice_get parameters (count_of before))
      (operand_in (is_zero last) (type_of env last))

  -- the value type of the first argument that has one
  pub first_value : Env → Terms → Option Value
  first_value env no_terms = None
  first_value env (also before last) =
      either_value (first_value env before) (value_in (type_of env last))

-- an expression has a type
abbrev pub HasType : Env → Term → ExpressionType → Type 0
HasType env term type = type_of env term ≡ Some type

-- the type of a part, with its main token
pub record Noted : Type 0 where
  pub at : ℕ
  pub type : Option ExpressionType

abbrev pub note : ℕ → Option ExpressionType → List Noted
note at type = record { at = at; type = type } ∷ []

-- the types of an expression and of all its parts, each at its main token: its sign, name or number
abbrev mutual
  pub noted : Env → Term → List Noted
  noted env (Number spot value unsigned) = note spot.at (type_of env (Number spot value unsigned))
  noted env (Puts spot) = note spot.at (type_of env (Puts spot))
  noted env (Sizeof spot type) = note spot.at (type_of env (Sizeof spot type))
  noted env (Use name) = note name.at (type_of env (Use name))
  noted env (GroupNumber spot) = note spot.at (type_of env (GroupNumber spot))
  noted env (GroupRank spot) = note spot.at (type_of env (GroupRank spot))
  noted env (Prefix spot sign operand) =
      noted env operand ++ note spot.at (type_of env (Prefix spot sign operand))
  noted env (Dereference spot pointer) =
      noted env pointer ++ note spot.at (type_of env (Dereference spot pointer))
  noted env (Address spot place) =
      noted env place ++ note spot.at (type_of env (Address spot place))
  noted env (Count spot is_before place) =
      noted env place ++ note spot.at (type_of env (Count spot is_before place))
  noted env (Cast spot type operand) =
      noted env operand ++ note spot.at (type_of env (Cast spot type operand))
  noted env (Binary spot sign left right) =
      noted env left ++ noted env right ++ note spot.at (type_of env (Binary spot sign left right))
  noted env (Comma spot left right) =
      noted env left ++ noted env right ++ note spot.at (type_of env (Comma spot left right))
  noted env (Index spot whole by) =
      noted env whole ++ noted env by ++ note spot.at (type_of env (Index spot whole by))
  noted env (Call spot callee arguments) = noted env callee ++ all_noted env arguments
      ++ note spot.at (type_of env (Call spot callee arguments))
  noted env (Member spot whole member) =
      noted env whole ++ note spot.at (type_of env (Member spot whole member))
  noted env (Through spot pointer member) =
      noted env pointer ++ note spot.at (type_of env (Through spot pointer member))
  noted env (Assign spot sign place value) = noted env place ++ noted env value
      ++ note spot.at (type_of env (Assign spot sign place value))
  noted env (Choose spot condition first second) = noted env condition ++ noted env first
      ++ noted env second ++ note spot.at (type_of env (Choose spot condition first second))

  pub all_noted : Env → Terms → List Noted
  all_noted env no_terms = []
  all_noted env (also before last) = all_noted env before ++ noted env last
