-- The facts that the code has about the scope of expressions, in the form of the definitions.
use Rattle.std.specs.Prelude.{ℕ, Bool, true, false, List, [], ◌∷◌, map, Option, Some, None}
use Rattle.std.specs.Prelude.{slice_get, Vec}
use Rattle.std.specs.Option.{option_and_then}
use Rattle.std.specs.declared.alloc.Global.{Global}
use Rattle.fk_types_structs.specs.declared.types.DataType.{DataType}
use Rattle.fk_types_structs.specs.Whole.{structs_in}
use Rattle.fk_types_names.specs.declared.names.Meaning.{Meaning}
use Rattle.fk_types_names.specs.declared.names.Meaning.TheVariants as m
use Rattle.fk_types_names.specs.Names.{meaning_in}
use Rattle.fk_types_operators.specs.declared.values.Value.{Value}
use Rattle.fk_types_operators.specs.declared.values.Value.TheVariants.{Int}
use Rattle.fk_types_operators.specs.declared.values.ExpressionType.{ExpressionType}
use Rattle.fk_types_operators.specs.declared.values.ExpressionType.TheVariants.{Computed, Nothing}
use Rattle.fk_types_operators.specs.Values.{result_of}
use Rattle.fk_types_judgments.specs.Names as n
use Rattle.fk_types_judgments.specs.Names.{Meant, Env, int, void_pointer, predeclared_meant}
use Rattle.fk_types_judgments.specs.Typing.{result_in}
use Rattle.fk_types_forms.specs.declared.calls.Parameter.{Parameter}
use Rattle.fk_types_forms.specs.declared.calls.Parameter.TheVariants as p
use Rattle.fk_types_forms.specs.declared.names.Signature.{Signature}
use Rattle.fk_types_forms.specs.declared.names.Entity.{Entity}
use Rattle.fk_types_forms.specs.declared.names.Entity.TheVariants as k
use Rattle.fk_types_forms.specs.declared.names.Scope.{Scope}
use Rattle.fk_types_forms.specs.declared.names.Thing.{Thing}
use Rattle.fk_types_forms.specs.declared.names.Thing.TheVariants as t

abbrev pub parameter_of : Parameter → n.Parameter
parameter_of (p.Typed type) = n.Typed type
parameter_of p.Words = n.Words

abbrev pub signature_meant : Signature → Meant
signature_meant signature =
    n.Called (map n.Typed signature.parameters.items) (n.Always signature.result)

-- what a name denotes
abbrev pub meant_of : Thing → Meant
meant_of (t.Kept type) = n.Kept type
meant_of (t.Constant value) = n.Constant value
meant_of (t.Function signature) = signature_meant signature.now
meant_of t.Multiprefix = n.Called (n.Words ∷ n.Typed (Some int) ∷ []) n.Pointed
meant_of t.Request = n.Called (n.Typed (Some int) ∷ []) (n.Always (Some (result_of void_pointer)))
meant_of t.Output = n.Called (n.Typed (Some int) ∷ []) (n.Always (Some Nothing))
meant_of t.GroupSize = n.Called [] (n.Always (Some (Computed Int)))
meant_of t.Main = n.Main
meant_of t.Undeclared = n.Undeclared

-- whether a name denotes a function other than `main`
abbrev pub is_called : Meant → Bool
is_called (n.Kept type) = false
is_called (n.Constant value) = false
is_called (n.Called parameters result) = true
is_called n.Main = false
is_called n.Undeclared = false

-- the type of a call
abbrev pub given_by : Meant → Option Value → Option ExpressionType
given_by (n.Kept type) first = None
given_by (n.Constant value) first = None
given_by (n.Called parameters result) first = result_in result first
given_by n.Main first = None
given_by n.Undeclared first = None

-- what a declaration declares
abbrev pub known_meant : Option Entity → Meant
known_meant None = n.Kept None
known_meant (Some (k.Variable type)) = n.Kept type
known_meant (Some (k.Function signature)) = signature_meant signature
known_meant (Some k.Main) = n.Main

abbrev pub meant_by : List Entity → List ℕ → Option Meaning → Meant
meant_by known name None = n.Kept None
meant_by known name (Some (m.Declared number)) = known_meant (slice_get known number)
meant_by known name (Some m.Predeclared) = predeclared_meant name
meant_by known name (Some m.Undeclared) = n.Undeclared

abbrev pub member_in : List (Vec (Option DataType) Global) → ℕ → ℕ → Option DataType
member_in members index place = option_and_then (λ (v : Vec (Option DataType) Global).
    option_and_then (λ type. type) (slice_get v.items place)) (slice_get members index)

abbrev pub env_in : Scope → Env
env_in scope = record {
  structs = structs_in scope.structs.now;
  meant = λ name. meant_by scope.known.now name.bytes (meaning_in scope.names.now name.at);
  member_type = member_in scope.members.now;
}
