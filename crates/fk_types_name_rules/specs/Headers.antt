-- The rules about the headers of functions, and about `main`.
use Rattle.std.specs.Prelude.{◌≡◌, ◌⊎◌, ℕ, ◌<◌, ◌≤◌, List, [], ◌∷◌, Some, slice_get, IsSome}
use Rattle.std.specs.Prelude.{IsSomeAnd, codes}
use Rattle.fk_syntax.specs.declared.place.Place.{Place}
use Rattle.fk_syntax.specs.declared.program.Mode.TheVariants.{Async}
use Rattle.fk_syntax.specs.Tree.{Named, BaseType, TypeTree}
use Rattle.fk_syntax.specs.Tree as t
use Rattle.fk_syntax.specs.Program.{DeclaredTree, FunctionTree, ItemTree, ProgramTree, StructItem}
use Rattle.fk_syntax.specs.Program.{VariablesItem, FunctionItem}

-- two types have the same base
abbrev pub IsSameBase : BaseType → BaseType → Type 0
IsSameBase t.Int other = other ≡ t.Int
IsSameBase t.Unsigned other = other ≡ t.Unsigned
IsSameBase t.Void other = other ≡ t.Void
IsSameBase (t.Struct name) other = (same : Named) × (other ≡ t.Struct same)
    × (same.bytes ≡ name.bytes)

abbrev pub IsSameType : TypeTree → TypeTree → Type 0
IsSameType type other = IsSameBase type.base other.base × (other.stars ≡ type.stars)

-- two parameters have the same type and sharing; their names may differ
abbrev pub IsSameParameter : DeclaredTree → DeclaredTree → Type 0
IsSameParameter parameter other = (other.shared ≡ parameter.shared)
    × IsSameType parameter.kind other.kind × (other.length ≡ parameter.length)

abbrev pub AreSameParameters : List DeclaredTree → List DeclaredTree → Type 0
AreSameParameters [] [] = Unit {0}
AreSameParameters [] (y ∷ ys) = ⊥
AreSameParameters (x ∷ xs) [] = ⊥
AreSameParameters (x ∷ xs) (y ∷ ys) = IsSameParameter x y × AreSameParameters xs ys

-- two headers agree in mode, result and parameters
abbrev pub Agree : FunctionTree → FunctionTree → Type 0
Agree header other = (other.mode ≡ header.mode) × IsSameType header.result other.result
    × AreSameParameters header.parameters other.parameters

-- an item is a header of the function with this name
abbrev pub HeaderHere : List ℕ → ItemTree → Type 0
HeaderHere bytes (StructItem name members) = ⊥
HeaderHere bytes (VariablesItem variables) = ⊥
HeaderHere bytes (FunctionItem function) = function.name.bytes ≡ bytes

-- an item is a header of the function with this name, and has its body
abbrev pub BodyHere : List ℕ → ItemTree → Type 0
BodyHere bytes (StructItem name members) = ⊥
BodyHere bytes (VariablesItem variables) = ⊥
BodyHere bytes (FunctionItem function) = (function.name.bytes ≡ bytes) × IsSome function.body

abbrev pub HasHeaderAt : List ItemTree → List ℕ → ℕ → Type 0
HasHeaderAt items bytes at = IsSomeAnd (slice_get items at) (HeaderHere bytes)

abbrev pub HasBodyAt : List ItemTree → List ℕ → ℕ → Type 0
HasBodyAt items bytes at = IsSomeAnd (slice_get items at) (BodyHere bytes)

-- the item at this index is a header of a function that has an earlier one
abbrev pub HasLaterAt : List ItemTree → List ℕ → ℕ → Type 0
HasLaterAt items bytes at = HasHeaderAt items bytes at × (k : ℕ) × (k < at)
    × HasHeaderAt items bytes k

-- the least number for which a predicate holds
abbrev pub IsFirst : (ℕ → Type 0) → ℕ → Type 0
IsFirst P at = P at × ((k : ℕ) → P k → at ≤ k)

-- a header doesn't agree with the first one of its function
abbrev pub Differs : List ItemTree → FunctionTree → Type 0
Differs items function = (first : ℕ)
    × (header : FunctionTree) × IsFirst (HasHeaderAt items function.name.bytes) first
    × (slice_get items first ≡ Some (FunctionItem header)) × (¬ Agree header function)

-- a header has a body, and so does an earlier one of its function
abbrev pub RepeatsBody : List ItemTree → ℕ → FunctionTree → Type 0
RepeatsBody items at function = IsSome function.body × (k : ℕ) × (k < at)
    × HasBodyAt items function.name.bytes k

-- a function has no body, and this is its second header or the only one
abbrev pub LacksBody : List ItemTree → ℕ → FunctionTree → Type 0
LacksBody items at function = ((k : ℕ) → ¬ HasBodyAt items function.name.bytes k)
    × (IsFirst (HasLaterAt items function.name.bytes) at
    ⊎ ((k : ℕ) → ¬ HasLaterAt items function.name.bytes k))

abbrev pub IsWrongHeader : List ItemTree → ℕ → FunctionTree → Type 0
IsWrongHeader items at function = Differs items function
    ⊎ (RepeatsBody items at function ⊎ LacksBody items at function)

-- the headers of a function differ, or it has no body or two
abbrev pub HasWrongHeader : List ItemTree → Place → Type 0
HasWrongHeader items place = (at : ℕ) × (function : FunctionTree)
    × (slice_get items at ≡ Some (FunctionItem function)) × IsWrongHeader items at function
    × (place ≡ function.name.place)

-- no function has the name `main`
abbrev pub HasNoMain : List ItemTree → Type 0
HasNoMain items = (k : ℕ) → ¬ HasHeaderAt items (codes "main") k

-- a header of `main` has parameters, or a mode other than `async`
abbrev pub IsWrongMain : FunctionTree → Type 0
IsWrongMain function = (function.name.bytes ≡ codes "main")
    × (¬ ((function.parameters ≡ []) × (function.mode ≡ Async)))

-- there is no `main`, which is reported at the end of the text, or a header of it has a wrong form
abbrev pub LacksMain : ProgramTree → Place → Type 0
LacksMain program place = (HasNoMain program.items × (place ≡ program.end))
    ⊎ ((at : ℕ) × (function : FunctionTree) × (slice_get program.items at
    ≡ Some (FunctionItem function)) × IsWrongMain function × (place ≡ function.name.place))
