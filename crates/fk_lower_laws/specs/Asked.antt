-- What well typed code asks of a program: where a value is needed there is one, an assignment has a
-- place, a call has its arguments and a function, and constant addresses are those of shared data.
-- A word of a group frame that is named is in a frame that the call has taken there.
use Rattle.std.specs.Prelude.{◌≡◌, ℕ, ◌==◌, Bool, true, false, not, List, [], ◌∷◌, Option, Some}
use Rattle.std.specs.Prelude.{None, if◌then◌else◌}
use Rattle.fk_syntax.specs.declared.sign.Sign.{Sign}
use Rattle.fk_syntax.specs.declared.sign.Sign.TheVariants as g
use Rattle.fk_syntax.specs.Tree as t
use Rattle.fk_syntax.specs.Tree.{Named, Tree, Links, Trees, Suffixes}
use Rattle.fk_syntax.specs.Program as p
use Rattle.fk_syntax.specs.Program.{DeclaredTree, Statement, Statements, FunctionTree, ProgramTree}
use Rattle.fk_meaning_forms.specs.declared.tables.Region.{Region}
use Rattle.fk_meaning_forms.specs.Tables.{Tables, no_binding, note, is_array, is_void, slot}
use Rattle.fk_meaning_forms.specs.Tables.{frame_at}
use Rattle.fk_meaning_forms.specs.Expressions.{Signature, token}
use Rattle.fk_meaning_forms.specs.Statements.{is_nothing, is_scalar}
use Rattle.fk_meaning_forms.specs.Program.{functions_of, binding_of, signature_of, no_signature}
use Rattle.fk_meaning_forms.specs.Program.{signature_in, is_main}
use Rattle.fk_meaning.specs.Calls.{TakesEnough}
use Rattle.fk_lockstep_structure.specs.Valued.{AreEnough}
use Rattle.fk_core_liveness.specs.declared.places.FunctionKind.{FunctionKind}
use Rattle.fk_core_liveness.specs.declared.places.FunctionKind.TheVariants.{Main, Called}
use Rattle.fk_core_liveness.specs.Frames.{is_main_place}
use Rattle.fk_lockstep_frames.specs.Nests.{Nest, OfFunction, OfPart, has_word}
use Rattle.fk_core_typing.specs.AddressValues.{is_address}
use Rattle.fk_lower_names.specs.OpenFrames.{frame_words}
use Rattle.fk_lower_laws.specs.Parts.{HasLevel, StatementsHaveLevels, AllStartsStay}
use Rattle.fk_lower_laws.specs.Ways.{Way, Unchecked, Constant, Array, Word, Function}
use Rattle.fk_lower_laws.specs.Ways.{Valued, gives, named_way, called_way, dotted_way, joined_way}
use Rattle.fk_lower_laws.specs.Ways.{way}

-- An expression has a place to which a value can be assigned; and it has an address.
abbrev pub IsTarget : Way → Type 0
IsTarget Unchecked = Unit {0}
IsTarget (Constant address) = Unit {0}
IsTarget Word = Unit {0}
IsTarget w = ⊥

abbrev pub HasAddress : Way → Type 0
HasAddress Unchecked = Unit {0}
HasAddress (Constant address) = Unit {0}
HasAddress Array = Unit {0}
HasAddress w = ⊥

-- A prefix sign needs a value, a place or an address.
abbrev pub PrefixAsks : Sign → Way → Type 0
PrefixAsks g.Ampersand w = HasAddress w
PrefixAsks g.Increment w = IsTarget w
PrefixAsks g.Decrement w = IsTarget w
PrefixAsks sign w = gives w ≡ true

abbrev pub IsCalled : FunctionKind → Type 0
IsCalled Main = ⊥
IsCalled (Called gives) = Unit {0}

module _ (tables : Tables) (functions : (binding : ℕ) → Signature)
    (place_of : (binding : ℕ) → FunctionKind) (nests : List Nest) where
  -- A constant address is one of shared data, and a word of a frame is in one of these nests.
  abbrev pub NameAsks : (at : ℕ) → Way → Type 0
  NameAsks at (Constant address) = is_address true nests (Some address) ≡ true
  NameAsks at Array = is_array tables at ≡ true
  NameAsks at w = Unit {0}

  abbrev pub DotAsks : (at : ℕ) → Way → Type 0
  DotAsks at Unchecked = Unit {0}
  DotAsks at (Constant address) = NameAsks at (dotted_way tables place_of at (Constant address))
  DotAsks at w = ⊥

  -- An infix sign needs the values of both operands. A comma drops the left one, if by its type
  -- there is one.
  abbrev pub JoinAsks : Sign → (left : Way) → (at : ℕ) → (right : Way) → Type 0
  JoinAsks g.Comma l at r = gives l ≡ not (is_void tables at)
  JoinAsks sign l at r = (gives l ≡ true) × (gives r ≡ true)

  -- A called function gets as many arguments as it has parameters.
  pub record TakesAll (binding : ℕ) (arguments : Trees) : Type 0 where
    pub called : IsCalled (place_of binding)
    pub enough : AreEnough (functions binding).parameters arguments

  abbrev pub NameTakes : (predeclared : Bool) → Named → Trees → Type 0
  NameTakes true name arguments = TakesEnough name arguments
  NameTakes false name arguments = TakesAll (note tables name.at).binding arguments

  abbrev pub CallAsks : Way → Trees → Type 0
  CallAsks (Function name) arguments =
      NameTakes ((note tables name.at).binding == no_binding) name arguments
  CallAsks w arguments = ⊥

  abbrev mutual
    pub Asked : Tree → Type 0
    Asked (t.Variable name) = NameAsks name.at (named_way tables place_of name)
    Asked (t.Prefix spot sign operand) = Asked operand
        × PrefixAsks sign (way tables place_of operand)
    Asked (t.Cast spot type operand) = Asked operand × (gives (way tables place_of operand) ≡ true)
    Asked (t.Chain first links) = Asked first
        × LinksAsked (way tables place_of first) (token first) links
    Asked (t.Postfix whole suffixes) = Asked whole
        × SuffixesAsked (way tables place_of whole) suffixes
    Asked (t.Assign spot sign target value) =
        Asked target × IsTarget (way tables place_of target) × Asked value
        × (gives (way tables place_of value) ≡ true)
    Asked (t.Choose spot condition first second) =
        Asked condition × (gives (way tables place_of condition) ≡ true)
        × Asked first × Asked second
        × (gives (way tables place_of second) ≡ gives (way tables place_of first))
    Asked e = Unit {0}

    pub LinksAsked : Way → (at : ℕ) → Links → Type 0
    LinksAsked w at t.no_links = Unit {0}
    LinksAsked w at (t.link spot sign right others) =
        Asked right × JoinAsks sign w at (way tables place_of right)
        × LinksAsked (joined_way sign (way tables place_of right)) spot.at others

    pub SuffixesAsked : Way → Suffixes → Type 0
    SuffixesAsked w t.no_suffixes = Unit {0}
    SuffixesAsked w (t.index spot by others) =
        (gives w ≡ true) × Asked by × (gives (way tables place_of by) ≡ true)
        × SuffixesAsked Unchecked others
    SuffixesAsked w (t.call spot arguments others) =
        CallAsks w arguments × AllAsked arguments
        × SuffixesAsked (called_way tables place_of w) others
    SuffixesAsked w (t.dot spot name others) =
        DotAsks name.at w × SuffixesAsked (dotted_way tables place_of name.at w) others
    SuffixesAsked w (t.arrow spot name others) = (gives w ≡ true) × SuffixesAsked Unchecked others
    SuffixesAsked w (t.up spot others) = IsTarget w × SuffixesAsked Valued others
    SuffixesAsked w (t.down spot others) = IsTarget w × SuffixesAsked Valued others

    -- All arguments have values.
    pub AllAsked : Trees → Type 0
    AllAsked t.no_trees = Unit {0}
    AllAsked (t.tree first others) = Asked first × (gives (way tables place_of first) ≡ true)
        × AllAsked others

  -- An expression with a value; and one whose value is dropped, if by its type there is one.
  abbrev pub ValueAsked : Tree → Type 0
  ValueAsked e = Asked e × (gives (way tables place_of e) ≡ true)

  abbrev pub OptionValueAsked : Option Tree → Type 0
  OptionValueAsked None = Unit {0}
  OptionValueAsked (Some e) = ValueAsked e

  abbrev pub UsedAsked : Tree → Type 0
  UsedAsked e = Asked e × (gives (way tables place_of e) ≡ not (is_void tables (token e)))

  abbrev pub OptionUsedAsked : Option Tree → Type 0
  OptionUsedAsked None = Unit {0}
  OptionUsedAsked (Some e) = UsedAsked e

  -- A declared scalar has a place to which its first value is assigned.
  abbrev pub ScalarAsked : (scalar : Bool) → DeclaredTree → Type 0
  ScalarAsked false x = Unit {0}
  ScalarAsked true x = Asked (t.Variable x.name) × IsTarget (named_way tables place_of x.name)
      × OptionValueAsked x.first

  abbrev pub VariablesAsked : List DeclaredTree → Type 0
  VariablesAsked [] = Unit {0}
  VariablesAsked (x ∷ xs) = ScalarAsked (is_scalar x) x × VariablesAsked xs

  -- `main` returns a value or none, and any other function a value exactly if it gives one.
  abbrev pub ReturnAsked : FunctionKind → Option Tree → Type 0
  ReturnAsked Main e = OptionValueAsked e
  ReturnAsked (Called gives) None = gives ≡ false
  ReturnAsked (Called gives) (Some e) = (gives ≡ true) × ValueAsked e

-- The nests in a part of a token; and in a body that is a part if the group splits there. The parts
-- of `start` and `fork` are numbered.
abbrev pub in_part : Tables → (numbered : Bool) → (at part : ℕ) → List Nest → List Nest
in_part tables numbered at part nests =
    OfPart numbered (frame_words (frame_at tables at part)) ∷ nests

abbrev pub in_split : Tables → (at part : ℕ) → List Nest → List Nest
in_split tables at part nests =
    if (note tables at).splits then in_part tables false at part nests else nests

module _ (tables : Tables) (functions : (binding : ℕ) → Signature)
    (place_of : (binding : ℕ) → FunctionKind) (place : FunctionKind) where
  abbrev Value : List Nest → Tree → Type 0
  Value nests e = ValueAsked tables functions place_of nests e

  abbrev OptionValue : List Nest → Option Tree → Type 0
  OptionValue nests e = OptionValueAsked tables functions place_of nests e

  abbrev OptionUsed : List Nest → Option Tree → Type 0
  OptionUsed nests e = OptionUsedAsked tables functions place_of nests e

  abbrev mutual
    pub StatementAsked : List Nest → Statement → Type 0
    StatementAsked nests p.Empty = Unit {0}
    StatementAsked nests (p.Expression e) = UsedAsked tables functions place_of nests e
    StatementAsked nests (p.Block statements) = StatementsAsked nests statements
    StatementAsked nests (p.Declare variables) =
        VariablesAsked tables functions place_of nests variables
    StatementAsked nests (p.If spot condition first) = Value nests condition
        × StatementAsked (in_split tables spot.at 0 nests) first
    StatementAsked nests (p.IfElse spot condition first second) = Value nests condition
        × StatementAsked (in_split tables spot.at 0 nests) first
        × StatementAsked (in_split tables spot.at 1 nests) second
    StatementAsked nests (p.While spot condition body) =
        let inner = in_split tables spot.at 0 nests in Value inner condition
        × StatementAsked inner body
    StatementAsked nests (p.DoWhile spot body condition) =
        let inner = in_split tables spot.at 0 nests in Value inner condition
        × StatementAsked inner body
    StatementAsked nests (p.For spot before condition after body) =
        let inner = in_split tables spot.at 0 nests in
        OptionUsed nests before × OptionValue inner condition × OptionUsed inner after
        × StatementAsked inner body
    StatementAsked nests (p.Start spot count body) = OptionValue nests count
        × StatementAsked (in_part tables true spot.at 0 nests) body
    StatementAsked nests (p.Farm spot body) = StatementAsked nests body
    StatementAsked nests (p.Seq spot body) = StatementAsked nests body
    StatementAsked nests (p.Fork spot parts part rank body) =
        Value nests parts × Value nests part × OptionValue nests rank
        × StatementAsked (in_part tables true spot.at 0 nests) body
    StatementAsked nests (p.Barrier spot) = Unit {0}
    StatementAsked nests (p.Break spot) = Unit {0}
    StatementAsked nests (p.Continue spot) = Unit {0}
    StatementAsked nests (p.Return spot e) =
        ReturnAsked tables functions place_of nests place e

    pub StatementsAsked : List Nest → Statements → Type 0
    StatementsAsked nests p.no_statements = Unit {0}
    StatementsAsked nests (p.statement first others) = StatementAsked nests first
        × StatementsAsked nests others

-- Whether a function is `main`, or one that is called, with a value or without.
abbrev pub place_by : FunctionTree → FunctionKind
place_by f = if is_main f then Main else Called (not (is_nothing f.result))

-- The kind of the function that a binding means.
abbrev pub place_in : Tables → List FunctionTree → (binding : ℕ) → FunctionKind
place_in tables [] b = Called false
place_in tables (f ∷ fs) b = if binding_of tables f == b then place_by f else place_in tables fs b

abbrev pub place_of : Tables → ProgramTree → (binding : ℕ) → FunctionKind
place_of tables program b = place_in tables (functions_of program.items) b

-- The words of the group frame that a function takes at the opening of a call, if it takes one.
-- `main` takes none.
abbrev pub frame_with : FunctionKind → Option Region → Option ℕ
frame_with Main region = None
frame_with (Called gives) region = frame_words region

-- An `sh` parameter has its word in the frame of its function.
abbrev pub IsOpenIf : Tables → List Nest → (shared : Bool) → DeclaredTree → Type 0
IsOpenIf tables nests false x = Unit {0}
IsOpenIf tables nests true x =
    has_word nests 0 (slot tables (note tables x.name.at).binding).index ≡ true

abbrev pub AreOpen : Tables → List Nest → List DeclaredTree → Type 0
AreOpen tables nests [] = Unit {0}
AreOpen tables nests (x ∷ xs) = IsOpenIf tables nests x.shared x × AreOpen tables nests xs

abbrev pub frame_for : Tables → (functions : (binding : ℕ) → Signature)
    → (place_of : (binding : ℕ) → FunctionKind) → (binding : ℕ) → Option ℕ
frame_for tables functions place_of b =
    frame_with (place_of b) (frame_at tables (functions b).at 0)

-- The frame of a function is its own, and has the words of its `sh` parameters.
pub record Opens (tables : Tables) (kind : FunctionKind) (function : Signature) : Type 0 where
  pub level : HasLevel 0 (frame_at tables function.at 0)
  pub parameters : AreOpen tables
      (OfFunction (frame_with kind (frame_at tables function.at 0)) ∷ []) function.parameters

abbrev pub frame_of : Tables → ProgramTree → (binding : ℕ) → Option ℕ
frame_of tables program b =
    frame_for tables (signature_in tables (functions_of program.items)) (place_of tables program) b

-- The statements of a function begin in its own nest.
abbrev pub BodyAsked : Tables → (functions : (binding : ℕ) → Signature)
    → (place_of : (binding : ℕ) → FunctionKind) → FunctionKind → Option Region
    → Option Statements → Type 0
BodyAsked tables functions places place region None = Unit {0}
BodyAsked tables functions places place region (Some statements) =
    StatementsAsked tables functions places place (OfFunction (frame_with place region) ∷ [])
    statements
    × StatementsHaveLevels tables 0 statements
    × AllStartsStay (is_main_place place) true statements

abbrev pub FunctionsAsked : Tables → (functions : (binding : ℕ) → Signature)
    → (place_of : (binding : ℕ) → FunctionKind) → List FunctionTree → Type 0
FunctionsAsked tables functions places [] = Unit {0}
FunctionsAsked tables functions places (f ∷ fs) =
    BodyAsked tables functions places (place_by f) (frame_at tables f.name.at 0) f.body
    × (is_main f ≡ false → Opens tables (place_by f) (signature_of f))
    × FunctionsAsked tables functions places fs

-- No function is at the first token of a text, and so none has a frame there.
abbrev pub ProgramAsked : Tables → ProgramTree → Type 0
ProgramAsked tables program =
    let fs = functions_of program.items in
    (frame_at tables no_signature.at 0 ≡ None)
    × FunctionsAsked tables (signature_in tables fs) (place_of tables program) fs
