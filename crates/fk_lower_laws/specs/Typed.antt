-- Expressions that have a type, and what else is required of them: of their names, members and
-- calls.
use Rattle.std.specs.Prelude.{◌≡◌, ℕ, Bool, true, false, List, Some, None, is_some}
use Rattle.fk_syntax.specs.declared.place.Spot.{Spot}
use Rattle.fk_syntax.specs.declared.sign.Sign.{Sign}
use Rattle.fk_syntax.specs.declared.sign.Sign.TheVariants as g
use Rattle.fk_syntax.specs.Tree as t
use Rattle.fk_syntax.specs.Tree.{Named, Tree, Links, Trees, Suffixes}
use Rattle.fk_types_structs.specs.declared.types.DataType.{DataType}
use Rattle.fk_types_operators.specs.declared.values.ExpressionType.{ExpressionType}
use Rattle.fk_types_operators.specs.declared.values.ExpressionType.TheVariants.{Stored, Computed}
use Rattle.fk_types_operators.specs.declared.values.ExpressionType.TheVariants.{Nothing}
use Rattle.fk_types_judgments.specs.Term as e
use Rattle.fk_types_judgments.specs.Term.{Term, no_terms, term_of, with_arguments, joined_term}
use Rattle.fk_types_judgments.specs.Names.{Env}
use Rattle.fk_types_judgments.specs.Typing.{type_of, struct_of_root, left_of}
use Rattle.fk_meaning_forms.specs.Tables.{Tables, is_void}
use Rattle.fk_meaning_forms.specs.Expressions.{Signature, token}
use Rattle.fk_core_liveness.specs.declared.places.FunctionKind.{FunctionKind}
use Rattle.fk_lockstep_frames.specs.Nests.{Nest}
use Rattle.fk_core_typing.specs.declared.constants.Constant.{Constant as Address}
use Rattle.fk_core_typing.specs.AddressValues.{is_address}
use Rattle.fk_lower_laws.specs.Ways.{Way, Valued, Absent, Unchecked, Constant, Array, Word}
use Rattle.fk_lower_laws.specs.Ways.{behind_member, named_way, called_way, dotted_way, way}
use Rattle.fk_lower_laws.specs.Asked.{CallAsks, NameAsks, Asked}

abbrev pub IsNothing : ExpressionType → Bool
IsNothing Nothing = true
IsNothing type = false

-- The address of a private word isn't taken.
abbrev pub IsNoWord : Way → Type 0
IsNoWord Word = ⊥
IsNoWord w = Unit {0}

abbrev pub PrefixIs : Sign → Way → Type 0
PrefixIs g.Ampersand w = IsNoWord w
PrefixIs sign w = Unit {0}

-- For a condition of room for what is stored at a known address.
module _ (Room : Address → DataType → Type 0) where
  -- An expression of a type is in such a way. What is in a private word is no array and no struct.
  abbrev pub IsWayOf : Way → ExpressionType → Type 0
  IsWayOf Valued (Computed value) = Unit {0}
  IsWayOf Absent Nothing = Unit {0}
  IsWayOf Unchecked (Stored type) = Unit {0}
  IsWayOf (Constant address) (Stored type) = Room address type
  IsWayOf Array (Stored type) = is_some type.length ≡ true
  IsWayOf Word (Stored type) = (is_some type.length ≡ false)
      × (struct_of_root type.root type.stars ≡ None)
  IsWayOf w type = ⊥

  module _ (env : Env) (tables : Tables) (functions : (binding : ℕ) → Signature)
      (place_of : (binding : ℕ) → FunctionKind) (nests : List Nest) where
    -- A name is as its type says, and has what is asked of it.
    abbrev pub NameIs : Named → Type 0
    NameIs name =
        (type : ExpressionType) → type_of env (e.Use name) ≡ Some type
        → NameAsks tables functions place_of nests name.at (named_way tables place_of name)
        × IsWayOf (named_way tables place_of name) type

    -- A type is noted at the token of what a comma drops, which is no struct.
    abbrev pub CommaIs : Sign → Term → (at : ℕ) → Type 0
    CommaIs g.Comma before at =
        (type : ExpressionType) → type_of env before ≡ Some type → is_some (left_of type) ≡ true
        → is_void tables at ≡ IsNothing type
    CommaIs sign before at = Unit {0}

    -- A member has room if its struct has.
    abbrev pub MemberIs : Spot → Term → Named → Type 0
    MemberIs spot before name =
        (address : Address) (type member : DataType) → type_of env before ≡ Some (Stored type)
        → type_of env (e.Member spot before name) ≡ Some (Stored member)
        → Room address type → Room (behind_member tables place_of name.at address) member

    abbrev mutual
      pub Known : Tree → Type 0
      Known (t.Variable name) = NameIs name
      Known (t.Prefix spot sign operand) = Known operand
          × PrefixIs sign (way tables place_of operand)
      Known (t.Cast spot type operand) = Known operand
      Known (t.Chain first links) = Known first × LinksKnown (term_of first) (token first) links
      Known (t.Postfix whole suffixes) = Known whole
          × SuffixesKnown (Asked tables functions place_of nests whole) (term_of whole)
          (way tables place_of whole) suffixes
      Known (t.Assign spot sign target value) = Known target × Known value
      Known (t.Choose spot condition first second) = Known condition × Known first × Known second
      Known x = Unit {0}

      pub LinksKnown : Term → (at : ℕ) → Links → Type 0
      LinksKnown before at t.no_links = Unit {0}
      LinksKnown before at (t.link spot sign right others) =
          Known right × CommaIs sign before at
          × LinksKnown (joined_term spot sign before (term_of right)) spot.at others

      -- A call that has a type is one of a function, of which `before_asked` is asked before.
      pub SuffixesKnown : (before_asked : Type 0) → Term → Way → Suffixes → Type 0
      SuffixesKnown A before w t.no_suffixes = Unit {0}
      SuffixesKnown A before w (t.index spot by others) = Known by
          × SuffixesKnown A (e.Index spot before (term_of by)) Unchecked others
      SuffixesKnown A before w (t.call spot given others) =
          AllKnown given
          × ((type : ExpressionType)
          → type_of env (e.Call spot before (with_arguments no_terms given)) ≡ Some type
          → A × CallAsks tables functions place_of nests w given
          × IsWayOf (called_way tables place_of w) type)
          × SuffixesKnown A (e.Call spot before (with_arguments no_terms given))
          (called_way tables place_of w) others
      SuffixesKnown A before w (t.dot spot name others) =
          MemberIs spot before name × SuffixesKnown A (e.Member spot before name)
          (dotted_way tables place_of name.at w) others
      SuffixesKnown A before w (t.arrow spot name others) =
          SuffixesKnown A (e.Through spot before name) Unchecked others
      SuffixesKnown A before w (t.up spot others) =
          SuffixesKnown A (e.Count spot false before) Valued others
      SuffixesKnown A before w (t.down spot others) =
          SuffixesKnown A (e.Count spot false before) Valued others

      pub AllKnown : Trees → Type 0
      AllKnown t.no_trees = Unit {0}
      AllKnown (t.tree first others) = Known first × AllKnown others

-- An expression that has a type is as well typed code asks, and is as its type says.
abbrev pub TypedIsAsked : Type 0
TypedIsAsked =
    (nests : List Nest) (has_room : Address → DataType → Bool)
    → ((address : Address) (type : DataType) → has_room address type ≡ true
    → is_address true nests (Some address) ≡ true)
    → (env : Env) (tables : Tables) (functions : (binding : ℕ) → Signature)
    (place_of : (binding : ℕ) → FunctionKind) (x : Tree)
    → Known (λ address type. has_room address type ≡ true) env tables functions place_of nests x
    → (type : ExpressionType) → type_of env (term_of x) ≡ Some type
    → Asked tables functions place_of nests x
    × IsWayOf (λ address type'. has_room address type' ≡ true) (way tables place_of x) type
