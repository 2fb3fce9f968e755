-- Where the result of an expression is when its operations are done, told of its tree.
use Rattle.std.specs.Prelude.{ℕ, ◌+◌, ◌*◌, ◌/◌, ◌==◌, Bool, true, false, codes, if◌then◌else◌}
use Rattle.fk_num.specs.Word.{word}
use Rattle.fk_num.specs.Op.{applied}
use Rattle.fk_num.specs.declared.operator.Op.TheVariants as f
use Rattle.fk_syntax.specs.declared.sign.Sign.{Sign}
use Rattle.fk_syntax.specs.declared.sign.Sign.TheVariants as g
use Rattle.fk_syntax.specs.Tree as t
use Rattle.fk_syntax.specs.Tree.{Named, Tree, Links, Suffixes}
use Rattle.fk_meaning_forms.specs.declared.tables.Home.{Home}
use Rattle.fk_meaning_forms.specs.declared.tables.Home.TheVariants as h
use Rattle.fk_meaning_forms.specs.Tables.{Tables, no_binding, note, slot, region}
use Rattle.fk_meaning_forms.specs.Expressions.{is_name}
use Rattle.fk_lockstep_structure.specs.Valued.{predeclared_gives}
use Rattle.fk_core_typing.specs.declared.constants.Constant.{Constant as Address}
use Rattle.fk_core_typing.specs.declared.constants.Constant.TheVariants.{Number, FrameWord}
use Rattle.fk_core_liveness.specs.declared.places.FunctionKind.{FunctionKind}
use Rattle.fk_core_liveness.specs.declared.places.FunctionKind.TheVariants.{Main, Called}

pub data Way : Type 0 where
  -- It has a value, or none.
  Valued : Way
  Absent : Way
  -- It is at an address that is checked before it is used; at a known address, which needs no
  -- check: a constant, or that of a word of a group frame; or at the address of an array, which is
  -- its value.
  Unchecked : Way
  Constant : (address : Address) → Way
  Array : Way
  -- It is in a private word, or is the name of a function.
  Word : Way
  Function : (name : Named) → Way

-- Whether an expression has a value.
abbrev pub gives : Way → Bool
gives Absent = false
gives (Function name) = false
gives way = true

abbrev pub result : (gives : Bool) → Way
result true = Valued
result false = Absent

abbrev pub place_gives : FunctionKind → Bool
place_gives Main = false
place_gives (Called gives) = gives

-- The ways of predeclared names.
abbrev pub predeclared_way : Named → Way
predeclared_way name =
    if is_name name (codes "__PROC_NR__") then Valued
    else if is_name name (codes "__STARTED_PROCS__") then Valued
    else if is_name name (codes "__inputs") then Valued
    else if is_name name (codes "__input") then Array
    else Function name

-- A dereference is at its address. What other signs give is a value.
abbrev pub prefix_way : Sign → Way
prefix_way g.Star = Unchecked
prefix_way sign = Valued

-- A chain is what its last sign makes of the right operand.
abbrev pub joined_way : Sign → (right : Way) → Way
joined_way g.Comma right = result (gives right)
joined_way sign right = Valued

-- The ways of variables by their homes.
abbrev pub placed_way : Tables → Home → (index : ℕ) → Named → Way
placed_way tables h.Global i name = Constant (Number (word (0x10000000 + 4 * i)))
placed_way tables h.FilePrivate i name = Word
placed_way tables h.Private i name = Word
placed_way tables (h.Group r) i name = Constant (FrameWord (region tables r).level i)
placed_way tables h.NoWord i name = Function name

module _ (tables : Tables) (place_of : (binding : ℕ) → FunctionKind) where
  abbrev pub named_way : Named → Way
  named_way name =
      let b = (note tables name.at).binding in
      if b == no_binding then predeclared_way name
      else placed_way tables (slot tables b).home (slot tables b).index name

  abbrev pub call_gives : Named → Bool
  call_gives name =
      let b = (note tables name.at).binding in
      if b == no_binding then predeclared_gives name else place_gives (place_of b)

  abbrev pub called_way : Way → Way
  called_way (Function name) = result (call_gives name)
  called_way way = Absent

  -- A member comes after the beginning of its struct by as many words as the note of its name says.
  abbrev pub behind_member : (at : ℕ) → Address → Address
  behind_member at (Number address) =
      Number (applied f.Add address (word (4 * (note tables at).binding)))
  behind_member at (FrameWord nesting first) =
      FrameWord nesting (first + word (4 * (note tables at).binding) / 4)

  abbrev pub dotted_way : (at : ℕ) → Way → Way
  dotted_way at (Constant address) = Constant (behind_member at address)
  dotted_way at way = Unchecked

  abbrev mutual
    pub way : Tree → Way
    way (t.Puts spot text) = Absent
    way (t.Variable name) = named_way name
    way (t.Prefix spot sign operand) = prefix_way sign
    way (t.Chain first links) = chain_way (way first) links
    way (t.Postfix whole suffixes) = suffixed_way (way whole) suffixes
    way (t.Choose spot condition first second) = result (gives (way first))
    way e = Valued

    pub chain_way : Way → Links → Way
    chain_way w t.no_links = w
    chain_way w (t.link spot sign right others) = chain_way (joined_way sign (way right)) others

    pub suffixed_way : Way → Suffixes → Way
    suffixed_way w t.no_suffixes = w
    suffixed_way w (t.index spot by others) = suffixed_way Unchecked others
    suffixed_way w (t.call spot arguments others) = suffixed_way (called_way w) others
    suffixed_way w (t.dot spot name others) = suffixed_way (dotted_way name.at w) others
    suffixed_way w (t.arrow spot name others) = suffixed_way Unchecked others
    suffixed_way w (t.up spot others) = suffixed_way Valued others
    suffixed_way w (t.down spot others) = suffixed_way Valued others
