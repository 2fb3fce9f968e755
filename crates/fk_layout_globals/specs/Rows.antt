-- Where the variables of file scope lie, and their initial values.
use Rattle.std.specs.Prelude.{ℕ, zero, suc, ◌+◌, ◌==◌, ◌&&◌, Bool, true, false, List, [], ◌∷◌, map}
use Rattle.std.specs.Prelude.{flat_map, sum_by, Option, Some, None}
use Rattle.fk_syntax.specs.Tree as t
use Rattle.fk_syntax.specs.Tree.{Tree, BaseType, TypeTree}
use Rattle.fk_syntax.specs.Program.{DeclaredTree, ItemTree}
use Rattle.fk_meaning_forms.specs.Tables.{Tables, kind_at}
use Rattle.fk_layout_globals.specs.Variables.{variables_of}
use Rattle.fk_layout_globals.specs.Constants.{worth}

-- a shared variable: its name, the index of its first word in the shared data, the number of its
-- words, and whether they are shown as signed numbers
pub record Row : Type 0 where
  pub name : List ℕ
  pub first : ℕ
  pub words : ℕ
  pub signed : Bool

-- `unsigned` numbers and pointers, and arrays of these, are shown as unsigned numbers
abbrev pub is_signed_base : BaseType → Bool
is_signed_base t.Unsigned = false
is_signed_base base = true

abbrev pub is_signed : TypeTree → Bool
is_signed type = (type.stars == 0) && is_signed_base type.base

-- a value followed by zeros, `words` in all
abbrev pub begun : (words : ℕ) → (value : ℕ) → List ℕ
begun zero v = []
begun (suc n) v = v ∷ begun n 0

module _ (tables : Tables) where
  abbrev pub words_of : DeclaredTree → ℕ
  words_of variable = (kind_at tables variable.name.at).words

  -- the initial value of a variable, which is 0 if none is written
  abbrev pub worth_or_zero : Option Tree → ℕ
  worth_or_zero None = 0
  worth_or_zero (Some value) = worth tables value

  abbrev pub first_of : DeclaredTree → ℕ
  first_of variable = worth_or_zero variable.first

  -- the initial values of all its words: arrays and structs begin as zeros
  abbrev pub words_at_first : DeclaredTree → List ℕ
  words_at_first variable = begun (words_of variable) (first_of variable)

  -- the row of a variable whose first word is `first`; each row follows those before it
  abbrev pub row_at : (first : ℕ) → DeclaredTree → Row
  row_at first variable = record {
    name = variable.name.bytes;
    first = first;
    words = words_of variable;
    signed = is_signed variable.kind;
  }

  abbrev pub rows_from : (first : ℕ) → List DeclaredTree → List Row
  rows_from first [] = []
  rows_from first (v ∷ vs) = row_at first v ∷ rows_from (first + words_of v) vs

  abbrev pub total_of : List DeclaredTree → ℕ
  total_of variables = sum_by words_of variables

  -- the rows of the shared variables of file scope in a text, the words of all rows, and their
  -- number
  abbrev pub rows : List ItemTree → List Row
  rows items = rows_from 0 (variables_of true items)

  abbrev pub words : List ItemTree → List ℕ
  words items = flat_map words_at_first (variables_of true items)

  abbrev pub total : List ItemTree → ℕ
  total items = total_of (variables_of true items)

  -- the initial values of the private variables of file scope in a text
  abbrev pub firsts : List ItemTree → List ℕ
  firsts items = map first_of (variables_of false items)
