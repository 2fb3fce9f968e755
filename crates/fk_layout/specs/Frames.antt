-- The number of words of the frames of a text's functions, and the first frame that has too many.
use Rattle.std.specs.Prelude.{ℕ, ◌+◌, ◌-◌, ◌*◌, ◌^◌, min, max, nat_lt, false, List, [], ◌∷◌, length}
use Rattle.std.specs.Prelude.{map, Option, Some, None, if◌then◌else◌}
use denote.Ref.{Bor}
use Rattle.fk_syntax.specs.declared.place.Place.{Place}
use Rattle.fk_syntax.specs.declared.program.Function.{Function}
use Rattle.fk_syntax.specs.Program.{FunctionTree, ItemTree}
use Rattle.fk_syntax.specs.ProgramView.{function_of}
use Rattle.fk_meaning_forms.specs.declared.tables.FrameSize.{FrameSize}
use Rattle.fk_meaning_forms.specs.Tables.{Tables}
use Rattle.fk_meaning_forms.specs.Program.{functions_of, is_main, code_of, signature_in}
use Rattle.fk_layout_slots.specs.Told.{Told}
use Rattle.fk_layout_slots.specs.Slots.{own_of}
use Rattle.fk_layout_globals.specs.Variables.{variables_of}
use Rattle.fk_layout_sizes.specs.Places.{At, places, beginning, most_values, deepest, filling}

-- the notes and types among the tables of a program
abbrev pub told_in : Tables → Told
told_in tables = record { notes = tables.notes; kinds = tables.kinds }

-- the number of private variables of file scope in a text
abbrev pub file_privates : List ItemTree → ℕ
file_privates items = length (variables_of false items)

module _ (tables : Tables) (items : List ItemTree) where
  -- the places of a function's code, the greatest number of values of its call, and its deepest
  -- nesting
  abbrev pub places_of : FunctionTree → List At
  places_of f = places (signature_in tables (functions_of items)) beginning
      (code_of tables (functions_of items) f)

  abbrev pub values_of : FunctionTree → ℕ
  values_of f = max (filling f.parameters) (most_values (places_of f))

  abbrev pub nesting_of : FunctionTree → ℕ
  nesting_of f = deepest (places_of f)

  -- the number of its private places. The private variables of file scope are among those of `main`
  abbrev pub privates_of : FunctionTree → ℕ
  privates_of f =
      (own_of (told_in tables) f).privates + (if is_main f then file_privates items else 0)

  -- the words of its private frame: 8, one for each private place, the greatest number of values of
  -- its call, and 4 for each part around its deepest place
  abbrev pub private_words : FunctionTree → ℕ
  private_words f = 8 + privates_of f + values_of f + 4 * nesting_of f

  abbrev pub frame_of : FunctionTree → FrameSize
  frame_of f = record { private = private_words f; shared = (own_of (told_in tables) f).words }

  -- the frames of all functions with a body, in the order of the text
  abbrev pub frame_sizes : List FrameSize
  frame_sizes = map frame_of (functions_of items)

  -- the first function that needs more than 64 private words: the place of its name, and the number
  -- of these words, at most 2^32 - 1
  abbrev pub first_large_in : List FunctionTree → Option (Place × ℕ)
  first_large_in [] = None
  first_large_in (f ∷ fs) =
      if nat_lt 64 (private_words f) then Some (f.name.place, min (private_words f) (2 ^ 32 - 1))
      else first_large_in fs

  abbrev pub first_large : Option (Place × ℕ)
  first_large = first_large_in (functions_of items)

-- the functions that the code lists, in the form of the definitions
abbrev pub functions_behind : List (Bor Function) → List FunctionTree
functions_behind functions = map (λ f. function_of f.now) functions
