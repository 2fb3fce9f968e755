-- Where the words of each declaration of a text lie, in its order, and how much each function
-- takes.
use Rattle.std.specs.Prelude.{ℕ, ◌+◌, min, List, [], ◌∷◌, ◌++◌, map, Option, Some, None}
use Rattle.std.specs.Prelude.{if◌then◌else◌}
use Rattle.fk_syntax.specs.Program as p
use Rattle.fk_syntax.specs.Program.{DeclaredTree, Statement, Statements, FunctionTree, ItemTree}
use Rattle.fk_meaning_forms.specs.declared.tables.Slot.{Slot}
use Rattle.fk_meaning_forms.specs.Program.{functions_of}
use Rattle.fk_layout_slots.specs.declared.tables.Own.{Own}
use Rattle.fk_layout_slots.specs.declared.taken.Taken.{Taken}
use Rattle.fk_layout_slots.specs.Told.{Told, splits_at}
use Rattle.fk_layout_slots.specs.Words.{statement_words, own_words}
use Rattle.fk_layout_slots.specs.Frames.{last_word}
use Rattle.fk_layout_slots.specs.Places.{none_taken, behind_frame, within, outside}
use Rattle.fk_layout_slots.specs.Places.{behind_variables, behind_parameters, no_slot, no_slots}
use Rattle.fk_layout_slots.specs.Places.{variables_slots, parameters_slots, file_slots}

module _ (told : Told) where
  -- what is taken after the frame of a body, and at the beginning of a body that has a frame
  abbrev pub behind_body_frame : Taken → Statement → Taken
  behind_body_frame taken body = behind_frame taken (statement_words told 0 body)

  abbrev pub begun : Taken → Statement → Taken
  begun taken body = within (behind_body_frame taken body)

  -- what is taken at the beginning of the first of two bodies that have frames
  abbrev pub begun_two : Taken → (first second : Statement) → Taken
  begun_two taken first second = begun (behind_body_frame taken first) second

  -- what is taken after a statement. A body with a frame begins with no words taken in it. After it
  -- the words of the frame around it count again
  abbrev mutual
    pub behind : Taken → Statement → Taken
    behind taken (p.Block list) = behind_all taken list
    behind taken (p.Declare variables) = behind_variables told taken variables
    behind taken (p.If spot condition first) =
        if splits_at told spot.at
        then outside taken (behind (begun taken first) first)
        else behind taken first
    behind taken (p.IfElse spot condition first second) =
        if splits_at told spot.at
        then outside taken (behind (within (behind (begun_two taken first second) first)) second)
        else behind (behind taken first) second
    behind taken (p.While spot condition body) =
        if splits_at told spot.at
        then outside taken (behind (begun taken body) body)
        else behind taken body
    behind taken (p.DoWhile spot body condition) =
        if splits_at told spot.at
        then outside taken (behind (begun taken body) body)
        else behind taken body
    behind taken (p.For spot before condition after body) =
        if splits_at told spot.at
        then outside taken (behind (begun taken body) body)
        else behind taken body
    behind taken (p.Start spot count body) = outside taken (behind (begun taken body) body)
    behind taken (p.Fork spot parts part rank body) = outside taken (behind (begun taken body) body)
    behind taken (p.Farm spot body) = behind taken body
    behind taken (p.Seq spot body) = behind taken body
    behind taken statement = taken

    pub behind_all : Taken → Statements → Taken
    behind_all taken p.no_statements = taken
    behind_all taken (p.statement first others) = behind_all (behind taken first) others

  -- the slots in a statement, whose `sh` variables lie in the frame with number `frame`. The number
  -- of a frame is the number of frames before it
  abbrev mutual
    pub slots_in : (frame : ℕ) → Taken → Statement → List Slot
    slots_in frame taken (p.Block list) = all_slots_in frame taken list
    slots_in frame taken (p.Declare variables) = variables_slots told frame taken variables
    slots_in frame taken (p.If spot condition first) =
        if splits_at told spot.at
        then slots_in taken.frames (begun taken first) first
        else slots_in frame taken first
    slots_in frame taken (p.IfElse spot condition first second) =
        if splits_at told spot.at
        then slots_in taken.frames (begun_two taken first second) first
        ++ slots_in (behind_body_frame taken first).frames
        (within (behind (begun_two taken first second) first)) second
        else slots_in frame taken first ++ slots_in frame (behind taken first) second
    slots_in frame taken (p.While spot condition body) =
        if splits_at told spot.at
        then slots_in taken.frames (begun taken body) body
        else slots_in frame taken body
    slots_in frame taken (p.DoWhile spot body condition) =
        if splits_at told spot.at
        then slots_in taken.frames (begun taken body) body
        else slots_in frame taken body
    slots_in frame taken (p.For spot before condition after body) =
        if splits_at told spot.at
        then slots_in taken.frames (begun taken body) body
        else slots_in frame taken body
    slots_in frame taken (p.Start spot count body) = slots_in taken.frames (begun taken body) body
    slots_in frame taken (p.Fork spot parts part rank body) =
        slots_in taken.frames (begun taken body) body
    slots_in frame taken (p.Farm spot body) = slots_in frame taken body
    slots_in frame taken (p.Seq spot body) = slots_in frame taken body
    slots_in frame taken statement = []

    pub all_slots_in : (frame : ℕ) → Taken → Statements → List Slot
    all_slots_in frame taken p.no_statements = []
    all_slots_in frame taken (p.statement first others) =
        slots_in frame taken first ++ all_slots_in frame (behind taken first) others

  -- what is taken at the beginning of a function, whose frame is the next one
  abbrev pub taken_first : (file : Taken) → List DeclaredTree → Statements → Taken
  taken_first file parameters body =
      record (behind_frame file (own_words told parameters body)) { privates = 0; words = 0 }

  -- what is taken at the end of a function
  abbrev pub at_end : (file : Taken) → List DeclaredTree → Statements → Taken
  at_end file parameters body =
      behind_all (behind_parameters told (taken_first file parameters body) parameters) body

  -- what is taken after a function: only the number of frames changes
  abbrev pub behind_body : (file : Taken) → List DeclaredTree → Option Statements → Taken
  behind_body file parameters None = file
  behind_body file parameters (Some body) =
      record file { frames = (at_end file parameters body).frames }

  -- the slots of a function's parameters and variables. The parameters of a header without a body
  -- have no word
  abbrev pub body_slots : (file : Taken) → List DeclaredTree → Option Statements → List Slot
  body_slots file parameters None = no_slots parameters
  body_slots file parameters (Some body) =
      parameters_slots told file.frames (taken_first file parameters body) parameters
      ++ all_slots_in file.frames
      (behind_parameters told (taken_first file parameters body) parameters) body

  abbrev pub behind_item : (file : Taken) → ItemTree → Taken
  behind_item file (p.StructItem name members) = file
  behind_item file (p.VariablesItem variables) = behind_variables told file variables
  behind_item file (p.FunctionItem f) = behind_body file f.parameters f.body

  -- the slots of an item; the name of a function has no word
  abbrev pub item_slots : (file : Taken) → ItemTree → List Slot
  item_slots file (p.StructItem name members) = []
  item_slots file (p.VariablesItem variables) = file_slots told file variables
  item_slots file (p.FunctionItem f) = no_slot ∷ body_slots file f.parameters f.body

  abbrev pub items_slots : (file : Taken) → List ItemTree → List Slot
  items_slots file [] = []
  items_slots file (item ∷ items) =
      item_slots file item ++ items_slots (behind_item file item) items

  -- the slots of a text
  abbrev pub slots_of : List ItemTree → List Slot
  slots_of items = items_slots none_taken items

  -- how much a function takes by itself: its private places, and the words of its own group frame.
  -- If there are too many words, the count is `last_word + 1`
  abbrev pub own_in : List DeclaredTree → Option Statements → Own
  own_in parameters None = record { privates = 0; words = 0 }
  own_in parameters (Some body) = record {
    privates = (at_end none_taken parameters body).privates;
    words = min (own_words told parameters body) (last_word + 1);
  }

  abbrev pub own_of : FunctionTree → Own
  own_of f = own_in f.parameters f.body

  -- how much each function with a body takes
  abbrev pub owns_of : List ItemTree → List Own
  owns_of items = map own_of (functions_of items)
