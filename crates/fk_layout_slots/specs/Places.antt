-- What is taken before a declaration, and the slot that the declaration gets.
use Rattle.std.specs.Prelude.{ℕ, ◌==◌, min, List, [], ◌∷◌, if◌then◌else◌}
use Rattle.fk_syntax.specs.Program.{DeclaredTree}
use Rattle.fk_meaning_forms.specs.declared.tables.Home.TheVariants.{Global, FilePrivate, Private}
use Rattle.fk_meaning_forms.specs.declared.tables.Home.TheVariants.{Group, NoWord}
use Rattle.fk_meaning_forms.specs.declared.tables.Slot.{Slot}
use Rattle.fk_layout_slots.specs.declared.taken.Taken.{Taken}
use Rattle.fk_layout_slots.specs.Told.{Told, words_at, more}
use Rattle.fk_layout_slots.specs.Frames.{last_word}

abbrev pub none_taken : Taken
none_taken = record { privates = 0; words = 0; frames = 0 }

-- what is taken after a frame with this number of words. A frame without words has no number
unfoldable pub behind_frame : Taken → (words : ℕ) → Taken
behind_frame taken words =
    if words == 0 then taken else record taken { frames = more taken.frames 1 }

-- what is taken at the beginning of a frame, and after its end, where `before` is taken before it
unfoldable pub within : Taken → Taken
within taken = record taken { words = 0 }

unfoldable pub outside : (before : Taken) → Taken → Taken
outside before taken = record taken { words = before.words }

-- one more private place is taken
unfoldable pub behind_private : Taken → Taken
behind_private taken = record taken { privates = more taken.privates 1 }

-- the slot of a declaration without a word
abbrev pub no_slot : Slot
no_slot = record { home = NoWord; index = 0 }

abbrev pub no_slots : List DeclaredTree → List Slot
no_slots [] = []
no_slots (x ∷ xs) = no_slot ∷ no_slots xs

-- the slot of a variable or parameter of a function. An `sh` one lies in the group frame with
-- number `frame`
unfoldable pub slot_in : (frame : ℕ) → Taken → DeclaredTree → Slot
slot_in frame taken x =
    if x.shared
    then record { home = Group frame; index = min taken.words last_word }
    else record { home = Private; index = taken.privates }

-- the slot of a variable of file scope
unfoldable pub file_slot : Taken → DeclaredTree → Slot
file_slot taken x =
    if x.shared
    then record { home = Global; index = taken.words }
    else record { home = FilePrivate; index = taken.privates }

module _ (told : Told) where
  unfoldable pub behind_words : Taken → DeclaredTree → Taken
  behind_words taken x = record taken { words = more taken.words (words_at told x.name.at) }

  -- an `sh` variable takes its words, another one takes a private place
  unfoldable pub behind_variable : Taken → DeclaredTree → Taken
  behind_variable taken x = if x.shared then behind_words taken x else behind_private taken

  abbrev pub behind_variables : Taken → List DeclaredTree → Taken
  behind_variables taken [] = taken
  behind_variables taken (x ∷ xs) = behind_variables (behind_variable taken x) xs

  -- a parameter takes a private place; an `sh` one takes its words as well
  unfoldable pub behind_parameter : Taken → DeclaredTree → Taken
  behind_parameter taken x = behind_private (if x.shared then behind_words taken x else taken)

  abbrev pub behind_parameters : Taken → List DeclaredTree → Taken
  behind_parameters taken [] = taken
  behind_parameters taken (x ∷ xs) = behind_parameters (behind_parameter taken x) xs

  -- the slots of variables or parameters that follow each other
  abbrev pub variables_slots : (frame : ℕ) → Taken → List DeclaredTree → List Slot
  variables_slots frame taken [] = []
  variables_slots frame taken (x ∷ xs) =
      slot_in frame taken x ∷ variables_slots frame (behind_variable taken x) xs

  abbrev pub parameters_slots : (frame : ℕ) → Taken → List DeclaredTree → List Slot
  parameters_slots frame taken [] = []
  parameters_slots frame taken (x ∷ xs) =
      slot_in frame taken x ∷ parameters_slots frame (behind_parameter taken x) xs

  abbrev pub file_slots : Taken → List DeclaredTree → List Slot
  file_slots taken [] = []
  file_slots taken (x ∷ xs) = file_slot taken x ∷ file_slots (behind_variable taken x) xs
