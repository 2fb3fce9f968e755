-- What the layout looks up in the facts of a program: the number of words of a declaration, and
-- where groups split.
use Rattle.std.specs.Prelude.{ℕ, ◌+◌, ◌-◌, ◌^◌, min, Bool, List}
use Rattle.fk_syntax.specs.declared.facts.Note.{Note}
use Rattle.fk_syntax.specs.declared.facts.Kind.{Kind}
use Rattle.fk_meaning_forms.specs.Tables.{nth, no_note, no_kind}

-- a note for each token, and the types
pub record Told : Type 0 where
  pub notes : List Note
  pub kinds : List Kind

abbrev pub note_at : Told → (at : ℕ) → Note
note_at told at = nth no_note told.notes at

-- the number of words of the variable that the name at a token declares
abbrev pub words_at : Told → (at : ℕ) → ℕ
words_at told at = (nth no_kind told.kinds (note_at told at).kind).words

-- whether a group splits at the statement of a token
abbrev pub splits_at : Told → (at : ℕ) → Bool
splits_at told at = (note_at told at).splits

-- a count has 32 bits, and stays at the greatest number when it gets there
abbrev pub more : (count by : ℕ) → ℕ
more count by = min (count + by) (2 ^ 32 - 1)
