-- The group frames of a text that have words, in the order of their tokens. A frame comes before
-- those inside it, and the two frames of an `if` come before those inside either.
use Rattle.std.specs.Prelude.{ℕ, ◌+◌, ◌==◌, min, List, [], ◌∷◌, ◌++◌, Option, Some, None}
use Rattle.std.specs.Prelude.{if◌then◌else◌}
use Rattle.fk_syntax.specs.Program as p
use Rattle.fk_syntax.specs.Program.{DeclaredTree, Statement, Statements, FunctionTree, ItemTree}
use Rattle.fk_meaning_forms.specs.declared.tables.Region.{Region}
use Rattle.fk_layout_slots.specs.Told.{Told, splits_at, more}
use Rattle.fk_layout_slots.specs.Words.{statement_words, own_words}

-- the greatest index of a word in a group frame
abbrev pub last_word : ℕ
last_word = 1048576

-- the frame of a part of a token, if it has words. If it has too many, the count is `last_word + 1`
abbrev pub frame : (at part level words : ℕ) → List Region
frame at part level words =
    if words == 0 then []
    else record { at = at; part = part; level = level; words = min words (last_word + 1) } ∷ []

-- the nesting level of a body inside a level
abbrev pub deeper : (level : ℕ) → ℕ
deeper level = more level 1

module _ (told : Told) where
  -- the frame of a body
  abbrev pub body_frame : (at part level : ℕ) → Statement → List Region
  body_frame at part level body = frame at part level (statement_words told 0 body)

  -- the frames that begin in a statement at this nesting level of a function
  abbrev mutual
    pub frames_in : (level : ℕ) → Statement → List Region
    frames_in level (p.Block list) = all_frames_in level list
    frames_in level (p.If spot condition first) =
        if splits_at told spot.at
        then body_frame spot.at 0 (deeper level) first ++ frames_in (deeper level) first
        else frames_in level first
    frames_in level (p.IfElse spot condition first second) =
        if splits_at told spot.at
        then body_frame spot.at 0 (deeper level) first ++ body_frame spot.at 1 (deeper level) second
        ++ frames_in (deeper level) first ++ frames_in (deeper level) second
        else frames_in level first ++ frames_in level second
    frames_in level (p.While spot condition body) =
        if splits_at told spot.at
        then body_frame spot.at 0 (deeper level) body ++ frames_in (deeper level) body
        else frames_in level body
    frames_in level (p.DoWhile spot body condition) =
        if splits_at told spot.at
        then body_frame spot.at 0 (deeper level) body ++ frames_in (deeper level) body
        else frames_in level body
    frames_in level (p.For spot before condition after body) =
        if splits_at told spot.at
        then body_frame spot.at 0 (deeper level) body ++ frames_in (deeper level) body
        else frames_in level body
    frames_in level (p.Start spot count body) =
        body_frame spot.at 0 (deeper level) body ++ frames_in (deeper level) body
    frames_in level (p.Fork spot parts part rank body) =
        body_frame spot.at 0 (deeper level) body ++ frames_in (deeper level) body
    frames_in level (p.Farm spot body) = frames_in (deeper level) body
    frames_in level (p.Seq spot body) = frames_in (deeper level) body
    frames_in level statement = []

    pub all_frames_in : (level : ℕ) → Statements → List Region
    all_frames_in level p.no_statements = []
    all_frames_in level (p.statement first others) =
        frames_in level first ++ all_frames_in level others

  -- the frames of a function with this body: its own one, and those inside it
  abbrev pub body_frames : (at : ℕ) → List DeclaredTree → Option Statements → List Region
  body_frames at parameters None = []
  body_frames at parameters (Some body) =
      frame at 0 0 (own_words told parameters body) ++ all_frames_in 0 body

  abbrev pub item_frames : ItemTree → List Region
  item_frames (p.StructItem name members) = []
  item_frames (p.VariablesItem variables) = []
  item_frames (p.FunctionItem f) = body_frames f.name.at f.parameters f.body

  -- the frames of a text
  abbrev pub regions_of : List ItemTree → List Region
  regions_of [] = []
  regions_of (item ∷ items) = item_frames item ++ regions_of items
