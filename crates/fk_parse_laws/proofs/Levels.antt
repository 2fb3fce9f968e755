-- The group frames of a text are on few levels: a frame of a body is not deeper than the tokens before the body.
use Rattle.std.proofs.Common.{ℕ, zero, suc, ◌+◌, ◌<◌, ◌≤◌, Bool, true, false, List, [], ◌∷◌, ◌++◌, Option, Some, None, arith}
use Rattle.std.specs.Prelude.{◌==◌, All, if◌then◌else◌}
use Rattle.std.proofs.lemmas.List.Elements.{All-nil, All-cons}
use Rattle.fk_syntax.specs.Program.{DeclaredTree, Statement, Statements, ItemTree, statements_of}
use Rattle.fk_parse_combinators.specs.declared.limits.TheConstants.{LEVELS}
use Rattle.fk_parse_combinators.specs.Languages.{Language}
use Rattle.fk_parse_statements.specs.Statements.{block, if_statement, while_statement, do_statement, for_statement, start_statement, fork_statement, statement, statement_within}
use Rattle.fk_parse.specs.Items.{body, function_item, item}
use Rattle.fk_meaning_forms.specs.declared.tables.Region.{Region}
use Rattle.fk_layout_slots.specs.Told.{Told, splits_at}
use Rattle.fk_layout_slots.specs.Words.{statement_words, own_words}
use Rattle.fk_layout_slots.specs.Frames.{frame, deeper, body_frame, frames_in, all_frames_in, body_frames, item_frames, regions_of}
use Rattle.fk_parse_laws.specs.Every.{Always}
use Rattle.fk_parse_laws.specs.Levels.{TextsAreShallow}
use Rattle.fk_parse_laws.proofs.Holding.{Holds, always, of_nothing, of_making, of_then, of_or, Each, of_many, of_level}
use Rattle.fk_parse_laws.proofs.Bodies.{accepted_holds, not_before_holds}
use Rattle.fk_parse_laws.proofs.WordsInPrograms.{items_good}

-- ---- frames on low levels

abbrev IsLow : Region → Type 0
IsLow r = r.level ≤ LEVELS

abbrev Low : List Region → Type 0
Low rs = Each IsLow rs

low_both : (xs ys : List Region) → Low xs → Low ys → Low (xs ++ ys)
low_both [] ys h k = k
low_both (x ∷ xs) ys h k = (h.0, low_both xs ys h.1 k)

low_or : (b : Bool) (xs ys : List Region) → Low xs → Low ys → Low (if b then xs else ys)
low_or true xs ys h k = h
low_or false xs ys h k = k

frame_low : (at part level words : ℕ) → level ≤ LEVELS → Low (frame at part level words)
frame_low at part level words low = low_or (words == 0) [] _ tt (low, tt)

-- from so many levels on, where the levels of tokens are below `l`
abbrev Shallow : (l : ℕ) → Statement → Type 0
Shallow l x = (told : Told) (level : ℕ) → level < l → Low (frames_in told level x)

abbrev AllShallow : (l : ℕ) → Statements → Type 0
AllShallow l xs = (told : Told) (level : ℕ) → level < l → Low (all_frames_in told level xs)

module _ (told : Told) (at level l : ℕ) (top : l ≤ LEVELS) (inside : level < l) where
  deeper_low : deeper level ≤ LEVELS
  deeper_low = omega (arith, top, inside)

  -- the frame of a body, and those inside it
  one_low : (part : ℕ) (x : Statement) → Low (body_frame told at part (deeper level) x)
  one_low part x = frame_low at part (deeper level) (statement_words told 0 x) deeper_low

  inner_low : (x : Statement) → Shallow (l + 1) x → Low (frames_in told (deeper level) x)
  inner_low x h = h told (deeper level) (omega (arith, inside))

  part_low : (x : Statement) → Shallow (l + 1) x → Low (body_frame told at 0 (deeper level) x ++ frames_in told (deeper level) x)
  part_low x h = low_both _ _ (one_low 0 x) (inner_low x h)

  here_low : (x : Statement) → Shallow (l + 1) x → Low (frames_in told level x)
  here_low x h = h told level (omega (arith, inside))

  split_low : (x : Statement) → Shallow (l + 1) x
      → Low (if splits_at told at then body_frame told at 0 (deeper level) x ++ frames_in told (deeper level) x else frames_in told level x)
  split_low x h = low_or (splits_at told at) _ _ (part_low x h) (here_low x h)

  two_low : (x y : Statement) → Shallow (l + 1) x → Shallow (l + 1) y
      → Low (if splits_at told at
      then body_frame told at 0 (deeper level) x ++ body_frame told at 1 (deeper level) y ++ frames_in told (deeper level) x ++ frames_in told (deeper level) y
      else frames_in told level x ++ frames_in told level y)
  two_low x y h k =
      low_or (splits_at told at) _ _
      (low_both _ _ (low_both _ _ (low_both _ _ (one_low 0 x) (one_low 1 y)) (inner_low x h)) (inner_low y k))
      (low_both _ _ (here_low x h) (here_low y k))

-- ---- statements

all_shallow : (l : ℕ) (xs : List Statement) → Each (Shallow l) xs → AllShallow l (statements_of xs)
all_shallow l [] h told level inside = tt
all_shallow l (x ∷ xs) h told level inside = low_both _ _ (h.0 told level inside) (all_shallow l xs h.1 told level inside)

module _ (bound : ℕ) (S : ℕ → Language Statement) (inner : (l : ℕ) → Holds (S l) (Shallow l)) where
  block_shallow : (l : ℕ) → Holds (block S l) (AllShallow (l + 1))
  block_shallow l = of_making _ (of_then always (of_then (of_many (inner (l + 1))) always)) (λ x h. all_shallow (l + 1) x.1.0 h.1.0)

  if_shallow : (l : ℕ) → Holds (if_statement bound S l) (Shallow l)
  if_shallow l =
      of_or (of_making _ (of_then of_level (of_then always (inner (l + 1)))) (λ x h told level inside. split_low told x.0.at level l h.0 inside x.1.1 h.1.1))
      (of_making _ (of_then of_level (of_then always (of_then (accepted_holds (inner (l + 1))) (of_then always (inner (l + 1))))))
      (λ x h told level inside. two_low told x.0.at level l h.0 inside x.1.1.0 x.1.1.1.1 h.1.1.0 h.1.1.1.1))

  while_shallow : (l : ℕ) → Holds (while_statement bound S l) (Shallow l)
  while_shallow l = of_making _ (of_then of_level (of_then always (inner (l + 1)))) (λ x h told level inside. split_low told x.0.at level l h.0 inside x.1.1 h.1.1)

  do_shallow : (l : ℕ) → Holds (do_statement bound S l) (Shallow l)
  do_shallow l = of_making _ (of_then of_level (of_then (inner (l + 1)) always)) (λ x h told level inside. split_low told x.0.at level l h.0 inside x.1.0 h.1.0)

  for_shallow : (l : ℕ) → Holds (for_statement bound S l) (Shallow l)
  for_shallow l =
      of_making _ (of_then of_level (of_then always (of_then always (of_then always (of_then always (of_then always (of_then always (of_then always (inner (l + 1))))))))))
      (λ x h told level inside. split_low told x.0.at level l h.0 inside x.1.1.1.1.1.1.1.1 h.1.1.1.1.1.1.1.1)

  start_shallow : (l : ℕ) → Holds (start_statement bound S l) (Shallow l)
  start_shallow l =
      of_or (of_making _ (of_then of_level (of_then always (inner (l + 1)))) (λ x h told level inside. part_low told x.0.at level l h.0 inside x.1.1 h.1.1))
      (of_making _ (of_then of_level (not_before_holds (inner (l + 1)))) (λ x h told level inside. part_low told x.0.at level l h.0 inside x.1 h.1))

  fork_shallow : (l : ℕ) → Holds (fork_statement bound S l) (Shallow l)
  fork_shallow l =
      of_making _ (of_then of_level (of_then always (of_then always (of_then always (of_then always (of_then always (of_then always (of_then always (of_then always (inner (l + 1)))))))))))
      (λ x h told level inside. part_low told x.0.at level l h.0 inside x.1.1.1.1.1.1.1.1.1 h.1.1.1.1.1.1.1.1.1)

  -- in `farm` and `seq`
  alone_shallow : (l : ℕ) (x : Statement) → l ≤ LEVELS → Shallow (l + 1) x → (told : Told) (level : ℕ) → level < l → Low (frames_in told (deeper level) x)
  alone_shallow l x top h told level inside = inner_low told 0 level l top inside x h

  statement_shallow : (l : ℕ) → Holds (statement bound S l) (Shallow l)
  statement_shallow l =
      of_or (of_making _ (block_shallow l) (λ x h told level inside. h told level (omega (arith, inside))))
      (of_or (of_making Always always (λ x h told level inside. tt))
      (of_or (of_making Always always (λ x h told level inside. tt))
      (of_or (if_shallow l)
      (of_or (while_shallow l)
      (of_or (do_shallow l)
      (of_or (for_shallow l)
      (of_or (start_shallow l)
      (of_or (of_making _ (of_then of_level (inner (l + 1))) (λ x h. alone_shallow l x.1 h.0 h.1))
      (of_or (of_making _ (of_then of_level (inner (l + 1))) (λ x h. alone_shallow l x.1 h.0 h.1))
      (of_or (fork_shallow l)
      (of_or (of_making Always always (λ x h told level inside. tt))
      (of_or (of_making Always always (λ x h told level inside. tt))
      (of_or (of_making Always always (λ x h told level inside. tt))
      (of_or (of_making Always always (λ x h told level inside. tt))
      (of_making Always always (λ x h told level inside. tt))))))))))))))))

within_shallow : (bound l : ℕ) → Holds (statement_within bound l) (Shallow l)
within_shallow zero l = of_nothing
within_shallow (suc bound) l = statement_shallow bound (statement_within bound) (within_shallow bound) l

-- ---- texts

abbrev BodyShallow : Option Statements → Type 0
BodyShallow None = Unit {0}
BodyShallow (Some xs) = AllShallow 2 xs

body_shallow : (bound : ℕ) → Holds (body bound) BodyShallow
body_shallow bound = of_or (of_making Always always (λ x h. tt)) (of_making _ (block_shallow bound (statement_within bound) (within_shallow bound) 1) (λ x h. h))

body_frames_low : (told : Told) (at : ℕ) (parameters : List DeclaredTree) (o : Option Statements) → BodyShallow o → Low (body_frames told at parameters o)
body_frames_low told at parameters None h = tt
body_frames_low told at parameters (Some xs) h = low_both _ _ (frame_low at 0 0 (own_words told parameters xs) (omega arith)) (h told 0 (omega arith))

abbrev ItemShallow : ItemTree → Type 0
ItemShallow x = (told : Told) → Low (item_frames told x)

function_shallow : (bound : ℕ) → Holds (function_item bound) ItemShallow
function_shallow bound =
    of_making _ (of_then always (of_then always (of_then always (of_then always (of_then always (of_then always (of_then always (body_shallow bound))))))))
    (λ x h told. body_frames_low told x.1.1.1.0.at x.1.1.1.1.1.0 x.1.1.1.1.1.1.1 h.1.1.1.1.1.1.1)

item_shallow : (bound : ℕ) → Holds (item bound) ItemShallow
item_shallow bound = of_or (of_making Always always (λ x h told. tt)) (of_or (of_making Always always (λ x h told. tt)) (function_shallow bound))

items_low : (told : Told) (xs : List ItemTree) → Each ItemShallow xs → Low (regions_of told xs)
items_low told [] h = tt
items_low told (x ∷ xs) h = low_both _ _ (h.0 told) (items_low told xs h.1)

all_low : (rs : List Region) → Low rs → All IsLow rs
all_low [] h = All-nil IsLow
all_low (r ∷ rs) h = All-cons IsLow r rs h.0 (all_low rs h.1)

-- the frames of a program are on few levels
pub texts_are_shallow : TextsAreShallow
texts_are_shallow source tokens program lexed spelled told =
    let items = spelled.items in
    all_low (regions_of told program.items)
    (items_low told program.items ((of_many (item_shallow items.spelled.0)).holds items.stretch program.items items.spelled.1 (items_good source tokens program.items lexed items)))
