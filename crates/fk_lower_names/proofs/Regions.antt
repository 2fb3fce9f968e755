-- The group frames of a text have at most 2^20 + 1 words.
use Rattle.std.proofs.Common.{ℕ, ◌^◌, ◌<◌, Bool, true, false, List, [], ◌∷◌, ◌++◌, Option, Some, None, arith}
use Rattle.std.specs.Prelude.{◌==◌, if◌then◌else◌}
use Rattle.fk_syntax.specs.Program as p
use Rattle.fk_syntax.specs.Program.{Statement, Statements, ItemTree}
use Rattle.fk_meaning_forms.specs.declared.tables.Region.{Region}
use Rattle.fk_layout_slots.specs.Told.{Told, splits_at}
use Rattle.fk_layout_slots.specs.Words.{statement_words, own_words}
use Rattle.fk_layout_slots.specs.Frames.{frame, deeper, body_frame, frames_in, all_frames_in, body_frames, regions_of}
use Rattle.fk_check_laws.proofs.Each.{Each}

abbrev pub IsLow : Region → Type 0
IsLow r = r.words < 2 ^ 21

abbrev Low : List Region → Type 0
Low rs = Each IsLow rs

pub join : {X : Type 0} (P : X → Type 0) (xs ys : List X) → Each P xs → Each P ys → Each P (xs ++ ys)
join P [] ys h k = k
join P (x ∷ xs) ys h k = (h.0, join P xs ys h.1 k)

both : (xs ys : List Region) → Low xs → Low ys → Low (xs ++ ys)
both xs ys h k = join IsLow xs ys h k

either : (b : Bool) (xs ys : List Region) → Low xs → Low ys → Low (if b then xs else ys)
either true xs ys h k = h
either false xs ys h k = k

frame_low : (at part level words : ℕ) → Low (frame at part level words)
frame_low at part level words = either (words == 0) [] _ tt (omega arith, tt)

module _ (told : Told) where
  -- a body with its frame
  framed : (at level : ℕ) (x : Statement) → Low (frames_in told (deeper level) x) → Low (body_frame told at 0 (deeper level) x ++ frames_in told (deeper level) x)
  framed at level x h = both _ _ (frame_low at 0 (deeper level) (statement_words told 0 x)) h

  mutual
    low : (level : ℕ) (x : Statement) → Low (frames_in told level x)
    low level p.Empty = tt
    low level (p.Expression value) = tt
    low level (p.Block list) = all_low level list
    low level (p.Declare variables) = tt
    low level (p.If spot condition first) = either (splits_at told spot.at) _ _ (framed spot.at level first (low (deeper level) first)) (low level first)
    low level (p.IfElse spot condition first second) = either (splits_at told spot.at) _ _
        (both _ _ (both _ _ (both _ _ (frame_low spot.at 0 (deeper level) (statement_words told 0 first)) (frame_low spot.at 1 (deeper level) (statement_words told 0 second))) (low (deeper level) first)) (low (deeper level) second))
        (both _ _ (low level first) (low level second))
    low level (p.While spot condition body) = either (splits_at told spot.at) _ _ (framed spot.at level body (low (deeper level) body)) (low level body)
    low level (p.DoWhile spot body condition) = either (splits_at told spot.at) _ _ (framed spot.at level body (low (deeper level) body)) (low level body)
    low level (p.For spot before condition after body) = either (splits_at told spot.at) _ _ (framed spot.at level body (low (deeper level) body)) (low level body)
    low level (p.Start spot count body) = framed spot.at level body (low (deeper level) body)
    low level (p.Fork spot parts part rank body) = framed spot.at level body (low (deeper level) body)
    low level (p.Farm spot body) = low (deeper level) body
    low level (p.Seq spot body) = low (deeper level) body
    low level (p.Barrier spot) = tt
    low level (p.Break spot) = tt
    low level (p.Continue spot) = tt
    low level (p.Return spot value) = tt

    all_low : (level : ℕ) (x : Statements) → Low (all_frames_in told level x)
    all_low level p.no_statements = tt
    all_low level (p.statement first others) = both _ _ (low level first) (all_low level others)

  low_body : (at : ℕ) (parameters : _) (body : Option Statements) → Low (body_frames told at parameters body)
  low_body at parameters None = tt
  low_body at parameters (Some body) = both _ _ (frame_low at 0 0 (own_words told parameters body)) (all_low 0 body)

  pub regions_low : (xs : List ItemTree) → Each IsLow (regions_of told xs)
  regions_low [] = tt
  regions_low (p.StructItem name members ∷ xs) = regions_low xs
  regions_low (p.VariablesItem variables ∷ xs) = regions_low xs
  regions_low (p.FunctionItem f ∷ xs) = both _ _ (low_body f.name.at f.parameters f.body) (regions_low xs)
