-- Where tokens ascend, the group frames stand in their order.
use Rattle.std.proofs.Common.{◌≡◌, ℕ, zero, suc, ◌<◌, ◌==◌, List, [], ◌∷◌, ◌++◌, Bool, true, false, Option, Some, None, ◌⊎◌, inl, inr, arith, refl, sym, subst, if◌then◌else◌}
use Rattle.std.specs.Prelude.{All, AllPairs, flat_map}
use Rattle.std.proofs.lemmas.Grind.{flat_map-append}
use Rattle.std.proofs.lemmas.List.Kept.{AllPairs-cons}
use Rattle.std.proofs.lemmas.List.Elements.{All-nil, All-cons}
use Rattle.fk_syntax.specs.Program as p
use Rattle.fk_syntax.specs.Program.{DeclaredTree, Statement, Statements, ItemTree}
use Rattle.fk_meaning_forms.specs.declared.tables.Region.{Region}
use Rattle.fk_layout_slots.specs.Told.{Told, splits_at}
use Rattle.fk_layout_slots.specs.Words.{statement_words, own_words}
use Rattle.fk_layout_slots.specs.Frames.{frame, deeper, body_frame, frames_in, all_frames_in, body_frames, item_frames, regions_of}
use Rattle.fk_parse_laws.specs.Order.{tokens_in, all_tokens_in, body_tokens, item_tokens, frame_tokens, Ascend, FramesInOrder}
use Rattle.fk_parse_laws.proofs.Picked.{Picked, picked_skip, picked_append, picked_all, picked_pairs}

-- ---- the parts of tokens

-- a part of a token
abbrev Part : Type 0
Part = ℕ × ℕ

abbrev part_of : Region → Part
part_of r = (r.at, r.part)

-- the two parts that a token may have, and those of tokens
abbrev both_parts : ℕ → List Part
both_parts t = (t, 0) ∷ (t, 1) ∷ []

abbrev parts : List ℕ → List Part
parts ts = flat_map both_parts ts

abbrev Comes : Part → Part → Type 0
Comes a b = (a.0 < b.0) ⊎ ((a.0 ≡ b.0) × (a.1 < b.1))

-- those of tokens behind one stand behind its own
parts_behind : (t part : ℕ) (ts : List ℕ) → All (λ u. t < u) ts → All (Comes (t, part)) (parts ts)
parts_behind t part [] h = All-nil (Comes (t, part))
parts_behind t part (u ∷ ts) h =
    let first = h zero u (omega arith) in
    All-cons (Comes (t, part)) (u, 0) ((u, 1) ∷ parts ts) (inl first)
    (All-cons (Comes (t, part)) (u, 1) (parts ts) (inl first) (parts_behind t part ts (λ k d within. h (suc k) d (omega arith))))

parts_come : (ts : List ℕ) → Ascend ts → AllPairs Comes (parts ts)
parts_come [] h = λ i j d less within. absurd (omega (arith, within))
parts_come (t ∷ ts) h =
    let behind : All (λ u. t < u) ts = λ k d within. h zero (suc k) d (omega arith) (omega arith) in
    let rest = parts_come ts (λ i j d less within. h (suc i) (suc j) d (omega arith) (omega arith)) in
    AllPairs-cons Comes (t, 0) ((t, 1) ∷ parts ts)
    (All-cons (Comes (t, 0)) (t, 1) (parts ts) (inr (refl, omega arith)) (parts_behind t 0 ts behind))
    (AllPairs-cons Comes (t, 1) (parts ts) (parts_behind t 1 ts behind) rest)

-- ---- frames stand at parts of tokens, in their order

-- frames are among the parts of tokens
abbrev Among : List Region → List Part → Type 0
Among = Picked part_of

abbrev Stand : List Region → List ℕ → Type 0
Stand regions tokens = Among regions (parts tokens)

stand_append : (xs zs : List Region) (ts us : List ℕ) → Stand xs ts → Stand zs us → Stand (xs ++ zs) (ts ++ us)
stand_append xs zs ts us v w = subst (λ l. Among (xs ++ zs) l) (sym (flat_map-append both_parts ts us)) (picked_append part_of xs zs (parts ts) (parts us) v w)

-- a frame, if it has words
one_frame : (none : Bool) (r : Region) → Among (if none then [] else r ∷ []) (part_of r ∷ [])
one_frame true r = tt
one_frame false r = inl (refl, tt)

frame_stands : (at part level words : ℕ) → Among (frame at part level words) ((at, part) ∷ [])
frame_stands at part level words = one_frame (words == 0) _

-- one frame at a token, and those behind it
with_frame : (at level words : ℕ) (inner : List Region) (ts : List ℕ) → Stand inner ts → Stand (frame at 0 level words ++ inner) (at ∷ ts)
with_frame at level words inner ts w =
    picked_append part_of (frame at 0 level words) inner ((at, 0) ∷ []) ((at, 1) ∷ parts ts) (frame_stands at 0 level words)
    (picked_skip part_of (at, 1) inner (parts ts) w)

-- two frames at a token, and those behind them
with_frames : (at level words others : ℕ) (xs zs : List Region) (ts us : List ℕ) → Stand xs ts → Stand zs us
    → Stand (frame at 0 level words ++ frame at 1 level others ++ xs ++ zs) (at ∷ ts ++ us)
with_frames at level words others xs zs ts us v w =
    stand_append (frame at 0 level words ++ frame at 1 level others ++ xs) zs (at ∷ ts) us
    (picked_append part_of (frame at 0 level words ++ frame at 1 level others) xs (both_parts at) (parts ts)
    (picked_append part_of (frame at 0 level words) (frame at 1 level others) ((at, 0) ∷ []) ((at, 1) ∷ []) (frame_stands at 0 level words) (frame_stands at 1 level others))
    v)
    w

-- none at it
without_frame : (at : ℕ) (inner : List Region) (ts : List ℕ) → Stand inner ts → Stand inner (at ∷ ts)
without_frame at inner ts w = picked_skip part_of (at, 0) inner ((at, 1) ∷ parts ts) (picked_skip part_of (at, 1) inner (parts ts) w)

either : (c : Bool) (xs zs : List Region) (ts : List ℕ) → Stand xs ts → Stand zs ts → Stand (if c then xs else zs) ts
either true xs zs ts v w = v
either false xs zs ts v w = w

module _ (told : Told) where
  -- those of a body that has a frame where the group splits
  split_stands : (at level : ℕ) (body : Statement) (ts : List ℕ) → Stand (frames_in told (deeper level) body) ts → Stand (frames_in told level body) ts
      → Stand (if splits_at told at then body_frame told at 0 (deeper level) body ++ frames_in told (deeper level) body else frames_in told level body) (at ∷ ts)
  split_stands at level body ts v w =
      either (splits_at told at) _ _ (at ∷ ts) (with_frame at (deeper level) (statement_words told 0 body) _ ts v) (without_frame at _ ts w)

  mutual
    statement_stands : (level : ℕ) (s : Statement) → Stand (frames_in told level s) (tokens_in s)
    statement_stands level (p.Block list) = statements_stand level list
    statement_stands level (p.If spot condition first) =
        split_stands spot.at level first (tokens_in first) (statement_stands (deeper level) first) (statement_stands level first)
    statement_stands level (p.IfElse spot condition first second) =
        either (splits_at told spot.at) _ _ (spot.at ∷ tokens_in first ++ tokens_in second)
        (with_frames spot.at (deeper level) (statement_words told 0 first) (statement_words told 0 second)
        (frames_in told (deeper level) first) (frames_in told (deeper level) second) (tokens_in first) (tokens_in second)
        (statement_stands (deeper level) first) (statement_stands (deeper level) second))
        (without_frame spot.at _ (tokens_in first ++ tokens_in second)
        (stand_append (frames_in told level first) (frames_in told level second) (tokens_in first) (tokens_in second)
        (statement_stands level first) (statement_stands level second)))
    statement_stands level (p.While spot condition body) =
        split_stands spot.at level body (tokens_in body) (statement_stands (deeper level) body) (statement_stands level body)
    statement_stands level (p.DoWhile spot body condition) =
        split_stands spot.at level body (tokens_in body) (statement_stands (deeper level) body) (statement_stands level body)
    statement_stands level (p.For spot before condition after body) =
        split_stands spot.at level body (tokens_in body) (statement_stands (deeper level) body) (statement_stands level body)
    statement_stands level (p.Start spot count body) =
        with_frame spot.at (deeper level) (statement_words told 0 body) _ (tokens_in body) (statement_stands (deeper level) body)
    statement_stands level (p.Fork spot parts part rank body) =
        with_frame spot.at (deeper level) (statement_words told 0 body) _ (tokens_in body) (statement_stands (deeper level) body)
    statement_stands level (p.Farm spot body) = statement_stands (deeper level) body
    statement_stands level (p.Seq spot body) = statement_stands (deeper level) body
    statement_stands level p.Empty = tt
    statement_stands level (p.Expression value) = tt
    statement_stands level (p.Declare variables) = tt
    statement_stands level (p.Barrier spot) = tt
    statement_stands level (p.Break spot) = tt
    statement_stands level (p.Continue spot) = tt
    statement_stands level (p.Return spot value) = tt

    statements_stand : (level : ℕ) (list : Statements) → Stand (all_frames_in told level list) (all_tokens_in list)
    statements_stand level p.no_statements = tt
    statements_stand level (p.statement first others) =
        stand_append (frames_in told level first) (all_frames_in told level others) (tokens_in first) (all_tokens_in others)
        (statement_stands level first) (statements_stand level others)

  body_stands : (at : ℕ) (parameters : List DeclaredTree) (body : Option Statements) → Stand (body_frames told at parameters body) (at ∷ body_tokens body)
  body_stands at parameters None = tt
  body_stands at parameters (Some body) =
      with_frame at 0 (own_words told parameters body) (all_frames_in told 0 body) (all_tokens_in body) (statements_stand 0 body)

  item_stands : (item : ItemTree) → Stand (item_frames told item) (item_tokens item)
  item_stands (p.StructItem name members) = tt
  item_stands (p.VariablesItem variables) = tt
  item_stands (p.FunctionItem f) = body_stands f.name.at f.parameters f.body

  items_stand : (items : List ItemTree) → Stand (regions_of told items) (frame_tokens items)
  items_stand [] = tt
  items_stand (item ∷ items) =
      stand_append (item_frames told item) (regions_of told items) (item_tokens item) (frame_tokens items) (item_stands item) (items_stand items)

pub frames_in_order : FramesInOrder
frames_in_order told items h = picked_pairs part_of Comes (regions_of told items) (parts (frame_tokens items)) (items_stand told items) (parts_come (frame_tokens items) h)

-- ---- behind a token

parts_above : (low : ℕ) (ts : List ℕ) → All (λ t. low < t) ts → All (λ (x : Part). low < x.0) (parts ts)
parts_above low [] h = All-nil (λ (x : Part). low < x.0)
parts_above low (t ∷ ts) h =
    let first = h zero t (omega arith) in
    All-cons (λ (x : Part). low < x.0) (t, 0) ((t, 1) ∷ parts ts) first
    (All-cons (λ (x : Part). low < x.0) (t, 1) (parts ts) first (parts_above low ts (λ k d within. h (suc k) d (omega arith))))

-- where all tokens are behind one, so are the frames
pub frames_above : (told : Told) (items : List ItemTree) (low : ℕ) → All (λ t. low < t) (frame_tokens items) → All (λ r. low < r.at) (regions_of told items)
frames_above told items low h =
    picked_all part_of (λ x. low < x.0) (regions_of told items) (parts (frame_tokens items)) (items_stand told items) (parts_above low (frame_tokens items) h)
