-- The level of each group frame of a function, and of each of a `start` on the outermost level of `main`.
use Rattle.std.proofs.Common.{◌≡◌, inl, inr, ℕ, suc, ◌+◌, ◌<◌, ◌≤◌, Bool, true, false, List, [], ◌∷◌, ◌++◌, Option, Some, None, is_some, refl, sym, ap, subst, ◌∙◌, arith}
use Rattle.std.specs.Prelude.{◌==◌, ◌&&◌, min, IsSome, if◌then◌else◌}
use Rattle.std.proofs.lemmas.Bool.{false≢true, eqb-true, and_parts}
use Rattle.std.proofs.lemmas.List.Sums.{sum_by-cons, sum_by-append}
use Rattle.std.proofs.lemmas.Option.{slice_get_within, get_or_from_slice_get}
use Rattle.fk_syntax.specs.declared.facts.Facts.{Facts}
use Rattle.fk_syntax.specs.declared.nodes.Index.{Index}
use Rattle.fk_syntax.specs.declared.nodes.Index.TheVariants.{Node}
use Rattle.fk_syntax.specs.Nodes.{tree_indices, type_indices, declarations_indices, optional_indices, statement_indices, statements_indices, body_indices, item_indices, items_indices}
use Rattle.fk_syntax.specs.declared.place.Spot.{Spot}
use Rattle.fk_syntax.specs.Program as p
use Rattle.fk_syntax.specs.Program.{Statement, Statements, FunctionTree, ItemTree, ProgramTree}
use Rattle.fk_meaning_forms.specs.declared.tables.Region.{Region}
use Rattle.fk_meaning_forms.specs.Tables.{Tables, note, frame_at, frame_in}
use Rattle.fk_meaning_forms.specs.Program.{functions_of, with_body}
use Rattle.fk_lockstep_structure.specs.Placed.{Who, OfGroup, OfBody, OfMain, inner}
use Rattle.fk_layout_slots.specs.Told.{Told, splits_at}
use Rattle.fk_layout_slots.specs.Words.{statement_words, own_words}
use Rattle.fk_layout_slots.specs.Frames.{last_word, frame, deeper, body_frame, frames_in, all_frames_in, body_frames, regions_of}
use Rattle.fk_layout.specs.Layout.{told_by, tables_by}
use Rattle.fk_types_rules.proofs.Counting.{one-same, by, by_node, times, node_times, contained, node-once}
use Rattle.fk_check_laws.specs.Correct.{IsCorrect}
use Rattle.fk_check_laws.proofs.Each.{Each, each_map, front_of}
use Rattle.fk_check_laws.proofs.Frames.{Covers, here, under, right, left, Within, OfText, all_functions, bodies, name_at, counts, of_text, in_statement, in_statements, each_append}
use Rattle.fk_lower_names.proofs.FrameCounts.{count, count_both, nodes_few}
use Rattle.fk_lower_names.proofs.Open.{IsLevelled}
use Rattle.fk_lower_names.proofs.Placing.{SplitsAlone, Placed, AllPlaced, IsPlaced, all_placed}
use Rattle.fk_lower_laws.specs.Parts.{HasLevel, PartHasLevel, level_in, StatementHasLevels, StatementsHaveLevels}

abbrev pub AtLevel : (at level : ℕ) → Region → Type 0
AtLevel at level r = r.at ≡ at → r.level ≡ level

-- the frame that is found at a token has the level of all that are there
found : (tables : Tables) (at part level : ℕ) (rs : List Region) → Each (AtLevel at level) rs → HasLevel level (frame_in tables rs at part)
found tables at part level [] h = tt
found tables at part level (r ∷ rs) h = by_found ((r.at == at) && (r.part == part)) refl (found tables at part level rs h.1)
  where
    by_found : (b : Bool) → ((r.at == at) && (r.part == part)) ≡ b → HasLevel level (frame_in tables rs at part) → HasLevel level (if b then Some r else frame_in tables rs at part)
    by_found true e others = h.0 (eqb-true r.at at (and_parts (r.at == at) (r.part == part) e).0)
    by_found false e others = others

-- a body's frame
framed : (told : Told) (at part level words k l : ℕ) → (at ≡ k → level ≡ l) → Each (AtLevel k l) (frame at part level words)
framed told at part level words k l h = by_words (words == 0)
  where
    by_words : (b : Bool) → Each (AtLevel k l) (if b then [] else record { at = at; part = part; level = level; words = min words (last_word + 1) } ∷ [])
    by_words true = tt
    by_words false = (h, tt)

module _ (told : Told) (tables : Tables) (same : (at : ℕ) → splits_at told at ≡ (note tables at).splits) where
  -- frames that are not at a token
  elsewhere : (at level : ℕ) (i : List Index) (rs : List Region) → node_times at i ≤ 0 → Each (Within i) rs → Each (AtLevel at level) rs
  elsewhere at level i rs none h =
      each_map (Within i) (AtLevel at level) (λ r w e. let covers : 1 ≤ node_times at i = subst (λ k. 1 ≤ node_times k i) e w.1 in absurd (omega (arith, covers, none))) rs h

  -- what is to be known of statements: that the frame of each of their tokens is on a level, if all of their own there are on it
  abbrev Finds : List Index → List Region → Type 0
  Finds i rs = (at part level : ℕ) → Covers at i → Each (AtLevel at level) rs → HasLevel level (frame_at tables at part)

  abbrev Once : List Index → Type 0
  Once i = (at : ℕ) → node_times at i ≤ 1

  -- where levels are few, the next one is one more
  one_deeper : (level : ℕ) → level < 1048576 → deeper level ≡ suc level
  one_deeper level few = omega (arith, few)

  -- a token, and the others of its statement
  token_and : (at k : ℕ) (more : List Index) → node_times at (Node k ∷ more) ≡ by_node at (Node k) + node_times at more
  token_and at k more = sum_by-cons (by_node at) (Node k) more

  token_once : (at : ℕ) (more : List Index) → Once (Node at ∷ more) → node_times at more ≤ 0
  token_once at more once = omega (arith, once at, token_and at at more, one-same at at refl)

  others_once : (k : ℕ) (more : List Index) → Once (Node k ∷ more) → Once more
  others_once k more once at = omega (arith, once at, token_and at k more)

  -- a body frame at a token of which the others of the statement are other ones
  not_there : (k part level words at : ℕ) (level' : ℕ) (more : List Index) → Once (Node k ∷ more) → Covers at more → Each (AtLevel at level') (frame k part level words)
  not_there k part level words at level' more once covers = framed told k part level words at level'
      (λ e. let none = token_once k more once in absurd (let c : 1 ≤ node_times k more = subst (λ j. 1 ≤ node_times j more) (sym e) covers in omega (arith, c, none)))

  -- a body that is always a part: its frame is found, and those in it
  module _ (spot : Spot) (body : Statement) (more : List Index) (level deep : ℕ) (down : deeper level ≡ suc deep)
      (inside : (at : ℕ) → Covers at (statement_indices body) → Covers at more) (few : (at : ℕ) → node_times at (statement_indices body) ≤ node_times at more)
      (once : Once (Node spot.at ∷ more)) where
    abbrev own : List Region
    own = body_frame told spot.at 0 (deeper level) body

    abbrev within : List Region
    within = frames_in told (deeper level) body

    part_level : Finds (Node spot.at ∷ more) (own ++ within) → HasLevel (suc deep) (frame_at tables spot.at 0)
    part_level f =
        f spot.at 0 (suc deep) (here spot.at more)
        (each_append (AtLevel spot.at (suc deep)) own within (framed told spot.at 0 (deeper level) (statement_words told 0 body) spot.at (suc deep) (λ e. down))
        (elsewhere spot.at (suc deep) (statement_indices body) within (omega (arith, token_once spot.at more once, few spot.at)) (in_statement told (deeper level) body)))

    part_finds : Finds (Node spot.at ∷ more) (own ++ within) → Finds (statement_indices body) within
    part_finds f at part level' c h =
        f at part level' (under spot.at at more (inside at c))
        (each_append (AtLevel at level') own within (not_there spot.at 0 (deeper level) (statement_words told 0 body) at level' more once (inside at c)) h)

  -- a body that is a part where the group splits
  one_body : (spot : Spot) (body : Statement) (more : List Index) (who : Who) (level deep : ℕ) → SplitsAlone tables who spot → (IsLevelled who → level ≡ deep) → deep < 1048576
      → ((at : ℕ) → Covers at (statement_indices body) → Covers at more) → ((at : ℕ) → node_times at (statement_indices body) ≤ node_times at more) → Once (Node spot.at ∷ more)
      → Finds (Node spot.at ∷ more) (
      if splits_at told spot.at then body_frame told spot.at 0 (deeper level) body ++ frames_in told (deeper level) body else frames_in told level body)
      → (deeper level ≡ suc deep → Finds (statement_indices body) (frames_in told (deeper level) body) → StatementHasLevels tables (suc deep) body)
      → (Finds (statement_indices body) (frames_in told level body) → StatementHasLevels tables deep body)
      → PartHasLevel tables deep spot.at 0 × StatementHasLevels tables (level_in tables deep spot.at) body
  one_body spot body more who level deep alone is low inside few once f parted flat = by (note tables spot.at).splits refl
    where
      finds : (b : Bool) → (note tables spot.at).splits ≡ b
          → Finds (Node spot.at ∷ more) (if b then body_frame told spot.at 0 (deeper level) body ++ frames_in told (deeper level) body else frames_in told level body)
      finds b e = subst (λ (c : Bool). Finds (Node spot.at ∷ more) (if c then body_frame told spot.at 0 (deeper level) body ++ frames_in told (deeper level) body else frames_in told level body))
          (same spot.at ∙ e) f

      by : (b : Bool) → (note tables spot.at).splits ≡ b
          → PartHasLevel tables deep spot.at 0 × StatementHasLevels tables (if (note tables spot.at).splits then suc deep else deep) body
      by true e =
          let down : deeper level ≡ suc deep = ap deeper (is (inl (alone e))) ∙ one_deeper deep low in (
            (λ yes. part_level spot body more level deep down inside few once (finds true e)),
            subst (λ (b : Bool). StatementHasLevels tables (if b then suc deep else deep) body) (sym e) (parted down (part_finds spot body more level deep down inside few once (finds true e))),
          )
      by false e = (
        (λ yes. absurd (false≢true (sym e ∙ yes))),
        subst (λ (b : Bool). StatementHasLevels tables (if b then suc deep else deep) body) (sym e) (flat (λ at part level' c h. finds false e at part level' (under spot.at at more (inside at c)) h)),
      )

  -- two bodies that are parts where the group splits
  two_bodies : (spot : Spot) (first second : Statement) (head : List Index) (who : Who) (level deep : ℕ) → SplitsAlone tables who spot → (IsLevelled who → level ≡ deep) → deep < 1048576
      → Once (Node spot.at ∷ head ++ statement_indices first ++ statement_indices second)
      → Finds (Node spot.at ∷ head ++ statement_indices first ++ statement_indices second) (
      if splits_at told spot.at
      then body_frame told spot.at 0 (deeper level) first ++ body_frame told spot.at 1 (deeper level) second ++ frames_in told (deeper level) first ++ frames_in told (deeper level) second
      else frames_in told level first ++ frames_in told level second)
      → (deeper level ≡ suc deep → Finds (statement_indices first) (frames_in told (deeper level) first) → StatementHasLevels tables (suc deep) first)
      → (deeper level ≡ suc deep → Finds (statement_indices second) (frames_in told (deeper level) second) → StatementHasLevels tables (suc deep) second)
      → (Finds (statement_indices first) (frames_in told level first) → StatementHasLevels tables deep first)
      → (Finds (statement_indices second) (frames_in told level second) → StatementHasLevels tables deep second)
      → PartHasLevel tables deep spot.at 0 × PartHasLevel tables deep spot.at 1
      × StatementHasLevels tables (level_in tables deep spot.at) first × StatementHasLevels tables (level_in tables deep spot.at) second
  two_bodies spot first second head who level deep alone is low once f parted parted' flat flat' = by (note tables spot.at).splits refl
    where
      a0 : List Region
      a0 = body_frame told spot.at 0 (deeper level) first

      b0 : List Region
      b0 = body_frame told spot.at 1 (deeper level) second

      j : List Index
      j = statement_indices first

      k : List Index
      k = statement_indices second

      more : List Index
      more = head ++ statement_indices first ++ statement_indices second

      none : (at : ℕ) → node_times at j + node_times at k ≤ node_times at more
      none at = omega (arith, sum_by-append (by_node at) (head ++ j) k, sum_by-append (by_node at) head j)

      apart : (at : ℕ) → node_times at j + node_times at k ≤ 1
      apart at = omega (arith, none at, once at, token_and at spot.at more)

      covers_first : (at : ℕ) → Covers at j → Covers at more
      covers_first at c = left at (head ++ j) k (right at head j c)

      covers_second : (at : ℕ) → Covers at k → Covers at more
      covers_second at c = right at (head ++ j) k c

      Whole : Bool → Type 0
      Whole b = Finds (Node spot.at ∷ more) (
          if b
          then body_frame told spot.at 0 (deeper level) first ++ body_frame told spot.at 1 (deeper level) second ++ frames_in told (deeper level) first ++ frames_in told (deeper level) second
          else frames_in told level first ++ frames_in told level second)

      finds : (b : Bool) → (note tables spot.at).splits ≡ b → Whole b
      finds b e = subst Whole (same spot.at ∙ e) f

      -- frames of which each is on a level
      four : (at level' : ℕ) → Each (AtLevel at level') a0 → Each (AtLevel at level') b0 → Each (AtLevel at level') (frames_in told (deeper level) first)
          → Each (AtLevel at level') (frames_in told (deeper level) second)
          → Each (AtLevel at level') (a0 ++ b0 ++ frames_in told (deeper level) first ++ frames_in told (deeper level) second)
      four at level' x y z u =
          let a = frames_in told (deeper level) first in
          let c = frames_in told (deeper level) second in
          each_append (AtLevel at level') (a0 ++ b0 ++ a) c (each_append (AtLevel at level') (a0 ++ b0) a (each_append (AtLevel at level') a0 b0 x y) z) u

      at_token : (part : ℕ) → deeper level ≡ suc deep → Whole true → HasLevel (suc deep) (frame_at tables spot.at part)
      at_token part down g =
          let zero' = token_once spot.at more once in
          g spot.at part (suc deep) (here spot.at more)
          (four spot.at (suc deep) (framed told spot.at 0 (deeper level) (statement_words told 0 first) spot.at (suc deep) (λ e. down))
          (framed told spot.at 1 (deeper level) (statement_words told 0 second) spot.at (suc deep) (λ e. down))
          (elsewhere spot.at (suc deep) j (frames_in told (deeper level) first) (omega (arith, zero', none spot.at)) (in_statement told (deeper level) first))
          (elsewhere spot.at (suc deep) k (frames_in told (deeper level) second) (omega (arith, zero', none spot.at)) (in_statement told (deeper level) second)))

      deep_first : Whole true → Finds j (frames_in told (deeper level) first)
      deep_first g at part level' c h =
          let there = covers_first at c in
          g at part level' (under spot.at at more there)
          (four at level' (not_there spot.at 0 (deeper level) (statement_words told 0 first) at level' more once there) (not_there spot.at 1 (deeper level) (statement_words told 0 second) at level' more once there) h
          (elsewhere at level' k (frames_in told (deeper level) second) (omega (arith, c, apart at)) (in_statement told (deeper level) second)))

      deep_second : Whole true → Finds k (frames_in told (deeper level) second)
      deep_second g at part level' c h =
          let there = covers_second at c in
          g at part level' (under spot.at at more there)
          (four at level' (not_there spot.at 0 (deeper level) (statement_words told 0 first) at level' more once there) (not_there spot.at 1 (deeper level) (statement_words told 0 second) at level' more once there)
          (elsewhere at level' j (frames_in told (deeper level) first) (omega (arith, c, apart at)) (in_statement told (deeper level) first)) h)

      flat_first : Whole false → Finds j (frames_in told level first)
      flat_first g at part level' c h =
          g at part level' (under spot.at at more (covers_first at c))
          (each_append (AtLevel at level') (frames_in told level first) (frames_in told level second) h
          (elsewhere at level' k (frames_in told level second) (omega (arith, c, apart at)) (in_statement told level second)))

      flat_second : Whole false → Finds k (frames_in told level second)
      flat_second g at part level' c h =
          g at part level' (under spot.at at more (covers_second at c))
          (each_append (AtLevel at level') (frames_in told level first) (frames_in told level second)
          (elsewhere at level' j (frames_in told level first) (omega (arith, c, apart at)) (in_statement told level first)) h)

      by : (b : Bool) → (note tables spot.at).splits ≡ b
          → PartHasLevel tables deep spot.at 0 × PartHasLevel tables deep spot.at 1
          × StatementHasLevels tables (if (note tables spot.at).splits then suc deep else deep) first × StatementHasLevels tables (if (note tables spot.at).splits then suc deep else deep) second
      by true e =
          let down : deeper level ≡ suc deep = ap deeper (is (inl (alone e))) ∙ one_deeper deep low in
          let g = finds true e in (
            (λ yes. at_token 0 down g),
            (λ yes. at_token 1 down g),
            subst (λ (b : Bool). StatementHasLevels tables (if b then suc deep else deep) first) (sym e) (parted down (deep_first g)),
            subst (λ (b : Bool). StatementHasLevels tables (if b then suc deep else deep) second) (sym e) (parted' down (deep_second g)),
          )
      by false e =
          let g = finds false e in (
            (λ yes. absurd (false≢true (sym e ∙ yes))),
            (λ yes. absurd (false≢true (sym e ∙ yes))),
            subst (λ (b : Bool). StatementHasLevels tables (if b then suc deep else deep) first) (sym e) (flat (flat_first g)),
            subst (λ (b : Bool). StatementHasLevels tables (if b then suc deep else deep) second) (sym e) (flat' (flat_second g)),
          )

  -- tokens of what is written before and behind, in a statement
  covers_last : (head body : List Index) (at : ℕ) → Covers at body → Covers at (head ++ body)
  covers_last head body at c = right at head body c

  few_last : (head body : List Index) (at : ℕ) → node_times at body ≤ node_times at (head ++ body)
  few_last head body at = omega (arith, sum_by-append (by_node at) head body)

  few_first : (body rest : List Index) (at : ℕ) → node_times at body ≤ node_times at (body ++ rest)
  few_first body rest at = omega (arith, sum_by-append (by_node at) body rest)

  once_last : (head body : List Index) → Once (head ++ body) → Once body
  once_last head body once at = omega (arith, once at, few_last head body at)

  once_first : (body rest : List Index) → Once (body ++ rest) → Once body
  once_first body rest once at = omega (arith, once at, few_first body rest at)

  inner_levelled : (who : Who) → IsLevelled (inner who) → IsLevelled who
  inner_levelled OfGroup e = inl refl
  inner_levelled OfBody e = e
  inner_levelled (OfMain outermost) (inl e) = absurd (false≢true e)
  inner_levelled (OfMain outermost) (inr e) = absurd (false≢true e)

  alone_levelled : {X : Type 0} → IsLevelled OfBody → X
  alone_levelled (inl e) = absurd (false≢true e)
  alone_levelled (inr e) = absurd (false≢true e)

  mutual
    levels : (who : Who) (level deep : ℕ) (x : Statement) → Placed tables who x → (IsLevelled who → level ≡ deep) → deep + count (statement_indices x) ≤ 1048576
        → Finds (statement_indices x) (frames_in told level x) → Once (statement_indices x) → StatementHasLevels tables deep x
    levels who level deep (p.Block list) placed is low f once = all_levels who level deep list placed is low f once
    levels who level deep (p.If spot condition first) placed is low f once =
        let i = tree_indices condition in
        let j = statement_indices first in
        let c = count_both i j in
        one_body spot first (i ++ j) who level deep placed.0 is (omega (arith, low)) (covers_last i j) (few_last i j) once f
        (λ down g. levels (inner who) (deeper level) (suc deep) first placed.1 (λ e. down) (omega (arith, low, c)) g (once_last i j (others_once spot.at (i ++ j) once)))
        (λ g. levels (inner who) level deep first placed.1 (λ e. is (inner_levelled who e)) (omega (arith, low, c)) g (once_last i j (others_once spot.at (i ++ j) once)))
    levels who level deep (p.IfElse spot condition first second) placed is low f once =
        let i = tree_indices condition in
        let j = statement_indices first in
        let k = statement_indices second in
        let c1 = count_both (i ++ j) k in
        let c2 = count_both i j in
        let inner_once = others_once spot.at (i ++ j ++ k) once in
        let once_j = once_last i j (once_first (i ++ j) k inner_once) in
        let once_k = once_last (i ++ j) k inner_once in
        two_bodies spot first second i who level deep placed.0 is (omega (arith, low)) once f
        (λ down g. levels (inner who) (deeper level) (suc deep) first placed.1 (λ e. down) (omega (arith, low, c1, c2)) g once_j)
        (λ down g. levels (inner who) (deeper level) (suc deep) second placed.2 (λ e. down) (omega (arith, low, c1, c2)) g once_k)
        (λ g. levels (inner who) level deep first placed.1 (λ e. is (inner_levelled who e)) (omega (arith, low, c1, c2)) g once_j)
        (λ g. levels (inner who) level deep second placed.2 (λ e. is (inner_levelled who e)) (omega (arith, low, c1, c2)) g once_k)
    levels who level deep (p.While spot condition body) placed is low f once =
        let i = tree_indices condition in
        let j = statement_indices body in
        let c = count_both i j in
        one_body spot body (i ++ j) who level deep placed.0 is (omega (arith, low)) (covers_last i j) (few_last i j) once f
        (λ down g. levels (inner who) (deeper level) (suc deep) body placed.1 (λ e. down) (omega (arith, low, c)) g (once_last i j (others_once spot.at (i ++ j) once)))
        (λ g. levels (inner who) level deep body placed.1 (λ e. is (inner_levelled who e)) (omega (arith, low, c)) g (once_last i j (others_once spot.at (i ++ j) once)))
    levels who level deep (p.DoWhile spot body condition) placed is low f once =
        let i = statement_indices body in
        let j = tree_indices condition in
        let c = count_both i j in
        one_body spot body (i ++ j) who level deep placed.0 is (omega (arith, low)) (λ at h. left at i j h) (few_first i j) once f
        (λ down g. levels (inner who) (deeper level) (suc deep) body placed.1 (λ e. down) (omega (arith, low, c)) g (once_first i j (others_once spot.at (i ++ j) once)))
        (λ g. levels (inner who) level deep body placed.1 (λ e. is (inner_levelled who e)) (omega (arith, low, c)) g (once_first i j (others_once spot.at (i ++ j) once)))
    levels who level deep (p.For spot before condition after body) placed is low f once =
        let i = optional_indices before ++ optional_indices condition ++ optional_indices after in
        let j = statement_indices body in
        let c = count_both i j in
        one_body spot body (i ++ j) who level deep placed.0 is (omega (arith, low)) (covers_last i j) (few_last i j) once f
        (λ down g. levels (inner who) (deeper level) (suc deep) body placed.1 (λ e. down) (omega (arith, low, c)) g (once_last i j (others_once spot.at (i ++ j) once)))
        (λ g. levels (inner who) level deep body placed.1 (λ e. is (inner_levelled who e)) (omega (arith, low, c)) g (once_last i j (others_once spot.at (i ++ j) once)))
    levels who level deep (p.Start spot number body) placed is low f once =
        let i = optional_indices number in
        let j = statement_indices body in
        let c = count_both i j in
        let down : deeper level ≡ suc deep = ap deeper (is (inr placed.0)) ∙ one_deeper deep (omega (arith, low)) in (
          part_level spot body (i ++ j) level deep down (covers_last i j) (few_last i j) once f,
          levels OfGroup (deeper level) (suc deep) body placed.1 (λ e. down) (omega (arith, low, c)) (part_finds spot body (i ++ j) level deep down (covers_last i j) (few_last i j) once f)
              (once_last i j (others_once spot.at (i ++ j) once)),
        )
    levels who level deep (p.Fork spot parts part rank body) placed is low f once =
        let i = tree_indices parts ++ tree_indices part ++ optional_indices rank in
        let j = statement_indices body in
        let c = count_both i j in
        let down : deeper level ≡ suc deep = ap deeper (is (inl placed.0)) ∙ one_deeper deep (omega (arith, low)) in (
          part_level spot body (i ++ j) level deep down (covers_last i j) (few_last i j) once f,
          levels OfGroup (deeper level) (suc deep) body placed.1 (λ e. down) (omega (arith, low, c)) (part_finds spot body (i ++ j) level deep down (covers_last i j) (few_last i j) once f)
              (once_last i j (others_once spot.at (i ++ j) once)),
        )
    levels who level deep (p.Farm spot body) placed is low f once =
        levels OfBody (deeper level) deep body placed alone_levelled (omega (arith, low))
        (λ at part level' c h. f at part level' (under spot.at at (statement_indices body) c) h) (others_once spot.at (statement_indices body) once)
    levels who level deep (p.Seq spot body) placed is low f once =
        levels OfBody (deeper level) deep body placed alone_levelled (omega (arith, low))
        (λ at part level' c h. f at part level' (under spot.at at (statement_indices body) c) h) (others_once spot.at (statement_indices body) once)
    levels who level deep p.Empty placed is low f once = tt
    levels who level deep (p.Expression value) placed is low f once = tt
    levels who level deep (p.Declare variables) placed is low f once = tt
    levels who level deep (p.Barrier spot) placed is low f once = tt
    levels who level deep (p.Break spot) placed is low f once = tt
    levels who level deep (p.Continue spot) placed is low f once = tt
    levels who level deep (p.Return spot value) placed is low f once = tt

    all_levels : (who : Who) (level deep : ℕ) (xs : Statements) → AllPlaced tables who xs → (IsLevelled who → level ≡ deep) → deep + count (statements_indices xs) ≤ 1048576
        → Finds (statements_indices xs) (all_frames_in told level xs) → Once (statements_indices xs) → StatementsHaveLevels tables deep xs
    all_levels who level deep p.no_statements placed is low f once = tt
    all_levels who level deep (p.statement first others) placed is low f once =
        let i = statement_indices first in
        let j = statements_indices others in
        let rs = frames_in told level first in
        let ss = all_frames_in told level others in
        let c = count_both i j in (
          levels who level deep first placed.0 is (omega (arith, low, c))
              (λ at part level' c' h. f at part level' (left at i j c') (each_append (AtLevel at level') rs ss h
              (elsewhere at level' j ss (omega (arith, c', once at, sum_by-append (by_node at) i j)) (in_statements told level others))))
              (once_first i j once),
          all_levels who level deep others placed.1 is (omega (arith, low, c))
              (λ at part level' c' h. f at part level' (right at i j c') (each_append (AtLevel at level') rs ss
              (elsewhere at level' i rs (omega (arith, c', once at, sum_by-append (by_node at) i j)) (in_statement told level first)) h))
              (once_last i j once),
        )

  -- ---- items

  abbrev counted : (at : ℕ) → List ItemTree → ℕ
  counted at xs = times name_at at (all_functions xs) + node_times at (bodies xs)

  -- if a token is of none of these items, no frame is at it
  none_there : (at level : ℕ) (xs : List ItemTree) → counted at xs ≤ 0 → Each (AtLevel at level) (regions_of told xs)
  none_there at level xs none = each_map (OfText told xs) (AtLevel at level) never (regions_of told xs) (of_text told xs)
    where
      never : (r : Region) → OfText told xs r → r.at ≡ at → r.level ≡ level
      never r (inl w) e = let covers : 1 ≤ node_times at (bodies xs) = subst (λ k. 1 ≤ node_times k (bodies xs)) e w.1 in absurd (omega (arith, covers, none))
      never r (inr o) e =
          let there = contained name_at (all_functions xs) o.function (o.index, slice_get_within (all_functions xs) o.index o.function o.there, get_or_from_slice_get (all_functions xs) o.index o.function o.function o.there) in
          let there' : 1 ≤ times name_at at (all_functions xs) = subst (λ k. 1 ≤ times name_at k (all_functions xs)) (sym o.same ∙ e) there in
          absurd (omega (arith, there', none))

  -- those of a function by itself
  of_function : (g : FunctionTree) → Each (OfText told (p.FunctionItem g ∷ [])) (body_frames told g.name.at g.parameters g.body)
  of_function g = front_of (OfText told (p.FunctionItem g ∷ [])) (body_frames told g.name.at g.parameters g.body) [] (of_text told (p.FunctionItem g ∷ []))

  none_here : (at level : ℕ) (g : FunctionTree) → counted at (p.FunctionItem g ∷ []) ≤ 0 → Each (AtLevel at level) (body_frames told g.name.at g.parameters g.body)
  none_here at level g none = front_of (AtLevel at level) (body_frames told g.name.at g.parameters g.body) [] (none_there at level (p.FunctionItem g ∷ []) none)

  -- the frame at the name of a function is on level 0
  own_level : (g : FunctionTree) → counted g.name.at (p.FunctionItem g ∷ []) ≤ 1 → Each (AtLevel g.name.at 0) (body_frames told g.name.at g.parameters g.body)
  own_level g once = each_map (OfText told (p.FunctionItem g ∷ [])) (AtLevel g.name.at 0) only (body_frames told g.name.at g.parameters g.body) (of_function g)
    where
      only : (r : Region) → OfText told (p.FunctionItem g ∷ []) r → r.at ≡ g.name.at → r.level ≡ 0
      only r (inl w) e =
          let covers : 1 ≤ node_times g.name.at (bodies (p.FunctionItem g ∷ [])) = subst (λ k. 1 ≤ node_times k (bodies (p.FunctionItem g ∷ []))) e w.1 in
          absurd (omega (arith, covers, once, sum_by-cons (by name_at g.name.at) g [], one-same g.name.at g.name.at refl))
      only r (inr o) e = o.level

  abbrev pub BodyHasLevels : Option Statements → Type 0
  BodyHasLevels None = Unit {0}
  BodyHasLevels (Some body) = StatementsHaveLevels tables 0 body

  abbrev pub HasLevels : ItemTree → Type 0
  HasLevels (p.StructItem name members) = Unit {0}
  HasLevels (p.VariablesItem variables) = Unit {0}
  HasLevels (p.FunctionItem g) = HasLevel 0 (frame_at tables g.name.at 0) × BodyHasLevels g.body

  abbrev pub HaveLevels : List ItemTree → Type 0
  HaveLevels [] = Unit {0}
  HaveLevels (x ∷ xs) = HasLevels x × HaveLevels xs

  -- what is to be known of items, as of statements
  abbrev FindsIn : List ItemTree → List Region → Type 0
  FindsIn xs rs = (at part level : ℕ) → 1 ≤ counted at xs → Each (AtLevel at level) rs → HasLevel level (frame_at tables at part)

  -- the tokens of a function and of the items behind it
  both : (at : ℕ) (g : FunctionTree) (xs : List ItemTree) → counted at (p.FunctionItem g ∷ xs) ≡ counted at (p.FunctionItem g ∷ []) + counted at xs
  both at g xs = omega (
    arith,
    sum_by-cons (by name_at at) g (all_functions xs),
    sum_by-cons (by name_at at) g [],
    sum_by-append (by_node at) (body_indices g.body) (bodies xs),
    sum_by-append (by_node at) (body_indices g.body) [],
  )

  -- who runs a function, and that its statements are placed so
  abbrev Stands : FunctionTree → Type 0
  Stands g = (who : Who) × ((body : Statements) → g.body ≡ Some body → AllPlaced tables who body)

  body_levels : (g : FunctionTree) (o : Option Statements) → g.body ≡ o
      → ((at part level : ℕ) → 1 ≤ counted at (p.FunctionItem g ∷ []) → Each (AtLevel at level) (body_frames told g.name.at g.parameters o) → HasLevel level (frame_at tables at part))
      → ((at : ℕ) → counted at (p.FunctionItem g ∷ []) ≤ 1) → count (body_indices o) ≤ 1048576 → (IsSome o → Stands g) → BodyHasLevels o
  body_levels g None has f once few stands = tt
  body_levels g (Some body) has f once few stands =
      let placed = stands refl in
      all_levels placed.0 0 0 body (placed.1 body has) (λ e. refl) (omega (arith, few))
      (λ at part level c h.
      f at part level (omega (arith, c, parts at))
      (each_append (AtLevel at level) (frame g.name.at 0 0 (own_words told g.parameters body)) (all_frames_in told 0 body)
      (framed told g.name.at 0 0 (own_words told g.parameters body) at level (λ e. absurd (apart at c (sym e)))) h))
      (λ at. omega (arith, once at, parts at))
    where
      -- it counts its name and its body
      parts : (at : ℕ) → counted at (p.FunctionItem g ∷ []) ≡ by name_at at g + node_times at (statements_indices body)
      parts at = omega (
        arith,
        sum_by-cons (by name_at at) g [],
        sum_by-append (by_node at) (body_indices g.body) [],
        same' at,
      )
        where
          same' : (k : ℕ) → node_times k (body_indices g.body) ≡ node_times k (statements_indices body)
          same' k = subst (λ (b : Option Statements). node_times k (body_indices g.body) ≡ node_times k (body_indices b)) has refl

      -- its name is none of the tokens of its statements
      apart : (at : ℕ) → Covers at (statements_indices body) → at ≡ g.name.at → ⊥
      apart at c e =
          let c' : 1 ≤ node_times g.name.at (statements_indices body) = subst (λ k. 1 ≤ node_times k (statements_indices body)) e c in
          omega (arith, c', parts g.name.at, once g.name.at, one-same g.name.at g.name.at refl)

  item_levels : (xs : List ItemTree) → FindsIn xs (regions_of told xs) → ((at : ℕ) → counted at xs ≤ 1) → count (items_indices xs) ≤ 1048576 → Each Stands (functions_of xs) → HaveLevels xs
  item_levels [] f once few stands = tt
  item_levels (p.StructItem name members ∷ xs) f once few stands = (tt, item_levels xs f once (omega (arith, few, count_both (item_indices (p.StructItem name members)) (items_indices xs))) stands)
  item_levels (p.VariablesItem variables ∷ xs) f once few stands = (tt, item_levels xs f once (omega (arith, few, count_both (item_indices (p.VariablesItem variables)) (items_indices xs))) stands)
  item_levels (p.FunctionItem g ∷ xs) f once few stands =
      let mine = body_frames told g.name.at g.parameters g.body in
      let rest = regions_of told xs in
      let more = count_both (item_indices (p.FunctionItem g)) (items_indices xs) in
      let inside = count_both (type_indices g.result) (Node g.name.at ∷ declarations_indices g.parameters ++ body_indices g.body) in
      let within = count_both (declarations_indices g.parameters) (body_indices g.body) in
      let alone : (at : ℕ) → counted at (p.FunctionItem g ∷ []) ≤ 1 = λ at. omega (arith, once at, both at g xs) in
      let here' : (at part level : ℕ) → 1 ≤ counted at (p.FunctionItem g ∷ []) → Each (AtLevel at level) mine → HasLevel level (frame_at tables at part) =
      λ at part level c h. f at part level (omega (arith, c, both at g xs)) (each_append (AtLevel at level) mine rest h (none_there at level xs (omega (arith, c, once at, both at g xs)))) in
      by_body g.body refl stands
      (λ own others. (
        (
          here' g.name.at 0 0 (omega (arith, sum_by-cons (by name_at g.name.at) g [], one-same g.name.at g.name.at refl)) (own_level g (alone g.name.at)),
          body_levels g g.body refl here' alone (omega (arith, few, more, inside, within)) own,
        ),
        item_levels xs
            (λ at part level c h. f at part level (omega (arith, c, both at g xs)) (each_append (AtLevel at level) mine rest (none_here at level g (omega (arith, c, once at, both at g xs))) h))
            (λ at. omega (arith, once at, both at g xs)) (omega (arith, few, more)) others,
      ))
    where
      by_body : (o : Option Statements) → g.body ≡ o → Each Stands (with_body g o (functions_of xs))
          → ((IsSome g.body → Stands g) → Each Stands (functions_of xs) → HaveLevels (p.FunctionItem g ∷ xs)) → HaveLevels (p.FunctionItem g ∷ xs)
      by_body None has stands' go = go (λ some. absurd (false≢true (sym (ap is_some has) ∙ some))) stands'
      by_body (Some body) has stands' go = go (λ some. stands'.0) stands'.1

-- the frames of a program that keeps all rules
pub frames_have_levels : (program : ProgramTree) (facts : Facts) → IsCorrect program facts → HaveLevels (told_by facts) (tables_by program facts) (λ at. refl) program.items
frames_have_levels program facts valid =
    let nodes = nodes_few program valid.well_formed in
    let small = valid.small in
    item_levels (told_by facts) (tables_by program facts) (λ at. refl) program.items
    (λ at part level c h. found (tables_by program facts) at part level (regions_of (told_by facts) program.items) h)
    (λ at. omega (arith, counts at program.items, node-once at (items_indices program.items) valid.well_formed.distinct))
    (omega (arith, nodes, small))
    (each_map (IsPlaced program facts valid) (Stands (told_by facts) (tables_by program facts) (λ at. refl)) (λ g placed. (placed.who, placed.body)) (functions_of program.items) (all_placed program facts valid))
