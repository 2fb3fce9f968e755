-- Behind a statement as many frames are taken as begin in it, and as many words as it adds to the frame around it.
use Rattle.std.proofs.Common.{◌≡◌, inl, inr, ℕ, suc, ◌+◌, ◌*◌, ◌<◌, ◌≤◌, Bool, true, false, List, [], ◌∷◌, ◌++◌, length, Option, Some, None, refl, ap, ◌∙◌, length-append, arith}
use Rattle.std.specs.Prelude.{◌==◌, min, eqb, All, if◌then◌else◌}
use Rattle.std.specs.List.{list_any}
use Rattle.std.proofs.lemmas.Bool.{false≢true, or_cases, eqb-true}
use Rattle.std.proofs.lemmas.Bool.Decides.{Decides-eqb}
use Rattle.std.proofs.lemmas.List.Elements.{All-head, All-tail}
use Rattle.std.proofs.lemmas.Map.Made.{IsDistinct-from_AllPairs}
use Rattle.std.proofs.lemmas.Map.Steps.{length-le_from_distinct_below}
use Rattle.fk_syntax.specs.declared.nodes.Index.{Index}
use Rattle.fk_syntax.specs.declared.nodes.Index.TheVariants.{Node, StructName}
use Rattle.fk_syntax.specs.Nodes.{tree_indices, optional_indices, declarations_indices, statement_indices, statements_indices, body_indices, item_indices, items_indices, type_indices}
use Rattle.fk_syntax.specs.WellFormed.{token, nodes, IsWellFormed}
use Rattle.fk_syntax.specs.Program as p
use Rattle.fk_syntax.specs.Program.{DeclaredTree, Statement, Statements, ItemTree, ProgramTree}
use Rattle.fk_meaning_forms.specs.declared.tables.Region.{Region}
use Rattle.fk_layout_slots.specs.Told.{Told, splits_at, words_at, more}
use Rattle.fk_layout_slots.specs.Words.{declared_words, variables_words, statement_words, statements_words, own_words}
use Rattle.fk_layout_slots.specs.Frames.{last_word, frame, deeper, body_frame, frames_in, all_frames_in, body_frames, regions_of}
use Rattle.fk_layout_slots.specs.Places.{behind_frame, within, outside, behind_private, behind_words, behind_variable, behind_variables, behind_parameter, behind_parameters}
use Rattle.fk_layout_slots.specs.Slots.{behind_body_frame, begun, begun_two, behind, behind_all}

-- the greatest count
abbrev pub most : ℕ
most = 4294967295

abbrev pub count : List Index → ℕ
count indices = length (nodes indices)

pub count_both : (xs ys : List Index) → count (xs ++ ys) ≡ count xs + count ys
count_both [] ys = omega arith
count_both (Node at ∷ xs) ys = omega (arith, count_both xs ys)
count_both (StructName at ∷ xs) ys = omega (arith, count_both xs ys)

-- a program of so many tokens has at most so many nodes
in_list : (n : ℕ) (indices : List Index) → All (λ index. token index < n) indices → (at : ℕ) → list_any (eqb at) (nodes indices) ≡ true → at < n
in_list n [] below at there = absurd (false≢true there)
in_list n (Node k ∷ indices) below at there = elim (or_cases (eqb at k) (list_any (eqb at) (nodes indices)) there) [
  | inl e ↦ let same = eqb-true at k e in let low = All-head (λ index. token index < n) (Node k) indices below in omega (arith, same, low)
  | inr more ↦ in_list n indices (All-tail (λ index. token index < n) (Node k) indices below) at more
]
in_list n (StructName k ∷ indices) below at there = in_list n indices (All-tail (λ index. token index < n) (StructName k) indices below) at there

pub nodes_few : (program : ProgramTree) → IsWellFormed program → count (items_indices program.items) ≤ program.tokens
nodes_few program sound =
    length-le_from_distinct_below (nodes (items_indices program.items)) program.tokens
    (IsDistinct-from_AllPairs Decides-eqb (nodes (items_indices program.items)) sound.distinct) (in_list program.tokens (items_indices program.items) sound.below)

-- ---- one frame

pub frame_counts : (at part level words : ℕ) (taken : _) → let after = behind_frame taken words in taken.frames + length (frame at part level words) ≤ most
    → after.frames ≡ taken.frames + length (frame at part level words)
unfolding behind_frame
frame_counts at part level words taken few = by (words == 0) (record { at = at; part = part; level = level; words = min words (last_word + 1) }) few
  where
    by : (b : Bool) (r : Region) → taken.frames + length (if b then [] else r ∷ []) ≤ most
        → (if b then taken else record taken { frames = more taken.frames 1 }).frames
        ≡ taken.frames + length (if b then [] else r ∷ [])
    by true r few' = let none : taken.frames ≡ taken.frames + 0 = omega arith in none
    by false r few' =
        let low : taken.frames + 1 ≤ most = few' in
        let one : min (taken.frames + 1) 4294967295 ≡ taken.frames + 1 = omega (arith, low) in
        one

one_frame : (at part level words : ℕ) → length (frame at part level words) ≤ 1
one_frame at part level words = by (words == 0) (record { at = at; part = part; level = level; words = min words (last_word + 1) })
  where
    by : (b : Bool) (r : Region) → length (if b then [] else r ∷ []) ≤ 1
    by true r = let none : 0 ≤ 1 = omega arith in none
    by false r = let one : 1 ≤ 1 = omega arith in one

frame_words : (taken : _) (words : ℕ) → let after = behind_frame taken words in after.words ≡ taken.words
unfolding behind_frame
frame_words taken words = by (words == 0)
  where
    by : (b : Bool) → (if b then taken else record taken { frames = more taken.frames 1 }).words ≡ taken.words
    by true = refl
    by false = refl

-- ---- the beginning and the end of a frame

pub within_is : (taken : _) → let after = within taken in (after.words ≡ 0) × (after.frames ≡ taken.frames)
unfolding within
within_is taken = (refl, refl)

outside_is : (before taken : _) → let after = outside before taken in (after.words ≡ before.words) × (after.frames ≡ taken.frames)
unfolding outside
outside_is before taken = (refl, refl)

module _ (told : Told) where
  pub body_frame_counts : (at part level : ℕ) (taken : _) (body : Statement) → let after = behind_body_frame told taken body in
      taken.frames + length (body_frame told at part level body) ≤ most → after.frames ≡ taken.frames + length (body_frame told at part level body)
  body_frame_counts at part level taken body few = frame_counts at part level (statement_words told 0 body) taken few

  one_body_frame : (at part level : ℕ) (body : Statement) → length (body_frame told at part level body) ≤ 1
  one_body_frame at part level body = one_frame at part level (statement_words told 0 body)

  -- ---- variables

  pub variable_words : (taken : _) (x : DeclaredTree) → let after = behind_variable told taken x in (after.words ≡ declared_words told taken.words x) × (after.frames ≡ taken.frames)
  unfolding behind_variable behind_words behind_private
  variable_words taken x = by x.shared
    where
      by : (b : Bool) → ((if b then behind_words told taken x else behind_private taken).words ≡ (if b then more taken.words (words_at told x.name.at) else taken.words))
          × ((if b then behind_words told taken x else behind_private taken).frames ≡ taken.frames)
      by true = (refl, refl)
      by false = (refl, refl)

  pub parameter_words : (taken : _) (x : DeclaredTree) → let after = behind_parameter told taken x in (after.words ≡ declared_words told taken.words x) × (after.frames ≡ taken.frames)
  unfolding behind_parameter behind_words behind_private
  parameter_words taken x = by x.shared
    where
      by : (b : Bool) → ((behind_private (if b then behind_words told taken x else taken)).words ≡ (if b then more taken.words (words_at told x.name.at) else taken.words))
          × ((behind_private (if b then behind_words told taken x else taken)).frames ≡ taken.frames)
      by true = (refl, refl)
      by false = (refl, refl)

  -- so many words and frames are taken
  pub record Has (a b c d : ℕ) : Type 0 where
    pub words : a ≡ c
    pub frames : b ≡ d

  pub all_variables : (taken : _) (xs : List DeclaredTree) → let after = behind_variables told taken xs in Has after.words after.frames (variables_words told taken.words xs) taken.frames
  all_variables taken [] = record { words = refl; frames = refl }
  all_variables taken (x ∷ xs) =
      let one = variable_words taken x in
      let rest = all_variables (behind_variable told taken x) xs in
      let w = rest.words in
      let f = rest.frames in
      record { words = w ∙ ap (λ n. variables_words told n xs) one.0; frames = f ∙ one.1 }

  pub all_parameters : (taken : _) (xs : List DeclaredTree) → let after = behind_parameters told taken xs in
      (after.words ≡ variables_words told taken.words xs) × (after.frames ≡ taken.frames)
  all_parameters taken [] = (refl, refl)
  all_parameters taken (x ∷ xs) =
      let one = parameter_words taken x in
      let rest = all_parameters (behind_parameter told taken x) xs in
      (rest.0 ∙ ap (λ n. variables_words told n xs) one.0, rest.1 ∙ one.1)

  -- ---- statements

  abbrev pub Counts : (level : ℕ) → (taken words frames words' : ℕ) → (List Region) → Type 0
  Counts level taken words frames words' rs = (words ≡ words') × (taken + length rs ≤ most → frames ≡ taken + length rs)

  framed : (level at : ℕ) (taken : _) (body : Statement)
      → (let after = behind told (begun told taken body) body in let first = begun told taken body in
      first.frames + length (frames_in told (deeper level) body) ≤ most → after.frames ≡ first.frames + length (frames_in told (deeper level) body))
      → let last = outside taken (behind told (begun told taken body) body) in
      (last.words ≡ taken.words)
      × (taken.frames + length (body_frame told at 0 (deeper level) body ++ frames_in told (deeper level) body) ≤ most
      → last.frames ≡ taken.frames + length (body_frame told at 0 (deeper level) body ++ frames_in told (deeper level) body))
  framed level at taken body inner =
      let out = outside_is taken (behind told (begun told taken body) body) in
      let long = length-append (body_frame told at 0 (deeper level) body) (frames_in told (deeper level) body) in (
        out.0,
        λ few.
            let first = body_frame_counts at 0 (deeper level) taken body (omega (arith, few, long)) in
            let begins = (within_is (behind_body_frame told taken body)).1 in
            let rest = inner (omega (arith, few, long, first, begins)) in
            omega (arith, out.1, rest, begins, first, long),
      )

  framed_two : (level at : ℕ) (taken : _) (first second : Statement)
      → (let start = begun_two told taken first second in let after = behind told start first in
      start.frames + length (frames_in told (deeper level) first) ≤ most → after.frames ≡ start.frames + length (frames_in told (deeper level) first))
      → (let start = within (behind told (begun_two told taken first second) first) in let after = behind told start second in
      start.frames + length (frames_in told (deeper level) second) ≤ most → after.frames ≡ start.frames + length (frames_in told (deeper level) second))
      → let last = outside taken (behind told (within (behind told (begun_two told taken first second) first)) second) in
      (last.words ≡ taken.words)
      × (taken.frames
      + length (body_frame told at 0 (deeper level) first ++ body_frame told at 1 (deeper level) second ++ frames_in told (deeper level) first ++ frames_in told (deeper level) second) ≤ most
      → last.frames ≡ taken.frames
      + length (body_frame told at 0 (deeper level) first ++ body_frame told at 1 (deeper level) second ++ frames_in told (deeper level) first ++ frames_in told (deeper level) second))
  framed_two level at taken first second one two =
      let a0 = body_frame told at 0 (deeper level) first in
      let b0 = body_frame told at 1 (deeper level) second in
      let a = frames_in told (deeper level) first in
      let b = frames_in told (deeper level) second in
      let out = outside_is taken (behind told (within (behind told (begun_two told taken first second) first)) second) in
      let l1 = length-append (a0 ++ b0 ++ a) b in
      let l2 = length-append (a0 ++ b0) a in
      let l3 = length-append a0 b0 in (
        out.0,
        λ few.
            let f1 = body_frame_counts at 0 (deeper level) taken first (omega (arith, few, l1, l2, l3)) in
            let f2 = body_frame_counts at 1 (deeper level) (behind_body_frame told taken first) second (omega (arith, few, l1, l2, l3, f1)) in
            let w1 = (within_is (behind_body_frame told (behind_body_frame told taken first) second)).1 in
            let i1 = one (omega (arith, few, l1, l2, l3, f1, f2, w1)) in
            let w2 = (within_is (behind told (begun_two told taken first second) first)).1 in
            let i2 = two (omega (arith, few, l1, l2, l3, f1, f2, w1, i1, w2)) in
            omega (arith, out.1, l1, l2, l3, f1, f2, w1, i1, w2, i2),
      )

  both_count : (level : ℕ) (taken : _) (first second : Statement)
      → (let after = behind told taken first in Counts level taken.frames after.words after.frames (statement_words told taken.words first) (frames_in told level first))
      → (let before = behind told taken first in let after = behind told before second in
      Counts level before.frames after.words after.frames (statement_words told before.words second) (frames_in told level second))
      → let after = behind told (behind told taken first) second in
      Counts level taken.frames after.words after.frames (statement_words told (statement_words told taken.words first) second) (frames_in told level first ++ frames_in told level second)
  both_count level taken first second one two =
      let long = length-append (frames_in told level first) (frames_in told level second) in (
        two.0 ∙ ap (λ n. statement_words told n second) one.0,
        λ few. let a = one.1 (omega (arith, few, long)) in let b = two.1 (omega (arith, few, long, a)) in omega (arith, a, b, long),
      )

  either : {S : Type 0} (words frames : S → ℕ) (level taken : ℕ) (b : Bool) (x y : S) (m n : ℕ) (rs qs : List Region)
      → Counts level taken (words x) (frames x) m rs → Counts level taken (words y) (frames y) n qs
      → Counts level taken (words (if b then x else y)) (frames (if b then x else y)) (if b then m else n) (if b then rs else qs)
  either words frames level taken true x y m n rs qs h k = h
  either words frames level taken false x y m n rs qs h k = k

  mutual
    pub statement_counts : (level : ℕ) (taken : _) (x : Statement) → let after = behind told taken x in
        Counts level taken.frames after.words after.frames (statement_words told taken.words x) (frames_in told level x)
    statement_counts level taken p.Empty = (refl, λ few. omega arith)
    statement_counts level taken (p.Expression e) = (refl, λ few. omega arith)
    statement_counts level taken (p.Block list) = statements_counts level taken list
    statement_counts level taken (p.Declare variables) = let all = all_variables taken variables in (all.words, λ few. let f = all.frames in omega (arith, f))
    statement_counts level taken (p.If spot condition first) =
        either (λ t. let u = within t in t.words) (λ t. let u = within t in t.frames) level taken.frames (splits_at told spot.at) (outside taken (behind told (begun told taken first) first)) (behind told taken first) taken.words (statement_words told taken.words first) _ _
        (framed level spot.at taken first (statement_counts (deeper level) (begun told taken first) first).1) (statement_counts level taken first)
    statement_counts level taken (p.IfElse spot condition first second) =
        either (λ t. let u = within t in t.words) (λ t. let u = within t in t.frames) level taken.frames (splits_at told spot.at) (outside taken (behind told (within (behind told (begun_two told taken first second) first)) second))
        (behind told (behind told taken first) second) taken.words (statement_words told (statement_words told taken.words first) second) _ _
        (framed_two level spot.at taken first second (statement_counts (deeper level) (begun_two told taken first second) first).1
        (statement_counts (deeper level) (within (behind told (begun_two told taken first second) first)) second).1)
        (both_count level taken first second (statement_counts level taken first) (statement_counts level (behind told taken first) second))
    statement_counts level taken (p.While spot condition body) =
        either (λ t. let u = within t in t.words) (λ t. let u = within t in t.frames) level taken.frames (splits_at told spot.at) (outside taken (behind told (begun told taken body) body)) (behind told taken body) taken.words (statement_words told taken.words body) _ _
        (framed level spot.at taken body (statement_counts (deeper level) (begun told taken body) body).1) (statement_counts level taken body)
    statement_counts level taken (p.DoWhile spot body condition) =
        either (λ t. let u = within t in t.words) (λ t. let u = within t in t.frames) level taken.frames (splits_at told spot.at) (outside taken (behind told (begun told taken body) body)) (behind told taken body) taken.words (statement_words told taken.words body) _ _
        (framed level spot.at taken body (statement_counts (deeper level) (begun told taken body) body).1) (statement_counts level taken body)
    statement_counts level taken (p.For spot before condition after body) =
        either (λ t. let u = within t in t.words) (λ t. let u = within t in t.frames) level taken.frames (splits_at told spot.at) (outside taken (behind told (begun told taken body) body)) (behind told taken body) taken.words (statement_words told taken.words body) _ _
        (framed level spot.at taken body (statement_counts (deeper level) (begun told taken body) body).1) (statement_counts level taken body)
    statement_counts level taken (p.Start spot count' body) = framed level spot.at taken body (statement_counts (deeper level) (begun told taken body) body).1
    statement_counts level taken (p.Fork spot parts part rank body) = framed level spot.at taken body (statement_counts (deeper level) (begun told taken body) body).1
    statement_counts level taken (p.Farm spot body) = statement_counts (deeper level) taken body
    statement_counts level taken (p.Seq spot body) = statement_counts (deeper level) taken body
    statement_counts level taken (p.Barrier spot) = (refl, λ few. omega arith)
    statement_counts level taken (p.Break spot) = (refl, λ few. omega arith)
    statement_counts level taken (p.Continue spot) = (refl, λ few. omega arith)
    statement_counts level taken (p.Return spot e) = (refl, λ few. omega arith)

    pub statements_counts : (level : ℕ) (taken : _) (xs : Statements) → let after = behind_all told taken xs in
        Counts level taken.frames after.words after.frames (statements_words told taken.words xs) (all_frames_in told level xs)
    statements_counts level taken p.no_statements = (refl, λ few. omega arith)
    statements_counts level taken (p.statement first others) =
        let one = statement_counts level taken first in
        let rest = statements_counts level (behind told taken first) others in
        let long = length-append (frames_in told level first) (all_frames_in told level others) in (
          rest.0 ∙ ap (λ n. statements_words told n others) one.0,
          λ few. let a = one.1 (omega (arith, few, long)) in let b = rest.1 (omega (arith, few, long, a)) in omega (arith, a, b, long),
        )

  -- ---- words only grow

  abbrev pub Grows : ℕ → ℕ → Type 0
  Grows words after = (words ≤ after) × (after ≤ most)

  one_grows : (words : ℕ) → words ≤ most → (x : DeclaredTree) → Grows words (declared_words told words x)
  one_grows words low x = by x.shared
    where
      by : (b : Bool) → Grows words (if b then more words (words_at told x.name.at) else words)
      by true = (omega (arith, low), omega arith)
      by false = (omega arith, low)

  pub variables_grow : (words : ℕ) → words ≤ most → (xs : List DeclaredTree) → Grows words (variables_words told words xs)
  variables_grow words low [] = (omega arith, low)
  variables_grow words low (x ∷ xs) =
      let one = one_grows words low x in
      let rest = variables_grow (declared_words told words x) one.1 xs in
      (omega (arith, one.0, rest.0), rest.1)

  grows_or : (b : Bool) (words m n : ℕ) → Grows words m → Grows words n → Grows words (if b then m else n)
  grows_or true words m n h k = h
  grows_or false words m n h k = k

  mutual
    pub words_grow : (words : ℕ) → words ≤ most → (x : Statement) → Grows words (statement_words told words x)
    words_grow words low (p.Block list) = all_words_grow words low list
    words_grow words low (p.Declare variables) = variables_grow words low variables
    words_grow words low (p.If spot condition first) = grows_or (splits_at told spot.at) words words (statement_words told words first) (omega arith, low) (words_grow words low first)
    words_grow words low (p.IfElse spot condition first second) =
        let one = words_grow words low first in
        let two = words_grow (statement_words told words first) one.1 second in
        grows_or (splits_at told spot.at) words words (statement_words told (statement_words told words first) second) (omega arith, low) (omega (arith, one.0, two.0), two.1)
    words_grow words low (p.While spot condition body) = grows_or (splits_at told spot.at) words words (statement_words told words body) (omega arith, low) (words_grow words low body)
    words_grow words low (p.DoWhile spot body condition) = grows_or (splits_at told spot.at) words words (statement_words told words body) (omega arith, low) (words_grow words low body)
    words_grow words low (p.For spot before condition after body) = grows_or (splits_at told spot.at) words words (statement_words told words body) (omega arith, low) (words_grow words low body)
    words_grow words low (p.Farm spot body) = words_grow words low body
    words_grow words low (p.Seq spot body) = words_grow words low body
    words_grow words low p.Empty = (omega arith, low)
    words_grow words low (p.Expression e) = (omega arith, low)
    words_grow words low (p.Start spot count' body) = (omega arith, low)
    words_grow words low (p.Fork spot parts part rank body) = (omega arith, low)
    words_grow words low (p.Barrier spot) = (omega arith, low)
    words_grow words low (p.Break spot) = (omega arith, low)
    words_grow words low (p.Continue spot) = (omega arith, low)
    words_grow words low (p.Return spot e) = (omega arith, low)

    pub all_words_grow : (words : ℕ) → words ≤ most → (xs : Statements) → Grows words (statements_words told words xs)
    all_words_grow words low p.no_statements = (omega arith, low)
    all_words_grow words low (p.statement first others) =
        let one = words_grow words low first in
        let two = all_words_grow (statement_words told words first) one.1 others in
        (omega (arith, one.0, two.0), two.1)

  -- ---- there are at most twice as many frames as nodes

  few_or : (b : Bool) (xs ys : List Region) (n : ℕ) → length xs ≤ n → length ys ≤ n → length (if b then xs else ys) ≤ n
  few_or true xs ys n h k = h
  few_or false xs ys n h k = k

  one_part : (at level c : ℕ) (body : Statement) → length (frames_in told (deeper level) body) ≤ 2 * c
      → length (body_frame told at 0 (deeper level) body ++ frames_in told (deeper level) body) ≤ 1 + 2 * c
  one_part at level c body few =
      omega (arith, few, one_body_frame at 0 (deeper level) body, length-append (body_frame told at 0 (deeper level) body) (frames_in told (deeper level) body))

  -- a body of a statement, whose other nodes are more or less
  body_or : (at level c n : ℕ) (body : Statement) → length (frames_in told (deeper level) body) ≤ 2 * c → length (frames_in told level body) ≤ 2 * c → 1 + c ≤ n
      → length (if splits_at told at then body_frame told at 0 (deeper level) body ++ frames_in told (deeper level) body else frames_in told level body) ≤ 2 * n
  body_or at level c n body deep same few =
      few_or (splits_at told at) (body_frame told at 0 (deeper level) body ++ frames_in told (deeper level) body) (frames_in told level body) (2 * n) (let part = one_part at level c body deep in omega (arith, part, few)) (omega (arith, same, few))

  mutual
    frames_few : (level : ℕ) (x : Statement) → length (frames_in told level x) ≤ 2 * count (statement_indices x)
    frames_few level (p.Block list) = all_frames_few level list
    frames_few level (p.If spot condition first) =
        body_or spot.at level (count (statement_indices first)) (suc (count (tree_indices condition ++ statement_indices first))) first (frames_few (deeper level) first) (frames_few level first)
        (omega (arith, count_both (tree_indices condition) (statement_indices first)))
    frames_few level (p.IfElse spot condition first second) =
        let i = tree_indices condition in
        let j = statement_indices first in
        let k = statement_indices second in
        let c1 = count_both (i ++ j) k in
        let c2 = count_both i j in
        let a0 = body_frame told spot.at 0 (deeper level) first in
        let b0 = body_frame told spot.at 1 (deeper level) second in
        let a = frames_in told (deeper level) first in
        let b = frames_in told (deeper level) second in
        few_or (splits_at told spot.at) (a0 ++ b0 ++ a ++ b) (frames_in told level first ++ frames_in told level second) (2 * suc (count (i ++ j ++ k)))
        (omega (
          arith,
          c1,
          c2,
          length-append (a0 ++ b0 ++ a) b,
          length-append (a0 ++ b0) a,
          length-append a0 b0,
          one_body_frame spot.at 0 (deeper level) first,
          one_body_frame spot.at 1 (deeper level) second,
          frames_few (deeper level) first,
          frames_few (deeper level) second,
        ))
        (omega (arith, c1, c2, length-append (frames_in told level first) (frames_in told level second), frames_few level first, frames_few level second))
    frames_few level (p.While spot condition body) =
        body_or spot.at level (count (statement_indices body)) (suc (count (tree_indices condition ++ statement_indices body))) body (frames_few (deeper level) body) (frames_few level body)
        (omega (arith, count_both (tree_indices condition) (statement_indices body)))
    frames_few level (p.DoWhile spot body condition) =
        body_or spot.at level (count (statement_indices body)) (suc (count (statement_indices body ++ tree_indices condition))) body (frames_few (deeper level) body) (frames_few level body)
        (omega (arith, count_both (statement_indices body) (tree_indices condition)))
    frames_few level (p.For spot before condition after body) =
        let head = optional_indices before ++ optional_indices condition ++ optional_indices after in
        body_or spot.at level (count (statement_indices body)) (suc (count (head ++ statement_indices body))) body (frames_few (deeper level) body) (frames_few level body)
        (omega (arith, count_both head (statement_indices body)))
    frames_few level (p.Start spot count' body) =
        let part = one_part spot.at level (count (statement_indices body)) body (frames_few (deeper level) body) in
        omega (arith, part, count_both (optional_indices count') (statement_indices body))
    frames_few level (p.Fork spot parts part rank body) =
        let head = tree_indices parts ++ tree_indices part ++ optional_indices rank in
        let whole = one_part spot.at level (count (statement_indices body)) body (frames_few (deeper level) body) in
        omega (arith, whole, count_both head (statement_indices body))
    frames_few level (p.Farm spot body) = omega (arith, frames_few (deeper level) body)
    frames_few level (p.Seq spot body) = omega (arith, frames_few (deeper level) body)
    frames_few level p.Empty = omega arith
    frames_few level (p.Expression e) = omega arith
    frames_few level (p.Declare variables) = omega arith
    frames_few level (p.Barrier spot) = omega arith
    frames_few level (p.Break spot) = omega arith
    frames_few level (p.Continue spot) = omega arith
    frames_few level (p.Return spot e) = omega arith

    all_frames_few : (level : ℕ) (xs : Statements) → length (all_frames_in told level xs) ≤ 2 * count (statements_indices xs)
    all_frames_few level p.no_statements = omega arith
    all_frames_few level (p.statement first others) = omega (
      arith,
      length-append (frames_in told level first) (all_frames_in told level others),
      count_both (statement_indices first) (statements_indices others),
      frames_few level first,
      all_frames_few level others,
    )

  pub regions_few : (xs : List ItemTree) → length (regions_of told xs) ≤ 2 * count (items_indices xs)
  regions_few [] = omega arith
  regions_few (p.StructItem name members ∷ xs) = omega (arith, regions_few xs, count_both (item_indices (p.StructItem name members)) (items_indices xs))
  regions_few (p.VariablesItem variables ∷ xs) = omega (arith, regions_few xs, count_both (item_indices (p.VariablesItem variables)) (items_indices xs))
  regions_few (p.FunctionItem f ∷ xs) = omega (
    arith,
    regions_few xs,
    of_body f.body,
    count_both (item_indices (p.FunctionItem f)) (items_indices xs),
    count_both (type_indices f.result) (Node f.name.at ∷ declarations_indices f.parameters ++ body_indices f.body),
    count_both (declarations_indices f.parameters) (body_indices f.body),
    length-append (body_frames told f.name.at f.parameters f.body) (regions_of told xs),
  )
    where
      of_body : (o : Option Statements) → length (body_frames told f.name.at f.parameters o) ≤ 1 + 2 * count (body_indices o)
      of_body None = omega arith
      of_body (Some body) = omega (
        arith,
        one_frame f.name.at 0 0 (own_words told f.parameters body),
        all_frames_few 0 body,
        length-append (frame f.name.at 0 0 (own_words told f.parameters body)) (all_frames_in told 0 body),
      )
