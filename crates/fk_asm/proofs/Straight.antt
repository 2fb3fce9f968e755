-- For callers: blocks one after another, and lines without labels.
use Rattle.std.proofs.Common.{◌≡◌, ℕ, ◌+◌, ◌*◌, ◌<◌, ◌≤◌, List, [], ◌∷◌, ◌++◌, map, length, Option, Some, None, All, refl, sym, ap, ◌∙◌, append_assoc, arith}
use Rattle.std.specs.List.{enumerate_from}
use Rattle.std.proofs.lemmas.List.{append-nil, map-append, length-append, length-map}
use Rattle.std.proofs.lemmas.List.Elements.{All-nil, All-cons, All-head, All-tail, All-append, All-weaker}
use Rattle.fk_isa.specs.Find.{row}
use Rattle.fk_asm.specs.declared.line.Line.{Line}
use Rattle.fk_asm.specs.Assembly.{Assembly, placed, instructions, next_address, AreFollowed, IsBound}
use Rattle.fk_asm.specs.Block.{MarkedLine, plain, committing, lines_of, entry_at, entries_from, with_block}

-- ---- lines without labels

abbrev pub IsUnlabeled : MarkedLine → Type 0
IsUnlabeled m = m.line.label ≡ None

placed-unlabeled : (bound : List (Option ℕ)) (own : ℕ) (line : Line) → line.label ≡ None → placed bound own line ≡ line.instruction
placed-unlabeled bound own line e = rw e

placed_from-unlabeled : (bound : List (Option ℕ)) (n : ℕ) (block : List MarkedLine) → All IsUnlabeled block → map (λ word. placed bound word.0 word.1) (enumerate_from n (lines_of block)) ≡ map (λ m. m.line.instruction) block
placed_from-unlabeled bound n [] u = refl
placed_from-unlabeled bound n (m ∷ block) u =
    let here = placed-unlabeled bound n m.line (All-head IsUnlabeled m block u) in
    let rest = placed_from-unlabeled bound (n + 1) block (All-tail IsUnlabeled m block u) in
    cc

-- they come to their own instructions
pub instructions-unlabeled : (bound : List (Option ℕ)) (block : List MarkedLine) → All IsUnlabeled block → instructions bound (lines_of block) ≡ map (λ m. m.line.instruction) block
instructions-unlabeled bound block u = placed_from-unlabeled bound 0 block u

map_Some : (block : List MarkedLine) → map Some (map (λ m. m.line.instruction) block) ≡ map (λ m. Some m.line.instruction) block
map_Some [] = refl
map_Some (m ∷ block) = ap (λ rest. Some m.line.instruction ∷ rest) (map_Some block)

-- so the rows of the words that `finish` gives are exactly the instructions
pub rows-unlabeled : (words : List ℕ) (bound : List (Option ℕ)) (block : List MarkedLine) → All IsUnlabeled block → map row words ≡ map Some (instructions bound (lines_of block)) → map row words ≡ map (λ m. Some m.line.instruction) block
rows-unlabeled words bound block u e = e ∙ ap (map Some) (instructions-unlabeled bound block u) ∙ map_Some block

-- and each is bound, as `finish` wants
pub AreBound-unlabeled : (bound : List (Option ℕ)) (block : List MarkedLine) → All IsUnlabeled block → All (IsBound bound) (lines_of block)
AreBound-unlabeled bound [] u = All-nil (IsBound bound)
AreBound-unlabeled bound (m ∷ block) u =
    let e : m.line.label ≡ None = All-head IsUnlabeled m block u in
    All-cons (IsBound bound) m.line (lines_of block) (rw e tt) (AreBound-unlabeled bound block (All-tail IsUnlabeled m block u))

-- ---- blocks one after another

same_assembly : (bound : List (Option ℕ)) (lines lines' : List Line) (commits commits' : List (ℕ × ℕ)) → lines ≡ lines' → commits ≡ commits'
    → ◌≡◌ {A = Assembly} record { lines = lines; bound = bound; commits = commits } record { lines = lines'; bound = bound; commits = commits' }
same_assembly bound lines lines' commits commits' e f = cc

entries_from-append : (k : ℕ) (xs ys : List MarkedLine) → entries_from k (xs ++ ys) ≡ entries_from k xs ++ entries_from (k + length xs) ys
entries_from-append k [] ys = let e : k ≡ k + 0 = omega arith in ap (λ n. entries_from n ys) e
entries_from-append k (m ∷ xs) ys =
    let e : (k + 1) + length xs ≡ k + length (m ∷ xs) = omega arith in
    ap (λ rest. entry_at k m.commit ++ rest) (entries_from-append (k + 1) xs ys ∙ ap (λ n. entries_from (k + 1) xs ++ entries_from n ys) e)
    ∙ sym (append_assoc (entry_at k m.commit) (entries_from (k + 1) xs) (entries_from (k + length (m ∷ xs)) ys))

pub with_block-nil : (a : Assembly) → with_block a [] ≡ a
with_block-nil a =
    same_assembly a.bound (a.lines ++ []) a.lines (a.commits ++ []) a.commits (append-nil a.lines) (append-nil a.commits)

pub with_block-append : (a : Assembly) (xs ys : List MarkedLine) → with_block (with_block a xs) ys ≡ with_block a (xs ++ ys)
with_block-append a xs ys =
    let n : length (a.lines ++ lines_of xs) ≡ length a.lines + length xs = length-append a.lines (lines_of xs) ∙ ap (λ m. length a.lines + m) (length-map xs (λ m. m.line)) in
    let lines = append_assoc a.lines (lines_of xs) (lines_of ys) ∙ ap (λ l. a.lines ++ l) (sym (map-append (λ m. m.line) xs ys)) in
    let entries = append_assoc a.commits (entries_from (length a.lines) xs) (entries_from (length a.lines + length xs) ys) ∙ ap (λ l. a.commits ++ l) (sym (entries_from-append (length a.lines) xs ys)) in
    same_assembly a.bound _ _ _ _ lines (ap (λ k. a.commits ++ entries_from (length a.lines) xs ++ entries_from k ys) n ∙ entries)

-- `emit` and `jump` add a block of one line
pub with_block-plain : (a : Assembly) (line : Line) → record a { lines = a.lines ++ line ∷ [] } ≡ with_block a (plain line ∷ [])
with_block-plain a line =
    same_assembly a.bound (a.lines ++ line ∷ []) (a.lines ++ line ∷ []) a.commits (a.commits ++ []) refl (sym (append-nil a.commits))

-- so do `commit` and then `emit` or `jump`
pub with_block-committing : (a : Assembly) (line : Line) (commit : ℕ) → record a { lines = a.lines ++ line ∷ []; commits = a.commits ++ (next_address a, commit) ∷ [] } ≡ with_block a (committing line commit ∷ [])
with_block-committing a line commit = refl

AreBelow-entry : (k n : ℕ) (commit : Option ℕ) → k < n → All (λ e. e.0 < 4 * n) (entry_at k commit)
AreBelow-entry k n None h = All-nil (λ e. e.0 < 4 * n)
AreBelow-entry k n (Some commit) h =
    All-cons (λ e. e.0 < 4 * n) (4 * k, commit) [] (omega arith) (All-nil (λ e. e.0 < 4 * n))

AreBelow-entries : (k n : ℕ) (block : List MarkedLine) → k + length block ≤ n → All (λ e. e.0 < 4 * n) (entries_from k block)
AreBelow-entries k n [] h = All-nil (λ e. e.0 < 4 * n)
AreBelow-entries k n (m ∷ block) h =
    All-append (λ e. e.0 < 4 * n) (entry_at k m.commit) (entries_from (k + 1) block) (AreBelow-entry k n m.commit (omega arith)) (AreBelow-entries (k + 1) n block (omega arith))

-- a word follows each commit after a block, if one did before it
pub AreFollowed-with_block : (a : Assembly) (block : List MarkedLine) → AreFollowed a → AreFollowed (with_block a block)
AreFollowed-with_block a block f =
    let n : length (a.lines ++ lines_of block) ≡ length a.lines + length block = length-append a.lines (lines_of block) ∙ ap (λ m. length a.lines + m) (length-map block (λ m. m.line)) in
    let P : ℕ × ℕ → Type 0 = λ e. e.0 < 4 * length (a.lines ++ lines_of block) in
    All-append P a.commits (entries_from (length a.lines) block)
    (All-weaker (λ e. e.0 < next_address a) P (λ e h. omega arith) a.commits f)
    (AreBelow-entries (length a.lines) (length (a.lines ++ lines_of block)) block (omega arith))
