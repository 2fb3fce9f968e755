-- Which group frames a program has: those of its functions stand at their names, and those of parts at statements.
use Rattle.std.proofs.Common.{◌≡◌, ◌⊎◌, inl, inr, ℕ, suc, ◌+◌, ◌≤◌, Bool, true, false, List, [], ◌∷◌, ◌++◌, Option, Some, None, slice_get, refl, sym, subst, arith}
use Rattle.std.specs.Prelude.{◌==◌, ◌&&◌, min, if◌then◌else◌}
use Rattle.std.proofs.lemmas.Bool.{ne_eqb, eqb-true, and_parts}
use Rattle.std.proofs.lemmas.List.Sums.{sum_by-cons, sum_by-append}
use Rattle.fk_syntax.specs.declared.nodes.Index.{Index}
use Rattle.fk_syntax.specs.declared.nodes.Index.TheVariants.{Node}
use Rattle.fk_syntax.specs.declared.place.Spot.{Spot}
use Rattle.fk_syntax.specs.Nodes.{tree_indices, optional_indices, type_indices, declarations_indices, statement_indices, statements_indices, body_indices, item_indices, items_indices}
use Rattle.fk_syntax.specs.Program as p
use Rattle.fk_syntax.specs.Program.{DeclaredTree, Statement, Statements, FunctionTree, ItemTree}
use Rattle.fk_meaning_forms.specs.declared.tables.Region.{Region}
use Rattle.fk_meaning_forms.specs.Tables.{Tables, frame_in}
use Rattle.fk_layout_slots.specs.Told.{Told, splits_at}
use Rattle.fk_layout_slots.specs.Words.{statement_words, own_words}
use Rattle.fk_layout_slots.specs.Frames.{last_word, frame, deeper, body_frame, frames_in, all_frames_in, body_frames, regions_of}
use Rattle.fk_types_rules.proofs.Counting.{one-same, by_node, by, times, node_times}
use Rattle.fk_lockstep_structure.specs.Inner.{is_own}
use Rattle.fk_check_laws.proofs.Each.{Each, each_map}

pub each_append : {X : Type 0} (P : X → Type 0) (xs ys : List X) → Each P xs → Each P ys → Each P (xs ++ ys)
each_append P [] ys h g = g
each_append P (x ∷ xs) ys h g = (h.0, each_append P xs ys h.1 g)

each_of : {X : Type 0} (P : X → Type 0) (b : Bool) (xs ys : List X) → Each P xs → Each P ys → Each P (if b then xs else ys)
each_of P true xs ys h g = h
each_of P false xs ys h g = g

-- ---- a token is a node of these

abbrev pub Covers : ℕ → List Index → Type 0
Covers at indices = 1 ≤ node_times at indices

pub here : (at : ℕ) (i : List Index) → Covers at (Node at ∷ i)
here at i = omega (arith, sum_by-cons (by_node at) (Node at) i, one-same at at refl)

pub under : (k at : ℕ) (i : List Index) → Covers at i → Covers at (Node k ∷ i)
under k at i h = omega (arith, h, sum_by-cons (by_node at) (Node k) i)

pub right : (at : ℕ) (i j : List Index) → Covers at j → Covers at (i ++ j)
right at i j h = omega (arith, h, sum_by-append (by_node at) i j)

pub left : (at : ℕ) (i j : List Index) → Covers at i → Covers at (i ++ j)
left at i j h = omega (arith, h, sum_by-append (by_node at) i j)

-- ---- frames of parts

abbrev pub IsDeep : Region → Type 0
IsDeep r = (r.level == 0) ≡ false

abbrev pub Within : List Index → Region → Type 0
Within indices r = IsDeep r × Covers r.at indices

deeper_deep : (level : ℕ) → (deeper level == 0) ≡ false
deeper_deep level = ne_eqb (deeper level) 0 (λ e. omega (arith, e))

frame_of : (P : Region → Type 0) (at part level words : ℕ) → P (record { at = at; part = part; level = level; words = min words (last_word + 1) }) → Each P (frame at part level words)
frame_of P at part level words h = by (words == 0)
  where
    by : (b : Bool) → Each P (if b then [] else record { at = at; part = part; level = level; words = min words (last_word + 1) } ∷ [])
    by true = tt
    by false = (h, tt)

wider : (i j : List Index) (rs : List Region) → ((at : ℕ) → Covers at i → Covers at j) → Each (Within i) rs → Each (Within j) rs
wider i j rs f h = each_map (Within i) (Within j) (λ r g. (g.0, f r.at g.1)) rs h

-- ---- of a program

abbrev pub all_functions : List ItemTree → List FunctionTree
all_functions [] = []
all_functions (p.StructItem name members ∷ items) = all_functions items
all_functions (p.VariablesItem variables ∷ items) = all_functions items
all_functions (p.FunctionItem f ∷ items) = f ∷ all_functions items

abbrev pub bodies : List ItemTree → List Index
bodies [] = []
bodies (p.StructItem name members ∷ items) = bodies items
bodies (p.VariablesItem variables ∷ items) = bodies items
bodies (p.FunctionItem f ∷ items) = body_indices f.body ++ bodies items

abbrev pub name_at : FunctionTree → ℕ
name_at f = f.name.at

pub counts : (at : ℕ) (items : List ItemTree) → times name_at at (all_functions items) + node_times at (bodies items) ≤ node_times at (items_indices items)
counts at [] = omega arith
counts at (p.StructItem name members ∷ items) = omega (arith, counts at items, sum_by-append (by_node at) (item_indices (p.StructItem name members)) (items_indices items))
counts at (p.VariablesItem variables ∷ items) = omega (arith, counts at items, sum_by-append (by_node at) (item_indices (p.VariablesItem variables)) (items_indices items))
counts at (p.FunctionItem f ∷ items) = omega (
  arith,
  counts at items,
  sum_by-append (by_node at) (item_indices (p.FunctionItem f)) (items_indices items),
  sum_by-append (by_node at) (type_indices f.result) (Node f.name.at ∷ declarations_indices f.parameters ++ body_indices f.body),
  sum_by-cons (by_node at) (Node f.name.at) (declarations_indices f.parameters ++ body_indices f.body),
  sum_by-append (by_node at) (declarations_indices f.parameters) (body_indices f.body),
  sum_by-cons (by name_at at) f (all_functions items),
  sum_by-append (by_node at) (body_indices f.body) (bodies items),
)

module _ (told : Told) where
  -- the frame of a body at a statement, and those in it
  body_within : (spot : Spot) (part level : ℕ) (body : Statement) (more : List Index) → Each (Within (Node spot.at ∷ more)) (body_frame told spot.at part (deeper level) body)
  body_within spot part level body more =
      frame_of (Within (Node spot.at ∷ more)) spot.at part (deeper level) (statement_words told 0 body) (deeper_deep level, here spot.at more)

  one_body : (spot : Spot) (level : ℕ) (body : Statement) (more : List Index) → ((at : ℕ) → Covers at (statement_indices body) → Covers at more)
      → Each (Within (statement_indices body)) (frames_in told (deeper level) body) → Each (Within (statement_indices body)) (frames_in told level body)
      → Each (Within (Node spot.at ∷ more)) (
      if splits_at told spot.at then body_frame told spot.at 0 (deeper level) body ++ frames_in told (deeper level) body else frames_in told level body)
  one_body spot level body more f deep same =
      let up : (at : ℕ) → Covers at (statement_indices body) → Covers at (Node spot.at ∷ more) = λ at h. under spot.at at more (f at h) in
      each_of (Within (Node spot.at ∷ more)) (splits_at told spot.at) (body_frame told spot.at 0 (deeper level) body ++ frames_in told (deeper level) body) (frames_in told level body)
      (each_append (Within (Node spot.at ∷ more)) (body_frame told spot.at 0 (deeper level) body) (frames_in told (deeper level) body) (body_within spot 0 level body more)
      (wider (statement_indices body) (Node spot.at ∷ more) (frames_in told (deeper level) body) up deep))
      (wider (statement_indices body) (Node spot.at ∷ more) (frames_in told level body) up same)

  part_body : (spot : Spot) (level : ℕ) (body : Statement) (more : List Index) → ((at : ℕ) → Covers at (statement_indices body) → Covers at more)
      → Each (Within (statement_indices body)) (frames_in told (deeper level) body)
      → Each (Within (Node spot.at ∷ more)) (body_frame told spot.at 0 (deeper level) body ++ frames_in told (deeper level) body)
  part_body spot level body more f deep =
      each_append (Within (Node spot.at ∷ more)) (body_frame told spot.at 0 (deeper level) body) (frames_in told (deeper level) body) (body_within spot 0 level body more)
      (wider (statement_indices body) (Node spot.at ∷ more) (frames_in told (deeper level) body) (λ at h. under spot.at at more (f at h)) deep)

  mutual
    pub in_statement : (level : ℕ) (x : Statement) → Each (Within (statement_indices x)) (frames_in told level x)
    in_statement level (p.Block list) = in_statements level list
    in_statement level (p.If spot condition first) =
        one_body spot level first (tree_indices condition ++ statement_indices first) (λ at h. right at (tree_indices condition) (statement_indices first) h)
        (in_statement (deeper level) first) (in_statement level first)
    in_statement level (p.IfElse spot condition first second) =
        let i = tree_indices condition in
        let j = statement_indices first in
        let k = statement_indices second in
        let more = i ++ j ++ k in
        let P = Within (Node spot.at ∷ more) in
        let up_a : (at : ℕ) → Covers at j → Covers at (Node spot.at ∷ more) = λ at h. under spot.at at more (left at (i ++ j) k (right at i j h)) in
        let up_b : (at : ℕ) → Covers at k → Covers at (Node spot.at ∷ more) = λ at h. under spot.at at more (right at (i ++ j) k h) in
        let a0 = body_frame told spot.at 0 (deeper level) first in
        let b0 = body_frame told spot.at 1 (deeper level) second in
        let a = frames_in told (deeper level) first in
        let b = frames_in told (deeper level) second in
        each_of P (splits_at told spot.at) (a0 ++ b0 ++ a ++ b) (frames_in told level first ++ frames_in told level second)
        (each_append P (a0 ++ b0 ++ a) b
        (each_append P (a0 ++ b0) a
        (each_append P a0 b0 (body_within spot 0 level first more) (body_within spot 1 level second more))
        (wider j (Node spot.at ∷ more) a up_a (in_statement (deeper level) first)))
        (wider k (Node spot.at ∷ more) b up_b (in_statement (deeper level) second)))
        (each_append P (frames_in told level first) (frames_in told level second)
        (wider j (Node spot.at ∷ more) (frames_in told level first) up_a (in_statement level first))
        (wider k (Node spot.at ∷ more) (frames_in told level second) up_b (in_statement level second)))
    in_statement level (p.While spot condition body) =
        one_body spot level body (tree_indices condition ++ statement_indices body) (λ at h. right at (tree_indices condition) (statement_indices body) h)
        (in_statement (deeper level) body) (in_statement level body)
    in_statement level (p.DoWhile spot body condition) =
        one_body spot level body (statement_indices body ++ tree_indices condition) (λ at h. left at (statement_indices body) (tree_indices condition) h)
        (in_statement (deeper level) body) (in_statement level body)
    in_statement level (p.For spot before condition after body) =
        let more = optional_indices before ++ optional_indices condition ++ optional_indices after in
        one_body spot level body (more ++ statement_indices body) (λ at h. right at more (statement_indices body) h)
        (in_statement (deeper level) body) (in_statement level body)
    in_statement level (p.Start spot count body) =
        part_body spot level body (optional_indices count ++ statement_indices body) (λ at h. right at (optional_indices count) (statement_indices body) h) (in_statement (deeper level) body)
    in_statement level (p.Fork spot parts part rank body) =
        let more = tree_indices parts ++ tree_indices part ++ optional_indices rank in
        part_body spot level body (more ++ statement_indices body) (λ at h. right at more (statement_indices body) h) (in_statement (deeper level) body)
    in_statement level (p.Farm spot body) =
        wider (statement_indices body) (Node spot.at ∷ statement_indices body) (frames_in told (deeper level) body) (λ at h. under spot.at at (statement_indices body) h) (in_statement (deeper level) body)
    in_statement level (p.Seq spot body) =
        wider (statement_indices body) (Node spot.at ∷ statement_indices body) (frames_in told (deeper level) body) (λ at h. under spot.at at (statement_indices body) h) (in_statement (deeper level) body)
    in_statement level p.Empty = tt
    in_statement level (p.Expression value) = tt
    in_statement level (p.Declare variables) = tt
    in_statement level (p.Barrier spot) = tt
    in_statement level (p.Break spot) = tt
    in_statement level (p.Continue spot) = tt
    in_statement level (p.Return spot value) = tt

    pub in_statements : (level : ℕ) (xs : Statements) → Each (Within (statements_indices xs)) (all_frames_in told level xs)
    in_statements level p.no_statements = tt
    in_statements level (p.statement first others) =
        let i = statement_indices first in
        let j = statements_indices others in
        each_append (Within (i ++ j)) (frames_in told level first) (all_frames_in told level others)
        (wider i (i ++ j) (frames_in told level first) (λ at h. left at i j h) (in_statement level first))
        (wider j (i ++ j) (all_frames_in told level others) (λ at h. right at i j h) (in_statements level others))

  -- a frame of a function has words, and is on level 0
  pub record IsOwn (items : List ItemTree) (r : Region) : Type 0 where
    pub function : FunctionTree
    pub index : ℕ
    pub there : slice_get (all_functions items) index ≡ Some function
    pub body : Statements
    pub has : function.body ≡ Some body
    pub same : r.at ≡ function.name.at
    pub words : (own_words told function.parameters body == 0) ≡ false
    pub level : r.level ≡ 0

  abbrev pub OfText : List ItemTree → Region → Type 0
  OfText items r = Within (bodies items) r ⊎ IsOwn items r

  behind : (item : ItemTree) (items : List ItemTree) (r : Region) → OfText items r → OfText (item ∷ items) r
  behind (p.StructItem name members) items r (inl w) = inl w
  behind (p.StructItem name members) items r (inr o) = inr (record { function = o.function; index = o.index; there = o.there; body = o.body; has = o.has; same = o.same; words = o.words; level = o.level })
  behind (p.VariablesItem variables) items r (inl w) = inl w
  behind (p.VariablesItem variables) items r (inr o) = inr (record { function = o.function; index = o.index; there = o.there; body = o.body; has = o.has; same = o.same; words = o.words; level = o.level })
  behind (p.FunctionItem f) items r (inl w) = inl (w.0, right r.at (body_indices f.body) (bodies items) w.1)
  behind (p.FunctionItem f) items r (inr o) = inr (record { function = o.function; index = suc o.index; there = o.there; body = o.body; has = o.has; same = o.same; words = o.words; level = o.level })

  of_function : (f : FunctionTree) (items : List ItemTree) (body : Option Statements) → f.body ≡ body → Each (OfText (p.FunctionItem f ∷ items)) (body_frames told f.name.at f.parameters body)
  of_function f items None has = tt
  of_function f items (Some body) has =
      let P = OfText (p.FunctionItem f ∷ items) in
      each_append P (frame f.name.at 0 0 (own_words told f.parameters body)) (all_frames_in told 0 body) (own (own_words told f.parameters body == 0) refl)
      (each_map (Within (statements_indices body)) P
      (λ r w. inl (w.0, left r.at (body_indices f.body) (bodies items) (subst (λ o. Covers r.at (body_indices o)) (sym has) w.1))) (all_frames_in told 0 body) (in_statements 0 body))
    where
      own : (b : Bool) → (own_words told f.parameters body == 0) ≡ b
          → Each (OfText (p.FunctionItem f ∷ items)) (if b then [] else record { at = f.name.at; part = 0; level = 0; words = min (own_words told f.parameters body) (last_word + 1) } ∷ [])
      own true e = tt
      own false e = (inr (record { function = f; index = 0; there = refl; body = body; has = has; same = refl; words = e; level = refl }), tt)

  pub of_text : (items : List ItemTree) → Each (OfText items) (regions_of told items)
  of_text [] = tt
  of_text (p.StructItem name members ∷ items) =
      each_map (OfText items) (OfText (p.StructItem name members ∷ items)) (λ r h. behind (p.StructItem name members) items r h) (regions_of told items) (of_text items)
  of_text (p.VariablesItem variables ∷ items) =
      each_map (OfText items) (OfText (p.VariablesItem variables ∷ items)) (λ r h. behind (p.VariablesItem variables) items r h) (regions_of told items) (of_text items)
  of_text (p.FunctionItem f ∷ items) =
      each_append (OfText (p.FunctionItem f ∷ items)) (body_frames told f.name.at f.parameters f.body) (regions_of told items) (of_function f items f.body refl)
      (each_map (OfText items) (OfText (p.FunctionItem f ∷ items)) (λ r h. behind (p.FunctionItem f) items r h) (regions_of told items) (of_text items))

-- ---- the frame at a token

pub found_deep : (tables : Tables) (P : Region → Type 0) (at part : ℕ) → ((r : Region) → P r → r.at ≡ at → IsDeep r) → (rs : List Region) → Each P rs → is_own (frame_in tables rs at part) ≡ false
found_deep tables P at part deep [] h = refl
found_deep tables P at part deep (r ∷ rs) h = by (found_deep tables P at part deep rs h.1) ((r.at == at) && (r.part == part)) refl
  where
    by : is_own (frame_in tables rs at part) ≡ false → (b : Bool) → ((r.at == at) && (r.part == part)) ≡ b → is_own (if b then Some r else frame_in tables rs at part) ≡ false
    by others true e = deep r h.0 (eqb-true r.at at (and_parts (r.at == at) (r.part == part) e).0)
    by others false e = others

pub found_none : (tables : Tables) (P : Region → Type 0) (at part : ℕ) → ((r : Region) → P r → r.at ≡ at → ⊥) → (rs : List Region) → Each P rs → frame_in tables rs at part ≡ None
found_none tables P at part never [] h = refl
found_none tables P at part never (r ∷ rs) h = by (found_none tables P at part never rs h.1) ((r.at == at) && (r.part == part)) refl
  where
    by : frame_in tables rs at part ≡ None → (b : Bool) → ((r.at == at) && (r.part == part)) ≡ b → (if b then Some r else frame_in tables rs at part) ≡ None
    by others true e = absurd (never r h.0 (eqb-true r.at at (and_parts (r.at == at) (r.part == part) e).0))
    by others false e = others
