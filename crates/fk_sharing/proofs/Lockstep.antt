-- Each token by which a group can split stands in the list of all tokens too, in the same region.
use Rattle.std.proofs.Common.{◌≡◌, ◌⊎◌, inl, inr, ℕ, zero, suc, ◌&&◌, Bool, true, false, List, [], ◌∷◌, ◌++◌, Option, Some, None, slice_get, if◌then◌else◌, refl, subst, ◌∙◌}
use Rattle.fk_syntax.specs.declared.place.Spot.{Spot}
use Rattle.fk_syntax.specs.declared.program.Mode.{Mode}
use Rattle.fk_syntax.specs.Tree as t
use Rattle.fk_syntax.specs.Tree.{Tree, Links, Trees, Suffixes}
use Rattle.fk_syntax.specs.Program as p
use Rattle.fk_syntax.specs.Program.{DeclaredTree, Statement, Statements, ItemTree, ProgramTree}
use Rattle.fk_sharing_class.specs.declared.thing.Thing.{Thing}
use Rattle.fk_sharing_class.specs.Class.{is_shared, is_call_shared, is_joined_shared}
use Rattle.fk_regions.specs.declared.around.Holder.TheVariants as g
use Rattle.fk_regions.specs.declared.around.Holder as bare
use Rattle.fk_regions.specs.declared.around.Region.{Region}
use Rattle.fk_regions.specs.declared.around.Region.TheVariants.{Synchronous, Asynchronous, Neither}
use Rattle.fk_regions.specs.Around as r
use Rattle.fk_regions.specs.Around.{region_by}
use Rattle.fk_regions.specs.Tokens as k
use Rattle.fk_regions.specs.Broken.{IsSynchronous}
use Rattle.fk_sharing.specs.declared.around.Holder.{Holder}
use Rattle.fk_sharing.specs.declared.around.Holder.TheVariants as h
use Rattle.fk_sharing.specs.declared.token.Word.{Word}
use Rattle.fk_sharing.specs.declared.token.Word.TheVariants as w
use Rattle.fk_sharing.specs.Tokens.{TokenIn, plain, tree_tokens, links_tokens, trees_tokens, suffixes_tokens, optional_tokens, is_condition_shared, variables_tokens, variable_tokens, condition_tokens, head_tokens, parts_tokens, statement_tokens, statements_tokens, parameters_tokens, body_tokens, item_tokens, items_tokens, tokens}
use Rattle.fk_sharing.specs.Around.{region, splits}
use Rattle.fk_sharing.specs.Broken.{is_splitting, SplitsAt}

abbrev Bare : Type 0
Bare = bare.Holder

abbrev Ours : Type 0
Ours = TokenIn (List Holder)

abbrev Theirs : Type 0
Theirs = k.TokenIn (List Bare)

-- one of the elements is so
abbrev SomeIn : {X : Type 0} → (X → Type 0) → List X → Type 0
SomeIn P [] = ⊥
SomeIn P (x ∷ xs) = P x ⊎ SomeIn P xs

-- the same token, in the same region
abbrev Matches : Ours → Theirs → Type 0
Matches x y = (y.spot.at ≡ x.spot.at) × (r.region y.around ≡ region x.around)

abbrev is_decision : Word → Bool
is_decision (w.Decides shared) = true
is_decision _ = false

abbrev IsFound : List Theirs → Ours → Type 0
IsFound ys x = is_decision x.word ≡ true → SomeIn (Matches x) ys

-- each decision of one list stands in another
abbrev Covered : List Ours → List Theirs → Type 0
Covered [] ys = Unit {0}
Covered (x ∷ xs) ys = IsFound ys x × Covered xs ys

some-left : {X : Type 0} (P : X → Type 0) (xs ys : List X) → SomeIn P xs → SomeIn P (xs ++ ys)
some-left P [] ys h = absurd h
some-left P (x ∷ xs) ys (inl h) = inl h
some-left P (x ∷ xs) ys (inr h) = inr (some-left P xs ys h)

some-right : {X : Type 0} (P : X → Type 0) (xs ys : List X) → SomeIn P ys → SomeIn P (xs ++ ys)
some-right P [] ys h = h
some-right P (x ∷ xs) ys h = inr (some-right P xs ys h)

wider : (ys zs : List Theirs) → ((x : Ours) → SomeIn (Matches x) ys → SomeIn (Matches x) zs) → (xs : List Ours) → Covered xs ys → Covered xs zs
wider ys zs f [] c = tt
wider ys zs f (x ∷ xs) c = (λ d. f x (c.0 d), wider ys zs f xs c.1)

left : (xs : List Ours) (ys zs : List Theirs) → Covered xs ys → Covered xs (ys ++ zs)
left xs ys zs c = wider ys (ys ++ zs) (λ x s. some-left (Matches x) ys zs s) xs c

right : (xs : List Ours) (ys zs : List Theirs) → Covered xs zs → Covered xs (ys ++ zs)
right xs ys zs c = wider zs (ys ++ zs) (λ x s. some-right (Matches x) ys zs s) xs c

later : (xs : List Ours) (y : Theirs) (ys : List Theirs) → Covered xs ys → Covered xs (y ∷ ys)
later xs y ys c = wider ys (y ∷ ys) (λ x s. inr s) xs c

append : (xs vs : List Ours) (ys : List Theirs) → Covered xs ys → Covered vs ys → Covered (xs ++ vs) ys
append [] vs ys c d = d
append (x ∷ xs) vs ys c d = (c.0, append xs vs ys c.1 d)

join : (xs vs : List Ours) (ys zs : List Theirs) → Covered xs ys → Covered vs zs → Covered (xs ++ vs) (ys ++ zs)
join xs vs ys zs c d = append xs vs (ys ++ zs) (left xs ys zs c) (right vs ys zs d)

-- a token behind its parts, which stands before them in the other list
behind : (xs : List Ours) (x : Ours) (y : Theirs) (ys : List Theirs) → Covered xs ys → Matches x y → Covered (xs ++ x ∷ []) (y ∷ ys)
behind xs x y ys c m = append xs (x ∷ []) (y ∷ ys) (later xs y ys c) (λ d. inl m, tt)

-- and more behind it
between : (xs : List Ours) (x : Ours) (vs : List Ours) (y : Theirs) (ys zs : List Theirs) → Covered xs ys → Matches x y → Covered vs zs → Covered (xs ++ x ∷ vs) (y ∷ (ys ++ zs))
between xs x vs y ys zs c m d = append xs (x ∷ vs) (y ∷ (ys ++ zs)) (later xs y (ys ++ zs) (left xs ys zs c)) (λ e. inl m, later vs y (ys ++ zs) (right vs ys zs d))

before : (x : Ours) (vs : List Ours) (y : Theirs) (zs : List Theirs) → Matches x y → Covered vs zs → Covered (x ∷ vs) (y ∷ zs)
before x vs y zs m d = (λ e. inl m, later vs y zs d)

module _ (thing : ℕ → Option Thing) where
  mutual
    tree-covered : (a : List Holder) (b : List Bare) → r.region b ≡ region a → (tree : Tree) → Covered (tree_tokens thing a tree) (k.tree_tokens b tree)
    tree-covered a b e (t.Number spot value unsigned) = (λ d. inl (refl, e), tt)
    tree-covered a b e (t.Puts spot text) = (λ d. inl (refl, e), tt)
    tree-covered a b e (t.Sizeof spot type) = (λ d. inl (refl, e), tt)
    tree-covered a b e (t.Variable name) = (λ d. inl (refl, e), tt)
    tree-covered a b e (t.GroupNumber spot) = (λ d. inl (refl, e), tt)
    tree-covered a b e (t.GroupRank spot) = (λ d. inl (refl, e), tt)
    tree-covered a b e (t.Prefix spot sign operand) = behind (tree_tokens thing a operand) _ _ (k.tree_tokens b operand) (tree-covered a b e operand) (refl, e)
    tree-covered a b e (t.Cast spot type operand) = behind (tree_tokens thing a operand) _ _ (k.tree_tokens b operand) (tree-covered a b e operand) (refl, e)
    tree-covered a b e (t.Chain first links) = join (tree_tokens thing a first) _ (k.tree_tokens b first) _ (tree-covered a b e first) (links-covered a b e (is_shared thing first) links)
    tree-covered a b e (t.Postfix whole suffixes) = join (tree_tokens thing a whole) _ (k.tree_tokens b whole) _ (tree-covered a b e whole) (suffixes-covered a b e (is_shared thing whole) (is_call_shared thing whole) suffixes)
    tree-covered a b e (t.Assign spot sign target value) = behind (tree_tokens thing a target ++ tree_tokens thing a value) _ _ (k.tree_tokens b target ++ k.tree_tokens b value) (join (tree_tokens thing a target) (tree_tokens thing a value) (k.tree_tokens b target) (k.tree_tokens b value) (tree-covered a b e target) (tree-covered a b e value)) (refl, e)
    tree-covered a b e (t.Choose spot condition first second) = behind (tree_tokens thing a condition ++ tree_tokens thing a first ++ tree_tokens thing a second) _ _ (k.tree_tokens b condition ++ k.tree_tokens b first ++ k.tree_tokens b second)
        (join (tree_tokens thing a condition ++ tree_tokens thing a first) (tree_tokens thing a second) (k.tree_tokens b condition ++ k.tree_tokens b first) (k.tree_tokens b second)
        (join (tree_tokens thing a condition) (tree_tokens thing a first) (k.tree_tokens b condition) (k.tree_tokens b first) (tree-covered a b e condition) (tree-covered a b e first)) (tree-covered a b e second)) (refl, e)

    links-covered : (a : List Holder) (b : List Bare) → r.region b ≡ region a → (shared : Bool) (links : Links) → Covered (links_tokens thing a shared links) (k.links_tokens b links)
    links-covered a b e shared t.no_links = tt
    links-covered a b e shared (t.link spot sign right others) = between (tree_tokens thing a right) _ (links_tokens thing a (is_joined_shared sign shared (is_shared thing right)) others) _ (k.tree_tokens b right) (k.links_tokens b others) (tree-covered a b e right) (refl, e) (links-covered a b e (is_joined_shared sign shared (is_shared thing right)) others)

    trees-covered : (a : List Holder) (b : List Bare) → r.region b ≡ region a → (trees : Trees) → Covered (trees_tokens thing a trees) (k.trees_tokens b trees)
    trees-covered a b e t.no_trees = tt
    trees-covered a b e (t.tree first others) = join (tree_tokens thing a first) (trees_tokens thing a others) (k.tree_tokens b first) (k.trees_tokens b others) (tree-covered a b e first) (trees-covered a b e others)

    suffixes-covered : (a : List Holder) (b : List Bare) → r.region b ≡ region a → (shared called : Bool) (suffixes : Suffixes) → Covered (suffixes_tokens thing a shared called suffixes) (k.suffixes_tokens b suffixes)
    suffixes-covered a b e shared called t.no_suffixes = tt
    suffixes-covered a b e shared called (t.index spot by others) = between (tree_tokens thing a by) _ (suffixes_tokens thing a (shared && is_shared thing by) false others) _ (k.tree_tokens b by) (k.suffixes_tokens b others) (tree-covered a b e by) (refl, e) (suffixes-covered a b e (shared && is_shared thing by) false others)
    suffixes-covered a b e shared called (t.call spot arguments others) = between (trees_tokens thing a arguments) _ (suffixes_tokens thing a called false others) _ (k.trees_tokens b arguments) (k.suffixes_tokens b others) (trees-covered a b e arguments) (refl, e) (suffixes-covered a b e called false others)
    suffixes-covered a b e shared called (t.dot spot member others) = before (plain a spot shared) (suffixes_tokens thing a shared false others) _ _ (refl, e) (later (suffixes_tokens thing a shared false others) _ (k.suffixes_tokens b others) (suffixes-covered a b e shared false others))
    suffixes-covered a b e shared called (t.arrow spot member others) = before (plain a spot shared) (suffixes_tokens thing a shared false others) _ _ (refl, e) (later (suffixes_tokens thing a shared false others) _ (k.suffixes_tokens b others) (suffixes-covered a b e shared false others))
    suffixes-covered a b e shared called (t.up spot others) = before (plain a spot shared) (suffixes_tokens thing a shared false others) _ (k.suffixes_tokens b others) (refl, e) (suffixes-covered a b e shared false others)
    suffixes-covered a b e shared called (t.down spot others) = before (plain a spot shared) (suffixes_tokens thing a shared false others) _ (k.suffixes_tokens b others) (refl, e) (suffixes-covered a b e shared false others)

  optional-covered : (a : List Holder) (b : List Bare) → r.region b ≡ region a → (tree : Option Tree) → Covered (optional_tokens thing a tree) (k.optional_tokens b tree)
  optional-covered a b e None = tt
  optional-covered a b e (Some tree) = tree-covered a b e tree

  variables-covered : (a : List Holder) (b : List Bare) → r.region b ≡ region a → (variables : List DeclaredTree) → Covered (variables_tokens thing a variables) (k.variables_tokens b variables)
  variables-covered a b e [] = tt
  variables-covered a b e (x ∷ xs) = join (variable_tokens thing a x) (variables_tokens thing a xs) (k.variable_tokens b x) (k.variables_tokens b xs)
      (behind (optional_tokens thing a x.first) _ _ (k.optional_tokens b x.first) (optional-covered a b e x.first) (refl, e)) (variables-covered a b e xs)

  condition-covered : (a : List Holder) (b : List Bare) → r.region b ≡ region a → (spot : Spot) (condition : Tree) (y : Theirs) → Matches (record { around = a; spot = spot; shared = false; word = w.Decides (is_shared thing condition) }) y → Covered (condition_tokens thing a spot condition) (y ∷ k.tree_tokens b condition)
  condition-covered a b e spot condition y m = behind (tree_tokens thing a condition) _ y (k.tree_tokens b condition) (tree-covered a b e condition) m

  three-covered : (a : List Holder) (b : List Bare) → r.region b ≡ region a → (first second third : Option Tree) → Covered (optional_tokens thing a first ++ optional_tokens thing a second ++ optional_tokens thing a third) (k.optional_tokens b first ++ k.optional_tokens b second ++ k.optional_tokens b third)
  three-covered a b e first second third = join (optional_tokens thing a first ++ optional_tokens thing a second) (optional_tokens thing a third) (k.optional_tokens b first ++ k.optional_tokens b second) (k.optional_tokens b third)
      (join (optional_tokens thing a first) (optional_tokens thing a second) (k.optional_tokens b first) (k.optional_tokens b second) (optional-covered a b e first) (optional-covered a b e second)) (optional-covered a b e third)

  mutual
    statement-covered : (a : List Holder) (b : List Bare) → r.region b ≡ region a → (statement : Statement) → Covered (statement_tokens thing ◌∷◌ a statement) (k.statement_tokens ◌∷◌ b statement)
    statement-covered a b e p.Empty = tt
    statement-covered a b e (p.Expression value) = tree-covered a b e value
    statement-covered a b e (p.Block statements) = statements-covered a (g.Block ∷ b) e statements
    statement-covered a b e (p.Declare variables) = variables-covered a b e variables
    statement-covered a b e (p.If spot condition body) = join (condition_tokens thing a spot condition) _ (k.own_tokens b (p.If spot condition body)) _ (condition-covered a b e spot condition _ (refl, e)) (statement-covered (h.Branch (is_shared thing condition) ∷ a) (g.Branch ∷ b) e body)
    statement-covered a b e (p.IfElse spot condition body otherwise) = join (condition_tokens thing a spot condition ++ statement_tokens thing ◌∷◌ (h.Branch (is_shared thing condition) ∷ a) body) _ (k.own_tokens b (p.IfElse spot condition body otherwise) ++ k.statement_tokens ◌∷◌ (g.Branch ∷ b) body) _
        (join (condition_tokens thing a spot condition) _ (k.own_tokens b (p.IfElse spot condition body otherwise)) _ (condition-covered a b e spot condition _ (refl, e)) (statement-covered (h.Branch (is_shared thing condition) ∷ a) (g.Branch ∷ b) e body))
        (statement-covered (h.Branch (is_shared thing condition) ∷ a) (g.Branch ∷ b) e otherwise)
    statement-covered a b e (p.While spot condition body) = join (condition_tokens thing a spot condition) _ (k.own_tokens b (p.While spot condition body)) _ (condition-covered a b e spot condition _ (refl, e)) (statement-covered (h.Loop (is_shared thing condition) ∷ a) (g.Loop ∷ b) e body)
    statement-covered a b e (p.DoWhile spot body condition) = join (condition_tokens thing a spot condition) _ (k.own_tokens b (p.DoWhile spot body condition)) _ (condition-covered a b e spot condition _ (refl, e)) (statement-covered (h.Loop (is_shared thing condition) ∷ a) (g.Loop ∷ b) e body)
    statement-covered a b e (p.For spot first condition after body) = join (head_tokens thing a spot first condition after) _ (k.own_tokens b (p.For spot first condition after body)) _
        (behind (optional_tokens thing a first ++ optional_tokens thing a condition ++ optional_tokens thing a after) _ _ (k.optional_tokens b first ++ k.optional_tokens b condition ++ k.optional_tokens b after) (three-covered a b e first condition after) (refl, e))
        (statement-covered (h.Loop (is_condition_shared thing condition) ∷ a) (g.Loop ∷ b) e body)
    statement-covered a b e (p.Start spot count body) = join (optional_tokens thing a count) _ (k.own_tokens b (p.Start spot count body)) _ (later (optional_tokens thing a count) _ (k.optional_tokens b count) (optional-covered a b e count)) (statement-covered (h.Body Synchronous ∷ a) (g.Start ∷ b) refl body)
    statement-covered a b e (p.Farm spot body) = right (statement_tokens thing ◌∷◌ (h.Body Asynchronous ∷ a) body) (k.own_tokens b (p.Farm spot body)) _ (statement-covered (h.Body Asynchronous ∷ a) (g.Farm ∷ b) refl body)
    statement-covered a b e (p.Seq spot body) = right (statement_tokens thing ◌∷◌ (h.Body Asynchronous ∷ a) body) (k.own_tokens b (p.Seq spot body)) _ (statement-covered (h.Body Asynchronous ∷ a) (g.Seq ∷ b) refl body)
    statement-covered a b e (p.Fork spot parts part rank body) = join (parts_tokens thing a parts part rank) _ (k.own_tokens b (p.Fork spot parts part rank body)) _
        (later (parts_tokens thing a parts part rank) _ (k.tree_tokens b parts ++ k.tree_tokens b part ++ k.optional_tokens b rank)
        (join (tree_tokens thing a parts ++ tree_tokens thing a part) (optional_tokens thing a rank) (k.tree_tokens b parts ++ k.tree_tokens b part) (k.optional_tokens b rank)
        (join (tree_tokens thing a parts) (tree_tokens thing a part) (k.tree_tokens b parts) (k.tree_tokens b part) (tree-covered a b e parts) (tree-covered a b e part)) (optional-covered a b e rank)))
        (statement-covered (h.Body Synchronous ∷ a) (g.Fork ∷ b) refl body)
    statement-covered a b e (p.Barrier spot) = tt
    statement-covered a b e (p.Break spot) = (λ d. inl (refl, e), tt)
    statement-covered a b e (p.Continue spot) = (λ d. inl (refl, e), tt)
    statement-covered a b e (p.Return spot value) = behind (optional_tokens thing a value) _ _ (k.optional_tokens b value) (optional-covered a b e value) (refl, e)

    statements-covered : (a : List Holder) (b : List Bare) → r.region b ≡ region a → (statements : Statements) → Covered (statements_tokens thing ◌∷◌ a statements) (k.statements_tokens ◌∷◌ b statements)
    statements-covered a b e p.no_statements = tt
    statements-covered a b e (p.statement first others) = join (statement_tokens thing ◌∷◌ a first) (statements_tokens thing ◌∷◌ a others) (k.statement_tokens ◌∷◌ b first) (k.statements_tokens ◌∷◌ b others) (statement-covered a b e first) (statements-covered a b e others)

  parameters-covered : (mode : Mode) (xs : List DeclaredTree) (ys : List Theirs) → Covered (parameters_tokens [] mode xs) ys
  parameters-covered mode [] ys = tt
  parameters-covered mode (x ∷ xs) ys = (λ d. absurd (cc), parameters-covered mode xs ys)

  held-region : (b : Bool) (mode : Mode) (outer : List Bare) → r.region ((if b then g.Main mode else g.Function mode) ∷ outer) ≡ region_by mode
  held-region true mode outer = refl
  held-region false mode outer = refl

  body-covered : (a : List Holder) (b : List Bare) → r.region b ≡ region a → (body : Option Statements) → Covered (body_tokens thing ◌∷◌ a body) (k.body_tokens ◌∷◌ b body)
  body-covered a b e None = tt
  body-covered a b e (Some body) = statements-covered a b e body

  item-covered : (item : ItemTree) → Covered (item_tokens thing ◌∷◌ [] item) (k.item_tokens ◌∷◌ [] item)
  item-covered (p.StructItem name members) = tt
  item-covered (p.VariablesItem variables) = variables-covered [] [] refl variables
  item-covered (p.FunctionItem function) = append (parameters_tokens [] function.mode function.parameters) _ _ (parameters-covered function.mode function.parameters _)
      (body-covered (h.Body (region_by function.mode) ∷ []) (k.holder_of function ∷ []) (held-region _ function.mode []) function.body)

  items-covered : (items : List ItemTree) → Covered (items_tokens thing ◌∷◌ [] items) (k.items_tokens ◌∷◌ [] items)
  items-covered [] = tt
  items-covered (x ∷ xs) = join (item_tokens thing ◌∷◌ [] x) (items_tokens thing ◌∷◌ [] xs) (k.item_tokens ◌∷◌ [] x) (k.items_tokens ◌∷◌ [] xs) (item-covered x) (items-covered xs)

-- ---- what splits is a decision in a synchronous region

covered-at : (xs : List Ours) (ys : List Theirs) → Covered xs ys → (i : ℕ) (x : Ours) → slice_get xs i ≡ Some x → IsFound ys x
covered-at [] ys c i x e = absurd (cc)
covered-at (y ∷ xs) ys c zero x e = let same : y ≡ x = cc in subst (IsFound ys) same c.0
covered-at (y ∷ xs) ys c (suc i) x e = covered-at xs ys c.1 i x e

some-at : {X : Type 0} (P : X → Type 0) (xs : List X) → SomeIn P xs → (i : ℕ) × (x : X) × (slice_get xs i ≡ Some x) × P x
some-at P [] h = absurd h
some-at P (x ∷ xs) (inl h) = (zero, x, refl, h)
some-at P (x ∷ xs) (inr h) = let s = some-at P xs h in (suc s.0, s.1, s.2, s.3)

splits-tells : (here : Region) (shared : Bool) → splits here shared ≡ true → here ≡ Synchronous
splits-tells Synchronous shared e = refl
splits-tells Asynchronous shared e = absurd (cc)
splits-tells Neither shared e = absurd (cc)

splitting-tells : (here : Region) (word : Word) → is_splitting here word ≡ true → (is_decision word ≡ true) × (here ≡ Synchronous)
splitting-tells here (w.Decides shared) e = (refl, splits-tells here shared e)
splitting-tells here (w.Prefix sign thing) e = absurd (cc)
splitting-tells here w.Break e = absurd (cc)
splitting-tells here w.Continue e = absurd (cc)
splitting-tells here w.Return e = absurd (cc)
splitting-tells here (w.Variable shared form) e = absurd (cc)
splitting-tells here (w.Parameter shared mode) e = absurd (cc)
splitting-tells here w.Other e = absurd (cc)

pub splits-synchronous : (program : ProgramTree) (index : ℕ) → SplitsAt program index → IsSynchronous program index
splits-synchronous program index h =
    let x = h.3 in
    let d = splitting-tells (region x.around) x.word h.6 in
    let s = some-at (Matches x) (k.tokens program) (covered-at (tokens h.0 program) (k.tokens program) (items-covered h.0 program.items) h.2 x h.4 d.0) in
    (s.0, s.1, s.2, s.3.0 ∙ h.5, s.3.1 ∙ d.1)
