-- The names in the expressions of a well-formed program are tokens of their own.
use Rattle.std.proofs.Common.{◌≡◌, ◌≢◌, ◌⊎◌, inl, inr, ℕ, zero, suc, ◌<◌, List, [], ◌∷◌, ◌++◌, length, get_or, Option, Some, None, refl, sym, subst, ap, ◌∙◌, arith, append_assoc}
use Rattle.std.specs.List.{All, AllPairs}
use Rattle.std.proofs.lemmas.List.{append-nil}
use Rattle.fk_syntax.specs.declared.nodes.Index.{Index}
use Rattle.fk_syntax.specs.declared.nodes.Index.TheVariants.{Node, StructName}
use Rattle.fk_syntax.specs.Tree as t
use Rattle.fk_syntax.specs.Tree.{Named, Tree, Links, Trees, Suffixes}
use Rattle.fk_syntax.specs.Program as p
use Rattle.fk_syntax.specs.Program.{DeclaredTree, Statement, Statements, FunctionTree, ItemTree, ProgramTree}
use Rattle.fk_syntax.specs.Nodes.{type_indices, tree_indices, links_indices, trees_indices, suffixes_indices, optional_indices, declared_indices, declarations_indices, statement_indices, statements_indices, body_indices, function_indices, item_indices, items_indices}
use Rattle.fk_syntax.specs.WellFormed.{token, nodes, IsWellFormed}
use Rattle.fk_types_names.specs.Outline.{MarkTree, Opens, Closes, Declares, Uses, tree_marks, links_marks, trees_marks, suffixes_marks, optional_marks, variable_marks, variables_marks, scope, statement_marks, statements_marks, body_marks, function_marks, item_marks, items_marks, outline}
use Rattle.fk_types_names.specs.Means.{UsesAt}
use Rattle.fk_types_names.specs.Filling.{AreApart}

-- ---- lists of numbers, one within another

abbrev Sub : List ℕ → List ℕ → Type 0
Sub xs [] = xs ≡ []
Sub xs (y ∷ ys) = Sub xs ys ⊎ ((rest : List ℕ) × (xs ≡ y ∷ rest) × Sub rest ys)

Sub-nil : (ys : List ℕ) → Sub [] ys
Sub-nil [] = refl
Sub-nil (y ∷ ys) = inl (Sub-nil ys)

Sub-append : (a b c d : List ℕ) → Sub a b → Sub c d → Sub (a ++ c) (b ++ d)
Sub-append a [] c d s r = subst (λ xs. Sub (xs ++ c) d) (sym s) r
Sub-append a (y ∷ b) c d (inl s) r = inl (Sub-append a b c d s r)
Sub-append a (y ∷ b) c d (inr s) r = inr (s.0 ++ c, ap (λ xs. xs ++ c) s.1, Sub-append s.0 b c d s.2 r)

abbrev Away : ℕ → List ℕ → Type 0
Away x [] = Unit {0}
Away x (y ∷ ys) = (x ≢ y) × Away x ys

abbrev Differ : List ℕ → Type 0
Differ [] = Unit {0}
Differ (y ∷ ys) = Away y ys × Differ ys

abbrev Low : ℕ → List ℕ → Type 0
Low n [] = Unit {0}
Low n (y ∷ ys) = (y < n) × Low n ys

Away-Sub : (x : ℕ) (xs ys : List ℕ) → Sub xs ys → Away x ys → Away x xs
Away-Sub x xs [] s a = subst (Away x) (sym s) tt
Away-Sub x xs (y ∷ ys) (inl s) a = Away-Sub x xs ys s a.1
Away-Sub x xs (y ∷ ys) (inr s) a = subst (Away x) (sym s.1) (a.0, Away-Sub x s.0 ys s.2 a.1)

Differ-Sub : (xs ys : List ℕ) → Sub xs ys → Differ ys → Differ xs
Differ-Sub xs [] s d = subst Differ (sym s) tt
Differ-Sub xs (y ∷ ys) (inl s) d = Differ-Sub xs ys s d.1
Differ-Sub xs (y ∷ ys) (inr s) d = subst Differ (sym s.1) (Away-Sub y s.0 ys s.2 d.0, Differ-Sub s.0 ys s.2 d.1)

Low-Sub : (n : ℕ) (xs ys : List ℕ) → Sub xs ys → Low n ys → Low n xs
Low-Sub n xs [] s l = subst (Low n) (sym s) tt
Low-Sub n xs (y ∷ ys) (inl s) l = Low-Sub n xs ys s l.1
Low-Sub n xs (y ∷ ys) (inr s) l = subst (Low n) (sym s.1) (l.0, Low-Sub n s.0 ys s.2 l.1)

-- ---- from the words of well-formed programs

away_from : (x : ℕ) (ys : List ℕ) → ((k : ℕ) → k < length ys → x ≢ get_or ys k 0) → Away x ys
away_from x [] h = tt
away_from x (y ∷ ys) h = (h 0 (omega arith), away_from x ys (λ k within. h (suc k) (omega arith)))

differ_from : (ys : List ℕ) → AllPairs (λ x y. x ≢ y) ys → Differ ys
differ_from [] h = tt
differ_from (y ∷ ys) h = (away_from y ys (λ k within. h 0 (suc k) 0 (omega arith) (omega arith)), differ_from ys (λ i j d before within. h (suc i) (suc j) d (omega arith) (omega arith)))

low_from : (n : ℕ) (xs : List Index) → All (λ index. token index < n) xs → Low n (nodes xs)
low_from n [] h = tt
low_from n (Node at ∷ xs) h = (h 0 (Node at) (omega arith), low_from n xs (λ k d within. h (suc k) d (omega arith)))
low_from n (StructName at ∷ xs) h = low_from n xs (λ k d within. h (suc k) d (omega arith))

-- ---- the tokens of the names in marks

abbrev used_by : MarkTree → List ℕ
used_by Opens = []
used_by Closes = []
used_by (Declares d) = []
used_by (Uses name) = name.at ∷ []

abbrev uses : List MarkTree → List ℕ
uses [] = []
uses (mark ∷ marks) = used_by mark ++ uses marks

uses-append : (xs ys : List MarkTree) → uses (xs ++ ys) ≡ uses xs ++ uses ys
uses-append [] ys = refl
uses-append (x ∷ xs) ys = ap (λ us. used_by x ++ us) (uses-append xs ys) ∙ sym (append_assoc (used_by x) (uses xs) (uses ys))

nodes-append : (xs ys : List Index) → nodes (xs ++ ys) ≡ nodes xs ++ nodes ys
nodes-append [] ys = refl
nodes-append (Node at ∷ xs) ys = ap (λ ns. at ∷ ns) (nodes-append xs ys)
nodes-append (StructName at ∷ xs) ys = nodes-append xs ys

-- the names in the marks are nodes among these
abbrev Among : List MarkTree → List Index → Type 0
Among marks indices = Sub (uses marks) (nodes indices)

none : (indices : List Index) → Among [] indices
none indices = Sub-nil (nodes indices)

both : (a b : List MarkTree) (i j : List Index) → Among a i → Among b j → Among (a ++ b) (i ++ j)
both a b i j s r = subst (λ us. Sub us (nodes (i ++ j))) (sym (uses-append a b)) (subst (Sub (uses a ++ uses b)) (sym (nodes-append i j)) (Sub-append (uses a) (nodes i) (uses b) (nodes j) s r))

in_scope : (a : List MarkTree) (i : List Index) → Among a i → Among (scope a) i
in_scope a i s = subst (λ us. Sub us (nodes i)) (sym (uses-append a (Closes ∷ []) ∙ append-nil (uses a))) s

mutual
  in_tree : (x : Tree) → Among (tree_marks x) (tree_indices x)
  in_tree (t.Number spot value unsigned) = none (Node spot.at ∷ [])
  in_tree (t.Puts spot text) = none (Node spot.at ∷ [])
  in_tree (t.Sizeof spot type) = none (Node spot.at ∷ type_indices type)
  in_tree (t.Variable name) = inr ([], refl, refl)
  in_tree (t.GroupNumber spot) = none (Node spot.at ∷ [])
  in_tree (t.GroupRank spot) = none (Node spot.at ∷ [])
  in_tree (t.Prefix spot sign operand) = inl (in_tree operand)
  in_tree (t.Cast spot type operand) = inl (both [] (tree_marks operand) (type_indices type) (tree_indices operand) (none (type_indices type)) (in_tree operand))
  in_tree (t.Chain first links) = both (tree_marks first) (links_marks links) (tree_indices first) (links_indices links) (in_tree first) (in_links links)
  in_tree (t.Postfix whole suffixes) = both (tree_marks whole) (suffixes_marks suffixes) (tree_indices whole) (suffixes_indices suffixes) (in_tree whole) (in_suffixes suffixes)
  in_tree (t.Assign spot sign target value) = both (tree_marks target) (tree_marks value) (tree_indices target) (Node spot.at ∷ tree_indices value) (in_tree target) (inl (in_tree value))
  in_tree (t.Choose spot condition first second) = both (tree_marks condition ++ tree_marks first) (tree_marks second) (tree_indices condition ++ (Node spot.at ∷ tree_indices first)) (tree_indices second)
      (both (tree_marks condition) (tree_marks first) (tree_indices condition) (Node spot.at ∷ tree_indices first) (in_tree condition) (inl (in_tree first))) (in_tree second)

  in_links : (x : Links) → Among (links_marks x) (links_indices x)
  in_links t.no_links = refl
  in_links (t.link spot sign right others) = inl (both (tree_marks right) (links_marks others) (tree_indices right) (links_indices others) (in_tree right) (in_links others))

  in_trees : (x : Trees) → Among (trees_marks x) (trees_indices x)
  in_trees t.no_trees = refl
  in_trees (t.tree first others) = both (tree_marks first) (trees_marks others) (tree_indices first) (trees_indices others) (in_tree first) (in_trees others)

  in_suffixes : (x : Suffixes) → Among (suffixes_marks x) (suffixes_indices x)
  in_suffixes t.no_suffixes = refl
  in_suffixes (t.index spot by others) = inl (both (tree_marks by) (suffixes_marks others) (tree_indices by) (suffixes_indices others) (in_tree by) (in_suffixes others))
  in_suffixes (t.call spot arguments others) = inl (both (trees_marks arguments) (suffixes_marks others) (trees_indices arguments) (suffixes_indices others) (in_trees arguments) (in_suffixes others))
  in_suffixes (t.dot spot member others) = inl (inl (in_suffixes others))
  in_suffixes (t.arrow spot member others) = inl (inl (in_suffixes others))
  in_suffixes (t.up spot others) = inl (in_suffixes others)
  in_suffixes (t.down spot others) = inl (in_suffixes others)

in_optional : (x : Option Tree) → Among (optional_marks x) (optional_indices x)
in_optional None = refl
in_optional (Some x) = in_tree x

in_variable : (x : DeclaredTree) → Among (variable_marks x) (declared_indices x)
in_variable x = both [] (variable_marks x) (type_indices x.kind) (Node x.name.at ∷ optional_indices x.first) (none (type_indices x.kind)) (inl (in_optional x.first))

in_variables : (xs : List DeclaredTree) → Among (variables_marks xs) (declarations_indices xs)
in_variables [] = refl
in_variables (x ∷ xs) = both (variable_marks x) (variables_marks xs) (declared_indices x) (declarations_indices xs) (in_variable x) (in_variables xs)

mutual
  in_statement : (x : Statement) → Among (statement_marks x) (statement_indices x)
  in_statement p.Empty = refl
  in_statement (p.Expression value) = in_tree value
  in_statement (p.Block statements) = in_scope (statements_marks statements) (statements_indices statements) (in_statements statements)
  in_statement (p.Declare variables) = in_variables variables
  in_statement (p.If spot condition then) = inl (both (tree_marks condition) (scope (statement_marks then)) (tree_indices condition) (statement_indices then) (in_tree condition) (in_scope (statement_marks then) (statement_indices then) (in_statement then)))
  in_statement (p.IfElse spot condition then otherwise) = inl (both (tree_marks condition ++ scope (statement_marks then)) (scope (statement_marks otherwise)) (tree_indices condition ++ statement_indices then) (statement_indices otherwise)
      (both (tree_marks condition) (scope (statement_marks then)) (tree_indices condition) (statement_indices then) (in_tree condition) (in_scope (statement_marks then) (statement_indices then) (in_statement then))) (in_scope (statement_marks otherwise) (statement_indices otherwise) (in_statement otherwise)))
  in_statement (p.While spot condition body) = inl (both (tree_marks condition) (scope (statement_marks body)) (tree_indices condition) (statement_indices body) (in_tree condition) (in_scope (statement_marks body) (statement_indices body) (in_statement body)))
  in_statement (p.DoWhile spot body condition) = inl (both (scope (statement_marks body)) (tree_marks condition) (statement_indices body) (tree_indices condition) (in_scope (statement_marks body) (statement_indices body) (in_statement body)) (in_tree condition))
  in_statement (p.For spot before condition after body) = inl (both (optional_marks before ++ optional_marks condition ++ optional_marks after) (scope (statement_marks body)) (optional_indices before ++ optional_indices condition ++ optional_indices after) (statement_indices body)
      (both (optional_marks before ++ optional_marks condition) (optional_marks after) (optional_indices before ++ optional_indices condition) (optional_indices after)
      (both (optional_marks before) (optional_marks condition) (optional_indices before) (optional_indices condition) (in_optional before) (in_optional condition)) (in_optional after)) (in_scope (statement_marks body) (statement_indices body) (in_statement body)))
  in_statement (p.Start spot count body) = inl (both (optional_marks count) (scope (statement_marks body)) (optional_indices count) (statement_indices body) (in_optional count) (in_scope (statement_marks body) (statement_indices body) (in_statement body)))
  in_statement (p.Farm spot body) = inl (in_scope (statement_marks body) (statement_indices body) (in_statement body))
  in_statement (p.Seq spot body) = inl (in_scope (statement_marks body) (statement_indices body) (in_statement body))
  in_statement (p.Fork spot parts part rank body) = inl (both (tree_marks parts ++ tree_marks part ++ optional_marks rank) (scope (statement_marks body)) (tree_indices parts ++ tree_indices part ++ optional_indices rank) (statement_indices body)
      (both (tree_marks parts ++ tree_marks part) (optional_marks rank) (tree_indices parts ++ tree_indices part) (optional_indices rank)
      (both (tree_marks parts) (tree_marks part) (tree_indices parts) (tree_indices part) (in_tree parts) (in_tree part)) (in_optional rank)) (in_scope (statement_marks body) (statement_indices body) (in_statement body)))
  in_statement (p.Barrier spot) = none (Node spot.at ∷ [])
  in_statement (p.Break spot) = none (Node spot.at ∷ [])
  in_statement (p.Continue spot) = none (Node spot.at ∷ [])
  in_statement (p.Return spot value) = inl (in_optional value)

  in_statements : (x : Statements) → Among (statements_marks x) (statements_indices x)
  in_statements p.no_statements = refl
  in_statements (p.statement first others) = both (statement_marks first) (statements_marks others) (statement_indices first) (statements_indices others) (in_statement first) (in_statements others)

in_whole : (x : Option Statements) → Among (body_marks x) (body_indices x)
in_whole None = refl
in_whole (Some x) = in_statements x

in_function : (x : FunctionTree) → Among (function_marks x) (function_indices x)
in_function x = both [] (function_marks x) (type_indices x.result) (Node x.name.at ∷ declarations_indices x.parameters ++ body_indices x.body) (none (type_indices x.result))
    (inl (in_scope (variables_marks x.parameters ++ body_marks x.body) (declarations_indices x.parameters ++ body_indices x.body) (both (variables_marks x.parameters) (body_marks x.body) (declarations_indices x.parameters) (body_indices x.body) (in_variables x.parameters) (in_whole x.body))))

in_item : (x : ItemTree) → Among (item_marks x) (item_indices x)
in_item (p.StructItem name members) = none (Node name.at ∷ declarations_indices members)
in_item (p.VariablesItem variables) = in_variables variables
in_item (p.FunctionItem function) = in_function function

in_items : (xs : List ItemTree) → Among (items_marks xs) (items_indices xs)
in_items [] = refl
in_items (x ∷ xs) = both (item_marks x) (items_marks xs) (item_indices x) (items_indices xs) (in_item x) (in_items xs)

-- ---- by the indices of marks

same_name : (m n : Named) → Some (Uses m) ≡ Some (Uses n) → m ≡ n
same_name m n e = cc

away_at : (x : ℕ) (marks : List MarkTree) (j : ℕ) (m : Named) → Away x (uses marks) → UsesAt marks m j → x ≢ m.at
away_at x [] j m a u = absurd cc
away_at x (Opens ∷ marks) zero m a u = absurd cc
away_at x (Closes ∷ marks) zero m a u = absurd cc
away_at x (Declares d ∷ marks) zero m a u = absurd cc
away_at x (Uses n ∷ marks) zero m a u = λ e. a.0 (e ∙ ap (λ k. k.at) (sym (same_name n m u)))
away_at x (Opens ∷ marks) (suc j) m a u = away_at x marks j m a u
away_at x (Closes ∷ marks) (suc j) m a u = away_at x marks j m a u
away_at x (Declares d ∷ marks) (suc j) m a u = away_at x marks j m a u
away_at x (Uses n ∷ marks) (suc j) m a u = away_at x marks j m a.1 u

apart_at : (marks : List MarkTree) (i j : ℕ) (n m : Named) → Differ (uses marks) → i < j → UsesAt marks n i → UsesAt marks m j → n.at ≢ m.at
apart_at [] i j n m d less u v = absurd cc
apart_at (mark ∷ marks) i zero n m d less u v = absurd (omega arith)
apart_at (Opens ∷ marks) zero (suc j) n m d less u v = absurd cc
apart_at (Closes ∷ marks) zero (suc j) n m d less u v = absurd cc
apart_at (Declares x ∷ marks) zero (suc j) n m d less u v = absurd cc
apart_at (Uses x ∷ marks) zero (suc j) n m d less u v = subst (λ k. k.at ≢ m.at) (same_name x n u) (away_at x.at marks j m d.0 v)
apart_at (Opens ∷ marks) (suc i) (suc j) n m d less u v = apart_at marks i j n m d (omega arith) u v
apart_at (Closes ∷ marks) (suc i) (suc j) n m d less u v = apart_at marks i j n m d (omega arith) u v
apart_at (Declares x ∷ marks) (suc i) (suc j) n m d less u v = apart_at marks i j n m d (omega arith) u v
apart_at (Uses x ∷ marks) (suc i) (suc j) n m d less u v = apart_at marks i j n m d.1 (omega arith) u v

low_at : (tokens : ℕ) (marks : List MarkTree) (i : ℕ) (n : Named) → Low tokens (uses marks) → UsesAt marks n i → n.at < tokens
low_at tokens [] i n l u = absurd cc
low_at tokens (Opens ∷ marks) zero n l u = absurd cc
low_at tokens (Closes ∷ marks) zero n l u = absurd cc
low_at tokens (Declares d ∷ marks) zero n l u = absurd cc
low_at tokens (Uses x ∷ marks) zero n l u = subst (λ k. k.at < tokens) (same_name x n u) l.0
low_at tokens (Opens ∷ marks) (suc i) n l u = low_at tokens marks i n l u
low_at tokens (Closes ∷ marks) (suc i) n l u = low_at tokens marks i n l u
low_at tokens (Declares d ∷ marks) (suc i) n l u = low_at tokens marks i n l u
low_at tokens (Uses x ∷ marks) (suc i) n l u = low_at tokens marks i n l.1 u

pub apart_in : (program : ProgramTree) → IsWellFormed program → AreApart (outline program) program.tokens
apart_in program sound =
    let among = in_items program.items in
    let indices = items_indices program.items in
    let low = Low-Sub program.tokens (uses (outline program)) (nodes indices) among (low_from program.tokens indices sound.below) in
    let differ = Differ-Sub (uses (outline program)) (nodes indices) among (differ_from (nodes indices) sound.distinct) in
    record {
      below = λ i n u. low_at program.tokens (outline program) i n low u;
      apart = λ i j n m less u v. apart_at (outline program) i j n m differ less u v;
    }
