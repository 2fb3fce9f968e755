-- The tokens by which sharing is told stand at nodes of a program, no two at one.
use Rattle.std.proofs.Common.{ℕ, ◌&&◌, Bool, false, List, [], ◌∷◌, ◌++◌, Option, Some, None, arith}
use Rattle.std.proofs.lemmas.List.Sums.{sum_by-cons, sum_by-append}
use Rattle.fk_syntax.specs.declared.nodes.Index.{Index}
use Rattle.fk_syntax.specs.declared.nodes.Index.TheVariants.{Node}
use Rattle.fk_syntax.specs.declared.place.Spot.{Spot}
use Rattle.fk_syntax.specs.declared.program.Mode.{Mode}
use Rattle.fk_syntax.specs.Tree as t
use Rattle.fk_syntax.specs.Tree.{Tree, Links, Trees, Suffixes}
use Rattle.fk_syntax.specs.Program as p
use Rattle.fk_syntax.specs.Program.{DeclaredTree, Statement, Statements, ItemTree}
use Rattle.fk_syntax.specs.Nodes.{type_indices, tree_indices, links_indices, trees_indices, suffixes_indices, optional_indices, declared_indices, declarations_indices, statement_indices, statements_indices, body_indices, item_indices, items_indices}
use Rattle.fk_sharing_class.specs.declared.thing.Thing.{Thing}
use Rattle.fk_sharing_class.specs.Class.{is_shared, is_call_shared, is_joined_shared}
use Rattle.fk_regions.specs.declared.around.Region.TheVariants.{Synchronous, Asynchronous}
use Rattle.fk_regions.specs.Around.{region_by}
use Rattle.fk_sharing.specs.declared.around.Holder.{Holder}
use Rattle.fk_sharing.specs.declared.around.Holder.TheVariants as h
use Rattle.fk_sharing.specs.Tokens.{TokenIn, tree_tokens, links_tokens, trees_tokens, suffixes_tokens, optional_tokens, is_condition_shared, variable_tokens, variables_tokens, condition_tokens, head_tokens, statement_tokens, statements_tokens, parameters_tokens, body_tokens, item_tokens, items_tokens}
use Rattle.fk_types_rules.proofs.Counting as c
use Rattle.fk_types_rules.proofs.Counting.{by, by_node, AreCounted}
use Rattle.fk_check_laws.proofs.RegionTokens.{turned}

-- a thing behind those of three parts, at the second node
amid : {X : Type 0} (token : X → ℕ) {xs ys zs : List X} (i j k : List Index) (x : X) → AreCounted (by token) xs i → AreCounted (by token) ys j → AreCounted (by token) zs k
    → AreCounted (by token) (xs ++ ys ++ zs ++ x ∷ []) (i ++ (Node (token x) ∷ j) ++ k)
amid token {xs} {ys} {zs} i j k x a b d = record {
  count = λ at. omega (
    arith,
    a.count at,
    b.count at,
    d.count at,
    sum_by-append (by token at) (xs ++ ys ++ zs) (x ∷ []),
    sum_by-append (by token at) (xs ++ ys) zs,
    sum_by-append (by token at) xs ys,
    sum_by-append (by_node at) (i ++ (Node (token x) ∷ j)) k,
    sum_by-append (by_node at) i (Node (token x) ∷ j),
    sum_by-cons (by_node at) (Node (token x)) j,
  );
}

-- a thing between others, at the node before theirs
amidst : {X : Type 0} (token : X → ℕ) {xs ys : List X} (i j : List Index) (x : X) → AreCounted (by token) xs i → AreCounted (by token) ys j
    → AreCounted (by token) (xs ++ x ∷ ys) (Node (token x) ∷ (i ++ j))
amidst token {xs} {ys} i j x a b = record {
  count = λ at. omega (
    arith,
    a.count at,
    b.count at,
    sum_by-append (by token at) xs (x ∷ ys),
    sum_by-cons (by token at) x ys,
    sum_by-cons (by_node at) (Node (token x)) (i ++ j),
    sum_by-append (by_node at) i j,
  );
}

module _ {R : Type 0} (thing : ℕ → Option Thing) where
  abbrev pub place : TokenIn R → ℕ
  place token = token.spot.at

  abbrev AreAt : List (TokenIn R) → List Index → Type 0
  AreAt tokens indices = AreCounted (by place) tokens indices

  mutual
    of_tree : (r : R) (x : Tree) → AreAt (tree_tokens thing r x) (tree_indices x)
    of_tree r (t.Number spot value unsigned) = c.first place (c.none [])
    of_tree r (t.Puts spot text) = c.first place (c.none [])
    of_tree r (t.Sizeof spot type) = c.first place (c.none (type_indices type))
    of_tree r (t.Variable name) = c.first place (c.none [])
    of_tree r (t.GroupNumber spot) = c.first place (c.none [])
    of_tree r (t.GroupRank spot) = c.first place (c.none [])
    of_tree r (t.Prefix spot sign operand) = c.between place [] (tree_indices operand) _ (of_tree r operand)
    of_tree r (t.Cast spot type operand) = c.between place [] (type_indices type ++ tree_indices operand) _ (c.skip (type_indices type) (of_tree r operand))
    of_tree r (t.Chain first links) = c.beside (of_tree r first) (of_links r (is_shared thing first) links)
    of_tree r (t.Postfix whole suffixes) = c.beside (of_tree r whole) (of_suffixes r (is_shared thing whole) (is_call_shared thing whole) suffixes)
    of_tree r (t.Assign spot sign target value) =
        c.between place (tree_indices target) (tree_indices value) _ (c.beside (of_tree r target) (of_tree r value))
    of_tree r (t.Choose spot condition first second) =
        amid place (tree_indices condition) (tree_indices first) (tree_indices second) _ (of_tree r condition) (of_tree r first) (of_tree r second)

    of_links : (r : R) (shared : Bool) (x : Links) → AreAt (links_tokens thing r shared x) (links_indices x)
    of_links r shared t.no_links = c.none []
    of_links r shared (t.link spot sign right others) =
        amidst place (tree_indices right) (links_indices others) _ (of_tree r right) (of_links r (is_joined_shared sign shared (is_shared thing right)) others)

    of_trees : (r : R) (x : Trees) → AreAt (trees_tokens thing r x) (trees_indices x)
    of_trees r t.no_trees = c.none []
    of_trees r (t.tree first others) = c.beside (of_tree r first) (of_trees r others)

    of_suffixes : (r : R) (shared called : Bool) (x : Suffixes) → AreAt (suffixes_tokens thing r shared called x) (suffixes_indices x)
    of_suffixes r shared called t.no_suffixes = c.none []
    of_suffixes r shared called (t.index spot by others) =
        amidst place (tree_indices by) (suffixes_indices others) _ (of_tree r by) (of_suffixes r (shared && is_shared thing by) false others)
    of_suffixes r shared called (t.call spot arguments others) =
        amidst place (trees_indices arguments) (suffixes_indices others) _ (of_trees r arguments) (of_suffixes r called false others)
    of_suffixes r shared called (t.dot spot member others) = c.first place (c.later (of_suffixes r shared false others))
    of_suffixes r shared called (t.arrow spot member others) = c.first place (c.later (of_suffixes r shared false others))
    of_suffixes r shared called (t.up spot others) = c.first place (of_suffixes r shared false others)
    of_suffixes r shared called (t.down spot others) = c.first place (of_suffixes r shared false others)

  of_optional : (r : R) (x : Option Tree) → AreAt (optional_tokens thing r x) (optional_indices x)
  of_optional r None = c.none []
  of_optional r (Some x) = of_tree r x

  of_variable : (r : R) (x : DeclaredTree) → AreAt (variable_tokens thing r x) (declared_indices x)
  of_variable r x = c.skip (type_indices x.kind) (c.between place [] (optional_indices x.first) _ (of_optional r x.first))

  of_variables : (r : R) (xs : List DeclaredTree) → AreAt (variables_tokens thing r xs) (declarations_indices xs)
  of_variables r [] = c.none []
  of_variables r (x ∷ xs) = c.beside (of_variable r x) (of_variables r xs)

  of_condition : (r : R) (spot : Spot) (x : Tree) → AreAt (condition_tokens thing r spot x) (Node spot.at ∷ tree_indices x)
  of_condition r spot x = c.between place [] (tree_indices x) _ (of_tree r x)

  of_head : (r : R) (spot : Spot) (x y z : Option Tree) → AreAt (head_tokens thing r spot x y z) (Node spot.at ∷ (optional_indices x ++ optional_indices y ++ optional_indices z))
  of_head r spot x y z =
      c.between place [] (optional_indices x ++ optional_indices y ++ optional_indices z) _ (c.beside (c.beside (of_optional r x) (of_optional r y)) (of_optional r z))

  of_parameters : (r : R) (mode : Mode) (xs : List DeclaredTree) → AreAt (parameters_tokens r mode xs) (declarations_indices xs)
  of_parameters r mode [] = c.none []
  of_parameters r mode (x ∷ xs) = c.beside (c.skip (type_indices x.kind) (c.first place (c.none (optional_indices x.first)))) (of_parameters r mode xs)

  module _ (within : Holder → R → R) where
    mutual
      of_statement : (r : R) (x : Statement) → AreAt (statement_tokens thing within r x) (statement_indices x)
      of_statement r p.Empty = c.none []
      of_statement r (p.Expression value) = of_tree r value
      of_statement r (p.Block statements) = of_statements r statements
      of_statement r (p.Declare variables) = of_variables r variables
      of_statement r (p.If spot condition body) = c.beside (of_condition r spot condition) (of_statement (within (h.Branch (is_shared thing condition)) r) body)
      of_statement r (p.IfElse spot condition body otherwise) =
          c.beside (c.beside (of_condition r spot condition) (of_statement (within (h.Branch (is_shared thing condition)) r) body))
          (of_statement (within (h.Branch (is_shared thing condition)) r) otherwise)
      of_statement r (p.While spot condition body) = c.beside (of_condition r spot condition) (of_statement (within (h.Loop (is_shared thing condition)) r) body)
      of_statement r (p.DoWhile spot body condition) =
          turned (statement_indices body) (of_condition r spot condition) (of_statement (within (h.Loop (is_shared thing condition)) r) body)
      of_statement r (p.For spot first condition after body) =
          c.beside (of_head r spot first condition after) (of_statement (within (h.Loop (is_condition_shared thing condition)) r) body)
      of_statement r (p.Start spot count body) = c.later (c.beside (of_optional r count) (of_statement (within (h.Body Synchronous) r) body))
      of_statement r (p.Farm spot body) = c.later (of_statement (within (h.Body Asynchronous) r) body)
      of_statement r (p.Seq spot body) = c.later (of_statement (within (h.Body Asynchronous) r) body)
      of_statement r (p.Fork spot parts part rank body) =
          c.later (c.beside (c.beside (c.beside (of_tree r parts) (of_tree r part)) (of_optional r rank)) (of_statement (within (h.Body Synchronous) r) body))
      of_statement r (p.Barrier spot) = c.none (Node spot.at ∷ [])
      of_statement r (p.Break spot) = c.first place (c.none [])
      of_statement r (p.Continue spot) = c.first place (c.none [])
      of_statement r (p.Return spot value) = c.between place [] (optional_indices value) _ (of_optional r value)

      of_statements : (r : R) (x : Statements) → AreAt (statements_tokens thing within r x) (statements_indices x)
      of_statements r p.no_statements = c.none []
      of_statements r (p.statement first others) = c.beside (of_statement r first) (of_statements r others)

    of_body : (r : R) (x : Option Statements) → AreAt (body_tokens thing within r x) (body_indices x)
    of_body r None = c.none []
    of_body r (Some x) = of_statements r x

    of_item : (r : R) (x : ItemTree) → AreAt (item_tokens thing within r x) (item_indices x)
    of_item r (p.StructItem name members) = c.none (Node name.at ∷ declarations_indices members)
    of_item r (p.VariablesItem variables) = of_variables r variables
    of_item r (p.FunctionItem f) =
        c.skip (type_indices f.result) (c.later (c.beside (of_parameters r f.mode f.parameters) (of_body (within (h.Body (region_by f.mode)) r) f.body)))

    pub of_items : (r : R) (xs : List ItemTree) → AreAt (items_tokens thing within r xs) (items_indices xs)
    of_items r [] = c.none []
    of_items r (x ∷ xs) = c.beside (of_item r x) (of_items r xs)
