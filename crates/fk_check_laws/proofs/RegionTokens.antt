-- The tokens by which regions are told stand at nodes of a program, no two at one.
use Rattle.std.proofs.Common.{ℕ, List, [], ◌∷◌, ◌++◌, Option, Some, None, arith}
use Rattle.std.proofs.lemmas.List.Sums.{sum_by-cons, sum_by-append}
use Rattle.fk_syntax.specs.declared.nodes.Index.{Index}
use Rattle.fk_syntax.specs.declared.nodes.Index.TheVariants.{Node}
use Rattle.fk_syntax.specs.Tree as t
use Rattle.fk_syntax.specs.Tree.{Tree, Links, Trees, Suffixes}
use Rattle.fk_syntax.specs.Program as p
use Rattle.fk_syntax.specs.Program.{DeclaredTree, Statement, Statements, ItemTree}
use Rattle.fk_syntax.specs.Nodes.{type_indices, tree_indices, links_indices, trees_indices, suffixes_indices, optional_indices, declared_indices, declarations_indices, statement_indices, statements_indices, body_indices, item_indices, items_indices}
use Rattle.fk_regions.specs.declared.around.Holder.{Holder}
use Rattle.fk_regions.specs.declared.around.Holder.TheVariants as h
use Rattle.fk_regions.specs.Tokens.{TokenIn, holder_of, tree_tokens, links_tokens, trees_tokens, suffixes_tokens, optional_tokens, variable_tokens, variables_tokens, statement_tokens, statements_tokens, body_tokens, item_tokens, items_tokens}
use Rattle.fk_types_rules.proofs.Counting as c
use Rattle.fk_types_rules.proofs.Counting.{by, by_node, AreCounted}

-- a thing before others, at a node between theirs
pub before : {X : Type 0} (token : X → ℕ) {xs : List X} (i j : List Index) (x : X) → AreCounted (by token) xs (i ++ j) → AreCounted (by token) (x ∷ xs) (i ++ (Node (token x) ∷ j))
before token {xs} i j x h = record {
  count = λ at. omega (
    arith,
    h.count at,
    sum_by-cons (by token at) x xs,
    sum_by-append (by_node at) i j,
    sum_by-append (by_node at) i (Node (token x) ∷ j),
    sum_by-cons (by_node at) (Node (token x)) j,
  );
}

-- the first node behind others, and the things of both turned round
pub turned : {X : Type 0} {weight : ℕ → X → ℕ} {xs ys : List X} {i : List Index} {at : ℕ} (j : List Index) → AreCounted weight xs (Node at ∷ i) → AreCounted weight ys j → AreCounted weight (xs ++ ys) (Node at ∷ (j ++ i))
turned {weight} {xs} {ys} {i} {at} j left right = record {
  count = λ k. omega (
    arith,
    left.count k,
    right.count k,
    sum_by-append (weight k) xs ys,
    sum_by-cons (by_node k) (Node at) i,
    sum_by-cons (by_node k) (Node at) (j ++ i),
    sum_by-append (by_node k) j i,
  );
}

module _ {R : Type 0} where
  abbrev pub place : TokenIn R → ℕ
  place token = token.spot.at

  abbrev AreAt : List (TokenIn R) → List Index → Type 0
  AreAt tokens indices = AreCounted (by place) tokens indices

  mutual
    of_tree : (r : R) (x : Tree) → AreAt (tree_tokens r x) (tree_indices x)
    of_tree r (t.Number spot value unsigned) = c.first place (c.none [])
    of_tree r (t.Puts spot text) = c.first place (c.none [])
    of_tree r (t.Sizeof spot type) = c.first place (c.none (type_indices type))
    of_tree r (t.Variable name) = c.first place (c.none [])
    of_tree r (t.GroupNumber spot) = c.first place (c.none [])
    of_tree r (t.GroupRank spot) = c.first place (c.none [])
    of_tree r (t.Prefix spot sign operand) = c.first place (of_tree r operand)
    of_tree r (t.Cast spot type operand) = c.first place (c.skip (type_indices type) (of_tree r operand))
    of_tree r (t.Chain first links) = c.beside (of_tree r first) (of_links r links)
    of_tree r (t.Postfix whole suffixes) = c.beside (of_tree r whole) (of_suffixes r suffixes)
    of_tree r (t.Assign spot sign target value) =
        before place (tree_indices target) (tree_indices value) _ (c.beside (of_tree r target) (of_tree r value))
    of_tree r (t.Choose spot condition first second) =
        c.beside (before place (tree_indices condition) (tree_indices first) _ (c.beside (of_tree r condition) (of_tree r first))) (of_tree r second)

    of_links : (r : R) (x : Links) → AreAt (links_tokens r x) (links_indices x)
    of_links r t.no_links = c.none []
    of_links r (t.link spot sign right others) = c.first place (c.beside (of_tree r right) (of_links r others))

    of_trees : (r : R) (x : Trees) → AreAt (trees_tokens r x) (trees_indices x)
    of_trees r t.no_trees = c.none []
    of_trees r (t.tree first others) = c.beside (of_tree r first) (of_trees r others)

    of_suffixes : (r : R) (x : Suffixes) → AreAt (suffixes_tokens r x) (suffixes_indices x)
    of_suffixes r t.no_suffixes = c.none []
    of_suffixes r (t.index spot by others) = c.first place (c.beside (of_tree r by) (of_suffixes r others))
    of_suffixes r (t.call spot arguments others) = c.first place (c.beside (of_trees r arguments) (of_suffixes r others))
    of_suffixes r (t.dot spot member others) = c.first place (c.first place (of_suffixes r others))
    of_suffixes r (t.arrow spot member others) = c.first place (c.first place (of_suffixes r others))
    of_suffixes r (t.up spot others) = c.first place (of_suffixes r others)
    of_suffixes r (t.down spot others) = c.first place (of_suffixes r others)

  of_optional : (r : R) (x : Option Tree) → AreAt (optional_tokens r x) (optional_indices x)
  of_optional r None = c.none []
  of_optional r (Some x) = of_tree r x

  of_variable : (r : R) (x : DeclaredTree) → AreAt (variable_tokens r x) (declared_indices x)
  of_variable r x = c.skip (type_indices x.kind) (c.first place (of_optional r x.first))

  of_variables : (r : R) (xs : List DeclaredTree) → AreAt (variables_tokens r xs) (declarations_indices xs)
  of_variables r [] = c.none []
  of_variables r (x ∷ xs) = c.beside (of_variable r x) (of_variables r xs)

  module _ (within : Holder → R → R) where
    mutual
      of_statement : (r : R) (x : Statement) → AreAt (statement_tokens within r x) (statement_indices x)
      of_statement r p.Empty = c.none []
      of_statement r (p.Expression value) = of_tree r value
      of_statement r (p.Block statements) = of_statements (within h.Block r) statements
      of_statement r (p.Declare variables) = of_variables r variables
      of_statement r (p.If spot condition body) = c.first place (c.beside (of_tree r condition) (of_statement (within h.Branch r) body))
      of_statement r (p.IfElse spot condition body otherwise) =
          c.first place (c.beside (c.beside (of_tree r condition) (of_statement (within h.Branch r) body)) (of_statement (within h.Branch r) otherwise))
      of_statement r (p.While spot condition body) = c.first place (c.beside (of_tree r condition) (of_statement (within h.Loop r) body))
      of_statement r (p.DoWhile spot body condition) =
          turned (statement_indices body) (c.first place (of_tree r condition)) (of_statement (within h.Loop r) body)
      of_statement r (p.For spot first condition after body) =
          c.first place (c.beside (c.beside (c.beside (of_optional r first) (of_optional r condition)) (of_optional r after)) (of_statement (within h.Loop r) body))
      of_statement r (p.Start spot count body) = c.first place (c.beside (of_optional r count) (of_statement (within h.Start r) body))
      of_statement r (p.Farm spot body) = c.first place (of_statement (within h.Farm r) body)
      of_statement r (p.Seq spot body) = c.first place (of_statement (within h.Seq r) body)
      of_statement r (p.Fork spot parts part rank body) =
          c.first place (c.beside (c.beside (c.beside (of_tree r parts) (of_tree r part)) (of_optional r rank)) (of_statement (within h.Fork r) body))
      of_statement r (p.Barrier spot) = c.first place (c.none [])
      of_statement r (p.Break spot) = c.first place (c.none [])
      of_statement r (p.Continue spot) = c.first place (c.none [])
      of_statement r (p.Return spot value) = c.first place (of_optional r value)

      of_statements : (r : R) (x : Statements) → AreAt (statements_tokens within r x) (statements_indices x)
      of_statements r p.no_statements = c.none []
      of_statements r (p.statement first others) = c.beside (of_statement r first) (of_statements r others)

    of_body : (r : R) (x : Option Statements) → AreAt (body_tokens within r x) (body_indices x)
    of_body r None = c.none []
    of_body r (Some x) = of_statements r x

    of_item : (r : R) (x : ItemTree) → AreAt (item_tokens within r x) (item_indices x)
    of_item r (p.StructItem name members) = c.none (Node name.at ∷ declarations_indices members)
    of_item r (p.VariablesItem variables) = of_variables r variables
    of_item r (p.FunctionItem f) =
        c.skip (type_indices f.result) (c.later (c.skip (declarations_indices f.parameters) (of_body (within (holder_of f) r) f.body)))

    pub of_items : (r : R) (xs : List ItemTree) → AreAt (items_tokens within r xs) (items_indices xs)
    of_items r [] = c.none []
    of_items r (x ∷ xs) = c.beside (of_item r x) (of_items r xs)
