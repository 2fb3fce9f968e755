-- The pieces of a text hold its nodes, no node twice, and declare what the text declares.
use Rattle.std.proofs.Common.{◌≡◌, ℕ, ◌+◌, ◌≤◌, List, [], ◌∷◌, ◌++◌, Option, Some, None, sum_by, flat_map, refl, sym, ap, ◌∙◌, append-nil, arith}
use Rattle.std.proofs.lemmas.List.Concat.{flat_map-append}
use Rattle.std.proofs.lemmas.List.Sums.{sum_by-cons, sum_by-append}
use Rattle.fk_syntax.specs.declared.nodes.Index.{Index}
use Rattle.fk_syntax.specs.declared.nodes.Index.TheVariants.{Node}
use Rattle.fk_syntax.specs.declared.place.Spot.{Spot}
use Rattle.fk_syntax.specs.Tree.{TypeTree, Tree}
use Rattle.fk_syntax.specs.Program as p
use Rattle.fk_syntax.specs.Program.{DeclaredTree, Statement, Statements, FunctionTree, ItemTree}
use Rattle.fk_syntax.specs.Nodes.{type_indices, tree_indices, optional_indices, declared_indices, declarations_indices, statement_indices, statements_indices, body_indices, function_indices, item_indices, items_indices}
use Rattle.fk_types_names.specs.Outline as n
use Rattle.fk_types_names.specs.Outline.{DeclarationTree, MarkTree, Closes, Declares, name_of, declared_in, tree_marks, optional_marks, variable_marks, variables_marks, scope, statement_marks, statements_marks, body_marks, function_marks, item_marks, items_marks}
use Rattle.fk_types_references.specs.References.{optional_references}
use Rattle.fk_types_obligations.specs.Pieces as q
use Rattle.fk_types_obligations.specs.Pieces.{PieceTree, optional_pieces, variables_pieces, file_pieces, parameters_pieces, statement_pieces, statements_pieces, body_pieces, function_pieces, item_pieces, items_pieces}
use Rattle.fk_types_obligations.specs.declared.piece.Role.{Role}
use Rattle.fk_types_obligations.specs.declared.piece.Role.TheVariants as role
use Rattle.fk_types_rules.specs.Bound.{piece_references, pieces_references, token_of}
use Rattle.fk_types_rules.proofs.Counting as c
use Rattle.fk_types_rules.proofs.Counting.{one, by_node, times, node_times, AreCounted}
use Rattle.fk_types_rules.proofs.References.{declared_in-append, optional_refers}

-- the nodes that a piece holds: keywords of statements are in none
abbrev pub piece_indices : PieceTree → List Index
piece_indices (q.FileVariable variable) = declared_indices variable
piece_indices (q.Variable variable) = declared_indices variable
piece_indices (q.Parameter parameter) = declared_indices parameter
piece_indices (q.Header function) = Node function.name.at ∷ []
piece_indices (q.Used role value) = tree_indices value
piece_indices (q.Return result spot value) = optional_indices value

abbrev pub by_piece : ℕ → PieceTree → ℕ
by_piece at x = node_times at (piece_indices x)

-- what a piece declares
abbrev pub declared_by_piece : PieceTree → List DeclarationTree
declared_by_piece (q.FileVariable variable) = n.Variable variable ∷ []
declared_by_piece (q.Variable variable) = n.Variable variable ∷ []
declared_by_piece (q.Parameter parameter) = n.Variable parameter ∷ []
declared_by_piece (q.Header function) = n.Header function ∷ []
declared_by_piece (q.Used role value) = []
declared_by_piece (q.Return result spot value) = []

abbrev pub name_token : DeclarationTree → ℕ
name_token d = (name_of d).at

-- ---- what a piece declares and names

variable_named : (x : DeclaredTree) (at : ℕ) → one at x.name.at + times token_of at (optional_references x.first) ≤ node_times at (declared_indices x)
variable_named x at = omega (
  arith,
  (optional_refers x.first).within.count at,
  sum_by-append (by_node at) (type_indices x.kind) (Node x.name.at ∷ optional_indices x.first),
  sum_by-cons (by_node at) (Node x.name.at) (optional_indices x.first),
)

piece_named : (x : PieceTree) (at : ℕ) → times name_token at (declared_by_piece x) + times token_of at (piece_references x) ≤ by_piece at x
piece_named (q.FileVariable variable) at = omega (arith, variable_named variable at)
piece_named (q.Variable variable) at = omega (arith, variable_named variable at)
piece_named (q.Parameter parameter) at = omega (arith, variable_named parameter at)
piece_named (q.Header function) at = omega arith
piece_named (q.Used role value) at = omega (arith, (optional_refers (Some value)).within.count at)
piece_named (q.Return result spot value) at = omega (arith, (optional_refers value).within.count at)

pub pieces_named : (xs : List PieceTree) (at : ℕ) → times name_token at (flat_map declared_by_piece xs) + times token_of at (pieces_references xs) ≤ sum_by (by_piece at) xs
pieces_named [] at = omega arith
pieces_named (x ∷ xs) at = omega (
  arith,
  piece_named x at,
  pieces_named xs at,
  sum_by-append (c.by name_token at) (declared_by_piece x) (flat_map declared_by_piece xs),
  sum_by-append (c.by token_of at) (piece_references x) (pieces_references xs),
  sum_by-cons (by_piece at) x xs,
)

-- ---- the marks of a part of a text, its pieces, and its nodes

pub record Stands (marks : List MarkTree) (pieces : List PieceTree) (indices : List Index) : Type 0 where
  pub declared : flat_map declared_by_piece pieces ≡ declared_in marks
  pub within : AreCounted by_piece pieces indices

none : (indices : List Index) → Stands [] [] indices
none indices = record { declared = refl; within = c.none indices }

later : {ms : List MarkTree} {ps : List PieceTree} {is : List Index} {at : ℕ} → Stands ms ps is → Stands ms ps (Node at ∷ is)
later h = record { declared = h.declared; within = c.later h.within }

skip : {ms : List MarkTree} {ps : List PieceTree} {is : List Index} (more : List Index) → Stands ms ps is → Stands ms ps (more ++ is)
skip more h = record { declared = h.declared; within = c.skip more h.within }

in_scope : {ms : List MarkTree} {ps : List PieceTree} {is : List Index} → Stands ms ps is → Stands (scope ms) ps is
in_scope {ms} h = record { declared = h.declared ∙ sym (declared_in-append ms (Closes ∷ []) ∙ append-nil (declared_in ms)); within = h.within }

beside : {ms ns : List MarkTree} {ps qs : List PieceTree} {is js : List Index} → Stands ms ps is → Stands ns qs js → Stands (ms ++ ns) (ps ++ qs) (is ++ js)
beside {ms} {ns} {ps} {qs} left right = record {
  declared = flat_map-append declared_by_piece ps qs
      ∙ ap (λ ds. ds ++ flat_map declared_by_piece qs) left.declared
      ∙ ap (λ ds. declared_in ms ++ ds) right.declared
      ∙ sym (declared_in-append ms ns);
  within = c.beside left.within right.within;
}

-- one piece, at its own nodes
alone : (x : PieceTree) → AreCounted by_piece (x ∷ []) (piece_indices x)
alone x = record { count = λ at. omega (arith, sum_by-cons (by_piece at) x []) }

used : (r : Role) (x : Tree) → Stands (tree_marks x) (q.Used r x ∷ []) (tree_indices x)
used r x = record { declared = sym (optional_refers (Some x)).quiet; within = alone (q.Used r x) }

optional_used : (r : Role) (x : Option Tree) → Stands (optional_marks x) (optional_pieces r x) (optional_indices x)
optional_used r None = none []
optional_used r (Some x) = used r x

returned : (r : TypeTree) (spot : Spot) (x : Option Tree) → Stands (optional_marks x) (q.Return r spot x ∷ []) (optional_indices x)
returned r spot x = record { declared = sym (optional_refers x).quiet; within = alone (q.Return r spot x) }

name_declared : (x : DeclaredTree) → n.Variable x ∷ [] ≡ declared_in (variable_marks x)
name_declared x = ap (λ ds. n.Variable x ∷ ds) (sym (optional_refers x.first).quiet)

variable : (x : DeclaredTree) → Stands (variable_marks x) (q.Variable x ∷ []) (declared_indices x)
variable x = record { declared = name_declared x; within = alone (q.Variable x) }

file_variable : (x : DeclaredTree) → Stands (variable_marks x) (q.FileVariable x ∷ []) (declared_indices x)
file_variable x = record { declared = name_declared x; within = alone (q.FileVariable x) }

parameter : (x : DeclaredTree) → Stands (variable_marks x) (q.Parameter x ∷ []) (declared_indices x)
parameter x = record { declared = name_declared x; within = alone (q.Parameter x) }

header : {ms : List MarkTree} {ps : List PieceTree} {is : List Index} (x : FunctionTree) → Stands ms ps is → Stands (Declares (n.Header x) ∷ ms) (q.Header x ∷ ps) (Node x.name.at ∷ is)
header x h = record { declared = ap (λ ds. n.Header x ∷ ds) h.declared; within = c.beside (alone (q.Header x)) h.within }

-- ---- the parts of a text

of_variables : (xs : List DeclaredTree) → Stands (variables_marks xs) (variables_pieces xs) (declarations_indices xs)
of_variables [] = none []
of_variables (x ∷ xs) = beside (variable x) (of_variables xs)

of_file : (xs : List DeclaredTree) → Stands (variables_marks xs) (file_pieces xs) (declarations_indices xs)
of_file [] = none []
of_file (x ∷ xs) = beside (file_variable x) (of_file xs)

of_parameters : (xs : List DeclaredTree) → Stands (variables_marks xs) (parameters_pieces xs) (declarations_indices xs)
of_parameters [] = none []
of_parameters (x ∷ xs) = beside (parameter x) (of_parameters xs)

mutual
  of_statement : (r : TypeTree) (x : Statement) → Stands (statement_marks x) (statement_pieces r x) (statement_indices x)
  of_statement r p.Empty = none []
  of_statement r (p.Expression value) = used role.Alone value
  of_statement r (p.Block statements) = in_scope (of_statements r statements)
  of_statement r (p.Declare variables) = of_variables variables
  of_statement r (p.If spot condition body) = later (beside (used role.Condition condition) (in_scope (of_statement r body)))
  of_statement r (p.IfElse spot condition body otherwise) = later (beside (beside (used role.Condition condition) (in_scope (of_statement r body))) (in_scope (of_statement r otherwise)))
  of_statement r (p.While spot condition body) = later (beside (used role.Condition condition) (in_scope (of_statement r body)))
  of_statement r (p.DoWhile spot body condition) = later (beside (in_scope (of_statement r body)) (used role.Condition condition))
  of_statement r (p.For spot before condition after body) = later (beside (beside (beside (optional_used role.Alone before) (optional_used role.Condition condition)) (optional_used role.Alone after)) (in_scope (of_statement r body)))
  of_statement r (p.Start spot count body) = later (beside (optional_used role.Word count) (in_scope (of_statement r body)))
  of_statement r (p.Farm spot body) = later (in_scope (of_statement r body))
  of_statement r (p.Seq spot body) = later (in_scope (of_statement r body))
  of_statement r (p.Fork spot parts part rank body) = later (beside (beside (beside (used role.Word parts) (used role.Word part)) (optional_used role.Word rank)) (in_scope (of_statement r body)))
  of_statement r (p.Barrier spot) = none (Node spot.at ∷ [])
  of_statement r (p.Break spot) = none (Node spot.at ∷ [])
  of_statement r (p.Continue spot) = none (Node spot.at ∷ [])
  of_statement r (p.Return spot value) = later (returned r spot value)

  of_statements : (r : TypeTree) (x : Statements) → Stands (statements_marks x) (statements_pieces r x) (statements_indices x)
  of_statements r p.no_statements = none []
  of_statements r (p.statement first others) = beside (of_statement r first) (of_statements r others)

of_body : (r : TypeTree) (x : Option Statements) → Stands (body_marks x) (body_pieces r x) (body_indices x)
of_body r None = none []
of_body r (Some x) = of_statements r x

of_function : (x : FunctionTree) → Stands (function_marks x) (function_pieces x) (function_indices x)
of_function x = skip (type_indices x.result) (header x (in_scope (beside (of_parameters x.parameters) (of_body x.result x.body))))

of_item : (x : ItemTree) → Stands (item_marks x) (item_pieces x) (item_indices x)
of_item (p.StructItem name members) = none (Node name.at ∷ declarations_indices members)
of_item (p.VariablesItem variables) = of_file variables
of_item (p.FunctionItem function) = of_function function

pub of_items : (xs : List ItemTree) → Stands (items_marks xs) (items_pieces xs) (items_indices xs)
of_items [] = none []
of_items (x ∷ xs) = beside (of_item x) (of_items xs)
