-- What is so of the marks of all forms, where it is so of no marks and of what these are put together of.
use Rattle.std.proofs.Common.{◌≡◌, false, List, [], ◌∷◌, ◌++◌, Option, Some, None, refl}
use Rattle.fk_syntax.specs.Tree as t
use Rattle.fk_syntax.specs.Tree.{Tree, Links, Trees, Suffixes}
use Rattle.fk_syntax.specs.Program as p
use Rattle.fk_syntax.specs.Program.{DeclaredTree, Statement, Statements}
use Rattle.fk_types_names.specs.Outline.{MarkTree, Declares, Uses, tree_marks, links_marks, trees_marks, suffixes_marks, optional_marks, variable_marks, variables_marks, scope, statement_marks, statements_marks, body_marks}
use Rattle.fk_types_names.specs.Visible.{is_opening, is_closing}

-- of one more mark that neither opens nor closes a scope, of marks one after the other, and of a scope
pub record Grows (P : List MarkTree → Type 0) : Type 0 where
  pub none : P []
  pub one : (mark : MarkTree) → is_opening mark ≡ false → is_closing mark ≡ false → (marks : List MarkTree) → P marks → P (mark ∷ marks)
  pub both : (xs ys : List MarkTree) → P xs → P ys → P (xs ++ ys)
  pub scoped : (marks : List MarkTree) → P marks → P (scope marks)

module _ (P : List MarkTree → Type 0) (grows : Grows P) where
  mutual
    of_tree : (x : Tree) → P (tree_marks x)
    of_tree (t.Number spot value unsigned) = grows.none
    of_tree (t.Puts spot text) = grows.none
    of_tree (t.Sizeof spot type) = grows.none
    of_tree (t.Variable name) = grows.one (Uses name) refl refl [] grows.none
    of_tree (t.GroupNumber spot) = grows.none
    of_tree (t.GroupRank spot) = grows.none
    of_tree (t.Prefix spot sign operand) = of_tree operand
    of_tree (t.Cast spot type operand) = of_tree operand
    of_tree (t.Chain first links) = grows.both (tree_marks first) (links_marks links) (of_tree first) (of_links links)
    of_tree (t.Postfix whole suffixes) = grows.both (tree_marks whole) (suffixes_marks suffixes) (of_tree whole) (of_suffixes suffixes)
    of_tree (t.Assign spot sign target value) = grows.both (tree_marks target) (tree_marks value) (of_tree target) (of_tree value)
    of_tree (t.Choose spot condition first second) = grows.both (tree_marks condition ++ tree_marks first) (tree_marks second)
        (grows.both (tree_marks condition) (tree_marks first) (of_tree condition) (of_tree first)) (of_tree second)

    of_links : (x : Links) → P (links_marks x)
    of_links t.no_links = grows.none
    of_links (t.link spot sign right others) = grows.both (tree_marks right) (links_marks others) (of_tree right) (of_links others)

    of_trees : (x : Trees) → P (trees_marks x)
    of_trees t.no_trees = grows.none
    of_trees (t.tree first others) = grows.both (tree_marks first) (trees_marks others) (of_tree first) (of_trees others)

    of_suffixes : (x : Suffixes) → P (suffixes_marks x)
    of_suffixes t.no_suffixes = grows.none
    of_suffixes (t.index spot by others) = grows.both (tree_marks by) (suffixes_marks others) (of_tree by) (of_suffixes others)
    of_suffixes (t.call spot arguments others) = grows.both (trees_marks arguments) (suffixes_marks others) (of_trees arguments) (of_suffixes others)
    of_suffixes (t.dot spot member others) = of_suffixes others
    of_suffixes (t.arrow spot member others) = of_suffixes others
    of_suffixes (t.up spot others) = of_suffixes others
    of_suffixes (t.down spot others) = of_suffixes others

  of_option : (x : Option Tree) → P (optional_marks x)
  of_option None = grows.none
  of_option (Some x) = of_tree x

  pub of_variables : (xs : List DeclaredTree) → P (variables_marks xs)
  of_variables [] = grows.none
  of_variables (x ∷ xs) = grows.both (variable_marks x) (variables_marks xs) (grows.one (Declares _) refl refl (optional_marks x.first) (of_option x.first)) (of_variables xs)

  mutual
    of_statement : (x : Statement) → P (statement_marks x)
    of_statement p.Empty = grows.none
    of_statement (p.Expression value) = of_tree value
    of_statement (p.Block statements) = grows.scoped (statements_marks statements) (of_statements statements)
    of_statement (p.Declare variables) = of_variables variables
    of_statement (p.If spot condition body) = grows.both (tree_marks condition) (scope (statement_marks body)) (of_tree condition) (grows.scoped _ (of_statement body))
    of_statement (p.IfElse spot condition body otherwise) =
        grows.both (tree_marks condition ++ scope (statement_marks body)) (scope (statement_marks otherwise))
        (grows.both (tree_marks condition) (scope (statement_marks body)) (of_tree condition) (grows.scoped _ (of_statement body))) (grows.scoped _ (of_statement otherwise))
    of_statement (p.While spot condition body) = grows.both (tree_marks condition) (scope (statement_marks body)) (of_tree condition) (grows.scoped _ (of_statement body))
    of_statement (p.DoWhile spot body condition) = grows.both (scope (statement_marks body)) (tree_marks condition) (grows.scoped _ (of_statement body)) (of_tree condition)
    of_statement (p.For spot before condition after body) =
        grows.both (optional_marks before ++ optional_marks condition ++ optional_marks after) (scope (statement_marks body))
        (grows.both (optional_marks before ++ optional_marks condition) (optional_marks after)
        (grows.both (optional_marks before) (optional_marks condition) (of_option before) (of_option condition)) (of_option after))
        (grows.scoped _ (of_statement body))
    of_statement (p.Start spot count body) = grows.both (optional_marks count) (scope (statement_marks body)) (of_option count) (grows.scoped _ (of_statement body))
    of_statement (p.Farm spot body) = grows.scoped _ (of_statement body)
    of_statement (p.Seq spot body) = grows.scoped _ (of_statement body)
    of_statement (p.Fork spot parts part rank body) =
        grows.both (tree_marks parts ++ tree_marks part ++ optional_marks rank) (scope (statement_marks body))
        (grows.both (tree_marks parts ++ tree_marks part) (optional_marks rank) (grows.both (tree_marks parts) (tree_marks part) (of_tree parts) (of_tree part)) (of_option rank))
        (grows.scoped _ (of_statement body))
    of_statement (p.Barrier spot) = grows.none
    of_statement (p.Break spot) = grows.none
    of_statement (p.Continue spot) = grows.none
    of_statement (p.Return spot value) = of_option value

    of_statements : (x : Statements) → P (statements_marks x)
    of_statements p.no_statements = grows.none
    of_statements (p.statement first others) = grows.both (statement_marks first) (statements_marks others) (of_statement first) (of_statements others)

  pub of_body : (x : Option Statements) → P (body_marks x)
  of_body None = grows.none
  of_body (Some body) = of_statements body
