-- Each name that is used in a text is among what its expressions name.
use Rattle.std.proofs.Common.{◌≡◌, ℕ, List, [], ◌∷◌, ◌++◌, Option, Some, None}
use Rattle.fk_syntax.specs.Tree as t
use Rattle.fk_syntax.specs.Tree.{TypeTree, Tree, Links, Trees, Suffixes}
use Rattle.fk_syntax.specs.Program as p
use Rattle.fk_syntax.specs.Program.{DeclaredTree, Statement, Statements, ItemTree, ProgramTree}
use Rattle.fk_types_names.specs.Outline.{MarkTree, Closes, Uses, tree_marks, links_marks, trees_marks, suffixes_marks, optional_marks, variable_marks, variables_marks, scope, statement_marks, statements_marks, body_marks, item_marks, items_marks, outline}
use Rattle.fk_types_references.specs.References.{ReferenceTree, Name, main_token, tree_references, links_references, trees_references, suffixes_references, optional_references}
use Rattle.fk_types_obligations.specs.declared.piece.Role.{Role}
use Rattle.fk_types_obligations.specs.declared.piece.Role.TheVariants as role
use Rattle.fk_types_obligations.specs.Pieces as q
use Rattle.fk_types_obligations.specs.Pieces.{PieceTree, optional_pieces, variables_pieces, file_pieces, parameters_pieces, statement_pieces, statements_pieces, body_pieces, item_pieces, items_pieces}
use Rattle.fk_lower_names.proofs.References.{Referred, AllReferred, all_refer}
use Rattle.fk_check_laws.proofs.Each.{Each, front_of, rest_of, two_of, three_of, four_of}
use Rattle.fk_parse_laws.specs.Trim.{ParametersAreTrim, ItemsAreTrim}
use Rattle.fk_lower_names.proofs.Regions.{join}

module _ (program : ProgramTree) (trim : ItemsAreTrim program.items) where
  abbrev Is : ReferenceTree → Type 0
  Is = Referred program

  abbrev R : List ReferenceTree → Type 0
  R rs = Each Is rs

  abbrev pub IsReferred : MarkTree → Type 0
  IsReferred (Uses name) = Is (Name name)
  IsReferred mark = Unit {0}

  abbrev Good : List MarkTree → Type 0
  Good ms = Each IsReferred ms

  both : (xs ys : List MarkTree) → Good xs → Good ys → Good (xs ++ ys)
  both xs ys h k = join IsReferred xs ys h k

  in_scope : (ms : List MarkTree) → Good ms → Good (scope ms)
  in_scope ms h = (tt, both ms (Closes ∷ []) h (tt, tt))

  -- ---- expressions

  mutual
    of_tree : (x : Tree) → R (tree_references x) → Good (tree_marks x)
    of_tree (t.Variable name) h = h
    of_tree (t.Prefix spot sign operand) h = of_tree operand h
    of_tree (t.Cast spot type operand) h = of_tree operand h
    of_tree (t.Chain first links) h =
        let rs = two_of Is (tree_references first) (links_references links) h in both (tree_marks first) (links_marks links) (of_tree first rs.0) (of_links links rs.1)
    of_tree (t.Postfix whole suffixes) h =
        let rs = two_of Is (tree_references whole) (suffixes_references (main_token whole) suffixes) h in
        both (tree_marks whole) (suffixes_marks suffixes) (of_tree whole rs.0) (of_suffixes (main_token whole) suffixes rs.1)
    of_tree (t.Assign spot sign target value) h =
        let rs = two_of Is (tree_references target) (tree_references value) h in both (tree_marks target) (tree_marks value) (of_tree target rs.0) (of_tree value rs.1)
    of_tree (t.Choose spot condition first second) h =
        let rs = three_of Is (tree_references condition) (tree_references first) (tree_references second) h in
        both (tree_marks condition ++ tree_marks first) (tree_marks second)
        (both (tree_marks condition) (tree_marks first) (of_tree condition rs.0) (of_tree first rs.1)) (of_tree second rs.2)
    of_tree leaf h = tt

    of_links : (x : Links) → R (links_references x) → Good (links_marks x)
    of_links t.no_links h = tt
    of_links (t.link spot sign right others) h =
        let rs = two_of Is (tree_references right) (links_references others) h in both (tree_marks right) (links_marks others) (of_tree right rs.0) (of_links others rs.1)

    of_trees : (x : Trees) → R (trees_references x) → Good (trees_marks x)
    of_trees t.no_trees h = tt
    of_trees (t.tree first others) h =
        let rs = two_of Is (tree_references first) (trees_references others) h in both (tree_marks first) (trees_marks others) (of_tree first rs.0) (of_trees others rs.1)

    of_suffixes : (whole : ℕ) (x : Suffixes) → R (suffixes_references whole x) → Good (suffixes_marks x)
    of_suffixes whole t.no_suffixes h = tt
    of_suffixes whole (t.index spot by others) h =
        let rs = two_of Is (tree_references by) (suffixes_references spot.at others) h in
        both (tree_marks by) (suffixes_marks others) (of_tree by rs.0) (of_suffixes spot.at others rs.1)
    of_suffixes whole (t.call spot arguments others) h =
        let rs = two_of Is (trees_references arguments) (suffixes_references spot.at others) h in
        both (trees_marks arguments) (suffixes_marks others) (of_trees arguments rs.0) (of_suffixes spot.at others rs.1)
    of_suffixes whole (t.dot spot member others) h = of_suffixes spot.at others h.1
    of_suffixes whole (t.arrow spot member others) h = of_suffixes spot.at others h.1
    of_suffixes whole (t.up spot others) h = of_suffixes spot.at others h
    of_suffixes whole (t.down spot others) h = of_suffixes spot.at others h

  of_option : (x : Option Tree) → R (optional_references x) → Good (optional_marks x)
  of_option None h = tt
  of_option (Some x) h = of_tree x h

  -- ---- statements

  abbrev P : PieceTree → Type 0
  P = AllReferred program

  of_optional : (r : Role) (x : Option Tree) → Each P (optional_pieces r x) → Good (optional_marks x)
  of_optional r None h = tt
  of_optional r (Some x) h = of_tree x h.0

  of_variables : (xs : List DeclaredTree) → Each P (variables_pieces xs) → Good (variables_marks xs)
  of_variables [] h = tt
  of_variables (x ∷ xs) h = both (variable_marks x) (variables_marks xs) (tt, of_option x.first h.0) (of_variables xs h.1)

  of_file : (xs : List DeclaredTree) → Each P (file_pieces xs) → Good (variables_marks xs)
  of_file [] h = tt
  of_file (x ∷ xs) h = both (variable_marks x) (variables_marks xs) (tt, of_option x.first h.0) (of_file xs h.1)

  -- parameters have no first values
  of_parameters : (xs : List DeclaredTree) → ParametersAreTrim xs → Good (variables_marks xs)
  of_parameters [] h = tt
  of_parameters (x ∷ xs) h = both (variable_marks x) (variables_marks xs) (tt, by x.first h.0) (of_parameters xs h.1)
    where
      by : (o : Option Tree) → o ≡ None → Good (optional_marks o)
      by None e = tt
      by (Some y) e = absurd (cc)

  mutual
    of_statement : (result : TypeTree) (x : Statement) → Each P (statement_pieces result x) → Good (statement_marks x)
    of_statement result (p.Expression value) h = of_tree value h.0
    of_statement result (p.Block statements) h = in_scope (statements_marks statements) (of_statements result statements h)
    of_statement result (p.Declare variables) h = of_variables variables h
    of_statement result (p.If spot condition body) h =
        both (tree_marks condition) (scope (statement_marks body)) (of_tree condition h.0) (in_scope (statement_marks body) (of_statement result body h.1))
    of_statement result (p.IfElse spot condition body otherwise) h =
        let ps = two_of P (statement_pieces result body) (statement_pieces result otherwise) h.1 in
        both (tree_marks condition ++ scope (statement_marks body)) (scope (statement_marks otherwise))
        (both (tree_marks condition) (scope (statement_marks body)) (of_tree condition h.0) (in_scope (statement_marks body) (of_statement result body ps.0)))
        (in_scope (statement_marks otherwise) (of_statement result otherwise ps.1))
    of_statement result (p.While spot condition body) h =
        both (tree_marks condition) (scope (statement_marks body)) (of_tree condition h.0) (in_scope (statement_marks body) (of_statement result body h.1))
    of_statement result (p.DoWhile spot body condition) h =
        let ps = two_of P (statement_pieces result body) (q.Used role.Condition condition ∷ []) h in
        both (scope (statement_marks body)) (tree_marks condition) (in_scope (statement_marks body) (of_statement result body ps.0)) (of_tree condition ps.1.0)
    of_statement result (p.For spot before condition after body) h =
        let ps = four_of P (optional_pieces role.Alone before) (optional_pieces role.Condition condition) (optional_pieces role.Alone after) (statement_pieces result body) h in
        let a = optional_marks before in
        let c = optional_marks condition in
        let d = optional_marks after in
        both (a ++ c ++ d) (scope (statement_marks body))
        (both (a ++ c) d (both a c (of_optional role.Alone before ps.0) (of_optional role.Condition condition ps.1)) (of_optional role.Alone after ps.2))
        (in_scope (statement_marks body) (of_statement result body ps.3))
    of_statement result (p.Start spot count body) h =
        let ps = two_of P (optional_pieces role.Word count) (statement_pieces result body) h in
        both (optional_marks count) (scope (statement_marks body)) (of_optional role.Word count ps.0) (in_scope (statement_marks body) (of_statement result body ps.1))
    of_statement result (p.Farm spot body) h = in_scope (statement_marks body) (of_statement result body h)
    of_statement result (p.Seq spot body) h = in_scope (statement_marks body) (of_statement result body h)
    of_statement result (p.Fork spot parts part rank body) h =
        let ps = two_of P (optional_pieces role.Word rank) (statement_pieces result body) h.1.1 in
        both (tree_marks parts ++ tree_marks part ++ optional_marks rank) (scope (statement_marks body))
        (both (tree_marks parts ++ tree_marks part) (optional_marks rank) (both (tree_marks parts) (tree_marks part) (of_tree parts h.0) (of_tree part h.1.0)) (of_optional role.Word rank ps.0))
        (in_scope (statement_marks body) (of_statement result body ps.1))
    of_statement result (p.Return spot value) h = of_option value h.0
    of_statement result leaf h = tt

    of_statements : (result : TypeTree) (x : Statements) → Each P (statements_pieces result x) → Good (statements_marks x)
    of_statements result p.no_statements h = tt
    of_statements result (p.statement first others) h =
        let ps = two_of P (statement_pieces result first) (statements_pieces result others) h in
        both (statement_marks first) (statements_marks others) (of_statement result first ps.0) (of_statements result others ps.1)

  of_body : (result : TypeTree) (x : Option Statements) → Each P (body_pieces result x) → Good (body_marks x)
  of_body result None h = tt
  of_body result (Some body) h = of_statements result body h

  -- ---- items

  of_items : (xs : List ItemTree) → ItemsAreTrim xs → Each P (items_pieces xs) → Good (items_marks xs)
  of_items [] w h = tt
  of_items (p.StructItem name members ∷ xs) w h = of_items xs w.1 h
  of_items (p.VariablesItem variables ∷ xs) w h =
      both (variables_marks variables) (items_marks xs) (of_file variables (front_of P (file_pieces variables) (items_pieces xs) h))
      (of_items xs w.1 (rest_of P (file_pieces variables) (items_pieces xs) h))
  of_items (p.FunctionItem f ∷ xs) w h =
      let x = p.FunctionItem f in
      let here = (front_of P (item_pieces x) (items_pieces xs) h).1 in
      let inner = variables_marks f.parameters ++ body_marks f.body in
      both (item_marks x) (items_marks xs) (
        tt,
        in_scope inner (both (variables_marks f.parameters) (body_marks f.body) (of_parameters f.parameters w.0.0)
            (of_body f.result f.body (rest_of P (parameters_pieces f.parameters) (body_pieces f.result f.body) here))),
      )
      (of_items xs w.1 (rest_of P (item_pieces x) (items_pieces xs) h))

  pub all_referred : Good (outline program)
  all_referred = of_items program.items trim (all_refer program)
