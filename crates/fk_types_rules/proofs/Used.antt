-- The names in the expressions of a program's pieces are those of its outline.
use Rattle.std.proofs.Common.{◌≡◌, ℕ, zero, suc, false, List, [], ◌∷◌, ◌++◌, Option, Some, None, slice_get, refl, subst}
use Rattle.std.proofs.lemmas.Option.{same_Some}
use Rattle.fk_syntax.specs.declared.place.Spot.{Spot}
use Rattle.fk_syntax.specs.declared.sign.Sign.{Sign}
use Rattle.fk_syntax.specs.declared.sign.Sign.TheVariants as s
use Rattle.fk_syntax.specs.Tree as t
use Rattle.fk_syntax.specs.Tree.{Named, TypeTree, Tree, Links, Trees, Suffixes}
use Rattle.fk_syntax.specs.Program as p
use Rattle.fk_syntax.specs.Program.{DeclaredTree, Statement, Statements, FunctionTree, ItemTree, ProgramTree}
use Rattle.fk_types_names.specs.Outline.{MarkTree, Opens, Closes, Declares, Uses, tree_marks, links_marks, trees_marks, suffixes_marks, optional_marks, variables_marks, scope, statement_marks, statements_marks, body_marks, function_marks, item_marks, items_marks, outline}
use Rattle.fk_types_judgments.specs.Term.{Term, Terms, Number, Puts, Sizeof, Use, GroupNumber, GroupRank, Prefix, Dereference, Address, Count, Cast, Binary, Comma, Index, Call, Member, Through, Assign, Choose, no_terms, also, prefix_term, joined_term, term_of, with_links, with_arguments, with_suffixes}
use Rattle.fk_types_obligations.specs.declared.piece.Role.{Role}
use Rattle.fk_types_obligations.specs.declared.piece.Role.TheVariants as role
use Rattle.fk_types_obligations.specs.Pieces as x
use Rattle.fk_types_obligations.specs.Pieces.{PieceTree, optional_pieces, variables_pieces, file_pieces, parameters_pieces, statement_pieces, statements_pieces, body_pieces, function_pieces, item_pieces, items_pieces, pieces}

module _ (P : Named → Type 0) where
  -- something holds of each name that marks use
  abbrev pub HoldsOf : List MarkTree → Type 0
  HoldsOf [] = Unit {0}
  HoldsOf (Opens ∷ marks) = HoldsOf marks
  HoldsOf (Closes ∷ marks) = HoldsOf marks
  HoldsOf (Declares d ∷ marks) = HoldsOf marks
  HoldsOf (Uses name ∷ marks) = P name × HoldsOf marks

  pub holds-each : (marks : List MarkTree) → ((from : ℕ) (name : Named) → slice_get marks from ≡ Some (Uses name) → P name) → HoldsOf marks
  holds-each [] each = tt
  holds-each (Opens ∷ marks) each = holds-each marks (λ from. each (suc from))
  holds-each (Closes ∷ marks) each = holds-each marks (λ from. each (suc from))
  holds-each (Declares d ∷ marks) each = holds-each marks (λ from. each (suc from))
  holds-each (Uses name ∷ marks) each = (each 0 name refl, holds-each marks (λ from. each (suc from)))

  left : (xs ys : List MarkTree) → HoldsOf (xs ++ ys) → HoldsOf xs
  left [] ys h = tt
  left (Opens ∷ xs) ys h = left xs ys h
  left (Closes ∷ xs) ys h = left xs ys h
  left (Declares d ∷ xs) ys h = left xs ys h
  left (Uses name ∷ xs) ys h = (h.0, left xs ys h.1)

  right : (xs ys : List MarkTree) → HoldsOf (xs ++ ys) → HoldsOf ys
  right [] ys h = h
  right (Opens ∷ xs) ys h = right xs ys h
  right (Closes ∷ xs) ys h = right xs ys h
  right (Declares d ∷ xs) ys h = right xs ys h
  right (Uses name ∷ xs) ys h = right xs ys h.1

  inside : (marks : List MarkTree) → HoldsOf (scope marks) → HoldsOf marks
  inside marks h = left marks (Closes ∷ []) h

  -- and of each name in an expression
  abbrev mutual
    pub InTerm : Term → Type 0
    InTerm (Number spot value unsigned) = Unit {0}
    InTerm (Puts spot) = Unit {0}
    InTerm (Sizeof spot type) = Unit {0}
    InTerm (Use name) = P name
    InTerm (GroupNumber spot) = Unit {0}
    InTerm (GroupRank spot) = Unit {0}
    InTerm (Prefix spot sign operand) = InTerm operand
    InTerm (Dereference spot pointer) = InTerm pointer
    InTerm (Address spot place) = InTerm place
    InTerm (Count spot is_before place) = InTerm place
    InTerm (Cast spot type operand) = InTerm operand
    InTerm (Binary spot sign left right) = InTerm left × InTerm right
    InTerm (Comma spot left right) = InTerm left × InTerm right
    InTerm (Index spot whole by) = InTerm whole × InTerm by
    InTerm (Call spot callee arguments) = InTerm callee × InTerms arguments
    InTerm (Member spot whole member) = InTerm whole
    InTerm (Through spot pointer member) = InTerm pointer
    InTerm (Assign spot sign place value) = InTerm place × InTerm value
    InTerm (Choose spot condition first second) = InTerm condition × InTerm first × InTerm second

    pub InTerms : Terms → Type 0
    InTerms no_terms = Unit {0}
    InTerms (also before last) = InTerms before × InTerm last

  in_prefix : (spot : Spot) (sign : Sign) (operand : Term) → InTerm operand → InTerm (prefix_term spot sign operand)
  in_prefix spot s.Star operand h = h
  in_prefix spot s.Ampersand operand h = h
  in_prefix spot s.Increment operand h = h
  in_prefix spot s.Decrement operand h = h
  in_prefix spot _ operand h = h

  in_joined : (spot : Spot) (sign : Sign) (before after : Term) → InTerm before → InTerm after → InTerm (joined_term spot sign before after)
  in_joined spot s.Comma before after h k = (h, k)
  in_joined spot _ before after h k = (h, k)

  mutual
    in_tree : (tree : Tree) → HoldsOf (tree_marks tree) → InTerm (term_of tree)
    in_tree (t.Number spot value unsigned) h = tt
    in_tree (t.Puts spot text) h = tt
    in_tree (t.Sizeof spot type) h = tt
    in_tree (t.Variable name) h = h.0
    in_tree (t.GroupNumber spot) h = tt
    in_tree (t.GroupRank spot) h = tt
    in_tree (t.Prefix spot sign operand) h = in_prefix spot sign (term_of operand) (in_tree operand h)
    in_tree (t.Cast spot type operand) h = in_tree operand h
    in_tree (t.Chain first links) h = in_links links (term_of first) (in_tree first (left (tree_marks first) (links_marks links) h)) (right (tree_marks first) (links_marks links) h)
    in_tree (t.Postfix whole suffixes) h = in_suffixes suffixes (term_of whole) (in_tree whole (left (tree_marks whole) (suffixes_marks suffixes) h)) (right (tree_marks whole) (suffixes_marks suffixes) h)
    in_tree (t.Assign spot sign target value) h = (in_tree target (left (tree_marks target) (tree_marks value) h), in_tree value (right (tree_marks target) (tree_marks value) h))
    in_tree (t.Choose spot condition first second) h =
        let front = left (tree_marks condition ++ tree_marks first) (tree_marks second) h in (
          in_tree condition (left (tree_marks condition) (tree_marks first) front),
          in_tree first (right (tree_marks condition) (tree_marks first) front),
          in_tree second (right (tree_marks condition ++ tree_marks first) (tree_marks second) h),
        )

    in_links : (links : Links) (before : Term) → InTerm before → HoldsOf (links_marks links) → InTerm (with_links before links)
    in_links t.no_links before b h = b
    in_links (t.link spot sign after others) before b h =
        in_links others (joined_term spot sign before (term_of after)) (in_joined spot sign before (term_of after) b (in_tree after (left (tree_marks after) (links_marks others) h))) (right (tree_marks after) (links_marks others) h)

    in_arguments : (arguments : Trees) (before : Terms) → InTerms before → HoldsOf (trees_marks arguments) → InTerms (with_arguments before arguments)
    in_arguments t.no_trees before b h = b
    in_arguments (t.tree first others) before b h = in_arguments others (also before (term_of first)) (b, in_tree first (left (tree_marks first) (trees_marks others) h)) (right (tree_marks first) (trees_marks others) h)

    in_suffixes : (suffixes : Suffixes) (before : Term) → InTerm before → HoldsOf (suffixes_marks suffixes) → InTerm (with_suffixes before suffixes)
    in_suffixes t.no_suffixes before b h = b
    in_suffixes (t.index spot by others) before b h = in_suffixes others (Index spot before (term_of by)) (b, in_tree by (left (tree_marks by) (suffixes_marks others) h)) (right (tree_marks by) (suffixes_marks others) h)
    in_suffixes (t.call spot arguments others) before b h =
        in_suffixes others (Call spot before (with_arguments no_terms arguments)) (b, in_arguments arguments no_terms tt (left (trees_marks arguments) (suffixes_marks others) h)) (right (trees_marks arguments) (suffixes_marks others) h)
    in_suffixes (t.dot spot member others) before b h = in_suffixes others (Member spot before member) b h
    in_suffixes (t.arrow spot member others) before b h = in_suffixes others (Through spot before member) b h
    in_suffixes (t.up spot others) before b h = in_suffixes others (Count spot false before) b h
    in_suffixes (t.down spot others) before b h = in_suffixes others (Count spot false before) b h

  -- ---- and of each name in a piece

  abbrev pub InOptional : Option Tree → Type 0
  InOptional None = Unit {0}
  InOptional (Some tree) = InTerm (term_of tree)

  abbrev pub InPiece : PieceTree → Type 0
  InPiece (x.FileVariable variable) = InOptional variable.first
  InPiece (x.Variable variable) = InOptional variable.first
  InPiece (x.Parameter parameter) = Unit {0}
  InPiece (x.Header function) = Unit {0}
  InPiece (x.Used r value) = InTerm (term_of value)
  InPiece (x.Return result spot value) = InOptional value

  abbrev pub InPieces : List PieceTree → Type 0
  InPieces [] = Unit {0}
  InPieces (piece ∷ others) = InPiece piece × InPieces others

  pub in_piece-at : (list : List PieceTree) (i : ℕ) (piece : PieceTree) → slice_get list i ≡ Some piece → InPieces list → InPiece piece
  in_piece-at [] i piece e h = absurd cc
  in_piece-at (first ∷ others) zero piece e h = subst InPiece (same_Some first piece e) h.0
  in_piece-at (first ∷ others) (suc i) piece e h = in_piece-at others i piece e h.1

  joined : (xs ys : List PieceTree) → InPieces xs → InPieces ys → InPieces (xs ++ ys)
  joined [] ys h k = k
  joined (piece ∷ xs) ys h k = (h.0, joined xs ys h.1 k)

  in_optional : (tree : Option Tree) → HoldsOf (optional_marks tree) → InOptional tree
  in_optional None h = tt
  in_optional (Some tree) h = in_tree tree h

  in_optional_pieces : (r : Role) (tree : Option Tree) → HoldsOf (optional_marks tree) → InPieces (optional_pieces r tree)
  in_optional_pieces r None h = tt
  in_optional_pieces r (Some tree) h = (in_tree tree h, tt)

  in_variables : (variables : List DeclaredTree) → HoldsOf (variables_marks variables) → InPieces (variables_pieces variables)
  in_variables [] h = tt
  in_variables (v ∷ vs) h = (in_optional v.first (left (optional_marks v.first) (variables_marks vs) h), in_variables vs (right (optional_marks v.first) (variables_marks vs) h))

  in_file : (variables : List DeclaredTree) → HoldsOf (variables_marks variables) → InPieces (file_pieces variables)
  in_file [] h = tt
  in_file (v ∷ vs) h = (in_optional v.first (left (optional_marks v.first) (variables_marks vs) h), in_file vs (right (optional_marks v.first) (variables_marks vs) h))

  in_parameters : (parameters : List DeclaredTree) → InPieces (parameters_pieces parameters)
  in_parameters [] = tt
  in_parameters (v ∷ vs) = (tt, in_parameters vs)

  -- a statement in the body of another, behind what stands before it
  in_body : (marks : List MarkTree) (body : List MarkTree) → HoldsOf (marks ++ scope body) → HoldsOf body
  in_body marks body h = inside body (right marks (scope body) h)

  mutual
    in_statement : (result : TypeTree) (statement : Statement) → HoldsOf (statement_marks statement) → InPieces (statement_pieces result statement)
    in_statement result p.Empty h = tt
    in_statement result (p.Expression value) h = (in_tree value h, tt)
    in_statement result (p.Block statements) h = in_statements result statements (inside (statements_marks statements) h)
    in_statement result (p.Declare variables) h = in_variables variables h
    in_statement result (p.If spot condition body) h = (in_tree condition (left (tree_marks condition) (scope (statement_marks body)) h), in_statement result body (in_body (tree_marks condition) (statement_marks body) h))
    in_statement result (p.IfElse spot condition body otherwise) h =
        let front = left (tree_marks condition ++ scope (statement_marks body)) (scope (statement_marks otherwise)) h in (
          in_tree condition (left (tree_marks condition) (scope (statement_marks body)) front),
          joined (statement_pieces result body) (statement_pieces result otherwise)
              (in_statement result body (in_body (tree_marks condition) (statement_marks body) front))
              (in_statement result otherwise (in_body (tree_marks condition ++ scope (statement_marks body)) (statement_marks otherwise) h)),
        )
    in_statement result (p.While spot condition body) h = (in_tree condition (left (tree_marks condition) (scope (statement_marks body)) h), in_statement result body (in_body (tree_marks condition) (statement_marks body) h))
    in_statement result (p.DoWhile spot body condition) h =
        joined (statement_pieces result body) (x.Used role.Condition condition ∷ []) (in_statement result body (inside (statement_marks body) (left (scope (statement_marks body)) (tree_marks condition) h)))
        (in_tree condition (right (scope (statement_marks body)) (tree_marks condition) h), tt)
    in_statement result (p.For spot before condition after body) h =
        let front = left (optional_marks before ++ optional_marks condition ++ optional_marks after) (scope (statement_marks body)) h in
        let head = left (optional_marks before ++ optional_marks condition) (optional_marks after) front in
        joined (optional_pieces role.Alone before ++ optional_pieces role.Condition condition ++ optional_pieces role.Alone after) (statement_pieces result body)
        (joined (optional_pieces role.Alone before ++ optional_pieces role.Condition condition) (optional_pieces role.Alone after)
        (joined (optional_pieces role.Alone before) (optional_pieces role.Condition condition)
        (in_optional_pieces role.Alone before (left (optional_marks before) (optional_marks condition) head))
        (in_optional_pieces role.Condition condition (right (optional_marks before) (optional_marks condition) head)))
        (in_optional_pieces role.Alone after (right (optional_marks before ++ optional_marks condition) (optional_marks after) front)))
        (in_statement result body (in_body (optional_marks before ++ optional_marks condition ++ optional_marks after) (statement_marks body) h))
    in_statement result (p.Start spot count body) h =
        joined (optional_pieces role.Word count) (statement_pieces result body) (in_optional_pieces role.Word count (left (optional_marks count) (scope (statement_marks body)) h)) (in_statement result body (in_body (optional_marks count) (statement_marks body) h))
    in_statement result (p.Farm spot body) h = in_statement result body (inside (statement_marks body) h)
    in_statement result (p.Seq spot body) h = in_statement result body (inside (statement_marks body) h)
    in_statement result (p.Fork spot parts part rank body) h =
        let front = left (tree_marks parts ++ tree_marks part ++ optional_marks rank) (scope (statement_marks body)) h in
        let two = left (tree_marks parts ++ tree_marks part) (optional_marks rank) front in (
          in_tree parts (left (tree_marks parts) (tree_marks part) two),
          (
            in_tree part (right (tree_marks parts) (tree_marks part) two),
            joined (optional_pieces role.Word rank) (statement_pieces result body)
                (in_optional_pieces role.Word rank (right (tree_marks parts ++ tree_marks part) (optional_marks rank) front))
                (in_statement result body (in_body (tree_marks parts ++ tree_marks part ++ optional_marks rank) (statement_marks body) h)),
          ),
        )
    in_statement result (p.Barrier spot) h = tt
    in_statement result (p.Break spot) h = tt
    in_statement result (p.Continue spot) h = tt
    in_statement result (p.Return spot value) h = (in_optional value h, tt)

    in_statements : (result : TypeTree) (statements : Statements) → HoldsOf (statements_marks statements) → InPieces (statements_pieces result statements)
    in_statements result p.no_statements h = tt
    in_statements result (p.statement first others) h = joined (statement_pieces result first) (statements_pieces result others)
        (in_statement result first (left (statement_marks first) (statements_marks others) h)) (in_statements result others (right (statement_marks first) (statements_marks others) h))

  in_whole : (result : TypeTree) (body : Option Statements) → HoldsOf (body_marks body) → InPieces (body_pieces result body)
  in_whole result None h = tt
  in_whole result (Some body) h = in_statements result body h

  in_function : (function : FunctionTree) → HoldsOf (function_marks function) → InPieces (function_pieces function)
  in_function function h =
      let inner = inside (variables_marks function.parameters ++ body_marks function.body) h in (
        tt,
        joined (parameters_pieces function.parameters) (body_pieces function.result function.body) (in_parameters function.parameters)
            (in_whole function.result function.body (right (variables_marks function.parameters) (body_marks function.body) inner)),
      )

  in_item : (item : ItemTree) → HoldsOf (item_marks item) → InPieces (item_pieces item)
  in_item (p.StructItem name members) h = tt
  in_item (p.VariablesItem variables) h = in_file variables h
  in_item (p.FunctionItem function) h = in_function function h

  in_items : (items : List ItemTree) → HoldsOf (items_marks items) → InPieces (items_pieces items)
  in_items [] h = tt
  in_items (item ∷ items) h = joined (item_pieces item) (items_pieces items) (in_item item (left (item_marks item) (items_marks items) h)) (in_items items (right (item_marks item) (items_marks items) h))

  pub in_program : (program : ProgramTree) → HoldsOf (outline program) → InPieces (pieces program)
  in_program program h = in_items program.items h
