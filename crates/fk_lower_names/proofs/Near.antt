-- The members in a correct program are near the first words of their structs, and no function has many parameters.
use Rattle.std.proofs.Common.{◌≡◌, inl, inr, ℕ, zero, suc, ◌+◌, ◌^◌, ◌<◌, ◌≤◌, Bool, List, [], ◌∷◌, ◌++◌, length, Option, Some, None, slice_get, refl, sym, ap, ◌∙◌, length-append, arith}
use Rattle.std.proofs.lemmas.Bool.{cases_order}
use Rattle.std.proofs.lemmas.Option.{same_Some, slice_get_read}
use Rattle.fk_syntax.specs.declared.facts.Facts.{Facts}
use Rattle.fk_syntax.specs.Tree as t
use Rattle.fk_syntax.specs.Tree.{Named, TypeTree, Tree, Links, Trees, Suffixes}
use Rattle.fk_syntax.specs.Program as p
use Rattle.fk_syntax.specs.Program.{DeclaredTree, Statement, Statements, ItemTree, ProgramTree, StructItem, VariablesItem, FunctionItem}
use Rattle.fk_types_names.specs.Outline.{DeclarationTree, MarkTree, Closes, declarations, declared_in, variable_marks, variables_marks, body_marks, item_marks, items_marks}
use Rattle.fk_types_name_rules.proofs.ListLemmas.{some_at}
use Rattle.fk_types_obligations.specs.declared.piece.Role.{Role}
use Rattle.fk_types_obligations.specs.declared.piece.Role.TheVariants as role
use Rattle.fk_types_obligations.specs.Pieces as q
use Rattle.fk_types_obligations.specs.Pieces.{PieceTree, pieces, optional_pieces, variables_pieces, parameters_pieces, statement_pieces, statements_pieces, body_pieces, item_pieces, items_pieces}
use Rattle.fk_types_references.specs.References.{ReferenceTree, Member, main_token, tree_references, links_references, trees_references, suffixes_references, optional_references}
use Rattle.fk_types_rules.specs.Bound as b
use Rattle.fk_types_rules.specs.Bound.{IsBound, Refers, token_of, pieces_references}
use Rattle.fk_types_rules.proofs.References.{declared_in-append}
use Rattle.fk_types_rules.proofs.Tokens.{tokens_apart}
use Rattle.fk_types_bindings.proofs.Below.{references_below}
use Rattle.fk_meaning_forms.specs.Tables.{Tables, note}
use Rattle.fk_layout.specs.Layout.{tables_by}
use Rattle.fk_parse_laws.specs.Every.{TreeHas, LinksHave, TreesHave, SuffixesHave, OptionHas, VariablesHave, StatementHas, StatementsHave, BodyHas}
use Rattle.fk_lower_names.specs.WordRoom.{most_words, near_members, ItemsAreNear}
use Rattle.fk_check_laws.specs.Correct.{IsCorrect}
use Rattle.fk_lower_names.proofs.References.{Referred, AllReferred, all_refer}
use Rattle.fk_check_laws.proofs.Each.{Each, front_of, rest_of, two_of, three_of, four_of}
use Rattle.fk_check_laws.proofs.Named.{env}
use Rattle.fk_check_laws.proofs.Numbers.{number_low}
use Rattle.fk_lower_names.proofs.WordNumbers.{below, declared_number}

module _ (program : ProgramTree) (facts : Facts) (valid : IsCorrect program facts) where
  abbrev T : Tables
  T = tables_by program facts

  abbrev all : List ReferenceTree
  all = pieces_references (pieces program)

  abbrev Is : ReferenceTree → Type 0
  Is = Referred program

  one_reference : (r m : ReferenceTree) → Is r → Is m → token_of r ≡ token_of m → r ≡ m
  one_reference r m h k same =
      let i = slice_get_read all (length all) h.0 r refl h.1 (sym h.2) in
      let j = slice_get_read all (length all) k.0 m refl k.1 (sym k.2) in
      elim (cases_order h.0 k.0) [
        | inl e ↦ same_Some r m (sym i ∙ ap (slice_get all) e ∙ j)
        | inr (inl less) ↦ absurd ((tokens_apart program valid.well_formed).references h.0 k.0 r m less i j same)
        | inr (inr more) ↦ absurd ((tokens_apart program valid.well_formed).references k.0 h.0 m r more j i (sym same))
      ]

  member_low : (r : ReferenceTree) (whole : ℕ) (is_arrow : Bool) (name : Named) (number : ℕ) → r ≡ Member whole is_arrow name → Refers (env program facts valid) program r number → number < 2 ^ 29
  member_low r whole is_arrow name number e (b.declared other n means) = absurd (cc)
  member_low r whole is_arrow name number e (b.predeclared other means) = absurd (cc)
  member_low r whole is_arrow name number e (b.member w a other type index place words has before named offset) = omega arith
  member_low r whole is_arrow name number e (b.size spot tree type words spelled has) = absurd (cc)

  near_member : (whole : ℕ) (is_arrow : Bool) (name : Named) → Is (Member whole is_arrow name) → (note T name.at).binding < most_words
  near_member whole is_arrow name h = below program facts valid (2 ^ 29) (omega arith) name.at (references_below program valid.well_formed (Member whole is_arrow name) h) by
    where
      by : (bound : ℕ) → IsBound (env program facts valid) program name.at bound → bound < 2 ^ 29
      by bound (b.refers r number k same refers) = member_low r whole is_arrow name number (one_reference r (Member whole is_arrow name) k h same) refers
      by bound (b.declares d here meant is same stands) = omega (arith, declared_number program facts valid here meant d _ is stands, valid.small)

  -- ---- expressions

  abbrev R : List ReferenceTree → Type 0
  R rs = Each Is rs

  mutual
    near : (x : Tree) → R (tree_references x) → TreeHas (near_members T) x
    near (t.Prefix spot sign operand) h = near operand h
    near (t.Cast spot type operand) h = near operand h
    near (t.Chain first links) h = let rs = two_of Is (tree_references first) (links_references links) h in (tt, near first rs.0, near_links links rs.1)
    near (t.Postfix whole suffixes) h =
        let rs = two_of Is (tree_references whole) (suffixes_references (main_token whole) suffixes) h in (tt, near whole rs.0, near_suffixes (main_token whole) suffixes rs.1)
    near (t.Assign spot sign target value) h = let rs = two_of Is (tree_references target) (tree_references value) h in (near target rs.0, near value rs.1)
    near (t.Choose spot condition first second) h =
        let rs = three_of Is (tree_references condition) (tree_references first) (tree_references second) h in (near condition rs.0, near first rs.1, near second rs.2)
    near leaf h = tt

    near_links : (x : Links) → R (links_references x) → LinksHave (near_members T) x
    near_links t.no_links h = tt
    near_links (t.link spot sign right others) h = let rs = two_of Is (tree_references right) (links_references others) h in (near right rs.0, near_links others rs.1)

    near_trees : (x : Trees) → R (trees_references x) → TreesHave (near_members T) x
    near_trees t.no_trees h = tt
    near_trees (t.tree first others) h = let rs = two_of Is (tree_references first) (trees_references others) h in (near first rs.0, near_trees others rs.1)

    near_suffixes : (whole : ℕ) (x : Suffixes) → R (suffixes_references whole x) → SuffixesHave (near_members T) x
    near_suffixes whole t.no_suffixes h = tt
    near_suffixes whole (t.index spot by others) h =
        let rs = two_of Is (tree_references by) (suffixes_references spot.at others) h in (near by rs.0, near_suffixes spot.at others rs.1)
    near_suffixes whole (t.call spot arguments others) h =
        let rs = two_of Is (trees_references arguments) (suffixes_references spot.at others) h in (near_trees arguments rs.0, near_suffixes spot.at others rs.1)
    near_suffixes whole (t.dot spot member others) h = (near_member whole _ member h.0, near_suffixes spot.at others h.1)
    near_suffixes whole (t.arrow spot member others) h = (near_member whole _ member h.0, near_suffixes spot.at others h.1)
    near_suffixes whole (t.up spot others) h = near_suffixes spot.at others h
    near_suffixes whole (t.down spot others) h = near_suffixes spot.at others h

  near_option : (x : Option Tree) → R (optional_references x) → OptionHas (near_members T) x
  near_option None h = tt
  near_option (Some x) h = near x h

  -- ---- statements

  abbrev P : PieceTree → Type 0
  P = AllReferred program

  near_or : (r : Role) (x : Option Tree) → Each P (optional_pieces r x) → OptionHas (near_members T) x
  near_or r None h = tt
  near_or r (Some x) h = near x h.0

  near_variables : (xs : List DeclaredTree) → Each P (variables_pieces xs) → VariablesHave (near_members T) xs
  near_variables [] h = tt
  near_variables (x ∷ xs) h = (tt, near_option x.first h.0, near_variables xs h.1)

  mutual
    near_statement : (result : TypeTree) (x : Statement) → Each P (statement_pieces result x) → StatementHas (near_members T) x
    near_statement result (p.Expression value) h = near value h.0
    near_statement result (p.Block statements) h = near_statements result statements h
    near_statement result (p.Declare variables) h = near_variables variables h
    near_statement result (p.If spot condition body) h = (near condition h.0, near_statement result body h.1)
    near_statement result (p.IfElse spot condition body otherwise) h =
        let ps = two_of P (statement_pieces result body) (statement_pieces result otherwise) h.1 in (near condition h.0, near_statement result body ps.0, near_statement result otherwise ps.1)
    near_statement result (p.While spot condition body) h = (near condition h.0, near_statement result body h.1)
    near_statement result (p.DoWhile spot body condition) h =
        let ps = two_of P (statement_pieces result body) (q.Used role.Condition condition ∷ []) h in (near_statement result body ps.0, near condition ps.1.0)
    near_statement result (p.For spot before condition after body) h =
        let ps = four_of P (optional_pieces role.Alone before) (optional_pieces role.Condition condition) (optional_pieces role.Alone after) (statement_pieces result body) h in
        (near_or role.Alone before ps.0, near_or role.Condition condition ps.1, near_or role.Alone after ps.2, near_statement result body ps.3)
    near_statement result (p.Start spot count body) h =
        let ps = two_of P (optional_pieces role.Word count) (statement_pieces result body) h in (near_or role.Word count ps.0, near_statement result body ps.1)
    near_statement result (p.Farm spot body) h = near_statement result body h
    near_statement result (p.Seq spot body) h = near_statement result body h
    near_statement result (p.Fork spot parts part rank body) h =
        let ps = two_of P (optional_pieces role.Word rank) (statement_pieces result body) h.1.1 in
        (near parts h.0, near part h.1.0, near_or role.Word rank ps.0, near_statement result body ps.1)
    near_statement result (p.Return spot value) h = near_option value h.0
    near_statement result leaf h = tt

    near_statements : (result : TypeTree) (x : Statements) → Each P (statements_pieces result x) → StatementsHave (near_members T) x
    near_statements result p.no_statements h = tt
    near_statements result (p.statement first others) h =
        let ps = two_of P (statement_pieces result first) (statements_pieces result others) h in (near_statement result first ps.0, near_statements result others ps.1)

  near_body : (result : TypeTree) (x : Option Statements) → Each P (body_pieces result x) → BodyHas (near_members T) x
  near_body result None h = tt
  near_body result (Some body) h = near_statements result body h

  -- ---- items

  pub declared_few : (n : ℕ) → length (declarations program) ≡ n → n ≤ program.tokens
  declared_few zero is = omega arith
  declared_few (suc n) is = let d = some_at (declarations program) n (omega (arith, is)) in omega (arith, number_low program valid.well_formed n d.0 d.1)

  few_parameters : (xs : List DeclaredTree) → length xs ≤ length (declared_in (variables_marks xs))
  few_parameters [] = omega arith
  few_parameters (x ∷ xs) =
      let e = ap (λ (ds : List DeclarationTree). length ds) (declared_in-append (variable_marks x) (variables_marks xs)) in
      omega (arith, e, length-append (declared_in (variable_marks x)) (declared_in (variables_marks xs)), few_parameters xs)

  counts : (xs ys : List MarkTree) → length (declared_in (xs ++ ys)) ≡ length (declared_in xs) + length (declared_in ys)
  counts xs ys = ap (λ (ds : List DeclarationTree). length ds) (declared_in-append xs ys) ∙ length-append (declared_in xs) (declared_in ys)

  near_items : (xs : List ItemTree) → Each P (items_pieces xs) → length (declared_in (items_marks xs)) ≤ 2 ^ 20 → ItemsAreNear T xs
  near_items [] h few = tt
  near_items (StructItem name members ∷ xs) h few = (tt, near_items xs h few)
  near_items (VariablesItem variables ∷ xs) h few =
      let x = VariablesItem variables in
      (tt, near_items xs (rest_of P (item_pieces x) (items_pieces xs) h) (omega (arith, counts (item_marks x) (items_marks xs), few)))
  near_items (FunctionItem f ∷ xs) h few =
      let x = FunctionItem f in
      let here = (front_of P (item_pieces x) (items_pieces xs) h).1 in
      let inner = variables_marks f.parameters ++ body_marks f.body in
      let whole : length (declared_in (item_marks x)) ≡ suc (length (declared_in (inner ++ Closes ∷ []))) = refl in (
        (
          omega (arith, counts (item_marks x) (items_marks xs), few, few_parameters f.parameters, whole, counts inner (Closes ∷ []), counts (variables_marks f.parameters) (body_marks f.body)),
          near_body f.result f.body (rest_of P (parameters_pieces f.parameters) (body_pieces f.result f.body) here),
        ),
        near_items xs (rest_of P (item_pieces x) (items_pieces xs) h) (omega (arith, counts (item_marks x) (items_marks xs), few)),
      )

  pub all_near : ItemsAreNear T program.items
  all_near = near_items program.items (all_refer program)
      (omega (arith, declared_few (length (declarations program)) refl, valid.small))
