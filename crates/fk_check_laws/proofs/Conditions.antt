-- The conditions of loops of a correct program begin with an operation.
use Rattle.std.proofs.Common.{◌≡◌, inl, inr, ℕ, Bool, true, List, [], ◌∷◌, ◌++◌, Option, Some, None, refl, sym, subst}
use Rattle.std.specs.Prelude.{◌==◌}
use Rattle.fk_syntax.specs.declared.facts.Facts.{Facts}
use Rattle.fk_syntax.specs.Tree.{Named, TypeTree, Tree, Trees}
use Rattle.fk_syntax.specs.Program as p
use Rattle.fk_syntax.specs.Program.{Statement, Statements, FunctionTree, ItemTree, ProgramTree, StructItem, VariablesItem, FunctionItem}
use Rattle.fk_check_rules.specs.declared.rule.Rule.TheVariants as rules
use Rattle.fk_types_names.specs.Outline as n
use Rattle.fk_types_names.specs.Outline.{MarkTree, tree_marks, optional_marks, variables_marks, statement_marks, statements_marks, body_marks, item_marks, items_marks}
use Rattle.fk_types_judgments.specs.Term.{term_of, first_place}
use Rattle.fk_types_obligations.specs.declared.piece.Role.TheVariants as role
use Rattle.fk_types_obligations.specs.Pieces as q
use Rattle.fk_types_obligations.specs.Pieces.{PieceTree, optional_pieces, parameters_pieces, statement_pieces, statements_pieces, body_pieces, item_pieces, items_pieces}
use Rattle.fk_regions.specs.Tokens as r
use Rattle.fk_sharing_class.specs.declared.thing.Thing.{Thing}
use Rattle.fk_sharing.specs.declared.around.Holder.{Holder}
use Rattle.fk_sharing.specs.Tokens as s
use Rattle.fk_meaning_forms.specs.Tables.{no_binding, note}
use Rattle.fk_meaning_forms.specs.Expressions as x
use Rattle.fk_meaning_forms.specs.Expressions.{Signature}
use Rattle.fk_meaning_forms.specs.Program.{functions_of, with_body}
use Rattle.fk_meaning.specs.Calls.{TakesEnough}
use Rattle.fk_lockstep.specs.Told.{Told}
use Rattle.fk_core_flat.specs.Fitting.{NameFits}
use Rattle.fk_parse_laws.specs.Every.{TreeHas, OptionHas, StatementHas, StatementsHave, BodyHas}
use Rattle.fk_parse_laws.specs.Trim.{ItemsAreTrim, nonempty_lists}
use Rattle.fk_check_laws.specs.Correct.{IsCorrect}
use Rattle.fk_check_laws.specs.Conditions as c
use Rattle.fk_check_laws.specs.Conditions.{OptionBegins, LoopsBegin, AllLoopsBegin, BodyBegins, FunctionsBegin}
use Rattle.fk_check_laws.proofs.Each.{Each, front_of, rest_of}
use Rattle.fk_check_laws.proofs.Typed as y
use Rattle.fk_check_laws.proofs.Typed.{so_not}
use Rattle.fk_check_laws.proofs.Notes.{tables}
use Rattle.fk_check_laws.proofs.Named.{env, known}
use Rattle.fk_check_laws.proofs.Expressions.{told}
use Rattle.fk_check_laws.proofs.Read.{Any, IsNamed, IsRead, read}
use Rattle.fk_check_laws.proofs.Bodies.{has_body, Takes, takes_of}
use Rattle.fk_check_laws.proofs.Begins.{value_begins, begins}
use Rattle.fk_check_laws.proofs.Valued as v
use Rattle.fk_check_laws.proofs.Valued.{valued}
use Rattle.fk_check_laws.proofs.Addresses as a
use Rattle.fk_check_laws.proofs.Statements.{Refers, Stands, Fine, scope_of}

anything : {X : Type 0} (xs : List X) → Each (λ (x : X). Unit {0}) xs
anything [] = tt
anything (x ∷ xs) = (tt, anything xs)

module _ (program : ProgramTree) (facts : Facts) (valid : IsCorrect program facts) (trim : ItemsAreTrim program.items) (functions : (binding : ℕ) → Signature) where
  abbrev thing : ℕ → Option Thing
  thing = a.thing_at program facts valid trim functions

  abbrev Kept : s.TokenIn (List Holder) → Type 0
  Kept token = a.Kept program facts valid trim functions token

  abbrev S : MarkTree → Type 0
  S = Stands program facts valid functions

  abbrev F : PieceTree → Type 0
  F = Fine program facts valid functions

  abbrev IsUsed : Named → Type 0
  IsUsed name = a.IsUsed program facts valid trim functions name

  abbrev Begin : Tree → Type 0
  Begin e = c.Begins (tables program facts valid) functions e

  abbrev NameFact : Named → Type 0
  NameFact name = v.NameFact (env program facts valid) (tables program facts valid) functions name

  enough : (name : Named) (arguments : Trees) → Takes program facts valid functions name arguments → ((note (tables program facts valid) name.at).binding == no_binding) ≡ true → TakesEnough name arguments
  enough name arguments takes is = subst (λ (b : Bool). NameFits (tables program facts valid) functions (has_body program facts valid) b name arguments) is takes

  module _ (e : Tree) (marks : Each S (tree_marks e)) (fine : F (q.Used role.Condition e)) where
    told_of : (Means : Named → Type 0) → ((name : Named) → IsUsed name → Means name) → Told Any Means e
    told_of Means go = told (λ token. Unit {0}) S (Refers program facts valid functions) [] Any Means (λ spot y. tt) (λ name y used referred. go name (used.0, used.1, referred))
        e (anything (r.tree_tokens [] e)) marks fine.1

    is_read : IsRead program facts valid functions (Takes program facts valid functions) (takes_of program facts valid functions) e
    is_read = read program facts valid functions (Takes program facts valid functions) (takes_of program facts valid functions) e
        (λ place rule broken. fine.0 place rule (inl broken)) (told_of (IsNamed program facts valid functions) (λ name used. known program facts valid name used.0 used.1 used.2))

    begins_so : (around : List Holder) → TreeHas nonempty_lists e → Each Kept (s.tree_tokens thing around e) → Begin e
    begins_so around is_trim kept rest =
        let has = y.value_there _ is_read.typed (so_not rules.NoCondition (first_place (term_of e)) _ (λ place rule broken. fine.0 place rule (inr broken))) in
        value_begins (tables program facts valid) functions (x.evaluated (tables program facts valid) functions e)
        (begins (tables program facts valid) functions (Takes program facts valid functions) enough e is_read.fits
        (valued (env program facts valid) (tables program facts valid) functions e (told_of NameFact (a.name_fact program facts valid trim functions))
        (a.addresses program facts valid trim functions around e is_trim (told_of IsUsed (λ name used. used)) kept) has)) rest

  option_begins : (around : List Holder) (o : Option Tree) → OptionHas nonempty_lists o → Each Kept (s.optional_tokens thing around o) → Each S (optional_marks o) → Each F (optional_pieces role.Condition o)
      → OptionBegins (tables program facts valid) functions o
  option_begins around None is_trim kept marks fine = tt
  option_begins around (Some e) is_trim kept marks fine = begins_so e marks fine.0 around is_trim kept

  abbrev Begun : Statement → Type 0
  Begun st = LoopsBegin (tables program facts valid) functions st

  abbrev tokens_of : List Holder → Statement → List (s.TokenIn (List Holder))
  tokens_of around st = s.statement_tokens thing ◌∷◌ around st

  mutual
    loops : (result : TypeTree) (around : List Holder) (st : Statement) → StatementHas nonempty_lists st → Each Kept (tokens_of around st) → Each S (statement_marks st) → Each F (statement_pieces result st) → Begun st
    loops result around (p.Block list) t k m f = all_loops result around list t k (scope_of program facts valid functions (statements_marks list) m) f
    loops result around (p.If spot condition body) t k m f =
        loops result _ body t.1 (rest_of Kept (s.condition_tokens thing around spot condition) _ k)
        (scope_of program facts valid functions (statement_marks body) (rest_of S (tree_marks condition) _ m)) f.1
    loops result around (p.IfElse spot condition body otherwise) t k m f =
        let ms = n.scope (statement_marks body) in
        let k' = front_of Kept (s.condition_tokens thing around spot condition ++ tokens_of _ body) _ k in
        let m' = front_of S (tree_marks condition ++ ms) (n.scope (statement_marks otherwise)) m in (
          loops result _ body t.1 (rest_of Kept (s.condition_tokens thing around spot condition) _ k')
              (scope_of program facts valid functions (statement_marks body) (rest_of S (tree_marks condition) ms m')) (front_of F (statement_pieces result body) (statement_pieces result otherwise) f.1),
          loops result _ otherwise t.2 (rest_of Kept (s.condition_tokens thing around spot condition ++ tokens_of _ body) _ k)
              (scope_of program facts valid functions (statement_marks otherwise) (rest_of S (tree_marks condition ++ ms) _ m)) (rest_of F (statement_pieces result body) (statement_pieces result otherwise) f.1),
        )
    loops result around (p.While spot condition body) t k m f = (
      begins_so condition (front_of S (tree_marks condition) _ m) f.0 around t.0
          (front_of Kept (s.tree_tokens thing around condition) _ (front_of Kept (s.condition_tokens thing around spot condition) _ k)),
      loops result _ body t.1 (rest_of Kept (s.condition_tokens thing around spot condition) _ k)
          (scope_of program facts valid functions (statement_marks body) (rest_of S (tree_marks condition) _ m)) f.1,
    )
    loops result around (p.DoWhile spot body condition) t k m f =
        let ms = n.scope (statement_marks body) in (
          begins_so condition (rest_of S ms (tree_marks condition) m) (rest_of F (statement_pieces result body) (q.Used role.Condition condition ∷ []) f).0 around t.1
              (front_of Kept (s.tree_tokens thing around condition) _ (front_of Kept (s.condition_tokens thing around spot condition) _ k)),
          loops result _ body t.0 (rest_of Kept (s.condition_tokens thing around spot condition) _ k)
              (scope_of program facts valid functions (statement_marks body) (front_of S ms (tree_marks condition) m)) (front_of F (statement_pieces result body) (q.Used role.Condition condition ∷ []) f),
        )
    loops result around (p.For spot before condition after body) t k m f =
        let t1 = s.optional_tokens thing around before in
        let t2 = s.optional_tokens thing around condition in
        let t3 = s.optional_tokens thing around after in
        let m1 = optional_marks before in
        let m2 = optional_marks condition in
        let m3 = optional_marks after in
        let f1 = optional_pieces role.Alone before in
        let f2 = optional_pieces role.Condition condition in
        let f3 = optional_pieces role.Alone after in
        let heads = front_of Kept (t1 ++ t2 ++ t3) _ (front_of Kept (s.head_tokens thing around spot before condition after) _ k) in
        let marks = front_of S (m1 ++ m2 ++ m3) _ m in
        let parts = front_of F (f1 ++ f2 ++ f3) (statement_pieces result body) f in (
          option_begins around condition t.1 (rest_of Kept t1 t2 (front_of Kept (t1 ++ t2) t3 heads)) (rest_of S m1 m2 (front_of S (m1 ++ m2) m3 marks))
              (rest_of F f1 f2 (front_of F (f1 ++ f2) f3 parts)),
          loops result _ body t.3 (rest_of Kept (s.head_tokens thing around spot before condition after) _ k)
              (scope_of program facts valid functions (statement_marks body) (rest_of S (m1 ++ m2 ++ m3) _ m)) (rest_of F (f1 ++ f2 ++ f3) (statement_pieces result body) f),
        )
    loops result around (p.Start spot count body) t k m f =
        loops result _ body t.1 (rest_of Kept (s.optional_tokens thing around count) _ k)
        (scope_of program facts valid functions (statement_marks body) (rest_of S (optional_marks count) _ m)) (rest_of F (optional_pieces role.Word count) (statement_pieces result body) f)
    loops result around (p.Farm spot body) t k m f = loops result _ body t k (scope_of program facts valid functions (statement_marks body) m) f
    loops result around (p.Seq spot body) t k m f = loops result _ body t k (scope_of program facts valid functions (statement_marks body) m) f
    loops result around (p.Fork spot parts part rank body) t k m f =
        loops result _ body t.3 (rest_of Kept (s.parts_tokens thing around parts part rank) _ k)
        (scope_of program facts valid functions (statement_marks body) (rest_of S (tree_marks parts ++ tree_marks part ++ optional_marks rank) _ m))
        (rest_of F (optional_pieces role.Word rank) (statement_pieces result body) f.1.1)
    loops result around p.Empty t k m f = tt
    loops result around (p.Expression e) t k m f = tt
    loops result around (p.Declare variables) t k m f = tt
    loops result around (p.Barrier spot) t k m f = tt
    loops result around (p.Break spot) t k m f = tt
    loops result around (p.Continue spot) t k m f = tt
    loops result around (p.Return spot e) t k m f = tt

    all_loops : (result : TypeTree) (around : List Holder) (st : Statements) → StatementsHave nonempty_lists st → Each Kept (s.statements_tokens thing ◌∷◌ around st) → Each S (statements_marks st)
        → Each F (statements_pieces result st) → AllLoopsBegin (tables program facts valid) functions st
    all_loops result around p.no_statements t k m f = tt
    all_loops result around (p.statement first others) t k m f = (
      loops result around first t.0 (front_of Kept (tokens_of around first) _ k) (front_of S (statement_marks first) (statements_marks others) m)
          (front_of F (statement_pieces result first) (statements_pieces result others) f),
      all_loops result around others t.1 (rest_of Kept (tokens_of around first) _ k) (rest_of S (statement_marks first) (statements_marks others) m)
          (rest_of F (statement_pieces result first) (statements_pieces result others) f),
    )

  abbrev AllBegun : List FunctionTree → Type 0
  AllBegun gs = FunctionsBegin (tables program facts valid) functions gs

  with_begun : (g : FunctionTree) (around : List Holder) (o : Option Statements) → g.body ≡ o → BodyHas nonempty_lists o → Each Kept (s.body_tokens thing ◌∷◌ around o) → Each S (body_marks o) → Each F (body_pieces g.result o)
      → (others : List FunctionTree) → AllBegun others → AllBegun (with_body g o others)
  with_begun g around None has t k m f others go = go
  with_begun g around (Some body) has t k m f others go =
      (subst (BodyBegins (tables program facts valid) functions) (sym has) (all_loops g.result around body t k m f), go)

  pub all_begun : (xs : List ItemTree) → ItemsAreTrim xs → Each Kept (s.items_tokens thing ◌∷◌ [] xs) → Each S (items_marks xs) → Each F (items_pieces xs) → AllBegun (functions_of xs)
  all_begun [] t k m f = tt
  all_begun (StructItem name members ∷ xs) t k m f = all_begun xs t.1 k m f
  all_begun (VariablesItem variables ∷ xs) t k m f =
      let i = VariablesItem variables in
      all_begun xs t.1 (rest_of Kept (s.item_tokens thing ◌∷◌ [] i) _ k) (rest_of S (item_marks i) (items_marks xs) m) (rest_of F (item_pieces i) (items_pieces xs) f)
  all_begun (FunctionItem g ∷ xs) t k m f =
      let i = FunctionItem g in
      let marks' = scope_of program facts valid functions (variables_marks g.parameters ++ body_marks g.body) (front_of S (item_marks i) (items_marks xs) m).1 in
      let pieces' = (front_of F (item_pieces i) (items_pieces xs) f).1 in
      with_begun g _ g.body refl t.0.1 (rest_of Kept (s.parameters_tokens [] g.mode g.parameters) _ (front_of Kept (s.item_tokens thing ◌∷◌ [] i) _ k))
      (rest_of S (variables_marks g.parameters) (body_marks g.body) marks') (rest_of F (parameters_pieces g.parameters) (body_pieces g.result g.body) pieces')
      (functions_of xs)
      (all_begun xs t.1 (rest_of Kept (s.item_tokens thing ◌∷◌ [] i) _ k) (rest_of S (item_marks i) (items_marks xs) m) (rest_of F (item_pieces i) (items_pieces xs) f))
