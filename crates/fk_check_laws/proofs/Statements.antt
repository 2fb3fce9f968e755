-- The statements of a correct program fit, where their loops' conditions begin with an operation.
use Rattle.std.proofs.Common.{◌≡◌, ℕ, Bool, true, List, [], ◌∷◌, Option, Some, None, slice_get, inl, inr, refl}
use Rattle.std.specs.Prelude.{Contains}
use Rattle.fk_syntax.specs.declared.facts.Facts.{Facts}
use Rattle.fk_syntax.specs.Tree.{TypeTree, Tree}
use Rattle.fk_syntax.specs.Program as p
use Rattle.fk_syntax.specs.Program.{DeclaredTree, Statement, Statements, ProgramTree}
use Rattle.fk_check_rules.specs.declared.rule.Rule.TheVariants as rules
use Rattle.fk_types_names.specs.Outline as n
use Rattle.fk_types_names.specs.Outline.{MarkTree, outline, tree_marks, optional_marks, variables_marks, statement_marks, statements_marks}
use Rattle.fk_types_judgments.specs.Term.{term_of}
use Rattle.fk_types_judgments.specs.Broken.{Broken}
use Rattle.fk_types_obligations.specs.declared.piece.Role.{Role}
use Rattle.fk_types_obligations.specs.declared.piece.Role.TheVariants as role
use Rattle.fk_types_obligations.specs.Pieces as q
use Rattle.fk_types_obligations.specs.Pieces.{PieceTree, pieces, optional_pieces, variables_pieces, statement_pieces, statements_pieces}
use Rattle.fk_types_references.specs.References.{ReferenceTree, tree_references, optional_references}
use Rattle.fk_types_rules.specs.Pieces.{if_there, InitialBreaks, PieceBreaks, UsedBreaks}
use Rattle.fk_types_rules.specs.Bound.{piece_references, pieces_references}
use Rattle.fk_regions.specs.declared.around.Holder as gh
use Rattle.fk_regions.specs.declared.around.Holder.TheVariants as g
use Rattle.fk_regions.specs.declared.around.Loops.{Loops}
use Rattle.fk_regions.specs.declared.around.Loops.TheVariants.{Inside, Outside, Beyond}
use Rattle.fk_regions.specs.Around.{loops, beyond}
use Rattle.fk_regions.specs.Misplaced as mis
use Rattle.fk_regions.specs.Tokens as r
use Rattle.fk_meaning_forms.specs.Expressions.{Signature}
use Rattle.fk_meaning.specs.Calls as c
use Rattle.fk_core_flat.specs.Fitting as f
use Rattle.fk_check_laws.specs.Correct.{IsCorrect}
use Rattle.fk_check_laws.specs.Conditions.{OptionBegins, LoopsBegin, AllLoopsBegin}
use Rattle.fk_check_laws.proofs.Each.{Each, front_of, rest_of, two_of, three_of, four_of}
use Rattle.fk_check_laws.proofs.Typed.{Unbroken}
use Rattle.fk_check_laws.proofs.Notes.{tables, Theirs, Unmisplaced}
use Rattle.fk_check_laws.proofs.Named.{env, known}
use Rattle.fk_check_laws.proofs.Expressions.{told}
use Rattle.fk_check_laws.proofs.Read.{Any, IsNamed, read}
use Rattle.fk_check_laws.proofs.Bodies.{has_body, Takes, takes_of}

-- the first loop that a `break` or `continue` may leave
pub inside : (l : Loops) → (l ≡ Outside → ⊥) → (l ≡ Beyond → ⊥) → l ≡ Inside
inside Outside a b = absurd (a refl)
inside Inside a b = refl
inside Beyond a b = absurd (b refl)

pub never_inside : (l : Loops) → beyond l ≡ Inside → ⊥
never_inside Outside e = cc
never_inside Inside e = cc
never_inside Beyond e = cc

module _ (program : ProgramTree) (facts : Facts) (valid : IsCorrect program facts) (functions : (binding : ℕ) → Signature) where
  abbrev pub Right : Theirs program facts valid → Type 0
  Right x = Unmisplaced program facts valid x

  abbrev pub Stands : MarkTree → Type 0
  Stands mark = (i : ℕ) × (slice_get (outline program) i ≡ Some mark)

  abbrev pub Refers : ReferenceTree → Type 0
  Refers x = Contains (pieces_references (pieces program)) x

  abbrev pub Fine : PieceTree → Type 0
  Fine x = Unbroken (PieceBreaks (env program facts valid) x) × Each Refers (piece_references x)

  abbrev Fits : Tree → Type 0
  Fits x = c.Fits (tables program facts valid) functions (Takes program facts valid functions) x

  abbrev OptionFits : Option Tree → Type 0
  OptionFits x = c.OptionFits (tables program facts valid) functions (Takes program facts valid functions) x

  module _ (outer : List gh.Holder) where
    fits : (x : Tree) → Unbroken (Broken (env program facts valid) (term_of x)) → Each Right (r.tree_tokens outer x) → Each Stands (tree_marks x) → Each Refers (tree_references x) → Fits x
    fits x un a b' c' =
        (read program facts valid functions (Takes program facts valid functions) (takes_of program facts valid functions) x un
        (told Right Stands Refers outer Any (IsNamed program facts valid functions) (λ spot y. tt)
        (λ name y used referred. known program facts valid name used.0 used.1 referred) x a b' c')).fits

    used_whole : (r' : Role) (x : Tree) → Unbroken (UsedBreaks (env program facts valid) r' (term_of x)) → Unbroken (Broken (env program facts valid) (term_of x))
    used_whole role.Condition x un place rule broken = un place rule (inl broken)
    used_whole role.Alone x un place rule broken = un place rule (inl broken)
    used_whole role.Word x un place rule broken = un place rule (inl broken)

    used : (r' : Role) (x : Tree) → Each Right (r.tree_tokens outer x) → Each Stands (tree_marks x) → Fine (q.Used r' x) → Fits x
    used r' x a b' f' = fits x (used_whole r' x f'.0) a b' f'.1

    used_or : (r' : Role) (x : Option Tree) → Each Right (r.optional_tokens outer x) → Each Stands (optional_marks x) → Each Fine (optional_pieces r' x) → OptionFits x
    used_or r' None a b' f' = tt
    used_or r' (Some x) a b' f' = used r' x a b' f'.0

    returned : (result : TypeTree) (spot : _) (x : Option Tree) → Each Right (r.optional_tokens outer x) → Each Stands (optional_marks x) → Fine (q.Return result spot x) → OptionFits x
    returned result spot None a b' f' = tt
    returned result spot (Some x) a b' f' = fits x (λ place rule broken. f'.0 place rule (inl (inl broken))) a b' f'.1

    first_fits : (x : DeclaredTree) → Each Right (r.optional_tokens outer x.first) → Each Stands (optional_marks x.first) → Fine (q.Variable x) → OptionFits x.first
    first_fits x a b' f' = by x.first a b' (λ place rule broken. f'.0 place rule (inr broken)) f'.1
      where
        by : (first : Option Tree) → Each Right (r.optional_tokens outer first) → Each Stands (optional_marks first)
            → Unbroken (if_there (InitialBreaks (env program facts valid) x) first) → Each Refers (optional_references first) → OptionFits first
        by None a b' un c' = tt
        by (Some first) a b' un c' = fits first (λ place rule broken. un place rule (inl (inl broken))) a b' c'

    declared_fit : (xs : List DeclaredTree) → Each Right (r.variables_tokens outer xs) → Each Stands (variables_marks xs) → Each Fine (variables_pieces xs)
        → c.VariablesFit (tables program facts valid) functions (Takes program facts valid functions) xs
    declared_fit [] a b' f' = tt
    declared_fit (x ∷ xs) a b' f' = (
      first_fits x (front_of Right (r.optional_tokens outer x.first) (r.variables_tokens outer xs) a.1)
          (front_of Stands (optional_marks x.first) (variables_marks xs) b'.1) f'.0,
      declared_fit xs (rest_of Right (r.optional_tokens outer x.first) (r.variables_tokens outer xs) a.1)
          (rest_of Stands (optional_marks x.first) (variables_marks xs) b'.1) f'.1,
    )

  pub scope_of : (ms : List MarkTree) → Each Stands (n.scope ms) → Each Stands ms
  scope_of ms h = front_of Stands ms (n.Closes ∷ []) h.1

  abbrev Fit : Bool → Statement → Type 0
  Fit l x = f.StatementFits (tables program facts valid) functions (has_body program facts valid) l x

  abbrev pub AreFit : Bool → Statements → Type 0
  AreFit l x = f.StatementsFit (tables program facts valid) functions (has_body program facts valid) l x

  abbrev Begin : Statement → Type 0
  Begin x = LoopsBegin (tables program facts valid) functions x

  condition_fits : (x : Option Tree) → OptionFits x → OptionBegins (tables program facts valid) functions x
      → f.OptionConditionFits (tables program facts valid) functions (has_body program facts valid) x
  condition_fits None h k = tt
  condition_fits (Some x) h k = (h, k)

  -- in a loop, where a `break` may leave one
  abbrev In : (l : Bool) → List gh.Holder → Type 0
  In l outer = loops outer ≡ Inside → l ≡ true

  in_body : (l : Bool) (outer : List gh.Holder) → beyond (loops outer) ≡ Inside → l ≡ true
  in_body l outer e = absurd (never_inside (loops outer) e)

  mutual
    statement_fits : (result : TypeTree) (l : Bool) (outer : List gh.Holder) → In l outer → (st : Statement) → Each Right (r.statement_tokens ◌∷◌ outer st)
        → Each Stands (statement_marks st) → Each Fine (statement_pieces result st) → Begin st → Fit l st
    statement_fits result l outer at p.Empty a b' f' k = tt
    statement_fits result l outer at (p.Expression x) a b' f' k = used outer role.Alone x a b' f'.0
    statement_fits result l outer at (p.Block list) a b' f' k = statements_fit result l (g.Block ∷ outer) at list a (scope_of (statements_marks list) b') f' k
    statement_fits result l outer at (p.Declare variables) a b' f' k = declared_fit outer variables a b' f'
    statement_fits result l outer at (p.If spot condition body) a b' f' k =
        let ts = r.statement_tokens ◌∷◌ (g.Branch ∷ outer) body in
        let ms = n.scope (statement_marks body) in (
          used outer role.Condition condition (front_of Right (r.tree_tokens outer condition) ts a.1) (front_of Stands (tree_marks condition) ms b') f'.0,
          statement_fits result l (g.Branch ∷ outer) at body (rest_of Right (r.tree_tokens outer condition) ts a.1)
              (scope_of (statement_marks body) (rest_of Stands (tree_marks condition) ms b')) f'.1 k,
        )
    statement_fits result l outer at (p.IfElse spot condition body otherwise) a b' f' k =
        let rs = three_of Right (r.tree_tokens outer condition) (r.statement_tokens ◌∷◌ (g.Branch ∷ outer) body) (r.statement_tokens ◌∷◌ (g.Branch ∷ outer) otherwise) a.1 in
        let ms = three_of Stands (tree_marks condition) (n.scope (statement_marks body)) (n.scope (statement_marks otherwise)) b' in
        let fs = two_of Fine (statement_pieces result body) (statement_pieces result otherwise) f'.1 in (
          used outer role.Condition condition rs.0 ms.0 f'.0,
          statement_fits result l (g.Branch ∷ outer) at body rs.1 (scope_of (statement_marks body) ms.1) fs.0 k.0,
          statement_fits result l (g.Branch ∷ outer) at otherwise rs.2 (scope_of (statement_marks otherwise) ms.2) fs.1 k.1,
        )
    statement_fits result l outer at (p.While spot condition body) a b' f' k =
        let ts = r.statement_tokens ◌∷◌ (g.Loop ∷ outer) body in
        let ms = n.scope (statement_marks body) in (
          (used outer role.Condition condition (front_of Right (r.tree_tokens outer condition) ts a.1) (front_of Stands (tree_marks condition) ms b') f'.0, k.0),
          statement_fits result true (g.Loop ∷ outer) (λ e. refl) body (rest_of Right (r.tree_tokens outer condition) ts a.1)
              (scope_of (statement_marks body) (rest_of Stands (tree_marks condition) ms b')) f'.1 k.1,
        )
    statement_fits result l outer at (p.DoWhile spot body condition) a b' f' k =
        let ts = r.statement_tokens ◌∷◌ (g.Loop ∷ outer) body in
        let ms = n.scope (statement_marks body) in (
          (
            used outer role.Condition condition (front_of Right (r.tree_tokens outer condition) ts a.1) (rest_of Stands ms (tree_marks condition) b')
                (rest_of Fine (statement_pieces result body) (q.Used role.Condition condition ∷ []) f').0,
            k.0,
          ),
          statement_fits result true (g.Loop ∷ outer) (λ e. refl) body (rest_of Right (r.tree_tokens outer condition) ts a.1)
              (scope_of (statement_marks body) (front_of Stands ms (tree_marks condition) b')) (front_of Fine (statement_pieces result body) (q.Used role.Condition condition ∷ []) f') k.1,
        )
    statement_fits result l outer at (p.For spot first condition after body) a b' f' k =
        let rs = four_of Right (r.optional_tokens outer first) (r.optional_tokens outer condition) (r.optional_tokens outer after) (r.statement_tokens ◌∷◌ (g.Loop ∷ outer) body) a.1 in
        let ms = four_of Stands (optional_marks first) (optional_marks condition) (optional_marks after) (n.scope (statement_marks body)) b' in
        let fs = four_of Fine (optional_pieces role.Alone first) (optional_pieces role.Condition condition) (optional_pieces role.Alone after) (statement_pieces result body) f' in (
          used_or outer role.Alone first rs.0 ms.0 fs.0,
          condition_fits condition (used_or outer role.Condition condition rs.1 ms.1 fs.1) k.0,
          used_or outer role.Alone after rs.2 ms.2 fs.2,
          statement_fits result true (g.Loop ∷ outer) (λ e. refl) body rs.3 (scope_of (statement_marks body) ms.3) fs.3 k.1,
        )
    statement_fits result l outer at (p.Start spot count body) a b' f' k =
        let ts = r.statement_tokens ◌∷◌ (g.Start ∷ outer) body in
        let ms = n.scope (statement_marks body) in (
          used_or outer role.Word count (front_of Right (r.optional_tokens outer count) ts a.1) (front_of Stands (optional_marks count) ms b')
              (front_of Fine (optional_pieces role.Word count) (statement_pieces result body) f'),
          statement_fits result l (g.Start ∷ outer) (in_body l outer) body (rest_of Right (r.optional_tokens outer count) ts a.1)
              (scope_of (statement_marks body) (rest_of Stands (optional_marks count) ms b')) (rest_of Fine (optional_pieces role.Word count) (statement_pieces result body) f') k,
        )
    statement_fits result l outer at (p.Farm spot body) a b' f' k =
        statement_fits result l (g.Farm ∷ outer) (in_body l outer) body a.1 (scope_of (statement_marks body) b') f' k
    statement_fits result l outer at (p.Seq spot body) a b' f' k =
        statement_fits result l (g.Seq ∷ outer) (in_body l outer) body a.1 (scope_of (statement_marks body) b') f' k
    statement_fits result l outer at (p.Fork spot parts part rank body) a b' f' k =
        let rs = four_of Right (r.tree_tokens outer parts) (r.tree_tokens outer part) (r.optional_tokens outer rank) (r.statement_tokens ◌∷◌ (g.Fork ∷ outer) body) a.1 in
        let ms = four_of Stands (tree_marks parts) (tree_marks part) (optional_marks rank) (n.scope (statement_marks body)) b' in
        let fs = two_of Fine (optional_pieces role.Word rank) (statement_pieces result body) f'.1.1 in (
          used outer role.Word parts rs.0 ms.0 f'.0,
          used outer role.Word part rs.1 ms.1 f'.1.0,
          used_or outer role.Word rank rs.2 ms.2 fs.0,
          statement_fits result l (g.Fork ∷ outer) (in_body l outer) body rs.3 (scope_of (statement_marks body) ms.3) fs.1 k,
        )
    statement_fits result l outer at (p.Barrier spot) a b' f' k = tt
    statement_fits result l outer at (p.Break spot) a b' f' k =
        at (inside (loops outer) (λ is. a.0 rules.NoLoop (inl (mis.break_outside is))) (λ is. a.0 rules.LoopLeavesBody (inl (mis.break_leaves is))))
    statement_fits result l outer at (p.Continue spot) a b' f' k =
        at (inside (loops outer) (λ is. a.0 rules.NoLoop (inl (mis.continue_outside is))) (λ is. a.0 rules.LoopLeavesBody (inl (mis.continue_leaves is))))
    statement_fits result l outer at (p.Return spot value) a b' f' k = returned outer result spot value a.1 b' f'.0

    pub statements_fit : (result : TypeTree) (l : Bool) (outer : List gh.Holder) → In l outer → (st : Statements) → Each Right (r.statements_tokens ◌∷◌ outer st)
        → Each Stands (statements_marks st) → Each Fine (statements_pieces result st) → AllLoopsBegin (tables program facts valid) functions st → AreFit l st
    statements_fit result l outer at p.no_statements a b' f' k = tt
    statements_fit result l outer at (p.statement first others) a b' f' k =
        let ts = r.statement_tokens ◌∷◌ outer first in
        let us = r.statements_tokens ◌∷◌ outer others in (
          statement_fits result l outer at first (front_of Right ts us a) (front_of Stands (statement_marks first) (statements_marks others) b')
              (front_of Fine (statement_pieces result first) (statements_pieces result others) f') k.0,
          statements_fit result l outer at others (rest_of Right ts us a) (rest_of Stands (statement_marks first) (statements_marks others) b')
              (rest_of Fine (statement_pieces result first) (statements_pieces result others) f') k.1,
        )
