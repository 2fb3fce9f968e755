-- The functions of a correct program fit.
use Rattle.std.proofs.Common.{◌≡◌, ℕ, Bool, true, false, List, [], ◌∷◌, ◌++◌, Option, Some, None, refl, sym, subst}
use Rattle.std.specs.Prelude.{if◌then◌else◌}
use Rattle.fk_syntax.specs.declared.facts.Facts.{Facts}
use Rattle.fk_syntax.specs.Program.{Statements, FunctionTree, ItemTree, ProgramTree, StructItem, VariablesItem, FunctionItem}
use Rattle.fk_types_names.specs.Outline.{MarkTree, outline, variables_marks, body_marks, item_marks, items_marks}
use Rattle.fk_types_obligations.specs.Pieces.{PieceTree, pieces, parameters_pieces, body_pieces, item_pieces, items_pieces}
use Rattle.fk_types_rules.specs.Pieces.{PieceBreaks}
use Rattle.fk_types_rules.specs.Bound.{piece_references, pieces_references}
use Rattle.fk_regions.specs.declared.around.Holder as gh
use Rattle.fk_regions.specs.declared.around.Holder.TheVariants as held
use Rattle.fk_regions.specs.declared.around.Loops.TheVariants.{Inside}
use Rattle.fk_regions.specs.Around.{loops}
use Rattle.fk_regions.specs.Tokens as r
use Rattle.fk_meaning_forms.specs.Expressions.{Signature}
use Rattle.fk_meaning_forms.specs.Program.{functions_of, with_body, signature_in, is_main}
use Rattle.fk_core_flat.specs.Fitting as f
use Rattle.fk_check_laws.specs.Correct.{IsCorrect}
use Rattle.fk_check_laws.specs.Conditions.{BodyBegins, FunctionsBegin}
use Rattle.fk_check_laws.specs.Laws.{ConditionsOfLoopsBegin, CorrectProgramsFit}
use Rattle.fk_check_laws.proofs.Each.{Each, each, front_of, rest_of}
use Rattle.fk_check_laws.proofs.Typed.{Unbroken}
use Rattle.fk_check_laws.proofs.Notes.{tables, among, all_unmisplaced}
use Rattle.fk_check_laws.proofs.Named.{env, unbroken_pieces}
use Rattle.fk_check_laws.proofs.Bodies.{has_body}
use Rattle.fk_check_laws.proofs.Addresses.{all_kept}
use Rattle.fk_check_laws.proofs.Conditions.{all_begun}
use Rattle.fk_check_laws.proofs.Statements.{Right, Stands, Refers, Fine, scope_of, statements_fit}

module _ (program : ProgramTree) (facts : Facts) (valid : IsCorrect program facts) where
  abbrev fs : List FunctionTree
  fs = functions_of program.items

  abbrev functions : (binding : ℕ) → Signature
  functions = signature_in (tables program facts valid) fs

  abbrev R : r.TokenIn (List gh.Holder) → Type 0
  R = Right program facts valid functions

  abbrev S : MarkTree → Type 0
  S = Stands program facts valid functions

  abbrev F : PieceTree → Type 0
  F = Fine program facts valid functions

  abbrev Begin : List FunctionTree → Type 0
  Begin gs = FunctionsBegin (tables program facts valid) functions gs

  abbrev Fit : List FunctionTree → Type 0
  Fit gs = f.FunctionsFit (tables program facts valid) functions (has_body program facts valid) gs

  -- no loop is round the body of a function
  no_loop : (g : FunctionTree) → loops (r.holder_of g ∷ []) ≡ Inside → ⊥
  no_loop g e = by (is_main g) e
    where
      by : (b : Bool) → loops ((if b then held.Main g.mode else held.Function g.mode) ∷ []) ≡ Inside → ⊥
      by true e = cc
      by false e = cc

  with_fit : (g : FunctionTree) (o : Option Statements) → g.body ≡ o → Each R (r.body_tokens ◌∷◌ (r.holder_of g ∷ []) o) → Each S (body_marks o) → Each F (body_pieces g.result o)
      → (others : List FunctionTree) → (Begin others → Fit others) → Begin (with_body g o others) → Fit (with_body g o others)
  with_fit g None has a b k others go begin = go begin
  with_fit g (Some body) has a b k others go begin = (
    subst (f.BodyFits (tables program facts valid) functions (has_body program facts valid)) (sym has)
        (statements_fit program facts valid functions g.result false (r.holder_of g ∷ []) (λ e. absurd (no_loop g e)) body a b k (subst (BodyBegins (tables program facts valid) functions) has begin.0)),
    go begin.1,
  )

  all_fit : (xs : List ItemTree) → Each R (r.items_tokens ◌∷◌ [] xs) → Each S (items_marks xs) → Each F (items_pieces xs) → Begin (functions_of xs) → Fit (functions_of xs)
  all_fit [] a b k begin = tt
  all_fit (StructItem name members ∷ xs) a b k begin = all_fit xs a b k begin
  all_fit (VariablesItem variables ∷ xs) a b k begin =
      let x = VariablesItem variables in
      all_fit xs (rest_of R (r.item_tokens ◌∷◌ [] x) (r.items_tokens ◌∷◌ [] xs) a) (rest_of S (item_marks x) (items_marks xs) b) (rest_of F (item_pieces x) (items_pieces xs) k) begin
  all_fit (FunctionItem g ∷ xs) a b k begin =
      let x = FunctionItem g in
      let marks' = scope_of program facts valid functions (variables_marks g.parameters ++ body_marks g.body) (front_of S (item_marks x) (items_marks xs) b).1 in
      let pieces' = (front_of F (item_pieces x) (items_pieces xs) k).1 in
      with_fit g g.body refl (front_of R (r.item_tokens ◌∷◌ [] x) (r.items_tokens ◌∷◌ [] xs) a)
      (rest_of S (variables_marks g.parameters) (body_marks g.body) marks') (rest_of F (parameters_pieces g.parameters) (body_pieces g.result g.body) pieces')
      (functions_of xs)
      (all_fit xs (rest_of R (r.item_tokens ◌∷◌ [] x) (r.items_tokens ◌∷◌ [] xs) a) (rest_of S (item_marks x) (items_marks xs) b) (rest_of F (item_pieces x) (items_pieces xs) k)) begin

  fine_pieces : (ps : List PieceTree) → Each (λ x. Unbroken (PieceBreaks (env program facts valid) x)) ps → Each (Refers program facts valid functions) (pieces_references ps) → Each F ps
  fine_pieces [] u c = tt
  fine_pieces (x ∷ ps) u c = (
    (u.0, front_of (Refers program facts valid functions) (piece_references x) (pieces_references ps) c),
    fine_pieces ps u.1 (rest_of (Refers program facts valid functions) (piece_references x) (pieces_references ps) c),
  )

  fine : Each F (pieces program)
  fine = fine_pieces (pieces program) (unbroken_pieces program facts valid)
      (each (Refers program facts valid functions) (pieces_references (pieces program)) (λ i x is. among (pieces_references (pieces program)) i x is))

  fit : Begin fs → Fit fs
  fit = all_fit program.items (all_unmisplaced program facts valid) (each S (outline program) (λ i x is. (i, is))) fine

-- the conditions of loops begin with an operation
pub conditions_begin : ConditionsOfLoopsBegin
conditions_begin program facts valid trim =
    all_begun program facts valid trim (functions program facts valid) program.items trim (all_kept program facts valid trim (functions program facts valid))
    (each (S program facts valid) (outline program) (λ i x is. (i, is))) (fine program facts valid)

pub correct_programs_fit : CorrectProgramsFit
correct_programs_fit program facts valid trim = fit program facts valid (conditions_begin program facts valid trim)
