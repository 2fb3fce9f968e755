-- In the functions of a program that keeps all rules each `start` is one of the statements of `main`.
use Rattle.std.proofs.Common.{◌≡◌, Bool, true, false, not, List, [], ◌∷◌, inl, refl, sym, ◌∙◌}
use Rattle.std.specs.Prelude.{if◌then◌else◌}
use Rattle.std.proofs.lemmas.Bool.{false≢true, true_from_ne_false}
use Rattle.fk_syntax.specs.declared.facts.Facts.{Facts}
use Rattle.fk_syntax.specs.Program as p
use Rattle.fk_syntax.specs.Program.{Statement, Statements, FunctionTree, ProgramTree}
use Rattle.fk_check_rules.specs.declared.rule.Rule.TheVariants as rules
use Rattle.fk_regions.specs.declared.around.Holder.{Holder}
use Rattle.fk_regions.specs.declared.around.Holder.TheVariants as h
use Rattle.fk_regions.specs.Around.{is_in_main}
use Rattle.fk_regions.specs.Misplaced as mis
use Rattle.fk_regions.specs.Tokens as r
use Rattle.fk_meaning_forms.specs.Statements.{is_nothing}
use Rattle.fk_meaning_forms.specs.Program.{is_main}
use Rattle.fk_core_liveness.specs.declared.places.FunctionKind.TheVariants.{Main, Called}
use Rattle.fk_core_liveness.specs.Frames.{is_main_place}
use Rattle.fk_check_laws.specs.Correct.{IsCorrect}
use Rattle.fk_check_laws.proofs.Each.{Each, front_of, rest_of, three_of, four_of}
use Rattle.fk_check_laws.proofs.Notes.{Theirs, Unmisplaced}
use Rattle.fk_lower_laws.specs.Asked.{place_by}
use Rattle.fk_lower_laws.specs.Parts.{StartsStay, AllStartsStay}

module _ (program : ProgramTree) (facts : Facts) (valid : IsCorrect program facts) (main : Bool) where
  abbrev Right : Theirs program facts valid → Type 0
  Right x = Unmisplaced program facts valid x

  abbrev tokens : List Holder → Statement → List (Theirs program facts valid)
  tokens outer st = r.statement_tokens ◌∷◌ outer st

  -- the statements of `main` are in nothing but it
  abbrev Within : (own : Bool) → List Holder → Type 0
  Within own outer = is_in_main outer ≡ true → (main ≡ true) × (own ≡ true)

  inside : (outer : List Holder) → is_in_main outer ≡ false → Within false outer
  inside outer is e = absurd (false≢true (sym is ∙ e))

  mutual
    statement : (own : Bool) (outer : List Holder) → Within own outer → (st : Statement) → Each Right (tokens outer st) → StartsStay main own st
    statement own outer at p.Empty a = tt
    statement own outer at (p.Expression e) a = tt
    statement own outer at (p.Block list) a = statements false (h.Block ∷ outer) (inside (h.Block ∷ outer) refl) list a
    statement own outer at (p.Declare variables) a = tt
    statement own outer at (p.If spot condition body) a =
        statement false (h.Branch ∷ outer) (inside (h.Branch ∷ outer) refl) body (rest_of Right (r.tree_tokens outer condition) (tokens (h.Branch ∷ outer) body) a.1)
    statement own outer at (p.IfElse spot condition body otherwise) a =
        let parts = three_of Right (r.tree_tokens outer condition) (tokens (h.Branch ∷ outer) body) (tokens (h.Branch ∷ outer) otherwise) a.1 in
        (statement false (h.Branch ∷ outer) (inside (h.Branch ∷ outer) refl) body parts.1, statement false (h.Branch ∷ outer) (inside (h.Branch ∷ outer) refl) otherwise parts.2)
    statement own outer at (p.While spot condition body) a =
        statement false (h.Loop ∷ outer) (inside (h.Loop ∷ outer) refl) body (rest_of Right (r.tree_tokens outer condition) (tokens (h.Loop ∷ outer) body) a.1)
    statement own outer at (p.DoWhile spot body condition) a =
        statement false (h.Loop ∷ outer) (inside (h.Loop ∷ outer) refl) body (rest_of Right (r.tree_tokens outer condition) (tokens (h.Loop ∷ outer) body) a.1)
    statement own outer at (p.For spot before condition after body) a =
        let parts = four_of Right (r.optional_tokens outer before) (r.optional_tokens outer condition) (r.optional_tokens outer after) (tokens (h.Loop ∷ outer) body) a.1 in
        statement false (h.Loop ∷ outer) (inside (h.Loop ∷ outer) refl) body parts.3
    statement own outer at (p.Start spot count body) a =
        let in_main = true_from_ne_false (is_in_main outer) (λ e. a.0 rules.StartNotInMain (inl (mis.start_elsewhere e))) in
        let here = at in_main in
        (here.0, here.1, statement false (h.Start ∷ outer) (inside (h.Start ∷ outer) refl) body (rest_of Right (r.optional_tokens outer count) (tokens (h.Start ∷ outer) body) a.1))
    statement own outer at (p.Farm spot body) a = statement false (h.Farm ∷ outer) (inside (h.Farm ∷ outer) refl) body a.1
    statement own outer at (p.Seq spot body) a = statement false (h.Seq ∷ outer) (inside (h.Seq ∷ outer) refl) body a.1
    statement own outer at (p.Fork spot count part rank body) a =
        let parts = four_of Right (r.tree_tokens outer count) (r.tree_tokens outer part) (r.optional_tokens outer rank) (tokens (h.Fork ∷ outer) body) a.1 in
        statement false (h.Fork ∷ outer) (inside (h.Fork ∷ outer) refl) body parts.3
    statement own outer at (p.Barrier spot) a = tt
    statement own outer at (p.Break spot) a = tt
    statement own outer at (p.Continue spot) a = tt
    statement own outer at (p.Return spot e) a = tt

    pub statements : (own : Bool) (outer : List Holder) → Within own outer → (st : Statements) → Each Right (r.statements_tokens ◌∷◌ outer st) → AllStartsStay main own st
    statements own outer at p.no_statements a = tt
    statements own outer at (p.statement first others) a = (
      statement own outer at first (front_of Right (tokens outer first) (r.statements_tokens ◌∷◌ outer others) a),
      statements own outer at others (rest_of Right (tokens outer first) (r.statements_tokens ◌∷◌ outer others) a),
    )

-- the statements of a function
pub body_starts : (program : ProgramTree) (facts : Facts) (valid : IsCorrect program facts) (g : FunctionTree) (body : Statements)
    → Each (Unmisplaced program facts valid) (r.statements_tokens ◌∷◌ (r.holder_of g ∷ []) body) → AllStartsStay (is_main_place (place_by g)) true body
body_starts program facts valid g body a = by (is_main g) a
  where
    by : (main : Bool) → let outer = (if main then h.Main g.mode else h.Function g.mode) ∷ [] in
        Each (Unmisplaced program facts valid) (r.statements_tokens ◌∷◌ outer body)
        → AllStartsStay (is_main_place (if main then Main else Called (not (is_nothing g.result)))) true body
    by true a = statements program facts valid true true (h.Main g.mode ∷ []) (λ e. (refl, refl)) body a
    by false a = statements program facts valid false true (h.Function g.mode ∷ []) (λ e. absurd (false≢true e)) body a
