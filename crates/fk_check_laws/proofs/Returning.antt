-- Functions return a value exactly where they have a result, as the rules of types ask it.
use Rattle.std.proofs.Common.{◌≡◌, ℕ, inr, Bool, true, not, [], ◌∷◌, ◌++◌, Option, Some, None, is_some, refl, sym, ap, ◌∙◌}
use Rattle.std.proofs.lemmas.Bool.{false≢true, eqb-true, eq-eqb, false_from_ne_true, true_from_ne_false}
use Rattle.fk_syntax.specs.declared.facts.Facts.{Facts}
use Rattle.fk_syntax.specs.declared.place.Spot.{Spot}
use Rattle.fk_syntax.specs.Tree as t
use Rattle.fk_syntax.specs.Tree.{BaseType, Tree, TypeTree}
use Rattle.fk_syntax.specs.Program as p
use Rattle.fk_syntax.specs.Program.{Statement, Statements, ProgramTree}
use Rattle.fk_check_rules.specs.declared.rule.Rule.TheVariants as rules
use Rattle.fk_types_struct_rules.specs.Declarations.{IsVoid}
use Rattle.fk_types_obligations.specs.declared.piece.Role.TheVariants as role
use Rattle.fk_types_obligations.specs.Pieces as q
use Rattle.fk_types_obligations.specs.Pieces.{PieceTree, optional_pieces, statement_pieces, statements_pieces}
use Rattle.fk_meaning_forms.specs.Expressions.{Signature}
use Rattle.fk_meaning_forms.specs.Statements.{is_nothing}
use Rattle.fk_lockstep_structure.specs.Returns.{StatementReturns, StatementsReturn}
use Rattle.fk_check_laws.proofs.Each.{Each, front_of, rest_of}
use Rattle.fk_check_laws.specs.Correct.{IsCorrect}
use Rattle.fk_check_laws.proofs.PlacedStatements.{Fine}

-- `void` alone gives nothing
is_void_type : (base : BaseType) (stars : ℕ) → is_nothing (record { base = base; stars = stars }) ≡ true → IsVoid (record { base = base; stars = stars })
is_void_type t.Int stars e = absurd (false≢true e)
is_void_type t.Unsigned stars e = absurd (false≢true e)
is_void_type t.Void stars e = (refl, eqb-true stars 0 e)
is_void_type (t.Struct name) stars e = absurd (false≢true e)

void_is_nothing : (base : BaseType) (stars : ℕ) → IsVoid (record { base = base; stars = stars }) → is_nothing (record { base = base; stars = stars }) ≡ true
void_is_nothing t.Int stars e = absurd (cc)
void_is_nothing t.Unsigned stars e = absurd (cc)
void_is_nothing t.Void stars e = eq-eqb stars 0 e.1
void_is_nothing (t.Struct name) stars e = absurd (cc)

module _ (program : ProgramTree) (facts : Facts) (valid : IsCorrect program facts) (functions : (binding : ℕ) → Signature) (result : TypeTree) where
  abbrev Right : PieceTree → Type 0
  Right x = Fine program facts valid functions x

  abbrev gives : Bool
  gives = not (is_nothing result)

  returned : (spot : Spot) (value : Option Tree) → Right (q.Return result spot value) → is_some value ≡ gives
  returned spot None f =
      sym (ap not (true_from_ne_false (is_nothing result) (λ some. f.0 spot.place rules.WrongReturn
      (refl, ((λ void. false≢true (sym some ∙ void_is_nothing result.base result.stars void)), refl)))))
  returned spot (Some value) f =
      sym (ap not (false_from_ne_true (is_nothing result) (λ none. f.0 spot.place rules.WrongReturn (inr (inr (refl, (is_void_type result.base result.stars none, refl)))))))

  mutual
    statement : (st : Statement) → Each Right (statement_pieces result st) → StatementReturns gives st
    statement (p.Block body) f = statements_return body f
    statement (p.If spot condition body) f = statement body f.1
    statement (p.IfElse spot condition body otherwise) f = (
      statement body (front_of Right (statement_pieces result body) (statement_pieces result otherwise) f.1),
      statement otherwise (rest_of Right (statement_pieces result body) (statement_pieces result otherwise) f.1),
    )
    statement (p.While spot condition body) f = statement body f.1
    statement (p.DoWhile spot body condition) f = statement body (front_of Right (statement_pieces result body) (q.Used role.Condition condition ∷ []) f)
    statement (p.For spot before condition after body) f =
        statement body
        (rest_of Right (optional_pieces role.Alone before ++ optional_pieces role.Condition condition ++ optional_pieces role.Alone after) (statement_pieces result body) f)
    statement (p.Start spot count body) f = statement body (rest_of Right (optional_pieces role.Word count) (statement_pieces result body) f)
    statement (p.Farm spot body) f = statement body f
    statement (p.Seq spot body) f = statement body f
    statement (p.Fork spot parts part rank body) f = statement body (rest_of Right (optional_pieces role.Word rank) (statement_pieces result body) f.1.1)
    statement (p.Return spot value) f = returned spot value f.0
    statement st f = tt

    pub statements_return : (body : Statements) → Each Right (statements_pieces result body) → StatementsReturn gives body
    statements_return p.no_statements f = tt
    statements_return (p.statement first others) f = (
      statement first (front_of Right (statement_pieces result first) (statements_pieces result others) f),
      statements_return others (rest_of Right (statement_pieces result first) (statements_pieces result others) f),
    )
