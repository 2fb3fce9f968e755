-- Private variables are neither arrays nor structs.
use Rattle.std.proofs.Common.{◌≡◌, inr, ℕ, Bool, true, false, ◌&&◌, flat_map, List, [], ◌∷◌, ◌++◌, Option, Some, None, slice_get, refl, subst}
use Rattle.std.specs.Prelude.{◌==◌}
use Rattle.std.proofs.lemmas.Bool.{false_from_ne_true, eqb-true}
use Rattle.fk_syntax.specs.declared.facts.Facts.{Facts}
use Rattle.fk_syntax.specs.Tree as t
use Rattle.fk_syntax.specs.Tree.{BaseType, TypeTree, Tree}
use Rattle.fk_syntax.specs.Program as p
use Rattle.fk_syntax.specs.Program.{DeclaredTree, Statement, Statements, ItemTree, ProgramTree, StructItem, VariablesItem, FunctionItem}
use Rattle.fk_check_rules.specs.declared.rule.Rule.TheVariants as rules
use Rattle.fk_types_struct_rules.specs.Declarations.{ParameterBreaks}
use Rattle.fk_types_names.specs.Outline.{DeclarationTree, Variable, Header, declarations}
use Rattle.fk_types_obligations.specs.declared.piece.Role.{Role}
use Rattle.fk_types_obligations.specs.declared.piece.Role.TheVariants as role
use Rattle.fk_types_obligations.specs.Pieces as q
use Rattle.fk_types_obligations.specs.Pieces.{PieceTree, pieces, optional_pieces, variables_pieces, file_pieces, parameters_pieces, statement_pieces, statements_pieces, body_pieces, item_pieces, items_pieces}
use Rattle.fk_types_rules.specs.Pieces.{PieceBreaks}
use Rattle.fk_types_rules.proofs.Pieces.{declared_by_piece, of_items}
use Rattle.fk_sharing_class.specs.declared.thing.Thing.{Thing}
use Rattle.fk_sharing.specs.declared.around.Holder.{Holder}
use Rattle.fk_sharing.specs.declared.token.Word.TheVariants as w
use Rattle.fk_sharing.specs.Tokens as s
use Rattle.fk_sharing.specs.Tokens.{form_by, form_of, is_struct, is_struct_base}
use Rattle.fk_sharing.specs.Broken as sb
use Rattle.fk_check_laws.specs.Correct.{IsCorrect}
use Rattle.fk_check_laws.proofs.Each.{Each, front_of, rest_of, one_of}
use Rattle.fk_check_laws.proofs.Typed.{Unbroken}
use Rattle.fk_check_laws.proofs.Named.{env, unbroken_pieces}
use Rattle.fk_lower_names.proofs.Regions.{join}
use Rattle.fk_lower_names.specs.Proper.{AreWithoutLengths, ItemsAreProper}

abbrev pub IsScalar : DeclaredTree → Type 0
IsScalar x = x.shared ≡ false → (x.length ≡ None) × (is_struct x.kind ≡ false)

-- a piece that declares a private variable or a parameter declares a scalar
abbrev PieceIsScalar : PieceTree → Type 0
PieceIsScalar (q.FileVariable x) = IsScalar x
PieceIsScalar (q.Variable x) = IsScalar x
PieceIsScalar (q.Parameter x) = IsScalar x
PieceIsScalar piece = Unit {0}

abbrev Scalars : List PieceTree → Type 0
Scalars ps = Each PieceIsScalar ps

both : (ps qs : List PieceTree) → Scalars ps → Scalars qs → Scalars (ps ++ qs)
both ps qs h k = join PieceIsScalar ps qs h k

none_in : (r : Role) (x : Option Tree) → Scalars (optional_pieces r x)
none_in r None = tt
none_in r (Some x) = (tt, tt)

-- by its token
scalar : (around : List Holder) (length : Option ℕ) (struct : Bool) → ((rule : _) → sb.BreaksRule around (w.Variable false (form_by length struct)) rule → ⊥) → (length ≡ None) × (struct ≡ false)
scalar around (Some n) struct kept = absurd (kept rules.PrivateArray sb.private_array)
scalar around None true kept = absurd (kept rules.PrivateStruct sb.private_struct)
scalar around None false kept = (refl, refl)

module _ (thing : ℕ → Option Thing) where
  -- a token breaks no rule
  abbrev pub Kept : s.TokenIn (List Holder) → Type 0
  Kept token = (rule : _) → sb.BreaksRule token.around token.word rule → ⊥

  of_variable : (around : List Holder) (x : DeclaredTree) → Each Kept (s.variable_tokens thing around x) → IsScalar x
  of_variable around x k private =
      let own = (rest_of Kept (s.optional_tokens thing around x.first) _ k).0 in
      scalar around x.length (is_struct x.kind) (subst (λ (b : Bool). (rule : _) → sb.BreaksRule around (w.Variable b (form_of x)) rule → ⊥) private own)

  of_variables : (around : List Holder) (xs : List DeclaredTree) → Each Kept (s.variables_tokens thing around xs) → Scalars (variables_pieces xs)
  of_variables around [] k = tt
  of_variables around (x ∷ xs) k = (of_variable around x (front_of Kept (s.variable_tokens thing around x) _ k), of_variables around xs (rest_of Kept (s.variable_tokens thing around x) _ k))

  of_file : (around : List Holder) (xs : List DeclaredTree) → Each Kept (s.variables_tokens thing around xs) → Scalars (file_pieces xs)
  of_file around [] k = tt
  of_file around (x ∷ xs) k = (of_variable around x (front_of Kept (s.variable_tokens thing around x) _ k), of_file around xs (rest_of Kept (s.variable_tokens thing around x) _ k))

  abbrev tokens_of : List Holder → Statement → List (s.TokenIn (List Holder))
  tokens_of around st = s.statement_tokens thing ◌∷◌ around st

  mutual
    scalars : (result : TypeTree) (around : List Holder) (st : Statement) → Each Kept (tokens_of around st) → Scalars (statement_pieces result st)
    scalars result around p.Empty k = tt
    scalars result around (p.Expression e) k = (tt, tt)
    scalars result around (p.Block list) k = all_scalars result around list k
    scalars result around (p.Declare variables) k = of_variables around variables k
    scalars result around (p.If spot condition body) k = (tt, scalars result _ body (rest_of Kept (s.condition_tokens thing around spot condition) _ k))
    scalars result around (p.IfElse spot condition body otherwise) k =
        let k' = front_of Kept (s.condition_tokens thing around spot condition ++ tokens_of _ body) _ k in (
          tt,
          both _ _ (scalars result _ body (rest_of Kept (s.condition_tokens thing around spot condition) _ k'))
              (scalars result _ otherwise (rest_of Kept (s.condition_tokens thing around spot condition ++ tokens_of _ body) _ k)),
        )
    scalars result around (p.While spot condition body) k = (tt, scalars result _ body (rest_of Kept (s.condition_tokens thing around spot condition) _ k))
    scalars result around (p.DoWhile spot body condition) k =
        both _ _ (scalars result _ body (rest_of Kept (s.condition_tokens thing around spot condition) _ k)) (tt, tt)
    scalars result around (p.For spot before condition after body) k =
        both _ _ (both _ _ (both _ _ (none_in role.Alone before) (none_in role.Condition condition)) (none_in role.Alone after))
        (scalars result _ body (rest_of Kept (s.head_tokens thing around spot before condition after) _ k))
    scalars result around (p.Start spot count body) k = both _ _ (none_in role.Word count) (scalars result _ body (rest_of Kept (s.optional_tokens thing around count) _ k))
    scalars result around (p.Farm spot body) k = scalars result _ body k
    scalars result around (p.Seq spot body) k = scalars result _ body k
    scalars result around (p.Fork spot parts part rank body) k =
        (tt, (tt, both (optional_pieces role.Word rank) (statement_pieces result body) (none_in role.Word rank) (scalars result _ body (rest_of Kept (s.parts_tokens thing around parts part rank) _ k))))
    scalars result around (p.Barrier spot) k = tt
    scalars result around (p.Break spot) k = tt
    scalars result around (p.Continue spot) k = tt
    scalars result around (p.Return spot e) k = (tt, tt)

    all_scalars : (result : TypeTree) (around : List Holder) (st : Statements) → Each Kept (s.statements_tokens thing ◌∷◌ around st) → Scalars (statements_pieces result st)
    all_scalars result around p.no_statements k = tt
    all_scalars result around (p.statement first others) k =
        both _ _ (scalars result around first (front_of Kept (tokens_of around first) _ k)) (all_scalars result around others (rest_of Kept (tokens_of around first) _ k))

  of_body : (result : TypeTree) (around : List Holder) (o : Option Statements) → Each Kept (s.body_tokens thing ◌∷◌ around o) → Scalars (body_pieces result o)
  of_body result around None k = tt
  of_body result around (Some body) k = all_scalars result around body k

module _ (program : ProgramTree) (facts : Facts) (valid : IsCorrect program facts) (proper : ItemsAreProper program.items) where
  abbrev Whole : PieceTree → Type 0
  Whole x = Unbroken (PieceBreaks (env program facts valid) x)

  no_struct : (x : DeclaredTree) → Unbroken (ParameterBreaks (env program facts valid).structs x) → is_struct x.kind ≡ false
  no_struct x un = by x.kind.base refl
    where
      by : (base : BaseType) → x.kind.base ≡ base → (is_struct_base base && (x.kind.stars == 0)) ≡ false
      by t.Int e = refl
      by t.Unsigned e = refl
      by t.Void e = refl
      by (t.Struct name) e = false_from_ne_true (x.kind.stars == 0) (λ zero. un x.name.place rules.NoVariable (inr (refl, ((name, e, eqb-true x.kind.stars 0 zero), refl))))

  is_same : (x : DeclaredTree) (b : Bool) → is_struct x.kind ≡ b → is_struct x.kind ≡ b
  is_same x b e = e

  of_parameters : (xs : List DeclaredTree) → AreWithoutLengths xs → Each Whole (parameters_pieces xs) → Scalars (parameters_pieces xs)
  of_parameters [] h un = tt
  of_parameters (x ∷ xs) h un = ((λ private. (h.0, no_struct x un.0)), of_parameters xs h.1 un.1)

  module _ (thing : ℕ → Option Thing) where
    of_items' : (xs : List ItemTree) → ItemsAreProper xs → Each (Kept thing) (s.items_tokens thing ◌∷◌ [] xs) → Each Whole (items_pieces xs) → Scalars (items_pieces xs)
    of_items' [] h k un = tt
    of_items' (StructItem name members ∷ xs) h k un = of_items' xs h.1 k un
    of_items' (VariablesItem variables ∷ xs) h k un =
        let x = VariablesItem variables in
        both (item_pieces x) (items_pieces xs) (of_file thing [] variables (front_of (Kept thing) (s.item_tokens thing ◌∷◌ [] x) _ k))
        (of_items' xs h.1 (rest_of (Kept thing) (s.item_tokens thing ◌∷◌ [] x) _ k) (rest_of Whole (item_pieces x) (items_pieces xs) un))
    of_items' (FunctionItem g ∷ xs) h k un =
        let x = FunctionItem g in
        let inner = (front_of Whole (item_pieces x) (items_pieces xs) un).1 in
        let own : Scalars (item_pieces x) = (
          tt,
          both (parameters_pieces g.parameters) (body_pieces g.result g.body) (of_parameters g.parameters h.0 (front_of Whole (parameters_pieces g.parameters) (body_pieces g.result g.body) inner))
              (of_body thing g.result _ g.body (rest_of (Kept thing) (s.parameters_tokens [] g.mode g.parameters) _ (front_of (Kept thing) (s.item_tokens thing ◌∷◌ [] x) _ k))),
        ) in
        both (item_pieces x) (items_pieces xs) own
        (of_items' xs h.1 (rest_of (Kept thing) (s.item_tokens thing ◌∷◌ [] x) _ k) (rest_of Whole (item_pieces x) (items_pieces xs) un))

  abbrev IsPlain : DeclarationTree → Type 0
  IsPlain (Variable x) = IsScalar x
  IsPlain (Header g) = Unit {0}

  plain : (ps : List PieceTree) → Scalars ps → Each IsPlain (flat_map declared_by_piece ps)
  plain [] h = tt
  plain (q.FileVariable x ∷ ps) h = (h.0, plain ps h.1)
  plain (q.Variable x ∷ ps) h = (h.0, plain ps h.1)
  plain (q.Parameter x ∷ ps) h = (h.0, plain ps h.1)
  plain (q.Header g ∷ ps) h = (tt, plain ps h.1)
  plain (q.Used role value ∷ ps) h = plain ps h.1
  plain (q.Return result spot value ∷ ps) h = plain ps h.1

  pub is_scalar : (thing : ℕ → Option Thing) → Each (Kept thing) (s.tokens thing program) → (number : ℕ) (x : DeclaredTree) → slice_get (declarations program) number ≡ Some (Variable x) → IsScalar x
  is_scalar thing kept number x is =
      one_of IsPlain (declarations program)
      (subst (Each IsPlain) (of_items program.items).declared (plain (pieces program) (of_items' thing program.items proper kept (unbroken_pieces program facts valid))))
      number (Variable x) is
