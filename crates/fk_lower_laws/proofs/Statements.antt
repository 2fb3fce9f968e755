-- The statements of a program that keeps all rules are as they are asked.
use Rattle.std.proofs.Common.{◌≡◌, inl, inr, ℕ, Bool, true, false, not, List, [], ◌∷◌, Option, Some, None, refl, sym, ap, subst, ◌∙◌}
use Rattle.std.specs.Prelude.{is_some, is_none}
use Rattle.std.proofs.lemmas.Bool.{false≢true, eq-eqb, eqb-true, false_from_ne_true, true_from_ne_false}
use Rattle.fk_syntax.specs.declared.facts.Facts.{Facts}
use Rattle.fk_syntax.specs.declared.place.Spot.{Spot}
use Rattle.fk_syntax.specs.Tree as t
use Rattle.fk_syntax.specs.Tree.{Named, BaseType, TypeTree, Tree}
use Rattle.fk_syntax.specs.Program as p
use Rattle.fk_syntax.specs.Program.{DeclaredTree, Statement, Statements, ProgramTree}
use Rattle.fk_check_rules.specs.declared.rule.Rule.TheVariants as rules
use Rattle.fk_check_rules.specs.Least.{either}
use Rattle.fk_types_struct_rules.specs.Declarations.{IsVoid, DeclarationBreaks}
use Rattle.fk_types_names.specs.Outline as o
use Rattle.fk_types_names.specs.Outline.{MarkTree, Variable, Declares, declarations, outline, tree_marks, optional_marks, variables_marks, statement_marks, statements_marks}
use Rattle.fk_types_names.specs.Means.{binding}
use Rattle.fk_types_bindings.proofs.BodyLemmas.{declared_here}
use Rattle.fk_types_operators.specs.declared.values.ExpressionType.{ExpressionType}
use Rattle.fk_types_operators.specs.Values.{value_of}
use Rattle.fk_types_judgments.specs.Term.{term_of, first_place}
use Rattle.fk_types_judgments.specs.Typing.{noted, type_of, value_in, left_of}
use Rattle.fk_types_judgments.specs.Broken.{Broken, where_so, is_such, is_no_value, is_struct}
use Rattle.fk_types_obligations.specs.declared.piece.Role.{Role}
use Rattle.fk_types_obligations.specs.declared.piece.Role.TheVariants as role
use Rattle.fk_types_obligations.specs.Pieces as q
use Rattle.fk_types_obligations.specs.Pieces.{PieceTree, optional_pieces, variables_pieces, statement_pieces, statements_pieces}
use Rattle.fk_types_references.specs.References.{tree_references, optional_references}
use Rattle.fk_types_rules.specs.Pieces.{if_there, InitialBreaks}
use Rattle.fk_types_rules.specs.Bound as b
use Rattle.fk_types_rules.specs.Noted.{optional_noted}
use Rattle.fk_regions.specs.Tokens as r
use Rattle.fk_sharing.specs.declared.around.Holder.{Holder}
use Rattle.fk_sharing.specs.Tokens as s
use Rattle.fk_meaning_forms.specs.declared.tables.Home.{Home}
use Rattle.fk_meaning_forms.specs.declared.tables.Home.TheVariants as h
use Rattle.fk_meaning_forms.specs.Tables.{slot, is_void}
use Rattle.fk_meaning_forms.specs.Expressions.{token}
use Rattle.fk_meaning_forms.specs.Statements.{is_nothing, is_scalar}
use Rattle.fk_core_liveness.specs.declared.places.FunctionKind.{FunctionKind}
use Rattle.fk_core_liveness.specs.declared.places.FunctionKind.TheVariants.{Main, Called}
use Rattle.fk_lockstep.specs.Told.{Told}
use Rattle.fk_parse_laws.specs.Every.{TreeHas, OptionHas, VariablesHave, StatementHas, StatementsHave}
use Rattle.fk_parse_laws.specs.Trim.{nonempty_lists}
use Rattle.fk_types_bindings.proofs.Below.{declared_below}
use Rattle.fk_check_laws.proofs.Each.{Each, front_of, rest_of, two_of, three_of, four_of}
use Rattle.fk_check_laws.proofs.Typed.{Unbroken, so_not, value_there, There, Not}
use Rattle.fk_check_laws.proofs.Notes.{among, binding_is}
use Rattle.fk_check_laws.proofs.Named.{known as named, declared_low}
use Rattle.fk_check_laws.proofs.Declared.{IsHomeFor}
use Rattle.fk_check_laws.proofs.Bodies.{one_number, Takes, takes_of}
use Rattle.fk_check_laws.proofs.Expressions.{told}
use Rattle.fk_check_laws.proofs.Read.{Any, IsNamed, read}
use Rattle.fk_lockstep_frames.specs.Nests.{Nest}
use Rattle.fk_lower_names.proofs.Given.{IsGiven, words_of, IsPiece}
use Rattle.fk_lower_names.specs.OpenFrames.{IsOpenFor, AreOpenFor, BindsOpen, StatementIsOpen, StatementsAreOpen}
use Rattle.fk_lower_laws.specs.Ways.{placed_way, way}
use Rattle.fk_lower_laws.specs.Asked.{IsTarget, NameAsks, Asked, ValueAsked, OptionValueAsked, UsedAsked, OptionUsedAsked, ScalarAsked, VariablesAsked, ReturnAsked, StatementAsked, StatementsAsked, in_part, in_split}
use Rattle.fk_lower_laws.specs.Typed.{IsNothing, IsWayOf}
use Rattle.fk_lower_laws.proofs.Typing.{tree_is, gives_value, gives_by}
use Rattle.fk_lower_names.proofs.Sizes.{has_sound}
use Rattle.fk_lower_laws.proofs.Tokens.{void_is}
use Rattle.fk_lower_laws.proofs.Places.{Homes}
use Rattle.fk_lower_laws.proofs.Addresses.{room_may}
use Rattle.fk_lower_laws.proofs.Valid.{about}
use Rattle.fk_lower_laws.proofs.AskedNames.{IsVariable, variable_stands, way_declared}
use Rattle.fk_lower_laws.proofs.Expressions.{Used, own_tree, known}

anything : {X : Type 0} (xs : List X) → Each (λ (x : X). Unit {0}) xs
anything [] = tt
anything (x ∷ xs) = (tt, anything xs)

some_of : {X : Type 0} (o : Option X) → There o → (x : X) × (o ≡ Some x)
some_of None there = absurd (there refl)
some_of (Some x) there = (x, refl)

some_there : {X : Type 0} (o : Option X) (x : X) → o ≡ Some x → There o
some_there o x is none = let clash = sym is ∙ none in cc

not_none : (o : Option ExpressionType) → Not (is_none o) → is_some o ≡ true
not_none None there = absurd (there refl)
not_none (Some x) there = refl

-- `void` alone gives nothing
is_void_type : (base : BaseType) (stars : ℕ) → is_nothing (record { base = base; stars = stars }) ≡ true → IsVoid (record { base = base; stars = stars })
is_void_type t.Int stars e = absurd (false≢true e)
is_void_type t.Unsigned stars e = absurd (false≢true e)
is_void_type t.Void stars e = (refl, eqb-true stars 0 e)
is_void_type (t.Struct name) stars e = absurd (false≢true e)

void_is_nothing : (base : BaseType) (stars : ℕ) → IsVoid (record { base = base; stars = stars }) → is_nothing (record { base = base; stars = stars }) ≡ true
void_is_nothing t.Int stars e = absurd (cc)
void_is_nothing t.Unsigned stars e = absurd (cc)
void_is_nothing t.Void stars e = eq-eqb stars 0 e.1
void_is_nothing (t.Struct name) stars e = absurd (cc)

-- the function of a place has such a result
abbrev pub IsPlaceOf : FunctionKind → TypeTree → Type 0
IsPlaceOf Main result = Unit {0}
IsPlaceOf (Called gives') result = gives' ≡ not (is_nothing result)

module _ (program : ProgramTree) (facts : Facts) (given : IsGiven program facts) where
  open about program facts given use {env, tables, functions, places, thing, Room, Kept, Stands as S, Referred as R, Noting as N, IsUsed}

  -- a piece with the homes of what it declares
  pub record IsOne (y : PieceTree) : Type 0 where
    pub piece : IsPiece program facts given y
    pub homes : Homes program facts given.correct y

  -- ---- expressions

  record IsRight (nests : List Nest) (e : Tree) : Type 0 where
    type : ExpressionType
    typed : type_of env (term_of e) ≡ Some type
    asked : Asked tables functions places nests e
    stands : IsWayOf (Room nests) (way tables places e) type
    void : is_some (left_of type) ≡ true → is_void tables (token e) ≡ IsNothing type

  -- a mark is among those of the program, and is open in nests
  abbrev In : List Nest → MarkTree → Type 0
  In nests mark = S mark × IsOpenFor program tables nests mark

  opened : (nests : List Nest) (ms : List MarkTree) → Each S ms → AreOpenFor program tables nests ms → Each (In nests) ms
  opened nests [] h w = tt
  opened nests (m ∷ ms) h w = ((h.0, w.0), opened nests ms h.1 w.1)

  module _ (around : List Holder) (nests : List Nest) where
    abbrev M : MarkTree → Type 0
    M mark = In nests mark

    told_of : (Means : Named → Type 0) → ((name : Named) → Used program facts given nests name → Means name) → (e : Tree) → Each M (tree_marks e) → Each R (tree_references e) → Told Any Means e
    told_of Means go e marks refs =
        told (λ token'. Unit {0}) M R [] Any Means (λ spot y. tt) (λ name y used referred. go name ((used.0.0, used.0.1, referred), used.1)) e (anything (r.tree_tokens [] e)) marks refs

    right : (e : Tree) → TreeHas nonempty_lists e → Each Kept (s.tree_tokens thing around e) → Each M (tree_marks e) → Each R (tree_references e) → Each N (noted env (term_of e)) → Unbroken (Broken env (term_of e)) → IsRight nests e
    right e trim k marks refs notes un =
        let is_read = read program facts given.correct functions (Takes program facts given.correct functions) (takes_of program facts given.correct functions) e un
        (told_of (IsNamed program facts given.correct functions) (λ name used. named program facts given.correct name used.0.0 used.0.1 used.0.2) e marks refs) in
        let typed = some_of (type_of env (term_of e)) is_read.typed in
        let all = known program facts given nests around e (Unit {0}) trim (told_of (Used program facts given nests) (λ name used. used) e marks refs) k refs notes in
        let is = tree_is (Room nests) env tables functions places nests (room_may env.structs nests) e (Unit {0}) all.0 typed.0 typed.1 in
        record {
          type = typed.0;
          typed = typed.1;
          asked = is.0;
          stands = is.1;
          void = λ some. void_is program facts given.correct (words_of program facts given) (token e) typed.0
              (subst (λ y. N (record { at = token e; type = y })) typed.1 (own_tree program facts given nests e notes)) (all.1 typed.0 typed.1) some;
        }

    valued : (e : Tree) (is : IsRight nests e) → There (value_of is.type) → ValueAsked tables functions places nests e
    valued e is there =
        let v = some_of (value_of is.type) there in
        (is.asked, gives_value (Room nests) (way tables places e) is.type v.0 v.1 is.stands)

    -- a value, where the rule is kept that asks for one
    valued_by : (rule : _) (e : Tree) → TreeHas nonempty_lists e → Each Kept (s.tree_tokens thing around e) → Each M (tree_marks e) → Each R (tree_references e) → Each N (noted env (term_of e))
        → Unbroken (either (Broken env (term_of e)) (where_so rule (first_place (term_of e)) (is_such is_no_value (type_of env (term_of e))))) → ValueAsked tables functions places nests e
    valued_by rule e trim k m refs notes un =
        let is = right e trim k m refs notes (λ place rule' broken. un place rule' (inl broken)) in
        valued e is (subst (λ y. There (value_in y)) is.typed
        (value_there (type_of env (term_of e)) (some_there (type_of env (term_of e)) is.type is.typed) (so_not rule (first_place (term_of e)) _ (λ place rule' broken. un place rule' (inr broken)))))

    as_used : (e : Tree) (is : IsRight nests e) → Unbroken (where_so rules.NoValue (first_place (term_of e)) (is_such is_struct (type_of env (term_of e)))) → UsedAsked tables functions places nests e
    as_used e is un =
        let left = not_none (left_of is.type) (subst (λ y. Not (is_such is_struct y)) is.typed (so_not rules.NoValue (first_place (term_of e)) _ un)) in
        (is.asked, gives_by (Room nests) (way tables places e) is.type is.stands ∙ ap not (sym (is.void left)))

    -- so it is with an expression that is used for something, which may be absent
    abbrev Asks : Role → (Tree → Type 0) → Type 0
    Asks r Of = (e : Tree) → TreeHas nonempty_lists e → Each Kept (s.tree_tokens thing around e) → Each M (tree_marks e) → IsOne (q.Used r e) → Of e

    abbrev AsksAny : Role → (Option Tree → Type 0) → Type 0
    AsksAny r Of = (e : Option Tree) → OptionHas nonempty_lists e → Each Kept (s.optional_tokens thing around e) → Each M (optional_marks e) → Each IsOne (optional_pieces r e) → Of e

    or_none : (r : Role) (Of : Option Tree → Type 0) → Of None → Asks r (λ e. Of (Some e)) → AsksAny r Of
    or_none r Of none some None trim k m f = none
    or_none r Of none some (Some e) trim k m f = some e trim k m f.0

    condition : Asks role.Condition (ValueAsked tables functions places nests)
    condition e trim k m one = valued_by rules.NoCondition e trim k m one.piece.refers one.piece.notes one.piece.whole

    condition_or : AsksAny role.Condition (OptionValueAsked tables functions places nests)
    condition_or = or_none role.Condition (OptionValueAsked tables functions places nests) tt condition

    word : Asks role.Word (ValueAsked tables functions places nests)
    word e trim k m one = valued_by rules.NoValue e trim k m one.piece.refers one.piece.notes one.piece.whole

    word_or : AsksAny role.Word (OptionValueAsked tables functions places nests)
    word_or = or_none role.Word (OptionValueAsked tables functions places nests) tt word

    alone : Asks role.Alone (UsedAsked tables functions places nests)
    alone e trim k m one =
        as_used e (right e trim k m one.piece.refers one.piece.notes (λ place rule broken. one.piece.whole place rule (inl broken)))
        (λ place rule broken. one.piece.whole place rule (inr broken))

    alone_or : AsksAny role.Alone (OptionUsedAsked tables functions places nests)
    alone_or = or_none role.Alone (OptionUsedAsked tables functions places nests) tt alone

    -- ---- returns

    returned : (place : FunctionKind) (result : TypeTree) → IsPlaceOf place result → (spot : Spot) (e : Option Tree) → OptionHas nonempty_lists e → Each Kept (s.optional_tokens thing around e) → Each M (optional_marks e)
        → IsOne (q.Return result spot e) → ReturnAsked tables functions places nests place e
    returned Main result of spot None trim k m one = tt
    returned Main result of spot (Some e) trim k m one =
        valued_by rules.NoValue e trim k m one.piece.refers one.piece.notes (λ place rule broken. one.piece.whole place rule (inl broken))
    returned (Called gives') result of spot None trim k m one =
        of ∙ ap not (true_from_ne_false (is_nothing result) (λ some. one.piece.whole spot.place rules.WrongReturn
        (refl, ((λ void. false≢true (sym some ∙ void_is_nothing result.base result.stars void)), refl))))
    returned (Called gives') result of spot (Some e) trim k m one = (
      of ∙ ap not (false_from_ne_true (is_nothing result) (λ none. one.piece.whole spot.place rules.WrongReturn (inr (inr (refl, (is_void_type result.base result.stars none, refl)))))),
      valued_by rules.NoValue e trim k m one.piece.refers one.piece.notes (λ place rule broken. one.piece.whole place rule (inl broken)),
    )

    -- ---- declarations

    target_is : (shared : Bool) (home : Home) (index : ℕ) (name : Named) → IsHomeFor shared home → IsTarget (placed_way tables home index name)
    target_is true h.Global index name is = tt
    target_is true (h.Group r') index name is = tt
    target_is true h.FilePrivate index name is = absurd is
    target_is true h.Private index name is = absurd is
    target_is true h.NoWord index name is = absurd is
    target_is false h.FilePrivate index name is = tt
    target_is false h.Private index name is = tt
    target_is false h.Global index name is = absurd is
    target_is false (h.Group r') index name is = absurd is
    target_is false h.NoWord index name is = absurd is

    first_asked : (y : DeclaredTree) (first : Option Tree) → OptionHas nonempty_lists first → Each Kept (s.optional_tokens thing around first) → Each M (optional_marks first) → Each R (optional_references first)
        → Each N (optional_noted env first) → Unbroken (if_there (InitialBreaks env y) first) → OptionValueAsked tables functions places nests first
    first_asked y None trim k m c notes un = tt
    first_asked y (Some e) trim k m c notes un = valued_by rules.NoValue e trim k m c notes (λ place rule broken. un place rule (inl broken))

    declared : (y : DeclaredTree) → M (Declares (Variable y)) → IsOne (q.Variable y) → OptionHas nonempty_lists y.first → Each Kept (s.optional_tokens thing around y.first) → Each M (optional_marks y.first)
        → ScalarAsked tables functions places nests (is_scalar y) y
    declared y mark one trim k m = by (is_scalar y)
      where
        by : (b : Bool) → ScalarAsked tables functions places nests b y
        by false = tt
        by true =
            let here = declared_here (outline program) mark.0.0 (Variable y) mark.0.1 in
            let home = one.homes.0 in
            let number : binding (outline program) mark.0.0 ≡ home.number = one_number program facts given.correct (binding (outline program) mark.0.0) home.number (Variable y) here home.there in
            let low = declared_below program given.correct.well_formed (Variable y) (among (declarations program) (binding (outline program) mark.0.0) (Variable y) here) in
            let binds = binding_is program facts given.correct y.name.at (binding (outline program) mark.0.0) low (b.declares (Variable y) mark.0.0 mark.0.0 mark.0.1 refl refl) ∙ number in
            let right' : Unbroken (DeclarationBreaks env.structs y) = λ place rule broken. one.piece.whole place rule (inl broken) in
            let has = has_sound env.structs y right' in
            let v : IsVariable program facts given home.number y has.type = record { there = home.there; is = has.is; right = right'; home = home.home } in
            let stands = variable_stands program facts given home.number y has.type v nests (subst (BindsOpen program tables nests) binds mark.1.0) y.name y.name.at in
            let same = way_declared program facts given y.name home.number binds (declared_low program facts given.correct home.number (Variable y) home.there) in (
              subst (NameAsks tables functions places nests y.name.at) (sym same) stands.0,
              subst IsTarget (sym same) (target_is y.shared (slot tables home.number).home (slot tables home.number).index y.name home.home),
              first_asked y y.first trim k m (one.piece.refers) (one.piece.notes.1) (λ place rule broken. one.piece.whole place rule (inr broken)),
            )

    all_declared : (ys : List DeclaredTree) → VariablesHave nonempty_lists ys → Each Kept (s.variables_tokens thing around ys) → Each M (variables_marks ys) → Each IsOne (variables_pieces ys)
        → VariablesAsked tables functions places nests ys
    all_declared [] trim k m f = tt
    all_declared (y ∷ ys) trim k m f = (
      declared y m.0 f.0 trim.1 (front_of Kept (s.optional_tokens thing around y.first) _ (front_of Kept (s.variable_tokens thing around y) _ k))
          (front_of M (optional_marks y.first) (variables_marks ys) m.1),
      all_declared ys trim.2 (rest_of Kept (s.variable_tokens thing around y) _ k) (rest_of M (optional_marks y.first) (variables_marks ys) m.1) f.1,
    )

  -- ---- statements

  pub scope_of : (ms : List MarkTree) → Each S (o.scope ms) → Each S ms
  scope_of ms m = front_of S ms (o.Closes ∷ []) m.1

  abbrev tokens_of : List Holder → Statement → List (s.TokenIn (List Holder))
  tokens_of around st = s.statement_tokens thing ◌∷◌ around st

  module _ (place : FunctionKind) (result : TypeTree) (of : IsPlaceOf place result) where
    abbrev Good : List Nest → Statement → Type 0
    Good nests st = StatementAsked tables functions places place nests st

    mutual
      statement : (around : List Holder) (nests : List Nest) (st : Statement) → StatementIsOpen program tables nests st → StatementHas nonempty_lists st → Each Kept (tokens_of around st) → Each S (statement_marks st)
          → Each IsOne (statement_pieces result st) → Good nests st
      statement around nests p.Empty w t' k m f = tt
      statement around nests (p.Expression e) w t' k m f = alone around nests e t' k (opened nests (tree_marks e) m w) f.0
      statement around nests (p.Block list) w t' k m f = statements around nests list w t' k (scope_of (statements_marks list) m) f
      statement around nests (p.Declare variables) w t' k m f = all_declared around nests variables t' k (opened nests (variables_marks variables) m w) f
      statement around nests (p.If spot c body) w t' k m f =
          let kc = s.condition_tokens thing around spot c in (
            condition around nests c t'.0 (front_of Kept (s.tree_tokens thing around c) _ (front_of Kept kc _ k)) (opened nests (tree_marks c) (front_of S (tree_marks c) _ m) w.0) f.0,
            statement _ (in_split tables spot.at 0 nests) body w.1 t'.1 (rest_of Kept kc _ k) (scope_of (statement_marks body) (rest_of S (tree_marks c) _ m)) f.1,
          )
      statement around nests (p.IfElse spot c body otherwise) w t' k m f =
          let kc = s.condition_tokens thing around spot c in
          let ks = three_of Kept kc (tokens_of _ body) _ k in
          let ms = three_of S (tree_marks c) (o.scope (statement_marks body)) (o.scope (statement_marks otherwise)) m in
          let fs = two_of IsOne (statement_pieces result body) (statement_pieces result otherwise) f.1 in (
            condition around nests c t'.0 (front_of Kept (s.tree_tokens thing around c) _ ks.0) (opened nests (tree_marks c) ms.0 w.0) f.0,
            statement _ (in_split tables spot.at 0 nests) body w.1 t'.1 ks.1 (scope_of (statement_marks body) ms.1) fs.0,
            statement _ (in_split tables spot.at 1 nests) otherwise w.2 t'.2 ks.2 (scope_of (statement_marks otherwise) ms.2) fs.1,
          )
      statement around nests (p.While spot c body) w t' k m f =
          let kc = s.condition_tokens thing around spot c in (
            condition around (in_split tables spot.at 0 nests) c t'.0 (front_of Kept (s.tree_tokens thing around c) _ (front_of Kept kc _ k)) (opened (in_split tables spot.at 0 nests) (tree_marks c) (front_of S (tree_marks c) _ m) w.0) f.0,
            statement _ (in_split tables spot.at 0 nests) body w.1 t'.1 (rest_of Kept kc _ k) (scope_of (statement_marks body) (rest_of S (tree_marks c) _ m)) f.1,
          )
      statement around nests (p.DoWhile spot body c) w t' k m f =
          let ks = two_of Kept (s.condition_tokens thing around spot c) _ k in
          let ms = two_of S (o.scope (statement_marks body)) (tree_marks c) m in
          let fs = two_of IsOne (statement_pieces result body) (q.Used role.Condition c ∷ []) f in (
            condition around (in_split tables spot.at 0 nests) c t'.1 (front_of Kept (s.tree_tokens thing around c) _ ks.0) (opened (in_split tables spot.at 0 nests) (tree_marks c) ms.1 w.0) fs.1.0,
            statement _ (in_split tables spot.at 0 nests) body w.1 t'.0 ks.1 (scope_of (statement_marks body) ms.0) fs.0,
          )
      statement around nests (p.For spot before c after body) w t' k m f =
          let kh = s.head_tokens thing around spot before c after in
          let ks = four_of Kept (s.optional_tokens thing around before) (s.optional_tokens thing around c) (s.optional_tokens thing around after) _ (front_of Kept kh _ k) in
          let ms = four_of S (optional_marks before) (optional_marks c) (optional_marks after) _ m in
          let fs = four_of IsOne (optional_pieces role.Alone before) (optional_pieces role.Condition c) (optional_pieces role.Alone after) _ f in (
            alone_or around nests before t'.0 ks.0 (opened nests (optional_marks before) ms.0 w.0) fs.0,
            condition_or around (in_split tables spot.at 0 nests) c t'.1 ks.1 (opened (in_split tables spot.at 0 nests) (optional_marks c) ms.1 w.1) fs.1,
            alone_or around (in_split tables spot.at 0 nests) after t'.2 ks.2 (opened (in_split tables spot.at 0 nests) (optional_marks after) ms.2 w.2) fs.2,
            statement _ (in_split tables spot.at 0 nests) body w.3 t'.3 (rest_of Kept kh _ k) (scope_of (statement_marks body) ms.3) fs.3,
          )
      statement around nests (p.Start spot count body) w t' k m f =
          let ks = two_of Kept (s.optional_tokens thing around count) _ k in
          let ms = two_of S (optional_marks count) _ m in
          let fs = two_of IsOne (optional_pieces role.Word count) (statement_pieces result body) f in
          (word_or around nests count t'.0 ks.0 (opened nests (optional_marks count) ms.0 w.0) fs.0, statement _ (in_part tables true spot.at 0 nests) body w.1 t'.1 ks.1 (scope_of (statement_marks body) ms.1) fs.1)
      statement around nests (p.Farm spot body) w t' k m f = statement _ nests body w t' k (scope_of (statement_marks body) m) f
      statement around nests (p.Seq spot body) w t' k m f = statement _ nests body w t' k (scope_of (statement_marks body) m) f
      statement around nests (p.Fork spot parts part rank body) w t' k m f =
          let ks = four_of Kept (s.tree_tokens thing around parts) (s.tree_tokens thing around part) (s.optional_tokens thing around rank) _ k in
          let ms = four_of S (tree_marks parts) (tree_marks part) (optional_marks rank) _ m in
          let fs = two_of IsOne (optional_pieces role.Word rank) (statement_pieces result body) f.1.1 in (
            word around nests parts t'.0 ks.0 (opened nests (tree_marks parts) ms.0 w.0) f.0,
            word around nests part t'.1 ks.1 (opened nests (tree_marks part) ms.1 w.1) f.1.0,
            word_or around nests rank t'.2 ks.2 (opened nests (optional_marks rank) ms.2 w.2) fs.0,
            statement _ (in_part tables true spot.at 0 nests) body w.3 t'.3 ks.3 (scope_of (statement_marks body) ms.3) fs.1,
          )
      statement around nests (p.Barrier spot) w t' k m f = tt
      statement around nests (p.Break spot) w t' k m f = tt
      statement around nests (p.Continue spot) w t' k m f = tt
      statement around nests (p.Return spot e) w t' k m f = returned around nests place result of spot e t' (front_of Kept (s.optional_tokens thing around e) _ k) (opened nests (optional_marks e) m w) f.0

      pub statements : (around : List Holder) (nests : List Nest) (st : Statements) → StatementsAreOpen program tables nests st → StatementsHave nonempty_lists st
          → Each Kept (s.statements_tokens thing ◌∷◌ around st) → Each S (statements_marks st) → Each IsOne (statements_pieces result st) → StatementsAsked tables functions places place nests st
      statements around nests p.no_statements w t' k m f = tt
      statements around nests (p.statement first others) w t' k m f = (
        statement around nests first w.0 t'.0 (front_of Kept (tokens_of around first) _ k) (front_of S (statement_marks first) (statements_marks others) m)
            (front_of IsOne (statement_pieces result first) (statements_pieces result others) f),
        statements around nests others w.1 t'.1 (rest_of Kept (tokens_of around first) _ k) (rest_of S (statement_marks first) (statements_marks others) m)
            (rest_of IsOne (statement_pieces result first) (statements_pieces result others) f),
      )
