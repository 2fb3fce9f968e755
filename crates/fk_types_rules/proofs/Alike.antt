-- Environments that are right about a program break the same, and know the same types of its tokens.
use Rattle.std.proofs.Common.{◌≡◌, inl, inr, ℕ, suc, Bool, true, false, ◌&&◌, ◌||◌, List, [], ◌∷◌, ◌++◌, length, map, nat_eq, Option, Some, None, slice_get, refl, sym, ap, subst, ◌∙◌, arith, codes}
use Rattle.std.specs.Prelude.{if◌then◌else◌, is_none, is_some}
use Rattle.std.specs.Option.{option_map, option_and_then}
use Rattle.std.specs.Cmp.Lexicographic.{pointwise}
use Rattle.std.proofs.lemmas.Option.{same_Some, none-some, option_and_then_some}
use Rattle.fk_syntax.specs.declared.place.Place.{Place}
use Rattle.fk_syntax.specs.Tree.{Named, Tree}
use Rattle.fk_syntax.specs.Program.{DeclaredTree, ProgramTree}
use Rattle.fk_check_rules.specs.declared.rule.Rule.{Rule}
use Rattle.fk_check_rules.specs.declared.rule.Rule.TheVariants as rules
use Rattle.fk_check_rules.specs.Least.{Breaks, either}
use Rattle.fk_types_structs.specs.declared.types.DataType.{DataType}
use Rattle.fk_types_structs.specs.Types.{StructTree, structs_of, type_declared, type_spelled, member_named, first_of, member_names}
use Rattle.fk_types_struct_rules.specs.Declarations.{DeclarationBreaks, ParameterBreaks, ResultBreaks}
use Rattle.fk_types_names.specs.declared.names.Meaning.{Meaning}
use Rattle.fk_types_names.specs.declared.names.Meaning.TheVariants as m
use Rattle.fk_types_names.specs.Outline.{DeclarationTree, Variable, Header, outline}
use Rattle.fk_types_names.specs.Means.{Means}
use Rattle.fk_types_operators.specs.declared.values.Value.{Value}
use Rattle.fk_types_operators.specs.declared.values.ExpressionType.{ExpressionType}
use Rattle.fk_types_operators.specs.declared.values.ExpressionType.TheVariants.{Stored}
use Rattle.fk_types_operators.specs.Values.{result_of, is_array, address_of}
use Rattle.fk_types_operators.specs.Signs.{binary, prefixed, chosen}
use Rattle.fk_types_judgments.specs.Term.{Term, Terms, Number, Puts, Sizeof, Use, GroupNumber, GroupRank, Prefix, Dereference, Address, Count, Cast, Binary, Comma, Index, Call, Member, Through, Assign, Choose, no_terms, also, count_of, term_of, first_place}
use Rattle.fk_types_judgments.specs.Names.{Parameter, Meant, Kept, Called, Main, Always, Typed, Env, HasDeclaredType, IsDeclared, IsMeant, IsEnv, is_text}
use Rattle.fk_types_judgments.specs.Typing as y
use Rattle.fk_types_judgments.specs.Broken as b
use Rattle.fk_types_obligations.specs.Pieces.{PieceTree, pieces}
use Rattle.fk_types_obligations.specs.Pieces as p
use Rattle.fk_types_obligations.specs.declared.piece.Role.{Role}
use Rattle.fk_types_obligations.specs.declared.piece.Role.TheVariants as role
use Rattle.fk_types_rules.specs.Constant.{is_more}
use Rattle.fk_types_rules.specs.Pieces.{scalar, is_not_converted, if_there, InitialBreaks, FileInitialBreaks, UsedBreaks, PieceBreaks}
use Rattle.fk_types_rules.specs.Noted.{optional_noted, declared_noted, piece_noted, pieces_noted}
use Rattle.fk_types_rules.specs.Broken.{Broken}
use Rattle.fk_types_rules.proofs.Meanings.{means-something}
use Rattle.fk_types_rules.proofs.Used.{HoldsOf, holds-each, InTerm, InTerms, InOptional, InPiece, InPieces, in_piece-at, in_program}

-- ---- what is declared is one thing alone

same-types : (structs : List StructTree) (broken : Breaks) (spelled type other : Option DataType) → HasDeclaredType structs broken spelled type → HasDeclaredType structs broken spelled other → type ≡ other
same-types structs broken spelled None None h k = refl
same-types structs broken spelled None (Some other) h k = absurd (k.1 h.0 h.1 h.2)
same-types structs broken spelled (Some type) None h k = absurd (h.1 k.0 k.1 k.2)
same-types structs broken spelled (Some type) (Some other) h k = sym h.0 ∙ k.0

-- lists that have the same at each place of another
same-lists : {X Y : Type 0} (R : X → Y → Type 0) → ((x : X) (y z : Y) → R x y → R x z → y ≡ z) → (xs : List X) (ys zs : List Y) → length ys ≡ length xs → length zs ≡ length xs
    → ((i : ℕ) (x : X) (y : Y) → slice_get xs i ≡ Some x → slice_get ys i ≡ Some y → R x y) → ((i : ℕ) (x : X) (z : Y) → slice_get xs i ≡ Some x → slice_get zs i ≡ Some z → R x z) → ys ≡ zs
same-lists R once [] [] [] l k f g = refl
same-lists R once [] (y ∷ ys) zs l k f g = absurd (omega (arith, l))
same-lists R once [] [] (z ∷ zs) l k f g = absurd (omega (arith, k))
same-lists R once (x ∷ xs) [] zs l k f g = absurd (omega (arith, l))
same-lists R once (x ∷ xs) (y ∷ ys) [] l k f g = absurd (omega (arith, k))
same-lists R once (x ∷ xs) (y ∷ ys) (z ∷ zs) l k f g =
    let head : y ≡ z = once x y z (f 0 x y refl refl) (g 0 x z refl refl) in
    let tail : ys ≡ zs = same-lists R once xs ys zs (omega (arith, l)) (omega (arith, k)) (λ i. f (suc i)) (λ i. g (suc i)) in
    cc

module _ (structs : List StructTree) where
  abbrev HasParameter : DeclaredTree → Option DataType → Type 0
  HasParameter d type = HasDeclaredType structs (ParameterBreaks structs d) (type_declared structs d) type

  same-declared : (d : DeclarationTree) (one two : Meant) → IsDeclared structs d one → IsDeclared structs d two → one ≡ two
  same-declared (Variable v) one two h k = h.2 ∙ ap Kept (same-types structs (DeclarationBreaks structs v) (type_declared structs v) h.0 k.0 h.1 k.1) ∙ sym k.2
  same-declared (Header f) one two h k =
      let parameters : h.0 ≡ k.0 = same-lists HasParameter (λ d. same-types structs (ParameterBreaks structs d) (type_declared structs d)) f.parameters h.0 k.0 h.2.same k.2.same h.2.each k.2.each in
      let result : h.1 ≡ k.1 = same-types structs (ResultBreaks structs f.result f.name.place) (type_spelled structs f.result None) h.1 k.1 h.2.gives k.2.gives in
      h.3 ∙ (ap (λ ps. if is_text f.name.bytes (codes "main") then Main else Called (map Typed ps) (Always (option_map result_of h.1))) parameters
      ∙ ap (λ r. if is_text f.name.bytes (codes "main") then Main else Called (map Typed k.0) (Always (option_map result_of r))) result) ∙ sym k.3

same-meant : (program : ProgramTree) (bytes : List ℕ) (meaning : Meaning) (one two : Meant) → IsMeant program bytes meaning one → IsMeant program bytes meaning two → one ≡ two
same-meant program bytes (m.Declared number) one two h k =
    let d : k.0 ≡ h.0 = same_Some k.0 h.0 (sym k.1 ∙ h.1) in
    same-declared (structs_of program.items) h.0 one two h.2 (subst (λ e. IsDeclared (structs_of program.items) e two) d k.2)
same-meant program bytes m.Predeclared one two h k = h ∙ sym k
same-meant program bytes m.Undeclared one two h k = h ∙ sym k

-- ---- expressions, where two environments know the same of their names

-- what one part breaks is broken by the other
abbrev Follows : Breaks → Breaks → Type 0
Follows P Q = (place : Place) (rule : Rule) → P place rule → Q place rule

either-follows : (P Q R S : Breaks) → Follows P R → Follows Q S → Follows (either P Q) (either R S)
either-follows P Q R S f g place rule h = elim h [ inl x ↦ inl (f place rule x) | inr x ↦ inr (g place rule x) ]

same-test : (rule : Rule) (place : Place) (one two : Bool) → one ≡ two → Follows (b.where_so rule place one) (b.where_so rule place two)
same-test rule place one two e = subst (λ v. Follows (b.where_so rule place one) (b.where_so rule place v)) e (λ at r h. h)

same : (P : Breaks) → Follows P P
same P place rule h = h

two-same : {A B C : Type 0} (f : A → B → C) (a x : A) (b y : B) → a ≡ x → b ≡ y → f a b ≡ f x y
two-same f a x b y p q = cc

three-same : {A B C D : Type 0} (f : A → B → C → D) (a x : A) (b y : B) (c z : C) → a ≡ x → b ≡ y → c ≡ z → f a b c ≡ f x y z
three-same f a x b y c z p q r = cc

-- the first place of a member's name is that of a member
first-step : (d : DeclaredTree) (ds : List DeclaredTree) (is_here : Bool) (later : Option ℕ) (place : ℕ) → ((i : ℕ) → later ≡ Some i → (e : DeclaredTree) × (slice_get ds i ≡ Some e))
    → (if is_here then Some 0 else option_map suc later) ≡ Some place → (e : DeclaredTree) × (slice_get (d ∷ ds) place ≡ Some e)
first-step d ds true later place rest e = (d, subst (λ i. slice_get (d ∷ ds) i ≡ Some d) (same_Some 0 place e) refl)
first-step d ds false None place rest e = absurd (none-some place e)
first-step d ds false (Some i) place rest e = let found = rest i refl in (found.0, subst (λ j. slice_get (d ∷ ds) j ≡ Some found.0) (same_Some (suc i) place e) found.1)

first-at : (text : List ℕ) (ds : List DeclaredTree) (place : ℕ) → first_of text (member_names ds) ≡ Some place → (e : DeclaredTree) × (slice_get ds place ≡ Some e)
first-at text [] place e = absurd (none-some place e)
first-at text (d ∷ ds) place e = first-step d ds (pointwise nat_eq text d.name.bytes) (first_of text (member_names ds)) place (first-at text ds) e

abbrev made : List StructTree → (Named → Meant) → (ℕ → ℕ → Option DataType) → Env
made structs meant types = record { structs = structs; meant = meant; member_type = types }

module _ (structs : List StructTree) (meant other : Named → Meant) (types others : ℕ → ℕ → Option DataType)
    (members : (index place : ℕ) (s : StructTree) (d : DeclaredTree) → slice_get structs index ≡ Some s → slice_get s.members place ≡ Some d → types index place ≡ others index place) where
  abbrev A : Env
  A = made structs meant types

  abbrev B : Env
  B = made structs other others

  abbrev IsSame : Named → Type 0
  IsSame name = meant name ≡ other name

  -- ---- types

  same-place : (index : ℕ) (member : Named) (place : ℕ) → member_named structs index member.bytes ≡ Some place → types index place ≡ others index place
  same-place index member place e =
      option_and_then_some (λ (s : StructTree). first_of member.bytes (member_names s.members)) (slice_get structs index) place e
      (λ s here inner. let d = first-at member.bytes s.members place inner in members index place s d.0 here d.1)

  same-member : (index : Option ℕ) (member : Named) → y.member_type A index member ≡ y.member_type B index member
  same-member None member = refl
  same-member (Some index) member = by (member_named structs index member.bytes) refl
    where
      by : (o : Option ℕ) → member_named structs index member.bytes ≡ o → option_and_then (λ (place : ℕ). option_map Stored (types index place)) o ≡ option_and_then (λ (place : ℕ). option_map Stored (others index place)) o
      by None e = refl
      by (Some place) e = ap (option_map Stored) (same-place index member place e)

  same-target : (x : Term) → InTerm IsSame x → y.is_no_target A x ≡ y.is_no_target B x
  same-target (Use name) h = ap y.is_constant h
  same-target _ h = refl

  same-called : (x : Term) → InTerm IsSame x → y.type_of A x ≡ y.type_of B x → y.called_as A x (y.type_of A x) ≡ y.called_as B x (y.type_of B x)
  same-called (Use name) h e = h
  same-called x h e = ap (y.called_as B x) e

  mutual
    same-type : (x : Term) → InTerm IsSame x → y.type_of A x ≡ y.type_of B x
    same-type (Number spot value unsigned) h = refl
    same-type (Puts spot) h = refl
    same-type (Sizeof spot type) h = refl
    same-type (Use name) h = ap y.name_type h
    same-type (GroupNumber spot) h = refl
    same-type (GroupRank spot) h = refl
    same-type (Prefix spot sign operand) h = ap (λ (o : Option ExpressionType). y.computed (option_and_then (prefixed sign) (y.value_in o))) (same-type operand h)
    same-type (Dereference spot pointer) h = ap (λ (o : Option ExpressionType). option_and_then y.pointed (y.value_in o)) (same-type pointer h)
    same-type (Address spot place) h =
        let f : Bool → Option ExpressionType → Option ExpressionType = λ t o. if t then None else y.computed (option_and_then address_of o) in
        two-same f (y.is_no_target A place) (y.is_no_target B place) (y.type_of A place) (y.type_of B place) (same-target place h) (same-type place h)
    same-type (Count spot is_before place) h =
        let f : Bool → Option ExpressionType → Option ExpressionType = λ t o. if t then None else option_and_then y.counted_type o in
        two-same f (y.is_no_target A place) (y.is_no_target B place) (y.type_of A place) (y.type_of B place) (same-target place h) (same-type place h)
    same-type (Cast spot type operand) h = ap (λ (o : Option ExpressionType). y.cast_type (type_spelled structs type None) (y.value_in o)) (same-type operand h)
    same-type (Binary spot sign left right) h =
        let f : Option ExpressionType → Option ExpressionType → Option ExpressionType = λ l r. y.computed (y.of_both (binary sign) (y.operand_in (y.is_zero left) l) (y.operand_in (y.is_zero right) r)) in
        two-same f (y.type_of A left) (y.type_of B left) (y.type_of A right) (y.type_of B right) (same-type left h.0) (same-type right h.1)
    same-type (Comma spot left right) h = two-same y.last_of (y.type_of A left) (y.type_of B left) (y.type_of A right) (y.type_of B right) (same-type left h.0) (same-type right h.1)
    same-type (Index spot whole by) h =
        let f : Option ExpressionType → Option ExpressionType → Option ExpressionType = λ w i. y.element (y.value_in w) (y.value_in i) in
        two-same f (y.type_of A whole) (y.type_of B whole) (y.type_of A by) (y.type_of B by) (same-type whole h.0) (same-type by h.1)
    same-type (Call spot callee arguments) h =
        let one = y.called_as A callee (y.type_of A callee) in
        let two = y.called_as B callee (y.type_of B callee) in
        let e = same-called callee h.0 (same-type callee h.0) in
        let f : Meant → Bool → Option Value → Option ExpressionType = λ thing fit first. y.call_type thing (count_of arguments) fit first in
        three-same f one two (y.do_all_fit A (y.parameters_of one) arguments) (y.do_all_fit B (y.parameters_of two) arguments) (y.first_value A arguments) (y.first_value B arguments)
        e (ap (λ (thing : Meant). y.do_all_fit A (y.parameters_of thing) arguments) e ∙ same-fit (y.parameters_of two) arguments h.1) (same-first arguments h.1)
    same-type (Member spot whole member) h = same-member (option_and_then y.struct_of (y.type_of A whole)) member ∙ ap (λ (o : Option ExpressionType). y.member_type B (option_and_then y.struct_of o) member) (same-type whole h)
    same-type (Through spot pointer member) h =
        same-member (option_and_then y.struct_at (y.value_in (y.type_of A pointer))) member ∙ ap (λ (o : Option ExpressionType). y.member_type B (option_and_then y.struct_at (y.value_in o)) member) (same-type pointer h)
    same-type (Assign spot sign place value) h =
        let f : Bool → Option ExpressionType → Option ExpressionType → Option ExpressionType = λ t o v. if t then None else y.assigned sign o (y.operand_in (y.is_zero value) v) in
        three-same f (y.is_no_target A place) (y.is_no_target B place) (y.type_of A place) (y.type_of B place) (y.type_of A value) (y.type_of B value) (same-target place h.0) (same-type place h.0) (same-type value h.1)
    same-type (Choose spot condition first second) h =
        let f : Option ExpressionType → Option ExpressionType → Option ExpressionType → Option ExpressionType = λ o v w. y.branched (y.value_in o) (y.operand_in (y.is_zero first) v) (y.operand_in (y.is_zero second) w) in
        three-same f (y.type_of A condition) (y.type_of B condition) (y.type_of A first) (y.type_of B first) (y.type_of A second) (y.type_of B second) (same-type condition h.0) (same-type first h.1) (same-type second h.2)

    same-fit : (parameters : List Parameter) (xs : Terms) → InTerms IsSame xs → y.do_all_fit A parameters xs ≡ y.do_all_fit B parameters xs
    same-fit parameters no_terms h = refl
    same-fit parameters (also before last) h =
        let f : Bool → Option ExpressionType → Bool = λ fit o. fit && y.does_fit (slice_get parameters (count_of before)) (y.operand_in (y.is_zero last) o) in
        two-same f (y.do_all_fit A parameters before) (y.do_all_fit B parameters before) (y.type_of A last) (y.type_of B last) (same-fit parameters before h.0) (same-type last h.1)

    same-first : (xs : Terms) → InTerms IsSame xs → y.first_value A xs ≡ y.first_value B xs
    same-first no_terms h = refl
    same-first (also before last) h =
        let f : Option Value → Option ExpressionType → Option Value = λ v o. y.either_value v (y.value_in o) in
        two-same f (y.first_value A before) (y.first_value B before) (y.type_of A last) (y.type_of B last) (same-first before h.0) (same-type last h.1)

  -- and those that are noted at the tokens of an expression
  ends : (at : ℕ) (x : Term) (before : List y.Noted) (again : List y.Noted) → InTerm IsSame x → before ≡ again → before ++ y.note at (y.type_of A x) ≡ again ++ y.note at (y.type_of B x)
  ends at x before again h e = two-same ◌++◌ before again (y.note at (y.type_of A x)) (y.note at (y.type_of B x)) e (ap (y.note at) (same-type x h))

  mutual
    same-noted : (x : Term) → InTerm IsSame x → y.noted A x ≡ y.noted B x
    same-noted (Number spot value unsigned) h = refl
    same-noted (Puts spot) h = refl
    same-noted (Sizeof spot type) h = refl
    same-noted (Use name) h = ap (y.note name.at) (same-type (Use name) h)
    same-noted (GroupNumber spot) h = refl
    same-noted (GroupRank spot) h = refl
    same-noted (Prefix spot sign operand) h = ends spot.at (Prefix spot sign operand) _ _ h (same-noted operand h)
    same-noted (Dereference spot pointer) h = ends spot.at (Dereference spot pointer) _ _ h (same-noted pointer h)
    same-noted (Address spot place) h = ends spot.at (Address spot place) _ _ h (same-noted place h)
    same-noted (Count spot is_before place) h = ends spot.at (Count spot is_before place) _ _ h (same-noted place h)
    same-noted (Cast spot type operand) h = ends spot.at (Cast spot type operand) _ _ h (same-noted operand h)
    same-noted (Binary spot sign left right) h = ends spot.at (Binary spot sign left right) _ _ h (two-same ◌++◌ _ _ _ _ (same-noted left h.0) (same-noted right h.1))
    same-noted (Comma spot left right) h = ends spot.at (Comma spot left right) _ _ h (two-same ◌++◌ _ _ _ _ (same-noted left h.0) (same-noted right h.1))
    same-noted (Index spot whole by) h = ends spot.at (Index spot whole by) _ _ h (two-same ◌++◌ _ _ _ _ (same-noted whole h.0) (same-noted by h.1))
    same-noted (Call spot callee arguments) h = ends spot.at (Call spot callee arguments) _ _ h
        (two-same ◌++◌ (y.noted A callee) (y.noted B callee) (y.all_noted A arguments) (y.all_noted B arguments) (same-noted callee h.0) (all-noted arguments h.1))
    same-noted (Member spot whole member) h = ends spot.at (Member spot whole member) _ _ h (same-noted whole h)
    same-noted (Through spot pointer member) h = ends spot.at (Through spot pointer member) _ _ h (same-noted pointer h)
    same-noted (Assign spot sign place value) h = ends spot.at (Assign spot sign place value) _ _ h (two-same ◌++◌ _ _ _ _ (same-noted place h.0) (same-noted value h.1))
    same-noted (Choose spot condition first second) h = ends spot.at (Choose spot condition first second) _ _ h
        (two-same ◌++◌ (y.noted A condition ++ y.noted A first) (y.noted B condition ++ y.noted B first) (y.noted A second) (y.noted B second) (two-same ◌++◌ _ _ _ _ (same-noted condition h.0) (same-noted first h.1)) (same-noted second h.2))

    all-noted : (xs : Terms) → InTerms IsSame xs → y.all_noted A xs ≡ y.all_noted B xs
    all-noted no_terms h = refl
    all-noted (also before last) h = two-same ◌++◌ (y.all_noted A before) (y.all_noted B before) (y.noted A last) (y.noted B last) (all-noted before h.0) (same-noted last h.1)

  there-noted : (tree : Option Tree) → InOptional IsSame tree → optional_noted A tree ≡ optional_noted B tree
  there-noted None h = refl
  there-noted (Some tree) h = same-noted (term_of tree) h

  same-piece : (piece : PieceTree) → InPiece IsSame piece → piece_noted A piece ≡ piece_noted B piece
  same-piece (p.FileVariable variable) h = ap (λ (ns : List y.Noted). declared_noted A variable ++ ns) (there-noted variable.first h)
  same-piece (p.Variable variable) h = ap (λ (ns : List y.Noted). declared_noted A variable ++ ns) (there-noted variable.first h)
  same-piece (p.Parameter parameter) h = refl
  same-piece (p.Header function) h = refl
  same-piece (p.Used r value) h = same-noted (term_of value) h
  same-piece (p.Return result spot value) h = there-noted value h

  same-pieces : (list : List PieceTree) → InPieces IsSame list → pieces_noted A list ≡ pieces_noted B list
  same-pieces [] h = refl
  same-pieces (x ∷ xs) h = two-same ◌++◌ (piece_noted A x) (piece_noted B x) (pieces_noted A xs) (pieces_noted B xs) (same-piece x h.0) (same-pieces xs h.1)

  -- ---- what expressions break

  -- a test of one part, and of two
  by-type : (rule : Rule) (place : Place) (test : Option ExpressionType → Bool) (x : Term) → InTerm IsSame x → Follows (b.where_so rule place (test (y.type_of A x))) (b.where_so rule place (test (y.type_of B x)))
  by-type rule place test x h = same-test rule place (test (y.type_of A x)) (test (y.type_of B x)) (ap test (same-type x h))

  by-types : (rule : Rule) (place : Place) (test : Option ExpressionType → Option ExpressionType → Bool) (x z : Term) → InTerm IsSame x → InTerm IsSame z
      → Follows (b.where_so rule place (test (y.type_of A x) (y.type_of A z))) (b.where_so rule place (test (y.type_of B x) (y.type_of B z)))
  by-types rule place test x z h k = same-test rule place (test (y.type_of A x) (y.type_of A z)) (test (y.type_of B x) (y.type_of B z))
      (two-same test (y.type_of A x) (y.type_of B x) (y.type_of A z) (y.type_of B z) (same-type x h) (same-type z k))

  by-target : (place : Place) (x : Term) → InTerm IsSame x → Follows (b.where_so rules.NoTarget place (y.is_no_target A x)) (b.where_so rules.NoTarget place (y.is_no_target B x))
  by-target place x h = same-test rules.NoTarget place (y.is_no_target A x) (y.is_no_target B x) (same-target x h)

  by-called : (rule : Rule) (place : Place) (test : Meant → Bool) (x : Term) → InTerm IsSame x
      → Follows (b.where_so rule place (test (y.called_as A x (y.type_of A x)))) (b.where_so rule place (test (y.called_as B x (y.type_of B x))))
  by-called rule place test x h = same-test rule place (test (y.called_as A x (y.type_of A x))) (test (y.called_as B x (y.type_of B x))) (ap test (same-called x h (same-type x h)))

  value-follows : (x : Term) → InTerm IsSame x → Follows (b.Broken A x) (b.Broken B x) → Follows (b.as_value A x (b.Broken A x)) (b.as_value B x (b.Broken B x))
  value-follows x h f = either-follows _ _ _ _ f (by-type rules.NoValue (first_place x) (b.is_such b.is_no_value) x h)

  condition-follows : (x : Term) → InTerm IsSame x → Follows (b.Broken A x) (b.Broken B x) → Follows (b.as_condition A x (b.Broken A x)) (b.as_condition B x (b.Broken B x))
  condition-follows x h f = either-follows _ _ _ _ f (by-type rules.NoCondition (first_place x) (b.is_such b.is_no_value) x h)

  statement-follows : (x : Term) → InTerm IsSame x → Follows (b.Broken A x) (b.Broken B x) → Follows (b.as_statement A x (b.Broken A x)) (b.as_statement B x (b.Broken B x))
  statement-follows x h f = either-follows _ _ _ _ f (by-type rules.NoValue (first_place x) (b.is_such b.is_struct) x h)

  called-follows : (x : Term) → InTerm IsSame x → Follows (b.Broken A x) (b.Broken B x) → Follows (b.as_called A x (b.Broken A x)) (b.as_called B x (b.Broken B x))
  called-follows (Use name) h f = subst (λ thing. Follows (b.CalledNameBreaks (meant name) name.place) (b.CalledNameBreaks thing name.place)) h (λ place rule broken. broken)
  called-follows _ h f = f

  mutual
    broken-follows : (x : Term) → InTerm IsSame x → Follows (b.Broken A x) (b.Broken B x)
    broken-follows (Number spot value unsigned) h = λ place rule broken. broken
    broken-follows (Puts spot) h = λ place rule broken. broken
    broken-follows (Sizeof spot type) h = λ place rule broken. broken
    broken-follows (Use name) h = subst (λ thing. Follows (b.NameBreaks (meant name) name.place) (b.NameBreaks thing name.place)) h (λ place rule broken. broken)
    broken-follows (GroupNumber spot) h = λ place rule broken. broken
    broken-follows (GroupRank spot) h = λ place rule broken. broken
    broken-follows (Prefix spot sign operand) h = either-follows _ _ _ _ (value-follows operand h (broken-follows operand h))
        (by-type rules.WrongOperands spot.place (λ o. b.is_such (λ v. is_none (prefixed sign v)) (y.value_in o)) operand h)
    broken-follows (Dereference spot pointer) h = either-follows _ _ _ _ (value-follows pointer h (broken-follows pointer h))
        (by-type rules.NoPointer spot.place (λ o. b.is_such b.is_no_pointer (y.value_in o)) pointer h)
    broken-follows (Address spot place) h = either-follows _ _ _ _ (broken-follows place h) (by-target spot.place place h)
    broken-follows (Count spot is_before place) h = either-follows _ _ _ _ (broken-follows place h) (either-follows _ _ _ _ (by-target spot.place place h)
        (either-follows _ _ _ _ (by-type rules.WholeAssigned spot.place (b.is_such is_array) place h) (by-type rules.WrongOperands spot.place (b.is_such b.is_not_counted) place h)))
    broken-follows (Cast spot type operand) h = either-follows _ _ _ _ (value-follows operand h (broken-follows operand h)) (same (b.CastBreaks A spot type))
    broken-follows (Binary spot sign left right) h = either-follows _ _ _ _
        (either-follows _ _ _ _ (value-follows left h.0 (broken-follows left h.0)) (value-follows right h.1 (broken-follows right h.1)))
        (by-types rules.WrongOperands spot.place (λ l r. b.are_refused (binary sign) (y.operand_in (y.is_zero left) l) (y.operand_in (y.is_zero right) r)) left right h.0 h.1)
    broken-follows (Comma spot left right) h = either-follows _ _ _ _ (statement-follows left h.0 (broken-follows left h.0)) (statement-follows right h.1 (broken-follows right h.1))
    broken-follows (Index spot whole by) h = either-follows _ _ _ _
        (either-follows _ _ _ _ (value-follows whole h.0 (broken-follows whole h.0)) (value-follows by h.1 (broken-follows by h.1)))
        (either-follows _ _ _ _ (by-type rules.NoPointer spot.place (λ o. b.is_such b.is_no_pointer (y.value_in o)) whole h.0)
        (by-type rules.WrongOperands spot.place (λ o. b.is_such b.is_no_integer (y.value_in o)) by h.1))
    broken-follows (Call spot callee arguments) h =
        let one = y.called_as A callee (y.type_of A callee) in
        either-follows _ _ _ _
        (either-follows _ _ _ _ (called-follows callee h.0 (broken-follows callee h.0))
        (subst (λ thing. Follows (b.ArgumentsBreak A (y.parameters_of one) arguments) (b.ArgumentsBreak B (y.parameters_of thing) arguments)) (same-called callee h.0 (same-type callee h.0)) (arguments-follow (y.parameters_of one) arguments h.1)))
        (either-follows _ _ _ _ (by-called rules.NoFunction spot.place b.is_no_function callee h.0) (by-called rules.WrongCount spot.place (λ thing. b.is_wrong_count thing (count_of arguments)) callee h.0))
    broken-follows (Member spot whole member) h = either-follows _ _ _ _ (broken-follows whole h)
        (by-type rules.NoMember spot.place (λ o. is_some o && is_none (y.member_place A (option_and_then y.struct_of o) member)) whole h)
    broken-follows (Through spot pointer member) h = either-follows _ _ _ _ (value-follows pointer h (broken-follows pointer h))
        (by-type rules.NoMember spot.place (λ o. is_some (y.value_in o) && is_none (y.member_place A (option_and_then y.struct_at (y.value_in o)) member)) pointer h)
    broken-follows (Assign spot sign place value) h = either-follows _ _ _ _
        (either-follows _ _ _ _ (broken-follows place h.0) (value-follows value h.1 (broken-follows value h.1)))
        (either-follows _ _ _ _ (by-target spot.place place h.0) (either-follows _ _ _ _ (by-type rules.WholeAssigned spot.place (b.is_such is_array) place h.0)
        (by-types (b.assign_rule sign) spot.place (λ o v. b.is_not_assigned sign o (y.operand_in (y.is_zero value) v)) place value h.0 h.1)))
    broken-follows (Choose spot condition first second) h = either-follows _ _ _ _
        (either-follows _ _ _ _ (condition-follows condition h.0 (broken-follows condition h.0))
        (either-follows _ _ _ _ (value-follows first h.1 (broken-follows first h.1)) (value-follows second h.2 (broken-follows second h.2))))
        (by-types rules.WrongOperands spot.place (λ v w. b.are_refused chosen (y.operand_in (y.is_zero first) v) (y.operand_in (y.is_zero second) w)) first second h.1 h.2)

    arguments-follow : (parameters : List Parameter) (xs : Terms) → InTerms IsSame xs → Follows (b.ArgumentsBreak A parameters xs) (b.ArgumentsBreak B parameters xs)
    arguments-follow parameters no_terms h = λ place rule broken. broken
    arguments-follow parameters (also before last) h = either-follows _ _ _ _ (arguments-follow parameters before h.0) (either-follows _ _ _ _ (value-follows last h.1 (broken-follows last h.1))
        (by-type rules.NoConversion (first_place last) (λ o. b.is_not_taken (slice_get parameters (count_of before)) (y.operand_in (y.is_zero last) o)) last h.1))

  -- ---- what pieces break

  same-more : (x : Term) → InTerm IsSame x → is_more A x ≡ is_more B x
  same-more (Use name) h = ap (λ thing. is_some (y.value_in (y.name_type thing))) h
  same-more (Prefix spot sign operand) h = same-more operand h
  same-more (Cast spot type operand) h = same-more operand h
  same-more (Binary spot sign left right) h = two-same ◌||◌ (is_more A left) (is_more B left) (is_more A right) (is_more B right) (same-more left h.0) (same-more right h.1)
  same-more (Comma spot left right) h = two-same ◌||◌ (is_more A left) (is_more B left) (is_more A right) (is_more B right) (same-more left h.0) (same-more right h.1)
  same-more (Choose spot condition first second) h =
      let f : Bool → Bool → Bool → Bool = λ t u v. t || u || v in
      three-same f (is_more A condition) (is_more B condition) (is_more A first) (is_more B first) (is_more A second) (is_more B second) (same-more condition h.0) (same-more first h.1) (same-more second h.2)
  same-more _ h = refl

  initial-follows : (variable : DeclaredTree) (x : Term) → InTerm IsSame x → Follows (InitialBreaks A variable x) (InitialBreaks B variable x)
  initial-follows variable x h = either-follows _ _ _ _ (value-follows x h (broken-follows x h))
      (either-follows _ _ _ _ (by-type rules.NoConversion variable.name.place (λ o. is_not_converted (y.operand_in (y.is_zero x) o) (scalar (type_declared structs variable))) x h) (λ place rule broken. broken))

  file-initial-follows : (variable : DeclaredTree) (x : Term) → InTerm IsSame x → Follows (FileInitialBreaks A variable x) (FileInitialBreaks B variable x)
  file-initial-follows variable x h = either-follows _ _ _ _ (initial-follows variable x h) (same-test rules.NotConstant (first_place x) (is_more A x) (is_more B x) (same-more x h))

  there-follows : (P Q : Term → Breaks) (tree : Option Tree) → ((x : Term) → InTerm IsSame x → Follows (P x) (Q x)) → InOptional IsSame tree → Follows (if_there P tree) (if_there Q tree)
  there-follows P Q None f h = λ place rule broken. broken
  there-follows P Q (Some tree) f h = f (term_of tree) h

  used-follows : (r : Role) (x : Term) → InTerm IsSame x → Follows (UsedBreaks A r x) (UsedBreaks B r x)
  used-follows role.Condition x h = condition-follows x h (broken-follows x h)
  used-follows role.Alone x h = statement-follows x h (broken-follows x h)
  used-follows role.Word x h = value-follows x h (broken-follows x h)

  piece-follows : (piece : PieceTree) → InPiece IsSame piece → Follows (PieceBreaks A piece) (PieceBreaks B piece)
  piece-follows (p.FileVariable variable) h = either-follows _ _ _ _ (same (DeclarationBreaks structs variable)) (there-follows (FileInitialBreaks A variable) (FileInitialBreaks B variable) variable.first (file-initial-follows variable) h)
  piece-follows (p.Variable variable) h = either-follows _ _ _ _ (same (DeclarationBreaks structs variable)) (there-follows (InitialBreaks A variable) (InitialBreaks B variable) variable.first (initial-follows variable) h)
  piece-follows (p.Parameter parameter) h = λ place rule broken. broken
  piece-follows (p.Header function) h = λ place rule broken. broken
  piece-follows (p.Used r value) h = used-follows r (term_of value) h
  piece-follows (p.Return result spot None) h = λ place rule broken. broken
  piece-follows (p.Return result spot (Some value)) h = either-follows _ _ _ _ (value-follows (term_of value) h (broken-follows (term_of value) h))
      (either-follows _ _ _ _ (by-type rules.NoConversion spot.place (λ o. is_not_converted (y.operand_in (y.is_zero (term_of value)) o) (scalar (type_spelled structs result None))) (term_of value) h) (λ place rule broken. broken))

  program-follows : (program : ProgramTree) → HoldsOf IsSame (outline program) → Follows (Broken A program) (Broken B program)
  program-follows program h place rule (inl broken) = inl broken
  program-follows program h place rule (inr found) = inr (found.0, found.1, found.2, piece-follows found.1 (in_piece-at IsSame (pieces program) found.0 found.1 found.2 (in_program IsSame program h)) place rule found.3)

-- ---- whole programs

-- what holds of two environments that know the same of a program holds of any two that are right about it
module _ (program : ProgramTree) (Q : Env → Env → Type 0)
    (known : (structs : List StructTree) (meant other : Named → Meant) (types others : ℕ → ℕ → Option DataType)
    → ((index place : ℕ) (s : StructTree) (d : DeclaredTree) → slice_get structs index ≡ Some s → slice_get s.members place ≡ Some d → types index place ≡ others index place)
    → HoldsOf (λ name. meant name ≡ other name) (outline program) → Q (made structs meant types) (made structs other others)) where
  -- environments with the same structs
  with-structs : (structs : List StructTree) (meant other : Named → Meant) (types others : ℕ → ℕ → Option DataType)
      → IsEnv program (made structs meant types) → IsEnv program (made structs other others) → Q (made structs meant types) (made structs other others)
  with-structs structs meant other types others one two =
      known structs meant other types others
      (λ index place s d here there. same-types structs (DeclarationBreaks structs d) (type_declared structs d) (types index place) (others index place) (one.member_type index place s d here there) (two.member_type index place s d here there))
      (holds-each (λ name. meant name ≡ other name) (outline program) (λ from name used.
      let meaning = means-something (outline program) name.bytes from in
      let means : Means program name.at meaning.0 = record { name = name; from = from; used = used; here = refl; meant = meaning.1 } in
      same-meant program name.bytes meaning.0 (meant name) (other name) (one.meant name meaning.0 means) (two.meant name meaning.0 means)))

  with-equal : (structs again : List StructTree) (meant other : Named → Meant) (types others : ℕ → ℕ → Option DataType) → structs ≡ again
      → IsEnv program (made structs meant types) → IsEnv program (made again other others) → Q (made structs meant types) (made again other others)
  with-equal structs again meant other types others e one =
      subst (λ ss. IsEnv program (made ss other others) → Q (made structs meant types) (made ss other others)) e (with-structs structs meant other types others one)

  for-right : (env other : Env) → IsEnv program env → IsEnv program other → Q env other
  for-right env other one two = with-equal env.structs other.structs env.meant other.meant env.member_type other.member_type (one.structs ∙ sym two.structs) one two

pub alike : (program : ProgramTree) (env other : Env) → IsEnv program env → IsEnv program other → Follows (Broken env program) (Broken other program)
alike program = for-right program (λ one two. Follows (Broken one program) (Broken two program))
    (λ structs meant other types others members holds. program-follows structs meant other types others members program holds)

pub alike-noted : (program : ProgramTree) (env other : Env) → IsEnv program env → IsEnv program other → pieces_noted env (pieces program) ≡ pieces_noted other (pieces program)
alike-noted program = for-right program (λ one two. pieces_noted one (pieces program) ≡ pieces_noted two (pieces program))
    (λ structs meant other types others members holds.
    same-pieces structs meant other types others members (pieces program) (in_program (λ name. meant name ≡ other name) program holds))
