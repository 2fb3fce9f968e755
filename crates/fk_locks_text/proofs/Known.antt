-- What the facts of a text that begins with the lock say of the lock's names.
use Rattle.std.proofs.Common.{◌≡◌, inl, inr, ℕ, ◌-◌, ◌<◌, ◌≤◌, ◌^◌, ◌&&◌, true, false, List, [], ◌∷◌, codes, Option, Some, None, slice_get, refl, sym, ap, subst, ◌∙◌, arith}
use Rattle.std.specs.Prelude.{Contains}
use Rattle.std.specs.Option.{option_map, option_and_then}
use Rattle.std.proofs.lemmas.Option.{same_Some}
use Rattle.fk_syntax.specs.declared.facts.Facts.{Facts}
use Rattle.fk_syntax.specs.declared.place.Place.{Place}
use Rattle.fk_syntax.specs.declared.place.Spot.{Spot}
use Rattle.fk_syntax.specs.Tree as t
use Rattle.fk_syntax.specs.Tree.{Named}
use Rattle.fk_syntax.specs.Program.{DeclaredTree, ItemTree, FunctionItem, ProgramTree}
use Rattle.fk_check_rules.specs.declared.rule.Rule.TheVariants as rules
use Rattle.fk_check_rules.specs.Least.{Breaks}
use Rattle.fk_types_structs.specs.declared.types.Root.TheVariants as r
use Rattle.fk_types_structs.specs.declared.types.DataType.{DataType}
use Rattle.fk_types_structs.specs.Types.{StructTree, structs_of, type_declared, member_named}
use Rattle.fk_types_struct_rules.specs.Declarations.{DeclarationBreaks}
use Rattle.fk_types_operators.specs.declared.values.Value.TheVariants.{Int, Unsigned, Pointer}
use Rattle.fk_types_operators.specs.declared.values.ExpressionType.{ExpressionType}
use Rattle.fk_types_operators.specs.declared.values.ExpressionType.TheVariants.{Stored, Computed}
use Rattle.fk_types_operators.specs.Values.{address_of}
use Rattle.fk_types_names.specs.declared.names.Meaning.TheVariants as m
use Rattle.fk_types_names.specs.Outline.{MarkTree, Variable, Header, Opens, Closes, Declares, Uses, name_of, outline, items_marks, declarations}
use Rattle.fk_types_names.specs.Visible.{depth, DeclaresHere, DeclaresAt}
use Rattle.fk_types_names.specs.Means.{Means, HasBodyAt, predeclared}
use Rattle.fk_types_name_rules.proofs.ListLemmas.{at_some}
use Rattle.fk_types_judgments.specs.Names.{Env, Meant, Kept, HasDeclaredType, IsDeclared, predeclared_meant}
use Rattle.fk_types_judgments.specs.Term.{Term, Terms, Use, Through, Address, Call, Number, no_terms, also}
use Rattle.fk_types_judgments.specs.Typing.{type_of, name_type, value_in, struct_at, member_type, computed, call_type, parameters_of, does_fit, operand_in, either_value}
use Rattle.fk_types_obligations.specs.Pieces.{pieces, Parameter}
use Rattle.fk_types_references.specs.References.{ReferenceTree, Name, Member}
use Rattle.fk_types_rules.specs.Bound.{IsBound, Refers, pieces_references, token_of}
use Rattle.fk_types_rules.specs.Bound as b
use Rattle.fk_types_rules.specs.Noted.{HasTypeAt, pieces_noted}
use Rattle.fk_meaning_forms.specs.Tables.{Tables, note}
use Rattle.fk_check_laws.specs.Correct.{IsCorrect}
use Rattle.fk_check_laws.proofs.Notes.{tables, among, binding_is}
use Rattle.fk_check_laws.proofs.Typed.{Unbroken}
use Rattle.fk_locks_tree.specs.Items.{name_at, spot_at, declares, lock_struct, lock_take, lock_give, take_parameter, take_ticket, give_parameter}
use Rattle.fk_locks_text.proofs.Marks.{EachBelow, below, differ, take_mpadd, take_l, test_l, test_t, give_mpadd, give_l, take_l_is, test_l_is, test_t_is, give_l_is, take_mpadd_is, give_mpadd_is}

-- the program of a text that begins with the lock
abbrev pub lock_program : List ItemTree → Place → ℕ → ProgramTree
lock_program others end count = record { items = lock_struct ∷ FunctionItem lock_take ∷ FunctionItem lock_give ∷ others; end = end; tokens = count }

-- a pointer to the first struct, and an unsigned word
abbrev pub pointer : DataType
pointer = record { root = r.Struct 0; stars = 1; length = None }

abbrev pub word : DataType
word = record { root = r.Unsigned; stars = 0; length = None }

-- ---- what a declaration without a broken rule declares

declared_type : (structs : List StructTree) (broken : Breaks) (spelled : Option DataType) (type : DataType) (found : Option DataType) → HasDeclaredType structs broken spelled found
    → spelled ≡ Some type → Unbroken broken → found ≡ Some type
declared_type structs broken spelled type None has is un = absurd (un has.0 has.1 has.2)
declared_type structs broken spelled type (Some t) has is un = sym has.0 ∙ is

kept_type : (structs : List StructTree) (x : DeclaredTree) (type : DataType) (meant : Meant) → IsDeclared structs (Variable x) meant → type_declared structs x ≡ Some type
    → Unbroken (DeclarationBreaks structs x) → meant ≡ Kept (Some type)
kept_type structs x type meant is spelled un =
    is.2 ∙ ap Kept (declared_type structs (DeclarationBreaks structs x) (type_declared structs x) type is.0 is.1 spelled un)

abbrev next_member : DeclaredTree
next_member = declares t.Unsigned 0 (name_at 4 1 28 (codes "next"))

abbrev now_member : DeclaredTree
now_member = declares t.Unsigned 0 (name_at 7 1 43 (codes "now"))

abbrev lock_tree : StructTree
lock_tree = record { name = name_at 1 1 8 (codes "FairLock"); members = next_member ∷ now_member ∷ [] }

abbrev take_next : Named
take_next = name_at 29 2 64 (codes "next")

abbrev test_now : Named
test_now = name_at 38 2 84 (codes "now")

abbrev give_now : Named
give_now = name_at 58 3 48 (codes "now")

module _ (others : List ItemTree) (end : Place) (count : ℕ) (facts : Facts) (valid : IsCorrect (lock_program others end count) facts) (low : 63 < count) where
  abbrev pub program : ProgramTree
  program = lock_program others end count

  abbrev pub E : Env
  E = valid.known.types.env

  abbrev pub T : Tables
  T = tables program facts valid

  abbrev S : List StructTree
  S = structs_of program.items

  abbrev rest : List MarkTree
  rest = items_marks others

  same_structs : E.structs ≡ S
  same_structs = valid.known.types.right.structs

  -- ---- what the names mean

  take_l_means : Means program 27 (m.Declared 1)
  take_l_means = record { name = take_l; from = 5; used = refl; here = refl; meant = (2, Variable take_parameter, 2, take_l_is rest, refl, refl, refl) }

  test_l_means : Means program 36 (m.Declared 1)
  test_l_means = record { name = test_l; from = 6; used = refl; here = refl; meant = (2, Variable take_parameter, 2, test_l_is rest, refl, refl, refl) }

  test_t_means : Means program 40 (m.Declared 2)
  test_t_means = record { name = test_t; from = 7; used = refl; here = refl; meant = (3, Variable take_ticket, 3, test_t_is rest, refl, refl, refl) }

  give_l_means : Means program 56 (m.Declared 4)
  give_l_means = record { name = give_l; from = 15; used = refl; here = refl; meant = (13, Variable give_parameter, 13, give_l_is rest, refl, refl, refl) }

  -- no declaration at file scope has a predeclared name
  not_taken : (k : ℕ) → depth (outline program) k ≡ 0 → DeclaresAt (outline program) (codes "mpadd") k → ⊥
  not_taken k outer has = let found = at_some (DeclaresHere (codes "mpadd")) (outline program) k has in by found.0 found.1 found.2
    where
      is_predeclared : Contains predeclared (codes "mpadd")
      is_predeclared = among predeclared 0 (codes "mpadd") refl

      by : (mark : MarkTree) → slice_get (outline program) k ≡ Some mark → DeclaresHere (codes "mpadd") mark → ⊥
      by Opens is here = here
      by Closes is here = here
      by (Uses name) is here = here
      by (Declares d) is here =
          valid.known.types.kept (name_of d).place rules.DeclaredTwice (inl (inr (inr (inl (refl, (k, d, is, inr (outer, subst (Contains predeclared) (sym here) is_predeclared), refl))))))

  take_mpadd_means : Means program 24 m.Predeclared
  take_mpadd_means = record { name = take_mpadd; from = 4; used = refl; here = refl; meant = (take_mpadd_is rest not_taken, among predeclared 0 (codes "mpadd") refl) }

  give_mpadd_means : Means program 53 m.Predeclared
  give_mpadd_means = record { name = give_mpadd; from = 14; used = refl; here = refl; meant = (give_mpadd_is rest not_taken, among predeclared 0 (codes "mpadd") refl) }

  -- ---- the types of names and members

  is_l : (name : Named) (number piece : ℕ) (x : DeclaredTree) → Means program name.at (m.Declared number) → slice_get (declarations program) number ≡ Some (Variable x)
      → slice_get (pieces program) piece ≡ Some (Parameter x) → type_declared S x ≡ Some pointer → E.meant name ≡ Kept (Some pointer)
  is_l name number piece x means here stands spelled =
      let unbroken : Unbroken (DeclarationBreaks E.structs x) = λ place rule broken. valid.known.types.kept place rule (inr (piece, Parameter x, stands, inl broken)) in
      let meant = valid.known.types.right.meant name (m.Declared number) means in
      let same : Variable x ≡ meant.0 = same_Some (Variable x) meant.0 (sym here ∙ meant.1) in
      let declared : IsDeclared S (Variable x) (E.meant name) = subst (λ d. IsDeclared S d (E.meant name)) (sym same) meant.2 in
      kept_type S x pointer (E.meant name) declared spelled
      (subst (λ structs. Unbroken (DeclarationBreaks structs x)) same_structs unbroken)

  take_l_is_kept : E.meant take_l ≡ Kept (Some pointer)
  take_l_is_kept = is_l take_l 1 1 take_parameter take_l_means refl refl refl

  test_l_is_kept : E.meant test_l ≡ Kept (Some pointer)
  test_l_is_kept = is_l test_l 1 1 take_parameter test_l_means refl refl refl

  give_l_is_kept : E.meant give_l ≡ Kept (Some pointer)
  give_l_is_kept = is_l give_l 4 5 give_parameter give_l_means refl refl refl

  first_struct : slice_get E.structs 0 ≡ Some lock_tree
  first_struct = ap (λ structs. slice_get structs 0) same_structs

  member_is : (place : ℕ) (d : DeclaredTree) → slice_get lock_tree.members place ≡ Some d → type_declared E.structs d ≡ Some word → E.member_type 0 place ≡ Some word
  member_is place d here spelled =
      declared_type E.structs (DeclarationBreaks E.structs d) (type_declared E.structs d) word (E.member_type 0 place) (valid.known.types.right.member_type 0 place lock_tree d first_struct here) spelled
      (λ at rule broken. valid.known.types.kept at rule (inl (inl (inr (0, lock_tree, first_struct, inr (place, d, here, inr broken))))))

  now_named : member_named E.structs 0 (codes "now") ≡ Some 1
  now_named = ap (λ structs. member_named structs 0 (codes "now")) same_structs

  next_named : member_named E.structs 0 (codes "next") ≡ Some 0
  next_named = ap (λ structs. member_named structs 0 (codes "next")) same_structs

  use_type : (name : Named) → E.meant name ≡ Kept (Some pointer) → type_of E (Use name) ≡ Some (Stored pointer)
  use_type name is = ap name_type is

  now_type : (name member : Named) (spot : Spot) → E.meant name ≡ Kept (Some pointer) → member.bytes ≡ codes "now" → type_of E (Through spot (Use name) member) ≡ Some (Stored word)
  now_type name member spot is bytes =
      ap (λ meant. member_type E (option_and_then struct_at (value_in (name_type meant))) member) is
      ∙ ap (λ named. option_and_then (λ place. option_map Stored (E.member_type 0 place)) (member_named E.structs 0 named)) bytes
      ∙ ap (λ place. option_and_then (λ i. option_map Stored (E.member_type 0 i)) place) now_named
      ∙ ap (option_map Stored) (member_is 1 now_member refl refl)

  -- ---- the types at tokens

  typed : (i at : ℕ) (found : Option ExpressionType) (type : ExpressionType) → slice_get (pieces_noted E (pieces program)) i ≡ Some (record { at = at; type = found }) → found ≡ Some type → HasTypeAt E program at type
  typed i at found type here is = among (pieces_noted E (pieces program)) i (record { at = at; type = Some type }) (here ∙ ap (λ o. Some (record { at = at; type = o })) is)

  take_l_typed : HasTypeAt E program 27 (Stored pointer)
  take_l_typed = typed 4 27 (type_of E (Use take_l)) (Stored pointer) refl (use_type take_l take_l_is_kept)

  test_l_typed : HasTypeAt E program 36 (Stored pointer)
  test_l_typed = typed 9 36 (type_of E (Use test_l)) (Stored pointer) refl (use_type test_l test_l_is_kept)

  give_l_typed : HasTypeAt E program 56 (Stored pointer)
  give_l_typed = typed 16 56 (type_of E (Use give_l)) (Stored pointer) refl (use_type give_l give_l_is_kept)

  abbrev test_term : Term
  test_term = Through (spot_at 37 2 82) (Use test_l) test_now

  pub test_typed : HasTypeAt E program 37 (Stored word)
  test_typed = typed 10 37 (type_of E test_term) (Stored word) refl (now_type test_l test_now (spot_at 37 2 82) test_l_is_kept refl)

  -- the call of `mpadd` in `fair_give`
  abbrev give_place : Term
  give_place = Through (spot_at 57 3 46) (Use give_l) give_now

  abbrev give_arguments : Terms
  give_arguments = also (also no_terms (Address (spot_at 55 3 44) give_place)) (Number (spot_at 60 3 53) 1 false)

  abbrev give_call : Term
  give_call = Call (spot_at 54 3 43) (Use give_mpadd) give_arguments

  mpadd_meant : E.meant give_mpadd ≡ predeclared_meant (codes "mpadd")
  mpadd_meant = valid.known.types.right.meant give_mpadd m.Predeclared give_mpadd_means

  address_type : type_of E (Address (spot_at 55 3 44) give_place) ≡ Some (Computed (Pointer (record { root = r.Unsigned; stars = 0 })))
  address_type = ap (λ o. computed (option_and_then address_of o)) (now_type give_l give_now (spot_at 57 3 46) give_l_is_kept refl)

  abbrev call_by : Meant → Option ExpressionType → Option ExpressionType
  call_by meant address =
      call_type meant 2
      ((true && does_fit (slice_get (parameters_of meant) 0) (operand_in false address)) && does_fit (slice_get (parameters_of meant) 1) (operand_in false (Some (Computed Int))))
      (either_value (either_value None (value_in address)) (value_in (Some (Computed Int))))

  give_type : type_of E give_call ≡ Some (Computed Unsigned)
  give_type = ap (λ meant. call_by meant (type_of E (Address (spot_at 55 3 44) give_place))) mpadd_meant ∙ ap (call_by (predeclared_meant (codes "mpadd"))) address_type

  pub give_typed : HasTypeAt E program 54 (Computed Unsigned)
  give_typed = typed 20 54 (type_of E give_call) (Computed Unsigned) refl give_type

  -- ---- the bindings at tokens

  bound : (at number : ℕ) → at ≤ 63 → IsBound E program at number → (note T at).binding ≡ number
  bound at number small is = binding_is program facts valid at number (omega (arith, small, low)) is

  refers_by : (i at number : ℕ) (x : ReferenceTree) → at ≤ 63 → slice_get (pieces_references (pieces program)) i ≡ Some x → token_of x ≡ at → Refers E program x number → (note T at).binding ≡ number
  refers_by i at number x small here token is = bound at number small (b.refers x number (among (pieces_references (pieces program)) i x here) token is)

  pub take_mpadd_bound : (note T 24).binding ≡ 2 ^ 32 - 1
  take_mpadd_bound = refers_by 0 24 (2 ^ 32 - 1) (Name take_mpadd) (omega arith) refl refl (b.predeclared take_mpadd take_mpadd_means)

  pub take_l_bound : (note T 27).binding ≡ 1
  take_l_bound = refers_by 1 27 1 (Name take_l) (omega arith) refl refl (b.declared take_l 1 take_l_means)

  pub take_next_bound : (note T 29).binding ≡ 0
  take_next_bound = refers_by 2 29 0 (Member 27 true take_next) (omega arith) refl refl
      (b.member 27 true take_next (Stored pointer) 0 0 0 take_l_typed refl next_named (lock_tree, first_struct, omega arith, (0, refl)))

  pub test_l_bound : (note T 36).binding ≡ 1
  test_l_bound = refers_by 3 36 1 (Name test_l) (omega arith) refl refl (b.declared test_l 1 test_l_means)

  pub test_now_bound : (note T 38).binding ≡ 1
  test_now_bound = refers_by 4 38 1 (Member 36 true test_now) (omega arith) refl refl
      (b.member 36 true test_now (Stored pointer) 0 1 1 test_l_typed refl now_named (lock_tree, first_struct, omega arith, (0, refl)))

  pub test_t_bound : (note T 40).binding ≡ 2
  test_t_bound = refers_by 5 40 2 (Name test_t) (omega arith) refl refl (b.declared test_t 2 test_t_means)

  pub give_mpadd_bound : (note T 53).binding ≡ 2 ^ 32 - 1
  give_mpadd_bound = refers_by 6 53 (2 ^ 32 - 1) (Name give_mpadd) (omega arith) refl refl (b.predeclared give_mpadd give_mpadd_means)

  pub give_l_bound : (note T 56).binding ≡ 4
  give_l_bound = refers_by 7 56 4 (Name give_l) (omega arith) refl refl (b.declared give_l 4 give_l_means)

  pub give_now_bound : (note T 58).binding ≡ 1
  give_now_bound = refers_by 8 58 1 (Member 56 true give_now) (omega arith) refl refl
      (b.member 56 true give_now (Stored pointer) 0 1 1 give_l_typed refl now_named (lock_tree, first_struct, omega arith, (0, refl)))

  pub ticket_bound : (note T 22).binding ≡ 2
  ticket_bound = bound 22 2 (omega arith) (b.declares (Variable take_ticket) 3 3 refl refl refl)

  -- the headers of the two functions

  pub take_bound : (note T 12).binding ≡ 0
  take_bound = bound 12 0 (omega arith) (b.declares (Header lock_take) 0 0 refl refl (inl (record { body = (refl, refl); first = λ k less. absurd (omega (arith, less)) })))

  abbrev NotGive : ℕ → Type 0
  NotGive k = HasBodyAt (outline program) (codes "fair_give") k → ⊥

  none_before : EachBelow NotGive 11
  none_before = (((((((((((tt, λ h. differ (codes "fair_take") (codes "fair_give") refl h.0), λ h. h), λ h. h), λ h. h), λ h. h), λ h. h), λ h. h), λ h. h), λ h. h), λ h. h), λ h. h)

  pub give_bound : (note T 45).binding ≡ 3
  give_bound = bound 45 3 (omega arith) (b.declares (Header lock_give) 11 11 refl refl (inl (record { body = (refl, refl); first = λ k less. below NotGive 11 none_before k less })))
