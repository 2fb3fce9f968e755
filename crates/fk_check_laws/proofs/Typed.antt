-- An expression that breaks no rule has a type, where its parts have one and its names are typed.
use Rattle.std.proofs.Common.{◌≡◌, inl, inr, ℕ, zero, suc, ◌≤◌, Bool, true, false, not, ◌&&◌, List, ◌∷◌, length, nat_eq, Option, Some, None, slice_get, refl, sym, ap, subst, ◌∙◌, arith}
use Rattle.std.specs.Prelude.{is_some, is_none, if◌then◌else◌}
use Rattle.std.specs.Option.{option_map, option_and_then}
use Rattle.std.proofs.lemmas.Bool.{false≢true, true_from_ne_false, and_from, and_parts, eqb-true, ne_eqb}
use Rattle.fk_syntax.specs.declared.place.Place.{Place}
use Rattle.fk_syntax.specs.declared.place.Spot.{Spot}
use Rattle.fk_syntax.specs.declared.sign.Sign.{Sign}
use Rattle.fk_syntax.specs.declared.sign.Sign.TheVariants as s
use Rattle.fk_syntax.specs.Tree as t
use Rattle.fk_syntax.specs.Tree.{Named, BaseType, TypeTree}
use Rattle.fk_check_rules.specs.declared.rule.Rule.{Rule}
use Rattle.fk_check_rules.specs.declared.rule.Rule.TheVariants as rules
use Rattle.fk_check_rules.specs.Least.{Breaks, only}
use Rattle.fk_types_struct_rules.specs.Declarations.{NamesNoStruct, SizeofBreaks}
use Rattle.fk_types_structs.specs.declared.types.Root.{Root}
use Rattle.fk_types_structs.specs.declared.types.Root.TheVariants as r
use Rattle.fk_types_structs.specs.declared.types.DataType.{DataType}
use Rattle.fk_types_structs.specs.Types.{StructTree, type_spelled, member_named, struct_named}
use Rattle.fk_types_operators.specs.declared.values.Value.{Value}
use Rattle.fk_types_operators.specs.declared.values.Value.TheVariants.{Int, Unsigned, Pointer}
use Rattle.fk_types_operators.specs.declared.values.Operand.{Operand}
use Rattle.fk_types_operators.specs.declared.values.ExpressionType.{ExpressionType}
use Rattle.fk_types_operators.specs.declared.values.ExpressionType.TheVariants.{Stored, Computed, Nothing}
use Rattle.fk_types_operators.specs.Values.{value_of, is_array, address_of}
use Rattle.fk_types_operators.specs.Signs.{is_void, is_integer, prefixed, counted, chosen}
use Rattle.fk_types_judgments.specs.Term as e
use Rattle.fk_types_judgments.specs.Term.{Term, Terms, no_terms, also, count_of}
use Rattle.fk_types_judgments.specs.Names.{Env, Parameter, Words, Result, Always, Pointed, Meant, Kept, Constant, Called, Main, Undeclared}
use Rattle.fk_types_judgments.specs.Typing.{type_of, value_in, operand_in, computed, of_both, is_zero, name_type, is_constant, pointed, element, left_of, last_of, is_no_target, counted_type, member_place, member_type, does_assign, assigned, branched, is_no_value_base, cast_type, sizeof_type, does_take, does_fit, do_all_fit, first_value, either_value, result_in, call_type, parameters_of, word_at}
use Rattle.fk_types_judgments.specs.Broken.{where_so, ArgumentsBreak, is_such, is_no_value, is_struct, is_not_counted, is_no_pointer, is_no_integer, is_not_assigned, is_function, is_no_function, is_wrong_count, is_undeclared, is_main, is_not_taken, are_refused}

-- nothing is broken
abbrev pub Unbroken : Breaks → Type 0
Unbroken breaks = (place : Place) (rule : Rule) → breaks place rule → ⊥

-- there is something
abbrev pub There : {X : Type 0} → Option X → Type 0
There o = o ≡ None → ⊥

abbrev pub Not : Bool → Type 0
Not b = b ≡ true → ⊥

-- a test that isn't broken
pub so_not : (rule : Rule) (place : Place) (holds : Bool) → Unbroken (where_so rule place holds) → Not holds
so_not rule place holds un is = un place rule (refl, (is, refl))

pub there : {X : Type 0} (o : Option X) → Not (is_none o) → There o
there o some e = some (ap is_none e)

mapped : {X Y : Type 0} (f : X → Y) (o : Option X) → There o → There (option_map f o)
mapped f None some e = some refl
mapped f (Some x) some e = cc

computes : (o : Option Value) → Not (is_none o) → There (computed o)
computes o some = mapped Computed o (there o some)

-- ---- what each form makes of the types of its parts

pub value_there : (T : Option ExpressionType) → There T → Not (is_such is_no_value T) → There (value_in T)
value_there None some un e = some refl
value_there (Some x) some un e = un (ap is_none e)

pub operand_there : (zero : Bool) (T : Option ExpressionType) → There (value_in T) → There (operand_in zero T)
operand_there z T some = mapped (λ (v : Value). let o : Operand = record { value = v; is_zero = z } in o) (value_in T) some

pub prefix_there : (sign : Sign) (V : Option Value) → There V → Not (is_such (λ v. is_none (prefixed sign v)) V) → There (computed (option_and_then (prefixed sign) V))
prefix_there sign None some un e = some refl
prefix_there sign (Some v) some un e = computes (prefixed sign v) un e

pub pointed_there : (V : Option Value) → There V → Not (is_such is_no_pointer V) → There (option_and_then pointed V)
pointed_there None some un e = some refl
pointed_there (Some v) some un e = un (ap is_none e)

pub both_there : (f : Operand → Operand → Option Value) (A B : Option Operand) → There A → There B → Not (are_refused f A B) → There (computed (of_both f A B))
both_there f None B a b un e = a refl
both_there f (Some x) None a b un e = b refl
both_there f (Some x) (Some y) a b un e = computes (f x y) un e

pub comma_there : (L R : Option ExpressionType) → There L → There R → Not (is_such is_struct L) → Not (is_such is_struct R) → There (last_of L R)
comma_there None R a b u v e = a refl
comma_there (Some l) None a b u v e = b refl
comma_there (Some l) (Some r) a b u v e = by (left_of l) (left_of r) u v e
  where
    by : (o p : Option ExpressionType) → Not (is_none o) → Not (is_none p) → There (if is_some o then p else None)
    by None p u v e = u refl
    by (Some x) p u v e = v (ap is_none e)

pub element_there : (W B : Option Value) → There W → There B → Not (is_such is_no_pointer W) → Not (is_such is_no_integer B) → There (element W B)
element_there None B a b u v e = a refl
element_there (Some w) None a b u v e = b refl
element_there (Some w) (Some y) a b u v e = by (is_integer y) (pointed w) v u e
  where
    by : (i : Bool) (o : Option ExpressionType) → Not (not i) → Not (is_none o) → There (if i then o else None)
    by false o i u e = i refl
    by true o i u e = u (ap is_none e)

pub counted_there : (none : Bool) (T : Option ExpressionType) → Not none → There T → Not (is_such is_array T) → Not (is_such is_not_counted T)
    → There (if none then None else option_and_then counted_type T)
counted_there true T n a u v e = n refl
counted_there false None n a u v e = a refl
counted_there false (Some x) n a u v e = by (is_array x) (option_and_then counted (value_of x)) u v e
  where
    by : (b : Bool) (o : Option Value) → Not b → Not (not b && is_none o) → There (if b then None else computed o)
    by true o u v e = u refl
    by false o u v e = computes o v e

pub assigned_there : (none : Bool) (sign : Sign) (T : Option ExpressionType) (A : Option Operand) → Not none → There T → There A
    → Not (is_such is_array T) → Not (is_not_assigned sign T A) → There (if none then None else assigned sign T A)
assigned_there true sign T A n a b u v e = n refl
assigned_there false sign None A n a b u v e = a refl
assigned_there false sign (Some x) None n a b u v e = b refl
assigned_there false sign (Some x) (Some y) n a b u v e = by (is_array x) (value_of x) u v e
  where
    none : (sign : Sign) → does_assign sign None y ≡ false
    none s.Assign = refl
    none sign = refl

    held : (w : Value) (d : Bool) → Not (not d) → There (if d then computed (Some w) else None)
    held w true v e = cc
    held w false v e = v refl

    by : (b : Bool) (V : Option Value) → Not b → Not (not b && not (does_assign sign V y)) → There (if not b && does_assign sign V y then computed V else None)
    by true V u v e = u refl
    by false None u v e = v (ap not (none sign))
    by false (Some w) u v e = held w (does_assign sign (Some w) y) v e

pub chosen_there : (C : Option Value) (A B : Option Operand) → There C → There A → There B → Not (are_refused chosen A B) → There (branched C A B)
chosen_there None A B c a b un e = c refl
chosen_there (Some x) A B c a b un e = both_there chosen A B a b un e

module _ (structs : List StructTree) where
  pub cast_there : (base : BaseType) (stars : ℕ) (V : Option Value) → There V → Unbroken (only rules.NoStruct (NamesNoStruct structs (record { base = base; stars = stars })))
      → Not (is_no_value_base base && nat_eq stars 0) → There (cast_type (type_spelled structs (record { base = base; stars = stars }) None) V)
  cast_there base stars None a u v e = a refl
  cast_there t.Int zero (Some x) a u v e = cc
  cast_there t.Int (suc n) (Some x) a u v e = cc
  cast_there t.Unsigned zero (Some x) a u v e = cc
  cast_there t.Unsigned (suc n) (Some x) a u v e = cc
  cast_there t.Void zero (Some x) a u v e = v refl
  cast_there t.Void (suc n) (Some x) a u v e = cc
  cast_there (t.Struct name) stars (Some x) a u v e = by (struct_named structs name.bytes) refl stars u v e
    where
      by : (o : Option ℕ) → struct_named structs name.bytes ≡ o → (stars : ℕ) → Unbroken (only rules.NoStruct (NamesNoStruct structs (record { base = t.Struct name; stars = stars })))
          → Not (nat_eq stars 0)
          → There (cast_type (option_map (λ (root : Root). record { root = root; stars = stars; length = None }) (option_map r.Struct o)) (Some x))
      by None is stars u v e = u name.place rules.NoStruct (refl, (name, refl, is, refl))
      by (Some i) is zero u v e = v refl
      by (Some i) is (suc n) u v e = cc

  pub sizeof_there : (base : BaseType) (stars : ℕ) (here : Place) → Unbroken (SizeofBreaks structs (record { base = base; stars = stars }) here)
      → There (sizeof_type (type_spelled structs (record { base = base; stars = stars }) None))
  sizeof_there t.Int stars here u e = cc
  sizeof_there t.Unsigned stars here u e = cc
  sizeof_there t.Void zero here u e = u here rules.NoVariable (inr (refl, ((refl, refl), refl)))
  sizeof_there t.Void (suc n) here u e = by (nat_eq (suc n) 0) (ne_eqb (suc n) 0 (λ same. omega (arith, same))) e
    where
      by : (b : Bool) → b ≡ false → There (if b then None else Some (Computed Unsigned))
      by true is e = false≢true (sym is)
      by false is e = cc
  sizeof_there (t.Struct name) stars here u e = by (struct_named structs name.bytes) refl e
    where
      by : (o : Option ℕ) → struct_named structs name.bytes ≡ o
          → There (sizeof_type (option_map (λ (root : Root). record { root = root; stars = stars; length = None }) (option_map r.Struct o)))
      by None is e = u name.place rules.NoStruct (inl (refl, (name, refl, is, refl)))
      by (Some i) is e = cc

-- ---- names, calls and members

-- a name is typed, and a call of it gives something
abbrev pub IsGood : Meant → Type 0
IsGood (Kept None) = ⊥
IsGood (Kept (Some type)) = Unit {0}
IsGood (Constant value) = Unit {0}
IsGood (Called parameters (Always None)) = ⊥
IsGood (Called parameters (Always (Some type))) = Unit {0}
IsGood (Called parameters Pointed) = (others : List Parameter) × (parameters ≡ Words ∷ others)
IsGood Main = Unit {0}
IsGood Undeclared = Unit {0}

pub name_there : (m : Meant) → IsGood m → Not (is_undeclared m) → Not (is_function m) → There (name_type m)
name_there (Kept None) good u f e = good
name_there (Kept (Some type)) good u f e = cc
name_there (Constant value) good u f e = cc
name_there (Called parameters result) good u f e = f refl
name_there Main good u f e = f refl
name_there Undeclared good u f e = u refl

module _ (env : Env) where
  abbrev pub Typed : Term → Type 0
  Typed term = There (type_of env term)

  -- what is stored may be pointed to
  abbrev IsStored : Option ExpressionType → Type 0
  IsStored None = Unit {0}
  IsStored (Some (Stored type)) = Unit {0}
  IsStored (Some (Computed value)) = ⊥
  IsStored (Some Nothing) = ⊥

  then_stored : {X : Type 0} (f : X → Option ExpressionType) → ((x : X) → IsStored (f x)) → (o : Option X) → IsStored (option_and_then f o)
  then_stored f all None = tt
  then_stored f all (Some x) = all x

  if_stored : (b : Bool) (type : DataType) → IsStored (if b then None else Some (Stored type))
  if_stored true type = tt
  if_stored false type = tt

  map_stored : (o : Option DataType) → IsStored (option_map Stored o)
  map_stored None = tt
  map_stored (Some type) = tt

  pointed_stored : (v : Value) → IsStored (pointed v)
  pointed_stored Int = tt
  pointed_stored Unsigned = tt
  pointed_stored (Pointer x) = if_stored (is_void x) _

  element_stored : (W B : Option Value) → IsStored (element W B)
  element_stored None B = tt
  element_stored (Some w) None = tt
  element_stored (Some w) (Some y) = by (is_integer y)
    where
      by : (b : Bool) → IsStored (if b then pointed w else None)
      by true = pointed_stored w
      by false = tt

  member_stored : (index : Option ℕ) (member : Named) → IsStored (member_type env index member)
  member_stored index member = then_stored _ (λ i. then_stored _ (λ place. map_stored (env.member_type i place)) (member_named env.structs i member.bytes)) index

  name_stored : (m : Meant) → Not (is_constant m) → IsStored (name_type m)
  name_stored (Kept type) un = map_stored type
  name_stored (Constant value) un = absurd (un refl)
  name_stored (Called parameters result) un = tt
  name_stored Main un = tt
  name_stored Undeclared un = tt

  stored : (term : Term) → Not (is_no_target env term) → IsStored (type_of env term)
  stored (e.Use name) un = name_stored (env.meant name) un
  stored (e.Dereference spot pointer) un = then_stored pointed pointed_stored (value_in (type_of env pointer))
  stored (e.Index spot whole by) un = element_stored (value_in (type_of env whole)) (value_in (type_of env by))
  stored (e.Member spot whole member) un = member_stored _ member
  stored (e.Through spot pointer member) un = member_stored _ member
  stored term un = absurd (un refl)

  pub address_there : (none : Bool) (T : Option ExpressionType) → Not none → There T → IsStored T → There (if none then None else computed (option_and_then address_of T))
  address_there true T n a is e = n refl
  address_there false None n a is e = a refl
  address_there false (Some (Stored type)) n a is e = cc
  address_there false (Some (Computed value)) n a is e = is
  address_there false (Some Nothing) n a is e = is

  pub addressed : (spot : Spot) (place : Term) → Not (is_no_target env place) → Typed place → Typed (e.Address spot place)
  addressed spot place un some = address_there (is_no_target env place) (type_of env place) un some (stored place un)

  -- the members of structs are typed
  abbrev pub MembersTyped : Type 0
  MembersTyped = (index place : ℕ) (bytes : List ℕ) → member_named env.structs index bytes ≡ Some place → There (env.member_type index place)

  pub member_there : MembersTyped → (index : Option ℕ) (member : Named) → Not (is_none (member_place env index member)) → There (member_type env index member)
  member_there all None member un e = un refl
  member_there all (Some i) member un e = by (member_named env.structs i member.bytes) refl un e
    where
      by : (o : Option ℕ) → member_named env.structs i member.bytes ≡ o → Not (is_none o) → There (option_and_then (λ place. option_map Stored (env.member_type i place)) o)
      by None is un e = un refl
      by (Some place) is un e = mapped Stored (env.member_type i place) (all i place member.bytes is) e

  -- arguments
  abbrev pub AllTyped : Terms → Type 0
  AllTyped no_terms = Unit {0}
  AllTyped (also before last) = AllTyped before × There (value_in (type_of env last))

  fit_one : (p : Option Parameter) (A : Option Operand) → There A → Not (is_not_taken p A) → does_fit p A ≡ true
  fit_one p None a un = absurd (a refl)
  fit_one None (Some x) a un = refl
  fit_one (Some p) (Some x) a un = true_from_ne_false (does_take p x) (λ is. un (ap not is))

  fit_all : (parameters : List Parameter) (args : Terms) → Unbroken (ArgumentsBreak env parameters args) → AllTyped args → do_all_fit env parameters args ≡ true
  fit_all parameters no_terms un h = refl
  fit_all parameters (also before last) un h = and_from (do_all_fit env parameters before) _
      (fit_all parameters before (λ place rule b. un place rule (inl b)) h.0)
      (fit_one (slice_get parameters (count_of before)) (operand_in (is_zero last) (type_of env last)) (operand_there (is_zero last) (type_of env last) h.1)
      (so_not rules.NoConversion (e.first_place last) _ (λ place rule b. un place rule (inr (inr b)))))

  first_word : (others : List Parameter) (args : Terms) → do_all_fit env (Words ∷ others) args ≡ true → 1 ≤ count_of args
      → (v : Value) × (first_value env args ≡ Some v) × (is_some (word_at v) ≡ true)
  first_word others no_terms fit some = absurd (omega (arith, some))
  first_word others (also no_terms last) fit some = by (value_in (type_of env last)) (and_parts true _ fit).1
    where
      by : (V : Option Value) → does_fit (Some Words) (option_map (λ (v : Value). let o : Operand = record { value = v; is_zero = is_zero last } in o) V) ≡ true
          → (v : Value) × (either_value None V ≡ Some v) × (is_some (word_at v) ≡ true)
      by None fit = absurd (false≢true fit)
      by (Some v) fit = (v, refl, fit)
  first_word others (also (also before mid) last) fit some =
      let first = first_word others (also before mid) (and_parts (do_all_fit env (Words ∷ others) (also before mid)) _ fit).0 (omega arith) in
      (first.0, ap (λ V. either_value V (value_in (type_of env last))) first.1, first.2)

  word_there : (F : Option Value) (v : Value) → F ≡ Some v → is_some (word_at v) ≡ true → There (computed (option_and_then word_at F))
  word_there None v is some e = cc
  word_there (Some w) v is some e = mapped Computed (word_at w) (λ none. false≢true (sym (ap is_some none) ∙ subst (λ x. is_some (word_at x) ≡ true) (sym same) some)) e
    where
      same : w ≡ v
      same = cc

  pub call_there : (m : Meant) → IsGood m → (args : Terms) → Not (is_undeclared m) → Not (is_main m) → Not (is_no_function m) → Not (is_wrong_count m (count_of args))
      → Unbroken (ArgumentsBreak env (parameters_of m) args) → AllTyped args
      → There (call_type m (count_of args) (do_all_fit env (parameters_of m) args) (first_value env args))
  call_there (Kept None) good args u w f c un h e = good
  call_there (Kept (Some type)) good args u w f c un h e = f refl
  call_there (Constant value) good args u w f c un h e = f refl
  call_there Main good args u w f c un h e = w refl
  call_there Undeclared good args u w f c un h e = u refl
  call_there (Called parameters result) good args u w f c un h e = by result good (nat_eq (count_of args) (length parameters)) refl (do_all_fit env parameters args) refl e
    where
      gives : (result : Result) → IsGood (Called parameters result) → do_all_fit env parameters args ≡ true → nat_eq (count_of args) (length parameters) ≡ true → There (result_in result (first_value env args))
      gives (Always None) good fit same e = good
      gives (Always (Some type)) good fit same e = cc
      gives Pointed good fit same e =
          let many : count_of args ≡ length parameters = eqb-true (count_of args) (length parameters) same in
          let word = first_word good.0 args (subst (λ ps. do_all_fit env ps args ≡ true) good.1 fit) (omega (arith, many, ap length good.1)) in
          word_there (first_value env args) word.0 word.1 word.2 e

      by : (result : Result) → IsGood (Called parameters result) → (same : Bool) → nat_eq (count_of args) (length parameters) ≡ same → (fit : Bool) → do_all_fit env parameters args ≡ fit
          → There (if same && fit then result_in result (first_value env args) else None)
      by result good false is fit has e = c (ap not is)
      by result good true is false has e = false≢true (sym has ∙ fit_all parameters args un h)
      by result good true is true has e = gives result good has is e
