-- An expression that has a type is as it is asked, and stands by its type.
use Rattle.std.proofs.Common.{◌≡◌, ℕ, Bool, true, false, List, length, nat_eq, Option, Some, None, slice_get, refl, sym, ap, ◌∙◌, subst}
use Rattle.std.specs.Prelude.{not, ◌&&◌, is_some, if◌then◌else◌}
use Rattle.std.specs.Option.{option_map, option_and_then}
use Rattle.std.proofs.lemmas.Bool.{false≢true, and_parts}
use Rattle.std.proofs.lemmas.Option.{same_Some}
use Rattle.fk_syntax.specs.declared.place.Spot.{Spot}
use Rattle.fk_syntax.specs.declared.sign.Sign.{Sign}
use Rattle.fk_syntax.specs.declared.sign.Sign.TheVariants as g
use Rattle.fk_syntax.specs.Tree as t
use Rattle.fk_syntax.specs.Tree.{Named, Tree, Links, Trees, Suffixes}
use Rattle.fk_types_structs.specs.declared.types.DataType.{DataType}
use Rattle.fk_types_structs.specs.Types.{type_spelled, member_named}
use Rattle.fk_types_operators.specs.declared.values.Value.{Value}
use Rattle.fk_types_operators.specs.declared.values.Value.TheVariants.{Int, Unsigned, Pointer}
use Rattle.fk_types_operators.specs.declared.values.Operand.{Operand}
use Rattle.fk_types_operators.specs.declared.values.ExpressionType.{ExpressionType}
use Rattle.fk_types_operators.specs.declared.values.ExpressionType.TheVariants.{Stored, Computed, Nothing}
use Rattle.fk_types_operators.specs.Values.{target, value_of, value_stored, is_array, address_of}
use Rattle.fk_types_operators.specs.Signs.{is_void as is_void_target, is_integer, binary, prefixed, counted, chosen}
use Rattle.fk_types_judgments.specs.Term as e
use Rattle.fk_types_judgments.specs.Term.{Term, Terms, no_terms, also, count_of, term_of, with_links, with_suffixes, with_arguments, joined_term, prefix_term}
use Rattle.fk_types_judgments.specs.Names.{Env, Meant, Kept, Constant as Known', Called, Main, Undeclared, Parameter}
use Rattle.fk_types_judgments.specs.Typing.{type_of, value_in, operand_in, computed, of_both, is_zero, is_no_target, is_constant, name_type, left_of, last_of, sizeof_type, cast_type, pointed, element, struct_of, struct_of_root, struct_at, member_type, assigned, does_assign, counted_type, branched, call_type, called_as, parameters_of, does_fit, do_all_fit, first_value}
use Rattle.fk_meaning_forms.specs.Tables.{Tables}
use Rattle.fk_meaning_forms.specs.Expressions.{Signature, token}
use Rattle.fk_core_liveness.specs.declared.places.FunctionKind.{FunctionKind}
use Rattle.fk_lower_laws.specs.Ways.{Way, Valued, Absent, Unchecked, Constant, Array, Word, Function, gives, result, prefix_way, joined_way, behind_member, called_way, dotted_way, way, chain_way, suffixed_way}
use Rattle.fk_lockstep_frames.specs.Nests.{Nest}
use Rattle.fk_core_typing.specs.declared.constants.Constant.{Constant as Address}
use Rattle.fk_core_typing.specs.AddressValues.{is_address}
use Rattle.fk_lower_laws.specs.Asked.{IsTarget, HasAddress, PrefixAsks, DotAsks, JoinAsks, CallAsks, Asked, LinksAsked, SuffixesAsked, AllAsked}
use Rattle.fk_lower_laws.specs.Typed.{IsNothing, IsWayOf, CommaIs, IsNoWord, PrefixIs, MemberIs, Known, LinksKnown, SuffixesKnown, AllKnown, TypedIsAsked}

-- ---- what is there where something made of it is

then_some : {X Y : Type 0} (f : X → Option Y) (o : Option X) (y : Y) → option_and_then f o ≡ Some y → (x : X) × (o ≡ Some x) × (f x ≡ Some y)
then_some f None y h = absurd (cc)
then_some f (Some x) y h = (x, refl, h)

map_some : {X Y : Type 0} (f : X → Y) (o : Option X) (y : Y) → option_map f o ≡ Some y → (x : X) × (o ≡ Some x) × (f x ≡ y)
map_some f None y h = absurd (cc)
map_some f (Some x) y h = (x, refl, cc)

if_none : {X : Type 0} (b : Bool) (o : Option X) (y : X) → (if b then None else o) ≡ Some y → (b ≡ false) × (o ≡ Some y)
if_none true o y h = absurd (cc)
if_none false o y h = (refl, h)

if_some : {X : Type 0} (b : Bool) (o : Option X) (y : X) → (if b then o else None) ≡ Some y → (b ≡ true) × (o ≡ Some y)
if_some true o y h = (refl, h)
if_some false o y h = absurd (cc)

both_some : (f : Operand → Operand → Option Value) (A B : Option Operand) (v : Value) → of_both f A B ≡ Some v → (a : Operand) × (b : Operand) × (A ≡ Some a) × (B ≡ Some b)
both_some f None B v h = absurd (cc)
both_some f (Some a) None v h = absurd (cc)
both_some f (Some a) (Some b) v h = (a, b, refl, refl)

cast_some : (D : Option DataType) (V : Option Value) (T : ExpressionType) → cast_type D V ≡ Some T → (v : Value) × (V ≡ Some v) × (u : Value) × (Computed u ≡ T)
cast_some None V T h = absurd (cc)
cast_some (Some d) None T h = absurd (cc)
cast_some (Some d) (Some v) T h = let c = map_some Computed (value_stored d) T h in (v, refl, c.0, c.2)

last_some : (L R : Option ExpressionType) (T : ExpressionType) → last_of L R ≡ Some T → (l : ExpressionType) × (r : ExpressionType) × (L ≡ Some l) × (R ≡ Some r) × (left_of r ≡ Some T) × (is_some (left_of l) ≡ true)
last_some None R T h = absurd (cc)
last_some (Some l) None T h = absurd (cc)
last_some (Some l) (Some r) T h = let i = if_some (is_some (left_of l)) (left_of r) T h in (l, r, refl, refl, i.1, i.0)

element_some : (W B : Option Value) (T : ExpressionType) → element W B ≡ Some T → (v : Value) × (u : Value) × (W ≡ Some v) × (B ≡ Some u) × (pointed v ≡ Some T)
element_some None B T h = absurd (cc)
element_some (Some v) None T h = absurd (cc)
element_some (Some v) (Some u) T h = (v, u, refl, refl, (if_some (is_integer u) (pointed v) T h).1)

assigned_some : (sign : Sign) (L : Option ExpressionType) (A : Option Operand) (T : ExpressionType) → assigned sign L A ≡ Some T
    → (l : ExpressionType) × (a : Operand) × (L ≡ Some l) × (A ≡ Some a) × (is_array l ≡ false) × (v : Value) × (Computed v ≡ T)
assigned_some sign None A T h = absurd (cc)
assigned_some sign (Some l) None T h = absurd (cc)
assigned_some sign (Some l) (Some a) T h =
    let i = if_some (not (is_array l) && does_assign sign (value_of l) a) (computed (value_of l)) T h in
    let c = map_some Computed (value_of l) T i.1 in
    (l, a, refl, refl, no (is_array l) (and_parts (not (is_array l)) _ i.0).0, c.0, c.2)
  where
    no : (b : Bool) → not b ≡ true → b ≡ false
    no true h = absurd (false≢true h)
    no false h = refl

branched_some : (C : Option Value) (A B : Option Operand) (T : ExpressionType) → branched C A B ≡ Some T
    → (c : Value) × (a : Operand) × (b : Operand) × (C ≡ Some c) × (A ≡ Some a) × (B ≡ Some b) × (v : Value) × (Computed v ≡ T)
branched_some None A B T h = absurd (cc)
branched_some (Some c) A B T h =
    let m = map_some Computed (of_both chosen A B) T h in
    let p = both_some chosen A B m.0 m.1 in
    (c, p.0, p.1, refl, p.2, p.3, m.0, m.2)

call_some : (m : Meant) (count : ℕ) (fit : Bool) (first : Option Value) (T : ExpressionType) → call_type m count fit first ≡ Some T → fit ≡ true
call_some (Called parameters result') count fit first T h =
    (and_parts (nat_eq count (length parameters)) fit (if_some (nat_eq count (length parameters) && fit) _ T h).0).1
call_some (Kept type) count fit first T h = absurd (cc)
call_some (Known' value) count fit first T h = absurd (cc)
call_some Main count fit first T h = absurd (cc)
call_some Undeclared count fit first T h = absurd (cc)

operand_some : (is : Bool) (T : Option ExpressionType) (a : Operand) → operand_in is T ≡ Some a → (v : Value) × (value_in T ≡ Some v)
operand_some is T a h = let m = map_some _ (value_in T) a h in (m.0, m.1)

sizeof_some : (D : Option DataType) (T : ExpressionType) → sizeof_type D ≡ Some T → Computed Unsigned ≡ T
sizeof_some None T h = absurd (cc)
sizeof_some (Some d) T h = same_Some _ _ (if_none (is_void_target (target d.root d.stars)) (Some (Computed Unsigned)) T h).1

fits_value : (p : Option Parameter) (A : Option Operand) → does_fit p A ≡ true → (a : Operand) × (A ≡ Some a)
fits_value p (Some a) h = (a, refl)
fits_value None None h = absurd (false≢true h)
fits_value (Some p) None h = absurd (false≢true h)

-- ---- what is stored

abbrev IsStored : ExpressionType → Type 0
IsStored (Stored type) = Unit {0}
IsStored type = ⊥

map_stored : (o : Option DataType) (T : ExpressionType) → option_map Stored o ≡ Some T → IsStored T
map_stored o T h = let m = map_some Stored o T h in subst IsStored m.2 tt

pointed_stored : (v : Value) (T : ExpressionType) → pointed v ≡ Some T → IsStored T
pointed_stored Int T h = absurd (cc)
pointed_stored Unsigned T h = absurd (cc)
pointed_stored (Pointer x) T h = subst IsStored (same_Some _ _ (if_none (is_void_target x) _ T h).1) tt

member_stored : (env : Env) (index : Option ℕ) (member : Named) (T : ExpressionType) → member_type env index member ≡ Some T → IsStored T
member_stored env index member T h =
    let a = then_some (λ i. option_and_then (λ place. option_map Stored (env.member_type i place)) (member_named env.structs i member.bytes)) index T h in
    let b = then_some (λ place. option_map Stored (env.member_type a.0 place)) (member_named env.structs a.0 member.bytes) T a.2 in
    map_stored (env.member_type a.0 b.0) T b.2

name_stored : (m : Meant) (T : ExpressionType) → is_constant m ≡ false → name_type m ≡ Some T → IsStored T
name_stored (Kept type) T n h = map_stored type T h
name_stored (Known' value) T n h = absurd (false≢true (sym n))
name_stored (Called parameters result') T n h = absurd (cc)
name_stored Main T n h = absurd (cc)
name_stored Undeclared T n h = absurd (cc)

target_stored : (env : Env) (term : Term) (T : ExpressionType) → is_no_target env term ≡ false → type_of env term ≡ Some T → IsStored T
target_stored env (e.Use name) T n h = name_stored (env.meant name) T n h
target_stored env (e.Dereference spot pointer) T n h = let a = then_some pointed (value_in (type_of env pointer)) T h in pointed_stored a.0 T a.2
target_stored env (e.Index spot whole by) T n h = let a = element_some (value_in (type_of env whole)) (value_in (type_of env by)) T h in pointed_stored a.0 T a.4
target_stored env (e.Member spot whole member) T n h = member_stored env _ member T h
target_stored env (e.Through spot pointer member) T n h = member_stored env _ member T h
target_stored env term T n h = absurd (false≢true (sym n))

-- what is called is a name
abbrev pub is_use : Term → Bool
is_use (e.Use name) = true
is_use term = false

pub uncalled : (env : Env) (before : Term) (T : Option ExpressionType) (count : ℕ) (fit : Bool) (first : Option Value) (U : ExpressionType) → is_use before ≡ false
    → call_type (called_as env before T) count fit first ≡ Some U → ⊥
uncalled env (e.Use name) T count fit first U n h = false≢true (sym n)
uncalled env before None count fit first U n h = cc
uncalled env before (Some type) count fit first U n h = cc

module _ (Room : Address → DataType → Type 0) where
  stands_unchecked : (T : ExpressionType) → IsStored T → IsWayOf Room Unchecked T
  stands_unchecked (Stored type) s = tt
  stands_unchecked (Computed value) s = absurd s
  stands_unchecked Nothing s = absurd s

  stands_valued : (v : Value) (T : ExpressionType) → Computed v ≡ T → IsWayOf Room Valued T
  stands_valued v T h = subst (IsWayOf Room Valued) h tt

  pub gives_value : (w : Way) (T : ExpressionType) (v : Value) → value_of T ≡ Some v → IsWayOf Room w T → gives w ≡ true
  gives_value Absent Nothing v h s = absurd (cc)
  gives_value Absent (Stored type) v h s = absurd s
  gives_value Absent (Computed value) v h s = absurd s
  gives_value (Function name) T v h s = absurd s
  gives_value w T v h s = refl

  pub gives_by : (w : Way) (T : ExpressionType) → IsWayOf Room w T → gives w ≡ not (IsNothing T)
  gives_by Valued (Computed value) s = refl
  gives_by Absent Nothing s = refl
  gives_by Unchecked (Stored type) s = refl
  gives_by (Constant address) (Stored type) s = refl
  gives_by Array (Stored type) s = refl
  gives_by Word (Stored type) s = refl
  gives_by w T s = absurd s

  is_target : (w : Way) (T : ExpressionType) → IsStored T → is_array T ≡ false → IsWayOf Room w T → IsTarget w
  is_target Unchecked T i n s = tt
  is_target (Constant address) T i n s = tt
  is_target Word T i n s = tt
  is_target Array (Stored type) i n s = absurd (false≢true (sym n ∙ s))
  is_target Valued (Stored type) i n s = absurd s
  is_target Absent (Stored type) i n s = absurd s
  is_target (Function name) (Stored type) i n s = absurd s
  is_target w T i n s = absurd i

  has_address : (w : Way) (T : ExpressionType) → IsStored T → IsNoWord w → IsWayOf Room w T → HasAddress w
  has_address Unchecked T i n s = tt
  has_address (Constant address) T i n s = tt
  has_address Array T i n s = tt
  has_address Word T i n s = absurd n
  has_address Valued (Stored type) i n s = absurd s
  has_address Absent (Stored type) i n s = absurd s
  has_address (Function name) (Stored type) i n s = absurd s
  has_address w T i n s = absurd i

  left_stands : (w : Way) (r T : ExpressionType) → left_of r ≡ Some T → IsWayOf Room w r → IsWayOf Room (result (gives w)) T
  left_stands Valued (Computed value) T h s = stands_valued value T (same_Some _ _ h)
  left_stands Absent Nothing T h s = subst (IsWayOf Room Absent) (same_Some _ _ h) tt
  left_stands Unchecked (Stored type) T h s = let m = map_some Computed (value_stored type) T h in stands_valued m.0 T m.2
  left_stands (Constant address) (Stored type) T h s = let m = map_some Computed (value_stored type) T h in stands_valued m.0 T m.2
  left_stands Array (Stored type) T h s = let m = map_some Computed (value_stored type) T h in stands_valued m.0 T m.2
  left_stands Word (Stored type) T h s = let m = map_some Computed (value_stored type) T h in stands_valued m.0 T m.2
  left_stands w r T h s = absurd s

  -- what has a value
  module _ (env : Env) where
    -- so much is asked of what has a type, and so it stands
    abbrev Is : (asked : Type 0) → Term → Way → Type 0
    Is A term w = (T : ExpressionType) → type_of env term ≡ Some T → A × IsWayOf Room w T

    valued : (A : Type 0) (term : Term) (w : Way) → Is A term w → (v : Value) → value_in (type_of env term) ≡ Some v → A × (gives w ≡ true)
    valued A term w is v h =
        let t = then_some value_of (type_of env term) v h in
        let r = is t.0 t.1 in
        (r.0, gives_value w t.0 v t.2 r.1)

    operand : (A : Type 0) (term : Term) (w : Way) → Is A term w → (o : Operand) → operand_in (is_zero term) (type_of env term) ≡ Some o → A × (gives w ≡ true)
    operand A term w is o h = let v = operand_some (is_zero term) (type_of env term) o h in valued A term w is v.0 v.1

    -- signs in front
    count_is : (spot : Spot) (is_before : Bool) (A : Type 0) (term : Term) (w : Way) → Is A term w → (T : ExpressionType) → type_of env (e.Count spot is_before term) ≡ Some T
        → A × IsTarget w × IsWayOf Room Valued T
    count_is spot is_before A term w is T h =
        let n = if_none (is_no_target env term) (option_and_then counted_type (type_of env term)) T h in
        let t = then_some counted_type (type_of env term) T n.1 in
        let c = if_none (is_array t.0) (computed (option_and_then counted (value_of t.0))) T t.2 in
        let m = map_some Computed (option_and_then counted (value_of t.0)) T c.1 in
        let r = is t.0 t.1 in
        (r.0, is_target w t.0 (target_stored env term t.0 n.0 t.1) c.0 r.1, stands_valued m.0 T m.2)

    prefix_is : (spot : Spot) (sign : Sign) (A : Type 0) (term : Term) (w : Way) → Is A term w → PrefixIs sign w → (T : ExpressionType)
        → type_of env (prefix_term spot sign term) ≡ Some T → A × PrefixAsks sign w × IsWayOf Room (prefix_way sign) T
    prefix_is spot g.Star A term w is p T h =
        let a = then_some pointed (value_in (type_of env term)) T h in
        let r = valued A term w is a.0 a.1 in
        (r.0, r.1, stands_unchecked T (pointed_stored a.0 T a.2))
    prefix_is spot g.Ampersand A term w is p T h =
        let n = if_none (is_no_target env term) (computed (option_and_then address_of (type_of env term))) T h in
        let m = map_some Computed (option_and_then address_of (type_of env term)) T n.1 in
        let t = then_some address_of (type_of env term) m.0 m.1 in
        let r = is t.0 t.1 in
        (r.0, has_address w t.0 (target_stored env term t.0 n.0 t.1) p r.1, stands_valued m.0 T m.2)
    prefix_is spot g.Increment A term w is p T h = count_is spot true A term w is T h
    prefix_is spot g.Decrement A term w is p T h = count_is spot true A term w is T h
    prefix_is spot sign A term w is p T h =
        let m = map_some Computed (option_and_then (prefixed sign) (value_in (type_of env term))) T h in
        let a = then_some (prefixed sign) (value_in (type_of env term)) m.0 m.1 in
        let r = valued A term w is a.0 a.1 in
        (r.0, r.1, stands_valued m.0 T m.2)

    module _ (tables : Tables) (functions : (binding : ℕ) → Signature) (place_of : (binding : ℕ) → FunctionKind) (nests : List Nest)
        (may : (address : Address) (type : DataType) → Room address type → is_address true nests (Some address) ≡ true) where
      join_is : (spot : Spot) (sign : Sign) (A : Type 0) (l : Term) (w : Way) → Is A l w → (at : ℕ) → CommaIs Room env tables functions place_of nests sign l at
          → (B : Type 0) (r : Term) (x : Way) → Is B r x → (T : ExpressionType) → type_of env (joined_term spot sign l r) ≡ Some T
          → A × B × JoinAsks tables functions place_of nests sign w at x × IsWayOf Room (joined_way sign x) T
      join_is spot g.Comma A l w is at comma B r x also' T h =
          let s = last_some (type_of env l) (type_of env r) T h in
          let a = is s.0 s.2 in
          let b = also' s.1 s.3 in
          (a.0, b.0, gives_by w s.0 a.1 ∙ ap not (sym (comma s.0 s.2 s.5)), left_stands x s.1 T s.4 b.1)
      join_is spot sign A l w is at comma B r x also' T h =
          let m = map_some Computed (of_both (binary sign) (operand_in (is_zero l) (type_of env l)) (operand_in (is_zero r) (type_of env r))) T h in
          let p = both_some (binary sign) (operand_in (is_zero l) (type_of env l)) (operand_in (is_zero r) (type_of env r)) m.0 m.1 in
          let a = operand A l w is p.0 p.2 in
          let b = operand B r x also' p.1 p.3 in
          (a.0, b.0, (a.1, b.1), stands_valued m.0 T m.2)

      -- members
      dot_is : (spot : Spot) (name : Named) (A : Type 0) (term : Term) (w : Way) → Is A term w → MemberIs Room env tables functions place_of nests spot term name → (T : ExpressionType)
          → type_of env (e.Member spot term name) ≡ Some T → A × DotAsks tables functions place_of nests name.at w × IsWayOf Room (dotted_way tables place_of name.at w) T
      dot_is spot name A term w is has T h =
          let a = then_some (λ i. option_and_then (λ place. option_map Stored (env.member_type i place)) (member_named env.structs i name.bytes)) (option_and_then struct_of (type_of env term)) T h in
          let b = then_some struct_of (type_of env term) a.0 a.1 in
          let r = is b.0 b.1 in
          let s = by w b.0 a.0 T b.1 b.2 h (member_stored env (option_and_then struct_of (type_of env term)) name T h) r.1 in
          (r.0, s.0, s.1)
        where
          by : (w : Way) (U : ExpressionType) (i : ℕ) (T : ExpressionType) → type_of env term ≡ Some U → struct_of U ≡ Some i
              → type_of env (e.Member spot term name) ≡ Some T → IsStored T → IsWayOf Room w U
              → DotAsks tables functions place_of nests name.at w × IsWayOf Room (dotted_way tables place_of name.at w) T
          by Unchecked U i T typed in_struct member stored s = (tt, stands_unchecked T stored)
          by (Constant address) (Stored type) i (Stored other) typed in_struct member stored s =
              let room = has address type other typed member s in
              (may (behind_member tables place_of name.at address) other room, room)
          by (Constant address) (Stored type) i (Computed value) typed in_struct member stored s = absurd stored
          by (Constant address) (Stored type) i Nothing typed in_struct member stored s = absurd stored
          by Array (Stored type) i T typed in_struct member stored s =
              absurd (false≢true (sym (if_none (is_some type.length) (struct_of_root type.root type.stars) i in_struct).0 ∙ s))
          by Word (Stored type) i T typed in_struct member stored s =
              let found = (if_none (is_some type.length) (struct_of_root type.root type.stars) i in_struct).1 in
              absurd (none_some (sym s.1 ∙ found))
            where
              none_some : None ≡ Some i → ⊥
              none_some h = cc
          by w (Computed value) i T typed in_struct member stored s = absurd (cc)
          by w Nothing i T typed in_struct member stored s = absurd (cc)
          by w (Stored type) i T typed in_struct member stored s = absurd s

      -- all of the block are over what else there is, as links and suffixes are over what stands before them
      mutual
        pub tree_is : (x : Tree) (other : Type 0) → Known Room env tables functions place_of nests x → Is (Asked tables functions place_of nests x) (term_of x) (way tables place_of x)
        tree_is (t.Number spot value true) other k T h = (tt, stands_valued Unsigned T (same_Some _ _ h))
        tree_is (t.Number spot value false) other k T h = (tt, stands_valued Int T (same_Some _ _ h))
        tree_is (t.Puts spot text) other k T h = (tt, subst (IsWayOf Room Absent) (same_Some _ _ h) tt)
        tree_is (t.Sizeof spot type) other k T h = (tt, stands_valued Unsigned T (sizeof_some (type_spelled env.structs type None) T h))
        tree_is (t.Variable name) other k T h = k T h
        tree_is (t.GroupNumber spot) other k T h = (tt, stands_valued Int T (same_Some _ _ h))
        tree_is (t.GroupRank spot) other k T h = (tt, stands_valued Int T (same_Some _ _ h))
        tree_is (t.Prefix spot sign x) other k T h =
            let r = prefix_is spot sign (Asked tables functions place_of nests x) (term_of x) (way tables place_of x) (tree_is x (Unit {0}) k.0) k.1 T h in
            ((r.0, r.1), r.2)
        tree_is (t.Cast spot type x) other k T h =
            let c = cast_some (type_spelled env.structs type None) (value_in (type_of env (term_of x))) T h in
            (valued (Asked tables functions place_of nests x) (term_of x) (way tables place_of x) (tree_is x (Unit {0}) k) c.0 c.1, stands_valued c.2 T c.3)
        tree_is (t.Chain first links) other k T h =
            let r = links_are (Asked tables functions place_of nests first) (term_of first) (way tables place_of first) (tree_is first (Unit {0}) k.0) (token first) links k.1 T h in
            ((r.0, r.1), r.2)
        tree_is (t.Postfix whole suffixes) other k T h =
            let r = suffixes_are (Asked tables functions place_of nests whole) (Asked tables functions place_of nests whole) (term_of whole) (way tables place_of whole) (λ named a. a)
            (tree_is whole (Unit {0}) k.0) suffixes k.1 T h in
            ((r.0, r.1), r.2)
        tree_is (t.Assign spot sign x y) other k T h =
            let n = if_none (is_no_target env (term_of x)) (assigned sign (type_of env (term_of x)) (operand_in (is_zero (term_of y)) (type_of env (term_of y)))) T h in
            let s = assigned_some sign (type_of env (term_of x)) (operand_in (is_zero (term_of y)) (type_of env (term_of y))) T n.1 in
            let a = tree_is x (Unit {0}) k.0 s.0 s.2 in
            let b = operand (Asked tables functions place_of nests y) (term_of y) (way tables place_of y) (tree_is y (Unit {0}) k.1) s.1 s.3 in
            ((a.0, is_target (way tables place_of x) s.0 (target_stored env (term_of x) s.0 n.0 s.2) s.4 a.1, b.0, b.1), stands_valued s.5 T s.6)
        tree_is (t.Choose spot c x y) other k T h =
            let s = branched_some (value_in (type_of env (term_of c))) (operand_in (is_zero (term_of x)) (type_of env (term_of x))) (operand_in (is_zero (term_of y)) (type_of env (term_of y))) T h in
            let d = valued (Asked tables functions place_of nests c) (term_of c) (way tables place_of c) (tree_is c (Unit {0}) k.0) s.0 s.3 in
            let a = operand (Asked tables functions place_of nests x) (term_of x) (way tables place_of x) (tree_is x (Unit {0}) k.1) s.1 s.4 in
            let b = operand (Asked tables functions place_of nests y) (term_of y) (way tables place_of y) (tree_is y (Unit {0}) k.2) s.2 s.5 in
            ((d.0, d.1, a.0, b.0, b.1 ∙ sym a.1), subst (λ v. IsWayOf Room (result v) T) (sym a.1) (stands_valued s.6 T s.7))

        links_are : (A : Type 0) (before : Term) (w : Way) → Is A before w → (at : ℕ) (x : Links) → LinksKnown Room env tables functions place_of nests before at x → (T : ExpressionType)
            → type_of env (with_links before x) ≡ Some T → A × LinksAsked tables functions place_of nests w at x × IsWayOf Room (chain_way tables place_of w x) T
        links_are A before w is at t.no_links k T h = let r = is T h in (r.0, tt, r.1)
        links_are A before w is at (t.link spot sign right others) k T h =
            let r = links_are (A × Asked tables functions place_of nests right × JoinAsks tables functions place_of nests sign w at (way tables place_of right))
            (joined_term spot sign before (term_of right)) (joined_way sign (way tables place_of right))
            (λ U typed.
            let j = join_is spot sign A before w is at k.1 (Asked tables functions place_of nests right) (term_of right) (way tables place_of right) (tree_is right (Unit {0}) k.0) U typed in
            ((j.0, j.1, j.2), j.3))
            spot.at others k.2 T h in
            (r.0.0, (r.0.1, r.0.2, r.1), r.2)

        -- what is asked before, and with what stands before the suffixes
        suffixes_are : (A B : Type 0) (before : Term) (w : Way) → (is_use before ≡ true → A → B) → Is B before w → (x : Suffixes)
            → SuffixesKnown Room env tables functions place_of nests A before w x → (T : ExpressionType)
            → type_of env (with_suffixes before x) ≡ Some T → B × SuffixesAsked tables functions place_of nests w x × IsWayOf Room (suffixed_way tables place_of w x) T
        suffixes_are A B before w named is t.no_suffixes k T h = let r = is T h in (r.0, tt, r.1)
        suffixes_are A B before w named is (t.index spot by others) k T h =
            let r = suffixes_are A (B × (gives w ≡ true) × Asked tables functions place_of nests by × (gives (way tables place_of by) ≡ true))
            (e.Index spot before (term_of by)) Unchecked (λ other. absurd (false≢true other))
            (λ U typed.
            let s = element_some (value_in (type_of env before)) (value_in (type_of env (term_of by))) U typed in
            let a = valued B before w is s.0 s.2 in
            let b = valued (Asked tables functions place_of nests by) (term_of by) (way tables place_of by) (tree_is by (Unit {0}) k.0) s.1 s.3 in
            ((a.0, a.1, b.0, b.1), stands_unchecked U (pointed_stored s.0 U s.4)))
            others k.1 T h in
            (r.0.0, (r.0.1, r.0.2, r.0.3, r.1), r.2)
        suffixes_are A B before w named is (t.call spot given others) k T h =
            let args = with_arguments no_terms given in
            let r = suffixes_are A (B × CallAsks tables functions place_of nests w given × AllAsked tables functions place_of nests given)
            (e.Call spot before args) (called_way tables place_of w) (λ other. absurd (false≢true other))
            (λ U typed.
            let c = k.1 U typed in
            let fit = call_some (called_as env before (type_of env before)) (count_of args) _ (first_value env args) U typed in
            let all = all_are (parameters_of (called_as env before (type_of env before))) given (Unit {0}) k.0 no_terms fit in
            ((called_by before named (λ other. uncalled env before (type_of env before) (count_of args) _ (first_value env args) U other typed) c.0, c.1, all.1), c.2))
            others k.2 T h in
            (r.0.0, (r.0.1, r.0.2, r.1), r.2)
          where
            called_by : (before : Term) → (is_use before ≡ true → A → B) → (is_use before ≡ false → ⊥) → A → B
            called_by before named never a = by (is_use before) refl
              where
                by : (u : Bool) → is_use before ≡ u → B
                by true e' = named e' a
                by false e' = absurd (never e')
        suffixes_are A B before w named is (t.dot spot name others) k T h =
            let r = suffixes_are A (B × DotAsks tables functions place_of nests name.at w) (e.Member spot before name) (dotted_way tables place_of name.at w) (λ other. absurd (false≢true other))
            (λ U typed. let d = dot_is spot name B before w is k.0 U typed in ((d.0, d.1), d.2))
            others k.1 T h in
            (r.0.0, (r.0.1, r.1), r.2)
        suffixes_are A B before w named is (t.arrow spot name others) k T h =
            let r = suffixes_are A (B × (gives w ≡ true)) (e.Through spot before name) Unchecked (λ other. absurd (false≢true other))
            (λ U typed.
            let a = then_some (λ i. option_and_then (λ place. option_map Stored (env.member_type i place)) (member_named env.structs i name.bytes)) (option_and_then struct_at (value_in (type_of env before))) U typed in
            let b = then_some struct_at (value_in (type_of env before)) a.0 a.1 in
            (valued B before w is b.0 b.1, stands_unchecked U (member_stored env (option_and_then struct_at (value_in (type_of env before))) name U typed)))
            others k T h in
            (r.0.0, (r.0.1, r.1), r.2)
        suffixes_are A B before w named is (t.up spot others) k T h =
            let r = suffixes_are A (B × IsTarget w) (e.Count spot false before) Valued (λ other. absurd (false≢true other))
            (λ U typed. let c = count_is spot false B before w is U typed in ((c.0, c.1), c.2)) others k T h in
            (r.0.0, (r.0.1, r.1), r.2)
        suffixes_are A B before w named is (t.down spot others) k T h =
            let r = suffixes_are A (B × IsTarget w) (e.Count spot false before) Valued (λ other. absurd (false≢true other))
            (λ U typed. let c = count_is spot false B before w is U typed in ((c.0, c.1), c.2)) others k T h in
            (r.0.0, (r.0.1, r.1), r.2)

        all_are : (ps : List Parameter) (x : Trees) (other : Type 0) → AllKnown Room env tables functions place_of nests x → (before : Terms) → do_all_fit env ps (with_arguments before x) ≡ true
            → (do_all_fit env ps before ≡ true) × AllAsked tables functions place_of nests x
        all_are ps t.no_trees other k before fit = (fit, tt)
        all_are ps (t.tree first others) other k before fit =
            let r = all_are ps others (Unit {0}) k.1 (also before (term_of first)) fit in
            let p = and_parts (do_all_fit env ps before) _ r.0 in
            let v = fits_value (slice_get ps (count_of before)) (operand_in (is_zero (term_of first)) (type_of env (term_of first))) p.1 in
            let a = operand (Asked tables functions place_of nests first) (term_of first) (way tables place_of first) (tree_is first (Unit {0}) k.0) v.0 v.1 in
            (p.0, (a.0, a.1, r.1))

pub typed_is_asked : TypedIsAsked
typed_is_asked nests has_room may env tables functions place_of x k T h =
    tree_is (λ address type. has_room address type ≡ true) env tables functions place_of nests may x (Unit {0}) k T h
