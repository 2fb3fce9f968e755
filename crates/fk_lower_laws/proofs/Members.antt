-- A member of a struct at a constant address has its words there; and members have types that may be declared.
use Rattle.std.proofs.Common.{◌≡◌, ℕ, zero, suc, ◌+◌, ◌*◌, ◌/◌, ◌%◌, ◌^◌, ◌≤◌, false, List, Option, Some, None, slice_get, refl, sym, ap, subst, ◌∙◌, arith}
use Rattle.std.specs.Prelude.{is_some, if◌then◌else◌}
use Rattle.std.specs.Option.{option_map, option_and_then}
use Rattle.std.proofs.lemmas.List.{length-map}
use Rattle.std.proofs.lemmas.Option.{same_Some}
use Rattle.fk_syntax.specs.declared.facts.Facts.{Facts}
use Rattle.fk_syntax.specs.declared.place.Spot.{Spot}
use Rattle.fk_syntax.specs.Tree.{Named}
use Rattle.fk_syntax.specs.Program.{DeclaredTree, ProgramTree}
use Rattle.fk_types_name_rules.proofs.ListLemmas.{some_at}
use Rattle.fk_types_structs.specs.declared.types.Root.{Root}
use Rattle.fk_types_structs.specs.declared.types.Root.TheVariants as r
use Rattle.fk_types_structs.specs.declared.types.DataType.{DataType}
use Rattle.fk_types_structs.specs.Types.{StructTree, first_of, member_names, member_named, type_declared}
use Rattle.fk_types_structs.specs.Words.{capped}
use Rattle.fk_types_structs.specs.Sizes.{HasTypeWords}
use Rattle.fk_types_struct_rules.specs.Declarations.{DeclarationBreaks}
use Rattle.fk_types_struct_rules.specs.Structs.{whole}
use Rattle.fk_types_references.specs.References.{Member}
use Rattle.fk_types_operators.specs.declared.values.ExpressionType.{ExpressionType}
use Rattle.fk_types_operators.specs.declared.values.ExpressionType.TheVariants.{Stored}
use Rattle.fk_types_rules.specs.Bound as b
use Rattle.fk_types_bindings.proofs.Below.{references_below}
use Rattle.fk_types_judgments.specs.Term.{Term}
use Rattle.fk_types_judgments.specs.Names.{HasDeclaredType}
use Rattle.fk_types_judgments.specs.Typing.{type_of, struct_of, struct_of_root, member_type}
use Rattle.fk_meaning_forms.specs.Tables.{note}
use Rattle.fk_check_laws.proofs.Typed.{Unbroken}
use Rattle.fk_check_laws.proofs.Notes.{binding_is}
use Rattle.fk_types_judgments.specs.Term as e
use Rattle.fk_num.specs.Word.{word}
use Rattle.fk_lockstep_frames.specs.Nests.{Nest}
use Rattle.fk_core_typing.specs.declared.constants.Constant.TheVariants.{Number, FrameWord}
use Rattle.fk_lower_names.proofs.Given.{IsGiven, words_of}
use Rattle.fk_lower_laws.specs.Typed.{MemberIs}
use Rattle.fk_lower_names.proofs.Sizes.{IsSound, first_within, has_sound, one_size, member_lies}
use Rattle.fk_lower_laws.proofs.Tokens.{IsSoundType}
use Rattle.fk_lower_laws.proofs.Valid.{about}

then_some : {X Y : Type 0} (f : X → Option Y) (o : Option X) (y : Y) → option_and_then f o ≡ Some y → (x : X) × (o ≡ Some x) × (f x ≡ Some y)
then_some f None y h = absurd (cc)
then_some f (Some x) y h = (x, refl, h)

pub map_some : {X Y : Type 0} (f : X → Y) (o : Option X) (y : Y) → option_map f o ≡ Some y → (x : X) × (o ≡ Some x) × (f x ≡ y)
map_some f None y h = absurd (cc)
map_some f (Some x) y h = (x, refl, same_Some (f x) y h)

-- the type of a struct
whole_by : (root : Root) (stars : ℕ) (length : Option ℕ) (index : ℕ) → (if is_some length then None else struct_of_root root stars) ≡ Some index
    → let type : DataType = record { root = root; stars = stars; length = length } in type ≡ whole index
whole_by root stars (Some n) index h = absurd (cc)
whole_by (r.Struct i) zero None index h = ap whole (same_Some i index h)
whole_by (r.Struct i) (suc stars) None index h = absurd (cc)
whole_by r.Int stars None index h = absurd (cc)
whole_by r.Unsigned stars None index h = absurd (cc)
whole_by r.Void stars None index h = absurd (cc)

whole_is : (type : DataType) (index : ℕ) → struct_of (Stored type) ≡ Some index → type ≡ whole index
whole_is type index h = whole_by type.root type.stars type.length index h

stored_same : (x y : DataType) → Stored x ≡ Stored y → x ≡ y
stored_same x y h = cc

behind : (address index offset binding : ℕ) → address ≡ 0x10000000 + 4 * index → binding ≡ capped offset → index + offset ≤ 524288
    → (address + (4 * binding) % 2 ^ 32) % 2 ^ 32 ≡ 0x10000000 + 4 * (index + offset)
behind address index offset binding at same few = omega (arith, at, same, few)

behind_in_frame : (first offset binding : ℕ) → binding ≡ capped offset → offset ≤ 524288 → first + word (4 * binding) / 4 ≡ first + offset
behind_in_frame first offset binding same few = omega (arith, same, few)

module _ (program : ProgramTree) (facts : Facts) (given : IsGiven program facts) where
  open about program facts given use {env, structs, tables, functions, places, Room, Referred, Noting}

  -- a member of a name is declared
  record IsMember (index : ℕ) (name : Named) (type : DataType) : Type 0 where
    place : ℕ
    struct : StructTree
    declared : DeclaredTree
    named : member_named structs index name.bytes ≡ Some place
    at : slice_get structs index ≡ Some struct
    there : slice_get struct.members place ≡ Some declared
    is : type_declared structs declared ≡ Some type
    right : Unbroken (DeclarationBreaks structs declared)

  member_is : (index : Option ℕ) (name : Named) (type : ExpressionType) → member_type env index name ≡ Some type
      → (i : ℕ) × (t : DataType) × (index ≡ Some i) × (type ≡ Stored t) × IsMember i name t
  member_is index name type h =
      let a = then_some (λ i. option_and_then (λ place. option_map Stored (env.member_type i place)) (member_named structs i name.bytes)) index type h in
      let p = then_some (λ place. option_map Stored (env.member_type a.0 place)) (member_named structs a.0 name.bytes) type a.2 in
      let t = map_some Stored (env.member_type a.0 p.0) type p.2 in
      let s = then_some (λ (s : StructTree). first_of name.bytes (member_names s.members)) (slice_get structs a.0) p.0 p.1 in
      let low = first_within name.bytes (member_names s.0.members) p.0 s.2 in
      let d = some_at s.0.members p.0 (omega (arith, low, length-map s.0.members (λ (d : DeclaredTree). d.name.bytes))) in
      let has = given.correct.known.types.right.member_type a.0 p.0 s.0 d.0 s.1 d.1 in
      let own = subst (HasDeclaredType structs (DeclarationBreaks structs d.0) (type_declared structs d.0)) t.1 has in
      (a.0, t.0, a.1, sym t.2, record { place = p.0; struct = s.0; declared = d.0; named = p.1; at = s.1; there = d.1; is = own.0; right = own.1 })

  pub member_sound : (index : Option ℕ) (name : Named) (type : ExpressionType) → member_type env index name ≡ Some type → IsSoundType structs type
  member_sound index name type h =
      let m = member_is index name type h in
      let has = has_sound structs m.4.declared m.4.right in
      let one : has.type ≡ m.1 = same_Some has.type m.1 (sym has.is ∙ m.4.is) in
      subst (IsSoundType structs) (sym m.3) (λ some. subst (IsSound structs) one has.sound)

  -- where a member lies in a struct with its words
  record IsIn (type member : DataType) (name : Named) (words : ℕ) : Type 0 where
    offset : ℕ
    own : ℕ
    has : HasTypeWords structs member own
    some : 1 ≤ own
    within : offset + own ≤ words
    binding : (note tables name.at).binding ≡ capped offset

  member_in : (at : ℕ) (spot : Spot) (before : Term) (name : Named) → Referred (Member at false name)
      → Noting (record { at = at; type = type_of env before }) → (type member : DataType) → type_of env before ≡ Some (Stored type)
      → type_of env (e.Member spot before name) ≡ Some (Stored member) → (words : ℕ) → HasTypeWords structs type words → IsIn type member name words
  member_in at spot before name referred noted type member typed has words size =
      let m = member_is (option_and_then struct_of (type_of env before)) name (Stored member) has in
      let index : struct_of (Stored type) ≡ Some m.0 = sym (ap (option_and_then struct_of) typed) ∙ m.2 in
      let x = m.4 in
      let one : m.1 ≡ member = sym (stored_same member m.1 m.3) in
      let whole' = subst (λ t. HasTypeWords structs t words) (whole_is type m.0 index) size in
      let lies = member_lies structs m.0 x.place x.struct x.declared member words x.at x.there (x.is ∙ ap Some one) whole' in
      let low = references_below program given.correct.well_formed (Member at false name) referred in
      let here = subst (λ o. Noting (record { at = at; type = o })) typed noted in
      let sound = has_sound structs x.declared x.right in
      let same : sound.type ≡ member = same_Some sound.type member (sym sound.is ∙ x.is ∙ ap Some one) in
      let own = words_of program facts given member (subst (IsSound structs) same sound.sound) in
      record {
        offset = lies.offset;
        own = lies.own;
        has = lies.has;
        some = subst (λ w. 1 ≤ w) (one_size structs member own.0 lies.own own.1 lies.has) own.2;
        within = lies.within;
        binding = binding_is program facts given.correct name.at (capped lies.offset) low
            (b.refers (Member at false name) (capped lies.offset) referred refl (b.member at false name (Stored type) m.0 x.place lies.offset here index x.named lies.lies));
      }

  pub member_room : (nests : List Nest) (at : ℕ) (spot : Spot) (before : Term) (name : Named) → Referred (Member at false name)
      → Noting (record { at = at; type = type_of env before })
      → MemberIs (Room nests) env tables functions places nests spot before name
  member_room nests at spot before name referred noted (Number address) type member typed has room =
      let x = member_in at spot before name referred noted type member typed has room.words room.has in
      let inner = x.within in
      let outer = room.within in
      record {
        index = room.index + x.offset;
        words = x.own;
        is = behind address room.index x.offset (note tables name.at).binding room.is x.binding (omega (arith, inner, outer));
        has = x.has;
        within = omega (arith, inner, outer);
      }
  member_room nests at spot before name referred noted (FrameWord nesting first) type member typed has room =
      let x = member_in at spot before name referred noted type member typed has room.words room.has in
      let inner = x.within in
      let few = room.few in
      let is = behind_in_frame first x.offset (note tables name.at).binding x.binding (omega (arith, inner, few)) in
      record {
        words = x.own;
        region = room.region;
        has = x.has;
        some = x.some;
        few = omega (arith, inner, few);
        frame = room.frame;
        within = λ small. (let fits = room.within small in omega (arith, is, inner, fits));
      }
