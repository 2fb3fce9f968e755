-- What a reference refers to, by its parts.
use Rattle.std.specs.Prelude.{◌^◌, ◌-◌, IfSome}
use Rattle.std.proofs.Common.{◌≡◌, ℕ, ◌*◌, Bool, List, Option, Some, None, refl, sym, ap, subst, ◌∙◌}
use Rattle.std.proofs.lemmas.Option.{none-some, same_Some}
use Rattle.fk_syntax.specs.declared.place.Spot.{Spot}
use Rattle.fk_syntax.specs.Tree.{Named, TypeTree}
use Rattle.fk_syntax.specs.Program.{ProgramTree}
use Rattle.fk_types_structs.specs.declared.types.DataType.{DataType}
use Rattle.fk_types_structs.specs.Types.{StructTree, type_spelled, member_named}
use Rattle.fk_types_structs.specs.Words.{capped}
use Rattle.fk_types_structs.specs.Sizes.{HasTypeWords, HasOffset}
use Rattle.fk_types_names.specs.declared.names.Meaning.{Meaning}
use Rattle.fk_types_names.specs.declared.names.Meaning.TheVariants as m
use Rattle.fk_types_names.specs.declared.names.Names.{Names}
use Rattle.fk_types_names.specs.Names.{meaning_in, AreNames}
use Rattle.fk_types_operators.specs.declared.values.ExpressionType.{ExpressionType}
use Rattle.fk_types_judgments.specs.Names.{Env}
use Rattle.fk_types_references.specs.References.{Name, Member, Size}
use Rattle.fk_types_rules.specs.Noted.{HasTypeAt, type_at, AreTypes}
use Rattle.fk_types_rules.specs.Bound.{Refers, declared, predeclared, member, size, struct_before}
use Rattle.fk_types_bindings.specs.Known.{IsOffsetOf, IsTold, number_meant}

-- a member that is referred to
record MemberParts (env : Env) (program : ProgramTree) (whole : ℕ) (is_arrow : Bool) (name : Named) (number : ℕ) : Type 0 where
  type : ExpressionType
  index : ℕ
  place : ℕ
  words : ℕ
  typed : HasTypeAt env program whole type
  before : struct_before is_arrow type ≡ Some index
  among : member_named env.structs index name.bytes ≡ Some place
  offset : HasOffset env.structs index place words
  same : number ≡ capped words

-- a size that is referred to
record SizeParts (env : Env) (tree : TypeTree) (number : ℕ) : Type 0 where
  type : DataType
  words : ℕ
  spelled : type_spelled env.structs tree None ≡ Some type
  has : HasTypeWords env.structs type words
  same : number ≡ 4 * capped words

module _ (env : Env) (program : ProgramTree) where
  -- a name has the number of what it means
  meant : (names : Names) → AreNames program names → {name : Named} {number : ℕ} → Refers env program (Name name) number → number_meant (meaning_in names name.at) ≡ Some number
  meant names are (declared name number means) = ap number_meant ((are.means name.at (m.Declared number)).1 means)
  meant names are (predeclared name means) = ap number_meant ((are.means name.at m.Predeclared).1 means)

  refers_name : (names : Names) → AreNames program names → (name : Named) (number : ℕ) (o : Option Meaning) → meaning_in names name.at ≡ o → number_meant o ≡ Some number → Refers env program (Name name) number
  refers_name names are name number None e told = absurd (none-some number told)
  refers_name names are name number (Some (m.Declared n)) e told = subst (λ k. Refers env program (Name name) k) (same_Some n number told) (declared name n ((are.means name.at (m.Declared n)).0 e))
  refers_name names are name number (Some m.Predeclared) e told = subst (λ k. Refers env program (Name name) k) (same_Some (2 ^ 32 - 1) number told) (predeclared name ((are.means name.at m.Predeclared).0 e))
  refers_name names are name number (Some m.Undeclared) e told = absurd (none-some number told)

  pub IsTold-name : (names : Names) → AreNames program names → (name : Named) (r : Option ℕ) → r ≡ number_meant (meaning_in names name.at) → IsTold env program (Name name) r
  IsTold-name names are name r is = λ number. ((λ refers. is ∙ meant names are refers), (λ told. refers_name names are name number (meaning_in names name.at) refl (sym is ∙ told)))

  member_parts : {whole : ℕ} {is_arrow : Bool} {name : Named} {number : ℕ} → Refers env program (Member whole is_arrow name) number → MemberParts env program whole is_arrow name number
  member_parts (member whole is_arrow name type index place words typed before among offset) = record {
    type = type;
    index = index;
    place = place;
    words = words;
    typed = typed;
    before = before;
    among = among;
    offset = offset;
    same = refl;
  }

  -- what stands before it has no type
  pub IsTold-untyped : (types : List (Option ExpressionType)) → AreTypes env program types → (whole : ℕ) (is_arrow : Bool) (name : Named) (r : Option ℕ)
      → r ≡ None → None ≡ type_at types whole → IsTold env program (Member whole is_arrow name) r
  IsTold-untyped types are whole is_arrow name r empty none = λ number. (never number, λ told. absurd (none-some number (sym empty ∙ told)))
    where
      never : (number : ℕ) → Refers env program (Member whole is_arrow name) number → r ≡ Some number
      never number refers =
          let p = member_parts refers in
          absurd (none-some p.type (none ∙ are.all whole p.type p.typed))

  -- its type is no struct
  pub IsTold-no_struct : (types : List (Option ExpressionType)) → AreTypes env program types → (whole : ℕ) (is_arrow : Bool) (name : Named) (r : Option ℕ) (type : ExpressionType)
      → r ≡ None → Some type ≡ type_at types whole → None ≡ struct_before is_arrow type → IsTold env program (Member whole is_arrow name) r
  IsTold-no_struct types are whole is_arrow name r type empty some none = λ number. (never number, λ told. absurd (none-some number (sym empty ∙ told)))
    where
      never : (number : ℕ) → Refers env program (Member whole is_arrow name) number → r ≡ Some number
      never number refers =
          let p = member_parts refers in
          let same : type ≡ p.type = same_Some type p.type (some ∙ are.all whole p.type p.typed) in
          absurd (none-some p.index (none ∙ ap (struct_before is_arrow) same ∙ p.before))

  -- its type is a struct, and the offsets of that are known
  pub IsTold-member : (types : List (Option ExpressionType)) → AreTypes env program types → (whole : ℕ) (is_arrow : Bool) (name : Named) (r : Option ℕ) (type : ExpressionType) (index : ℕ) (structs : List StructTree)
      → Some type ≡ type_at types whole → Some index ≡ struct_before is_arrow type → env.structs ≡ structs
      → ((place words : ℕ) → member_named structs index name.bytes ≡ Some place → HasOffset structs index place words → r ≡ Some (capped words))
      → IfSome r (IsOffsetOf structs index name.bytes) → IsTold env program (Member whole is_arrow name) r
  IsTold-member types are whole is_arrow name r type index structs some before known offsets right = λ number. (there number, back number)
    where
      there : (number : ℕ) → Refers env program (Member whole is_arrow name) number → r ≡ Some number
      there number refers =
          let p = member_parts refers in
          let same : type ≡ p.type = same_Some type p.type (some ∙ are.all whole p.type p.typed) in
          let here : index ≡ p.index = same_Some index p.index (before ∙ ap (struct_before is_arrow) same ∙ p.before) in
          let among : member_named structs index name.bytes ≡ Some p.place =
          ap (λ (ss : List StructTree). member_named ss index name.bytes) (sym known) ∙ ap (λ i. member_named env.structs i name.bytes) here ∙ p.among in
          let offset : HasOffset structs index p.place p.words =
          subst (λ (ss : List StructTree). HasOffset ss index p.place p.words) known (subst (λ i. HasOffset env.structs i p.place p.words) (sym here) p.offset) in
          offsets p.place p.words among offset ∙ ap Some (sym p.same)

      back : (number : ℕ) → r ≡ Some number → Refers env program (Member whole is_arrow name) number
      back number told =
          let p : IsOffsetOf structs index name.bytes number = subst (λ (o : Option ℕ). IfSome o (IsOffsetOf structs index name.bytes)) told right in
          let among : member_named env.structs index name.bytes ≡ Some p.place = ap (λ (ss : List StructTree). member_named ss index name.bytes) known ∙ p.named in
          let offset : HasOffset env.structs index p.place p.words = subst (λ (ss : List StructTree). HasOffset ss index p.place p.words) (sym known) p.has in
          subst (λ k. Refers env program (Member whole is_arrow name) k) (sym p.same)
          (member whole is_arrow name type index p.place p.words (are.told whole type (sym some)) (sym before) among offset)

  size_parts : {spot : Spot} {tree : TypeTree} {number : ℕ} → Refers env program (Size spot tree) number → SizeParts env tree number
  size_parts (size spot tree type words spelled has) = record {
    type = type;
    words = words;
    spelled = spelled;
    has = has;
    same = refl;
  }

  -- no such type is declared
  pub IsTold-unspelled : (structs : List StructTree) → env.structs ≡ structs → (spot : Spot) (tree : TypeTree) (r : Option ℕ)
      → r ≡ None → None ≡ type_spelled structs tree None → IsTold env program (Size spot tree) r
  IsTold-unspelled structs known spot tree r empty none = λ number. (never number, λ told. absurd (none-some number (sym empty ∙ told)))
    where
      never : (number : ℕ) → Refers env program (Size spot tree) number → r ≡ Some number
      never number refers =
          let p = size_parts refers in
          absurd (none-some p.type (none ∙ ap (λ (ss : List StructTree). type_spelled ss tree None) (sym known) ∙ p.spelled))

  -- its words are known, or it has none
  pub IsTold-size : (structs : List StructTree) → env.structs ≡ structs → (spot : Spot) (tree : TypeTree) (words r : Option ℕ) (type : DataType)
      → Some type ≡ type_spelled structs tree None
      → ((exact : ℕ) → HasTypeWords structs type exact → words ≡ Some (capped exact))
      → ((w : ℕ) → words ≡ Some w → r ≡ Some (4 * w))
      → ((number : ℕ) → r ≡ Some number → (exact : ℕ) × HasTypeWords structs type exact × (number ≡ 4 * capped exact))
      → IsTold env program (Size spot tree) r
  IsTold-size structs known spot tree words r type spelled told bytes right = λ number. (there number, back number)
    where
      there : (number : ℕ) → Refers env program (Size spot tree) number → r ≡ Some number
      there number refers =
          let p = size_parts refers in
          let same : type ≡ p.type = same_Some type p.type (spelled ∙ ap (λ (ss : List StructTree). type_spelled ss tree None) (sym known) ∙ p.spelled) in
          let has : HasTypeWords structs type p.words =
          subst (λ (ss : List StructTree). HasTypeWords ss type p.words) known (subst (λ (t : DataType). HasTypeWords env.structs t p.words) (sym same) p.has) in
          bytes (capped p.words) (told p.words has) ∙ ap Some (sym p.same)

      back : (number : ℕ) → r ≡ Some number → Refers env program (Size spot tree) number
      back number is =
          let p = right number is in
          let has : HasTypeWords env.structs type p.0 = subst (λ (ss : List StructTree). HasTypeWords ss type p.0) (sym known) p.1 in
          let here : type_spelled env.structs tree None ≡ Some type = ap (λ (ss : List StructTree). type_spelled ss tree None) known ∙ sym spelled in
          subst (λ k. Refers env program (Size spot tree) k) (sym p.2) (size spot tree type p.0 here has)
