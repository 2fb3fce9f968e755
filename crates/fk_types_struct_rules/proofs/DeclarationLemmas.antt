-- What declarations break.
use Rattle.std.proofs.Common.{◌≡◌, ℕ, zero, suc, ◌*◌, ◌<◌, ◌≤◌, List, Option, Some, None, refl, sym, ap, subst, ◌∙◌, arith}
use Rattle.std.specs.Option.{option_map}
use Rattle.std.proofs.lemmas.Option.{same_Some, none-some}
use Rattle.fk_syntax.specs.declared.place.Place.{Place}
use Rattle.fk_syntax.specs.Tree.{Named, BaseType, TypeTree}
use Rattle.fk_syntax.specs.Tree as t
use Rattle.fk_syntax.specs.Program.{DeclaredTree}
use Rattle.fk_check_rules.specs.declared.rule.Rule.{Rule}
use Rattle.fk_check_rules.specs.declared.rule.Rule.TheVariants as rules
use Rattle.fk_check_rules.specs.Least.{IsLeast, only}
use Rattle.fk_check_rules.proofs.LeastLemmas.{IsLeast-at, IsLeast-nowhere}
use Rattle.fk_types_structs.specs.declared.types.DataType.{DataType}
use Rattle.fk_types_structs.specs.declared.types.Root.{Root}
use Rattle.fk_types_structs.specs.declared.types.Root.TheVariants as r
use Rattle.fk_types_structs.specs.Types.{StructTree, struct_named, root_of, type_declared, all_types}
use Rattle.fk_types_structs.specs.Words.{capped, type_words, words_within}
use Rattle.fk_types_structs.specs.Sizes.{HasTypeWords}
use Rattle.fk_types_structs.proofs.WordLemmas.{one-type}
use Rattle.fk_types_struct_rules.specs.Declarations.{NamesNoStruct, IsStruct, IsTooLarge, HasLargeType, At}

-- a fact that is told at a place, and one that isn't so
pub At-so : (rule : Rule) (here : Place) (P : Type 0) → P → IsLeast (only rule (At here P)) (Some (record { place = here; rule = rule }))
At-so rule here P p = IsLeast-at rule here (At here P) (p, refl) (λ other h. h.1)

pub At-not : (rule : Rule) (here : Place) (P : Type 0) → ¬ P → IsLeast (only rule (At here P)) None
At-not rule here P never = IsLeast-nowhere rule (At here P) (λ place h. never h.0)

-- a struct that isn't declared
one_name : (m n : Named) → t.Struct m ≡ t.Struct n → m ≡ n
one_name m n e = cc

pub NamesNoStruct-so : (structs : List StructTree) (type : TypeTree) (name : Named) → type.base ≡ t.Struct name → struct_named structs name.bytes ≡ None
    → IsLeast (only rules.NoStruct (NamesNoStruct structs type)) (Some (record { place = name.place; rule = rules.NoStruct }))
NamesNoStruct-so structs type name is none = IsLeast-at rules.NoStruct name.place (NamesNoStruct structs type) (name, is, none, refl)
    (λ other h. h.3 ∙ ap (λ (n : Named). n.place) (one_name h.0 name (sym h.1 ∙ is)))

pub NamesNoStruct-not : (structs : List StructTree) (type : TypeTree) → ((name : Named) → type.base ≡ t.Struct name → struct_named structs name.bytes ≡ None → ⊥) → IsLeast (only rules.NoStruct (NamesNoStruct structs type)) None
NamesNoStruct-not structs type never = IsLeast-nowhere rules.NoStruct (NamesNoStruct structs type) (λ place h. never h.0 h.1 h.2)

-- a type that is too large has more words than the limit, whatever they are
pub IsTooLarge-words : (structs : List StructTree) (type : DataType) (words exact : ℕ) → HasTypeWords structs type exact → words ≡ capped exact → IsTooLarge structs type → 524288 < words
IsTooLarge-words structs type words exact has cap h =
    let one : h.0 ≡ exact = one-type (all_types structs) type h.0 exact h.1 has in
    omega (arith, one, cap, h.2)

pub IsTooLarge-so : (structs : List StructTree) (type : DataType) (words exact : ℕ) → HasTypeWords structs type exact → words ≡ capped exact → 524288 < words → IsTooLarge structs type
IsTooLarge-so structs type words exact has cap more = let less : 524288 < exact = omega (arith, cap, more) in (exact, has, less)

-- what is declared is too large where its type is
pub HasLargeType-type : (structs : List StructTree) (declared : DeclaredTree) (type : DataType) → type_declared structs declared ≡ Some type → HasLargeType structs declared → IsTooLarge structs type
HasLargeType-type structs declared type is h = subst (IsTooLarge structs) (same_Some h.0 type (sym h.1 ∙ is)) h.2

pub HasLargeType-typeless : (structs : List StructTree) (declared : DeclaredTree) → type_declared structs declared ≡ None → ¬ HasLargeType structs declared
HasLargeType-typeless structs declared none h = none-some h.0 (sym none ∙ h.1)

-- a declaration without a length whose type is no struct has at most one word
module _ (sizes : ℕ → Option ℕ) (structs : List StructTree) (type : DataType) (words : ℕ) where
  words_few : (base : BaseType) (stars : ℕ) → ((name : Named) → base ≡ t.Struct name → stars ≡ 0 → ⊥)
      → option_map (λ (root : Root). record { root = root; stars = stars; length = None }) (root_of structs base) ≡ Some type → type_words sizes type ≡ Some words → words ≤ 1
  words_few base (suc stars) plain is has = by (root_of structs base) is
    where
      by : (o : Option Root) → option_map (λ (root : Root). record { root = root; stars = suc stars; length = None }) o ≡ Some type → words ≤ 1
      by None e = absurd (none-some type e)
      by (Some root) e =
          let one = same_Some (1 * 1) words (ap (type_words sizes) (same_Some (record { root = root; stars = suc stars; length = None }) type e) ∙ has) in
          omega (arith, one)
  words_few t.Int zero plain is has =
      let one = same_Some (1 * 1) words (ap (type_words sizes) (same_Some (record { root = r.Int; stars = 0; length = None }) type is) ∙ has) in
      omega (arith, one)
  words_few t.Unsigned zero plain is has =
      let one = same_Some (1 * 1) words (ap (type_words sizes) (same_Some (record { root = r.Unsigned; stars = 0; length = None }) type is) ∙ has) in
      omega (arith, one)
  words_few t.Void zero plain is has =
      let none = same_Some (0 * 1) words (ap (type_words sizes) (same_Some (record { root = r.Void; stars = 0; length = None }) type is) ∙ has) in
      omega (arith, none)
  words_few (t.Struct name) zero plain is has = absurd (plain name refl refl)

pub HasLargeType-small : (structs : List StructTree) (declared : DeclaredTree) → declared.length ≡ None → ¬ IsStruct declared.kind → ¬ HasLargeType structs declared
HasLargeType-small structs declared none plain h =
    let is = subst (λ (l : Option ℕ). option_map (λ (root : Root). record { root = root; stars = declared.kind.stars; length = l }) (root_of structs declared.kind.base) ≡ Some h.0) none h.1 in
    let few = words_few (words_within h.2.1.0 (all_types structs)) structs h.0 h.2.0 declared.kind.base declared.kind.stars (λ name b s. plain (name, b, s)) is h.2.1.1 in
    omega (arith, few, h.2.2)
