-- A member has one offset at most, and what is told of sizes is what they are.
use Rattle.std.proofs.Common.{◌≡◌, ℕ, ◌+◌, ◌*◌, ◌≤◌, List, Option, Some, None, take, refl, sym, ap, ◌∙◌, arith}
use Rattle.std.specs.Prelude.{IfSome, IsNone}
use Rattle.std.proofs.lemmas.Option.{same_Some}
use Rattle.fk_types_structs.specs.declared.types.DataType.{DataType}
use Rattle.fk_types_structs.specs.Types.{StructTree, member_named, member_types, all_types}
use Rattle.fk_types_structs.specs.Words.{total_words, words_within, capped}
use Rattle.fk_types_structs.specs.Sizes.{HasTypeWords, HasOffset}
use Rattle.fk_types_structs.proofs.WordLemmas.{total-related, within-≤, one-type}
use Rattle.fk_types_bindings.specs.Known.{IsOffsetOf}

-- what types have at one depth they have at each greater one
total-≤ : (structs : List (List (Option DataType))) (low high : ℕ) (types : List (Option DataType)) (n : ℕ) → low ≤ high
    → total_words (words_within low structs) types ≡ Some n → total_words (words_within high structs) types ≡ Some n
total-≤ structs low high types n le e =
    let t = total-related (λ a b. a ≡ b) refl refl (λ a b m n p q. omega (arith, p, q)) (λ a m k p. ap (λ x. x * k) p) (words_within low structs) (words_within high structs) (λ i n e. (n, within-≤ structs low high i n le e, refl)) types n e in
    t.1 ∙ ap Some (sym t.2)

pub one-offset : (structs : List StructTree) (index place m n : ℕ) → HasOffset structs index place m → HasOffset structs index place n → m ≡ n
one-offset structs index place m n p q =
    let all = all_types structs in
    let depth = p.3.0 + q.3.0 in
    let same : p.0 ≡ q.0 = same_Some p.0 q.0 (sym p.1 ∙ q.1) in
    let a = total-≤ all p.3.0 depth (take place (member_types structs p.0)) m (omega arith) p.3.1 in
    let b = total-≤ all q.3.0 depth (take place (member_types structs q.0)) n (omega arith) q.3.1 in
    same_Some m n (sym a ∙ ap (λ (s : StructTree). total_words (words_within depth all) (take place (member_types structs s))) same ∙ b)

-- a capped size that is told is that of each exact one, where there is one at most
capped-once : (Has : ℕ → Type 0) → ((m n : ℕ) → Has m → Has n → m ≡ n) → (r : Option ℕ)
    → IfSome r (λ words. (exact : ℕ) × Has exact × (words ≡ capped exact)) → (IsNone r → (exact : ℕ) → ¬ Has exact)
    → (words : ℕ) → Has words → r ≡ Some (capped words)
capped-once Has once None some none words has = absurd (none refl words has)
capped-once Has once (Some told) some none words has = ap Some (some.2 ∙ ap capped (once some.0 words some.1 has))

pub capped-offset : (structs : List StructTree) (index place : ℕ) (r : Option ℕ)
    → IfSome r (λ words. (exact : ℕ) × HasOffset structs index place exact × (words ≡ capped exact)) → (IsNone r → (exact : ℕ) → ¬ HasOffset structs index place exact)
    → (words : ℕ) → HasOffset structs index place words → r ≡ Some (capped words)
capped-offset structs index place = capped-once (HasOffset structs index place) (one-offset structs index place)

-- and so is the one before a member of a name
pub offset_right : (structs : List StructTree) (index place : ℕ) (name : List ℕ) (r : Option ℕ) → member_named structs index name ≡ Some place
    → IfSome r (λ words. (exact : ℕ) × HasOffset structs index place exact × (words ≡ capped exact)) → IfSome r (IsOffsetOf structs index name)
offset_right structs index place name None named some = tt
offset_right structs index place name (Some told) named some = record { place = place; words = some.0; named = named; has = some.1; same = some.2 }

pub capped-words : (structs : List StructTree) (type : DataType) (r : Option ℕ)
    → IfSome r (λ words. (exact : ℕ) × HasTypeWords structs type exact × (words ≡ capped exact)) → (IsNone r → (exact : ℕ) → ¬ HasTypeWords structs type exact)
    → (words : ℕ) → HasTypeWords structs type words → r ≡ Some (capped words)
capped-words structs type = capped-once (HasTypeWords structs type) (one-type (all_types structs) type)
