-- What holds of each kind of token is seen by trying them all.
use Rattle.std.proofs.Common.{ℕ, List, [], ◌∷◌, Bool, true, false, not, ◌&&◌, ◌||◌, IsTrue, refl, subst, inl, inr}
use Rattle.std.proofs.lemmas.Bool.{and_parts}
use denote.Struct.Field.{Field}
use denote.Enum.Declared.{Choice}
use Rattle.fk_lex.specs.declared.token.TokenKind.{TokenKind}
use Rattle.fk_lex.specs.declared.token.TokenKind.TheVariants as kind
use Rattle.fk_lex.specs.contracts.token.TokenKind.{enum}
use Rattle.fk_parse_combinators.proofs.Sets.{Kinds, Apart, Within}

-- variants without fields are tried, and no others
abbrev tried : (Fss : List (List Field)) → (Choice Fss → Bool) → Bool
tried [] f = true
tried ([] ∷ Fss) f = f (inl tt) && tried Fss (λ c. f (inr c))
tried ((F ∷ Fs) ∷ Fss) f = tried Fss (λ c. f (inr c))

abbrev is_bare : (Fss : List (List Field)) → Choice Fss → Bool
is_bare [] c = absurd c
is_bare (Fs ∷ Fss) (inr c) = is_bare Fss c
is_bare ([] ∷ Fss) (inl x) = true
is_bare ((F ∷ Fs) ∷ Fss) (inl x) = false

holds_of : (Fss : List (List Field)) (f : Choice Fss → Bool) → IsTrue (tried Fss f) → (c : Choice Fss) → IsTrue (is_bare Fss c) → IsTrue (f c)
holds_of [] f e c b = absurd c
holds_of ([] ∷ Fss) f e (inl x) b = (and_parts (f (inl tt)) (tried Fss (λ c. f (inr c))) e).0
holds_of ([] ∷ Fss) f e (inr c) b = holds_of Fss (λ c. f (inr c)) (and_parts (f (inl tt)) (tried Fss (λ c. f (inr c))) e).1 c b
holds_of ((F ∷ Fs) ∷ Fss) f e (inl x) b = absurd (cc)
holds_of ((F ∷ Fs) ∷ Fss) f e (inr c) b = holds_of Fss (λ c. f (inr c)) e c b

-- the set has each kind that is no number
abbrev pub every : Kinds → Bool
every f = tried enum.parts (λ c. f (enum.make c))

-- a set that has each of them, and the numbers, has each kind
pub every_kind : (f : Kinds) → IsTrue (every f) → ((value : ℕ) (unsigned : Bool) → IsTrue (f (kind.Number value unsigned))) → (k : TokenKind) → IsTrue (f k)
every_kind f e n (kind.Number value unsigned) = n value unsigned
every_kind f e n k = subst (λ k. IsTrue (f k)) (enum.eta k) (holds_of enum.parts (λ c. f (enum.make c)) e (enum.as_values k) refl)

-- two sets are apart, and one is within another, by trying each kind
abbrev pub not_both : Kinds → Kinds → Kinds
not_both f g k = not (f k && g k)

-- the kinds that are not of the first set alone
abbrev pub not_one : Kinds → Kinds → Kinds
not_one f g k = not (f k) || g k

-- two sets are apart, by trying each kind
pub apart_by : (f g : Kinds) → IsTrue (every (not_both f g)) → ((value : ℕ) (unsigned : Bool) → IsTrue (not_both f g (kind.Number value unsigned))) → Apart f g
apart_by f g e n k = by (f k) (g k) (every_kind (not_both f g) e n k)
  where
    by : (a b : Bool) → IsTrue (not (a && b)) → IsTrue a → IsTrue b → ⊥
    by true true h i j = cc
    by true false h i j = cc
    by false b h i j = cc

-- one set is within another, by trying each kind
pub within_by : (f g : Kinds) → IsTrue (every (not_one f g)) → ((value : ℕ) (unsigned : Bool) → IsTrue (not_one f g (kind.Number value unsigned))) → Within f g
within_by f g e n k = by (f k) (g k) (every_kind (not_one f g) e n k)
  where
    by : (a b : Bool) → IsTrue (not a || b) → IsTrue a → IsTrue b
    by true true h i = refl
    by true false h i = h
    by false b h i = absurd (cc)
