-- Sets of kinds of tokens.
use Rattle.std.proofs.Common.{◌≡◌, List, [], ◌∷◌, Bool, true, false, ◌||◌, IsTrue, refl, inl, inr}
use Rattle.std.proofs.lemmas.Bool.{or_parts, or_cases, or_left, or_right}
use Rattle.fk_lex.specs.declared.token.TokenKind.{TokenKind}
use Rattle.fk_parse_combinators.specs.Languages.{Placed}
use Rattle.fk_parse_combinators.specs.Readers.{next_is}

-- a set of kinds
abbrev pub Kinds : Type 0
Kinds = TokenKind → Bool

-- no kind
abbrev pub none : Kinds
none k = false

-- the kinds of either set
infixl 30 ◌∪◌
abbrev pub ◌∪◌ : Kinds → Kinds → Kinds
(f ∪ g) k = f k || g k

-- no kind is of both
abbrev pub Apart : Kinds → Kinds → Type 0
Apart f g = (k : TokenKind) → IsTrue (f k) → IsTrue (g k) → ⊥

-- each kind of the one is of the other
abbrev pub Within : Kinds → Kinds → Type 0
Within f g = (k : TokenKind) → IsTrue (f k) → IsTrue (g k)

-- no kind is of the empty set
pub none_apart : (g : Kinds) → Apart none g
none_apart g k f h = cc

-- both of two sets are apart from a third
pub union_apart : (f g h : Kinds) → Apart f h → Apart g h → Apart (f ∪ g) h
union_apart f g h a b k i j = elim (or_cases (f k) (g k) i) [ inl x ↦ a k x j | inr y ↦ b k y j ]

-- each of two sets is within their union
pub within_left : (f g : Kinds) → Within f (f ∪ g)
within_left f g k h = or_left (f k) (g k) h

pub within_right : (f g : Kinds) → Within g (f ∪ g)
within_right f g k h = or_right (f k) (g k) h

-- a set is within itself
pub within_itself : (f : Kinds) → Within f f
within_itself f k h = h

-- both of two sets are within a third
pub union_within : (f g h : Kinds) → Within f h → Within g h → Within (f ∪ g) h
union_within f g h a b k i = elim (or_cases (f k) (g k) i) [ inl x ↦ a k x | inr y ↦ b k y ]

-- what comes next is of neither set
pub next-union : (f g : Kinds) (ts : List Placed) → next_is (f ∪ g) ts ≡ false → (next_is f ts ≡ false) × (next_is g ts ≡ false)
next-union f g [] e = (e, e)
next-union f g (t ∷ ts) e = or_parts (f t.kind) (g t.kind) e

-- what comes next isn't of a smaller set
pub next-within : (f g : Kinds) → Within f g → (ts : List Placed) → next_is g ts ≡ false → next_is f ts ≡ false
next-within f g w [] e = e
next-within f g w (t ∷ ts) e = not_true (f t.kind) (λ h. w t.kind h) e
  where
    not_true : (b : Bool) → (IsTrue b → IsTrue (g t.kind)) → g t.kind ≡ false → b ≡ false
    not_true false h e = refl
    not_true true h e = cc (h refl)

-- a kind of the one set isn't of the other
pub apart-false : (f g : Kinds) → Apart f g → (k : TokenKind) → IsTrue (g k) → f k ≡ false
apart-false f g a k h = not_true (f k) (λ i. a k i h)
  where
    not_true : (b : Bool) → (IsTrue b → ⊥) → b ≡ false
    not_true false h = refl
    not_true true h = absurd (h refl)
