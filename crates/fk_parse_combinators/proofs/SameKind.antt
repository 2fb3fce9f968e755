-- Kinds are the same where the code finds them equal.
use Rattle.std.proofs.Common.{◌≡◌, ℕ, List, [], ◌∷◌, Bool, true, false, ◌&&◌, IsTrue, refl, ap, inl, inr, rules, ◌∙◌, sym}
use Rattle.std.proofs.lemmas.Bool.{and_parts}
use borrow.Author.Tests.{tests}
use denote.Struct.Field.{Field}
use denote.Struct.Values.{Values}
use denote.Enum.Declared.{Choice, values_one}
use denote.Enum.Compared.{Each, by}
use Rattle.std.specs.contracts.prelude.U32PartialEq.TheImpl as U32
use Rattle.std.specs.contracts.prelude.BoolPartialEq.TheImpl as B
use Rattle.fk_lex.specs.declared.token.TokenKind.{TokenKind}
use Rattle.fk_lex.specs.contracts.token.TokenKind.{enum}
use Rattle.fk_lex.specs.contracts.token.TokenKindPartialEq.TheImpl.{eq-value}
use Rattle.fk_parse_combinators.specs.Kinds.{just}

-- of the values of each variant, those that are found equal are the same
abbrev Tells : (Fss : List (List Field)) → Each Bool Fss → Type 0
Tells [] each = Unit {0}
Tells (Fs ∷ Fss) each = ((x y : Values Fs) → IsTrue (each.0 x y) → x ≡ y) × Tells Fss each.1

by_tells : (Fss : List (List Field)) (each : Each Bool Fss) → Tells Fss each → (c d : Choice Fss) → IsTrue (by false false Fss each c d) → c ≡ d
by_tells [] each s c d e = absurd c
by_tells (Fs ∷ Fss) each s (inl x) (inl y) e = ap inl (s.0 x y e)
by_tells (Fs ∷ Fss) each s (inl x) (inr y) e = cc
by_tells (Fs ∷ Fss) each s (inr x) (inl y) e = cc
by_tells (Fs ∷ Fss) each s (inr x) (inr y) e = ap inr (by_tells Fss each.1 s.1 x y e)

-- variants without fields, whose values are always equal
abbrev AreBare : List (List Field) → Type 0
AreBare [] = Unit {0}
AreBare ([] ∷ Fss) = AreBare Fss
AreBare ((F ∷ Fs) ∷ Fss) = ⊥

abbrev always : (Fss : List (List Field)) → Each Bool Fss
always [] = tt
always (Fs ∷ Fss) = (λ x y. true, always Fss)

bare_tells : (Fss : List (List Field)) → AreBare Fss → Tells Fss (always Fss)
bare_tells [] b = tt
bare_tells ([] ∷ Fss) b = (λ x y e. refl, bare_tells Fss b)
bare_tells ((F ∷ Fs) ∷ Fss) b = absurd b

-- a number: its value, and whether its type is `unsigned`
abbrev Numeral : Type 0
Numeral = ℕ × (Bool × Unit {0})

abbrev same_number : Numeral → Numeral → Bool
same_number x y = (U32.ghosts).eq x.0 y.0 && (B.ghosts).eq x.1.0 y.1.0

number_tells : (x y : Numeral) → IsTrue (same_number x y) → x ≡ y
number_tells (m, (a, u)) (n, (b, v)) e =
    let p = and_parts ((U32.ghosts).eq m n) ((B.ghosts).eq a b) e in
    let h : IsTrue ((U32.ghosts).eq m n) = p.0 in
    let i : IsTrue ((B.ghosts).eq a b) = p.1 in
    let k : m ≡ n = search (tests, rules) in
    let l : a ≡ b = search (tests, rules) in
    ap (λ (z : ℕ). (z, (a, tt))) k ∙ ap (λ (z : Bool). (n, (z, tt))) l

-- words and numbers come first, and no other kind has a field
abbrev others : List (List Field) → List (List Field)
others (word ∷ number ∷ Fss) = Fss
others Fss = []

same : (k t : TokenKind) → IsTrue (just k t) → k ≡ t
unfolding just
same k t e =
    values_one enum k t
    (by_tells enum.parts (λ x y. true, (same_number, always (others enum.parts))) (λ x y e. refl, (number_tells, bare_tells (others enum.parts) tt))
    (enum.as_values k) (enum.as_values t) e)

-- what `==` says of two kinds
pub just_is : (k t : TokenKind) → eq-value.it k t ≡ just k t
unfolding just
just_is k t = refl

-- what is found equal is the same kind
pub same_just : (k t : TokenKind) → IsTrue (just k t) → t ≡ k
same_just k t e = sym (same k t e)

-- and the same kind is found equal
pub just_same : (k t : TokenKind) → t ≡ k → IsTrue (just k t)
unfolding just
just_same k t h = search rules

-- what isn't the same kind is found different
pub just_other : (k t : TokenKind) → (t ≡ k → ⊥) → just k t ≡ false
just_other k t h = by (just k t) refl
  where
    by : (b : Bool) → just k t ≡ b → just k t ≡ false
    by true e = absurd (h (same_just k t e))
    by false e = e

-- what holds of a kind holds of the same kind
pub other_kind : (f : TokenKind → Bool) (k t : TokenKind) → t ≡ k → f k ≡ false → f t ≡ false
other_kind f k t e h = rw e h
