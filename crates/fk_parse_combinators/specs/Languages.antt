-- Stretches of tokens, and languages: which stretches spell which values.
use Rattle.std.specs.Prelude.{◌≡◌, ℕ, ◌+◌, List, [], ◌∷◌, ◌++◌, Option, Some, None, map, ◌⊎◌}
use Rattle.fk_syntax.specs.declared.place.Place.{Place}
use Rattle.fk_syntax.specs.declared.place.Spot.{Spot}
use Rattle.fk_syntax.specs.Tree.{Named}
use Rattle.fk_lex.specs.declared.token.TokenKind.{TokenKind}
use Rattle.fk_lex.specs.Reading.{Spelled}

-- a token, and its index among those of its text
pub record Placed : Type 0 where
  pub at : ℕ
  pub kind : TokenKind
  pub bytes : List ℕ
  pub place : Place

abbrev pub placed : ℕ → Spelled → Placed
placed at token = record { at = at; kind = token.kind; bytes = token.bytes; place = token.place }

-- the index and the place of a token
abbrev pub spot : Placed → Spot
spot t = record { at = t.at; place = t.place }

-- the name that a token is
abbrev pub name : Placed → Named
name t = record { bytes = t.bytes; at = t.at; place = t.place }

-- tokens with their indices, from `at` on
abbrev pub numbered : ℕ → List Spelled → List Placed
numbered at [] = []
numbered at (token ∷ tokens) = placed at token ∷ numbered (at + 1) tokens

-- a token, with the number of levels of nesting that are open at it, including those that it opens
pub record Marked : Type 0 where
  pub token : Placed
  pub level : ℕ

abbrev pub Stretch : Type 0
Stretch = List Marked

abbrev pub tokens_of : Stretch → List Placed
tokens_of stretch = map (λ m. m.token) stretch

-- a language of values: a stretch spells a value
abbrev pub Language : Type 0 → Type 1
Language A = Stretch → A → Type 0

-- the empty language: no stretch spells a value
abbrev pub nothing : {A : Type 0} → Language A
nothing s a = ⊥

-- one token of this kind, at a level
abbrev pub token : ℕ → TokenKind → Language Placed
token level kind s t = (s ≡ record { token = t; level = level } ∷ []) × (t.kind ≡ kind)

-- one token, at a level, whose kind gives a value
abbrev pub telling : {A : Type 0} → ℕ → (TokenKind → Option A) → Language (Placed × A)
telling level told s x = (s ≡ record { token = x.0; level = level } ∷ [])
    × (told x.0.kind ≡ Some x.1)

-- one language after the other
infixr 40 ◌then◌
abbrev pub ◌then◌ : {A B : Type 0} → Language A → Language B → Language (A × B)
(L then M) s x = (front back : Stretch) × (s ≡ front ++ back) × L front x.0 × M back x.1

infixr 30 ◌or◌
abbrev pub ◌or◌ : {A : Type 0} → Language A → Language A → Language A
(L or M) s a = L s a ⊎ M s a

-- a function applied to the values of a language
abbrev pub making : {A B : Type 0} → (A → B) → Language A → Language B
making f L s b = (a : _) × L s a × (b ≡ f a)

-- any number of stretches, one after the other
abbrev pub many : {A : Type 0} → Language A → Language (List A)
many L s [] = s ≡ []
many L s (a ∷ others) = (front back : Stretch) × (s ≡ front ++ back) × L front a
    × many L back others

-- a stretch of the language, or nothing
abbrev pub maybe : {A : Type 0} → Language A → Language (Option A)
maybe L s None = s ≡ []
maybe L s (Some a) = L s a
