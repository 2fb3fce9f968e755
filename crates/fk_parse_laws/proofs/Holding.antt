-- What is so of each value of a language, where the tokens of its stretch are good, and on few levels.
use Rattle.std.proofs.Common.{◌≡◌, inl, inr, ℕ, ◌≤◌, List, [], ◌∷◌, ◌++◌, Option, Some, None, sym, ap, subst}
use Rattle.std.specs.Prelude.{Bool, All}
use Rattle.fk_lex.specs.declared.token.TokenKind.{TokenKind}
use Rattle.fk_lex.specs.declared.token.TokenKind.TheVariants as kind
use Rattle.fk_parse_combinators.specs.declared.limits.TheConstants.{LEVELS}
use Rattle.fk_parse_combinators.specs.Languages.{Stretch, Language, nothing, token, telling, ◌then◌, ◌or◌, making, many, maybe}
use Rattle.fk_expr.specs.Kinds.{number_told}
use Rattle.fk_parse_laws.specs.Every.{Always}
use Rattle.fk_parse_laws.specs.Words.{IsWord}

-- a token's number is a word, and so is each byte of a text
abbrev pub IsGood : TokenKind → List ℕ → Type 0
IsGood (kind.Number value unsigned) bytes = IsWord value
IsGood kind.Text bytes = All IsWord bytes
IsGood other bytes = Unit {0}

abbrev pub Good : Stretch → Type 0
Good [] = Unit {0}
Good (m ∷ s) = IsGood m.token.kind m.token.bytes × (m.level ≤ LEVELS) × Good s

good_front : (s t : Stretch) → Good (s ++ t) → Good s
good_front [] t h = tt
good_front (m ∷ s) t h = (h.0, h.1, good_front s t h.2)

good_back : (s t : Stretch) → Good (s ++ t) → Good t
good_back [] t h = h
good_back (m ∷ s) t h = good_back s t h.2

pub record Holds {A : Type 0} (L : Language A) (P : A → Type 0) : Type 0 where
  pub holds : (s : Stretch) (a : A) → L s a → Good s → P a

pub always : {A : Type 0} {L : Language A} → Holds L Always
always = record { holds = λ s a h g. tt }

pub of_nothing : {A : Type 0} {P : A → Type 0} → Holds nothing P
of_nothing = record { holds = λ s a h g. absurd h }

pub of_making : {A B : Type 0} {L : Language A} (P : A → Type 0) {Q : B → Type 0} {f : A → B} → Holds L P → ((a : A) → P a → Q (f a)) → Holds (making f L) Q
of_making P {Q} h go = record { holds = λ s b is g. subst Q (sym is.2) (go is.0 (h.holds s is.0 is.1 g)) }

pub of_then : {A B : Type 0} {L : Language A} {M : Language B} {P : A → Type 0} {Q : B → Type 0} → Holds L P → Holds M Q → Holds (L then M) (λ x. P x.0 × Q x.1)
of_then h k = record {
  holds = λ s x is g.
      let g' = subst Good is.2 g in
      (h.holds is.0 x.0 is.3 (good_front is.0 is.1 g'), k.holds is.1 x.1 is.4 (good_back is.0 is.1 g'));
}

pub of_or : {A : Type 0} {L M : Language A} {P : A → Type 0} → Holds L P → Holds M P → Holds (L or M) P
of_or h k = record { holds = λ s a is g. elim is [ inl l ↦ h.holds s a l g | inr r ↦ k.holds s a r g ] }

abbrev pub Each : {A : Type 0} → (A → Type 0) → List A → Type 0
Each P [] = Unit {0}
Each P (a ∷ others) = P a × Each P others

many_holds : {A : Type 0} (L : Language A) (P : A → Type 0) → Holds L P → (s : Stretch) (list : List A) → many L s list → Good s → Each P list
many_holds L P h s [] is g = tt
many_holds L P h s (a ∷ others) is g =
    let g' = subst Good is.2 g in
    (h.holds is.0 a is.3 (good_front is.0 is.1 g'), many_holds L P h is.1 others is.4 (good_back is.0 is.1 g'))

pub of_many : {A : Type 0} {L : Language A} {P : A → Type 0} → Holds L P → Holds (many L) (Each P)
of_many {L} {P} h = record { holds = λ s list is g. many_holds L P h s list is g }

abbrev pub OfOption : {A : Type 0} → (A → Type 0) → Option A → Type 0
OfOption P None = Unit {0}
OfOption P (Some a) = P a

maybe_holds : {A : Type 0} (L : Language A) (P : A → Type 0) → Holds L P → (s : Stretch) (o : Option A) → maybe L s o → Good s → OfOption P o
maybe_holds L P h s None is g = tt
maybe_holds L P h s (Some a) is g = h.holds s a is g

pub of_maybe : {A : Type 0} {L : Language A} {P : A → Type 0} → Holds L P → Holds (maybe L) (OfOption P)
of_maybe {L} {P} h = record { holds = λ s o is g. maybe_holds L P h s o is g }

-- ---- tokens

abbrev first_told : Option (ℕ × Bool) → ℕ
first_told None = 0
first_told (Some x) = x.0

number_word : (k : TokenKind) (bytes : List ℕ) (x : ℕ × Bool) → IsGood k bytes → number_told k ≡ Some x → IsWord x.0
number_word (kind.Number value unsigned) bytes x g is = subst IsWord (ap first_told is) g
number_word k bytes x g is = absurd (cc)

pub of_number : {l : ℕ} → Holds (telling l number_told) (λ x. IsWord x.1.0)
of_number = record { holds = λ s x is g. number_word x.0.kind x.0.bytes x.1 (subst Good is.0 g).0 is.1 }

pub of_text : {l : ℕ} → Holds (token l kind.Text) (λ t. All IsWord t.bytes)
of_text = record { holds = λ s t is g. subst (λ k. IsGood k t.bytes) is.1 (subst Good is.0 g).0 }

-- the level of a token is low
pub of_level : {l : ℕ} {is : TokenKind} → Holds (token l is) (λ t. l ≤ LEVELS)
of_level = record { holds = λ s t is g. (subst Good is.0 g).1 }
