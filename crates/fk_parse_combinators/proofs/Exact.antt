-- What it means that a reader reads a language exactly, and what the stretches of a language look like.
use Rattle.std.proofs.Common.{◌≡◌, ℕ, ◌≤◌, ◌<◌, List, [], ◌∷◌, ◌++◌, false, IsTrue, Ok, Err, All, length, nat_le, cond, ◌⊎◌}
use Rattle.fk_parse_combinators.specs.Languages.{Placed, Marked, Stretch, tokens_of, Language}
use Rattle.fk_parse_combinators.specs.Reads.{Stop, Unexpected, EndOfText, Nesting, Answer}
use Rattle.fk_parse_combinators.specs.Readers.{Reader, next_is}
use Rattle.fk_parse_combinators.proofs.Sets.{Kinds}

-- ---- the shape of a language

-- a stretch begins with a token of these kinds, at this level or deeper
pub record Fronts (first : Kinds) (level : ℕ) (s : Stretch) : Type 0 where
  pub front : Marked
  pub others : Stretch
  pub is : s ≡ front ∷ others
  pub kind : IsTrue (first front.token.kind)
  pub deep : level ≤ front.level

-- a token begins a stretch of a language, at this level or deeper
pub record Starts {A : Type 0} (L : Language A) (level : ℕ) (t : Placed) : Type 0 where
  pub at : ℕ
  pub deep : level ≤ at
  pub others : Stretch
  pub value : A
  pub spelled : L (record { token = t; level = at } ∷ others) value

-- a language has a stretch
pub record Example {A : Type 0} (L : Language A) : Type 0 where
  pub stretch : Stretch
  pub value : A
  pub spelled : L stretch value

-- a language has the empty stretch
pub record Empty {A : Type 0} (L : Language A) : Type 0 where
  pub value : A
  pub spelled : L [] value

-- a language none of whose stretches is empty: each begins with a token of these kinds, and where there
-- is room below, each such token begins one
pub record Shape {A : Type 0} (L : Language A) (level : ℕ) (first : Kinds) (has_room : Type 0) : Type 0 where
  pub fronts : (s : Stretch) (a : A) → L s a → Fronts first level s
  pub starts : has_room → (t : Placed) → IsTrue (first t.kind) → Starts L level t
  pub example : has_room → Example L

-- a language that has the empty stretch too
pub record LooseShape {A : Type 0} (L : Language A) (level : ℕ) (first : Kinds) (has_room : Type 0) : Type 0 where
  pub fronts : (s : Stretch) (a : A) → L s a → (s ≡ []) ⊎ Fronts first level s
  pub starts : has_room → (t : Placed) → IsTrue (first t.kind) → Starts L level t
  pub empty : has_room → Empty L

-- ---- what is answered is so

-- the levels of a stretch are within a bound
abbrev pub StaysWithin : ℕ → Stretch → Type 0
StaysWithin levels s = All (λ m. m.level ≤ levels) s

-- a stretch goes on to one of the language
pub record Goes {A : Type 0} (L : Language A) (s : Stretch) : Type 0 where
  pub more : Stretch
  pub value : A
  pub spelled : L (s ++ more) value

-- a stretch of the language comes first
pub record SoundValue (levels : ℕ) {A : Type 0} (L : Language A) (ts : List Placed) (a : A) (rest : List Placed) : Type 0 where
  pub stretch : Stretch
  pub is : ts ≡ tokens_of stretch ++ rest
  pub spelled : L stretch a
  pub shallow : StaysWithin levels stretch

-- a stretch comes first that goes on to one of the language
pub record SoundStop (levels : ℕ) {A : Type 0} (L : Language A) (ts : List Placed) (rest : List Placed) : Type 0 where
  pub stretch : Stretch
  pub is : ts ≡ tokens_of stretch ++ rest
  pub goes : Goes L stretch
  pub shallow : StaysWithin levels stretch

-- such a stretch comes first, and its last token alone is past the bound on levels
pub record SoundDeep (levels : ℕ) {A : Type 0} (L : Language A) (ts : List Placed) (rest : List Placed) : Type 0 where
  pub stretch : Stretch
  pub deep : Marked
  pub others : List Placed
  pub is : ts ≡ tokens_of stretch ++ rest
  pub next : rest ≡ deep.token ∷ others
  pub goes : Goes L (stretch ++ deep ∷ [])
  pub shallow : StaysWithin levels stretch
  pub past : levels < deep.level

-- what is answered of these tokens is so
abbrev pub Sound : (levels : ℕ) {A : Type 0} → Language A → List Placed → Answer A → Type 0
Sound levels L ts (Ok x) = SoundValue levels L ts x.0 x.1
Sound levels L ts (Err (Unexpected rest)) = SoundStop levels L ts rest × (0 < length rest)
Sound levels L ts (Err EndOfText) = SoundStop levels L ts []
Sound levels L ts (Err (Nesting rest)) = SoundDeep levels L ts rest

-- of at most so many tokens each answer is so
abbrev pub IsSound : (levels : ℕ) {A : Type 0} → ℕ → Language A → Reader A → Type 0
IsSound levels most L P = (ts : List Placed) → length ts ≤ most → Sound levels L ts (P ts)

-- ---- each stretch of the language is read

-- a stretch from its first token past the bound on levels on
abbrev pub from_deep : (levels : ℕ) → Stretch → Stretch
from_deep levels [] = []
from_deep levels (m ∷ s) = cond (nat_le m.level levels) (from_deep levels s) (m ∷ s)

-- what a reader has to answer of a stretch of its language, and tokens that don't go on with it
abbrev pub settled_by : {A : Type 0} → Stretch → A → List Placed → Answer A
settled_by [] a rest = Ok (a, rest)
settled_by (m ∷ s) a rest = Err (Nesting (tokens_of (m ∷ s) ++ rest))

-- from the first token past the bound on, or where there is none, the whole
abbrev pub settled : (levels : ℕ) {A : Type 0} → Stretch → A → List Placed → Answer A
settled levels s a rest = settled_by (from_deep levels s) a rest

-- of at most so many tokens a stretch is read, where none of these kinds comes after it
abbrev pub IsComplete : (levels : ℕ) {A : Type 0} → ℕ → Language A → Reader A → Kinds → Type 0
IsComplete levels {A} most L P goes_on =
    (s : Stretch) (a : A) (rest : List Placed) → L s a → length (tokens_of s ++ rest) ≤ most → next_is goes_on rest ≡ false
    → P (tokens_of s ++ rest) ≡ settled levels s a rest

-- ---- an answer rests on the tokens up to the one that it names

-- the same is answered at this token, whatever comes behind it
pub record Stands {A : Type 0} (most : ℕ) (P : Reader A) (ts : List Placed) (x : Placed) (rest : List Placed) (answer : List Placed → Answer A) : Type 0 where
  pub front : List Placed
  pub is : ts ≡ front ++ x ∷ rest
  pub stays : (others : List Placed) → length (front ++ x ∷ others) ≤ most → P (front ++ x ∷ others) ≡ answer (x ∷ others)

-- where all is read, no token that comes next is unexpected
abbrev pub Closes : {A : Type 0} → ℕ → Reader A → List Placed → Type 0
Closes most P ts =
    (x : Placed) (others : List Placed) → length (ts ++ x ∷ others) ≤ most → P (ts ++ x ∷ others) ≡ Err (Unexpected (x ∷ others)) → ⊥

-- where a value is answered
abbrev pub LocalValue : {A : Type 0} → ℕ → Reader A → List Placed → A → List Placed → Type 0
LocalValue most P ts a [] = Closes most P ts
LocalValue most P ts a (x ∷ rest) = Stands most P ts x rest (λ r. Ok (a, r))

-- where a token is answered at which reading stops
abbrev pub LocalStop : {A : Type 0} → ℕ → Reader A → List Placed → (List Placed → Stop) → List Placed → Type 0
LocalStop most P ts stop [] = ⊥
LocalStop most P ts stop (x ∷ rest) = Stands most P ts x rest (λ r. Err (stop r))

-- an answer rests on the tokens up to the one that it names
abbrev pub Local : {A : Type 0} → ℕ → Reader A → List Placed → Answer A → Type 0
Local most P ts (Ok x) = LocalValue most P ts x.0 x.1
Local most P ts (Err (Unexpected rest)) = LocalStop most P ts (λ r. Unexpected r) rest
Local most P ts (Err EndOfText) = Unit {0}
Local most P ts (Err (Nesting rest)) = LocalStop most P ts (λ r. Nesting r) rest

-- of at most so many tokens each answer does
abbrev pub IsLocal : {A : Type 0} → ℕ → Reader A → Type 0
IsLocal most P = (ts : List Placed) → length ts ≤ most → Local most P ts (P ts)

-- ---- a language is read exactly

-- of at most so many tokens a reader reads a language exactly. A complete stretch goes on with these kinds alone
pub record ExactAt (levels : ℕ) {A : Type 0} (most : ℕ) (L : Language A) (P : Reader A) (goes_on : Kinds) (has_room : Type 0) : Type 0 where
  pub sound : has_room → IsSound levels most L P
  pub complete : IsComplete levels most L P goes_on
  pub local : has_room → IsLocal most P

-- of however many tokens
pub record Exact (levels : ℕ) {A : Type 0} (L : Language A) (P : Reader A) (goes_on : Kinds) (has_room : Type 0) : Type 0 where
  pub exact : (most : ℕ) → ExactAt levels most L P goes_on has_room
