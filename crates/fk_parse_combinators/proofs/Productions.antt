-- Productions: languages with their shapes, and the readers that read them exactly. Each is put together as its grammar is.
use Rattle.std.proofs.Common.{◌≡◌, ℕ, ◌≤◌, Option, Some}
use Rattle.fk_lex.specs.declared.token.TokenKind.{TokenKind}
use Rattle.fk_lex.specs.declared.token.TokenKind.TheVariants as kind
use Rattle.fk_parse_combinators.specs.Languages.{Placed, Language, nothing, token, telling, ◌then◌, ◌or◌, making, many, maybe}
use Rattle.fk_parse_combinators.specs.Readers.{Reader, expect, expect_told, giving, ◌and◌, by_next, optional, repeated, tells}
use Rattle.fk_parse_combinators.proofs.Sets.{Kinds, none, ◌∪◌, Apart, Within, none_apart}
use Rattle.fk_parse_combinators.proofs.Exact.{Example, Shape, LooseShape, Exact}
use Rattle.fk_parse_combinators.proofs.Token.{example_token, shape_token, shape_telling, exact_token, exact_telling}
use Rattle.fk_parse_combinators.proofs.Shapes.{example_then, shape_lower, shape_kinds, shape_nothing, shape_making, loose_making, shape_then, shape_loose_then, shape_or, loose_maybe, loose_many, example_empty}
use Rattle.fk_parse_combinators.proofs.Then.{exact_making, exact_then, exact_then_loose, exact_wider}
use Rattle.fk_parse_combinators.proofs.Or.{exact_or}
use Rattle.fk_parse_combinators.proofs.Many.{exact_maybe, exact_many}
use Rattle.fk_parse_combinators.specs.Kinds.{just}

-- a language that isn't empty is read exactly: its stretches begin with the first kinds at this level or deeper, and go on with the last
pub record IsRead (levels : ℕ) {A : Type 0} (L : Language A) (P : Reader A) (level : ℕ) (first goes_on : Kinds) (room : Type 0) : Type 0 where
  pub shape : Shape L level first room
  pub exact : Exact levels L P goes_on room

-- a language that has the empty stretch too
pub record IsLooselyRead (levels : ℕ) {A : Type 0} (L : Language A) (P : Reader A) (level : ℕ) (first goes_on : Kinds) (room : Type 0) : Type 0 where
  pub shape : LooseShape L level first room
  pub exact : Exact levels L P goes_on room

-- a token of a kind
pub reads_token : {levels : ℕ} {room : Type 0} (level : ℕ) (k : TokenKind) → level ≤ levels
    → IsRead levels (token level k) (expect k) level (just k) none room
reads_token level k h = record { shape = shape_token level k; exact = exact_token level k h }

-- a token whose kind tells something: name a kind, and what it tells
pub reads_telling : {levels : ℕ} {room : Type 0} {A : Type 0} (level : ℕ) (told : TokenKind → Option A) (k : TokenKind) (a : A) → told k ≡ Some a → level ≤ levels
    → IsRead levels (telling level told) (expect_told told) level (tells told) none room
reads_telling level told k a e h = record { shape = shape_telling level told k a e; exact = exact_telling level told k a e h }

-- what is made of a language
pub reads_making : {levels : ℕ} {room : Type 0} {A B : Type 0} (f : A → B) {L : Language A} {P : Reader A} {level : ℕ} {first goes_on : Kinds}
    → IsRead levels L P level first goes_on room → IsRead levels (making f L) (giving f P) level first goes_on room
reads_making f w = record { shape = shape_making f w.shape; exact = exact_making f w.exact }

-- what is made of a language that may be empty
pub loosely_making : {levels : ℕ} {room : Type 0} {A B : Type 0} (f : A → B) {L : Language A} {P : Reader A} {level : ℕ} {first goes_on : Kinds}
    → IsLooselyRead levels L P level first goes_on room → IsLooselyRead levels (making f L) (giving f P) level first goes_on room
loosely_making f w = record { shape = loose_making f w.shape; exact = exact_making f w.exact }

-- one after another
pub reads_then : {levels : ℕ} {room : Type 0} {A B : Type 0} {L : Language A} {M : Language B} {P : Reader A} {Q : Reader B} {level lower : ℕ} {first second f g : Kinds}
    → IsRead levels L P level first f room → IsRead levels M Q lower second g room → Apart f second
    → IsRead levels (L then M) (P and Q) level first g room
reads_then v w apart = record { shape = shape_then v.shape w.shape.example; exact = exact_then v.exact w.exact w.shape apart }

-- the second may be empty
pub reads_then_loose : {levels : ℕ} {room : Type 0} {A B : Type 0} {L : Language A} {M : Language B} {P : Reader A} {Q : Reader B} {level lower : ℕ} {first second f g : Kinds}
    → IsRead levels L P level first f room → IsLooselyRead levels M Q lower second g room → Apart f second
    → IsRead levels (L then M) (P and Q) level first (f ∪ g) room
reads_then_loose v w apart = record {
  shape = shape_then v.shape (λ r. example_empty (w.shape.empty r));
  exact = exact_then_loose v.exact w.exact w.shape apart;
}

-- the first may be empty
pub reads_loose_then : {levels : ℕ} {room : Type 0} {A B : Type 0} {L : Language A} {M : Language B} {P : Reader A} {Q : Reader B} {level : ℕ} {first second f g : Kinds}
    → IsLooselyRead levels L P level first f room → IsRead levels M Q level second g room → Apart f second
    → IsRead levels (L then M) (P and Q) level (first ∪ second) g room
reads_loose_then v w apart = record { shape = shape_loose_then v.shape w.shape; exact = exact_then v.exact w.exact w.shape apart }

-- one or another
pub reads_or : {levels : ℕ} {room : Type 0} {A : Type 0} {L M : Language A} {P Q : Reader A} {level : ℕ} {first second f g : Kinds}
    → IsRead levels L P level first f room → IsRead levels M Q level second g room → Apart first second
    → IsRead levels (L or M) (by_next first P Q) level (first ∪ second) (f ∪ g) room
reads_or v w apart = record { shape = shape_or v.shape w.shape; exact = exact_or v.exact w.exact v.shape w.shape apart }

-- one or nothing
pub reads_maybe : {levels : ℕ} {room : Type 0} {A : Type 0} {L : Language A} {P : Reader A} {level : ℕ} {first f : Kinds}
    → IsRead levels L P level first f room → IsLooselyRead levels (maybe L) (optional first P) level first (f ∪ first) room
reads_maybe w = record { shape = loose_maybe w.shape; exact = exact_maybe w.exact w.shape }

-- any number
pub reads_many : {levels : ℕ} {room : Type 0} {A : Type 0} {L : Language A} {P : Reader A} {level : ℕ} {first f : Kinds}
    → IsRead levels L P level first f room → Apart f first → IsLooselyRead levels (many L) (repeated first P) level first (f ∪ first) room
reads_many w apart = record { shape = loose_many w.shape; exact = exact_many w.exact w.shape apart }

-- at a lower level
pub reads_lower : {levels : ℕ} {room : Type 0} {A : Type 0} {L : Language A} {P : Reader A} {level lower : ℕ} {first f : Kinds}
    → lower ≤ level → IsRead levels L P level first f room → IsRead levels L P lower first f room
reads_lower below w = record { shape = shape_lower below w.shape; exact = w.exact }

-- two sets of the same first kinds
pub reads_kinds : {levels : ℕ} {room : Type 0} {A : Type 0} {L : Language A} {P : Reader A} {level : ℕ} {first f : Kinds} (other : Kinds) → Within first other → Within other first
    → IsRead levels L P level first f room → IsRead levels L P level other f room
reads_kinds other there back w = record { shape = shape_kinds other there back w.shape; exact = w.exact }

-- more kinds may go on
pub reads_wider : {levels : ℕ} {room : Type 0} {A : Type 0} {L : Language A} {P : Reader A} {level : ℕ} {first f : Kinds} (g : Kinds) → Within f g
    → IsRead levels L P level first f room → IsRead levels L P level first g room
reads_wider g within w = record { shape = w.shape; exact = exact_wider g within w.exact }

-- a language with no stretch, where there is no room
pub exact_nothing : {levels : ℕ} {room : Type 0} {A : Type 0} {P : Reader A} {goes_on : Kinds} → (room → ⊥) → Exact levels nothing P goes_on room
exact_nothing no_room = record { exact = λ most. record { sound = λ r. absurd (no_room r); complete = λ s a rest l. absurd l; local = λ r. absurd (no_room r) } }

pub reads_nothing : {levels : ℕ} {room : Type 0} {A : Type 0} (P : Reader A) (level : ℕ) (first goes_on : Kinds) → (room → ⊥) → IsRead levels nothing P level first goes_on room
reads_nothing P level first goes_on no_room = record { shape = shape_nothing level first no_room; exact = exact_nothing no_room }

-- ---- in parentheses

-- what stands in parentheses at a level
abbrev pub in_parentheses : {A : Type 0} → ℕ → Language A → Language (Placed × (A × Placed))
in_parentheses level L = token level kind.OpenParenthesis then L then token level kind.CloseParenthesis

-- it has an example where there is one of what stands there
pub example_in_parentheses : {A : Type 0} {L : Language A} (level : ℕ) → Example L → Example (in_parentheses level L)
example_in_parentheses level x =
    example_then (example_token level kind.OpenParenthesis)
    (example_then x (example_token level kind.CloseParenthesis))

-- a parenthesis begins it
pub shape_in_parentheses : {room : Type 0} {A : Type 0} {L : Language A} (level : ℕ) → (room → Example L) → Shape (in_parentheses level L) level (just kind.OpenParenthesis) room
shape_in_parentheses level x =
    shape_then (shape_token level kind.OpenParenthesis)
    (λ r. example_then (x r) (example_token level kind.CloseParenthesis))

-- it is read exactly, if a closing parenthesis doesn't go on with what stands there
pub reads_in_parentheses : {levels : ℕ} {room : Type 0} {A : Type 0} {L : Language A} {P : Reader A} {level lower : ℕ} {first f : Kinds}
    → level ≤ levels → IsRead levels L P lower first f room → Apart f (just kind.CloseParenthesis)
    → IsRead levels (in_parentheses level L) (expect kind.OpenParenthesis and P and expect kind.CloseParenthesis) level (just kind.OpenParenthesis) none room
reads_in_parentheses {level = level} {first = first} h w apart =
    reads_then (reads_token level kind.OpenParenthesis h)
    (reads_then w (reads_token level kind.CloseParenthesis h) apart)
    (none_apart first)
