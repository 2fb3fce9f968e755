-- Statements are read by what stands before the last statement in them as one by one.
use Rattle.std.proofs.Common.{◌≡◌, ℕ, zero, suc, ◌+◌, List, [], ◌∷◌, Bool, true, false, Ok, Err, refl, sym, ap, ◌∙◌, arith}
use Rattle.std.proofs.lemmas.Bool.{or_left, or_right}
use Rattle.fk_syntax.specs.Program.{Statement, Farm, Seq}
use Rattle.fk_lex.specs.declared.token.TokenKind.TheVariants as kind
use Rattle.fk_parse_combinators.specs.Languages.{Placed, spot}
use Rattle.fk_parse_combinators.specs.Reads.{Answer}
use Rattle.fk_parse_combinators.specs.Kinds.{just}
use Rattle.fk_parse_combinators.specs.Readers.{Reader, after, giving, ◌and◌, expect, next_is, either, by_next, unexpected}
use Rattle.fk_parse_combinators.proofs.Sets.{Kinds, ◌∪◌, Apart}
use Rattle.fk_parse_combinators.proofs.EachKind.{apart_by}
use Rattle.fk_parse_combinators.proofs.Or.{by_next-yes, by_next-no}
use Rattle.fk_expr.specs.Reading.{inner}
use Rattle.fk_parse_declarations.specs.Reading.{begins_parameter}
use Rattle.fk_parse_statements.specs.Reading.{begins_statement, statements_with, read_while, read_for, read_start, read_fork, read_statement}
use Rattle.fk_parse_statements.specs.Parts.{read_nested}
use Rattle.fk_parse_headers.specs.Parts.{read_worded}
use Rattle.fk_parse_headers.specs.Headers.{Header, OfFarm, OfSeq, headed, begins_header, read_while_header, read_for_header, read_start_header, read_fork_header}
use Rattle.fk_parse_statements.specs.Parts.{read_headed, read_any}

-- ---- a header is read as a whole

unfoldable bind : {A B : Type 0} → Answer A → (A × List Placed → Answer B) → Answer B
bind (Ok x) f = f x
bind (Err e) f = Err e

after_is : {A B : Type 0} (a : Answer A) (f : A → List Placed → Answer B) → after a f ≡ bind a (λ x. f x.0 x.1)
unfolding bind
after_is (Ok x) f = refl
after_is (Err e) f = refl

bind_bind : {A B C : Type 0} (a : Answer A) (f : A × List Placed → Answer B) (g : B × List Placed → Answer C) → bind (bind a f) g ≡ bind a (λ x. bind (f x) g)
unfolding bind
bind_bind (Ok x) f g = refl
bind_bind (Err e) f g = refl

bind_done : {A B : Type 0} (x : A × List Placed) (f : A × List Placed → Answer B) → bind (Ok x) f ≡ f x
unfolding bind
bind_done x f = refl

ruleset steps = (after_is, bind_bind, bind_done)

-- what a header begins, with the statement behind it
abbrev whole : ℕ → Reader Header → Reader Statement
whole left P = giving (λ (header, body). headed header body) (P and read_nested left)

while_is : (left : ℕ) (ts : List Placed) → read_while (inner left) (statements_with left) ts ≡ whole left (read_while_header left) ts
unfolding read_while
while_is left ts = simp steps

for_is : (left : ℕ) (ts : List Placed) → read_for (inner left) (statements_with left) ts ≡ whole left (read_for_header left) ts
unfolding read_for
for_is left ts = simp steps

start_is : (left : ℕ) (ts : List Placed) → read_start (inner left) (statements_with left) ts ≡ whole left (read_start_header left) ts
unfolding read_start
start_is left ts = simp steps

farm_is : (left : ℕ) (ts : List Placed) → giving (λ (word, inside). Farm (spot word) inside) (expect kind.Farm and read_nested left) ts ≡ whole left (giving (λ t. OfFarm (spot t)) (expect kind.Farm)) ts
farm_is left ts = simp steps

seq_is : (left : ℕ) (ts : List Placed) → giving (λ (word, inside). Seq (spot word) inside) (expect kind.Seq and read_nested left) ts ≡ whole left (giving (λ t. OfSeq (spot t)) (expect kind.Seq)) ts
seq_is left ts = simp steps

fork_is : (left : ℕ) (ts : List Placed) → read_fork (inner left) (statements_with left) ts ≡ whole left (read_fork_header left) ts
unfolding read_fork
fork_is left ts = simp steps

-- ---- one reader or another

-- two readers each answer as another does
alike : {A : Type 0} (is : Kinds) (P P' Q Q' : Reader A) → ((ts : List Placed) → P ts ≡ P' ts) → ((ts : List Placed) → Q ts ≡ Q' ts)
    → (ts : List Placed) → by_next is P Q ts ≡ by_next is P' Q' ts
alike is P P' Q Q' p q ts = by (next_is is ts)
  where
    by : (b : Bool) → either b P Q ts ≡ either b P' Q' ts
    by true = p ts
    by false = q ts

-- the second does
other : {A : Type 0} (is : Kinds) (P Q Q' : Reader A) → ((ts : List Placed) → Q ts ≡ Q' ts) → (ts : List Placed) → by_next is P Q ts ≡ by_next is P Q' ts
other is P Q Q' q = alike is P P Q Q' (λ ts. refl) q

-- what is made of a header is the same where the header is
whole_same : (left : ℕ) (P Q : Reader Header) (ts : List Placed) → P ts ≡ Q ts → whole left P ts ≡ whole left Q ts
whole_same left P Q ts e = rw e refl

-- two headers are one or the other
joined : (left : ℕ) (f g : Kinds) (P Q : Reader Header) (R : Reader Statement) (ts : List Placed)
    → by_next f (whole left P) (by_next g (whole left Q) R) ts ≡ by_next (f ∪ g) (whole left (by_next f P Q)) R ts
joined left f g P Q R [] = refl
joined left f g P Q R (t ∷ ts) = by (f t.kind) refl (g t.kind) refl
  where
    by : (a : Bool) → f t.kind ≡ a → (b : Bool) → g t.kind ≡ b
        → by_next f (whole left P) (by_next g (whole left Q) R) (t ∷ ts) ≡ by_next (f ∪ g) (whole left (by_next f P Q)) R (t ∷ ts)
    by true d b e =
        by_next-yes f (whole left P) (by_next g (whole left Q) R) (t ∷ ts) d
        ∙ sym (by_next-yes (f ∪ g) (whole left (by_next f P Q)) R (t ∷ ts) (or_left (f t.kind) (g t.kind) d)
        ∙ whole_same left (by_next f P Q) P (t ∷ ts) (by_next-yes f P Q (t ∷ ts) d))
    by false d true e =
        by_next-no f (whole left P) (by_next g (whole left Q) R) (t ∷ ts) d ∙ by_next-yes g (whole left Q) R (t ∷ ts) e
        ∙ sym (by_next-yes (f ∪ g) (whole left (by_next f P Q)) R (t ∷ ts) (or_right (f t.kind) (g t.kind) e)
        ∙ whole_same left (by_next f P Q) Q (t ∷ ts) (by_next-no f P Q (t ∷ ts) d))
    by false d false e =
        by_next-no f (whole left P) (by_next g (whole left Q) R) (t ∷ ts) d ∙ by_next-no g (whole left Q) R (t ∷ ts) e
        ∙ sym (by_next-no (f ∪ g) (whole left (by_next f P Q)) R (t ∷ ts) (rw (d, e) refl))

-- of readers for kinds that are apart, either may be asked for first
later : {A : Type 0} (f g : Kinds) → Apart f g → (P Q R : Reader A) (ts : List Placed) → by_next f P (by_next g Q R) ts ≡ by_next g Q (by_next f P R) ts
later f g apart P Q R [] = refl
later f g apart P Q R (t ∷ ts) = by (f t.kind) refl (g t.kind) refl
  where
    by : (a : Bool) → f t.kind ≡ a → (b : Bool) → g t.kind ≡ b → by_next f P (by_next g Q R) (t ∷ ts) ≡ by_next g Q (by_next f P R) (t ∷ ts)
    by true d true e = absurd (apart t.kind d e)
    by true d false e =
        by_next-yes f P (by_next g Q R) (t ∷ ts) d ∙ sym (by_next-no g Q (by_next f P R) (t ∷ ts) e ∙ by_next-yes f P R (t ∷ ts) d)
    by false d true e =
        by_next-no f P (by_next g Q R) (t ∷ ts) d ∙ by_next-yes g Q R (t ∷ ts) e ∙ sym (by_next-yes g Q (by_next f P R) (t ∷ ts) e)
    by false d false e =
        by_next-no f P (by_next g Q R) (t ∷ ts) d ∙ by_next-no g Q R (t ∷ ts) e
        ∙ sym (by_next-no g Q (by_next f P R) (t ∷ ts) e ∙ by_next-no f P R (t ∷ ts) d)

-- behind three others
behind_three : {A : Type 0} (f a b c : Kinds) → Apart f a → Apart f b → Apart f c → (P X Y Z R : Reader A) (ts : List Placed)
    → by_next f P (by_next a X (by_next b Y (by_next c Z R))) ts ≡ by_next a X (by_next b Y (by_next c Z (by_next f P R))) ts
behind_three f a b c i j k P X Y Z R ts =
    later f a i P X (by_next b Y (by_next c Z R)) ts
    ∙ other a X (by_next f P (by_next b Y (by_next c Z R))) (by_next b Y (by_next c Z (by_next f P R)))
    (λ ts. later f b j P Y (by_next c Z R) ts ∙ other b Y (by_next f P (by_next c Z R)) (by_next c Z (by_next f P R)) (later f c k P Z R) ts) ts

-- ---- any statement

-- the words are apart, and from what begins a declaration
while_apart : Apart (just kind.While) (just kind.Do)
unfolding just
while_apart = apart_by (just kind.While) (just kind.Do) refl (λ v u. refl)

semicolon_apart_if : Apart (just kind.Semicolon) (just kind.If)
unfolding just
semicolon_apart_if = apart_by (just kind.Semicolon) (just kind.If) refl (λ v u. refl)

semicolon_apart_do : Apart (just kind.Semicolon) (just kind.Do)
unfolding just
semicolon_apart_do = apart_by (just kind.Semicolon) (just kind.Do) refl (λ v u. refl)

semicolon_apart_header : Apart (just kind.Semicolon) begins_header
unfolding just
semicolon_apart_header = apart_by (just kind.Semicolon) begins_header refl (λ v u. refl)

parameter_apart_if : Apart begins_parameter (just kind.If)
unfolding just
parameter_apart_if = apart_by begins_parameter (just kind.If) refl (λ v u. refl)

parameter_apart_do : Apart begins_parameter (just kind.Do)
unfolding just
parameter_apart_do = apart_by begins_parameter (just kind.Do) refl (λ v u. refl)

parameter_apart_header : Apart begins_parameter begins_header
unfolding just
parameter_apart_header = apart_by begins_parameter begins_header refl (λ v u. refl)

-- those that begin with a header, from the last on
abbrev with_fork : ℕ → Reader Statement → Reader Statement
with_fork left R = by_next (just kind.Fork) (read_fork (inner left) (statements_with left)) R

abbrev seq_header : Reader Header
seq_header = giving (λ t. OfSeq (spot t)) (expect kind.Seq)

abbrev seq_statement : ℕ → Reader Statement
seq_statement left = giving (λ (word, inside). Seq (spot word) inside) (expect kind.Seq and read_nested left)

abbrev with_seq : ℕ → Reader Statement → Reader Statement
with_seq left R = by_next (just kind.Seq) (seq_statement left) (with_fork left R)

seq_on : (left : ℕ) (R : Reader Statement) (ts : List Placed)
    → with_seq left R ts ≡ by_next (just kind.Seq ∪ just kind.Fork) (whole left (by_next (just kind.Seq) seq_header (read_fork_header left))) R ts
seq_on left R ts =
    alike (just kind.Seq) (seq_statement left) (whole left seq_header) (with_fork left R) (by_next (just kind.Fork) (whole left (read_fork_header left)) R) (seq_is left)
    (alike (just kind.Fork) (read_fork (inner left) (statements_with left)) (whole left (read_fork_header left)) R R (fork_is left) (λ ts. refl)) ts
    ∙ joined left (just kind.Seq) (just kind.Fork) seq_header (read_fork_header left) R ts

-- one more word before them
word_on : (left : ℕ) (f g : Kinds) (S X R : Reader Statement) (P Q : Reader Header)
    → ((ts : List Placed) → S ts ≡ whole left P ts) → ((ts : List Placed) → X ts ≡ by_next g (whole left Q) R ts)
    → (ts : List Placed) → by_next f S X ts ≡ by_next (f ∪ g) (whole left (by_next f P Q)) R ts
word_on left f g S X R P Q s x ts = alike f S (whole left P) X (by_next g (whole left Q) R) s x ts ∙ joined left f g P Q R ts

-- all of them, where `do` stands behind `while`
headers : (left : ℕ) (D R : Reader Statement) (ts : List Placed)
    → by_next (just kind.While) (read_while (inner left) (statements_with left))
    (by_next (just kind.Do) D
    (by_next (just kind.For) (read_for (inner left) (statements_with left))
    (by_next (just kind.Start) (read_start (inner left) (statements_with left))
    (by_next (just kind.Farm) (giving (λ (word, inside). Farm (spot word) inside) (expect kind.Farm and read_nested left))
    (with_seq left R))))) ts
    ≡ by_next (just kind.Do) D (by_next begins_header (read_headed left) R) ts
headers left D R ts =
    later (just kind.While) (just kind.Do) while_apart (read_while (inner left) (statements_with left)) D _ ts
    ∙ other (just kind.Do) D _ _
    (word_on left (just kind.While) _ _ _ R (read_while_header left) _ (while_is left)
    (word_on left (just kind.For) _ _ _ R (read_for_header left) _ (for_is left)
    (word_on left (just kind.Start) _ _ _ R (read_start_header left) _ (start_is left)
    (word_on left (just kind.Farm) (just kind.Seq ∪ just kind.Fork) _ _ R (giving (λ t. OfFarm (spot t)) (expect kind.Farm)) (by_next (just kind.Seq) seq_header (read_fork_header left)) (farm_is left)
    (seq_on left R))))) ts

-- any statement is read so
pub any_is : (left : ℕ) (ts : List Placed) → read_statement (inner left) (statements_with left) ts ≡ read_any left ts
unfolding read_statement
any_is left ts =
    other (just kind.OpenBrace) _ _ _ (λ ts.
    other (just kind.Semicolon) _ _ _ (λ ts.
    other begins_parameter _ _ _ (other (just kind.If) _ _ _ (headers left _ (read_worded left))) ts
    ∙ behind_three begins_parameter (just kind.If) (just kind.Do) begins_header parameter_apart_if parameter_apart_do parameter_apart_header _ _ _ _ _ ts) ts
    ∙ behind_three (just kind.Semicolon) (just kind.If) (just kind.Do) begins_header semicolon_apart_if semicolon_apart_do semicolon_apart_header _ _ _ _ _ ts) ts

-- in a statement, where a level is left
pub nested_reads : (left inside : ℕ) (ts : List Placed) → next_is begins_statement ts ≡ true → inside + 1 ≡ left → read_nested left ts ≡ read_any inside ts
nested_reads zero inside ts n h = absurd (omega arith)
nested_reads (suc left) inside ts n h =
    let same : left ≡ inside = omega arith in
    by_next-yes begins_statement (read_statement (inner left) (statements_with left)) unexpected ts n ∙ any_is left ts ∙ ap (λ k. read_any k ts) same
