-- How far what stands at a position goes, and where the next position is.
use Rattle.std.proofs.Common.{◌≡◌, ℕ, ◌+◌, ◌<◌, ◌≤◌, ◌==◌, ◌&&◌, inl, inr, ⊎_elim, Bool, true, false, Option, Some, None, List, [], ◌∷◌, ◌++◌, length, take, get_or, refl, sym, ap, subst, ◌∙◌, arith, if◌then◌else◌, length-append}
use Rattle.std.specs.List.{list_all}
use Rattle.std.proofs.lemmas.Bool.{cases_lt, both_ways}
use Rattle.std.proofs.lemmas.Bool.Decides.{nat_tests}
use Rattle.std.proofs.lemmas.Grind.{common_steps}
use Rattle.std.proofs.lemmas.List.{get_or_past}
use Rattle.std.proofs.lemmas.List.Sums.{prefix_len-le-length, count_by-le-length}
use Rattle.fk_lex.specs.declared.step.Beginning.{Beginning}
use Rattle.fk_lex.specs.declared.step.Beginning.TheVariants as begins
use Rattle.fk_lex.specs.declared.step.FaultKind.TheVariants.{BadByte, OpenComment, OpenString, WideNumber}
use Rattle.fk_lex.specs.declared.step.Step.{Step}
use Rattle.fk_lex.specs.declared.step.Step.TheVariants.{Gap, Token, Fault}
use Rattle.fk_lex.specs.declared.token.TokenKind.{TokenKind}
use Rattle.fk_lex.specs.declared.token.TokenKind.TheVariants.{Number, Text as TextKind}
use Rattle.fk_lex.specs.Bytes.{is_word_byte, is_plain, escape_value}
use Rattle.fk_lex.specs.Kinds.{kind_of, Longest}
use Rattle.fk_lex.specs.Positions.{in_line, newlines, last_line, only_blanks}
use Rattle.fk_lex.specs.Steps
use Rattle.fk_lex.specs.Texts.{Part, Bad, bytes_of, ClosedStep, TextStep}
use Rattle.fk_lex.proofs.Parts.{bytes-append}
use Rattle.fk_lex.proofs.Tests.{same_byte}

-- positions

-- a line is not longer than its text
pub short_line : (before : List ℕ) → length (last_line before) ≤ length before
short_line [] = omega arith
short_line (c ∷ cs) = short_if (list_all in_line (c ∷ cs)) c cs (last_line cs) (short_line cs)
  where
    short_if : (b : Bool) (c : ℕ) (cs line : List ℕ) → length line ≤ length cs → length (if b then c ∷ cs else line) ≤ length (c ∷ cs)
    short_if true c cs line short = omega arith
    short_if false c cs line short = omega arith

-- nor has it more lines than bytes
pub few_newlines : (before : List ℕ) → newlines before ≤ length before
few_newlines before = count_by-le-length (λ c. c == 10) before

-- what stands at a position is inside the text, and a piece takes a byte at least
abbrev pub Within : Step → List ℕ → Type 0
Within (Gap n) text = (0 < n) × (n ≤ length text)
Within (Token n kind) text = (0 < n) × (n ≤ length text)
Within (Fault n kind) text = n < length text

-- an index that has a byte other than 0 is inside the text
pub byte_within : (text : List ℕ) (i c : ℕ) → get_or text i 0 ≡ c → 0 < c → i < length text
byte_within text i c is some =
    ⊎_elim (λ inside. inside) (λ past. let none = get_or_past text i 0 past in absurd (omega arith)) (cases_lt i (length text))

line_some : (text : List ℕ) → 0 < length text → (get_or text 0 0 ≡ 10 → ⊥) → 0 < Steps.line_length text
line_some [] some other = absurd (omega arith)
line_some (c ∷ cs) some other = grind (arith, nat_tests, common_steps)

line_within : (text : List ℕ) → Steps.line_length text ≤ length text
line_within text = prefix_len-le-length in_line text

newline_is_blank : (c d : ℕ) → c ≡ 10 → Steps.beginning_of c d ≡ begins.Blank
newline_is_blank c d is = subst (λ c. Steps.beginning_of c d ≡ begins.Blank) (sym is) refl

comment_no_newline : (text : List ℕ) → begins.LineComment ≡ Steps.beginning text → get_or text 0 0 ≡ 10 → ⊥
comment_no_newline text is newline = let blank = newline_is_blank (get_or text 0 0) (get_or text 1 0) newline in cc

directive_no_newline : (text : List ℕ) → begins.Directive ≡ Steps.beginning text → get_or text 0 0 ≡ 10 → ⊥
directive_no_newline text is newline = let blank = newline_is_blank (get_or text 0 0) (get_or text 1 0) newline in cc

-- one case for each beginning

within_by : (s t : Step) (text : List ℕ) → s ≡ t → Within t text → Within s text
within_by s t text is within = subst (λ s. Within s text) (sym is) within

comment_within : (text : List ℕ) (s : Step) → 0 < length text → Steps.CommentStep text s → Within s text
comment_within text s some (inl a) =
    let last = byte_within text (a.0 + 1) 47 a.1.ends.1 (omega arith) in
    within_by s (Gap (a.0 + 2)) text a.2 (omega arith, omega arith)
comment_within text s some (inr a) = within_by s (Fault 0 OpenComment) text a.1 some

directive_by : (b : Bool) (n : ℕ) (text : List ℕ) → 0 < length text → 0 < n → n ≤ length text → Within (if b then Gap n else Fault 0 BadByte) text
directive_by true n text some more within = (more, within)
directive_by false n text some more within = some

directive_within : (only_blanks : Bool) (text : List ℕ) → 0 < length text → begins.Directive ≡ Steps.beginning text → Within (Steps.directive_step only_blanks text) text
unfolding Steps.directive_step
directive_within only_blanks text some is =
    directive_by (only_blanks && Steps.is_include (take (Steps.line_length text) text)) (Steps.line_length text) text some (line_some text some (directive_no_newline text is)) (line_within text)

escaped_within : (found : Option ℕ) (text : List ℕ) → 3 < length text → Within (Steps.escaped found) text
escaped_within None text more = omega arith
escaped_within (Some value) text more = (omega arith, omega arith)

escape_by : (b : Bool) (found : Option ℕ) (text : List ℕ) → 0 < length text → (b ≡ true → 3 < length text) → Within (if b then Steps.escaped found else Fault 0 BadByte) text
escape_by true found text some more = escaped_within found text (more refl)
escape_by false found text some more = some

character_by : (b : Bool) (c : ℕ) (other : Step) (text : List ℕ) → (b ≡ true → 2 < length text) → Within other text → Within (if b then Token 3 (Number c false) else other) text
character_by true c other text more within = let here = more refl in (omega arith, omega arith)
character_by false c other text more within = within

second_of : (a b : Bool) → (a && b) ≡ true → b ≡ true
second_of true b both = both
second_of false b both = cc

character_within : (text : List ℕ) → 0 < length text → Within (Steps.character_step text) text
unfolding Steps.character_step
character_within text some =
    let c = get_or text 1 0 in
    let d = get_or text 2 0 in
    let e = get_or text 3 0 in
    character_by (is_plain 39 c && (d == 39)) c _ text
    (λ both. byte_within text 2 39 (same_byte d 39 (second_of (is_plain 39 c) (d == 39) both)) (omega arith))
    (escape_by ((c == 92) && (e == 39)) (escape_value d) text some
    (λ both. byte_within text 3 39 (same_byte e 39 (second_of (c == 92) (e == 39) both)) (omega arith)))

-- texts

closed_within : (parts : List Part) (rest text : List ℕ) (s : Step) → text ≡ 34 ∷ (bytes_of parts ++ 34 ∷ rest) → ClosedStep parts s → Within s text
closed_within parts rest text s is (inl a) =
    let size = ap length is in
    let all = length-append (bytes_of parts) (34 ∷ rest) in
    within_by s (Token (length (bytes_of parts) + 2) TextKind) text a.1 (omega arith, omega arith)
closed_within parts rest text s is (inr a) =
    let first = a.1 in
    let size = ap length is in
    let all = length-append (bytes_of parts) (34 ∷ rest) in
    let split =
    ap (λ l. length (bytes_of l)) first.3 ∙ ap length (bytes-append a.0 (Bad first.0 ∷ first.1)) ∙ length-append (bytes_of a.0) (bytes_of (Bad first.0 ∷ first.1)) in
    within_by s (Fault (length (bytes_of a.0) + 1) BadByte) text a.2 (omega arith)

text_within : (text : List ℕ) (s : Step) → 0 < length text → TextStep text s → Within s text
text_within text s some (parts, rest, inl a) = closed_within parts rest text s a.0 a.2
text_within text s some (parts, rest, inr a) = within_by s (Fault 0 OpenString) text a.3 some

none_spelled_by_nothing : (kind : TokenKind) → kind_of [] ≡ Some kind → ⊥
unfolding kind_of
none_spelled_by_nothing kind is = cc

longest_some : (text : List ℕ) (n : ℕ) (kind : TokenKind) → Longest text n kind → 0 < n
longest_some text n kind longest =
    ⊎_elim (λ some. some) (λ none.
    let zero : n ≡ 0 = omega arith in
    absurd (none_spelled_by_nothing kind (subst (λ i. kind_of (take i text) ≡ Some kind) zero longest.spells))) (cases_lt 0 n)

word_byte_within : (text : List ℕ) (n : ℕ) → is_word_byte (get_or text n 0) ≡ true → n < length text
word_byte_within text n is =
    ⊎_elim (λ inside. inside) (λ past.
    absurd (both_ways (is_word_byte 0) refl (ap is_word_byte (sym (get_or_past text n 0 past)) ∙ is))) (cases_lt n (length text))

number_by : (narrow goes_on : Bool) (text : List ℕ) (n : ℕ) (kind : TokenKind) → 0 < length text → 0 < n → n ≤ length text → (goes_on ≡ true → n < length text) → Within (if narrow then (if goes_on then Fault n BadByte else Token n kind) else Fault 0 WideNumber) text
number_by false goes_on text n kind some more within inside = some
number_by true false text n kind some more within inside = (more, within)
number_by true true text n kind some more within inside = inside refl

token_or_fault_within : (text : List ℕ) (n : ℕ) (kind : TokenKind) → 0 < length text → 0 < n → n ≤ length text → Within (Steps.token_or_fault text n kind) text
unfolding Steps.token_or_fault
token_or_fault_within text n (Number value unsigned) some more within =
    number_by _ (is_word_byte (get_or text n 0)) text n (Number value unsigned) some more within (word_byte_within text n)
token_or_fault_within text n _ some more within = (more, within)

token_within : (text : List ℕ) (s : Step) → 0 < length text → Steps.TokenStep text s → Within s text
token_within text s some (inl a) =
    within_by s _ text a.3 (token_or_fault_within text a.0 a.1 some (longest_some text a.0 a.1 a.2) a.2.within)
token_within text s some (inr a) = within_by s (Fault 0 BadByte) text a.1 some

step_by_within : (b : Beginning) (before text : List ℕ) (s : Step) → b ≡ Steps.beginning text → 0 < length text → Steps.StepBy b before text s → Within s text
step_by_within begins.Blank before text s is some a = within_by s (Gap 1) text a (omega arith, omega arith)
step_by_within begins.Comment before text s is some a = comment_within text s some a
step_by_within begins.LineComment before text s is some a =
    within_by s _ text a (line_some text some (comment_no_newline text is), line_within text)
step_by_within begins.Directive before text s is some a = within_by s _ text a (directive_within (only_blanks before) text some is)
step_by_within begins.Character before text s is some a = within_by s _ text a (character_within text some)
step_by_within begins.Text before text s is some a = text_within text s some a
step_by_within begins.Other before text s is some a = token_within text s some a

pub step_within : (before text : List ℕ) (s : Step) → 0 < length text → Steps.NextStep before text s → Within s text
step_within before text s some a = step_by_within (Steps.beginning text) before text s refl some a
