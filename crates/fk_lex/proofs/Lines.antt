-- Lines and positions; a token stands in one line.
use Rattle.std.proofs.Common.{◌≡◌, ℕ, zero, suc, ◌+◌, ◌-◌, ◌<◌, ◌≤◌, ◌==◌, ◌&&◌, ◌||◌, not, inl, inr, ⊎_elim, Bool, true, false, nat_lt, Option, Some, None, List, [], ◌∷◌, ◌++◌, length, take, drop, get_or, refl, sym, ap, subst, ◌∙◌, arith, if◌then◌else◌, append_assoc, append-nil, length-append, add-zero}
use Rattle.std.specs.List.{list_all}
use Rattle.std.specs.Str.{bytes_eq}
use Rattle.std.proofs.lemmas.Bool.{both_ways, or_cases}
use Rattle.std.proofs.lemmas.Bool.Decides.{nat_tests}
use Rattle.std.proofs.lemmas.List.{take_at}
use Rattle.std.proofs.lemmas.List.Folds.{list_all-append}
use Rattle.std.proofs.lemmas.List.Sums.{sum_by-append}
use Rattle.std.proofs.lemmas.Slice.Eq.{bytes_eq-Decides}
use Rattle.fk_lex.specs.declared.position.Position.{Position}
use Rattle.fk_lex.specs.declared.step.Beginning.{Beginning}
use Rattle.fk_lex.specs.declared.step.Beginning.TheVariants as begins
use Rattle.fk_lex.specs.declared.step.FaultKind.TheVariants.{BadByte, WideNumber}
use Rattle.fk_lex.specs.declared.step.Step.TheVariants.{Gap, Token, Fault}
use Rattle.fk_lex.specs.declared.token.TokenKind.{TokenKind}
use Rattle.fk_lex.specs.declared.token.TokenKind.TheVariants.{Number}
use Rattle.fk_lex.specs.Bytes.{is_blank, is_letter, is_digit, is_word_byte, digit_value, is_suffix, is_x, is_plain, escape_value}
use Rattle.fk_lex.specs.Kinds.{kind_of, lookup, signs, keywords, or_word, is_numeral, is_hexadecimal, is_tail, is_empty, numeral_value, is_unsigned}
use Rattle.fk_lex.specs.Moves.{position_of, next, after, place_of}
use Rattle.fk_lex.specs.Positions.{in_line, newlines, last_line, place_behind, only_blanks}
use Rattle.fk_lex.specs.Steps.{CommentStep, TokenStep, token_or_fault, beginning, is_include, line_length, directive_step, character_step, escaped, StepBy, NextStep}
use Rattle.fk_lex.specs.Texts.{Part, Plain, Escape, Bad, bytes_of, is_some_byte, AreParts, AreGood, ClosedStep, TextStep}
use Rattle.fk_lex.proofs.Extents.{short_line}
use Rattle.fk_lex.proofs.Tests.{if_false, same_byte, both_true}

and_true : (a b : Bool) → a ≡ true → b ≡ true → (a && b) ≡ true
and_true a b is also = ap (λ a. a && b) is ∙ also

not_true : (b : Bool) → not b ≡ true → b ≡ false
not_true true is = cc
not_true false is = refl

not_false : (b : Bool) → b ≡ false → not b ≡ true
not_false b is = ap not is

-- positions

no_blanks : (a b : Bool) → b ≡ false → (a && b) ≡ false
no_blanks true b is = is
no_blanks false b is = refl

next_offset : (b : Bool) (at : Position) → let newline : Position = record { lines = at.lines + 1; line_start = at.offset + 1; offset = at.offset + 1 } in
    let other : Position = record { lines = at.lines; line_start = at.line_start; offset = at.offset + 1 } in let behind : Position = if b then newline else other in behind.offset ≡ at.offset + 1
next_offset true at = refl
next_offset false at = refl

pub after_offset : (at : Position) (bytes : List ℕ) → (after at bytes).offset ≡ at.offset + length bytes
after_offset at [] = sym (add-zero at.offset)
after_offset at (c ∷ cs) =
    let here : (next at c).offset ≡ at.offset + 1 = next_offset (c == 10) at in
    let behind = after_offset (next at c) cs in
    omega arith

-- the position behind bytes of one line
pub line_after : (at : Position) (bytes : List ℕ) → list_all in_line bytes ≡ true → after at bytes ≡ record { lines = at.lines; line_start = at.line_start; offset = at.offset + length bytes }
line_after at [] all = ap (λ n. record { lines = at.lines; line_start = at.line_start; offset = n }) (sym (add-zero at.offset))
line_after at (c ∷ cs) all =
    let both = both_true (in_line c) (list_all in_line cs) all in
    let size : at.offset + 1 + length cs ≡ at.offset + length (c ∷ cs) = omega arith in
    ap (λ at. after at cs) (if_false (c == 10) (record { lines = at.lines + 1; line_start = at.offset + 1; offset = at.offset + 1 }) (record { lines = at.lines; line_start = at.line_start; offset = at.offset + 1 }) (not_true (c == 10) both.0))
    ∙ line_after (record { lines = at.lines; line_start = at.line_start; offset = at.offset + 1 }) cs both.1
    ∙ ap (λ n. record { lines = at.lines; line_start = at.line_start; offset = n }) size

-- the position behind a byte more

newline_all : (before : List ℕ) (c : ℕ) → c ≡ 10 → list_all in_line (before ++ c ∷ []) ≡ false
newline_all [] c is = ap (λ c. in_line c && true) is
newline_all (b ∷ before) c is = no_blanks (in_line b) (list_all in_line (before ++ c ∷ [])) (newline_all before c is)

newline_line : (before : List ℕ) (c : ℕ) → c ≡ 10 → last_line (before ++ c ∷ []) ≡ []
newline_line [] c is = ap (λ c. last_line (c ∷ [])) is
newline_line (b ∷ before) c is =
    if_false (list_all in_line (b ∷ (before ++ c ∷ []))) (b ∷ (before ++ c ∷ [])) (last_line (before ++ c ∷ [])) (newline_all (b ∷ before) c is) ∙ newline_line before c is

and_one : (a : Bool) → (a && true) ≡ a
and_one true = refl
and_one false = refl

other_all : (before : List ℕ) (c : ℕ) → in_line c ≡ true → list_all in_line (before ++ c ∷ []) ≡ list_all in_line before
other_all before c is = list_all-append in_line before (c ∷ []) ∙ ap (λ b. list_all in_line before && (b && true)) is ∙ and_one (list_all in_line before)

other_by : (before : List ℕ) (b c : ℕ) (all : Bool) → last_line (before ++ c ∷ []) ≡ last_line before ++ c ∷ [] → (if all then b ∷ (before ++ c ∷ []) else last_line (before ++ c ∷ [])) ≡ (if all then b ∷ before else last_line before) ++ c ∷ []
other_by before b c true behind = refl
other_by before b c false behind = behind

other_line : (before : List ℕ) (c : ℕ) → in_line c ≡ true → last_line (before ++ c ∷ []) ≡ last_line before ++ c ∷ []
other_line [] c is = ap (λ b. if b && true then c ∷ [] else []) is
other_line (b ∷ before) c is =
    ap (λ all. if all then b ∷ (before ++ c ∷ []) else last_line (before ++ c ∷ [])) (other_all (b ∷ before) c is)
    ∙ other_by before b c (list_all in_line (b ∷ before)) (other_line before c is)

newlines_more : (before : List ℕ) (c : ℕ) (b : Bool) → (c == 10) ≡ b → newlines (before ++ c ∷ []) ≡ newlines before + (if b then 1 else 0)
newlines_more before c b is =
    sum_by-append (λ c. if c == 10 then 1 else 0) before (c ∷ []) ∙ ap (λ b. newlines before + (0 + (if b then 1 else 0))) is ∙ omega arith

next_by : (before : List ℕ) (c : ℕ) (b : Bool) → (c == 10) ≡ b → position_of (before ++ c ∷ []) ≡ (if b then record { lines = newlines before + 1; line_start = length before + 1; offset = length before + 1 } else record { lines = newlines before; line_start = length before - length (last_line before); offset = length before + 1 })
next_by before c true is =
    let size : length (before ++ c ∷ []) ≡ length before + 1 = length-append before (c ∷ []) in
    let all : length before + 1 - 0 ≡ length before + 1 = omega arith in
    ap (λ n. record { lines = n; line_start = length (before ++ c ∷ []) - length (last_line (before ++ c ∷ [])); offset = length (before ++ c ∷ []) }) (newlines_more before c true is)
    ∙ ap (λ l. record { lines = newlines before + 1; line_start = length (before ++ c ∷ []) - length l; offset = length (before ++ c ∷ []) }) (newline_line before c (same_byte c 10 is))
    ∙ ap (λ n. record { lines = newlines before + 1; line_start = n - 0; offset = n }) size
    ∙ ap (λ n. record { lines = newlines before + 1; line_start = n; offset = length before + 1 }) all
next_by before c false is =
    let line : length (last_line (before ++ c ∷ [])) ≡ length (last_line before) + 1 = ap length (other_line before c (not_false (c == 10) is)) ∙ length-append (last_line before) (c ∷ []) in
    let size : length (before ++ c ∷ []) ≡ length before + 1 = length-append before (c ∷ []) in
    let start : length (before ++ c ∷ []) - length (last_line (before ++ c ∷ [])) ≡ length before - length (last_line before) = omega arith in
    let none : newlines before + 0 ≡ newlines before = omega arith in
    ap (λ n. record { lines = n; line_start = length (before ++ c ∷ []) - length (last_line (before ++ c ∷ [])); offset = length (before ++ c ∷ []) }) (newlines_more before c false is ∙ none)
    ∙ ap (λ n. record { lines = newlines before; line_start = n; offset = length (before ++ c ∷ []) }) start
    ∙ ap (λ n. record { lines = newlines before; line_start = length before - length (last_line before); offset = n }) size

-- the position behind more bytes
pub position_more : (before bytes : List ℕ) → position_of (before ++ bytes) ≡ after (position_of before) bytes
position_more before [] = ap position_of (append-nil before)
position_more before (c ∷ cs) =
    ap position_of (sym (append_assoc before (c ∷ []) cs)) ∙ position_more (before ++ c ∷ []) cs ∙ ap (λ at. after at cs) (next_by before c (c == 10) refl)

-- where a line starts

last_by : (b : Bool) (c : ℕ) (cs : List ℕ) → last_line cs ≡ drop (length cs - length (last_line cs)) cs → (if b then c ∷ cs else last_line cs) ≡ drop (length (c ∷ cs) - length (if b then c ∷ cs else last_line cs)) (c ∷ cs)
last_by true c cs behind =
    let none : length (c ∷ cs) - length (c ∷ cs) ≡ 0 = omega arith in
    ap (λ n. drop n (c ∷ cs)) (sym none)
last_by false c cs behind =
    let short = short_line cs in
    let more : length (c ∷ cs) - length (last_line cs) ≡ suc (length cs - length (last_line cs)) = omega arith in
    behind ∙ ap (λ n. drop n (c ∷ cs)) (sym more)

last_line_is : (before : List ℕ) → last_line before ≡ drop (length before - length (last_line before)) before
last_line_is [] = refl
last_line_is (c ∷ cs) = last_by (list_all in_line (c ∷ cs)) c cs (last_line_is cs)

-- the bytes from a line's start to a position
pub line_so_far : (source before rest : List ℕ) (at : Position) → source ≡ before ++ rest → at ≡ position_of before → list_all is_blank (drop at.line_start (take at.offset source)) ≡ only_blanks before
line_so_far source before rest at split here =
    ap (λ at. list_all is_blank (drop at.line_start (take at.offset source))) here
    ∙ ap (λ l. list_all is_blank (drop (length before - length (last_line before)) l)) (ap (take (length before)) split ∙ take_at before rest (length before) refl)
    ∙ ap (list_all is_blank) (sym (last_line_is before))

pub place_is : (before : List ℕ) → place_of (position_of before) ≡ place_behind before
place_is before =
    let short = short_line before in
    let column : length before - (length before - length (last_line before)) + 1 ≡ length (last_line before) + 1 = omega arith in
    ap (λ n. record { line = newlines before + 1; column = n }) column

-- tests that no newline passes

line_by : (p : ℕ → Bool) → p 10 ≡ false → (c : ℕ) → p c ≡ true → (b : Bool) → (c == 10) ≡ b → not b ≡ true
line_by p none c is true ten = absurd (both_ways (p 10) none (subst (λ c. p c ≡ true) (same_byte c 10 ten) is))
line_by p none c is false ten = refl

passes_in_line : (p : ℕ → Bool) → p 10 ≡ false → (c : ℕ) → p c ≡ true → in_line c ≡ true
passes_in_line p none c is = line_by p none c is (c == 10) refl

all_in_line : (p : ℕ → Bool) → p 10 ≡ false → (cs : List ℕ) → list_all p cs ≡ true → list_all in_line cs ≡ true
all_in_line p none [] all = refl
all_in_line p none (c ∷ cs) all =
    let both = both_true (p c) (list_all p cs) all in
    and_true (in_line c) (list_all in_line cs) (passes_in_line p none c both.0) (all_in_line p none cs both.1)

-- numbers

empty_in_line : (cs : List ℕ) → is_empty cs ≡ true → list_all in_line cs ≡ true
empty_in_line [] is = refl
empty_in_line (c ∷ cs) is = cc

wide_digit : (base : ℕ) → base ≤ 16 → nat_lt 16 base ≡ false
wide_digit base small = grind (arith, nat_tests)

tail_by : (base c : ℕ) (cs : List ℕ) → base ≤ 16 → (is_tail base cs ≡ true → list_all in_line cs ≡ true) → (b : Bool) → nat_lt (digit_value c) base ≡ b → (if b then is_tail base cs else (is_suffix c && is_empty cs)) ≡ true → (in_line c && list_all in_line cs) ≡ true
tail_by base c cs small behind true is all =
    and_true (in_line c) (list_all in_line cs) (passes_in_line (λ c. nat_lt (digit_value c) base) (wide_digit base small) c is) (behind all)
tail_by base c cs small behind false is all =
    let both = both_true (is_suffix c) (is_empty cs) all in
    and_true (in_line c) (list_all in_line cs) (passes_in_line is_suffix refl c both.0) (empty_in_line cs both.1)

tail_in_line : (base : ℕ) (cs : List ℕ) → base ≤ 16 → is_tail base cs ≡ true → list_all in_line cs ≡ true
tail_in_line base [] small all = refl
tail_in_line base (c ∷ cs) small all = tail_by base c cs small (λ all. tail_in_line base cs small all) (nat_lt (digit_value c) base) refl all

hexadecimal_in_line : (cs : List ℕ) → is_hexadecimal cs ≡ true → list_all in_line cs ≡ true
hexadecimal_in_line [] is = cc
hexadecimal_in_line (x ∷ []) is = cc
hexadecimal_in_line (x ∷ d ∷ ds) is =
    let both = both_true (is_x x && nat_lt (digit_value d) 16) (is_tail 16 ds) is in
    let head = both_true (is_x x) (nat_lt (digit_value d) 16) both.0 in
    and_true (in_line x) (in_line d && list_all in_line ds) (passes_in_line is_x refl x head.0)
    (and_true (in_line d) (list_all in_line ds) (passes_in_line (λ c. nat_lt (digit_value c) 16) refl d head.1) (tail_in_line 16 ds (omega arith) both.1))

numeral_by : (c : ℕ) (cs : List ℕ) (b : Bool) → (if b then is_hexadecimal cs || is_tail 8 cs else is_digit c && is_tail 10 cs) ≡ true → list_all in_line cs ≡ true
numeral_by c cs true is = ⊎_elim (λ is. hexadecimal_in_line cs is) (λ is. tail_in_line 8 cs (omega arith) is) (or_cases (is_hexadecimal cs) (is_tail 8 cs) is)
numeral_by c cs false is = tail_in_line 10 cs (omega arith) (both_true (is_digit c) (is_tail 10 cs) is).1

-- words, numbers and signs

abbrev pub rows_pass : (List ℕ → Bool) → List (List ℕ × TokenKind) → Bool
rows_pass test [] = true
rows_pass test (entry ∷ others) = test entry.0 && rows_pass test others

row_passes : (test : List ℕ → Bool) (row bytes : List ℕ) (here kind : TokenKind) (other : Option TokenKind) → test row ≡ true → (other ≡ Some kind → test bytes ≡ true) → (b : Bool) → bytes_eq row bytes ≡ b → (if b then Some here else other) ≡ Some kind → test bytes ≡ true
row_passes test row bytes here kind other passes behind true same is = subst (λ l. test l ≡ true) ((bytes_eq-Decides row bytes).0 same) passes
row_passes test row bytes here kind other passes behind false same is = behind is

pub lookup_passes : (test : List ℕ → Bool) (table : List (List ℕ × TokenKind)) (bytes : List ℕ) (kind : TokenKind) → rows_pass test table ≡ true → lookup table bytes ≡ Some kind → test bytes ≡ true
lookup_passes test [] bytes kind all is = absurd cc
lookup_passes test (entry ∷ others) bytes kind all is =
    let both = both_true (test entry.0) (rows_pass test others) all in
    row_passes test entry.0 bytes entry.1 kind (lookup others bytes) both.0 (λ is. lookup_passes test others bytes kind both.1 is) (bytes_eq entry.0 bytes) refl is

spelled_by : (c : ℕ) (cs : List ℕ) (kind word number : TokenKind) (letter digit words numeral : Bool) → is_letter c ≡ letter → is_digit c ≡ digit → list_all is_word_byte cs ≡ words → is_numeral (c ∷ cs) ≡ numeral →
    (if letter then (if words then Some word else None) else (if digit then (if numeral then Some number else None) else lookup signs (c ∷ cs))) ≡ Some kind → list_all in_line (c ∷ cs) ≡ true
spelled_by c cs kind word number true digit true numeral l d w n is = and_true (in_line c) (list_all in_line cs) (passes_in_line is_letter refl c l) (all_in_line is_word_byte refl cs w)
spelled_by c cs kind word number true digit false numeral l d w n is = absurd cc
spelled_by c cs kind word number false true words true l d w n is = and_true (in_line c) (list_all in_line cs) (passes_in_line is_digit refl c d) (numeral_by c cs (c == 48) n)
spelled_by c cs kind word number false true words false l d w n is = absurd cc
spelled_by c cs kind word number false false words numeral l d w n is = lookup_passes (list_all in_line) signs (c ∷ cs) kind refl is

spelled_in_line : (bytes : List ℕ) (kind : TokenKind) → kind_of bytes ≡ Some kind → list_all in_line bytes ≡ true
unfolding kind_of
spelled_in_line [] kind is = absurd cc
spelled_in_line (c ∷ cs) kind is =
    spelled_by c cs kind (or_word (lookup keywords (c ∷ cs))) (Number (numeral_value (c ∷ cs)) (is_unsigned (c ∷ cs))) (is_letter c) (is_digit c) (list_all is_word_byte cs) (is_numeral (c ∷ cs)) refl refl refl refl is

number_size : (narrow goes_on : Bool) (m n : ℕ) (kind number : TokenKind) → Token n kind ≡ (if narrow then (if goes_on then Fault m BadByte else Token m number) else Fault 0 WideNumber) → n ≡ m
number_size true true m n kind number is = absurd cc
number_size true false m n kind number is = cc
number_size false goes_on m n kind number is = absurd cc

token_size : (text : List ℕ) (m n : ℕ) (kind found : TokenKind) → Token n kind ≡ token_or_fault text m found → n ≡ m
unfolding token_or_fault
token_size text m n kind (Number value unsigned) is = number_size _ _ m n kind (Number value unsigned) is
token_size text m n kind _ is = cc

token_in_line_by : (text : List ℕ) (n : ℕ) (kind : TokenKind) → TokenStep text (Token n kind) → list_all in_line (take n text) ≡ true
token_in_line_by text n kind (inl a) =
    subst (λ m. list_all in_line (take m text) ≡ true) (sym (token_size text a.0 n kind a.1 a.3)) (spelled_in_line (take a.0 text) a.1 a.2.spells)
token_in_line_by text n kind (inr a) = absurd cc

-- character constants

-- bytes of which the first so many are in line, and 0 where there are none
indexed_in_line : (n : ℕ) (text : List ℕ) → ((i : ℕ) → i < n → in_line (get_or text i 0) ≡ true) → list_all in_line (take n text) ≡ true
indexed_in_line zero text each = refl
indexed_in_line (suc n) [] each = refl
indexed_in_line (suc n) (c ∷ cs) each =
    and_true (in_line c) (list_all in_line (take n cs)) (each 0 (omega arith)) (indexed_in_line n cs (λ i small. each (suc i) (omega arith)))

escape_in_line : (d : ℕ) → is_some_byte (escape_value d) ≡ true → in_line d ≡ true
escape_in_line d is = passes_in_line (λ d. is_some_byte (escape_value d)) refl d is

escaped_token : (found : Option ℕ) (n : ℕ) (kind : TokenKind) → Token n kind ≡ escaped found → (n ≡ 4) × (is_some_byte found ≡ true)
escaped_token None n kind is = absurd cc
escaped_token (Some value) n kind is = (cc, refl)

plain_in_line : (c : ℕ) → is_plain 39 c ≡ true → in_line c ≡ true
plain_in_line c is = passes_in_line (is_plain 39) refl c is

byte_in_line : (c d : ℕ) → (c == d) ≡ true → in_line d ≡ true → in_line c ≡ true
byte_in_line c d is good = subst (λ c. in_line c ≡ true) (sym (same_byte c d is)) good

-- bytes behind a quote, one by one
quoted_three : (c d : ℕ) (cs : List ℕ) → get_or cs 0 0 ≡ c → get_or cs 1 0 ≡ d → in_line c ≡ true → in_line d ≡ true → list_all in_line (take 2 cs) ≡ true
quoted_three c d cs first second a b = indexed_in_line 2 cs each
  where
    each : (i : ℕ) → i < 2 → in_line (get_or cs i 0) ≡ true
    each zero small = ap in_line first ∙ a
    each (suc zero) small = ap in_line second ∙ b
    each (suc (suc i)) small = absurd (omega arith)

quoted_four : (cs : List ℕ) → in_line (get_or cs 0 0) ≡ true → in_line (get_or cs 1 0) ≡ true → in_line (get_or cs 2 0) ≡ true → list_all in_line (take 3 cs) ≡ true
quoted_four cs a b e = indexed_in_line 3 cs each
  where
    each : (i : ℕ) → i < 3 → in_line (get_or cs i 0) ≡ true
    each zero small = a
    each (suc zero) small = b
    each (suc (suc zero)) small = e
    each (suc (suc (suc i))) small = absurd (omega arith)

character_by : (cs : List ℕ) (n : ℕ) (kind : TokenKind) (one two : Bool) → let c = get_or cs 0 0 in let d = get_or cs 1 0 in let e = get_or cs 2 0 in
    (is_plain 39 c && (d == 39)) ≡ one → ((c == 92) && (e == 39)) ≡ two →
    Token n kind ≡ (if one then Token 3 (Number c false) else (if two then escaped (escape_value d) else Fault 0 BadByte)) → list_all in_line (take n (39 ∷ cs)) ≡ true
character_by cs n kind true two first second is =
    let both = both_true (is_plain 39 (get_or cs 0 0)) (get_or cs 1 0 == 39) first in
    let size : 3 ≡ n = cc in
    subst (λ n. list_all in_line (take n (39 ∷ cs)) ≡ true) size
    (quoted_three (get_or cs 0 0) (get_or cs 1 0) cs refl refl (plain_in_line (get_or cs 0 0) both.0) (byte_in_line (get_or cs 1 0) 39 both.1 refl))
character_by cs n kind false true first second is =
    let both = both_true (get_or cs 0 0 == 92) (get_or cs 2 0 == 39) second in
    let found = escaped_token (escape_value (get_or cs 1 0)) n kind is in
    subst (λ n. list_all in_line (take n (39 ∷ cs)) ≡ true) (sym found.0)
    (quoted_four cs (byte_in_line (get_or cs 0 0) 92 both.0 refl) (escape_in_line (get_or cs 1 0) found.1) (byte_in_line (get_or cs 2 0) 39 both.1 refl))
character_by cs n kind false false first second is = absurd cc

character_in_line : (cs : List ℕ) (n : ℕ) (kind : TokenKind) → Token n kind ≡ character_step (39 ∷ cs) → list_all in_line (take n (39 ∷ cs)) ≡ true
unfolding character_step
character_in_line cs n kind is =
    character_by cs n kind (is_plain 39 (get_or cs 0 0) && (get_or cs 1 0 == 39)) ((get_or cs 0 0 == 92) && (get_or cs 2 0 == 39)) refl refl is

-- texts

parts_in_line : (parts : List Part) (behind : List ℕ) → AreGood parts → AreParts parts behind → list_all in_line (bytes_of parts ++ 34 ∷ []) ≡ true
parts_in_line [] behind good are = refl
parts_in_line (Plain c ∷ parts) behind good are =
    and_true (in_line c) (list_all in_line (bytes_of parts ++ 34 ∷ [])) (passes_in_line (is_plain 34) refl c are.0) (parts_in_line parts behind good are.1)
parts_in_line (Escape c ∷ parts) behind good are =
    and_true (in_line c) (list_all in_line (bytes_of parts ++ 34 ∷ [])) (escape_in_line c are.0) (parts_in_line parts behind good are.1)
parts_in_line (Bad c ∷ parts) behind good are = absurd good

body_in_line : (parts : List Part) (rest : List ℕ) → AreGood parts → AreParts parts (34 ∷ rest) → list_all in_line (take (length (bytes_of parts) + 1) (bytes_of parts ++ 34 ∷ rest)) ≡ true
body_in_line parts rest good are =
    let whole : bytes_of parts ++ 34 ∷ rest ≡ (bytes_of parts ++ 34 ∷ []) ++ rest = sym (append_assoc (bytes_of parts) (34 ∷ []) rest) in
    ap (λ body. list_all in_line (take (length (bytes_of parts) + 1) body)) whole
    ∙ ap (list_all in_line) (take_at (bytes_of parts ++ 34 ∷ []) rest (length (bytes_of parts) + 1) (length-append (bytes_of parts) (34 ∷ [])))
    ∙ parts_in_line parts (34 ∷ rest) good are

closed_in_line : (parts : List Part) (rest : List ℕ) (n : ℕ) (kind : TokenKind) → AreParts parts (34 ∷ rest) → ClosedStep parts (Token n kind) → list_all in_line (take n (34 ∷ (bytes_of parts ++ 34 ∷ rest))) ≡ true
closed_in_line parts rest n kind are (inl a) =
    let size : n ≡ length (bytes_of parts) + 2 = cc in
    let next : length (bytes_of parts) + 2 ≡ suc (length (bytes_of parts) + 1) = omega arith in
    subst (λ n. list_all in_line (take n (34 ∷ (bytes_of parts ++ 34 ∷ rest))) ≡ true) (sym (size ∙ next)) (body_in_line parts rest a.0 are)
closed_in_line parts rest n kind are (inr a) = absurd cc

text_in_line : (text : List ℕ) (n : ℕ) (kind : TokenKind) → TextStep text (Token n kind) → list_all in_line (take n text) ≡ true
text_in_line text n kind (parts, rest, inl a) = subst (λ text. list_all in_line (take n text) ≡ true) (sym a.0) (closed_in_line parts rest n kind a.1 a.2)
text_in_line text n kind (parts, rest, inr a) = let same = a.3 in absurd cc

-- whatever stands there

character_begins : (a b l d e t : Bool) → begins.Character ≡ (if a then begins.Blank else (if b then begins.Comment else (if l then begins.LineComment else (if d then begins.Directive else (if e then begins.Character else (if t then begins.Text else begins.Other)))))) → e ≡ true
character_begins true b l d e t is = absurd cc
character_begins false true l d e t is = absurd cc
character_begins false false true d e t is = absurd cc
character_begins false false false true e t is = absurd cc
character_begins false false false false true t is = refl
character_begins false false false false false true is = absurd cc
character_begins false false false false false false is = absurd cc

directive_by : (b : Bool) (m n : ℕ) (kind : TokenKind) → Token n kind ≡ (if b then Gap m else Fault 0 BadByte) → ⊥
directive_by true m n kind is = cc
directive_by false m n kind is = cc

directive_no_token : (only_blanks : Bool) (text : List ℕ) (n : ℕ) (kind : TokenKind) → Token n kind ≡ directive_step only_blanks text → ⊥
unfolding directive_step
directive_no_token only_blanks text n kind is = directive_by (only_blanks && is_include (take (line_length text) text)) (line_length text) n kind is

comment_no_token : (text : List ℕ) (n : ℕ) (kind : TokenKind) → CommentStep text (Token n kind) → ⊥
comment_no_token text n kind (inl a) = let same = a.2 in cc
comment_no_token text n kind (inr a) = let same = a.1 in cc

gap_no_token : (m n : ℕ) (kind : TokenKind) → Token n kind ≡ Gap m → ⊥
gap_no_token m n kind is = cc

in_line_by : (b : Beginning) (before : List ℕ) (c : ℕ) (cs : List ℕ) (n : ℕ) (kind : TokenKind) → b ≡ beginning (c ∷ cs) → StepBy b before (c ∷ cs) (Token n kind) → list_all in_line (take n (c ∷ cs)) ≡ true
in_line_by begins.Blank before c cs n kind is stands = absurd (gap_no_token 1 n kind stands)
in_line_by begins.Comment before c cs n kind is stands = absurd (comment_no_token (c ∷ cs) n kind stands)
in_line_by begins.LineComment before c cs n kind is stands = absurd (gap_no_token (line_length (c ∷ cs)) n kind stands)
in_line_by begins.Directive before c cs n kind is stands = absurd (directive_no_token (only_blanks before) (c ∷ cs) n kind stands)
in_line_by begins.Character before c cs n kind is stands =
    let quote = same_byte c 39 (character_begins (is_blank c) _ _ (c == 35) (c == 39) (c == 34) is) in
    subst (λ c. list_all in_line (take n (c ∷ cs)) ≡ true) (sym quote) (character_in_line cs n kind (subst (λ c. Token n kind ≡ character_step (c ∷ cs)) quote stands))
in_line_by begins.Text before c cs n kind is stands = text_in_line (c ∷ cs) n kind stands
in_line_by begins.Other before c cs n kind is stands = token_in_line_by (c ∷ cs) n kind stands

-- the bytes of a token are of one line
pub token_in_line : (before text : List ℕ) (n : ℕ) (kind : TokenKind) → 0 < length text → NextStep before text (Token n kind) → list_all in_line (take n text) ≡ true
token_in_line before [] n kind some stands = absurd (omega arith)
token_in_line before (c ∷ cs) n kind some stands = in_line_by (beginning (c ∷ cs)) before c cs n kind refl stands
