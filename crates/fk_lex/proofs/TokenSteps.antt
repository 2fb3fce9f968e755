-- What the code finds is the longest token, or its fault.
use Rattle.std.proofs.Common.{◌≡◌, ℕ, suc, ◌+◌, ◌-◌, ◌*◌, ◌<◌, ◌≤◌, ◌^◌, ◌==◌, ◌&&◌, ◌||◌, inl, inr, Bool, true, false, nat_le, nat_lt, Option, Some, None, SomeIff, List, [], ◌∷◌, length, take, drop, get_or, refl, sym, ap, subst, ◌∙◌, arith, if◌then◌else◌, drop-cons}
use Rattle.std.proofs.Math.Nat.{mul-le-mul_left}
use Rattle.std.specs.List.{prefix_len}
use Rattle.std.specs.Str.{bytes_eq}
use Rattle.std.proofs.lemmas.Bool.Decides.{nat_tests}
use Rattle.fk_lex.specs.declared.step.Step.TheVariants.{Token, Fault}
use Rattle.fk_lex.specs.declared.step.FaultKind.TheVariants.{BadByte, WideNumber}
use Rattle.fk_lex.specs.declared.token.TokenKind.{TokenKind}
use Rattle.fk_lex.specs.declared.token.TokenKind.TheVariants.{Number}
use Rattle.fk_lex.specs.Bytes.{is_letter, is_digit, is_word_byte, digit_value, is_suffix, is_x}
use Rattle.fk_lex.specs.Kinds.{LongestNumeral, Longest, lookup, keywords, signs, or_word, numeral_value, is_unsigned, number_of, value_in}
use Rattle.fk_lex.specs.Steps.{TokenStep, token_or_fault}
use Rattle.fk_lex.proofs.Tests.{if_true, if_false, same_is, other_is}
use Rattle.fk_lex.proofs.Numerals.{number_longest}
use Rattle.fk_lex.proofs.Words.{word_longest, sign_in, sign_longest, sign_none}

-- words and signs are no numbers

abbrev is_no_number : TokenKind → Bool
is_no_number (Number value unsigned) = false
is_no_number _ = true

abbrev finds_no_number : Option TokenKind → Bool
finds_no_number None = true
finds_no_number (Some kind) = is_no_number kind

abbrev have_no_number : List (List ℕ × TokenKind) → Bool
have_no_number [] = true
have_no_number (entry ∷ others) = is_no_number entry.1 && have_no_number others

and_both : (a b : Bool) → (a && b) ≡ true → (a ≡ true) × (b ≡ true)
and_both true b both = (refl, both)
and_both false b both = cc

finds_by : (b : Bool) (x y : Option TokenKind) → finds_no_number x ≡ true → finds_no_number y ≡ true → finds_no_number (if b then x else y) ≡ true
finds_by true x y a c = a
finds_by false x y a c = c

lookup_finds : (table : List (List ℕ × TokenKind)) (bytes : List ℕ) → have_no_number table ≡ true → finds_no_number (lookup table bytes) ≡ true
lookup_finds [] bytes all = refl
lookup_finds (entry ∷ others) bytes all =
    let both = and_both (is_no_number entry.1) (have_no_number others) all in
    finds_by (bytes_eq entry.0 bytes) (Some entry.1) (lookup others bytes) both.0 (lookup_finds others bytes both.1)

or_word_finds : (found : Option TokenKind) → finds_no_number found ≡ true → is_no_number (or_word found) ≡ true
or_word_finds None all = refl
or_word_finds (Some kind) all = all

token_is : (text : List ℕ) (n : ℕ) (kind : TokenKind) → is_no_number kind ≡ true → Token n kind ≡ token_or_fault text n kind
unfolding token_or_fault
token_is text n (Number value unsigned) other = cc
token_is text n _ other = refl

pub word_step_is : (text : List ℕ) (n : ℕ) (kind : TokenKind) → 0 < length text → is_letter (get_or text 0 0) ≡ true → n ≡ prefix_len is_word_byte text → kind ≡ or_word (lookup keywords (take n text)) → TokenStep text (Token n kind)
word_step_is text n kind some letter size is =
    let other : is_no_number kind ≡ true = ap is_no_number is ∙ or_word_finds (lookup keywords (take n text)) (lookup_finds keywords (take n text) refl) in
    inl (n, kind, subst (Longest text n) (sym is) (word_longest text n some letter size), token_is text n kind other)

sign_in_finds : (text : List ℕ) (n : ℕ) → finds_no_number (sign_in text n) ≡ true
sign_in_finds text n = finds_by (nat_le n (length text)) (lookup signs (take n text)) None (lookup_finds signs (take n text) refl) refl

pub sign_step_is : (text : List ℕ) (n : ℕ) (kind : TokenKind) → is_letter (get_or text 0 0) ≡ false → is_digit (get_or text 0 0) ≡ false → 0 < n → Some kind ≡ sign_in text n → ((m : ℕ) → n < m → m ≤ 3 → None ≡ sign_in text m) → TokenStep text (Token n kind)
sign_step_is text n kind letter digit more is longer =
    inl (n, kind, sign_longest text n kind letter digit more is longer, token_is text n kind (ap finds_no_number is ∙ sign_in_finds text n))

pub no_sign_is : (text : List ℕ) → is_letter (get_or text 0 0) ≡ false → is_digit (get_or text 0 0) ≡ false → ((m : ℕ) → 0 < m → m ≤ 3 → None ≡ sign_in text m) → TokenStep text (Fault 0 BadByte)
no_sign_is text letter digit none = inr (sign_none text letter digit none, refl)

-- numbers

some_if : (b : Bool) (kind x : TokenKind) → Some kind ≡ (if b then Some x else None) → (b ≡ true) × (kind ≡ x)
some_if true kind x is = (refl, cc)
some_if false kind x is = absurd cc

none_if : (b : Bool) (x : TokenKind) → None ≡ (if b then Some x else None) → b ≡ false
none_if true x is = cc
none_if false x is = refl

number_some : (bytes : List ℕ) (kind : TokenKind) → Some kind ≡ number_of bytes → (nat_lt (numeral_value bytes) (2 ^ 32) ≡ true) × (kind ≡ Number (numeral_value bytes) (is_unsigned bytes))
unfolding number_of
number_some bytes kind is = some_if (nat_lt (numeral_value bytes) (2 ^ 32)) kind (Number (numeral_value bytes) (is_unsigned bytes)) is

number_none : (bytes : List ℕ) → None ≡ number_of bytes → nat_lt (numeral_value bytes) (2 ^ 32) ≡ false
unfolding number_of
number_none bytes is = none_if (nat_lt (numeral_value bytes) (2 ^ 32)) (Number (numeral_value bytes) (is_unsigned bytes)) is

number_token : (text : List ℕ) (n value : ℕ) (unsigned narrow goes_on : Bool) → nat_lt value (2 ^ 32) ≡ narrow → is_word_byte (get_or text n 0) ≡ goes_on → token_or_fault text n (Number value unsigned) ≡ (if narrow then (if goes_on then Fault n BadByte else Token n (Number value unsigned)) else Fault 0 WideNumber)
unfolding token_or_fault
number_token text n value unsigned narrow goes_on is_narrow does =
    ap (λ b. if b then (if is_word_byte (get_or text n 0) then Fault n BadByte else Token n (Number value unsigned)) else Fault 0 WideNumber) is_narrow
    ∙ ap (λ b. if narrow then (if b then Fault n BadByte else Token n (Number value unsigned)) else Fault 0 WideNumber) does

pub wide_step_is : (text : List ℕ) (n : ℕ) → 0 < length text → is_digit (get_or text 0 0) ≡ true → LongestNumeral text n → None ≡ number_of (take n text) → TokenStep text (Fault 0 WideNumber)
wide_step_is text n some digit longest none =
    let bytes = take n text in
    inl (
      n,
      Number (numeral_value bytes) (is_unsigned bytes),
      number_longest text n some digit longest,
      sym (number_token text n (numeral_value bytes) (is_unsigned bytes) false (is_word_byte (get_or text n 0)) (number_none bytes none) refl),
    )

pub joined_step_is : (text : List ℕ) (n : ℕ) (kind : TokenKind) → 0 < length text → is_digit (get_or text 0 0) ≡ true → LongestNumeral text n → Some kind ≡ number_of (take n text) → is_word_byte (get_or text n 0) ≡ true → TokenStep text (Fault n BadByte)
joined_step_is text n kind some digit longest is joined =
    let bytes = take n text in
    let found = number_some bytes kind is in
    inl (
      n,
      Number (numeral_value bytes) (is_unsigned bytes),
      number_longest text n some digit longest,
      sym (number_token text n (numeral_value bytes) (is_unsigned bytes) true true found.0 joined),
    )

pub number_step_is : (text : List ℕ) (n : ℕ) (kind : TokenKind) → 0 < length text → is_digit (get_or text 0 0) ≡ true → LongestNumeral text n → Some kind ≡ number_of (take n text) → is_word_byte (get_or text n 0) ≡ false → TokenStep text (Token n kind)
number_step_is text n kind some digit longest is apart =
    let bytes = take n text in
    let found = number_some bytes kind is in
    inl (
      n,
      Number (numeral_value bytes) (is_unsigned bytes),
      number_longest text n some digit longest,
      ap (Token n) found.1 ∙ sym (number_token text n (numeral_value bytes) (is_unsigned bytes) true false found.0 apart),
    )

-- what the parts of the code answer

pub number_of_some : (bytes : List ℕ) (value : ℕ) (unsigned : Bool) → value ≡ numeral_value bytes → numeral_value bytes < 2 ^ 32 → unsigned ≡ (is_suffix (get_or bytes (length bytes - 1) 0) || nat_le (2 ^ 31) value) → Some (Number value unsigned) ≡ number_of bytes
unfolding number_of is_unsigned
number_of_some bytes value unsigned is small type_is =
    let narrow : nat_lt (numeral_value bytes) (2 ^ 32) ≡ true = grind (arith, nat_tests) in
    let both : unsigned ≡ (is_suffix (get_or bytes (length bytes - 1) 0) || nat_le (2 ^ 31) (numeral_value bytes)) =
    type_is ∙ ap (λ v. is_suffix (get_or bytes (length bytes - 1) 0) || nat_le (2 ^ 31) v) is in
    ap (λ v. Some (Number v unsigned)) is ∙ ap (λ u. Some (Number (numeral_value bytes) u)) both ∙ sym (if_true (nat_lt (numeral_value bytes) (2 ^ 32)) _ None narrow)

pub number_of_none : (bytes : List ℕ) → (numeral_value bytes < 2 ^ 32 → ⊥) → None ≡ number_of bytes
unfolding number_of
number_of_none bytes wide =
    let narrow : nat_lt (numeral_value bytes) (2 ^ 32) ≡ false = grind (arith, nat_tests) in
    sym (if_false (nat_lt (numeral_value bytes) (2 ^ 32)) _ None narrow)

pub decimal_value : (bytes : List ℕ) → (get_or bytes 0 0 ≡ 48 → ⊥) → value_in 10 0 bytes ≡ numeral_value bytes
unfolding numeral_value
decimal_value bytes other = sym (if_false (get_or bytes 0 0 == 48) _ _ (other_is (get_or bytes 0 0) 48 other))

pub hexadecimal_value : (bytes : List ℕ) → get_or bytes 0 0 ≡ 48 → is_x (get_or bytes 1 0) ≡ true → value_in 16 0 (drop 2 bytes) ≡ numeral_value bytes
unfolding numeral_value
hexadecimal_value bytes is x =
    sym (if_true (get_or bytes 0 0 == 48) _ _ (same_is (get_or bytes 0 0) 48 is) ∙ if_true (is_x (get_or bytes 1 0)) _ _ x)

pub octal_value : (bytes : List ℕ) → get_or bytes 0 0 ≡ 48 → is_x (get_or bytes 1 0) ≡ false → value_in 8 0 bytes ≡ numeral_value bytes
unfolding numeral_value
octal_value bytes is x =
    sym (if_true (get_or bytes 0 0 == 48) _ _ (same_is (get_or bytes 0 0) 48 is) ∙ if_false (is_x (get_or bytes 1 0)) _ _ x)

pub same_value : (result : Option ℕ) (v w : ℕ) → v ≡ w → SomeIff result (v < 2 ^ 32) v → SomeIff result (w < 2 ^ 32) w
same_value result v w is known = subst (λ n. SomeIff result (n < 2 ^ 32) n) is known

-- digits make a value greater

grows : (value base d : ℕ) → 0 < base → value ≤ value * base + d
grows value base d some = let more : value * 1 ≤ value * base = mul-le-mul_left value some in omega arith

value_by : (b : Bool) (base value d : ℕ) (cs : List ℕ) → 0 < base → value * base + d ≤ value_in base (value * base + d) cs → value ≤ (if b then value_in base (value * base + d) cs else value)
value_by true base value d cs some more = let first = grows value base d some in omega arith
value_by false base value d cs some more = omega arith

value_grows : (base value : ℕ) (cs : List ℕ) → 0 < base → value ≤ value_in base value cs
value_grows base value [] some = omega arith
value_grows base value (c ∷ cs) some =
    value_by (nat_lt (digit_value c) base) base value (digit_value c) cs some (value_grows base (value * base + digit_value c) cs some)

-- a digit more
pub value_more : (base value : ℕ) (ds : List ℕ) (i : ℕ) → i < length ds → digit_value (get_or ds i 0) < base → value_in base value (drop i ds) ≡ value_in base (value * base + digit_value (get_or ds i 0)) (drop (i + 1) ds)
value_more base value ds i inside digit =
    let is : nat_lt (digit_value (get_or ds i 0)) base ≡ true = grind (arith, nat_tests) in
    let next : suc i ≡ i + 1 = omega arith in
    ap (value_in base value) (drop-cons ds i 0 inside)
    ∙ if_true (nat_lt (digit_value (get_or ds i 0)) base) (value_in base (value * base + digit_value (get_or ds i 0)) (drop (suc i) ds)) value is
    ∙ ap (λ k. value_in base (value * base + digit_value (get_or ds i 0)) (drop k ds)) next

-- the value so far and a digit are a lower bound
pub value_least : (base value : ℕ) (ds : List ℕ) (i : ℕ) → 0 < base → i < length ds → digit_value (get_or ds i 0) < base → value_in base 0 ds ≡ value_in base value (drop i ds) → value * base + digit_value (get_or ds i 0) ≤ value_in base 0 ds
value_least base value ds i some inside digit so_far =
    let more = value_more base value ds i inside digit in
    let least = value_grows base (value * base + digit_value (get_or ds i 0)) (drop (i + 1) ds) some in
    omega arith
