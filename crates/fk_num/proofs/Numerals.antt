-- A numeral that is read digit by digit.
use Rattle.std.proofs.Common.{◌≡◌, ℕ, ◌+◌, ◌-◌, ◌*◌, ◌^◌, ◌<◌, ◌≤◌, Bool, true, false, cond, List, [], ◌∷◌, Option, Some, None, length, drop, drop-cons, add-one, get_or, arith, refl, ap, ◌∙◌}
use Rattle.std.specs.Prelude.{◌&&◌, if◌then◌else◌}
use Rattle.std.specs.List.{list_all}
use Rattle.std.proofs.lemmas.List.{drop_all}
use Rattle.std.specs.Char.{digit_value, is_ascii_digit}
use Rattle.std.specs.Str.Parse.{digits_value_after}
use Rattle.fk_num.specs.Numeral.{if_word, one_more_digit, read_word}

-- the word that digits write after those of n
abbrev pub read_after : ℕ → List ℕ → Option ℕ
read_after n digits = if list_all is_ascii_digit digits then if_word (digits_value_after 10 n digits) else None

pub value-le : (n : ℕ) (digits : List ℕ) → n ≤ digits_value_after 10 n digits
value-le n [] = omega arith
value-le n (c ∷ digits) =
    let rest : n * 10 + digit_value c ≤ digits_value_after 10 (n * 10 + digit_value c) digits = value-le (n * 10 + digit_value c) digits in omega arith

digit_value-is : (byte : ℕ) → is_ascii_digit byte ≡ true → digit_value byte ≡ byte - 48
digit_value-is byte h = grind arith

too_large : (n : ℕ) (digits : List ℕ) → 2 ^ 32 ≤ n → if_word (digits_value_after 10 n digits) ≡ None
too_large n digits h = let rest = value-le n digits in grind arith

-- by whether the byte is a digit
after : (n byte : ℕ) (digits : List ℕ) (b : Bool) → is_ascii_digit byte ≡ b
    → read_after n (byte ∷ digits) ≡ (if b then read_after (n * 10 + (byte - 48)) digits else None)
after n byte digits true e =
    ap (λ b. cond (b && list_all is_ascii_digit digits) (if_word (digits_value_after 10 (n * 10 + digit_value byte) digits)) None) e
    ∙ ap (λ d. read_after (n * 10 + d) digits) (digit_value-is byte e)
after n byte digits false e =
    ap (λ b. cond (b && list_all is_ascii_digit digits) (if_word (digits_value_after 10 (n * 10 + digit_value byte) digits)) None) e

word_is : (n v : ℕ) → Some v ≡ if_word n → n ≡ v
word_is n v e = grind arith

no_word : (n : ℕ) → None ≡ if_word n → 2 ^ 32 ≤ n
no_word n e = grind arith

none_after : (n : ℕ) (digits : List ℕ) → 2 ^ 32 ≤ n → read_after n digits ≡ None
none_after n digits h = rw (too_large n digits h) (elim (list_all is_ascii_digit digits) as (λ b. cond {A = Option ℕ} b None None ≡ None) [ true ↦ refl | false ↦ refl ])

more : (n v : ℕ) (digits : List ℕ) (b : Bool) → Some v ≡ (if b then if_word n else None) → (if b then read_after n digits else None) ≡ read_after v digits
more n v digits true e = ap (λ m. read_after m digits) (word_is n v e)
more n v digits false e = cc

none : (n : ℕ) (digits : List ℕ) (b : Bool) → None ≡ (if b then if_word n else None) → (if b then read_after n digits else None) ≡ None
none n digits true e = none_after n digits (no_word n e)
none n digits false e = refl

pub read_after-more : (n v byte : ℕ) (digits : List ℕ) → Some v ≡ one_more_digit n byte → read_after n (byte ∷ digits) ≡ read_after v digits
read_after-more n v byte digits e = after n byte digits (is_ascii_digit byte) refl ∙ more (n * 10 + (byte - 48)) v digits (is_ascii_digit byte) e

pub read_after-none : (n byte : ℕ) (digits : List ℕ) → None ≡ one_more_digit n byte → read_after n (byte ∷ digits) ≡ None
read_after-none n byte digits e = after n byte digits (is_ascii_digit byte) refl ∙ none (n * 10 + (byte - 48)) digits (is_ascii_digit byte) e

split_drop : (text : List ℕ) (i : ℕ) → i < length text → drop i text ≡ get_or text i 0 ∷ drop (i + 1) text
split_drop text i h = rw (add-one, drop-cons text i 0)

-- the number is a word, and the rest of the text is yet to be read
pub record ReadsOn (text : List ℕ) (i n : ℕ) : Type 0 where
  pub word : n < 2 ^ 32
  pub rest : read_word text ≡ read_after n (drop i text)

is_word : (n v : ℕ) (b : Bool) → Some v ≡ (if b then if_word n else None) → v < 2 ^ 32
is_word n v true e = grind arith
is_word n v false e = cc

-- one iteration
pub digit_read : (text : List ℕ) (i n v : ℕ) → i < length text → ReadsOn text i n → Some v ≡ one_more_digit n (get_or text i 0) → ReadsOn text (i + 1) v
digit_read text i n v h reads e = record {
  word = is_word (n * 10 + (get_or text i 0 - 48)) v (is_ascii_digit (get_or text i 0)) e;
  rest = reads.rest ∙ ap (read_after n) (split_drop text i h) ∙ read_after-more n v (get_or text i 0) (drop (i + 1) text) e;
}

pub no_digit_read : (text : List ℕ) (i n : ℕ) → i < length text → ReadsOn text i n → None ≡ one_more_digit n (get_or text i 0) → read_word text ≡ None
no_digit_read text i n h reads e =
    reads.rest ∙ ap (read_after n) (split_drop text i h) ∙ read_after-none n (get_or text i 0) (drop (i + 1) text) e

word_again : (n : ℕ) → n < 2 ^ 32 → if_word n ≡ Some n
word_again n h = grind arith

pub all_read : (text : List ℕ) (i n : ℕ) → length text ≤ i → ReadsOn text i n → read_word text ≡ Some n
all_read text i n h reads = reads.rest ∙ ap (read_after n) (drop_all i text h) ∙ word_again n reads.word
