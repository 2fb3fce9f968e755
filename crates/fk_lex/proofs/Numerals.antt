-- The longest number that a text begins with.
use Rattle.std.proofs.Common.{◌≡◌, ℕ, zero, suc, ◌+◌, ◌<◌, ◌≤◌, ◌==◌, ◌&&◌, ◌||◌, Bool, true, false, nat_lt, Some, None, List, [], ◌∷◌, length, take, drop, get_or, refl, sym, ap, ◌∙◌, arith, if◌then◌else◌}
use Rattle.std.proofs.lemmas.Bool.Decides.{nat_tests}
use Rattle.fk_lex.specs.declared.token.TokenKind.TheVariants.{Number}
use Rattle.fk_lex.specs.Bytes.{is_letter, is_digit, digit_value, is_suffix, is_x}
use Rattle.fk_lex.specs.Kinds.{LongestNumeral, LongestTail, is_numeral, is_hexadecimal, is_tail, kind_of, Longest, numeral_value, is_unsigned}
use Rattle.fk_lex.proofs.Fronts.{longest_more, longest_at, longest_spelled, is_digit_of, tail_other}
use Rattle.fk_lex.proofs.Tests.{same_is, other_is, if_true, if_false}

-- decimal digits

decimal_by : (zero_first digit : Bool) (hexadecimal octal decimal : Bool) → zero_first ≡ false → digit ≡ true → (if zero_first then hexadecimal || octal else digit && decimal) ≡ decimal
decimal_by false true hexadecimal octal decimal other is = refl
decimal_by false false hexadecimal octal decimal other is = cc
decimal_by true digit hexadecimal octal decimal other is = cc

decimal_numeral : (c : ℕ) (cs : List ℕ) (n : ℕ) → (c ≡ 48 → ⊥) → is_digit c ≡ true → LongestTail 10 cs n → LongestNumeral (c ∷ cs) (suc n)
decimal_numeral c cs n other digit tail =
    longest_more is_numeral (is_tail 10) c cs n (λ k. decimal_by (c == 48) (is_digit c) (is_hexadecimal (take k cs)) (is_tail 8 (take k cs)) (is_tail 10 (take k cs)) (other_is c 48 other) digit) tail

pub decimal_longest : (text : List ℕ) (n : ℕ) → 0 < length text → (get_or text 0 0 ≡ 48 → ⊥) → is_digit (get_or text 0 0) ≡ true → LongestTail 10 (drop 1 text) n → LongestNumeral text (1 + n)
decimal_longest [] n some other digit tail = absurd (omega arith)
decimal_longest (c ∷ cs) n some other digit tail =
    let size : suc n ≡ 1 + n = omega arith in
    longest_at is_numeral (c ∷ cs) _ _ size (decimal_numeral c cs n other digit tail)

-- 0 and octal digits

zero_by : (zero_first : Bool) (octal hexadecimal decimal : Bool) → zero_first ≡ true → (if zero_first then hexadecimal || octal else decimal) ≡ (hexadecimal || octal)
zero_by true octal hexadecimal decimal is = refl
zero_by false octal hexadecimal decimal is = cc

zero_numeral : (c : ℕ) (cs : List ℕ) → c ≡ 48 → is_numeral (c ∷ cs) ≡ (is_hexadecimal cs || is_tail 8 cs)
zero_numeral c cs is = zero_by (c == 48) (is_tail 8 cs) (is_hexadecimal cs) (is_digit c && is_tail 10 cs) (same_is c 48 is)

-- neither `x` nor `X` with a hexadecimal digit behind it
abbrev pub NoPrefix : List ℕ → Type 0
NoPrefix [] = Unit {0}
NoPrefix (x ∷ []) = Unit {0}
NoPrefix (x ∷ d ∷ ds) = is_hexadecimal (x ∷ d ∷ []) ≡ false

prefix_by : (b t : Bool) → (b && true) ≡ false → (b && t) ≡ false
prefix_by false t is = refl
prefix_by true t is = cc

no_hexadecimal : (cs : List ℕ) (k : ℕ) → NoPrefix cs → is_hexadecimal (take k cs) ≡ false
no_hexadecimal [] zero without = refl
no_hexadecimal [] (suc k) without = refl
no_hexadecimal (x ∷ []) zero without = refl
no_hexadecimal (x ∷ []) (suc zero) without = refl
no_hexadecimal (x ∷ []) (suc (suc k)) without = refl
no_hexadecimal (x ∷ d ∷ ds) zero without = refl
no_hexadecimal (x ∷ d ∷ ds) (suc zero) without = refl
no_hexadecimal (x ∷ d ∷ ds) (suc (suc k)) without =
    prefix_by (is_x x && nat_lt (digit_value d) 16) (is_tail 16 (take k ds)) without

octal_numeral : (c : ℕ) (cs : List ℕ) (n : ℕ) → c ≡ 48 → NoPrefix cs → LongestTail 8 cs n → LongestNumeral (c ∷ cs) (suc n)
octal_numeral c cs n is without tail =
    longest_more is_numeral (is_tail 8) c cs n (λ k. zero_numeral c (take k cs) is ∙ ap (λ b. b || is_tail 8 (take k cs)) (no_hexadecimal cs k without)) tail

pub octal_longest : (text : List ℕ) (n : ℕ) → 0 < length text → get_or text 0 0 ≡ 48 → (2 < length text → is_hexadecimal (get_or text 1 0 ∷ get_or text 2 0 ∷ []) ≡ false) → LongestTail 8 (drop 1 text) n → LongestNumeral text (1 + n)
octal_longest [] n some is without tail = absurd (omega arith)
octal_longest (c ∷ cs) n some is without tail =
    let size : suc n ≡ 1 + n = omega arith in
    longest_at is_numeral (c ∷ cs) _ _ size (octal_numeral c cs n is (no_prefix cs without) tail)
  where
    no_prefix : (cs : List ℕ) → (2 < length (c ∷ cs) → is_hexadecimal (get_or cs 0 0 ∷ get_or cs 1 0 ∷ []) ≡ false) → NoPrefix cs
    no_prefix [] without = tt
    no_prefix (x ∷ []) without = tt
    no_prefix (x ∷ d ∷ ds) without = without (omega arith)

-- 0x and hexadecimal digits

x_is_no_digit : (x : ℕ) (b : Bool) → (is_x x && b) ≡ true → is_digit_of 8 x ≡ false
x_is_no_digit x b is = grind (arith, nat_tests)

x_is_no_suffix : (x : ℕ) (b : Bool) → (is_x x && b) ≡ true → is_suffix x ≡ false
x_is_no_suffix x b is = grind (arith, nat_tests)

and_true : (b : Bool) → (b && true) ≡ b
and_true true = refl
and_true false = refl

or_false : (b : Bool) → (b || false) ≡ b
or_false true = refl
or_false false = refl

-- behind 0x the digits decide
hexadecimal_agree : (x d : ℕ) (ds : List ℕ) (c : ℕ) → c ≡ 48 → is_hexadecimal (x ∷ d ∷ []) ≡ true → is_numeral (c ∷ x ∷ d ∷ ds) ≡ is_tail 16 ds
hexadecimal_agree x d ds c zero_first is =
    let b = is_x x && nat_lt (digit_value d) 16 in
    let front : b ≡ true = sym (and_true b) ∙ is in
    let octal : is_tail 8 (x ∷ d ∷ ds) ≡ false =
    tail_other 8 x (d ∷ ds) (x_is_no_digit x (nat_lt (digit_value d) 16) front) ∙ ap (λ s. s && false) (x_is_no_suffix x (nat_lt (digit_value d) 16) front) in
    zero_numeral c (x ∷ d ∷ ds) zero_first
    ∙ ap (λ o. (b && is_tail 16 ds) || o) octal
    ∙ or_false (b && is_tail 16 ds)
    ∙ ap (λ b. b && is_tail 16 ds) front

hexadecimal_numeral : (c x d : ℕ) (ds : List ℕ) (n : ℕ) → c ≡ 48 → is_hexadecimal (x ∷ d ∷ []) ≡ true → LongestTail 16 ds n → LongestNumeral (c ∷ x ∷ d ∷ ds) (suc (suc (suc n)))
hexadecimal_numeral c x d ds n zero_first is tail = record {
  within = let inside = tail.within in omega arith;
  passes = hexadecimal_agree x d (take n ds) c zero_first is ∙ tail.passes;
  longest = longer;
}
  where
    longer : (m : ℕ) → suc (suc (suc n)) < m → m ≤ length (c ∷ x ∷ d ∷ ds) → is_numeral (take m (c ∷ x ∷ d ∷ ds)) ≡ false
    longer zero more within = absurd (omega arith)
    longer (suc zero) more within = absurd (omega arith)
    longer (suc (suc zero)) more within = absurd (omega arith)
    longer (suc (suc (suc m))) more within = hexadecimal_agree x d (take m ds) c zero_first is ∙ tail.longest m (omega arith) (omega arith)

pub hexadecimal_longest : (text : List ℕ) (n : ℕ) → 2 < length text → get_or text 0 0 ≡ 48 → is_hexadecimal (get_or text 1 0 ∷ get_or text 2 0 ∷ []) ≡ true → LongestTail 16 (drop 3 text) n → LongestNumeral text (3 + n)
hexadecimal_longest [] n some zero_first is tail = absurd (omega arith)
hexadecimal_longest (c ∷ []) n some zero_first is tail = absurd (omega arith)
hexadecimal_longest (c ∷ x ∷ []) n some zero_first is tail = absurd (omega arith)
hexadecimal_longest (c ∷ x ∷ d ∷ ds) n some zero_first is tail =
    let size : suc (suc (suc n)) ≡ 3 + n = omega arith in
    longest_at is_numeral (c ∷ x ∷ d ∷ ds) _ _ size (hexadecimal_numeral c x d ds n zero_first is tail)

-- a text that begins with a digit begins with a number

digit_is_no_letter : (c : ℕ) → is_digit c ≡ true → is_letter c ≡ false
digit_is_no_letter c is = grind (arith, nat_tests)

number_tells : (text : List ℕ) (m : ℕ) → 0 < length text → is_digit (get_or text 0 0) ≡ true → 0 < m → m ≤ length text → kind_of (take m text) ≡ (if is_numeral (take m text) then Some (Number (numeral_value (take m text)) (is_unsigned (take m text))) else None)
unfolding kind_of
number_tells [] m some digit more within = absurd (omega arith)
number_tells (c ∷ cs) zero some digit more within = absurd (omega arith)
number_tells (c ∷ cs) (suc m) some digit more within =
    if_false (is_letter c) _ _ (digit_is_no_letter c digit) ∙ if_true (is_digit c) _ _ digit

numeral_some : (text : List ℕ) (n : ℕ) → LongestNumeral text n → 0 < n
numeral_some text zero longest = let passes : false ≡ true = longest.passes in cc
numeral_some text (suc n) longest = omega arith

pub number_longest : (text : List ℕ) (n : ℕ) → 0 < length text → is_digit (get_or text 0 0) ≡ true → LongestNumeral text n → Longest text n (Number (numeral_value (take n text)) (is_unsigned (take n text)))
number_longest text n some digit longest =
    longest_spelled is_numeral (λ bytes. Number (numeral_value bytes) (is_unsigned bytes)) text n (λ m more within. number_tells text m some digit more within) (numeral_some text n longest) longest
