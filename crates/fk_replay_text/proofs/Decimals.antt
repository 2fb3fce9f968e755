-- Decimal texts.
use Rattle.std.proofs.Common.{◌≡◌, ◌≢◌, ℕ, zero, suc, ◌-◌, ◌^◌, ◌<◌, Bool, true, false, List, [], ◌∷◌, Option, Some, None, length, get_or, refl, sym, ap, ◌∙◌, arith}
use Rattle.std.specs.Prelude.{if◌then◌else◌, decimal, MatchOption}
use Rattle.std.specs.Char.{is_ascii_digit}
use Rattle.std.specs.List.{list_all}
use Rattle.std.specs.Str.Parse.{digits_value}
use Rattle.std.proofs.lemmas.Fmt.{decimal-digits_value, decimal_digit, decimal_nonempty, digits_decimal, digits_value-decimal, first_decimal}
use Rattle.std.proofs.lemmas.Str.Parse.{IsDigitsTest, IsNumeralModel, numerals_by_value}
use Rattle.fk_num.specs.Numeral.{if_word, is_numeral, read_word}
use Rattle.fk_replay_text.specs.Texts.{Lacks}

abbrev AreDigits : List ℕ → Type 0
AreDigits ds = list_all is_ascii_digit ds ≡ true

tells : IsDigitsTest AreDigits
tells = record { empty = refl; parts = λ c cs h. grind arith; more = λ c cs h rest. grind arith }

model : IsNumeralModel AreDigits (digits_value 10)
model = numerals_by_value AreDigits tells

wide : (n : ℕ) → n < 2 ^ 32 → n < 2 ^ 64
wide n h = omega arith

digits_lack : (byte : ℕ) (ds : List ℕ) → byte < 48 → AreDigits ds → Lacks byte ds
digits_lack byte [] low h = tt
digits_lack byte (d ∷ ds) low h =
    let parts = tells.parts d ds h in
    let other : d ≢ byte = omega arith in
    (other, digits_lack byte ds low parts.1)

-- decimal texts have no byte below `0`
pub decimal_lacks : (byte n : ℕ) → byte < 48 → n < 2 ^ 32 → Lacks byte (decimal n)
decimal_lacks byte n low h = digits_lack byte (decimal n) low (digits_decimal model n (wide n h))

word_of_value : (v n : ℕ) → Some n ≡ if_word v → (v ≡ n) × (v < 2 ^ 32)
word_of_value v n e = grind arith

record IsRead (text : List ℕ) (n : ℕ) : Type 0 where
  digits : AreDigits text
  some : 0 < length text
  value : digits_value 10 text ≡ n
  word : n < 2 ^ 32

read_parts : (text : List ℕ) (n : ℕ) → Some n ≡ read_word text → IsRead text n
read_parts text n e = by (is_numeral text) refl e
  where
    by : (b : Bool) → is_numeral text ≡ b → Some n ≡ (if b then if_word (digits_value 10 text) else None) → IsRead text n
    by false is h = absurd (cc)
    by true is h =
        let v = word_of_value (digits_value 10 text) n h in
        let word : n < 2 ^ 32 = omega arith in
        record { digits = grind arith; some = grind arith; value = v.0; word = word }

-- a number that is read is written so, unless it has a leading zero
pub number_read : (text : List ℕ) (n : ℕ) → Some n ≡ read_word text → (1 < length text → get_or text 0 0 ≡ 48 → ⊥) → text ≡ decimal n
number_read text n e plain =
    let r = read_parts text n e in
    let one : get_or text 0 0 ≡ 48 → length text ≡ 1 = λ (z : get_or text 0 0 ≡ 48). single text r.some (λ more. plain more z) in
    let value_fits : digits_value 10 text < 2 ^ 64 = rw r.value (wide n r.word) in
    let is : decimal (digits_value 10 text) ≡ text = decimal-digits_value model text r.digits r.some one value_fits in
    sym is ∙ ap decimal r.value
  where
    single : (ds : List ℕ) → 0 < length ds → (1 < length ds → ⊥) → length ds ≡ 1
    single ds some short = grind (arith, short)

numeral_is : (n : ℕ) → n < 2 ^ 32 → read_word (decimal n) ≡ Some n
numeral_is n h =
    let digits : AreDigits (decimal n) = digits_decimal model n (wide n h) in
    let some : 0 < length (decimal n) = decimal_nonempty n (wide n h) in
    let value : digits_value 10 (decimal n) ≡ n = digits_value-decimal model n (wide n h) in
    grind arith

-- a text that isn't read is no number's
pub number_not_read : (text : List ℕ) (n : ℕ) → None ≡ read_word text → n < 2 ^ 32 → text ≢ decimal n
number_not_read text n e h is =
    let read : read_word text ≡ Some n = rw is (numeral_is n h) in
    cc

-- no number has a leading zero
pub leading_zero : (text : List ℕ) (n : ℕ) → 1 < length text → get_or text 0 0 ≡ 48 → n < 2 ^ 32 → text ≢ decimal n
leading_zero text zero more z h is =
    let one : decimal 0 ≡ 48 ∷ [] = decimal_digit 0 (omega arith) in
    let short : length text ≡ 1 = ap length (is ∙ one) in
    omega arith
leading_zero text (suc n) more z h is =
    let first : 48 < get_or (decimal (suc n)) 0 0 = first_decimal (suc n) (omega arith) (wide (suc n) h) in
    let same : get_or text 0 0 ≡ get_or (decimal (suc n)) 0 0 = ap (λ t. get_or t 0 0) is in
    omega arith

-- what reading a text without a leading zero gives
pub number_answer : (text : List ℕ) (o : Option ℕ) → o ≡ read_word text → (1 < length text → get_or text 0 0 ≡ 48 → ⊥)
    → MatchOption o ((n : ℕ) → n < 2 ^ 32 → text ≢ decimal n) (λ n. text ≡ decimal n)
number_answer text None e plain = λ n h. number_not_read text n e h
number_answer text (Some n) e plain = number_read text n e plain
