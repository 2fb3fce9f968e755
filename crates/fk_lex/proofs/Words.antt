-- The longest word or sign that a text begins with.
use Rattle.std.proofs.Common.{◌≡◌, ℕ, zero, suc, ◌<◌, ◌≤◌, ◌&&◌, ◌||◌, ⊎_elim, Bool, true, false, nat_le, Option, Some, None, List, [], ◌∷◌, length, take, get_or, refl, sym, ap, ◌∙◌, arith, if◌then◌else◌}
use Rattle.std.specs.List.{prefix_len, list_all}
use Rattle.std.specs.Str.{bytes_eq}
use Rattle.std.proofs.lemmas.Bool.{cases_lt, cases_Bool}
use Rattle.std.proofs.lemmas.Bool.Decides.{nat_tests}
use Rattle.std.proofs.lemmas.List.{length-take-le}
use Rattle.std.proofs.lemmas.Slice.Eq.{bytes_eq-Decides}
use Rattle.fk_lex.specs.declared.token.TokenKind.{TokenKind}
use Rattle.fk_lex.specs.Bytes.{is_letter, is_digit, is_word_byte}
use Rattle.fk_lex.specs.Kinds.{LongestBy, kind_of, Longest, SpellsNone, lookup, keywords, signs, or_word}
use Rattle.fk_lex.proofs.Fronts.{longest_more, longest_at, longest_spelled, all_longest, length_more}
use Rattle.fk_lex.proofs.Tests.{if_true, if_false}

-- words

abbrev is_word : List ℕ → Bool
is_word [] = false
is_word (c ∷ cs) = list_all is_word_byte cs

letter_in_word : (c : ℕ) → is_letter c ≡ true → is_word_byte c ≡ true
letter_in_word c is = ap (λ b. b || is_digit c) is

word_tells : (text : List ℕ) (m : ℕ) → is_letter (get_or text 0 0) ≡ true → 0 < m → m ≤ length text → kind_of (take m text) ≡ (if is_word (take m text) then Some (or_word (lookup keywords (take m text))) else None)
unfolding kind_of
word_tells [] m letter more within = absurd (omega arith)
word_tells (c ∷ cs) zero letter more within = absurd (omega arith)
word_tells (c ∷ cs) (suc m) letter more within = if_true (is_letter c) _ _ letter

word_front : (c : ℕ) (cs : List ℕ) → is_letter c ≡ true → LongestBy is_word (c ∷ cs) (prefix_len is_word_byte (c ∷ cs))
word_front c cs letter =
    longest_at is_word (c ∷ cs) _ _ (sym (length_more is_word_byte c cs (letter_in_word c letter)))
    (longest_more is_word (list_all is_word_byte) c cs (prefix_len is_word_byte cs) (λ k. refl) (all_longest is_word_byte cs))

word_some : (text : List ℕ) (n : ℕ) → LongestBy is_word text n → 0 < n
word_some text zero longest = let passes : false ≡ true = longest.passes in cc
word_some text (suc n) longest = omega arith

word_by : (text : List ℕ) → 0 < length text → is_letter (get_or text 0 0) ≡ true → LongestBy is_word text (prefix_len is_word_byte text)
word_by [] some letter = absurd (omega arith)
word_by (c ∷ cs) some letter = word_front c cs letter

pub word_longest : (text : List ℕ) (n : ℕ) → 0 < length text → is_letter (get_or text 0 0) ≡ true → n ≡ prefix_len is_word_byte text → Longest text n (or_word (lookup keywords (take n text)))
word_longest text n some letter is =
    let longest = longest_at is_word text _ _ (sym is) (word_by text some letter) in
    longest_spelled is_word (λ bytes. or_word (lookup keywords bytes)) text n (λ m more within. word_tells text m letter more within) (word_some text n longest) longest

-- a text that begins with neither letter nor digit has a sign's spelling or none

pub sign_tells : (text : List ℕ) (m : ℕ) → is_letter (get_or text 0 0) ≡ false → is_digit (get_or text 0 0) ≡ false → 0 < m → m ≤ length text → kind_of (take m text) ≡ lookup signs (take m text)
unfolding kind_of
sign_tells [] m letter digit more within = absurd (omega arith)
sign_tells (c ∷ cs) zero letter digit more within = absurd (omega arith)
sign_tells (c ∷ cs) (suc m) letter digit more within = if_false (is_letter c) _ _ letter ∙ if_false (is_digit c) _ _ digit

-- every sign has three bytes at most

abbrev are_short : List (List ℕ × TokenKind) → Bool
are_short [] = true
are_short (entry ∷ others) = nat_le (length entry.0) 3 && are_short others

short_head : (n : ℕ) (b : Bool) → (nat_le n 3 && b) ≡ true → n ≤ 3
short_head n b both = grind (arith, nat_tests)

short_tail : (b r : Bool) → (b && r) ≡ true → r ≡ true
short_tail true r both = both
short_tail false r both = cc

other_length : (xs ys : List ℕ) → length xs < length ys → bytes_eq xs ys ≡ false
other_length xs ys shorter =
    ⊎_elim (λ same. let equal = ap length ((bytes_eq-Decides xs ys).0 same) in absurd (omega arith)) (λ other. other) (cases_Bool (bytes_eq xs ys))

long_lookup : (table : List (List ℕ × TokenKind)) (bytes : List ℕ) → are_short table ≡ true → 3 < length bytes → lookup table bytes ≡ None
long_lookup [] bytes short long = refl
long_lookup (entry ∷ others) bytes short long =
    let head = short_head (length entry.0) (are_short others) short in
    if_false (bytes_eq entry.0 bytes) (Some entry.1) (lookup others bytes) (other_length entry.0 bytes (omega arith))
    ∙ long_lookup others bytes (short_tail (nat_le (length entry.0) 3) (are_short others) short) long

-- what the code finds among the first n bytes
abbrev pub sign_in : List ℕ → ℕ → Option TokenKind
sign_in text n = if nat_le n (length text) then lookup signs (take n text) else None

pub sign_in_tells : (text : List ℕ) (n : ℕ) → is_letter (get_or text 0 0) ≡ false → is_digit (get_or text 0 0) ≡ false → 0 < n → n ≤ length text → kind_of (take n text) ≡ sign_in text n
sign_in_tells text n letter digit more within =
    let inside : nat_le n (length text) ≡ true = grind (arith, nat_tests) in
    sign_tells text n letter digit more within ∙ sym (if_true (nat_le n (length text)) (lookup signs (take n text)) None inside)

long_none : (text : List ℕ) (m : ℕ) → is_letter (get_or text 0 0) ≡ false → is_digit (get_or text 0 0) ≡ false → 3 < m → m ≤ length text → kind_of (take m text) ≡ None
long_none text m letter digit more within =
    let size = length-take-le m text within in
    sign_tells text m letter digit (omega arith) within ∙ long_lookup signs (take m text) refl (omega arith)

some_within : (text : List ℕ) (n : ℕ) (kind : TokenKind) → Some kind ≡ sign_in text n → n ≤ length text
some_within text n kind is =
    ⊎_elim (λ inside. grind (arith, nat_tests)) (λ outside.
    let none = if_false (nat_le n (length text)) (lookup signs (take n text)) None outside in
    absurd (some_is_none kind (is ∙ none))) (cases_Bool (nat_le n (length text)))
  where
    some_is_none : (kind : TokenKind) → Some kind ≡ None → ⊥
    some_is_none kind is = cc

-- longer fronts than n spell nothing, where those of n + 1 to 3 bytes don't
pub sign_longest : (text : List ℕ) (n : ℕ) (kind : TokenKind) → is_letter (get_or text 0 0) ≡ false → is_digit (get_or text 0 0) ≡ false → 0 < n → Some kind ≡ sign_in text n → ((m : ℕ) → n < m → m ≤ 3 → None ≡ sign_in text m) → Longest text n kind
sign_longest text n kind letter digit more is longer =
    let inside = some_within text n kind is in
    record {
      within = inside;
      spells = sign_in_tells text n letter digit more inside ∙ sym is;
      longest = λ m above within.
          ⊎_elim (λ long. long_none text m letter digit long within)
          (λ short. sign_in_tells text m letter digit (omega arith) within ∙ sym (longer m above short)) (cases_lt 3 m);
    }

nothing_spells_nothing : kind_of [] ≡ None
unfolding kind_of
nothing_spells_nothing = refl

pub sign_none : (text : List ℕ) → is_letter (get_or text 0 0) ≡ false → is_digit (get_or text 0 0) ≡ false → ((m : ℕ) → 0 < m → m ≤ 3 → None ≡ sign_in text m) → SpellsNone text
sign_none text letter digit none zero within = nothing_spells_nothing
sign_none text letter digit none (suc m) within =
    ⊎_elim (λ long. long_none text (suc m) letter digit long within)
    (λ short. sign_in_tells text (suc m) letter digit (omega arith) within ∙ sym (none (suc m) (omega arith) short)) (cases_lt 3 (suc m))

-- none of 1 to 3 bytes, one by one
pub none_of_three : (text : List ℕ) (n : ℕ) → None ≡ sign_in text 3 → (n < 2 → None ≡ sign_in text 2) → (n < 1 → None ≡ sign_in text 1) → (m : ℕ) → n < m → m ≤ 3 → None ≡ sign_in text m
none_of_three text n three two one zero above short = absurd (omega arith)
none_of_three text n three two one (suc zero) above short = one above
none_of_three text n three two one (suc (suc zero)) above short = two above
none_of_three text n three two one (suc (suc (suc zero))) above short = three
none_of_three text n three two one (suc (suc (suc (suc m)))) above short = absurd (omega arith)
