-- The signs that a text's first bytes are, by how many there are.
use Rattle.std.proofs.Common.{◌≡◌, ℕ, ◌+◌, ◌<◌, Bool, true, false, nat_le, nat_lt, Option, Some, None, List, [], ◌∷◌, ◌++◌, length, take, get_or, refl, sym, ap, ◌∙◌, arith, if◌then◌else◌}
use Rattle.std.specs.Str.{bytes_eq}
use Rattle.std.proofs.lemmas.Bool.{both_ways}
use Rattle.std.proofs.lemmas.Bool.Decides.{nat_tests}
use Rattle.fk_lex.specs.declared.token.TokenKind.{TokenKind}
use Rattle.fk_lex.specs.Kinds.{lookup, signs, triple_signs, double_signs, single_signs}
use Rattle.fk_lex.proofs.Lines.{rows_pass, lookup_passes}
use Rattle.fk_lex.proofs.Tests.{if_true, if_false}
use Rattle.fk_lex.proofs.Words.{sign_in}

-- tables

no_row_by : (test : List ℕ → Bool) (table : List (List ℕ × TokenKind)) (bytes : List ℕ) → rows_pass test table ≡ true → test bytes ≡ false → (found : Option TokenKind) → lookup table bytes ≡ found → found ≡ None
no_row_by test table bytes all other None is = refl
no_row_by test table bytes all other (Some kind) is = absurd (both_ways (test bytes) other (lookup_passes test table bytes kind all is))

-- bytes that fail a test of all rows are no row's
no_row : (test : List ℕ → Bool) (table : List (List ℕ × TokenKind)) (bytes : List ℕ) → rows_pass test table ≡ true → test bytes ≡ false → lookup table bytes ≡ None
no_row test table bytes all other = no_row_by test table bytes all other (lookup table bytes) refl

in_front : (table others : List (List ℕ × TokenKind)) (bytes : List ℕ) → lookup others bytes ≡ None → lookup (table ++ others) bytes ≡ lookup table bytes
in_front [] others bytes none = none
in_front (entry ∷ table) others bytes none =
    ap (λ found. if bytes_eq entry.0 bytes then Some entry.1 else found) (in_front table others bytes none)

behind_by : (b : Bool) (kind : TokenKind) (here front back : Option TokenKind) → (if b then Some kind else here) ≡ None → (here ≡ None → front ≡ back) → (if b then Some kind else front) ≡ back
behind_by true kind here front back none onward = absurd cc
behind_by false kind here front back none onward = onward none

behind : (table others : List (List ℕ × TokenKind)) (bytes : List ℕ) → lookup table bytes ≡ None → lookup (table ++ others) bytes ≡ lookup others bytes
behind [] others bytes none = refl
behind (entry ∷ table) others bytes none =
    behind_by (bytes_eq entry.0 bytes) entry.1 (lookup table bytes) (lookup (table ++ others) bytes) (lookup others bytes) none (λ none. behind table others bytes none)

-- so many bytes are found among the signs of so many

of_three : (a b c : ℕ) → lookup signs (a ∷ b ∷ c ∷ []) ≡ lookup triple_signs (a ∷ b ∷ c ∷ [])
of_three a b c = in_front triple_signs (double_signs ++ single_signs) (a ∷ b ∷ c ∷ []) (no_row (λ l. nat_le (length l) 2) (double_signs ++ single_signs) (a ∷ b ∷ c ∷ []) refl refl)

of_two : (a b : ℕ) → lookup signs (a ∷ b ∷ []) ≡ lookup double_signs (a ∷ b ∷ [])
of_two a b =
    behind triple_signs (double_signs ++ single_signs) (a ∷ b ∷ []) (no_row (λ l. nat_le 3 (length l)) triple_signs (a ∷ b ∷ []) refl refl)
    ∙ in_front double_signs single_signs (a ∷ b ∷ []) (no_row (λ l. nat_le (length l) 1) single_signs (a ∷ b ∷ []) refl refl)

of_one : (a : ℕ) → lookup signs (a ∷ []) ≡ lookup single_signs (a ∷ [])
of_one a =
    behind triple_signs (double_signs ++ single_signs) (a ∷ []) (no_row (λ l. nat_le 3 (length l)) triple_signs (a ∷ []) refl refl)
    ∙ behind double_signs single_signs (a ∷ []) (no_row (λ l. nat_le 2 (length l)) double_signs (a ∷ []) refl refl)

-- no sign has the 0 that stands past a text's end

abbrev third_some : List ℕ → Bool
third_some (a ∷ b ∷ c ∷ cs) = nat_lt 0 c
third_some _ = true

abbrev second_some : List ℕ → Bool
second_some (a ∷ b ∷ cs) = nat_lt 0 b
second_some _ = true

in_text : (text : List ℕ) (n : ℕ) → n < length text + 1 → sign_in text n ≡ lookup signs (take n text)
in_text text n inside = if_true (nat_le n (length text)) _ None (grind (arith, nat_tests))

three_is : (text : List ℕ) → lookup triple_signs (get_or text 0 0 ∷ get_or text 1 0 ∷ get_or text 2 0 ∷ []) ≡ sign_in text 3
three_is [] = refl
three_is (a ∷ []) = no_row third_some triple_signs (a ∷ 0 ∷ 0 ∷ []) refl refl
three_is (a ∷ b ∷ []) = no_row third_some triple_signs (a ∷ b ∷ 0 ∷ []) refl refl
three_is (a ∷ b ∷ c ∷ cs) = sym (of_three a b c) ∙ sym (in_text (a ∷ b ∷ c ∷ cs) 3 (omega arith))

two_is : (text : List ℕ) → lookup double_signs (get_or text 0 0 ∷ get_or text 1 0 ∷ []) ≡ sign_in text 2
two_is [] = refl
two_is (a ∷ []) = no_row second_some double_signs (a ∷ 0 ∷ []) refl refl
two_is (a ∷ b ∷ cs) = sym (of_two a b) ∙ sym (in_text (a ∷ b ∷ cs) 2 (omega arith))

one_is : (text : List ℕ) → 0 < length text → lookup single_signs (get_or text 0 0 ∷ []) ≡ sign_in text 1
one_is [] some = absurd (omega arith)
one_is (a ∷ cs) some = sym (of_one a) ∙ sym (in_text (a ∷ cs) 1 (omega arith))

pub triple_found : (text : List ℕ) (second third : ℕ) (found : Option TokenKind) → found ≡ lookup triple_signs (get_or text 0 0 ∷ second ∷ third ∷ []) → second ≡ get_or text 1 0 → third ≡ get_or text 2 0 → found ≡ sign_in text 3
triple_found text second third found is second_is third_is =
    is ∙ ap (λ b. lookup triple_signs (get_or text 0 0 ∷ b ∷ third ∷ [])) second_is
    ∙ ap (λ c. lookup triple_signs (get_or text 0 0 ∷ get_or text 1 0 ∷ c ∷ [])) third_is ∙ three_is text

pub double_found : (text : List ℕ) (second : ℕ) (found : Option TokenKind) → found ≡ lookup double_signs (get_or text 0 0 ∷ second ∷ []) → second ≡ get_or text 1 0 → found ≡ sign_in text 2
double_found text second found is second_is =
    is ∙ ap (λ b. lookup double_signs (get_or text 0 0 ∷ b ∷ [])) second_is ∙ two_is text

pub single_found : (text : List ℕ) (found : Option TokenKind) → 0 < length text → found ≡ lookup single_signs (get_or text 0 0 ∷ []) → found ≡ sign_in text 1
single_found text found some is = is ∙ one_is text some
