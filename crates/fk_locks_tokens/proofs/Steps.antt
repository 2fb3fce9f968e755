-- What stands at a point of a text, computed for blanks, words, signs and the number 1.
use Rattle.std.proofs.Common.{◌≡◌, ℕ, ◌<◌, ◌==◌, ◌&&◌, not, Bool, true, false, Option, Some, None, List, [], ◌∷◌, length, take, get_or, refl, sym, subst, arith, if◌then◌else◌}
use Rattle.std.specs.List.{prefix_len}
use Rattle.std.proofs.lemmas.Bool.Decides.{nat_tests}
use Rattle.fk_lex.specs.declared.step.Beginning.{Beginning}
use Rattle.fk_lex.specs.declared.step.Beginning.TheVariants as begins
use Rattle.fk_lex.specs.declared.step.Step.{Step}
use Rattle.fk_lex.specs.declared.step.Step.TheVariants.{Gap, Token}
use Rattle.fk_lex.specs.declared.token.TokenKind.{TokenKind}
use Rattle.fk_lex.specs.declared.token.TokenKind.TheVariants.{Number}
use Rattle.fk_lex.specs.Bytes.{is_letter, is_digit, is_word_byte, is_suffix}
use Rattle.fk_lex.specs.Kinds.{LongestTail, lookup, keywords, or_word, triple_signs, double_signs, single_signs, number_of, numeral_value, is_unsigned}
use Rattle.fk_lex.specs.Steps.{TokenStep, StepBy, NextStep, beginning}
use Rattle.fk_lex.proofs.Fronts.{length_none, is_digit_of, IsTailAt, tail_at}
use Rattle.fk_lex.proofs.Numerals.{decimal_longest}
use Rattle.fk_lex.proofs.Signs.{triple_found, double_found, single_found}
use Rattle.fk_lex.proofs.Tests.{both_true, same_byte}
use Rattle.fk_lex.proofs.TokenSteps.{word_step_is, sign_step_is, number_step_is}
use Rattle.fk_lex.proofs.Words.{none_of_three}

some_step : (s t : Step) → Some s ≡ Some t → s ≡ t
some_step s t same = cc

-- ---- words

abbrev word_at : List ℕ → Step
word_at text = let n = prefix_len is_word_byte text in Token n (or_word (lookup keywords (take n text)))

word_is : (text : List ℕ) → 0 < length text → is_letter (get_or text 0 0) ≡ true → TokenStep text (word_at text)
word_is text some letter = word_step_is text (prefix_len is_word_byte text) (or_word (lookup keywords (take (prefix_len is_word_byte text) text))) some letter refl refl

-- ---- the number 1

abbrev one : TokenKind
one = Number 1 false

abbrev number_at : List ℕ → Option Step
number_at text = if (get_or text 0 0 == 49) && not (is_word_byte (get_or text 1 0)) then Some (Token 1 one) else None

not_digit : (d : ℕ) → is_word_byte d ≡ false → is_digit_of 10 d ≡ false
not_digit d other = grind (arith, nat_tests)

not_suffix : (d : ℕ) → is_word_byte d ≡ false → is_suffix d ≡ false
not_suffix d other = grind (arith, nat_tests)

no_tail : (cs : List ℕ) → is_word_byte (get_or cs 0 0) ≡ false → LongestTail 10 cs 0
no_tail [] other = (tail_at 10 []).plain refl
no_tail (d ∷ ds) other =
    let at : IsTailAt 10 (d ∷ ds) 0 = subst (IsTailAt 10 (d ∷ ds)) (length_none (is_digit_of 10) d ds (not_digit d other)) (tail_at 10 (d ∷ ds)) in
    at.plain (not_suffix d other)

one_of : Some one ≡ number_of (49 ∷ [])
unfolding number_of numeral_value is_unsigned
one_of = refl

not_true : (b : Bool) → not b ≡ true → b ≡ false
not_true true is = cc
not_true false is = refl

one_is : (text : List ℕ) → 0 < length text → get_or text 0 0 ≡ 49 → is_word_byte (get_or text 1 0) ≡ false → TokenStep text (Token 1 one)
one_is [] some is apart = absurd (omega arith)
one_is (c ∷ cs) some is apart = subst (λ c. TokenStep (c ∷ cs) (Token 1 one)) (sym is)
    (number_step_is (49 ∷ cs) 1 one (omega arith) refl (decimal_longest (49 ∷ cs) 0 (omega arith) (λ same. absurd (omega (arith, same))) refl (no_tail cs apart)) one_of apart)

number_is : (text : List ℕ) (s : Step) → 0 < length text → number_at text ≡ Some s → TokenStep text s
number_is text s some is = by ((get_or text 0 0 == 49) && not (is_word_byte (get_or text 1 0))) refl is
  where
    by : (b : Bool) → ((get_or text 0 0 == 49) && not (is_word_byte (get_or text 1 0))) ≡ b → (if b then Some (Token 1 one) else None) ≡ Some s → TokenStep text s
    by true holds is =
        let both = both_true (get_or text 0 0 == 49) (not (is_word_byte (get_or text 1 0))) holds in
        subst (TokenStep text) (some_step (Token 1 one) s is) (one_is text some (same_byte (get_or text 0 0) 49 both.0) (not_true (is_word_byte (get_or text 1 0)) both.1))
    by false holds is = absurd cc

-- ---- signs

abbrev sign_by : (triple double single : Option TokenKind) → Option Step
sign_by (Some k) double single = Some (Token 3 k)
sign_by None (Some k) single = Some (Token 2 k)
sign_by None None (Some k) = Some (Token 1 k)
sign_by None None None = None

abbrev triple_at : List ℕ → Option TokenKind
triple_at text = lookup triple_signs (get_or text 0 0 ∷ get_or text 1 0 ∷ get_or text 2 0 ∷ [])

abbrev double_at : List ℕ → Option TokenKind
double_at text = lookup double_signs (get_or text 0 0 ∷ get_or text 1 0 ∷ [])

abbrev single_at : List ℕ → Option TokenKind
single_at text = lookup single_signs (get_or text 0 0 ∷ [])

sign_is : (text : List ℕ) (s : Step) → 0 < length text → is_letter (get_or text 0 0) ≡ false → is_digit (get_or text 0 0) ≡ false
    → (triple double single : Option TokenKind) → triple ≡ triple_at text → double ≡ double_at text → single ≡ single_at text
    → sign_by triple double single ≡ Some s → TokenStep text s
sign_is text s some letter digit (Some k) double single three two one is =
    subst (TokenStep text) (some_step (Token 3 k) s is)
    (sign_step_is text 3 k letter digit (omega arith) (triple_found text (get_or text 1 0) (get_or text 2 0) (Some k) three refl refl) (λ m above short. absurd (omega arith)))
sign_is text s some letter digit None (Some k) single three two one is =
    subst (TokenStep text) (some_step (Token 2 k) s is)
    (sign_step_is text 2 k letter digit (omega arith) (double_found text (get_or text 1 0) (Some k) two refl)
    (none_of_three text 2 (triple_found text (get_or text 1 0) (get_or text 2 0) None three refl refl) (λ less. absurd (omega arith)) (λ less. absurd (omega arith))))
sign_is text s some letter digit None None (Some k) three two one is =
    subst (TokenStep text) (some_step (Token 1 k) s is)
    (sign_step_is text 1 k letter digit (omega arith) (single_found text (Some k) some one)
    (none_of_three text 1 (triple_found text (get_or text 1 0) (get_or text 2 0) None three refl refl) (λ less. double_found text (get_or text 1 0) None two refl) (λ less. absurd (omega arith))))
sign_is text s some letter digit None None None three two one is = absurd cc

abbrev sign_at : List ℕ → Option Step
sign_at text = sign_by (triple_at text) (double_at text) (single_at text)

-- ---- whatever stands there

abbrev token_by : (letter digit : Bool) → List ℕ → Option Step
token_by true digit text = Some (word_at text)
token_by false true text = number_at text
token_by false false text = sign_at text

abbrev step_by : Beginning → List ℕ → Option Step
step_by begins.Blank text = Some (Gap 1)
step_by begins.Other text = token_by (is_letter (get_or text 0 0)) (is_digit (get_or text 0 0)) text
step_by b text = None

-- what stands at the beginning of a text, where this tells it
abbrev pub step_at : List ℕ → Option Step
step_at [] = None
step_at (c ∷ cs) = step_by (beginning (c ∷ cs)) (c ∷ cs)

token_is : (text : List ℕ) (s : Step) → 0 < length text → (letter digit : Bool) → is_letter (get_or text 0 0) ≡ letter → is_digit (get_or text 0 0) ≡ digit
    → token_by letter digit text ≡ Some s → TokenStep text s
token_is text s some true digit l d is = subst (TokenStep text) (some_step (word_at text) s is) (word_is text some l)
token_is text s some false true l d is = number_is text s some is
token_is text s some false false l d is = sign_is text s some l d (triple_at text) (double_at text) (single_at text) refl refl refl is

step_is_by : (b : Beginning) (before text : List ℕ) (s : Step) → 0 < length text → step_by b text ≡ Some s → StepBy b before text s
step_is_by begins.Blank before text s some is = sym (some_step (Gap 1) s is)
step_is_by begins.Other before text s some is = token_is text s some (is_letter (get_or text 0 0)) (is_digit (get_or text 0 0)) refl refl is
step_is_by begins.Comment before text s some is = absurd cc
step_is_by begins.LineComment before text s some is = absurd cc
step_is_by begins.Directive before text s some is = absurd cc
step_is_by begins.Character before text s some is = absurd cc
step_is_by begins.Text before text s some is = absurd cc

pub step_is : (before text : List ℕ) (s : Step) → step_at text ≡ Some s → NextStep before text s
step_is before [] s is = absurd cc
step_is before (c ∷ cs) s is = step_is_by (beginning (c ∷ cs)) before (c ∷ cs) s (omega arith) is
