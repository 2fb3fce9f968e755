-- The tokens of a text are good: numbers are below 2^32, and the bytes of texts are below 127.
use Rattle.std.proofs.Common.{◌≡◌, inl, inr, ℕ, ◌+◌, ◌≤◌, ◌^◌, Bool, true, false, List, [], ◌∷◌, ◌++◌, length, take, drop, Option, Some, None, refl, sym, ap, subst, ◌∙◌, append_assoc, arith, length-append}
use Rattle.std.specs.Prelude.{◌==◌, ◌&&◌, nat_le, nat_lt, not, slice_index, All, if◌then◌else◌}
use Rattle.std.specs.List.{list_all}
use Rattle.std.specs.Str.{bytes_eq}
use Rattle.std.proofs.Math.Seq.{take-append_seam}
use Rattle.std.proofs.lemmas.Bool.{false≢true, and_parts, ltb-true, leb-true, eqb-true}
use Rattle.std.proofs.lemmas.List.Elements.{All-nil, All-cons, All-append}
use Rattle.fk_lex.specs.declared.step.Beginning.{Beginning}
use Rattle.fk_lex.specs.declared.step.Beginning.TheVariants as begins
use Rattle.fk_lex.specs.declared.step.Step.{Step}
use Rattle.fk_lex.specs.declared.step.Step.TheVariants.{Gap, Token, Fault}
use Rattle.fk_lex.specs.declared.step.FaultKind.TheVariants.{BadByte, WideNumber}
use Rattle.fk_lex.specs.declared.token.TokenKind.{TokenKind}
use Rattle.fk_lex.specs.declared.token.TokenKind.TheVariants as kind
use Rattle.fk_lex.specs.Bytes.{is_letter, is_digit, is_word_byte, is_plain, escape_value}
use Rattle.fk_lex.specs.Kinds.{keywords, signs, lookup, or_word, is_numeral, numeral_value, is_unsigned, kind_of}
use Rattle.fk_lex.specs.Positions.{only_blanks}
use Rattle.fk_lex.specs.Steps.{line_length, is_include, directive_step, escaped, character_of, character_step, token_or_fault, StepBy, beginning}
use Rattle.fk_lex.specs.Texts.{Part, Plain, Escape, Bad, bytes_of, is_escaped, is_some_byte, AreParts, AreGood}
use Rattle.fk_lex.specs.Sizes.{size_of}
use Rattle.fk_lex.specs.Reading.{Spelled, Cuts, spelled_by, tokens_in, Tokens}
use Rattle.fk_parse_laws.specs.Words.{IsWord}
use Rattle.fk_parse_laws.proofs.Holding.{IsGood, Each}

abbrev IsGoodStep : List ℕ → Step → Type 0
IsGoodStep text (Token n kind) = IsGood kind (take n text)
IsGoodStep text (Gap n) = Unit {0}
IsGoodStep text (Fault n kind) = Unit {0}

-- ---- characters

few : (n : ℕ) → n ≤ 126 → IsWord n
few n less = omega (arith, less)

plain_few : (quote c : ℕ) → is_plain quote c ≡ true → c ≤ 126
plain_few quote c is = leb-true c 126 (and_parts (nat_le 32 c) (nat_le c 126) (and_parts (nat_le 32 c && nat_le c 126) (not (c == quote)) (and_parts (nat_le 32 c && nat_le c 126 && not (c == quote)) (not (c == 92)) is).0).0).1

escaped_good : (text : List ℕ) (d : ℕ) → IsGoodStep text (escaped (escape_value d))
escaped_good text d = by (d == 110) (d == 116) (d == 48) (d == 92) (d == 39) (d == 34)
  where
    by : (p q r s t u : Bool)
        → IsGoodStep text (escaped (if p then Some 10 else (if q then Some 9 else (if r then Some 0 else (if s then Some 92 else (if t then Some 39 else (if u then Some 34 else None)))))))
    by true q r s t u = few 10 (omega arith)
    by false true r s t u = few 9 (omega arith)
    by false false true s t u = few 0 (omega arith)
    by false false false true t u = few 92 (omega arith)
    by false false false false true u = few 39 (omega arith)
    by false false false false false true = few 34 (omega arith)
    by false false false false false false = tt

character_good : (text : List ℕ) (c d e : ℕ) → IsGoodStep text (character_of c d e)
character_good text c d e = by (is_plain 39 c && (d == 39)) refl ((c == 92) && (e == 39))
  where
    by : (p : Bool) → (is_plain 39 c && (d == 39)) ≡ p → (q : Bool)
        → IsGoodStep text (if p then Token 3 (kind.Number c false) else (if q then escaped (escape_value d) else Fault 0 BadByte))
    by true is q = few c (plain_few 39 c (and_parts (is_plain 39 c) (d == 39) is).0)
    by false is true = escaped_good text d
    by false is false = tt

-- ---- texts

escape_few : (c : ℕ) → is_escaped c ≡ true → c ≤ 126
escape_few c is = by (c == 110) refl (c == 116) refl (c == 48) refl (c == 92) refl (c == 39) refl (c == 34) refl is
  where
    by : (p : Bool) → (c == 110) ≡ p → (q : Bool) → (c == 116) ≡ q → (r : Bool) → (c == 48) ≡ r → (s : Bool) → (c == 92) ≡ s → (t : Bool) → (c == 39) ≡ t → (u : Bool) → (c == 34) ≡ u
        → is_some_byte (if p then Some 10 else (if q then Some 9 else (if r then Some 0 else (if s then Some 92 else (if t then Some 39 else (if u then Some 34 else None)))))) ≡ true → c ≤ 126
    by true p q e r f s g t h u i is = omega (arith, eqb-true c 110 p)
    by false p true e r f s g t h u i is = omega (arith, eqb-true c 116 e)
    by false p false e true f s g t h u i is = omega (arith, eqb-true c 48 f)
    by false p false e false f true g t h u i is = omega (arith, eqb-true c 92 g)
    by false p false e false f false g true h u i is = omega (arith, eqb-true c 39 h)
    by false p false e false f false g false h true i is = omega (arith, eqb-true c 34 i)
    by false p false e false f false g false h false i is = absurd (false≢true is)

parts_good : (parts : List Part) (behind : List ℕ) → AreGood parts → AreParts parts behind → All IsWord (bytes_of parts)
parts_good [] behind good are = All-nil IsWord
parts_good (Plain c ∷ parts) behind good are = All-cons IsWord c (bytes_of parts) (few c (plain_few 34 c are.0)) (parts_good parts behind good are.1)
parts_good (Escape c ∷ parts) behind good are =
    All-cons IsWord 92 (c ∷ bytes_of parts) (few 92 (omega arith)) (All-cons IsWord c (bytes_of parts) (few c (escape_few c are.0)) (parts_good parts behind good are.1))
parts_good (Bad c ∷ parts) behind good are = absurd good

text_good : (text : List ℕ) (parts : List Part) (rest : List ℕ) → text ≡ 34 ∷ (bytes_of parts ++ 34 ∷ rest) → AreGood parts → AreParts parts (34 ∷ rest)
    → All IsWord (take (length (bytes_of parts) + 2) text)
text_good text parts rest is good are = subst (λ bytes. All IsWord bytes) (sym front) whole
  where
    spelled : List ℕ
    spelled = 34 ∷ (bytes_of parts ++ 34 ∷ [])

    whole : All IsWord spelled
    whole = All-cons IsWord 34 (bytes_of parts ++ 34 ∷ []) (few 34 (omega arith))
        (All-append IsWord (bytes_of parts) (34 ∷ []) (parts_good parts (34 ∷ rest) good are) (All-cons IsWord 34 [] (few 34 (omega arith)) (All-nil IsWord)))

    again : text ≡ spelled ++ rest
    again = is ∙ ap (λ (bytes : List ℕ). 34 ∷ bytes) (sym (append_assoc (bytes_of parts) (34 ∷ []) rest))

    long : length (bytes_of parts) + 2 ≡ length spelled
    long = omega (arith, length-append (bytes_of parts) (34 ∷ []))

    front : take (length (bytes_of parts) + 2) text ≡ spelled
    front = ap (take (length (bytes_of parts) + 2)) again ∙ ap (λ n. take n (spelled ++ rest)) long ∙ take-append_seam spelled rest

-- ---- the other tokens are no texts

abbrev is_text : TokenKind → Bool
is_text kind.Text = true
is_text k = false

abbrev is_text_in : Option TokenKind → Bool
is_text_in None = false
is_text_in (Some k) = is_text k

no_text : (table : List (List ℕ × TokenKind)) (bytes : List ℕ) → list_all (λ (entry : List ℕ × TokenKind). not (is_text entry.1)) table ≡ true → is_text_in (lookup table bytes) ≡ false
no_text [] bytes all = refl
no_text (entry ∷ others) bytes all = by (bytes_eq entry.0 bytes) (is_text entry.1) refl all (no_text others bytes)
  where
    by : (found : Bool) (t : Bool) → is_text entry.1 ≡ t → (not t && list_all (λ (e : List ℕ × TokenKind). not (is_text e.1)) others) ≡ true
        → (list_all (λ (e : List ℕ × TokenKind). not (is_text e.1)) others ≡ true → is_text_in (lookup others bytes) ≡ false)
        → is_text_in (if found then Some entry.1 else lookup others bytes) ≡ false
    by found true is all rest = absurd (false≢true all)
    by true false is all rest = is
    by false false is all rest = rest all

word_no_text : (o : Option TokenKind) → is_text_in o ≡ false → is_text (or_word o) ≡ false
word_no_text None is = refl
word_no_text (Some k) is = is

spelled_no_text : (bytes : List ℕ) → is_text_in (kind_of bytes) ≡ false
unfolding kind_of
spelled_no_text [] = refl
spelled_no_text (c ∷ cs) = by (is_letter c) (list_all is_word_byte cs) (is_digit c) (is_numeral (c ∷ cs))
  where
    by : (l w d n : Bool)
        → is_text_in (if l then (if w then Some (or_word (lookup keywords (c ∷ cs))) else None)
        else (if d then (if n then Some (kind.Number (numeral_value (c ∷ cs)) (is_unsigned (c ∷ cs))) else None) else lookup signs (c ∷ cs))) ≡ false
    by true true d n = word_no_text (lookup keywords (c ∷ cs)) (no_text keywords (c ∷ cs) refl)
    by true false d n = refl
    by false w true true = refl
    by false w true false = refl
    by false w false n = no_text signs (c ∷ cs) refl

token_good : (text : List ℕ) (n : ℕ) (k : TokenKind) → is_text k ≡ false → IsGoodStep text (token_or_fault text n k)
unfolding token_or_fault
token_good text n (kind.Number value unsigned) other = by (nat_lt value (2 ^ 32)) refl (is_word_byte (slice_index text n))
  where
    by : (b : Bool) → nat_lt value (2 ^ 32) ≡ b → (goes_on : Bool)
        → IsGoodStep text (if b then (if goes_on then Fault n BadByte else Token n (kind.Number value unsigned)) else Fault 0 WideNumber)
    by true is true = tt
    by true is false = ltb-true value (2 ^ 32) is
    by false is goes_on = tt
token_good text n kind.Text other = absurd (false≢true (sym other))
token_good text n k other = tt

-- ---- what stands in a text

abbrev GoodBy : List ℕ → List ℕ → Beginning → Type 0
GoodBy before text b = (step : Step) → StepBy b before text step → IsGoodStep text step

gap_or_fault : (text : List ℕ) (blanks : Bool) → IsGoodStep text (directive_step blanks text)
unfolding directive_step
gap_or_fault text blanks = by (blanks && is_include (take (line_length text) text))
  where
    by : (b : Bool) → IsGoodStep text (if b then Gap (line_length text) else Fault 0 BadByte)
    by true = tt
    by false = tt

characters : (text : List ℕ) → IsGoodStep text (character_step text)
unfolding character_step
characters text = character_good text (slice_index text 1) (slice_index text 2) (slice_index text 3)

good_by : (before text : List ℕ) (b : Beginning) → GoodBy before text b
good_by before text begins.Blank step is = subst (IsGoodStep text) (sym is) tt
good_by before text begins.Comment step (inl is) = subst (IsGoodStep text) (sym is.2) tt
good_by before text begins.Comment step (inr is) = subst (IsGoodStep text) (sym is.1) tt
good_by before text begins.LineComment step is = subst (IsGoodStep text) (sym is) tt
good_by before text begins.Directive step is = subst (IsGoodStep text) (sym is) (gap_or_fault text (only_blanks before))
good_by before text begins.Character step is = subst (IsGoodStep text) (sym is) (characters text)
good_by before text begins.Text step (parts, rest, inl (is, are, inl (good, stands))) = subst (IsGoodStep text) (sym stands) (text_good text parts rest is good are)
good_by before text begins.Text step (parts, rest, inl (is, are, inr (good, bad, stands))) = subst (IsGoodStep text) (sym stands) tt
good_by before text begins.Text step (parts, rest, inr (is, are, ends, stands)) = subst (IsGoodStep text) (sym stands) tt
good_by before text begins.Other step (inl (n, k, longest, stands)) =
    subst (IsGoodStep text) (sym stands) (token_good text n k (sym (ap is_text_in longest.spells) ∙ spelled_no_text (take n text)))
good_by before text begins.Other step (inr (none, stands)) = subst (IsGoodStep text) (sym stands) tt

abbrev IsGoodToken : Spelled → Type 0
IsGoodToken t = IsGood t.kind t.bytes

good_pieces : (pieces : List Step) (before text : List ℕ) → Cuts pieces before text None → Each IsGoodToken (tokens_in pieces before text)
good_pieces [] before text cuts = tt
good_pieces (piece ∷ pieces) before text cuts =
    one piece (good_by before text (beginning text) piece cuts.1) _ (good_pieces pieces (before ++ take (size_of piece) text) (drop (size_of piece) text) cuts.3)
  where
    one : (step : Step) → IsGoodStep text step → (others : List Spelled) → Each IsGoodToken others → Each IsGoodToken (spelled_by step before text ++ others)
    one (Gap n) good others h = h
    one (Token n k) good others h = (good, h)
    one (Fault n k) good others h = h

pub tokens_good : (source : List ℕ) (tokens : List Spelled) → Tokens source tokens → Each IsGoodToken tokens
tokens_good source tokens is = subst (Each IsGoodToken) (sym is.2) (good_pieces is.0 [] source is.1)
