-- Comments, include lines and texts are made of what they should be.
use Rattle.std.proofs.Common.{◌≡◌, ℕ, ◌+◌, ◌||◌, ◌⊎◌, inl, inr, ⊎_elim, Bool, true, false, List, [], ◌∷◌, ◌++◌, length, take, drop, refl, sym, ap, subst, ◌∙◌, arith, take-append-drop, codes}
use Rattle.std.specs.List.{prefix_len, list_all}
use Rattle.std.specs.Str.{bytes_eq}
use Rattle.std.proofs.lemmas.Bool.{or_cases}
use Rattle.std.proofs.lemmas.Slice.Eq.{bytes_eq-Decides}
use Rattle.fk_lex.specs.declared.step.Step.TheVariants.{Token}
use Rattle.fk_lex.specs.declared.token.TokenKind.TheVariants.{Text}
use Rattle.fk_lex.specs.Bytes.{is_blank}
use Rattle.fk_lex.specs.Spellings.{AreBlank, IsInclude, IsTextBody, Spellings}
use Rattle.fk_lex.specs.Steps.{is_named, is_header, is_include, NextStep}
use Rattle.fk_lex.specs.Texts.{bytes_of}
use Rattle.fk_lex.proofs.Comments.{commented, comments, unclosed, opened, line_commented, line_comments}
use Rattle.fk_lex.proofs.Fronts.{all_longest, length_more, length_none}
use Rattle.fk_lex.proofs.Tests.{both_true}

-- include lines

front_is : (name text : List ℕ) (k : ℕ) → bytes_eq name (take k text) ≡ true → text ≡ name ++ drop k text
front_is name text k same =
    let front = (bytes_eq-Decides name (take k text)).0 same in
    sym (take-append-drop k text) ∙ ap (λ f. f ++ drop k text) (sym front)

included_header : (text : List ℕ) → is_header text ≡ true → (name more : List ℕ) × ((name ≡ codes "<fork.h>") ⊎ (name ≡ codes "<io.h>")) × AreBlank more × (text ≡ name ++ more)
included_header text is =
    ⊎_elim (λ named. let both = both_true _ (list_all is_blank (drop 8 text)) named in (codes "<fork.h>", drop 8 text, inl refl, both.1, front_is (codes "<fork.h>") text 8 both.0))
    (λ named. let both = both_true _ (list_all is_blank (drop 6 text)) named in (codes "<io.h>", drop 6 text, inr refl, both.1, front_is (codes "<io.h>") text 6 both.0))
    (or_cases (is_named (codes "<fork.h>") text) (is_named (codes "<io.h>") text) is)

included : (line : List ℕ) → is_include line ≡ true → IsInclude line
included line is =
    let rest = drop 8 line in
    let n = prefix_len is_blank rest in
    let both = both_true (bytes_eq (codes "#include") (take 8 line)) (is_header (drop n rest)) is in
    let header = included_header (drop n rest) both.1 in
    let whole : rest ≡ take n rest ++ (header.0 ++ header.1) = sym (take-append-drop n rest) ∙ ap (λ t. take n rest ++ t) header.4 in (
      take n rest,
      header.0,
      header.1,
      (all_longest is_blank rest).passes,
      header.2,
      header.3,
      front_is (codes "#include") line 8 both.0 ∙ ap (λ t. codes "#include" ++ t) whole,
    )

begins_blank : List ℕ → Bool
begins_blank [] = false
begins_blank (c ∷ cs) = is_blank c

no_front : (c : ℕ) (cs : List ℕ) → is_blank c ≡ false → drop (prefix_len is_blank (c ∷ cs)) (c ∷ cs) ≡ c ∷ cs
no_front c cs other = ap (λ n. drop n (c ∷ cs)) (length_none is_blank c cs other)

behind_blanks : (gap : List ℕ) (c : ℕ) (cs : List ℕ) → AreBlank gap → is_blank c ≡ false → drop (prefix_len is_blank (gap ++ c ∷ cs)) (gap ++ c ∷ cs) ≡ c ∷ cs
behind_blanks [] c cs blank other = no_front c cs other
behind_blanks (d ∷ gap) c cs blank other =
    let both = both_true (is_blank d) (list_all is_blank gap) blank in
    ap (λ n. drop n (d ∷ (gap ++ c ∷ cs))) (length_more is_blank d (gap ++ c ∷ cs) both.0) ∙ behind_blanks gap c cs both.1 other

name_header : (name more : List ℕ) → (name ≡ codes "<fork.h>") ⊎ (name ≡ codes "<io.h>") → AreBlank more → (gap : List ℕ) → AreBlank gap → is_header (drop (prefix_len is_blank (gap ++ (name ++ more))) (gap ++ (name ++ more))) ≡ true
name_header name more (inl is) blank gap before =
    subst (λ name. is_header (drop (prefix_len is_blank (gap ++ (name ++ more))) (gap ++ (name ++ more))) ≡ true) (sym is)
    (ap is_header (behind_blanks gap 60 (drop 1 (codes "<fork.h>") ++ more) before refl) ∙ ap (λ b. b || is_named (codes "<io.h>") (codes "<fork.h>" ++ more)) blank)
name_header name more (inr is) blank gap before =
    subst (λ name. is_header (drop (prefix_len is_blank (gap ++ (name ++ more))) (gap ++ (name ++ more))) ≡ true) (sym is)
    (ap is_header (behind_blanks gap 60 (drop 1 (codes "<io.h>") ++ more) before refl) ∙ short_name more blank)
  where
    short_name : (more : List ℕ) → AreBlank more → is_header (codes "<io.h>" ++ more) ≡ true
    short_name more blank = blank

includes : (line : List ℕ) → IsInclude line → is_include line ≡ true
includes line is =
    subst (λ line. is_include line ≡ true) (sym is.6) (name_header is.1 is.2 is.4 is.5 is.0 is.3)

-- texts

pub ended : (before body : List ℕ) (n : ℕ) → NextStep before (34 ∷ body) (Token (n + 1) Text) → IsTextBody body n
ended before body n (parts, rest, inl (is, are, inl (good, step))) =
    let size : n + 1 ≡ length (bytes_of parts) + 2 = cc in
    (parts, rest, good, are, cc, omega arith)
ended before body n (parts, rest, inl (is, are, inr bad)) = let step = bad.2 in absurd cc
ended before body n (parts, rest, inr a) = let step = a.3 in absurd cc

ends : (before body : List ℕ) (n : ℕ) → IsTextBody body n → NextStep before (34 ∷ body) (Token (n + 1) Text)
ends before body n (parts, rest, good, are, is, counted) =
    let size : n + 1 ≡ length (bytes_of parts) + 2 = omega arith in
    (parts, rest, inl (ap (λ l. 34 ∷ l) is, are, inl (good, ap (λ k. Token k Text) size)))

pub spellings : Spellings
spellings = record {
  commented = commented;
  comments = comments;
  unclosed = unclosed;
  opened = opened;
  line_commented = line_commented;
  line_comments = line_comments;
  included = included;
  includes = includes;
  ended = ended;
  ends = ends;
}
