-- A text tells at most one trace.
use Rattle.std.proofs.Common.{◌≡◌, ℕ, ◌^◌, ◌<◌, ◌≤◌, List, [], ◌∷◌, ◌++◌, Option, Some, None, refl, sym, ap, ap₂, ◌∙◌, subst, arith, append_assoc}
use Rattle.std.specs.Prelude.{codes, decimal}
use Rattle.std.proofs.lemmas.List.{append_cancel_left}
use Rattle.std.proofs.lemmas.Fmt.{decimal_injective}
use Rattle.fk_trace.specs.declared.column.Column.{Column}
use Rattle.fk_trace.specs.Text.{Range, first_lines, last_line}
use Rattle.fk_replay_text.specs.Fields.{SpellsRange, field_text}
use Rattle.fk_replay_text.specs.Texts.{Lacks}
use Rattle.fk_replay_text.specs.Trace.{AreInOrder, IsLine, IsRange, Rise, Told, all_told_text, told_text}
use Rattle.fk_replay_text.proofs.Cutting.{cut_once, lacks_append, lacks_by, word_once}
use Rattle.fk_replay_text.proofs.Decimals.{decimal_lacks}
use Rattle.fk_replay_text.proofs.Fields.{field_lacks, field_once, shown, spells_own}
use Rattle.fk_replay_text.proofs.Ranges.{ranges_stop, text_of}
use Rattle.fk_replay_text.proofs.Told.{body_of, end_is, end_lacks, end_of, last_once, not_last, told_is, told_lacks, told_once}
use Rattle.fk_trace_laws.specs.Traced.{TextsTellOneTrace}

-- ---- the ranges of a line

first_of : (column : Column) (harts : ℕ) (r : Range) (rs : List Range) → IsRange column harts r → text_of column (r ∷ rs) ≡ 32 ∷ (field_text column r ++ text_of column rs)
first_of column harts r rs is = ap (λ l. l ++ text_of column rs) (shown column r is.number)

ranges_once : (column : Column) (harts : ℕ) (before other : Option Range) (rs ss : List Range) → harts < 2 ^ 32 → Rise column harts before rs → Rise column harts other ss → text_of column rs ≡ text_of column ss → rs ≡ ss
ranges_once column harts before other [] [] few a b e = refl
ranges_once column harts before other [] (s ∷ ss) few a b e = let bad : [] ≡ 32 ∷ (field_text column s ++ text_of column ss) = e ∙ first_of column harts s ss b.0 in cc
ranges_once column harts before other (r ∷ rs) [] few a b e = let bad : 32 ∷ (field_text column r ++ text_of column rs) ≡ [] = sym (first_of column harts r rs a.0) ∙ e in cc
ranges_once column harts before other (r ∷ rs) (s ∷ ss) few a b e =
    let both : 32 ∷ (field_text column r ++ text_of column rs) ≡ 32 ∷ (field_text column s ++ text_of column ss) = sym (first_of column harts r rs a.0) ∙ e ∙ first_of column harts s ss b.0 in
    let behind : field_text column r ++ text_of column rs ≡ field_text column s ++ text_of column ss = cc in
    let own = spells_own column harts r few a.0 in
    let its = spells_own column harts s few b.0 in
    let low : 32 < 42 = omega arith in
    let parts = word_once 32 (field_text column r) (text_of column rs) (field_text column s) (text_of column ss) (field_lacks 32 column r low own) (field_lacks 32 column s low its)
    (ranges_stop column harts (Some r) rs a.2) (ranges_stop column harts (Some s) ss b.2) behind in
    let same = field_once column r s (field_text column r) own (subst (SpellsRange column s) (sym parts.0) its) in
    ap₂ (λ q qs. q ∷ qs) same (ranges_once column harts (Some r) (Some s) rs ss few a.2 b.2 parts.1)

-- ---- lines

same_line : (harts : ℕ) (s t : Told) → harts < 2 ^ 32 → IsLine harts s → IsLine harts t → body_of s ≡ body_of t → s ≡ t
same_line harts s t few a b e =
    let is = told_once harts s t a b (told_is s ∙ ap (λ l. l ++ (10 ∷ [])) e ∙ sym (told_is t)) in
    let text : text_of t.column s.ranges ≡ text_of t.column t.ranges = ap (λ c. text_of c s.ranges) (sym is.column) ∙ is.rest in
    let ranges = ranges_once t.column harts None None s.ranges t.ranges few (subst (λ c. Rise c harts None s.ranges) is.column a.ranges.1) b.ranges.1 text in
    let told : Column → ℕ → List Range → Told = λ c n rs. record { column = c; cycle = n; ranges = rs } in
    ap (λ c. told c s.cycle s.ranges) is.column ∙ ap (λ n. told t.column n s.ranges) is.cycle ∙ ap (λ rs. told t.column t.cycle rs) ranges

-- the body of a line, its newline, and what is behind it
line_first : (t : Told) (lines : List Told) (rest : List ℕ) → all_told_text (t ∷ lines) ++ rest ≡ body_of t ++ (10 ∷ (all_told_text lines ++ rest))
line_first t lines rest =
    append_assoc (told_text t) (all_told_text lines) rest
    ∙ ap (λ l. l ++ (all_told_text lines ++ rest)) (told_is t)
    ∙ append_assoc (body_of t) (10 ∷ []) (all_told_text lines ++ rest)

-- the last line is no other
not_end : (harts : ℕ) (t : Told) (lines : List Told) (rest : List ℕ) (last : ℕ) → harts < 2 ^ 32 → last < 2 ^ 32 → IsLine harts t → last_line last ≡ all_told_text (t ∷ lines) ++ rest → ⊥
not_end harts t lines rest last few small is e =
    let both : end_of last ++ (10 ∷ []) ≡ body_of t ++ (10 ∷ (all_told_text lines ++ rest)) = sym (end_is last) ∙ e ∙ line_first t lines rest in
    let parts = cut_once 10 (end_of last) [] (body_of t) (all_told_text lines ++ rest) (end_lacks last small) (told_lacks harts t few is) both in
    not_last t last (told_is t ∙ ap (λ l. l ++ (10 ∷ [])) (sym parts.0) ∙ sym (end_is last))

same_lines : (harts last other cycle before at behind : ℕ) (ss ts : List Told) → harts < 2 ^ 32 → last < 2 ^ 32 → other < 2 ^ 32 → AreInOrder harts last cycle before ss → AreInOrder harts other at behind ts
    → all_told_text ss ++ last_line last ≡ all_told_text ts ++ last_line other → (ss ≡ ts) × (last ≡ other)
same_lines harts last other cycle before at behind [] [] few small low a b e = (refl, last_once last other small low e)
same_lines harts last other cycle before at behind [] (t ∷ ts) few small low a b e = absurd (not_end harts t ts (last_line other) last few small b.0 e)
same_lines harts last other cycle before at behind (s ∷ ss) [] few small low a b e = absurd (not_end harts s ss (last_line last) other few low a.0 (sym e))
same_lines harts last other cycle before at behind (s ∷ ss) (t ∷ ts) few small low a b e =
    let both = sym (line_first s ss (last_line last)) ∙ e ∙ line_first t ts (last_line other) in
    let parts = cut_once 10 (body_of s) (all_told_text ss ++ last_line last) (body_of t) (all_told_text ts ++ last_line other) (told_lacks harts s few a.0) (told_lacks harts t few b.0) both in
    let rest = same_lines harts last other _ _ _ _ ss ts few small low a.2 b.2 parts.1 in
    (ap₂ (λ q qs. q ∷ qs) (same_line harts s t few a.0 b.0 parts.0) rest.0, rest.1)

-- ---- the first two lines

abbrev title : List ℕ
title = codes "fork95 trace 1"

abbrev harts_of : ℕ → List ℕ
harts_of harts = codes "harts " ++ decimal harts

harts_lack : (harts : ℕ) → harts ≤ 1024 → Lacks 10 (harts_of harts)
harts_lack harts few = lacks_append 10 (codes "harts ") (decimal harts) (lacks_by 10 (codes "harts ") refl) (decimal_lacks 10 harts (omega arith) (omega arith))

first_two : (harts : ℕ) (text : List ℕ) → first_lines harts ++ text ≡ title ++ (10 ∷ (harts_of harts ++ (10 ∷ text)))
first_two harts text = simp append_assoc

pub texts_tell_one_trace : TextsTellOneTrace
texts_tell_one_trace text harts other last more ss ts a b =
    let both = sym (first_two harts a.behind) ∙ sym a.spells ∙ b.spells ∙ first_two other b.behind in
    let titles = cut_once 10 title (harts_of harts ++ (10 ∷ a.behind)) title (harts_of other ++ (10 ∷ b.behind)) (lacks_by 10 title refl) (lacks_by 10 title refl) both in
    let parts = cut_once 10 (harts_of harts) a.behind (harts_of other) b.behind (harts_lack harts a.few) (harts_lack other b.few) titles.1 in
    let few = a.few in
    let low = b.few in
    let same = decimal_injective harts other (omega (arith, few)) (omega (arith, low)) (append_cancel_left (codes "harts ") (decimal harts) (decimal other) parts.0) in
    let order = subst (λ h. AreInOrder h more 0 0 ts) (sym same) b.body.order in
    let bodies = same_lines harts last more 0 0 0 0 ss ts (omega (arith, few)) a.body.word b.body.word a.body.order order (sym a.body.spells ∙ parts.1 ∙ b.body.spells) in
    record { same_harts = same; same_cycles = bodies.1; same_lines = bodies.0 }
