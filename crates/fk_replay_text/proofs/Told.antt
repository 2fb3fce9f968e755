-- The lines of a trace.
use Rattle.std.proofs.Common.{◌≡◌, ◌≢◌, ℕ, ◌+◌, ◌^◌, ◌<◌, List, [], ◌∷◌, ◌++◌, Option, Some, None, get_or, refl, sym, ap, ◌∙◌, subst, arith, append_assoc}
use Rattle.std.specs.Prelude.{codes, decimal}
use Rattle.std.proofs.lemmas.List.{append_cancel_right}
use Rattle.std.proofs.lemmas.Fmt.{decimal_injective}
use Rattle.fk_trace.specs.declared.column.Column.{Column}
use Rattle.fk_trace.specs.declared.column.Column.TheVariants.{Counts, Of}
use Rattle.fk_trace.specs.Text.{Range, head_text, last_line}
use Rattle.fk_replay_text.specs.Texts.{Lacks, Stops}
use Rattle.fk_replay_text.specs.Trace.{IsLine, Rise, Told, told_text}
use Rattle.fk_replay_text.proofs.Cutting.{lacks_append, lacks_by}
use Rattle.fk_replay_text.proofs.Decimals.{decimal_lacks}
use Rattle.fk_replay_text.proofs.Fields.{field_lacks, shown, spells_own}
use Rattle.fk_replay_text.proofs.Heads.{AreSame, head_lacks, head_once, marks_head, not_same}
use Rattle.fk_replay_text.proofs.Ranges.{ranges_stop, text_of}

-- ---- a line and its newline

abbrev pub body_of : Told → List ℕ
body_of t = head_text t.column t.cycle ++ text_of t.column t.ranges

pub told_is : (t : Told) → told_text t ≡ body_of t ++ (10 ∷ [])
told_is t = sym (append_assoc (head_text t.column t.cycle) (text_of t.column t.ranges) (10 ∷ []))

abbrev pub end_of : ℕ → List ℕ
end_of cycles = codes "end " ++ decimal cycles

pub end_is : (cycles : ℕ) → last_line cycles ≡ end_of cycles ++ (10 ∷ [])
end_is cycles = sym (append_assoc (codes "end ") (decimal cycles) (10 ∷ []))

ranges_lack : (column : Column) (harts : ℕ) (before : Option Range) (rs : List Range) → harts < 2 ^ 32 → Rise column harts before rs → Lacks 10 (text_of column rs)
ranges_lack column harts before [] few h = tt
ranges_lack column harts before (r ∷ rs) few h =
    let low : 10 < 42 = omega arith in
    let blank : 32 ≢ 10 = omega arith in
    let field = field_lacks 10 column r low (spells_own column harts r few h.0) in
    let rest = ranges_lack column harts (Some r) rs few h.2 in
    subst (Lacks 10) (sym (ap (λ l. l ++ text_of column rs) (shown column r h.0.number))) (blank, lacks_append 10 _ _ field rest)

pub told_lacks : (harts : ℕ) (t : Told) → harts < 2 ^ 32 → IsLine harts t → Lacks 10 (body_of t)
told_lacks harts t few line =
    lacks_append 10 (head_text t.column t.cycle) (text_of t.column t.ranges) (head_lacks t.column t.cycle line.word)
    (ranges_lack t.column harts None t.ranges few line.ranges.1)

pub end_lacks : (cycles : ℕ) → cycles < 2 ^ 32 → Lacks 10 (end_of cycles)
end_lacks cycles h = lacks_append 10 (codes "end ") (decimal cycles) (lacks_by 10 (codes "end ") refl) (decimal_lacks 10 cycles (omega arith) h)

-- ---- what a line tells

pub line_is : (line : List ℕ) (t : Told) → line ++ (10 ∷ []) ≡ told_text t → line ≡ body_of t
line_is line t e = append_cancel_right line (body_of t) (10 ∷ []) (e ∙ told_is t)

pub line_end : (line : List ℕ) (cycles : ℕ) → line ++ (10 ∷ []) ≡ last_line cycles → line ≡ end_of cycles
line_end line cycles e = append_cancel_right line (end_of cycles) (10 ∷ []) (e ∙ end_is cycles)

pub stops_told : (harts : ℕ) (t : Told) → IsLine harts t → Stops 32 (text_of t.column t.ranges)
stops_told harts t line = ranges_stop t.column harts None t.ranges line.ranges.1

-- the head of a line is that of all lines with its text
pub line_head : (harts : ℕ) (t : Told) (line : List ℕ) (column : Column) (cycle : ℕ) (rest : List ℕ) → cycle < 2 ^ 32 → Stops 32 rest → IsLine harts t
    → line ≡ head_text column cycle ++ rest → line ++ (10 ∷ []) ≡ told_text t → AreSame column t.column cycle t.cycle rest (text_of t.column t.ranges)
line_head harts t line column cycle rest small stops is head e =
    head_once column t.column cycle t.cycle rest (text_of t.column t.ranges) small is.word stops (stops_told harts t is) (sym head ∙ line_is line t e)

-- lines with one text are of one cycle and one column
pub told_once : (harts : ℕ) (s t : Told) → IsLine harts s → IsLine harts t → told_text s ≡ told_text t → AreSame s.column t.column s.cycle t.cycle (text_of s.column s.ranges) (text_of t.column t.ranges)
told_once harts s t a b e =
    line_head harts t (body_of s) s.column s.cycle (text_of s.column s.ranges) a.word (stops_told harts s a) b refl (sym (told_is s) ∙ e)

-- the last line is no line of a cycle
first_byte : (column : Column) (cycle : ℕ) (rest : List ℕ) → get_or (head_text column cycle ++ rest) 0 0 ≢ 101
first_byte Counts cycle rest e = not_same 99 101 (omega arith) e
first_byte (Of event) cycle rest e =
    not_same 101 103 (omega arith) (sym (sym (ap (λ (l : List ℕ). get_or l 0 0) (marks_head event cycle rest)) ∙ e))

pub not_last : (t : Told) (cycles : ℕ) → told_text t ≢ last_line cycles
not_last t cycles e =
    first_byte t.column t.cycle (text_of t.column t.ranges ++ (10 ∷ [])) (ap (λ (l : List ℕ). get_or l 0 0) e)

pub last_once : (m n : ℕ) → m < 2 ^ 32 → n < 2 ^ 32 → last_line m ≡ last_line n → m ≡ n
last_once m n h k e =
    let same : end_of m ≡ end_of n = line_end (end_of m) n (sym (end_is m) ∙ e) in
    let digits : decimal m ≡ decimal n = cc in
    decimal_injective m n (omega arith) (omega arith) digits
