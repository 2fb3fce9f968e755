-- The beginnings of lines.
use Rattle.std.proofs.Common.{◌≡◌, ℕ, ◌+◌, ◌*◌, ◌^◌, ◌<◌, List, ◌∷◌, ◌++◌, length, get_or, refl, sym, ap, ◌∙◌, arith, append_assoc}
use Rattle.std.specs.Prelude.{codes, decimal, ◌==◌, if◌then◌else◌}
use Rattle.std.proofs.lemmas.Fmt.{decimal_injective}
use Rattle.fk_image.specs.declared.event.Event.{Event}
use Rattle.fk_image.specs.declared.event.Event.TheVariants.{Split, Shrink, End, Resume, Meet, Agree}
use Rattle.fk_trace.specs.declared.column.Column.{Column}
use Rattle.fk_trace.specs.declared.column.Column.TheVariants.{Counts, Of}
use Rattle.fk_trace.specs.Text.{head_text, name_of}
use Rattle.fk_replay_text.specs.Texts.{Lacks, Stops, IsWord}
use Rattle.fk_replay_text.proofs.Cutting.{lacks_append, lacks_by, word_once}
use Rattle.fk_replay_text.proofs.Decimals.{decimal_lacks}

-- ---- names of events

pub name_lacks_blank : (event : Event) → Lacks 32 (name_of event)
name_lacks_blank Split = lacks_by 32 (name_of Split) refl
name_lacks_blank Shrink = lacks_by 32 (name_of Shrink) refl
name_lacks_blank End = lacks_by 32 (name_of End) refl
name_lacks_blank Resume = lacks_by 32 (name_of Resume) refl
name_lacks_blank Meet = lacks_by 32 (name_of Meet) refl
name_lacks_blank Agree = lacks_by 32 (name_of Agree) refl

pub name_lacks_newline : (event : Event) → Lacks 10 (name_of event)
name_lacks_newline Split = lacks_by 10 (name_of Split) refl
name_lacks_newline Shrink = lacks_by 10 (name_of Shrink) refl
name_lacks_newline End = lacks_by 10 (name_of End) refl
name_lacks_newline Resume = lacks_by 10 (name_of Resume) refl
name_lacks_newline Meet = lacks_by 10 (name_of Meet) refl
name_lacks_newline Agree = lacks_by 10 (name_of Agree) refl

-- the event of a name, by its length and first letter
abbrev event_named : List ℕ → Event
event_named name =
    let sign = length name * 1000 + get_or name 0 0 in
    if sign == 5115 then Split else if sign == 6115 then Shrink else if sign == 3101 then End
    else if sign == 6114 then Resume else if sign == 4109 then Meet else Agree

named : (event : Event) → event_named (name_of event) ≡ event
named Split = refl
named Shrink = refl
named End = refl
named Resume = refl
named Meet = refl
named Agree = refl

pub name_once : (a b : Event) → name_of a ≡ name_of b → a ≡ b
name_once a b e = sym (named a) ∙ ap event_named e ∙ named b

-- ---- heads

pub marks_head : (event : Event) (cycle : ℕ) (rest : List ℕ) → head_text (Of event) cycle ++ rest ≡ 103 ∷ 32 ∷ (decimal cycle ++ (32 ∷ (name_of event ++ rest)))
marks_head event cycle rest = simp append_assoc

lacks_blank : (n : ℕ) → n < 2 ^ 32 → Lacks 32 (decimal n)
lacks_blank n h = decimal_lacks 32 n (omega arith) h

lacks_newline : (n : ℕ) → n < 2 ^ 32 → Lacks 10 (decimal n)
lacks_newline n h = decimal_lacks 10 n (omega arith) h

-- the first word of a text that begins with a number
pub cycle_word : (text word behind rest : List ℕ) (cycle : ℕ) → IsWord text word behind → cycle < 2 ^ 32 → Stops 32 rest → text ≡ decimal cycle ++ rest
    → (word ≡ decimal cycle) × (behind ≡ rest)
cycle_word text word behind rest cycle w small stops e =
    word_once 32 word behind (decimal cycle) rest w.lacks (lacks_blank cycle small) w.ends stops (sym w.parts ∙ e)

-- and of one that begins with a name
pub name_word : (text word behind rest : List ℕ) (event : Event) → IsWord text word behind → Stops 32 rest → text ≡ name_of event ++ rest
    → (word ≡ name_of event) × (behind ≡ rest)
name_word text word behind rest event w stops e =
    word_once 32 word behind (name_of event) rest w.lacks (name_lacks_blank event) w.ends stops (sym w.parts ∙ e)

-- ---- a text has one head

pub record AreSame (c d : Column) (t u : ℕ) (r s : List ℕ) : Type 0 where
  pub column : c ≡ d
  pub cycle : t ≡ u
  pub rest : r ≡ s

same_cycle : (t u : ℕ) (r s : List ℕ) → t < 2 ^ 32 → u < 2 ^ 32 → Stops 32 r → Stops 32 s → decimal t ++ r ≡ decimal u ++ s → (t ≡ u) × (r ≡ s)
same_cycle t u r s h k m n e =
    let once = word_once 32 (decimal t) r (decimal u) s (lacks_blank t h) (lacks_blank u k) m n e in
    (decimal_injective t u (omega arith) (omega arith) once.0, once.1)

pub not_same : (m n : ℕ) → m < n → m ≡ n → ⊥
not_same m n lt e = omega arith

pub head_once : (c d : Column) (t u : ℕ) (r s : List ℕ) → t < 2 ^ 32 → u < 2 ^ 32 → Stops 32 r → Stops 32 s → head_text c t ++ r ≡ head_text d u ++ s → AreSame c d t u r s
head_once Counts Counts t u r s h k m n e =
    let tail : decimal t ++ r ≡ decimal u ++ s = cc in
    let same = same_cycle t u r s h k m n tail in
    record { column = refl; cycle = same.0; rest = same.1 }
head_once Counts (Of f) t u r s h k m n e =
    let bad : 99 ∷ 32 ∷ (decimal t ++ r) ≡ 103 ∷ 32 ∷ (decimal u ++ (32 ∷ (name_of f ++ s))) = e ∙ marks_head f u s in
    absurd (not_same 99 103 (omega arith) (ap (λ (l : List ℕ). get_or l 0 0) bad))
head_once (Of a) Counts t u r s h k m n e =
    let bad : 103 ∷ 32 ∷ (decimal t ++ (32 ∷ (name_of a ++ r))) ≡ 99 ∷ 32 ∷ (decimal u ++ s) = sym (marks_head a t r) ∙ e in
    absurd (not_same 99 103 (omega arith) (ap (λ (l : List ℕ). get_or l 0 0) (sym bad)))
head_once (Of a) (Of b) t u r s h k m n e =
    let whole : 103 ∷ 32 ∷ (decimal t ++ (32 ∷ (name_of a ++ r))) ≡ 103 ∷ 32 ∷ (decimal u ++ (32 ∷ (name_of b ++ s))) = sym (marks_head a t r) ∙ e ∙ marks_head b u s in
    let tail : decimal t ++ (32 ∷ (name_of a ++ r)) ≡ decimal u ++ (32 ∷ (name_of b ++ s)) = cc in
    let same = same_cycle t u (32 ∷ (name_of a ++ r)) (32 ∷ (name_of b ++ s)) h k refl refl tail in
    let names : name_of a ++ r ≡ name_of b ++ s = tail_is _ _ same.1 in
    let once = word_once 32 (name_of a) r (name_of b) s (name_lacks_blank a) (name_lacks_blank b) m n names in
    record { column = ap Of (name_once a b once.0); cycle = same.0; rest = once.1 }
  where
    tail_is : (xs ys : List ℕ) → 32 ∷ xs ≡ 32 ∷ ys → xs ≡ ys
    tail_is xs ys e = cc

-- heads have no newline
pub head_lacks : (column : Column) (cycle : ℕ) → cycle < 2 ^ 32 → Lacks 10 (head_text column cycle)
head_lacks Counts cycle h = lacks_append 10 (codes "c ") (decimal cycle) (lacks_by 10 (codes "c ") refl) (lacks_newline cycle h)
head_lacks (Of event) cycle h =
    lacks_append 10 (codes "g " ++ decimal cycle ++ codes " ") (name_of event)
    (lacks_append 10 (codes "g " ++ decimal cycle) (codes " ") (lacks_append 10 (codes "g ") (decimal cycle) (lacks_by 10 (codes "g ") refl) (lacks_newline cycle h)) (lacks_by 10 (codes " ") refl))
    (name_lacks_newline event)

-- what is behind the cycle of the line of an event
pub marks_rest : (text word behind inner rest : List ℕ) (cycle : ℕ) (event : Event) → IsWord text word behind → behind ≡ 32 ∷ inner → cycle < 2 ^ 32
    → text ≡ decimal cycle ++ (32 ∷ (name_of event ++ rest)) → inner ≡ name_of event ++ rest
marks_rest text word behind inner rest cycle event w is small e =
    let parts = cycle_word text word behind (32 ∷ (name_of event ++ rest)) cycle w small refl e in
    tail_is inner (name_of event ++ rest) (sym is ∙ parts.1)
  where
    tail_is : (xs ys : List ℕ) → 32 ∷ xs ≡ 32 ∷ ys → xs ≡ ys
    tail_is xs ys e = cc
