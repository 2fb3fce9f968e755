-- A lock of tickets: its two words, and what processors do with them one after the other.
use Rattle.std.specs.Prelude.{◌≡◌, ◌≢◌, ℕ, suc, ◌+◌, ◌<◌, ◌%◌, ◌^◌, ◌==◌, List, Some, fold}
use Rattle.std.specs.Prelude.{slice_get, take, if◌then◌else◌}

-- What one request does with the words. A draw adds 1 to `next`, and its former value is the
-- ticket. A look reads `now`. A give adds 1 to `now`.
pub data Act : Type 0 where
  Draw : Act
  Look : Act
  Give : Act

-- an act, and the processor whose act it is
pub record Event : Type 0 where
  pub processor : ℕ
  pub act : Act

abbrev pub event : (h : ℕ) → Act → Event
event h act = record { processor = h; act = act }

-- a processor has no ticket, waits with one, or is inside
pub data Stage : Type 0 where
  Outside : Stage
  Waiting : (ticket : ℕ) → Stage
  Inside : Stage

-- the words of a lock, and the stage of each processor
pub record Lock : Type 0 where
  pub next : ℕ
  pub now : ℕ
  pub stage : (h : ℕ) → Stage

abbrev pub one_more : (word : ℕ) → ℕ
one_more word = (word + 1) % 2 ^ 32

abbrev pub with_stage : (ℕ → Stage) → (h : ℕ) → Stage → ℕ → Stage
with_stage stages h stage = λ g. if g == h then stage else stages g

-- a processor that waits enters when it reads its ticket
abbrev pub looked : (now : ℕ) → Stage → Stage
looked now (Waiting ticket) = if now == ticket then Inside else Waiting ticket
looked now stage = stage

abbrev pub after_act : (h : ℕ) → Act → Lock → Lock
after_act h Draw l = record {
  next = one_more l.next;
  now = l.now;
  stage = with_stage l.stage h (Waiting l.next);
}
after_act h Look l = record l { stage = with_stage l.stage h (looked l.now (l.stage h)) }
after_act h Give l = record {
  next = l.next;
  now = one_more l.now;
  stage = with_stage l.stage h Outside;
}

abbrev pub after : Lock → Event → Lock
after l e = after_act e.processor e.act l

-- the lock at the beginning, and after the first k events of a history
abbrev pub opening : Lock
opening = record { next = 0; now = 0; stage = λ h. Outside }

abbrev pub at : (history : List Event) → (k : ℕ) → Lock
at history k = fold after opening (take k history)

-- a processor without a ticket may draw one, a processor that waits may look, and a processor that
-- is inside may give the lock back
abbrev pub MayDo : Act → Stage → Type 0
MayDo Draw Outside = Unit {0}
MayDo Look (Waiting ticket) = Unit {0}
MayDo Give Inside = Unit {0}
MayDo act stage = ⊥

-- each event is by one of so many processors, and it may do it in the stage in which it is
abbrev pub IsFair : (processors : ℕ) → (history : List Event) → Type 0
IsFair processors history =
    (k : ℕ) (e : Event) → slice_get history k ≡ Some e
    → (e.processor < processors) × MayDo e.act ((at history k).stage e.processor)

-- after the first k events processor h is inside
abbrev pub IsInside : (history : List Event) → (k h : ℕ) → Type 0
IsInside history k h = (at history k).stage h ≡ Inside

-- at each moment at most one processor is inside
abbrev pub Excludes : Type 0
Excludes =
    (processors : ℕ) (history : List Event) → processors < 2 ^ 32 → IsFair processors history
    → (k g h : ℕ) → IsInside history k g → IsInside history k h → g ≡ h

-- processor h draws a ticket by event i, and enters with it by event k
pub record Enters (history : List Event) (h i k : ℕ) : Type 0 where
  pub draws : slice_get history i ≡ Some (event h Draw)
  pub looks : slice_get history k ≡ Some (event h Look)
  pub later : i < k
  pub alone : (j : ℕ) → i < j → j < k → slice_get history j ≢ Some (event h Draw)
  pub inside : IsInside history (suc k) h

-- of two draws the one that was served first enters first, where both enter
abbrev pub FirstDrawnEntersFirst : Type 0
FirstDrawnEntersFirst =
    (processors : ℕ) (history : List Event) → processors < 2 ^ 32 → IsFair processors history
    → (g h i j k m : ℕ) → Enters history g i k → Enters history h j m → i < j → k < m
