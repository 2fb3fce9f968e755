-- A lock of tickets in a run: its words are word x of shared data and the word after it.
use Rattle.std.specs.Prelude.{◌≡◌, ℕ, suc, ◌<◌, ◌^◌, List, [], ◌∷◌, ◌++◌, Option, Some, None, fold}
use Rattle.std.specs.Prelude.{take}
use Rattle.fk_meaning_store.specs.declared.request.Request.{Request}
use Rattle.fk_meaning_store.specs.declared.request.Request.TheVariants.{Read, Multi}
use Rattle.fk_meaning.specs.Processor.{Setting}
use Rattle.fk_meaning.specs.Round.{Step, State, Round, Acting, asking, result}
use Rattle.fk_meaning.specs.Schedule.{Schedule}
use Rattle.fk_meaning.specs.Touch.{touch, answer, Touches, last_of}
use Rattle.fk_tickets.specs.Lock.{Act, Draw, Look, Give, Event, Lock, IsFair, IsInside, Enters}
use Rattle.fk_tickets.specs.Lock.{after, event, opening}

-- The first word is only accessed by a draw, which is an `mpadd` of 1. Kind 15 is that of `mpadd`.
abbrev pub IsOfNext : Option Request → Type 0
IsOfNext None = Unit {0}
IsOfNext (Some (Multi kind a v)) = (kind ≡ 15) × (v ≡ 1)
IsOfNext (Some q) = ⊥

-- The second word is only accessed by a look, which is a read, and a give, an `mpadd` of 1.
abbrev pub IsOfNow : Option Request → Type 0
IsOfNow None = Unit {0}
IsOfNow (Some (Read a)) = Unit {0}
IsOfNow (Some (Multi kind a v)) = (kind ≡ 15) × (v ≡ 1)
IsOfNow (Some q) = ⊥

-- the act of the requests, if any, by which a processor accesses the two words
abbrev pub act_on_now : Option Request → Option Act
act_on_now (Some (Read a)) = Some Look
act_on_now (Some (Multi kind a v)) = Some Give
act_on_now q = None

abbrev pub act_by : Option Request → Option Request → Option Act
act_by (Some (Multi kind a v)) now = Some Draw
act_by next now = act_on_now now

abbrev pub told_by : Option Act → (h : ℕ) → List Event → List Event
told_by None h events = events
told_by (Some act) h events = event h act ∷ events

-- the events of a round, in the order in which its requests are served
abbrev pub events : {W : Type 0} → (x : ℕ) → List (Acting W) → List Event
events x [] = []
events x (a ∷ actings) =
    told_by (act_by (touch x a) (touch (suc x) a)) a.runner.has.number (events x actings)

-- all requests on the two words are those of a lock
abbrev pub AreOfLock : {W : Type 0} → (x : ℕ) → List (Acting W) → Type 0
AreOfLock x [] = Unit {0}
AreOfLock x (a ∷ actings) = IsOfNext (touch x a) × IsOfNow (touch (suc x) a) × AreOfLock x actings

-- the two words are those of a lock
pub record AreWords {W : Type 0} (x : ℕ) (l : Lock) (s : State W) : Type 0 where
  pub next : s.store.words x ≡ l.next
  pub now : s.store.words (suc x) ≡ l.now

module _ {W : Type 0} (next : W → Option (Step W)) (setting : Setting) where
  abbrev pub asked : Round → State W → List (Acting W)
  asked round s = asking next setting round s.runners

  -- a lock after the requests of the processors below h in a round
  abbrev pub lock_before : Round → State W → (x h : ℕ) → Lock → Lock
  lock_before round s x h l = fold after l (events x (take h (asked round s)))

  -- what a round without a fault makes of a lock, and how it answers
  pub record UsesLock (round : Round) (s : State W) (x : ℕ) (l : Lock) : Type 0 where
    pub words : AreWords x (fold after l (events x (asked round s))) (result next setting round s)
    pub draws : (h : ℕ) (q : Request) → Touches next setting round s x h q
        → last_of (result next setting round s).runners h
        ≡ Some (answer q (lock_before round s x h l).next)
    pub looks : (h : ℕ) (q : Request) → Touches next setting round s (suc x) h q
        → last_of (result next setting round s).runners h
        ≡ Some (answer q (lock_before round s x h l).now)

  -- all requests on the two words are those of a lock
  abbrev pub IsUsed : (x : ℕ) → Schedule → State W → Type 0
  IsUsed x [] s = Unit {0}
  IsUsed x (round ∷ schedule) s =
      AreOfLock x (asked round s) × IsUsed x schedule (result next setting round s)

  -- the events of a run, one after the other
  abbrev pub history : (x : ℕ) → Schedule → State W → List Event
  history x [] s = []
  history x (round ∷ schedule) s =
      events x (asked round s) ++ history x schedule (result next setting round s)

  -- The words begin as 0. All requests on them are those of a lock, and each processor draws, looks
  -- until it reads its ticket, and gives, in turn.
  pub record UsesFairly (processors x : ℕ) (schedule : Schedule) (s : State W) : Type 0 where
    pub first : AreWords x opening s
    pub used : IsUsed x schedule s
    pub in_turn : IsFair processors (history x schedule s)

  -- as long as no round has a fault, the words and the answers are those of the lock after the events
  abbrev pub Tells : (x : ℕ) → Schedule → State W → Lock → Type 0
  Tells x [] s l = Unit {0}
  Tells x (round ∷ schedule) s l =
      (result next setting round s).fault ≡ None
      → UsesLock round s x l
      × Tells x schedule (result next setting round s) (fold after l (events x (asked round s)))

  pub record Excludes (x : ℕ) (schedule : Schedule) (s : State W) : Type 0 where
    pub tells : Tells x schedule s opening
    pub one : (k g h : ℕ) → IsInside (history x schedule s) k g
        → IsInside (history x schedule s) k h → g ≡ h
    pub order : (g h i j k m : ℕ) → Enters (history x schedule s) g i k
        → Enters (history x schedule s) h j m → i < j → k < m

abbrev pub RoundsUseLocks : (W : Type 0) → Type 0
RoundsUseLocks W =
    (next : W → Option (Step W)) (setting : Setting) (round : Round) (s : State W) (x : ℕ) (l : Lock)
    → AreWords x l s → (result next setting round s).fault ≡ None
    → AreOfLock x (asked next setting round s) → UsesLock next setting round s x l

abbrev pub RunsExclude : (W : Type 0) → Type 0
RunsExclude W =
    (next : W → Option (Step W)) (setting : Setting) (processors x : ℕ) (schedule : Schedule)
    (s : State W) → processors < 2 ^ 32 → UsesFairly next setting processors x schedule s
    → Excludes next setting x schedule s
