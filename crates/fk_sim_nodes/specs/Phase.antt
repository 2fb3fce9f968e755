-- The phases of a hart at an arrival word, where the members of a node meet, and what a cycle makes
-- of them.
use Rattle.std.specs.Prelude.{◌≡◌, ℕ, zero, suc, ◌+◌, ◌%◌, ◌==◌, ◌&&◌, ◌≤◌, List, [], ◌∷◌, Bool}
use Rattle.std.specs.Prelude.{true, false, ◌⊎◌}
use Rattle.fk_num.specs.Word.{word_sum}

-- The phase of a hart at an arrival word: it is no member; it is a member that is not on its way;
-- it arrives after `steps` private steps; it has arrived, and polls; or it has seen that all are
-- there, and leaves after `steps` private steps.
pub data Phase : Type 0 where
  Outside : Phase
  Away : Phase
  Coming : (steps : ℕ) → Phase
  Waiting : Phase
  Leaving : (steps : ℕ) → Phase

-- Harts arrive in even cycles and poll in odd ones. A hart on its way keeps to that.
abbrev pub is_odd : ℕ → Bool
is_odd t = t % 2 == 1

abbrev pub InStep : (t : ℕ) → Phase → Type 0
InStep t (Coming d) = (t + d) % 2 ≡ 0
InStep t f = Unit {0}

-- A member has not arrived: it is away, or on its way.
abbrev pub IsFree : (t : ℕ) → Phase → Type 0
IsFree t Away = Unit {0}
IsFree t (Coming d) = (t + d) % 2 ≡ 0
IsFree t f = ⊥

-- What the turn of a hart makes of the arrival word: one that arrives adds 1, and one that leaves
-- stores 0.
abbrev pub word_after : Phase → ℕ → ℕ
word_after (Coming zero) v = word_sum v 1
word_after (Leaving zero) v = 0
word_after f v = v

-- The phase after a poll: a hart that has seen that all are there leaves after `lead` steps, and
-- another goes on polling.
abbrev pub polled : (lead : ℕ) → Bool → Phase
polled lead true = Leaving lead
polled lead false = Waiting

-- What its turn in cycle t makes of a hart, where n members meet and its turn finds v in the word.
abbrev pub Moves : (t n lead v : ℕ) → Phase → Phase → Type 0
Moves t n lead v Outside f = f ≡ Outside
Moves t n lead v Away f = IsFree (t + 1) f
Moves t n lead v (Coming zero) f = f ≡ Waiting
Moves t n lead v (Coming (suc d)) f = f ≡ Coming d
Moves t n lead v Waiting f = f ≡ polled lead (is_odd t && v == n)
Moves t n lead v (Leaving zero) f = IsFree (t + 1) f
Moves t n lead v (Leaving (suc d)) f = f ≡ Leaving d

-- The turns of all harts in cycle t, in ascending number, each on the word that those below it have
-- left.
abbrev pub AllMove : (t n lead : ℕ) → List Phase → (v : ℕ) → List Phase → (v' : ℕ) → Type 0
AllMove t n lead [] v [] v' = v' ≡ v
AllMove t n lead (f ∷ fs) v (f' ∷ fs') v' = Moves t n lead v f f'
    × AllMove t n lead fs (word_after f v) fs' v'
AllMove t n lead fs v fs' v' = ⊥

-- How many are members, and how many of them have arrived and not yet left.
abbrev pub and_member : Phase → ℕ → ℕ
and_member Outside k = k
and_member f k = suc k

abbrev pub and_arrived : Phase → ℕ → ℕ
and_arrived Waiting k = suc k
and_arrived (Leaving d) k = suc k
and_arrived f k = k

abbrev pub members : List Phase → ℕ
members [] = 0
members (f ∷ fs) = and_member f (members fs)

abbrev pub arrived : List Phase → ℕ
arrived [] = 0
arrived (f ∷ fs) = and_arrived f (arrived fs)

abbrev pub Each : (Phase → Type 0) → List Phase → Type 0
Each P [] = Unit {0}
Each P (f ∷ fs) = P f × Each P fs

-- A hart has not seen that all are there.
abbrev pub Stays : Phase → Type 0
Stays (Leaving d) = ⊥
Stays f = Unit {0}

-- A hart is no member, or is `d` private steps before it leaves.
abbrev pub Leaves : (steps : ℕ) → Phase → Type 0
Leaves d Outside = Unit {0}
Leaves d (Leaving e) = e ≡ d
Leaves d f = ⊥

-- No member has seen that all are there, or all have, and leave in the same cycle.
abbrev pub AreTogether : List Phase → Type 0
AreTogether fs = Each Stays fs ⊎ ((d : ℕ) × Each (Leaves d) fs)

-- Before cycle t the word of n members counts those who have arrived, and they are together.
pub record Settled (t n v : ℕ) (fs : List Phase) : Type 0 where
  pub size : members fs ≡ n
  pub count : arrived fs ≡ v
  pub in_step : Each (InStep t) fs
  pub together : AreTogether fs

-- A member leaves in this cycle: it commits, or unites with the others.
abbrev pub Commits : Phase → Type 0
Commits (Leaving zero) = Unit {0}
Commits f = ⊥

abbrev pub SomeCommits : List Phase → Type 0
SomeCommits [] = ⊥
SomeCommits (f ∷ fs) = Commits f ⊎ SomeCommits fs

-- A member has entered and not yet left, and k cycles are enough for it to arrive, to see that all
-- are there, and to leave.
abbrev pub HasTime : (lead k : ℕ) → Phase → Type 0
HasTime lead k Away = ⊥
HasTime lead k (Coming d) = d + lead + 2 ≤ k
HasTime lead k (Leaving d) = d ≤ k
HasTime lead k f = Unit {0}

-- The next poll but in this cycle, and then the leaving, are at most k cycles from now; or all
-- leave by then.
abbrev pub IsNear : (lead k t : ℕ) → List Phase → Type 0
IsNear lead k t fs = (lead + 2 ≤ k + t % 2) ⊎ ((d : ℕ) × (d ≤ k) × Each (Leaves d) fs)

-- All members leave after at most k cycles more.
pub record IsDue (lead k t : ℕ) (fs : List Phase) : Type 0 where
  pub time : Each (HasTime lead k) fs
  pub near : IsNear lead k t fs

-- Between two cycles, a member that is away may set out.
abbrev pub SetsOut : (t : ℕ) → Phase → Phase → Type 0
SetsOut t Away f = IsFree t f
SetsOut t g f = f ≡ g

abbrev pub AllSetOut : (t : ℕ) → List Phase → List Phase → Type 0
AllSetOut t [] [] = Unit {0}
AllSetOut t (f ∷ fs) (f' ∷ fs') = SetsOut t f f' × AllSetOut t fs fs'
AllSetOut t fs fs' = ⊥

-- A hart is no member, or has not arrived.
abbrev pub IsIdle : (t : ℕ) → Phase → Type 0
IsIdle t Waiting = ⊥
IsIdle t (Leaving d) = ⊥
IsIdle t f = InStep t f
