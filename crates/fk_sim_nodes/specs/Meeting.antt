-- The law of those who meet at one arrival word.
use Rattle.std.specs.Prelude.{◌≡◌, ◌≢◌, ℕ, suc, ◌+◌, ◌^◌, ◌<◌, ◌≤◌, List, length, ◌⊎◌}
use Rattle.fk_sim_nodes.specs.Phase.{Phase, Each, Leaves, AllMove, SomeCommits, Settled, IsDue}
use Rattle.fk_sim_nodes.specs.Phase.{AllSetOut, IsIdle, members}

-- What a cycle makes of an arrival word.
pub record IsKept (t n lead v v' : ℕ) (fs fs' : List Phase) : Type 0 where
  -- The word goes on counting those who have arrived.
  pub settled : Settled (t + 1) n v' fs'
  -- Where one member leaves, all do, and all had arrived.
  pub together : SomeCommits fs → Each (Leaves 0) fs × (v ≡ n)
  -- At most lead + 2 cycles after that in which the last member arrives, all leave.
  pub prompt : v ≢ n → v' ≡ n → IsDue lead (lead + 1) (t + 1) fs'
  -- Where all members have entered and leave in k + 1 cycles at most, they leave now, or in k
  -- cycles at most from the next one on.
  pub nearer : (k : ℕ) → IsDue lead (suc k) t fs → Each (Leaves 0) fs ⊎ IsDue lead k (t + 1) fs'
  -- Where no cycle is left, all members leave now.
  pub now : IsDue lead 0 t fs → Each (Leaves 0) fs

abbrev pub CyclesKeepArrivals : Type 0
CyclesKeepArrivals =
    (t n lead v v' : ℕ) (fs fs' : List Phase) → length fs < 2 ^ 31 → Settled t n v fs
    → AllMove t n lead fs v fs' v' → IsKept t n lead v v' fs fs'

-- The phases and the word before each cycle, from t on.
pub record IsRun (t n lead : ℕ) (word : ℕ → ℕ) (phases : ℕ → List Phase) : Type 0 where
  pub few : length (phases 0) < 2 ^ 31
  pub first : Settled t n (word 0) (phases 0)
  pub moves : (i : ℕ) → AllMove (t + i) n lead (phases i) (word i) (phases (suc i)) (word (suc i))

-- In one cycle all members leave, and in no cycle before it does any.
pub record AllLeaveAt (phases : ℕ → List Phase) (d : ℕ) : Type 0 where
  pub all : Each (Leaves 0) (phases d)
  pub nobody : (e : ℕ) → e < d → SomeCommits (phases e) → ⊥

-- Once all members have entered, with k cycles at most to go, they leave together in one of these.
abbrev pub MembersLeaveTogether : Type 0
MembersLeaveTogether =
    (t n lead k : ℕ) (word : ℕ → ℕ) (phases : ℕ → List Phase) → IsRun t n lead word phases
    → IsDue lead k t (phases 0)
    → (d : ℕ) × (d ≤ k) × AllLeaveAt phases d

-- All members leave together, lead + 2 cycles at most after that in which the last of them arrives.
abbrev pub LastArrivalFreesAll : Type 0
LastArrivalFreesAll =
    (t n lead : ℕ) (word : ℕ → ℕ) (phases : ℕ → List Phase) → IsRun t n lead word phases
    → word 0 ≢ n → word 1 ≡ n
    → (d : ℕ) × (d ≤ lead + 2) × AllLeaveAt phases d

-- Between two cycles, members that are away may set out.
abbrev pub MembersMaySetOut : Type 0
MembersMaySetOut = (t n v : ℕ) (fs fs' : List Phase) → Settled t n v fs → AllSetOut t fs fs'
    → Settled t n v fs'

-- A word of 0 may get members, none of whom has arrived.
abbrev pub WordsOpenAtZero : Type 0
WordsOpenAtZero = (t : ℕ) (fs : List Phase) → Each (IsIdle t) fs → Settled t (members fs) 0 fs
