-- Several harts that meet: one that came to the lines of a meeting, and all harts in a cycle.
use Rattle.std.specs.Prelude.{◌≡◌, ◌≢◌, ℕ, ◌^◌, ◌<◌, ◌≤◌, List, [], ◌∷◌, length, true}
use Rattle.fk_num.specs.Word.{Memory}
use Rattle.fk_image.specs.declared.Image.{Image}
use Rattle.fk_machine.specs.Hart.{Hart, Shared, Setting, Goes}
use Rattle.fk_machine.specs.Step.{step}
use Rattle.fk_sim_nodes.specs.Node.{Member, Words}
use Rattle.fk_sim_nodes.specs.Alone.{Holds, NodeCycle, NodeRun, in_cycles}
use Rattle.fk_sim_nodes.specs.Phase.{Phase, Outside, Away, Coming, AllMove, Each, Settled, IsDue}
use Rattle.fk_gen_group.specs.Meeting.{Meeting, HasMeeting, IsReadyToMeet, IsInPhase, Continues}
use Rattle.fk_gen_group.specs.Meeting.{HasLeft, count_of_leaving, lead}

-- A hart at an arrival word: its phase there, the word of the code where the lines to which it came
-- begin, and what it was when it came. Those who meet may have come to different lines.
pub record Comer : Type 0 where
  pub phase : Phase
  pub lines : ℕ
  pub first : Hart

abbrev pub phases : List Comer → List Phase
phases [] = []
phases (c ∷ cs) = c.phase ∷ phases cs

-- A hart is in the lines.
abbrev pub IsInside : Phase → Type 0
IsInside Outside = ⊥
IsInside Away = ⊥
IsInside f = Unit {0}

module _ (g : Meeting) (image : Image) (bound : ℕ → ℕ) (w n : ℕ) where
  -- A hart in the lines is where its phase says.
  pub record IsInLines (t : Setting) (c : Comer) (m : Member) : Type 0 where
    pub meeting : HasMeeting g image bound c.lines
    pub ready : IsReadyToMeet g w n c.first
    pub stands : IsInPhase g image c.lines n c.first t m.number c.phase m.hart

  -- ---- whatever the other harts do

  -- The turn of a hart in the lines is its step. The turn of another leaves the arrival word as it
  -- is.
  abbrev pub TakesTurn : Setting → Phase → Comer → Member → Shared → Hart → Shared → Type 0
  TakesTurn t Outside c m sh h sh' = sh'.control w ≡ sh.control w
  TakesTurn t Away c m sh h sh' = sh'.control w ≡ sh.control w
  TakesTurn t f c m sh h sh' = IsInLines t c m × (step t m.number m.hart sh ≡ Goes h sh')

  -- The turns of all harts in a cycle, in ascending number.
  abbrev pub AllTakeTurns : Setting → List Comer → List Member → Shared → List Hart
      → Shared → Type 0
  AllTakeTurns t [] [] sh [] sh' = sh' ≡ sh
  AllTakeTurns t (c ∷ cs) (m ∷ ms) sh (h ∷ hs) sh' =
      (sh1 : Shared) × TakesTurn t c.phase c m sh h sh1 × AllTakeTurns t cs ms sh1 hs sh'
  AllTakeTurns t cs ms sh hs sh' = ⊥

  -- A hart in the lines goes on in its next phase, or has left.
  abbrev pub GoesOn : Setting → Phase → Comer → Member → Phase → Hart → Type 0
  GoesOn t Outside c m f' h = f' ≡ Outside
  GoesOn t Away c m f' h = f' ≡ Away
  GoesOn t f c m f' h = (found : ℕ) × Continues g image c.lines n c.first t m.number found f f' h

  abbrev pub AllGoOn : Setting → List Comer → List Member → List Phase → List Hart → Type 0
  AllGoOn t [] [] [] [] = Unit {0}
  AllGoOn t (c ∷ cs) (m ∷ ms) (f' ∷ fs') (h ∷ hs) = GoesOn t c.phase c m f' h
      × AllGoOn t cs ms fs' hs
  AllGoOn t cs ms fs' hs = ⊥

  -- ---- a node whose members are all in the lines

  abbrev pub AllAreInLines : Setting → List Comer → List Member → Type 0
  AllAreInLines t [] [] = Unit {0}
  AllAreInLines t (c ∷ cs) (m ∷ ms) = IsInside c.phase × IsInLines t c m × AllAreInLines t cs ms
  AllAreInLines t cs ms = ⊥

  abbrev pub AllHaveLeft : List Comer → List Member → Type 0
  AllHaveLeft [] [] = Unit {0}
  AllHaveLeft (c ∷ cs) (m ∷ ms) = HasLeft g image c.lines n c.first m.hart × AllHaveLeft cs ms
  AllHaveLeft cs ms = ⊥

  -- All members have left, their arrival word is 0, and the node's other words are as they were.
  pub record HaveMet (cs : List Comer) (before : Memory) (ms : List Member)
      (own : Memory) : Type 0 where
    pub left : AllHaveLeft cs ms
    pub nobody : own w ≡ 0
    pub others : (j : ℕ) → j ≢ w → own j ≡ before j

  -- After d cycles in which no member leaves, all leave in one.
  abbrev pub LeaveAfter : (mine : Words) → (d : ℕ) → Setting → List Comer → List Member
      → (own : Memory) → Type 0
  LeaveAfter mine d t cs ms own =
      NodeRun image mine t d ms own
      (λ ms' own'. NodeCycle image mine (in_cycles d t)
      (count_of_leaving g.leaving) ms' own' (λ ms'' own''. HaveMet cs own ms'' own''))

-- The turns of a cycle are moves of those who meet at an arrival word, whatever others do that
-- leave it as it is. So the laws of meetings say when all leave, and that none leaves before all
-- have arrived.
abbrev pub TurnsAreMoves : Type 0
TurnsAreMoves =
    (g : Meeting) (image : Image) (bound : ℕ → ℕ) (w n : ℕ) (t : Setting) (cs : List Comer)
    (ms : List Member) (hs : List Hart) (sh sh' : Shared)
    → Holds image t → AllTakeTurns g image bound w n t cs ms sh hs sh'
    → (fs' : List Phase) × AllMove t.finished n lead (phases cs) (sh.control w) fs' (sh'.control w)
    × AllGoOn g image bound w n t cs ms fs' hs

-- The aligned barrier: members who have all entered leave in one cycle, and none of them before.
-- Where all have time for it in k cycles, that cycle is at most k from now.
abbrev pub MembersLeaveTogether : Type 0
MembersLeaveTogether =
    (g : Meeting) (image : Image) (bound : ℕ → ℕ) (mine : Words) (w n k : ℕ) (t : Setting)
    (cs : List Comer) (ms : List Member) (own : Memory)
    → Holds image t → mine w ≡ true → length cs < 2 ^ 31 → AllAreInLines g image bound w n t cs ms
    → Settled t.finished n (own w) (phases cs) → IsDue lead k t.finished (phases cs)
    → (d : ℕ) × (d ≤ k) × LeaveAfter g image bound w n mine d t cs ms own

-- A member on its way is at its block, or further: at most 7 steps before it arrives.
abbrev pub HasCome : Phase → Type 0
HasCome (Coming d) = d ≤ 7
HasCome f = Unit {0}

-- 10 cycles are enough for all to leave, from the cycle on in which the last of them comes to its
-- block.
abbrev pub MembersLeaveInTen : Type 0
MembersLeaveInTen =
    (g : Meeting) (image : Image) (bound : ℕ → ℕ) (mine : Words) (w n : ℕ) (t : Setting)
    (cs : List Comer) (ms : List Member) (own : Memory)
    → Holds image t → mine w ≡ true → length cs < 2 ^ 31 → AllAreInLines g image bound w n t cs ms
    → Settled t.finished n (own w) (phases cs) → Each HasCome (phases cs)
    → (d : ℕ) × (d ≤ 10) × LeaveAfter g image bound w n mine d t cs ms own
