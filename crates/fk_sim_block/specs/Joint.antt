-- Joint operations: their members meet at an arrival word. How one member meets the others.
use Rattle.std.specs.Prelude.{◌≡◌, ◌≢◌, ℕ, zero, suc, ◌+◌, ◌*◌, ◌%◌, ◌≤◌, List, Bool, true, false}
use Rattle.std.specs.Prelude.{Option, Some, ◌⊎◌}
use Rattle.fk_num.specs.Word.{Memory, word_sum}
use Rattle.fk_meaning_operation.specs.declared.operation.Operation.{Operation}
use Rattle.fk_meaning_operation.specs.declared.operation.Operation.TheVariants.{Resume, Meet}
use Rattle.fk_meaning.specs.Processor.{Setting}
use Rattle.fk_core.specs.declared.op.CoreOp.{CoreOp}
use Rattle.fk_image.specs.declared.Image.{Image}
use Rattle.fk_machine.specs.Hart.{Hart, Setting as MachineSetting}
use Rattle.fk_sim_nodes.specs.Node.{Member, Words}
use Rattle.fk_sim_nodes.specs.Alone.{Holds, RunsPrivately, Stays, later, in_cycles}
use Rattle.fk_sim_nodes.specs.Phase.{Phase, Outside, Away, Coming, Waiting, Leaving}
use Rattle.fk_sim_block.specs.Owner.{Owner}
use Rattle.fk_sim_block.specs.Stands.{Places, StandsAt}
use Rattle.fk_sim_block.specs.Block.{Enters, gone_to}
use Rattle.fk_sim_block.specs.Node.{Polling, Nestings, StandsInNode, OwnsHeader, barrier_word}
use Rattle.fk_sim_block.specs.Node.{closing_word}
use Rattle.fk_sim_block.specs.Lockstep.{IsMember}

-- The operations whose members meet at an arrival word: a barrier, the end of a body, and the wait
-- for parts to end.
abbrev pub is_meeting : Operation → Bool
is_meeting (Meet closing) = true
is_meeting Resume = true
is_meeting operation = false

-- The control word of the node where the members of a joint operation meet: one for barriers, where
-- those who run the body meet, and one for all other operations, where all members of the node
-- meet.
abbrev pub word_of : Operation → ℕ
word_of (Meet false) = barrier_word
word_of operation = closing_word

-- How many members meet for an operation: those who run the body, or the whole group.
abbrev pub AreSoMany : Operation → (runs : Option ℕ) → Owner → ℕ → Type 0
AreSoMany (Meet false) runs p n = runs ≡ Some n
AreSoMany operation runs p n = p.runner.has.level.size ≡ n

-- The number of steps between the poll that finds all members and the commit.
abbrev pub lead : ℕ
lead = 1

-- The most steps that a member takes to its arrival. After that it polls, finds all members there
-- and leaves, in three cycles at most. So it commits within the bound of a block that doesn't meet
-- (`most_before`).
abbrev pub most_to_meet : ℕ
most_to_meet = 67

-- ---- one member

-- The hart is about to poll. Apart from the registers that polling changes it is as it was at
-- first.
pub record Polls (polling : Polling) (first h : Hart) : Type 0 where
  pub live : h.ended ≡ false
  pub at : h.pc ≡ 4 * polling.at
  pub local : h.local ≡ first.local
  pub others : (register : ℕ) → polling.changes register ≡ false
      → h.registers register ≡ first.registers register

module _ (image : Image) (word number : ℕ) where
  -- The hart's turn in this cycle is an instruction of count c. It leaves a value in the arrival
  -- word and changes no other word, and `Then` holds afterwards.
  pub record TurnsTo (mine : Words) (t : MachineSetting) (c : ℕ) (h : Hart) (own : Memory)
      (value : ℕ) (Then : Hart → Type 0) : Type 0 where
    pub hart : Hart
    pub words : Memory
    pub stays : Stays image mine t c (record { number = number; hart = h }) own hart words
    pub arrivals : words word ≡ value
    pub others : (i : ℕ) → i ≢ word → words i ≡ own i
    pub follows : Then hart

  -- The hart has such a turn in every node that owns the word. What it leaves, and what holds
  -- afterwards, depend on the value that it finds there.
  abbrev pub Turns : MachineSetting → (c : ℕ) → Hart → (leaves : ℕ → ℕ)
      → (Then : (found : ℕ) → Hart → Type 0) → Type 0
  Turns t c h leaves Then =
      (mine : Words) (own : Memory) → mine word ≡ true
      → TurnsTo mine t c h own (leaves (own word)) (λ h'. Then (own word) h')

  -- One of n members that meet. `Left` holds of its hart once it has left.
  module _ (polling : Polling) (first : Hart) (n : ℕ) (Left : Hart → Type 0) where
    -- A turn at the arrival word: an arriving member adds 1.
    abbrev pub IsArriving : MachineSetting → Hart → Type 0
    IsArriving t h = Turns t 0 h (λ v. word_sum v 1) (λ v h'. Polls polling first h')

    -- A leaving member stores 0, by an instruction of this count: 1 where leaving is the commit,
    -- else 0.
    abbrev pub IsLeaving : (count : ℕ) → MachineSetting → Hart → Type 0
    IsLeaving count t h = Turns t count h (λ v. 0) (λ v h'. Left h')

    abbrev pub GoesToLeave : (count : ℕ) → MachineSetting → Hart → Type 0
    GoesToLeave count t h = Turns t 0 h (λ v. v) (λ v h'. IsLeaving count (later t) h')

    abbrev pub GoesToPoll : MachineSetting → Hart → Type 0
    GoesToPoll t h = Turns t 0 h (λ v. v) (λ v h'. Polls polling first h')

    -- The hart polls in odd cycles. If it finds all n members there, it goes on to leave; else it
    -- polls again in the next odd cycle.
    abbrev pub KeepsPolling : (count : ℕ) → Type 0
    KeepsPolling count =
        (t : MachineSetting) (h : Hart) → Holds image t → t.finished % 2 ≡ 1 → Polls polling first h
        → Turns t 0 h (λ v. v)
        (λ v h'. (v ≡ n → GoesToLeave count (later t) h') × (v ≢ n → GoesToPoll (later t) h'))

    -- Where the hart is at the beginning of a cycle, by its phase.
    abbrev pub IsInPhaseBy : (count : ℕ) → MachineSetting → Phase → Hart → Type 0
    IsInPhaseBy count t Outside h = ⊥
    IsInPhaseBy count t Away h = ⊥
    IsInPhaseBy count t (Coming d) h =
        ((t.finished + d) % 2 ≡ 0) × ((arriving : Hart) × RunsPrivately image t number d h arriving
        × IsArriving (in_cycles d t) arriving)
    IsInPhaseBy count t Waiting h = ((t.finished % 2 ≡ 1) × Polls polling first h)
        ⊎ ((t.finished % 2 ≡ 0) × GoesToPoll t h)
    IsInPhaseBy count t (Leaving zero) h = (t.finished % 2 ≡ 1) × IsLeaving count t h
    IsInPhaseBy count t (Leaving (suc zero)) h = (t.finished % 2 ≡ 0) × GoesToLeave count t h
    IsInPhaseBy count t (Leaving (suc (suc d))) h = ⊥

    -- Where the hart is by its phase, if leaving is the commit.
    abbrev pub IsInPhase : MachineSetting → Phase → Hart → Type 0
    IsInPhase t f h = IsInPhaseBy 1 t f h

-- ---- the block of a joint operation

module _ (image : Image) (places : Places) (nestings : Nestings) (setting : Setting)
    (runs : Option ℕ) (i : ℕ) where
  -- A member that has left stands for its processor at the next index.
  abbrev pub StandsBehind : Owner → Hart → Type 0
  StandsBehind p h = StandsAt places (gone_to (suc i) p) h
      × StandsInNode places nestings setting runs (gone_to (suc i) p) h

  -- A member is in a phase at an arrival word where n members meet.
  pub record MeetsAt (word n : ℕ) (t : MachineSetting) (f : Phase) (m : Member)
      (p : Owner) : Type 0 where
    pub polling : Polling
    pub first : Hart
    pub code : Holds image t
    pub polls : KeepsPolling image word m.number polling first n (StandsBehind p) 1
    pub stands : IsInPhase image word m.number polling first n (StandsBehind p) t f m.hart

module _ (core : List CoreOp) (image : Image) (places : Places) (nestings : Nestings) (i : ℕ)
    (op : CoreOp) (operation : Operation) where
  -- From the beginning of its block a member arrives after d private steps, at most `most`, in an
  -- even cycle.
  abbrev pub BlockMeets : (most : ℕ) → Type 0
  BlockMeets most =
      (setting : Setting) (t : MachineSetting) (mine : Words) (runs : Option ℕ) (first n : ℕ)
      (m : Member) (p : Owner)
      → OwnsHeader mine first → Enters core image places setting t i op operation p m.hart
      → IsMember places nestings setting runs first m p
      → AreSoMany operation runs p n
      → (d : ℕ) × (d ≤ most)
      × MeetsAt image places nestings setting runs i (first + word_of operation) n t (Coming d) m p
