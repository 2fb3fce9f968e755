-- A state of a core run and the processors of a machine that match it. Each of those is at the
-- operation to which jumps lead it.
use Rattle.std.specs.Prelude.{◌≡◌, ℕ, suc, ◌+◌, ◌≤◌, List, [], ◌∷◌, length, map, Bool, None}
use Rattle.fk_num.specs.Word.{Memory}
use Rattle.fk_meaning_store.specs.Store.{heap_start}
use Rattle.fk_meaning.specs.Processor.{Setting}
use Rattle.fk_meaning.specs.Round.{Runner, State, Round, result}
use Rattle.fk_core.specs.declared.op.CoreOp.{CoreOp}
use Rattle.fk_core.specs.Next.{Position, position, landing, next}
use Rattle.fk_sim_heap.specs.Shows.{ShowsTop, number_full}
use Rattle.fk_sim_block.specs.Owner.{Commons, commons_of, Owner}
use Rattle.fk_sim_rounds.specs.Next.{JumpsLead}
use Rattle.fk_sim_rounds.specs.After.{runners_of}

module _ (core : List CoreOp) where
  abbrev pub landed_runner : Runner Position → Runner Position
  landed_runner r = record r { left = position (landing core r.left.at) r.left.callers }

  abbrev pub landed_state : State Position → State Position
  landed_state s = record s { runners = map landed_runner s.runners }

-- Each processor has the heap of its number, from a number on.
abbrev pub HaveHeaps : (number : ℕ) → (heaps : ℕ → Memory) → List Owner → Type 0
HaveHeaps number heaps [] = Unit {0}
HaveHeaps number heaps (p ∷ ps) = (heaps number ≡ p.heap.words)
    × HaveHeaps (suc number) heaps ps

-- Whether each processor has found the global heap full.
abbrev pub notes_of : List Owner → List Bool
notes_of ps = map (λ p. p.heap.full) ps

-- Runners are in the order of their numbers.
abbrev pub AreInOrder : (number : ℕ) → List (Runner Position) → Type 0
AreInOrder number [] = Unit {0}
AreInOrder number (r ∷ rs) = (r.has.number ≡ number) × AreInOrder (suc number) rs

-- A run goes on, with these processors, 1,024 at most, and with what they share. The words asked
-- for and the processors' notes show the top of the global heap.
pub record IsBeside (core : List CoreOp) (setting : Setting) (s : State Position) (ps : List Owner)
    (shared : Commons) : Type 0 where
  pub going : s.fault ≡ None
  pub runners : runners_of ps ≡ map (landed_runner core) s.runners
  pub heaps : HaveHeaps 0 s.store.heaps ps
  pub commons : commons_of shared.asked s.store ≡ shared
  pub few : length ps ≤ 1024
  pub top : ShowsTop (heap_start (setting.globals + setting.inputs)) s.store.top shared.asked
      (number_full (notes_of ps))

-- A round leaves the same, whether its processors are at jumps or at the operations to which these
-- lead.
abbrev pub LandedRunsAreRuns : Type 0
LandedRunsAreRuns =
    (core : List CoreOp) (setting : Setting) (round : Round) (s : State Position) → JumpsLead core
    → landed_state core (result (next core) setting round (landed_state core s))
    ≡ landed_state core (result (next core) setting round s)
