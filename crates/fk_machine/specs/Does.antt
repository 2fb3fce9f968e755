-- What the code of one turn, and of all turns of a cycle, does.
use Rattle.std.specs.Prelude.{◌≡◌, ℕ, ◌+◌, ◌-◌, ◌≤◌, List, Option, Some, None, length, slice_index}
use Rattle.std.specs.Prelude.{vec_len, vec_capacity}
use Rattle.fk_isa.specs.declared.hart.Hart.{Hart as HartState}
use Rattle.fk_machine.specs.declared.hart.TrackedHart.{TrackedHart}
use Rattle.fk_machine.specs.declared.bus.HartBus.{HartBus}
use Rattle.fk_machine.specs.declared.shared.SharedState.{SharedState}
use Rattle.fk_machine.specs.declared.stand.Stand.{Stand}
use Rattle.fk_machine.specs.Hart.{Hart, Shared, Effect, Goes, Stops}
use Rattle.fk_machine.specs.Reach.{Reach}
use Rattle.fk_machine.specs.Cycle.{Turns}
use Rattle.fk_machine.specs.View.{hart_of, harts_of, local_of, ran_of, shared_of, setting_of}

-- How many more bytes can be printed without taking memory.
abbrev pub room_of : SharedState → ℕ
room_of s = vec_capacity s.output - vec_len s.output

-- At most this many bytes are printed, and the memory for output and for reservations stays.
pub record PrintsUpTo (bytes : ℕ) (old new : SharedState) : Type 0 where
  pub printed : vec_len new.output ≤ vec_len old.output + bytes
  pub capacity : vec_capacity old.output ≤ vec_capacity new.output
  pub harts : vec_len new.reserved ≡ vec_len old.reserved

-- A hart's bus, as what the hart reaches.
abbrev pub reach_of : HartBus → Reach
reach_of b = record {
  setting = setting_of b.setting.now;
  local = slice_index b.local.now;
  shared = shared_of b.shared.now;
}

-- A bus is ready for its hart: it has the hart's whole memory, and room for a line.
pub record IsReady (b : HartBus) : Type 0 where
  pub own : length b.local.now ≡ 32768
  pub room : 12 ≤ room_of b.shared.now

-- A call keeps what the bus borrows, and prints at most a line.
pub record Keeps (old new : HartBus) : Type 0 where
  pub local : new.local.ghost_name ≡ old.local.ghost_name
  pub shared : new.shared.ghost_name ≡ old.shared.ghost_name
  pub own : length new.local.now ≡ length old.local.now
  pub prints : PrintsUpTo 12 old.shared.now new.shared.now

-- An effect goes on to the new hart and shared state, or stops with a status and leaves the old
-- ones.
abbrev pub Gives : Effect → Hart → Shared → Option Stand → Hart → Shared → Type 0
Gives effect h s None h' s' = effect ≡ Goes h' s'
Gives effect h s (Some stand) h' s' = (effect ≡ Stops stand) × (h' ≡ h) × (s' ≡ s)

-- An instruction, as what it does to a hart with its local memory and to the shared state.
abbrev pub Does : (Hart → Shared → Effect) → HartState → List ℕ → SharedState → Option Stand
    → HartState → List ℕ → SharedState → Type 0
Does instruction h local s stop h' local' s' =
    let hart = hart_of h (slice_index local) in
    Gives (instruction hart (shared_of s)) hart (shared_of s) stop
    (hart_of h' (slice_index local')) (shared_of s')

-- The turns leave these harts, which ran these addresses, and this shared state, and end with this
-- status, if any.
pub record TurnsGive (t : Turns) (stop : Option Stand) (harts : List Hart) (ran : List (Option ℕ))
    (shared : Shared) : Type 0 where
  pub harts_are : t.harts ≡ harts
  pub ran_are : t.ran ≡ ran
  pub shared_is : t.shared ≡ shared
  pub stop_is : t.stop ≡ stop

-- The turns of all harts, as what they do to the harts with their local memories and to the shared
-- state.
abbrev pub TakesTurns : (List Hart → Shared → Turns) → List TrackedHart → List ℕ → SharedState
    → Option Stand → List TrackedHart → List ℕ → SharedState → Type 0
TakesTurns turns hs locals s stop hs' locals' s' =
    TurnsGive (turns (harts_of 0 hs (local_of locals)) (shared_of s)) stop
    (harts_of 0 hs' (local_of locals')) (ran_of hs') (shared_of s')
