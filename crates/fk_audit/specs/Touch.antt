-- Which harts touch which words of shared data in a cycle.
use Rattle.std.specs.Prelude.{ℕ, suc, ◌/◌, ◌==◌, if◌then◌else◌, List, [], ◌∷◌}
use Rattle.std.specs.Prelude.{Option, Some, None, Bool, false, slice_get}
use Rattle.std.specs.Option.{option_flatten}
use Rattle.fk_isa.specs.declared.instruction.Instruction.{Instruction}
use Rattle.fk_isa.specs.Step.{HartState}
use Rattle.fk_machine.specs.declared.place.Location.{Location}
use Rattle.fk_machine.specs.declared.place.Location.TheVariants.{SharedWord, ControlWord, LocalWord}
use Rattle.fk_machine.specs.declared.place.Location.TheVariants.{DeviceWord, Nowhere}
use Rattle.fk_machine.specs.declared.stand.Stand.{Stand}
use Rattle.fk_machine.specs.declared.stand.Stand.TheVariants.{Running, Finished, Faulted, Trapped}
use Rattle.fk_machine.specs.Place.{place_of}
use Rattle.fk_machine.specs.Hart.{Hart}
use Rattle.fk_machine.specs.Step.{state_of}
use Rattle.fk_machine.specs.Cycle.{Machine, turns_of}
use Rattle.fk_audit.specs.declared.access.Access.{Access}
use Rattle.fk_audit.specs.declared.access.AccessKind.{AccessKind}
use Rattle.fk_audit.specs.declared.touch.Touch.{Touch}
use Rattle.fk_audit.specs.Access.{access_by}

-- Only an access to a word of shared data is a touch: of that word, by the hart with this number.
abbrev pub touch_at : ℕ → AccessKind → Location → Option Touch
touch_at number kind (SharedWord word) =
    Some (record { hart = number; word = word; kind = kind })
touch_at number kind (ControlWord word) = None
touch_at number kind (LocalWord word) = None
touch_at number kind (DeviceWord device) = None
touch_at number kind Nowhere = None

abbrev pub touch_by : ℕ → Option Access → Option Touch
touch_by number None = None
touch_by number (Some access) = touch_at number access.kind (place_of access.address)

-- What the next instruction of the hart with this number touches, if the hart is served and doesn't
-- trap.
abbrev pub touch_of : List (Option Instruction) → ℕ → HartState → Option Touch
touch_of code number h =
    touch_by number (access_by (option_flatten (slice_get code (h.pc / 4))) h)

abbrev pub with_touch : Option Touch → List Touch → List Touch
with_touch None touches = touches
with_touch (Some touch) touches = touch ∷ touches

-- Whether the hart with this number has trapped, by the status that ended the cycle, if one did.
abbrev pub has_trapped : Option Stand → ℕ → Bool
has_trapped None number = false
has_trapped (Some Running) number = false
has_trapped (Some Finished) number = false
has_trapped (Some (Faulted site hart)) number = false
has_trapped (Some (Trapped hart pc kind)) number = hart == number

-- What harts touch in a cycle, the first of which has this number. `ran` has the address that each
-- hart ran, None for one that was not served, and `stop` is the status that ended the cycle, if one
-- did.
abbrev pub touches_from : List (Option Instruction) → Option Stand → ℕ → List Hart
    → List (Option ℕ) → List Touch
touches_from code stop number [] ran = []
touches_from code stop number (h ∷ hs) [] = []
touches_from code stop number (h ∷ hs) (None ∷ ran) =
    touches_from code stop (suc number) hs ran
touches_from code stop number (h ∷ hs) (Some pc ∷ ran) =
    with_touch (if has_trapped stop number then None else touch_of code number (state_of h))
    (touches_from code stop (suc number) hs ran)

-- The touches of a machine's next cycle, in ascending number of the harts. A hart is in its turn as
-- it was before the cycle.
abbrev pub touches : Machine → List Touch
touches m = touches_from m.code (turns_of m).stop 0 m.harts (turns_of m).ran
