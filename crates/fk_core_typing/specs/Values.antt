-- What is known of a call at a place in code, and after an operation: its values, and the group
-- frames that it has taken.
use Rattle.std.specs.Prelude.{◌≡◌, ℕ, ◌≤◌, Bool, true, false, not, List, [], ◌∷◌, ◌++◌, length}
use Rattle.std.specs.Prelude.{drop, replicate, Option, Some, None, if◌then◌else◌}
use Rattle.fk_num.specs.Word.{word}
use Rattle.fk_meaning_operation.specs.declared.operation.Operation.{Operation}
use Rattle.fk_meaning_operation.specs.declared.operation.OwnValue.{OwnValue}
use Rattle.fk_meaning_operation.specs.declared.operation.OwnValue.TheVariants.{FrameAddress}
use Rattle.fk_meaning_operation.specs.declared.operation.Operation.TheVariants.{Push, CopyLast}
use Rattle.fk_meaning_operation.specs.declared.operation.Operation.TheVariants.{Get, Enter, Leave}
use Rattle.fk_meaning_operation.specs.declared.operation.Operation.TheVariants.{Begin, Halt}
use Rattle.fk_meaning_operation.specs.declared.operation.Operation.TheVariants.{Binary, Check, Read}
use Rattle.fk_meaning_operation.specs.declared.operation.Operation.TheVariants.{Write, Combine}
use Rattle.fk_meaning_operation.specs.declared.operation.Operation.TheVariants.{Agree}
use Rattle.fk_meaning_store.specs.Serve.{may_use}
use Rattle.fk_layout_sizes.specs.Operations.{takes}
use Rattle.fk_core_typing.specs.LocalDepths.{results, needs, leaves}
use Rattle.fk_sim_block.specs.Suits.{looks_at}
use Rattle.fk_core_liveness.specs.declared.places.FunctionKind.{FunctionKind}
use Rattle.fk_core_liveness.specs.declared.places.FunctionKind.TheVariants.{Main}
use Rattle.fk_lockstep_frames.specs.Nests.{Nest, OfFunction, has_word}
use Rattle.fk_lockstep_frames.specs.Nests as frames
use Rattle.fk_core_typing.specs.declared.constants.Constant.{Constant}
use Rattle.fk_core_typing.specs.declared.constants.Constant.TheVariants.{Number, FrameWord}
use Rattle.fk_core_typing.specs.declared.constants.Constants.{Constants}
use Rattle.fk_core_typing.specs.AddressValues.{no_constants, joined_constant, constants_behind}
use Rattle.fk_core_typing.specs.LocalAddresses.{AreSameIn}

-- What is known of a value: nothing; that it is an address that reads and writes may use; or that
-- it is one that a multiprefix may use too.
pub data Value : Type 0 where
  Unknown : Value
  Usable : Value
  Shared : Value

-- Whether a value is known to be an address that may be used, with `shared_alone` by a multiprefix.
abbrev pub is_known : (shared_alone : Bool) → Value → Bool
is_known shared_alone Unknown = false
is_known shared_alone Usable = not shared_alone
is_known shared_alone Shared = true

-- What is known of a number, of a constant that may be known, and of a value that a check has
-- passed. The address of a word of a frame may be used if the call has taken the frame.
abbrev pub of_number : ℕ → Value
of_number n = if may_use true n then Shared else if may_use false n then Usable else Unknown

abbrev pub of_constant : List Nest → Option Constant → Value
of_constant nests None = Unknown
of_constant nests (Some (Number n)) = of_number n
of_constant nests (Some (FrameWord nesting word)) =
    if has_word nests nesting word then Shared else Unknown

abbrev pub checked : (shared_alone : Bool) → Value → Value
checked true v = Shared
checked false Shared = Shared
checked false v = Usable

-- Where a call is: its function is `main`, or one that is called; and the parts of this function
-- that it is in, with the words of the group frames that it took, the innermost first.
pub record Place : Type 0 where
  pub function : FunctionKind
  pub nests : List Nest

-- The beginning of the code of a function that has a group frame of so many words, or none.
abbrev pub with_frame : FunctionKind → (frame : Option ℕ) → Place
with_frame function frame = record { function = function; nests = OfFunction frame ∷ [] }

-- The beginning of a call, where no frame is taken yet.
abbrev pub entered : FunctionKind → Place
entered function = with_frame function None

-- The place after an operation, on the branch that it takes. A whole call leaves it as it is, and
-- no code is reached after the end of a function.
abbrev pub place_behind : Operation → (onward : Bool) → Place → Place
place_behind (Enter arguments) onward place = place
place_behind (Leave gives framed) onward place = place
place_behind Halt onward place = place
place_behind operation onward place =
    record place { nests = frames.behind operation onward place.nests }

-- A state of a call: its place; its values, the last one first; and the constants that the last two
-- are, if they are known.
pub record State : Type 0 where
  pub place : Place
  pub values : List Value
  pub constants : Constants

-- There are no values.
abbrev pub bare : Place → State
bare place = record { place = place; values = []; constants = no_constants }

-- The values after `takes` are taken, and `leaves` of which nothing is known are pushed.
abbrev pub changed : (takes leaves : ℕ) → List Value → List Value
changed takes leaves vs = replicate leaves Unknown ++ drop takes vs

-- What is known of a value that a processor knows by itself: it may be the address of a word of a
-- frame.
abbrev pub of_own : List Nest → OwnValue → Value
of_own nests (FrameAddress nesting word) = of_constant nests (Some (FrameWord nesting word))
of_own nests known = Unknown

-- The values after an operation, on the branch that it takes. What a group agrees on may be another
-- member's value.
abbrev pub values_behind : List Nest → Operation → (onward : Bool) → Constants → List Value
    → List Value
values_behind nests (Push n) onward known vs = of_number (word n) ∷ vs
values_behind nests (Get known) onward constants vs = of_own nests known ∷ vs
values_behind nests CopyLast onward known (v ∷ vs) = v ∷ v ∷ vs
values_behind nests (Check shared_alone) onward known (v ∷ vs) = checked shared_alone v ∷ vs
values_behind nests Agree onward known (v ∷ vs) = Unknown ∷ vs
values_behind nests (Binary sign turned) onward known (b ∷ a ∷ vs) =
    of_constant nests (joined_constant sign turned known.second known.last) ∷ vs
values_behind nests operation onward known vs =
    changed (takes operation) (leaves operation onward) vs

abbrev pub behind : Operation → (onward : Bool) → State → State
behind operation onward s = record {
  place = place_behind operation onward s.place;
  values = values_behind s.place.nests operation onward s.constants s.values;
  constants = constants_behind operation s.constants;
}

-- The values after a call, which has a result or none in place of its arguments.
abbrev pub behind_call : (arguments : ℕ) → (gives : Bool) → State → State
behind_call arguments gives s = record {
  place = s.place;
  values = changed arguments (results gives) s.values;
  constants = no_constants;
}

-- What an operation uses as an address is known to be one.
abbrev pub Asks : Operation → List Value → Type 0
Asks Read (a ∷ vs) = is_known false a ≡ true
Asks Write (v ∷ a ∷ vs) = is_known false a ≡ true
Asks (Combine by) (v ∷ a ∷ vs) = is_known true a ≡ true
Asks operation vs = Unit {0}

-- The word whose address an operation gets is in a frame of the call, a `start` is in `main`
-- outside of all others, and frames and parts are taken and left in their order. `EndsIn` says
-- where a function is left.
abbrev pub MayBeIn : Operation → Place → Type 0
MayBeIn (Get (FrameAddress nesting word)) place = has_word place.nests nesting word ≡ true
MayBeIn Begin place = place ≡ entered Main
MayBeIn (Leave gives framed) place = Unit {0}
MayBeIn operation place = frames.May operation place.nests

-- An operation may be where it is, and finds the values that it takes, and those that it looks at.
pub record May (operation : Operation) (s : State) : Type 0 where
  pub place : MayBeIn operation s.place
  pub values : needs operation ≤ length s.values
  pub looks : looks_at operation ≤ length s.values
  pub asks : Asks operation s.values

-- At least as much is known of one value as of another. The second definition says this of lists of
-- values.
abbrev pub IsAsGood : Value → Value → Type 0
IsAsGood v w = (shared_alone : Bool) → is_known shared_alone w ≡ true
    → is_known shared_alone v ≡ true

abbrev pub AreAsGood : List Value → List Value → Type 0
AreAsGood [] [] = Unit {0}
AreAsGood (v ∷ vs) (w ∷ ws) = IsAsGood v w × AreAsGood vs ws
AreAsGood vs ws = ⊥

-- What is required of a state holds of another one, which may know more.
pub record Grants (s asked : State) : Type 0 where
  pub place : s.place ≡ asked.place
  pub values : AreAsGood s.values asked.values
  pub constants : AreSameIn asked.constants s.constants
