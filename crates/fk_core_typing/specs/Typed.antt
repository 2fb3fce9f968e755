-- Well typed code, from its beginning on.
--
-- Each turn of a loop begins with the values with which the loop began, whatever it does in
-- between. Both branches of a choice come together with the same values. After a choice a call is
-- in the parts in which it was before. The same holds after a loop, but nothing follows a private
-- loop in its part. A call takes its arguments, and gives a result or none. The code after a
-- `break`, a `continue` or an end of the function is never reached. It is typed as if the code
-- before it went on into it.
use Rattle.std.specs.Prelude.{◌≡◌, ◌⊎◌, ℕ, Bool, true, false, length, Option, Some, None, is_some}
use Rattle.fk_meaning_operation.specs.declared.operation.Operation.{Operation}
use Rattle.fk_meaning_operation.specs.declared.operation.Operation.TheVariants.{Leave, Halt}
use Rattle.fk_layout_sizes.specs.Operations.{takes}
use Rattle.fk_meaning_forms.specs.Code.{Code, done, perform, choose, while, until, quit, break}
use Rattle.fk_meaning_forms.specs.Code.{continue, call, ends}
use Rattle.fk_core_flat.specs.Shape.{is_done}
use Rattle.fk_core_liveness.specs.declared.places.FunctionKind.{FunctionKind}
use Rattle.fk_core_liveness.specs.declared.places.FunctionKind.TheVariants.{Main, Called}
use Rattle.fk_core_typing.specs.Values.{Place, with_frame, entered, State, bare, behind}
use Rattle.fk_core_typing.specs.Values.{behind_call, May, Grants}

-- A loop: the state in which it begins and in which each turn does, and the one in which it is
-- left. Both have as many values. The turns of a private loop are in a part, which it leaves.
pub record Loop : Type 0 where
  pub turn : State
  pub left : State
  pub even : length left.values ≡ length turn.values

-- A state grants what the next turn of the loop around a place asks, and what is asked where that
-- loop is left. Without a loop none does.
abbrev pub GrantsTurn : (loop : Option Loop) → State → Type 0
GrantsTurn None s = ⊥
GrantsTurn (Some loop) s = Grants s loop.turn

abbrev pub GrantsLeft : (loop : Option Loop) → State → Type 0
GrantsLeft None s = ⊥
GrantsLeft (Some loop) s = Grants s loop.left

-- `main` halts, and a called function leaves, with its result or without. It gives its group frame
-- back if it has one, and is in none of its parts then.
abbrev pub EndsIn : Operation → Place → Type 0
EndsIn (Leave gives framed) place = (frame : Option ℕ) × (place ≡ with_frame (Called gives) frame)
    × (is_some frame ≡ framed)
EndsIn Halt place = place ≡ entered Main
EndsIn operation place = ⊥

-- For each binding: whether its function is `main`, and whether it gives a value; and the words of
-- its group frame, if it has one.
module _ (place_of : (binding : ℕ) → FunctionKind) (frame_of : (binding : ℕ) → Option ℕ) where
  -- Code begins in state s, and state `asked` is required after it.
  abbrev pub Typed : (loop : Option Loop) → State → Code ℕ → (asked : State) → Type 0
  Typed l s done e = Grants s e
  Typed l s (perform n op rest) e = May op s × Typed l (behind op true s) rest e
  Typed l s (choose n op x y rest) e =
      May op s × (together : State)
      × Typed l (behind op true s) x together × Typed l (behind op false s) y together
      × Typed l together rest e × (together.place ≡ s.place)
  Typed l s (while test body step rest) e =
      (loop : Loop) × Grants s loop.turn
      × Typed (Some loop) loop.turn test loop.turn × Typed (Some loop) loop.turn body loop.turn
      × Typed (Some loop) loop.turn step loop.turn × Typed l loop.left rest e
      × ((loop.left.place ≡ loop.turn.place) ⊎ (is_done rest ≡ true))
  Typed l s (until body test rest) e =
      (loop : Loop) × Grants s loop.turn
      × Typed (Some loop) loop.turn body loop.turn × Typed (Some loop) loop.turn test loop.turn
      × Typed l loop.left rest e
      × ((loop.left.place ≡ loop.turn.place) ⊎ (is_done rest ≡ true))
  Typed l s (quit n op rest) e = May op s × GrantsLeft l (behind op false s)
      × Typed l (behind op true s) rest e
  Typed l s (break rest) e = GrantsLeft l s × Typed l s rest e
  Typed l s (continue rest) e = GrantsTurn l s × Typed l s rest e
  Typed l s (call n op f opening rest) e =
      May op s × (gives : Bool) × (place_of f ≡ Called gives)
      × Typed None (bare (entered (Called gives))) opening
      (bare (with_frame (Called gives) (frame_of f)))
      × Typed l (behind_call (takes op) gives s) rest e
  Typed l s (ends n op rest) e = May op s × EndsIn op s.place × Typed l (behind op true s) rest e
  Typed l s code e = ⊥

  -- The code of a function begins without values, after its frame is taken.
  abbrev pub IsTyped : (binding : ℕ) → Code ℕ → Type 0
  IsTyped binding code = (end : State)
      × Typed None (bare (with_frame (place_of binding) (frame_of binding))) code end

  abbrev pub AreTyped : (bodies : (binding : ℕ) → Code ℕ) → Type 0
  AreTyped bodies = (binding : ℕ) → IsTyped binding (bodies binding)
