-- Code that is well typed, of functions of which some are called.
use Rattle.std.proofs.Common.{◌≡◌, inl, inr, ℕ, zero, suc, ◌-◌, ◌^◌, ◌≤◌, true, false, List, [], ◌∷◌, length, Option, None, Some, refl, arith}
use Rattle.fk_num.specs.declared.operator.Op.TheVariants as f
use Rattle.fk_meaning_operation.specs.declared.operation.Operation.TheVariants as o
use Rattle.fk_meaning_operation.specs.declared.operation.Operation.{Operation}
use Rattle.fk_meaning_operation.specs.declared.operation.OwnValue.TheVariants as n
use Rattle.fk_meaning_operation.specs.declared.operation.SplitKind.TheVariants as p
use Rattle.fk_meaning_operation.specs.declared.operation.Variable.TheVariants as v
use Rattle.fk_meaning_forms.specs.Code.{Code, done, perform, choose, while, quit, break, call, ends}
use Rattle.fk_core_liveness.specs.declared.places.FunctionKind.{FunctionKind}
use Rattle.fk_core_liveness.specs.declared.places.FunctionKind.TheVariants.{Main, Called}
use Rattle.fk_core_typing.specs.declared.constants.Constant.TheVariants.{Number, FrameWord}
use Rattle.fk_core_typing.specs.AddressValues.{constants, no_constants, joined_constant}
use Rattle.fk_core_typing.specs.LocalDepths.{needs}
use Rattle.fk_sim_block.specs.Suits.{looks_at}
use Rattle.fk_lockstep_frames.specs.Nests.{OfFunction, OfPart}
use Rattle.fk_core_typing.specs.Values.{Value, Unknown, Shared, with_frame, entered, State, bare, behind, MayBeIn, Asks, May, Grants}
use Rattle.fk_core_typing.specs.Typed.{Loop, Typed, IsTyped}
use Rattle.fk_core_typing.proofs.Granting.{none_asked, good_as_itself, grants_itself}

-- function 0 is `main`. All others give a value, and take a frame of 2 words from function 2 on
abbrev place_of : ℕ → FunctionKind
place_of zero = Main
place_of (suc f) = Called true

abbrev frame_of : ℕ → Option ℕ
frame_of zero = None
frame_of (suc zero) = None
frame_of (suc (suc f)) = Some 2

abbrev get : ℕ → Operation
get i = o.Get (n.Value (v.Private i))

pub may : (operation : Operation) (s : State) → MayBeIn operation s.place → (needs operation ≤ length s.values) × (looks_at operation ≤ length s.values)
    → Asks operation s.values → May operation s
may operation s place few asks = record { place = place; values = few.0; looks = few.1; asks = asks }

abbrev pub at : FunctionKind → List Value → State
at place values = record { place = entered place; values = values; constants = no_constants }

-- x.b = c; return; of a struct at the beginning of shared data
abbrev member : Code ℕ
member =
    perform 0 (o.Push 0x10000000) (perform 1 (o.Push 4) (perform 2 (o.Binary f.Add false)
    (perform 3 (get 0) (perform 4 o.Write (perform 5 o.DropLast (ends 6 o.Halt done))))))

-- what a state with so many values is asked
values : (place : FunctionKind) (vs : List Value) → Grants (at place vs) (at place vs)
values place vs = grants_itself (at place vs)

member_is_typed : IsTyped place_of frame_of 0 member
member_is_typed = (
  at Main [],
  (
    may _ _ tt (omega arith, omega arith) tt,
    (
      may _ _ tt (omega arith, omega arith) tt,
      (
        may _ _ tt (omega arith, omega arith) tt,
        (
          may _ _ tt (omega arith, omega arith) tt,
          (
            may _ _ tt (omega arith, omega arith) refl,
            (
              may _ _ tt (omega arith, omega arith) tt,
              (may _ _ tt (omega arith, omega arith) tt, refl, values Main []),
            ),
          ),
        ),
      ),
    ),
  ),
)

-- while (*p) { x = f(*p, p && c); break; } return c; of a function with two parameters
abbrev read : ℕ → Code ℕ → Code ℕ
read i rest = perform i (get 0) (perform (suc i) (o.Check false) (perform (suc (suc i)) o.Read rest))

reads : (rest : Code ℕ) (asked : State) (l : Option Loop) (i : ℕ) (place : FunctionKind) (vs : List Value)
    → Typed place_of frame_of l (at place (Unknown ∷ vs)) rest asked → Typed place_of frame_of l (at place vs) (read i rest) asked
reads rest asked l i place vs more = (may _ _ tt (omega arith, omega arith) tt, (may _ _ tt (omega arith, omega arith) tt, (may _ _ tt (omega arith, omega arith) refl, more)))

-- the 0 that was pushed last is nothing that is asked
forgotten : Grants
    (record { place = entered (Called true); values = Unknown ∷ Unknown ∷ Shared ∷ []; constants = constants (Some (Number 0)) None })
    (at (Called true) (Unknown ∷ Unknown ∷ Shared ∷ []))
forgotten = record { place = refl; values = good_as_itself (Unknown ∷ Unknown ∷ Shared ∷ []); constants = none_asked _ }

abbrev none : State
none = at (Called true) []

abbrev two : State
two = at (Called true) (Unknown ∷ Unknown ∷ Shared ∷ [])

-- who leaves the loop goes on as at the beginning of a turn
abbrev turns : Loop
turns = record { turn = none; left = none; even = refl }

test_is_typed : Typed place_of frame_of (Some turns) none (read 0 (quit 3 (o.Branch true) done)) none
test_is_typed =
    reads (quit 3 (o.Branch true) done) none (Some turns) 0 (Called true) [] (may _ _ tt (omega arith, omega arith) tt, grants_itself none, grants_itself none)

abbrev assigned : Code ℕ
assigned = perform 15 o.Write (perform 16 o.DropLast (break done))

assigned_is_typed : Typed place_of frame_of (Some turns) (at (Called true) (Unknown ∷ Shared ∷ [])) assigned none
assigned_is_typed = (may _ _ tt (omega arith, omega arith) refl, (may _ _ tt (omega arith, omega arith) tt, (grants_itself none, grants_itself none)))

abbrev call_with : Code ℕ
call_with =
    choose 9 (o.Branch true)
    (perform 10 (get 1) (perform 11 (o.Push 0) (perform 12 (o.Binary f.Ne false) done)))
    (perform 13 (o.Push 0) done)
    (call 14 (o.Enter 2) 1 done assigned)

call_is_typed : Typed place_of frame_of (Some turns) (at (Called true) (Unknown ∷ Unknown ∷ Shared ∷ [])) call_with none
call_is_typed = (
  may _ _ tt (omega arith, omega arith) tt,
  two,
  (may _ _ tt (omega arith, omega arith) tt, (may _ _ tt (omega arith, omega arith) tt, (may _ _ tt (omega arith, omega arith) tt, grants_itself two))),
  (may _ _ tt (omega arith, omega arith) tt, forgotten),
  (may _ _ tt (omega arith, omega arith) tt, true, refl, grants_itself none, assigned_is_typed),
  refl,
)

abbrev loop : Code ℕ
loop =
    while
    (read 0 (quit 3 (o.Branch true) done))
    (perform 4 (o.Push 0x10000000)
    (read 5 (perform 8 (get 0) call_with)))
    done
    (perform 17 (get 1) (ends 18 (o.Leave true false) done))

loop_is_typed : IsTyped place_of frame_of 1 loop
loop_is_typed = (
  none,
  (
    turns,
    grants_itself none,
    test_is_typed,
    (may _ _ tt (omega arith, omega arith) tt, (may _ _ tt (omega arith, omega arith) tt, (may _ _ tt (omega arith, omega arith) tt, (may _ _ tt (omega arith, omega arith) refl, (may _ _ tt (omega arith, omega arith) tt, call_is_typed))))),
    grants_itself none,
    (may _ _ tt (omega arith, omega arith) tt, (may _ _ tt (omega arith, omega arith) tt, (None, refl, refl), grants_itself none)),
    inl refl,
  ),
)

-- start (2) { if (c) barrier; farm; seq; } return; where the group agrees on c
abbrev spread : Code ℕ
spread = choose 6 o.Farm done done (perform 7 (o.Meet true) (choose 8 o.Seq done done (perform 9 (o.Meet true) (perform 10 o.End done))))

-- in the group of `start`
abbrev inside : State
inside = bare (record { function = Main; nests = OfPart true None ∷ OfFunction None ∷ [] })

spread_is_typed : Typed place_of frame_of None inside spread (at Main [])
spread_is_typed = (
  may _ _ tt (omega arith, omega arith) tt,
  inside,
  grants_itself inside,
  grants_itself inside,
  (may _ _ tt (omega arith, omega arith) tt, (may _ _ tt (omega arith, omega arith) tt, inside, grants_itself inside, grants_itself inside, (may _ _ tt (omega arith, omega arith) tt, (may _ _ tt (omega arith, omega arith) tt, values Main [])), refl)),
  refl,
)

abbrev in_group : Code ℕ
in_group = perform 2 (get 0) (perform 3 o.Agree (choose 4 (o.Branch true) (perform 5 (o.Meet false) done) done spread))

in_group_is_typed : Typed place_of frame_of None inside in_group (at Main [])
in_group_is_typed = (
  may _ _ tt (omega arith, omega arith) tt,
  (may _ _ tt (omega arith, omega arith) tt, (may _ _ tt (omega arith, omega arith) tt, inside, (may _ _ tt (omega arith, omega arith) tt, grants_itself inside), grants_itself inside, spread_is_typed, refl)),
)

abbrev grouped : Code ℕ
grouped = perform 0 (o.Push 2) (choose 1 o.Begin in_group done (perform 11 o.Resume (ends 12 o.Halt done)))

grouped_is_typed : IsTyped place_of frame_of 0 grouped
grouped_is_typed = (
  at Main [],
  (
    may _ _ tt (omega arith, omega arith) tt,
    (
      may _ _ refl (omega arith, omega arith) tt,
      at Main [],
      in_group_is_typed,
      values Main [],
      (may _ _ tt (omega arith, omega arith) tt, (may _ _ tt (omega arith, omega arith) tt, refl, values Main [])),
      refl,
    ),
  ),
)

-- while (c) ; of a group, which splits there: who leaves the loop goes on outside its part
abbrev deeper : State
deeper = bare (record { function = Main; nests = OfPart false None ∷ OfPart true None ∷ OfFunction None ∷ [] })

abbrev private_loop : Code ℕ
private_loop = choose 0 (o.Split p.Loop) (while (perform 1 (get 0) (quit 2 o.Shrink done)) done done done) done (perform 3 o.Resume done)

private_loop_is_typed : Typed place_of frame_of None inside private_loop inside
private_loop_is_typed = (
  may _ _ tt (omega arith, omega arith) tt,
  inside,
  (
    record { turn = deeper; left = inside; even = refl },
    grants_itself deeper,
    (may _ _ tt (omega arith, omega arith) tt, (may _ _ (tt, refl) (omega arith, omega arith) tt, grants_itself inside, grants_itself deeper)),
    grants_itself deeper,
    grants_itself deeper,
    grants_itself inside,
    inr refl,
  ),
  grants_itself inside,
  (may _ _ tt (omega arith, omega arith) tt, grants_itself inside),
  refl,
)

-- a function with a frame of 2 words, the second of which becomes 5, and a call of it in a group
abbrev framed : State
framed = bare (with_frame (Called true) (Some 2))

abbrev second_word : Code ℕ
second_word = perform 4 (o.Get (n.FrameAddress 0 1)) (perform 5 (o.Push 5) (perform 6 o.Write (ends 7 (o.Leave true true) done)))

second_word_is_typed : IsTyped place_of frame_of 2 second_word
second_word_is_typed = (
  framed,
  (
    may _ _ refl (omega arith, omega arith) tt,
    (
      may _ _ tt (omega arith, omega arith) tt,
      (may _ _ tt (omega arith, omega arith) refl, (may _ _ tt (omega arith, omega arith) tt, (Some 2, refl, refl), grants_itself framed)),
    ),
  ),
)

abbrev calls_it : Code ℕ
calls_it = call 2 (o.Enter 0) 2 (perform 3 (o.Frame 0 2) done) (perform 8 o.DropLast (perform 9 o.End done))

calls_it_is_typed : Typed place_of frame_of None inside calls_it (at Main [])
calls_it_is_typed = (
  may _ _ tt (omega arith, omega arith) tt,
  true,
  refl,
  (may _ _ (refl, refl) (omega arith, omega arith) tt, grants_itself framed),
  (may _ _ tt (omega arith, omega arith) tt, (may _ _ tt (omega arith, omega arith) tt, values Main [])),
)

-- x.b = 5; of a struct that is the frame: its second word
abbrev member_of_frame : Code ℕ
member_of_frame =
    perform 4 (o.Get (n.FrameAddress 0 0)) (perform 5 (o.Push 4) (perform 6 (o.Binary f.Add false)
    (perform 7 (o.Push 5) (perform 8 o.Write (ends 9 (o.Leave true true) done)))))

member_of_frame_is_typed : IsTyped place_of frame_of 2 member_of_frame
member_of_frame_is_typed = (
  framed,
  (
    may _ _ refl (omega arith, omega arith) tt,
    (
      may _ _ tt (omega arith, omega arith) tt,
      (
        may _ _ tt (omega arith, omega arith) tt,
        (
          may _ _ tt (omega arith, omega arith) tt,
          (may _ _ tt (omega arith, omega arith) refl, (may _ _ tt (omega arith, omega arith) tt, (Some 2, refl, refl), grants_itself framed)),
        ),
      ),
    ),
  ),
)

-- after the address of a word of that frame is got, and a number of bytes is added to it
abbrev added : (word bytes : ℕ) → State
added word bytes =
    behind (o.Binary f.Add false) true (behind (o.Push bytes) true (behind (o.Get (n.FrameAddress 0 word)) true framed))

to_last_word : added 0 4 ≡ record framed { values = Shared ∷ []; constants = constants (Some (FrameWord 0 1)) None }
to_last_word = refl

-- nothing is known of what comes after the frame, and of what isn't the beginning of a word
past_the_frame : (added 0 8).values ≡ Unknown ∷ []
past_the_frame = refl

past_the_frame_from_the_second : (added 1 4).values ≡ Unknown ∷ []
past_the_frame_from_the_second = refl

within_a_word : (added 0 6).values ≡ Unknown ∷ []
within_a_word = refl

before_the_frame : (added 0 (2 ^ 32 - 4)).values ≡ Unknown ∷ []
before_the_frame = refl

-- a member of a member; other operators make no address
twice_behind : joined_constant f.Add false (joined_constant f.Add false (Some (FrameWord 3 10)) (Some (Number 12))) (Some (Number 8)) ≡ Some (FrameWord 3 15)
twice_behind = refl

subtracted : joined_constant f.Sub false (Some (FrameWord 3 10)) (Some (Number 12)) ≡ None
subtracted = refl

of_two_words : joined_constant f.Add false (Some (FrameWord 3 10)) (Some (FrameWord 3 10)) ≡ None
of_two_words = refl

-- a frame of a part, beside that of the function around it; none is known where none was taken
abbrev nested : State
nested = bare (record { function = Called true; nests = OfPart false (Some 1) ∷ OfPart false None ∷ OfFunction (Some 2) ∷ [] })

abbrev got : (nesting word : ℕ) → List Value
got nesting word = (behind (o.Get (n.FrameAddress nesting word)) true nested).values

of_the_part : got 2 0 ≡ Shared ∷ []
of_the_part = refl

past_that_of_the_part : got 2 1 ≡ Unknown ∷ []
past_that_of_the_part = refl

of_the_part_around : got 1 0 ≡ Unknown ∷ []
of_the_part_around = refl

of_the_function : got 0 1 ≡ Shared ∷ []
of_the_function = refl
