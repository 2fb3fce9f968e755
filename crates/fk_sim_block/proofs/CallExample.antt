-- A list that suits frames, with a call whose function takes a group frame in its opening, the operations before the jump to it, and gives it back.
use Rattle.std.proofs.Common.{◌≡◌, ℕ, zero, suc, ◌+◌, ◌≤◌, List, [], ◌∷◌, Bool, Some, None, true, false, ap, subst, ◌∙◌, arith, refl}
use Rattle.std.specs.Prelude.{◌==◌, ◌&&◌, ◌||◌, slice_get, if◌then◌else◌}
use Rattle.std.proofs.lemmas.Bool.{and_parts, eqb-true}
use Rattle.fk_meaning_operation.specs.declared.operation.OwnValue.TheVariants.{Value, FrameAddress}
use Rattle.fk_meaning_operation.specs.declared.operation.Operation.{Operation}
use Rattle.fk_meaning_operation.specs.declared.operation.Operation.TheVariants.{Push, Get, DropLast, Leave, Enter, Halt, Frame}
use Rattle.fk_meaning_operation.specs.declared.operation.Variable.TheVariants.{Private}
use Rattle.fk_num.specs.Word.{Memory}
use Rattle.fk_meaning_store.specs.Store.{address_of}
use Rattle.fk_meaning.specs.Processor.{Call}
use Rattle.fk_core.specs.declared.op.CoreOp.{CoreOp}
use Rattle.fk_core.specs.Next.{is_jump, follows}
use Rattle.fk_core.specs.Numbers.{operation_of}
use Rattle.fk_sim_block.specs.Next.{OpAt}
use Rattle.fk_sim_block.specs.Stands.{Frames, Places, HasRoom, FrameInMemory, HaveGroupFrames, ahead}
use Rattle.fk_sim_block.specs.Suits.{Flows, TakesFrame, Calls, Fits, Suits, nothing, writes}

abbrev pushes : CoreOp
pushes = record { kind = 1; site = 0; number = 7; target = 0; depth = 0 }

abbrev enters : CoreOp
enters = record { kind = 22; site = 0; number = 1; target = 0; depth = 1 }

abbrev takes : CoreOp
takes = record { kind = 25; site = 0; number = 258; target = 0; depth = 0 }

abbrev addresses : CoreOp
addresses = record { kind = 2; site = 0; number = 1162; target = 0; depth = 0 }

abbrev drops : CoreOp
drops = record { kind = 4; site = 0; number = 0; target = 0; depth = 1 }

abbrev jumps : CoreOp
jumps = record { kind = 0; site = 0; number = 0; target = 8; depth = 0 }

abbrev halts : CoreOp
halts = record { kind = 34; site = 0; number = 0; target = 0; depth = 0 }

abbrev gets : CoreOp
gets = record { kind = 2; site = 0; number = 0; target = 0; depth = 0 }

abbrev leaves : CoreOp
leaves = record { kind = 11; site = 0; number = 3; target = 0; depth = 1 }

-- indices 2 to 4 are the opening of the function at 8, which gives its argument; its caller goes on at 6
abbrev core : List CoreOp
core = pushes ∷ enters ∷ takes ∷ addresses ∷ drops ∷ jumps ∷ drops ∷ halts ∷ gets ∷ leaves ∷ []

abbrev of_main : ℕ → Bool
of_main i = (i == 0) || ((i == 1) || ((i == 6) || (i == 7)))

-- where the argument is kept
abbrev has_argument : ℕ → Bool
has_argument i = (i == 2) || ((i == 3) || ((i == 4) || ((i == 5) || (i == 8))))

-- where the function has its group frame
abbrev has_address : ℕ → Bool
has_address i = (i == 3) || ((i == 4) || ((i == 5) || ((i == 8) || (i == 9))))

abbrev frames : Frames
frames = record {
  keeps = λ index word. has_argument index && (word == 0);
  is_main = of_main;
  group = has_address;
  of_file = 0;
}

none_ahead : (of_main : Bool) → ahead frames of_main ≡ 0
none_ahead true = refl
none_ahead false = refl

room : (index values : ℕ) → values ≤ 56 → HasRoom frames index values
room index values few =
    let none = none_ahead (of_main index) in
    record {
      header = omega (arith, none, few);
      kept = λ word k. (
          let first : word ≡ 0 = eqb-true word 0 (and_parts (has_argument index) (word == 0) k).1 in
          omega (arith, none, few, first)
          );
    }

-- what is so of each operation is so of the one at an index
each : (P : ℕ → CoreOp → Operation → Type 0) → P 0 pushes (Push 7) → P 1 enters (Enter 1) → P 2 takes (Frame 0 2) → P 3 addresses (Get (FrameAddress 0 1)) → P 4 drops DropLast → P 6 drops DropLast → P 7 halts Halt → P 8 gets (Get (Value (Private 0))) → P 9 leaves (Leave true true)
    → (i : ℕ) (op : CoreOp) (operation : Operation) → OpAt core i op operation → P i op operation
each P a b c d e f g h j zero op operation at =
    let same : pushes ≡ op = cc in
    let reads : operation_of 1 7 ≡ Some operation = ap (λ o. operation_of o.kind o.number) same ∙ at.is_read in
    let is : Push 7 ≡ operation = cc in
    subst (λ x. P 0 op x) is (subst (λ x. P 0 x (Push 7)) same a)
each P a b c d e f g h j (suc zero) op operation at =
    let same : enters ≡ op = cc in
    let reads : operation_of 22 1 ≡ Some operation = ap (λ o. operation_of o.kind o.number) same ∙ at.is_read in
    let is : Enter 1 ≡ operation = cc in
    subst (λ x. P 1 op x) is (subst (λ x. P 1 x (Enter 1)) same b)
each P a b c d e f g h j (suc (suc zero)) op operation at =
    let same : takes ≡ op = cc in
    let reads : operation_of 25 258 ≡ Some operation = ap (λ o. operation_of o.kind o.number) same ∙ at.is_read in
    let is : Frame 0 2 ≡ operation = cc in
    subst (λ x. P 2 op x) is (subst (λ x. P 2 x (Frame 0 2)) same c)
each P a b c d e f g h j (suc (suc (suc zero))) op operation at =
    let same : addresses ≡ op = cc in
    let reads : operation_of 2 1162 ≡ Some operation = ap (λ o. operation_of o.kind o.number) same ∙ at.is_read in
    let is : Get (FrameAddress 0 1) ≡ operation = cc in
    subst (λ x. P 3 op x) is (subst (λ x. P 3 x (Get (FrameAddress 0 1))) same d)
each P a b c d e f g h j (suc (suc (suc (suc zero)))) op operation at =
    let same : drops ≡ op = cc in
    let reads : operation_of 4 0 ≡ Some operation = ap (λ o. operation_of o.kind o.number) same ∙ at.is_read in
    let is : DropLast ≡ operation = cc in
    subst (λ x. P 4 op x) is (subst (λ x. P 4 x DropLast) same e)
each P a b c d e f g h j (suc (suc (suc (suc (suc zero))))) op operation at =
    let same : jumps ≡ op = cc in
    let jump : true ≡ false = ap is_jump same ∙ at.no_jump in
    absurd (cc)
each P a b c d e f g h j (suc (suc (suc (suc (suc (suc zero)))))) op operation at =
    let same : drops ≡ op = cc in
    let reads : operation_of 4 0 ≡ Some operation = ap (λ o. operation_of o.kind o.number) same ∙ at.is_read in
    let is : DropLast ≡ operation = cc in
    subst (λ x. P 6 op x) is (subst (λ x. P 6 x DropLast) same f)
each P a b c d e f g h j (suc (suc (suc (suc (suc (suc (suc zero))))))) op operation at =
    let same : halts ≡ op = cc in
    let reads : operation_of 34 0 ≡ Some operation = ap (λ o. operation_of o.kind o.number) same ∙ at.is_read in
    let is : Halt ≡ operation = cc in
    subst (λ x. P 7 op x) is (subst (λ x. P 7 x Halt) same g)
each P a b c d e f g h j (suc (suc (suc (suc (suc (suc (suc (suc zero)))))))) op operation at =
    let same : gets ≡ op = cc in
    let reads : operation_of 2 0 ≡ Some operation = ap (λ o. operation_of o.kind o.number) same ∙ at.is_read in
    let is : Get (Value (Private 0)) ≡ operation = cc in
    subst (λ x. P 8 op x) is (subst (λ x. P 8 x (Get (Value (Private 0)))) same h)
each P a b c d e f g h j (suc (suc (suc (suc (suc (suc (suc (suc (suc zero))))))))) op operation at =
    let same : leaves ≡ op = cc in
    let reads : operation_of 11 3 ≡ Some operation = ap (λ o. operation_of o.kind o.number) same ∙ at.is_read in
    let is : Leave true true ≡ operation = cc in
    subst (λ x. P 9 op x) is (subst (λ x. P 9 x (Leave true true)) same j)
each P a b c d e f g h j (suc (suc (suc (suc (suc (suc (suc (suc (suc (suc i)))))))))) op operation at = absurd (let s = at.stands in cc)

pushes_on : (onward : Bool) → Flows core frames (writes (Push 7)) 0 (follows core (Push 7) 0 0 [] onward).at
pushes_on true = record { main = refl; kept = λ word k free. absurd (cc); group = refl }
pushes_on false = record { main = refl; kept = λ word k free. absurd (cc); group = refl }

takes_on : TakesFrame core frames 0 2 3
takes_on = record { main = refl; kept = λ word k. k; none = λ own. refl; group = refl }

addresses_on : (onward : Bool) → Flows core frames (writes (Get (FrameAddress 0 1))) 3 (follows core (Get (FrameAddress 0 1)) 3 0 [] onward).at
addresses_on true = record { main = refl; kept = λ word k free. k; group = refl }
addresses_on false = record { main = refl; kept = λ word k free. k; group = refl }

drops_on : (onward : Bool) → Flows core frames (writes DropLast) 4 (follows core DropLast 4 0 [] onward).at
drops_on true = record { main = refl; kept = λ word k free. k; group = refl }
drops_on false = record { main = refl; kept = λ word k free. k; group = refl }

result_goes : (onward : Bool) → Flows core frames (writes DropLast) 6 (follows core DropLast 6 0 [] onward).at
result_goes true = record { main = refl; kept = λ word k free. absurd (cc); group = refl }
result_goes false = record { main = refl; kept = λ word k free. absurd (cc); group = refl }

gives_on : (onward : Bool) → Flows core frames (writes (Get (Value (Private 0)))) 8 (follows core (Get (Value (Private 0))) 8 0 [] onward).at
gives_on true = record { main = refl; kept = λ word k free. absurd (cc); group = refl }
gives_on false = record { main = refl; kept = λ word k free. absurd (cc); group = refl }

-- the opening runs in the frame of the function
calls : Calls core frames 1 1 1
calls = record {
  few = omega arith;
  inside = refl;
  none = refl;
  kept = λ word k. (let first : word ≡ 0 = eqb-true word 0 k in omega (arith, first));
  back = record { main = refl; kept = λ word k free. absurd (cc); group = refl };
  room = room 6 1 (omega arith);
}

jumps_flow : (i : ℕ) (op : CoreOp) → slice_get core i ≡ Some op → is_jump op ≡ true → Flows core frames nothing i op.target
jumps_flow zero op e f = let same : pushes ≡ op = cc in let g : false ≡ true = ap is_jump same ∙ f in absurd (cc)
jumps_flow (suc zero) op e f = let same : enters ≡ op = cc in let g : false ≡ true = ap is_jump same ∙ f in absurd (cc)
jumps_flow (suc (suc zero)) op e f = let same : takes ≡ op = cc in let g : false ≡ true = ap is_jump same ∙ f in absurd (cc)
jumps_flow (suc (suc (suc zero))) op e f = let same : addresses ≡ op = cc in let g : false ≡ true = ap is_jump same ∙ f in absurd (cc)
jumps_flow (suc (suc (suc (suc zero)))) op e f = let same : drops ≡ op = cc in let g : false ≡ true = ap is_jump same ∙ f in absurd (cc)
jumps_flow (suc (suc (suc (suc (suc zero))))) op e f =
    let same : jumps ≡ op = cc in
    subst (λ o. Flows core frames nothing 5 o.target) same (record { main = refl; kept = λ word k free. k; group = refl })
jumps_flow (suc (suc (suc (suc (suc (suc zero)))))) op e f = let same : drops ≡ op = cc in let g : false ≡ true = ap is_jump same ∙ f in absurd (cc)
jumps_flow (suc (suc (suc (suc (suc (suc (suc zero))))))) op e f = let same : halts ≡ op = cc in let g : false ≡ true = ap is_jump same ∙ f in absurd (cc)
jumps_flow (suc (suc (suc (suc (suc (suc (suc (suc zero)))))))) op e f = let same : gets ≡ op = cc in let g : false ≡ true = ap is_jump same ∙ f in absurd (cc)
jumps_flow (suc (suc (suc (suc (suc (suc (suc (suc (suc zero))))))))) op e f = let same : leaves ≡ op = cc in let g : false ≡ true = ap is_jump same ∙ f in absurd (cc)
jumps_flow (suc (suc (suc (suc (suc (suc (suc (suc (suc (suc i)))))))))) op e f = absurd (cc)

pub suits : Suits core frames 0
suits = record {
  begins = refl;
  none = refl;
  few = omega arith;
  jumps = jumps_flow;
  fits =
      each (λ i op operation. Fits core frames i op operation)
      (record { values = omega arith; few = omega arith; room = room 0 0 (omega arith); place = room 0 1 (omega arith); goes_on = pushes_on })
      (record { values = omega arith; few = omega arith; room = room 1 1 (omega arith); place = tt; goes_on = calls })
      (record { values = omega arith; few = omega arith; room = room 2 0 (omega arith); place = omega arith; goes_on = takes_on })
      (record { values = omega arith; few = omega arith; room = room 3 0 (omega arith); place = ((refl, omega arith), room 3 1 (omega arith)); goes_on = addresses_on })
      (record { values = omega arith; few = omega arith; room = room 4 1 (omega arith); place = tt; goes_on = drops_on })
      (record { values = omega arith; few = omega arith; room = room 6 1 (omega arith); place = tt; goes_on = result_goes })
      (record { values = omega arith; few = omega arith; room = room 7 0 (omega arith); place = tt; goes_on = refl })
      (record { values = omega arith; few = omega arith; room = room 8 0 (omega arith); place = (refl, room 8 1 (omega arith)); goes_on = gives_on })
      (record { values = omega arith; few = omega arith; room = room 9 1 (omega arith); place = refl; goes_on = refl });
}

-- ---- in memory, behind the frame: the register has the address of word 21, and the argument of the call is 5

abbrev pub places : Places
places = record { block = λ index. index; returns = λ index. None; frames = frames }

abbrev pub memory : Memory
memory word = if word == 71 then 5 else 0

abbrev pub call : Call
call = record { values = []; privates = λ word. 5; frames = λ number. 21 }

pub in_frame : FrameInMemory places memory 1 4 call
in_frame = record {
  home = refl;
  values = tt;
  privates = λ word k. (let first : word ≡ 0 = eqb-true word 0 k in ap (λ w. memory (71 + w)) first);
}

-- `main` has no group frame, and waits at index 6
pub has_group_frame : HaveGroupFrames frames memory (address_of 21) (4 ∷ 6 ∷ []) (call ∷ call ∷ [])
has_group_frame = (record { within = omega arith; is = refl }, (tt, tt))
