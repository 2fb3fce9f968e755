-- How many levels of groups the frame of a call has at each index of a flat list. Code is laid in
-- the order of its text: the parts of a split lie after it, one after another, and the resume of
-- those who wait is right after the last of them.
use Rattle.std.specs.Prelude.{ℕ, suc, ◌-◌, Bool, true, false, List, [], ◌∷◌, Option, Some}
use Rattle.std.specs.Prelude.{if◌then◌else◌}
use Rattle.fk_meaning_operation.specs.declared.operation.Operation.{Operation}
use Rattle.fk_meaning_operation.specs.declared.operation.Operation.TheVariants.{Split, Resume}
use Rattle.fk_meaning_operation.specs.declared.operation.Operation.TheVariants.{Enter, Begin}
use Rattle.fk_core.specs.declared.op.CoreOp.{CoreOp}
use Rattle.fk_core.specs.Numbers.{operation_of}
use Rattle.fk_core.specs.Next.{is_jump}

abbrev pub read : CoreOp → Option Operation
read op = operation_of op.kind op.number

-- How many parts are open at an operation, and after it.
abbrev pub here : (parts : ℕ) → Option Operation → ℕ
here parts (Some Resume) = parts - 1
here parts operation = parts

abbrev pub after : (parts : ℕ) → Option Operation → ℕ
after parts (Some (Split by)) = suc parts
after parts operation = parts

-- From an enter up to the next jump the call that begins runs. Its frame has no level there.
abbrev pub enters : (opening : Bool) → Option Operation → Bool
enters opening (Some (Enter arguments)) = true
enters opening operation = opening

abbrev pub opens : (opening : Bool) → CoreOp → Bool
opens opening op = if is_jump op then false else enters opening (read op)

abbrev pub counts_from : (parts : ℕ) → (opening : Bool) → List CoreOp → List ℕ
counts_from parts opening [] = []
counts_from parts opening (op ∷ ops) =
    let count = here parts (read op) in
    (if opening then 0 else count)
    ∷ counts_from (after count (read op)) (opens opening op) ops

abbrev pub counts : List CoreOp → List ℕ
counts ops = counts_from 0 false ops

-- In how many parts the call is at an operation, and after it. The group of `start` is one of them,
-- and is around all others of `main`.
abbrev pub inside : (parts : ℕ) → Option Operation → ℕ
inside parts (Some Begin) = suc parts
inside parts (Some (Split by)) = suc parts
inside parts operation = parts

abbrev pub nests_from : (parts : ℕ) → (opening : Bool) → List CoreOp → List ℕ
nests_from parts opening [] = []
nests_from parts opening (op ∷ ops) =
    let nest = here parts (read op) in
    (if opening then 0 else nest)
    ∷ nests_from (inside nest (read op)) (opens opening op) ops

abbrev pub nests : List CoreOp → List ℕ
nests ops = nests_from 0 false ops
