-- Whole runs of a machine, and the schedule that is read off a run.
use Rattle.std.specs.Prelude.{ℕ, zero, suc, ◌==◌, List, [], ◌∷◌, ◌++◌, Option, Some, None, cond}
use Rattle.std.specs.Prelude.{if◌then◌else◌, map}
use Rattle.fk_image.specs.declared.Image.{Image}
use Rattle.fk_image.specs.Limits.{count_of_word}
use Rattle.fk_machine.specs.Commit.{commit_at}
use Rattle.fk_machine.specs.Cycle.{Machine, turns_of, is_running, cycle, machine_opening}

-- The machine after at most n cycles.
abbrev pub machine : Image → List ℕ → ℕ → ℕ → Machine
machine image input p zero = machine_opening image input p
machine image input p (suc n) = cycle (machine image input p n)

-- What n cycles print: the bytes of each cycle that was begun, in order.
abbrev pub output_of : Image → List ℕ → ℕ → ℕ → List ℕ
output_of image input p zero = []
output_of image input p (suc n) =
    cond (is_running (machine image input p n).stand)
    (output_of image input p n ++ (machine image input p (suc n)).shared.output)
    (output_of image input p n)

-- A machine after at most n cycles more.
abbrev pub after : ℕ → Machine → Machine
after zero m = m
after (suc n) m = cycle (after n m)

-- What it prints in these cycles: the bytes of each cycle that was begun, in order.
abbrev pub output_in : ℕ → Machine → List ℕ
output_in zero m = []
output_in (suc n) m =
    cond (is_running (after n m).stand)
    (output_in n m ++ (after (suc n) m).shared.output) (output_in n m)

-- What each hart committed in the last cycle: a count of operations and an event. Before the first
-- cycle nothing was committed.
abbrev pub committed : Machine → List (Option (ℕ × ℕ))
committed m = map (commit_at m.commits) m.ran

-- What the harts commit in n cycles more: one list for each cycle that was begun.
abbrev pub committed_in : ℕ → Machine → List (List (Option (ℕ × ℕ)))
committed_in zero m = []
committed_in (suc n) m =
    cond (is_running (after n m).stand)
    (committed_in n m ++ committed (after (suc n) m) ∷ []) (committed_in n m)

-- The count of an address in the commit table, 0 if it isn't there.
abbrev pub count_in : List (ℕ × ℕ) → ℕ → ℕ
count_in [] a = 0
count_in (commit ∷ commits) a = if commit.0 == a then count_of_word commit.1 else count_in commits a

abbrev pub count_of : Image → Option ℕ → ℕ
count_of image None = 0
count_of image (Some pc) = count_in image.commits.items pc

-- The round of a cycle: the count of the address that each hart ran, 0 for one that was not served.
abbrev pub round_of : Image → Machine → List ℕ
round_of image m = map (count_of image) (turns_of m).ran

-- The schedule that is read off n cycles: one round for each cycle that was begun.
abbrev pub rounds : Image → List ℕ → ℕ → ℕ → List (List ℕ)
rounds image input p zero = []
rounds image input p (suc n) =
    cond (is_running (machine image input p n).stand)
    (rounds image input p n ++ round_of image (machine image input p n) ∷ [])
    (rounds image input p n)
