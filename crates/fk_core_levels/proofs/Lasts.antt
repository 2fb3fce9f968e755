-- What is told of the last level is how that level was left.
use Rattle.std.proofs.Common.{◌≡◌, ℕ, zero, suc, ◌-◌, Bool, true, false, List, [], ◌∷◌, length, map, slice_get, Option, Some, ap, sym, ◌∙◌, refl, arith, eq-eqb}
use Rattle.std.specs.Prelude.{if◌then◌else◌}
use Rattle.fk_meaning_operation.specs.declared.operation.Operation.{Operation}
use Rattle.fk_meaning_operation.specs.declared.operation.Operation.TheVariants.{Split, Resume, Frame, Begin, End}
use Rattle.fk_core.specs.declared.op.CoreOp.{CoreOp}
use Rattle.fk_gen.specs.declared.placed.Levels.{Levels}
use Rattle.fk_gen.specs.Levels.{levels_in}
use Rattle.fk_core_levels.specs.Count.{read, here, after, opens, counts_from}
use Rattle.fk_core_levels.specs.Forks.{OpenPart, Parts, no_part, closed, come_to, fork_of, fork_at, fork_in, taken, leave, open_from, open_parts, level_forks}
use Rattle.fk_core_levels.specs.Levels.{AreLevels}

-- as many parts are open as are counted
closed_many : (held : List OpenPart) → length (closed held).parts ≡ length held - 1
closed_many [] = omega arith
closed_many (part ∷ held) = omega arith

come_many : (o : Option Operation) (held : Parts) → length (come_to o held).parts ≡ here (length held.parts) o
come_many (Some Resume) held = closed_many held.parts
come_many o held = refl

taken_many : (number words : ℕ) (held : Parts) → (taken number words held).parts ≡ held.parts
taken_many zero words held = refl
taken_many (suc number) words held = refl

leave_many : (o : Option Operation) (held : Parts) → length (leave o held).parts ≡ after (length held.parts) o
leave_many (Some (Split by)) held = refl
leave_many (Some (Frame number words)) held = ap length (taken_many number words held)
leave_many (Some Begin) held = refl
leave_many (Some End) held = refl
leave_many o held = refl

none_open : (opening : Bool) (held : List OpenPart) → length (if opening then [] else held) ≡ (if opening then 0 else length held)
none_open true held = refl
none_open false held = refl

open_many : (held : Parts) (opening : Bool) (ops : List CoreOp) → map (λ (o : List OpenPart). length o) (open_from held opening ops) ≡ counts_from (length held.parts) opening ops
open_many held opening [] = refl
open_many held opening (op ∷ ops) =
    let there = come_to (read op) held in
    let many : length there.parts ≡ here (length held.parts) (read op) = come_many (read op) held in
    let left : length (leave (read op) there).parts ≡ after (here (length held.parts) (read op)) (read op) = leave_many (read op) there ∙ ap (λ n. after n (read op)) many in
    let rest = map (λ (o : List OpenPart). length o) (open_from (leave (read op) there) (opens opening op) ops) in
    ap (λ n. n ∷ rest) (none_open opening there.parts ∙ ap (λ n. if opening then 0 else n) many)
    ∙ ap (λ ns. (if opening then 0 else here (length held.parts) (read op)) ∷ ns)
    (open_many (leave (read op) there) (opens opening op) ops ∙ ap (λ n. counts_from n (opens opening op) ops) left)

-- the innermost part has the highest number
last_fork : (held : List OpenPart) → fork_of held ≡ fork_at held (length held - 1)
last_fork [] = refl
last_fork (part ∷ held) =
    let same : length held ≡ length (part ∷ held) - 1 = omega arith in
    sym (ap (λ b. if b then part.fork else fork_at held (length (part ∷ held) - 1)) (eq-eqb (length held) (length (part ∷ held) - 1) same))

-- at each index
told_at : (saved : List Levels) (stacks : List (List OpenPart)) → map (λ (l : Levels). l.count) saved ≡ map (λ (o : List OpenPart). length o) stacks
    → map (λ (l : Levels). l.fork) saved ≡ map fork_of stacks → (i : ℕ)
    → (levels_in saved i).fork ≡ fork_in (slice_get stacks i) ((levels_in saved i).count - 1)
told_at [] [] counts forks i = refl
told_at [] (o ∷ stacks) counts forks i = absurd (cc)
told_at (l ∷ saved) [] counts forks i = absurd (cc)
told_at (l ∷ saved) (o ∷ stacks) counts forks zero =
    let count : l.count ≡ length o = cc in
    let fork : l.fork ≡ fork_of o = cc in
    fork ∙ last_fork o ∙ ap (λ n. fork_at o (n - 1)) (sym count)
told_at (l ∷ saved) (o ∷ stacks) counts forks (suc i) = told_at saved stacks (cc) (cc) i

pub levels_tell_forks : (core : List CoreOp) (saved : List Levels) → AreLevels core saved → (i : ℕ) → (levels_in saved i).fork ≡ level_forks core i ((levels_in saved i).count - 1)
levels_tell_forks core saved are i = told_at saved (open_parts core) (are.count ∙ sym (open_many no_part false core)) are.fork i
