-- Runs of short lists of operations that all processors go through, and what is known of them.
use Rattle.std.proofs.Common.{◌≡◌, ℕ, ◌-◌, Bool, true, false, ◌&&◌, List, [], ◌∷◌, ◌++◌, length, map, Option, Some, None, refl}
use Rattle.std.specs.Prelude.{◌^◌, replicate}
use Rattle.fk_num.specs.Word.{signed_line}
use Rattle.fk_num.specs.declared.operator.Op.TheVariants.{Mul, DivU, RemU, Ne}
use Rattle.fk_meaning_operation.specs.declared.operation.Operation.{Operation}
use Rattle.fk_meaning_operation.specs.declared.operation.Operation.TheVariants.{Push, Get, DropLast, Apply, Binary, Index, Check, Read, Write, Combine, PrintNumber, Enter, Begin, Agree, Frame, Split, End, Resume, Halt}
use Rattle.fk_meaning_operation.specs.declared.operation.OwnValue.TheVariants.{Rank, GroupNumber, GroupSize, Processors}
use Rattle.fk_meaning_operation.specs.declared.operation.Unary.TheVariants.{Negate}
use Rattle.fk_meaning_operation.specs.declared.operation.Multiprefix.TheVariants.{MpAdd}
use Rattle.fk_meaning_operation.specs.declared.operation.SplitKind.TheVariants.{Fork}
use Rattle.fk_meaning_store.specs.Store.{address_of}
use Rattle.fk_meaning.specs.Processor.{Setting, setting_of}
use Rattle.fk_meaning.specs.Round.{Step, State, Fault, result, is_allowed, is_possible, cut}
use Rattle.fk_meaning.specs.Schedule.{Schedule, SourceFinished, SourceFaulted, opening, run, stand_of}

-- what is left is a list of operations. A site is the number of operations behind it
abbrev next : List Operation → Option (Step (List Operation))
next [] = None
next (operation ∷ more) = Some (record { operation = operation; site = length more; rest = λ onward. more })

abbrev setting : ℕ → (globals : List ℕ) → Setting
setting p globals = setting_of p globals []

abbrev start : ℕ → (globals : List ℕ) → List Operation → State (List Operation)
start p globals work = opening p globals [] (λ i. 0) work

abbrev all_possible : Setting → Schedule → State (List Operation) → Bool
all_possible set [] s = true
all_possible set (round ∷ schedule) s = is_possible next set round s && all_possible set schedule (result next set round s)

-- in each round all act, each with count 1
abbrev in_step : ℕ → (rounds : ℕ) → Schedule
in_step p rounds = replicate rounds (replicate p 1)

-- a number as a word
abbrev minus : ℕ → ℕ
minus n = 2 ^ 32 - n

-- `start { r[$] = mpadd(&c, -1); }` by 3 processors leaves 0, -1 and -2 in r
abbrev counting_down : List Operation
counting_down =
    Get Processors ∷ Begin
    ∷ Push (address_of 1) ∷ Get Rank ∷ Index 4 ∷ Check false
    ∷ Push (address_of 0) ∷ Check true ∷ Push 1 ∷ Apply Negate ∷ Combine MpAdd
    ∷ Write ∷ DropLast ∷ End ∷ Resume ∷ Halt ∷ []

counts_down : (all_possible (setting 3 (0 ∷ 0 ∷ 0 ∷ 0 ∷ [])) (in_step 3 16) (start 3 (0 ∷ 0 ∷ 0 ∷ 0 ∷ []) counting_down) ≡ true)
    × (map (run next (setting 3 (0 ∷ 0 ∷ 0 ∷ 0 ∷ [])) (in_step 3 16) (start 3 (0 ∷ 0 ∷ 0 ∷ 0 ∷ []) counting_down)).store.words (0 ∷ 1 ∷ 2 ∷ 3 ∷ []) ≡ minus 3 ∷ 0 ∷ minus 1 ∷ minus 2 ∷ [])
    × (stand_of next (setting 3 (0 ∷ 0 ∷ 0 ∷ 0 ∷ [])) (run next (setting 3 (0 ∷ 0 ∷ 0 ∷ 0 ∷ [])) (in_step 3 16) (start 3 (0 ∷ 0 ∷ 0 ∷ 0 ∷ []) counting_down)) ≡ SourceFinished)
counts_down = (refl, refl, refl)

-- `start fork (3; @=$%3; $=$/3) s[@] = groupsize();` by 7 processors makes groups of 3, 2 and 2
abbrev forking : List Operation
forking =
    Get Processors ∷ Begin
    ∷ Push 3 ∷ Agree ∷ Get Rank ∷ Push 3 ∷ Binary RemU false ∷ Get Rank ∷ Push 3 ∷ Binary DivU false ∷ Split Fork
    ∷ Push (address_of 0) ∷ Get GroupNumber ∷ Index 4 ∷ Check false ∷ Get GroupSize ∷ Write ∷ DropLast
    ∷ End ∷ Resume ∷ End ∷ Resume ∷ Halt ∷ []

abbrev three : List ℕ
three = 0 ∷ 0 ∷ 0 ∷ []

forks : (all_possible (setting 7 three) (in_step 7 23) (start 7 three forking) ≡ true)
    × (map (run next (setting 7 three) (in_step 7 23) (start 7 three forking)).store.words (0 ∷ 1 ∷ 2 ∷ []) ≡ 3 ∷ 2 ∷ 2 ∷ [])
    × (stand_of next (setting 7 three) (run next (setting 7 three) (in_step 7 23) (start 7 three forking)) ≡ SourceFinished)
forks = (refl, refl, refl)

-- inside, one of the three groups may go on alone, whole and with any count of local operations, and no part of a group
within : State (List Operation)
within = run next (setting 7 three) (in_step 7 11) (start 7 three forking)

alone : (is_possible next (setting 7 three) (0 ∷ 1 ∷ 0 ∷ 0 ∷ 1 ∷ 0 ∷ 0 ∷ []) within ≡ true)
    × (is_possible next (setting 7 three) (0 ∷ 4 ∷ 0 ∷ 0 ∷ 4 ∷ 0 ∷ 0 ∷ []) within ≡ true)
    × (is_possible next (setting 7 three) (0 ∷ 5 ∷ 0 ∷ 0 ∷ 5 ∷ 0 ∷ 0 ∷ []) within ≡ false)
    × (is_possible next (setting 7 three) (0 ∷ 1 ∷ 0 ∷ 0 ∷ 0 ∷ 0 ∷ 0 ∷ []) within ≡ false)
    × (is_possible next (setting 7 three) (0 ∷ 1 ∷ 0 ∷ 0 ∷ 2 ∷ 0 ∷ 0 ∷ []) within ≡ false)
unfolding within
alone = (refl, refl, refl, refl, refl)

-- `putint($)` and then `*p`, where p is 0 for processor 5 of 8 alone. All print, and the read's check faults at 5
abbrev pointing : List Operation
pointing =
    Get Processors ∷ Begin
    ∷ Get Rank ∷ PrintNumber
    ∷ Push (address_of 0) ∷ Get Rank ∷ Push 5 ∷ Binary Ne false ∷ Binary Mul false ∷ Check false ∷ Read ∷ DropLast
    ∷ End ∷ Resume ∷ Halt ∷ []

abbrev at_check : State (List Operation)
at_check = run next (setting 8 (0 ∷ [])) (in_step 8 9) (start 8 (0 ∷ []) pointing)

abbrev fault : Fault
fault = record { site = 5; processor = 5 }

points : (all_possible (setting 8 (0 ∷ [])) (in_step 8 9) (start 8 (0 ∷ []) pointing) ≡ true)
    × (at_check.store.output ≡ signed_line 0 ++ signed_line 1 ++ signed_line 2 ++ signed_line 3 ++ signed_line 4 ++ signed_line 5 ++ signed_line 6 ++ signed_line 7)
    × (is_allowed next (setting 8 (0 ∷ [])) (replicate 8 1) at_check ≡ true)
    × ((result next (setting 8 (0 ∷ [])) (replicate 8 1) at_check).fault ≡ Some fault)
    × (cut 6 (replicate 8 1) ≡ 1 ∷ 1 ∷ 1 ∷ 1 ∷ 1 ∷ 1 ∷ 0 ∷ 0 ∷ [])
    × (stand_of next (setting 8 (0 ∷ [])) (result next (setting 8 (0 ∷ [])) (cut 6 (replicate 8 1)) at_check) ≡ SourceFaulted fault)
points = (refl, refl, refl, refl, refl, refl)

-- all begin together, each with count 1
begins : (is_possible next (setting 2 []) (1 ∷ 1 ∷ []) (run next (setting 2 []) (in_step 2 1) (start 2 [] counting_down)) ≡ true)
    × (is_possible next (setting 2 []) (1 ∷ 0 ∷ []) (run next (setting 2 []) (in_step 2 1) (start 2 [] counting_down)) ≡ false)
    × (is_possible next (setting 2 []) (2 ∷ 2 ∷ []) (start 2 [] counting_down) ≡ false)
    × (is_possible next (setting 2 []) (2 ∷ 0 ∷ []) (start 2 [] counting_down) ≡ false)
begins = (refl, refl, refl, refl)

-- a call from depth 255 begins, and one from depth 256 is a fault
abbrev calling : List Operation
calling = replicate 256 (Enter 0)

abbrev deepest : State (List Operation)
deepest = run next (setting 1 []) (in_step 1 255) (start 1 [] calling)

calls : (all_possible (setting 1 []) (in_step 1 255) (start 1 [] calling) ≡ true)
    × (is_possible next (setting 1 []) (1 ∷ []) deepest ≡ false)
    × (stand_of next (setting 1 []) (result next (setting 1 []) (1 ∷ []) deepest) ≡ SourceFaulted (record { site = 0; processor = 0 }))
calls = (refl, refl, refl)

-- a group of the whole space of 524,288 words has 524,280 for a frame. The lowest member faults where it is larger
abbrev framing : (words : ℕ) → List Operation
framing words = Get Processors ∷ Begin ∷ Frame 0 words ∷ End ∷ Resume ∷ Halt ∷ []

abbrev at_frame : (words : ℕ) → State (List Operation)
at_frame words = run next (setting 2 []) (in_step 2 2) (start 2 [] (framing words))

frames : (is_possible next (setting 2 []) (1 ∷ 1 ∷ []) (at_frame 524280) ≡ true)
    × ((result next (setting 2 []) (1 ∷ 1 ∷ []) (at_frame 524281)).fault ≡ Some (record { site = 3; processor = 0 }))
frames = (refl, refl)
