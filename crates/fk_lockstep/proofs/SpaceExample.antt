-- A program that keeps calls and frames so, as code: `start f();`, where `f` takes a frame, and its members run a body by
-- themselves. They have one space.
use Rattle.std.proofs.Common.{ℕ, zero, suc, Bool, true, false, List, [], ◌∷◌, length, refl, arith, if◌then◌else◌, ◌≡◌, ◌≤◌, ◌++◌, map, None}
use Rattle.fk_meaning_operation.specs.declared.operation.Operation.TheVariants as o
use Rattle.fk_meaning_operation.specs.declared.operation.OwnValue.TheVariants as n
use Rattle.fk_meaning_forms.specs.Code.{Code, done, perform, choose, while, until, turn, again, quit, break, continue, call, ends, append}
use Rattle.fk_meaning.specs.Next.{Work, going, next}
use Rattle.fk_meaning.specs.Behind.{outs}
use Rattle.fk_lockstep.proofs.Acting.{untrue}
use Rattle.fk_num.specs.Word.{Memory}
use Rattle.fk_meaning.specs.Processor.{Setting}
use Rattle.fk_meaning.specs.Schedule.{Schedule, opening, run, ArePossible}
use Rattle.fk_lockstep.specs.Course.{Context, InGroup, Waits, ByItself, Follows}
use Rattle.fk_lockstep.specs.Counts.{Counts, CountedFor, IsCounted}
use Rattle.fk_lockstep.specs.OneSpace.{KeepOneSpace}
use Rattle.fk_lockstep.proofs.SpaceRuns.{groups_have_one_space}
use Rattle.fk_lockstep.specs.Frames.{round_after, FramedFor, IsFramed}

abbrev behind_all : Code ℕ
behind_all = perform 10 o.Resume (ends 11 o.Halt done)

abbrev in_start : Code ℕ
in_start = call 2 (o.Enter 0) 1 (perform 3 (o.Frame 0 4) done) (perform 9 o.End done)

abbrev main : Code ℕ
main = perform 0 (o.Get n.Processors) (choose 1 o.Begin in_start done behind_all)

abbrev body : Code ℕ
body = perform 4 (o.Frame 1 2) (choose 5 o.Farm (perform 6 (o.Meet false) done) done (perform 7 (o.Meet true) (ends 8 (o.Leave false true) done)))

abbrev bodies : (binding : ℕ) → Code ℕ
bodies zero = main
bodies (suc binding) = body

-- each `start` ahead in code
abbrev starts : Code ℕ → List (Code ℕ)
starts done = []
starts (perform t op rest) = starts rest
starts (choose t o.Begin a b rest) = choose t o.Begin a b rest ∷ starts rest
starts (choose t op a b rest) = starts rest
starts (while test body' step rest) = starts rest
starts (until body' test rest) = starts rest
starts (turn test body' step rest) = starts rest
starts (again test body' step rest) = starts rest
starts (quit t op rest) = starts rest
starts (break rest) = starts rest
starts (continue rest) = starts rest
starts (call t op f opening' rest) = starts rest
starts (ends t op rest) = starts rest

-- where others are met: behind parts, at the ends of bodies, and at each `start` ahead
abbrev all_outs : Work → List Work
all_outs work = outs work ++ map (λ code. let at : Work = record { left = code; callers = [] } in at) (starts work.left)

abbrev depth : Work → ℕ
depth work = length work.callers

abbrev Keeps : (round : ℕ) → (alone : Bool) → Work → Type 0
Keeps round alone work = IsFramed (next bodies) all_outs depth round alone work

-- behind the call
abbrev caller : Code ℕ
caller = append (perform 9 o.End done) behind_all

halted : (round : ℕ) (alone : Bool) → Keeps round alone (record { left = done; callers = [] })
halted round alone zero = tt
halted round alone (suc k) = tt

ends_all : Keeps 0 true (going (ends 11 o.Halt done) [])
ends_all zero = tt
ends_all (suc k) = record { calls = λ onward. refl; in_group = λ e. untrue e; own = λ e. untrue e; outermost = λ e. untrue e; met = λ e. untrue e; goes_on = λ onward. halted 0 true k }

others_wait : Keeps 0 false (going behind_all [])
others_wait zero = tt
others_wait (suc k) = record { calls = λ onward. refl; in_group = λ e. untrue e; own = λ e. untrue e; outermost = λ e. untrue e; met = λ e. untrue e; goes_on = λ onward. ends_all k }

group_ends : Keeps 1 false (going caller [])
group_ends zero = tt
group_ends (suc k) = record { calls = λ onward. refl; in_group = λ e. untrue e; own = λ e. untrue e; outermost = λ e. untrue e; met = λ e. untrue e; goes_on = λ onward. others_wait k }

leaves : Keeps 1 false (going (ends 8 (o.Leave false true) done) (caller ∷ []))
leaves zero = tt
leaves (suc k) = record { calls = (refl, omega arith); in_group = λ e. refl; own = λ e. untrue e; outermost = λ e. untrue e; met = λ e. untrue e; goes_on = λ onward. group_ends k }

meets : Keeps 1 true (going (perform 7 (o.Meet true) (ends 8 (o.Leave false true) done)) (caller ∷ []))
meets zero = tt
meets (suc k) = record { calls = λ onward. refl; in_group = λ e. untrue e; own = λ e. untrue e; outermost = λ e. untrue e; met = λ e. untrue e; goes_on = λ onward. leaves k }

waits : Keeps 1 true (going (append (perform 6 (o.Meet false) done) (perform 7 (o.Meet true) (ends 8 (o.Leave false true) done))) (caller ∷ []))
waits zero = tt
waits (suc k) = record { calls = λ onward. refl; in_group = λ e. untrue e; own = λ e. untrue e; outermost = λ e. untrue e; met = λ e. untrue e; goes_on = λ onward. meets k }

farms : Keeps 1 false (going (choose 5 o.Farm (perform 6 (o.Meet false) done) done (perform 7 (o.Meet true) (ends 8 (o.Leave false true) done))) (caller ∷ []))
farms zero = tt
farms (suc k) = record { calls = λ onward. refl; in_group = λ e. untrue e; own = λ e. untrue e; outermost = λ e. untrue e; met = λ e. untrue e; goes_on = both k }
  where
    both : (j : ℕ) (onward : Bool) → FramedFor (next bodies) all_outs depth j 1 true
        (going (append (if onward then perform 6 (o.Meet false) done else done) (perform 7 (o.Meet true) (ends 8 (o.Leave false true) done))) (caller ∷ []))
    both j true = waits j
    both j false = meets j

frames_more : Keeps 1 false (going body (caller ∷ []))
frames_more zero = tt
frames_more (suc k) = record { calls = λ onward. refl; in_group = λ e. refl; own = λ e. untrue e; outermost = λ e. untrue e; met = λ e. untrue e; goes_on = λ onward. farms k }

frames : Keeps 1 false (going (append (perform 3 (o.Frame 0 4) done) body) (caller ∷ []))
frames zero = tt
frames (suc k) = record { calls = λ onward. refl; in_group = λ e. refl; own = λ e. omega arith; outermost = λ e. untrue e; met = λ e. untrue e; goes_on = λ onward. frames_more k }

enters : Keeps 1 false (going (append in_start behind_all) [])
enters zero = tt
enters (suc k) = record { calls = refl; in_group = λ e. untrue e; own = λ e. untrue e; outermost = λ e. untrue e; met = λ e. untrue e; goes_on = λ onward. frames k }

begins : Keeps 0 true (going (choose 1 o.Begin in_start done behind_all) [])
begins zero = tt
begins (suc k) = record { calls = λ onward. refl; in_group = λ e. untrue e; own = λ e. untrue e; outermost = λ e. refl; met = λ e. untrue e; goes_on = both k }
  where
    both : (j : ℕ) (onward : Bool) → FramedFor (next bodies) all_outs depth j (round_after o.Begin onward 0) false
        (going (append (if onward then in_start else done) behind_all) [])
    both j true = enters j
    both j false = others_wait j

whole : Keeps 0 true (going main [])
whole zero = tt
whole (suc k) = record { calls = λ onward. refl; in_group = λ e. untrue e; own = λ e. untrue e; outermost = λ e. untrue e; met = λ e. untrue e; goes_on = λ onward. begins k }

-- it goes through its group and its body in their order
abbrev Goes : Context → Code ℕ → List (Code ℕ) → Type 0
Goes context code callers = Follows (next bodies) all_outs context (going code callers)

goes_last : Goes (ByItself false) (ends 11 o.Halt done) []
goes_last zero = tt
goes_last (suc k) = λ onward. refl

goes_others : Goes (Waits false) behind_all []
goes_others zero = tt
goes_others (suc k) = (refl, goes_last k)

goes_out : Goes (InGroup false) caller []
goes_out zero = tt
goes_out (suc k) = refl

goes_back : Goes (InGroup false) (ends 8 (o.Leave false true) done) (caller ∷ [])
goes_back zero = tt
goes_back (suc k) = λ onward. (refl, goes_out k)

abbrev meeting : Code ℕ
meeting = perform 7 (o.Meet true) (ends 8 (o.Leave false true) done)

goes_meeting : Goes (ByItself true) meeting (caller ∷ [])
goes_meeting zero = tt
goes_meeting (suc k) = (refl, goes_back k)

goes_by_itself : Goes (ByItself true) (append (perform 6 (o.Meet false) done) meeting) (caller ∷ [])
goes_by_itself zero = tt
goes_by_itself (suc k) = λ onward. (refl, goes_meeting k)

goes_apart : Goes (InGroup false) (choose 5 o.Farm (perform 6 (o.Meet false) done) done meeting) (caller ∷ [])
goes_apart zero = tt
goes_apart (suc k) = (refl, refl, goes_by_itself k, goes_meeting k)

goes_body : Goes (InGroup false) body (caller ∷ [])
goes_body zero = tt
goes_body (suc k) = λ onward. (refl, goes_apart k)

goes_opening : Goes (InGroup false) (append (perform 3 (o.Frame 0 4) done) body) (caller ∷ [])
goes_opening zero = tt
goes_opening (suc k) = λ onward. (refl, goes_body k)

goes_calling : Goes (InGroup false) (append in_start behind_all) []
goes_calling zero = tt
goes_calling (suc k) = λ onward. (refl, goes_opening k)

goes_starting : Goes (ByItself false) (choose 1 o.Begin in_start done behind_all) []
goes_starting zero = tt
goes_starting (suc k) = (refl, goes_others k, refl, goes_calling k)

goes_main : Goes (ByItself false) main []
goes_main zero = tt
goes_main (suc k) = λ onward. (refl, goes_starting k)

-- without a `fork` no number of parts is pending
abbrev are_none : List ℕ → Bool
are_none [] = true
are_none (m ∷ ms) = false

none_many : (ms : List ℕ) → are_none ms ≡ true → length ms ≡ 0
none_many [] e = refl
none_many (m ∷ ms) e = untrue e

abbrev none_pending : Counts Work
none_pending = record { pending = λ work. 0; are_pending = λ work p ms. are_none ms; many = λ work p ms e. none_many ms e }

abbrev Free : Code ℕ → List (Code ℕ) → Type 0
Free code callers = IsCounted (next bodies) all_outs none_pending (going code callers)

free_done : IsCounted (next bodies) all_outs none_pending (record { left = done; callers = [] })
free_done zero = tt
free_done (suc k) = tt

free_last : Free (ends 11 o.Halt done) []
free_last zero = tt
free_last (suc k) = (λ highest lowest size p ms e. e, λ onward. free_done k)

free_others : Free behind_all []
free_others zero = tt
free_others (suc k) = (λ highest lowest size p ms e. e, λ onward. free_last k)

free_out : Free caller []
free_out zero = tt
free_out (suc k) = (λ highest lowest size p ms e. e, λ onward. free_others k)

free_back : Free (ends 8 (o.Leave false true) done) (caller ∷ [])
free_back zero = tt
free_back (suc k) = (λ set onward p ms e. e, λ onward. free_out k)

free_meeting : Free meeting (caller ∷ [])
free_meeting zero = tt
free_meeting (suc k) = (λ highest lowest size p ms e. e, λ onward. free_back k)

free_by_itself : Free (append (perform 6 (o.Meet false) done) meeting) (caller ∷ [])
free_by_itself zero = tt
free_by_itself (suc k) = (λ highest lowest size p ms e. e, λ onward. free_meeting k)

free_apart : Free (choose 5 o.Farm (perform 6 (o.Meet false) done) done meeting) (caller ∷ [])
free_apart zero = tt
free_apart (suc k) = ((λ highest lowest size p ms e. e, refl), both k)
  where
    both : (j : ℕ) (onward : Bool) → CountedFor (next bodies) all_outs none_pending j
        (going (append (if onward then perform 6 (o.Meet false) done else done) meeting) (caller ∷ []))
    both j true = free_by_itself j
    both j false = free_meeting j

free_body : Free body (caller ∷ [])
free_body zero = tt
free_body (suc k) = (λ highest lowest size p ms e. e, λ onward. free_apart k)

free_opening : Free (append (perform 3 (o.Frame 0 4) done) body) (caller ∷ [])
free_opening zero = tt
free_opening (suc k) = (λ highest lowest size p ms e. e, λ onward. free_body k)

free_calling : Free (append in_start behind_all) []
free_calling zero = tt
free_calling (suc k) = (λ answer p ms e. e, λ onward. free_opening k)

free_starting : Free (choose 1 o.Begin in_start done behind_all) []
free_starting zero = tt
free_starting (suc k) = ((λ highest lowest size p ms e. e, refl), both k)
  where
    both : (j : ℕ) (onward : Bool) → CountedFor (next bodies) all_outs none_pending j (going (append (if onward then in_start else done) behind_all) [])
    both j true = free_calling j
    both j false = free_others j

free_main : Free main []
free_main zero = tt
free_main (suc k) = (λ set onward p ms e. e, λ onward. free_starting k)

-- so the members of its group have one space
main_has_one_space : (setting : Setting) (schedule : Schedule) (processors : ℕ) (globals input : List ℕ) (firsts : Memory) → 1 ≤ processors
    → ArePossible (next bodies) setting schedule (opening processors globals input firsts (going main []))
    → (run (next bodies) setting schedule (opening processors globals input firsts (going main []))).fault ≡ None
    → KeepOneSpace (run (next bodies) setting schedule (opening processors globals input firsts (going main [])))
main_has_one_space =
    groups_have_one_space Work (next bodies) all_outs (going main []) goes_main none_pending (λ p. refl) free_main depth refl whole
