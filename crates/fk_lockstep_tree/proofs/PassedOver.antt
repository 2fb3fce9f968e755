-- A schedule of possible rounds that isn't lawful, since it passes a processor over. After it, too, processors are in the tree.
use Rattle.std.proofs.Common.{◌≡◌, ◌≢◌, ℕ, zero, suc, ◌+◌, ◌<◌, true, false, List, [], ◌∷◌, length, take, Option, Some, None, ap, ◌∙◌, sym, refl, subst, arith}
use Rattle.std.specs.Prelude.{slice_get}
use Rattle.fk_meaning_operation.specs.declared.operation.SplitKind.TheVariants.{Fork}
use Rattle.fk_meaning_operation.specs.declared.operation.Operation.TheVariants.{DropLast, Split}
use Rattle.fk_space.specs.Space.{IsSpace}
use Rattle.fk_meaning.specs.Processor.{Setting, setting_of, group_space}
use Rattle.fk_meaning.specs.Round.{Step, State, Round, result}
use Rattle.fk_meaning.specs.Schedule.{Schedule, opening, run, IsIn, CouldAct, IsLawful}
use Rattle.fk_lockstep.specs.Course.{ByItself, FollowsFor}
use Rattle.fk_lockstep.specs.Frames.{FramedFor}
use Rattle.fk_lockstep.specs.OneProgram.{KeepOneProgram}
use Rattle.fk_lockstep.proofs.Round.{first_is}
use Rattle.fk_lockstep.specs.OneSpace.{KeepOneSpace}
use Rattle.fk_lockstep_frames.specs.Nests.{Nest, OfFunction, ToldFor}
use Rattle.fk_lockstep_frames.proofs.Runs.{frames_are_as_told}
use Rattle.fk_lockstep_tree.specs.Where.{InRoot, GoesFor}
use Rattle.fk_lockstep_tree.specs.Placed.{HasTree}
use Rattle.fk_lockstep_tree.specs.Rounds.{IsSingle, HaveOwnSpaces}
use Rattle.fk_lockstep_tree.specs.Runs.{AreSingle}
use Rattle.fk_lockstep_tree.proofs.Runs.{AllPossible, all_are, runs_stay_in_trees}
use Rattle.fk_lockstep_tree.proofs.Uncounted.{no_counts, uncounted}

abbrev Spins : Type 0
Spins = Unit {0}

-- each of two processors drops the last of no values, again and again
abbrev next : Spins → Option (Step Spins)
next work = Some (record { operation = DropLast; site = 0; rest = λ onward. tt })

abbrev set : Setting
set = setting_of 2 [] []

abbrev first : State Spins
first = opening 2 [] [] (λ i. 0) tt

-- processor 0 alone
abbrev round : Round
round = 1 ∷ 0 ∷ []

abbrev rounds : ℕ → Schedule
rounds zero = []
rounds (suc n) = round ∷ rounds n

long : (n : ℕ) → length (rounds n) ≡ n
long zero = refl
long (suc n) = ap suc (long n)

stays : result next set round first ≡ first
stays = refl

behind : (n : ℕ) → run next set (rounds n) first ≡ first
behind zero = refl
behind (suc n) = ap (run next set (rounds n)) stays ∙ behind n

all_possible : (n : ℕ) → AllPossible next set (rounds n) first
all_possible zero = tt
all_possible (suc n) = (refl, subst (AllPossible next set (rounds n)) (sym stays) (all_possible n))

single : IsSingle round
single zero = omega arith
single (suc zero) = omega arith
single (suc (suc h)) = omega arith

all_single : (n : ℕ) → AreSingle (rounds n)
all_single zero = tt
all_single (suc n) = (single, all_single n)

follows : (n : ℕ) → FollowsFor next (λ work. []) n (ByItself false) tt
follows zero = tt
follows (suc n) = λ onward. (refl, follows n)

goes_on : (n : ℕ) → GoesFor next n InRoot tt
goes_on zero = tt
goes_on (suc n) = λ onward. (InRoot, refl, goes_on n)

is_framed : (n : ℕ) → FramedFor next (λ work. []) (λ work. 0) n 0 true tt
is_framed zero = tt
is_framed (suc n) = record {
  calls = λ onward. refl;
  in_group = λ takes. absurd (cc);
  own = λ takes. absurd (cc);
  outermost = λ begins. absurd (cc);
  met = λ splits. absurd (cc);
  goes_on = λ onward. is_framed n;
}

-- the nests of a processor that never enters a function or a part
abbrev nests : Spins → List Nest
nests work = OfFunction None ∷ []

is_told : (n : ℕ) → ToldFor next nests n tt
is_told zero = tt
is_told (suc n) = (record { may = tt; on = λ onward. refl }, λ onward. is_told n)

space : IsSpace (group_space set)
space = record { header = omega arith; ordered = omega arith; within = omega arith; shared = omega arith }

have_spaces : (schedule : Schedule) → HaveOwnSpaces (run next set schedule first)
have_spaces schedule h r at =
    let told = frames_are_as_told Spins next nests tt refl is_told set schedule 2 [] [] (λ i. 0) space h r at in
    let taken = told.spaces in
    taken.0.space

-- nobody forks
never_forks : (work : Spins) (step : Step Spins) → next work ≡ Some step → step.operation ≢ Split Fork
never_forks work step e forks = let same : DropLast ≡ Split Fork = ap (λ (s : Step Spins). s.operation) (first_is (record { operation = DropLast; site = 0; rest = λ onward. tt }) step e) ∙ forks in cc

in_tree : (n : ℕ) → KeepOneProgram next 2 (run next set (rounds n) first) × KeepOneSpace (run next set (rounds n) first) × HasTree next set (run next set (rounds n) first)
in_tree n =
    runs_stay_in_trees Spins next (λ work. []) (no_counts Spins) (λ work. 0) tt 2 [] [] (λ i. 0) (rounds n) follows (λ p. refl) (λ k. uncounted next (λ work. []) never_forks k tt) goes_on refl is_framed
    have_spaces (omega arith)
    (all_are next set (rounds n) first (all_possible n)) (all_single n) (ap (λ (s : State Spins). s.fault) (behind n))

-- processor 1 could act before each round, and is in none
could : CouldAct next set 1 first
could = record { round = 0 ∷ 1 ∷ []; allowed = refl; within = omega arith }

before : (i n : ℕ) → run next set (take i (rounds n)) first ≡ first
before zero n = refl
before (suc i) zero = refl
before (suc i) (suc n) = ap (run next set (take i (rounds n))) stays ∙ before i n

each : (n i : ℕ) (r : Round) → slice_get (rounds n) i ≡ Some r → r ≡ round
each zero i r e = absurd (cc)
each (suc n) zero r e = cc
each (suc n) (suc i) r e = each n i r e

not_lawful : IsLawful next set (rounds 256) first → ⊥
not_lawful lawful =
    let many = long 256 in
    let found = lawful.pace 1 0 (omega (arith, many)) (λ i less. subst (CouldAct next set 1) (sym (before (0 + i) 256)) could) in
    let within : 0 < 0 = subst (IsIn 1) (each 256 (0 + found.0) found.2 found.3) found.4 in
    omega (arith, within)
