-- In a run all leave in one cycle, and nobody before.
use Rattle.std.proofs.Common.{◌≡◌, ℕ, zero, suc, ◌+◌, ◌^◌, ◌<◌, ◌≤◌, List, [], ◌∷◌, length, sym, ap, subst, arith, refl, ◌⊎◌, inl, inr, ⊎_elim}
use Rattle.fk_sim_nodes.specs.Phase.{Phase, Outside, Away, Coming, Waiting, Leaving, word_after, AllMove, Each, Leaves, Commits, SomeCommits}
use Rattle.fk_sim_nodes.specs.Meeting.{IsKept, IsRun, AllLeaveAt, MembersLeaveTogether, LastArrivalFreesAll}
use Rattle.fk_sim_nodes.proofs.Leaving.{cycles_keep_arrivals}

-- there are as many harts after a cycle as before
pub same_length : (t n lead v v' : ℕ) (fs fs' : List Phase) → AllMove t n lead fs v fs' v' → length fs' ≡ length fs
same_length t n lead v v' [] [] moves = refl
same_length t n lead v v' (f ∷ fs) (f' ∷ fs') moves = ap suc (same_length t n lead (word_after f v) v' fs fs' moves.1)
same_length t n lead v v' fs fs' moves = absurd (assumption moves)

-- the run from the next cycle on
kept_of : (t n lead : ℕ) (word : ℕ → ℕ) (phases : ℕ → List Phase) → IsRun t n lead word phases → IsKept t n lead (word 0) (word 1) (phases 0) (phases 1)
kept_of t n lead word phases run =
    let e : t + 0 ≡ t = omega arith in
    cycles_keep_arrivals t n lead (word 0) (word 1) (phases 0) (phases 1) run.few run.first
    (subst (λ k. AllMove k n lead (phases 0) (word 0) (phases 1) (word 1)) e (run.moves 0))

next_run : (t n lead : ℕ) (word : ℕ → ℕ) (phases : ℕ → List Phase) → IsRun t n lead word phases
    → IsRun (t + 1) n lead (λ i. word (suc i)) (λ i. phases (suc i))
next_run t n lead word phases run =
    let kept = kept_of t n lead word phases run in
    let same = same_length (t + 0) n lead (word 0) (word 1) (phases 0) (phases 1) (run.moves 0) in
    record {
      few = subst (λ k. k < 2 ^ 31) (sym same) run.few;
      first = kept.settled;
      moves = λ i.
          let e : t + suc i ≡ t + 1 + i = omega arith in
          subst (λ k. AllMove k n lead (phases (suc i)) (word (suc i)) (phases (suc (suc i))) (word (suc (suc i)))) e (run.moves (suc i));
    }

-- ---- whether somebody commits

abbrev pub IsKnown : Type 0 → Type 0
IsKnown A = A ⊎ (A → ⊥)

commits_known : (f : Phase) → IsKnown (Commits f)
commits_known (Leaving zero) = inl tt
commits_known (Leaving (suc d)) = inr (λ x. x)
commits_known Outside = inr (λ x. x)
commits_known Away = inr (λ x. x)
commits_known (Coming d) = inr (λ x. x)
commits_known Waiting = inr (λ x. x)

either_known : {A B : Type 0} → IsKnown A → IsKnown B → IsKnown (A ⊎ B)
either_known (inl a) b = inl (inl a)
either_known (inr f) (inl b) = inl (inr b)
either_known (inr f) (inr g) = inr (λ x. ⊎_elim f g x)

pub some_known : (fs : List Phase) → IsKnown (SomeCommits fs)
some_known [] = inr (λ x. x)
some_known (f ∷ fs) = either_known (commits_known f) (some_known fs)

-- ---- the cycle in which they leave

at_once : (phases : ℕ → List Phase) → Each (Leaves 0) (phases 0) → AllLeaveAt phases 0
at_once phases all = record { all = all; nobody = λ e lt some. absurd (omega (arith, lt)) }

nobody_before : (phases : ℕ → List Phase) (d : ℕ) → (SomeCommits (phases 0) → ⊥) → AllLeaveAt (λ i. phases (suc i)) d
    → (e : ℕ) → e < suc d → SomeCommits (phases e) → ⊥
nobody_before phases d none later zero lt = none
nobody_before phases d none later (suc e) lt = later.nobody e (omega arith)

after_one : (phases : ℕ → List Phase) (d : ℕ) → (SomeCommits (phases 0) → ⊥) → AllLeaveAt (λ i. phases (suc i)) d → AllLeaveAt phases (suc d)
after_one phases d none later = record { all = later.all; nobody = nobody_before phases d none later }

-- within so many cycles
abbrev Leaving_by : ℕ → (ℕ → List Phase) → Type 0
Leaving_by k phases = (d : ℕ) × (d ≤ k) × AllLeaveAt phases d

later_by : (phases : ℕ → List Phase) (k : ℕ) → (SomeCommits (phases 0) → ⊥) → Leaving_by k (λ i. phases (suc i)) → Leaving_by (suc k) phases
later_by phases k none x = let le = x.1 in (suc x.0, omega arith, after_one phases x.0 none x.2)

pub members_leave_together : MembersLeaveTogether
members_leave_together t n lead zero word phases run due =
    (0, omega arith, at_once phases ((kept_of t n lead word phases run).now due))
members_leave_together t n lead (suc k) word phases run due =
    let kept = kept_of t n lead word phases run in
    ⊎_elim
    (λ some. (0, omega arith, at_once phases (kept.together some).0))
    (λ none.
    ⊎_elim
    (λ all. (0, omega arith, at_once phases all))
    (λ due'. later_by phases k none (members_leave_together (t + 1) n lead k (λ i. word (suc i)) (λ i. phases (suc i)) (next_run t n lead word phases run) due'))
    (kept.nearer k due))
    (some_known (phases 0))

pub last_arrival_frees_all : LastArrivalFreesAll
last_arrival_frees_all t n lead word phases run few all =
    let kept = kept_of t n lead word phases run in
    let next = members_leave_together (t + 1) n lead (lead + 1) (λ i. word (suc i)) (λ i. phases (suc i)) (next_run t n lead word phases run) (kept.prompt few all) in
    let none : SomeCommits (phases 0) → ⊥ = λ some. few (kept.together some).1 in
    let by = later_by phases (lead + 1) none next in
    let e : suc (lead + 1) ≡ lead + 2 = omega arith in
    subst (λ k. Leaving_by k phases) e by
