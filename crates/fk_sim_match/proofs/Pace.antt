-- How soon harts commit.
use Rattle.std.proofs.Common.{◌≡◌, ◌≢◌, ℕ, zero, suc, ◌+◌, ◌^◌, ◌<◌, ◌≤◌, List, [], ◌∷◌, length, Some, Bool, true, false, cond, sym, ap, subst, ◌∙◌, refl, arith, ◌⊎◌, inl, inr, ⊎_elim, eq-eqb}
use Rattle.std.proofs.lemmas.Bool.{cases_eq, ne_eqb}
use Rattle.std.specs.Prelude.{◌==◌, slice_get, slice_index}
use Rattle.fk_sim_nodes.specs.Phase.{Phase, Outside, Away, Leaving, AllMove, Each, Leaves, SomeCommits, Settled, IsDue}
use Rattle.fk_sim_nodes.specs.Meeting.{IsKept}
use Rattle.fk_sim_nodes.proofs.Leaving.{leaves_all, cycles_keep_arrivals}
use Rattle.fk_sim_nodes.proofs.MeetingRuns.{same_length, some_known}
use Rattle.fk_sim_match.specs.Stage.{Ending, Commits, Unites, Stage, Ended, Acts, Meets, distance, operations_of, count_for, count_of_stage, counts_for, Nears, AllNear, kept, phase_of}
use Rattle.fk_sim_match.specs.Plan.{Plan, phase_at, phases_from, phases}
use Rattle.fk_sim_match.specs.Pace.{WhoIsNearActs, WhoMeetsActs}

-- ---- who has a distance

record Falls (stages : List Stage) (h d : ℕ) : Type 0 where
  stage : Stage
  at : slice_get stages h ≡ Some stage
  near : distance stage ≡ Some d

falls : (stages stages' : List Stage) (h d : ℕ) (s : Stage) → AllNear stages stages' → slice_get stages h ≡ Some s → distance s ≡ Some (suc d) → Falls stages' h d
falls (x ∷ stages) (y ∷ stages') zero d s near at e =
    let same : x ≡ s = cc in
    record { stage = y; at = refl; near = subst (λ k. Nears k (distance y)) (ap distance same ∙ e) near.0 }
falls (x ∷ stages) (y ∷ stages') (suc h) d s near at e =
    let r = falls stages stages' h d s near.1 at e in record { stage = r.stage; at = r.at; near = r.near }
falls [] stages' h d s near at e = absurd (cc)
falls stages stages' h d s near at e = absurd (assumption near)

some_operations : (s : Stage) → 0 < operations_of s
some_operations Ended = omega arith
some_operations (Acts d inner) = omega arith
some_operations (Meets e w f) = omega arith

count_at : (stages : List Stage) (h : ℕ) (s : Stage) → slice_get stages h ≡ Some s → distance s ≡ Some 0 → 0 < slice_index (counts_for stages) h
count_at [] h s at e = absurd (cc)
count_at (x ∷ stages) zero s at e =
    let same : x ≡ s = cc in
    subst (λ c. 0 < c) (sym (ap count_of_stage same ∙ ap (count_for (operations_of s)) e)) (some_operations s)
count_at (x ∷ stages) (suc h) s at e = count_at stages h s at e

pub who_is_near_acts : WhoIsNearActs
who_is_near_acts stages h zero t s at e near =
    let same : t ≡ t + 0 = omega arith in
    subst (λ k. 0 < slice_index (counts_for (stages k)) h) same (count_at (stages t) h s at e)
who_is_near_acts stages h (suc d) t s at e near =
    let start : t + 0 ≡ t = omega arith in
    let f = falls (stages t) (stages (suc t)) h d s (subst (λ k. AllNear (stages k) (stages (suc k))) start (near 0 (omega arith))) at e in
    let same : suc t + d ≡ t + suc d = omega arith in
    subst (λ k. 0 < slice_index (counts_for (stages k)) h) same
    (who_is_near_acts stages h d (suc t) f.stage f.at f.near
    (λ i lt. let k : t + suc i ≡ suc t + i = omega arith in subst (λ j. AllNear (stages j) (stages (suc j))) k (near (suc i) (omega arith))))

-- ---- who meets

abbrev MovesAt : (ℕ → List Phase) → (n lead t i : ℕ) → (ℕ → ℕ) → Type 0
MovesAt fs n lead t i word = AllMove (t + i) n lead (fs i) (word i) (fs (suc i)) (word (suc i))

kept_first : (fs : ℕ → List Phase) (n lead t : ℕ) (word : ℕ → ℕ) → length (fs 0) < 2 ^ 31 → Settled t n (word 0) (fs 0) → MovesAt fs n lead t 0 word
    → IsKept t n lead (word 0) (word 1) (fs 0) (fs 1)
kept_first fs n lead t word few first moves =
    let e : t + 0 ≡ t = omega arith in
    cycles_keep_arrivals t n lead (word 0) (word 1) (fs 0) (fs 1) few first (subst (λ k. AllMove k n lead (fs 0) (word 0) (fs 1) (word 1)) e moves)

-- nobody has committed up to a cycle
abbrev NobodyTo : (ℕ → List Phase) → ℕ → Type 0
NobodyTo fs i = (j : ℕ) → j ≤ i → SomeCommits (fs j) → ⊥

nobody_now : (fs : ℕ → List Phase) → (SomeCommits (fs 0) → ⊥) → NobodyTo fs 0
nobody_now fs none zero le = none
nobody_now fs none (suc j) le = absurd (omega (arith, le))

nobody_next : (fs : ℕ → List Phase) (i : ℕ) → (SomeCommits (fs 0) → ⊥) → NobodyTo (λ k. fs (suc k)) i → NobodyTo fs (suc i)
nobody_next fs i none nobody zero le = none
nobody_next fs i none nobody (suc j) le = nobody j (omega arith)

-- within so many cycles all leave
all_leave : (fs : ℕ → List Phase) (n lead k t : ℕ) (word : ℕ → ℕ) → length (fs 0) < 2 ^ 31 → Settled t n (word 0) (fs 0)
    → ((i : ℕ) → i < suc k → NobodyTo fs i → MovesAt fs n lead t i word) → IsDue lead k t (fs 0) → (d : ℕ) × (d ≤ k) × Each (Leaves 0) (fs d)
all_leave fs n lead zero t word few first moves due =
    ⊎_elim
    (λ some. (0, omega arith, (leaves_all t n (word 0) (fs 0) first some).leave))
    (λ none. (0, omega arith, (kept_first fs n lead t word few first (moves 0 (omega arith) (nobody_now fs none))).now due))
    (some_known (fs 0))
all_leave fs n lead (suc k) t word few first moves due =
    ⊎_elim
    (λ some. (0, omega arith, (leaves_all t n (word 0) (fs 0) first some).leave))
    (λ none.
    let one = moves 0 (omega arith) (nobody_now fs none) in
    let now = kept_first fs n lead t word few first one in
    ⊎_elim
    (λ all. (0, omega arith, all))
    (λ due'.
    let r = all_leave (λ i. fs (suc i)) n lead k (t + 1) (λ i. word (suc i))
    (subst (λ j. j < 2 ^ 31) (sym (same_length (t + 0) n lead (word 0) (word 1) (fs 0) (fs 1) one)) few) now.settled
    (λ i lt nobody.
    let e : t + suc i ≡ t + 1 + i = omega arith in
    subst (λ j. AllMove j n lead (fs (suc i)) (word (suc i)) (fs (suc (suc i))) (word (suc (suc i)))) e (moves (suc i) (omega arith) (nobody_next fs i none nobody))) due' in
    let le = r.1 in
    (suc r.0, omega arith, r.2))
    (now.nearer k due))
    (some_known (fs 0))

-- a member that leaves now commits, or unites
leaving_counts : (s : Stage) (w : ℕ) (b : Bool) → ((e : Ending) → s ≢ Meets e w Outside) → Leaves 0 (phase_at b true (phase_of w true (Some s)))
    → (0 < count_of_stage s) ⊎ (s ≡ Meets Unites w (Leaving 0))
leaving_counts s w false member leaves = absurd leaves
leaving_counts Ended w true member leaves = absurd leaves
leaving_counts (Acts d inner) w true member leaves = absurd leaves
leaving_counts (Meets ending v f) w true member leaves = at_word ending v f w (cases_eq v w) member leaves
  where
    this_word : (ending : Ending) (v : ℕ) (f : Phase) → ((e : Ending) → Meets ending v f ≢ Meets e v Outside) → Leaves 0 f
        → (0 < count_of_stage (Meets ending v f)) ⊎ (Meets ending v f ≡ Meets Unites v (Leaving 0))
    this_word ending v Outside member leaves = absurd (member ending refl)
    this_word Commits v (Leaving d) member leaves = inl (subst (λ k. 0 < count_of_stage (Meets Commits v (Leaving k))) (sym leaves) (omega arith))
    this_word Unites v (Leaving d) member leaves = inr (ap (λ k. Meets Unites v (Leaving k)) leaves)
    this_word ending v f member leaves = absurd (assumption leaves)

    at_word : (ending : Ending) (v : ℕ) (f : Phase) (w : ℕ) → ((v ≡ w) ⊎ (v ≢ w)) → ((e : Ending) → Meets ending v f ≢ Meets e w Outside) → Leaves 0 (cond (v == w) f Away)
        → (0 < count_of_stage (Meets ending v f)) ⊎ (Meets ending v f ≡ Meets Unites w (Leaving 0))
    at_word ending v f w (inl e) member leaves =
        subst (λ k. (0 < count_of_stage (Meets ending v f)) ⊎ (Meets ending v f ≡ Meets Unites k (Leaving 0))) e
        (this_word ending v f (λ x same. member x (same ∙ ap (λ k. Meets x k Outside) e)) (subst (λ b. Leaves 0 (cond b f Away)) (eq-eqb v w e) leaves))
    at_word ending v f w (inr ne) member leaves = absurd (subst (λ b. Leaves 0 (cond b f Away)) (ne_eqb v w ne) leaves)

at_hart : (plan : Plan) (g w number : ℕ) (ns : List ℕ) (stages : List Stage) (h n : ℕ) (s : Stage) → Each (Leaves 0) (phases_from plan g w number ns (kept stages))
    → slice_get ns h ≡ Some n → slice_get stages h ≡ Some s
    → Leaves 0 (phase_at (n == g) (plan.member w (number + h)) (phase_of w (plan.member w (number + h)) (Some s)))
at_hart plan g w number (k ∷ ns) (x ∷ stages) zero n s all here at =
    let same : k ≡ n = cc in
    let is : x ≡ s = cc in
    let e : number ≡ number + 0 = omega arith in
    subst (λ j. Leaves 0 (phase_at (n == g) (plan.member w j) (phase_of w (plan.member w j) (Some s)))) e
    (subst (λ y. Leaves 0 (phase_at (n == g) (plan.member w number) (phase_of w (plan.member w number) (Some y)))) is
    (subst (λ j. Leaves 0 (phase_at (j == g) (plan.member w number) (phase_of w (plan.member w number) (Some x)))) same all.0))
at_hart plan g w number (k ∷ ns) (x ∷ stages) (suc h) n s all here at =
    let e : suc number + h ≡ number + suc h = omega arith in
    subst (λ j. Leaves 0 (phase_at (n == g) (plan.member w j) (phase_of w (plan.member w j) (Some s)))) e
    (at_hart plan g w (suc number) ns stages h n s all.1 here at)
at_hart plan g w number [] stages h n s all here at = absurd (cc)
at_hart plan g w number (k ∷ ns) [] h n s all here at = absurd (cc)

pub who_meets_acts : WhoMeetsActs
who_meets_acts plan g w n lead k t stages word on due =
    let fs : ℕ → List Phase = λ i. phases (plan i) g w (kept (stages i)) in
    let r = all_leave fs n lead k t word on.few on.first on.moves due in (
      r.0,
      r.1,
      λ h m s member here at outside.
          let same : 0 + h ≡ h = omega arith in
          let leaves = subst (λ j. Leaves 0 (phase_at (m == g) ((plan r.0).member w j) (phase_of w ((plan r.0).member w j) (Some s)))) same
          (at_hart (plan r.0) g w 0 (plan r.0).nodes (stages r.0) h m s r.2 here at) in
          leaving_counts s w (m == g) outside (subst (λ b. Leaves 0 (phase_at (m == g) b (phase_of w b (Some s)))) member leaves),
    )
