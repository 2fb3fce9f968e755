-- Those who may meet at a word are as many as the plan says, where each of them is at a fresh stage.
use Rattle.std.proofs.Common.{◌≡◌, ℕ, suc, ◌+◌, ◌≤◌, ◌<◌, List, [], ◌∷◌, length, Option, Some, Bool, true, false, sym, ap, subst, ◌∙◌, refl, arith, ⊎_elim, eq-eqb}
use Rattle.std.specs.Prelude.{◌==◌, ◌||◌, cond}
use Rattle.std.proofs.lemmas.Bool.{cases_Bool, cases_eq, ne_eqb, eqb-true, and_parts, or_cases, or_left, or_right}
use Rattle.fk_tree.specs.Tree.{is_member}
use Rattle.fk_tree.specs.Sound.{is_below_all, is_ascending}
use Rattle.fk_tree.proofs.Lists.{below_all-member}
use Rattle.fk_image.specs.declared.Image.{Image}
use Rattle.fk_machine.specs.Hart.{Hart, Setting}
use Rattle.fk_sim_nodes.specs.Node.{Member, numbered, of_node, AreAsMany}
use Rattle.fk_sim_nodes.specs.Source.{Source}
use Rattle.fk_sim_nodes.specs.Phase.{Phase, Outside, Away, Coming, Waiting, Leaving, and_member, members}
use Rattle.fk_sim_match.specs.Stage.{Stage, Ended, Acts, Meets, absent, phase_of, kept}
use Rattle.fk_sim_match.specs.Plan.{Plan, Blocks, IsInside, phase_at, phases_from, StandsAt}
use Rattle.fk_sim_match.specs.Cycle.{AllHaveCommitted}
use Rattle.fk_sim_match.specs.Change.{AllAreNew, Changes, AllChange}
use Rattle.fk_sim_rounds.proofs.Lists.{committed_parts}

-- ---- how many of the numbers from one on, one for each element of a list, are in another

abbrev pub mark : Bool → ℕ → ℕ
mark true k = suc k
mark false k = k

abbrev pub count_from : (number : ℕ) (ns ms : List ℕ) → ℕ
count_from number [] ms = 0
count_from number (n ∷ ns) ms = mark (is_member number ms) (count_from (suc number) ns ms)

count_none : (number : ℕ) (ns : List ℕ) → count_from number ns [] ≡ 0
count_none number [] = refl
count_none number (n ∷ ns) = count_none (suc number) ns

-- one below them is not counted
count_above : (number m : ℕ) (ns ms : List ℕ) → m < number → count_from number ns (m ∷ ms) ≡ count_from number ns ms
count_above number m [] ms lt = refl
count_above number m (n ∷ ns) ms lt =
    ap (λ b. mark (b || is_member number ms) (count_from (suc number) ns (m ∷ ms))) (ne_eqb number m (λ e. omega (arith, e)))
    ∙ ap (λ k. mark (is_member number ms) k) (count_above (suc number) m ns ms (omega arith))

abbrev pub AreFrom : (number count : ℕ) (ms : List ℕ) → Type 0
AreFrom number count ms = (h : ℕ) → is_member h ms ≡ true → (number ≤ h) × (h < number + count)

no_member : (number m : ℕ) (ms : List ℕ) → number < m → is_ascending (m ∷ ms) ≡ true → is_member number (m ∷ ms) ≡ false
no_member number m ms lt up =
    let parts = and_parts (is_below_all m ms) (is_ascending ms) up in
    ⊎_elim
    (λ is.
    absurd
    (⊎_elim (λ e. let same = eqb-true number m e in omega (arith, same)) (λ rest. let above = below_all-member m ms number parts.0 rest in omega (arith, above))
    (or_cases (number == m) (is_member number ms) is)))
    (λ no. no) (cases_Bool (is_member number (m ∷ ms)))

pub count_is : (number : ℕ) (ns ms : List ℕ) → is_ascending ms ≡ true → AreFrom number (length ns) ms → count_from number ns ms ≡ length ms
count_is number ns [] up from = count_none number ns
count_is number [] (m ∷ ms) up from = absurd (let here = from m (or_left (m == m) (is_member m ms) (eq-eqb m m refl)) in omega (arith, here.0, here.1))
count_is number (n ∷ ns) (m ∷ ms) up from =
    let parts = and_parts (is_below_all m ms) (is_ascending ms) up in
    let here = from m (or_left (m == m) (is_member m ms) (eq-eqb m m refl)) in
    ⊎_elim
    (λ e.
    ap (λ b. mark b (count_from (suc number) ns (m ∷ ms))) (or_left (number == m) (is_member number ms) (eq-eqb number m e))
    ∙ ap (λ k. suc k) (count_above (suc number) m ns ms (omega (arith, e)) ∙ count_is (suc number) ns ms parts.1
    (λ h is.
    let above = below_all-member m ms h parts.0 is in
    let was = from h (or_right (h == m) (is_member h ms) is) in
    let below = was.1 in
    (omega (arith, above, e), omega (arith, below)))))
    (λ ne.
    let first = here.0 in
    ap (λ b. mark b (count_from (suc number) ns (m ∷ ms))) (no_member number m ms (omega (arith, first, ne)) up)
    ∙ count_is (suc number) ns (m ∷ ms) up
    (λ h is.
    let was = from h is in
    let below = was.1 in
    let above = ⊎_elim (λ e. let same = eqb-true h m e in let le : m ≤ h = omega (arith, same) in le)
    (λ rest. let lt = below_all-member m ms h parts.0 rest in let le : m ≤ h = omega (arith, lt) in le) (or_cases (h == m) (is_member h ms) is) in
    (omega (arith, above, first, ne), omega (arith, below))))
    (cases_eq number m)

-- ---- the phases of fresh stages

-- who meets at a word is a member of those who do
abbrev pub Fine : Plan → (number : ℕ) → Stage → Type 0
Fine plan number (Meets e v f) = IsInside f × (plan.member v number ≡ true)
Fine plan number s = Unit {0}

inside_counts : (f : Phase) (k : ℕ) → IsInside f → and_member f k ≡ suc k
inside_counts Outside k is = absurd is
inside_counts Away k is = absurd is
inside_counts (Coming d) k is = refl
inside_counts Waiting k is = refl
inside_counts (Leaving d) k is = refl

absent_counts : (b : Bool) (k : ℕ) → and_member (absent b) k ≡ mark b k
absent_counts true k = refl
absent_counts false k = refl

meets_counts : (plan : Plan) (w number v : ℕ) (f : Phase) (k : ℕ) (here : Bool) → (v == w) ≡ here → IsInside f → plan.member v number ≡ true
    → and_member (cond here f (absent (plan.member w number))) k ≡ mark (plan.member w number) k
meets_counts plan w number v f k true e inside member =
    inside_counts f k inside ∙ ap (λ b. mark b k) (sym (ap (λ x. plan.member x number) (sym (eqb-true v w e)) ∙ member))
meets_counts plan w number v f k false e inside member = absent_counts (plan.member w number) k

stage_counts : (plan : Plan) (w number : ℕ) (s : Stage) (k : ℕ) → Fine plan number s
    → and_member (phase_of w (plan.member w number) (Some s)) k ≡ mark (plan.member w number) k
stage_counts plan w number Ended k fine = absent_counts (plan.member w number) k
stage_counts plan w number (Acts d inner) k fine = absent_counts (plan.member w number) k
stage_counts plan w number (Meets e v f) k fine = meets_counts plan w number v f k (v == w) refl fine.0 fine.1

phase_counts : (plan : Plan) (w number : ℕ) (here : Bool) (s : Stage) (k : ℕ) → (here ≡ true → Fine plan number s)
    → and_member (phase_at here (plan.member w number) (phase_of w (plan.member w number) (Some s))) k ≡ mark (plan.member w number) k
phase_counts plan w number true s k fine = stage_counts plan w number s k (fine refl)
phase_counts plan w number false s k fine = absent_counts (plan.member w number) k

-- those of a node are at such stages
abbrev pub AllFine : Plan → (g number : ℕ) → (ns : List ℕ) → List Stage → Type 0
AllFine plan g number [] [] = Unit {0}
AllFine plan g number (n ∷ ns) (s ∷ stages) = ((n == g) ≡ true → Fine plan number s) × AllFine plan g (suc number) ns stages
AllFine plan g number ns stages = ⊥

pub phases_count : (plan : Plan) (g w number : ℕ) (ns : List ℕ) (stages : List Stage) (ms : List ℕ) → ((h : ℕ) → plan.member w h ≡ is_member h ms) → AllFine plan g number ns stages
    → members (phases_from plan g w number ns (kept stages)) ≡ count_from number ns ms
phases_count plan g w number [] [] ms tells fine = refl
phases_count plan g w number (n ∷ ns) (s ∷ stages) ms tells fine =
    phase_counts plan w number (n == g) s (members (phases_from plan g w (suc number) ns (kept stages))) fine.0
    ∙ ap (λ b. mark b (members (phases_from plan g w (suc number) ns (kept stages)))) (tells number)
    ∙ ap (λ k. mark (is_member number ms) k) (phases_count plan g w (suc number) ns stages ms tells fine.1)
phases_count plan g w number ns stages ms tells fine = absurd (assumption fine)

-- ---- who has committed is at one

pub all_new : (g : ℕ) (ns : List ℕ) (hs : List Hart) (afters : List (Option Stage)) → AreAsMany ns hs afters → AllHaveCommitted (of_node g ns afters) → AllAreNew g ns afters
all_new g [] [] [] many all = tt
all_new g (n ∷ ns) (h ∷ hs) (a ∷ afters) many all = let parts = committed_parts (n == g) a (of_node g ns afters) all in (parts.0, all_new g ns hs afters many parts.1)
all_new g ns hs afters many all = absurd (assumption many)

module _ {S P D : Type 0} (source : Source S P D) (image : Image) (plan : Plan) (blocks : Blocks P D) (plan' : Plan) (blocks' : Blocks P D) where
  stands_fine : (t : Setting) (g : ℕ) (s : Stage) (m : Member) (p : P) → StandsAt source image plan' blocks' t g s m p → Fine plan' m.number s
  stands_fine t g Ended m p stands = tt
  stands_fine t g (Acts d inner) m p stands = tt
  stands_fine t g (Meets e v f) m p stands = (stands.0, stands.2)

  pub all_fine : (t : Setting) (g number : ℕ) (hs : List Hart) (ns ns' : List ℕ) (afters : List (Option Stage)) (stages : List Stage) (ps ps' : List P) → plan'.in_lockstep g ≡ false
      → AllHaveCommitted (of_node g ns' afters) → AllChange source image plan blocks plan' blocks' t (numbered number hs) ns ns' afters stages ps ps' → AllFine plan' g number ns' stages
  all_fine t g number [] [] [] [] [] [] [] free all change = tt
  all_fine t g number (h ∷ hs) (n ∷ ns) (n' ∷ ns') (a ∷ afters) (s ∷ stages) (p ∷ ps) (p' ∷ ps') free all change =
      let parts = committed_parts (n' == g) a (of_node g ns' afters) all in
      let m : Member = record { number = number; hart = h } in (
        λ e.
            let fresh = subst (λ c. Changes source image plan blocks plan' blocks' t m n n' c s p p') (parts.0 e) change.0 in
            stands_fine t n' s m p' (fresh.1 (ap (λ k. plan'.in_lockstep k) (eqb-true n' g e) ∙ free)),
        all_fine t g (suc number) hs ns ns' afters stages ps ps' free parts.1 change.1,
      )
  all_fine t g number hs ns ns' afters stages ps ps' free all change = absurd (assumption change)
