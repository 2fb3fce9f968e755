-- Who could act is to commit in time.
use Rattle.std.proofs.Common.{◌≡◌, ℕ, zero, suc, ◌+◌, ◌-◌, ◌≤◌, ◌<◌, List, [], ◌∷◌, length, Option, Some, None, Bool, true, false, cond, sym, ap, subst, ◌∙◌, refl, arith, inl, inr, ⊎_elim, eq-eqb}
use Rattle.std.specs.Prelude.{◌%◌, ◌==◌, ◌&&◌, nat_lt, map, slice_get, slice_index, is_some, is_none}
use Rattle.std.specs.List.{list_all}
use Rattle.std.proofs.lemmas.Bool.{cases_Bool, cases_eq, eqb-true, ne_eqb, and_parts, or_cases, or_left, false≢true}
use Rattle.std.proofs.lemmas.List.{length-map}
use Rattle.std.proofs.lemmas.Option.{slice_get_within}
use Rattle.fk_space.specs.Space.{Space}
use Rattle.fk_tree.specs.declared.node.Kind.{Kind}
use Rattle.fk_tree.specs.declared.node.Kind.TheVariants.{Lockstep, Waiting, Asynchronous}
use Rattle.fk_tree.specs.Tree as trees
use Rattle.fk_tree.specs.Tree.{Node, Tree, kind_of, is_member, has_ended, have_ended}
use Rattle.fk_tree.specs.Sound.{Has, awaits, IsSound}
use Rattle.fk_tree.proofs.Shapes.{from_parts}
use Rattle.fk_meaning_operation.specs.Kinds.{class_of, joint_of}
use Rattle.fk_meaning_operation.specs.declared.operation.Operation.{Operation}
use Rattle.fk_meaning_operation.specs.declared.operation.Operation.TheVariants.{Begin, Meet, Resume}
use Rattle.fk_meaning_operation.specs.declared.kinds.Joint.{Joint}
use Rattle.fk_meaning_operation.specs.declared.kinds.Joint.TheVariants.{Alone, Starting, AtBarrier, Closing, Resuming}
use Rattle.fk_meaning.specs.Processor.{Setting}
use Rattle.fk_meaning.specs.Round.{Step, Runner, State, Round, joint_due, joint_at, same_joint, body_of, all_do, joins, fits_kind, fits, all_fit, is_local, is_local_next, after_one, after_locals, are_local, may_act, all_may_act, begin, begin_all}
use Rattle.fk_meaning.specs.Schedule.{CouldAct}
use Rattle.fk_core.specs.declared.op.CoreOp.{CoreOp}
use Rattle.fk_core.specs.Next.{Position, next}
use Rattle.fk_image.specs.declared.Image.{Image}
use Rattle.fk_machine.specs.Hart.{Hart, Shared, Setting as MachineSetting}
use Rattle.fk_sim_nodes.specs.Node.{numbered, of_node}
use Rattle.fk_sim_nodes.specs.Phase.{Phase, Outside, Away, Coming, Waiting as Polling, Leaving, Each, HasTime}
use Rattle.fk_sim_match.specs.Stage.{Ending, Commits, Unites, Stage, Ended, Acts, Meets, distance, kept, phase_of}
use Rattle.fk_sim_match.specs.Plan.{Plan, Blocks, IsInside, IsOpen, phase_at, phases_from, phases, InLockstep}
use Rattle.fk_sim_block.specs.Owner.{Owner, Doing, core_source}
use Rattle.fk_sim_block.specs.Stands.{Places}
use Rattle.fk_sim_block.specs.Node.{Nestings}
use Rattle.fk_sim_block.specs.Joint.{lead}
use Rattle.fk_sim_match.specs.Nodes.{first_of, body_at, meeters_at, is_arrival, is_lockstep, plan_of, united}
use Rattle.fk_sim_match.specs.Behind.{blocks_of}
use Rattle.fk_sim_match.specs.Rounds.{joint_at_word, ending_of, MeetsAtWord, IsDueAt, AllDue}
use Rattle.fk_sim_match.specs.Laws.{TellsMeeters}
use Rattle.fk_sim_match.proofs.Nodes.{tells}
use Rattle.fk_sim_match.proofs.Rounds.{alive, not_none, given}
use Rattle.fk_sim_rounds.specs.Next.{JumpsLead}
use Rattle.fk_sim_rounds.specs.Comes.{most_between}
use Rattle.fk_sim_rounds.specs.After.{runners_of, ArePlaces}
use Rattle.fk_sim_rounds.proofs.Agreed.{place_at, some_elem}
use Rattle.fk_sim_rounds.proofs.Groups.{many_length}
use Rattle.fk_sim_rounds.specs.Beside.{landed_runner}
use Rattle.fk_sim_rounds.specs.Union.{IsUnited}
use Rattle.fk_sim_rounds.specs.Follow.{IsFollowed}
use Rattle.fk_sim_rounds.proofs.Landed.{next_landed}
use Rattle.fk_sim_runs.specs.Pace.{behind_leaving, IsInTime, AreInTime, ActsWithin}
use Rattle.fk_sim_runs.proofs.Stages.{acts_there, free_there, meets_there}
use Rattle.fk_sim_runs.proofs.Turning.{in_time_at}
use Rattle.fk_sim_runs.proofs.Soon.{near_begin_in_time}
use Rattle.fk_sim_runs.specs.Able.{WhoWaitsResumes, sight_of, united_sight_of, WhoCouldActWill, WhoHasUnitedWill}

-- ---- joint operations

-- no local operation is one
local_alone : (operation : Operation) → is_local (class_of operation) ≡ true → joint_of operation ≡ Alone
local_alone Begin e = absurd (false≢true e)
local_alone (Meet false) e = absurd (false≢true e)
local_alone (Meet true) e = absurd (false≢true e)
local_alone Resume e = absurd (false≢true e)
local_alone operation e = refl

same_is : (a b : Joint) → same_joint a b ≡ true → b ≡ a
same_is Alone Alone e = refl
same_is Starting Starting e = refl
same_is AtBarrier AtBarrier e = refl
same_is Closing Closing e = refl
same_is Resuming Resuming e = refl
same_is a b e = absurd (cc)

-- those at the words of a node that is no group
some_joint : (g : ℕ) (k : Kind) (offset : ℕ) → is_lockstep (Some k) ≡ false → is_arrival offset ≡ true → joint_at_word g (Some k) offset ≡ Alone → ⊥
some_joint g k zero free arrival e = cc
some_joint g Lockstep (suc zero) free arrival e = cc
some_joint g (Waiting first parts) (suc zero) free arrival e = cc
some_joint zero (Asynchronous alone) (suc zero) free arrival e = cc
some_joint (suc g) (Asynchronous alone) (suc zero) free arrival e = cc
some_joint g k (suc (suc i)) free arrival e = false≢true arrival

one_word : (g : ℕ) (k : Kind) (a b : ℕ) → is_lockstep (Some k) ≡ false → is_arrival a ≡ true → is_arrival b ≡ true → joint_at_word g (Some k) a ≡ joint_at_word g (Some k) b → a ≡ b
one_word g k zero zero free x y e = refl
one_word g k (suc zero) (suc zero) free x y e = refl
one_word g Lockstep zero (suc zero) free x y e = absurd (cc)
one_word g (Waiting first parts) zero (suc zero) free x y e = absurd (cc)
one_word zero (Asynchronous alone) zero (suc zero) free x y e = absurd (cc)
one_word (suc g) (Asynchronous alone) zero (suc zero) free x y e = absurd (cc)
one_word g Lockstep (suc zero) zero free x y e = absurd (cc)
one_word g (Waiting first parts) (suc zero) zero free x y e = absurd (cc)
one_word zero (Asynchronous alone) (suc zero) zero free x y e = absurd (cc)
one_word (suc g) (Asynchronous alone) (suc zero) zero free x y e = absurd (cc)
one_word g k (suc (suc a)) b free x y e = absurd (false≢true x)
one_word g k a (suc (suc b)) free x y e = absurd (false≢true y)

-- ---- elements

all_at : (f : ℕ → Bool) (ms : List ℕ) (m : ℕ) → list_all f ms ≡ true → is_member m ms ≡ true → f m ≡ true
all_at f [] m all is = absurd (false≢true is)
all_at f (n ∷ ms) m all is =
    let parts = and_parts (f n) (list_all f ms) all in
    ⊎_elim (λ e. ap f (eqb-true m n e) ∙ parts.0) (λ rest. all_at f ms m parts.1 rest) (or_cases (m == n) (is_member m ms) is)

each_from : (P : Phase → Type 0) (plan : Plan) (g w number : ℕ) (ns : List ℕ) (stages : List Stage)
    → ((h n : ℕ) (s : Stage) → slice_get ns h ≡ Some n → slice_get stages h ≡ Some s → P (phase_at (n == g) (plan.member w (number + h)) (phase_of w (plan.member w (number + h)) (Some s))))
    → Each P (phases_from plan g w number ns (kept stages))
each_from P plan g w number [] stages at = tt
each_from P plan g w number (n ∷ ns) [] at = tt
each_from P plan g w number (n ∷ ns) (s ∷ stages) at =
    let here : number + 0 ≡ number = omega arith in (
      subst (λ k. P (phase_at (n == g) (plan.member w k) (phase_of w (plan.member w k) (Some s)))) here (at 0 n s refl refl),
      each_from P plan g w (suc number) ns stages
          (λ h m x e f.
          let next : number + suc h ≡ suc number + h = omega arith in
          subst (λ k. P (phase_at (m == g) (plan.member w k) (phase_of w (plan.member w k) (Some x)))) next (at (suc h) m x e f)),
    )

-- ---- members of nodes

runs_among : (k : Kind) (ms : List ℕ) (m : ℕ) → is_member m (trees.runs k ms) ≡ true → is_member m ms ≡ true
runs_among (Asynchronous true) [] m is = is
runs_among (Asynchronous true) (h ∷ hs) m is =
    ⊎_elim (λ e. or_left (m == h) (is_member m hs) e) (λ none. absurd (false≢true none)) (or_cases (m == h) false is)
runs_among (Asynchronous false) ms m is = is
runs_among Lockstep ms m is = is
runs_among (Waiting first parts) ms m is = is

body_among : (k : Kind) (g : ℕ) (ms : List ℕ) (m : ℕ) → is_member m (body_at (Some k) g ms) ≡ true → is_member m ms ≡ true
body_among Lockstep g ms m is = is
body_among (Waiting first parts) zero ms m is = is
body_among (Waiting first parts) (suc g) ms m is = absurd (false≢true is)
body_among (Asynchronous alone) g ms m is = runs_among (Asynchronous alone) ms m is

meeters_among : (tree : Tree) (g : ℕ) (k : Kind) (offset m : ℕ) → trees.kind tree g ≡ Some k → is_member m (meeters_at tree g offset) ≡ true → Has tree g m
meeters_among tree g k zero m kind is = body_among k g (trees.members tree g) m (ap (λ o. is_member m (body_at o g (trees.members tree g))) (sym kind) ∙ is)
meeters_among tree g k (suc zero) m kind is = is
meeters_among tree g k (suc (suc i)) m kind is = absurd (false≢true is)

-- parts that have ended are no more
ended_at : (tree : Tree) (first parts c : ℕ) → have_ended tree first parts ≡ true → first ≤ c → c < first + parts → is_none (tree.nodes c) ≡ true
ended_at tree first zero c all ge lt = absurd (omega (arith, ge, lt))
ended_at tree first (suc k) c all ge lt =
    let parts = and_parts (has_ended tree (first + k)) (have_ended tree first k) all in
    ⊎_elim (λ e. ap (λ i. is_none (tree.nodes i)) e ∙ parts.0) (λ ne. ended_at tree first k c parts.1 ge (omega (arith, lt, ne))) (cases_eq c (first + k))

none_some : {A : Type 0} (o : Option A) → is_none o ≡ true → is_some o ≡ true → ⊥
none_some None e f = false≢true f
none_some (Some x) e f = false≢true e

module _ (p : ℕ) (tree : Tree) (sound : IsSound p tree) where
  stands_there : (g m : ℕ) → ((c : ℕ) → awaits (trees.kind tree g) c ≡ true → is_some (tree.nodes c) ≡ true → ⊥) → Has tree g m → tree.places m ≡ g
  stands_there g m none has =
      sym
      (sound.only m g
      (record {
        member = has;
        own = λ c ne up has'.
            let some = alive (tree.nodes c) m has' in
            none c (subst (λ j. awaits (trees.kind tree j) c ≡ true) up (sound.awaited c ne (not_none (tree.nodes c) some))) some;
      }))

  -- where a joint operation may be done at a word of a node, all who do it stand there
  all_there : (g m : ℕ) (k : Kind) (round : Round) (does : ℕ → Joint) (offset : ℕ) → trees.kind tree g ≡ Some k → is_lockstep (Some k) ≡ false → is_arrival offset ≡ true
      → ((first parts : ℕ) → k ≡ Waiting first parts → offset ≡ 1) → joins round does tree g (joint_at_word g (Some k) offset) ≡ true → Has tree g m → tree.places m ≡ g
  all_there g m Lockstep round does offset kind free arrival waits may has = absurd (cc)
  all_there g m (Asynchronous alone) round does offset kind free arrival waits may has =
      stands_there g m (λ c awaited some. false≢true (subst (λ o. awaits o c ≡ true) kind awaited)) has
  all_there g m (Waiting first parts) round does offset kind free arrival waits may has =
      let one = waits first parts refl in
      let resume = subst (λ i. joins round does tree g (joint_at_word g (Some (Waiting first parts)) i) ≡ true) one may in
      let ready = subst (λ o. trees.is_ready tree o ≡ true) kind (and_parts (trees.ready tree g) (all_do round does Resuming (trees.members tree g)) resume).0 in
      stands_there g m
      (λ c awaited some.
      let from = from_parts first parts c (subst (λ o. awaits o c ≡ true) kind awaited) in
      none_some (tree.nodes c) (ended_at tree first parts c ready from.0 from.1) some) has

-- what holds of those who run a body holds of those who meet at its first word
body_all : (f : ℕ → Bool) (k : Kind) (g : ℕ) (ms : List ℕ) → list_all f (body_of (Some k) ms) ≡ true → list_all f (body_at (Some k) g ms) ≡ true
body_all f Lockstep g ms all = all
body_all f (Waiting first parts) zero ms all = all
body_all f (Waiting first parts) (suc g) ms all = refl
body_all f (Asynchronous alone) g ms all = all

-- and so all do it
all_join : (round : Round) (does : ℕ → Joint) (tree : Tree) (g : ℕ) (k : Kind) (offset : ℕ) → trees.kind tree g ≡ Some k → is_lockstep (Some k) ≡ false → is_arrival offset ≡ true
    → joins round does tree g (joint_at_word g (Some k) offset) ≡ true → all_do round does (joint_at_word g (Some k) offset) (meeters_at tree g offset) ≡ true
all_join round does tree g k zero kind free arrival may =
    let ms = trees.members tree g in
    let one : ℕ → Bool = λ h. slice_index round h == 1 && same_joint AtBarrier (does h) in
    subst (λ o. list_all one (body_at o g ms) ≡ true) (sym kind) (body_all one k g ms (subst (λ o. list_all one (body_of o ms) ≡ true) kind may))
all_join round does tree g Lockstep (suc zero) kind free arrival may = absurd (cc)
all_join round does tree g (Waiting first parts) (suc zero) kind free arrival may = (and_parts (trees.ready tree g) (all_do round does Resuming (trees.members tree g)) may).1
all_join round does tree zero (Asynchronous alone) (suc zero) kind free arrival may = may
all_join round does tree (suc g) (Asynchronous alone) (suc zero) kind free arrival may = may
all_join round does tree g k (suc (suc i)) kind free arrival may = absurd (false≢true arrival)

-- ---- one in a round

module _ (core : List CoreOp) (setting : Setting) where
  record ActsIn (rs : List (Runner Position)) (joint : Joint) (h c : ℕ) : Type 0 where
    runner : Runner Position
    at : slice_get rs h ≡ Some runner
    may : may_act (next core) setting c runner ≡ true
    does : joint ≡ joint_due (begin (next core) setting c runner).due

  acts_in : (round : Round) (rs : List (Runner Position)) (h : ℕ) → all_may_act (next core) setting round rs ≡ true → 0 < slice_index round h
      → ActsIn rs (joint_at (begin_all (next core) setting round rs) h) h (slice_index round h)
  acts_in [] rs h may within = absurd (omega (arith, within))
  acts_in (c ∷ round) [] h may within = absurd (false≢true may)
  acts_in (c ∷ round) (r ∷ rs) zero may within =
      record { runner = r; at = refl; may = (and_parts (may_act (next core) setting c r) (all_may_act (next core) setting round rs) may).0; does = refl }
  acts_in (c ∷ round) (r ∷ rs) (suc h) may within =
      let x = acts_in round rs h (and_parts (may_act (next core) setting c r) (all_may_act (next core) setting round rs) may).1 within in
      record { runner = x.runner; at = x.at; may = x.may; does = x.does }

  -- it has an operation ahead, and where that is joint, does no other
  record HasAhead (c : ℕ) (r : Runner Position) : Type 0 where
    step : Step Position
    ahead : next core r.left ≡ Some step
    only : (joint_of step.operation ≡ Alone → ⊥) → c ≡ 1

  ahead_of : (o : Option (Step Position)) → is_some o ≡ true → (step : Step Position) × (o ≡ Some step)
  ahead_of None is = absurd (false≢true is)
  ahead_of (Some step) is = (step, refl)

  local_step : (o : Option (Step Position)) → is_local_next (next core) setting o ≡ true → (step : Step Position) × (o ≡ Some step) × (joint_of step.operation ≡ Alone)
  local_step None is = absurd (false≢true is)
  local_step (Some step) is = (step, refl, local_alone step.operation is)

  has_ahead : (c : ℕ) (r : Runner Position) → 0 < c → may_act (next core) setting c r ≡ true → HasAhead c r
  has_ahead zero r lt may = absurd (omega (arith, lt))
  has_ahead (suc zero) r lt may =
      let one = ahead_of (next core r.left) (and_parts (nat_lt 0 255 && are_local (next core) setting 0 r) (is_some (next core r.left)) may).1 in
      record { step = one.0; ahead = one.1; only = λ joint. refl }
  has_ahead (suc (suc c)) r lt may =
      let all = (and_parts (nat_lt (suc c) 255 && are_local (next core) setting (suc c) r) (is_some (next core (after_locals (next core) setting (suc c) r).left)) may).0 in
      let locals = (and_parts (nat_lt (suc c) 255) (are_local (next core) setting (suc c) r) all).1 in
      let one = local_step (next core r.left) (and_parts (is_local_next (next core) setting (next core r.left)) (are_local (next core) setting c (after_one (next core) setting r)) locals).0 in
      record { step = one.0; ahead = one.1; only = λ joint. absurd (joint one.2) }

fits_at : (round : Round) (does : ℕ → Joint) (tree : Tree) (number : ℕ) (counts : List ℕ) (h k : ℕ) → number + h ≡ k → all_fit round does tree number counts ≡ true → 0 < slice_index counts h
    → fits round does tree k (slice_index counts h) ≡ true
fits_at round does tree number [] h k e all lt = absurd (omega (arith, lt))
fits_at round does tree number (c ∷ counts) zero k e all lt =
    let same : number ≡ k = omega (arith, e) in
    subst (λ j. fits round does tree j c ≡ true) same (and_parts (fits round does tree number c) (all_fit round does tree (suc number) counts) all).0
fits_at round does tree number (c ∷ counts) (suc h) k e all lt =
    fits_at round does tree (suc number) counts h k (omega (arith, e)) (and_parts (fits round does tree number c) (all_fit round does tree (suc number) counts) all).1 lt

-- by itself it may join others
free_joins : (round : Round) (does : ℕ → Joint) (tree : Tree) (h c n : ℕ) (k : Kind) → is_lockstep (Some k) ≡ false → fits_kind round does tree h n (Some k) ≡ true → joins round does tree n (does h) ≡ true
free_joins round does tree h c n Lockstep free may = absurd (cc)
free_joins round does tree h c n (Waiting first parts) free may = may
free_joins round does tree h c n (Asynchronous alone) free may = may

fits_some : (round : Round) (does : ℕ → Joint) (tree : Tree) (h c : ℕ) → 0 < c → fits round does tree h c ≡ true → fits_kind round does tree h (tree.places h) (trees.kind tree (tree.places h)) ≡ true
fits_some round does tree h zero lt may = absurd (omega (arith, lt))
fits_some round does tree h (suc c) lt may = may

-- ---- how a hart stands

-- who has entered in time has time to leave
has_time : (e : Ending) (w : ℕ) (f : Phase) → IsInside f → IsInTime (Meets e w f) → HasTime lead (most_between - behind_leaving e) f
has_time e w Outside inside few = absurd inside
has_time e w Away inside few = absurd inside
has_time Commits w (Coming d) inside few = omega (arith, few)
has_time Unites w (Coming d) inside few = omega (arith, few)
has_time e w Polling inside few = tt
has_time Commits w (Leaving d) inside few = omega (arith, few)
has_time Unites w (Leaving d) inside few = omega (arith, few)

near_time : (e : Ending) (odd : ℕ) → lead + 2 ≤ most_between - behind_leaving e + odd
near_time Commits odd = omega arith
near_time Unites odd = omega arith

whole_time : (e : Ending) → most_between - behind_leaving e + behind_leaving e ≤ most_between
whole_time Commits = omega arith
whole_time Unites = omega arith

-- who is no member is outside
outside_of : (w : ℕ) (st : Stage) → ((e : Ending) (f : Phase) → st ≡ Meets e w f → ⊥) → phase_of w false (Some st) ≡ Outside
outside_of w Ended none = refl
outside_of w (Acts d inner) none = refl
outside_of w (Meets e v f) none =
    ⊎_elim (λ same. absurd (none e f (ap (λ u. Meets e u f) same))) (λ ne. ap (λ b. cond b f Outside) (ne_eqb v w ne)) (cases_eq v w)

outside_at : (b : Bool) (f : Phase) → f ≡ Outside → phase_at b false f ≡ Outside
outside_at true f e = e
outside_at false f e = refl

kind_there : (o : Option Node) → is_some o ≡ true → (k : Kind) × (kind_of o ≡ Some k)
kind_there None is = absurd (false≢true is)
kind_there (Some node) is = (node.kind, refl)

arrival_below : (offset : ℕ) → is_arrival offset ≡ true → offset < 8
arrival_below zero is = omega arith
arrival_below (suc zero) is = omega arith
arrival_below (suc (suc i)) is = absurd (false≢true is)

resume_word : (g first parts offset : ℕ) → is_arrival offset ≡ true → joint_at_word g (Some (Waiting first parts)) offset ≡ Resuming → offset ≡ 1
resume_word g first parts zero is e = absurd (cc)
resume_word g first parts (suc zero) is e = refl
resume_word g first parts (suc (suc i)) is e = absurd (false≢true is)

module _ (core : List CoreOp) (tree : Tree) (spaces : ℕ → Space) where
  record Here (ns : List ℕ) (stages : List Stage) (rs : List (Runner Position)) (h k : ℕ) : Type 0 where
    stage : Stage
    at : slice_get stages h ≡ Some stage
    runner : Runner Position
    runs : slice_get rs h ≡ Some runner
    node : slice_get ns h ≡ Some (tree.places k)
    due : IsDueAt core tree spaces (tree.places k) stage (landed_runner core runner)
    in_time : IsInTime stage

  here_at : (number : ℕ) (ns : List ℕ) (stages : List Stage) (rs : List (Runner Position)) (h k : ℕ) → number + h ≡ k → h < length ns → length ns ≡ length stages → ArePlaces tree number ns
      → AllDue core tree spaces number stages (map (landed_runner core) rs) → AreInTime stages → Here ns stages rs h k
  here_at number [] stages rs h k e lt many stand due few = absurd (omega (arith, lt))
  here_at number (n ∷ ns) [] rs h k e lt many stand due few = absurd (omega (arith, many))
  here_at number (n ∷ ns) (x ∷ stages) [] h k e lt many stand due few = absurd due
  here_at number (n ∷ ns) (x ∷ stages) (r ∷ rs) zero k e lt many stand due few =
      let same : number ≡ k = omega (arith, e) in
      subst (λ j. Here (n ∷ ns) (x ∷ stages) (r ∷ rs) 0 j) same
      (record { stage = x; at = refl; runner = r; runs = refl; node = ap (λ j. Some j) stand.0; due = due.1; in_time = few.0 })
  here_at number (n ∷ ns) (x ∷ stages) (r ∷ rs) (suc h) k e lt many stand due few =
      let y = here_at (suc number) ns stages rs h k (omega (arith, e)) (omega (arith, lt)) (omega (arith, many)) stand.1 due.2 few.1 in
      record { stage = y.stage; at = y.at; runner = y.runner; runs = y.runs; node = y.node; due = y.due; in_time = y.in_time }

-- one in a round is one of the runners
within_runners : (core : List CoreOp) (setting : Setting) (rs : List (Runner Position)) (round : Round) (h : ℕ) → all_may_act (next core) setting round rs ≡ true → 0 < slice_index round h → h < length rs
within_runners core setting rs [] h may within = absurd (omega (arith, within))
within_runners core setting [] (c ∷ round) h may within = absurd (false≢true may)
within_runners core setting (r ∷ rs) (c ∷ round) zero may within = omega arith
within_runners core setting (r ∷ rs) (c ∷ round) (suc h) may within =
    let lt = within_runners core setting rs round h (and_parts (may_act (next core) setting c r) (all_may_act (next core) setting round rs) may).1 within in
    omega (arith, lt)

length_of : (core : List CoreOp) (ps : List Owner) (rs : List (Runner Position)) → runners_of ps ≡ map (landed_runner core) rs → length rs ≡ length ps
length_of core ps rs same = sym (length-map rs (landed_runner core)) ∙ ap (λ l. length l) (sym same) ∙ length-map ps (λ p. p.runner)

-- ---- in a followed state

module _ (core : List CoreOp) (image : Image) (places : Places) (nestings : Nestings) (setting : Setting) (spaces : ℕ → Space) (s : State Position) (nodes : List ℕ) (t : MachineSetting) (printed : List ℕ)
    (stages : List Stage) (hs : List Hart) (sh : Shared) (leads : JumpsLead core) (followed : IsFollowed core image places nestings setting spaces s nodes t printed stages hs sh)
    (in_time : AreInTime stages) (waits : WhoWaitsResumes core s) where
  abbrev plan : Plan
  plan = plan_of s.tree spaces nodes

  abbrev blocks : Blocks Owner Doing
  blocks = blocks_of core image places nestings setting (plan_of s.tree spaces nodes) (first_of spaces)

  many : length nodes ≡ setting.processors
  many = let e = followed.before in e.many

  here : (h : ℕ) → h < setting.processors → Here core s.tree spaces nodes stages s.runners h h
  here h lt =
      let size = many in
      let before = followed.before in
      here_at core s.tree spaces 0 nodes stages s.runners h h (omega arith) (omega (arith, lt, size)) (many_length nodes hs stages followed.bound.stages_as_many).1 before.stand
      (subst (AllDue core s.tree spaces 0 stages) followed.beside.runners before.due) in_time

  -- who meets at a word is at a node that is no group
  free_at : (h g w : ℕ) (e : Ending) (f : Phase) → slice_get nodes h ≡ Some g → slice_get stages h ≡ Some (Meets e w f) → is_lockstep (trees.kind s.tree g) ≡ false
  free_at h g w e f node at = free_there (core_source core setting) image plan blocks t stages hs followed.ps (λ k. sh.control) followed.bound h g w e f node at

  member_at : (h g w : ℕ) (e : Ending) (f : Phase) → slice_get nodes h ≡ Some g → slice_get stages h ≡ Some (Meets e w f) → IsInside f × IsOpen plan g w × (plan.member w h ≡ true)
  member_at h g w e f node at = meets_there (core_source core setting) image plan blocks t stages hs followed.ps (λ k. sh.control) followed.bound h g w e f node at

  -- ---- one in an allowed round

  module _ (round : Round) (may : all_may_act (next core) setting round s.runners ≡ true)
      (fit : all_fit round (joint_at (begin_all (next core) setting round s.runners)) s.tree 0 round ≡ true) where
    abbrev does : ℕ → Joint
    does = joint_at (begin_all (next core) setting round s.runners)

    -- its next operation is the one that it does with count 1
    record Does (m : ℕ) : Type 0 where
      stands : Here core s.tree spaces nodes stages s.runners m m
      step : Step Position
      ahead : next core (landed_runner core stands.runner).left ≡ Some step
      only : (joint_of step.operation ≡ Alone → ⊥) → slice_index round m ≡ 1
      joint : slice_index round m ≡ 1 → does m ≡ joint_of step.operation

    does_one : (m : ℕ) → m < setting.processors → 0 < slice_index round m → Does m
    does_one m lt within =
        let x = here m lt in
        let a = acts_in core setting round s.runners m may within in
        let z = has_ahead core setting (slice_index round m) a.runner within a.may in
        let at = a.at in
        let runs = x.runs in
        let same : a.runner ≡ x.runner = cc in
        record {
          stands = x;
          step = z.step;
          ahead = next_landed core leads x.runner.left ∙ ap (λ r. next core r.left) (sym same) ∙ z.ahead;
          only = z.only;
          joint = λ one. a.does ∙ ap (λ c. joint_due (begin (next core) setting c a.runner).due) one ∙ ap joint_due z.ahead;
        }

    module _ (h : ℕ) (lt : h < setting.processors) (within : 0 < slice_index round h) (e : Ending) (w : ℕ) (f : Phase) (at : slice_get stages h ≡ Some (Meets e w f))
        (x : Does h) (inside : IsInside f) (meets : MeetsAtWord core s.tree spaces e (s.tree.places h) w (landed_runner core x.stands.runner)) (k : Kind)
        (kind : trees.kind s.tree (s.tree.places h) ≡ Some k) where
      abbrev g : ℕ
      g = s.tree.places h

      abbrev shared : Joint
      shared = joint_at_word (s.tree.places h) (Some k) meets.offset

      abbrev ms : List ℕ
      ms = meeters_at s.tree (s.tree.places h) meets.offset

      sound : IsSound setting.processors s.tree
      sound = let before = followed.before in before.sound

      free : is_lockstep (Some k) ≡ false
      free = ap is_lockstep (sym kind) ∙ free_at h g w e f x.stands.node at

      told : TellsMeeters s.tree plan g meets.offset (first_of spaces g + meets.offset)
      told =
          let lives = alive (s.tree.nodes g) h (sound.placed h lt).member in
          tells s.tree spaces followed.before.spaced nodes g meets.offset lives (given setting.processors s.tree sound g lives) (arrival_below meets.offset meets.arrival)

      member_is : (m : ℕ) → plan.member w m ≡ is_member m ms
      member_is m = ap (λ u. plan.member u m) meets.word_is ∙ told.member m

      step_is : x.step ≡ meets.step
      step_is = let a = x.ahead in let b = meets.next_is in cc

      joint_is : joint_of x.step.operation ≡ shared
      joint_is = ap (λ y. joint_of y.operation) step_is ∙ meets.joint ∙ ap (λ o. joint_at_word g o meets.offset) kind

      one : slice_index round h ≡ 1
      one = x.only (λ alone. some_joint g k meets.offset free meets.arrival (sym joint_is ∙ alone))

      may_join : joins round does s.tree g shared ≡ true
      may_join =
          let fits_it = fits_some round does s.tree h (slice_index round h) within (fits_at round does s.tree 0 round h h (omega arith) fit within) in
          subst (λ j. joins round does s.tree g j ≡ true) (x.joint one ∙ joint_is)
          (free_joins round does s.tree h (slice_index round h) g k free (subst (λ o. fits_kind round does s.tree h g o ≡ true) kind fits_it))

      waiting : (first parts : ℕ) → k ≡ Waiting first parts → meets.offset ≡ 1
      waiting first parts is =
          let resumes = waits h first parts x.stands.runner x.step (kind ∙ ap (λ j. Some j) is) x.stands.runs (sym (next_landed core leads x.stands.runner.left) ∙ x.ahead) in
          resume_word g first parts meets.offset meets.arrival (ap (λ j. joint_at_word g (Some j) meets.offset) (sym is) ∙ sym joint_is ∙ resumes)

      -- all whom it meets have entered
      record Enters (m : ℕ) : Type 0 where
        place : s.tree.places m ≡ g
        phase : Phase
        stage : slice_get stages m ≡ Some (Meets e w phase)
        entered : IsInside phase
        timely : IsInTime (Meets e w phase)

      enters_by : (m : ℕ) (y : Does m) → s.tree.places m ≡ g → joint_of y.step.operation ≡ shared → (st : Stage) → slice_get stages m ≡ Some st
          → IsDueAt core s.tree spaces (s.tree.places m) st (landed_runner core y.stands.runner) → IsInTime st → Enters m
      enters_by m y place same Ended there due timely = absurd (let a = sym y.ahead ∙ due in cc)
      enters_by m y place same (Acts d inner) there due timely =
          let a = y.ahead in
          let b = due.next_is in
          let is : y.step ≡ due.step = cc in
          let alone = due.joint (ap (λ n. is_lockstep (trees.kind s.tree n)) place ∙ ap is_lockstep kind ∙ free) in
          absurd (some_joint g k meets.offset free meets.arrival (sym same ∙ ap (λ z. joint_of z.operation) is ∙ alone))
      enters_by m y place same (Meets e' w' f') there due timely =
          let at_word = subst (λ n. MeetsAtWord core s.tree spaces e' n w' (landed_runner core y.stands.runner)) place due.1 in
          let a = y.ahead in
          let b = at_word.next_is in
          let is : y.step ≡ at_word.step = cc in
          let there' = sym (ap (λ o. joint_at_word g o at_word.offset) kind) ∙ sym at_word.joint ∙ ap (λ z. joint_of z.operation) (sym is) ∙ same in
          let offset = one_word g k at_word.offset meets.offset free at_word.arrival meets.arrival there' in
          let word = meets.word_is in
          let word' = at_word.word_is in
          let same_word : w' ≡ w = omega (arith, offset, word, word') in
          let same_end : e' ≡ e = at_word.ends ∙ ap (λ o. ending_of (joint_at_word g (trees.kind s.tree g) o)) offset ∙ sym meets.ends in
          record {
            place = place;
            phase = f';
            stage = there ∙ ap (λ u. Some (Meets e' u f')) same_word ∙ ap (λ u. Some (Meets u w f')) same_end;
            entered = due.0;
            timely = subst (λ u. IsInTime (Meets u w f')) same_end (subst (λ u. IsInTime (Meets e' u f')) same_word timely);
          }

      enters : (m : ℕ) → is_member m ms ≡ true → Enters m
      enters m is =
          let has = meeters_among s.tree g k meets.offset m kind is in
          let place = all_there setting.processors s.tree sound g m k round does meets.offset kind free meets.arrival waiting may_join has in
          let it = all_at (λ i. (slice_index round i == 1) && same_joint shared (does i)) ms m (all_join round does s.tree g k meets.offset kind free meets.arrival may_join) is in
          let both = and_parts (slice_index round m == 1) (same_joint shared (does m)) it in
          let count = eqb-true (slice_index round m) 1 both.0 in
          let y = does_one m (sound.within g m has) (omega (arith, count)) in
          enters_by m y place (sym (y.joint count) ∙ same_is shared (does m) both.1) y.stands.stage y.stands.at y.stands.due y.stands.in_time

      abbrev steps : ℕ
      steps = most_between - behind_leaving e

      abbrev In : Phase → Type 0
      In p = HasTime lead (most_between - behind_leaving e) p

      has_entered : (i n : ℕ) (st : Stage) → slice_get nodes i ≡ Some n → slice_get stages i ≡ Some st → s.tree.places i ≡ n → Enters i → plan.member w i ≡ true
          → In (phase_at (n == g) (plan.member w i) (phase_of w (plan.member w i) (Some st)))
      has_entered i n st node there place en member =
          let stage = en.stage in
          let is : st ≡ Meets e w en.phase = cc in
          subst In
          (sym
          (ap (λ b. phase_at b (plan.member w i) (phase_of w (plan.member w i) (Some st))) (eq-eqb n g (sym place ∙ en.place))
          ∙ ap (λ b. phase_of w b (Some st)) member ∙ ap (λ y. phase_of w true (Some y)) is ∙ ap (λ b. cond b en.phase Away) (eq-eqb w w refl)))
          (has_time e w en.phase en.entered en.timely)

      is_out : (i n : ℕ) (st : Stage) → slice_get nodes i ≡ Some n → slice_get stages i ≡ Some st → plan.member w i ≡ false
          → In (phase_at (n == g) (plan.member w i) (phase_of w (plan.member w i) (Some st)))
      is_out i n st node there out =
          subst In
          (sym
          (ap (λ b. phase_at (n == g) b (phase_of w b (Some st))) out
          ∙ outside_at (n == g) (phase_of w false (Some st))
          (outside_of w st (λ e' f' is. false≢true (sym out ∙ (member_at i n w e' f' node (there ∙ ap (λ y. Some y) is)).2)))))
          tt

      time : Each (HasTime lead (most_between - behind_leaving e)) (phases plan g w (kept stages))
      time =
          each_from In plan g w 0 nodes stages
          (λ i n st node there.
          let below = slice_get_within nodes i n node in
          let size = many in
          let y = here i (omega (arith, below, size)) in
          let node' = y.node in
          let place : s.tree.places i ≡ n = cc in
          let zero_is : i ≡ 0 + i = omega arith in
          subst (λ j. In (phase_at (n == g) (plan.member w j) (phase_of w (plan.member w j) (Some st)))) zero_is
          (⊎_elim (λ is. has_entered i n st node there place (enters i (sym (member_is i) ∙ is)) is) (λ no. is_out i n st node there no) (cases_Bool (plan.member w i))))

      meets_all : ActsWithin (sight_of s.tree spaces nodes stages sh.control t.finished) h most_between
      meets_all = inr (record {
        ending = e;
        node = g;
        word = w;
        phase = f;
        stands = record { here = x.stands.node; at = at; member = (member_at h g w e f x.stands.node at).2; inside = inside };
        steps = steps;
        due = record { time = time; near = inl (near_time e (t.finished % 2)) };
        in_time = whole_time e;
      })

    will_by : (h : ℕ) → h < setting.processors → 0 < slice_index round h → (x : Does h) (st : Stage) → slice_get stages h ≡ Some st
        → IsDueAt core s.tree spaces (s.tree.places h) st (landed_runner core x.stands.runner) → IsInTime st → ActsWithin (sight_of s.tree spaces nodes stages sh.control t.finished) h most_between
    will_by h lt within x Ended there due timely = absurd (let a = sym x.ahead ∙ due in cc)
    will_by h lt within x (Acts d inner) there due timely = inl (record { stage = Acts d inner; at = there; left = d; is = refl; in_time = timely })
    will_by h lt within x (Meets e w f) there due timely =
        let before = followed.before in
        let k = kind_there (s.tree.nodes (s.tree.places h)) (alive (s.tree.nodes (s.tree.places h)) h (before.sound.placed h lt).member) in
        meets_all h lt within e w f there x due.0 due.1 k.0 k.1

  will : (h : ℕ) → CouldAct (next core) setting h s → ActsWithin (sight_of s.tree spaces nodes stages sh.control t.finished) h most_between
  will h c =
      let parts = and_parts (all_may_act (next core) setting c.round s.runners) (all_fit c.round (joint_at (begin_all (next core) setting c.round s.runners)) s.tree 0 c.round) c.allowed in
      let before = followed.before in
      let below = within_runners core setting s.runners c.round h parts.0 c.within in
      let long = length_of core followed.ps s.runners followed.beside.runners in
      let as_many = (many_length nodes hs followed.ps before.as_many).1 in
      let size = many in
      let lt : h < setting.processors = omega (arith, below, long, as_many, size) in
      let x = does_one c.round parts.0 parts.1 h lt c.within in
      will_by c.round parts.0 parts.1 h lt c.within x x.stands.stage x.stands.at x.stands.due x.stands.in_time

-- ---- where all have met at the beginning of `start`

module _ (core : List CoreOp) (image : Image) (places : Places) (nestings : Nestings) (setting : Setting) (spaces : ℕ → Space) (s : State Position) (nodes : List ℕ) (t : MachineSetting) (printed : List ℕ)
    (stages : List Stage) (hs : List Hart) (sh : Shared) (followed : IsUnited core image places nestings setting spaces s nodes t printed stages hs sh) where
  -- all are in lockstep in the root, at one distance from their commit
  acts : (h : ℕ) → h < length nodes → (x : Stage) → slice_get stages h ≡ Some x → (d : ℕ) × (inner : ℕ) × (x ≡ Acts d inner)
  acts h lt x at =
      let before = followed.before in
      let size = before.many in
      let plan = united (plan_of s.tree spaces nodes) in
      let blocks = blocks_of core image places nestings setting (united (plan_of s.tree spaces nodes)) (first_of spaces) in
      let group : InLockstep (core_source core setting) image plan blocks t 0 (of_node 0 nodes stages) (of_node 0 nodes (numbered 0 hs)) (of_node 0 nodes followed.ps) sh.control = followed.bound.binds 0 in
      let same : 0 + h ≡ h = omega arith in
      let here = place_at s.tree 0 h nodes before.stand lt ∙ ap (λ k. Some (s.tree.places k)) same ∙ ap (λ k. Some k) (before.in_root h (omega (arith, lt, size))) in
      (group.distance, group.inner, acts_there (core_source core setting) image plan blocks t group.distance group.inner 0 0 nodes stages hs followed.ps h x followed.bound.as_many followed.bound.stages_as_many group.alike here at)

  united_will : (h : ℕ) → CouldAct (next core) setting h s → ActsWithin (united_sight_of s.tree spaces nodes stages sh.control t.finished) h most_between
  united_will h c =
      let parts = and_parts (all_may_act (next core) setting c.round s.runners) (all_fit c.round (joint_at (begin_all (next core) setting c.round s.runners)) s.tree 0 c.round) c.allowed in
      let below = within_runners core setting s.runners c.round h parts.0 c.within in
      let long = length_of core followed.ps s.runners followed.beside.runners in
      let many = many_length nodes hs followed.ps followed.bound.as_many in
      let owners = many.1 in
      let as_many = (many_length nodes hs stages followed.bound.stages_as_many).1 in
      let lt : h < length nodes = omega (arith, below, long, owners) in
      let x = some_elem stages h (omega (arith, lt, as_many)) in
      let d = acts h lt x.is x.at in
      let acts_is = d.2 in
      inl
      (record {
        stage = x.is;
        at = x.at;
        left = d.0;
        is = ap distance acts_is;
        in_time = subst IsInTime acts_is (in_time_at stages h x.is (near_begin_in_time stages followed.near) x.at);
      })

pub who_has_united_will : WhoHasUnitedWill
who_has_united_will core image places nestings setting spaces s nodes t printed stages hs sh h followed could =
    united_will core image places nestings setting spaces s nodes t printed stages hs sh followed h could

pub who_could_act_will : WhoCouldActWill
who_could_act_will core image places nestings setting spaces s nodes t printed stages hs sh h leads followed in_time waits could =
    will core image places nestings setting spaces s nodes t printed stages hs sh leads followed in_time waits h could
