-- The pace, from one round to the next.
use Rattle.std.proofs.Common.{◌≡◌, ◌≢◌, ℕ, zero, suc, ◌+◌, ◌-◌, ◌≤◌, ◌<◌, List, [], ◌∷◌, ◌++◌, length, take, Some, sym, ap, subst, refl, arith, ◌⊎◌, inl, inr, ⊎_elim, length-append}
use Rattle.std.specs.Prelude.{slice_get, slice_index}
use Rattle.std.proofs.lemmas.Bool.{cases_lt}
use Rattle.std.proofs.lemmas.List.{take-append-le, take_all}
use Rattle.std.proofs.lemmas.Option.{slice_get_within}
use Rattle.fk_meaning.specs.Processor.{Setting}
use Rattle.fk_meaning.specs.Round.{State, Round}
use Rattle.fk_meaning.specs.Schedule.{Schedule, run, CouldAct, KeepsPace}
use Rattle.fk_core.specs.declared.op.CoreOp.{CoreOp}
use Rattle.fk_core.specs.Next.{Position, next}
use Rattle.fk_sim_nodes.specs.Phase.{Phase, Outside, Away, Coming, Waiting, Leaving, Each, Leaves, IsDue}
use Rattle.fk_sim_nodes.specs.Meeting.{IsKept}
use Rattle.fk_sim_nodes.proofs.Leaving.{cycles_keep_arrivals}
use Rattle.fk_sim_match.specs.Stage.{Ending, Commits, Unites, Stage, Meets, Acts, distance, counts_for, Nears, kept}
use Rattle.fk_sim_match.specs.Plan.{Plan, IsInside, phases_from, phases}
use Rattle.fk_sim_match.proofs.Pace.{who_is_near_acts}
use Rattle.fk_sim_block.specs.Joint.{lead}
use Rattle.fk_sim_rounds.specs.Comes.{most_between}
use Rattle.fk_sim_runs.proofs.Stages.{related_at, kept_get, meets_get}
use Rattle.fk_sim_block.specs.Start.{most_united}
use Rattle.fk_sim_runs.specs.Pace.{behind_leaving, Sight, StandsAtWord, MovesOn, Turns, ActsWithin, IsInSince, CouldActSince, AreWaiting, PacesGoOn, PacesAreKept}

-- ---- elements of lists

get_append : {A : Type 0} (xs ys : List A) (k : ℕ) (x : A) → slice_get xs k ≡ Some x → slice_get (xs ++ ys) k ≡ Some x
get_append [] ys k x e = absurd (cc)
get_append (y ∷ xs) ys zero x e = e
get_append (y ∷ xs) ys (suc k) x e = get_append xs ys k x e

get_seam : {A : Type 0} (xs : List A) (y : A) → slice_get (xs ++ y ∷ []) (length xs) ≡ Some y
get_seam [] y = refl
get_seam (x ∷ xs) y = get_seam xs y

one_more : {A : Type 0} (xs : List A) (y : A) → length (xs ++ y ∷ []) ≡ suc (length xs)
one_more xs y = let e = length-append xs (y ∷ []) in omega (arith, e)

each_get : (P : Phase → Type 0) (fs : List Phase) (h : ℕ) (f : Phase) → Each P fs → slice_get fs h ≡ Some f → P f
each_get P [] h f all at = absurd (cc)
each_get P (g ∷ fs) zero f all at = let same : g ≡ f = cc in subst P same all.0
each_get P (g ∷ fs) (suc h) f all at = each_get P fs h f all.1 at

among : (v : Sight) (h : ℕ) (e : Ending) (g w : ℕ) (f : Phase) → StandsAtWord v h e g w f → slice_get (phases v.plan g w (kept v.stages)) h ≡ Some f
among v h e g w f x = meets_get v.plan g w (kept v.stages) h e f x.here (kept_get v.stages h (Meets e w f) x.at) x.member

-- ---- one cycle: one that is to commit does so, or has a cycle less to go

commits_now : (v : Sight) (h : ℕ) (s : Stage) → slice_get v.stages h ≡ Some s → distance s ≡ Some 0 → 0 < slice_index (counts_for v.stages) h
commits_now v h s at is = who_is_near_acts (λ i. v.stages) h 0 0 s at is (λ i lt. absurd (omega (arith, lt)))

record Sooner (v' : Sight) (h cycles : ℕ) : Type 0 where
  left : ℕ
  less : cycles ≡ suc left
  acts : ActsWithin v' h left

sooner : (v' : Sight) (h cycles : ℕ) (k : ℕ) → k < cycles → ((left : ℕ) → k ≤ left → ActsWithin v' h left) → Sooner v' h cycles
sooner v' h zero k lt acts = absurd (omega (arith, lt))
sooner v' h (suc c) k lt acts = record { left = c; less = refl; acts = acts c (omega (arith, lt)) }

leaving_now : (f : Phase) → IsInside f → Leaves 0 f → f ≡ Leaving 0
leaving_now Outside inside leaves = absurd inside
leaving_now Away inside leaves = absurd inside
leaving_now (Coming d) inside leaves = absurd leaves
leaving_now Waiting inside leaves = absurd leaves
leaving_now (Leaving d) inside leaves = ap (λ k. Leaving k) leaves

phases_length : (plan : Plan) (g w number : ℕ) (ns : List ℕ) (stages : List Stage) → length (phases_from plan g w number ns (kept stages)) ≤ length stages
phases_length plan g w number [] stages = omega arith
phases_length plan g w number (n ∷ ns) [] = omega arith
phases_length plan g w number (n ∷ ns) (s ∷ stages) = let le = phases_length plan g w (suc number) ns stages in omega (arith, le)

module _ (v v' : Sight) (turns : Turns v v') (h : ℕ) where
  abbrev Result : ℕ → Type 0
  Result cycles = (0 < slice_index (counts_for v.stages) h) ⊎ Sooner v' h cycles

  by_distance : (cycles : ℕ) (s : Stage) → slice_get v.stages h ≡ Some s → (left : ℕ) → distance s ≡ Some left → left ≤ cycles → Result cycles
  by_distance cycles s at zero is le = inl (commits_now v h s at is)
  by_distance cycles s at (suc d) is le =
      let next = related_at (λ x y. Nears (distance x) (distance y)) v.stages v'.stages h s turns.near at in
      let near = subst (λ o. Nears o (distance next.other)) is next.related in
      inr (sooner v' h cycles d (omega (arith, le)) (λ left le'. inl (record { stage = next.other; at = next.at; left = d; is = near; in_time = le' })))

  module _ (e : Ending) (g w : ℕ) (f : Phase) (stands : StandsAtWord v h e g w f) (ne : f ≢ Leaving 0) where
    moved : MovesOn v v' h e g w
    moved = turns.meet h e g w f stands ne

    is_kept : IsKept v.finished (v.plan.size w) lead (v.control w) (v'.control w) (phases v.plan g w (kept v.stages)) (phases v'.plan g w (kept v'.stages))
    is_kept =
        let few = turns.few in
        let le = phases_length v.plan g w 0 v.plan.nodes v.stages in
        cycles_keep_arrivals v.finished (v.plan.size w) lead (v.control w) (v'.control w) (phases v.plan g w (kept v.stages)) (phases v'.plan g w (kept v'.stages)) (omega (arith, few, le))
        moved.settled moved.moves

    -- as it does not leave, not all do
    not_all : Each (Leaves 0) (phases v.plan g w (kept v.stages)) → ⊥
    not_all all = ne (leaving_now f stands.inside (each_get (λ x. Leaves 0 x) (phases v.plan g w (kept v.stages)) h f all (among v h e g w f stands)))

    goes_on : (cycles steps : ℕ) → IsDue lead steps v.finished (phases v.plan g w (kept v.stages)) → steps + behind_leaving e ≤ cycles → Result cycles
    goes_on cycles zero due le = absurd (not_all (is_kept.now due))
    goes_on cycles (suc j) due le =
        ⊎_elim (λ all. absurd (not_all all))
        (λ due'.
        let m = moved in
        inr
        (sooner v' h cycles (j + behind_leaving e) (omega (arith, le))
        (λ left le'. inr (record {
          ending = e;
          node = g;
          word = w;
          phase = m.phase;
          stands = m.stands;
          steps = j;
          due = subst (λ t. IsDue lead j t (phases v'.plan g w (kept v'.stages))) (sym turns.next) due';
          in_time = le';
        }))))
        (is_kept.nearer j due)

  unites : (cycles w steps : ℕ) → slice_get v.stages h ≡ Some (Meets Unites w (Leaving 0)) → steps + most_united ≤ cycles → Result cycles
  unites cycles w steps at le =
      let u = turns.unite h w at in
      let few = u.few in
      inr (sooner v' h cycles u.left (omega (arith, le, few)) (λ left le'. inl (record { stage = Acts u.left u.inner; at = u.at; left = u.left; is = refl; in_time = le' })))

  by_meeting : (cycles : ℕ) (e : Ending) (g w : ℕ) (f : Phase) → StandsAtWord v h e g w f → (steps : ℕ) → IsDue lead steps v.finished (phases v.plan g w (kept v.stages))
      → steps + behind_leaving e ≤ cycles → Result cycles
  by_meeting cycles Commits g w (Leaving zero) stands steps due le = inl (commits_now v h (Meets Commits w (Leaving 0)) stands.at refl)
  by_meeting cycles Unites g w (Leaving zero) stands steps due le = unites cycles w steps stands.at le
  by_meeting cycles e g w (Leaving (suc d)) stands steps due le = goes_on e g w (Leaving (suc d)) stands (λ same. absurd (cc)) cycles steps due le
  by_meeting cycles e g w (Coming d) stands steps due le = goes_on e g w (Coming d) stands (λ same. absurd (cc)) cycles steps due le
  by_meeting cycles e g w Waiting stands steps due le = goes_on e g w Waiting stands (λ same. absurd (cc)) cycles steps due le
  by_meeting cycles e g w Outside stands steps due le = absurd stands.inside
  by_meeting cycles e g w Away stands steps due le = absurd stands.inside

  commits_or_nears : (cycles : ℕ) → ActsWithin v h cycles → Result cycles
  commits_or_nears cycles (inl near) = by_distance cycles near.stage near.at near.left near.is near.in_time
  commits_or_nears cycles (inr meets) = by_meeting cycles meets.ending meets.node meets.word meets.phase meets.stands meets.steps meets.due meets.in_time

-- ---- rounds

module _ (core : List CoreOp) (setting : Setting) (first : State Position) where
  abbrev Could : ℕ → Schedule → Type 0
  Could h schedule = CouldAct (next core) setting h (run (next core) setting schedule first)

  earlier : (h from : ℕ) (schedule : Schedule) (round : Round) → CouldActSince core setting first h from (schedule ++ round ∷ []) → CouldActSince core setting first h from schedule
  earlier h from schedule round able i ge le =
      let more = one_more schedule round in
      subst (λ l. Could h l) (take-append-le i schedule (round ∷ []) le) (able i ge (omega (arith, le, more)))

  behind_all : (h from : ℕ) (schedule : Schedule) → from ≤ length schedule → CouldActSince core setting first h from schedule → Could h schedule
  behind_all h from schedule le able = subst (λ l. Could h l) (take_all (length schedule) schedule (omega arith)) (able (length schedule) le (omega arith))

  found_next : (h from : ℕ) (schedule : Schedule) (round : Round) → IsInSince h from schedule → IsInSince h from (schedule ++ round ∷ [])
  found_next h from schedule round f = record { place = f.place; since = f.since; round = f.round; at = get_append schedule (round ∷ []) f.place f.round f.at; within = f.within }

  waits_on : (schedule : Schedule) (v v' : Sight) → AreWaiting core setting first schedule v → Turns v v'
      → ((h : ℕ) → Could h (schedule ++ counts_for v.stages ∷ []) → ActsWithin v' h most_between)
      → AreWaiting core setting first (schedule ++ counts_for v.stages ∷ []) v'
  waits_on schedule v v' waiting turns fresh h from le able =
      let round = counts_for v.stages in
      let more = one_more schedule round in
      ⊎_elim
      (λ last.
      inr
      (record {
        cycles = most_between;
        due = omega (arith, last, le, more);
        acts = fresh h (behind_all h from (schedule ++ round ∷ []) le able);
      }))
      (λ before.
      ⊎_elim
      (λ found. inl (found_next h from schedule round found))
      (λ commit.
      let due = commit.due in
      ⊎_elim
      (λ now.
      inl (record { place = length schedule; since = before; round = round; at = get_seam schedule round; within = omega (arith, now) }))
      (λ nearer.
      let less = nearer.less in
      inr (record { cycles = nearer.left; due = omega (arith, due, less, more); acts = nearer.acts }))
      (commits_or_nears v v' turns h commit.cycles commit.acts))
      (waiting h from before (earlier h from schedule round able)))
      (cases_lt (length schedule) from)

  kept_on : (schedule : Schedule) (v : Sight) (round : Round) → KeepsPace (next core) setting schedule first → AreWaiting core setting first schedule v
      → KeepsPace (next core) setting (schedule ++ round ∷ []) first
  kept_on schedule v round pace waiting h t room able =
      let more = one_more schedule round in
      ⊎_elim
      (λ less.
      let e : length schedule ≡ t + 255 = omega (arith, less, room, more) in
      let since : CouldActSince core setting first h t schedule = λ i ge le.
      let here : t + (i - t) ≡ i = omega (arith, ge) in
      subst (λ l. Could h l) (take-append-le i schedule (round ∷ []) le)
      (subst (λ k. Could h (take k (schedule ++ round ∷ []))) here (able (i - t) (omega (arith, ge, le, e)))) in
      ⊎_elim
      (λ found.
      let ge = found.since in
      let lt = slice_get_within schedule found.place found.round found.at in
      let here : found.place ≡ t + (found.place - t) = omega (arith, ge) in (
        found.place - t,
        omega (arith, ge, lt, e),
        found.round,
        subst (λ k. slice_get (schedule ++ round ∷ []) k ≡ Some found.round) here (get_append schedule (round ∷ []) found.place found.round found.at),
        found.within,
      ))
      (λ commit. let due = commit.due in absurd (omega (arith, due, e)))
      (waiting h t (omega (arith, e)) since))
      (λ le.
      let found = pace h t le
      (λ i lt. subst (λ l. Could h l) (take-append-le (t + i) schedule (round ∷ []) (omega (arith, le, lt))) (able i lt)) in
      (found.0, found.1, found.2, get_append schedule (round ∷ []) (t + found.0) found.2 found.3, found.4))
      (cases_lt (length schedule) (t + 256))

pub paces_go_on : PacesGoOn
paces_go_on core setting first schedule v v' waiting turns fresh = waits_on core setting first schedule v v' waiting turns fresh

pub paces_are_kept : PacesAreKept
paces_are_kept core setting first schedule v round pace waiting = kept_on core setting first schedule v round pace waiting
