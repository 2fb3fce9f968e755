-- The joint operations of a round, which neither local operations nor requests are.
use Rattle.std.proofs.Common.{◌≡◌, ℕ, zero, suc, ◌≤◌, Bool, true, false, ◌&&◌, ◌||◌, List, [], ◌∷◌, length, Option, Some, None, ap, refl, sym, ◌∙◌, arith}
use Rattle.std.specs.Prelude.{◌==◌, nat_lt, slice_index, slice_get, if◌then◌else◌}
use Rattle.std.specs.List.{list_all}
use Rattle.fk_tree.specs.Tree as t
use Rattle.fk_tree.specs.Tree.{is_member}
use Rattle.fk_tree.specs.declared.node.Kind.{Kind}
use Rattle.fk_tree.specs.declared.node.Kind.TheVariants.{Lockstep, Waiting, Asynchronous}
use Rattle.fk_meaning_operation.specs.Kinds.{class_of, joint_of}
use Rattle.fk_meaning_operation.specs.declared.operation.Operation.{Operation}
use Rattle.fk_meaning_operation.specs.declared.operation.Operation.TheVariants as o
use Rattle.fk_meaning_operation.specs.declared.kinds.Class.{Class}
use Rattle.fk_meaning_operation.specs.declared.kinds.Class.TheVariants.{Local, Request, Tree}
use Rattle.fk_meaning_operation.specs.declared.kinds.Joint.{Joint}
use Rattle.fk_meaning_operation.specs.declared.kinds.Joint.TheVariants.{Alone, Starting, AtBarrier, Closing, Resuming}
use Rattle.fk_meaning_store.specs.Store.{Store}
use Rattle.fk_meaning_store.specs.Serve.{Answer, Served, Faults, serve}
use Rattle.fk_meaning.specs.Processor.{Setting}
use Rattle.fk_meaning.specs.Request.{request, with_answer}
use Rattle.fk_meaning.specs.Group.{has_room}
use Rattle.fk_meaning.specs.Round.{Step, Runner, Acting, Round, Phase, Passes, Breaks, taking, done, answered, do_request, request_phase, after_phase, all_requests, do_local, local_phase, begin, begin_all, asking, joint_due, joint_at, same_joint, body_of, all_do, joins, fits_kind, all_fit}
use Rattle.fk_replay_rounds.specs.Fits.{one_joins, all_join, joins_below, fits_kind_below, all_fit_below}
use Rattle.fk_replay_rounds.specs.Joint.{TakenJointsStay, WholeRoundsFit}

pub local_alone : (operation : Operation) → class_of operation ≡ Local → joint_of operation ≡ Alone
local_alone o.Begin e = absurd (let bad : Tree ≡ Local = e in cc)
local_alone (o.Meet false) e = absurd (let bad : Tree ≡ Local = e in cc)
local_alone (o.Meet true) e = absurd (let bad : Tree ≡ Local = e in cc)
local_alone o.Resume e = absurd (let bad : Tree ≡ Local = e in cc)
local_alone operation e = refl

pub request_alone : (operation : Operation) → class_of operation ≡ Request → joint_of operation ≡ Alone
request_alone o.Begin e = absurd (let bad : Tree ≡ Request = e in cc)
request_alone (o.Meet false) e = absurd (let bad : Tree ≡ Request = e in cc)
request_alone (o.Meet true) e = absurd (let bad : Tree ≡ Request = e in cc)
request_alone o.Resume e = absurd (let bad : Tree ≡ Request = e in cc)
request_alone operation e = refl

module _ {W : Type 0} (next : W → Option (Step W)) (set : Setting) where
  joint_local : (a : Acting W) → joint_due (local_phase next set a a.due).due ≡ joint_due a.due
  joint_local a = by a.due refl
    where
      by_class : (step : Step W) (class : Class) → class_of step.operation ≡ class → a.due ≡ Some step → joint_due (do_local next set a class step).due ≡ joint_due a.due
      by_class step Local e due = sym (ap joint_due due ∙ local_alone step.operation e)
      by_class step Request e due = refl
      by_class step Tree e due = refl

      by : (due : Option (Step W)) → a.due ≡ due → joint_due (local_phase next set a a.due).due ≡ joint_due a.due
      by None e = ap (λ d. joint_due (local_phase next set a d).due) e
      by (Some step) e = ap (λ d. joint_due (local_phase next set a d).due) e ∙ by_class step (class_of step.operation) refl e

  pub asking_joints : (round : Round) (rs : List (Runner W)) (h : ℕ) → joint_at (asking next set round rs) h ≡ joint_at (begin_all next set round rs) h
  asking_joints [] rs h = refl
  asking_joints (c ∷ round) [] h = refl
  asking_joints (c ∷ round) (r ∷ rs) zero = joint_local (begin next set c r)
  asking_joints (c ∷ round) (r ∷ rs) (suc h) = asking_joints round rs h

request_joint : {W : Type 0} (number : ℕ) (a : Acting W) (actings : List (Acting W)) (s : Store) (h : ℕ) → ((s' : Store) (k : ℕ) → joint_at (all_requests (suc number) actings s').acting k ≡ joint_at actings k)
    → joint_at (all_requests number (a ∷ actings) s).acting h ≡ joint_at (a ∷ actings) h
request_joint {W} number a actings s h more = by_due a.due refl
  where
    passes : (s' : Store) (a' : Acting W) → joint_due a'.due ≡ joint_due a.due → (h : ℕ) → joint_at (after_phase number s a actings (all_requests (suc number) actings) (Passes s' a')).acting h ≡ joint_at (a ∷ actings) h
    passes s' a' e zero = e
    passes s' a' e (suc k) = more s' k

    by_answer : (step : Step W) (answer : Answer) → class_of step.operation ≡ Request → a.due ≡ Some step
        → joint_at (after_phase number s a actings (all_requests (suc number) actings) (answered step a.runner.has answer)).acting h ≡ joint_at (a ∷ actings) h
    by_answer step (Served s' v) e due = passes s' (done step true (with_answer step.operation v a.runner.has)) (sym (ap joint_due due ∙ request_alone step.operation e)) h
    by_answer step (Faults kind) e due = refl

    by_room : (step : Step W) (room : Bool) → joint_at (after_phase number s a actings (all_requests (suc number) actings) (if room then Passes s a else Breaks step.site)).acting h ≡ joint_at (a ∷ actings) h
    by_room step true = passes s a refl h
    by_room step false = refl

    by_class : (step : Step W) (class : Class) → class_of step.operation ≡ class → a.due ≡ Some step → joint_at (after_phase number s a actings (all_requests (suc number) actings) (do_request s a class step)).acting h ≡ joint_at (a ∷ actings) h
    by_class step Local e due = passes s a refl h
    by_class step Request e due = by_answer step (serve (request step.operation a.runner.has) s a.runner.has.number) e due
    by_class step Tree e due = by_room step (has_room step.operation a.runner.has)

    by_due : (due : Option (Step W)) → a.due ≡ due → joint_at (after_phase number s a actings (all_requests (suc number) actings) (request_phase s a a.due)).acting h ≡ joint_at (a ∷ actings) h
    by_due None e = ap (λ d. joint_at (after_phase number s a actings (all_requests (suc number) actings) (request_phase s a d)).acting h) e ∙ passes s a refl h
    by_due (Some step) e = ap (λ d. joint_at (after_phase number s a actings (all_requests (suc number) actings) (request_phase s a d)).acting h) e ∙ by_class step (class_of step.operation) refl e

pub request_joints : {W : Type 0} (number : ℕ) (actings : List (Acting W)) (s : Store) (h : ℕ) → joint_at (all_requests number actings s).acting h ≡ joint_at actings h
request_joints number [] s h = refl
request_joints number (a ∷ actings) s h = request_joint number a actings s h (λ s' k. request_joints (suc number) actings s' k)

-- ---- if nobody is above the last one

same_list : (P Q : ℕ → Bool) (ms : List ℕ) → ((m : ℕ) → is_member m ms ≡ true → P m ≡ Q m) → list_all P ms ≡ list_all Q ms
same_list P Q [] each = refl
same_list P Q (m ∷ ms) each =
    ap (λ (b : Bool). b && list_all P ms) (each m (self m ms)) ∙ ap (λ (b : Bool). Q m && b) (same_list P Q ms (λ k is. each k (later k m ms is)))
  where
    self : (m : ℕ) (ms : List ℕ) → is_member m (m ∷ ms) ≡ true
    self m ms = grind arith

    later : (k m : ℕ) (ms : List ℕ) → is_member k ms ≡ true → is_member k (m ∷ ms) ≡ true
    later k m ms is = by (k == m)
      where
        by : (b : Bool) → b || is_member k ms ≡ true
        by true = refl
        by false = is

module _ (round : Round) (last : ℕ) (joint : ℕ → Joint) (tree : t.Tree) (few : (n h : ℕ) → is_member h (t.members tree n) ≡ true → h ≤ last) where
  body_member : (k : Option Kind) (ms : List ℕ) (h : ℕ) → is_member h (body_of k ms) ≡ true → is_member h ms ≡ true
  body_member None ms h e = absurd (let bad : false ≡ true = e in cc)
  body_member (Some Lockstep) ms h e = e
  body_member (Some (Waiting first parts)) ms h e = e
  body_member (Some (Asynchronous false)) ms h e = e
  body_member (Some (Asynchronous true)) [] h e = e
  body_member (Some (Asynchronous true)) (m ∷ ms) h e = by (h == m) e
    where
      by : (b : Bool) → b || false ≡ true → b || is_member h ms ≡ true
      by true e = refl
      by false e = absurd (let bad : false ≡ true = e in cc)

  not_above : (h : ℕ) → h ≤ last → nat_lt last h ≡ false
  not_above h le = grind arith

  all_join_whole : (j : Joint) (n : ℕ) (ms : List ℕ) → ((h : ℕ) → is_member h ms ≡ true → is_member h (t.members tree n) ≡ true) → all_join round last joint j ms ≡ all_do round joint j ms
  all_join_whole j n ms within = same_list (one_joins round last joint j) (λ h. (slice_index round h == 1) && same_joint j (joint h)) ms
      (λ m is. ap (λ (b : Bool). (b || (slice_index round m == 1)) && same_joint j (joint m)) (not_above m (few n m (within m is))))

  joins_whole : (n : ℕ) (j : Joint) → joins_below round last joint tree n j ≡ joins round joint tree n j
  joins_whole n Alone = refl
  joins_whole n Starting = all_join_whole Starting n (t.members tree n) (λ h is. is)
  joins_whole n AtBarrier = all_join_whole AtBarrier n (body_of (t.kind tree n) (t.members tree n)) (body_member (t.kind tree n) (t.members tree n))
  joins_whole n Closing = all_join_whole Closing n (t.members tree n) (λ h is. is)
  joins_whole n Resuming = ap (λ (b : Bool). t.ready tree n && b) (all_join_whole Resuming n (t.members tree n) (λ h is. is))

  kind_whole : (h n : ℕ) (k : Option Kind) → fits_kind_below round last joint tree h n k ≡ fits_kind round joint tree h n k
  kind_whole h n None = joins_whole n (joint h)
  kind_whole h n (Some Lockstep) = same_list (λ m. nat_lt last m || (slice_index round m == slice_index round h)) (λ m. slice_index round m == slice_index round h) (t.members tree n)
      (λ m is. ap (λ (b : Bool). b || (slice_index round m == slice_index round h)) (not_above m (few n m is)))
  kind_whole h n (Some (Waiting first parts)) = joins_whole n (joint h)
  kind_whole h n (Some (Asynchronous alone)) = joins_whole n (joint h)

  pub fit_whole : (first : ℕ) (counts : List ℕ) → all_fit_below round last joint tree first counts ≡ all_fit round joint tree first counts
  fit_whole first [] = refl
  fit_whole first (zero ∷ counts) = fit_whole (suc first) counts
  fit_whole first (suc c ∷ counts) =
      ap (λ (b : Bool). b && all_fit_below round last joint tree (suc first) counts) (kind_whole first (tree.places first) (t.kind tree (tree.places first)))
      ∙ ap (λ (b : Bool). fits_kind round joint tree first (tree.places first) (t.kind tree (tree.places first)) && b) (fit_whole (suc first) counts)

-- ---- who isn't in a round

pub absent_asking : {W : Type 0} (next : W → Option (Step W)) (set : Setting) (round : Round) (rs : List (Runner W)) (h : ℕ) (r : Runner W) → length round ≡ length rs → slice_get rs h ≡ Some r → slice_index round h ≡ 0
    → slice_get (asking next set round rs) h ≡ Some (taking r None)
absent_asking next set [] [] h r many is none = absurd (let bad : None ≡ Some r = is in cc)
absent_asking next set [] (q ∷ rs) h r many is none = absurd (let z : ⊥ = omega arith in z)
absent_asking next set (c ∷ round) [] h r many is none = absurd (let z : ⊥ = omega arith in z)
absent_asking next set (zero ∷ round) (q ∷ rs) zero r many is none = let same : q ≡ r = cc in ap (λ x. Some (taking x None)) same
absent_asking next set (suc c ∷ round) (q ∷ rs) zero r many is none = absurd (let z : ⊥ = omega arith in z)
absent_asking next set (c ∷ round) (q ∷ rs) (suc h) r many is none = absent_asking next set round rs h r (omega arith) is none

pub absent_requests : {W : Type 0} (number : ℕ) (actings : List (Acting W)) (s : Store) (h : ℕ) (a : Acting W) → slice_get actings h ≡ Some a → a.due ≡ None
    → slice_get (all_requests number actings s).acting h ≡ Some a
absent_requests number [] s h a is free = absurd (let bad : None ≡ Some a = is in cc)
absent_requests {W} number (b ∷ actings) s zero a is free =
    let same : b ≡ a = cc in
    let due : b.due ≡ None = ap (λ (x : Acting W). x.due) same ∙ free in
    ap (λ d. slice_get (after_phase number s b actings (all_requests (suc number) actings) (request_phase s b d)).acting 0) due ∙ ap Some same
absent_requests {W} number (b ∷ actings) s (suc h) a is free = by_phase (request_phase s b b.due) (λ s'. absent_requests (suc number) actings s' h a is free)
  where
    by_phase : (phase : Phase W) → ((s' : Store) → slice_get (all_requests (suc number) actings s').acting h ≡ Some a) → slice_get (after_phase number s b actings (all_requests (suc number) actings) phase).acting (suc h) ≡ Some a
    by_phase (Passes s' a') more = more s'
    by_phase (Breaks site) more = is

pub taken_stay : (W : Type 0) → TakenJointsStay W
taken_stay W next set round s h = request_joints 0 (asking next set round s.runners) s.store h ∙ asking_joints next set round s.runners h

pub whole_fit : WholeRoundsFit
whole_fit round last joint tree few = fit_whole round last joint tree few 0 round
