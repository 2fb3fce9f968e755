-- Who could act.
use Rattle.std.proofs.Common.{◌≡◌, ◌≢◌, ◌⊎◌, inl, inr, ⊎_elim, ℕ, zero, suc, ◌+◌, ◌<◌, ◌==◌, ◌&&◌, ◌||◌, nat_lt, Bool, true, false, true≢false, List, [], ◌∷◌, length, slice_get, Option, Some, None, is_some, refl, sym, ap, ◌∙◌, subst, arith}
use Rattle.std.specs.Prelude.{slice_index}
use Rattle.std.specs.List.{list_all}
use Rattle.std.proofs.lemmas.Bool.{and_parts, and_from, eqb-true, eq-eqb}
use Rattle.fk_meaning_operation.specs.Kinds.{class_of, joint_of}
use Rattle.fk_meaning_operation.specs.declared.operation.Operation.{Operation}
use Rattle.fk_meaning_operation.specs.declared.operation.Operation.TheVariants as o
use Rattle.fk_meaning_operation.specs.declared.kinds.Joint.{Joint}
use Rattle.fk_meaning_operation.specs.declared.kinds.Joint.TheVariants.{Alone, Starting, AtBarrier, Closing, Resuming}
use Rattle.fk_tree.specs.declared.node.Kind.{Kind}
use Rattle.fk_tree.specs.declared.node.Kind.TheVariants.{Lockstep, Waiting, Asynchronous}
use Rattle.fk_tree.specs.Tree as t
use Rattle.fk_tree.specs.Tree.{Tree, is_member}
use Rattle.fk_tree.specs.Sound.{Has, IsSound}
use Rattle.fk_tree.proofs.Shapes.{has_some}
use Rattle.fk_tree.proofs.Turns.{IsLeaf, leaf_by, leaf_ready, idle-lockstep, idle-asynchronous}
use Rattle.fk_meaning.specs.Processor.{Setting}
use Rattle.fk_meaning.specs.Round.{Step, Runner, State, Round, joint_due, joint_at, same_joint, body_of, all_do, joins, fits_kind, fits, all_fit, is_local, after_one, after_locals, begin, begin_all, is_local_next, are_local, may_act, all_may_act}
use Rattle.fk_meaning.specs.Schedule.{CouldAct}
use Rattle.fk_lockstep.proofs.Round.{all_at, some_at, first_is}
use Rattle.fk_lockstep_tree.specs.Where.{Where, BehindBody, goes}
use Rattle.fk_lockstep_tree.specs.Placed.{where_in}
use Rattle.fk_lockstep_tree.specs.Runs.{StandsInTree}
use Rattle.fk_lockstep_tree.proofs.Moves as moves
use Rattle.fk_lockstep_tree.proofs.Paths.{at_node}
use Rattle.fk_lockstep_tree.proofs.Waiters.{waiters_resume}
use Rattle.fk_replay_counts.specs.Steady.{IsSteadyInTree}
use Rattle.fk_replay_counts.proofs.Together.{turn_of, turns}
use Rattle.fk_replay_able.specs.Able.{waits_for_none, step_of, step_at, joint_before, AreMet, IsAble, WhoCouldActIsAble}

-- ---- joint operations

pub untrue : {A : Type 0} → false ≡ true → A
untrue e = absurd (true≢false (sym e))

pub same_is : (a b : Joint) → same_joint a b ≡ true → b ≡ a
same_is Alone Alone e = refl
same_is Starting Starting e = refl
same_is AtBarrier AtBarrier e = refl
same_is Closing Closing e = refl
same_is Resuming Resuming e = refl
same_is a b e = absurd (cc)

pub same_self : (a : Joint) → same_joint a a ≡ true
same_self Alone = refl
same_self Starting = refl
same_self AtBarrier = refl
same_self Closing = refl
same_self Resuming = refl

-- no local operation is one
local_alone : (operation : Operation) → is_local (class_of operation) ≡ true → joint_of operation ≡ Alone
local_alone o.Begin e = untrue e
local_alone (o.Meet true) e = untrue e
local_alone (o.Meet false) e = untrue e
local_alone o.Resume e = untrue e
local_alone operation e = refl

pub alone_free : (k : Option Kind) → waits_for_none k Alone ≡ true
alone_free None = refl
alone_free (Some Lockstep) = refl
alone_free (Some (Waiting first parts)) = refl
alone_free (Some (Asynchronous true)) = refl
alone_free (Some (Asynchronous false)) = refl

-- ---- members

-- all members of a leaf stand there
pub leaf_stands : (p : ℕ) (tree : Tree) → IsSound p tree → (n : ℕ) → IsLeaf tree n → (m : ℕ) → Has tree n m → tree.places m ≡ n
leaf_stands p tree sound n leaf m has = sym (sound.only m n (record { member = has; own = λ i ne up has'. leaf i ne (has_some tree i m has') up }))

in_rest : (a b : Bool) → b ≡ true → (a || b) ≡ true
in_rest true b e = refl
in_rest false b e = e

or_none : (b : Bool) → (b || false) ≡ true → b ≡ true
or_none true e = refl
or_none false e = e

pub all_members : (f : ℕ → Bool) (ms : List ℕ) → ((m : ℕ) → is_member m ms ≡ true → f m ≡ true) → list_all f ms ≡ true
all_members f [] each = refl
all_members f (m ∷ ms) each =
    and_from (f m) (list_all f ms) (each m (ap (λ (b : Bool). b || is_member m ms) (eq-eqb m m refl)))
    (all_members f ms (λ k is. each k (in_rest (k == m) (is_member k ms) is)))

-- the members that run a body are members
pub body_among : (k : Option Kind) (ms : List ℕ) (m : ℕ) → is_member m (body_of k ms) ≡ true → is_member m ms ≡ true
body_among None ms m is = untrue is
body_among (Some (Asynchronous true)) [] m is = is
body_among (Some (Asynchronous true)) (h ∷ hs) m is = ap (λ (b : Bool). b || is_member m hs) (or_none (m == h) is)
body_among (Some (Asynchronous false)) ms m is = is
body_among (Some Lockstep) ms m is = is
body_among (Some (Waiting first parts)) ms m is = is

-- ---- one in a round

module _ {W : Type 0} (next : W → Option (Step W)) (set : Setting) where
  record ActsIn (rs : List (Runner W)) (joint : Joint) (h c : ℕ) : Type 0 where
    runner : Runner W
    at : slice_get rs h ≡ Some runner
    may : may_act next set c runner ≡ true
    does : joint ≡ joint_due (begin next set c runner).due

  acts_in : (round : Round) (rs : List (Runner W)) (h : ℕ) → all_may_act next set round rs ≡ true → 0 < slice_index round h
      → ActsIn rs (joint_at (begin_all next set round rs) h) h (slice_index round h)
  acts_in [] rs h may within = absurd (omega arith)
  acts_in (c ∷ round) [] h may within = untrue may
  acts_in (c ∷ round) (r ∷ rs) zero may within =
      record { runner = r; at = refl; may = (and_parts (may_act next set c r) (all_may_act next set round rs) may).0; does = refl }
  acts_in (c ∷ round) (r ∷ rs) (suc h) may within =
      let x = acts_in round rs h (and_parts (may_act next set c r) (all_may_act next set round rs) may).1 within in
      record { runner = x.runner; at = x.at; may = x.may; does = x.does }

  -- it has an operation left, and does no other where that is joint
  record HasNext (c : ℕ) (r : Runner W) : Type 0 where
    goes_on : is_some (next r.left) ≡ true
    lone : (joint_due (next r.left) ≡ Alone) ⊎ (c ≡ 1)
    same : c ≡ 1 → joint_due (begin next set c r).due ≡ joint_due (next r.left)

  local_next : (due : Option (Step W)) → is_local_next next set due ≡ true → (is_some due ≡ true) × (joint_due due ≡ Alone)
  local_next None is = untrue is
  local_next (Some step) is = (refl, local_alone step.operation is)

  has_next : (c : ℕ) (r : Runner W) → 0 < c → may_act next set c r ≡ true → HasNext c r
  has_next zero r lt may = absurd (omega arith)
  has_next (suc zero) r lt may =
      record { goes_on = (and_parts (nat_lt 0 255 && are_local next set 0 r) (is_some (next r.left)) may).1; lone = inr refl; same = λ e. refl }
  has_next (suc (suc c)) r lt may =
      let all = (and_parts (nat_lt (suc c) 255 && are_local next set (suc c) r) (is_some (next (after_locals next set (suc c) r).left)) may).0 in
      let locals = (and_parts (nat_lt (suc c) 255) (are_local next set (suc c) r) all).1 in
      let one = local_next (next r.left) (and_parts (is_local_next next set (next r.left)) (are_local next set c (after_one next set r)) locals).0 in
      record { goes_on = one.0; lone = inl one.1; same = λ e. absurd (omega arith) }

  -- of a state
  pub record ActsAt (s : State W) (joint : Joint) (h c : ℕ) : Type 0 where
    pub goes_on : is_some (step_at next s h) ≡ true
    pub lone : (joint_before next s h ≡ Alone) ⊎ (c ≡ 1)
    pub same : c ≡ 1 → joint ≡ joint_before next s h

  pub acts_at : (s : State W) (round : Round) (h : ℕ) → all_may_act next set round s.runners ≡ true → 0 < slice_index round h
      → ActsAt s (joint_at (begin_all next set round s.runners) h) h (slice_index round h)
  acts_at s round h may within =
      let x = acts_in round s.runners h may within in
      let y = has_next (slice_index round h) x.runner within x.may in
      let there : step_at next s h ≡ next x.runner.left = ap (step_of next) x.at in
      record {
        goes_on = ap is_some there ∙ y.goes_on;
        lone = ⊎_elim (λ alone. inl (ap joint_due there ∙ alone)) (λ one. inr one) y.lone;
        same = λ one. x.does ∙ y.same one ∙ sym (ap joint_due there);
      }

pub fits_at : (round : Round) (does : ℕ → Joint) (tree : Tree) (number : ℕ) (counts : List ℕ) (h k : ℕ) → number + h ≡ k → all_fit round does tree number counts ≡ true → 0 < slice_index counts h
    → fits round does tree k (slice_index counts h) ≡ true
fits_at round does tree number [] h k e all lt = absurd (omega (arith, lt))
fits_at round does tree number (c ∷ counts) zero k e all lt =
    let same : number ≡ k = omega (arith, e) in
    subst (λ (j : ℕ). fits round does tree j c ≡ true) same (and_parts (fits round does tree number c) (all_fit round does tree (suc number) counts) all).0
fits_at round does tree number (c ∷ counts) (suc h) k e all lt =
    fits_at round does tree (suc number) counts h k (omega (arith, e)) (and_parts (fits round does tree number c) (all_fit round does tree (suc number) counts) all).1 lt

pub fits_some : (round : Round) (does : ℕ → Joint) (tree : Tree) (h c : ℕ) → 0 < c → fits round does tree h c ≡ true → fits_kind round does tree h (tree.places h) (t.kind tree (tree.places h)) ≡ true
fits_some round does tree h zero lt may = absurd (omega (arith, lt))
fits_some round does tree h (suc c) lt may = may

-- ---- what a node's processors wait for

module _ {W X : Type 0} (next : W → Option (Step W)) (place : W → X) (set : Setting) (s : State W) (stands : StandsInTree next place set s) where
  sound : IsSound set.processors s.tree
  sound = stands.sound

  -- who waits for parts is to resume
  pub waits_resume : (h first parts : ℕ) → t.kind s.tree (s.tree.places h) ≡ Some (Waiting first parts) → is_some (step_at next s h) ≡ true → joint_before next s h ≡ Resuming
  waits_resume h first parts kind goes_on = by (slice_get s.runners h) refl goes_on
    where
      due : (r : Runner W) → slice_get s.runners h ≡ Some r → (step : Option (Step W)) → next r.left ≡ step → is_some step ≡ true → joint_due step ≡ Resuming
      due r at None e is = untrue is
      due r at (Some step) e is = ap joint_of (waiters_resume W next set _ s h first parts r step stands.tree kind at e)

      by : (x : Option (Runner W)) → slice_get s.runners h ≡ x → is_some (step_of next x) ≡ true → joint_due (step_of next x) ≡ Resuming
      by None at is = untrue is
      by (Some r) at is = due r at (next r.left) refl is

  -- all who do a joint operation are there
  module _ (round : Round) (may : all_may_act next set round s.runners ≡ true) (n : ℕ) where
    abbrev does : ℕ → Joint
    does h = joint_at (begin_all next set round s.runners) h

    met : (j : Joint) → IsLeaf s.tree n → (j ≡ Resuming → t.ready s.tree n ≡ true) → all_do round does j (t.members s.tree n) ≡ true → AreMet next s n j
    met j leaf ready all = record { ready = ready; stand = λ m has. leaf_stands set.processors s.tree sound n leaf m has; before = before }
      where
        before : (m : ℕ) → Has s.tree n m → joint_before next s m ≡ j
        before m has =
            let both = and_parts (slice_index round m == 1) (same_joint j (does m)) (all_at (λ h. (slice_index round h == 1) && same_joint j (does h)) (t.members s.tree n) m all has) in
            let one = eqb-true (slice_index round m) 1 both.0 in
            sym ((acts_at next set s round m may (omega arith)).same one) ∙ same_is j (does m) both.1

    met_at : (k : Option Kind) (j : Joint) → t.kind s.tree n ≡ k → s.tree.nodes n ≢ None → ((first parts : ℕ) → k ≡ Some (Waiting first parts) → j ≡ Resuming)
        → joins round does s.tree n j ≡ true → (waits_for_none k j ≡ true) ⊎ AreMet next s n j
    met_at k Alone kind there waits fit = inl (alone_free k)
    met_at k Resuming kind there waits fit =
        let both = and_parts (t.ready s.tree n) (all_do round does Resuming (t.members s.tree n)) fit in
        inr (met Resuming (leaf_ready set.processors n s.tree sound both.0) (λ e. both.0) both.1)
    met_at None j kind there waits fit = absurd (there (none_by (s.tree.nodes n) kind))
      where
        none_by : (x : Option t.Node) → t.kind_of x ≡ None → x ≡ None
        none_by None e = refl
        none_by (Some node) e = absurd (cc)
    met_at (Some Lockstep) j kind there waits fit = inl refl
    met_at (Some (Waiting first parts)) Starting kind there waits fit = absurd (let e = waits first parts refl in cc)
    met_at (Some (Waiting first parts)) AtBarrier kind there waits fit = absurd (let e = waits first parts refl in cc)
    met_at (Some (Waiting first parts)) Closing kind there waits fit = absurd (let e = waits first parts refl in cc)
    met_at (Some (Asynchronous alone)) Starting kind there waits fit =
        inr (met Starting (leaf_by set.processors n (Asynchronous alone) s.tree sound (idle-asynchronous alone) kind) (λ e. absurd (cc)) fit)
    met_at (Some (Asynchronous true)) AtBarrier kind there waits fit = inl refl
    met_at (Some (Asynchronous false)) AtBarrier kind there waits fit =
        inr (met AtBarrier (leaf_by set.processors n (Asynchronous false) s.tree sound (idle-asynchronous false) kind) (λ e. absurd (cc))
        (subst (λ (x : Option Kind). all_do round does AtBarrier (body_of x (t.members s.tree n)) ≡ true) kind fit))
    met_at (Some (Asynchronous alone)) Closing kind there waits fit =
        inr (met Closing (leaf_by set.processors n (Asynchronous alone) s.tree sound (idle-asynchronous alone) kind) (λ e. absurd (cc)) fit)

    met_by : (h : ℕ) (k : Option Kind) (j : Joint) → t.kind s.tree n ≡ k → s.tree.nodes n ≢ None → ((first parts : ℕ) → k ≡ Some (Waiting first parts) → j ≡ Resuming)
        → fits_kind round does s.tree h n k ≡ true → does h ≡ j → (waits_for_none k j ≡ true) ⊎ AreMet next s n j
    met_by h None j kind there waits fit is = met_at None j kind there waits (subst (λ (i : Joint). joins round does s.tree n i ≡ true) is fit)
    met_by h (Some Lockstep) j kind there waits fit is = inl refl
    met_by h (Some (Waiting first parts)) j kind there waits fit is =
        met_at (Some (Waiting first parts)) j kind there waits (subst (λ (i : Joint). joins round does s.tree n i ≡ true) is fit)
    met_by h (Some (Asynchronous alone)) j kind there waits fit is =
        met_at (Some (Asynchronous alone)) j kind there waits (subst (λ (i : Joint). joins round does s.tree n i ≡ true) is fit)

  pub within : (h : ℕ) → is_some (step_at next s h) ≡ true → h < set.processors
  within h goes_on = let many = stands.tree.many in let lt = short s.runners h goes_on in omega arith
    where
      short : (rs : List (Runner W)) (i : ℕ) → is_some (step_of next (slice_get rs i)) ≡ true → i < length rs
      short [] i is = untrue is
      short (r ∷ rs) zero is = omega arith
      short (r ∷ rs) (suc i) is = let lt = short rs i is in omega arith

  pub is_able : (h : ℕ) → CouldAct next set h s → IsAble next s h
  is_able h c = record { goes_on = x.goes_on; free = by x.lone }
    where
      parts : (all_may_act next set c.round s.runners ≡ true) × (all_fit c.round (λ i. joint_at (begin_all next set c.round s.runners) i) s.tree 0 c.round ≡ true)
      parts = and_parts (all_may_act next set c.round s.runners) (all_fit c.round (λ i. joint_at (begin_all next set c.round s.runners) i) s.tree 0 c.round) c.allowed

      x : ActsAt next set s ((joint_at (begin_all next set c.round s.runners) h)) h (slice_index c.round h)
      x = acts_at next set s c.round h parts.0 c.within

      there : s.tree.nodes (s.tree.places h) ≢ None
      there = has_some s.tree (s.tree.places h) h (sound.placed h (within h x.goes_on)).member

      fit : fits_kind c.round (λ i. joint_at (begin_all next set c.round s.runners) i) s.tree h (s.tree.places h) (t.kind s.tree (s.tree.places h)) ≡ true
      fit = fits_some c.round (λ i. joint_at (begin_all next set c.round s.runners) i) s.tree h (slice_index c.round h) c.within (fits_at c.round (λ i. joint_at (begin_all next set c.round s.runners) i) s.tree 0 c.round h h (omega arith) parts.1 c.within)

      by : (joint_before next s h ≡ Alone) ⊎ (slice_index c.round h ≡ 1) → (waits_for_none (t.kind s.tree (s.tree.places h)) (joint_before next s h) ≡ true) ⊎ AreMet next s (s.tree.places h) (joint_before next s h)
      by (inl alone) = inl (ap (waits_for_none (t.kind s.tree (s.tree.places h))) alone ∙ alone_free (t.kind s.tree (s.tree.places h)))
      by (inr one) =
          met_by c.round parts.0 (s.tree.places h) h (t.kind s.tree (s.tree.places h)) (joint_before next s h) refl there (λ first parts' kind. waits_resume h first parts' kind x.goes_on) fit (x.same one)

-- ---- the round of those who are needed

from_zero : (ms : List ℕ) (h : ℕ) → is_member h ms ≡ true → is_member (0 + h) ms ≡ true
from_zero ms h is = let same : h ≡ 0 + h = omega arith in subst (λ (j : ℕ). is_member j ms ≡ true) same is

to_zero : (ms : List ℕ) (h : ℕ) → is_member (0 + h) ms ≡ true → is_member h ms ≡ true
to_zero ms h is = let same : 0 + h ≡ h = omega arith in subst (λ (j : ℕ). is_member j ms ≡ true) same is

turn_at : {W : Type 0} (ms : List ℕ) (h i : ℕ) (rs : List (Runner W)) → i < length rs → slice_index (turns ms h rs) i ≡ turn_of (is_member (h + i) ms)
turn_at ms h i [] lt = absurd (omega arith)
turn_at ms h zero (r ∷ rs) lt = let same : h ≡ h + 0 = omega arith in ap (λ (j : ℕ). turn_of (is_member j ms)) same
turn_at ms h (suc i) (r ∷ rs) lt =
    let same : suc h + i ≡ h + suc i = omega arith in turn_at ms (suc h) i rs (omega arith) ∙ ap (λ (j : ℕ). turn_of (is_member j ms)) same

module _ {W : Type 0} (next : W → Option (Step W)) (set : Setting) where
  abbrev HaveNext : (ms : List ℕ) (h : ℕ) → List (Runner W) → Type 0
  HaveNext ms h rs = (i : ℕ) (r : Runner W) → slice_get rs i ≡ Some r → is_member (h + i) ms ≡ true → is_some (next r.left) ≡ true

  may_turn : (b : Bool) (r : Runner W) → (b ≡ true → is_some (next r.left) ≡ true) → may_act next set (turn_of b) r ≡ true
  may_turn true r is = is refl
  may_turn false r is = refl

  all_may : (ms : List ℕ) (h : ℕ) (rs : List (Runner W)) → HaveNext ms h rs → all_may_act next set (turns ms h rs) rs ≡ true
  all_may ms h [] all = refl
  all_may ms h (r ∷ rs) all =
      let same : h ≡ h + 0 = omega arith in
      and_from (may_act next set (turn_of (is_member h ms)) r) (all_may_act next set (turns ms (suc h) rs) rs)
      (may_turn (is_member h ms) r (λ is. all 0 r refl (subst (λ (j : ℕ). is_member j ms ≡ true) same is)))
      (all_may ms (suc h) rs (λ i q at is. let later : suc h + i ≡ h + suc i = omega arith in all (suc i) q at (subst (λ (j : ℕ). is_member j ms ≡ true) later is)))

  taken_at : (ms : List ℕ) (h i : ℕ) (rs : List (Runner W)) (r : Runner W) → slice_get rs i ≡ Some r → is_member (h + i) ms ≡ true
      → joint_at (begin_all next set (turns ms h rs) rs) i ≡ joint_due (next r.left)
  taken_at ms h i [] r at is = absurd (cc)
  taken_at ms h zero (q ∷ rs) r at is =
      let here : h + 0 ≡ h = omega arith in
      ap (λ (b : Bool). joint_due (begin next set (turn_of b) q).due) (subst (λ (j : ℕ). is_member j ms ≡ true) here is)
      ∙ ap (λ (x : Runner W). joint_due (next x.left)) (first_is q r at)
  taken_at ms h (suc i) (q ∷ rs) r at is =
      let later : h + suc i ≡ suc h + i = omega arith in taken_at ms (suc h) i rs r at (subst (λ (j : ℕ). is_member j ms ≡ true) later is)

  -- who has an operation left is there
  pub record IsThere (s : State W) (m : ℕ) : Type 0 where
    pub runner : Runner W
    pub at : slice_get s.runners m ≡ Some runner
    pub step : Step W
    pub ahead : next runner.left ≡ Some step

  pub is_there : (s : State W) (m : ℕ) → is_some (step_at next s m) ≡ true → IsThere s m
  is_there s m goes_on = by (slice_get s.runners m) refl goes_on
    where
      due : (r : Runner W) → slice_get s.runners m ≡ Some r → (step : Option (Step W)) → next r.left ≡ step → is_some step ≡ true → IsThere s m
      due r at None e is = untrue is
      due r at (Some step) e is = record { runner = r; at = at; step = step; ahead = e }

      by : (x : Option (Runner W)) → slice_get s.runners m ≡ x → is_some (step_of next x) ≡ true → IsThere s m
      by None at is = untrue is
      by (Some r) at is = due r at (next r.left) refl is

  module _ (s : State W) (ms : List ℕ) (each : (m : ℕ) → is_member m ms ≡ true → is_some (step_at next s m) ≡ true) where
    abbrev pub turn : Round
    turn = turns ms 0 s.runners

    abbrev pub taken : ℕ → Joint
    taken i = joint_at (begin_all next set turn s.runners) i

    may : all_may_act next set turn s.runners ≡ true
    may = all_may ms 0 s.runners (λ i r at is. sym (ap (λ (x : Option (Runner W)). is_some (step_of next x)) at) ∙ each i (to_zero ms i is))

    takes : (m : ℕ) → is_member m ms ≡ true → taken m ≡ joint_before next s m
    takes m is =
        let x = is_there s m (each m is) in
        taken_at ms 0 m s.runners x.runner x.at (from_zero ms m is) ∙ sym (ap (λ (y : Option (Runner W)). joint_due (step_of next y)) x.at)

    short : (rs : List (Runner W)) (i : ℕ) (r : Runner W) → slice_get rs i ≡ Some r → i < length rs
    short [] i r at = absurd (cc)
    short (q ∷ rs) zero r at = omega arith
    short (q ∷ rs) (suc i) r at = let lt = short rs i r at in omega arith

    once : (m : ℕ) → is_member m ms ≡ true → slice_index turn m ≡ 1
    once m is = let x = is_there s m (each m is) in turn_at ms 0 m s.runners (short s.runners m x.runner x.at) ∙ ap turn_of (from_zero ms m is)

    abbrev Fits : (m : ℕ) → Type 0
    Fits m = fits_kind turn taken s.tree m (s.tree.places m) (t.kind s.tree (s.tree.places m)) ≡ true

    fits_one : ((m : ℕ) → is_member m ms ≡ true → Fits m) → (h : ℕ) (b : Bool) → is_member h ms ≡ b → fits turn taken s.tree h (turn_of b) ≡ true
    fits_one fit h true is = fit h is
    fits_one fit h false is = refl

    fit_from : ((m : ℕ) → is_member m ms ≡ true → Fits m) → (h : ℕ) (rs : List (Runner W)) → all_fit turn taken s.tree h (turns ms h rs) ≡ true
    fit_from fit h [] = refl
    fit_from fit h (r ∷ rs) =
        and_from (fits turn taken s.tree h (turn_of (is_member h ms))) (all_fit turn taken s.tree (suc h) (turns ms (suc h) rs))
        (fits_one fit h (is_member h ms) refl) (fit_from fit (suc h) rs)

    could : ((m : ℕ) → is_member m ms ≡ true → Fits m) → (h : ℕ) → is_member h ms ≡ true → CouldAct next set h s
    could fit h is = record {
      round = turn;
      allowed = and_from (all_may_act next set turn s.runners) (all_fit turn taken s.tree 0 turn) may (fit_from fit 0 s.runners);
      within = let one = once h is in omega arith;
    }

    -- they do one joint operation, at a node that is no group
    abbrev NotInLockstep : Option Kind → Type 0
    NotInLockstep k = k ≡ Some Lockstep → ⊥

    fits_there : (m n : ℕ) (k : Option Kind) (j : Joint) → s.tree.places m ≡ n → t.kind s.tree n ≡ k → NotInLockstep k → taken m ≡ j → joins turn taken s.tree n j ≡ true → Fits m
    fits_there m n k j place kind free is join =
        subst (λ (i : ℕ). fits_kind turn taken s.tree m i (t.kind s.tree i) ≡ true) (sym place)
        (subst (λ (x : Option Kind). fits_kind turn taken s.tree m n x ≡ true) (sym kind)
        (by k free (subst (λ (i : Joint). joins turn taken s.tree n i ≡ true) (sym is) join)))
      where
        by : (x : Option Kind) → NotInLockstep x → joins turn taken s.tree n (taken m) ≡ true → fits_kind turn taken s.tree m n x ≡ true
        by None free e = e
        by (Some Lockstep) free e = absurd (free refl)
        by (Some (Waiting first parts)) free e = e
        by (Some (Asynchronous alone)) free e = e

    do_all : (j : Joint) (these : List ℕ) → ((m : ℕ) → is_member m these ≡ true → (is_member m ms ≡ true) × (joint_before next s m ≡ j)) → all_do turn taken j these ≡ true
    do_all j these all =
        all_members (λ m. (slice_index turn m == 1) && same_joint j (taken m)) these
        (λ m is.
        let here = all m is in
        and_from (slice_index turn m == 1) (same_joint j (taken m)) (eq-eqb (slice_index turn m) 1 (once m here.0))
        (ap (same_joint j) (takes m here.0 ∙ here.1) ∙ same_self j))

module _ {W X : Type 0} (next : W → Option (Step W)) (place : W → X) (set : Setting) (s : State W) (steady : IsSteadyInTree next place set s) where
  stand : StandsInTree next place set s
  stand = steady.stands

  -- all members of a group could act if one has an operation left
  in_group : (h n : ℕ) → s.tree.places h ≡ n → t.kind s.tree n ≡ Some Lockstep → is_some (step_at next s h) ≡ true → CouldAct next set h s
  in_group h n place_is kind goes_on = could next set s (t.members s.tree n) each fit h has
    where
      has : Has s.tree n h
      has = subst (λ (i : ℕ). Has s.tree i h) place_is (stand.sound.placed h (within next place set s stand h goes_on)).member

      each : (m : ℕ) → is_member m (t.members s.tree n) ≡ true → is_some (step_at next s m) ≡ true
      each m is =
          let many = stand.tree.many in
          let lt = stand.sound.within n m is in
          let q = some_at s.runners m (omega arith) in
          let r = is_there next set s h goes_on in
          ap (λ (x : Option (Runner W)). is_some (step_of next x)) q.1
          ∙ steady.together n h m 1 r.runner q.0 kind has is r.at q.1 (ap is_some r.ahead)

      fit : (m : ℕ) → is_member m (t.members s.tree n) ≡ true → fits_kind (turn next set s (t.members s.tree n) each) (taken next set s (t.members s.tree n) each) s.tree m (s.tree.places m) (t.kind s.tree (s.tree.places m)) ≡ true
      fit m is =
          let there = leaf_stands set.processors s.tree stand.sound n (leaf_by set.processors n Lockstep s.tree stand.sound idle-lockstep kind) m is in
          let round = turn next set s (t.members s.tree n) each in
          subst (λ (i : ℕ). fits_kind round (taken next set s (t.members s.tree n) each) s.tree m i (t.kind s.tree i) ≡ true) (sym there)
          (subst (λ (x : Option Kind). fits_kind round (taken next set s (t.members s.tree n) each) s.tree m n x ≡ true) (sym kind)
          (all_members (λ i. slice_index round i == slice_index round m) (t.members s.tree n) (λ i in_group. eq-eqb (slice_index round i) (slice_index round m)
          (once next set s (t.members s.tree n) each i in_group ∙ sym (once next set s (t.members s.tree n) each m is)))))

  -- who stands at a barrier in the body of a `seq` is the one who runs it
  runs_body : (h n : ℕ) → s.tree.places h ≡ n → t.kind s.tree n ≡ Some (Asynchronous true) → is_some (step_at next s h) ≡ true → joint_before next s h ≡ AtBarrier
      → is_member h (body_of (Some (Asynchronous true)) (t.members s.tree n)) ≡ true
  runs_body h n place_is kind goes_on barrier = by (is_member h (body_of (Some (Asynchronous true)) (t.members s.tree n))) refl
    where
      r : IsThere next set s h
      r = is_there next set s h goes_on

      meets : joint_of r.step.operation ≡ AtBarrier
      meets = sym (ap (λ (x : Option (Runner W)). joint_due (step_of next x)) r.at ∙ ap joint_due r.ahead) ∙ barrier

      closing : (operation : Operation) → operation ≡ o.Meet true → joint_of operation ≡ AtBarrier → ⊥
      closing operation is e = let bad : joint_of (o.Meet true) ≡ AtBarrier = sym (ap joint_of is) ∙ e in cc

      behind : (i : ℕ) → where_in i (Some (Asynchronous true)) false ≡ Some (stand.tree.placed h r.runner r.at).place → ⊥
      behind zero e = cc
      behind (suc i) e =
          let p = stand.tree.placed h r.runner r.at in
          let is : p.place ≡ BehindBody i = sym (first_is (BehindBody i) p.place e) in
          let to = moves.goes_on next p.place r.runner.left r.step p.goes r.ahead true in
          closing r.step.operation (moves.others_meet i r.step.operation true to.0 (subst (λ (q : Where). goes q r.step.operation true ≡ Some to.0) is to.1)) meets

      by : (b : Bool) → is_member h (body_of (Some (Asynchronous true)) (t.members s.tree n)) ≡ b → is_member h (body_of (Some (Asynchronous true)) (t.members s.tree n)) ≡ true
      by true e = e
      by false e =
          let p = stand.tree.placed h r.runner r.at in
          absurd (behind (length r.runner.has.outer) (ap (where_in (length r.runner.has.outer) (Some (Asynchronous true))) (sym e) ∙ sym (at_node s.tree h (length r.runner.has.outer) n (Asynchronous true) place_is kind) ∙ p.there))

  -- who waits for none could act by itself
  by_itself : (h : ℕ) (k : Option Kind) → t.kind s.tree (s.tree.places h) ≡ k → (k ≡ Some Lockstep → ⊥) → is_some (step_at next s h) ≡ true
      → waits_for_none k (joint_before next s h) ≡ true → CouldAct next set h s
  by_itself h k kind free goes_on alone = could next set s (h ∷ []) each fit h here
    where
      here : is_member h (h ∷ []) ≡ true
      here = ap (λ (b : Bool). b || false) (eq-eqb h h refl)

      is_one : (m : ℕ) → is_member m (h ∷ []) ≡ true → m ≡ h
      is_one m is = eqb-true m h (or_none (m == h) is)

      each : (m : ℕ) → is_member m (h ∷ []) ≡ true → is_some (step_at next s m) ≡ true
      each m is = subst (λ (i : ℕ). is_some (step_at next s i) ≡ true) (sym (is_one m is)) goes_on

      one_runs : (x : List ℕ) (i : ℕ) → is_member h (body_of (Some (Asynchronous true)) x) ≡ true → is_member i (body_of (Some (Asynchronous true)) x) ≡ true → i ≡ h
      one_runs [] i a b = untrue a
      one_runs (y ∷ ys) i a b = eqb-true i y (or_none (i == y) b) ∙ sym (eqb-true h y (or_none (h == y) a))

      join : (x : Option Kind) (j : Joint) → t.kind s.tree (s.tree.places h) ≡ x → joint_before next s h ≡ j → (x ≡ Some Lockstep → ⊥) → waits_for_none x j ≡ true → joins (turn next set s (h ∷ []) each) (taken next set s (h ∷ []) each) s.tree (s.tree.places h) j ≡ true
      join x Alone e is off alone = refl
      join (Some (Asynchronous true)) AtBarrier e is off alone =
          subst (λ (y : Option Kind). all_do (turn next set s (h ∷ []) each) (taken next set s (h ∷ []) each) AtBarrier (body_of y (t.members s.tree (s.tree.places h))) ≡ true) (sym e)
          (do_all next set s (h ∷ []) each AtBarrier (body_of (Some (Asynchronous true)) (t.members s.tree (s.tree.places h)))
          (λ i in_body.
          let same = one_runs (t.members s.tree (s.tree.places h)) i (runs_body h (s.tree.places h) refl e goes_on is) in_body in
          (subst (λ (m : ℕ). is_member m (h ∷ []) ≡ true) (sym same) here, ap (joint_before next s) same ∙ is)))
      join None Starting e is off alone = untrue alone
      join None AtBarrier e is off alone = untrue alone
      join None Closing e is off alone = untrue alone
      join None Resuming e is off alone = untrue alone
      join (Some Lockstep) j e is off alone = absurd (off refl)
      join (Some (Waiting first parts)) Starting e is off alone = untrue alone
      join (Some (Waiting first parts)) AtBarrier e is off alone = untrue alone
      join (Some (Waiting first parts)) Closing e is off alone = untrue alone
      join (Some (Waiting first parts)) Resuming e is off alone = untrue alone
      join (Some (Asynchronous true)) Starting e is off alone = untrue alone
      join (Some (Asynchronous true)) Closing e is off alone = untrue alone
      join (Some (Asynchronous true)) Resuming e is off alone = untrue alone
      join (Some (Asynchronous false)) Starting e is off alone = untrue alone
      join (Some (Asynchronous false)) AtBarrier e is off alone = untrue alone
      join (Some (Asynchronous false)) Closing e is off alone = untrue alone
      join (Some (Asynchronous false)) Resuming e is off alone = untrue alone

      fit : (m : ℕ) → is_member m (h ∷ []) ≡ true → fits_kind (turn next set s (h ∷ []) each) (taken next set s (h ∷ []) each) s.tree m (s.tree.places m) (t.kind s.tree (s.tree.places m)) ≡ true
      fit m is =
          fits_there next set s (h ∷ []) each m (s.tree.places h) k (joint_before next s h) (ap s.tree.places (is_one m is)) kind free
          (takes next set s (h ∷ []) each m is ∙ ap (joint_before next s) (is_one m is)) (join k (joint_before next s h) kind refl free alone)

  -- all who have met could act
  together : (h : ℕ) (k : Option Kind) → t.kind s.tree (s.tree.places h) ≡ k → (k ≡ Some Lockstep → ⊥) → is_some (step_at next s h) ≡ true
      → waits_for_none k (joint_before next s h) ≡ false → AreMet next s (s.tree.places h) (joint_before next s h) → CouldAct next set h s
  together h k kind free goes_on waits met = could next set s (t.members s.tree (s.tree.places h)) each fit h has
    where
      has : Has s.tree (s.tree.places h) h
      has = (stand.sound.placed h (within next place set s stand h goes_on)).member

      some_due : (due : Option (Step W)) → joint_due due ≡ (joint_before next s h) → is_some due ≡ true
      some_due None e = absurd (true≢false (sym (alone_free k) ∙ ap (waits_for_none k) e ∙ waits))
      some_due (Some step) e = refl

      each : (m : ℕ) → is_member m (t.members s.tree (s.tree.places h)) ≡ true → is_some (step_at next s m) ≡ true
      each m is = some_due (step_at next s m) (met.before m is)

      all : (i : Joint) → i ≡ (joint_before next s h) → (these : List ℕ) → ((m : ℕ) → is_member m these ≡ true → is_member m (t.members s.tree (s.tree.places h)) ≡ true) → all_do (turn next set s (t.members s.tree (s.tree.places h)) each) (taken next set s (t.members s.tree (s.tree.places h)) each) i these ≡ true
      all i e these among = do_all next set s (t.members s.tree (s.tree.places h)) each i these (λ m is. (among m is, met.before m (among m is) ∙ sym e))

      join : (i : Joint) → i ≡ (joint_before next s h) → joins (turn next set s (t.members s.tree (s.tree.places h)) each) (taken next set s (t.members s.tree (s.tree.places h)) each) s.tree (s.tree.places h) i ≡ true
      join Alone e = refl
      join Starting e = all Starting e (t.members s.tree (s.tree.places h)) (λ m is. is)
      join AtBarrier e = all AtBarrier e (body_of (t.kind s.tree (s.tree.places h)) (t.members s.tree (s.tree.places h))) (λ m is. body_among (t.kind s.tree (s.tree.places h)) (t.members s.tree (s.tree.places h)) m is)
      join Closing e = all Closing e (t.members s.tree (s.tree.places h)) (λ m is. is)
      join Resuming e =
          and_from (t.ready s.tree (s.tree.places h)) (all_do (turn next set s (t.members s.tree (s.tree.places h)) each) (taken next set s (t.members s.tree (s.tree.places h)) each) Resuming (t.members s.tree (s.tree.places h))) (met.ready (sym e)) (all Resuming e (t.members s.tree (s.tree.places h)) (λ m is. is))

      fit : (m : ℕ) → is_member m (t.members s.tree (s.tree.places h)) ≡ true → fits_kind (turn next set s (t.members s.tree (s.tree.places h)) each) (taken next set s (t.members s.tree (s.tree.places h)) each) s.tree m (s.tree.places m) (t.kind s.tree (s.tree.places m)) ≡ true
      fit m is = fits_there next set s (t.members s.tree (s.tree.places h)) each m (s.tree.places h) k (joint_before next s h) (met.stand m is) kind free (takes next set s (t.members s.tree (s.tree.places h)) each m is ∙ met.before m is) (join (joint_before next s h) refl)

  pub could_act : (h : ℕ) → IsAble next s h → CouldAct next set h s
  could_act h a = by (t.kind s.tree (s.tree.places h)) refl
    where
      either : (k : Option Kind) → t.kind s.tree (s.tree.places h) ≡ k → (k ≡ Some Lockstep → ⊥) → (b : Bool) → waits_for_none k (joint_before next s h) ≡ b
          → (waits_for_none (t.kind s.tree (s.tree.places h)) (joint_before next s h) ≡ true) ⊎ AreMet next s (s.tree.places h) (joint_before next s h) → CouldAct next set h s
      either k kind off true e free = by_itself h k kind off a.goes_on e
      either k kind off false e (inl alone) = absurd (true≢false (sym alone ∙ ap (λ (x : Option Kind). waits_for_none x (joint_before next s h)) kind ∙ e))
      either k kind off false e (inr met) = together h k kind off a.goes_on e met

      by : (k : Option Kind) → t.kind s.tree (s.tree.places h) ≡ k → CouldAct next set h s
      by None kind = either None kind (λ e. absurd (cc)) (waits_for_none None (joint_before next s h)) refl a.free
      by (Some Lockstep) kind = in_group h (s.tree.places h) refl kind a.goes_on
      by (Some (Waiting first parts)) kind =
          either (Some (Waiting first parts)) kind (λ e. absurd (cc)) (waits_for_none (Some (Waiting first parts)) (joint_before next s h)) refl a.free
      by (Some (Asynchronous alone)) kind =
          either (Some (Asynchronous alone)) kind (λ e. absurd (cc)) (waits_for_none (Some (Asynchronous alone)) (joint_before next s h)) refl a.free

pub who_could_act_is_able : (W X : Type 0) → WhoCouldActIsAble W X
who_could_act_is_able W X next place set s h steady = record {
  there = is_able next place set s steady.stands h;
  back = could_act next place set s steady h;
}
