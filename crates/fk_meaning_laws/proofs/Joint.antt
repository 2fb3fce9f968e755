-- What the tests of an allowed round tell of each processor.
use Rattle.std.proofs.Common.{◌≡◌, ◌≢◌, ℕ, zero, suc, ◌==◌, ◌+◌, ◌&&◌, true, false, List, [], ◌∷◌, slice_get, Option, Some, None, refl, ap, ◌∙◌, subst, arith}
use Rattle.std.specs.Prelude.{slice_index}
use Rattle.std.specs.List.{list_all}
use Rattle.std.proofs.lemmas.Bool.{and_parts, eqb-true}
use Rattle.fk_tree.specs.Tree as t
use Rattle.fk_tree.specs.Tree.{Tree, is_member}
use Rattle.fk_tree.specs.declared.node.Kind.{Kind}
use Rattle.fk_tree.specs.declared.node.Kind.TheVariants.{Lockstep, Waiting, Asynchronous}
use Rattle.fk_meaning_operation.specs.Kinds.{joint_of}
use Rattle.fk_meaning_operation.specs.declared.operation.Operation.{Operation}
use Rattle.fk_meaning_operation.specs.declared.operation.Operation.TheVariants.{Begin, Meet, Resume}
use Rattle.fk_meaning_operation.specs.declared.kinds.Joint.{Joint}
use Rattle.fk_meaning_operation.specs.declared.kinds.Joint.TheVariants.{Alone}
use Rattle.fk_meaning.specs.Processor.{Setting}
use Rattle.fk_meaning.specs.Round.{Step, State, Round, Acting, joint_due, joint_at, same_joint, all_do, joins, fits_kind, fits, all_fit, begin_all, all_may_act, is_allowed}
use Rattle.fk_meaning.specs.Schedule.{IsIn}
use Rattle.fk_meaning.specs.Touch.{operation_due}
use Rattle.fk_lockstep.proofs.Acting.{untrue}
use Rattle.fk_lockstep.proofs.Round.{all_at, fit_at, joint_is}
use Rattle.fk_meaning_laws.specs.Joint.{ActsAt, ComesTo, needed_by, DoesOnly, IsJoint, RoundsAreJoint}

count_at : (round : Round) (h : ℕ) → IsIn h round → (c : ℕ) × (slice_get round h ≡ Some (suc c))
count_at [] h is = absurd (omega (arith, is))
count_at (zero ∷ round) zero is = absurd (omega (arith, is))
count_at (suc c ∷ round) zero is = (c, refl)
count_at (d ∷ round) (suc h) is = count_at round h is

-- the joint operations differ in what is joint
one_joint : (op op' : Operation) → joint_of op ≢ Alone → same_joint (joint_of op) (joint_of op') ≡ true → op' ≡ op
one_joint Begin Begin joint same = refl
one_joint Begin (Meet true) joint same = untrue same
one_joint Begin (Meet false) joint same = untrue same
one_joint Begin op' joint same = untrue same
one_joint Resume Resume joint same = refl
one_joint Resume (Meet true) joint same = untrue same
one_joint Resume (Meet false) joint same = untrue same
one_joint Resume op' joint same = untrue same
one_joint (Meet true) (Meet true) joint same = refl
one_joint (Meet true) (Meet false) joint same = untrue same
one_joint (Meet true) op' joint same = untrue same
one_joint (Meet false) (Meet true) joint same = untrue same
one_joint (Meet false) (Meet false) joint same = refl
one_joint (Meet false) op' joint same = untrue same
one_joint op op' joint same = absurd (joint refl)

same_alone : (joint : Joint) → joint ≢ Alone → same_joint joint Alone ≡ true → ⊥
same_alone Alone not same = not refl
same_alone joint not same = untrue same

due_joint : {W : Type 0} (due : Option (Step W)) (op : Operation) → operation_due due ≡ Some op → joint_due due ≡ joint_of op
due_joint None op e = absurd (cc)
due_joint (Some step) op e = let same : step.operation ≡ op = cc in ap joint_of same

due_is : {W : Type 0} (due : Option (Step W)) (op : Operation) → joint_of op ≢ Alone → same_joint (joint_of op) (joint_due due) ≡ true → operation_due due ≡ Some op
due_is None op joint same = absurd (same_alone (joint_of op) joint same)
due_is (Some step) op joint same = ap Some (one_joint op step.operation joint same)

-- who has a joint operation due is there
there : {W : Type 0} (actings : List (Acting W)) (h : ℕ) (op : Operation) → joint_of op ≢ Alone → same_joint (joint_of op) (joint_at actings h) ≡ true
    → (a : Acting W) × (slice_get actings h ≡ Some a) × (operation_due a.due ≡ Some op)
there [] h op joint same = absurd (same_alone (joint_of op) joint same)
there (a ∷ actings) zero op joint same = (a, refl, due_is a.due op joint same)
there (a ∷ actings) (suc h) op joint same = there actings h op joint same

apart : (round : Round) (does : ℕ → Joint) (tree : Tree) (h n : ℕ) (kind : Option Kind) → kind ≢ Some Lockstep → fits_kind round does tree h n kind ≡ true → joins round does tree n (does h) ≡ true
apart round does tree h n None not fit = fit
apart round does tree h n (Some Lockstep) not fit = absurd (not refl)
apart round does tree h n (Some (Waiting first parts)) not fit = fit
apart round does tree h n (Some (Asynchronous single)) not fit = fit

module _ {W : Type 0} (next : W → Option (Step W)) (setting : Setting) (round : Round) (s : State W) (allowed : is_allowed next setting round s ≡ true) where
  abbrev does : ℕ → Joint
  does = joint_at (begin_all next setting round s.runners)

  fit_all : all_fit round does s.tree 0 round ≡ true
  fit_all = (and_parts (all_may_act next setting round s.runners) (all_fit round does s.tree 0 round) allowed).1

  fit_of : (n h : ℕ) → ActsAt next setting round s n h → fits_kind round does s.tree h n (t.kind s.tree n) ≡ true
  fit_of n h acts =
      let count = count_at round h acts.is_in in
      let same : 0 + h ≡ h = omega arith in
      let fit : fits round does s.tree h (suc count.0) ≡ true
      = subst (λ (i : ℕ). fits round does s.tree i (suc count.0) ≡ true) same (fit_at round does s.tree round 0 h (suc count.0) fit_all count.1) in
      subst (λ (m : ℕ). fits_kind round does s.tree h m (t.kind s.tree m) ≡ true) acts.place fit

  whole : (n h m : ℕ) → ActsAt next setting round s n h → t.kind s.tree n ≡ Some Lockstep → is_member m (t.members s.tree n) ≡ true → slice_index round m ≡ slice_index round h
  whole n h m acts locked member =
      let all : list_all (λ m. slice_index round m == slice_index round h) (t.members s.tree n) ≡ true
      = subst (λ (kind : Option Kind). fits_kind round does s.tree h n kind ≡ true) locked (fit_of n h acts) in
      eqb-true (slice_index round m) (slice_index round h) (all_at (λ m. slice_index round m == slice_index round h) (t.members s.tree n) m all member)

  joint_of_it : (h : ℕ) (op : Operation) → ComesTo next setting round s op h → does h ≡ joint_of op
  joint_of_it h op comes = joint_is (begin_all next setting round s.runners) h comes.acting comes.is ∙ due_joint comes.acting.due op comes.due

  joined : (n h : ℕ) (op : Operation) → ActsAt next setting round s n h → t.kind s.tree n ≢ Some Lockstep → ComesTo next setting round s op h → joins round does s.tree n (joint_of op) ≡ true
  joined n h op acts not comes =
      subst (λ (j : Joint). joins round does s.tree n j ≡ true) (joint_of_it h op comes)
      (apart round does s.tree h n (t.kind s.tree n) not (fit_of n h acts))

  all_needed : (n : ℕ) (op : Operation) → joins round does s.tree n (joint_of op) ≡ true → all_do round does (joint_of op) (needed_by next setting round s op n) ≡ true
  all_needed n Begin e = e
  all_needed n (Meet true) e = e
  all_needed n (Meet false) e = e
  all_needed n Resume e = (and_parts (t.ready s.tree n) (all_do round does (joint_of Resume) (t.members s.tree n)) e).1
  all_needed n op e = refl

  is_joint : (n m : ℕ) (op : Operation) → is_member m (needed_by next setting round s op n) ≡ true → joint_of op ≢ Alone
  is_joint n m Begin member = λ e. absurd (cc)
  is_joint n m (Meet true) member = λ e. absurd (cc)
  is_joint n m (Meet false) member = λ e. absurd (cc)
  is_joint n m Resume member = λ e. absurd (cc)
  is_joint n m op member = untrue member

  together : (n h m : ℕ) (op : Operation) → ActsAt next setting round s n h → t.kind s.tree n ≢ Some Lockstep → ComesTo next setting round s op h
      → is_member m (needed_by next setting round s op n) ≡ true → DoesOnly next setting round s op m
  together n h m op acts not comes member =
      let all = all_needed n op (joined n h op acts not comes) in
      let does_it = all_at (λ h. (slice_index round h == 1) && same_joint (joint_of op) (does h)) (needed_by next setting round s op n) m all member in
      let both = and_parts (slice_index round m == 1) (same_joint (joint_of op) (does m)) does_it in
      let at = there (begin_all next setting round s.runners) m op (is_joint n m op member) both.1 in
      record { count = eqb-true (slice_index round m) 1 both.0; comes_to = record { acting = at.0; is = at.1; due = at.2 } }

  ready_then : (n h : ℕ) → ActsAt next setting round s n h → t.kind s.tree n ≢ Some Lockstep → ComesTo next setting round s Resume h → t.ready s.tree n ≡ true
  ready_then n h acts not comes = (and_parts (t.ready s.tree n) (all_do round does (joint_of Resume) (t.members s.tree n)) (joined n h Resume acts not comes)).0

  pub all_joint : IsJoint next setting round s
  all_joint = record { lockstep = whole; joint = together; ready = ready_then }

pub rounds_are_joint : (W : Type 0) → RoundsAreJoint W
rounds_are_joint W next setting round s allowed = all_joint next setting round s allowed
