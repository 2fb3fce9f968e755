-- What a processor in memory is before.
use Rattle.std.proofs.Common.{◌≡◌, ℕ, ◌<◌, ◌≤◌, ◌^◌, true, false, List, length, get_or, slice_get, Some, None, is_some, sym, ap, ◌∙◌, arith}
use Rattle.std.specs.Prelude.{option_map}
use Rattle.std.proofs.lemmas.Option.{slice_get_read}
use Rattle.fk_tree.specs.Tree as t
use Rattle.fk_tree.specs.Tree.{Tree}
use Rattle.fk_tree.specs.Sound.{IsSound}
use Rattle.fk_meaning_operation.specs.Kinds.{joint_of}
use Rattle.fk_meaning_operation.specs.declared.kinds.Joint.{Joint}
use Rattle.fk_meaning.specs.Round.{joint_due, lowest}
use Rattle.fk_core.specs.declared.op.CoreOp.{CoreOp}
use Rattle.fk_core.specs.Next.{next}
use Rattle.fk_replay_steps.specs.Steps.{step_at, callers_of, position_of}
use Rattle.fk_replay_steps.specs.declared.list.Due.{Due}
use Rattle.fk_replay_phases.specs.Present.{AreBelow}
use Rattle.fk_replay_phases.specs.declared.actor.Actor.{Actor}
use Rattle.fk_replay_arrivals.specs.declared.arrived.Arrived.{Arrived}
use Rattle.fk_replay_phases.proofs.Few.{few_members}
use Rattle.fk_replay_phases.proofs.Highest.{members_below, lowest_below}

pub there : (actors : List Actor) (p h : ℕ) (a : Actor) → length actors ≡ p → h < p → a ≡ get_or actors h a → slice_get actors h ≡ Some a
there actors p h a many low is = slice_get_read actors p h a (sym many) low is

module _ (core : List CoreOp) (a : Actor) where
  pub joint_is : (due : Due) (joint : Joint) → option_map (step_at core (callers_of a.runner)) (Some due) ≡ next core (position_of a.runner) → joint ≡ joint_of due.operation
      → joint_due (next core (position_of a.runner)) ≡ joint
  joint_is due joint is e = sym (ap joint_due is) ∙ sym e

  pub goes_on : (due : Due) → option_map (step_at core (callers_of a.runner)) (Some due) ≡ next core (position_of a.runner) → is_some (next core (position_of a.runner)) ≡ true
  goes_on due is = sym (ap is_some is)

  pub has_ended : option_map (step_at core (callers_of a.runner)) None ≡ next core (position_of a.runner) → is_some (next core (position_of a.runner)) ≡ false
  has_ended is = sym (ap is_some is)

-- there are few members, all of them processors
pub are_few : (p n : ℕ) (tree : Tree) → IsSound p tree → p ≤ 1024 → length (t.members tree n) < 2 ^ 32
are_few p n tree sound few = let most = few_members p n tree sound in omega (arith, most, few)

pub are_below : (p n : ℕ) (tree : Tree) (members : List ℕ) → IsSound p tree → members ≡ t.members tree n → (size : ℕ) → size ≡ p → AreBelow size members
are_below p n tree members sound is size same = record {
  each = λ i low.
      let lt = (members_below p n tree sound).each i (let e = ap (λ (ms : List ℕ). length ms) is in omega (arith, low, e)) in
      let e = ap (λ (ms : List ℕ). get_or ms i 0) is in
      omega (arith, lt, e, same);
}

-- what the lowest member of a node counts
pub number_at : (arrived : List Arrived) (p h : ℕ) (tree : Tree) (low : ℕ) (x : Arrived) → IsSound p tree → h < p → length arrived ≡ p → low ≡ lowest (t.members tree (tree.places h)) → x ≡ get_or arrived low x
    → slice_get arrived (lowest (t.members tree (tree.places h))) ≡ Some x
number_at arrived p h tree low x sound within many is there_is =
    slice_get_read arrived p (lowest (t.members tree (tree.places h))) x (sym many) (lowest_below p h tree sound within) (there_is ∙ ap (λ (k : ℕ). get_or arrived k x) is)
