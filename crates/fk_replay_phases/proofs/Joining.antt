-- Members and the lowest members of their nodes.
use Rattle.std.proofs.Common.{◌≡◌, ℕ, ◌<◌, ◌≤◌, Bool, true, false, ◌&&◌, List, length, get_or, slice_get, nat_lt, ap, refl, sym, ◌∙◌, arith}
use Rattle.std.proofs.lemmas.Option.{slice_get_read, slice_get-get_or}
use Rattle.fk_tree.specs.Tree as t
use Rattle.fk_tree.specs.Tree.{Tree}
use Rattle.fk_meaning_operation.specs.declared.kinds.Joint.{Joint}
use Rattle.fk_meaning_operation.specs.declared.kinds.Joint.TheVariants.{Alone, Starting, AtBarrier, Closing, Resuming}
use Rattle.fk_meaning.specs.Round.{Round, joint_due, lowest}
use Rattle.fk_core.specs.declared.op.CoreOp.{CoreOp}
use Rattle.fk_replay_rounds.specs.declared.mode.Mode.{Mode}
use Rattle.fk_replay_rounds.specs.Modes.{mode_of}
use Rattle.fk_replay_rounds.specs.Fits.{one_joins, joins_lowest, joins_by}
use Rattle.fk_replay_phases.specs.Present.{acting_at}
use Rattle.fk_replay_phases.specs.Actors.{due_of}
use Rattle.fk_replay_phases.specs.Joints.{joint_by, joint_at}
use Rattle.fk_replay_phases.specs.Modes.{HaveModes}
use Rattle.fk_replay_phases.specs.declared.acting.Acting.{Acting}
use Rattle.fk_replay_phases.specs.declared.actor.Actor.{Actor}

not_above : (last h : ℕ) → h ≤ last → nat_lt last h ≡ false
not_above last h low = grind arith

-- the joint operation that a processor has taken, which isn't above the last one
pub taken_is : (core : List CoreOp) (actors : List Actor) (last h : ℕ) (a : Actor) → h ≤ last → h < length actors → a ≡ get_or actors h a
    → joint_due (due_of core a) ≡ joint_at core actors last h
taken_is core actors last h a low lt is =
    ap (joint_by core false) (sym (slice_get_read actors (length actors) h a refl lt is))
    ∙ ap (λ (b : Bool). joint_by core b (slice_get actors h)) (sym (not_above last h low))

pub lowest_is : (tree : Tree) (x : Acting) → x ≡ acting_at tree x.number → x.lowest ≡ lowest (t.members tree x.node)
lowest_is tree x is = ap (λ (y : Acting). y.lowest) is ∙ ap (λ (n : ℕ). lowest (t.members tree n)) (sym (ap (λ (y : Acting). y.node) is))

-- the mode of a processor is that of its node
pub mode_is : (tree : Tree) (actors : List Actor) (x : Acting) (d : Actor) (mode : Mode) → HaveModes tree actors → x.number < length actors → x ≡ acting_at tree x.number
    → (get_or actors x.number d).mode ≡ mode → mode ≡ mode_of (t.kind tree x.node)
mode_is tree actors x d mode modes lt at is =
    sym is ∙ modes.each x.number (get_or actors x.number d) (slice_get-get_or actors x.number d lt)
    ∙ ap (λ (n : ℕ). mode_of (t.kind tree n)) (sym (ap (λ (y : Acting). y.node) at))

-- how a member that does a joint operation fits
module _ (round : Round) (last : ℕ) (joint : ℕ → Joint) (tree : Tree) (h n : ℕ) (is_alone : Bool) where
  pub does_alone : (j k : Joint) → j ≡ Alone → j ≡ k → true ≡ joins_by round last joint tree h n is_alone k
  does_alone j k is same = ap (joins_by round last joint tree h n is_alone) (sym is ∙ same)

  pub can_resume : (b r : Bool) (j k : Joint) → b ≡ joins_lowest round last joint tree h n j → j ≡ Resuming → r ≡ t.ready tree n → r ≡ true → j ≡ k
      → b ≡ joins_by round last joint tree h n is_alone k
  can_resume b r j k tells is ready holds same =
      tells ∙ ap (joins_lowest round last joint tree h n) is
      ∙ ap (λ (x : Bool). x && joins_lowest round last joint tree h n Resuming) (sym holds ∙ ready)
      ∙ ap (joins_by round last joint tree h n is_alone) (sym is ∙ same)

  pub cannot_resume : (r : Bool) (j k : Joint) → j ≡ Resuming → r ≡ t.ready tree n → r ≡ false → j ≡ k → r ≡ joins_by round last joint tree h n is_alone k
  cannot_resume r j k is ready fails same =
      fails ∙ ap (λ (x : Bool). x && joins_lowest round last joint tree h n Resuming) (sym fails ∙ ready)
      ∙ ap (joins_by round last joint tree h n is_alone) (sym is ∙ same)

  pub comes_alone : (b : Bool) (j k : Joint) (low : ℕ) → b ≡ one_joins round last joint j low → low ≡ lowest (t.members tree n) → j ≡ AtBarrier → is_alone ≡ true → j ≡ k
      → b ≡ joins_by round last joint tree h n is_alone k
  comes_alone b j k low tells low_is is alone same =
      tells ∙ ap (λ (x : Joint). one_joins round last joint x low) is ∙ ap (one_joins round last joint AtBarrier) low_is
      ∙ ap (λ (x : Bool). joins_by round last joint tree h n x AtBarrier) (sym alone)
      ∙ ap (joins_by round last joint tree h n is_alone) (sym is ∙ same)

  pub joins_others : (b : Bool) (j k : Joint) → b ≡ joins_lowest round last joint tree h n j → (j ≡ Alone → ⊥) → (j ≡ Resuming → ⊥) → (j ≡ AtBarrier → is_alone ≡ false) → j ≡ k
      → b ≡ joins_by round last joint tree h n is_alone k
  joins_others b j k tells one two three same = tells ∙ by j one two three ∙ ap (joins_by round last joint tree h n is_alone) same
    where
      by : (i : Joint) → (i ≡ Alone → ⊥) → (i ≡ Resuming → ⊥) → (i ≡ AtBarrier → is_alone ≡ false) → joins_lowest round last joint tree h n i ≡ joins_by round last joint tree h n is_alone i
      by Alone not_alone not_resuming apart = absurd (not_alone refl)
      by Starting not_alone not_resuming apart = refl
      by AtBarrier not_alone not_resuming apart = ap (λ (x : Bool). joins_by round last joint tree h n x AtBarrier) (sym (apart refl))
      by Closing not_alone not_resuming apart = refl
      by Resuming not_alone not_resuming apart = absurd (not_resuming refl)
