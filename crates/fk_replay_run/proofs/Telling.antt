-- Who could act before a round is told.
use Rattle.std.proofs.Common.{◌≡◌, ℕ, zero, suc, ◌<◌, Bool, true, false, true≢false, ◌⊎◌, inl, inr, List, [], length, replicate, None, is_some, refl, sym, ap, ◌∙◌, subst, arith}
use Rattle.std.specs.Prelude.{slice_index}
use Rattle.std.proofs.Math.Path.{fun_ext}
use Rattle.std.proofs.lemmas.List.{length-replicate}
use Rattle.fk_tree.specs.Tree as t
use Rattle.fk_tree.specs.Tree.{is_member, below}
use Rattle.fk_tree.specs.Sound.{is_ascending}
use Rattle.fk_tree.specs.View.{tree_of, processors}
use Rattle.fk_tree.proofs.Lists.{below-has, member_at}
use Rattle.fk_meaning_operation.specs.declared.kinds.Joint.{Joint}
use Rattle.fk_meaning_state.specs.View.{setting_of}
use Rattle.fk_meaning.specs.Round.{State}
use Rattle.fk_core.specs.declared.op.CoreOp.{CoreOp}
use Rattle.fk_core.specs.Next.{Position, next, landing}
use Rattle.fk_replay_counts.specs.Steady.{IsSteadyInTree}
use Rattle.fk_replay_able.specs.Able.{IsToldByAble}
use Rattle.fk_replay_able.specs.Known.{IsAnnounced, KnowsAble}
use Rattle.fk_replay_able.proofs.Able.{who_could_act_is_able}
use Rattle.fk_replay_able.proofs.Arrivals.{openings_know_able}
use Rattle.fk_replay_steps.specs.Pace.{Absences, since}
use Rattle.fk_replay_phases.specs.Present.{AreBelow}
use Rattle.fk_replay_arrivals.specs.Arrived.{is_known, arrived_in, BecomesKnown, KnowsBehind, AreOf}
use Rattle.fk_replay_run.specs.declared.run.Run.{Run}
use Rattle.fk_replay_run.specs.Steady.{IsSteady}
use Rattle.fk_replay_run.specs.Runs.{IsRun, state_of}
use Rattle.fk_replay_run.specs.Arrivals.{NoneArrived}
use Rattle.fk_replay_run.specs.Told.{KnowsAbout, HasTold}

pub none_since : (p h : ℕ) → since (replicate p None) h ≡ None
none_since zero h = refl
none_since (suc p) zero = refl
none_since (suc p) (suc h) = none_since p h

module _ (core : List CoreOp) (old : Run) (steady : IsSteady core (setting_of old.setting) (state_of old)) where
  in_tree : IsSteadyInTree (next core) (λ (w : Position). landing core w.at) (setting_of old.setting) (state_of old)
  in_tree = record { stands = steady.stands; known = steady.known; together = steady.together }

  able : (h : ℕ) → IsToldByAble (next core) (setting_of old.setting) (state_of old) h
  able h = who_could_act_is_able Position ℕ (next core) (λ (w : Position). landing core w.at) (setting_of old.setting) (state_of old) h in_tree

  are_of : AreOf (tree_of old.tree) old.actors.items (state_of old)
  are_of = record { tree_is = refl; runners_are = refl }

  -- those who are still to come are processors
  pub are_below : (numbers : List ℕ) → IsRun old → KnowsAbout core old numbers → AreBelow (processors old.tree) numbers
  are_below numbers run knows = record {
    each = λ i low.
        let placed = knows.able.placed (slice_index numbers i) (member_at numbers i low) in
        let lt = steady.stands.sound.within ((tree_of old.tree).places (slice_index numbers i)) (slice_index numbers i) placed in
        let size = run.setting in
        omega (arith, lt, size);
  }

  -- what is known once those have come who were still to come
  pub has_told : (numbers : List ℕ) (round : ℕ) (new : Run) → KnowsAbout core old numbers → new ≡ record old { pace = new.pace; arrived = new.arrived } → BecomesKnown round old.pace new.pace
      → length new.arrived.items ≡ length old.arrived.items
      → KnowsBehind core (tree_of old.tree) old.actors.items numbers [] old.pace new.pace old.arrived.items new.arrived.items → HasTold core round old new
  has_told numbers round new knows kept becomes many behind = record {
    kept = kept;
    begins = record {
      kept = becomes.kept;
      begun = becomes.begun;
      could = λ h f is. (able h).back (all.true_of h (ap is_some is));
      cannot = λ h none could. cannot h none (all.whole h ((able h).there could));
    };
    knows = record {
      pace = becomes.many ∙ knows.pace ∙ sym same_size;
      arrived = many ∙ knows.arrived ∙ sym same_size;
      able = subst (λ (s : State Position). KnowsAble (next core) s [] (is_known new.pace) (arrived_in new.arrived.items)) (sym (ap state_of kept)) all;
    };
  }
    where
      all : KnowsAble (next core) (state_of old) [] (is_known new.pace) (arrived_in new.arrived.items)
      all = behind (setting_of old.setting) (state_of old) are_of steady.stands knows.able

      same_size : processors new.tree ≡ processors old.tree
      same_size = ap (λ (r : Run). processors r.tree) kept

      cannot : (h : ℕ) → since new.pace h ≡ None → (is_known new.pace h ≡ true) ⊎ IsAnnounced (next core) (state_of old) [] h → ⊥
      cannot h none (inl e) = true≢false (sym e ∙ ap is_some none)
      cannot h none (inr a) = true≢false (sym a.comes)

  -- what is known before anybody has come
  pub knows_first : IsRun old → old.pace ≡ replicate (processors old.tree) None → NoneArrived (processors old.tree) old.arrived.items → KnowsAbout core old (below (processors old.tree) [])
  knows_first run pace none = record {
    pace = ap (λ (a : Absences). length a) pace ∙ length-replicate (processors old.tree) None;
    arrived = none.many;
    able = subst (λ (known : ℕ → Bool). KnowsAble (next core) (state_of old) (below p []) known (arrived_in old.arrived.items)) (fun_ext (λ h. sym (unknown h)))
        (subst (λ (arrived : ℕ → Joint → ℕ). KnowsAble (next core) (state_of old) (below p []) (λ h. false) arrived) (fun_ext (λ h. fun_ext (λ joint. sym (none.none h joint))))
        (openings_know_able Position ℕ (next core) (λ (w : Position). landing core w.at) (setting_of old.setting) (state_of old) (below p []) steady.stands ascending these all));
  }
    where
      p : ℕ
      p = processors old.tree

      unknown : (h : ℕ) → is_known old.pace h ≡ false
      unknown h = ap (λ (a : Absences). is_known a h) pace ∙ ap is_some (none_since (processors old.tree) h)

      size : (setting_of old.setting).processors ≡ processors old.tree
      size = run.setting

      root : t.members (tree_of old.tree) 0 ≡ below p []
      root = steady.stands.sound.root ∙ ap (λ (n : ℕ). below n []) size

      ascending : is_ascending (below p []) ≡ true
      ascending = ap is_ascending (sym root) ∙ steady.stands.sound.ascending 0

      these : (h : ℕ) → is_member h (below p []) ≡ true → h < (setting_of old.setting).processors
      these h is = steady.stands.sound.within 0 h (ap (is_member h) root ∙ is)

      all : (h : ℕ) → h < (setting_of old.setting).processors → is_member h (below p []) ≡ true
      all h low = below-has p h [] (omega (arith, low, size))
