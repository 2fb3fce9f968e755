-- A machine follows a run, cycle by cycle.
use Rattle.std.proofs.Common.{◌≡◌, ℕ, ◌+◌, List, [], ◌∷◌, ◌++◌, length, None, true, false, cond, ◌&&◌, sym, ap, subst, ◌∙◌, refl, arith, inl, inr, ⊎_elim}
use Rattle.fk_space.specs.Space.{Space}
use Rattle.fk_meaning.specs.Processor.{Setting}
use Rattle.fk_meaning.specs.Round.{State, result, is_possible, IsStopped}
use Rattle.fk_core.specs.declared.op.CoreOp.{CoreOp}
use Rattle.fk_core.specs.Next.{Position, next}
use Rattle.fk_image.specs.declared.Image.{Image}
use Rattle.fk_machine.specs.declared.stand.Stand.TheVariants.{Running, Finished}
use Rattle.fk_machine.specs.Hart.{Hart, Shared, Setting as MachineSetting}
use Rattle.fk_machine.specs.Cycle.{Machine, turns_of, setting_of, unprinted, all_ended, after_turns, stand_after, cycle}
use Rattle.fk_sim_nodes.specs.Node.{numbered, of_node}
use Rattle.fk_sim_nodes.specs.Alone.{later}
use Rattle.fk_sim_match.specs.Stage.{Stage, counts_for}
use Rattle.fk_sim_match.specs.Plan.{InLockstep}
use Rattle.fk_sim_block.specs.Owner.{core_source}
use Rattle.fk_sim_block.specs.Stands.{Places}
use Rattle.fk_sim_block.specs.Node.{Nestings, IsAtRest}
use Rattle.fk_sim_match.specs.Nodes.{first_of, plan_of, united}
use Rattle.fk_sim_match.specs.Behind.{blocks_of}
use Rattle.fk_sim_rounds.specs.Next.{JumpsLead, all_landed}
use Rattle.fk_sim_rounds.specs.After.{owners_after}
use Rattle.fk_sim_rounds.specs.Rounds.{PlanGoesOn}
use Rattle.fk_sim_rounds.proofs.Groups.{many_length}
use Rattle.fk_sim_rounds.proofs.Starts.{of_all, many_numbered}
use Rattle.fk_sim_rounds.specs.Follow.{IsFollowed}
use Rattle.fk_sim_rounds.specs.Union.{IsUnited}
use Rattle.fk_sim_rounds.specs.Machines.{GoesWith, GoesToStart, MachinesFollowRounds, MachinesFollowStarts}
use Rattle.fk_sim_rounds.proofs.Follow.{cycles_follow_rounds}
use Rattle.fk_sim_rounds.proofs.StartsInRuns.{cycles_follow_starts}
use Rattle.fk_sim_rounds.proofs.Ended.{NoneEnded, together_live, harts_end_with_processors}

module _ (core : List CoreOp) (image : Image) (places : Places) (nestings : Nestings) (setting : Setting) (spaces : ℕ → Space) (leads : JumpsLead core) where
  -- the setting of the next cycle
  setting_next : (m : Machine) → length (turns_of m).harts ≡ length m.harts → later (setting_of m) ≡ setting_of (after_turns m (turns_of m))
  setting_next m e = ap (λ n. let t : MachineSetting = record { code = m.code; harts = n; inputs = m.inputs; finished = m.begun + 1 } in t) (sym e)

  goes_with : (m : Machine) (s : State Position) (nodes : List ℕ) (printed : List ℕ) (stages : List Stage) → (turns_of m).stop ≡ None → length (turns_of m).harts ≡ length m.harts
      → IsFollowed core image places nestings setting spaces s nodes (later (setting_of m)) printed stages (turns_of m).harts (unprinted (turns_of m).shared)
      → GoesWith core image places nestings setting spaces s nodes printed stages (after_turns m (turns_of m))
  goes_with m s nodes printed stages going many f = record {
    followed = subst (λ t. IsFollowed core image places nestings setting spaces s nodes t printed stages (turns_of m).harts (unprinted (turns_of m).shared)) (setting_next m many) f;
    stand = ap (λ stop. stand_after stop (turns_of m).harts) going
        ∙ ap (λ b. cond b Finished Running)
        (harts_end_with_processors core image places nestings setting spaces s nodes (later (setting_of m)) printed stages (turns_of m).harts (unprinted (turns_of m).shared) leads f);
  }

  -- who are in lockstep have not ended
  none_ended : (number : ℕ) (hs : List Hart) → (length hs ≡ 0 → ⊥) → NoneEnded (numbered number hs) → all_ended hs ≡ false
  none_ended number [] some live = absurd (some refl)
  none_ended number (h ∷ hs) some live = ap (λ b. b && all_ended hs) live.0

  still_running : (s : State Position) (nodes : List ℕ) (t : MachineSetting) (printed : List ℕ) (stages : List Stage) (hs : List Hart) (sh : Shared)
      → IsUnited core image places nestings setting spaces s nodes t printed stages hs sh → all_ended hs ≡ false
  still_running s nodes t printed stages hs sh f =
      let plan = united (plan_of s.tree spaces nodes) in
      let blocks = blocks_of core image places nestings setting plan (first_of spaces) in
      let many = f.before.many in
      let long = (many_length nodes hs f.ps f.before.as_many).0 in
      let some = f.before.sound.some in
      let group : InLockstep (core_source core setting) image plan blocks t 0 (of_node 0 nodes stages) (of_node 0 nodes (numbered 0 hs)) (of_node 0 nodes f.ps) sh.control = f.bound.binds 0 in
      let all : of_node 0 nodes (numbered 0 hs) ≡ numbered 0 hs
      = of_all s.tree 0 nodes hs (numbered 0 hs) (λ h le lt. f.before.in_root h (omega (arith, lt, many))) f.before.stand (many_numbered 0 nodes hs f.ps f.before.as_many) in
      none_ended 0 hs (λ none. omega (arith, none, long, many, some))
      (subst NoneEnded all
      (together_live (core_source core setting) image plan blocks (plan.words 0) t group.inner group.distance (of_node 0 nodes (numbered 0 hs)) (of_node 0 nodes f.ps) sh.control _ group.together))

  goes_to_start : (m : Machine) (s : State Position) (nodes : List ℕ) (printed : List ℕ) (stages : List Stage) → (turns_of m).stop ≡ None → length (turns_of m).harts ≡ length m.harts
      → IsUnited core image places nestings setting spaces s nodes (later (setting_of m)) printed stages (turns_of m).harts (unprinted (turns_of m).shared)
      → GoesToStart core image places nestings setting spaces s nodes printed stages (after_turns m (turns_of m))
  goes_to_start m s nodes printed stages going many f = record {
    followed = subst (λ t. IsUnited core image places nestings setting spaces s nodes t printed stages (turns_of m).harts (unprinted (turns_of m).shared)) (setting_next m many) f;
    stand = ap (λ stop. stand_after stop (turns_of m).harts) going
        ∙ ap (λ b. cond b Finished Running) (still_running s nodes (later (setting_of m)) printed stages (turns_of m).harts (unprinted (turns_of m).shared) f);
  }

pub machines_follow_rounds : MachinesFollowRounds
machines_follow_rounds core image places nestings cycles firsts main setting spaces s nodes printed stages m the_law leads few running with =
    let f = with.followed in
    let step : after_turns m (turns_of m) ≡ cycle m = ap (λ b. cond b (after_turns m (turns_of m)) m) (sym running) in
    let next_state = result (next core) setting (counts_for stages) s in
    ⊎_elim
    (λ r.
    inl
    (record {
      round = r.counts;
      possible = subst (λ round. is_possible (next core) setting round s ≡ true) (sym r.counts) r.possible;
      nobody = r.nobody;
      did = r.did;
      afters = r.afters;
      makes = r.makes;
      again = λ nodes' known tree there many' told on goes.
          let x = r.again nodes' known tree there many' told on goes in
          let here = (many_length nodes' (turns_of m).harts x.3.ps x.3.before.as_many).0 in
          let before = (many_length nodes m.harts f.ps f.before.as_many).0 in
          let many : length (turns_of m).harts ≡ length m.harts = sym here ∙ many' ∙ before in (
            x.0,
            x.1,
            x.2,
            subst (λ n. GoesWith core image places nestings setting spaces next_state nodes' (printed ++ n.shared.output) x.0 n) step
                (goes_with core image places nestings setting spaces leads m next_state nodes' (printed ++ (turns_of m).shared.output) x.0 r.going many x.3),
            subst
                (λ n.
                PlanGoesOn core image places nestings setting spaces (plan_of s.tree spaces nodes) (plan_of next_state.tree spaces nodes') (setting_of m) stages x.0 n.harts r.afters r.makes.ps
                (all_landed core (owners_after s.tree next_state.tree r.did)) (λ g. m.shared.control) n.shared.control) step x.4,
          );
    }))
    (λ other.
    inr
    (⊎_elim
    (λ c.
    inl
    (record {
      site = c.site;
      place = c.place;
      stand = ap (λ n. n.stand) (sym step) ∙ ap (λ stop. stand_after stop (turns_of m).harts) c.stops;
      round = c.counts;
      stopped = subst (λ round. IsStopped (next core) setting round s) (sym c.counts) c.stopped;
    }))
    (λ u.
    inr
    (record {
      round = u.counts;
      possible = subst (λ round. is_possible (next core) setting round s ≡ true) (sym u.counts) u.possible;
      all = u.all;
      again = λ i at.
          let x = u.again i at in
          let here = (many_length nodes (turns_of m).harts x.2.ps x.2.before.as_many).0 in
          let before = (many_length nodes m.harts f.ps f.before.as_many).0 in
          let many : length (turns_of m).harts ≡ length m.harts = sym here ∙ before in (
            x.0,
            x.1,
            subst (λ n. GoesToStart core image places nestings setting spaces next_state nodes (printed ++ n.shared.output) x.0 n) step
                (goes_to_start core image places nestings setting spaces leads m next_state nodes (printed ++ (turns_of m).shared.output) x.0 u.going many x.2),
          );
    }))
    other))
    (cycles_follow_rounds core image places nestings cycles firsts main setting spaces s nodes (setting_of m) printed stages m.harts (unprinted m.shared) the_law leads few f).1

pub machines_follow_starts : MachinesFollowStarts
machines_follow_starts core image places nestings cycles firsts main setting spaces s nodes printed stages m the_law leads few running with =
    let f = with.followed in
    let step : after_turns m (turns_of m) ≡ cycle m = ap (λ b. cond b (after_turns m (turns_of m)) m) (sym running) in
    let next_state = result (next core) setting (counts_for stages) s in
    let before = (many_length nodes m.harts f.ps f.before.as_many).0 in
    ⊎_elim
    (λ r.
    inl
    (record {
      round = r.counts;
      possible = subst (λ round. is_possible (next core) setting round s ≡ true) (sym r.counts) r.possible;
      did = r.did;
      afters = r.afters;
      makes = r.makes;
      goes =
          ⊎_elim
          (λ x.
          let here = (many_length nodes (turns_of m).harts x.2.ps x.2.before.as_many).0 in
          let many : length (turns_of m).harts ≡ length m.harts = sym here ∙ before in
          inl (
            x.0,
            x.1,
            subst (λ n. GoesToStart core image places nestings setting spaces next_state nodes (printed ++ n.shared.output) x.0 n) step
                (goes_to_start core image places nestings setting spaces leads m next_state nodes (printed ++ (turns_of m).shared.output) x.0 r.going many x.2),
          ))
          (λ begins.
          inr (
            begins.0,
            λ nodes' tree there many' rest low on goes.
                let x = begins.1 nodes' tree there many' (subst (λ n. IsAtRest (first_of spaces s.tree.given) n.shared.control) (sym step) rest) low on goes in
                let here = (many_length nodes' (turns_of m).harts x.3.ps x.3.before.as_many).0 in
                let many : length (turns_of m).harts ≡ length m.harts = sym here ∙ many' ∙ before in (
                  x.0,
                  x.1,
                  x.2,
                  subst (λ n. GoesWith core image places nestings setting spaces next_state nodes' (printed ++ n.shared.output) x.0 n) step
                      (goes_with core image places nestings setting spaces leads m next_state nodes' (printed ++ (turns_of m).shared.output) x.0 r.going many x.3),
                ),
          ))
          r.goes;
    }))
    (λ c.
    inr
    (record {
      site = c.site;
      place = c.place;
      stand = ap (λ n. n.stand) (sym step) ∙ ap (λ stop. stand_after stop (turns_of m).harts) c.stops;
      round = c.counts;
      stopped = subst (λ round. IsStopped (next core) setting round s) (sym c.counts) c.stopped;
    }))
    (cycles_follow_starts core image places nestings cycles firsts main setting spaces s nodes (setting_of m) printed stages m.harts (unprinted m.shared) the_law leads few f).1
