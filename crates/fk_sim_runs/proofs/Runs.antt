-- Machines follow core runs with groups.
use Rattle.std.proofs.Common.{◌≡◌, ℕ, zero, suc, ◌+◌, ◌≤◌, ◌<◌, ◌^◌, List, [], ◌∷◌, ◌++◌, length, Option, None, Bool, true, false, cond, sym, ap, subst, ◌∙◌, refl, arith, ◌⊎◌, inl, inr, ⊎_elim}
use Rattle.std.specs.Prelude.{◌&&◌, map, replicate, is_none}
use Rattle.std.proofs.lemmas.List.{append-nil}
use Rattle.fk_space.specs.Space.{Space}
use Rattle.fk_num.specs.Word.{Memory}
use Rattle.fk_tree.specs.Tree.{Tree}
use Rattle.fk_tree.specs.Sound.{IsSound}
use Rattle.fk_meaning.specs.Processor.{Setting, setting_of, group_space}
use Rattle.fk_meaning_operation.specs.declared.operation.Operation.TheVariants.{Begin}
use Rattle.fk_meaning.specs.Round.{Runner, State, result, is_possible, IsStopped}
use Rattle.fk_meaning.specs.Schedule.{Schedule, SourceRunning, SourceFinished, SourceFaulted, run, CouldAct, IsLawful, all_done, stand_by}
use Rattle.fk_lockstep_tree.specs.Ranges.{ranges_of}
use Rattle.fk_lockstep_tree.specs.Runs.{AreSingle}
use Rattle.fk_core.specs.declared.op.CoreOp.{CoreOp}
use Rattle.fk_core.specs.Next.{Position, position, landing, next, list_opening}
use Rattle.fk_image.specs.declared.Image.{Image}
use Rattle.fk_machine.specs.declared.stand.Stand.{Stand}
use Rattle.fk_machine.specs.declared.stand.Stand.TheVariants.{Running, Finished, Faulted}
use Rattle.fk_machine.specs.Cycle.{Machine, turns_of, all_ended, unprinted, is_running, stand_after, after_turns, cycle}
use Rattle.fk_machine.specs.Cycle as machines
use Rattle.fk_machine.specs.Run.{machine, output_of, round_of, rounds}
use Rattle.fk_sim_match.specs.Stage.{Stage, counts_for, AllDoOne}
use Rattle.fk_sim_match.specs.Plan.{Plan}
use Rattle.fk_sim_match.specs.Cycle.{AllHaveCommitted}
use Rattle.fk_sim_nodes.specs.Node.{AreAsMany}
use Rattle.fk_sim_nodes.specs.Source.{Shows}
use Rattle.fk_sim_block.specs.Owner.{Commons, commons_of, Owner, core_source}
use Rattle.fk_sim_block.specs.Stands.{Places}
use Rattle.fk_sim_block.specs.Next.{OpAt}
use Rattle.fk_sim_block.proofs.Standing.{next_here}
use Rattle.fk_sim_block.specs.Node.{Nestings}
use Rattle.fk_sim_block.specs.Law.{Cycles, GroupLaw}
use Rattle.fk_sim_match.specs.Nodes.{first_of, plan_of, united}
use Rattle.fk_sim_match.specs.Behind.{blocks_of}
use Rattle.fk_sim_rounds.specs.Next.{JumpsLead, all_landed, AllAbout}
use Rattle.fk_sim_rounds.specs.Comes.{most_between}
use Rattle.fk_sim_rounds.specs.After.{runners_of, owners_after, ArePlaces}
use Rattle.fk_sim_rounds.proofs.Groups.{many_length}
use Rattle.fk_sim_rounds.specs.Beside.{landed_runner, IsBeside}
use Rattle.fk_sim_rounds.specs.Follow.{FollowsFault}
use Rattle.fk_sim_rounds.specs.Transport.{HaveSameSpaces}
use Rattle.fk_sim_rounds.proofs.Transport.{plan_same, other_spaces_dont_matter, united_spaces_dont_matter}
use Rattle.fk_sim_rounds.proofs.Landed.{next_landed}
use Rattle.fk_sim_rounds.proofs.Follow.{cycles_follow_rounds}
use Rattle.fk_sim_rounds.proofs.Results.{due_do_one}
use Rattle.fk_sim_rounds.proofs.StartsInRuns.{near_do_one, cycles_follow_starts}
use Rattle.fk_sim_rounds.proofs.Machines.{machines_follow_rounds, machines_follow_starts}
use Rattle.fk_sim_rounds.proofs.RestInRuns.{openings_are_ready}
use Rattle.fk_sim_rounds.specs.Follows.{StandsAgree, Agrees}
use Rattle.fk_sim_runs.specs.Pace.{AreInTime, Sight, Turns, ActsWithin}
use Rattle.fk_sim_runs.specs.Turning.{AreFreshInTime}
use Rattle.fk_sim_runs.specs.Able.{WhoWaitsResumes, sight_of, united_sight_of}
use Rattle.fk_sim_runs.specs.Runs.{plan_in, sight_in, GoesBeside, StandsBeside, IsRound, spaces_in_cycle, AlwaysGoesFurther, MachinesFollowGroupRuns, places_in, tree_behind, OrderlyRoundsGoFurther, UnionsGoFurther, StartsGoFurther}
use Rattle.fk_sim_runs.proofs.Over.{over_before}
use Rattle.fk_sim_runs.proofs.Soon.{are_soon_in_time, all_soon_in_time, near_begin_in_time}
use Rattle.fk_sim_runs.proofs.Turning.{turns as turned, nobody_has_united}
use Rattle.fk_sim_runs.proofs.United.{unions_turn, united_turn}
use Rattle.fk_sim_runs.proofs.Able.{who_could_act_will, who_has_united_will}
use Rattle.fk_sim_runs.proofs.Induction.{IsGoing, IsOver, IsBroken, IsWhole, follows_from}

pub few_harts : (setting : Setting) (nodes : List ℕ) (m : Machine) (ps : List Owner) → setting.processors ≤ 1024 → AreAsMany nodes m.harts ps → length nodes ≡ setting.processors → length m.harts < 2 ^ 31
few_harts setting nodes m ps few as_many many = let harts = (many_length nodes m.harts ps as_many).0 in omega (arith, many, harts, few)

-- all harts commit one operation
pub singles_by : (core : List CoreOp) (image : Image) (places : Places) (nestings : Nestings) (setting : Setting) (spaces : ℕ → Space) (uniting : Bool) (s : State Position) (nodes : List ℕ) (printed : List ℕ)
    (stages : List Stage) (m : Machine) → GoesBeside core image places nestings setting spaces uniting s nodes printed stages m → AllDoOne stages
singles_by core image places nestings setting spaces false s nodes printed stages m goes = due_do_one core s.tree spaces 0 stages (runners_of goes.followed.ps) goes.followed.before.due
singles_by core image places nestings setting spaces true s nodes printed stages m goes = near_do_one stages goes.followed.near

module _ (core : List CoreOp) (image : Image) (places : Places) (nestings : Nestings) (cycles : Cycles) (firsts : List ℕ) (main : ℕ) (setting : Setting) (spaces : ℕ → Space)
    (the_law : GroupLaw core image places nestings cycles firsts main) (leads : JumpsLead core) (few : setting.processors ≤ 1024) where
  going_with : (s : State Position) (printed : List ℕ) (m : Machine) (ps : List Owner) (shared : Commons) → IsBeside core setting s ps shared → Shows (core_source core setting) printed (unprinted m.shared) shared
      → m.stand ≡ cond (all_done (next core) setting s.runners) Finished Running → IsGoing core setting s printed m
  going_with s printed m ps shared beside shows stand =
      let commons = beside.commons in
      record {
        going = beside.going;
        output = sym (append-nil printed) ∙ shows.output ∙ ap (λ c. c.output) (sym commons);
        words = shows.words ∙ ap (λ c. c.words) (sym commons);
        stand = stand;
      }

  -- who is at the beginning of `start` has something left to do
  not_done : (i : ℕ) (op : CoreOp) (ps : List Owner) (rs : List (Runner Position)) → OpAt core i op Begin → AllAbout i op Begin ps → runners_of ps ≡ map (landed_runner core) rs → 1 ≤ length ps
      → all_done (next core) setting rs ≡ false
  not_done i op [] rs stands about same some = absurd (omega (arith, some))
  not_done i op (p ∷ ps) [] stands about same some = absurd (cc)
  not_done i op (p ∷ ps) (r ∷ rs) stands about same some =
      let first : p.runner ≡ landed_runner core r = cc in
      let at : landing core r.left.at ≡ i = ap (λ x. x.left.at) (sym first) ∙ about.0 in
      let ahead = sym (next_landed core leads r.left) ∙ ap (λ k. next core (position k r.left.callers)) at ∙ next_here core i op Begin r.left.callers stands in
      ap (λ o. is_none o && all_done (next core) setting rs) ahead

  is_going_by : (uniting : Bool) (s : State Position) (nodes : List ℕ) (printed : List ℕ) (stages : List Stage) (m : Machine) → GoesBeside core image places nestings setting spaces uniting s nodes printed stages m
      → IsGoing core setting s printed m
  is_going_by false s nodes printed stages m goes = let f = goes.followed in going_with s printed m f.ps f.shared f.beside f.shows goes.stand
  is_going_by true s nodes printed stages m goes =
      let f = goes.followed in
      let before = f.before in
      let some = before.sound.some in
      let size = before.many in
      let as_many = (many_length nodes m.harts f.ps before.as_many).1 in
      going_with s printed m f.ps f.shared f.beside f.shows
      (goes.stand ∙ ap (λ b. cond b Finished Running) (sym (not_done f.i f.op f.ps s.runners f.stands f.about f.beside.runners (omega (arith, some, size, as_many)))))

  -- the round of its cycle is stopped
  breaks : (s : State Position) (nodes : List ℕ) (printed : List ℕ) (stages : List Stage) (m : Machine) → is_running m.stand ≡ true
      → FollowsFault core image places nestings setting spaces s nodes (machines.setting_of m) printed stages m.harts (unprinted m.shared) → IsBroken core setting image s printed m
  breaks s nodes printed stages m running c =
      let step : after_turns m (turns_of m) ≡ cycle m = ap (λ b. cond b (after_turns m (turns_of m)) m) (sym running) in
      let commons = ap (λ r. commons_of c.shared.asked (result (next core) setting r s).store) c.counts ∙ c.fault.commons in
      record {
        stopped = subst (λ r. IsStopped (next core) setting r s) (sym c.counts) c.stopped;
        over = record {
          fault = record { site = c.site; processor = c.place };
          faulted = ap (λ r. (result (next core) setting r s).fault) c.counts ∙ c.fault.stopped;
          output = ap (λ n. printed ++ n.shared.output) (sym step) ∙ c.shows.output ∙ ap (λ k. k.output) (sym commons);
          words = ap (λ n. n.shared.words) (sym step) ∙ c.shows.words ∙ ap (λ k. k.words) (sym commons);
          stand = ap (λ n. n.stand) (sym step) ∙ ap (λ stop. stand_after stop (turns_of m).harts) c.stops;
        };
      }

  not_faulted : (ended : Bool) (site place : ℕ) → cond ended Finished Running ≡ Faulted site place → ⊥
  not_faulted true site place e = cc
  not_faulted false site place e = cc

  -- a cycle that a fault ends is no whole round
  not_both : (m : Machine) (site place : ℕ) → is_running m.stand ≡ true → (turns_of m).stop ≡ None → (cycle m).stand ≡ Faulted site place → ⊥
  not_both m site place running going stand =
      let step : after_turns m (turns_of m) ≡ cycle m = ap (λ b. cond b (after_turns m (turns_of m)) m) (sym running) in
      not_faulted (all_ended (turns_of m).harts) site place (sym (ap (λ stop. stand_after stop (turns_of m).harts) going) ∙ ap (λ n. n.stand) step ∙ stand)

  -- a cycle is a possible round, or a stopped one
  cycle_is : (uniting : Bool) (s : State Position) (nodes : List ℕ) (printed : List ℕ) (stages : List Stage) (m : Machine) → GoesBeside core image places nestings setting spaces uniting s nodes printed stages m
      → is_running m.stand ≡ true
      → IsRound core image places nestings setting spaces uniting s nodes printed stages m ⊎ IsBroken core setting image s printed m
  cycle_is false s nodes printed stages m goes running =
      let f = goes.followed in
      let before = f.before in
      let short = few_harts setting nodes m f.ps few before.as_many before.many in
      ⊎_elim (λ on. inl (inl on))
      (λ other.
      ⊎_elim
      (λ stops.
      ⊎_elim (λ whole. absurd (not_both m stops.site stops.place running whole.going stops.stand))
      (λ last.
      ⊎_elim (λ fault. inr (breaks s nodes printed stages m running fault)) (λ union. absurd (not_both m stops.site stops.place running union.going stops.stand)) last)
      (cycles_follow_rounds core image places nestings cycles firsts main setting spaces s nodes (machines.setting_of m) printed stages m.harts (unprinted m.shared) the_law leads short f).1)
      (λ unites. inl (inr unites)) other)
      (machines_follow_rounds core image places nestings cycles firsts main setting spaces s nodes printed stages m the_law leads short running goes)
  cycle_is true s nodes printed stages m goes running =
      let f = goes.followed in
      let before = f.before in
      let short = few_harts setting nodes m f.ps few before.as_many before.many in
      ⊎_elim (λ starts. inl starts)
      (λ stops.
      ⊎_elim (λ whole. absurd (not_both m stops.site stops.place running whole.going stops.stand)) (λ fault. inr (breaks s nodes printed stages m running fault))
      (cycles_follow_starts core image places nestings cycles firsts main setting spaces s nodes (machines.setting_of m) printed stages m.harts (unprinted m.shared) the_law leads short f).1)
      (machines_follow_starts core image places nestings cycles firsts main setting spaces s nodes printed stages m the_law leads short running goes)

  round_is : (uniting : Bool) (s : State Position) (nodes : List ℕ) (printed : List ℕ) (stages : List Stage) (m : Machine) → IsRound core image places nestings setting spaces uniting s nodes printed stages m
      → (round_of image m ≡ counts_for stages) × (is_possible (next core) setting (counts_for stages) s ≡ true)
  round_is false s nodes printed stages m (inl r) = (r.round, subst (λ x. is_possible (next core) setting x s ≡ true) r.round r.possible)
  round_is false s nodes printed stages m (inr r) = (r.round, subst (λ x. is_possible (next core) setting x s ≡ true) r.round r.possible)
  round_is true s nodes printed stages m r = (r.round, subst (λ x. is_possible (next core) setting x s ≡ true) r.round r.possible)

  will_by : (uniting : Bool) (s : State Position) (nodes : List ℕ) (printed : List ℕ) (stages : List Stage) (m : Machine) → GoesBeside core image places nestings setting spaces uniting s nodes printed stages m
      → AreInTime stages → WhoWaitsResumes core s → (h : ℕ) → CouldAct (next core) setting h s
      → ActsWithin (sight_in uniting s.tree spaces nodes stages m.shared.control m.begun) h most_between
  will_by false s nodes printed stages m goes in_time waits h could =
      who_could_act_will core image places nestings setting spaces s nodes (machines.setting_of m) printed stages m.harts (unprinted m.shared) h leads goes.followed in_time waits could
  will_by true s nodes printed stages m goes in_time waits h could =
      who_has_united_will core image places nestings setting spaces s nodes (machines.setting_of m) printed stages m.harts (unprinted m.shared) h goes.followed could

-- ---- with other words of nodes that aren't there

module _ (core : List CoreOp) (image : Image) (places : Places) (nestings : Nestings) (setting : Setting) where
  sound_of : (spaces : ℕ → Space) (uniting : Bool) (s : State Position) (nodes : List ℕ) (printed : List ℕ) (stages : List Stage) (m : Machine)
      → GoesBeside core image places nestings setting spaces uniting s nodes printed stages m → IsSound setting.processors s.tree
  sound_of spaces false s nodes printed stages m goes = goes.followed.before.sound
  sound_of spaces true s nodes printed stages m goes = goes.followed.before.sound

  goes_same : (spaces spaces' : ℕ → Space) (uniting : Bool) (s : State Position) (nodes : List ℕ) (printed : List ℕ) (stages : List Stage) (m : Machine) → HaveSameSpaces s.tree spaces spaces'
      → GoesBeside core image places nestings setting spaces uniting s nodes printed stages m → GoesBeside core image places nestings setting spaces' uniting s nodes printed stages m
  goes_same spaces spaces' false s nodes printed stages m same goes = other_spaces_dont_matter core image places nestings setting spaces spaces' s nodes printed stages m same goes
  goes_same spaces spaces' true s nodes printed stages m same goes = united_spaces_dont_matter core image places nestings setting spaces spaces' s nodes printed stages m same goes

  stands_same : (spaces spaces' : ℕ → Space) (uniting : Bool) (s : State Position) (nodes : List ℕ) (printed : List ℕ) (stages : List Stage) (m : Machine) → HaveSameSpaces s.tree spaces spaces'
      → StandsBeside core image places nestings setting spaces uniting s nodes printed stages m → StandsBeside core image places nestings setting spaces' uniting s nodes printed stages m
  stands_same spaces spaces' uniting s nodes printed stages m same x =
      record { goes = goes_same spaces spaces' uniting s nodes printed stages m same x.goes; in_time = x.in_time; ready = x.ready }

  sight_same : (tree : Tree) (spaces spaces' : ℕ → Space) (uniting : Bool) (nodes : List ℕ) (stages : List Stage) (control : Memory) (finished : ℕ) → HaveSameSpaces tree spaces spaces'
      → sight_in uniting tree spaces nodes stages control finished ≡ sight_in uniting tree spaces' nodes stages control finished
  sight_same tree spaces spaces' uniting nodes stages control finished same =
      ap (λ (plan : Plan). let v : Sight = record { plan = plan_in uniting plan; stages = stages; control = control; finished = finished } in v) (plan_same tree spaces spaces' same nodes)

-- ---- whole runs

module _ (core : List CoreOp) (image : Image) (places : Places) (nestings : Nestings) (cycles : Cycles) (firsts : List ℕ) (main : ℕ) (setting : Setting)
    (the_law : GroupLaw core image places nestings cycles firsts main) (leads : JumpsLead core) (few : setting.processors ≤ 1024) where
  -- a machine beside a state, all of whose harts are in time
  record Stands (s : State Position) (printed : List ℕ) (m : Machine) : Type 0 where
    uniting : Bool
    nodes : List ℕ
    stages : List Stage
    beside : StandsBeside core image places nestings setting (ranges_of s) uniting s nodes printed stages m

  abbrev sight : (s : State Position) (printed : List ℕ) (m : Machine) → Stands s printed m → Sight
  sight s printed m x = sight_in x.uniting s.tree (ranges_of s) x.nodes x.stages m.shared.control m.begun

  is_going : (s : State Position) (printed : List ℕ) (m : Machine) → Stands s printed m → IsGoing core setting s printed m
  is_going s printed m x =
      is_going_by core image places nestings cycles firsts main setting (ranges_of s) the_law leads few x.uniting s x.nodes printed x.stages m x.beside.goes

  module _ (first : State Position) (always : AlwaysGoesFurther core image places nestings setting first) where
    turns : (schedule : Schedule) (printed : List ℕ) (m : Machine) (x : Stands (run (next core) setting schedule first) printed m) → IsLawful (next core) setting schedule first
        → AreSingle schedule → is_running m.stand ≡ true
        → IsWhole core setting image first Stands sight schedule printed m x ⊎ IsBroken core setting image (run (next core) setting schedule first) printed m
    turns schedule printed m x lawful single running =
        let s = run (next core) setting schedule first in
        let behind = result (next core) setting (counts_for x.stages) s in
        let spaces = spaces_in_cycle core setting s x.stages in
        let ones = singles_by core image places nestings setting (ranges_of s) x.uniting s x.nodes printed x.stages m x.beside.goes in
        let before = over_before setting s behind (sound_of core image places nestings setting (ranges_of s) x.uniting s x.nodes printed x.stages m x.beside.goes) in
        let beside = stands_same core image places nestings setting (ranges_of s) spaces x.uniting s x.nodes printed x.stages m before x.beside in
        ⊎_elim
        (λ g.
        let round = round_is core image places nestings cycles firsts main setting spaces the_law leads few x.uniting s x.nodes printed x.stages m g in
        inl
        (record {
          round = round.0;
          singles = ones;
          possible = round.1;
          further = λ lawful'.
              let y = always.further schedule x.uniting x.nodes printed x.stages m lawful single beside running g lawful' in
              let after = always.stay schedule x.stages lawful single ones round.1 lawful' in
              let control' = (cycle m).shared.control in
              let begun' = (cycle m).begun in (
                record {
                  uniting = y.uniting';
                  nodes = y.nodes';
                  stages = y.stages';
                  beside = stands_same core image places nestings setting spaces (ranges_of behind) y.uniting' behind y.nodes' (printed ++ (cycle m).shared.output) y.stages' (cycle m) after y.stands;
                },
                subst (λ v. Turns v (sight_in y.uniting' behind.tree (ranges_of behind) y.nodes' y.stages' control' begun'))
                    (sym (sight_same core image places nestings setting s.tree (ranges_of s) spaces x.uniting x.nodes x.stages m.shared.control m.begun before))
                    (subst (λ v. Turns (sight_in x.uniting s.tree spaces x.nodes x.stages m.shared.control m.begun) v)
                    (sight_same core image places nestings setting behind.tree spaces (ranges_of behind) y.uniting' y.nodes' y.stages' control' begun' after) y.turns),
              );
        }))
        (λ broken. inr broken)
        (cycle_is core image places nestings cycles firsts main setting spaces the_law leads few x.uniting s x.nodes printed x.stages m beside.goes running)

    will : (schedule : Schedule) (printed : List ℕ) (m : Machine) (x : Stands (run (next core) setting schedule first) printed m) → IsLawful (next core) setting schedule first
        → AreSingle schedule → (h : ℕ) → CouldAct (next core) setting h (run (next core) setting schedule first) → ActsWithin (sight (run (next core) setting schedule first) printed m x) h most_between
    will schedule printed m x lawful single h could =
        let s = run (next core) setting schedule first in
        will_by core image places nestings cycles firsts main setting (ranges_of s) the_law leads few x.uniting s x.nodes printed x.stages m x.beside.goes x.beside.in_time
        (always.waits schedule lawful single (is_going s printed m x).going) h could

    follows : (input : List ℕ) (p : ℕ) (x : Stands first [] (machine image input p 0)) (n : ℕ)
        → IsLawful (next core) setting (rounds image input p n) first
        × (IsGoing core setting (run (next core) setting (rounds image input p n) first) (output_of image input p n) (machine image input p n)
        ⊎ IsOver core setting (run (next core) setting (rounds image input p n) first) (output_of image input p n) (machine image input p n))
    follows input p x n = follows_from core setting image first Stands sight is_going will turns input p x n

-- ---- as it is said in the law

going_stand : (stand : Stand) (b : Bool) → stand ≡ cond b Finished Running → StandsAgree stand (cond b SourceFinished SourceRunning)
going_stand Running true e = absurd (cc)
going_stand Running false e = tt
going_stand Finished true e = tt
going_stand Finished false e = absurd (cc)
going_stand stand true e = absurd (cc)
going_stand stand false e = absurd (cc)

agrees : (core : List CoreOp) (image : Image) (input : List ℕ) (p n : ℕ) (last : State Position)
    → IsGoing core (setting_of p image.globals.items input) last (output_of image input p n) (machine image input p n)
    ⊎ IsOver core (setting_of p image.globals.items input) last (output_of image input p n) (machine image input p n)
    → Agrees (next core) image input p n last
agrees core image input p n last (inl is) = record {
  output = is.output;
  words = λ i lt. ap (λ words. words i) is.words;
  stand = subst (λ f. StandsAgree (machine image input p n).stand (stand_by (next core) (setting_of p image.globals.items input) f last.runners)) (sym is.going)
      (going_stand (machine image input p n).stand (all_done (next core) (setting_of p image.globals.items input) last.runners) is.stand);
}
agrees core image input p n last (inr over) = record {
  output = over.output;
  words = λ i lt. ap (λ words. words i) over.words;
  stand = subst (λ f. StandsAgree (machine image input p n).stand (stand_by (next core) (setting_of p image.globals.items input) f last.runners)) (sym over.faulted)
      (subst (λ st. StandsAgree st (SourceFaulted over.fault)) (sym over.stand) (refl, refl));
}

pub machines_follow_group_runs : MachinesFollowGroupRuns
machines_follow_group_runs core image places nestings cycles firsts main input p n the_law leads few opens always =
    let setting = setting_of p image.globals.items input in
    let first = list_opening main image.globals.items firsts input p in
    let r = follows core image places nestings cycles firsts main setting the_law leads few first always input p
    (record {
      uniting = false;
      nodes = replicate p 0;
      stages = opens.stages;
      beside = record { goes = opens.goes; in_time = are_soon_in_time opens.stages opens.soon; ready = openings_are_ready image input p first.tree (group_space setting).low };
    }) n in
    record { lawful = r.0; agrees = agrees core image input p n (run (next core) setting (rounds image input p n) first) r.1 }

-- ---- orderly rounds

pub stand_in : (tree : Tree) (number count : ℕ) → ArePlaces tree number (places_in tree number count)
stand_in tree number zero = tt
stand_in tree number (suc n) = (refl, stand_in tree (suc number) n)

pub many_in : (tree : Tree) (number count : ℕ) → length (places_in tree number count) ≡ count
many_in tree number zero = refl
many_in tree number (suc n) = ap suc (many_in tree (suc number) n)

-- a cycle of a machine that runs is one more that is finished
one_more : (m : Machine) → is_running m.stand ≡ true → m.begun + 1 ≡ (cycle m).begun
one_more m running = ap (λ n. n.begun) (ap (λ b. cond b (after_turns m (turns_of m)) m) (sym running))

pub orderly_rounds_go_further : OrderlyRoundsGoFurther
orderly_rounds_go_further core image places nestings setting spaces s nodes printed stages m r running goes in_time known behind =
    let tree = tree_behind core nestings setting spaces s stages m in
    let nodes' = places_in tree 0 setting.processors in
    let there = stand_in tree 0 setting.processors in
    let before = goes.followed.before in
    let many : length nodes' ≡ length nodes = many_in tree 0 setting.processors ∙ sym before.many in
    let x = r.again nodes' known behind.tree there many behind.parts behind.ahead behind.groups in
    let few = few_harts setting nodes m goes.followed.ps before.running.few before.as_many before.many in
    let source = core_source core setting in
    let plan = plan_of s.tree spaces nodes in
    let plan' = plan_of tree spaces nodes' in
    let blocks = blocks_of core image places nestings setting plan (first_of spaces) in
    let blocks' = blocks_of core image places nestings setting plan' (first_of spaces) in
    let t = machines.setting_of m in
    let ps' = all_landed core (owners_after s.tree tree r.did) in
    let y = turned source image plan blocks plan' blocks' t stages x.0 r.afters m.harts (cycle m).harts goes.followed.ps r.makes.ps ps' m.shared.control (cycle m).shared.control few refl goes.followed.bound
    r.makes.stay x.4.changes x.4.goes (nobody_has_united stages r.nobody) in_time (all_soon_in_time r.afters x.0 x.2) in
    record {
      uniting' = false;
      nodes' = nodes';
      stages' = x.0;
      stands = record { goes = x.3; in_time = y.0; ready = behind.ready };
      turns = subst (λ k. Turns (sight_of s.tree spaces nodes stages m.shared.control m.begun) (sight_of tree spaces nodes' x.0 (cycle m).shared.control k)) (one_more m running) y.1;
    }

few_stages : (setting : Setting) (nodes : List ℕ) (m : Machine) (stages : List Stage) → setting.processors ≤ 1024 → AreAsMany nodes m.harts stages → length nodes ≡ setting.processors → length stages < 2 ^ 31
few_stages setting nodes m stages few as_many many = let long = (many_length nodes m.harts stages as_many).1 in omega (arith, many, long, few)

pub unions_go_further : UnionsGoFurther
unions_go_further core image places nestings setting spaces s nodes printed stages m i r running goes few at ready =
    let tree = tree_behind core nestings setting spaces s stages m in
    let f = goes.followed in
    let x = r.again i at in
    let y = unions_turn (plan_of s.tree spaces nodes) (united (plan_of tree spaces nodes)) stages x.0 m.shared.control (cycle m).shared.control m.begun
    (few_stages setting nodes m stages few f.bound.stages_as_many f.before.many) r.all x.1 x.2.followed.near in
    record {
      uniting' = true;
      nodes' = nodes;
      stages' = x.0;
      stands = record { goes = x.2; in_time = y.0; ready = ready };
      turns = subst (λ k. Turns (sight_of s.tree spaces nodes stages m.shared.control m.begun) (united_sight_of tree spaces nodes x.0 (cycle m).shared.control k)) (one_more m running) y.1;
    }

-- all have committed, so all are at fresh stages
all_in_time : (afters : List (Option Stage)) (stages : List Stage) → AllHaveCommitted afters → AreFreshInTime afters stages → AreInTime stages
all_in_time [] [] gone fresh = tt
all_in_time (a ∷ afters) (s ∷ stages) gone fresh = (fresh.0 gone.0, all_in_time afters stages gone.1 fresh.1)
all_in_time afters stages gone fresh = absurd (assumption fresh)

pub starts_go_further : StartsGoFurther
starts_go_further core image places nestings setting spaces s nodes printed stages m r running goes few behind rest range =
    let tree = tree_behind core nestings setting spaces s stages m in
    let f = goes.followed in
    let before = f.before in
    let short = few_stages setting nodes m stages few f.bound.stages_as_many before.many in
    let sight = united_sight_of s.tree spaces nodes stages m.shared.control m.begun in
    ⊎_elim
    (λ x.
    let y = united_turn (united (plan_of s.tree spaces nodes)) (united (plan_of tree spaces nodes)) stages x.0 m.shared.control (cycle m).shared.control m.begun short f.near x.1 in
    record {
      uniting' = true;
      nodes' = nodes;
      stages' = x.0;
      stands = record { goes = x.2; in_time = near_begin_in_time x.0 x.2.followed.near; ready = behind.ready };
      turns = subst (λ k. Turns sight (united_sight_of tree spaces nodes x.0 (cycle m).shared.control k)) (one_more m running) y;
    })
    (λ begins.
    let nodes' = places_in tree 0 setting.processors in
    let many : length nodes' ≡ length nodes = many_in tree 0 setting.processors ∙ sym before.many in
    let x = begins.1 nodes' behind.tree (stand_in tree 0 setting.processors) many rest range behind.ahead behind.groups in
    let y = united_turn (united (plan_of s.tree spaces nodes)) (plan_of tree spaces nodes') stages x.0 m.shared.control (cycle m).shared.control m.begun short f.near x.1 in
    record {
      uniting' = false;
      nodes' = nodes';
      stages' = x.0;
      stands = record { goes = x.3; in_time = all_in_time r.afters x.0 begins.0 (all_soon_in_time r.afters x.0 x.2); ready = behind.ready };
      turns = subst (λ k. Turns sight (sight_of tree spaces nodes' x.0 (cycle m).shared.control k)) (one_more m running) y;
    })
    r.goes
