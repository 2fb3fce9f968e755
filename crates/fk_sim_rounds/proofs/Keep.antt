-- Who has committed by itself comes to its next stage, and so does a group that has done so in lockstep and stays in its node.
use Rattle.std.proofs.Common.{◌≡◌, ◌≢◌, ℕ, suc, ◌≤◌, ◌<◌, List, [], ◌∷◌, length, Option, Some, None, true, false, sym, ap, subst, ◌∙◌, refl, arith, ◌⊎◌, inl, inr, ⊎_elim}
use Rattle.std.specs.Prelude.{map, is_some}
use Rattle.fk_num.specs.Word.{Memory}
use Rattle.fk_space.specs.Space.{Space}
use Rattle.fk_tree.specs.declared.node.Kind.TheVariants.{Lockstep}
use Rattle.fk_tree.specs.Tree as trees
use Rattle.fk_tree.specs.Tree.{Tree}
use Rattle.fk_tree.specs.Sound.{IsSound}
use Rattle.fk_tree.proofs.Shapes.{has_some, some-given}
use Rattle.fk_meaning_operation.specs.declared.operation.Operation.{Operation}
use Rattle.fk_meaning_operation.specs.declared.operation.Operation.TheVariants.{Begin, Agree, Frame, Block, Meet, Resume, Halt, End, Farm, Seq, Split, Shrink}
use Rattle.fk_meaning.specs.Processor.{Setting, values, last}
use Rattle.fk_meaning.specs.Round.{Acting, lowest, agreed, settled_by}
use Rattle.fk_meaning.specs.Group.{goes_onward}
use Rattle.fk_core.specs.declared.op.CoreOp.{CoreOp}
use Rattle.fk_core.specs.Next.{Position, position, landing, next}
use Rattle.fk_image.specs.declared.Image.{Image}
use Rattle.fk_machine.specs.Hart.{Hart, Setting as MachineSetting}
use Rattle.fk_sim_nodes.specs.Node.{Member}
use Rattle.fk_sim_nodes.specs.Alone.{RunsPrivately, NodeRun}
use Rattle.fk_sim_nodes.specs.OnePlace.{last_or}
use Rattle.fk_sim_nodes.proofs.Runs.{run_map}
use Rattle.fk_sim_match.specs.Stage.{Ended}
use Rattle.fk_sim_match.specs.Plan.{Plan, Blocks, HasCommitted, HasUnited}
use Rattle.fk_lockstep.specs.Untouched.{changes_tree}
use Rattle.fk_sim_block.specs.Owner.{Owner, Doing, number_of, owner_of, core_source}
use Rattle.fk_sim_block.specs.Stands as law
use Rattle.fk_sim_block.specs.Stands.{Places}
use Rattle.fk_sim_block.specs.Block.{most_behind, IsRunning, gone_to}
use Rattle.fk_sim_block.specs.Node.{Nestings, StandsInNode, IsAtRest}
use Rattle.fk_sim_block.specs.Lockstep.{is_due, stepped, highest_value, AreMembers}
use Rattle.fk_sim_block.specs.Joint.{is_meeting}
use Rattle.fk_sim_block.specs.Law.{Cycles, GroupLaw, stays_in_step}
use Rattle.fk_sim_match.specs.Nodes.{first_of, HaveSpaces, is_lockstep, plan_of}
use Rattle.fk_sim_match.specs.Behind.{runs_of, HasEnded, HasGone, HasMet, AllHaveGone, HaveStayed, HaveMoved, HaveBegun, IsGroupBehind, blocks_of, moves_apart}
use Rattle.fk_sim_rounds.specs.Next.{JumpsLead, landed, all_landed, HasRange, IsHome, HasNext, HaveNext}
use Rattle.fk_sim_rounds.specs.Comes.{AllHave, AllBelow, IsNode, ComesTo, ComeTo}
use Rattle.fk_sim_rounds.specs.After.{owner_after, AllKeep, is_halt, halts}
use Rattle.fk_sim_rounds.proofs.Way.{landing_end, ended_next}
use Rattle.fk_sim_rounds.proofs.Lists.{map_map, SameNumbers, run_numbers, run_end}
use Rattle.fk_sim_rounds.proofs.Comes.{comes, groups_come_to_commits}
use Rattle.fk_sim_rounds.proofs.Stays.{stays_put}
use Rattle.fk_sim_rounds.proofs.Homes.{does_levels}

-- ---- operations that keep the tree

no_halt : (operation : Operation) → is_meeting operation ≡ true → is_halt operation ≡ false
no_halt Halt meeting = absurd (cc)
no_halt operation meeting = refl

stays_on : (operation : Operation) → stays_in_step operation ≡ true → is_halt operation ≡ false
stays_on Halt stays = absurd (cc)
stays_on operation stays = refl

stays_there : (operation : Operation) → stays_in_step operation ≡ true → stays_put operation ≡ true
stays_there Agree stays = refl
stays_there (Frame number words) stays = refl
stays_there Block stays = refl
stays_there operation stays = absurd (cc)

moves_change : (operation : Operation) → moves_apart operation ≡ true → changes_tree operation ≡ false → ⊥
moves_change Farm moves keeps = absurd (cc)
moves_change Seq moves keeps = absurd (cc)
moves_change End moves keeps = absurd (cc)
moves_change Shrink moves keeps = absurd (cc)
moves_change (Split by) moves keeps = absurd (cc)
moves_change operation moves keeps = absurd (cc)

-- nobody halts
abbrev pub AllOn : List Doing → Type 0
AllOn [] = Unit {0}
AllOn (d ∷ ds) = (halts d.acting.due ≡ false) × AllOn ds

module _ (core : List CoreOp) (image : Image) (places : Places) (nestings : Nestings) (cycles : Cycles) (firsts : List ℕ) (main : ℕ) (setting : Setting) (old tree : Tree) (spaces : ℕ → Space) (nodes nodes' : List ℕ)
    (the_law : GroupLaw core image places nestings cycles firsts main) (leads : JumpsLead core) (spaced : HaveSpaces tree spaces) (sound : IsSound setting.processors tree)
    (t : MachineSetting) (running : IsRunning image setting t) (acting : List (Acting Position)) where
  abbrev plan : Plan
  plan = plan_of old spaces nodes

  abbrev plan' : Plan
  plan' = plan_of tree spaces nodes'

  abbrev blocks : Blocks Owner Doing
  blocks = blocks_of core image places nestings setting (plan_of old spaces nodes) (first_of spaces)

  -- what a round makes of one in it
  abbrev settle : Doing → Owner
  settle d = owner_after acting old tree d

  -- whose operation is done is what it has become
  settle_done : (d : Doing) → d.acting.due ≡ None → settle d ≡ owner_of d
  settle_done d none = ap (λ due. let p : Owner = record { runner = settled_by acting old tree d.acting.runner due; heap = d.heap } in p) none

  pub node_is_there : (h : ℕ) → h < setting.processors → IsNode tree spaces (tree.places h)
  node_is_there h lt =
      let some = has_some tree (tree.places h) h (sound.placed h lt).member in
      record { spaced = spaced; there = is_there (tree.nodes (tree.places h)) some; given = some-given setting.processors tree sound (tree.places h) some }
    where
      is_there : (x : Option trees.Node) → x ≢ None → is_some x ≡ true
      is_there None ne = absurd (ne refl)
      is_there (Some node) ne = refl

  -- who has left those it met stands behind the operation
  pub met_settles : (i : ℕ) (op : CoreOp) (operation : Operation) (p : Owner) → is_meeting operation ≡ true → settle (is_due core i op operation p) ≡ gone_to (suc i) p
  met_settles i op (Meet false) p meeting = refl
  met_settles i op (Meet true) p meeting = refl
  met_settles i op Resume p meeting = refl
  met_settles i op operation p meeting = absurd (cc)

  -- ---- a member by itself

  module _ (m : Member) (p : Owner) (d : Doing) (free : is_lockstep (trees.kind tree (tree.places m.number)) ≡ false) (lt : m.number < setting.processors)
      (same_runs : runs_of (plan_of old spaces nodes) (first_of spaces (old.places m.number)) m.number ≡ runs_of (plan_of tree spaces nodes') (first_of spaces (tree.places m.number)) m.number)
      (home : IsHome tree spaces m.number (settle d)) (has : halts d.acting.due ≡ false → HasNext core nestings setting tree m.number (landed core (settle d))) where
    abbrev g : ℕ
    g = tree.places m.number

    abbrev runs : Option ℕ
    runs = runs_of (plan_of old spaces nodes) (first_of spaces (old.places m.number)) m.number

    abbrev Comes : Type 0
    Comes = ComesTo core image places nestings setting tree spaces nodes' t g m (landed core (settle d))

    come : (b : ℕ) (hart : Hart) → b ≤ most_behind → RunsPrivately image t m.number b m.hart hart → law.StandsAt places (settle d) hart
        → StandsInNode places nestings setting runs (settle d) hart → halts d.acting.due ≡ false → Comes
    come b hart few private at node on =
        comes core image places nestings cycles firsts main setting tree spaces nodes' the_law leads t b m hart (settle d) (node_is_there m.number lt) free running lt few private at
        (subst (λ k. StandsInNode places nestings setting k (settle d) hart) same_runs node) home (has on)

    come_gone : (b : ℕ) (hart : Hart) → b ≤ most_behind → RunsPrivately image t m.number b m.hart hart
        → HasGone core image places nestings setting runs (record m { hart = hart }) d → Comes
    come_gone b hart few private gone =
        let done = gone.done in
        let e = settle_done d done.done.done in
        come b hart few private (subst (λ q. law.StandsAt places q hart) (sym e) done.done.at) (subst (λ q. StandsInNode places nestings setting runs q hart) (sym e) done.node)
        (ap halts done.done.done)

    come_met : (b : ℕ) (hart : Hart) → b ≡ 0 → RunsPrivately image t m.number b m.hart hart
        → HasMet core image places nestings setting runs (record m { hart = hart }) p d → Comes
    come_met b hart at_once private met =
        let e = ap settle met.due ∙ met_settles met.i met.op met.operation p met.meeting in
        come b hart (omega (arith, at_once)) private (subst (λ q. law.StandsAt places q hart) (sym e) met.left.0) (subst (λ q. StandsInNode places nestings setting runs q hart) (sym e) met.left.1)
        (ap (λ x. halts x.acting.due) met.due ∙ no_halt met.operation met.meeting)

    come_ended : (b : ℕ) (hart : Hart) → b ≡ 0 → RunsPrivately image t m.number b m.hart hart
        → HasEnded core image places nestings setting (record m { hart = hart }) d → Comes
    come_ended b hart at_once private ended =
        let here : m.hart ≡ hart = subst (λ k. RunsPrivately image t m.number k m.hart hart) at_once private in
        let step = ended.step in
        let value = agreed acting (trees.members old (old.places d.acting.runner.has.number)) in
        let low = lowest (trees.members old (old.places d.acting.runner.has.number)) in
        let left : (settle d).runner.left ≡ position (length core) []
        = ap (λ due. (settled_by acting old tree d.acting.runner due).left) ended.due
        ∙ ap (λ x. step.rest (goes_onward x value low d.acting.runner.has)) ended.halts ∙ ended.ends in
        record {
          stage = Ended;
          fresh = tt;
          stands = ap (λ h. h.ended) here ∙ ended.ended;
          due =
              ap (λ w. next core (position (landing core w.at) w.callers)) left
              ∙ ap (λ i. next core (position i [])) (landing_end core) ∙ ended_next core [];
          soon = tt;
        }

    pub member_comes : HasCommitted (core_source core setting) image plan blocks t (old.places m.number) m p d ⊎ HasUnited (core_source core setting) image plan blocks t (old.places m.number) m p d → Comes
    member_comes (inr x) = absurd x.1
    member_comes (inl x) =
        ⊎_elim (λ gone. come_gone x.0 x.1 gone.0 x.2 gone.1)
        (λ other. ⊎_elim (λ ended. come_ended x.0 x.1 other.0 x.2 ended) (λ met. come_met x.0 x.1 other.0 x.2 met) other.1) x.3

  -- ---- a group

  -- its members, and what becomes of them
  abbrev pub AllAtHome : (g : ℕ) → List Member → List Doing → Type 0
  AllAtHome g [] [] = Unit {0}
  AllAtHome g (m ∷ ms) (d ∷ ds) =
      ((old.places m.number ≡ g) × (tree.places m.number ≡ g) × (m.number < setting.processors) × IsHome tree spaces m.number (settle d)) × AllAtHome g ms ds
  AllAtHome g ms ds = ⊥

  pub settled_below : (g : ℕ) (ms : List Member) (ds : List Doing) → AllAtHome g ms ds → AllBelow setting.processors (map settle ds)
  settled_below g [] [] home = tt
  settled_below g (m ∷ ms) (d ∷ ds) home = (subst (λ k. k < setting.processors) (sym home.0.3.number_is) home.0.2, settled_below g ms ds home.1)
  settled_below g ms ds home = absurd (assumption home)

  -- they have the space of their group
  pub settled_have : (g : ℕ) (ms : List Member) (ds : List Doing) → trees.kind tree g ≡ Some Lockstep → AllAtHome g ms ds → AllHave (spaces g) (map settle ds)
  settled_have g [] [] kind home = tt
  settled_have g (m ∷ ms) (d ∷ ds) kind home =
      let at = home.0.1 in
      let in_group : tree.places m.number ≢ 0 = λ e. sound.free (ap (trees.kind tree) (sym e ∙ at) ∙ kind) in
      (subst (λ k. HasRange (spaces k) (settle d).runner.has.level.space) at (home.0.3.range in_group), settled_have g ms ds kind home.1)
  settled_have g ms ds kind home = absurd (assumption home)

  gone_members : (g : ℕ) (ms ms' : List Member) (ds : List Doing) → AllAtHome g ms ds → SameNumbers ms' ms → AllHaveGone core image places nestings setting ms' ds
      → AreMembers places nestings setting (λ p. None) (first_of spaces g) ms' (map settle ds)
  gone_members g [] [] [] home same gone = tt
  gone_members g (m ∷ ms) (m' ∷ ms') (d ∷ ds) home same gone =
      let done = gone.0.done in
      let e = settle_done d done.done.done in
      let here = home.0.3 in (
        record {
          number = same.0 ∙ sym here.number_is;
          at = subst (λ q. law.StandsAt places q m'.hart) (sym e) done.done.at;
          node = subst (λ q. StandsInNode places nestings setting None q m'.hart) (sym e) done.node;
          words = here.words ∙ ap (first_of spaces) home.0.1;
        },
        gone_members g ms ms' ds home.1 same.1 gone.1,
      )
  gone_members g ms ms' ds home same gone = absurd (assumption (home, same, gone))

  gone_on : (ms' : List Member) (ds : List Doing) → AllHaveGone core image places nestings setting ms' ds → AllOn ds
  gone_on [] [] gone = tt
  gone_on (m' ∷ ms') (d ∷ ds) gone = (ap halts gone.0.done.done.done, gone_on ms' ds gone.1)
  gone_on ms' ds gone = absurd (assumption gone)

  due_on : (i : ℕ) (op : CoreOp) (operation : Operation) (ps : List Owner) → is_halt operation ≡ false → AllOn (map (is_due core i op operation) ps)
  due_on i op operation [] on = tt
  due_on i op operation (p ∷ ps) on = (on, due_on i op operation ps on)

  -- each has done the step, in which an agree gives all of them one value
  stay_one : (i : ℕ) (op : CoreOp) (operation : Operation) (value lowest size : ℕ) (p : Owner) → stays_in_step operation ≡ true → agreed acting (trees.members old (old.places (number_of p))) ≡ value
      → settle (is_due core i op operation p) ≡ stepped core i op operation value lowest size p
  stay_one i op Agree value lowest size p stays e = ap (λ v. stepped core i op Agree v lowest size p) e
  stay_one i op (Frame number words) value lowest size p stays e = refl
  stay_one i op Block value lowest size p stays e = refl
  stay_one i op operation value lowest size p stays e = absurd (cc)

  stay_all : (i : ℕ) (op : CoreOp) (operation : Operation) (value lowest size g : ℕ) (ms : List Member) (ps : List Owner) → stays_in_step operation ≡ true
      → AllAtHome g ms (map (is_due core i op operation) ps) → agreed acting (trees.members old g) ≡ value
      → map settle (map (is_due core i op operation) ps) ≡ map (stepped core i op operation value lowest size) ps
  stay_all i op operation value lowest size g [] [] stays home e = refl
  stay_all i op operation value lowest size g (m ∷ ms) (p ∷ ps) stays home e =
      let h = number_of p in
      let same : number_of (settle (is_due core i op operation p)) ≡ number_of p
      = (does_levels operation (agreed acting (trees.members old (old.places h))) (length (trees.members tree (tree.places h))) p.runner.has (stays_there operation stays)).0 in
      let number : number_of p ≡ m.number = sym same ∙ home.0.3.number_is in
      ap (λ q. q ∷ map settle (map (is_due core i op operation) ps))
      (stay_one i op operation value lowest size p stays
      (ap (λ h. agreed acting (trees.members old (old.places h))) number ∙ ap (λ n. agreed acting (trees.members old n)) home.0.0 ∙ e))
      ∙ ap (λ l. stepped core i op operation value lowest size p ∷ l) (stay_all i op operation value lowest size g ms ps stays home.1 e)
  stay_all i op operation value lowest size g [] (p ∷ ps) stays home e = absurd (assumption home)
  stay_all i op operation value lowest size g (m ∷ ms) [] stays home e = absurd (assumption home)

  value_of : (i : ℕ) (op : CoreOp) (operation : Operation) (ps : List Owner) → last_or 0 (map (λ d. last (values d.acting.runner.has)) (map (is_due core i op operation) ps)) ≡ highest_value ps
  value_of i op operation ps = ap (last_or 0) (map_map (is_due core i op operation) (λ d. last (values d.acting.runner.has)) ps)

  first_due : (i : ℕ) (op : CoreOp) (operation : Operation) (g : ℕ) (ms : List Member) (ps : List Owner) → AllAtHome g ms (map (is_due core i op operation) ps)
      → AllKeep (map (is_due core i op operation) ps) → (length ms ≡ 0 → ⊥) → changes_tree operation ≡ false
  first_due i op operation g (m ∷ ms) (p ∷ ps) home keep some = keep.0
  first_due i op operation g [] ps home keep some = absurd (some refl)
  first_due i op operation g (m ∷ ms) [] home keep some = absurd (assumption home)

  module _ (g : ℕ) (ms : List Member) (ds : List Doing) (home : AllAtHome g ms ds) (keep : AllKeep ds) (some : length ms ≡ 0 → ⊥)
      (agrees : agreed acting (trees.members old g) ≡ last_or 0 (map (λ d. last (values d.acting.runner.has)) ds)) where
    abbrev Here : List Member → Memory → Type 0
    Here ms' own' = IsAtRest (first_of spaces g) own' × AreMembers places nestings setting (λ p. None) (first_of spaces g) ms' (map settle ds)

    stayed_members : (ms' : List Member) → HaveStayed core image places nestings setting (first_of spaces g) ds ms' → AreMembers places nestings setting (λ p. None) (first_of spaces g) ms' (map settle ds)
    stayed_members ms' x =
        let home' : AllAtHome g ms (map (is_due core x.i x.op x.operation) x.ps) = subst (AllAtHome g ms) x.due home in
        let value : agreed acting (trees.members old g) ≡ highest_value x.ps
        = agrees ∙ ap (λ l. last_or 0 (map (λ d. last (values d.acting.runner.has)) l)) x.due ∙ value_of x.i x.op x.operation x.ps in
        let same : map settle ds ≡ map (stepped core x.i x.op x.operation (highest_value x.ps) 0 0) x.ps
        = ap (map settle) x.due ∙ stay_all x.i x.op x.operation (highest_value x.ps) 0 0 g ms x.ps x.stays home' value in
        subst (AreMembers places nestings setting (λ p. None) (first_of spaces g) ms') (sym same) x.members

    here_by : (ms' : List Member) (own' : Memory) → SameNumbers ms' ms → IsGroupBehind core image places nestings setting (first_of spaces g) ds ms' own' → Here ms' own'
    here_by ms' own' same x =
        (x.0, ⊎_elim (λ gone. gone_members g ms ms' ds home same gone) (λ stayed. stayed_members ms' stayed) x.1)

    -- no step sets them apart
    nobody_parts : (own : Memory) → (HaveMoved core image places nestings setting (first_of spaces g) t ds ms own ⊎ HaveBegun core image places nestings setting t ds ms own) → ⊥
    nobody_parts own (inl x) =
        moves_change x.operation x.moves (first_due x.i x.op x.operation g ms x.ps (subst (AllAtHome g ms) x.due home) (subst AllKeep x.due keep) some)
    nobody_parts own (inr x) =
        absurd (let kept = first_due x.i x.op Begin g ms x.ps (subst (AllAtHome g ms) x.due home) (subst AllKeep x.due keep) some in cc)

    -- those of which nobody halts
    none_halts : (ms' : List Member) (own' : Memory) → IsGroupBehind core image places nestings setting (first_of spaces g) ds ms' own' → AllOn ds
    none_halts ms' own' x =
        ⊎_elim (λ gone. gone_on ms' ds gone) (λ stayed. subst AllOn (sym stayed.due) (due_on stayed.i stayed.op stayed.operation stayed.ps (stays_on stayed.operation stayed.stays))) x.1

    pub group_comes : (own : Memory) → IsNode tree spaces g → trees.kind tree g ≡ Some Lockstep → plan.words g ≡ plan'.words g → HaveNext core nestings (map settle ds) → blocks.AfterAll t g ms ds own
        → ComeTo core image places nestings setting tree spaces nodes' t g ms (all_landed core (map settle ds)) own
    group_comes own node kind same has x =
        let run : NodeRun image (plan.words g) t x.0 ms own (λ ms' own'. IsGroupBehind core image places nestings setting (first_of spaces g) ds ms' own')
        = ⊎_elim (λ run. run) (λ other. absurd (nobody_parts own other)) x.2 in
        groups_come_to_commits core image places nestings cycles firsts main setting tree spaces nodes' t x.0 g ms (map settle ds) own the_law leads node
        (record { kind = kind; space = settled_have g ms ds kind home }) running
        (settled_below g ms ds home) x.1
        (subst (λ w. NodeRun image w t x.0 ms own Here) same
        (run_map image (plan.words g) t x.0 ms own
        (λ ms' own'. SameNumbers ms' ms × IsGroupBehind core image places nestings setting (first_of spaces g) ds ms' own') Here
        (λ ms' own' y. here_by ms' own' y.0 y.1)
        (run_numbers image (plan.words g) t x.0 ms own (λ ms' own'. IsGroupBehind core image places nestings setting (first_of spaces g) ds ms' own') run)))
        has

    pub nobody_halts : (own : Memory) → blocks.AfterAll t g ms ds own → AllOn ds
    nobody_halts own x =
        ⊎_elim
        (λ run.
        let end = run_end image (plan.words g) t x.0 ms own (λ ms' own'. IsGroupBehind core image places nestings setting (first_of spaces g) ds ms' own') run in
        none_halts end.0 end.1 end.2)
        (λ other. absurd (nobody_parts own other)) x.2
