-- Who stands at the beginning of a block is at a stage.
use Rattle.std.proofs.Common.{◌≡◌, ℕ, suc, ◌+◌, ◌≤◌, List, [], ◌∷◌, length, map, Bool, true, false, Option, Some, None, sym, ap, subst, ◌∙◌, refl, arith, inl, inr, ⊎_elim}
use Rattle.fk_num.specs.Word.{Memory}
use Rattle.fk_space.specs.Space.{Space}
use Rattle.fk_meaning_operation.specs.declared.operation.SplitKind.{SplitKind}
use Rattle.fk_meaning_operation.specs.declared.operation.Operation.{Operation}
use Rattle.fk_meaning_operation.specs.declared.operation.Operation.TheVariants.{Begin, Agree, Frame, Block, Farm, Seq, Split, Shrink, End, Halt}
use Rattle.fk_meaning.specs.Processor.{Setting}
use Rattle.fk_meaning.specs.Group.{has_parts}
use Rattle.fk_core.specs.declared.op.CoreOp.{CoreOp}
use Rattle.fk_core.specs.Next.{next, position, follows, returned}
use Rattle.fk_image.specs.declared.Image.{Image}
use Rattle.fk_machine.specs.Hart.{Hart, Setting as MachineSetting}
use Rattle.fk_sim_nodes.specs.Node.{Member}
use Rattle.fk_sim_nodes.specs.Source.{Source, Part, Passes, Breaks}
use Rattle.fk_sim_nodes.specs.Alone.{NodeRun, later, in_cycles}
use Rattle.fk_sim_nodes.specs.OneHart.{OneDoes, AllReach}
use Rattle.fk_sim_nodes.specs.Together.{Together}
use Rattle.fk_sim_nodes.proofs.Runs.{run_map}
use Rattle.fk_sim_nodes.proofs.Members.{together_map}
use Rattle.fk_sim_nodes.specs.Phase.{Coming}
use Rattle.fk_sim_match.specs.Plan.{Plan, AllAct, InLockstep}
use Rattle.fk_sim_block.specs.Owner.{Commons, Owner, Doing, part, core_source}
use Rattle.fk_sim_block.specs.Stands.{Places}
use Rattle.fk_sim_block.specs.Next.{OpAt, step_at}
use Rattle.fk_sim_block.specs.Ready.{MayDo, is_alone}
use Rattle.fk_sim_block.specs.Block.{most_before, most_behind, IsRunning, member_of}
use Rattle.fk_sim_block.proofs.Standing.{next_here, operations_are_next}
use Rattle.fk_sim_block.specs.Node.{Polling, Nestings, OwnsHeader, OwnsSpace, IsAtRest, first_word, closing_word, agreed_word, root_words}
use Rattle.fk_sim_block.specs.Lockstep.{is_due, stepped, highest_value, IsMember, AllComeAlone, AllComeByWay, AllEnter, HaveStepped, HaveParted, AreInStart, AreOfSize, one_runs}
use Rattle.fk_sim_block.specs.Parts.{size_behind, AreToDivide, AreInPart, AllRest, moved, AllMove}
use Rattle.fk_sim_block.specs.Joint.{word_of, Polls, MeetsAt}
use Rattle.fk_sim_block.specs.Start.{MeetsUntil, AllHaveMet, HaveStarted}
use Rattle.fk_sim_block.specs.Law.{Cycles, GroupLaw, HasDoneInNode, way_of, runs_behind, is_shared_step, stays_in_step, sets_apart, IsAskedOf}
use Rattle.fk_sim_block.specs.Laws.{AllGo}
use Rattle.fk_sim_block.proofs.Together.{members_do_together}
use Rattle.fk_sim_match.specs.Behind.{IsBehind, AllHaveGone, IsGroupBehind, HaveMoved, HaveActed, runs_of, blocks_of, moves_apart, IsAskedToMove, bodies_around, bodies_behind, PartsRest}
use Rattle.fk_sim_match.specs.Standing.{all_act, MembersStandAtStages, MembersHaltAtStages, MeetersSetOut, StartersSetOut, GroupsActTogether, GroupsStepTogether, GroupsEndTogether, GroupsDivideTogether, GroupsShrinkTogether, GroupsStartTogether}

-- ---- by itself

one_does_map : {S P D : Type 0} (source : Source S P D) (image : Image) (t : MachineSetting) (c before after : ℕ) (m : Member) (p : P) (Then Then' : Hart → D → Type 0)
    → ((h : Hart) (d : D) → Then h d → Then' h d) → OneDoes source image t c before after m p Then → OneDoes source image t c before after m p Then'
one_does_map source image t c before after m p Then Then' f x = record {
  committing = x.committing;
  runs = x.runs;
  commits = record {
    live = x.commits.live;
    counted = x.commits.counted;
    does = λ s.
        ⊎_elim
        (λ v.
        inl
        (record { hart = v.hart; store = v.store; done = v.done; part = v.part; goes = v.goes; follows = (v.follows.0, v.follows.1, f v.follows.0 v.done v.follows.2) }))
        (λ broken. inr broken)
        (x.commits.does s);
  };
}

pub members_stand_at_stages : MembersStandAtStages
members_stand_at_stages core image places nestings cycles firsts main setting plan first t g i op operation m p law stands alone en member finds =
    let runs = runs_of plan (first g) m.number in
    let behind = cycles.behind i (way_of operation p.runner.has) in (
      behind,
      one_does_map (core_source core setting) image t 1 (cycles.before i) behind m p (λ h d. HasDoneInNode core image places nestings setting runs d h)
          (λ h d. IsBehind core image places nestings setting runs behind (record m { hart = h }) p d)
          (λ h d done. inl (law.few_behind i (way_of operation p.runner.has), record { done = done }))
          (law.alone i op operation stands alone setting t runs (first g) m p en member finds),
    )

-- the end of `main` leaves what all share, and its processor is to end
halt_part : (core : List CoreOp) (setting : Setting) (i : ℕ) (op : CoreOp) (s : Commons) (p : Owner) → OpAt core i op Halt → p.runner.left.at ≡ i
    → part core setting 1 s p ≡ Passes s (is_due core i op Halt p)
halt_part core setting i op s p stands at = operations_are_next core i op Halt setting 0 s p stands at

abbrev done_in : Doing → Part Commons Doing → Doing
done_in other (Passes s d) = d
done_in other (Breaks site) = other

halt_ends : (core : List CoreOp) (i : ℕ) (op : CoreOp) (p : Owner) → MayDo Halt p.runner → follows core Halt i op.target p.runner.left.callers true ≡ position (length core) []
halt_ends core i op p none = ap (returned core) none

pub members_halt_at_stages : MembersHaltAtStages
members_halt_at_stages core image places nestings cycles firsts main setting plan first t g i op m p law stands en same =
    let runs = runs_of plan (first g) m.number in
    let halts = law.halts i op stands setting t p m.hart en in
    let who : m ≡ member_of p m.hart = ap (λ n. let q : Member = record { number = n; hart = m.hart } in q) same in
    let Ends : Hart → Doing → Type 0
    = λ h d. (h.ended ≡ true) × (d ≡ is_due core i op Halt p) in
    let ends : OneDoes (core_source core setting) image t 1 halts.before 0 (member_of p m.hart) p Ends
    = record {
      committing = halts.does.committing;
      runs = halts.does.runs;
      commits = record {
        live = halts.does.commits.live;
        counted = halts.does.commits.counted;
        does = λ s.
            ⊎_elim
            (λ v.
            let done : v.done ≡ is_due core i op Halt p = ap (done_in v.done) (sym v.part ∙ halt_part core setting i op s p stands en.index) in
            inl
            (record { hart = v.hart; store = v.store; done = v.done; part = v.part; goes = v.goes; follows = (v.follows.0, v.follows.1, (v.follows.2, done)) }))
            (λ broken. inr broken)
            (halts.does.commits.does s);
      };
    } in (
      halts.before,
      halts.few_before,
      (
        0,
        one_does_map (core_source core setting) image t 1 halts.before 0 m p Ends (λ h d. IsBehind core image places nestings setting runs 0 (record m { hart = h }) p d)
            (λ h d e.
            inr (
              refl,
              inl (record {
                ended = e.0;
                step = step_at core i op Halt p.runner.left.callers;
                due = ap (λ x. x.acting.due) e.1;
                halts = refl;
                ends = halt_ends core i op p en.ready.may;
              }),
            ))
            (subst (λ q. OneDoes (core_source core setting) image t 1 halts.before 0 q p Ends) (sym who) ends),
      ),
    )

pub meeters_set_out : MeetersSetOut
meeters_set_out core image places nestings cycles firsts main setting plan first t g i w op operation m p law stands meeting en member owns word is_open is_member so_many =
    let runs = runs_of plan (first g) m.number in
    let comes = law.meets i op operation stands meeting setting t (plan.words g) runs (first g) (plan.size w) m p owns en member so_many in
    let at = comes.2 in (
      comes.0,
      comes.1,
      at.stands.0,
      (
        tt,
        is_open,
        is_member,
        record {
          i = i;
          op = op;
          operation = operation;
          stands = stands;
          meeting = meeting;
          next_is =
              subst (λ j. next core (position j p.runner.left.callers) ≡ Some (step_at core i op operation p.runner.left.callers)) (sym en.index)
              (next_here core i op operation p.runner.left.callers stands);
          word_is = word ∙ ap (λ b. b + word_of operation) (sym member.words);
          meets = subst (λ k. MeetsAt image places nestings setting runs i k (plan.size w) t (Coming comes.0) m p) (sym word) at;
        },
      ),
    )

pub starters_set_out : StartersSetOut
starters_set_out core image places nestings cycles firsts main setting plan first t i w op m p law stands en member root owns word is_open is_member size =
    let Left : Hart → Type 0 = λ h. Polls (nestings.start.there i) (nestings.start.coming i m.hart) h in
    let comes = (law.starts i op stands).meets setting t (plan.words 0) m p owns en member root in
    let at = comes.2 in (
      comes.0,
      comes.1,
      at.stands.0,
      (
        tt,
        is_open,
        is_member,
        record {
          i = i;
          op = op;
          cycle = t;
          first = m.hart;
          stands = stands;
          enters = en;
          member = member;
          root = root;
          meets = subst (λ k. MeetsUntil image k (plan.size w) 0 Left t (Coming comes.0) m) (sym word)
              (subst (λ n. MeetsUntil image (root_words + closing_word) n 0 Left t (Coming comes.0) m) (sym size) at);
        },
      ),
    )

-- ---- in lockstep

module _ (core : List CoreOp) (image : Image) (places : Places) (nestings : Nestings) (setting : Setting) (plan : Plan) (first : ℕ → ℕ) where
  all_alike : (d : ℕ) (ms : List Member) (ps : List Owner) → length ms ≡ length ps
      → AllAct (core_source core setting) image plan (blocks_of core image places nestings setting plan first) d 0 (all_act d ms) ms ps
  all_alike d [] [] e = tt
  all_alike d (m ∷ ms) (p ∷ ps) e = (refl, all_alike d ms ps (omega (arith, e)))
  all_alike d [] (p ∷ ps) e = absurd (omega (arith, e))
  all_alike d (m ∷ ms) [] e = absurd (omega (arith, e))

  as_many : (i : ℕ) (op : CoreOp) (operation : Operation) (t : MachineSetting) (g : ℕ) (ms : List Member) (ps : List Owner)
      → AllEnter core image places nestings i op operation setting t None (first g) ms ps → length ms ≡ length ps
  as_many i op operation t g [] [] all = refl
  as_many i op operation t g (m ∷ ms) (p ∷ ps) all = ap suc (as_many i op operation t g ms ps all.2)
  as_many i op operation t g ms ps all = absurd (assumption all)

  have_gone : (ps : List Owner) (ms : List Member) (ds : List Doing) → AllReach (λ number p h d. HasDoneInNode core image places nestings setting None d h) ps ms ds
      → AllHaveGone core image places nestings setting ms ds
  have_gone [] [] [] all = tt
  have_gone (p ∷ ps) (m ∷ ms) (d ∷ ds) all = (record { done = all.0 }, have_gone ps ms ds all.1)
  have_gone ps ms ds all = absurd (assumption all)

  -- what holds of a group behind its commit
  abbrev pub Behind : MachineSetting → (g : ℕ) → List Member → List Doing → Memory → Type 0
  Behind t g ms ds own = (behind : ℕ) × (behind ≤ most_behind) × HaveActed core image places nestings setting (plan.words g) (first g) t behind ds ms own

  in_lockstep : (t : MachineSetting) (g d : ℕ) (ms : List Member) (ps : List Owner) (own : Memory) → length ms ≡ length ps
      → Together (core_source core setting) image (plan.words g) t 1 d ms ps own (Behind (later (in_cycles d t)) g)
      → InLockstep (core_source core setting) image plan (blocks_of core image places nestings setting plan first) t g (all_act d ms) ms ps own
  in_lockstep t g d ms ps own many x = record { distance = d; inner = 0; alike = all_alike d ms ps many; together = x }

  still_at_rest : (g : ℕ) (own own' : Memory) → ((j : ℕ) → (j ≡ first g + agreed_word → ⊥) → own' j ≡ own j) → IsAtRest (first g) own → IsAtRest (first g) own'
  still_at_rest g own own' others rest = record {
    barrier = others _ (λ e. omega (arith, e)) ∙ rest.barrier;
    closing = others _ (λ e. omega (arith, e)) ∙ rest.closing;
  }

  -- ---- to the common commit

  module _ (cycles : Cycles) (firsts : List ℕ) (main : ℕ) (t : MachineSetting) (g i : ℕ) (op : CoreOp) (law : GroupLaw core image places nestings cycles firsts main) where
    pub act_together : (operation : Operation) (onward : Bool) (ms : List Member) (ps : List Owner) (own : Memory) → OpAt core i op operation → is_alone operation ≡ true
        → OwnsHeader (plan.words g) (first g) → AllEnter core image places nestings i op operation setting t None (first g) ms ps → AllGo nestings operation onward ps → IsAtRest (first g) own
        → Together (core_source core setting) image (plan.words g) t 1 (cycles.before i) ms ps own (Behind (later (in_cycles (cycles.before i) t)) g)
    act_together operation onward ms ps own stands alone owns all go rest =
        let b = cycles.before i in
        let a = cycles.behind i onward in
        let mine = plan.words g in
        let u = later (in_cycles b t) in
        together_map (core_source core setting) image mine t 1 b ms ps own
        (λ ms' ds own'.
        NodeRun image mine u a ms' own' (λ ms'' own''. (own'' ≡ own) × AllReach (λ number p h d. HasDoneInNode core image places nestings setting None d h) ps ms'' ds))
        (Behind u g)
        (λ ms' ds own' x. (
          a,
          law.few_behind i onward,
          inl
              (run_map image mine u a ms' own' (λ ms'' own''. (own'' ≡ own) × AllReach (λ number p h d. HasDoneInNode core image places nestings setting None d h) ps ms'' ds)
              (λ ms'' own''. IsGroupBehind core image places nestings setting (first g) ds ms'' own'')
              (λ ms'' own'' y. (subst (λ o. IsAtRest (first g) o) (sym y.0) rest, inl (have_gone ps ms'' ds y.1)))
              x),
        ))
        (members_do_together core image places nestings cycles firsts main i op operation onward setting t mine None (first g) ms ps own law stands alone owns all go)

    -- they are in lockstep still
    stay_together : (operation : Operation) (ms : List Member) (ps : List Owner) (own : Memory) → OpAt core i op operation → stays_in_step operation ≡ true
        → OwnsHeader (plan.words g) (first g) → AllEnter core image places nestings i op operation setting t None (first g) ms ps → IsAskedOf operation 0 0 ps → IsAtRest (first g) own
        → Together (core_source core setting) image (plan.words g) t 1 (cycles.before i) ms ps own (Behind (later (in_cycles (cycles.before i) t)) g)
    stay_together operation ms ps own stands stays owns all asked rest =
        let b = cycles.before i in
        let a = cycles.behind i true in
        let mine = plan.words g in
        let u = later (in_cycles b t) in
        let Stepped : List Member → Memory → Type 0
        = λ ms'' own''. HaveStepped core image places nestings i op operation setting (λ p. None) (first g) 0 0 ps own ms'' own'' in
        together_map (core_source core setting) image mine t 1 b ms ps own (λ ms' ds own'. (ds ≡ map (is_due core i op operation) ps) × NodeRun image mine u a ms' own' Stepped)
        (Behind u g)
        (λ ms' ds own' x. (
          a,
          law.few_behind i true,
          inl
              (run_map image mine u a ms' own' Stepped (λ ms'' own''. IsGroupBehind core image places nestings setting (first g) ds ms'' own'')
              (λ ms'' own'' y. (
                still_at_rest g own own'' y.others rest,
                inr (record { i = i; op = op; operation = operation; ps = ps; stands = stands; stays = stays; due = x.0; members = y.members }),
              ))
              x.1),
        ))
        (law.steps i op operation 0 0 stands stays setting t mine (first g) ms ps own owns all asked)

    -- a member stands in its own node
    own_node : (bodies : Option ℕ) (begin : ℕ) (m : Member) (q : Owner) → IsMember places nestings setting bodies begin m q
        → IsMember places nestings setting bodies (first_word q.runner.has.level q.runner.has.outer) m q
    own_node bodies begin m q member = record { number = member.number; at = member.at; node = member.node; words = refl }

    other_bodies : (bodies bodies' : Option ℕ) (begin : ℕ) (m : Member) (q : Owner) → bodies ≡ bodies' → IsMember places nestings setting bodies begin m q
        → IsMember places nestings setting bodies' begin m q
    other_bodies bodies bodies' begin m q e member = subst (λ b. IsMember places nestings setting b begin m q) e member

    -- all take as long
    free_moves : (u : MachineSetting) (a begin value lowest size : ℕ) (all : List Owner) (ms : List Member) (ps : List Owner) → AreOfSize size ps
        → AllComeAlone places nestings setting image u a (λ p. Some size) begin ms (map (stepped core i op Farm value lowest size) ps)
        → AllComeByWay core image places nestings i op Farm setting u (λ onward. a) (λ p. bodies_behind setting Farm lowest p) value lowest (λ p. size_behind Farm all p) ms ps
    free_moves u a begin value lowest size all [] [] sized come = tt
    free_moves u a begin value lowest size all (m ∷ ms) (p ∷ ps) sized come = (
      record {
        hart = come.0.hart;
        runs = come.0.private;
        member =
            let q = stepped core i op Farm value lowest 0 p in
            let here : Member = record m { hart = come.0.hart } in
            other_bodies (Some size) (Some p.runner.has.level.size) (first_word q.runner.has.level q.runner.has.outer) here q (ap (λ n. Some n) (sym sized.0))
            (own_node (Some size) begin here q come.0.member);
      },
      free_moves u a begin value lowest size all ms ps sized.1 come.1,
    )
    free_moves u a begin value lowest size all ms ps sized come = absurd (assumption (come, sized))

    sent_moves : (u : MachineSetting) (a begin value lowest size : ℕ) (all : List Owner) (ms : List Member) (ps : List Owner)
        → AllComeAlone places nestings setting image u a (one_runs lowest) begin ms (map (stepped core i op Seq value lowest size) ps)
        → AllComeByWay core image places nestings i op Seq setting u (λ onward. a) (λ p. bodies_behind setting Seq lowest p) value lowest (λ p. size_behind Seq all p) ms ps
    sent_moves u a begin value lowest size all [] [] come = tt
    sent_moves u a begin value lowest size all (m ∷ ms) (p ∷ ps) come = (
      record {
        hart = come.0.hart;
        runs = come.0.private;
        member = own_node (one_runs lowest p) begin (record m { hart = come.0.hart }) (stepped core i op Seq value lowest 0 p) come.0.member;
      },
      sent_moves u a begin value lowest size all ms ps come.1,
    )
    sent_moves u a begin value lowest size all ms ps come = absurd (assumption come)

    parted : (operation : Operation) (u : MachineSetting) (a lowest size : ℕ) (few : a ≤ most_behind) (ms : List Member) (ps : List Owner) (ds : List Doing) (own : Memory)
        → OpAt core i op operation → sets_apart operation ≡ true → IsAskedOf operation lowest size ps → ds ≡ map (is_due core i op operation) ps → IsAtRest (first g) own
        → AllComeAlone places nestings setting image u a (runs_behind operation lowest size) (first g) ms (map (stepped core i op operation (highest_value ps) lowest size) ps)
        → HaveMoved core image places nestings setting (first g) u ds ms own
    parted Farm u a lowest size few ms ps ds own stands parts asked due rest come = record {
      i = i;
      op = op;
      operation = Farm;
      lowest = lowest;
      ps = ps;
      behind = λ onward. a;
      few = λ onward. few;
      stands = stands;
      moves = refl;
      asked = tt;
      due = due;
      rest = rest;
      parts = tt;
      move = free_moves u a (first g) (highest_value ps) lowest size ps ms ps asked.1 come;
    }
    parted Seq u a lowest size few ms ps ds own stands parts asked due rest come = record {
      i = i;
      op = op;
      operation = Seq;
      lowest = lowest;
      ps = ps;
      behind = λ onward. a;
      few = λ onward. few;
      stands = stands;
      moves = refl;
      asked = asked.1;
      due = due;
      rest = rest;
      parts = tt;
      move = sent_moves u a (first g) (highest_value ps) lowest size ps ms ps come;
    }
    parted operation u a lowest size few ms ps ds own stands parts asked due rest come = absurd (cc)

    part_together : (operation : Operation) (lowest size : ℕ) (ms : List Member) (ps : List Owner) (own : Memory) → OpAt core i op operation → sets_apart operation ≡ true
        → OwnsHeader (plan.words g) (first g) → AllEnter core image places nestings i op operation setting t None (first g) ms ps
        → IsAskedOf operation lowest size ps → IsAtRest (first g) own
        → Together (core_source core setting) image (plan.words g) t 1 (cycles.before i) ms ps own (Behind (later (in_cycles (cycles.before i) t)) g)
    part_together operation lowest size ms ps own stands parts owns all asked rest =
        let b = cycles.before i in
        let a = cycles.behind i true in
        let mine = plan.words g in
        let u = later (in_cycles b t) in
        together_map (core_source core setting) image mine t 1 b ms ps own
        (λ ms' ds own'.
        (ds ≡ map (is_due core i op operation) ps)
        × HaveParted core image places nestings i op operation setting u a (runs_behind operation lowest size) (first g) lowest size ps own ms' own')
        (Behind u g)
        (λ ms' ds own' x.
        let apart = x.1 in (
          a,
          law.few_behind i true,
          inr (inl (parted operation u a lowest size (law.few_behind i true) ms' ps ds own' stands parts asked x.0 (still_at_rest g own own' apart.others rest) apart.come)),
        ))
        (law.parts i op operation lowest size stands parts setting t mine (first g) ms ps own owns all asked)

    pub step_together : (operation : Operation) (lowest size : ℕ) (ms : List Member) (ps : List Owner) (own : Memory) → OpAt core i op operation → is_shared_step operation ≡ true
        → OwnsHeader (plan.words g) (first g) → AllEnter core image places nestings i op operation setting t None (first g) ms ps
        → IsAskedOf operation lowest size ps → IsAtRest (first g) own
        → Together (core_source core setting) image (plan.words g) t 1 (cycles.before i) ms ps own (Behind (later (in_cycles (cycles.before i) t)) g)
    step_together Agree lowest size ms ps own stands shared owns all asked rest = stay_together Agree ms ps own stands refl owns all asked rest
    step_together (Frame number words) lowest size ms ps own stands shared owns all asked rest = stay_together (Frame number words) ms ps own stands refl owns all asked rest
    step_together Block lowest size ms ps own stands shared owns all asked rest = stay_together Block ms ps own stands refl owns all asked rest
    step_together Farm lowest size ms ps own stands shared owns all asked rest = part_together Farm lowest size ms ps own stands refl owns all asked rest
    step_together Seq lowest size ms ps own stands shared owns all asked rest = part_together Seq lowest size ms ps own stands refl owns all asked rest
    step_together operation lowest size ms ps own stands shared owns all asked rest = absurd (cc)

    -- ---- parts that begin, shrink or end

    root_moves : (u : MachineSetting) (a value : ℕ) (all : List Owner) (ms : List Member) (ps : List Owner) → AreInStart nestings ps
        → AllComeAlone places nestings setting image u a (λ p. Some setting.processors) root_words ms (map (stepped core i op End value 0 0) ps)
        → AllComeByWay core image places nestings i op End setting u (λ onward. a) (λ p. bodies_behind setting End 0 p) value 0 (λ p. size_behind End all p) ms ps
    root_moves u a value all [] [] start come = tt
    root_moves u a value all (m ∷ ms) (p ∷ ps) start come = (
      record {
        hart = come.0.hart;
        runs = come.0.private;
        member =
            let q = stepped core i op End value 0 0 p in
            let here : Member = record m { hart = come.0.hart } in
            other_bodies (Some setting.processors) (bodies_around setting p.runner.has.outer) (first_word q.runner.has.level q.runner.has.outer) here q (sym (ap (bodies_around setting) start.0.outer))
            (own_node (Some setting.processors) root_words here q come.0.member);
      },
      root_moves u a value all ms ps start.1 come.1,
    )
    root_moves u a value all ms ps start come = absurd (assumption (come, start))

    group_moves : (u : MachineSetting) (behind : Bool → ℕ) (value : ℕ) (all : List Owner) (ms : List Member) (ps : List Owner) → AreInPart nestings ps
        → AllComeByWay core image places nestings i op End setting u behind (λ p. None) value 0 (λ p. size_behind End all p) ms ps
        → AllComeByWay core image places nestings i op End setting u behind (λ p. bodies_behind setting End 0 p) value 0 (λ p. size_behind End all p) ms ps
    group_moves u behind value all [] [] part come = tt
    group_moves u behind value all (m ∷ ms) (p ∷ ps) part come = (
      record {
        hart = come.0.hart;
        runs = come.0.runs;
        member =
            let q = stepped core i op End value 0 0 p in
            other_bodies None (bodies_around setting p.runner.has.outer) (first_word q.runner.has.level q.runner.has.outer) (record m { hart = come.0.hart }) q (sym (ap (bodies_around setting) part.0.outer))
            come.0.member;
      },
      group_moves u behind value all ms ps part.1 come.1,
    )
    group_moves u behind value all ms ps part come = absurd (assumption (come, part))

    has_moved : (operation : Operation) (u : MachineSetting) (behind : Bool → ℕ) (few : (onward : Bool) → behind onward ≤ most_behind) (ms : List Member) (ps : List Owner) (ds : List Doing) (own : Memory)
        → OpAt core i op operation → moves_apart operation ≡ true → IsAskedToMove nestings operation 0 ps → ds ≡ map (is_due core i op operation) ps → IsAtRest (first g) own
        → PartsRest operation own (map (moved core i op operation 0 ps) ps)
        → AllMove core image places nestings i op operation setting u behind (λ p. bodies_behind setting operation 0 p) 0 ms ps
        → HaveMoved core image places nestings setting (first g) u ds ms own
    has_moved operation u behind few ms ps ds own stands moves asked due rest parts move = record {
      i = i;
      op = op;
      operation = operation;
      lowest = 0;
      ps = ps;
      behind = behind;
      few = few;
      stands = stands;
      moves = moves;
      asked = asked;
      due = due;
      rest = rest;
      parts = parts;
      move = move;
    }

    pub end_together : (ms : List Member) (ps : List Owner) (own : Memory) → OpAt core i op End → OwnsHeader (plan.words g) (first g) → AllEnter core image places nestings i op End setting t None (first g) ms ps
        → IsAskedToMove nestings End 0 ps → IsAtRest (first g) own
        → Together (core_source core setting) image (plan.words g) t 1 0 ms ps own (Behind (later t) g)
    end_together ms ps own stands owns all (inl start) rest =
        let a = cycles.behind i true in
        let mine = plan.words g in
        let u = later t in
        let InRoot : List Member → Type 0
        = λ ms'.
        AllComeAlone places nestings setting image u a (λ p. Some setting.processors) root_words ms' (map (stepped core i op End (highest_value ps) 0 0) ps) in
        together_map (core_source core setting) image mine t 1 0 ms ps own (λ ms' ds own'. (ds ≡ map (is_due core i op End) ps) × (InRoot ms' × (own' ≡ own)))
        (Behind u g)
        (λ ms' ds own' x. (
          a,
          law.few_behind i true,
          inr
              (inl
              (has_moved End u (λ onward. a) (λ onward. law.few_behind i true) ms' ps ds own' stands refl (inl start) x.0 (subst (λ o. IsAtRest (first g) o) (sym x.1.1) rest) tt
              (root_moves u a (highest_value ps) ps ms' ps start x.1.0))),
        ))
        (law.ends i op 0 0 stands setting t mine (first g) ms ps own owns all start)
    end_together ms ps own stands owns all (inr part) rest =
        let mine = plan.words g in
        let u = later t in
        together_map (core_source core setting) image mine t 1 0 ms ps own
        (λ ms' ds own'.
        (ds ≡ map (is_due core i op End) ps) × AllMove core image places nestings i op End setting u (cycles.behind i) (λ p. None) 0 ms' ps × (own' ≡ own))
        (Behind u g)
        (λ ms' ds own' x. (
          0,
          omega arith,
          inr
              (inl
              (has_moved End u (cycles.behind i) (law.few_behind i) ms' ps ds own' stands refl (inr part) x.0 (subst (λ o. IsAtRest (first g) o) (sym x.2) rest) tt
              (group_moves u (cycles.behind i) (highest_value ps) ps ms' ps part x.1))),
        ))
        (law.ends_part i op stands setting t mine (first g) ms ps own owns all part)

    pub shrink_together : (ms : List Member) (ps : List Owner) (own : Memory) → OpAt core i op Shrink → OwnsHeader (plan.words g) (first g)
        → AllEnter core image places nestings i op Shrink setting t None (first g) ms ps → AreInPart nestings ps → length ps ≤ 1024 → IsAtRest (first g) own
        → Together (core_source core setting) image (plan.words g) t 1 (cycles.before i) ms ps own (Behind (later (in_cycles (cycles.before i) t)) g)
    shrink_together ms ps own stands owns all part few rest =
        let b = cycles.before i in
        let mine = plan.words g in
        let u = later (in_cycles b t) in
        together_map (core_source core setting) image mine t 1 b ms ps own
        (λ ms' ds own'.
        (ds ≡ map (is_due core i op Shrink) ps) × AllMove core image places nestings i op Shrink setting u (cycles.behind i) (λ p. None) 0 ms' ps × IsAtRest (first g) own')
        (Behind u g)
        (λ ms' ds own' x. (0, omega arith, inr (inl (has_moved Shrink u (cycles.behind i) (law.few_behind i) ms' ps ds own' stands refl part x.0 x.2 tt x.1))))
        (law.shrinks i op stands setting t mine (first g) ms ps own owns all part few rest)

    -- with room for the parts
    divide_in : (by : SplitKind) (space : Space) (count : ℕ) (ms : List Member) (ps : List Owner) (own : Memory) → OpAt core i op (Split by)
        → OwnsHeader (plan.words g) (first g) → OwnsSpace (plan.words g) space → AllEnter core image places nestings i op (Split by) setting t None (first g) ms ps
        → AreToDivide nestings by space count ps → has_parts space count ≡ true → IsAtRest (first g) own
        → Together (core_source core setting) image (plan.words g) t 1 (cycles.before i) ms ps own (Behind (later (in_cycles (cycles.before i) t)) g)
    divide_in by space count ms ps own stands owns owns_space all divides room rest =
        let b = cycles.before i in
        let mine = plan.words g in
        let u = later (in_cycles b t) in
        together_map (core_source core setting) image mine t 1 b ms ps own
        (λ ms' ds own'.
        (ds ≡ map (is_due core i op (Split by)) ps) × AllMove core image places nestings i op (Split by) setting u (cycles.behind i) (λ p. None) 0 ms' ps
        × IsAtRest (first g) own' × AllRest own' (map (moved core i op (Split by) 0 ps) ps))
        (Behind u g)
        (λ ms' ds own' x. (0, omega arith, inr (inl (has_moved (Split by) u (cycles.behind i) (law.few_behind i) ms' ps ds own' stands refl tt x.0 x.2 x.3 x.1))))
        (law.divides i op by stands setting t mine (first g) space count ms ps own owns owns_space all divides room rest)

    -- the number of cycles to the commit of a split
    abbrev pub to_split : (by : SplitKind) → OpAt core i op (Split by) → (room : Bool) → ℕ
    to_split by stands true = cycles.before i
    to_split by stands false = (law.lacks i op by stands).before

    pub few_to_split : (by : SplitKind) (stands : OpAt core i op (Split by)) (room : Bool) → to_split by stands room ≤ most_before
    few_to_split by stands true = law.few_before i
    few_to_split by stands false = (law.lacks i op by stands).few

    pub divide_together : (by : SplitKind) (space : Space) (count : ℕ) (ms : List Member) (ps : List Owner) (own : Memory) (stands : OpAt core i op (Split by))
        → OwnsHeader (plan.words g) (first g) → OwnsSpace (plan.words g) space → AllEnter core image places nestings i op (Split by) setting t None (first g) ms ps
        → AreToDivide nestings by space count ps → (room : Bool) → has_parts space count ≡ room → IsAtRest (first g) own
        → Together (core_source core setting) image (plan.words g) t 1 (to_split by stands room) ms ps own (Behind (later (in_cycles (to_split by stands room) t)) g)
    divide_together by space count ms ps own stands owns owns_space all divides true room rest =
        divide_in by space count ms ps own stands owns owns_space all divides room rest
    divide_together by space count ms ps own stands owns owns_space all divides false room rest =
        let lack = law.lacks i op by stands in
        together_map (core_source core setting) image (plan.words g) t 1 lack.before ms ps own (λ ms' ds own'. ⊥) (Behind (later (in_cycles lack.before t)) g) (λ ms' ds own' never. absurd never)
        (lack.faults setting t (plan.words g) (first g) space count ms ps own owns all divides room)

-- all have met in the root
module _ (core : List CoreOp) (image : Image) (places : Places) (nestings : Nestings) (setting : Setting) (plan : Plan) (first : ℕ → ℕ) where
  have_met : (i : ℕ) (op : CoreOp) (there : Polling) (coming : Hart → Hart) (ms : List Member) (ps : List Owner) → AllHaveMet core image places nestings i op there coming setting ms ps → length ms ≡ length ps
  have_met i op there coming [] [] all = refl
  have_met i op there coming (m ∷ ms) (p ∷ ps) all = ap suc (have_met i op there coming ms ps all.1)
  have_met i op there coming ms ps all = absurd (assumption all)

  root_at_rest : (own own' : Memory) → ((j : ℕ) → (j ≡ root_words + agreed_word → ⊥) → own' j ≡ own j) → IsAtRest root_words own → IsAtRest root_words own'
  root_at_rest own own' others rest = record {
    barrier = others _ (λ e. omega (arith, e)) ∙ rest.barrier;
    closing = others _ (λ e. omega (arith, e)) ∙ rest.closing;
  }

  pub start_together : (cycles : Cycles) (firsts : List ℕ) (main : ℕ) (t : MachineSetting) (i : ℕ) (op : CoreOp) (law : GroupLaw core image places nestings cycles firsts main) (ms : List Member) (ps : List Owner) (own : Memory)
      → OpAt core i op Begin → OwnsHeader (plan.words 0) root_words → IsRunning image setting t
      → AllHaveMet core image places nestings i op (nestings.start.there i) (nestings.start.coming i) setting ms ps → IsAtRest root_words own
      → InLockstep (core_source core setting) image plan (blocks_of core image places nestings setting plan first) t 0 (all_act (cycles.before i) ms) ms ps own
  start_together cycles firsts main t i op law ms ps own stands owns running met rest =
      let start = law.starts i op stands in
      let b = cycles.before i in
      let u = later (in_cycles b t) in
      in_lockstep core image places nestings setting plan first t 0 b ms ps own (have_met i op (nestings.start.there i) (nestings.start.coming i) ms ps met)
      (together_map (core_source core setting) image (plan.words 0) t 1 b ms ps own
      (λ ms' ds own'. (ds ≡ map (is_due core i op Begin) ps) × HaveStarted core image places nestings i op setting u (cycles.behind i) 0 ps own ms' own')
      (Behind core image places nestings setting plan first u 0)
      (λ ms' ds own' x. (
        0,
        omega arith,
        inr (inr (record {
          i = i;
          op = op;
          ps = ps;
          behind = cycles.behind i;
          few = law.few_behind i;
          stands = stands;
          due = x.0;
          rest = root_at_rest own own' (λ j ne. x.1.others j ne) rest;
          parts = x.1.parts;
        })),
      ))
      (start.starts setting t (plan.words 0) 0 ms ps own owns running met))

pub groups_act_together : GroupsActTogether
groups_act_together core image places nestings cycles firsts main setting plan first t g i op operation onward ms ps own law stands alone owns all go rest =
    in_lockstep core image places nestings setting plan first t g (cycles.before i) ms ps own (as_many core image places nestings setting plan first i op operation t g ms ps all)
    (act_together core image places nestings setting plan first cycles firsts main t g i op law operation onward ms ps own stands alone owns all go rest)

pub groups_step_together : GroupsStepTogether
groups_step_together core image places nestings cycles firsts main setting plan first t g i op operation lowest size ms ps own law stands shared owns all asked rest =
    in_lockstep core image places nestings setting plan first t g (cycles.before i) ms ps own (as_many core image places nestings setting plan first i op operation t g ms ps all)
    (step_together core image places nestings setting plan first cycles firsts main t g i op law operation lowest size ms ps own stands shared owns all asked rest)

pub groups_end_together : GroupsEndTogether
groups_end_together core image places nestings cycles firsts main setting plan first t g i op ms ps own law stands owns all start rest =
    in_lockstep core image places nestings setting plan first t g 0 ms ps own (as_many core image places nestings setting plan first i op End t g ms ps all)
    (end_together core image places nestings setting plan first cycles firsts main t g i op law ms ps own stands owns all start rest)

pub groups_start_together : GroupsStartTogether
groups_start_together core image places nestings cycles firsts main setting plan first t i op ms ps own law stands owns running met rest =
    start_together core image places nestings setting plan first cycles firsts main t i op law ms ps own stands owns running met rest

pub groups_divide_together : GroupsDivideTogether
groups_divide_together core image places nestings cycles firsts main setting plan first t g i op by space count ms ps own law stands owns owns_space all divides rest =
    let room = has_parts space count in
    let d = to_split core image places nestings setting plan first cycles firsts main t g i op law by stands room in (
      d,
      few_to_split core image places nestings setting plan first cycles firsts main t g i op law by stands room,
      in_lockstep core image places nestings setting plan first t g d ms ps own (as_many core image places nestings setting plan first i op (Split by) t g ms ps all)
          (divide_together core image places nestings setting plan first cycles firsts main t g i op law by space count ms ps own stands owns owns_space all divides room refl rest),
    )

pub groups_shrink_together : GroupsShrinkTogether
groups_shrink_together core image places nestings cycles firsts main setting plan first t g i op ms ps own law stands owns all part few rest =
    in_lockstep core image places nestings setting plan first t g (cycles.before i) ms ps own (as_many core image places nestings setting plan first i op Shrink t g ms ps all)
    (shrink_together core image places nestings setting plan first cycles firsts main t g i op law ms ps own stands owns all part few rest)
