-- Who meets has the turns of its phases.
use Rattle.std.proofs.Common.{◌≡◌, ℕ, zero, suc, List, true, Some, ap, ◌∙◌, refl, inr}
use Rattle.std.proofs.lemmas.Bool.{ne_eqb}
use Rattle.fk_num.specs.Word.{Memory}
use Rattle.fk_meaning_operation.specs.declared.operation.Operation.{Operation}
use Rattle.fk_meaning_operation.specs.declared.operation.Operation.TheVariants.{Resume, Meet}
use Rattle.fk_meaning.specs.Processor.{Setting}
use Rattle.fk_meaning.specs.Round.{taking}
use Rattle.fk_core.specs.declared.op.CoreOp.{CoreOp}
use Rattle.fk_image.specs.declared.Image.{Image}
use Rattle.fk_machine.specs.Hart.{Hart, Setting as MachineSetting}
use Rattle.fk_sim_nodes.specs.Node.{Member}
use Rattle.fk_sim_nodes.specs.Source.{Passes}
use Rattle.fk_sim_nodes.specs.Alone.{Stays, later}
use Rattle.fk_sim_nodes.specs.Phase.{Phase, Outside, Away, Coming, Waiting, Leaving}
use Rattle.fk_sim_match.specs.Stage.{Ending, Commits, Unites, Meets, count_of_stage}
use Rattle.fk_sim_match.specs.Plan.{Plan, IsInside, IsOpen, IsIdle, Follows, Turn}
use Rattle.fk_sim_match.proofs.Cycles.{cycle_is_planned}
use Rattle.fk_sim_match.proofs.Words.{plan_leaves}
use Rattle.fk_sim_heap.specs.Count.{asked_word}
use Rattle.fk_sim_block.specs.Owner.{Commons, Owner, Doing, idle, phases, part, core_source}
use Rattle.fk_sim_block.specs.Stands.{Places}
use Rattle.fk_sim_block.specs.Next.{step_at}
use Rattle.fk_sim_block.specs.Node.{Nestings, Polling}
use Rattle.fk_sim_block.specs.Lockstep.{is_due}
use Rattle.fk_sim_block.specs.Joint.{is_meeting, Polls, IsInPhaseBy, StandsBehind}
use Rattle.fk_sim_match.specs.Nodes.{first_of, plan_of}
use Rattle.fk_sim_match.specs.Behind.{StandsInMeeting, StandsInStart, runs_of, joining_blocks_of}
use Rattle.fk_sim_match.specs.Laws.{MeetersTurn, CyclesAreRounds, UnownedWordsStay}
use Rattle.fk_sim_match.proofs.Nodes.{own_apart}
use Rattle.fk_sim_match.proofs.Turned.{Turned, turned}
use Rattle.fk_sim_match.proofs.Joining.{joins_bound}

-- ---- what processors take

pub is_idle : (core : List CoreOp) (setting : Setting) → IsIdle (core_source core setting) idle
is_idle core setting s p = refl

-- who meets takes its operation, which the tree does
takes_step : (core : List CoreOp) (setting : Setting) (i : ℕ) (op : CoreOp) (operation : Operation) (s : Commons) (p : Owner) → is_meeting operation ≡ true
    → phases core setting s p (taking p.runner (Some (step_at core i op operation p.runner.left.callers))) ≡ Passes s (is_due core i op operation p)
takes_step core setting i op Resume s p is = refl
takes_step core setting i op (Meet closing) s p is = refl
takes_step core setting i op operation s p is = absurd (cc)

module _ (core : List CoreOp) (image : Image) (places : Places) (nestings : Nestings) (setting : Setting) (plan : Plan) (first : ℕ → ℕ) where
  abbrev HasTurn : MachineSetting → Ending → (g w : ℕ) → Phase → Member → Owner → Memory → Type 0
  HasTurn t e g w f m p own = Turn (core_source core setting) image plan (joining_blocks_of core image places nestings setting plan first) t g e w f m p own

  -- ---- who commits by leaving

  abbrev Standing : (g w : ℕ) → MachineSetting → Phase → Member → Owner → Type 0
  Standing g w t f m p = StandsInMeeting core image places nestings setting (runs_of plan (first g) m.number) w (plan.size w) t f m p

  abbrev Behind : (g i : ℕ) → Member → Owner → Hart → Type 0
  Behind g i m p h = StandsBehind image places nestings setting (runs_of plan (first g) m.number) i p h

  takes : (g w : ℕ) (t : MachineSetting) (f : Phase) (m : Member) (p : Owner) (s : Commons) → (x : Standing g w t f m p) → part core setting 1 s p ≡ Passes s (is_due core x.i x.op x.operation p)
  takes g w t f m p s x =
      ap (λ n. phases core setting s p (taking p.runner n)) x.next_is ∙ takes_step core setting x.i x.op x.operation s p x.meeting

  module _ (t : MachineSetting) (g w : ℕ) (m : Member) (p : Owner) (own : Memory) (is_open : IsOpen plan g w) where
    -- a turn in a phase, with what its processor does and what follows
    with_turn : (e : Ending) (f : Phase) (done : Doing) {count : ℕ} {polling : Polling} {came : Hart} {Left : Hart → Type 0}
        → (turn : Turned image w m.number (plan.size w) count polling came Left (plan.words g) t f m.hart own)
        → Stays image (plan.words g) t (count_of_stage (Meets e w f)) m own turn.hart turn.words
        → ((s : Commons) → part core setting (count_of_stage (Meets e w f)) s p ≡ Passes s done)
        → Follows (core_source core setting) image plan (joining_blocks_of core image places nestings setting plan first) (later t) g e w f turn.phase (record m { hart = turn.hart }) p done
        → HasTurn t e g w f m p own
    with_turn e f done turn stays takes' follows = record {
      hart = turn.hart;
      words = turn.words;
      phase = turn.phase;
      done = done;
      stays = stays;
      arrivals = turn.arrivals;
      others = turn.others;
      moves = turn.moves;
      takes = takes';
      follows = follows;
    }

    -- with another hart, in the next cycle
    goes_on : (f f' : Phase) (h : Hart) → (x : Standing g w t f m p)
        → IsInPhaseBy image w m.number x.meets.polling x.meets.first (plan.size w) (Behind g x.i m p) 1 (later t) f' h → Standing g w (later t) f' (record m { hart = h }) p
    goes_on f f' h x stands = record {
      i = x.i;
      op = x.op;
      operation = x.operation;
      stands = x.stands;
      meeting = x.meeting;
      next_is = x.next_is;
      word_is = x.word_is;
      meets = record { polling = x.meets.polling; first = x.meets.first; code = x.meets.code; polls = x.meets.polls; stands = stands };
    }

    abbrev Took : (f : Phase) → Standing g w t f m p → Type 0
    Took f x = Turned image w m.number (plan.size w) 1 x.meets.polling x.meets.first (Behind g x.i m p) (plan.words g) t f m.hart own

    took : (f : Phase) → IsInside f → (x : Standing g w t f m p) → Took f x
    took f inside x =
        turned image w m.number (plan.size w) 1 x.meets.polling x.meets.first (Behind g x.i m p) (plan.words g) t m.hart own x.meets.code is_open.0 x.meets.polls f inside x.meets.stands

    commits_by : (f : Phase) → IsInside f → (x : Standing g w t f m p) → Took f x → HasTurn t Commits g w f m p own
    commits_by Outside inside x turn = absurd (assumption inside)
    commits_by Away inside x turn = absurd (assumption inside)
    commits_by (Coming d) inside x turn = with_turn Commits (Coming d) (idle p) turn turn.stays (λ s. refl) (refl, goes_on (Coming d) turn.phase turn.hart x turn.follows)
    commits_by Waiting inside x turn = with_turn Commits Waiting (idle p) turn turn.stays (λ s. refl) (refl, goes_on Waiting turn.phase turn.hart x turn.follows)
    commits_by (Leaving (suc d)) inside x turn = with_turn Commits (Leaving (suc d)) (idle p) turn turn.stays (λ s. refl) (refl, goes_on (Leaving (suc d)) turn.phase turn.hart x turn.follows)
    commits_by (Leaving zero) inside x turn =
        with_turn Commits (Leaving zero) (is_due core x.i x.op x.operation p) turn turn.stays (λ s. takes g w t (Leaving 0) m p s x) (
          turn.follows.0,
          (
            0,
            turn.hart,
            refl,
            inr (
              refl,
              inr (record {
                i = x.i;
                op = x.op;
                operation = x.operation;
                stands = x.stands;
                meeting = x.meeting;
                due = refl;
                left = turn.follows.1;
              }),
            ),
          ),
        )

    -- ---- who unites with all others

    abbrev InStart : MachineSetting → Phase → Member → Type 0
    InStart u f n = StandsInStart core image places nestings setting w (plan.size w) u f n p

    abbrev Gathers : (i : ℕ) → Hart → Hart → Type 0
    Gathers i came h = Polls (nestings.start.there i) (nestings.start.coming i came) h

    waits_on : (f f' : Phase) (h : Hart) → (x : InStart t f m)
        → IsInPhaseBy image w m.number x.meets.polling x.meets.first (plan.size w) (Gathers x.i x.first) 0 (later t) f' h → InStart (later t) f' (record m { hart = h })
    waits_on f f' h x stands = record {
      i = x.i;
      op = x.op;
      cycle = x.cycle;
      first = x.first;
      stands = x.stands;
      enters = x.enters;
      member = x.member;
      root = x.root;
      meets = record { polling = x.meets.polling; first = x.meets.first; code = x.meets.code; polls = x.meets.polls; stands = stands };
    }

    abbrev Met : (f : Phase) → InStart t f m → Type 0
    Met f x = Turned image w m.number (plan.size w) 0 x.meets.polling x.meets.first (Gathers x.i x.first) (plan.words g) t f m.hart own

    met : (f : Phase) → IsInside f → (x : InStart t f m) → Met f x
    met f inside x =
        turned image w m.number (plan.size w) 0 x.meets.polling x.meets.first (Gathers x.i x.first) (plan.words g) t m.hart own x.meets.code is_open.0 x.meets.polls f inside x.meets.stands

    unites_by : (f : Phase) → IsInside f → (x : InStart t f m) → Met f x → HasTurn t Unites g w f m p own
    unites_by Outside inside x turn = absurd (assumption inside)
    unites_by Away inside x turn = absurd (assumption inside)
    unites_by (Coming d) inside x turn = with_turn Unites (Coming d) (idle p) turn turn.stays (λ s. refl) (refl, waits_on (Coming d) turn.phase turn.hart x turn.follows)
    unites_by Waiting inside x turn = with_turn Unites Waiting (idle p) turn turn.stays (λ s. refl) (refl, waits_on Waiting turn.phase turn.hart x turn.follows)
    unites_by (Leaving (suc d)) inside x turn = with_turn Unites (Leaving (suc d)) (idle p) turn turn.stays (λ s. refl) (refl, waits_on (Leaving (suc d)) turn.phase turn.hart x turn.follows)
    unites_by (Leaving zero) inside x turn =
        with_turn Unites (Leaving zero) (idle p) turn turn.stays (λ s. refl) (
          turn.follows.0,
          (
            refl,
            record {
              i = x.i;
              op = x.op;
              stands = x.stands;
              met = record { cycle = x.cycle; first = x.first; enters = x.enters; member = x.member; root = x.root; met = turn.follows.1 };
            },
          ),
        )

pub meeters_turn : MeetersTurn
meeters_turn core image places nestings setting plan first t g Unites w f m p own inside is_open x =
    unites_by core image places nestings setting plan first t g w m p own is_open f inside x (met core image places nestings setting plan first t g w m p own is_open f inside x)
meeters_turn core image places nestings setting plan first t g Commits w f m p own inside is_open x =
    commits_by core image places nestings setting plan first t g w m p own is_open f inside x (took core image places nestings setting plan first t g w m p own is_open f inside x)

pub cycles_are_rounds : CyclesAreRounds
cycles_are_rounds core image places nestings setting tree spaces nodes t earlier stages hs ps own sh s h shows has bound =
    let plan = plan_of tree spaces nodes in
    cycle_is_planned (core_source core setting) image plan (joining_blocks_of core image places nestings setting plan (first_of spaces)) t earlier stages hs ps own sh s (is_idle core setting)
    (meeters_turn core image places nestings setting plan (first_of spaces)) (own_apart tree spaces h) shows has
    (joins_bound core image places nestings setting plan (first_of spaces) t stages hs ps own bound)

pub unowned_words_stay : UnownedWordsStay
unowned_words_stay core image places nestings setting plan first t earlier stages hs ps own sh s word apart shows has bound going free other =
    plan_leaves (core_source core setting) image plan (joining_blocks_of core image places nestings setting plan first) t earlier stages hs ps own sh s word (is_idle core setting)
    (meeters_turn core image places nestings setting plan first) apart shows has (joins_bound core image places nestings setting plan first t stages hs ps own bound) going free
    (ne_eqb word asked_word other)
