-- Who has committed comes to its next stage.
use Rattle.std.proofs.Common.{◌≡◌, ◌≢◌, ℕ, zero, suc, ◌+◌, ◌-◌, ◌≤◌, ◌<◌, List, [], ◌∷◌, length, true, false, Some, None, sym, ap, subst, ◌∙◌, refl, arith, inl, inr, ⊎_elim}
use Rattle.std.specs.Prelude.{is_some, slice_get, Option, if◌then◌else◌}
use Rattle.std.proofs.lemmas.Bool.{cond-true, and_from}
use Rattle.fk_num.specs.Word.{Memory}
use Rattle.fk_space.specs.Space.{Space}
use Rattle.fk_tree.specs.declared.node.Kind.TheVariants.{Lockstep}
use Rattle.fk_tree.specs.Tree as trees
use Rattle.fk_tree.specs.Tree.{Tree, is_from, is_member}
use Rattle.fk_tree.proofs.Shapes.{from_within}
use Rattle.fk_meaning_operation.specs.declared.operation.SplitKind.{SplitKind}
use Rattle.fk_meaning_operation.specs.Kinds.{joint_of}
use Rattle.fk_meaning_operation.specs.declared.operation.Operation.{Operation}
use Rattle.fk_meaning_operation.specs.declared.operation.Operation.TheVariants.{Begin, End, Halt, Meet, Resume, Split, Shrink}
use Rattle.fk_meaning_operation.specs.declared.kinds.Joint.TheVariants.{Alone, Starting}
use Rattle.fk_meaning.specs.Processor.{Setting}
use Rattle.fk_meaning.specs.Group.{has_parts}
use Rattle.fk_core.specs.declared.op.CoreOp.{CoreOp}
use Rattle.fk_core.specs.Next.{is_jump, landing, next}
use Rattle.fk_image.specs.declared.Image.{Image}
use Rattle.fk_machine.specs.Hart.{Hart, Setting as MachineSetting}
use Rattle.fk_sim_nodes.specs.Node.{Member}
use Rattle.fk_sim_nodes.specs.Alone.{RunsPrivately, AllRunPrivately, with_harts, NodeRun, later, in_cycles}
use Rattle.fk_sim_nodes.specs.Together.{Together}
use Rattle.fk_sim_nodes.proofs.Runs.{run_map, run_join, private_run}
use Rattle.fk_sim_nodes.proofs.Members.{run_leads}
use Rattle.fk_sim_nodes.specs.Phase.{Coming}
use Rattle.fk_sim_match.specs.Stage.{Commits, Unites, Acts, Meets}
use Rattle.fk_sim_match.specs.Plan.{Plan, Blocks, IsOpen, StandsAt}
use Rattle.fk_sim_match.proofs.Changes.{does_later}
use Rattle.fk_sim_block.specs.Owner.{Owner, Doing, core_source}
use Rattle.fk_sim_block.specs.Stands as law
use Rattle.fk_sim_block.specs.Stands.{Places}
use Rattle.fk_sim_block.specs.Next.{OpAt, step_at}
use Rattle.fk_sim_block.specs.Ready.{is_alone, IsReady}
use Rattle.fk_sim_block.specs.Block.{most_before, most_behind, IsRunning, Enters, gone_to}
use Rattle.fk_sim_block.proofs.Standing.{next_here}
use Rattle.fk_sim_block.specs.Node.{Nestings, Polling, StandsInNode, OwnsHeader, OwnsSpace, IsAtRest, first_word, root_words, barrier_word, closing_word}
use Rattle.fk_sim_block.specs.Lockstep.{IsMember, AreMembers, AllEnter}
use Rattle.fk_sim_block.specs.Parts.{AreToDivide}
use Rattle.fk_sim_block.specs.Joint.{is_meeting, word_of, AreSoMany, Polls, IsArriving, IsInPhaseBy, StandsBehind}
use Rattle.fk_sim_block.specs.Law.{Cycles, GroupLaw}
use Rattle.fk_sim_match.specs.Nodes.{first_of, own_words, HaveSpaces, body_at, meeters_at, is_arrival, is_lockstep, plan_of}
use Rattle.fk_sim_match.specs.Behind.{runs_of, blocks_of}
use Rattle.fk_sim_match.proofs.Nodes.{tells, own_apart}
use Rattle.fk_sim_match.proofs.Standing.{members_stand_at_stages, members_halt_at_stages, meeters_set_out, starters_set_out, act_together, step_together, end_together, shrink_together, divide_together, to_split, few_to_split}
use Rattle.fk_sim_match.specs.Rounds.{closing_joint, joint_at_word, ending_of}
use Rattle.fk_sim_rounds.specs.Next.{JumpsLead, landed, all_landed, HasRange, IsHome, MayAlone, MayMeet, MayStart, HasNext, AllAt, AllAbout, ActsAlike, StepsAlike, MayMove, HaveNext}
use Rattle.fk_sim_rounds.specs.Comes.{AllHave, IsGroup, AllBelow, IsNode, ComesTo, ComeTo, MembersComeToStages, GroupsComeToCommits}
use Rattle.fk_sim_rounds.proofs.Cycles.{finished_in, in_cycles_join, runs_join, runs_later}
use Rattle.fk_sim_rounds.proofs.Way.{IsWay, way}

-- ---- words by which members meet

alone_joint : (operation : Operation) → is_alone operation ≡ true → joint_of operation ≡ Alone
alone_joint Begin alone = absurd (cc)
alone_joint (Meet closing) alone = absurd (cc)
alone_joint Resume alone = absurd (cc)
alone_joint operation alone = refl

-- by leaving, each commits
meeting_ends : (operation : Operation) → is_meeting operation ≡ true → ending_of (joint_of operation) ≡ Commits
meeting_ends (Meet false) is = refl
meeting_ends (Meet true) is = refl
meeting_ends Resume is = refl
meeting_ends operation is = absurd (cc)

arrival_word : (operation : Operation) → is_arrival (word_of operation) ≡ true
arrival_word (Meet false) = refl
arrival_word operation = refl

few_words : (operation : Operation) → word_of operation < 8
few_words (Meet false) = omega arith
few_words (Meet true) = omega arith
few_words operation = omega arith

header_within : (tree : Tree) (spaces : ℕ → Space) (g : ℕ) → HaveSpaces tree spaces → is_some (tree.nodes g) ≡ true → first_of spaces g + 8 ≤ root_words + 64
header_within tree spaces zero spaced there = omega arith
header_within tree spaces (suc g) spaced there =
    let header = spaced.header (suc g) (λ e. omega (arith, e)) there in
    let within = spaced.within (suc g) (λ e. omega (arith, e)) there in
    omega (arith, header, within)

pub owns_header : (tree : Tree) (spaces : ℕ → Space) (nodes : List ℕ) (g : ℕ) → IsNode tree spaces g → OwnsHeader ((plan_of tree spaces nodes).words g) (first_of spaces g)
owns_header tree spaces nodes g node = record {
  within = header_within tree spaces g node.spaced node.there;
  own = λ word lt. (tells tree spaces node.spaced nodes g word node.there node.given lt).own;
  apart = (own_apart tree spaces node.spaced).from_common g;
}

-- a group in lockstep owns all words of its space
pub owns_space : (tree : Tree) (spaces : ℕ → Space) (nodes : List ℕ) (g : ℕ) (space : Space) → g ≢ 0 → is_some (tree.nodes g) ≡ true → trees.kind tree g ≡ Some Lockstep → HasRange (spaces g) space
    → OwnsSpace ((plan_of tree spaces nodes).words g) space
owns_space tree spaces nodes zero space ne there kind range = absurd (ne refl)
owns_space tree spaces nodes (suc g) space ne there kind range = record {
  own = λ word from below.
      let low = range.0 in
      let high = range.1 in
      let s = spaces (suc g) in
      and_from (is_some (tree.nodes (suc g))) (is_from s.low (own_words spaces (suc g) (trees.kind tree (suc g))) word) there
      (ap (λ k. is_from s.low (own_words spaces (suc g) k) word) kind ∙ from_within s.low (s.high - s.low) word (omega (arith, from, low)) (omega (arith, from, below, low, high)));
}

-- who divides a space is not in the root
no_root : (places : Places) (nestings : Nestings) (setting : Setting) (spaces : ℕ → Space) (g : ℕ) (by : SplitKind) (space : Space) (count : ℕ) (ms : List Member) (ps : List Owner)
    → AreMembers places nestings setting (λ p. None) (first_of spaces g) ms ps → AreToDivide nestings by space count ps → g ≢ 0
no_root places nestings setting spaces g by space count ms [] members divides e = let some = divides.some in omega (arith, some)
no_root places nestings setting spaces g by space count [] (p ∷ ps) members divides e = members
no_root places nestings setting spaces g by space count (m ∷ ms) (p ∷ ps) members divides e =
    let first = divides.all.0 in
    let low : p.runner.has.level.space.low ≡ root_words = ap (first_word p.runner.has.level) (sym first.group.outer) ∙ members.0.words ∙ ap (first_of spaces) e in
    let same : p.runner.has.level.space.low ≡ space.low = ap (λ s. s.low) first.space_is in
    let header = divides.is_space.header in
    let ordered = divides.is_space.ordered in
    let within = divides.is_space.within in
    let shared = divides.is_space.shared in
    omega (arith, low, same, header, ordered, within, shared)

-- its space has the words of the node's
divided_range : (nestings : Nestings) (spaces : ℕ → Space) (g : ℕ) (by : SplitKind) (space : Space) (count : ℕ) (ps : List Owner) → AllHave (spaces g) ps → AreToDivide nestings by space count ps → HasRange (spaces g) space
divided_range nestings spaces g by space count [] have divides = absurd (let some = divides.some in omega (arith, some))
divided_range nestings spaces g by space count (p ∷ ps) have divides = subst (HasRange (spaces g)) divides.all.0.space_is have.0

so_many : (tree : Tree) (spaces : ℕ → Space) (nodes : List ℕ) (g number : ℕ) (p : Owner) (operation : Operation) → is_meeting operation ≡ true
    → (plan_of tree spaces nodes).member (first_of spaces g + word_of operation) number ≡ true
    → (plan_of tree spaces nodes).size (first_of spaces g + word_of operation) ≡ length (meeters_at tree g (word_of operation))
    → p.runner.has.level.size ≡ length (trees.members tree g)
    → AreSoMany operation (runs_of (plan_of tree spaces nodes) (first_of spaces g) number) p ((plan_of tree spaces nodes).size (first_of spaces g + word_of operation))
so_many tree spaces nodes g number p (Meet false) meeting member size has =
    let plan = plan_of tree spaces nodes in
    cond-true (plan.member (first_of spaces g + barrier_word) number) (Some (plan.size (first_of spaces g + barrier_word))) None member
so_many tree spaces nodes g number p (Meet true) meeting member size has = has ∙ sym size
so_many tree spaces nodes g number p Resume meeting member size has = has ∙ sym size
so_many tree spaces nodes g number p operation meeting member size has = absurd (cc)

module _ (core : List CoreOp) (image : Image) (places : Places) (nestings : Nestings) (cycles : Cycles) (firsts : List ℕ) (main : ℕ) (setting : Setting) (tree : Tree) (spaces : ℕ → Space) (nodes : List ℕ)
    (the_law : GroupLaw core image places nestings cycles firsts main) (leads : JumpsLead core) where
  abbrev plan : Plan
  plan = plan_of tree spaces nodes

  abbrev blocks : Blocks Owner Doing
  blocks = blocks_of core image places nestings setting (plan_of tree spaces nodes) (first_of spaces)

  -- ---- by itself, to the block of its operation

  record Arrives (t : MachineSetting) (runs : Option ℕ) (m : Member) (p : Owner) : Type 0 where
    to_block : ℕ
    few : to_block ≤ suc most_behind
    hart : Hart
    private : RunsPrivately image t m.number to_block m.hart hart
    at : law.StandsAt places p hart
    node : StandsInNode places nestings setting runs p hart

  arrives : (t : MachineSetting) (runs : Option ℕ) (first b : ℕ) (m : Member) (hart : Hart) (p : Owner) → IsRunning image setting t → b ≤ most_behind
      → RunsPrivately image t m.number b m.hart hart → IsMember places nestings setting runs first (record m { hart = hart }) p
      → IsWay core p.runner.left.at (landing core p.runner.left.at) → Arrives t runs m (landed core p)
  arrives t runs first b m hart p running few private member (inl e) = record {
    to_block = b;
    few = omega (arith, few);
    hart = hart;
    private = private;
    at = subst (λ j. law.StandsAt places (gone_to j p) hart) e member.at;
    node = subst (λ j. StandsInNode places nestings setting runs (gone_to j p) hart) e member.node;
  }
  arrives t runs first b m hart p running few private member (inr (jump, stands, is, e)) =
      let u = in_cycles b t in
      let there = runs_later image setting b t running in
      let jumps = the_law.jumps p.runner.left.at jump stands is setting u runs first (record m { hart = hart }) p there.code refl member in
      record {
        to_block = b + 1;
        few = omega (arith, few);
        hart = jumps.hart;
        private = runs_join image m.number b 1 t m.hart hart jumps.hart private (jumps.hart, jumps.private, refl);
        at = subst (λ j. law.StandsAt places (gone_to j p) jumps.hart) e jumps.at;
        node = subst (λ j. StandsInNode places nestings setting runs (gone_to j p) jumps.hart) e jumps.node;
      }

  -- ---- stages some cycles earlier

  acts_earlier : (t : MachineSetting) (g n d : ℕ) (m : Member) (hart : Hart) (p : Owner) → RunsPrivately image t m.number n m.hart hart
      → StandsAt (core_source core setting) image plan blocks (in_cycles n t) g (Acts d 0) (record m { hart = hart }) p
      → StandsAt (core_source core setting) image plan blocks t g (Acts (n + d) 0) m p
  acts_earlier t g n d m hart p private stands =
      (stands.0, does_later (core_source core setting) image t 1 d stands.0 n m hart p (λ h x. blocks.AfterOne g stands.0 (record m { hart = h }) p x) private stands.1)

  -- who is on its way to a word was so before
  comes_earlier : (polling : Polling) (first : Hart) (size count : ℕ) (Left : Hart → Type 0) (t : MachineSetting) (n d w : ℕ) (m : Member) (hart : Hart) → RunsPrivately image t m.number n m.hart hart
      → IsInPhaseBy image w m.number polling first size Left count (in_cycles n t) (Coming d) hart → IsInPhaseBy image w m.number polling first size Left count t (Coming (n + d)) m.hart
  comes_earlier polling first size count Left t n d w m hart private s =
      let even = s.0 in
      let at = finished_in n t in (
        omega (arith, even, at),
        (
          s.1.0,
          runs_join image m.number n d t m.hart hart s.1.0 private s.1.1,
          subst (λ u. IsArriving image w m.number polling first size Left u s.1.0) (sym (in_cycles_join n d t)) s.1.2,
        ),
      )

  meets_earlier : (t : MachineSetting) (g n d w : ℕ) (m : Member) (hart : Hart) (p : Owner) → IsRunning image setting t → RunsPrivately image t m.number n m.hart hart
      → StandsAt (core_source core setting) image plan blocks (in_cycles n t) g (Meets Commits w (Coming d)) (record m { hart = hart }) p
      → StandsAt (core_source core setting) image plan blocks t g (Meets Commits w (Coming (n + d))) m p
  meets_earlier t g n d w m hart p running private stands =
      let x = stands.3 in (
        tt,
        stands.1,
        stands.2,
        record {
          i = x.i;
          op = x.op;
          operation = x.operation;
          stands = x.stands;
          meeting = x.meeting;
          next_is = x.next_is;
          word_is = x.word_is;
          meets = record {
            polling = x.meets.polling;
            first = x.meets.first;
            code = running.code;
            polls = x.meets.polls;
            stands =
                comes_earlier x.meets.polling x.meets.first (plan.size w) 1 (StandsBehind image places nestings setting (runs_of plan (first_of spaces g) m.number) x.i p) t n d w m hart private
                x.meets.stands;
          };
        },
      )

  starts_earlier : (t : MachineSetting) (n d w : ℕ) (m : Member) (hart : Hart) (p : Owner) → IsRunning image setting t → RunsPrivately image t m.number n m.hart hart
      → StandsAt (core_source core setting) image plan blocks (in_cycles n t) 0 (Meets Unites w (Coming d)) (record m { hart = hart }) p
      → StandsAt (core_source core setting) image plan blocks t 0 (Meets Unites w (Coming (n + d))) m p
  starts_earlier t n d w m hart p running private stands =
      let x = stands.3 in (
        tt,
        stands.1,
        stands.2,
        record {
          i = x.i;
          op = x.op;
          cycle = x.cycle;
          first = x.first;
          stands = x.stands;
          enters = x.enters;
          member = x.member;
          root = x.root;
          meets = record {
            polling = x.meets.polling;
            first = x.meets.first;
            code = running.code;
            polls = x.meets.polls;
            stands =
                comes_earlier x.meets.polling x.meets.first (plan.size w) 0 (λ h. Polls (nestings.start.there x.i) (nestings.start.coming x.i x.first) h) t n d w m hart private x.meets.stands;
          };
        },
      )

  -- ---- to a stage

  module _ (t : MachineSetting) (m : Member) (p : Owner) (node : IsNode tree spaces (tree.places m.number)) (running : IsRunning image setting t) (lt : m.number < setting.processors)
      (home : IsHome tree spaces m.number p) (op : CoreOp) (operation : Operation) (stands : OpAt core p.runner.left.at op operation)
      (ready : IsReady op operation p.runner)
      (a : Arrives t (runs_of (plan_of tree spaces nodes) (first_of spaces (tree.places m.number)) m.number) m p) where
    abbrev g : ℕ
    g = tree.places m.number

    abbrev here : Member
    here = record m { hart = a.hart }

    abbrev u : MachineSetting
    u = in_cycles a.to_block t

    enters : Enters core image places setting u p.runner.left.at op operation p a.hart
    enters = record {
      running = runs_later image setting a.to_block t running;
      number = subst (λ k. k < setting.processors) (sym home.number_is) lt;
      index = refl;
      ready = ready;
      at = a.at;
    }

    member : IsMember places nestings setting (runs_of (plan_of tree spaces nodes) (first_of spaces (tree.places m.number)) m.number) (first_of spaces g) here p
    member = record { number = sym home.number_is; at = a.at; node = a.node; words = home.words }

    abbrev Comes : Type 0
    Comes = ComesTo core image places nestings setting tree spaces nodes t g m p

    is_next : next core p.runner.left ≡ Some (step_at core p.runner.left.at op operation p.runner.left.callers)
    is_next = next_here core p.runner.left.at op operation p.runner.left.callers stands

    comes_alone : MayAlone nestings operation p → Comes
    comes_alone may =
        let i = p.runner.left.at in
        let d = cycles.before i in
        let few = the_law.few_before i in
        let le = a.few in
        record {
          stage = Acts (a.to_block + d) 0;
          fresh = tt;
          stands = acts_earlier t g a.to_block d m a.hart p a.private
              (members_stand_at_stages core image places nestings cycles firsts main setting plan (first_of spaces) u g i op operation here p the_law stands may.alone enters member may.frame);
          due = record { single = refl; step = step_at core i op operation p.runner.left.callers; next_is = is_next; joint = λ free. alone_joint operation may.alone };
          soon = omega (arith, few, le);
        }

    comes_to_halt : operation ≡ Halt → Comes
    comes_to_halt e =
        let i = p.runner.left.at in
        let halts = members_halt_at_stages core image places nestings cycles firsts main setting plan (first_of spaces) u g i op here p the_law (subst (λ o. OpAt core i op o) e stands)
        (subst (λ o. Enters core image places setting u i op o p a.hart) e enters) (sym home.number_is) in
        let few = halts.1 in
        let le = a.few in
        record {
          stage = Acts (a.to_block + halts.0) 0;
          fresh = tt;
          stands = acts_earlier t g a.to_block halts.0 m a.hart p a.private halts.2;
          due = record { single = refl; step = step_at core i op operation p.runner.left.callers; next_is = is_next; joint = λ free. ap joint_of e };
          soon = omega (arith, few, le);
        }

    comes_to_meet : MayMeet tree g m.number operation → Comes
    comes_to_meet may =
        let i = p.runner.left.at in
        let w = first_of spaces g + word_of operation in
        let tell = tells tree spaces node.spaced nodes g (word_of operation) node.there node.given (few_words operation) in
        let is_open : IsOpen plan g w = (tell.own, tell.arrival ∙ arrival_word operation) in
        let is_member = tell.member m.number ∙ may.member in
        let sets = meeters_set_out core image places nestings cycles firsts main setting plan (first_of spaces) u g i w op operation here p the_law stands may.meeting enters member
        (owns_header tree spaces nodes g node) refl is_open is_member (so_many tree spaces nodes g m.number p operation may.meeting is_member tell.size home.size) in
        let few = sets.1 in
        let le = a.few in
        let even = sets.2 in
        let at = finished_in a.to_block t in
        record {
          stage = Meets Commits w (Coming (a.to_block + sets.0));
          fresh = omega (arith, even, at);
          stands = meets_earlier t g a.to_block sets.0 w m a.hart p running a.private sets.3;
          due = (
            tt,
            record {
              offset = word_of operation;
              step = step_at core i op operation p.runner.left.callers;
              next_is = is_next;
              word_is = refl;
              arrival = arrival_word operation;
              joint = may.joint;
              ends = sym (meeting_ends operation may.meeting) ∙ ap ending_of may.joint;
            },
          );
          soon = omega (arith, few, le);
        }

    comes_to_start : MayStart nestings setting tree g m.number operation p → Comes
    comes_to_start may =
        let i = p.runner.left.at in
        let e = may.root in
        let root : IsNode tree spaces 0 = subst (IsNode tree spaces) e node in
        let w = first_of spaces 0 + closing_word in
        let tell = tells tree spaces node.spaced nodes 0 closing_word root.there root.given (omega arith) in
        let all = tells tree spaces node.spaced nodes 0 barrier_word root.there root.given (omega arith) in
        let processors : length (trees.members tree 0) ≡ setting.processors
        = sym (home.size ∙ ap (λ k. length (trees.members tree k)) e) ∙ may.in_root.level.size in
        let body : meeters_at tree 0 barrier_word ≡ trees.members tree 0 = ap (λ k. body_at k 0 (trees.members tree 0)) may.kind in
        let runs : runs_of plan (first_of spaces g) m.number ≡ Some setting.processors
        = ap (λ k. runs_of plan (first_of spaces k) m.number) e
        ∙ ap (λ b. if b then Some (plan.size (first_of spaces 0 + barrier_word)) else None) (all.member m.number ∙ ap (λ l. is_member m.number l) body ∙ may.member)
        ∙ ap (λ n. Some n) (all.size ∙ ap (λ l. length l) body ∙ processors) in
        let here_root : IsMember places nestings setting (Some setting.processors) root_words here p
        = record {
          number = member.number;
          at = a.at;
          node = subst (λ r. StandsInNode places nestings setting r p a.hart) runs a.node;
          words = home.words ∙ ap (first_of spaces) e;
        } in
        let sets = starters_set_out core image places nestings cycles firsts main setting plan (first_of spaces) u i w op here p the_law (subst (λ o. OpAt core i op o) may.begins stands)
        (subst (λ o. Enters core image places setting u i op o p a.hart) may.begins enters) here_root may.in_root (owns_header tree spaces nodes 0 root) refl (tell.own, tell.arrival)
        (tell.member m.number ∙ may.member) (tell.size ∙ processors) in
        let joint : joint_at_word g (trees.kind tree g) closing_word ≡ Starting
        = ap (λ k. joint_at_word k (trees.kind tree k) closing_word) e ∙ ap (closing_joint 0) may.kind in
        let few = sets.1 in
        let le = a.few in
        let even = sets.2 in
        let at = finished_in a.to_block t in
        record {
          stage = Meets Unites w (Coming (a.to_block + sets.0));
          fresh = omega (arith, even, at);
          stands = subst (λ k. StandsAt (core_source core setting) image plan blocks t k (Meets Unites w (Coming (a.to_block + sets.0))) m p) (sym e)
              (starts_earlier t a.to_block sets.0 w m a.hart p running a.private sets.3);
          due = (
            tt,
            record {
              offset = closing_word;
              step = step_at core i op operation p.runner.left.callers;
              next_is = is_next;
              word_is = ap (λ k. first_of spaces k + closing_word) (sym e);
              arrival = refl;
              joint = ap joint_of may.begins ∙ sym joint;
              ends = sym (ap ending_of joint);
            },
          );
          soon = omega (arith, few, le);
        }

  pub comes : (t : MachineSetting) (b : ℕ) (m : Member) (hart : Hart) (p : Owner) → IsNode tree spaces (tree.places m.number) → is_lockstep (trees.kind tree (tree.places m.number)) ≡ false
      → IsRunning image setting t → m.number < setting.processors → b ≤ most_behind → RunsPrivately image t m.number b m.hart hart → law.StandsAt places p hart
      → StandsInNode places nestings setting (runs_of (plan_of tree spaces nodes) (first_of spaces (tree.places m.number)) m.number) p hart
      → IsHome tree spaces m.number p → HasNext core nestings setting tree m.number (landed core p)
      → ComesTo core image places nestings setting tree spaces nodes t (tree.places m.number) m (landed core p)
  comes t b m hart p node free running lt few private at stands home has =
      let runs = runs_of (plan_of tree spaces nodes) (first_of spaces (tree.places m.number)) m.number in
      let member : IsMember places nestings setting runs (first_of spaces (tree.places m.number)) (record m { hart = hart }) p
      = record { number = sym home.number_is; at = at; node = stands; words = home.words } in
      let a = arrives t runs (first_of spaces (tree.places m.number)) b m hart p running few private member (way core leads p.runner.left.at) in
      let q = landed core p in
      let home' : IsHome tree spaces m.number q = record { number_is = home.number_is; words = home.words; size = home.size; range = home.range } in
      ⊎_elim (λ alone. comes_alone t m q node running lt home' has.op has.operation has.stands has.ready a alone)
      (λ other. ⊎_elim (λ e. comes_to_halt t m q node running lt home' has.op has.operation has.stands has.ready a e)
      (λ several. ⊎_elim (λ may. comes_to_meet t m q node running lt home' has.op has.operation has.stands has.ready a may)
      (λ may. comes_to_start t m q node running lt home' has.op has.operation has.stands has.ready a may) several) other) (has.may free)

  -- ---- in lockstep, to the block of their operation

  landed_members : (first at : ℕ) (ms : List Member) (ps : List Owner) → at ≡ landing core at → AllAt at ps → AreMembers places nestings setting (λ p. None) first ms ps
      → AreMembers places nestings setting (λ p. None) first ms (all_landed core ps)
  landed_members first at [] [] e all members = tt
  landed_members first at (m ∷ ms) (p ∷ ps) e all members =
      let same : p.runner.left.at ≡ landing core p.runner.left.at = all.0 ∙ e ∙ sym (ap (landing core) all.0) in
      let one = members.0 in (
        record {
          number = one.number;
          at = subst (λ j. law.StandsAt places (gone_to j p) m.hart) same one.at;
          node = subst (λ j. StandsInNode places nestings setting None (gone_to j p) m.hart) same one.node;
          words = one.words;
        },
        landed_members first at ms ps e all.1 members.1,
      )
  landed_members first at ms ps e all members = absurd (assumption members)

  -- by a jump
  record Jumped (t : MachineSetting) (first : ℕ) (ms : List Member) (ps : List Owner) : Type 0 where
    harts : List Hart
    private : AllRunPrivately image t 1 ms harts
    members : AreMembers places nestings setting (λ p. None) first (with_harts ms harts) (all_landed core ps)

  jumped : (t : MachineSetting) (first at : ℕ) (jump : CoreOp) (ms : List Member) (ps : List Owner) → IsRunning image setting t → slice_get core at ≡ Some jump → is_jump jump ≡ true
      → jump.target ≡ landing core at → AllAt at ps → AreMembers places nestings setting (λ p. None) first ms ps → Jumped t first ms ps
  jumped t first at jump [] [] running stands is e all members = record { harts = []; private = tt; members = tt }
  jumped t first at jump (m ∷ ms) (p ∷ ps) running stands is e all members =
      let one = members.0 in
      let jumps = the_law.jumps at jump stands is setting t None first m p running.code all.0 one in
      let rest = jumped t first at jump ms ps running stands is e all.1 members.1 in
      let same : jump.target ≡ landing core p.runner.left.at = e ∙ sym (ap (landing core) all.0) in
      record {
        harts = jumps.hart ∷ rest.harts;
        private = ((jumps.hart, jumps.private, refl), rest.private);
        members = (
          record {
            number = one.number;
            at = subst (λ j. law.StandsAt places (gone_to j p) jumps.hart) same jumps.at;
            node = subst (λ j. StandsInNode places nestings setting None (gone_to j p) jumps.hart) same jumps.node;
            words = one.words;
          },
          rest.members,
        );
      }
  jumped t first at jump ms ps running stands is e all members = absurd (assumption members)

  abbrev Arrived : (first : ℕ) → List Owner → List Member → Memory → Type 0
  Arrived first ps ms own = IsAtRest first own × AreMembers places nestings setting (λ p. None) first ms (all_landed core ps)

  record GroupArrives (t : MachineSetting) (g : ℕ) (ms : List Member) (ps : List Owner) (own : Memory) : Type 0 where
    to_block : ℕ
    few : to_block ≤ suc most_behind
    run : NodeRun image (plan.words g) t to_block ms own (Arrived (first_of spaces g) ps)

  group_arrives : (t : MachineSetting) (g b at : ℕ) (ms : List Member) (ps : List Owner) (own : Memory) → IsRunning image setting t → b ≤ most_behind → AllAt at ps
      → NodeRun image (plan.words g) t b ms own (λ ms' own'. IsAtRest (first_of spaces g) own' × AreMembers places nestings setting (λ p. None) (first_of spaces g) ms' ps)
      → IsWay core at (landing core at) → GroupArrives t g ms ps own
  group_arrives t g b at ms ps own running few all run (inl e) = record {
    to_block = b;
    few = omega (arith, few);
    run = run_map image (plan.words g) t b ms own (λ ms' own'. IsAtRest (first_of spaces g) own' × AreMembers places nestings setting (λ p. None) (first_of spaces g) ms' ps)
        (Arrived (first_of spaces g) ps) (λ ms' own' x. (x.0, landed_members (first_of spaces g) at ms' ps e all x.1)) run;
  }
  group_arrives t g b at ms ps own running few all run (inr (jump, stands, is, e)) = record {
    to_block = b + 1;
    few = omega (arith, few);
    run = run_join image (plan.words g) t b 1 ms own (Arrived (first_of spaces g) ps)
        (run_map image (plan.words g) t b ms own (λ ms' own'. IsAtRest (first_of spaces g) own' × AreMembers places nestings setting (λ p. None) (first_of spaces g) ms' ps)
        (λ ms' own'. NodeRun image (plan.words g) (in_cycles b t) 1 ms' own' (Arrived (first_of spaces g) ps))
        (λ ms' own' x.
        let j = jumped (in_cycles b t) (first_of spaces g) at jump ms' ps (runs_later image setting b t running) stands is e all x.1 in
        private_run image (plan.words g) (in_cycles b t) 1 ms' j.harts own' (Arrived (first_of spaces g) ps) j.private (x.0, j.members)) run);
  }

  landed_have : (whole : Space) (ps : List Owner) → AllHave whole ps → AllHave whole (all_landed core ps)
  landed_have whole [] have = tt
  landed_have whole (p ∷ ps) have = (have.0, landed_have whole ps have.1)

  all_enter : (u : MachineSetting) (first i : ℕ) (op : CoreOp) (operation : Operation) (ms : List Member) (ps : List Owner) → IsRunning image setting u → AllBelow setting.processors ps
      → AllAbout i op operation (all_landed core ps) → AreMembers places nestings setting (λ p. None) first ms (all_landed core ps)
      → AllEnter core image places nestings i op operation setting u None first ms (all_landed core ps)
  all_enter u first i op operation [] [] running below about members = tt
  all_enter u first i op operation (m ∷ ms) (p ∷ ps) running below about members = (
    record { running = running; number = below.0; index = about.0; ready = about.1; at = members.0.at },
    members.0,
    all_enter u first i op operation ms ps running below.1 about.2 members.1,
  )
  all_enter u first i op operation ms ps running below about members = absurd (assumption members)

  -- ---- and to their common commit

  module _ (t : MachineSetting) (g : ℕ) (ms : List Member) (ps : List Owner) (own : Memory) (node : IsNode tree spaces g) (running : IsRunning image setting t)
      (below : AllBelow setting.processors ps) (has : HaveNext core nestings ps) (a : GroupArrives t g ms ps own) where
    abbrev index : ℕ
    index = landing core has.at

    abbrev there : MachineSetting
    there = in_cycles a.to_block t

    enter : (operation : Operation) → has.operation ≡ operation → (ms' : List Member) → AreMembers places nestings setting (λ p. None) (first_of spaces g) ms' (all_landed core ps)
        → AllEnter core image places nestings index has.op operation setting there None (first_of spaces g) ms' (all_landed core ps)
    enter operation e ms' members =
        subst (λ o. AllEnter core image places nestings index has.op o setting there None (first_of spaces g) ms' (all_landed core ps)) e
        (all_enter there (first_of spaces g) index has.op has.operation ms' ps (runs_later image setting a.to_block t running) below has.about members)

    -- where each who has arrived is so far from its commit
    come : (d : ℕ) → d ≤ most_before
        → ((ms' : List Member) (own' : Memory) → Arrived (first_of spaces g) ps ms' own'
        → Together (core_source core setting) image (plan.words g) there 1 d ms' (all_landed core ps) own' (blocks.AfterAll (later (in_cycles d there)) g))
        → ComeTo core image places nestings setting tree spaces nodes t g ms (all_landed core ps) own
    come d few f =
        let n = a.to_block in
        let le = a.few in
        record {
          distance = n + d;
          soon = omega (arith, few, le);
          together =
              subst (λ v. Together (core_source core setting) image (plan.words g) t 1 (n + d) ms (all_landed core ps) own (blocks.AfterAll (later v) g)) (sym (in_cycles_join n d t))
              (run_leads (core_source core setting) image (plan.words g) t 1 n d ms (all_landed core ps) own (blocks.AfterAll (later (in_cycles d there)) g)
              (run_map image (plan.words g) t n ms own (Arrived (first_of spaces g) ps)
              (λ ms' own'. Together (core_source core setting) image (plan.words g) there 1 d ms' (all_landed core ps) own' (blocks.AfterAll (later (in_cycles d there)) g)) f a.run));
        }

    come_acting : ActsAlike nestings has.operation (all_landed core ps) → ComeTo core image places nestings setting tree spaces nodes t g ms (all_landed core ps) own
    come_acting may =
        come (cycles.before index) (the_law.few_before index)
        (λ ms' own' x. act_together core image places nestings setting plan (first_of spaces) cycles firsts main there g index has.op the_law has.operation may.onward ms' (all_landed core ps) own' has.stands
        may.alone (owns_header tree spaces nodes g node) (enter has.operation refl ms' x.1) may.go x.0)

    come_stepping : StepsAlike has.operation (all_landed core ps) → ComeTo core image places nestings setting tree spaces nodes t g ms (all_landed core ps) own
    come_stepping may =
        come (cycles.before index) (the_law.few_before index)
        (λ ms' own' x. step_together core image places nestings setting plan (first_of spaces) cycles firsts main there g index has.op the_law has.operation may.lowest may.size ms' (all_landed core ps) own'
        has.stands may.shared (owns_header tree spaces nodes g node) (enter has.operation refl ms' x.1) may.asked x.0)

    come_moving : IsGroup tree spaces g ps → (operation : Operation) → has.operation ≡ operation → MayMove nestings operation (all_landed core ps)
        → ComeTo core image places nestings setting tree spaces nodes t g ms (all_landed core ps) own
    come_moving group (Split by) e may =
        let stands = subst (λ o. OpAt core index has.op o) e has.stands in
        let space = may.0 in
        let count = may.1 in
        let room = has_parts space count in
        let range = divided_range nestings spaces g by space count (all_landed core ps) (landed_have (spaces g) ps group.space) may.2 in
        come (to_split core image places nestings setting plan (first_of spaces) cycles firsts main there g index has.op the_law by stands room)
        (few_to_split core image places nestings setting plan (first_of spaces) cycles firsts main there g index has.op the_law by stands room)
        (λ ms' own' x.
        divide_together core image places nestings setting plan (first_of spaces) cycles firsts main there g index has.op the_law by space count ms' (all_landed core ps) own' stands
        (owns_header tree spaces nodes g node)
        (owns_space tree spaces nodes g space (no_root places nestings setting spaces g by space count ms' (all_landed core ps) x.1 may.2) node.there group.kind range)
        (enter (Split by) e ms' x.1) may.2 room refl x.0)
    come_moving group Shrink e may =
        come (cycles.before index) (the_law.few_before index)
        (λ ms' own' x. shrink_together core image places nestings setting plan (first_of spaces) cycles firsts main there g index has.op the_law ms' (all_landed core ps) own'
        (subst (λ o. OpAt core index has.op o) e has.stands) (owns_header tree spaces nodes g node) (enter Shrink e ms' x.1) may.1 may.0 x.0)
    come_moving group End e may =
        come 0 (omega arith)
        (λ ms' own' x. end_together core image places nestings setting plan (first_of spaces) cycles firsts main there g index has.op the_law ms' (all_landed core ps) own'
        (subst (λ o. OpAt core index has.op o) e has.stands) (owns_header tree spaces nodes g node) (enter End e ms' x.1) may x.0)
    come_moving group operation e may = absurd may

pub members_come_to_stages : MembersComeToStages
members_come_to_stages core image places nestings cycles firsts main setting tree spaces nodes t b m hart p the_law leads node free running lt few private at stands home has =
    comes core image places nestings cycles firsts main setting tree spaces nodes the_law leads t b m hart p node free running lt few private at stands home has

pub groups_come_to_commits : GroupsComeToCommits
groups_come_to_commits core image places nestings cycles firsts main setting tree spaces nodes t b g ms ps own the_law leads node group running below few run has =
    let a = group_arrives core image places nestings cycles firsts main setting tree spaces nodes the_law leads t g b has.at ms ps own running few has.all_at run (way core leads has.at) in
    ⊎_elim (λ may. come_acting core image places nestings cycles firsts main setting tree spaces nodes the_law leads t g ms ps own node running below has a may)
    (λ other. ⊎_elim (λ may. come_stepping core image places nestings cycles firsts main setting tree spaces nodes the_law leads t g ms ps own node running below has a may)
    (λ may. come_moving core image places nestings cycles firsts main setting tree spaces nodes the_law leads t g ms ps own node running below has a group has.operation refl may) other) has.may
