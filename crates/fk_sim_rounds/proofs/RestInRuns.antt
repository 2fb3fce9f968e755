-- As long as there is no group, nobody is at the words of the one to come.
use Rattle.std.proofs.Common.{◌≡◌, ◌≢◌, ℕ, zero, suc, ◌+◌, ◌^◌, ◌<◌, List, length, Option, None, Some, Bool, true, false, cond, ◌&&◌, sym, ap, subst, ◌∙◌, refl, arith, ◌⊎◌, ⊎_elim}
use Rattle.std.specs.Prelude.{is_none, is_some}
use Rattle.std.proofs.lemmas.Bool.{and_parts, false≢true}
use Rattle.fk_num.specs.Word.{Memory}
use Rattle.fk_space.specs.Space.{Space}
use Rattle.fk_tree.specs.declared.node.Kind.TheVariants.{Lockstep}
use Rattle.fk_tree.specs.Tree as trees
use Rattle.fk_tree.specs.Tree.{Node, Tree, is_from}
use Rattle.fk_tree.proofs.Shapes.{from_below}
use Rattle.fk_meaning_operation.specs.declared.operation.Operation.TheVariants as o
use Rattle.fk_meaning.specs.Processor.{Setting}
use Rattle.fk_meaning.specs.Round.{Fault, State, result, is_allowed, is_possible}
use Rattle.fk_core.specs.declared.op.CoreOp.{CoreOp}
use Rattle.fk_core.specs.Next.{Position, next}
use Rattle.fk_image.specs.declared.Image.{Image}
use Rattle.fk_machine.specs.Hart.{Hart, Shared, Setting as MachineSetting}
use Rattle.fk_machine.specs.Cycle.{turns, turns_of, setting_of, unprinted, after_turns, cycle}
use Rattle.fk_sim_nodes.specs.Source.{AllPass, FaultsAfter}
use Rattle.fk_sim_nodes.specs.Whole.{planned, IsCut}
use Rattle.fk_sim_match.specs.Stage.{Stage, counts_for, AllDoOne}
use Rattle.fk_sim_heap.specs.Count.{asked_word}
use Rattle.fk_sim_block.specs.Owner.{Commons, Owner, Doing, core_source}
use Rattle.fk_sim_block.specs.Stands.{Places}
use Rattle.fk_sim_block.specs.Node.{Nestings, IsAtRest, root_words, barrier_word, closing_word}
use Rattle.fk_sim_block.specs.Law.{Cycles, GroupLaw}
use Rattle.fk_sim_match.specs.Nodes.{first_of, own_words, owns, plan_of, united}
use Rattle.fk_sim_match.specs.Uniting.{NobodyUnites, SomebodyUnites}
use Rattle.fk_sim_match.proofs.Joining.{nobody_or_somebody}
use Rattle.fk_sim_match.proofs.Nodes.{own_apart}
use Rattle.fk_sim_match.proofs.Meeters.{unowned_words_stay}
use Rattle.fk_sim_rounds.specs.Next.{JumpsLead}
use Rattle.fk_sim_rounds.specs.After.{actings, runners_of, tree_after, AllKeep}
use Rattle.fk_sim_rounds.specs.Rounds.{EndsGroup}
use Rattle.fk_sim_rounds.specs.Rest.{HasNoGroup}
use Rattle.fk_sim_rounds.proofs.Trees.{all_keep}
use Rattle.fk_sim_rounds.proofs.Unite.{cycles_unite}
use Rattle.fk_sim_rounds.proofs.Nearer.{cycles_come_to_start}
use Rattle.fk_sim_rounds.proofs.Cycle.{cycles_bind_again}
use Rattle.fk_sim_rounds.proofs.Rest.{around_stays, ended_groups_rest}
use Rattle.fk_sim_rounds.proofs.Groups.{many_length}
use Rattle.fk_sim_rounds.proofs.Moved.{kind_there}
use Rattle.fk_sim_rounds.specs.Beside.{AreInOrder, IsBeside}
use Rattle.fk_sim_rounds.specs.Follow.{IsFollowed}
use Rattle.fk_sim_rounds.specs.Union.{IsUnited}
use Rattle.fk_sim_rounds.specs.RestInRuns.{HaveOneHeader, IsReadyForGroup, OpeningsAreReady, CyclesStayReady, StartsStayReady}
use Rattle.fk_sim_rounds.proofs.Results.{due_do_one, is_after, is_fault}
use Rattle.fk_sim_rounds.proofs.StartsInRuns.{near_do_one}
use Rattle.fk_sim_rounds.proofs.Follow.{idle_keep}

pub openings_are_ready : OpeningsAreReady
openings_are_ready image input p tree first none = record { barrier = refl; closing = refl }

-- ---- words of nobody

none_is_there : (x : Option Node) → x ≡ None → is_some x ≡ false
none_is_there None e = refl
none_is_there (Some node) e = absurd (cc)

-- without a group no node owns the words of its header
not_owned : (tree : Tree) (spaces : ℕ → Space) (first i : ℕ) → HaveOneHeader tree spaces first → HasNoGroup tree → i < first + 8 → (g : ℕ) → owns tree spaces g i ≡ false
not_owned tree spaces first i header none lt zero =
    let within = header.within in
    ap (λ b. is_some (tree.nodes 0) && b) (from_below root_words 8 i (omega (arith, within, lt))) ∙ nobody (is_some (tree.nodes 0))
  where
    nobody : (b : Bool) → (b && false) ≡ false
    nobody true = refl
    nobody false = refl
not_owned tree spaces first i header none lt (suc g) =
    ap (λ b. b && is_from (first_of spaces (suc g)) (own_words spaces (suc g) (trees.kind tree (suc g))) i) (none_is_there (tree.nodes (suc g)) (none (suc g) (λ e. omega (arith, e))))

-- none of them counts the words asked for
not_asked : (tree : Tree) (spaces : ℕ → Space) (first i : ℕ) → HaveOneHeader tree spaces first → i < first + 8 → i ≢ asked_word
not_asked tree spaces first i header lt e = let within = header.within in omega arith

-- so nobody comes to them
still_at_rest : (first : ℕ) (before after : Memory) → ((i : ℕ) → i < first + 8 → after i ≡ before i) → IsAtRest first before → IsAtRest first after
still_at_rest first before after same rest = record {
  barrier = same (first + barrier_word) (omega arith) ∙ rest.barrier;
  closing = same (first + closing_word) (omega arith) ∙ rest.closing;
}

-- ---- a possible round is no cut

module _ (core : List CoreOp) (image : Image) (setting : Setting) (spaces : ℕ → Space) (stages : List Stage) (s : State Position) (ps : List Owner) (shared : Commons) (leads : JumpsLead core)
    (order : AreInOrder 0 s.runners) (beside : IsBeside core setting s ps shared) (ones : AllDoOne stages) (possible : is_possible (next core) setting (counts_for stages) s ≡ true) where
  no_fault : (f : Option Fault) (site : Fault) → is_none f ≡ true → f ≡ Some site → ⊥
  no_fault f site none e = false≢true (sym (ap (λ x. is_none x) e) ∙ none)

  no_cut : (words : ℕ → ℕ → Bool) (earlier : List ℕ) (hs : List Hart) (t : MachineSetting) (sh : Shared) → planned image hs ≡ counts_for stages
      → IsCut (core_source core setting) image words earlier 0 hs ps shared (turns t 0 hs sh) → ⊥
  no_cut words earlier hs t sh e c =
      let fault = is_fault core setting s ps shared leads order beside stages c.place c.site c.store ones
      (subst (λ x. FaultsAfter (core_source core setting) c.place c.site x ps shared c.store) e c.faults) in
      let after = result (next core) setting (counts_for stages) s in
      no_fault after.fault (record { site = c.site; processor = c.place })
      (and_parts (is_none s.fault && is_allowed (next core) setting (counts_for stages) s) (is_none after.fault) possible).1 fault.whole

-- ---- one cycle

module _ (core : List CoreOp) (image : Image) (places : Places) (nestings : Nestings) (setting : Setting) (spaces : ℕ → Space) (s : State Position) (nodes : List ℕ) (t : MachineSetting) (printed : List ℕ)
    (stages : List Stage) (hs : List Hart) (sh : Shared) (first : ℕ) (leads : JumpsLead core) (header : HaveOneHeader s.tree spaces first)
    (possible : is_possible (next core) setting (counts_for stages) s ≡ true) where
  abbrev control_after : Memory
  control_after = (turns t 0 hs sh).shared.control

  abbrev next_state : State Position
  next_state = result (next core) setting (counts_for stages) s

  -- where harts have met at the beginning of `start`
  pub start_is_ready : length hs < 2 ^ 31 → IsUnited core image places nestings setting spaces s nodes t printed stages hs sh → HasNoGroup s.tree → IsReadyForGroup s.tree first sh.control
      → IsAtRest first control_after
  start_is_ready few f none ready =
      let cycle = cycles_come_to_start core image places nestings setting s.tree spaces nodes t printed stages hs f.ps (λ g. sh.control) sh f.shared f.before few f.shows (λ g i own. refl) f.bound in
      let ones = near_do_one stages f.near in
      let going : (turns t 0 hs sh).stop ≡ None
      = ⊎_elim (λ r. r.whole.going)
      (λ c. absurd (no_cut core image setting spaces stages s f.ps f.shared leads f.order f.beside ones possible (plan_of s.tree spaces nodes).words printed hs t sh cycle.0 c)) cycle.1 in
      still_at_rest first sh.control control_after
      (λ i lt. unowned_words_stay core image places nestings setting (united (plan_of s.tree spaces nodes)) (first_of spaces) t printed stages hs f.ps (λ g. sh.control) sh f.shared i
      (own_apart s.tree spaces f.before.spaced) f.shows (λ g j own. refl) f.bound going (not_owned s.tree spaces first i header none lt) (not_asked s.tree spaces first i header lt))
      (ready none)

  module _ (f : IsFollowed core image places nestings setting spaces s nodes t printed stages hs sh) where
    ones : AllDoOne stages
    ones = due_do_one core s.tree spaces 0 stages (runners_of f.ps) f.before.due

    -- without a group before it nobody comes to the words
    none_comes : (turns t 0 hs sh).stop ≡ None → IsReadyForGroup s.tree first sh.control → IsReadyForGroup s.tree first control_after
    none_comes going ready none =
        still_at_rest first sh.control control_after
        (λ i lt. unowned_words_stay core image places nestings setting (plan_of s.tree spaces nodes) (first_of spaces) t printed stages hs f.ps (λ g. sh.control) sh f.shared i
        (own_apart s.tree spaces f.before.spaced) f.shows (λ g j own. refl) f.bound going (not_owned s.tree spaces first i header none lt) (not_asked s.tree spaces first i header lt))
        (ready none)

    module _ (cycles : Cycles) (firsts : List ℕ) (main : ℕ) (the_law : GroupLaw core image places nestings cycles firsts main) (few : length hs < 2 ^ 31) (ready : IsReadyForGroup s.tree first sh.control) where
      -- where all have met, the tree stays
      ready_united : SomebodyUnites stages → IsReadyForGroup next_state.tree first control_after
      ready_united some none =
          let cycle = cycles_unite core image places nestings cycles firsts main setting s.tree spaces nodes t printed stages hs f.ps (λ g. sh.control) sh f.shared the_law f.before few f.shows
          (λ g i own. refl) f.bound some in
          let x = cycle.1 in
          let whole = x.whole in
          let after = is_after core setting s f.ps f.shared leads f.order f.beside stages whole.did whole.store ones
          (subst (λ c. AllPass (core_source core setting) c f.ps f.shared whole.did whole.store) cycle.0 whole.parts) in
          let stays : tree_after s.tree whole.did ≡ s.tree = all_keep (actings whole.did) s.tree whole.did s.tree (subst AllKeep (sym x.idle) (idle_keep f.ps)) in
          none_comes whole.going ready (subst HasNoGroup (after.tree ∙ stays) none)

      ready_apart : NobodyUnites stages
          → ((did : List Doing) (shared : Commons) → AllPass (core_source core setting) (counts_for stages) f.ps f.shared did shared
          → EndsGroup s.tree did ⊎ (HasNoGroup (tree_after s.tree did) → HasNoGroup s.tree))
          → IsReadyForGroup next_state.tree first control_after
      ready_apart nobody keeps none =
          let cycle = cycles_bind_again core image places nestings cycles firsts main setting s.tree spaces nodes t printed stages hs f.ps (λ g. sh.control) sh f.shared the_law leads f.before few f.shows
          (λ g i own. refl) f.bound nobody in
          ⊎_elim
          (λ r.
          let whole = r.whole in
          let parts = subst (λ c. AllPass (core_source core setting) c f.ps f.shared whole.did whole.store) cycle.0 whole.parts in
          let after = is_after core setting s f.ps f.shared leads f.order f.beside stages whole.did whole.store ones parts in
          ⊎_elim
          (λ ends.
          let kind = ends.round.known ends.group o.End ends.ends in
          let harts = (many_length nodes (turns t 0 hs sh).harts whole.did whole.as_many).1 in
          let as_many = f.before.many in
          let root = around_stays setting.processors s.tree whole.did f.before.sound (omega (arith, harts, as_many)) ends.round ends.group o.End ends.ends refl (subst HasNoGroup after.tree none) in
          subst (λ k. IsAtRest k control_after)
          (header.same ends.group (λ e. f.before.sound.free (ap (trees.kind s.tree) (sym e) ∙ kind)) (kind_there (s.tree.nodes ends.group) Lockstep kind) root)
          (ended_groups_rest core image places nestings setting s.tree spaces nodes t stages (turns t 0 hs sh).harts f.ps whole.did (λ g. sh.control) whole.own control_after ends.round.does ends.group f.before.spaced f.before.sound
          f.before.stand f.before.many r.left whole.has (ends.round.known ends.group o.End ends.ends) ends.round.steps ends.ends))
          (λ before. none_comes whole.going ready (before (subst HasNoGroup after.tree none)))
          (keeps whole.did whole.store parts))
          (λ c. absurd (no_cut core image setting spaces stages s f.ps f.shared leads f.order f.beside ones possible (plan_of s.tree spaces nodes).words printed hs t sh cycle.0 c)) cycle.1

pub cycles_stay_ready : CyclesStayReady
cycles_stay_ready core image places nestings cycles firsts main setting spaces s nodes printed stages m first the_law leads few running with possible header keeps ready =
    let step : after_turns m (turns_of m) ≡ cycle m = ap (λ b. cond b (after_turns m (turns_of m)) m) (sym running) in
    let f = with.followed in
    let sh = unprinted m.shared in
    subst (λ n. IsReadyForGroup (result (next core) setting (counts_for stages) s).tree first n.shared.control) step
    (⊎_elim
    (λ nobody. ready_apart core image places nestings setting spaces s nodes (setting_of m) printed stages m.harts sh first leads header possible f cycles firsts main the_law few ready nobody keeps)
    (λ some. ready_united core image places nestings setting spaces s nodes (setting_of m) printed stages m.harts sh first leads header possible f cycles firsts main the_law few ready some)
    (nobody_or_somebody stages))

pub starts_stay_ready : StartsStayReady
starts_stay_ready core image places nestings setting spaces s nodes printed stages m first leads few running with possible header none ready =
    let step : after_turns m (turns_of m) ≡ cycle m = ap (λ b. cond b (after_turns m (turns_of m)) m) (sym running) in
    subst (λ n. IsAtRest first n.shared.control) step
    (start_is_ready core image places nestings setting spaces s nodes (setting_of m) printed stages m.harts (unprinted m.shared) first leads header possible few with.followed none ready)
