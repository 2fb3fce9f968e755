-- After each known round all are bound again, whatever the members of its nodes do.
use Rattle.std.proofs.Common.{◌≡◌, ℕ, zero, suc, ◌^◌, ◌<◌, List, length, Option, Some, None, Bool, true, false, sym, ap, subst, ◌∙◌, refl, ◌⊎◌, inl, inr, ⊎_elim}
use Rattle.std.specs.Prelude.{◌||◌, nat_le, is_some}
use Rattle.std.proofs.lemmas.Bool.{leb-true, or_cases, false≢true}
use Rattle.fk_num.specs.Word.{Memory}
use Rattle.fk_space.specs.Space.{Space}
use Rattle.fk_tree.specs.declared.node.Kind.TheVariants.{Lockstep, Waiting, Asynchronous}
use Rattle.fk_tree.specs.Tree as trees
use Rattle.fk_tree.specs.Tree.{Tree, Node, kind_of, turned}
use Rattle.fk_meaning_operation.specs.declared.operation.Operation.{Operation}
use Rattle.fk_meaning_operation.specs.declared.operation.Operation.TheVariants as o
use Rattle.fk_meaning.specs.Processor.{Setting}
use Rattle.fk_core.specs.declared.op.CoreOp.{CoreOp}
use Rattle.fk_image.specs.declared.Image.{Image}
use Rattle.fk_machine.specs.Hart.{Hart, Setting as MachineSetting}
use Rattle.fk_sim_nodes.specs.Node.{Member, numbered, of_node, Has}
use Rattle.fk_sim_nodes.specs.Alone.{later}
use Rattle.fk_sim_match.specs.Stage.{Stage}
use Rattle.fk_sim_match.specs.Plan.{Plan, Blocks, IsOpen, IsBound}
use Rattle.fk_sim_match.specs.Cycle.{IsLeft}
use Rattle.fk_sim_match.specs.Change.{HasSame, MeetingStays, MeetingOpens}
use Rattle.fk_sim_match.proofs.Changes.{plan_goes_on}
use Rattle.fk_sim_match.proofs.Rounds.{not_none, lockstep_kind}
use Rattle.fk_sim_block.specs.Owner.{Owner, Doing, core_source}
use Rattle.fk_sim_block.specs.Stands.{Places}
use Rattle.fk_sim_block.specs.Node.{Nestings}
use Rattle.fk_sim_block.specs.Law.{Cycles, GroupLaw}
use Rattle.fk_sim_match.specs.Nodes.{first_of, is_lockstep, plan_of}
use Rattle.fk_sim_match.specs.Behind.{blocks_of}
use Rattle.fk_sim_rounds.specs.Next.{JumpsLead, all_landed}
use Rattle.fk_sim_rounds.specs.After.{actings, tree_after, owner_after, owners_after, ArePlaces, AllGoOn, GroupsGoOn, BindsAgain}
use Rattle.fk_sim_rounds.specs.Rounds.{IsBefore, IsTree, StepIsKnown, IsKnownRound, RoundsBindAgain}
use Rattle.fk_sim_rounds.proofs.Groups.{many_length}
use Rattle.fk_sim_rounds.proofs.Harts.{AllAre, LockLeft, HartsGo}
use Rattle.fk_sim_rounds.proofs.Moved.{kind_there, TreeMoves}
use Rattle.fk_sim_rounds.proofs.Same.{own_there}
use Rattle.fk_sim_rounds.proofs.TreeAfter as after
use Rattle.fk_sim_rounds.proofs.TreeAfter.{moves_some, some_move}
use Rattle.fk_sim_rounds.proofs.Changed.{Here, Steps, Nothing, running, At, AnyGoes, AtNode, near, all, bound}
use Rattle.fk_sim_rounds.proofs.Acted.{Both, both_are, both_there, spread}
use Rattle.fk_sim_rounds.proofs.Resume.{resumes_each, resumed_stays}
use Rattle.fk_sim_rounds.proofs.Close.{at_group, closes_each}
use Rattle.fk_sim_rounds.proofs.Apart.{GoesApart, own_apart, apart_left, apart_each, opens}
use Rattle.fk_sim_rounds.proofs.Moves.{own_moved, moved_left, moved_each, part_begins, loop_goes_on, split_opens, end_has_none, loop_has_none}

turned_free : (x : Option Node) (alone : Bool) → is_lockstep (kind_of (turned (Asynchronous alone) x)) ≡ false
turned_free None alone = refl
turned_free (Some node) alone = refl

turned_lock : (x : Option Node) → is_some x ≡ true → is_lockstep (kind_of (turned Lockstep x)) ≡ true
turned_lock None is = absurd (false≢true is)
turned_lock (Some node) is = refl

some_by : (x : Option Operation) → is_some x ≡ true → (operation : Operation) × (x ≡ Some operation)
some_by None is = absurd (false≢true is)
some_by (Some operation) is = (operation, refl)

module _ (core : List CoreOp) (image : Image) (places : Places) (nestings : Nestings) (cycles : Cycles) (firsts : List ℕ) (main : ℕ) (setting : Setting) (old : Tree) (spaces : ℕ → Space) (nodes nodes' : List ℕ)
    (t : MachineSetting) (stages : List Stage) (earlier hs : List Hart) (ps : List Owner) (ds : List Doing) (own own' : ℕ → Memory) (control : Memory)
    (the_law : GroupLaw core image places nestings cycles firsts main) (leads : JumpsLead core) (before : IsBefore core image setting old spaces nodes t stages hs ps)
    (few : length earlier < 2 ^ 31)
    (binds : IsBound (core_source core setting) image (plan_of old spaces nodes) (blocks_of core image places nestings setting (plan_of old spaces nodes) (first_of spaces)) t stages earlier ps own)
    (left : IsLeft (core_source core setting) image (plan_of old spaces nodes) (blocks_of core image places nestings setting (plan_of old spaces nodes) (first_of spaces)) t stages hs ps ds own own')
    (has : (g : ℕ) → Has ((plan_of old spaces nodes).words g) control (own' g)) (round : IsKnownRound old ds) (behind : IsTree setting (tree_after old ds) spaces)
    (there : ArePlaces (tree_after old ds) 0 nodes') (many' : length nodes' ≡ length nodes)
    (on : AllGoOn core nestings setting (tree_after old ds) spaces 0 left.afters ds (owners_after old (tree_after old ds) ds))
    (next : GroupsGoOn core nestings (tree_after old ds) nodes' left.afters (owners_after old (tree_after old ds) ds)) where
  abbrev new : Tree
  new = tree_after old ds

  abbrev plan : Plan
  plan = plan_of old spaces nodes

  abbrev blocks : Blocks Owner Doing
  blocks = blocks_of core image places nestings setting (plan_of old spaces nodes) (first_of spaces)

  abbrev plan' : Plan
  plan' = plan_of (tree_after old ds) spaces nodes'

  abbrev blocks' : Blocks Owner Doing
  blocks' = blocks_of core image places nestings setting (plan_of (tree_after old ds) spaces nodes') (first_of spaces)

  abbrev settle : Doing → Owner
  settle d = owner_after (actings ds) old (tree_after old ds) d

  long : length ds ≡ setting.processors
  long = sym (many_length nodes hs ds left.done_as_many).1 ∙ before.many

  move : TreeMoves old (tree_after old ds) setting.processors round.does nodes nodes' (λ k. is_some (round.does k) || nat_le old.given k)
  move = after.tree_moves setting.processors old before.sound ds round long nodes nodes' before.stand there before.many many'

  -- where a step moves nobody all stay
  stay : (g : ℕ) (operation : Operation) → round.does g ≡ Some operation → moves_some operation ≡ false → (h : ℕ) → h < setting.processors → old.places h ≡ g → (tree_after old ds).places h ≡ g
  stay g operation is ne h lt at =
      after.stays_there setting.processors old before.sound ds round long h (ap (λ k. some_move (round.does k)) at ∙ ap some_move is ∙ ne) ∙ at

  alike : (g : ℕ) (operation : Operation) → round.does g ≡ Some operation → moves_some operation ≡ false → HasSame g nodes nodes'
  alike = after.alike setting.processors old before.sound ds round long nodes nodes' before.stand there before.many many'

  waits_there : (g : ℕ) → StepIsKnown old g o.Resume → is_some (old.nodes g) ≡ true
  waits_there g known = kind_there (old.nodes g) (Waiting known.0.0 known.0.1) known.0.2

  waits_free : (g : ℕ) → StepIsKnown old g o.Resume → is_lockstep (trees.kind old g) ≡ false
  waits_free g known = ap is_lockstep known.0.2

  body_there : (g : ℕ) → StepIsKnown old g (o.Meet true) → is_some (old.nodes g) ≡ true
  body_there g known = kind_there (old.nodes g) (Asynchronous known.0.0) known.0.1

  body_free : (g : ℕ) → StepIsKnown old g (o.Meet true) → is_lockstep (trees.kind old g) ≡ false
  body_free g known = ap is_lockstep known.0.1

  resumes : (g : ℕ) → round.does g ≡ Some o.Resume → (tree_after old ds).nodes g ≡ turned (trees.kind_after g) (old.nodes g)
  resumes = after.resumes setting.processors old before.sound ds round long

  closes : (g : ℕ) → round.does g ≡ Some (o.Meet true) → (tree_after old ds).nodes g ≡ turned Lockstep (old.nodes g)
  closes = after.closes setting.processors old before.sound ds round long

  sets_free : (g : ℕ) → round.does g ≡ Some o.Farm → (tree_after old ds).nodes g ≡ turned (Asynchronous false) (old.nodes g)
  sets_free = after.sets_free setting.processors old before.sound ds round long

  sends_one : (g : ℕ) → round.does g ≡ Some o.Seq → (tree_after old ds).nodes g ≡ turned (Asynchronous true) (old.nodes g)
  sends_one = after.sends_one setting.processors old before.sound ds round long

  ends : (g : ℕ) → round.does g ≡ Some o.End → (tree_after old ds).nodes g ≡ None
  ends = after.ends setting.processors old before.sound ds round long

  -- ---- groups that begin

  abbrev AtStep : ℕ → Type 0
  AtStep g =
      At core image places nestings cycles firsts main setting old (tree_after old ds) spaces nodes nodes' t stages hs ps ds own own' control the_law leads before left has behind.sound behind.spaced round.does round.steps (λ k. is_some (round.does k) || nat_le old.given k) move on next g

  at_resumed : (g : ℕ) → round.does g ≡ Some o.Resume → StepIsKnown old g o.Resume → plan'.in_lockstep g ≡ true → AtStep g
  at_resumed zero is known lock = absurd (behind.sound.free (lockstep_kind (trees.kind (tree_after old ds) 0) lock))
  at_resumed (suc g) is known lock =
      at_group core image places nestings cycles firsts main setting old (tree_after old ds) spaces nodes nodes' t stages earlier hs ps ds own own' control the_law leads before few binds left has behind round.does round.steps (λ k. is_some (round.does k) || nat_le old.given k) move on next
      (suc g) o.Resume is refl (waits_there (suc g) known) (waits_free (suc g) known) (resumes (suc g) is) (stay (suc g) o.Resume is refl) (alike (suc g) o.Resume is refl) lock

  at_by : (g : ℕ) (operation : Operation) → round.does g ≡ Some operation → StepIsKnown old g operation → plan'.in_lockstep g ≡ true → AtStep g
  at_by g o.Resume is known lock = at_resumed g is known lock
  at_by g (o.Meet true) is known lock =
      at_group core image places nestings cycles firsts main setting old (tree_after old ds) spaces nodes nodes' t stages earlier hs ps ds own own' control the_law leads before few binds left has behind round.does round.steps (λ k. is_some (round.does k) || nat_le old.given k) move on next
      g (o.Meet true) is refl (body_there g known) (body_free g known) (closes g is) (stay g (o.Meet true) is refl) (alike g (o.Meet true) is refl) lock
  at_by g o.Farm is known lock = absurd (false≢true (sym (ap (λ x. is_lockstep (kind_of x)) (sets_free g is) ∙ turned_free (old.nodes g) false) ∙ lock))
  at_by g o.Seq is known lock = absurd (false≢true (sym (ap (λ x. is_lockstep (kind_of x)) (sends_one g is) ∙ turned_free (old.nodes g) true) ∙ lock))
  at_by g o.End is known lock = absurd (false≢true (sym (ap (λ x. is_lockstep (kind_of x)) (ends g is)) ∙ lock))
  at_by g (o.Split by) is known lock = absurd (false≢true (sym (ap is_lockstep (after.split_kind setting.processors old before.sound ds round long g by is)) ∙ lock))
  at_by g o.Shrink is known lock =
      loop_goes_on core image places nestings cycles firsts main setting old spaces nodes nodes' t stages hs ps ds own own' control the_law leads before left has round behind there many' on next long (λ k. is_some (round.does k) || nat_le old.given k) move
      g is lock
  at_by g operation is known lock = absurd known

  at_changed : (k : ℕ) → (is_some (round.does k) || nat_le old.given k) ≡ true → plan'.in_lockstep k ≡ true → AtStep k
  at_changed k changed lock =
      ⊎_elim (λ steps. let some = some_by (round.does k) steps in at_by k some.0 some.1 (round.known k some.0 some.1) lock)
      (λ far.
      ⊎_elim
      (λ x. part_begins core image places nestings cycles firsts main setting old spaces nodes nodes' t stages hs ps ds own own' control the_law leads before left has round behind there many' on next long (λ k. is_some (round.does k) || nat_le old.given k) move k x lock)
      (λ none. absurd (false≢true (sym (ap (λ x. is_lockstep (kind_of x)) none) ∙ lock))) (after.part_or_none setting.processors old before.sound ds round long k (leb-true old.given k far)))
      (or_cases (is_some (round.does k)) (nat_le old.given k) changed)

  -- ---- groups that come to a body, divide, shrink or end

  abbrev IsLockLeft : ℕ → Type 0
  IsLockLeft g = LockLeft (of_node g nodes left.afters) (of_node g nodes ps) (of_node g nodes ds)

  lock_by : (g : ℕ) (operation : Operation) → round.does g ≡ Some operation → StepIsKnown old g operation → plan.in_lockstep g ≡ true → IsLockLeft g
  lock_by g o.Resume is known lock = absurd (false≢true (sym (waits_free g known) ∙ lock))
  lock_by g (o.Meet true) is known lock = absurd (false≢true (sym (body_free g known) ∙ lock))
  lock_by g o.Farm is known lock =
      apart_left core image places nestings cycles firsts main setting old (tree_after old ds) spaces nodes nodes' t stages hs ps ds own own' control the_law leads before left has behind round.does round.steps (λ k. is_some (round.does k) || nat_le old.given k) move on next
      g false o.Farm refl is known (sets_free g is) (stay g o.Farm is refl) (alike g o.Farm is refl)
  lock_by g o.Seq is known lock =
      apart_left core image places nestings cycles firsts main setting old (tree_after old ds) spaces nodes nodes' t stages hs ps ds own own' control the_law leads before left has behind round.does round.steps (λ k. is_some (round.does k) || nat_le old.given k) move on next
      g true o.Seq refl is known (sends_one g is) (stay g o.Seq is refl) (alike g o.Seq is refl)
  lock_by g o.End is known lock = moved_left core image places nestings cycles firsts main setting old spaces nodes nodes' t stages hs ps ds own own' control the_law leads before left has round behind there many' on next long (λ k. is_some (round.does k) || nat_le old.given k) move g o.End refl is
  lock_by g (o.Split by) is known lock = moved_left core image places nestings cycles firsts main setting old spaces nodes nodes' t stages hs ps ds own own' control the_law leads before left has round behind there many' on next long (λ k. is_some (round.does k) || nat_le old.given k) move g (o.Split by) refl is
  lock_by g o.Shrink is known lock = moved_left core image places nestings cycles firsts main setting old spaces nodes nodes' t stages hs ps ds own own' control the_law leads before left has round behind there many' on next long (λ k. is_some (round.does k) || nat_le old.given k) move g o.Shrink refl is
  lock_by g operation is known lock = absurd known

  lock_changed : (k : ℕ) → (is_some (round.does k) || nat_le old.given k) ≡ true → plan.in_lockstep k ≡ true → IsLockLeft k
  lock_changed k changed lock =
      ⊎_elim (λ steps. let some = some_by (round.does k) steps in lock_by k some.0 some.1 (round.known k some.0 some.1) lock)
      (λ far. absurd (false≢true (sym (ap (λ x. is_lockstep (kind_of x)) (before.sound.numbered k (leb-true old.given k far))) ∙ lock)))
      (or_cases (is_some (round.does k)) (nat_le old.given k) changed)

  -- ---- how each goes on who stood at a node that steps

  abbrev ByItself : Member → Doing → Type 0
  ByItself m d =
      plan'.in_lockstep ((tree_after old ds).places m.number) ≡ false
      → GoesApart image places nestings setting (later t) plan' (first_of spaces ((tree_after old ds).places m.number)) settle m d

  abbrev OwnBy : Option Operation → (g : ℕ) → Member → Doing → Type 0
  OwnBy (Some o.Farm) g = GoesApart image places nestings setting (later t) plan' (first_of spaces g) settle
  OwnBy (Some o.Seq) g = GoesApart image places nestings setting (later t) plan' (first_of spaces g) settle
  OwnBy (Some o.End) g = ByItself
  OwnBy (Some (o.Split by)) g = ByItself
  OwnBy (Some o.Shrink) g = ByItself
  OwnBy does g = Nothing

  abbrev Own : Member → Doing → Type 0
  Own m d = OwnBy (round.does (old.places m.number)) (old.places m.number) m d

  own_by : (g : ℕ) (operation : Operation) → round.does g ≡ Some operation → StepIsKnown old g operation → Both (OwnBy (Some operation) g) (of_node g nodes (numbered 0 hs)) (of_node g nodes ds)
  own_by g o.Resume is known = both_there g 0 nodes hs ds left.done_as_many
  own_by g (o.Meet true) is known = both_there g 0 nodes hs ds left.done_as_many
  own_by g o.Farm is known =
      own_apart core image places nestings cycles firsts main setting old (tree_after old ds) spaces nodes nodes' t stages hs ps ds own own' control the_law leads before left has behind round.does round.steps (λ k. is_some (round.does k) || nat_le old.given k) move on next
      g false o.Farm refl is known (sets_free g is) (stay g o.Farm is refl) (alike g o.Farm is refl)
  own_by g o.Seq is known =
      own_apart core image places nestings cycles firsts main setting old (tree_after old ds) spaces nodes nodes' t stages hs ps ds own own' control the_law leads before left has behind round.does round.steps (λ k. is_some (round.does k) || nat_le old.given k) move on next
      g true o.Seq refl is known (sends_one g is) (stay g o.Seq is refl) (alike g o.Seq is refl)
  own_by g o.End is known = own_moved core image places nestings cycles firsts main setting old spaces nodes nodes' t stages hs ps ds own own' control the_law leads before left has round behind there many' on next long (λ k. is_some (round.does k) || nat_le old.given k) move g o.End refl is
  own_by g (o.Split by) is known = own_moved core image places nestings cycles firsts main setting old spaces nodes nodes' t stages hs ps ds own own' control the_law leads before left has round behind there many' on next long (λ k. is_some (round.does k) || nat_le old.given k) move g (o.Split by) refl is
  own_by g o.Shrink is known = own_moved core image places nestings cycles firsts main setting old spaces nodes nodes' t stages hs ps ds own own' control the_law leads before left has round behind there many' on next long (λ k. is_some (round.does k) || nat_le old.given k) move g o.Shrink refl is
  own_by g operation is known = absurd known

  own_here : AllAre (Here old round.does Own) 0 hs ds
  own_here =
      spread old round.does Own 0 nodes hs ds before.stand left.done_as_many
      (λ g operation is.
      both_are (OwnBy (Some operation) g) (λ m d. old.places m.number ≡ g → Own m d)
      (λ m d own' at. subst (λ k. OwnBy (round.does k) k m d) (sym at) (subst (λ x. OwnBy x g m d) (sym is) own'))
      (of_node g nodes (numbered 0 hs)) (of_node g nodes ds) (own_by g operation is (round.known g operation is)))

  abbrev EachAt : (g : ℕ) → Operation → Type 0
  EachAt g operation =
      AtNode core image places nestings cycles firsts main setting old (tree_after old ds) spaces nodes nodes' t stages hs ps ds own own' control the_law leads before left has behind.sound behind.spaced round.does round.steps (λ k. is_some (round.does k) || nat_le old.given k) move on next at_changed lock_changed g operation (OwnBy (Some operation) g)

  resumed_each : (g : ℕ) → round.does g ≡ Some o.Resume → StepIsKnown old g o.Resume → EachAt g o.Resume
  resumed_each zero is known =
      resumes_each core image places nestings cycles firsts main setting old (tree_after old ds) spaces nodes nodes' t stages hs ps ds own own' control the_law leads before left has behind round.does round.steps (λ k. is_some (round.does k) || nat_le old.given k) move on next
      known.0.0 known.0.1 known.0.2 (resumes 0 is) (stay 0 o.Resume is refl) at_changed lock_changed
  resumed_each (suc g) is known =
      closes_each core image places nestings cycles firsts main setting old (tree_after old ds) spaces nodes nodes' t stages earlier hs ps ds own own' control the_law leads before few binds left has behind round.does round.steps (λ k. is_some (round.does k) || nat_le old.given k) move on next
      (suc g) o.Resume is refl (waits_there (suc g) known) (waits_free (suc g) known) (resumes (suc g) is) (stay (suc g) o.Resume is refl) (alike (suc g) o.Resume is refl)
      at_changed lock_changed

  each_by : (g : ℕ) (operation : Operation) → round.does g ≡ Some operation → StepIsKnown old g operation → EachAt g operation
  each_by g o.Resume is known = resumed_each g is known
  each_by g (o.Meet true) is known =
      closes_each core image places nestings cycles firsts main setting old (tree_after old ds) spaces nodes nodes' t stages earlier hs ps ds own own' control the_law leads before few binds left has behind round.does round.steps (λ k. is_some (round.does k) || nat_le old.given k) move on next
      g (o.Meet true) is refl (body_there g known) (body_free g known) (closes g is) (stay g (o.Meet true) is refl) (alike g (o.Meet true) is refl)
      at_changed lock_changed
  each_by g o.Farm is known =
      apart_each core image places nestings cycles firsts main setting old (tree_after old ds) spaces nodes nodes' t stages hs ps ds own own' control the_law leads before left has behind round.does round.steps (λ k. is_some (round.does k) || nat_le old.given k) move on next
      g false o.Farm refl is known (sets_free g is) (stay g o.Farm is refl) (alike g o.Farm is refl) at_changed lock_changed
  each_by g o.Seq is known =
      apart_each core image places nestings cycles firsts main setting old (tree_after old ds) spaces nodes nodes' t stages hs ps ds own own' control the_law leads before left has behind round.does round.steps (λ k. is_some (round.does k) || nat_le old.given k) move on next
      g true o.Seq refl is known (sends_one g is) (stay g o.Seq is refl) (alike g o.Seq is refl) at_changed lock_changed
  each_by g o.End is known = moved_each core image places nestings cycles firsts main setting old spaces nodes nodes' t stages hs ps ds own own' control the_law leads before left has round behind there many' on next long (λ k. is_some (round.does k) || nat_le old.given k) move g o.End refl is at_changed lock_changed
  each_by g (o.Split by) is known = moved_each core image places nestings cycles firsts main setting old spaces nodes nodes' t stages hs ps ds own own' control the_law leads before left has round behind there many' on next long (λ k. is_some (round.does k) || nat_le old.given k) move g (o.Split by) refl is at_changed lock_changed
  each_by g o.Shrink is known = moved_each core image places nestings cycles firsts main setting old spaces nodes nodes' t stages hs ps ds own own' control the_law leads before left has round behind there many' on next long (λ k. is_some (round.does k) || nat_le old.given k) move g o.Shrink refl is at_changed lock_changed
  each_by g operation is known = absurd known

  each_here : AnyGoes core image places nestings cycles firsts main setting old (tree_after old ds) spaces nodes nodes' t stages hs ps ds own own' control the_law leads before left has behind.sound behind.spaced round.does round.steps (λ k. is_some (round.does k) || nat_le old.given k) move on next at_changed lock_changed (Steps old round.does Own)
  each_here m p d step lt land home s0 a locks alone due remains on' =
      let g = old.places m.number in
      each_by g step.0 step.1 (round.known g step.0 step.1) m p d (refl, step.2, subst (λ x. OwnBy x g m d) step.1 step.3) lt land home s0 a locks alone due remains on'

  abbrev everybody : HartsGo core image places nestings cycles firsts main setting old (tree_after old ds) spaces nodes nodes' the_law leads behind.spaced behind.sound (later t)
      (running core image places nestings cycles firsts main setting old (tree_after old ds) spaces nodes nodes' t stages hs ps ds own own' control the_law leads before left has behind.sound behind.spaced round.does round.steps (λ k. is_some (round.does k) || nat_le old.given k) move on next) (actings ds)
      (λ k. (near core image places nestings cycles firsts main setting old (tree_after old ds) spaces nodes nodes' t stages hs ps ds own own' control the_law leads before left has behind.sound behind.spaced round.does round.steps (λ k. is_some (round.does k) || nat_le old.given k) move on next at_changed lock_changed k).distance)
      (λ k. (near core image places nestings cycles firsts main setting old (tree_after old ds) spaces nodes nodes' t stages hs ps ds own own' control the_law leads before left has behind.sound behind.spaced round.does round.steps (λ k. is_some (round.does k) || nat_le old.given k) move on next at_changed lock_changed k).soon)
      0 nodes nodes' left.afters hs ps ds
  everybody = all core image places nestings cycles firsts main setting old (tree_after old ds) spaces nodes nodes' t stages hs ps ds own own' control the_law leads before left has behind.sound behind.spaced round.does round.steps (λ k. is_some (round.does k) || nat_le old.given k) move on next at_changed lock_changed Own own_here each_here

  -- ---- words that open

  abbrev Meetings : ℕ → ℕ → Type 0
  Meetings g w =
      MeetingStays (core_source core setting) image plan blocks plan' blocks' g w
      ⊎ MeetingOpens (core_source core setting) image plan blocks plan' blocks' g w left.afters everybody.stages control

  resumed_meets : (g : ℕ) → round.does g ≡ Some o.Resume → StepIsKnown old g o.Resume → (w : ℕ) → plan'.in_lockstep g ≡ false → IsOpen plan' g w → Meetings g w
  resumed_meets zero is known w free is_open =
      inl
      (resumed_stays core image places nestings cycles firsts main setting old (tree_after old ds) spaces nodes nodes' t stages hs ps ds own own' control the_law leads before left has behind round.does round.steps (λ k. is_some (round.does k) || nat_le old.given k) move on next
      known.0.0 known.0.1 known.0.2 (resumes 0 is) (stay 0 o.Resume is refl) w is_open)
  resumed_meets (suc g) is known w free is_open =
      absurd (false≢true (sym free ∙ ap (λ x. is_lockstep (kind_of x)) (resumes (suc g) is) ∙ turned_lock (old.nodes (suc g)) (waits_there (suc g) known)))

  meets_by : (g : ℕ) (operation : Operation) → round.does g ≡ Some operation → StepIsKnown old g operation → (w : ℕ) → plan'.in_lockstep g ≡ false → IsOpen plan' g w → Meetings g w
  meets_by g o.Resume is known w free is_open = resumed_meets g is known w free is_open
  meets_by g (o.Meet true) is known w free is_open =
      absurd (false≢true (sym free ∙ ap (λ x. is_lockstep (kind_of x)) (closes g is) ∙ turned_lock (old.nodes g) (body_there g known)))
  meets_by g o.Farm is known w free is_open =
      inr
      (opens core image places nestings cycles firsts main setting old (tree_after old ds) spaces nodes nodes' t stages hs ps ds own own' control the_law leads before left has behind round.does round.steps (λ k. is_some (round.does k) || nat_le old.given k) move on next
      g false o.Farm refl is known (sets_free g is) (stay g o.Farm is refl) (alike g o.Farm is refl) everybody.stages everybody.changes w is_open)
  meets_by g o.Seq is known w free is_open =
      inr
      (opens core image places nestings cycles firsts main setting old (tree_after old ds) spaces nodes nodes' t stages hs ps ds own own' control the_law leads before left has behind round.does round.steps (λ k. is_some (round.does k) || nat_le old.given k) move on next
      g true o.Seq refl is known (sends_one g is) (stay g o.Seq is refl) (alike g o.Seq is refl) everybody.stages everybody.changes w is_open)
  meets_by g o.End is known w free is_open = absurd (end_has_none core image places nestings cycles firsts main setting old spaces nodes nodes' t stages hs ps ds own own' control the_law leads before left has round behind there many' on next long (λ k. is_some (round.does k) || nat_le old.given k) move g is w is_open)
  meets_by g o.Shrink is known w free is_open = absurd (loop_has_none core image places nestings cycles firsts main setting old spaces nodes nodes' t stages hs ps ds own own' control the_law leads before left has round behind there many' on next long (λ k. is_some (round.does k) || nat_le old.given k) move g is free w is_open)
  meets_by g (o.Split by) is known w free is_open =
      inr (split_opens core image places nestings cycles firsts main setting old spaces nodes nodes' t stages hs ps ds own own' control the_law leads before left has round behind there many' on next long (λ k. is_some (round.does k) || nat_le old.given k) move g by is everybody.stages everybody.changes w is_open)
  meets_by g operation is known w free is_open = absurd known

  meets_changed : (k : ℕ) → (is_some (round.does k) || nat_le old.given k) ≡ true → (w : ℕ) → plan'.in_lockstep k ≡ false → IsOpen plan' k w → Meetings k w
  meets_changed k changed w free is_open =
      ⊎_elim (λ steps. let some = some_by (round.does k) steps in meets_by k some.0 some.1 (round.known k some.0 some.1) w free is_open)
      (λ far.
      let some = not_none ((tree_after old ds).nodes k) (own_there (tree_after old ds) spaces k w is_open.0) in
      absurd
      (⊎_elim (λ x. false≢true (sym free ∙ ap is_lockstep (after.part_kind setting.processors old before.sound ds round long k x some))) (λ none. some none)
      (after.part_or_none setting.processors old before.sound ds round long k (leb-true old.given k far))))
      (or_cases (is_some (round.does k)) (nat_le old.given k) changed)

  pub again : BindsAgain core image places nestings setting old spaces nodes (tree_after old ds) spaces nodes' t hs left.afters ps (all_landed core (owners_after old (tree_after old ds) ds)) control
  again =
      bound core image places nestings cycles firsts main setting old (tree_after old ds) spaces nodes nodes' t stages hs ps ds own own' control the_law leads before left has behind.sound behind.spaced round.does round.steps (λ k. is_some (round.does k) || nat_le old.given k) move on next at_changed lock_changed Own own_here each_here
      meets_changed

pub rounds_bind_again : RoundsBindAgain
rounds_bind_again core image places nestings cycles firsts main setting tree spaces nodes nodes' t stages earlier hs ps ds own own' control the_law leads before few binds left has known behind there many' on next =
    let plan = plan_of tree spaces nodes in
    let new = tree_after tree ds in
    let qs = all_landed core (owners_after tree new ds) in
    let bound_again = again core image places nestings cycles firsts main setting tree spaces nodes nodes' t stages earlier hs ps ds own own' control the_law leads before few binds left has known behind there
    many' on next in
    let goes = plan_goes_on (core_source core setting) image plan (blocks_of core image places nestings setting plan (first_of spaces)) (plan_of new spaces nodes')
    (blocks_of core image places nestings setting (plan_of new spaces nodes') (first_of spaces)) t stages bound_again.stages earlier hs ps qs ds own own' control few binds left has bound_again.changes in
    record { stages' = bound_again.stages; on = record { changes = bound_again.changes; goes = goes }; due = bound_again.due; soon = bound_again.soon }
