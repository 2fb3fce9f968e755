-- Harts have ended exactly where their processors have nothing left to do.
use Rattle.std.proofs.Common.{◌≡◌, ℕ, zero, suc, List, [], ◌∷◌, Some, None, Bool, true, false, cond, ◌&&◌, sym, ap, ap₂, subst, ◌∙◌, refl, arith, eq-eqb}
use Rattle.std.specs.Prelude.{◌==◌, map, is_none}
use Rattle.fk_num.specs.Word.{Memory}
use Rattle.fk_space.specs.Space.{Space}
use Rattle.fk_tree.specs.Tree.{Tree}
use Rattle.fk_meaning.specs.Processor.{Setting}
use Rattle.fk_meaning.specs.Round.{Runner}
use Rattle.fk_meaning.specs.Schedule.{all_done}
use Rattle.fk_core.specs.declared.op.CoreOp.{CoreOp}
use Rattle.fk_core.specs.Next.{Position, next}
use Rattle.fk_image.specs.declared.Image.{Image}
use Rattle.fk_machine.specs.Hart.{Hart, Setting as MachineSetting}
use Rattle.fk_machine.specs.Cycle.{all_ended}
use Rattle.fk_machine.specs.Run.{count_of}
use Rattle.fk_sim_nodes.specs.Node.{Member, Words, numbered, add, of_node, AreAsMany}
use Rattle.fk_sim_nodes.specs.Source.{Source}
use Rattle.fk_sim_nodes.specs.Chain.{runs}
use Rattle.fk_sim_nodes.specs.Alone.{NodeCycle}
use Rattle.fk_sim_nodes.specs.Together.{AllCount, Together}
use Rattle.fk_sim_match.specs.Stage.{Stage, Ended, Acts, Meets}
use Rattle.fk_sim_match.specs.Plan.{Plan, Blocks, StandsAt, AllStandAt, AllAct, Binds, JointBlocksTurn}
use Rattle.fk_sim_block.specs.Owner.{core_source}
use Rattle.fk_sim_match.specs.Nodes.{first_of, plan_of}
use Rattle.fk_sim_match.specs.Behind.{joining_blocks_of}
use Rattle.fk_sim_match.specs.Rounds.{AllDue}
use Rattle.fk_sim_match.proofs.Joining.{joins_bound}
use Rattle.fk_sim_match.proofs.Meeters.{meeters_turn}
use Rattle.fk_sim_rounds.specs.Next.{JumpsLead}
use Rattle.fk_sim_rounds.specs.Beside.{landed_runner}
use Rattle.fk_sim_rounds.specs.Follow.{HartsEndWithProcessors}
use Rattle.fk_sim_rounds.proofs.Landed.{next_landed}

-- by its stage
abbrev IsLive : Stage → Hart → Type 0
IsLive Ended h = h.ended ≡ true
IsLive (Acts d inner) h = h.ended ≡ false
IsLive (Meets e w f) h = h.ended ≡ false

abbrev AllLive : List Stage → List Member → Type 0
AllLive [] [] = Unit {0}
AllLive (s ∷ stages) (m ∷ ms) = IsLive s m.hart × AllLive stages ms
AllLive stages ms = ⊥

abbrev pub NoneEnded : List Member → Type 0
NoneEnded [] = Unit {0}
NoneEnded (m ∷ ms) = (m.hart.ended ≡ false) × NoneEnded ms

-- who runs a commit has not ended
counted_live : (image : Image) (inner : ℕ) (h : Hart) (b : Bool) → h.ended ≡ b → count_of image (runs h) ≡ suc inner → h.ended ≡ false
counted_live image inner h false e counted = e
counted_live image inner h true e counted =
    let none : count_of image (runs h) ≡ 0 = ap (λ b. count_of image (cond b None (Some h.pc))) e in absurd (let f = sym none ∙ counted in omega (arith, f))

all_counted : (image : Image) (inner : ℕ) (ms : List Member) → AllCount image (suc inner) ms → NoneEnded ms
all_counted image inner [] counted = tt
all_counted image inner (m ∷ ms) counted = (counted_live image inner m.hart m.hart.ended refl counted.0, all_counted image inner ms counted.1)

cycle_live : (image : Image) (mine : Words) (t : MachineSetting) (ms : List Member) (own : Memory) (Then : List Member → Memory → Type 0) → NodeCycle image mine t 0 ms own Then → NoneEnded ms
cycle_live image mine t [] own Then x = tt
cycle_live image mine t (m ∷ ms) own Then x = (x.2.live, cycle_live image mine t ms x.1 (λ ms' own'. Then (record m { hart = x.0 } ∷ ms') own') x.3)

module _ {S P D : Type 0} (source : Source S P D) (image : Image) (plan : Plan) (blocks : Blocks P D) where
  pub together_live : (mine : Words) (t : MachineSetting) (inner d : ℕ) (ms : List Member) (ps : List P) (own : Memory) (Then : List Member → List D → Memory → Type 0) → Together source image mine t (suc inner) d ms ps own Then
      → NoneEnded ms
  together_live mine t inner zero ms ps own Then x = all_counted image inner ms x.counted
  together_live mine t inner (suc d) ms ps own Then x = cycle_live image mine t ms own _ x

  act_live : (d inner : ℕ) (stages : List Stage) (ms : List Member) (ps : List P) → AllAct source image plan blocks d inner stages ms ps → NoneEnded ms → AllLive stages ms
  act_live d inner [] [] [] all live = tt
  act_live d inner (s ∷ stages) (m ∷ ms) (p ∷ ps) all live = (subst (λ x. IsLive x m.hart) (sym all.0) live.0, act_live d inner stages ms ps all.1 live.1)
  act_live d inner stages ms ps all live = absurd (assumption all)

  stands_live : (t : MachineSetting) (g : ℕ) (s : Stage) (m : Member) (p : P) → JointBlocksTurn source image plan blocks → StandsAt source image plan blocks t g s m p → IsLive s m.hart
  stands_live t g Ended m p joint stands = stands
  stands_live t g (Acts zero inner) m p joint stands = let l = stands.1 in ap (λ h. h.ended) l.runs ∙ l.commits.live
  stands_live t g (Acts (suc d) inner) m p joint stands = let l = stands.1 in l.runs.1.live
  stands_live t g (Meets e w f) m p joint stands = (joint t g e w f m p (λ i. 0) stands.0 stands.1 stands.3).stays.live

  all_stand_live : (t : MachineSetting) (g : ℕ) (stages : List Stage) (ms : List Member) (ps : List P) → JointBlocksTurn source image plan blocks → AllStandAt source image plan blocks t g stages ms ps → AllLive stages ms
  all_stand_live t g [] [] [] joint all = tt
  all_stand_live t g (s ∷ stages) (m ∷ ms) (p ∷ ps) joint all = (stands_live t g s m p joint all.0, all_stand_live t g stages ms ps joint all.1)
  all_stand_live t g stages ms ps joint all = absurd (assumption all)

  node_live : (b : Bool) (t : MachineSetting) (g : ℕ) (stages : List Stage) (ms : List Member) (ps : List P) (own : Memory) → JointBlocksTurn source image plan blocks → Binds source image plan blocks b t g stages ms ps own
      → AllLive stages ms
  node_live true t g stages ms ps own joint x = act_live x.distance x.inner stages ms ps x.alike (together_live (plan.words g) t x.inner x.distance ms ps own _ x.together)
  node_live false t g stages ms ps own joint x = all_stand_live t g stages ms ps joint x

-- ---- all harts

abbrev HartsLive : List Stage → List Hart → Type 0
HartsLive [] [] = Unit {0}
HartsLive (s ∷ stages) (h ∷ hs) = IsLive s h × HartsLive stages hs
HartsLive stages hs = ⊥

tail_live : (b : Bool) (s : Stage) (stages : List Stage) (m : Member) (ms : List Member) → AllLive (add b s stages) (add b m ms) → AllLive stages ms
tail_live true s stages m ms x = x.1
tail_live false s stages m ms x = x

harts_live : (number : ℕ) (ns : List ℕ) (stages : List Stage) (hs : List Hart) → AreAsMany ns hs stages → ((g : ℕ) → AllLive (of_node g ns stages) (of_node g ns (numbered number hs))) → HartsLive stages hs
harts_live number [] [] [] many live = tt
harts_live number (n ∷ ns) (s ∷ stages) (h ∷ hs) many live =
    let m : Member = record { number = number; hart = h } in
    let here = subst (λ b. AllLive (add b s (of_node n ns stages)) (add b m (of_node n ns (numbered (suc number) hs)))) (eq-eqb n n refl) (live n) in
    (here.0, harts_live (suc number) ns stages hs many (λ g. tail_live (n == g) s (of_node g ns stages) m (of_node g ns (numbered (suc number) hs)) (live g)))
harts_live number ns stages [] many live = absurd (assumption many)
harts_live number ns stages (h ∷ hs) many live = absurd (assumption many)

module _ (core : List CoreOp) (setting : Setting) (leads : JumpsLead core) (tree : Tree) (spaces : ℕ → Space) where
  ended_done : (number : ℕ) (stages : List Stage) (hs : List Hart) (rs : List (Runner Position)) → HartsLive stages hs → AllDue core tree spaces number stages (map (landed_runner core) rs)
      → all_ended hs ≡ all_done (next core) setting rs
  ended_done number [] [] [] live due = refl
  ended_done number (Ended ∷ stages) (h ∷ hs) (r ∷ rs) live due =
      ap₂ ◌&&◌ (live.0 ∙ ap is_none (sym (sym (next_landed core leads r.left) ∙ due.1))) (ended_done (suc number) stages hs rs live.1 due.2)
  ended_done number (Acts d inner ∷ stages) (h ∷ hs) (r ∷ rs) live due =
      ap₂ ◌&&◌ (live.0 ∙ ap is_none (sym (sym (next_landed core leads r.left) ∙ due.1.next_is))) (ended_done (suc number) stages hs rs live.1 due.2)
  ended_done number (Meets e w f ∷ stages) (h ∷ hs) (r ∷ rs) live due =
      ap₂ ◌&&◌ (live.0 ∙ ap is_none (sym (sym (next_landed core leads r.left) ∙ due.1.1.next_is))) (ended_done (suc number) stages hs rs live.1 due.2)
  ended_done number stages hs rs live due = absurd (assumption (live, due))

pub harts_end_with_processors : HartsEndWithProcessors
harts_end_with_processors core image places nestings setting spaces s nodes t printed stages hs sh leads f =
    let plan = plan_of s.tree spaces nodes in
    let blocks = joining_blocks_of core image places nestings setting plan (first_of spaces) in
    let bound = joins_bound core image places nestings setting plan (first_of spaces) t stages hs f.ps (λ g. sh.control) f.bound in
    let source = core_source core setting in
    let joint = meeters_turn core image places nestings setting plan (first_of spaces) in
    ended_done core setting leads s.tree spaces 0 stages hs s.runners
    (harts_live 0 nodes stages hs bound.stages_as_many
    (λ g. node_live source image plan blocks (plan.in_lockstep g) t g (of_node g nodes stages) (of_node g nodes (numbered 0 hs)) (of_node g nodes f.ps) sh.control joint (bound.binds g)))
    (subst (AllDue core s.tree spaces 0 stages) f.beside.runners f.before.due)
