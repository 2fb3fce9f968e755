-- What a tree that changes between two cycles must keep for its members.
use Rattle.std.specs.Prelude.{◌≡◌, ℕ, ◌+◌, ◌%◌, ◌==◌, ◌^◌, ◌<◌, List, [], ◌∷◌, length, Option, Some}
use Rattle.std.specs.Prelude.{None, true, false, ◌⊎◌}
use Rattle.fk_num.specs.Word.{Memory}
use Rattle.fk_image.specs.declared.Image.{Image}
use Rattle.fk_machine.specs.Hart.{Hart, Setting}
use Rattle.fk_sim_nodes.specs.Node.{Member, numbered, of_node, AreAsMany, Has}
use Rattle.fk_sim_nodes.specs.Source.{Source}
use Rattle.fk_sim_nodes.specs.Alone.{later, in_cycles, RunsPrivately}
use Rattle.fk_sim_nodes.specs.Phase.{Phase, Coming, AllMove, members}
use Rattle.fk_sim_match.specs.Stage.{Ending, Stage, Ended, Acts, Meets, AllNear, kept}
use Rattle.fk_sim_match.specs.Plan.{Plan, IsOpen, phases, Blocks, Tests, told_by, StandsAt}
use Rattle.fk_sim_match.specs.Plan.{InLockstep, IsBound}
use Rattle.fk_sim_match.specs.Cycle.{AllHaveCommitted, IsLeft}

-- A stage of a hart that has just committed: it has ended, is at some distance, or is on its way to
-- an arrival word.
abbrev pub IsFresh : Setting → Stage → Type 0
IsFresh t Ended = Unit {0}
IsFresh t (Acts d inner) = Unit {0}
IsFresh t (Meets e w (Coming d)) = (t.finished + d) % 2 ≡ 0
IsFresh t (Meets e w f) = ⊥

-- A node has the same members.
abbrev pub HasSame : (g : ℕ) → (nodes nodes' : List ℕ) → Type 0
HasSame g [] [] = Unit {0}
HasSame g (n ∷ ns) (n' ∷ ns') = ((n == g) ≡ (n' == g)) × HasSame g ns ns'
HasSame g ns ns' = ⊥

-- A hart in a joint block is still a member at the arrival word.
abbrev pub StaysMember : Plan → (g number : ℕ) → Stage → Type 0
StaysMember plan' g number (Meets e w f) = IsOpen plan' g w × (plan'.member w number ≡ true)
StaysMember plan' g number s = Unit {0}

-- All harts that are now in a node have just committed.
abbrev pub AllAreNew : (g : ℕ) → (nodes' : List ℕ) → List (Option Stage) → Type 0
AllAreNew g [] [] = Unit {0}
AllAreNew g (n' ∷ ns') (a ∷ afters) = ((n' == g) ≡ true → a ≡ None) × AllAreNew g ns' afters
AllAreNew g ns' afters = ⊥

-- The plan and the blocks before the change, and those after it.
module _ {S P D : Type 0} (source : Source S P D) (image : Image) (plan : Plan)
    (blocks : Blocks P D) (plan' : Plan) (blocks' : Blocks P D) where
  -- A node is what it was for those who do nothing in the cycle, each by itself.
  pub record StaysOpen (g : ℕ) : Type 0 where
    pub alone : plan.in_lockstep g ≡ false
    pub after : (behind : ℕ) (m : Member) (p : P) (d : D) → blocks.AfterOne g behind m p d
        → blocks'.AfterOne g behind m p d
    pub stands : (t : Setting) (e : Ending) (w : ℕ) (f : Phase) (m : Member) (p : P)
        → IsOpen plan' g w → blocks.StandsIn g t e w f m p → blocks'.StandsIn g t e w f m p

  -- The change for one hart. If its stage isn't over, it keeps its node, stage and processor. If it
  -- has committed, or united with others, its stage is fresh, and it is at that stage, unless its
  -- node is a group.
  abbrev pub Changes : Setting → Member → (node node' : ℕ) → Option Stage → Stage → P → P → Type 0
  Changes t m n n' (Some s) s' p p' = (n' ≡ n) × (s' ≡ s) × (p' ≡ p)
      × StaysMember plan' n' m.number s × (plan'.in_lockstep n' ≡ false → StaysOpen n')
  Changes t m n n' None s' p p' = IsFresh t s'
      × (plan'.in_lockstep n' ≡ false → StandsAt source image plan' blocks' t n' s' m p')

  abbrev pub AllChange : Setting → List Member → (nodes nodes' : List ℕ) → List (Option Stage)
      → List Stage → List P → List P → Type 0
  AllChange t [] [] [] [] [] [] [] = Unit {0}
  AllChange t (m ∷ ms) (n ∷ ns) (n' ∷ ns') (a ∷ afters) (s' ∷ stages') (p ∷ ps) (p' ∷ ps') =
      Changes t m n n' a s' p p' × AllChange t ms ns ns' afters stages' ps ps'
  AllChange t ms ns ns' afters stages' ps ps' = ⊥

  -- A group that has not committed goes on: its members and its words are the same.
  pub record GroupStays (g : ℕ) (afters : List (Option Stage)) : Type 0 where
    pub grouped : plan.in_lockstep g ≡ true
    pub busy : AllHaveCommitted (of_node g plan.nodes afters) → ⊥
    pub same : HasSame g plan.nodes plan'.nodes
    pub words : plan'.words g ≡ plan.words g
    pub after : (t : Setting) (ms : List Member) (ds : List D) (own : Memory)
        → blocks.AfterAll t g ms ds own → blocks'.AfterAll t g ms ds own

  -- Those who meet at a word of a node do so as before.
  pub record MeetingStays (g w : ℕ) : Type 0 where
    pub alone : plan.in_lockstep g ≡ false
    pub was : IsOpen plan g w
    pub size : plan'.size w ≡ plan.size w
    pub same : (number : ℕ) → plan'.member w number ≡ plan.member w number

  -- Members may meet at a word from now on: the word is 0, it has its members, and none of them was
  -- in the node before.
  pub record MeetingOpens (g w : ℕ) (afters : List (Option Stage)) (stages' : List Stage)
      (control : Memory) : Type 0 where
    pub empty : control w ≡ 0
    pub size : members (phases plan' g w (kept stages')) ≡ plan'.size w
    pub new : AllAreNew g plan'.nodes afters

  -- What the tree may do after cycle t. A group goes on or begins, bound by the new plan. A word
  -- where members meet stays as it was (`MeetingStays`), or opens.
  pub record TreeChanges (t : Setting) (hs : List Hart) (afters : List (Option Stage))
      (stages' : List Stage) (ps ps' : List P) (control : Memory) : Type 0 where
    pub as_many : AreAsMany plan'.nodes hs ps'
    pub stages_as_many : AreAsMany plan'.nodes hs stages'
    pub harts : AllChange (later t) (numbered 0 hs) plan.nodes plan'.nodes afters stages' ps ps'
    pub groups : (g : ℕ) → plan'.in_lockstep g ≡ true
        → GroupStays g afters
        ⊎ InLockstep source image plan' blocks' (later t) g (of_node g plan'.nodes stages')
        (of_node g plan'.nodes (numbered 0 hs)) (of_node g plan'.nodes ps') control
    pub meetings : (g w : ℕ) → plan'.in_lockstep g ≡ false → IsOpen plan' g w
        → MeetingStays g w ⊎ MeetingOpens g w afters stages' control

  -- The new plan binds all harts before the next cycle, each hart that had a distance is one cycle
  -- nearer, and those who go on meeting move at their word.
  pub record GoesOn (t : Setting) (stages stages' : List Stage) (hs : List Hart) (ps' : List P)
      (own : ℕ → Memory) (control : Memory) : Type 0 where
    pub bound : IsBound source image plan' blocks' (later t) stages' hs ps' (λ g. control)
    pub near : AllNear stages stages'
    pub moves : (g w : ℕ) → plan'.in_lockstep g ≡ false → MeetingStays g w
        → AllMove t.finished (plan.size w) blocks.lead (phases plan g w (kept stages)) (own g w)
        (phases plan' g w (kept stages')) (control w)

abbrev pub PlansGoOn : (S P D : Type 0) → Type 0
PlansGoOn S P D =
    (source : Source S P D) (image : Image) (plan plan' : Plan) (tests tests' : Tests P D)
    (t : Setting) (stages stages' : List Stage) (hs hs' : List Hart)
    (ps ps' : List P) (ds : List D) (own own' : ℕ → Memory) (control : Memory)
    → length hs < 2 ^ 31 → IsBound source image plan (told_by tests) t stages hs ps own
    → (left : IsLeft source image plan (told_by tests) t stages hs' ps ds own own')
    → ((g : ℕ) → Has (plan.words g) control (own' g))
    → TreeChanges source image plan (told_by tests) plan'
    (told_by tests') t hs' left.afters stages' ps ps' control
    → GoesOn source image plan (told_by tests) plan'
    (told_by tests') t stages stages' hs' ps' own control

-- A hart that comes in some number of private instructions to a place at a distance from its commit
-- is now as far from it as both together.
abbrev pub RunsLeadToStages : (S P D : Type 0) → Type 0
RunsLeadToStages S P D =
    (source : Source S P D) (image : Image) (plan : Plan) (tests : Tests P D) (t : Setting)
    (g cycles d inner : ℕ) (m : Member) (hart : Hart) (p : P)
    → RunsPrivately image t m.number cycles m.hart hart
    → StandsAt source image plan (told_by tests) (in_cycles cycles t) g (Acts d inner)
    (record m { hart = hart }) p
    → StandsAt source image plan (told_by tests) t g (Acts (cycles + d) inner) m p
