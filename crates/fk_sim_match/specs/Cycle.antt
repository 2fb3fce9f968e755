-- One cycle of a machine whose nodes are bound by a plan.
use Rattle.std.specs.Prelude.{◌≡◌, ℕ, zero, suc, ◌^◌, ◌<◌, List, [], ◌∷◌, length, Option, Some}
use Rattle.std.specs.Prelude.{None, Bool, true, false, map, ◌⊎◌}
use Rattle.fk_num.specs.Word.{Memory}
use Rattle.fk_image.specs.declared.Image.{Image}
use Rattle.fk_machine.specs.Hart.{Hart, Shared, Setting}
use Rattle.fk_machine.specs.Cycle.{turns}
use Rattle.fk_sim_nodes.specs.Node.{Member, numbered, of_node, AreAsMany, Has, AreApart, OwnApart}
use Rattle.fk_sim_nodes.specs.Source.{Source, Shows}
use Rattle.fk_sim_nodes.specs.Chain.{Chain}
use Rattle.fk_sim_nodes.specs.Alone.{later, in_cycles}
use Rattle.fk_sim_nodes.specs.Together.{Together}
use Rattle.fk_sim_nodes.specs.Whole.{planned, IsRound}
use Rattle.fk_sim_nodes.specs.Phase.{Leaving, AllMove}
use Rattle.fk_sim_nodes.specs.Meeting.{IsKept}
use Rattle.fk_sim_match.specs.Stage.{Stage, Acts, Meets, Pairwise, Remains, counts_for, kept}
use Rattle.fk_sim_match.specs.Plan.{Plan, IsOpen, phases, phases_of, Blocks, Tests, told_by, IsIdle}
use Rattle.fk_sim_match.specs.Plan.{HasCommitted, HasUnited, HasLeft, StandsAt, AllStandAt}
use Rattle.fk_sim_match.specs.Plan.{JointBlocksTurn, IsBound}

-- The stages of all members are over (all have committed or united), or all keep a stage.
abbrev pub AllHaveCommitted : List (Option Stage) → Type 0
AllHaveCommitted [] = Unit {0}
AllHaveCommitted (a ∷ afters) = (a ≡ None) × AllHaveCommitted afters

abbrev pub AllKeep : Stage → List (Option Stage) → Type 0
AllKeep s [] = Unit {0}
AllKeep s (a ∷ afters) = (a ≡ Some s) × AllKeep s afters

module _ {S P D : Type 0} (source : Source S P D) (image : Image) (plan : Plan)
    (blocks : Blocks P D) where
  -- What becomes of a member by itself in a cycle: it has committed or united with others, or it
  -- has done nothing and is at a stage.
  abbrev pub Went : Setting → (g : ℕ) → Option Stage → Member → P → D → Type 0
  Went t g None m p d = HasCommitted source image plan blocks t g m p d
      ⊎ HasUnited source image plan blocks t g m p d
  Went t g (Some s) m p d = (d ≡ blocks.idle p) × StandsAt source image plan blocks t g s m p

  -- A member whose stage is over leaves it as the stage tells.
  abbrev pub Leaves : Setting → (g : ℕ) → Stage → Member → P → D → Type 0
  Leaves t g (Acts zero inner) m p d = HasCommitted source image plan blocks t g m p d
  Leaves t g (Meets e w (Leaving zero)) m p d = HasLeft source image plan blocks e t g m p d
  Leaves t g s m p d = Unit {0}

  abbrev pub AllLeave : Setting → (g : ℕ) → List Stage → List Member → List P → List D → Type 0
  AllLeave t g [] [] [] [] = Unit {0}
  AllLeave t g (s ∷ stages) (m ∷ ms) (p ∷ ps) (d ∷ ds) = Leaves t g s m p d
      × AllLeave t g stages ms ps ds
  AllLeave t g stages ms ps ds = ⊥

  -- What becomes of the members of a node, each by itself.
  abbrev pub AllWent : Setting → (g : ℕ) → List Stage → List (Option Stage) → List Member → List P
      → List D → Type 0
  AllWent t g [] [] [] [] [] = Unit {0}
  AllWent t g (s ∷ stages) (a ∷ afters) (m ∷ ms) (p ∷ ps) (d ∷ ds) = Remains s a × Went t g a m p d
      × AllWent t g stages afters ms ps ds
  AllWent t g stages afters ms ps ds = ⊥

  -- The members have moved at each arrival word, one after another, and no other word of the node
  -- has changed.
  pub record HaveMoved (t : Setting) (g : ℕ) (stages : List Stage) (ps : List P) (own : Memory)
      (ms' : List Member) (ds : List D) (own' : Memory) : Type 0 where
    pub afters : List (Option Stage)
    pub went : AllWent (later t) g stages afters ms' ps ds
    pub leave : AllLeave (later t) g stages ms' ps ds
    pub moves : (w : ℕ) → IsOpen plan g w
        → AllMove t.finished (plan.size w) blocks.lead (phases_of plan w ms' (kept stages)) (own w)
        (phases_of plan w ms' afters) (own' w)
    pub others : (i : ℕ) → plan.arrivals i ≡ false → own' i ≡ own i

  -- A group has committed, or it has done nothing and is one cycle nearer to its commit.
  abbrev pub GroupDone : Setting → (g inner d : ℕ) → List P → List Member → List D → Memory
      → Type 0
  GroupDone t g inner zero ps ms' ds own' = blocks.AfterAll t g ms' ds own'
  GroupDone t g inner (suc d) ps ms' ds own' =
      (ds ≡ map blocks.idle ps) × Together source image (plan.words g) t (suc inner) d ms' ps own'
      (blocks.AfterAll (later (in_cycles d t)) g)

  abbrev pub AllActIn : (d inner : ℕ) → List Stage → Type 0
  AllActIn d inner [] = Unit {0}
  AllActIn d inner (s ∷ stages) = (s ≡ Acts d inner) × AllActIn d inner stages

  -- What a cycle makes of a node.
  abbrev pub Done : (in_lockstep : Bool) → Setting → (g : ℕ) → List Stage → List P → Memory
      → List Member → List D → Memory → Type 0
  Done true t g stages ps own ms' ds own' = (d : ℕ) × (inner : ℕ) × AllActIn d inner stages
      × GroupDone (later t) g inner d ps ms' ds own'
  Done false t g stages ps own ms' ds own' = HaveMoved t g stages ps own ms' ds own'

  -- What a cycle makes of each node of the plan.
  abbrev pub DoneIn : Setting → List Stage → List P → (ℕ → Memory) → ℕ → List Member → List D
      → Memory → Type 0
  DoneIn t stages ps own g ms' ds own' =
      Done (plan.in_lockstep g) t g (of_node g plan.nodes stages) (of_node g plan.nodes ps)
      (own g) ms' ds own'

  -- What a cycle without a fault leaves of a node. Each member has kept a stage or committed. A
  -- group has committed, or has done nothing and is at a distance.
  abbrev pub GroupIsLeft : Setting → (g : ℕ) → List (Option Stage) → List Member → List P → List D
      → Memory → Type 0
  GroupIsLeft t g afters ms ps ds own =
      (AllHaveCommitted afters × blocks.AfterAll t g ms ds own)
      ⊎ ((d : ℕ) × (inner : ℕ) × AllKeep (Acts d inner) afters × (ds ≡ map blocks.idle ps)
      × Together source image (plan.words g) t (suc inner) d ms ps own
      (blocks.AfterAll (later (in_cycles d t)) g))

  abbrev pub AllAreLeft : Setting → (g : ℕ) → List (Option Stage) → List Member → List P
      → List D → Type 0
  AllAreLeft t g [] [] [] [] = Unit {0}
  AllAreLeft t g (a ∷ afters) (m ∷ ms) (p ∷ ps) (d ∷ ds) = Went t g a m p d
      × AllAreLeft t g afters ms ps ds
  AllAreLeft t g afters ms ps ds = ⊥

  abbrev pub NodeIsLeft : (in_lockstep : Bool) → Setting → (g : ℕ) → List (Option Stage)
      → List Member → List P → List D → Memory → Type 0
  NodeIsLeft true t g afters ms ps ds own = GroupIsLeft t g afters ms ps ds own
  NodeIsLeft false t g afters ms ps ds own = AllAreLeft t g afters ms ps ds

  -- At an arrival word of a node all harts have moved.
  abbrev pub HaveMovedAt : Setting → (g word : ℕ) → List Stage → List (Option Stage)
      → (own own' : Memory) → Type 0
  HaveMovedAt t g w stages afters own own' =
      plan.in_lockstep g ≡ false → IsOpen plan g w
      → AllMove t.finished (plan.size w) blocks.lead (phases plan g w (kept stages)) (own w)
      (phases plan g w afters) (own' w)

  -- What a cycle without a fault leaves of all harts and nodes.
  pub record IsLeft (t : Setting) (stages : List Stage) (hs' : List Hart) (ps : List P)
      (ds : List D) (own own' : ℕ → Memory) : Type 0 where
    pub afters : List (Option Stage)
    pub as_many : AreAsMany plan.nodes hs' afters
    pub done_as_many : AreAsMany plan.nodes hs' ds
    pub stay : Pairwise Remains stages afters
    pub nodes : (g : ℕ)
        → NodeIsLeft (plan.in_lockstep g) (later t) g (of_node g plan.nodes afters)
        (of_node g plan.nodes (numbered 0 hs')) (of_node g plan.nodes ps)
        (of_node g plan.nodes ds) (own' g)
    pub leave : (g : ℕ) → plan.in_lockstep g ≡ false
        → AllLeave (later t) g (of_node g plan.nodes stages) (of_node g plan.nodes (numbered 0 hs'))
        (of_node g plan.nodes ps) (of_node g plan.nodes ds)
    pub moved : (g w : ℕ) → HaveMovedAt t g w stages afters (own g) (own' g)
    pub others : (g i : ℕ) → plan.in_lockstep g ≡ false → plan.arrivals i ≡ false
        → own' g i ≡ own g i

-- Where the plan binds all nodes, the cycle is a round of the counts that the stages tell, or one
-- up to its first fault, and each node has done what binds it.
pub record IsPlanned {S P D : Type 0} (source : Source S P D) (image : Image) (plan : Plan)
    (blocks : Blocks P D) (t : Setting) (earlier : List ℕ) (stages : List Stage) (hs : List Hart)
    (ps : List P) (own : ℕ → Memory) (sh : Shared) (s : S) : Type 0 where
  pub counts : planned image hs ≡ counts_for stages
  pub round : IsRound source image plan.words (DoneIn source image plan blocks t stages ps own)
      earlier 0 plan.nodes hs ps s (turns t 0 hs sh)

abbrev pub CyclesArePlanned : (S P D : Type 0) → Type 0
CyclesArePlanned S P D =
    (source : Source S P D) (image : Image) (plan : Plan) (tests : Tests P D) (t : Setting)
    (earlier : List ℕ) (stages : List Stage) (hs : List Hart) (ps : List P)
    (own : ℕ → Memory) (sh : Shared) (s : S)
    → IsIdle source tests.idle → JointBlocksTurn source image plan (told_by tests)
    → OwnApart plan.words source.common
    → Shows source earlier sh s → ((g : ℕ) → Has (plan.words g) sh.control (own g))
    → IsBound source image plan (told_by tests) t stages hs ps own
    → IsPlanned source image plan (told_by tests) t earlier stages hs ps own sh s

-- A node whose members are each at a stage by themselves, some between joint operations and some in
-- joint blocks, has a chain in which they move at its arrival words.
abbrev pub StagesAreChains : (S P D : Type 0) → Type 0
StagesAreChains S P D =
    (source : Source S P D) (image : Image) (plan : Plan) (tests : Tests P D) (t : Setting) (g : ℕ)
    (stages : List Stage) (ms : List Member) (ps : List P) (own : Memory)
    → IsIdle source tests.idle → JointBlocksTurn source image plan (told_by tests)
    → AreApart (plan.words g) source.common
    → AllStandAt source image plan (told_by tests) t g stages ms ps
    → Chain source image (plan.words g) t ms ps own
    (HaveMoved source image plan (told_by tests) t g stages ps own)

-- What nodes have done in a whole cycle, hart by hart.
abbrev pub CyclesLeave : (S P D : Type 0) → Type 0
CyclesLeave S P D =
    (source : Source S P D) (image : Image) (plan : Plan) (tests : Tests P D) (t : Setting)
    (stages : List Stage) (hs hs' : List Hart) (ps : List P) (ds : List D)
    (own own' : ℕ → Memory)
    → IsBound source image plan (told_by tests) t stages hs ps own → AreAsMany plan.nodes hs' ds
    → ((g : ℕ) → DoneIn source image plan (told_by tests) t stages ps own g
    (of_node g plan.nodes (numbered 0 hs')) (of_node g plan.nodes ds) (own' g))
    → IsLeft source image plan (told_by tests) t stages hs' ps ds own own'

-- The law of meetings holds for each arrival word.
abbrev pub MeetingsAreKept : (S P D : Type 0) → Type 0
MeetingsAreKept S P D =
    (source : Source S P D) (image : Image) (plan : Plan) (tests : Tests P D) (t : Setting)
    (stages : List Stage) (hs hs' : List Hart) (ps : List P) (ds : List D)
    (own own' : ℕ → Memory)
    → length hs < 2 ^ 31 → IsBound source image plan (told_by tests) t stages hs ps own
    → (left : IsLeft source image plan (told_by tests) t stages hs' ps ds own own')
    → (g w : ℕ) → plan.in_lockstep g ≡ false → IsOpen plan g w
    → IsKept t.finished (plan.size w) tests.lead (own g w) (own' g w)
    (phases plan g w (kept stages)) (phases plan g w left.afters)
