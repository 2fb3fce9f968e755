-- The plan of a run at one time: the node of each hart, and what binds the harts of a node.
use Rattle.std.specs.Prelude.{◌≡◌, ◌≢◌, ℕ, zero, suc, ◌==◌, List, [], ◌∷◌, Option, Bool, true}
use Rattle.std.specs.Prelude.{false}
use Rattle.fk_num.specs.Word.{Memory}
use Rattle.fk_image.specs.declared.Image.{Image}
use Rattle.fk_machine.specs.Hart.{Hart, Setting}
use Rattle.fk_sim_nodes.specs.Node.{Member, numbered, of_node, AreAsMany, Words}
use Rattle.fk_sim_nodes.specs.Source.{Source, Passes}
use Rattle.fk_sim_nodes.specs.Alone.{later, in_cycles, RunsPrivately, Stays}
use Rattle.fk_sim_nodes.specs.OneHart.{OneDoes}
use Rattle.fk_sim_nodes.specs.Together.{Together}
use Rattle.fk_sim_nodes.specs.Phase.{Phase, Outside, Away, Leaving, word_after, Moves, Settled}
use Rattle.fk_sim_match.specs.Stage.{Ending, Commits, Unites, Stage, Ended, Acts, Meets}
use Rattle.fk_sim_match.specs.Stage.{count_of_stage, kept, absent, phase_of}

-- A tree of nodes at one time, as the machine knows it.
pub record Plan : Type 0 where
  -- The node of each hart.
  pub nodes : List ℕ
  -- Each node's own control words.
  pub words : ℕ → Words
  -- Whether the members of a node are a group in lockstep.
  pub in_lockstep : ℕ → Bool
  -- The arrival words, where members of the node that owns the word meet; how many meet there; and
  -- whether a hart is one of them. A member that is elsewhere comes back from a part of the node.
  pub arrivals : Words
  pub size : (word : ℕ) → ℕ
  pub member : (word number : ℕ) → Bool

-- Members of a node meet at a word that the node owns.
abbrev pub IsOpen : Plan → (g word : ℕ) → Type 0
IsOpen plan g w = (plan.words g w ≡ true) × (plan.arrivals w ≡ true)

-- A hart's phase at an arrival word, by whether it is in the word's node.
abbrev pub phase_at : (here member : Bool) → Phase → Phase
phase_at true member f = f
phase_at false member f = absent member

abbrev pub phases_from : Plan → (g word number : ℕ) → (nodes : List ℕ)
    → List (Option Stage) → List Phase
phases_from plan g w number (n ∷ ns) (a ∷ afters) =
    phase_at (n == g) (plan.member w number) (phase_of w (plan.member w number) a)
    ∷ phases_from plan g w (suc number) ns afters
phases_from plan g w number ns afters = []

-- The phases of all harts at an arrival word of a node.
abbrev pub phases : Plan → (g word : ℕ) → List (Option Stage) → List Phase
phases plan g w afters = phases_from plan g w 0 plan.nodes afters

-- The phases of the members of a node at an arrival word.
abbrev pub phases_of : Plan → (word : ℕ) → List Member → List (Option Stage) → List Phase
phases_of plan w (m ∷ ms) (a ∷ afters) =
    phase_of w (plan.member w m.number) a ∷ phases_of plan w ms afters
phases_of plan w ms afters = []

-- What is known of blocks of code: the number of steps from the poll of those who meet to their
-- commit, what becomes of a processor that does nothing, and four conditions.
pub record Blocks (P D : Type 0) : Type 1 where
  pub lead : ℕ
  pub idle : P → D
  -- What holds of the members of a node in lockstep, before this cycle, after their common commit.
  pub AfterAll : Setting → (g : ℕ) → List Member → List D → Memory → Type 0
  -- What holds of a member of a node that `behind` private instructions lead on after its commit,
  -- by itself or with those whom it met.
  pub AfterOne : (g behind : ℕ) → Member → P → D → Type 0
  -- What holds of a member of a node in a phase of a joint block, at an arrival word.
  pub StandsIn : (g : ℕ) → Setting → Ending → (word : ℕ) → Phase → Member → P → Type 0
  -- What holds of a member, before this cycle, that has just left those with whom it unites.
  pub Joins : Setting → (g : ℕ) → Member → P → Type 0

-- The conditions of blocks, given by tests.
pub record Tests (P D : Type 0) : Type 0 where
  pub lead : ℕ
  pub idle : P → D
  pub after_all : Setting → (g : ℕ) → List Member → List D → Memory → Bool
  pub after_one : (g behind : ℕ) → Member → P → D → Bool
  pub stands_in : (g : ℕ) → Setting → Ending → (word : ℕ) → Phase → Member → P → Bool
  pub joins : Setting → (g : ℕ) → Member → P → Bool

abbrev pub told_by : {P D : Type 0} → Tests P D → Blocks P D
told_by tests = record {
  lead = tests.lead;
  idle = tests.idle;
  AfterAll = λ t g ms ds own. tests.after_all t g ms ds own ≡ true;
  AfterOne = λ g behind m p d. tests.after_one g behind m p d ≡ true;
  StandsIn = λ g t e w f m p. tests.stands_in g t e w f m p ≡ true;
  Joins = λ t g m p. tests.joins t g m p ≡ true;
}

-- The phase of a hart that is on its way to an arrival word, or there.
abbrev pub IsInside : Phase → Type 0
IsInside Outside = ⊥
IsInside Away = ⊥
IsInside f = Unit {0}

-- A processor that does nothing leaves every store as it is.
abbrev pub IsIdle : {S P D : Type 0} → Source S P D → (P → D) → Type 0
IsIdle {S = S} {P = P} source idle = (s : S) (p : P) → source.part 0 s p ≡ Passes s (idle p)

module _ {S P D : Type 0} (source : Source S P D) (image : Image) (plan : Plan)
    (blocks : Blocks P D) where
  -- A member has committed, and private instructions lead it to where `AfterOne` holds.
  abbrev pub HasCommitted : Setting → (g : ℕ) → Member → P → D → Type 0
  HasCommitted t g m p d =
      (behind : ℕ) × (hart : Hart) × RunsPrivately image t m.number behind m.hart hart
      × blocks.AfterOne g behind (record m { hart = hart }) p d

  -- A member has done nothing, and goes on together with those whom it met.
  abbrev pub HasUnited : Setting → (g : ℕ) → Member → P → D → Type 0
  HasUnited t g m p d = (d ≡ blocks.idle p) × blocks.Joins t g m p

  abbrev pub HasLeft : Ending → Setting → (g : ℕ) → Member → P → D → Type 0
  HasLeft Commits t g m p d = HasCommitted t g m p d
  HasLeft Unites t g m p d = HasUnited t g m p d

  -- A member of a node is at its stage.
  abbrev pub StandsAt : Setting → (g : ℕ) → Stage → Member → P → Type 0
  StandsAt t g Ended m p = m.hart.ended ≡ true
  StandsAt t g (Acts d inner) m p = (behind : ℕ)
      × OneDoes source image t (suc inner) d behind m p
      (λ h x. blocks.AfterOne g behind (record m { hart = h }) p x)
  StandsAt t g (Meets e w f) m p = IsInside f × IsOpen plan g w × (plan.member w m.number ≡ true)
      × blocks.StandsIn g t e w f m p

  abbrev pub AllStandAt : Setting → (g : ℕ) → List Stage → List Member → List P → Type 0
  AllStandAt t g [] [] [] = Unit {0}
  AllStandAt t g (s ∷ stages) (m ∷ ms) (p ∷ ps) = StandsAt t g s m p × AllStandAt t g stages ms ps
  AllStandAt t g stages ms ps = ⊥

  -- Members in lockstep are all at one distance from their common commit, of equally many
  -- operations.
  abbrev pub AllAct : (d inner : ℕ) → List Stage → List Member → List P → Type 0
  AllAct d inner [] [] [] = Unit {0}
  AllAct d inner (s ∷ stages) (m ∷ ms) (p ∷ ps) = (s ≡ Acts d inner) × AllAct d inner stages ms ps
  AllAct d inner stages ms ps = ⊥

  pub record InLockstep (t : Setting) (g : ℕ) (stages : List Stage) (ms : List Member) (ps : List P)
      (own : Memory) : Type 0 where
    pub distance : ℕ
    pub inner : ℕ
    pub alike : AllAct distance inner stages ms ps
    pub together : Together source image (plan.words g) t (suc inner) distance ms ps own
        (blocks.AfterAll (later (in_cycles distance t)) g)

  -- What binds the harts of a node: they are in lockstep, or each is at its stage by itself.
  abbrev pub Binds : (in_lockstep : Bool) → Setting → (g : ℕ) → List Stage → List Member → List P
      → Memory → Type 0
  Binds true t g stages ms ps own = InLockstep t g stages ms ps own
  Binds false t g stages ms ps own = AllStandAt t g stages ms ps

  -- An arrival word of a node counts those who have arrived.
  abbrev pub Counts : Setting → (g word : ℕ) → List Stage → Memory → Type 0
  Counts t g w stages own =
      plan.in_lockstep g ≡ false → IsOpen plan g w
      → Settled t.finished (plan.size w) (own w) (phases plan g w (kept stages))

  -- The plan binds all nodes before a cycle.
  pub record IsBound (t : Setting) (stages : List Stage) (hs : List Hart) (ps : List P)
      (own : ℕ → Memory) : Type 0 where
    pub as_many : AreAsMany plan.nodes hs ps
    pub stages_as_many : AreAsMany plan.nodes hs stages
    pub binds : (g : ℕ)
        → Binds (plan.in_lockstep g) t g (of_node g plan.nodes stages)
        (of_node g plan.nodes (numbered 0 hs)) (of_node g plan.nodes ps) (own g)
    pub counts : (g w : ℕ) → Counts t g w stages (own g)

  -- ---- the law of joint blocks

  -- What becomes of a member in a phase: one that leaves is away, and another is in its next phase.
  abbrev pub Follows : Setting → (g : ℕ) → Ending → (word : ℕ) → Phase → Phase → Member
      → P → D → Type 0
  Follows t g e w (Leaving zero) f' m p d = (f' ≡ Away) × HasLeft e t g m p d
  Follows t g e w f f' m p d = (d ≡ blocks.idle p) × blocks.StandsIn g t e w f' m p

  -- The turn of a member in a phase is that of the phase, whatever its node's words are, and
  -- touches the arrival word alone.
  pub record Turn (t : Setting) (g : ℕ) (e : Ending) (w : ℕ) (f : Phase) (m : Member) (p : P)
      (own : Memory) : Type 0 where
    pub hart : Hart
    pub words : Memory
    pub phase : Phase
    pub done : D
    pub stays : Stays image (plan.words g) t (count_of_stage (Meets e w f)) m own hart words
    pub arrivals : words w ≡ word_after f (own w)
    pub others : (i : ℕ) → i ≢ w → words i ≡ own i
    pub moves : Moves t.finished (plan.size w) blocks.lead (own w) f phase
    pub takes : (s : S) → source.part (count_of_stage (Meets e w f)) s p ≡ Passes s done
    pub follows : Follows (later t) g e w f phase (record m { hart = hart }) p done

  abbrev pub JointBlocksTurn : Type 0
  JointBlocksTurn =
      (t : Setting) (g : ℕ) (e : Ending) (w : ℕ) (f : Phase) (m : Member) (p : P) (own : Memory)
      → IsInside f → IsOpen plan g w → blocks.StandsIn g t e w f m p
      → Turn t g e w f m p own
