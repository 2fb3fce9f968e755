-- What is known of a member that meets others, and of members after their commits.
use Rattle.std.specs.Prelude.{◌≡◌, ℕ, ◌+◌, ◌≤◌, List, [], ◌∷◌, length, map, Bool, true, Option}
use Rattle.std.specs.Prelude.{Some, None, if◌then◌else◌, ◌⊎◌}
use Rattle.fk_num.specs.Word.{Memory}
use Rattle.fk_meaning_operation.specs.declared.operation.Operation.{Operation}
use Rattle.fk_meaning_operation.specs.declared.operation.Operation.TheVariants.{Halt, Begin, End}
use Rattle.fk_meaning_operation.specs.declared.operation.Operation.TheVariants.{Farm, Seq, Split}
use Rattle.fk_meaning_operation.specs.declared.operation.Operation.TheVariants.{Shrink}
use Rattle.fk_meaning.specs.Processor.{Level, Setting}
use Rattle.fk_meaning.specs.Group.{is_taken}
use Rattle.fk_meaning.specs.Round.{Step}
use Rattle.fk_core.specs.declared.op.CoreOp.{CoreOp}
use Rattle.fk_core.specs.Next.{Position, position, next}
use Rattle.fk_image.specs.declared.Image.{Image}
use Rattle.fk_machine.specs.Hart.{Hart, Setting as MachineSetting}
use Rattle.fk_sim_nodes.specs.Node.{Member, Words}
use Rattle.fk_sim_nodes.specs.Alone.{NodeRun}
use Rattle.fk_sim_nodes.specs.Phase.{Phase}
use Rattle.fk_sim_match.specs.Stage.{Ending, Commits, Unites}
use Rattle.fk_sim_match.specs.Plan.{Plan, Blocks}
use Rattle.fk_sim_block.specs.Owner.{Owner, Doing, idle}
use Rattle.fk_sim_block.specs.Stands.{Places}
use Rattle.fk_sim_block.specs.Next.{OpAt, step_at}
use Rattle.fk_sim_block.specs.Block.{most_behind, Enters}
use Rattle.fk_sim_block.specs.Node.{Nestings, IsAtRest, first_word, root_words, barrier_word}
use Rattle.fk_sim_block.specs.Lockstep.{IsMember, is_due, stepped, highest_value, AreMembers}
use Rattle.fk_sim_block.specs.Lockstep.{AllComeByWay, AreInStart, IsLowest, one_runs}
use Rattle.fk_sim_block.specs.Parts.{AreInPart, AllRest, moved, AllMove}
use Rattle.fk_sim_block.specs.Joint.{is_meeting, word_of, lead, Polls, MeetsAt, StandsBehind}
use Rattle.fk_sim_block.specs.Start as starts
use Rattle.fk_sim_block.specs.Start.{IsInRoot, MeetsUntil}
use Rattle.fk_sim_block.specs.Law.{HasDoneInNode, stays_in_step, sets_apart}

-- How many members run the body of a node, as one that does sees it: those who meet at the node's
-- first word.
abbrev pub runs_of : Plan → (first number : ℕ) → Option ℕ
runs_of plan first number = if plan.member (first + barrier_word) number
    then Some (plan.size (first + barrier_word)) else None

-- ---- steps after which each member goes on by itself

abbrev pub moves_apart : Operation → Bool
moves_apart (Split by) = true
moves_apart Shrink = true
moves_apart End = true
moves_apart operation = sets_apart operation

-- What is asked of its members.
abbrev pub IsAskedToMove : Nestings → Operation → (lowest : ℕ) → List Owner → Type 0
IsAskedToMove nestings Seq lowest ps = IsLowest lowest ps
IsAskedToMove nestings Shrink lowest ps = AreInPart nestings ps
IsAskedToMove nestings End lowest ps = AreInStart nestings ps ⊎ AreInPart nestings ps
IsAskedToMove nestings operation lowest ps = Unit {0}

-- How many run the body of the node to which the members of a group go back. All run that of the
-- root, which is around the group of `start` alone. Nobody runs a body in a group that waits.
abbrev pub bodies_around : Setting → (outer : List Level) → Option ℕ
bodies_around setting (root ∷ []) = Some setting.processors
bodies_around setting outer = None

-- How many run a body together with a member that has gone on by itself.
abbrev pub bodies_behind : Setting → Operation → (lowest : ℕ) → Owner → Option ℕ
bodies_behind setting Farm lowest p = Some p.runner.has.level.size
bodies_behind setting Seq lowest p = one_runs lowest p
bodies_behind setting End lowest p = bodies_around setting p.runner.has.outer
bodies_behind setting operation lowest p = None

-- Nobody has arrived at a word of a part that begins, or of the group around it.
abbrev pub PartsRest : Operation → Memory → List Owner → Type 0
PartsRest (Split by) own ps = AllRest own ps
PartsRest operation own ps = Unit {0}

module _ (core : List CoreOp) (image : Image) (places : Places) (nestings : Nestings)
    (setting : Setting) where
  -- ---- one member

  -- A member's processor is about to do an operation by meeting, and its hart is in a phase of
  -- that.
  pub record StandsInMeeting (runs : Option ℕ) (word n : ℕ) (t : MachineSetting) (f : Phase)
      (m : Member) (p : Owner) : Type 0 where
    pub i : ℕ
    pub op : CoreOp
    pub operation : Operation
    pub stands : OpAt core i op operation
    pub meeting : is_meeting operation ≡ true
    pub next_is : next core p.runner.left ≡ Some (step_at core i op operation p.runner.left.callers)
    pub word_is : word ≡ first_word p.runner.has.level p.runner.has.outer + word_of operation
    pub meets : MeetsAt image places nestings setting runs i word n t f m p

  -- A member is about to begin the group of `start`. It came to that in some cycle, in the root,
  -- and is in a phase of meeting all others.
  pub record StandsInStart (word n : ℕ) (t : MachineSetting) (f : Phase) (m : Member)
      (p : Owner) : Type 0 where
    pub i : ℕ
    pub op : CoreOp
    pub cycle : MachineSetting
    pub first : Hart
    pub stands : OpAt core i op Begin
    pub enters : Enters core image places setting cycle i op Begin p first
    pub member : IsMember places nestings setting (Some setting.processors) root_words
        (record m { hart = first }) p
    pub root : IsInRoot nestings setting p
    pub meets : MeetsUntil image word n 0
        (λ h. Polls (nestings.start.there i) (nestings.start.coming i first) h) t f m

  abbrev pub StandsByEnding : Ending → (runs : Option ℕ) → (word n : ℕ) → MachineSetting → Phase
      → Member → Owner → Type 0
  StandsByEnding Commits runs word n t f m p = StandsInMeeting runs word n t f m p
  StandsByEnding Unites runs word n t f m p = StandsInStart word n t f m p

  -- A member has met all others at the beginning of `start`.
  pub record HasJoined (m : Member) (p : Owner) : Type 0 where
    pub i : ℕ
    pub op : CoreOp
    pub stands : OpAt core i op Begin
    pub met : starts.HasMet core image places nestings i op (nestings.start.there i)
        (nestings.start.coming i) setting m p

  -- A member's commit has ended its hart, and its processor's run is to end.
  pub record HasEnded (m : Member) (d : Doing) : Type 0 where
    pub ended : m.hart.ended ≡ true
    pub step : Step Position
    pub due : d.acting.due ≡ Some step
    pub halts : step.operation ≡ Halt
    pub ends : step.rest true ≡ position (length core) []

  -- A member has done a local operation or a request.
  pub record HasGone (runs : Option ℕ) (m : Member) (d : Doing) : Type 0 where
    pub done : HasDoneInNode core image places nestings setting runs d m.hart

  -- A member has left those whom it met, and is after the operation, which the tree does for all of
  -- them.
  pub record HasMet (runs : Option ℕ) (m : Member) (p : Owner) (d : Doing) : Type 0 where
    pub i : ℕ
    pub op : CoreOp
    pub operation : Operation
    pub stands : OpAt core i op operation
    pub meeting : is_meeting operation ≡ true
    pub due : d ≡ is_due core i op operation p
    pub left : StandsBehind image places nestings setting runs i p m.hart

  -- What holds of a member `behind` private instructions after its commit. One that has ended, or
  -- has left those whom it met, is there at once.
  abbrev pub IsBehind : (runs : Option ℕ) → (behind : ℕ) → Member → Owner → Doing → Type 0
  IsBehind runs behind m p d = ((behind ≤ most_behind) × HasGone runs m d)
      ⊎ ((behind ≡ 0) × (HasEnded m d ⊎ HasMet runs m p d))

  -- ---- a group

  -- All members have done local operations or requests.
  abbrev pub AllHaveGone : List Member → List Doing → Type 0
  AllHaveGone [] [] = Unit {0}
  AllHaveGone (m ∷ ms) (d ∷ ds) = HasGone None m d × AllHaveGone ms ds
  AllHaveGone ms ds = ⊥

  -- The members do a step after which they are in lockstep still, and are at the next block.
  pub record HaveStayed (first : ℕ) (ds : List Doing) (ms : List Member) : Type 0 where
    pub i : ℕ
    pub op : CoreOp
    pub operation : Operation
    pub ps : List Owner
    pub stands : OpAt core i op operation
    pub stays : stays_in_step operation ≡ true
    pub due : ds ≡ map (is_due core i op operation) ps
    pub members : AreMembers places nestings setting (λ p. None) first ms
        (map (stepped core i op operation (highest_value ps) 0 0) ps)

  -- Nobody has arrived at a word of a group, and its members are after their common commit.
  abbrev pub IsGroupBehind : (first : ℕ) → List Doing → List Member → Memory → Type 0
  IsGroupBehind first ds ms own = IsAtRest first own × (AllHaveGone ms ds ⊎ HaveStayed first ds ms)

  -- The members do a step after which each goes on by itself. As many private instructions as its
  -- branch takes lead it to where its processor goes on, in the node that it has then.
  pub record HaveMoved (first : ℕ) (t : MachineSetting) (ds : List Doing) (ms : List Member)
      (own : Memory) : Type 0 where
    pub i : ℕ
    pub op : CoreOp
    pub operation : Operation
    pub lowest : ℕ
    pub ps : List Owner
    pub behind : (onward : Bool) → ℕ
    pub few : (onward : Bool) → behind onward ≤ most_behind
    pub stands : OpAt core i op operation
    pub moves : moves_apart operation ≡ true
    pub asked : IsAskedToMove nestings operation lowest ps
    pub due : ds ≡ map (is_due core i op operation) ps
    pub rest : IsAtRest first own
    pub parts : PartsRest operation own (map (moved core i op operation lowest ps) ps)
    pub move : AllMove core image places nestings i op operation setting t behind
        (λ p. bodies_behind setting operation lowest p) lowest ms ps

  -- The group of `start` begins: all are in the root, at whose words nobody has arrived, and each
  -- comes to its part.
  pub record HaveBegun (t : MachineSetting) (ds : List Doing) (ms : List Member)
      (own : Memory) : Type 0 where
    pub i : ℕ
    pub op : CoreOp
    pub ps : List Owner
    pub behind : (onward : Bool) → ℕ
    pub few : (onward : Bool) → behind onward ≤ most_behind
    pub stands : OpAt core i op Begin
    pub due : ds ≡ map (is_due core i op Begin) ps
    pub rest : IsAtRest root_words own
    pub parts : AllComeByWay core image places nestings i op Begin setting t behind
        (λ p. starts.runs_behind_start setting (is_taken (highest_value ps) p.runner.has))
        (highest_value ps) 0 (λ p. starts.size_of_start setting (highest_value ps)) ms ps

  -- The common commit of a group's members is past. A run of their node leads them on in lockstep,
  -- or each goes on by itself.
  abbrev pub HaveActed : Words → (first : ℕ) → MachineSetting → (behind : ℕ) → List Doing
      → List Member → Memory → Type 0
  HaveActed mine first t behind ds ms own =
      NodeRun image mine t behind ms own (λ ms' own'. IsGroupBehind first ds ms' own')
      ⊎ (HaveMoved first t ds ms own ⊎ HaveBegun t ds ms own)

  -- What the law of blocks says of the members of a plan's nodes after a cycle in which nobody
  -- unites with others.
  abbrev pub blocks_of : Plan → (first : ℕ → ℕ) → Blocks Owner Doing
  blocks_of plan first = record {
    lead = lead;
    idle = idle;
    AfterAll = λ t g ms ds own. (behind : ℕ) × (behind ≤ most_behind)
        × HaveActed (plan.words g) (first g) t behind ds ms own;
    AfterOne = λ g behind m p d. IsBehind (runs_of plan (first g) m.number) behind m p d;
    StandsIn =
        λ g t e w f m p. StandsByEnding e (runs_of plan (first g) m.number) w (plan.size w) t f m p;
    Joins = λ t g m p. ⊥;
  }

  -- What the law of blocks says of the members of a plan's nodes after any cycle.
  abbrev pub joining_blocks_of : Plan → (first : ℕ → ℕ) → Blocks Owner Doing
  joining_blocks_of plan first = record (blocks_of plan first) { Joins = λ t g m p. HasJoined m p }
