-- Steps of the tree that all members of a group do in lockstep.
use Rattle.std.specs.Prelude.{◌≡◌, ℕ, suc, ◌+◌, ◌<◌, ◌==◌, List, [], ◌∷◌, map, Bool, true, false}
use Rattle.std.specs.Prelude.{Option, Some, None, if◌then◌else◌}
use Rattle.fk_num.specs.Word.{Memory}
use Rattle.fk_meaning_operation.specs.declared.operation.Operation.{Operation}
use Rattle.fk_meaning_operation.specs.declared.operation.Operation.TheVariants.{Agree, Begin, End}
use Rattle.fk_meaning_operation.specs.declared.operation.Operation.TheVariants.{Split, Shrink}
use Rattle.fk_meaning.specs.Processor.{Level, Setting, values, last}
use Rattle.fk_meaning.specs.Round.{taking}
use Rattle.fk_meaning.specs.Group.{does, goes_onward, taken_by}
use Rattle.fk_core.specs.declared.op.CoreOp.{CoreOp}
use Rattle.fk_core.specs.Next.{follows}
use Rattle.fk_image.specs.declared.Image.{Image}
use Rattle.fk_machine.specs.Hart.{Hart, Setting as MachineSetting}
use Rattle.fk_sim_nodes.specs.Node.{Member, Words}
use Rattle.fk_sim_nodes.specs.Alone.{NodeRun, RunsPrivately, later, in_cycles}
use Rattle.fk_sim_nodes.specs.Together.{Together}
use Rattle.fk_sim_nodes.specs.OnePlace.{last_or}
use Rattle.fk_sim_block.specs.Owner.{Owner, Doing, number_of, core_source}
use Rattle.fk_sim_block.specs.Stands.{Places, StandsAt}
use Rattle.fk_sim_block.specs.Next.{step_at}
use Rattle.fk_sim_block.specs.Block.{Enters}
use Rattle.fk_sim_block.specs.Node.{Nestings, StandsInNode, OwnsHeader, first_word, root_words}
use Rattle.fk_sim_block.specs.Node.{agreed_word}

-- How many values a step of a group looks at.
abbrev pub values_of_step : Operation → ℕ
values_of_step Agree = 1
values_of_step Begin = 1
values_of_step (Split by) = taken_by by
values_of_step Shrink = 1
values_of_step operation = 0

-- The last value of the highest processor, in a list of processors in ascending number.
abbrev pub highest_value : List Owner → ℕ
highest_value ps = last_or 0 (map (λ p. last (values p.runner.has)) ps)

-- The frame of the call has the same levels at both indices.
pub record LevelsStay (nestings : Nestings) (i j : ℕ) : Type 0 where
  pub levels : nestings.levels j ≡ nestings.levels i
  pub behind : nestings.behind j ≡ nestings.behind i
  pub forks : (n : ℕ) → n < nestings.levels i → nestings.forks j n ≡ nestings.forks i n

-- At the second index the frame of the call has one level more, after the same words. Such a level
-- is saved where a part begins, and given back where the part ends.
pub record LevelOpens (nestings : Nestings) (i j : ℕ) : Type 0 where
  pub levels : nestings.levels j ≡ suc (nestings.levels i)
  pub behind : nestings.behind j ≡ nestings.behind i
  pub forks : (n : ℕ) → n < nestings.levels i → nestings.forks j n ≡ nestings.forks i n

-- All processors are in groups of this size.
abbrev pub AreOfSize : (size : ℕ) → List Owner → Type 0
AreOfSize size [] = Unit {0}
AreOfSize size (p ∷ ps) = (p.runner.has.level.size ≡ size) × AreOfSize size ps

-- The first processor of the list, and no other, has this number.
abbrev pub NoneIs : (number : ℕ) → List Owner → Type 0
NoneIs n [] = Unit {0}
NoneIs n (p ∷ ps) = ((number_of p == n) ≡ false) × NoneIs n ps

abbrev pub IsLowest : (number : ℕ) → List Owner → Type 0
IsLowest n [] = Unit {0}
IsLowest n (p ∷ ps) = ((number_of p == n) ≡ true) × NoneIs n ps

-- A processor is in a group: some level is around its own.
pub record IsInGroup (p : Owner) : Type 0 where
  pub around : Level
  pub further : List Level
  pub outer : p.runner.has.outer ≡ around ∷ further

abbrev pub AreInGroup : List Owner → Type 0
AreInGroup [] = Unit {0}
AreInGroup (p ∷ ps) = IsInGroup p × AreInGroup ps

-- The lowest member alone runs the body.
abbrev pub one_runs : (lowest : ℕ) → Owner → Option ℕ
one_runs lowest p = if number_of p == lowest then Some 1 else None

module _ (core : List CoreOp) (i : ℕ) (op : CoreOp) (operation : Operation) where
  -- A processor that takes part with the step. The step is done once all members have taken part.
  abbrev pub is_due : Owner → Doing
  is_due p = record {
    acting = taking p.runner (Some (step_at core i op operation p.runner.left.callers));
    heap = p.heap;
  }

  -- What the step makes of a processor, given the last value of the highest member, the number of
  -- the lowest member, and the size of its group after the step.
  abbrev pub stepped : (highest lowest size : ℕ) → Owner → Owner
  stepped highest lowest size p = record {
    runner = record {
      left = follows core operation i op.target p.runner.left.callers
          (goes_onward operation highest lowest p.runner.has);
      has = does operation highest size p.runner.has;
    };
    heap = p.heap;
  }

module _ (places : Places) (nestings : Nestings) (setting : Setting) where
  -- A member stands for its processor, in the node whose first control word is `begin`.
  pub record IsMember (runs : Option ℕ) (begin : ℕ) (m : Member) (p : Owner) : Type 0 where
    pub number : m.number ≡ number_of p
    pub at : StandsAt places p m.hart
    pub node : StandsInNode places nestings setting runs p m.hart
    pub words : first_word p.runner.has.level p.runner.has.outer ≡ begin

  -- Each member stands for its processor, and may run a body with a number of others of its own.
  abbrev pub AreMembers : (runs : Owner → Option ℕ) → (begin : ℕ) → List Member
      → List Owner → Type 0
  AreMembers runs begin [] [] = Unit {0}
  AreMembers runs begin (m ∷ ms) (p ∷ ps) = IsMember (runs p) begin m p
      × AreMembers runs begin ms ps
  AreMembers runs begin ms ps = ⊥

  -- `behind` private instructions lead a member, by itself, to where it stands for its processor.
  pub record ComesAlone (image : Image) (t : MachineSetting) (behind : ℕ) (runs : Option ℕ)
      (begin : ℕ) (m : Member) (p : Owner) : Type 0 where
    pub hart : Hart
    pub private : RunsPrivately image t m.number behind m.hart hart
    pub member : IsMember runs begin (record m { hart = hart }) p

  abbrev pub AllComeAlone : Image → MachineSetting → (behind : ℕ) → (runs : Owner → Option ℕ)
      → (begin : ℕ) → List Member → List Owner → Type 0
  AllComeAlone image t behind runs begin [] [] = Unit {0}
  AllComeAlone image t behind runs begin (m ∷ ms) (p ∷ ps) =
      ComesAlone image t behind (runs p) begin m p × AllComeAlone image t behind runs begin ms ps
  AllComeAlone image t behind runs begin ms ps = ⊥

module _ (core : List CoreOp) (image : Image) (places : Places) (nestings : Nestings) (i : ℕ)
    (op : CoreOp) (operation : Operation) where
  -- All members come to the step in one cycle.
  abbrev pub AllEnter : Setting → MachineSetting → (runs : Option ℕ) → (first : ℕ) → List Member
      → List Owner → Type 0
  AllEnter setting t runs first [] [] = Unit {0}
  AllEnter setting t runs first (m ∷ ms) (p ∷ ps) =
      Enters core image places setting t i op operation p m.hart
      × IsMember places nestings setting runs first m p
      × AllEnter setting t runs first ms ps
  AllEnter setting t runs first ms ps = ⊥

  -- All members are where their processors go on, and no control word has changed except the agreed
  -- value's.
  pub record HaveStepped (setting : Setting) (runs : Owner → Option ℕ) (first lowest size : ℕ)
      (ps : List Owner) (before : Memory) (ms : List Member) (own : Memory) : Type 0 where
    pub members : AreMembers places nestings setting runs first ms
        (map (stepped core i op operation (highest_value ps) lowest size) ps)
    pub others : (j : ℕ) → (j ≡ first + agreed_word → ⊥) → own j ≡ before j

  -- Where the members are as the step asks, all commit together with this count after `before`
  -- cycles, and have done the step together `behind` cycles after that.
  abbrev pub StepTogether : (count : ℕ) → (List Owner → Type 0) → (before behind : ℕ)
      → (runs : Option ℕ) → (runs' : Owner → Option ℕ) → (lowest size : ℕ) → Type 0
  StepTogether count Asked before behind runs runs' lowest size =
      (setting : Setting) (t : MachineSetting) (mine : Words) (first : ℕ) (ms : List Member)
      (ps : List Owner) (own : Memory)
      → OwnsHeader mine first → AllEnter setting t runs first ms ps → Asked ps
      → Together (core_source core setting) image mine t count before ms ps own
      (λ ms' ds own'. (ds ≡ map (is_due core i op operation) ps)
      × NodeRun image mine (later (in_cycles before t)) behind ms' own'
      (λ ms'' own''. HaveStepped setting runs' first lowest size ps own ms'' own''))

  -- After their common commit each member comes by itself to where its processor goes on, and no
  -- control word has changed except the agreed value's.
  pub record HaveParted (setting : Setting) (t : MachineSetting) (behind : ℕ)
      (runs : Owner → Option ℕ) (first lowest size : ℕ) (ps : List Owner) (before : Memory)
      (ms : List Member) (own : Memory) : Type 0 where
    pub come : AllComeAlone places nestings setting image t behind runs first ms
        (map (stepped core i op operation (highest_value ps) lowest size) ps)
    pub others : (j : ℕ) → (j ≡ first + agreed_word → ⊥) → own j ≡ before j

  -- Like `StepTogether`, for a step after which the members are no longer in lockstep.
  abbrev pub PartTogether : (count : ℕ) → (List Owner → Type 0) → (before behind : ℕ)
      → (runs : Option ℕ) → (runs' : Owner → Option ℕ) → (lowest size : ℕ) → Type 0
  PartTogether count Asked before behind runs runs' lowest size =
      (setting : Setting) (t : MachineSetting) (mine : Words) (first : ℕ) (ms : List Member)
      (ps : List Owner) (own : Memory)
      → OwnsHeader mine first → AllEnter setting t runs first ms ps → Asked ps
      → Together (core_source core setting) image mine t count before ms ps own
      (λ ms' ds own'. (ds ≡ map (is_due core i op operation) ps) × HaveParted setting
      (later (in_cycles before t)) behind runs' first lowest size ps own ms' own')

module _ (core : List CoreOp) (image : Image) (places : Places) (nestings : Nestings) (i : ℕ)
    (op : CoreOp) (operation : Operation) where
  -- After a step each member goes on by itself. As many private instructions as its branch takes
  -- lead it to where its processor goes on, in the node that it has then. The step looks at the
  -- last value of the highest member and at the number of the lowest, and tells the size of the
  -- group that each processor has then.
  pub record ComesByWay (setting : Setting) (t : MachineSetting) (behind : (onward : Bool) → ℕ)
      (bodies : Owner → Option ℕ) (highest lowest : ℕ) (size : Owner → ℕ) (m : Member)
      (p : Owner) : Type 0 where
    pub hart : Hart
    pub runs : RunsPrivately image t m.number
        (behind (goes_onward operation highest lowest p.runner.has)) m.hart hart
    pub member :
        let q = stepped core i op operation highest lowest (size p) p in
        IsMember places nestings setting (bodies p)
        (first_word q.runner.has.level q.runner.has.outer) (record m { hart = hart }) q

  abbrev pub AllComeByWay : Setting → MachineSetting → (behind : (onward : Bool) → ℕ)
      → (bodies : Owner → Option ℕ) → (highest lowest : ℕ) → (size : Owner → ℕ) → List Member
      → List Owner → Type 0
  AllComeByWay setting t behind bodies highest lowest size [] [] = Unit {0}
  AllComeByWay setting t behind bodies highest lowest size (m ∷ ms) (p ∷ ps) =
      ComesByWay setting t behind bodies highest lowest size m p
      × AllComeByWay setting t behind bodies highest lowest size ms ps
  AllComeByWay setting t behind bodies highest lowest size ms ps = ⊥

-- The frames of these calls have no saved level.
abbrev pub NoneSaved : Nestings → List ℕ → Type 0
NoneSaved nestings [] = Unit {0}
NoneSaved nestings (i ∷ indices) = (nestings.levels i ≡ 0) × NoneSaved nestings indices

-- A processor is in the group of `start`: the root alone is around that group.
pub record IsInStart (nestings : Nestings) (p : Owner) : Type 0 where
  pub root : Level
  pub outer : p.runner.has.outer ≡ root ∷ []
  pub none : NoneSaved nestings (p.runner.left.at ∷ p.runner.left.callers)

abbrev pub AreInStart : Nestings → List Owner → Type 0
AreInStart nestings [] = Unit {0}
AreInStart nestings (p ∷ ps) = IsInStart nestings p × AreInStart nestings ps

module _ (core : List CoreOp) (image : Image) (places : Places) (nestings : Nestings) (i : ℕ)
    (op : CoreOp) where
  -- All members commit in this cycle with this count, and `behind` cycles later each is by itself
  -- in the root. All control words are as they were.
  abbrev pub EndTogether : (count behind : ℕ) → (lowest size : ℕ) → Type 0
  EndTogether count behind lowest size =
      (setting : Setting) (t : MachineSetting) (mine : Words) (first : ℕ) (ms : List Member)
      (ps : List Owner) (own : Memory)
      → OwnsHeader mine first
      → AllEnter core image places nestings i op End setting t None first ms ps
      → AreInStart nestings ps
      → Together (core_source core setting) image mine t count 0 ms ps own
      (λ ms' ds own'. (ds ≡ map (is_due core i op End) ps)
      × (AllComeAlone places nestings setting image (later t) behind (λ p. Some setting.processors)
      root_words ms' (map (stepped core i op End (highest_value ps) lowest size) ps)
      × (own' ≡ own)))
