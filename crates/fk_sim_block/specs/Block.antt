-- The law of blocks of single processors.
use Rattle.std.specs.Prelude.{◌≡◌, ℕ, ◌<◌, ◌≤◌, List, [], length, true, false, Some, None}
use Rattle.std.specs.Prelude.{slice_get, slice_index}
use Rattle.fk_num.specs.Word.{Memory}
use Rattle.fk_meaning_operation.specs.declared.operation.Operation.{Operation}
use Rattle.fk_meaning_operation.specs.declared.operation.Operation.TheVariants.{Halt}
use Rattle.fk_meaning.specs.Processor.{Setting}
use Rattle.fk_meaning.specs.Schedule.{first_processor}
use Rattle.fk_core.specs.declared.op.CoreOp.{CoreOp}
use Rattle.fk_core.specs.Next.{position, is_jump}
use Rattle.fk_image.specs.declared.Image.{Image}
use Rattle.fk_machine.specs.Hart.{Hart, Setting as MachineSetting}
use Rattle.fk_machine.specs.Cycle.{first_hart}
use Rattle.fk_sim_nodes.specs.Node.{Member}
use Rattle.fk_sim_nodes.specs.Alone.{Holds, IsPrivateIn, RunsPrivately}
use Rattle.fk_sim_nodes.specs.OneHart.{OneDoes}
use Rattle.fk_sim_block.specs.Owner.{Owner, Doing, number_of, owner_of, core_source}
use Rattle.fk_sim_block.specs.Stands.{Places, StandsAt}
use Rattle.fk_sim_block.specs.Next.{OpAt}
use Rattle.fk_sim_block.specs.Ready.{is_alone, IsReady}

-- The most cycles that a block runs before its commit, and after it. With the one cycle of a jump,
-- that is at most 254 from one commit to the next.
abbrev pub most_before : ℕ
most_before = 70

abbrev pub most_behind : ℕ
most_behind = 183

-- A machine of this image runs with these numbers of processors and of input numbers.
pub record IsRunning (image : Image) (setting : Setting) (t : MachineSetting) : Type 0 where
  pub code : Holds image t
  pub processors : t.harts ≡ setting.processors
  pub inputs : t.inputs ≡ setting.inputs
  pub globals : length image.globals.items ≡ setting.globals
  pub few : setting.processors ≤ 1024
  pub few_inputs : setting.inputs ≤ 65536

abbrev pub member_of : Owner → Hart → Member
member_of p h = record { number = number_of p; hart = h }

-- The processor moved to another index.
abbrev pub gone_to : (index : ℕ) → Owner → Owner
gone_to i p = record p { runner = record (p.runner) { left = position i p.runner.left.callers } }

-- The processor with this number at the beginning of `main`.
abbrev pub beginner : Setting → (firsts : Memory) → (main number : ℕ) → Owner
beginner setting firsts main number =
    record {
      runner = record { left = position main []; has = first_processor setting firsts number };
      heap = record { words = λ i. 0; full = false };
    }

module _ (core : List CoreOp) (image : Image) (places : Places) where
  -- The hart is at the beginning of the block at index i, whose operation its processor is about to
  -- do.
  pub record Enters (setting : Setting) (t : MachineSetting) (i : ℕ) (op : CoreOp)
      (operation : Operation) (p : Owner) (h : Hart) : Type 0 where
    pub running : IsRunning image setting t
    pub number : number_of p < setting.processors
    pub index : p.runner.left.at ≡ i
    pub ready : IsReady op operation p.runner
    pub at : StandsAt places p h

  -- The processor has done its operation, and the hart is at the block where that processor goes
  -- on.
  pub record HasDone (d : Doing) (h : Hart) : Type 0 where
    pub done : d.acting.due ≡ None
    pub at : StandsAt places (owner_of d) h

  -- The hart runs `before` private instructions, commits once with this count, and runs `behind`
  -- private instructions after that. If an operation faults, the commit reports the fault.
  pub record Does (setting : Setting) (t : MachineSetting) (count : ℕ) (p : Owner)
      (h : Hart) : Type 0 where
    pub before : ℕ
    pub behind : ℕ
    pub few_before : before ≤ most_before
    pub few_behind : behind ≤ most_behind
    pub does : OneDoes (core_source core setting) image t count before behind (member_of p h) p
        (λ h' d. HasDone d h')

  -- The block of a local operation or of a request.
  abbrev pub BlockDoes : (count i : ℕ) → CoreOp → Operation → Type 0
  BlockDoes count i op operation =
      (setting : Setting) (t : MachineSetting) (p : Owner) (h : Hart)
      → Enters setting t i op operation p h → Does setting t count p h

  -- The block of a halt ends its hart.
  pub record Halts (setting : Setting) (t : MachineSetting) (count : ℕ) (p : Owner)
      (h : Hart) : Type 0 where
    pub before : ℕ
    pub few_before : before ≤ most_before
    pub does : OneDoes (core_source core setting) image t count before 0 (member_of p h) p
        (λ h' d. h'.ended ≡ true)

  abbrev pub BlockHalts : (count i : ℕ) → CoreOp → Type 0
  BlockHalts count i op =
      (setting : Setting) (t : MachineSetting) (p : Owner) (h : Hart)
      → Enters setting t i op Halt p h → Halts setting t count p h

  -- The block of a jump is one instruction, and does no operation.
  pub record Jumps (t : MachineSetting) (p : Owner) (h : Hart) (target : ℕ) : Type 0 where
    pub hart : Hart
    pub private : IsPrivateIn image t (number_of p) h hart
    pub at : StandsAt places (gone_to target p) hart

  abbrev pub BlockJumps : (i : ℕ) → CoreOp → Type 0
  BlockJumps i op =
      (t : MachineSetting) (p : Owner) (h : Hart) → Holds image t → p.runner.left.at ≡ i
      → StandsAt places p h
      → Jumps t p h op.target

  -- From its start each hart comes to the block where `main` begins.
  pub record Begins (t : MachineSetting) (p : Owner) : Type 0 where
    pub cycles : ℕ
    pub few : cycles ≤ most_behind
    pub hart : Hart
    pub runs : RunsPrivately image t (number_of p) cycles first_hart hart
    pub at : StandsAt places p hart

  -- The law of blocks for operations that a processor does alone. `GroupLaw` has the steps of the
  -- tree of groups and the joint operations.
  pub record BlockLaw (firsts : List ℕ) (main : ℕ) : Type 0 where
    pub alone : (i : ℕ) (op : CoreOp) (operation : Operation) → OpAt core i op operation
        → is_alone operation ≡ true
        → BlockDoes 1 i op operation
    pub halts : (i : ℕ) (op : CoreOp) → OpAt core i op Halt → BlockHalts 1 i op
    pub jumps : (i : ℕ) (op : CoreOp) → slice_get core i ≡ Some op → is_jump op ≡ true
        → BlockJumps i op
    pub begins : (setting : Setting) (t : MachineSetting) (number : ℕ) → IsRunning image setting t
        → number < setting.processors
        → Begins t (beginner setting (slice_index firsts) main number)
