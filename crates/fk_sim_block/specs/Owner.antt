-- Core runs as the turns of harts see them: each processor comes with its private heap, which
-- belongs to its hart alone, and the global heap is known by the words asked for.
use Rattle.std.specs.Prelude.{ℕ, ◌+◌, ◌==◌, Bool, true, false, List, Option, Some, None}
use Rattle.std.specs.Prelude.{if◌then◌else◌}
use Rattle.fk_num.specs.Word.{Memory, word_sum}
use Rattle.fk_meaning_operation.specs.declared.operation.Operation.{Operation}
use Rattle.fk_meaning_operation.specs.declared.operation.Operation.TheVariants.{Heap}
use Rattle.fk_meaning_store.specs.Store.{Store, heap_start}
use Rattle.fk_meaning_store.specs.Serve.{words_of}
use Rattle.fk_meaning.specs.Processor.{Setting, values, last}
use Rattle.fk_meaning.specs.Request.{with_answer}
use Rattle.fk_meaning.specs.Round.{Step, Runner, Acting, Phase, Passes, Breaks, taking, done, begin}
use Rattle.fk_meaning.specs.Round.{local_phase, request_phase}
use Rattle.fk_core.specs.declared.op.CoreOp.{CoreOp}
use Rattle.fk_core.specs.Next.{Position, next}
use Rattle.fk_sim_nodes.specs.Source as nodes
use Rattle.fk_sim_heap.specs.Count.{added_by, is_past, block_at, asked_word}

-- What all processors share: shared data, the output, and how many words of the global heap were
-- asked for.
pub record Commons : Type 0 where
  pub words : Memory
  pub output : List ℕ
  pub asked : ℕ

abbrev pub commons_of : (asked : ℕ) → Store → Commons
commons_of asked s = record { words = s.words; output = s.output; asked = asked }

-- What a processor has of heaps: the words of its private heap, and whether it has found the global
-- heap full.
pub record Heaps : Type 0 where
  pub words : Memory
  pub full : Bool

-- The store as a processor with this private heap finds it. The top of the global heap is not known
-- in it.
abbrev pub found : Commons → Heaps → Store
found s heap = record { words = s.words; heaps = λ h. heap.words; top = 0; output = s.output }

-- A processor: what it has, what it has left to do, and its heaps.
pub record Owner : Type 0 where
  pub runner : Runner Position
  pub heap : Heaps

-- A processor in a round.
pub record Doing : Type 0 where
  pub acting : Acting Position
  pub heap : Heaps

abbrev pub number_of : Owner → ℕ
number_of p = p.runner.has.number

-- A processor that is not in the round, and a processor as its part in a round leaves it.
abbrev pub idle : Owner → Doing
idle p = record { acting = taking p.runner None; heap = p.heap }

abbrev pub owner_of : Doing → Owner
owner_of d = record { runner = d.acting.runner; heap = d.heap }

-- The part of a processor in a round: it passes, with what the processor has become, or it faults
-- at a site. The words asked for, and whether it has found the global heap full, are as before.
abbrev pub as_part : (asked : ℕ) → Owner → Phase Position → nodes.Part Commons Doing
as_part asked p (Passes s a) =
    nodes.Passes (commons_of asked s)
    (record { acting = a; heap = record (p.heap) { words = s.heaps (number_of p) } })
as_part asked p (Breaks site) = nodes.Breaks site

-- A request for a block of the global heap is answered by the words asked for before it.
abbrev pub is_hire : Operation → Bool
is_hire Heap = true
is_hire operation = false

abbrev pub hires : (first : ℕ) → Commons → Owner → Acting Position → Step Position
    → nodes.Part Commons Doing
hires first s p a step =
    let added = added_by p.heap.full (words_of (last (values a.runner.has))) in
    let answer = block_at first s.asked added in
    nodes.Passes (record s { asked = word_sum s.asked added }) (record {
      acting = done step true (with_answer step.operation answer a.runner.has);
      heap = record (p.heap) { full = is_past first (word_sum s.asked added) };
    })

module _ (core : List CoreOp) (setting : Setting) where
  -- The phase of requests, for a processor that has taken an operation or none.
  abbrev pub asks : Commons → Owner → Acting Position → Option (Step Position)
      → nodes.Part Commons Doing
  asks s p a None = as_part s.asked p (Passes (found s p.heap) a)
  asks s p a (Some step) =
      if is_hire step.operation
      then hires (heap_start (setting.globals + setting.inputs)) s p a step
      else as_part s.asked p (request_phase (found s p.heap) a (Some step))

  -- The phases of local operations and of requests.
  abbrev pub phases : Commons → Owner → Acting Position → nodes.Part Commons Doing
  phases s p a = let b = local_phase (next core) setting a a.due in asks s p b b.due

  abbrev pub part : (count : ℕ) → Commons → Owner → nodes.Part Commons Doing
  part count s p = phases s p (begin (next core) setting count p.runner)

  -- The source that harts follow. Shared data and output show its stores, and so does the control
  -- word that counts the words asked for.
  abbrev pub core_source : nodes.Source Commons Owner Doing
  core_source = record {
    words = λ s. s.words;
    output = λ s. s.output;
    common = λ i. i == asked_word;
    control = λ s. λ i. s.asked;
    part = part;
  }
