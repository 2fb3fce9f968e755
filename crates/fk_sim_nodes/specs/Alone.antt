-- What a hart does alone, and what the members of a node do alone: cycles in which nothing shared
-- changes except reservations and their node's own words.
use Rattle.std.specs.Prelude.{◌≡◌, ℕ, zero, suc, ◌+◌, ◌*◌, ◌<◌, List, [], ◌∷◌, Some, Bool, true}
use Rattle.std.specs.Prelude.{false, map, slice_get}
use Rattle.fk_num.specs.Limits.{most_code_words}
use Rattle.fk_num.specs.Word.{Memory}
use Rattle.fk_image.specs.declared.Image.{Image}
use Rattle.fk_isa.specs.declared.instruction.Instruction.{Instruction}
use Rattle.fk_isa.specs.Find.{row}
use Rattle.fk_machine.specs.Hart.{Hart, Shared, Setting, Reservations, Effect, Goes}
use Rattle.fk_machine.specs.Step.{step}
use Rattle.fk_machine.specs.Run.{count_in}
use Rattle.fk_sim_nodes.specs.Node.{Member, Words, Has}

-- The machine runs this image.
abbrev pub Holds : Image → Setting → Type 0
Holds image t = t.code ≡ map row image.code.items

-- Word k of the code is this instruction, and its address has this count.
pub record IsAt (image : Image) (k : ℕ) (i : Instruction) (count : ℕ) : Type 0 where
  pub within : k < most_code_words
  pub fetched : slice_get (map row image.code.items) k ≡ Some (Some i)
  pub counted : count_in image.commits.items (4 * k) ≡ count

-- The next cycle, and the cycle that comes `d` cycles later.
abbrev pub later : Setting → Setting
later t = record t { finished = t.finished + 1 }

abbrev pub in_cycles : ℕ → Setting → Setting
in_cycles zero t = t
in_cycles (suc d) t = in_cycles d (later t)

-- A hart goes on, and of what is shared only reservations may change.
abbrev pub GoesAlone : Effect → Hart → Shared → Type 0
GoesAlone effect h s = (reserved : Reservations)
    × (effect ≡ Goes h (record s { reserved = reserved }))

-- In this cycle the hart with this number runs an instruction that does not commit, and that
-- touches nothing but the hart. What it does may depend on the cycle and on the number.
pub record IsPrivateIn (image : Image) (t : Setting) (number : ℕ) (h h' : Hart) : Type 0 where
  pub live : h.ended ≡ false
  pub counted : count_in image.commits.items h.pc ≡ 0
  pub goes : (s : Shared) → GoesAlone (step t number h s) h' s

-- The hart runs this many such instructions, from this cycle on.
abbrev pub RunsPrivately : Image → Setting → (number cycles : ℕ) → Hart → Hart → Type 0
RunsPrivately image t number zero h h' = h ≡ h'
RunsPrivately image t number (suc d) h h' =
    (h1 : Hart) × IsPrivateIn image t number h h1 × RunsPrivately image (later t) number d h1 h'

-- A hart goes on, and of what is shared only reservations and the node's own words may change.
pub record GoesWithin (mine : Words) (effect : Effect) (h : Hart) (sh : Shared)
    (own : Memory) : Type 0 where
  pub control : Memory
  pub reserved : Reservations
  pub goes : effect ≡ Goes h (record sh { control = control; reserved = reserved })
  pub has : Has mine control own
  pub keeps : (i : ℕ) → mine i ≡ false → control i ≡ sh.control i

module _ (image : Image) (mine : Words) where
  -- In this cycle a member runs an instruction, of count c, that touches nothing but its hart and
  -- the node's own words.
  pub record Stays (t : Setting) (c : ℕ) (m : Member) (own : Memory) (h' : Hart)
      (own' : Memory) : Type 0 where
    pub live : m.hart.ended ≡ false
    pub counted : count_in image.commits.items m.hart.pc ≡ c
    pub goes : (sh : Shared) → Has mine sh.control own
        → GoesWithin mine (step t m.number m.hart sh) h' sh own'

  -- In this cycle all members run such an instruction, each on the words that those before it have
  -- left. `Then` holds of the members and the words after that.
  abbrev pub NodeCycle : Setting → (c : ℕ) → List Member → (own : Memory)
      → (List Member → Memory → Type 0) → Type 0
  NodeCycle t c [] own Then = Then [] own
  NodeCycle t c (m ∷ ms) own Then =
      (h' : Hart) × (own' : Memory) × Stays t c m own h' own'
      × NodeCycle t c ms own' (λ ms' own''. Then (record m { hart = h' } ∷ ms') own'')

  -- This many cycles in which no member commits.
  abbrev pub NodeRun : Setting → (cycles : ℕ) → List Member → (own : Memory)
      → (List Member → Memory → Type 0) → Type 0
  NodeRun t zero ms own Then = Then ms own
  NodeRun t (suc d) ms own Then =
      NodeCycle t 0 ms own (λ ms' own'. NodeRun (later t) d ms' own' Then)

-- Each member has d private instructions to go, which lead to the hart in its place.
abbrev pub AllRunPrivately : Image → Setting → (cycles : ℕ) → List Member → List Hart → Type 0
AllRunPrivately image t d [] [] = Unit {0}
AllRunPrivately image t d (m ∷ ms) (h' ∷ hs') =
    RunsPrivately image t m.number d m.hart h' × AllRunPrivately image t d ms hs'
AllRunPrivately image t d ms hs' = ⊥

-- Members with other harts.
abbrev pub with_harts : List Member → List Hart → List Member
with_harts (m ∷ ms) (h ∷ hs) = record m { hart = h } ∷ with_harts ms hs
with_harts [] hs = []
with_harts (m ∷ ms) [] = []

-- Members at any places that have equally many private instructions to go run them as a run of
-- their node, and leave its words as they are.
abbrev pub PrivateRunsAreNodeRuns : Type 0
PrivateRunsAreNodeRuns =
    (image : Image) (mine : Words) (t : Setting) (d : ℕ) (ms : List Member)
    (hs' : List Hart) (own : Memory)
    → AllRunPrivately image t d ms hs'
    → NodeRun image mine t d ms own (λ ms' own'. (ms' ≡ with_harts ms hs') × (own' ≡ own))

-- A run of a node, and one from where it ends, are one run.
abbrev pub NodeRunsJoin : Type 0
NodeRunsJoin =
    (image : Image) (mine : Words) (t : Setting) (d e : ℕ) (ms : List Member) (own : Memory)
    (test : List Member → Memory → Bool)
    → NodeRun image mine t d ms own (λ ms' own'.
    NodeRun image mine (in_cycles d t) e ms' own' (λ ms'' own''. test ms'' own'' ≡ true))
    → NodeRun image mine t (d + e) ms own (λ ms'' own''. test ms'' own'' ≡ true)
