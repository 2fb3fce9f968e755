-- Members at one place run the same instruction in one cycle, each on the words that those before
-- it have left.
use Rattle.std.specs.Prelude.{◌≡◌, ℕ, suc, ◌*◌, ◌%◌, ◌==◌, List, [], ◌∷◌, ◌++◌, true, false}
use Rattle.fk_num.specs.Word.{Memory, word_sum}
use Rattle.fk_image.specs.declared.Image.{Image}
use Rattle.fk_isa.specs.declared.instruction.Instruction.{Instruction}
use Rattle.fk_isa.specs.declared.instruction.Instruction.TheVariants.{Lw, Sw, AmoAddW}
use Rattle.fk_isa.specs.Step.{set_register}
use Rattle.fk_machine.specs.declared.place.Location.TheVariants.{ControlWord}
use Rattle.fk_machine.specs.Place.{place_of}
use Rattle.fk_machine.specs.Hart.{Hart, Shared, Setting}
use Rattle.fk_machine.specs.Step.{perform}
use Rattle.fk_sim_nodes.specs.Node.{Member, add, Words}
use Rattle.fk_sim_nodes.specs.Alone.{Holds, IsAt, GoesAlone, NodeCycle}

-- All members are live, and at word k of the code.
abbrev pub AllAreAt : (k : ℕ) → List Member → Type 0
AllAreAt k [] = Unit {0}
AllAreAt k (m ∷ ms) = (m.hart.pc ≡ 4 * k) × (m.hart.ended ≡ false) × AllAreAt k ms

-- Each member with what a function makes of its hart.
abbrev pub on_each : (Member → Hart) → List Member → List Member
on_each f [] = []
on_each f (m ∷ ms) = record m { hart = f m } ∷ on_each f ms

-- A hart at its next instruction, and one that also has a value in a register.
abbrev pub onward : Hart → Hart
onward h = record h { pc = word_sum h.pc 4 }

abbrev pub onward_with : (register value : ℕ) → Hart → Hart
onward_with r v h = record h { registers = set_register h.registers r v; pc = word_sum h.pc 4 }

-- An address is that of a control word that the node owns.
pub record IsOwnWord (mine : Words) (address word : ℕ) : Type 0 where
  pub aligned : address % 4 ≡ 0
  pub place : place_of address ≡ ControlWord word
  pub own : mine word ≡ true

-- Each member's address is that of a word that the node owns. The words may differ.
abbrev pub AllAtOwn : Words → (address : Hart → ℕ) → (word : Member → ℕ) → List Member → Type 0
AllAtOwn mine address word [] = Unit {0}
AllAtOwn mine address word (m ∷ ms) = IsOwnWord mine (address m.hart) (word m)
    × AllAtOwn mine address word ms

-- The values in a register of those members whose word is w.
abbrev pub values_for : (word : Member → ℕ) → (register w : ℕ) → List Member → List ℕ
values_for word r w [] = []
values_for word r w (m ∷ ms) = add (w == word m) (m.hart.registers r) (values_for word r w ms)

-- The last value of a list, or v if the list is empty; and the sum of v and all values.
abbrev pub last_or : ℕ → List ℕ → ℕ
last_or v [] = v
last_or v (x ∷ xs) = last_or x xs

abbrev pub sum_from : ℕ → List ℕ → ℕ
sum_from v [] = v
sum_from v (x ∷ xs) = sum_from (word_sum v x) xs

-- Each member with its word's value in a register, to which those before it have added.
abbrev pub each_finds : (word : Member → ℕ) → (rd rv : ℕ) → (own : Memory) → (before : List Member)
    → List Member → List Member
each_finds word rd rv own before [] = []
each_finds word rd rv own before (m ∷ ms) =
    record m
    { hart = onward_with rd (sum_from (own (word m)) (values_for word rv (word m) before)) m.hart }
    ∷ each_finds word rd rv own (before ++ m ∷ []) ms

-- The instruction of all members touches nothing but the hart. What it does may differ by hart and
-- cycle.
abbrev pub AllGoAlone : Setting → Instruction → (Member → Hart) → List Member → Type 0
AllGoAlone t i f [] = Unit {0}
AllGoAlone t i f (m ∷ ms) = ((s : Shared) → GoesAlone (perform t m.number i m.hart s) (f m) s)
    × AllGoAlone t i f ms

abbrev pub PrivateOfAll : Type 0
PrivateOfAll =
    (image : Image) (mine : Words) (t : Setting) (k c : ℕ) (i : Instruction) (f : Member → Hart)
    (ms : List Member) (own : Memory)
    → Holds image t → IsAt image k i c → AllAreAt k ms → AllGoAlone t i f ms
    → NodeCycle image mine t c ms own (λ ms' own'. (ms' ≡ on_each f ms) × (own' ≡ own))

-- Each member loads its own word.
abbrev pub LoadsOfAll : Type 0
LoadsOfAll =
    (image : Image) (mine : Words) (t : Setting) (k c rd rs imm : ℕ) (word : Member → ℕ)
    (ms : List Member) (own : Memory)
    → Holds image t → IsAt image k (Lw rd rs imm) c → AllAreAt k ms
    → AllAtOwn mine (λ h. word_sum (h.registers rs) imm) word ms
    → NodeCycle image mine t c ms own
    (λ ms' own'. (ms' ≡ on_each (λ m. onward_with rd (own (word m)) m.hart) ms) × (own' ≡ own)
    × AllAreAt (suc k) ms')

-- The last value that is stored to a word stays.
abbrev pub StoresOfAll : Type 0
StoresOfAll =
    (image : Image) (mine : Words) (t : Setting) (k c rs rv imm : ℕ) (word : Member → ℕ)
    (ms : List Member) (own : Memory)
    → Holds image t → IsAt image k (Sw rs rv imm) c → AllAreAt k ms
    → AllAtOwn mine (λ h. word_sum (h.registers rs) imm) word ms
    → NodeCycle image mine t c ms own
    (λ ms' own'. (ms' ≡ on_each (λ m. onward m.hart) ms)
    × ((w : ℕ) → own' w ≡ last_or (own w) (values_for word rv w ms)) × AllAreAt (suc k) ms')

-- A word becomes the sum of what is added to it, and each member finds the sum of those before it.
abbrev pub AddsOfAll : Type 0
AddsOfAll =
    (image : Image) (mine : Words) (t : Setting) (k c rd rs rv : ℕ) (word : Member → ℕ)
    (ms : List Member) (own : Memory)
    → Holds image t → IsAt image k (AmoAddW rd rs rv false false) c → AllAreAt k ms
    → AllAtOwn mine (λ h. h.registers rs) word ms
    → NodeCycle image mine t c ms own
    (λ ms' own'. (ms' ≡ each_finds word rd rv own [] ms)
    × ((w : ℕ) → own' w ≡ sum_from (own w) (values_for word rv w ms)) × AllAreAt (suc k) ms')
