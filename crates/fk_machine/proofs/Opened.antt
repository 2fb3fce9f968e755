-- A machine of the code before its first cycle is the opening of the machine.
use Rattle.std.proofs.Common.{◌≡◌, ℕ, List, [], ◌++◌, length, Option, None}
use Rattle.std.specs.Prelude.{map, replicate, slice_index}
use Rattle.fk_num.specs.Word.{Memory}
use Rattle.fk_image.specs.declared.Image.{Image}
use Rattle.fk_isa.specs.declared.instruction.Instruction.{Instruction}
use Rattle.fk_isa.specs.Find.{row}
use Rattle.fk_machine.specs.declared.stand.Stand.TheVariants.{Running}
use Rattle.fk_machine.specs.Commit.{Commits, commits_of}
use Rattle.fk_machine.specs.Hart.{Hart, Reservations}
use Rattle.fk_machine.specs.Cycle.{first_hart, machine_opening}

pub opened : (image : Image) (input : List ℕ) (p : ℕ) (code : List (Option Instruction)) (commits : Commits) (hs : List Hart) (ran : List (Option ℕ)) (words control : Memory) (output : List ℕ) (reserved : Reservations) (inputs begun : ℕ) → code ≡ map row image.code.items → commits ≡ commits_of image.commits.items → hs ≡ replicate p first_hart → ran ≡ replicate p None → words ≡ slice_index (image.globals.items ++ input) → control ≡ (λ i. 0) → output ≡ [] → reserved ≡ (λ number. None) → inputs ≡ length input → begun ≡ 0 → record { code = code; commits = commits; harts = hs; ran = ran; shared = record { words = words; control = control; output = output; reserved = reserved }; inputs = inputs; begun = begun; stand = Running } ≡ machine_opening image input p
opened image input p code commits hs ran words control output reserved inputs begun code_is commits_are harts_are ran_is words_are control_is output_is reserved_is inputs_are begun_is = cc
