-- A source, bytes that are no image, or an input text that is refused ends a call with the report of why.
use Rattle.std.proofs.Common.{◌≡◌, ℕ, List, Result, Ok, Err, IfOk, Option, Some, None, sym, ap, ◌∙◌, ◌⊎◌, inl, inr}
use Rattle.std.specs.Prelude.{IsErr, IsOkAnd, MatchOption, vec_len}
use Rattle.std.specs.Option.{option_map}
use Rattle.std.specs.declared.alloc.AllocError.{AllocError}
use Rattle.fk_image.specs.declared.Image.{Image}
use Rattle.fk_image.specs.declared.fault.ImageFault.{ImageFault}
use Rattle.fk_image.specs.declared.fault.ImageFault.TheVariants as image
use Rattle.fk_image.specs.Refusals.{IsFault}
use Rattle.fk_image.specs.Refusals as images
use Rattle.fk_elf.specs.declared.fault.ElfFault.{ElfFault}
use Rattle.fk_elf.specs.declared.fault.ElfFault.TheVariants as elf
use Rattle.fk_elf.specs.Refusals as files
use Rattle.fk_top_input.specs.declared.fault.InputFault.{InputFault}
use Rattle.fk_top_input.specs.declared.fault.InputFault.TheVariants.{Memory}
use Rattle.fk_compile_text.specs.declared.refusal.Refusal.{Refusal}
use Rattle.fk_compile_text.specs.Refusal.{IsRefusedText}
use Rattle.fk_top.specs.declared.ending.Ending.{Ending}
use Rattle.fk_top.specs.declared.report.Report.{Report}
use Rattle.fk_top.specs.declared.status.Status.TheVariants.{Refused, ImageRefused, InputRefused, ElfRefused}
use Rattle.fk_top.specs.declared.ending.LastLine.{LastLine}
use Rattle.fk_top.specs.Ending.{last_line, outcome_of}
use Rattle.fk_top.specs.Report.{line_of}
use Rattle.fk_top_input.specs.Input.{input_of}
use Rattle.fk_top.specs.Outcome.{silent, most_numbers, numbers_for, RefusesSource, RefusesElf, RefusesImage, RefusesInput, RefusesInputBeside}
use Rattle.fk_top.specs.Refused.{elf_report_of, image_report_of, input_report_of, refusal_line}

pub refusing : (source : List ℕ) (refusal : Refusal) (line : Option LastLine) (r : Result Ending AllocError) (Q : Ending → Type 0)
    → IsRefusedText source refusal → option_map last_line line ≡ refusal_line refusal → MatchOption line (IsErr r) (λ x. IsOkAnd r (λ e. outcome_of e ≡ silent Refused (last_line x)))
    → IfOk r (λ e. RefusesSource source (outcome_of e) ⊎ Q e)
refusing source refusal (Some x) (Ok e) Q refused says is =
    inl (record { line = last_line x; refused = record { refusal = refusal; refused = refused; says = sym says }; is = is })
refusing source refusal None (Ok e) Q refused says is = absurd (cc)
refusing source refusal line (Err error) Q refused says is = tt

-- a fault of bytes that has a report says why they are no image
no_image : (bytes : List ℕ) (fault : ImageFault) (report : Report) → IsFault bytes fault → image_report_of fault ≡ Some report → images.IsRefusedImage bytes fault
no_image bytes image.Magic report refused says = refused
no_image bytes (image.Version version) report refused says = refused
no_image bytes (image.Short length wanted) report refused says = refused
no_image bytes (image.LongTail wanted) report refused says = refused
no_image bytes (image.BadTable entry) report refused says = refused
no_image bytes (image.BadWord word) report refused says = refused
no_image bytes (image.Memory e) report refused says = absurd (cc)

pub refusing_image : (bytes : List ℕ) (fault : ImageFault) (report : Option Report) (r : Result Ending AllocError) (Q : Ending → Type 0)
    → IsFault bytes fault → report ≡ image_report_of fault → MatchOption report (IsErr r) (λ x. IsOkAnd r (λ e. outcome_of e ≡ silent ImageRefused (line_of x)))
    → IfOk r (λ e. RefusesImage bytes (outcome_of e) ⊎ Q e)
refusing_image bytes fault (Some x) (Ok e) Q refused says is =
    inl (record { report = x; refused = record { fault = fault; refused = no_image bytes fault x refused (sym says); says = sym says }; is = is })
refusing_image bytes fault None (Ok e) Q refused says is = absurd (cc)
refusing_image bytes fault report (Err error) Q refused says is = tt

-- a fault of bytes that has a report says why they are the file of no image
no_elf : (bytes : List ℕ) (fault : ElfFault) (report : Report) → files.IsFault bytes fault → elf_report_of fault ≡ Some report → files.IsRefusedElf bytes fault
no_elf bytes (elf.ElfHeader offset) report refused says = refused
no_elf bytes (elf.ElfShort length wanted) report refused says = refused
no_elf bytes (elf.ElfTail wanted) report refused says = refused
no_elf bytes elf.ElfSizes report refused says = refused
no_elf bytes (elf.ElfTable entry) report refused says = refused
no_elf bytes (elf.Memory e) report refused says = absurd (cc)

pub refusing_elf : (bytes : List ℕ) (fault : ElfFault) (report : Option Report) (r : Result Ending AllocError) (Q : Ending → Type 0)
    → files.IsFault bytes fault → report ≡ elf_report_of fault → MatchOption report (IsErr r) (λ x. IsOkAnd r (λ e. outcome_of e ≡ silent ElfRefused (line_of x)))
    → IfOk r (λ e. RefusesElf bytes (outcome_of e) ⊎ Q e)
refusing_elf bytes fault (Some x) (Ok e) Q refused says is =
    inl (record { report = x; refused = record { fault = fault; refused = no_elf bytes fault x refused (sym says); says = sym says }; is = is })
refusing_elf bytes fault None (Ok e) Q refused says is = absurd (cc)
refusing_elf bytes fault report (Err error) Q refused says is = tt

pub refusing_input_beside : (globals : ℕ) (text : List ℕ) (fault : InputFault) (report : Option Report) (r : Result Ending AllocError) (Q : Ending → Type 0)
    → (fault ≡ Memory) ⊎ (input_of (most_numbers globals) text ≡ Err fault) → report ≡ input_report_of fault
    → MatchOption report (IsErr r) (λ x. IsOkAnd r (λ e. outcome_of e ≡ silent InputRefused (line_of x))) → IfOk r (λ e. RefusesInputBeside globals text (outcome_of e) ⊎ Q e)
refusing_input_beside globals text fault (Some x) (Ok e) Q (inl memory) says is = let none : Some x ≡ None = says ∙ ap input_report_of memory in absurd (cc)
refusing_input_beside globals text fault (Some x) (Ok e) Q (inr refused) says is =
    inl (record { fault = fault; refused = refused; report = x; says = sym says; is = is })
refusing_input_beside globals text fault None (Ok e) Q refused says is = absurd (cc)
refusing_input_beside globals text fault report (Err error) Q refused says is = tt

pub refusing_input : (image : Image) (text : List ℕ) (fault : InputFault) (report : Option Report) (r : Result Ending AllocError) (Q : Ending → Type 0)
    → (fault ≡ Memory) ⊎ (numbers_for image text ≡ Err fault) → report ≡ input_report_of fault
    → MatchOption report (IsErr r) (λ x. IsOkAnd r (λ e. outcome_of e ≡ silent InputRefused (line_of x))) → IfOk r (λ e. RefusesInput image text (outcome_of e) ⊎ Q e)
refusing_input image = refusing_input_beside (vec_len image.globals)
