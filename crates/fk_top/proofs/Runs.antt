-- What is written of a machine's run, and what a run comes to.
use Rattle.std.proofs.Common.{◌≡◌, ℕ, ◌-◌, List, Option, Some, None, Result, Ok, Err, true, false, refl, sym, ap, ◌∙◌, arith}
use Rattle.std.specs.Prelude.{OnErr, OnOk, is_err}
use Rattle.fk_image.specs.declared.Image.{Image}
use Rattle.fk_machine.specs.Cycle.{Machine, machine_opening}
use Rattle.fk_machine.specs.Run.{machine, after, output_of}
use Rattle.fk_machine.proofs.Runs.{machine-after, output_of-after}
use Rattle.fk_ports.specs.Known.{TakesPrefix}
use Rattle.fk_ports.proofs.Given.{TakesPrefix-longer}
use Rattle.fk_top.specs.Outcome.{Outcome, Writing, Prints, Traces, ran, status_of, stand_report, with_shown, written}
use Rattle.fk_top.specs.Ending.{run_text}
use Rattle.fk_top.specs.Report.{line_of}
use Rattle.fk_layout_globals.specs.Rows.{Row}

-- what is written of the run of an image's machine
text_is : (image : Image) (input : List ℕ) (p n : ℕ) (writing : Writing) → run_text n (machine_opening image input p) writing ≡ written image input p n writing
text_is image input p n (Prints shown) =
    ap (λ bytes. with_shown bytes shown (after n (machine_opening image input p))) (sym (output_of-after image input p n))
    ∙ ap (λ (m : Machine). with_shown (output_of image input p n) shown m) (sym (machine-after image input p n))
text_is image input p n Traces = refl

-- what the run of a machine comes to
abbrev pub run_of : Image → ℕ → Machine → Writing → Outcome
run_of image bound m writing =
    let end = after bound m in
    record {
      status = status_of end.stand;
      put = None;
      output = run_text bound m writing;
      line = line_of (stand_report image bound end.stand end.begun);
    }

pub run_is : (image : Image) (input other : List ℕ) (p n : ℕ) (writing : Writing) (m : Machine) → other ≡ input → m ≡ machine_opening image other p
    → run_of image n m writing ≡ ran image input p n writing
run_is image input other p n writing m same opening =
    let start = machine_opening image input p in
    let is = opening ∙ ap (λ numbers. machine_opening image numbers p) same in
    ap (λ (l : Machine). run_of image n l writing) is
    ∙ ap (λ (end : Machine). record { status = status_of end.stand; put = None; output = run_text n start writing; line = line_of (stand_report image n end.stand end.begun) }) (sym (machine-after image input p n))
    ∙ ap (λ text. record { status = status_of (machine image input p n).stand; put = None; output = text; line = line_of (stand_report image n (machine image input p n).stand (machine image input p n).begun) }) (text_is image input p n writing)

-- a part of what a program prints is a part of it with a line behind
pub part_shown : (before now : Option (List ℕ)) (bytes : List ℕ) (shown : Option Row) (m : Machine) → TakesPrefix before now bytes → TakesPrefix before now (with_shown bytes shown m)
part_shown before now bytes None m part = part
part_shown before now bytes (Some row) m part = TakesPrefix-longer before now bytes _ part

-- all cycles of a machine of which none was run
pub all_left : (bound begun : ℕ) → begun ≡ 0 → bound - begun ≡ bound
all_left bound begun none = omega (arith, none)

-- what holds after an error holds where a result is one, and so for a result that is none
pub on_is_err : {A E : Type 0} (r : Result A E) (P : Type 0) → is_err r ≡ true → OnErr r P → P
on_is_err (Ok a) P is holds = absurd (cc)
on_is_err (Err e) P is holds = holds

pub on_is_ok : {A E : Type 0} (r : Result A E) (P : Type 0) → is_err r ≡ false → OnOk r P → P
on_is_ok (Ok a) P is holds = holds
on_is_ok (Err e) P is holds = absurd (cc)
