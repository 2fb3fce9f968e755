-- The program in place of `fk_lockstep_structure`, with a frame at its `while`, is framed.
use Rattle.std.specs.Prelude.{◌≡◌, ◌==◌, Bool, true, false, [], Some, None, if◌then◌else◌}
use Rattle.std.proofs.Common.{refl}
use Rattle.fk_meaning_forms.specs.declared.tables.Region.{Region}
use Rattle.fk_meaning_forms.specs.Program.{functions_of, bodies_of, main_of}
use Rattle.fk_meaning.specs.Next.{going, next}
use Rattle.fk_lockstep.specs.Frames.{IsFramed}
use Rattle.fk_lockstep_structure.specs.Ahead.{all_outs}
use Rattle.fk_lockstep_structure.proofs.Example.{program, tables, may_call, is_in_place}
use Rattle.fk_lockstep_structure.specs.Framed.{AreFramed, depth}
use Rattle.fk_lockstep_structure.specs.Inner.{is_own, Inner, FunctionsInner}
use Rattle.fk_lockstep_structure.proofs.Whole.{code_is_framed}
use Rattle.fk_lockstep_structure.proofs.FramePrograms.{programs_are_framed}

abbrev frame : Region
frame = record { at = 3; part = 0; level = 1; words = 2 }

of_part : (is : Bool) → is_own (if is then Some frame else None) ≡ false
of_part true = refl
of_part false = refl

at_while : Inner tables 3
at_while part = of_part (0 == part)

are_inner : FunctionsInner tables may_call (functions_of program.items)
are_inner = (
  tt,
  (λ may. refl),
  (
    (tt, tt),
    (λ may. refl),
    (
      (
        ((λ part. refl), tt),
        (
          ((λ part. refl), ((at_while, ((λ part. refl), tt)), ((tt, (tt, tt)), (((λ part. refl), tt), tt)))),
          (((λ part. refl), tt), tt),
        ),
      ),
      (λ may. refl),
      tt,
    ),
  ),
)

are_framed : AreFramed may_call (bodies_of tables program) (main_of tables program)
are_framed = programs_are_framed tables program may_call is_in_place are_inner refl

is_framed : IsFramed (next (bodies_of tables program)) all_outs depth 0 true (going (bodies_of tables program (main_of tables program)) [])
is_framed = code_is_framed may_call (bodies_of tables program) (main_of tables program) are_framed
