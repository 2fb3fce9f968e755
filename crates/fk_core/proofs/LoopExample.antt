-- A loop that is left by `break`, and the list in which it stands: while (__PROC_NR__) break;
use Rattle.std.proofs.Common.{ℕ, true, List, [], ◌∷◌, None, refl}
use Rattle.fk_meaning_operation.specs.declared.operation.OwnValue.TheVariants.{ProcessorNumber}
use Rattle.fk_meaning_operation.specs.declared.operation.Operation.TheVariants.{Get, Branch, Halt}
use Rattle.fk_meaning_forms.specs.Code.{Code, done, perform, while, quit, break, ends}
use Rattle.fk_core.specs.declared.op.CoreOp.{CoreOp}
use Rattle.fk_core.specs.CodeAt.{Loop, Stay, Go, OpFrom, CodeAt}
use Rattle.fk_core.proofs.Examples.{op}

abbrev loop_code : Code ℕ
loop_code = while (perform 0 (Get ProcessorNumber) (quit 1 (Branch true) done)) (break done) done (ends 2 Halt done)

abbrev loop_core : List CoreOp
loop_core = op 2 0 4 0 0 ∷ op 9 1 1 4 1 ∷ op 0 0 0 4 0 ∷ op 0 0 0 0 0 ∷ op 34 2 0 0 0 ∷ []

abbrev no_entry : ℕ → ℕ
no_entry f = 0

abbrev get_at : OpFrom loop_core no_entry 0 0 (Get ProcessorNumber)
get_at = record { at = 0; op = op 2 0 4 0 0; leads = Stay; stands = refl; is_read = refl; has_site = refl }

abbrev branch_at : OpFrom loop_core no_entry 1 1 (Branch true)
branch_at = record { at = 1; op = op 9 1 1 4 1; leads = Stay; stands = refl; is_read = refl; has_site = refl }

abbrev halt_at : OpFrom loop_core no_entry 4 2 Halt
halt_at = record { at = 4; op = op 34 2 0 0 0; leads = Stay; stands = refl; is_read = refl; has_site = refl }

abbrev loop : Loop
loop = record { behind = 4; onward = 3 }

loop_stands : CodeAt loop_core no_entry loop_code None 0 5
loop_stands = (
  0,
  2,
  loop,
  Stay,
  refl,
  refl,
  (get_at, 1, λ callers. refl, λ callers. refl, (branch_at, 2, loop, refl, λ callers. refl, λ callers. refl, Stay)),
  (3, loop, refl, Go (op 0 0 0 4 0) refl refl Stay, Stay),
  Go (op 0 0 0 0 0) refl refl Stay,
  (halt_at, 5, λ callers onward. refl, Stay),
)
