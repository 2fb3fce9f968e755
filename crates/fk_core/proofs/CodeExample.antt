-- A program and a list that has its code: sh int x; void main(void) { start { x = $; } }
use Rattle.std.proofs.Common.{◌≡◌, ℕ, zero, suc, Bool, true, false, List, [], ◌∷◌, slice_get, Some, None, refl, arith}
use Rattle.std.specs.Prelude.{◌==◌, codes, if◌then◌else◌}
use Rattle.fk_syntax.specs.declared.program.Mode.TheVariants as m
use Rattle.fk_syntax.specs.declared.sign.Sign.TheVariants as g
use Rattle.fk_syntax.specs.Tree as t
use Rattle.fk_syntax.specs.Program as p
use Rattle.fk_syntax.specs.Program.{ProgramTree}
use Rattle.fk_meaning_operation.specs.declared.operation.OwnValue.TheVariants.{Rank, Processors}
use Rattle.fk_meaning_operation.specs.declared.operation.Operation.{Operation}
use Rattle.fk_meaning_operation.specs.declared.operation.Operation.TheVariants as o
use Rattle.fk_meaning_forms.specs.declared.tables.Home.TheVariants as h
use Rattle.fk_meaning_forms.specs.Code.{Code, done}
use Rattle.fk_meaning_forms.specs.Tables.{Tables}
use Rattle.fk_meaning_forms.specs.Program.{bodies_of}
use Rattle.fk_meaning_forms.proofs.Short.{place, sp, nm, ty, dc, nn, nt, kd, sl, function}
use Rattle.fk_core.specs.declared.op.CoreOp.{CoreOp}
use Rattle.fk_core.specs.Numbers.{operation_of}
use Rattle.fk_core.specs.CodeAt.{Stay, OpFrom, CodeAt}
use Rattle.fk_core.specs.WellFormed.{IsOperation, LeadsOn}
use Rattle.fk_core.specs.KeepsRuns.{HasCodeOf}
use Rattle.fk_core.proofs.Examples.{op}

abbrev program : ProgramTree
program = record {
  items =
      (p.VariablesItem ((dc true (ty t.Int 0) (nm (codes "x") 2 1 8) None None) ∷ []))
      ∷ (p.FunctionItem (function m.Async (ty t.Void 0) (nm (codes "main") 5 1 16) [] (Some ((p.statement (p.Start (sp 10 1 29) None (p.Block (p.statement (p.Expression (t.Assign (sp 13 1 39) g.Assign (t.Variable (nm (codes "x") 12 1 37)) (t.GroupRank (sp 14 1 41)))) p.no_statements))) p.no_statements)))))
      ∷ [];
  end = place 1 47;
  tokens = 18;
}

abbrev tables : Tables
tables = record {
  notes = nn ∷ nn ∷ nt 0 0 false false false ∷ nn ∷ nn ∷ nt 0 1 false false false ∷ nn ∷ nn ∷ nn ∷ nn ∷ nt 0 0 false false false ∷ nn ∷ nt 0 0 true true false ∷ nt 0 0 true false false ∷ nt 0 0 true false false ∷ [];
  kinds = kd 1 false false 0 ∷ [];
  slots = sl h.Global 0 ∷ sl h.NoWord 0 ∷ [];
  regions = [];
}

abbrev core : List CoreOp
core =
    op 2 0 5 0 0 ∷ op 23 1 0 7 1 ∷ op 1 2 268435456 0 0 ∷ op 2 3 2 0 1 ∷ op 14 4 0 0 2 ∷ op 4 5 0 0 1 ∷ op 29 6 0 7 0
    ∷ op 30 7 0 0 0 ∷ op 34 8 0 0 0 ∷ []

-- `main` is binding 1
abbrev entry : ℕ → ℕ
entry binding = if 1 == binding then 0 else 9

abbrev here : (i : ℕ) (op : CoreOp) (operation : Operation) → slice_get core i ≡ Some op → operation_of op.kind op.number ≡ Some operation
    → OpFrom core entry i op.site operation
here i op operation e r = record { at = i; op = op; leads = Stay; stands = e; is_read = r; has_site = refl }

main_stands : CodeAt core entry (bodies_of tables program 1) None 0 9
main_stands = (
  here 0 (op 2 0 5 0 0) (o.Get Processors) refl refl,
  1,
  λ callers. refl,
  λ callers. refl,
  (
    here 1 (op 23 1 0 7 1) o.Begin refl refl,
    2,
    7,
    7,
    λ callers. refl,
    λ callers. refl,
    (
      here 2 (op 1 2 268435456 0 0) (o.Push 268435456) refl refl,
      3,
      λ callers. refl,
      λ callers. refl,
      (
        here 3 (op 2 3 2 0 1) (o.Get Rank) refl refl,
        4,
        λ callers. refl,
        λ callers. refl,
        (
          here 4 (op 14 4 0 0 2) o.Write refl refl,
          5,
          λ callers. refl,
          λ callers. refl,
          (
            here 5 (op 4 5 0 0 1) o.DropLast refl refl,
            6,
            λ callers. refl,
            λ callers. refl,
            (here 6 (op 29 6 0 7 0) o.End refl refl, 7, λ callers. refl, λ callers. refl, Stay),
          ),
        ),
      ),
    ),
    Stay,
    (
      here 7 (op 30 7 0 0 0) o.Resume refl refl,
      8,
      λ callers. refl,
      λ callers. refl,
      (here 8 (op 34 8 0 0 0) o.Halt refl refl, 9, λ callers onward. refl, Stay),
    ),
  ),
)

abbrev nothing : Code ℕ
nothing = done

all_stand : (is_main : Bool) → CodeAt core entry (if is_main then bodies_of tables program 1 else nothing) None (if is_main then 0 else 9) 9
all_stand true = main_stands
all_stand false = Stay

abbrev is_operation : (i : ℕ) (op : CoreOp) (operation : Operation) → slice_get core i ≡ Some op → operation_of op.kind op.number ≡ Some operation → IsOperation core i
is_operation i op operation e r = record { op = op; operation = operation; stands = e; is_read = r }

leads_on : LeadsOn core
leads_on zero h = is_operation 0 (op 2 0 5 0 0) (o.Get Processors) refl refl
leads_on (suc zero) h = is_operation 1 (op 23 1 0 7 1) o.Begin refl refl
leads_on (suc (suc zero)) h = is_operation 2 (op 1 2 268435456 0 0) (o.Push 268435456) refl refl
leads_on (suc (suc (suc zero))) h = is_operation 3 (op 2 3 2 0 1) (o.Get Rank) refl refl
leads_on (suc (suc (suc (suc zero)))) h = is_operation 4 (op 14 4 0 0 2) o.Write refl refl
leads_on (suc (suc (suc (suc (suc zero))))) h = is_operation 5 (op 4 5 0 0 1) o.DropLast refl refl
leads_on (suc (suc (suc (suc (suc (suc zero)))))) h = is_operation 6 (op 29 6 0 7 0) o.End refl refl
leads_on (suc (suc (suc (suc (suc (suc (suc zero))))))) h = is_operation 7 (op 30 7 0 0 0) o.Resume refl refl
leads_on (suc (suc (suc (suc (suc (suc (suc (suc zero)))))))) h = is_operation 8 (op 34 8 0 0 0) o.Halt refl refl
leads_on (suc (suc (suc (suc (suc (suc (suc (suc (suc i))))))))) h = let e : ⊥ = omega arith in absurd e

has_code : HasCodeOf tables program core entry
has_code = record { leads_on = leads_on; stands = λ binding. all_stand (1 == binding) }
