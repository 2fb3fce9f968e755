-- Flat lists that were made by another interpreter of the same rules.
use Rattle.std.proofs.Common.{◌≡◌, ℕ, ◌+◌, ◌≤◌, ◌<◌, Bool, true, false, List, [], ◌∷◌, length, Option, Some, None, inl, inr, refl, arith}
use Rattle.std.specs.Prelude.{◌==◌, nat_lt, map, ◌⊎◌}
use Rattle.std.proofs.lemmas.Bool.{ltb-true, ltb-false}
use Rattle.fk_num.specs.declared.operator.Op.TheVariants.{Add, Sub, Mul, LtS, Eq}
use Rattle.fk_meaning_operation.specs.declared.operation.OwnValue.TheVariants.{Value}
use Rattle.fk_meaning_operation.specs.declared.operation.Variable.TheVariants.{Private}
use Rattle.fk_meaning_operation.specs.declared.operation.Operation.{Operation}
use Rattle.fk_meaning_operation.specs.declared.operation.Operation.TheVariants.{Push, Get, Set, DropLast, Binary, Branch, Leave, Enter, PrintNumber, PrintByte, Halt}
use Rattle.fk_meaning_forms.specs.Code.{Code, done, perform, choose, while, until, quit, break, continue, call, ends}
use Rattle.fk_core.specs.declared.op.CoreOp.{CoreOp}
use Rattle.fk_core.specs.Numbers.{operation_of}
use Rattle.fk_core.proofs.Examples.{op, loops_core, recursion_core as core}
use Rattle.fk_core_flat.specs.Items.{Item, jump, act, Has}
use Rattle.fk_core_flat.specs.Flat.{extent, label, flat}
use Rattle.fk_core_flat.specs.Shape.{is_done, is_closed, IsShaped}
use Rattle.fk_core_flat.specs.Laws.{AreShaped, IsFlat}

-- which item an operation of a list is
abbrev item_by : Option Operation → CoreOp → Item
item_by None op = jump op.target
item_by (Some operation) op = act op.site operation op.target

abbrev item_of : CoreOp → Item
item_of op = item_by (operation_of op.kind op.number) op

abbrev pub i : Operation
i = Get (Value (Private 0))

abbrev s : Operation
s = Get (Value (Private 1))

abbrev no_entry : ℕ → ℕ
no_entry f = 0

-- void main(void) { int i; int s = 0; for (i = 0; i < 9; i++) { if (i == 1) continue; if (i == 4) break; s += i; } do { s = s * 2; } while (s < 30); putint(s); puts("a\n"); }
abbrev loops_test : Code ℕ
loops_test = perform 9 i (perform 10 (Push 9) (perform 11 (Binary LtS false) (quit 12 (Branch true) done)))

abbrev loops_body : Code ℕ
loops_body =
    perform 13 i (perform 14 (Push 1) (perform 15 (Binary Eq false) (choose 16 (Branch true) (continue done) done
    (perform 17 i (perform 18 (Push 4) (perform 19 (Binary Eq false) (choose 20 (Branch true) (break done) done
    (perform 21 s (perform 22 i (perform 23 (Binary Add false) (perform 24 (Set (Private 1)) (perform 25 DropLast done))))))))))))

abbrev loops_step : Code ℕ
loops_step =
    perform 26 i (perform 27 (Push 1) (perform 28 (Binary Add false) (perform 29 (Set (Private 0))
    (perform 30 (Push 1) (perform 31 (Binary Sub false) (perform 32 DropLast done))))))

abbrev loops_code : Code ℕ
loops_code =
    perform 0 (Push 0) (perform 1 (Set (Private 0)) (perform 2 DropLast
    (perform 3 (Push 0) (perform 4 (Set (Private 1)) (perform 5 DropLast
    (perform 6 (Push 0) (perform 7 (Set (Private 0)) (perform 8 DropLast
    (while loops_test loops_body loops_step (until
    (perform 33 s (perform 34 (Push 2) (perform 35 (Binary Mul false) (perform 36 (Set (Private 1)) (perform 37 DropLast done)))))
    (perform 38 s (perform 39 (Push 30) (perform 40 (Binary LtS false) (quit 41 (Branch true) done))))
    (perform 42 s (perform 43 PrintNumber (perform 44 (Push 97) (perform 45 PrintByte (perform 46 (Push 10) (perform 47 PrintByte (ends 48 Halt done)))))))))))))))))

loops : map item_of loops_core ≡ flat no_entry false None 0 (length loops_core) loops_code
loops = refl

-- int f(int n) { return n ? 1 + f(n - 1) : 0; } void main(void) { putint(f(3)); }
abbrev pub f_code : Code ℕ
f_code =
    perform 0 i (choose 1 (Branch true)
    (perform 2 (Push 1) (perform 3 i (perform 4 (Push 1) (perform 5 (Binary Sub false) (call 6 (Enter 1) 0 done (perform 7 (Binary Add false) done))))))
    (perform 8 (Push 0) done)
    (ends 9 (Leave true false) (perform 10 (Push 0) (ends 11 (Leave true false) done))))

abbrev pub main_code : Code ℕ
main_code = perform 12 (Push 3) (call 13 (Enter 1) 0 done (perform 14 PrintNumber (ends 15 Halt done)))

-- `f` is binding 0, and `main` binding 1
abbrev pub of_binding : {A : Type 0} → (f main none : A) → (is_f is_main : Bool) → A
of_binding f main none true is_main = f
of_binding f main none false true = main
of_binding f main none false false = none

abbrev pub bodies : ℕ → Code ℕ
bodies b = of_binding f_code main_code done (b == 0) (b == 1)

abbrev pub entry : ℕ → ℕ
entry b = of_binding 0 14 19 (b == 0) (b == 1)

has_f : Has core 0 (flat entry false None 0 19 f_code)
has_f = ((
  (op 2 0 0 0 0, refl, (refl, refl, refl)),
  (
    (op 9 1 1 10 1, refl, (refl, refl, refl)),
    (
      (op 1 2 1 0 0, refl, (refl, refl, refl)),
      (
        (op 2 3 0 0 1, refl, (refl, refl, refl)),
        (
          (op 1 4 1 0 2, refl, (refl, refl, refl)),
          (
            (op 7 5 2 0 3, refl, (refl, refl, refl)),
            (
              (op 22 6 1 0 2, refl, (refl, refl, refl)),
              (
                (op 0 0 0 0 0, refl, (refl, refl)),
                (
                  (op 7 7 0 0 2, refl, (refl, refl, refl)),
                  (
                    (op 0 0 0 11 0, refl, (refl, refl)),
                    (
                      (op 1 8 0 0 0, refl, (refl, refl, refl)),
                      (
                        (op 11 9 2 0 1, refl, (refl, refl, refl)),
                        (
                          (op 1 10 0 0 0, refl, (refl, refl, refl)),
                          (
                            (op 11 11 2 0 1, refl, (refl, refl, refl)),
                            tt,
                          ),
                        ),
                      ),
                    ),
                  ),
                ),
              ),
            ),
          ),
        ),
      ),
    ),
  ),
))

has_main : Has core 14 (flat entry false None 14 19 main_code)
has_main = ((
  (op 1 12 3 0 0, refl, (refl, refl, refl)),
  (
    (op 22 13 1 0 1, refl, (refl, refl, refl)),
    (
      (op 0 0 0 0 0, refl, (refl, refl)),
      (
        (op 19 14 0 0 1, refl, (refl, refl, refl)),
        (
          (op 34 15 0 0 0, refl, (refl, refl, refl)),
          tt,
        ),
      ),
    ),
  ),
))

pub all_stand : (is_f is_main : Bool) → let place : ℕ = of_binding 0 14 19 is_f is_main in Has core place (flat entry false None place 19 (of_binding f_code main_code done is_f is_main))
all_stand true is_main = has_f
all_stand false true = has_main
all_stand false false = tt

pub all_begin : (is_f is_main : Bool) → let place : ℕ = of_binding 0 14 19 is_f is_main in place ≡ label None place 19 (of_binding f_code main_code done is_f is_main)
all_begin true is_main = refl
all_begin false true = refl
all_begin false false = refl

pub covered : (j : ℕ) → j < 19 → (is_f : Bool) → nat_lt j 14 ≡ is_f
    → (binding : ℕ) × (entry binding ≤ j) × (j < entry binding + extent false (bodies binding))
covered j h true e = let a = ltb-true j 14 e in (0, omega arith, (let b : j < 0 + 14 = omega arith in b))
covered j h false e = let a = ltb-false j 14 e in (1, (let b : 14 ≤ j = a in b), (let b : j < 14 + 5 = omega arith in b))

abbrev pub is_flat : IsFlat bodies core entry
is_flat = record {
  place = entry;
  has = λ b. all_stand (b == 0) (b == 1);
  begins = λ b. all_begin (b == 0) (b == 1);
  covers = λ j h. covered j h (nat_lt j 14) refl;
}

f_is_shaped : IsShaped (λ f. is_closed (bodies f)) false f_code
f_is_shaped = (
  inl refl,
  (
    refl,
    (inl refl, (inl refl, (inl refl, (inl refl, (refl, refl, tt, (inl refl, tt)))))),
    (inl refl, tt),
    (refl, (inl refl, (refl, tt))),
  ),
)

main_is_shaped : IsShaped (λ f. is_closed (bodies f)) false main_code
main_is_shaped = (inl refl, (refl, refl, tt, (inl refl, (refl, tt))))

all_shaped : (is_f is_main : Bool) → let code = of_binding f_code main_code done is_f is_main in
    IsShaped (λ f. is_closed (bodies f)) false code × ((is_done code ≡ true) ⊎ (is_closed code ≡ true))
all_shaped true is_main = (f_is_shaped, inr refl)
all_shaped false true = (main_is_shaped, inr refl)
all_shaped false false = (tt, inl refl)

pub are_shaped : AreShaped bodies
are_shaped b = all_shaped (b == 0) (b == 1)
