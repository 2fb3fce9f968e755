-- A program with one group, whose code leads:
-- void f(void) { 1; } sync void g(sh int n) { shalloc(n); }
-- void main(void) { while (1) { f(); break; } barrier; start { sh int k; f(); g(1); if (1) 1; seq barrier; farm ; } }
use Rattle.std.proofs.Common.{◌≡◌, inl, inr, ℕ, zero, suc, Bool, true, false, true≢false, [], Some, None, sym, refl}
use Rattle.fk_meaning_operation.specs.declared.operation.Operation.TheVariants as o
use Rattle.fk_meaning_operation.specs.declared.operation.OwnValue.TheVariants.{Value, Processors, FrameAddress}
use Rattle.fk_meaning_operation.specs.declared.operation.Variable.TheVariants.{Private}
use Rattle.fk_meaning_forms.specs.Code.{Code, done, perform, choose, while, quit, break, call, ends}
use Rattle.fk_meaning.specs.Next.{going, next}
use Rattle.fk_core_flat.specs.Shape.{is_closed}
use Rattle.fk_core_flat.specs.Laws.{AreShaped}
use Rattle.fk_lockstep_tree.specs.Where.{Where, InRoot, Waits, InGroup, InBody, BehindBody, goes, Goes}
use Rattle.fk_lockstep_tree.specs.Leads.{Leads}
use Rattle.fk_lockstep_tree.specs.Led.{AreLed}
use Rattle.fk_lockstep_tree.proofs.Run.{code_goes}

abbrev behind_farm : Code ℕ
behind_farm = perform 16 (o.Meet true) (perform 17 o.End done)

abbrev from_farm : Code ℕ
from_farm = choose 15 o.Farm done done behind_farm

abbrev from_seq : Code ℕ
from_seq = choose 13 o.Seq (perform 18 (o.Meet false) done) done (perform 14 (o.Meet true) from_farm)

abbrev from_if : Code ℕ
from_if = perform 8 (o.Push 1) (perform 9 o.Agree (choose 10 (o.Branch true) (perform 11 (o.Push 1) (perform 12 o.DropLast done)) done from_seq))

-- g takes its frame, which gets the argument
abbrev opening : Code ℕ
opening =
    perform 28 (o.Frame 0 1) (perform 29 (o.Get (FrameAddress 0 0)) (perform 30 (o.Get (Value (Private 0)))
    (perform 31 o.Write (perform 32 o.DropLast done))))

abbrev in_start : Code ℕ
in_start =
    perform 24 (o.Frame 1 1) (call 7 (o.Enter 0) 1 done (perform 25 (o.Push 1) (perform 26 o.Agree (call 27 (o.Enter 1) 2 opening from_if))))

abbrev behind_start : Code ℕ
behind_start = perform 19 o.Resume (ends 20 o.Halt done)

abbrev behind_loop : Code ℕ
behind_loop = perform 4 (o.Meet false) (perform 5 (o.Get Processors) (choose 6 o.Begin in_start done behind_start))

abbrev bodies : ℕ → Code ℕ
bodies zero =
    while (perform 0 (o.Push 1) (quit 1 (o.Branch true) done)) (call 2 (o.Enter 0) 1 done (break done)) done behind_loop
bodies (suc zero) = perform 21 (o.Push 1) (perform 22 o.DropLast (ends 23 (o.Leave false false) done))
bodies (suc (suc zero)) =
    perform 33 (o.Get (FrameAddress 0 0)) (perform 34 o.Read (perform 35 o.Agree (perform 36 o.Block (perform 37 o.DropLast (ends 38 (o.Leave false true) done)))))
bodies (suc (suc (suc f))) = done

abbrev may_call : (in_group : Bool) → (function : ℕ) → Bool
may_call in_group (suc zero) = true
may_call true (suc (suc zero)) = true
may_call in_group f = false

resumes : Leads may_call InRoot None (Waits 0) behind_start InRoot
resumes = (InRoot, (λ w. refl), ((λ w. refl), refl, refl))

closes : (place : Where) → goes place (o.Meet true) true ≡ Some (InGroup 0) → goes place (o.Meet true) false ≡ Some (InGroup 0)
    → Leads may_call InRoot None place behind_farm (Waits 0)
closes place a b = (InGroup 0, by, (Waits 0, (λ w. refl), refl))
  where
    by : (onward : Bool) → goes place (o.Meet true) onward ≡ Some (InGroup 0)
    by true = a
    by false = b

farms : Leads may_call InRoot None (InGroup 0) from_farm (Waits 0)
farms = (InBody 0, BehindBody 0, InBody 0, BehindBody 0, refl, refl, refl, refl, closes (InBody 0) refl refl, closes (BehindBody 0) refl refl)

seqs : Leads may_call InRoot None (InGroup 0) from_seq (Waits 0)
seqs = (
  InBody 0,
  BehindBody 0,
  InBody 0,
  BehindBody 0,
  refl,
  refl,
  (InBody 0, (λ w. refl), refl),
  refl,
  (InGroup 0, (λ w. refl), farms),
  (InGroup 0, (λ w. refl), farms),
)

ifs : Leads may_call InRoot None (InGroup 0) from_if (Waits 0)
ifs = (
  InGroup 0,
  (λ w. refl),
  (
    InGroup 0,
    (λ w. refl),
    (InGroup 0, InGroup 0, InGroup 0, InGroup 0, refl, refl, (InGroup 0, (λ w. refl), (InGroup 0, (λ w. refl), refl)), refl, seqs, seqs),
  ),
)

opens : Leads may_call (InGroup 0) None (InGroup 0) opening (InGroup 0)
opens = (InGroup 0, (λ w. refl), (InGroup 0, (λ w. refl), (InGroup 0, (λ w. refl), (InGroup 0, (λ w. refl), (InGroup 0, (λ w. refl), refl)))))

calls : Leads may_call InRoot None (InGroup 0) (perform 25 (o.Push 1) (perform 26 o.Agree (call 27 (o.Enter 1) 2 opening from_if))) (Waits 0)
calls = (InGroup 0, (λ w. refl), (InGroup 0, (λ w. refl), ((λ w. refl), refl, opens, ifs)))

group : Leads may_call InRoot None (InGroup 0) in_start (Waits 0)
group = (InGroup 0, (λ w. refl), ((λ w. refl), refl, refl, calls))

-- processors by themselves take no words of their group's space, and give none back
alone_take_none : (onward : Bool)
    → (goes InRoot (o.Frame 1 1) onward ≡ None) × (goes (InBody 0) (o.Frame 1 1) onward ≡ None) × (goes InRoot o.Block onward ≡ None) × (goes (InBody 0) o.Block onward ≡ None)
    × (goes (InBody 0) (o.Leave false true) onward ≡ None)
alone_take_none onward = (refl, refl, refl, refl, refl)

behind : Leads may_call InRoot None InRoot behind_loop InRoot
behind = (InRoot, (λ w. refl), (InRoot, (λ w. refl), (InGroup 0, Waits 0, Waits 0, Waits 0, refl, refl, group, refl, resumes, resumes)))

shaped : AreShaped bodies
shaped zero = (
  (
    refl,
    refl,
    (inl refl, (refl, refl, tt)),
    (refl, refl, tt, (refl, tt)),
    tt,
    (
      inl refl,
      (
        inl refl,
        (
          refl,
          (
            inl refl,
            (
              refl,
              refl,
              tt,
              (
                inl refl,
                (
                  inl refl,
                  (
                    refl,
                    refl,
                    (refl, (refl, (refl, (refl, (refl, tt))))),
                    (inl refl, (inl refl, (refl, (inl refl, (inl refl, tt)), tt, (refl, (inl refl, tt), tt, (inl refl, (refl, tt, tt, (inl refl, (inr (refl, refl), tt)))))))),
                  ),
                ),
              ),
            ),
          ),
          tt,
          (inl refl, (refl, tt)),
        ),
      ),
    ),
  ),
  inr refl,
)
shaped (suc zero) = ((inl refl, (inl refl, (refl, tt))), inr refl)
shaped (suc (suc zero)) = ((inl refl, (inl refl, (inl refl, (inl refl, (inl refl, (refl, tt)))))), inr refl)
shaped (suc (suc (suc f))) = (tt, inl refl)

in_group : (n f : ℕ) → is_closed (bodies f) ≡ true → may_call true f ≡ true → Leads may_call (InGroup n) None (InGroup n) (bodies f) (InGroup n)
in_group n zero c e = absurd (true≢false (sym e))
in_group n (suc zero) c e = (InGroup n, (λ w. refl), (InGroup n, (λ w. refl), ((λ w. refl), refl, refl)))
in_group n (suc (suc zero)) c e =
    (InGroup n, (λ w. refl), (InGroup n, (λ w. refl), (InGroup n, (λ w. refl), (InGroup n, (λ w. refl), (InGroup n, (λ w. refl), ((λ w. refl), refl, refl))))))
in_group n (suc (suc (suc f))) c e = absurd (true≢false (sym e))

in_root : (f : ℕ) → is_closed (bodies f) ≡ true → may_call false f ≡ true → Leads may_call InRoot None InRoot (bodies f) InRoot
in_root zero c e = absurd (true≢false (sym e))
in_root (suc zero) c e = (InRoot, (λ w. refl), (InRoot, (λ w. refl), ((λ w. refl), refl, refl)))
in_root (suc (suc zero)) c e = absurd (true≢false (sym e))
in_root (suc (suc (suc f))) c e = absurd (true≢false (sym e))

in_body : (n f : ℕ) → is_closed (bodies f) ≡ true → may_call false f ≡ true → Leads may_call (InBody n) None (InBody n) (bodies f) (InBody n)
in_body n zero c e = absurd (true≢false (sym e))
in_body n (suc zero) c e = (InBody n, (λ w. refl), (InBody n, (λ w. refl), ((λ w. refl), refl, refl)))
in_body n (suc (suc zero)) c e = absurd (true≢false (sym e))
in_body n (suc (suc (suc f))) c e = absurd (true≢false (sym e))

are_led : AreLed may_call bodies 0
are_led = record {
  shaped = shaped;
  in_group = in_group;
  in_root = in_root;
  in_body = in_body;
  main_of = (
    InRoot,
    (InRoot, (λ w. refl), (InRoot, refl, (refl, refl), refl)),
    ((λ w. refl), refl, refl, (InRoot, refl, refl)),
    refl,
    behind,
  );
}

goes_on : Goes (next bodies) InRoot (going (bodies 0) [])
goes_on = code_goes may_call bodies 0 are_led
