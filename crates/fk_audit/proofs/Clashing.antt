-- Counts of touches, as the clashes of a cycle.
use Rattle.std.proofs.Common.{◌≡◌, ℕ, ◌+◌, ◌≤◌, Option, arith}
use Rattle.fk_machine.specs.Cycle.{Machine}
use Rattle.fk_audit.specs.declared.access.AccessKind.TheVariants.{Read, Write}
use Rattle.fk_audit.specs.Clash.{Clashes, touching}
use Rattle.fk_audit.specs.Mark.{IsLeast}
use Rattle.fk_audit.proofs.LeastWords.{least_same}

pub least_read_clash : (m : Machine) (R W : ℕ → ℕ) (o : Option ℕ) → ((w : ℕ) → R w ≡ touching Read m w) → ((w : ℕ) → W w ≡ touching Write m w)
    → IsLeast (λ w. (2 ≤ R w) × (W w ≡ 0)) o → IsLeast (Clashes Read m) o
least_read_clash m R W o reads writes is =
    least_same (λ w. (2 ≤ R w) × (W w ≡ 0)) (Clashes Read m) o
    (λ w has. let e = reads w in let f = writes w in let many = has.0 in let none = has.1 in (omega (arith, e, many), omega (arith, f, none)))
    (λ w has. let e = reads w in let f = writes w in let many = has.0 in let none = has.1 in (omega (arith, e, many), omega (arith, f, none))) is

pub least_write_clash : (m : Machine) (R W : ℕ → ℕ) (o : Option ℕ) → ((w : ℕ) → R w ≡ touching Read m w) → ((w : ℕ) → W w ≡ touching Write m w)
    → IsLeast (λ w. (2 ≤ R w + W w) × (1 ≤ W w)) o → IsLeast (Clashes Write m) o
least_write_clash m R W o reads writes is =
    least_same (λ w. (2 ≤ R w + W w) × (1 ≤ W w)) (Clashes Write m) o
    (λ w has. let e = reads w in let f = writes w in let many = has.0 in let one = has.1 in (omega (arith, e, f, many), omega (arith, f, one)))
    (λ w has. let e = reads w in let f = writes w in let many = has.0 in let one = has.1 in (omega (arith, e, f, many), omega (arith, f, one))) is
