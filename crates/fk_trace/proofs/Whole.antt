-- The parts of a whole trace.
use Rattle.std.proofs.Common.{◌≡◌, ℕ, suc, ◌+◌, ◌≤◌, List, ◌++◌, Option, length, sym, ap, subst, ◌∙◌, arith, append_assoc}
use Rattle.std.specs.Io.KnownBytes.{append_known}
use Rattle.fk_ports.specs.Known.{TakesPrefix}
use Rattle.fk_ports.proofs.Given.{append_known-append, TakesPrefix-longer, TakesPrefix-after}
use Rattle.fk_machine.specs.Cycle.{Machine}
use Rattle.fk_machine.specs.Run.{after, committed, committed_in}
use Rattle.fk_trace.specs.Text.{cycle_lines, first_lines, last_line, lines_from}
use Rattle.fk_trace.specs.Early.{StoppedInCycle, lines_in, trace_of}
use Rattle.fk_trace.proofs.Cycles.{begun-length, lines_in-next, lines_in-longer}

-- the trace of a machine of which no cycle was run
pub end_trace : (n : ℕ) (m : Machine) → m.begun ≡ 0 → (first_lines (length m.harts) ++ lines_in n m) ++ last_line (after n m).begun ≡ trace_of n m
end_trace n m fresh =
    let first = first_lines (length m.harts) in
    let one : m.begun + 1 ≡ 1 = omega (arith, fresh) in
    let cycles : (after n m).begun ≡ length (committed_in n m) = omega (arith, begun-length m n, fresh) in
    ap (λ t. (first ++ lines_from t (committed_in n m)) ++ last_line (after n m).begun) one
    ∙ ap (λ k. (first ++ lines_from 1 (committed_in n m)) ++ last_line k) cycles

-- the first lines and those of all cycles were taken
pub told_trace : (n : ℕ) (m : Machine) (harts : ℕ) (before between now : Option (List ℕ)) → harts ≡ length m.harts
    → between ≡ append_known before (first_lines harts) → now ≡ append_known between (lines_in n m)
    → now ≡ append_known before (first_lines (length m.harts) ++ lines_in n m)
told_trace n m harts before between now same first lines =
    lines ∙ ap (λ known. append_known known (lines_in n m)) first
    ∙ append_known-append before (first_lines harts) (lines_in n m)
    ∙ ap (λ h. append_known before (first_lines h ++ lines_in n m)) same

-- what is taken of a trace that stops in a cycle is a part of the whole trace
pub cut_trace : (n : ℕ) (m new : Machine) (before now : Option (List ℕ)) → m.begun ≡ 0
    → StoppedInCycle n m new (append_known before (first_lines (length m.harts))) now → TakesPrefix before now (trace_of n m)
cut_trace n m new before now fresh early =
    let first = first_lines (length m.harts) in
    let k = early.told in
    let next : k + 1 ≡ suc k = omega arith in
    let le : suc k ≤ n = omega (arith, early.few) in
    let last = cycle_lines (after (suc k) m).begun (committed (after (suc k) m)) in
    let part = subst (λ (l : Machine). TakesPrefix (append_known (append_known before first) (lines_in k m)) now (cycle_lines l.begun (committed l))) (early.machine ∙ ap (λ i. after i m) next) early.taken in
    let told = append_known-append before first (lines_in k m) in
    let so_far = TakesPrefix-after before _ now (first ++ lines_in k m) last told part in
    let rest = lines_in-longer m (suc k) n le in
    let all : ((first ++ lines_in k m) ++ last) ++ rest.0 ≡ first ++ lines_in n m =
    ap (λ l. l ++ rest.0) (append_assoc first (lines_in k m) last ∙ ap (λ l. first ++ l) (sym (lines_in-next m k early.running)))
    ∙ append_assoc first (lines_in (suc k) m) rest.0
    ∙ ap (λ l. first ++ l) (sym rest.1) in
    subst (TakesPrefix before now) (end_trace n m fresh)
    (TakesPrefix-longer before now (first ++ lines_in n m) (last_line (after n m).begun)
    (subst (TakesPrefix before now) all (TakesPrefix-longer before now ((first ++ lines_in k m) ++ last) rest.0 so_far)))
