-- What a sink took of a run that stops early is a part of what the run prints.
use Rattle.std.proofs.Common.{◌≡◌, ℕ, suc, ◌+◌, ◌-◌, ◌≤◌, List, ◌++◌, Option, cond, sym, ap, subst, refl, ◌∙◌, arith}
use Rattle.std.specs.Io.KnownBytes.{append_known}
use Rattle.fk_ports.specs.Known.{TakesPrefix}
use Rattle.fk_ports.proofs.Given.{TakesPrefix-longer, TakesPrefix-after}
use Rattle.fk_machine.specs.Cycle.{Machine}
use Rattle.fk_machine.specs.Run.{after, output_in}
use Rattle.fk_machine.specs.Early.{StoppedEarly}
use Rattle.fk_machine.proofs.Runs.{output_in-longer}

pub cut_output : (n : ℕ) (m new : Machine) (before now : Option (List ℕ)) → StoppedEarly n m new before now → TakesPrefix before now (output_in n m)
cut_output n m new before now early =
    let k = early.told in
    let next : k + 1 ≡ suc k = omega arith in
    let le : suc k ≤ n = omega (arith, early.few) in
    let last = (after (suc k) m).shared.output in
    let part = subst (λ (l : Machine). TakesPrefix (append_known before (output_in k m)) now l.shared.output) (early.machine ∙ ap (λ i. after i m) next) early.taken in
    let so_far = TakesPrefix-after before (append_known before (output_in k m)) now (output_in k m) last refl part in
    let grows : output_in k m ++ last ≡ output_in (suc k) m = sym (ap (λ b. cond b (output_in k m ++ last) (output_in k m)) early.running) in
    let rest = output_in (n - suc k) (after (suc k) m) in
    subst (TakesPrefix before now) (ap (λ l. l ++ rest) grows ∙ sym (output_in-longer m (suc k) n le))
    (TakesPrefix-longer before now (output_in k m ++ last) rest so_far)
