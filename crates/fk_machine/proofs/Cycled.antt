-- A cycle of the code is a cycle of the machine.
use Rattle.std.proofs.Common.{◌≡◌, ℕ, ◌+◌, List, Option, map, cond, sym, ap, subst, ◌∙◌}
use Rattle.fk_machine.specs.declared.stand.Stand.{Stand}
use Rattle.fk_machine.specs.declared.stand.Stand.TheVariants.{Running}
use Rattle.fk_machine.specs.declared.hart.TrackedHart.{TrackedHart}
use Rattle.fk_machine.specs.declared.machine.Machine.{Machine as MachineState}
use Rattle.fk_machine.specs.Hart.{Hart, Shared}
use Rattle.fk_machine.specs.Cycle.{Machine, turns, turns_of, setting_of as setting_in, unprinted, stand_after, is_running, cycle, after_turns}
use Rattle.fk_machine.specs.View.{harts_of, local_of, ran_of, shared_of, row_of, setting_of, machine_of}
use Rattle.fk_machine.specs.Does.{TurnsGive}
use Rattle.fk_machine.proofs.Harts.{harts_length}

-- the setting of the code is that of the machine
setting_is : (m : MachineState) → setting_of m.setting ≡ setting_in (machine_of m)
unfolding machine_of
setting_is m =
    ap (λ n. record { code = map row_of m.setting.code.items; harts = n; inputs = m.setting.inputs; finished = m.setting.finished })
    (m.counted ∙ m.harts.ok.0 ∙ sym (harts_length 0 m.harts.items (local_of m.locals.items)))

-- a machine that runs, after its turns
abbrev pub machine_after : Machine → List Hart → List (Option ℕ) → Shared → Stand → Machine
machine_after m hs ran s stand = record { code = m.code; commits = m.commits; harts = hs; ran = ran; shared = s; inputs = m.inputs; begun = m.begun + 1; stand = stand }

pub cycled : (m : MachineState) (s s' : Shared) (hs : List TrackedHart) (locals : List ℕ) (stop : Option Stand) (stand : Stand) → m.stand ≡ Running → s ≡ unprinted (shared_of m.shared) → TurnsGive (turns (setting_of m.setting) 0 (harts_of 0 m.harts.items (local_of m.locals.items)) s) stop (harts_of 0 hs (local_of locals)) (ran_of hs) s' → stand ≡ stand_after stop (harts_of 0 hs (local_of locals)) → machine_after (machine_of m) (harts_of 0 hs (local_of locals)) (ran_of hs) s' stand ≡ cycle (machine_of m)
unfolding machine_of
cycled m s s' hs locals stop stand running begins given ends =
    let old = machine_of m in
    let new = harts_of 0 hs (local_of locals) in
    let ran = ran_of hs in
    let whole = turns_of old in
    let same : turns (setting_of m.setting) 0 (harts_of 0 m.harts.items (local_of m.locals.items)) s ≡ whole =
    ap (λ t. turns t 0 old.harts s) (setting_is m) ∙ ap (turns (setting_in old) 0 old.harts) begins in
    let g = subst (λ t. TurnsGive t stop new ran s') same given in
    let runs : cycle old ≡ after_turns old whole = ap (λ b. cond (is_running b) (after_turns old whole) old) running in
    sym (
    runs
    ∙ ap (λ h. machine_after old h whole.ran whole.shared (stand_after whole.stop h)) g.harts_are
    ∙ ap (λ r. machine_after old new r whole.shared (stand_after whole.stop new)) g.ran_are
    ∙ ap (λ s. machine_after old new ran s (stand_after whole.stop new)) g.shared_is
    ∙ ap (λ o. machine_after old new ran s' (stand_after o new)) g.stop_is
    ∙ ap (machine_after old new ran s') (sym ends))
