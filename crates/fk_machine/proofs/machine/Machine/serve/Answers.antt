use Rattle.std.proofs.Common.{◌≡◌, ap, ◌∙◌, arith}
use Rattle.std.specs.Vec.{with_items}
use Rattle.std.proofs.lemmas.List.{with_items_is}
use Rattle.fk_machine.specs.Cycle.{stand_after}
use Rattle.fk_machine.specs.View.{harts_of, local_of, ran_of, shared_of, machine_of}
use Rattle.fk_machine.proofs.Cycled.{cycled, machine_after}
use Rattle.fk_machine.proofs.machine.Machine.serve.Goals as goal

pub returns-clause-cycle : goal.returns-clause-cycle
unfolding machine_of
returns-clause-cycle c =
    let m = c.args.self.now in
    let hs = c.take_turns.new.harts in
    let ls = c.take_turns.new.locals in
    let running = c.requires.running in
    let harts : (with_items m.harts hs).items ≡ hs = with_items_is m.harts hs (omega arith) in
    let locals : (with_items m.locals ls).items ≡ ls = with_items_is m.locals ls (omega arith) in
    let given = rw (c.as_mut_slice.ensures.value, c.as_mut_slice-2.ensures.value) at c.take_turns.ensures.turns in
    let begins = ap (λ bytes. record (shared_of m.shared) { output = bytes }) c.requires.unprinted in
    let ends = c.change_to.ensures ∙ c.stand_after-stand.ensures (local_of ls) ∙ ap (λ l. stand_after c.take_turns.new.stop (harts_of 0 l (local_of ls))) (c.deref.ensures.value ∙ harts) in
    let s' = shared_of c.take_turns.new.shared in
    let stand = c.change_to.new.self in
    ap (λ l. machine_after (machine_of m) (harts_of 0 l (local_of (with_items m.locals ls).items)) (ran_of l) s' stand) harts
    ∙ ap (λ l. machine_after (machine_of m) (harts_of 0 hs (local_of l)) (ran_of hs) s' stand) locals
    ∙ cycled m _ s' hs ls c.take_turns.new.stop stand running begins given ends
