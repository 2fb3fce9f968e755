use Rattle.std.proofs.Common.{◌≡◌, ℕ, List, [], ◌++◌, Some, ap, ◌∙◌}
use Rattle.std.specs.Io.KnownBytes.{append_known}
use Rattle.fk_ports.proofs.Pieces.{told, err_then, part_of_same}
use Rattle.fk_machine.specs.Run.{committed}
use Rattle.fk_machine.specs.View.{machine_of}
use Rattle.fk_trace.specs.Text.{cycle_lines}
use Rattle.fk_trace.proofs.trace.give_lines.Goals as goal

-- a text that was empty has what it took
has_taken : (before now lines : List ℕ) → before ≡ [] → Some now ≡ append_known (Some before) lines → now ≡ lines
has_taken before now lines none took = let same : Some now ≡ Some (before ++ lines) = took in let is : now ≡ before ++ lines = cc in is ∙ ap (λ l. l ++ lines) none

pub returns-in-Ok-clause-all : goal.returns-in-Ok-clause-all
returns-in-Ok-clause-all g c =
    let m = machine_of c.args.machine.now in
    let lines = cycle_lines m.begun (committed m) in
    let has = has_taken c.new-text.result.bytes.items c.give_cycle.new.out.bytes.items lines c.new-text.ensures c.in-Ok.ensures.all in
    told c.give_all.result _ _ _ lines (c.bytes.ensures ∙ has) c.give_all.ensures.all

pub returns-in-Ok-clause-prefix : goal.returns-in-Ok-clause-prefix
returns-in-Ok-clause-prefix g c =
    let m = machine_of c.args.machine.now in
    let lines = cycle_lines m.begun (committed m) in
    let has = has_taken c.new-text.result.bytes.items c.give_cycle.new.out.bytes.items lines c.new-text.ensures c.in-Ok.ensures.all in
    err_then c.give_all.result _ _ (part_of_same _ _ c.bytes.result.now lines (c.bytes.ensures ∙ has)) c.give_all.ensures.prefix
