use Rattle.std.proofs.Common.{◌≡◌, ℕ, List, ap, ◌∙◌}
use Rattle.fk_machine.specs.declared.stand.Stand.{Stand}
use Rattle.fk_machine.specs.Cycle.{Machine, cycle}
use Rattle.fk_machine.specs.View.{machine_of}
use Rattle.fk_audit.specs.declared.access.AccessKind.{AccessKind}
use Rattle.fk_audit.specs.declared.access.AccessKind.TheVariants.{Read, Write}
use Rattle.fk_audit.specs.declared.touch.Touch.{Touch}
use Rattle.fk_audit.specs.Clash.{touching}
use Rattle.fk_audit.specs.Mark.{counted}
use Rattle.fk_audit.proofs.Served.{counted_touches}
use Rattle.fk_audit.proofs.Clashing.{least_read_clash, least_write_clash}
use Rattle.fk_audit.proofs.marks.Marks.run_cycle.Goals as goal

pub returns-clause-read : goal.returns-clause-read
returns-clause-read c =
    let m = machine_of c.args.machine.now in
    let stand = c.cycle-stand.ensures.stand ∙ ap (λ (l : Machine). l.stand) c.cycle-stand.ensures.cycle in
    let touches = c.as_slice.ensures.value ∙ c.collect.ensures.touches in
    let same : (kind : AccessKind) (w : ℕ) → counted c.cycle-stand.result kind c.as_slice.result.now w ≡ touching kind m w =
    λ kind w.
    ap (λ (s : Stand). counted s kind c.as_slice.result.now w) stand
    ∙ ap (λ (ts : List Touch). counted (cycle m).stand kind ts w) touches
    ∙ counted_touches m kind w c.requires.running in
    least_read_clash m (counted c.cycle-stand.result Read c.as_slice.result.now) (counted c.cycle-stand.result Write c.as_slice.result.now) c.least_words.result.read (same Read) (same Write) c.least_words.ensures.least_read

pub returns-clause-write : goal.returns-clause-write
returns-clause-write c =
    let m = machine_of c.args.machine.now in
    let stand = c.cycle-stand.ensures.stand ∙ ap (λ (l : Machine). l.stand) c.cycle-stand.ensures.cycle in
    let touches = c.as_slice.ensures.value ∙ c.collect.ensures.touches in
    let same : (kind : AccessKind) (w : ℕ) → counted c.cycle-stand.result kind c.as_slice.result.now w ≡ touching kind m w =
    λ kind w.
    ap (λ (s : Stand). counted s kind c.as_slice.result.now w) stand
    ∙ ap (λ (ts : List Touch). counted (cycle m).stand kind ts w) touches
    ∙ counted_touches m kind w c.requires.running in
    least_write_clash m (counted c.cycle-stand.result Read c.as_slice.result.now) (counted c.cycle-stand.result Write c.as_slice.result.now) c.least_words.result.write (same Read) (same Write) c.least_words.ensures.least_write
