use Rattle.std.proofs.Common.{ap, ◌∙◌, length, refl, arith}
use Rattle.std.specs.Prelude.{slice_get, option_map}
use Rattle.std.proofs.lemmas.Option.{slice_get-map, slice_get_read}
use Rattle.fk_isa.specs.Step.{hart_of}
use Rattle.fk_machine.specs.View.{local_of, machine_of}
use Rattle.fk_machine.proofs.Harts.{harts_length, harts_states}
use Rattle.fk_machine.proofs.machine.Machine.hart.Goals as goal

pub returns : goal.returns
unfolding machine_of
returns c =
    let m = c.args.self.now in
    let n = c.args.number in
    let len = harts_length 0 m.harts.items (local_of m.locals.items) in
    ap (λ states. slice_get states n) (harts_states 0 m.harts.items (local_of m.locals.items))
    ∙ slice_get-map (λ h. hart_of h.state) m.harts.items n
    ∙ ap (option_map (λ h. hart_of h.state)) (slice_get_read m.harts.items (length m.harts.items) n c.index.result.now refl (omega (arith, len, c.requires)) c.index.ensures)
