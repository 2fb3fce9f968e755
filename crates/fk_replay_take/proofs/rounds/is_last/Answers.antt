-- The last of those who act.
use Rattle.std.proofs.Common.{◌-◌, List, length, slice_get, ap, ◌∙◌}
use Rattle.fk_replay_phases.specs.declared.acting.Acting.{Acting}
use Rattle.fk_replay_take.proofs.Last.{last_number}
use Rattle.fk_replay_take.proofs.rounds.is_last.Goals as goal

pub returns-in-Some : goal.returns-in-Some
returns-in-Some c =
    last_number c.args.processor c.args.run.now.acting.items c.in-Some.acting.now
    (c.in-Some.ensures.value ∙ ap (λ (xs : List Acting). slice_get xs (length xs - 1)) c.deref.ensures.value)
