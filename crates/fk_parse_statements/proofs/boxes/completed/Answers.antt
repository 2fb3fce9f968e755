use Rattle.std.proofs.Common.{Ok, sym, ap, ◌∙◌}
use Rattle.fk_parse_statements.proofs.boxes.completed.Goals as goal

pub returns-in-Ok-clause-read : goal.returns-in-Ok-clause-read
returns-in-Ok-clause-read c = λ now answer given.
    rw c.in-Ok.is at given ∙ ap (λ s. Ok (s, now)) (sym c.complete.ensures)

pub returns-in-Err-clause-read : goal.returns-in-Err-clause-read
returns-in-Err-clause-read c = λ now answer given. rw c.in-Err.is at given
