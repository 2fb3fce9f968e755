use Rattle.std.proofs.Common.{None, ap, ◌∙◌, arith}
use Rattle.std.specs.Prelude.{replicate}
use Rattle.fk_machine.specs.Cycle.{first_hart}
use Rattle.fk_machine.specs.View.{ran_of}
use Rattle.fk_machine.proofs.Harts.{harts_of-fresh, ran_of-fresh}
use Rattle.fk_machine.proofs.hart.first_harts.Goals as goal

pub returns-clause-harts : goal.returns-clause-harts
returns-clause-harts c = λ local zeros.
    rw (c.loop.invariant, harts_of-fresh 0 c.loop.counter local zeros) (ap (λ n. replicate n first_hart) (omega arith))

pub returns-clause-ran : goal.returns-clause-ran
returns-clause-ran c =
    ap ran_of c.loop.invariant ∙ ran_of-fresh c.loop.counter ∙ ap (λ n. replicate n None) (omega arith)
