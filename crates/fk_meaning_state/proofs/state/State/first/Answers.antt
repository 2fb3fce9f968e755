use Rattle.fk_meaning.specs.Next.{Work}
use Rattle.fk_meaning_state.proofs.Opened.{opened}
use Rattle.fk_meaning_state.proofs.state.State.first.Goals as goal

pub returns-clause-opening : goal.returns-clause-opening
returns-clause-opening c = λ (left : Work).
    opened left c.args.words.now c.args.firsts.now c.args.input.now c.args.p (record { store = c.in_ok-store.store; tree = c.in_ok-tree.tree; processors = c.in_ok-processors.processors }) c.in_ok-store.ensures.opening c.in_ok-tree.ensures.tree (c.in_ok-processors.ensures left)
