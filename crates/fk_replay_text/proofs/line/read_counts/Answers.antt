use Rattle.fk_replay_text.proofs.Heads.{cycle_word}
use Rattle.fk_replay_text.proofs.line.read_counts.Goals as goal

pub returns-in_err-read_number : goal.returns-in_err-read_number
returns-in_err-read_number c = rw c.from_residual.ensures (λ cycle rest small stops e. c.in_err-read_number.ensures.number cycle small (cycle_word c.args.text.now _ _ rest cycle c.first_word.ensures small stops e).0)
