use Rattle.std.proofs.Common.{refl, ◌++◌, ◌∷◌}
use Rattle.fk_trace.specs.Text.{name_of}
use Rattle.fk_replay_text.proofs.Heads.{cycle_word, marks_rest, name_word}
use Rattle.fk_replay_text.proofs.line.read_marks.Goals as goal

pub returns-in_err-after : goal.returns-in_err-after
returns-in_err-after c = rw c.from_residual.ensures (λ cycle event rest small stops e.
    c.in_err-after.ensures (name_of event ++ rest) (cycle_word c.args.text.now _ _ (32 ∷ (name_of event ++ rest)) cycle c.first_word.ensures small refl e).1)

pub returns-in_err-event_of : goal.returns-in_err-event_of
returns-in_err-event_of c = rw c.from_residual-in_err-event_of.ensures (λ cycle event rest small stops e.
    c.in_err-event_of.ensures event (name_word _ _ _ rest event c.first_word-2.ensures stops
    (marks_rest c.args.text.now _ _ _ rest cycle event c.first_word.ensures c.in_ok-after.ensures small e)).0)

pub returns-in_err-read_number : goal.returns-in_err-read_number
returns-in_err-read_number c = rw c.from_residual-in_err-read_number.ensures (λ cycle event rest small stops e.
    c.in_err-read_number.ensures.number cycle small (cycle_word c.args.text.now _ _ (32 ∷ (name_of event ++ rest)) cycle c.first_word.ensures small refl e).0)
