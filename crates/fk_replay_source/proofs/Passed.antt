-- The answer for a list, by what the code passes of it.
use Rattle.std.proofs.Common.{◌≡◌, ℕ, List, Result, subst}
use Rattle.fk_meaning.specs.Schedule.{Schedule}
use Rattle.fk_core.specs.declared.op.CoreOp.{CoreOp}
use Rattle.fk_replay_text.specs.declared.fault.ReplayFault.{ReplayFault}
use Rattle.fk_replay.specs.declared.end.Replayed.{Replayed}
use Rattle.fk_replay.specs.Replay.{IsAnswer}

pub same_answer : (core passed : List CoreOp) (main begins : ℕ) (words passed_words firsts passed_firsts input : List ℕ) (p : ℕ) (schedule : Schedule) (answer : Result Replayed ReplayFault)
    → passed ≡ core → main ≡ begins → passed_words ≡ words → passed_firsts ≡ firsts → IsAnswer passed main passed_words passed_firsts input p schedule answer
    → IsAnswer core begins words firsts input p schedule answer
same_answer core passed main begins words passed_words firsts passed_firsts input p schedule answer same begin same_words same_firsts is =
    subst (λ (fs : List ℕ). IsAnswer core begins words fs input p schedule answer) same_firsts
    (subst (λ (ws : List ℕ). IsAnswer core begins ws passed_firsts input p schedule answer) same_words
    (subst (λ (m : ℕ). IsAnswer core m passed_words passed_firsts input p schedule answer) begin
    (subst (λ (ops : List CoreOp). IsAnswer ops main passed_words passed_firsts input p schedule answer) same is)))
