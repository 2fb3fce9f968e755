-- Rounds and runs that use a lock.
use Rattle.std.proofs.Common.{ℕ, suc, [], ◌∷◌, Option, Some, ap, ◌∙◌}
use Rattle.std.specs.Prelude.{fold, take}
use Rattle.fk_meaning.specs.Processor.{Setting}
use Rattle.fk_meaning.specs.Round.{Step, State, result}
use Rattle.fk_meaning.specs.Schedule.{Schedule}
use Rattle.fk_meaning.specs.Touch.{answer, word_after}
use Rattle.fk_meaning.proofs.Turns.{requests_go_in_turn}
use Rattle.fk_tickets.specs.Lock.{Lock, after, opening}
use Rattle.fk_tickets.proofs.Histories.{excludes, first_drawn_enters_first}
use Rattle.fk_locks_runs.specs.Locks.{AreWords, IsUsed, RoundsUseLocks, RunsExclude, Tells, asked, events, history}
use Rattle.fk_locks_runs.proofs.Words.{some_of_lock, words_after}

pub rounds_use_locks : (W : Type 0) → RoundsUseLocks W
rounds_use_locks W next set round s x l are no_fault of =
    let actings = asked next set round s in
    let turn_next = requests_go_in_turn W next set round s x no_fault in
    let turn_now = requests_go_in_turn W next set round s (suc x) no_fault in
    let all = words_after x actings l of in
    record {
      words = record {
        next = turn_next.word ∙ ap (word_after x actings) are.next ∙ all.next_is;
        now = turn_now.word ∙ ap (word_after (suc x) actings) are.now ∙ all.now_is;
      };
      draws = λ h q touched.
          let lower = words_after x (take h actings) l (some_of_lock x h actings of) in
          turn_next.answers h q touched ∙ ap (λ w. Some (answer q w)) (ap (word_after x (take h actings)) are.next ∙ lower.next_is);
      looks = λ h q touched.
          let lower = words_after x (take h actings) l (some_of_lock x h actings of) in
          turn_now.answers h q touched ∙ ap (λ w. Some (answer q w)) (ap (word_after (suc x) (take h actings)) are.now ∙ lower.now_is);
    }

module _ {W : Type 0} (next : W → Option (Step W)) (set : Setting) (x : ℕ) where
  tells : (schedule : Schedule) (s : State W) (l : Lock) → AreWords x l s → IsUsed next set x schedule s → Tells next set x schedule s l
  tells [] s l are used = tt
  tells (round ∷ schedule) s l are used = λ no_fault.
      let uses = rounds_use_locks W next set round s x l are no_fault used.0 in
      (uses, tells schedule (result next set round s) (fold after l (events x (asked next set round s))) uses.words used.1)

pub runs_exclude : (W : Type 0) → RunsExclude W
runs_exclude W next set processors x schedule s few uses = record {
  tells = tells next set x schedule s opening uses.first uses.used;
  one = excludes processors (history next set x schedule s) few uses.in_turn;
  order = first_drawn_enters_first processors (history next set x schedule s) few uses.in_turn;
}
