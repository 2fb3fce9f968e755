-- A round of all processors.
use Rattle.std.proofs.Common.{◌≡◌, ◌+◌, ◌<◌, ℕ, suc, List, [], Some, None, arith, ap, ◌∙◌, refl, sym, subst}
use Rattle.std.specs.Prelude.{fold, option_map, slice_get, take}
use Rattle.fk_meaning_store.specs.declared.request.Request.TheVariants as q
use Rattle.fk_meaning_store.specs.Store.{address_of, shared_words}
use Rattle.fk_meaning_forms.specs.Code.{Code}
use Rattle.fk_meaning.specs.Processor.{Setting, values, last}
use Rattle.fk_meaning.specs.Round.{Runner, State, Acting, result}
use Rattle.fk_meaning.specs.Touch.{last_of}
use Rattle.fk_meaning.specs.Next.{Work, next}
use Rattle.fk_lockstep.proofs.Moves.{answer_number}
use Rattle.fk_tickets.specs.Lock.{Lock, MayDo, Stage, Outside, Waiting, after, looked}
use Rattle.fk_tickets.proofs.Counts.{its_stage}
use Rattle.fk_locks_runs.specs.Locks.{AreOfLock, AreWords, UsesLock, asked, events, told_by}
use Rattle.fk_locks_runs.proofs.Rounds.{rounds_use_locks}
use Rattle.fk_locks_calls.proofs.Outer.{HasBodies}
use Rattle.fk_locks_calls.proofs.Became.{Becomes, Same, Done, Answered, Steps, acted_number, asked_from, asks_at, becomes_at}
use Rattle.fk_locks_calls.proofs.Events.{FairFrom, Numbered, act_of, are_of_lock, numbered, round_fair, stage_after, stage_before}
use Rattle.fk_locks_calls.proofs.Touching.{Accesses, Alone, Kind, Nothing, Drawing, Looking, Giving, act_is, kind_act, next_is_of}
use Rattle.fk_locks_calls.proofs.Kept.{Acts, Asks, NextStage, Runs, Turns, acts, asks, asks_no_local, becomes}

becomes_number : (a : Acting Work) (r : Runner Work) → Becomes a r → r.has.number ≡ a.runner.has.number
becomes_number a r (Same e is) = ap (λ (u : Runner Work). u.has.number) is
becomes_number a r (Done s e (Answered v c is)) = ap (λ (u : Runner Work). u.has.number) is ∙ answer_number s.operation v a.runner.has
becomes_number a r (Done s e (Steps onward c left number)) = number

module _ (take_it give_it : ℕ) (bodies : ℕ → Code ℕ) (has : HasBodies take_it give_it bodies) (set : Setting) (x : ℕ) (room : suc x < shared_words) (p : ℕ) where
  -- a processor among the others
  pub record Stays (Taken Given : Type 0) (stage : Stage) (h : ℕ) (r : Runner Work) : Type 0 where
    pub number : r.has.number ≡ h
    pub low : h < p
    pub runs : Runs take_it give_it bodies has set x room Taken Given stage r

  pub record Standing (Taken Given : ℕ → Type 0) (l : Lock) (s : State Work) : Type 0 where
    pub words : AreWords x l s
    pub runners : (h : ℕ) (r : Runner Work) → slice_get s.runners h ≡ Some r → Stays (Taken h) (Given h) (l.stage h) h r

  module _ (round : List ℕ) (s : State Work) (l : Lock) (Taken Given : ℕ → Type 0) (standing : Standing Taken Given l s)
      (alone : (h : ℕ) (a : Acting Work) → slice_get (asked (next bodies) set round s) h ≡ Some a → Alone x a) where
    abbrev actings : List (Acting Work)
    actings = asked (next bodies) set round s

    record Acted (h : ℕ) (a : Acting Work) : Type 0 where
      number : a.runner.has.number ≡ h
      low : h < p
      asking : Asks take_it give_it bodies has set x room (Taken h) (Given h) (l.stage h) a

    acted_at : (h : ℕ) (a : Acting Work) → slice_get actings h ≡ Some a → Acted h a
    acted_at h a at =
        let f = asked_from (next bodies) set round s.runners h a at in
        let k = standing.runners h f.runner f.is_at in
        record {
          number = ap (λ (b : Acting Work). b.runner.has.number) f.is_acted ∙ acted_number (next bodies) set f.count f.runner ∙ k.number;
          low = k.low;
          asking = subst (Asks take_it give_it bodies has set x room (Taken h) (Given h) (l.stage h)) (sym f.is_acted) (asks take_it give_it bodies has set x room f.count f.runner k.runs);
        }

    own_acts : (h : ℕ) (a : Acting Work) → slice_get actings h ≡ Some a → Acts take_it give_it bodies has set x room (l.stage h) a
    own_acts h a at = acts take_it give_it bodies has set x room a (alone h a at) (acted_at h a at).asking

    in_order : Numbered x 0 actings
    in_order = numbered x 0 actings (λ h a at. let e = (acted_at h a at).number in omega (arith, e))

    pub of_lock : AreOfLock x actings
    of_lock = are_of_lock x actings (λ h a at. let k = own_acts h a at in next_is_of x k.kind a k.accesses)

    pub fair : FairFrom p l (events x actings)
    fair =
        round_fair x p 0 actings l in_order
        (λ h a at.
        let k = own_acts h a at in
        let low = (acted_at h a at).low in
        let here : h ≡ 0 + h = omega arith in
        (omega (arith, low), λ act is. subst (λ i. MayDo act (l.stage i)) here (k.may act (sym (act_is x k.kind a k.accesses) ∙ is))))

    module _ (no_fault : (result (next bodies) set round s).fault ≡ None) (Taken' Given' : ℕ → Type 0)
        (turns : (h : ℕ) (a : Acting Work) → slice_get actings h ≡ Some a → Turns x (Taken h) (Given h) (Taken' h) (Given' h) a) where
      abbrev then_ : State Work
      then_ = result (next bodies) set round s

      uses : UsesLock (next bodies) set round s x l
      uses = rounds_use_locks Work (next bodies) set round s x l standing.words no_fault of_lock

      abbrev lower : ℕ → Lock
      lower h = fold after l (events x (take h actings))

      same_some : {A : Type 0} (b c : A) → Some b ≡ Some c → b ≡ c
      same_some b c e = cc

      -- the answer is the last value
      answer_is : (h w : ℕ) (r : Runner Work) → slice_get then_.runners h ≡ Some r → last_of then_.runners h ≡ Some w → last (values r.has) ≡ w
      answer_is h w r at is = same_some (last (values r.has)) w (sym (ap (option_map (λ (u : Runner Work). last (values u.has))) at) ∙ is)

      stage_is : (h : ℕ) (a : Acting Work) (kind : Kind) → slice_get actings h ≡ Some a → Accesses x kind a
          → (fold after l (events x actings)).stage h ≡ (fold after (lower h) (told_by (kind_act kind) h [])).stage h
      stage_is h a kind at acc =
          let whole = stage_after x 0 actings l h a in_order at in
          let zero_on : 0 + h ≡ h = omega arith in
          let same : (fold after l (events x actings)).stage h ≡ (fold after (lower h) (told_by (act_of x a) h [])).stage h
          = subst (λ k. (fold after l (events x actings)).stage k ≡ (fold after (lower h) (told_by (act_of x a) k [])).stage k) zero_on whole in
          same ∙ ap (λ o. (fold after (lower h) (told_by o h [])).stage h) (act_is x kind a acc)

      before_is : (h : ℕ) → (lower h).stage h ≡ l.stage h
      before_is h =
          let zero_on : 0 + h ≡ h = omega arith in
          subst (λ k. (lower h).stage k ≡ l.stage k) zero_on (stage_before x 0 actings l h in_order)

      next_stage : (h : ℕ) (a : Acting Work) (r : Runner Work) → slice_get actings h ≡ Some a → slice_get then_.runners h ≡ Some r
          → NextStage take_it give_it bodies has set x room a (l.stage h) ((fold after l (events x actings)).stage h) r
      next_stage h a r at there Nothing acc = stage_is h a Nothing at acc ∙ before_is h
      next_stage h a r at there Drawing acc =
          let v = answer_is h (lower h).next r there (uses.draws h (q.Multi 15 (address_of x) 1) (a, at, acc.next)) in
          stage_is h a Drawing at acc ∙ its_stage (lower h).stage h (Waiting (lower h).next) h refl ∙ ap (λ w. Waiting w) (sym v)
      next_stage h a r at there Looking acc =
          let v = answer_is h (lower h).now r there (uses.looks h (q.Read (address_of (suc x))) (a, at, acc.now)) in
          stage_is h a Looking at acc ∙ its_stage (lower h).stage h (looked (lower h).now ((lower h).stage h)) h refl
          ∙ ap (looked (lower h).now) (before_is h) ∙ ap (λ w. looked w (l.stage h)) (sym v)
      next_stage h a r at there Giving acc = stage_is h a Giving at acc ∙ its_stage (lower h).stage h Outside h refl

      pub stands_then : Standing Taken' Given' (fold after l (events x actings)) then_
      stands_then = record {
        words = uses.words;
        runners = λ h r there.
            let asks_it = asks_at (next bodies) set round s no_fault h r there in
            let a = asks_it.0 in
            let at = asks_it.1 in
            let k = acted_at h a at in
            let b = becomes_at (next bodies) set round s no_fault h a at (asks_no_local take_it give_it bodies has set x room a k.asking) in
            let same : b.runner ≡ r = same_some b.runner r (sym b.is_at ∙ there) in
            let became = subst (Becomes a) same b.becomes in
            record {
              number = becomes_number a r became ∙ k.number;
              low = k.low;
              runs = becomes take_it give_it bodies has set x room (Taken h) (Given h) (Taken' h) (Given' h) (l.stage h) ((fold after l (events x actings)).stage h) a (turns h a at) (alone h a at) r k.asking became (next_stage h a r at there);
            };
      }
