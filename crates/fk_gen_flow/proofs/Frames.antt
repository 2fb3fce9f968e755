-- Frames: where they begin, and the call that waits last.
use Rattle.std.proofs.Common.{◌≡◌, ℕ, zero, suc, ◌+◌, ◌-◌, ◌*◌, ◌<◌, ◌≤◌, List, [], ◌∷◌, length, Bool, false, ap, subst, sym, ◌∙◌, arith, refl}
use Rattle.std.specs.Prelude.{◌==◌}
use Rattle.std.proofs.lemmas.Bool.{ne_eqb}
use Rattle.fk_num.specs.Word.{Memory}
use Rattle.fk_meaning.specs.Processor.{Call}
use Rattle.fk_core.specs.declared.op.CoreOp.{CoreOp}
use Rattle.fk_sim_block.specs.Stands.{Places, HasValues, HasRoom, HasFrame, FrameInMemory, HasWaiting, Returns, frame_start, ahead}
use Rattle.fk_sim_block.specs.Suits.{Flows}

module _ (places : Places) where
  pub start_of : (n at : ℕ) → places.frames.is_main at ≡ (n == 0) → frame_start places n ≡ 64 * n + ahead places.frames (places.frames.is_main at)
  start_of zero at e = rw e (omega arith)
  start_of (suc n) at e = let more : (suc n == 0) ≡ false = ne_eqb (suc n) 0 (λ f. omega arith) in rw (e, more) (omega arith)

  pub room_below : (i n k : ℕ) → n ≤ k → HasRoom places.frames i k → HasRoom places.frames i n
  room_below i n k le room = record {
    header = let h = room.header in omega arith;
    kept = λ w e. let f = room.kept w e in omega arith;
  }

  -- where a call goes on at another index
  pub flows_on : (core : List CoreOp) (written : ℕ → Bool) (value private : ℕ → ℕ) (n i j : ℕ) (call call' : Call) → ((w : ℕ) → written w ≡ false)
      → Flows core places.frames written i j → call'.privates ≡ call.privates → HasValues value call'.values
      → HasFrame places value private n i call → HasFrame places value private n j call'
  flows_on core written value private n i j call call' never flows same values held = record {
    home = flows.main ∙ held.home;
    values = values;
    privates = λ w e. held.privates w (flows.kept w e (never w)) ∙ ap (λ f. f w) (sym same);
  }

  -- the call that waits last
  pub record Last (m : Memory) (backs : List ℕ) (calls : List Call) : Type 0 where
    pub back : ℕ
    pub backs' : List ℕ
    pub call : Call
    pub calls' : List Call
    pub are_backs : backs ≡ back ∷ backs'
    pub are_calls : calls ≡ call ∷ calls'
    pub returns : Returns places m (length calls') back call
    pub frame : FrameInMemory places m (length calls') back call
    pub others : HasWaiting places m backs' calls'

  pub last_of : (m : Memory) (backs : List ℕ) (calls : List Call) → HasWaiting places m backs calls → 0 < length backs → Last m backs calls
  last_of m [] calls held pos = absurd (omega arith)
  last_of m (i ∷ backs) [] held pos = absurd held
  last_of m (i ∷ backs) (c ∷ calls) held pos = record {
    back = i;
    backs' = backs;
    call = c;
    calls' = calls;
    are_backs = refl;
    are_calls = refl;
    returns = held.0;
    frame = held.1;
    others = held.2;
  }
