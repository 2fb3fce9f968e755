-- The parts of a choice, of a loop and of a call, each with its place in the list.
use Rattle.std.proofs.Common.{◌≡◌, ℕ, suc, ◌+◌, Bool, true, false, List, [], ◌∷◌, ◌++◌, Some, None, arith, length-append}
use Rattle.std.specs.Prelude.{◌==◌, ◌&&◌, if◌then◌else◌}
use Rattle.fk_meaning_forms.specs.Code.{Code}
use Rattle.fk_core.specs.declared.op.CoreOp.{CoreOp}
use Rattle.fk_core.specs.CodeAt.{Loop, Around}
use Rattle.fk_core_flat.specs.Items.{Item, jump, Has}
use Rattle.fk_core_flat.specs.Flat.{begins_here, skip, gap, extent, label, flat}
use Rattle.fk_core_flat.proofs.Having.{has_front, has_back}
use Rattle.fk_core_flat.proofs.Lengths.{skips, flat_length}

-- Of a choice: whether its second way and its first one are near, whether the first begins behind the operation; where the
-- ways and what is behind them are written, and where both go on; and the lists
pub record Choice : Type 0 where
  pub after : Bool
  pub beside : Bool
  pub here : Bool
  pub first : ℕ
  pub second : ℕ
  pub behind : ℕ
  pub next : ℕ
  pub jumps : List Item
  pub firsts : List Item
  pub seconds : List Item
  pub others : List Item

-- of a loop that begins with its test
pub record Turns : Type 0 where
  pub steps : Bool
  pub enters : Bool
  pub body : ℕ
  pub step : ℕ
  pub behind : ℕ
  pub loop : Loop
  pub enter : ℕ
  pub tests : List Item
  pub bodies : List Item
  pub lasts : List Item
  pub others : List Item

-- of a loop that begins with its body
pub record Rounds : Type 0 where
  pub test : ℕ
  pub behind : ℕ
  pub loop : Loop
  pub enter : ℕ
  pub bodies : List Item
  pub tests : List Item
  pub others : List Item

-- of a call, which comes back to the index behind the jump to the function
pub record Entering : Type 0 where
  pub here : Bool
  pub back : ℕ
  pub behind : ℕ
  pub next : ℕ
  pub openings : List Item
  pub jumps : List Item
  pub others : List Item

module _ (entry : ℕ → ℕ) where
  abbrev pub choice_at : (x y rest : Code ℕ) (near : Bool) → Around → (i k : ℕ) → Choice
  choice_at x y rest near c i k =
      let after = begins_here near rest in
      let beside = after && (extent after y == 0) in
      let here = begins_here beside x in
      let a = suc i + gap here in
      let b = a + extent beside x in
      let r = b + extent after y in
      let m = label c r k rest in
      record {
        after = after;
        beside = beside;
        here = here;
        first = a;
        second = b;
        behind = r;
        next = m;
        jumps = skip here (label c a m x);
        firsts = flat entry beside c a m x;
        seconds = flat entry after c b m y;
        others = flat entry near c r k rest;
      }

  abbrev pub turns_at : (test body step rest : Code ℕ) (near : Bool) → Around → (i k : ℕ) → Turns
  turns_at test body step rest near c i k =
      let steps = begins_here false step in
      let enters = begins_here steps body in
      let b = i + extent enters test in
      let t = b + extent steps body in
      let r = t + extent false step in
      let loop : Loop = record { behind = label c r k rest; onward = if steps then t else i } in
      let e = label (Some loop) b loop.onward body in
      record {
        steps = steps;
        enters = enters;
        body = b;
        step = t;
        behind = r;
        loop = loop;
        enter = e;
        tests = flat entry enters (Some loop) i e test;
        bodies = flat entry steps (Some loop) b loop.onward body;
        lasts = flat entry false (Some loop) t i step;
        others = flat entry near c r k rest;
      }

  abbrev pub rounds_at : (body test rest : Code ℕ) (near : Bool) → Around → (i k : ℕ) → Rounds
  rounds_at body test rest near c i k =
      let t = i + extent true body in
      let r = t + extent false test in
      let loop : Loop = record { behind = label c r k rest; onward = t } in
      let e = label (Some loop) i t body in
      record {
        test = t;
        behind = r;
        loop = loop;
        enter = e;
        bodies = flat entry true (Some loop) i t body;
        tests = flat entry false (Some loop) t e test;
        others = flat entry near c r k rest;
      }

  abbrev pub entering_at : (f : ℕ) (opening rest : Code ℕ) (near : Bool) → Around → (i k : ℕ) → Entering
  entering_at f opening rest near c i k =
      let here = begins_here near rest in
      let a = suc i + extent true opening in
      let r = suc a + gap here in
      let m = label c r k rest in
      record {
        here = here;
        back = a;
        behind = r;
        next = m;
        openings = flat entry true None (suc i) a opening;
        jumps = jump (entry f) ∷ skip here m;
        others = flat entry near c r k rest;
      }

  -- each part stands at its place
  module _ (core : List CoreOp) where
    pub record HasChoice (i : ℕ) (q : Choice) : Type 0 where
      pub begins : Has core (suc i) (q.jumps ++ q.firsts)
      pub first : Has core q.first q.firsts
      pub second : Has core q.second q.seconds
      pub others : Has core q.behind q.others

    pub has_choice : (x y rest : Code ℕ) (near : Bool) (c : Around) (i k : ℕ) → let q = choice_at x y rest near c i k in
        Has core (suc i) (q.jumps ++ q.firsts ++ q.seconds ++ q.others) → HasChoice i q
    has_choice x y rest near c i k h =
        let q = choice_at x y rest near c i k in
        let lj = skips q.here (label c q.first q.next x) in
        let lx = flat_length entry x q.beside c q.first q.next in
        let ly = flat_length entry y q.after c q.second q.next in
        let e1 = length-append q.jumps q.firsts in
        let e2 = length-append (q.jumps ++ q.firsts) q.seconds in
        let ways = has_front core (suc i) (q.jumps ++ q.firsts ++ q.seconds) q.others h in
        let begins = has_front core (suc i) (q.jumps ++ q.firsts) q.seconds ways in
        record {
          begins = begins;
          first = has_back core (suc i) q.first q.jumps q.firsts (omega arith) begins;
          second = has_back core (suc i) q.second (q.jumps ++ q.firsts) q.seconds (omega arith) ways;
          others = has_back core (suc i) q.behind (q.jumps ++ q.firsts ++ q.seconds) q.others (omega arith) h;
        }

    pub record HasTurns (i : ℕ) (q : Turns) : Type 0 where
      pub test : Has core i q.tests
      pub body : Has core q.body q.bodies
      pub step : Has core q.step q.lasts
      pub others : Has core q.behind q.others

    pub has_turns : (test body step rest : Code ℕ) (near : Bool) (c : Around) (i k : ℕ) → let q = turns_at test body step rest near c i k in
        Has core i (q.tests ++ q.bodies ++ q.lasts ++ q.others) → HasTurns i q
    has_turns test body step rest near c i k h =
        let q = turns_at test body step rest near c i k in
        let lt = flat_length entry test q.enters (Some q.loop) i q.enter in
        let lb = flat_length entry body q.steps (Some q.loop) q.body q.loop.onward in
        let ls = flat_length entry step false (Some q.loop) q.step i in
        let e1 = length-append q.tests q.bodies in
        let e2 = length-append (q.tests ++ q.bodies) q.lasts in
        let whole = has_front core i (q.tests ++ q.bodies ++ q.lasts) q.others h in
        let front = has_front core i (q.tests ++ q.bodies) q.lasts whole in
        record {
          test = has_front core i q.tests q.bodies front;
          body = has_back core i q.body q.tests q.bodies (omega arith) front;
          step = has_back core i q.step (q.tests ++ q.bodies) q.lasts (omega arith) whole;
          others = has_back core i q.behind (q.tests ++ q.bodies ++ q.lasts) q.others (omega arith) h;
        }

    pub record HasRounds (i : ℕ) (q : Rounds) : Type 0 where
      pub body : Has core i q.bodies
      pub test : Has core q.test q.tests
      pub others : Has core q.behind q.others

    pub has_rounds : (body test rest : Code ℕ) (near : Bool) (c : Around) (i k : ℕ) → let q = rounds_at body test rest near c i k in
        Has core i (q.bodies ++ q.tests ++ q.others) → HasRounds i q
    has_rounds body test rest near c i k h =
        let q = rounds_at body test rest near c i k in
        let lb = flat_length entry body true (Some q.loop) i q.test in
        let lt = flat_length entry test false (Some q.loop) q.test q.enter in
        let e1 = length-append q.bodies q.tests in
        let whole = has_front core i (q.bodies ++ q.tests) q.others h in
        record {
          body = has_front core i q.bodies q.tests whole;
          test = has_back core i q.test q.bodies q.tests (omega arith) whole;
          others = has_back core i q.behind (q.bodies ++ q.tests) q.others (omega arith) h;
        }

    pub record HasEntering (i : ℕ) (q : Entering) : Type 0 where
      pub opening : Has core (suc i) q.openings
      pub jumps : Has core q.back q.jumps
      pub others : Has core q.behind q.others

    pub has_entering : (f : ℕ) (opening rest : Code ℕ) (near : Bool) (c : Around) (i k : ℕ) → let q = entering_at f opening rest near c i k in
        Has core (suc i) (q.openings ++ q.jumps ++ q.others) → HasEntering i q
    has_entering f opening rest near c i k h =
        let q = entering_at f opening rest near c i k in
        let lo = flat_length entry opening true None (suc i) q.back in
        let lj = skips q.here q.next in
        let e1 = length-append q.openings q.jumps in
        let whole = has_front core (suc i) (q.openings ++ q.jumps) q.others h in
        record {
          opening = has_front core (suc i) q.openings q.jumps whole;
          jumps = has_back core (suc i) q.back q.openings q.jumps (omega arith) whole;
          others = has_back core (suc i) q.behind (q.openings ++ q.jumps) q.others (omega arith) h;
        }
