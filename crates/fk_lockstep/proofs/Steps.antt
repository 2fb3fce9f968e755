-- What is left of code in step stays in step.
use Rattle.std.proofs.Common.{◌≡◌, ℕ, Bool, true, false, List, [], ◌∷◌, Option, Some, None, subst}
use Rattle.std.specs.Prelude.{if◌then◌else◌}
use Rattle.fk_meaning.specs.Round.{Step}
use Rattle.fk_meaning_forms.specs.Code.{Code, done, perform, choose, while, until, turn, again, quit, break, continue, call, ends, append}
use Rattle.fk_meaning.specs.Left.{broken, continued, settled_turn, opened, settled}
use Rattle.fk_meaning.specs.Next.{Work, going, returned, step, step_of, next}
use Rattle.fk_lockstep.specs.InStep.{is_agree, leaves_step, InStep, Runs, Loops, CodeInStep, AllInStep, WorkInStep, StepInStep, StaysInStep}
use Rattle.fk_lockstep.proofs.Weaken.{given, taken, weaken, weaken_run}

module _ (may_call : ℕ → Bool) where
  abbrev Static : Code ℕ → Type 0
  Static code = InStep may_call false code

  -- code of a text has no loops under way
  runs_of : (agreed : Bool) (code : Code ℕ) → InStep may_call agreed code → Runs may_call agreed code
  runs_of agreed done h = tt
  runs_of agreed (perform t op rest) h = (h.0, given (leaves_step op) (Runs may_call (is_agree op) rest) (runs_of (is_agree op) rest h.1))
  runs_of agreed (choose t op a b rest) h = (h.0, h.1, h.2, runs_of false rest h.3)
  runs_of agreed (while test body after rest) h = (h.0, h.1, h.2, runs_of false rest h.3)
  runs_of agreed (until body test rest) h = (h.0, h.1, runs_of false rest h.2)
  runs_of agreed (turn test body after rest) h = absurd h
  runs_of agreed (again test body after rest) h = absurd h
  runs_of agreed (quit t op rest) h = (h.0, runs_of false rest h.1)
  runs_of agreed (break rest) h = tt
  runs_of agreed (continue rest) h = tt
  runs_of agreed (call t op f opening rest) h = (h.0, h.1, h.2, runs_of false rest h.3)
  runs_of agreed (ends t op rest) h = h.0

  loops_of : (agreed : Bool) (code : Code ℕ) → InStep may_call agreed code → Loops may_call code
  loops_of agreed done h = tt
  loops_of agreed (perform t op rest) h = loops_of (is_agree op) rest h.1
  loops_of agreed (choose t op a b rest) h = loops_of false rest h.3
  loops_of agreed (while test body after rest) h = loops_of false rest h.3
  loops_of agreed (until body test rest) h = loops_of false rest h.2
  loops_of agreed (turn test body after rest) h = absurd h
  loops_of agreed (again test body after rest) h = absurd h
  loops_of agreed (quit t op rest) h = loops_of false rest h.1
  loops_of agreed (break rest) h = loops_of false rest h
  loops_of agreed (continue rest) h = loops_of false rest h
  loops_of agreed (call t op f opening rest) h = loops_of false rest h.3
  loops_of agreed (ends t op rest) h = loops_of false rest h.1

  -- one after the other
  runs_append : (agreed : Bool) (code more : Code ℕ) → InStep may_call agreed code → Runs may_call false more → Runs may_call agreed (append code more)
  runs_append agreed done more h g = weaken_run may_call agreed more g
  runs_append agreed (perform t op rest) more h g =
      (h.0, given (leaves_step op) (Runs may_call (is_agree op) (append rest more)) (runs_append (is_agree op) rest more h.1 g))
  runs_append agreed (choose t op a b rest) more h g = (h.0, h.1, h.2, runs_append false rest more h.3 g)
  runs_append agreed (while test body after rest) more h g = (h.0, h.1, h.2, runs_append false rest more h.3 g)
  runs_append agreed (until body test rest) more h g = (h.0, h.1, runs_append false rest more h.2 g)
  runs_append agreed (turn test body after rest) more h g = absurd h
  runs_append agreed (again test body after rest) more h g = absurd h
  runs_append agreed (quit t op rest) more h g = (h.0, runs_append false rest more h.1 g)
  runs_append agreed (break rest) more h g = tt
  runs_append agreed (continue rest) more h g = tt
  runs_append agreed (call t op f opening rest) more h g = (h.0, h.1, h.2, runs_append false rest more h.3 g)
  runs_append agreed (ends t op rest) more h g = h.0

  loops_append : (agreed : Bool) (code more : Code ℕ) → InStep may_call agreed code → Loops may_call more → Loops may_call (append code more)
  loops_append agreed done more h g = g
  loops_append agreed (perform t op rest) more h g = loops_append (is_agree op) rest more h.1 g
  loops_append agreed (choose t op a b rest) more h g = loops_append false rest more h.3 g
  loops_append agreed (while test body after rest) more h g = loops_append false rest more h.3 g
  loops_append agreed (until body test rest) more h g = loops_append false rest more h.2 g
  loops_append agreed (turn test body after rest) more h g = absurd h
  loops_append agreed (again test body after rest) more h g = absurd h
  loops_append agreed (quit t op rest) more h g = loops_append false rest more h.1 g
  loops_append agreed (break rest) more h g = loops_append false rest more h g
  loops_append agreed (continue rest) more h g = loops_append false rest more h g
  loops_append agreed (call t op f opening rest) more h g = loops_append false rest more h.3 g
  loops_append agreed (ends t op rest) more h g = loops_append false rest more h.1 g

  -- the two together
  abbrev Sound : (agreed : Bool) → Code ℕ → Type 0
  Sound agreed code = CodeInStep may_call agreed code

  anyway : (agreed : Bool) (code : Code ℕ) → Sound false code → Sound agreed code
  anyway agreed code h = record { runs = weaken_run may_call agreed code h.runs; loops = h.loops }

  behind : (agreed : Bool) (code more : Code ℕ) → InStep may_call agreed code → Sound false more → Sound agreed (append code more)
  behind agreed code more h g = record { runs = runs_append agreed code more h g.runs; loops = loops_append agreed code more h g.loops }

  -- a loop that is under way
  record Loop (test body after rest : Code ℕ) : Type 0 where
    test_in : Static test
    body_in : Static body
    after_in : Static after
    rest_in : Sound false rest

  ending : (agreed : Bool) (test body after rest : Code ℕ) → Loop test body after rest → Sound agreed (turn test body after rest)
  ending agreed test body after rest l = record {
    runs = (l.test_in, l.body_in, l.after_in, l.rest_in.runs);
    loops = (l.test_in, l.body_in, l.after_in, l.rest_in.runs, l.rest_in.loops);
  }

  beginning : (agreed : Bool) (test body after rest : Code ℕ) → Loop test body after rest → Sound agreed (again test body after rest)
  beginning agreed test body after rest l = record {
    runs = (l.test_in, l.body_in, l.after_in, l.rest_in.runs);
    loops = (l.test_in, l.body_in, l.after_in, l.rest_in.runs, l.rest_in.loops);
  }

  loop_of : (test body after rest : Code ℕ) → Loops may_call (turn test body after rest) → Loop test body after rest
  loop_of test body after rest h =
      record { test_in = h.0; body_in = h.1; after_in = h.2; rest_in = record { runs = h.3; loops = h.4 } }

  next_turn : (agreed : Bool) (test body after rest : Code ℕ) → Loop test body after rest → Sound agreed (append after (again test body after rest))
  next_turn agreed test body after rest l =
      anyway agreed (append after (again test body after rest)) (behind false after (again test body after rest) l.after_in (beginning false test body after rest l))

  breaks : (code : Code ℕ) → Loops may_call code → Sound false (broken code)
  breaks done h = record { runs = tt; loops = tt }
  breaks (perform t op rest) h = breaks rest h
  breaks (choose t op a b rest) h = breaks rest h
  breaks (while test body after rest) h = breaks rest h
  breaks (until body test rest) h = breaks rest h
  breaks (turn test body after rest) h = (loop_of test body after rest h).rest_in
  breaks (again test body after rest) h = (loop_of test body after rest h).rest_in
  breaks (quit t op rest) h = breaks rest h
  breaks (break rest) h = breaks rest h
  breaks (continue rest) h = breaks rest h
  breaks (call t op f opening rest) h = breaks rest h
  breaks (ends t op rest) h = breaks rest h

  continues : (code : Code ℕ) → Loops may_call code → Sound false (continued code)
  continues done h = record { runs = tt; loops = tt }
  continues (perform t op rest) h = continues rest h
  continues (choose t op a b rest) h = continues rest h
  continues (while test body after rest) h = continues rest h
  continues (until body test rest) h = continues rest h
  continues (turn test body after rest) h = next_turn false test body after rest (loop_of test body after rest h)
  continues (again test body after rest) h = next_turn false test body after rest (loop_of test body after rest h)
  continues (quit t op rest) h = continues rest h
  continues (break rest) h = continues rest h
  continues (continue rest) h = continues rest h
  continues (call t op f opening rest) h = continues rest h
  continues (ends t op rest) h = continues rest h

  turns : (agreed : Bool) (code : Code ℕ) → Sound false code → Sound agreed (settled_turn code)
  turns agreed (turn test body after rest) h = next_turn agreed test body after rest (loop_of test body after rest h.loops)
  turns agreed code h = anyway agreed code h

  opens : (agreed : Bool) (code more : Code ℕ) → InStep may_call agreed code → Sound false more → Sound agreed (opened code more)
  opens agreed done more h g = turns agreed more g
  opens agreed (perform t op rest) more h g = behind agreed (perform t op rest) more h g
  opens agreed (choose t op a b rest) more h g = behind agreed (choose t op a b rest) more h g
  opens agreed (while test body after rest) more h g =
      beginning agreed test body after (opened rest more) (record { test_in = h.0; body_in = h.1; after_in = h.2; rest_in = opens false rest more h.3 g })
  opens agreed (until body test rest) more h g =
      anyway agreed (opened body (turn test body done (opened rest more)))
      (opens false body (turn test body done (opened rest more)) h.0
      (ending false test body done (opened rest more) (record { test_in = h.1; body_in = h.0; after_in = tt; rest_in = opens false rest more h.2 g })))
  opens agreed (turn test body after rest) more h g = absurd h
  opens agreed (again test body after rest) more h g = absurd h
  opens agreed (quit t op rest) more h g = behind agreed (quit t op rest) more h g
  opens agreed (break rest) more h g = anyway agreed (broken (append rest more)) (breaks (append rest more) (loops_append false rest more h g.loops))
  opens agreed (continue rest) more h g = anyway agreed (continued (append rest more)) (continues (append rest more) (loops_append false rest more h g.loops))
  opens agreed (call t op f opening rest) more h g = behind agreed (call t op f opening rest) more h g
  opens agreed (ends t op rest) more h g = behind agreed (ends t op rest) more h g

  settles : (agreed : Bool) (code : Code ℕ) → Sound agreed code → Sound agreed (settled code)
  settles agreed (while test body after rest) h =
      let r = h.runs in
      beginning agreed test body after (settled rest)
      (record { test_in = r.0; body_in = r.1; after_in = r.2; rest_in = settles false rest (record { runs = r.3; loops = h.loops }) })
  settles agreed (until body test rest) h =
      let r = h.runs in
      anyway agreed (opened body (turn test body done (settled rest)))
      (opens false body (turn test body done (settled rest)) r.0
      (ending false test body done (settled rest)
      (record { test_in = r.1; body_in = r.0; after_in = tt; rest_in = settles false rest (record { runs = r.2; loops = h.loops }) })))
  settles agreed (turn test body after rest) h = next_turn agreed test body after rest (loop_of test body after rest h.loops)
  settles agreed (break rest) h = anyway agreed (broken rest) (breaks rest h.loops)
  settles agreed (continue rest) h = anyway agreed (continued rest) (continues rest h.loops)
  settles agreed code h = h

  -- of a processor
  goes : (agreed : Bool) (code : Code ℕ) (callers : List (Code ℕ)) → Sound agreed code → AllInStep may_call callers → WorkInStep may_call agreed (going code callers)
  goes agreed code callers h g = record { left = settles agreed code h; callers = g }

  returns : (agreed : Bool) (callers : List (Code ℕ)) → AllInStep may_call callers → WorkInStep may_call agreed (returned callers)
  returns agreed [] g = record { left = record { runs = tt; loops = tt }; callers = tt }
  returns agreed (code ∷ callers) g = goes agreed code callers (anyway agreed code g.0) g.1

  abbrev pub Stepped : (agreed : Bool) → Option (Step Work) → Type 0
  Stepped agreed None = Unit {0}
  Stepped agreed (Some s) = StepInStep may_call agreed s

  module _ (bodies : ℕ → Code ℕ) (all_bodies : (function : ℕ) → may_call function ≡ true → Static (bodies function)) where
    chosen : (agreed : Bool) (a b rest : Code ℕ) (callers : List (Code ℕ)) → Static a → Static b → Sound false rest → AllInStep may_call callers
        → (onward : Bool) → WorkInStep may_call agreed (going (append (if onward then a else b) rest) callers)
    chosen agreed a b rest callers h g r k true = goes agreed (append a rest) callers (behind agreed a rest (weaken may_call agreed a h) r) k
    chosen agreed a b rest callers h g r k false = goes agreed (append b rest) callers (behind agreed b rest (weaken may_call agreed b g) r) k

    quits : (agreed : Bool) (rest : Code ℕ) (callers : List (Code ℕ)) → Sound false rest → AllInStep may_call callers
        → (onward : Bool) → WorkInStep may_call agreed (going (if onward then rest else broken rest) callers)
    quits agreed rest callers r k true = goes agreed rest callers (anyway agreed rest r) k
    quits agreed rest callers r k false = goes agreed (broken rest) callers (anyway agreed (broken rest) (breaks rest r.loops)) k

    steps : (agreed : Bool) (code : Code ℕ) (callers : List (Code ℕ)) → Sound agreed code → AllInStep may_call callers → Stepped agreed (step bodies code callers)
    steps agreed (perform t op rest) callers h k = record {
      stands = h.runs.0;
      goes_on = λ stays onward.
          goes (is_agree op) rest callers
          (record { runs = taken (leaves_step op) (Runs may_call (is_agree op) rest) stays h.runs.1; loops = h.loops }) k;
    }
    steps agreed (choose t op a b rest) callers h k = record {
      stands = h.runs.0;
      goes_on = λ stays.
          chosen (is_agree op) a b rest callers (taken (leaves_step op) (Static a) stays h.runs.1) h.runs.2
          (record { runs = h.runs.3; loops = h.loops }) k;
    }
    steps agreed (quit t op rest) callers h k = record {
      stands = h.runs.0;
      goes_on = λ stays. quits (is_agree op) rest callers (record { runs = h.runs.1; loops = h.loops }) k;
    }
    steps agreed (call t op f opening rest) callers h k = record {
      stands = h.runs.0;
      goes_on = λ stays onward.
          let body = bodies f in
          let in_step = all_bodies f h.runs.1 in
          let body_sound : Sound false body = record { runs = runs_of false body in_step; loops = loops_of false body in_step } in
          goes (is_agree op) (append opening body) (rest ∷ callers) (behind (is_agree op) opening body (weaken may_call (is_agree op) opening h.runs.2) body_sound)
          (record { runs = h.runs.3; loops = h.loops }, k);
    }
    steps agreed (ends t op rest) callers h k = record {
      stands = h.runs;
      goes_on = λ stays onward. returns (is_agree op) callers k;
    }
    steps agreed code callers h k = tt

    steps_of : (agreed : Bool) (code : Code ℕ) (callers : List (Code ℕ)) → Sound agreed code → AllInStep may_call callers → Stepped agreed (step_of bodies code callers)
    steps_of agreed (again test body after rest) callers h k =
        let l = loop_of test body after rest h.loops in
        let later = behind false body (turn test body after rest) l.body_in (ending false test body after rest l) in
        steps agreed (append test (append body (turn test body after rest))) callers
        (behind agreed test (append body (turn test body after rest)) (weaken may_call agreed test l.test_in) later) k
    steps_of agreed code callers h k = steps agreed code callers h k

    pub is_stepped : (agreed : Bool) (work : Work) → WorkInStep may_call agreed work → Stepped agreed (next bodies work)
    is_stepped agreed work h = steps_of agreed work.left work.callers h.left h.callers

pub stays_in_step : StaysInStep
stays_in_step may_call bodies all_bodies agreed work h s is =
    subst (Stepped may_call agreed) is (is_stepped may_call bodies all_bodies agreed work h)
