-- What is left to do and an index where it stands have the same next operation.
use Rattle.std.proofs.Common.{◌≡◌, ◌⊎◌, inl, inr, ℕ, suc, Bool, true, false, List, [], ◌∷◌, ◌++◌, length, slice_get, Some, None, ap, ◌∙◌, sym, refl, subst}
use Rattle.std.specs.Prelude.{if◌then◌else◌}
use Rattle.fk_meaning_operation.specs.declared.operation.Operation.{Operation}
use Rattle.fk_meaning_operation.specs.declared.operation.Operation.TheVariants as ops
use Rattle.fk_meaning.specs.Alike.{Same}
use Rattle.fk_meaning.specs.Behind.{shrinks, tail, grown, past, works, waiting, outs}
use Rattle.fk_meaning_forms.specs.Code.{Code, done, perform, choose, while, until, turn, again, quit, break, continue, call, ends, append}
use Rattle.fk_meaning.specs.Left.{broken, continued, opened, settled}
use Rattle.fk_meaning.specs.Next as source
use Rattle.fk_meaning.specs.Next.{Work, going}
use Rattle.fk_core.specs.declared.op.CoreOp.{CoreOp}
use Rattle.fk_core.specs.Next.{Position, position, follows, returned, next}
use Rattle.fk_core.specs.CodeAt.{Loop, Around, is_first, is_start, Leads, Stay, OpFrom, GoesOn, Enters, Returns, CodeAt}
use Rattle.fk_core.specs.WellFormed.{LeadsOn}
use Rattle.fk_core.proofs.Leading.{onto, next_at, none_at}

-- code that is settled: an operation stands first, or a loop under way, or there is nothing
abbrev is_open : Code ℕ → Bool
is_open (again test body step rest) = true
is_open code = is_start code

-- a step before a loop that begins again is open
step_is_open : (code t b s rest : Code ℕ) → is_start code ≡ true → is_open (append code (again t b s rest)) ≡ true
step_is_open done t b s rest e = refl
step_is_open (perform n op more) t b s rest e = refl
step_is_open (choose n op x y more) t b s rest e = refl
step_is_open (while t' b' s' more) t b s rest e = absurd (cc)
step_is_open (until b' t' more) t b s rest e = absurd (cc)
step_is_open (turn t' b' s' more) t b s rest e = absurd (cc)
step_is_open (again t' b' s' more) t b s rest e = absurd (cc)
step_is_open (quit n op more) t b s rest e = refl
step_is_open (break more) t b s rest e = absurd (cc)
step_is_open (continue more) t b s rest e = absurd (cc)
step_is_open (call n op f opening more) t b s rest e = refl
step_is_open (ends n op more) t b s rest e = refl

pub first_before : (code more : Code ℕ) → is_first code ≡ true → is_first (append code more) ≡ true
first_before done more e = absurd (cc)
first_before (perform n op rest) more e = refl
first_before (choose n op x y rest) more e = refl
first_before (while t b s rest) more e = absurd (cc)
first_before (until b t rest) more e = absurd (cc)
first_before (turn t b s rest) more e = absurd (cc)
first_before (again t b s rest) more e = absurd (cc)
first_before (quit n op rest) more e = refl
first_before (break rest) more e = absurd (cc)
first_before (continue rest) more e = absurd (cc)
first_before (call n op f opening rest) more e = refl
first_before (ends n op rest) more e = refl

no_more : (ops : List CoreOp) → slice_get ops (length ops) ≡ None
no_more [] = refl
no_more (op ∷ ops) = no_more ops

-- these are the last of some calls
abbrev pub IsEndOf : (last all : List ℕ) → Type 0
IsEndOf last [] = last ≡ []
IsEndOf last (i ∷ is) = (last ≡ i ∷ is) ⊎ IsEndOf last is

all_calls : (is : List ℕ) → IsEndOf is is
all_calls [] = refl
all_calls (i ∷ is) = inl refl

module _ (core : List CoreOp) (entry : ℕ → ℕ) where
  -- what is left of a run stands from an index on to the end of the list, with the loops that are under way
  abbrev pub Runs : Code ℕ → Around → ℕ → Type 0
  Runs done c i = (c ≡ None) × Leads core entry i (length core)
  Runs (perform n op rest) c i =
      (o : OpFrom core entry i n op) × (a : ℕ) × GoesOn core entry o true a × GoesOn core entry o false a × Runs rest c a
  Runs (choose n op x y rest) c i =
      (o : OpFrom core entry i n op) × (a b m : ℕ) × GoesOn core entry o true a × GoesOn core entry o false b
      × CodeAt core entry x c a m × CodeAt core entry y c b m × Runs rest c m
  Runs (while test body step rest) c i =
      (s e : ℕ) × (loop : Loop) × Leads core entry i s × (is_first test ≡ true) × (is_start step ≡ true)
      × CodeAt core entry test (Some loop) s e × CodeAt core entry body (Some loop) e loop.onward
      × CodeAt core entry step (Some loop) loop.onward s × Runs rest c loop.behind
  Runs (until body test rest) c i =
      (s e : ℕ) × (loop : Loop) × Leads core entry i e × (is_first test ≡ true)
      × CodeAt core entry test (Some loop) s e × CodeAt core entry body (Some loop) e loop.onward × Leads core entry loop.onward s
      × Runs rest c loop.behind
  Runs (turn test body step rest) c i =
      (s e : ℕ) × (loop : Loop) × Leads core entry i loop.onward × (is_first test ≡ true) × (is_start step ≡ true)
      × CodeAt core entry test (Some loop) s e × CodeAt core entry body (Some loop) e loop.onward
      × CodeAt core entry step (Some loop) loop.onward s
      × (c ≡ Some loop) × (is_open rest ≡ true) × (d : Around) × Runs rest d loop.behind
  Runs (again test body step rest) c i =
      (s e : ℕ) × (loop : Loop) × Leads core entry i s × (is_first test ≡ true) × (is_start step ≡ true)
      × CodeAt core entry test (Some loop) s e × CodeAt core entry body (Some loop) e loop.onward
      × CodeAt core entry step (Some loop) loop.onward s
      × (c ≡ Some loop) × (is_open rest ≡ true) × (d : Around) × Runs rest d loop.behind
  Runs (quit n op rest) c i =
      (o : OpFrom core entry i n op) × (a : ℕ) × (loop : Loop) × (c ≡ Some loop) × GoesOn core entry o true a
      × GoesOn core entry o false loop.behind × Runs rest c a
  Runs (break rest) c i = (a : ℕ) × (loop : Loop) × (c ≡ Some loop) × Leads core entry i loop.behind × Runs rest c a
  Runs (continue rest) c i = (a : ℕ) × (loop : Loop) × (c ≡ Some loop) × Leads core entry i loop.onward × Runs rest c a
  Runs (call n op f opening rest) c i =
      (o : OpFrom core entry i n op) × (a e back : ℕ) × Enters core entry o a back × CodeAt core entry opening None a e
      × Leads core entry e (entry f) × Runs rest c back
  Runs (ends n op rest) c i = (o : OpFrom core entry i n op) × (a : ℕ) × Returns core entry o × Runs rest c a

  -- what stands at an index stands where jumps lead to it
  abbrev earlier : {i j site : ℕ} {op : Operation} → Leads core entry i j → OpFrom core entry j site op → OpFrom core entry i site op
  earlier l o = record { at = o.at; op = o.op; leads = onto core entry l o.leads; stands = o.stands; is_read = o.is_read; has_site = o.has_site }

  led : (code : Code ℕ) (c : Around) (i j : ℕ) → Leads core entry i j → Runs code c j → Runs code c i
  led done c i j l h = (h.0, onto core entry l h.1)
  led (perform n op rest) c i j l h = (earlier l h.0, h.1, h.2, h.3, h.4)
  led (choose n op x y rest) c i j l h = (earlier l h.0, h.1, h.2, h.3, h.4, h.5, h.6, h.7, h.8)
  led (while t b s rest) c i j l h = (h.0, h.1, h.2, onto core entry l h.3, h.4, h.5, h.6, h.7, h.8, h.9)
  led (until b t rest) c i j l h = (h.0, h.1, h.2, onto core entry l h.3, h.4, h.5, h.6, h.7, h.8)
  led (turn t b s rest) c i j l h = (h.0, h.1, h.2, onto core entry l h.3, h.4, h.5, h.6, h.7, h.8, h.9, h.10, h.11, h.12)
  led (again t b s rest) c i j l h = (h.0, h.1, h.2, onto core entry l h.3, h.4, h.5, h.6, h.7, h.8, h.9, h.10, h.11, h.12)
  led (quit n op rest) c i j l h = (earlier l h.0, h.1, h.2, h.3, h.4, h.5, h.6)
  led (break rest) c i j l h = (h.0, h.1, h.2, onto core entry l h.3, h.4)
  led (continue rest) c i j l h = (h.0, h.1, h.2, onto core entry l h.3, h.4)
  led (call n op f opening rest) c i j l h = (earlier l h.0, h.1, h.2, h.3, h.4, h.5, h.6, h.7)
  led (ends n op rest) c i j l h = (earlier l h.0, h.1, h.2, h.3)

  -- one after the other
  joined : (code more : Code ℕ) (c : Around) (i k : ℕ) → CodeAt core entry code c i k → Runs more c k → Runs (append code more) c i
  joined done more c i k h m = led more c i k h m
  joined (perform n op rest) more c i k h m = (h.0, h.1, h.2, h.3, joined rest more c h.1 k h.4 m)
  joined (choose n op x y rest) more c i k h m = (h.0, h.1, h.2, h.3, h.4, h.5, h.6, h.7, joined rest more c h.3 k h.8 m)
  joined (while t b s rest) more c i k h m = (h.0, h.1, h.2, h.3, h.4, h.5, h.6, h.7, h.8, joined rest more c h.2.behind k h.9 m)
  joined (until b t rest) more c i k h m = (h.0, h.1, h.2, h.3, h.4, h.5, h.6, h.7, joined rest more c h.2.behind k h.8 m)
  joined (turn t b s rest) more c i k h m = absurd h
  joined (again t b s rest) more c i k h m = absurd h
  joined (quit n op rest) more c i k h m = (h.0, h.1, h.2, h.3, h.4, h.5, joined rest more c h.1 k h.6 m)
  joined (break rest) more c i k h m = (h.0, h.1, h.2, h.3, joined rest more c h.0 k h.4 m)
  joined (continue rest) more c i k h m = (h.0, h.1, h.2, h.3, joined rest more c h.0 k h.4 m)
  joined (call n op f opening rest) more c i k h m = (h.0, h.1, h.2, h.3, h.4, h.5, h.6, joined rest more c h.3 k h.7 m)
  joined (ends n op rest) more c i k h m = (h.0, h.1, h.2, joined rest more c h.1 k h.3 m)

  -- code that stands up to the end, outside of loops, is all that is left
  whole : (code : Code ℕ) (i : ℕ) → CodeAt core entry code None i (length core) → Runs code None i
  whole done i h = (refl, h)
  whole (perform n op rest) i h = (h.0, h.1, h.2, h.3, whole rest h.1 h.4)
  whole (choose n op x y rest) i h = (h.0, h.1, h.2, h.3, h.4, h.5, h.6, h.7, whole rest h.3 h.8)
  whole (while t b s rest) i h = (h.0, h.1, h.2, h.3, h.4, h.5, h.6, h.7, h.8, whole rest h.2.behind h.9)
  whole (until b t rest) i h = (h.0, h.1, h.2, h.3, h.4, h.5, h.6, h.7, whole rest h.2.behind h.8)
  whole (turn t b s rest) i h = absurd h
  whole (again t b s rest) i h = absurd h
  whole (quit n op rest) i h = (h.0, h.1, h.2, h.3, h.4, h.5, whole rest h.1 h.6)
  whole (break rest) i h = (h.0, h.1, h.2, h.3, whole rest h.0 h.4)
  whole (continue rest) i h = (h.0, h.1, h.2, h.3, whole rest h.0 h.4)
  whole (call n op f opening rest) i h = (h.0, h.1, h.2, h.3, h.4, h.5, h.6, whole rest h.3 h.7)
  whole (ends n op rest) i h = (h.0, h.1, h.2, whole rest h.1 h.3)

  -- code that stands, and begins with an operation, or a loop that does
  record Ready (code : Code ℕ) (i : ℕ) : Type 0 where
    is_ready : is_open code ≡ true
    around : Around
    runs : Runs code around i

  ready_led : (code : Code ℕ) (i j : ℕ) → Leads core entry i j → Ready code j → Ready code i
  ready_led code i j l r = record { is_ready = r.is_ready; around = r.around; runs = led code r.around i j l r.runs }

  one_loop : (loop other : Loop) (c : Around) → c ≡ Some loop → c ≡ Some other → loop ≡ other
  one_loop loop other c e f = cc

  outside : (loop : Loop) → ◌≡◌ {A = Around} None (Some loop) → ⊥
  outside loop e = cc

  -- behind the loop that is under way
  breaks : (code : Code ℕ) (c : Around) (i : ℕ) (loop : Loop) → Runs code c i → c ≡ Some loop → Ready (broken code) loop.behind
  breaks done c i loop h e = absurd (outside loop (sym h.0 ∙ e))
  breaks (perform n op rest) c i loop h e = breaks rest c h.1 loop h.4 e
  breaks (choose n op x y rest) c i loop h e = breaks rest c h.3 loop h.8 e
  breaks (while t b s rest) c i loop h e = breaks rest c h.2.behind loop h.9 e
  breaks (until b t rest) c i loop h e = breaks rest c h.2.behind loop h.8 e
  breaks (turn t b s rest) c i loop h e =
      subst (λ (l : Loop). Ready rest l.behind) (one_loop h.2 loop c h.9 e) (record { is_ready = h.10; around = h.11; runs = h.12 })
  breaks (again t b s rest) c i loop h e =
      subst (λ (l : Loop). Ready rest l.behind) (one_loop h.2 loop c h.9 e) (record { is_ready = h.10; around = h.11; runs = h.12 })
  breaks (quit n op rest) c i loop h e = breaks rest c h.1 loop h.6 e
  breaks (break rest) c i loop h e = breaks rest c h.0 loop h.4 e
  breaks (continue rest) c i loop h e = breaks rest c h.0 loop h.4 e
  breaks (call n op f opening rest) c i loop h e = breaks rest c h.3 loop h.7 e
  breaks (ends n op rest) c i loop h e = breaks rest c h.1 loop h.3 e

  -- at the end of the turn
  steps : (t b s rest : Code ℕ) (c : Around) (i : ℕ) (loop : Loop) → Runs (again t b s rest) c i → c ≡ Some loop
      → Ready (append s (again t b s rest)) loop.onward
  steps t b s rest c i loop h e =
      let here : Runs (again t b s rest) (Some h.2) h.0 = (h.0, h.1, h.2, Stay, h.4, h.5, h.6, h.7, h.8, refl, h.10, h.11, h.12) in
      subst (λ (l : Loop). Ready (append s (again t b s rest)) l.onward) (one_loop h.2 loop c h.9 e) (record {
        is_ready = step_is_open s t b s rest h.5;
        around = Some h.2;
        runs = joined s (again t b s rest) (Some h.2) h.2.onward h.0 h.8 here;
      })

  -- the loop of a turn, as it begins again
  begun : (t b s rest : Code ℕ) (c : Around) (i : ℕ) (h : Runs (turn t b s rest) c i) → Runs (again t b s rest) c h.0
  begun t b s rest c i h = (h.0, h.1, h.2, Stay, h.4, h.5, h.6, h.7, h.8, h.9, h.10, h.11, h.12)

  continues : (code : Code ℕ) (c : Around) (i : ℕ) (loop : Loop) → Runs code c i → c ≡ Some loop → Ready (continued code) loop.onward
  continues done c i loop h e = absurd (outside loop (sym h.0 ∙ e))
  continues (perform n op rest) c i loop h e = continues rest c h.1 loop h.4 e
  continues (choose n op x y rest) c i loop h e = continues rest c h.3 loop h.8 e
  continues (while t b s rest) c i loop h e = continues rest c h.2.behind loop h.9 e
  continues (until b t rest) c i loop h e = continues rest c h.2.behind loop h.8 e
  continues (turn t b s rest) c i loop h e = steps t b s rest c h.0 loop (begun t b s rest c i h) e
  continues (again t b s rest) c i loop h e = steps t b s rest c i loop h e
  continues (quit n op rest) c i loop h e = continues rest c h.1 loop h.6 e
  continues (break rest) c i loop h e = continues rest c h.0 loop h.4 e
  continues (continue rest) c i loop h e = continues rest c h.0 loop h.4 e
  continues (call n op f opening rest) c i loop h e = continues rest c h.3 loop h.7 e
  continues (ends n op rest) c i loop h e = continues rest c h.1 loop h.3 e

  -- a turn that is at its end is ready
  turn_ready : (t b s rest : Code ℕ) (c : Around) (i : ℕ) → Runs (turn t b s rest) c i → Ready (append s (again t b s rest)) i
  turn_ready t b s rest c i h =
      ready_led (append s (again t b s rest)) i h.2.onward h.3 (steps t b s rest c h.0 h.2 (begun t b s rest c i h) h.9)

  -- code before a turn that is at its end
  opens : (code t b s rest : Code ℕ) (c : Around) (i k : ℕ) → CodeAt core entry code c i k → Runs (turn t b s rest) c k → Ready (opened code (turn t b s rest)) i
  opens done t b s rest c i k h m = turn_ready t b s rest c i (led (turn t b s rest) c i k h m)
  opens (perform n op more) t b s rest c i k h m = record { is_ready = refl; around = c; runs = joined (perform n op more) (turn t b s rest) c i k h m }
  opens (choose n op x y more) t b s rest c i k h m = record { is_ready = refl; around = c; runs = joined (choose n op x y more) (turn t b s rest) c i k h m }
  opens (while t' b' s' more) t b s rest c i k h m =
      let r = opens more t b s rest c h.2.behind k h.9 m in
      record { is_ready = refl; around = Some h.2; runs = (h.0, h.1, h.2, h.3, h.4, h.5, h.6, h.7, h.8, refl, r.is_ready, r.around, r.runs) }
  opens (until b' t' more) t b s rest c i k h m =
      let r = opens more t b s rest c h.2.behind k h.8 m in
      let after = opened more (turn t b s rest) in
      let here : Runs (turn t' b' done after) (Some h.2) h.2.onward = (h.0, h.1, h.2, Stay, h.4, refl, h.5, h.6, h.7, refl, r.is_ready, r.around, r.runs) in
      ready_led (opened b' (turn t' b' done after)) i h.1 h.3 (opens b' t' b' done after (Some h.2) h.1 h.2.onward h.6 here)
  opens (turn t' b' s' more) t b s rest c i k h m = absurd h
  opens (again t' b' s' more) t b s rest c i k h m = absurd h
  opens (quit n op more) t b s rest c i k h m = record { is_ready = refl; around = c; runs = joined (quit n op more) (turn t b s rest) c i k h m }
  opens (break more) t b s rest c i k h m =
      let code = append more (turn t b s rest) in
      ready_led (broken code) i h.1.behind h.3 (breaks code c h.0 h.1 (joined more (turn t b s rest) c h.0 k h.4 m) h.2)
  opens (continue more) t b s rest c i k h m =
      let code = append more (turn t b s rest) in
      ready_led (continued code) i h.1.onward h.3 (continues code c h.0 h.1 (joined more (turn t b s rest) c h.0 k h.4 m) h.2)
  opens (call n op f opening more) t b s rest c i k h m = record { is_ready = refl; around = c; runs = joined (call n op f opening more) (turn t b s rest) c i k h m }
  opens (ends n op more) t b s rest c i k h m = record { is_ready = refl; around = c; runs = joined (ends n op more) (turn t b s rest) c i k h m }

  -- what stands is ready once it is settled
  settles : (code : Code ℕ) (c : Around) (i : ℕ) → Runs code c i → Ready (settled code) i
  settles done c i h = record { is_ready = refl; around = c; runs = h }
  settles (perform n op rest) c i h = record { is_ready = refl; around = c; runs = h }
  settles (choose n op x y rest) c i h = record { is_ready = refl; around = c; runs = h }
  settles (while t b s rest) c i h =
      let r = settles rest c h.2.behind h.9 in
      record { is_ready = refl; around = Some h.2; runs = (h.0, h.1, h.2, h.3, h.4, h.5, h.6, h.7, h.8, refl, r.is_ready, r.around, r.runs) }
  settles (until b t rest) c i h =
      let r = settles rest c h.2.behind h.8 in
      let here : Runs (turn t b done (settled rest)) (Some h.2) h.2.onward = (h.0, h.1, h.2, Stay, h.4, refl, h.5, h.6, h.7, refl, r.is_ready, r.around, r.runs) in
      ready_led (opened b (turn t b done (settled rest))) i h.1 h.3 (opens b t b done (settled rest) (Some h.2) h.1 h.2.onward h.6 here)
  settles (turn t b s rest) c i h = turn_ready t b s rest c i h
  settles (again t b s rest) c i h = record { is_ready = refl; around = c; runs = h }
  settles (quit n op rest) c i h = record { is_ready = refl; around = c; runs = h }
  settles (break rest) c i h = ready_led (broken rest) i h.1.behind h.3 (breaks rest c h.0 h.1 h.4 h.2)
  settles (continue rest) c i h = ready_led (continued rest) i h.1.onward h.3 (continues rest c h.0 h.1 h.4 h.2)
  settles (call n op f opening rest) c i h = record { is_ready = refl; around = c; runs = h }
  settles (ends n op rest) c i h = record { is_ready = refl; around = c; runs = h }

  -- what waits for a call stands at the index to return to
  abbrev Waiting : List (Code ℕ) → List ℕ → Type 0
  Waiting [] [] = Unit {0}
  Waiting (code ∷ codes) (i ∷ is) = ((c : Around) × Runs code c i) × Waiting codes is
  Waiting codes is = ⊥

  -- a list whose indices lead on, with the bodies of functions in it
  module _ (leads_on : LeadsOn core) (bodies : ℕ → Code ℕ) (bodies_at : (f : ℕ) → CodeAt core entry (bodies f) None (entry f) (length core)) where
    -- what is left of a run, and a position in the list
    pub record IsAt (w : Work) (at : Position) : Type 0 where
      ready : Ready w.left at.at
      callers : Waiting w.callers at.callers

    goes : (code : Code ℕ) (c : Around) (i : ℕ) (codes : List (Code ℕ)) (is : List ℕ) → Runs code c i → Waiting codes is → IsAt (going code codes) (position i is)
    goes code c i codes is h a = record { ready = settles code c i h; callers = a }

    returns : (codes : List (Code ℕ)) (is : List ℕ) → Waiting codes is → IsAt (source.returned codes) (returned core is)
    returns [] [] a = record { ready = record { is_ready = refl; around = None; runs = (refl, Stay) }; callers = a }
    returns (code ∷ codes) (i ∷ is) a = goes code a.0.0 i codes is a.0.1 a.1
    returns [] (i ∷ is) a = absurd a
    returns (code ∷ codes) [] a = absurd a

    -- the same operation, and what is left after it stands where the list goes on
    does_same : (n : ℕ) (op : Operation) (rest : Bool → Work) (i : ℕ) (is : List ℕ) → (o : OpFrom core entry i n op)
        → ((onward : Bool) → IsAt (rest onward) (follows core op o.at o.op.target is onward))
        → Same IsAt (Some (record { operation = op; site = n; rest = rest })) (next core (position i is))
    does_same n op rest i is o h =
        subst (Same IsAt (Some (record { operation = op; site = n; rest = rest }))) (sym (next_at core entry leads_on i n op is o)) (refl, refl, h)

    by_ways : (rest : Bool → Work) (to : Bool → Position) → IsAt (rest true) (to true) → IsAt (rest false) (to false) → (onward : Bool) → IsAt (rest onward) (to onward)
    by_ways rest to a b true = a
    by_ways rest to a b false = b

    first_same : (code : Code ℕ) (c : Around) (i : ℕ) (codes : List (Code ℕ)) (is : List ℕ) → is_first code ≡ true → Runs code c i → Waiting codes is
        → Same IsAt (source.step bodies code codes) (next core (position i is))
    first_same done c i codes is e h a = absurd (cc)
    first_same (perform n op rest) c i codes is e h a =
        let w = going rest codes in
        does_same n op (λ onward. w) i is h.0
        (by_ways (λ onward. w) (follows core op h.0.at h.0.op.target is)
        (subst (IsAt w) (sym (h.2 is)) (goes rest c h.1 codes is h.4 a))
        (subst (IsAt w) (sym (h.3 is)) (goes rest c h.1 codes is h.4 a)))
    first_same (choose n op x y rest) c i codes is e h a =
        let w : Bool → Work = λ onward. going (append (if onward then x else y) rest) codes in
        does_same n op w i is h.0
        (by_ways w (follows core op h.0.at h.0.op.target is)
        (subst (IsAt (going (append x rest) codes)) (sym (h.4 is)) (goes (append x rest) c h.1 codes is (joined x rest c h.1 h.3 h.6 h.8) a))
        (subst (IsAt (going (append y rest) codes)) (sym (h.5 is)) (goes (append y rest) c h.2 codes is (joined y rest c h.2 h.3 h.7 h.8) a)))
    first_same (while t b s rest) c i codes is e h a = absurd (cc)
    first_same (until b t rest) c i codes is e h a = absurd (cc)
    first_same (turn t b s rest) c i codes is e h a = absurd (cc)
    first_same (again t b s rest) c i codes is e h a = absurd (cc)
    first_same (quit n op rest) c i codes is e h a =
        let w : Bool → Work = λ onward. going (if onward then rest else broken rest) codes in
        let r = breaks rest c h.1 h.2 h.6 h.3 in
        does_same n op w i is h.0
        (by_ways w (follows core op h.0.at h.0.op.target is)
        (subst (IsAt (going rest codes)) (sym (h.4 is)) (goes rest c h.1 codes is h.6 a))
        (subst (IsAt (going (broken rest) codes)) (sym (h.5 is)) (goes (broken rest) r.around h.2.behind codes is r.runs a)))
    first_same (break rest) c i codes is e h a = absurd (cc)
    first_same (continue rest) c i codes is e h a = absurd (cc)
    first_same (call n op f opening rest) c i codes is e h a =
        let body = led (bodies f) None h.2 (entry f) h.6 (whole (bodies f) (entry f) (bodies_at f)) in
        let w = going (append opening (bodies f)) (rest ∷ codes) in
        does_same n op (λ onward. w) i is h.0
        (λ onward. subst (IsAt w) (sym (h.4 is onward))
        (goes (append opening (bodies f)) None h.1 (rest ∷ codes) (h.3 ∷ is) (joined opening (bodies f) None h.1 h.2 h.5 body) ((c, h.7), a)))
    first_same (ends n op rest) c i codes is e h a =
        does_same n op (λ onward. source.returned codes) i is h.0
        (λ onward. subst (IsAt (source.returned codes)) (sym (h.2 is onward)) (returns codes is a))

    step_same : (code : Code ℕ) (codes : List (Code ℕ)) (i : ℕ) (is : List ℕ) → Ready code i → Waiting codes is → Same IsAt (source.step_of bodies code codes) (next core (position i is))
    step_same done codes i is r a =
        subst (Same IsAt None) (sym (none_at core entry leads_on i (length core) is r.runs.1 (no_more core))) tt
    step_same (perform n op rest) codes i is r a = first_same (perform n op rest) r.around i codes is refl r.runs a
    step_same (choose n op x y rest) codes i is r a = first_same (choose n op x y rest) r.around i codes is refl r.runs a
    step_same (while t b s rest) codes i is r a = let e = r.is_ready in absurd (cc)
    step_same (until b t rest) codes i is r a = let e = r.is_ready in absurd (cc)
    step_same (turn t b s rest) codes i is r a = let e = r.is_ready in absurd (cc)
    step_same (again t b s rest) codes i is r a =
        let h = r.runs in
        let c : Around = Some h.2 in
        let loop : Runs (turn t b s rest) c h.2.onward = (h.0, h.1, h.2, Stay, h.4, h.5, h.6, h.7, h.8, refl, h.10, h.11, h.12) in
        let code = append b (turn t b s rest) in
        let all = joined t code c h.0 h.1 h.6 (joined b (turn t b s rest) c h.1 h.2.onward h.7 loop) in
        first_same (append t code) c i codes is (first_before t code h.4) (led (append t code) c i h.0 h.3 all) a
    step_same (quit n op rest) codes i is r a = first_same (quit n op rest) r.around i codes is refl r.runs a
    step_same (break rest) codes i is r a = let e = r.is_ready in absurd (cc)
    step_same (continue rest) codes i is r a = let e = r.is_ready in absurd (cc)
    step_same (call n op f opening rest) codes i is r a = first_same (call n op f opening rest) r.around i codes is refl r.runs a
    step_same (ends n op rest) codes i is r a = first_same (ends n op rest) r.around i codes is refl r.runs a

    pub same_next : (w : Work) (at : Position) → IsAt w at → Same IsAt (source.next bodies w) (next core at)
    same_next w at h = step_same w.left w.callers at.at at.callers h.ready h.callers

    -- as many calls are under way
    pub as_many_callers : (w : Work) (at : Position) → IsAt w at → length at.callers ≡ length w.callers
    as_many_callers w at h = by w.callers at.callers h.callers
      where
        by : (codes : List (Code ℕ)) (is : List ℕ) → Waiting codes is → length is ≡ length codes
        by [] [] a = refl
        by (code ∷ codes) (i ∷ is) a = ap suc (by codes is a.1)
        by [] (i ∷ is) a = absurd a
        by (code ∷ codes) [] a = absurd a

    pub body_at : (f : ℕ) → IsAt (going (bodies f) []) (position (entry f) [])
    body_at f = goes (bodies f) None (entry f) [] [] (whole (bodies f) (entry f) (bodies_at f)) tt

    -- ---- where others are met

    -- work stands in the list, with the last of these calls under way
    pub record StandsBelow (is : List ℕ) (w : Work) : Type 0 where
      pub index : ℕ
      pub calls : List ℕ
      pub ends : IsEndOf calls is
      pub stands : IsAt w (position index calls)

    abbrev pub AllStand : (is : List ℕ) → List Work → Type 0
    AllStand is [] = Unit {0}
    AllStand is (w ∷ ws) = StandsBelow is w × AllStand is ws

    ready_stands : (code : Code ℕ) (i : ℕ) (callers : List (Code ℕ)) (is : List ℕ) → Ready code i → Waiting callers is → StandsBelow is (record { left = code; callers = callers })
    ready_stands code i callers is r a = record { index = i; calls = is; ends = all_calls is; stands = record { ready = r; callers = a } }

    tail_stands : (callers codes : List (Code ℕ)) (is : List ℕ) → AllStand is (works callers codes) → AllStand is (works callers (tail codes))
    tail_stands callers [] is all = tt
    tail_stands callers (code ∷ codes) is all = all.1

    grown_stands : (b : Bool) (code : Code ℕ) (callers codes : List (Code ℕ)) (is : List ℕ) → StandsBelow is (record { left = code; callers = callers }) → AllStand is (works callers codes)
        → AllStand is (works callers (grown b code codes))
    grown_stands true code callers codes is first all = (first, all)
    grown_stands false code callers codes is first all = all

    -- after each part and at the end of each body that is under way in some code
    past_stands : (code : Code ℕ) (c : Around) (i : ℕ) (callers : List (Code ℕ)) (is : List ℕ) → Runs code c i → Waiting callers is → AllStand is (works callers (past code))
    past_stands done c i callers is h a = tt
    past_stands (perform n ops.End rest) c i callers is h a =
        (ready_stands (settled rest) h.1 callers is (settles rest c h.1 h.4) a, past_stands rest c h.1 callers is h.4 a)
    past_stands (perform n (ops.Meet true) rest) c i callers is h a =
        (ready_stands (perform n (ops.Meet true) rest) i callers is (record { is_ready = refl; around = c; runs = h }) a, past_stands rest c h.1 callers is h.4 a)
    past_stands (perform n (ops.Meet false) rest) c i callers is h a = past_stands rest c h.1 callers is h.4 a
    past_stands (perform n op rest) c i callers is h a = past_stands rest c h.1 callers is h.4 a
    past_stands (choose n ops.Farm x y rest) c i callers is h a = tail_stands callers (past rest) is (past_stands rest c h.3 callers is h.8 a)
    past_stands (choose n ops.Seq x y rest) c i callers is h a = tail_stands callers (past rest) is (past_stands rest c h.3 callers is h.8 a)
    past_stands (choose n op x y rest) c i callers is h a = past_stands rest c h.3 callers is h.8 a
    past_stands (while t b s rest) c i callers is h a =
        grown_stands (shrinks t) (settled rest) callers (past rest) is (ready_stands (settled rest) h.2.behind callers is (settles rest c h.2.behind h.9) a) (past_stands rest c h.2.behind callers is h.9 a)
    past_stands (until b t rest) c i callers is h a =
        grown_stands (shrinks t) (settled rest) callers (past rest) is (ready_stands (settled rest) h.2.behind callers is (settles rest c h.2.behind h.8) a) (past_stands rest c h.2.behind callers is h.8 a)
    past_stands (turn t b s rest) c i callers is h a =
        grown_stands (shrinks t) (settled rest) callers (past rest) is (ready_stands (settled rest) h.2.behind callers is (settles rest h.11 h.2.behind h.12) a)
        (past_stands rest h.11 h.2.behind callers is h.12 a)
    past_stands (again t b s rest) c i callers is h a =
        grown_stands (shrinks t) (settled rest) callers (past rest) is (ready_stands (settled rest) h.2.behind callers is (settles rest h.11 h.2.behind h.12) a)
        (past_stands rest h.11 h.2.behind callers is h.12 a)
    past_stands (quit n op rest) c i callers is h a = past_stands rest c h.1 callers is h.6 a
    past_stands (break rest) c i callers is h a = past_stands rest c h.0 callers is h.4 a
    past_stands (continue rest) c i callers is h a = past_stands rest c h.0 callers is h.4 a
    past_stands (call n op f opening rest) c i callers is h a = past_stands rest c h.3 callers is h.7 a
    past_stands (ends n op rest) c i callers is h a = past_stands rest c h.1 callers is h.3 a

    more_calls : (i : ℕ) (is : List ℕ) (ws : List Work) → AllStand is ws → AllStand (i ∷ is) ws
    more_calls i is [] all = tt
    more_calls i is (w ∷ ws) all =
        let first = all.0 in
        (record { index = first.index; calls = first.calls; ends = inr first.ends; stands = first.stands }, more_calls i is ws all.1)

    both_stand : (is : List ℕ) (ws us : List Work) → AllStand is ws → AllStand is us → AllStand is (ws ++ us)
    both_stand is [] us a b = b
    both_stand is (w ∷ ws) us a b = (a.0, both_stand is ws us a.1 b)

    waiting_stand : (callers : List (Code ℕ)) (is : List ℕ) → Waiting callers is → AllStand is (waiting callers)
    waiting_stand [] [] a = tt
    waiting_stand (code ∷ callers) (i ∷ is) a =
        more_calls i is (works callers (past code) ++ waiting callers)
        (both_stand is (works callers (past code)) (waiting callers) (past_stands code a.0.0 i callers is a.0.1 a.1) (waiting_stand callers is a.1))
    waiting_stand [] (i ∷ is) a = absurd a
    waiting_stand (code ∷ callers) [] a = absurd a

    pub outs_stand : (w : Work) (at : Position) → IsAt w at → AllStand at.callers (outs w)
    outs_stand w at h =
        both_stand at.callers (works w.callers (past w.left)) (waiting w.callers) (past_stands w.left h.ready.around at.at w.callers at.callers h.ready.runs h.callers)
        (waiting_stand w.callers at.callers h.callers)
