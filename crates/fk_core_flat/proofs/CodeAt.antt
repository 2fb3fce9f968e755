-- The code stands in its list.
use Rattle.std.proofs.Common.{◌≡◌, ℕ, zero, suc, ◌+◌, Bool, true, false, true≢false, List, [], ◌∷◌, ◌++◌, slice_get, Some, None, inl, inr, ap, ◌∙◌, sym, refl, subst, arith}
use Rattle.std.proofs.Math.Dec.{eqb-suc-zero}
use Rattle.std.specs.Prelude.{◌==◌, ◌&&◌, ◌||◌, ◌⊎◌, is_some, if◌then◌else◌}
use Rattle.fk_meaning_operation.specs.declared.operation.Operation.{Operation}
use Rattle.fk_meaning_forms.specs.Code.{Code, done, perform, choose, while, until, turn, again, quit, break, continue, call, ends}
use Rattle.fk_core.specs.declared.op.CoreOp.{CoreOp}
use Rattle.fk_core.specs.Next.{position, is_jump, past_jump, behind_jump}
use Rattle.fk_core.specs.CodeAt.{Loop, Around, is_first, is_start, Leads, Stay, Go, OpFrom, GoesOn, Enters, CodeAt}
use Rattle.fk_core.proofs.Leading.{onto, op_stops}
use Rattle.fk_core_flat.specs.Items as w
use Rattle.fk_core_flat.specs.Items.{Item, act, IsItem, Has, way_of, goes_away, aim}
use Rattle.fk_core_flat.specs.Flat.{begins_here, skip, gap, extent, onward, label, flat}
use Rattle.fk_core_flat.specs.Shape.{is_done, IsOpening, IsShaped}
use Rattle.fk_core_flat.proofs.Ways.{goes_by}
use Rattle.fk_core_flat.proofs.Having.{has_back, skipped}
use Rattle.fk_core_flat.proofs.Lengths.{skips, begins_at, first_at, start_at}
use Rattle.fk_core_flat.proofs.Parts.{choice_at, turns_at, rounds_at, entering_at, has_choice, has_turns, has_rounds, has_entering}

pub no_extent : (n : ℕ) → (n == 0) ≡ true → n ≡ 0
no_extent zero e = refl
no_extent (suc n) e = absurd (true≢false (sym e ∙ eqb-suc-zero n))

pub both_true : (a b : Bool) → (a && b) ≡ true → (a ≡ true) × (b ≡ true)
both_true true true e = (refl, refl)
both_true true false e = absurd (cc)
both_true false b e = absurd (cc)

module _ (has_body : ℕ → Bool) where
  pub opening_is_shaped : (code : Code ℕ) → IsOpening code → IsShaped has_body false code
  opening_is_shaped done h = tt
  opening_is_shaped (perform n op rest) h = (inl h.0, opening_is_shaped rest h.1)
  opening_is_shaped (choose n op x y rest) h = absurd h
  opening_is_shaped (while t b s rest) h = absurd h
  opening_is_shaped (until b t rest) h = absurd h
  opening_is_shaped (turn t b s rest) h = absurd h
  opening_is_shaped (again t b s rest) h = absurd h
  opening_is_shaped (quit n op rest) h = absurd h
  opening_is_shaped (break rest) h = absurd h
  opening_is_shaped (continue rest) h = absurd h
  opening_is_shaped (call n op f opening rest) h = absurd h
  opening_is_shaped (ends n op rest) h = absurd h

module _ (core : List CoreOp) (entry : ℕ → ℕ) where
  abbrev earlier : {i j site : ℕ} {op : Operation} → Leads core entry i j → OpFrom core entry j site op → OpFrom core entry i site op
  earlier l o = record { at = o.at; op = o.op; leads = onto core entry l o.leads; stands = o.stands; is_read = o.is_read; has_site = o.has_site }

  -- code stands where jumps lead to it
  led : (code : Code ℕ) (c : Around) (i j k : ℕ) → Leads core entry i j → CodeAt core entry code c j k → CodeAt core entry code c i k
  led done c i j k l h = onto core entry l h
  led (perform n op rest) c i j k l h = (earlier l h.0, h.1, h.2, h.3, h.4)
  led (choose n op x y rest) c i j k l h = (earlier l h.0, h.1, h.2, h.3, h.4, h.5, h.6, h.7, h.8)
  led (while t b s rest) c i j k l h = (h.0, h.1, h.2, onto core entry l h.3, h.4, h.5, h.6, h.7, h.8, h.9)
  led (until b t rest) c i j k l h = (h.0, h.1, h.2, onto core entry l h.3, h.4, h.5, h.6, h.7, h.8)
  led (turn t b s rest) c i j k l h = absurd h
  led (again t b s rest) c i j k l h = absurd h
  led (quit n op rest) c i j k l h = (earlier l h.0, h.1, h.2, h.3, h.4, h.5, h.6)
  led (break rest) c i j k l h = (h.0, h.1, h.2, onto core entry l h.3, h.4)
  led (continue rest) c i j k l h = (h.0, h.1, h.2, onto core entry l h.3, h.4)
  led (call n op f opening rest) c i j k l h = (earlier l h.0, h.1, h.2, h.3, h.4, h.5, h.6, h.7)
  led (ends n op rest) c i j k l h = (earlier l h.0, h.1, h.2, h.3)

  -- what is written behind an operation
  abbrev Followed : (here near : Bool) → Around → (j k : ℕ) → Code ℕ → Type 0
  Followed here near c j k rest = Has core j (skip here (label c (j + gap here) k rest) ++ flat entry near c (j + gap here) k rest)

  pub at_gap : (here : Bool) (j : ℕ) → here ≡ true → j + gap here ≡ j
  at_gap here j e = let f = ap gap e in omega arith

  falls : (rest : Code ℕ) (near : Bool) (c : Around) (j k : ℕ) (more : List Item) → let here = begins_here near rest in
      Has core j (skip here (label c (j + gap here) k rest) ++ more)
      → (near ≡ true → k ≡ j + gap here + extent near rest)
      → Leads core entry j (label c (j + gap here) k rest)
  falls rest near c j k more h is =
      let here = begins_here near rest in
      skipped core entry here j (label c (j + gap here) k rest) more h
      (λ e. begins_at rest near c (j + gap here) k e is ∙ at_gap here j e)

  pub past : (here : Bool) (j target : ℕ) (more : List Item) → Has core j (skip here target ++ more) → Has core (j + gap here) more
  past here j target more h = has_back core j (j + gap here) (skip here target) more (ap (λ n. j + n) (sym (skips here target))) h

  alone : (here : Bool) (j target : ℕ) → Has core j (skip here target) → Has core j (skip here target ++ [])
  alone true j target h = h
  alone false j target h = h

  -- an operation of the list
  abbrev pub Stood : (i : ℕ) → Item → Type 0
  Stood i item = (op : CoreOp) × (slice_get core i ≡ Some op) × IsItem item op

  abbrev op_at : (i n : ℕ) (op : Operation) (t : ℕ) → Stood i (act n op t) → OpFrom core entry i n op
  op_at i n op t h = record { at = i; op = h.0; leads = Stay; stands = h.1; is_read = h.2.0; has_site = h.2.1 }

  straight_on : (i n : ℕ) (op : Operation) (t : ℕ) (h : Stood i (act n op t)) (onward : Bool) → way_of op ≡ w.straight → GoesOn core entry (op_at i n op t h) onward (suc i)
  straight_on i n op t h onward e callers = goes_by core op w.straight e i h.0.target callers onward

  first_way : (i n : ℕ) (op : Operation) (t : ℕ) (h : Stood i (act n op t)) → way_of op ≡ w.either → GoesOn core entry (op_at i n op t h) true (suc i)
  first_way i n op t h e callers = goes_by core op w.either e i h.0.target callers true

  second_way : (i n : ℕ) (op : Operation) (t : ℕ) (h : Stood i (act n op t)) → way_of op ≡ w.either → GoesOn core entry (op_at i n op t h) false t
  second_way i n op t h e callers = goes_by core op w.either e i h.0.target callers false ∙ ap (λ t. position t callers) h.2.2

  to_target : (i n : ℕ) (op : Operation) (t : ℕ) (h : Stood i (act n op t)) (onward : Bool) → way_of op ≡ w.onto → GoesOn core entry (op_at i n op t h) onward t
  to_target i n op t h onward e callers = goes_by core op w.onto e i h.0.target callers onward ∙ ap (λ t. position t callers) h.2.2

  -- the index behind the first jump
  pub behind_jump_at : (ops : List CoreOp) (i : ℕ) (op : CoreOp) → slice_get ops i ≡ Some op → is_jump op ≡ true → behind_jump ops i ≡ suc i
  behind_jump_at [] i op e z = absurd (cc)
  behind_jump_at (x ∷ xs) zero op e z = let f : x ≡ op = cc in ap (λ b. if b then 1 else suc (past_jump xs)) (ap is_jump f ∙ z)
  behind_jump_at (x ∷ xs) (suc i) op e z = ap (λ n. suc n) (behind_jump_at xs i op e z)

  behind_jump_on : (ops : List CoreOp) (i : ℕ) (op : CoreOp) → slice_get ops i ≡ Some op → is_jump op ≡ false → behind_jump ops i ≡ behind_jump ops (suc i)
  behind_jump_on [] i op e z = absurd (cc)
  behind_jump_on (x ∷ xs) zero op e z = let f : x ≡ op = cc in ap (λ b. if b then 1 else suc (past_jump xs)) (ap is_jump f ∙ z) ∙ at_beginning xs
    where
      at_beginning : (xs : List CoreOp) → suc (past_jump xs) ≡ suc (behind_jump xs zero)
      at_beginning xs = refl
  behind_jump_on (x ∷ xs) (suc i) op e z = ap (λ n. suc n) (behind_jump_on xs i op e z)

  pub opening_begins : (code : Code ℕ) → IsOpening code → begins_here true code ≡ true
  opening_begins done h = refl
  opening_begins (perform n op rest) h = refl
  opening_begins (choose n op x y rest) h = absurd h
  opening_begins (while t b s rest) h = absurd h
  opening_begins (until b t rest) h = absurd h
  opening_begins (turn t b s rest) h = absurd h
  opening_begins (again t b s rest) h = absurd h
  opening_begins (quit n op rest) h = absurd h
  opening_begins (break rest) h = absurd h
  opening_begins (continue rest) h = absurd h
  opening_begins (call n op f opening rest) h = absurd h
  opening_begins (ends n op rest) h = absurd h

  op_is_no_jump : (i n : ℕ) (op : Operation) (t : ℕ) (h : Stood i (act n op t)) → is_jump h.0 ≡ false
  op_is_no_jump i n op t h = op_stops core entry i h.0 op h.1 h.2.0 h.0 h.1

  -- the first jump from the beginning of a call on is that to the function
  pub behind_opening : (code : Code ℕ) (i k : ℕ) → IsOpening code → Has core i (flat entry true None i k code) → behind_jump core i ≡ behind_jump core (i + extent true code)
  behind_opening done i k o h = ap (behind_jump core) (let e : i ≡ i + 0 = omega arith in e)
  behind_opening (perform n op rest) i k o h =
      let here = goes_away (way_of op) || begins_here true rest in
      let g : here ≡ true = ap (λ w. goes_away w || begins_here true rest) o.0 ∙ opening_begins rest o.1 in
      let more : Followed true true None (suc i) k rest = subst (λ (here : Bool). Followed here true None (suc i) k rest) g h.1 in
      let s : suc i + 0 ≡ suc i = omega arith in
      let more' : Has core (suc i) (flat entry true None (suc i) k rest) = subst (λ j. Has core (suc i) (flat entry true None j k rest)) s more in
      behind_jump_on core i h.0.0 h.0.1 (op_is_no_jump i n op (aim (way_of op) k) h.0)
      ∙ behind_opening rest (suc i) k o.1 more'
      ∙ ap (behind_jump core) (let e = ap gap g in let f : suc i + extent true rest ≡ i + suc (gap here + extent true rest) = omega arith in f)
  behind_opening (choose n op x y rest) i k o h = absurd o
  behind_opening (while t b s rest) i k o h = absurd o
  behind_opening (until b t rest) i k o h = absurd o
  behind_opening (turn t b s rest) i k o h = absurd o
  behind_opening (again t b s rest) i k o h = absurd o
  behind_opening (quit n op rest) i k o h = absurd o
  behind_opening (break rest) i k o h = absurd o
  behind_opening (continue rest) i k o h = absurd o
  behind_opening (call n op f opening rest) i k o h = absurd o
  behind_opening (ends n op rest) i k o h = absurd o

  -- the code stands wherever its list is written
  abbrev Written : Code ℕ → (near : Bool) → Around → (k : ℕ) → Type 0
  Written code near c k =
      (i : ℕ) → Has core i (flat entry near c i k code) → (near ≡ true → k ≡ i + extent near code) → CodeAt core entry code c (label c i k code) k

  done_stands : (rest : Code ℕ) (c : Around) (k : ℕ) → is_done rest ≡ true → CodeAt core entry rest c k k
  done_stands done c k e = Stay
  done_stands (perform n op rest) c k e = absurd (cc)
  done_stands (choose n op x y rest) c k e = absurd (cc)
  done_stands (while t b s rest) c k e = absurd (cc)
  done_stands (until b t rest) c k e = absurd (cc)
  done_stands (turn t b s rest) c k e = absurd (cc)
  done_stands (again t b s rest) c k e = absurd (cc)
  done_stands (quit n op rest) c k e = absurd (cc)
  done_stands (break rest) c k e = absurd (cc)
  done_stands (continue rest) c k e = absurd (cc)
  done_stands (call n op f opening rest) c k e = absurd (cc)
  done_stands (ends n op rest) c k e = absurd (cc)

  -- what follows an operation that falls into it
  followed : (rest : Code ℕ) (near : Bool) (c : Around) (j k : ℕ) → Followed (begins_here near rest) near c j k rest
      → (near ≡ true → k ≡ j + gap (begins_here near rest) + extent near rest) → Written rest near c k → CodeAt core entry rest c j k
  followed rest near c j k h end written =
      let here = begins_here near rest in
      let r = j + gap here in
      led rest c j (label c r k rest) k (falls rest near c j k (flat entry near c r k rest) h end)
      (written r (past here j (label c r k rest) (flat entry near c r k rest) h) end)

  performed : (n : ℕ) (op : Operation) (rest : Code ℕ) (near : Bool) (c : Around) (i k : ℕ)
      → (way_of op ≡ w.straight) ⊎ ((way_of op ≡ w.onto) × (is_done rest ≡ true))
      → Has core i (flat entry near c i k (perform n op rest)) → (near ≡ true → k ≡ i + extent near (perform n op rest))
      → Written rest near c k → CodeAt core entry (perform n op rest) c i k
  performed n op rest near c i k (inr e) h is written =
      let t = aim (way_of op) k in
      let a : t ≡ k = ap (λ w. aim w k) e.0 in (
        op_at i n op t h.0,
        k,
        subst (GoesOn core entry (op_at i n op t h.0) true) a (to_target i n op t h.0 true e.0),
        subst (GoesOn core entry (op_at i n op t h.0) false) a (to_target i n op t h.0 false e.0),
        done_stands rest c k e.1,
      )
  performed n op rest near c i k (inl e) h is written =
      let here = goes_away (way_of op) || begins_here near rest in
      let g : here ≡ begins_here near rest = ap (λ w. goes_away w || begins_here near rest) e in
      let more : Followed (begins_here near rest) near c (suc i) k rest = subst (λ (here : Bool). Followed here near c (suc i) k rest) g h.1 in
      let end : near ≡ true → k ≡ suc i + gap (begins_here near rest) + extent near rest = λ t. (let a = is t in let b = ap gap g in omega arith) in
      let t = aim (way_of op) k in
      (op_at i n op t h.0, suc i, straight_on i n op t h.0 true e, straight_on i n op t h.0 false e, followed rest near c (suc i) k more end written)

  chosen : (n : ℕ) (op : Operation) (x y rest : Code ℕ) (near : Bool) (c : Around) (i k : ℕ)
      → way_of op ≡ w.either
      → Has core i (flat entry near c i k (choose n op x y rest)) → (near ≡ true → k ≡ i + extent near (choose n op x y rest))
      → ((near : Bool) (k : ℕ) → Written x near c k) → ((near : Bool) (k : ℕ) → Written y near c k) → Written rest near c k
      → CodeAt core entry (choose n op x y rest) c i k
  chosen n op x y rest near c i k e h is wx wy written =
      let q = choice_at entry x y rest near c i k in
      let has = has_choice entry core x y rest near c i k h.1 in
      let end : near ≡ true → k ≡ q.behind + extent near rest = λ t. (let f = is t in omega arith) in
      let end_y : q.after ≡ true → q.next ≡ q.second + extent q.after y = λ t. begins_at rest near c q.behind k t end in
      let end_x : q.beside ≡ true → q.next ≡ q.first + extent q.beside x = λ t. (let both = both_true q.after (extent q.after y == 0) t in let f = end_y both.0 in let g = no_extent (extent q.after y) both.1 in omega arith) in
      let t = label c q.second q.next y in (
        op_at i n op t h.0,
        suc i,
        t,
        q.next,
        first_way i n op t h.0 e,
        second_way i n op t h.0 e,
        followed x q.beside c (suc i) q.next has.begins end_x (wx q.beside q.next),
        wy q.after q.next q.second has.second end_y,
        written q.behind has.others end,
      )

  whiled : (test body step rest : Code ℕ) (near : Bool) (c : Around) (i k : ℕ)
      → is_first test ≡ true → is_start step ≡ true
      → Has core i (flat entry near c i k (while test body step rest)) → (near ≡ true → k ≡ i + extent near (while test body step rest))
      → ((near : Bool) (loop : Loop) (k : ℕ) → Written test near (Some loop) k) → ((near : Bool) (loop : Loop) (k : ℕ) → Written body near (Some loop) k)
      → ((near : Bool) (loop : Loop) (k : ℕ) → Written step near (Some loop) k) → Written rest near c k
      → CodeAt core entry (while test body step rest) c i k
  whiled test body step rest near c i k first start h is wt wb ws written =
      let q = turns_at entry test body step rest near c i k in
      let has = has_turns entry core test body step rest near c i k h in
      let o = q.loop.onward in
      let end : near ≡ true → k ≡ q.behind + extent near rest = λ t. (let f = is t in omega arith) in
      let end_b : q.steps ≡ true → o ≡ q.body + extent q.steps body = λ t'. ap (λ (s : Bool). if s then q.step else i) t' in
      let end_t : q.enters ≡ true → q.enter ≡ i + extent q.enters test = λ t'. begins_at body q.steps (Some q.loop) q.body o t' end_b in
      let end_s : false ≡ true → i ≡ q.step + extent false step = λ t'. absurd (true≢false (sym t')) in
      let st = subst (λ j. CodeAt core entry test (Some q.loop) j q.enter) (first_at test (Some q.loop) i q.enter first) (wt q.enters q.loop q.enter i has.test end_t) in
      let ss = subst (λ j. CodeAt core entry step (Some q.loop) j i) (start_at step (Some q.loop) q.step i start) (ws false q.loop i q.step has.step end_s) in
      (i, q.enter, q.loop, Stay, first, start, st, wb q.steps q.loop o q.body has.body end_b, ss, written q.behind has.others end)

  untiled : (body test rest : Code ℕ) (near : Bool) (c : Around) (i k : ℕ)
      → is_first test ≡ true
      → Has core i (flat entry near c i k (until body test rest)) → (near ≡ true → k ≡ i + extent near (until body test rest))
      → ((near : Bool) (loop : Loop) (k : ℕ) → Written body near (Some loop) k) → ((near : Bool) (loop : Loop) (k : ℕ) → Written test near (Some loop) k)
      → Written rest near c k
      → CodeAt core entry (until body test rest) c (label c i k (until body test rest)) k
  untiled body test rest near c i k first h is wb wt written =
      let q = rounds_at entry body test rest near c i k in
      let has = has_rounds entry core body test rest near c i k h in
      let end : near ≡ true → k ≡ q.behind + extent near rest = λ t. (let f = is t in omega arith) in
      let end_t : false ≡ true → q.enter ≡ q.test + extent false test = λ t'. absurd (true≢false (sym t')) in
      let st = subst (λ j. CodeAt core entry test (Some q.loop) j q.enter) (first_at test (Some q.loop) q.test q.enter first) (wt false q.loop q.enter q.test has.test end_t) in
      (q.test, q.enter, q.loop, Stay, first, st, wb true q.loop q.test i has.body (λ t'. refl), Stay, written q.behind has.others end)

  quits : (n : ℕ) (op : Operation) (rest : Code ℕ) (near : Bool) (loop : Loop) (i k : ℕ)
      → way_of op ≡ w.either → let c : Around = Some loop in
      Has core i (flat entry near c i k (quit n op rest)) → (near ≡ true → k ≡ i + extent near (quit n op rest))
      → Written rest near c k → CodeAt core entry (quit n op rest) c i k
  quits n op rest near loop i k e h is written =
      let c : Around = Some loop in
      let end : near ≡ true → k ≡ suc i + gap (begins_here near rest) + extent near rest = λ t. (let a = is t in omega arith) in (
        op_at i n op loop.behind h.0,
        suc i,
        loop,
        refl,
        first_way i n op loop.behind h.0 e,
        second_way i n op loop.behind h.0 e,
        followed rest near c (suc i) k h.1 end written,
      )

  calls : (n : ℕ) (op : Operation) (f : ℕ) (opening rest : Code ℕ) (near : Bool) (c : Around) (i k : ℕ)
      → way_of op ≡ w.into → IsOpening opening
      → Has core i (flat entry near c i k (call n op f opening rest)) → (near ≡ true → k ≡ i + extent near (call n op f opening rest))
      → ((k : ℕ) → Written opening true None k) → Written rest near c k → CodeAt core entry (call n op f opening rest) c i k
  calls n op f opening rest near c i k e o h is wo written =
      let q = entering_at entry f opening rest near c i k in
      let has = has_entering entry core f opening rest near c i k h.1 in
      let a = q.back in
      let j = has.jumps.0 in
      let end : near ≡ true → k ≡ suc a + gap q.here + extent near rest = λ t. (let f = is t in omega arith) in
      let back : behind_jump core (suc i) ≡ suc a = behind_opening opening (suc i) a o has.opening ∙ behind_jump_at core a j.0 j.1 j.2.0 in
      let enters : Enters core entry (op_at i n op (entry f) h.0) (suc i) (suc a) =
      λ callers onward. goes_by core op w.into e i h.0.0.target callers onward ∙ ap (λ b. position (suc i) (b ∷ callers)) back in
      let so = subst (λ j. CodeAt core entry opening None j a) (begins_at opening true None (suc i) a (opening_begins opening o) (λ t. refl)) (wo a (suc i) has.opening (λ t. refl)) in
      let leads : Leads core entry a (entry f) = Go j.0 j.1 j.2.0 (subst (λ j. Leads core entry j (entry f)) (sym j.2.1) Stay) in
      let comes : Leads core entry (suc a) q.next = skipped core entry q.here (suc a) q.next [] (alone q.here (suc a) q.next has.jumps.1) (λ t. begins_at rest near c q.behind k t end ∙ at_gap q.here (suc a) t) in
      (op_at i n op (entry f) h.0, suc i, a, suc a, enters, so, leads, led rest c (suc a) q.next k comes (written q.behind has.others end))

  module _ (has_body : ℕ → Bool) where
    pub code_at : (code : Code ℕ) (near : Bool) (c : Around) (i k : ℕ)
        → IsShaped has_body (is_some c) code
        → Has core i (flat entry near c i k code)
        → (near ≡ true → k ≡ i + extent near code)
        → CodeAt core entry code c (label c i k code) k
    code_at done near c i k p h is = Stay
    code_at (perform n op rest) near c i k p h is = performed n op rest near c i k p.0 h is (λ r. code_at rest near c r k p.1)
    code_at (choose n op x y rest) near c i k p h is =
        chosen n op x y rest near c i k p.0 h is (λ near k r. code_at x near c r k p.1) (λ near k r. code_at y near c r k p.2) (λ r. code_at rest near c r k p.3)
    code_at (while test body step rest) near c i k p h is =
        whiled test body step rest near c i k p.0 p.1 h is (λ near loop k r. code_at test near (Some loop) r k p.2) (λ near loop k r. code_at body near (Some loop) r k p.3)
        (λ near loop k r. code_at step near (Some loop) r k p.4) (λ r. code_at rest near c r k p.5)
    code_at (until body test rest) near c i k p h is =
        untiled body test rest near c i k p.0 h is (λ near loop k r. code_at body near (Some loop) r k p.1) (λ near loop k r. code_at test near (Some loop) r k p.2)
        (λ r. code_at rest near c r k p.3)
    code_at (turn test body step rest) near c i k p h is = absurd p
    code_at (again test body step rest) near c i k p h is = absurd p
    code_at (quit n op rest) near None i k p h is = absurd (true≢false (sym p.0))
    code_at (quit n op rest) near (Some loop) i k p h is = quits n op rest near loop i k p.1 h is (λ r. code_at rest near (Some loop) r k p.2)
    code_at (break rest) near None i k p h is = absurd (true≢false (sym p.0))
    code_at (break rest) near (Some loop) i k p h is = (label (Some loop) i k rest, loop, refl, Stay, code_at rest near (Some loop) i k p.1 h is)
    code_at (continue rest) near None i k p h is = absurd (true≢false (sym p.0))
    code_at (continue rest) near (Some loop) i k p h is = (label (Some loop) i k rest, loop, refl, Stay, code_at rest near (Some loop) i k p.1 h is)
    code_at (call n op f opening rest) near c i k p h is =
        calls n op f opening rest near c i k p.0 p.2 h is (λ k r. code_at opening true None r k (opening_is_shaped has_body opening p.2)) (λ r. code_at rest near c r k p.3)
    code_at (ends n op rest) near c i k p h is = (
      op_at i n op 0 h.0,
      label c (suc i) k rest,
      λ callers onward. goes_by core op w.out p.0 i h.0.0.target callers onward,
      code_at rest near c (suc i) k p.1 h.1 (λ t. (let e = is t in omega arith)),
    )
