-- What is left in a run of framed code, with its loops under way.
use Rattle.std.proofs.Common.{◌≡◌, ℕ, Bool, true, false, true≢false, List, [], ◌∷◌, ap, ◌∙◌, sym, refl, subst}
use Rattle.std.specs.Prelude.{if◌then◌else◌}
use Rattle.fk_meaning_operation.specs.declared.operation.Operation.{Operation}
use Rattle.fk_meaning_operation.specs.declared.operation.Operation.TheVariants as o
use Rattle.fk_meaning_forms.specs.Code.{Code, done, perform, choose, while, until, turn, again, quit, break, continue, call, ends, append}
use Rattle.fk_meaning.specs.Left.{broken, continued, settled_turn, opened, settled}
use Rattle.fk_meaning.specs.Behind.{opens_body, is_shrink, shrinks, grown, past}
use Rattle.fk_meaning.specs.Shape.{Exits, none, of_test, of_turn, splits, closes, ends_part, begins, meets, Either, Shape}
use Rattle.fk_meaning.proofs.Spine.{untrue, by_either, test_is, past_append, broken_append, append_done, begins_settled}
use Rattle.fk_meaning.proofs.Nested.{Allows, Loop, Nested, opens, settles, turn_allows, nested_before, turn_past}
use Rattle.fk_lockstep.specs.Frames.{Enters, calling, is_own_frame}
use Rattle.fk_lockstep_structure.specs.Placed.{Who, OfGroup, OfBody, is_group, is_main, callee_of}
use Rattle.fk_lockstep_structure.specs.Framed.{is_resume, resumes, is_body, inside, Stays, Chooses, Ends, Opens, Framed}

-- ---- who does what is left: what stands behind it tells, or what called it

abbrev pub who_behind : Who → List (Code ℕ) → Who
who_behind outer [] = outer
who_behind outer (code ∷ codes) = if meets code then OfBody else OfGroup

abbrev pub who_in : Who → Code ℕ → Who
who_in outer code = who_behind outer (past code)

pub resumes_begin : (code : Code ℕ) → resumes code ≡ true → begins code ≡ true
resumes_begin (perform t op rest) e = refl
resumes_begin code e = untrue e

resumes_not : (op : Operation) → is_resume op ≡ true → closes op ≡ false
resumes_not o.Resume e = refl
resumes_not op e = untrue e

pub resumes_meet : (code : Code ℕ) → resumes code ≡ true → meets code ≡ false
resumes_meet (perform t op rest) e = resumes_not op e
resumes_meet code e = untrue e

-- in the part before a resume
pub who_of_part : (outer : Who) (code : Code ℕ) (codes : List (Code ℕ)) → resumes code ≡ true → who_behind outer (settled code ∷ codes) ≡ OfGroup
who_of_part outer code codes e =
    ap (λ (c : Code ℕ). who_behind outer (c ∷ codes)) (begins_settled code (resumes_begin code e))
    ∙ ap (λ b. if b then OfBody else OfGroup) (resumes_meet code e)

-- ---- what is so of it

pub record Performs (outer : Who) (op : Operation) (here rest : Code ℕ) : Type 0 where
  pub stays : Stays (who_in outer here) (who_in outer rest) op
  pub own : is_own_frame op ≡ true → (past here ≡ []) × (is_main outer ≡ false)
  pub ends : ends_part op ≡ true → resumes rest ≡ true

module _ (may_call : (in_group : Bool) → (function : ℕ) → Bool) where
  abbrev pub Ways : Who → Operation → (a b : Code ℕ) → Type 0
  Ways who op a b = Chooses who op × Framed may_call (inside who op) a × Framed may_call (inside who op) b

  abbrev pub Turns : Who → (test body step : Code ℕ) → Type 0
  Turns who test body step = Framed may_call who test × Framed may_call who body × Framed may_call who step

  abbrev pub Calls : Who → Operation → (f : ℕ) → (opening : Code ℕ) → Type 0
  Calls who op f opening = (calling op ≡ Enters) × (may_call (is_group who) f ≡ true) × Opens may_call (callee_of who) opening

  -- of all that is left in a function that such a one calls
  abbrev pub Left : Who → Code ℕ → Type 0
  Left outer done = Unit {0}
  Left outer (perform t op rest) = Performs outer op (perform t op rest) rest × Left outer rest
  Left outer (choose t op a b rest) =
      Ways (who_in outer (choose t op a b rest)) op a b × (splits op ≡ true → resumes rest ≡ true) × Left outer rest
  Left outer (while test body step rest) =
      Turns (who_in outer (while test body step rest)) test body step × (shrinks test ≡ true → resumes rest ≡ true) × Left outer rest
  Left outer (until body test rest) =
      Turns (who_in outer (until body test rest)) test body done × (shrinks test ≡ true → resumes rest ≡ true) × Left outer rest
  Left outer (turn test body step rest) =
      Turns (who_in outer (turn test body step rest)) test body step × (shrinks test ≡ true → resumes rest ≡ true) × Left outer rest
  Left outer (again test body step rest) =
      Turns (who_in outer (again test body step rest)) test body step × (shrinks test ≡ true → resumes rest ≡ true) × Left outer rest
  Left outer (quit t op rest) = (is_shrink op ≡ true → resumes (broken rest) ≡ true) × Left outer rest
  Left outer (break rest) = Left outer rest
  Left outer (continue rest) = Left outer rest
  Left outer (call t op f opening rest) = Calls (who_in outer rest) op f opening × Left outer rest
  Left outer (ends t op rest) = Ends (who_in outer rest) op × Left outer rest

  -- ---- code of a text before it

  -- who does it: the group of a part, or who does what stands behind it
  pub record Before (outer : Who) (part : Bool) (x : Exits) (who : Who) (d : Code ℕ) : Type 0 where
    pub in_part : part ≡ true → (who ≡ OfGroup) × (resumes d ≡ true)
    pub as_behind : part ≡ false → who_in outer d ≡ who
    pub shrinking : x.tests ≡ true → x.shrinking ≡ true → resumes (broken d) ≡ true

  pub before_by : (outer : Who) (part : Bool) (x : Exits) (who : Who) (d : Code ℕ) → Before outer part x who d → who_behind outer (grown part (settled d) (past d)) ≡ who
  before_by outer true x who d b = let p = b.in_part refl in who_of_part outer d (past d) p.1 ∙ sym p.0
  before_by outer false x who d b = b.as_behind refl

  who_same : (outer : Who) (part : Bool) (x : Exits) (who : Who) (code d : Code ℕ) → Shape part false x code → Before outer part x who d
      → who_in outer (append code d) ≡ who
  who_same outer part x who code d s b = ap (who_behind outer) (past_append part false x code d s) ∙ before_by outer part x who d b

  stays_as : (who w v : Who) (op : Operation) → w ≡ who → (closes op ≡ true → v ≡ who) → Stays who who op → Stays w v op
  stays_as who w v op e f h = record {
    remains = h.remains;
    in_group = λ is. ap is_group e ∙ h.in_group is;
    resumes = λ is. ap is_body e ∙ h.resumes is;
    closes = λ is. ap is_group (f is) ∙ h.closes is;
  }

  -- what closes a body is no other thing
  stays_closing : (who w v : Who) (op : Operation) → closes op ≡ true → v ≡ who → Stays who who op → Stays w v op
  stays_closing who w v (o.Meet true) c e h =
      record { remains = refl; in_group = λ is. untrue is; resumes = λ is. untrue is; closes = λ is. ap is_group e ∙ h.closes refl }
  stays_closing who w v op c e h = untrue c

  closing_ends : (op : Operation) → closes op ≡ true → ends_part op ≡ false
  closing_ends (o.Meet true) c = refl
  closing_ends op c = untrue c

  rest_shape : (b part : Bool) (x : Exits) (rest : Code ℕ) → Either b ((part ≡ true) × (x.tests ≡ false) × (rest ≡ done)) (Shape part false x rest) → b ≡ false → Shape part false x rest
  rest_shape true part x rest h e = absurd (true≢false e)
  rest_shape false part x rest h e = h

  ends_resuming : (b part : Bool) (x : Exits) (rest d : Code ℕ) → Either b ((part ≡ true) × (x.tests ≡ false) × (rest ≡ done)) (Shape part false x rest)
      → (part ≡ true → resumes d ≡ true) → b ≡ true → resumes (append rest d) ≡ true
  ends_resuming true part x rest d h r e = subst (λ (c : Code ℕ). resumes (append c d) ≡ true) (sym h.2) (r h.0)
  ends_resuming false part x rest d h r e = untrue e

  done_left : (outer : Who) (rest d : Code ℕ) → rest ≡ done → Left outer d → Left outer (append rest d)
  done_left outer rest d e h = subst (λ (c : Code ℕ). Left outer (append c d)) (sym e) h

  turns_as : (w who : Who) (test body step : Code ℕ) → w ≡ who → Turns who test body step → Turns w test body step
  turns_as w who test body step e h = subst (λ (v : Who). Turns v test body step) (sym e) h

  pub append_left : (outer : Who) (part closing : Bool) (x : Exits) (who : Who) (code d : Code ℕ) → Shape part closing x code → Framed may_call who code
      → Before outer part x who d → Left outer d → Left outer (append code d)
  append_left outer part closing x who done d s f b h = h
  append_left outer part true x who (perform t op rest) d s f b h =
      let g = rest_shape (ends_part op) part x rest s.2 (closing_ends op s.0) in (
        record {
          stays = stays_closing who (who_in outer (append (perform t op rest) d)) (who_in outer (append rest d)) op s.0 (who_same outer part x who rest d g b) f.0;
          own = λ e. absurd (true≢false (sym e ∙ f.1));
          ends = λ e. absurd (true≢false (sym e ∙ closing_ends op s.0));
        },
        append_left outer part false x who rest d g f.2 b h,
      )
  append_left outer part false x who (perform t op rest) d s f b h = (
    record {
      stays = stays_as who (who_in outer (append (perform t op rest) d)) (who_in outer (append rest d)) op (who_same outer part x who (perform t op rest) d s b)
          (λ c. absurd (true≢false (sym c ∙ s.0))) f.0;
      own = λ e. absurd (true≢false (sym e ∙ f.1));
      ends = ends_resuming (ends_part op) part x rest d s.2 (λ e. (b.in_part e).1);
    },
    by_either (ends_part op) _ _ _ s.2 (λ e. done_left outer rest d e.2 h) (λ g. append_left outer part false x who rest d g f.2 b h),
  )
  append_left outer part closing x who (choose t op y z rest) d s f b h =
      let same = who_same outer part x who (choose t op y z rest) d (subst (λ c. Shape part c x (choose t op y z rest)) s.0 s) b in (
        subst (λ (v : Who). Ways v op y z) (sym same) (f.0, f.1, f.2),
        (λ e. resumes_on rest d (f.3 e)),
        append_left outer part (opens_body op) x who rest d s.6 f.4 b h,
      )
    where
      resumes_on : (rest d : Code ℕ) → resumes rest ≡ true → resumes (append rest d) ≡ true
      resumes_on (perform t op rest) d e = e
      resumes_on done d e = untrue e
      resumes_on (choose t op a b rest) d e = untrue e
      resumes_on (while test body step rest) d e = untrue e
      resumes_on (until body test rest) d e = untrue e
      resumes_on (turn test body step rest) d e = untrue e
      resumes_on (again test body step rest) d e = untrue e
      resumes_on (quit t op rest) d e = untrue e
      resumes_on (break rest) d e = untrue e
      resumes_on (continue rest) d e = untrue e
      resumes_on (call t op f opening rest) d e = untrue e
      resumes_on (ends t op rest) d e = untrue e
  append_left outer part closing x who (while test body step rest) d s f b h = (
    turns_as (who_in outer (append (while test body step rest) d)) who test body step
        (who_same outer part x who (while test body step rest) d (subst (λ c. Shape part c x (while test body step rest)) s.0 s) b) (f.0, f.1, f.2),
    (λ e. ends_resuming s.1 part x rest d s.5 (λ i. (b.in_part i).1) (sym (test_is s.1 test s.2) ∙ e)),
    by_either s.1 _ _ _ s.5 (λ e. done_left outer rest d e.2 h) (λ g. append_left outer part false x who rest d g f.3 b h),
  )
  append_left outer part closing x who (until body test rest) d s f b h = (
    turns_as (who_in outer (append (until body test rest) d)) who test body done
        (who_same outer part x who (until body test rest) d (subst (λ c. Shape part c x (until body test rest)) s.0 s) b) (f.1, f.0, tt),
    (λ e. ends_resuming s.1 part x rest d s.4 (λ i. (b.in_part i).1) (sym (test_is s.1 test s.2) ∙ e)),
    by_either s.1 _ _ _ s.4 (λ e. done_left outer rest d e.2 h) (λ g. append_left outer part false x who rest d g f.2 b h),
  )
  append_left outer part closing x who (turn test body step rest) d s f b h = absurd s
  append_left outer part closing x who (again test body step rest) d s f b h = absurd s
  append_left outer part closing x who (quit t op rest) d s f b h = (
    (λ e. subst (λ (c : Code ℕ). resumes (broken (append c d)) ≡ true) (sym s.5) (b.shrinking s.3 (sym s.4 ∙ e))),
    done_left outer rest d s.5 h,
  )
  append_left outer part closing x who (break rest) d s f b h = append_left outer part false x who rest d s.2 f b h
  append_left outer part closing x who (continue rest) d s f b h = append_left outer part false x who rest d s.2 f b h
  append_left outer part closing x who (call t op g opening rest) d s f b h = (
    subst (λ (v : Who). Calls v op g opening) (sym (who_same outer part x who rest d s.3 b)) (f.0, f.1, f.2),
    append_left outer part false x who rest d s.3 f.3 b h,
  )
  append_left outer part closing x who (ends t op rest) d s f b h = (
    subst (λ (v : Who). Ends v op) (sym (who_same outer part x who rest d s.3 b)) f.0,
    append_left outer part false x who rest d s.3 f.1 b h,
  )

  -- code that is no part, before what the same does
  pub before_left : (outer : Who) (x : Exits) (who : Who) (code d : Code ℕ) → Shape false false x code → Framed may_call who code → who_in outer d ≡ who
      → (x.tests ≡ true → x.shrinking ≡ true → resumes (broken d) ≡ true) → Left outer d → Left outer (append code d)
  before_left outer x who code d s f e t h = append_left outer false false x who code d s f (record { in_part = λ i. untrue i; as_behind = λ i. e; shrinking = t }) h

  -- ---- loops under way, and what stands first

  again_left : (outer : Who) (test body step rest : Code ℕ) → Left outer (turn test body step rest) → Left outer (again test body step rest)
  again_left outer test body step rest h = h

  -- behind the step to the next turn
  next_left : (outer : Who) (test body step rest : Code ℕ) → Loop test body step rest → Left outer (again test body step rest) → Left outer (append step (again test body step rest))
  next_left outer test body step rest l h =
      before_left outer none (who_in outer (again test body step rest)) step (again test body step rest) l.step_in h.0.2 refl (λ e. untrue e) h

  pub broken_left : (outer : Who) (code : Code ℕ) → Left outer code → Left outer (broken code)
  broken_left outer done h = tt
  broken_left outer (perform t op rest) h = broken_left outer rest h.1
  broken_left outer (choose t op a b rest) h = broken_left outer rest h.2
  broken_left outer (while test body step rest) h = broken_left outer rest h.2
  broken_left outer (until body test rest) h = broken_left outer rest h.2
  broken_left outer (turn test body step rest) h = h.2
  broken_left outer (again test body step rest) h = h.2
  broken_left outer (quit t op rest) h = broken_left outer rest h.1
  broken_left outer (break rest) h = broken_left outer rest h
  broken_left outer (continue rest) h = broken_left outer rest h
  broken_left outer (call t op f opening rest) h = broken_left outer rest h.1
  broken_left outer (ends t op rest) h = broken_left outer rest h.1

  pub continued_left : (outer : Who) (code : Code ℕ) → Nested code → Left outer code → Left outer (continued code)
  continued_left outer done n h = tt
  continued_left outer (perform t op rest) n h = continued_left outer rest n.1 h.1
  continued_left outer (choose t op a b rest) n h = continued_left outer rest n.8 h.2
  continued_left outer (while test body step rest) n h = continued_left outer rest n.1 h.2
  continued_left outer (until body test rest) n h = continued_left outer rest n.1 h.2
  continued_left outer (turn test body step rest) n h = next_left outer test body step rest n.0 h
  continued_left outer (again test body step rest) n h = next_left outer test body step rest n.0 h
  continued_left outer (quit t op rest) n h = continued_left outer rest n.2 h.1
  continued_left outer (break rest) n h = continued_left outer rest n.1 h
  continued_left outer (continue rest) n h = continued_left outer rest n.1 h
  continued_left outer (call t op f opening rest) n h = continued_left outer rest n.2 h.1
  continued_left outer (ends t op rest) n h = continued_left outer rest n.2 h.1

  turned_left : (outer : Who) (d : Code ℕ) → Nested d → Left outer d → Left outer (settled_turn d)
  turned_left outer (turn test body step rest) n h = next_left outer test body step rest n.0 h
  turned_left outer d n h = h

  -- a loop before other code, which leads on alike
  loop_left : (outer who : Who) (test body step rest other : Code ℕ) → past other ≡ past rest → (shrinks test ≡ true → settled other ≡ settled rest)
      → who_in outer (again test body step rest) ≡ who → Turns who test body step → (shrinks test ≡ true → resumes other ≡ true) → Left outer other
      → Left outer (again test body step other)
  loop_left outer who test body step rest other e g same turns r h = (
    turns_as (who_in outer (again test body step other)) who test body step
        (ap (who_behind outer) (by (shrinks test) g) ∙ same) turns,
    r,
    h,
  )
    where
      by : (b : Bool) → (b ≡ true → settled other ≡ settled rest) → grown b (settled other) (past other) ≡ grown b (settled rest) (past rest)
      by true g = ap (λ c. c ∷ past other) (g refl) ∙ ap (λ cs. settled rest ∷ cs) e
      by false g = e

  -- an opened loop
  opened_left : (outer : Who) (x : Exits) (who : Who) (code d : Code ℕ) → Shape false false x code → Framed may_call who code → Nested d → Allows x d
      → who_in outer d ≡ who → (x.tests ≡ true → x.shrinking ≡ true → resumes (broken d) ≡ true) → Left outer d → Left outer (opened code d)
  opened_left outer x who done d s f n a e t h = turned_left outer d n h
  opened_left outer x who (perform u op rest) d s f n a e t h = before_left outer x who (perform u op rest) d s f e t h
  opened_left outer x who (choose u op y z rest) d s f n a e t h = before_left outer x who (choose u op y z rest) d s f e t h
  opened_left outer x who (while test body step rest) d s f n a e t h = by (λ g. opened_left outer x who rest d g f.3 n a e t h) s.1 s.2 s.3 s.5
    where
      by : (Shape false false x rest → Left outer (opened rest d)) → (shrinking : Bool) → Shape false false (of_test shrinking) test → Shape false false (of_turn shrinking x) body
          → Either shrinking ((false ≡ true) × (x.tests ≡ false) × (rest ≡ done)) (Shape false false x rest)
          → Left outer (again test body step (opened rest d))
      by more true u v g = untrue g.0
      by more false u v g =
          let l = opens x rest d g n a in
          let low : shrinks test ≡ false = test_is false test u in (
            turns_as (who_in outer (again test body step (opened rest d))) who test body step
                (ap (λ b. who_behind outer (grown b (settled (opened rest d)) (past (opened rest d)))) low ∙ ap (who_behind outer) l.same ∙ e) (f.0, f.1, f.2),
            (λ i. absurd (true≢false (sym i ∙ low))),
            more g,
          )
  opened_left outer x who (until body test rest) d s f n a e t h =
      by (λ g. opened_left outer x who rest d g f.2 n a e t h)
      (λ y v more nested allows same is. opened_left outer y who body more v f.0 nested allows same is) s.1 s.2 s.3 s.4
    where
      by : (Shape false false x rest → Left outer (opened rest d))
          → ((y : Exits) → Shape false false y body → (more : Code ℕ) → Nested more → Allows y more → who_in outer more ≡ who
          → (y.tests ≡ true → y.shrinking ≡ true → resumes (broken more) ≡ true) → Left outer more → Left outer (opened body more))
          → (shrinking : Bool) → Shape false false (of_test shrinking) test → Shape false false (of_turn shrinking x) body
          → Either shrinking ((false ≡ true) × (x.tests ≡ false) × (rest ≡ done)) (Shape false false x rest)
          → Left outer (opened body (turn test body done (opened rest d)))
      by later before true u v g = untrue g.0
      by later before false u v g =
          let l = opens x rest d g n a in
          let low : shrinks test ≡ false = test_is false test u in
          let loop : Loop test body done (opened rest d) = record {
            exits = x;
            shrinking = false;
            test_in = u;
            body_in = v;
            step_in = (refl, refl, refl);
            begins_behind = λ i. untrue i;
            returns = λ i r. l.same ∙ a.returns r;
          } in
          let here : who_in outer (turn test body done (opened rest d)) ≡ who =
          ap (λ b. who_behind outer (grown b (settled (opened rest d)) (past (opened rest d)))) low ∙ ap (who_behind outer) l.same ∙ e in
          before (of_turn false x) v (turn test body done (opened rest d)) (loop, l.nested) (turn_allows test body done (opened rest d) loop) here (λ i. untrue i) (
            turns_as (who_in outer (turn test body done (opened rest d))) who test body done here (f.1, f.0, tt),
            (λ i. absurd (true≢false (sym i ∙ low))),
            later g,
          )
  opened_left outer x who (turn test body step rest) d s f n a e t h = absurd s
  opened_left outer x who (again test body step rest) d s f n a e t h = absurd s
  opened_left outer x who (quit u op rest) d s f n a e t h = before_left outer x who (quit u op rest) d s f e t h
  opened_left outer x who (break rest) d s f n a e t h = broken_left outer (append rest d) (before_left outer x who rest d s.2 f e t h)
  opened_left outer x who (continue rest) d s f n a e t h =
      continued_left outer (append rest d) (nested_before x rest d s.2 n a) (before_left outer x who rest d s.2 f e t h)
  opened_left outer x who (call u op g opening rest) d s f n a e t h = before_left outer x who (call u op g opening rest) d s f e t h
  opened_left outer x who (ends u op rest) d s f n a e t h = before_left outer x who (ends u op rest) d s f e t h

  resumes_settled : (code : Code ℕ) → resumes code ≡ true → resumes (settled code) ≡ true
  resumes_settled (perform t op rest) e = e
  resumes_settled code e = untrue e

  pub settled_left : (outer : Who) (code : Code ℕ) → Nested code → Left outer code → Left outer (settled code)
  settled_left outer (while test body step rest) n h =
      let r = settles rest n.1 in
      loop_left outer (who_in outer (while test body step rest)) test body step rest (settled rest) r.same
      (λ e. ap settled (begins_settled rest (resumes_begin rest (h.1 e)))) refl h.0 (λ e. resumes_settled rest (h.1 e)) (settled_left outer rest n.1 h.2)
  settled_left outer (until body test rest) n h =
      let r = settles rest n.1 in
      let who = who_in outer (until body test rest) in
      let l : Loop test body done (settled rest) = record {
        exits = n.0.exits;
        shrinking = n.0.shrinking;
        test_in = n.0.test_in;
        body_in = n.0.body_in;
        step_in = n.0.step_in;
        begins_behind = λ is. ap begins (begins_settled rest (n.0.begins_behind is)) ∙ n.0.begins_behind is;
        returns = λ is e. r.same ∙ n.0.returns is e;
      } in
      let under_way : Left outer (again test body done (settled rest)) =
      loop_left outer who test body done rest (settled rest) r.same
      (λ e. ap settled (begins_settled rest (resumes_begin rest (h.1 e)))) refl h.0 (λ e. resumes_settled rest (h.1 e)) (settled_left outer rest n.1 h.2) in
      opened_left outer (of_turn l.shrinking l.exits) (who_in outer (turn test body done (settled rest))) body (turn test body done (settled rest)) l.body_in under_way.0.1 (l, r.nested)
      (turn_allows test body done (settled rest) l) refl (λ i. untrue i) under_way
  settled_left outer (turn test body step rest) n h = next_left outer test body step rest n.0 h
  settled_left outer (break rest) n h = broken_left outer rest h
  settled_left outer (continue rest) n h = continued_left outer rest n.1 h
  settled_left outer code n h = h

  -- a whole function
  pub body_left : (outer : Who) (x : Exits) (code : Code ℕ) → x.tests ≡ false → Shape false false x code → Framed may_call outer code → Left outer code
  body_left outer x code q s f =
      subst (λ (c : Code ℕ). Left outer c) (append_done code)
      (append_left outer false false x outer code done s f
      (record { in_part = λ i. untrue i; as_behind = λ i. refl; shrinking = λ i. absurd (true≢false (sym i ∙ q)) }) tt)

  -- the opening of a call before it. Nothing stands behind both
  pub opening_left : (outer : Who) (opening body : Code ℕ) → Shape false false none opening → past body ≡ [] → is_main outer ≡ false → Opens may_call outer opening → Left outer body
      → Left outer (append opening body)
  opening_left outer done body s e m o h = h
  opening_left outer (perform t op rest) body s e m o h = by (λ g. opening_left outer rest body g e m o.1 h) (ends_part op) s.2 refl
    where
      by : (Shape false false none rest → Left outer (append rest body)) → (b : Bool)
          → Either b ((false ≡ true) × (false ≡ false) × (rest ≡ done)) (Shape false false none rest) → ends_part op ≡ b → Left outer (append (perform t op rest) body)
      by more true g i = untrue g.0
      by more false g i =
          let nothing : past (append (perform t op rest) body) ≡ [] = past_append false false none (perform t op rest) body s ∙ e in (
            record {
              stays = stays_as outer (who_in outer (append (perform t op rest) body)) (who_in outer (append rest body)) op (ap (who_behind outer) nothing)
                  (λ c. absurd (true≢false (sym c ∙ s.0))) o.0;
              own = λ is. (nothing, m);
              ends = λ is. absurd (true≢false (sym is ∙ i));
            },
            more g,
          )
  opening_left outer (choose t op a b rest) body s e m o h = absurd o
  opening_left outer (while test inner step rest) body s e m o h = absurd o
  opening_left outer (until inner test rest) body s e m o h = absurd o
  opening_left outer (turn test inner step rest) body s e m o h = absurd o
  opening_left outer (again test inner step rest) body s e m o h = absurd o
  opening_left outer (quit t op rest) body s e m o h = absurd o
  opening_left outer (break rest) body s e m o h = absurd o
  opening_left outer (continue rest) body s e m o h = absurd o
  opening_left outer (call t op f more rest) body s e m o h = absurd o
  opening_left outer (ends t op rest) body s e m o h = absurd o

  -- a turn of a loop that begins again, with its test
  pub turn_left : (outer : Who) (test body step rest : Code ℕ) → Loop test body step rest → Left outer (again test body step rest) → Left outer (append body (turn test body step rest))
  turn_left outer test body step rest l h =
      before_left outer (of_turn l.shrinking l.exits) (who_in outer (turn test body step rest)) body (turn test body step rest) l.body_in h.0.1 refl (λ e. untrue e) h

  pub whole_left : (outer : Who) (test body step rest : Code ℕ) → Loop test body step rest → Left outer (again test body step rest)
      → Left outer (append test (append body (turn test body step rest)))
  whole_left outer test body step rest l h =
      let more = append body (turn test body step rest) in
      before_left outer (of_test l.shrinking) (who_in outer (turn test body step rest)) test more l.test_in h.0.0
      (ap (who_behind outer) (turn_past test body step rest l))
      (λ e s. ap resumes (broken_append false false (of_turn l.shrinking l.exits) body (turn test body step rest) l.body_in) ∙ h.1 (test_is l.shrinking test l.test_in ∙ s))
      (turn_left outer test body step rest l h)
