-- What is pending for a `fork` stays up to it.
use Rattle.std.proofs.Common.{◌≡◌, ◌⊎◌, inl, inr, map, ℕ, zero, suc, ◌≤◌, Bool, true, false, true≢false, List, [], ◌∷◌, ◌++◌, Option, Some, None, is_some, ap, ◌∙◌, sym, refl, subst, arith}
use Rattle.std.specs.Prelude.{◌&&◌, ◌||◌, not, if◌then◌else◌}
use Rattle.std.proofs.lemmas.Bool.{and_parts}
use Rattle.fk_meaning_operation.specs.declared.operation.Operation.{Operation}
use Rattle.fk_meaning_operation.specs.declared.operation.Operation.TheVariants as o
use Rattle.fk_meaning_operation.specs.declared.operation.SplitKind.TheVariants.{IfAlone, IfElse, AndThen, OrElse, Loop, Fork}
use Rattle.fk_meaning_forms.specs.Code.{Code, done, perform, choose, while, until, turn, again, quit, break, continue, call, ends, append}
use Rattle.fk_meaning.specs.Left.{broken, settled}
use Rattle.fk_meaning.specs.Next.{Work, going, returned, step, step_of, next}
use Rattle.fk_meaning.specs.Behind.{opens_body, tail, shrinks, grown, fallen, marked, past, works, waiting, outs}
use Rattle.fk_meaning.specs.Shape.{none, of_function, is_performed, is_chosen, is_quit, is_of_call, meets, Shape}
use Rattle.fk_meaning.proofs.Spine.{untrue}
use Rattle.fk_meaning.proofs.Nested.{Nested, no_exits, nested_append, body_nested, whole_nested, settles}
use Rattle.fk_meaning.proofs.Steps.{WorkNested, is_stepped}
use Rattle.fk_lockstep.specs.Counts.{AsMany, NoMore, CountedNext, CountedFor}
use Rattle.fk_lockstep_structure.specs.Ahead.{starts_in, outermost, starts, all_outs}
use Rattle.fk_lockstep_structure.specs.Placed.{is_begin}
use Rattle.fk_lockstep_structure.proofs.Behind.{behind_part}
use Rattle.fk_lockstep_structure.specs.Pending as pending
use Rattle.fk_lockstep_structure.specs.Pending.{is_fork, leaves, before_it, before_way, before_call, leads, MayStand, MayChoose, MayCall, MayBegin, stands_alone, all_leave, one_more, many_waiting, fork_counts, CodeIsCounted}
use Rattle.fk_lockstep_structure.proofs.Counted.{counted_append, idle_append, broken_idle, counted_settled, settled_idle, above_append, all_say, leave_append, leave_broken, leave_settled, leave_whole}
use Rattle.fk_lockstep_structure.proofs.Holding as h
use Rattle.fk_lockstep_structure.proofs.Holding.{Passes, pending_of, same_pending, none_goes, some_goes, ways_go, takes_one, enters_call, ends_last, ends_first}

module _ (may_call gives : (function : ℕ) → Bool) where
  abbrev above : Option ℕ → Code ℕ → Option ℕ
  above after code = pending.above gives after code

  abbrev Counted : Option Bool → Code ℕ → Type 0
  Counted called code = pending.Counted may_call gives called None code

  -- ---- where nothing is pending in code, nothing is behind the part either

  abbrev FirstNone : List (Code ℕ) → Type 0
  FirstNone [] = Unit {0}
  FirstNone (code ∷ codes) = above None code ≡ None

  abbrev Quiet : Code ℕ → Type 0
  Quiet code = (above None code ≡ None) ⊎ (leads code ≡ true)

  -- behind an operation
  quiet_rest : (op : Operation) (rest : Code ℕ) (x : Option ℕ) → above None rest ≡ x → MayStand op x (leads rest) → before_it op x ≡ None → Quiet rest
  quiet_rest op rest None is may e = inl is
  quiet_rest o.Agree rest (Some zero) is may e = inr may
  quiet_rest o.Agree rest (Some (suc m)) is may e = absurd (cc)
  quiet_rest op rest (Some m) is may e = untrue (sym (ap is_some e) ∙ may)

  meet_none : (x : Option ℕ) → before_it (o.Meet true) x ≡ None
  meet_none None = refl
  meet_none (Some m) = refl

  met_none : (x : Option ℕ) (l : Bool) → MayStand (o.Meet true) x l → x ≡ None
  met_none None l h = refl
  met_none (Some m) l h = untrue h

  -- behind a choice
  quiet_behind : (op : Operation) (a b rest : Code ℕ) (r : Option ℕ) → above None rest ≡ r → MayChoose op r (above r a) (above r b)
      → ((if is_fork op then Some 2 else before_way op true (above r a)) ≡ None) ⊎ ((is_fork op || leads rest) ≡ true) → Quiet rest
  quiet_behind op a b rest None is may h = inl is
  quiet_behind op a b rest (Some m) is may h = by (is_fork op) refl h
    where
      fork_never : (op' : Operation) (y : Option ℕ) → is_fork op' ≡ true → is_some (before_way op' true y) ≡ true → ⊥
      fork_never (o.Split Fork) None e s = untrue s
      fork_never (o.Split Fork) (Some k) e s = untrue s
      fork_never (o.Split IfAlone) y e s = untrue e
      fork_never (o.Split IfElse) y e s = untrue e
      fork_never (o.Split AndThen) y e s = untrue e
      fork_never (o.Split OrElse) y e s = untrue e
      fork_never (o.Split Loop) y e s = untrue e
      fork_never op' y e s = untrue e

      by : (f : Bool) → is_fork op ≡ f → ((if f then Some 2 else before_way op true (above (Some m) a)) ≡ None) ⊎ ((f || leads rest) ≡ true) → Quiet rest
      by true e h' = absurd (fork_never op (above (Some m) a) e may.0)
      by false e (inl none) = untrue (sym (ap is_some none) ∙ may.0)
      by false e (inr more) = inr more

  -- behind a call
  quiet_call : (g : Bool) (op : Operation) (x : Option ℕ) → MayCall g op x → before_call g op x ≡ None → x ≡ None
  quiet_call g op None may e = refl
  quiet_call g op (Some m) may e = untrue (sym (ap is_some e) ∙ may)

  module _ (called : Option Bool) where
    marked_first : (t : ℕ) (op : Operation) (rest : Code ℕ) → Counted called (perform t op rest) → Quiet (perform t op rest) → (Quiet rest → FirstNone (past rest))
        → FirstNone (marked op (perform t op rest) (settled rest) (past rest))
    marked_first t o.End rest h (inl none) behind = (counted_settled may_call gives called rest h.2).0 ∙ end_none (above None rest) none
      where
        end_none : (x : Option ℕ) → before_it o.End x ≡ None → x ≡ None
        end_none None e = refl
        end_none (Some m) e = absurd (cc)
    marked_first t o.End rest h (inr more) behind = untrue more
    marked_first t (o.Meet true) rest h q behind = meet_none (above None rest)
    marked_first t (o.Meet false) rest h (inl none) behind = behind (quiet_rest (o.Meet false) rest (above None rest) refl h.1 none)
    marked_first t (o.Meet false) rest h (inr more) behind = behind (inr more)
    marked_first t op rest h (inl none) behind = behind (quiet_rest op rest (above None rest) refl h.1 none)
    marked_first t op rest h (inr more) behind = behind (inr more)

    fallen_first : (opens : Bool) {b : Bool} → b ≡ opens → (codes : List (Code ℕ)) → (b ≡ true → FirstNone (tail codes)) → FirstNone codes → FirstNone (fallen opens codes)
    fallen_first true e codes f g = f e
    fallen_first false e codes f g = g

    looped : (test rest : Code ℕ) → FirstNone (past rest) → pending.Idle may_call gives called rest → FirstNone (grown (shrinks test) (settled rest) (past rest))
    looped test rest f i = by (shrinks test)
      where
        by : (b : Bool) → FirstNone (grown b (settled rest) (past rest))
        by true = (settled_idle may_call gives called rest i).0
        by false = f

    mutual
      pub past_first : (code : Code ℕ) → Nested code → Counted called code → Quiet code → FirstNone (past code)
      past_first done n h q = tt
      past_first (perform t op rest) n h q = marked_first t op rest h q (λ quiet. past_first rest n.1 h.2 quiet)
      past_first (choose t op a b rest) n h q =
          fallen_first (opens_body op) refl (past rest) (λ e. tail_first rest (n.6 e) n.8 h.1) (past_first rest n.8 h.1 (quiet_behind op a b rest (above None rest) refl h.0.0 q))
      past_first (while test body after rest) n h q = looped test rest (past_first rest n.1 h.3.1 (inl h.3.0)) h.3
      past_first (until body test rest) n h q = looped test rest (past_first rest n.1 h.2.1 (inl h.2.0)) h.2
      past_first (turn test body after rest) n h q = looped test rest (past_first rest n.1 h.3.1 (inl h.3.0)) h.3
      past_first (again test body after rest) n h q = looped test rest (past_first rest n.1 h.3.1 (inl h.3.0)) h.3
      past_first (quit t op rest) n h q = past_first rest n.2 h.1.1 (inl h.1.0)
      past_first (break rest) n h q = past_first rest n.1 h.1 (inl h.0)
      past_first (continue rest) n h q = past_first rest n.1 h.1 (inl h.0)
      past_first (call t op f opening rest) n h (inl nothing) = past_first rest n.2 h.3.1 (inl (quiet_call (gives f) op (above None rest) h.3.0 nothing))
      past_first (call t op f opening rest) n h (inr more) = past_first rest n.2 h.3.1 (inr more)
      past_first (ends t op rest) n h q = past_first rest n.2 h.1.1 (inl h.1.0)

      -- behind a body
      tail_first : (code : Code ℕ) → meets code ≡ true → Nested code → Counted called code → FirstNone (tail (past code))
      tail_first (perform t (o.Meet true) rest) m n h = past_first rest n.1 h.2 (inl (met_none (above None rest) (leads rest) h.1))
      tail_first (perform t op rest) m n h = untrue m
      tail_first code m n h = untrue m

  -- where a number may be pending in it, there may be one behind the part
  abbrev FirstIn : Option ℕ → List (Code ℕ) → Type 0
  FirstIn None codes = FirstNone codes
  FirstIn (Some m) codes = Unit {0}

  past_in : (called : Option Bool) (code : Code ℕ) → Nested code → Counted called code → FirstIn (above None code) (past code)
  past_in called code n h = by (above None code) refl
    where
      by : (x : Option ℕ) → above None code ≡ x → FirstIn x (past code)
      by None e = past_first called code n h (inl e)
      by (Some m) e = tt

  -- ---- what a processor has left

  -- only `main` has no call behind it
  abbrev MayBe : Option Bool → List (Code ℕ) → Type 0
  MayBe None codes = codes ≡ []
  MayBe (Some g) codes = Unit {0}

  abbrev AllCounted : List (Code ℕ) → Type 0
  AllCounted [] = Unit {0}
  AllCounted (code ∷ codes) = (called : Option Bool) × MayBe called codes × Counted called code × AllCounted codes

  record WorkCounted (work : Work) : Type 0 where
    called : Option Bool
    may_be : MayBe called work.callers
    left : Counted called work.left
    callers : AllCounted work.callers
    nested : WorkNested work

  returned_counted : (callers : List (Code ℕ)) → AllCounted callers → WorkNested (returned callers) → WorkCounted (returned callers)
  returned_counted [] g n = record { called = None; may_be = refl; left = tt; callers = tt; nested = n }
  returned_counted (code ∷ callers) g n = record { called = g.0; may_be = g.1; left = (counted_settled may_call gives g.0 code g.2).1; callers = g.3; nested = n }

  -- where others are met no more is pending than of the calls that wait
  abbrev FirstAtMost : ℕ → List Work → Type 0
  FirstAtMost n [] = Unit {0}
  FirstAtMost n (w ∷ ws) = pending_of gives w ≤ n

  first_at_most : (n : ℕ) (vs ws : List Work) → FirstAtMost n vs → FirstAtMost n ws → FirstAtMost n (vs ++ ws)
  first_at_most n [] ws g i = i
  first_at_most n (v ∷ vs) ws g i = g

  more_at_most : (n k : ℕ) (ws : List Work) → n ≤ k → FirstAtMost n ws → FirstAtMost k ws
  more_at_most n k [] le g = tt
  more_at_most n k (w ∷ ws) le g = omega (arith, le, g)

  one_at_most : (x : Option ℕ) (k : ℕ) → k ≤ one_more x k
  one_at_most None k = omega arith
  one_at_most (Some m) k = omega arith

  works_at_most : (x : Option ℕ) (callers codes : List (Code ℕ)) → FirstIn x codes → FirstAtMost (one_more x (many_waiting gives callers)) (works callers codes)
  works_at_most x callers [] g = tt
  works_at_most None callers (code ∷ codes) g =
      let size : one_more (above None code) (many_waiting gives callers) ≡ many_waiting gives callers = ap (λ (y : Option ℕ). one_more y (many_waiting gives callers)) g in
      omega (arith, size)
  works_at_most (Some m) callers (code ∷ codes) g = by (above None code)
    where
      by : (y : Option ℕ) → one_more y (many_waiting gives callers) ≤ suc (many_waiting gives callers)
      by None = omega arith
      by (Some k) = omega arith

  abbrev AllNest : List (Code ℕ) → Type 0
  AllNest [] = Unit {0}
  AllNest (code ∷ codes) = Nested code × AllNest codes

  nest : (callers : List (Code ℕ)) → WorkNested (record { left = done; callers = callers }) → AllNest callers
  nest [] n = tt
  nest (code ∷ callers) n = (n.callers.0, nest callers (record { left = tt; callers = n.callers.1 }))

  waiting_at_most : (callers : List (Code ℕ)) → AllNest callers → AllCounted callers → FirstAtMost (many_waiting gives callers) (waiting callers)
  waiting_at_most [] n g = tt
  waiting_at_most (code ∷ callers) n g =
      first_at_most (many_waiting gives (code ∷ callers)) (works callers (past code)) (waiting callers)
      (works_at_most (above None code) callers (past code) (past_in g.0 code n.0 g.2))
      (more_at_most (many_waiting gives callers) (many_waiting gives (code ∷ callers)) (waiting callers) (one_at_most (above None code) (many_waiting gives callers)) (waiting_at_most callers n.1 g.3))

  begin_none : (y : Option ℕ) → before_way o.Begin true y ≡ None
  begin_none None = refl
  begin_none (Some m) = refl

  starts_none : (code : Code ℕ) → FirstNone (starts_in code)
  starts_none done = tt
  starts_none (perform t op rest) = starts_none rest
  starts_none (choose t op a b rest) = by op (starts_none rest)
    where
      by : (op' : Operation) → FirstNone (starts_in rest) → FirstNone (grown (is_begin op') (choose t op' a b rest) (starts_in rest))
      by o.Begin h = begin_none (above (above None rest) a)
      by op' h = h
  starts_none (while test body step' rest) = starts_none rest
  starts_none (until body test rest) = starts_none rest
  starts_none (turn test body step' rest) = starts_none rest
  starts_none (again test body step' rest) = starts_none rest
  starts_none (quit t op rest) = starts_none rest
  starts_none (break rest) = starts_none rest
  starts_none (continue rest) = starts_none rest
  starts_none (call t op f opening rest) = starts_none rest
  starts_none (ends t op rest) = starts_none rest

  starts_at_most : (n : ℕ) (codes : List (Code ℕ)) → FirstNone codes → FirstAtMost n (map (λ code. let at : Work = record { left = code; callers = [] } in at) codes)
  starts_at_most n [] g = tt
  starts_at_most n (code ∷ codes) g = let size : one_more (above None code) 0 ≡ 0 = ap (λ (y : Option ℕ). one_more y 0) g in omega (arith, size)

  outs_at_most : (work : Work) → (called : Option Bool) → WorkNested work → Counted called work.left → AllCounted work.callers → Quiet work.left
      → FirstAtMost (many_waiting gives work.callers) (all_outs work)
  outs_at_most work called n g i q =
      first_at_most (many_waiting gives work.callers) (outs work) (starts work)
      (first_at_most (many_waiting gives work.callers) (works work.callers (past work.left)) (waiting work.callers)
      (works_at_most None work.callers (past work.left) (past_first called work.left n.left g q))
      (waiting_at_most work.callers (nest work.callers (record { left = tt; callers = n.callers })) i))
      (starts_at_most (many_waiting gives work.callers) (starts_in (outermost work.left work.callers)) (starts_none (outermost work.left work.callers)))

  alone_fork : (op : Operation) → stands_alone op ≡ true → is_fork op ≡ false
  alone_fork op e = by (is_fork op) (and_parts (not (is_fork op)) (not (is_of_call op)) e).0
    where
      by : (b : Bool) → not b ≡ true → b ≡ false
      by true i = untrue i
      by false i = refl

  alone_call : (op : Operation) → stands_alone op ≡ true → is_of_call op ≡ false
  alone_call op e = by (is_of_call op) (and_parts (not (is_fork op)) (not (is_of_call op)) e).1
    where
      by : (b : Bool) → not b ≡ true → b ≡ false
      by true i = untrue i
      by false i = refl

  chosen_call : (op : Operation) → is_chosen op ≡ true → is_of_call op ≡ false
  chosen_call (o.Enter n) e = untrue e
  chosen_call (o.Leave result framed) e = untrue e
  chosen_call o.Halt e = untrue e
  chosen_call op e = refl

  quit_call : (op : Operation) → is_quit op ≡ true → is_of_call op ≡ false
  quit_call (o.Enter n) e = untrue e
  quit_call (o.Leave result framed) e = untrue e
  quit_call o.Halt e = untrue e
  quit_call op e = refl

  -- what a processor has left stands as code before calls
  record StandsAt (here : Work) (code : Code ℕ) (others : List (Code ℕ)) : Type 0 where
    above_is : above None here.left ≡ above None code
    callers : here.callers ≡ others
    leave : (g : Bool) → all_leave g here.left ≡ true → all_leave g code ≡ true

  module _ (bodies : (binding : ℕ) → Code ℕ) (all_bodies : (function : ℕ) → Shape false false of_function (bodies function))
      (idle : (function : ℕ) → may_call function ≡ true → pending.Idle may_call gives (Some (gives function)) (bodies function)) where
    abbrev For : ℕ → Work → Type 0
    For n = CountedFor (next bodies) all_outs (fork_counts gives) n

    abbrev GoOn : Operation → (here : Work) → (rest : Bool → Work) → Type 0
    GoOn op here rest = h.GoOn gives (next bodies) op here rest

    abbrev at : Code ℕ → List (Code ℕ) → Work
    at code callers = record { left = code; callers = callers }

    no_more : (ws : List Work) (k : ℕ) → FirstAtMost k ws → (n : ℕ) → k ≤ n → NoMore (next bodies) all_outs (fork_counts gives) n ws
    no_more [] k g n le = tt
    no_more (w ∷ ws) k g n le = omega (arith, g, le)

    first_met : (n : ℕ) (w : Work) (vs ws us : List Work) → us ≡ w ∷ vs → pending_of gives w ≡ n → AsMany (next bodies) all_outs (fork_counts gives) n (us ++ ws)
    first_met n w vs ws us e is = subst (λ (xs : List Work). AsMany (next bodies) all_outs (fork_counts gives) n (xs ++ ws)) (sym e) is

    abbrev Met : (here : Work) → (rest : Bool → Work) → Operation → Type 0
    Met here rest op = h.Meets gives (next bodies) here rest op

    met_performed : (here : Work) (rest : Bool → Work) (op : Operation) → is_performed op ≡ true → Met here rest op
    met_performed here rest (o.Split by) is = untrue is
    met_performed here rest o.Farm is = untrue is
    met_performed here rest o.Begin is = untrue is
    met_performed here rest op is = tt

    met_quit : (here : Work) (rest : Bool → Work) (op : Operation) → is_quit op ≡ true → Met here rest op
    met_quit here rest (o.Split by) is = untrue is
    met_quit here rest o.Farm is = untrue is
    met_quit here rest o.Begin is = untrue is
    met_quit here rest op is = tt

    passes_to : (here : Work) (code : Code ℕ) (callers : List (Code ℕ)) → here.callers ≡ callers → ((g : Bool) → all_leave g here.left ≡ true → all_leave g code ≡ true)
        → Passes gives here (going code callers)
    passes_to here code callers same leave = record { callers = sym same; leave = λ g e. leave_settled g code (leave g e) }

    performs : (called : Option Bool) (here : Work) (op : Operation) (rest : Code ℕ) (callers : List (Code ℕ)) → stands_alone op ≡ true → is_performed op ≡ true → Counted called rest
        → Passes gives here (going rest callers) → (x : Option ℕ) → above None rest ≡ x → MayStand op x (leads rest) → above None here.left ≡ before_it op x
        → GoOn op here (λ onward. going rest callers)
    performs called here op rest callers g is c on None e may f =
        none_goes gives (next bodies) here (λ onward. going rest callers) (λ onward. on) f (λ onward. (counted_settled may_call gives called rest c).0 ∙ e) op (alone_fork op g) (alone_call op g)
        (met_performed here (λ onward. going rest callers) op is)
    performs called here op rest callers g is c on (Some m) e may f =
        some_goes gives (next bodies) here (λ onward. going rest callers) (λ onward. on) op m (λ onward. (counted_settled may_call gives called rest c).0 ∙ e) f (leads rest) may

    module _ (n : ℕ) (ih : (w : Work) → WorkCounted w → For n w) where
      goes_on : (called : Option Bool) (code : Code ℕ) (callers : List (Code ℕ)) → MayBe called callers → Counted called code → AllCounted callers → WorkNested (going code callers) → For n (going code callers)
      goes_on called code callers may c i nested =
          ih (going code callers) (record { called = called; may_be = may; left = (counted_settled may_call gives called code c).1; callers = i; nested = nested })

      -- the ways of a choice
      module _ (called : Option Bool) (here : Work) (t : ℕ) (op : Operation) (a b rest : Code ℕ) (callers : List (Code ℕ)) (may : MayBe called callers)
          (c : Counted called (choose t op a b rest)) (i : AllCounted callers)
          (nested : (onward : Bool) → WorkNested (going (append (if onward then a else b) rest) callers)) (s : StandsAt here (choose t op a b rest) callers) where
        abbrev code_on : (onward : Bool) → Code ℕ
        code_on onward = append (if onward then a else b) rest

        abbrev w : (onward : Bool) → Work
        w onward = going (code_on onward) callers

        counted_on : (onward : Bool) → Counted called (code_on onward)
        counted_on true = counted_append may_call gives called None a rest c.0.1 c.1
        counted_on false = counted_append may_call gives called None b rest c.0.2 c.1

        leave_on : (onward : Bool) (g : Bool) → all_leave g here.left ≡ true → all_leave g (code_on onward) ≡ true
        leave_on onward g e = by onward
          where
            by : (onward' : Bool) → all_leave g (code_on onward') ≡ true
            by true = let p = and_parts (all_leave g a) (all_leave g b && all_leave g rest) (s.leave g e) in leave_append g a rest p.0 (and_parts (all_leave g b) (all_leave g rest) p.1).1
            by false =
                let p = and_parts (all_leave g a) (all_leave g b && all_leave g rest) (s.leave g e) in
                let r = and_parts (all_leave g b) (all_leave g rest) p.1 in
                leave_append g b rest r.0 r.1

        on : (onward : Bool) → Passes gives here (w onward)
        on onward = passes_to here (code_on onward) callers s.callers (leave_on onward)

        above_on : (onward : Bool) → above None (w onward).left ≡ above (above None rest) (if onward then a else b)
        above_on onward = (counted_settled may_call gives called (code_on onward) (counted_on onward)).0 ∙ above_append may_call gives None (if onward then a else b) rest

        for_on : (onward : Bool) → For n (w onward)
        for_on onward = goes_on called (code_on onward) callers may (counted_on onward) i (nested onward)

        choice_goes : is_fork op ≡ false → is_chosen op ≡ true → (is_some (above None here.left) ≡ is_some (above None rest) → Met here w op) → GoOn op here w
        choice_goes f chosen met = by (above None rest) refl c.0.0
          where
            here_is : above None here.left ≡ before_way op true (above (above None rest) a)
            here_is = s.above_is ∙ ap (λ (f' : Bool). if f' then Some 2 else before_way op true (above (above None rest) a)) f

            by : (r : Option ℕ) → above None rest ≡ r → MayChoose op r (above r a) (above r b) → GoOn op here w
            by None is may' =
                let none_here : above None here.left ≡ None = here_is ∙ ap (before_way op true) (ap (λ (r : Option ℕ). above r a) is ∙ may'.0) in
                none_goes gives (next bodies) here w on none_here (ways_are_none is may') op f (chosen_call op chosen) (met (ap is_some none_here ∙ sym (ap is_some is)))
              where
                ways_are_none : above None rest ≡ None → MayChoose op None (above None a) (above None b) → (onward : Bool) → above None (w onward).left ≡ None
                ways_are_none e m true = above_on true ∙ ap (λ (r : Option ℕ). above r a) e ∙ m.0
                ways_are_none e m false = above_on false ∙ ap (λ (r : Option ℕ). above r b) e ∙ m.1
            by (Some m) is may' =
                ways_go gives (next bodies) here w on op (record {
                  some = ap (λ (y : Option ℕ). is_some (before_way op true y)) (above_on true ∙ ap (λ (r : Option ℕ). above r a) is) ∙ may'.0;
                  same_as = same_as;
                }) (met (ap is_some (here_is ∙ ap (λ (r : Option ℕ). before_way op true (above r a)) is) ∙ may'.0 ∙ sym (ap is_some is)))
              where
                same_as : (onward : Bool) → above None here.left ≡ before_way op onward (above None (w onward).left)
                same_as true = here_is ∙ ap (before_way op true) (sym (above_on true))
                same_as false =
                    here_is ∙ ap (λ (r : Option ℕ). before_way op true (above r a)) is ∙ sym may'.1
                    ∙ ap (before_way op false) (sym (above_on false ∙ ap (λ (r : Option ℕ). above r b) is))

      -- a `fork`
      fork_ways : (r x y : Option ℕ) → MayChoose (o.Split Fork) r x y → (x ≡ None) × (y ≡ None)
      fork_ways None x y may = may
      fork_ways (Some m) None y may = untrue may.0
      fork_ways (Some m) (Some k) y may = untrue may.0

      fork_on : (called : Option Bool) (here : Work) (t : ℕ) (a b rest : Code ℕ) (callers : List (Code ℕ)) (may : MayBe called callers) (c : Counted called (choose t (o.Split Fork) a b rest))
          (i : AllCounted callers) (nested : (onward : Bool) → WorkNested (going (append (if onward then a else b) rest) callers)) (s : StandsAt here (choose t (o.Split Fork) a b rest) callers)
          → (above (above None rest) a ≡ None) × (above (above None rest) b ≡ None) → (onward : Bool) → above None (w called here t (o.Split Fork) a b rest callers may c i nested s onward).left ≡ None
      fork_on called here t a b rest callers may c i nested s ways true = above_on called here t (o.Split Fork) a b rest callers may c i nested s true ∙ ways.0
      fork_on called here t a b rest callers may c i nested s ways false = above_on called here t (o.Split Fork) a b rest callers may c i nested s false ∙ ways.1

      begin_alone : (called : Option Bool) (callers : List (Code ℕ)) → MayBe called callers → MayBegin called o.Begin → many_waiting gives callers ≡ 0
      begin_alone None callers may begin = ap (many_waiting gives) may
      begin_alone (Some g) callers may begin = absurd (true≢false begin)

      quit_ways : (called : Option Bool) (rest : Code ℕ) → pending.Idle may_call gives called rest → (onward : Bool) → pending.Idle may_call gives called (if onward then rest else broken rest)
      quit_ways called rest c true = c
      quit_ways called rest c false = broken_idle may_call gives called rest c.1

      quit_leave : (g : Bool) (rest : Code ℕ) → all_leave g rest ≡ true → (onward : Bool) → all_leave g (if onward then rest else broken rest) ≡ true
      quit_leave g rest e true = e
      quit_leave g rest e false = leave_broken g rest e

      -- the end of a function
      ends_here : (called : Option Bool) (here : Work) (t : ℕ) (op : Operation) (rest : Code ℕ) (callers : List (Code ℕ)) → MayBe called callers → Counted called (ends t op rest)
          → AllCounted callers → is_of_call op ≡ true → StandsAt here (ends t op rest) callers → GoOn op here (λ onward. returned callers)
      ends_here called here t op rest [] may c i is s = ends_last gives (next bodies) op here (returned []) is s.above_is s.callers refl refl
      ends_here None here t op rest (code ∷ callers) may c i is s = absurd (cc)
      ends_here (Some g) here t op rest (code ∷ callers) may c i is s =
          ends_first gives (next bodies) op g here code callers (going code callers) c.0 s.above_is s.callers
          (λ g' e. (and_parts (leaves g' op) (all_leave g' rest) (s.leave g' e)).0) refl (counted_settled may_call gives i.0 code i.2).0 (λ g' e. leave_settled g' code e)

      stepped : (called : Option Bool) (here : Work) (code : Code ℕ) (callers : List (Code ℕ)) → MayBe called callers → Counted called code → AllCounted callers → WorkNested (at code callers)
          → StandsAt here code callers → (Quiet code → FirstAtMost (many_waiting gives callers) (all_outs here))
          → CountedNext (next bodies) all_outs (fork_counts gives) (For n) here (step bodies code callers)
      stepped called here done callers may c i nested s q = tt
      stepped called here (perform t op rest) callers may c i nested s q =
          let on = is_stepped bodies all_bodies (at (perform t op rest) callers) nested in (
            performs called here op rest callers c.0 nested.left.0 c.2 (passes_to here rest callers s.callers s.leave) (above None rest) refl c.1 s.above_is,
            (λ onward. goes_on called rest callers may c.2 i (on.nested true)),
          )
      stepped called here (choose t (o.Split Fork) a b rest) callers may c i nested s q =
          let on' = is_stepped bodies all_bodies (at (choose t (o.Split Fork) a b rest) callers) nested in
          let none_ways = fork_ways (above None rest) (above (above None rest) a) (above (above None rest) b) c.0.0 in
          let none_on : (onward : Bool) → above None (w called here t (o.Split Fork) a b rest callers may c i on'.nested s onward).left ≡ None
          = fork_on called here t a b rest callers may c i on'.nested s none_ways in
          let size : pending_of gives (w called here t (o.Split Fork) a b rest callers may c i on'.nested s true) ≡ many_waiting gives callers
          = ap (λ (x : Option ℕ). one_more x (many_waiting gives callers)) (none_on true) in (
            (
              takes_one gives (next bodies) here (w called here t (o.Split Fork) a b rest callers may c i on'.nested s) (on called here t (o.Split Fork) a b rest callers may c i on'.nested s) s.above_is none_on,
              no_more (all_outs here) (many_waiting gives callers) (q (inr refl)) (pending_of gives (w called here t (o.Split Fork) a b rest callers may c i on'.nested s true)) (omega (arith, size)),
            ),
            for_on called here t (o.Split Fork) a b rest callers may c i on'.nested s,
          )
      stepped called here (choose t (o.Split IfElse) a b rest) callers may c i nested s q =
          let on' = is_stepped bodies all_bodies (at (choose t (o.Split IfElse) a b rest) callers) nested in (
            choice_goes called here t (o.Split IfElse) a b rest callers may c i on'.nested s refl refl
                (λ same'.
                first_met (pending_of gives here) (going rest callers) (outs (going rest callers)) (starts (going (append a rest) callers)) (outs (going (append a rest) callers))
                (behind_part a rest callers none nested.left.2 nested.left.8
                (nested_append true false none a rest nested.left.2 nested.left.8 (no_exits rest) (λ e'. refl) (λ e'. nested.left.5 refl)))
                (same_pending gives here (going rest callers) (sym s.callers) (same' ∙ sym (ap is_some (counted_settled may_call gives called rest c.1).0)))),
            for_on called here t (o.Split IfElse) a b rest callers may c i on'.nested s,
          )
      stepped called here (choose t o.Farm a b rest) callers may c i nested s q =
          let on' = is_stepped bodies all_bodies (at (choose t o.Farm a b rest) callers) nested in
          let b_is : b ≡ done = nested.left.4 refl in (
            choice_goes called here t o.Farm a b rest callers may c i on'.nested s refl refl
                (λ same'.
                first_met (pending_of gives here) (going (append b rest) callers) (tail (outs (going (append a rest) callers))) (starts (going (append a rest) callers)) (outs (going (append a rest) callers))
                (on'.goes_on.1 ∙ ap (λ (vs : List Work). going (append b rest) callers ∷ vs) (sym (ap tail on'.goes_on.1)))
                (same_pending gives here (going (append b rest) callers) (sym s.callers)
                (same' ∙ sym (ap is_some (above_on called here t o.Farm a b rest callers may c i on'.nested s false ∙ ap (above (above None rest)) b_is))))),
            for_on called here t o.Farm a b rest callers may c i on'.nested s,
          )
      stepped called here (choose t (o.Split by) a b rest) callers may c i nested s q =
          let on' = is_stepped bodies all_bodies (at (choose t (o.Split by) a b rest) callers) nested in
          (choice_goes called here t (o.Split by) a b rest callers may c i on'.nested s refl refl (λ same. tt), for_on called here t (o.Split by) a b rest callers may c i on'.nested s)
      stepped called here (choose t o.Begin a b rest) callers may c i nested s q =
          let on' = is_stepped bodies all_bodies (at (choose t o.Begin a b rest) callers) nested in
          let none_here : above None here.left ≡ None = s.above_is ∙ begin_none (above (above None rest) a) in
          let size : many_waiting gives here.callers ≡ 0 = ap (many_waiting gives) s.callers ∙ begin_alone called callers may c.2 in (
            choice_goes called here t o.Begin a b rest callers may c i on'.nested s refl refl (λ same. ap (λ (x : Option ℕ). one_more x (many_waiting gives here.callers)) none_here ∙ size),
            for_on called here t o.Begin a b rest callers may c i on'.nested s,
          )
      stepped called here (choose t op a b rest) callers may c i nested s q =
          let on' = is_stepped bodies all_bodies (at (choose t op a b rest) callers) nested in
          (choice_goes called here t op a b rest callers may c i on'.nested s refl nested.left.0 (λ same. tt), for_on called here t op a b rest callers may c i on'.nested s)
      stepped called here (while test body after rest) callers may c i nested s q = tt
      stepped called here (until body test rest) callers may c i nested s q = tt
      stepped called here (turn test body after rest) callers may c i nested s q = tt
      stepped called here (again test body after rest) callers may c i nested s q = tt
      stepped called here (quit t op rest) callers may c i nested s q =
          let on' = is_stepped bodies all_bodies (at (quit t op rest) callers) nested in
          let w' : (onward : Bool) → Work = λ onward. going (if onward then rest else broken rest) callers in
          let way = quit_ways called rest c.1 in (
            none_goes gives (next bodies) here w' (λ onward. passes_to here (if onward then rest else broken rest) callers s.callers (λ g e. quit_leave g rest (s.leave g e) onward)) s.above_is
                (λ onward. (settled_idle may_call gives called (if onward then rest else broken rest) (way onward)).0) op c.0 (quit_call op nested.left.0) (met_quit here w' op nested.left.0),
            (λ onward. goes_on called (if onward then rest else broken rest) callers may (way onward).1 i (on'.nested onward)),
          )
      stepped called here (break rest) callers may c i nested s q = tt
      stepped called here (continue rest) callers may c i nested s q = tt
      stepped called here (call t op f opening rest) callers may c i nested s q =
          let on' = is_stepped bodies all_bodies (at (call t op f opening rest) callers) nested in
          let code = append opening (bodies f) in
          let entered = idle_append may_call gives (Some (gives f)) opening (bodies f) c.2 (idle f c.1) in
          let settles' = counted_settled may_call gives (Some (gives f)) code entered.1 in
          let w : Work = going code (rest ∷ callers) in (
            enters_call gives (next bodies) op f here rest callers w c.0 s.above_is s.callers s.leave c.3.0 refl (settles'.0 ∙ entered.0)
                (all_say may_call gives (gives f) None (settled code) settles'.1),
            (λ onward. goes_on (Some (gives f)) code (rest ∷ callers) tt entered.1 (called, may, c.3.1, i) (on'.nested true)),
          )
      stepped called here (ends t op rest) callers may c i nested s q =
          let on' = is_stepped bodies all_bodies (at (ends t op rest) callers) nested in (
            ends_here called here t op rest callers may c i nested.left.0 s,
            (λ onward. ih (returned callers) (returned_counted callers i (on'.nested true))),
          )

      next_for : (work : Work) → WorkCounted work → For (suc n) work
      next_for work wc = by work.left refl wc.left wc.nested.left
        where
          by : (code : Code ℕ) → work.left ≡ code → Counted wc.called code → Nested code → CountedNext (next bodies) all_outs (fork_counts gives) (For n) work (step_of bodies code work.callers)
          by (again test body after rest) e g k =
              let this : pending.Idle may_call gives wc.called (append test (append body (turn test body after rest)))
              = idle_append may_call gives wc.called test (append body (turn test body after rest)) g.0 (idle_append may_call gives wc.called body (turn test body after rest) g.1 (refl, g)) in
              stepped wc.called work (append test (append body (turn test body after rest))) work.callers wc.may_be this.1 wc.callers
              (record { left = whole_nested test body after rest k.0 k.1; callers = wc.nested.callers })
              (record {
                above_is = ap (above None) e ∙ sym this.0;
                callers = refl;
                leave = λ g' l. leave_whole g' test body after rest (subst (λ (c : Code ℕ). all_leave g' c ≡ true) e l);
              })
              (λ q. outs_at_most work wc.called wc.nested wc.left wc.callers (inl (ap (above None) e)))
          by code e g k =
              stepped wc.called work code work.callers wc.may_be g wc.callers (record { left = k; callers = wc.nested.callers })
              (record { above_is = ap (above None) e; callers = refl; leave = λ g' l. subst (λ (c : Code ℕ). all_leave g' c ≡ true) e l })
              (λ q. outs_at_most work wc.called wc.nested wc.left wc.callers (subst Quiet (sym e) q))

    counted_for : (n : ℕ) (work : Work) → WorkCounted work → For n work
    counted_for zero work wc = tt
    counted_for (suc n) work wc = next_for n (counted_for n) work wc

pub code_is_counted : CodeIsCounted
code_is_counted may_call gives bodies nested idle main first n =
    counted_for may_call gives bodies nested idle n (going (bodies main) []) (record {
      called = None;
      may_be = refl;
      left = (counted_settled may_call gives None (bodies main) first.1).1;
      callers = tt;
      nested = record { left = (settles (bodies main) (body_nested (bodies main) (nested main))).nested; callers = tt };
    })
