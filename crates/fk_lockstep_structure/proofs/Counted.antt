-- Code in which a `fork` stands only behind its number, and what is left of it.
use Rattle.std.proofs.Common.{◌≡◌, ℕ, zero, suc, Bool, true, false, Option, Some, None, ap, ◌∙◌, sym, refl, subst}
use Rattle.std.specs.Prelude.{◌||◌, ◌&&◌, not, if◌then◌else◌}
use Rattle.std.proofs.lemmas.Bool.{and_parts, and_from}
use Rattle.fk_meaning_operation.specs.declared.operation.Operation.{Operation}
use Rattle.fk_meaning_operation.specs.declared.operation.Operation.TheVariants as o
use Rattle.fk_meaning_forms.specs.Code.{Code, done, perform, choose, while, until, turn, again, quit, break, continue, call, ends, append}
use Rattle.fk_meaning.specs.Left.{broken, continued, settled_turn, opened, settled}
use Rattle.fk_meaning.specs.Shape.{ends_part}
use Rattle.fk_meaning.proofs.Spine.{untrue}
use Rattle.fk_lockstep_structure.specs.Pending as pending
use Rattle.fk_lockstep_structure.specs.Pending.{is_fork, leaves, before_it, before_way, before_call, leads, MayStand, MayChoose, MayCall, all_leave}

either_leads : (f l k : Bool) → (l ≡ true → k ≡ true) → (f || l) ≡ true → (f || k) ≡ true
either_leads true l k more e = refl
either_leads false l k more e = more e

pub leads_append : (a d : Code ℕ) → leads a ≡ true → leads (append a d) ≡ true
leads_append (perform t op rest) d e = let both = and_parts (not (ends_part op)) (leads rest) e in and_from _ _ both.0 (leads_append rest d both.1)
leads_append (choose t op a b rest) d e = either_leads (is_fork op) (leads rest) (leads (append rest d)) (leads_append rest d) e
leads_append done d e = untrue e
leads_append (while test body step' rest) d e = untrue e
leads_append (until body test rest) d e = untrue e
leads_append (turn test body step' rest) d e = untrue e
leads_append (again test body step' rest) d e = untrue e
leads_append (quit t op rest) d e = untrue e
leads_append (break rest) d e = untrue e
leads_append (continue rest) d e = untrue e
leads_append (call t op f opening rest) d e = leads_append rest d e
leads_append (ends t op rest) d e = untrue e

may_more : (op : Operation) (x : Option ℕ) (l k : Bool) → (l ≡ true → k ≡ true) → MayStand op x l → MayStand op x k
may_more op None l k more h = tt
may_more o.Agree (Some zero) l k more h = more h
may_more o.Agree (Some (suc m)) l k more h = h
may_more op (Some m) l k more h = h

module _ (may_call gives : (function : ℕ) → Bool) where
  abbrev above : Option ℕ → Code ℕ → Option ℕ
  above after code = pending.above gives after code

  -- code before other code, and loops under way
  pub above_append : (after : Option ℕ) (a d : Code ℕ) → above after (append a d) ≡ above (above after d) a
  above_append after done d = refl
  above_append after (perform t op rest) d = ap (before_it op) (above_append after rest d)
  above_append after (choose t op a b rest) d =
      ap (λ (r : Option ℕ). if is_fork op then Some 2 else before_way op true (above r a)) (above_append after rest d)
  above_append after (while test body step' rest) d = refl
  above_append after (until body test rest) d = refl
  above_append after (turn test body step' rest) d = refl
  above_append after (again test body step' rest) d = refl
  above_append after (quit t op rest) d = refl
  above_append after (break rest) d = refl
  above_append after (continue rest) d = refl
  above_append after (call t op f opening rest) d = ap (before_call (gives f) op) (above_append after rest d)
  above_append after (ends t op rest) d = refl

  may_before : (op : Operation) (after : Option ℕ) (rest d : Code ℕ) → MayStand op (above (above after d) rest) (leads rest) → MayStand op (above after (append rest d)) (leads (append rest d))
  may_before op after rest d h =
      subst (λ (x : Option ℕ). MayStand op x (leads (append rest d))) (sym (above_append after rest d)) (may_more op (above (above after d) rest) (leads rest) (leads (append rest d)) (leads_append rest d) h)

  -- of one function
  module _ (called : Option Bool) where
    abbrev Counted : Option ℕ → Code ℕ → Type 0
    Counted after code = pending.Counted may_call gives called after code

    abbrev Idle : Code ℕ → Type 0
    Idle code = pending.Idle may_call gives called code

    abbrev Way : Operation → (a b : Code ℕ) → Option ℕ → Type 0
    Way op a b r = MayChoose op r (above r a) (above r b) × Counted r a × Counted r b

    pub counted_append : (after : Option ℕ) (a d : Code ℕ) → Counted (above after d) a → Counted after d → Counted after (append a d)
    counted_append after done d h i = i
    counted_append after (perform t op rest) d h i = (h.0, may_before op after rest d h.1, counted_append after rest d h.2 i)
    counted_append after (choose t op a b rest) d h i = (subst (Way op a b) (sym (above_append after rest d)) h.0, counted_append after rest d h.1 i, h.2)
    counted_append after (while test body step' rest) d h i = (h.0, h.1, h.2, (above_append after rest d ∙ h.3.0, counted_append after rest d h.3.1 i))
    counted_append after (until body test rest) d h i = (h.0, h.1, (above_append after rest d ∙ h.2.0, counted_append after rest d h.2.1 i))
    counted_append after (turn test body step' rest) d h i = (h.0, h.1, h.2, (above_append after rest d ∙ h.3.0, counted_append after rest d h.3.1 i))
    counted_append after (again test body step' rest) d h i = (h.0, h.1, h.2, (above_append after rest d ∙ h.3.0, counted_append after rest d h.3.1 i))
    counted_append after (quit t op rest) d h i = (h.0, (above_append after rest d ∙ h.1.0, counted_append after rest d h.1.1 i))
    counted_append after (break rest) d h i = (above_append after rest d ∙ h.0, counted_append after rest d h.1 i)
    counted_append after (continue rest) d h i = (above_append after rest d ∙ h.0, counted_append after rest d h.1 i)
    counted_append after (call t op f opening rest) d h i =
        (h.0, h.1, h.2, (subst (MayCall (gives f) op) (sym (above_append after rest d)) h.3.0, counted_append after rest d h.3.1 i))
    counted_append after (ends t op rest) d h i = (h.0, (above_append after rest d ∙ h.1.0, counted_append after rest d h.1.1 i))

    pub append_counted : (a d : Code ℕ) → Counted None a → Idle d → Counted None (append a d)
    append_counted a d h i = counted_append None a d (subst (λ (r : Option ℕ). Counted r a) (sym i.0) h) i.1

    pub idle_append : (a d : Code ℕ) → Idle a → Idle d → Idle (append a d)
    idle_append a d h i = (above_append None a d ∙ ap (λ (r : Option ℕ). above r a) i.0 ∙ h.0, append_counted a d h.1 i)

    pub broken_idle : (code : Code ℕ) → Counted None code → Idle (broken code)
    broken_idle done h = (refl, tt)
    broken_idle (perform t op rest) h = broken_idle rest h.2
    broken_idle (choose t op a b rest) h = broken_idle rest h.1
    broken_idle (while test body after rest) h = broken_idle rest h.3.1
    broken_idle (until body test rest) h = broken_idle rest h.2.1
    broken_idle (turn test body after rest) h = h.3
    broken_idle (again test body after rest) h = h.3
    broken_idle (quit t op rest) h = broken_idle rest h.1.1
    broken_idle (break rest) h = broken_idle rest h.1
    broken_idle (continue rest) h = broken_idle rest h.1
    broken_idle (call t op f opening rest) h = broken_idle rest h.3.1
    broken_idle (ends t op rest) h = broken_idle rest h.1.1

    continued_idle : (code : Code ℕ) → Counted None code → Idle (continued code)
    continued_idle done h = (refl, tt)
    continued_idle (perform t op rest) h = continued_idle rest h.2
    continued_idle (choose t op a b rest) h = continued_idle rest h.1
    continued_idle (while test body after rest) h = continued_idle rest h.3.1
    continued_idle (until body test rest) h = continued_idle rest h.2.1
    continued_idle (turn test body after rest) h = idle_append after (again test body after rest) h.2 (refl, h)
    continued_idle (again test body after rest) h = idle_append after (again test body after rest) h.2 (refl, h)
    continued_idle (quit t op rest) h = continued_idle rest h.1.1
    continued_idle (break rest) h = continued_idle rest h.1
    continued_idle (continue rest) h = continued_idle rest h.1
    continued_idle (call t op f opening rest) h = continued_idle rest h.3.1
    continued_idle (ends t op rest) h = continued_idle rest h.1.1

    turn_idle : (code : Code ℕ) → Idle code → Idle (settled_turn code)
    turn_idle (turn test body after rest) h = idle_append after (again test body after rest) h.1.2 (refl, h.1)
    turn_idle code h = h

    opened_idle : (code more : Code ℕ) → Idle code → Idle more → Idle (opened code more)
    opened_idle done more h i = turn_idle more i
    opened_idle (perform t op rest) more h i = idle_append (perform t op rest) more h i
    opened_idle (choose t op a b rest) more h i = idle_append (choose t op a b rest) more h i
    opened_idle (while test body after rest) more h i = (refl, (h.1.0, h.1.1, h.1.2, opened_idle rest more h.1.3 i))
    opened_idle (until body test rest) more h i =
        opened_idle body (turn test body done (opened rest more)) h.1.0 (refl, (h.1.1, h.1.0, (refl, tt), opened_idle rest more h.1.2 i))
    opened_idle (turn test body after rest) more h i =
        idle_append after (again test body after (append rest more)) h.1.2 (refl, (h.1.0, h.1.1, h.1.2, idle_append rest more h.1.3 i))
    opened_idle (again test body after rest) more h i = idle_append (again test body after rest) more h i
    opened_idle (quit t op rest) more h i = idle_append (quit t op rest) more h i
    opened_idle (break rest) more h i = broken_idle (append rest more) (append_counted rest more h.1.1 i)
    opened_idle (continue rest) more h i = continued_idle (append rest more) (append_counted rest more h.1.1 i)
    opened_idle (call t op f opening rest) more h i = idle_append (call t op f opening rest) more h i
    opened_idle (ends t op rest) more h i = idle_append (ends t op rest) more h i

    pub counted_settled : (code : Code ℕ) → Counted None code → (above None (settled code) ≡ above None code) × Counted None (settled code)
    counted_settled (while test body after rest) h =
        let s = counted_settled rest h.3.1 in (refl, (h.0, h.1, h.2, (s.0 ∙ h.3.0, s.1)))
    counted_settled (until body test rest) h =
        let s = counted_settled rest h.2.1 in
        opened_idle body (turn test body done (settled rest)) h.0 (refl, (h.1, h.0, (refl, tt), (s.0 ∙ h.2.0, s.1)))
    counted_settled (turn test body after rest) h = idle_append after (again test body after rest) h.2 (refl, h)
    counted_settled (break rest) h = broken_idle rest h.1
    counted_settled (continue rest) h = continued_idle rest h.1
    counted_settled code h = (refl, h)

    pub settled_idle : (code : Code ℕ) → Idle code → Idle (settled code)
    settled_idle code h = let s = counted_settled code h.1 in (s.0 ∙ h.0, s.1)

  -- all ends of a function that is called leave with a result, or without one
  pub all_say : (g : Bool) (after : Option ℕ) (code : Code ℕ) → pending.Counted may_call gives (Some g) after code → all_leave g code ≡ true
  all_say g after done h = refl
  all_say g after (perform t op rest) h = all_say g after rest h.2
  all_say g after (choose t op a b rest) h =
      and_from (all_leave g a) (all_leave g b && all_leave g rest) (all_say g (above after rest) a h.0.1)
      (and_from (all_leave g b) (all_leave g rest) (all_say g (above after rest) b h.0.2) (all_say g after rest h.1))
  all_say g after (while test body after' rest) h =
      and_from (all_leave g test) (all_leave g body && (all_leave g after' && all_leave g rest)) (all_say g None test h.0.1)
      (and_from (all_leave g body) (all_leave g after' && all_leave g rest) (all_say g None body h.1.1)
      (and_from (all_leave g after') (all_leave g rest) (all_say g None after' h.2.1) (all_say g after rest h.3.1)))
  all_say g after (until body test rest) h =
      and_from (all_leave g body) (all_leave g test && all_leave g rest) (all_say g None body h.0.1)
      (and_from (all_leave g test) (all_leave g rest) (all_say g None test h.1.1) (all_say g after rest h.2.1))
  all_say g after (turn test body after' rest) h =
      and_from (all_leave g test) (all_leave g body && (all_leave g after' && all_leave g rest)) (all_say g None test h.0.1)
      (and_from (all_leave g body) (all_leave g after' && all_leave g rest) (all_say g None body h.1.1)
      (and_from (all_leave g after') (all_leave g rest) (all_say g None after' h.2.1) (all_say g after rest h.3.1)))
  all_say g after (again test body after' rest) h =
      and_from (all_leave g test) (all_leave g body && (all_leave g after' && all_leave g rest)) (all_say g None test h.0.1)
      (and_from (all_leave g body) (all_leave g after' && all_leave g rest) (all_say g None body h.1.1)
      (and_from (all_leave g after') (all_leave g rest) (all_say g None after' h.2.1) (all_say g after rest h.3.1)))
  all_say g after (quit t op rest) h = all_say g after rest h.1.1
  all_say g after (break rest) h = all_say g after rest h.1
  all_say g after (continue rest) h = all_say g after rest h.1
  all_say g after (call t op f opening rest) h = all_say g after rest h.3.1
  all_say g after (ends t op rest) h = and_from (leaves g op) (all_leave g rest) h.0 (all_say g after rest h.1.1)

-- so all ends of what is left
module _ (g : Bool) where
  abbrev Leave : Code ℕ → Type 0
  Leave code = all_leave g code ≡ true

  record InChoice (first second third : Code ℕ) : Type 0 where
    a : Leave first
    b : Leave second
    rest : Leave third

  choice_parts : (a b rest : Code ℕ) → (all_leave g a && (all_leave g b && all_leave g rest)) ≡ true → InChoice a b rest
  choice_parts a b rest h =
      let p = and_parts (all_leave g a) (all_leave g b && all_leave g rest) h in
      let q = and_parts (all_leave g b) (all_leave g rest) p.1 in
      record { a = p.0; b = q.0; rest = q.1 }

  choice_from : (a b rest : Code ℕ) → Leave a → Leave b → Leave rest → (all_leave g a && (all_leave g b && all_leave g rest)) ≡ true
  choice_from a b rest h i k = and_from (all_leave g a) (all_leave g b && all_leave g rest) h (and_from (all_leave g b) (all_leave g rest) i k)

  record InLoop (first second third fourth : Code ℕ) : Type 0 where
    test : Leave first
    body : Leave second
    after : Leave third
    rest : Leave fourth

  loop_parts : (test body after rest : Code ℕ) → Leave (while test body after rest) → InLoop test body after rest
  loop_parts test body after rest h =
      let p = and_parts (all_leave g test) (all_leave g body && (all_leave g after && all_leave g rest)) h in
      let c = choice_parts body after rest p.1 in
      record { test = p.0; body = c.a; after = c.b; rest = c.rest }

  loop_from : (test body after rest : Code ℕ) → Leave test → Leave body → Leave after → Leave rest → Leave (while test body after rest)
  loop_from test body after rest a b c d =
      and_from (all_leave g test) (all_leave g body && (all_leave g after && all_leave g rest)) a (choice_from body after rest b c d)

  pub leave_append : (a d : Code ℕ) → Leave a → Leave d → Leave (append a d)
  leave_append done d h i = i
  leave_append (perform t op rest) d h i = leave_append rest d h i
  leave_append (choose t op a b rest) d h i = let c = choice_parts a b rest h in choice_from a b (append rest d) c.a c.b (leave_append rest d c.rest i)
  leave_append (while test body after rest) d h i =
      let l = loop_parts test body after rest h in loop_from test body after (append rest d) l.test l.body l.after (leave_append rest d l.rest i)
  leave_append (until body test rest) d h i = let c = choice_parts body test rest h in choice_from body test (append rest d) c.a c.b (leave_append rest d c.rest i)
  leave_append (turn test body after rest) d h i =
      let l = loop_parts test body after rest h in loop_from test body after (append rest d) l.test l.body l.after (leave_append rest d l.rest i)
  leave_append (again test body after rest) d h i =
      let l = loop_parts test body after rest h in loop_from test body after (append rest d) l.test l.body l.after (leave_append rest d l.rest i)
  leave_append (quit t op rest) d h i = leave_append rest d h i
  leave_append (break rest) d h i = leave_append rest d h i
  leave_append (continue rest) d h i = leave_append rest d h i
  leave_append (call t op f opening rest) d h i = leave_append rest d h i
  leave_append (ends t op rest) d h i =
      let p = and_parts (leaves g op) (all_leave g rest) h in and_from (leaves g op) (all_leave g (append rest d)) p.0 (leave_append rest d p.1 i)

  pub leave_whole : (test body after rest : Code ℕ) → Leave (again test body after rest) → Leave (append test (append body (turn test body after rest)))
  leave_whole test body after rest h =
      let l = loop_parts test body after rest h in
      leave_append test (append body (turn test body after rest)) l.test (leave_append body (turn test body after rest) l.body h)

  leave_next : (test body after rest : Code ℕ) → Leave (again test body after rest) → Leave (append after (again test body after rest))
  leave_next test body after rest h = leave_append after (again test body after rest) (loop_parts test body after rest h).after h

  pub leave_broken : (code : Code ℕ) → Leave code → Leave (broken code)
  leave_broken done h = refl
  leave_broken (perform t op rest) h = leave_broken rest h
  leave_broken (choose t op a b rest) h = leave_broken rest (choice_parts a b rest h).rest
  leave_broken (while test body after rest) h = leave_broken rest (loop_parts test body after rest h).rest
  leave_broken (until body test rest) h = leave_broken rest (choice_parts body test rest h).rest
  leave_broken (turn test body after rest) h = (loop_parts test body after rest h).rest
  leave_broken (again test body after rest) h = (loop_parts test body after rest h).rest
  leave_broken (quit t op rest) h = leave_broken rest h
  leave_broken (break rest) h = leave_broken rest h
  leave_broken (continue rest) h = leave_broken rest h
  leave_broken (call t op f opening rest) h = leave_broken rest h
  leave_broken (ends t op rest) h = leave_broken rest (and_parts (leaves g op) (all_leave g rest) h).1

  leave_continued : (code : Code ℕ) → Leave code → Leave (continued code)
  leave_continued done h = refl
  leave_continued (perform t op rest) h = leave_continued rest h
  leave_continued (choose t op a b rest) h = leave_continued rest (choice_parts a b rest h).rest
  leave_continued (while test body after rest) h = leave_continued rest (loop_parts test body after rest h).rest
  leave_continued (until body test rest) h = leave_continued rest (choice_parts body test rest h).rest
  leave_continued (turn test body after rest) h = leave_next test body after rest h
  leave_continued (again test body after rest) h = leave_next test body after rest h
  leave_continued (quit t op rest) h = leave_continued rest h
  leave_continued (break rest) h = leave_continued rest h
  leave_continued (continue rest) h = leave_continued rest h
  leave_continued (call t op f opening rest) h = leave_continued rest h
  leave_continued (ends t op rest) h = leave_continued rest (and_parts (leaves g op) (all_leave g rest) h).1

  leave_turn : (code : Code ℕ) → Leave code → Leave (settled_turn code)
  leave_turn (turn test body after rest) h = leave_next test body after rest h
  leave_turn code h = h

  leave_opened : (code more : Code ℕ) → Leave code → Leave more → Leave (opened code more)
  leave_opened done more h i = leave_turn more i
  leave_opened (perform t op rest) more h i = leave_append (perform t op rest) more h i
  leave_opened (choose t op a b rest) more h i = leave_append (choose t op a b rest) more h i
  leave_opened (while test body after rest) more h i =
      let l = loop_parts test body after rest h in loop_from test body after (opened rest more) l.test l.body l.after (leave_opened rest more l.rest i)
  leave_opened (until body test rest) more h i =
      let c = choice_parts body test rest h in
      leave_opened body (turn test body done (opened rest more)) c.a (loop_from test body done (opened rest more) c.b c.a refl (leave_opened rest more c.rest i))
  leave_opened (turn test body after rest) more h i =
      let l = loop_parts test body after rest h in
      leave_next test body after (append rest more) (loop_from test body after (append rest more) l.test l.body l.after (leave_append rest more l.rest i))
  leave_opened (again test body after rest) more h i = leave_append (again test body after rest) more h i
  leave_opened (quit t op rest) more h i = leave_append (quit t op rest) more h i
  leave_opened (break rest) more h i = leave_broken (append rest more) (leave_append rest more h i)
  leave_opened (continue rest) more h i = leave_continued (append rest more) (leave_append rest more h i)
  leave_opened (call t op f opening rest) more h i = leave_append (call t op f opening rest) more h i
  leave_opened (ends t op rest) more h i = leave_append (ends t op rest) more h i

  pub leave_settled : (code : Code ℕ) → Leave code → Leave (settled code)
  leave_settled (while test body after rest) h =
      let l = loop_parts test body after rest h in loop_from test body after (settled rest) l.test l.body l.after (leave_settled rest l.rest)
  leave_settled (until body test rest) h =
      let c = choice_parts body test rest h in
      leave_opened body (turn test body done (settled rest)) c.a (loop_from test body done (settled rest) c.b c.a refl (leave_settled rest c.rest))
  leave_settled (turn test body after rest) h = leave_next test body after rest h
  leave_settled (break rest) h = leave_broken rest h
  leave_settled (continue rest) h = leave_continued rest h
  leave_settled code h = h
