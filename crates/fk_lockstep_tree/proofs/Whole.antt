-- All that is left of a function, with the loops that are under way, leads from place to place to the function's end.
use Rattle.std.proofs.Common.{◌≡◌, ◌⊎◌, inl, inr, ⊎_elim, ℕ, Bool, true, false, Option, Some, None, sym, refl, subst}
use Rattle.std.proofs.lemmas.Bool.{or_cases}
use Rattle.fk_meaning_forms.specs.Code.{Code, done, perform, choose, while, until, turn, again, quit, break, continue, call, ends, append}
use Rattle.fk_meaning.specs.Left.{broken, continued, opened, settled}
use Rattle.fk_core.specs.CodeAt.{is_first, is_start}
use Rattle.fk_core_flat.specs.Shape.{is_done, is_closed, IsShaped}
use Rattle.fk_core_flat.proofs.CodeAt.{opening_is_shaped}
use Rattle.fk_lockstep_tree.specs.Where.{Where, InRoot, goes}
use Rattle.fk_lockstep_tree.specs.Leads.{is_in_group, Comes, Loop, turning, Quits, Leads}

-- code that is settled: an operation stands first, or a loop under way, or there is nothing
abbrev pub is_open : Code ℕ → Bool
is_open (again test body step rest) = true
is_open code = is_start code

open_before : (code more : Code ℕ) → is_start code ≡ true → is_open more ≡ true → is_open (append code more) ≡ true
open_before done more e f = f
open_before (perform n op rest) more e f = refl
open_before (choose n op x y rest) more e f = refl
open_before (while t b s rest) more e f = absurd (cc)
open_before (until b t rest) more e f = absurd (cc)
open_before (turn t b s rest) more e f = absurd (cc)
open_before (again t b s rest) more e f = absurd (cc)
open_before (quit n op rest) more e f = refl
open_before (break rest) more e f = absurd (cc)
open_before (continue rest) more e f = absurd (cc)
open_before (call n op f' opening rest) more e f = refl
open_before (ends n op rest) more e f = refl

module _ (may_call : (in_group : Bool) → (function : ℕ) → Bool) (has_body : (binding : ℕ) → Bool) where
  -- code of a text from one place to another
  pub record Part (f : Where) (l : Option Loop) (p : Where) (code : Code ℕ) (q : Where) : Type 0 where
    pub leads : Leads may_call f l p code q
    pub in_loop : Bool
    pub shaped : IsShaped has_body in_loop code

  -- a loop whose turns begin at one place, and which is left at another
  pub record IsLoop (f p left : Where) (test body step : Code ℕ) : Type 0 where
    pub begins : is_first test ≡ true
    pub starts : is_start step ≡ true
    pub test_leads : Part f (Some (turning p left)) p test p
    pub body_leads : Part f (Some (turning p left)) p body p
    pub step_leads : Part f (Some (turning p left)) p step p

  -- in a function, with this loop under way, from a place on
  abbrev pub Led : (function : Where) → (loop : Option Loop) → (place : Where) → Code ℕ → Type 0
  Led f l p done = (l ≡ None) × (p ≡ InRoot)
  Led f l p (perform t op rest) = (to : Where) × Comes p op to × Led f l to rest
  Led f l p (choose t op a b rest) =
      (first second one other : Where) × (goes p op true ≡ Some first) × (goes p op false ≡ Some second)
      × Part f l first a one × Part f l second b other × Led f l one rest × Led f l other rest
  Led f l p (while test body step rest) = (left : Where) × IsLoop f p left test body step × Led f l left rest
  Led f l p (until body test rest) = (left : Where) × IsLoop f p left test body done × Led f l left rest
  Led f l p (turn test body step rest) =
      (left : Where) × (l ≡ Some (turning p left)) × IsLoop f p left test body step × (is_open rest ≡ true) × (outer : Option Loop) × Led f outer left rest
  Led f l p (again test body step rest) =
      (left : Where) × (l ≡ Some (turning p left)) × IsLoop f p left test body step × (is_open rest ≡ true) × (outer : Option Loop) × Led f outer left rest
  Led f l p (quit t op rest) = (left : Where) × (l ≡ Some (turning p left)) × Quits p left op × Led f l p rest
  Led f l p (break rest) = (from : Where) × (l ≡ Some (turning from p)) × Led f l p rest
  Led f l p (continue rest) = (left : Where) × (l ≡ Some (turning p left)) × Led f l p rest
  Led f l p (call t op function opening rest) =
      Comes p op p × (may_call (is_in_group p) function ≡ true) × (has_body function ≡ true) × Part p None p opening p × Led f l p rest
  Led f l p (ends t op rest) = Comes p op p × (p ≡ f) × (((rest ≡ done) × (l ≡ None)) ⊎ Led f l p rest)

  part : (f : Where) (l : Option Loop) (p : Where) (code : Code ℕ) (q : Where) (b : Bool) → Leads may_call f l p code q → IsShaped has_body b code → Part f l p code q
  part f l p code q b h s = record { leads = h; in_loop = b; shaped = s }

  a_while : (f p left : Where) (test body step : Code ℕ) → is_first test ≡ true → is_start step ≡ true
      → Leads may_call f (Some (turning p left)) p test p → Leads may_call f (Some (turning p left)) p body p → Leads may_call f (Some (turning p left)) p step p
      → IsShaped has_body true test → IsShaped has_body true body → IsShaped has_body true step → IsLoop f p left test body step
  a_while f p left test body step e g a b c s t u = record {
    begins = e;
    starts = g;
    test_leads = part f (Some (turning p left)) p test p true a s;
    body_leads = part f (Some (turning p left)) p body p true b t;
    step_leads = part f (Some (turning p left)) p step p true c u;
  }

  -- code of a text before what is left behind it
  pub joined : (f : Where) (l : Option Loop) (p q : Where) (b : Bool) (code more : Code ℕ) → Leads may_call f l p code q → IsShaped has_body b code
      → Led f l q more → Led f l p (append code more)
  joined f l p q b done more h s m = subst (λ (w : Where). Led f l w more) (sym h) m
  joined f l p q b (perform t op rest) more h s m = (h.0, h.1, joined f l h.0 q b rest more h.2 s.1 m)
  joined f l p q b (choose t op x y rest) more h s m = (
    h.0,
    h.1,
    h.2,
    h.3,
    h.4,
    h.5,
    part f l h.0 x h.2 b h.6 s.1,
    part f l h.1 y h.3 b h.7 s.2,
    joined f l h.2 q b rest more h.8 s.3 m,
    joined f l h.3 q b rest more h.9 s.3 m,
  )
  joined f l p q b (while test body step rest) more h s m =
      (h.0, a_while f p h.0 test body step s.0 s.1 h.1 h.2 h.3 s.2 s.3 s.4, joined f l h.0 q b rest more h.4 s.5 m)
  joined f l p q b (until body test rest) more h s m =
      (h.0, a_while f p h.0 test body done s.0 refl h.2 h.1 refl s.2 s.1 tt, joined f l h.0 q b rest more h.3 s.3 m)
  joined f l p q b (turn test body step rest) more h s m = absurd h
  joined f l p q b (again test body step rest) more h s m = absurd h
  joined f l p q b (quit t op rest) more h s m = (h.0, h.1, h.2, joined f l p q b rest more h.3 s.2 m)
  joined f l p q b (break rest) more h s m = (h.0, h.1, joined f l p q b rest more h.2 s.1 m)
  joined f l p q b (continue rest) more h s m = (h.0, h.1, joined f l p q b rest more h.2 s.1 m)
  joined f l p q b (call t op function opening rest) more h s m =
      (h.0, h.1, s.1, part p None p opening p false h.2 (opening_is_shaped has_body opening s.2), joined f l p q b rest more h.3 s.3 m)
  joined f l p q b (ends t op rest) more h s m =
      (h.0, h.1, inr (joined f l p q b rest more h.2 s.1 m))

  pub nothing_left : (code : Code ℕ) → is_done code ≡ true → code ≡ done
  nothing_left done e = refl
  nothing_left code e = absurd (cc)

  -- code of a function that ends it is all that is left, as it begins
  pub whole : (f p q : Where) (b : Bool) (code : Code ℕ) → Leads may_call f None p code q → IsShaped has_body b code → is_closed code ≡ true → Led f None p code
  whole f p q b done h s c = absurd (cc)
  whole f p q b (perform t op rest) h s c = (h.0, h.1, whole f h.0 q b rest h.2 s.1 c)
  whole f p q b (choose t op x y rest) h s c = (
    h.0,
    h.1,
    h.2,
    h.3,
    h.4,
    h.5,
    part f None h.0 x h.2 b h.6 s.1,
    part f None h.1 y h.3 b h.7 s.2,
    whole f h.2 q b rest h.8 s.3 c,
    whole f h.3 q b rest h.9 s.3 c,
  )
  whole f p q b (while test body step rest) h s c =
      (h.0, a_while f p h.0 test body step s.0 s.1 h.1 h.2 h.3 s.2 s.3 s.4, whole f h.0 q b rest h.4 s.5 c)
  whole f p q b (until body test rest) h s c = (h.0, a_while f p h.0 test body done s.0 refl h.2 h.1 refl s.2 s.1 tt, whole f h.0 q b rest h.3 s.3 c)
  whole f p q b (turn test body step rest) h s c = absurd h
  whole f p q b (again test body step rest) h s c = absurd h
  whole f p q b (quit t op rest) h s c = (h.0, h.1, h.2, whole f p q b rest h.3 s.2 c)
  whole f p q b (break rest) h s c = (h.0, h.1, whole f p q b rest h.2 s.1 c)
  whole f p q b (continue rest) h s c = (h.0, h.1, whole f p q b rest h.2 s.1 c)
  whole f p q b (call t op function opening rest) h s c =
      (h.0, h.1, s.1, part p None p opening p false h.2 (opening_is_shaped has_body opening s.2), whole f p q b rest h.3 s.3 c)
  whole f p q b (ends t op rest) h s c =
      (h.0, h.1, ⊎_elim (λ e. inl (nothing_left rest e, refl)) (λ closed. inr (whole f p q b rest h.2 s.1 closed)) (or_cases (is_done rest) (is_closed rest) c))

  -- settled code, in some loop
  pub record Ready (f p : Where) (code : Code ℕ) : Type 0 where
    pub is_ready : is_open code ≡ true
    pub loop : Option Loop
    pub led : Led f loop p code

  ready : (f : Where) (l : Option Loop) (p : Where) (code : Code ℕ) → is_open code ≡ true → Led f l p code → Ready f p code
  ready f l p code e h = record { is_ready = e; loop = l; led = h }

  one_loop : (k m : Loop) (l : Option Loop) → l ≡ Some k → l ≡ Some m → k ≡ m
  one_loop k m l e g = cc

  outside : {A : Type 0} (l : Option Loop) (m : Loop) → l ≡ None → l ≡ Some m → A
  outside l m e g = absurd (cc)

  -- behind the loop that is under way
  pub breaks : (f : Where) (l : Option Loop) (p : Where) (m : Loop) (code : Code ℕ) → Led f l p code → l ≡ Some m → Ready f m.left (broken code)
  breaks f l p m done h e = outside l m h.0 e
  breaks f l p m (perform t op rest) h e = breaks f l h.0 m rest h.2 e
  breaks f l p m (choose t op x y rest) h e = breaks f l h.2 m rest h.8 e
  breaks f l p m (while test body step rest) h e = breaks f l h.0 m rest h.2 e
  breaks f l p m (until body test rest) h e = breaks f l h.0 m rest h.2 e
  breaks f l p m (turn test body step rest) h e =
      subst (λ (k : Loop). Ready f k.left rest) (one_loop (turning p h.0) m l h.1 e) (ready f h.4 h.0 rest h.3 h.5)
  breaks f l p m (again test body step rest) h e =
      subst (λ (k : Loop). Ready f k.left rest) (one_loop (turning p h.0) m l h.1 e) (ready f h.4 h.0 rest h.3 h.5)
  breaks f l p m (quit t op rest) h e = breaks f l p m rest h.3 e
  breaks f l p m (break rest) h e = breaks f l p m rest h.2 e
  breaks f l p m (continue rest) h e = breaks f l p m rest h.2 e
  breaks f l p m (call t op function opening rest) h e = breaks f l p m rest h.4 e
  breaks f l p m (ends t op rest) h e = ⊎_elim (λ ended. outside l m ended.1 e) (λ led. breaks f l p m rest led e) h.2

  -- at the end of the turn
  steps : (f : Where) (l : Option Loop) (p : Where) (test body step rest : Code ℕ) → Led f l p (turn test body step rest) → Ready f p (append step (again test body step rest))
  steps f l p test body step rest h =
      ready f (Some (turning p h.0)) p (append step (again test body step rest)) (open_before step (again test body step rest) h.2.starts refl)
      (joined f (Some (turning p h.0)) p p h.2.step_leads.in_loop step (again test body step rest) h.2.step_leads.leads h.2.step_leads.shaped (h.0, refl, h.2, h.3, h.4, h.5))

  continues : (f : Where) (l : Option Loop) (p : Where) (m : Loop) (code : Code ℕ) → Led f l p code → l ≡ Some m → Ready f m.turn (continued code)
  continues f l p m done h e = outside l m h.0 e
  continues f l p m (perform t op rest) h e = continues f l h.0 m rest h.2 e
  continues f l p m (choose t op x y rest) h e = continues f l h.2 m rest h.8 e
  continues f l p m (while test body step rest) h e = continues f l h.0 m rest h.2 e
  continues f l p m (until body test rest) h e = continues f l h.0 m rest h.2 e
  continues f l p m (turn test body step rest) h e =
      subst (λ (k : Loop). Ready f k.turn (append step (again test body step rest))) (one_loop (turning p h.0) m l h.1 e) (steps f l p test body step rest h)
  continues f l p m (again test body step rest) h e =
      subst (λ (k : Loop). Ready f k.turn (append step (again test body step rest))) (one_loop (turning p h.0) m l h.1 e) (steps f l p test body step rest h)
  continues f l p m (quit t op rest) h e = continues f l p m rest h.3 e
  continues f l p m (break rest) h e = continues f l p m rest h.2 e
  continues f l p m (continue rest) h e = continues f l p m rest h.2 e
  continues f l p m (call t op function opening rest) h e = continues f l p m rest h.4 e
  continues f l p m (ends t op rest) h e = ⊎_elim (λ ended. outside l m ended.1 e) (λ led. continues f l p m rest led e) h.2

  -- the end of a turn with a body before it
  opens : (f : Where) (l : Option Loop) (p q : Where) (b : Bool) (code test body step rest : Code ℕ) → Leads may_call f l p code q → IsShaped has_body b code
      → Led f l q (turn test body step rest) → Ready f p (opened code (turn test body step rest))
  opens f l p q b done test body step rest h s m =
      steps f l p test body step rest (subst (λ (w : Where). Led f l w (turn test body step rest)) (sym h) m)
  opens f l p q b (perform t op more) test body step rest h s m =
      ready f l p (perform t op (append more (turn test body step rest))) refl (joined f l p q b (perform t op more) (turn test body step rest) h s m)
  opens f l p q b (choose t op x y more) test body step rest h s m =
      ready f l p (choose t op x y (append more (turn test body step rest))) refl (joined f l p q b (choose t op x y more) (turn test body step rest) h s m)
  opens f l p q b (while test' body' step' more) test body step rest h s m =
      let r = opens f l h.0 q b more test body step rest h.4 s.5 m in
      ready f (Some (turning p h.0)) p (again test' body' step' (opened more (turn test body step rest))) refl
      (h.0, refl, a_while f p h.0 test' body' step' s.0 s.1 h.1 h.2 h.3 s.2 s.3 s.4, r.is_ready, r.loop, r.led)
  opens f l p q b (until body' test' more) test body step rest h s m =
      let r = opens f l h.0 q b more test body step rest h.3 s.3 m in
      opens f (Some (turning p h.0)) p p true body' test' body' done (opened more (turn test body step rest)) h.1 s.1
      (h.0, refl, a_while f p h.0 test' body' done s.0 refl h.2 h.1 refl s.2 s.1 tt, r.is_ready, r.loop, r.led)
  opens f l p q b (turn test' body' step' more) test body step rest h s m = absurd h
  opens f l p q b (again test' body' step' more) test body step rest h s m = absurd h
  opens f l p q b (quit t op more) test body step rest h s m =
      ready f l p (quit t op (append more (turn test body step rest))) refl (joined f l p q b (quit t op more) (turn test body step rest) h s m)
  opens f l p q b (break more) test body step rest h s m =
      breaks f l p (turning h.0 p) (append more (turn test body step rest)) (joined f l p q b more (turn test body step rest) h.2 s.1 m) h.1
  opens f l p q b (continue more) test body step rest h s m =
      continues f l p (turning p h.0) (append more (turn test body step rest)) (joined f l p q b more (turn test body step rest) h.2 s.1 m) h.1
  opens f l p q b (call t op function opening more) test body step rest h s m =
      ready f l p (call t op function opening (append more (turn test body step rest))) refl
      (joined f l p q b (call t op function opening more) (turn test body step rest) h s m)
  opens f l p q b (ends t op more) test body step rest h s m =
      ready f l p (ends t op (append more (turn test body step rest))) refl (joined f l p q b (ends t op more) (turn test body step rest) h s m)

  -- so it is once it is settled
  pub settles : (f : Where) (l : Option Loop) (p : Where) (code : Code ℕ) → Led f l p code → Ready f p (settled code)
  settles f l p done h = ready f l p done refl h
  settles f l p (perform t op rest) h = ready f l p (perform t op rest) refl h
  settles f l p (choose t op x y rest) h = ready f l p (choose t op x y rest) refl h
  settles f l p (while test body step rest) h =
      let r = settles f l h.0 rest h.2 in
      ready f (Some (turning p h.0)) p (again test body step (settled rest)) refl (h.0, refl, h.1, r.is_ready, r.loop, r.led)
  settles f l p (until body test rest) h =
      let r = settles f l h.0 rest h.2 in
      let b = h.1.body_leads in
      opens f (Some (turning p h.0)) p p b.in_loop body test body done (settled rest) b.leads b.shaped (h.0, refl, h.1, r.is_ready, r.loop, r.led)
  settles f l p (turn test body step rest) h = steps f l p test body step rest h
  settles f l p (again test body step rest) h = ready f l p (again test body step rest) refl h
  settles f l p (quit t op rest) h = ready f l p (quit t op rest) refl h
  settles f l p (break rest) h = breaks f l p (turning h.0 p) rest h.2 h.1
  settles f l p (continue rest) h = continues f l p (turning p h.0) rest h.2 h.1
  settles f l p (call t op function opening rest) h = ready f l p (call t op function opening rest) refl h
  settles f l p (ends t op rest) h = ready f l p (ends t op rest) refl h
