-- One round: what the processors of a program do with a lock in it, and where they stand after it.
use Rattle.std.proofs.Common.{◌≡◌, ◌<◌, ℕ, zero, suc, Bool, true, false, List, Option, Some, None, inl, inr, arith, ap, ap₂, ◌∙◌, refl, sym, subst}
use Rattle.std.proofs.lemmas.Bool.{cases_eq}
use Rattle.fk_meaning_operation.specs.declared.operation.Operation.{Operation}
use Rattle.fk_meaning_operation.specs.declared.operation.Operation.TheVariants.{Enter, Combine, Read}
use Rattle.fk_meaning_operation.specs.declared.operation.Multiprefix.TheVariants.{MpAdd}
use Rattle.fk_meaning_operation.specs.declared.kinds.Class.{Class}
use Rattle.fk_meaning_operation.specs.declared.kinds.Class.TheVariants.{Local, Request, Tree}
use Rattle.fk_meaning_operation.specs.Kinds.{class_of}
use Rattle.fk_meaning_store.specs.Store.{address_of, shared_words}
use Rattle.fk_meaning_forms.specs.Code.{Code}
use Rattle.fk_meaning.specs.Processor.{Processor, Setting, values, last}
use Rattle.fk_meaning.specs.Request.{entered, with_answer}
use Rattle.fk_meaning.specs.Round.{Step, Runner, Acting, after_locals, do_local, local_phase, taking}
use Rattle.fk_meaning.specs.Touch.{operation_due, touch, touch_of}
use Rattle.fk_meaning.specs.Next.{Work, going, next}
use Rattle.fk_tickets.specs.Lock.{Act, Draw, Look, Give, MayDo, Stage, Outside, Waiting, looked}
use Rattle.fk_locks_calls.specs.Code.{code_of_take, code_of_give}
use Rattle.fk_locks_calls.proofs.Outer.{AllOuter, CallsOf, HasBodies, Leads, On, Outer, OuterWork, Takes, Gives, Stepped, is_stepped}
use Rattle.fk_locks_calls.proofs.Points.{Point, TakeChecks, TakeChecksShared, Draws, LookChecks, Looks, GiveChecks, GiveChecksShared, Adds, Idle, Free, Holds, InCall, IsOn, This, Other, Stands, Away, Within, Turn, asks_stands, code_at, is_take, left_after, next_at, now, operation_at, requests, step_at, will_step, will_steps}
use Rattle.fk_locks_calls.proofs.Moves.{Goes, drawn, given, give_begins, give_checked, give_checked_shared, look_checked, looked_on, other_answered, other_give_begins, other_take_begins, take_begins, take_checked, take_checked_shared}
use Rattle.fk_locks_calls.proofs.Became.{Becomes, Same, Done, Does, Answered, Steps, NotLocal, acted}
use Rattle.fk_locks_calls.proofs.Touching.{Accesses, Alone, Kind, Nothing, Drawing, Looking, Giving, kind_act, multi_here, multi_other, read_here, read_other, untouched}

-- a call of one of the two functions with the address of word x
pub record CallsTo (x : ℕ) (body : Code ℕ) (a : Acting Work) : Type 0 where
  pub step : Step Work
  pub due : a.due ≡ Some step
  pub enters : step.operation ≡ Enter 1
  pub given_it : last (values a.runner.has) ≡ address_of x
  pub goes_there : (step.rest true).left ≡ body

-- What the calls that have begun before and after a round are, for a processor that asks for this.
pub record Turns (x : ℕ) (Taken Given Taken' Given' : Type 0) (a : Acting Work) : Type 0 where
  pub both : Taken → Given → ⊥
  pub quiet : (CallsTo x code_of_take a → ⊥) → (CallsTo x code_of_give a → ⊥) → (Taken → Taken') × (Given → Given')
  pub takes : CallsTo x code_of_take a → Given × Taken'
  pub gives : CallsTo x code_of_give a → Taken × Given'

module _ (take give : ℕ) (bodies : ℕ → Code ℕ) (has : HasBodies take give bodies) (set : Setting) (x : ℕ) (room : suc x < shared_words) where
  abbrev pub Runs : (Taken Given : Type 0) → Stage → Runner Work → Type 0
  Runs Taken Given stage r = Goes take give bodies has set x room Taken Given stage r

  abbrev pub Stood : (Taken Given : Type 0) → Stage → Runner Work → Type 0
  Stood Taken Given stage r = Stands take give bodies has set x Taken Given stage r

  -- ---- what a processor asks for after its local operations

  pub data Asks (Taken Given : Type 0) (stage : Stage) (a : Acting Work) : Type 0 where
    Rests : a.due ≡ None → Runs Taken Given stage a.runner → Asks Taken Given stage a
    Due : (s : Step Work) → a.due ≡ Some s → next bodies a.runner.left ≡ Some s → (class_of s.operation ≡ Local → ⊥) → Stood Taken Given stage a.runner → Asks Taken Given stage a

  module _ {Taken Given : Type 0} {stage : Stage} where
    asks_by : (q : Runner Work) (o : Option (Step Work)) → next bodies q.left ≡ o → Runs Taken Given stage q → Asks Taken Given stage (local_phase (next bodies) set (taking q (next bodies q.left)) o)
    asks_by q None e w = Rests e w
    asks_by q (Some s) e w = by (class_of s.operation) refl
      where
        b : Acting Work
        b = taking q (next bodies q.left)

        moved : (c : Class) → class_of s.operation ≡ c → Runs Taken Given stage (do_local (next bodies) set b c s).runner
        moved c f =
            subst (λ k. Runs Taken Given stage (do_local (next bodies) set b k s).runner) f
            (subst (λ k. Runs Taken Given stage (local_phase (next bodies) set b k).runner) e (will_step take give bodies has set x q w))

        by : (c : Class) → class_of s.operation ≡ c → Asks Taken Given stage (do_local (next bodies) set b c s)
        by Local f = Rests refl (moved Local f)
        by Request f = Due s e e (λ g. let bad : Request ≡ Local = sym f ∙ g in absurd (cc)) (asks_stands take give bodies has set x q s e (λ g. let bad : Request ≡ Local = sym f ∙ g in absurd (cc)) w)
        by Tree f = Due s e e (λ g. let bad : Tree ≡ Local = sym f ∙ g in absurd (cc)) (asks_stands take give bodies has set x q s e (λ g. let bad : Tree ≡ Local = sym f ∙ g in absurd (cc)) w)

    pub asks : (c : ℕ) (r : Runner Work) → Runs Taken Given stage r → Asks Taken Given stage (acted (next bodies) set c r)
    asks zero r w = Rests refl w
    asks (suc c) r w =
        let q = after_locals (next bodies) set c r in
        asks_by q (next bodies q.left) refl (will_steps take give bodies has set x c r w)

    pub asks_no_local : (a : Acting Work) → Asks Taken Given stage a → NotLocal a.due
    asks_no_local a (Rests e w) = subst NotLocal (sym e) tt
    asks_no_local a (Due s e f differs st) = subst NotLocal (sym e) differs

  -- ---- how it accesses the words

  same_some : {A : Type 0} (s u : A) → Some s ≡ Some u → s ≡ u
  same_some s u e = cc

  -- in the stage in which it is before the round
  pub record Acts (stage : Stage) (a : Acting Work) : Type 0 where
    pub kind : Kind
    pub accesses : Accesses x kind a
    pub may : (act : Act) → kind_act kind ≡ Some act → MayDo act stage

  nothing : {stage : Stage} (a : Acting Work) → Accesses x Nothing a → Acts stage a
  nothing a h = record { kind = Nothing; accesses = h; may = λ act e. let bad : None ≡ Some act = e in absurd (cc) }

  no_act : {A : Type 0} (act : Act) → None ≡ Some act → A
  no_act act e = absurd (cc)

  abbrev kind_at : Point → Kind
  kind_at Draws = Drawing
  kind_at Looks = Looking
  kind_at Adds = Giving
  kind_at q = Nothing

  -- a step whose operation is known
  by_operation : (y : ℕ) (a : Acting Work) (o : Option Operation) → operation_due a.due ≡ o → touch y a ≡ touch_of y a.runner.has o
  by_operation y a o e = ap (touch_of y a.runner.has) e

  apart : (y : ℕ) → suc y ≡ y → ⊥
  apart y e = omega (arith, e)

  apart' : (y : ℕ) → y ≡ suc y → ⊥
  apart' y e = omega (arith, e)

  -- the step of one that is away has a later site, and one in a call does what is next there
  site_away : (a : Acting Work) (s : Step Work) → next bodies a.runner.left ≡ Some s → OuterWork take give a.runner.left → Stepped take give (Some s)
  site_away a s e h = subst (Stepped take give) e (is_stepped take give bodies has a.runner.left h)

  step_is : (a : Acting Work) (s : Step Work) (q : Point) (cs : List (Code ℕ)) → next bodies a.runner.left ≡ Some s → a.runner.left ≡ record { left = code_at q; callers = cs } → s ≡ step_at q cs
  step_is a s q cs e left = same_some s (step_at q cs) (sym e ∙ next_at take give bodies has set x q cs a.runner left)

  module _ {Taken Given : Type 0} {stage : Stage} where
    on_accesses : (a : Acting Work) (q : Point) → operation_due a.due ≡ Some (operation_at q) → IsOn Taken Given x stage q a.runner.has → Accesses x (kind_at q) a
    on_accesses a TakeChecks e on = record { next = by_operation x a (Some (operation_at TakeChecks)) e; now = by_operation (suc x) a (Some (operation_at TakeChecks)) e }
    on_accesses a TakeChecksShared e on = record { next = by_operation x a (Some (operation_at TakeChecksShared)) e; now = by_operation (suc x) a (Some (operation_at TakeChecksShared)) e }
    on_accesses a Draws e on = record {
      next = by_operation x a (Some (Combine MpAdd)) e ∙ multi_here x a.runner.has (omega (arith, room)) on.has;
      now = by_operation (suc x) a (Some (Combine MpAdd)) e ∙ multi_other (suc x) x a.runner.has (apart x) on.has;
    }
    on_accesses a LookChecks e on = record { next = by_operation x a (Some (operation_at LookChecks)) e; now = by_operation (suc x) a (Some (operation_at LookChecks)) e }
    on_accesses a Looks e on = record {
      next = by_operation x a (Some Read) e ∙ read_other x (suc x) a.runner.has (apart' x) on.has;
      now = by_operation (suc x) a (Some Read) e ∙ read_here (suc x) a.runner.has room on.has;
    }
    on_accesses a GiveChecks e on = record { next = by_operation x a (Some (operation_at GiveChecks)) e; now = by_operation (suc x) a (Some (operation_at GiveChecks)) e }
    on_accesses a GiveChecksShared e on = record { next = by_operation x a (Some (operation_at GiveChecksShared)) e; now = by_operation (suc x) a (Some (operation_at GiveChecksShared)) e }
    on_accesses a Adds e on = record {
      next = by_operation x a (Some (Combine MpAdd)) e ∙ multi_other x (suc x) a.runner.has (apart' x) on.has;
      now = by_operation (suc x) a (Some (Combine MpAdd)) e ∙ multi_here (suc x) a.runner.has room on.has;
    }

    -- it may do it in its stage
    on_may : (q : Point) (p : Processor) → IsOn Taken Given x stage q p → (act : Act) → kind_act (kind_at q) ≡ Some act → MayDo act stage
    on_may Draws p on act is = subst (λ k. MayDo k stage) (same_some Draw act is) (subst (MayDo Draw) (sym on.stage_is) tt)
    on_may Looks p on act is = subst (λ k. MayDo k stage) (same_some Look act is) (subst (MayDo Look) (sym on.stage_is) tt)
    on_may Adds p on act is = subst (λ k. MayDo k stage) (same_some Give act is) (subst (MayDo Give) (sym on.stage_is) tt)
    on_may TakeChecks p on act is = no_act act is
    on_may TakeChecksShared p on act is = no_act act is
    on_may LookChecks p on act is = no_act act is
    on_may GiveChecks p on act is = no_act act is
    on_may GiveChecksShared p on act is = no_act act is

    pub acts : (a : Acting Work) → Alone x a → Asks Taken Given stage a → Acts stage a
    acts a alone (Rests e w) = nothing a (untouched x a alone (λ s f lt called. let bad : None ≡ Some s = sym e ∙ f in absurd (cc)))
    acts a alone (Due s e f differs (Away h idle)) =
        let high = (site_away a s f h).0 in
        nothing a (untouched x a alone (λ u g lt called.
        let same : s.site ≡ u.site = ap (λ (k : Step Work). k.site) (same_some s u (sym e ∙ g)) in
        omega (arith, high, same, lt)))
    acts a alone (Due s e f differs (Within q cs outer left (Other other idle))) = nothing a (untouched x a alone (λ u g lt called. other called))
    acts a alone (Due s e f differs (Within q cs outer left (This on))) =
        let op = ap operation_due e ∙ ap (λ (k : Step Work). Some k.operation) (step_is a s q cs f left) in
        record { kind = kind_at q; accesses = on_accesses a q op on; may = on_may q a.runner.has on }

  -- ---- what becomes of it

  module _ {Taken Given Taken' Given' : Type 0} where
    later_idle : {stage : Stage} → (Taken → Taken') → (Given → Given') → Idle Taken Given stage → Idle Taken' Given' stage
    later_idle t g (Free given' is) = Free (g given') is
    later_idle t g (Holds taken is) = Holds (t taken) is

    later_turn : (b : Bool) → (Taken → Taken') → (Given → Given') → Turn Taken Given b → Turn Taken' Given' b
    later_turn true t g h = t h
    later_turn false t g h = g h

    later_on : {stage : Stage} (q : Point) (p : Processor) → (Taken → Taken') → (Given → Given') → IsOn Taken Given x stage q p → IsOn Taken' Given' x stage q p
    later_on q p t g on = record { called = on.called; has = on.has; stage_is = on.stage_is; turn_is = later_turn (is_take q) t g on.turn_is }

    later_call : {stage : Stage} (q : Point) (p : Processor) → (Taken → Taken') → (Given → Given') → InCall Taken Given x stage q p → InCall Taken' Given' x stage q p
    later_call q p t g (This on) = This (later_on q p t g on)
    later_call q p t g (Other other idle) = Other other (later_idle t g idle)

    later_stands : {stage : Stage} (r : Runner Work) → (Taken → Taken') → (Given → Given') → Stood Taken Given stage r → Stood Taken' Given' stage r
    later_stands r t g (Away h idle) = Away h (later_idle t g idle)
    later_stands r t g (Within q cs outer left call) = Within q cs outer left (later_call q r.has t g call)

    later : {stage : Stage} (r : Runner Work) → (Taken → Taken') → (Given → Given') → Runs Taken Given stage r → Runs Taken' Given' stage r
    later r t g w = record { count = w.count; stands = later_stands (after_locals (next bodies) set w.count r) t g w.stands }

  -- The stage after the round of a processor that accesses the words so, and is answered v.
  abbrev pub IsStage : Kind → (stage stage' : Stage) → (v : ℕ) → Type 0
  IsStage Nothing stage stage' v = stage' ≡ stage
  IsStage Drawing stage stage' v = stage' ≡ Waiting v
  IsStage Looking stage stage' v = stage' ≡ looked v stage
  IsStage Giving stage stage' v = stage' ≡ Outside

  abbrev pub NextStage : Acting Work → (stage stage' : Stage) → Runner Work → Type 0
  NextStage a stage stage' r = (kind : Kind) → Accesses x kind a → IsStage kind stage stage' (last (values r.has))

  no_enter : (q : Point) → operation_at q ≡ Enter 1 → ⊥
  no_enter TakeChecks e = cc
  no_enter TakeChecksShared e = cc
  no_enter Draws e = cc
  no_enter LookChecks e = cc
  no_enter Looks e = cc
  no_enter GiveChecks e = cc
  no_enter GiveChecksShared e = cc
  no_enter Adds e = cc

  -- who calls one of the two functions has this step
  no_call : (body : Code ℕ) (a : Acting Work) → a.due ≡ None → CallsTo x body a → ⊥
  no_call body a e c = let bad : None ≡ Some c.step = sym e ∙ c.due in absurd (cc)

  other_call : (body : Code ℕ) (a : Acting Work) (s : Step Work) → a.due ≡ Some s → (s.operation ≡ Enter 1 → (s.rest true).left ≡ body → ⊥) → CallsTo x body a → ⊥
  other_call body a s e other c =
      let same = same_some c.step s (sym c.due ∙ e) in
      other (sym (ap (λ (k : Step Work). k.operation) same) ∙ c.enters) (sym (ap (λ (k : Step Work). (k.rest true).left) same) ∙ c.goes_there)

  not_outer : Outer take give code_of_take → ⊥
  not_outer h = let bad = h.0 in omega (arith, bad)

  not_outer' : Outer take give code_of_give → ⊥
  not_outer' h = let bad = h.0 in omega (arith, bad)

  module _ (Taken Given Taken' Given' : Type 0) (stage stage' : Stage) (a : Acting Work) (turns : Turns x Taken Given Taken' Given' a) (alone : Alone x a) where
    abbrev p : Processor
    p = a.runner.has

    -- it calls nothing of the lock
    abbrev Quiet : Type 0
    Quiet = (Taken → Taken') × (Given → Given')

    quiet_by : (s : Step Work) → a.due ≡ Some s → (s.operation ≡ Enter 1 → (s.rest true).left ≡ code_of_take → ⊥) → (s.operation ≡ Enter 1 → (s.rest true).left ≡ code_of_give → ⊥) → Quiet
    quiet_by s e t g = turns.quiet (other_call code_of_take a s e t) (other_call code_of_give a s e g)

    elsewhere : (last (values p) ≡ address_of x → ⊥) → Quiet
    elsewhere not = turns.quiet (λ c. not c.given_it) (λ c. not c.given_it)

    abbrev Ends : Runner Work → Type 0
    Ends r = Runs Taken' Given' stage' r

    as_before : {r : Runner Work} → stage' ≡ stage → Runs Taken' Given' stage r → Ends r
    as_before {r = r} same w = subst (λ k. Runs Taken' Given' k r) (sym same) w

    -- the calls
    takes_it : (s : Step Work) → a.due ≡ Some s → (t : CallsOf take give code_of_take s) → Idle Taken Given stage → Runs Taken' Given' stage (record { left = record { left = code_of_take; callers = t.callers }; has = entered 1 p })
    takes_it s e t idle =
        elim (cases_eq (last (values p)) (address_of x)) [
          | inl is ↦ by is idle (turns.takes (record { step = s; due = e; enters = t.enters; given_it = is; goes_there = ap (λ (w : Work). w.left) (t.goes_there true) }))
          | inr not ↦
              let quiet = elsewhere not in
              other_take_begins take give bodies has set x room t.callers p t.outer not (later_idle quiet.0 quiet.1 idle)
        ]
      where
        by : last (values p) ≡ address_of x → Idle Taken Given stage → Given × Taken' → Runs Taken' Given' stage (record { left = record { left = code_of_take; callers = t.callers }; has = entered 1 p })
        by is (Free given' outside) turn = take_begins take give bodies has set x room t.callers p t.outer is outside turn.1
        by is (Holds taken inside) turn = absurd (turns.both taken turn.0)

    gives_it : (s : Step Work) → a.due ≡ Some s → (t : CallsOf take give code_of_give s) → Idle Taken Given stage → Runs Taken' Given' stage (record { left = record { left = code_of_give; callers = t.callers }; has = entered 1 p })
    gives_it s e t idle =
        elim (cases_eq (last (values p)) (address_of x)) [
          | inl is ↦ by is idle (turns.gives (record { step = s; due = e; enters = t.enters; given_it = is; goes_there = ap (λ (w : Work). w.left) (t.goes_there true) }))
          | inr not ↦
              let quiet = elsewhere not in
              other_give_begins take give bodies has set x room t.callers p t.outer not (later_idle quiet.0 quiet.1 idle)
        ]
      where
        by : last (values p) ≡ address_of x → Idle Taken Given stage → Taken × Given' → Runs Taken' Given' stage (record { left = record { left = code_of_give; callers = t.callers }; has = entered 1 p })
        by is (Free given' outside) turn = absurd (turns.both turn.0 given')
        by is (Holds taken inside) turn = give_begins take give bodies has set x room t.callers p t.outer is inside turn.1

    abbrev at : Work → Processor → Runner Work
    at w own = record { left = w; has = own }

    entered_is : (s : Step Work) (v : ℕ) (w : Work) → s.operation ≡ Enter 1 → s.rest true ≡ w → at (s.rest true) (with_answer s.operation v p) ≡ at w (entered 1 p)
    entered_is s v w op goes = ap₂ (λ (l : Work) (o : Operation). at l (with_answer o v p)) goes op

    -- outside of the two functions
    away_becomes : (s : Step Work) (r : Runner Work) → a.due ≡ Some s → Leads take give s → Idle Taken Given stage → stage' ≡ stage → Does s p r → Ends r
    away_becomes s r e (On o) idle same (Answered v c is) =
        let quiet = quiet_by s e (λ op goes. not_outer (subst (Outer take give) goes (o true).0)) (λ op goes. not_outer' (subst (Outer take give) goes (o true).0)) in
        as_before same (subst (Runs Taken' Given' stage) (sym is) (now take give bodies has set x (Away (o true) (later_idle quiet.0 quiet.1 idle))))
    away_becomes s r e (On o) idle same (Steps onward c left number) =
        let quiet = quiet_by s e (λ op goes. not_outer (subst (Outer take give) goes (o true).0)) (λ op goes. not_outer' (subst (Outer take give) goes (o true).0)) in
        as_before same (now take give bodies has set x (Away (subst (OuterWork take give) (sym left) (o onward)) (later_idle quiet.0 quiet.1 idle)))
    away_becomes s r e (Takes t) idle same (Answered v c is) =
        as_before same (subst (Runs Taken' Given' stage) (sym (is ∙ entered_is s v (record { left = code_of_take; callers = t.callers }) t.enters (t.goes_there true))) (takes_it s e t idle))
    away_becomes s r e (Takes t) idle same (Steps onward c left number) = let bad = ap class_of t.enters in absurd (cc)
    away_becomes s r e (Gives t) idle same (Answered v c is) =
        as_before same (subst (Runs Taken' Given' stage) (sym (is ∙ entered_is s v (record { left = code_of_give; callers = t.callers }) t.enters (t.goes_there true))) (gives_it s e t idle))
    away_becomes s r e (Gives t) idle same (Steps onward c left number) = let bad = ap class_of t.enters in absurd (cc)

    -- in a call
    module _ (cs : List (Code ℕ)) (outer : AllOuter take give cs) (v : ℕ) (quiet : Quiet) where
      abbrev r_at : Point → Runner Work
      r_at q = record { left = going (left_after q) cs; has = with_answer (operation_at q) v p }

      on_becomes : (q : Point) → operation_due a.due ≡ Some (operation_at q) → IsOn Taken Given x stage q p → NextStage a stage stage' (r_at q) → Ends (r_at q)
      on_becomes TakeChecks e on ends =
          as_before (ends Nothing (on_accesses a TakeChecks e on)) (take_checked take give bodies has set x room Taken' Given' stage cs outer p v (later_on TakeChecks p quiet.0 quiet.1 on))
      on_becomes TakeChecksShared e on ends =
          as_before (ends Nothing (on_accesses a TakeChecksShared e on)) (take_checked_shared take give bodies has set x room Taken' Given' stage cs outer p v (later_on TakeChecksShared p quiet.0 quiet.1 on))
      on_becomes Draws e on ends =
          drawn take give bodies has set x room Taken' Given' stage' cs outer p v on.called on.has (ends Drawing (on_accesses a Draws e on)) (quiet.0 on.turn_is)
      on_becomes LookChecks e on ends =
          as_before (ends Nothing (on_accesses a LookChecks e on)) (look_checked take give bodies has set x room Taken' Given' stage cs outer p v (later_on LookChecks p quiet.0 quiet.1 on))
      on_becomes Looks e on ends =
          subst (λ k. Runs Taken' Given' k (r_at Looks)) (sym (ends Looking (on_accesses a Looks e on)))
          (looked_on take give bodies has set x room stage cs outer p v (later_on Looks p quiet.0 quiet.1 on))
      on_becomes GiveChecks e on ends =
          as_before (ends Nothing (on_accesses a GiveChecks e on)) (give_checked take give bodies has set x room Taken' Given' stage cs outer p v (later_on GiveChecks p quiet.0 quiet.1 on))
      on_becomes GiveChecksShared e on ends =
          as_before (ends Nothing (on_accesses a GiveChecksShared e on)) (give_checked_shared take give bodies has set x room Taken' Given' stage cs outer p v (later_on GiveChecksShared p quiet.0 quiet.1 on))
      on_becomes Adds e on ends =
          given take give bodies has set x room Taken' Given' stage' cs outer p v (ends Giving (on_accesses a Adds e on)) (quiet.1 on.turn_is)

      call_becomes : (q : Point) → operation_due a.due ≡ Some (operation_at q) → InCall Taken Given x stage q p → NextStage a stage stage' (r_at q) → Ends (r_at q)
      call_becomes q e (This on) ends = on_becomes q e on ends
      call_becomes q e (Other other idle) ends =
          as_before (ends Nothing (untouched x a alone (λ u g lt called. other called)))
          (other_answered take give bodies has set x room Taken' Given' stage cs outer p q v other (later_idle quiet.0 quiet.1 idle))

    does_becomes : (s : Step Work) (r : Runner Work) → a.due ≡ Some s → next bodies a.runner.left ≡ Some s → Stood Taken Given stage a.runner → Does s p r → NextStage a stage stage' r → Ends r
    does_becomes s r e f (Away h idle) d ends =
        let st = site_away a s f h in
        let high = st.0 in
        let none = untouched x a alone (λ u g lt called. let same : s.site ≡ u.site = ap (λ (k : Step Work). k.site) (same_some s u (sym e ∙ g)) in omega (arith, high, same, lt)) in
        away_becomes s r e st.1 idle (ends Nothing none) d
    does_becomes s r e f (Within q cs outer left call) (Answered v c is) ends =
        let same = step_is a s q cs f left in
        let op : s.operation ≡ operation_at q = ap (λ (k : Step Work). k.operation) same in
        let quiet = quiet_by s e (λ enter goes. no_enter q (sym op ∙ enter)) (λ enter goes. no_enter q (sym op ∙ enter)) in
        let r_is : r ≡ r_at cs outer v quiet q = is ∙ ap (λ (k : Step Work). record { left = k.rest true; has = with_answer k.operation v p }) same in
        subst Ends (sym r_is)
        (call_becomes cs outer v quiet q (ap operation_due e ∙ ap (λ k. Some k) op) call (subst (NextStage a stage stage') r_is ends))
    does_becomes s r e f (Within q cs outer left call) (Steps onward c left' number) ends =
        let same = step_is a s q cs f left in
        let class = ap (λ (k : Step Work). class_of k.operation) same ∙ requests q in
        absurd (cc)

    pub becomes : (r : Runner Work) → Asks Taken Given stage a → Becomes a r → NextStage a stage stage' r → Ends r
    becomes r (Rests e w) (Same g is) ends =
        let quiet = turns.quiet (no_call code_of_take a e) (no_call code_of_give a e) in
        let none = untouched x a alone (λ s f lt called. let bad : None ≡ Some s = sym e ∙ f in absurd (cc)) in
        as_before (ends Nothing none) (subst (Runs Taken' Given' stage) (sym is) (later a.runner quiet.0 quiet.1 w))
    becomes r (Rests e w) (Done s f d) ends = let bad : None ≡ Some s = sym e ∙ f in absurd (cc)
    becomes r (Due s e f differs st) (Same g is) ends = let bad : None ≡ Some s = sym g ∙ e in absurd (cc)
    becomes r (Due s e f differs st) (Done u g d) ends =
        let same : u ≡ s = same_some u s (sym g ∙ e) in does_becomes s r e f st (subst (λ k. Does k p r) same d) ends
