-- Where a processor is in the lock's functions: the requests that it gets to, and what it has there.
use Rattle.std.proofs.Common.{◌≡◌, ℕ, zero, suc, Bool, true, false, List, [], ◌∷◌, Option, Some, None, ap, ◌∙◌, refl, sym, subst}
use Rattle.fk_num.specs.declared.operator.Op.TheVariants.{Ne}
use Rattle.fk_meaning_operation.specs.declared.operation.Multiprefix.TheVariants.{MpAdd}
use Rattle.fk_meaning_operation.specs.declared.operation.Operation.{Operation}
use Rattle.fk_meaning_operation.specs.declared.operation.Operation.TheVariants.{Push, Get, Set, DropLast, Binary, Branch, Leave, Check, Read, Combine}
use Rattle.fk_meaning_operation.specs.declared.operation.OwnValue.TheVariants.{Value}
use Rattle.fk_meaning_operation.specs.declared.operation.Variable.TheVariants.{Private}
use Rattle.fk_meaning_operation.specs.declared.kinds.Class.{Class}
use Rattle.fk_meaning_operation.specs.declared.kinds.Class.TheVariants.{Local, Request, Tree}
use Rattle.fk_meaning_operation.specs.Kinds.{class_of}
use Rattle.fk_meaning_store.specs.Store.{address_of}
use Rattle.fk_meaning_forms.specs.Code.{Code, done, perform, while, turn, quit, ends}
use Rattle.fk_meaning.specs.Processor.{Processor, Setting, values}
use Rattle.fk_meaning.specs.Local.{is_onward}
use Rattle.fk_meaning.specs.Round.{Step, Runner, after_locals, after_one, do_local, local_phase, taking}
use Rattle.fk_meaning.specs.Next.{Work, going, next}
use Rattle.fk_tickets.specs.Lock.{Stage, Outside, Waiting, Inside}
use Rattle.fk_locks_calls.specs.Code.{reads}
use Rattle.fk_locks_calls.proofs.Outer.{AllOuter, HasBodies, Leads, On, OuterWork, Takes, Gives, Stepped, is_stepped}

-- ---- the code that is left at each request

abbrev pub leaving : Code ℕ
leaving = ends 17 (Leave false false) done

abbrev pub turning : Code ℕ
turning = turn reads done done leaving

abbrev pub after_read : Code ℕ
after_read = perform 14 (Get (Value (Private 1))) (perform 15 (Binary Ne false) (quit 16 (Branch true) turning))

abbrev pub reading : Code ℕ
reading = perform 13 Read after_read

abbrev pub after_draw : Code ℕ
after_draw = perform 7 (Set (Private 1)) (perform 8 DropLast (while reads done done leaving))

abbrev pub after_give : Code ℕ
after_give = perform 25 DropLast (ends 26 (Leave false false) done)

pub data Point : Type 0 where
  TakeChecks : Point
  TakeChecksShared : Point
  Draws : Point
  LookChecks : Point
  Looks : Point
  GiveChecks : Point
  GiveChecksShared : Point
  Adds : Point

abbrev pub operation_at : Point → Operation
operation_at TakeChecks = Check false
operation_at TakeChecksShared = Check true
operation_at Draws = Combine MpAdd
operation_at LookChecks = Check false
operation_at Looks = Read
operation_at GiveChecks = Check false
operation_at GiveChecksShared = Check true
operation_at Adds = Combine MpAdd

abbrev pub site_at : Point → ℕ
site_at TakeChecks = 3
site_at TakeChecksShared = 4
site_at Draws = 6
site_at LookChecks = 12
site_at Looks = 13
site_at GiveChecks = 21
site_at GiveChecksShared = 22
site_at Adds = 24

-- what is left after the request
abbrev pub left_after : Point → Code ℕ
left_after TakeChecks = perform 4 (Check true) (perform 5 (Push 1) (perform 6 (Combine MpAdd) after_draw))
left_after TakeChecksShared = perform 5 (Push 1) (perform 6 (Combine MpAdd) after_draw)
left_after Draws = after_draw
left_after LookChecks = reading
left_after Looks = after_read
left_after GiveChecks = perform 22 (Check true) (perform 23 (Push 1) (perform 24 (Combine MpAdd) after_give))
left_after GiveChecksShared = perform 23 (Push 1) (perform 24 (Combine MpAdd) after_give)
left_after Adds = after_give

abbrev pub code_at : Point → Code ℕ
code_at q = perform (site_at q) (operation_at q) (left_after q)

abbrev pub step_at : Point → List (Code ℕ) → Step Work
step_at q cs = record { operation = operation_at q; site = site_at q; rest = λ onward. going (left_after q) cs }

pub requests : (q : Point) → class_of (operation_at q) ≡ Request
requests TakeChecks = refl
requests TakeChecksShared = refl
requests Draws = refl
requests LookChecks = refl
requests Looks = refl
requests GiveChecks = refl
requests GiveChecksShared = refl
requests Adds = refl

-- ---- what a processor has there, in a call with the address of word x

abbrev pub values_at : (x : ℕ) → Point → List ℕ
values_at x TakeChecks = address_of x ∷ []
values_at x TakeChecksShared = address_of x ∷ []
values_at x Draws = 1 ∷ address_of x ∷ []
values_at x LookChecks = address_of (suc x) ∷ []
values_at x Looks = address_of (suc x) ∷ []
values_at x GiveChecks = address_of (suc x) ∷ []
values_at x GiveChecksShared = address_of (suc x) ∷ []
values_at x Adds = 1 ∷ address_of (suc x) ∷ []

abbrev pub stage_at : Point → (ticket : ℕ) → Stage
stage_at TakeChecks t = Outside
stage_at TakeChecksShared t = Outside
stage_at Draws t = Outside
stage_at LookChecks t = Waiting t
stage_at Looks t = Waiting t
stage_at GiveChecks t = Inside
stage_at GiveChecksShared t = Inside
stage_at Adds t = Inside

-- whether the call is a take
abbrev pub is_take : Point → Bool
is_take GiveChecks = false
is_take GiveChecksShared = false
is_take Adds = false
is_take q = true

-- What is known of the calls that have begun: that the last one is a take, or that it isn't.
abbrev pub Turn : (Taken Given : Type 0) → Bool → Type 0
Turn Taken Given true = Taken
Turn Taken Given false = Given

-- in no call of the lock at x
pub data Idle (Taken Given : Type 0) (stage : Stage) : Type 0 where
  Free : Given → stage ≡ Outside → Idle Taken Given stage
  Holds : Taken → stage ≡ Inside → Idle Taken Given stage

pub record IsOn (Taken Given : Type 0) (x : ℕ) (stage : Stage) (q : Point) (p : Processor) : Type 0 where
  pub called : p.call.privates 0 ≡ address_of x
  pub has : values p ≡ values_at x q
  pub stage_is : stage ≡ stage_at q (p.call.privates 1)
  pub turn_is : Turn Taken Given (is_take q)

pub data InCall (Taken Given : Type 0) (x : ℕ) (stage : Stage) (q : Point) (p : Processor) : Type 0 where
  This : IsOn Taken Given x stage q p → InCall Taken Given x stage q p
  Other : (p.call.privates 0 ≡ address_of x → ⊥) → Idle Taken Given stage → InCall Taken Given x stage q p

module _ (take give : ℕ) (bodies : ℕ → Code ℕ) (has : HasBodies take give bodies) (set : Setting) (x : ℕ) where
  pub data Stands (Taken Given : Type 0) (stage : Stage) (r : Runner Work) : Type 0 where
    Away : OuterWork take give r.left → Idle Taken Given stage → Stands Taken Given stage r
    Within : (q : Point) (cs : List (Code ℕ)) → AllOuter take give cs → r.left ≡ record { left = code_at q; callers = cs }
        → InCall Taken Given x stage q r.has → Stands Taken Given stage r

  -- it stands so after some local operations
  pub record Will (Taken Given : Type 0) (stage : Stage) (r : Runner Work) : Type 0 where
    pub count : ℕ
    pub stands : Stands Taken Given stage (after_locals (next bodies) set count r)

  abbrev after : Runner Work → Runner Work
  after r = after_one (next bodies) set r

  pub now : {Taken Given : Type 0} {stage : Stage} {r : Runner Work} → Stands Taken Given stage r → Will Taken Given stage r
  now s = record { count = 0; stands = s }

  pub soon : {Taken Given : Type 0} {stage : Stage} {r : Runner Work} → Will Taken Given stage (after r) → Will Taken Given stage r
  soon w = record { count = suc w.count; stands = w.stands }

  -- ---- local operations

  -- by the next operation, and its class
  abbrev after_next : Runner Work → Option (Step Work) → Runner Work
  after_next r o = (local_phase (next bodies) set (taking r o) o).runner

  abbrev after_class : Runner Work → Step Work → Class → Runner Work
  after_class r s c = (do_local (next bodies) set (taking r (Some s)) c s).runner

  pub stays : (r : Runner Work) (s : Step Work) → next bodies r.left ≡ Some s → (class_of s.operation ≡ Local → ⊥) → after r ≡ r
  stays r s e other = ap (after_next r) e ∙ by (class_of s.operation) other
    where
      by : (c : Class) → (c ≡ Local → ⊥) → after_class r s c ≡ r
      by Local differs = absurd (differs refl)
      by Request differs = refl
      by Tree differs = refl

  pub all_stay : (n : ℕ) (r : Runner Work) (s : Step Work) → next bodies r.left ≡ Some s → (class_of s.operation ≡ Local → ⊥) → after_locals (next bodies) set n r ≡ r
  all_stay zero r s e other = refl
  all_stay (suc n) r s e other = ap (after_locals (next bodies) set n) (stays r s e other) ∙ all_stay n r s e other

  pub next_at : (q : Point) (cs : List (Code ℕ)) (r : Runner Work) → r.left ≡ record { left = code_at q; callers = cs } → next bodies r.left ≡ Some (step_at q cs)
  next_at q cs r e = ap (next bodies) e

  not_local : (q : Point) → class_of (operation_at q) ≡ Local → ⊥
  not_local q e = let r = requests q in absurd (cc)

  -- a local operation outside
  local_away : (w : Work) (s : Step Work) → class_of s.operation ≡ Local → Leads take give s → (onward : Bool) → OuterWork take give (s.rest onward)
  local_away w s c (On o) onward = o onward
  local_away w s c (Takes t) onward = let e = ap class_of t.enters in absurd (cc)
  local_away w s c (Gives t) onward = let e = ap class_of t.enters in absurd (cc)

  away : (r : Runner Work) → OuterWork take give r.left → (o : Option (Step Work)) → Stepped take give o → OuterWork take give (after_next r o).left
  away r h None st = h
  away r h (Some s) st = by (class_of s.operation) refl
    where
      by : (c : Class) → class_of s.operation ≡ c → OuterWork take give (after_class r s c).left
      by Local e = local_away r.left s e st.1 (is_onward s.operation r.has)
      by Request e = h
      by Tree e = h

  steps : {Taken Given : Type 0} {stage : Stage} (r : Runner Work) → Stands Taken Given stage r → Stands Taken Given stage (after r)
  steps r (Away h idle) = Away (away r h (next bodies r.left) (is_stepped take give bodies has r.left h)) idle
  steps {Taken = Taken} {Given = Given} {stage = stage} r (Within q cs outer left call) =
      subst (Stands Taken Given stage) (sym (stays r (step_at q cs) (next_at q cs r left) (not_local q))) (Within q cs outer left call)

  pub will_step : {Taken Given : Type 0} {stage : Stage} (r : Runner Work) → Will Taken Given stage r → Will Taken Given stage (after r)
  will_step {Taken = Taken} {Given = Given} {stage = stage} r w = by w.count w.stands
    where
      by : (n : ℕ) → Stands Taken Given stage (after_locals (next bodies) set n r) → Will Taken Given stage (after r)
      by zero s = now (steps r s)
      by (suc n) s = record { count = n; stands = s }

  pub will_steps : {Taken Given : Type 0} {stage : Stage} (n : ℕ) (r : Runner Work) → Will Taken Given stage r → Will Taken Given stage (after_locals (next bodies) set n r)
  will_steps zero r w = w
  will_steps (suc n) r w = will_steps n (after r) (will_step r w)

  -- one that asks stands so already
  pub asks_stands : {Taken Given : Type 0} {stage : Stage} (r : Runner Work) (s : Step Work) → next bodies r.left ≡ Some s → (class_of s.operation ≡ Local → ⊥)
      → Will Taken Given stage r → Stands Taken Given stage r
  asks_stands {Taken = Taken} {Given = Given} {stage = stage} r s e other w = subst (Stands Taken Given stage) (all_stay w.count r s e other) w.stands
