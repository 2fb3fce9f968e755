-- A processor's part, on what is shared and its own heap, is its part on the whole store.
use Rattle.std.proofs.Common.{◌≡◌, ℕ, Option, Some, None, Bool, true, false, sym, ap, subst, refl}
use Rattle.std.specs.Prelude.{nat_lt, if◌then◌else◌}
use Rattle.std.proofs.lemmas.Bool.{ne_eqb}
use Rattle.fk_num.specs.Op.{applied}
use Rattle.fk_meaning_operation.specs.Kinds.{class_of, multiprefix_of}
use Rattle.fk_meaning_operation.specs.declared.operation.Multiprefix.{Multiprefix}
use Rattle.fk_meaning_operation.specs.declared.kinds.Class.{Class}
use Rattle.fk_meaning_operation.specs.declared.kinds.Class.TheVariants.{Local, Request, Tree}
use Rattle.fk_meaning_operation.specs.declared.kinds.FaultKind.TheVariants.{BadAddress, CallDepth}
use Rattle.fk_meaning_operation.specs.declared.operation.Operation.{Operation}
use Rattle.fk_meaning_operation.specs.declared.operation.Operation.TheVariants as o
use Rattle.fk_meaning_store.specs.declared.request.Request as request
use Rattle.fk_meaning_store.specs.declared.request.Request.TheVariants.{Read, Write, Multi, Print, Byte, Heap, Check, Depth}
use Rattle.fk_meaning_store.specs.Store.{Store}
use Rattle.fk_meaning_store.specs.Serve.{Answer, Served, Faults, is_shared, may_use, read, write, operator_of, combined, serve}
use Rattle.fk_meaning.specs.Processor.{Processor}
use Rattle.fk_meaning.specs.Request.{request as request_of, with_answer}
use Rattle.fk_meaning.specs.Group.{has_room}
use Rattle.fk_meaning.specs.Round.{Step, Acting, done, Phase, Passes, Breaks, do_request, answered, request_phase}
use Rattle.fk_core.specs.Next.{Position}
use Rattle.fk_sim_block.specs.Owner.{is_hire}

-- a store as processor n finds it
abbrev pub seen : Store → ℕ → Store
seen s n = record { words = s.words; heaps = λ h. s.heaps n; top = 0; output = s.output }

-- a new store differs from the old one in the heap of processor n alone, and processor n finds another one so
pub record IsOf (n : ℕ) (s s' s1 : Store) : Type 0 where
  pub words : s'.words ≡ s1.words
  pub output : s'.output ≡ s1.output
  pub top : s'.top ≡ s.top
  pub own : s'.heaps n ≡ s1.heaps n
  pub others : (g : ℕ) → (g ≡ n → ⊥) → s'.heaps g ≡ s.heaps g

abbrev pub AreAlike : (n : ℕ) → Store → Answer → Answer → Type 0
AreAlike n s (Served s' v) (Served s1 w) = IsOf n s s' s1 × (v ≡ w)
AreAlike n s (Faults k) (Faults j) = k ≡ j
AreAlike n s a b = ⊥

same : (n : ℕ) (s : Store) → IsOf n s s (seen s n)
same n s = record { words = refl; output = refl; top = refl; own = refl; others = λ g ne. refl }

written : (n a v : ℕ) (s : Store) (b : Bool) → is_shared a ≡ b → IsOf n s (write s n a v) (write (seen s n) n a v)
written n a v s true e = rw e (record { words = refl; output = refl; top = refl; own = refl; others = λ g ne. refl })
written n a v s false e = rw e (record { words = refl; output = refl; top = refl; own = refl; others = λ g ne. rw (ne_eqb g n ne) })

combined_alike : (n a v : ℕ) (s : Store) (by : Option Multiprefix) → AreAlike n s (combined by s n a v) (combined by (seen s n) n a v)
combined_alike n a v s None = (same n s, refl)
combined_alike n a v s (Some by) = (written n a (applied (operator_of by) (read s n a) v) s (is_shared a) refl, refl)

-- a request for a block of the global heap
abbrev is_heap : request.Request → Bool
is_heap (Heap bytes) = true
is_heap q = false

no_heap : (operation : Operation) (p : Processor) → is_hire operation ≡ false → is_heap (request_of operation p) ≡ false
no_heap o.Heap p e = absurd (cc)
no_heap operation p e = refl

check_alike : (n : ℕ) (s : Store) (b : Bool) → AreAlike n s (if b then Served s 0 else Faults BadAddress) (if b then Served (seen s n) 0 else Faults BadAddress)
check_alike n s true = (same n s, refl)
check_alike n s false = refl

depth_alike : (n : ℕ) (s : Store) (b : Bool) → AreAlike n s (if b then Served s 0 else Faults CallDepth) (if b then Served (seen s n) 0 else Faults CallDepth)
depth_alike n s true = (same n s, refl)
depth_alike n s false = refl

serve_alike : (q : request.Request) (n : ℕ) (s : Store) → is_heap q ≡ false → AreAlike n s (serve q s n) (serve q (seen s n) n)
serve_alike (Read a) n s other = (same n s, refl)
serve_alike (Write a v) n s other = (written n a v s (is_shared a) refl, refl)
serve_alike (Multi kind a v) n s other = combined_alike n a v s (multiprefix_of kind)
serve_alike (Print v) n s other = (record { words = refl; output = refl; top = refl; own = refl; others = λ g ne. refl }, refl)
serve_alike (Byte v) n s other = (record { words = refl; output = refl; top = refl; own = refl; others = λ g ne. refl }, refl)
serve_alike (Heap bytes) n s other = absurd (cc)
serve_alike (Check a shared_alone) n s other = check_alike n s (may_use shared_alone a)
serve_alike (Depth depth) n s other = depth_alike n s (nat_lt depth 256)

-- ---- the phases

abbrev pub ArePhasesAlike : (n : ℕ) → Store → Phase Position → Phase Position → Type 0
ArePhasesAlike n s (Passes s' a) (Passes s1 b) = IsOf n s s' s1 × (a ≡ b)
ArePhasesAlike n s (Breaks x) (Breaks y) = x ≡ y
ArePhasesAlike n s x y = ⊥

answered_alike : (n : ℕ) (s : Store) (step : Step Position) (p : Processor) (a b : Answer) → AreAlike n s a b
    → ArePhasesAlike n s (answered step p a) (answered step p b)
answered_alike n s step p (Served s' v) (Served s1 w) alike = (alike.0, ap (λ x. done step true (with_answer step.operation x p)) alike.1)
answered_alike n s step p (Faults k) (Faults j) alike = refl
answered_alike n s step p (Served s' v) (Faults j) alike = absurd alike
answered_alike n s step p (Faults k) (Served s1 w) alike = absurd alike

room_alike : (n : ℕ) (s : Store) (a : Acting Position) (site : ℕ) (b : Bool)
    → ArePhasesAlike n s (if b then Passes s a else Breaks site) (if b then Passes (seen s n) a else Breaks site)
room_alike n s a site true = (same n s, refl)
room_alike n s a site false = refl

request_alike : (n : ℕ) (s : Store) (a : Acting Position) (step : Step Position) → a.runner.has.number ≡ n → is_hire step.operation ≡ false → (c : Class)
    → ArePhasesAlike n s (do_request s a c step) (do_request (seen s n) a c step)
request_alike n s a step e other Local = (same n s, refl)
request_alike n s a step e other Request =
    subst (λ h. ArePhasesAlike n s (answered step a.runner.has (serve (request_of step.operation a.runner.has) s h)) (answered step a.runner.has (serve (request_of step.operation a.runner.has) (seen s n) h)))
    (sym e)
    (answered_alike n s step a.runner.has _ _ (serve_alike (request_of step.operation a.runner.has) n s (no_heap step.operation a.runner.has other)))
request_alike n s a step e other Tree = room_alike n s a step.site (has_room step.operation a.runner.has)

abbrev pub AsksNone : Option (Step Position) → Type 0
AsksNone None = Unit {0}
AsksNone (Some step) = is_hire step.operation ≡ false

pub phase_alike : (n : ℕ) (s : Store) (a : Acting Position) (due : Option (Step Position)) → a.runner.has.number ≡ n → AsksNone due
    → ArePhasesAlike n s (request_phase s a due) (request_phase (seen s n) a due)
phase_alike n s a None e other = (same n s, refl)
phase_alike n s a (Some step) e other = request_alike n s a step e other (class_of step.operation)
