-- Operations keep the number of a processor, and its calls are no deeper than a call may be.
use Rattle.std.proofs.Common.{◌≡◌, ℕ, zero, suc, ◌+◌, ◌<◌, Bool, true, false, List, [], ◌∷◌, length, map, Option, Some, None, refl, sym, ◌∙◌, ap, subst, arith}
use Rattle.std.specs.Prelude.{nat_lt, ◌==◌, if◌then◌else◌, slice_get}
use Rattle.fk_space.specs.Space.{Space, frame, block}
use Rattle.fk_meaning_operation.specs.declared.operation.Operation.{Operation}
use Rattle.fk_meaning_operation.specs.declared.operation.Operation.TheVariants as o
use Rattle.fk_meaning_operation.specs.declared.operation.Variable.{Variable}
use Rattle.fk_meaning_operation.specs.declared.operation.Variable.TheVariants.{Private, OfFile}
use Rattle.fk_meaning_store.specs.Store.{Store}
use Rattle.fk_meaning_operation.specs.declared.kinds.FaultKind.TheVariants.{CallDepth}
use Rattle.fk_meaning_store.specs.Serve.{Answer, Served, Faults, serve, words_of}
use Rattle.fk_meaning.specs.Processor.{Processor, Level, Call, Setting, values, last, drop_last, to_outer}
use Rattle.fk_meaning.specs.Local.{local, taken, stored, to_caller, unframed}
use Rattle.fk_meaning.specs.Request.{request, with_answer}
use Rattle.fk_meaning.specs.Group.{has_room, does, divided, framed, allotted, part, stays, is_taken}
use Rattle.fk_meaning_operation.specs.Kinds.{class_of}
use Rattle.fk_meaning_operation.specs.declared.kinds.Class.{Class}
use Rattle.fk_meaning_operation.specs.declared.kinds.Class.TheVariants.{Local, Request, Tree}
use Rattle.fk_tree.specs.Tree as t
use Rattle.fk_meaning.specs.Round.{Step, Runner, Acting, State, Round, Fault, Passes, Breaks, runner_of, taking, done, answered, do_request, request_phase, after_phase, all_requests, settled, settled_by, all_changes, tree_phase, do_local, local_phase, after_one, after_locals, begin, asking}
use Rattle.fk_replay_rounds.specs.Own.{IsOwn, AreOwn, KeepOwn}

by_if : (h : ℕ) (b : Bool) (p q : Processor) → IsOwn h p → IsOwn h q → IsOwn h (if b then p else q)
by_if h true p q x y = x
by_if h false p q x y = y

same : (h : ℕ) (p q : Processor) → IsOwn h p → q.number ≡ p.number → q.callers ≡ p.callers → IsOwn h q
same h p q own number callers = record { number = number ∙ own.number; calls = let e : length q.callers ≡ length p.callers = ap length callers in let l = own.calls in omega arith }

-- ---- local operations

by_stored : (h v : ℕ) (variable : Variable) (p : Processor) → IsOwn h p → IsOwn h (stored v variable p)
by_stored h v (Private i) p own = same h p _ own refl refl
by_stored h v (OfFile i) p own = same h p _ own refl refl

by_taken : (h words : ℕ) (p : Processor) → IsOwn h p → IsOwn h (taken words p)
by_taken h words p own = by_if h (words == 0) _ _ (same h p _ own refl refl) (by_if h _ _ _ (same h p _ own refl refl) (same h p _ own refl refl))

by_caller : (h : ℕ) (gives : Bool) (v : ℕ) (p : Processor) (callers : List Call) → IsOwn h p → p.callers ≡ callers → IsOwn h (to_caller gives v p callers)
by_caller h gives v p [] own e = own
by_caller h gives v p (c ∷ cs) own e =
    record { number = own.number; calls = let l = own.calls in let k : length p.callers ≡ suc (length cs) = ap length e in omega arith }

by_unframed : (h : ℕ) (is_framed : Bool) (p : Processor) → IsOwn h p → IsOwn h (unframed is_framed p) × ((unframed is_framed p).callers ≡ p.callers)
by_unframed h true p own = (same h p _ own refl refl, refl)
by_unframed h false p own = (own, refl)

pub own_local : (set : Setting) (operation : Operation) (h : ℕ) (p : Processor) → IsOwn h p → IsOwn h (local set operation p)
own_local set (o.Push n) h p own = same h p _ own refl refl
own_local set (o.Get k) h p own = same h p _ own refl refl
own_local set (o.Set variable) h p own = by_stored h _ variable p own
own_local set o.DropLast h p own = same h p _ own refl refl
own_local set o.CopyLast h p own = same h p _ own refl refl
own_local set (o.Apply sign) h p own = same h p _ own refl refl
own_local set (o.Binary sign turned) h p own = same h p _ own refl refl
own_local set (o.Index size) h p own = same h p _ own refl refl
own_local set (o.Branch onward) h p own = same h p _ own refl refl
own_local set o.Take h p own = by_taken h (words_of (last (values p))) p own
own_local set (o.Leave gives is_framed) h p own =
    let u = by_unframed h is_framed p own in
    by_caller h gives (last (values p)) (unframed is_framed p) p.callers u.0 u.1
own_local set operation h p own = own

-- ---- answers

by_depth : (h depth : ℕ) (s after : Store) (v : ℕ) → (if nat_lt depth 256 then Served s 0 else Faults CallDepth) ≡ Served after v → depth < 256
by_depth h depth s after v e = by (nat_lt depth 256) refl
  where
    by : (b : Bool) → nat_lt depth 256 ≡ b → depth < 256
    by true is = grind arith
    by false is = absurd (let bad : Faults CallDepth ≡ Served after v = sym (ap (λ (b : Bool). if b then Served s 0 else Faults CallDepth) is) ∙ e in cc)

pub own_answer : (operation : Operation) (h v : ℕ) (s after : Store) (p : Processor) → IsOwn h p → serve (request operation p) s p.number ≡ Served after v → IsOwn h (with_answer operation v p)
own_answer o.Read h v s after p own e = same h p _ own refl refl
own_answer o.Write h v s after p own e = same h p _ own refl refl
own_answer (o.Combine by) h v s after p own e = same h p _ own refl refl
own_answer o.PrintNumber h v s after p own e = same h p _ own refl refl
own_answer o.PrintByte h v s after p own e = same h p _ own refl refl
own_answer o.Heap h v s after p own e = same h p _ own refl refl
own_answer (o.Enter n) h v s after p own e =
    record { number = own.number; calls = by_depth h (suc (length p.callers)) s after v e }
own_answer operation h v s after p own e = own

-- ---- steps of the tree

by_outer : (h : ℕ) (p : Processor) (outer : List Level) → IsOwn h p → IsOwn h (to_outer p outer)
by_outer h p [] own = own
by_outer h p (l ∷ ls) own = same h p _ own refl refl

by_framed : (h nesting : ℕ) (p : Processor) (space : Option Space) → IsOwn h p → IsOwn h (framed nesting p space)
by_framed h nesting p None own = own
by_framed h nesting p (Some s) own = same h p _ own refl refl

by_allotted : (h : ℕ) (p : Processor) (found : Option (ℕ × Space)) → IsOwn h p → IsOwn h (allotted p found)
by_allotted h p None own = same h p _ own refl refl
by_allotted h p (Some b) own = same h p _ own refl refl

pub own_does : (operation : Operation) (highest size h : ℕ) (p : Processor) → IsOwn h p → IsOwn h (does operation highest size p)
own_does o.Begin highest size h p own = by_if h (is_taken highest p) _ _ (same h p _ own refl refl) (same h p _ own refl refl)
own_does o.Agree highest size h p own = same h p _ own refl refl
own_does (o.Frame nesting words) highest size h p own = by_framed h nesting p (frame p.level.space words) own
own_does o.Block highest size h p own =
    by_if h (words_of (last (values p)) == 0) _ _ (same h p _ own refl refl) (by_allotted h p (block p.level.space (words_of (last (values p)))) own)
own_does (o.Split by) highest size h p own = by_divided (part by (values p))
  where
    by_divided : (i : Option ℕ) → IsOwn h (divided by size p i)
    by_divided None = same h p _ own refl refl
    by_divided (Some i) = same h p _ own refl refl
own_does o.Shrink highest size h p own = by_if h (stays p) _ _ (same h p _ own refl refl) (by_outer h (drop_last 1 p) p.outer (same h p (drop_last 1 p) own refl refl))
own_does o.End highest size h p own = by_outer h p p.outer own
own_does operation highest size h p own = own

-- ---- rounds

module _ {W : Type 0} (next : W → Option (Step W)) (set : Setting) where
  own_local_phase : (h : ℕ) (a : Acting W) (due : Option (Step W)) → IsOwn h a.runner.has → IsOwn h (local_phase next set a due).runner.has
  own_local_phase h a None own = own
  own_local_phase h a (Some step) own = by (class_of step.operation)
    where
      by : (class : Class) → IsOwn h (do_local next set a class step).runner.has
      by Local = own_local set step.operation h a.runner.has own
      by Request = own
      by Tree = own

  own_locals : (count h : ℕ) (r : Runner W) → IsOwn h r.has → IsOwn h (after_locals next set count r).has
  own_locals zero h r own = own
  own_locals (suc c) h r own = own_locals c h (after_one next set r) (own_local_phase h (taking r (next r.left)) (next r.left) own)

  own_begin : (count h : ℕ) (r : Runner W) → IsOwn h r.has → IsOwn h (begin next set count r).runner.has
  own_begin zero h r own = own
  own_begin (suc c) h r own = own_locals c h r own

  -- the runners from number n on
  abbrev OwnFrom : ℕ → List (Runner W) → Type 0
  OwnFrom n [] = Unit {0}
  OwnFrom n (r ∷ rs) = IsOwn n r.has × OwnFrom (suc n) rs

  own_from : (n : ℕ) (rs : List (Runner W)) → ((k : ℕ) (r : Runner W) → slice_get rs k ≡ Some r → IsOwn (n + k) r.has) → OwnFrom n rs
  own_from n [] each = tt
  own_from n (r ∷ rs) each = (
    subst (λ (m : ℕ). IsOwn m r.has) (let e : n + 0 ≡ n = omega arith in e) (each 0 r refl),
    own_from (suc n) rs (λ k q is. subst (λ (m : ℕ). IsOwn m q.has) (let e : n + suc k ≡ suc n + k = omega arith in e) (each (suc k) q is)),
  )

  each_from : (n : ℕ) (rs : List (Runner W)) → OwnFrom n rs → (k : ℕ) (r : Runner W) → slice_get rs k ≡ Some r → IsOwn (n + k) r.has
  each_from n [] own k r is = absurd (let bad : None ≡ Some r = is in cc)
  each_from n (q ∷ rs) own zero r is = let same : q ≡ r = cc in subst (λ (x : Runner W). IsOwn (n + 0) x.has) same (subst (λ (m : ℕ). IsOwn m q.has) (let e : n ≡ n + 0 = omega arith in e) own.0)
  each_from n (q ∷ rs) own (suc k) r is = subst (λ (m : ℕ). IsOwn m r.has) (let e : suc n + k ≡ n + suc k = omega arith in e) (each_from (suc n) rs own.1 k r is)

  all_of : (rs : List (Runner W)) → OwnFrom 0 rs → AreOwn rs
  all_of rs own = record { each = λ h r is. subst (λ (k : ℕ). IsOwn k r.has) (let e : 0 + h ≡ h = omega arith in e) (each_from 0 rs own h r is) }

  own_asking : (n : ℕ) (round : Round) (rs : List (Runner W)) → OwnFrom n rs → OwnFrom n (map runner_of (asking next set round rs))
  own_asking n [] rs own = tt
  own_asking n (c ∷ round) [] own = tt
  own_asking n (c ∷ round) (r ∷ rs) own = (
    own_local_phase n (begin next set c r) (begin next set c r).due (own_begin c n r own.0),
    own_asking (suc n) round rs own.1,
  )

  own_phase : (number n : ℕ) (a : Acting W) (actings : List (Acting W)) (s : Store) → OwnFrom n (map runner_of (a ∷ actings))
      → ((s' : Store) → OwnFrom (suc n) (map runner_of (all_requests (suc number) actings s').acting)) → OwnFrom n (map runner_of (all_requests number (a ∷ actings) s).acting)
  own_phase number n a actings s own more = by_due a.due refl
    where
      passes : (s' : Store) (a' : Acting W) → IsOwn n a'.runner.has → OwnFrom n (map runner_of (after_phase number s a actings (all_requests (suc number) actings) (Passes s' a')).acting)
      passes s' a' is = (is, more s')

      breaks : (site : ℕ) → OwnFrom n (map runner_of (after_phase number s a actings (all_requests (suc number) actings) (Breaks site)).acting)
      breaks site = own

      by_answer : (step : Step W) (answer : Answer) → serve (request step.operation a.runner.has) s a.runner.has.number ≡ answer
          → OwnFrom n (map runner_of (after_phase number s a actings (all_requests (suc number) actings) (answered step a.runner.has answer)).acting)
      by_answer step (Served s' v) e = passes s' (done step true (with_answer step.operation v a.runner.has)) (own_answer step.operation n v s s' a.runner.has own.0 e)
      by_answer step (Faults kind) e = breaks step.site

      by_room : (step : Step W) (room : Bool) → OwnFrom n (map runner_of (after_phase number s a actings (all_requests (suc number) actings) (if room then Passes s a else Breaks step.site)).acting)
      by_room step true = passes s a own.0
      by_room step false = breaks step.site

      by_class : (step : Step W) (class : Class) → OwnFrom n (map runner_of (after_phase number s a actings (all_requests (suc number) actings) (do_request s a class step)).acting)
      by_class step Local = passes s a own.0
      by_class step Request = by_answer step (serve (request step.operation a.runner.has) s a.runner.has.number) refl
      by_class step Tree = by_room step (has_room step.operation a.runner.has)

      by_due : (due : Option (Step W)) → a.due ≡ due → OwnFrom n (map runner_of (after_phase number s a actings (all_requests (suc number) actings) (request_phase s a a.due)).acting)
      by_due None e = subst (λ o. OwnFrom n (map runner_of (after_phase number s a actings (all_requests (suc number) actings) (request_phase s a o)).acting)) (sym e) (passes s a own.0)
      by_due (Some step) e = subst (λ o. OwnFrom n (map runner_of (after_phase number s a actings (all_requests (suc number) actings) (request_phase s a o)).acting)) (sym e) (by_class step (class_of step.operation))

  own_requests : (number n : ℕ) (actings : List (Acting W)) (s : Store) → OwnFrom n (map runner_of actings) → OwnFrom n (map runner_of (all_requests number actings s).acting)
  own_requests number n [] s own = tt
  own_requests number n (a ∷ actings) s own = own_phase number n a actings s own (λ s'. own_requests (suc number) (suc n) actings s' own.1)

  own_settled : (n : ℕ) (actings others : List (Acting W)) (old new : t.Tree) → OwnFrom n (map runner_of others) → OwnFrom n (settled actings old new others)
  own_settled n actings [] old new own = tt
  own_settled n actings (a ∷ others) old new own = (by a.due, own_settled (suc n) actings others old new own.1)
    where
      by : (due : Option (Step W)) → IsOwn n (settled_by actings old new a.runner due).has
      by None = own.0
      by (Some step) = own_does step.operation _ _ n a.runner.has own.0

  own_tree : (tree : t.Tree) (s : Store) (actings : List (Acting W)) (fault : Option Fault) → OwnFrom 0 (map runner_of actings) → OwnFrom 0 (tree_phase tree s actings fault).runners
  own_tree tree s actings None own = own_settled 0 actings actings tree (all_changes actings tree actings tree) own
  own_tree tree s actings (Some fault) own = own

  pub keep : (round : Round) (s : State W) → AreOwn s.runners → KeepOwn next set round s
  keep round s own =
      let first : OwnFrom 0 s.runners = own_from 0 s.runners (λ k r is. subst (λ (m : ℕ). IsOwn m r.has) (let e : k ≡ 0 + k = omega arith in e) (own.each k r is)) in
      let ask = own_asking 0 round s.runners first in
      let step = own_requests 0 0 (asking next set round s.runners) s.store ask in
      let r = all_requests 0 (asking next set round s.runners) s.store in
      record {
        before_requests = all_of _ ask;
        before_steps = all_of _ step;
        after = all_of _ (own_tree s.tree r.store r.acting r.fault step);
      }
