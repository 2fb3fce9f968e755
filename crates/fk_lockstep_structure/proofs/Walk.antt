-- Code of a text follows as far as what stands behind it.
use Rattle.std.proofs.Common.{◌≡◌, ℕ, zero, suc, Bool, true, false, List, Option, Some, None, ap, ◌∙◌, sym, refl, subst}
use Rattle.std.specs.Prelude.{if◌then◌else◌}
use Rattle.fk_meaning_operation.specs.declared.operation.Operation.{Operation}
use Rattle.fk_meaning_operation.specs.declared.operation.Operation.TheVariants as o
use Rattle.fk_meaning.specs.Round.{Step}
use Rattle.fk_meaning_forms.specs.Code.{Code, done, perform, choose, while, until, turn, again, quit, break, continue, call, ends, append}
use Rattle.fk_meaning.specs.Left.{settled}
use Rattle.fk_meaning.specs.Next.{Work, step, next}
use Rattle.fk_meaning.specs.Shape.{Exits, none, of_test, of_turn, begins, Either, Shape}
use Rattle.fk_meaning.proofs.Spine.{untrue, broken_append, continued_append, begins_settled}
use Rattle.fk_meaning.proofs.Nested.{Nested, nested_append, allows_append, settles}
use Rattle.fk_meaning.proofs.Steps.{is_stepped}
use Rattle.fk_lockstep.specs.Course.{Context, InGroup, Does, DoesNext}
use Rattle.fk_lockstep_structure.specs.Placed.{Who, OfGroup, OfBody, OfMain, is_outermost, inner, Placed}
use Rattle.fk_lockstep_structure.specs.Ahead.{all_outs, AreCourses}
use Rattle.fk_lockstep_structure.proofs.Even.{at, settled_times, Even, even_append, opened_is, inner_low}
use Rattle.fk_lockstep_structure.proofs.Far.{context_of, Goes}
use Rattle.fk_lockstep_structure.proofs.Behind.{either_no, F, FollowsTo, Far, far_stable, far_settled, idle, Behind, behind_fewer, Steps, All}
use Rattle.fk_lockstep_structure.proofs.Loops.{first, IsLoop, turn_behind, again_far}

module _ (may_call : (in_group : Bool) → (function : ℕ) → Bool) (bodies : ℕ → Code ℕ) (main : ℕ) (facts : AreCourses may_call bodies main) where
  -- directly behind an agree goes what goes elsewhere
  does_more : (P : Context → Work → Type 0) (op : Operation) (here : Work) (rest : Bool → Work)
      → Does (next bodies) all_outs P (InGroup false) op here rest → Does (next bodies) all_outs P (InGroup true) op here rest
  does_more P (o.Branch on) here rest h = untrue h.0
  does_more P o.Block here rest h = untrue h.0
  does_more P op here rest h = h

  does_next : (P : Context → Work → Type 0) (here : Work) (u : Option (Step Work))
      → DoesNext (next bodies) all_outs P (InGroup false) here u → DoesNext (next bodies) all_outs P (InGroup true) here u
  does_next P here None h = tt
  does_next P here (Some u) h = does_more P u.operation here u.rest h

  to_more : (n : ℕ) (w : Work) → FollowsTo may_call bodies n (InGroup false) w → FollowsTo may_call bodies n (InGroup true) w
  to_more zero w h = tt
  to_more (suc n) w h = (does_next (F may_call bodies n) w (next bodies w) h.0, to_more n w h.1)

  far_more : (n : ℕ) (who : Who) (agreed within : Bool) (callers : List (Code ℕ)) (code : Code ℕ)
      → Far may_call bodies n (context_of who false within) callers code → Far may_call bodies n (context_of who agreed within) callers code
  far_more n OfGroup true within callers code h = λ k. to_more n (at (settled_times k code) callers) (h k)
  far_more n OfGroup false within callers code h = h
  far_more n OfBody agreed within callers code h = h
  far_more n (OfMain b) agreed within callers code h = h

  of_while : (who : Who) (agreed : Bool) (test body after rest : Code ℕ) → Steps may_call bodies who agreed (while test body after rest)
      → Steps may_call bodies who false test × Steps may_call bodies who false body × Steps may_call bodies who false after × Steps may_call bodies who false rest
  of_while OfGroup agreed test body after rest i = i
  of_while OfBody agreed test body after rest i = (tt, tt, tt, tt)
  of_while (OfMain b) agreed test body after rest i = (tt, tt, tt, tt)

  as_while : (who : Who) (test body after rest : Code ℕ) → Steps may_call bodies who false test → Steps may_call bodies who false body → Steps may_call bodies who false after
      → Steps may_call bodies who false rest → Steps may_call bodies who false (while test body after rest)
  as_while OfGroup test body after rest a b c d = (a, b, c, d)
  as_while OfBody test body after rest a b c d = tt
  as_while (OfMain e) test body after rest a b c d = tt

  as_done : (who : Who) → Steps may_call bodies who false done
  as_done OfGroup = tt
  as_done OfBody = tt
  as_done (OfMain b) = tt

  of_until : (who : Who) (agreed : Bool) (test body rest : Code ℕ) → Steps may_call bodies who agreed (until body test rest)
      → Steps may_call bodies who false test × Steps may_call bodies who false body × Steps may_call bodies who false rest
  of_until OfGroup agreed test body rest i = (i.1, i.0, i.2)
  of_until OfBody agreed test body rest i = (tt, tt, tt)
  of_until (OfMain b) agreed test body rest i = (tt, tt, tt)

  pub not_if : (b c : Bool) → (if b then false else c) ≡ true → c ≡ true
  not_if true c e = untrue e
  not_if false c e = e

  begins_behind : (part shrinking : Bool) (x : Exits) (rest d : Code ℕ) → Either shrinking ((part ≡ true) × (x.tests ≡ false) × (rest ≡ done)) (Shape part false x rest)
      → (part ≡ true → begins d ≡ true) → shrinking ≡ true → begins (settled (append rest d)) ≡ true
  begins_behind part true x rest d h first e =
      subst (λ r. begins (settled (append r d)) ≡ true) (sym h.2) (ap begins (begins_settled d (first h.0)) ∙ first h.0)
  begins_behind part false x rest d h first e = untrue e

  -- a loop of a text, and what is left behind it
  loop_behind : (n : ℕ) (who : Who) (within : Bool) (ahead : List Work) (callers : List (Code ℕ)) (part shrinking : Bool) (x : Exits) (test body after rest d : Code ℕ)
      → Shape false false (of_test shrinking) test → Shape false false (of_turn shrinking x) body → Shape false false none after
      → Either shrinking ((part ≡ true) × (x.tests ≡ false) × (rest ≡ done)) (Shape part false x rest)
      → Placed may_call (inner who) false test → Placed may_call (inner who) false body → Placed may_call (inner who) false after → Placed may_call who false rest
      → is_outermost who ≡ false → Steps may_call bodies who false test → Steps may_call bodies who false body → Steps may_call bodies who false after
      → Behind may_call bodies n who within ahead callers part x d → Nested (append rest d)
      → IsLoop may_call bodies main facts who ahead callers x shrinking test body after (settled (append rest d))
  loop_behind n who within ahead callers part shrinking x test body after rest d s u w e p q r t low i j l b nested =
      let same = settles (append rest d) nested in
      record {
        test_in = s;
        body_in = u;
        after_in = w;
        test_placed = subst (λ g. Placed may_call g false test) (inner_low who low) p;
        body_placed = subst (λ g. Placed may_call g false body) (inner_low who low) q;
        after_placed = subst (λ g. Placed may_call g false after) (inner_low who low) r;
        low = low;
        test_steps = i;
        body_steps = j;
        after_steps = l;
        begins_behind = begins_behind part shrinking x rest d e b.first;
        past_returns = λ f g. same.same ∙ (allows_append part x rest d (either_no shrinking _ _ e f) b.quiet b.allows).returns g;
        nested = record { left = same.nested; callers = b.nested.callers };
        even = λ k. even (suc k);
      }
    where
      by : (shrinking : Bool) → Either shrinking ((part ≡ true) × (x.tests ≡ false) × (rest ≡ done)) (Shape part false x rest) → Even ahead callers (append rest d)
      by true h = subst (λ r. Even ahead callers (append r d)) (sym h.2) b.even.onward
      by false h = even_append may_call ahead callers who part false false x rest d low h t b.even

      even : Even ahead callers (append rest d)
      even = by shrinking e

  module _ (n : ℕ) (ih : All may_call bodies n) where
    goes : (who : Who) (agreed within : Bool) (ahead : List Work) (callers : List (Code ℕ)) (part : Bool) (x : Exits) (code d : Code ℕ)
        → Shape part false x code → Placed may_call who false code → is_outermost who ≡ false → Steps may_call bodies who agreed code
        → Behind may_call bodies n who within ahead callers part x d → settled (append code d) ≡ append code d → (code ≡ done → ⊥)
        → next bodies (at (append code d) callers) ≡ step bodies (append code d) callers
        → Goes (at (append code d) callers) (step bodies (append code d) callers)
        → Far may_call bodies (suc n) (context_of who agreed within) callers (append code d)
    goes who agreed within ahead callers part x code d s p low i b e never f g =
        let here = at (append code d) callers in
        let context = context_of who agreed within in
        let even = even_append may_call ahead callers who part false false x code d low s p b.even in
        let now = first may_call bodies main facts n ih who agreed within ahead callers part x code d s p low i b here (even 0) g never in
        far_stable may_call bodies (suc n) context callers (append code d) e (
          subst (λ u. DoesNext (next bodies) all_outs (F may_call bodies n) context here u) (sym f) now,
          ih who agreed within ahead callers part x code d s p low i b 0,
        )

    walk_on : All may_call bodies (suc n)
    walk_on who agreed within ahead callers part x done d s p low i b = far_more (suc n) who agreed within callers d (b.onward s.1)
    walk_on who agreed within ahead callers part x (perform t op rest) d s p low i b =
        let h : Nested (append (perform t op rest) d) = nested_append part false x (perform t op rest) d s b.nested.left b.allows b.quiet b.first in
        goes who agreed within ahead callers part x (perform t op rest) d s p low i (behind_fewer may_call bodies n who within ahead callers part x d b) refl (λ e. absurd (cc e)) refl
        (is_stepped bodies facts.nested (at (append (perform t op rest) d) callers) (record { left = h; callers = b.nested.callers })).goes_on
    walk_on who agreed within ahead callers part x (choose t op a z rest) d s p low i b =
        let h : Nested (append (choose t op a z rest) d) = nested_append part false x (choose t op a z rest) d s b.nested.left b.allows b.quiet b.first in
        goes who agreed within ahead callers part x (choose t op a z rest) d s p low i (behind_fewer may_call bodies n who within ahead callers part x d b) refl (λ e. absurd (cc e)) refl
        (is_stepped bodies facts.nested (at (append (choose t op a z rest) d) callers) (record { left = h; callers = b.nested.callers })).goes_on
    walk_on who agreed within ahead callers part x (while test body after rest) d s p low i b =
        let h : Nested (append (while test body after rest) d) = nested_append part false x (while test body after rest) d s b.nested.left b.allows b.quiet b.first in
        let steps = of_while who agreed test body after rest i in
        let b' = behind_fewer may_call bodies n who within ahead callers part x d b in
        let y = append rest d in
        let r = settled y in
        let context = context_of who false within in
        let loop = loop_behind n who within ahead callers part s.1 x test body after rest d s.2 s.3 s.4 s.5 p.1 p.2 p.3 p.4 low steps.0 steps.1 steps.2 b' h.1 in
        let same : Far may_call bodies n context callers (append (while test body after rest) d) =
        ih who false within ahead callers part x (while test body after rest) d s p low (as_while who test body after rest steps.0 steps.1 steps.2 steps.3) b' in
        let behind : s.1 ≡ false → Far may_call bodies n context callers r = λ e k. ih who false within ahead callers part x rest d (either_no s.1 _ _ s.5 e) p.4 low steps.3 b' (suc k) in
        let again_goes : Far may_call bodies (suc n) context callers (again test body after r) =
        again_far may_call bodies main facts who within ahead callers x s.1 test body after r loop n ih (λ k. same (suc k)) behind (λ e. b'.returns (not_if s.1 x.returns e)) in
        far_more (suc n) who agreed within callers (while test body after y)
        (far_settled may_call bodies (suc n) context callers (while test body after y) (idle may_call bodies (suc n) context (at (while test body after y) callers) refl) again_goes)
    walk_on who agreed within ahead callers part x (until body test rest) d s p low i b =
        let h : Nested (append (until body test rest) d) = nested_append part false x (until body test rest) d s b.nested.left b.allows b.quiet b.first in
        let steps = of_until who agreed test body rest i in
        let b' = behind_fewer may_call bodies n who within ahead callers part x d b in
        let y = append rest d in
        let r = settled y in
        let context = context_of who false within in
        let loop = loop_behind n who within ahead callers part s.1 x test body done rest d s.2 s.3 (refl, refl, refl) s.4 p.2 p.1 refl p.3 low steps.0 steps.1 (as_done who) b' h.1 in
        let same : Far may_call bodies n context callers (append (while test body done rest) d) =
        ih who false within ahead callers part x (while test body done rest) d (refl, s.1, s.2, s.3, (refl, refl, refl), s.4) (refl, p.2, p.1, refl, p.3) low
        (as_while who test body done rest steps.0 steps.1 (as_done who) steps.2) b' in
        let behind : s.1 ≡ false → Far may_call bodies n context callers r = λ e k. ih who false within ahead callers part x rest d (either_no s.1 _ _ s.4 e) p.3 low steps.2 b' (suc k) in
        let again_goes : Far may_call bodies (suc n) context callers (again test body done r) =
        again_far may_call bodies main facts who within ahead callers x s.1 test body done r loop n ih (λ k. same (suc k)) behind (λ e. b'.returns (not_if s.1 x.returns e)) in
        let behind_all : s.1 ≡ false → Far may_call bodies (suc n) context callers r = λ e k. walk_on who false within ahead callers part x rest d (either_no s.1 _ _ s.4 e) p.3 low steps.2 b (suc k) in
        let turns = turn_behind may_call bodies main facts who within ahead callers x s.1 test body done r loop (suc n) again_goes behind_all (λ e. b.returns (not_if s.1 x.returns e)) in
        let whole = walk_on who false within ahead callers false (of_turn s.1 x) body (turn test body done r) s.3 loop.body_placed low steps.1 turns in
        far_more (suc n) who agreed within callers (until body test y)
        (far_settled may_call bodies (suc n) context callers (until body test y) (idle may_call bodies (suc n) context (at (until body test y) callers) refl)
        (subst (λ c. Far may_call bodies (suc n) context callers c) (sym (opened_is body test body done r)) (λ k. whole (suc k))))
    walk_on who agreed within ahead callers part x (turn test body after rest) d s p low i b = absurd s
    walk_on who agreed within ahead callers part x (again test body after rest) d s p low i b = absurd s
    walk_on who agreed within ahead callers part x (quit t op rest) d s p low i b =
        let h : Nested (append (quit t op rest) d) = nested_append part false x (quit t op rest) d s b.nested.left b.allows b.quiet b.first in
        goes who agreed within ahead callers part x (quit t op rest) d s p low i (behind_fewer may_call bodies n who within ahead callers part x d b) refl (λ e. absurd (cc e)) refl
        (is_stepped bodies facts.nested (at (append (quit t op rest) d) callers) (record { left = h; callers = b.nested.callers })).goes_on
    walk_on who agreed within ahead callers part x (break rest) d s p low i b =
        let context = context_of who false within in
        let y = append rest d in
        far_more (suc n) who agreed within callers (break y)
        (far_settled may_call bodies (suc n) context callers (break y) (idle may_call bodies (suc n) context (at (break y) callers) refl)
        (subst (λ c. Far may_call bodies (suc n) context callers c) (sym (broken_append part false x rest d s.2)) (b.breaks s.1)))
    walk_on who agreed within ahead callers part x (continue rest) d s p low i b =
        let context = context_of who false within in
        let y = append rest d in
        far_more (suc n) who agreed within callers (continue y)
        (far_settled may_call bodies (suc n) context callers (continue y) (idle may_call bodies (suc n) context (at (continue y) callers) refl)
        (subst (λ c. Far may_call bodies (suc n) context callers c) (sym (continued_append part false x rest d s.2)) (b.continues s.1)))
    walk_on who agreed within ahead callers part x (call t op f opening rest) d s p low i b =
        let h : Nested (append (call t op f opening rest) d) = nested_append part false x (call t op f opening rest) d s b.nested.left b.allows b.quiet b.first in
        goes who agreed within ahead callers part x (call t op f opening rest) d s p low i (behind_fewer may_call bodies n who within ahead callers part x d b) refl (λ e. absurd (cc e)) refl
        (is_stepped bodies facts.nested (at (append (call t op f opening rest) d) callers) (record { left = h; callers = b.nested.callers })).goes_on
    walk_on who agreed within ahead callers part x (ends t op rest) d s p low i b =
        let h : Nested (append (ends t op rest) d) = nested_append part false x (ends t op rest) d s b.nested.left b.allows b.quiet b.first in
        goes who agreed within ahead callers part x (ends t op rest) d s p low i (behind_fewer may_call bodies n who within ahead callers part x d b) refl (λ e. absurd (cc e)) refl
        (is_stepped bodies facts.nested (at (append (ends t op rest) d) callers) (record { left = h; callers = b.nested.callers })).goes_on

  pub walk : (n : ℕ) → All may_call bodies n
  walk zero = λ who agreed within ahead callers part x code d s p low i b k. tt
  walk (suc n) = walk_on n (walk n)
