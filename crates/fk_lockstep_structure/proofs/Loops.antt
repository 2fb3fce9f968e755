-- Loops under way follow as far as what they are made of.
use Rattle.std.proofs.Common.{◌≡◌, ℕ, suc, Bool, true, false, true≢false, not, List, [], sym, refl, subst}
use Rattle.std.specs.Prelude.{if◌then◌else◌}
use Rattle.fk_meaning_forms.specs.Code.{Code, done, perform, choose, while, until, turn, again, quit, break, continue, call, ends, append}
use Rattle.fk_meaning.specs.Next.{Work, step, next}
use Rattle.fk_meaning.specs.Behind.{past}
use Rattle.fk_meaning.specs.Shape.{Exits, none, of_test, of_turn, begins, Shape}
use Rattle.fk_meaning.proofs.Spine.{untrue, broken_append}
use Rattle.fk_meaning.proofs.Nested.{Loop, Nested, nested_append, turn_allows, test_allows, turn_nested}
use Rattle.fk_meaning.proofs.Steps.{WorkNested, is_stepped}
use Rattle.fk_lockstep.specs.Course.{Context, DoesNext}
use Rattle.fk_lockstep_structure.specs.Placed.{Who, is_outermost, Placed}
use Rattle.fk_lockstep_structure.specs.Ahead.{starts, all_outs, AreCourses}
use Rattle.fk_lockstep_structure.proofs.Even.{at, Even, EvenBehind, even_append, even_turn, even_again}
use Rattle.fk_lockstep_structure.proofs.Far.{context_of, Goes}
use Rattle.fk_lockstep_structure.proofs.Behind.{F, Far, far_stable, far_settled, idle, Returns, Behind, Steps, All, before_more}
use Rattle.fk_lockstep_structure.proofs.First.{of_call, first_perform, first_choose, first_quit, calls_in, first_ends}

module _ (may_call : (in_group : Bool) → (function : ℕ) → Bool) (bodies : ℕ → Code ℕ) (main : ℕ) (facts : AreCourses may_call bodies main) where
  -- the next operation of code of a text
  pub first : (n : ℕ) → All may_call bodies n → (who : Who) (agreed within : Bool) (ahead : List Work) (callers : List (Code ℕ)) (part : Bool) (x : Exits) (code d : Code ℕ)
      → Shape part false x code → Placed may_call who false code → is_outermost who ≡ false → Steps may_call bodies who agreed code
      → Behind may_call bodies n who within ahead callers part x d → (here : Work) → starts here ≡ ahead → Goes here (step bodies (append code d) callers) → (code ≡ done → ⊥)
      → DoesNext (next bodies) all_outs (F may_call bodies n) (context_of who agreed within) here (step bodies (append code d) callers)
  first n ih who agreed within ahead callers part x done d s p low i b here even g never = absurd (never refl)
  first n ih who agreed within ahead callers part x (perform t op rest) d s p low i b here even g never =
      first_perform may_call bodies main facts n ih who agreed within ahead callers part x t op rest d s p low i b here even g
  first n ih who agreed within ahead callers part x (choose t op a z rest) d s p low i b here even g never =
      first_choose may_call bodies main facts n ih who agreed within ahead callers part x t op a z rest d s p low i b here even g
  first n ih who agreed within ahead callers part x (while test body after rest) d s p low i b here even g never = tt
  first n ih who agreed within ahead callers part x (until body test rest) d s p low i b here even g never = tt
  first n ih who agreed within ahead callers part x (turn test body after rest) d s p low i b here even g never = tt
  first n ih who agreed within ahead callers part x (again test body after rest) d s p low i b here even g never = tt
  first n ih who agreed within ahead callers part x (quit t op rest) d s p low i b here even g never =
      first_quit may_call bodies main facts n ih who agreed within ahead callers part x t op rest d s p low i b here even g
  first n ih who agreed within ahead callers part x (break rest) d s p low i b here even g never = tt
  first n ih who agreed within ahead callers part x (continue rest) d s p low i b here even g never = tt
  first n ih who agreed within ahead callers part x (call t op f opening rest) d s p low i b here even g never =
      let steps = of_call may_call bodies main facts who agreed t op f opening rest i in
      let whole : Nested (append (call t op f opening rest) d) = nested_append part false x (call t op f opening rest) d s b.nested.left b.allows b.quiet b.first in
      calls_in may_call bodies main facts n ih who agreed within ahead callers t op f opening (append rest d) s.1 p.1 s.2 p.2 p.3 steps.0
      (record { left = whole.2; callers = b.nested.callers })
      (even_append may_call ahead callers who part false false x rest d low s.3 p.4 b.even)
      (ih who false within ahead callers part x rest d s.3 p.4 low steps.1 b) here even g
  first n ih who agreed within ahead callers part x (ends t op rest) d s p low i b here even g never =
      first_ends may_call bodies main facts n ih who agreed within ahead callers op s.1 p.1 (b.returns s.2) here even g

  again_goes : (test body after rest : Code ℕ) (callers : List (Code ℕ)) → WorkNested (at (again test body after rest) callers) → (test ≡ done → ⊥)
      → Goes (at (again test body after rest) callers) (step bodies (append test (append body (turn test body after rest))) callers)
  again_goes done body after rest callers h never = absurd (never refl)
  again_goes (perform t op more) body after rest callers h never = (is_stepped bodies facts.nested (at (again (perform t op more) body after rest) callers) h).goes_on
  again_goes (choose t op a z more) body after rest callers h never = (is_stepped bodies facts.nested (at (again (choose t op a z more) body after rest) callers) h).goes_on
  again_goes (while a b c more) body after rest callers h never = tt
  again_goes (until a b more) body after rest callers h never = tt
  again_goes (turn a b c more) body after rest callers h never = tt
  again_goes (again a b c more) body after rest callers h never = tt
  again_goes (quit t op more) body after rest callers h never = (is_stepped bodies facts.nested (at (again (quit t op more) body after rest) callers) h).goes_on
  again_goes (break more) body after rest callers h never = tt
  again_goes (continue more) body after rest callers h never = tt
  again_goes (call t op f opening more) body after rest callers h never = (is_stepped bodies facts.nested (at (again (call t op f opening more) body after rest) callers) h).goes_on
  again_goes (ends t op more) body after rest callers h never = (is_stepped bodies facts.nested (at (again (ends t op more) body after rest) callers) h).goes_on

  test_not_done : (shrinking : Bool) (test : Code ℕ) → Shape false false (of_test shrinking) test → test ≡ done → ⊥
  test_not_done shrinking done s e = absurd (true≢false s.2)
  test_not_done shrinking test s e = absurd (cc e)

  not_true : (b : Bool) → not b ≡ true → b ≡ false
  not_true true e = untrue e
  not_true false e = refl

  -- a loop under way, and what is left behind it
  pub record IsLoop (who : Who) (ahead : List Work) (callers : List (Code ℕ)) (x : Exits) (shrinking : Bool) (test body after rest : Code ℕ) : Type 0 where
    pub test_in : Shape false false (of_test shrinking) test
    pub body_in : Shape false false (of_turn shrinking x) body
    pub after_in : Shape false false none after
    pub test_placed : Placed may_call who false test
    pub body_placed : Placed may_call who false body
    pub after_placed : Placed may_call who false after
    pub low : is_outermost who ≡ false
    pub test_steps : Steps may_call bodies who false test
    pub body_steps : Steps may_call bodies who false body
    pub after_steps : Steps may_call bodies who false after
    pub begins_behind : shrinking ≡ true → begins rest ≡ true
    pub past_returns : shrinking ≡ false → x.returns ≡ true → past rest ≡ []
    pub nested : WorkNested (at rest callers)
    pub even : Even ahead callers rest

  module _ (who : Who) (within : Bool) (ahead : List Work) (callers : List (Code ℕ)) (x : Exits) (shrinking : Bool) (test body after rest : Code ℕ)
      (h : IsLoop who ahead callers x shrinking test body after rest) where
    abbrev context : Context
    context = context_of who false within

    abbrev as_loop : Loop test body after rest
    as_loop = record {
      exits = x;
      shrinking = shrinking;
      test_in = h.test_in;
      body_in = h.body_in;
      step_in = h.after_in;
      begins_behind = h.begins_behind;
      returns = h.past_returns;
    }

    again_nested : WorkNested (at (again test body after rest) callers)
    again_nested = record { left = (as_loop, h.nested.left); callers = h.nested.callers }

    again_even : Even ahead callers (again test body after rest)
    again_even = even_again ahead callers test body after rest h.even

    after_even : Even ahead callers (append after (again test body after rest))
    after_even = even_append may_call ahead callers who false false false none after (again test body after rest) h.low h.after_in h.after_placed
        (record { onward = again_even; breaks = λ e. untrue e; continues = λ e. untrue e })

    turn_is_even : Even ahead callers (turn test body after rest)
    turn_is_even = even_turn ahead callers test body after rest h.even after_even

    even_behind : EvenBehind may_call ahead callers (of_turn shrinking x) (turn test body after rest)
    even_behind = record { onward = turn_is_even; breaks = λ e. h.even; continues = λ e. after_even }

    pub turn_far : (n : ℕ) → Far may_call bodies n context callers (append after (again test body after rest)) → Far may_call bodies n context callers (turn test body after rest)
    turn_far n far = far_settled may_call bodies n context callers (turn test body after rest) (idle may_call bodies n context (at (turn test body after rest) callers) refl) far

    pub turn_behind : (n : ℕ) → Far may_call bodies n context callers (append after (again test body after rest)) → (shrinking ≡ false → Far may_call bodies n context callers rest)
        → ((if shrinking then false else x.returns) ≡ true → Returns may_call bodies n who within ahead callers)
        → Behind may_call bodies n who within ahead callers false (of_turn shrinking x) (turn test body after rest)
    turn_behind n far behind returns = record {
      nested = record { left = (as_loop, h.nested.left); callers = h.nested.callers };
      allows = turn_allows test body after rest as_loop;
      quiet = λ e. untrue e;
      first = λ e. untrue e;
      in_group = λ e. untrue e;
      even = even_behind;
      even_tests = λ e. untrue e;
      onward = λ e. turn_far n far;
      breaks = λ e. behind (not_true shrinking e);
      continues = λ e. far;
      tests = λ e. untrue e;
      returns = returns;
    }

    test_behind : (n : ℕ) → Far may_call bodies n context callers (append body (turn test body after rest)) → (shrinking ≡ false → Far may_call bodies n context callers rest)
        → Behind may_call bodies n who within ahead callers false (of_test shrinking) (append body (turn test body after rest))
    test_behind n far behind =
        let broken_is = sym (broken_append false false (of_turn shrinking x) body (turn test body after rest) h.body_in) in
        record {
          nested = record { left = turn_nested test body after rest as_loop h.nested.left; callers = h.nested.callers };
          allows = test_allows test body after rest as_loop;
          quiet = λ e. untrue e;
          first = λ e. untrue e;
          in_group = λ e. untrue e;
          even = record {
            onward = even_append may_call ahead callers who false false false (of_turn shrinking x) body (turn test body after rest) h.low h.body_in h.body_placed even_behind;
            breaks = λ e. untrue e;
            continues = λ e. untrue e;
          };
          even_tests = λ e. subst (λ c. Even ahead callers c) broken_is h.even;
          onward = λ e. far;
          breaks = λ e. untrue e;
          continues = λ e. untrue e;
          tests = λ e f. subst (λ c. Far may_call bodies n context callers c) broken_is (behind f);
          returns = λ e. untrue e;
        }

    -- one operation further
    pub again_far : (n : ℕ) → All may_call bodies n → Far may_call bodies n context callers (again test body after rest) → (shrinking ≡ false → Far may_call bodies n context callers rest)
        → ((if shrinking then false else x.returns) ≡ true → Returns may_call bodies n who within ahead callers)
        → Far may_call bodies (suc n) context callers (again test body after rest)
    again_far n ih far behind returns =
        let here = at (again test body after rest) callers in
        let this = append body (turn test body after rest) in
        let after_far = ih who false within ahead callers false none after (again test body after rest) h.after_in h.after_placed h.low h.after_steps
        (before_more may_call bodies n who within ahead callers (again test body after rest) again_nested again_even far) in
        let this_far = ih who false within ahead callers false (of_turn shrinking x) body (turn test body after rest) h.body_in h.body_placed h.low h.body_steps
        (turn_behind n after_far behind returns) in
        let never = test_not_done shrinking test h.test_in in
        far_stable may_call bodies (suc n) context callers (again test body after rest) refl (
          first n ih who false within ahead callers false (of_test shrinking) test this h.test_in h.test_placed h.low h.test_steps
              (test_behind n this_far behind) here (again_even 0) (again_goes test body after rest callers again_nested never) never,
          far 0,
        )
