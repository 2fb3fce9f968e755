-- `main` on its outermost level: processors begin each `start` in turn.
use Rattle.std.proofs.Common.{◌≡◌, ℕ, zero, suc, Bool, true, false, true≢false, List, [], ◌∷◌, ◌++◌, ap, ap₂, ◌∙◌, sym, refl, subst}
use Rattle.std.specs.Prelude.{if◌then◌else◌}
use Rattle.fk_meaning_operation.specs.declared.operation.Operation.{Operation}
use Rattle.fk_meaning_operation.specs.declared.operation.Operation.TheVariants as o
use Rattle.fk_meaning_forms.specs.Code.{Code, done, perform, choose, while, until, turn, again, quit, break, continue, call, ends, append}
use Rattle.fk_meaning.specs.Left.{settled}
use Rattle.fk_meaning.specs.Next.{Work, going}
use Rattle.fk_meaning.specs.Behind.{works, outs}
use Rattle.fk_meaning.specs.Shape.{none, of_function, of_arm, of_test, of_turn, ends_part, begins, Either, Shape}
use Rattle.fk_meaning.proofs.Spine.{untrue, past_none}
use Rattle.fk_meaning.proofs.Nested.{body_nested, settles}
use Rattle.fk_meaning.proofs.Steps.{WorkNested, is_stepped}
use Rattle.fk_lockstep.specs.Course.{InGroup, ByItself}
use Rattle.fk_lockstep_structure.specs.Placed.{OfGroup, OfMain, Placed}
use Rattle.fk_lockstep_structure.specs.Ahead.{starts, all_outs, AreCourses, CodeFollows}
use Rattle.fk_lockstep_structure.proofs.Even.{at, stable, Even, even_settled, even_turn, even_again, even_append, opened_is}
use Rattle.fk_lockstep_structure.proofs.Far.{joined, performed, branched}
use Rattle.fk_lockstep_structure.proofs.Behind.{either_yes, F, FollowsTo, exactly, Far, far_stable, far_settled, idle, Behind, part_behind, waits}
use Rattle.fk_lockstep_structure.proofs.First.{calls_in, first_ends}
use Rattle.fk_lockstep_structure.proofs.Loops.{IsLoop, turn_behind, again_far}
use Rattle.fk_lockstep_structure.proofs.Walk.{walk}

module _ (may_call : (in_group : Bool) → (function : ℕ) → Bool) (bodies : ℕ → Code ℕ) (main : ℕ) (facts : AreCourses may_call bodies main) where
  abbrev InMain : Code ℕ → Type 0
  InMain code = Shape false false of_function code × Placed may_call (OfMain true) false code

  abbrev here_at : Code ℕ → Work
  here_at code = at code []

  -- code of `main` behind what it begins with
  after_perform : (t : ℕ) (op : Operation) (rest : Code ℕ) → InMain (perform t op rest) → InMain rest
  after_perform t op rest h = by (ends_part op) h.0.2
    where
      by : (b : Bool) → Either b ((false ≡ true) × (false ≡ false) × (rest ≡ done)) (Shape false false of_function rest) → InMain rest
      by true e = untrue e.0
      by false e = (e, h.1.1)

  abbrev EvenMain : Code ℕ → Type 0
  EvenMain code = Even (starts (here_at code)) [] code

  as_it_is : (code : Code ℕ) → settled code ≡ code → EvenMain code
  as_it_is code e k = ap (λ c. starts (here_at c)) (stable code e k)

  even_main : (resuming closing : Bool) (code : Code ℕ) → Shape false closing of_function code → Placed may_call (OfMain true) resuming code → EvenMain code
  even_main resuming closing done s p = as_it_is done refl
  even_main resuming closing (perform t op rest) s p = as_it_is (perform t op rest) refl
  even_main resuming closing (choose t op a z rest) s p = as_it_is (choose t op a z rest) refl
  even_main resuming closing (while test body after rest) s p =
      let more = even_main false false rest (plain s.1 rest s.5) p.4 in
      even_settled (starts (here_at rest)) [] (while test body after rest) rest refl refl
      (even_again (starts (here_at rest)) [] test body after (settled rest) (λ k. more (suc k)))
    where
      plain : (b : Bool) (rest : Code ℕ) → Either b ((false ≡ true) × (false ≡ false) × (rest ≡ done)) (Shape false false of_function rest) → Shape false false of_function rest
      plain true rest e = untrue e.0
      plain false rest e = e
  even_main resuming closing (until body test rest) s p =
      let more = even_main false false rest (plain s.1 rest s.4) p.3 in
      let ahead = starts (here_at rest) in
      let r = settled rest in
      let behind : Even ahead [] r = λ k. more (suc k) in
      let under_way = even_again ahead [] test body done r behind in
      let whole = even_append may_call ahead [] (OfMain false) false false false (of_turn s.1 of_function) body (turn test body done r) refl s.3 p.1
      (record { onward = even_turn ahead [] test body done r behind under_way; breaks = λ e. behind; continues = λ e. under_way }) in
      even_settled ahead [] (until body test rest) rest refl refl
      (subst (λ c. Even ahead [] c) (sym (opened_is body test body done r)) (λ k. whole (suc k)))
    where
      plain : (b : Bool) (rest : Code ℕ) → Either b ((false ≡ true) × (false ≡ false) × (rest ≡ done)) (Shape false false of_function rest) → Shape false false of_function rest
      plain true rest e = untrue e.0
      plain false rest e = e
  even_main resuming closing (turn test body after rest) s p = absurd s
  even_main resuming closing (again test body after rest) s p = absurd s
  even_main resuming closing (quit t op rest) s p = as_it_is (quit t op rest) refl
  even_main resuming closing (break rest) s p = untrue s.1
  even_main resuming closing (continue rest) s p = untrue s.1
  even_main resuming closing (call t op f opening rest) s p = as_it_is (call t op f opening rest) refl
  even_main resuming closing (ends t op rest) s p = as_it_is (ends t op rest) refl

  even_in : (code : Code ℕ) → InMain code → EvenMain code
  even_in code h = even_main false false code h.0 h.1

  nested_in : (code : Code ℕ) → Shape false false of_function code → WorkNested (here_at code)
  nested_in code s = record { left = body_nested code s; callers = tt }

  abbrev Farther : Code ℕ → Type 0
  Farther code = (n : ℕ) → Far may_call bodies n (ByItself false) [] code

  -- operation by operation
  to_all : (code : Code ℕ) → settled code ≡ code → ((n : ℕ) → F may_call bodies (suc n) (ByItself false) (here_at code)) → Farther code
  to_all code e h n = far_stable may_call bodies n (ByItself false) [] code e (to n)
    where
      to : (n : ℕ) → FollowsTo may_call bodies n (ByItself false) (here_at code)
      to zero = tt
      to (suc n) = (h n, to n)

  performs : (t : ℕ) (op : Operation) (rest : Code ℕ) → InMain (perform t op rest) → Farther rest → Farther (perform t op rest)
  performs t op rest h far = to_all (perform t op rest) refl
      (λ n. performed (F may_call bodies n) bodies (OfMain true) false false op (here_at (perform t op rest)) (going rest []) h.1.0 h.0.1 h.0.0
      (λ e. untrue (either_yes (ends_part op) _ _ h.0.2 e).0) (λ e. absurd (cc e))
      (is_stepped bodies facts.nested (here_at (perform t op rest)) (nested_in (perform t op rest) h.0)).goes_on
      (even_in rest (after_perform t op rest h) 1)
      (λ e. exactly may_call bodies n (ByItself false) (going rest []) (far n 1)))

  -- behind the arms of a branch, and behind a loop
  behind_main : (n : ℕ) (rest : Code ℕ) → InMain rest → Farther rest → Behind may_call bodies n (OfMain false) false (starts (here_at rest)) [] false (of_arm of_function) rest
  behind_main n rest h far = record {
    nested = nested_in rest h.0;
    allows = record { breaks = λ e. untrue e; continues = λ e. untrue e; returns = λ e. past_none of_function rest h.0; tests = λ e. untrue e };
    quiet = λ e. untrue e;
    first = λ e. untrue e;
    in_group = λ e. untrue e;
    even = record { onward = even_in rest h; breaks = λ e. untrue e; continues = λ e. untrue e };
    even_tests = λ e. untrue e;
    onward = λ e. far n;
    breaks = λ e. untrue e;
    continues = λ e. untrue e;
    tests = λ e. untrue e;
    returns = λ e. refl;
  }

  branches : (t : ℕ) (on : Bool) (a z rest : Code ℕ) → InMain (choose t (o.Branch on) a z rest) → Farther rest → Farther (choose t (o.Branch on) a z rest)
  branches t on a z rest h far = to_all (choose t (o.Branch on) a z rest) refl
      (λ n. branched (F may_call bodies n) bodies (OfMain true) false false on (here_at (choose t (o.Branch on) a z rest))
      (λ onward. going (append (if onward then a else z) rest) []) (λ e. absurd (cc e))
      (is_stepped bodies facts.nested (here_at (choose t (o.Branch on) a z rest)) (nested_in (choose t (o.Branch on) a z rest) h.0)).goes_on
      (evens n) (ways n))
    where
      in_rest : InMain rest
      in_rest = (h.0.6, h.1.5)

      evens : (n : ℕ) (onward : Bool) → starts (going (append (if onward then a else z) rest) []) ≡ starts (here_at rest)
      evens n true = even_append may_call (starts (here_at rest)) [] (OfMain false) false false false (of_arm of_function) a rest refl h.0.2 h.1.2 (behind_main n rest in_rest far).even 1
      evens n false = even_append may_call (starts (here_at rest)) [] (OfMain false) false false false (of_arm of_function) z rest refl h.0.3 h.1.3 (behind_main n rest in_rest far).even 1

      ways : (n : ℕ) (onward : Bool) → F may_call bodies n (ByItself false) (going (append (if onward then a else z) rest) [])
      ways n true = exactly may_call bodies n (ByItself false) (going (append a rest) [])
          (walk may_call bodies main facts n (OfMain false) false false (starts (here_at rest)) [] false (of_arm of_function) a rest h.0.2 h.1.2 refl tt (behind_main n rest in_rest far) 1)
      ways n false = exactly may_call bodies n (ByItself false) (going (append z rest) [])
          (walk may_call bodies main facts n (OfMain false) false false (starts (here_at rest)) [] false (of_arm of_function) z rest h.0.3 h.1.3 refl tt (behind_main n rest in_rest far) 1)

  -- a `start`
  begins_on : (n t u : ℕ) (a more : Code ℕ) → InMain more → Farther more
      → Shape false false of_function (choose t o.Begin a done (perform u o.Resume more)) → Placed may_call (OfMain true) false (choose t o.Begin a done (perform u o.Resume more))
      → F may_call bodies (suc n) (ByItself false) (here_at (choose t o.Begin a done (perform u o.Resume more)))
  begins_on n t u a more h far s p = (
    ap (λ (ws : List Work). ws ++ starts here) nothing ∙ ap (λ (ws : List Work). here ∷ ws) (sym all_behind),
    waits may_call bodies facts.nested n false u more [] (nested_in rest s.6) (even_in more h 1) (far n),
    joined (outs inside) (starts inside) (behind ∷ outs behind) (starts behind) (goes.1 ∙ ap (λ (ws : List Work). behind ∷ ws) (sym goes.0)) (even_inside 1),
    exactly may_call bodies n (InGroup false) inside
        (walk may_call bodies main facts n OfGroup false false (starts (here_at rest)) [] true none a rest s.2 p.2 refl (p.4 refl) in_part 1),
  )
    where
      rest : Code ℕ
      rest = perform u o.Resume more

      here : Work
      here = here_at (choose t o.Begin a done rest)

      behind : Work
      behind = going rest []

      inside : Work
      inside = going (append a rest) []

      goes : (outs behind ≡ outs here) × (outs inside ≡ behind ∷ outs here)
      goes = (is_stepped bodies facts.nested here (nested_in (choose t o.Begin a done rest) s)).goes_on

      nothing : outs here ≡ []
      nothing = ap (λ (cs : List (Code ℕ)). works [] cs ++ []) (past_none of_function (choose t o.Begin a done rest) s)

      all_behind : all_outs behind ≡ starts behind
      all_behind = ap (λ (ws : List Work). ws ++ starts behind) (goes.0 ∙ nothing)

      in_part : Behind may_call bodies n OfGroup false (starts (here_at rest)) [] true none rest
      in_part = part_behind may_call bodies n false (starts (here_at rest)) [] rest (nested_in rest s.6) refl (as_it_is rest refl)

      even_inside : Even (starts (here_at rest)) [] (append a rest)
      even_inside = even_append may_call (starts (here_at rest)) [] OfGroup true false false none a rest refl s.2 p.2 in_part.even

  -- loops of `main`
  plain : (b : Bool) (rest : Code ℕ) → Either b ((false ≡ true) × (false ≡ false) × (rest ≡ done)) (Shape false false of_function rest) → Shape false false of_function rest
  plain true rest e = untrue e.0
  plain false rest e = e

  starts_shrinking : (b : Bool) (rest : Code ℕ) → Either b ((false ≡ true) × (false ≡ false) × (rest ≡ done)) (Shape false false of_function rest) → b ≡ true → begins (settled rest) ≡ true
  starts_shrinking true rest e f = untrue e.0
  starts_shrinking false rest e f = untrue f

  module _ (shrinking : Bool) (test body after rest : Code ℕ) (t : Shape false false (of_test shrinking) test) (u : Shape false false (of_turn shrinking of_function) body)
      (w : Shape false false none after) (e : Either shrinking ((false ≡ true) × (false ≡ false) × (rest ≡ done)) (Shape false false of_function rest))
      (p : Placed may_call (OfMain false) false test) (q : Placed may_call (OfMain false) false body) (r : Placed may_call (OfMain false) false after)
      (h : InMain rest) (far : Farther rest) where
    abbrev behind : Code ℕ
    behind = settled rest

    abbrev ahead : List Work
    ahead = starts (here_at rest)

    loop : IsLoop may_call bodies main facts (OfMain false) ahead [] of_function shrinking test body after behind
    loop =
        let same = settles rest (body_nested rest h.0) in
        record {
          test_in = t;
          body_in = u;
          after_in = w;
          test_placed = p;
          body_placed = q;
          after_placed = r;
          low = refl;
          test_steps = tt;
          body_steps = tt;
          after_steps = tt;
          begins_behind = starts_shrinking shrinking rest e;
          past_returns = λ f g. same.same ∙ past_none of_function rest h.0;
          nested = record { left = same.nested; callers = tt };
          even = λ k. even_in rest h (suc k);
        }

    far_behind : (n : ℕ) → Far may_call bodies n (ByItself false) [] behind
    far_behind n k = far n (suc k)

    under_way : (n : ℕ) → Far may_call bodies n (ByItself false) [] (again test body after behind)
    under_way zero = λ k. tt
    under_way (suc n) =
        again_far may_call bodies main facts (OfMain false) false ahead [] of_function shrinking test body after behind loop n (walk may_call bodies main facts n) (under_way n)
        (λ f. far_behind n) (λ f. refl)

    whiles : Farther (while test body after rest)
    whiles n = far_settled may_call bodies n (ByItself false) [] (while test body after rest) (idle may_call bodies n (ByItself false) (here_at (while test body after rest)) refl) (under_way n)

    untils : after ≡ done → Farther (until body test rest)
    untils f n =
        let turns = turn_behind may_call bodies main facts (OfMain false) false ahead [] of_function shrinking test body after behind loop n
        (subst (λ c. Far may_call bodies n (ByItself false) [] (append c (again test body after behind))) (sym f) (under_way n)) (λ g. far_behind n) (λ g. refl) in
        let whole : Far may_call bodies n (ByItself false) [] (append body (turn test body after behind)) =
        walk may_call bodies main facts n (OfMain false) false false ahead [] false (of_turn shrinking of_function) body (turn test body after behind) u q refl tt turns in
        let same : Far may_call bodies n (ByItself false) [] (append body (turn test body done behind)) =
        subst (λ c. Far may_call bodies n (ByItself false) [] (append body (turn test body c behind))) f whole in
        far_settled may_call bodies n (ByItself false) [] (until body test rest) (idle may_call bodies n (ByItself false) (here_at (until body test rest)) refl)
        (subst (λ c. Far may_call bodies n (ByItself false) [] c) (sym (opened_is body test body done behind)) (λ k. same (suc k)))

  calls_main : (t : ℕ) (op : Operation) (f : ℕ) (opening rest : Code ℕ) → InMain (call t op f opening rest) → Farther rest → Farther (call t op f opening rest)
  calls_main t op f opening rest h far = to_all (call t op f opening rest) refl
      (λ n. calls_in may_call bodies main facts n (walk may_call bodies main facts n) (OfMain true) false false (starts (here_at rest)) [] t op f opening rest
      h.0.1 h.1.1 h.0.2 h.1.2 h.1.3 tt (nested_in rest h.0.3) (even_in rest (h.0.3, h.1.4)) (far n) (here_at (call t op f opening rest)) refl
      (is_stepped bodies facts.nested (here_at (call t op f opening rest)) (nested_in (call t op f opening rest) h.0)).goes_on)

  ends_main : (t : ℕ) (op : Operation) (rest : Code ℕ) → InMain (ends t op rest) → Farther (ends t op rest)
  ends_main t op rest h = to_all (ends t op rest) refl
      (λ n. first_ends may_call bodies main facts n (walk may_call bodies main facts n) (OfMain true) false false (starts (here_at rest)) [] op h.0.1 h.1.1 refl
      (here_at (ends t op rest)) refl
      (is_stepped bodies facts.nested (here_at (ends t op rest)) (nested_in (ends t op rest) h.0)).goes_on)

  -- what stands behind a `start`
  record Resumes (rest : Code ℕ) : Type 0 where
    tag : ℕ
    more : Code ℕ
    is : rest ≡ perform tag o.Resume more
    in_main : InMain more
    far : Farther more

  begins_main : (t : ℕ) (a z rest : Code ℕ) → InMain (choose t o.Begin a z rest) → Resumes rest → Farther (choose t o.Begin a z rest)
  begins_main t a z rest h r =
      let same : choose t o.Begin a done (perform r.tag o.Resume r.more) ≡ choose t o.Begin a z rest =
      ap₂ (λ (c d : Code ℕ). choose t o.Begin a c d) (sym (h.0.4 refl)) (sym r.is) in
      let both : InMain (choose t o.Begin a done (perform r.tag o.Resume r.more)) = subst InMain (sym same) h in
      subst Farther same
      (to_all (choose t o.Begin a done (perform r.tag o.Resume r.more)) refl (λ n. begins_on n t r.tag a r.more r.in_main r.far both.0 both.1))

  mutual
    follows : (code : Code ℕ) → Shape false false of_function code → Placed may_call (OfMain true) false code → Farther code
    follows done s p n = far_stable may_call bodies n (ByItself false) [] done refl (idle may_call bodies n (ByItself false) (here_at done) refl)
    follows (perform t op rest) s p n = performs t op rest (s, p) (by (ends_part op) s.2 (λ e. follows rest e p.1)) n
      where
        by : (b : Bool) → Either b ((false ≡ true) × (false ≡ false) × (rest ≡ done)) (Shape false false of_function rest) → (Shape false false of_function rest → Farther rest) → Farther rest
        by true e f = untrue e.0
        by false e f = f e
    follows (choose t (o.Branch on) a z rest) s p n = branches t on a z rest (s, p) (follows rest s.6 p.5) n
    follows (choose t o.Begin a z rest) s p n = begins_main t a z rest (s, p) (resumes rest s.6 p.5) n
    follows (choose t (o.Split by) a z rest) s p n = untrue p.1
    follows (choose t o.Farm a z rest) s p n = untrue p.1
    follows (choose t o.Seq a z rest) s p n = untrue p.1
    follows (choose t op a z rest) s p n = untrue s.1
    follows (while test body after rest) s p n =
        let more = plain s.1 rest s.5 in
        whiles s.1 test body after rest s.2 s.3 s.4 s.5 p.1 p.2 p.3 (more, p.4) (follows rest more p.4) n
    follows (until body test rest) s p n =
        let more = plain s.1 rest s.4 in
        untils s.1 test body done rest s.2 s.3 (refl, refl, refl) s.4 p.2 p.1 refl (more, p.3) (follows rest more p.3) refl n
    follows (turn test body after rest) s p n = absurd s
    follows (again test body after rest) s p n = absurd s
    follows (quit t op rest) s p n = untrue s.3
    follows (break rest) s p n = untrue s.1
    follows (continue rest) s p n = untrue s.1
    follows (call t op f opening rest) s p n = calls_main t op f opening rest (s, p) (follows rest s.3 p.4) n
    follows (ends t op rest) s p n = ends_main t op rest (s, p) n

    resumes : (rest : Code ℕ) → Shape false false of_function rest → Placed may_call (OfMain true) true rest → Resumes rest
    resumes (perform t o.Resume rest) s p = record { tag = t; more = rest; is = refl; in_main = (s.2, p.1); far = follows rest s.2 p.1 }
    resumes (perform t o.Halt rest) s p = untrue p.0
    resumes (perform t op rest) s p = untrue p.0
    resumes done s p = absurd (true≢false p)
    resumes (choose t op a z rest) s p = absurd (true≢false p.0)
    resumes (while test body after rest) s p = absurd (true≢false p.0)
    resumes (until body test rest) s p = absurd (true≢false p.0)
    resumes (turn test body after rest) s p = absurd p
    resumes (again test body after rest) s p = absurd p
    resumes (quit t op rest) s p = absurd (true≢false p.0)
    resumes (break rest) s p = absurd (true≢false p.0)
    resumes (continue rest) s p = absurd (true≢false p.0)
    resumes (call t op f opening rest) s p = absurd (true≢false p.0)
    resumes (ends t op rest) s p = absurd (true≢false p.0)

pub code_follows : CodeFollows
code_follows may_call bodies main facts n =
    exactly may_call bodies n (ByItself false) (going (bodies main) []) (follows may_call bodies main facts (bodies main) (facts.nested main) facts.main_of n 1)
