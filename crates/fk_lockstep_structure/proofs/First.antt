-- The first operation of code of a text, and how a processor goes on behind it.
use Rattle.std.proofs.Common.{◌≡◌, ℕ, Bool, true, false, true≢false, List, ◌∷◌, None, ap, ◌∙◌, sym, refl, subst}
use Rattle.std.specs.Prelude.{if◌then◌else◌}
use Rattle.fk_meaning_operation.specs.declared.operation.Operation.{Operation}
use Rattle.fk_meaning_operation.specs.declared.operation.Operation.TheVariants as o
use Rattle.fk_meaning_operation.specs.declared.operation.SplitKind.{SplitKind}
use Rattle.fk_meaning_operation.specs.declared.operation.SplitKind.TheVariants as v
use Rattle.fk_meaning_forms.specs.Code.{Code, done, perform, choose, while, until, turn, again, quit, break, continue, call, ends, append}
use Rattle.fk_meaning.specs.Left.{broken}
use Rattle.fk_meaning.specs.Next.{Work, going, returned, next}
use Rattle.fk_meaning.specs.Behind.{tail, outs, GoesOn}
use Rattle.fk_meaning.specs.Shape.{Exits, none, of_function, of_arm, is_of_call, ends_part, Either, Shape}
use Rattle.fk_meaning.proofs.Spine.{untrue, append_done}
use Rattle.fk_meaning.proofs.Nested.{Nested, nested_append, body_nested, no_exits}
use Rattle.fk_meaning.proofs.Steps.{WorkNested}
use Rattle.fk_lockstep.specs.InStep.{is_agree, may_stand, leaves_step, InStep}
use Rattle.fk_lockstep.specs.Course.{Context, InGroup, Waits, ByItself, Does}
use Rattle.fk_lockstep_structure.specs.Placed.{Who, OfGroup, OfBody, OfMain, is_group, is_main, is_outermost, is_halt, inner, callee_of, may_end, Placed}
use Rattle.fk_lockstep_structure.specs.Ahead.{starts, all_outs, AreCourses}
use Rattle.fk_lockstep_structure.proofs.Even.{at, Even, even_append, inner_low}
use Rattle.fk_lockstep_structure.proofs.Far.{context_of, joined, performed, branched, one_part, two_parts}
use Rattle.fk_lockstep_structure.proofs.Behind.{either_yes, either_no, behind_part, F, exactly, Far, far_stable, idle, Returns, Behind, Steps, All, part_behind, before_more, arm_behind, waits, meets}

module _ (may_call : (in_group : Bool) → (function : ℕ) → Bool) (bodies : ℕ → Code ℕ) (main : ℕ) (facts : AreCourses may_call bodies main) where
  abbrev Does' : ℕ → Context → Operation → (here : Work) → (rest : Bool → Work) → Type 0
  Does' n = Does (next bodies) all_outs (F may_call bodies n)

  -- what is in step, by its parts
  of_perform : (who : Who) (agreed : Bool) (t : ℕ) (op : Operation) (rest : Code ℕ) → Steps may_call bodies who agreed (perform t op rest)
      → (who ≡ OfGroup → may_stand agreed op ≡ true) × Steps may_call bodies who (is_agree op) rest
  of_perform OfGroup agreed t op rest i = ((λ e. i.0), i.1)
  of_perform OfBody agreed t op rest i = ((λ e. absurd (cc e)), tt)
  of_perform (OfMain b) agreed t op rest i = ((λ e. absurd (cc e)), tt)

  of_choose : (who : Who) (agreed : Bool) (t : ℕ) (op : Operation) (a z rest : Code ℕ) → leaves_step op ≡ false → Steps may_call bodies who agreed (choose t op a z rest)
      → (who ≡ OfGroup → may_stand agreed op ≡ true) × Steps may_call bodies who false a × Steps may_call bodies who false z × Steps may_call bodies who false rest
  of_choose OfGroup agreed t o.Farm a z rest e i = absurd (true≢false e)
  of_choose OfGroup agreed t o.Seq a z rest e i = absurd (true≢false e)
  of_choose OfGroup agreed t o.End a z rest e i = absurd (true≢false e)
  of_choose OfGroup agreed t op a z rest e i = ((λ f. i.0), i.1, i.2, i.3)
  of_choose OfBody agreed t op a z rest e i = ((λ f. absurd (cc f)), tt, tt, tt)
  of_choose (OfMain b) agreed t op a z rest e i = ((λ f. absurd (cc f)), tt, tt, tt)

  of_quit : (who : Who) (agreed : Bool) (t : ℕ) (op : Operation) (rest : Code ℕ) → Steps may_call bodies who agreed (quit t op rest) → who ≡ OfGroup → may_stand agreed op ≡ true
  of_quit OfGroup agreed t op rest i e = i.0
  of_quit OfBody agreed t op rest i e = absurd (cc e)
  of_quit (OfMain b) agreed t op rest i e = absurd (cc e)

  pub of_call : (who : Who) (agreed : Bool) (t : ℕ) (op : Operation) (f : ℕ) (opening rest : Code ℕ) → Steps may_call bodies who agreed (call t op f opening rest)
      → Steps may_call bodies (callee_of who) false opening × Steps may_call bodies who false rest
  of_call OfGroup agreed t op f opening rest i = (i.2, i.3)
  of_call OfBody agreed t op f opening rest i = (tt, tt)
  of_call (OfMain b) agreed t op f opening rest i = (tt, tt)

  of_ends : (who : Who) (agreed : Bool) (t : ℕ) (op : Operation) (rest : Code ℕ) → Steps may_call bodies who agreed (ends t op rest) → Steps may_call bodies who false rest
  of_ends OfGroup agreed t op rest i = i.1
  of_ends OfBody agreed t op rest i = tt
  of_ends (OfMain b) agreed t op rest i = tt

  -- behind parts, and at the end of a body
  waits_at : (n : ℕ) (ih : All may_call bodies n) (ahead : List Work) (callers : List (Code ℕ)) (part : Bool) (x : Exits) (rest d : Code ℕ)
      → Shape part false x rest → Placed may_call OfGroup true rest → InStep (may_call true) false rest → Behind may_call bodies n OfGroup false ahead callers part x d
      → F may_call bodies n (Waits true) (going (append rest d) callers)
  waits_at n ih ahead callers part x (perform t o.Resume more) d s p i b =
      let even = even_append may_call ahead callers OfGroup part false false x more d refl s.2 p.1 b.even in
      let h : Nested (append (perform t o.Resume more) d) =
      nested_append part false x (perform t o.Resume more) d s b.nested.left b.allows b.quiet b.first in
      waits may_call bodies facts.nested n true t (append more d) callers (record { left = h; callers = b.nested.callers }) (even 1 ∙ sym (even 0))
      (ih OfGroup false false ahead callers part x more d s.2 p.1 refl i.1 b)
  waits_at n ih ahead callers part x (perform t o.Halt more) d s p i b = untrue p.0
  waits_at n ih ahead callers part x (perform t op more) d s p i b = untrue p.0
  waits_at n ih ahead callers part x done d s p i b = absurd (true≢false p)
  waits_at n ih ahead callers part x (choose t op a z more) d s p i b = absurd (true≢false p.0)
  waits_at n ih ahead callers part x (while test body after more) d s p i b = absurd (true≢false p.0)
  waits_at n ih ahead callers part x (until body test more) d s p i b = absurd (true≢false p.0)
  waits_at n ih ahead callers part x (turn test body after more) d s p i b = absurd p
  waits_at n ih ahead callers part x (again test body after more) d s p i b = absurd p
  waits_at n ih ahead callers part x (quit t op more) d s p i b = absurd (true≢false p.0)
  waits_at n ih ahead callers part x (break more) d s p i b = absurd (true≢false p.0)
  waits_at n ih ahead callers part x (continue more) d s p i b = absurd (true≢false p.0)
  waits_at n ih ahead callers part x (call t op f opening more) d s p i b = absurd (true≢false p.0)
  waits_at n ih ahead callers part x (ends t op more) d s p i b = absurd (true≢false p.0)

  meets_at : (n : ℕ) (ih : All may_call bodies n) (ahead : List Work) (callers : List (Code ℕ)) (part : Bool) (x : Exits) (rest d : Code ℕ)
      → Shape part true x rest → Placed may_call OfGroup false rest → InStep (may_call true) false rest → Behind may_call bodies n OfGroup false ahead callers part x d
      → Far may_call bodies n (ByItself true) callers (append rest d)
  meets_at n ih ahead callers part x (perform t (o.Meet true) more) d s p i b =
      let even = even_append may_call ahead callers OfGroup part false false x more d refl s.2 p.1 b.even in
      let h : Nested (append (perform t (o.Meet true) more) d) =
      nested_append part true x (perform t (o.Meet true) more) d s b.nested.left b.allows b.quiet b.first in
      far_stable may_call bodies n (ByItself true) callers (perform t (o.Meet true) (append more d)) refl
      (meets may_call bodies facts.nested n t (append more d) callers (record { left = h; callers = b.nested.callers }) (even 1 ∙ sym (even 0))
      (ih OfGroup false false ahead callers part x more d s.2 p.1 refl i.1 b))
  meets_at n ih ahead callers part x (perform t op more) d s p i b = untrue s.0
  meets_at n ih ahead callers part x done d s p i b = absurd (true≢false s.0)
  meets_at n ih ahead callers part x (choose t op a z more) d s p i b = absurd (true≢false s.0)
  meets_at n ih ahead callers part x (while test body after more) d s p i b = absurd (true≢false s.0)
  meets_at n ih ahead callers part x (until body test more) d s p i b = absurd (true≢false s.0)
  meets_at n ih ahead callers part x (turn test body after more) d s p i b = absurd p
  meets_at n ih ahead callers part x (again test body after more) d s p i b = absurd p
  meets_at n ih ahead callers part x (quit t op more) d s p i b = absurd (true≢false s.0)
  meets_at n ih ahead callers part x (break more) d s p i b = absurd (true≢false s.0)
  meets_at n ih ahead callers part x (continue more) d s p i b = absurd (true≢false s.0)
  meets_at n ih ahead callers part x (call t op f opening more) d s p i b = absurd (true≢false s.0)
  meets_at n ih ahead callers part x (ends t op more) d s p i b = absurd (true≢false s.0)

  module _ (n : ℕ) (ih : All may_call bodies n) where
    pub first_perform : (who : Who) (agreed within : Bool) (ahead : List Work) (callers : List (Code ℕ)) (part : Bool) (x : Exits) (t : ℕ) (op : Operation) (rest d : Code ℕ)
        → Shape part false x (perform t op rest) → Placed may_call who false (perform t op rest) → is_outermost who ≡ false → Steps may_call bodies who agreed (perform t op rest)
        → Behind may_call bodies n who within ahead callers part x d → (here : Work) → starts here ≡ ahead
        → GoesOn op here (outs here) (λ onward. going (append rest d) callers)
        → Does' n (context_of who agreed within) op here (λ onward. going (append rest d) callers)
    first_perform who agreed within ahead callers part x t op rest d s p low i b here even g =
        let w = going (append rest d) callers in
        let steps = of_perform who agreed t op rest i in
        performed (F may_call bodies n) bodies who agreed within op here w p.0 s.1 s.0
        (λ e. b.in_group (either_yes (ends_part op) _ _ s.2 e).0) steps.0 g (by (ends_part op) s.2 ∙ sym even)
        (λ e. exactly may_call bodies n (context_of who (is_agree op) within) w
        (ih who (is_agree op) within ahead callers part x rest d (either_no (ends_part op) _ _ s.2 e) p.1 low steps.1 b 1))
      where
        by : (e : Bool) → Either e ((part ≡ true) × (x.tests ≡ false) × (rest ≡ done)) (Shape part false x rest) → starts (going (append rest d) callers) ≡ ahead
        by true h = subst (λ r. starts (going (append r d) callers) ≡ ahead) (sym h.2) (b.even.onward 1)
        by false h = even_append may_call ahead callers who part false false x rest d low h p.1 b.even 1

    -- choices
    pub first_branch : (who : Who) (agreed within : Bool) (ahead : List Work) (callers : List (Code ℕ)) (part : Bool) (x : Exits) (t : ℕ) (on : Bool) (a z rest d : Code ℕ)
        → Shape part false x (choose t (o.Branch on) a z rest) → Placed may_call who false (choose t (o.Branch on) a z rest) → is_outermost who ≡ false
        → Steps may_call bodies who agreed (choose t (o.Branch on) a z rest)
        → Behind may_call bodies n who within ahead callers part x d → (here : Work) → starts here ≡ ahead
        → GoesOn (o.Branch on) here (outs here) (λ onward. going (append (if onward then a else z) (append rest d)) callers)
        → Does' n (context_of who agreed within) (o.Branch on) here (λ onward. going (append (if onward then a else z) (append rest d)) callers)
    first_branch who agreed within ahead callers part x t on a z rest d s p low i b here even g =
        branched (F may_call bodies n) bodies who agreed within on here (λ onward. going (append (if onward then a else z) y) callers) steps.0 g evens ways
      where
        y : Code ℕ
        y = append rest d

        steps : (who ≡ OfGroup → may_stand agreed (o.Branch on) ≡ true) × Steps may_call bodies who false a × Steps may_call bodies who false z × Steps may_call bodies who false rest
        steps = of_choose who agreed t (o.Branch on) a z rest refl i

        whole : Nested (append (choose t (o.Branch on) a z rest) d)
        whole = nested_append part false x (choose t (o.Branch on) a z rest) d s b.nested.left b.allows b.quiet b.first

        even_y : Even ahead callers y
        even_y = even_append may_call ahead callers who part false false x rest d low s.6 p.5 b.even

        behind : Behind may_call bodies n who within ahead callers false (of_arm x) y
        behind = arm_behind may_call bodies n who within ahead callers part x rest d s.6 b whole.8 even_y
            (ih who false within ahead callers part x rest d s.6 p.5 low steps.3 b)

        in_arm : (code : Code ℕ) → Placed may_call (inner who) false code → Placed may_call who false code
        in_arm code h = subst (λ w. Placed may_call w false code) (inner_low who low) h

        evens : (onward : Bool) → starts (going (append (if onward then a else z) y) callers) ≡ starts here
        evens true = even_append may_call ahead callers who false false false (of_arm x) a y low s.2 (in_arm a p.2) behind.even 1 ∙ sym even
        evens false = even_append may_call ahead callers who false false false (of_arm x) z y low s.3 (in_arm z p.3) behind.even 1 ∙ sym even

        ways : (onward : Bool) → F may_call bodies n (context_of who false within) (going (append (if onward then a else z) y) callers)
        ways true = exactly may_call bodies n (context_of who false within) (going (append a y) callers)
            (ih who false within ahead callers false (of_arm x) a y s.2 (in_arm a p.2) low steps.1 behind 1)
        ways false = exactly may_call bodies n (context_of who false within) (going (append z y) callers)
            (ih who false within ahead callers false (of_arm x) z y s.3 (in_arm z p.3) low steps.2 behind 1)

    of_any_within : (within : Bool) (ahead : List Work) (callers : List (Code ℕ)) (part : Bool) (x : Exits) (d : Code ℕ)
        → Behind may_call bodies n OfGroup within ahead callers part x d → Behind may_call bodies n OfGroup false ahead callers part x d
    of_any_within within ahead callers part x d b = record {
      nested = b.nested;
      allows = b.allows;
      quiet = b.quiet;
      first = b.first;
      in_group = b.in_group;
      even = b.even;
      even_tests = b.even_tests;
      onward = b.onward;
      breaks = b.breaks;
      continues = b.continues;
      tests = b.tests;
      returns = b.returns;
    }

    -- a group splits
    module _ (agreed within : Bool) (ahead : List Work) (callers : List (Code ℕ)) (part : Bool) (x : Exits) (t : ℕ) (by : SplitKind) (a z rest d : Code ℕ)
        (s : Shape part false x (choose t (o.Split by) a z rest)) (p : Placed may_call OfGroup false (choose t (o.Split by) a z rest))
        (i : InStep (may_call true) agreed (choose t (o.Split by) a z rest)) (b : Behind may_call bodies n OfGroup within ahead callers part x d)
        (here : Work) (even : starts here ≡ ahead) where
      abbrev y : Code ℕ
      y = append rest d

      abbrev parent : Work
      parent = going y callers

      whole : Nested (append (choose t (o.Split by) a z rest) d)
      whole = nested_append part false x (choose t (o.Split by) a z rest) d s b.nested.left b.allows b.quiet b.first

      even_y : Even ahead callers y
      even_y = even_append may_call ahead callers OfGroup part false true x rest d refl s.6 p.5 b.even

      behind_it : (inside : Bool) → Behind may_call bodies n OfGroup inside ahead callers true none y
      behind_it inside = part_behind may_call bodies n inside ahead callers y (record { left = whole.8; callers = b.nested.callers }) (whole.5 refl) even_y

      a_part : (code : Code ℕ) → Shape true false none code → outs (going (append code y) callers) ≡ parent ∷ outs parent
      a_part code h = behind_part code y callers none h whole.8 (nested_append true false none code y h whole.8 (no_exits y) (λ e. refl) (λ e. whole.5 refl))

      even_part : (code : Code ℕ) → Shape true false none code → Placed may_call OfGroup false code → starts (going (append code y) callers) ≡ starts here
      even_part code h g = even_append may_call ahead callers OfGroup true false false none code y refl h g (behind_it false).even 1 ∙ sym even

      enters : (code : Code ℕ) → Shape true false none code → Placed may_call OfGroup false code → InStep (may_call true) false code
          → F may_call bodies n (InGroup false) (going (append code y) callers)
      enters code h g j = exactly may_call bodies n (InGroup false) (going (append code y) callers)
          (ih OfGroup false false ahead callers true none code y h g refl j (behind_it false) 1)

      even_parent : starts parent ≡ starts here
      even_parent = even_y 1 ∙ sym even

      -- behind the part there is what is behind here
      is_behind : (first : Work) → outs (going (append a y) callers) ≡ first ∷ outs here → Shape true false none a → outs parent ≡ outs here
      is_behind first e h = ap tail (sym (a_part a h) ∙ e)

      all_parent : (first : Work) → outs (going (append a y) callers) ≡ first ∷ outs here → Shape true false none a → all_outs parent ≡ all_outs here
      all_parent first e h = joined (outs parent) (starts parent) (outs here) (starts here) (is_behind first e h) even_parent

      all_part : (code : Code ℕ) → Shape true false none code → Placed may_call OfGroup false code → outs parent ≡ outs here
          → all_outs (going (append code y) callers) ≡ parent ∷ all_outs here
      all_part code h g e = joined (outs (going (append code y) callers)) (starts (going (append code y) callers)) (parent ∷ outs here) (starts here)
          (a_part code h ∙ ap (λ (ws : List Work). parent ∷ ws) e) (even_part code h g)

      waiting_parent : F may_call bodies n (Waits true) parent
      waiting_parent = waits_at n ih ahead callers part x rest d s.6 p.5 i.3 (of_any_within within ahead callers part x d b)

      abbrev ways : Bool → Work
      ways onward = going (append (if onward then a else z) y) callers

      one : (by ≡ v.IfElse → ⊥) → Shape true false none a → z ≡ done → (first : Work) → outs (going (append a y) callers) ≡ first ∷ outs here
          → Does' n (InGroup agreed) (o.Split by) here ways
      one not_two h e first behind =
          subst (λ c. Does' n (InGroup agreed) (o.Split by) here (λ onward. going (append (if onward then a else c) y) callers)) (sym e)
          (one_part (F may_call bodies n) bodies by not_two here (λ onward. going (append (if onward then a else done) y) callers)
          (all_outs (going (append a y) callers)) (all_part a h p.2 (is_behind first behind h)) (all_parent first behind h) waiting_parent (enters a h p.2 i.1))

    pub first_parts : (agreed within : Bool) (ahead : List Work) (callers : List (Code ℕ)) (part : Bool) (x : Exits) (t : ℕ) (by : SplitKind) (a z rest d : Code ℕ)
        → (h : Shape part false x (choose t (o.Split by) a z rest)) (p : Placed may_call OfGroup false (choose t (o.Split by) a z rest))
        (i : InStep (may_call true) agreed (choose t (o.Split by) a z rest)) (b : Behind may_call bodies n OfGroup within ahead callers part x d)
        (here : Work) (even : starts here ≡ ahead)
        → GoesOn (o.Split by) here (outs here) (λ onward. going (append (if onward then a else z) (append rest d)) callers)
        → Does' n (InGroup agreed) (o.Split by) here (λ onward. going (append (if onward then a else z) (append rest d)) callers)
    first_parts agreed within ahead callers part x t v.IfElse a z rest d h p i b here even g =
        two_parts (F may_call bodies n) bodies (going (append rest d) callers) here (λ onward. going (append (if onward then a else z) (append rest d)) callers)
        (all_outs (going (append a (append rest d)) callers))
        (all_part agreed within ahead callers part x t v.IfElse a z rest d h p i b here even a h.2 p.2 behind)
        (all_parent agreed within ahead callers part x t v.IfElse a z rest d h p i b here even g.0 g.2 h.2)
        (waiting_parent agreed within ahead callers part x t v.IfElse a z rest d h p i b here even)
        (enters agreed within ahead callers part x t v.IfElse a z rest d h p i b here even a h.2 p.2 i.1)
        (enters agreed within ahead callers part x t v.IfElse a z rest d h p i b here even z h.3 p.3 i.2)
        (all_part agreed within ahead callers part x t v.IfElse a z rest d h p i b here even z h.3 p.3 behind)
      where
        behind : outs (going (append rest d) callers) ≡ outs here
        behind = is_behind agreed within ahead callers part x t v.IfElse a z rest d h p i b here even g.0 g.2 h.2
    first_parts agreed within ahead callers part x t v.IfAlone a z rest d h p i b here even g =
        one agreed within ahead callers part x t v.IfAlone a z rest d h p i b here even (λ e. absurd (cc e)) h.2 (h.4 refl) (going (append z (append rest d)) callers) g.1
    first_parts agreed within ahead callers part x t v.Fork a z rest d h p i b here even g =
        one agreed within ahead callers part x t v.Fork a z rest d h p i b here even (λ e. absurd (cc e)) h.2 (h.4 refl) (going (append z (append rest d)) callers) g.1
    first_parts agreed within ahead callers part x t v.AndThen a z rest d h p i b here even g =
        one agreed within ahead callers part x t v.AndThen a z rest d h p i b here even (λ e. absurd (cc e)) h.2 (h.4 refl) (going (append z (append rest d)) callers) g.1
    first_parts agreed within ahead callers part x t v.OrElse a z rest d h p i b here even g =
        one agreed within ahead callers part x t v.OrElse a z rest d h p i b here even (λ e. absurd (cc e)) h.2 (h.4 refl) (going (append z (append rest d)) callers) g.1
    first_parts agreed within ahead callers part x t v.Loop a z rest d h p i b here even g =
        one agreed within ahead callers part x t v.Loop a z rest d h p i b here even (λ e. absurd (cc e)) h.2 (h.4 refl) (going (append z (append rest d)) callers) g.1

    -- a body opens
    abbrev Opens : (here : Work) (rest : Bool → Work) → Type 0
    Opens here rest =
        (all_outs (rest true) ≡ rest false ∷ all_outs here) × (all_outs (rest false) ≡ rest false ∷ all_outs here)
        × F may_call bodies n (ByItself true) (rest true) × F may_call bodies n (ByItself true) (rest false)

    opens : (ahead : List Work) (callers : List (Code ℕ)) (part : Bool) (x : Exits) (a z rest d : Code ℕ)
        → Shape false false none a → Shape part true x rest → z ≡ done → Placed may_call OfBody false a → Placed may_call OfGroup false rest → InStep (may_call true) false rest
        → Behind may_call bodies n OfGroup false ahead callers part x d → (here : Work) → starts here ≡ ahead → Nested (append rest d)
        → outs (going (append z (append rest d)) callers) ≡ going (append z (append rest d)) callers ∷ outs here
        → outs (going (append a (append rest d)) callers) ≡ going (append z (append rest d)) callers ∷ outs here
        → Opens here (λ onward. going (append (if onward then a else z) (append rest d)) callers)
    opens ahead callers part x a done rest d s u e p q i b here even nested g h =
        let y = append rest d in
        let even_y = even_append may_call ahead callers OfGroup part true false x rest d refl u q b.even in
        let far = meets_at n ih ahead callers part x rest d u q i b in
        let behind = before_more may_call bodies n OfBody true ahead callers y (record { left = nested; callers = b.nested.callers }) even_y far in
        let even_a = even_append may_call ahead callers OfBody false false false none a y refl s p behind.even 1 in
        let w = going y callers in (
          joined (outs (going (append a y) callers)) (starts (going (append a y) callers)) (w ∷ outs here) (starts here) h (even_a ∙ sym even),
          joined (outs w) (starts w) (w ∷ outs here) (starts here) g (even_y 1 ∙ sym even),
          exactly may_call bodies n (ByItself true) (going (append a y) callers) (ih OfBody false true ahead callers false none a y s p refl tt behind 1),
          exactly may_call bodies n (ByItself true) w (far 1),
        )
    opens ahead callers part x a z rest d s u e p q i b here even nested g h = absurd (cc e)

    -- what leaves a loop by its test
    pub first_quit : (who : Who) (agreed within : Bool) (ahead : List Work) (callers : List (Code ℕ)) (part : Bool) (x : Exits) (t : ℕ) (op : Operation) (rest d : Code ℕ)
        → Shape part false x (quit t op rest) → Placed may_call who false (quit t op rest) → is_outermost who ≡ false → Steps may_call bodies who agreed (quit t op rest)
        → Behind may_call bodies n who within ahead callers part x d → (here : Work) → starts here ≡ ahead
        → GoesOn op here (outs here) (λ onward. going (if onward then append rest d else broken (append rest d)) callers)
        → Does' n (context_of who agreed within) op here (λ onward. going (if onward then append rest d else broken (append rest d)) callers)
    first_quit who agreed within ahead callers part x t (o.Branch on) done d s p low i b here even g =
        branched (F may_call bodies n) bodies who agreed within on here (λ onward. going (if onward then d else broken d) callers) (of_quit who agreed t (o.Branch on) done i) g evens fars
      where
        evens : (onward : Bool) → starts (going (if onward then d else broken d) callers) ≡ starts here
        evens true = b.even.onward 1 ∙ sym even
        evens false = b.even_tests s.3 1 ∙ sym even

        fars : (onward : Bool) → F may_call bodies n (context_of who false within) (going (if onward then d else broken d) callers)
        fars true = exactly may_call bodies n (context_of who false within) (going d callers) (b.onward s.2 1)
        fars false = exactly may_call bodies n (context_of who false within) (going (broken d) callers) (b.tests s.3 (sym s.4) 1)
    first_quit OfGroup agreed within ahead callers part x t o.Shrink done d s p low i b here even g = (
      joined (outs (going d callers)) (starts (going d callers)) (outs here) (starts here) g.0 (b.even.onward 1 ∙ sym even),
      exactly may_call bodies n (InGroup false) (going d callers) (b.onward s.2 1),
      joined (outs here) (starts here) (going (broken d) callers ∷ outs (going (broken d) callers)) (starts (going (broken d) callers)) g.1 (even ∙ sym (b.even_tests s.3 1)),
    )
    first_quit OfBody agreed within ahead callers part x t o.Shrink done d s p low i b here even g = untrue p.1
    first_quit (OfMain c) agreed within ahead callers part x t o.Shrink done d s p low i b here even g = untrue p.1
    first_quit who agreed within ahead callers part x t op done d s p low i b here even g = untrue s.1
    first_quit who agreed within ahead callers part x t op rest d s p low i b here even g = absurd (cc s.5)

    -- calls: what is called, behind it what the caller has left
    returns_to : (who : Who) (within : Bool) (ahead : List Work) (callers : List (Code ℕ)) (y : Code ℕ) → is_main who ≡ false → Even ahead callers y
        → Far may_call bodies n (context_of who false within) callers y → Returns may_call bodies n who within ahead (y ∷ callers)
    returns_to OfGroup within ahead callers y not_main even far = (even 1, far 1)
    returns_to OfBody within ahead callers y not_main even far = (even 1, far 1)
    returns_to (OfMain b) within ahead callers y not_main even far = absurd (true≢false not_main)

    callee : (who : Who) (within : Bool) (ahead : List Work) (callers : List (Code ℕ)) (y opening : Code ℕ) (f : ℕ) → is_main who ≡ false → is_outermost who ≡ false
        → Shape false false none opening → Placed may_call who false opening → Steps may_call bodies who false opening
        → Placed may_call who false (bodies f) → Steps may_call bodies who false (bodies f) → WorkNested (at y callers) → Even ahead callers y
        → Far may_call bodies n (context_of who false within) callers y
        → F may_call bodies n (context_of who false within) (going (append opening (bodies f)) (y ∷ callers))
    callee who within ahead callers y opening f not_main low s p i q j nested even far =
        let body = bodies f in
        let context = context_of who false within in
        let within_nested : WorkNested (at done (y ∷ callers)) = record { left = tt; callers = (nested.left, nested.callers) } in
        let even_in : (c : Code ℕ) → Even ahead (y ∷ callers) c = λ c k. even 0 in
        let end : Behind may_call bodies n who within ahead (y ∷ callers) false of_function done = record {
          nested = within_nested;
          allows = record { breaks = λ e. untrue e; continues = λ e. untrue e; returns = λ e. refl; tests = λ e. untrue e };
          quiet = λ e. untrue e;
          first = λ e. untrue e;
          in_group = λ e. untrue e;
          even = record { onward = even_in done; breaks = λ e. even_in done; continues = λ e. even_in done };
          even_tests = λ e. even_in done;
          onward = λ e. far_stable may_call bodies n context (y ∷ callers) done refl (idle may_call bodies n context (at done (y ∷ callers)) refl);
          breaks = λ e. untrue e;
          continues = λ e. untrue e;
          tests = λ e. untrue e;
          returns = λ e. returns_to who within ahead callers y not_main even far;
        } in
        let in_body : Far may_call bodies n context (y ∷ callers) body =
        subst (λ c. Far may_call bodies n context (y ∷ callers) c) (append_done body)
        (ih who false within ahead (y ∷ callers) false of_function body done (facts.nested f) q low j end) in
        let behind = before_more may_call bodies n who within ahead (y ∷ callers) body
        (record { left = body_nested body (facts.nested f); callers = (nested.left, nested.callers) }) (even_in body) in_body in
        exactly may_call bodies n context (going (append opening body) (y ∷ callers))
        (ih who false within ahead (y ∷ callers) false none opening body s p low i behind 1)

    stays : (who : Who) (agreed within : Bool) (op : Operation) (here w : Work) → is_of_call op ≡ true → is_halt op ≡ false
        → GoesOn op here (outs here) (λ onward. w) → starts w ≡ starts here → F may_call bodies n (context_of who false within) w
        → Does' n (context_of who agreed within) op here (λ onward. w)
    stays OfGroup agreed within (o.Enter k) here w is not_halt g even far = λ onward. (joined (outs w) (starts w) (outs here) (starts here) (g onward) even, far)
    stays OfGroup agreed within (o.Leave gives framed) here w is not_halt g even far = λ onward. (joined (outs w) (starts w) (outs here) (starts here) (g onward) even, far)
    stays OfBody agreed true (o.Enter k) here w is not_halt g even far = λ onward. (joined (outs w) (starts w) (outs here) (starts here) (g onward) even, far)
    stays OfBody agreed true (o.Leave gives framed) here w is not_halt g even far = λ onward. (joined (outs w) (starts w) (outs here) (starts here) (g onward) even, far)
    stays OfBody agreed false (o.Enter k) here w is not_halt g even far = λ onward. (joined (outs w) (starts w) (outs here) (starts here) (g onward) even, far)
    stays OfBody agreed false (o.Leave gives framed) here w is not_halt g even far = λ onward. (joined (outs w) (starts w) (outs here) (starts here) (g onward) even, far)
    stays (OfMain b) agreed within (o.Enter k) here w is not_halt g even far = λ onward. (joined (outs w) (starts w) (outs here) (starts here) (g onward) even, far)
    stays (OfMain b) agreed within (o.Leave gives framed) here w is not_halt g even far = λ onward. (joined (outs w) (starts w) (outs here) (starts here) (g onward) even, far)
    stays who agreed within o.Halt here w is not_halt g even far = absurd (true≢false not_halt)
    stays who agreed within op here w is not_halt g even far = untrue is

    -- `y` is left of the caller
    pub calls_in : (who : Who) (agreed within : Bool) (ahead : List Work) (callers : List (Code ℕ)) (t : ℕ) (op : Operation) (f : ℕ) (opening y : Code ℕ)
        → is_of_call op ≡ true → is_halt op ≡ false → Shape false false none opening → may_call (is_group who) f ≡ true → Placed may_call (callee_of who) false opening
        → Steps may_call bodies (callee_of who) false opening → WorkNested (at y callers) → Even ahead callers y → Far may_call bodies n (context_of who false within) callers y
        → (here : Work) → starts here ≡ ahead → GoesOn op here (outs here) (λ onward. going (append opening (bodies f)) (y ∷ callers))
        → Does' n (context_of who agreed within) op here (λ onward. going (append opening (bodies f)) (y ∷ callers))
    calls_in OfGroup agreed within ahead callers t op f opening y is not_halt s may p i nested even far here even_here g =
        stays OfGroup agreed within op here (going (append opening (bodies f)) (y ∷ callers)) is not_halt g (even 0 ∙ sym even_here)
        (callee OfGroup within ahead callers y opening f refl refl s p i (facts.in_group f may) (facts.in_step f may) nested even far)
    calls_in OfBody agreed within ahead callers t op f opening y is not_halt s may p i nested even far here even_here g =
        stays OfBody agreed within op here (going (append opening (bodies f)) (y ∷ callers)) is not_halt g (even 0 ∙ sym even_here)
        (callee OfBody within ahead callers y opening f refl refl s p tt (facts.in_body f may) tt nested even far)
    calls_in (OfMain b) agreed within ahead callers t op f opening y is not_halt s may p i nested even far here even_here g =
        stays (OfMain b) agreed within op here (going (append opening (bodies f)) (y ∷ callers)) is not_halt g (even 0 ∙ sym even_here)
        (callee OfBody false ahead callers y opening f refl refl s p tt (facts.in_body f may) tt nested even far)

    -- the end of a function
    pub first_ends : (who : Who) (agreed within : Bool) (ahead : List Work) (callers : List (Code ℕ)) (op : Operation) → is_of_call op ≡ true → may_end who op ≡ true
        → Returns may_call bodies n who within ahead callers → (here : Work) → starts here ≡ ahead → GoesOn op here (outs here) (λ onward. returned callers)
        → Does' n (context_of who agreed within) op here (λ onward. returned callers)
    first_ends OfGroup agreed within ahead callers o.Halt is may r here even g = untrue may
    first_ends OfBody agreed within ahead callers o.Halt is may r here even g = untrue may
    first_ends (OfMain b) agreed within ahead callers o.Halt is may r here even g =
        λ onward. subst (λ cs. next bodies (returned cs) ≡ None) (sym r) refl
    first_ends OfGroup agreed within ahead callers (o.Enter k) is may r here even g =
        stays OfGroup agreed within (o.Enter k) here (returned callers) is refl g (r.0 ∙ sym even) (exactly may_call bodies n (InGroup false) (returned callers) r.1)
    first_ends OfGroup agreed within ahead callers (o.Leave gives framed) is may r here even g =
        stays OfGroup agreed within (o.Leave gives framed) here (returned callers) is refl g (r.0 ∙ sym even) (exactly may_call bodies n (InGroup false) (returned callers) r.1)
    first_ends OfBody agreed within ahead callers (o.Enter k) is may r here even g =
        stays OfBody agreed within (o.Enter k) here (returned callers) is refl g (r.0 ∙ sym even) (exactly may_call bodies n (ByItself within) (returned callers) r.1)
    first_ends OfBody agreed within ahead callers (o.Leave gives framed) is may r here even g =
        stays OfBody agreed within (o.Leave gives framed) here (returned callers) is refl g (r.0 ∙ sym even) (exactly may_call bodies n (ByItself within) (returned callers) r.1)
    first_ends (OfMain b) agreed within ahead callers (o.Enter k) is may r here even g = untrue may
    first_ends (OfMain b) agreed within ahead callers (o.Leave gives framed) is may r here even g = untrue may
    first_ends who agreed within ahead callers op is may r here even g = untrue is

    -- all of these: the next operation of code of a text
    pub first_choose : (who : Who) (agreed within : Bool) (ahead : List Work) (callers : List (Code ℕ)) (part : Bool) (x : Exits) (t : ℕ) (op : Operation) (a z rest d : Code ℕ)
        → Shape part false x (choose t op a z rest) → Placed may_call who false (choose t op a z rest) → is_outermost who ≡ false → Steps may_call bodies who agreed (choose t op a z rest)
        → Behind may_call bodies n who within ahead callers part x d → (here : Work) → starts here ≡ ahead
        → GoesOn op here (outs here) (λ onward. going (append (if onward then a else z) (append rest d)) callers)
        → Does' n (context_of who agreed within) op here (λ onward. going (append (if onward then a else z) (append rest d)) callers)
    first_choose who agreed within ahead callers part x t (o.Branch on) a z rest d s p low i b here even g =
        first_branch who agreed within ahead callers part x t on a z rest d s p low i b here even g
    first_choose OfGroup agreed within ahead callers part x t (o.Split by) a z rest d s p low i b here even g =
        first_parts agreed within ahead callers part x t by a z rest d s p i b here even g
    first_choose OfGroup agreed within ahead callers part x t o.Farm a z rest d s p low i b here even g =
        opens ahead callers part x a z rest d s.2 s.6 (s.4 refl) p.2 p.5 i.3 (of_any_within within ahead callers part x d b) here even
        (nested_append part false x (choose t o.Farm a z rest) d s b.nested.left b.allows b.quiet b.first).8 g.0 g.1
    first_choose OfGroup agreed within ahead callers part x t o.Seq a z rest d s p low i b here even g =
        opens ahead callers part x a z rest d s.2 s.6 (s.4 refl) p.2 p.5 i.3 (of_any_within within ahead callers part x d b) here even
        (nested_append part false x (choose t o.Seq a z rest) d s b.nested.left b.allows b.quiet b.first).8 g.0 g.1
    first_choose OfBody agreed within ahead callers part x t (o.Split by) a z rest d s p low i b here even g = untrue p.1
    first_choose OfBody agreed within ahead callers part x t o.Farm a z rest d s p low i b here even g = untrue p.1
    first_choose OfBody agreed within ahead callers part x t o.Seq a z rest d s p low i b here even g = untrue p.1
    first_choose (OfMain c) agreed within ahead callers part x t (o.Split by) a z rest d s p low i b here even g = untrue p.1
    first_choose (OfMain c) agreed within ahead callers part x t o.Farm a z rest d s p low i b here even g = untrue p.1
    first_choose (OfMain c) agreed within ahead callers part x t o.Seq a z rest d s p low i b here even g = untrue p.1
    first_choose who agreed within ahead callers part x t o.Begin a z rest d s p low i b here even g = absurd (true≢false (sym p.1 ∙ low))
    first_choose who agreed within ahead callers part x t op a z rest d s p low i b here even g = untrue s.1
