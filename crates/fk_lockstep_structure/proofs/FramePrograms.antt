-- Programs whose text is in place, and whose parts have frames of their own, are framed.
use Rattle.std.proofs.Common.{◌≡◌, ℕ, suc, ◌+◌, Bool, true, false, true≢false, List, [], ◌∷◌, Option, Some, None, ap, ◌∙◌, sym, refl, subst}
use Rattle.std.proofs.lemmas.Bool.{eqb-true}
use Rattle.std.specs.Prelude.{◌==◌, is_some, if◌then◌else◌}
use Rattle.fk_syntax.specs.Program.{Statements, FunctionTree}
use Rattle.fk_meaning_forms.specs.Code.{Code, done, perform, choose, while, until, turn, again, quit, break, continue, call, ends, size, numbered}
use Rattle.fk_meaning_forms.specs.Tables.{Tables, frame_at}
use Rattle.fk_meaning_forms.specs.Expressions.{Coded}
use Rattle.fk_meaning_forms.specs.Statements.{Inside, is_nothing, body_of}
use Rattle.fk_meaning_forms.specs.Program.{functions_of, binding_of, no_signature, signature_of, signature_in, is_main, code_of, body_in, main_of}
use Rattle.fk_meaning.specs.Shaped.{BodyShaped, FunctionsShaped}
use Rattle.fk_meaning.proofs.NestedPrograms.{programs_are_nested}
use Rattle.fk_meaning.proofs.Spine.{untrue}
use Rattle.fk_lockstep_structure.specs.Placed as w
use Rattle.fk_lockstep_structure.specs.Placed.{Who, OfGroup, OfBody, OfMain, is_group, callee_of}
use Rattle.fk_lockstep_structure.specs.InPlace.{BodyInPlace, FunctionsInPlace}
use Rattle.fk_lockstep_structure.specs.Framed.{resumes, inside, Opens, Framed}
use Rattle.fk_lockstep_structure.specs.Inner.{BodyInner, FunctionsInner, ProgramsAreFramed}
use Rattle.fk_lockstep_structure.proofs.FrameTexts.{Like, body_framed}

-- numbers in place of the places change nothing
module _ (may_call : (in_group : Bool) → (function : ℕ) → Bool) where
  numbers_open : {A : Type 0} (who : Who) (code : Code A) (first : ℕ) → Opens may_call who code → Opens may_call who (numbered first code)
  numbers_open who done first h = h
  numbers_open who (perform t op rest) first h = (h.0, numbers_open who rest (suc first) h.1)
  numbers_open who (choose t op a b rest) first h = absurd h
  numbers_open who (while test body step rest) first h = absurd h
  numbers_open who (until body test rest) first h = absurd h
  numbers_open who (turn test body step rest) first h = absurd h
  numbers_open who (again test body step rest) first h = absurd h
  numbers_open who (quit t op rest) first h = absurd h
  numbers_open who (break rest) first h = absurd h
  numbers_open who (continue rest) first h = absurd h
  numbers_open who (call t op f opening rest) first h = absurd h
  numbers_open who (ends t op rest) first h = absurd h

  numbers_resume : {A : Type 0} (code : Code A) (first : ℕ) → resumes code ≡ true → resumes (numbered first code) ≡ true
  numbers_resume (perform t op rest) first e = e
  numbers_resume code first e = untrue e

  numbers : {A : Type 0} (who : Who) (code : Code A) (first : ℕ) → Framed may_call who code → Framed may_call who (numbered first code)
  numbers who done first h = h
  numbers who (perform t op rest) first h = (h.0, h.1, numbers who rest (suc first) h.2)
  numbers who (choose t op a b rest) first h = (
    h.0,
    numbers (inside who op) a (suc first) h.1,
    numbers (inside who op) b (suc first + size a) h.2,
    (λ e. numbers_resume rest (suc first + size a + size b) (h.3 e)),
    numbers who rest (suc first + size a + size b) h.4,
  )
  numbers who (while test body step rest) first h = (
    numbers who test first h.0,
    numbers who body (first + size test) h.1,
    numbers who step (first + size test + size body) h.2,
    numbers who rest (first + size test + size body + size step) h.3,
  )
  numbers who (until body test rest) first h =
      (numbers who body first h.0, numbers who test (first + size body) h.1, numbers who rest (first + size body + size test) h.2)
  numbers who (turn test body step rest) first h = absurd h
  numbers who (again test body step rest) first h = absurd h
  numbers who (quit t op rest) first h = numbers who rest (suc first) h
  numbers who (break rest) first h = numbers who rest first h
  numbers who (continue rest) first h = numbers who rest first h
  numbers who (call t op f opening rest) first h =
      (h.0, h.1, numbers_open (callee_of who) opening (suc first) h.2, numbers who rest (suc first + size opening) h.3)
  numbers who (ends t op rest) first h = (h.0, numbers who rest (suc first) h.1)

module _ (tables : Tables) (may_call : (in_group : Bool) → (function : ℕ) → Bool) (everyone : List FunctionTree)
    (frameless : (binding : ℕ) → may_call false binding ≡ true → frame_at tables (signature_in tables everyone binding).at 0 ≡ None) where
  -- a function of which is told of somebody like him who runs it
  record Given (who : Who) (binding : ℕ) (f : FunctionTree) : Type 0 where
    other : Who
    like : Like who other
    main : w.is_main who ≡ is_main f
    leaves : is_main f ≡ false → is_some (frame_at tables f.name.at 0) ≡ true → is_group who ≡ true
    in_place : BodyInPlace tables may_call (is_main f) other f.body
    inner : BodyInner tables f.body
    shaped : BodyShaped tables (signature_in tables everyone) f.body

  abbrev AllGiven : (who : Who) (binding : ℕ) → List FunctionTree → Type 0
  AllGiven who binding [] = Unit {0}
  AllGiven who binding (f ∷ fs) = ((binding_of tables f == binding) ≡ true → Given who binding f) × AllGiven who binding fs

  function_framed : (who : Who) (binding : ℕ) (f : FunctionTree) → Given who binding f → Framed may_call who (code_of tables everyone f)
  function_framed who binding f g = by f.body g.in_place g.inner g.shaped
    where
      inside' : Inside
      inside' = record { main = is_main f; framed = is_some (frame_at tables f.name.at 0) }

      code : Option Statements → Coded
      code None = done
      code (Some statements) = body_of tables (signature_in tables everyone) inside' (is_nothing f.result) statements

      by : (body : Option Statements) → BodyInPlace tables may_call (is_main f) g.other body → BodyInner tables body → BodyShaped tables (signature_in tables everyone) body → Framed may_call who (code body)
      by None h i j = tt
      by (Some statements) h i j = body_framed tables (signature_in tables everyone) may_call frameless who g.other g.like inside' (is_nothing f.result) statements g.main g.leaves h i j

  bodies : (who : Who) (binding : ℕ) (fs : List FunctionTree) (first : ℕ) → AllGiven who binding fs → Framed may_call who (body_in tables everyone first fs binding)
  bodies who binding [] first h = tt
  bodies who binding (f ∷ fs) first h =
      by (binding_of tables f == binding) refl (bodies who binding fs (first + size (code_of tables everyone f)) h.1)
    where
      by : (is : Bool) → (binding_of tables f == binding) ≡ is
          → Framed may_call who (body_in tables everyone (first + size (code_of tables everyone f)) fs binding)
          → Framed may_call who (if is then numbered first (code_of tables everyone f) else body_in tables everyone (first + size (code_of tables everyone f)) fs binding)
      by true is others = numbers may_call who (code_of tables everyone f) first (function_framed who binding f (h.0 is))
      by false is others = others

-- of which functions it is told
none_is_no : {X : Type 0} (o : Option X) → o ≡ None → is_some o ≡ true → ⊥
none_is_no o e f = true≢false (sym f ∙ ap is_some e)

module _ (tables : Tables) (may_call : (in_group : Bool) → (function : ℕ) → Bool) where
  frameless_in : (binding : ℕ) (fs : List FunctionTree) (none : frame_at tables no_signature.at 0 ≡ None) → may_call false binding ≡ true → FunctionsInner tables may_call fs
      → frame_at tables (signature_in tables fs binding).at 0 ≡ None
  frameless_in binding [] none may h = none
  frameless_in binding (f ∷ fs) none may h = by (frameless_in binding fs none may h.2) (binding_of tables f == binding) refl
    where
      by : frame_at tables (signature_in tables fs binding).at 0 ≡ None → (b : Bool) → (binding_of tables f == binding) ≡ b → frame_at tables (if b then signature_of f else signature_in tables fs binding).at 0 ≡ None
      by others true is = h.1 (subst (λ n. may_call false n ≡ true) (sym (eqb-true (binding_of tables f) binding is)) may)
      by others false is = others

  module _ (everyone : List FunctionTree) (frameless : (binding : ℕ) → may_call false binding ≡ true → frame_at tables (signature_in tables everyone binding).at 0 ≡ None) where
    in_groups : (main binding : ℕ) (fs : List FunctionTree) → may_call true binding ≡ true → FunctionsInPlace tables may_call main fs → FunctionsInner tables may_call fs
        → FunctionsShaped tables (signature_in tables everyone) fs → AllGiven tables may_call everyone frameless OfGroup binding fs
    in_groups main binding [] may h i j = tt
    in_groups main binding (f ∷ fs) may h i j = (
      (λ e.
          let g = h.0 (subst (λ n. may_call true n ≡ true) (sym (eqb-true (binding_of tables f) binding e)) may) in
          record {
            other = OfGroup;
            like = record { group = refl; main = refl };
            main = sym g.0;
            leaves = λ a b. refl;
            in_place = subst (λ m. BodyInPlace tables may_call m OfGroup f.body) (sym g.0) g.1;
            inner = i.0;
            shaped = j.0;
          }),
      in_groups main binding fs may h.3 i.2 j.1,
    )

    in_bodies : (main binding : ℕ) (fs : List FunctionTree) → may_call false binding ≡ true → FunctionsInPlace tables may_call main fs → FunctionsInner tables may_call fs
        → FunctionsShaped tables (signature_in tables everyone) fs → AllGiven tables may_call everyone frameless OfBody binding fs
    in_bodies main binding [] may h i j = tt
    in_bodies main binding (f ∷ fs) may h i j = (
      (λ e.
          let may' = subst (λ n. may_call false n ≡ true) (sym (eqb-true (binding_of tables f) binding e)) may in
          let g = h.1 may' in
          record {
            other = OfBody;
            like = record { group = refl; main = refl };
            main = sym g.0;
            leaves = λ a b. absurd (none_is_no (frame_at tables f.name.at 0) (i.1 may') b);
            in_place = subst (λ m. BodyInPlace tables may_call m OfBody f.body) (sym g.0) g.1;
            inner = i.0;
            shaped = j.0;
          }),
      in_bodies main binding fs may h.3 i.2 j.1,
    )

    in_main : (main : ℕ) (fs : List FunctionTree) → FunctionsInPlace tables may_call main fs → FunctionsInner tables may_call fs
        → FunctionsShaped tables (signature_in tables everyone) fs → AllGiven tables may_call everyone frameless (OfMain false) main fs
    in_main main [] h i j = tt
    in_main main (f ∷ fs) h i j = (
      (λ e.
          let g = h.2 e in
          record {
            other = OfMain true;
            like = record { group = refl; main = refl };
            main = sym g.0;
            leaves = λ a b. absurd (true≢false (sym g.0 ∙ a));
            in_place = subst (λ m. BodyInPlace tables may_call m (OfMain true) f.body) (sym g.0) g.1;
            inner = i.0;
            shaped = j.0;
          }),
      in_main main fs h.3 i.2 j.1,
    )

pub programs_are_framed : ProgramsAreFramed
programs_are_framed tables program may_call h inner none =
    let fs = functions_of program.items in
    let main = main_of tables program in
    let frameless : (binding : ℕ) → may_call false binding ≡ true → frame_at tables (signature_in tables fs binding).at 0 ≡ None =
    λ binding may. frameless_in tables may_call binding fs none may inner in
    record {
      nested = programs_are_nested tables program h.shaped;
      in_group = λ f may. bodies tables may_call fs frameless OfGroup f fs 0 (in_groups tables may_call fs frameless main f fs may h.in_place inner h.shaped);
      in_body = λ f may. bodies tables may_call fs frameless OfBody f fs 0 (in_bodies tables may_call fs frameless main f fs may h.in_place inner h.shaped);
      main_of = bodies tables may_call fs frameless (OfMain false) main fs 0 (in_main tables may_call fs frameless main fs h.in_place inner h.shaped);
    }
