-- Programs whose text is in place: how they go on, and what is left of them.
use Rattle.std.proofs.Common.{◌≡◌, ℕ, suc, ◌+◌, Bool, true, false, List, [], ◌∷◌, Option, Some, None, slice_index, ap, ◌∙◌, sym, refl, subst}
use Rattle.std.proofs.lemmas.Bool.{eqb-true, eq-eqb}
use Rattle.std.specs.Prelude.{◌==◌, ◌||◌, not, is_some, if◌then◌else◌}
use Rattle.std.proofs.lemmas.Option.{same_Some}
use Rattle.fk_syntax.specs.declared.program.Mode.{Mode}
use Rattle.fk_syntax.specs.Tree.{Named, TypeTree}
use Rattle.fk_syntax.specs.Program.{DeclaredTree, Statements, FunctionTree, ProgramTree}
use Rattle.fk_meaning_forms.specs.Code.{Code, done, perform, choose, while, until, turn, again, quit, break, continue, call, ends, size, numbered}
use Rattle.fk_meaning_forms.specs.Tables.{Tables, frame_at}
use Rattle.fk_meaning_forms.specs.Statements.{Inside, is_nothing}
use Rattle.fk_meaning_forms.specs.Program.{functions_of, binding_of, signature_of, signature_in, is_main, code_of, body_in, bodies_of, main_of}
use Rattle.fk_meaning.specs.Next.{Work}
use Rattle.fk_meaning.specs.Program.{next_in, main_work}
use Rattle.fk_meaning.specs.Shape.{splits}
use Rattle.fk_meaning.proofs.NestedPrograms.{programs_are_nested}
use Rattle.fk_lockstep.proofs.Statements.{forms_are_in_step, numbers as in_step}
use Rattle.fk_lockstep.proofs.ProgramRuns.{groups_have_one_program}
use Rattle.fk_lockstep_structure.specs.Placed as w
use Rattle.fk_lockstep_structure.specs.Placed.{Who, OfGroup, OfBody, OfMain, inner, callee_of, who_in, Placed}
use Rattle.fk_lockstep_structure.specs.Ahead.{all_outs, AreCourses}
use Rattle.fk_lockstep_structure.specs.InPlace.{BodyInPlace, FunctionsInPlace, IsInPlace, ProgramsFollow, ProgramsHaveOneProgram}
use Rattle.fk_meaning.proofs.Spine.{untrue}
use Rattle.fk_meaning.specs.Processor.{Processor}
use Rattle.fk_lockstep.specs.Counts.{ArePending, IsCounted}
use Rattle.fk_lockstep_structure.specs.Pending.{has_number, is_none, Idle, fork_counts}
use Rattle.fk_lockstep_structure.specs.Valued.{gives_value}
use Rattle.fk_lockstep_structure.specs.Forks.{BodyValued, ForksAreValued}
use Rattle.fk_lockstep_structure.specs.Returns.{StatementsReturn, BodyReturns, FunctionsReturn}
use Rattle.fk_lockstep_structure.proofs.Counted.{settled_idle}
use Rattle.fk_lockstep_structure.proofs.Pending.{code_is_counted}
use Rattle.fk_lockstep_structure.proofs.Numbers.{anyone, body_idle, numbered_idle}
use Rattle.fk_lockstep_structure.proofs.Main.{code_follows}
use Rattle.fk_lockstep_structure.proofs.Texts.{body_in_place}

-- numbers in place of the places change nothing
module _ (may_call : (in_group : Bool) → (function : ℕ) → Bool) where
  pub numbers : {A : Type 0} (who : Who) (resuming : Bool) (code : Code A) (first : ℕ) → Placed may_call who resuming code → Placed may_call who resuming (numbered first code)
  numbers who resuming done first h = h
  numbers who resuming (perform t op rest) first h = (h.0, numbers who false rest (suc first) h.1)
  numbers who resuming (choose t op a b rest) first h = (
    h.0,
    h.1,
    numbers (who_in who op) false a (suc first) h.2,
    numbers (who_in who op) false b (suc first + size a) h.3,
    (λ e. in_step (may_call true) false a (suc first) (h.4 e)),
    numbers who (splits op) rest (suc first + size a + size b) h.5,
  )
  numbers who resuming (while test body step rest) first h = (
    h.0,
    numbers (inner who) false test first h.1,
    numbers (inner who) false body (first + size test) h.2,
    numbers (inner who) false step (first + size test + size body) h.3,
    numbers who false rest (first + size test + size body + size step) h.4,
  )
  numbers who resuming (until body test rest) first h = (
    h.0,
    numbers (inner who) false body first h.1,
    numbers (inner who) false test (first + size body) h.2,
    numbers who false rest (first + size body + size test) h.3,
  )
  numbers who resuming (turn test body step rest) first h = absurd h
  numbers who resuming (again test body step rest) first h = absurd h
  numbers who resuming (quit t op rest) first h = (h.0, h.1, numbers who false rest (suc first) h.2)
  numbers who resuming (break rest) first h = (h.0, numbers who false rest first h.1)
  numbers who resuming (continue rest) first h = (h.0, numbers who false rest first h.1)
  numbers who resuming (call t op f opening rest) first h = (
    h.0,
    h.1,
    h.2,
    numbers (callee_of who) false opening (suc first) h.3,
    numbers who false rest (suc first + size opening) h.4,
  )
  numbers who resuming (ends t op rest) first h = (h.0, h.1, numbers who false rest (suc first) h.2)

module _ (tables : Tables) (may_call : (in_group : Bool) → (function : ℕ) → Bool) (everyone : List FunctionTree) where
  -- a function, by its parts
  function_by : (who : Who) (main : Bool) (mode : Mode) (result : TypeTree) (name : Named) (parameters : List DeclaredTree) (body : Option Statements)
      → let f : FunctionTree = record { mode = mode; result = result; name = name; parameters = parameters; body = body } in
      is_main f ≡ main → w.is_main who ≡ main → BodyInPlace tables may_call main who body → Placed may_call who false (code_of tables everyone f)
  function_by who main mode result name parameters None is who_is h = refl
  function_by who main mode result name parameters (Some statements) is who_is h =
      let f : FunctionTree = record { mode = mode; result = result; name = name; parameters = parameters; body = Some statements } in
      let inside : Inside = record { main = is_main f; framed = is_some (frame_at tables name.at 0) } in
      body_in_place tables (signature_in tables everyone) may_call who inside (is_nothing result) statements
      (subst (λ b. w.is_main who ≡ b) (sym is) who_is)
      (subst (λ b. BodyInPlace tables may_call b who (Some statements)) (sym is) h)

  pub function_in_place : (who : Who) (main : Bool) (f : FunctionTree) → is_main f ≡ main → w.is_main who ≡ main → BodyInPlace tables may_call main who f.body → Placed may_call who false (code_of tables everyone f)
  function_in_place who main f is who_is h = function_by who main f.mode f.result f.name f.parameters f.body is who_is h

  -- the functions that a group, or a processor by itself, may call; and `main`
  abbrev Given : (who : Who) (main binding : ℕ) → FunctionTree → Type 0
  Given who main binding f =
      (binding_of tables f == binding) ≡ true → (mains : Bool) × (is_main f ≡ mains) × (w.is_main who ≡ mains) × BodyInPlace tables may_call mains who f.body

  abbrev AllGiven : (who : Who) (main binding : ℕ) → List FunctionTree → Type 0
  AllGiven who main binding [] = Unit {0}
  AllGiven who main binding (f ∷ fs) = Given who main binding f × AllGiven who main binding fs

  bodies : (who : Who) (main binding : ℕ) (fs : List FunctionTree) (first : ℕ) → AllGiven who main binding fs → Placed may_call who false (body_in tables everyone first fs binding)
  bodies who main binding [] first h = refl
  bodies who main binding (f ∷ fs) first h =
      by (binding_of tables f == binding) refl (bodies who main binding fs (first + size (code_of tables everyone f)) h.1)
    where
      by : (is : Bool) → (binding_of tables f == binding) ≡ is
          → Placed may_call who false (body_in tables everyone (first + size (code_of tables everyone f)) fs binding)
          → Placed may_call who false (if is then numbered first (code_of tables everyone f) else body_in tables everyone (first + size (code_of tables everyone f)) fs binding)
      by true is others =
          let g = h.0 is in
          numbers may_call who false (code_of tables everyone f) first (function_in_place who g.0 f g.1 g.2 g.3)
      by false is others = others

  in_groups : (main binding : ℕ) (fs : List FunctionTree) → may_call true binding ≡ true → FunctionsInPlace tables may_call main fs → AllGiven OfGroup main binding fs
  in_groups main binding [] may h = tt
  in_groups main binding (f ∷ fs) may h = (
    (λ e. let g = h.0 (subst (λ b. may_call true b ≡ true) (sym (eqb-true (binding_of tables f) binding e)) may) in (false, g.0, refl, g.1)),
    in_groups main binding fs may h.3,
  )

  in_bodies : (main binding : ℕ) (fs : List FunctionTree) → may_call false binding ≡ true → FunctionsInPlace tables may_call main fs → AllGiven OfBody main binding fs
  in_bodies main binding [] may h = tt
  in_bodies main binding (f ∷ fs) may h = (
    (λ e. let g = h.1 (subst (λ b. may_call false b ≡ true) (sym (eqb-true (binding_of tables f) binding e)) may) in (false, g.0, refl, g.1)),
    in_bodies main binding fs may h.3,
  )

  in_main : (main : ℕ) (fs : List FunctionTree) → FunctionsInPlace tables may_call main fs → AllGiven (OfMain true) main main fs
  in_main main [] h = tt
  in_main main (f ∷ fs) h = ((λ e. let g = h.2 e in (true, g.0, refl, g.1)), in_main main fs h.3)

-- what is pending in them
module _ (tables : Tables) (may_call : (in_group : Bool) → (function : ℕ) → Bool) (everyone : List FunctionTree) where
  abbrev results : (function : ℕ) → Bool
  results f = gives_value (signature_in tables everyone) f

  -- `main`, or a function that is called and gives a result or none
  abbrev IsOne : (caller : Option Bool) → FunctionTree → Type 0
  IsOne None f = Unit {0}
  IsOne (Some g) f = (is_main f ≡ false) × (not (is_nothing f.result) ≡ g)

  is_one : (caller : Option Bool) (f : FunctionTree) → IsOne caller f → (g : Bool) → caller ≡ Some g → (is_main f ≡ false) × (not (is_nothing f.result) ≡ g)
  is_one None f h g e = absurd (cc)
  is_one (Some g') f h g e = (h.0, h.1 ∙ same_Some g' g e)

  function_idle : (caller : Option Bool) (main : Bool) (who : Who) (f : FunctionTree) → BodyInPlace tables may_call main who f.body → BodyValued tables (signature_in tables everyone) f.body
      → (is_main f ≡ false → BodyReturns (not (is_nothing f.result)) f.body) → IsOne caller f → (w.is_main who ≡ true → caller ≡ None)
      → Idle (anyone may_call) results caller (code_of tables everyone f)
  function_idle caller main who f h v r one m = by f.body h v r
    where
      by : (body : Option Statements) → BodyInPlace tables may_call main who body → BodyValued tables (signature_in tables everyone) body → (is_main f ≡ false → BodyReturns (not (is_nothing f.result)) body)
          → let g : FunctionTree = record f { body = body } in Idle (anyone may_call) results caller (code_of tables everyone g)
      by None h' v' r' = (refl, tt)
      by (Some statements) h' v' r' =
          let inside : Inside = record { main = is_main f; framed = is_some (frame_at tables f.name.at 0) } in
          body_idle may_call (signature_in tables everyone) caller tables main who inside (is_nothing f.result) statements h' v'
          (λ g e. let o = is_one caller f one g e in (subst (λ (b : Bool). StatementsReturn b statements) o.1 (r' o.0), o.0, o.1)) m

  -- `main`, or what somebody may call, with its result
  abbrev MayBe : (caller : Option Bool) (main binding : ℕ) → List FunctionTree → Type 0
  MayBe None main binding fs = binding ≡ main
  MayBe (Some g) main binding fs = (anyone may_call binding ≡ true) × (gives_value (signature_in tables fs) binding ≡ g)

  bodies_idle : (caller : Option Bool) (main binding : ℕ) (fs : List FunctionTree) (first : ℕ) → MayBe caller main binding fs → FunctionsInPlace tables may_call main fs
      → ForksAreValued tables (signature_in tables everyone) fs → FunctionsReturn fs → Idle (anyone may_call) results caller (body_in tables everyone first fs binding)
  bodies_idle caller main binding [] first may h v r = (refl, tt)
  bodies_idle caller main binding (f ∷ fs) first may h v r =
      by (binding_of tables f == binding) refl (λ may'. bodies_idle caller main binding fs (first + size (code_of tables everyone f)) may' h.3 v.1 r.1)
    where
      same : (binding_of tables f == binding) ≡ true → binding_of tables f ≡ binding
      same e = eqb-true (binding_of tables f) binding e

      in_any : (g : Bool) → binding_of tables f ≡ binding → (a b : Bool) → may_call true binding ≡ a → may_call false binding ≡ b → (a || b) ≡ true → not (is_nothing f.result) ≡ g
          → Idle (anyone may_call) results (Some g) (code_of tables everyone f)
      in_any g e true b is is' some result = let k = h.0 (ap (may_call true) e ∙ is) in function_idle (Some g) false OfGroup f k.1 v.0 r.0 (k.0, result) (λ i. untrue i)
      in_any g e false true is is' some result = let k = h.1 (ap (may_call false) e ∙ is') in function_idle (Some g) false OfBody f k.1 v.0 r.0 (k.0, result) (λ i. untrue i)
      in_any g e false false is is' some result = untrue some

      here : (caller' : Option Bool) → (binding_of tables f == binding) ≡ true → MayBe caller' main binding (f ∷ fs) → Idle (anyone may_call) results caller' (code_of tables everyone f)
      here (Some g) e may' =
          in_any g (same e) (may_call true binding) (may_call false binding) refl refl may'.0
          (sym (ap (λ (b : Bool). gives_value (λ binding'. if b then signature_of f else signature_in tables fs binding') binding) e) ∙ may'.1)
      here None e may' =
          function_idle None true (OfMain true) f (h.2 (eq-eqb (binding_of tables f) main (same e ∙ may'))).1 v.0 r.0 tt (λ i. refl)

      other : (caller' : Option Bool) → (binding_of tables f == binding) ≡ false → MayBe caller' main binding (f ∷ fs) → MayBe caller' main binding fs
      other None e may' = may'
      other (Some g) e may' = (may'.0, sym (ap (λ (b : Bool). gives_value (λ binding'. if b then signature_of f else signature_in tables fs binding') binding) e) ∙ may'.1)

      by : (is : Bool) → (binding_of tables f == binding) ≡ is
          → (MayBe caller main binding fs → Idle (anyone may_call) results caller (body_in tables everyone (first + size (code_of tables everyone f)) fs binding))
          → Idle (anyone may_call) results caller (if is then numbered first (code_of tables everyone f) else body_in tables everyone (first + size (code_of tables everyone f)) fs binding)
      by true is others = numbered_idle (anyone may_call) results caller (code_of tables everyone f) first (here caller is may)
      by false is others = others (other caller is may)

-- programs
are_courses : (tables : Tables) (program : ProgramTree) (may_call : (in_group : Bool) → (function : ℕ) → Bool) → IsInPlace tables program may_call
    → AreCourses may_call (bodies_of tables program) (main_of tables program)
are_courses tables program may_call h =
    let fs = functions_of program.items in
    let main = main_of tables program in
    record {
      nested = programs_are_nested tables program h.shaped;
      in_step = forms_are_in_step.function tables program (may_call true) h.noted;
      in_group = λ f may. bodies tables may_call fs OfGroup main f fs 0 (in_groups tables may_call fs main f fs may h.in_place);
      in_body = λ f may. bodies tables may_call fs OfBody main f fs 0 (in_bodies tables may_call fs main f fs may h.in_place);
      main_of = bodies tables may_call fs (OfMain true) main main fs 0 (in_main tables may_call fs main fs h.in_place);
    }

pub programs_follow : ProgramsFollow
programs_follow tables program may_call h =
    code_follows may_call (bodies_of tables program) (main_of tables program) (are_courses tables program may_call h)

module _ (tables : Tables) (program : ProgramTree) (may_call : (in_group : Bool) → (function : ℕ) → Bool) (h : IsInPlace tables program may_call) where
  abbrev pub all : List FunctionTree
  all = functions_of program.items

  abbrev pub gives_of : (function : ℕ) → Bool
  gives_of f = gives_value (signature_in tables all) f

  main_idle : Idle (anyone may_call) gives_of None (bodies_of tables program (main_of tables program))
  main_idle = bodies_idle tables may_call all None (main_of tables program) (main_of tables program) all 0 refl h.in_place h.valued h.returning

  pub programs_are_counted : IsCounted (next_in tables program) all_outs (fork_counts gives_of) (main_work tables program)
  programs_are_counted =
      code_is_counted (anyone may_call) gives_of (bodies_of tables program) (programs_are_nested tables program h.shaped)
      (λ f may. bodies_idle tables may_call all (Some (gives_of f)) (main_of tables program) f all 0 (may, refl) h.in_place h.valued h.returning)
      (main_of tables program) main_idle

  -- at the beginning nothing is pending
  pub none_pending : (p : Processor) → ArePending (next_in tables program) all_outs (fork_counts gives_of) (main_work tables program) p []
  none_pending p =
      subst (λ (x : Option ℕ). has_number x p.call.values (λ ns. is_none ns) [] ≡ true)
      (sym (settled_idle (anyone may_call) gives_of None (bodies_of tables program (main_of tables program)) main_idle).0) refl

pub programs_have_one_program : ProgramsHaveOneProgram
programs_have_one_program tables program may_call h setting schedule words firsts input processors some possible fine =
    groups_have_one_program Work (next_in tables program) all_outs (main_work tables program) (programs_follow tables program may_call h)
    (fork_counts (gives_of tables program may_call h)) (none_pending tables program may_call h) (programs_are_counted tables program may_call h)
    setting schedule processors words input (slice_index firsts) some possible fine
