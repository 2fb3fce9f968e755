-- The code of statements and functions has the shape of flat lists.
use Rattle.std.proofs.Common.{◌≡◌, ℕ, ◌+◌, Bool, true, false, true≢false, List, [], ◌∷◌, Option, Some, None, inl, inr, sym, refl}
use Rattle.std.specs.Prelude.{◌==◌, ◌||◌, ◌⊎◌, is_some, if◌then◌else◌}
use Rattle.fk_syntax.specs.declared.place.Spot.{Spot}
use Rattle.fk_syntax.specs.declared.program.Mode.{Mode}
use Rattle.fk_syntax.specs.Tree.{Named, TypeTree, Tree}
use Rattle.fk_syntax.specs.Program as p
use Rattle.fk_syntax.specs.Program.{DeclaredTree, Statement, Statements, FunctionTree}
use Rattle.fk_meaning_operation.specs.declared.operation.Operation.TheVariants as o
use Rattle.fk_meaning_operation.specs.declared.operation.OwnValue.TheVariants as n
use Rattle.fk_meaning_operation.specs.declared.operation.SplitKind.TheVariants.{IfAlone, IfElse, Loop, Fork}
use Rattle.fk_meaning_forms.specs.Code as c
use Rattle.fk_meaning_forms.specs.Code.{Code, done, perform, choose, while, until, turn, again, quit, break, continue, call, ends, size, numbered}
use Rattle.fk_meaning_forms.specs.Tables.{Tables, note, frame_at}
use Rattle.fk_meaning_forms.specs.Expressions.{Coded, nowhere, plain, agreed, Signature, value}
use Rattle.fk_meaning_forms.specs.Statements.{Inside, is_nothing, used_or, value_or, part_frame, leaving, tested, looping, left_by, executed, all_executed, end_of, body_of}
use Rattle.fk_meaning_forms.specs.Program.{functions_of, binding_of, signature_in, is_main, code_of, body_in, bodies_of}
use Rattle.fk_meaning.proofs.Kept.{IsKept, Keeps, either, agrees, values_kept, uses, uses_or, gives_or, declares, part_frames}
use Rattle.fk_core.specs.CodeAt.{is_first}
use Rattle.fk_core_flat.specs.Shape.{is_done, is_closed, IsShaped}
use Rattle.fk_core_flat.specs.Fitting.{is_defined, Takes, OptionFits, OptionConditionFits, StatementFits, StatementsFit, BodyFits, FunctionsFit, FormsAreShaped, FunctionsAreClosed}
use Rattle.fk_core_flat.proofs.Ok.{Want, at, inner, Ok, on, branch, ended, end, left, left_last, broken, continued, quits, looped, looped_first}
use Rattle.fk_core_flat.proofs.Forms.{kept}

-- of a step of a loop
abbrev step_want : Want
step_want = record { in_loop = true; closed = false; starts = true }

module _ (tables : Tables) (functions : (binding : ℕ) → Signature) (has_body : (binding : ℕ) → Bool) where
  abbrev Fine : Want → Coded → Type 0
  Fine x code = Ok has_body x code

  all : IsKept tables functions (Takes tables functions has_body) Want Fine
  all = kept tables functions has_body

  abbrev Carries : (Coded → Coded) → Type 0
  Carries f = Keeps all f

  -- before code of a function, in a loop or out of one
  abbrev Leads : (in_loop : Bool) → (Coded → Coded) → Type 0
  Leads l f = (closed : Bool) (rest : Coded) → Fine (at l closed) rest → Fine (at l closed) (f rest)

  pushes : (number : ℕ) → Carries (plain (o.Push number))
  pushes number x rest q = on refl q

  gets : Carries (plain (o.Get n.Processors))
  gets x rest q = on refl q

  ranks : Carries (plain (o.Get n.Rank))
  ranks x rest q = on refl q

  -- tests of loops
  leaves : (sync splits : Bool) → Fine (at true false) (if splits then quit nowhere o.Shrink done else agreed sync (quit nowhere (o.Branch true) done))
  leaves sync true = quits refl
  leaves sync false = agrees all sync (at true false) (quit nowhere (o.Branch true) done) (quits refl)

  condition_fits : (e : Option Tree) → OptionConditionFits tables functions has_body e → OptionFits tables functions has_body e
  condition_fits None fits = tt
  condition_fits (Some e) fits = fits.0

  tests : (spot : Spot) (condition : Option Tree) → OptionConditionFits tables functions has_body condition → Fine (at true false) (tested tables functions spot condition)
  tests spot condition fits =
      let here = note tables spot.at in
      gives_or all (plain (o.Push 1)) (pushes 1) condition (condition_fits condition fits) (at true false) (leaving tables functions here) (leaves here.sync here.splits)

  test_begins : (spot : Spot) (condition : Option Tree) → OptionConditionFits tables functions has_body condition
      → (first : ℕ) → is_first (numbered first (tested tables functions spot condition)) ≡ true
  test_begins spot None fits first = refl
  test_begins spot (Some e) fits first = fits.1 (leaving tables functions (note tables spot.at)) first

  -- loops, which may run in a part of their own
  loops : (spot : Spot) (l : Bool) (loop : Coded → Coded) → Leads l loop → Leads l (looping tables functions spot loop)
  loops spot l loop keeps closed rest q =
      let x = at l closed in
      either all x (note tables spot.at).splits
      (choose spot.place (o.Split Loop) (part_frame tables functions spot 0 (loop done)) done (plain o.Resume rest)) (loop rest)
      (branch refl (part_frames all spot 0 (inner x) (loop done) (keeps false done (ended x))) (ended x) (on refl q))
      (keeps closed rest q)

  halts : (inside : Inside) (main l : Bool) → Leads l (λ rest. ends nowhere (if main then o.Halt else o.Leave false inside.framed) rest)
  halts inside true l closed rest q = left refl q
  halts inside false l closed rest q = left refl q

  returns : (inside : Inside) (e : Option Tree) → OptionFits tables functions has_body e → (l : Bool) → Leads l (left_by tables functions inside e)
  returns inside None fits l closed rest q = halts inside inside.main l closed rest q
  returns inside (Some e) fits l closed rest q =
      let x = at l closed in
      let halt = plain o.DropLast (ends nowhere o.Halt rest) in
      let leave = ends nowhere (o.Leave true inside.framed) rest in
      values_kept all e fits x (if inside.main then halt else leave)
      (either all x inside.main halt leave (on refl (left refl q)) (left refl q))

  -- a body that ends its part
  parts : (spot : Spot) (number : ℕ) (l closed : Bool) (body : Coded → Coded) → Leads l body
      → Fine (inner (at l closed)) (part_frame tables functions spot number (body (plain o.End done)))
  parts spot number l closed body keeps =
      part_frames all spot number (at l false) (body (plain o.End done)) (keeps false (plain o.End done) (end (at l closed)))

  -- and one that ends without
  arms : (l closed : Bool) (body : Coded → Coded) → Leads l body → Fine (inner (at l closed)) (body done)
  arms l closed body keeps = keeps false done (ended (at l closed))

  -- the body and the step of a loop
  turns : (body : Coded → Coded) → Leads true body → Fine (at true false) (body done)
  turns body keeps = keeps false done (ended (at true false))

  step_done : Fine step_want done
  step_done = record { shape = λ first. tt; closes = λ e first. absurd (true≢false (sym e)); begins = λ e first. refl }

  mutual
    statement : (inside : Inside) (l : Bool) (s : Statement) → StatementFits tables functions has_body l s → Leads l (executed tables functions inside s)
    statement inside l p.Empty fits closed rest q = q
    statement inside l (p.Expression e) fits closed rest q = uses all e fits (at l closed) rest q
    statement inside l (p.Block statements) fits closed rest q = all_statements inside l statements fits closed rest q
    statement inside l (p.Declare variables) fits closed rest q = declares all variables fits (at l closed) rest q
    statement inside l (p.If spot condition first) fits closed rest q =
        let x = at l closed in
        let here = note tables spot.at in
        let body = executed tables functions inside first in
        let runs = statement inside l first fits.1 in
        let parted = choose spot.place (o.Split IfAlone) (part_frame tables functions spot 0 (body (plain o.End done))) done (plain o.Resume rest) in
        let branched = choose nowhere (o.Branch true) (body done) done rest in
        values_kept all condition fits.0 x (if here.splits then parted else agreed here.sync branched)
        (either all x here.splits parted (agreed here.sync branched)
        (branch refl (parts spot 0 l closed body runs) (ended x) (on refl q))
        (agrees all here.sync x branched (branch refl (arms l closed body runs) (ended x) q)))
    statement inside l (p.IfElse spot condition first second) fits closed rest q =
        let x = at l closed in
        let here = note tables spot.at in
        let a = executed tables functions inside first in
        let b = executed tables functions inside second in
        let runs_a = statement inside l first fits.1 in
        let runs_b = statement inside l second fits.2 in
        let parted = choose spot.place (o.Split IfElse) (part_frame tables functions spot 0 (a (plain o.End done))) (part_frame tables functions spot 1 (b (plain o.End done))) (plain o.Resume rest) in
        let branched = choose nowhere (o.Branch true) (a done) (b done) rest in
        values_kept all condition fits.0 x (if here.splits then parted else agreed here.sync branched)
        (either all x here.splits parted (agreed here.sync branched)
        (branch refl (parts spot 0 l closed a runs_a) (parts spot 1 l closed b runs_b) (on refl q))
        (agrees all here.sync x branched (branch refl (arms l closed a runs_a) (arms l closed b runs_b) q)))
    statement inside l (p.While spot condition body) fits closed rest q =
        let run = executed tables functions inside body in
        let runs = turns run (statement inside true body fits.1) in
        loops spot l (c.while (tested tables functions spot (Some condition)) (run done) done)
        (λ closed' rest' q'. looped (test_begins spot (Some condition) fits.0) (tests spot (Some condition) fits.0) runs step_done q') closed rest q
    statement inside l (p.DoWhile spot body condition) fits closed rest q =
        let run = executed tables functions inside body in
        let runs = turns run (statement inside true body fits.1) in
        loops spot l (c.until (run done) (tested tables functions spot (Some condition)))
        (λ closed' rest' q'. looped_first (test_begins spot (Some condition) fits.0) runs (tests spot (Some condition) fits.0) q') closed rest q
    statement inside l (p.For spot before condition after body) fits closed rest q =
        let run = executed tables functions inside body in
        let runs = turns run (statement inside true body fits.3) in
        let loop = c.while (tested tables functions spot condition) (run done) (used_or tables functions after done) in
        uses_or all before fits.0 (at l closed) (looping tables functions spot loop rest)
        (loops spot l loop
        (λ closed' rest' q'. looped (test_begins spot condition fits.1) (tests spot condition fits.1) runs (uses_or all after fits.2 step_want done step_done) q')
        closed rest q)
    statement inside l (p.Start spot count body) fits closed rest q =
        let x = at l closed in
        let run = executed tables functions inside body in
        gives_or all (plain (o.Get n.Processors)) gets count fits.0 x
        (choose nowhere o.Begin (part_frame tables functions spot 0 (run (plain o.End done))) done (plain o.Resume rest))
        (branch refl (parts spot 0 l closed run (statement inside l body fits.1)) (ended x) (on refl q))
    statement inside l (p.Fork spot k number rank body) fits closed rest q =
        let x = at l closed in
        let run = executed tables functions inside body in
        let split = choose spot.place (o.Split Fork) (part_frame tables functions spot 0 (run (plain o.End done))) done (plain o.Resume rest) in
        let ranked = value_or tables functions (plain (o.Get n.Rank)) rank split in
        let numbered' = value tables functions number ranked in
        let forked : Fine x split = branch refl (parts spot 0 l closed run (statement inside l body fits.3)) (ended x) (on refl q) in
        let number_fine : Fine x numbered' = values_kept all number fits.1 x ranked (gives_or all (plain (o.Get n.Rank)) ranks rank fits.2 x split forked) in
        values_kept all k fits.0 x (plain o.Agree numbered') (on refl number_fine)
    statement inside l (p.Farm spot body) fits closed rest q =
        branch refl (arms l closed (executed tables functions inside body) (statement inside l body fits)) (ended (at l closed)) (on refl q)
    statement inside l (p.Seq spot body) fits closed rest q =
        branch refl (arms l closed (executed tables functions inside body) (statement inside l body fits)) (ended (at l closed)) (on refl q)
    statement inside l (p.Barrier spot) fits closed rest q = on refl q
    statement inside l (p.Break spot) fits closed rest q = broken fits q
    statement inside l (p.Continue spot) fits closed rest q = continued fits q
    statement inside l (p.Return spot e) fits closed rest q = returns inside e fits l closed rest q

    all_statements : (inside : Inside) (l : Bool) (statements : Statements) → StatementsFit tables functions has_body l statements → Leads l (all_executed tables functions inside statements)
    all_statements inside l p.no_statements fits closed rest q = q
    all_statements inside l (p.statement first others) fits closed rest q =
        statement inside l first fits.0 closed (all_executed tables functions inside others rest) (all_statements inside l others fits.1 closed rest q)

  end_fine : (inside : Inside) (void : Bool) → Fine (at false true) (end_of tables functions inside void)
  end_fine inside void = by inside.main void
    where
      by : (main void : Bool) → Fine (at false true) (
          if main then ends nowhere o.Halt done
          else if void then ends nowhere (o.Leave false inside.framed) done
          else plain (o.Push 0) (ends nowhere (o.Leave true inside.framed) done))
      by true void = left_last refl
      by false true = left_last refl
      by false false = on refl (left_last refl)

  body_fine : (inside : Inside) (void : Bool) (statements : Statements) → StatementsFit tables functions has_body false statements
      → Fine (at false true) (body_of tables functions inside void statements)
  body_fine inside void statements fits =
      all_statements inside false statements fits true (end_of tables functions inside void) (end_fine inside void)

-- what is shaped is so where more functions have a body
more : (has_body has_more : ℕ → Bool) → ((f : ℕ) → has_body f ≡ true → has_more f ≡ true) → (l : Bool) (code : Code ℕ) → IsShaped has_body l code → IsShaped has_more l code
more a b f l done h = tt
more a b f l (perform n op rest) h = (h.0, more a b f l rest h.1)
more a b f l (choose n op x y rest) h = (h.0, more a b f l x h.1, more a b f l y h.2, more a b f l rest h.3)
more a b f l (while test body step rest) h =
    (h.0, h.1, more a b f true test h.2, more a b f true body h.3, more a b f true step h.4, more a b f l rest h.5)
more a b f l (until body test rest) h = (h.0, more a b f true body h.1, more a b f true test h.2, more a b f l rest h.3)
more a b f l (turn test body step rest) h = absurd h
more a b f l (again test body step rest) h = absurd h
more a b f l (quit n op rest) h = (h.0, h.1, more a b f l rest h.2)
more a b f l (break rest) h = (h.0, more a b f l rest h.1)
more a b f l (continue rest) h = (h.0, more a b f l rest h.1)
more a b f l (call n op g opening rest) h = (h.0, f g h.1, h.2, more a b f l rest h.3)
more a b f l (ends n op rest) h = (h.0, more a b f l rest h.1)

module _ (tables : Tables) (everyone : List FunctionTree) (has_body : (binding : ℕ) → Bool) where
  function_by : (mode : Mode) (result : TypeTree) (name : Named) (parameters : List DeclaredTree) (body : Option Statements) → BodyFits tables (signature_in tables everyone) has_body body
      → Ok has_body (at false true) (code_of tables everyone (record { mode = mode; result = result; name = name; parameters = parameters; body = body }))
  function_by mode result name parameters None fits = absurd fits
  function_by mode result name parameters (Some statements) fits =
      let f : FunctionTree = record { mode = mode; result = result; name = name; parameters = parameters; body = Some statements } in
      let inside : Inside = record { main = is_main f; framed = is_some (frame_at tables name.at 0) } in
      body_fine tables (signature_in tables everyone) has_body inside (is_nothing result) statements fits

  function_fine : (f : FunctionTree) → BodyFits tables (signature_in tables everyone) has_body f.body → Ok has_body (at false true) (code_of tables everyone f)
  function_fine f fits = function_by f.mode f.result f.name f.parameters f.body fits

  -- a binding has no code, or the code of a function, which is shaped and closed
  record Body (defined : Bool) (code : Code ℕ) : Type 0 where
    shape : IsShaped has_body false code
    closes : defined ≡ true → is_closed code ≡ true
    empty : defined ≡ false → is_done code ≡ true

  bodies : (fs : List FunctionTree) (first binding : ℕ) → FunctionsFit tables (signature_in tables everyone) has_body fs
      → Body (is_defined tables fs binding) (body_in tables everyone first fs binding)
  bodies [] first binding fits = record { shape = tt; closes = λ e. absurd (true≢false (sym e)); empty = λ e. refl }
  bodies (f ∷ fs) first binding fits =
      by (binding_of tables f == binding) (bodies fs (first + size (code_of tables everyone f)) binding fits.1)
    where
      by : (is : Bool) → Body (is_defined tables fs binding) (body_in tables everyone (first + size (code_of tables everyone f)) fs binding)
          → Body (is || is_defined tables fs binding) (if is then numbered first (code_of tables everyone f) else body_in tables everyone (first + size (code_of tables everyone f)) fs binding)
      by true others =
          let own = function_fine f fits.0 in
          record { shape = own.shape first; closes = λ e. own.closes refl first; empty = λ e. absurd (true≢false e) }
      by false others = others

pub forms_are_shaped : FormsAreShaped
forms_are_shaped tables program fits binding =
    let fs = functions_of program.items in
    let has_body = is_defined tables fs in
    let all : (b : ℕ) → Body tables fs has_body (is_defined tables fs b) (body_in tables fs 0 fs b) = λ b. bodies tables fs has_body fs 0 b fits in
    let own = all binding in (
      more has_body (λ f. is_closed (bodies_of tables program f)) (λ f e. (all f).closes e) false (bodies_of tables program binding) own.shape,
      by (has_body binding) (bodies_of tables program binding) own.closes own.empty,
    )
  where
    by : (defined : Bool) (code : Code ℕ) → (defined ≡ true → is_closed code ≡ true) → (defined ≡ false → is_done code ≡ true)
        → (is_done code ≡ true) ⊎ (is_closed code ≡ true)
    by true code closes empty = inr (closes refl)
    by false code closes empty = inl (empty refl)

pub functions_are_closed : FunctionsAreClosed
functions_are_closed tables program fits binding defined =
    let fs = functions_of program.items in (bodies tables fs (is_defined tables fs) fs 0 binding fits).closes defined
