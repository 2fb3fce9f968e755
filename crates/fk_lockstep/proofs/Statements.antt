-- The code of statements and functions that are noted as a group's is in step.
use Rattle.std.proofs.Common.{◌≡◌, ℕ, suc, ◌+◌, Bool, true, false, List, [], ◌∷◌, Option, Some, None, sym, refl, subst}
use Rattle.std.proofs.lemmas.Bool.{eqb-true}
use Rattle.std.specs.Prelude.{◌==◌, is_some, if◌then◌else◌}
use Rattle.fk_syntax.specs.declared.facts.Note.{Note}
use Rattle.fk_syntax.specs.declared.place.Spot.{Spot}
use Rattle.fk_syntax.specs.declared.program.Mode.{Mode}
use Rattle.fk_syntax.specs.Tree.{Named, TypeTree, Tree}
use Rattle.fk_syntax.specs.Program as p
use Rattle.fk_syntax.specs.Program.{DeclaredTree, Statement, Statements, FunctionTree}
use Rattle.fk_meaning_operation.specs.declared.operation.Operation.TheVariants as o
use Rattle.fk_meaning_operation.specs.declared.operation.OwnValue.TheVariants as n
use Rattle.fk_meaning_operation.specs.declared.operation.SplitKind.TheVariants.{IfAlone, IfElse, Loop, Fork}
use Rattle.fk_meaning_forms.specs.Code as c
use Rattle.fk_meaning_forms.specs.Code.{Code, done, perform, choose, while, until, turn, again, quit, break, continue, call, ends, size, numbered}
use Rattle.fk_meaning_forms.specs.Tables.{Tables, note, frame_at}
use Rattle.fk_meaning_forms.specs.Expressions.{Coded, ResultLocation, nowhere, plain, agreed, token, Signature, addressed, assigned, dropped, variable, value}
use Rattle.fk_meaning_forms.specs.Statements.{Inside, is_nothing, is_scalar, used, used_or, value_or, declared, all_declared, part_frame, leaving, tested, looping, left_by, executed, all_executed, end_of, body_of}
use Rattle.fk_meaning_forms.specs.Program.{functions_of, binding_of, signature_in, is_main, code_of, body_in}
use Rattle.fk_lockstep.specs.InStep.{is_agree, leaves_step, InStep}
use Rattle.fk_lockstep.specs.Noted.{Decides, Means, Noted, OptionNoted, VariablesNoted, StatementNoted, StatementsNoted, BodyNoted, FunctionsNoted, FormsAreInStep}
use Rattle.fk_lockstep.proofs.Weaken.{mapped, weaken}
use Rattle.fk_lockstep.proofs.Forms.{Ok, either, agrees, addresses, assigns, drops, names, frames, value_in_step}

module _ (tables : Tables) (functions : (binding : ℕ) → Signature) (may_call : (function : ℕ) → Bool) where
  abbrev Fine : Coded → Type 0
  Fine = Ok tables functions may_call

  abbrev Keeps : (Coded → Coded) → Type 0
  Keeps f = (rest : Coded) → Fine rest → Fine (f rest)

  uses : (e : Tree) → Noted tables may_call e → Keeps (used tables functions e)
  uses e noted rest q =
      value_in_step tables functions may_call e noted (dropped tables functions (token e) rest) (drops tables functions may_call (token e) rest q)

  uses_or : (e : Option Tree) → OptionNoted tables may_call e → Keeps (used_or tables functions e)
  uses_or None noted rest q = q
  uses_or (Some e) noted rest q = uses e noted rest q

  gives_or : (absent : Coded → Coded) → Keeps absent → (e : Option Tree) → OptionNoted tables may_call e → Keeps (value_or tables functions absent e)
  gives_or absent keeps None noted rest q = keeps rest q
  gives_or absent keeps (Some e) noted rest q = value_in_step tables functions may_call e noted rest q

  declares_one : (x : DeclaredTree) → Means tables may_call x.name → OptionNoted tables may_call x.first → Keeps (declared tables functions x)
  declares_one x means noted rest q =
      let k : ResultLocation → Coded = λ s. addressed tables functions s (value_or tables functions (plain (o.Push 0)) x.first (assigned tables functions s (plain o.DropLast rest))) in
      either tables functions may_call (is_scalar x) (variable tables functions x.name k) rest
      (names tables functions may_call x.name means k
      (λ s fits.
      let new = assigned tables functions s (plain o.DropLast rest) in
      addresses tables functions may_call s (value_or tables functions (plain (o.Push 0)) x.first new)
      (gives_or (plain (o.Push 0)) (λ rest' q'. (refl, q')) x.first noted new (assigns tables functions may_call s (plain o.DropLast rest) (refl, q)))))
      q

  declares : (xs : List DeclaredTree) → VariablesNoted tables may_call xs → Keeps (all_declared tables functions xs)
  declares [] noted rest q = q
  declares (x ∷ xs) noted rest q = declares_one x noted.0 noted.1 (all_declared tables functions xs rest) (declares xs noted.2 rest q)

  part_frames : (spot : Spot) (part : ℕ) → Keeps (part_frame tables functions spot part)
  part_frames spot part rest q = frames tables functions may_call (frame_at tables spot.at part) spot.place rest q

  leaves : (here : Note) → here.sync ≡ true → Fine (leaving tables functions here)
  leaves here decides =
      either tables functions may_call here.splits (quit nowhere o.Shrink done) (agreed here.sync (quit nowhere (o.Branch true) done)) (refl, tt)
      (agrees tables functions may_call here.sync decides (quit nowhere (o.Branch true) done) (refl, tt))

  tests : (spot : Spot) (condition : Option Tree) → Decides tables may_call spot.at → OptionNoted tables may_call condition → Fine (tested tables functions spot condition)
  tests spot condition decides noted =
      gives_or (plain (o.Push 1)) (λ rest q. (refl, q)) condition noted (leaving tables functions (note tables spot.at)) (leaves (note tables spot.at) decides)

  loops : (spot : Spot) (loop : Coded → Coded) → Keeps loop → Keeps (looping tables functions spot loop)
  loops spot loop keeps rest q =
      let part = part_frame tables functions spot 0 (loop done) in
      either tables functions may_call (note tables spot.at).splits (choose spot.place (o.Split Loop) part done (plain o.Resume rest)) (loop rest)
      (refl, part_frames spot 0 (loop done) (keeps done tt), tt, (refl, q)) (keeps rest q)

  halts : (inside : Inside) (main : Bool) (rest : Coded) → Fine rest → Fine (ends nowhere (if main then o.Halt else o.Leave false inside.framed) rest)
  halts inside true rest q = (refl, q)
  halts inside false rest q = (refl, q)

  returns : (inside : Inside) (e : Option Tree) → OptionNoted tables may_call e → Keeps (left_by tables functions inside e)
  returns inside None noted rest q = halts inside inside.main rest q
  returns inside (Some e) noted rest q =
      let halt = plain o.DropLast (ends nowhere o.Halt rest) in
      let leave = ends nowhere (o.Leave true inside.framed) rest in
      value_in_step tables functions may_call e noted (if inside.main then halt else leave)
      (either tables functions may_call inside.main halt leave (refl, (refl, q)) (refl, q))

  -- a body that ends its part
  parts : (spot : Spot) (part : ℕ) (body : Coded → Coded) → Keeps body → Fine (part_frame tables functions spot part (body (plain o.End done)))
  parts spot part body keeps = part_frames spot part (body (plain o.End done)) (keeps (plain o.End done) (refl, tt))

  mutual
    statement : (inside : Inside) (s : Statement) → StatementNoted tables may_call s → Keeps (executed tables functions inside s)
    statement inside p.Empty noted rest q = q
    statement inside (p.Expression e) noted rest q = uses e noted rest q
    statement inside (p.Block statements) noted rest q = all_statements inside statements noted rest q
    statement inside (p.Declare variables) noted rest q = declares variables noted rest q
    statement inside (p.If spot condition first) noted rest q =
        let here = note tables spot.at in
        let body = executed tables functions inside first in
        let parted = choose spot.place (o.Split IfAlone) (part_frame tables functions spot 0 (body (plain o.End done))) done (plain o.Resume rest) in
        let branched = choose nowhere (o.Branch true) (body done) done rest in
        value_in_step tables functions may_call condition noted.1 (if here.splits then parted else agreed here.sync branched)
        (either tables functions may_call here.splits parted (agreed here.sync branched)
        (refl, parts spot 0 body (statement inside first noted.2), tt, (refl, q))
        (agrees tables functions may_call here.sync noted.0 branched (refl, statement inside first noted.2 done tt, tt, q)))
    statement inside (p.IfElse spot condition first second) noted rest q =
        let here = note tables spot.at in
        let a = executed tables functions inside first in
        let b = executed tables functions inside second in
        let parted = choose spot.place (o.Split IfElse) (part_frame tables functions spot 0 (a (plain o.End done))) (part_frame tables functions spot 1 (b (plain o.End done))) (plain o.Resume rest) in
        let branched = choose nowhere (o.Branch true) (a done) (b done) rest in
        value_in_step tables functions may_call condition noted.1 (if here.splits then parted else agreed here.sync branched)
        (either tables functions may_call here.splits parted (agreed here.sync branched)
        (refl, parts spot 0 a (statement inside first noted.2), parts spot 1 b (statement inside second noted.3), (refl, q))
        (agrees tables functions may_call here.sync noted.0 branched (refl, statement inside first noted.2 done tt, statement inside second noted.3 done tt, q)))
    statement inside (p.While spot condition body) noted rest q =
        loops spot (c.while (tested tables functions spot (Some condition)) (executed tables functions inside body done) done)
        (λ rest' q'. (tests spot (Some condition) noted.0 noted.1, statement inside body noted.2 done tt, tt, q')) rest q
    statement inside (p.DoWhile spot body condition) noted rest q =
        loops spot (c.until (executed tables functions inside body done) (tested tables functions spot (Some condition)))
        (λ rest' q'. (statement inside body noted.2 done tt, tests spot (Some condition) noted.0 noted.1, q')) rest q
    statement inside (p.For spot before condition after body) noted rest q =
        let loop = c.while (tested tables functions spot condition) (executed tables functions inside body done) (used_or tables functions after done) in
        uses_or before noted.1 (looping tables functions spot loop rest)
        (loops spot loop
        (λ rest' q'. (tests spot condition noted.0 noted.2, statement inside body noted.4 done tt, uses_or after noted.3 done tt, q')) rest q)
    statement inside (p.Start spot count body) noted rest q =
        let run = executed tables functions inside body in
        gives_or (plain (o.Get n.Processors)) (λ rest' q'. (refl, q')) count noted.0
        (choose nowhere o.Begin (part_frame tables functions spot 0 (run (plain o.End done))) done (plain o.Resume rest))
        (refl, parts spot 0 run (statement inside body noted.1), tt, (refl, q))
    statement inside (p.Fork spot k part rank body) noted rest q =
        let run = executed tables functions inside body in
        let split = choose spot.place (o.Split Fork) (part_frame tables functions spot 0 (run (plain o.End done))) done (plain o.Resume rest) in
        let ranked = value_or tables functions (plain (o.Get n.Rank)) rank split in
        let numbers = value tables functions part ranked in
        let forked : Fine split = (refl, parts spot 0 run (statement inside body noted.3), tt, (refl, q)) in
        let rest_fine : Fine numbers = value_in_step tables functions may_call part noted.1 ranked (gives_or (plain (o.Get n.Rank)) (λ rest' q'. (refl, q')) rank noted.2 split forked) in
        value_in_step tables functions may_call k noted.0 (plain o.Agree numbers)
        (refl, weaken may_call true numbers rest_fine)
    statement inside (p.Farm spot body) noted rest q = (refl, tt, tt, (refl, q))
    statement inside (p.Seq spot body) noted rest q = (refl, tt, tt, (refl, q))
    statement inside (p.Barrier spot) noted rest q = (refl, q)
    statement inside (p.Break spot) noted rest q = q
    statement inside (p.Continue spot) noted rest q = q
    statement inside (p.Return spot e) noted rest q = returns inside e noted rest q

    all_statements : (inside : Inside) (statements : Statements) → StatementsNoted tables may_call statements → Keeps (all_executed tables functions inside statements)
    all_statements inside p.no_statements noted rest q = q
    all_statements inside (p.statement first others) noted rest q =
        statement inside first noted.0 (all_executed tables functions inside others rest) (all_statements inside others noted.1 rest q)

  end_in_step : (inside : Inside) (void : Bool) → Fine (end_of tables functions inside void)
  end_in_step inside void = by inside.main void
    where
      by : (main void : Bool) → Fine (
          if main then ends nowhere o.Halt done
          else if void then ends nowhere (o.Leave false inside.framed) done
          else plain (o.Push 0) (ends nowhere (o.Leave true inside.framed) done))
      by true void = (refl, tt)
      by false true = (refl, tt)
      by false false = (refl, (refl, tt))

  pub body_in_step : (inside : Inside) (void : Bool) (statements : Statements) → StatementsNoted tables may_call statements → Fine (body_of tables functions inside void statements)
  body_in_step inside void statements noted =
      all_statements inside statements noted (end_of tables functions inside void) (end_in_step inside void)

-- numbers in place of the places change nothing
pub numbers : {A : Type 0} (may_call : (function : ℕ) → Bool) (agreed : Bool) (code : Code A) (first : ℕ) → InStep may_call agreed code → InStep may_call agreed (numbered first code)
numbers may_call agreed done first h = tt
numbers may_call agreed (perform t op rest) first h = (h.0, numbers may_call (is_agree op) rest (suc first) h.1)
numbers may_call agreed (choose t op a b rest) first h = (
  h.0,
  mapped (leaves_step op) (InStep may_call false a) (InStep may_call false (numbered (suc first) a)) (numbers may_call false a (suc first)) h.1,
  numbers may_call false b (suc first + size a) h.2,
  numbers may_call false rest (suc first + size a + size b) h.3,
)
numbers may_call agreed (while test body step rest) first h = (
  numbers may_call false test first h.0,
  numbers may_call false body (first + size test) h.1,
  numbers may_call false step (first + size test + size body) h.2,
  numbers may_call false rest (first + size test + size body + size step) h.3,
)
numbers may_call agreed (until body test rest) first h = (
  numbers may_call false body first h.0,
  numbers may_call false test (first + size body) h.1,
  numbers may_call false rest (first + size body + size test) h.2,
)
numbers may_call agreed (turn test body step rest) first h = absurd h
numbers may_call agreed (again test body step rest) first h = absurd h
numbers may_call agreed (quit t op rest) first h = (h.0, numbers may_call false rest (suc first) h.1)
numbers may_call agreed (break rest) first h = numbers may_call false rest first h
numbers may_call agreed (continue rest) first h = numbers may_call false rest first h
numbers may_call agreed (call t op f opening rest) first h = (
  h.0,
  h.1,
  numbers may_call false opening (suc first) h.2,
  numbers may_call false rest (suc first + size opening) h.3,
)
numbers may_call agreed (ends t op rest) first h = (h.0, numbers may_call false rest (suc first) h.1)

module _ (tables : Tables) (may_call : (function : ℕ) → Bool) (everyone : List FunctionTree) where
  -- a function, by its parts
  function_by : (mode : Mode) (result : TypeTree) (name : Named) (parameters : List DeclaredTree) (body : Option Statements) → BodyNoted tables may_call body
      → InStep may_call false (code_of tables everyone (record { mode = mode; result = result; name = name; parameters = parameters; body = body }))
  function_by mode result name parameters None noted = tt
  function_by mode result name parameters (Some statements) noted =
      let f : FunctionTree = record { mode = mode; result = result; name = name; parameters = parameters; body = Some statements } in
      let inside : Inside = record { main = is_main f; framed = is_some (frame_at tables name.at 0) } in
      body_in_step tables (signature_in tables everyone) may_call inside (is_nothing result) statements noted

  function_in_step : (f : FunctionTree) → BodyNoted tables may_call f.body → InStep may_call false (code_of tables everyone f)
  function_in_step f noted = function_by f.mode f.result f.name f.parameters f.body noted

  bodies : (fs : List FunctionTree) (first binding : ℕ) → FunctionsNoted tables may_call fs → may_call binding ≡ true
      → InStep may_call false (body_in tables everyone first fs binding)
  bodies [] first binding noted may = tt
  bodies (f ∷ fs) first binding noted may =
      by (binding_of tables f == binding) refl (bodies fs (first + size (code_of tables everyone f)) binding noted.1 may)
    where
      by : (is : Bool) → (binding_of tables f == binding) ≡ is
          → InStep may_call false (body_in tables everyone (first + size (code_of tables everyone f)) fs binding)
          → InStep may_call false (if is then numbered first (code_of tables everyone f) else body_in tables everyone (first + size (code_of tables everyone f)) fs binding)
      by true is others =
          let same : may_call (binding_of tables f) ≡ true = subst (λ b. may_call b ≡ true) (sym (eqb-true (binding_of tables f) binding is)) may in
          numbers may_call false (code_of tables everyone f) first (function_in_step f (noted.0 same))
      by false is others = others

pub forms_are_in_step : FormsAreInStep
forms_are_in_step = record {
  statement = λ tables functions may_call inside s rest noted q. statement tables functions may_call inside s noted rest q;
  function = λ tables program may_call noted binding may.
      let fs = functions_of program.items in
      bodies tables may_call fs fs 0 binding noted may;
}
