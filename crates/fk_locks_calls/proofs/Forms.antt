-- The code of expressions, statements and functions calls the lock's functions with one value, and with nothing at the beginning of the call.
use Rattle.std.proofs.Common.{◌≡◌, ◌≤◌, ◌⊎◌, ◌+◌, ℕ, suc, Bool, true, false, true≢false, List, [], ◌∷◌, length, Option, Some, None, arith, ap, sym}
use Rattle.std.specs.Prelude.{is_some, if◌then◌else◌}
use Rattle.fk_syntax.specs.declared.place.Place.{Place}
use Rattle.fk_syntax.specs.declared.place.Spot.{Spot}
use Rattle.fk_syntax.specs.declared.program.Mode.{Mode}
use Rattle.fk_syntax.specs.Tree.{Named, TypeTree, Tree, Trees}
use Rattle.fk_syntax.specs.Program as p
use Rattle.fk_syntax.specs.Program.{DeclaredTree, Statement, Statements, FunctionTree}
use Rattle.fk_meaning_operation.specs.declared.operation.Operation.{Operation}
use Rattle.fk_meaning_operation.specs.declared.operation.Operation.TheVariants as o
use Rattle.fk_meaning_operation.specs.declared.operation.OwnValue.TheVariants as n
use Rattle.fk_meaning_operation.specs.declared.operation.SplitKind.TheVariants.{IfAlone, IfElse, Loop, Fork}
use Rattle.fk_meaning_forms.specs.declared.tables.Region.{Region}
use Rattle.fk_meaning_forms.specs.Code as c
use Rattle.fk_meaning_forms.specs.Code.{Code, done, perform, choose, while, until, turn, again, quit, break, continue, call, ends, size, numbered}
use Rattle.fk_meaning_forms.specs.Tables.{Tables, note, frame_at}
use Rattle.fk_meaning_forms.specs.Expressions.{Coded, nowhere, plain, agreed, Signature, framed, parameters, value}
use Rattle.fk_meaning_forms.specs.Statements.{Inside, is_nothing, used_or, value_or, part_frame, leaving, tested, looping, left_by, executed, all_executed, end_of, body_of}
use Rattle.fk_meaning_forms.specs.Program.{is_main, signature_in, code_of}
use Rattle.fk_meaning.specs.Calls.{TakesEnough}
use Rattle.fk_meaning.proofs.Kept.{is_predeclared, entered, IsKept, either, agrees, values_kept, uses, uses_or, gives_or, declares, part_frames}
use Rattle.fk_core_flat.specs.Fitting.{NameFits, Takes, OptionFits, OptionConditionFits, StatementFits, StatementsFit, BodyFits}
use Rattle.fk_locks_calls.proofs.Outer.{CallFits, Outer}

-- code whose calls of the two functions fit
abbrev pub Fine : {A : Type 0} → (take give : ℕ) → Code A → Type 0
Fine take give done = Unit {0}
Fine take give (perform t op rest) = Fine take give rest
Fine take give (choose t op a b rest) = Fine take give a × Fine take give b × Fine take give rest
Fine take give (while test body step rest) = Fine take give test × Fine take give body × Fine take give step × Fine take give rest
Fine take give (until body test rest) = Fine take give body × Fine take give test × Fine take give rest
Fine take give (turn test body step rest) = Fine take give test × Fine take give body × Fine take give step × Fine take give rest
Fine take give (again test body step rest) = Fine take give test × Fine take give body × Fine take give step × Fine take give rest
Fine take give (quit t op rest) = Fine take give rest
Fine take give (break rest) = Fine take give rest
Fine take give (continue rest) = Fine take give rest
Fine take give (call t op f opening rest) = CallFits take give op f opening × Fine take give opening × Fine take give rest
Fine take give (ends t op rest) = Fine take give rest

module _ (take give : ℕ) where
  fits_numbered : {A : Type 0} (op : Operation) (f n : ℕ) (opening : Code A) → CallFits take give op f opening → CallFits take give op f (numbered n opening)
  fits_numbered op f n opening h is = let e = h is in (e.0, ap (numbered n) e.1)

  -- numbered with sites that come after those of the lock
  pub outer_numbered : {A : Type 0} (code : Code A) (k : ℕ) → 27 ≤ k → Fine take give code → Outer take give (numbered k code)
  outer_numbered done k le h = tt
  outer_numbered (perform t op rest) k le h = (le, outer_numbered rest (suc k) (omega (arith, le)) h)
  outer_numbered (choose t op a b rest) k le h = (
    le,
    outer_numbered a (suc k) (omega (arith, le)) h.0,
    outer_numbered b (suc k + size a) (omega (arith, le)) h.1,
    outer_numbered rest (suc k + size a + size b) (omega (arith, le)) h.2,
  )
  outer_numbered (while test body step rest) k le h = (
    outer_numbered test k le h.0,
    outer_numbered body (k + size test) (omega (arith, le)) h.1,
    outer_numbered step (k + size test + size body) (omega (arith, le)) h.2,
    outer_numbered rest (k + size test + size body + size step) (omega (arith, le)) h.3,
  )
  outer_numbered (until body test rest) k le h = (
    outer_numbered body k le h.0,
    outer_numbered test (k + size body) (omega (arith, le)) h.1,
    outer_numbered rest (k + size body + size test) (omega (arith, le)) h.2,
  )
  outer_numbered (turn test body step rest) k le h = (
    outer_numbered test k le h.0,
    outer_numbered body (k + size test) (omega (arith, le)) h.1,
    outer_numbered step (k + size test + size body) (omega (arith, le)) h.2,
    outer_numbered rest (k + size test + size body + size step) (omega (arith, le)) h.3,
  )
  outer_numbered (again test body step rest) k le h = (
    outer_numbered test k le h.0,
    outer_numbered body (k + size test) (omega (arith, le)) h.1,
    outer_numbered step (k + size test + size body) (omega (arith, le)) h.2,
    outer_numbered rest (k + size test + size body + size step) (omega (arith, le)) h.3,
  )
  outer_numbered (quit t op rest) k le h = (le, outer_numbered rest (suc k) (omega (arith, le)) h)
  outer_numbered (break rest) k le h = outer_numbered rest k le h
  outer_numbered (continue rest) k le h = outer_numbered rest k le h
  outer_numbered (call t op f opening rest) k le h = (
    le,
    fits_numbered op f (suc k) opening h.0,
    outer_numbered opening (suc k) (omega (arith, le)) h.1,
    outer_numbered rest (suc k + size opening) (omega (arith, le)) h.2,
  )
  outer_numbered (ends t op rest) k le h = (le, outer_numbered rest (suc k) (omega (arith, le)) h)

  module _ (tables : Tables) (functions : (binding : ℕ) → Signature) (has_body : (binding : ℕ) → Bool)
      (one : (f : ℕ) → (f ≡ take) ⊎ (f ≡ give) → length (functions f).parameters ≡ 1)
      (opens : (f : ℕ) → (f ≡ take) ⊎ (f ≡ give) → (place : Place) → framed tables functions (frame_at tables (functions f).at 0) place (parameters tables functions 0 (functions f).parameters) ≡ done) where
    abbrev Good : Unit {0} → Coded → Type 0
    Good x code = Fine take give code

    puts_in : (i : ℕ) (xs : List DeclaredTree) → Fine take give (parameters tables functions i xs)
    puts_in i [] = tt
    puts_in i (y ∷ ys) = by y.shared (puts_in (suc i) ys)
      where
        by : (b : Bool) → Fine take give (parameters tables functions (suc i) ys) → Fine take give (parameters tables functions i (record y { shared = b } ∷ ys))
        by true q = q
        by false q = q

    opens_frame : (r : Option Region) (place : Place) (code : Coded) → Fine take give code → Fine take give (framed tables functions r place code)
    opens_frame None place code q = q
    opens_frame (Some r) place code q = q

    enters : (name : Named) (rest : Coded) → Fine take give rest → Fine take give (entered tables functions name rest)
    enters name rest q =
        let b = (note tables name.at).binding in
        let function = functions b in
        let opening = parameters tables functions 0 function.parameters in
        ((λ is. (ap (λ k. o.Enter k) (one b is), opens b is name.place)), opens_frame (frame_at tables function.at 0) name.place opening (puts_in 0 function.parameters), q)

    enough : (b : Bool) (name : Named) (given : Trees) → NameFits tables functions has_body b name given → b ≡ true → TakesEnough name given
    enough true name given taken e = taken
    enough false name given taken e = absurd (true≢false (sym e))

    all : IsKept tables functions (Takes tables functions has_body) (Unit {0}) Good
    all = record {
      in_part = λ x. x;
      in_way = λ x. x;
      performs = λ x t op rest e q. q;
      part_ends = λ x. tt;
      way_ends = λ x. tt;
      divides_alone = λ x t by a rest e q r. (q, tt, r);
      divides = λ x t a b rest q r s. (q, r, s);
      branches = λ x t onward a b rest q r s. (q, r, s);
      enters = λ x name given rest taken own q. enters name rest q;
      takes_enough = λ name given taken is. enough (is_predeclared tables name) name given taken is;
    }

    abbrev Leads : (Coded → Coded) → Type 0
    Leads f = (rest : Coded) → Fine take give rest → Fine take give (f rest)

    -- tests of loops
    leaves : (sync splits : Bool) → Fine take give (if splits then quit nowhere o.Shrink done else agreed sync (quit nowhere (o.Branch true) done))
    leaves sync true = tt
    leaves sync false = agrees all sync tt (quit nowhere (o.Branch true) done) tt

    condition_fits : (e : Option Tree) → OptionConditionFits tables functions has_body e → OptionFits tables functions has_body e
    condition_fits None fits = tt
    condition_fits (Some e) fits = fits.0

    tests : (spot : Spot) (condition : Option Tree) → OptionConditionFits tables functions has_body condition → Fine take give (tested tables functions spot condition)
    tests spot condition fits =
        let here = note tables spot.at in
        gives_or all (plain (o.Push 1)) (λ x rest q. q) condition (condition_fits condition fits) tt (leaving tables functions here) (leaves here.sync here.splits)

    loops : (spot : Spot) (loop : Coded → Coded) → Leads loop → Leads (looping tables functions spot loop)
    loops spot loop keeps rest q =
        either all tt (note tables spot.at).splits
        (choose spot.place (o.Split Loop) (part_frame tables functions spot 0 (loop done)) done (plain o.Resume rest)) (loop rest)
        (part_frames all spot 0 tt (loop done) (keeps done tt), tt, q)
        (keeps rest q)

    returns : (inside : Inside) (e : Option Tree) → OptionFits tables functions has_body e → Leads (left_by tables functions inside e)
    returns inside None fits rest q = q
    returns inside (Some e) fits rest q =
        let halt = plain o.DropLast (ends nowhere o.Halt rest) in
        let leave = ends nowhere (o.Leave true inside.framed) rest in
        values_kept all e fits tt (if inside.main then halt else leave) (either all tt inside.main halt leave q q)

    -- a body that ends its part
    parts : (spot : Spot) (number : ℕ) (body : Coded → Coded) → Leads body → Fine take give (part_frame tables functions spot number (body (plain o.End done)))
    parts spot number body keeps = part_frames all spot number tt (body (plain o.End done)) (keeps (plain o.End done) tt)

    mutual
      statement : (inside : Inside) (l : Bool) (s : Statement) → StatementFits tables functions has_body l s → Leads (executed tables functions inside s)
      statement inside l p.Empty fits rest q = q
      statement inside l (p.Expression e) fits rest q = uses all e fits tt rest q
      statement inside l (p.Block statements) fits rest q = all_statements inside l statements fits rest q
      statement inside l (p.Declare variables) fits rest q = declares all variables fits tt rest q
      statement inside l (p.If spot condition first) fits rest q =
          let here = note tables spot.at in
          let body = executed tables functions inside first in
          let runs = statement inside l first fits.1 in
          let parted = choose spot.place (o.Split IfAlone) (part_frame tables functions spot 0 (body (plain o.End done))) done (plain o.Resume rest) in
          let branched = choose nowhere (o.Branch true) (body done) done rest in
          values_kept all condition fits.0 tt (if here.splits then parted else agreed here.sync branched)
          (either all tt here.splits parted (agreed here.sync branched)
          (parts spot 0 body runs, tt, q)
          (agrees all here.sync tt branched (runs done tt, tt, q)))
      statement inside l (p.IfElse spot condition first second) fits rest q =
          let here = note tables spot.at in
          let a = executed tables functions inside first in
          let b = executed tables functions inside second in
          let runs_a = statement inside l first fits.1 in
          let runs_b = statement inside l second fits.2 in
          let parted = choose spot.place (o.Split IfElse) (part_frame tables functions spot 0 (a (plain o.End done))) (part_frame tables functions spot 1 (b (plain o.End done))) (plain o.Resume rest) in
          let branched = choose nowhere (o.Branch true) (a done) (b done) rest in
          values_kept all condition fits.0 tt (if here.splits then parted else agreed here.sync branched)
          (either all tt here.splits parted (agreed here.sync branched)
          (parts spot 0 a runs_a, parts spot 1 b runs_b, q)
          (agrees all here.sync tt branched (runs_a done tt, runs_b done tt, q)))
      statement inside l (p.While spot condition body) fits rest q =
          let run = executed tables functions inside body in
          let runs = statement inside true body fits.1 in
          loops spot (c.while (tested tables functions spot (Some condition)) (run done) done)
          (λ rest' q'. (tests spot (Some condition) fits.0, runs done tt, tt, q')) rest q
      statement inside l (p.DoWhile spot body condition) fits rest q =
          let run = executed tables functions inside body in
          let runs = statement inside true body fits.1 in
          loops spot (c.until (run done) (tested tables functions spot (Some condition)))
          (λ rest' q'. (runs done tt, tests spot (Some condition) fits.0, q')) rest q
      statement inside l (p.For spot before condition after body) fits rest q =
          let run = executed tables functions inside body in
          let runs = statement inside true body fits.3 in
          let loop = c.while (tested tables functions spot condition) (run done) (used_or tables functions after done) in
          uses_or all before fits.0 tt (looping tables functions spot loop rest)
          (loops spot loop (λ rest' q'. (tests spot condition fits.1, runs done tt, uses_or all after fits.2 tt done tt, q')) rest q)
      statement inside l (p.Start spot count body) fits rest q =
          let run = executed tables functions inside body in
          gives_or all (plain (o.Get n.Processors)) (λ x rest' q'. q') count fits.0 tt
          (choose nowhere o.Begin (part_frame tables functions spot 0 (run (plain o.End done))) done (plain o.Resume rest))
          (parts spot 0 run (statement inside l body fits.1), tt, q)
      statement inside l (p.Fork spot k number rank body) fits rest q =
          let run = executed tables functions inside body in
          let split = choose spot.place (o.Split Fork) (part_frame tables functions spot 0 (run (plain o.End done))) done (plain o.Resume rest) in
          let ranked = value_or tables functions (plain (o.Get n.Rank)) rank split in
          let numbered' = value tables functions number ranked in
          let forked : Fine take give split = (parts spot 0 run (statement inside l body fits.3), tt, q) in
          let number_fine : Fine take give numbered' = values_kept all number fits.1 tt ranked (gives_or all (plain (o.Get n.Rank)) (λ x rest' q'. q') rank fits.2 tt split forked) in
          values_kept all k fits.0 tt (plain o.Agree numbered') number_fine
      statement inside l (p.Farm spot body) fits rest q = (statement inside l body fits done tt, tt, q)
      statement inside l (p.Seq spot body) fits rest q = (statement inside l body fits done tt, tt, q)
      statement inside l (p.Barrier spot) fits rest q = q
      statement inside l (p.Break spot) fits rest q = q
      statement inside l (p.Continue spot) fits rest q = q
      statement inside l (p.Return spot e) fits rest q = returns inside e fits rest q

      all_statements : (inside : Inside) (l : Bool) (statements : Statements) → StatementsFit tables functions has_body l statements → Leads (all_executed tables functions inside statements)
      all_statements inside l p.no_statements fits rest q = q
      all_statements inside l (p.statement first others) fits rest q =
          statement inside l first fits.0 (all_executed tables functions inside others rest) (all_statements inside l others fits.1 rest q)

    end_fine : (inside : Inside) (void : Bool) → Fine take give (end_of tables functions inside void)
    end_fine inside void = by inside.main void
      where
        by : (main void : Bool) → Fine take give (
            if main then ends nowhere o.Halt done
            else if void then ends nowhere (o.Leave false inside.framed) done
            else plain (o.Push 0) (ends nowhere (o.Leave true inside.framed) done))
        by true void = tt
        by false true = tt
        by false false = tt

    pub body_fine : (inside : Inside) (void : Bool) (statements : Statements) → StatementsFit tables functions has_body false statements
        → Fine take give (body_of tables functions inside void statements)
    body_fine inside void statements fits =
        all_statements inside false statements fits (end_of tables functions inside void) (end_fine inside void)

  -- the code of a function
  module _ (tables : Tables) (everyone : List FunctionTree) (has_body : (binding : ℕ) → Bool)
      (one : (f : ℕ) → (f ≡ take) ⊎ (f ≡ give) → length (signature_in tables everyone f).parameters ≡ 1)
      (opens : (f : ℕ) → (f ≡ take) ⊎ (f ≡ give) → (place : Place) → framed tables (signature_in tables everyone) (frame_at tables (signature_in tables everyone f).at 0) place (parameters tables (signature_in tables everyone) 0 (signature_in tables everyone f).parameters) ≡ done) where
    function_by : (mode : Mode) (result : TypeTree) (name : Named) (parameters : List DeclaredTree) (body : Option Statements) → BodyFits tables (signature_in tables everyone) has_body body
        → Fine take give (code_of tables everyone (record { mode = mode; result = result; name = name; parameters = parameters; body = body }))
    function_by mode result name parameters None fits = absurd fits
    function_by mode result name parameters (Some statements) fits =
        let f : FunctionTree = record { mode = mode; result = result; name = name; parameters = parameters; body = Some statements } in
        let inside : Inside = record { main = is_main f; framed = is_some (frame_at tables name.at 0) } in
        body_fine tables (signature_in tables everyone) has_body one opens inside (is_nothing result) statements fits

    pub function_fine : (f : FunctionTree) → BodyFits tables (signature_in tables everyone) has_body f.body → Fine take give (code_of tables everyone f)
    function_fine f fits = function_by f.mode f.result f.name f.parameters f.body fits
