-- The code of statements and functions has its parts and bodies nested.
use Rattle.std.proofs.Common.{◌≡◌, ℕ, suc, ◌+◌, Bool, true, false, List, [], ◌∷◌, Option, Some, None, ap, sym, refl, subst}
use Rattle.std.specs.Prelude.{◌==◌, is_some, if◌then◌else◌}
use Rattle.fk_syntax.specs.declared.facts.Note.{Note}
use Rattle.fk_syntax.specs.declared.place.Spot.{Spot}
use Rattle.fk_syntax.specs.declared.program.Mode.{Mode}
use Rattle.fk_syntax.specs.Tree.{Named, TypeTree, Tree}
use Rattle.fk_syntax.specs.Program as p
use Rattle.fk_syntax.specs.Program.{DeclaredTree, Statement, Statements, FunctionTree, ProgramTree}
use Rattle.fk_meaning_operation.specs.declared.operation.Operation.TheVariants as o
use Rattle.fk_meaning_operation.specs.declared.operation.OwnValue.TheVariants as n
use Rattle.fk_meaning_operation.specs.declared.operation.SplitKind.TheVariants.{IfAlone, IfElse, Loop, Fork}
use Rattle.fk_meaning_forms.specs.Code as c
use Rattle.fk_meaning_forms.specs.Code.{Code, done, perform, choose, while, until, turn, again, quit, break, continue, call, ends, size, numbered}
use Rattle.fk_meaning_forms.specs.Tables.{Tables, note, frame_at}
use Rattle.fk_meaning_forms.specs.Expressions.{Coded, nowhere, plain, agreed, Signature, value}
use Rattle.fk_meaning_forms.specs.Statements.{Inside, is_nothing, used_or, value_or, part_frame, leaving, tested, looping, left_by, executed, all_executed, end_of, body_of}
use Rattle.fk_meaning_forms.specs.Program.{functions_of, binding_of, signature_in, is_main, code_of, body_in}
use Rattle.fk_meaning.specs.Shape.{Exits, none, of_function, of_test, of_turn, of_arm, of_way, splits, has_two_parts, ends_part, Either, Shape, begins}
use Rattle.fk_meaning.specs.Behind.{opens_body}
use Rattle.fk_meaning.specs.Shaped.{Takes, is_split, of_branch, OptionFits, StatementShaped, StatementsShaped, BodyShaped, FunctionsShaped, ProgramsAreNested}
use Rattle.fk_meaning.proofs.Spine.{untrue}
use Rattle.fk_meaning.proofs.Kept.{IsKept, either, agrees, values_kept, uses, uses_or, gives_or, declares, part_frames}
use Rattle.fk_meaning.proofs.Forms.{Nests, ended, end, kept}

-- what a statement may do, in code that is no test
abbrev Plain : Exits → Type 0
Plain x = (x.tests ≡ false) × (of_arm x ≡ x)

none_plain : Plain none
none_plain = (refl, refl)

turn_plain : (b : Bool) (x : Exits) → Plain (of_turn b x)
turn_plain b x = (refl, refl)

branch_plain : (b : Bool) (x : Exits) → Plain x → Plain (if b then none else x)
branch_plain true x h = none_plain
branch_plain false x h = h

module _ (tables : Tables) (functions : (binding : ℕ) → Signature) where
  abbrev Fine : (part : Bool) → Exits → Coded → Type 0
  Fine part x code = Nests (part, x) code

  all : IsKept tables functions (Takes tables) (Bool × Exits) Nests
  all = kept tables functions

  -- before code that takes some exits
  abbrev Leads : Exits → (Coded → Coded) → Type 0
  Leads x f = (part : Bool) (rest : Coded) → Fine part x rest → Fine part x (f rest)

  -- tests of loops
  leaves : (here : Note) (b : Bool) → Fine false (of_test b) (if b then quit nowhere o.Shrink done else agreed here.sync (quit nowhere (o.Branch true) done))
  leaves here true = (refl, refl, refl, refl, refl, refl)
  leaves here false = agrees all here.sync (false, of_test false) (quit nowhere (o.Branch true) done) (refl, refl, refl, refl, refl, refl)

  tests : (spot : Spot) (condition : Option Tree) → OptionFits tables functions condition → Fine false (of_test (is_split tables functions spot.at)) (tested tables functions spot condition)
  tests spot condition fits =
      gives_or all (plain (o.Push 1)) (λ w rest q. (refl, refl, q)) condition fits (false, of_test (is_split tables functions spot.at)) (leaving tables functions (note tables spot.at))
      (leaves (note tables spot.at) (is_split tables functions spot.at))

  -- loops
  while_shape : (part b : Bool) (x : Exits) (test body step rest : Coded) → Fine false (of_test b) test → Fine false (of_turn b x) body → Fine false none step
      → Either b ((part ≡ true) × (x.tests ≡ false) × (rest ≡ done)) (Fine part x rest) → Fine part x (while test body step rest)
  while_shape part b x test body step rest t u s e = (refl, b, t, u, s, e)

  until_shape : (part b : Bool) (x : Exits) (test body rest : Coded) → Fine false (of_test b) test → Fine false (of_turn b x) body
      → Either b ((part ≡ true) × (x.tests ≡ false) × (rest ≡ done)) (Fine part x rest) → Fine part x (until body test rest)
  until_shape part b x test body rest t u e = (refl, b, t, u, e)

  loops : (spot : Spot) (x : Exits) (loop : Coded → Coded) (b : Bool)
      → ((part : Bool) (x' : Exits) (rest : Coded) → of_turn b x' ≡ of_turn b x → Either b ((part ≡ true) × (x'.tests ≡ false) × (rest ≡ done)) (Fine part x' rest) → Fine part x' (loop rest))
      → (part : Bool) (rest : Coded) → Fine part x rest
      → Fine part x (if b then choose spot.place (o.Split Loop) (part_frame tables functions spot 0 (loop done)) done (plain o.Resume rest) else loop rest)
  loops spot x loop true keeps part rest q =
      (refl, refl, part_frames all spot 0 (true, none) (loop done) (keeps true none done refl (refl, refl, refl)), ended none refl, (λ e. refl), (λ e. refl), (refl, refl, q))
  loops spot x loop false keeps part rest q = keeps part x rest refl q

  halts : (inside : Inside) (main : Bool) (part : Bool) (x : Exits) (rest : Coded) → x.returns ≡ true → Fine part x rest
      → Fine part x (ends nowhere (if main then o.Halt else o.Leave false inside.framed) rest)
  halts inside true part x rest may q = (refl, refl, may, q)
  halts inside false part x rest may q = (refl, refl, may, q)

  returns : (inside : Inside) (e : Option Tree) → OptionFits tables functions e → (x : Exits) → x.returns ≡ true → Leads x (left_by tables functions inside e)
  returns inside None fits x may part rest q = halts inside inside.main part x rest may q
  returns inside (Some e) fits x may part rest q =
      let halt = plain o.DropLast (ends nowhere o.Halt rest) in
      let leave = ends nowhere (o.Leave true inside.framed) rest in
      values_kept all e fits (part, x) (if inside.main then halt else leave)
      (either all (part, x) inside.main halt leave (refl, refl, (refl, refl, may, q)) (refl, refl, may, q))

  -- a body that ends its part
  parts : (spot : Spot) (number : ℕ) (body : Coded → Coded) → Leads none body → Fine true none (part_frame tables functions spot number (body (plain o.End done)))
  parts spot number body keeps =
      part_frames all spot number (true, none) (body (plain o.End done)) (keeps true (plain o.End done) (end none refl))

  -- the arm of a branch
  arms : (x : Exits) → Plain x → (body : Coded → Coded) → Leads x body → Fine false (of_arm x) (body done)
  arms x plain' body keeps = subst (λ y. Fine false y (body done)) (sym plain'.1) (keeps false done (ended x plain'.0))

  arm_done : (x : Exits) → Fine false (of_arm x) done
  arm_done x = (refl, refl, refl)

  -- `if`, split or not
  ifs : (spot : Spot) (sync : Bool) (x : Exits) → Plain x → (b : Bool) (body : Coded → Coded) → Leads (if b then none else x) body → (part : Bool) (rest : Coded) → Fine part x rest
      → Fine part x (if b
      then choose spot.place (o.Split IfAlone) (part_frame tables functions spot 0 (body (plain o.End done))) done (plain o.Resume rest)
      else agreed sync (choose nowhere (o.Branch true) (body done) done rest))
  ifs spot sync x plain' true body keeps part rest q =
      (refl, refl, parts spot 0 body keeps, ended none refl, (λ e. refl), (λ e. refl), (refl, refl, q))
  ifs spot sync x plain' false body keeps part rest q =
      agrees all sync (part, x) (choose nowhere (o.Branch true) (body done) done rest)
      (refl, refl, arms x plain' body keeps, arm_done x, (λ e. untrue e), (λ e. untrue e), q)

  if_elses : (spot : Spot) (sync : Bool) (x : Exits) → Plain x → (b : Bool) (first second : Coded → Coded) → Leads (if b then none else x) first → Leads (if b then none else x) second
      → (part : Bool) (rest : Coded) → Fine part x rest
      → Fine part x (if b
      then choose spot.place (o.Split IfElse) (part_frame tables functions spot 0 (first (plain o.End done))) (part_frame tables functions spot 1 (second (plain o.End done))) (plain o.Resume rest)
      else agreed sync (choose nowhere (o.Branch true) (first done) (second done) rest))
  if_elses spot sync x plain' true first second one two part rest q =
      (refl, refl, parts spot 0 first one, parts spot 1 second two, (λ e. untrue e), (λ e. refl), (refl, refl, q))
  if_elses spot sync x plain' false first second one two part rest q =
      agrees all sync (part, x) (choose nowhere (o.Branch true) (first done) (second done) rest)
      (refl, refl, arms x plain' first one, arms x plain' second two, (λ e. untrue e), (λ e. untrue e), q)

  mutual
    statement : (inside : Inside) (x : Exits) → Plain x → (s : Statement) → StatementShaped tables functions x s → Leads x (executed tables functions inside s)
    statement inside x plain' p.Empty shaped part rest q = q
    statement inside x plain' (p.Expression e) shaped part rest q = uses all e shaped (part, x) rest q
    statement inside x plain' (p.Block statements) shaped part rest q = all_statements inside x plain' statements shaped part rest q
    statement inside x plain' (p.Declare variables) shaped part rest q = declares all variables shaped (part, x) rest q
    statement inside x plain' (p.If spot condition first) shaped part rest q =
        let here = note tables spot.at in
        let body = executed tables functions inside first in
        let inner = branch_plain here.splits x plain' in
        values_kept all condition shaped.0 (part, x)
        (if here.splits
        then choose spot.place (o.Split IfAlone) (part_frame tables functions spot 0 (body (plain o.End done))) done (plain o.Resume rest)
        else agreed here.sync (choose nowhere (o.Branch true) (body done) done rest))
        (ifs spot here.sync x plain' here.splits body (statement inside (of_branch tables functions here.splits x) inner first shaped.1) part rest q)
    statement inside x plain' (p.IfElse spot condition first second) shaped part rest q =
        let here = note tables spot.at in
        let a = executed tables functions inside first in
        let b = executed tables functions inside second in
        let inner = branch_plain here.splits x plain' in
        values_kept all condition shaped.0 (part, x)
        (if here.splits
        then choose spot.place (o.Split IfElse) (part_frame tables functions spot 0 (a (plain o.End done))) (part_frame tables functions spot 1 (b (plain o.End done))) (plain o.Resume rest)
        else agreed here.sync (choose nowhere (o.Branch true) (a done) (b done) rest))
        (if_elses spot here.sync x plain' here.splits a b
        (statement inside (of_branch tables functions here.splits x) inner first shaped.1)
        (statement inside (of_branch tables functions here.splits x) inner second shaped.2) part rest q)
    statement inside x plain' (p.While spot condition body) shaped part rest q =
        let b = is_split tables functions spot.at in
        let run = executed tables functions inside body done in
        let ran = statement inside (of_turn b x) (turn_plain b x) body shaped.1 false done (ended (of_turn b x) refl) in
        loops spot x (c.while (tested tables functions spot (Some condition)) run done) b
        (λ part' x' rest' same e'. while_shape part' b x' (tested tables functions spot (Some condition)) run done rest' (tests spot (Some condition) shaped.0)
        (subst (λ y. Fine false y run) (sym same) ran) (ended none refl) e') part rest q
    statement inside x plain' (p.DoWhile spot body condition) shaped part rest q =
        let b = is_split tables functions spot.at in
        let run = executed tables functions inside body done in
        let ran = statement inside (of_turn b x) (turn_plain b x) body shaped.1 false done (ended (of_turn b x) refl) in
        loops spot x (c.until run (tested tables functions spot (Some condition))) b
        (λ part' x' rest' same e'. until_shape part' b x' (tested tables functions spot (Some condition)) run rest' (tests spot (Some condition) shaped.0)
        (subst (λ y. Fine false y run) (sym same) ran) e') part rest q
    statement inside x plain' (p.For spot before condition after body) shaped part rest q =
        let b = is_split tables functions spot.at in
        let run = executed tables functions inside body done in
        let ran = statement inside (of_turn b x) (turn_plain b x) body shaped.3 false done (ended (of_turn b x) refl) in
        let step = used_or tables functions after done in
        uses_or all before shaped.0 (part, x) (looping tables functions spot (c.while (tested tables functions spot condition) run step) rest)
        (loops spot x (c.while (tested tables functions spot condition) run step) b
        (λ part' x' rest' same e'. while_shape part' b x' (tested tables functions spot condition) run step rest' (tests spot condition shaped.1)
        (subst (λ y. Fine false y run) (sym same) ran) (uses_or all after shaped.2 (false, none) done (ended none refl)) e') part rest q)
    statement inside x plain' (p.Start spot count body) shaped part rest q =
        let run = executed tables functions inside body in
        gives_or all (plain (o.Get n.Processors)) (λ w rest' q'. (refl, refl, q')) count shaped.0 (part, x)
        (choose nowhere o.Begin (part_frame tables functions spot 0 (run (plain o.End done))) done (plain o.Resume rest))
        (refl, refl, parts spot 0 run (statement inside none none_plain body shaped.1), ended none refl, (λ e. refl), (λ e. refl), (refl, refl, q))
    statement inside x plain' (p.Fork spot k number rank body) shaped part rest q =
        let run = executed tables functions inside body in
        let split = choose spot.place (o.Split Fork) (part_frame tables functions spot 0 (run (plain o.End done))) done (plain o.Resume rest) in
        let ranked = value_or tables functions (plain (o.Get n.Rank)) rank split in
        let numbered' = value tables functions number ranked in
        let forked : Fine part x split
        = (refl, refl, parts spot 0 run (statement inside none none_plain body shaped.3), ended none refl, (λ e. refl), (λ e. refl), (refl, refl, q)) in
        let number_fine : Fine part x numbered'
        = values_kept all number shaped.1 (part, x) ranked (gives_or all (plain (o.Get n.Rank)) (λ w rest' q'. (refl, refl, q')) rank shaped.2 (part, x) split forked) in
        values_kept all k shaped.0 (part, x) (plain o.Agree numbered') (refl, refl, number_fine)
    statement inside x plain' (p.Farm spot body) shaped part rest q =
        (refl, refl, statement inside none none_plain body shaped false done (ended none refl), ended none refl, (λ e. refl), (λ e. untrue e), (refl, refl, q))
    statement inside x plain' (p.Seq spot body) shaped part rest q =
        (refl, refl, statement inside none none_plain body shaped false done (ended none refl), ended none refl, (λ e. refl), (λ e. untrue e), (refl, refl, q))
    statement inside x plain' (p.Barrier spot) shaped part rest q = (refl, refl, q)
    statement inside x plain' (p.Break spot) shaped part rest q = (refl, shaped, q)
    statement inside x plain' (p.Continue spot) shaped part rest q = (refl, shaped, q)
    statement inside x plain' (p.Return spot e) shaped part rest q = returns inside e shaped.1 x shaped.0 part rest q

    all_statements : (inside : Inside) (x : Exits) → Plain x → (statements : Statements) → StatementsShaped tables functions x statements → Leads x (all_executed tables functions inside statements)
    all_statements inside x plain' p.no_statements shaped part rest q = q
    all_statements inside x plain' (p.statement first others) shaped part rest q =
        statement inside x plain' first shaped.0 part (all_executed tables functions inside others rest) (all_statements inside x plain' others shaped.1 part rest q)

  end_nested : (inside : Inside) (void : Bool) → Fine false of_function (end_of tables functions inside void)
  end_nested inside void = by inside.main void
    where
      last : Fine false of_function done
      last = (refl, refl, refl)

      by : (main void : Bool) → Fine false of_function (
          if main then ends nowhere o.Halt done
          else if void then ends nowhere (o.Leave false inside.framed) done
          else plain (o.Push 0) (ends nowhere (o.Leave true inside.framed) done))
      by true void = (refl, refl, refl, last)
      by false true = (refl, refl, refl, last)
      by false false = (refl, refl, (refl, refl, refl, last))

  pub body_shaped : (inside : Inside) (void : Bool) (statements : Statements) → StatementsShaped tables functions of_function statements
      → Fine false of_function (body_of tables functions inside void statements)
  body_shaped inside void statements shaped =
      all_statements inside of_function (refl, refl) statements shaped false (end_of tables functions inside void) (end_nested inside void)

-- numbers in place of the places change nothing
begins_numbered : {A : Type 0} (code : Code A) (first : ℕ) → begins code ≡ true → begins (numbered first code) ≡ true
begins_numbered (perform t op rest) first e = refl
begins_numbered code first e = untrue e

done_numbered : {A : Type 0} (code : Code A) (first : ℕ) → code ≡ done → numbered first code ≡ done
done_numbered code first e = ap (numbered first) e

either_numbered : {A : Type 0} (b part : Bool) (x : Exits) (rest : Code A) (first : ℕ) → (Shape part false x rest → Shape part false x (numbered first rest))
    → Either b ((part ≡ true) × (x.tests ≡ false) × (rest ≡ done)) (Shape part false x rest)
    → Either b ((part ≡ true) × (x.tests ≡ false) × (numbered first rest ≡ done)) (Shape part false x (numbered first rest))
either_numbered true part x rest first f h = (h.0, h.1, done_numbered rest first h.2)
either_numbered false part x rest first f h = f h

numbers : {A : Type 0} (part closing : Bool) (x : Exits) (code : Code A) (first : ℕ) → Shape part closing x code → Shape part closing x (numbered first code)
numbers part closing x done first h = h
numbers part closing x (perform t op rest) first h = (
  h.0,
  h.1,
  either_numbered (ends_part op) part x rest (suc first) (numbers part false x rest (suc first)) h.2,
)
numbers part closing x (choose t op a b rest) first h = (
  h.0,
  h.1,
  numbers (splits op) false (of_way op x) a (suc first) h.2,
  numbers (has_two_parts op) false (of_way op x) b (suc first + size a) h.3,
  (λ e. done_numbered b (suc first + size a) (h.4 e)),
  (λ e. begins_numbered rest (suc first + size a + size b) (h.5 e)),
  numbers part (opens_body op) x rest (suc first + size a + size b) h.6,
)
numbers part closing x (while test body step rest) first h = (
  h.0,
  h.1,
  numbers false false (of_test h.1) test first h.2,
  numbers false false (of_turn h.1 x) body (first + size test) h.3,
  numbers false false none step (first + size test + size body) h.4,
  either_numbered h.1 part x rest (first + size test + size body + size step) (numbers part false x rest (first + size test + size body + size step)) h.5,
)
numbers part closing x (until body test rest) first h = (
  h.0,
  h.1,
  numbers false false (of_test h.1) test (first + size body) h.2,
  numbers false false (of_turn h.1 x) body first h.3,
  either_numbered h.1 part x rest (first + size body + size test) (numbers part false x rest (first + size body + size test)) h.4,
)
numbers part closing x (turn test body step rest) first h = absurd h
numbers part closing x (again test body step rest) first h = absurd h
numbers part closing x (quit t op rest) first h = (h.0, h.1, h.2, h.3, h.4, done_numbered rest (suc first) h.5)
numbers part closing x (break rest) first h = (h.0, h.1, numbers part false x rest first h.2)
numbers part closing x (continue rest) first h = (h.0, h.1, numbers part false x rest first h.2)
numbers part closing x (call t op f opening rest) first h =
    (h.0, h.1, numbers false false none opening (suc first) h.2, numbers part false x rest (suc first + size opening) h.3)
numbers part closing x (ends t op rest) first h = (h.0, h.1, h.2, numbers part false x rest (suc first) h.3)

module _ (tables : Tables) (everyone : List FunctionTree) where
  function_by : (mode : Mode) (result : TypeTree) (name : Named) (parameters : List DeclaredTree) (body : Option Statements) → BodyShaped tables (signature_in tables everyone) body
      → Shape false false of_function (code_of tables everyone (record { mode = mode; result = result; name = name; parameters = parameters; body = body }))
  function_by mode result name parameters None shaped = (refl, refl, refl)
  function_by mode result name parameters (Some statements) shaped =
      let f : FunctionTree = record { mode = mode; result = result; name = name; parameters = parameters; body = Some statements } in
      let inside : Inside = record { main = is_main f; framed = is_some (frame_at tables name.at 0) } in
      body_shaped tables (signature_in tables everyone) inside (is_nothing result) statements shaped

  function_nested : (f : FunctionTree) → BodyShaped tables (signature_in tables everyone) f.body → Shape false false of_function (code_of tables everyone f)
  function_nested f shaped = function_by f.mode f.result f.name f.parameters f.body shaped

  bodies : (fs : List FunctionTree) (first binding : ℕ) → FunctionsShaped tables (signature_in tables everyone) fs
      → Shape false false of_function (body_in tables everyone first fs binding)
  bodies [] first binding shaped = (refl, refl, refl)
  bodies (f ∷ fs) first binding shaped =
      by (binding_of tables f == binding) (bodies fs (first + size (code_of tables everyone f)) binding shaped.1)
    where
      by : (is : Bool) → Shape false false of_function (body_in tables everyone (first + size (code_of tables everyone f)) fs binding)
          → Shape false false of_function (if is then numbered first (code_of tables everyone f) else body_in tables everyone (first + size (code_of tables everyone f)) fs binding)
      by true others = numbers false false of_function (code_of tables everyone f) first (function_nested f shaped.0)
      by false others = others

pub programs_are_nested : ProgramsAreNested
programs_are_nested tables program shaped binding =
    let fs = functions_of program.items in bodies tables fs fs 0 binding shaped
