-- The code of statements and functions names words that are there, where each name that is used means a declaration with its word.
use Rattle.std.proofs.Common.{◌≡◌, ℕ, Bool, true, false, true≢false, List, [], ◌∷◌, Option, Some, None, refl}
use Rattle.std.specs.Prelude.{◌==◌, ◌^◌, ◌<◌, if◌then◌else◌}
use Rattle.fk_syntax.specs.declared.place.Spot.{Spot}
use Rattle.fk_syntax.specs.Tree.{Named, Tree}
use Rattle.fk_syntax.specs.Program as m
use Rattle.fk_syntax.specs.Program.{DeclaredTree, Statement, Statements}
use Rattle.fk_types_names.specs.Outline.{MarkTree, Closes, tree_marks, optional_marks, variable_marks, variables_marks, scope, statement_marks, statements_marks}
use Rattle.fk_meaning_operation.specs.declared.operation.Operation.{Operation}
use Rattle.fk_meaning_operation.specs.declared.operation.Operation.TheVariants as o
use Rattle.fk_meaning_operation.specs.declared.operation.Variable.TheVariants as v
use Rattle.fk_meaning_operation.specs.declared.operation.OwnValue.TheVariants as n
use Rattle.fk_meaning_operation.specs.declared.operation.SplitKind.TheVariants.{IfAlone, IfElse, Loop, Fork}
use Rattle.fk_meaning_forms.specs.declared.tables.Home.{Home}
use Rattle.fk_meaning_forms.specs.declared.tables.Home.TheVariants as h
use Rattle.fk_meaning_forms.specs.Code as c
use Rattle.fk_meaning_forms.specs.Code.{done, choose, quit, ends}
use Rattle.fk_meaning_forms.specs.Tables.{Tables, no_binding, note, slot}
use Rattle.fk_meaning_forms.specs.Expressions.{Coded, nowhere, plain, agreed, Signature, ResultLocation, addressed, assigned, predeclared, placed, variable, value}
use Rattle.fk_meaning_forms.specs.Statements.{Inside, is_scalar, used_or, value_or, declared, all_declared, part_frame, leaving, tested, looping, left_by, executed, all_executed, end_of, body_of}
use Rattle.fk_core_flat.specs.Fitting.{Fits, OptionFits, OptionConditionFits, VariablesFit, StatementFits, StatementsFit}
use Rattle.fk_check_laws.proofs.Each.{Each, front_of, two_of, three_of, four_of}
use Rattle.fk_lower_names.specs.WordRoom.{HasSmallFrames}
use Rattle.fk_lower_laws.specs.Named.{HasWord, IsNamed, HasParameters}
use Rattle.fk_lower_laws.proofs.Ok.{names_none, freely, sets, Ok, ended, on, branch, looped, looped_first, quits, broken, continued, left}
use Rattle.fk_lower_laws.proofs.Forms as e

module _ (tables : Tables) (functions : (binding : ℕ) → Signature) (has_body : (binding : ℕ) → Bool) (firsts : ℕ) (all most : ℕ → ℕ) (words : ℕ)
    (room : (binding : ℕ) → HasParameters (all binding) (most binding) (functions binding).parameters) (small : HasSmallFrames tables) where
  abbrev Fine : Coded → Type 0
  Fine code = Ok firsts all most words code

  abbrev Keeps : (Coded → Coded) → Type 0
  Keeps f = (rest : Coded) → Fine rest → Fine (f rest)

  -- names among marks
  abbrev Is : MarkTree → Type 0
  Is = IsNamed tables firsts words

  abbrev Scoped : List MarkTree → Type 0
  Scoped marks = Each Is marks

  inside : (marks : List MarkTree) → Scoped (scope marks) → Scoped marks
  inside marks h = front_of Is marks (Closes ∷ []) h.1

  -- of expressions
  does : {op : Operation} {rest : Coded} → names_none op ≡ true → Fine rest → Fine (plain op rest)
  does is q = e.goes tables functions has_body firsts all most words room small is q

  values : (x : Tree) → Fits tables functions has_body x → Scoped (tree_marks x) → Keeps (value tables functions x)
  values x fits asks = e.values_kept tables functions has_body firsts all most words room small x fits asks

  given_or : (absent : Coded → Coded) → Keeps absent → (x : Option Tree) → OptionFits tables functions has_body x → Scoped (optional_marks x)
      → Keeps (value_or tables functions absent x)
  given_or absent keeps x fits asks = e.gives_or tables functions has_body firsts all most words room small absent keeps x fits asks

  any : (b : Bool) (c d : Coded) → Fine c → Fine d → Fine (if b then c else d)
  any b c d p q = e.either tables functions has_body firsts all most words room small b c d p q

  agreeing : (sync : Bool) → Keeps (agreed sync)
  agreeing sync rest q = e.agrees tables functions has_body firsts all most words room small sync rest q

  framed_part : (spot : Spot) (number : ℕ) → Keeps (part_frame tables functions spot number)
  framed_part spot number code q = e.part_frames tables functions has_body firsts all most words room small spot number code q

  -- ---- declarations

  -- what is stored where a scalar is declared
  abbrev stored : Option Tree → Coded → ResultLocation → Coded
  stored first rest location =
      addressed tables functions location
      (value_or tables functions (plain (o.Push 0)) first (assigned tables functions location (plain o.DropLast rest)))

  module _ (first : Option Tree) (fits : OptionFits tables functions has_body first) (asks : Scoped (optional_marks first)) (rest : Coded) where
    gives : (code : Coded) → Fine code → Fine (value_or tables functions (plain (o.Push 0)) first code)
    gives code q = given_or (plain (o.Push 0)) (λ rest' q'. does refl q') first fits asks code q

    stores : (home : Home) (i : ℕ) (name : Named) → HasWord tables firsts words home i → i < 2 ^ 21 → Fine rest → Fine (placed tables functions home i name (stored first rest))
    stores h.Global i name has low q = does refl (gives _ (does refl (does refl q)))
    stores h.FilePrivate i name has low q = gives _ (on (sets firsts words (v.OfFile i) has) (does refl q))
    stores h.Private i name has low q = gives _ (on (sets firsts words (v.Private i) has) (does refl q))
    stores (h.Group r) i name has low q = on low (gives _ (does refl (does refl q)))
    stores h.NoWord i name has low q = gives _ (does refl q)

  second : (is : Bool) (c d : Coded) → is ≡ false → Fine d → Fine (if is then c else d)
  second true c d is q = absurd (true≢false is)
  second false c d is q = q

  declares_one : (x : DeclaredTree) → OptionFits tables functions has_body x.first → Scoped (variable_marks x) → Keeps (declared tables functions x)
  declares_one x fits asks rest q = by (is_scalar x)
    where
      by : (scalar : Bool) → Fine (if scalar then variable tables functions x.name (stored x.first rest) else rest)
      by false = q
      by true =
          let b = (note tables x.name.at).binding in
          second (b == no_binding) (predeclared tables functions x.name (stored x.first rest)) (placed tables functions (slot tables b).home (slot tables b).index x.name (stored x.first rest)) asks.0.0
          (stores x.first fits asks.1 rest (slot tables b).home (slot tables b).index x.name asks.0.1 (small.places b) q)

  all_declare : (xs : List DeclaredTree) → VariablesFit tables functions has_body xs → Scoped (variables_marks xs) → Keeps (all_declared tables functions xs)
  all_declare [] fits asks rest q = q
  all_declare (x ∷ xs) fits asks rest q =
      let ms = two_of Is (variable_marks x) (variables_marks xs) asks in
      declares_one x fits.0 ms.0 (all_declared tables functions xs rest) (all_declare xs fits.1 ms.1 rest q)

  -- ---- statements

  condition_fits : (x : Option Tree) → OptionConditionFits tables functions has_body x → OptionFits tables functions has_body x
  condition_fits None fits = tt
  condition_fits (Some x) fits = fits.0

  leaves : (sync splits : Bool) → Fine (if splits then quit nowhere o.Shrink done else agreed sync (quit nowhere (o.Branch true) done))
  leaves sync true = quits (freely firsts words o.Shrink refl)
  leaves sync false = agreeing sync (quit nowhere (o.Branch true) done) (quits (freely firsts words (o.Branch true) refl))

  tests : (spot : Spot) (condition : Option Tree) → OptionFits tables functions has_body condition → Scoped (optional_marks condition)
      → Fine (tested tables functions spot condition)
  tests spot condition fits asks =
      let here = note tables spot.at in
      given_or (plain (o.Push 1)) (λ rest q. does refl q) condition fits asks (leaving tables functions here) (leaves here.sync here.splits)

  -- loops, which may run in a part of their own
  loops : (spot : Spot) (f : Coded → Coded) → Keeps f → Keeps (looping tables functions spot f)
  loops spot f runs rest q =
      any (note tables spot.at).splits
      (choose spot.place (o.Split Loop) (part_frame tables functions spot 0 (f done)) done (plain o.Resume rest)) (f rest)
      (branch (freely firsts words (o.Split Loop) refl) (framed_part spot 0 (f done) (runs done ended)) ended (does refl q))
      (runs rest q)

  -- a body that ends its part
  parts : (spot : Spot) (number : ℕ) (body : Coded → Coded) → Keeps body → Fine (part_frame tables functions spot number (body (plain o.End done)))
  parts spot number body runs = framed_part spot number (body (plain o.End done)) (runs (plain o.End done) (does refl ended))

  halts : (i : Inside) (main : Bool) → Keeps (λ rest. ends nowhere (if main then o.Halt else o.Leave false i.framed) rest)
  halts i true rest q = left (freely firsts words o.Halt refl) q
  halts i false rest q = left (freely firsts words (o.Leave false i.framed) refl) q

  returns : (i : Inside) (x : Option Tree) → OptionFits tables functions has_body x → Scoped (optional_marks x) → Keeps (left_by tables functions i x)
  returns i None fits asks rest q = halts i i.main rest q
  returns i (Some x) fits asks rest q =
      let halt = plain o.DropLast (ends nowhere o.Halt rest) in
      let leave = ends nowhere (o.Leave true i.framed) rest in
      values x fits asks (if i.main then halt else leave)
      (any i.main halt leave (does refl (left (freely firsts words o.Halt refl) q)) (left (freely firsts words (o.Leave true i.framed) refl) q))

  mutual
    statement : (i : Inside) (in_loop : Bool) (s : Statement) → StatementFits tables functions has_body in_loop s → Scoped (statement_marks s)
        → Keeps (executed tables functions i s)
    statement i l m.Empty fits asks rest q = q
    statement i l (m.Expression x) fits asks rest q = e.uses tables functions has_body firsts all most words room small x fits asks rest q
    statement i l (m.Block statements) fits asks rest q = all_statements i l statements fits (inside (statements_marks statements) asks) rest q
    statement i l (m.Declare variables) fits asks rest q = all_declare variables fits asks rest q
    statement i l (m.If spot condition first) fits asks rest q =
        let here = note tables spot.at in
        let ms = two_of Is (tree_marks condition) (scope (statement_marks first)) asks in
        let body = executed tables functions i first in
        let runs = statement i l first fits.1 (inside (statement_marks first) ms.1) in
        let parted = choose spot.place (o.Split IfAlone) (part_frame tables functions spot 0 (body (plain o.End done))) done (plain o.Resume rest) in
        let branched = choose nowhere (o.Branch true) (body done) done rest in
        values condition fits.0 ms.0 (if here.splits then parted else agreed here.sync branched)
        (any here.splits parted (agreed here.sync branched)
        (branch (freely firsts words (o.Split IfAlone) refl) (parts spot 0 body runs) ended (does refl q))
        (agreeing here.sync branched (branch (freely firsts words (o.Branch true) refl) (runs done ended) ended q)))
    statement i l (m.IfElse spot condition first second') fits asks rest q =
        let here = note tables spot.at in
        let ms = three_of Is (tree_marks condition) (scope (statement_marks first)) (scope (statement_marks second')) asks in
        let x = executed tables functions i first in
        let y = executed tables functions i second' in
        let runs_x = statement i l first fits.1 (inside (statement_marks first) ms.1) in
        let runs_y = statement i l second' fits.2 (inside (statement_marks second') ms.2) in
        let parted = choose spot.place (o.Split IfElse) (part_frame tables functions spot 0 (x (plain o.End done))) (part_frame tables functions spot 1 (y (plain o.End done))) (plain o.Resume rest) in
        let branched = choose nowhere (o.Branch true) (x done) (y done) rest in
        values condition fits.0 ms.0 (if here.splits then parted else agreed here.sync branched)
        (any here.splits parted (agreed here.sync branched)
        (branch (freely firsts words (o.Split IfElse) refl) (parts spot 0 x runs_x) (parts spot 1 y runs_y) (does refl q))
        (agreeing here.sync branched (branch (freely firsts words (o.Branch true) refl) (runs_x done ended) (runs_y done ended) q)))
    statement i l (m.While spot condition body) fits asks rest q =
        let ms = two_of Is (tree_marks condition) (scope (statement_marks body)) asks in
        let runs = statement i true body fits.1 (inside (statement_marks body) ms.1) in
        loops spot (c.while (tested tables functions spot (Some condition)) (executed tables functions i body done) done)
        (λ rest' q'. looped (tests spot (Some condition) fits.0.0 ms.0) (runs done ended) ended q') rest q
    statement i l (m.DoWhile spot body condition) fits asks rest q =
        let ms = two_of Is (scope (statement_marks body)) (tree_marks condition) asks in
        let runs = statement i true body fits.1 (inside (statement_marks body) ms.0) in
        loops spot (c.until (executed tables functions i body done) (tested tables functions spot (Some condition)))
        (λ rest' q'. looped_first (runs done ended) (tests spot (Some condition) fits.0.0 ms.1) q') rest q
    statement i l (m.For spot before condition after body) fits asks rest q =
        let ms = four_of Is (optional_marks before) (optional_marks condition) (optional_marks after) (scope (statement_marks body)) asks in
        let runs = statement i true body fits.3 (inside (statement_marks body) ms.3) in
        let loop = c.while (tested tables functions spot condition) (executed tables functions i body done) (used_or tables functions after done) in
        e.uses_or tables functions has_body firsts all most words room small before fits.0 ms.0 (looping tables functions spot loop rest)
        (loops spot loop
        (λ rest' q'. looped (tests spot condition (condition_fits condition fits.1) ms.1) (runs done ended)
        (e.uses_or tables functions has_body firsts all most words room small after fits.2 ms.2 done ended) q') rest q)
    statement i l (m.Start spot count body) fits asks rest q =
        let ms = two_of Is (optional_marks count) (scope (statement_marks body)) asks in
        let run = executed tables functions i body in
        given_or (plain (o.Get n.Processors)) (λ rest' q'. does refl q') count fits.0 ms.0
        (choose nowhere o.Begin (part_frame tables functions spot 0 (run (plain o.End done))) done (plain o.Resume rest))
        (branch (freely firsts words o.Begin refl) (parts spot 0 run (statement i l body fits.1 (inside (statement_marks body) ms.1))) ended (does refl q))
    statement i l (m.Fork spot k number rank body) fits asks rest q =
        let ms = four_of Is (tree_marks k) (tree_marks number) (optional_marks rank) (scope (statement_marks body)) asks in
        let run = executed tables functions i body in
        let split = choose spot.place (o.Split Fork) (part_frame tables functions spot 0 (run (plain o.End done))) done (plain o.Resume rest) in
        let ranked = value_or tables functions (plain (o.Get n.Rank)) rank split in
        values k fits.0 ms.0 (plain o.Agree (value tables functions number ranked)) (does refl
        (values number fits.1 ms.1 ranked
        (given_or (plain (o.Get n.Rank)) (λ rest' q'. does refl q') rank fits.2 ms.2 split
        (branch (freely firsts words (o.Split Fork) refl) (parts spot 0 run (statement i l body fits.3 (inside (statement_marks body) ms.3))) ended (does refl q)))))
    statement i l (m.Farm spot body) fits asks rest q =
        branch (freely firsts words o.Farm refl) (statement i l body fits (inside (statement_marks body) asks) done ended) ended (does refl q)
    statement i l (m.Seq spot body) fits asks rest q =
        branch (freely firsts words o.Seq refl) (statement i l body fits (inside (statement_marks body) asks) done ended) ended (does refl q)
    statement i l (m.Barrier spot) fits asks rest q = does refl q
    statement i l (m.Break spot) fits asks rest q = broken q
    statement i l (m.Continue spot) fits asks rest q = continued q
    statement i l (m.Return spot x) fits asks rest q = returns i x fits asks rest q

    pub all_statements : (i : Inside) (in_loop : Bool) (ss : Statements) → StatementsFit tables functions has_body in_loop ss → Scoped (statements_marks ss)
        → Keeps (all_executed tables functions i ss)
    all_statements i l m.no_statements fits asks rest q = q
    all_statements i l (m.statement first others) fits asks rest q =
        let ms = two_of Is (statement_marks first) (statements_marks others) asks in
        statement i l first fits.0 ms.0 (all_executed tables functions i others rest) (all_statements i l others fits.1 ms.1 rest q)

  end_fine : (main framed void : Bool) → Fine (
      if main then ends nowhere o.Halt done
      else if void then ends nowhere (o.Leave false framed) done
      else plain (o.Push 0) (ends nowhere (o.Leave true framed) done))
  end_fine true framed void = left (freely firsts words o.Halt refl) ended
  end_fine false framed true = left (freely firsts words (o.Leave false framed) refl) ended
  end_fine false framed false = does refl (left (freely firsts words (o.Leave true framed) refl) ended)

  pub body_fine : (i : Inside) (void : Bool) (ss : Statements) → StatementsFit tables functions has_body false ss → Scoped (statements_marks ss)
      → Fine (body_of tables functions i void ss)
  body_fine i void ss fits asks = all_statements i false ss fits asks (end_of tables functions i void) (end_fine i.main i.framed void)
