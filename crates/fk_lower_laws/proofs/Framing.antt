-- A frame of a part is taken where the part begins. In its body a function takes no other one.
use Rattle.std.proofs.Common.{◌≡◌, ℕ, zero, suc, ◌+◌, Bool, true, false, List, [], ◌∷◌, Option, Some, None, refl}
use Rattle.std.specs.Prelude.{if◌then◌else◌, is_some}
use Rattle.fk_syntax.specs.declared.place.Place.{Place}
use Rattle.fk_syntax.specs.declared.place.Spot.{Spot}
use Rattle.fk_syntax.specs.declared.program.Mode.{Mode}
use Rattle.fk_syntax.specs.Tree.{Named, Tree, TypeTree}
use Rattle.fk_syntax.specs.Program as p
use Rattle.fk_syntax.specs.Program.{DeclaredTree, Statement, Statements, FunctionTree}
use Rattle.fk_meaning_operation.specs.declared.operation.Operation.{Operation}
use Rattle.fk_meaning_operation.specs.declared.operation.Operation.TheVariants as o
use Rattle.fk_meaning_operation.specs.declared.operation.OwnValue.TheVariants as own
use Rattle.fk_meaning_operation.specs.declared.operation.SplitKind.TheVariants as sk
use Rattle.fk_meaning_forms.specs.declared.tables.Region.{Region}
use Rattle.fk_meaning_forms.specs.Code as c
use Rattle.fk_meaning_forms.specs.Code.{Code, done, perform, choose, while, until, turn, again, quit, break, continue, call, ends, size, numbered}
use Rattle.fk_meaning_forms.specs.Tables.{Tables, note, frame_at}
use Rattle.fk_meaning_forms.specs.Expressions.{Coded, ResultLocation, Signature, nowhere, plain, agreed, token, addressed, assigned, dropped, framed, variable, value}
use Rattle.fk_meaning_forms.specs.Statements.{Inside, is_nothing, is_scalar, used, used_or, value_or, declared, all_declared, part_frame, leaving, tested, looping, left_by, executed, all_executed, end_of, body_of}
use Rattle.fk_meaning_forms.specs.Program.{signature_in, is_main, code_of}
use Rattle.fk_meaning.specs.Shape.{splits}
use Rattle.fk_meaning.proofs.Spine.{untrue}
use Rattle.fk_lockstep.proofs.Kept as k
use Rattle.fk_lockstep.proofs.Kept.{all_agree, is_quiet, IsKept}
use Rattle.fk_lockstep_structure.specs.Placed.{Who, OfGroup, OfBody, is_group, inner}
use Rattle.fk_lockstep_structure.specs.InPlace.{Splits, Calls, InPlace, OptionInPlace, VariablesInPlace, StatementInPlace, StatementsInPlace, BodyInPlace}
use Rattle.fk_core_counting.specs.Laws.{takes_in_part, FramesIn}

-- numbers in place of the places change nothing
pub numbered_frames : {A : Type 0} (b : Bool) (first : ℕ) (code : Code A) → FramesIn b code → FramesIn b (numbered first code)
numbered_frames b first done h = tt
numbered_frames b first (perform t op rest) h = (h.0, numbered_frames false (suc first) rest h.1)
numbered_frames b first (choose t op x y rest) h = (
  numbered_frames (splits op) (suc first) x h.0,
  numbered_frames (splits op) (suc first + size x) y h.1,
  numbered_frames false (suc first + size x + size y) rest h.2,
)
numbered_frames b first (while test body step rest) h = (
  numbered_frames false first test h.0,
  numbered_frames false (first + size test) body h.1,
  numbered_frames false (first + size test + size body) step h.2,
  numbered_frames false (first + size test + size body + size step) rest h.3,
)
numbered_frames b first (until body test rest) h = (
  numbered_frames false first body h.0,
  numbered_frames false (first + size body) test h.1,
  numbered_frames false (first + size body + size test) rest h.2,
)
numbered_frames b first (turn test body step rest) h = absurd h
numbered_frames b first (again test body step rest) h = absurd h
numbered_frames b first (quit t op rest) h = numbered_frames false (suc first) rest h
numbered_frames b first (break rest) h = numbered_frames false first rest h
numbered_frames b first (continue rest) h = numbered_frames false first rest h
numbered_frames b first (call t op function opening rest) h = numbered_frames false (suc first + size opening) rest h
numbered_frames b first (ends t op rest) h = numbered_frames false (suc first) rest h

abbrev Fine : (group : Bool) → Coded → Type 0
Fine group code = FramesIn false code

-- code that takes no such frame may be a part
as_part : (code : Coded) → FramesIn false code → FramesIn true code
as_part done h = tt
as_part (perform t op rest) h = ((λ e. refl), h.1)
as_part (choose t op x y rest) h = h
as_part (while test body step rest) h = h
as_part (until body test rest) h = h
as_part (turn test body step rest) h = h
as_part (again test body step rest) h = h
as_part (quit t op rest) h = h
as_part (break rest) h = h
as_part (continue rest) h = h
as_part (call t op function opening rest) h = h
as_part (ends t op rest) h = h

quiet_takes_none : (op : Operation) → is_quiet op ≡ true → takes_in_part op ≡ true → false ≡ true
quiet_takes_none (o.Frame zero words) quiet e = e
quiet_takes_none (o.Frame (suc number) words) quiet e = untrue quiet
quiet_takes_none op quiet e = e

agrees_or : (sync : Bool) (rest : Coded) → FramesIn false rest → FramesIn false (agreed sync rest)
agrees_or true rest q = ((λ e. e), q)
agrees_or false rest q = q

module _ (tables : Tables) (functions : (binding : ℕ) → Signature) (may_call : (in_group : Bool) → (function : ℕ) → Bool) where
  kept : IsKept tables functions Bool Fine (λ g. Splits tables may_call g) (λ g. Calls tables may_call g)
  kept = record {
    inner = λ g. g;
    told = λ g e h. h;
    performs = λ g t op rest quiet q. (quiet_takes_none op quiet, q);
    allots = λ g name rest means a q. ((λ e. e), ((λ e. e), q));
    ends = λ g. tt;
    part_ends = λ g. ((λ e. e), tt);
    divides = λ g spot by x y rest e splits' is x' y' q. (as_part x x', as_part y y', ((λ e'. e'), q));
    branches = λ g spot onward x y rest splits' x' y' q. agrees_or (note tables spot.at).sync (choose nowhere (o.Branch onward) x y rest) (x', y', q);
    shares = λ g name means. all_agree Fine g (λ rest q. ((λ e. e), q)) (functions (note tables name.at).binding).parameters;
    enters = λ g name rest means q. q;
  }

  begins_part : (r : Option Region) (place : Place) (rest : Coded) → FramesIn false rest → FramesIn true (framed tables functions r place rest)
  begins_part None place rest q = as_part rest q
  begins_part (Some r) place rest q = ((λ e. refl), q)

  either : (s : Bool) (x y : Coded) → FramesIn false x → FramesIn false y → FramesIn false (if s then x else y)
  either true x y x' y' = x'
  either false x y x' y' = y'

  abbrev Keeps : (Coded → Coded) → Type 0
  Keeps f = (rest : Coded) → FramesIn false rest → FramesIn false (f rest)

  -- for a group, or others
  module _ (g : Bool) where
    gives : (e : Tree) → InPlace tables may_call g e → Keeps (value tables functions e)
    gives e h rest q = k.value_is_kept kept g e h rest q

    drops : (token' : ℕ) → Keeps (dropped tables functions token')
    drops token' rest q = k.drops kept g token' rest q

    uses : (e : Tree) → InPlace tables may_call g e → Keeps (used tables functions e)
    uses e h rest q = gives e h (dropped tables functions (token e) rest) (drops (token e) rest q)

    uses_or : (e : Option Tree) → OptionInPlace tables may_call g e → Keeps (used_or tables functions e)
    uses_or None h rest q = q
    uses_or (Some e) h rest q = uses e h rest q

    gives_or : (absent : Coded → Coded) → Keeps absent → (e : Option Tree) → OptionInPlace tables may_call g e → Keeps (value_or tables functions absent e)
    gives_or absent keeps None h rest q = keeps rest q
    gives_or absent keeps (Some e) h rest q = gives e h rest q

    declares_one : (d : DeclaredTree) → Calls tables may_call g d.name → OptionInPlace tables may_call g d.first → Keeps (declared tables functions d)
    declares_one d calls h rest q =
        let f : ResultLocation → Coded = λ s. addressed tables functions s (value_or tables functions (plain (o.Push 0)) d.first (assigned tables functions s (plain o.DropLast rest))) in
        either (is_scalar d) (variable tables functions d.name f) rest
        (k.names kept g d.name calls f
        (λ s fits.
        let new = assigned tables functions s (plain o.DropLast rest) in
        k.addresses kept g s (value_or tables functions (plain (o.Push 0)) d.first new)
        (gives_or (plain (o.Push 0)) (λ rest' q'. ((λ e. e), q')) d.first h new (k.assigns kept g s (plain o.DropLast rest) ((λ e. e), q)))))
        q

    declares : (ds : List DeclaredTree) → VariablesInPlace tables may_call g ds → Keeps (all_declared tables functions ds)
    declares [] h rest q = q
    declares (d ∷ ds) h rest q = declares_one d h.0 h.1 (all_declared tables functions ds rest) (declares ds h.2 rest q)

    leaves : (splits' sync : Bool) → FramesIn false (if splits' then quit nowhere o.Shrink done else agreed sync (quit nowhere (o.Branch true) done))
    leaves splits' sync = either splits' (quit nowhere o.Shrink done) (agreed sync (quit nowhere (o.Branch true) done)) tt (agrees_or sync (quit nowhere (o.Branch true) done) tt)

    tests : (spot : Spot) (condition : Option Tree) → OptionInPlace tables may_call g condition → FramesIn false (tested tables functions spot condition)
    tests spot condition h =
        gives_or (plain (o.Push 1)) (λ rest q. ((λ e. e), q)) condition h (leaving tables functions (note tables spot.at)) (leaves (note tables spot.at).splits (note tables spot.at).sync)

    returns : (inside : Inside) (e : Option Tree) → OptionInPlace tables may_call g e → Keeps (left_by tables functions inside e)
    returns inside None h rest q = q
    returns inside (Some e) h rest q =
        gives e h (if inside.main then plain o.DropLast (ends nowhere o.Halt rest) else ends nowhere (o.Leave true inside.framed) rest)
        (either inside.main (plain o.DropLast (ends nowhere o.Halt rest)) (ends nowhere (o.Leave true inside.framed) rest) ((λ e'. e'), q) q)

  -- a loop, which is a part of its own or not
  loops : (spot : Spot) (loop : Coded → Coded) → Keeps loop → Keeps (looping tables functions spot loop)
  loops spot loop keeps rest q =
      either (note tables spot.at).splits (choose spot.place (o.Split sk.Loop) (part_frame tables functions spot 0 (loop done)) done (plain o.Resume rest)) (loop rest)
      (begins_part (frame_at tables spot.at 0) spot.place (loop done) (keeps done tt), tt, ((λ e. e), q)) (keeps rest q)

  mutual
    statement : (main : Bool) (who : Who) (inside : Inside) (s : Statement) → StatementInPlace tables may_call main who s → (rest : Coded) → FramesIn false rest → FramesIn false (executed tables functions inside s rest)
    statement main who inside p.Empty h rest q = q
    statement main who inside (p.Expression e) h rest q = uses (is_group who) e h rest q
    statement main who inside (p.Block statements) h rest q = all_statements main who inside statements h rest q
    statement main who inside (p.Declare variables) h rest q = declares (is_group who) variables h rest q
    statement main who inside (p.If spot condition first) h rest q =
        let here = note tables spot.at in
        let body = executed tables functions inside first in
        let part = choose spot.place (o.Split sk.IfAlone) (part_frame tables functions spot 0 (body (plain o.End done))) done (plain o.Resume rest) in
        let branch = choose nowhere (o.Branch true) (body done) done rest in
        gives (is_group who) condition h.1 (if here.splits then part else agreed here.sync branch)
        (either here.splits part (agreed here.sync branch)
        (begins_part (frame_at tables spot.at 0) spot.place (body (plain o.End done)) (statement main (inner who) inside first h.2 (plain o.End done) ((λ e. e), tt)), tt, ((λ e. e), q))
        (agrees_or here.sync branch (statement main (inner who) inside first h.2 done tt, tt, q)))
    statement main who inside (p.IfElse spot condition first second) h rest q =
        let here = note tables spot.at in
        let x = executed tables functions inside first in
        let y = executed tables functions inside second in
        let part = choose spot.place (o.Split sk.IfElse) (part_frame tables functions spot 0 (x (plain o.End done))) (part_frame tables functions spot 1 (y (plain o.End done))) (plain o.Resume rest) in
        let branch = choose nowhere (o.Branch true) (x done) (y done) rest in
        gives (is_group who) condition h.1 (if here.splits then part else agreed here.sync branch)
        (either here.splits part (agreed here.sync branch) (
          begins_part (frame_at tables spot.at 0) spot.place (x (plain o.End done)) (statement main (inner who) inside first h.2 (plain o.End done) ((λ e. e), tt)),
          begins_part (frame_at tables spot.at 1) spot.place (y (plain o.End done)) (statement main (inner who) inside second h.3 (plain o.End done) ((λ e. e), tt)),
          ((λ e. e), q),
        )
        (agrees_or here.sync branch (statement main (inner who) inside first h.2 done tt, statement main (inner who) inside second h.3 done tt, q)))
    statement main who inside (p.While spot condition body) h rest q =
        let test = tested tables functions spot (Some condition) in
        let run = executed tables functions inside body done in
        loops spot (c.while test run done)
        (λ more more'. (tests (is_group who) spot (Some condition) h.1, statement main (inner who) inside body h.2 done tt, tt, more')) rest q
    statement main who inside (p.DoWhile spot body condition) h rest q =
        let test = tested tables functions spot (Some condition) in
        let run = executed tables functions inside body done in
        loops spot (c.until run test)
        (λ more more'. (statement main (inner who) inside body h.2 done tt, tests (is_group who) spot (Some condition) h.1, more')) rest q
    statement main who inside (p.For spot before condition after body) h rest q =
        let test = tested tables functions spot condition in
        let run = executed tables functions inside body done in
        let step = used_or tables functions after done in
        uses_or (is_group who) before h.1 (looping tables functions spot (c.while test run step) rest)
        (loops spot (c.while test run step)
        (λ more more'. (
          tests (is_group who) spot condition h.2,
          statement main (inner who) inside body h.4 done tt,
          uses_or (is_group who) after h.3 done tt,
          more',
        )) rest q)
    statement main who inside (p.Start spot count body) h rest q =
        let run = part_frame tables functions spot 0 (executed tables functions inside body (plain o.End done)) in
        gives_or (is_group who) (plain (o.Get own.Processors)) (λ rest' q'. ((λ e. e), q')) count h.1 (choose nowhere o.Begin run done (plain o.Resume rest))
        (begins_part (frame_at tables spot.at 0) spot.place (executed tables functions inside body (plain o.End done)) (statement main OfGroup inside body h.2 (plain o.End done) ((λ e. e), tt)), tt, ((λ e. e), q))
    statement main who inside (p.Fork spot parts part rank body) h rest q =
        let run = part_frame tables functions spot 0 (executed tables functions inside body (plain o.End done)) in
        let divided' = choose spot.place (o.Split sk.Fork) run done (plain o.Resume rest) in
        let ranked = value_or tables functions (plain (o.Get own.Rank)) rank divided' in
        gives (is_group who) parts h.1 (plain o.Agree (value tables functions part ranked)) (
          (λ e. e),
          gives (is_group who) part h.2 ranked
              (gives_or (is_group who) (plain (o.Get own.Rank)) (λ rest' q'. ((λ e. e), q')) rank h.3 divided'
              (begins_part (frame_at tables spot.at 0) spot.place (executed tables functions inside body (plain o.End done)) (statement main OfGroup inside body h.4 (plain o.End done) ((λ e. e), tt)), tt, ((λ e. e), q))),
        )
    statement main who inside (p.Farm spot body) h rest q = (statement main OfBody inside body h.1 done tt, tt, ((λ e. e), q))
    statement main who inside (p.Seq spot body) h rest q = (statement main OfBody inside body h.1 done tt, tt, ((λ e. e), q))
    statement main who inside (p.Barrier spot) h rest q = ((λ e. e), q)
    statement main who inside (p.Break spot) h rest q = q
    statement main who inside (p.Continue spot) h rest q = q
    statement main who inside (p.Return spot e) h rest q = returns (is_group who) inside e h.1 rest q

    all_statements : (main : Bool) (who : Who) (inside : Inside) (statements : Statements) → StatementsInPlace tables may_call main who statements → (rest : Coded) → FramesIn false rest
        → FramesIn false (all_executed tables functions inside statements rest)
    all_statements main who inside p.no_statements h rest q = q
    all_statements main who inside (p.statement first others) h rest q =
        statement main who inside first h.0 (all_executed tables functions inside others rest) (all_statements main who inside others h.1 rest q)

  end_frames : (main void framed' : Bool) → FramesIn false (
      if main then ends nowhere o.Halt done
      else if void then ends nowhere (o.Leave false framed') done
      else plain (o.Push 0) (ends nowhere (o.Leave true framed') done))
  end_frames true void framed' = tt
  end_frames false true framed' = tt
  end_frames false false framed' = ((λ e. e), tt)

  pub body_frames : (main : Bool) (who : Who) (inside : Inside) (void : Bool) (statements : Statements) → StatementsInPlace tables may_call main who statements
      → FramesIn false (body_of tables functions inside void statements)
  body_frames main who inside void statements h =
      all_statements main who inside statements h (end_of tables functions inside void) (end_frames inside.main void inside.framed)

-- so it is in each function
pub function_frames : (tables : Tables) (everyone : List FunctionTree) (may_call : (in_group : Bool) → (function : ℕ) → Bool) (main : Bool) (who : Who) (f : FunctionTree)
    → BodyInPlace tables may_call main who f.body → (first : ℕ) → FramesIn false (numbered first (code_of tables everyone f))
function_frames tables everyone may_call main who f h first =
    numbered_frames false first (code_of tables everyone f) (by f.mode f.result f.name f.parameters f.body h)
  where
    by : (mode : Mode) (result : TypeTree) (name : Named) (parameters : List DeclaredTree) (body : Option Statements) → BodyInPlace tables may_call main who body
        → FramesIn false (code_of tables everyone (record { mode = mode; result = result; name = name; parameters = parameters; body = body }))
    by mode result name parameters None h' = tt
    by mode result name parameters (Some statements) h' =
        let f' : FunctionTree = record { mode = mode; result = result; name = name; parameters = parameters; body = Some statements } in
        let inside : Inside = record { main = is_main f'; framed = is_some (frame_at tables name.at 0) } in
        body_frames tables (signature_in tables everyone) may_call main who inside (is_nothing result) statements h'
