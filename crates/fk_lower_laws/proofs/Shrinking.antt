-- Loops shrink only in the parts of splits: a loop whose test ends with a shrink is the only part of one.
use Rattle.std.proofs.Common.{◌≡◌, ℕ, suc, ◌+◌, Bool, true, false, true≢false, List, [], ◌∷◌, Option, Some, None, refl, sym, ◌∙◌}
use Rattle.std.specs.Prelude.{if◌then◌else◌, is_some}
use Rattle.fk_syntax.specs.declared.place.Place.{Place}
use Rattle.fk_syntax.specs.declared.place.Spot.{Spot}
use Rattle.fk_syntax.specs.declared.program.Mode.{Mode}
use Rattle.fk_syntax.specs.Tree.{Named, Tree, TypeTree}
use Rattle.fk_syntax.specs.Program as p
use Rattle.fk_syntax.specs.Program.{DeclaredTree, Statement, Statements, FunctionTree}
use Rattle.fk_meaning_operation.specs.declared.operation.Operation.{Operation}
use Rattle.fk_meaning_operation.specs.declared.operation.Operation.TheVariants as o
use Rattle.fk_meaning_operation.specs.declared.operation.OwnValue.TheVariants as own
use Rattle.fk_meaning_operation.specs.declared.operation.SplitKind.{SplitKind}
use Rattle.fk_meaning_operation.specs.declared.operation.SplitKind.TheVariants as sk
use Rattle.fk_meaning_forms.specs.declared.tables.Region.{Region}
use Rattle.fk_meaning_forms.specs.Code as c
use Rattle.fk_meaning_forms.specs.Code.{Code, done, perform, choose, while, until, turn, again, quit, break, continue, call, ends, size, numbered}
use Rattle.fk_meaning_forms.specs.Tables.{Tables, note, frame_at}
use Rattle.fk_meaning_forms.specs.Expressions.{Coded, ResultLocation, Signature, nowhere, plain, agreed, token, addressed, assigned, dropped, framed, variable, value}
use Rattle.fk_meaning_forms.specs.Statements.{Inside, is_nothing, is_scalar, used, used_or, value_or, declared, all_declared, part_frame, leaving, tested, looping, left_by, executed, all_executed, end_of, body_of}
use Rattle.fk_meaning_forms.specs.Program.{signature_in, is_main, code_of}
use Rattle.fk_meaning.proofs.Kept.{entered}
use Rattle.fk_lockstep.proofs.Kept as k
use Rattle.fk_lockstep.proofs.Kept.{all_agree, IsKept}
use Rattle.fk_lockstep_structure.specs.Placed.{Who, OfGroup, OfBody, is_group, inner}
use Rattle.fk_lockstep_structure.specs.InPlace.{Splits, Calls, InPlace, OptionInPlace, VariablesInPlace, StatementInPlace, StatementsInPlace, BodyInPlace}
use Rattle.fk_core_counting.specs.Laws.{under, ShrinksIn}

-- numbers in place of the places change nothing
pub numbered_shrinks : {A : Type 0} (b : Bool) (first : ℕ) (code : Code A) → ShrinksIn b code → ShrinksIn b (numbered first code)
numbered_shrinks b first done h = tt
numbered_shrinks b first (perform t op rest) h = numbered_shrinks b (suc first) rest h
numbered_shrinks b first (choose t op x y rest) h = (
  numbered_shrinks (under op b) (suc first) x h.0,
  numbered_shrinks (under op b) (suc first + size x) y h.1,
  numbered_shrinks b (suc first + size x + size y) rest h.2,
)
numbered_shrinks b first (while test body step rest) h = (
  numbered_shrinks b first test h.0,
  numbered_shrinks b (first + size test) body h.1,
  numbered_shrinks b (first + size test + size body) step h.2,
  numbered_shrinks b (first + size test + size body + size step) rest h.3,
)
numbered_shrinks b first (until body test rest) h = (
  numbered_shrinks b first body h.0,
  numbered_shrinks b (first + size body) test h.1,
  numbered_shrinks b (first + size body + size test) rest h.2,
)
numbered_shrinks b first (turn test body step rest) h = absurd h
numbered_shrinks b first (again test body step rest) h = absurd h
numbered_shrinks b first (quit t op rest) h = (h.0, numbered_shrinks b (suc first) rest h.1)
numbered_shrinks b first (break rest) h = numbered_shrinks b first rest h
numbered_shrinks b first (continue rest) h = numbered_shrinks b first rest h
numbered_shrinks b first (call t op function opening rest) h = numbered_shrinks b (suc first + size opening) rest h
numbered_shrinks b first (ends t op rest) h = numbered_shrinks b (suc first) rest h

-- who runs code, and whether it is in such a part, or the code of arms and parts, which may be in one or not
pub record Where : Type 0 where
  pub group : Bool
  pub split : Option Bool

abbrev at : (group split : Bool) → Where
at group split = record { group = group; split = Some split }

abbrev anywhere : Where → Where
anywhere w = record { group = w.group; split = None }

abbrev FineBy : Option Bool → Coded → Type 0
FineBy None code = (b : Bool) → ShrinksIn b code
FineBy (Some b) code = ShrinksIn b code

abbrev Fine : Where → Coded → Type 0
Fine w code = FineBy w.split code

performed : (split : Option Bool) (t : Place) (op : Operation) (rest : Coded) → FineBy split rest → FineBy split (perform t op rest)
performed None t op rest p' = p'
performed (Some b) t op rest p' = p'

agrees_or : (split : Option Bool) (sync : Bool) (rest : Coded) → FineBy split rest → FineBy split (agreed sync rest)
agrees_or split true rest p' = performed split nowhere o.Agree rest p'
agrees_or split false rest p' = p'

nothing : (split : Option Bool) → FineBy split done
nothing None = λ b. tt
nothing (Some b) = tt

divided : (split : Option Bool) (t : Place) (by : SplitKind) (x y rest : Coded) → FineBy None x → FineBy None y → FineBy split rest → FineBy split (choose t (o.Split by) x y (plain o.Resume rest))
divided None t by x y rest p' q r = λ b. (p' (under (o.Split by) b), q (under (o.Split by) b), r b)
divided (Some b) t by x y rest p' q r = (p' (under (o.Split by) b), q (under (o.Split by) b), r)

branched : (split : Option Bool) (onward : Bool) (x y rest : Coded) → FineBy None x → FineBy None y → FineBy split rest → FineBy split (choose nowhere (o.Branch onward) x y rest)
branched None onward x y rest p' q r = λ b. (p' b, q b, r b)
branched (Some b) onward x y rest p' q r = (p' b, q b, r)

module _ (tables : Tables) (functions : (binding : ℕ) → Signature) (may_call : (in_group : Bool) → (function : ℕ) → Bool) where
  entered_fine : (split : Option Bool) (name : Named) (rest : Coded) → FineBy split rest → FineBy split (entered tables functions name rest)
  entered_fine None name rest p' = p'
  entered_fine (Some b) name rest p' = p'

  kept : IsKept tables functions Where Fine (λ w. Splits tables may_call w.group) (λ w. Calls tables may_call w.group)
  kept = record {
    inner = anywhere;
    told = λ w e h. h;
    performs = λ w t op rest e p'. performed w.split t op rest p';
    allots = λ w name rest means a p'. performed w.split nowhere o.Agree (plain o.Block rest) (performed w.split nowhere o.Block rest p');
    ends = λ w. nothing w.split;
    part_ends = λ w. performed w.split nowhere o.End done (nothing w.split);
    divides = λ w spot by x y rest e splits is p' q r. divided w.split spot.place by x y rest p' q r;
    branches = λ w spot onward x y rest splits p' q r.
        agrees_or w.split (note tables spot.at).sync (choose nowhere (o.Branch onward) x y rest) (branched w.split onward x y rest p' q r);
    shares = λ w name means. all_agree Fine w (λ rest p'. performed w.split nowhere o.Agree rest p') (functions (note tables name.at).binding).parameters;
    enters = λ w name rest means p'. entered_fine w.split name rest p';
  }

  frames : (b : Bool) (r : Option Region) (place : Place) (rest : Coded) → ShrinksIn b rest → ShrinksIn b (framed tables functions r place rest)
  frames b None place rest q = q
  frames b (Some r) place rest q = q

  either : (s b : Bool) (x y : Coded) → (s ≡ true → ShrinksIn b x) → (s ≡ false → ShrinksIn b y) → ShrinksIn b (if s then x else y)
  either true b x y p' q = p' refl
  either false b x y p' q = q refl

  agreed_fine : (sync b : Bool) (rest : Coded) → ShrinksIn b rest → ShrinksIn b (agreed sync rest)
  agreed_fine true b rest q = q
  agreed_fine false b rest q = q

  -- for a group, or others, in a part or not
  module _ (g : Bool) (b : Bool) where
    abbrev Keeps : (Coded → Coded) → Type 0
    Keeps f = (rest : Coded) → ShrinksIn b rest → ShrinksIn b (f rest)

    gives : (e : Tree) → InPlace tables may_call g e → Keeps (value tables functions e)
    gives e h rest q = k.value_is_kept kept (at g b) e h rest q

    drops : (token' : ℕ) → Keeps (dropped tables functions token')
    drops token' rest q = k.drops kept (at g b) token' rest q

    uses : (e : Tree) → InPlace tables may_call g e → Keeps (used tables functions e)
    uses e h rest q = gives e h (dropped tables functions (token e) rest) (drops (token e) rest q)

    uses_or : (e : Option Tree) → OptionInPlace tables may_call g e → Keeps (used_or tables functions e)
    uses_or None h rest q = q
    uses_or (Some e) h rest q = uses e h rest q

    gives_or : (absent : Coded → Coded) → Keeps absent → (e : Option Tree) → OptionInPlace tables may_call g e → Keeps (value_or tables functions absent e)
    gives_or absent keeps None h rest q = keeps rest q
    gives_or absent keeps (Some e) h rest q = gives e h rest q

    declares_one : (d : DeclaredTree) → Calls tables may_call g d.name → OptionInPlace tables may_call g d.first → Keeps (declared tables functions d)
    declares_one d calls h rest q =
        let f : ResultLocation → Coded = λ s. addressed tables functions s (value_or tables functions (plain (o.Push 0)) d.first (assigned tables functions s (plain o.DropLast rest))) in
        either (is_scalar d) b (variable tables functions d.name f) rest
        (λ is. k.names kept (at g b) d.name calls f
        (λ s fits.
        let new = assigned tables functions s (plain o.DropLast rest) in
        k.addresses kept (at g b) s (value_or tables functions (plain (o.Push 0)) d.first new)
        (gives_or (plain (o.Push 0)) (λ rest' q'. q') d.first h new (k.assigns kept (at g b) s (plain o.DropLast rest) q))))
        (λ is. q)

    declares : (ds : List DeclaredTree) → VariablesInPlace tables may_call g ds → Keeps (all_declared tables functions ds)
    declares [] h rest q = q
    declares (d ∷ ds) h rest q = declares_one d h.0 h.1 (all_declared tables functions ds rest) (declares ds h.2 rest q)

    leaves : (splits sync : Bool) → (splits ≡ true → b ≡ true) → ShrinksIn b (if splits then quit nowhere o.Shrink done else agreed sync (quit nowhere (o.Branch true) done))
    leaves splits sync deep =
        either splits b (quit nowhere o.Shrink done) (agreed sync (quit nowhere (o.Branch true) done)) (λ is. ((λ e. deep is), tt))
        (λ is. agreed_fine sync b (quit nowhere (o.Branch true) done) ((λ e. absurd (cc)), tt))

    tests : (spot : Spot) (condition : Option Tree) → OptionInPlace tables may_call g condition → ((note tables spot.at).splits ≡ true → b ≡ true) → ShrinksIn b (tested tables functions spot condition)
    tests spot condition h deep =
        gives_or (plain (o.Push 1)) (λ rest q. q) condition h (leaving tables functions (note tables spot.at)) (leaves (note tables spot.at).splits (note tables spot.at).sync deep)

    ended : (main framed' : Bool) → Keeps (ends nowhere (if main then o.Halt else o.Leave false framed'))
    ended main framed' rest q = q

    returns : (inside : Inside) (e : Option Tree) → OptionInPlace tables may_call g e → Keeps (left_by tables functions inside e)
    returns inside None h rest q = q
    returns inside (Some e) h rest q =
        gives e h (if inside.main then plain o.DropLast (ends nowhere o.Halt rest) else ends nowhere (o.Leave true inside.framed) rest)
        (either inside.main b (plain o.DropLast (ends nowhere o.Halt rest)) (ends nowhere (o.Leave true inside.framed) rest) (λ is. q) (λ is. q))

  -- a loop, which is a part of its own or not
  loops : (b : Bool) (spot : Spot) (loop : Coded → Coded) → ((note tables spot.at).splits ≡ true → ShrinksIn true (loop done)) → ((note tables spot.at).splits ≡ false → Keeps true b loop)
      → Keeps true b (looping tables functions spot loop)
  loops b spot loop parted keeps rest q =
      either (note tables spot.at).splits b (choose spot.place (o.Split sk.Loop) (part_frame tables functions spot 0 (loop done)) done (plain o.Resume rest)) (loop rest)
      (λ is. (frames true (frame_at tables spot.at 0) spot.place (loop done) (parted is), tt, q)) (λ is. keeps is rest q)

  not_split : (s b : Bool) → s ≡ false → s ≡ true → b ≡ true
  not_split s b e f = absurd (true≢false (sym f ∙ e))

  mutual
    statement : (b main : Bool) (who : Who) (inside : Inside) (s : Statement) → StatementInPlace tables may_call main who s → (rest : Coded) → ShrinksIn b rest → ShrinksIn b (executed tables functions inside s rest)
    statement b main who inside p.Empty h rest q = q
    statement b main who inside (p.Expression e) h rest q = uses (is_group who) b e h rest q
    statement b main who inside (p.Block statements) h rest q = all_statements b main who inside statements h rest q
    statement b main who inside (p.Declare variables) h rest q = declares (is_group who) b variables h rest q
    statement b main who inside (p.If spot condition first) h rest q =
        let here = note tables spot.at in
        let body = executed tables functions inside first in
        let part = choose spot.place (o.Split sk.IfAlone) (part_frame tables functions spot 0 (body (plain o.End done))) done (plain o.Resume rest) in
        let branch = choose nowhere (o.Branch true) (body done) done rest in
        gives (is_group who) b condition h.1 (if here.splits then part else agreed here.sync branch)
        (either here.splits b part (agreed here.sync branch)
        (λ is. (frames true (frame_at tables spot.at 0) spot.place (body (plain o.End done)) (statement true main (inner who) inside first h.2 (plain o.End done) tt), tt, q))
        (λ is. agreed_fine here.sync b branch (statement b main (inner who) inside first h.2 done tt, tt, q)))
    statement b main who inside (p.IfElse spot condition first second) h rest q =
        let here = note tables spot.at in
        let x = executed tables functions inside first in
        let y = executed tables functions inside second in
        let part = choose spot.place (o.Split sk.IfElse) (part_frame tables functions spot 0 (x (plain o.End done))) (part_frame tables functions spot 1 (y (plain o.End done))) (plain o.Resume rest) in
        let branch = choose nowhere (o.Branch true) (x done) (y done) rest in
        gives (is_group who) b condition h.1 (if here.splits then part else agreed here.sync branch)
        (either here.splits b part (agreed here.sync branch)
        (λ is. (
          frames false (frame_at tables spot.at 0) spot.place (x (plain o.End done)) (statement false main (inner who) inside first h.2 (plain o.End done) tt),
          frames false (frame_at tables spot.at 1) spot.place (y (plain o.End done)) (statement false main (inner who) inside second h.3 (plain o.End done) tt),
          q,
        ))
        (λ is. agreed_fine here.sync b branch (statement b main (inner who) inside first h.2 done tt, statement b main (inner who) inside second h.3 done tt, q)))
    statement b main who inside (p.While spot condition body) h rest q =
        let test = tested tables functions spot (Some condition) in
        let run = executed tables functions inside body done in
        loops b spot (c.while test run done)
        (λ is. (tests (is_group who) true spot (Some condition) h.1 (λ e. refl), statement true main (inner who) inside body h.2 done tt, tt, tt))
        (λ is others more. (tests (is_group who) b spot (Some condition) h.1 (not_split (note tables spot.at).splits b is), statement b main (inner who) inside body h.2 done tt, tt, more)) rest q
    statement b main who inside (p.DoWhile spot body condition) h rest q =
        let test = tested tables functions spot (Some condition) in
        let run = executed tables functions inside body done in
        loops b spot (c.until run test)
        (λ is. (statement true main (inner who) inside body h.2 done tt, tests (is_group who) true spot (Some condition) h.1 (λ e. refl), tt))
        (λ is others more. (statement b main (inner who) inside body h.2 done tt, tests (is_group who) b spot (Some condition) h.1 (not_split (note tables spot.at).splits b is), more)) rest q
    statement b main who inside (p.For spot before condition after body) h rest q =
        let test = tested tables functions spot condition in
        let run = executed tables functions inside body done in
        let step = used_or tables functions after done in
        uses_or (is_group who) b before h.1 (looping tables functions spot (c.while test run step) rest)
        (loops b spot (c.while test run step)
        (λ is. (
          tests (is_group who) true spot condition h.2 (λ e. refl),
          statement true main (inner who) inside body h.4 done tt,
          uses_or (is_group who) true after h.3 done tt,
          tt,
        ))
        (λ is others more. (
          tests (is_group who) b spot condition h.2 (not_split (note tables spot.at).splits b is),
          statement b main (inner who) inside body h.4 done tt,
          uses_or (is_group who) b after h.3 done tt,
          more,
        )) rest q)
    statement b main who inside (p.Start spot count body) h rest q =
        let run = part_frame tables functions spot 0 (executed tables functions inside body (plain o.End done)) in
        gives_or (is_group who) b (plain (o.Get own.Processors)) (λ rest' q'. q') count h.1 (choose nowhere o.Begin run done (plain o.Resume rest))
        (frames false (frame_at tables spot.at 0) spot.place (executed tables functions inside body (plain o.End done)) (statement false main OfGroup inside body h.2 (plain o.End done) tt), tt, q)
    statement b main who inside (p.Fork spot parts part rank body) h rest q =
        let run = part_frame tables functions spot 0 (executed tables functions inside body (plain o.End done)) in
        let divided' = choose spot.place (o.Split sk.Fork) run done (plain o.Resume rest) in
        let ranked = value_or tables functions (plain (o.Get own.Rank)) rank divided' in
        gives (is_group who) b parts h.1 (plain o.Agree (value tables functions part ranked))
        (gives (is_group who) b part h.2 ranked
        (gives_or (is_group who) b (plain (o.Get own.Rank)) (λ rest' q'. q') rank h.3 divided'
        (frames true (frame_at tables spot.at 0) spot.place (executed tables functions inside body (plain o.End done)) (statement true main OfGroup inside body h.4 (plain o.End done) tt), tt, q)))
    statement b main who inside (p.Farm spot body) h rest q = (statement b main OfBody inside body h.1 done tt, tt, q)
    statement b main who inside (p.Seq spot body) h rest q = (statement b main OfBody inside body h.1 done tt, tt, q)
    statement b main who inside (p.Barrier spot) h rest q = q
    statement b main who inside (p.Break spot) h rest q = q
    statement b main who inside (p.Continue spot) h rest q = q
    statement b main who inside (p.Return spot e) h rest q = returns (is_group who) b inside e h.1 rest q

    all_statements : (b main : Bool) (who : Who) (inside : Inside) (statements : Statements) → StatementsInPlace tables may_call main who statements → (rest : Coded) → ShrinksIn b rest
        → ShrinksIn b (all_executed tables functions inside statements rest)
    all_statements b main who inside p.no_statements h rest q = q
    all_statements b main who inside (p.statement first others) h rest q =
        statement b main who inside first h.0 (all_executed tables functions inside others rest) (all_statements b main who inside others h.1 rest q)

  end_shrinks : (main void framed' : Bool) → ShrinksIn false (
      if main then ends nowhere o.Halt done
      else if void then ends nowhere (o.Leave false framed') done
      else plain (o.Push 0) (ends nowhere (o.Leave true framed') done))
  end_shrinks true void framed' = tt
  end_shrinks false true framed' = tt
  end_shrinks false false framed' = tt

  pub body_shrinks : (main : Bool) (who : Who) (inside : Inside) (void : Bool) (statements : Statements) → StatementsInPlace tables may_call main who statements
      → ShrinksIn false (body_of tables functions inside void statements)
  body_shrinks main who inside void statements h =
      all_statements false main who inside statements h (end_of tables functions inside void) (end_shrinks inside.main void inside.framed)

-- so it is in each function
pub function_shrinks : (tables : Tables) (everyone : List FunctionTree) (may_call : (in_group : Bool) → (function : ℕ) → Bool) (main : Bool) (who : Who) (f : FunctionTree)
    → BodyInPlace tables may_call main who f.body → (first : ℕ) → ShrinksIn false (numbered first (code_of tables everyone f))
function_shrinks tables everyone may_call main who f h first =
    numbered_shrinks false first (code_of tables everyone f) (by f.mode f.result f.name f.parameters f.body h)
  where
    by : (mode : Mode) (result : TypeTree) (name : Named) (parameters : List DeclaredTree) (body : Option Statements) → BodyInPlace tables may_call main who body
        → ShrinksIn false (code_of tables everyone (record { mode = mode; result = result; name = name; parameters = parameters; body = body }))
    by mode result name parameters None h' = tt
    by mode result name parameters (Some statements) h' =
        let f' : FunctionTree = record { mode = mode; result = result; name = name; parameters = parameters; body = Some statements } in
        let inside : Inside = record { main = is_main f'; framed = is_some (frame_at tables name.at 0) } in
        body_shrinks tables (signature_in tables everyone) may_call main who inside (is_nothing result) statements h'
