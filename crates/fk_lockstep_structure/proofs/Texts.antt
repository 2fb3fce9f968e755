-- The code of statements and functions that are in place keeps where the steps of the tree may stand.
use Rattle.std.proofs.Common.{◌≡◌, ℕ, Bool, true, false, true≢false, List, [], ◌∷◌, Option, Some, None, ◌∙◌, sym, refl, subst}
use Rattle.std.specs.Prelude.{if◌then◌else◌}
use Rattle.fk_syntax.specs.declared.facts.Note.{Note}
use Rattle.fk_syntax.specs.declared.place.Spot.{Spot}
use Rattle.fk_syntax.specs.Tree.{Tree}
use Rattle.fk_syntax.specs.Program as p
use Rattle.fk_syntax.specs.Program.{DeclaredTree, Statement, Statements}
use Rattle.fk_meaning_operation.specs.declared.operation.Operation.TheVariants as o
use Rattle.fk_meaning_operation.specs.declared.operation.OwnValue.TheVariants as n
use Rattle.fk_meaning_operation.specs.declared.operation.SplitKind.TheVariants.{IfAlone, IfElse, Loop, Fork}
use Rattle.fk_meaning_forms.specs.Code as c
use Rattle.fk_meaning_forms.specs.Code.{done, choose, while, until, quit, ends}
use Rattle.fk_meaning_forms.specs.Tables.{Tables, note, frame_at}
use Rattle.fk_meaning_forms.specs.Expressions.{Coded, ResultLocation, nowhere, plain, agreed, token, Signature, addressed, assigned, dropped, variable, value}
use Rattle.fk_meaning_forms.specs.Statements.{Inside, is_scalar, used, used_or, value_or, declared, all_declared, part_frame, leaving, tested, looping, left_by, executed, all_executed, end_of, body_of}
use Rattle.fk_meaning.proofs.Spine.{untrue}
use Rattle.fk_lockstep.specs.InStep.{InStep}
use Rattle.fk_lockstep.specs.Noted.{StatementNoted}
use Rattle.fk_lockstep.proofs.Statements.{forms_are_in_step}
use Rattle.fk_lockstep.proofs.Forms.{frames as framed_in_step}
use Rattle.fk_lockstep_structure.specs.Placed as w
use Rattle.fk_lockstep_structure.specs.Placed.{Who, OfGroup, OfBody, OfMain, is_group, inner, may_end, Placed}
use Rattle.fk_lockstep_structure.specs.InPlace.{Splits, Calls, InPlace, OptionInPlace, VariablesInPlace, StatementInPlace, StatementsInPlace}
use Rattle.fk_lockstep_structure.proofs.Forms.{Ok, either, splits_to, agrees_or, addresses, assigns, drops, names, frames, value_in_place, inner_group}

module _ (tables : Tables) (functions : (binding : ℕ) → Signature) (may_call : (in_group : Bool) → (function : ℕ) → Bool) where
  abbrev Fine : Who → Coded → Type 0
  Fine who code = Ok tables functions may_call who code

  abbrev Keeps : Who → (Coded → Coded) → Type 0
  Keeps who f = (rest : Coded) → Fine who rest → Fine who (f rest)

  abbrev Tells : Who → Tree → Type 0
  Tells who e = InPlace tables may_call (is_group who) e

  abbrev TellsIf : Who → Option Tree → Type 0
  TellsIf who e = OptionInPlace tables may_call (is_group who) e

  inner_if : (who : Who) (e : Option Tree) → TellsIf who e → TellsIf (inner who) e
  inner_if who e h = subst (λ b. OptionInPlace tables may_call b e) (sym (inner_group who)) h

  inner_twice : (who : Who) → inner (inner who) ≡ inner who
  inner_twice OfGroup = refl
  inner_twice OfBody = refl
  inner_twice (OfMain b) = refl

  uses : (who : Who) (e : Tree) → Tells who e → Keeps who (used tables functions e)
  uses who e h rest q =
      value_in_place tables functions may_call who e h (dropped tables functions (token e) rest) (drops tables functions may_call who (token e) rest q)

  uses_or : (who : Who) (e : Option Tree) → TellsIf who e → Keeps who (used_or tables functions e)
  uses_or who None h rest q = q
  uses_or who (Some e) h rest q = uses who e h rest q

  gives_or : (who : Who) (absent : Coded → Coded) → Keeps who absent → (e : Option Tree) → TellsIf who e → Keeps who (value_or tables functions absent e)
  gives_or who absent keeps None h rest q = keeps rest q
  gives_or who absent keeps (Some e) h rest q = value_in_place tables functions may_call who e h rest q

  declares_one : (who : Who) (x : DeclaredTree) → Calls tables may_call (is_group who) x.name → TellsIf who x.first → Keeps who (declared tables functions x)
  declares_one who x calls h rest q =
      let k : ResultLocation → Coded = λ s. addressed tables functions s (value_or tables functions (plain (o.Push 0)) x.first (assigned tables functions s (plain o.DropLast rest))) in
      either tables functions may_call who (is_scalar x) (variable tables functions x.name k) rest
      (names tables functions may_call who x.name calls k
      (λ s fits.
      let new = assigned tables functions s (plain o.DropLast rest) in
      addresses tables functions may_call who s (value_or tables functions (plain (o.Push 0)) x.first new)
      (gives_or who (plain (o.Push 0)) (λ rest' q'. (refl, q')) x.first h new (assigns tables functions may_call who s (plain o.DropLast rest) (refl, q)))))
      q

  declares : (who : Who) (xs : List DeclaredTree) → VariablesInPlace tables may_call (is_group who) xs → Keeps who (all_declared tables functions xs)
  declares who [] h rest q = q
  declares who (x ∷ xs) h rest q = declares_one who x h.0 h.1 (all_declared tables functions xs rest) (declares who xs h.2 rest q)

  part_frames : (who : Who) (spot : Spot) (part : ℕ) → Keeps who (part_frame tables functions spot part)
  part_frames who spot part rest q = frames tables functions may_call who (frame_at tables spot.at part) spot.place rest q

  -- tests of loops
  leaves : (who : Who) (here : Note) → (here.splits ≡ true → is_group who ≡ true) → Fine who (leaving tables functions here)
  leaves who here splits' =
      splits_to tables functions may_call here.splits who (quit nowhere o.Shrink done) (agreed here.sync (quit nowhere (o.Branch true) done)) (λ e. (refl, splits' e, refl))
      (agrees_or tables functions may_call who here.sync (quit nowhere (o.Branch true) done) (refl, refl, refl))

  tests : (who : Who) (spot : Spot) (condition : Option Tree) → Splits tables may_call (is_group who) spot.at → TellsIf who condition → Fine who (tested tables functions spot condition)
  tests who spot condition splits' h =
      gives_or who (plain (o.Push 1)) (λ rest q. (refl, q)) condition h (leaving tables functions (note tables spot.at)) (leaves who (note tables spot.at) splits'.0)

  loops : (who : Who) (spot : Spot) → Splits tables may_call (is_group who) spot.at → (loop : Coded → Coded) → Keeps (inner who) loop → Keeps who loop → Keeps who (looping tables functions spot loop)
  loops who spot splits' loop keeps_in keeps rest q =
      let part = part_frame tables functions spot 0 (loop done) in
      splits_to tables functions may_call (note tables spot.at).splits who (choose spot.place (o.Split Loop) part done (plain o.Resume rest)) (loop rest)
      (λ e. (refl, splits'.0 e, part_frames (inner who) spot 0 (loop done) (keeps_in done refl), refl, (λ f. untrue f), (refl, q))) (keeps rest q)

  -- the loop itself, within its part or not
  whiles : (who : Who) (test body step : Coded) → Fine (inner who) test → Fine (inner who) body → Fine (inner who) step → Keeps who (c.while test body step)
  whiles who test body step a b d rest q = (refl, a, b, d, q)

  untils : (who : Who) (body test : Coded) → Fine (inner who) body → Fine (inner who) test → Keeps who (c.until body test)
  untils who body test a b rest q = (refl, a, b, q)

  twice : (who : Who) (code : Coded) → Fine (inner who) code → Fine (inner (inner who)) code
  twice who code h = subst (λ g. Placed may_call g false code) (sym (inner_twice who)) h

  halts : (who : Who) (main framed : Bool) → w.is_main who ≡ main → Keeps who (ends nowhere (if main then o.Halt else o.Leave false framed))
  halts who true framed e rest q = (refl, e, q)
  halts who false framed e rest q = (refl, by who e, q)
    where
      by : (who : Who) → w.is_main who ≡ false → may_end who (o.Leave false framed) ≡ true
      by OfGroup e = refl
      by OfBody e = refl
      by (OfMain b) e = absurd (true≢false e)

  gives : (who : Who) (main framed : Bool) → w.is_main who ≡ main → (rest : Coded) → Fine who rest
      → Fine who (if main then plain o.DropLast (ends nowhere o.Halt rest) else ends nowhere (o.Leave true framed) rest)
  gives who true framed e rest q = (refl, (refl, e, q))
  gives who false framed e rest q = (refl, by who e, q)
    where
      by : (who : Who) → w.is_main who ≡ false → may_end who (o.Leave true framed) ≡ true
      by OfGroup e = refl
      by OfBody e = refl
      by (OfMain b) e = absurd (true≢false e)

  returns : (who : Who) (inside : Inside) → w.is_main who ≡ inside.main → (e : Option Tree) → TellsIf who e → Keeps who (left_by tables functions inside e)
  returns who inside is None h rest q = halts who inside.main inside.framed is rest q
  returns who inside is (Some e) h rest q =
      value_in_place tables functions may_call who e h (if inside.main then plain o.DropLast (ends nowhere o.Halt rest) else ends nowhere (o.Leave true inside.framed) rest)
      (gives who inside.main inside.framed is rest q)

  -- who splits is a group
  in_group : (who : Who) → is_group who ≡ true → (code : Coded) → Fine OfGroup code → Fine (inner who) code
  in_group OfGroup e code p = p
  in_group OfBody e code p = untrue e
  in_group (OfMain b) e code p = untrue e

  -- a body that ends its part
  parts : (who : Who) (spot : Spot) (part : ℕ) (body : Coded → Coded) → Keeps who body → Fine who (part_frame tables functions spot part (body (plain o.End done)))
  parts who spot part body keeps = part_frames who spot part (body (plain o.End done)) (keeps (plain o.End done) (refl, refl))

  farms : (who : Who) → is_group who ≡ true → (body : Coded) → Fine OfBody body → (rest : Coded) → Fine who rest
      → Fine who (choose nowhere o.Farm body done (plain (o.Meet true) rest)) × Fine who (choose nowhere o.Seq body done (plain (o.Meet true) rest))
  farms who g body h rest q = ((refl, g, h, refl, (λ f. untrue f), (refl, q)), (refl, g, h, refl, (λ f. untrue f), (refl, q)))

  inner_splits : (who : Who) (spot : Spot) → Splits tables may_call (is_group who) spot.at → Splits tables may_call (is_group (inner who)) spot.at
  inner_splits who spot h = (λ e. inner_group who ∙ h.0 e, λ e. inner_group who ∙ h.1 e)

  -- the part of a `start`
  starts_in_step : (spot : Spot) (inside : Inside) (body : Statement) → StatementNoted tables (may_call true) body
      → InStep (may_call true) false (part_frame tables functions spot 0 (executed tables functions inside body (plain o.End done)))
  starts_in_step spot inside body noted =
      framed_in_step tables functions (may_call true) (frame_at tables spot.at 0) spot.place (executed tables functions inside body (plain o.End done))
      (forms_are_in_step.statement tables functions (may_call true) inside body (plain o.End done) noted (refl, tt))

  mutual
    statement : (who : Who) (inside : Inside) (s : Statement) → StatementInPlace tables may_call inside.main who s → Keeps who (executed tables functions inside s)
    statement who inside p.Empty h rest q = q
    statement who inside (p.Expression e) h rest q = uses who e h rest q
    statement who inside (p.Block statements) h rest q = all_statements who inside statements h rest q
    statement who inside (p.Declare variables) h rest q = declares who variables h rest q
    statement who inside (p.If spot condition first) h rest q =
        let here = note tables spot.at in
        let body = executed tables functions inside first in
        let parted = choose spot.place (o.Split IfAlone) (part_frame tables functions spot 0 (body (plain o.End done))) done (plain o.Resume rest) in
        let branched = choose nowhere (o.Branch true) (body done) done rest in
        value_in_place tables functions may_call who condition h.1 (if here.splits then parted else agreed here.sync branched)
        (splits_to tables functions may_call here.splits who parted (agreed here.sync branched)
        (λ e. (refl, h.0.0 e, parts (inner who) spot 0 body (statement (inner who) inside first h.2), refl, (λ f. untrue f), (refl, q)))
        (agrees_or tables functions may_call who here.sync branched (refl, refl, statement (inner who) inside first h.2 done refl, refl, (λ f. untrue f), q)))
    statement who inside (p.IfElse spot condition first second) h rest q =
        let here = note tables spot.at in
        let a = executed tables functions inside first in
        let b = executed tables functions inside second in
        let parted = choose spot.place (o.Split IfElse) (part_frame tables functions spot 0 (a (plain o.End done))) (part_frame tables functions spot 1 (b (plain o.End done))) (plain o.Resume rest) in
        let branched = choose nowhere (o.Branch true) (a done) (b done) rest in
        value_in_place tables functions may_call who condition h.1 (if here.splits then parted else agreed here.sync branched)
        (splits_to tables functions may_call here.splits who parted (agreed here.sync branched)
        (λ e. (refl, h.0.0 e, parts (inner who) spot 0 a (statement (inner who) inside first h.2), parts (inner who) spot 1 b (statement (inner who) inside second h.3), (λ f. untrue f), (refl, q)))
        (agrees_or tables functions may_call who here.sync branched
        (refl, refl, statement (inner who) inside first h.2 done refl, statement (inner who) inside second h.3 done refl, (λ f. untrue f), q)))
    statement who inside (p.While spot condition body) h rest q =
        let test = tested tables functions spot (Some condition) in
        let run = executed tables functions inside body done in
        let test_fine : Fine (inner who) test = tests (inner who) spot (Some condition) (inner_splits who spot h.0) (inner_if who (Some condition) h.1) in
        let run_fine : Fine (inner who) run = statement (inner who) inside body h.2 done refl in
        loops who spot h.0 (c.while test run done) (whiles (inner who) test run done (twice who test test_fine) (twice who run run_fine) refl)
        (whiles who test run done test_fine run_fine refl) rest q
    statement who inside (p.DoWhile spot body condition) h rest q =
        let test = tested tables functions spot (Some condition) in
        let run = executed tables functions inside body done in
        let test_fine : Fine (inner who) test = tests (inner who) spot (Some condition) (inner_splits who spot h.0) (inner_if who (Some condition) h.1) in
        let run_fine : Fine (inner who) run = statement (inner who) inside body h.2 done refl in
        loops who spot h.0 (c.until run test) (untils (inner who) run test (twice who run run_fine) (twice who test test_fine))
        (untils who run test run_fine test_fine) rest q
    statement who inside (p.For spot before condition after body) h rest q =
        let test = tested tables functions spot condition in
        let run = executed tables functions inside body done in
        let step = used_or tables functions after done in
        let test_fine : Fine (inner who) test = tests (inner who) spot condition (inner_splits who spot h.0) (inner_if who condition h.2) in
        let run_fine : Fine (inner who) run = statement (inner who) inside body h.4 done refl in
        let step_fine : Fine (inner who) step = uses_or (inner who) after (inner_if who after h.3) done refl in
        uses_or who before h.1 (looping tables functions spot (c.while test run step) rest)
        (loops who spot h.0 (c.while test run step) (whiles (inner who) test run step (twice who test test_fine) (twice who run run_fine) (twice who step step_fine))
        (whiles who test run step test_fine run_fine step_fine) rest q)
    statement who inside (p.Start spot count body) h rest q =
        let run = executed tables functions inside body in
        let part = part_frame tables functions spot 0 (run (plain o.End done)) in
        gives_or who (plain (o.Get n.Processors)) (λ rest' q'. (refl, q')) count h.1
        (choose nowhere o.Begin part done (plain o.Resume rest)) (
          refl,
          h.0,
          parts OfGroup spot 0 run (statement OfGroup inside body h.2),
          refl,
          (λ f. starts_in_step spot inside body h.3),
          (refl, q),
        )
    statement who inside (p.Fork spot count part rank body) h rest q =
        let run = executed tables functions inside body in
        let split = choose spot.place (o.Split Fork) (part_frame tables functions spot 0 (run (plain o.End done))) done (plain o.Resume rest) in
        let ranks = value_or tables functions (plain (o.Get n.Rank)) rank split in
        let told = value tables functions part ranks in
        value_in_place tables functions may_call who count h.1 (plain o.Agree told) (
          refl,
          value_in_place tables functions may_call who part h.2 ranks
              (gives_or who (plain (o.Get n.Rank)) (λ rest' q'. (refl, q')) rank h.3 split (
                refl,
                h.0,
                in_group who h.0 (part_frame tables functions spot 0 (run (plain o.End done))) (parts OfGroup spot 0 run (statement OfGroup inside body h.4)),
                refl,
                (λ f. untrue f),
                (refl, q),
              )),
        )
    statement who inside (p.Farm spot body) h rest q = (farms who h.0 (executed tables functions inside body done) (statement OfBody inside body h.1 done refl) rest q).0
    statement who inside (p.Seq spot body) h rest q = (farms who h.0 (executed tables functions inside body done) (statement OfBody inside body h.1 done refl) rest q).1
    statement who inside (p.Barrier spot) h rest q = (refl, q)
    statement who inside (p.Break spot) h rest q = (refl, q)
    statement who inside (p.Continue spot) h rest q = (refl, q)
    statement who inside (p.Return spot e) h rest q = returns who inside h.0 e h.1 rest q

    all_statements : (who : Who) (inside : Inside) (statements : Statements) → StatementsInPlace tables may_call inside.main who statements → Keeps who (all_executed tables functions inside statements)
    all_statements who inside p.no_statements h rest q = q
    all_statements who inside (p.statement first others) h rest q =
        statement who inside first h.0 (all_executed tables functions inside others rest) (all_statements who inside others h.1 rest q)

  end_in_place : (who : Who) (inside : Inside) (void : Bool) → w.is_main who ≡ inside.main → Fine who (end_of tables functions inside void)
  end_in_place who inside void is = by inside.main void is
    where
      by : (main void : Bool) → w.is_main who ≡ main → Fine who (
          if main then ends nowhere o.Halt done
          else if void then ends nowhere (o.Leave false inside.framed) done
          else plain (o.Push 0) (ends nowhere (o.Leave true inside.framed) done))
      by true void e = halts who true inside.framed e done refl
      by false true e = halts who false inside.framed e done refl
      by false false e = (refl, gives who false inside.framed e done refl)

  pub body_in_place : (who : Who) (inside : Inside) (void : Bool) (statements : Statements) → w.is_main who ≡ inside.main → StatementsInPlace tables may_call inside.main who statements
      → Fine who (body_of tables functions inside void statements)
  body_in_place who inside void statements is h =
      all_statements who inside statements h (end_of tables functions inside void) (end_in_place who inside void is)
