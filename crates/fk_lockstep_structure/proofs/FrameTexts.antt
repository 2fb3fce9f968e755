-- The code of statements and functions that are in place, and whose parts have frames of their own, is framed.
use Rattle.std.proofs.Common.{◌≡◌, ℕ, zero, suc, Bool, true, false, true≢false, List, [], ◌∷◌, Option, Some, None, ◌∙◌, sym, refl, subst}
use Rattle.std.specs.Prelude.{◌==◌, if◌then◌else◌}
use Rattle.fk_syntax.specs.declared.facts.Note.{Note}
use Rattle.fk_syntax.specs.declared.place.Place.{Place}
use Rattle.fk_syntax.specs.declared.place.Spot.{Spot}
use Rattle.fk_syntax.specs.Tree.{Tree}
use Rattle.fk_syntax.specs.Program as p
use Rattle.fk_syntax.specs.Program.{DeclaredTree, Statement, Statements}
use Rattle.fk_meaning_operation.specs.declared.operation.Operation.TheVariants as o
use Rattle.fk_meaning_operation.specs.declared.operation.OwnValue.TheVariants as n
use Rattle.fk_meaning_operation.specs.declared.operation.SplitKind.TheVariants.{IfAlone, IfElse, Loop, Fork}
use Rattle.fk_meaning_forms.specs.declared.tables.Region.{Region}
use Rattle.fk_meaning_forms.specs.Code as c
use Rattle.fk_meaning_forms.specs.Code.{done, perform, choose, while, until, quit, ends}
use Rattle.fk_meaning_forms.specs.Tables.{Tables, note, frame_at}
use Rattle.fk_meaning_forms.specs.Expressions.{Coded, ResultLocation, nowhere, plain, agreed, token, framed, Signature, addressed, assigned, dropped, variable, value}
use Rattle.fk_meaning_forms.specs.Statements.{Inside, is_scalar, used, used_or, value_or, declared, all_declared, part_frame, leaving, tested, looping, left_by, executed, all_executed, end_of, body_of}
use Rattle.fk_meaning.specs.Shape.{Exits, none, of_function, of_turn}
use Rattle.fk_meaning.specs.Shaped.{is_split, of_branch, StatementShaped, StatementsShaped}
use Rattle.fk_meaning.proofs.Spine.{untrue}
use Rattle.fk_lockstep_structure.specs.Placed as w
use Rattle.fk_lockstep_structure.specs.Placed.{Who, OfGroup, OfBody, OfMain, is_group, is_outermost, inner}
use Rattle.fk_lockstep_structure.specs.InPlace.{Splits, Calls, InPlace, OptionInPlace, VariablesInPlace, StatementInPlace, StatementsInPlace}
use Rattle.fk_lockstep_structure.proofs.Forms.{inner_group}
use Rattle.fk_lockstep_structure.specs.Framed.{is_body, Stays, Ends}
use Rattle.fk_lockstep_structure.specs.Inner.{is_own, Inner, StatementInner, StatementsInner}
use Rattle.fk_lockstep_structure.proofs.FrameForms.{Ok, stays, resumes_in, resumes_in_group, ends_part, frames_in, no_choice, divides_in, splits_to, agrees_or, addresses, assigns, drops, names, value_framed}

-- who does what is told of another
pub record Like (who other : Who) : Type 0 where
  pub group : is_group other ≡ is_group who
  pub main : w.is_main other ≡ w.is_main who

inner_main : (who : Who) → w.is_main (inner who) ≡ w.is_main who
inner_main OfGroup = refl
inner_main OfBody = refl
inner_main (OfMain b) = refl

like_inner : (who other : Who) → Like who other → Like who (inner other)
like_inner who other l = record { group = inner_group other ∙ l.group; main = inner_main other ∙ l.main }

main_no_body : (who : Who) → w.is_main who ≡ true → is_body who ≡ false
main_no_body OfGroup e = refl
main_no_body OfBody e = untrue e
main_no_body (OfMain b) e = refl

module _ (tables : Tables) (functions : (binding : ℕ) → Signature) (may_call : (in_group : Bool) → (function : ℕ) → Bool)
    (frameless : (binding : ℕ) → may_call false binding ≡ true → frame_at tables (functions binding).at 0 ≡ None) where
  abbrev Fine : Who → Coded → Type 0
  Fine who code = Ok tables functions may_call frameless who code

  abbrev Keeps : Who → (Coded → Coded) → Type 0
  Keeps who f = (rest : Coded) → Fine who rest → Fine who (f rest)

  abbrev Tells : Who → Tree → Type 0
  Tells who e = InPlace tables may_call (is_group who) e

  abbrev TellsIf : Who → Option Tree → Type 0
  TellsIf who e = OptionInPlace tables may_call (is_group who) e

  push : (who : Who) (number : ℕ) → Keeps who (plain (o.Push number))
  push who number rest q = (stays who (o.Push number) refl, refl, q)

  drop : (who : Who) → Keeps who (plain o.DropLast)
  drop who rest q = (stays who o.DropLast refl, refl, q)

  uses : (who : Who) (e : Tree) → Tells who e → Keeps who (used tables functions e)
  uses who e h rest q =
      value_framed tables functions may_call frameless who e h (dropped tables functions (token e) rest) (drops tables functions may_call frameless who (token e) rest q)

  uses_or : (who : Who) (e : Option Tree) → TellsIf who e → Keeps who (used_or tables functions e)
  uses_or who None h rest q = q
  uses_or who (Some e) h rest q = uses who e h rest q

  gives_or : (who : Who) (absent : Coded → Coded) → Keeps who absent → (e : Option Tree) → TellsIf who e → Keeps who (value_or tables functions absent e)
  gives_or who absent keeps None h rest q = keeps rest q
  gives_or who absent keeps (Some e) h rest q = value_framed tables functions may_call frameless who e h rest q

  either : (who : Who) (b : Bool) (x y : Coded) → Fine who x → Fine who y → Fine who (if b then x else y)
  either who true x y p q = p
  either who false x y p q = q

  declares_one : (who : Who) (x : DeclaredTree) → Calls tables may_call (is_group who) x.name → TellsIf who x.first → Keeps who (declared tables functions x)
  declares_one who x calls h rest q =
      let k : ResultLocation → Coded = λ s. addressed tables functions s (value_or tables functions (plain (o.Push 0)) x.first (assigned tables functions s (plain o.DropLast rest))) in
      either who (is_scalar x) (variable tables functions x.name k) rest
      (names tables functions may_call frameless who x.name calls k
      (λ s fits.
      let new = assigned tables functions s (plain o.DropLast rest) in
      addresses tables functions may_call frameless who s (value_or tables functions (plain (o.Push 0)) x.first new)
      (gives_or who (plain (o.Push 0)) (push who 0) x.first h new (assigns tables functions may_call frameless who s (plain o.DropLast rest) (drop who rest q)))))
      q

  declares : (who : Who) (xs : List DeclaredTree) → VariablesInPlace tables may_call (is_group who) xs → Keeps who (all_declared tables functions xs)
  declares who [] h rest q = q
  declares who (x ∷ xs) h rest q = declares_one who x h.0 h.1 (all_declared tables functions xs rest) (declares who xs h.2 rest q)

  -- the frame of a part, in a group
  frames : (r : Option Region) (place : Place) (rest : Coded) → is_own r ≡ false → Fine OfGroup rest → Fine OfGroup (framed tables functions r place rest)
  frames None place rest e q = q
  frames (Some r) place rest e q = by r.level e
    where
      by : (level : ℕ) → (level == 0) ≡ false → Fine OfGroup (perform place (o.Frame level r.words) rest)
      by zero e = absurd (true≢false e)
      by (suc level) e = (frames_in OfGroup (suc level) r.words refl, refl, q)

  part_frames : (spot : Spot) (part : ℕ) → Inner tables spot.at → Keeps OfGroup (part_frame tables functions spot part)
  part_frames spot part h rest q = frames (frame_at tables spot.at part) spot.place rest (h part) q

  is_the_group : (who : Who) → is_group who ≡ true → OfGroup ≡ who
  is_the_group OfGroup e = refl
  is_the_group OfBody e = untrue e
  is_the_group (OfMain b) e = untrue e

  in_group : (who : Who) (spot : Spot) (part : ℕ) (code : Coded) → is_group who ≡ true → Inner tables spot.at → Fine who code → Fine who (part_frame tables functions spot part code)
  in_group who spot part code g h q =
      subst (λ v. Fine v (part_frame tables functions spot part code)) (is_the_group who g)
      (part_frames spot part h code (subst (λ v. Fine v code) (sym (is_the_group who g)) q))

  ended : (who : Who) → Fine who (plain o.End done)
  ended who = (ends_part who, refl, tt)

  leaves : (who : Who) (here : Note) → Fine who (leaving tables functions here)
  leaves who here = splits_to tables functions may_call frameless here.splits who (quit nowhere o.Shrink done) (agreed here.sync (quit nowhere (o.Branch true) done)) (λ e. tt)
      (agrees_or tables functions may_call frameless who here.sync (quit nowhere (o.Branch true) done) tt)

  tests : (who : Who) (spot : Spot) (condition : Option Tree) → TellsIf who condition → Fine who (tested tables functions spot condition)
  tests who spot condition h = gives_or who (plain (o.Push 1)) (push who 1) condition h (leaving tables functions (note tables spot.at)) (leaves who (note tables spot.at))

  loops : (who : Who) (spot : Spot) → Splits tables may_call (is_group who) spot.at → Inner tables spot.at → (loop : Coded → Coded) → Keeps who loop → Keeps who (looping tables functions spot loop)
  loops who spot splits' inner' loop keeps rest q =
      let part = part_frame tables functions spot 0 (loop done) in
      splits_to tables functions may_call frameless (note tables spot.at).splits who (choose spot.place (o.Split Loop) part done (plain o.Resume rest)) (loop rest)
      (λ e. let g = splits'.0 e in
      (divides_in who Loop g, in_group who spot 0 (loop done) g inner' (keeps done tt), tt, (λ i. refl), (resumes_in_group who g, refl, q)))
      (keeps rest q)

  no_main_leaves : (who : Who) (gives framed : Bool) → w.is_main who ≡ false → (framed ≡ true → is_group who ≡ true) → Ends who (o.Leave gives framed)
  no_main_leaves who gives framed e g = record { halts = λ i. absurd (true≢false (sym i ∙ e)); leaves = λ i. refl; in_group = g }

  main_halts : (who : Who) → w.is_main who ≡ true → Ends who o.Halt
  main_halts who e = record { halts = λ i. refl; leaves = λ i. absurd (true≢false (sym e ∙ i)); in_group = λ i. untrue i }

  halts : (who : Who) (main framed : Bool) → w.is_main who ≡ main → (main ≡ false → framed ≡ true → is_group who ≡ true) → Keeps who (ends nowhere (if main then o.Halt else o.Leave false framed))
  halts who true framed e g rest q = (main_halts who e, q)
  halts who false framed e g rest q = (no_main_leaves who false framed e (g refl), q)

  gives : (who : Who) (main framed : Bool) → w.is_main who ≡ main → (main ≡ false → framed ≡ true → is_group who ≡ true) → (rest : Coded) → Fine who rest
      → Fine who (if main then plain o.DropLast (ends nowhere o.Halt rest) else ends nowhere (o.Leave true framed) rest)
  gives who true framed e g rest q = drop who (ends nowhere o.Halt rest) (main_halts who e, q)
  gives who false framed e g rest q = (no_main_leaves who true framed e (g refl), q)

  -- a function that processors by themselves call has no frame
  abbrev pub Leaves : Exits → Who → Inside → Type 0
  Leaves x who inside = x.returns ≡ true → inside.main ≡ false → inside.framed ≡ true → is_group who ≡ true

  in_branch : (b : Bool) (x : Exits) (who : Who) (inside : Inside) → Leaves x who inside → Leaves (of_branch tables functions b x) who inside
  in_branch true x who inside g e = untrue e
  in_branch false x who inside g e = g e

  in_turn : (b : Bool) (x : Exits) (who : Who) (inside : Inside) → Leaves x who inside → Leaves (of_turn b x) who inside
  in_turn true x who inside g e = untrue e
  in_turn false x who inside g e = g e

  returns : (who : Who) (inside : Inside) → w.is_main who ≡ inside.main → (inside.main ≡ false → inside.framed ≡ true → is_group who ≡ true) → (e : Option Tree) → TellsIf who e → Keeps who (left_by tables functions inside e)
  returns who inside is g None h rest q = halts who inside.main inside.framed is g rest q
  returns who inside is g (Some e) h rest q =
      value_framed tables functions may_call frameless who e h (if inside.main then plain o.DropLast (ends nowhere o.Halt rest) else ends nowhere (o.Leave true inside.framed) rest)
      (gives who inside.main inside.framed is g rest q)

  closes : (who : Who) → is_group who ≡ true → Stays who who (o.Meet true)
  closes who g = record { remains = refl; in_group = λ i. untrue i; resumes = λ i. untrue i; closes = λ i. g }

  bodies : (who : Who) → is_group who ≡ true → (body : Coded) → Fine OfBody body → (rest : Coded) → Fine who rest
      → Fine who (choose nowhere o.Farm body done (plain (o.Meet true) rest)) × Fine who (choose nowhere o.Seq body done (plain (o.Meet true) rest))
  bodies who g body h rest q = (
    (record { starts = λ i. untrue i; divides = λ i. untrue i; bodies = λ i. g }, h, tt, (λ i. untrue i), (closes who g, refl, q)),
    (record { starts = λ i. untrue i; divides = λ i. untrue i; bodies = λ i. g }, h, tt, (λ i. untrue i), (closes who g, refl, q)),
  )

  barrier : (who : Who) → Keeps who (plain (o.Meet false))
  barrier who rest q = (record { remains = refl; in_group = λ i. untrue i; resumes = λ i. untrue i; closes = λ i. untrue i }, refl, q)

  outermost_main : (who : Who) → is_outermost who ≡ true → w.is_main who ≡ true
  outermost_main OfGroup e = untrue e
  outermost_main OfBody e = untrue e
  outermost_main (OfMain b) e = refl

  -- what is told of whom it is like
  module _ (who other : Who) (l : Like who other) where
    told : (e : Tree) → Tells other e → Tells who e
    told e h = subst (λ g. InPlace tables may_call g e) l.group h

    told_if : (e : Option Tree) → TellsIf other e → TellsIf who e
    told_if e h = subst (λ g. OptionInPlace tables may_call g e) l.group h

    told_splits : (at : ℕ) → Splits tables may_call (is_group other) at → Splits tables may_call (is_group who) at
    told_splits at h = subst (λ g. Splits tables may_call g at) l.group h

  group_like : Like OfGroup OfGroup
  group_like = record { group = refl; main = refl }

  body_like : Like OfBody OfBody
  body_like = record { group = refl; main = refl }

  mutual
    statement : (who other : Who) → Like who other → (inside : Inside) (x : Exits) → Leaves x who inside → (s : Statement) → StatementInPlace tables may_call inside.main other s → StatementInner tables s
        → StatementShaped tables functions x s → Keeps who (executed tables functions inside s)
    statement who other l inside x g p.Empty h i j rest q = q
    statement who other l inside x g (p.Expression e) h i j rest q = uses who e (told who other l e h) rest q
    statement who other l inside x g (p.Block statements) h i j rest q = all_statements who other l inside x g statements h i j rest q
    statement who other l inside x g (p.Declare variables) h i j rest q = declares who variables (subst (λ b. VariablesInPlace tables may_call b variables) l.group h) rest q
    statement who other l inside x g (p.If spot condition first) h i j rest q =
        let here = note tables spot.at in
        let body = executed tables functions inside first in
        let keeps = statement who (inner other) (like_inner who other l) inside (of_branch tables functions (is_split tables functions spot.at) x) (in_branch (is_split tables functions spot.at) x who inside g) first h.2 i.1 j.1 in
        let parted = choose spot.place (o.Split IfAlone) (part_frame tables functions spot 0 (body (plain o.End done))) done (plain o.Resume rest) in
        let branched = choose nowhere (o.Branch true) (body done) done rest in
        let splits' = told_splits who other l spot.at h.0 in
        value_framed tables functions may_call frameless who condition (told who other l condition h.1) (if here.splits then parted else agreed here.sync branched)
        (splits_to tables functions may_call frameless here.splits who parted (agreed here.sync branched)
        (λ e. let g' = splits'.0 e in
        (divides_in who IfAlone g', in_group who spot 0 (body (plain o.End done)) g' i.0 (keeps (plain o.End done) (ended who)), tt, (λ k. refl), (resumes_in_group who g', refl, q)))
        (agrees_or tables functions may_call frameless who here.sync branched (no_choice who true, keeps done tt, tt, (λ k. untrue k), q)))
    statement who other l inside x g (p.IfElse spot condition first second) h i j rest q =
        let here = note tables spot.at in
        let a = executed tables functions inside first in
        let b = executed tables functions inside second in
        let keeps_a = statement who (inner other) (like_inner who other l) inside (of_branch tables functions (is_split tables functions spot.at) x) (in_branch (is_split tables functions spot.at) x who inside g) first h.2 i.1 j.1 in
        let keeps_b = statement who (inner other) (like_inner who other l) inside (of_branch tables functions (is_split tables functions spot.at) x) (in_branch (is_split tables functions spot.at) x who inside g) second h.3 i.2 j.2 in
        let parted = choose spot.place (o.Split IfElse) (part_frame tables functions spot 0 (a (plain o.End done))) (part_frame tables functions spot 1 (b (plain o.End done))) (plain o.Resume rest) in
        let branched = choose nowhere (o.Branch true) (a done) (b done) rest in
        let splits' = told_splits who other l spot.at h.0 in
        value_framed tables functions may_call frameless who condition (told who other l condition h.1) (if here.splits then parted else agreed here.sync branched)
        (splits_to tables functions may_call frameless here.splits who parted (agreed here.sync branched)
        (λ e. let g' = splits'.0 e in (
          divides_in who IfElse g',
          in_group who spot 0 (a (plain o.End done)) g' i.0 (keeps_a (plain o.End done) (ended who)),
          in_group who spot 1 (b (plain o.End done)) g' i.0 (keeps_b (plain o.End done) (ended who)),
          (λ k. refl),
          (resumes_in_group who g', refl, q),
        ))
        (agrees_or tables functions may_call frameless who here.sync branched (no_choice who true, keeps_a done tt, keeps_b done tt, (λ k. untrue k), q)))
    statement who other l inside x g (p.While spot condition body) h i j rest q =
        let test = tested tables functions spot (Some condition) in
        let run = executed tables functions inside body done in
        loops who spot (told_splits who other l spot.at h.0) i.0 (c.while test run done)
        (λ rest' q'. (tests who spot (Some condition) (told who other l condition h.1), statement who (inner other) (like_inner who other l) inside (of_turn (is_split tables functions spot.at) x) (in_turn (is_split tables functions spot.at) x who inside g) body h.2 i.1 j.1 done tt, tt, q')) rest q
    statement who other l inside x g (p.DoWhile spot body condition) h i j rest q =
        let test = tested tables functions spot (Some condition) in
        let run = executed tables functions inside body done in
        loops who spot (told_splits who other l spot.at h.0) i.0 (c.until run test)
        (λ rest' q'. (statement who (inner other) (like_inner who other l) inside (of_turn (is_split tables functions spot.at) x) (in_turn (is_split tables functions spot.at) x who inside g) body h.2 i.1 j.1 done tt, tests who spot (Some condition) (told who other l condition h.1), q')) rest q
    statement who other l inside x g (p.For spot before condition after body) h i j rest q =
        let test = tested tables functions spot condition in
        let run = executed tables functions inside body done in
        let step = used_or tables functions after done in
        uses_or who before (told_if who other l before h.1) (looping tables functions spot (c.while test run step) rest)
        (loops who spot (told_splits who other l spot.at h.0) i.0 (c.while test run step)
        (λ rest' q'. (
          tests who spot condition (told_if who other l condition h.2),
          statement who (inner other) (like_inner who other l) inside (of_turn (is_split tables functions spot.at) x) (in_turn (is_split tables functions spot.at) x who inside g) body h.4 i.1 j.3 done tt,
          uses_or who after (told_if who other l after h.3) done tt,
          q',
        )) rest q)
    statement who other l inside x g (p.Start spot count body) h i j rest q =
        let run = executed tables functions inside body in
        let main' = sym l.main ∙ outermost_main other h.0 in
        gives_or who (plain (o.Get n.Processors)) (λ rest' q'. (stays who (o.Get n.Processors) refl, refl, q')) count (told_if who other l count h.1)
        (choose nowhere o.Begin (part_frame tables functions spot 0 (run (plain o.End done))) done (plain o.Resume rest)) (
          record { starts = λ k. main'; divides = λ k. untrue k; bodies = λ k. untrue k },
          in_group OfGroup spot 0 (run (plain o.End done)) refl i.0 (statement OfGroup OfGroup group_like inside none (λ a b c. refl) body h.2 i.1 j.1 (plain o.End done) (ended OfGroup)),
          tt,
          (λ k. refl),
          (resumes_in who (main_no_body who main'), refl, q),
        )
    statement who other l inside x g (p.Fork spot count part rank body) h i j rest q =
        let run = executed tables functions inside body in
        let g' = sym l.group ∙ h.0 in
        let split = choose spot.place (o.Split Fork) (part_frame tables functions spot 0 (run (plain o.End done))) done (plain o.Resume rest) in
        let ranks = value_or tables functions (plain (o.Get n.Rank)) rank split in
        let told' = value tables functions part ranks in
        value_framed tables functions may_call frameless who count (told who other l count h.1) (plain o.Agree told') (
          stays who o.Agree refl,
          refl,
          value_framed tables functions may_call frameless who part (told who other l part h.2) ranks
              (gives_or who (plain (o.Get n.Rank)) (λ rest' q'. (stays who (o.Get n.Rank) refl, refl, q')) rank (told_if who other l rank h.3) split (
                divides_in who Fork g',
                subst (λ v. Fine v (part_frame tables functions spot 0 (run (plain o.End done)))) (is_the_group who g')
                    (in_group OfGroup spot 0 (run (plain o.End done)) refl i.0 (statement OfGroup OfGroup group_like inside none (λ a b c. refl) body h.4 i.1 j.3 (plain o.End done) (ended OfGroup))),
                tt,
                (λ k. refl),
                (resumes_in_group who g', refl, q),
              )),
        )
    statement who other l inside x g (p.Farm spot body) h i j rest q =
        (bodies who (sym l.group ∙ h.0) (executed tables functions inside body done) (statement OfBody OfBody body_like inside none (λ e. untrue e) body h.1 i j done tt) rest q).0
    statement who other l inside x g (p.Seq spot body) h i j rest q =
        (bodies who (sym l.group ∙ h.0) (executed tables functions inside body done) (statement OfBody OfBody body_like inside none (λ e. untrue e) body h.1 i j done tt) rest q).1
    statement who other l inside x g (p.Barrier spot) h i j rest q = barrier who rest q
    statement who other l inside x g (p.Break spot) h i j rest q = q
    statement who other l inside x g (p.Continue spot) h i j rest q = q
    statement who other l inside x g (p.Return spot e) h i j rest q = returns who inside (sym l.main ∙ h.0) (g j.0) e (told_if who other l e h.1) rest q

    all_statements : (who other : Who) → Like who other → (inside : Inside) (x : Exits) → Leaves x who inside → (statements : Statements) → StatementsInPlace tables may_call inside.main other statements
        → StatementsInner tables statements → StatementsShaped tables functions x statements → Keeps who (all_executed tables functions inside statements)
    all_statements who other l inside x g p.no_statements h i j rest q = q
    all_statements who other l inside x g (p.statement first others) h i j rest q =
        statement who other l inside x g first h.0 i.0 j.0 (all_executed tables functions inside others rest) (all_statements who other l inside x g others h.1 i.1 j.1 rest q)

  end_framed : (who : Who) (inside : Inside) (void : Bool) → w.is_main who ≡ inside.main → (inside.main ≡ false → inside.framed ≡ true → is_group who ≡ true) → Fine who (end_of tables functions inside void)
  end_framed who inside void is g = by inside.main void is g
    where
      by : (main void : Bool) → w.is_main who ≡ main → (main ≡ false → inside.framed ≡ true → is_group who ≡ true) → Fine who (
          if main then ends nowhere o.Halt done
          else if void then ends nowhere (o.Leave false inside.framed) done
          else plain (o.Push 0) (ends nowhere (o.Leave true inside.framed) done))
      by true void e g' = halts who true inside.framed e g' done tt
      by false true e g' = halts who false inside.framed e g' done tt
      by false false e g' = push who 0 (ends nowhere (o.Leave true inside.framed) done) (gives who false inside.framed e g' done tt)

  pub body_framed : (who other : Who) → Like who other → (inside : Inside) (void : Bool) (statements : Statements) → w.is_main who ≡ inside.main
      → (inside.main ≡ false → inside.framed ≡ true → is_group who ≡ true) → StatementsInPlace tables may_call inside.main other statements → StatementsInner tables statements
      → StatementsShaped tables functions of_function statements → Fine who (body_of tables functions inside void statements)
  body_framed who other l inside void statements is g h i j =
      all_statements who other l inside of_function (λ e. g) statements h i j (end_of tables functions inside void) (end_framed who inside void is g)
