-- In the code of programs that are in place a number is pending before a `fork` alone.
use Rattle.std.proofs.Common.{◌≡◌, ℕ, suc, ◌+◌, Bool, true, false, List, [], ◌∷◌, length, Option, Some, None, is_some, ap, ◌∙◌, sym, refl, subst}
use Rattle.std.specs.Prelude.{not, ◌&&◌, ◌||◌, if◌then◌else◌}
use Rattle.fk_syntax.specs.declared.facts.Note.{Note}
use Rattle.fk_syntax.specs.declared.place.Place.{Place}
use Rattle.fk_syntax.specs.declared.place.Spot.{Spot}
use Rattle.fk_syntax.specs.Tree.{Named, Tree}
use Rattle.fk_syntax.specs.Program as p
use Rattle.fk_syntax.specs.Program.{DeclaredTree, Statement, Statements}
use Rattle.fk_meaning_operation.specs.declared.operation.Operation.{Operation}
use Rattle.fk_meaning_operation.specs.declared.operation.Operation.TheVariants as o
use Rattle.fk_meaning_operation.specs.declared.operation.OwnValue.TheVariants as n
use Rattle.fk_meaning_operation.specs.declared.operation.SplitKind.{SplitKind}
use Rattle.fk_meaning_operation.specs.declared.operation.SplitKind.TheVariants.{IfAlone, IfElse, Loop, Fork}
use Rattle.fk_meaning_forms.specs.declared.tables.Region.{Region}
use Rattle.fk_meaning_forms.specs.Code as c
use Rattle.fk_meaning_forms.specs.Code.{Code, done, perform, choose, while, until, turn, again, quit, break, continue, call, ends, size, numbered}
use Rattle.fk_meaning_forms.specs.Tables.{Tables, note, frame_at}
use Rattle.fk_meaning_forms.specs.Expressions.{Coded, nowhere, plain, ResultLocation, Signature, agreed, token, addressed, assigned, dropped, variable, framed, value}
use Rattle.fk_meaning_forms.specs.Statements.{Inside, is_scalar, used, used_or, value_or, declared, all_declared, part_frame, leaving, tested, looping, left_by, executed, all_executed, end_of, body_of}
use Rattle.fk_meaning.specs.Shape.{ends_part}
use Rattle.fk_meaning.proofs.Spine.{untrue}
use Rattle.fk_meaning.proofs.Kept.{entered}
use Rattle.fk_lockstep.proofs.Kept as k
use Rattle.fk_lockstep.proofs.Kept.{is_quiet, is_of_value, IsKept}
use Rattle.fk_lockstep_structure.specs.Placed.{Who, OfGroup, OfBody, OfMain, is_group, is_main, is_outermost, inner}
use Rattle.fk_lockstep_structure.specs.InPlace.{Splits, Calls, InPlace, OptionInPlace, VariablesInPlace, StatementInPlace, StatementsInPlace}
use Rattle.fk_lockstep_structure.specs.Pending as pending
use Rattle.fk_lockstep_structure.specs.Pending.{is_fork, stands_alone, before_it, before_way, before_call, leads, MayStand, MayChoose, MayCall, MayEnd, MayBegin, Counted, At}
use Rattle.fk_lockstep_structure.specs.Valued.{OptionValued, gives_value}
use Rattle.fk_lockstep_structure.specs.Forks.{StatementValued, StatementsValued}
use Rattle.fk_lockstep_structure.specs.Returns.{StatementReturns, StatementsReturn}
use Rattle.fk_lockstep_structure.proofs.Forms.{inner_group}
use Rattle.fk_lockstep_structure.proofs.Opening as front
use Rattle.fk_lockstep_structure.proofs.Valued.{may_begin, value_evaluates}

-- some who may call a function
abbrev pub anyone : (may_call : (in_group : Bool) → (function : ℕ) → Bool) → (function : ℕ) → Bool
anyone may_call function = may_call true function || may_call false function

-- `main` ends by a halt, and another function leaves with a value or without
may_end : (caller : Option Bool) (main framed value' : Bool) → ((g : Bool) → caller ≡ Some g → (main ≡ false) × (value' ≡ g)) → MayEnd caller (if main then o.Halt else o.Leave value' framed)
may_end None main framed value' h = tt
may_end (Some g) main framed value' h =
    let s = h g refl in
    subst (λ (m : Bool). pending.leaves g (if m then o.Halt else o.Leave value' framed) ≡ true) (sym s.0) (subst (λ (x : Bool). pending.leaves x (o.Leave value' framed) ≡ true) s.1 (by value'))
  where
    by : (x : Bool) → pending.leaves x (o.Leave x framed) ≡ true
    by true = refl
    by false = refl

begins_in : (caller : Option Bool) → caller ≡ None → MayBegin caller o.Begin
begins_in caller e = subst (λ (c : Option Bool). MayBegin c o.Begin) (sym e) tt

-- `main` is the function that nobody calls
abbrev pub IsCalled : (caller : Option Bool) → (main : Bool) → Type 0
IsCalled caller main = (g : Bool) → caller ≡ Some g → main ≡ false

inner_main : (who : Who) → is_main (inner who) ≡ is_main who
inner_main OfGroup = refl
inner_main OfBody = refl
inner_main (OfMain outermost) = refl

outermost_main : (who : Who) → is_outermost who ≡ true → is_main who ≡ true
outermost_main OfGroup e = untrue e
outermost_main OfBody e = untrue e
outermost_main (OfMain outermost) e = refl

module _ (may_call : (in_group : Bool) → (function : ℕ) → Bool) (functions : (binding : ℕ) → Signature) (caller : Option Bool) where
  abbrev results : (function : ℕ) → Bool
  results f = gives_value functions f

  abbrev above : Option ℕ → Coded → Option ℕ
  above after code = pending.above results after code

  abbrev Idle : Coded → Type 0
  Idle code = pending.Idle (anyone may_call) results caller code

  anyone_may : (in_group : Bool) (function : ℕ) → may_call in_group function ≡ true → anyone may_call function ≡ true
  anyone_may true function e = ap (λ (b : Bool). b || may_call false function) e
  anyone_may false function e = by (may_call true function)
    where
      by : (b : Bool) → (b || may_call false function) ≡ true
      by true = refl
      by false = e

  idle_done : Idle done
  idle_done = front.idle_done (anyone may_call) results caller

  goes : (t : Place) (op : Operation) (rest : Coded) → stands_alone op ≡ true → Idle rest → Idle (perform t op rest)
  goes t op rest f h = front.goes (anyone may_call) results caller t op rest f h

  either : (b : Bool) (x y : Coded) → Idle x → Idle y → Idle (if b then x else y)
  either b x y p q = front.either (anyone may_call) results caller b x y p q

  -- nothing is pending on either way
  ways : (op : Operation) (a b rest : Coded) → Idle a → Idle b → above None rest ≡ None
      → MayChoose op (above None rest) (above (above None rest) a) (above (above None rest) b)
      × Counted (anyone may_call) results caller (above None rest) a × Counted (anyone may_call) results caller (above None rest) b
  ways op a b rest p q e =
      subst (λ (behind : Option ℕ). MayChoose op behind (above behind a) (above behind b)
      × Counted (anyone may_call) results caller behind a × Counted (anyone may_call) results caller behind b)
      (sym e) ((p.0, q.0), p.1, q.1)

  chooses : (t : Place) (op : Operation) (a b rest : Coded) → is_fork op ≡ false → MayBegin caller op → Idle a → Idle b → Idle rest → Idle (choose t op a b rest)
  chooses t op a b rest f begins p q r = (
    ap (λ (fork : Bool). if fork then Some 2 else before_way op true (above (above None rest) a)) f
        ∙ ap (λ (behind : Option ℕ). before_way op true (above behind a)) r.0 ∙ ap (before_way op true) p.0,
    (ways op a b rest p q r.0, r.1, begins),
  )

  agrees_or : (sync : Bool) (rest : Coded) → Idle rest → Idle (agreed sync rest)
  agrees_or true rest p = goes nowhere o.Agree rest refl p
  agrees_or false rest p = p

  module _ (tables : Tables) where
    frames : (r : Option Region) (place : Place) (rest : Coded) → Idle rest → Idle (framed tables functions r place rest)
    frames r place rest p = front.frames (anyone may_call) results caller tables functions r place rest p

    enters : (who : Who) (name : Named) (rest : Coded) → Calls tables may_call (is_group who) name → Idle rest → Idle (entered tables functions name rest)
    enters who name rest means p =
        let b = (note tables name.at).binding in
        let function = functions b in (
          ap (before_call (results b) (o.Enter (length function.parameters))) p.0,
          (
            refl,
            anyone_may (is_group who) b means.0,
            front.opening_idle (anyone may_call) results (Some (results b)) tables functions (frame_at tables function.at 0) name.place function.parameters,
            (subst (MayCall (results b) (o.Enter (length function.parameters))) (sym p.0) tt, p.1),
          ),
        )

    performs : (who : Who) (t : Place) (op : Operation) (rest : Coded) → is_quiet op ≡ true → Idle rest → Idle (perform t op rest)
    performs who t (o.Split by) rest e p = untrue e
    performs who t (o.Enter n') rest e p = untrue e
    performs who t (o.Leave result framed') rest e p = untrue e
    performs who t o.Halt rest e p = untrue e
    performs who t op rest e p = goes t op rest refl p

    divides : (who : Who) (spot : Spot) (by : SplitKind) (a b rest : Coded) → is_of_value by ≡ true → Splits tables may_call (is_group who) spot.at → (note tables spot.at).splits ≡ true
        → Idle a → Idle b → Idle rest → Idle (choose spot.place (o.Split by) a b (plain o.Resume rest))
    divides who spot Fork a b rest e splits is p q r = untrue e
    divides who spot by a b rest e splits is p q r = chooses spot.place (o.Split by) a b (plain o.Resume rest) refl (may_begin caller (o.Split by) refl) p q (goes nowhere o.Resume rest refl r)

    kept : IsKept tables functions Who (λ who. Idle) (λ who. Splits tables may_call (is_group who)) (λ who. Calls tables may_call (is_group who))
    kept = record {
      inner = inner;
      told = λ who e h. subst (λ b. InPlace tables may_call b e) (sym (inner_group who)) h;
      performs = performs;
      allots = λ who name rest means a p. goes nowhere o.Agree (plain o.Block rest) refl (goes nowhere o.Block rest refl p);
      ends = λ who. idle_done;
      part_ends = λ who. goes nowhere o.End done refl idle_done;
      divides = divides;
      branches = λ who spot onward a b rest splits p q r. agrees_or (note tables spot.at).sync (choose nowhere (o.Branch onward) a b rest) (chooses nowhere (o.Branch onward) a b rest refl (may_begin caller (o.Branch onward) refl) p q r);
      shares = λ who name means. k.all_agree (λ (w : Who). Idle) who (λ rest p. goes nowhere o.Agree rest refl p) (functions (note tables name.at).binding).parameters;
      enters = enters;
    }

    abbrev Keeps : (Coded → Coded) → Type 0
    Keeps f = (rest : Coded) → Idle rest → Idle (f rest)

    gives : (who : Who) (e : Tree) → InPlace tables may_call (is_group who) e → Keeps (value tables functions e)
    gives who e h rest q = k.value_is_kept kept who e h rest q

    uses : (who : Who) (e : Tree) → InPlace tables may_call (is_group who) e → Keeps (used tables functions e)
    uses who e h rest q = gives who e h (dropped tables functions (token e) rest) (k.drops kept who (token e) rest q)

    uses_or : (who : Who) (e : Option Tree) → OptionInPlace tables may_call (is_group who) e → Keeps (used_or tables functions e)
    uses_or who None h rest q = q
    uses_or who (Some e) h rest q = uses who e h rest q

    gives_or : (who : Who) (absent : Coded → Coded) → Keeps absent → (e : Option Tree) → OptionInPlace tables may_call (is_group who) e → Keeps (value_or tables functions absent e)
    gives_or who absent keeps None h rest q = keeps rest q
    gives_or who absent keeps (Some e) h rest q = gives who e h rest q

    declares_one : (who : Who) (x : DeclaredTree) → Calls tables may_call (is_group who) x.name → OptionInPlace tables may_call (is_group who) x.first → Keeps (declared tables functions x)
    declares_one who x calls h rest q =
        let k' : ResultLocation → Coded = λ s. addressed tables functions s (value_or tables functions (plain (o.Push 0)) x.first (assigned tables functions s (plain o.DropLast rest))) in
        either (is_scalar x) (variable tables functions x.name k') rest
        (k.names kept who x.name calls k'
        (λ s fits.
        let new = assigned tables functions s (plain o.DropLast rest) in
        k.addresses kept who s (value_or tables functions (plain (o.Push 0)) x.first new)
        (gives_or who (plain (o.Push 0)) (λ rest' q'. goes nowhere (o.Push 0) rest' refl q') x.first h new (k.assigns kept who s (plain o.DropLast rest) (goes nowhere o.DropLast rest refl q)))))
        q

    declares : (who : Who) (xs : List DeclaredTree) → VariablesInPlace tables may_call (is_group who) xs → Keeps (all_declared tables functions xs)
    declares who [] h rest q = q
    declares who (x ∷ xs) h rest q = declares_one who x h.0 h.1 (all_declared tables functions xs rest) (declares who xs h.2 rest q)

    part_frames : (spot : Spot) (part : ℕ) → Keeps (part_frame tables functions spot part)
    part_frames spot part rest q = frames (frame_at tables spot.at part) spot.place rest q

    -- tests of loops
    leaves : (here : Note) → Idle (leaving tables functions here)
    leaves here =
        either here.splits (quit nowhere o.Shrink done) (agreed here.sync (quit nowhere (o.Branch true) done)) (refl, (refl, idle_done))
        (agrees_or here.sync (quit nowhere (o.Branch true) done) (refl, (refl, idle_done)))

    tests : (who : Who) (spot : Spot) (condition : Option Tree) → OptionInPlace tables may_call (is_group who) condition → Idle (tested tables functions spot condition)
    tests who spot condition h =
        gives_or who (plain (o.Push 1)) (λ rest q. goes nowhere (o.Push 1) rest refl q) condition h (leaving tables functions (note tables spot.at)) (leaves (note tables spot.at))

    loops : (spot : Spot) (loop : Coded → Coded) → Keeps loop → Keeps (looping tables functions spot loop)
    loops spot loop keeps rest q =
        let part = part_frame tables functions spot 0 (loop done) in
        either (note tables spot.at).splits (choose spot.place (o.Split Loop) part done (plain o.Resume rest)) (loop rest)
        (chooses spot.place (o.Split Loop) part done (plain o.Resume rest) refl (may_begin caller (o.Split Loop) refl) (part_frames spot 0 (loop done) (keeps done idle_done)) idle_done (goes nowhere o.Resume rest refl q))
        (keeps rest q)

    whiles : (test body step : Coded) → Idle test → Idle body → Idle step → Keeps (c.while test body step)
    whiles test body step a b d rest q = (refl, (a, b, d, q))

    untils : (body test : Coded) → Idle body → Idle test → Keeps (c.until body test)
    untils body test a b rest q = (refl, (a, b, q))

    leaf : (op : Operation) (rest : Coded) → MayEnd caller op → Idle rest → Idle (ends nowhere op rest)
    leaf op rest f q = (refl, (f, q))

    -- who returns with a value or without
    abbrev Ends : (main value' : Bool) → Type 0
    Ends main value' = (g : Bool) → caller ≡ Some g → (main ≡ false) × (value' ≡ g)

    halts : (main framed : Bool) → Ends main false → Keeps (ends nowhere (if main then o.Halt else o.Leave false framed))
    halts main framed f rest q = leaf (if main then o.Halt else o.Leave false framed) rest (may_end caller main framed false f) q

    hands : (main framed : Bool) → Ends main true → (rest : Coded) → Idle rest → Idle (if main then plain o.DropLast (ends nowhere o.Halt rest) else ends nowhere (o.Leave true framed) rest)
    hands true framed f rest q = goes nowhere o.DropLast (ends nowhere o.Halt rest) refl (leaf o.Halt rest (may_end caller true framed true f) q)
    hands false framed f rest q = leaf (o.Leave true framed) rest (may_end caller false framed true f) q

    returns : (who : Who) (inside : Inside) (e : Option Tree) → Ends inside.main (is_some e) → OptionInPlace tables may_call (is_group who) e → Keeps (left_by tables functions inside e)
    returns who inside None f h rest q = halts inside.main inside.framed f rest q
    returns who inside (Some e) f h rest q =
        gives who e h (if inside.main then plain o.DropLast (ends nowhere o.Halt rest) else ends nowhere (o.Leave true inside.framed) rest) (hands inside.main inside.framed f rest q)

    parts : (spot : Spot) (part : ℕ) (body : Coded → Coded) → Keeps body → Idle (part_frame tables functions spot part (body (plain o.End done)))
    parts spot part body keeps = part_frames spot part (body (plain o.End done)) (keeps (plain o.End done) (goes nowhere o.End done refl idle_done))

    -- a `fork`: from the agree on its number of parts it is pending
    forked : (spot : Spot) (body : Coded → Coded) → Keeps body → (rest : Coded) → Idle rest
        → At (anyone may_call) results caller true None 2 (choose spot.place (o.Split Fork) (part_frame tables functions spot 0 (body (plain o.End done))) done (plain o.Resume rest))
    forked spot body keeps rest q =
        let part = part_frame tables functions spot 0 (body (plain o.End done)) in
        let resumed : Idle (plain o.Resume rest) = goes nowhere o.Resume rest refl q in
        record {
          there = refl;
          counted = (ways (o.Split Fork) part done (plain o.Resume rest) (parts spot 0 body keeps) idle_done resumed.0, resumed.1, may_begin caller (o.Split Fork) refl);
          leading = λ is. refl;
        }

    -- what is told of each name in what a `fork` computes
    told_name : (who : Who) (name : Named) → Calls tables may_call (is_group who) name → anyone may_call (note tables name.at).binding ≡ true
    told_name who name means = anyone_may (is_group who) (note tables name.at).binding means.0

    ranked : (who : Who) (rank : Option Tree) → OptionInPlace tables may_call (is_group who) rank → OptionValued tables functions rank → (rest : Coded) → At (anyone may_call) results caller true None 2 rest → At (anyone may_call) results caller true None 1 (value_or tables functions (plain (o.Get n.Rank)) rank rest)
    ranked who None o' h rest a = record {
      there = ap (before_it (o.Get n.Rank)) a.there;
      counted = (refl, subst (λ (x : Option ℕ). MayStand (o.Get n.Rank) x (leads rest)) (sym a.there) refl, a.counted);
      leading = a.leading;
    }
    ranked who (Some e) o' h rest a =
        value_evaluates (anyone may_call) tables functions caller (Splits tables may_call (is_group who)) (Calls tables may_call (is_group who)) (told_name who) e h o' true None 1 rest a

    agreeing : (rest : Coded) → At (anyone may_call) results caller true None 0 rest → Idle (plain o.Agree rest)
    agreeing rest a =
        (ap (before_it o.Agree) a.there, (refl, subst (λ (x : Option ℕ). MayStand o.Agree x (leads rest)) (sym a.there) (a.leading refl), a.counted))

    inner_one : (who : Who) (e : Tree) → InPlace tables may_call (is_group who) e → InPlace tables may_call (is_group (inner who)) e
    inner_one who e h = subst (λ b. InPlace tables may_call b e) (sym (inner_group who)) h

    inner_if : (who : Who) (e : Option Tree) → OptionInPlace tables may_call (is_group who) e → OptionInPlace tables may_call (is_group (inner who)) e
    inner_if who e h = subst (λ b. OptionInPlace tables may_call b e) (sym (inner_group who)) h

    mutual
      statement : (main : Bool) (who : Who) (inside : Inside) (s : Statement) → StatementInPlace tables may_call main who s → StatementValued tables functions s → ((g : Bool) → caller ≡ Some g → StatementReturns g s)
          → IsCalled caller inside.main → (is_main who ≡ true → caller ≡ None) → Keeps (executed tables functions inside s)
      statement main who inside p.Empty h v r w m rest q = q
      statement main who inside (p.Expression e) h v r w m rest q = uses who e h rest q
      statement main who inside (p.Block statements) h v r w m rest q = all_statements main who inside statements h v r w m rest q
      statement main who inside (p.Declare variables) h v r w m rest q = declares who variables h rest q
      statement main who inside (p.If spot condition first) h v r w m rest q =
          let here = note tables spot.at in
          let body = executed tables functions inside first in
          let parted = choose spot.place (o.Split IfAlone) (part_frame tables functions spot 0 (body (plain o.End done))) done (plain o.Resume rest) in
          let branched = choose nowhere (o.Branch true) (body done) done rest in
          let in_body = statement main (inner who) inside first h.2 v r w (λ e. m (sym (inner_main who) ∙ e)) in
          gives who condition h.1 (if here.splits then parted else agreed here.sync branched)
          (either here.splits parted (agreed here.sync branched)
          (chooses spot.place (o.Split IfAlone) (part_frame tables functions spot 0 (body (plain o.End done))) done (plain o.Resume rest) refl (may_begin caller (o.Split IfAlone) refl) (parts spot 0 body in_body) idle_done (goes nowhere o.Resume rest refl q))
          (agrees_or here.sync branched (chooses nowhere (o.Branch true) (body done) done rest refl (may_begin caller (o.Branch true) refl) (in_body done idle_done) idle_done q)))
      statement main who inside (p.IfElse spot condition first second) h v r w m rest q =
          let here = note tables spot.at in
          let a = executed tables functions inside first in
          let b = executed tables functions inside second in
          let part_a = part_frame tables functions spot 0 (a (plain o.End done)) in
          let part_b = part_frame tables functions spot 1 (b (plain o.End done)) in
          let parted = choose spot.place (o.Split IfElse) part_a part_b (plain o.Resume rest) in
          let branched = choose nowhere (o.Branch true) (a done) (b done) rest in
          let in_a = statement main (inner who) inside first h.2 v.0 (λ g e. (r g e).0) w (λ e. m (sym (inner_main who) ∙ e)) in
          let in_b = statement main (inner who) inside second h.3 v.1 (λ g e. (r g e).1) w (λ e. m (sym (inner_main who) ∙ e)) in
          gives who condition h.1 (if here.splits then parted else agreed here.sync branched)
          (either here.splits parted (agreed here.sync branched)
          (chooses spot.place (o.Split IfElse) part_a part_b (plain o.Resume rest) refl (may_begin caller (o.Split IfElse) refl) (parts spot 0 a in_a) (parts spot 1 b in_b) (goes nowhere o.Resume rest refl q))
          (agrees_or here.sync branched (chooses nowhere (o.Branch true) (a done) (b done) rest refl (may_begin caller (o.Branch true) refl) (in_a done idle_done) (in_b done idle_done) q)))
      statement main who inside (p.While spot condition body) h v r w m rest q =
          loops spot (c.while (tested tables functions spot (Some condition)) (executed tables functions inside body done) done)
          (whiles (tested tables functions spot (Some condition)) (executed tables functions inside body done) done (tests who spot (Some condition) h.1)
          (statement main (inner who) inside body h.2 v r w (λ e. m (sym (inner_main who) ∙ e)) done idle_done) idle_done) rest q
      statement main who inside (p.DoWhile spot body condition) h v r w m rest q =
          loops spot (c.until (executed tables functions inside body done) (tested tables functions spot (Some condition)))
          (untils (executed tables functions inside body done) (tested tables functions spot (Some condition)) (statement main (inner who) inside body h.2 v r w (λ e. m (sym (inner_main who) ∙ e)) done idle_done)
          (tests who spot (Some condition) h.1)) rest q
      statement main who inside (p.For spot before condition after body) h v r w m rest q =
          let loop = c.while (tested tables functions spot condition) (executed tables functions inside body done) (used_or tables functions after done) in
          uses_or who before h.1 (looping tables functions spot loop rest)
          (loops spot loop
          (whiles (tested tables functions spot condition) (executed tables functions inside body done) (used_or tables functions after done) (tests who spot condition h.2)
          (statement main (inner who) inside body h.4 v r w (λ e. m (sym (inner_main who) ∙ e)) done idle_done) (uses_or who after h.3 done idle_done)) rest q)
      statement main who inside (p.Start spot count body) h v r w m rest q =
          let run = executed tables functions inside body in
          let part = part_frame tables functions spot 0 (run (plain o.End done)) in
          gives_or who (plain (o.Get n.Processors)) (λ rest' q'. goes nowhere (o.Get n.Processors) rest' refl q') count h.1
          (choose nowhere o.Begin part done (plain o.Resume rest))
          (chooses nowhere o.Begin part done (plain o.Resume rest) refl (begins_in caller (m (outermost_main who h.0))) (parts spot 0 run (statement main OfGroup inside body h.2 v r w (λ e. untrue e))) idle_done (goes nowhere o.Resume rest refl q))
      statement main who inside (p.Fork spot count part rank body) h v r w m rest q =
          let run = executed tables functions inside body in
          let split = choose spot.place (o.Split Fork) (part_frame tables functions spot 0 (run (plain o.End done))) done (plain o.Resume rest) in
          let ranks = value_or tables functions (plain (o.Get n.Rank)) rank split in
          let told = value tables functions part ranks in
          gives who count h.1 (plain o.Agree told)
          (agreeing told (value_evaluates (anyone may_call) tables functions caller (Splits tables may_call (is_group who)) (Calls tables may_call (is_group who)) (told_name who) part v.0 h.2 true None 0 ranks
          (ranked who rank h.3 v.1 split (forked spot run (statement main OfGroup inside body h.4 v.2 r w (λ e. untrue e)) rest q))))
      statement main who inside (p.Farm spot body) h v r w m rest q =
          chooses nowhere o.Farm (executed tables functions inside body done) done (plain (o.Meet true) rest) refl (may_begin caller o.Farm refl) (statement main OfBody inside body h.1 v r w (λ e. untrue e) done idle_done) idle_done (goes nowhere (o.Meet true) rest refl q)
      statement main who inside (p.Seq spot body) h v r w m rest q =
          chooses nowhere o.Seq (executed tables functions inside body done) done (plain (o.Meet true) rest) refl (may_begin caller o.Seq refl) (statement main OfBody inside body h.1 v r w (λ e. untrue e) done idle_done) idle_done (goes nowhere (o.Meet true) rest refl q)
      statement main who inside (p.Barrier spot) h v r w m rest q = goes nowhere (o.Meet false) rest refl q
      statement main who inside (p.Break spot) h v r w m rest q = (refl, q)
      statement main who inside (p.Continue spot) h v r w m rest q = (refl, q)
      statement main who inside (p.Return spot e) h v r w m rest q = returns who inside e (λ g e'. (w g e', r g e')) h.1 rest q

      all_statements : (main : Bool) (who : Who) (inside : Inside) (statements : Statements) → StatementsInPlace tables may_call main who statements → StatementsValued tables functions statements
          → ((g : Bool) → caller ≡ Some g → StatementsReturn g statements) → IsCalled caller inside.main → (is_main who ≡ true → caller ≡ None) → Keeps (all_executed tables functions inside statements)
      all_statements main who inside p.no_statements h v r w m rest q = q
      all_statements main who inside (p.statement first others) h v r w m rest q =
          statement main who inside first h.0 v.0 (λ g e. (r g e).0) w m (all_executed tables functions inside others rest)
          (all_statements main who inside others h.1 v.1 (λ g e. (r g e).1) w m rest q)

    end_idle : (inside : Inside) (void : Bool) → Ends inside.main (not void) → Idle (end_of tables functions inside void)
    end_idle inside void = by inside.main void
      where
        by : (main void : Bool) → Ends main (not void) → Idle (
            if main then ends nowhere o.Halt done
            else if void then ends nowhere (o.Leave false inside.framed) done
            else plain (o.Push 0) (ends nowhere (o.Leave true inside.framed) done))
        by true void f = leaf o.Halt done (may_end caller true inside.framed (not void) f) idle_done
        by false true f = leaf (o.Leave false inside.framed) done (may_end caller false inside.framed false f) idle_done
        by false false f =
            goes nowhere (o.Push 0) (ends nowhere (o.Leave true inside.framed) done) refl (leaf (o.Leave true inside.framed) done (may_end caller false inside.framed true f) idle_done)

    pub body_idle : (main : Bool) (who : Who) (inside : Inside) (void : Bool) (statements : Statements) → StatementsInPlace tables may_call main who statements → StatementsValued tables functions statements
        → ((g : Bool) → caller ≡ Some g → StatementsReturn g statements × (inside.main ≡ false) × (not void ≡ g)) → (is_main who ≡ true → caller ≡ None)
        → Idle (body_of tables functions inside void statements)
    body_idle main who inside void statements h v f m =
        all_statements main who inside statements h v (λ g e. (f g e).0) (λ g e. (f g e).1) m (end_of tables functions inside void) (end_idle inside void (λ g e. ((f g e).1, (f g e).2)))

may_stand_as : (op : Operation) (x y : Option ℕ) (l k : Bool) → x ≡ y → l ≡ k → MayStand op x l → MayStand op y k
may_stand_as op x y l k e f h = subst (λ (z : Option ℕ). MayStand op z k) e (subst (λ (b : Bool). MayStand op x b) f h)

may_choose_as : (op : Operation) (r x x' y y' : Option ℕ) → x ≡ x' → y ≡ y' → MayChoose op r x y → MayChoose op r x' y'
may_choose_as op r x x' y y' e f h = subst (λ (z : Option ℕ). MayChoose op r x' z) f (subst (λ (z : Option ℕ). MayChoose op r z y) e h)

module _ {A : Type 0} (may results : (function : ℕ) → Bool) where
  -- numbers in place of the places change nothing
  same_above : (after : Option ℕ) (code : Code A) (first : ℕ) → pending.above results after (numbered first code) ≡ pending.above results after code
  same_above after done first = refl
  same_above after (perform t op rest) first = ap (before_it op) (same_above after rest (suc first))
  same_above after (choose t op a b rest) first =
      ap (λ (behind : Option ℕ). if is_fork op then Some 2 else before_way op true (pending.above results behind (numbered (suc first) a))) (same_above after rest (suc first + size a + size b))
      ∙ ap (λ (x : Option ℕ). if is_fork op then Some 2 else before_way op true x) (same_above (pending.above results after rest) a (suc first))
  same_above after (while test body step rest) first = refl
  same_above after (until body test rest) first = refl
  same_above after (turn test body step rest) first = refl
  same_above after (again test body step rest) first = refl
  same_above after (quit t op rest) first = refl
  same_above after (break rest) first = refl
  same_above after (continue rest) first = refl
  same_above after (call t op f opening rest) first = ap (before_call (results f) op) (same_above after rest (suc first + size opening))
  same_above after (ends t op rest) first = refl

  same_leads : (code : Code A) (first : ℕ) → leads (numbered first code) ≡ leads code
  same_leads done first = refl
  same_leads (perform t op rest) first = ap (λ (l : Bool). not (ends_part op) && l) (same_leads rest (suc first))
  same_leads (choose t op a b rest) first = ap (λ (l : Bool). is_fork op || l) (same_leads rest (suc first + size a + size b))
  same_leads (while test body step rest) first = refl
  same_leads (until body test rest) first = refl
  same_leads (turn test body step rest) first = refl
  same_leads (again test body step rest) first = refl
  same_leads (quit t op rest) first = refl
  same_leads (break rest) first = refl
  same_leads (continue rest) first = refl
  same_leads (call t op f opening rest) first = same_leads rest (suc first + size opening)
  same_leads (ends t op rest) first = refl

  same_counted : (called : Option Bool) (after : Option ℕ) (code : Code A) (first : ℕ) → Counted may results called after code → Counted may results called after (numbered first code)
  same_counted called after done first h = tt
  same_counted called after (perform t op rest) first h = (
    h.0,
    may_stand_as op (pending.above results after rest) (pending.above results after (numbered (suc first) rest)) (leads rest) (leads (numbered (suc first) rest)) (sym (same_above after rest (suc first))) (sym (same_leads rest (suc first))) h.1,
    same_counted called after rest (suc first) h.2,
  )
  same_counted called after (choose t op a b rest) first h = (
    subst (λ (behind : Option ℕ). MayChoose op behind (pending.above results behind (numbered (suc first) a)) (pending.above results behind (numbered (suc first + size a) b))
        × Counted may results called behind (numbered (suc first) a) × Counted may results called behind (numbered (suc first + size a) b))
        (sym (same_above after rest (suc first + size a + size b))) (
          may_choose_as op (pending.above results after rest) (pending.above results (pending.above results after rest) a) (pending.above results (pending.above results after rest) (numbered (suc first) a)) (pending.above results (pending.above results after rest) b) (pending.above results (pending.above results after rest) (numbered (suc first + size a) b))
              (sym (same_above (pending.above results after rest) a (suc first))) (sym (same_above (pending.above results after rest) b (suc first + size a))) h.0.0,
          same_counted called (pending.above results after rest) a (suc first) h.0.1,
          same_counted called (pending.above results after rest) b (suc first + size a) h.0.2,
        ),
    same_counted called after rest (suc first + size a + size b) h.1,
    h.2,
  )
  same_counted called after (while test body step rest) first h = (
    (same_above None test first ∙ h.0.0, same_counted called None test first h.0.1),
    (same_above None body (first + size test) ∙ h.1.0, same_counted called None body (first + size test) h.1.1),
    (same_above None step (first + size test + size body) ∙ h.2.0, same_counted called None step (first + size test + size body) h.2.1),
    (same_above after rest (first + size test + size body + size step) ∙ h.3.0, same_counted called after rest (first + size test + size body + size step) h.3.1),
  )
  same_counted called after (until body test rest) first h = (
    (same_above None body first ∙ h.0.0, same_counted called None body first h.0.1),
    (same_above None test (first + size body) ∙ h.1.0, same_counted called None test (first + size body) h.1.1),
    (same_above after rest (first + size body + size test) ∙ h.2.0, same_counted called after rest (first + size body + size test) h.2.1),
  )
  same_counted called after (turn test body step rest) first h = (
    (same_above None test first ∙ h.0.0, same_counted called None test first h.0.1),
    (same_above None body (first + size test) ∙ h.1.0, same_counted called None body (first + size test) h.1.1),
    (same_above None step (first + size test + size body) ∙ h.2.0, same_counted called None step (first + size test + size body) h.2.1),
    (same_above after rest (first + size test + size body + size step) ∙ h.3.0, same_counted called after rest (first + size test + size body + size step) h.3.1),
  )
  same_counted called after (again test body step rest) first h = (
    (same_above None test first ∙ h.0.0, same_counted called None test first h.0.1),
    (same_above None body (first + size test) ∙ h.1.0, same_counted called None body (first + size test) h.1.1),
    (same_above None step (first + size test + size body) ∙ h.2.0, same_counted called None step (first + size test + size body) h.2.1),
    (same_above after rest (first + size test + size body + size step) ∙ h.3.0, same_counted called after rest (first + size test + size body + size step) h.3.1),
  )
  same_counted called after (quit t op rest) first h = (h.0, (same_above after rest (suc first) ∙ h.1.0, same_counted called after rest (suc first) h.1.1))
  same_counted called after (break rest) first h = (same_above after rest first ∙ h.0, same_counted called after rest first h.1)
  same_counted called after (continue rest) first h = (same_above after rest first ∙ h.0, same_counted called after rest first h.1)
  same_counted called after (call t op f opening rest) first h = (
    h.0,
    h.1,
    (same_above None opening (suc first) ∙ h.2.0, same_counted (Some (results f)) None opening (suc first) h.2.1),
    (
      subst (MayCall (results f) op) (sym (same_above after rest (suc first + size opening))) h.3.0,
      same_counted called after rest (suc first + size opening) h.3.1,
    ),
  )
  same_counted called after (ends t op rest) first h = (h.0, (same_above after rest (suc first) ∙ h.1.0, same_counted called after rest (suc first) h.1.1))

  pub numbered_idle : (called : Option Bool) (code : Code A) (first : ℕ) → pending.Idle may results called code → pending.Idle may results called (numbered first code)
  numbered_idle called code first h = (same_above None code first ∙ h.0, same_counted called None code first h.1)
