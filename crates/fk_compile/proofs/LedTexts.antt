-- The code of statements and functions leads from a place to its end.
use Rattle.std.proofs.Common.{◌≡◌, ℕ, suc, Bool, true, false, true≢false, not, List, [], ◌∷◌, Option, Some, None, ap, ◌∙◌, sym, refl, subst}
use Rattle.std.specs.Prelude.{if◌then◌else◌}
use Rattle.fk_syntax.specs.declared.place.Spot.{Spot}
use Rattle.fk_syntax.specs.Tree.{Tree}
use Rattle.fk_syntax.specs.Program as p
use Rattle.fk_syntax.specs.Program.{DeclaredTree, Statement, Statements}
use Rattle.fk_meaning_operation.specs.declared.operation.Operation.{Operation}
use Rattle.fk_meaning_operation.specs.declared.operation.Operation.TheVariants as o
use Rattle.fk_meaning_operation.specs.declared.operation.OwnValue.TheVariants as own
use Rattle.fk_meaning_operation.specs.declared.operation.SplitKind.{SplitKind}
use Rattle.fk_meaning_operation.specs.declared.operation.SplitKind.TheVariants.{IfAlone, IfElse, Fork}
use Rattle.fk_meaning_operation.specs.declared.operation.SplitKind.TheVariants as sk
use Rattle.fk_meaning_forms.specs.Code as c
use Rattle.fk_meaning_forms.specs.Code.{done, choose, while, until, quit, ends}
use Rattle.fk_meaning_forms.specs.Tables.{Tables, note, frame_at}
use Rattle.fk_meaning_forms.specs.Expressions.{Coded, ResultLocation, nowhere, plain, agreed, token, Signature, addressed, assigned, dropped, framed, variable, value}
use Rattle.fk_meaning_forms.specs.Statements.{Inside, is_scalar, used, used_or, value_or, declared, all_declared, part_frame, leaving, tested, looping, left_by, executed, all_executed, end_of, body_of}
use Rattle.fk_meaning.specs.Behind.{is_shrink}
use Rattle.fk_meaning.specs.Shape.{none, of_test, of_turn, Either, Shape}
use Rattle.fk_meaning.proofs.Spine.{untrue}
use Rattle.fk_lockstep_tree.specs.Where.{Where, InRoot, Waits, InGroup, InBody, BehindBody, goes}
use Rattle.fk_lockstep_structure.specs.Placed as w
use Rattle.fk_lockstep_structure.specs.Placed.{Who, OfGroup, is_group, is_outermost, inner}
use Rattle.fk_lockstep_structure.specs.InPlace.{Splits, Calls, InPlace, OptionInPlace, VariablesInPlace, NoneShared, StatementInPlace, StatementsInPlace}
use Rattle.fk_lockstep_tree.specs.Leads.{Comes, Loop, turning, Quits, Leads}
use Rattle.fk_compile.proofs.Wants as wants
use Rattle.fk_compile.proofs.Wants.{Base, Main, Root, Group, Body, place_of, in_group, who_of, inner_is, group_is, group_of, keeps_at, IsLeft, LeftAt, Want, arm, within, end_of_part}
use Rattle.fk_compile.proofs.Tests as by_test

-- ---- what is wanted of the parts of a loop, and of what `start` begins, and `farm` and `seq`

abbrev pub loop_of : Want → (left : Where) → Option Loop
loop_of x left = Some (turning (place_of x.base) left)

abbrev test_of : (x : Want) (shrinking : Bool) (left : Where) → IsLeft shrinking x.base left → Want
test_of x b left leaves = record {
  base = x.base;
  outermost = false;
  function = x.function;
  loop = loop_of x left;
  exits = of_test b;
  part = false;
  breaks = λ e. untrue e;
  continues = λ e. untrue e;
  tests = λ e. (left, refl, leaves);
  returns = λ e. untrue e;
  parted = λ e. untrue e;
}

turn_breaks : (b : Bool) (base : Base) (left : Where) → IsLeft b base left → not b ≡ true → LeftAt (place_of base) (Some (turning (place_of base) left))
turn_breaks true base left leaves e = untrue e
turn_breaks false base left leaves e = (place_of base, ap (λ (at : Where). Some (turning (place_of base) at)) leaves)

turn_returns : (x : Want) (b : Bool) → (if b then false else x.exits.returns) ≡ true → place_of x.base ≡ x.function
turn_returns x true e = untrue e
turn_returns x false e = x.returns e

abbrev turn_of : (x : Want) (shrinking : Bool) (left : Where) → IsLeft shrinking x.base left → Want
turn_of x b left leaves = record {
  base = x.base;
  outermost = false;
  function = x.function;
  loop = loop_of x left;
  exits = of_turn b x.exits;
  part = false;
  breaks = turn_breaks b x.base left leaves;
  continues = λ e. (left, refl);
  tests = λ e. untrue e;
  returns = turn_returns x b;
  parted = λ e. untrue e;
}

abbrev step_of : (x : Want) (left : Where) → Want
step_of x left = record {
  base = x.base;
  outermost = false;
  function = x.function;
  loop = loop_of x left;
  exits = none;
  part = false;
  breaks = λ e. untrue e;
  continues = λ e. untrue e;
  tests = λ e. untrue e;
  returns = λ e. untrue e;
  parted = λ e. untrue e;
}

abbrev start_of : Want → Want
start_of x = record {
  base = Group 0;
  outermost = false;
  function = x.function;
  loop = x.loop;
  exits = none;
  part = true;
  breaks = λ e. untrue e;
  continues = λ e. untrue e;
  tests = λ e. untrue e;
  returns = λ e. untrue e;
  parted = λ e. (0, refl);
}

abbrev body_of_group : Want → (depth : ℕ) → Want
body_of_group x depth = record {
  base = Body depth;
  outermost = false;
  function = x.function;
  loop = x.loop;
  exits = none;
  part = false;
  breaks = λ e. untrue e;
  continues = λ e. untrue e;
  tests = λ e. untrue e;
  returns = λ e. untrue e;
  parted = λ e. untrue e;
}

-- ---- who may do what

begins_in : (b : Base) (outermost : Bool) → is_outermost (who_of b outermost) ≡ true → place_of b ≡ InRoot
begins_in Main outermost e = refl
begins_in Root outermost e = untrue e
begins_in (Group n) outermost e = untrue e
begins_in (Body n) outermost e = untrue e

halts_in : (b : Base) (outermost : Bool) → w.is_main (who_of b outermost) ≡ true → Comes (place_of b) o.Halt (place_of b)
halts_in Main outermost e = λ way. refl
halts_in Root outermost e = untrue e
halts_in (Group n) outermost e = untrue e
halts_in (Body n) outermost e = untrue e

meets_in : (b : Base) → in_group b ≡ false → Comes (place_of b) (o.Meet false) (place_of b)
meets_in Main e = λ way. refl
meets_in Root e = λ way. refl
meets_in (Group n) e = absurd (true≢false e)
meets_in (Body n) e = λ way. refl

-- a loop that all leave together goes on where it turned. The members of a part leave it one by one
branches_out : (b : Base) (left : Where) (shrinking : Bool) → false ≡ shrinking → IsLeft shrinking b left → Quits (place_of b) left (o.Branch true)
branches_out b left true e leaves = absurd (true≢false (sym e))
branches_out b left false e leaves = (
  keeps_at b (o.Branch true) refl true,
  subst (λ (at : Where). goes (place_of b) (o.Branch true) false ≡ Some at) (sym leaves) (keeps_at b (o.Branch true) refl false),
)

shrinks_out : (b : Base) (left : Where) (shrinking : Bool) → true ≡ shrinking → IsLeft shrinking b left → Quits (place_of b) left o.Shrink
shrinks_out b left true e leaves =
    subst (λ (base : Base). Quits (place_of base) left o.Shrink) (sym leaves.1)
    (refl, subst (λ (at : Where). goes (InGroup (suc leaves.0)) o.Shrink false ≡ Some at) (sym leaves.2) refl)
shrinks_out b left false e leaves = absurd (true≢false e)

-- a function with a frame began in a group, which gives the frame back
abbrev pub MayLeave : (main framed : Bool) → (function : Where) → Type 0
MayLeave main framed function = main ≡ false → framed ≡ true → (depth : ℕ) × (function ≡ InGroup depth)

leaves_frame : (b : Base) (gives : Bool) (n : ℕ) → place_of b ≡ InGroup n → Comes (place_of b) (o.Leave gives true) (place_of b)
leaves_frame b gives n e = subst (λ (at : Where). Comes at (o.Leave gives true) at) (sym e) (λ way. refl)

module _ (tables : Tables) (functions : (binding : ℕ) → Signature) (may_call : (in_group : Bool) → (function : ℕ) → Bool)
    (unshared : (binding : ℕ) → may_call false binding ≡ true → NoneShared (functions binding).parameters)
    (frameless : (binding : ℕ) → may_call false binding ≡ true → frame_at tables (functions binding).at 0 ≡ None) where
  abbrev pub Fine : Want → Coded → Type 0
  Fine x code = wants.Fine tables functions may_call unshared frameless x code

  abbrev pub Keeps : Want → (Coded → Coded) → Type 0
  Keeps x f = (rest : Coded) → Fine x rest → Fine x (f rest)

  abbrev Tells : Want → Tree → Type 0
  Tells x e = InPlace tables may_call (in_group x.base) e

  abbrev TellsIf : Want → Option Tree → Type 0
  TellsIf x e = OptionInPlace tables may_call (in_group x.base) e

  gives : (x : Want) (e : Tree) → Tells x e → Keeps x (value tables functions e)
  gives x e h rest q = wants.value_leads tables functions may_call unshared frameless x e h rest q

  drops : (x : Want) (at : ℕ) → Keeps x (dropped tables functions at)
  drops x at rest q = wants.drops tables functions may_call unshared frameless x at rest q

  performed : (x : Want) (op : Operation) → (wants.keeps op ≡ true) → (rest : Coded) → Fine x rest → (Shape x.part false x.exits (plain op rest) → Shape x.part false x.exits rest) → Fine x (plain op rest)
  performed x op e rest q less = λ shape. (place_of x.base, keeps_at x.base op e, q (less shape))

  pushes : (x : Want) (n' : ℕ) → Keeps x (plain (o.Push n'))
  pushes x n' rest q = performed x (o.Push n') refl rest q (λ shape. shape.2)

  uses : (x : Want) (e : Tree) → Tells x e → Keeps x (used tables functions e)
  uses x e h rest q = gives x e h (dropped tables functions (token e) rest) (drops x (token e) rest q)

  uses_or : (x : Want) (e : Option Tree) → TellsIf x e → Keeps x (used_or tables functions e)
  uses_or x None h rest q = q
  uses_or x (Some e) h rest q = uses x e h rest q

  gives_or : (x : Want) (absent : Coded → Coded) → Keeps x absent → (e : Option Tree) → TellsIf x e → Keeps x (value_or tables functions absent e)
  gives_or x absent keeps None h rest q = keeps rest q
  gives_or x absent keeps (Some e) h rest q = gives x e h rest q

  either : (x : Want) (b : Bool) (a d : Coded) → Fine x a → Fine x d → Fine x (if b then a else d)
  either x true a d p' q = p'
  either x false a d p' q = q

  declares_one : (x : Want) (d : DeclaredTree) → Calls tables may_call (in_group x.base) d.name → TellsIf x d.first → Keeps x (declared tables functions d)
  declares_one x d calls h rest q =
      let k : ResultLocation → Coded = λ s. addressed tables functions s (value_or tables functions (plain (o.Push 0)) d.first (assigned tables functions s (plain o.DropLast rest))) in
      either x (is_scalar d) (variable tables functions d.name k) rest
      (wants.names tables functions may_call unshared frameless x d.name calls k
      (λ s fits.
      let new = assigned tables functions s (plain o.DropLast rest) in
      wants.addresses tables functions may_call unshared frameless x s (value_or tables functions (plain (o.Push 0)) d.first new)
      (gives_or x (plain (o.Push 0)) (pushes x 0) d.first h new
      (wants.assigns tables functions may_call unshared frameless x s (plain o.DropLast rest) (performed x o.DropLast refl rest q (λ shape. shape.2))))))
      q

  declares : (x : Want) (ds : List DeclaredTree) → VariablesInPlace tables may_call (in_group x.base) ds → Keeps x (all_declared tables functions ds)
  declares x [] h rest q = q
  declares x (d ∷ ds) h rest q = declares_one x d h.0 h.1 (all_declared tables functions ds rest) (declares x ds h.2 rest q)

  -- a group splits at a token, or doesn't
  splits_or : (b : Bool) (x : Want) (parted other : Coded) → (b ≡ true → Fine x parted) → (b ≡ false → Fine x other) → Fine x (if b then parted else other)
  splits_or true x parted other p' q = p' refl
  splits_or false x parted other p' q = q refl

  divides : (x : Want) (n' : ℕ) → x.base ≡ Group n' → (spot : Spot) (by : SplitKind) (a b rest : Coded) → Fine (within x n' true) a → Fine (within x n' true) b → Fine x rest
      → Fine x (choose spot.place (o.Split by) a b (plain o.Resume rest))
  divides x n' group spot by a b rest p' q r = wants.divides tables functions may_call unshared frameless x n' group spot.place by a b rest p' q r

  -- no code ends a part
  empty : (x : Want) → x.part ≡ true → Fine x done
  empty x is = λ shape. absurd (true≢false (sym is ∙ shape.1))

  -- tests of loops
  quits : (x : Want) (op : Operation)
      → ((left : Where) (shrinking : Bool) → is_shrink op ≡ shrinking → IsLeft shrinking x.base left → Quits (place_of x.base) left op) → Fine x (quit nowhere op done)
  quits x op out = λ shape.
      let loop = x.tests shape.3 in
      (loop.0, loop.1, out loop.0 x.exits.shrinking shape.4 loop.2, wants.ends_here tables functions may_call unshared frameless x shape.2)

  tests : (x : Want) (spot : Spot) (condition : Option Tree) → Splits tables may_call (in_group x.base) spot.at → TellsIf x condition → Fine x (tested tables functions spot condition)
  tests x spot condition splits h =
      let here = note tables spot.at in
      gives_or x (plain (o.Push 1)) (pushes x 1) condition h (leaving tables functions here)
      (splits_or here.splits x (quit nowhere o.Shrink done) (agreed here.sync (quit nowhere (o.Branch true) done))
      (λ is. quits x o.Shrink (shrinks_out x.base))
      (λ is. wants.agrees_or tables functions may_call unshared frameless x here.sync (wants.agreed_there tables functions may_call unshared frameless x spot.at splits)
      (quit nowhere (o.Branch true) done) (quits x (o.Branch true) (branches_out x.base))))

  ends_by : (x : Want) (spot : Spot) (condition : Option Tree) → TellsIf x condition → (b : Bool) → (note tables spot.at).splits ≡ b → by_test.EndsBy b (tested tables functions spot condition)
  ends_by x spot condition h b e = by_test.tests_end tables functions may_call (in_group x.base) spot condition h b e

  -- what stands behind a loop
  abbrev Onward : Want → (shrinking : Bool) → (left : Where) → Coded → Type 0
  Onward x b left rest = Either b ((x.part ≡ true) × (x.exits.tests ≡ false) × (rest ≡ done)) (Shape x.part false x.exits rest)
      → Leads may_call x.function x.loop left rest (end_of_part x.base x.part)

  whiles : (x : Want) (b : Bool) (left : Where) (leaves : IsLeft b x.base left) (test body step rest : Coded) → by_test.EndsBy b test → Fine (test_of x b left leaves) test
      → Fine (turn_of x b left leaves) body → Fine (step_of x left) step → Onward x b left rest → Fine x (c.while test body step rest)
  whiles x b left leaves test body step rest ended t u v q = λ shape.
      let same = ended shape.1 shape.2 in (
        left,
        t (subst (λ s. Shape false false (of_test s) test) same shape.2),
        u (subst (λ s. Shape false false (of_turn s x.exits) body) same shape.3),
        v shape.4,
        q (subst (λ s. Either s ((x.part ≡ true) × (x.exits.tests ≡ false) × (rest ≡ done)) (Shape x.part false x.exits rest)) same shape.5),
      )

  untils : (x : Want) (b : Bool) (left : Where) (leaves : IsLeft b x.base left) (body test rest : Coded) → by_test.EndsBy b test → Fine (turn_of x b left leaves) body
      → Fine (test_of x b left leaves) test → Onward x b left rest → Fine x (c.until body test rest)
  untils x b left leaves body test rest ended u t q = λ shape.
      let same = ended shape.1 shape.2 in (
        left,
        u (subst (λ s. Shape false false (of_turn s x.exits) body) same shape.3),
        t (subst (λ s. Shape false false (of_test s) test) same shape.2),
        q (subst (λ s. Either s ((x.part ≡ true) × (x.exits.tests ≡ false) × (rest ≡ done)) (Shape x.part false x.exits rest)) same shape.4),
      )

  -- all go on where they turned; the part of a private loop ends with it
  goes_on : (x : Want) (rest : Coded) → Fine x rest → Onward x false (place_of x.base) rest
  goes_on x rest q = λ shape. q shape

  -- groups and bodies
  frames_in : (x : Want) → in_group x.base ≡ true → (spot : Spot) (part : ℕ) → Keeps x (part_frame tables functions spot part)
  frames_in x g spot part rest q = wants.frames tables functions may_call unshared frameless x g (frame_at tables spot.at part) spot.place rest q

  loops : (x : Want) (spot : Spot) (loop : Coded → Coded) → Splits tables may_call (in_group x.base) spot.at
      → ((note tables spot.at).splits ≡ true → (depth : ℕ) → x.base ≡ Group depth → Fine (within x depth true) (loop done))
      → ((note tables spot.at).splits ≡ false → Keeps x loop) → Keeps x (looping tables functions spot loop)
  loops x spot loop splits parted keeps rest q =
      splits_or (note tables spot.at).splits x (choose spot.place (o.Split sk.Loop) (part_frame tables functions spot 0 (loop done)) done (plain o.Resume rest)) (loop rest)
      (λ is.
      let group = group_of x.base (splits.0 is) in
      divides x group.0 group.1 spot sk.Loop (part_frame tables functions spot 0 (loop done)) done rest
      (frames_in (within x group.0 true) refl spot 0 (loop done) (parted is group.0 group.1))
      (empty (within x group.0 true) refl) q)
      (λ is. keeps is rest q)

  -- ends of functions
  halts : (x : Want) (main framed : Bool) → w.is_main (who_of x.base x.outermost) ≡ main → MayLeave main framed x.function → Keeps x (ends nowhere (if main then o.Halt else o.Leave false framed))
  halts x true framed e k rest q = λ shape. (halts_in x.base x.outermost e, x.returns shape.2, q shape.3)
  halts x false true e k rest q = λ shape.
      let group = k refl refl in (leaves_frame x.base false group.0 (x.returns shape.2 ∙ group.1), x.returns shape.2, q shape.3)
  halts x false false e k rest q = λ shape. (keeps_at x.base (o.Leave false false) refl, x.returns shape.2, q shape.3)

  gives_end : (x : Want) (main framed : Bool) → w.is_main (who_of x.base x.outermost) ≡ main → MayLeave main framed x.function → (rest : Coded) → Fine x rest
      → Fine x (if main then plain o.DropLast (ends nowhere o.Halt rest) else ends nowhere (o.Leave true framed) rest)
  gives_end x true framed e k rest q = performed x o.DropLast refl (ends nowhere o.Halt rest) (halts x true framed e k rest q) (λ shape. shape.2)
  gives_end x false true e k rest q = λ shape.
      let group = k refl refl in (leaves_frame x.base true group.0 (x.returns shape.2 ∙ group.1), x.returns shape.2, q shape.3)
  gives_end x false false e k rest q = λ shape. (keeps_at x.base (o.Leave true false) refl, x.returns shape.2, q shape.3)

  returns : (x : Want) (inside : Inside) → w.is_main (who_of x.base x.outermost) ≡ inside.main → MayLeave inside.main inside.framed x.function
      → (e : Option Tree) → TellsIf x e → Keeps x (left_by tables functions inside e)
  returns x inside is k None h rest q = halts x inside.main inside.framed is k rest q
  returns x inside is k (Some e) h rest q =
      gives x e h (if inside.main then plain o.DropLast (ends nowhere o.Halt rest) else ends nowhere (o.Leave true inside.framed) rest) (gives_end x inside.main inside.framed is k rest q)

  -- groups and bodies
  starts : (x : Want) → is_outermost (who_of x.base x.outermost) ≡ true → (body rest : Coded) → Fine (start_of x) body → Fine x rest
      → Fine x (choose nowhere o.Begin body done (plain o.Resume rest))
  starts x first body rest p' q =
      let root = begins_in x.base x.outermost first in
      let e = end_of_part x.base x.part in
      λ shape.
      let behind : Leads may_call x.function x.loop (Waits 0) (plain o.Resume rest) e
      = (InRoot, (λ way. refl), subst (λ (at : Where). Leads may_call x.function x.loop at rest e) root (q shape.6.2)) in (
        InGroup 0,
        Waits 0,
        Waits 0,
        Waits 0,
        subst (λ (at : Where). goes at o.Begin true ≡ Some (InGroup 0)) (sym root) refl,
        subst (λ (at : Where). goes at o.Begin false ≡ Some (Waits 0)) (sym root) refl,
        p' shape.2,
        refl,
        behind,
        behind,
      )

  -- `farm` and `seq`
  opens : (x : Want) (n' : ℕ) → x.base ≡ Group n' → (op : Operation) → goes (InGroup n') op true ≡ Some (InBody n') → goes (InGroup n') op false ≡ Some (BehindBody n') → (body rest : Coded)
      → (Shape x.part false x.exits (choose nowhere op body done (plain (o.Meet true) rest))
      → Leads may_call x.function x.loop (InBody n') body (InBody n') × Leads may_call x.function x.loop (place_of x.base) rest (end_of_part x.base x.part))
      → Fine x (choose nowhere op body done (plain (o.Meet true) rest))
  opens x n' group op on aside body rest parts =
      let e = end_of_part x.base x.part in
      λ shape.
      let both = parts shape in
      let more = subst (λ (b : Base). Leads may_call x.function x.loop (place_of b) rest e) group both.1 in (
        InBody n',
        BehindBody n',
        InBody n',
        BehindBody n',
        subst (λ (b : Base). goes (place_of b) op true ≡ Some (InBody n')) (sym group) on,
        subst (λ (b : Base). goes (place_of b) op false ≡ Some (BehindBody n')) (sym group) aside,
        both.0,
        refl,
        (InGroup n', (λ way. refl), more),
        (InGroup n', (λ way. refl), more),
      )

  farms : (x : Want) (n' : ℕ) → x.base ≡ Group n' → (body rest : Coded) → Fine (body_of_group x n') body → Fine x rest → Fine x (choose nowhere o.Farm body done (plain (o.Meet true) rest))
  farms x n' group body rest p' q = opens x n' group o.Farm refl refl body rest (λ shape. (p' shape.2, q shape.6.2))

  seqs : (x : Want) (n' : ℕ) → x.base ≡ Group n' → (body rest : Coded) → Fine (body_of_group x n') body → Fine x rest → Fine x (choose nowhere o.Seq body done (plain (o.Meet true) rest))
  seqs x n' group body rest p' q = opens x n' group o.Seq refl refl body rest (λ shape. (p' shape.2, q shape.6.2))

  barriers : (x : Want) → in_group x.base ≡ false → Keeps x (plain (o.Meet false))
  barriers x g rest q = λ shape. (place_of x.base, meets_in x.base g, q shape.2)

  -- statements
  abbrev There : (main : Bool) → Want → Statement → Type 0
  There main x s = StatementInPlace tables may_call main (who_of x.base x.outermost) s

  in_arm : (main : Bool) (x : Want) (s : Statement) → StatementInPlace tables may_call main (inner (who_of x.base x.outermost)) s → StatementInPlace tables may_call main (who_of x.base false) s
  in_arm main x s h = subst (λ (who : Who). StatementInPlace tables may_call main who s) (inner_is x.base x.outermost) h

  -- in a part that a group makes
  in_part : (main : Bool) (x : Want) (n' : ℕ) → x.base ≡ Group n' → (s : Statement) → StatementInPlace tables may_call main (inner (who_of x.base x.outermost)) s
      → StatementInPlace tables may_call main OfGroup s
  in_part main x n' group s h = subst (λ (b : Base). StatementInPlace tables may_call main (inner (who_of b x.outermost)) s) group h

  splits_within : (x : Want) (n' : ℕ) → x.base ≡ Group n' → (spot : Spot) → Splits tables may_call (in_group x.base) spot.at → Splits tables may_call true spot.at
  splits_within x n' group spot h = subst (λ (b : Base). Splits tables may_call (in_group b) spot.at) group h

  told_within : (x : Want) (n' : ℕ) → x.base ≡ Group n' → (e : Option Tree) → TellsIf x e → OptionInPlace tables may_call true e
  told_within x n' group e h = subst (λ (b : Base). OptionInPlace tables may_call (in_group b) e) group h

  told_there : (x : Want) (e : Tree) → InPlace tables may_call (is_group (who_of x.base x.outermost)) e → Tells x e
  told_there x e h = subst (λ b. InPlace tables may_call b e) (group_is x.base x.outermost) h

  told_if : (x : Want) (e : Option Tree) → OptionInPlace tables may_call (is_group (who_of x.base x.outermost)) e → TellsIf x e
  told_if x e h = subst (λ b. OptionInPlace tables may_call b e) (group_is x.base x.outermost) h

  splits_there : (x : Want) (spot : Spot) → Splits tables may_call (is_group (who_of x.base x.outermost)) spot.at → Splits tables may_call (in_group x.base) spot.at
  splits_there x spot h = subst (λ b. Splits tables may_call b spot.at) (group_is x.base x.outermost) h

  group_there : (x : Want) → is_group (who_of x.base x.outermost) ≡ true → in_group x.base ≡ true
  group_there x h = sym (group_is x.base x.outermost) ∙ h

  mutual
    statement : (x : Want) (inside : Inside) → MayLeave inside.main inside.framed x.function → (s : Statement) → There inside.main x s → Keeps x (executed tables functions inside s)
    statement x inside k p.Empty h rest q = q
    statement x inside k (p.Expression e) h rest q = uses x e (told_there x e h) rest q
    statement x inside k (p.Block statements) h rest q = all_statements x inside k statements h rest q
    statement x inside k (p.Declare variables) h rest q =
        declares x variables (subst (λ b. VariablesInPlace tables may_call b variables) (group_is x.base x.outermost) h) rest q
    statement x inside k (p.If spot condition first) h rest q =
        let here = note tables spot.at in
        let body = executed tables functions inside first in
        let parted = choose spot.place (o.Split IfAlone) (part_frame tables functions spot 0 (body (plain o.End done))) done (plain o.Resume rest) in
        let branched = choose nowhere (o.Branch true) (body done) done rest in
        gives x condition (told_there x condition h.1) (if here.splits then parted else agreed here.sync branched)
        (splits_or here.splits x parted (agreed here.sync branched)
        (λ is.
        let group = group_of x.base ((splits_there x spot h.0).0 is) in
        let y = within x group.0 true in
        divides x group.0 group.1 spot IfAlone (part_frame tables functions spot 0 (body (plain o.End done))) done rest
        (frames_in y refl spot 0 (body (plain o.End done))
        (statement y inside k first (in_part inside.main x group.0 group.1 first h.2) (plain o.End done) (wants.part_ended tables functions may_call unshared frameless y)))
        (empty y refl) q)
        (λ is.
        wants.agrees_or tables functions may_call unshared frameless x here.sync (wants.agreed_there tables functions may_call unshared frameless x spot.at (splits_there x spot h.0)) branched
        (wants.chooses tables functions may_call unshared frameless x nowhere true (body done) done rest
        (statement (arm x) inside k first (in_arm inside.main x first h.2) done (wants.ended tables functions may_call unshared frameless (arm x))) (wants.ended tables functions may_call unshared frameless (arm x)) q)))
    statement x inside k (p.IfElse spot condition first second) h rest q =
        let here = note tables spot.at in
        let a = executed tables functions inside first in
        let b = executed tables functions inside second in
        let parted = choose spot.place (o.Split IfElse) (part_frame tables functions spot 0 (a (plain o.End done))) (part_frame tables functions spot 1 (b (plain o.End done))) (plain o.Resume rest) in
        let branched = choose nowhere (o.Branch true) (a done) (b done) rest in
        gives x condition (told_there x condition h.1) (if here.splits then parted else agreed here.sync branched)
        (splits_or here.splits x parted (agreed here.sync branched)
        (λ is.
        let group = group_of x.base ((splits_there x spot h.0).0 is) in
        let y = within x group.0 true in
        divides x group.0 group.1 spot IfElse (part_frame tables functions spot 0 (a (plain o.End done))) (part_frame tables functions spot 1 (b (plain o.End done))) rest
        (frames_in y refl spot 0 (a (plain o.End done))
        (statement y inside k first (in_part inside.main x group.0 group.1 first h.2) (plain o.End done) (wants.part_ended tables functions may_call unshared frameless y)))
        (frames_in y refl spot 1 (b (plain o.End done))
        (statement y inside k second (in_part inside.main x group.0 group.1 second h.3) (plain o.End done) (wants.part_ended tables functions may_call unshared frameless y))) q)
        (λ is.
        wants.agrees_or tables functions may_call unshared frameless x here.sync (wants.agreed_there tables functions may_call unshared frameless x spot.at (splits_there x spot h.0)) branched
        (wants.chooses tables functions may_call unshared frameless x nowhere true (a done) (b done) rest
        (statement (arm x) inside k first (in_arm inside.main x first h.2) done (wants.ended tables functions may_call unshared frameless (arm x)))
        (statement (arm x) inside k second (in_arm inside.main x second h.3) done (wants.ended tables functions may_call unshared frameless (arm x))) q)))
    statement x inside k (p.While spot condition body) h rest q =
        let test = tested tables functions spot (Some condition) in
        let run = executed tables functions inside body done in
        let told = told_there x condition h.1 in
        let splits = splits_there x spot h.0 in
        loops x spot (c.while test run done) splits
        (λ is n' group.
        let y = within x n' true in
        let leaves : IsLeft true y.base (Waits (suc n')) = (n', refl, refl) in
        whiles y true (Waits (suc n')) leaves test run done done (ends_by x spot (Some condition) told true is)
        (tests (test_of y true (Waits (suc n')) leaves) spot (Some condition) (splits_within x n' group spot splits) (told_within x n' group (Some condition) told))
        (statement (turn_of y true (Waits (suc n')) leaves) inside k body (in_part inside.main x n' group body h.2) done
        (wants.ended tables functions may_call unshared frameless (turn_of y true (Waits (suc n')) leaves)))
        (wants.ended tables functions may_call unshared frameless (step_of y (Waits (suc n')))) (λ shape. refl))
        (λ is others more.
        let at = place_of x.base in
        whiles x false at refl test run done others (ends_by x spot (Some condition) told false is) (tests (test_of x false at refl) spot (Some condition) splits told)
        (statement (turn_of x false at refl) inside k body (in_arm inside.main x body h.2) done (wants.ended tables functions may_call unshared frameless (turn_of x false at refl)))
        (wants.ended tables functions may_call unshared frameless (step_of x at)) (goes_on x others more)) rest q
    statement x inside k (p.DoWhile spot body condition) h rest q =
        let test = tested tables functions spot (Some condition) in
        let run = executed tables functions inside body done in
        let told = told_there x condition h.1 in
        let splits = splits_there x spot h.0 in
        loops x spot (c.until run test) splits
        (λ is n' group.
        let y = within x n' true in
        let leaves : IsLeft true y.base (Waits (suc n')) = (n', refl, refl) in
        untils y true (Waits (suc n')) leaves run test done (ends_by x spot (Some condition) told true is)
        (statement (turn_of y true (Waits (suc n')) leaves) inside k body (in_part inside.main x n' group body h.2) done
        (wants.ended tables functions may_call unshared frameless (turn_of y true (Waits (suc n')) leaves)))
        (tests (test_of y true (Waits (suc n')) leaves) spot (Some condition) (splits_within x n' group spot splits) (told_within x n' group (Some condition) told))
        (λ shape. refl))
        (λ is others more.
        let at = place_of x.base in
        untils x false at refl run test others (ends_by x spot (Some condition) told false is)
        (statement (turn_of x false at refl) inside k body (in_arm inside.main x body h.2) done (wants.ended tables functions may_call unshared frameless (turn_of x false at refl)))
        (tests (test_of x false at refl) spot (Some condition) splits told) (goes_on x others more)) rest q
    statement x inside k (p.For spot before condition after body) h rest q =
        let test = tested tables functions spot condition in
        let run = executed tables functions inside body done in
        let step = used_or tables functions after done in
        let told = told_if x condition h.2 in
        let told_after = told_if x after h.3 in
        let splits = splits_there x spot h.0 in
        uses_or x before (told_if x before h.1) (looping tables functions spot (c.while test run step) rest)
        (loops x spot (c.while test run step) splits
        (λ is n' group.
        let y = within x n' true in
        let leaves : IsLeft true y.base (Waits (suc n')) = (n', refl, refl) in
        whiles y true (Waits (suc n')) leaves test run step done (ends_by x spot condition told true is)
        (tests (test_of y true (Waits (suc n')) leaves) spot condition (splits_within x n' group spot splits) (told_within x n' group condition told))
        (statement (turn_of y true (Waits (suc n')) leaves) inside k body (in_part inside.main x n' group body h.4) done
        (wants.ended tables functions may_call unshared frameless (turn_of y true (Waits (suc n')) leaves)))
        (uses_or (step_of y (Waits (suc n'))) after (told_within x n' group after told_after) done (wants.ended tables functions may_call unshared frameless (step_of y (Waits (suc n')))))
        (λ shape. refl))
        (λ is others more.
        let at = place_of x.base in
        whiles x false at refl test run step others (ends_by x spot condition told false is) (tests (test_of x false at refl) spot condition splits told)
        (statement (turn_of x false at refl) inside k body (in_arm inside.main x body h.4) done (wants.ended tables functions may_call unshared frameless (turn_of x false at refl)))
        (uses_or (step_of x at) after told_after done (wants.ended tables functions may_call unshared frameless (step_of x at))) (goes_on x others more)) rest q)
    statement x inside k (p.Start spot count body) h rest q =
        let run = part_frame tables functions spot 0 (executed tables functions inside body (plain o.End done)) in
        gives_or x (plain (o.Get own.Processors)) (λ rest' q'. performed x (o.Get own.Processors) refl rest' q' (λ shape. shape.2)) count (told_if x count h.1)
        (choose nowhere o.Begin run done (plain o.Resume rest))
        (starts x h.0 run rest
        (frames_in (start_of x) refl spot 0 (executed tables functions inside body (plain o.End done))
        (statement (start_of x) inside k body h.2 (plain o.End done) (wants.part_ended tables functions may_call unshared frameless (start_of x)))) q)
    statement x inside k (p.Fork spot parts part rank body) h rest q =
        let group = group_of x.base (group_there x h.0) in
        let y = within x group.0 true in
        let run = executed tables functions inside body (plain o.End done) in
        let divided = choose spot.place (o.Split Fork) (part_frame tables functions spot 0 run) done (plain o.Resume rest) in
        let ranked = value_or tables functions (plain (o.Get own.Rank)) rank divided in
        gives x parts (told_there x parts h.1) (plain o.Agree (value tables functions part ranked))
        (wants.agrees tables functions may_call unshared frameless x (group_there x h.0) (value tables functions part ranked)
        (gives x part (told_there x part h.2) ranked
        (gives_or x (plain (o.Get own.Rank)) (λ rest' q'. performed x (o.Get own.Rank) refl rest' q' (λ shape. shape.2)) rank (told_if x rank h.3) divided
        (divides x group.0 group.1 spot Fork (part_frame tables functions spot 0 run) done rest
        (frames_in y refl spot 0 run (statement y inside k body h.4 (plain o.End done) (wants.part_ended tables functions may_call unshared frameless y)))
        (empty y refl) q))))
    statement x inside k (p.Farm spot body) h rest q =
        let group = group_of x.base (group_there x h.0) in
        let y = body_of_group x group.0 in
        farms x group.0 group.1 (executed tables functions inside body done) rest
        (statement y inside k body h.1 done (wants.ended tables functions may_call unshared frameless y)) q
    statement x inside k (p.Seq spot body) h rest q =
        let group = group_of x.base (group_there x h.0) in
        let y = body_of_group x group.0 in
        seqs x group.0 group.1 (executed tables functions inside body done) rest
        (statement y inside k body h.1 done (wants.ended tables functions may_call unshared frameless y)) q
    statement x inside k (p.Barrier spot) h rest q = barriers x (sym (group_is x.base x.outermost) ∙ h) rest q
    statement x inside k (p.Break spot) h rest q = λ shape. (let loop = x.breaks shape.1 in (loop.0, loop.1, q shape.2))
    statement x inside k (p.Continue spot) h rest q = λ shape. (let loop = x.continues shape.1 in (loop.0, loop.1, q shape.2))
    statement x inside k (p.Return spot e) h rest q = returns x inside h.0 k e (told_if x e h.1) rest q

    all_statements : (x : Want) (inside : Inside) → MayLeave inside.main inside.framed x.function → (statements : Statements) → StatementsInPlace tables may_call inside.main (who_of x.base x.outermost) statements
        → Keeps x (all_executed tables functions inside statements)
    all_statements x inside k p.no_statements h rest q = q
    all_statements x inside k (p.statement first others) h rest q =
        statement x inside k first h.0 (all_executed tables functions inside others rest) (all_statements x inside k others h.1 rest q)

  end_leads : (x : Want) (inside : Inside) (void : Bool) → w.is_main (who_of x.base x.outermost) ≡ inside.main → MayLeave inside.main inside.framed x.function → Fine x (end_of tables functions inside void)
  end_leads x inside void is k = by inside.main void is k
    where
      by : (main void : Bool) → w.is_main (who_of x.base x.outermost) ≡ main → MayLeave main inside.framed x.function → Fine x (
          if main then ends nowhere o.Halt done
          else if void then ends nowhere (o.Leave false inside.framed) done
          else plain (o.Push 0) (ends nowhere (o.Leave true inside.framed) done))
      by true void' e k' = halts x true inside.framed e k' done (wants.ended tables functions may_call unshared frameless x)
      by false true e k' = halts x false inside.framed e k' done (wants.ended tables functions may_call unshared frameless x)
      by false false e k' =
          pushes x 0 (ends nowhere (o.Leave true inside.framed) done) (gives_end x false inside.framed e k' done (wants.ended tables functions may_call unshared frameless x))

  pub body_leads : (x : Want) (inside : Inside) (void : Bool) (statements : Statements) → w.is_main (who_of x.base x.outermost) ≡ inside.main
      → MayLeave inside.main inside.framed x.function
      → StatementsInPlace tables may_call inside.main (who_of x.base x.outermost) statements → Fine x (body_of tables functions inside void statements)
  body_leads x inside void statements is k h =
      all_statements x inside k statements h (end_of tables functions inside void) (end_leads x inside void is k)
