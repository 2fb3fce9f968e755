-- The operations of statements and functions.
use Rattle.std.specs.Prelude.{ℕ, ◌==◌, ◌&&◌, Bool, true, false, not, List, [], ◌∷◌, Option, Some}
use Rattle.std.specs.Prelude.{None, is_some, if◌then◌else◌}
use Rattle.fk_syntax.specs.declared.facts.Note.{Note}
use Rattle.fk_syntax.specs.declared.place.Spot.{Spot}
use Rattle.fk_syntax.specs.Tree as t
use Rattle.fk_syntax.specs.Tree.{TypeTree, Tree}
use Rattle.fk_syntax.specs.Program as p
use Rattle.fk_syntax.specs.Program.{DeclaredTree, Statement, Statements}
use Rattle.fk_meaning_operation.specs.declared.operation.Operation.TheVariants as o
use Rattle.fk_meaning_operation.specs.declared.operation.OwnValue.TheVariants as n
use Rattle.fk_meaning_operation.specs.declared.operation.SplitKind.TheVariants.{IfAlone, IfElse}
use Rattle.fk_meaning_operation.specs.declared.operation.SplitKind.TheVariants.{Loop, Fork}
use Rattle.fk_meaning_forms.specs.Code as c
use Rattle.fk_meaning_forms.specs.Code.{done, choose, quit, ends}
use Rattle.fk_meaning_forms.specs.Tables.{Tables, note, frame_at}
use Rattle.fk_meaning_forms.specs.Expressions.{Coded, nowhere, plain, agreed, token, Signature}
use Rattle.fk_meaning_forms.specs.Expressions.{addressed, assigned, dropped, variable, framed}
use Rattle.fk_meaning_forms.specs.Expressions.{value}

-- the running function: whether it is `main`, and whether it has a group frame of its own
pub record Inside : Type 0 where
  pub main : Bool
  pub framed : Bool

-- types by their words: a struct type, and `void`
abbrev pub is_struct : TypeTree → Bool
is_struct type = is_base type.base && (type.stars == 0)
  where
    is_base : t.BaseType → Bool
    is_base (t.Struct name) = true
    is_base base = false

abbrev pub is_nothing : TypeTree → Bool
is_nothing type = is_base type.base && (type.stars == 0)
  where
    is_base : t.BaseType → Bool
    is_base t.Void = true
    is_base base = false

abbrev pub is_scalar : DeclaredTree → Bool
is_scalar x = not (is_some x.length) && not (is_struct x.kind)

module _ (tables : Tables) (functions : (binding : ℕ) → Signature) where
  -- an expression used as a statement, and one that may be absent
  abbrev pub used : Tree → Coded → Coded
  used e rest = value tables functions e (dropped tables functions (token e) rest)

  abbrev pub used_or : Option Tree → Coded → Coded
  used_or None rest = rest
  used_or (Some e) rest = used e rest

  abbrev pub value_or : (absent : Coded → Coded) → Option Tree → Coded → Coded
  value_or absent None rest = absent rest
  value_or absent (Some e) rest = value tables functions e rest

  -- a declared scalar gets its initial value, or 0. Arrays and structs keep what their words hold
  abbrev pub declared : DeclaredTree → Coded → Coded
  declared x rest =
      if is_scalar x
      then variable tables functions x.name (λ location. addressed tables functions location
      (value_or (plain (o.Push 0)) x.first
      (assigned tables functions location (plain o.DropLast rest))))
      else rest

  abbrev pub all_declared : List DeclaredTree → Coded → Coded
  all_declared [] rest = rest
  all_declared (x ∷ xs) rest = declared x (all_declared xs rest)

  -- the group frame of a part
  abbrev pub part_frame : Spot → (part : ℕ) → Coded → Coded
  part_frame spot part rest = framed tables functions (frame_at tables spot.at part) spot.place rest

  -- loops: a condition, and the operation that leaves the loop by it. An absent condition is 1. A
  -- private loop runs in a part
  abbrev pub leaving : Note → Coded
  leaving here = if here.splits then quit nowhere o.Shrink done
      else agreed here.sync (quit nowhere (o.Branch true) done)

  abbrev pub tested : Spot → Option Tree → Coded
  tested spot condition = value_or (plain (o.Push 1)) condition (leaving (note tables spot.at))

  abbrev pub looping : Spot → (loop : Coded → Coded) → Coded → Coded
  looping spot loop rest =
      if (note tables spot.at).splits
      then choose spot.place (o.Split Loop)
      (part_frame spot 0 (loop done)) done (plain o.Resume rest)
      else loop rest

  -- the end of a call by `return`, which ends `main` too
  abbrev pub left_by : Inside → Option Tree → Coded → Coded
  left_by inside None rest =
      ends nowhere (if inside.main then o.Halt else o.Leave false inside.framed) rest
  left_by inside (Some e) rest = value tables functions e
      (if inside.main then plain o.DropLast (ends nowhere o.Halt rest)
      else ends nowhere (o.Leave true inside.framed) rest)

  -- statements
  abbrev mutual
    pub executed : Inside → Statement → Coded → Coded
    executed inside p.Empty rest = rest
    executed inside (p.Expression e) rest = used e rest
    executed inside (p.Block statements) rest = all_executed inside statements rest
    executed inside (p.Declare variables) rest = all_declared variables rest
    executed inside (p.If spot condition first) rest =
        let here = note tables spot.at in
        value tables functions condition (if here.splits
        then choose spot.place (o.Split IfAlone)
        (part_frame spot 0 (executed inside first (plain o.End done)))
        done
        (plain o.Resume rest)
        else agreed here.sync
        (choose nowhere (o.Branch true) (executed inside first done) done rest))
    executed inside (p.IfElse spot condition first second) rest =
        let here = note tables spot.at in
        value tables functions condition (if here.splits
        then choose spot.place (o.Split IfElse)
        (part_frame spot 0 (executed inside first (plain o.End done)))
        (part_frame spot 1 (executed inside second (plain o.End done)))
        (plain o.Resume rest)
        else agreed here.sync (choose nowhere (o.Branch true) (executed inside first done)
        (executed inside second done) rest))
    executed inside (p.While spot condition body) rest =
        looping spot (c.while (tested spot (Some condition)) (executed inside body done) done) rest
    executed inside (p.DoWhile spot body condition) rest =
        looping spot (c.until (executed inside body done) (tested spot (Some condition))) rest
    executed inside (p.For spot before condition after body) rest =
        used_or before
        (looping spot
        (c.while (tested spot condition) (executed inside body done) (used_or after done)) rest)
    executed inside (p.Start spot count body) rest =
        value_or (plain (o.Get n.Processors)) count
        (choose nowhere o.Begin (part_frame spot 0 (executed inside body (plain o.End done))) done
        (plain o.Resume rest))
    executed inside (p.Fork spot parts part rank body) rest =
        value tables functions parts
        (plain o.Agree (value tables functions part (value_or (plain (o.Get n.Rank)) rank
        (choose spot.place (o.Split Fork)
        (part_frame spot 0 (executed inside body (plain o.End done))) done (plain o.Resume rest)))))
    executed inside (p.Farm spot body) rest =
        choose nowhere o.Farm (executed inside body done) done (plain (o.Meet true) rest)
    executed inside (p.Seq spot body) rest =
        choose nowhere o.Seq (executed inside body done) done (plain (o.Meet true) rest)
    executed inside (p.Barrier spot) rest = plain (o.Meet false) rest
    executed inside (p.Break spot) rest = c.break rest
    executed inside (p.Continue spot) rest = c.continue rest
    executed inside (p.Return spot e) rest = left_by inside e rest

    pub all_executed : Inside → Statements → Coded → Coded
    all_executed inside p.no_statements rest = rest
    all_executed inside (p.statement first others) rest =
        executed inside first (all_executed inside others rest)

  -- a function: its statements, and its end. A function with a result returns 0 there
  abbrev pub end_of : Inside → (void : Bool) → Coded
  end_of inside void =
      if inside.main then ends nowhere o.Halt done
      else if void then ends nowhere (o.Leave false inside.framed) done
      else plain (o.Push 0) (ends nowhere (o.Leave true inside.framed) done)

  abbrev pub body_of : Inside → (void : Bool) → Statements → Coded
  body_of inside void statements = all_executed inside statements (end_of inside void)
