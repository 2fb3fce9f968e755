-- The operations of statements have numbers, and take only numbers that have room in a word.
use Rattle.std.proofs.Common.{ℕ, ◌^◌, ◌<◌, Bool, false, List, [], ◌∷◌, Option, Some, None, length, refl}
use Rattle.fk_syntax.specs.declared.facts.Note.{Note}
use Rattle.fk_syntax.specs.declared.place.Spot.{Spot}
use Rattle.fk_syntax.specs.Tree.{Tree}
use Rattle.fk_syntax.specs.Program as p
use Rattle.fk_syntax.specs.Program.{DeclaredTree, Statement, Statements}
use Rattle.fk_meaning_operation.specs.declared.operation.Operation.{Operation}
use Rattle.fk_meaning_operation.specs.declared.operation.Operation.TheVariants as o
use Rattle.fk_meaning_operation.specs.declared.operation.OwnValue.TheVariants as n
use Rattle.fk_meaning_forms.specs.Code as c
use Rattle.fk_meaning_forms.specs.Code.{done}
use Rattle.fk_meaning_forms.specs.Tables.{Tables, note}
use Rattle.fk_meaning_forms.specs.Expressions as x
use Rattle.fk_meaning_forms.specs.Expressions.{Coded, ResultLocation, Signature, token}
use Rattle.fk_meaning_forms.specs.Statements as s
use Rattle.fk_meaning_forms.specs.Statements.{Inside}
use Rattle.fk_parse_laws.specs.Every.{TreeHas, OptionHas, VariablesHave, StatementHas, StatementsHave}
use Rattle.fk_parse_laws.specs.Words.{word_numbers}
use Rattle.fk_lower_names.specs.WordRoom.{HasRoom, near_members}
use Rattle.fk_lower_names.proofs.Fine.{IsFit, AllFit}
use Rattle.fk_lower_names.proofs.InExpressions as e
use Rattle.fk_lower_names.proofs.InExpressions.{either, either_fit, agreed_fit}

module _ (tables : Tables) (functions : (binding : ℕ) → Signature) (room : HasRoom tables) (few : (binding : ℕ) → length (functions binding).parameters < 2 ^ 26) where
  value_fit : (y : Tree) → TreeHas word_numbers y → TreeHas (near_members tables) y → (rest : Coded) → AllFit rest → AllFit (x.value tables functions y rest)
  value_fit y i j rest r = e.value_fit tables functions room few y i j rest r

  -- ---- expressions in statements

  used_fit : (y : Tree) → TreeHas word_numbers y → TreeHas (near_members tables) y → (rest : Coded) → AllFit rest → AllFit (s.used tables functions y rest)
  used_fit y i j rest r = value_fit y i j _ (e.dropped_fit tables functions room few (token y) rest r)

  used_or_fit : (y : Option Tree) → OptionHas word_numbers y → OptionHas (near_members tables) y → (rest : Coded) → AllFit rest → AllFit (s.used_or tables functions y rest)
  used_or_fit None i j rest r = r
  used_or_fit (Some y) i j rest r = used_fit y i j rest r

  value_or_fit : (op : Operation) → IsFit op → (y : Option Tree) → OptionHas word_numbers y → OptionHas (near_members tables) y → (rest : Coded) → AllFit rest
      → AllFit (s.value_or tables functions (x.plain op) y rest)
  value_or_fit op h None i j rest r = (h, r)
  value_or_fit op h (Some y) i j rest r = value_fit y i j rest r

  -- ---- variables

  -- a variable that stands in a way gets its first value
  abbrev put : Coded → ResultLocation → Coded
  put rest location = x.assigned tables functions location (x.plain o.DropLast rest)

  abbrev given : Option Tree → Coded → ResultLocation → Coded
  given first rest location = s.value_or tables functions (x.plain (o.Push 0)) first (put rest location)

  declared_fit : (y : DeclaredTree) → OptionHas word_numbers y.first → OptionHas (near_members tables) y.first → (rest : Coded) → AllFit rest → AllFit (s.declared tables functions y rest)
  declared_fit y i j rest r =
      either_fit (s.is_scalar y) _ _
      (e.variable_keeps tables functions room few y.name (λ location. x.addressed tables functions location (given y.first rest location))
      (λ location good. e.addressed_fit tables functions room few location (given y.first rest location)
      (value_or_fit (o.Push 0) refl y.first i j (put rest location) (e.assigned_fit tables functions room few location good (x.plain o.DropLast rest) (refl, r)))))
      r

  all_declared_fit : (ys : List DeclaredTree) → VariablesHave word_numbers ys → VariablesHave (near_members tables) ys → (rest : Coded) → AllFit rest → AllFit (s.all_declared tables functions ys rest)
  all_declared_fit [] i j rest r = r
  all_declared_fit (y ∷ ys) i j rest r = declared_fit y i.1 j.1 _ (all_declared_fit ys i.2 j.2 rest r)

  -- ---- parts and loops

  part_fit : (spot : Spot) (part : ℕ) (rest : Coded) → AllFit rest → AllFit (s.part_frame tables functions spot part rest)
  part_fit spot part rest r = e.framed_fit tables functions room few spot.at part spot.place rest r

  tested_fit : (spot : Spot) (condition : Option Tree) → OptionHas word_numbers condition → OptionHas (near_members tables) condition → AllFit (s.tested tables functions spot condition)
  tested_fit spot condition i j = value_or_fit (o.Push 1) refl condition i j _ (leaving_fit (note tables spot.at))
    where
      leaving_fit : (here : Note) → AllFit (s.leaving tables functions here)
      leaving_fit here = either_fit here.splits _ _ (refl, tt) (agreed_fit here.sync _ (refl, tt))

  looping_fit : (spot : Spot) (loop : Coded → Coded) → ((rest : Coded) → AllFit rest → AllFit (loop rest)) → (rest : Coded) → AllFit rest
      → AllFit (s.looping tables functions spot loop rest)
  looping_fit spot loop h rest r =
      either_fit (note tables spot.at).splits _ _ (refl, part_fit spot 0 (loop done) (h done tt), tt, (refl, r)) (h rest r)

  -- ---- the end of a call

  left_fit : (inside : Inside) (y : Option Tree) → OptionHas word_numbers y → OptionHas (near_members tables) y → (rest : Coded) → AllFit rest → AllFit (s.left_by tables functions inside y rest)
  left_fit inside None i j rest r = (either IsFit inside.main o.Halt (o.Leave false inside.framed) refl refl, r)
  left_fit inside (Some y) i j rest r = value_fit y i j _ (either_fit inside.main _ _ (refl, (refl, r)) (refl, r))

  end_fit : (inside : Inside) (void : Bool) → AllFit (s.end_of tables functions inside void)
  end_fit inside void = either_fit inside.main _ _ (refl, tt) (either_fit void _ _ (refl, tt) (refl, (refl, tt)))

  -- ---- statements

  module _ (inside : Inside) where
    -- what a loop does in a turn, and a part to its end
    abbrev turn : Statement → Coded
    turn body = s.executed tables functions inside body done

    abbrev part_of : Statement → Coded
    part_of body = s.executed tables functions inside body (x.plain o.End done)

    mutual
      executed_fit : (st : Statement) → StatementHas word_numbers st → StatementHas (near_members tables) st → (rest : Coded) → AllFit rest → AllFit (s.executed tables functions inside st rest)
      executed_fit p.Empty i j rest r = r
      executed_fit (p.Expression y) i j rest r = used_fit y i j rest r
      executed_fit (p.Block statements) i j rest r = all_executed_fit statements i j rest r
      executed_fit (p.Declare variables) i j rest r = all_declared_fit variables i j rest r
      executed_fit (p.If spot condition first) i j rest r =
          value_fit condition i.0 j.0 _ (either_fit (note tables spot.at).splits _ _
          (refl, part_fit spot 0 (part_of first) (executed_fit first i.1 j.1 (x.plain o.End done) (refl, tt)), tt, (refl, r))
          (agreed_fit (note tables spot.at).sync _ (refl, executed_fit first i.1 j.1 done tt, tt, r)))
      executed_fit (p.IfElse spot condition first second) i j rest r =
          value_fit condition i.0 j.0 _ (either_fit (note tables spot.at).splits _ _
          (refl, part_fit spot 0 (part_of first) (executed_fit first i.1 j.1 (x.plain o.End done) (refl, tt)), part_fit spot 1 (part_of second) (executed_fit second i.2 j.2 (x.plain o.End done) (refl, tt)), (refl, r))
          (agreed_fit (note tables spot.at).sync _ (refl, executed_fit first i.1 j.1 done tt, executed_fit second i.2 j.2 done tt, r)))
      executed_fit (p.While spot condition body) i j rest r =
          looping_fit spot (c.while (s.tested tables functions spot (Some condition)) (turn body) done) (λ more m. (tested_fit spot (Some condition) i.0 j.0, executed_fit body i.1 j.1 done tt, tt, m)) rest r
      executed_fit (p.DoWhile spot body condition) i j rest r =
          looping_fit spot (c.until (turn body) (s.tested tables functions spot (Some condition))) (λ more m. (executed_fit body i.0 j.0 done tt, tested_fit spot (Some condition) i.1 j.1, m)) rest r
      executed_fit (p.For spot before condition after body) i j rest r =
          used_or_fit before i.0 j.0 _
          (looping_fit spot (c.while (s.tested tables functions spot condition) (turn body) (s.used_or tables functions after done))
          (λ more m. (tested_fit spot condition i.1 j.1, executed_fit body i.3 j.3 done tt, used_or_fit after i.2 j.2 done tt, m)) rest r)
      executed_fit (p.Start spot count body) i j rest r =
          value_or_fit (o.Get n.Processors) tt count i.0 j.0 _ (refl, part_fit spot 0 (part_of body) (executed_fit body i.1 j.1 (x.plain o.End done) (refl, tt)), tt, (refl, r))
      executed_fit (p.Fork spot parts part rank body) i j rest r =
          value_fit parts i.0 j.0 _ (
            refl,
            value_fit part i.1 j.1 _ (value_or_fit (o.Get n.Rank) tt rank i.2 j.2 _
                (refl, part_fit spot 0 (part_of body) (executed_fit body i.3 j.3 (x.plain o.End done) (refl, tt)), tt, (refl, r))),
          )
      executed_fit (p.Farm spot body) i j rest r = (refl, executed_fit body i j done tt, tt, (refl, r))
      executed_fit (p.Seq spot body) i j rest r = (refl, executed_fit body i j done tt, tt, (refl, r))
      executed_fit (p.Barrier spot) i j rest r = (refl, r)
      executed_fit (p.Break spot) i j rest r = r
      executed_fit (p.Continue spot) i j rest r = r
      executed_fit (p.Return spot y) i j rest r = left_fit inside y i j rest r

      all_executed_fit : (st : Statements) → StatementsHave word_numbers st → StatementsHave (near_members tables) st → (rest : Coded) → AllFit rest → AllFit (s.all_executed tables functions inside st rest)
      all_executed_fit p.no_statements i j rest r = r
      all_executed_fit (p.statement first others) i j rest r = executed_fit first i.0 j.0 _ (all_executed_fit others i.1 j.1 rest r)

    pub body_fit : (void : Bool) (statements : Statements) → StatementsHave word_numbers statements → StatementsHave (near_members tables) statements
        → AllFit (s.body_of tables functions inside void statements)
    body_fit void statements i j = all_executed_fit statements i j _ (end_fit inside void)
