-- The operations of expressions.
use Rattle.std.specs.Prelude.{ℕ, suc, ◌+◌, ◌*◌, ◌==◌, ◌||◌, Bool, true, false, List, [], ◌∷◌}
use Rattle.std.specs.Prelude.{length, codes, bytes_eq, Option, Some, None, if◌then◌else◌}
use Rattle.fk_num.specs.declared.operator.Op.TheVariants as f
use Rattle.fk_syntax.specs.declared.place.Place.{Place}
use Rattle.fk_syntax.specs.declared.place.Spot.{Spot}
use Rattle.fk_syntax.specs.declared.sign.Sign.{Sign}
use Rattle.fk_syntax.specs.declared.sign.Sign.TheVariants as g
use Rattle.fk_syntax.specs.Tree as t
use Rattle.fk_syntax.specs.Tree.{Named, Tree, Links, Trees, Suffixes}
use Rattle.fk_syntax.specs.Program.{DeclaredTree}
use Rattle.fk_meaning_operation.specs.declared.operation.Operation.{Operation}
use Rattle.fk_meaning_operation.specs.declared.operation.Operation.TheVariants as o
use Rattle.fk_meaning_operation.specs.declared.operation.Variable.{Variable}
use Rattle.fk_meaning_operation.specs.declared.operation.Variable.TheVariants as v
use Rattle.fk_meaning_operation.specs.declared.operation.OwnValue.TheVariants as n
use Rattle.fk_meaning_operation.specs.declared.operation.Unary.TheVariants as u
use Rattle.fk_meaning_operation.specs.declared.operation.Multiprefix.{Multiprefix}
use Rattle.fk_meaning_operation.specs.declared.operation.Multiprefix.TheVariants.{MpAdd, MpMax}
use Rattle.fk_meaning_operation.specs.declared.operation.Multiprefix.TheVariants.{MpAnd, MpOr}
use Rattle.fk_meaning_operation.specs.declared.operation.SplitKind.{SplitKind}
use Rattle.fk_meaning_operation.specs.declared.operation.SplitKind.TheVariants.{IfElse, AndThen}
use Rattle.fk_meaning_operation.specs.declared.operation.SplitKind.TheVariants.{OrElse}
use Rattle.fk_meaning_forms.specs.declared.tables.Home.{Home}
use Rattle.fk_meaning_forms.specs.declared.tables.Home.TheVariants as h
use Rattle.fk_meaning_forms.specs.declared.tables.Region.{Region}
use Rattle.fk_meaning_forms.specs.declared.signs.Move.{Move}
use Rattle.fk_meaning_forms.specs.declared.signs.Move.TheVariants.{Forth, Back, NoMove}
use Rattle.fk_meaning_forms.specs.Code.{Code, done, perform, choose, call}
use Rattle.fk_meaning_forms.specs.Tables.{Tables, no_binding, note, kind_at, is_array, is_void}
use Rattle.fk_meaning_forms.specs.Tables.{is_unsigned, slot, region, frame_at}
use Rattle.fk_meaning_forms.specs.Signs.{operator_of, is_shift, move_of}
use Rattle.fk_meaning_forms.specs.Texts.{text_of}

-- each operation has its place; operations that can't fault have none
abbrev pub Coded : Type 0
Coded = Code Place

abbrev pub nowhere : Place
nowhere = record { line = 0; column = 0 }

abbrev pub plain : Operation → (rest : Coded) → Coded
plain op rest = perform nowhere op rest

-- where the result of an expression is when its operations are done: it is a value; at an address
-- that isn't checked yet, which comes from a dereference or an index or not; in a private word; or
-- it is the name of a function
pub data ResultLocation : Type 0 where
  OnList : ResultLocation
  AtAddress : (deep : Bool) (spot : Spot) → ResultLocation
  InWord : (variable : Variable) → ResultLocation
  ToCall : (name : Named) → ResultLocation

-- the operations of an expression, given what follows for each location of its result
abbrev pub Evaluation : Type 0
Evaluation = (ResultLocation → Coded) → Coded

-- the token that identifies an expression: its sign, name or number. For a chain it is that of the
-- last link, and for suffixes that of the last one
abbrev pub last_link : (at : ℕ) → Links → ℕ
last_link at t.no_links = at
last_link at (t.link spot sign right others) = last_link spot.at others

abbrev pub last_suffix : (at : ℕ) → Suffixes → ℕ
last_suffix at t.no_suffixes = at
last_suffix at (t.index spot by others) = last_suffix spot.at others
last_suffix at (t.call spot arguments others) = last_suffix spot.at others
last_suffix at (t.dot spot member others) = last_suffix spot.at others
last_suffix at (t.arrow spot member others) = last_suffix spot.at others
last_suffix at (t.up spot others) = last_suffix spot.at others
last_suffix at (t.down spot others) = last_suffix spot.at others

abbrev pub token : Tree → ℕ
token (t.Number spot value unsigned) = spot.at
token (t.Puts spot text) = spot.at
token (t.Sizeof spot type) = spot.at
token (t.Variable name) = name.at
token (t.GroupNumber spot) = spot.at
token (t.GroupRank spot) = spot.at
token (t.Prefix spot sign operand) = spot.at
token (t.Cast spot type operand) = spot.at
token (t.Chain first links) = last_link (token first) links
token (t.Postfix whole suffixes) = last_suffix (token whole) suffixes
token (t.Assign spot sign target value) = spot.at
token (t.Choose spot condition first second) = spot.at

abbrev pub spot_of : Named → Spot
spot_of name = record { at = name.at; place = name.place }

abbrev pub is_name : Named → (bytes : List ℕ) → Bool
is_name name bytes = bytes_eq name.bytes bytes

-- a function as its calls see it: the token of its name, its parameters, and whether it has no
-- result
pub record Signature : Type 0 where
  pub at : ℕ
  pub parameters : List DeclaredTree
  pub void : Bool

-- `puts`: each byte is pushed and printed
abbrev pub put_bytes : (bytes : List ℕ) → Coded → Coded
put_bytes [] rest = rest
put_bytes (b ∷ bytes) rest = plain (o.Push b) (plain o.PrintByte (put_bytes bytes rest))

-- a binary operator, or the operations that move a pointer by steps
abbrev pub moved : Move → (step : ℕ) → Operation → Coded → Coded
moved Forth step op rest = plain (o.Index step) rest
moved Back step op rest = plain (o.Apply u.Negate) (plain (o.Index step) rest)
moved NoMove step op rest = plain op rest

abbrev pub agreed : (sync : Bool) → Coded → Coded
agreed sync rest = if sync then plain o.Agree rest else rest

module _ (tables : Tables) (functions : (binding : ℕ) → Signature) where
  -- an address is checked if it comes from a dereference or an index
  abbrev pub checked : (deep : Bool) → Spot → Coded → Coded
  checked deep spot rest = if deep then perform spot.place (o.Check false) rest else rest

  -- an expression as a value. An array is its address without a check
  abbrev pub valued : ResultLocation → Coded → Coded
  valued (AtAddress deep spot) rest = if is_array tables spot.at then rest
      else checked deep spot (plain o.Read rest)
  valued (InWord variable) rest = plain (o.Get (n.Value variable)) rest
  valued location rest = rest

  -- an expression as an address
  abbrev pub addressed : ResultLocation → Coded → Coded
  addressed (AtAddress deep spot) rest = checked deep spot rest
  addressed location rest = rest

  -- the target of a compound assignment: first its value is read, at last the new one is stored
  abbrev pub fetched : ResultLocation → Coded → Coded
  fetched (AtAddress deep spot) rest = checked deep spot (plain o.CopyLast (plain o.Read rest))
  fetched (InWord variable) rest = plain (o.Get (n.Value variable)) rest
  fetched location rest = rest

  abbrev pub assigned : ResultLocation → Coded → Coded
  assigned (AtAddress deep spot) rest = plain o.Write rest
  assigned (InWord variable) rest = plain (o.Set variable) rest
  assigned location rest = rest

  abbrev pub value_of : Evaluation → Coded → Coded
  value_of e rest = e (λ location. valued location rest)

  -- an unused value is dropped, if there is one
  abbrev pub dropped : (at : ℕ) → Coded → Coded
  dropped at rest = if is_void tables at then rest else plain o.DropLast rest

  -- names
  abbrev pub predeclared : Named → Evaluation
  predeclared name k =
      if is_name name (codes "__PROC_NR__") then plain (o.Get n.ProcessorNumber) (k OnList)
      else if is_name name (codes "__STARTED_PROCS__") then plain (o.Get n.Processors) (k OnList)
      else if is_name name (codes "__inputs") then plain (o.Get n.InputLength) (k OnList)
      else if is_name name (codes "__input") then plain (o.Get n.InputAddress)
      (k (AtAddress false (spot_of name)))
      else k (ToCall name)

  abbrev pub placed : Home → (index : ℕ) → Named → Evaluation
  placed h.Global i name k =
      plain (o.Push (0x10000000 + 4 * i)) (k (AtAddress false (spot_of name)))
  placed h.FilePrivate i name k = k (InWord (v.OfFile i))
  placed h.Private i name k = k (InWord (v.Private i))
  placed (h.Group r) i name k =
      plain (o.Get (n.FrameAddress (region tables r).level i)) (k (AtAddress false (spot_of name)))
  placed h.NoWord i name k = k (ToCall name)

  abbrev pub variable : Named → Evaluation
  variable name k =
      let b = (note tables name.at).binding in
      if b == no_binding then predeclared name k
      else placed (slot tables b).home (slot tables b).index name k

  -- `a op b`: an operator on two values, chosen by the types of their tokens
  abbrev pub operate : Sign → (left right : ℕ) → Coded → Coded
  operate sign left right rest =
      let unsigned = if is_shift sign then is_unsigned tables left
      else is_unsigned tables left || is_unsigned tables right in
      let step = (kind_at tables left).step in
      if step == 0 then plain (operator_of sign unsigned) rest
      else moved (move_of sign) step (operator_of sign unsigned) rest

  -- `v op= e`: the value of v, that of e, the operator, and the new value
  abbrev pub updated : Sign → Evaluation → (left right : ℕ) → (e : Coded → Coded) → Evaluation
  updated sign target left right e k =
      target
      (λ location. fetched location (e (operate sign left right (assigned location (k OnList)))))

  abbrev pub one : Coded → Coded
  one rest = plain (o.Push 1) rest

  -- signs in front
  abbrev pub prefixed : Spot → Sign → Evaluation → (at : ℕ) → Evaluation
  prefixed spot g.Minus e at k = value_of e (plain (o.Apply u.Negate) (k OnList))
  prefixed spot g.Tilde e at k = value_of e (plain (o.Apply u.Complement) (k OnList))
  prefixed spot g.Exclamation e at k = value_of e (plain (o.Apply u.Not) (k OnList))
  prefixed spot g.Star e at k = value_of e (k (AtAddress true spot))
  prefixed spot g.Ampersand e at k = e (λ location. addressed location (k OnList))
  prefixed spot g.Increment e at k = updated g.Plus e at spot.at one k
  prefixed spot g.Decrement e at k = updated g.Minus e at spot.at one k
  prefixed spot sign e at k = value_of e (k OnList)

  -- `&&` and `||` go on with their right side, whose value becomes 0 or 1, or with another value;
  -- `?:` takes one of two branches. In a synchronous region the group agrees before it branches, or
  -- it splits
  abbrev pub truth : Evaluation → Coded → Coded
  truth e rest = value_of e (plain (o.Push 0) (plain (o.Binary f.Ne false) rest))

  abbrev pub logical : Spot → SplitKind → (onward : Bool) → (other : ℕ) → Evaluation → Evaluation
      → Evaluation
  logical spot split onward other a b k =
      let here = note tables spot.at in
      value_of a (if here.splits
      then choose spot.place (o.Split split)
      (truth b (plain o.End done)) done (plain o.Resume (k OnList))
      else agreed here.sync
      (choose nowhere (o.Branch onward) (truth b done) (plain (o.Push other) done) (k OnList)))

  abbrev pub chosen : Spot → Evaluation → Evaluation → Evaluation → Evaluation
  chosen spot condition a b k =
      let here = note tables spot.at in
      value_of condition (if here.splits
      then choose spot.place (o.Split IfElse) (value_of a (plain o.End done))
      (value_of b (plain o.End done)) (plain o.Resume (k OnList))
      else agreed here.sync
      (choose nowhere (o.Branch true) (value_of a done) (value_of b done) (k OnList)))

  -- signs between two expressions
  abbrev pub joined : Spot → Sign → Evaluation → (left : ℕ) → Evaluation → (right : ℕ) → Evaluation
  joined spot g.Comma a left b right k = value_of a (dropped left (value_of b (k OnList)))
  joined spot g.AndAnd a left b right k = logical spot AndThen true 0 a b k
  joined spot g.OrOr a left b right k = logical spot OrElse false 1 a b k
  joined spot sign a left b right k = value_of a (value_of b (operate sign left right (k OnList)))

  abbrev pub assignment : Sign → Evaluation → (left : ℕ) → Evaluation → (right : ℕ) → Evaluation
  assignment g.Assign target left value right k =
      target (λ location. addressed location (value_of value (assigned location (k OnList))))
  assignment sign target left value right k = updated sign target left right (value_of value) k

  -- suffixes. The note of a member's name has the offset of the member in its struct in words
  abbrev pub member : (at : ℕ) → Coded → Coded
  member at rest = plain (o.Push (4 * (note tables at).binding)) (plain (o.Binary f.Add false) rest)

  abbrev pub is_deep : ResultLocation → Bool
  is_deep (AtAddress deep spot) = deep
  is_deep location = false

  abbrev pub indexed : Spot → Evaluation → Evaluation → Evaluation
  indexed spot e by k = value_of e
      (value_of by (plain (o.Index (4 * (kind_at tables spot.at).words)) (k (AtAddress true spot))))

  abbrev pub dotted : Spot → (at : ℕ) → Evaluation → Evaluation
  dotted spot at e k = e (λ location. member at (k (AtAddress (is_deep location) spot)))

  abbrev pub pointed : Spot → (at : ℕ) → Evaluation → Evaluation
  pointed spot at e k = value_of e (member at (k (AtAddress true spot)))

  -- `v++` and `v--`: the prefix form, which is then undone; for a pointer by the bytes of a step
  abbrev pub step_back : (at : ℕ) → ℕ
  step_back at = if (kind_at tables at).step == 0 then 1 else (kind_at tables at).step

  abbrev pub raised : Sign → (back : Sign) → Evaluation → (at : ℕ) → Evaluation
  raised sign back e at k =
      updated sign e at 0 one
      (λ location. plain (o.Push (step_back at)) (plain (operator_of back false) (k OnList)))

  -- a call: the arguments, with an agree for `sh` parameters; the enter; the frame; and the `sh`
  -- parameters, which are put into it
  abbrev pub arguments : List DeclaredTree → List Evaluation → Coded → Coded
  arguments (x ∷ xs) (e ∷ es) rest = value_of e (agreed x.shared (arguments xs es rest))
  arguments xs es rest = rest

  abbrev pub framed : Option Region → Place → Coded → Coded
  framed None place rest = rest
  framed (Some r) place rest = perform place (o.Frame r.level r.words) rest

  abbrev pub parameters : (number : ℕ) → List DeclaredTree → Coded
  parameters i [] = done
  parameters i (x ∷ xs) =
      if x.shared
      then plain (o.Get (n.FrameAddress 0 (slot tables (note tables x.name.at).binding).index))
      (plain (o.Get (n.Value (v.Private i)))
      (plain o.Write (plain o.DropLast (parameters (suc i) xs))))
      else parameters (suc i) xs

  abbrev pub called : Named → List Evaluation → Evaluation
  called name es k =
      let b = (note tables name.at).binding in
      let function = functions b in
      arguments function.parameters es
      (call name.place (o.Enter (length function.parameters)) b
      (framed (frame_at tables function.at 0) name.place (parameters 0 function.parameters))
      (k OnList))

  -- calls of predeclared names
  abbrev pub multiprefix : Named → Multiprefix → List Evaluation → Evaluation
  multiprefix name by (a ∷ b ∷ es) k =
      value_of a (perform name.place (o.Check true) (value_of b (plain (o.Combine by) (k OnList))))
  multiprefix name by es k = done

  abbrev pub with_one : (Coded → Coded) → List Evaluation → Evaluation
  with_one after (e ∷ es) k = value_of e (after (k OnList))
  with_one after es k = done

  abbrev pub called_predeclared : Named → List Evaluation → Evaluation
  called_predeclared name es k =
      if is_name name (codes "mpadd") then multiprefix name MpAdd es k
      else if is_name name (codes "mpmax") then multiprefix name MpMax es k
      else if is_name name (codes "mpand") then multiprefix name MpAnd es k
      else if is_name name (codes "mpor") then multiprefix name MpOr es k
      else if is_name name (codes "groupsize") then plain (o.Get n.GroupSize) (k OnList)
      else if is_name name (codes "putint") then with_one (plain o.PrintNumber) es k
      else if is_name name (codes "putchar") then with_one (plain o.PrintByte) es k
      else if is_name name (codes "malloc") then with_one (plain o.Take) es k
      else if is_name name (codes "shmalloc") then with_one (plain o.Heap) es k
      else with_one (λ rest. plain o.Agree (plain o.Block rest)) es k

  abbrev pub calling : List Evaluation → (ResultLocation → Coded) → ResultLocation → Coded
  calling es k (ToCall name) =
      if (note tables name.at).binding == no_binding then called_predeclared name es k
      else called name es k
  calling es k location = done

  -- expressions
  abbrev mutual
    pub evaluated : Tree → Evaluation
    evaluated (t.Number spot value unsigned) k = plain (o.Push value) (k OnList)
    evaluated (t.Puts spot text) k = put_bytes (text_of text) (k OnList)
    evaluated (t.Sizeof spot type) k = plain (o.Push (note tables spot.at).binding) (k OnList)
    evaluated (t.Variable name) k = variable name k
    evaluated (t.GroupNumber spot) k = plain (o.Get n.GroupNumber) (k OnList)
    evaluated (t.GroupRank spot) k = plain (o.Get n.Rank) (k OnList)
    evaluated (t.Prefix spot sign operand) k =
        prefixed spot sign (evaluated operand) (token operand) k
    evaluated (t.Cast spot type operand) k = value_of (evaluated operand) (k OnList)
    evaluated (t.Chain first links) k = linked (evaluated first) (token first) links k
    evaluated (t.Postfix whole suffixes) k = suffixed (evaluated whole) (token whole) suffixes k
    evaluated (t.Assign spot sign target value) k =
        assignment sign (evaluated target) (token target) (evaluated value) (token value) k
    evaluated (t.Choose spot condition first second) k =
        chosen spot (evaluated condition) (evaluated first) (evaluated second) k

    pub linked : Evaluation → (at : ℕ) → Links → Evaluation
    linked e at t.no_links k = e k
    linked e at (t.link spot sign right others) k =
        linked (joined spot sign e at (evaluated right) (token right)) spot.at others k

    pub suffixed : Evaluation → (at : ℕ) → Suffixes → Evaluation
    suffixed e at t.no_suffixes k = e k
    suffixed e at (t.index spot by others) k =
        suffixed (indexed spot e (evaluated by)) spot.at others k
    suffixed e at (t.call spot arguments others) k =
        suffixed (λ j. e (calling (all_evaluated arguments) j)) spot.at others k
    suffixed e at (t.dot spot name others) k = suffixed (dotted spot name.at e) spot.at others k
    suffixed e at (t.arrow spot name others) k = suffixed (pointed spot name.at e) spot.at others k
    suffixed e at (t.up spot others) k = suffixed (raised g.Plus g.Minus e at) spot.at others k
    suffixed e at (t.down spot others) k = suffixed (raised g.Minus g.Plus e at) spot.at others k

    pub all_evaluated : Trees → List Evaluation
    all_evaluated t.no_trees = []
    all_evaluated (t.tree first others) = evaluated first ∷ all_evaluated others

  abbrev pub value : Tree → Coded → Coded
  value e rest = value_of (evaluated e) rest
