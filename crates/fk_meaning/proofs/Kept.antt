-- What is wanted of code is so of the code of an expression before it too, where each operation that expressions perform keeps
-- it, and each of their choices and calls.
use Rattle.std.proofs.Common.{◌≡◌, ℕ, Bool, true, false, List, [], ◌∷◌, length, Option, Some, None, sym, refl, subst}
use Rattle.std.specs.Prelude.{◌==◌, ◌*◌, ◌||◌, codes, if◌then◌else◌}
use Rattle.fk_num.specs.declared.operator.Op.TheVariants as f
use Rattle.fk_syntax.specs.declared.place.Place.{Place}
use Rattle.fk_syntax.specs.declared.place.Spot.{Spot}
use Rattle.fk_syntax.specs.declared.sign.Sign.{Sign}
use Rattle.fk_syntax.specs.declared.sign.Sign.TheVariants as g
use Rattle.fk_syntax.specs.Tree as t
use Rattle.fk_syntax.specs.Tree.{Named, Tree, Links, Trees, Suffixes}
use Rattle.fk_syntax.specs.Program.{DeclaredTree}
use Rattle.fk_meaning_operation.specs.declared.operation.Operation.{Operation}
use Rattle.fk_meaning_operation.specs.declared.operation.Operation.TheVariants as o
use Rattle.fk_meaning_operation.specs.declared.operation.Variable.TheVariants as v
use Rattle.fk_meaning_operation.specs.declared.operation.OwnValue.TheVariants as n
use Rattle.fk_meaning_operation.specs.declared.operation.Unary.TheVariants as u
use Rattle.fk_meaning_operation.specs.declared.operation.Multiprefix.{Multiprefix}
use Rattle.fk_meaning_operation.specs.declared.operation.Multiprefix.TheVariants.{MpAdd, MpMax, MpAnd, MpOr}
use Rattle.fk_meaning_operation.specs.declared.operation.SplitKind.{SplitKind}
use Rattle.fk_meaning_operation.specs.declared.operation.SplitKind.TheVariants.{IfElse, AndThen, OrElse}
use Rattle.fk_meaning_forms.specs.declared.tables.Home.{Home}
use Rattle.fk_meaning_forms.specs.declared.tables.Home.TheVariants as h
use Rattle.fk_meaning_forms.specs.declared.tables.Region.{Region}
use Rattle.fk_meaning_forms.specs.declared.signs.Move.{Move}
use Rattle.fk_meaning_forms.specs.declared.signs.Move.TheVariants.{Forth, Back, NoMove}
use Rattle.fk_meaning_forms.specs.Code.{done, perform, choose, call}
use Rattle.fk_meaning_forms.specs.Tables.{Tables, no_binding, note, kind_at, is_array, is_void, is_unsigned, slot, frame_at}
use Rattle.fk_meaning_forms.specs.Signs.{operator_of, is_shift, move_of}
use Rattle.fk_meaning_forms.specs.Texts.{text_of}
use Rattle.fk_meaning_forms.specs.Expressions.{Coded, nowhere, plain, ResultLocation, OnList, AtAddress, InWord, ToCall, Evaluation, token, spot_of, is_name, Signature, put_bytes, moved, agreed, checked, valued, addressed, fetched, assigned, value_of, dropped, predeclared, placed, variable, operate, updated, one, prefixed, truth, logical, chosen, joined, assignment, member, is_deep, indexed, dotted, pointed, step_back, raised, arguments, framed, parameters, called, multiprefix, with_one, called_predeclared, calling, evaluated, linked, suffixed, all_evaluated, value}
use Rattle.fk_meaning_forms.specs.Statements.{is_scalar, used, used_or, value_or, declared, all_declared, part_frame}
use Rattle.fk_meaning.specs.Calls.{takes_two, TakesEnough, CallFits, Fits, LinksFit, FirstFits, SuffixesFit, AllFit, OptionFits, VariablesFit}
use Rattle.fk_meaning.proofs.Spine.{both_ways}

-- the operations that expressions perform
abbrev pub is_inner : Operation → Bool
is_inner (o.Branch onward) = false
is_inner (o.Leave gives framed) = false
is_inner (o.Enter arguments) = false
is_inner o.Begin = false
is_inner (o.Split by) = false
is_inner o.Shrink = false
is_inner o.End = false
is_inner o.Farm = false
is_inner o.Seq = false
is_inner (o.Meet closes) = false
is_inner o.Halt = false
is_inner op = true

-- a split of which the others enter no part
abbrev pub is_alone : SplitKind → Bool
is_alone IfElse = false
is_alone by = true

abbrev pub is_predeclared : Tables → Named → Bool
is_predeclared tables name = (note tables name.at).binding == no_binding

-- a call whose arguments are on the list
abbrev pub entered : (tables : Tables) (functions : (binding : ℕ) → Signature) → Named → Coded → Coded
entered tables functions name rest =
    let b = (note tables name.at).binding in
    let function = functions b in
    call name.place (o.Enter (length function.parameters)) b
    (framed tables functions (frame_at tables function.at 0) name.place (parameters tables functions 0 function.parameters)) rest

-- What is wanted of code is one of W, and `Fine` says which code is so. It is known what then is wanted of a part and of a way
-- of a branch
pub record IsKept (tables : Tables) (functions : (binding : ℕ) → Signature) (Takes : Named → Trees → Type 0) (W : Type 0) (Fine : W → Coded → Type 0) : Type 0 where
  pub in_part : W → W
  pub in_way : W → W
  pub performs : (x : W) (t : Place) (op : Operation) (rest : Coded) → is_inner op ≡ true → Fine x rest → Fine x (perform t op rest)
  pub part_ends : (x : W) → Fine (in_part x) (plain o.End done)
  pub way_ends : (x : W) → Fine (in_way x) done
  pub divides_alone : (x : W) (t : Place) (by : SplitKind) (a rest : Coded) → is_alone by ≡ true → Fine (in_part x) a → Fine x rest
      → Fine x (choose t (o.Split by) a done (plain o.Resume rest))
  pub divides : (x : W) (t : Place) (a b rest : Coded) → Fine (in_part x) a → Fine (in_part x) b → Fine x rest
      → Fine x (choose t (o.Split IfElse) a b (plain o.Resume rest))
  pub branches : (x : W) (t : Place) (onward : Bool) (a b rest : Coded) → Fine (in_way x) a → Fine (in_way x) b → Fine x rest
      → Fine x (choose t (o.Branch onward) a b rest)
  pub enters : (x : W) (name : Named) (given : Trees) (rest : Coded) → Takes name given → is_predeclared tables name ≡ false → Fine x rest
      → Fine x (entered tables functions name rest)
  pub takes_enough : (name : Named) (given : Trees) → Takes name given → is_predeclared tables name ≡ true → TakesEnough name given

module _ {tables : Tables} {functions : (binding : ℕ) → Signature} {Takes : Named → Trees → Type 0} {W : Type 0} {Fine : W → Coded → Type 0}
    (kept : IsKept tables functions Takes W Fine) where
  on : {x : W} {t : Place} {op : Operation} {rest : Coded} → is_inner op ≡ true → Fine x rest → Fine x (perform t op rest)
  on {x = x} {t = t} {op = op} {rest = rest} e p = kept.performs x t op rest e p

  alone : {x : W} {t : Place} {by : SplitKind} {a rest : Coded} → is_alone by ≡ true → Fine (kept.in_part x) a → Fine x rest
      → Fine x (choose t (o.Split by) a done (plain o.Resume rest))
  alone {x = x} {t = t} {by = by} {a = a} {rest = rest} e p q = kept.divides_alone x t by a rest e p q

  both : {x : W} {t : Place} {a b rest : Coded} → Fine (kept.in_part x) a → Fine (kept.in_part x) b → Fine x rest
      → Fine x (choose t (o.Split IfElse) a b (plain o.Resume rest))
  both {x = x} {t = t} {a = a} {b = b} {rest = rest} p q r = kept.divides x t a b rest p q r

  branch : {x : W} {t : Place} {onward : Bool} {a b rest : Coded} → Fine (kept.in_way x) a → Fine (kept.in_way x) b → Fine x rest
      → Fine x (choose t (o.Branch onward) a b rest)
  branch {x = x} {t = t} {onward = onward} {a = a} {b = b} {rest = rest} p q r = kept.branches x t onward a b rest p q r

  pub either : (x : W) (b : Bool) (c d : Coded) → Fine x c → Fine x d → Fine x (if b then c else d)
  either x true c d p q = p
  either x false c d p q = q

  abbrev Follows : W → (ResultLocation → Coded) → Type 0
  Follows x k = (s : ResultLocation) → Fine x (k s)

  abbrev Good : Evaluation → Type 0
  Good e = (x : W) (k : ResultLocation → Coded) → Follows x k → Fine x (e k)

  abbrev pub Keeps : (Coded → Coded) → Type 0
  Keeps e = (x : W) (rest : Coded) → Fine x rest → Fine x (e rest)

  abbrev AllGood : List Evaluation → Type 0
  AllGood [] = Unit {0}
  AllGood (e ∷ es) = Good e × AllGood es

  puts : (bytes : List ℕ) → Keeps (put_bytes bytes)
  puts [] x rest p = p
  puts (b ∷ bytes) x rest p = (on refl (on refl (puts bytes x rest p)))

  operator : (sign : Sign) (unsigned : Bool) → Keeps (plain (operator_of sign unsigned))
  operator g.Minus unsigned x rest p = (on refl p)
  operator sign unsigned x rest p = (on refl p)

  moves : (move : Move) (step : ℕ) (sign : Sign) (unsigned : Bool) → Keeps (moved move step (operator_of sign unsigned))
  moves Forth step sign unsigned x rest p = (on refl p)
  moves Back step sign unsigned x rest p = (on refl (on refl p))
  moves NoMove step sign unsigned x rest p = operator sign unsigned x rest p

  pub agrees : (sync : Bool) → Keeps (agreed sync)
  agrees true x rest p = (on refl p)
  agrees false x rest p = p

  -- where the result of an expression is
  checks : (deep : Bool) (spot : Spot) → Keeps (checked tables functions deep spot)
  checks true spot x rest p = (on refl p)
  checks false spot x rest p = p

  values : (s : ResultLocation) → Keeps (valued tables functions s)
  values (AtAddress deep spot) x rest p =
      either x (is_array tables spot.at) rest (checked tables functions deep spot (plain o.Read rest)) p
      (checks deep spot x (plain o.Read rest) (on refl p))
  values (InWord variable) x rest p = (on refl p)
  values s x rest p = p

  addresses : (s : ResultLocation) → Keeps (addressed tables functions s)
  addresses (AtAddress deep spot) x rest p = checks deep spot x rest p
  addresses s x rest p = p

  fetches : (s : ResultLocation) → Keeps (fetched tables functions s)
  fetches (AtAddress deep spot) x rest p = checks deep spot x (plain o.CopyLast (plain o.Read rest)) (on refl (on refl p))
  fetches (InWord variable) x rest p = (on refl p)
  fetches s x rest p = p

  assigns : (s : ResultLocation) → Keeps (assigned tables functions s)
  assigns (AtAddress deep spot) x rest p = (on refl p)
  assigns (InWord variable) x rest p = (on refl p)
  assigns s x rest p = p

  value_is : (e : Evaluation) → Good e → Keeps (value_of tables functions e)
  value_is e good x rest p = good x (λ s. valued tables functions s rest) (λ s. values s x rest p)

  drops : (at : ℕ) → Keeps (dropped tables functions at)
  drops at x rest p = either x (is_void tables at) rest (plain o.DropLast rest) p (on refl p)

  -- names
  predeclares : (name : Named) → Good (predeclared tables functions name)
  predeclares name x k p =
      by (is_name name (codes "__PROC_NR__")) (is_name name (codes "__STARTED_PROCS__")) (is_name name (codes "__inputs")) (is_name name (codes "__input"))
    where
      by : (a b c d : Bool) → Fine x (
          if a then plain (o.Get n.ProcessorNumber) (k OnList)
          else if b then plain (o.Get n.Processors) (k OnList)
          else if c then plain (o.Get n.InputLength) (k OnList)
          else if d then plain (o.Get n.InputAddress) (k (AtAddress false (spot_of name)))
          else k (ToCall name))
      by true b c d = (on refl (p OnList))
      by false true c d = (on refl (p OnList))
      by false false true d = (on refl (p OnList))
      by false false false true = (on refl (p (AtAddress false (spot_of name))))
      by false false false false = p (ToCall name)

  places : (home : Home) (i : ℕ) (name : Named) → Good (placed tables functions home i name)
  places h.Global i name x k p = (on refl (p (AtAddress false (spot_of name))))
  places h.FilePrivate i name x k p = p (InWord (v.OfFile i))
  places h.Private i name x k p = p (InWord (v.Private i))
  places (h.Group r) i name x k p = (on refl (p (AtAddress false (spot_of name))))
  places h.NoWord i name x k p = p (ToCall name)

  names : (name : Named) → Good (variable tables functions name)
  names name x k p =
      let b = (note tables name.at).binding in
      either x (b == no_binding) (predeclared tables functions name k) (placed tables functions (slot tables b).home (slot tables b).index name k)
      (predeclares name x k p) (places (slot tables b).home (slot tables b).index name x k p)

  -- operators
  operates : (sign : Sign) (left right : ℕ) → Keeps (operate tables functions sign left right)
  operates sign left right x rest p =
      let unsigned = if is_shift sign then is_unsigned tables left else is_unsigned tables left || is_unsigned tables right in
      let step = (kind_at tables left).step in
      either x (step == 0) (plain (operator_of sign unsigned) rest) (moved (move_of sign) step (operator_of sign unsigned) rest)
      (operator sign unsigned x rest p) (moves (move_of sign) step sign unsigned x rest p)

  updates : (sign : Sign) (target : Evaluation) → Good target → (left right : ℕ) (e : Coded → Coded) → Keeps e → Good (updated tables functions sign target left right e)
  updates sign target good left right e keeps x k p =
      good x (λ s. fetched tables functions s (e (operate tables functions sign left right (assigned tables functions s (k OnList)))))
      (λ s.
      let new = assigned tables functions s (k OnList) in
      let whole = operate tables functions sign left right new in
      fetches s x (e whole) (keeps x whole (operates sign left right x new (assigns s x (k OnList) (p OnList)))))

  ones : Keeps (one tables functions)
  ones x rest p = (on refl p)

  prefixes : (spot : Spot) (sign : Sign) (e : Evaluation) → Good e → (at : ℕ) → Good (prefixed tables functions spot sign e at)
  prefixes spot g.Minus e good at x k p = value_is e good x (plain (o.Apply u.Negate) (k OnList)) (on refl (p OnList))
  prefixes spot g.Tilde e good at x k p = value_is e good x (plain (o.Apply u.Complement) (k OnList)) (on refl (p OnList))
  prefixes spot g.Exclamation e good at x k p = value_is e good x (plain (o.Apply u.Not) (k OnList)) (on refl (p OnList))
  prefixes spot g.Star e good at x k p = value_is e good x (k (AtAddress true spot)) (p (AtAddress true spot))
  prefixes spot g.Ampersand e good at x k p =
      good x (λ s. addressed tables functions s (k OnList)) (λ s. addresses s x (k OnList) (p OnList))
  prefixes spot g.Increment e good at x k p = updates g.Plus e good at spot.at (one tables functions) ones x k p
  prefixes spot g.Decrement e good at x k p = updates g.Minus e good at spot.at (one tables functions) ones x k p
  prefixes spot sign e good at x k p = value_is e good x (k OnList) (p OnList)

  truths : (e : Evaluation) → Good e → Keeps (truth tables functions e)
  truths e good x rest p = value_is e good x (plain (o.Push 0) (plain (o.Binary f.Ne false) rest)) (on refl (on refl p))

  logicals : (spot : Spot) (by : SplitKind) (onward : Bool) (other : ℕ) (a : Evaluation) → Good a → (b : Evaluation) → Good b → is_alone by ≡ true
      → Good (logical tables functions spot by onward other a b)
  logicals spot by onward other a good_a b good_b e x k p =
      let here = note tables spot.at in
      let parted = choose spot.place (o.Split by) (truth tables functions b (plain o.End done)) done (plain o.Resume (k OnList)) in
      let branched = choose nowhere (o.Branch onward) (truth tables functions b done) (plain (o.Push other) done) (k OnList) in
      value_is a good_a x (if here.splits then parted else agreed here.sync branched)
      (either x here.splits parted (agreed here.sync branched)
      (alone e (truths b good_b (kept.in_part x) (plain o.End done) (kept.part_ends x)) (p OnList))
      (agrees here.sync x branched
      (branch (truths b good_b (kept.in_way x) done (kept.way_ends x)) (on refl (kept.way_ends x)) (p OnList))))

  chooses : (spot : Spot) (c : Evaluation) → Good c → (a : Evaluation) → Good a → (b : Evaluation) → Good b → Good (chosen tables functions spot c a b)
  chooses spot c good_c a good_a b good_b x k p =
      let here = note tables spot.at in
      let parted = choose spot.place (o.Split IfElse) (value_of tables functions a (plain o.End done)) (value_of tables functions b (plain o.End done)) (plain o.Resume (k OnList)) in
      let branched = choose nowhere (o.Branch true) (value_of tables functions a done) (value_of tables functions b done) (k OnList) in
      value_is c good_c x (if here.splits then parted else agreed here.sync branched)
      (either x here.splits parted (agreed here.sync branched)
      (both (value_is a good_a (kept.in_part x) (plain o.End done) (kept.part_ends x)) (value_is b good_b (kept.in_part x) (plain o.End done) (kept.part_ends x)) (p OnList))
      (agrees here.sync x branched
      (branch (value_is a good_a (kept.in_way x) done (kept.way_ends x)) (value_is b good_b (kept.in_way x) done (kept.way_ends x)) (p OnList))))

  joins : (spot : Spot) (sign : Sign) (a : Evaluation) → Good a → (left : ℕ) (b : Evaluation) → Good b → (right : ℕ) → Good (joined tables functions spot sign a left b right)
  joins spot g.Comma a good_a left b good_b right x k p =
      value_is a good_a x (dropped tables functions left (value_of tables functions b (k OnList)))
      (drops left x (value_of tables functions b (k OnList)) (value_is b good_b x (k OnList) (p OnList)))
  joins spot g.AndAnd a good_a left b good_b right x k p = logicals spot AndThen true 0 a good_a b good_b refl x k p
  joins spot g.OrOr a good_a left b good_b right x k p = logicals spot OrElse false 1 a good_a b good_b refl x k p
  joins spot sign a good_a left b good_b right x k p =
      value_is a good_a x (value_of tables functions b (operate tables functions sign left right (k OnList)))
      (value_is b good_b x (operate tables functions sign left right (k OnList)) (operates sign left right x (k OnList) (p OnList)))

  gives : (sign : Sign) (target : Evaluation) → Good target → (left : ℕ) (e : Evaluation) → Good e → (right : ℕ) → Good (assignment tables functions sign target left e right)
  gives g.Assign target good left e good_e right x k p =
      good x (λ s. addressed tables functions s (value_of tables functions e (assigned tables functions s (k OnList))))
      (λ s.
      let new = assigned tables functions s (k OnList) in
      addresses s x (value_of tables functions e new) (value_is e good_e x new (assigns s x (k OnList) (p OnList))))
  gives sign target good left e good_e right x k p =
      updates sign target good left right (value_of tables functions e) (value_is e good_e) x k p

  -- suffixes
  indexes : (spot : Spot) (e : Evaluation) → Good e → (by : Evaluation) → Good by → Good (indexed tables functions spot e by)
  indexes spot e good by good_by x k p =
      let element = plain (o.Index (4 * (kind_at tables spot.at).words)) (k (AtAddress true spot)) in
      value_is e good x (value_of tables functions by element) (value_is by good_by x element (on refl (p (AtAddress true spot))))

  dots : (spot : Spot) (at : ℕ) (e : Evaluation) → Good e → Good (dotted tables functions spot at e)
  dots spot at e good x k p =
      good x (λ s. member tables functions at (k (AtAddress (is_deep tables functions s) spot)))
      (λ s. (on refl (on refl (p (AtAddress (is_deep tables functions s) spot)))))

  points : (spot : Spot) (at : ℕ) (e : Evaluation) → Good e → Good (pointed tables functions spot at e)
  points spot at e good x k p =
      value_is e good x (member tables functions at (k (AtAddress true spot))) (on refl (on refl (p (AtAddress true spot))))

  raises : (sign back : Sign) (e : Evaluation) → Good e → (at : ℕ) → Good (raised tables functions sign back e at)
  raises sign back e good at x k p =
      updates sign e good at 0 (one tables functions) ones x
      (λ s. plain (o.Push (step_back tables functions at)) (plain (operator_of back false) (k OnList)))
      (λ s. (on refl (operator back false x (k OnList) (p OnList))))

  -- calls
  takes : (xs : List DeclaredTree) (es : List Evaluation) → AllGood es → Keeps (arguments tables functions xs es)
  takes [] [] good x rest p = p
  takes [] (e ∷ es) good x rest p = p
  takes (y ∷ ys) [] good x rest p = p
  takes (y ∷ ys) (e ∷ es) good x rest p =
      let others = arguments tables functions ys es rest in
      value_is e good.0 x (agreed y.shared others) (agrees y.shared x others (takes ys es good.1 x rest p))

  frames : (r : Option Region) (place : Place) → Keeps (framed tables functions r place)
  frames None place x rest p = p
  frames (Some r) place x rest p = (on refl p)

  calls : (name : Named) (given : Trees) → Takes name given → is_predeclared tables name ≡ false → (es : List Evaluation) → AllGood es → Good (called tables functions name es)
  calls name given taken own es good x k p =
      takes (functions (note tables name.at).binding).parameters es good x (entered tables functions name (k OnList))
      (kept.enters x name given (k OnList) taken own (p OnList))

  both_good : (name : Named) (by : Multiprefix) (a b : Evaluation) (es : List Evaluation) → Good a → Good b → Good (multiprefix tables functions name by (a ∷ b ∷ es))
  both_good name by a b es good_a good_b x k p =
      let request = plain (o.Combine by) (k OnList) in
      value_is a good_a x (perform name.place (o.Check true) (value_of tables functions b request)) (on refl (value_is b good_b x request (on refl (p OnList))))

  one_good : (after : Coded → Coded) → Keeps after → (e : Evaluation) (es : List Evaluation) → Good e → Good (with_one tables functions after (e ∷ es))
  one_good after keeps e es good x k p = value_is e good x (after (k OnList)) (keeps x (k OnList) (p OnList))

  -- calls of predeclared functions
  module _ (name : Named) (es : List Evaluation) (x : W) (k : ResultLocation → Coded) (p : Follows x k) where
    abbrev other_calls : Coded
    other_calls =
        if is_name name (codes "groupsize") then plain (o.Get n.GroupSize) (k OnList)
        else if is_name name (codes "putint") then with_one tables functions (plain o.PrintNumber) es k
        else if is_name name (codes "putchar") then with_one tables functions (plain o.PrintByte) es k
        else if is_name name (codes "malloc") then with_one tables functions (plain o.Take) es k
        else if is_name name (codes "shmalloc") then with_one tables functions (plain o.Heap) es k
        else with_one tables functions (λ rest. plain o.Agree (plain o.Block rest)) es k

    with_ones : ((after : Coded → Coded) → Keeps after → Fine x (with_one tables functions after es k)) → (a b c d : Bool) → Fine x (
        if a then with_one tables functions (plain o.PrintNumber) es k
        else if b then with_one tables functions (plain o.PrintByte) es k
        else if c then with_one tables functions (plain o.Take) es k
        else if d then with_one tables functions (plain o.Heap) es k
        else with_one tables functions (λ rest. plain o.Agree (plain o.Block rest)) es k)
    with_ones one true b c d = one (plain o.PrintNumber) (λ x' rest q. (on refl q))
    with_ones one false true c d = one (plain o.PrintByte) (λ x' rest q. (on refl q))
    with_ones one false false true d = one (plain o.Take) (λ x' rest q. (on refl q))
    with_ones one false false false true = one (plain o.Heap) (λ x' rest q. (on refl q))
    with_ones one false false false false = one (λ rest. plain o.Agree (plain o.Block rest)) (λ x' rest q. (on refl (on refl q)))

    sizes : (is : Bool) → is_name name (codes "groupsize") ≡ is
        → (is ≡ false → (after : Coded → Coded) → Keeps after → Fine x (with_one tables functions after es k)) → Fine x other_calls
    sizes true e one =
        subst (λ b. Fine x (
        if b then plain (o.Get n.GroupSize) (k OnList)
        else if is_name name (codes "putint") then with_one tables functions (plain o.PrintNumber) es k
        else if is_name name (codes "putchar") then with_one tables functions (plain o.PrintByte) es k
        else if is_name name (codes "malloc") then with_one tables functions (plain o.Take) es k
        else if is_name name (codes "shmalloc") then with_one tables functions (plain o.Heap) es k
        else with_one tables functions (λ rest. plain o.Agree (plain o.Block rest)) es k)) (sym e) (on refl (p OnList))
    sizes false e one =
        either x (is_name name (codes "groupsize")) (plain (o.Get n.GroupSize) (k OnList)) _ (on refl (p OnList))
        (with_ones (one refl) (is_name name (codes "putint")) (is_name name (codes "putchar")) (is_name name (codes "malloc")) (is_name name (codes "shmalloc")))

    multiprefixes : (a b c d : Bool) → ((a || (b || (c || d))) ≡ true → (by : Multiprefix) → Fine x (multiprefix tables functions name by es k))
        → ((a || (b || (c || d))) ≡ false → Fine x other_calls) → Fine x (
        if a then multiprefix tables functions name MpAdd es k
        else if b then multiprefix tables functions name MpMax es k
        else if c then multiprefix tables functions name MpAnd es k
        else if d then multiprefix tables functions name MpOr es k
        else other_calls)
    multiprefixes true b c d two one = two refl MpAdd
    multiprefixes false true c d two one = two refl MpMax
    multiprefixes false false true d two one = two refl MpAnd
    multiprefixes false false false true two one = two refl MpOr
    multiprefixes false false false false two one = one refl

    all_predeclared : (takes_two name ≡ true → (by : Multiprefix) → Fine x (multiprefix tables functions name by es k))
        → (takes_two name ≡ false → is_name name (codes "groupsize") ≡ false → (after : Coded → Coded) → Keeps after → Fine x (with_one tables functions after es k))
        → Fine x (called_predeclared tables functions name es k)
    all_predeclared two one =
        multiprefixes (is_name name (codes "mpadd")) (is_name name (codes "mpmax")) (is_name name (codes "mpand")) (is_name name (codes "mpor")) two
        (λ not_two. sizes (is_name name (codes "groupsize")) refl (one not_two))

  -- with the arguments of a call
  calls_predeclared : (name : Named) (arguments' : Trees) → AllGood (all_evaluated tables functions arguments') → TakesEnough name arguments'
      → Good (called_predeclared tables functions name (all_evaluated tables functions arguments'))
  calls_predeclared name t.no_trees good enough x k p =
      all_predeclared name [] x k p (λ two. both_ways (takes_two name) two enough.0)
      (λ not_two not_size. both_ways (is_name name (codes "groupsize")) enough.1 not_size)
  calls_predeclared name (t.tree first t.no_trees) good enough x k p =
      all_predeclared name (evaluated tables functions first ∷ []) x k p (λ two. both_ways (takes_two name) two enough)
      (λ not_two not_size after keeps. one_good after keeps (evaluated tables functions first) [] good.0 x k p)
  calls_predeclared name (t.tree first (t.tree second more)) good enough x k p =
      let es = all_evaluated tables functions more in
      all_predeclared name (evaluated tables functions first ∷ evaluated tables functions second ∷ es) x k p
      (λ two by. both_good name by (evaluated tables functions first) (evaluated tables functions second) es good.0 good.1.0 x k p)
      (λ not_two not_size after keeps. one_good after keeps (evaluated tables functions first) (evaluated tables functions second ∷ es) good.0 x k p)

  called_by : (name : Named) (arguments' : Trees) → AllGood (all_evaluated tables functions arguments') → Takes name arguments'
      → (predeclared' : Bool) → is_predeclared tables name ≡ predeclared'
      → (x : W) (k : ResultLocation → Coded) → Follows x k
      → Fine x (if predeclared' then called_predeclared tables functions name (all_evaluated tables functions arguments') k else called tables functions name (all_evaluated tables functions arguments') k)
  called_by name arguments' good taken true e x k p = calls_predeclared name arguments' good (kept.takes_enough name arguments' taken e) x k p
  called_by name arguments' good taken false e x k p = calls name arguments' taken e (all_evaluated tables functions arguments') good x k p

  call_is : (whole : Tree) (arguments' : Trees) → CallFits tables functions Takes whole arguments' → AllGood (all_evaluated tables functions arguments')
      → Good (λ j. evaluated tables functions whole (calling tables functions (all_evaluated tables functions arguments') j))
  call_is (t.Variable name) arguments' fits good x k p =
      let es = all_evaluated tables functions arguments' in
      subst (Fine x) (sym (fits.0 (calling tables functions es k)))
      (called_by name arguments' good fits.1 (is_predeclared tables name) refl x k p)
  call_is (t.Number spot number unsigned) arguments' fits good x k p = absurd fits
  call_is (t.Puts spot text) arguments' fits good x k p = absurd fits
  call_is (t.Sizeof spot type) arguments' fits good x k p = absurd fits
  call_is (t.GroupNumber spot) arguments' fits good x k p = absurd fits
  call_is (t.GroupRank spot) arguments' fits good x k p = absurd fits
  call_is (t.Prefix spot sign operand) arguments' fits good x k p = absurd fits
  call_is (t.Cast spot type operand) arguments' fits good x k p = absurd fits
  call_is (t.Chain first t.no_links) arguments' fits good x k p = call_is first arguments' fits good x k p
  call_is (t.Chain first (t.link spot sign right others)) arguments' fits good x k p = absurd fits
  call_is (t.Postfix whole t.no_suffixes) arguments' fits good x k p = call_is whole arguments' fits good x k p
  call_is (t.Postfix whole (t.index spot by others)) arguments' fits good x k p = absurd fits
  call_is (t.Postfix whole (t.call spot arguments others)) arguments' fits good x k p = absurd fits
  call_is (t.Postfix whole (t.dot spot member others)) arguments' fits good x k p = absurd fits
  call_is (t.Postfix whole (t.arrow spot member others)) arguments' fits good x k p = absurd fits
  call_is (t.Postfix whole (t.up spot others)) arguments' fits good x k p = absurd fits
  call_is (t.Postfix whole (t.down spot others)) arguments' fits good x k p = absurd fits
  call_is (t.Assign spot sign target value) arguments' fits good x k p = absurd fits
  call_is (t.Choose spot condition first second) arguments' fits good x k p = absurd fits

  -- expressions
  mutual
    expression : (e : Tree) → Fits tables functions Takes e → Good (evaluated tables functions e)
    expression (t.Number spot number unsigned) fits x k p = (on refl (p OnList))
    expression (t.Puts spot text) fits x k p = puts (text_of text) x (k OnList) (p OnList)
    expression (t.Sizeof spot type) fits x k p = (on refl (p OnList))
    expression (t.Variable name) fits x k p = names name x k p
    expression (t.GroupNumber spot) fits x k p = (on refl (p OnList))
    expression (t.GroupRank spot) fits x k p = (on refl (p OnList))
    expression (t.Prefix spot sign operand) fits x k p = prefixes spot sign (evaluated tables functions operand) (expression operand fits) (token operand) x k p
    expression (t.Cast spot type operand) fits x k p = value_is (evaluated tables functions operand) (expression operand fits) x (k OnList) (p OnList)
    expression (t.Chain first links) fits x k p = chain (evaluated tables functions first) (expression first fits.0) (token first) links fits.1 x k p
    expression (t.Postfix whole suffixes) fits x k p = first_suffix whole (expression whole fits.0) suffixes fits.1 x k p
    expression (t.Assign spot sign target value) fits x k p =
        gives sign (evaluated tables functions target) (expression target fits.0) (token target) (evaluated tables functions value) (expression value fits.1) (token value) x k p
    expression (t.Choose spot condition first second) fits x k p =
        chooses spot (evaluated tables functions condition) (expression condition fits.0) (evaluated tables functions first) (expression first fits.1) (evaluated tables functions second) (expression second fits.2) x k p

    chain : (e : Evaluation) → Good e → (at : ℕ) (links : Links) → LinksFit tables functions Takes links → Good (linked tables functions e at links)
    chain e good at t.no_links fits x k p = good x k p
    chain e good at (t.link spot sign right others) fits x k p =
        chain (joined tables functions spot sign e at (evaluated tables functions right) (token right))
        (joins spot sign e good at (evaluated tables functions right) (expression right fits.0) (token right)) spot.at others fits.1 x k p

    first_suffix : (whole : Tree) → Good (evaluated tables functions whole) → (suffixes : Suffixes) → FirstFits tables functions Takes whole suffixes
        → Good (suffixed tables functions (evaluated tables functions whole) (token whole) suffixes)
    first_suffix whole good t.no_suffixes fits x k p = good x k p
    first_suffix whole good (t.index spot by others) fits x k p =
        let e = evaluated tables functions whole in
        postfix (indexed tables functions spot e (evaluated tables functions by)) (indexes spot e good (evaluated tables functions by) (expression by fits.0)) spot.at others fits.1 x k p
    first_suffix whole good (t.call spot arguments' others) fits x k p =
        let es = all_evaluated tables functions arguments' in
        postfix (λ j. evaluated tables functions whole (calling tables functions es j)) (call_is whole arguments' fits.0 (all_expressions arguments' fits.1)) spot.at others fits.2 x k p
    first_suffix whole good (t.dot spot name others) fits x k p =
        let e = evaluated tables functions whole in
        postfix (dotted tables functions spot name.at e) (dots spot name.at e good) spot.at others fits x k p
    first_suffix whole good (t.arrow spot name others) fits x k p =
        let e = evaluated tables functions whole in
        postfix (pointed tables functions spot name.at e) (points spot name.at e good) spot.at others fits x k p
    first_suffix whole good (t.up spot others) fits x k p =
        let e = evaluated tables functions whole in
        postfix (raised tables functions g.Plus g.Minus e (token whole)) (raises g.Plus g.Minus e good (token whole)) spot.at others fits x k p
    first_suffix whole good (t.down spot others) fits x k p =
        let e = evaluated tables functions whole in
        postfix (raised tables functions g.Minus g.Plus e (token whole)) (raises g.Minus g.Plus e good (token whole)) spot.at others fits x k p

    postfix : (e : Evaluation) → Good e → (at : ℕ) (suffixes : Suffixes) → SuffixesFit tables functions Takes suffixes → Good (suffixed tables functions e at suffixes)
    postfix e good at t.no_suffixes fits x k p = good x k p
    postfix e good at (t.index spot by others) fits x k p =
        postfix (indexed tables functions spot e (evaluated tables functions by)) (indexes spot e good (evaluated tables functions by) (expression by fits.0)) spot.at others fits.1 x k p
    postfix e good at (t.call spot arguments' others) fits x k p = absurd fits
    postfix e good at (t.dot spot name others) fits x k p = postfix (dotted tables functions spot name.at e) (dots spot name.at e good) spot.at others fits x k p
    postfix e good at (t.arrow spot name others) fits x k p = postfix (pointed tables functions spot name.at e) (points spot name.at e good) spot.at others fits x k p
    postfix e good at (t.up spot others) fits x k p = postfix (raised tables functions g.Plus g.Minus e at) (raises g.Plus g.Minus e good at) spot.at others fits x k p
    postfix e good at (t.down spot others) fits x k p = postfix (raised tables functions g.Minus g.Plus e at) (raises g.Minus g.Plus e good at) spot.at others fits x k p

    all_expressions : (es : Trees) → AllFit tables functions Takes es → AllGood (all_evaluated tables functions es)
    all_expressions t.no_trees fits = tt
    all_expressions (t.tree first others) fits = (expression first fits.0, all_expressions others fits.1)

  pub values_kept : (e : Tree) → Fits tables functions Takes e → Keeps (value tables functions e)
  values_kept e fits x rest p = value_is (evaluated tables functions e) (expression e fits) x rest p

  -- what statements have of expressions
  pub uses : (e : Tree) → Fits tables functions Takes e → Keeps (used tables functions e)
  uses e fits x rest p = values_kept e fits x (dropped tables functions (token e) rest) (drops (token e) x rest p)

  pub uses_or : (e : Option Tree) → OptionFits tables functions Takes e → Keeps (used_or tables functions e)
  uses_or None fits x rest p = p
  uses_or (Some e) fits x rest p = uses e fits x rest p

  pub gives_or : (absent : Coded → Coded) → Keeps absent → (e : Option Tree) → OptionFits tables functions Takes e → Keeps (value_or tables functions absent e)
  gives_or absent keeps None fits x rest p = keeps x rest p
  gives_or absent keeps (Some e) fits x rest p = values_kept e fits x rest p

  declares_one : (y : DeclaredTree) → OptionFits tables functions Takes y.first → Keeps (declared tables functions y)
  declares_one y fits x rest p =
      let k : ResultLocation → Coded = λ s. addressed tables functions s (value_or tables functions (plain (o.Push 0)) y.first (assigned tables functions s (plain o.DropLast rest))) in
      either x (is_scalar y) (variable tables functions y.name k) rest
      (names y.name x k
      (λ s.
      let new = assigned tables functions s (plain o.DropLast rest) in
      addresses s x (value_or tables functions (plain (o.Push 0)) y.first new)
      (gives_or (plain (o.Push 0)) (λ x' rest' p'. on refl p') y.first fits x new (assigns s x (plain o.DropLast rest) (on refl p)))))
      p

  pub declares : (ys : List DeclaredTree) → VariablesFit tables functions Takes ys → Keeps (all_declared tables functions ys)
  declares [] fits x rest p = p
  declares (y ∷ ys) fits x rest p = declares_one y fits.0 x (all_declared tables functions ys rest) (declares ys fits.1 x rest p)

  pub part_frames : (spot : Spot) (number : ℕ) → Keeps (part_frame tables functions spot number)
  part_frames spot number x rest p = frames (frame_at tables spot.at number) spot.place x rest p
