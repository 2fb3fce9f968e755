-- The code of expressions names words that are there before code that does, where each name that is used means a declaration with
-- its word.
use Rattle.std.proofs.Common.{◌≡◌, ℕ, suc, ◌≤◌, ◌+◌, Bool, true, false, List, [], ◌∷◌, length, Option, Some, None, sym, refl, subst, arith}
use Rattle.std.specs.Prelude.{◌==◌, ◌*◌, ◌^◌, ◌<◌, ◌||◌, codes, if◌then◌else◌}
use Rattle.fk_num.specs.declared.operator.Op.TheVariants as f
use Rattle.fk_syntax.specs.declared.place.Place.{Place}
use Rattle.fk_syntax.specs.declared.place.Spot.{Spot}
use Rattle.fk_syntax.specs.declared.sign.Sign.{Sign}
use Rattle.fk_syntax.specs.declared.sign.Sign.TheVariants as g
use Rattle.fk_syntax.specs.Tree as t
use Rattle.fk_syntax.specs.Tree.{Named, Tree, Links, Trees, Suffixes}
use Rattle.fk_syntax.specs.Program.{DeclaredTree}
use Rattle.fk_types_names.specs.Outline.{MarkTree, Uses, tree_marks, optional_marks, links_marks, trees_marks, suffixes_marks}
use Rattle.fk_meaning_operation.specs.declared.operation.Operation.{Operation}
use Rattle.fk_meaning_operation.specs.declared.operation.Operation.TheVariants as o
use Rattle.fk_meaning_operation.specs.declared.operation.Variable.TheVariants as v
use Rattle.fk_meaning_operation.specs.declared.operation.OwnValue.TheVariants as n
use Rattle.fk_meaning_operation.specs.declared.operation.Unary.TheVariants as u
use Rattle.fk_meaning_operation.specs.declared.operation.Multiprefix.{Multiprefix}
use Rattle.fk_meaning_operation.specs.declared.operation.Multiprefix.TheVariants.{MpAdd, MpMax, MpAnd, MpOr}
use Rattle.fk_meaning_operation.specs.declared.operation.SplitKind.{SplitKind}
use Rattle.fk_meaning_operation.specs.declared.operation.SplitKind.TheVariants.{IfElse, AndThen, OrElse}
use Rattle.fk_meaning_forms.specs.declared.tables.Home.{Home}
use Rattle.fk_meaning_forms.specs.declared.tables.Home.TheVariants as h
use Rattle.fk_meaning_forms.specs.declared.tables.Region.{Region}
use Rattle.fk_meaning_forms.specs.declared.signs.Move.{Move}
use Rattle.fk_meaning_forms.specs.declared.signs.Move.TheVariants.{Forth, Back, NoMove}
use Rattle.fk_meaning_forms.specs.Code.{done, perform, choose, numbered}
use Rattle.fk_meaning_forms.specs.Tables.{Tables, no_binding, note, kind_at, is_array, is_void, is_unsigned, slot, frame_at}
use Rattle.fk_meaning_forms.specs.Signs.{operator_of, is_shift, move_of}
use Rattle.fk_meaning_forms.specs.Texts.{text_of}
use Rattle.fk_meaning_forms.specs.Expressions.{Coded, nowhere, plain, ResultLocation, OnList, AtAddress, InWord, ToCall, Evaluation, token, spot_of, is_name, Signature, put_bytes, moved, agreed, checked, valued, addressed, fetched, assigned, value_of, dropped, predeclared, placed, variable, operate, updated, one, prefixed, truth, logical, chosen, joined, assignment, member, is_deep, indexed, dotted, pointed, step_back, raised, arguments, framed, parameters, called, multiprefix, with_one, called_predeclared, calling, evaluated, linked, suffixed, all_evaluated, value}
use Rattle.fk_meaning_forms.specs.Statements.{used, used_or, value_or, part_frame}
use Rattle.fk_layout_sizes.specs.Places.{filling}
use Rattle.fk_meaning.specs.Calls.{takes_two, TakesEnough, CallFits, LinksFit, FirstFits, SuffixesFit, AllFit}
use Rattle.fk_meaning.proofs.Spine.{both_ways}
use Rattle.fk_meaning.proofs.Kept.{is_predeclared, entered}
use Rattle.fk_core_flat.specs.Fitting.{NameFits, Takes, Fits, OptionFits}
use Rattle.fk_check_laws.proofs.Each.{Each, front_of, rest_of, three_of}
use Rattle.fk_lower_names.specs.WordRoom.{IsSmall, HasSmallFrames}
use Rattle.fk_lower_laws.specs.Named.{HasWord, IsNamed, HasParameters}
use Rattle.fk_lower_laws.specs.Rooms.{Opens}
use Rattle.fk_lower_laws.proofs.Ok.{names_none, HasItsWord, freely, gets, sets, Ok, ended, on, branch, enters}

module _ (tables : Tables) (functions : (binding : ℕ) → Signature) (has_body : (binding : ℕ) → Bool) (firsts : ℕ) (all most : ℕ → ℕ) (words : ℕ)
    (room : (binding : ℕ) → HasParameters (all binding) (most binding) (functions binding).parameters) (small : HasSmallFrames tables) where
  abbrev pub Fine : Coded → Type 0
  Fine code = Ok firsts all most words code

  abbrev StandsThere : ResultLocation → Type 0
  StandsThere (InWord variable) = HasItsWord firsts words variable
  StandsThere location = Unit {0}

  pub goes : {t : Place} {op : Operation} {rest : Coded} → names_none op ≡ true → Fine rest → Fine (perform t op rest)
  goes {op = op} e p = on (freely firsts words op e) p

  part_ends : Fine (plain o.End done)
  part_ends = goes refl ended

  pub fork : {t : Place} {a b rest : Coded} (op : Operation) → names_none op ≡ true → Fine a → Fine b → Fine rest
      → Fine (choose t op a b rest)
  fork op e p q r = branch (freely firsts words op e) p q r

  pub either : (b : Bool) (c d : Coded) → Fine c → Fine d → Fine (if b then c else d)
  either true c d p q = p
  either false c d p q = q

  abbrev Follows : (ResultLocation → Coded) → Type 0
  Follows k = (s : ResultLocation) → StandsThere s → Fine (k s)

  abbrev Good : Evaluation → Type 0
  Good e = (k : ResultLocation → Coded) → Follows k → Fine (e k)

  abbrev pub Keeps : (Coded → Coded) → Type 0
  Keeps e = (rest : Coded) → Fine rest → Fine (e rest)

  abbrev AllGood : List Evaluation → Type 0
  AllGood [] = Unit {0}
  AllGood (e ∷ es) = Good e × AllGood es

  puts : (bytes : List ℕ) → Keeps (put_bytes bytes)
  puts [] rest p = p
  puts (b ∷ bytes) rest p = (goes refl (goes refl (puts bytes rest p)))

  operator : (sign : Sign) (unsigned : Bool) → Keeps (plain (operator_of sign unsigned))
  operator g.Minus unsigned rest p = (goes refl p)
  operator sign unsigned rest p = (goes refl p)

  moves : (move : Move) (step : ℕ) (sign : Sign) (unsigned : Bool) → Keeps (moved move step (operator_of sign unsigned))
  moves Forth step sign unsigned rest p = (goes refl p)
  moves Back step sign unsigned rest p = (goes refl (goes refl p))
  moves NoMove step sign unsigned rest p = operator sign unsigned rest p

  pub agrees : (sync : Bool) → Keeps (agreed sync)
  agrees true rest p = (goes refl p)
  agrees false rest p = p

  -- where the result of an expression is
  checks : (deep : Bool) (spot : Spot) → Keeps (checked tables functions deep spot)
  checks true spot rest p = (goes refl p)
  checks false spot rest p = p

  values : (s : ResultLocation) → StandsThere s → Keeps (valued tables functions s)
  values (AtAddress deep spot) h rest p =
      either (is_array tables spot.at) rest (checked tables functions deep spot (plain o.Read rest)) p
      (checks deep spot (plain o.Read rest) (goes refl p))
  values (InWord variable) h rest p = on (gets firsts words variable h) p
  values s h rest p = p

  addresses : (s : ResultLocation) → Keeps (addressed tables functions s)
  addresses (AtAddress deep spot) rest p = checks deep spot rest p
  addresses s rest p = p

  fetches : (s : ResultLocation) → StandsThere s → Keeps (fetched tables functions s)
  fetches (AtAddress deep spot) h rest p = checks deep spot (plain o.CopyLast (plain o.Read rest)) (goes refl (goes refl p))
  fetches (InWord variable) h rest p = on (gets firsts words variable h) p
  fetches s h rest p = p

  assigns : (s : ResultLocation) → StandsThere s → Keeps (assigned tables functions s)
  assigns (AtAddress deep spot) h rest p = (goes refl p)
  assigns (InWord variable) h rest p = on (sets firsts words variable h) p
  assigns s h rest p = p

  value_is : (e : Evaluation) → Good e → Keeps (value_of tables functions e)
  value_is e good rest p = good (λ s. valued tables functions s rest) (λ s h. values s h rest p)

  drops : (at : ℕ) → Keeps (dropped tables functions at)
  drops at rest p = either (is_void tables at) rest (plain o.DropLast rest) p (goes refl p)

  -- names
  predeclares : (name : Named) → Good (predeclared tables functions name)
  predeclares name k p =
      by (is_name name (codes "__PROC_NR__")) (is_name name (codes "__STARTED_PROCS__")) (is_name name (codes "__inputs")) (is_name name (codes "__input"))
    where
      by : (a b c d : Bool) → Fine (
          if a then plain (o.Get n.ProcessorNumber) (k OnList)
          else if b then plain (o.Get n.Processors) (k OnList)
          else if c then plain (o.Get n.InputLength) (k OnList)
          else if d then plain (o.Get n.InputAddress) (k (AtAddress false (spot_of name)))
          else k (ToCall name))
      by true b c d = (goes refl (p OnList tt))
      by false true c d = (goes refl (p OnList tt))
      by false false true d = (goes refl (p OnList tt))
      by false false false true = (goes refl (p (AtAddress false (spot_of name)) tt))
      by false false false false = p (ToCall name) tt

  places : (home : Home) (i : ℕ) (name : Named) → HasWord tables firsts words home i → i < 2 ^ 21 → Good (placed tables functions home i name)
  places h.Global i name asks low k p = (goes refl (p (AtAddress false (spot_of name)) tt))
  places h.FilePrivate i name asks low k p = p (InWord (v.OfFile i)) asks
  places h.Private i name asks low k p = p (InWord (v.Private i)) asks
  places (h.Group r) i name asks low k p = on low (p (AtAddress false (spot_of name)) tt)
  places h.NoWord i name asks low k p = p (ToCall name) tt

  names : (name : Named) → IsNamed tables firsts words (Uses name) → Good (variable tables functions name)
  names name asks k p =
      let b = (note tables name.at).binding in
      by (b == no_binding) (predeclared tables functions name k) (placed tables functions (slot tables b).home (slot tables b).index name k)
      (predeclares name k p) (λ h. places (slot tables b).home (slot tables b).index name h (small.places b) k p) asks
    where
      by : {A : Type 0} (is : Bool) (c d : Coded) → Fine c → (A → Fine d) → (is ≡ false → A) → Fine (if is then c else d)
      by true c d p q asks' = p
      by false c d p q asks' = q (asks' refl)

  -- operators
  operates : (sign : Sign) (left right : ℕ) → Keeps (operate tables functions sign left right)
  operates sign left right rest p =
      let unsigned = if is_shift sign then is_unsigned tables left else is_unsigned tables left || is_unsigned tables right in
      let step = (kind_at tables left).step in
      either (step == 0) (plain (operator_of sign unsigned) rest) (moved (move_of sign) step (operator_of sign unsigned) rest)
      (operator sign unsigned rest p) (moves (move_of sign) step sign unsigned rest p)

  updates : (sign : Sign) (target : Evaluation) → Good target → (left right : ℕ) (e : Coded → Coded) → Keeps e → Good (updated tables functions sign target left right e)
  updates sign target good left right e keeps k p =
      good (λ s. fetched tables functions s (e (operate tables functions sign left right (assigned tables functions s (k OnList)))))
      (λ s h.
      let new = assigned tables functions s (k OnList) in
      let whole = operate tables functions sign left right new in
      fetches s h (e whole) (keeps whole (operates sign left right new (assigns s h (k OnList) (p OnList tt)))))

  ones : Keeps (one tables functions)
  ones rest p = (goes refl p)

  prefixes : (spot : Spot) (sign : Sign) (e : Evaluation) → Good e → (at : ℕ) → Good (prefixed tables functions spot sign e at)
  prefixes spot g.Minus e good at k p = value_is e good (plain (o.Apply u.Negate) (k OnList)) (goes refl (p OnList tt))
  prefixes spot g.Tilde e good at k p = value_is e good (plain (o.Apply u.Complement) (k OnList)) (goes refl (p OnList tt))
  prefixes spot g.Exclamation e good at k p = value_is e good (plain (o.Apply u.Not) (k OnList)) (goes refl (p OnList tt))
  prefixes spot g.Star e good at k p = value_is e good (k (AtAddress true spot)) (p (AtAddress true spot) tt)
  prefixes spot g.Ampersand e good at k p =
      good (λ s. addressed tables functions s (k OnList)) (λ s h. addresses s (k OnList) (p OnList tt))
  prefixes spot g.Increment e good at k p = updates g.Plus e good at spot.at (one tables functions) ones k p
  prefixes spot g.Decrement e good at k p = updates g.Minus e good at spot.at (one tables functions) ones k p
  prefixes spot sign e good at k p = value_is e good (k OnList) (p OnList tt)

  truths : (e : Evaluation) → Good e → Keeps (truth tables functions e)
  truths e good rest p = value_is e good (plain (o.Push 0) (plain (o.Binary f.Ne false) rest)) (goes refl (goes refl p))

  logicals : (spot : Spot) (by : SplitKind) (onward : Bool) (other : ℕ) (a : Evaluation) → Good a → (b : Evaluation) → Good b
      → Good (logical tables functions spot by onward other a b)
  logicals spot by onward other a good_a b good_b k p =
      let here = note tables spot.at in
      let parted = choose spot.place (o.Split by) (truth tables functions b (plain o.End done)) done (plain o.Resume (k OnList)) in
      let branched = choose nowhere (o.Branch onward) (truth tables functions b done) (plain (o.Push other) done) (k OnList) in
      value_is a good_a (if here.splits then parted else agreed here.sync branched)
      (either here.splits parted (agreed here.sync branched)
      (fork (o.Split by) refl (truths b good_b (plain o.End done) part_ends) ended (goes refl (p OnList tt)))
      (agrees here.sync branched
      (fork (o.Branch onward) refl (truths b good_b done ended) (goes refl ended) (p OnList tt))))

  chooses : (spot : Spot) (c : Evaluation) → Good c → (a : Evaluation) → Good a → (b : Evaluation) → Good b → Good (chosen tables functions spot c a b)
  chooses spot c good_c a good_a b good_b k p =
      let here = note tables spot.at in
      let parted = choose spot.place (o.Split IfElse) (value_of tables functions a (plain o.End done)) (value_of tables functions b (plain o.End done)) (plain o.Resume (k OnList)) in
      let branched = choose nowhere (o.Branch true) (value_of tables functions a done) (value_of tables functions b done) (k OnList) in
      value_is c good_c (if here.splits then parted else agreed here.sync branched)
      (either here.splits parted (agreed here.sync branched)
      (fork (o.Split IfElse) refl (value_is a good_a (plain o.End done) part_ends) (value_is b good_b (plain o.End done) part_ends) (goes refl (p OnList tt)))
      (agrees here.sync branched
      (fork (o.Branch true) refl (value_is a good_a done ended) (value_is b good_b done ended) (p OnList tt))))

  joins : (spot : Spot) (sign : Sign) (a : Evaluation) → Good a → (left : ℕ) (b : Evaluation) → Good b → (right : ℕ) → Good (joined tables functions spot sign a left b right)
  joins spot g.Comma a good_a left b good_b right k p =
      value_is a good_a (dropped tables functions left (value_of tables functions b (k OnList)))
      (drops left (value_of tables functions b (k OnList)) (value_is b good_b (k OnList) (p OnList tt)))
  joins spot g.AndAnd a good_a left b good_b right k p = logicals spot AndThen true 0 a good_a b good_b k p
  joins spot g.OrOr a good_a left b good_b right k p = logicals spot OrElse false 1 a good_a b good_b k p
  joins spot sign a good_a left b good_b right k p =
      value_is a good_a (value_of tables functions b (operate tables functions sign left right (k OnList)))
      (value_is b good_b (operate tables functions sign left right (k OnList)) (operates sign left right (k OnList) (p OnList tt)))

  gives : (sign : Sign) (target : Evaluation) → Good target → (left : ℕ) (e : Evaluation) → Good e → (right : ℕ) → Good (assignment tables functions sign target left e right)
  gives g.Assign target good left e good_e right k p =
      good (λ s. addressed tables functions s (value_of tables functions e (assigned tables functions s (k OnList))))
      (λ s h.
      let new = assigned tables functions s (k OnList) in
      addresses s (value_of tables functions e new) (value_is e good_e new (assigns s h (k OnList) (p OnList tt))))
  gives sign target good left e good_e right k p =
      updates sign target good left right (value_of tables functions e) (value_is e good_e) k p

  -- suffixes
  indexes : (spot : Spot) (e : Evaluation) → Good e → (by : Evaluation) → Good by → Good (indexed tables functions spot e by)
  indexes spot e good by good_by k p =
      let element = plain (o.Index (4 * (kind_at tables spot.at).words)) (k (AtAddress true spot)) in
      value_is e good (value_of tables functions by element) (value_is by good_by element (goes refl (p (AtAddress true spot) tt)))

  dots : (spot : Spot) (at : ℕ) (e : Evaluation) → Good e → Good (dotted tables functions spot at e)
  dots spot at e good k p =
      good (λ s. member tables functions at (k (AtAddress (is_deep tables functions s) spot)))
      (λ s h. (goes refl (goes refl (p (AtAddress (is_deep tables functions s) spot) tt))))

  points : (spot : Spot) (at : ℕ) (e : Evaluation) → Good e → Good (pointed tables functions spot at e)
  points spot at e good k p =
      value_is e good (member tables functions at (k (AtAddress true spot))) (goes refl (goes refl (p (AtAddress true spot) tt)))

  raises : (sign back : Sign) (e : Evaluation) → Good e → (at : ℕ) → Good (raised tables functions sign back e at)
  raises sign back e good at k p =
      updates sign e good at 0 (one tables functions) ones
      (λ s. plain (o.Push (step_back tables functions at)) (plain (operator_of back false) (k OnList)))
      (λ s h. (goes refl (operator back false (k OnList) (p OnList tt))))

  -- calls
  takes : (xs : List DeclaredTree) (es : List Evaluation) → AllGood es → Keeps (arguments tables functions xs es)
  takes [] [] good rest p = p
  takes [] (e ∷ es) good rest p = p
  takes (y ∷ ys) [] good rest p = p
  takes (y ∷ ys) (e ∷ es) good rest p =
      let others = arguments tables functions ys es rest in
      value_is e good.0 (agreed y.shared others) (agrees y.shared others (takes ys es good.1 rest p))

  frames : (r : Option Region) → IsSmall r → (place : Place) → Keeps (framed tables functions r place)
  frames None low place rest p = p
  frames (Some r) low place rest p = on low p

  -- the opening of a call gets and puts each `sh` parameter, from the private word of its number
  filling_few : (xs : List DeclaredTree) → filling xs ≤ 2
  filling_few [] = omega arith
  filling_few (y ∷ ys) = by y.shared (filling_few ys)
    where
      by : (b : Bool) → filling ys ≤ 2 → (if b then 2 else filling ys) ≤ 2
      by true few = omega arith
      by false few = few

  puts_parameters : (own m i : ℕ) (xs : List DeclaredTree) → i + length xs ≤ own → filling xs ≤ m → (first : ℕ) → Opens firsts own m 0 (numbered first (parameters tables functions i xs))
  puts_parameters own m i [] fits few first = omega arith
  puts_parameters own m i (y ∷ ys) fits few first =
      let others = parameters tables functions (suc i) ys in
      let shared = plain (o.Get (n.FrameAddress 0 (slot tables (note tables y.name.at).binding).index)) (plain (o.Get (n.Value (v.Private i))) (plain o.Write (plain o.DropLast others))) in
      by y.shared shared others few
      (λ two.
      let inner = filling_few ys in
      let rest = puts_parameters own m (suc i) ys (omega (arith, fits)) (omega (arith, two, inner)) (suc (suc (suc (suc first)))) in
      (small.places (note tables y.name.at).binding, omega arith, (omega (arith, fits), omega (arith, two), (tt, two, (tt, omega (arith, two), rest)))))
      (λ less. puts_parameters own m (suc i) ys (omega (arith, fits)) less first)
    where
      by : (b : Bool) (c d : Coded) → (if b then 2 else filling ys) ≤ m → (2 ≤ m → Opens firsts own m 0 (numbered first c)) → (filling ys ≤ m → Opens firsts own m 0 (numbered first d))
          → Opens firsts own m 0 (numbered first (if b then c else d))
      by true c d few' f g = f few'
      by false c d few' f g = g few'

  opens : (own m : ℕ) (r : Option Region) → IsSmall r → (place : Place) (xs : List DeclaredTree) → HasParameters own m xs → (first : ℕ)
      → Opens firsts own m 0 (numbered first (framed tables functions r place (parameters tables functions 0 xs)))
  opens own m None low place xs has first = puts_parameters own m 0 xs (let fits = has.own in omega (arith, fits)) has.values first
  opens own m (Some r) low place xs has first =
      (low, omega arith, puts_parameters own m 0 xs (let fits = has.own in omega (arith, fits)) has.values (suc first))

  calls : (name : Named) (es : List Evaluation) → AllGood es → Good (called tables functions name es)
  calls name es good k p =
      let b = (note tables name.at).binding in
      let function = functions b in
      takes function.parameters es good (entered tables functions name (k OnList))
      (enters (opens (all b) (most b) (frame_at tables function.at 0) (small.frames function.at 0) name.place function.parameters (room b)) (room b).few (p OnList tt))

  both_good : (name : Named) (by : Multiprefix) (a b : Evaluation) (es : List Evaluation) → Good a → Good b → Good (multiprefix tables functions name by (a ∷ b ∷ es))
  both_good name by a b es good_a good_b k p =
      let request = plain (o.Combine by) (k OnList) in
      value_is a good_a (perform name.place (o.Check true) (value_of tables functions b request)) (goes refl (value_is b good_b request (goes refl (p OnList tt))))

  one_good : (after : Coded → Coded) → Keeps after → (e : Evaluation) (es : List Evaluation) → Good e → Good (with_one tables functions after (e ∷ es))
  one_good after keeps e es good k p = value_is e good (after (k OnList)) (keeps (k OnList) (p OnList tt))

  -- calls of predeclared functions
  module _ (name : Named) (es : List Evaluation) (k : ResultLocation → Coded) (p : Follows k) where
    abbrev other_calls : Coded
    other_calls =
        if is_name name (codes "groupsize") then plain (o.Get n.GroupSize) (k OnList)
        else if is_name name (codes "putint") then with_one tables functions (plain o.PrintNumber) es k
        else if is_name name (codes "putchar") then with_one tables functions (plain o.PrintByte) es k
        else if is_name name (codes "malloc") then with_one tables functions (plain o.Take) es k
        else if is_name name (codes "shmalloc") then with_one tables functions (plain o.Heap) es k
        else with_one tables functions (λ rest. plain o.Agree (plain o.Block rest)) es k

    with_ones : ((after : Coded → Coded) → Keeps after → Fine (with_one tables functions after es k)) → (a b c d : Bool) → Fine (
        if a then with_one tables functions (plain o.PrintNumber) es k
        else if b then with_one tables functions (plain o.PrintByte) es k
        else if c then with_one tables functions (plain o.Take) es k
        else if d then with_one tables functions (plain o.Heap) es k
        else with_one tables functions (λ rest. plain o.Agree (plain o.Block rest)) es k)
    with_ones one true b c d = one (plain o.PrintNumber) (λ rest q. (goes refl q))
    with_ones one false true c d = one (plain o.PrintByte) (λ rest q. (goes refl q))
    with_ones one false false true d = one (plain o.Take) (λ rest q. (goes refl q))
    with_ones one false false false true = one (plain o.Heap) (λ rest q. (goes refl q))
    with_ones one false false false false = one (λ rest. plain o.Agree (plain o.Block rest)) (λ rest q. (goes refl (goes refl q)))

    sizes : (is : Bool) → is_name name (codes "groupsize") ≡ is
        → (is ≡ false → (after : Coded → Coded) → Keeps after → Fine (with_one tables functions after es k)) → Fine other_calls
    sizes true e one =
        subst (λ b. Fine (
        if b then plain (o.Get n.GroupSize) (k OnList)
        else if is_name name (codes "putint") then with_one tables functions (plain o.PrintNumber) es k
        else if is_name name (codes "putchar") then with_one tables functions (plain o.PrintByte) es k
        else if is_name name (codes "malloc") then with_one tables functions (plain o.Take) es k
        else if is_name name (codes "shmalloc") then with_one tables functions (plain o.Heap) es k
        else with_one tables functions (λ rest. plain o.Agree (plain o.Block rest)) es k)) (sym e) (goes refl (p OnList tt))
    sizes false e one =
        either (is_name name (codes "groupsize")) (plain (o.Get n.GroupSize) (k OnList)) _ (goes refl (p OnList tt))
        (with_ones (one refl) (is_name name (codes "putint")) (is_name name (codes "putchar")) (is_name name (codes "malloc")) (is_name name (codes "shmalloc")))

    multiprefixes : (a b c d : Bool) → ((a || (b || (c || d))) ≡ true → (by : Multiprefix) → Fine (multiprefix tables functions name by es k))
        → ((a || (b || (c || d))) ≡ false → Fine other_calls) → Fine (
        if a then multiprefix tables functions name MpAdd es k
        else if b then multiprefix tables functions name MpMax es k
        else if c then multiprefix tables functions name MpAnd es k
        else if d then multiprefix tables functions name MpOr es k
        else other_calls)
    multiprefixes true b c d two one = two refl MpAdd
    multiprefixes false true c d two one = two refl MpMax
    multiprefixes false false true d two one = two refl MpAnd
    multiprefixes false false false true two one = two refl MpOr
    multiprefixes false false false false two one = one refl

    all_predeclared : (takes_two name ≡ true → (by : Multiprefix) → Fine (multiprefix tables functions name by es k))
        → (takes_two name ≡ false → is_name name (codes "groupsize") ≡ false → (after : Coded → Coded) → Keeps after → Fine (with_one tables functions after es k))
        → Fine (called_predeclared tables functions name es k)
    all_predeclared two one =
        multiprefixes (is_name name (codes "mpadd")) (is_name name (codes "mpmax")) (is_name name (codes "mpand")) (is_name name (codes "mpor")) two
        (λ not_two. sizes (is_name name (codes "groupsize")) refl (one not_two))

  -- with the arguments of a call
  calls_predeclared : (name : Named) (arguments' : Trees) → AllGood (all_evaluated tables functions arguments') → TakesEnough name arguments'
      → Good (called_predeclared tables functions name (all_evaluated tables functions arguments'))
  calls_predeclared name t.no_trees good enough k p =
      all_predeclared name [] k p (λ two. both_ways (takes_two name) two enough.0)
      (λ not_two not_size. both_ways (is_name name (codes "groupsize")) enough.1 not_size)
  calls_predeclared name (t.tree first t.no_trees) good enough k p =
      all_predeclared name (evaluated tables functions first ∷ []) k p (λ two. both_ways (takes_two name) two enough)
      (λ not_two not_size after keeps. one_good after keeps (evaluated tables functions first) [] good.0 k p)
  calls_predeclared name (t.tree first (t.tree second more)) good enough k p =
      let es = all_evaluated tables functions more in
      all_predeclared name (evaluated tables functions first ∷ evaluated tables functions second ∷ es) k p
      (λ two by. both_good name by (evaluated tables functions first) (evaluated tables functions second) es good.0 good.1.0 k p)
      (λ not_two not_size after keeps. one_good after keeps (evaluated tables functions first) (evaluated tables functions second ∷ es) good.0 k p)

  called_by : (name : Named) (arguments' : Trees) → AllGood (all_evaluated tables functions arguments')
      → (predeclared' : Bool) → NameFits tables functions has_body predeclared' name arguments'
      → (k : ResultLocation → Coded) → Follows k
      → Fine (if predeclared' then called_predeclared tables functions name (all_evaluated tables functions arguments') k else called tables functions name (all_evaluated tables functions arguments') k)
  called_by name arguments' good true taken k p = calls_predeclared name arguments' good taken k p
  called_by name arguments' good false taken k p = calls name (all_evaluated tables functions arguments') good k p

  call_is : (whole : Tree) (arguments' : Trees) → CallFits tables functions (Takes tables functions has_body) whole arguments' → AllGood (all_evaluated tables functions arguments')
      → Good (λ j. evaluated tables functions whole (calling tables functions (all_evaluated tables functions arguments') j))
  call_is (t.Variable name) arguments' fits good k p =
      let es = all_evaluated tables functions arguments' in
      subst Fine (sym (fits.0 (calling tables functions es k)))
      (called_by name arguments' good (is_predeclared tables name) fits.1 k p)
  call_is (t.Number spot number unsigned) arguments' fits good k p = absurd fits
  call_is (t.Puts spot text) arguments' fits good k p = absurd fits
  call_is (t.Sizeof spot type) arguments' fits good k p = absurd fits
  call_is (t.GroupNumber spot) arguments' fits good k p = absurd fits
  call_is (t.GroupRank spot) arguments' fits good k p = absurd fits
  call_is (t.Prefix spot sign operand) arguments' fits good k p = absurd fits
  call_is (t.Cast spot type operand) arguments' fits good k p = absurd fits
  call_is (t.Chain first t.no_links) arguments' fits good k p = call_is first arguments' fits good k p
  call_is (t.Chain first (t.link spot sign right others)) arguments' fits good k p = absurd fits
  call_is (t.Postfix whole t.no_suffixes) arguments' fits good k p = call_is whole arguments' fits good k p
  call_is (t.Postfix whole (t.index spot by others)) arguments' fits good k p = absurd fits
  call_is (t.Postfix whole (t.call spot arguments others)) arguments' fits good k p = absurd fits
  call_is (t.Postfix whole (t.dot spot member others)) arguments' fits good k p = absurd fits
  call_is (t.Postfix whole (t.arrow spot member others)) arguments' fits good k p = absurd fits
  call_is (t.Postfix whole (t.up spot others)) arguments' fits good k p = absurd fits
  call_is (t.Postfix whole (t.down spot others)) arguments' fits good k p = absurd fits
  call_is (t.Assign spot sign target value) arguments' fits good k p = absurd fits
  call_is (t.Choose spot condition first second) arguments' fits good k p = absurd fits

  -- expressions
  abbrev Is : MarkTree → Type 0
  Is = IsNamed tables firsts words

  abbrev Scoped : List MarkTree → Type 0
  Scoped marks = Each Is marks

  mutual
    expression : (e : Tree) → Fits tables functions has_body e → Scoped (tree_marks e) → Good (evaluated tables functions e)
    expression (t.Number spot number unsigned) fits asks k p = (goes refl (p OnList tt))
    expression (t.Puts spot text) fits asks k p = puts (text_of text) (k OnList) (p OnList tt)
    expression (t.Sizeof spot type) fits asks k p = (goes refl (p OnList tt))
    expression (t.Variable name) fits asks k p = names name asks.0 k p
    expression (t.GroupNumber spot) fits asks k p = (goes refl (p OnList tt))
    expression (t.GroupRank spot) fits asks k p = (goes refl (p OnList tt))
    expression (t.Prefix spot sign operand) fits asks k p = prefixes spot sign (evaluated tables functions operand) (expression operand fits asks) (token operand) k p
    expression (t.Cast spot type operand) fits asks k p = value_is (evaluated tables functions operand) (expression operand fits asks) (k OnList) (p OnList tt)
    expression (t.Chain first links) fits asks k p =
        chain (evaluated tables functions first) (expression first fits.0 (front_of Is (tree_marks first) (links_marks links) asks)) (token first) links fits.1
        (rest_of Is (tree_marks first) (links_marks links) asks) k p
    expression (t.Postfix whole suffixes) fits asks k p =
        first_suffix whole (expression whole fits.0 (front_of Is (tree_marks whole) (suffixes_marks suffixes) asks)) suffixes fits.1
        (rest_of Is (tree_marks whole) (suffixes_marks suffixes) asks) k p
    expression (t.Assign spot sign target value) fits asks k p =
        gives sign (evaluated tables functions target) (expression target fits.0 (front_of Is (tree_marks target) (tree_marks value) asks)) (token target)
        (evaluated tables functions value) (expression value fits.1 (rest_of Is (tree_marks target) (tree_marks value) asks)) (token value) k p
    expression (t.Choose spot condition first second) fits asks k p =
        let ms = three_of Is (tree_marks condition) (tree_marks first) (tree_marks second) asks in
        chooses spot (evaluated tables functions condition) (expression condition fits.0 ms.0) (evaluated tables functions first) (expression first fits.1 ms.1)
        (evaluated tables functions second) (expression second fits.2 ms.2) k p

    chain : (e : Evaluation) → Good e → (at : ℕ) (links : Links) → LinksFit tables functions (Takes tables functions has_body) links → Scoped (links_marks links)
        → Good (linked tables functions e at links)
    chain e good at t.no_links fits asks k p = good k p
    chain e good at (t.link spot sign right others) fits asks k p =
        chain (joined tables functions spot sign e at (evaluated tables functions right) (token right))
        (joins spot sign e good at (evaluated tables functions right) (expression right fits.0 (front_of Is (tree_marks right) (links_marks others) asks)) (token right))
        spot.at others fits.1 (rest_of Is (tree_marks right) (links_marks others) asks) k p

    first_suffix : (whole : Tree) → Good (evaluated tables functions whole) → (suffixes : Suffixes) → FirstFits tables functions (Takes tables functions has_body) whole suffixes
        → Scoped (suffixes_marks suffixes) → Good (suffixed tables functions (evaluated tables functions whole) (token whole) suffixes)
    first_suffix whole good t.no_suffixes fits asks k p = good k p
    first_suffix whole good (t.index spot by others) fits asks k p =
        let e = evaluated tables functions whole in
        postfix (indexed tables functions spot e (evaluated tables functions by))
        (indexes spot e good (evaluated tables functions by) (expression by fits.0 (front_of Is (tree_marks by) (suffixes_marks others) asks)))
        spot.at others fits.1 (rest_of Is (tree_marks by) (suffixes_marks others) asks) k p
    first_suffix whole good (t.call spot arguments' others) fits asks k p =
        let es = all_evaluated tables functions arguments' in
        postfix (λ j. evaluated tables functions whole (calling tables functions es j))
        (call_is whole arguments' fits.0 (all_expressions arguments' fits.1 (front_of Is (trees_marks arguments') (suffixes_marks others) asks)))
        spot.at others fits.2 (rest_of Is (trees_marks arguments') (suffixes_marks others) asks) k p
    first_suffix whole good (t.dot spot name others) fits asks k p =
        let e = evaluated tables functions whole in
        postfix (dotted tables functions spot name.at e) (dots spot name.at e good) spot.at others fits asks k p
    first_suffix whole good (t.arrow spot name others) fits asks k p =
        let e = evaluated tables functions whole in
        postfix (pointed tables functions spot name.at e) (points spot name.at e good) spot.at others fits asks k p
    first_suffix whole good (t.up spot others) fits asks k p =
        let e = evaluated tables functions whole in
        postfix (raised tables functions g.Plus g.Minus e (token whole)) (raises g.Plus g.Minus e good (token whole)) spot.at others fits asks k p
    first_suffix whole good (t.down spot others) fits asks k p =
        let e = evaluated tables functions whole in
        postfix (raised tables functions g.Minus g.Plus e (token whole)) (raises g.Minus g.Plus e good (token whole)) spot.at others fits asks k p

    postfix : (e : Evaluation) → Good e → (at : ℕ) (suffixes : Suffixes) → SuffixesFit tables functions (Takes tables functions has_body) suffixes → Scoped (suffixes_marks suffixes)
        → Good (suffixed tables functions e at suffixes)
    postfix e good at t.no_suffixes fits asks k p = good k p
    postfix e good at (t.index spot by others) fits asks k p =
        postfix (indexed tables functions spot e (evaluated tables functions by))
        (indexes spot e good (evaluated tables functions by) (expression by fits.0 (front_of Is (tree_marks by) (suffixes_marks others) asks)))
        spot.at others fits.1 (rest_of Is (tree_marks by) (suffixes_marks others) asks) k p
    postfix e good at (t.call spot arguments' others) fits asks k p = absurd fits
    postfix e good at (t.dot spot name others) fits asks k p = postfix (dotted tables functions spot name.at e) (dots spot name.at e good) spot.at others fits asks k p
    postfix e good at (t.arrow spot name others) fits asks k p = postfix (pointed tables functions spot name.at e) (points spot name.at e good) spot.at others fits asks k p
    postfix e good at (t.up spot others) fits asks k p = postfix (raised tables functions g.Plus g.Minus e at) (raises g.Plus g.Minus e good at) spot.at others fits asks k p
    postfix e good at (t.down spot others) fits asks k p = postfix (raised tables functions g.Minus g.Plus e at) (raises g.Minus g.Plus e good at) spot.at others fits asks k p

    all_expressions : (es : Trees) → AllFit tables functions (Takes tables functions has_body) es → Scoped (trees_marks es) → AllGood (all_evaluated tables functions es)
    all_expressions t.no_trees fits asks = tt
    all_expressions (t.tree first others) fits asks =
        (expression first fits.0 (front_of Is (tree_marks first) (trees_marks others) asks), all_expressions others fits.1 (rest_of Is (tree_marks first) (trees_marks others) asks))

  pub values_kept : (e : Tree) → Fits tables functions has_body e → Scoped (tree_marks e) → Keeps (value tables functions e)
  values_kept e fits asks rest p = value_is (evaluated tables functions e) (expression e fits asks) rest p

  -- what statements have of expressions
  pub uses : (e : Tree) → Fits tables functions has_body e → Scoped (tree_marks e) → Keeps (used tables functions e)
  uses e fits asks rest p = values_kept e fits asks (dropped tables functions (token e) rest) (drops (token e) rest p)

  pub uses_or : (e : Option Tree) → OptionFits tables functions has_body e → Scoped (optional_marks e) → Keeps (used_or tables functions e)
  uses_or None fits asks rest p = p
  uses_or (Some e) fits asks rest p = uses e fits asks rest p

  pub gives_or : (absent : Coded → Coded) → Keeps absent → (e : Option Tree) → OptionFits tables functions has_body e → Scoped (optional_marks e)
      → Keeps (value_or tables functions absent e)
  gives_or absent keeps None fits asks rest p = keeps rest p
  gives_or absent keeps (Some e) fits asks rest p = values_kept e fits asks rest p

  pub part_frames : (spot : Spot) (number : ℕ) → Keeps (part_frame tables functions spot number)
  part_frames spot number rest p = frames (frame_at tables spot.at number) (small.frames spot.at number) spot.place rest p
