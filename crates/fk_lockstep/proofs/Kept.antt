-- The code of expressions is as wanted before code that is, where it is told of their tokens what is asked there.
use Rattle.std.proofs.Common.{◌≡◌, ℕ, Bool, true, false, true≢false, List, [], ◌∷◌, ◌∙◌, sym, refl}
use Rattle.std.specs.Prelude.{◌==◌, ◌*◌, ◌||◌, codes, if◌then◌else◌}
use Rattle.fk_num.specs.declared.operator.Op.TheVariants as f
use Rattle.fk_syntax.specs.declared.place.Place.{Place}
use Rattle.fk_syntax.specs.declared.place.Spot.{Spot}
use Rattle.fk_syntax.specs.declared.sign.Sign.{Sign}
use Rattle.fk_syntax.specs.declared.sign.Sign.TheVariants as g
use Rattle.fk_syntax.specs.Tree as t
use Rattle.fk_syntax.specs.Tree.{Named, Tree, Links, Trees, Suffixes}
use Rattle.fk_syntax.specs.Program.{DeclaredTree}
use Rattle.fk_meaning_operation.specs.declared.operation.Operation.{Operation}
use Rattle.fk_meaning_operation.specs.declared.operation.Operation.TheVariants as o
use Rattle.fk_meaning_operation.specs.declared.operation.Variable.TheVariants as v
use Rattle.fk_meaning_operation.specs.declared.operation.OwnValue.TheVariants as n
use Rattle.fk_meaning_operation.specs.declared.operation.Unary.TheVariants as u
use Rattle.fk_meaning_operation.specs.declared.operation.Multiprefix.{Multiprefix}
use Rattle.fk_meaning_operation.specs.declared.operation.Multiprefix.TheVariants.{MpAdd, MpMax, MpAnd, MpOr}
use Rattle.fk_meaning_operation.specs.declared.operation.SplitKind.{SplitKind}
use Rattle.fk_meaning_operation.specs.declared.operation.SplitKind.TheVariants.{IfElse, AndThen, OrElse}
use Rattle.fk_meaning_forms.specs.declared.tables.Home.{Home}
use Rattle.fk_meaning_forms.specs.declared.tables.Home.TheVariants as h
use Rattle.fk_meaning_forms.specs.declared.signs.Move.{Move}
use Rattle.fk_meaning_forms.specs.declared.signs.Move.TheVariants.{Forth, Back, NoMove}
use Rattle.fk_meaning_forms.specs.Code.{done, perform, choose}
use Rattle.fk_meaning_forms.specs.Tables.{Tables, no_binding, note, kind_at, is_array, is_void, is_unsigned, slot}
use Rattle.fk_meaning_forms.specs.Signs.{operator_of, is_shift, move_of}
use Rattle.fk_meaning_forms.specs.Texts.{text_of}
use Rattle.fk_meaning_forms.specs.Expressions.{Coded, nowhere, plain, ResultLocation, OnList, AtAddress, InWord, ToCall, Evaluation, token, spot_of, is_name, Signature, put_bytes, moved, agreed, checked, valued, addressed, fetched, assigned, value_of, dropped, predeclared, placed, variable, operate, updated, one, prefixed, truth, logical, chosen, joined, assignment, member, is_deep, indexed, dotted, pointed, step_back, raised, arguments, called, multiprefix, with_one, called_predeclared, calling, evaluated, linked, suffixed, all_evaluated, value}
use Rattle.fk_meaning.proofs.Kept.{is_inner, entered}
use Rattle.fk_lockstep.specs.Told.{is_logical, Told, LinksTold, SuffixesTold, AllTold}
use Rattle.fk_lockstep.specs.Allots.{one_of, is_value_name, is_other_call, Allots}

-- the operations that expressions perform by themselves
abbrev pub is_plain : Operation → Bool
is_plain o.Resume = false
is_plain o.Block = false
is_plain (o.Frame nesting words) = false
is_plain op = is_inner op

-- and which don't agree
abbrev pub is_quiet : Operation → Bool
is_quiet o.Agree = false
is_quiet op = is_plain op

pub quiet_plain : (op : Operation) → is_quiet op ≡ true → is_plain op ≡ true
quiet_plain o.Agree e = absurd (true≢false (sym e))
quiet_plain op e = e

-- the splits of expressions
abbrev pub is_of_value : SplitKind → Bool
is_of_value IfElse = true
is_of_value AndThen = true
is_of_value OrElse = true
is_of_value by = false

-- an agree may stand behind the argument of each parameter with `sh`
module _ {W : Type 0} (Fine : W → Coded → Type 0) where
  abbrev pub SharesAgree : W → List DeclaredTree → Type 0
  SharesAgree who [] = Unit {0}
  SharesAgree who (x ∷ xs) = (x.shared ≡ true → (rest : Coded) → Fine who rest → Fine who (plain o.Agree rest)) × SharesAgree who xs

  pub all_agree : (who : W) → ((rest : Coded) → Fine who rest → Fine who (plain o.Agree rest)) → (xs : List DeclaredTree) → SharesAgree who xs
  all_agree who agrees [] = tt
  all_agree who agrees (x ∷ xs) = ((λ e rest p. agrees rest p), all_agree who agrees xs)

-- What is wanted of code is one of W, and `Fine` says which code is so. In an arm or a part another is wanted, of which as much
-- is told. An agree stands before a branch, before `shalloc`, and behind arguments
pub record IsKept (tables : Tables) (functions : (binding : ℕ) → Signature) (W : Type 0) (Fine : W → Coded → Type 0)
    (Decides : W → (at : ℕ) → Type 0) (Means : W → Named → Type 0) : Type 0 where
  pub inner : W → W
  pub told : (who : W) (e : Tree) → Told (Decides who) (Means who) e → Told (Decides (inner who)) (Means (inner who)) e
  pub performs : (who : W) (t : Place) (op : Operation) (rest : Coded) → is_quiet op ≡ true → Fine who rest → Fine who (perform t op rest)
  pub allots : (who : W) (name : Named) (rest : Coded) → Means who name → Allots tables name → Fine who rest → Fine who (plain o.Agree (plain o.Block rest))
  pub ends : (who : W) → Fine who done
  pub part_ends : (who : W) → Fine who (plain o.End done)
  pub divides : (who : W) (spot : Spot) (by : SplitKind) (a b rest : Coded) → is_of_value by ≡ true → Decides who spot.at → (note tables spot.at).splits ≡ true
      → Fine (inner who) a → Fine (inner who) b → Fine who rest → Fine who (choose spot.place (o.Split by) a b (plain o.Resume rest))
  pub branches : (who : W) (spot : Spot) (onward : Bool) (a b rest : Coded) → Decides who spot.at → Fine (inner who) a → Fine (inner who) b → Fine who rest
      → Fine who (agreed (note tables spot.at).sync (choose nowhere (o.Branch onward) a b rest))
  pub shares : (who : W) (name : Named) → Means who name → SharesAgree Fine who (functions (note tables name.at).binding).parameters
  pub enters : (who : W) (name : Named) (rest : Coded) → Means who name → Fine who rest → Fine who (entered tables functions name rest)

module _ {tables : Tables} {functions : (binding : ℕ) → Signature} {W : Type 0} {Fine : W → Coded → Type 0} {Decides : W → (at : ℕ) → Type 0} {Means : W → Named → Type 0}
    (kept : IsKept tables functions W Fine Decides Means) where
  on : {who : W} {t : Place} {op : Operation} {rest : Coded} → is_quiet op ≡ true → Fine who rest → Fine who (perform t op rest)
  on {who = who} {t = t} {op = op} {rest = rest} e p = kept.performs who t op rest e p

  abbrev pub Ok : W → Coded → Type 0
  Ok who code = Fine who code

  pub either : (who : W) → (b : Bool) (x y : Coded) → Ok who x → Ok who y → Ok who (if b then x else y)
  either who true x y p q = p
  either who false x y p q = q

  either_told : (who : W) → (b : Bool) (x y : Coded) → (b ≡ true → Ok who x) → (b ≡ false → Ok who y) → Ok who (if b then x else y)
  either_told who true x y p q = p refl
  either_told who false x y p q = q refl

  -- a name stands as one of a function only where it means one that may be called
  abbrev Fits : (who : W) → ResultLocation → Type 0
  Fits who (ToCall name) = Means who name × (((note tables name.at).binding == no_binding) ≡ true → is_value_name name ≡ false)
  Fits who location = Unit {0}

  abbrev Follows : (who : W) → (ResultLocation → Coded) → Type 0
  Follows who k = (s : ResultLocation) → Fits who s → Ok who (k s)

  abbrev pub Good : (who : W) → Evaluation → Type 0
  Good who e = (k : ResultLocation → Coded) → Follows who k → Ok who (e k)

  abbrev AllGood : (who : W) → List Evaluation → Type 0
  AllGood who [] = Unit {0}
  AllGood who (e ∷ es) = Good who e × AllGood who es

  puts : (who : W) → (bytes : List ℕ) (rest : Coded) → Ok who rest → Ok who (put_bytes bytes rest)
  puts who [] rest p = p
  puts who (b ∷ bytes) rest p = (on refl (on refl (puts who bytes rest p)))

  operator : (who : W) → (sign : Sign) (unsigned : Bool) (rest : Coded) → Ok who rest → Ok who (plain (operator_of sign unsigned) rest)
  operator who g.Minus unsigned rest p = (on refl p)
  operator who sign unsigned rest p = (on refl p)

  moves : (who : W) → (move : Move) (step : ℕ) (sign : Sign) (unsigned : Bool) (rest : Coded) → Ok who rest → Ok who (moved move step (operator_of sign unsigned) rest)
  moves who Forth step sign unsigned rest p = (on refl p)
  moves who Back step sign unsigned rest p = (on refl (on refl p))
  moves who NoMove step sign unsigned rest p = operator who sign unsigned rest p

  agrees_or : (who : W) → (sync : Bool) (rest : Coded) → (sync ≡ true → (rest' : Coded) → Ok who rest' → Ok who (plain o.Agree rest')) → Ok who rest → Ok who (agreed sync rest)
  agrees_or who true rest agrees p = agrees refl rest p
  agrees_or who false rest agrees p = p

  -- where the result of an expression is
  checks : (who : W) → (deep : Bool) (spot : Spot) (rest : Coded) → Ok who rest → Ok who (checked tables functions deep spot rest)
  checks who true spot rest p = (on refl p)
  checks who false spot rest p = p

  values : (who : W) → (s : ResultLocation) (rest : Coded) → Ok who rest → Ok who (valued tables functions s rest)
  values who (AtAddress deep spot) rest p =
      either who (is_array tables spot.at) rest (checked tables functions deep spot (plain o.Read rest)) p
      (checks who deep spot (plain o.Read rest) (on refl p))
  values who (InWord variable) rest p = (on refl p)
  values who s rest p = p

  pub addresses : (who : W) → (s : ResultLocation) (rest : Coded) → Ok who rest → Ok who (addressed tables functions s rest)
  addresses who (AtAddress deep spot) rest p = checks who deep spot rest p
  addresses who s rest p = p

  fetches : (who : W) → (s : ResultLocation) (rest : Coded) → Ok who rest → Ok who (fetched tables functions s rest)
  fetches who (AtAddress deep spot) rest p = checks who deep spot (plain o.CopyLast (plain o.Read rest)) (on refl (on refl p))
  fetches who (InWord variable) rest p = (on refl p)
  fetches who s rest p = p

  pub assigns : (who : W) → (s : ResultLocation) (rest : Coded) → Ok who rest → Ok who (assigned tables functions s rest)
  assigns who (AtAddress deep spot) rest p = (on refl p)
  assigns who (InWord variable) rest p = (on refl p)
  assigns who s rest p = p

  value_is : (who : W) → (e : Evaluation) → Good who e → (rest : Coded) → Ok who rest → Ok who (value_of tables functions e rest)
  value_is who e good rest p = good (λ s. valued tables functions s rest) (λ s fits. values who s rest p)

  pub drops : (who : W) → (at : ℕ) (rest : Coded) → Ok who rest → Ok who (dropped tables functions at rest)
  drops who at rest p = either who (is_void tables at) rest (plain o.DropLast rest) p (on refl p)

  -- names
  predeclares : (who : W) → (name : Named) → Means who name → Good who (predeclared tables functions name)
  predeclares who name means k p =
      by (is_name name (codes "__PROC_NR__")) (is_name name (codes "__STARTED_PROCS__")) (is_name name (codes "__inputs")) (is_name name (codes "__input")) refl
    where
      by : (a b c d : Bool) → is_value_name name ≡ one_of a b c d → Ok who (
          if a then plain (o.Get n.ProcessorNumber) (k OnList)
          else if b then plain (o.Get n.Processors) (k OnList)
          else if c then plain (o.Get n.InputLength) (k OnList)
          else if d then plain (o.Get n.InputAddress) (k (AtAddress false (spot_of name)))
          else k (ToCall name))
      by true b c d e = (on refl (p OnList tt))
      by false true c d e = (on refl (p OnList tt))
      by false false true d e = (on refl (p OnList tt))
      by false false false true e = (on refl (p (AtAddress false (spot_of name)) tt))
      by false false false false e = p (ToCall name) (means, (λ f. e))

  places : (who : W) → (home : Home) (i : ℕ) (name : Named) → Means who name → ((note tables name.at).binding == no_binding) ≡ false → Good who (placed tables functions home i name)
  places who h.Global i name means own k p = (on refl (p (AtAddress false (spot_of name)) tt))
  places who h.FilePrivate i name means own k p = p (InWord (v.OfFile i)) tt
  places who h.Private i name means own k p = p (InWord (v.Private i)) tt
  places who (h.Group r) i name means own k p = (on refl (p (AtAddress false (spot_of name)) tt))
  places who h.NoWord i name means own k p = p (ToCall name) (means, (λ f. absurd (true≢false (sym f ∙ own))))

  pub names : (who : W) → (name : Named) → Means who name → Good who (variable tables functions name)
  names who name means k p =
      let b = (note tables name.at).binding in
      either_told who (b == no_binding) (predeclared tables functions name k) (placed tables functions (slot tables b).home (slot tables b).index name k)
      (λ e. predeclares who name means k p) (λ e. places who (slot tables b).home (slot tables b).index name means e k p)

  -- operators
  operates : (who : W) → (sign : Sign) (left right : ℕ) (rest : Coded) → Ok who rest → Ok who (operate tables functions sign left right rest)
  operates who sign left right rest p =
      let unsigned = if is_shift sign then is_unsigned tables left else is_unsigned tables left || is_unsigned tables right in
      let step = (kind_at tables left).step in
      either who (step == 0) (plain (operator_of sign unsigned) rest) (moved (move_of sign) step (operator_of sign unsigned) rest)
      (operator who sign unsigned rest p) (moves who (move_of sign) step sign unsigned rest p)

  updates : (who : W) → (sign : Sign) (target : Evaluation) → Good who target → (left right : ℕ) (e : Coded → Coded) → ((rest : Coded) → Ok who rest → Ok who (e rest))
      → Good who (updated tables functions sign target left right e)
  updates who sign target good left right e keeps k p =
      good (λ s. fetched tables functions s (e (operate tables functions sign left right (assigned tables functions s (k OnList)))))
      (λ s fits.
      let new = assigned tables functions s (k OnList) in
      let whole = operate tables functions sign left right new in
      fetches who s (e whole) (keeps whole (operates who sign left right new (assigns who s (k OnList) (p OnList tt)))))

  ones : (who : W) → (rest : Coded) → Ok who rest → Ok who (one tables functions rest)
  ones who rest p = (on refl p)

  prefixes : (who : W) → (spot : Spot) (sign : Sign) (e : Evaluation) → Good who e → (at : ℕ) → Good who (prefixed tables functions spot sign e at)
  prefixes who spot g.Minus e good at k p = value_is who e good (plain (o.Apply u.Negate) (k OnList)) (on refl (p OnList tt))
  prefixes who spot g.Tilde e good at k p = value_is who e good (plain (o.Apply u.Complement) (k OnList)) (on refl (p OnList tt))
  prefixes who spot g.Exclamation e good at k p = value_is who e good (plain (o.Apply u.Not) (k OnList)) (on refl (p OnList tt))
  prefixes who spot g.Star e good at k p = value_is who e good (k (AtAddress true spot)) (p (AtAddress true spot) tt)
  prefixes who spot g.Ampersand e good at k p =
      good (λ s. addressed tables functions s (k OnList)) (λ s fits. addresses who s (k OnList) (p OnList tt))
  prefixes who spot g.Increment e good at k p = updates who g.Plus e good at spot.at (one tables functions) (ones who) k p
  prefixes who spot g.Decrement e good at k p = updates who g.Minus e good at spot.at (one tables functions) (ones who) k p
  prefixes who spot sign e good at k p = value_is who e good (k OnList) (p OnList tt)

  truths : (who : W) → (e : Evaluation) → Good who e → (rest : Coded) → Ok who rest → Ok who (truth tables functions e rest)
  truths who e good rest p = value_is who e good (plain (o.Push 0) (plain (o.Binary f.Ne false) rest)) (on refl (on refl p))

  pub splits_to : (b : Bool) (who : W) (x y : Coded) → (b ≡ true → Ok who x) → Ok who y → Ok who (if b then x else y)
  splits_to true who x y p q = p refl
  splits_to false who x y p q = q

  logicals : (who : W) → (spot : Spot) (split : SplitKind) (onward : Bool) (other : ℕ) (a : Evaluation) → Good who a → (b : Evaluation) → Good (kept.inner who) b → Decides who spot.at
      → is_of_value split ≡ true → Good who (logical tables functions spot split onward other a b)
  logicals who spot split onward other a good_a b good_b decides of_value k p =
      let here = note tables spot.at in
      let parted = choose spot.place (o.Split split) (truth tables functions b (plain o.End done)) done (plain o.Resume (k OnList)) in
      let branched = choose nowhere (o.Branch onward) (truth tables functions b done) (plain (o.Push other) done) (k OnList) in
      value_is who a good_a (if here.splits then parted else agreed here.sync branched)
      (splits_to here.splits who parted (agreed here.sync branched)
      (λ e. kept.divides who spot split (truth tables functions b (plain o.End done)) done (k OnList) of_value decides e
      (truths (kept.inner who) b good_b (plain o.End done) (kept.part_ends (kept.inner who))) (kept.ends (kept.inner who)) (p OnList tt))
      (kept.branches who spot onward (truth tables functions b done) (plain (o.Push other) done) (k OnList) decides
      (truths (kept.inner who) b good_b done (kept.ends (kept.inner who))) (on refl (kept.ends (kept.inner who))) (p OnList tt)))

  chooses : (who : W) → (spot : Spot) (c : Evaluation) → Good who c → (a : Evaluation) → Good (kept.inner who) a → (b : Evaluation) → Good (kept.inner who) b → Decides who spot.at
      → Good who (chosen tables functions spot c a b)
  chooses who spot c good_c a good_a b good_b decides k p =
      let here = note tables spot.at in
      let first = value_of tables functions a in
      let second = value_of tables functions b in
      let parted = choose spot.place (o.Split IfElse) (first (plain o.End done)) (second (plain o.End done)) (plain o.Resume (k OnList)) in
      let branched = choose nowhere (o.Branch true) (first done) (second done) (k OnList) in
      let ended = kept.part_ends (kept.inner who) in
      value_is who c good_c (if here.splits then parted else agreed here.sync branched)
      (splits_to here.splits who parted (agreed here.sync branched)
      (λ e. kept.divides who spot IfElse (first (plain o.End done)) (second (plain o.End done)) (k OnList) refl decides e
      (value_is (kept.inner who) a good_a (plain o.End done) ended) (value_is (kept.inner who) b good_b (plain o.End done) ended) (p OnList tt))
      (kept.branches who spot true (first done) (second done) (k OnList) decides
      (value_is (kept.inner who) a good_a done (kept.ends (kept.inner who))) (value_is (kept.inner who) b good_b done (kept.ends (kept.inner who))) (p OnList tt)))

  joins : (who : W) → (spot : Spot) (sign : Sign) (a : Evaluation) → Good who a → (left : ℕ) (b : Evaluation) → Good who b → Good (kept.inner who) b → (right : ℕ)
      → (is_logical sign ≡ true → Decides who spot.at) → Good who (joined tables functions spot sign a left b right)
  joins who spot g.Comma a good_a left b good_b inner_b right splits k p =
      value_is who a good_a (dropped tables functions left (value_of tables functions b (k OnList)))
      (drops who left (value_of tables functions b (k OnList)) (value_is who b good_b (k OnList) (p OnList tt)))
  joins who spot g.AndAnd a good_a left b good_b inner_b right splits k p = logicals who spot AndThen true 0 a good_a b inner_b (splits refl) refl k p
  joins who spot g.OrOr a good_a left b good_b inner_b right splits k p = logicals who spot OrElse false 1 a good_a b inner_b (splits refl) refl k p
  joins who spot sign a good_a left b good_b inner_b right splits k p =
      value_is who a good_a (value_of tables functions b (operate tables functions sign left right (k OnList)))
      (value_is who b good_b (operate tables functions sign left right (k OnList)) (operates who sign left right (k OnList) (p OnList tt)))

  gives : (who : W) → (sign : Sign) (target : Evaluation) → Good who target → (left : ℕ) (e : Evaluation) → Good who e → (right : ℕ) → Good who (assignment tables functions sign target left e right)
  gives who g.Assign target good left e good_e right k p =
      good (λ s. addressed tables functions s (value_of tables functions e (assigned tables functions s (k OnList))))
      (λ s fits.
      let new = assigned tables functions s (k OnList) in
      addresses who s (value_of tables functions e new) (value_is who e good_e new (assigns who s (k OnList) (p OnList tt))))
  gives who sign target good left e good_e right k p =
      updates who sign target good left right (value_of tables functions e) (value_is who e good_e) k p

  -- suffixes
  indexes : (who : W) → (spot : Spot) (e : Evaluation) → Good who e → (by : Evaluation) → Good who by → Good who (indexed tables functions spot e by)
  indexes who spot e good by good_by k p =
      let element = plain (o.Index (4 * (kind_at tables spot.at).words)) (k (AtAddress true spot)) in
      value_is who e good (value_of tables functions by element) (value_is who by good_by element (on refl (p (AtAddress true spot) tt)))

  dots : (who : W) → (spot : Spot) (at : ℕ) (e : Evaluation) → Good who e → Good who (dotted tables functions spot at e)
  dots who spot at e good k p =
      good (λ s. member tables functions at (k (AtAddress (is_deep tables functions s) spot)))
      (λ s fits. (on refl (on refl (p (AtAddress (is_deep tables functions s) spot) tt))))

  points : (who : W) → (spot : Spot) (at : ℕ) (e : Evaluation) → Good who e → Good who (pointed tables functions spot at e)
  points who spot at e good k p =
      value_is who e good (member tables functions at (k (AtAddress true spot))) (on refl (on refl (p (AtAddress true spot) tt)))

  raises : (who : W) → (sign back : Sign) (e : Evaluation) → Good who e → (at : ℕ) → Good who (raised tables functions sign back e at)
  raises who sign back e good at k p =
      updates who sign e good at 0 (one tables functions) (ones who)
      (λ s. plain (o.Push (step_back tables functions at)) (plain (operator_of back false) (k OnList)))
      (λ s fits. (on refl (operator who back false (k OnList) (p OnList tt))))

  -- calls
  takes : (who : W) → (xs : List DeclaredTree) (es : List Evaluation) → SharesAgree Fine who xs → AllGood who es → (rest : Coded) → Ok who rest → Ok who (arguments tables functions xs es rest)
  takes who [] [] agree good rest p = p
  takes who [] (e ∷ es) agree good rest p = p
  takes who (x ∷ xs) [] agree good rest p = p
  takes who (x ∷ xs) (e ∷ es) agree good rest p =
      let others = arguments tables functions xs es rest in
      value_is who e good.0 (agreed x.shared others) (agrees_or who x.shared others agree.0 (takes who xs es agree.1 good.1 rest p))

  calls : (who : W) → (name : Named) (es : List Evaluation) → AllGood who es → Means who name → Good who (called tables functions name es)
  calls who name es good means k p =
      takes who (functions (note tables name.at).binding).parameters es (kept.shares who name means) good (entered tables functions name (k OnList)) (kept.enters who name (k OnList) means (p OnList tt))

  multiprefixes : (who : W) → (name : Named) (by : Multiprefix) (es : List Evaluation) → AllGood who es → Good who (multiprefix tables functions name by es)
  multiprefixes who name by [] good k p = kept.ends who
  multiprefixes who name by (a ∷ []) good k p = kept.ends who
  multiprefixes who name by (a ∷ b ∷ es) good k p =
      let request = plain (o.Combine by) (k OnList) in
      value_is who a good.0 (perform name.place (o.Check true) (value_of tables functions b request)) (on refl (value_is who b good.1.0 request (on refl (p OnList tt))))

  with_ones : (who : W) → (after : Coded → Coded) → ((rest : Coded) → Ok who rest → Ok who (after rest)) → (es : List Evaluation) → AllGood who es → Good who (with_one tables functions after es)
  with_ones who after keeps [] good k p = kept.ends who
  with_ones who after keeps (e ∷ es) good k p = value_is who e good.0 (after (k OnList)) (keeps (k OnList) (p OnList tt))

  calls_predeclared : (who : W) → (name : Named) (es : List Evaluation) → AllGood who es → Means who name → ((note tables name.at).binding == no_binding) ≡ true
      → is_value_name name ≡ false → Good who (called_predeclared tables functions name es)
  calls_predeclared who name es good means own value k p =
      by (is_name name (codes "mpadd")) (is_name name (codes "mpmax")) (is_name name (codes "mpand")) (is_name name (codes "mpor")) (is_name name (codes "groupsize"))
      (is_name name (codes "putint")) (is_name name (codes "putchar")) (is_name name (codes "malloc")) (is_name name (codes "shmalloc")) refl
    where
      by : (a b c d e f g h i : Bool)
          → is_other_call name ≡ (if a then true else if b then true else if c then true else if d then true else if e then true else one_of f g h i) → Ok who (
          if a then multiprefix tables functions name MpAdd es k
          else if b then multiprefix tables functions name MpMax es k
          else if c then multiprefix tables functions name MpAnd es k
          else if d then multiprefix tables functions name MpOr es k
          else if e then plain (o.Get n.GroupSize) (k OnList)
          else if f then with_one tables functions (plain o.PrintNumber) es k
          else if g then with_one tables functions (plain o.PrintByte) es k
          else if h then with_one tables functions (plain o.Take) es k
          else if i then with_one tables functions (plain o.Heap) es k
          else with_one tables functions (λ rest. plain o.Agree (plain o.Block rest)) es k)
      by true b c d e f g h i is = multiprefixes who name MpAdd es good k p
      by false true c d e f g h i is = multiprefixes who name MpMax es good k p
      by false false true d e f g h i is = multiprefixes who name MpAnd es good k p
      by false false false true e f g h i is = multiprefixes who name MpOr es good k p
      by false false false false true f g h i is = (on refl (p OnList tt))
      by false false false false false true g h i is = with_ones who (plain o.PrintNumber) (λ rest q. (on refl q)) es good k p
      by false false false false false false true h i is = with_ones who (plain o.PrintByte) (λ rest q. (on refl q)) es good k p
      by false false false false false false false true i is = with_ones who (plain o.Take) (λ rest q. (on refl q)) es good k p
      by false false false false false false false false true is = with_ones who (plain o.Heap) (λ rest q. (on refl q)) es good k p
      by false false false false false false false false false is =
          with_ones who (λ rest. plain o.Agree (plain o.Block rest))
          (λ rest q. kept.allots who name rest means (record { predeclared = own; no_value = value; no_other = is }) q) es good k p

  all_calls : (who : W) → (es : List Evaluation) → AllGood who es → (k : ResultLocation → Coded) → Follows who k → (s : ResultLocation) → Fits who s → Ok who (calling tables functions es k s)
  all_calls who es good k p (ToCall name) means =
      either_told who ((note tables name.at).binding == no_binding) (called_predeclared tables functions name es k) (called tables functions name es k)
      (λ e. calls_predeclared who name es good means.0 e (means.1 e) k p) (λ e. calls who name es good means.0 k p)
  all_calls who es good k p s fits = kept.ends who

  -- expressions
  mutual
    expression : (who : W) → (e : Tree) → Told (Decides who) (Means who) e → Good who (evaluated tables functions e)
    expression who (t.Number spot number unsigned) noted k p = (on refl (p OnList tt))
    expression who (t.Puts spot text) noted k p = puts who (text_of text) (k OnList) (p OnList tt)
    expression who (t.Sizeof spot type) noted k p = (on refl (p OnList tt))
    expression who (t.Variable name) noted k p = names who name noted k p
    expression who (t.GroupNumber spot) noted k p = (on refl (p OnList tt))
    expression who (t.GroupRank spot) noted k p = (on refl (p OnList tt))
    expression who (t.Prefix spot sign operand) noted k p = prefixes who spot sign (evaluated tables functions operand) (expression who operand noted) (token operand) k p
    expression who (t.Cast spot type operand) noted k p = value_is who (evaluated tables functions operand) (expression who operand noted) (k OnList) (p OnList tt)
    expression who (t.Chain first links) noted k p = chain who (evaluated tables functions first) (expression who first noted.0) (token first) links noted.1 k p
    expression who (t.Postfix whole suffixes) noted k p = postfix who (evaluated tables functions whole) (expression who whole noted.0) (token whole) suffixes noted.1 k p
    expression who (t.Assign spot sign target value) noted k p =
        gives who sign (evaluated tables functions target) (expression who target noted.0) (token target) (evaluated tables functions value) (expression who value noted.1) (token value) k p
    expression who (t.Choose spot condition first second) noted k p =
        chooses who spot (evaluated tables functions condition) (expression who condition noted.1)
        (evaluated tables functions first) (expression (kept.inner who) first (kept.told who first noted.2))
        (evaluated tables functions second) (expression (kept.inner who) second (kept.told who second noted.3)) noted.0 k p

    chain : (who : W) → (e : Evaluation) → Good who e → (at : ℕ) (links : Links) → LinksTold (Decides who) (Means who) links → Good who (linked tables functions e at links)
    chain who e good at t.no_links noted k p = good k p
    chain who e good at (t.link spot sign right others) noted k p =
        chain who (joined tables functions spot sign e at (evaluated tables functions right) (token right))
        (joins who spot sign e good at (evaluated tables functions right) (expression who right noted.1)
        (expression (kept.inner who) right (kept.told who right noted.1)) (token right) noted.0) spot.at others noted.2 k p

    postfix : (who : W) → (e : Evaluation) → Good who e → (at : ℕ) (suffixes : Suffixes) → SuffixesTold (Decides who) (Means who) suffixes → Good who (suffixed tables functions e at suffixes)
    postfix who e good at t.no_suffixes noted k p = good k p
    postfix who e good at (t.index spot by others) noted k p =
        postfix who (indexed tables functions spot e (evaluated tables functions by)) (indexes who spot e good (evaluated tables functions by) (expression who by noted.0)) spot.at others noted.1 k p
    postfix who e good at (t.call spot arguments others) noted k p =
        let es = all_evaluated tables functions arguments in
        let each = all_expressions who arguments noted.0 in
        postfix who (λ j. e (calling tables functions es j)) (λ j q. good (calling tables functions es j) (all_calls who es each j q)) spot.at others noted.1 k p
    postfix who e good at (t.dot spot name others) noted k p = postfix who (dotted tables functions spot name.at e) (dots who spot name.at e good) spot.at others noted k p
    postfix who e good at (t.arrow spot name others) noted k p = postfix who (pointed tables functions spot name.at e) (points who spot name.at e good) spot.at others noted k p
    postfix who e good at (t.up spot others) noted k p = postfix who (raised tables functions g.Plus g.Minus e at) (raises who g.Plus g.Minus e good at) spot.at others noted k p
    postfix who e good at (t.down spot others) noted k p = postfix who (raised tables functions g.Minus g.Plus e at) (raises who g.Minus g.Plus e good at) spot.at others noted k p

    all_expressions : (who : W) → (es : Trees) → AllTold (Decides who) (Means who) es → AllGood who (all_evaluated tables functions es)
    all_expressions who t.no_trees noted = tt
    all_expressions who (t.tree first others) noted = (expression who first noted.0, all_expressions who others noted.1)

  pub value_is_kept : (who : W) → (e : Tree) → Told (Decides who) (Means who) e → (rest : Coded) → Ok who rest → Ok who (value tables functions e rest)
  value_is_kept who e noted rest p = value_is who (evaluated tables functions e) (expression who e noted) rest p
