-- Expressions that give one value leave the number of parts of a `fork` where it stands, with one value more above it.
use Rattle.std.proofs.Common.{◌≡◌, ℕ, zero, suc, ◌*◌, Bool, true, false, not, List, [], ◌∷◌, length, Option, Some, None, is_some, ap, ◌∙◌, sym, refl, subst}
use Rattle.std.specs.Prelude.{◌==◌, ◌||◌, codes, if◌then◌else◌}
use Rattle.std.proofs.lemmas.Bool.{and_from}
use Rattle.fk_syntax.specs.declared.place.Place.{Place}
use Rattle.fk_syntax.specs.declared.place.Spot.{Spot}
use Rattle.fk_syntax.specs.declared.sign.Sign.{Sign}
use Rattle.fk_syntax.specs.declared.sign.Sign.TheVariants as g
use Rattle.fk_syntax.specs.Tree as t
use Rattle.fk_syntax.specs.Tree.{Named, Tree, Links, Trees, Suffixes}
use Rattle.fk_syntax.specs.Program.{DeclaredTree}
use Rattle.fk_meaning_operation.specs.declared.operation.Operation.{Operation}
use Rattle.fk_meaning_operation.specs.declared.operation.Operation.TheVariants as o
use Rattle.fk_meaning_operation.specs.declared.operation.Variable.TheVariants as v
use Rattle.fk_meaning_operation.specs.declared.operation.OwnValue.TheVariants as n
use Rattle.fk_meaning_operation.specs.declared.operation.Unary.TheVariants as u
use Rattle.fk_meaning_operation.specs.declared.operation.Multiprefix.{Multiprefix}
use Rattle.fk_meaning_operation.specs.declared.operation.Multiprefix.TheVariants.{MpAdd, MpMax, MpAnd, MpOr}
use Rattle.fk_meaning_operation.specs.declared.operation.SplitKind.{SplitKind}
use Rattle.fk_meaning_operation.specs.declared.operation.SplitKind.TheVariants.{IfElse, AndThen, OrElse}
use Rattle.fk_num.specs.declared.operator.Op.TheVariants as f
use Rattle.fk_meaning_forms.specs.declared.tables.Home.{Home}
use Rattle.fk_meaning_forms.specs.declared.tables.Home.TheVariants as h
use Rattle.fk_meaning_forms.specs.declared.signs.Move.{Move}
use Rattle.fk_meaning_forms.specs.declared.signs.Move.TheVariants.{Forth, Back, NoMove}
use Rattle.fk_meaning_forms.specs.Code.{done, perform, choose, call}
use Rattle.fk_meaning_forms.specs.Tables.{Tables, no_binding, note, kind_at, is_array, is_void, is_unsigned, slot, frame_at}
use Rattle.fk_meaning_forms.specs.Signs.{operator_of, is_shift, move_of}
use Rattle.fk_meaning_forms.specs.Texts.{text_of}
use Rattle.fk_meaning_forms.specs.Expressions.{Coded, nowhere, plain, ResultLocation, OnList, AtAddress, InWord, ToCall, Evaluation, token, spot_of, is_name, Signature, put_bytes, moved, agreed, checked, valued, addressed, fetched, assigned, value_of, dropped, predeclared, placed, variable, operate, updated, one, prefixed, truth, logical, chosen, joined, assignment, member, is_deep, indexed, dotted, pointed, step_back, raised, arguments, framed, parameters, multiprefix, with_one, called_predeclared, called, calling, evaluated, linked, suffixed, all_evaluated, value}
use Rattle.fk_meaning.specs.Calls.{takes_two, TakesEnough}
use Rattle.fk_meaning.specs.Shape.{ends_part}
use Rattle.fk_meaning.proofs.Spine.{untrue}
use Rattle.fk_lockstep.specs.Told as told
use Rattle.fk_lockstep_structure.specs.Placed.{is_begin}
use Rattle.fk_lockstep_structure.specs.Pending as pending
use Rattle.fk_lockstep_structure.specs.Pending.{is_fork, stands_alone, more, above_before, before_it, above_choice, before_way, before_call, leads, MayStand, MayChoose, MayCall, MayBegin, Idle, Counted, At}
use Rattle.fk_lockstep_structure.proofs.Opening.{opening_idle}
use Rattle.fk_lockstep_structure.specs.Valued as w
use Rattle.fk_lockstep_structure.specs.Valued.{Way, Valued, Absent, Placed, Word, Function, gives, result, predeclared_gives, predeclared_way, placed_way, prefix_way, joined_way, HasAddress, IsTarget, PrefixNeeds, AreEnough, gives_value, named_way, call_gives, called_way, chain_way, suffixed_way, JoinNeeds, NameTakes, CallNeeds, Evaluates, LinksEvaluate, SuffixesEvaluate, AllEvaluate, IsValued}

may_stand : (op : Operation) (m m' : ℕ) (l : Bool) → above_before op m ≡ Some m' → MayStand op (Some m) l
may_stand o.Agree zero m' l e = absurd (cc)
may_stand o.Agree (suc m) m' l e = ap is_some e
may_stand op m m' l e = ap is_some e

or_leads : (f l : Bool) → l ≡ true → (f || l) ≡ true
or_leads true l e = refl
or_leads false l e = e

-- a value more or not
abbrev up : (gives : Bool) → ℕ → ℕ
up true m = suc m
up false m = m

-- by where the result of an expression is: a word of a processor's own is not among the values yet
abbrev up_of : Way → ℕ → ℕ
up_of Valued m = suc m
up_of Placed m = suc m
up_of way m = m

pub may_begin : (called : Option Bool) (op : Operation) → is_begin op ≡ false → MayBegin called op
may_begin None op e = tt
may_begin (Some g) op e = e

module _ (may_call : (function : ℕ) → Bool) (tables : Tables) (functions : (binding : ℕ) → Signature) (caller : Option Bool) where
  abbrev results : (function : ℕ) → Bool
  results f = gives_value functions f

  abbrev above : Option ℕ → Coded → Option ℕ
  above after code = pending.above results after code

  abbrev Fits : Way → ResultLocation → Type 0
  Fits Valued OnList = Unit {0}
  Fits Absent OnList = Unit {0}
  Fits Placed (AtAddress deep spot) = Unit {0}
  Fits Word (InWord variable) = Unit {0}
  Fits (Function name) (ToCall other) = (name ≡ other) × (may_call (note tables name.at).binding ≡ true)
  Fits way location = ⊥

  on : {way : Bool} {after : Option ℕ} (t' : Place) (op : Operation) (m m' : ℕ) (rest : Coded) → stands_alone op ≡ true → ends_part op ≡ false → above_before op m ≡ Some m'
      → At may_call results caller way after m rest → At may_call results caller way after m' (perform t' op rest)
  on t' op m m' rest f' p e a = record {
    there = ap (before_it op) a.there ∙ e;
    counted = (f', subst (λ (x : Option ℕ). MayStand op x (leads rest)) (sym a.there) (may_stand op m m' (leads rest) e), a.counted);
    leading = λ is. and_from _ _ (ap not p) (a.leading is);
  }

  abbrev Goes : Way → (ResultLocation → Coded) → Bool → Option ℕ → ℕ → Type 0
  Goes w k way after m = (s : ResultLocation) → Fits w s → At may_call results caller way after (up_of w m) (k s)

  abbrev Good : Way → Evaluation → Type 0
  Good w e = (way : Bool) (after : Option ℕ) (m : ℕ) (k : ResultLocation → Coded) → Goes w k way after m → At may_call results caller way after m (e k)

  -- code that leaves one value more
  abbrev Adds : (Coded → Coded) → Type 0
  Adds e = (way : Bool) (after : Option ℕ) (m : ℕ) (rest : Coded) → At may_call results caller way after (suc m) rest → At may_call results caller way after m (e rest)

  module _ {way : Bool} {after : Option ℕ} where
    pushes : (n' m : ℕ) (rest : Coded) → At may_call results caller way after (suc m) rest → At may_call results caller way after m (plain (o.Push n') rest)
    pushes n' m rest a = on nowhere (o.Push n') (suc m) m rest refl refl refl a

    operators : (sign : Sign) (unsigned : Bool) (m : ℕ) (rest : Coded) → At may_call results caller way after (suc m) rest → At may_call results caller way after (suc (suc m)) (plain (operator_of sign unsigned) rest)
    operators g.Minus unsigned m rest a = on nowhere (operator_of g.Minus unsigned) (suc m) (suc (suc m)) rest refl refl refl a
    operators sign unsigned m rest a = on nowhere (operator_of sign unsigned) (suc m) (suc (suc m)) rest refl refl refl a

    moves : (move : Move) (step : ℕ) (sign : Sign) (unsigned : Bool) (m : ℕ) (rest : Coded) → At may_call results caller way after (suc m) rest → At may_call results caller way after (suc (suc m)) (moved move step (operator_of sign unsigned) rest)
    moves Forth step sign unsigned m rest a = on nowhere (o.Index step) (suc m) (suc (suc m)) rest refl refl refl a
    moves Back step sign unsigned m rest a =
        on nowhere (o.Apply u.Negate) (suc (suc m)) (suc (suc m)) (plain (o.Index step) rest) refl refl refl (on nowhere (o.Index step) (suc m) (suc (suc m)) rest refl refl refl a)
    moves NoMove step sign unsigned m rest a = operators sign unsigned m rest a

    either : (m : ℕ) (b : Bool) (x y : Coded) → At may_call results caller way after m x → At may_call results caller way after m y → At may_call results caller way after m (if b then x else y)
    either m true x y p q = p
    either m false x y p q = q

    agrees : (sync : Bool) (m : ℕ) (rest : Coded) → At may_call results caller way after (suc m) rest → At may_call results caller way after (suc m) (agreed sync rest)
    agrees true m rest a = on nowhere o.Agree (suc m) (suc m) rest refl refl refl a
    agrees false m rest a = a

    put : (bytes : List ℕ) (m : ℕ) (rest : Coded) → At may_call results caller way after m rest → At may_call results caller way after m (put_bytes bytes rest)
    put [] m rest a = a
    put (b ∷ bytes) m rest a =
        let others = put_bytes bytes rest in
        pushes b m (plain o.PrintByte others) (on nowhere o.PrintByte m (suc m) others refl refl refl (put bytes m rest a))

    -- a choice, each way of which leaves as many values
    chooses : (t' : Place) (op : Operation) (a b rest : Coded) (m l x y : ℕ) → is_fork op ≡ false → is_begin op ≡ false → At may_call results caller way after l rest
        → At may_call results caller false (Some l) x a → At may_call results caller false (Some l) y b → above_choice op true x ≡ Some (suc m) → above_choice op false y ≡ Some (suc m)
        → At may_call results caller way after (suc m) (choose t' op a b rest)
    chooses t' op a b rest m l x y f' begins r p q e e' =
        let first : before_way op true (above (Some l) a) ≡ Some (suc m) = ap (before_way op true) p.there ∙ e in
        let second : before_way op false (above (Some l) b) ≡ Some (suc m) = ap (before_way op false) q.there ∙ e' in
        record {
          there = ap (λ (fork : Bool). if fork then Some 2 else before_way op true (above (above after rest) a)) f'
              ∙ ap (λ (behind : Option ℕ). before_way op true (above behind a)) r.there ∙ first;
          counted = (
            subst (λ (behind : Option ℕ). MayChoose op behind (above behind a) (above behind b) × Counted may_call results caller behind a × Counted may_call results caller behind b)
                (sym r.there) ((ap is_some first, second ∙ sym first), p.counted, q.counted),
            r.counted,
            may_begin caller op begins,
          );
          leading = λ is. or_leads (is_fork op) (leads rest) (r.leading is);
        }

  -- the end of an arm, and of a part
  arm_ends : (m : ℕ) → At {A = Place} may_call results caller false (Some m) m done
  arm_ends m = record { there = refl; counted = tt; leading = λ is. untrue is }

  part_ends : (m : ℕ) → At may_call results caller false (Some m) m (plain o.End done)
  part_ends m = record { there = refl; counted = (refl, refl, tt); leading = λ is. untrue is }

  -- what is told of each name in it, so that what is called may be
  module _ (Decides : (at : ℕ) → Type 0) (Means : Named → Type 0) (means : (name : Named) → Means name → may_call (note tables name.at).binding ≡ true) where
    abbrev Told : Tree → Type 0
    Told x = told.Told Decides Means x

    module _ {way : Bool} {after : Option ℕ} where
      checks : (deep : Bool) (spot : Spot) (m : ℕ) (rest : Coded) → At may_call results caller way after (suc m) rest → At may_call results caller way after (suc m) (checked tables functions deep spot rest)
      checks true spot m rest a = on spot.place (o.Check false) (suc m) (suc m) rest refl refl refl a
      checks false spot m rest a = a

      values_at : (w : Way) (s : ResultLocation) (rest : Coded) (m : ℕ) → Fits w s → At may_call results caller way after (up (gives w) m) rest → At may_call results caller way after (up_of w m) (valued tables functions s rest)
      values_at Valued OnList rest m r a = a
      values_at Absent OnList rest m r a = a
      values_at Placed (AtAddress deep spot) rest m r a =
          either (suc m) (is_array tables spot.at) rest (checked tables functions deep spot (plain o.Read rest)) a
          (checks deep spot m (plain o.Read rest) (on nowhere o.Read (suc m) (suc m) rest refl refl refl a))
      values_at Word (InWord variable') rest m r a = on nowhere (o.Get (n.Value variable')) (suc m) m rest refl refl refl a
      values_at (Function name) (ToCall other) rest m r a = a
      values_at w s rest m r a = absurd r

      addresses_at : (w : Way) (s : ResultLocation) (rest : Coded) (m : ℕ) → IsTarget w → Fits w s → At may_call results caller way after (up_of w m) rest → At may_call results caller way after (up_of w m) (addressed tables functions s rest)
      addresses_at Placed (AtAddress deep spot) rest m i r a = checks deep spot m rest a
      addresses_at Word (InWord variable') rest m i r a = a
      addresses_at Placed s rest m i r a = absurd r
      addresses_at Word s rest m i r a = absurd r
      addresses_at w s rest m i r a = absurd i

      fetches_at : (w : Way) (s : ResultLocation) (rest : Coded) (m : ℕ) → IsTarget w → Fits w s → At may_call results caller way after (suc (up_of w m)) rest → At may_call results caller way after (up_of w m) (fetched tables functions s rest)
      fetches_at Placed (AtAddress deep spot) rest m i r a =
          checks deep spot m (plain o.CopyLast (plain o.Read rest))
          (on nowhere o.CopyLast (suc (suc m)) (suc m) (plain o.Read rest) refl refl refl (on nowhere o.Read (suc (suc m)) (suc (suc m)) rest refl refl refl a))
      fetches_at Word (InWord variable') rest m i r a = on nowhere (o.Get (n.Value variable')) (suc m) m rest refl refl refl a
      fetches_at Placed s rest m i r a = absurd r
      fetches_at Word s rest m i r a = absurd r
      fetches_at w s rest m i r a = absurd i

      assigns_at : (w : Way) (s : ResultLocation) (rest : Coded) (m : ℕ) → IsTarget w → Fits w s → At may_call results caller way after (suc m) rest → At may_call results caller way after (suc (up_of w m)) (assigned tables functions s rest)
      assigns_at Placed (AtAddress deep spot) rest m i r a = on nowhere o.Write (suc m) (suc (suc m)) rest refl refl refl a
      assigns_at Word (InWord variable') rest m i r a = on nowhere (o.Set variable') (suc m) (suc m) rest refl refl refl a
      assigns_at Placed s rest m i r a = absurd r
      assigns_at Word s rest m i r a = absurd r
      assigns_at w s rest m i r a = absurd i

      drops : (at : ℕ) (had : Bool) (m : ℕ) (rest : Coded) → had ≡ not (is_void tables at) → At may_call results caller way after m rest → At may_call results caller way after (up had m) (dropped tables functions at rest)
      drops at had m rest e a = by (is_void tables at) had e
        where
          by : (b had' : Bool) → had' ≡ not b → At may_call results caller way after (up had' m) (if b then rest else plain o.DropLast rest)
          by true false e' = a
          by false true e' = on nowhere o.DropLast m (suc m) rest refl refl refl a
          by true true e' = untrue (sym e')
          by false false e' = untrue e'

      operates : (sign : Sign) (left right : ℕ) (m : ℕ) (rest : Coded) → At may_call results caller way after (suc m) rest → At may_call results caller way after (suc (suc m)) (operate tables functions sign left right rest)
      operates sign left right m rest a =
          let unsigned = if is_shift sign then is_unsigned tables left else is_unsigned tables left || is_unsigned tables right in
          let step = (kind_at tables left).step in
          either (suc (suc m)) (step == 0) (plain (operator_of sign unsigned) rest) (moved (move_of sign) step (operator_of sign unsigned) rest)
          (operators sign unsigned m rest a) (moves (move_of sign) step sign unsigned m rest a)

      members : (at : ℕ) (m : ℕ) (rest : Coded) → At may_call results caller way after (suc m) rest → At may_call results caller way after (suc m) (member tables functions at rest)
      members at m rest a = pushes _ (suc m) (plain (o.Binary f.Add false) rest) (on nowhere (o.Binary f.Add false) (suc m) (suc (suc m)) rest refl refl refl a)

    value_at : (w : Way) (e : Evaluation) → Good w e → (way : Bool) (after : Option ℕ) (m : ℕ) (rest : Coded) → At may_call results caller way after (up (gives w) m) rest → At may_call results caller way after m (value_of tables functions e rest)
    value_at w e good way after m rest a = good way after m (λ s. valued tables functions s rest) (λ s r. values_at w s rest m r a)

    adds : (w : Way) (e : Evaluation) → Good w e → gives w ≡ true → Adds (value_of tables functions e)
    adds w e good is way after m rest a = value_at w e good way after m rest (subst (λ b. At may_call results caller way after (up b m) rest) (sym is) a)

    -- names
    predeclares : (name : Named) → may_call (note tables name.at).binding ≡ true → Good (predeclared_way name) (predeclared tables functions name)
    predeclares name may way after m k h =
        by (is_name name (codes "__PROC_NR__")) (is_name name (codes "__STARTED_PROCS__")) (is_name name (codes "__inputs")) (is_name name (codes "__input")) h
      where
        by : (a b c d : Bool)
            → Goes (if a then Valued else if b then Valued else if c then Valued else if d then Placed else Function name) k way after m → At may_call results caller way after m (
            if a then plain (o.Get n.ProcessorNumber) (k OnList)
            else if b then plain (o.Get n.Processors) (k OnList)
            else if c then plain (o.Get n.InputLength) (k OnList)
            else if d then plain (o.Get n.InputAddress) (k (AtAddress false (spot_of name)))
            else k (ToCall name))
        by true b c d p = on nowhere (o.Get n.ProcessorNumber) (suc m) m (k OnList) refl refl refl (p OnList tt)
        by false true c d p = on nowhere (o.Get n.Processors) (suc m) m (k OnList) refl refl refl (p OnList tt)
        by false false true d p = on nowhere (o.Get n.InputLength) (suc m) m (k OnList) refl refl refl (p OnList tt)
        by false false false true p =
            on nowhere (o.Get n.InputAddress) (suc m) m (k (AtAddress false (spot_of name))) refl refl refl (p (AtAddress false (spot_of name)) tt)
        by false false false false p = p (ToCall name) (refl, may)

    homes : (home : Home) (i : ℕ) (name : Named) → may_call (note tables name.at).binding ≡ true → Good (placed_way home name) (placed tables functions home i name)
    homes h.Global i name may way after m k p = pushes _ m (k (AtAddress false (spot_of name))) (p (AtAddress false (spot_of name)) tt)
    homes h.FilePrivate i name may way after m k p = p (InWord (v.OfFile i)) tt
    homes h.Private i name may way after m k p = p (InWord (v.Private i)) tt
    homes (h.Group r) i name may way after m k p = on nowhere _ (suc m) m (k (AtAddress false (spot_of name))) refl refl refl (p (AtAddress false (spot_of name)) tt)
    homes h.NoWord i name may way after m k p = p (ToCall name) (refl, may)

    names : (name : Named) → may_call (note tables name.at).binding ≡ true → Good (named_way tables functions name) (variable tables functions name)
    names name may way after m k p = by ((note tables name.at).binding == no_binding) p
      where
        b : ℕ
        b = (note tables name.at).binding

        by : (no : Bool) → Goes (if no then predeclared_way name else placed_way (slot tables (note tables name.at).binding).home name) k way after m
            → At may_call results caller way after m (if no then predeclared tables functions name k
            else placed tables functions (slot tables (note tables name.at).binding).home (slot tables (note tables name.at).binding).index name k)
        by true q = predeclares name may way after m k q
        by false q = homes (slot tables (note tables name.at).binding).home (slot tables (note tables name.at).binding).index name may way after m k q

    -- operators
    updates : (sign : Sign) (w : Way) (target : Evaluation) → Good w target → IsTarget w → (left right : ℕ) (e : Coded → Coded) → Adds e
        → Good Valued (updated tables functions sign target left right e)
    updates sign w target good is left right e keeps way after m k p =
        good way after m (λ s. fetched tables functions s (e (operate tables functions sign left right (assigned tables functions s (k OnList)))))
        (λ s fits.
        let new = assigned tables functions s (k OnList) in
        let whole = operate tables functions sign left right new in
        fetches_at w s (e whole) m is fits
        (keeps way after (suc (up_of w m)) whole (operates sign left right (up_of w m) new (assigns_at w s (k OnList) m is fits (p OnList tt)))))

    ones : Adds (one tables functions)
    ones way after m rest a = pushes 1 m rest a

    prefixes : (spot : Spot) (sign : Sign) (w : Way) (e : Evaluation) (at : ℕ) → Good w e → PrefixNeeds sign w → Good (prefix_way sign) (prefixed tables functions spot sign e at)
    prefixes spot g.Minus w e at good is way after m k q =
        adds w e good is way after m (plain (o.Apply u.Negate) (k OnList)) (on nowhere (o.Apply u.Negate) (suc m) (suc m) (k OnList) refl refl refl (q OnList tt))
    prefixes spot g.Tilde w e at good is way after m k q =
        adds w e good is way after m (plain (o.Apply u.Complement) (k OnList)) (on nowhere (o.Apply u.Complement) (suc m) (suc m) (k OnList) refl refl refl (q OnList tt))
    prefixes spot g.Exclamation w e at good is way after m k q =
        adds w e good is way after m (plain (o.Apply u.Not) (k OnList)) (on nowhere (o.Apply u.Not) (suc m) (suc m) (k OnList) refl refl refl (q OnList tt))
    prefixes spot g.Star w e at good is way after m k q = adds w e good is way after m (k (AtAddress true spot)) (q (AtAddress true spot) tt)
    prefixes spot g.Ampersand Placed e at good is way after m k q =
        good way after m (λ s. addressed tables functions s (k OnList)) (λ s fits. addresses_at Placed s (k OnList) m tt fits (q OnList tt))
    prefixes spot g.Ampersand w e at good is way after m k q = absurd is
    prefixes spot g.Increment w e at good is way after m k q = updates g.Plus w e good is at spot.at (one tables functions) ones way after m k q
    prefixes spot g.Decrement w e at good is way after m k q = updates g.Minus w e good is at spot.at (one tables functions) ones way after m k q
    prefixes spot sign w e at good is way after m k q = adds w e good is way after m (k OnList) (q OnList tt)

    truths : (w : Way) (e : Evaluation) → Good w e → gives w ≡ true → (way : Bool) (after : Option ℕ) (m : ℕ) (rest : Coded) → At may_call results caller way after (suc m) rest → At may_call results caller way after m (truth tables functions e rest)
    truths w e good is way after m rest a =
        adds w e good is way after m (plain (o.Push 0) (plain (o.Binary f.Ne false) rest))
        (pushes 0 (suc m) (plain (o.Binary f.Ne false) rest) (on nowhere (o.Binary f.Ne false) (suc m) (suc (suc m)) rest refl refl refl a))

    logicals : (spot : Spot) (split : SplitKind) (onward : Bool) (other : ℕ) (w x : Way) (a b : Evaluation) → Good w a → gives w ≡ true → Good x b → gives x ≡ true
        → is_fork (o.Split split) ≡ false → ((m : ℕ) → above_choice (o.Split split) true m ≡ Some (suc m)) → ((m : ℕ) → above_choice (o.Split split) false (suc m) ≡ Some (suc m))
        → Good Valued (logical tables functions spot split onward other a b)
    logicals spot split onward other w x a b good_a has_a good_b has_b no_fork true_way false_way way after m k p =
        let here = note tables spot.at in
        let parted = choose spot.place (o.Split split) (truth tables functions b (plain o.End done)) done (plain o.Resume (k OnList)) in
        let branched = choose nowhere (o.Branch onward) (truth tables functions b done) (plain (o.Push other) done) (k OnList) in
        adds w a good_a has_a way after m (if here.splits then parted else agreed here.sync branched)
        (either (suc m) here.splits parted (agreed here.sync branched)
        (chooses spot.place (o.Split split) (truth tables functions b (plain o.End done)) done (plain o.Resume (k OnList)) m (suc m) m (suc m) no_fork refl
        (on nowhere o.Resume (suc m) (suc m) (k OnList) refl refl refl (p OnList tt))
        (truths x b good_b has_b false (Some (suc m)) m (plain o.End done) (part_ends (suc m))) (arm_ends (suc m)) (true_way m) (false_way m))
        (agrees here.sync m branched
        (chooses nowhere (o.Branch onward) (truth tables functions b done) (plain (o.Push other) done) (k OnList) m (suc m) m m refl refl (p OnList tt)
        (truths x b good_b has_b false (Some (suc m)) m done (arm_ends (suc m))) (pushes other m done (arm_ends (suc m))) refl refl)))

    result_up : (b : Bool) (m : ℕ) → up_of (result b) m ≡ up b m
    result_up true m = refl
    result_up false m = refl

    result_fits : (b : Bool) → Fits (result b) OnList
    result_fits true = tt
    result_fits false = tt

    choices : (spot : Spot) (w x y : Way) (c a b : Evaluation) → Good w c → gives w ≡ true → Good x a → Good y b → gives y ≡ gives x
        → Good (result (gives x)) (chosen tables functions spot c a b)
    choices spot w x y c a b good_c has_c good_a good_b alike way after m k p =
        let l = up (gives x) m in
        let behind : At may_call results caller way after l (k OnList) = subst (λ m'. At may_call results caller way after m' (k OnList)) (result_up (gives x) m) (p OnList (result_fits (gives x))) in
        let in_first : (rest : Coded) → At may_call results caller false (Some l) l rest → At may_call results caller false (Some l) m (value_of tables functions a rest) = λ rest q. value_at x a good_a false (Some l) m rest q in
        let in_second : (rest : Coded) → At may_call results caller false (Some l) l rest → At may_call results caller false (Some l) m (value_of tables functions b rest)
        = λ rest q. value_at y b good_b false (Some l) m rest (subst (λ had. At may_call results caller false (Some l) (up had m) rest) (sym alike) q) in
        let here = note tables spot.at in
        let first = value_of tables functions a in
        let second = value_of tables functions b in
        let parted = choose spot.place (o.Split IfElse) (first (plain o.End done)) (second (plain o.End done)) (plain o.Resume (k OnList)) in
        let branched = choose nowhere (o.Branch true) (first done) (second done) (k OnList) in
        adds w c good_c has_c way after m (if here.splits then parted else agreed here.sync branched)
        (either (suc m) here.splits parted (agreed here.sync branched)
        (chooses spot.place (o.Split IfElse) (first (plain o.End done)) (second (plain o.End done)) (plain o.Resume (k OnList)) m l m m refl refl
        (on nowhere o.Resume l l (k OnList) refl refl refl behind)
        (in_first (plain o.End done) (part_ends l)) (in_second (plain o.End done) (part_ends l)) refl refl)
        (agrees here.sync m branched
        (chooses nowhere (o.Branch true) (first done) (second done) (k OnList) m l m m refl refl behind
        (in_first done (arm_ends l)) (in_second done (arm_ends l)) refl refl)))

    joins : (spot : Spot) (sign : Sign) (w : Way) (a : Evaluation) (left : ℕ) (x : Way) (b : Evaluation) (right : ℕ) → Good w a → Good x b → JoinNeeds tables functions sign w left x
        → Good (joined_way sign x) (joined tables functions spot sign a left b right)
    joins spot g.Comma w a left x b right good_a good_b is way after m k p =
        let more = value_of tables functions b (k OnList) in
        value_at w a good_a way after m (dropped tables functions left more)
        (drops left (gives w) m more is (value_at x b good_b way after m (k OnList) (subst (λ m'. At may_call results caller way after m' (k OnList)) (result_up (gives x) m) (p OnList (result_fits (gives x))))))
    joins spot g.AndAnd w a left x b right good_a good_b is way after m k p = logicals spot AndThen true 0 w x a b good_a is.0 good_b is.1 refl (λ m'. refl) (λ m'. refl) way after m k p
    joins spot g.OrOr w a left x b right good_a good_b is way after m k p = logicals spot OrElse false 1 w x a b good_a is.0 good_b is.1 refl (λ m'. refl) (λ m'. refl) way after m k p
    joins spot sign w a left x b right good_a good_b is way after m k p =
        let op = operate tables functions sign left right (k OnList) in
        adds w a good_a is.0 way after m (value_of tables functions b op) (adds x b good_b is.1 way after (suc m) op (operates sign left right m (k OnList) (p OnList tt)))

    assignments : (sign : Sign) (w : Way) (target : Evaluation) (left : ℕ) (x : Way) (e : Evaluation) (right : ℕ) → Good w target → IsTarget w → Good x e → gives x ≡ true
        → Good Valued (assignment tables functions sign target left e right)
    assignments g.Assign w target left x e right good is good_e has way after m k p =
        good way after m (λ s. addressed tables functions s (value_of tables functions e (assigned tables functions s (k OnList))))
        (λ s fits.
        let new = assigned tables functions s (k OnList) in
        addresses_at w s (value_of tables functions e new) m is fits (adds x e good_e has way after (up_of w m) new (assigns_at w s (k OnList) m is fits (p OnList tt))))
    assignments sign w target left x e right good is good_e has way after m k p =
        updates sign w target good is left right (value_of tables functions e) (adds x e good_e has) way after m k p

    -- suffixes
    indexes : (spot : Spot) (w x : Way) (e by : Evaluation) → Good w e → gives w ≡ true → Good x by → gives x ≡ true → Good Placed (indexed tables functions spot e by)
    indexes spot w x e by good has good_by has_by way after m k p =
        let address = k (AtAddress true spot) in
        let op = plain (o.Index (4 * (kind_at tables spot.at).words)) address in
        adds w e good has way after m (value_of tables functions by op)
        (adds x by good_by has_by way after (suc m) op (on nowhere (o.Index (4 * (kind_at tables spot.at).words)) (suc m) (suc (suc m)) address refl refl refl (p (AtAddress true spot) tt)))

    dots : (spot : Spot) (at : ℕ) (w : Way) (e : Evaluation) → Good w e → HasAddress w → Good Placed (dotted tables functions spot at e)
    dots spot at Placed e good is way after m k p =
        good way after m (λ s. member tables functions at (k (AtAddress (is_deep tables functions s) spot))) deep
      where
        deep : Goes Placed (λ s. member tables functions at (k (AtAddress (is_deep tables functions s) spot))) way after m
        deep (AtAddress d s) fits = members at m (k (AtAddress d spot)) (p (AtAddress d spot) tt)
        deep OnList fits = absurd fits
        deep (InWord variable') fits = absurd fits
        deep (ToCall name) fits = absurd fits
    dots spot at w e good is way after m k p = absurd is

    points : (spot : Spot) (at : ℕ) (w : Way) (e : Evaluation) → Good w e → gives w ≡ true → Good Placed (pointed tables functions spot at e)
    points spot at w e good has way after m k p =
        adds w e good has way after m (member tables functions at (k (AtAddress true spot))) (members at m (k (AtAddress true spot)) (p (AtAddress true spot) tt))

    raises : (sign back : Sign) (w : Way) (e : Evaluation) (at : ℕ) → Good w e → IsTarget w → Good Valued (raised tables functions sign back e at)
    raises sign back w e at good is way after m k p =
        updates sign w e good is at 0 (one tables functions) ones way after m (λ s. plain (o.Push (step_back tables functions at)) (plain (operator_of back false) (k OnList))) undone
      where
        undone : Goes Valued (λ s. plain (o.Push (step_back tables functions at)) (plain (operator_of back false) (k OnList))) way after m
        undone s fits = pushes (step_back tables functions at) (suc m) (plain (operator_of back false) (k OnList)) (operators back false m (k OnList) (p OnList tt))

    -- calls of predeclared functions
    abbrev AllAdd : Trees → List Evaluation → Type 0
    AllAdd t.no_trees [] = Unit {0}
    AllAdd (t.tree x xs) (e ∷ es) = Adds (value_of tables functions e) × AllAdd xs es
    AllAdd xs es = ⊥

    pairs : (name : Named) (by : Multiprefix) (xs : Trees) (es : List Evaluation) → AllAdd xs es → TakesEnough name xs → takes_two name ≡ true → Good Valued (multiprefix tables functions name by es)
    pairs name by t.no_trees [] all enough two = absurd (untrue (sym enough.0 ∙ two))
    pairs name by (t.tree x t.no_trees) (a ∷ []) all enough two = absurd (untrue (sym enough ∙ two))
    pairs name by (t.tree x (t.tree y others)) (a ∷ b ∷ es) all enough two = λ way after m k p.
        let request = plain (o.Combine by) (k OnList) in
        let more = value_of tables functions b request in
        all.0 way after m (perform name.place (o.Check true) more)
        (on name.place (o.Check true) (suc m) (suc m) more refl refl refl
        (all.1.0 way after (suc m) request (on nowhere (o.Combine by) (suc m) (suc (suc m)) (k OnList) refl refl refl (p OnList tt))))
    pairs name by (t.tree x t.no_trees) (a ∷ b ∷ es) all enough two = absurd all.1
    pairs name by (t.tree x (t.tree y others)) (a ∷ []) all enough two = absurd all.1
    pairs name by xs es all enough two = absurd all

    singles : (name : Named) (act : Coded → Coded) (xs : Trees) (es : List Evaluation) → AllAdd xs es → TakesEnough name xs → is_name name (codes "groupsize") ≡ false
        → (way : Bool) (after : Option ℕ) (m : ℕ) (k : ResultLocation → Coded) → At may_call results caller way after (suc m) (act (k OnList)) → At may_call results caller way after m (with_one tables functions act es k)
    singles name act t.no_trees [] all enough sizes way after m k a = absurd (untrue (sym sizes ∙ enough.1))
    singles name act (t.tree x others) (e ∷ es) all enough sizes way after m k a = all.0 way after m (act (k OnList)) a
    singles name act xs es all enough sizes way after m k a = absurd all

    predeclared_calls : (name : Named) (xs : Trees) (es : List Evaluation) → AllAdd xs es → TakesEnough name xs → Good (result (predeclared_gives name)) (called_predeclared tables functions name es)
    predeclared_calls name xs es all enough way after m k p =
        by (is_name name (codes "mpadd")) (is_name name (codes "mpmax")) (is_name name (codes "mpand")) (is_name name (codes "mpor")) (is_name name (codes "groupsize"))
        (is_name name (codes "putint")) (is_name name (codes "putchar")) (is_name name (codes "malloc")) (is_name name (codes "shmalloc")) refl refl p
      where
        one_less : (act : Coded → Coded) → is_name name (codes "groupsize") ≡ false → At may_call results caller way after (suc m) (act (k OnList)) → At may_call results caller way after m (with_one tables functions act es k)
        one_less act sizes a = singles name act xs es all enough sizes way after m k a

        by : (a b c d e f' g' h' i : Bool) → (a || (b || (c || d))) ≡ takes_two name → is_name name (codes "groupsize") ≡ e
            → Goes (result ((a || (b || (c || d))) || (e || not (f' || g')))) k way after m → At may_call results caller way after m (
            if a then multiprefix tables functions name MpAdd es k
            else if b then multiprefix tables functions name MpMax es k
            else if c then multiprefix tables functions name MpAnd es k
            else if d then multiprefix tables functions name MpOr es k
            else if e then plain (o.Get n.GroupSize) (k OnList)
            else if f' then with_one tables functions (plain o.PrintNumber) es k
            else if g' then with_one tables functions (plain o.PrintByte) es k
            else if h' then with_one tables functions (plain o.Take) es k
            else if i then with_one tables functions (plain o.Heap) es k
            else with_one tables functions (λ rest. plain o.Agree (plain o.Block rest)) es k)
        by true b c d e f' g' h' i two sizes q = pairs name MpAdd xs es all enough (sym two) way after m k q
        by false true c d e f' g' h' i two sizes q = pairs name MpMax xs es all enough (sym two) way after m k q
        by false false true d e f' g' h' i two sizes q = pairs name MpAnd xs es all enough (sym two) way after m k q
        by false false false true e f' g' h' i two sizes q = pairs name MpOr xs es all enough (sym two) way after m k q
        by false false false false true f' g' h' i two sizes q = on nowhere (o.Get n.GroupSize) (suc m) m (k OnList) refl refl refl (q OnList tt)
        by false false false false false true g' h' i two sizes q =
            one_less (plain o.PrintNumber) sizes (on nowhere o.PrintNumber m (suc m) (k OnList) refl refl refl (q OnList tt))
        by false false false false false false true h' i two sizes q =
            one_less (plain o.PrintByte) sizes (on nowhere o.PrintByte m (suc m) (k OnList) refl refl refl (q OnList tt))
        by false false false false false false false true i two sizes q =
            one_less (plain o.Take) sizes (on nowhere o.Take (suc m) (suc m) (k OnList) refl refl refl (q OnList tt))
        by false false false false false false false false true two sizes q =
            one_less (plain o.Heap) sizes (on nowhere o.Heap (suc m) (suc m) (k OnList) refl refl refl (q OnList tt))
        by false false false false false false false false false two sizes q =
            one_less (λ rest. plain o.Agree (plain o.Block rest)) sizes
            (on nowhere o.Agree (suc m) (suc m) (plain o.Block (k OnList)) refl refl refl (on nowhere o.Block (suc m) (suc m) (k OnList) refl refl refl (q OnList tt)))

    -- and of those of the program
    arguments_on : (xs : List DeclaredTree) (ts : Trees) (es : List Evaluation) → AllAdd ts es → AreEnough xs ts → (way : Bool) (after : Option ℕ) (m : ℕ) (rest : Coded)
        → At may_call results caller way after (more (length xs) m) rest → At may_call results caller way after m (arguments tables functions xs es rest)
    arguments_on [] ts es all enough way after m rest a = a
    arguments_on (x ∷ xs) t.no_trees [] all enough way after m rest a = absurd enough
    arguments_on (x ∷ xs) (t.tree y ys) (e ∷ es) all enough way after m rest a =
        let others = arguments tables functions xs es rest in
        all.0 way after m (agreed x.shared others) (agrees x.shared m others (arguments_on xs ys es all.1 enough way after (suc m) rest a))
    arguments_on (x ∷ xs) ts es all enough way after m rest a = absurd all

    before_enter : (g : Bool) (n m : ℕ) → before_call g (o.Enter n) (Some (up g m)) ≡ Some (more n m)
    before_enter true n m = refl
    before_enter false n m = refl

    enters_on : (t' : Place) (f : ℕ) (n m : ℕ) (opening rest : Coded) → may_call f ≡ true → Idle may_call results (Some (results f)) opening
        → (way : Bool) (after : Option ℕ) → At may_call results caller way after (up (results f) m) rest → At may_call results caller way after (more n m) (call t' (o.Enter n) f opening rest)
    enters_on t' f n m opening rest may opens way after a = record {
      there = ap (before_call (results f) (o.Enter n)) a.there ∙ before_enter (results f) n m;
      counted = (
        refl,
        may,
        opens,
        (subst (MayCall (results f) (o.Enter n)) (sym a.there) (ap is_some (before_enter (results f) n m)), a.counted),
      );
      leading = a.leading;
    }

    own_calls : (name : Named) (xs : Trees) (es : List Evaluation) → AllAdd xs es → AreEnough (functions (note tables name.at).binding).parameters xs → may_call (note tables name.at).binding ≡ true
        → Good (result (results (note tables name.at).binding)) (called tables functions name es)
    own_calls name xs es all enough may way after m k p =
        let b = (note tables name.at).binding in
        let function = functions b in
        let opening = framed tables functions (frame_at tables function.at 0) name.place (parameters tables functions 0 function.parameters) in
        arguments_on function.parameters xs es all enough way after m (call name.place (o.Enter (length function.parameters)) b opening (k OnList))
        (enters_on name.place b (length function.parameters) m opening (k OnList) may (opening_idle may_call results (Some (results b)) tables functions (frame_at tables function.at 0) name.place function.parameters) way after
        (subst (λ m'. At may_call results caller way after m' (k OnList)) (result_up (results b) m) (p OnList (result_fits (results b)))))

    calls : (w : Way) (e : Evaluation) (xs : Trees) (es : List Evaluation) → Good w e → AllAdd xs es → CallNeeds tables functions w xs → Good (called_way tables functions w) (λ k. e (calling tables functions es k))
    calls (Function name) e xs es good all needs way after m k p = good way after m (calling tables functions es k) by
      where
        by_binding : (no : Bool) → NameTakes tables functions no name xs → may_call (note tables name.at).binding ≡ true → Goes (result (call_gives tables functions no name)) k way after m
            → At may_call results caller way after m (if no then called_predeclared tables functions name es k else called tables functions name es k)
        by_binding true takes may q = predeclared_calls name xs es all takes way after m k q
        by_binding false takes may q = own_calls name xs es all takes may way after m k q

        by : Goes (Function name) (calling tables functions es k) way after m
        by (ToCall other) fits =
            subst (λ (x : Named). At may_call results caller way after m (calling tables functions es k (ToCall x))) fits.0
            (by_binding ((note tables name.at).binding == no_binding) needs fits.1 p)
        by OnList fits = absurd fits
        by (AtAddress deep spot) fits = absurd fits
        by (InWord variable') fits = absurd fits
    calls w e xs es good all needs way after m k p = absurd needs

    mutual
      pub evaluates : (x : Tree) → Evaluates tables functions x → Told x → Good (w.way tables functions x) (evaluated tables functions x)
      evaluates (t.Number spot value' unsigned) h d way after m k p = pushes value' m (k OnList) (p OnList tt)
      evaluates (t.Puts spot text) h d way after m k p = put (text_of text) m (k OnList) (p OnList tt)
      evaluates (t.Sizeof spot type) h d way after m k p = pushes (note tables spot.at).binding m (k OnList) (p OnList tt)
      evaluates (t.Variable name) h d way after m k p = names name (means name d) way after m k p
      evaluates (t.GroupNumber spot) h d way after m k p = on nowhere (o.Get n.GroupNumber) (suc m) m (k OnList) refl refl refl (p OnList tt)
      evaluates (t.GroupRank spot) h d way after m k p = on nowhere (o.Get n.Rank) (suc m) m (k OnList) refl refl refl (p OnList tt)
      evaluates (t.Prefix spot sign operand) h d way after m k p =
          prefixes spot sign (w.way tables functions operand) (evaluated tables functions operand) (token operand) (evaluates operand h.0 d) h.1 way after m k p
      evaluates (t.Cast spot type operand) h d way after m k p =
          adds (w.way tables functions operand) (evaluated tables functions operand) (evaluates operand h.0 d) h.1 way after m (k OnList) (p OnList tt)
      evaluates (t.Chain first links) h d way after m k p =
          links_evaluate (evaluated tables functions first) (w.way tables functions first) (token first) links (evaluates first h.0 d.0) h.1 d.1 way after m k p
      evaluates (t.Postfix whole suffixes) h d way after m k p =
          suffixes_evaluate (evaluated tables functions whole) (w.way tables functions whole) (token whole) suffixes (evaluates whole h.0 d.0) h.1 d.1 way after m k p
      evaluates (t.Assign spot sign target value') h d way after m k p =
          assignments sign (w.way tables functions target) (evaluated tables functions target) (token target) (w.way tables functions value') (evaluated tables functions value') (token value')
          (evaluates target h.0 d.0) h.1 (evaluates value' h.2 d.1) h.3 way after m k p
      evaluates (t.Choose spot condition first second) h d way after m k p =
          choices spot (w.way tables functions condition) (w.way tables functions first) (w.way tables functions second) (evaluated tables functions condition) (evaluated tables functions first) (evaluated tables functions second)
          (evaluates condition h.0 d.1) h.1 (evaluates first h.2 d.2) (evaluates second h.3 d.3) h.4 way after m k p

      links_evaluate : (e : Evaluation) (w' : Way) (at : ℕ) (links : Links) → Good w' e → LinksEvaluate tables functions w' at links → told.LinksTold Decides Means links → Good (chain_way tables functions w' links) (linked tables functions e at links)
      links_evaluate e w' at t.no_links good h d = good
      links_evaluate e w' at (t.link spot sign right others) good h d =
          links_evaluate (joined tables functions spot sign e at (evaluated tables functions right) (token right)) (joined_way sign (w.way tables functions right)) spot.at others
          (joins spot sign w' e at (w.way tables functions right) (evaluated tables functions right) (token right) good (evaluates right h.0 d.1) h.1) h.2 d.2

      suffixes_evaluate : (e : Evaluation) (w' : Way) (at : ℕ) (suffixes : Suffixes) → Good w' e → SuffixesEvaluate tables functions w' suffixes → told.SuffixesTold Decides Means suffixes → Good (suffixed_way tables functions w' suffixes) (suffixed tables functions e at suffixes)
      suffixes_evaluate e w' at t.no_suffixes good h d = good
      suffixes_evaluate e w' at (t.index spot by others) good h d =
          suffixes_evaluate (indexed tables functions spot e (evaluated tables functions by)) Placed spot.at others
          (indexes spot w' (w.way tables functions by) e (evaluated tables functions by) good h.0 (evaluates by h.1 d.0) h.2) h.3 d.1
      suffixes_evaluate e w' at (t.call spot arguments' others) good h d =
          suffixes_evaluate (λ k. e (calling tables functions (all_evaluated tables functions arguments') k)) (called_way tables functions w') spot.at others
          (calls w' e arguments' (all_evaluated tables functions arguments') good (all_evaluate arguments' h.1 d.0) h.0) h.2 d.1
      suffixes_evaluate e w' at (t.dot spot name others) good h d =
          suffixes_evaluate (dotted tables functions spot name.at e) Placed spot.at others (dots spot name.at w' e good h.0) h.1 d
      suffixes_evaluate e w' at (t.arrow spot name others) good h d =
          suffixes_evaluate (pointed tables functions spot name.at e) Placed spot.at others (points spot name.at w' e good h.0) h.1 d
      suffixes_evaluate e w' at (t.up spot others) good h d =
          suffixes_evaluate (raised tables functions g.Plus g.Minus e at) Valued spot.at others (raises g.Plus g.Minus w' e at good h.0) h.1 d
      suffixes_evaluate e w' at (t.down spot others) good h d =
          suffixes_evaluate (raised tables functions g.Minus g.Plus e at) Valued spot.at others (raises g.Minus g.Plus w' e at good h.0) h.1 d

      all_evaluate : (xs : Trees) → AllEvaluate tables functions xs → told.AllTold Decides Means xs → AllAdd xs (all_evaluated tables functions xs)
      all_evaluate t.no_trees h d = tt
      all_evaluate (t.tree first others) h d = (adds (w.way tables functions first) (evaluated tables functions first) (evaluates first h.0 d.0) h.1, all_evaluate others h.2 d.1)

    pub value_evaluates : (e : Tree) → IsValued tables functions e → Told e → (way : Bool) (after : Option ℕ) (m : ℕ) (rest : Coded) → At may_call results caller way after (suc m) rest → At may_call results caller way after m (value tables functions e rest)
    value_evaluates e h d way after m rest a = adds (w.way tables functions e) (evaluated tables functions e) (evaluates e h.0 d) h.1 way after m rest a
