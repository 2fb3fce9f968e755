-- Expressions whose code begins with an operation: those that have a value, where each variable has a word.
use Rattle.std.proofs.Common.{◌≡◌, ℕ, Bool, true, false, List, [], ◌∷◌, length, codes, refl, sym, subst}
use Rattle.std.specs.Prelude.{◌==◌, ◌||◌, if◌then◌else◌}
use Rattle.std.proofs.lemmas.Bool.{false≢true}
use Rattle.fk_syntax.specs.declared.place.Spot.{Spot}
use Rattle.fk_syntax.specs.declared.sign.Sign.{Sign}
use Rattle.fk_syntax.specs.declared.sign.Sign.TheVariants as g
use Rattle.fk_syntax.specs.Tree as t
use Rattle.fk_syntax.specs.Tree.{Named, Tree, Links, Trees, Suffixes}
use Rattle.fk_syntax.specs.Program.{DeclaredTree}
use Rattle.fk_meaning_operation.specs.declared.operation.Operation.{Operation}
use Rattle.fk_meaning_operation.specs.declared.operation.Operation.TheVariants as o
use Rattle.fk_meaning_operation.specs.declared.operation.Variable.{Variable}
use Rattle.fk_meaning_operation.specs.declared.operation.OwnValue.TheVariants as x'
use Rattle.fk_meaning_operation.specs.declared.operation.Multiprefix.{Multiprefix}
use Rattle.fk_meaning_operation.specs.declared.operation.SplitKind.{SplitKind}
use Rattle.fk_meaning_operation.specs.declared.operation.SplitKind.TheVariants.{AndThen, OrElse}
use Rattle.fk_meaning_forms.specs.declared.tables.Home.{Home}
use Rattle.fk_meaning_forms.specs.declared.tables.Home.TheVariants as h
use Rattle.fk_meaning_forms.specs.declared.signs.Move.{Move}
use Rattle.fk_meaning_forms.specs.declared.signs.Move.TheVariants.{Forth, Back, NoMove}
use Rattle.fk_meaning_forms.specs.Code.{numbered, call}
use Rattle.fk_meaning_forms.specs.Tables.{Tables, no_binding, note, frame_at, kind_at, is_array, is_void, slot}
use Rattle.fk_meaning_forms.specs.Signs.{operator_of, move_of}
use Rattle.fk_meaning_forms.specs.Texts.{text_of}
use Rattle.fk_meaning_forms.specs.Expressions as x
use Rattle.fk_meaning_forms.specs.Expressions.{Coded, ResultLocation, OnList, AtAddress, InWord, ToCall, Evaluation, Signature, token, is_name, put_bytes, moved}
use Rattle.fk_core.specs.CodeAt.{is_first}
use Rattle.fk_meaning.specs.Calls as c
use Rattle.fk_meaning.specs.Calls.{takes_two, TakesEnough}

abbrev pub First : Coded → Type 0
First code = (n : ℕ) → is_first (numbered n code) ≡ true

-- it begins with an operation where what follows does; where what stands in a word is read; and whatever follows
abbrev pub Passes : Evaluation → Type 0
Passes e = (k : ResultLocation → Coded) → ((location : ResultLocation) → First (k location)) → First (e k)

abbrev pub Begins : Evaluation → Type 0
Begins e = (k : ResultLocation → Coded) → ((variable : Variable) → First (k (InWord variable))) → First (e k)

abbrev pub Performs : Evaluation → Type 0
Performs e = (k : ResultLocation → Coded) → First (e k)

either_first : (b : Bool) (c d : Coded) → First c → First d → First (if b then c else d)
either_first true c d h k = h
either_first false c d h k = k

put_first : (bytes : List ℕ) (rest : Coded) → First rest → First (put_bytes bytes rest)
put_first [] rest h = h
put_first (b ∷ bytes) rest h = λ n. refl

moved_first : (m : Move) (step : ℕ) (op : Operation) (rest : Coded) → First (moved m step op rest)
moved_first Forth step op rest = λ n. refl
moved_first Back step op rest = λ n. refl
moved_first NoMove step op rest = λ n. refl

agreed_first : (sync : Bool) (rest : Coded) → First rest → First (x.agreed sync rest)
agreed_first sync rest h = either_first sync (x.plain o.Agree rest) rest (λ n. refl) h

-- which part of a sign's operands has the value, or the address
abbrev prefix_valued : Sign → Type 0 → Type 0 → Type 0
prefix_valued g.Minus V A = Unit {0}
prefix_valued g.Tilde V A = Unit {0}
prefix_valued g.Exclamation V A = Unit {0}
prefix_valued g.Increment V A = Unit {0}
prefix_valued g.Decrement V A = Unit {0}
prefix_valued g.Ampersand V A = A
prefix_valued sign V A = V

abbrev star_valued : Sign → Type 0 → Type 0
star_valued g.Star V = V
star_valued sign V = ⊥

abbrev comma_valued : Sign → Type 0 → Type 0
comma_valued g.Comma V = V
comma_valued sign V = Unit {0}

-- by whether there are others behind it
abbrev last_valued : Links → Type 0 → Type 0 → Type 0
last_valued t.no_links V W = V
last_valued (t.link spot sign right others) V W = W

abbrev assign_valued : Sign → Type 0 → Type 0
assign_valued g.Assign V = V
assign_valued sign V = Unit {0}

abbrev is_some_suffix : Suffixes → Bool
is_some_suffix t.no_suffixes = false
is_some_suffix others = true

module _ (tables : Tables) (functions : (binding : ℕ) → Signature) where
  checked_first : (deep : Bool) (spot : Spot) (rest : Coded) → First rest → First (x.checked tables functions deep spot rest)
  checked_first true spot rest h = λ n. refl
  checked_first false spot rest h = h

  valued_first : (location : ResultLocation) (rest : Coded) → First rest → First (x.valued tables functions location rest)
  valued_first OnList rest h = h
  valued_first (AtAddress deep spot) rest h =
      either_first (is_array tables spot.at) rest (x.checked tables functions deep spot (x.plain o.Read rest)) h (checked_first deep spot (x.plain o.Read rest) (λ n. refl))
  valued_first (InWord variable) rest h = λ n. refl
  valued_first (ToCall name) rest h = h

  addressed_first : (location : ResultLocation) (rest : Coded) → First rest → First (x.addressed tables functions location rest)
  addressed_first OnList rest h = h
  addressed_first (AtAddress deep spot) rest h = checked_first deep spot rest h
  addressed_first (InWord variable) rest h = h
  addressed_first (ToCall name) rest h = h

  fetched_first : (location : ResultLocation) (rest : Coded) → First rest → First (x.fetched tables functions location rest)
  fetched_first OnList rest h = h
  fetched_first (AtAddress deep spot) rest h = checked_first deep spot (x.plain o.CopyLast (x.plain o.Read rest)) (λ n. refl)
  fetched_first (InWord variable) rest h = λ n. refl
  fetched_first (ToCall name) rest h = h

  assigned_first : (location : ResultLocation) (rest : Coded) → First rest → First (x.assigned tables functions location rest)
  assigned_first OnList rest h = h
  assigned_first (AtAddress deep spot) rest h = λ n. refl
  assigned_first (InWord variable) rest h = λ n. refl
  assigned_first (ToCall name) rest h = h

  value_passes : (e : Evaluation) → Passes e → (rest : Coded) → First rest → First (x.value_of tables functions e rest)
  value_passes e h rest k = h (λ location. x.valued tables functions location rest) (λ location. valued_first location rest k)

  pub value_begins : (e : Evaluation) → Begins e → (rest : Coded) → First (x.value_of tables functions e rest)
  value_begins e h rest = h (λ location. x.valued tables functions location rest) (λ variable n. refl)

  operate_first : (sign : Sign) (left right : ℕ) (rest : Coded) → First (x.operate tables functions sign left right rest)
  operate_first sign left right rest =
      either_first ((kind_at tables left).step == 0) _ _ (λ n. refl) (moved_first (move_of sign) (kind_at tables left).step _ rest)

  updated_first : (sign : Sign) (target : Evaluation) (left right : ℕ) (e : Coded → Coded) (k : ResultLocation → Coded) → Passes target → ((rest : Coded) → First rest → First (e rest))
      → First (x.updated tables functions sign target left right e k)
  updated_first sign target left right e k h go = h _ (λ location. fetched_first location _ (go _ (operate_first sign left right _)))

  prefixed_passes : (spot : Spot) (sign : Sign) (e : Evaluation) (at : ℕ) → Passes e → Passes (x.prefixed tables functions spot sign e at)
  prefixed_passes spot g.Minus e at h k f = value_passes e h _ (λ n. refl)
  prefixed_passes spot g.Tilde e at h k f = value_passes e h _ (λ n. refl)
  prefixed_passes spot g.Exclamation e at h k f = value_passes e h _ (λ n. refl)
  prefixed_passes spot g.Star e at h k f = value_passes e h _ (f (AtAddress true spot))
  prefixed_passes spot g.Ampersand e at h k f = h _ (λ location. addressed_first location (k OnList) (f OnList))
  prefixed_passes spot g.Increment e at h k f = updated_first g.Plus e at spot.at (x.plain (o.Push 1)) k h (λ rest r n. refl)
  prefixed_passes spot g.Decrement e at h k f = updated_first g.Minus e at spot.at (x.plain (o.Push 1)) k h (λ rest r n. refl)
  prefixed_passes spot sign e at h k f = value_passes e h _ (f OnList)

  logical_first : (spot : Spot) (split : SplitKind) (onward : Bool) (other : ℕ) (a b : Evaluation) (k : ResultLocation → Coded) → Passes a → First (x.logical tables functions spot split onward other a b k)
  logical_first spot split onward other a b k h =
      value_passes a h _ (either_first (note tables spot.at).splits _ _ (λ n. refl) (agreed_first (note tables spot.at).sync _ (λ n. refl)))

  chosen_first : (spot : Spot) (condition a b : Evaluation) (k : ResultLocation → Coded) → Passes condition → First (x.chosen tables functions spot condition a b k)
  chosen_first spot condition a b k h =
      value_passes condition h _ (either_first (note tables spot.at).splits _ _ (λ n. refl) (agreed_first (note tables spot.at).sync _ (λ n. refl)))

  joined_first : (spot : Spot) (sign : Sign) (a : Evaluation) (left : ℕ) (b : Evaluation) (right : ℕ) (k : ResultLocation → Coded) → Passes a → Passes b
      → (sign ≡ g.Comma → First (x.value_of tables functions b (k OnList))) → First (x.joined tables functions spot sign a left b right k)
  joined_first spot g.Comma a left b right k h j last =
      value_passes a h _ (either_first (is_void tables left) _ _ (last refl) (λ n. refl))
  joined_first spot g.AndAnd a left b right k h j last = logical_first spot AndThen true 0 a b k h
  joined_first spot g.OrOr a left b right k h j last = logical_first spot OrElse false 1 a b k h
  joined_first spot sign a left b right k h j last = value_passes a h _ (value_passes b j _ (operate_first sign left right (k OnList)))

  joined_passes : (spot : Spot) (sign : Sign) (a : Evaluation) (left : ℕ) (b : Evaluation) (right : ℕ) → Passes a → Passes b → Passes (x.joined tables functions spot sign a left b right)
  joined_passes spot sign a left b right h j k f = joined_first spot sign a left b right k h j (λ e. value_passes b j (k OnList) (f OnList))

  assignment_first : (sign : Sign) (target : Evaluation) (left : ℕ) (value : Evaluation) (right : ℕ) (k : ResultLocation → Coded) → Passes target → Passes value
      → (sign ≡ g.Assign → (location : ResultLocation) → First (x.value_of tables functions value (x.assigned tables functions location (k OnList))))
      → First (x.assignment tables functions sign target left value right k)
  assignment_first g.Assign target left value right k h j last = h _ (λ location. addressed_first location _ (last refl location))
  assignment_first sign target left value right k h j last = updated_first sign target left right _ k h (λ rest r. value_passes value j rest r)

  indexed_performs : (spot : Spot) (e by : Evaluation) → Passes e → Passes by → Performs (x.indexed tables functions spot e by)
  indexed_performs spot e by h j k = value_passes e h _ (value_passes by j _ (λ n. refl))

  dotted_performs : (spot : Spot) (at : ℕ) (e : Evaluation) → Passes e → Performs (x.dotted tables functions spot at e)
  dotted_performs spot at e h k = h _ (λ location n. refl)

  pointed_performs : (spot : Spot) (at : ℕ) (e : Evaluation) → Passes e → Performs (x.pointed tables functions spot at e)
  pointed_performs spot at e h k = value_passes e h _ (λ n. refl)

  raised_performs : (sign back : Sign) (e : Evaluation) (at : ℕ) → Passes e → Performs (x.raised tables functions sign back e at)
  raised_performs sign back e at h k = updated_first sign e at 0 (x.plain (o.Push 1)) (λ location. x.plain (o.Push (x.step_back tables functions at)) (x.plain (operator_of back false) (k OnList))) h (λ rest r n. refl)

  -- ---- names and calls

  variable_passes : (name : Named) → Passes (x.variable tables functions name)
  variable_passes name k f = either_first ((note tables name.at).binding == no_binding) _ _
      (either_first (is_name name (codes "__PROC_NR__")) _ _ (λ n. refl) (either_first (is_name name (codes "__STARTED_PROCS__")) _ _ (λ n. refl)
      (either_first (is_name name (codes "__inputs")) _ _ (λ n. refl) (either_first (is_name name (codes "__input")) _ _ (λ n. refl) (f (ToCall name))))))
      (at_home (slot tables (note tables name.at).binding).home (slot tables (note tables name.at).binding).index)
    where
      at_home : (home : Home) (index : ℕ) → First (x.placed tables functions home index name k)
      at_home h.Global index = λ n. refl
      at_home h.FilePrivate index = f (InWord _)
      at_home h.Private index = f (InWord _)
      at_home (h.Group r) index = λ n. refl
      at_home h.NoWord index = f (ToCall name)

  abbrev AllPass : List Evaluation → Type 0
  AllPass [] = Unit {0}
  AllPass (e ∷ es) = Passes e × AllPass es

  arguments_first : (xs : List DeclaredTree) (es : List Evaluation) (rest : Coded) → AllPass es → First rest → First (x.arguments tables functions xs es rest)
  arguments_first [] es rest h r = r
  arguments_first (y ∷ xs) [] rest h r = r
  arguments_first (y ∷ xs) (e ∷ es) rest h r = value_passes e h.0 _ (agreed_first y.shared _ (arguments_first xs es rest h.1 r))

  called_first : (name : Named) (es : List Evaluation) (k : ResultLocation → Coded) → AllPass es → First (x.called tables functions name es k)
  called_first name es k h =
      let b = (note tables name.at).binding in
      let function = functions b in
      arguments_first function.parameters es (call name.place (o.Enter (length function.parameters)) b
      (x.framed tables functions (frame_at tables function.at 0) name.place (x.parameters tables functions 0 function.parameters)) (k OnList)) h (λ n. refl)

  one_first : (after : Coded → Coded) (e : Evaluation) (es : List Evaluation) (k : ResultLocation → Coded) → ((rest : Coded) → First (after rest)) → Passes e → First (x.with_one tables functions after (e ∷ es) k)
  one_first after e es k go h = value_passes e h _ (go (k OnList))

  two_first : (name : Named) (by : Multiprefix) (a b : Evaluation) (es : List Evaluation) (k : ResultLocation → Coded) → Passes a → First (x.multiprefix tables functions name by (a ∷ b ∷ es) k)
  two_first name by a b es k h = value_passes a h _ (λ n. refl)

  -- by which of the predeclared names it is
  picked : (m1 m2 m3 m4 : Bool) (c1 c2 c3 c4 others : Coded) → (m1 || (m2 || (m3 || m4))) ≡ false → First others
      → First (if m1 then c1 else (if m2 then c2 else (if m3 then c3 else (if m4 then c4 else others))))
  picked false false false false c1 c2 c3 c4 others none h = h
  picked true m2 m3 m4 c1 c2 c3 c4 others none h = absurd (false≢true (sym none))
  picked false true m3 m4 c1 c2 c3 c4 others none h = absurd (false≢true (sym none))
  picked false false true m4 c1 c2 c3 c4 others none h = absurd (false≢true (sym none))
  picked false false false true c1 c2 c3 c4 others none h = absurd (false≢true (sym none))

  sized : (b : Bool) (c others : Coded) → b ≡ true → First c → First (if b then c else others)
  sized true c others is h = h
  sized false c others is h = absurd (false≢true is)

  -- what takes one argument, or none
  single_first : (name : Named) (a : Evaluation) (es : List Evaluation) (k : ResultLocation → Coded) → Passes a
      → First (if is_name name (codes "groupsize") then x.plain (o.Get x'.GroupSize) (k OnList)
      else if is_name name (codes "putint") then x.with_one tables functions (x.plain o.PrintNumber) (a ∷ es) k
      else if is_name name (codes "putchar") then x.with_one tables functions (x.plain o.PrintByte) (a ∷ es) k
      else if is_name name (codes "malloc") then x.with_one tables functions (x.plain o.Take) (a ∷ es) k
      else if is_name name (codes "shmalloc") then x.with_one tables functions (x.plain o.Heap) (a ∷ es) k
      else x.with_one tables functions (λ rest. x.plain o.Agree (x.plain o.Block rest)) (a ∷ es) k)
  single_first name a es k h =
      either_first (is_name name (codes "groupsize")) _ _ (λ n. refl)
      (either_first (is_name name (codes "putint")) _ _ (one_first (x.plain o.PrintNumber) a es k (λ rest n. refl) h)
      (either_first (is_name name (codes "putchar")) _ _ (one_first (x.plain o.PrintByte) a es k (λ rest n. refl) h)
      (either_first (is_name name (codes "malloc")) _ _ (one_first (x.plain o.Take) a es k (λ rest n. refl) h)
      (either_first (is_name name (codes "shmalloc")) _ _ (one_first (x.plain o.Heap) a es k (λ rest n. refl) h)
      (one_first (λ rest. x.plain o.Agree (x.plain o.Block rest)) a es k (λ rest n. refl) h)))))

  none_first : (name : Named) (k : ResultLocation → Coded) → takes_two name ≡ false → is_name name (codes "groupsize") ≡ true → First (x.called_predeclared tables functions name [] k)
  none_first name k none is = picked (is_name name (codes "mpadd")) (is_name name (codes "mpmax")) (is_name name (codes "mpand")) (is_name name (codes "mpor")) _ _ _ _ _ none
      (sized (is_name name (codes "groupsize")) (x.plain (o.Get x'.GroupSize) (k OnList)) _ is (λ n. refl))

  lone_first : (name : Named) (a : Evaluation) (k : ResultLocation → Coded) → takes_two name ≡ false → Passes a → First (x.called_predeclared tables functions name (a ∷ []) k)
  lone_first name a k none h = picked (is_name name (codes "mpadd")) (is_name name (codes "mpmax")) (is_name name (codes "mpand")) (is_name name (codes "mpor")) _ _ _ _ _ none (single_first name a [] k h)

  both_first : (name : Named) (a b : Evaluation) (es : List Evaluation) (k : ResultLocation → Coded) → Passes a → First (x.called_predeclared tables functions name (a ∷ b ∷ es) k)
  both_first name a b es k h =
      either_first (is_name name (codes "mpadd")) _ _ (two_first name _ a b es k h)
      (either_first (is_name name (codes "mpmax")) _ _ (two_first name _ a b es k h)
      (either_first (is_name name (codes "mpand")) _ _ (two_first name _ a b es k h)
      (either_first (is_name name (codes "mpor")) _ _ (two_first name _ a b es k h)
      (single_first name a (b ∷ es) k h))))

  prefixed_begins : (spot : Spot) (sign : Sign) (e : Evaluation) (at : ℕ) (V A : Type 0) → Passes e → (V → Begins e) → (A → Performs e) → prefix_valued sign V A → Begins (x.prefixed tables functions spot sign e at)
  prefixed_begins spot g.Minus e at V A p go run v k h = value_passes e p _ (λ n. refl)
  prefixed_begins spot g.Tilde e at V A p go run v k h = value_passes e p _ (λ n. refl)
  prefixed_begins spot g.Exclamation e at V A p go run v k h = value_passes e p _ (λ n. refl)
  prefixed_begins spot g.Star e at V A p go run v k h = value_begins e (go v) _
  prefixed_begins spot g.Ampersand e at V A p go run v k h = run v _
  prefixed_begins spot g.Increment e at V A p go run v k h = updated_first g.Plus e at spot.at (x.plain (o.Push 1)) k p (λ rest r n. refl)
  prefixed_begins spot g.Decrement e at V A p go run v k h = updated_first g.Minus e at spot.at (x.plain (o.Push 1)) k p (λ rest r n. refl)
  prefixed_begins spot sign e at V A p go run v k h = value_begins e (go v) _

  star_performs : (spot : Spot) (sign : Sign) (e : Evaluation) (at : ℕ) (V : Type 0) → (V → Begins e) → star_valued sign V → Performs (x.prefixed tables functions spot sign e at)
  star_performs spot g.Star e at V go v k = value_begins e (go v) _
  star_performs spot sign e at V go v k = absurd v

  abbrev mutual
    -- an expression has a value, by its last part; and an address
    pub Valued : Tree → Type 0
    Valued (t.Number spot value unsigned) = Unit {0}
    Valued (t.Puts spot text) = ⊥
    Valued (t.Sizeof spot type) = Unit {0}
    Valued (t.Variable name) = Begins (x.variable tables functions name)
    Valued (t.GroupNumber spot) = Unit {0}
    Valued (t.GroupRank spot) = Unit {0}
    Valued (t.Prefix spot sign operand) = prefix_valued sign (Valued operand) (Addressed operand)
    Valued (t.Cast spot type operand) = Valued operand
    Valued (t.Chain first t.no_links) = Valued first
    Valued (t.Chain first links) = LastValued links
    Valued (t.Postfix whole t.no_suffixes) = Valued whole
    Valued (t.Postfix whole others) = Unit {0}
    Valued (t.Assign spot sign target value) = assign_valued sign (Valued value)
    Valued (t.Choose spot condition first second) = Unit {0}

    pub LastValued : Links → Type 0
    LastValued t.no_links = ⊥
    LastValued (t.link spot sign right others) = last_valued others (comma_valued sign (Valued right)) (LastValued others)

    pub Addressed : Tree → Type 0
    Addressed (t.Variable name) = Performs (x.variable tables functions name)
    Addressed (t.Prefix spot sign operand) = star_valued sign (Valued operand)
    Addressed (t.Chain first t.no_links) = Addressed first
    Addressed (t.Postfix whole t.no_suffixes) = Addressed whole
    Addressed (t.Postfix whole others) = Unit {0}
    Addressed e = ⊥

  module _ (T : Named → Trees → Type 0) (enough : (name : Named) (arguments : Trees) → T name arguments → ((note tables name.at).binding == no_binding) ≡ true → TakesEnough name arguments) where
    abbrev Fits : Tree → Type 0
    Fits e = c.Fits tables functions T e

    abbrev evaluated : Tree → Evaluation
    evaluated e = x.evaluated tables functions e

    predeclared_first : (name : Named) (arguments : Trees) (k : ResultLocation → Coded) → TakesEnough name arguments → AllPass (x.all_evaluated tables functions arguments)
        → First (x.called_predeclared tables functions name (x.all_evaluated tables functions arguments) k)
    predeclared_first name t.no_trees k e h = none_first name k e.0 e.1
    predeclared_first name (t.tree first t.no_trees) k e h = lone_first name (evaluated first) k e h.0
    predeclared_first name (t.tree first (t.tree second others)) k e h = both_first name (evaluated first) (evaluated second) (x.all_evaluated tables functions others) k h.0

    named_first : (name : Named) (arguments : Trees) (k : ResultLocation → Coded) → T name arguments → AllPass (x.all_evaluated tables functions arguments)
        → First (x.calling tables functions (x.all_evaluated tables functions arguments) k (ToCall name))
    named_first name arguments k takes h = by ((note tables name.at).binding == no_binding) refl
      where
        by : (b : Bool) → ((note tables name.at).binding == no_binding) ≡ b
            → First (if b then x.called_predeclared tables functions name (x.all_evaluated tables functions arguments) k else x.called tables functions name (x.all_evaluated tables functions arguments) k)
        by true is = predeclared_first name arguments k (enough name arguments takes is) h
        by false is = called_first name (x.all_evaluated tables functions arguments) k h

    call_first : (whole : Tree) (arguments : Trees) (k : ResultLocation → Coded) → c.CallFits tables functions T whole arguments → AllPass (x.all_evaluated tables functions arguments)
        → First (evaluated whole (λ location. x.calling tables functions (x.all_evaluated tables functions arguments) k location))
    call_first (t.Variable name) arguments k f h = subst First (sym (f.0 (x.calling tables functions (x.all_evaluated tables functions arguments) k))) (named_first name arguments k f.1 h)
    call_first (t.Chain first t.no_links) arguments k f h = call_first first arguments k f h
    call_first (t.Postfix whole t.no_suffixes) arguments k f h = call_first whole arguments k f h
    call_first e arguments k f h = absurd f

    -- ---- whatever fits passes

    mutual
      pub passes : (e : Tree) → Fits e → Passes (evaluated e)
      passes (t.Number spot value unsigned) f k h = λ n. refl
      passes (t.Puts spot text) f k h = put_first (text_of text) (k OnList) (h OnList)
      passes (t.Sizeof spot type) f k h = λ n. refl
      passes (t.Variable name) f k h = variable_passes name k h
      passes (t.GroupNumber spot) f k h = λ n. refl
      passes (t.GroupRank spot) f k h = λ n. refl
      passes (t.Prefix spot sign operand) f k h = prefixed_passes spot sign (evaluated operand) (token operand) (passes operand f) k h
      passes (t.Cast spot type operand) f k h = value_passes (evaluated operand) (passes operand f) (k OnList) (h OnList)
      passes (t.Chain first links) f k h = links_pass (evaluated first) (token first) (passes first f.0) links f.1 k h
      passes (t.Postfix whole t.no_suffixes) f k h = passes whole f.0 k h
      passes (t.Postfix whole suffixes) f k h = first_performs whole (λ f'. passes whole f') suffixes refl f k
      passes (t.Assign spot sign target value) f k h =
          assignment_first sign (evaluated target) (token target) (evaluated value) (token value) k (passes target f.0) (passes value f.1)
          (λ e location. value_passes (evaluated value) (passes value f.1) _ (assigned_first location (k OnList) (h OnList)))
      passes (t.Choose spot condition first second) f k h = chosen_first spot (evaluated condition) (evaluated first) (evaluated second) k (passes condition f.0)

      links_pass : (e : Evaluation) (at : ℕ) → Passes e → (links : Links) → c.LinksFit tables functions T links → Passes (x.linked tables functions e at links)
      links_pass e at p t.no_links f k h = p k h
      links_pass e at p (t.link spot sign right others) f k h =
          links_pass _ spot.at (joined_passes spot sign e at (evaluated right) (token right) p (passes right f.0)) others f.1 k h

      suffixes_perform : (e : Evaluation) (at : ℕ) → Performs e → (suffixes : Suffixes) → c.SuffixesFit tables functions T suffixes → Performs (x.suffixed tables functions e at suffixes)
      suffixes_perform e at p t.no_suffixes f k = p k
      suffixes_perform e at p (t.index spot by others) f k = suffixes_perform _ spot.at (indexed_performs spot e (evaluated by) (λ j i. p j) (passes by f.0)) others f.1 k
      suffixes_perform e at p (t.call spot arguments others) f k = absurd f
      suffixes_perform e at p (t.dot spot name others) f k = suffixes_perform _ spot.at (dotted_performs spot name.at e (λ j i. p j)) others f k
      suffixes_perform e at p (t.arrow spot name others) f k = suffixes_perform _ spot.at (pointed_performs spot name.at e (λ j i. p j)) others f k
      suffixes_perform e at p (t.up spot others) f k = suffixes_perform _ spot.at (raised_performs g.Plus g.Minus e at (λ j i. p j)) others f k
      suffixes_perform e at p (t.down spot others) f k = suffixes_perform _ spot.at (raised_performs g.Minus g.Plus e at (λ j i. p j)) others f k

      all_pass : (arguments : Trees) → c.AllFit tables functions T arguments → AllPass (x.all_evaluated tables functions arguments)
      all_pass t.no_trees f = tt
      all_pass (t.tree first others) f = (passes first f.0, all_pass others f.1)

      -- where there is a suffix, it performs
      first_performs : (whole : Tree) → (Fits whole → Passes (evaluated whole)) → (suffixes : Suffixes) → is_some_suffix suffixes ≡ true → Fits whole × c.FirstFits tables functions T whole suffixes
          → Performs (x.suffixed tables functions (evaluated whole) (token whole) suffixes)
      first_performs whole go t.no_suffixes some f k = absurd (false≢true some)
      first_performs whole go (t.index spot by others) some f k = suffixes_perform _ spot.at (indexed_performs spot (evaluated whole) (evaluated by) (go f.0) (passes by f.1.0)) others f.1.1 k
      first_performs whole go (t.call spot arguments others) some f k =
          suffixes_perform _ spot.at (λ j. call_first whole arguments j f.1.0 (all_pass arguments f.1.1)) others f.1.2 k
      first_performs whole go (t.dot spot name others) some f k = suffixes_perform _ spot.at (dotted_performs spot name.at (evaluated whole) (go f.0)) others f.1 k
      first_performs whole go (t.arrow spot name others) some f k = suffixes_perform _ spot.at (pointed_performs spot name.at (evaluated whole) (go f.0)) others f.1 k
      first_performs whole go (t.up spot others) some f k = suffixes_perform _ spot.at (raised_performs g.Plus g.Minus (evaluated whole) (token whole) (go f.0)) others f.1 k
      first_performs whole go (t.down spot others) some f k = suffixes_perform _ spot.at (raised_performs g.Minus g.Plus (evaluated whole) (token whole) (go f.0)) others f.1 k

    -- ---- and begins with an operation where it has a value

    mutual
      pub begins : (e : Tree) → Fits e → Valued e → Begins (evaluated e)
      begins (t.Number spot value unsigned) f v k h = λ n. refl
      begins (t.Puts spot text) f v k h = absurd v
      begins (t.Sizeof spot type) f v k h = λ n. refl
      begins (t.Variable name) f v k h = v k h
      begins (t.GroupNumber spot) f v k h = λ n. refl
      begins (t.GroupRank spot) f v k h = λ n. refl
      begins (t.Prefix spot sign operand) f v k h =
          prefixed_begins spot sign (evaluated operand) (token operand) (Valued operand) (Addressed operand) (passes operand f) (λ w. begins operand f w) (λ w. performs operand f w) v k h
      begins (t.Cast spot type operand) f v k h = value_begins (evaluated operand) (begins operand f v) (k OnList)
      begins (t.Chain first t.no_links) f v k h = begins first f.0 v k h
      begins (t.Chain first links) f v k h = links_perform (evaluated first) (token first) (passes first f.0) links f.1 v k
      begins (t.Postfix whole t.no_suffixes) f v k h = begins whole f.0 v k h
      begins (t.Postfix whole suffixes) f v k h = first_performs whole (λ f'. passes whole f') suffixes refl f k
      begins (t.Assign spot sign target value) f v k h =
          assignment_first sign (evaluated target) (token target) (evaluated value) (token value) k (passes target f.0) (passes value f.1)
          (λ is location. value_begins (evaluated value) (begins value f.1 (subst (λ (s : Sign). assign_valued s (Valued value)) is v)) _)
      begins (t.Choose spot condition first second) f v k h = chosen_first spot (evaluated condition) (evaluated first) (evaluated second) k (passes condition f.0)

      links_perform : (e : Evaluation) (at : ℕ) → Passes e → (links : Links) → c.LinksFit tables functions T links → LastValued links → Performs (x.linked tables functions e at links)
      links_perform e at p t.no_links f v k = absurd v
      links_perform e at p (t.link spot sign right t.no_links) f v k = joined_first spot sign e at (evaluated right) (token right) k p (passes right f.0)
          (λ is. value_begins (evaluated right) (begins right f.0 (subst (λ (s : Sign). comma_valued s (Valued right)) is v)) (k OnList))
      links_perform e at p (t.link spot sign right others) f v k =
          links_perform _ spot.at (joined_passes spot sign e at (evaluated right) (token right) p (passes right f.0)) others f.1 v k

      performs : (e : Tree) → Fits e → Addressed e → Performs (evaluated e)
      performs (t.Variable name) f v k = v k
      performs (t.Prefix spot sign operand) f v k = star_performs spot sign (evaluated operand) (token operand) (Valued operand) (λ w. begins operand f w) v k
      performs (t.Chain first t.no_links) f v k = performs first f.0 v k
      performs (t.Postfix whole t.no_suffixes) f v k = performs whole f.0 v k
      performs (t.Postfix whole suffixes) f v k = first_performs whole (λ f'. passes whole f') suffixes refl f k
      performs e f v k = absurd v
