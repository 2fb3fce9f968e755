-- The operations of expressions have numbers, and take only numbers that have room in a word.
use Rattle.std.proofs.Common.{ℕ, zero, suc, ◌+◌, ◌*◌, ◌^◌, ◌<◌, Bool, true, false, List, [], ◌∷◌, All, Option, Some, None, length, codes, refl, ap, arith}
use Rattle.std.specs.Prelude.{◌==◌, ◌&&◌, if◌then◌else◌}
use Rattle.std.proofs.lemmas.List.Elements.{All-nil, All-cons, All-head, All-tail}
use Rattle.fk_syntax.specs.declared.facts.Kind.{Kind}
use Rattle.fk_syntax.specs.declared.facts.Note.{Note}
use Rattle.fk_syntax.specs.declared.place.Place.{Place}
use Rattle.fk_syntax.specs.declared.place.Spot.{Spot}
use Rattle.fk_syntax.specs.declared.sign.Sign.{Sign}
use Rattle.fk_syntax.specs.declared.sign.Sign.TheVariants as g
use Rattle.fk_syntax.specs.Tree as t
use Rattle.fk_syntax.specs.Tree.{Named, Tree, Links, Trees, Suffixes}
use Rattle.fk_syntax.specs.Program.{DeclaredTree}
use Rattle.fk_meaning_operation.specs.declared.operation.Operation.{Operation}
use Rattle.fk_meaning_operation.specs.declared.operation.Operation.TheVariants as o
use Rattle.fk_meaning_operation.specs.declared.operation.Variable.TheVariants as v
use Rattle.fk_meaning_operation.specs.declared.operation.Multiprefix.{Multiprefix}
use Rattle.fk_meaning_operation.specs.declared.operation.Multiprefix.TheVariants.{MpAdd, MpMax, MpAnd, MpOr}
use Rattle.fk_meaning_operation.specs.declared.operation.SplitKind.{SplitKind}
use Rattle.fk_meaning_operation.specs.declared.operation.SplitKind.TheVariants.{AndThen, OrElse}
use Rattle.fk_meaning_forms.specs.declared.tables.Home.{Home}
use Rattle.fk_meaning_forms.specs.declared.tables.Home.TheVariants as h
use Rattle.fk_meaning_forms.specs.declared.tables.Region.{Region}
use Rattle.fk_meaning_forms.specs.declared.tables.Slot.{Slot}
use Rattle.fk_meaning_forms.specs.declared.signs.Move.{Move}
use Rattle.fk_meaning_forms.specs.declared.signs.Move.TheVariants.{Forth, Back, NoMove}
use Rattle.fk_meaning_forms.specs.Tables.{Tables, no_binding, nth, note, no_note, no_kind, no_slot, no_region, frame_in, frame_at, kind_at, is_array, is_void, slot, region}
use Rattle.fk_meaning_forms.specs.Signs.{operator_of, move_of}
use Rattle.fk_meaning_forms.specs.Texts.{escaped, up_to_quote, text_of}
use Rattle.fk_meaning_forms.specs.Expressions as x
use Rattle.fk_meaning_forms.specs.Expressions.{Coded, ResultLocation, OnList, AtAddress, InWord, ToCall, Evaluation, Signature, token, is_name, put_bytes, moved}
use Rattle.fk_core.specs.Numbers.{nestings, IsNear}
use Rattle.fk_parse_laws.specs.Every.{TreeHas, LinksHave, TreesHave, SuffixesHave}
use Rattle.fk_parse_laws.specs.Words.{IsWord, word_numbers}
use Rattle.fk_lower_names.specs.WordRoom.{HasRoom, near_members}
use Rattle.fk_lower_names.proofs.Fine.{IsFit, AllFit, fits}

pub either : {X : Type 0} (P : X → Type 0) (b : Bool) (c d : X) → P c → P d → P (if b then c else d)
either P true c d h k = h
either P false c d h k = k

pub either_fit : (b : Bool) (c d : Coded) → AllFit c → AllFit d → AllFit (if b then c else d)
either_fit true c d h k = h
either_fit false c d h k = k

nth_all : {X : Type 0} (P : X → Type 0) (other : X) → P other → (xs : List X) → All P xs → (n : ℕ) → P (nth other xs n)
nth_all P other p [] h n = p
nth_all P other p (x ∷ xs) h zero = All-head P x xs h
nth_all P other p (x ∷ xs) h (suc n) = nth_all P other p xs (All-tail P x xs h) n

-- ---- operations

-- a word in which an expression stands is near
abbrev pub Good : ResultLocation → Type 0
Good (InWord variable) = IsNear variable
Good other = Unit {0}

abbrev pub Keeps : Evaluation → Type 0
Keeps e = (k : ResultLocation → Coded) → ((s : ResultLocation) → Good s → AllFit (k s)) → AllFit (e k)

push_room : (n : ℕ) → n < 2 ^ 32 → IsFit (o.Push n)
push_room n h = ap o.Push (fits n h)

index_room : (n : ℕ) → n < 2 ^ 32 → IsFit (o.Index n)
index_room n h = ap o.Index (fits n h)

operator_room : (sign : Sign) (unsigned : Bool) → IsFit (operator_of sign unsigned)
operator_room g.Plus unsigned = refl
operator_room sign unsigned = refl

-- ---- texts

escaped_word : (byte : ℕ) → IsWord byte → IsWord (escaped byte)
escaped_word b h = either IsWord (b == 110) _ _ (omega arith) (either IsWord (b == 116) _ _ (omega arith) (either IsWord (b == 48) _ _ (omega arith) h))

up_to_quote_words : (bytes : List ℕ) → All IsWord bytes → All IsWord (up_to_quote bytes)
up_to_quote_words [] h = h
up_to_quote_words (b ∷ []) h = All-nil IsWord
up_to_quote_words (b ∷ x ∷ bytes) h =
    let others = All-tail IsWord b (x ∷ bytes) h in
    either (All IsWord) (b == 92) _ _
    (All-cons IsWord (escaped x) (up_to_quote bytes) (escaped_word x (All-head IsWord x bytes others)) (up_to_quote_words bytes (All-tail IsWord x bytes others)))
    (All-cons IsWord b (up_to_quote (x ∷ bytes)) (All-head IsWord b (x ∷ bytes) h) (up_to_quote_words (x ∷ bytes) others))

text_words : (text : List ℕ) → All IsWord text → All IsWord (text_of text)
text_words [] h = h
text_words (quote ∷ bytes) h = up_to_quote_words bytes (All-tail IsWord quote bytes h)

put_fit : (bytes : List ℕ) (rest : Coded) → All IsWord bytes → AllFit rest → AllFit (put_bytes bytes rest)
put_fit [] rest h r = r
put_fit (b ∷ bytes) rest h r = (push_room b (All-head IsWord b bytes h), (refl, put_fit bytes rest (All-tail IsWord b bytes h) r))

-- ---- the helpers

moved_fit : (m : Move) (step : ℕ) (op : Operation) (rest : Coded) → step < 2 ^ 32 → IsFit op → AllFit rest → AllFit (moved m step op rest)
moved_fit Forth step op rest h i r = (index_room step h, r)
moved_fit Back step op rest h i r = (refl, (index_room step h, r))
moved_fit NoMove step op rest h i r = (i, r)

pub agreed_fit : (sync : Bool) (rest : Coded) → AllFit rest → AllFit (x.agreed sync rest)
agreed_fit sync rest r = either_fit sync _ _ (refl, r) r

module _ (tables : Tables) (functions : (binding : ℕ) → Signature) (room : HasRoom tables) (few : (binding : ℕ) → length (functions binding).parameters < 2 ^ 26) where
  -- ---- what the tables tell

  binding_fits : (at : ℕ) → (note tables at).binding < 2 ^ 32
  binding_fits at = nth_all (λ (y : Note). y.binding < 2 ^ 32) no_note (omega arith) tables.notes room.notes at

  words_fit : (at : ℕ) → (kind_at tables at).words < 2 ^ 29
  words_fit at = nth_all (λ (y : Kind). y.words < 2 ^ 29) no_kind (omega arith) tables.kinds room.words (note tables at).kind

  step_fits : (at : ℕ) → (kind_at tables at).step < 2 ^ 32
  step_fits at = nth_all (λ (y : Kind). y.step < 2 ^ 32) no_kind (omega arith) tables.kinds room.steps (note tables at).kind

  slot_fits : (binding : ℕ) → (slot tables binding).index < 2 ^ 21
  slot_fits binding = nth_all (λ (y : Slot). y.index < 2 ^ 21) no_slot (omega arith) tables.slots room.slots binding

  level_fits : (number : ℕ) → (region tables number).level < nestings
  level_fits number = nth_all (λ (y : Region). y.level < nestings) no_region (omega arith) tables.regions room.levels number

  abbrev FrameFits : Option Region → Type 0
  FrameFits None = Unit {0}
  FrameFits (Some r) = (r.words < 2 ^ 21) × (r.level < nestings)

  frame_in_fits : (rs : List Region) → All (λ (y : Region). y.level < nestings) rs → All (λ (y : Region). y.words < 2 ^ 21) rs → (at part : ℕ) → FrameFits (frame_in tables rs at part)
  frame_in_fits [] h k at part = tt
  frame_in_fits (r ∷ rs) h k at part = either FrameFits ((r.at == at) && (r.part == part)) _ _
      (All-head (λ (y : Region). y.words < 2 ^ 21) r rs k, All-head (λ (y : Region). y.level < nestings) r rs h)
      (frame_in_fits rs (All-tail (λ (y : Region). y.level < nestings) r rs h) (All-tail (λ (y : Region). y.words < 2 ^ 21) r rs k) at part)

  given_frame_fit : (frame : Option Region) (place : Place) (rest : Coded) → FrameFits frame → AllFit rest → AllFit (x.framed tables functions frame place rest)
  given_frame_fit None place rest h r = r
  given_frame_fit (Some y) place rest h r = (h, r)

  pub framed_fit : (at part : ℕ) (place : Place) (rest : Coded) → AllFit rest → AllFit (x.framed tables functions (frame_at tables at part) place rest)
  framed_fit at part place rest r = given_frame_fit (frame_at tables at part) place rest (frame_in_fits tables.regions room.levels room.frames at part) r

  -- ---- where the result of an expression is

  checked_fit : (deep : Bool) (spot : Spot) (rest : Coded) → AllFit rest → AllFit (x.checked tables functions deep spot rest)
  checked_fit deep spot rest r = either_fit deep _ _ (refl, r) r

  pub valued_fit : (location : ResultLocation) → Good location → (rest : Coded) → AllFit rest → AllFit (x.valued tables functions location rest)
  valued_fit OnList i rest r = r
  valued_fit (AtAddress deep spot) i rest r = either_fit (is_array tables spot.at) _ _ r (checked_fit deep spot (x.plain o.Read rest) (refl, r))
  valued_fit (InWord variable) i rest r = (i, r)
  valued_fit (ToCall name) i rest r = r

  pub addressed_fit : (location : ResultLocation) (rest : Coded) → AllFit rest → AllFit (x.addressed tables functions location rest)
  addressed_fit OnList rest r = r
  addressed_fit (AtAddress deep spot) rest r = checked_fit deep spot rest r
  addressed_fit (InWord variable) rest r = r
  addressed_fit (ToCall name) rest r = r

  fetched_fit : (location : ResultLocation) → Good location → (rest : Coded) → AllFit rest → AllFit (x.fetched tables functions location rest)
  fetched_fit OnList i rest r = r
  fetched_fit (AtAddress deep spot) i rest r = checked_fit deep spot (x.plain o.CopyLast (x.plain o.Read rest)) (refl, (refl, r))
  fetched_fit (InWord variable) i rest r = (i, r)
  fetched_fit (ToCall name) i rest r = r

  pub assigned_fit : (location : ResultLocation) → Good location → (rest : Coded) → AllFit rest → AllFit (x.assigned tables functions location rest)
  assigned_fit OnList i rest r = r
  assigned_fit (AtAddress deep spot) i rest r = (refl, r)
  assigned_fit (InWord variable) i rest r = (i, r)
  assigned_fit (ToCall name) i rest r = r

  value_of_fit : (e : Evaluation) → Keeps e → (rest : Coded) → AllFit rest → AllFit (x.value_of tables functions e rest)
  value_of_fit e h rest r = h (λ location. x.valued tables functions location rest) (λ location i. valued_fit location i rest r)

  pub dropped_fit : (at : ℕ) (rest : Coded) → AllFit rest → AllFit (x.dropped tables functions at rest)
  dropped_fit at rest r = either_fit (is_void tables at) _ _ r (refl, r)

  -- ---- names

  pub variable_keeps : (name : Named) → (k : ResultLocation → Coded) → ((s : ResultLocation) → Good s → AllFit (k s)) → AllFit (x.variable tables functions name k)
  variable_keeps name k f = either_fit ((note tables name.at).binding == no_binding) _ _
      (either_fit (is_name name (codes "__PROC_NR__")) _ _ (tt, f OnList tt) (either_fit (is_name name (codes "__STARTED_PROCS__")) _ _ (tt, f OnList tt)
      (either_fit (is_name name (codes "__inputs")) _ _ (tt, f OnList tt) (either_fit (is_name name (codes "__input")) _ _ (tt, f (AtAddress false (x.spot_of name)) tt) (f (ToCall name) tt)))))
      (at_home (slot tables (note tables name.at).binding).home (slot tables (note tables name.at).binding).index (slot_fits (note tables name.at).binding))
    where
      at_home : (home : Home) (index : ℕ) → index < 2 ^ 21 → AllFit (x.placed tables functions home index name k)
      at_home h.Global index i = (push_room (0x10000000 + 4 * index) (omega arith), f (AtAddress false (x.spot_of name)) tt)
      at_home h.FilePrivate index i = f (InWord (v.OfFile index)) (omega arith)
      at_home h.Private index i = f (InWord (v.Private index)) (omega arith)
      at_home (h.Group r) index i = ((i, level_fits r), f (AtAddress false (x.spot_of name)) tt)
      at_home h.NoWord index i = f (ToCall name) tt

  -- ---- signs

  operate_fit : (sign : Sign) (left right : ℕ) (rest : Coded) → AllFit rest → AllFit (x.operate tables functions sign left right rest)
  operate_fit sign left right rest r =
      either_fit ((kind_at tables left).step == 0) _ _ (operator_room sign _, r)
      (moved_fit (move_of sign) (kind_at tables left).step _ rest (step_fits left) (operator_room sign _) r)

  updated_fit : (sign : Sign) (target : Evaluation) (left right : ℕ) (e : Coded → Coded) (k : ResultLocation → Coded) → Keeps target → ((rest : Coded) → AllFit rest → AllFit (e rest))
      → AllFit (k OnList) → AllFit (x.updated tables functions sign target left right e k)
  updated_fit sign target left right e k h go r =
      h _ (λ location i. fetched_fit location i _ (go _ (operate_fit sign left right _ (assigned_fit location i (k OnList) r))))

  one_fit : (rest : Coded) → AllFit rest → AllFit (x.one tables functions rest)
  one_fit rest r = (refl, r)

  prefixed_keeps : (spot : Spot) (sign : Sign) (e : Evaluation) (at : ℕ) → Keeps e → Keeps (x.prefixed tables functions spot sign e at)
  prefixed_keeps spot g.Minus e at h k f = value_of_fit e h _ (refl, f OnList tt)
  prefixed_keeps spot g.Tilde e at h k f = value_of_fit e h _ (refl, f OnList tt)
  prefixed_keeps spot g.Exclamation e at h k f = value_of_fit e h _ (refl, f OnList tt)
  prefixed_keeps spot g.Star e at h k f = value_of_fit e h _ (f (AtAddress true spot) tt)
  prefixed_keeps spot g.Ampersand e at h k f = h _ (λ location i. addressed_fit location (k OnList) (f OnList tt))
  prefixed_keeps spot g.Increment e at h k f = updated_fit g.Plus e at spot.at (x.one tables functions) k h one_fit (f OnList tt)
  prefixed_keeps spot g.Decrement e at h k f = updated_fit g.Minus e at spot.at (x.one tables functions) k h one_fit (f OnList tt)
  prefixed_keeps spot sign e at h k f = value_of_fit e h _ (f OnList tt)

  truth_fit : (e : Evaluation) → Keeps e → (rest : Coded) → AllFit rest → AllFit (x.truth tables functions e rest)
  truth_fit e h rest r = value_of_fit e h _ (refl, (refl, r))

  logical_fit : (spot : Spot) (split : SplitKind) (onward : Bool) (other : ℕ) (a b : Evaluation) (k : ResultLocation → Coded) → other < 2 ^ 32 → Keeps a → Keeps b → AllFit (k OnList)
      → AllFit (x.logical tables functions spot split onward other a b k)
  logical_fit spot split onward other a b k o' h j r =
      value_of_fit a h _ (either_fit (note tables spot.at).splits _ _
      (refl, truth_fit b j _ (refl, tt), tt, (refl, r))
      (agreed_fit (note tables spot.at).sync _ (refl, truth_fit b j _ tt, (push_room other o', tt), r)))

  chosen_fit : (spot : Spot) (condition a b : Evaluation) (k : ResultLocation → Coded) → Keeps condition → Keeps a → Keeps b → AllFit (k OnList)
      → AllFit (x.chosen tables functions spot condition a b k)
  chosen_fit spot condition a b k h i j r =
      value_of_fit condition h _ (either_fit (note tables spot.at).splits _ _
      (refl, value_of_fit a i _ (refl, tt), value_of_fit b j _ (refl, tt), (refl, r))
      (agreed_fit (note tables spot.at).sync _ (refl, value_of_fit a i _ tt, value_of_fit b j _ tt, r)))

  joined_keeps : (spot : Spot) (sign : Sign) (a : Evaluation) (left : ℕ) (b : Evaluation) (right : ℕ) → Keeps a → Keeps b → Keeps (x.joined tables functions spot sign a left b right)
  joined_keeps spot g.Comma a left b right h j k f = value_of_fit a h _ (dropped_fit left _ (value_of_fit b j (k OnList) (f OnList tt)))
  joined_keeps spot g.AndAnd a left b right h j k f = logical_fit spot AndThen true 0 a b k (omega arith) h j (f OnList tt)
  joined_keeps spot g.OrOr a left b right h j k f = logical_fit spot OrElse false 1 a b k (omega arith) h j (f OnList tt)
  joined_keeps spot sign a left b right h j k f = value_of_fit a h _ (value_of_fit b j _ (operate_fit sign left right (k OnList) (f OnList tt)))

  assignment_fit : (sign : Sign) (target : Evaluation) (left : ℕ) (value : Evaluation) (right : ℕ) (k : ResultLocation → Coded) → Keeps target → Keeps value → AllFit (k OnList)
      → AllFit (x.assignment tables functions sign target left value right k)
  assignment_fit g.Assign target left value right k h j r =
      h _ (λ location i. addressed_fit location _ (value_of_fit value j _ (assigned_fit location i (k OnList) r)))
  assignment_fit sign target left value right k h j r = updated_fit sign target left right (x.value_of tables functions value) k h (λ rest s. value_of_fit value j rest s) r

  -- ---- suffixes

  member_fit : (at : ℕ) → (note tables at).binding < 2 ^ 29 → (rest : Coded) → AllFit rest → AllFit (x.member tables functions at rest)
  member_fit at h rest r = (push_room (4 * (note tables at).binding) (omega arith), (refl, r))

  indexed_keeps : (spot : Spot) (e by : Evaluation) → Keeps e → Keeps by → Keeps (x.indexed tables functions spot e by)
  indexed_keeps spot e by h j k f =
      let i = words_fit spot.at in
      value_of_fit e h _ (value_of_fit by j _ (index_room (4 * (kind_at tables spot.at).words) (omega arith), f (AtAddress true spot) tt))

  dotted_keeps : (spot : Spot) (at : ℕ) (e : Evaluation) → (note tables at).binding < 2 ^ 29 → Keeps e → Keeps (x.dotted tables functions spot at e)
  dotted_keeps spot at e i h k f = h _ (λ location j. member_fit at i (k (AtAddress (x.is_deep tables functions location) spot)) (f (AtAddress (x.is_deep tables functions location) spot) tt))

  pointed_keeps : (spot : Spot) (at : ℕ) (e : Evaluation) → (note tables at).binding < 2 ^ 29 → Keeps e → Keeps (x.pointed tables functions spot at e)
  pointed_keeps spot at e i h k f = value_of_fit e h _ (member_fit at i (k (AtAddress true spot)) (f (AtAddress true spot) tt))

  raised_keeps : (sign back : Sign) (e : Evaluation) (at : ℕ) → Keeps e → Keeps (x.raised tables functions sign back e at)
  raised_keeps sign back e at h k f =
      updated_fit sign e at 0 (x.one tables functions) (λ location. x.plain (o.Push (x.step_back tables functions at)) (x.plain (operator_of back false) (k OnList))) h one_fit
      (push_room (x.step_back tables functions at) (either IsWord ((kind_at tables at).step == 0) _ _ (omega arith) (step_fits at)), (operator_room back false, f OnList tt))

  -- ---- calls

  abbrev AllKeep : List Evaluation → Type 0
  AllKeep [] = Unit {0}
  AllKeep (e ∷ es) = Keeps e × AllKeep es

  arguments_fit : (ys : List DeclaredTree) (es : List Evaluation) (rest : Coded) → AllKeep es → AllFit rest → AllFit (x.arguments tables functions ys es rest)
  arguments_fit [] es rest h r = r
  arguments_fit (y ∷ ys) [] rest h r = r
  arguments_fit (y ∷ ys) (e ∷ es) rest h r = value_of_fit e h.0 _ (agreed_fit y.shared _ (arguments_fit ys es rest h.1 r))

  parameters_fit : (i : ℕ) (ys : List DeclaredTree) → i + length ys < 2 ^ 26 → AllFit (x.parameters tables functions i ys)
  parameters_fit i [] h = tt
  parameters_fit i (y ∷ ys) h =
      let b = (note tables y.name.at).binding in
      let s = slot_fits b in
      let others = parameters_fit (suc i) ys (omega arith) in
      either_fit y.shared _ _
      ((s, omega arith), (omega arith, (refl, (refl, others))))
      others

  called_fit : (name : Named) (es : List Evaluation) (k : ResultLocation → Coded) → AllKeep es → AllFit (k OnList) → AllFit (x.called tables functions name es k)
  called_fit name es k h r =
      let function = functions (note tables name.at).binding in
      let short = few (note tables name.at).binding in
      arguments_fit function.parameters es _ h (
        ap o.Enter (fits (length function.parameters) (omega (arith, short))),
        framed_fit function.at 0 name.place _ (parameters_fit 0 function.parameters (omega arith)),
        r,
      )

  multiprefix_fit : (name : Named) (by : Multiprefix) (es : List Evaluation) (k : ResultLocation → Coded) → AllKeep es → AllFit (k OnList) → AllFit (x.multiprefix tables functions name by es k)
  multiprefix_fit name by [] k h r = tt
  multiprefix_fit name by (a ∷ []) k h r = tt
  multiprefix_fit name by (a ∷ b ∷ es) k h r = value_of_fit a h.0 _ (refl, value_of_fit b h.1.0 _ (refl, r))

  with_one_fit : (after : Coded → Coded) (es : List Evaluation) (k : ResultLocation → Coded) → AllKeep es → AllFit (after (k OnList)) → AllFit (x.with_one tables functions after es k)
  with_one_fit after [] k h r = tt
  with_one_fit after (e ∷ es) k h r = value_of_fit e h.0 _ r

  predeclared_fit : (name : Named) (es : List Evaluation) (k : ResultLocation → Coded) → AllKeep es → AllFit (k OnList) → AllFit (x.called_predeclared tables functions name es k)
  predeclared_fit name es k h r =
      either_fit (is_name name (codes "mpadd")) _ _ (multiprefix_fit name MpAdd es k h r)
      (either_fit (is_name name (codes "mpmax")) _ _ (multiprefix_fit name MpMax es k h r)
      (either_fit (is_name name (codes "mpand")) _ _ (multiprefix_fit name MpAnd es k h r)
      (either_fit (is_name name (codes "mpor")) _ _ (multiprefix_fit name MpOr es k h r)
      (either_fit (is_name name (codes "groupsize")) _ _ (tt, r)
      (either_fit (is_name name (codes "putint")) _ _ (with_one_fit (x.plain o.PrintNumber) es k h (refl, r))
      (either_fit (is_name name (codes "putchar")) _ _ (with_one_fit (x.plain o.PrintByte) es k h (refl, r))
      (either_fit (is_name name (codes "malloc")) _ _ (with_one_fit (x.plain o.Take) es k h (refl, r))
      (either_fit (is_name name (codes "shmalloc")) _ _ (with_one_fit (x.plain o.Heap) es k h (refl, r))
      (with_one_fit (λ rest. x.plain o.Agree (x.plain o.Block rest)) es k h (refl, (refl, r)))))))))))

  calling_fit : (es : List Evaluation) (k : ResultLocation → Coded) (location : ResultLocation) → AllKeep es → AllFit (k OnList) → AllFit (x.calling tables functions es k location)
  calling_fit es k (ToCall name) h r = either_fit ((note tables name.at).binding == no_binding) _ _ (predeclared_fit name es k h r) (called_fit name es k h r)
  calling_fit es k location h r = tt

  -- ---- trees

  abbrev evaluated : Tree → Evaluation
  evaluated e = x.evaluated tables functions e

  mutual
    pub keeps : (e : Tree) → TreeHas word_numbers e → TreeHas (near_members tables) e → Keeps (evaluated e)
    keeps (t.Number spot value unsigned) i j k f = (push_room value i, f OnList tt)
    keeps (t.Puts spot text) i j k f = put_fit (text_of text) (k OnList) (text_words text i) (f OnList tt)
    keeps (t.Sizeof spot type) i j k f = (push_room (note tables spot.at).binding (binding_fits spot.at), f OnList tt)
    keeps (t.Variable name) i j k f = variable_keeps name k f
    keeps (t.GroupNumber spot) i j k f = (tt, f OnList tt)
    keeps (t.GroupRank spot) i j k f = (tt, f OnList tt)
    keeps (t.Prefix spot sign operand) i j k f = prefixed_keeps spot sign (evaluated operand) (token operand) (keeps operand i j) k f
    keeps (t.Cast spot type operand) i j k f = value_of_fit (evaluated operand) (keeps operand i j) (k OnList) (f OnList tt)
    keeps (t.Chain first links) i j k f = links_keep (evaluated first) (token first) (keeps first i.1 j.1) links i.2 j.2 k f
    keeps (t.Postfix whole suffixes) i j k f = suffixes_keep (evaluated whole) (token whole) (keeps whole i.1 j.1) suffixes i.2 j.2 k f
    keeps (t.Assign spot sign target value) i j k f =
        assignment_fit sign (evaluated target) (token target) (evaluated value) (token value) k (keeps target i.0 j.0) (keeps value i.1 j.1) (f OnList tt)
    keeps (t.Choose spot condition first second) i j k f =
        chosen_fit spot (evaluated condition) (evaluated first) (evaluated second) k (keeps condition i.0 j.0) (keeps first i.1 j.1) (keeps second i.2 j.2) (f OnList tt)

    links_keep : (e : Evaluation) (at : ℕ) → Keeps e → (links : Links) → LinksHave word_numbers links → LinksHave (near_members tables) links → Keeps (x.linked tables functions e at links)
    links_keep e at p t.no_links i j k f = p k f
    links_keep e at p (t.link spot sign right others) i j k f =
        links_keep _ spot.at (joined_keeps spot sign e at (evaluated right) (token right) p (keeps right i.0 j.0)) others i.1 j.1 k f

    suffixes_keep : (e : Evaluation) (at : ℕ) → Keeps e → (suffixes : Suffixes) → SuffixesHave word_numbers suffixes → SuffixesHave (near_members tables) suffixes → Keeps (x.suffixed tables functions e at suffixes)
    suffixes_keep e at p t.no_suffixes i j k f = p k f
    suffixes_keep e at p (t.index spot by others) i j k f = suffixes_keep _ spot.at (indexed_keeps spot e (evaluated by) p (keeps by i.0 j.0)) others i.1 j.1 k f
    suffixes_keep e at p (t.call spot arguments others) i j k f =
        suffixes_keep (λ q. e (x.calling tables functions (x.all_evaluated tables functions arguments) q)) spot.at
        (λ q s. p _ (λ location good. calling_fit (x.all_evaluated tables functions arguments) q location (all_keep arguments i.0 j.0) (s OnList tt))) others i.1 j.1 k f
    suffixes_keep e at p (t.dot spot name others) i j k f = suffixes_keep _ spot.at (dotted_keeps spot name.at e j.0 p) others i.1 j.1 k f
    suffixes_keep e at p (t.arrow spot name others) i j k f = suffixes_keep _ spot.at (pointed_keeps spot name.at e j.0 p) others i.1 j.1 k f
    suffixes_keep e at p (t.up spot others) i j k f = suffixes_keep _ spot.at (raised_keeps g.Plus g.Minus e at p) others i j k f
    suffixes_keep e at p (t.down spot others) i j k f = suffixes_keep _ spot.at (raised_keeps g.Minus g.Plus e at p) others i j k f

    all_keep : (arguments : Trees) → TreesHave word_numbers arguments → TreesHave (near_members tables) arguments → AllKeep (x.all_evaluated tables functions arguments)
    all_keep t.no_trees i j = tt
    all_keep (t.tree first others) i j = (keeps first i.0 j.0, all_keep others i.1 j.1)

  pub value_fit : (e : Tree) → TreeHas word_numbers e → TreeHas (near_members tables) e → (rest : Coded) → AllFit rest → AllFit (x.value tables functions e rest)
  value_fit e i j rest r = value_of_fit (evaluated e) (keeps e i j) rest r
