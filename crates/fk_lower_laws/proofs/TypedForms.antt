-- The code of expressions is well typed before code that is.
use Rattle.std.proofs.Common.{◌≡◌, ℕ, zero, suc, ◌+◌, ◌≤◌, Bool, true, false, List, [], ◌∷◌, ◌++◌, length, drop, replicate, Option, Some, None, refl, sym, subst, ap, ◌∙◌, arith}
use Rattle.std.specs.Prelude.{◌==◌, ◌*◌, ◌/◌, ◌%◌, ◌||◌, not, codes, if◌then◌else◌}
use Rattle.std.proofs.lemmas.Bool.{false≢true, eq-eqb}
use Rattle.fk_num.specs.declared.operator.Op.TheVariants as f
use Rattle.fk_core_typing.specs.LocalDepths.{results}
use Rattle.fk_syntax.specs.declared.place.Place as y
use Rattle.fk_syntax.specs.declared.place.Spot.{Spot}
use Rattle.fk_syntax.specs.declared.sign.Sign.{Sign}
use Rattle.fk_syntax.specs.declared.sign.Sign.TheVariants as g
use Rattle.fk_syntax.specs.Tree as t
use Rattle.fk_syntax.specs.Tree.{Named, Tree, Links, Trees, Suffixes}
use Rattle.fk_syntax.specs.Program.{DeclaredTree}
use Rattle.fk_meaning_operation.specs.declared.operation.Operation.TheVariants as o
use Rattle.fk_meaning_operation.specs.declared.operation.Variable.TheVariants as v
use Rattle.fk_meaning_operation.specs.declared.operation.OwnValue.TheVariants as n
use Rattle.fk_meaning_operation.specs.declared.operation.Unary.TheVariants as u
use Rattle.fk_meaning_operation.specs.declared.operation.Multiprefix.{Multiprefix}
use Rattle.fk_meaning_operation.specs.declared.operation.Multiprefix.TheVariants.{MpAdd, MpMax, MpAnd, MpOr}
use Rattle.fk_meaning_operation.specs.declared.operation.SplitKind.{SplitKind}
use Rattle.fk_meaning_operation.specs.declared.operation.SplitKind.TheVariants.{IfElse, AndThen, OrElse}
use Rattle.fk_meaning_forms.specs.declared.tables.Home.{Home}
use Rattle.fk_meaning_forms.specs.declared.tables.Home.TheVariants as h
use Rattle.fk_meaning_forms.specs.declared.tables.Region.{Region}
use Rattle.fk_meaning_forms.specs.declared.signs.Move.{Move}
use Rattle.fk_meaning_forms.specs.declared.signs.Move.TheVariants.{Forth, Back, NoMove}
use Rattle.fk_meaning_forms.specs.Code.{done, perform, choose, call}
use Rattle.fk_meaning_forms.specs.Tables.{Tables, no_binding, note, kind_at, is_array, is_void, is_unsigned, slot, region, frame_at}
use Rattle.fk_meaning_forms.specs.Signs.{operator_of, is_shift, move_of}
use Rattle.fk_meaning_forms.specs.Texts.{text_of}
use Rattle.fk_meaning_forms.specs.Expressions.{Coded, nowhere, plain, ResultLocation, OnList, AtAddress, InWord, ToCall, Evaluation, token, spot_of, is_name, Signature, put_bytes, moved, agreed, checked, valued, addressed, fetched, assigned, value_of, dropped, predeclared, placed, variable, operate, updated, one, prefixed, truth, logical, chosen, joined, assignment, member, is_deep, indexed, dotted, pointed, step_back, raised, arguments, framed, parameters, called, multiprefix, with_one, called_predeclared, calling, evaluated, linked, suffixed, all_evaluated}
use Rattle.fk_meaning.specs.Calls.{takes_two, TakesEnough}
use Rattle.fk_core_liveness.specs.declared.places.FunctionKind.{FunctionKind}
use Rattle.fk_core_liveness.specs.declared.places.FunctionKind.TheVariants.{Main, Called}
use Rattle.fk_core_typing.specs.AddressValues.{joined_constant}
use Rattle.fk_core_typing.specs.declared.constants.Constant.{Constant as Address}
use Rattle.fk_core_typing.specs.declared.constants.Constant.TheVariants.{Number, FrameWord}
use Rattle.fk_lockstep_frames.specs.Nests.{OfFunction, OfPart, has_word, IsInPart}
use Rattle.fk_num.specs.Word.{word}
use Rattle.fk_core_typing.specs.Values.{Value, Unknown, Usable, Shared, Place, with_frame, entered, State, bare}
use Rattle.fk_core_typing.specs.Typed.{Loop}
use Rattle.fk_core_typing.proofs.Granting.{none_asked, good_as_itself, as_long}
use Rattle.fk_lockstep_structure.specs.Valued.{AreEnough, predeclared_gives}
use Rattle.fk_lower_laws.specs.Ways.{Way, Valued, Absent, Unchecked, Constant, Array, Word, Function, gives, result, place_gives, predeclared_way, placed_way, prefix_way, joined_way, behind_member, named_way, called_way, dotted_way, way, chain_way, suffixed_way}
use Rattle.fk_lower_laws.specs.Parts.{HasLevel}
use Rattle.fk_lower_laws.specs.Asked.{IsTarget, HasAddress, PrefixAsks, IsCalled, NameAsks, DotAsks, JoinAsks, TakesAll, NameTakes, CallAsks, Asked, LinksAsked, SuffixesAsked, AllAsked, IsOpenIf, AreOpen, Opens, frame_with, frame_for}
use Rattle.fk_lower_laws.proofs.Deeper.{asked_deeper}
use Rattle.fk_lower_laws.proofs.TypedOk.{level, noted, Acts, Ok, as_unknown, weaken, ended, on, branch, enters}
use Rattle.fk_lower_laws.proofs.Acting.{simply, push, push_address, push_offset, add_offset, join, copy, check, check_shared, read, write, combine, get, get_own, takes_frame, set, drop_last, apply, index, agree}

-- values with one more, of which nothing is known, or without
abbrev pub after : Bool → List Value → List Value
after true vs = Unknown ∷ vs
after false vs = vs

-- the values while a place is held to which is assigned
abbrev pub held : Way → List Value → List Value
held Unchecked vs = Usable ∷ vs
held (Constant address) vs = Shared ∷ vs
held w vs = vs

-- as many more of which nothing is known
abbrev pub stacked : ℕ → List Value → List Value
stacked zero vs = vs
stacked (suc n) vs = stacked n (Unknown ∷ vs)

slides : (n : ℕ) (vs : List Value) → replicate n Unknown ++ (Unknown ∷ vs) ≡ Unknown ∷ (replicate n Unknown ++ vs)
slides zero vs = refl
slides (suc n) vs = ap (λ ws. Unknown ∷ ws) (slides n vs)

stacked_is : (n : ℕ) (vs : List Value) → stacked n vs ≡ replicate n Unknown ++ vs
stacked_is zero vs = refl
stacked_is (suc n) vs = stacked_is n (Unknown ∷ vs) ∙ slides n vs

drops_all : (n : ℕ) (vs : List Value) → drop n (replicate n Unknown ++ vs) ≡ vs
drops_all zero vs = refl
drops_all (suc n) vs = drops_all n vs

as_many : (n : ℕ) (vs : List Value) → n ≤ length (replicate n Unknown ++ vs)
as_many zero vs = omega arith
as_many (suc n) vs = let h : n ≤ length (replicate n Unknown ++ vs) = as_many n vs in omega arith

unstacked : (n : ℕ) (vs : List Value) → drop n (stacked n vs) ≡ vs
unstacked n vs = ap (λ ws. drop n ws) (stacked_is n vs) ∙ drops_all n vs

stacked_many : (n : ℕ) (vs : List Value) → n ≤ length (stacked n vs)
stacked_many n vs = subst (λ ws. n ≤ length ws) (sym (stacked_is n vs)) (as_many n vs)

pushed_results : (gives : Bool) (vs : List Value) → replicate (results gives) Unknown ++ vs ≡ after gives vs
pushed_results true vs = refl
pushed_results false vs = refl

-- the place in one part more, which has no frame
abbrev pub deeper : Place → Place
deeper p = record p { nests = OfPart false None ∷ p.nests }

-- a call is at the place, which it can come back to from a part
abbrev pub IsWithin : Place → Type 0
IsWithin p = IsInPart (OfPart false None ∷ p.nests)

module _ (tables : Tables) (functions : (binding : ℕ) → Signature) (place_of : (binding : ℕ) → FunctionKind)
    (opens : (binding : ℕ) (gives : Bool) → place_of binding ≡ Called gives → Opens tables (place_of binding) (functions binding)) where
  abbrev frame_of : ℕ → Option ℕ
  frame_of = frame_for tables functions place_of

  module _ (p : Place) where
    abbrev pub Fine : Option Loop → List Value → Coded → State → Type 0
    Fine l vs code e = Ok place_of frame_of l (level p vs) code e

    -- code before code that needs other values
    abbrev pub Leads : (before after : List Value) → (Coded → Coded) → Type 0
    Leads us ws f = (l : Option Loop) (rest : Coded) (e : State) → Fine l ws rest e → Fine l us (f rest) e

    pub either : {l : Option Loop} {t e : State} (b : Bool) (c d : Coded) → Ok place_of frame_of l t c e → Ok place_of frame_of l t d e → Ok place_of frame_of l t (if b then c else d) e
    either true c d h k = h
    either false c d h k = k

    chosen_first : {l : Option Loop} {t e : State} (b : Bool) (c d : Coded) → b ≡ true → Ok place_of frame_of l t c e → Ok place_of frame_of l t (if b then c else d) e
    chosen_first true c d is h = h
    chosen_first false c d is h = absurd (false≢true is)

    -- the state in which an expression stands, and how it does
    abbrev pub stood : Way → List Value → State
    stood Valued vs = level p (Unknown ∷ vs)
    stood Absent vs = level p vs
    stood Unchecked vs = level p (Unknown ∷ vs)
    stood (Constant address) vs = noted p address vs
    stood Array vs = level p (Unknown ∷ vs)
    stood Word vs = level p vs
    stood (Function name) vs = level p vs

    abbrev pub IsOf : Way → ResultLocation → Type 0
    IsOf Valued OnList = Unit {0}
    IsOf Absent OnList = Unit {0}
    IsOf Unchecked (AtAddress true spot) = Unit {0}
    IsOf (Constant address) (AtAddress false spot) = Unit {0}
    IsOf Array (AtAddress false spot) = is_array tables spot.at ≡ true
    IsOf Word (InWord variable) = Unit {0}
    IsOf (Function name) (ToCall other) = name ≡ other
    IsOf w location = ⊥

    abbrev pub Good : Evaluation → Way → Type 0
    Good s w = (l : Option Loop) (vs : List Value) (k : ResultLocation → Coded) (e : State)
        → ((st : ResultLocation) → IsOf w st → Ok place_of frame_of l (stood w vs) (k st) e) → Fine l vs (s k) e

    -- code that pushes a value or none
    abbrev pub Pushes : Bool → (Coded → Coded) → Type 0
    Pushes b f = (vs : List Value) → Leads vs (after b vs) f

    -- what is known is more than that nothing is known
    pub forgets : {l : Option Loop} {e : State} {code : Coded} (v : Value) (vs : List Value) → Fine l (Unknown ∷ vs) code e → Fine l (v ∷ vs) code e
    forgets v vs q = weaken (record { place = refl; values = (as_unknown v, good_as_itself vs); constants = none_asked _ }) q

    unnoted_in : {l : Option Loop} {e : State} {code : Coded} (q : Place) (c : Address) (vs : List Value) → Ok place_of frame_of l (level q (Shared ∷ vs)) code e
        → Ok place_of frame_of l (noted q c vs) code e
    unnoted_in q c vs fine = weaken (record { place = refl; values = good_as_itself (Shared ∷ vs); constants = none_asked _ }) fine

    unnoted : {l : Option Loop} {e : State} {code : Coded} (c : Address) (vs : List Value) → Fine l (Shared ∷ vs) code e → Ok place_of frame_of l (noted p c vs) code e
    unnoted c vs q = unnoted_in p c vs q

    puts : (bytes : List ℕ) (vs : List Value) → Leads vs vs (put_bytes bytes)
    puts [] vs l rest e q = q
    puts (b ∷ bytes) vs l rest e q =
        on (push b) (on (simply p true o.PrintByte (Unknown ∷ vs) tt (omega arith) (omega arith) (λ ws. tt) (λ ns c ws. refl)) (puts bytes vs l rest e q))

    operator : (sign : Sign) (unsigned : Bool) (vs : List Value) → Acts true (operator_of sign unsigned) (level p (Unknown ∷ Unknown ∷ vs)) (level p (Unknown ∷ vs))
    operator g.Minus unsigned vs = join _ _
    operator sign unsigned vs = join _ _

    moves : (move : Move) (step : ℕ) (sign : Sign) (unsigned : Bool) (vs : List Value) → Leads (Unknown ∷ Unknown ∷ vs) (Unknown ∷ vs) (moved move step (operator_of sign unsigned))
    moves Forth step sign unsigned vs l rest e q = on (index step) q
    moves Back step sign unsigned vs l rest e q = on (apply u.Negate) (on (index step) q)
    moves NoMove step sign unsigned vs l rest e q = on (operator sign unsigned vs) q

    pub agrees : (sync : Bool) (vs : List Value) → Leads (Unknown ∷ vs) (Unknown ∷ vs) (agreed sync)
    agrees true vs l rest e q = on agree q
    agrees false vs l rest e q = q

    -- where the result of an expression is
    values : (w : Way) (st : ResultLocation) → IsOf w st → (l : Option Loop) (vs : List Value) (rest : Coded) (e : State) → Fine l (after (gives w) vs) rest e
        → Ok place_of frame_of l (stood w vs) (valued tables functions st rest) e
    values Valued OnList i l vs rest e q = q
    values Absent OnList i l vs rest e q = q
    values Unchecked (AtAddress true spot) i l vs rest e q =
        either (is_array tables spot.at) rest (checked tables functions true spot (plain o.Read rest)) q (on check (on (read Usable refl) q))
    values (Constant c) (AtAddress false spot) i l vs rest e q =
        either (is_array tables spot.at) rest (plain o.Read rest) (unnoted c vs (forgets Shared vs q)) (unnoted c vs (on (read Shared refl) q))
    values Array (AtAddress false spot) i l vs rest e q = chosen_first (is_array tables spot.at) rest (plain o.Read rest) i q
    values Word (InWord variable) i l vs rest e q = on (get (n.Value variable) refl) q
    values (Function name) (ToCall other) i l vs rest e q = q
    values w st i l vs rest e q = absurd i

    addresses : (w : Way) → HasAddress w → (st : ResultLocation) → IsOf w st → (l : Option Loop) (vs : List Value) (rest : Coded) (e : State) → Fine l (Unknown ∷ vs) rest e
        → Ok place_of frame_of l (stood w vs) (addressed tables functions st rest) e
    addresses Unchecked has (AtAddress true spot) i l vs rest e q = on check (forgets Usable vs q)
    addresses (Constant c) has (AtAddress false spot) i l vs rest e q = unnoted c vs (forgets Shared vs q)
    addresses Array has (AtAddress false spot) i l vs rest e q = q
    addresses Valued has st i l vs rest e q = absurd has
    addresses Absent has st i l vs rest e q = absurd has
    addresses Word has st i l vs rest e q = absurd has
    addresses (Function name) has st i l vs rest e q = absurd has
    addresses w has st i l vs rest e q = absurd i

    pub holds : (w : Way) → IsTarget w → (st : ResultLocation) → IsOf w st → (l : Option Loop) (vs : List Value) (rest : Coded) (e : State) → Fine l (held w vs) rest e
        → Ok place_of frame_of l (stood w vs) (addressed tables functions st rest) e
    holds Unchecked is (AtAddress true spot) i l vs rest e q = on check q
    holds (Constant c) is (AtAddress false spot) i l vs rest e q = unnoted c vs q
    holds Word is (InWord variable) i l vs rest e q = q
    holds Valued is st i l vs rest e q = absurd is
    holds Absent is st i l vs rest e q = absurd is
    holds Array is st i l vs rest e q = absurd is
    holds (Function name) is st i l vs rest e q = absurd is
    holds w is st i l vs rest e q = absurd i

    fetches : (w : Way) → IsTarget w → (st : ResultLocation) → IsOf w st → (l : Option Loop) (vs : List Value) (rest : Coded) (e : State) → Fine l (Unknown ∷ held w vs) rest e
        → Ok place_of frame_of l (stood w vs) (fetched tables functions st rest) e
    fetches Unchecked is (AtAddress true spot) i l vs rest e q = on check (on copy (on (read Usable refl) q))
    fetches (Constant c) is (AtAddress false spot) i l vs rest e q = unnoted c vs (on copy (on (read Shared refl) q))
    fetches Word is (InWord variable) i l vs rest e q = on (get (n.Value variable) refl) q
    fetches Valued is st i l vs rest e q = absurd is
    fetches Absent is st i l vs rest e q = absurd is
    fetches Array is st i l vs rest e q = absurd is
    fetches (Function name) is st i l vs rest e q = absurd is
    fetches w is st i l vs rest e q = absurd i

    pub assigns : (w : Way) → IsTarget w → (st : ResultLocation) → IsOf w st → (vs : List Value) → Leads (Unknown ∷ held w vs) (Unknown ∷ vs) (assigned tables functions st)
    assigns Unchecked is (AtAddress true spot) i vs l rest e q = on (write Usable refl) q
    assigns (Constant c) is (AtAddress false spot) i vs l rest e q = on (write Shared refl) q
    assigns Word is (InWord variable) i vs l rest e q = on (set variable) q
    assigns Valued is st i vs l rest e q = absurd is
    assigns Absent is st i vs l rest e q = absurd is
    assigns Array is st i vs l rest e q = absurd is
    assigns (Function name) is st i vs l rest e q = absurd is
    assigns w is st i vs l rest e q = absurd i

    pub value_is : (s : Evaluation) (w : Way) → Good s w → Pushes (gives w) (value_of tables functions s)
    value_is s w good vs l rest e q = good l vs (λ st. valued tables functions st rest) e (λ st i. values w st i l vs rest e q)

    pub a_value : (s : Evaluation) (w : Way) → Good s w → gives w ≡ true → Pushes true (value_of tables functions s)
    a_value s w good is = subst (λ b. Pushes b (value_of tables functions s)) is (value_is s w good)

    -- a value is dropped where there is one
    pub drops : (void b : Bool) → b ≡ not void → (vs : List Value) → (l : Option Loop) (rest : Coded) (e : State) → Fine l vs rest e
        → Fine l (after b vs) (if void then rest else plain o.DropLast rest) e
    drops true true is vs l rest e q = absurd (false≢true (sym is))
    drops true false is vs l rest e q = q
    drops false true is vs l rest e q = on drop_last q
    drops false false is vs l rest e q = absurd (false≢true is)

    -- names
    predeclares : (name : Named) → NameAsks tables functions place_of p.nests name.at (predeclared_way name) → Good (predeclared tables functions name) (predeclared_way name)
    predeclares name =
        by (is_name name (codes "__PROC_NR__")) (is_name name (codes "__STARTED_PROCS__")) (is_name name (codes "__inputs")) (is_name name (codes "__input"))
      where
        by : (a b c d : Bool)
            → NameAsks tables functions place_of p.nests name.at (if a then Valued else if b then Valued else if c then Valued else if d then Array else Function name)
            → Good (λ k.
            if a then plain (o.Get n.ProcessorNumber) (k OnList)
            else if b then plain (o.Get n.Processors) (k OnList)
            else if c then plain (o.Get n.InputLength) (k OnList)
            else if d then plain (o.Get n.InputAddress) (k (AtAddress false (spot_of name)))
            else k (ToCall name))
            (if a then Valued else if b then Valued else if c then Valued else if d then Array else Function name)
        by true b c d asks l vs k e q = on (get n.ProcessorNumber refl) (q OnList tt)
        by false true c d asks l vs k e q = on (get n.Processors refl) (q OnList tt)
        by false false true d asks l vs k e q = on (get n.InputLength refl) (q OnList tt)
        by false false false true asks l vs k e q = on (get n.InputAddress refl) (q (AtAddress false (spot_of name)) asks)
        by false false false false asks l vs k e q = q (ToCall name) refl

    places : (home : Home) (i : ℕ) (name : Named) → NameAsks tables functions place_of p.nests name.at (placed_way tables home i name) → Good (placed tables functions home i name) (placed_way tables home i name)
    places h.Global i name asks l vs k e q = on (push_address (0x10000000 + 4 * i) asks) (q (AtAddress false (spot_of name)) tt)
    places h.FilePrivate i name asks l vs k e q = q (InWord (v.OfFile i)) tt
    places h.Private i name asks l vs k e q = q (InWord (v.Private i)) tt
    places (h.Group r) i name asks l vs k e q = on (get_own (region tables r).level i asks) (q (AtAddress false (spot_of name)) tt)
    places h.NoWord i name asks l vs k e q = q (ToCall name) refl

    pub names : (name : Named) → NameAsks tables functions place_of p.nests name.at (named_way tables place_of name) → Good (variable tables functions name) (named_way tables place_of name)
    names name =
        let b = (note tables name.at).binding in
        by (b == no_binding) (predeclared tables functions name) (placed tables functions (slot tables b).home (slot tables b).index name)
        (predeclared_way name) (placed_way tables (slot tables b).home (slot tables b).index name)
        (predeclares name) (places (slot tables b).home (slot tables b).index name)
      where
        by : (is : Bool) (s r : Evaluation) (w x : Way) → (NameAsks tables functions place_of p.nests name.at w → Good s w) → (NameAsks tables functions place_of p.nests name.at x → Good r x)
            → NameAsks tables functions place_of p.nests name.at (if is then w else x) → Good (λ k. if is then s k else r k) (if is then w else x)
        by true s r w x a b asks = a asks
        by false s r w x a b asks = b asks

    -- operators
    operates : (sign : Sign) (left right : ℕ) (vs : List Value) → Leads (Unknown ∷ Unknown ∷ vs) (Unknown ∷ vs) (operate tables functions sign left right)
    operates sign left right vs l rest e q =
        let unsigned = if is_shift sign then is_unsigned tables left else is_unsigned tables left || is_unsigned tables right in
        let step = (kind_at tables left).step in
        either (step == 0) (plain (operator_of sign unsigned) rest) (moved (move_of sign) step (operator_of sign unsigned) rest)
        (on (operator sign unsigned vs) q) (moves (move_of sign) step sign unsigned vs l rest e q)

    updates : (sign : Sign) (s : Evaluation) (w : Way) → Good s w → IsTarget w → (left right : ℕ) (f : Coded → Coded) → Pushes true f
        → Good (updated tables functions sign s left right f) Valued
    updates sign s w good is left right f pushes l vs k e q =
        good l vs (λ st. fetched tables functions st (f (operate tables functions sign left right (assigned tables functions st (k OnList))))) e
        (λ st i.
        let new = assigned tables functions st (k OnList) in
        let whole = operate tables functions sign left right new in
        fetches w is st i l vs (f whole) e (pushes (Unknown ∷ held w vs) l whole e
        (operates sign left right (held w vs) l new e (assigns w is st i vs l (k OnList) e (q OnList tt)))))

    ones : Pushes true (one tables functions)
    ones vs l rest e q = on (push 1) q

    prefixes : (spot : Spot) (sign : Sign) (s : Evaluation) (w : Way) → Good s w → PrefixAsks sign w → (at : ℕ) → Good (prefixed tables functions spot sign s at) (prefix_way sign)
    prefixes spot g.Minus s w good is at l vs k e q = a_value s w good is vs l (plain (o.Apply u.Negate) (k OnList)) e (on (apply u.Negate) (q OnList tt))
    prefixes spot g.Tilde s w good is at l vs k e q = a_value s w good is vs l (plain (o.Apply u.Complement) (k OnList)) e (on (apply u.Complement) (q OnList tt))
    prefixes spot g.Exclamation s w good is at l vs k e q = a_value s w good is vs l (plain (o.Apply u.Not) (k OnList)) e (on (apply u.Not) (q OnList tt))
    prefixes spot g.Star s w good is at l vs k e q = a_value s w good is vs l (k (AtAddress true spot)) e (q (AtAddress true spot) tt)
    prefixes spot g.Ampersand s w good is at l vs k e q =
        good l vs (λ st. addressed tables functions st (k OnList)) e (λ st i. addresses w is st i l vs (k OnList) e (q OnList tt))
    prefixes spot g.Increment s w good is at l vs k e q = updates g.Plus s w good is at spot.at (one tables functions) ones l vs k e q
    prefixes spot g.Decrement s w good is at l vs k e q = updates g.Minus s w good is at spot.at (one tables functions) ones l vs k e q
    prefixes spot sign s w good is at l vs k e q = a_value s w good is vs l (k OnList) e (q OnList tt)

    truths : (s : Evaluation) → Pushes true (value_of tables functions s) → Pushes true (truth tables functions s)
    truths s good vs l rest e q = good vs l (plain (o.Push 0) (plain (o.Binary f.Ne false) rest)) e (on (push 0) (on (join f.Ne false) q))

    pub branches : (onward other : Bool) (vs : List Value) → Acts other (o.Branch onward) (level p (Unknown ∷ vs)) (level p vs)
    branches onward other vs = simply p other (o.Branch onward) (Unknown ∷ vs) tt (omega arith) (omega arith) (λ ws. tt) (λ ns c ws. refl)

    pub resumes : (vs : List Value) → Acts true o.Resume (level p vs) (level p vs)
    resumes vs = simply p true o.Resume vs tt (omega arith) (omega arith) (λ ws. tt) (λ ns c ws. refl)

    -- what stands as a value or none
    on_list : (b : Bool) (l : Option Loop) (vs : List Value) (k : ResultLocation → Coded) (e : State)
        → ((st : ResultLocation) → IsOf (result b) st → Ok place_of frame_of l (stood (result b) vs) (k st) e) → Fine l (after b vs) (k OnList) e
    on_list true l vs k e q = q OnList tt
    on_list false l vs k e q = q OnList tt

    assignments : (sign : Sign) (s : Evaluation) (w : Way) → Good s w → IsTarget w → (left : ℕ) (b : Evaluation) → Pushes true (value_of tables functions b) → (right : ℕ)
        → Good (assignment tables functions sign s left b right) Valued
    assignments g.Assign s w good is left b good_b right l vs k e q =
        good l vs (λ st. addressed tables functions st (value_of tables functions b (assigned tables functions st (k OnList)))) e
        (λ st i.
        let new = assigned tables functions st (k OnList) in
        holds w is st i l vs (value_of tables functions b new) e
        (good_b (held w vs) l new e (assigns w is st i vs l (k OnList) e (q OnList tt))))
    assignments sign s w good is left b good_b right l vs k e q =
        updates sign s w good is left right (value_of tables functions b) good_b l vs k e q

    -- suffixes
    indexes : (spot : Spot) (a by : Evaluation) → Pushes true (value_of tables functions a) → Pushes true (value_of tables functions by) → Good (indexed tables functions spot a by) Unchecked
    indexes spot a by good good_by l vs k e q =
        let element = plain (o.Index (4 * (kind_at tables spot.at).words)) (k (AtAddress true spot)) in
        good vs l (value_of tables functions by element) e (good_by (Unknown ∷ vs) l element e (on (index _) (q (AtAddress true spot) tt)))

    -- a member has a known address behind that of its struct
    fourths : (n : ℕ) → (word (4 * n) % 4 == 0) ≡ true
    fourths n = eq-eqb (word (4 * n) % 4) 0 (omega arith)

    joins_member : (at : ℕ) (c : Address) → joined_constant f.Add false (Some c) (Some (Number (word (4 * (note tables at).binding)))) ≡ Some (behind_member tables place_of at c)
    joins_member at (Number address) = refl
    joins_member at (FrameWord nesting first) =
        let bytes = word (4 * (note tables at).binding) in
        ap (λ (whole : Bool). if whole then Some (FrameWord nesting (first + bytes / 4)) else None) (fourths (note tables at).binding)

    dots : (spot : Spot) (at : ℕ) (s : Evaluation) (w : Way) → Good s w → DotAsks tables functions place_of p.nests at w → Good (dotted tables functions spot at s) (dotted_way tables place_of at w)
    dots spot at s w good is l vs k e q =
        good l vs (λ st. member tables functions at (k (AtAddress (is_deep tables functions st) spot))) e (λ st i. by w is q st i)
      where
        by : (w : Way) → DotAsks tables functions place_of p.nests at w
            → ((st : ResultLocation) → IsOf (dotted_way tables place_of at w) st → Ok place_of frame_of l (stood (dotted_way tables place_of at w) vs) (k st) e)
            → (st : ResultLocation) → IsOf w st → Ok place_of frame_of l (stood w vs) (member tables functions at (k (AtAddress (is_deep tables functions st) spot))) e
        by Unchecked is q (AtAddress true other) i = on (push _) (on (join f.Add false) (q (AtAddress true spot) tt))
        by (Constant c) is q (AtAddress false other) i =
            on (push_offset c (4 * (note tables at).binding)) (on (add_offset c (word (4 * (note tables at).binding)) (behind_member tables place_of at c) (joins_member at c) is) (q (AtAddress false spot) tt))
        by Valued is q st i = absurd is
        by Absent is q st i = absurd is
        by Array is q st i = absurd is
        by Word is q st i = absurd is
        by (Function name) is q st i = absurd is
        by w is q st i = absurd i

    points : (spot : Spot) (at : ℕ) (s : Evaluation) → Pushes true (value_of tables functions s) → Good (pointed tables functions spot at s) Unchecked
    points spot at s good l vs k e q =
        good vs l (member tables functions at (k (AtAddress true spot))) e (on (push _) (on (join f.Add false) (q (AtAddress true spot) tt)))

    raises : (sign back : Sign) (s : Evaluation) (w : Way) → Good s w → IsTarget w → (at : ℕ) → Good (raised tables functions sign back s at) Valued
    raises sign back s w good is at l vs k e q =
        updates sign s w good is at 0 (one tables functions) ones l vs
        (λ st. plain (o.Push (step_back tables functions at)) (plain (operator_of back false) (k OnList))) e
        (λ st i. by st i)
      where
        by : (st : ResultLocation) → IsOf Valued st → Ok place_of frame_of l (level p (Unknown ∷ vs)) (plain (o.Push (step_back tables functions at)) (plain (operator_of back false) (k OnList))) e
        by st i = on (push _) (on (operator back false vs) (q OnList tt))

    -- calls
    abbrev AllGood : Trees → Type 0
    AllGood t.no_trees = Unit {0}
    AllGood (t.tree first others) = Pushes true (value_of tables functions (evaluated tables functions first)) × AllGood others

    takes_all : (xs : List DeclaredTree) (es : Trees) → AreEnough xs es → AllGood es → (vs : List Value)
        → Leads vs (stacked (length xs) vs) (arguments tables functions xs (all_evaluated tables functions es))
    takes_all [] t.no_trees enough good vs l rest e q = q
    takes_all [] (t.tree first others) enough good vs l rest e q = q
    takes_all (x ∷ xs) t.no_trees enough good vs l rest e q = absurd enough
    takes_all (x ∷ xs) (t.tree first others) enough good vs l rest e q =
        let more = arguments tables functions xs (all_evaluated tables functions others) rest in
        good.0 vs l (agreed x.shared more) e (agrees x.shared vs l more e (takes_all xs others enough good.1 (Unknown ∷ vs) l rest e q))

    -- the opening of a call
    puts_parameters : (q : Place) (i : ℕ) (xs : List DeclaredTree) → AreOpen tables q.nests xs → Ok place_of frame_of None (level q []) (parameters tables functions i xs) (level q [])
    puts_parameters q i [] opens' = ended
    puts_parameters q i (x ∷ xs) opens' =
        let others = parameters tables functions (suc i) xs in
        let shared = plain (o.Get (n.FrameAddress 0 (slot tables (note tables x.name.at).binding).index)) (plain (o.Get (n.Value (v.Private i))) (plain o.Write (plain o.DropLast others))) in
        by x.shared shared others opens'.0
        (λ is.
        on (get_own 0 (slot tables (note tables x.name.at).binding).index is)
        (unnoted_in q (FrameWord 0 (slot tables (note tables x.name.at).binding).index) [] (on (get (n.Value (v.Private i)) refl) (on (write Shared refl) (on drop_last (puts_parameters q (suc i) xs opens'.1))))))
        (puts_parameters q (suc i) xs opens'.1)
      where
        by : (b : Bool) (c d : Coded) → IsOpenIf tables q.nests b x → (has_word q.nests 0 (slot tables (note tables x.name.at).binding).index ≡ true → Ok place_of frame_of None (level q []) c (level q []))
            → Ok place_of frame_of None (level q []) d (level q []) → Ok place_of frame_of None (level q []) (if b then c else d) (level q [])
        by true c d is f g = f is
        by false c d is f g = g

    opening : (gives : Bool) (r : Option Region) (place : y.Place) (xs : List DeclaredTree) → HasLevel 0 r → AreOpen tables (OfFunction (frame_with (Called gives) r) ∷ []) xs
        → Ok place_of frame_of None (bare (entered (Called gives))) (framed tables functions r place (parameters tables functions 0 xs)) (bare (with_frame (Called gives) (frame_with (Called gives) r)))
    opening gives None place xs level' opens' = puts_parameters (entered (Called gives)) 0 xs opens'
    opening gives (Some r) place xs level' opens' =
        on (takes_frame (entered (Called gives)) r.level r.words (OfFunction None) [] refl level' refl) (puts_parameters (with_frame (Called gives) (Some r.words)) 0 xs opens')

    enters_function : (name : Named) (q : FunctionKind) → place_of (note tables name.at).binding ≡ q → IsCalled q
        → (vs : List Value) (l : Option Loop) (rest : Coded) (e : State) → Fine l (after (place_gives q) vs) rest e
        → Fine l (stacked (length (functions (note tables name.at).binding).parameters) vs)
        (call name.place (o.Enter (length (functions (note tables name.at).binding).parameters)) (note tables name.at).binding
        (framed tables functions (frame_at tables (functions (note tables name.at).binding).at 0) name.place (parameters tables functions 0 (functions (note tables name.at).binding).parameters)) rest) e
    enters_function name Main is may vs l rest e q = absurd may
    enters_function name (Called b) is may vs l rest e q =
        let xs = (functions (note tables name.at).binding).parameters in
        let n = length xs in
        enters b is
        (λ s g'.
        let long = sym (as_long s.values (stacked n vs) g'.values) in
        record { place = tt; values = subst (λ h. n ≤ h) long (stacked_many n vs); looks = subst (λ h. n ≤ h) long (stacked_many n vs); asks = tt })
        (subst (λ (kind : FunctionKind). Ok place_of frame_of None (bare (entered (Called b))) (framed tables functions (frame_at tables (functions (note tables name.at).binding).at 0) name.place (parameters tables functions 0 xs))
        (bare (with_frame (Called b) (frame_with kind (frame_at tables (functions (note tables name.at).binding).at 0))))) (sym is)
        (let has = opens (note tables name.at).binding b is in
        opening b (frame_at tables (functions (note tables name.at).binding).at 0) name.place xs has.level
        (subst (λ (kind : FunctionKind). AreOpen tables (OfFunction (frame_with kind (frame_at tables (functions (note tables name.at).binding).at 0)) ∷ []) xs) is has.parameters)))
        (subst (λ ws. Fine l ws rest e) (sym (ap (λ ws. replicate (results b) Unknown ++ ws) (unstacked n vs) ∙ pushed_results b vs)) q)

    calls : (name : Named) (es : Trees) → TakesAll tables functions place_of p.nests (note tables name.at).binding es → AllGood es
        → Good (called tables functions name (all_evaluated tables functions es)) (result (place_gives (place_of (note tables name.at).binding)))
    calls name es taken good l vs k e q =
        let b = (note tables name.at).binding in
        takes_all (functions b).parameters es taken.enough good vs l _ e
        (enters_function name (place_of b) refl taken.called vs l (k OnList) e (on_list (place_gives (place_of b)) l vs k e q))

    -- calls of predeclared functions
    module _ (name : Named) (es : List Evaluation) (l : Option Loop) (vs : List Value) (k : ResultLocation → Coded) (e : State) where
      abbrev Goal : (gives : Bool) → Coded → Type 0
      Goal v code = Fine l (after v vs) (k OnList) e → Fine l vs code e

      abbrev other_calls : Coded
      other_calls =
          if is_name name (codes "groupsize") then plain (o.Get n.GroupSize) (k OnList)
          else if is_name name (codes "putint") then with_one tables functions (plain o.PrintNumber) es k
          else if is_name name (codes "putchar") then with_one tables functions (plain o.PrintByte) es k
          else if is_name name (codes "malloc") then with_one tables functions (plain o.Take) es k
          else if is_name name (codes "shmalloc") then with_one tables functions (plain o.Heap) es k
          else with_one tables functions (λ rest. plain o.Agree (plain o.Block rest)) es k

      -- an operation that takes a value, and gives one or none
      abbrev One : Type 0
      One = (v : Bool) (f : Coded → Coded) → Leads (Unknown ∷ vs) (after v vs) f → Goal v (with_one tables functions f es k)

      with_ones : One → (a b c d : Bool) → Goal (not (a || b)) (
          if a then with_one tables functions (plain o.PrintNumber) es k
          else if b then with_one tables functions (plain o.PrintByte) es k
          else if c then with_one tables functions (plain o.Take) es k
          else if d then with_one tables functions (plain o.Heap) es k
          else with_one tables functions (λ rest. plain o.Agree (plain o.Block rest)) es k)
      with_ones one' true b c d = one' false (plain o.PrintNumber) (λ l' rest e' q. on (simply p true o.PrintNumber (Unknown ∷ vs) tt (omega arith) (omega arith) (λ ws. tt) (λ ns c ws. refl)) q)
      with_ones one' false true c d = one' false (plain o.PrintByte) (λ l' rest e' q. on (simply p true o.PrintByte (Unknown ∷ vs) tt (omega arith) (omega arith) (λ ws. tt) (λ ns c ws. refl)) q)
      with_ones one' false false true d = one' true (plain o.Take) (λ l' rest e' q. on (simply p true o.Take (Unknown ∷ vs) tt (omega arith) (omega arith) (λ ws. tt) (λ ns c ws. refl)) q)
      with_ones one' false false false true = one' true (plain o.Heap) (λ l' rest e' q. on (simply p true o.Heap (Unknown ∷ vs) tt (omega arith) (omega arith) (λ ws. tt) (λ ns c ws. refl)) q)
      with_ones one' false false false false =
          one' true (λ rest. plain o.Agree (plain o.Block rest)) (λ l' rest e' q. on agree (on (simply p true o.Block (Unknown ∷ vs) tt (omega arith) (omega arith) (λ ws. tt) (λ ns c ws. refl)) q))

      sizes : (is x : Bool) (code : Coded) → (is ≡ false → Goal x code) → Goal (is || x) (if is then plain (o.Get n.GroupSize) (k OnList) else code)
      sizes true x code h q = on (get n.GroupSize refl) q
      sizes false x code h q = h refl q

      multiprefixes : (a b c d x : Bool) → ((a || (b || (c || d))) ≡ true → (by : Multiprefix) → Goal true (multiprefix tables functions name by es k))
          → ((a || (b || (c || d))) ≡ false → Goal x other_calls) → Goal ((a || (b || (c || d))) || x) (
          if a then multiprefix tables functions name MpAdd es k
          else if b then multiprefix tables functions name MpMax es k
          else if c then multiprefix tables functions name MpAnd es k
          else if d then multiprefix tables functions name MpOr es k
          else other_calls)
      multiprefixes true b c d x two one' = two refl MpAdd
      multiprefixes false true c d x two one' = two refl MpMax
      multiprefixes false false true d x two one' = two refl MpAnd
      multiprefixes false false false true x two one' = two refl MpOr
      multiprefixes false false false false x two one' = one' refl

      all_predeclared : (takes_two name ≡ true → (by : Multiprefix) → Goal true (multiprefix tables functions name by es k))
          → (takes_two name ≡ false → is_name name (codes "groupsize") ≡ false → One)
          → Goal (predeclared_gives name) (called_predeclared tables functions name es k)
      all_predeclared two one' =
          multiprefixes (is_name name (codes "mpadd")) (is_name name (codes "mpmax")) (is_name name (codes "mpand")) (is_name name (codes "mpor")) _ two
          (λ not_two. sizes (is_name name (codes "groupsize")) _ _
          (λ not_size. with_ones (one' not_two not_size) (is_name name (codes "putint")) (is_name name (codes "putchar")) (is_name name (codes "malloc")) (is_name name (codes "shmalloc"))))

    never : {X : Type 0} {b : Bool} → b ≡ true → b ≡ false → X
    never is isnt = absurd (false≢true (sym isnt ∙ is))

    one_good : (e' : Evaluation) (es : List Evaluation) → Pushes true (value_of tables functions e') → (l : Option Loop) (vs : List Value) (k : ResultLocation → Coded) (e : State)
        → (v : Bool) (f : Coded → Coded) → Leads (Unknown ∷ vs) (after v vs) f → Fine l (after v vs) (k OnList) e → Fine l vs (with_one tables functions f (e' ∷ es) k) e
    one_good e' es good l vs k e v f leads q = good vs l (f (k OnList)) e (leads l (k OnList) e q)

    both_good : (name : Named) (a b : Evaluation) (es : List Evaluation) → Pushes true (value_of tables functions a) → Pushes true (value_of tables functions b)
        → (l : Option Loop) (vs : List Value) (k : ResultLocation → Coded) (e : State) (by : Multiprefix) → Fine l (Unknown ∷ vs) (k OnList) e
        → Fine l vs (multiprefix tables functions name by (a ∷ b ∷ es) k) e
    both_good name a b es good_a good_b l vs k e by q =
        let request = plain (o.Combine by) (k OnList) in
        good_a vs l (perform name.place (o.Check true) (value_of tables functions b request)) e
        (on check_shared (good_b (Shared ∷ vs) l request e (on (combine by) q)))

    calls_predeclared : (name : Named) (es : Trees) → AllGood es → TakesEnough name es → Good (called_predeclared tables functions name (all_evaluated tables functions es)) (result (predeclared_gives name))
    calls_predeclared name t.no_trees good enough l vs k e q =
        all_predeclared name [] l vs k e (λ two. never two enough.0) (λ not_two not_size. never enough.1 not_size) (on_list (predeclared_gives name) l vs k e q)
    calls_predeclared name (t.tree first t.no_trees) good enough l vs k e q =
        all_predeclared name (evaluated tables functions first ∷ []) l vs k e (λ two. never two enough)
        (λ not_two not_size. one_good (evaluated tables functions first) [] good.0 l vs k e) (on_list (predeclared_gives name) l vs k e q)
    calls_predeclared name (t.tree first (t.tree second more)) good enough l vs k e q =
        let es = all_evaluated tables functions more in
        all_predeclared name (evaluated tables functions first ∷ evaluated tables functions second ∷ es) l vs k e
        (λ two. both_good name (evaluated tables functions first) (evaluated tables functions second) es good.0 good.1.0 l vs k e)
        (λ not_two not_size. one_good (evaluated tables functions first) (evaluated tables functions second ∷ es) good.0 l vs k e)
        (on_list (predeclared_gives name) l vs k e q)

    called_by : (name : Named) (es : Trees) → AllGood es → (is : Bool) → NameTakes tables functions place_of p.nests is name es
        → Good (λ k. if is then called_predeclared tables functions name (all_evaluated tables functions es) k else called tables functions name (all_evaluated tables functions es) k)
        (result (if is then predeclared_gives name else place_gives (place_of (note tables name.at).binding)))
    called_by name es good true taken = calls_predeclared name es good taken
    called_by name es good false taken = calls name es taken good

    call_is : (s : Evaluation) (w : Way) → Good s w → (es : Trees) → CallAsks tables functions place_of p.nests w es → AllGood es
        → Good (λ j. s (calling tables functions (all_evaluated tables functions es) j)) (called_way tables place_of w)
    call_is s (Function name) good es asks all l vs k e q =
        good l vs (calling tables functions (all_evaluated tables functions es) k) e (λ st i. by st i)
      where
        by : (st : ResultLocation) → IsOf (Function name) st → Ok place_of frame_of l (level p vs) (calling tables functions (all_evaluated tables functions es) k st) e
        by (ToCall other) i =
            subst (λ x. Ok place_of frame_of l (level p vs) (calling tables functions (all_evaluated tables functions es) k (ToCall x)) e) i
            (called_by name es all ((note tables name.at).binding == no_binding) asks l vs k e q)
        by OnList i = absurd i
        by (AtAddress deep spot) i = absurd i
        by (InWord variable) i = absurd i
    call_is s w good es asks all l vs k e q = absurd asks

  -- in a call, whose group may split
  module _ (p : Place) (within : IsWithin p) where
    ends : (vs : List Value) → Acts true o.End (level (deeper p) vs) (level p vs)
    ends vs = simply (deeper p) true o.End vs within (omega arith) (omega arith) (λ ws. tt) (λ ns c ws. refl)

    -- those who enter the part of `&&` and of `||`, and those who wait with the value of the whole
    and_enters : (vs : List Value) → Acts true (o.Split AndThen) (level p (Unknown ∷ vs)) (level (deeper p) vs)
    and_enters vs = simply p true (o.Split AndThen) (Unknown ∷ vs) tt (omega arith) (omega arith) (λ ws. tt) (λ ns c ws. refl)

    and_waits : (vs : List Value) → Acts false (o.Split AndThen) (level p (Unknown ∷ vs)) (level p (Unknown ∷ vs))
    and_waits vs = simply p false (o.Split AndThen) (Unknown ∷ vs) tt (omega arith) (omega arith) (λ ws. tt) (λ ns c ws. refl)

    or_enters : (vs : List Value) → Acts true (o.Split OrElse) (level p (Unknown ∷ vs)) (level (deeper p) vs)
    or_enters vs = simply p true (o.Split OrElse) (Unknown ∷ vs) tt (omega arith) (omega arith) (λ ws. tt) (λ ns c ws. refl)

    or_waits : (vs : List Value) → Acts false (o.Split OrElse) (level p (Unknown ∷ vs)) (level p (Unknown ∷ vs))
    or_waits vs = simply p false (o.Split OrElse) (Unknown ∷ vs) tt (omega arith) (omega arith) (λ ws. tt) (λ ns c ws. refl)

    if_enters : (onward : Bool) (vs : List Value) → Acts onward (o.Split IfElse) (level p (Unknown ∷ vs)) (level (deeper p) vs)
    if_enters onward vs = simply p onward (o.Split IfElse) (Unknown ∷ vs) tt (omega arith) (omega arith) (λ ws. tt) (λ ns c ws. refl)

    logicals : (spot : Spot) (by : SplitKind) (onward : Bool) (other : ℕ) → ((vs : List Value) → Acts true (o.Split by) (level p (Unknown ∷ vs)) (level (deeper p) vs))
        → ((vs : List Value) → Acts false (o.Split by) (level p (Unknown ∷ vs)) (level p (Unknown ∷ vs))) → (a b : Evaluation) → Pushes p true (value_of tables functions a)
        → Pushes p true (value_of tables functions b) → Pushes (deeper p) true (value_of tables functions b) → Good p (logical tables functions spot by onward other a b) Valued
    logicals spot by onward other enters' waits' a b good_a good_b deep_b l vs k e q =
        let here = note tables spot.at in
        let parted = choose spot.place (o.Split by) (truth tables functions b (plain o.End done)) done (plain o.Resume (k OnList)) in
        let branched = choose nowhere (o.Branch onward) (truth tables functions b done) (plain (o.Push other) done) (k OnList) in
        let whole = level p (Unknown ∷ vs) in
        good_a vs l (if here.splits then parted else agreed here.sync branched) e
        (either p here.splits parted (agreed here.sync branched)
        (branch refl (enters' vs) (waits' vs) (truths (deeper p) b deep_b vs l (plain o.End done) whole (on (ends (Unknown ∷ vs)) ended)) ended (on (resumes p (Unknown ∷ vs)) (q OnList tt)))
        (agrees p here.sync vs l branched e
        (branch refl (branches p onward true vs) (branches p onward false vs) (truths p b good_b vs l done whole ended) (on (push other) ended) (q OnList tt))))

    chooses : (spot : Spot) (c a b : Evaluation) (v : Bool) → Pushes p true (value_of tables functions c) → Pushes p v (value_of tables functions a) → Pushes p v (value_of tables functions b)
        → Pushes (deeper p) v (value_of tables functions a) → Pushes (deeper p) v (value_of tables functions b) → Good p (chosen tables functions spot c a b) (result v)
    chooses spot c a b v good_c good_a good_b deep_a deep_b l vs k e q =
        let here = note tables spot.at in
        let parted = choose spot.place (o.Split IfElse) (value_of tables functions a (plain o.End done)) (value_of tables functions b (plain o.End done)) (plain o.Resume (k OnList)) in
        let branched = choose nowhere (o.Branch true) (value_of tables functions a done) (value_of tables functions b done) (k OnList) in
        let whole = level p (after v vs) in
        let ended' = on (ends (after v vs)) ended in
        let goes_on : Fine p l (after v vs) (k OnList) e = on_list p v l vs k e q in
        good_c vs l (if here.splits then parted else agreed here.sync branched) e
        (either p here.splits parted (agreed here.sync branched)
        (branch refl (if_enters true vs) (if_enters false vs) (deep_a vs l (plain o.End done) whole ended') (deep_b vs l (plain o.End done) whole ended') (on (resumes p (after v vs)) goes_on))
        (agrees p here.sync vs l branched e
        (branch refl (branches p true true vs) (branches p true false vs) (good_a vs l done whole ended) (good_b vs l done whole ended) goes_on)))

    joins : (spot : Spot) (sign : Sign) (a : Evaluation) (w : Way) → Good p a w → (left : ℕ) (b : Evaluation) (x : Way) → Good p b x → Good (deeper p) b x → (right : ℕ)
        → JoinAsks tables functions place_of p.nests sign w left x → Good p (joined tables functions spot sign a left b right) (joined_way sign x)
    joins spot g.Comma a w good_a left b x good_b deep_b right is l vs k e q =
        value_is p a w good_a vs l (dropped tables functions left (value_of tables functions b (k OnList))) e
        (drops p (is_void tables left) (gives w) is vs l (value_of tables functions b (k OnList)) e
        (value_is p b x good_b vs l (k OnList) e (on_list p (gives x) l vs k e q)))
    joins spot g.AndAnd a w good_a left b x good_b deep_b right is l vs k e q =
        logicals spot AndThen true 0 and_enters and_waits a b (a_value p a w good_a is.0) (a_value p b x good_b is.1) (a_value (deeper p) b x deep_b is.1) l vs k e q
    joins spot g.OrOr a w good_a left b x good_b deep_b right is l vs k e q =
        logicals spot OrElse false 1 or_enters or_waits a b (a_value p a w good_a is.0) (a_value p b x good_b is.1) (a_value (deeper p) b x deep_b is.1) l vs k e q
    joins spot sign a w good_a left b x good_b deep_b right is l vs k e q =
        a_value p a w good_a is.0 vs l (value_of tables functions b (operate tables functions sign left right (k OnList))) e
        (a_value p b x good_b is.1 (Unknown ∷ vs) l (operate tables functions sign left right (k OnList)) e
        (operates p sign left right vs l (k OnList) e (q OnList tt)))

  mutual
    pub tree_good : (p : Place) → IsWithin p → (x : Tree) → Asked tables functions place_of p.nests x → Good p (evaluated tables functions x) (way tables place_of x)
    tree_good p within (t.Number spot number unsigned) asks l vs k e q = on (push number) (q OnList tt)
    tree_good p within (t.Puts spot text) asks l vs k e q = puts p (text_of text) vs l (k OnList) e (q OnList tt)
    tree_good p within (t.Sizeof spot type) asks l vs k e q = on (push _) (q OnList tt)
    tree_good p within (t.Variable name) asks l vs k e q = names p name asks l vs k e q
    tree_good p within (t.GroupNumber spot) asks l vs k e q = on (get n.GroupNumber refl) (q OnList tt)
    tree_good p within (t.GroupRank spot) asks l vs k e q = on (get n.Rank refl) (q OnList tt)
    tree_good p within (t.Prefix spot sign operand) asks l vs k e q =
        prefixes p spot sign (evaluated tables functions operand) (way tables place_of operand) (tree_good p within operand asks.0) asks.1 (token operand) l vs k e q
    tree_good p within (t.Cast spot type operand) asks l vs k e q =
        a_value p (evaluated tables functions operand) (way tables place_of operand) (tree_good p within operand asks.0) asks.1 vs l (k OnList) e (q OnList tt)
    tree_good p within (t.Chain first links) asks l vs k e q =
        links_good p within (evaluated tables functions first) (way tables place_of first) (tree_good p within first asks.0) (token first) links asks.1 l vs k e q
    tree_good p within (t.Postfix whole suffixes) asks l vs k e q =
        suffixes_good p within (evaluated tables functions whole) (way tables place_of whole) (tree_good p within whole asks.0) (token whole) suffixes asks.1 l vs k e q
    tree_good p within (t.Assign spot sign target value) asks l vs k e q =
        assignments p sign (evaluated tables functions target) (way tables place_of target) (tree_good p within target asks.0) asks.1 (token target)
        (evaluated tables functions value) (a_value p (evaluated tables functions value) (way tables place_of value) (tree_good p within value asks.2) asks.3) (token value) l vs k e q
    tree_good p within (t.Choose spot condition first second) asks l vs k e q =
        let a = evaluated tables functions first in
        let b = evaluated tables functions second in
        let v = gives (way tables place_of first) in
        let deep_first = asked_deeper tables functions place_of p.nests first asks.2 in
        let deep_second = asked_deeper tables functions place_of p.nests second asks.3 in
        chooses p within spot (evaluated tables functions condition) a b v
        (a_value p (evaluated tables functions condition) (way tables place_of condition) (tree_good p within condition asks.0) asks.1)
        (value_is p a (way tables place_of first) (tree_good p within first asks.2))
        (subst (λ c. Pushes p c (value_of tables functions b)) asks.4 (value_is p b (way tables place_of second) (tree_good p within second asks.3)))
        (value_is (deeper p) a (way tables place_of first) (tree_good (deeper p) tt first deep_first))
        (subst (λ c. Pushes (deeper p) c (value_of tables functions b)) asks.4 (value_is (deeper p) b (way tables place_of second) (tree_good (deeper p) tt second deep_second)))
        l vs k e q

    links_good : (p : Place) → IsWithin p → (s : Evaluation) (w : Way) → Good p s w → (at : ℕ) (x : Links) → LinksAsked tables functions place_of p.nests w at x
        → Good p (linked tables functions s at x) (chain_way tables place_of w x)
    links_good p within s w good at t.no_links asks = good
    links_good p within s w good at (t.link spot sign right others) asks =
        links_good p within (joined tables functions spot sign s at (evaluated tables functions right) (token right)) (joined_way sign (way tables place_of right))
        (joins p within spot sign s w good at (evaluated tables functions right) (way tables place_of right) (tree_good p within right asks.0)
        (tree_good (deeper p) tt right (asked_deeper tables functions place_of p.nests right asks.0)) (token right) asks.1)
        spot.at others asks.2

    suffixes_good : (p : Place) → IsWithin p → (s : Evaluation) (w : Way) → Good p s w → (at : ℕ) (x : Suffixes) → SuffixesAsked tables functions place_of p.nests w x
        → Good p (suffixed tables functions s at x) (suffixed_way tables place_of w x)
    suffixes_good p within s w good at t.no_suffixes asks = good
    suffixes_good p within s w good at (t.index spot by others) asks =
        suffixes_good p within (indexed tables functions spot s (evaluated tables functions by)) Unchecked
        (indexes p spot s (evaluated tables functions by) (a_value p s w good asks.0)
        (a_value p (evaluated tables functions by) (way tables place_of by) (tree_good p within by asks.1) asks.2)) spot.at others asks.3
    suffixes_good p within s w good at (t.call spot given others) asks =
        suffixes_good p within (λ j. s (calling tables functions (all_evaluated tables functions given) j)) (called_way tables place_of w)
        (call_is p s w good given asks.0 (all_good p within given asks.1)) spot.at others asks.2
    suffixes_good p within s w good at (t.dot spot name others) asks =
        suffixes_good p within (dotted tables functions spot name.at s) (dotted_way tables place_of name.at w) (dots p spot name.at s w good asks.0) spot.at others asks.1
    suffixes_good p within s w good at (t.arrow spot name others) asks =
        suffixes_good p within (pointed tables functions spot name.at s) Unchecked (points p spot name.at s (a_value p s w good asks.0)) spot.at others asks.1
    suffixes_good p within s w good at (t.up spot others) asks =
        suffixes_good p within (raised tables functions g.Plus g.Minus s at) Valued (raises p g.Plus g.Minus s w good asks.0 at) spot.at others asks.1
    suffixes_good p within s w good at (t.down spot others) asks =
        suffixes_good p within (raised tables functions g.Minus g.Plus s at) Valued (raises p g.Minus g.Plus s w good asks.0 at) spot.at others asks.1

    all_good : (p : Place) → IsWithin p → (x : Trees) → AllAsked tables functions place_of p.nests x → AllGood p x
    all_good p within t.no_trees asks = tt
    all_good p within (t.tree first others) asks =
        (a_value p (evaluated tables functions first) (way tables place_of first) (tree_good p within first asks.0) asks.1, all_good p within others asks.2)
