-- The states at all indices of a flat list of well typed functions, and that they are sound.
use Rattle.std.proofs.Common.{◌≡◌, ℕ, zero, suc, ◌+◌, ◌-◌, ◌<◌, ◌≤◌, Bool, true, false, true≢false, List, [], ◌∷◌, length, slice_get, get_or, Option, Some, None, inl, inr, refl, sym, ap, ◌∙◌, subst, arith}
use Rattle.std.specs.Prelude.{◌⊎◌}
use Rattle.std.proofs.lemmas.Option.{slice_get_within, get_or_from_slice_get}
use Rattle.fk_meaning_operation.specs.declared.operation.Operation.{Operation}
use Rattle.fk_meaning_operation.specs.declared.operation.Operation.TheVariants as o
use Rattle.fk_meaning_forms.specs.Code.{Code}
use Rattle.fk_core_liveness.specs.declared.places.FunctionKind.{FunctionKind}
use Rattle.fk_core.specs.declared.op.CoreOp.{CoreOp}
use Rattle.fk_core.specs.Numbers.{operation_of}
use Rattle.fk_core.specs.Next.{is_jump, follows}
use Rattle.fk_core.proofs.Leading.{op_stops}
use Rattle.fk_core_flat.specs.Items as w
use Rattle.fk_core_flat.specs.Items.{Item, jump, act, Has, Way, way_of}
use Rattle.fk_core_flat.specs.Flat.{extent, flat}
use Rattle.fk_core_flat.specs.Shape.{is_done, is_closed}
use Rattle.fk_core_flat.proofs.Lengths.{flat_length}
use Rattle.fk_core_flat.proofs.Ways.{goes_by}
use Rattle.fk_core_flat.proofs.CodeAt.{Stood}
use Rattle.fk_core_typing.specs.LocalDepths.{is_ordinary}
use Rattle.fk_core_typing.specs.Heights.{HasHeights}
use Rattle.fk_core_typing.specs.Laws.{LiesIn, IsTypedList}
use Rattle.fk_core_typing.proofs.System.{System, Judged, IsLawful}
use Rattle.fk_core_typing.proofs.Marks.{Noted, marks, mark_length}
use Rattle.fk_core_typing.proofs.Sound.{Comes, Goes, IsSound, SoundAt, Sound, begins, sound, sound_done}

pub below_or_not : (xs : List CoreOp) (i : ℕ) → (i < length xs) ⊎ (length xs ≤ i)
below_or_not [] i = inr (omega arith)
below_or_not (x ∷ xs) zero = inl (omega arith)
below_or_not (x ∷ xs) (suc i) = more (below_or_not xs i)
  where
    more : (i < length xs) ⊎ (length xs ≤ i) → (suc i < length (x ∷ xs)) ⊎ (length (x ∷ xs) ≤ suc i)
    more (inl h) = inl (omega arith)
    more (inr h) = inr (omega arith)

pub some_same : (op other : CoreOp) (o : Option CoreOp) → o ≡ Some op → o ≡ Some other → other ≡ op
some_same op other o e f = cc

not_into : (op : Operation) → is_ordinary op ≡ true → way_of op ≡ w.into → ⊥
not_into (o.Enter n) i e = absurd (cc)
not_into op i e = let absurdity = e in absurd (cc)

not_out : (op : Operation) → is_ordinary op ≡ true → way_of op ≡ w.out → ⊥
not_out (o.Leave gives framed) i e = absurd (cc)
not_out o.Halt i e = absurd (cc)
not_out op i e = let absurdity = e in absurd (cc)

module _ (core : List CoreOp) (entry : ℕ → ℕ) where
  pub has_below : (items : List Item) (j d : ℕ) → d < length items → Has core j items → j + d < length core
  has_below [] j d a h = absurd (let e : ⊥ = omega arith in e)
  has_below (item ∷ items) j zero a h = let b = slice_get_within core j h.0.0 h.0.1 in omega arith
  has_below (item ∷ items) j (suc d) a h = let b = has_below items (suc j) d (omega arith) h.1 in omega arith

module _ (bodies : ℕ → Code ℕ) (core : List CoreOp) (entry : ℕ → ℕ) (place_of : ℕ → FunctionKind) (frame_of : ℕ → Option ℕ) (typed : IsTypedList bodies core entry place_of frame_of)
    (sys : System) (lawful : IsLawful sys place_of) (judged : (f : ℕ) → (end : sys.State) × Judged sys None (sys.first f) (bodies f) end) (nothing : sys.State) where
  abbrev place : ℕ → ℕ
  place = typed.flat.place

  abbrev has_body : ℕ → Bool
  has_body f = is_closed (bodies f)

  abbrev begin : ℕ → sys.State
  begin f = sys.first f

  abbrev end : ℕ → sys.State
  end f = (judged f).0

  -- the states of a function, and those of the list. Behind its end nothing is known
  abbrev states : ℕ → List sys.State
  states f = marks sys false None (begin f) (bodies f) (end f) (judged f).1

  abbrev state_in : (f i : ℕ) → sys.State
  state_in f i = get_or (states f) (i - place f) nothing

  abbrev state_by : (i : ℕ) → (i < length core) ⊎ (length core ≤ i) → sys.State
  state_by i (inl h) = state_in (typed.flat.covers i h).0 i
  state_by i (inr h) = nothing

  pub state : ℕ → sys.State
  state i = state_by i (below_or_not core i)

  at_end_by : (i : ℕ) (c : (i < length core) ⊎ (length core ≤ i)) → i ≡ length core → state_by i c ≡ nothing
  at_end_by i (inl h) e = absurd (let z : ⊥ = omega arith in z)
  at_end_by i (inr h) e = refl

  pub at_end : state (length core) ≡ nothing
  unfolding state
  at_end = at_end_by (length core) (below_or_not core (length core)) refl

  module _ (f : ℕ) where
    abbrev items : List Item
    items = flat entry false None (place f) (length core) (bodies f)

    long : length items ≡ extent false (bodies f)
    long = flat_length entry (bodies f) false None (place f) (length core)

    state_long : length (states f) ≡ extent false (bodies f)
    state_long = mark_length sys false None (begin f) (bodies f) (end f) (judged f).1

    as_noted : (d : ℕ) (s : sys.State) → slice_get (states f) d ≡ Some s → state (place f + d) ≡ s
    unfolding state
    as_noted d s e = by (below_or_not core (place f + d))
      where
        few : d < extent false (bodies f)
        few = let a = slice_get_within (states f) d s e in let b = state_long in omega arith

        inside : place f + d < length core
        inside = has_below core entry items (place f) d (let a = long in let b = few in omega arith) (typed.flat.has f)

        index : place f + d - place f ≡ d
        index = omega arith

        mine : state_in f (place f + d) ≡ s
        mine = ap (λ i. get_or (states f) i nothing) index ∙ get_or_from_slice_get (states f) d s nothing e

        by : (c : (place f + d < length core) ⊎ (length core ≤ place f + d)) → state_by (place f + d) c ≡ s
        by (inl h) =
            let c = typed.flat.covers (place f + d) h in
            let lies : LiesIn bodies core entry place_of frame_of place (place f + d) f = (omega arith, let a = few in omega arith) in
            let same : c.0 ≡ f = typed.apart (place f + d) c.0 f (c.1, c.2) lies in
            ap (λ g. state_in g (place f + d)) same ∙ mine
        by (inr h) = absurd (let a = inside in let z : ⊥ = omega arith in z)

  all_noted : (ss : List sys.State) (j : ℕ) → ((d : ℕ) (s : sys.State) → slice_get ss d ≡ Some s → state (j + d) ≡ s) → Noted state j ss
  all_noted [] j h = tt
  all_noted (s ∷ ss) j h = (
    ap state (let e : j ≡ j + 0 = omega arith in e) ∙ h zero s refl,
    all_noted ss (suc j) (λ d r e. ap state (let e : suc j + d ≡ j + suc d = omega arith in e) ∙ h (suc d) r e),
  )

  pub noted : (f : ℕ) → Noted state (place f) (states f)
  noted f = all_noted (states f) (place f) (as_noted f)

  module _ (told : Bool) (depth : ℕ → ℕ) (heights : told ≡ true → (f : ℕ) → HasHeights place_of depth 0 (bodies f)) where
    abbrev pub ComesTo : sys.State → ℕ → Type 0
    ComesTo = Comes core entry place_of sys lawful state told depth

    pub entries : (f : ℕ) → has_body f ≡ true → ComesTo (begin f) (entry f)
    entries f closed =
        subst (ComesTo (begin f)) (sym (typed.flat.begins f))
        (begins core entry place_of sys lawful state told depth has_body (bodies f) false None None (begin f) (end f) (place f) (length core)
        (typed.shaped f).0 (judged f).1 (typed.flat.has f) (noted f) (λ goes_on. absurd (true≢false (sym closed ∙ goes_on))) tt)

    sound_in : (f : ℕ) → (is_done (bodies f) ≡ true) ⊎ (is_closed (bodies f) ≡ true)
        → Sound core entry place_of sys lawful state told depth (place f) (items f)
    sound_in f (inl d) = sound_done core entry place_of sys lawful state told depth has_body entries (bodies f) false None (place f) (place f) (length core) d
    sound_in f (inr closed) =
        sound core entry place_of sys lawful state told depth has_body entries (bodies f) false None None (begin f) (end f) (place f) (length core)
        (typed.shaped f).0 (judged f).1 (λ goes_on. absurd (true≢false (sym closed ∙ goes_on))) tt (typed.flat.has f) (noted f)
        (λ z. subst (λ n. HasHeights place_of depth n (bodies f)) (sym (lawful.none f)) (heights z f)) (λ near. absurd (true≢false (sym near)))

    -- what stands at an index, and that it is sound
    pub record Found (i : ℕ) : Type 0 where
      pub item : Item
      pub stood : Stood core entry i item
      pub sound : SoundAt core entry place_of sys lawful state told depth i item

    found_in : (items : List Item) (j d : ℕ) → d < length items → Has core j items → Sound core entry place_of sys lawful state told depth j items → Found (j + d)
    found_in [] j d a h s = absurd (let e : ⊥ = omega arith in e)
    found_in (item ∷ items) j zero a h s =
        subst Found (let e : j ≡ j + 0 = omega arith in e) (record { item = item; stood = h.0; sound = s.0 })
    found_in (item ∷ items) j (suc d) a h s =
        subst Found (let e : suc j + d ≡ j + suc d = omega arith in e) (found_in items (suc j) d (let b : d < length items = omega arith in b) h.1 s.1)

    pub found : (i : ℕ) → i < length core → Found i
    found i h =
        let c = typed.flat.covers i h in
        let f = c.0 in
        let a = c.1 in
        let b = c.2 in
        let l = long f in
        let d = i - place f in
        let e : place f + d ≡ i = omega arith in
        subst Found e (found_in (items f) (place f) d (omega arith) (typed.flat.has f) (sound_in f (typed.shaped f).1))

    abbrev Sounds : ℕ → CoreOp → Operation → Type 0
    Sounds i op operation = IsSound core entry place_of sys lawful state told depth (state i) i op.site operation op.target

    -- of a jump, and of an operation
    pub of_jump : (i : ℕ) (op : CoreOp) → slice_get core i ≡ Some op → is_jump op ≡ true → ComesTo (state i) op.target
    of_jump i op e z = by (found i (slice_get_within core i op e))
      where
        by_item : (item : Item) → Stood core entry i item → SoundAt core entry place_of sys lawful state told depth i item → ComesTo (state i) op.target
        by_item (jump target) s c = subst (ComesTo (state i)) (sym s.2.1 ∙ ap (λ (x : CoreOp). x.target) (some_same op s.0 (slice_get core i) e s.1)) c
        by_item (act n operation target) s c =
            absurd (true≢false (sym z ∙ op_stops core entry i s.0 operation s.1 s.2.0 op e))

        by : Found i → ComesTo (state i) op.target
        by f = by_item f.item f.stood f.sound

    pub of_operation : (i : ℕ) (op : CoreOp) (operation : Operation) → slice_get core i ≡ Some op → operation_of op.kind op.number ≡ Some operation → Sounds i op operation
    of_operation i op operation e is = by (found i (slice_get_within core i op e))
      where
        same_operation : (a b : Operation) (o : Option Operation) → o ≡ Some a → o ≡ Some b → a ≡ b
        same_operation a b o p q = cc

        by_item : (item : Item) → Stood core entry i item → SoundAt core entry place_of sys lawful state told depth i item → Sounds i op operation
        by_item (jump target) s c =
            absurd (true≢false (sym s.2.0 ∙ op_stops core entry i op operation e is s.0 s.1))
        by_item (act n other target) s c =
            let same = some_same op s.0 (slice_get core i) e s.1 in
            let o1 : other ≡ operation = same_operation other operation (operation_of op.kind op.number) (ap (λ (x : CoreOp). operation_of x.kind x.number) (sym same) ∙ s.2.0) is in
            let n1 : n ≡ op.site = sym s.2.1 ∙ ap (λ (x : CoreOp). x.site) same in
            let t1 : target ≡ op.target = sym s.2.2 ∙ ap (λ (x : CoreOp). x.target) same in
            subst (λ m. IsSound core entry place_of sys lawful state told depth (state i) i m operation op.target) n1
            (subst (λ t. IsSound core entry place_of sys lawful state told depth (state i) i n operation t) t1
            (subst (λ x. IsSound core entry place_of sys lawful state told depth (state i) i n x target) o1 c))

        by : Found i → Sounds i op operation
        by f = by_item f.item f.stood f.sound

    -- where an operation goes on that does so in its function
    pub goes_on : (op : Operation) (s : sys.State) (i target : ℕ) (way : Way) → way_of op ≡ way → is_ordinary op ≡ true
        → ((way : Way) → way_of op ≡ way → (way ≡ w.straight) ⊎ (way ≡ w.onto) → sys.behind op false s ≡ sys.behind op true s)
        → Goes core entry place_of sys lawful state told depth way op s i target
        → (onward : Bool) → ComesTo (sys.behind op onward s) (follows core op i target [] onward).at
    goes_on op s i target w.straight e o same g true = subst (ComesTo (sys.behind op true s)) (ap (λ p. p.at) (sym (goes_by core op w.straight e i target [] true))) g
    goes_on op s i target w.straight e o same g false =
        subst (λ x. ComesTo x (follows core op i target [] false).at) (sym (same w.straight e (inl refl)))
        (subst (ComesTo (sys.behind op true s)) (ap (λ p. p.at) (sym (goes_by core op w.straight e i target [] false))) g)
    goes_on op s i target w.either e o same g true = subst (ComesTo (sys.behind op true s)) (ap (λ p. p.at) (sym (goes_by core op w.either e i target [] true))) g.0
    goes_on op s i target w.either e o same g false = subst (ComesTo (sys.behind op false s)) (ap (λ p. p.at) (sym (goes_by core op w.either e i target [] false))) g.1
    goes_on op s i target w.onto e o same g true = subst (ComesTo (sys.behind op true s)) (ap (λ p. p.at) (sym (goes_by core op w.onto e i target [] true))) g
    goes_on op s i target w.onto e o same g false =
        subst (λ x. ComesTo x (follows core op i target [] false).at) (sym (same w.onto e (inr refl)))
        (subst (ComesTo (sys.behind op true s)) (ap (λ p. p.at) (sym (goes_by core op w.onto e i target [] false))) g)
    goes_on op s i target w.into e o same g onward = absurd (not_into op o e)
    goes_on op s i target w.out e o same g onward = absurd (not_out op o e)
