-- Code has few values at each of its places, where the layout counts as few.
use Rattle.std.proofs.Common.{◌≡◌, ◌⊎◌, inl, inr, ℕ, suc, ◌+◌, ◌-◌, ◌≤◌, Bool, true, false, true≢false, List, [], ◌∷◌, Option, Some, refl, sym, ap, ◌∙◌, arith}
use Rattle.std.specs.Prelude.{not}
use Rattle.fk_meaning_operation.specs.declared.operation.Operation.{Operation}
use Rattle.fk_meaning_operation.specs.declared.operation.Operation.TheVariants as o
use Rattle.fk_meaning_operation.specs.declared.operation.SplitKind.TheVariants.{AndThen, OrElse}
use Rattle.fk_layout_sizes.specs.Operations.{takes, pushes, nests}
use Rattle.fk_layout_sizes.specs.Operations as z
use Rattle.fk_layout_sizes.specs.Places.{At, behind_operation, behind_call, behind, places, most_values, deepest}
use Rattle.fk_core_typing.specs.LocalDepths.{results, leaves}
use Rattle.fk_meaning_forms.specs.Code.{done, perform, choose, while, until, turn, again, quit, break, continue, call, ends, size, numbered}
use Rattle.fk_meaning_forms.specs.Expressions.{Coded, Signature}
use Rattle.fk_core_liveness.specs.declared.places.FunctionKind.{FunctionKind}
use Rattle.fk_core_liveness.specs.declared.places.FunctionKind.TheVariants.{Called}
use Rattle.fk_core_flat.specs.Items.{into, way_of}
use Rattle.fk_core_flat.specs.Shape.{is_done, IsShaped}
use Rattle.fk_meaning.specs.Shape.{waits}
use Rattle.fk_core_typing.specs.Values.{State}
use Rattle.fk_core_typing.specs.Values as w
use Rattle.fk_core_typing.specs.Typed.{Loop, Typed}
use Rattle.fk_core_typing.specs.Heights.{raised, results_of, height}
use Rattle.fk_check_laws.proofs.Each.{Each, three_of, four_of}
use Rattle.fk_lower_laws.specs.Room.{HasFew, HasParts}
use Rattle.fk_lower_laws.proofs.Waiting.{Waiting}

-- an operation leaves what it pushes where it goes onward, and otherwise too, unless members wait then
leaves_onward : (op : Operation) → leaves op true ≡ pushes op
leaves_onward (o.Split AndThen) = refl
leaves_onward (o.Split OrElse) = refl
leaves_onward (o.Split by) = refl
leaves_onward op = refl

leaves_aside : (op : Operation) → (leaves op false ≡ pushes op) ⊎ (waits op ≡ true)
leaves_aside (o.Split AndThen) = inr refl
leaves_aside (o.Split OrElse) = inr refl
leaves_aside (o.Split by) = inl refl
leaves_aside op = inl refl

-- at most so many parts are around each of these places
pub in_parts : (most : ℕ) (ps : List At) → deepest ps ≤ most → Each (λ (p : At). p.nesting ≤ most) ps
in_parts most [] h = tt
in_parts most (p ∷ ps) h = (omega (arith, h), in_parts most ps (omega (arith, h)))

-- so many values are at each of these places
abbrev pub AreLow : (most : ℕ) → List At → Type 0
AreLow most ps = Each (λ (p : At). p.values ≤ most) ps

pub low : (most : ℕ) (ps : List At) → most_values ps ≤ most → AreLow most ps
low most [] h = tt
low most (p ∷ ps) h = (omega (arith, h), low most ps (omega (arith, h)))

-- an operation that calls pushes nothing by itself
pushes_none : (op : Operation) → way_of op ≡ into → pushes op ≡ 0
pushes_none (o.Push number) e = absurd (cc)
pushes_none (o.Get known) e = absurd (cc)
pushes_none o.CopyLast e = absurd (cc)
pushes_none (o.Apply sign) e = absurd (cc)
pushes_none (o.Binary sign turned) e = absurd (cc)
pushes_none (o.Index bytes) e = absurd (cc)
pushes_none o.Take e = absurd (cc)
pushes_none o.Read e = absurd (cc)
pushes_none o.Write e = absurd (cc)
pushes_none (o.Combine by) e = absurd (cc)
pushes_none o.Heap e = absurd (cc)
pushes_none o.Block e = absurd (cc)
pushes_none op e = refl

module _ (functions : (binding : ℕ) → Signature) (place_of : (binding : ℕ) → FunctionKind) where
  -- on the other way of a choice there are as many values as on the first one, or nothing is done
  abbrev pub IsEven : Operation → Coded → Type 0
  IsEven op b = (leaves op false ≡ pushes op) ⊎ (b ≡ done)

  even : (op : Operation) (b : Coded) → (waits op ≡ true → b ≡ done) → IsEven op b
  even op b none = elim (leaves_aside op) [
    | inl same ↦ inl same
    | inr wait ↦ inr (none wait)
  ]

  -- code with such choices, whose calls give what is told of the functions
  abbrev pub Counted : Coded → Type 0
  Counted done = Unit {0}
  Counted (perform t op rest) = Counted rest
  Counted (choose t op a b rest) = IsEven op b × Counted a × Counted b × Counted rest
  Counted (while test body step rest) = Counted test × Counted body × Counted step × Counted rest
  Counted (until body test rest) = Counted body × Counted test × Counted rest
  Counted (quit t op rest) = Counted rest
  Counted (break rest) = Counted rest
  Counted (continue rest) = Counted rest
  Counted (call t op f opening rest) = (pushes op ≡ 0) × (results_of (place_of f) ≡ z.results (functions f).void) × Counted rest
  Counted (ends t op rest) = Counted rest
  Counted code = ⊥

  called : ((f : ℕ) (gives : Bool) → place_of f ≡ Called gives → gives ≡ not (functions f).void)
      → (f : ℕ) (gives : Bool) → place_of f ≡ Called gives → results_of (place_of f) ≡ z.results (functions f).void
  called agree f gives is = ap results_of is ∙ ap results (agree f gives is) ∙ same (functions f).void
    where
      same : (void : Bool) → results (not void) ≡ z.results void
      same true = refl
      same false = refl

  pub counted : (frame_of : ℕ → Option ℕ) → ((f : ℕ) (gives : Bool) → place_of f ≡ Called gives → gives ≡ not (functions f).void) → (has_body : ℕ → Bool)
      → (code : Coded) (n : ℕ) (i : Bool) (l : Option Loop) (s e : State)
      → IsShaped has_body i (numbered n code) → Typed place_of frame_of l s (numbered n code) e → Waiting code → Counted code
  counted frame_of agree has done n i l s e sh ty b = tt
  counted frame_of agree has (perform t op rest) n i l s e sh ty b = counted frame_of agree has rest (suc n) i l (w.behind op true s) e sh.1 ty.1 b
  counted frame_of agree has (choose t op x y rest) n i l s e sh ty b = (
    even op y b.0,
    counted frame_of agree has x (suc n) i l (w.behind op true s) ty.1 sh.1 ty.2 b.1,
    counted frame_of agree has y (suc n + size x) i l (w.behind op false s) ty.1 sh.2 ty.3 b.2,
    counted frame_of agree has rest (suc n + size x + size y) i l ty.1 e sh.3 ty.4 b.3,
  )
  counted frame_of agree has (while test body step rest) n i l s e sh ty b =
      let r = ty.0 in (
        counted frame_of agree has test n true (Some r) r.turn r.turn sh.2 ty.2 b.0,
        counted frame_of agree has body (n + size test) true (Some r) r.turn r.turn sh.3 ty.3 b.1,
        counted frame_of agree has step (n + size test + size body) true (Some r) r.turn r.turn sh.4 ty.4 b.2,
        counted frame_of agree has rest (n + size test + size body + size step) i l r.left e sh.5 ty.5 b.3,
      )
  counted frame_of agree has (until body test rest) n i l s e sh ty b =
      let r = ty.0 in (
        counted frame_of agree has body n true (Some r) r.turn r.turn sh.1 ty.2 b.0,
        counted frame_of agree has test (n + size body) true (Some r) r.turn r.turn sh.2 ty.3 b.1,
        counted frame_of agree has rest (n + size body + size test) i l r.left e sh.3 ty.4 b.2,
      )
  counted frame_of agree has (turn test body step rest) n i l s e sh ty b = absurd sh
  counted frame_of agree has (again test body step rest) n i l s e sh ty b = absurd sh
  counted frame_of agree has (quit t op rest) n i l s e sh ty b = counted frame_of agree has rest (suc n) i l (w.behind op true s) e sh.2 ty.2 b
  counted frame_of agree has (break rest) n i l s e sh ty b = counted frame_of agree has rest n i l s e sh.1 ty.1 b
  counted frame_of agree has (continue rest) n i l s e sh ty b = counted frame_of agree has rest n i l s e sh.1 ty.1 b
  counted frame_of agree has (call t op f opening rest) n i l s e sh ty b = (
    pushes_none op sh.0,
    called agree f ty.1 ty.2,
    counted frame_of agree has rest (suc n + size opening) i l (w.behind_call (takes op) ty.1 s) e sh.3 ty.4 b.1,
  )
  counted frame_of agree has (ends t op rest) n i l s e sh ty b = counted frame_of agree has rest (suc n) i l (w.behind op true s) e sh.1 ty.2 b

  -- where so many values stand as are told of a place, so many stand behind an operation, a call and code as are told
  pub raised_by : (op : Operation) (onward : Bool) → leaves op onward ≡ pushes op → (p : At) {h : ℕ} → h ≡ p.values → raised h op onward ≡ (behind_operation p op).values
  raised_by op onward e p same = ap (λ k. raised k op onward) same ∙ ap (λ k. p.values - takes op + k) e

  pub raised_so : (op : Operation) (p : At) {h : ℕ} → h ≡ p.values → raised h op true ≡ (behind_operation p op).values
  raised_so op p same = raised_by op true (leaves_onward op) p same

  pub called_so : (op : Operation) (f : ℕ) → pushes op ≡ 0 → results_of (place_of f) ≡ z.results (functions f).void → (p : At) {h : ℕ} → h ≡ p.values
      → h - takes op + results_of (place_of f) ≡ (behind_call functions p op f).values
  called_so op f none gives p same = omega (arith, none, gives, same)

  pub heights : (code : Coded) (p : At) (n : ℕ) {h : ℕ} → h ≡ p.values → Counted code → height place_of h (numbered n code) ≡ (behind functions p code).values
  heights done p n same c = same
  heights (perform t op rest) p n same c = heights rest (behind_operation p op) (suc n) (raised_so op p same) c
  heights (choose t op x y rest) p n same c =
      let q : At = record { values = (behind functions (behind_operation p op) x).values; nesting = p.nesting } in
      heights rest q (suc n + size x + size y) (heights x (behind_operation p op) (suc n) (raised_so op p same) c.1) c.3
  heights (while test body step rest) p n same c =
      let q = behind functions p test in
      let u = behind functions q body in
      let first = heights test p n same c.0 in
      let second = heights body q (n + size test) first c.1 in
      heights rest (behind functions u step) (n + size test + size body + size step) (heights step u (n + size test + size body) second c.2) c.3
  heights (until body test rest) p n same c =
      let q = behind functions p body in
      heights rest (behind functions q test) (n + size body + size test) (heights test q (n + size body) (heights body p n same c.0) c.1) c.2
  heights (turn test body step rest) p n same c = absurd c
  heights (again test body step rest) p n same c = absurd c
  heights (quit t op rest) p n same c = heights rest (behind_operation p op) (suc n) (raised_so op p same) c
  heights (break rest) p n same c = heights rest p n same c
  heights (continue rest) p n same c = heights rest p n same c
  heights (call t op f opening rest) p n same c = heights rest (behind_call functions p op f) (suc n + size opening) (called_so op f c.0 c.1 p same) c.2
  heights (ends t op rest) p n same c = heights rest (behind_operation p op) (suc n) (raised_so op p same) c

  module _ (most : ℕ) where
    abbrev IsLow : At → Type 0
    IsLow p = p.values ≤ most

    here : (p : At) {h : ℕ} → h ≡ p.values → IsLow p → h ≤ most
    here p same few = omega (arith, same, few)

    -- on the other way of a choice there are few values, if anything is done there
    beside : (h : ℕ) (op : Operation) (y : Coded) (n : ℕ) → IsEven op y → (leaves op false ≡ pushes op → HasFew place_of most (raised h op false) (numbered n y))
        → is_done (numbered n y) ≡ false → HasFew place_of most (raised h op false) (numbered n y)
    beside h op y n (inl e) few z = few e
    beside h op y n (inr e) few z = absurd (true≢false (sym (ap (λ (code : Coded). is_done (numbered n code)) e) ∙ z))

    pub lows : (code : Coded) (p : At) (n : ℕ) {h : ℕ} → h ≡ p.values → Counted code → AreLow most (places functions p code) → HasFew place_of most h (numbered n code)
    lows done p n same c l = here p same l.0
    lows (perform t op rest) p n same c l = (here p same l.0, lows rest (behind_operation p op) (suc n) (raised_so op p same) c l.1)
    lows (choose t op x y rest) p n {h} same c l =
        let f = behind_operation p op in
        let q : At = record { values = (behind functions f x).values; nesting = p.nesting } in
        let ls = three_of IsLow (places functions f x) (places functions f y) (places functions q rest) l.1 in
        let onward = raised_so op p same in (
          here p same l.0,
          lows x f (suc n) onward c.1 ls.0,
          beside h op y (suc n + size x) c.0 (λ e. lows y f (suc n + size x) (raised_by op false e p same) c.2 ls.1),
          lows rest q (suc n + size x + size y) (heights x f (suc n) onward c.1) c.3 ls.2,
        )
    lows (while test body step rest) p n same c l =
        let b = n + size test in
        let q = behind functions p test in
        let u = behind functions q body in
        let v = behind functions u step in
        let ls = four_of IsLow (places functions p test) (places functions q body) (places functions u step) (places functions v rest) l in
        let first = heights test p n same c.0 in
        let second = heights body q b first c.1 in
        let third = heights step u (b + size body) second c.2 in (
          lows test p n same c.0 ls.0,
          lows body q b first c.1 ls.1,
          lows step u (b + size body) second c.2 ls.2,
          lows rest v (b + size body + size step) third c.3 ls.3,
        )
    lows (until body test rest) p n same c l =
        let t = n + size body in
        let q = behind functions p body in
        let v = behind functions q test in
        let ls = three_of IsLow (places functions p body) (places functions q test) (places functions v rest) l in
        let first = heights body p n same c.0 in (
          lows body p n same c.0 ls.0,
          lows test q t first c.1 ls.1,
          lows rest v (t + size test) (heights test q t first c.1) c.2 ls.2,
        )
    lows (turn test body step rest) p n same c l = absurd c
    lows (again test body step rest) p n same c l = absurd c
    lows (quit t op rest) p n same c l = (here p same l.0, lows rest (behind_operation p op) (suc n) (raised_so op p same) c l.1)
    lows (break rest) p n same c l = lows rest p n same c l
    lows (continue rest) p n same c l = lows rest p n same c l
    lows (call t op f opening rest) p n same c l =
        (here p same l.0, lows rest (behind_call functions p op f) (suc n + size opening) (called_so op f c.0 c.1 p same) c.2 l.1.1)
    lows (ends t op rest) p n same c l = (here p same l.0, lows rest (behind_operation p op) (suc n) (raised_so op p same) c l.1)

  -- ---- parts around places

  parts_stay : (code : Coded) (p : At) → p.nesting ≤ (behind functions p code).nesting
  parts_stay done p = omega arith
  parts_stay (perform t op rest) p = omega (arith, parts_stay rest (behind_operation p op))
  parts_stay (choose t op x y rest) p =
      parts_stay rest (let q : At = record { values = (behind functions (behind_operation p op) x).values; nesting = p.nesting } in q)
  parts_stay (while test body step rest) p =
      let b = behind functions p test in
      let s = behind functions b body in
      omega (arith, parts_stay test p, parts_stay body b, parts_stay step s, parts_stay rest (behind functions s step))
  parts_stay (until body test rest) p =
      let t = behind functions p body in omega (arith, parts_stay body p, parts_stay test t, parts_stay rest (behind functions t test))
  parts_stay (turn test body step rest) p =
      let b = behind functions p test in
      let s = behind functions b body in
      omega (arith, parts_stay test p, parts_stay body b, parts_stay step s, parts_stay rest (behind functions s step))
  parts_stay (again test body step rest) p =
      let b = behind functions p test in
      let s = behind functions b body in
      omega (arith, parts_stay test p, parts_stay body b, parts_stay step s, parts_stay rest (behind functions s step))
  parts_stay (quit t op rest) p = omega (arith, parts_stay rest (behind_operation p op))
  parts_stay (break rest) p = parts_stay rest p
  parts_stay (continue rest) p = parts_stay rest p
  parts_stay (call t op f opening rest) p = omega (arith, parts_stay rest (behind_call functions p op f))
  parts_stay (ends t op rest) p = omega (arith, parts_stay rest (behind_operation p op))

  module _ (most : ℕ) where
    abbrev IsIn : At → Type 0
    IsIn p = p.nesting ≤ most

    -- where at most so many parts are around each place that is counted, so it is in code
    pub parted : (code : Coded) (p : At) (n m : ℕ) → m ≤ p.nesting → Counted code → Each IsIn (places functions p code) → HasParts most m (numbered n code)
    parted done p n m within c l = omega (arith, within, l.0)
    parted (perform t op rest) p n m within c l = (omega (arith, within, l.0), parted rest (behind_operation p op) (suc n) m (omega (arith, within)) c l.1)
    parted (choose t op x y rest) p n m within c l =
        let f = behind_operation p op in
        let q : At = record { values = (behind functions f x).values; nesting = p.nesting } in
        let ls = three_of IsIn (places functions f x) (places functions f y) (places functions q rest) l.1 in (
          omega (arith, within, l.0),
          parted x f (suc n) (m + nests op) (omega (arith, within)) c.1 ls.0,
          parted y f (suc n + size x) (m + nests op) (omega (arith, within)) c.2 ls.1,
          parted rest q (suc n + size x + size y) m within c.3 ls.2,
        )
    parted (while test body step rest) p n m within c l =
        let q = behind functions p test in
        let u = behind functions q body in
        let v = behind functions u step in
        let ls = four_of IsIn (places functions p test) (places functions q body) (places functions u step) (places functions v rest) l in
        let first = parts_stay test p in
        let second = parts_stay body q in
        let third = parts_stay step u in (
          parted test p n m within c.0 ls.0,
          parted body q (n + size test) m (omega (arith, within, first)) c.1 ls.1,
          parted step u (n + size test + size body) m (omega (arith, within, first, second)) c.2 ls.2,
          parted rest v (n + size test + size body + size step) m (omega (arith, within, first, second, third)) c.3 ls.3,
        )
    parted (until body test rest) p n m within c l =
        let q = behind functions p body in
        let v = behind functions q test in
        let ls = three_of IsIn (places functions p body) (places functions q test) (places functions v rest) l in
        let first = parts_stay body p in
        let second = parts_stay test q in (
          parted body p n m within c.0 ls.0,
          parted test q (n + size body) m (omega (arith, within, first)) c.1 ls.1,
          parted rest v (n + size body + size test) m (omega (arith, within, first, second)) c.2 ls.2,
        )
    parted (turn test body step rest) p n m within c l = absurd c
    parted (again test body step rest) p n m within c l = absurd c
    parted (quit t op rest) p n m within c l = (omega (arith, within, l.0), parted rest (behind_operation p op) (suc n) m (omega (arith, within)) c l.1)
    parted (break rest) p n m within c l = parted rest p n m within c l
    parted (continue rest) p n m within c l = parted rest p n m within c l
    parted (call t op f opening rest) p n m within c l =
        (omega (arith, within, l.0), parted rest (behind_call functions p op f) (suc n + size opening) m (omega (arith, within)) c.2 l.1.1)
    parted (ends t op rest) p n m within c l = (omega (arith, within, l.0), parted rest (behind_operation p op) (suc n) m (omega (arith, within)) c l.1)
