-- Jumps lead to operations, and so each index leads on to one.
use Rattle.std.proofs.Common.{◌≡◌, ℕ, zero, suc, ◌+◌, ◌-◌, ◌<◌, Bool, true, false, true≢false, List, [], ◌∷◌, ◌++◌, length, slice_get, Some, None, inl, inr, ap, ap₂, ◌∙◌, sym, refl, subst, arith}
use Rattle.std.specs.Prelude.{◌||◌, ◌⊎◌, is_some, if◌then◌else◌}
use Rattle.fk_meaning_operation.specs.declared.operation.Operation.{Operation}
use Rattle.fk_meaning_forms.specs.Code.{Code, done, perform, choose, while, until, turn, again, quit, break, continue, call, ends}
use Rattle.fk_core.specs.declared.op.CoreOp.{CoreOp}
use Rattle.fk_core.specs.Next.{is_jump, through, led_by, landing_by, landing}
use Rattle.fk_core.specs.CodeAt.{Around, is_first, is_start}
use Rattle.fk_core.specs.WellFormed.{IsOperation, LeadsOn}
use Rattle.fk_core.proofs.Leading.{op_stops}
use Rattle.fk_core_flat.specs.Items.{Item, jump, act, Has, way_of, goes_away}
use Rattle.fk_core_flat.specs.Flat.{begins_here, skip, gap, label, flat}
use Rattle.fk_core_flat.specs.Shape.{is_done, is_closed, IsOpening, IsShaped}
use Rattle.fk_core_flat.specs.Laws.{AreShaped, IsFlat, JumpsLeadToOperations}
use Rattle.fk_core_flat.proofs.Lengths.{flat_length}
use Rattle.fk_core_flat.proofs.Parts.{choice_at, turns_at, rounds_at, entering_at, has_choice, has_turns, has_rounds, has_entering}
use Rattle.fk_core_flat.proofs.CodeAt.{past, Stood, opening_begins}

module _ (core : List CoreOp) (entry : ℕ → ℕ) where
  is_operation : (i n : ℕ) (op : Operation) (t : ℕ) → Stood core entry i (act n op t) → IsOperation core i
  is_operation i n op t h = record { op = h.0; operation = op; stands = h.1; is_read = h.2.0 }

  first_stands : (code : Code ℕ) (near : Bool) (c : Around) (i k : ℕ) → is_first code ≡ true → Has core i (flat entry near c i k code) → IsOperation core i
  first_stands (perform n op rest) near c i k e h = is_operation i n op _ h.0
  first_stands (choose n op x y rest) near c i k e h = is_operation i n op _ h.0
  first_stands (quit n op rest) near c i k e h = is_operation i n op _ h.0
  first_stands (call n op f opening rest) near c i k e h = is_operation i n op _ h.0
  first_stands (ends n op rest) near c i k e h = is_operation i n op _ h.0
  first_stands done near c i k e h = absurd (cc)
  first_stands (while t b s rest) near c i k e h = absurd (cc)
  first_stands (until b t rest) near c i k e h = absurd (cc)
  first_stands (turn t b s rest) near c i k e h = absurd (cc)
  first_stands (again t b s rest) near c i k e h = absurd (cc)
  first_stands (break rest) near c i k e h = absurd (cc)
  first_stands (continue rest) near c i k e h = absurd (cc)

  start_stands : (code : Code ℕ) (c : Around) (i k : ℕ) → is_start code ≡ true → Has core i (flat entry false c i k code) → IsOperation core k
      → IsOperation core (if begins_here false code then i else k)
  start_stands (perform n op rest) c i k e h g = is_operation i n op _ h.0
  start_stands (choose n op x y rest) c i k e h g = is_operation i n op _ h.0
  start_stands (quit n op rest) c i k e h g = is_operation i n op _ h.0
  start_stands (call n op f opening rest) c i k e h g = is_operation i n op _ h.0
  start_stands (ends n op rest) c i k e h g = is_operation i n op _ h.0
  start_stands done c i k e h g = g
  start_stands (while t b s rest) c i k e h g = absurd (cc)
  start_stands (until b t rest) c i k e h g = absurd (cc)
  start_stands (turn t b s rest) c i k e h g = absurd (cc)
  start_stands (again t b s rest) c i k e h g = absurd (cc)
  start_stands (break rest) c i k e h g = absurd (cc)
  start_stands (continue rest) c i k e h g = absurd (cc)

  -- the indices of the loop round a place
  abbrev LoopStands : Around → Type 0
  LoopStands None = Unit {0}
  LoopStands (Some loop) = IsOperation core loop.behind × IsOperation core loop.onward

  module _ (has_body : ℕ → Bool) where
    -- where code begins stands an operation
    pub begins_with : (code : Code ℕ) (near : Bool) (c : Around) (i k : ℕ) → IsShaped has_body (is_some c) code → Has core i (flat entry near c i k code)
        → (is_closed code ≡ false → IsOperation core k) → LoopStands c → IsOperation core (label c i k code)
    begins_with done near c i k p h end l = end refl
    begins_with (perform n op rest) near c i k p h end l = is_operation i n op _ h.0
    begins_with (choose n op x y rest) near c i k p h end l = is_operation i n op _ h.0
    begins_with (while test body step rest) near c i k p h end l =
        let q = turns_at entry test body step rest near c i k in
        first_stands test q.enters (Some q.loop) i q.enter p.0 (has_turns entry core test body step rest near c i k h).test
    begins_with (until body test rest) near c i k p h end l =
        let q = rounds_at entry body test rest near c i k in
        let has = has_rounds entry core body test rest near c i k h in
        let gt = first_stands test false (Some q.loop) q.test q.enter p.0 has.test in
        begins_with body true (Some q.loop) i q.test p.1 has.body (λ z. gt) (begins_with rest near c q.behind k p.3 has.others end l, gt)
    begins_with (turn test body step rest) near c i k p h end l = absurd p
    begins_with (again test body step rest) near c i k p h end l = absurd p
    begins_with (quit n op rest) near c i k p h end l = is_operation i n op _ h.0
    begins_with (break rest) near None i k p h end l = absurd (true≢false (sym p.0))
    begins_with (break rest) near (Some loop) i k p h end l = l.0
    begins_with (continue rest) near None i k p h end l = absurd (true≢false (sym p.0))
    begins_with (continue rest) near (Some loop) i k p h end l = l.1
    begins_with (call n op f opening rest) near c i k p h end l = is_operation i n op _ h.0
    begins_with (ends n op rest) near c i k p h end l = is_operation i n op _ h.0

  -- the jumps among items lead to operations
  abbrev pub Lead : List Item → Type 0
  Lead [] = Unit {0}
  Lead (jump target ∷ items) = IsOperation core target × Lead items
  Lead (act n op target ∷ items) = Lead items

  lead_both : (xs ys : List Item) → Lead xs → Lead ys → Lead (xs ++ ys)
  lead_both [] ys a b = b
  lead_both (jump target ∷ xs) ys a b = (a.0, lead_both xs ys a.1 b)
  lead_both (act n op target ∷ xs) ys a b = lead_both xs ys a b

  lead_skip : (here : Bool) (target : ℕ) → IsOperation core target → Lead (skip here target)
  lead_skip true target g = tt
  lead_skip false target g = (g, tt)

  lead_done : (code : Code ℕ) (near : Bool) (c : Around) (i k : ℕ) → is_done code ≡ true → Lead (flat entry near c i k code)
  lead_done done near c i k e = tt
  lead_done (perform n op rest) near c i k e = absurd (cc)
  lead_done (choose n op x y rest) near c i k e = absurd (cc)
  lead_done (while t b s rest) near c i k e = absurd (cc)
  lead_done (until b t rest) near c i k e = absurd (cc)
  lead_done (turn t b s rest) near c i k e = absurd (cc)
  lead_done (again t b s rest) near c i k e = absurd (cc)
  lead_done (quit n op rest) near c i k e = absurd (cc)
  lead_done (break rest) near c i k e = absurd (cc)
  lead_done (continue rest) near c i k e = absurd (cc)
  lead_done (call n op f opening rest) near c i k e = absurd (cc)
  lead_done (ends n op rest) near c i k e = absurd (cc)

  lead_opening : (code : Code ℕ) (c : Around) (i k : ℕ) → IsOpening code → Lead (flat entry true c i k code)
  lead_opening done c i k o = tt
  lead_opening (perform n op rest) c i k o =
      let here = goes_away (way_of op) || begins_here true rest in
      let g : here ≡ true = ap (λ w. goes_away w || begins_here true rest) o.0 ∙ opening_begins core entry rest o.1 in
      subst (λ (here : Bool). Lead (skip here (label c (suc i + gap here) k rest) ++ flat entry true c (suc i + gap here) k rest)) (sym g)
      (lead_opening rest c (suc i + 0) k o.1)
  lead_opening (choose n op x y rest) c i k o = absurd o
  lead_opening (while t b s rest) c i k o = absurd o
  lead_opening (until b t rest) c i k o = absurd o
  lead_opening (turn t b s rest) c i k o = absurd o
  lead_opening (again t b s rest) c i k o = absurd o
  lead_opening (quit n op rest) c i k o = absurd o
  lead_opening (break rest) c i k o = absurd o
  lead_opening (continue rest) c i k o = absurd o
  lead_opening (call n op f opening rest) c i k o = absurd o
  lead_opening (ends n op rest) c i k o = absurd o

  lead_ended : (rest : Code ℕ) (near : Bool) (c : Around) (i k : ℕ) (none : Bool) → is_done rest ≡ none
      → ((is_done rest || is_closed rest) ≡ false → IsOperation core k)
      → ((is_closed rest ≡ false → IsOperation core k) → Lead (flat entry near c i k rest))
      → Lead (flat entry near c i k rest)
  lead_ended rest near c i k true e end leads = lead_done rest near c i k e
  lead_ended rest near c i k false e end leads = leads (λ z. end (ap₂ (λ a b. a || b) e z))

  module _ (has_body : ℕ → Bool) (entries : (f : ℕ) → has_body f ≡ true → IsOperation core (entry f)) where
    -- the jumps in the list of code do
    pub lead : (code : Code ℕ) (near : Bool) (c : Around) (i k : ℕ) → IsShaped has_body (is_some c) code → Has core i (flat entry near c i k code)
        → (is_closed code ≡ false → IsOperation core k) → LoopStands c → Lead (flat entry near c i k code)
    lead done near c i k p h end l = tt
    lead (perform n op rest) near c i k p h end l =
        let here = goes_away (way_of op) || begins_here near rest in
        let r = suc i + gap here in
        let m = label c r k rest in
        let hr = past core entry here (suc i) m (flat entry near c r k rest) h.1 in
        lead_both (skip here m) (flat entry near c r k rest) (lead_skip here m (begins_with has_body rest near c r k p.1 hr end l)) (lead rest near c r k p.1 hr end l)
    lead (choose n op x y rest) near c i k p h end l =
        let q = choice_at entry x y rest near c i k in
        let has = has_choice entry core x y rest near c i k h.1 in
        let gm = begins_with has_body rest near c q.behind k p.3 has.others end l in
        let gx = begins_with has_body x q.beside c q.first q.next p.1 has.first (λ z. gm) l in
        lead_both (q.jumps ++ q.firsts ++ q.seconds) q.others
        (lead_both (q.jumps ++ q.firsts) q.seconds
        (lead_both q.jumps q.firsts (lead_skip q.here (label c q.first q.next x) gx) (lead x q.beside c q.first q.next p.1 has.first (λ z. gm) l))
        (lead y q.after c q.second q.next p.2 has.second (λ z. gm) l))
        (lead rest near c q.behind k p.3 has.others end l)
    lead (while test body step rest) near c i k p h end l =
        let q = turns_at entry test body step rest near c i k in
        let has = has_turns entry core test body step rest near c i k h in
        let gi = first_stands test q.enters (Some q.loop) i q.enter p.0 has.test in
        let go = start_stands step (Some q.loop) q.step i p.1 has.step gi in
        let gl : LoopStands (Some q.loop) = (begins_with has_body rest near c q.behind k p.5 has.others end l, go) in
        let ge = begins_with has_body body q.steps (Some q.loop) q.body q.loop.onward p.3 has.body (λ z. go) gl in
        lead_both (q.tests ++ q.bodies ++ q.lasts) q.others
        (lead_both (q.tests ++ q.bodies) q.lasts
        (lead_both q.tests q.bodies
        (lead test q.enters (Some q.loop) i q.enter p.2 has.test (λ z. ge) gl)
        (lead body q.steps (Some q.loop) q.body q.loop.onward p.3 has.body (λ z. go) gl))
        (lead step false (Some q.loop) q.step i p.4 has.step (λ z. gi) gl))
        (lead rest near c q.behind k p.5 has.others end l)
    lead (until body test rest) near c i k p h end l =
        let q = rounds_at entry body test rest near c i k in
        let has = has_rounds entry core body test rest near c i k h in
        let gt = first_stands test false (Some q.loop) q.test q.enter p.0 has.test in
        let gl : LoopStands (Some q.loop) = (begins_with has_body rest near c q.behind k p.3 has.others end l, gt) in
        let ge = begins_with has_body body true (Some q.loop) i q.test p.1 has.body (λ z. gt) gl in
        lead_both (q.bodies ++ q.tests) q.others
        (lead_both q.bodies q.tests
        (lead body true (Some q.loop) i q.test p.1 has.body (λ z. gt) gl)
        (lead test false (Some q.loop) q.test q.enter p.2 has.test (λ z. ge) gl))
        (lead rest near c q.behind k p.3 has.others end l)
    lead (turn test body step rest) near c i k p h end l = absurd p
    lead (again test body step rest) near c i k p h end l = absurd p
    lead (quit n op rest) near c i k p h end l =
        let here = begins_here near rest in
        let r = suc i + gap here in
        let m = label c r k rest in
        let hr = past core entry here (suc i) m (flat entry near c r k rest) h.1 in
        lead_both (skip here m) (flat entry near c r k rest) (lead_skip here m (begins_with has_body rest near c r k p.2 hr end l)) (lead rest near c r k p.2 hr end l)
    lead (break rest) near c i k p h end l = lead rest near c i k p.1 h end l
    lead (continue rest) near c i k p h end l = lead rest near c i k p.1 h end l
    lead (call n op f opening rest) near c i k p h end l =
        let q = entering_at entry f opening rest near c i k in
        let has = has_entering entry core f opening rest near c i k h.1 in
        lead_both (q.openings ++ q.jumps) q.others
        (lead_both q.openings q.jumps (lead_opening opening None (suc i) q.back p.2)
        (entries f p.1, lead_skip q.here q.next (begins_with has_body rest near c q.behind k p.3 has.others end l)))
        (lead rest near c q.behind k p.3 has.others end l)
    lead (ends n op rest) near c i k p h end l =
        lead_ended rest near c (suc i) k (is_done rest) refl end (λ end. lead rest near c (suc i) k p.1 h.1 end l)

-- a list with nothing in it but the code of functions
module _ (bodies : ℕ → Code ℕ) (core : List CoreOp) (entry : ℕ → ℕ) (shaped : AreShaped bodies) (is_flat : IsFlat bodies core entry) where
  abbrev has_body : ℕ → Bool
  has_body f = is_closed (bodies f)

  -- what stands at an index, and where it leads if it is a jump
  record Placed (i : ℕ) : Type 0 where
    item : Item
    stood : Stood core entry i item
    leads : Lead core entry (item ∷ [])

  first_leads : (item : Item) (items : List Item) → Lead core entry (item ∷ items) → Lead core entry (item ∷ [])
  first_leads (jump target) items l = (l.0, tt)
  first_leads (act n op target) items l = tt

  others_lead : (item : Item) (items : List Item) → Lead core entry (item ∷ items) → Lead core entry items
  others_lead (jump target) items l = l.1
  others_lead (act n op target) items l = l

  placed : (items : List Item) (j d : ℕ) → d < length items → Has core j items → Lead core entry items → Placed (j + d)
  placed [] j d a h l = absurd (let e : ⊥ = omega arith in e)
  placed (item ∷ items) j zero a h l =
      subst Placed (let e : j ≡ j + 0 = omega arith in e) (record { item = item; stood = h.0; leads = first_leads item items l })
  placed (item ∷ items) j (suc d) a h l =
      subst Placed (let e : suc j + d ≡ j + suc d = omega arith in e)
      (placed items (suc j) d (let b : d < length items = omega arith in b) h.1 (others_lead item items l))

  -- the entry of a function that has a body
  begins : (f : ℕ) → is_closed (bodies f) ≡ true → IsOperation core (entry f)
  begins f closed =
      subst (IsOperation core) (sym (is_flat.begins f))
      (begins_with core entry has_body (bodies f) false None (is_flat.place f) (length core) (shaped f).0 (is_flat.has f)
      (λ goes_on. absurd (true≢false (sym closed ∙ goes_on))) tt)

  all_lead : (f : ℕ) → Lead core entry (flat entry false None (is_flat.place f) (length core) (bodies f))
  all_lead f = by (shaped f).1
    where
      by : (is_done (bodies f) ≡ true) ⊎ (is_closed (bodies f) ≡ true) → Lead core entry (flat entry false None (is_flat.place f) (length core) (bodies f))
      by (inl none) = lead_done core entry (bodies f) false None (is_flat.place f) (length core) none
      by (inr closed) =
          lead core entry has_body begins (bodies f) false None (is_flat.place f) (length core) (shaped f).0 (is_flat.has f)
          (λ goes_on. absurd (true≢false (sym closed ∙ goes_on))) tt

  at : (i : ℕ) → i < length core → Placed i
  at i h =
      let c = is_flat.covers i h in
      let f = c.0 in
      let items = flat entry false None (is_flat.place f) (length core) (bodies f) in
      let l = flat_length entry (bodies f) false None (is_flat.place f) (length core) in
      let a = c.1 in
      let b = c.2 in
      let d = i - is_flat.place f in
      let e : is_flat.place f + d ≡ i = omega arith in
      subst Placed e (placed items (is_flat.place f) d (omega arith) (is_flat.has f) (all_lead f))

  stays : (jumps i : ℕ) → IsOperation core i → landing_by core jumps i ≡ i
  stays zero i is = refl
  stays (suc jumps) i is =
      ap (λ o. led_by o (landing_by core jumps) i) is.stands
      ∙ ap (λ b. through b (landing_by core jumps) i is.op.target) (op_stops core entry i is.op is.operation is.stands is.is_read is.op is.stands)

  jumps_to : (jumps i target : ℕ) → 0 < jumps → Stood core entry i (jump target) → IsOperation core target → landing_by core jumps i ≡ target
  jumps_to zero i target a h is = absurd (let e : ⊥ = omega arith in e)
  jumps_to (suc jumps) i target a h is =
      ap (λ o. led_by o (landing_by core jumps) i) h.1
      ∙ ap (λ b. through b (landing_by core jumps) i h.0.target) h.2.0
      ∙ ap (landing_by core jumps) h.2.1
      ∙ stays jumps target is

  pub leads_on : LeadsOn core
  leads_on i h = by (at i h)
    where
      by_item : (item : Item) → Stood core entry i item → Lead core entry (item ∷ []) → IsOperation core (landing core i)
      by_item (jump target) s l = subst (IsOperation core) (sym (jumps_to (length core) i target (omega arith) s l.0)) l.0
      by_item (act n op target) s l =
          let is = is_operation core entry i n op target s in
          subst (IsOperation core) (sym (stays (length core) i is)) is

      by : Placed i → IsOperation core (landing core i)
      by p = by_item p.item p.stood p.leads

below : (ops : List CoreOp) (i : ℕ) (op : CoreOp) → slice_get ops i ≡ Some op → i < length ops
below [] i op e = absurd (cc)
below (x ∷ xs) zero op e = omega arith
below (x ∷ xs) (suc i) op e = let h = below xs i op e in omega arith

pub jumps_lead_to_operations : JumpsLeadToOperations
jumps_lead_to_operations bodies core entry shaped is_flat i op e z = by (at bodies core entry shaped is_flat i (below core i op e))
  where
    same_op : (other : CoreOp) → slice_get core i ≡ Some other → other ≡ op
    same_op other f = let g = e in cc

    by_item : (item : Item) → Stood core entry i item → Lead core entry (item ∷ []) → IsOperation core op.target
    by_item (jump target) s l =
        subst (IsOperation core) (sym s.2.1 ∙ ap (λ (o : CoreOp). o.target) (same_op s.0 s.1)) l.0
    by_item (act n operation target) s l =
        absurd (true≢false (sym z ∙ ap is_jump (sym (same_op s.0 s.1)) ∙ op_stops core entry i s.0 operation s.1 s.2.0 s.0 s.1))

    by : Placed bodies core entry shaped is_flat i → IsOperation core op.target
    by p = by_item p.item p.stood p.leads
