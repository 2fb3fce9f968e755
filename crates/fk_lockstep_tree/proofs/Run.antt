-- An operation leads a processor from place to place, and so does what comes after the parts and bodies that it is in.
use Rattle.std.proofs.Common.{◌≡◌, ap, ⊎_elim, ℕ, zero, suc, Bool, true, false, List, [], ◌∷◌, ◌++◌, map, Option, Some, None, sym, refl, ◌∙◌, subst}
use Rattle.std.specs.Prelude.{if◌then◌else◌}
use Rattle.fk_meaning_operation.specs.declared.operation.Operation.{Operation}
use Rattle.fk_meaning_operation.specs.declared.operation.Operation.TheVariants as o
use Rattle.fk_meaning.specs.Round.{Step}
use Rattle.fk_meaning_forms.specs.Code.{Code, done, perform, choose, while, until, turn, again, quit, break, continue, call, ends, append}
use Rattle.fk_meaning.specs.Left.{broken, settled}
use Rattle.fk_meaning.specs.Behind.{shrinks, tail, grown, past, works, waiting, outs}
use Rattle.fk_meaning.specs.Next.{Work, going, returned, step, step_of, next}
use Rattle.fk_core.specs.CodeAt.{is_first}
use Rattle.fk_core.proofs.Running.{first_before}
use Rattle.fk_core_flat.specs.Shape.{is_closed}
use Rattle.fk_lockstep.proofs.Round.{first_is}
use Rattle.fk_lockstep_structure.specs.Placed.{is_begin}
use Rattle.fk_lockstep_structure.specs.Ahead.{starts_in, outermost, starts}
use Rattle.fk_lockstep_tree.specs.Where.{Where, InRoot, Waits, InGroup, InBody, BehindBody, goes, GoesNext, GoesFor, Goes}
use Rattle.fk_lockstep_tree.specs.Leads.{is_in_group, Comes, Loop, turning, Quits, Leads}
use Rattle.fk_lockstep_tree.specs.Led.{AreLed, CodeGoes}
use Rattle.fk_lockstep_tree.proofs.Held.{is_joint, Joins}
use Rattle.fk_lockstep_tree.proofs.Whole.{Part, IsLoop, Led, joined, nothing_left, whole, Ready, breaks, settles}

-- who waits, and who is behind a body, doesn't stay there
waits_not : (n : ℕ) (op : Operation) → goes (Waits n) op true ≡ Some (Waits n) → ⊥
waits_not zero o.Resume e = absurd (cc)
waits_not (suc n) o.Resume e = absurd (cc)
waits_not n op e = absurd (cc)

behind_not : (n : ℕ) (op : Operation) → goes (BehindBody n) op true ≡ Some (BehindBody n) → ⊥
behind_not n (o.Meet true) e = absurd (cc)
behind_not n (o.Meet false) e = absurd (cc)
behind_not n op e = absurd (cc)

-- after a part, and after a loop in a part, members wait
abbrev pub IsWaiting : Where → Type 0
IsWaiting place = (n : ℕ) × (place ≡ Waits n)

end_waits : (place to : Where) → goes place o.End true ≡ Some to → IsWaiting to
end_waits (InGroup n) to e = (n, sym (first_is (Waits n) to e))
end_waits place to e = absurd (cc)

shrink_waits : (place to : Where) → goes place o.Shrink false ≡ Some to → IsWaiting to
shrink_waits (InGroup zero) to e = absurd (cc)
shrink_waits (InGroup (suc n)) to e = (suc n, sym (first_is (Waits (suc n)) to e))
shrink_waits InRoot to e = absurd (cc)
shrink_waits place to e = absurd (cc)

waits_joint : (n : ℕ) (op : Operation) (to : Where) → goes (Waits n) op true ≡ Some to → is_joint op ≡ true
waits_joint n o.Resume to e = refl
waits_joint n op to e = absurd (cc)

begin_joint : (op : Operation) → is_begin op ≡ true → op ≡ o.Begin
begin_joint o.Begin e = refl
begin_joint op e = absurd (cc)

left_same : (p left q left' : Where) → Some (turning p left) ≡ Some (turning q left') → left' ≡ left
left_same p left q left' e = ap (λ (l : Loop). l.left) (sym (first_is (turning p left) (turning q left') e))

module _ (may_call : (in_group : Bool) → (function : ℕ) → Bool) (bodies : ℕ → Code ℕ) (main : ℕ) (facts : AreLed may_call bodies main) where
  abbrev has_body : ℕ → Bool
  has_body function = is_closed (bodies function)

  abbrev LedTo : Where → Option Loop → Where → Code ℕ → Type 0
  LedTo f l p code = Led may_call has_body f l p code

  -- what waits for a call goes on where the function began
  abbrev Returns : (function : Where) → List (Code ℕ) → Type 0
  Returns f [] = f ≡ InRoot
  Returns f (code ∷ callers) = (g : Where) × (l : Option Loop) × LedTo g l f code × Returns g callers

  pub record IsAt (p : Where) (w : Work) : Type 0 where
    function : Where
    left : Ready may_call has_body function p w.left
    callers : Returns function w.callers

  goes_to : (f : Where) (l : Option Loop) (p : Where) (code : Code ℕ) (callers : List (Code ℕ)) → LedTo f l p code → Returns f callers → IsAt p (going code callers)
  goes_to f l p code callers h r = record { function = f; left = settles may_call has_body f l p code h; callers = r }

  returns_to : (f : Where) (callers : List (Code ℕ)) → Returns f callers → IsAt f (returned callers)
  returns_to f [] r = record { function = f; left = record { is_ready = refl; loop = None; led = (refl, r) }; callers = r }
  returns_to f (code ∷ callers) r = goes_to r.0 r.1 f code callers r.2 r.3

  -- a function that is called
  called : (p : Where) (op : Operation) (function : ℕ) → Comes p op p → may_call (is_in_group p) function ≡ true → has_body function ≡ true → LedTo p None p (bodies function)
  called InRoot op function c may b = whole may_call has_body InRoot InRoot InRoot false (bodies function) (facts.in_root function b may) (facts.shaped function).0 b
  called (Waits n) op function c may b = absurd (waits_not n op (c true))
  called (InGroup n) op function c may b = whole may_call has_body (InGroup n) (InGroup n) (InGroup n) false (bodies function) (facts.in_group n function b may) (facts.shaped function).0 b
  called (InBody n) op function c may b = whole may_call has_body (InBody n) (InBody n) (InBody n) false (bodies function) (facts.in_body n function b may) (facts.shaped function).0 b
  called (BehindBody n) op function c may b = absurd (behind_not n op (c true))

  abbrev GoesOn : Where → Option (Step Work) → Type 0
  GoesOn p s = GoesNext (next bodies) IsAt p s

  before : (f : Where) (l : Option Loop) (p q : Where) (code more : Code ℕ) → Part may_call has_body f l p code q → LedTo f l q more → LedTo f l p (append code more)
  before f l p q code more h m = joined may_call has_body f l p q h.in_loop code more h.leads h.shaped m

  chooses : (f : Where) (l : Option Loop) (p : Where) (op : Operation) (a b rest : Code ℕ) (callers : List (Code ℕ)) (t : ℕ) → LedTo f l p (choose t op a b rest) → Returns f callers
      → (onward : Bool) → (to : Where) × (goes p op onward ≡ Some to) × IsAt to (going (append (if onward then a else b) rest) callers)
  chooses f l p op a b rest callers t h r true = (h.0, h.4, goes_to f l h.0 (append a rest) callers (before f l h.0 h.2 a rest h.6 h.8) r)
  chooses f l p op a b rest callers t h r false = (h.1, h.5, goes_to f l h.1 (append b rest) callers (before f l h.1 h.3 b rest h.7 h.9) r)

  quits : (f : Where) (l : Option Loop) (p left : Where) (op : Operation) (rest : Code ℕ) (callers : List (Code ℕ)) → l ≡ Some (turning p left) → Quits p left op → LedTo f l p rest → Returns f callers
      → (onward : Bool) → (to : Where) × (goes p op onward ≡ Some to) × IsAt to (going (if onward then rest else broken rest) callers)
  quits f l p left op rest callers e c h r true = (p, c.0, goes_to f l p rest callers h r)
  quits f l p left op rest callers e c h r false =
      let b = breaks may_call has_body f l p (turning p left) rest h e in
      (left, c.1, goes_to f b.loop left (broken rest) callers b.led r)

  first_goes : (f : Where) (l : Option Loop) (p : Where) (code : Code ℕ) (callers : List (Code ℕ)) → is_first code ≡ true → LedTo f l p code → Returns f callers
      → GoesOn p (step bodies code callers)
  first_goes f l p done callers e h r = absurd (cc)
  first_goes f l p (perform t op rest) callers e h r = λ onward. (h.0, h.1 onward, goes_to f l h.0 rest callers h.2 r)
  first_goes f l p (choose t op a b rest) callers e h r = λ onward. chooses f l p op a b rest callers t h r onward
  first_goes f l p (while t b s rest) callers e h r = absurd (cc)
  first_goes f l p (until b t rest) callers e h r = absurd (cc)
  first_goes f l p (turn t b s rest) callers e h r = absurd (cc)
  first_goes f l p (again t b s rest) callers e h r = absurd (cc)
  first_goes f l p (quit t op rest) callers e h r = λ onward. quits f l p h.0 op rest callers h.1 h.2 h.3 r onward
  first_goes f l p (break rest) callers e h r = absurd (cc)
  first_goes f l p (continue rest) callers e h r = absurd (cc)
  first_goes f l p (call t op function opening rest) callers e h r =
      λ onward. (
        p,
        h.0 onward,
        goes_to p None p (append opening (bodies function)) (rest ∷ callers)
            (before p None p p opening (bodies function) h.3 (called p op function h.0 h.1 h.2)) (f, l, h.4, r),
      )
  first_goes f l p (ends t op rest) callers e h r = λ onward. (p, h.0 onward, subst (λ (w : Where). IsAt w (returned callers)) (sym h.1) (returns_to f callers r))

  step_goes : (f p : Where) (code : Code ℕ) (callers : List (Code ℕ)) → Ready may_call has_body f p code → Returns f callers → GoesOn p (step_of bodies code callers)
  step_goes f p done callers h r = h.led.1
  step_goes f p (perform t op rest) callers h r = first_goes f h.loop p (perform t op rest) callers refl h.led r
  step_goes f p (choose t op a b rest) callers h r = first_goes f h.loop p (choose t op a b rest) callers refl h.led r
  step_goes f p (while t b s rest) callers h r = let e = h.is_ready in absurd (cc)
  step_goes f p (until b t rest) callers h r = let e = h.is_ready in absurd (cc)
  step_goes f p (turn t b s rest) callers h r = let e = h.is_ready in absurd (cc)
  step_goes f p (again t b s rest) callers h r =
      let k = h.led in
      let l : Option Loop = Some (turning p k.0) in
      let code = append b (turn t b s rest) in
      let loop : LedTo f l p (turn t b s rest) = (k.0, refl, k.2, k.3, k.4, k.5) in
      first_goes f l p (append t code) callers (first_before t code k.2.begins)
      (before f l p p t code k.2.test_leads (before f l p p b (turn t b s rest) k.2.body_leads loop)) r
  step_goes f p (quit t op rest) callers h r = first_goes f h.loop p (quit t op rest) callers refl h.led r
  step_goes f p (break rest) callers h r = let e = h.is_ready in absurd (cc)
  step_goes f p (continue rest) callers h r = let e = h.is_ready in absurd (cc)
  step_goes f p (call t op function opening rest) callers h r = first_goes f h.loop p (call t op function opening rest) callers refl h.led r
  step_goes f p (ends t op rest) callers h r = first_goes f h.loop p (ends t op rest) callers refl h.led r

  goes_for : (n : ℕ) (p : Where) (w : Work) → IsAt p w → GoesFor (next bodies) n p w
  goes_for zero p w h = tt
  goes_for (suc n) p w h = by (λ to u g. goes_for n to u g) (next bodies w) (step_goes h.function p w.left w.callers h.left h.callers)
    where
      by : ((to : Where) (u : Work) → IsAt to u → GoesFor (next bodies) n to u) → (s : Option (Step Work)) → GoesOn p s → GoesNext (next bodies) (GoesFor (next bodies) n) p s
      by more None g = g
      by more (Some s) g = λ onward. let to = g onward in (to.0, to.1, more to.0 (s.rest onward) to.2)

  pub goes_from : (p : Where) (w : Work) → IsAt p w → Goes (next bodies) p w
  goes_from p w h = λ n. goes_for n p w h

  -- what is left after an operation is somewhere again
  pub goes_next : (p : Where) (w : Work) (s : Step Work) → IsAt p w → next bodies w ≡ Some s → (onward : Bool) → (to : Where) × IsAt to (s.rest onward)
  goes_next p w s h e onward =
      let g : GoesOn p (Some s) = subst (GoesOn p) e (step_goes h.function p w.left w.callers h.left h.callers) in
      let to = g onward in (to.0, to.2)

  -- ---- where others are met

  abbrev pub JoinsThere : Work → Type 0
  JoinsThere w = Joins (next bodies) w

  -- what is left there is at a place, and meets others
  pub record IsOut (w : Work) : Type 0 where
    pub place : Where
    pub at : IsAt place w
    pub joins : JoinsThere w

  abbrev pub AllOuts : List Work → Type 0
  AllOuts [] = Unit {0}
  AllOuts (w ∷ ws) = IsOut w × AllOuts ws

  joins_at : (n : ℕ) (p : Where) (w : Work) → p ≡ Waits n → IsAt p w → JoinsThere w
  joins_at n p w e h = by (next bodies w) refl (step_goes h.function p w.left w.callers h.left h.callers)
    where
      by : (s : Option (Step Work)) → next bodies w ≡ s → GoesOn p s → JoinsThere w
      by None f g = let clash : Waits n ≡ InRoot = sym e ∙ g in absurd (cc)
      by (Some s) f g =
          let to = g true in
          record { step = s; next_is = f; is = waits_joint n s.operation to.0 (subst (λ (q : Where). goes q s.operation true ≡ Some to.0) e to.1) }

  -- the code after a part
  out_behind : (f : Where) (l : Option Loop) (p : Where) (code : Code ℕ) (callers : List (Code ℕ)) → IsWaiting p → LedTo f l p code → Returns f callers → IsOut (going code callers)
  out_behind f l p code callers waits h r =
      let at = goes_to f l p code callers h r in record { place = p; at = at; joins = joins_at waits.0 p (going code callers) waits.1 at }

  tail_outs : (callers codes : List (Code ℕ)) → AllOuts (works callers codes) → AllOuts (works callers (tail codes))
  tail_outs callers [] all = tt
  tail_outs callers (code ∷ codes) all = all.1

  -- a loop that shrinks is left to where those wait who have left it
  shrinks_waits : (f p left q e : Where) (test : Code ℕ) → Leads may_call f (Some (turning p left)) q test e → shrinks test ≡ true → IsWaiting left
  shrinks_waits f p left q e done h is = absurd (cc)
  shrinks_waits f p left q e (perform t op rest) h is = shrinks_waits f p left h.0 e rest h.2 is
  shrinks_waits f p left q e (choose t op x y rest) h is = shrinks_waits f p left h.2 e rest h.8 is
  shrinks_waits f p left q e (while t b s rest) h is = shrinks_waits f p left h.0 e rest h.4 is
  shrinks_waits f p left q e (until b t rest) h is = shrinks_waits f p left h.0 e rest h.3 is
  shrinks_waits f p left q e (turn t b s rest) h is = absurd h
  shrinks_waits f p left q e (again t b s rest) h is = absurd h
  shrinks_waits f p left q e (quit t o.Shrink rest) h is = subst IsWaiting (left_same p left q h.0 h.1) (shrink_waits q h.0 h.2.1)
  shrinks_waits f p left q e (quit t op rest) h is = absurd (cc)
  shrinks_waits f p left q e (break rest) h is = shrinks_waits f p left q e rest h.2 is
  shrinks_waits f p left q e (continue rest) h is = shrinks_waits f p left q e rest h.2 is
  shrinks_waits f p left q e (call t op function opening rest) h is = shrinks_waits f p left q e rest h.3 is
  shrinks_waits f p left q e (ends t op rest) h is = shrinks_waits f p left q e rest h.2 is

  -- the code after a loop, if that is a part
  behind_loop : (f : Where) (l outer : Option Loop) (p left : Where) (test body step rest : Code ℕ) (callers : List (Code ℕ)) → IsLoop may_call has_body f p left test body step → LedTo f outer left rest → Returns f callers
      → AllOuts (works callers (past rest)) → (b : Bool) → shrinks test ≡ b → AllOuts (works callers (grown b (settled rest) (past rest)))
  behind_loop f l outer p left test body step rest callers loop h r all true is =
      (out_behind f outer left rest callers (shrinks_waits f p left p p test loop.test_leads.leads is) h r, all)
  behind_loop f l outer p left test body step rest callers loop h r all false is = all

  outs_of : (f : Where) (l : Option Loop) (p : Where) (code : Code ℕ) (callers : List (Code ℕ)) → LedTo f l p code → Returns f callers → AllOuts (works callers (past code))
  outs_of f l p done callers h r = tt
  outs_of f l p (perform t o.End rest) callers h r =
      (out_behind f l h.0 rest callers (end_waits p h.0 (h.1 true)) h.2 r, outs_of f l h.0 rest callers h.2 r)
  outs_of f l p (perform t (o.Meet true) rest) callers h r = (
    record {
      place = p;
      at = record { function = f; left = settles may_call has_body f l p (perform t (o.Meet true) rest) h; callers = r };
      joins = record { step = record { operation = o.Meet true; site = t; rest = λ onward. going rest callers }; next_is = refl; is = refl };
    },
    outs_of f l h.0 rest callers h.2 r,
  )
  outs_of f l p (perform t (o.Meet false) rest) callers h r = outs_of f l h.0 rest callers h.2 r
  outs_of f l p (perform t op rest) callers h r = outs_of f l h.0 rest callers h.2 r
  outs_of f l p (choose t o.Farm x y rest) callers h r = tail_outs callers (past rest) (outs_of f l h.2 rest callers h.8 r)
  outs_of f l p (choose t o.Seq x y rest) callers h r = tail_outs callers (past rest) (outs_of f l h.2 rest callers h.8 r)
  outs_of f l p (choose t op x y rest) callers h r = outs_of f l h.2 rest callers h.8 r
  outs_of f l p (while t b s rest) callers h r = behind_loop f l l p h.0 t b s rest callers h.1 h.2 r (outs_of f l h.0 rest callers h.2 r) (shrinks t) refl
  outs_of f l p (until b t rest) callers h r = behind_loop f l l p h.0 t b done rest callers h.1 h.2 r (outs_of f l h.0 rest callers h.2 r) (shrinks t) refl
  outs_of f l p (turn t b s rest) callers h r = behind_loop f l h.4 p h.0 t b s rest callers h.2 h.5 r (outs_of f h.4 h.0 rest callers h.5 r) (shrinks t) refl
  outs_of f l p (again t b s rest) callers h r = behind_loop f l h.4 p h.0 t b s rest callers h.2 h.5 r (outs_of f h.4 h.0 rest callers h.5 r) (shrinks t) refl
  outs_of f l p (quit t op rest) callers h r = outs_of f l p rest callers h.3 r
  outs_of f l p (break rest) callers h r = outs_of f l p rest callers h.2 r
  outs_of f l p (continue rest) callers h r = outs_of f l p rest callers h.2 r
  outs_of f l p (call t op function opening rest) callers h r = outs_of f l p rest callers h.4 r
  outs_of f l p (ends t op rest) callers h r =
      ⊎_elim (λ ended. subst (λ (code : Code ℕ). AllOuts (works callers (past code))) (sym ended.0) tt) (λ more. outs_of f l p rest callers more r) h.2

  both_outs : (ws us : List Work) → AllOuts ws → AllOuts us → AllOuts (ws ++ us)
  both_outs [] us a b = b
  both_outs (w ∷ ws) us a b = (a.0, both_outs ws us a.1 b)

  waiting_outs : (f : Where) (callers : List (Code ℕ)) → Returns f callers → AllOuts (waiting callers)
  waiting_outs f [] r = tt
  waiting_outs f (code ∷ callers) r =
      both_outs (works callers (past code)) (waiting callers) (outs_of r.0 r.1 f code callers r.2 r.3) (waiting_outs r.0 callers r.3)

  pub outs_meet : (p : Where) (w : Work) → IsAt p w → AllOuts (outs w)
  outs_meet p w h =
      both_outs (works w.callers (past w.left)) (waiting w.callers) (outs_of h.function h.left.loop p w.left w.callers h.left.led h.callers) (waiting_outs h.function w.callers h.callers)

  -- ---- each `start` ahead begins a group

  pub record Begins (w : Work) : Type 0 where
    pub step : Step Work
    pub next_is : next bodies w ≡ Some step
    pub is : step.operation ≡ o.Begin

  abbrev pub AllBegin : List Work → Type 0
  AllBegin [] = Unit {0}
  AllBegin (w ∷ ws) = Begins w × AllBegin ws

  abbrev outer_works : List (Code ℕ) → List Work
  outer_works codes = map (λ code. let at : Work = record { left = code; callers = [] } in at) codes

  start_here : (b : Bool) (t : ℕ) (op : Operation) (x y rest : Code ℕ) (codes : List (Code ℕ)) → is_begin op ≡ b → AllBegin (outer_works codes) → AllBegin (outer_works (grown b (choose t op x y rest) codes))
  start_here true t op x y rest codes is all = (
    record {
      step = record { operation = op; site = t; rest = λ onward. going (append (if onward then x else y) rest) [] };
      next_is = refl;
      is = begin_joint op is;
    },
    all,
  )
  start_here false t op x y rest codes is all = all

  starts_begin : (code : Code ℕ) → AllBegin (outer_works (starts_in code))
  starts_begin done = tt
  starts_begin (perform t op rest) = starts_begin rest
  starts_begin (choose t op x y rest) = start_here (is_begin op) t op x y rest (starts_in rest) refl (starts_begin rest)
  starts_begin (while t b s rest) = starts_begin rest
  starts_begin (until b t rest) = starts_begin rest
  starts_begin (turn t b s rest) = starts_begin rest
  starts_begin (again t b s rest) = starts_begin rest
  starts_begin (quit t op rest) = starts_begin rest
  starts_begin (break rest) = starts_begin rest
  starts_begin (continue rest) = starts_begin rest
  starts_begin (call t op f opening rest) = starts_begin rest
  starts_begin (ends t op rest) = starts_begin rest

  pub all_starts_begin : (w : Work) → AllBegin (starts w)
  all_starts_begin w = starts_begin (outermost w.left w.callers)

  pub begins : IsAt InRoot (going (bodies main) [])
  begins = ⊎_elim
      (λ none. subst (λ (code : Code ℕ). IsAt InRoot (going code [])) (sym (nothing_left may_call has_body (bodies main) none)) (goes_to InRoot None InRoot done [] (refl, refl) refl))
      (λ closed. goes_to InRoot None InRoot (bodies main) [] (whole may_call has_body InRoot InRoot InRoot false (bodies main) facts.main_of (facts.shaped main).0 closed) refl)
      (facts.shaped main).1

pub code_goes : CodeGoes
code_goes may_call bodies main facts n = goes_for may_call bodies main facts n InRoot (going (bodies main) []) (begins may_call bodies main facts)
