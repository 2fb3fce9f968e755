-- What goes straight on has the target 0 in a flat list.
use Rattle.std.proofs.Common.{◌≡◌, ℕ, zero, suc, ◌+◌, ◌-◌, ◌<◌, Bool, true, false, List, [], ◌∷◌, ◌++◌, length, slice_get, Option, Some, None, refl, sym, ap, ◌∙◌, subst, arith}
use Rattle.std.specs.Prelude.{◌||◌}
use Rattle.std.proofs.lemmas.Option.{slice_get_within}
use Rattle.fk_meaning_operation.specs.declared.operation.Operation.{Operation}
use Rattle.fk_meaning_forms.specs.Code.{Code, done, perform, choose, while, until, turn, again, quit, break, continue, call, ends}
use Rattle.fk_core.specs.declared.op.CoreOp.{CoreOp}
use Rattle.fk_core.specs.Numbers.{operation_of}
use Rattle.fk_core.specs.Next.{is_jump}
use Rattle.fk_core.specs.CodeAt.{Around}
use Rattle.fk_core_flat.specs.Items.{Item, jump, act, IsItem, Has, Way, straight, either, into, way_of, goes_away, aim}
use Rattle.fk_core_flat.specs.Flat.{begins_here, skip, gap, label, flat}
use Rattle.fk_core_flat.specs.Shape.{is_closed, IsShaped, IsOpening}
use Rattle.fk_core_flat.proofs.Lengths.{flat_length}
use Rattle.fk_core_flat.proofs.Parts.{choice_at, turns_at, rounds_at, entering_at}
use Rattle.fk_compile.specs.ListLaws.{StraightHasNoTarget}

-- of each operation among items
abbrev AllAim : List Item → Type 0
AllAim [] = Unit {0}
AllAim (jump target ∷ items) = AllAim items
AllAim (act n op target ∷ items) = (way_of op ≡ straight → target ≡ 0) × AllAim items

both : (xs ys : List Item) → AllAim xs → AllAim ys → AllAim (xs ++ ys)
both [] ys a b = b
both (jump target ∷ xs) ys a b = both xs ys a b
both (act n op target ∷ xs) ys a b = (a.0, both xs ys a.1 b)

past_skip : (here : Bool) (target : ℕ) (ys : List Item) → AllAim ys → AllAim (skip here target ++ ys)
past_skip true target ys a = a
past_skip false target ys a = a

skip_none : (here : Bool) (target : ℕ) → AllAim (skip here target)
skip_none true target = tt
skip_none false target = tt

not_either : (w : Way) → w ≡ either → w ≡ straight → ⊥
not_either w e s = let same = sym e ∙ s in cc

not_into : (w : Way) → w ≡ into → w ≡ straight → ⊥
not_into w e s = let same = sym e ∙ s in cc

module _ (entry : ℕ → ℕ) where
  -- the beginning of a call
  opening_aims : (code : Code ℕ) → IsOpening code → (near : Bool) (c : Around) (i k : ℕ) → AllAim (flat entry near c i k code)
  opening_aims done s near c i k = tt
  opening_aims (perform n op rest) s near c i k =
      let here = goes_away (way_of op) || begins_here near rest in
      let r = suc i + gap here in (
        λ e. ap (λ w. aim w k) e,
        past_skip here (label c r k rest) (flat entry near c r k rest) (opening_aims rest s.1 near c r k),
      )
  opening_aims code s near c i k = absurd (assumption s)

  module _ (has_body : ℕ → Bool) where
    aims : (code : Code ℕ) (l : Bool) → IsShaped has_body l code → (near : Bool) (c : Around) (i k : ℕ) → AllAim (flat entry near c i k code)
    aims done l s near c i k = tt
    aims (perform n op rest) l s near c i k =
        let here = goes_away (way_of op) || begins_here near rest in
        let r = suc i + gap here in (
          λ e. ap (λ w. aim w k) e,
          past_skip here (label c r k rest) (flat entry near c r k rest) (aims rest l s.1 near c r k),
        )
    aims (choose n op x y rest) l s near c i k =
        let q = choice_at entry x y rest near c i k in (
          λ e. absurd (not_either (way_of op) s.0 e),
          both (q.jumps ++ q.firsts ++ q.seconds) q.others
              (both (q.jumps ++ q.firsts) q.seconds
              (past_skip q.here (label c q.first q.next x) q.firsts (aims x l s.1 q.beside c q.first q.next))
              (aims y l s.2 q.after c q.second q.next))
              (aims rest l s.3 near c q.behind k),
        )
    aims (while test body step rest) l s near c i k =
        let q = turns_at entry test body step rest near c i k in
        both (q.tests ++ q.bodies ++ q.lasts) q.others
        (both (q.tests ++ q.bodies) q.lasts
        (both q.tests q.bodies (aims test true s.2 q.enters (Some q.loop) i q.enter) (aims body true s.3 q.steps (Some q.loop) q.body q.loop.onward))
        (aims step true s.4 false (Some q.loop) q.step i))
        (aims rest l s.5 near c q.behind k)
    aims (until body test rest) l s near c i k =
        let q = rounds_at entry body test rest near c i k in
        both (q.bodies ++ q.tests) q.others
        (both q.bodies q.tests (aims body true s.1 true (Some q.loop) i q.test) (aims test true s.2 false (Some q.loop) q.test q.enter))
        (aims rest l s.3 near c q.behind k)
    aims (turn test body step rest) l s near c i k = tt
    aims (again test body step rest) l s near c i k = tt
    aims (quit n op rest) l s near c i k =
        let here = begins_here near rest in
        let r = suc i + gap here in (
          λ e. absurd (not_either (way_of op) s.1 e),
          past_skip here (label c r k rest) (flat entry near c r k rest) (aims rest l s.2 near c r k),
        )
    aims (break rest) l s near c i k = aims rest l s.1 near c i k
    aims (continue rest) l s near c i k = aims rest l s.1 near c i k
    aims (call n op f opening rest) l s near c i k =
        let q = entering_at entry f opening rest near c i k in (
          λ e. absurd (not_into (way_of op) s.0 e),
          both (q.openings ++ q.jumps) q.others
              (both q.openings q.jumps (opening_aims opening s.2 true None (suc i) q.back) (skip_none q.here q.next))
              (aims rest l s.3 near c q.behind k),
        )
    aims (ends n op rest) l s near c i k = (λ e. refl, aims rest l s.1 near c (suc i) k)

-- ---- at an index

module _ (core : List CoreOp) (op : CoreOp) (operation : Operation) (is_read : operation_of op.kind op.number ≡ Some operation) (no_jump : is_jump op ≡ false)
    (goes : way_of operation ≡ straight) where
  same_op : (a : CoreOp) (o : Option CoreOp) → o ≡ Some a → o ≡ Some op → a ≡ op
  same_op a o p q = cc

  same_operation : (a : Operation) (o : Option Operation) → o ≡ Some a → o ≡ Some operation → a ≡ operation
  same_operation a o p q = cc

  of_item : (j : ℕ) (item : Item) → slice_get core j ≡ Some op → ((found : CoreOp) × (slice_get core j ≡ Some found) × IsItem item found)
      → AllAim (item ∷ []) → op.target ≡ 0
  of_item j (jump target) at h a =
      absurd (let e = same_op h.0 (slice_get core j) h.1 at in let jumps : is_jump h.0 ≡ true = h.2.0 in let none = ap is_jump e ∙ no_jump in let z = sym jumps ∙ none in cc)
  of_item j (act n own target) at h a =
      let e = same_op h.0 (slice_get core j) h.1 at in
      let read = subst (λ (o : CoreOp). operation_of o.kind o.number ≡ Some own) e h.2.0 in
      let same = same_operation own (operation_of op.kind op.number) read is_read in
      sym (ap (λ o. o.target) e) ∙ h.2.2 ∙ a.0 (ap way_of same ∙ goes)

  one : (item : Item) (items : List Item) → AllAim (item ∷ items) → AllAim (item ∷ []) × AllAim items
  one (jump target) items a = (tt, a)
  one (act n own target) items a = ((a.0, tt), a.1)

  among : (items : List Item) (j d : ℕ) → d < length items → Has core j items → AllAim items → slice_get core (j + d) ≡ Some op → op.target ≡ 0
  among [] j d lt h a at = absurd (let z : ⊥ = omega arith in z)
  among (item ∷ items) j zero lt h a at =
      let e : j + 0 ≡ j = omega arith in
      of_item j item (subst (λ i. slice_get core i ≡ Some op) e at) h.0 (one item items a).0
  among (item ∷ items) j (suc d) lt h a at =
      let e : j + suc d ≡ suc j + d = omega arith in
      among items (suc j) d (omega arith) h.1 (one item items a).1 (subst (λ i. slice_get core i ≡ Some op) e at)

pub straight_has_no_target : StraightHasNoTarget
straight_has_no_target bodies core entry shaped listed i op operation stands goes =
    let lies = listed.covers i (slice_get_within core i op stands.stands) in
    let f = lies.0 in
    let items = flat entry false None (listed.place f) (length core) (bodies f) in
    let long = flat_length entry (bodies f) false None (listed.place f) (length core) in
    let low = lies.1 in
    let high = lies.2 in
    let d = i - listed.place f in
    let e : i ≡ listed.place f + d = omega arith in
    among core op operation stands.is_read stands.no_jump goes items (listed.place f) d (omega arith) (listed.has f)
    (aims entry (λ function. is_closed (bodies function)) (bodies f) false (shaped f).0 false None (listed.place f) (length core))
    (subst (λ j. slice_get core j ≡ Some op) e stands.stands)
