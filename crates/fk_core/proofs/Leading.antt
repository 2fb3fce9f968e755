-- Where jumps lead to, as the next operation finds it.
use Rattle.std.proofs.Common.{◌≡◌, ℕ, zero, suc, Bool, true, false, true≢false, List, [], ◌∷◌, length, slice_get, Option, Some, None, ap, ◌∙◌, sym, refl, subst, arith}
use Rattle.std.proofs.Math.Dec.{eqb-suc-zero}
use Rattle.std.specs.Prelude.{◌<◌}
use Rattle.fk_meaning_operation.specs.declared.operation.Operation.{Operation}
use Rattle.fk_meaning.specs.Round.{Step}
use Rattle.fk_core.specs.declared.op.CoreOp.{CoreOp}
use Rattle.fk_core.specs.Numbers.{operation_of}
use Rattle.fk_core.specs.Next.{Position, position, is_jump, through, led_by, landing_by, landing, follows, step_by, step_of, next}
use Rattle.fk_core.specs.CodeAt.{Leads, Stay, Go, OpFrom}
use Rattle.fk_core.specs.WellFormed.{LeadsOn}

some_same : (op other : CoreOp) (o : Option CoreOp) → o ≡ Some op → o ≡ Some other → op ≡ other
some_same op other o e f = cc

-- what is an operation is no jump
no_jump_kind : (kind n : ℕ) (operation : Operation) → operation_of kind n ≡ Some operation → (is_jump (record { kind = kind; site = 0; number = n; target = 0; depth = 0 })) ≡ false
no_jump_kind zero n operation e = absurd (cc)
no_jump_kind (suc k) n operation e = eqb-suc-zero k

no_jump : (op : CoreOp) (operation : Operation) → operation_of op.kind op.number ≡ Some operation → is_jump op ≡ false
no_jump op operation e = no_jump_kind op.kind op.number operation e

module _ (core : List CoreOp) (entry : ℕ → ℕ) where
  pub onto : {i j k : ℕ} → Leads core entry i j → Leads core entry j k → Leads core entry i k
  onto Stay b = b
  onto (Go op e z a) b = Go op e z (onto a b)

  -- no jump stands at an index
  abbrev pub StopsAt : ℕ → Type 0
  StopsAt i = (op : CoreOp) → slice_get core i ≡ Some op → is_jump op ≡ false

  pub op_stops : (i : ℕ) (op : CoreOp) (operation : Operation) → slice_get core i ≡ Some op → operation_of op.kind op.number ≡ Some operation → StopsAt i
  op_stops i op operation e r other f =
      subst (λ o. is_jump o ≡ false) (some_same op other (slice_get core i) e f) (no_jump op operation r)

  pub none_stops : (i : ℕ) → slice_get core i ≡ None → StopsAt i
  none_stops i e op f = let absurdity : ◌≡◌ {A = Option CoreOp} None (Some op) = sym e ∙ f in absurd (cc)

  -- jumps lead to one place
  one_end : {i j k : ℕ} → Leads core entry i j → Leads core entry i k → StopsAt j → StopsAt k → j ≡ k
  one_end Stay Stay s t = refl
  one_end Stay (Go op e z b) s t = absurd (true≢false (sym z ∙ s op e))
  one_end (Go op e z a) Stay s t = absurd (true≢false (sym z ∙ t op e))
  one_end {i = i} {k = k} (Go op e z a) (Go other f y b) s t =
      one_end a (subst (λ (o : CoreOp). Leads core entry o.target k) (some_same other op (slice_get core i) f e) b) s t

  go_through : (from : ℕ → ℕ) → ((j : ℕ) → Leads core entry j (from j)) → (i : ℕ) (op : CoreOp) → slice_get core i ≡ Some op
      → (b : Bool) → is_jump op ≡ b → Leads core entry i (through b from i op.target)
  go_through from h i op e true z = Go op e z (h op.target)
  go_through from h i op e false z = Stay

  go_led : (from : ℕ → ℕ) → ((j : ℕ) → Leads core entry j (from j)) → (i : ℕ) (o : Option CoreOp) → slice_get core i ≡ o → Leads core entry i (led_by o from i)
  go_led from h i None e = Stay
  go_led from h i (Some op) e = go_through from h i op e (is_jump op) refl

  lands_led : (jumps i : ℕ) → Leads core entry i (landing_by core jumps i)
  lands_led zero i = Stay
  lands_led (suc jumps) i = go_led (landing_by core jumps) (lands_led jumps) i (slice_get core i) refl

  stays_out : (jumps i : ℕ) → slice_get core i ≡ None → landing_by core jumps i ≡ i
  stays_out zero i e = refl
  stays_out (suc jumps) i e = ap (λ o. led_by o (landing_by core jumps) i) e

  below : (ops : List CoreOp) (i : ℕ) (op : CoreOp) → slice_get ops i ≡ Some op → i < length ops
  below [] i op e = absurd (cc)
  below (x ∷ xs) zero op e = omega arith
  below (x ∷ xs) (suc i) op e = let h = below xs i op e in omega arith

  module _ (leads_on : LeadsOn core) where
    landing_stops : (i : ℕ) → StopsAt (landing core i)
    landing_stops i = by (slice_get core i) refl
      where
        by : (o : Option CoreOp) → slice_get core i ≡ o → StopsAt (landing core i)
        by None e = subst StopsAt (sym (stays_out (length core) i e)) (none_stops i e)
        by (Some op) e =
            let is = leads_on i (below core i op e) in
            op_stops (landing core i) is.op is.operation is.stands is.is_read

    pub lands : (i j : ℕ) → Leads core entry i j → StopsAt j → landing core i ≡ j
    lands i j l s = one_end (lands_led (length core) i) l (landing_stops i) s

    -- the next operation
    pub next_at : (i site : ℕ) (operation : Operation) (callers : List ℕ) (o : OpFrom core entry i site operation)
        → next core (position i callers) ≡ Some (record { operation = operation; site = site; rest = follows core operation o.at o.op.target callers })
    next_at i site operation callers o =
        ap (λ k. step_of core k callers (slice_get core k)) (lands i o.at o.leads (op_stops o.at o.op operation o.stands o.is_read))
        ∙ ap (step_of core o.at callers) o.stands
        ∙ ap (step_by core o.at callers o.op) o.is_read
        ∙ ap (λ site. let s : Step Position = record { operation = operation; site = site; rest = follows core operation o.at o.op.target callers } in Some s) o.has_site

    pub none_at : (i j : ℕ) (callers : List ℕ) → Leads core entry i j → slice_get core j ≡ None → next core (position i callers) ≡ None
    none_at i j callers l e =
        ap (λ k. step_of core k callers (slice_get core k)) (lands i j l (none_stops j e))
        ∙ ap (step_of core j callers) e
