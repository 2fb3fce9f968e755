-- What stands ahead of code and of what is left of it: the same starts.
use Rattle.std.proofs.Common.{◌≡◌, ℕ, zero, suc, Bool, true, false, true≢false, List, [], ◌∷◌, map, ap, ◌∙◌, sym, refl, subst}
use Rattle.fk_meaning_operation.specs.declared.operation.Operation.{Operation}
use Rattle.fk_meaning_operation.specs.declared.operation.Operation.TheVariants as o
use Rattle.fk_meaning_forms.specs.Code.{Code, done, perform, choose, while, until, turn, again, quit, break, continue, call, ends, append}
use Rattle.fk_meaning.specs.Left.{broken, continued, opened, settled}
use Rattle.fk_meaning.specs.Next.{Work}
use Rattle.fk_meaning.specs.Behind.{opens_body, grown}
use Rattle.fk_meaning.specs.Shape.{Exits, of_turn, splits, ends_part, Shape}
use Rattle.fk_meaning.proofs.Spine.{by_either, broken_append, continued_append}
use Rattle.fk_lockstep_structure.specs.Placed.{Who, OfGroup, OfBody, OfMain, is_outermost, is_begin, inner, may_choose, Placed}
use Rattle.fk_lockstep_structure.specs.Ahead.{starts_in, starts}

abbrev pub at : Code ℕ → List (Code ℕ) → Work
at code callers = record { left = code; callers = callers }

-- settled so many times over
abbrev pub settled_times : ℕ → Code ℕ → Code ℕ
settled_times zero code = code
settled_times (suc k) code = settled_times k (settled code)

pub stable : (code : Code ℕ) → settled code ≡ code → (k : ℕ) → settled_times k code ≡ code
stable code e zero = refl
stable code e (suc k) = ap (settled_times k) e ∙ stable code e k

pub same_starts : (code other : Code ℕ) (callers : List (Code ℕ)) → starts_in code ≡ starts_in other → starts (at code callers) ≡ starts (at other callers)
same_starts code other [] e = ap (λ (cs : List (Code ℕ)). map (λ c. at c []) cs) e
same_starts code other (caller ∷ callers) e = refl

-- opened before a loop under way, code is settled
pub opened_is : (code test body step rest : Code ℕ) → opened code (turn test body step rest) ≡ settled (append code (turn test body step rest))
opened_is done test body step rest = refl
opened_is (perform t op more) test body step rest = refl
opened_is (choose t op a b more) test body step rest = refl
opened_is (while test' body' step' more) test body step rest = ap (λ (c : Code ℕ). again test' body' step' c) (opened_is more test body step rest)
opened_is (until body' test' more) test body step rest = ap (λ (c : Code ℕ). opened body' (turn test' body' done c)) (opened_is more test body step rest)
opened_is (turn test' body' step' more) test body step rest = refl
opened_is (again test' body' step' more) test body step rest = refl
opened_is (quit t op more) test body step rest = refl
opened_is (break more) test body step rest = refl
opened_is (continue more) test body step rest = refl
opened_is (call t op f opening more) test body step rest = refl
opened_is (ends t op more) test body step rest = refl

abbrev pub Even : (ahead : List Work) (callers : List (Code ℕ)) → Code ℕ → Type 0
Even ahead callers code = (k : ℕ) → starts (at (settled_times k code) callers) ≡ ahead

module _ (ahead : List Work) (callers : List (Code ℕ)) where
  pub even_stable : (code rest : Code ℕ) → settled code ≡ code → starts_in code ≡ starts_in rest → Even ahead callers rest → Even ahead callers code
  even_stable code rest e f h k = ap (λ c. starts (at c callers)) (stable code e k) ∙ same_starts code rest callers f ∙ h zero

  pub even_settled : (code rest : Code ℕ) → starts_in code ≡ starts_in rest → starts (at rest callers) ≡ ahead → Even ahead callers (settled code) → Even ahead callers code
  even_settled code rest f h g zero = same_starts code rest callers f ∙ h
  even_settled code rest f h g (suc k) = g k

  pub even_turn : (test body step rest : Code ℕ) → Even ahead callers rest → Even ahead callers (append step (again test body step rest)) → Even ahead callers (turn test body step rest)
  even_turn test body step rest h g = even_settled (turn test body step rest) rest refl (h zero) g

  pub even_again : (test body step rest : Code ℕ) → Even ahead callers rest → Even ahead callers (again test body step rest)
  even_again test body step rest h = even_stable (again test body step rest) rest refl refl h

pub no_start : (who : Who) (op : Operation) → is_outermost who ≡ false → may_choose who op ≡ true → is_begin op ≡ false
no_start who o.Begin low may = absurd (true≢false (sym may ∙ low))
no_start who op low may = refl

not_grown : {X : Type 0} (b : Bool) (x : X) (xs : List X) → b ≡ false → grown b x xs ≡ xs
not_grown true x xs e = absurd (true≢false e)
not_grown false x xs e = refl

pub inner_low : (who : Who) → is_outermost who ≡ false → inner who ≡ who
inner_low OfGroup low = refl
inner_low OfBody low = refl
inner_low (OfMain true) low = absurd (true≢false low)
inner_low (OfMain false) low = refl

module _ (may_call : (in_group : Bool) → (function : ℕ) → Bool) (ahead : List Work) (callers : List (Code ℕ)) where
  pub record EvenBehind (x : Exits) (d : Code ℕ) : Type 0 where
    pub onward : Even ahead callers d
    pub breaks : x.breaks ≡ true → Even ahead callers (broken d)
    pub continues : x.continues ≡ true → Even ahead callers (continued d)

  pub even_append : (who : Who) (part closing resuming : Bool) (x : Exits) (code d : Code ℕ) → is_outermost who ≡ false
      → Shape part closing x code → Placed may_call who resuming code → EvenBehind x d → Even ahead callers (append code d)
  even_append who part closing resuming x done d low s p h = h.onward
  even_append who part closing resuming x (perform t op rest) d low s p h =
      even_stable ahead callers (perform t op (append rest d)) (append rest d) refl refl
      (by_either (ends_part op) _ _ _ s.2 (λ e. subst (λ r. Even ahead callers (append r d)) (sym e.2) h.onward)
      (λ g. even_append who part false false x rest d low g p.1 h))
  even_append who part closing resuming x (choose t op a b rest) d low s p h =
      even_stable ahead callers (choose t op a b (append rest d)) (append rest d) refl
      (not_grown (is_begin op) (choose t op a b (append rest d)) (starts_in (append rest d)) (no_start who op low p.1))
      (even_append who part (opens_body op) (splits op) x rest d low s.6 p.5 h)
  even_append who part closing resuming x (while test body step rest) d low s p h =
      let r = by_either s.1 _ _ _ s.5 (λ e. subst (λ r. Even ahead callers (append r d)) (sym e.2) h.onward)
      (λ g. even_append who part false false x rest d low g p.4 h) in
      even_settled ahead callers (while test body step (append rest d)) (append rest d) refl (r zero)
      (even_again ahead callers test body step (settled (append rest d)) (λ k. r (suc k)))
  even_append who part closing resuming x (until body test rest) d low s p h =
      let r : Even ahead callers (append rest d) = by_either s.1 _ _ _ s.4 (λ e. subst (λ r. Even ahead callers (append r d)) (sym e.2) h.onward)
      (λ g. even_append who part false false x rest d low g p.3 h) in
      let behind : Code ℕ = settled (append rest d) in
      let more : Even ahead callers behind = λ k. r (suc k) in
      let again_even : Even ahead callers (again test body done behind) = even_again ahead callers test body done behind more in
      let turns : EvenBehind (of_turn s.1 x) (turn test body done behind) = record {
        onward = even_turn ahead callers test body done behind more again_even;
        breaks = λ e. more;
        continues = λ e. again_even;
      } in
      let whole = even_append who false false false (of_turn s.1 x) body (turn test body done behind) low s.3
      (subst (λ g. Placed may_call g false body) (inner_low who low) p.1) turns in
      even_settled ahead callers (until body test (append rest d)) (append rest d) refl (r zero)
      (subst (λ c. Even ahead callers c) (sym (opened_is body test body done behind)) (λ k. whole (suc k)))
  even_append who part closing resuming x (turn test body step rest) d low s p h = absurd s
  even_append who part closing resuming x (again test body step rest) d low s p h = absurd s
  even_append who part closing resuming x (quit t op rest) d low s p h =
      even_stable ahead callers (quit t op (append rest d)) (append rest d) refl refl
      (subst (λ r. Even ahead callers (append r d)) (sym s.5) h.onward)
  even_append who part closing resuming x (break rest) d low s p h =
      even_settled ahead callers (break (append rest d)) (append rest d) refl
      (even_append who part false false x rest d low s.2 p.1 h zero)
      (subst (λ c. Even ahead callers c) (sym (broken_append part false x rest d s.2)) (h.breaks s.1))
  even_append who part closing resuming x (continue rest) d low s p h =
      even_settled ahead callers (continue (append rest d)) (append rest d) refl
      (even_append who part false false x rest d low s.2 p.1 h zero)
      (subst (λ c. Even ahead callers c) (sym (continued_append part false x rest d s.2)) (h.continues s.1))
  even_append who part closing resuming x (call t op f opening rest) d low s p h =
      even_stable ahead callers (call t op f opening (append rest d)) (append rest d) refl refl
      (even_append who part false false x rest d low s.3 p.4 h)
  even_append who part closing resuming x (ends t op rest) d low s p h =
      even_stable ahead callers (ends t op (append rest d)) (append rest d) refl refl
      (even_append who part false false x rest d low s.3 p.2 h)
