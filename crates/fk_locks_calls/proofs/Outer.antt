-- Code outside of the lock's functions, whose sites come after theirs, and what a run makes of it.
use Rattle.std.proofs.Common.{◌≡◌, ◌≤◌, ◌⊎◌, ℕ, Bool, true, false, List, [], ◌∷◌, Option, Some, None, inl, inr, refl, ap, ◌∙◌}
use Rattle.std.specs.Prelude.{if◌then◌else◌}
use Rattle.std.proofs.lemmas.Bool.{cases_eq}
use Rattle.fk_meaning_operation.specs.declared.operation.Operation.{Operation}
use Rattle.fk_meaning_operation.specs.declared.operation.Operation.TheVariants.{Enter}
use Rattle.fk_meaning.specs.Round.{Step}
use Rattle.fk_meaning_forms.specs.Code.{Code, done, perform, choose, while, until, turn, again, quit, break, continue, call, ends, append}
use Rattle.fk_meaning.specs.Left.{broken, continued, settled_turn, opened, settled}
use Rattle.fk_meaning.specs.Next.{Work, going, returned, step, step_of, next}
use Rattle.fk_locks_calls.specs.Code.{code_of_take, code_of_give}

-- The bindings of the two functions.
module _ (take give : ℕ) where
  -- a call of one of the two passes one value and has nothing at its beginning
  abbrev pub CallFits : {A : Type 0} → Operation → ℕ → Code A → Type 0
  CallFits op f opening = (f ≡ take) ⊎ (f ≡ give) → (op ≡ Enter 1) × (opening ≡ done)

  abbrev pub Outer : Code ℕ → Type 0
  Outer done = Unit {0}
  Outer (perform n op rest) = (27 ≤ n) × Outer rest
  Outer (choose n op a b rest) = (27 ≤ n) × Outer a × Outer b × Outer rest
  Outer (while test body after rest) = Outer test × Outer body × Outer after × Outer rest
  Outer (until body test rest) = Outer body × Outer test × Outer rest
  Outer (turn test body after rest) = Outer test × Outer body × Outer after × Outer rest
  Outer (again test body after rest) = Outer test × Outer body × Outer after × Outer rest
  Outer (quit n op rest) = (27 ≤ n) × Outer rest
  Outer (break rest) = Outer rest
  Outer (continue rest) = Outer rest
  Outer (call n op f opening rest) = (27 ≤ n) × CallFits op f opening × Outer opening × Outer rest
  Outer (ends n op rest) = (27 ≤ n) × Outer rest

  outer_append : (c d : Code ℕ) → Outer c → Outer d → Outer (append c d)
  outer_append done d h g = g
  outer_append (perform n op rest) d h g = (h.0, outer_append rest d h.1 g)
  outer_append (choose n op a b rest) d h g = (h.0, h.1, h.2, outer_append rest d h.3 g)
  outer_append (while test body after rest) d h g = (h.0, h.1, h.2, outer_append rest d h.3 g)
  outer_append (until body test rest) d h g = (h.0, h.1, outer_append rest d h.2 g)
  outer_append (turn test body after rest) d h g = (h.0, h.1, h.2, outer_append rest d h.3 g)
  outer_append (again test body after rest) d h g = (h.0, h.1, h.2, outer_append rest d h.3 g)
  outer_append (quit n op rest) d h g = (h.0, outer_append rest d h.1 g)
  outer_append (break rest) d h g = outer_append rest d h g
  outer_append (continue rest) d h g = outer_append rest d h g
  outer_append (call n op f opening rest) d h g = (h.0, h.1, h.2, outer_append rest d h.3 g)
  outer_append (ends n op rest) d h g = (h.0, outer_append rest d h.1 g)

  outer_broken : (c : Code ℕ) → Outer c → Outer (broken c)
  outer_broken done h = h
  outer_broken (perform n op rest) h = outer_broken rest h.1
  outer_broken (choose n op a b rest) h = outer_broken rest h.3
  outer_broken (while test body after rest) h = outer_broken rest h.3
  outer_broken (until body test rest) h = outer_broken rest h.2
  outer_broken (turn test body after rest) h = h.3
  outer_broken (again test body after rest) h = h.3
  outer_broken (quit n op rest) h = outer_broken rest h.1
  outer_broken (break rest) h = outer_broken rest h
  outer_broken (continue rest) h = outer_broken rest h
  outer_broken (call n op f opening rest) h = outer_broken rest h.3
  outer_broken (ends n op rest) h = outer_broken rest h.1

  outer_continued : (c : Code ℕ) → Outer c → Outer (continued c)
  outer_continued done h = h
  outer_continued (perform n op rest) h = outer_continued rest h.1
  outer_continued (choose n op a b rest) h = outer_continued rest h.3
  outer_continued (while test body after rest) h = outer_continued rest h.3
  outer_continued (until body test rest) h = outer_continued rest h.2
  outer_continued (turn test body after rest) h = outer_append after (again test body after rest) h.2 h
  outer_continued (again test body after rest) h = outer_append after (again test body after rest) h.2 h
  outer_continued (quit n op rest) h = outer_continued rest h.1
  outer_continued (break rest) h = outer_continued rest h
  outer_continued (continue rest) h = outer_continued rest h
  outer_continued (call n op f opening rest) h = outer_continued rest h.3
  outer_continued (ends n op rest) h = outer_continued rest h.1

  outer_settled_turn : (c : Code ℕ) → Outer c → Outer (settled_turn c)
  outer_settled_turn (turn test body after rest) h = outer_append after (again test body after rest) h.2 h
  outer_settled_turn c h = h

  outer_opened : (c more : Code ℕ) → Outer c → Outer more → Outer (opened c more)
  outer_opened done more h g = outer_settled_turn more g
  outer_opened (perform n op rest) more h g = (h.0, outer_append rest more h.1 g)
  outer_opened (choose n op a b rest) more h g = (h.0, h.1, h.2, outer_append rest more h.3 g)
  outer_opened (while test body after rest) more h g = (h.0, h.1, h.2, outer_opened rest more h.3 g)
  outer_opened (until body test rest) more h g =
      outer_opened body (turn test body done (opened rest more)) h.0 (h.1, h.0, tt, outer_opened rest more h.2 g)
  outer_opened (turn test body after rest) more h g =
      outer_append after (again test body after (append rest more)) h.2 (h.0, h.1, h.2, outer_append rest more h.3 g)
  outer_opened (again test body after rest) more h g = (h.0, h.1, h.2, outer_append rest more h.3 g)
  outer_opened (quit n op rest) more h g = (h.0, outer_append rest more h.1 g)
  outer_opened (break rest) more h g = outer_broken (append rest more) (outer_append rest more h g)
  outer_opened (continue rest) more h g = outer_continued (append rest more) (outer_append rest more h g)
  outer_opened (call n op f opening rest) more h g = (h.0, h.1, h.2, outer_append rest more h.3 g)
  outer_opened (ends n op rest) more h g = (h.0, outer_append rest more h.1 g)

  outer_settled : (c : Code ℕ) → Outer c → Outer (settled c)
  outer_settled (while test body after rest) h = (h.0, h.1, h.2, outer_settled rest h.3)
  outer_settled (until body test rest) h = outer_opened body (turn test body done (settled rest)) h.0 (h.1, h.0, tt, outer_settled rest h.2)
  outer_settled (turn test body after rest) h = outer_append after (again test body after rest) h.2 h
  outer_settled (break rest) h = outer_broken rest h
  outer_settled (continue rest) h = outer_continued rest h
  outer_settled c h = h

  -- of a processor
  abbrev pub AllOuter : List (Code ℕ) → Type 0
  AllOuter [] = Unit {0}
  AllOuter (c ∷ cs) = Outer c × AllOuter cs

  abbrev pub OuterWork : Work → Type 0
  OuterWork w = Outer w.left × AllOuter w.callers

  pub goes : (c : Code ℕ) (cs : List (Code ℕ)) → Outer c → AllOuter cs → OuterWork (going c cs)
  goes c cs h g = (outer_settled c h, g)

  pub returns : (cs : List (Code ℕ)) → AllOuter cs → OuterWork (returned cs)
  returns [] g = (tt, tt)
  returns (c ∷ cs) g = goes c cs g.0 g.1

  -- a step that calls one of the two functions
  pub record CallsOf (body : Code ℕ) (s : Step Work) : Type 0 where
    pub enters : s.operation ≡ Enter 1
    pub callers : List (Code ℕ)
    pub outer : AllOuter callers
    pub goes_there : (onward : Bool) → s.rest onward ≡ record { left = body; callers = callers }

  pub data Leads (s : Step Work) : Type 0 where
    On : ((onward : Bool) → OuterWork (s.rest onward)) → Leads s
    Takes : CallsOf code_of_take s → Leads s
    Gives : CallsOf code_of_give s → Leads s

  abbrev pub Stepped : Option (Step Work) → Type 0
  Stepped None = Unit {0}
  Stepped (Some s) = (27 ≤ s.site) × Leads s

  pub record HasBodies (bodies : ℕ → Code ℕ) : Type 0 where
    pub takes : bodies take ≡ code_of_take
    pub gives : bodies give ≡ code_of_give
    pub others : (b : ℕ) → (b ≡ take → ⊥) → (b ≡ give → ⊥) → Outer (bodies b)

  module _ (bodies : ℕ → Code ℕ) (has : HasBodies bodies) where
    chosen : (a b rest : Code ℕ) (cs : List (Code ℕ)) → Outer a → Outer b → Outer rest → AllOuter cs → (onward : Bool) → OuterWork (going (append (if onward then a else b) rest) cs)
    chosen a b rest cs h g r k true = goes (append a rest) cs (outer_append a rest h r) k
    chosen a b rest cs h g r k false = goes (append b rest) cs (outer_append b rest g r) k

    left : (rest : Code ℕ) (cs : List (Code ℕ)) → Outer rest → AllOuter cs → (onward : Bool) → OuterWork (going (if onward then rest else broken rest) cs)
    left rest cs r k true = goes rest cs r k
    left rest cs r k false = goes (broken rest) cs (outer_broken rest r) k

    abbrev called : ℕ → Operation → ℕ → Code ℕ → Code ℕ → List (Code ℕ) → Step Work
    called n op f opening rest cs = record { operation = op; site = n; rest = λ onward. going (append opening (bodies f)) (rest ∷ cs) }

    begun : (opening own body : Code ℕ) → opening ≡ done → own ≡ body → settled body ≡ body → settled (append opening own) ≡ body
    begun opening own body none is same = ap (λ c. settled (append c own)) none ∙ ap settled is ∙ same

    calls : (n : ℕ) (op : Operation) (f : ℕ) (opening rest : Code ℕ) (cs : List (Code ℕ)) → CallFits op f opening → Outer opening → Outer rest → AllOuter cs
        → Leads (called n op f opening rest cs)
    calls n op f opening rest cs fits o r k =
        elim (cases_eq f take) [
          | inl is ↦
              let e = fits (inl is) in
              let b : bodies f ≡ code_of_take = ap bodies is ∙ has.takes in
              Takes (record {
                enters = e.0;
                callers = rest ∷ cs;
                outer = (r, k);
                goes_there = λ onward. ap (λ c. record { left = c; callers = rest ∷ cs }) (begun opening (bodies f) code_of_take e.1 b refl);
              })
          | inr not_take ↦
              elim (cases_eq f give) [
                | inl is ↦
                    let e = fits (inr is) in
                    let b : bodies f ≡ code_of_give = ap bodies is ∙ has.gives in
                    Gives (record {
                      enters = e.0;
                      callers = rest ∷ cs;
                      outer = (r, k);
                      goes_there = λ onward. ap (λ c. record { left = c; callers = rest ∷ cs }) (begun opening (bodies f) code_of_give e.1 b refl);
                    })
                | inr not_give ↦
                    On (λ onward. goes (append opening (bodies f)) (rest ∷ cs) (outer_append opening (bodies f) o (has.others f not_take not_give)) (r, k))
              ]
        ]

    steps : (c : Code ℕ) (cs : List (Code ℕ)) → Outer c → AllOuter cs → Stepped (step bodies c cs)
    steps (perform n op rest) cs h k = (h.0, On (λ onward. goes rest cs h.1 k))
    steps (choose n op a b rest) cs h k = (h.0, On (chosen a b rest cs h.1 h.2 h.3 k))
    steps (quit n op rest) cs h k = (h.0, On (left rest cs h.1 k))
    steps (call n op f opening rest) cs h k = (h.0, calls n op f opening rest cs h.1 h.2 h.3 k)
    steps (ends n op rest) cs h k = (h.0, On (λ onward. returns cs k))
    steps c cs h k = tt

    steps_of : (c : Code ℕ) (cs : List (Code ℕ)) → Outer c → AllOuter cs → Stepped (step_of bodies c cs)
    steps_of (again test body after rest) cs h k =
        let later = outer_append body (turn test body after rest) h.1 h in
        steps (append test (append body (turn test body after rest))) cs (outer_append test (append body (turn test body after rest)) h.0 later) k
    steps_of c cs h k = steps c cs h k

    pub is_stepped : (w : Work) → OuterWork w → Stepped (next bodies w)
    is_stepped w h = steps_of w.left w.callers h.0 h.1
