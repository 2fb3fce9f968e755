-- Code all of whose operations have their sites, and what a run makes of it.
use Rattle.std.proofs.Common.{◌≡◌, ℕ, Bool, true, false, List, [], ◌∷◌, Option, Some, None, subst}
use Rattle.std.specs.Prelude.{if◌then◌else◌}
use Rattle.fk_meaning_operation.specs.declared.operation.Operation.{Operation}
use Rattle.fk_meaning.specs.Round.{Step}
use Rattle.fk_meaning_forms.specs.Code.{Code, done, perform, choose, while, until, turn, again, quit, break, continue, call, ends, append}
use Rattle.fk_meaning.specs.Left.{broken, continued, settled_turn, opened, settled}
use Rattle.fk_meaning.specs.Next.{Work, going, returned, step, step_of, next}
use Rattle.fk_meaning.specs.Sites.{rest_of, after_ways}

module _ (P : ℕ → Operation → Type 0) where
  abbrev pub All : Code ℕ → Type 0
  All done = Unit {0}
  All (perform n op rest) = P n op × All rest
  All (choose n op a b rest) = P n op × All a × All b × All rest
  All (while test body after rest) = All test × All body × All after × All rest
  All (until body test rest) = All body × All test × All rest
  All (turn test body after rest) = All test × All body × All after × All rest
  All (again test body after rest) = All test × All body × All after × All rest
  All (quit n op rest) = P n op × All rest
  All (break rest) = All rest
  All (continue rest) = All rest
  All (call n op f opening rest) = P n op × All opening × All rest
  All (ends n op rest) = P n op × All rest

  all_append : (c d : Code ℕ) → All c → All d → All (append c d)
  all_append done d h g = g
  all_append (perform n op rest) d h g = (h.0, all_append rest d h.1 g)
  all_append (choose n op a b rest) d h g = (h.0, h.1, h.2, all_append rest d h.3 g)
  all_append (while test body after rest) d h g = (h.0, h.1, h.2, all_append rest d h.3 g)
  all_append (until body test rest) d h g = (h.0, h.1, all_append rest d h.2 g)
  all_append (turn test body after rest) d h g = (h.0, h.1, h.2, all_append rest d h.3 g)
  all_append (again test body after rest) d h g = (h.0, h.1, h.2, all_append rest d h.3 g)
  all_append (quit n op rest) d h g = (h.0, all_append rest d h.1 g)
  all_append (break rest) d h g = all_append rest d h g
  all_append (continue rest) d h g = all_append rest d h g
  all_append (call n op f opening rest) d h g = (h.0, h.1, all_append rest d h.2 g)
  all_append (ends n op rest) d h g = (h.0, all_append rest d h.1 g)

  all_broken : (c : Code ℕ) → All c → All (broken c)
  all_broken done h = h
  all_broken (perform n op rest) h = all_broken rest h.1
  all_broken (choose n op a b rest) h = all_broken rest h.3
  all_broken (while test body after rest) h = all_broken rest h.3
  all_broken (until body test rest) h = all_broken rest h.2
  all_broken (turn test body after rest) h = h.3
  all_broken (again test body after rest) h = h.3
  all_broken (quit n op rest) h = all_broken rest h.1
  all_broken (break rest) h = all_broken rest h
  all_broken (continue rest) h = all_broken rest h
  all_broken (call n op f opening rest) h = all_broken rest h.2
  all_broken (ends n op rest) h = all_broken rest h.1

  all_continued : (c : Code ℕ) → All c → All (continued c)
  all_continued done h = h
  all_continued (perform n op rest) h = all_continued rest h.1
  all_continued (choose n op a b rest) h = all_continued rest h.3
  all_continued (while test body after rest) h = all_continued rest h.3
  all_continued (until body test rest) h = all_continued rest h.2
  all_continued (turn test body after rest) h = all_append after (again test body after rest) h.2 h
  all_continued (again test body after rest) h = all_append after (again test body after rest) h.2 h
  all_continued (quit n op rest) h = all_continued rest h.1
  all_continued (break rest) h = all_continued rest h
  all_continued (continue rest) h = all_continued rest h
  all_continued (call n op f opening rest) h = all_continued rest h.2
  all_continued (ends n op rest) h = all_continued rest h.1

  all_settled_turn : (c : Code ℕ) → All c → All (settled_turn c)
  all_settled_turn (turn test body after rest) h = all_append after (again test body after rest) h.2 h
  all_settled_turn c h = h

  all_opened : (c more : Code ℕ) → All c → All more → All (opened c more)
  all_opened done more h g = all_settled_turn more g
  all_opened (perform n op rest) more h g = (h.0, all_append rest more h.1 g)
  all_opened (choose n op a b rest) more h g = (h.0, h.1, h.2, all_append rest more h.3 g)
  all_opened (while test body after rest) more h g = (h.0, h.1, h.2, all_opened rest more h.3 g)
  all_opened (until body test rest) more h g =
      all_opened body (turn test body done (opened rest more)) h.0 (h.1, h.0, tt, all_opened rest more h.2 g)
  all_opened (turn test body after rest) more h g =
      all_append after (again test body after (append rest more)) h.2 (h.0, h.1, h.2, all_append rest more h.3 g)
  all_opened (again test body after rest) more h g = (h.0, h.1, h.2, all_append rest more h.3 g)
  all_opened (quit n op rest) more h g = (h.0, all_append rest more h.1 g)
  all_opened (break rest) more h g = all_broken (append rest more) (all_append rest more h g)
  all_opened (continue rest) more h g = all_continued (append rest more) (all_append rest more h g)
  all_opened (call n op f opening rest) more h g = (h.0, h.1, all_append rest more h.2 g)
  all_opened (ends n op rest) more h g = (h.0, all_append rest more h.1 g)

  all_settled : (c : Code ℕ) → All c → All (settled c)
  all_settled (while test body after rest) h = (h.0, h.1, h.2, all_settled rest h.3)
  all_settled (until body test rest) h = all_opened body (turn test body done (settled rest)) h.0 (h.1, h.0, tt, all_settled rest h.2)
  all_settled (turn test body after rest) h = all_append after (again test body after rest) h.2 h
  all_settled (break rest) h = all_broken rest h
  all_settled (continue rest) h = all_continued rest h
  all_settled c h = h

  -- of a processor
  abbrev AllOf : List (Code ℕ) → Type 0
  AllOf [] = Unit {0}
  AllOf (c ∷ cs) = All c × AllOf cs

  abbrev pub Sited : Work → Type 0
  Sited w = All w.left × AllOf w.callers

  pub goes : (c : Code ℕ) (cs : List (Code ℕ)) → All c → AllOf cs → Sited (going c cs)
  goes c cs h g = (all_settled c h, g)

  returns : (cs : List (Code ℕ)) → AllOf cs → Sited (returned cs)
  returns [] g = (tt, tt)
  returns (c ∷ cs) g = goes c cs g.0 g.1

  -- a step has its site, and leaves code that has them
  abbrev Stepped : Option (Step Work) → Type 0
  Stepped None = Unit {0}
  Stepped (Some s) = P s.site s.operation × ((onward : Bool) → Sited (s.rest onward))

  module _ (bodies : ℕ → Code ℕ) (all_bodies : (b : ℕ) → All (bodies b)) where
    chosen : (a b rest : Code ℕ) (cs : List (Code ℕ)) → All a → All b → All rest → AllOf cs → (onward : Bool) → Sited (going (append (if onward then a else b) rest) cs)
    chosen a b rest cs h g r k true = goes (append a rest) cs (all_append a rest h r) k
    chosen a b rest cs h g r k false = goes (append b rest) cs (all_append b rest g r) k

    left : (rest : Code ℕ) (cs : List (Code ℕ)) → All rest → AllOf cs → (onward : Bool) → Sited (going (if onward then rest else broken rest) cs)
    left rest cs r k true = goes rest cs r k
    left rest cs r k false = goes (broken rest) cs (all_broken rest r) k

    steps : (c : Code ℕ) (cs : List (Code ℕ)) → All c → AllOf cs → Stepped (step bodies c cs)
    steps (perform n op rest) cs h k = (h.0, λ onward. goes rest cs h.1 k)
    steps (choose n op a b rest) cs h k = (h.0, chosen a b rest cs h.1 h.2 h.3 k)
    steps (quit n op rest) cs h k = (h.0, left rest cs h.1 k)
    steps (call n op f opening rest) cs h k =
        (h.0, λ onward. goes (append opening (bodies f)) (rest ∷ cs) (all_append opening (bodies f) h.1 (all_bodies f)) (h.2, k))
    steps (ends n op rest) cs h k = (h.0, λ onward. returns cs k)
    steps c cs h k = tt

    steps_of : (c : Code ℕ) (cs : List (Code ℕ)) → All c → AllOf cs → Stepped (step_of bodies c cs)
    steps_of (again test body after rest) cs h k =
        let later = all_append body (turn test body after rest) h.1 h in
        steps (append test (append body (turn test body after rest))) cs (all_append test (append body (turn test body after rest)) h.0 later) k
    steps_of c cs h k = steps c cs h k

    pub is_stepped : (w : Work) → Sited w → Stepped (next bodies w)
    is_stepped w h = steps_of w.left w.callers h.0 h.1

    rest_sited : (w : Work) (onward : Bool) → Sited w → (s : Option (Step Work)) → Stepped s → Sited (rest_of w onward s)
    rest_sited w onward h None g = h
    rest_sited w onward h (Some s) g = g.1 onward

    pub stays_sited : (ways : List Bool) (w : Work) → Sited w → Sited (after_ways (next bodies) ways w)
    stays_sited [] w h = h
    stays_sited (onward ∷ ways) w h =
        stays_sited ways (rest_of w onward (next bodies w)) (rest_sited w onward h (next bodies w) (is_stepped w h))

    site_of : (s : Option (Step Work)) (t : Step Work) → s ≡ Some t → Stepped s → P t.site t.operation
    site_of None t e h = absurd (cc)
    site_of (Some s) t e h = let same : s ≡ t = cc in subst (λ (u : Step Work). P u.site u.operation) same h.0

    pub next_sited : (ways : List Bool) (w : Work) (t : Step Work) → Sited w → next bodies (after_ways (next bodies) ways w) ≡ Some t → P t.site t.operation
    next_sited ways w t h e =
        let w' = after_ways (next bodies) ways w in
        site_of (next bodies w') t e (is_stepped w' (stays_sited ways w h))
