-- Code of a text before other code: what is left behind it.
use Rattle.std.proofs.Common.{◌≡◌, Bool, true, false, true≢false, List, [], ◌∷◌, ap, ◌∙◌, sym, refl}
use Rattle.fk_meaning_operation.specs.declared.operation.Operation.{Operation}
use Rattle.fk_meaning_operation.specs.declared.operation.Operation.TheVariants as o
use Rattle.fk_meaning_forms.specs.Code.{Code, done, perform, choose, while, until, turn, again, quit, break, continue, call, ends, append}
use Rattle.fk_meaning.specs.Left.{broken, continued, settled}
use Rattle.fk_meaning.specs.Behind.{opens_body, shrinks, grown, fallen, past}
use Rattle.fk_meaning.specs.Shape.{Exits, of_test, ends_part, begins, meets, Either, Shape}

pub untrue : {A : Type 0} → false ≡ true → A
untrue e = absurd (true≢false (sym e))

pub both_ways : {A : Type 0} (b : Bool) → b ≡ true → b ≡ false → A
both_ways true e f = absurd (true≢false f)
both_ways false e f = untrue e

pub by_either : (b : Bool) (E G T : Type 0) → Either b E G → (E → T) → (G → T) → T
by_either true E G T h f g = f h
by_either false E G T h f g = g h

unfallen : {X : Type 0} (b : Bool) (xs : List X) → b ≡ false → fallen b xs ≡ xs
unfallen true xs e = absurd (true≢false e)
unfallen false xs e = refl

felled : {X : Type 0} (b : Bool) (x : X) (xs : List X) → b ≡ true → fallen b (x ∷ xs) ≡ xs
felled true x xs e = refl
felled false x xs e = untrue e

not_grown : {X : Type 0} (b : Bool) (x : X) (xs : List X) → b ≡ false → xs ≡ grown b x xs
not_grown true x xs e = absurd (true≢false e)
not_grown false x xs e = refl

is_grown : {X : Type 0} (b : Bool) (x : X) (xs : List X) → b ≡ true → (x ∷ xs) ≡ grown b x xs
is_grown true x xs e = refl
is_grown false x xs e = untrue e

module _ {A : Type 0} where
  -- a test is known by what ends it
  pub shrinks_is : (part closing : Bool) (x : Exits) (code : Code A) → Shape part closing x code → x.tests ≡ true → shrinks code ≡ x.shrinking
  shrinks_is part closing x done h is = both_ways x.tests is h.2
  shrinks_is part closing x (perform t op rest) h is =
      by_either (ends_part op) _ _ _ h.2 (λ e. both_ways x.tests is e.1) (λ g. shrinks_is part false x rest g is)
  shrinks_is part closing x (choose t op a b rest) h is = shrinks_is part (opens_body op) x rest h.6 is
  shrinks_is part closing x (while test body step rest) h is =
      by_either h.1 _ _ _ h.5 (λ e. both_ways x.tests is e.1) (λ g. shrinks_is part false x rest g is)
  shrinks_is part closing x (until body test rest) h is =
      by_either h.1 _ _ _ h.4 (λ e. both_ways x.tests is e.1) (λ g. shrinks_is part false x rest g is)
  shrinks_is part closing x (turn test body step rest) h is = absurd h
  shrinks_is part closing x (again test body step rest) h is = absurd h
  shrinks_is part closing x (quit t op rest) h is = h.4
  shrinks_is part closing x (break rest) h is = shrinks_is part false x rest h.2 is
  shrinks_is part closing x (continue rest) h is = shrinks_is part false x rest h.2 is
  shrinks_is part closing x (call t op f opening rest) h is = shrinks_is part false x rest h.3 is
  shrinks_is part closing x (ends t op rest) h is = shrinks_is part false x rest h.3 is

  pub test_is : (shrinking : Bool) (test : Code A) → Shape false false (of_test shrinking) test → shrinks test ≡ shrinking
  test_is shrinking test h = shrinks_is false false (of_test shrinking) test h refl

  -- what stands behind code of a part, and behind other code
  performs : (part closing : Bool) (x : Exits) (t : A) (op : Operation) (rest d : Code A) → Shape part closing x (perform t op rest)
      → (Shape part false x rest → past (append rest d) ≡ grown part (settled d) (past d))
      → fallen closing (past (append (perform t op rest) d)) ≡ grown part (settled d) (past d)
  performs part closing x t o.End rest d h more =
      unfallen closing (settled (append rest d) ∷ past (append rest d)) (sym h.0)
      ∙ ap (λ (r : Code A). settled (append r d) ∷ past (append r d)) h.2.2
      ∙ is_grown part (settled d) (past d) h.2.0
  performs part closing x t (o.Meet true) rest d h more =
      felled closing (perform t (o.Meet true) (append rest d)) (past (append rest d)) (sym h.0) ∙ more h.2
  performs part closing x t op rest d h more = unfallen closing (past (append rest d)) (sym h.0) ∙ more h.2

  loops : (part : Bool) (x : Exits) (b shrinking : Bool) (rest d : Code A) → b ≡ shrinking
      → Either shrinking ((part ≡ true) × (x.tests ≡ false) × (rest ≡ done)) (Shape part false x rest)
      → (Shape part false x rest → past (append rest d) ≡ grown part (settled d) (past d))
      → grown b (settled (append rest d)) (past (append rest d)) ≡ grown part (settled d) (past d)
  loops part x true true rest d e h more =
      ap (λ (r : Code A). settled (append r d) ∷ past (append r d)) h.2 ∙ is_grown part (settled d) (past d) h.0
  loops part x false false rest d e h more = more h
  loops part x true false rest d e h more = absurd (true≢false e)
  loops part x false true rest d e h more = untrue e

  pub past_append : (part closing : Bool) (x : Exits) (code d : Code A) → Shape part closing x code
      → fallen closing (past (append code d)) ≡ grown part (settled d) (past d)
  past_append part closing x done d h = unfallen closing (past d) h.0 ∙ not_grown part (settled d) (past d) h.1
  past_append part closing x (perform t op rest) d h = performs part closing x t op rest d h (past_append part false x rest d)
  past_append part closing x (choose t op a b rest) d h =
      unfallen closing (fallen (opens_body op) (past (append rest d))) h.0 ∙ past_append part (opens_body op) x rest d h.6
  past_append part closing x (while test body step rest) d h =
      unfallen closing (grown (shrinks test) (settled (append rest d)) (past (append rest d))) h.0
      ∙ loops part x (shrinks test) h.1 rest d (test_is h.1 test h.2) h.5 (past_append part false x rest d)
  past_append part closing x (until body test rest) d h =
      unfallen closing (grown (shrinks test) (settled (append rest d)) (past (append rest d))) h.0
      ∙ loops part x (shrinks test) h.1 rest d (test_is h.1 test h.2) h.4 (past_append part false x rest d)
  past_append part closing x (turn test body step rest) d h = absurd h
  past_append part closing x (again test body step rest) d h = absurd h
  past_append part closing x (quit t op rest) d h =
      unfallen closing (past (append rest d)) h.0 ∙ ap (λ (r : Code A). past (append r d)) h.5 ∙ not_grown part (settled d) (past d) h.2
  past_append part closing x (break rest) d h = unfallen closing (past (append rest d)) h.0 ∙ past_append part false x rest d h.2
  past_append part closing x (continue rest) d h = unfallen closing (past (append rest d)) h.0 ∙ past_append part false x rest d h.2
  past_append part closing x (call t op f opening rest) d h = unfallen closing (past (append rest d)) h.0 ∙ past_append part false x rest d h.3
  past_append part closing x (ends t op rest) d h = unfallen closing (past (append rest d)) h.0 ∙ past_append part false x rest d h.3

  -- and its loops lead on to those of what stands behind it
  pub broken_append : (part closing : Bool) (x : Exits) (code d : Code A) → Shape part closing x code → broken (append code d) ≡ broken d
  broken_append part closing x done d h = refl
  broken_append part closing x (perform t op rest) d h =
      by_either (ends_part op) _ _ _ h.2 (λ e. ap (λ (r : Code A). broken (append r d)) e.2) (λ g. broken_append part false x rest d g)
  broken_append part closing x (choose t op a b rest) d h = broken_append part (opens_body op) x rest d h.6
  broken_append part closing x (while test body step rest) d h =
      by_either h.1 _ _ _ h.5 (λ e. ap (λ (r : Code A). broken (append r d)) e.2) (λ g. broken_append part false x rest d g)
  broken_append part closing x (until body test rest) d h =
      by_either h.1 _ _ _ h.4 (λ e. ap (λ (r : Code A). broken (append r d)) e.2) (λ g. broken_append part false x rest d g)
  broken_append part closing x (turn test body step rest) d h = absurd h
  broken_append part closing x (again test body step rest) d h = absurd h
  broken_append part closing x (quit t op rest) d h = ap (λ (r : Code A). broken (append r d)) h.5
  broken_append part closing x (break rest) d h = broken_append part false x rest d h.2
  broken_append part closing x (continue rest) d h = broken_append part false x rest d h.2
  broken_append part closing x (call t op f opening rest) d h = broken_append part false x rest d h.3
  broken_append part closing x (ends t op rest) d h = broken_append part false x rest d h.3

  pub continued_append : (part closing : Bool) (x : Exits) (code d : Code A) → Shape part closing x code → continued (append code d) ≡ continued d
  continued_append part closing x done d h = refl
  continued_append part closing x (perform t op rest) d h =
      by_either (ends_part op) _ _ _ h.2 (λ e. ap (λ (r : Code A). continued (append r d)) e.2) (λ g. continued_append part false x rest d g)
  continued_append part closing x (choose t op a b rest) d h = continued_append part (opens_body op) x rest d h.6
  continued_append part closing x (while test body step rest) d h =
      by_either h.1 _ _ _ h.5 (λ e. ap (λ (r : Code A). continued (append r d)) e.2) (λ g. continued_append part false x rest d g)
  continued_append part closing x (until body test rest) d h =
      by_either h.1 _ _ _ h.4 (λ e. ap (λ (r : Code A). continued (append r d)) e.2) (λ g. continued_append part false x rest d g)
  continued_append part closing x (turn test body step rest) d h = absurd h
  continued_append part closing x (again test body step rest) d h = absurd h
  continued_append part closing x (quit t op rest) d h = ap (λ (r : Code A). continued (append r d)) h.5
  continued_append part closing x (break rest) d h = continued_append part false x rest d h.2
  continued_append part closing x (continue rest) d h = continued_append part false x rest d h.2
  continued_append part closing x (call t op f opening rest) d h = continued_append part false x rest d h.3
  continued_append part closing x (ends t op rest) d h = continued_append part false x rest d h.3

  pub append_done : (code : Code A) → append code done ≡ code
  append_done done = refl
  append_done (perform t op rest) = ap (λ (r : Code A). perform t op r) (append_done rest)
  append_done (choose t op a b rest) = ap (λ (r : Code A). choose t op a b r) (append_done rest)
  append_done (while test body step rest) = ap (λ (r : Code A). while test body step r) (append_done rest)
  append_done (until body test rest) = ap (λ (r : Code A). until body test r) (append_done rest)
  append_done (turn test body step rest) = ap (λ (r : Code A). turn test body step r) (append_done rest)
  append_done (again test body step rest) = ap (λ (r : Code A). again test body step r) (append_done rest)
  append_done (quit t op rest) = ap (λ (r : Code A). quit t op r) (append_done rest)
  append_done (break rest) = ap (λ (r : Code A). break r) (append_done rest)
  append_done (continue rest) = ap (λ (r : Code A). continue r) (append_done rest)
  append_done (call t op f opening rest) = ap (λ (r : Code A). call t op f opening r) (append_done rest)
  append_done (ends t op rest) = ap (λ (r : Code A). ends t op r) (append_done rest)

  pub past_none : (x : Exits) (code : Code A) → Shape false false x code → past code ≡ []
  past_none x code h = ap past (sym (append_done code)) ∙ past_append false false x code done h

  -- a meeting stands first where it must, and never in a test
  pub meets_append : (part : Bool) (x : Exits) (code d : Code A) → Shape part true x code → meets (append code d) ≡ true
  meets_append part x done d h = absurd (true≢false h.0)
  meets_append part x (perform t op rest) d h = h.0
  meets_append part x (choose t op a b rest) d h = absurd (true≢false h.0)
  meets_append part x (while test body step rest) d h = absurd (true≢false h.0)
  meets_append part x (until body test rest) d h = absurd (true≢false h.0)
  meets_append part x (turn test body step rest) d h = absurd h
  meets_append part x (again test body step rest) d h = absurd h
  meets_append part x (quit t op rest) d h = absurd (true≢false h.0)
  meets_append part x (break rest) d h = absurd (true≢false h.0)
  meets_append part x (continue rest) d h = absurd (true≢false h.0)
  meets_append part x (call t op f opening rest) d h = absurd (true≢false h.0)
  meets_append part x (ends t op rest) d h = absurd (true≢false h.0)

  pub test_meets : (x : Exits) (code d : Code A) → Shape false false x code → x.tests ≡ true → meets (append code d) ≡ false
  test_meets x done d h is = both_ways x.tests is h.2
  test_meets x (perform t op rest) d h is = h.0
  test_meets x (turn test body step rest) d h is = absurd h
  test_meets x (again test body step rest) d h is = absurd h
  test_meets x code d h is = refl

  pub begins_settled : (code : Code A) → begins code ≡ true → settled code ≡ code
  begins_settled (perform t op rest) e = refl
  begins_settled code e = untrue e
