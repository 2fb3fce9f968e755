-- The operations of a list, and how many jumps stand among them.
use Rattle.std.proofs.Common.{◌≡◌, ℕ, suc, ◌+◌, ◌≤◌, Bool, true, false, List, [], ◌∷◌, ◌++◌, length, Some, None, ap, ap₂, ◌∙◌, refl, arith, length-append}
use Rattle.std.specs.Prelude.{◌||◌}
use Rattle.fk_meaning_operation.specs.Kinds.{kind_of}
use Rattle.fk_meaning_operation.specs.declared.operation.Operation.{Operation}
use Rattle.fk_meaning_forms.specs.Code.{Code, done, perform, choose, while, until, turn, again, quit, break, continue, call, ends, sites, numbered}
use Rattle.fk_meaning_forms.proofs.Ranks.{sites_are_ranks}
use Rattle.fk_core.specs.CodeAt.{Around}
use Rattle.fk_core_flat.specs.Items.{Item, jump, act, way_of, goes_away, aim, into, one_call, acts, jumps, calls}
use Rattle.fk_core_flat.specs.Flat.{begins_here, skip, gap, behind, label, flat}
use Rattle.fk_core_flat.specs.Shape.{IsOpening, IsShaped}
use Rattle.fk_core_flat.proofs.Parts.{choice_at, turns_at, rounds_at, entering_at}
use Rattle.fk_core_flat.proofs.CodeAt.{opening_is_shaped}
use Rattle.fk_core_flat.specs.Laws.{SitesGoUp, JumpsAreFew}

pub acts_both : (xs ys : List Item) → acts (xs ++ ys) ≡ acts xs ++ acts ys
acts_both [] ys = refl
acts_both (jump target ∷ xs) ys = acts_both xs ys
acts_both (act n op target ∷ xs) ys = ap (λ more. (kind_of op, n) ∷ more) (acts_both xs ys)

acts_skip : (here : Bool) (target : ℕ) → acts (skip here target) ≡ []
acts_skip true target = refl
acts_skip false target = refl

pub jumps_both : (xs ys : List Item) → jumps (xs ++ ys) ≡ jumps xs + jumps ys
jumps_both [] ys = omega arith
jumps_both (jump target ∷ xs) ys = let e = jumps_both xs ys in omega arith
jumps_both (act n op target ∷ xs) ys = jumps_both xs ys

pub calls_both : (xs ys : List Item) → calls (xs ++ ys) ≡ calls xs + calls ys
calls_both [] ys = omega arith
calls_both (jump target ∷ xs) ys = calls_both xs ys
calls_both (act n op target ∷ xs) ys = let e = calls_both xs ys in omega arith

two : (xs ys : List Item) (s t : List (ℕ × ℕ)) → acts xs ≡ s → acts ys ≡ t → acts (xs ++ ys) ≡ s ++ t
two xs ys s t a b = acts_both xs ys ∙ ap₂ (λ s t. s ++ t) a b

skipping : (here : Bool) (target : ℕ) (ys : List Item) (t : List (ℕ × ℕ)) → acts ys ≡ t → acts (skip here target ++ ys) ≡ t
skipping here target ys t b = acts_both (skip here target) ys ∙ ap (λ s. s ++ acts ys) (acts_skip here target) ∙ b

module _ (entry : ℕ → ℕ) where
  opening_acts : (code : Code ℕ) (near : Bool) (c : Around) (i k : ℕ) → IsOpening code → acts (flat entry near c i k code) ≡ sites code
  opening_acts done near c i k o = refl
  opening_acts (perform n op rest) near c i k o =
      let here = goes_away (way_of op) || begins_here near rest in
      let r = suc i + gap here in
      ap (λ more. (kind_of op, n) ∷ more) (skipping here (label c r k rest) (flat entry near c r k rest) (sites rest) (opening_acts rest near c r k o.1))
  opening_acts (choose n op x y rest) near c i k o = absurd o
  opening_acts (while t b s rest) near c i k o = absurd o
  opening_acts (until b t rest) near c i k o = absurd o
  opening_acts (turn t b s rest) near c i k o = absurd o
  opening_acts (again t b s rest) near c i k o = absurd o
  opening_acts (quit n op rest) near c i k o = absurd o
  opening_acts (break rest) near c i k o = absurd o
  opening_acts (continue rest) near c i k o = absurd o
  opening_acts (call n op f opening rest) near c i k o = absurd o
  opening_acts (ends n op rest) near c i k o = absurd o

  module _ (has_body : ℕ → Bool) where
    pub acts_are : (code : Code ℕ) (l : Bool) → IsShaped has_body l code → (near : Bool) (c : Around) (i k : ℕ) → acts (flat entry near c i k code) ≡ sites code
    acts_are done l p near c i k = refl
    acts_are (perform n op rest) l p near c i k =
        let here = goes_away (way_of op) || begins_here near rest in
        let r = suc i + gap here in
        ap (λ more. (kind_of op, n) ∷ more) (skipping here (label c r k rest) (flat entry near c r k rest) (sites rest) (acts_are rest l p.1 near c r k))
    acts_are (choose n op x y rest) l p near c i k =
        let q = choice_at entry x y rest near c i k in
        ap (λ more. (kind_of op, n) ∷ more)
        (two (q.jumps ++ q.firsts ++ q.seconds) q.others (sites x ++ sites y) (sites rest)
        (two (q.jumps ++ q.firsts) q.seconds (sites x) (sites y)
        (skipping q.here (label c q.first q.next x) q.firsts (sites x) (acts_are x l p.1 q.beside c q.first q.next))
        (acts_are y l p.2 q.after c q.second q.next))
        (acts_are rest l p.3 near c q.behind k))
    acts_are (while test body step rest) l p near c i k =
        let q = turns_at entry test body step rest near c i k in
        two (q.tests ++ q.bodies ++ q.lasts) q.others (sites test ++ sites body ++ sites step) (sites rest)
        (two (q.tests ++ q.bodies) q.lasts (sites test ++ sites body) (sites step)
        (two q.tests q.bodies (sites test) (sites body)
        (acts_are test true p.2 q.enters (Some q.loop) i q.enter) (acts_are body true p.3 q.steps (Some q.loop) q.body q.loop.onward))
        (acts_are step true p.4 false (Some q.loop) q.step i))
        (acts_are rest l p.5 near c q.behind k)
    acts_are (until body test rest) l p near c i k =
        let q = rounds_at entry body test rest near c i k in
        two (q.bodies ++ q.tests) q.others (sites body ++ sites test) (sites rest)
        (two q.bodies q.tests (sites body) (sites test)
        (acts_are body true p.1 true (Some q.loop) i q.test) (acts_are test true p.2 false (Some q.loop) q.test q.enter))
        (acts_are rest l p.3 near c q.behind k)
    acts_are (turn t b s rest) l p near c i k = absurd p
    acts_are (again t b s rest) l p near c i k = absurd p
    acts_are (quit n op rest) l p near c i k =
        let here = begins_here near rest in
        let r = suc i + gap here in
        ap (λ more. (kind_of op, n) ∷ more) (skipping here (label c r k rest) (flat entry near c r k rest) (sites rest) (acts_are rest l p.2 near c r k))
    acts_are (break rest) l p near c i k = acts_are rest l p.1 near c i k
    acts_are (continue rest) l p near c i k = acts_are rest l p.1 near c i k
    acts_are (call n op f opening rest) l p near c i k =
        let q = entering_at entry f opening rest near c i k in
        ap (λ more. (kind_of op, n) ∷ more)
        (acts_both (q.openings ++ q.jumps) q.others
        ∙ ap₂ (λ s t. s ++ t)
        (acts_both q.openings q.jumps ∙ ap (λ s. acts q.openings ++ s) (acts_skip q.here q.next) ∙ nothing_behind (acts q.openings)
        ∙ opening_acts opening true None (suc i) q.back p.2)
        (acts_are rest l p.3 near c q.behind k))
      where
        nothing_behind : (s : List (ℕ × ℕ)) → s ++ [] ≡ s
        nothing_behind [] = refl
        nothing_behind (x ∷ s) = ap (λ s. x ∷ s) (nothing_behind s)
    acts_are (ends n op rest) l p near c i k = ap (λ more. (kind_of op, n) ∷ more) (acts_are rest l p.1 near c (suc i) k)

  -- jumps, operations and calls
  Few : List Item → Type 0
  Few items = jumps items ≤ length (acts items) + calls items

  few_both : (xs ys : List Item) → Few xs → Few ys → Few (xs ++ ys)
  unfolding Few
  few_both xs ys a b =
      let j = jumps_both xs ys in let c = calls_both xs ys in
      let l : length (acts (xs ++ ys)) ≡ length (acts xs) + length (acts ys) = ap (λ s. length s) (acts_both xs ys) ∙ length-append (acts xs) (acts ys) in
      omega arith

  few_none : Few []
  unfolding Few
  few_none = omega arith

  few_skip : (n : ℕ) (op : Operation) (here : Bool) (t target : ℕ) → Few (act n op t ∷ skip here target)
  unfolding Few
  few_skip n op true t target = omega arith
  few_skip n op false t target = omega arith

  few_call : (n : ℕ) (op : Operation) (t f : ℕ) (items : List Item) (here : Bool) (target : ℕ) → way_of op ≡ into → Few items
      → Few (act n op t ∷ items ++ jump f ∷ skip here target)
  unfolding Few
  few_call n op t f items here target is few =
      let c : one_call (way_of op) ≡ 1 = ap one_call is in
      let behind = jump f ∷ skip here target in
      let s : jumps (skip here target) ≤ 1 = one here in
      let j = jumps_both items behind in let d = calls_both items behind in
      let l : length (acts (items ++ behind)) ≡ length (acts items) + length (acts behind) = ap (λ s. length s) (acts_both items behind) ∙ length-append (acts items) (acts behind) in
      omega arith
    where
      one : (here : Bool) → jumps (skip here target) ≤ 1
      one true = omega arith
      one false = omega arith

  module _ (has_body : ℕ → Bool) where
    few : (code : Code ℕ) (l : Bool) → IsShaped has_body l code → (near : Bool) (c : Around) (i k : ℕ) → Few (flat entry near c i k code)
    few done l p near c i k = few_none
    few (perform n op rest) l p near c i k =
        let here = goes_away (way_of op) || begins_here near rest in
        let r = suc i + gap here in
        let m = label c r k rest in
        few_both (act n op (aim (way_of op) k) ∷ skip here m) (flat entry near c r k rest) (few_skip n op here (aim (way_of op) k) m) (few rest l p.1 near c r k)
    few (choose n op x y rest) l p near c i k =
        let q = choice_at entry x y rest near c i k in
        let t = label c q.second q.next y in
        let s = act n op t ∷ q.jumps in
        few_both (s ++ q.firsts ++ q.seconds) q.others
        (few_both (s ++ q.firsts) q.seconds
        (few_both s q.firsts (few_skip n op q.here t (label c q.first q.next x)) (few x l p.1 q.beside c q.first q.next))
        (few y l p.2 q.after c q.second q.next))
        (few rest l p.3 near c q.behind k)
    few (while test body step rest) l p near c i k =
        let q = turns_at entry test body step rest near c i k in
        few_both (q.tests ++ q.bodies ++ q.lasts) q.others
        (few_both (q.tests ++ q.bodies) q.lasts
        (few_both q.tests q.bodies
        (few test true p.2 q.enters (Some q.loop) i q.enter) (few body true p.3 q.steps (Some q.loop) q.body q.loop.onward))
        (few step true p.4 false (Some q.loop) q.step i))
        (few rest l p.5 near c q.behind k)
    few (until body test rest) l p near c i k =
        let q = rounds_at entry body test rest near c i k in
        few_both (q.bodies ++ q.tests) q.others
        (few_both q.bodies q.tests (few body true p.1 true (Some q.loop) i q.test) (few test true p.2 false (Some q.loop) q.test q.enter))
        (few rest l p.3 near c q.behind k)
    few (turn t b s rest) l p near c i k = absurd p
    few (again t b s rest) l p near c i k = absurd p
    few (quit n op rest) l p near c i k =
        let here = begins_here near rest in
        let r = suc i + gap here in
        let m = label c r k rest in
        few_both (act n op (behind c) ∷ skip here m) (flat entry near c r k rest) (few_skip n op here (behind c) m) (few rest l p.2 near c r k)
    few (break rest) l p near c i k = few rest l p.1 near c i k
    few (continue rest) l p near c i k = few rest l p.1 near c i k
    few (call n op f opening rest) l p near c i k =
        let q = entering_at entry f opening rest near c i k in
        few_both (act n op (entry f) ∷ q.openings ++ q.jumps) q.others
        (few_call n op (entry f) (entry f) q.openings q.here q.next p.0
        (few opening false (opening_is_shaped has_body opening p.2) true None (suc i) q.back))
        (few rest l p.3 near c q.behind k)
    few (ends n op rest) l p near c i k =
        few_both (act n op 0 ∷ []) (flat entry near c (suc i) k rest) (few_skip n op true 0 0) (few rest l p.1 near c (suc i) k)

  pub jumps_few : (code : Code ℕ) (has_body : ℕ → Bool) (l : Bool) → IsShaped has_body l code → (near : Bool) (c : Around) (i k : ℕ)
      → let items = flat entry near c i k code in jumps items ≤ length (acts items) + calls items
  unfolding Few
  jumps_few code has_body l p near c i k = few has_body code l p near c i k

pub sites_go_up : (A : Type 0) → SitesGoUp A
sites_go_up A code first has_body l p entry near c i k =
    acts_are entry has_body (numbered first code) l p near c i k ∙ sites_are_ranks A first code

pub jumps_are_few : JumpsAreFew
jumps_are_few code has_body l p entry near c i k = jumps_few entry code has_body l p near c i k
