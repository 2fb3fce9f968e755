-- What a walk over indices leaves of each visitor.
use Rattle.std.proofs.Common.{◌≡◌, ◌≢◌, ℕ, suc, ◌+◌, ◌-◌, ◌^◌, ◌<◌, ◌≤◌, ◌&&◌, ◌↔◌, Bool, true, false, cond, min, List, [], ◌∷◌, fold, nat_eq, leb, ltb, refl, sym, arith, get_or}
use Rattle.std.specs.List.{All, AllPairs}
use Rattle.std.proofs.lemmas.Bool.{ltb-true, lt-ltb, leb-true, le-leb}
use Rattle.std.proofs.lemmas.List.Elements.{All-cons, All-head, All-tail, All-nil, All-weaker}
use Rattle.std.proofs.lemmas.List.Kept.{AllPairs-cons}
use Rattle.std.proofs.lemmas.List.Sums.{sum_by-cons}
use Rattle.fk_syntax.specs.declared.nodes.Index.{Index}
use Rattle.fk_syntax.specs.declared.nodes.Index.TheVariants.{Node, StructName}
use Rattle.fk_syntax_well_formed.specs.declared.visitors.Bound.{Bound}
use Rattle.fk_syntax_well_formed.specs.declared.visitors.Rising.{Rising}
use Rattle.fk_syntax_well_formed.specs.declared.visitors.Tally.{Tally}
use Rattle.fk_syntax_well_formed.specs.declared.visitors.Distinct.{Distinct}
use Rattle.fk_syntax.specs.Nodes.{items_indices}
use Rattle.fk_syntax.specs.ProgramView.{program_of}
use Rattle.fk_syntax.specs.WellFormed.{nodes, token}
use Rattle.fk_syntax_well_formed.specs.Visits.{times_of, bound_after, rising_after, tally_after, distinct_after}

abbrev pub Differ : ℕ → ℕ → Type 0
Differ x y = x ≢ y

abbrev pub Less : ℕ → ℕ → Type 0
Less x y = x < y

both_hold : (a b : Bool) → (a && b) ≡ true → (a ≡ true) × (b ≡ true)
both_hold true true h = (refl, refl)
both_hold true false h = absurd (let impossible : false ≡ true = h in cc)
both_hold false b h = absurd (let impossible : false ≡ true = h in cc)

hold_both : (a b : Bool) → a ≡ true → b ≡ true → (a && b) ≡ true
hold_both true true p q = refl
hold_both true false p q = absurd (let impossible : false ≡ true = q in cc)
hold_both false b p q = absurd (let impossible : false ≡ true = p in cc)

AllPairs-nil : {X : Type 0} (R : X → X → Type 0) → AllPairs R []
AllPairs-nil R = λ i j d before within. absurd (omega arith)

AllPairs-tail : {X : Type 0} (R : X → X → Type 0) (x : X) (xs : List X) → AllPairs R (x ∷ xs) → AllPairs R xs
AllPairs-tail R x xs h = λ i j d before within. h (suc i) (suc j) d (omega arith) (omega arith)

AllPairs-head : {X : Type 0} (R : X → X → Type 0) (x : X) (xs : List X) → AllPairs R (x ∷ xs) → All (R x) xs
AllPairs-head R x xs h = λ k d within. h 0 (suc k) d (omega arith) (omega arith)

All-both : {X : Type 0} (P Q R : X → Type 0) → ((x : X) → P x → Q x → R x) → (xs : List X) → All P xs → All Q xs → All R xs
All-both P Q R joins xs p q = λ k d within. joins (get_or xs k d) (p k d within) (q k d within)

-- ---- all below a bound

abbrev IsBelow : ℕ → Index → Type 0
IsBelow tokens index = token index < tokens

bound_tells : (bound : Bound) (xs : List Index) → (fold bound_after bound xs).holds ≡ true → (bound.holds ≡ true) × All (IsBelow bound.tokens) xs
bound_tells bound [] h = (h, All-nil (IsBelow bound.tokens))
bound_tells bound (x ∷ xs) h =
    let rest = bound_tells (bound_after bound x) xs h in
    let two = both_hold bound.holds (ltb (token x) bound.tokens) rest.0 in
    (two.0, All-cons (IsBelow bound.tokens) x xs (ltb-true (token x) bound.tokens two.1) rest.1)

bound_holds : (bound : Bound) (xs : List Index) → bound.holds ≡ true → All (IsBelow bound.tokens) xs → (fold bound_after bound xs).holds ≡ true
bound_holds bound [] h all = h
bound_holds bound (x ∷ xs) h all =
    let below = lt-ltb (token x) bound.tokens (All-head (IsBelow bound.tokens) x xs all) in
    bound_holds (bound_after bound x) xs (hold_both bound.holds (ltb (token x) bound.tokens) h below) (All-tail (IsBelow bound.tokens) x xs all)

pub bound_is : (tokens : ℕ) (xs : List Index) → ((fold bound_after (record { tokens = tokens; holds = true }) xs).holds ≡ true) ↔ All (λ index. token index < tokens) xs
bound_is tokens xs = (
  λ h. (bound_tells (record { tokens = tokens; holds = true }) xs h).1,
  λ all. bound_holds (record { tokens = tokens; holds = true }) xs refl all,
)

-- ---- rising

abbrev IsFrom : ℕ → ℕ → Type 0
IsFrom least at = least ≤ at

rising_tells : (rising : Rising) (xs : List Index) → (fold rising_after rising xs).holds ≡ true → (rising.holds ≡ true) × (All (IsFrom rising.least) (nodes xs) × AllPairs Less (nodes xs))
rising_tells rising [] h = (h, (All-nil (IsFrom rising.least), AllPairs-nil Less))
rising_tells rising (Node at ∷ xs) h =
    let rest = rising_tells (rising_after rising (Node at)) xs h in
    let two = both_hold rising.holds (leb rising.least at) rest.0 in
    let from = leb-true rising.least at two.1 in (
      two.0,
      (
        All-cons (IsFrom rising.least) at (nodes xs) from (All-weaker (IsFrom (at + 1)) (IsFrom rising.least) (λ x above. omega arith) (nodes xs) rest.1.0),
        AllPairs-cons Less at (nodes xs) (All-weaker (IsFrom (at + 1)) (Less at) (λ x above. omega arith) (nodes xs) rest.1.0) rest.1.1,
      ),
    )
rising_tells rising (StructName at ∷ xs) h = rising_tells rising xs h

rising_holds : (rising : Rising) (xs : List Index) → rising.holds ≡ true → All (IsFrom rising.least) (nodes xs) → AllPairs Less (nodes xs) → (fold rising_after rising xs).holds ≡ true
rising_holds rising [] h from pairs = h
rising_holds rising (Node at ∷ xs) h from pairs =
    let here = le-leb rising.least at (All-head (IsFrom rising.least) at (nodes xs) from) in
    rising_holds (rising_after rising (Node at)) xs (hold_both rising.holds (leb rising.least at) h here)
    (All-weaker (Less at) (IsFrom (at + 1)) (λ x above. omega arith) (nodes xs) (AllPairs-head Less at (nodes xs) pairs))
    (AllPairs-tail Less at (nodes xs) pairs)
rising_holds rising (StructName at ∷ xs) h from pairs = rising_holds rising xs h from pairs

pub rising_is : (xs : List Index) → ((fold rising_after (record { least = 0; holds = true }) xs).holds ≡ true) ↔ AllPairs (λ x y. x < y) (nodes xs)
rising_is xs = (
  λ h. (rising_tells (record { least = 0; holds = true }) xs h).1.1,
  λ pairs. rising_holds (record { least = 0; holds = true }) xs refl (λ k d within. omega arith) pairs,
)

pub rising_differ : (xs : List ℕ) → AllPairs (λ x y. x < y) xs → AllPairs (λ x y. x ≢ y) xs
rising_differ xs pairs = λ i j d before within same. let less = pairs i j d before within in omega (arith, less, same)

-- ---- how often a number stands in a list

-- 1 for a number that is this one, else 0
abbrev one : ℕ → ℕ → ℕ
one at x = cond (nat_eq x at) 1 0

one-same : (x y : ℕ) → x ≡ y → one x y ≡ 1
one-same x y e = grind (arith, e)

one-other : (x y : ℕ) → x ≢ y → one x y ≡ 0
one-other x y e = grind (arith, e)

one-least : (x y : ℕ) → one x y ≤ 1
one-least x y = grind arith

times-cons : (at x : ℕ) (xs : List ℕ) → times_of at (x ∷ xs) ≡ one at x + times_of at xs
times-cons at x xs = sum_by-cons (one at) x xs

absent : (x : ℕ) (xs : List ℕ) → times_of x xs ≡ 0 → All (Differ x) xs
absent x [] h = All-nil (Differ x)
absent x (y ∷ ys) h =
    let e = times-cons x y ys in
    All-cons (Differ x) y ys (λ same. let a = one-same x y same in absurd (omega (arith, h, e, a))) (absent x ys (omega (arith, h, e)))

times-absent : (x : ℕ) (xs : List ℕ) → All (Differ x) xs → times_of x xs ≡ 0
times-absent x [] h = refl
times-absent x (y ∷ ys) h =
    let e = times-cons x y ys in
    let a = one-other x y (All-head (Differ x) y ys h) in
    let b = times-absent x ys (All-tail (Differ x) y ys h) in
    omega (arith, e, a, b)

-- a number stands at most once in a list
abbrev IsSingle : List ℕ → ℕ → Type 0
IsSingle xs at = times_of at xs ≤ 1

singles_differ : (xs : List ℕ) → All (IsSingle xs) xs → AllPairs Differ xs
singles_differ [] h = AllPairs-nil Differ
singles_differ (x ∷ xs) h =
    let e = times-cons x x xs in
    let a = one-same x x refl in
    let b = All-head (IsSingle (x ∷ xs)) x xs h in
    AllPairs-cons Differ x xs (absent x xs (omega (arith, e, a, b)))
    (singles_differ xs (All-weaker (IsSingle (x ∷ xs)) (IsSingle xs) (λ at single. let f = times-cons at x xs in omega (arith, f, single)) xs (All-tail (IsSingle (x ∷ xs)) x xs h)))

differ_singles : (xs : List ℕ) → AllPairs Differ xs → All (IsSingle xs) xs
differ_singles [] h = All-nil (IsSingle [])
differ_singles (x ∷ xs) h =
    let apart = AllPairs-head Differ x xs h in
    let e = times-cons x x xs in
    let a = one-least x x in
    let b = times-absent x xs apart in
    All-cons (IsSingle (x ∷ xs)) x xs (omega (arith, e, a, b))
    (All-both (Differ x) (IsSingle xs) (IsSingle (x ∷ xs))
    (λ at differ single. let f = times-cons at x xs in let o = one-other at x (λ same. differ (sym same)) in omega (arith, f, o, single))
    xs apart (differ_singles xs (AllPairs-tail Differ x xs h)))

-- ---- the tally of one index

tally_counts : (tally : Tally) (xs : List Index) → tally.count ≤ 2 ^ 32 - 1 → (fold tally_after tally xs).count ≡ min (tally.count + times_of tally.at (nodes xs)) (2 ^ 32 - 1)
tally_counts tally [] h = omega (arith, h)
tally_counts tally (Node at ∷ xs) h =
    let e = times-cons tally.at at (nodes xs) in
    let step = tally_step tally at h in
    let rest = tally_counts (tally_after tally (Node at)) xs (omega (arith, h, step)) in
    omega (arith, e, step, rest)
  where
    tally_step : (tally : Tally) (at : ℕ) → tally.count ≤ 2 ^ 32 - 1 → (tally_after tally (Node at)).count ≡ min (tally.count + one tally.at at) (2 ^ 32 - 1)
    tally_step tally at h = step_by (nat_eq at tally.at) tally.count h
      where
        step_by : (b : Bool) (count : ℕ) → count ≤ 2 ^ 32 - 1 → cond b (min (count + 1) (2 ^ 32 - 1)) count ≡ min (count + cond b 1 0) (2 ^ 32 - 1)
        step_by true count h = refl
        step_by false count h = omega (arith, h)
tally_counts tally (StructName at ∷ xs) h = tally_counts tally xs h

leb-same : (m n : ℕ) → (m ≤ 1 → n ≤ 1) → (n ≤ 1 → m ≤ 1) → leb m 1 ≡ leb n 1
leb-same m n p q = grind (arith, p, q)

pub tally_is : (at : ℕ) (xs : List Index) → leb (fold tally_after (record { at = at; count = 0 }) xs).count 1 ≡ leb (times_of at (nodes xs)) 1
tally_is at xs =
    let e = tally_counts (record { at = at; count = 0 }) xs (omega arith) in
    leb-same (fold tally_after (record { at = at; count = 0 }) xs).count (times_of at (nodes xs)) (λ h. omega (arith, e, h)) (λ h. omega (arith, e, h))

-- ---- each alone

abbrev nodes_of : Distinct → List ℕ
nodes_of distinct = nodes (items_indices (program_of distinct.program.now).items)

distinct_tells : (distinct : Distinct) (xs : List Index) → (fold distinct_after distinct xs).holds ≡ true → (distinct.holds ≡ true) × All (IsSingle (nodes_of distinct)) (nodes xs)
distinct_tells distinct [] h = (h, All-nil (IsSingle (nodes_of distinct)))
distinct_tells distinct (Node at ∷ xs) h =
    let rest = distinct_tells (distinct_after distinct (Node at)) xs h in
    let count = times_of at (nodes_of distinct) in
    let two = both_hold distinct.holds (leb count 1) rest.0 in
    (two.0, All-cons (IsSingle (nodes_of distinct)) at (nodes xs) (leb-true count 1 two.1) rest.1)
distinct_tells distinct (StructName at ∷ xs) h = distinct_tells distinct xs h

distinct_holds : (distinct : Distinct) (xs : List Index) → distinct.holds ≡ true → All (IsSingle (nodes_of distinct)) (nodes xs) → (fold distinct_after distinct xs).holds ≡ true
distinct_holds distinct [] h all = h
distinct_holds distinct (Node at ∷ xs) h all =
    let count = times_of at (nodes_of distinct) in
    let single = le-leb count 1 (All-head (IsSingle (nodes_of distinct)) at (nodes xs) all) in
    distinct_holds (distinct_after distinct (Node at)) xs (hold_both distinct.holds (leb count 1) h single) (All-tail (IsSingle (nodes_of distinct)) at (nodes xs) all)
distinct_holds distinct (StructName at ∷ xs) h all = distinct_holds distinct xs h all

pub distinct_is : (distinct : Distinct) → distinct.holds ≡ true → ((fold distinct_after distinct (items_indices (program_of distinct.program.now).items)).holds ≡ true) ↔ AllPairs (λ x y. x ≢ y) (nodes (items_indices (program_of distinct.program.now).items))
distinct_is distinct first =
    let indices = items_indices (program_of distinct.program.now).items in (
      λ h. singles_differ (nodes indices) (distinct_tells distinct indices h).1,
      λ pairs. distinct_holds distinct indices first (differ_singles (nodes indices) pairs),
    )
