-- How often a token stands for one of some things, and how often it is a node.
use Rattle.std.proofs.Common.{◌≡◌, ◌≢◌, ℕ, zero, suc, ◌<◌, ◌≤◌, cond, nat_eq, List, [], ◌∷◌, ◌++◌, get_or, Some, slice_get, Contains, All, AllPairs, sum_by, inl, inr, refl, sym, ap, subst, ◌∙◌, append_assoc, arith}
use Rattle.std.proofs.lemmas.Bool.{cases_eq}
use Rattle.std.proofs.lemmas.List.Elements.{All-head, All-tail}
use Rattle.std.proofs.lemmas.List.Sums.{sum_by-cons, sum_by-append, get_or-le-sum_by}
use Rattle.std.proofs.lemmas.Option.{slice_get_within, get_or_from_slice_get}
use Rattle.fk_syntax.specs.declared.nodes.Index.{Index}
use Rattle.fk_syntax.specs.declared.nodes.Index.TheVariants.{Node, StructName}
use Rattle.fk_syntax.specs.WellFormed.{nodes}
use Rattle.fk_syntax.specs.WellFormed as w

-- 1 for a number that is this one, else 0
abbrev pub one : ℕ → ℕ → ℕ
one at k = cond (nat_eq k at) 1 0

pub one-same : (at k : ℕ) → at ≡ k → one at k ≡ 1
one-same at k same = grind (arith, same)

pub one-other : (at k : ℕ) → at ≢ k → one at k ≡ 0
one-other at k other = grind (arith, other)

-- 1 for a thing that has this token, and for a node that is at it
abbrev pub by : {X : Type 0} → (X → ℕ) → ℕ → X → ℕ
by token at x = one at (token x)

abbrev pub by_node : ℕ → Index → ℕ
by_node at (Node k) = one at k
by_node at (StructName k) = 0

abbrev pub times : {X : Type 0} → (X → ℕ) → ℕ → List X → ℕ
times token at xs = sum_by (by token at) xs

abbrev pub node_times : ℕ → List Index → ℕ
node_times at indices = sum_by (by_node at) indices

-- ---- things that stand at nodes, no two at one

-- no token counts for more among these things, by their weights, than it is a node among these
pub record AreCounted {X : Type 0} (weight : ℕ → X → ℕ) (xs : List X) (indices : List Index) : Type 0 where
  pub count : (at : ℕ) → sum_by (weight at) xs ≤ node_times at indices

pub none : {X : Type 0} {weight : ℕ → X → ℕ} (indices : List Index) → AreCounted weight [] indices
none indices = record { count = λ at. omega arith }

-- a thing at the first node
pub first : {X : Type 0} (token : X → ℕ) {x : X} {xs : List X} {i : List Index} → AreCounted (by token) xs i → AreCounted (by token) (x ∷ xs) (Node (token x) ∷ i)
first token {x} {xs} {i} h = record { count = λ at. omega (arith, h.count at, sum_by-cons (by token at) x xs, sum_by-cons (by_node at) (Node (token x)) i) }

-- more nodes before, or behind
pub later : {X : Type 0} {weight : ℕ → X → ℕ} {xs : List X} {i : List Index} {at : ℕ} → AreCounted weight xs i → AreCounted weight xs (Node at ∷ i)
later {i} {at} h = record { count = λ k. omega (arith, h.count k, sum_by-cons (by_node k) (Node at) i) }

pub skip : {X : Type 0} {weight : ℕ → X → ℕ} {xs : List X} {i : List Index} (more : List Index) → AreCounted weight xs i → AreCounted weight xs (more ++ i)
skip {i} more h = record { count = λ at. omega (arith, h.count at, sum_by-append (by_node at) more i) }

pub wider : {X : Type 0} {weight : ℕ → X → ℕ} {xs : List X} {i : List Index} (more : List Index) → AreCounted weight xs i → AreCounted weight xs (i ++ more)
wider {i} more h = record { count = λ at. omega (arith, h.count at, sum_by-append (by_node at) i more) }

-- things side by side
pub beside : {X : Type 0} {weight : ℕ → X → ℕ} {xs ys : List X} {i j : List Index} → AreCounted weight xs i → AreCounted weight ys j → AreCounted weight (xs ++ ys) (i ++ j)
beside {weight} {xs} {ys} {i} {j} left right = record {
  count = λ at. omega (arith, left.count at, right.count at, sum_by-append (weight at) xs ys, sum_by-append (by_node at) i j);
}

-- a thing behind others, at a node between theirs
pub between : {X : Type 0} (token : X → ℕ) {xs : List X} (i j : List Index) (x : X) → AreCounted (by token) xs (i ++ j) → AreCounted (by token) (xs ++ x ∷ []) (i ++ (Node (token x) ∷ j))
between token {xs} i j x h = record {
  count = λ at. omega (
    arith,
    h.count at,
    sum_by-append (by token at) xs (x ∷ []),
    sum_by-append (by_node at) i j,
    sum_by-append (by_node at) i (Node (token x) ∷ j),
    sum_by-cons (by_node at) (Node (token x)) j,
  );
}

-- the same nodes in other groups
pub regroup : {X : Type 0} {weight : ℕ → X → ℕ} {xs : List X} (i j k : List Index) → AreCounted weight xs (i ++ j ++ k) → AreCounted weight xs (i ++ (j ++ k))
regroup {weight} {xs} i j k h = subst (AreCounted weight xs) (append_assoc i j k) h

pub regroup_back : {X : Type 0} {weight : ℕ → X → ℕ} {xs : List X} (i j k : List Index) → AreCounted weight xs (i ++ (j ++ k)) → AreCounted weight xs (i ++ j ++ k)
regroup_back {weight} {xs} i j k h = subst (AreCounted weight xs) (sym (append_assoc i j k)) h

-- ---- what is told of things by how often they have a token

-- one that is there counts at its token, and two that have the same count twice
pub contained : {X : Type 0} (token : X → ℕ) (xs : List X) (x : X) → Contains xs x → 1 ≤ times token (token x) xs
contained token xs x there =
    let least = get_or-le-sum_by (by token (token x)) xs there.0 x there.1 in
    let here = one-same (token x) (token (get_or xs there.0 x)) (ap token (sym there.2)) in
    omega (arith, least, here)

twice : {X : Type 0} (token : X → ℕ) (xs : List X) (i j : ℕ) (x y : X) → i < j → slice_get xs i ≡ Some x → slice_get xs j ≡ Some y → token x ≡ token y → 2 ≤ times token (token x) xs
twice token [] i j x y less is other same = absurd (cc)
twice token (z ∷ xs) i zero x y less is other same = absurd (omega (arith, less))
twice token (z ∷ xs) zero (suc j) x y less is other same =
    let here : x ≡ z = cc in
    let there = contained token xs y (j, slice_get_within xs j y other, get_or_from_slice_get xs j y y other) in
    omega (
      arith,
      sum_by-cons (by token (token x)) z xs,
      one-same (token x) (token z) (ap token here),
      subst (λ at. 1 ≤ times token at xs) (sym same) there,
    )
twice token (z ∷ xs) (suc i) (suc j) x y less is other same = omega (
  arith,
  sum_by-cons (by token (token x)) z xs,
  twice token xs i j x y (omega (arith, less)) is other same,
)

-- where no token counts twice, no two have the same
pub apart : {X : Type 0} (token : X → ℕ) (xs : List X) → ((at : ℕ) → times token at xs ≤ 1) → (i j : ℕ) (x y : X) → i < j → slice_get xs i ≡ Some x → slice_get xs j ≡ Some y → token x ≢ token y
apart token xs once i j x y less is other = λ same. omega (arith, once (token x), twice token xs i j x y less is other same)

-- ---- the nodes of a well-formed program

abbrev Differ : ℕ → ℕ → Type 0
Differ x y = x ≢ y

abbrev IsBelow : ℕ → Index → Type 0
IsBelow n index = w.token index < n

node-none : (at : ℕ) (indices : List Index) → All (Differ at) (nodes indices) → node_times at indices ≡ 0
node-none at [] away = refl
node-none at (Node k ∷ indices) away = omega (
  arith,
  sum_by-cons (by_node at) (Node k) indices,
  one-other at k (All-head (Differ at) k (nodes indices) away),
  node-none at indices (All-tail (Differ at) k (nodes indices) away),
)
node-none at (StructName k ∷ indices) away = omega (arith, sum_by-cons (by_node at) (StructName k) indices, node-none at indices away)

pub node-once : (at : ℕ) (indices : List Index) → AllPairs Differ (nodes indices) → node_times at indices ≤ 1
node-once at [] distinct = omega arith
node-once at (Node k ∷ indices) distinct =
    let both = sum_by-cons (by_node at) (Node k) indices in
    let rest = node-once at indices (λ i j d before within. distinct (suc i) (suc j) d (omega arith) (omega arith)) in
    elim (cases_eq at k) [
      | inl same ↦ omega (arith, both, one-same at k same, node-none at indices (λ i d within e. distinct 0 (suc i) d (omega arith) (omega arith) (sym same ∙ e)))
      | inr other ↦ omega (arith, both, one-other at k other, rest)
    ]
node-once at (StructName k ∷ indices) distinct = omega (arith, sum_by-cons (by_node at) (StructName k) indices, node-once at indices distinct)

pub node-below : (n at : ℕ) (indices : List Index) → All (IsBelow n) indices → 1 ≤ node_times at indices → at < n
node-below n at [] below some = absurd (omega (arith, some))
node-below n at (Node k ∷ indices) below some = elim (cases_eq at k) [
  | inl same ↦ omega (arith, same, All-head (IsBelow n) (Node k) indices below)
  | inr other ↦ node-below n at indices (All-tail (IsBelow n) (Node k) indices below) (omega (arith, some, sum_by-cons (by_node at) (Node k) indices, one-other at k other))
]
node-below n at (StructName k ∷ indices) below some = node-below n at indices (All-tail (IsBelow n) (StructName k) indices below) (omega (arith, some, sum_by-cons (by_node at) (StructName k) indices))
