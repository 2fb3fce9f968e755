-- A program that is read is well formed.
use Rattle.std.proofs.Common.{◌≡◌, ℕ, zero, suc, ◌+◌, ◌≤◌, ◌<◌, List, [], ◌∷◌, ◌++◌, length, map, arith, refl, sym, ap, ◌⊎◌, inl, inr, ◌≢◌, subst, ◌∙◌}
use Rattle.std.specs.Prelude.{All, AllPairs}
use Rattle.std.proofs.lemmas.List.Kept.{AllPairs-cons}
use Rattle.std.proofs.lemmas.List.Elements.{All-nil, All-cons}
use Rattle.fk_syntax.specs.declared.nodes.Index.{Index}
use Rattle.fk_syntax.specs.declared.nodes.Index.TheVariants.{Node, StructName}
use Rattle.fk_syntax.specs.Nodes.{base_indices, items_indices}
use Rattle.fk_syntax.specs.Tree as t
use Rattle.fk_syntax.specs.Tree.{BaseType}
use Rattle.fk_syntax.specs.Program.{ItemTree, ProgramTree}
use Rattle.fk_syntax.specs.WellFormed.{AreSound, IsWellFormed, nodes, token}
use Rattle.fk_lex.specs.Reading.{Spelled}
use Rattle.fk_parse_combinators.specs.Languages.{Stretch, tokens_of, numbered}
use Rattle.fk_parse_combinators.proofs.Uses.{one, times, times-append, places}
use Rattle.fk_expr.proofs.UsesTree.{Count}
use Rattle.fk_parse.specs.Parses.{SpellsItems, SpellsProgram}
use Rattle.fk_parse.proofs.Uses.{held_items}

-- ---- the two counts

nodes-append : (xs ys : List Index) → nodes (xs ++ ys) ≡ nodes xs ++ nodes ys
nodes-append [] ys = refl
nodes-append (Node at ∷ xs) ys = ap (λ l. at ∷ l) (nodes-append xs ys)
nodes-append (StructName at ∷ xs) ys = nodes-append xs ys

names_uncounted : (base : BaseType) (k : ℕ) → times k (nodes (base_indices base)) ≡ 0
names_uncounted t.Int k = refl
names_uncounted t.Unsigned k = refl
names_uncounted t.Void k = refl
names_uncounted (t.Struct name) k = refl

abbrev by_nodes : Count
by_nodes = record {
  of = λ xs k. times k (nodes xs);
  empty = λ k. refl;
  append = λ xs ys k. let e = times-append k (nodes xs) (nodes ys) in subst (λ l. times k l ≤ times k (nodes xs) + times k (nodes ys)) (sym (nodes-append xs ys)) (omega (arith, e));
  node = λ at k. omega arith;
  name = λ at k. omega arith;
  once = λ base k. inl (names_uncounted base k);
}

-- 1 for a number that stands in a list of indices, as a node or not, else 0
abbrev sign : ℕ → ℕ
sign zero = 0
sign (suc n) = 1

sign-sum : (m n : ℕ) → sign (m + n) ≤ sign m + sign n
sign-sum zero n = let e : n ≡ 0 + n = omega arith in subst (λ x. sign x ≤ 0 + sign n) e (omega arith)
sign-sum (suc m) n = let e : suc (m + n) ≡ suc m + n = omega arith in subst (λ x. sign x ≤ 1 + sign n) e (omega arith)

sign-least : (n : ℕ) → sign n ≤ n
sign-least zero = omega arith
sign-least (suc n) = omega arith

sign-some : (n : ℕ) → 0 < n → 0 < sign n
sign-some zero h = absurd (omega (arith, h))
sign-some (suc n) h = omega arith

sign-one : (n : ℕ) → sign n ≤ 1
sign-one zero = omega arith
sign-one (suc n) = omega arith

abbrev tokens_in : List Index → List ℕ
tokens_in xs = map token xs

tokens-append : (xs ys : List Index) → tokens_in (xs ++ ys) ≡ tokens_in xs ++ tokens_in ys
tokens-append [] ys = refl
tokens-append (x ∷ xs) ys = ap (λ l. token x ∷ l) (tokens-append xs ys)

sign-tokens : (xs ys : List Index) (k : ℕ) → sign (times k (tokens_in (xs ++ ys))) ≤ sign (times k (tokens_in xs)) + sign (times k (tokens_in ys))
sign-tokens xs ys k =
    subst (λ l. sign (times k l) ≤ sign (times k (tokens_in xs)) + sign (times k (tokens_in ys))) (sym (tokens-append xs ys))
    (subst (λ n. sign n ≤ sign (times k (tokens_in xs)) + sign (times k (tokens_in ys))) (sym (times-append k (tokens_in xs) (tokens_in ys)))
    (sign-sum (times k (tokens_in xs)) (times k (tokens_in ys))))

abbrev by_tokens : Count
by_tokens = record {
  of = λ xs k. sign (times k (tokens_in xs));
  empty = λ k. refl;
  append = sign-tokens;
  node = λ at k. let a = sign-least (one at k + 0) in omega (arith, a);
  name = λ at k. let a = sign-least (one at k + 0) in omega (arith, a);
  once = λ base k. inr (λ xs. sign-one (times k (tokens_in xs)));
}

-- ---- the indices of a text's tokens

-- a number is another, or not
one-cases : (x y : ℕ) → (one x y ≡ 0) ⊎ (x ≡ y)
one-cases x y = grind arith

one-least : (x y : ℕ) → one x y ≤ 1
one-least x y = grind arith

numbered-before : (at k : ℕ) (ts : List Spelled) → k < at → times k (map (λ t. t.at) (numbered at ts)) ≡ 0
numbered-before at k [] h = refl
numbered-before at k (t ∷ ts) h =
    let e = numbered-before (at + 1) k ts (omega (arith, h)) in
    elim (one-cases at k) [
      | inl d ↦ omega (arith, e, d)
      | inr d ↦ absurd (omega (arith, h, d))
    ]

numbered-once : (at k : ℕ) (ts : List Spelled) → times k (map (λ t. t.at) (numbered at ts)) ≤ 1
numbered-once at k [] = omega arith
numbered-once at k (t ∷ ts) =
    elim (one-cases at k) [
      | inl d ↦ (let a = numbered-once (at + 1) k ts in omega (arith, a, d))
      | inr d ↦ (let a = numbered-before (at + 1) k ts (omega (arith, d)) in let b = one-least at k in omega (arith, a, b))
    ]

numbered-within : (at k : ℕ) (ts : List Spelled) → 0 < times k (map (λ t. t.at) (numbered at ts)) → k < at + length ts
numbered-within at k [] h = absurd (omega (arith, h))
numbered-within at k (t ∷ ts) h =
    elim (one-cases at k) [
      | inl d ↦ (let a = numbered-within (at + 1) k ts (omega (arith, h, d)) in omega (arith, a))
      | inr d ↦ omega (arith, d)
    ]

places-tokens : (s : Stretch) → places s ≡ map (λ t. t.at) (tokens_of s)
places-tokens [] = refl
places-tokens (m ∷ s) = ap (λ l. m.token.at ∷ l) (places-tokens s)

-- ---- lists of numbers that stand once, or are bounded

one-same : (x y : ℕ) → x ≡ y → one y x ≡ 1
one-same x y e = grind (arith, e)

absent : (x : ℕ) (xs : List ℕ) → times x xs ≡ 0 → All (λ y. x ≢ y) xs
absent x [] h = All-nil (λ y. x ≢ y)
absent x (y ∷ ys) h =
    All-cons (λ z. x ≢ z) y ys (λ e. let a = one-same x y e in absurd (omega (arith, h, a))) (absent x ys (omega (arith, h)))

once_apart : (xs : List ℕ) → ((k : ℕ) → times k xs ≤ 1) → AllPairs (λ x y. x ≢ y) xs
once_apart [] h = λ i j d less within. absurd (omega (arith, within))
once_apart (x ∷ xs) h =
    AllPairs-cons (λ y z. y ≢ z) x xs
    (absent x xs (let a = h x in let b = one-same x x refl in omega (arith, a, b)))
    (once_apart xs (λ k. let a = h k in omega (arith, a)))

all_below : (n : ℕ) (xs : List Index) → ((k : ℕ) → 0 < times k (tokens_in xs) → k < n) → All (λ x. token x < n) xs
all_below n [] h = All-nil (λ x. token x < n)
all_below n (x ∷ xs) h =
    All-cons (λ y. token y < n) x xs (h (token x) (let a = one-same (token x) (token x) refl in omega (arith, a)))
    (all_below n xs (λ k i. h k (omega (arith, i))))

-- ---- programs

-- the items that the tokens of a text spell are known by indices of these tokens, no two nodes by the same
pub items_sound : (tokens : List Spelled) (items : List ItemTree) → SpellsItems (numbered 0 tokens) items → AreSound (length tokens) (items_indices items)
items_sound tokens items r =
    let same : places r.stretch ≡ map (λ t. t.at) (numbered 0 tokens) = places-tokens r.stretch ∙ ap (map (λ t. t.at)) (sym r.is) in
    record {
      below = all_below (length tokens) (items_indices items) (λ k h.
          let a = (held_items by_tokens r.spelled.0).holds r.stretch items r.spelled.1 k in
          let b = sign-some (times k (tokens_in (items_indices items))) h in
          let e = ap (times k) same in
          let c = numbered-within 0 k tokens (omega (arith, a, b, e)) in
          omega (arith, c));
      distinct = once_apart (nodes (items_indices items)) (λ k.
          let a = (held_items by_nodes r.spelled.0).holds r.stretch items r.spelled.1 k in
          let e = ap (times k) same in
          let b = numbered-once 0 k tokens in
          omega (arith, a, e, b));
    }

pub derives_well_formed : (tokens : List Spelled) (p : ProgramTree) → SpellsProgram tokens p → IsWellFormed p
derives_well_formed tokens p d = subst (λ n. AreSound n (items_indices p.items)) (sym d.count) (items_sound tokens p.items d.items)
