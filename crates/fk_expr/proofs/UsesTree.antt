-- The indices in an expression are those of tokens of the stretch that spells it, and none stands more often.
use Rattle.std.proofs.Common.{◌≡◌, ℕ, zero, suc, ◌+◌, ◌≤◌, List, [], ◌∷◌, ◌++◌, Option, Some, None, arith, ◌⊎◌}
use Rattle.fk_syntax.specs.declared.nodes.Index.{Index}
use Rattle.fk_syntax.specs.declared.nodes.Index.TheVariants.{Node, StructName}
use Rattle.fk_syntax.specs.declared.sign.Sign.{Sign}
use Rattle.fk_syntax.specs.Nodes.{base_indices, type_indices, tree_indices, links_indices, trees_indices, suffixes_indices}
use Rattle.fk_syntax.specs.Tree.{BaseType, TypeTree, Tree, LinkTree, SuffixTree, Index as AtIndex, Call, Dot, Arrow, Up, Down, links_of, trees_of, suffixes_of, suffix}
use Rattle.fk_parse_combinators.specs.Languages.{Placed, Language, token, telling, ◌then◌, making}
use Rattle.fk_expr.specs.Grammar as g
use Rattle.fk_expr.specs.Grammar.{Deeper, deeper, linked, comma_linked, chained, suffixed, chosen, assigned, listed}
use Rattle.fk_expr.specs.Kinds.{number_told, prefix_told, assignment_told}
use Rattle.fk_parse_combinators.proofs.Uses.{one, Measure, Held, by_place, by_first, both, each, if_some, uncounted, held_uncounted, held_token, held_telling, ◌beside◌, held_or, held_making, held_many, held_maybe, held_nothing}
use Rattle.fk_lex.specs.declared.token.TokenKind.TheVariants as kind

-- a way to count the indices in a list: at most as often as they stand there
pub record Count : Type 0 where
  pub of : List Index → ℕ → ℕ
  pub empty : (k : ℕ) → of [] k ≡ 0
  pub append : (xs ys : List Index) (k : ℕ) → of (xs ++ ys) k ≤ of xs k + of ys k
  pub node : (at k : ℕ) → of (Node at ∷ []) k ≤ one at k
  pub name : (at k : ℕ) → of (StructName at ∷ []) k ≤ one at k
  -- the names of a type's first words don't count, or nothing counts more than once
  pub once : (base : BaseType) (k : ℕ) → (of (base_indices base) k ≡ 0) ⊎ ((xs : List Index) → of xs k ≤ 1)

pub more : (C : Count) (at : ℕ) (xs : List Index) (k : ℕ) → C.of (Node at ∷ xs) k ≤ one at k + C.of xs k
more C at xs k = let a = C.append (Node at ∷ []) xs k in let b = C.node at k in omega (arith, a, b)

pub more_two : (C : Count) (at : ℕ) (xs ys : List Index) (k : ℕ) → C.of (Node at ∷ xs ++ ys) k ≤ one at k + (C.of xs k + C.of ys k)
more_two C at xs ys k = let a = more C at (xs ++ ys) k in let b = C.append xs ys k in omega (arith, a, b)

-- ---- what counts in the parts of expressions

abbrev pub base_count : Count → Measure BaseType
base_count C base k = C.of (base_indices base) k

abbrev pub type_count : Count → Measure TypeTree
type_count C type k = C.of (type_indices type) k

abbrev pub tree_count : Count → Measure Tree
tree_count C tree k = C.of (tree_indices tree) k

abbrev pub link_count : Count → Measure LinkTree
link_count C link k = one link.spot.at k + C.of (tree_indices link.right) k

abbrev pub suffix_count : Count → Measure SuffixTree
suffix_count C (AtIndex spot by) k = one spot.at k + C.of (tree_indices by) k
suffix_count C (Call spot arguments) k = one spot.at k + C.of (trees_indices arguments) k
suffix_count C (Dot spot member) k = one spot.at k + one member.at k
suffix_count C (Arrow spot member) k = one spot.at k + one member.at k
suffix_count C (Up spot) k = one spot.at k
suffix_count C (Down spot) k = one spot.at k

pub links_count : (C : Count) (links : List LinkTree) (k : ℕ) → C.of (links_indices (links_of links)) k ≤ each (link_count C) links k
links_count C [] k = let e = C.empty k in omega (arith, e)
links_count C (x ∷ xs) k =
    let a = more_two C x.spot.at (tree_indices x.right) (links_indices (links_of xs)) k in
    let b = links_count C xs k in
    omega (arith, a, b)

pub trees_count : (C : Count) (trees : List Tree) (k : ℕ) → C.of (trees_indices (trees_of trees)) k ≤ each (tree_count C) trees k
trees_count C [] k = let e = C.empty k in omega (arith, e)
trees_count C (x ∷ xs) k =
    let a = C.append (tree_indices x) (trees_indices (trees_of xs)) k in
    let b = trees_count C xs k in
    omega (arith, a, b)

suffix_before : (C : Count) (x : SuffixTree) (xs : List SuffixTree) (k : ℕ) → C.of (suffixes_indices (suffix x (suffixes_of xs))) k ≤ suffix_count C x k + C.of (suffixes_indices (suffixes_of xs)) k
suffix_before C (AtIndex spot by) xs k = let a = more_two C spot.at (tree_indices by) (suffixes_indices (suffixes_of xs)) k in omega (arith, a)
suffix_before C (Call spot arguments) xs k = let a = more_two C spot.at (trees_indices arguments) (suffixes_indices (suffixes_of xs)) k in omega (arith, a)
suffix_before C (Dot spot member) xs k =
    let a = more C spot.at (Node member.at ∷ suffixes_indices (suffixes_of xs)) k in let b = more C member.at (suffixes_indices (suffixes_of xs)) k in omega (arith, a, b)
suffix_before C (Arrow spot member) xs k =
    let a = more C spot.at (Node member.at ∷ suffixes_indices (suffixes_of xs)) k in let b = more C member.at (suffixes_indices (suffixes_of xs)) k in omega (arith, a, b)
suffix_before C (Up spot) xs k = more C spot.at (suffixes_indices (suffixes_of xs)) k
suffix_before C (Down spot) xs k = more C spot.at (suffixes_indices (suffixes_of xs)) k

pub suffixes_count : (C : Count) (suffixes : List SuffixTree) (k : ℕ) → C.of (suffixes_indices (suffixes_of suffixes)) k ≤ each (suffix_count C) suffixes k
suffixes_count C [] k = let e = C.empty k in omega (arith, e)
suffixes_count C (x ∷ xs) k = let a = suffix_before C x xs k in let b = suffixes_count C xs k in omega (arith, a, b)

-- ---- the productions

pub held_base : (C : Count) (l : ℕ) → Held (g.base l) (base_count C)
held_base C l =
    held_or (held_making _ held_uncounted none)
    (held_or (held_making _ held_uncounted none)
    (held_or (held_making _ held_uncounted none)
    (held_making _ (held_token l kind.Struct beside held_token l kind.Word) (λ x k. let a = C.name x.1.at k in omega (arith, a)))))
  where
    none : {A : Type 0} (a : A) (k : ℕ) → C.of [] k ≤ 0
    none a k = let e = C.empty k in omega (arith, e)

pub held_type : (C : Count) (l : ℕ) → Held (g.type_name l) (type_count C)
held_type C l = held_making _ (held_base C l beside held_uncounted) (λ x k. omega arith)

-- what stands one level deeper
pub record HeldDeeper (C : Count) (D : Deeper) : Type 0 where
  pub comma : (l : ℕ) → Held (D.comma l) (tree_count C)
  pub assignment : (l : ℕ) → Held (D.assignment l) (tree_count C)
  pub choice : (l : ℕ) → Held (D.choice l) (tree_count C)
  pub prefix : (l : ℕ) → Held (D.prefix l) (tree_count C)

held_parenthesized : (C : Count) (D : Deeper) → HeldDeeper C D → (l : ℕ) → Held (g.parenthesized D l) (tree_count C)
held_parenthesized C D H l = held_making _ (held_uncounted beside H.comma (l + 1) beside held_uncounted) (λ x k. omega arith)

held_puts : (C : Count) (l : ℕ) → Held (g.puts l) (tree_count C)
held_puts C l = held_making _ (held_token l kind.Puts beside held_uncounted) (λ x k. let a = C.node x.0.at k in omega (arith, a))

held_primary : (C : Count) (D : Deeper) → HeldDeeper C D → (l : ℕ) → Held (g.primary D l) (tree_count C)
held_primary C D H l =
    held_or (held_making _ (held_telling l number_told) (λ x k. C.node x.0.at k))
    (held_or (held_making _ (held_token l kind.Word) (λ t k. C.node t.at k))
    (held_or (held_making _ (held_token l kind.At) (λ t k. C.node t.at k))
    (held_or (held_making _ (held_token l kind.Dollar) (λ t k. C.node t.at k))
    (held_or (held_parenthesized C D H l) (held_puts C l)))))

listed_count : (C : Count) (o : Option (Tree × List Tree)) (k : ℕ) → each (tree_count C) (listed o) k ≤ if_some (both (tree_count C) (each (tree_count C))) o k
listed_count C None k = omega arith
listed_count C (Some (first, others)) k = omega arith

-- an argument behind a comma
held_next : (C : Count) (D : Deeper) → HeldDeeper C D → (l : ℕ) → Held (making (λ (comma, next). next) (token l kind.Comma then D.assignment l)) (tree_count C)
held_next C D H l = held_making _ (held_uncounted beside H.assignment l) (λ x k. omega arith)

held_arguments : (C : Count) (D : Deeper) → HeldDeeper C D → (l : ℕ) → Held (g.arguments D l) (each (tree_count C))
held_arguments C D H l = held_making _ (held_maybe (H.assignment l beside held_many (held_next C D H l))) (listed_count C)

held_suffix : (C : Count) (D : Deeper) → HeldDeeper C D → (l : ℕ) → Held (g.suffix D l) (suffix_count C)
held_suffix C D H l =
    held_or (held_making _ (held_token (l + 1) kind.OpenBracket beside H.comma (l + 1) beside held_uncounted) (λ x k. omega arith))
    (held_or (held_making _ (held_token (l + 1) kind.OpenParenthesis beside held_arguments C D H (l + 1) beside held_uncounted)
    (λ x k. let a = trees_count C x.1.0 k in omega (arith, a)))
    (held_or (held_making _ (held_token l kind.Dot beside held_token l kind.Word) (λ x k. omega arith))
    (held_or (held_making _ (held_token l kind.Arrow beside held_token l kind.Word) (λ x k. omega arith))
    (held_or (held_making _ (held_token l kind.Increment) (λ t k. omega arith)) (held_making _ (held_token l kind.Decrement) (λ t k. omega arith))))))

suffixed_count : (C : Count) (whole : Tree) (suffixes : List SuffixTree) (k : ℕ) → tree_count C (suffixed whole suffixes) k ≤ tree_count C whole k + each (suffix_count C) suffixes k
suffixed_count C whole [] k = omega arith
suffixed_count C whole (x ∷ xs) k =
    let a = C.append (tree_indices whole) (suffixes_indices (suffixes_of (x ∷ xs))) k in
    let b = suffixes_count C (x ∷ xs) k in
    omega (arith, a, b)

held_postfix : (C : Count) (D : Deeper) → HeldDeeper C D → (l : ℕ) → Held (g.postfix D l) (tree_count C)
held_postfix C D H l = held_making _ (held_primary C D H l beside held_many (held_suffix C D H l)) (λ x k. suffixed_count C x.0 x.1 k)

held_cast : (C : Count) (D : Deeper) → HeldDeeper C D → (l : ℕ) → Held (g.cast D l) (tree_count C)
held_cast C D H l =
    held_making _ (held_token (l + 1) kind.OpenParenthesis beside held_type C (l + 1) beside held_uncounted beside H.prefix (l + 1))
    (λ x k. let a = more_two C x.0.at (type_indices x.1.0) (tree_indices x.1.1.1) k in omega (arith, a))

held_sizeof : (C : Count) (l : ℕ) → Held (g.sizeof l) (tree_count C)
held_sizeof C l =
    held_making _ (held_token l kind.Sizeof beside held_uncounted beside held_type C (l + 1) beside held_uncounted)
    (λ x k. let a = more C x.0.at (type_indices x.1.1.0) k in omega (arith, a))

held_prefix : (C : Count) (D : Deeper) → HeldDeeper C D → (l : ℕ) → Held (g.prefix D l) (tree_count C)
held_prefix C D H l =
    held_or (held_making _ (held_telling (l + 1) prefix_told beside H.prefix (l + 1)) (λ x k. let a = more C x.0.0.at (tree_indices x.1) k in omega (arith, a)))
    (held_or (held_cast C D H l) (held_or (held_sizeof C l) (held_postfix C D H l)))

chained_count : (C : Count) (first : Tree) (links : List LinkTree) (k : ℕ) → tree_count C (chained first links) k ≤ tree_count C first k + each (link_count C) links k
chained_count C first [] k = omega arith
chained_count C first (x ∷ xs) k =
    let a = C.append (tree_indices first) (links_indices (links_of (x ∷ xs))) k in
    let b = links_count C (x ∷ xs) k in
    omega (arith, a, b)

-- an operator, and the operand on its right
held_link : (C : Count) (l looseness : ℕ) {J : Language Tree} → Held J (tree_count C) → Held (making linked (telling l (g.operator_at looseness) then J)) (link_count C)
held_link C l looseness h = held_making _ (held_telling l (g.operator_at looseness) beside h) (λ x k. omega arith)

held_joined : (C : Count) (D : Deeper) → HeldDeeper C D → (l looseness : ℕ) → Held (g.joined D l looseness) (tree_count C)
held_joined C D H l zero = held_prefix C D H l
held_joined C D H l (suc looseness) =
    let operand = held_joined C D H l looseness in
    held_making _ (operand beside held_many (held_link C l (suc looseness) operand)) (λ x k. chained_count C x.0 x.1 k)

chosen_count : (C : Count) (condition : Tree) (o : Option (Placed × (Tree × (Placed × Tree)))) (k : ℕ)
    → tree_count C (chosen condition o) k ≤ tree_count C condition k + if_some (both by_place (both (tree_count C) (both uncounted (tree_count C)))) o k
chosen_count C condition None k = omega arith
chosen_count C condition (Some (question, (first, (colon, second)))) k =
    let a = C.append (tree_indices condition ++ (Node question.at ∷ tree_indices first)) (tree_indices second) k in
    let b = C.append (tree_indices condition) (Node question.at ∷ tree_indices first) k in
    let c = more C question.at (tree_indices first) k in
    omega (arith, a, b, c)

held_choice : (C : Count) (D : Deeper) → HeldDeeper C D → (l : ℕ) → Held (g.choice D l) (tree_count C)
held_choice C D H l =
    held_making _ (held_joined C D H l 10
    beside held_maybe (held_token (l + 1) kind.Question beside H.comma (l + 1) beside held_uncounted beside H.choice (l + 1)))
    (λ x k. chosen_count C x.0 x.1 k)

assigned_count : (C : Count) (target : Tree) (o : Option ((Placed × Sign) × Tree)) (k : ℕ) → tree_count C (assigned target o) k ≤ tree_count C target k + if_some (both by_first (tree_count C)) o k
assigned_count C target None k = omega arith
assigned_count C target (Some ((at, operator), value)) k =
    let a = C.append (tree_indices target) (Node at.at ∷ tree_indices value) k in
    let b = more C at.at (tree_indices value) k in
    omega (arith, a, b)

pub held_assignment : (C : Count) (D : Deeper) → HeldDeeper C D → (l : ℕ) → Held (g.assignment D l) (tree_count C)
held_assignment C D H l =
    held_making _ (held_choice C D H l beside held_maybe (held_telling l assignment_told beside H.assignment (l + 1))) (λ x k. assigned_count C x.0 x.1 k)

pub held_comma : (C : Count) (D : Deeper) → HeldDeeper C D → (l : ℕ) → Held (g.comma D l) (tree_count C)
held_comma C D H l = held_making _ (held_assignment C D H l beside held_many link) (λ x k. chained_count C x.0 x.1 k)
  where
    link : Held (making comma_linked (token l kind.Comma then g.assignment D l)) (link_count C)
    link = held_making _ (held_token l kind.Comma beside held_assignment C D H l) (λ x k. omega arith)

pub held_deeper : (C : Count) (bound : ℕ) → HeldDeeper C (deeper bound)
held_deeper C zero =
    let none = held_nothing (tree_count C) in
    record { comma = λ l. none; assignment = λ l. none; choice = λ l. none; prefix = λ l. none }
held_deeper C (suc bound) =
    let H = held_deeper C bound in
    record {
      comma = held_comma C (deeper bound) H;
      assignment = held_assignment C (deeper bound) H;
      choice = held_choice C (deeper bound) H;
      prefix = held_prefix C (deeper bound) H;
    }
