-- The indices in declarations are those of tokens of the text, and no two nodes have the same.
use Rattle.std.proofs.Common.{◌≡◌, ℕ, zero, suc, ◌+◌, ◌≤◌, List, [], ◌∷◌, Option, Some, None, Bool, false, map, arith, refl, inl, inr}
use Rattle.fk_syntax.specs.declared.nodes.Index.{Index}
use Rattle.fk_syntax.specs.declared.nodes.Index.TheVariants.{Node}
use Rattle.fk_syntax.specs.Nodes.{base_indices, optional_indices, declared_indices, declarations_indices}
use Rattle.fk_syntax.specs.Tree.{BaseType, Tree}
use Rattle.fk_syntax.specs.Program.{DeclaredTree}
use Rattle.fk_parse_combinators.specs.Languages.{Language, token, ◌then◌, making, maybe}
use Rattle.fk_expr.specs.Grammar.{Comma, Assignment, deeper}
use Rattle.fk_parse_combinators.proofs.Uses.{one, Measure, Held, each, if_some, held_uncounted, held_token, ◌beside◌, held_or, held_making, held_many, held_maybe, held_less}
use Rattle.fk_expr.proofs.UsesTree.{Count, more, base_count, tree_count, held_base, held_comma, held_assignment, held_deeper}
use Rattle.fk_parse_declarations.specs.Grammar as g
use Rattle.fk_parse_declarations.specs.Grammar.{Declarator, declared, is_shared, separated}
use Rattle.fk_lex.specs.declared.token.TokenKind.TheVariants as kind

pub held_comma_at : (C : Count) (bound l : ℕ) → Held (Comma l bound) (tree_count C)
held_comma_at C bound l = held_comma C (deeper bound) (held_deeper C bound) l

held_assignment_at : (C : Count) (bound l : ℕ) → Held (Assignment l bound) (tree_count C)
held_assignment_at C bound l = held_assignment C (deeper bound) (held_deeper C bound) l

-- ---- declarations

abbrev pub optional_count : Count → Measure (Option Tree)
optional_count C o k = C.of (optional_indices o) k

pub optional_is : (C : Count) (o : Option Tree) (k : ℕ) → optional_count C o k ≤ if_some (tree_count C) o k
optional_is C None k = let e = C.empty k in omega (arith, e)
optional_is C (Some t) k = omega arith

abbrev pub declarator_count : Count → Measure Declarator
declarator_count C d k = one d.name.at k + optional_count C d.first k

abbrev pub declared_count : Count → Measure DeclaredTree
declared_count C d k = C.of (declared_indices d) k

abbrev pub declarations_count : Count → Measure (List DeclaredTree)
declarations_count C ds k = C.of (declarations_indices ds) k

declared_one : (C : Count) (shared : Bool) (b : BaseType) (d : Declarator) (k : ℕ) → declared_count C (declared shared b d) k ≤ base_count C b k + declarator_count C d k
declared_one C shared b d k =
    let x = C.append (base_indices b) (Node d.name.at ∷ optional_indices d.first) k in
    let y = more C d.name.at (optional_indices d.first) k in
    omega (arith, x, y)

-- where the type's first words don't count
unshared : (C : Count) (shared : Bool) (b : BaseType) (k : ℕ) → base_count C b k ≡ 0 → (ds : List Declarator)
    → declarations_count C (map (declared shared b) ds) k ≤ each (declarator_count C) ds k
unshared C shared b k e [] = let z = C.empty k in omega (arith, z)
unshared C shared b k e (d ∷ ds) =
    let a = C.append (declared_indices (declared shared b d)) (declarations_indices (map (declared shared b) ds)) k in
    let x = declared_one C shared b d k in
    let ih = unshared C shared b k e ds in
    omega (arith, a, x, ih, e)

by_words : (C : Count) (shared : Bool) (b : BaseType) (k n : ℕ) → base_count C b k ≡ n → ((xs : List Index) → C.of xs k ≤ 1) → (ds : List Declarator)
    → declarations_count C (map (declared shared b) ds) k ≤ base_count C b k + each (declarator_count C) ds k
by_words C shared b k zero e h ds = let a = unshared C shared b k e ds in omega (arith, a)
by_words C shared b k (suc n) e h ds = let a = h (declarations_indices (map (declared shared b) ds)) in omega (arith, a, e)

-- the words of a type count once for all that are declared with it
pub declared_all : (C : Count) (shared : Bool) (b : BaseType) (ds : List Declarator) (k : ℕ)
    → declarations_count C (map (declared shared b) ds) k ≤ base_count C b k + each (declarator_count C) ds k
declared_all C shared b ds k =
    elim (C.once b k) [
      | inl e ↦ (let a = unshared C shared b k e ds in omega (arith, a))
      | inr h ↦ by_words C shared b k (base_count C b k) refl h ds
    ]

held_separated : {A : Type 0} (l : ℕ) {L : Language A} {u : Measure A} → Held L u → Held (separated l L) (each u)
held_separated {A} l {L} {u} h = held_making _ (h beside held_many next) (λ x k. omega arith)
  where
    next : Held (making (λ (comma, next). next) (token l kind.Comma then L)) u
    next = held_making _ (held_uncounted beside h) (λ x k. omega arith)

-- [ "=" assign ]
held_first : (C : Count) (bound l : ℕ) → Held (maybe (making (λ (equals, value). value) (token l kind.Assign then Assignment l bound))) (if_some (tree_count C))
held_first C bound l = held_maybe (held_making _ (held_uncounted beside held_assignment_at C bound l) (λ x k. omega arith))

held_variable : (C : Count) (bound l : ℕ) → Held (g.variable bound l) (declarator_count C)
held_variable C bound l =
    held_making _ (held_uncounted beside held_token l kind.Word beside held_uncounted beside held_first C bound l)
    (λ x k. let a = optional_is C x.1.1.1 k in omega (arith, a))

held_member_name : (C : Count) (l : ℕ) → Held (g.member_name l) (declarator_count C)
held_member_name C l = held_making _ (held_uncounted beside held_token l kind.Word beside held_uncounted) (λ x k. let e = C.empty k in omega (arith, e))

pub held_variables : (C : Count) (bound l : ℕ) → Held (g.variables bound l) (declarations_count C)
held_variables C bound l =
    held_making _ (held_uncounted beside held_base C l beside held_separated l (held_variable C bound l) beside held_uncounted)
    (λ x k. let a = declared_all C (is_shared x.0) x.1.0 x.1.1.0 k in omega (arith, a))

pub held_member : (C : Count) (l : ℕ) → Held (g.member l) (declarations_count C)
held_member C l =
    held_making _ (held_base C l beside held_separated l (held_member_name C l) beside held_uncounted)
    (λ x k. let a = declared_all C false x.0 x.1.0 k in omega (arith, a))

held_parameter : (C : Count) (l : ℕ) → Held (g.parameter l) (declared_count C)
held_parameter C l =
    held_making _ (held_uncounted beside held_base C l beside held_uncounted beside held_token l kind.Word) (λ x k.
    let a = C.append (base_indices x.1.0) (Node x.1.1.1.at ∷ []) k in
    let b = C.node x.1.1.1.at k in
    omega (arith, a, b))

declarations_all : (C : Count) (ds : List DeclaredTree) (k : ℕ) → declarations_count C ds k ≤ each (declared_count C) ds k
declarations_all C [] k = let e = C.empty k in omega (arith, e)
declarations_all C (d ∷ ds) k =
    let a = C.append (declared_indices d) (declarations_indices ds) k in let ih = declarations_all C ds k in omega (arith, a, ih)

pub held_parameters : (C : Count) (l : ℕ) → Held (g.parameters l) (declarations_count C)
held_parameters C l =
    held_or (held_making _ held_uncounted (λ x k. let e = C.empty k in omega (arith, e)))
    (held_less (declarations_count C) (declarations_all C) (held_separated l (held_parameter C l)))
