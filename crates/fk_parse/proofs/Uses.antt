-- The indices in the items of a text are those of its tokens.
use Rattle.std.proofs.Common.{◌≡◌, ℕ, ◌+◌, ◌≤◌, List, [], ◌∷◌, ◌++◌, Option, arith, refl, sym, append_assoc, subst}
use Rattle.fk_syntax.specs.declared.nodes.Index.TheVariants.{Node}
use Rattle.fk_syntax.specs.Nodes.{base_indices, declared_indices, declarations_indices, body_indices, item_indices, items_indices}
use Rattle.fk_syntax.specs.Program.{DeclaredTree, Statements, ItemTree}
use Rattle.fk_parse_combinators.proofs.Uses.{Measure, Held, each, held_uncounted, held_token, ◌beside◌, held_or, held_making, held_many, held_less}
use Rattle.fk_expr.proofs.UsesTree.{Count, more, more_two, held_base}
use Rattle.fk_parse.specs.Items as g
use Rattle.fk_parse_declarations.specs.Grammar.{joined_lists}
use Rattle.fk_lex.specs.declared.token.TokenKind.TheVariants as kind
use Rattle.fk_parse_declarations.proofs.Uses.{declarations_count, held_variables, held_member, held_parameters}
use Rattle.fk_parse_statements.proofs.Uses.{held_block, held_within}

-- ---- items

abbrev pub item_count : Count → Measure ItemTree
item_count C item k = C.of (item_indices item) k

declarations-append : (xs ys : List DeclaredTree) → declarations_indices (xs ++ ys) ≡ declarations_indices xs ++ declarations_indices ys
declarations-append [] ys = refl
declarations-append (x ∷ xs) ys = rw (declarations-append xs ys) (sym (append_assoc (declared_indices x) (declarations_indices xs) (declarations_indices ys)))

joined_all : (C : Count) (lists : List (List DeclaredTree)) (k : ℕ) → declarations_count C (joined_lists lists) k ≤ each (declarations_count C) lists k
joined_all C [] k = let e = C.empty k in omega (arith, e)
joined_all C (x ∷ xs) k =
    let ih = joined_all C xs k in
    let a = C.append (declarations_indices x) (declarations_indices (joined_lists xs)) k in
    subst (λ l. C.of l k ≤ declarations_count C x k + each (declarations_count C) xs k) (sym (declarations-append x (joined_lists xs))) (omega (arith, a, ih))

held_struct : (C : Count) → Held g.struct_item (item_count C)
held_struct C =
    held_making _ (held_uncounted beside held_token 0 kind.Word beside held_uncounted beside held_member C 0 beside held_many (held_member C 0) beside held_uncounted)
    (λ x k.
    let a = more C x.1.0.at (declarations_indices (joined_lists (x.1.1.1.0 ∷ x.1.1.1.1.0))) k in
    let b = joined_all C (x.1.1.1.0 ∷ x.1.1.1.1.0) k in
    omega (arith, a, b))

abbrev body_count : Count → Measure (Option Statements)
body_count C body k = C.of (body_indices body) k

held_body : (C : Count) (bound : ℕ) → Held (g.body bound) (body_count C)
held_body C bound =
    held_or (held_making _ held_uncounted (λ t k. let e = C.empty k in omega (arith, e)))
    (held_making _ (held_block C _ (held_within C bound) 1) (λ x k. omega arith))

held_function : (C : Count) (bound : ℕ) → Held (g.function_item bound) (item_count C)
held_function C bound =
    held_making _ (held_uncounted beside held_base C 0 beside held_uncounted beside held_token 0 kind.Word
    beside held_uncounted beside held_parameters C 0 beside held_uncounted beside held_body C bound)
    (λ x k.
    let p = x.1.1.1.1.1.0 in let q = x.1.1.1.1.1.1.1 in let n = x.1.1.1.0.at in
    let a = C.append (base_indices x.1.0) (Node n ∷ declarations_indices p ++ body_indices q) k in
    let b = more_two C n (declarations_indices p) (body_indices q) k in
    omega (arith, a, b))

held_item : (C : Count) (bound : ℕ) → Held (g.item bound) (item_count C)
held_item C bound = held_or (held_struct C) (held_or (held_making _ (held_variables C bound 0) (λ x k. omega arith)) (held_function C bound))

abbrev pub items_count : Count → Measure (List ItemTree)
items_count C items k = C.of (items_indices items) k

items_all : (C : Count) (items : List ItemTree) (k : ℕ) → items_count C items k ≤ each (item_count C) items k
items_all C [] k = let e = C.empty k in omega (arith, e)
items_all C (x ∷ xs) k = let a = C.append (item_indices x) (items_indices xs) k in let ih = items_all C xs k in omega (arith, a, ih)

pub held_items : (C : Count) (bound : ℕ) → Held (g.Items bound) (items_count C)
held_items C bound = held_less (items_count C) (items_all C) (held_many (held_item C bound))
