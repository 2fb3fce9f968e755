-- The indices in statements are those of tokens of the text, and no two nodes have the same.
use Rattle.std.proofs.Common.{ℕ, zero, suc, ◌+◌, ◌≤◌, List, [], ◌∷◌, ◌++◌, Bool, arith}
use Rattle.fk_syntax.specs.Nodes.{tree_indices, optional_indices, statement_indices, statements_indices}
use Rattle.fk_syntax.specs.Program.{Statement, Statements, statements_of}
use Rattle.fk_lex.specs.declared.token.TokenKind.{TokenKind}
use Rattle.fk_parse_combinators.specs.Languages.{Language, token, ◌then◌, making, maybe}
use Rattle.fk_expr.specs.Grammar.{Comma}
use Rattle.fk_parse_combinators.proofs.Uses.{Measure, Held, by_place, each, if_some, held_uncounted, held_token, ◌beside◌, held_or, held_making, held_many, held_maybe, held_nothing}
use Rattle.fk_expr.proofs.UsesTree.{Count, more, more_two, tree_count}
use Rattle.fk_parse_statements.specs.Statements as g
use Rattle.fk_parse_statements.specs.Statements.{accepted, not_before}
use Rattle.fk_parse_declarations.proofs.Uses.{optional_is, held_comma_at, held_variables}
use Rattle.fk_lex.specs.declared.token.TokenKind.TheVariants as kind

abbrev pub statement_count : Count → Measure Statement
statement_count C s k = C.of (statement_indices s) k

abbrev pub statements_count : Count → Measure Statements
statements_count C s k = C.of (statements_indices s) k

statements_all : (C : Count) (list : List Statement) (k : ℕ) → statements_count C (statements_of list) k ≤ each (statement_count C) list k
statements_all C [] k = let e = C.empty k in omega (arith, e)
statements_all C (s ∷ list) k =
    let a = C.append (statement_indices s) (statements_indices (statements_of list)) k in let ih = statements_all C list k in omega (arith, a, ih)

held_accepted : {A : Type 0} (test : A → Bool) {L : Language A} {u : Measure A} → Held L u → Held (accepted test L) u
held_accepted test h = record { holds = λ s a x k. h.holds s a x.0 k }

held_not_before : {A : Type 0} (is : TokenKind) {L : Language A} {u : Measure A} → Held L u → Held (not_before is L) u
held_not_before is h = record { holds = λ s a x k. h.holds s a x.0 k }

-- statements that stand in others, by their level
abbrev pub HeldWithin : Count → (ℕ → Language Statement) → Type 0
HeldWithin C S = (l : ℕ) → Held (S l) (statement_count C)

pub held_block : (C : Count) (S : ℕ → Language Statement) → HeldWithin C S → (l : ℕ) → Held (g.block S l) (statements_count C)
held_block C S H l =
    held_making _ (held_uncounted beside held_many (H (l + 1)) beside held_uncounted) (λ x k. let a = statements_all C x.1.0 k in omega (arith, a))

held_condition : (C : Count) (bound l : ℕ) → Held (g.condition bound l) (tree_count C)
held_condition C bound l = held_making _ (held_uncounted beside held_comma_at C bound l beside held_uncounted) (λ x k. omega arith)

held_if : (C : Count) (bound : ℕ) (S : ℕ → Language Statement) → HeldWithin C S → (l : ℕ) → Held (g.if_statement bound S l) (statement_count C)
held_if C bound S H l =
    held_or (held_making _ (held_token l kind.If beside held_condition C bound l beside H (l + 1))
    (λ x k. let a = more_two C x.0.at (tree_indices x.1.0) (statement_indices x.1.1) k in omega (arith, a)))
    (held_making _ (held_token l kind.If beside held_condition C bound l beside held_accepted g.is_closed (H (l + 1)) beside held_uncounted beside H (l + 1))
    (λ x k.
    let a = more C x.0.at ((tree_indices x.1.0 ++ statement_indices x.1.1.0) ++ statement_indices x.1.1.1.1) k in
    let b = C.append (tree_indices x.1.0 ++ statement_indices x.1.1.0) (statement_indices x.1.1.1.1) k in
    let c = C.append (tree_indices x.1.0) (statement_indices x.1.1.0) k in
    omega (arith, a, b, c)))

held_while : (C : Count) (bound : ℕ) (S : ℕ → Language Statement) → HeldWithin C S → (l : ℕ) → Held (g.while_statement bound S l) (statement_count C)
held_while C bound S H l =
    held_making _ (held_token l kind.While beside held_condition C bound l beside H (l + 1))
    (λ x k. let a = more_two C x.0.at (tree_indices x.1.0) (statement_indices x.1.1) k in omega (arith, a))

held_do : (C : Count) (bound : ℕ) (S : ℕ → Language Statement) → HeldWithin C S → (l : ℕ) → Held (g.do_statement bound S l) (statement_count C)
held_do C bound S H l =
    held_making _ (held_token l kind.Do beside H (l + 1) beside held_uncounted beside held_condition C bound l beside held_uncounted)
    (λ x k. let a = more_two C x.0.at (statement_indices x.1.0) (tree_indices x.1.1.1.0) k in omega (arith, a))

-- an expression, where there is one
held_some : (C : Count) (bound l : ℕ) → Held (maybe (Comma l bound)) (if_some (tree_count C))
held_some C bound l = held_maybe (held_comma_at C bound l)

held_for : (C : Count) (bound : ℕ) (S : ℕ → Language Statement) → HeldWithin C S → (l : ℕ) → Held (g.for_statement bound S l) (statement_count C)
held_for C bound S H l =
    let some = held_some C bound l in
    held_making _ (held_token l kind.For beside held_uncounted beside some beside held_uncounted beside some beside held_uncounted beside some beside held_uncounted beside H (l + 1))
    (λ x k.
    let p = x.1.1.0 in let q = x.1.1.1.1.0 in let r = x.1.1.1.1.1.1.0 in let s = x.1.1.1.1.1.1.1.1 in
    let a = more C x.0.at (((optional_indices p ++ optional_indices q) ++ optional_indices r) ++ statement_indices s) k in
    let b = C.append ((optional_indices p ++ optional_indices q) ++ optional_indices r) (statement_indices s) k in
    let c = C.append (optional_indices p ++ optional_indices q) (optional_indices r) k in
    let d = C.append (optional_indices p) (optional_indices q) k in
    let e = optional_is C p k in let f = optional_is C q k in let h = optional_is C r k in
    omega (arith, a, b, c, d, e, f, h))

held_start : (C : Count) (bound : ℕ) (S : ℕ → Language Statement) → HeldWithin C S → (l : ℕ) → Held (g.start_statement bound S l) (statement_count C)
held_start C bound S H l =
    held_or (held_making _ (held_token l kind.Start beside held_condition C bound l beside H (l + 1))
    (λ x k. let a = more_two C x.0.at (tree_indices x.1.0) (statement_indices x.1.1) k in omega (arith, a)))
    (held_making _ (held_token l kind.Start beside held_not_before kind.OpenParenthesis (H (l + 1)))
    (λ x k. let a = more C x.0.at (statement_indices x.1) k in omega (arith, a)))

-- ";" "$" "=" comma
held_rank : (C : Count) (bound l : ℕ)
    → Held (making (λ (end, (dollar, (equals, rank))). rank) (token l kind.Semicolon then token l kind.Dollar then token l kind.Assign then Comma l bound)) (tree_count C)
held_rank C bound l = held_making _ (held_uncounted beside held_uncounted beside held_uncounted beside held_comma_at C bound l) (λ x k. omega arith)

held_fork : (C : Count) (bound : ℕ) (S : ℕ → Language Statement) → HeldWithin C S → (l : ℕ) → Held (g.fork_statement bound S l) (statement_count C)
held_fork C bound S H l =
    held_making _ (held_token l kind.Fork beside held_uncounted beside held_comma_at C bound l beside held_uncounted beside held_uncounted beside held_uncounted
    beside held_comma_at C bound l beside held_maybe (held_rank C bound l) beside held_uncounted beside H (l + 1))
    (λ x k.
    let p = x.1.1.0 in let q = x.1.1.1.1.1.1.0 in let r = x.1.1.1.1.1.1.1.0 in let s = x.1.1.1.1.1.1.1.1.1 in
    let a = more C x.0.at (((tree_indices p ++ tree_indices q) ++ optional_indices r) ++ statement_indices s) k in
    let b = C.append ((tree_indices p ++ tree_indices q) ++ optional_indices r) (statement_indices s) k in
    let c = C.append (tree_indices p ++ tree_indices q) (optional_indices r) k in
    let d = C.append (tree_indices p) (tree_indices q) k in
    let e = optional_is C r k in
    omega (arith, a, b, c, d, e))

-- a word and ";"
held_plain : (C : Count) (l : ℕ) (is : TokenKind) → Held (g.plain l is) by_place
held_plain C l is = held_making _ (held_token l is beside held_uncounted) (λ x k. omega arith)

held_statement : (C : Count) (bound : ℕ) (S : ℕ → Language Statement) → HeldWithin C S → (l : ℕ) → Held (g.statement bound S l) (statement_count C)
held_statement C bound S H l =
    held_or (held_making _ (held_block C S H l) (λ x k. omega arith))
    (held_or (held_making _ held_uncounted (λ x k. let e = C.empty k in omega (arith, e)))
    (held_or (held_making _ (held_variables C bound l) (λ x k. omega arith))
    (held_or (held_if C bound S H l)
    (held_or (held_while C bound S H l)
    (held_or (held_do C bound S H l)
    (held_or (held_for C bound S H l)
    (held_or (held_start C bound S H l)
    (held_or (held_making _ (held_token l kind.Farm beside H (l + 1)) (λ x k. let a = more C x.0.at (statement_indices x.1) k in omega (arith, a)))
    (held_or (held_making _ (held_token l kind.Seq beside H (l + 1)) (λ x k. let a = more C x.0.at (statement_indices x.1) k in omega (arith, a)))
    (held_or (held_fork C bound S H l)
    (held_or (held_making _ (held_plain C l kind.Barrier) (λ t k. C.node t.at k))
    (held_or (held_making _ (held_plain C l kind.Break) (λ t k. C.node t.at k))
    (held_or (held_making _ (held_plain C l kind.Continue) (λ t k. C.node t.at k))
    (held_or (held_making _ (held_token l kind.Return beside held_some C bound l beside held_uncounted)
    (λ x k. let a = more C x.0.at (optional_indices x.1.0) k in let b = optional_is C x.1.0 k in omega (arith, a, b)))
    (held_making _ (held_comma_at C bound l beside held_uncounted) (λ x k. omega arith))))))))))))))))

pub held_within : (C : Count) (bound : ℕ) → HeldWithin C (g.statement_within bound)
held_within C zero l = held_nothing (statement_count C)
held_within C (suc bound) l = held_statement C bound (g.statement_within bound) (held_within C bound) l
