-- The tokens of statements at which frames may stand.
use Rattle.std.proofs.Common.{◌≡◌, ℕ, zero, suc, ◌+◌, List, [], ◌∷◌, ◌++◌, refl, sym, ap, ◌∙◌}
use Rattle.std.specs.Prelude.{flat_map}
use Rattle.std.proofs.lemmas.List.{append-nil}
use Rattle.fk_syntax.specs.Program.{Statement, statements_of}
use Rattle.fk_lex.specs.declared.token.TokenKind.TheVariants as kind
use Rattle.fk_parse_combinators.specs.Languages.{Language}
use Rattle.fk_parse_statements.specs.Statements as g
use Rattle.fk_parse_laws.specs.Order.{tokens_in, all_tokens_in}
use Rattle.fk_parse_laws.proofs.Listed.{Lists, lists_none, lists_token, ◌next_to◌, lists_or, lists_making, lists_many, lists_nothing, lists_accepted, lists_not_before}

all_of_each : (list : List Statement) → all_tokens_in (statements_of list) ≡ flat_map tokens_in list
all_of_each [] = refl
all_of_each (s ∷ list) = ap (λ l. tokens_in s ++ l) (all_of_each list)

-- statements that stand in others, by their level
abbrev pub ListsWithin : (ℕ → Language Statement) → Type 0
ListsWithin S = (l : ℕ) → Lists (S l) tokens_in

pub lists_block : (S : ℕ → Language Statement) → ListsWithin S → (l : ℕ) → Lists (g.block S l) all_tokens_in
lists_block S H l =
    lists_making _ (lists_none next_to lists_many (H (l + 1)) next_to lists_none) (λ x. all_of_each x.1.0 ∙ sym (append-nil (flat_map tokens_in x.1.0)))

lists_if : (bound : ℕ) (S : ℕ → Language Statement) → ListsWithin S → (l : ℕ) → Lists (g.if_statement bound S l) tokens_in
lists_if bound S H l =
    lists_or (lists_making _ (lists_token l kind.If next_to lists_none next_to H (l + 1)) (λ x. refl))
    (lists_making _ (lists_token l kind.If next_to lists_none next_to lists_accepted g.is_closed (H (l + 1)) next_to lists_none next_to H (l + 1)) (λ x. refl))

lists_while : (bound : ℕ) (S : ℕ → Language Statement) → ListsWithin S → (l : ℕ) → Lists (g.while_statement bound S l) tokens_in
lists_while bound S H l = lists_making _ (lists_token l kind.While next_to lists_none next_to H (l + 1)) (λ x. refl)

lists_do : (bound : ℕ) (S : ℕ → Language Statement) → ListsWithin S → (l : ℕ) → Lists (g.do_statement bound S l) tokens_in
lists_do bound S H l =
    lists_making _ (lists_token l kind.Do next_to H (l + 1) next_to lists_none) (λ x. ap (λ r. x.0.at ∷ r) (sym (append-nil (tokens_in x.1.0))))

lists_for : (bound : ℕ) (S : ℕ → Language Statement) → ListsWithin S → (l : ℕ) → Lists (g.for_statement bound S l) tokens_in
lists_for bound S H l =
    lists_making _ (lists_token l kind.For next_to lists_none next_to lists_none next_to lists_none next_to lists_none next_to lists_none
    next_to lists_none next_to lists_none next_to H (l + 1))
    (λ x. refl)

lists_start : (bound : ℕ) (S : ℕ → Language Statement) → ListsWithin S → (l : ℕ) → Lists (g.start_statement bound S l) tokens_in
lists_start bound S H l =
    lists_or (lists_making _ (lists_token l kind.Start next_to lists_none next_to H (l + 1)) (λ x. refl))
    (lists_making _ (lists_token l kind.Start next_to lists_not_before kind.OpenParenthesis (H (l + 1))) (λ x. refl))

lists_fork : (bound : ℕ) (S : ℕ → Language Statement) → ListsWithin S → (l : ℕ) → Lists (g.fork_statement bound S l) tokens_in
lists_fork bound S H l =
    lists_making _ (lists_token l kind.Fork next_to lists_none next_to lists_none next_to lists_none next_to lists_none next_to lists_none
    next_to lists_none next_to lists_none next_to lists_none next_to H (l + 1))
    (λ x. refl)

lists_statement : (bound : ℕ) (S : ℕ → Language Statement) → ListsWithin S → (l : ℕ) → Lists (g.statement bound S l) tokens_in
lists_statement bound S H l =
    lists_or (lists_making _ (lists_block S H l) (λ x. refl))
    (lists_or (lists_making _ lists_none (λ x. refl))
    (lists_or (lists_making _ lists_none (λ x. refl))
    (lists_or (lists_if bound S H l)
    (lists_or (lists_while bound S H l)
    (lists_or (lists_do bound S H l)
    (lists_or (lists_for bound S H l)
    (lists_or (lists_start bound S H l)
    (lists_or (lists_making _ (lists_none next_to H (l + 1)) (λ x. refl))
    (lists_or (lists_making _ (lists_none next_to H (l + 1)) (λ x. refl))
    (lists_or (lists_fork bound S H l)
    (lists_or (lists_making _ lists_none (λ x. refl))
    (lists_or (lists_making _ lists_none (λ x. refl))
    (lists_or (lists_making _ lists_none (λ x. refl))
    (lists_or (lists_making _ lists_none (λ x. refl))
    (lists_making _ lists_none (λ x. refl))))))))))))))))

pub lists_within : (bound : ℕ) → ListsWithin (g.statement_within bound)
lists_within zero l = lists_nothing tokens_in
lists_within (suc bound) l = lists_statement bound (g.statement_within bound) (lists_within bound) l
