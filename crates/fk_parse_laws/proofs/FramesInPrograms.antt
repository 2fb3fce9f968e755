-- The frames of a program stand in the order of its tokens, and behind the first.
use Rattle.std.proofs.Common.{◌≡◌, ℕ, ◌+◌, ◌<◌, List, [], ◌∷◌, map, arith, refl, ap, subst, ◌∙◌}
use Rattle.std.specs.Prelude.{All}
use Rattle.std.proofs.lemmas.Simd.{map-map}
use Rattle.std.proofs.lemmas.List.Kept.{AllPairs-cons}
use Rattle.std.proofs.lemmas.List.Elements.{All-nil, All-cons}
use Rattle.fk_syntax.specs.Program.{ItemTree, ProgramTree}
use Rattle.fk_lex.specs.Reading.{Spelled}
use Rattle.fk_lex.specs.declared.token.TokenKind.TheVariants as kind
use Rattle.fk_parse_combinators.specs.Languages.{Stretch, numbered}
use Rattle.fk_parse_combinators.proofs.Uses.{places}
use Rattle.fk_expr.specs.Grammar.{base}
use Rattle.fk_parse.specs.Items as g
use Rattle.fk_parse.specs.Parses.{SpellsItems, SpellsProgram}
use Rattle.fk_parse_laws.specs.Order.{body_tokens, item_tokens, frame_tokens, Ascend}
use Rattle.fk_parse_laws.proofs.Ordered as ordered
use Rattle.fk_parse_laws.proofs.Picked.{picked_all, picked_pairs}
use Rattle.fk_parse_laws.specs.Program.{FramesStandInOrder, FramesStandBehindFirst}
use Rattle.fk_parse_laws.proofs.Listed.{Lists, Among, lists_none, lists_token, ◌next_to◌, lists_or, lists_making, lists_many}
use Rattle.fk_parse_laws.proofs.Behind.{behind, Begins, begins_token, begins_then, begins_or, begins_making, ListsBehind, behind_none, behind_first, behind_next, behind_or, behind_making, behind_many}
use Rattle.fk_parse_laws.proofs.Statements.{lists_block, lists_within}

-- ---- items

lists_body : (bound : ℕ) → Lists (g.body bound) body_tokens
lists_body bound = lists_or (lists_making _ lists_none (λ t. refl)) (lists_making _ (lists_block _ (lists_within bound) 1) (λ x. refl))

lists_function : (bound : ℕ) → Lists (g.function_item bound) item_tokens
lists_function bound =
    lists_making _ (lists_none next_to lists_none next_to lists_none next_to lists_token 0 kind.Word
    next_to lists_none next_to lists_none next_to lists_none next_to lists_body bound)
    (λ x. refl)

lists_item : (bound : ℕ) → Lists (g.item bound) item_tokens
lists_item bound = lists_or (lists_making _ lists_none (λ x. refl)) (lists_or (lists_making _ lists_none (λ x. refl)) (lists_function bound))

-- the tokens of the items of a text at which frames may stand are among those that spell them
among : (bound : ℕ) (s : Stretch) (items : List ItemTree) → g.Items bound s items → Among (frame_tokens items) (places s)
among bound s items w = (lists_many (lists_item bound)).lists s items w

-- ---- the tokens of a text

above : (low at : ℕ) (ts : List Spelled) → low < at → All (λ n. low < n) (map (λ t. t.at) (numbered at ts))
above low at [] h = All-nil (λ n. low < n)
above low at (t ∷ ts) h = All-cons (λ n. low < n) at (map (λ u. u.at) (numbered (at + 1) ts)) h (above low (at + 1) ts (omega (arith, h)))

-- their indices ascend
numbers_ascend : (at : ℕ) (ts : List Spelled) → Ascend (map (λ t. t.at) (numbered at ts))
numbers_ascend at [] = λ i j d less within. absurd (omega (arith, within))
numbers_ascend at (t ∷ ts) =
    AllPairs-cons (λ x y. x < y) at (map (λ u. u.at) (numbered (at + 1) ts)) (above at (at + 1) ts (omega arith)) (numbers_ascend (at + 1) ts)

tokens_ascend : (tokens : List Spelled) (items : List ItemTree) → SpellsItems (numbered 0 tokens) items → Ascend (frame_tokens items)
tokens_ascend tokens items r =
    let same : map (λ t. t.at) (numbered 0 tokens) ≡ places r.stretch = ap (map (λ t. t.at)) r.is ∙ map-map (λ t. t.at) (λ m. m.token) r.stretch in
    picked_pairs (λ (n : ℕ). n) (λ x y. x < y) (frame_tokens items) (places r.stretch)
    (among r.spelled.0 r.stretch items r.spelled.1) (subst Ascend same (numbers_ascend 0 tokens))

pub frames_stand_in_order : FramesStandInOrder
frames_stand_in_order told tokens program d = ordered.frames_in_order told program.items (tokens_ascend tokens program.items d.items)

-- ---- behind the first token

begins_base : (l : ℕ) → Begins (base l)
begins_base l =
    begins_or (begins_making _ (begins_token l kind.Int))
    (begins_or (begins_making _ (begins_then _ (begins_token l kind.Unsigned)))
    (begins_or (begins_making _ (begins_token l kind.Void)) (begins_making _ (begins_then _ (begins_token l kind.Struct)))))

-- a function begins by its mode or its type
behind_function : (bound : ℕ) → ListsBehind (g.function_item bound) item_tokens
behind_function bound =
    behind_making _ (behind_next behind_none (behind_first (begins_base 0) (
    lists_none next_to lists_token 0 kind.Word next_to lists_none next_to lists_none next_to lists_none next_to lists_body bound
    )))
    (λ x. refl)

behind_item : (bound : ℕ) → ListsBehind (g.item bound) item_tokens
behind_item bound = behind_or (behind_making _ behind_none (λ x. refl)) (behind_or (behind_making _ behind_none (λ x. refl)) (behind_function bound))

among_others : (bound : ℕ) (s : Stretch) (items : List ItemTree) → g.Items bound s items → Among (frame_tokens items) (behind (places s))
among_others bound s items w = (behind_many (behind_item bound)).lists s items w

others_above : (tokens : List Spelled) → All (λ n. 0 < n) (behind (map (λ t. t.at) (numbered 0 tokens)))
others_above [] = All-nil (λ n. 0 < n)
others_above (t ∷ ts) = above 0 1 ts (omega arith)

tokens_above : (tokens : List Spelled) (items : List ItemTree) → SpellsItems (numbered 0 tokens) items → All (λ n. 0 < n) (frame_tokens items)
tokens_above tokens items r =
    let same : map (λ t. t.at) (numbered 0 tokens) ≡ places r.stretch = ap (map (λ t. t.at)) r.is ∙ map-map (λ t. t.at) (λ m. m.token) r.stretch in
    picked_all (λ (n : ℕ). n) (λ n. 0 < n) (frame_tokens items) (behind (places r.stretch))
    (among_others r.spelled.0 r.stretch items r.spelled.1) (subst (λ ns. All (λ n. 0 < n) (behind ns)) same (others_above tokens))

-- the tokens of a program at which frames may stand ascend behind the first one
pub all_ascend : (tokens : List Spelled) (program : ProgramTree) → SpellsProgram tokens program → Ascend (0 ∷ frame_tokens program.items)
all_ascend tokens program d =
    AllPairs-cons (λ x y. x < y) 0 (frame_tokens program.items) (tokens_above tokens program.items d.items) (tokens_ascend tokens program.items d.items)

pub frames_stand_behind_first : FramesStandBehindFirst
frames_stand_behind_first told tokens program d = ordered.frames_above told program.items 0 (tokens_above tokens program.items d.items)
