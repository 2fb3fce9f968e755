-- The numbers of the program of a text are words.
use Rattle.std.proofs.Common.{ℕ, ◌+◌, ◌≤◌, List, [], ◌∷◌, ◌++◌, subst}
use Rattle.std.proofs.lemmas.List.Elements.{All-head, All-tail}
use Rattle.fk_syntax.specs.Program.{DeclaredTree, ItemTree}
use Rattle.fk_lex.specs.Reading.{Spelled, Tokens}
use Rattle.fk_parse_combinators.specs.declared.limits.TheConstants.{LEVELS}
use Rattle.fk_parse_combinators.specs.Languages.{Placed, Marked, numbered, Stretch, tokens_of}
use Rattle.fk_parse_combinators.specs.Reads.{IsShallow}
use Rattle.fk_parse_declarations.specs.Grammar.{separated, member_name, member, joined_lists, parameter, parameters}
use Rattle.fk_parse.specs.Items.{struct_item, function_item, item}
use Rattle.fk_parse.specs.Parses.{SpellsItems}
use Rattle.fk_parse_laws.specs.Every.{Always, OptionHas, VariablesHave}
use Rattle.fk_parse_laws.specs.Words.{LengthIsWord, word_numbers, ItemHasWords, ItemsHaveWords, TextsHaveWords}
use Rattle.fk_parse_laws.proofs.Holding.{IsGood, Good, Holds, always, of_making, of_then, of_or, Each, of_many, of_maybe}
use Rattle.fk_parse_laws.proofs.Lexed.{tokens_good}
use Rattle.fk_parse_laws.proofs.Expressions.{AreRead}
use Rattle.fk_parse_laws.proofs.Bodies.{separated_hold, length_has, DeclaratorHas, read_length, declared_have, variables_have, body_has}

read : AreRead word_numbers
read = record {
  number = λ value h. h;
  text = λ bytes h. h;
  links = λ x xs. tt;
  suffixes = λ x xs. tt;
  member = λ member. tt;
  length = λ length h. h;
}

-- ---- members and parameters

member_name_has : (l : ℕ) → Holds (member_name l) (DeclaratorHas word_numbers read)
member_name_has l = of_making _ (of_then always (of_then always (of_maybe (length_has l)))) (λ x h. (read_length word_numbers read x.1.1 h.1.1, tt))

member_has : (l : ℕ) → Holds (member l) (VariablesHave word_numbers)
member_has l = of_making _ (of_then always (of_then (separated_hold (member_name_has l)) always)) (λ x h. declared_have word_numbers read _ x.0 x.1.0 h.1.0)

both_have : (xs ys : List DeclaredTree) → VariablesHave word_numbers xs → VariablesHave word_numbers ys → VariablesHave word_numbers (xs ++ ys)
both_have [] ys h k = k
both_have (x ∷ xs) ys h k = (h.0, h.1, both_have xs ys h.2 k)

lists_have : (lists : List (List DeclaredTree)) → Each (VariablesHave word_numbers) lists → VariablesHave word_numbers (joined_lists lists)
lists_have [] h = tt
lists_have (list ∷ lists) h = both_have list (joined_lists lists) h.0 (lists_have lists h.1)

abbrev ParameterHasWords : DeclaredTree → Type 0
ParameterHasWords x = LengthIsWord x.length × OptionHas word_numbers x.first

each_have : (xs : List DeclaredTree) → Each ParameterHasWords xs → VariablesHave word_numbers xs
each_have [] h = tt
each_have (x ∷ xs) h = (h.0.0, h.0.1, each_have xs h.1)

parameters_have : (l : ℕ) → Holds (parameters l) (VariablesHave word_numbers)
parameters_have l = of_or (of_making Always always (λ x h. tt)) (each_of (separated_hold parameter_has))
  where
    parameter_has : Holds (parameter l) ParameterHasWords
    parameter_has = of_making Always always (λ x h. (tt, tt))

    each_of : Holds (separated l (parameter l)) (Each ParameterHasWords) → Holds (separated l (parameter l)) (VariablesHave word_numbers)
    each_of h = record { holds = λ s xs is g. each_have xs (h.holds s xs is g) }

-- ---- items

struct_has : Holds struct_item ItemHasWords
struct_has =
    of_making _ (of_then always (of_then always (of_then always (of_then (member_has 0) (of_then (of_many (member_has 0)) always)))))
    (λ x h. both_have x.1.1.1.0 (joined_lists x.1.1.1.1.0) h.1.1.1.0 (lists_have x.1.1.1.1.0 h.1.1.1.1.0))

function_has : (bound : ℕ) → Holds (function_item bound) ItemHasWords
function_has bound =
    of_making _ (of_then always (of_then always (of_then always (of_then always (of_then always (of_then (parameters_have 0) (of_then always (body_has word_numbers read bound))))))))
    (λ x h. (h.1.1.1.1.1.0, h.1.1.1.1.1.1.1))

item_has : (bound : ℕ) → Holds (item bound) ItemHasWords
item_has bound = of_or struct_has (of_or (of_making _ (variables_have word_numbers read bound 0) (λ x h. h)) (function_has bound))

items_have : (xs : List ItemTree) → Each ItemHasWords xs → ItemsHaveWords xs
items_have [] h = tt
items_have (x ∷ xs) h = (h.0, items_have xs h.1)

-- ---- texts

abbrev IsGoodPlaced : Placed → Type 0
IsGoodPlaced t = IsGood t.kind t.bytes

numbered_good : (at : ℕ) (tokens : List Spelled) → Each (λ (t : Spelled). IsGood t.kind t.bytes) tokens → Each IsGoodPlaced (numbered at tokens)
numbered_good at [] h = tt
numbered_good at (token ∷ tokens) h = (h.0, numbered_good (at + 1) tokens h.1)

stretch_good : (s : Stretch) → Each IsGoodPlaced (tokens_of s) → IsShallow s → Good s
stretch_good [] h low = tt
stretch_good (m ∷ s) h low = (h.0, All-head (λ (n : Marked). n.level ≤ LEVELS) m s low, stretch_good s h.1 (All-tail (λ (n : Marked). n.level ≤ LEVELS) m s low))

-- the tokens of a stretch that spells the items of a text are good
pub items_good : (source : List ℕ) (tokens : List Spelled) (items : List ItemTree) → Tokens source tokens → (spelled : SpellsItems (numbered 0 tokens) items) → Good spelled.stretch
items_good source tokens items lexed spelled =
    stretch_good spelled.stretch (subst (Each IsGoodPlaced) spelled.is (numbered_good 0 tokens (tokens_good source tokens lexed))) spelled.shallow

pub texts_have_words : TextsHaveWords
texts_have_words source tokens program lexed spelled =
    let items = spelled.items in
    items_have program.items ((of_many (item_has items.spelled.0)).holds items.stretch program.items items.spelled.1 (items_good source tokens program.items lexed items))
