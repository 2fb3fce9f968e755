-- How far the tokens of a text reach, and how few items they make.
use Rattle.std.proofs.Common.{◌≡◌, ℕ, suc, ◌+◌, ◌*◌, ◌<◌, ◌≤◌, inl, inr, None, List, [], ◌∷◌, ◌++◌, length, take, drop, refl, sym, ap, subst, ◌∙◌, arith, length-append}
use Rattle.std.proofs.lemmas.List.{take-append-drop, length-map}
use Rattle.fk_syntax.specs.declared.place.Place.{Place}
use Rattle.fk_syntax.specs.Program.{ProgramTree}
use Rattle.fk_lex.specs.declared.step.Step.{Step}
use Rattle.fk_lex.specs.declared.step.Step.TheVariants.{Gap, Token, Fault}
use Rattle.fk_lex.specs.declared.token.TokenKind.{TokenKind}
use Rattle.fk_lex.specs.declared.token.TokenKind.TheVariants as kind
use Rattle.fk_lex.specs.Reading.{Spelled, Cuts, tokens_in, Tokens}
use Rattle.fk_lex.proofs.Extents.{short_line}
use Rattle.fk_parse_combinators.specs.Languages.{Stretch, Language, numbered, token, many}
use Rattle.fk_expr.specs.Grammar.{base}
use Rattle.fk_parse_declarations.specs.Grammar.{variables}
use Rattle.fk_parse.specs.Items.{struct_item, function_item, item}
use Rattle.fk_parse.specs.Parses.{SpellsProgram, beginning, end_of}

-- ---- columns

halves : (n : ℕ) (text : List ℕ) → length (take n text) + length (drop n text) ≡ length text
halves n text = sym (length-append (take n text) (drop n text)) ∙ ap length (take-append-drop n text)

-- the place behind the last token of a text is at most one column behind its bytes
within_by : (pieces : List Step) (before text : List ℕ) (end : Place) (most : ℕ) → Cuts pieces before text None
    → length before + length text < most → end.column ≤ most → (end_of end (tokens_in pieces before text)).column ≤ most
within_by [] before text end most cuts fits low = low
within_by (Gap n ∷ pieces) before text end most cuts fits low =
    within_by pieces (before ++ take n text) (drop n text) end most cuts.3 (omega (arith, length-append before (take n text), halves n text, fits)) low
within_by (Token n kind ∷ pieces) before text end most cuts fits low =
    within_by pieces (before ++ take n text) (drop n text) _ most cuts.3 (omega (arith, length-append before (take n text), halves n text, fits))
    (omega (arith, short_line before, halves n text, fits))
within_by (Fault n kind ∷ pieces) before text end most cuts fits low = absurd cuts.2

pub narrow : (source : List ℕ) (tokens : List Spelled) → Tokens source tokens → (end_of beginning tokens).column ≤ length source + 1
narrow source tokens t =
    subst (λ list. (end_of beginning list).column ≤ length source + 1) (sym t.2)
    (within_by t.0 [] source beginning (length source + 1) t.1 (omega arith) (omega arith))

-- ---- items

-- each stretch of a language has so many tokens at least
abbrev AtLeast : {A : Type 0} → ℕ → Language A → Type 0
AtLeast {A} n L = (s : Stretch) (a : A) → L s a → n ≤ length s

token_one : (l : ℕ) (k : TokenKind) → AtLeast 1 (token l k)
token_one l k s t w = let n = ap length w.0 in omega arith

-- a type has a token at least
base_one : (l : ℕ) → AtLeast 1 (base l)
base_one l s a (inl w) = token_one l kind.Int s w.0 w.1
base_one l s a (inr (inl w)) =
    let both = ap length w.1.2 ∙ length-append w.1.0 w.1.1 in
    let word = token_one l kind.Unsigned w.1.0 w.0.0 w.1.3 in
    omega arith
base_one l s a (inr (inr (inl w))) = token_one l kind.Void s w.0 w.1
base_one l s a (inr (inr (inr w))) =
    let both = ap length w.1.2 ∙ length-append w.1.0 w.1.1 in
    let word = token_one l kind.Struct w.1.0 w.0.0 w.1.3 in
    omega arith

-- `struct` and its name
struct_two : AtLeast 2 struct_item
struct_two s a w =
    let whole = w.1 in
    let others = whole.4 in
    let all = ap length whole.2 ∙ length-append whole.0 whole.1 in
    let word = token_one 0 kind.Struct whole.0 _ whole.3 in
    let rest = ap length others.2 ∙ length-append others.0 others.1 in
    let name = token_one 0 kind.Word others.0 _ others.3 in
    omega arith

-- a type and the semicolon
variables_two : (bound : ℕ) → AtLeast 2 (variables bound 0)
variables_two bound s a w =
    let whole = w.1 in
    let typed = whole.4 in
    let last = typed.4 in
    let all = ap length whole.2 ∙ length-append whole.0 whole.1 in
    let others = ap length typed.2 ∙ length-append typed.0 typed.1 in
    let first = base_one 0 typed.0 _ typed.3 in
    let rest = ap length last.2 ∙ length-append last.0 last.1 in
    let end = token_one 0 kind.Semicolon last.1 _ last.4 in
    omega arith

-- a type and the name
function_two : (bound : ℕ) → AtLeast 2 (function_item bound)
function_two bound s a w =
    let whole = w.1 in
    let typed = whole.4 in
    let starred = typed.4 in
    let named = starred.4 in
    let all = ap length whole.2 ∙ length-append whole.0 whole.1 in
    let others = ap length typed.2 ∙ length-append typed.0 typed.1 in
    let first = base_one 0 typed.0 _ typed.3 in
    let rest = ap length starred.2 ∙ length-append starred.0 starred.1 in
    let last = ap length named.2 ∙ length-append named.0 named.1 in
    let name = token_one 0 kind.Word named.0 _ named.3 in
    omega arith

item_two : (bound : ℕ) → AtLeast 2 (item bound)
item_two bound s a (inl w) = struct_two s a w
item_two bound s a (inr (inl w)) = variables_two bound s w.0 w.1
item_two bound s a (inr (inr w)) = function_two bound s a w

many_items : {A : Type 0} (L : Language A) → AtLeast 2 L → (s : Stretch) (list : List A) → many L s list → 2 * length list ≤ length s
many_items L h s [] w = omega arith
many_items L h s (a ∷ list) w =
    let all = ap length w.2 ∙ length-append w.0 w.1 in
    let first = h w.0 a w.3 in
    let others = many_items L h w.1 list w.4 in
    omega arith

length-numbered : (at : ℕ) (tokens : List Spelled) → length (numbered at tokens) ≡ length tokens
length-numbered at [] = refl
length-numbered at (t ∷ tokens) = ap suc (length-numbered (at + 1) tokens)

-- tokens make at most half as many items
pub few_items : (tokens : List Spelled) (tree : ProgramTree) → SpellsProgram tokens tree → 2 * length tree.items ≤ length tokens
few_items tokens tree d =
    let v = d.items in
    let all = ap length v.is ∙ length-map v.stretch (λ m. m.token) in
    let items = many_items (item v.spelled.0) (item_two v.spelled.0) v.stretch tree.items v.spelled.1 in
    omega (arith, length-numbered 0 tokens)
