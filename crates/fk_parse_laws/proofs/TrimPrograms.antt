-- The program of a text is trim.
use Rattle.std.proofs.Common.{◌≡◌, ℕ, List, [], ◌∷◌, None, refl}
use Rattle.fk_syntax.specs.Program.{DeclaredTree, ItemTree}
use Rattle.fk_parse_declarations.specs.Grammar.{separated, parameter, parameters}
use Rattle.fk_parse.specs.Items.{struct_item, function_item, item}
use Rattle.fk_syntax.specs.Tree as t
use Rattle.fk_syntax.specs.Tree.{SuffixTree, suffixes_of}
use Rattle.fk_parse_laws.specs.Every.{Always}
use Rattle.fk_parse_laws.specs.Trim.{HasSuffixes, nonempty_lists, ParametersAreTrim, ItemIsTrim, ItemsAreTrim, TextsAreTrim}
use Rattle.fk_parse_laws.proofs.Holding.{Holds, always, of_making, of_then, of_or, Each, of_many}
use Rattle.fk_parse_laws.proofs.Expressions.{AreRead}
use Rattle.fk_parse_laws.proofs.Bodies.{separated_hold, variables_have, body_has}
use Rattle.fk_parse_laws.proofs.WordsInPrograms.{items_good}

read : AreRead nonempty_lists
read = record {
  number = λ value h. tt;
  text = λ bytes h. tt;
  links = λ x xs. tt;
  suffixes = some_suffix;
  member = λ member. tt;
  length = λ length h. tt;
}
  where
    some_suffix : (x : SuffixTree) (xs : List SuffixTree) → HasSuffixes (suffixes_of (x ∷ xs))
    some_suffix (t.Index spot by) xs = tt
    some_suffix (t.Call spot arguments) xs = tt
    some_suffix (t.Dot spot member) xs = tt
    some_suffix (t.Arrow spot member) xs = tt
    some_suffix (t.Up spot) xs = tt
    some_suffix (t.Down spot) xs = tt

each_trim : (xs : List DeclaredTree) → Each (λ x. x.first ≡ None) xs → ParametersAreTrim xs
each_trim [] h = tt
each_trim (x ∷ xs) h = (h.0, each_trim xs h.1)

parameters_trim : (l : ℕ) → Holds (parameters l) ParametersAreTrim
parameters_trim l = of_or (of_making Always always (λ x h. tt)) (each_of (separated_hold parameter_trim))
  where
    parameter_trim : Holds (parameter l) (λ x. x.first ≡ None)
    parameter_trim = of_making Always always (λ x h. refl)

    each_of : Holds (separated l (parameter l)) (Each (λ x. x.first ≡ None)) → Holds (separated l (parameter l)) ParametersAreTrim
    each_of h = record { holds = λ s xs is g. each_trim xs (h.holds s xs is g) }

struct_trim : Holds struct_item ItemIsTrim
struct_trim = of_making Always always (λ x h. tt)

function_trim : (bound : ℕ) → Holds (function_item bound) ItemIsTrim
function_trim bound =
    of_making _ (of_then always (of_then always (of_then always (of_then always (of_then always (of_then (parameters_trim 0) (of_then always (body_has nonempty_lists read bound))))))))
    (λ x h. (h.1.1.1.1.1.0, h.1.1.1.1.1.1.1))

item_trim : (bound : ℕ) → Holds (item bound) ItemIsTrim
item_trim bound = of_or struct_trim (of_or (of_making _ (variables_have nonempty_lists read bound 0) (λ x h. h)) (function_trim bound))

items_trim : (xs : List ItemTree) → Each ItemIsTrim xs → ItemsAreTrim xs
items_trim [] h = tt
items_trim (x ∷ xs) h = (h.0, items_trim xs h.1)

pub texts_are_trim : TextsAreTrim
texts_are_trim source tokens program lexed spelled =
    let items = spelled.items in
    items_trim program.items ((of_many (item_trim items.spelled.0)).holds items.stretch program.items items.spelled.1 (items_good source tokens program.items lexed items))
