-- The program of a text has members in its structs, and no lengths in its parameters. The tokens of its frames stand in order, and its frames are on few levels.
use Rattle.std.proofs.Common.{◌≡◌, ℕ, suc, ◌<◌, List, [], ◌∷◌, ◌++◌, map, None, refl, arith}
use Rattle.std.specs.Prelude.{Bool, All}
use Rattle.fk_syntax.specs.Tree.{BaseType}
use Rattle.fk_syntax.specs.Program.{DeclaredTree, ItemTree}
use Rattle.fk_parse_combinators.specs.Languages.{Language}
use Rattle.fk_parse_declarations.specs.Grammar.{separated, Declarator, declared, member_name, member, parameter, parameters}
use Rattle.fk_parse.specs.Items.{struct_item, function_item, item}
use Rattle.fk_parse_laws.specs.Every.{Always}
use Rattle.fk_parse_laws.specs.Order.{Ascend}
use Rattle.fk_parse_laws.proofs.Holding.{Holds, always, of_making, of_then, of_or, Each, of_many}
use Rattle.fk_parse_laws.proofs.WordsInPrograms.{items_good}
use Rattle.fk_parse_laws.proofs.FramesInPrograms.{all_ascend}
use Rattle.fk_parse_laws.proofs.Levels.{texts_are_shallow}
use Rattle.fk_lower_names.specs.Proper.{HasMembers, AreWithoutLengths, ItemIsProper, ItemsAreProper, TextsAreProper}

abbrev HasSome : {A : Type 0} → List A → Type 0
HasSome [] = ⊥
HasSome (x ∷ xs) = Unit {0}

separated_some : {A : Type 0} (L : Language A) (l : ℕ) → Holds (separated l L) HasSome
separated_some L l = of_making Always always (λ x h. tt)

declared_some : (shared : Bool) (base : BaseType) (xs : List Declarator) → HasSome xs → HasMembers (map (declared shared base) xs)
declared_some shared base [] h = h
declared_some shared base (x ∷ xs) h = tt

member_some : (l : ℕ) → Holds (member l) HasMembers
member_some l = of_making _ (of_then always (of_then (separated_some (member_name l) l) always)) (λ x h. declared_some _ x.0 x.1.0 h.1.0)

more : (xs ys : List DeclaredTree) → HasMembers xs → HasMembers (xs ++ ys)
more [] ys h = absurd h
more (x ∷ xs) ys h = tt

struct_proper : Holds struct_item ItemIsProper
struct_proper = of_making _ (of_then always (of_then always (of_then always (of_then (member_some 0) always)))) (λ x h. more x.1.1.1.0 _ h.1.1.1.0)

each_without : (xs : List DeclaredTree) → Each (λ x. x.length ≡ None) xs → AreWithoutLengths xs
each_without [] h = tt
each_without (x ∷ xs) h = (h.0, each_without xs h.1)

parameters_without : (l : ℕ) → Holds (parameters l) AreWithoutLengths
parameters_without l = of_or (of_making Always always (λ x h. tt)) (each_of (of_making _ (of_then one (of_many (of_making _ (of_then always one) (λ x k. k.1)))) (λ x k. k)))
  where
    one : Holds (parameter l) (λ x. x.length ≡ None)
    one = of_making Always always (λ x h. refl)

    each_of : Holds (separated l (parameter l)) (Each (λ x. x.length ≡ None)) → Holds (separated l (parameter l)) AreWithoutLengths
    each_of h = record { holds = λ s xs is g. each_without xs (h.holds s xs is g) }

function_proper : (bound : ℕ) → Holds (function_item bound) ItemIsProper
function_proper bound =
    of_making _ (of_then always (of_then always (of_then always (of_then always (of_then always (of_then (parameters_without 0) always))))))
    (λ x h. h.1.1.1.1.1.0)

item_proper : (bound : ℕ) → Holds (item bound) ItemIsProper
item_proper bound = of_or struct_proper (of_or (of_making Always always (λ x h. tt)) (function_proper bound))

all_proper : (xs : List ItemTree) → Each ItemIsProper xs → ItemsAreProper xs
all_proper [] h = tt
all_proper (x ∷ xs) h = (h.0, all_proper xs h.1)

pub texts_are_proper : TextsAreProper
texts_are_proper source tokens program lexed spelled =
    let items = spelled.items in (
      all_proper program.items ((of_many (item_proper items.spelled.0)).holds items.stretch program.items items.spelled.1 (items_good source tokens program.items lexed items)),
      all_ascend tokens program spelled,
      texts_are_shallow source tokens program lexed spelled,
    )

-- the tokens of frames ascend, and are all behind the first one
pub others_ascend : (ts : List ℕ) → Ascend (0 ∷ ts) → Ascend ts × All (λ t. 0 < t) ts
others_ascend ts h = (
  (λ i j d less within. h (suc i) (suc j) d (omega arith) (omega arith)),
  (λ j d within. h 0 (suc j) d (omega arith) (omega arith)),
)
