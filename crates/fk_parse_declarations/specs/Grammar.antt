-- The grammar of declarations. Each token of a stretch has the number of levels that are open at
-- it.
use Rattle.std.specs.Prelude.{ℕ, ◌+◌, List, [], ◌∷◌, ◌++◌, map, Option, Some, None, Bool, false}
use Rattle.std.specs.Prelude.{length}
use Rattle.fk_syntax.specs.Tree.{Named, BaseType, Tree}
use Rattle.fk_syntax.specs.Program.{DeclaredTree}
use Rattle.fk_parse_combinators.specs.Languages.{Placed, Language, token, telling, ◌then◌, ◌or◌}
use Rattle.fk_parse_combinators.specs.Languages.{making, many, maybe, name}
use Rattle.fk_expr.specs.Kinds.{number_told}
use Rattle.fk_expr.specs.Grammar.{base, Assignment}
use Rattle.fk_parse_declarations.specs.Kinds.{sharing_told}
use Rattle.fk_lex.specs.declared.token.TokenKind.TheVariants as kind

-- a list of one or more elements, with commas between them
abbrev pub separated : {A : Type 0} → ℕ → Language A → Language (List A)
separated l L = making (λ (first, others). first ∷ others)
    (L then many (making (λ (comma, next). next) (token l kind.Comma then L)))

-- length = "[" Number "]"
abbrev pub length_of : ℕ → Language ℕ
length_of l = making (λ (opening, ((at, (value, unsigned)), closing)). value)
    (token l kind.OpenBracket then telling l number_told then token l kind.CloseBracket)

-- a declared name without its sharing and the base of its type: stars, name, length, initial value
pub record Declarator : Type 0 where
  pub stars : ℕ
  pub name : Named
  pub length : Option ℕ
  pub first : Option Tree

-- stars Name [ length ] [ "=" assign ]
abbrev pub variable : ℕ → ℕ → Language Declarator
variable bound l =
    making (λ (stars, (word, (size, first))).
    record { stars = length stars; name = name word; length = size; first = first })
    (many (token l kind.Star) then token l kind.Word then maybe (length_of l)
    then maybe (making (λ (equals, value). value) (token l kind.Assign then Assignment l bound)))

-- stars Name [ length ]
abbrev pub member_name : ℕ → Language Declarator
member_name l =
    making (λ (stars, (word, size)).
    record { stars = length stars; name = name word; length = size; first = None })
    (many (token l kind.Star) then token l kind.Word then maybe (length_of l))

abbrev pub declared : Bool → BaseType → Declarator → DeclaredTree
declared shared base d =
    record {
      shared = shared;
      kind = record { base = base; stars = d.stars };
      name = d.name;
      length = d.length;
      first = d.first;
    }

-- a variable without a sharing word isn't shared
abbrev pub is_shared : Option (Placed × Bool) → Bool
is_shared None = false
is_shared (Some x) = x.1

-- [ "sh" | "pr" ] type variable { "," variable } ";"
abbrev pub variables : ℕ → ℕ → Language (List DeclaredTree)
variables bound l =
    making (λ (sharing, (words, (list, end))). map (declared (is_shared sharing) words) list)
    (maybe (telling l sharing_told) then base l then separated l (variable bound l)
    then token l kind.Semicolon)

-- member = type stars Name [ length ] { "," stars Name [ length ] } ";"
abbrev pub member : ℕ → Language (List DeclaredTree)
member l = making (λ (words, (list, end)). map (declared false words) list)
    (base l then separated l (member_name l) then token l kind.Semicolon)

-- the members of several declarations, one after the other
abbrev pub joined_lists : {A : Type 0} → List (List A) → List A
joined_lists [] = []
joined_lists (list ∷ lists) = list ++ joined_lists lists

-- param = [ "sh" | "pr" ] type stars Name
abbrev pub parameter : ℕ → Language DeclaredTree
parameter l =
    making (λ (sharing, (words, (stars, word))). record {
      shared = is_shared sharing;
      kind = record { base = words; stars = length stars };
      name = name word;
      length = None;
      first = None;
    })
    (maybe (telling l sharing_told) then base l then many (token l kind.Star)
    then token l kind.Word)

-- params = [ "void" ] | param { "," param }
abbrev pub parameters : ℕ → Language (List DeclaredTree)
parameters l = making (λ x. []) (maybe (token l kind.Void)) or separated l (parameter l)
