-- A loop that reads as many as come, where each is pushed onto a list.
use Rattle.std.proofs.Common.{◌≡◌, List, [], ◌∷◌, ◌++◌, Ok, Bool, true, map, sym, ap, ◌∙◌, subst}
use Rattle.std.proofs.lemmas.List.{map-append}
use Rattle.fk_lex.specs.declared.token.TokenKind.{TokenKind}
use Rattle.fk_parse_combinators.specs.Languages.{Placed}
use Rattle.fk_parse_combinators.specs.Readers.{Reader, next_is}
use Rattle.fk_parse_combinators.specs.Ahead.{Shortens}
use Rattle.fk_parse_combinators.proofs.Loops.{Loops, loops_start, loops_more}

pub pushed_start : {A B : Type 0} (f : B → A) (is : TokenKind → Bool) (P : Reader A) (start : List Placed) (items : List B)
    → items ≡ [] → Loops is P start (map f items) start
pushed_start f is P start items e = subst (λ xs. Loops is P start (map f xs) start) (sym e) (loops_start is P start)

pub pushed_more : {A B : Type 0} (f : B → A) (is : TokenKind → Bool) (P : Reader A) (start ahead rest : List Placed) (items more : List B) (b : B)
    → next_is is ahead ≡ true → P ahead ≡ Ok (f b, rest) → Shortens ahead rest → more ≡ items ++ b ∷ [] → Loops is P start (map f items) ahead
    → Loops is P start (map f more) rest
pushed_more f is P start ahead rest items more b n e less d l =
    subst (λ xs. Loops is P start xs rest) (sym (ap (map f) d ∙ map-append f items (b ∷ []))) (loops_more is P start ahead rest (map f items) (f b) n e less l)
