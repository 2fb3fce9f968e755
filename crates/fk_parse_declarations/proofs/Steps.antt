-- How many tokens are left, and lists of lists.
use Rattle.std.proofs.Common.{◌≡◌, List, [], ◌∷◌, ◌++◌, sym, ap, ◌∙◌, arith, append_assoc}
use Rattle.std.proofs.lemmas.List.{append-nil}
use Rattle.fk_parse_combinators.specs.Languages.{Placed}
use Rattle.fk_parse_combinators.specs.Ahead.{Shortens}
use Rattle.fk_parse_declarations.specs.Grammar.{joined_lists}

pub shorter_still : (a b c : List Placed) → Shortens a b → Shortens b c → Shortens a c
shorter_still a b c g h = (omega arith, g.1)

pub joined_lists-push : {A : Type 0} (lists : List (List A)) (list : List A) → joined_lists (lists ++ list ∷ []) ≡ joined_lists lists ++ list
joined_lists-push [] list = append-nil list
joined_lists-push (x ∷ lists) list = ap (λ l. x ++ l) (joined_lists-push lists list) ∙ sym (append_assoc x (joined_lists lists) list)
