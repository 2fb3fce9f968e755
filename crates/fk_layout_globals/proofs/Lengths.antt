-- There are as many words as the variables have.
use Rattle.std.proofs.Common.{◌≡◌, ℕ, zero, suc, ◌+◌, List, [], ◌∷◌, length, refl, ap, sym, ◌∙◌, length-append}
use Rattle.std.proofs.lemmas.List.Sums.{sum_by-cons}
use Rattle.std.specs.Prelude.{flat_map}
use Rattle.fk_syntax.specs.Program.{DeclaredTree}
use Rattle.fk_meaning_forms.specs.Tables.{Tables}
use Rattle.fk_layout_globals.specs.Rows.{begun, words_of, words_at_first, first_of, total_of}

length-begun : (words value : ℕ) → length (begun words value) ≡ words
length-begun zero value = refl
length-begun (suc n) value = ap suc (length-begun n 0)

pub length_of_words : (tables : Tables) (variables : List DeclaredTree) → length (flat_map (words_at_first tables) variables) ≡ total_of tables variables
length_of_words tables [] = refl
length_of_words tables (v ∷ vs) =
    length-append (words_at_first tables v) (flat_map (words_at_first tables) vs)
    ∙ ap (λ (n : ℕ). n + length (flat_map (words_at_first tables) vs)) (length-begun (words_of tables v) (first_of tables v))
    ∙ ap (λ (n : ℕ). words_of tables v + n) (length_of_words tables vs)
    ∙ sym (sum_by-cons (words_of tables) v vs)
