-- Words among values, and the address of an element.
use Rattle.std.proofs.Common.{◌≡◌, ℕ, ◌+◌, ◌*◌, ◌^◌, ◌<◌, List, [], ◌∷◌, All, ap, sym, ◌∙◌, arith}
use Rattle.std.proofs.lemmas.List.Elements.{All-head, All-tail}
use Rattle.fk_num.specs.Word.{word, word_sum}
use Rattle.fk_meaning.specs.Processor.{last, before}
use Rattle.fk_gen.specs.Lines.{high_part, low_part}
use Rattle.fk_gen.proofs.Values.{number_of_parts}

pub last_word : (vs : List ℕ) → All (λ v. v < 2 ^ 32) vs → last vs < 2 ^ 32
last_word [] all = omega arith
last_word (v ∷ vs) all = All-head (λ v. v < 2 ^ 32) v vs all

pub words_before : (vs : List ℕ) → All (λ v. v < 2 ^ 32) vs → All (λ v. v < 2 ^ 32) (before 1 vs)
words_before [] all = all
words_before (v ∷ vs) all = All-tail (λ v. v < 2 ^ 32) v vs all

sum : (a x : ℕ) → word_sum a (word x) ≡ word (a + x)
sum a x = omega arith

pub element : (address index size : ℕ) → size < 2 ^ 32
    → word_sum address (word (index * word_sum (high_part size * 4096) (low_part size))) ≡ word (address + index * size)
element address index size small =
    let e : word_sum (high_part size * 4096) (low_part size) ≡ size = number_of_parts size ∙ omega arith in
    ap (λ s. word_sum address (word (index * s))) e ∙ sum address (index * size)

-- that of one of a word
pub word_element : (address index size : ℕ) → size ≡ 4 → word_sum address (word (index * 4)) ≡ word (address + index * size)
word_element address index size e = sum address (index * 4) ∙ ap (λ s. word (address + index * s)) (sym e)
