-- Words in a file: their places and their bytes.
use Rattle.std.proofs.Common.{◌≡◌, ℕ, suc, ◌*◌, ◌/◌, ◌%◌, ◌^◌, ◌<◌, List, [], ◌∷◌, ◌++◌, flat_map, get_or, length, take, drop, refl, sym, ap, ◌∙◌, append_assoc, arith}
use Rattle.std.proofs.lemmas.List.{drop_at, length-take-le, take-append-drop, take_at}
use Rattle.std.proofs.lemmas.List.Concat.{flat_map-append}
use Rattle.std.proofs.Math.Seq.{drop-cons}
use Rattle.byteorder.specs.Endian.{little_bytes}
use Rattle.fk_image.specs.Refusals.{word_at}
use Rattle.fk_image.specs.Spelling.{word_bytes}
use Rattle.fk_image.proofs.Images.{length-words}
use Rattle.fk_image.proofs.Words.{word_at-spelled}

four-same : {a b c d p q r s : ℕ} → a ≡ p → b ≡ q → c ≡ r → d ≡ s → a ∷ b ∷ c ∷ d ∷ [] ≡ p ∷ q ∷ r ∷ s ∷ []
four-same ap bq cr ds = cc

-- a word's bytes are those of its low 32 bits
pub word_bytes-wraps : (n : ℕ) → word_bytes (n % 2 ^ 32) ≡ word_bytes n
unfolding word_bytes
word_bytes-wraps n =
    let a : n % 2 ^ 32 % 256 ≡ n % 256 = omega arith in
    let b : n % 2 ^ 32 / 256 % 256 ≡ n / 256 % 256 = omega arith in
    let c : n % 2 ^ 32 / 65536 % 256 ≡ n / 65536 % 256 = omega arith in
    let d : n % 2 ^ 32 / 16777216 % 256 ≡ n / 16777216 % 256 = omega arith in
    four-same a b c d

-- what `write_u32_into` says
pub little-words : (words : List ℕ) → flat_map (little_bytes 4) words ≡ flat_map word_bytes words
unfolding word_bytes
little-words [] = refl
little-words (w ∷ ws) = ap (λ (bs : List ℕ). little_bytes 4 w ++ bs) (little-words ws)

regroup : (a b c d : List ℕ) → a ++ (b ++ c) ++ d ≡ a ++ (b ++ (c ++ d))
regroup a b c d = simp append_assoc

-- the word at a place of bytes that begin with words
pub word-in : (words rest : List ℕ) (i : ℕ) → get_or words i 0 < 2 ^ 32 → i < length words → word_at (flat_map word_bytes words ++ rest) i ≡ get_or words i 0
word-in words rest i fit within =
    let word = get_or words i 0 in
    let split : words ≡ take i words ++ word ∷ drop (suc i) words = sym (take-append-drop i words) ∙ ap (λ (ws : List ℕ). take i words ++ ws) (drop-cons words i 0 within) in
    let before = flat_map word_bytes (take i words) in
    let behind = flat_map word_bytes (drop (suc i) words) in
    let spelling : flat_map word_bytes words ++ rest ≡ before ++ (word_bytes word ++ (behind ++ rest)) = ap (λ (ws : List ℕ). flat_map word_bytes ws ++ rest) split ∙ ap (λ (bs : List ℕ). bs ++ rest) (flat_map-append word_bytes (take i words) (word ∷ drop (suc i) words)) ∙ regroup before (word_bytes word) behind rest in
    let size : length before ≡ 4 * i = omega (arith, length-words (take i words), length-take-le i words (omega arith)) in
    ap (λ (bs : List ℕ). word_at bs i) spelling ∙ word_at-spelled before (behind ++ rest) i word size fit

-- lists that begin with equally long lists
pub append-injective : {X : Type 0} (a b c d : List X) → length a ≡ length c → a ++ b ≡ c ++ d → (a ≡ c) × (b ≡ d)
append-injective a b c d len e =
    (sym (take_at a b (length c) len) ∙ ap (take (length c)) e ∙ take_at c d (length c) refl, sym (drop_at a b (length c) len) ∙ ap (drop (length c)) e ∙ drop_at c d (length c) refl)
