-- The parts of an image's bytes.
use Rattle.std.proofs.Common.{◌≡◌, ℕ, ◌+◌, ◌*◌, ◌<◌, List, [], ◌∷◌, ◌++◌, All, flat_map, get_or, length, drop, take, ap, ◌∙◌, append_assoc, length-drop, length-take, arith}
use Rattle.std.proofs.lemmas.List.{append-nil, drop-drop, take_more}
use Rattle.std.proofs.lemmas.List.Concat.{flat_map-append}
use Rattle.std.proofs.lemmas.List.Elements.{All-append, All-same}
use Rattle.fk_image.specs.Refusals.{HasLength, code_words, commit_count, commits_place, global_words, site_count, sites_place}
use Rattle.fk_image.specs.Spelling.{IsWord, word_bytes}
use Rattle.fk_image.specs.Tables.{code_table, commit_table, global_table, site_table}

pub spelled-parts : (front a b c d e : List ℕ) → front ++ flat_map word_bytes (a ++ b ++ c ++ d ++ e) ≡ front ++ flat_map word_bytes a ++ flat_map word_bytes b ++ flat_map word_bytes c ++ flat_map word_bytes d ++ flat_map word_bytes e
spelled-parts front a b c d e = simp (flat_map-append, append_assoc)

-- one more entry of a table
flat_map-take_more : {X : Type 0} (f : X → List ℕ) (xs : List X) (i : ℕ) (d : X) → i < length xs → flat_map f (take (i + 1) xs) ≡ flat_map f (take i xs) ++ f (get_or xs i d)
flat_map-take_more f xs i d within =
    ap (flat_map f) (take_more xs i d within) ∙ flat_map-append f (take i xs) (get_or xs i d ∷ [])
    ∙ ap (λ (ys : List ℕ). flat_map f (take i xs) ++ ys) (append-nil (f (get_or xs i d)))

pub words-take_more : {X : Type 0} (f : X → List ℕ) (xs : List X) (i : ℕ) (d : X) → i < length xs → All IsWord (flat_map f (take i xs)) → All IsWord (f (get_or xs i d)) → All IsWord (flat_map f (take (i + 1) xs))
words-take_more f xs i d within before here =
    All-same IsWord (flat_map f (take (i + 1) xs)) (flat_map f (take i xs) ++ f (get_or xs i d)) (flat_map-take_more f xs i d within)
    (All-append IsWord (flat_map f (take i xs)) (f (get_or xs i d)) before here)

pub words-parts : (a b c d e : List ℕ) → All IsWord a → All IsWord b → All IsWord c → All IsWord d → All IsWord e → All IsWord (a ++ b ++ c ++ d ++ e)
words-parts a b c d e p q r s t =
    All-append IsWord (a ++ b ++ c ++ d) e (All-append IsWord (a ++ b ++ c) d (All-append IsWord (a ++ b) c (All-append IsWord a b p q) r) s) t

-- what stands behind a part that stands behind n
pub drop-next : (bytes rest : List ℕ) (n m p : ℕ) → rest ≡ drop n bytes → n + m ≡ p → drop m rest ≡ drop p bytes
drop-next bytes rest n m p e at =
    ap (drop m) e ∙ drop-drop m n bytes ∙ ap (λ (k : ℕ). drop k bytes) at

pub take-same : (bytes rest : List ℕ) (n m p : ℕ) → rest ≡ drop p bytes → n ≡ m → take n rest ≡ take m (drop p bytes)
take-same bytes rest n m p e same = cc

-- how many bytes each table has
pub length-code : (bytes : List ℕ) → HasLength bytes → length (code_table bytes) ≡ 4 * code_words bytes
length-code bytes has = omega (arith, has.1, length-take (4 * code_words bytes) (drop 24 bytes), length-drop 24 bytes)

pub length-globals : (bytes : List ℕ) → HasLength bytes → length (global_table bytes) ≡ 4 * global_words bytes
length-globals bytes has =
    omega (arith, has.1, length-take (4 * global_words bytes) (drop (24 + 4 * code_words bytes) bytes), length-drop (24 + 4 * code_words bytes) bytes)

pub length-sites_table : (bytes : List ℕ) → HasLength bytes → length (site_table bytes) ≡ 12 * site_count bytes
length-sites_table bytes has =
    omega (arith, has.1, length-take (12 * site_count bytes) (drop (4 * sites_place bytes) bytes), length-drop (4 * sites_place bytes) bytes)

pub length-commits_table : (bytes : List ℕ) → HasLength bytes → length (commit_table bytes) ≡ 8 * commit_count bytes
length-commits_table bytes has = omega (arith, has.1, length-drop (4 * commits_place bytes) bytes)
