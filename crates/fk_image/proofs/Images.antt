-- Bytes whose tables are those of an image are the image's.
use Rattle.std.proofs.Common.{◌≡◌, ℕ, ◌+◌, ◌*◌, ◌≤◌, List, [], ◌∷◌, ◌++◌, All, codes, flat_map, length, take, drop, vec_len, refl, sym, ap, subst, ◌∙◌, append_assoc, arith}
use Rattle.std.proofs.lemmas.List.{append-nil, length-append, length-drop, length-take, take-append-drop, drop-drop}
use Rattle.std.proofs.lemmas.List.Elements.{All-from_recursion}
use Rattle.fk_image.specs.declared.Image.{Image}
use Rattle.fk_image.specs.Limits.{IsCommit, IsSite, IsWithinLimits, Rise}
use Rattle.fk_image.specs.Refusals.{HasLength, code_words, commit_count, commits_place, global_words, site_count, sites_place, word_at}
use Rattle.fk_image.specs.Spelling.{IsImageOf, IsWord, Spells, commit_words, header_words, image_words, site_words, spelled, word_bytes}
use Rattle.fk_image.specs.Tables.{code_table, commit_table, global_table, site_table}
use Rattle.fk_image.proofs.Parts.{spelled-parts, words-parts}
use Rattle.fk_image.proofs.Words.{IsBytes, length-word_bytes, take-word, word_at-lt}

pub length-words : (words : List ℕ) → length (flat_map word_bytes words) ≡ 4 * length words
length-words [] = refl
length-words (w ∷ ws) =
    let rest = length-words ws in
    omega (arith, length-append (word_bytes w) (flat_map word_bytes ws), length-word_bytes w, rest)

pub length-sites : (sites : List (ℕ × ℕ × ℕ)) → length (flat_map site_words sites) ≡ 3 * length sites
length-sites [] = refl
length-sites (s ∷ ss) = let rest = length-sites ss in omega (arith, rest)

pub length-commits : (commits : List (ℕ × ℕ)) → length (flat_map commit_words commits) ≡ 2 * length commits
length-commits [] = refl
length-commits (c ∷ cs) = let rest = length-commits cs in omega (arith, rest)

length-Spells : {words bytes : List ℕ} → Spells words bytes → length bytes ≡ 4 * length words
length-Spells {words} {bytes} s = ap length (sym s.spelling) ∙ length-words words

-- the tables of an image, as its bytes have them
pub record HasTables (bytes : List ℕ) (image : Image) : Type 0 where
  pub code : Spells image.code.items (code_table bytes)
  pub globals : Spells image.globals.items (global_table bytes)
  pub sites : Spells (flat_map site_words image.sites.items) (site_table bytes)
  pub commits : Spells (flat_map commit_words image.commits.items) (commit_table bytes)

-- how many entries they have
record HasCounts (bytes : List ℕ) (image : Image) : Type 0 where
  pub code : vec_len image.code ≡ code_words bytes
  pub globals : vec_len image.globals ≡ global_words bytes
  pub sites : vec_len image.sites ≡ site_count bytes
  pub commits : vec_len image.commits ≡ commit_count bytes

counts : (bytes : List ℕ) (image : Image) → HasLength bytes → HasTables bytes image → HasCounts bytes image
counts bytes image has tables = record {
  code = omega (arith, has.1, image.code.ok.0, length-Spells tables.code, length-take (4 * code_words bytes) (drop 24 bytes), length-drop 24 bytes);
  globals = omega (arith, has.1, image.globals.ok.0, length-Spells tables.globals, length-take (4 * global_words bytes) (drop (24 + 4 * code_words bytes) bytes), length-drop (24 + 4 * code_words bytes) bytes);
  sites = omega (arith, has.1, image.sites.ok.0, length-Spells tables.sites, length-sites image.sites.items, length-take (12 * site_count bytes) (drop (4 * sites_place bytes) bytes), length-drop (4 * sites_place bytes) bytes);
  commits = omega (arith, has.1, image.commits.ok.0, length-Spells tables.commits, length-commits image.commits.items, length-drop (4 * commits_place bytes) bytes);
}

-- the words of the header
abbrev read_words : List ℕ → List ℕ
read_words bytes = 1 ∷ code_words bytes ∷ global_words bytes ∷ site_count bytes ∷ commit_count bytes ∷ []

header-same : (bytes : List ℕ) (image : Image) → HasCounts bytes image → read_words bytes ≡ header_words image
header-same bytes image h = let a = h.code in let b = h.globals in let d = h.sites in let e = h.commits in cc

regroup-words : (f a b c d e : List ℕ) → f ++ a ++ b ++ c ++ d ++ e ≡ f ++ (a ++ (b ++ (c ++ (d ++ (e ++ [])))))
regroup-words f a b c d e = simp (append_assoc, append-nil)

-- the header spells the front
front : (bytes : List ℕ) → IsBytes bytes → HasLength bytes → take 24 bytes ≡ codes "FK95" ++ flat_map word_bytes (read_words bytes)
front bytes fits has =
    let w = λ (place : ℕ). word_bytes (word_at bytes place) in
    let magic : take 4 bytes ≡ codes "FK95" = has.0.0.0.1 in
    let version : w 1 ≡ word_bytes 1 = ap word_bytes has.0.0.1 in
    let long : 24 ≤ length bytes = has.0.0.0.0 in
    let a : take 8 bytes ≡ take 4 bytes ++ w 1 = take-word bytes 1 fits (omega arith) in
    let b : take 12 bytes ≡ take 8 bytes ++ w 2 = take-word bytes 2 fits (omega arith) in
    let c : take 16 bytes ≡ take 12 bytes ++ w 3 = take-word bytes 3 fits (omega arith) in
    let d : take 20 bytes ≡ take 16 bytes ++ w 4 = take-word bytes 4 fits (omega arith) in
    let e : take 24 bytes ≡ take 20 bytes ++ w 5 = take-word bytes 5 fits (omega arith) in
    let all : take 24 bytes ≡ codes "FK95" ++ word_bytes 1 ++ w 2 ++ w 3 ++ w 4 ++ w 5 = cc in
    all ∙ regroup-words (codes "FK95") (word_bytes 1) (w 2) (w 3) (w 4) (w 5)

-- what stands behind a place is so many bytes and the rest
cut : (bytes : List ℕ) (n m p : ℕ) → n + m ≡ p → drop n bytes ≡ take m (drop n bytes) ++ drop p bytes
cut bytes n m p e =
    sym (take-append-drop m (drop n bytes))
    ∙ ap (λ (xs : List ℕ). take m (drop n bytes) ++ xs) (drop-drop m n bytes ∙ ap (λ (k : ℕ). drop k bytes) e)

regroup-tables : (a b c d e : List ℕ) → a ++ (b ++ (c ++ (d ++ e))) ≡ a ++ b ++ c ++ d ++ e
regroup-tables a b c d e = simp append_assoc

-- the front and the four tables are all the bytes
whole : (bytes : List ℕ) → bytes ≡ take 24 bytes ++ code_table bytes ++ global_table bytes ++ site_table bytes ++ commit_table bytes
whole bytes =
    let code = cut bytes 24 (4 * code_words bytes) (24 + 4 * code_words bytes) refl in
    let globals = cut bytes (24 + 4 * code_words bytes) (4 * global_words bytes) (4 * sites_place bytes) (omega arith) in
    let sites = cut bytes (4 * sites_place bytes) (12 * site_count bytes) (4 * commits_place bytes) (omega arith) in
    sym (take-append-drop 24 bytes)
    ∙ ap (λ (xs : List ℕ). take 24 bytes ++ xs) (code ∙ ap (λ (xs : List ℕ). code_table bytes ++ xs) (globals ∙ ap (λ (xs : List ℕ). global_table bytes ++ xs) sites))
    ∙ regroup-tables (take 24 bytes) (code_table bytes) (global_table bytes) (site_table bytes) (commit_table bytes)

same-parts : (a b c d e p q r s t : List ℕ) → a ≡ p → b ≡ q → c ≡ r → d ≡ s → e ≡ t → a ++ b ++ c ++ d ++ e ≡ p ++ q ++ r ++ s ++ t
same-parts a b c d e p q r s t ap bq cr ds et = cc

spelling-holds : (bytes : List ℕ) (image : Image) → IsBytes bytes → HasLength bytes → HasTables bytes image → bytes ≡ spelled image
spelling-holds bytes image fits has tables =
    let h = header-same bytes image (counts bytes image has tables) in
    let start : take 24 bytes ≡ codes "FK95" ++ flat_map word_bytes (header_words image) = front bytes fits has ∙ ap (λ (ws : List ℕ). codes "FK95" ++ flat_map word_bytes ws) h in
    whole bytes
    ∙ same-parts _ _ _ _ _ _ _ _ _ _ start (sym tables.code.spelling) (sym tables.globals.spelling) (sym tables.sites.spelling) (sym tables.commits.spelling)
    ∙ sym (spelled-parts (codes "FK95") (header_words image) image.code.items image.globals.items (flat_map site_words image.sites.items) (flat_map commit_words image.commits.items))

header-fits : (bytes : List ℕ) (image : Image) → IsBytes bytes → HasCounts bytes image → All IsWord (header_words image)
header-fits bytes image fits h =
    let all = All-from_recursion IsWord (read_words bytes) (omega arith, (word_at-lt bytes 2 fits, (word_at-lt bytes 3 fits, (word_at-lt bytes 4 fits, (word_at-lt bytes 5 fits, tt))))) in
    subst (All IsWord) (header-same bytes image h) all

words-fit : (bytes : List ℕ) (image : Image) → IsBytes bytes → HasLength bytes → HasTables bytes image → All IsWord (image_words image)
words-fit bytes image fits has tables =
    words-parts (header_words image) image.code.items image.globals.items (flat_map site_words image.sites.items) (flat_map commit_words image.commits.items)
    (header-fits bytes image fits (counts bytes image has tables)) tables.code.fit tables.globals.fit tables.sites.fit tables.commits.fit

limits-hold : (bytes : List ℕ) (image : Image) → HasLength bytes → HasTables bytes image → All IsSite image.sites.items → All (IsCommit (code_words bytes)) image.commits.items → Rise image.commits.items → IsWithinLimits image
limits-hold bytes image has tables sites commits rise =
    let h = counts bytes image has tables in
    let index = has.0.1 in
    record {
      some_code = omega (arith, h.code, (index 2 (omega arith) (omega arith)).0);
      code = omega (arith, h.code, (index 2 (omega arith) (omega arith)).1);
      globals = omega (arith, h.globals, (index 3 (omega arith) (omega arith)).1);
      few_sites = omega (arith, h.sites, (index 4 (omega arith) (omega arith)).1);
      sites = sites;
      commits = subst (λ (n : ℕ). All (IsCommit n) image.commits.items) (sym h.code) commits;
      rise = rise;
    }

pub is_image : (bytes : List ℕ) (image : Image) → IsBytes bytes → HasLength bytes → HasTables bytes image → All IsSite image.sites.items → All (IsCommit (code_words bytes)) image.commits.items → Rise image.commits.items → IsImageOf bytes image
is_image bytes image fits has tables sites commits rise = record {
  limits = limits-hold bytes image has tables sites commits rise;
  words = words-fit bytes image fits has tables;
  spelling = spelling-holds bytes image fits has tables;
}
