-- The parts of a file and of an image, one after the other.
use Rattle.std.proofs.Common.{◌≡◌, ℕ, ◌+◌, ◌*◌, ◌/◌, List, [], ◌∷◌, ◌++◌, codes, flat_map, length, take, drop, vec_len, refl, sym, ap, ◌∙◌, append_assoc, arith}
use Rattle.std.proofs.lemmas.List.{drop-drop, drop_at, length-append, take-append-drop, take_at}
use Rattle.std.proofs.lemmas.List.Concat.{flat_map-append}
use Rattle.fk_image.specs.declared.Image.{Image}
use Rattle.fk_image.specs.Spelling.{commit_words, site_words, spelled, word_bytes}
use Rattle.fk_image.proofs.Images.{length-commits, length-sites, length-words}
use Rattle.fk_elf.specs.Files.{elf_file, entry_bytes, header_bytes, header_words as elf_header}
use Rattle.fk_elf.specs.Parts.{content_part, count_part, entry_part, image_front}
use Rattle.fk_elf.specs.Refusals.{code_size, global_size}

-- the parts of an image that its two forms share
abbrev pub contents : Image → List ℕ
contents image = flat_map word_bytes (image.code.items ++ image.globals.items)

abbrev pub counts : Image → List ℕ
counts image = flat_map word_bytes (vec_len image.sites ∷ vec_len image.commits ∷ [])

abbrev pub entries : Image → List ℕ
entries image =
    flat_map word_bytes (flat_map site_words image.sites.items ++ flat_map commit_words image.commits.items)

pub length-contents : (image : Image) → length (contents image) ≡ 4 * vec_len image.code + 4 * vec_len image.globals
length-contents image =
    omega (arith, length-words (image.code.items ++ image.globals.items), length-append image.code.items image.globals.items, image.code.ok.0, image.globals.ok.0)

pub length-counts : (image : Image) → length (counts image) ≡ 8
length-counts image = length-words (vec_len image.sites ∷ vec_len image.commits ∷ [])

pub length-entries : (image : Image) → 8 + length (entries image) ≡ entry_bytes image
length-entries image =
    let sites = flat_map site_words image.sites.items in
    let commits = flat_map commit_words image.commits.items in
    omega (arith, length-words (sites ++ commits), length-append sites commits, length-sites image.sites.items, length-commits image.commits.items, image.sites.ok.0, image.commits.ok.0)

pub length-front : (code globals : ℕ) → length (image_front code globals) ≡ 16
length-front code globals =
    omega (arith, length-append (codes "FK95") (flat_map word_bytes (1 ∷ code / 4 ∷ globals / 4 ∷ [])), length-words (1 ∷ code / 4 ∷ globals / 4 ∷ []))

join-file : (h a b c d e : List ℕ) → flat_map word_bytes (h ++ a ++ b ++ c ++ d ++ e) ≡ flat_map word_bytes h ++ (flat_map word_bytes (a ++ b) ++ (flat_map word_bytes c ++ flat_map word_bytes (d ++ e)))
join-file h a b c d e = simp (flat_map-append, append_assoc)

-- the parts of the file of an image
pub file-parts : (image : Image) → elf_file image ≡ header_bytes (4 * vec_len image.code) (4 * vec_len image.globals) (entry_bytes image) ++ (contents image ++ (counts image ++ entries image))
file-parts image = join-file (elf_header (4 * vec_len image.code) (4 * vec_len image.globals) (entry_bytes image)) image.code.items image.globals.items (vec_len image.sites ∷ vec_len image.commits ∷ []) (flat_map site_words image.sites.items) (flat_map commit_words image.commits.items)

join-image : (f h c a b d e : List ℕ) → f ++ flat_map word_bytes (h ++ c ++ a ++ b ++ d ++ e) ≡ (f ++ flat_map word_bytes h) ++ (flat_map word_bytes c ++ (flat_map word_bytes (a ++ b) ++ flat_map word_bytes (d ++ e)))
join-image f h c a b d e = simp (flat_map-append, append_assoc)

quarter : (n : ℕ) → 4 * n / 4 ≡ n
quarter n = omega arith

-- the parts of an image
pub image-parts : (image : Image) → spelled image ≡ image_front (4 * vec_len image.code) (4 * vec_len image.globals) ++ (counts image ++ (contents image ++ entries image))
image-parts image =
    let front : codes "FK95" ++ flat_map word_bytes (1 ∷ vec_len image.code ∷ vec_len image.globals ∷ []) ≡ image_front (4 * vec_len image.code) (4 * vec_len image.globals) = sym (ap (λ (n : ℕ). codes "FK95" ++ flat_map word_bytes (1 ∷ n ∷ 4 * vec_len image.globals / 4 ∷ [])) (quarter (vec_len image.code)) ∙ ap (λ (n : ℕ). codes "FK95" ++ flat_map word_bytes (1 ∷ vec_len image.code ∷ n ∷ [])) (quarter (vec_len image.globals))) in
    join-image (codes "FK95") (1 ∷ vec_len image.code ∷ vec_len image.globals ∷ []) (vec_len image.sites ∷ vec_len image.commits ∷ []) image.code.items image.globals.items (flat_map site_words image.sites.items) (flat_map commit_words image.commits.items)
    ∙ ap (λ (xs : List ℕ). xs ++ (counts image ++ (contents image ++ entries image))) front

-- what stands at the places of four parts, one after the other
pub record Cut (bytes a b c : List ℕ) (p q r : ℕ) : Type 0 where
  pub first : take q (drop p bytes) ≡ a
  pub second : take r (drop (p + q) bytes) ≡ b
  pub third : drop (p + q + r) bytes ≡ c

pub cut : (front a b c : List ℕ) (p q r : ℕ) → length front ≡ p → length a ≡ q → length b ≡ r → Cut (front ++ (a ++ (b ++ c))) a b c p q r
cut front a b c p q r at_p at_q at_r =
    let two : front ++ (a ++ (b ++ c)) ≡ (front ++ a) ++ (b ++ c) = sym (append_assoc front a (b ++ c)) in
    let three : (front ++ a) ++ (b ++ c) ≡ ((front ++ a) ++ b) ++ c = sym (append_assoc (front ++ a) b c) in
    let long = length-append front a in
    let longer = length-append (front ++ a) b in
    record {
      first = ap (take q) (drop_at front (a ++ (b ++ c)) p at_p) ∙ take_at a (b ++ c) q at_q;
      second = ap (λ (xs : List ℕ). take r (drop (p + q) xs)) two ∙ ap (take r) (drop_at (front ++ a) (b ++ c) (p + q) (omega arith)) ∙ take_at b c r at_r;
      third = ap (λ (xs : List ℕ). drop (p + q + r) xs) (two ∙ three) ∙ drop_at ((front ++ a) ++ b) c (p + q + r) (omega arith);
    }

-- what stands behind a place is so many bytes and the rest
next : (bytes : List ℕ) (n m p : ℕ) → n + m ≡ p → drop n bytes ≡ take m (drop n bytes) ++ drop p bytes
next bytes n m p e =
    sym (take-append-drop m (drop n bytes))
    ∙ ap (λ (xs : List ℕ). take m (drop n bytes) ++ xs) (drop-drop m n bytes ∙ ap (λ (k : ℕ). drop k bytes) e)

-- a file's headers and its parts are all of it
pub whole : (bytes : List ℕ) → bytes ≡ take 148 bytes ++ (content_part bytes ++ (count_part bytes ++ entry_part bytes))
whole bytes =
    let size = code_size bytes + global_size bytes in
    sym (take-append-drop 148 bytes)
    ∙ ap (λ (xs : List ℕ). take 148 bytes ++ xs) (next bytes 148 size (148 + size) refl ∙ ap (λ (xs : List ℕ). content_part bytes ++ xs) (next bytes (148 + size) 8 (156 + size) (omega arith)))

-- parts that are the same, one after the other
regroup-four : (a b c d : List ℕ) → a ++ b ++ c ++ d ≡ a ++ (b ++ (c ++ d))
regroup-four a b c d = simp append_assoc

pub four-parts : (a b c d p q r s : List ℕ) → a ≡ p → b ≡ q → c ≡ r → d ≡ s → a ++ b ++ c ++ d ≡ p ++ (q ++ (r ++ s))
four-parts a b c d p q r s ap bq cr ds =
    let same : a ++ b ++ c ++ d ≡ p ++ q ++ r ++ s = cc in
    same ∙ regroup-four p q r s

regroup-five : (m a b c d : List ℕ) → m ++ a ++ b ++ c ++ d ≡ (m ++ a) ++ (b ++ (c ++ d))
regroup-five m a b c d = simp append_assoc

pub five-parts : (m a b c d p q r s : List ℕ) → a ≡ p → b ≡ q → c ≡ r → d ≡ s → m ++ a ++ b ++ c ++ d ≡ (m ++ p) ++ (q ++ (r ++ s))
five-parts m a b c d p q r s ap bq cr ds =
    let same : m ++ a ++ b ++ c ++ d ≡ m ++ p ++ q ++ r ++ s = cc in
    same ∙ regroup-five m p q r s
