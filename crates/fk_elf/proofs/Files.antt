-- The file of an image and its bytes as an image say the same.
use Rattle.std.proofs.Common.{◌≡◌, ℕ, ◌+◌, ◌*◌, ◌/◌, ◌^◌, ◌<◌, ◌≤◌, List, [], ◌∷◌, ◌++◌, codes, flat_map, get_or, length, take, drop, vec_len, sym, ap, subst, ◌∙◌, arith}
use Rattle.std.proofs.lemmas.List.{append-nil, append_cancel_left, length-append, length-drop, length-take}
use Rattle.fk_image.specs.declared.Image.{Image}
use Rattle.fk_image.specs.Limits.{IsWithinLimits}
use Rattle.fk_image.specs.Refusals.{word_at}
use Rattle.fk_image.specs.Spelling.{AreAlike, IsImageOf, commit_words, header_words as image_header, image_words, site_words, spelled, word_bytes}
use Rattle.fk_image.proofs.Commits.{few_of_image}
use Rattle.fk_image.proofs.Same.{one_image as same_image}
use Rattle.fk_image.proofs.Words.{length-word_bytes, word_at-drop, word_bytes-injective}
use Rattle.fk_elf.specs.Files.{IsElfOf, elf_file, entry_bytes, header_bytes}
use Rattle.fk_elf.specs.Parts.{content_part, count_part, entry_part, image_bytes, image_front}
use Rattle.fk_elf.specs.Refusals.{HasLength, code_size, entry_size, global_size}
use Rattle.fk_elf.proofs.Headers.{Begins, begins, code-size, entry-size, front-same, global-size, length-header_bytes}
use Rattle.fk_elf.proofs.Parts.{Cut, contents, counts, cut, entries, file-parts, image-parts, length-contents, length-counts, length-entries, length-front, whole}
use Rattle.fk_elf.proofs.Words.{append-injective, word-in}

-- the three sizes of an image's file
pub record Small (image : Image) : Type 0 where
  pub code : 4 * vec_len image.code ≤ 1048576
  pub globals : 4 * vec_len image.globals ≤ 2097152
  pub entries : entry_bytes image ≤ 2289160

pub small : (image : Image) → IsWithinLimits image → Small image
small image limits = record {
  code = omega (arith, limits.code);
  globals = omega (arith, limits.globals);
  entries = omega (arith, limits.code, limits.few_sites, few_of_image image limits);
}

-- a file begins with the headers for its image
pub file-begins : (bytes : List ℕ) (image : Image) → IsWithinLimits image → bytes ≡ elf_file image → Begins bytes (4 * vec_len image.code) (4 * vec_len image.globals) (entry_bytes image)
file-begins bytes image limits is =
    let s = small image limits in
    let code = 4 * vec_len image.code in
    let globals = 4 * vec_len image.globals in
    subst (λ (bs : List ℕ). Begins bs code globals (entry_bytes image)) (sym (is ∙ file-parts image))
    (begins code globals (entry_bytes image) (contents image ++ (counts image ++ entries image)) (omega (arith, s.code)) (omega (arith, s.globals)) (omega (arith, s.entries)))

-- a file's parts are those of its image
pub record HasParts (bytes : List ℕ) (image : Image) : Type 0 where
  pub filled : content_part bytes ≡ contents image
  pub counted : count_part bytes ≡ counts image
  pub listed : entry_part bytes ≡ entries image

pub file-has : (bytes : List ℕ) (image : Image) → IsWithinLimits image → bytes ≡ elf_file image → HasParts bytes image
file-has bytes image limits is =
    let at = file-begins bytes image limits is in
    let code = 4 * vec_len image.code in
    let globals = 4 * vec_len image.globals in
    let size : code_size bytes + global_size bytes ≡ code + globals = omega (arith, at.code_is, at.globals_is) in
    let parts = cut (header_bytes code globals (entry_bytes image)) (contents image) (counts image) (entries image) 148 (code + globals) 8 (length-header_bytes code globals (entry_bytes image)) (length-contents image) (length-counts image) in
    let here = subst (λ (bs : List ℕ). Cut bs (contents image) (counts image) (entries image) 148 (code + globals) 8) (sym (is ∙ file-parts image)) parts in
    let last : 156 + (code_size bytes + global_size bytes) ≡ 148 + (code + globals) + 8 = omega (arith, size) in
    record {
      filled = ap (λ (n : ℕ). take n (drop 148 bytes)) size ∙ here.first;
      counted = ap (λ (n : ℕ). take 8 (drop (148 + n) bytes)) size ∙ here.second;
      listed = ap (λ (n : ℕ). drop n bytes) last ∙ here.third;
    }

same-parts : (f a b c p q r s : List ℕ) → f ≡ p → a ≡ q → b ≡ r → c ≡ s → f ++ (a ++ (b ++ c)) ≡ p ++ (q ++ (r ++ s))
same-parts f a b c p q r s fp aq br cs = cc

-- the parts of a file, in the order of an image, are the bytes of its image
pub file-spells : (bytes : List ℕ) (image : Image) → IsWithinLimits image → bytes ≡ elf_file image → image_bytes bytes ≡ spelled image
file-spells bytes image limits is =
    let at = file-begins bytes image limits is in
    let has = file-has bytes image limits is in
    let front : image_front (code_size bytes) (global_size bytes) ≡ image_front (4 * vec_len image.code) (4 * vec_len image.globals) = ap (λ (n : ℕ). image_front n (global_size bytes)) at.code_is ∙ ap (image_front (4 * vec_len image.code)) at.globals_is in
    same-parts _ _ _ _ _ _ _ _ front has.counted has.filled has.listed ∙ sym (image-parts image)

-- they are its bytes
pub image-of : (bytes : List ℕ) (image : Image) → IsElfOf bytes image → IsImageOf (image_bytes bytes) image
image-of bytes image is = record {
  limits = is.limits;
  words = is.words;
  spelling = file-spells bytes image is.limits is.spelling;
}

-- the words of the image's front are its sizes
front-says : (code globals words more : ℕ) → words < 2 ^ 32 → more < 2 ^ 32 → code / 4 < 2 ^ 32 → globals / 4 < 2 ^ 32 → image_front code globals ≡ image_front (4 * words) (4 * more) → (code / 4 ≡ words) × (globals / 4 ≡ more)
front-says code globals words more p q r s e =
    let c = code / 4 in
    let g = globals / 4 in
    let w = 4 * words / 4 in
    let m = 4 * more / 4 in
    let all : flat_map word_bytes (1 ∷ c ∷ g ∷ []) ≡ flat_map word_bytes (1 ∷ w ∷ m ∷ []) = append_cancel_left (codes "FK95") (flat_map word_bytes (1 ∷ c ∷ g ∷ [])) (flat_map word_bytes (1 ∷ w ∷ m ∷ [])) e in
    let rest : flat_map word_bytes (c ∷ g ∷ []) ≡ flat_map word_bytes (w ∷ m ∷ []) = append_cancel_left (word_bytes 1) (flat_map word_bytes (c ∷ g ∷ [])) (flat_map word_bytes (w ∷ m ∷ [])) all in
    let first = append-injective (word_bytes c) (flat_map word_bytes (g ∷ [])) (word_bytes w) (flat_map word_bytes (m ∷ [])) (length-word_bytes c ∙ sym (length-word_bytes w)) rest in
    let second = append-injective (word_bytes g) [] (word_bytes m) [] (length-word_bytes g ∙ sym (length-word_bytes m)) first.1 in
    let one : c ≡ w = word_bytes-injective c w r (omega (arith, p)) first.0 in
    let two : g ≡ m = word_bytes-injective g m s (omega (arith, q)) second.0 in
    (omega (arith, one), omega (arith, two))

-- the bytes of an image, as they stand in a file with its length
pub elf-of : (bytes : List ℕ) (image : Image) → HasLength bytes → IsImageOf (image_bytes bytes) image → IsElfOf bytes image
elf-of bytes image has is =
    let a = code-size bytes has.0 in
    let b = global-size bytes has.0 in
    let c = entry-size bytes has.0 in
    let s = small image is.limits in
    let size = code_size bytes + global_size bytes in
    let code = 4 * vec_len image.code in
    let globals = 4 * vec_len image.globals in
    let same : image_front (code_size bytes) (global_size bytes) ++ (count_part bytes ++ (content_part bytes ++ entry_part bytes)) ≡ image_front code globals ++ (counts image ++ (contents image ++ entries image)) = is.spelling ∙ image-parts image in
    let front = append-injective (image_front (code_size bytes) (global_size bytes)) (count_part bytes ++ (content_part bytes ++ entry_part bytes)) (image_front code globals) (counts image ++ (contents image ++ entries image)) (length-front (code_size bytes) (global_size bytes) ∙ sym (length-front code globals)) same in
    let long : length (count_part bytes) ≡ 8 = omega (arith, has.1, c.least, length-take 8 (drop (148 + size) bytes), length-drop (148 + size) bytes) in
    let counted = append-injective (count_part bytes) (content_part bytes ++ entry_part bytes) (counts image) (contents image ++ entries image) (long ∙ sym (length-counts image)) front.1 in
    let sizes = front-says (code_size bytes) (global_size bytes) (vec_len image.code) (vec_len image.globals) (omega (arith, s.code)) (omega (arith, s.globals)) (omega (arith, a.most)) (omega (arith, b.most)) front.0 in
    let code_is : code_size bytes ≡ code = omega (arith, sizes.0, a.aligned) in
    let globals_is : global_size bytes ≡ globals = omega (arith, sizes.1, b.aligned) in
    let filled : length (content_part bytes) ≡ length (contents image) = omega (arith, has.1, code_is, globals_is, length-contents image, length-take size (drop 148 bytes), length-drop 148 bytes) in
    let parts = append-injective (content_part bytes) (entry_part bytes) (contents image) (entries image) filled counted.1 in
    let entries_are : entry_size bytes ≡ entry_bytes image = omega (arith, has.1, c.least, ap length parts.1, length-entries image, length-drop (156 + size) bytes) in
    let header : take 148 bytes ≡ header_bytes code globals (entry_bytes image) = front-same bytes has.0 ∙ ap (λ (n : ℕ). header_bytes n (global_size bytes) (entry_size bytes)) code_is ∙ ap (λ (n : ℕ). header_bytes code n (entry_size bytes)) globals_is ∙ ap (header_bytes code globals) entries_are in
    record {
      limits = is.limits;
      words = is.words;
      spelling = whole bytes ∙ same-parts _ _ _ _ _ _ _ _ header parts.0 counted.0 parts.1 ∙ sym (file-parts image);
    }

-- an image has one file, and a file one image
pub one_image : (bytes : List ℕ) (image other : Image) → IsElfOf bytes image → IsElfOf bytes other → AreAlike image other
one_image bytes image other is was =
    same_image (image_bytes bytes) image other (image-of bytes image is) (image-of bytes other was)

-- how long an image is, and where its parts stand
pub image-cut : (bytes : List ℕ) (image : Image) → IsImageOf bytes image → Cut bytes (counts image) (contents image) (entries image) 16 8 (4 * vec_len image.code + 4 * vec_len image.globals)
image-cut bytes image is =
    let code = 4 * vec_len image.code in
    let globals = 4 * vec_len image.globals in
    subst (λ (bs : List ℕ). Cut bs (counts image) (contents image) (entries image) 16 8 (code + globals)) (sym (is.spelling ∙ image-parts image))
    (cut (image_front code globals) (counts image) (contents image) (entries image) 16 8 (code + globals) (length-front code globals) (length-counts image) (length-contents image))

pub image-long : (bytes : List ℕ) (image : Image) → IsImageOf bytes image → length bytes ≡ 24 + (4 * vec_len image.code + 4 * vec_len image.globals) + length (entries image)
image-long bytes image is =
    let code = 4 * vec_len image.code in
    let globals = 4 * vec_len image.globals in
    let rest = contents image ++ entries image in
    omega (arith, ap length (is.spelling ∙ image-parts image), length-append (image_front code globals) (counts image ++ rest), length-append (counts image) rest, length-append (contents image) (entries image), length-front code globals, length-counts image, length-contents image)

-- how long a file is
pub file-long : (bytes : List ℕ) (image : Image) → IsElfOf bytes image → length bytes ≡ 148 + (4 * vec_len image.code + 4 * vec_len image.globals) + entry_bytes image
file-long bytes image is =
    let header = header_bytes (4 * vec_len image.code) (4 * vec_len image.globals) (entry_bytes image) in
    let rest = counts image ++ entries image in
    omega (arith, ap length (is.spelling ∙ file-parts image), length-append header (contents image ++ rest), length-append (contents image) rest, length-append (counts image) (entries image), length-header_bytes (4 * vec_len image.code) (4 * vec_len image.globals) (entry_bytes image), length-counts image, length-contents image, length-entries image)

-- the counts that an image's bytes say
front-long : (h a b c d : List ℕ) → length h ≤ length (h ++ a ++ b ++ c ++ d)
front-long h a b c d =
    omega (arith, length-append h a, length-append (h ++ a) b, length-append (h ++ a ++ b) c, length-append (h ++ a ++ b ++ c) d)

pub image-counts : (bytes : List ℕ) (image : Image) → IsImageOf bytes image → (word_at bytes 4 ≡ vec_len image.sites) × (word_at bytes 5 ≡ vec_len image.commits)
image-counts bytes image is =
    let words = image_words image in
    let long : 5 ≤ length words = front-long (image_header image) image.code.items image.globals.items (flat_map site_words image.sites.items) (flat_map commit_words image.commits.items) in
    let at : (j : ℕ) → j < 5 → word_at bytes (1 + j) ≡ get_or words j 0 = λ j h.
    ap (λ (bs : List ℕ). word_at bs (1 + j)) is.spelling ∙ sym (word_at-drop (spelled image) 1 j) ∙ ap (λ (xs : List ℕ). word_at xs j) (sym (append-nil (flat_map word_bytes words)))
    ∙ word-in words [] j (is.words j 0 (omega (arith, long, h))) (omega (arith, long, h)) in
    (at 3 (omega arith), at 4 (omega arith))
