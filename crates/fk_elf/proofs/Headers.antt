-- The headers of a file, and what they say.
use Rattle.std.proofs.Common.{◌≡◌, ℕ, ◌+◌, ◌%◌, ◌^◌, ◌<◌, List, [], ◌∷◌, ◌++◌, flat_map, get_or, length, take, refl, sym, ap, ◌∙◌, arith}
use Rattle.std.proofs.lemmas.List.{ext_get_or, get_or-take, length-take-le, take_at}
use Rattle.fk_image.specs.Spelling.{word_bytes}
use Rattle.fk_image.proofs.Images.{length-words}
use Rattle.fk_elf.specs.Files.{entries_kind, file_header, globals_address, header_bytes, header_words, program_header}
use Rattle.fk_elf.specs.Refusals.{HasHeader, IsHeaderByte, IsSize, IsSizeAt, code_size, entry_size, global_size}
use Rattle.fk_elf.proofs.Words.{word-in, word_bytes-wraps}

pub length-header_words : (code globals entries : ℕ) → length (header_words code globals entries) ≡ 37
unfolding header_words
length-header_words code globals entries = refl

pub length-header_bytes : (code globals entries : ℕ) → length (header_bytes code globals entries) ≡ 148
length-header_bytes code globals entries =
    omega (arith, length-words (header_words code globals entries), length-header_words code globals entries)

code-at : (code globals entries : ℕ) → get_or (header_words code globals entries) 17 0 ≡ code
unfolding header_words
code-at code globals entries = refl

globals-at : (code globals entries : ℕ) → get_or (header_words code globals entries) 25 0 ≡ globals
unfolding header_words
globals-at code globals entries = refl

entries-at : (code globals entries : ℕ) → get_or (header_words code globals entries) 33 0 ≡ entries
unfolding header_words
entries-at code globals entries = refl

-- bytes that begin with the headers for these sizes
pub record Begins (bytes : List ℕ) (code globals entries : ℕ) : Type 0 where
  pub code_is : code_size bytes ≡ code
  pub globals_is : global_size bytes ≡ globals
  pub entries_is : entry_size bytes ≡ entries
  pub front_is : take 148 bytes ≡ header_bytes code globals entries

pub begins : (code globals entries : ℕ) (rest : List ℕ) → code < 2 ^ 32 → globals < 2 ^ 32 → entries < 2 ^ 32 → Begins (header_bytes code globals entries ++ rest) code globals entries
begins code globals entries rest p q r =
    let words = header_words code globals entries in
    let long = length-header_words code globals entries in
    let a = code-at code globals entries in
    let b = globals-at code globals entries in
    let c = entries-at code globals entries in
    record {
      code_is = word-in words rest 17 (omega (arith, a)) (omega (arith, long)) ∙ a;
      globals_is = word-in words rest 25 (omega (arith, b)) (omega (arith, long)) ∙ b;
      entries_is = word-in words rest 33 (omega (arith, c)) (omega (arith, long)) ∙ c;
      front_is = take_at (header_bytes code globals entries) rest 148 (length-header_bytes code globals entries);
    }

-- bytes with a header begin with it
pub front-same : (bytes : List ℕ) → HasHeader bytes → take 148 bytes ≡ header_bytes (code_size bytes) (global_size bytes) (entry_size bytes)
front-same bytes has =
    let header = header_bytes (code_size bytes) (global_size bytes) (entry_size bytes) in
    let long = length-take-le 148 bytes has.0 in
    ext_get_or 0 (take 148 bytes) header (long ∙ sym (length-header_bytes (code_size bytes) (global_size bytes) (entry_size bytes)))
    (λ i h. get_or-take 148 bytes i 0 (omega (arith, h, long)) ∙ (has.1 i (omega (arith, h, long))).same)

-- the sizes of a header are in range
pub code-size : (bytes : List ℕ) → HasHeader bytes → IsSize 4 1048576 (code_size bytes)
code-size bytes has = (has.1 68 (omega arith)).size.at_code refl

pub global-size : (bytes : List ℕ) → HasHeader bytes → IsSize 0 2097152 (global_size bytes)
global-size bytes has = (has.1 100 (omega arith)).size.at_globals refl

pub entry-size : (bytes : List ℕ) → HasHeader bytes → IsSize 8 2289160 (entry_size bytes)
entry-size bytes has = (has.1 132 (omega arith)).size.at_entries refl

-- a word for one with the same bytes
other-word : (xs ys : List ℕ) (p q : ℕ) → word_bytes p ≡ word_bytes q → flat_map word_bytes (xs ++ p ∷ ys) ≡ flat_map word_bytes (xs ++ q ∷ ys)
other-word [] ys p q e = ap (λ (bs : List ℕ). bs ++ flat_map word_bytes ys) e
other-word (x ∷ xs) ys p q e = ap (λ (bs : List ℕ). word_bytes x ++ bs) (other-word xs ys p q e)

-- offsets that wrap have the bytes of those that don't
pub header-wraps : (code globals entries p q : ℕ) → p ≡ (148 + code) % 2 ^ 32 → q ≡ (p + globals) % 2 ^ 32 → flat_map word_bytes (file_header ++ program_header 1 148 0 code code 5 ++ program_header 1 p globals_address globals 4194304 6 ++ program_header entries_kind q 0 entries 0 4) ≡ header_bytes code globals entries
unfolding header_words
header-wraps code globals entries p q at_p at_q =
    let third = program_header entries_kind q 0 entries 0 4 in
    let from_p : word_bytes p ≡ word_bytes (148 + code) = ap word_bytes at_p ∙ word_bytes-wraps (148 + code) in
    let q_is : q ≡ (148 + code + globals) % 2 ^ 32 = omega (arith, at_p, at_q) in
    let from_q : word_bytes q ≡ word_bytes (148 + code + globals) = ap word_bytes q_is ∙ word_bytes-wraps (148 + code + globals) in
    let front = file_header ++ program_header 1 148 0 code code 5 ++ 1 ∷ [] in
    let behind = globals_address ∷ globals_address ∷ globals ∷ 4194304 ∷ 6 ∷ 4 ∷ third in
    let more = file_header ++ program_header 1 148 0 code code 5 ++ program_header 1 (148 + code) globals_address globals 4194304 6 ++ entries_kind ∷ [] in
    other-word front behind p (148 + code) from_p ∙ other-word more (0 ∷ 0 ∷ entries ∷ 0 ∷ 4 ∷ 4 ∷ []) q (148 + code + globals) from_q

-- a byte that is the headers' one, by the sizes that were read
headers-same : (bytes header : List ℕ) (code globals entries : ℕ) → code ≡ code_size bytes → globals ≡ global_size bytes → entries ≡ entry_size bytes → header ≡ header_bytes code globals entries → header ≡ header_bytes (code_size bytes) (global_size bytes) (entry_size bytes)
headers-same bytes header code globals entries p q r made =
    made ∙ ap (λ (n : ℕ). header_bytes n globals entries) p ∙ ap (λ (n : ℕ). header_bytes (code_size bytes) n entries) q ∙ ap (header_bytes (code_size bytes) (global_size bytes)) r

pub is-header-byte : (bytes header : List ℕ) (code globals entries offset : ℕ) → code ≡ code_size bytes → globals ≡ global_size bytes → entries ≡ entry_size bytes → header ≡ header_bytes code globals entries → get_or bytes offset 0 ≡ get_or header offset 0 → IsSizeAt code globals entries offset → IsHeaderByte bytes offset
is-header-byte bytes header code globals entries offset p q r made same size = record {
  same = same ∙ ap (λ (xs : List ℕ). get_or xs offset 0) (headers-same bytes header code globals entries p q r made);
  size = rw (p, q, r) at size;
}

pub was-header-byte : (bytes header : List ℕ) (code globals entries offset : ℕ) → code ≡ code_size bytes → globals ≡ global_size bytes → entries ≡ entry_size bytes → header ≡ header_bytes code globals entries → IsHeaderByte bytes offset → (get_or bytes offset 0 ≡ get_or header offset 0) × IsSizeAt code globals entries offset
was-header-byte bytes header code globals entries offset p q r made is =
    (is.same ∙ ap (λ (xs : List ℕ). get_or xs offset 0) (sym (headers-same bytes header code globals entries p q r made)), rw (p, q, r) is.size)
