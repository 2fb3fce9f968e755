-- Words, and the bytes that spell them.
use Rattle.std.proofs.Common.{◌≡◌, ℕ, ◌+◌, ◌-◌, ◌*◌, ◌^◌, ◌<◌, ◌≤◌, List, ◌++◌, length, get_or, take, drop, refl, sym, ap, ◌∙◌, arith, inl, inr}
use Rattle.std.specs.Int.{w32, from_le_bytes, to_le_bytes}
use Rattle.std.proofs.Math.Seq.{take-add}
use Rattle.std.proofs.lemmas.Bool.{cases_lt}
use Rattle.std.proofs.lemmas.List.{drop-drop, drop-take, take-take, drop_at, get_or-take, get_or-drop, get_or_past, length-drop, length-take, take_at}
use Rattle.std.proofs.lemmas.Nat.{le_bytes_4, from_le_bytes-to_le_bytes_4}
use Rattle.byteorder.specs.Endian.{little_number}
use Rattle.fk_image.specs.Refusals.{word_at}
use Rattle.fk_image.specs.Spelling.{word_bytes}

-- the numbers of a list are bytes
abbrev pub IsBytes : List ℕ → Type 0
IsBytes bytes = (i : ℕ) → get_or bytes i 0 < 256

pub IsBytes-drop : (n : ℕ) (bytes : List ℕ) → IsBytes bytes → IsBytes (drop n bytes)
IsBytes-drop n bytes h i = rw get_or-drop (h (n + i))

pub IsBytes-take : (n : ℕ) (bytes : List ℕ) → IsBytes bytes → IsBytes (take n bytes)
IsBytes-take n bytes h i =
    elim (cases_lt i n) [
      | inl lt ↦ rw (get_or-take n bytes i 0 lt) (h i)
      | inr le ↦ rw (get_or_past (take n bytes) i 0 (omega (arith, length-take n bytes))) (omega arith)
    ]

pub length-word_bytes : (word : ℕ) → length (word_bytes word) ≡ 4
unfolding word_bytes
length-word_bytes word = refl

-- what `read_u32` says
pub little_number-word_at : (bytes : List ℕ) (place : ℕ) → little_number 4 (drop (4 * place) bytes) ≡ word_at bytes place
unfolding word_at
little_number-word_at bytes place =
    let xs = drop (4 * place) bytes in
    let p = get_or-take 4 xs 0 0 (omega arith) in
    let q = get_or-take 4 xs 1 0 (omega arith) in
    let r = get_or-take 4 xs 2 0 (omega arith) in
    let s = get_or-take 4 xs 3 0 (omega arith) in
    omega (arith, p, q, r, s)

-- a word spells the bytes at its place
pub word_bytes-word_at : (bytes : List ℕ) (place : ℕ) → IsBytes bytes → 4 * place + 4 ≤ length bytes → word_bytes (word_at bytes place) ≡ take 4 (drop (4 * place) bytes)
unfolding word_at word_bytes
word_bytes-word_at bytes place fits within =
    let four = take 4 (drop (4 * place) bytes) in
    le_bytes_4 four (from_le_bytes w32 four)
    (omega (arith, length-take 4 (drop (4 * place) bytes), length-drop (4 * place) bytes))
    (IsBytes-take 4 (drop (4 * place) bytes) (IsBytes-drop (4 * place) bytes fits)) refl

-- a word is below 2^32
pub word_at-lt : (bytes : List ℕ) (place : ℕ) → IsBytes bytes → word_at bytes place < 2 ^ 32
unfolding word_at
word_at-lt bytes place fits =
    let four = IsBytes-take 4 (drop (4 * place) bytes) (IsBytes-drop (4 * place) bytes fits) in
    omega (arith, four 0, four 1, four 2, four 3)

-- the word that is spelled behind a front of whole words
pub word_at-spelled : (front rest : List ℕ) (place word : ℕ) → length front ≡ 4 * place → word < 2 ^ 32 → word_at (front ++ (word_bytes word ++ rest)) place ≡ word
unfolding word_at word_bytes
word_at-spelled front rest place word len lt =
    let behind = drop_at front (to_le_bytes w32 word ++ rest) (4 * place) len in
    ap (λ (xs : List ℕ). from_le_bytes w32 (take 4 xs)) behind
    ∙ ap (from_le_bytes w32) (take_at (to_le_bytes w32 word) rest 4 refl) ∙ from_le_bytes-to_le_bytes_4 word lt

-- what stands behind a place, and the front of that, have the same words
pub word_at-drop : (bytes : List ℕ) (m place : ℕ) → word_at (drop (4 * m) bytes) place ≡ word_at bytes (m + place)
unfolding word_at
word_at-drop bytes m place =
    let place_is : 4 * m + 4 * place ≡ 4 * (m + place) = omega arith in
    ap (λ (xs : List ℕ). from_le_bytes w32 (take 4 xs)) (drop-drop (4 * place) (4 * m) bytes ∙ ap (λ (j : ℕ). drop j bytes) place_is)

pub word_at-take : (bytes : List ℕ) (n place : ℕ) → 4 * place + 4 ≤ n → word_at (take n bytes) place ≡ word_at bytes place
unfolding word_at
word_at-take bytes n place within =
    let k = n - 4 * place in
    let split : n ≡ 4 * place + k = omega arith in
    let part : drop (4 * place) (take n bytes) ≡ take k (drop (4 * place) bytes) = ap (λ (j : ℕ). drop (4 * place) (take j bytes)) split ∙ drop-take (4 * place) k bytes in
    let enough : 4 ≤ k = omega arith in
    ap (from_le_bytes w32) (ap (take 4) part ∙ take-take 4 k (drop (4 * place) bytes) enough)

-- one word more of the front
pub take-word : (bytes : List ℕ) (place : ℕ) → IsBytes bytes → 4 * place + 4 ≤ length bytes → take (4 * place + 4) bytes ≡ take (4 * place) bytes ++ word_bytes (word_at bytes place)
take-word bytes place fits within =
    take-add (4 * place) 4 bytes
    ∙ ap (λ (xs : List ℕ). take (4 * place) bytes ++ xs) (sym (word_bytes-word_at bytes place fits within))

-- words that spell the same are the same
pub word_bytes-injective : (word other : ℕ) → word < 2 ^ 32 → other < 2 ^ 32 → word_bytes word ≡ word_bytes other → word ≡ other
unfolding word_bytes
word_bytes-injective word other p q e =
    sym (from_le_bytes-to_le_bytes_4 word p) ∙ ap (from_le_bytes w32) e ∙ from_le_bytes-to_le_bytes_4 other q
