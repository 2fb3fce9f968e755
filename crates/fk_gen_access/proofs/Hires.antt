-- What the instructions of `shmalloc` come to.
use Rattle.std.proofs.Common.{◌≡◌, ℕ, ◌+◌, ◌-◌, ◌*◌, ◌/◌, ◌%◌, ◌^◌, ◌<◌, ◌≤◌, Bool, true, false, ap, ◌∙◌, sym, arith, ◌⊎◌, inl, inr}
use Rattle.std.specs.Prelude.{nat_lt, min, ◌==◌, ◌||◌, if◌then◌else◌}
use Rattle.std.specs.Int.{from_bool}
use Rattle.std.proofs.Math.Nat.{min-eq_left, min-eq_right}
use Rattle.std.proofs.lemmas.Bool.{lt-ltb, le-ltb, eq-eqb, ne_eqb, cases_lt}
use Rattle.fk_num.specs.Word.{word, word_sum}
use Rattle.fk_num.specs.Op.{applied}
use Rattle.fk_num.specs.declared.operator.Op.TheVariants.{Sub, Mul, Shl, ShrU, LtU}
use Rattle.fk_meaning_store.specs.Store.{shared_words, address_of, heap_start}
use Rattle.fk_meaning_store.specs.Serve.{words_of}
use Rattle.fk_sim_heap.specs.Count.{added_by, is_past, block_at}
use Rattle.fk_gen.proofs.Difference.{difference}

-- ---- the words that are added

-- what is left of a size in words, by the hart's note and the sign
abbrev wanted_by : (note sign bytes : ℕ) → ℕ
wanted_by note sign bytes = applied ShrU (word_sum (applied Mul bytes (applied LtU (word_sum note sign) 1)) 3) 2

abbrev pub wanted : (note bytes : ℕ) → ℕ
wanted note bytes = wanted_by note (applied ShrU bytes 31) bytes

-- as many as shared data has, where it is more
abbrev pub limited : (words : ℕ) → ℕ
limited words = word_sum words (applied Mul (applied Sub (0x100 * 4096) words) (applied LtU (0x100 * 4096) words))

abbrev pub added : (note bytes : ℕ) → ℕ
added note bytes = limited (wanted note bytes)

words_small : (bytes : ℕ) → bytes < 2 ^ 31 → words_of bytes ≡ (bytes + 3) / 4
words_small bytes lt = ap (λ b. if b then (bytes + 3) / 4 else 0) (lt-ltb bytes (2 ^ 31) lt)

words_large : (bytes : ℕ) → 2 ^ 31 ≤ bytes → words_of bytes ≡ 0
words_large bytes le = ap (λ b. if b then (bytes + 3) / 4 else 0) (le-ltb bytes (2 ^ 31) le)

-- a note of 1, or a negative size
none_wanted : (sign bytes : ℕ) → sign < 2 → wanted_by 1 sign bytes ≡ 0
none_wanted sign bytes lt = by (cases_lt 0 sign)
  where
    by : (0 < sign) ⊎ (sign ≤ 0) → wanted_by 1 sign bytes ≡ 0
    by (inl pos) = let e : sign ≡ 1 = omega arith in let f : applied ShrU (word_sum (word (bytes * 0)) 3) 2 ≡ 0 = omega arith in ap (λ s. wanted_by 1 s bytes) e ∙ f
    by (inr none) = let e : sign ≡ 0 = omega arith in let f : applied ShrU (word_sum (word (bytes * 0)) 3) 2 ≡ 0 = omega arith in ap (λ s. wanted_by 1 s bytes) e ∙ f

wanted_is : (bytes : ℕ) → bytes < 2 ^ 32 → (bytes < 2 ^ 31) ⊎ (2 ^ 31 ≤ bytes) → wanted 0 bytes ≡ words_of bytes
wanted_is bytes lt (inl small) =
    let sign : bytes / 2 ^ 31 ≡ 0 = omega arith in
    let e : applied ShrU (word_sum (word (bytes * 1)) 3) 2 ≡ (bytes + 3) / 4 = omega arith in
    ap (λ s. wanted_by 0 s bytes) sign ∙ e ∙ sym (words_small bytes small)
wanted_is bytes lt (inr large) =
    let sign : bytes / 2 ^ 31 ≡ 1 = omega arith in
    let e : applied ShrU (word_sum (word (bytes * 0)) 3) 2 ≡ 0 = omega arith in
    ap (λ s. wanted_by 0 s bytes) sign ∙ e ∙ sym (words_large bytes large)

few_words : (bytes : ℕ) → bytes < 2 ^ 32 → (bytes < 2 ^ 31) ⊎ (2 ^ 31 ≤ bytes) → words_of bytes < 2 ^ 30
few_words bytes lt (inl small) = let e = words_small bytes small in omega arith
few_words bytes lt (inr large) = let e = words_large bytes large in omega arith

abbrev limited_by : (words less : ℕ) → Bool → ℕ
limited_by words less more = word_sum words (word (less * from_bool more))

limited_is : (words : ℕ) → words < 2 ^ 30 → (2 ^ 20 < words) ⊎ (words ≤ 2 ^ 20) → limited words ≡ min words shared_words
limited_is words lt (inl large) =
    let less = difference (0x100 * 4096) words (omega arith) in
    let e : word_sum words (word ((0x100 * 4096 + (2 ^ 32 - words)) % 2 ^ 32 * 1)) ≡ 2 ^ 20 = omega arith in
    ap (limited_by words (applied Sub (0x100 * 4096) words)) (lt-ltb (2 ^ 20) words large)
    ∙ ap (λ n. limited_by words n true) less ∙ e ∙ sym (min-eq_right {n = shared_words} {m = words} (omega arith))
limited_is words lt (inr small) =
    let less = difference (0x100 * 4096) words (omega arith) in
    let e : word_sum words (word ((0x100 * 4096 + (2 ^ 32 - words)) % 2 ^ 32 * 0)) ≡ words = omega arith in
    ap (limited_by words (applied Sub (0x100 * 4096) words)) (le-ltb (2 ^ 20) words small)
    ∙ ap (λ n. limited_by words n false) less ∙ e ∙ sym (min-eq_left {n = words} {m = shared_words} small)

pub added_is : (full : Bool) (bytes : ℕ) → bytes < 2 ^ 32 → added (from_bool full) bytes ≡ added_by full (words_of bytes)
added_is true bytes lt = ap limited (none_wanted (bytes / 2 ^ 31) bytes (omega arith))
added_is false bytes lt =
    let few = few_words bytes lt (cases_lt bytes (2 ^ 31)) in
    ap limited (wanted_is bytes lt (cases_lt bytes (2 ^ 31))) ∙ limited_is (words_of bytes) few (cases_lt (2 ^ 20) (words_of bytes))

-- ---- the block

-- where the heap begins
abbrev pub begins_at : (words inputs : ℕ) → ℕ
begins_at words inputs = applied ShrU (word_sum inputs words) 1

pub begins_is : (globals inputs : ℕ) → globals + inputs ≤ 2 ^ 20 → begins_at (2 ^ 20 + globals) inputs ≡ heap_start (globals + inputs)
begins_is globals inputs few = omega arith

-- the block's first word, and whether it ends past shared data
abbrev pub at_word : (count first : ℕ) → ℕ
at_word count first = word_sum count first

abbrev pub past_word : (at added : ℕ) → ℕ
past_word at added = applied LtU (0x100 * 4096) (word_sum at added)

pub past_is : (first count added : ℕ) → past_word (at_word count first) added ≡ from_bool (is_past first (word_sum count added))
past_is first count added =
    let e : word_sum (at_word count first) added ≡ word_sum first (word_sum count added) = omega arith in
    ap (λ n. from_bool (nat_lt shared_words n)) e

-- its address, or 0
abbrev answer_by : (none : Bool) (past address : ℕ) → ℕ
answer_by none past address = applied Mul (applied LtU (word_sum (from_bool none) past) 1) address

abbrev pub answer_from : (added past address : ℕ) → ℕ
answer_from added past address = answer_by (nat_lt added 1) past address

abbrev pub answer_of : (added past at : ℕ) → ℕ
answer_of added past at = answer_from added past (word_sum (applied Shl at 2) 0x10000000)

none_is : (added : ℕ) → nat_lt added 1 ≡ (added == 0)
none_is added = by (cases_lt 0 added)
  where
    by : (0 < added) ⊎ (added ≤ 0) → nat_lt added 1 ≡ (added == 0)
    by (inl some) = le-ltb added 1 some ∙ sym (ne_eqb added 0 (λ e. omega arith))
    by (inr none) = lt-ltb added 1 (omega arith) ∙ sym (eq-eqb added 0 (omega arith))

answer_cases : (none past : Bool) (address block : ℕ) → word address ≡ block → answer_by none (from_bool past) address ≡ (if none || past then 0 else block)
answer_cases true true address block e = let f : word (0 * address) ≡ 0 = omega arith in f
answer_cases true false address block e = let f : word (0 * address) ≡ 0 = omega arith in f
answer_cases false true address block e = let f : word (0 * address) ≡ 0 = omega arith in f
answer_cases false false address block e = let f : word (1 * address) ≡ word address = omega arith in f ∙ e

pub answer_is : (first count added : ℕ) → answer_of added (from_bool (is_past first (word_sum count added))) (at_word count first) ≡ block_at first count added
answer_is first count added =
    let past = is_past first (word_sum count added) in
    let address = word_sum (applied Shl (at_word count first) 2) 0x10000000 in
    let e : word address ≡ word (address_of (word_sum first count)) = omega arith in
    answer_cases (nat_lt added 1) past address (word (address_of (word_sum first count))) e
    ∙ ap (λ n. if n || past then 0 else word (address_of (word_sum first count))) (none_is added)
