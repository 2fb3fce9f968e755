-- What the instructions of `malloc` come to.
use Rattle.std.proofs.Common.{◌≡◌, ℕ, ◌+◌, ◌-◌, ◌*◌, ◌^◌, ◌<◌, ◌≤◌, ap, ◌∙◌, sym, arith, ◌⊎◌, inl, inr}
use Rattle.std.specs.Prelude.{nat_lt, if◌then◌else◌}
use Rattle.std.specs.Int.{from_bool}
use Rattle.std.specs.Int.Bits.{and_zero_r}
use Rattle.std.proofs.lemmas.Bool.{lt-ltb, le-ltb, eq-eqb, ne_eqb, cases_lt}
use Rattle.fk_num.specs.Word.{word_sum}
use Rattle.fk_num.specs.Op.{applied}
use Rattle.fk_num.specs.declared.operator.Op.TheVariants.{Sub, And, Shl, ShrU, LtU}
use Rattle.fk_meaning_store.specs.Store.{private_words, private_address}
use Rattle.fk_meaning_store.specs.Serve.{words_of}
use Rattle.fk_meaning.specs.Processor.{Processor, in_place}
use Rattle.fk_meaning.specs.Local.{taken}
use Rattle.fk_gen.proofs.Difference.{difference}
use Rattle.fk_gen.proofs.Sizes.{ones, words_small, words_large}

-- the words of a size, how many there are left, all ones where they are enough, and else 0
abbrev pub size_word : (bytes : ℕ) → ℕ
size_word bytes = applied ShrU (word_sum bytes 3) 2

abbrev pub left_word : (top : ℕ) → ℕ
left_word top = applied Sub (4 * 4096) top

abbrev pub enough : (bytes top : ℕ) → ℕ
enough bytes top = applied Sub 0 (applied LtU (word_sum (size_word bytes) 0xffffffff) (left_word top))

-- the answer, and how many words are taken then
abbrev pub take_word : (bytes top : ℕ) → ℕ
take_word bytes top = applied And (word_sum (applied Shl top 2) (0x20010 * 4096)) (enough bytes top)

abbrev pub top_word : (bytes top : ℕ) → ℕ
top_word bytes top = word_sum top (applied And (size_word bytes) (enough bytes top))

pub record Takes (bytes : ℕ) (p : Processor) : Type 0 where
  pub processor : taken (words_of bytes) p ≡ in_place (take_word bytes p.top) (record p { top = top_word bytes p.top })

left_is : (top : ℕ) → top ≤ 16384 → left_word top ≡ 16384 - top
left_is top le = difference (4 * 4096) top (omega arith) ∙ omega arith

-- where they are not enough
refused_mask : (bytes top : ℕ) → left_word top ≤ word_sum (size_word bytes) 0xffffffff → enough bytes top ≡ 0
refused_mask bytes top le = ap (λ b. applied Sub 0 (from_bool b)) (le-ltb (word_sum (size_word bytes) 0xffffffff) (left_word top) le)

enough_mask : (bytes top : ℕ) → word_sum (size_word bytes) 0xffffffff < left_word top → enough bytes top ≡ 2 ^ 32 - 1
enough_mask bytes top lt = ap (λ b. applied Sub 0 (from_bool b)) (lt-ltb (word_sum (size_word bytes) 0xffffffff) (left_word top) lt)

-- none are taken
taken_none : (words : ℕ) (p : Processor) → words ≡ 0 → taken words p ≡ in_place 0 p
taken_none words p e =
    ap (λ b. if b then in_place 0 p else if nat_lt (private_words - p.top) words then in_place 0 p else in_place (private_address p.top) (record p { top = p.top + words })) (eq-eqb words 0 e)

taken_few : (words : ℕ) (p : Processor) → 0 < words → private_words - p.top < words → taken words p ≡ in_place 0 p
taken_few words p pos lt =
    ap (λ b. if b then in_place 0 p else if nat_lt (private_words - p.top) words then in_place 0 p else in_place (private_address p.top) (record p { top = p.top + words })) (ne_eqb words 0 (λ e. omega arith))
    ∙ ap (λ b. if b then in_place 0 p else in_place (private_address p.top) (record p { top = p.top + words })) (lt-ltb (private_words - p.top) words lt)

taken_all : (words : ℕ) (p : Processor) → 0 < words → words ≤ private_words - p.top → taken words p ≡ in_place (private_address p.top) (record p { top = p.top + words })
taken_all words p pos le =
    ap (λ b. if b then in_place 0 p else if nat_lt (private_words - p.top) words then in_place 0 p else in_place (private_address p.top) (record p { top = p.top + words })) (ne_eqb words 0 (λ e. omega arith))
    ∙ ap (λ b. if b then in_place 0 p else in_place (private_address p.top) (record p { top = p.top + words })) (le-ltb (private_words - p.top) words le)

took : (p : Processor) (a b top top' : ℕ) → a ≡ b → top ≡ top' → in_place a (record p { top = top }) ≡ in_place b (record p { top = top' })
took p a b top top' e f = ap (λ x. in_place x (record p { top = top })) e ∙ ap (λ x. in_place b (record p { top = x })) f

no_answer : (bytes top : ℕ) → enough bytes top ≡ 0 → take_word bytes top ≡ 0
no_answer bytes top e = ap (applied And (word_sum (applied Shl top 2) (0x20010 * 4096))) e ∙ and_zero_r (word_sum (applied Shl top 2) (0x20010 * 4096))

no_more : (bytes top : ℕ) → top ≤ 16384 → enough bytes top ≡ 0 → top_word bytes top ≡ top
no_more bytes top le e = ap (λ m. word_sum top (applied And (size_word bytes) m)) e ∙ ap (word_sum top) (and_zero_r (size_word bytes)) ∙ omega arith

an_answer : (bytes top : ℕ) → top ≤ 16384 → enough bytes top ≡ 2 ^ 32 - 1 → take_word bytes top ≡ private_address top
an_answer bytes top le e =
    ap (applied And (word_sum (applied Shl top 2) (0x20010 * 4096))) e
    ∙ ones (word_sum (applied Shl top 2) (0x20010 * 4096)) (omega arith)
    ∙ omega arith

some_more : (bytes top : ℕ) → top ≤ 16384 → enough bytes top ≡ 2 ^ 32 - 1 → size_word bytes ≤ 16384 → top_word bytes top ≡ top + size_word bytes
some_more bytes top le e few = ap (λ m. word_sum top (applied And (size_word bytes) m)) e ∙ ap (word_sum top) (ones (size_word bytes) (omega arith)) ∙ omega arith

takes_none : (bytes : ℕ) (p : Processor) → p.top ≤ 16384 → enough bytes p.top ≡ 0 → taken (words_of bytes) p ≡ in_place 0 p → Takes bytes p
takes_none bytes p le e f =
    record { processor = f ∙ took p 0 (take_word bytes p.top) p.top (top_word bytes p.top) (sym (no_answer bytes p.top e)) (sym (no_more bytes p.top le e)) }

takes_some : (bytes : ℕ) (p : Processor) → p.top ≤ 16384 → enough bytes p.top ≡ 2 ^ 32 - 1 → size_word bytes ≤ 16384 → words_of bytes ≡ size_word bytes
    → taken (words_of bytes) p ≡ in_place (private_address p.top) (record p { top = p.top + words_of bytes }) → Takes bytes p
takes_some bytes p le e few same f =
    record { processor = f ∙ took p (private_address p.top) (take_word bytes p.top) (p.top + words_of bytes) (top_word bytes p.top) (sym (an_answer bytes p.top le e)) (ap (λ w. p.top + w) same ∙ sym (some_more bytes p.top le e few)) }

by_size : (bytes : ℕ) (p : Processor) → bytes < 2 ^ 32 → p.top ≤ 16384
    → (bytes < 2 ^ 31) ⊎ (2 ^ 31 ≤ bytes) → (word_sum (size_word bytes) 0xffffffff < left_word p.top) ⊎ (left_word p.top ≤ word_sum (size_word bytes) 0xffffffff)
    → Takes bytes p
by_size bytes p lt le (inl small) (inl enough') =
    let left = left_is p.top le in
    let words = words_small bytes small in
    takes_some bytes p le (enough_mask bytes p.top enough') (omega arith) (omega arith) (taken_all (words_of bytes) p (omega arith) (omega arith))
by_size bytes p lt le (inr large) (inl enough') = let left = left_is p.top le in absurd (omega arith)
by_size bytes p lt le (inr large) (inr few) =
    takes_none bytes p le (refused_mask bytes p.top few) (taken_none (words_of bytes) p (words_large bytes large))
by_size bytes p lt le (inl small) (inr few) =
    let left = left_is p.top le in
    let words = words_small bytes small in
    takes_none bytes p le (refused_mask bytes p.top few) (elim (cases_lt 0 (words_of bytes)) [
      | inl pos ↦ taken_few (words_of bytes) p pos (omega arith)
      | inr none ↦ taken_none (words_of bytes) p (omega arith)
    ])

pub takes : (bytes : ℕ) (p : Processor) → bytes < 2 ^ 32 → p.top ≤ 16384 → Takes bytes p
takes bytes p lt le = by_size bytes p lt le (cases_lt bytes (2 ^ 31)) (cases_lt (word_sum (size_word bytes) 0xffffffff) (left_word p.top))
