-- A list of tokens has one answer: how far what comes first goes, what it spells, and the first token past the bound on levels.
use Rattle.std.proofs.Common.{◌≡◌, ℕ, ◌≤◌, List, [], ◌∷◌, ◌++◌, Ok, Err, length, inl, inr, refl, sym, ap, ◌∙◌, subst, append-nil, append_assoc, arith, length-append}
use Rattle.fk_parse_combinators.specs.Languages.{Placed, Stretch, tokens_of}
use Rattle.fk_parse_combinators.specs.Reads.{Unexpected, EndOfText, Nesting, Answer, Family, Begins, IsShallow, IsLongest, ReadsValue, ReadsNothing, ReadsDeep, Reads, HasOneAnswer}
use Rattle.fk_parse_combinators.specs.declared.limits.TheConstants.{LEVELS}
use Rattle.fk_parse_combinators.specs.Readers.{Reader}
use Rattle.fk_parse_combinators.proofs.Sets.{Kinds}
use Rattle.fk_parse_combinators.proofs.Exact.{from_deep, settled_by}
use Rattle.fk_parse_combinators.proofs.Stretches.{tokens-append, tokens_regroup, twice, from_deep-skip, length-from_deep, length-tokens}
use Rattle.fk_parse_combinators.proofs.Longest.{Faithful, whole_read, read_deep, reads, one_value, not_unexpected}

-- ---- the longest stretch

-- what comes first and begins ends within the longest stretch
within_longest : {A : Type 0} (L : Family A) (tokens : List Placed) (s t : Stretch) (rest others : List Placed)
    → IsLongest L tokens s rest → tokens ≡ tokens_of t ++ others → Begins L t
    → (between : List Placed) × (tokens_of s ≡ tokens_of t ++ between) × (others ≡ between ++ rest)
within_longest L tokens s t rest others w e b =
    elim (twice (tokens_of s) rest (tokens_of t) others (sym w.first ∙ e)) [
      | inl c ↦ c
      | inr c ↦
          absurd (not_unexpected L (t ++ b.0) b.1 (tokens_of s) c.0 (c.1 ++ tokens_of b.0) b.2
          (tokens-append t b.0 ∙ ap (λ z. z ++ tokens_of b.0) c.2 ∙ append_assoc (tokens_of s) (c.0 ∷ c.1) (tokens_of b.0))
          (w.longest c.0 (c.1 ++ others) c.3))
    ]

-- two longest stretches have the same tokens
pub one_longest : {A : Type 0} (L : Family A) (tokens : List Placed) (s t : Stretch) (rest others : List Placed)
    → IsLongest L tokens s rest → IsLongest L tokens t others → (tokens_of s ≡ tokens_of t) × (rest ≡ others)
one_longest L tokens s t rest others v w =
    let a = within_longest L tokens s t rest others v w.first w.begins in
    let b = within_longest L tokens t s others rest w v.first v.begins in
    by a.0 b.0 a.1 a.2 b.1
  where
    by : (between back : List Placed) → tokens_of s ≡ tokens_of t ++ between → others ≡ between ++ rest → tokens_of t ≡ tokens_of s ++ back
        → (tokens_of s ≡ tokens_of t) × (rest ≡ others)
    by [] back e d f = (e ∙ append-nil (tokens_of t), sym d)
    by (x ∷ between) back e d f =
        absurd (omega (arith, ap length e, ap length f, length-append (tokens_of t) (x ∷ between), length-append (tokens_of s) back))

-- ---- the first token past the bound on levels

-- no token of what begins and nests within the bound opens a level past it
not_deep : {A : Type 0} {L : Family A} {P : Reader A} {goes_on : Kinds} {room : ℕ → Type 0} → Faithful LEVELS L P goes_on room
    → (s : Stretch) (between ts rest : List Placed) → Begins L s → IsShallow s → (d : ReadsDeep L ts rest) → tokens_of s ≡ tokens_of d.stretch ++ d.deep.token ∷ between → ⊥
not_deep {A} {L} {P} {goes_on} {room} w s between ts rest b shallow d all = by (from_deep LEVELS more) (length-from_deep LEVELS more) nested
  where
    more : Stretch
    more = b.0

    front : List Placed
    front = tokens_of d.stretch

    back : List Placed
    back = between ++ tokens_of more

    tokens : tokens_of (s ++ more) ≡ front ++ d.deep.token ∷ back
    tokens = tokens-append s more ∙ ap (λ z. z ++ tokens_of more) all ∙ append_assoc front (d.deep.token ∷ between) (tokens_of more)

    read : P (front ++ d.deep.token ∷ back) ≡ settled_by (from_deep LEVELS more) b.1 []
    read = whole_read L P goes_on room w b.2.0 (s ++ more) b.1 (front ++ d.deep.token ∷ back) b.2.1 tokens ∙ ap (λ z. settled_by z b.1 []) (from_deep-skip LEVELS s more shallow)

    nested : settled_by (from_deep LEVELS more) b.1 [] ≡ Err (Nesting (d.deep.token ∷ back))
    nested = sym read ∙ read_deep w d.stretch d.deep d.begins d.shallow d.past back

    rest_of : Answer A → List Placed
    rest_of (Err (Nesting r)) = r
    rest_of answer = []

    by : (t : Stretch) → length t ≤ length more → settled_by t b.1 [] ≡ Err (Nesting (d.deep.token ∷ back)) → ⊥
    by [] h e = cc
    by (m ∷ t) h e =
        omega (arith, ap length (ap rest_of e), length-tokens (m ∷ t) [], length-tokens more [], ap length (append-nil (tokens_of more)), length-append between (tokens_of more))

-- the longest stretch nests within the bound, or a token of it opens a level past it
pub longest_not_deep : {A : Type 0} {L : Family A} {P : Reader A} {goes_on : Kinds} {room : ℕ → Type 0} → Faithful LEVELS L P goes_on room
    → (ts : List Placed) (s : Stretch) (rest others : List Placed) → IsLongest L ts s rest → IsShallow s → ReadsDeep L ts others → ⊥
longest_not_deep {L = L} w ts s rest others v shallow d =
    let front : Stretch = d.stretch ++ d.deep ∷ [] in
    let c = within_longest L ts s front rest d.others v (d.first ∙ ap (λ z. tokens_of d.stretch ++ z) d.next ∙ sym (tokens_regroup d.stretch (d.deep ∷ []) d.others)) d.begins in
    not_deep w s c.0 ts others v.begins shallow d (c.1 ∙ tokens_regroup d.stretch (d.deep ∷ []) c.0)

-- what begins does so up to each token
begins_front : {A : Type 0} (L : Family A) (s t : Stretch) → Begins L (s ++ t) → Begins L s
begins_front L s t b = (t ++ b.0, b.1, (b.2.0, subst (λ z. L b.2.0 z b.1) (append_assoc s t b.0) b.2.1))

-- the first token past the bound is one
one_deep : {A : Type 0} {L : Family A} {P : Reader A} {goes_on : Kinds} {room : ℕ → Type 0} → Faithful LEVELS L P goes_on room
    → (ts rest others : List Placed) → ReadsDeep L ts rest → ReadsDeep L ts others → rest ≡ others
one_deep {L = L} w ts rest others v d =
    elim (twice (tokens_of v.stretch) rest (tokens_of d.stretch) others (sym v.first ∙ d.first)) [
      | inl c ↦ earlier v d c.0 c.1 c.2
      | inr c ↦ sym (earlier d v (c.0 ∷ c.1) c.2 c.3)
    ]
  where
    earlier : {rest others : List Placed} (v : ReadsDeep L ts rest) (d : ReadsDeep L ts others) (between : List Placed)
        → tokens_of v.stretch ≡ tokens_of d.stretch ++ between → others ≡ between ++ rest → rest ≡ others
    earlier v d [] e f = sym f
    earlier v d (x ∷ between) e f =
        let same : x ≡ d.deep.token = cc (d.next, f) in
        absurd (not_deep w v.stretch between ts _ (begins_front L v.stretch (v.deep ∷ []) v.begins) v.shallow d (rw same at e))

-- ---- answers

-- of tokens two answers are one
pub one_answer : {A : Type 0} {L : Family A} {P : Reader A} {goes_on : Kinds} {room : ℕ → Type 0} → Faithful LEVELS L P goes_on room
    → (ts : List Placed) (x y : Answer A) → Reads L ts x → Reads L ts y → x ≡ y
one_answer {A} {L} w ts x y = by x y
  where
    -- what is longest spells something or nothing
    clash : {a : A} {rest others : List Placed} → ReadsValue L ts a rest → ReadsNothing L ts others → ⊥
    clash {a} {rest} {others} v u =
        let same = one_longest L ts v.stretch u.stretch rest others v.longest u.longest in
        u.unspelled a (v.stretch, same.0, v.spelled)

    same_rest : {rest others : List Placed} → ReadsNothing L ts rest → ReadsNothing L ts others → rest ≡ others
    same_rest {rest} {others} v u = (one_longest L ts v.stretch u.stretch rest others v.longest u.longest).1

    by : (x y : Answer A) → Reads L ts x → Reads L ts y → x ≡ y
    by (Ok (a, rest)) (Ok (b, others)) v u =
        let same = one_longest L ts v.stretch u.stretch rest others v.longest u.longest in
        let value : a ≡ b = one_value w v.stretch u.stretch a b v.spelled u.spelled same.0 v.shallow u.shallow in
        let left : rest ≡ others = same.1 in
        cc
    by (Ok (a, rest)) (Err (Unexpected others)) v u = absurd (clash v u.0)
    by (Ok (a, rest)) (Err EndOfText) v u = absurd (clash v u)
    by (Ok (a, rest)) (Err (Nesting others)) v u = absurd (longest_not_deep w ts v.stretch rest others v.longest v.shallow u)
    by (Err (Unexpected rest)) (Ok (b, others)) v u = absurd (clash u v.0)
    by (Err (Unexpected rest)) (Err (Unexpected others)) v u = ap (λ z. Err (Unexpected z)) (same_rest v.0 u.0)
    by (Err (Unexpected rest)) (Err EndOfText) v u = absurd (omega (arith, v.1, ap length (same_rest v.0 u)))
    by (Err (Unexpected rest)) (Err (Nesting others)) v u = absurd (longest_not_deep w ts v.0.stretch rest others v.0.longest v.0.shallow u)
    by (Err EndOfText) (Ok (b, others)) v u = absurd (clash u v)
    by (Err EndOfText) (Err (Unexpected others)) v u = absurd (omega (arith, u.1, ap length (same_rest v u.0)))
    by (Err EndOfText) (Err EndOfText) v u = refl
    by (Err EndOfText) (Err (Nesting others)) v u = absurd (longest_not_deep w ts v.stretch [] others v.longest v.shallow u)
    by (Err (Nesting rest)) (Ok (b, others)) v u = absurd (longest_not_deep w ts u.stretch others rest u.longest u.shallow v)
    by (Err (Nesting rest)) (Err (Unexpected others)) v u = absurd (longest_not_deep w ts u.0.stretch others rest u.0.longest u.0.shallow v)
    by (Err (Nesting rest)) (Err EndOfText) v u = absurd (longest_not_deep w ts u.stretch [] rest u.longest u.shallow v)
    by (Err (Nesting rest)) (Err (Nesting others)) v u = ap (λ z. Err (Nesting z)) (one_deep w ts rest others v u)

-- tokens have one answer
pub has_one_answer : {A : Type 0} {L : Family A} {P : Reader A} {goes_on : Kinds} {room : ℕ → Type 0} → Faithful LEVELS L P goes_on room → HasOneAnswer L
has_one_answer {P = P} w tokens =
    let answered = reads w tokens in
    (P tokens, answered, λ other r. one_answer w tokens other (P tokens) r answered)
