-- The longest front of a list that passes a test, element by element.
use Rattle.std.proofs.Common.{◌≡◌, ℕ, zero, suc, ◌+◌, ◌<◌, ◌≤◌, ◌&&◌, Bool, true, false, nat_lt, Some, None, List, [], ◌∷◌, length, take, get_or, refl, sym, ap, subst, ◌∙◌, arith, if◌then◌else◌}
use Rattle.std.specs.List.{prefix_len, list_all}
use Rattle.fk_lex.specs.declared.token.TokenKind.{TokenKind}
use Rattle.fk_lex.specs.Bytes.{is_suffix, digit_value}
use Rattle.fk_lex.specs.Kinds.{LongestBy, LongestTail, is_tail, kind_of, Longest, is_empty}

-- only the empty front of an empty list
pub longest_nil : (test : List ℕ → Bool) → test [] ≡ true → LongestBy test [] 0
longest_nil test passes = record { within = omega arith; passes = passes; longest = λ m more within. absurd (omega arith) }

-- one element more, where the tests agree behind it
pub longest_more : (test other : List ℕ → Bool) (c : ℕ) (cs : List ℕ) (n : ℕ) → ((k : ℕ) → test (c ∷ take k cs) ≡ other (take k cs)) → LongestBy other cs n → LongestBy test (c ∷ cs) (suc n)
longest_more test other c cs n agree behind = record {
  within = let inside = behind.within in omega arith;
  passes = agree n ∙ behind.passes;
  longest = longer;
}
  where
    longer : (m : ℕ) → suc n < m → m ≤ length (c ∷ cs) → test (take m (c ∷ cs)) ≡ false
    longer zero more within = absurd (omega arith)
    longer (suc m) more within = agree m ∙ behind.longest m (omega arith) (omega arith)

-- none, where no front with the first element passes
pub longest_none : (test : List ℕ → Bool) (c : ℕ) (cs : List ℕ) → test [] ≡ true → ((k : ℕ) → k ≤ length cs → test (c ∷ take k cs) ≡ false) → LongestBy test (c ∷ cs) 0
longest_none test c cs empty never = record { within = omega arith; passes = empty; longest = longer }
  where
    longer : (m : ℕ) → 0 < m → m ≤ length (c ∷ cs) → test (take m (c ∷ cs)) ≡ false
    longer zero more within = absurd (omega arith)
    longer (suc m) more within = never m (omega arith)

pub longest_at : (test : List ℕ → Bool) (text : List ℕ) (m n : ℕ) → m ≡ n → LongestBy test text m → LongestBy test text n
longest_at test text m n same longest = subst (LongestBy test text) same longest

-- the longest front of which all elements pass

all_more : (p : ℕ → Bool) (c : ℕ) (cs : List ℕ) → p c ≡ true → list_all p (c ∷ cs) ≡ list_all p cs
all_more p c cs is = ap (λ b. b && list_all p cs) is

all_not : (p : ℕ → Bool) (c : ℕ) (cs : List ℕ) → p c ≡ false → list_all p (c ∷ cs) ≡ false
all_not p c cs is = ap (λ b. b && list_all p cs) is

pub length_more : (p : ℕ → Bool) (c : ℕ) (cs : List ℕ) → p c ≡ true → prefix_len p (c ∷ cs) ≡ suc (prefix_len p cs)
length_more p c cs is =
    let one : prefix_len p (c ∷ cs) ≡ 1 + prefix_len p cs = ap (λ b. if b then 1 + prefix_len p cs else 0) is in
    omega arith

pub length_none : (p : ℕ → Bool) (c : ℕ) (cs : List ℕ) → p c ≡ false → prefix_len p (c ∷ cs) ≡ 0
length_none p c cs is = ap (λ b. if b then 1 + prefix_len p cs else 0) is

all_longest_by : (p : ℕ → Bool) (c : ℕ) (cs : List ℕ) → LongestBy (list_all p) cs (prefix_len p cs) → (b : Bool) → p c ≡ b → LongestBy (list_all p) (c ∷ cs) (prefix_len p (c ∷ cs))
all_longest_by p c cs behind true is =
    longest_at (list_all p) (c ∷ cs) _ _ (sym (length_more p c cs is)) (longest_more (list_all p) (list_all p) c cs (prefix_len p cs) (λ k. all_more p c (take k cs) is) behind)
all_longest_by p c cs behind false is =
    longest_at (list_all p) (c ∷ cs) _ _ (sym (length_none p c cs is)) (longest_none (list_all p) c cs refl (λ k within. all_not p c (take k cs) is))

pub all_longest : (p : ℕ → Bool) (cs : List ℕ) → LongestBy (list_all p) cs (prefix_len p cs)
all_longest p [] = longest_nil (list_all p) refl
all_longest p (c ∷ cs) = all_longest_by p c cs (all_longest p cs) (p c) refl

-- digits and a suffix

abbrev pub is_digit_of : ℕ → ℕ → Bool
is_digit_of base c = nat_lt (digit_value c) base

pub tail_digit : (base c : ℕ) (cs : List ℕ) → is_digit_of base c ≡ true → is_tail base (c ∷ cs) ≡ is_tail base cs
tail_digit base c cs is = ap (λ b. if b then is_tail base cs else (is_suffix c && is_empty cs)) is

pub tail_other : (base c : ℕ) (cs : List ℕ) → is_digit_of base c ≡ false → is_tail base (c ∷ cs) ≡ (is_suffix c && is_empty cs)
tail_other base c cs is = ap (λ b. if b then is_tail base cs else (is_suffix c && is_empty cs)) is

-- the digits are followed by a suffix, or by none
pub record IsTailAt (base : ℕ) (text : List ℕ) (n : ℕ) : Type 0 where
  pub suffixed : is_suffix (get_or text n 0) ≡ true → LongestTail base text (n + 1)
  pub plain : is_suffix (get_or text n 0) ≡ false → LongestTail base text n

tail_nil : (base : ℕ) → IsTailAt base [] 0
tail_nil base = record { suffixed = λ is. cc; plain = λ is. longest_nil (is_tail base) refl }

tail_more : (base c : ℕ) (cs : List ℕ) (n : ℕ) → is_digit_of base c ≡ true → IsTailAt base cs n → IsTailAt base (c ∷ cs) (suc n)
tail_more base c cs n digit behind = record {
  suffixed = λ is.
      let same : suc (n + 1) ≡ suc n + 1 = omega arith in
      longest_at (is_tail base) (c ∷ cs) _ _ same (longest_more (is_tail base) (is_tail base) c cs (n + 1) agree (behind.suffixed is));
  plain = λ is. longest_more (is_tail base) (is_tail base) c cs n agree (behind.plain is);
}
  where
    agree : (k : ℕ) → is_tail base (c ∷ take k cs) ≡ is_tail base (take k cs)
    agree k = tail_digit base c (take k cs) digit

empty_longest : (cs : List ℕ) → LongestBy is_empty cs 0
empty_longest [] = longest_nil is_empty refl
empty_longest (c ∷ cs) = longest_none is_empty c cs refl (λ k within. refl)

tail_end : (base c : ℕ) (cs : List ℕ) → is_digit_of base c ≡ false → IsTailAt base (c ∷ cs) 0
tail_end base c cs other = record {
  suffixed = λ is.
      let one : suc 0 ≡ 0 + 1 = omega arith in
      longest_at (is_tail base) (c ∷ cs) _ _ one
      (longest_more (is_tail base) is_empty c cs 0 (λ k. tail_other base c (take k cs) other ∙ ap (λ b. b && is_empty (take k cs)) is) (empty_longest cs));
  plain = λ is. longest_none (is_tail base) c cs refl (λ k within. tail_other base c (take k cs) other ∙ ap (λ b. b && is_empty (take k cs)) is);
}

tail_by : (base c : ℕ) (cs : List ℕ) → IsTailAt base cs (prefix_len (is_digit_of base) cs) → (b : Bool) → is_digit_of base c ≡ b → IsTailAt base (c ∷ cs) (prefix_len (is_digit_of base) (c ∷ cs))
tail_by base c cs behind true is = subst (IsTailAt base (c ∷ cs)) (sym (length_more (is_digit_of base) c cs is)) (tail_more base c cs (prefix_len (is_digit_of base) cs) is behind)
tail_by base c cs behind false is = subst (IsTailAt base (c ∷ cs)) (sym (length_none (is_digit_of base) c cs is)) (tail_end base c cs is)

pub tail_at : (base : ℕ) (text : List ℕ) → IsTailAt base text (prefix_len (is_digit_of base) text)
tail_at base [] = tail_nil base
tail_at base (c ∷ cs) = tail_by base c cs (tail_at base cs) (is_digit_of base c) refl

-- the longest front that spells a token, by a test that tells the spellings from a first byte
pub longest_spelled : (test : List ℕ → Bool) (kind : List ℕ → TokenKind) (text : List ℕ) (n : ℕ) → ((m : ℕ) → 0 < m → m ≤ length text → kind_of (take m text) ≡ (if test (take m text) then Some (kind (take m text)) else None)) → 0 < n → LongestBy test text n → Longest text n (kind (take n text))
longest_spelled test kind text n tells some longest = record {
  within = longest.within;
  spells = tells n some longest.within ∙ ap (λ b. if b then Some (kind (take n text)) else None) longest.passes;
  longest = λ m more within. tells m (omega arith) within ∙ ap (λ b. if b then Some (kind (take m text)) else None) (longest.longest m more within);
}
