-- The statements of the text, one by one, and their pieces.
use Rattle.std.proofs.Common.{◌≡◌, ℕ, suc, ◌+◌, ◌-◌, ◌<◌, ◌≤◌, ◌%◌, List, [], ◌∷◌, ◌++◌, codes, map, append_assoc, ap, sym, ◌∙◌, arith}
use Rattle.std.specs.Prelude.{flat_map}
use Rattle.std.specs.Fmt.{decimal}
use Rattle.std.specs.List.{range_with_len}
use Rattle.fk_top_selftest.specs.Generated.{generated, statement, statement_of}

-- the lines from a statement on
abbrev pub lines_from : ℕ → ℕ → List ℕ
lines_from index count = flat_map (λ line. line ++ 10 ∷ []) (map statement (range_with_len (index + 1) (count - index)) ++ codes "} }" ∷ [])

pub next_line : (index count : ℕ) → index < count → lines_from index count ≡ (statement (index + 1) ++ 10 ∷ []) ++ lines_from (index + 1) count
next_line index count lt =
    let more : count - index ≡ suc (count - (index + 1)) = omega (arith, lt) in
    ap (λ n. flat_map (λ line. line ++ 10 ∷ []) (map statement (range_with_len (index + 1) n) ++ codes "} }" ∷ [])) more

-- the lines before the statements
abbrev pub head : List ℕ
head =
    codes "sh int c[8];" ++ 10 ∷ codes "sync void turn(sh int j, int m) { int i; for (i = 0; i < $ % m; i++) mpadd(&c[j], 1); }"
    ++ 10 ∷ codes "void main(void) { start {" ++ 10 ∷ []

pub first_lines : (count : ℕ) → head ++ lines_from 0 count ≡ generated count
first_lines count =
    let all : count - 0 ≡ count = omega arith in
    ap (λ n. head ++ flat_map (λ line. line ++ 10 ∷ []) (map statement (range_with_len 1 n) ++ codes "} }" ∷ [])) all

pub last_line : (index count : ℕ) → count ≤ index → lines_from index count ≡ codes "} }" ++ 10 ∷ []
last_line index count le =
    let none : count - index ≡ 0 = omega (arith, le) in
    ap (λ n. flat_map (λ line. line ++ 10 ∷ []) (map statement (range_with_len (index + 1) n) ++ codes "} }" ∷ [])) none

-- a line is written behind a text
pub behind : (text line rest : List ℕ) → text ++ line ++ 10 ∷ [] ++ rest ≡ text ++ ((line ++ 10 ∷ []) ++ rest)
behind text line rest =
    append_assoc (text ++ line) (10 ∷ []) rest ∙ append_assoc text line (10 ∷ rest) ∙ ap (λ bytes. text ++ bytes) (sym (append_assoc line (10 ∷ []) rest))

-- a statement of a kind
pub of_kind : (i kind : ℕ) → i % 6 ≡ kind → statement i ≡ statement_of kind (decimal (i % 8)) (decimal (i % 9 + 1)) (decimal (i % 7 + 1)) (decimal (i % 5 + 1))
of_kind i kind is = ap (λ k. statement_of k (decimal (i % 8)) (decimal (i % 9 + 1)) (decimal (i % 7 + 1)) (decimal (i % 5 + 1))) is

-- pieces, joined from the left or from the right
pub two : (a x b y c : List ℕ) → a ++ x ++ b ++ y ++ c ≡ a ++ (x ++ (b ++ (y ++ c)))
two a x b y c = append_assoc (a ++ x ++ b) y c ∙ append_assoc (a ++ x) b (y ++ c) ∙ append_assoc a x (b ++ (y ++ c))

pub three : (a x b y c z d : List ℕ) → a ++ x ++ b ++ y ++ c ++ z ++ d ≡ a ++ (x ++ (b ++ (y ++ (c ++ (z ++ d)))))
three a x b y c z d = append_assoc (a ++ x ++ b ++ y ++ c) z d ∙ append_assoc (a ++ x ++ b ++ y) c (z ++ d) ∙ two a x b y (c ++ (z ++ d))

pub four : (a x b y c z d w e : List ℕ) → a ++ x ++ b ++ y ++ c ++ z ++ d ++ w ++ e ≡ a ++ (x ++ (b ++ (y ++ (c ++ (z ++ (d ++ (w ++ e)))))))
four a x b y c z d w e = append_assoc (a ++ x ++ b ++ y ++ c ++ z ++ d) w e ∙ append_assoc (a ++ x ++ b ++ y ++ c ++ z) d (w ++ e) ∙ three a x b y c z (d ++ (w ++ e))
