-- What a word looks like.
use Rattle.std.proofs.Common.{◌≡◌, ℕ, Bool, true, false, [], ◌∷◌, ◌++◌, Option, Some, None, refl, sym, ap, ◌∙◌, subst, arith}
use Rattle.std.specs.Prelude.{◌==◌, encode_utf8, slice_get}
use Rattle.std.specs.List.{before_first, after_first}
use Rattle.std.specs.Str.{IsUtf8, bytes_eq, chars, encode_utf8_all}
use Rattle.std.proofs.lemmas.Bool.{eqb-true}
use Rattle.std.proofs.Math.Numerals.{one-add}
use Rattle.std.proofs.Math.Nat.{suc-add}
use Rattle.std.proofs.lemmas.Str.{encode_ascii, encodes-chars, IsUtf8-drop, IsCharBoundary-after_ascii}
use Rattle.clap.specs.Lexer.{has_byte, long_of, short_of}
use Rattle.fk_top_words.specs.Arguments.{Text, is_dashed}

-- `--name`, with `=value` where there is one
abbrev pub long_text : Text → Option Text → Text
long_text name None = 45 ∷ 45 ∷ name
long_text name (Some value) = 45 ∷ 45 ∷ name ++ 61 ∷ value

pub record IsLong (word name : Text) (value : Option Text) : Type 0 where
  pub text : word ≡ long_text name value
  pub some : bytes_eq word (45 ∷ 45 ∷ []) ≡ false
  pub long : long_of word ≡ Some (name, value)

pub record IsShort (word : Text) (first : ℕ) (rest : Text) : Type 0 where
  pub text : word ≡ 45 ∷ first ∷ rest
  pub some : bytes_eq word (45 ∷ 45 ∷ []) ≡ false
  pub long : long_of word ≡ None
  pub short : short_of word ≡ Some (first ∷ rest)

pub record IsPlain (word : Text) : Type 0 where
  pub dashed : is_dashed word ≡ false
  pub some : bytes_eq word (45 ∷ 45 ∷ []) ≡ false
  pub long : long_of word ≡ None
  pub short : short_of word ≡ None

pub data Form (word : Text) : Type 0 where
  dashes : word ≡ 45 ∷ 45 ∷ [] → Form word
  long : (name : Text) (value : Option Text) → IsLong word name value → Form word
  short : (first : ℕ) (rest : Text) → IsShort word first rest → Form word
  plain : IsPlain word → Form word

-- ---- `=` in a text

cut_cons : (x : ℕ) (xs : Text) (b : Bool) → (x == 61) ≡ b
    → (has_byte 61 xs ≡ true → xs ≡ before_first (λ y. y == 61) xs ++ 61 ∷ after_first (λ y. y == 61) xs)
    → has_byte 61 (x ∷ xs) ≡ true → x ∷ xs ≡ before_first (λ y. y == 61) (x ∷ xs) ++ 61 ∷ after_first (λ y. y == 61) (x ∷ xs)
cut_cons x xs true e rest has = rw e (ap (λ y. y ∷ xs) (eqb-true x 61 e))
cut_cons x xs false e rest has =
    let behind : has_byte 61 xs ≡ true = rw e at has in rw (e, one-add, suc-add) (ap (λ ys. x ∷ ys) (rest behind))

cut : (xs : Text) → has_byte 61 xs ≡ true → xs ≡ before_first (λ y. y == 61) xs ++ 61 ∷ after_first (λ y. y == 61) xs
cut [] has = cc
cut (x ∷ xs) has = cut_cons x xs (x == 61) refl (cut xs) has

whole_cons : (x : ℕ) (xs : Text) (b : Bool) → (x == 61) ≡ b → (has_byte 61 xs ≡ false → before_first (λ y. y == 61) xs ≡ xs)
    → has_byte 61 (x ∷ xs) ≡ false → before_first (λ y. y == 61) (x ∷ xs) ≡ x ∷ xs
whole_cons x xs true e rest none = let bad : true ≡ false = rw e at none in cc
whole_cons x xs false e rest none =
    let behind : has_byte 61 xs ≡ false = rw e at none in rw (e, one-add) (ap (λ ys. x ∷ ys) (rest behind))

whole : (xs : Text) → has_byte 61 xs ≡ false → before_first (λ y. y == 61) xs ≡ xs
whole [] none = refl
whole (x ∷ xs) none = whole_cons x xs (x == 61) refl (whole xs) none

long_form : (x : ℕ) (xs : Text) (b : Bool) → has_byte 61 (x ∷ xs) ≡ b → Form (45 ∷ 45 ∷ x ∷ xs)
long_form x xs true e = long _ (Some (after_first (λ y. y == 61) (x ∷ xs))) (record {
  text = ap (λ ys. 45 ∷ 45 ∷ ys) (cut (x ∷ xs) e);
  some = refl;
  long = rw e refl;
})
long_form x xs false e = long (x ∷ xs) None (record {
  text = refl;
  some = refl;
  long = rw (e, whole (x ∷ xs) e) refl;
})

long_forms : (rest : Text) → Form (45 ∷ 45 ∷ rest)
long_forms [] = dashes refl
long_forms (x ∷ xs) = long_form x xs (has_byte 61 (x ∷ xs)) refl

second_form : (y : ℕ) (ys : Text) (c : Bool) → (y == 45) ≡ c → Form (45 ∷ y ∷ ys)
second_form y ys true e = subst (λ z. Form (45 ∷ z ∷ ys)) (sym (eqb-true y 45 e)) (long_forms ys)
second_form y ys false e = short y ys (record { text = refl; some = rw e refl; long = rw e refl; short = rw e refl })

first_form : (x : ℕ) (rest : Text) (b : Bool) → (x == 45) ≡ b → Form (x ∷ rest)
first_form x [] true e = plain (record { dashed = refl; some = rw e refl; long = rw e refl; short = rw e refl })
first_form x [] false e = plain (record { dashed = refl; some = rw e refl; long = rw e refl; short = rw e refl })
first_form x (y ∷ ys) true e = subst (λ z. Form (z ∷ y ∷ ys)) (sym (eqb-true x 45 e)) (second_form y ys (y == 45) refl)
first_form x (y ∷ ys) false e = plain (record { dashed = e; some = rw e refl; long = rw e refl; short = rw e refl })

pub form : (word : Text) → Form word
form [] = plain (record { dashed = refl; some = refl; long = refl; short = refl })
form (x ∷ rest) = first_form x rest (x == 45) refl

-- a word that begins with no hyphen, or is one
pub plain_word : (word : Text) → is_dashed word ≡ false → IsPlain word
plain_word word undashed = by (form word)
  where
    by : Form word → IsPlain word
    by (dashes is) = let bad : true ≡ false = rw is at undashed in cc
    by (long name None is) = let t = is.text in let bad : true ≡ false = rw t at undashed in cc
    by (long name (Some v) is) = let t = is.text in let bad : true ≡ false = rw t at undashed in cc
    by (short first rest is) = let t = is.text in let bad : true ≡ false = rw t at undashed in cc
    by (plain is) = is

-- ---- the first character of a short option

-- the first character of what follows the hyphen
pub record FirstChar (first : ℕ) (rest : Text) : Type 0 where
  pub character : ℕ
  pub is_first : slice_get (chars (first ∷ rest)) 0 ≡ Some character
  pub ascii : character ≡ 111 → first ≡ 111

first_of_chars : (first : ℕ) (rest cs : Text) → encode_utf8_all cs ≡ first ∷ rest → chars (first ∷ rest) ≡ cs → FirstChar first rest
first_of_chars first rest [] spelled are = cc
first_of_chars first rest (c ∷ cs) spelled are = record {
  character = c;
  is_first = rw are refl;
  ascii = λ e. first_is first rest c cs spelled e;
}
  where
    first_is : (first : ℕ) (rest : Text) (c : ℕ) (cs : Text) → encode_utf8_all (c ∷ cs) ≡ first ∷ rest → c ≡ 111 → first ≡ 111
    first_is first rest c cs spelled e =
        let o : encode_utf8 c ≡ 111 ∷ [] = ap encode_utf8 e ∙ encode_ascii 111 (omega arith) in
        let all : 111 ∷ encode_utf8_all cs ≡ first ∷ rest = rw o at spelled in cc

pub first_char : (first : ℕ) (rest : Text) → IsUtf8 (45 ∷ first ∷ rest) → FirstChar first rest
first_char first rest utf8 =
    let behind : IsUtf8 (first ∷ rest) = IsUtf8-drop (45 ∷ first ∷ rest) 1 utf8 (IsCharBoundary-after_ascii (45 ∷ first ∷ rest) 0 utf8 (omega arith) (omega arith)) in
    first_of_chars first rest (chars (first ∷ rest)) (encodes-chars (first ∷ rest) behind) refl

-- the first character is `o` where the first byte is
pub o_first : (rest : Text) → slice_get (chars (111 ∷ rest)) 0 ≡ Some 111
unfolding chars
o_first [] = refl
o_first (x ∷ xs) = refl
