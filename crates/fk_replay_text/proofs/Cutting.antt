-- Texts that are cut at a byte.
use Rattle.std.proofs.Common.{◌≡◌, ◌≢◌, ℕ, zero, suc, ◌+◌, ◌-◌, ◌<◌, Bool, true, false, not, List, [], ◌∷◌, ◌++◌, length, take, drop, refl, sym, ap, ◌∙◌, arith}
use Rattle.std.specs.Prelude.{◌==◌}
use Rattle.std.specs.List.{list_all, prefix_len, take_while}
use Rattle.std.proofs.Math.Numerals.{one-add}
use Rattle.std.proofs.lemmas.Bool.{eqb-true}
use Rattle.std.proofs.lemmas.List.{take-append-drop, take_all, take_rest}
use Rattle.std.proofs.lemmas.List.Folds.{length-prefix_len}
use Rattle.std.proofs.lemmas.List.Sums.{prefix_len-le-length}
use Rattle.fk_replay_text.specs.Texts.{Lacks, Stops, IsCut, IsWord}

-- ---- texts that lack a byte

pub lacks_append : (byte : ℕ) (xs ys : List ℕ) → Lacks byte xs → Lacks byte ys → Lacks byte (xs ++ ys)
lacks_append byte [] ys l m = m
lacks_append byte (x ∷ xs) ys l m = (l.0, lacks_append byte xs ys l.1 m)

pub lacks_parts : (byte : ℕ) (xs ys : List ℕ) → Lacks byte (xs ++ ys) → Lacks byte xs × Lacks byte ys
lacks_parts byte [] ys l = (tt, l)
lacks_parts byte (x ∷ xs) ys l = let rest = lacks_parts byte xs ys l.1 in ((l.0, rest.0), rest.1)

-- a text that lacks a byte isn't cut there
pub lacks_no_cut : (byte : ℕ) (text xs ys : List ℕ) → Lacks byte text → text ≡ xs ++ (byte ∷ ys) → ⊥
lacks_no_cut byte text xs ys l e =
    let parts = lacks_parts byte xs (byte ∷ ys) (rw e at l) in parts.1.0 refl

no_eqb : (b byte : ℕ) → not (b == byte) ≡ true → b ≢ byte
no_eqb b byte h = grind arith

-- by a test
pub lacks_by : (byte : ℕ) (xs : List ℕ) → list_all (λ b. not (b == byte)) xs ≡ true → Lacks byte xs
lacks_by byte [] h = tt
lacks_by byte (x ∷ xs) h = by (not (x == byte)) refl (lacks_by byte xs)
  where
    by : (b : Bool) → not (x == byte) ≡ b → (list_all (λ b. not (b == byte)) xs ≡ true → Lacks byte xs) → Lacks byte (x ∷ xs)
    by true e rest = (no_eqb x byte e, rest (rw e at h))
    by false e rest = let bad : false ≡ true = rw e at h in absurd (cc)

-- ---- a text has one first byte of a kind, and one first word

pub cut_once : (byte : ℕ) (xs ys us vs : List ℕ) → Lacks byte xs → Lacks byte us → xs ++ (byte ∷ ys) ≡ us ++ (byte ∷ vs) → (xs ≡ us) × (ys ≡ vs)
cut_once byte [] ys [] vs l m e = (refl, cc)
cut_once byte [] ys (u ∷ us) vs l m e = let h : u ≡ byte = cc in absurd (m.0 h)
cut_once byte (x ∷ xs) ys [] vs l m e = let h : x ≡ byte = cc in absurd (l.0 h)
cut_once byte (x ∷ xs) ys (u ∷ us) vs l m e =
    let h : x ≡ u = cc in
    let t : xs ++ (byte ∷ ys) ≡ us ++ (byte ∷ vs) = cc in
    let r = cut_once byte xs ys us vs l.1 m.1 t in
    (ap (λ a. a ∷ xs) h ∙ ap (λ l. u ∷ l) r.0, r.1)

no_first : (byte u : ℕ) (ys us vs : List ℕ) → Stops byte ys → u ≢ byte → ys ≡ (u ∷ us) ++ vs → ⊥
no_first byte u [] us vs s n e = cc
no_first byte u (y ∷ ys) us vs s n e = let h : u ≡ byte = cc in n h

pub word_once : (byte : ℕ) (xs ys us vs : List ℕ) → Lacks byte xs → Lacks byte us → Stops byte ys → Stops byte vs → xs ++ ys ≡ us ++ vs → (xs ≡ us) × (ys ≡ vs)
word_once byte [] ys [] vs l m s t e = (refl, e)
word_once byte [] ys (u ∷ us) vs l m s t e = absurd (no_first byte u ys us vs s m.0 e)
word_once byte (x ∷ xs) ys [] vs l m s t e = absurd (no_first byte x vs xs ys t l.0 (sym e))
word_once byte (x ∷ xs) ys (u ∷ us) vs l m s t e =
    let h : x ≡ u = cc in
    let e' : xs ++ ys ≡ us ++ vs = cc in
    let r = word_once byte xs ys us vs l.1 m.1 s t e' in
    (ap (λ a. a ∷ xs) h ∙ ap (λ l. u ∷ l) r.0, r.1)

-- ---- where the first byte of a kind is

abbrev before : ℕ → List ℕ → ℕ
before byte text = prefix_len (λ b. not (b == byte)) text

-- the first n bytes lack the byte, and it comes behind them
record IsDivided (byte : ℕ) (text : List ℕ) (n : ℕ) : Type 0 where
  lacks : Lacks byte (take n text)
  stops : Stops byte (drop n text)

divided_cons : (byte b : ℕ) (bs : List ℕ) (q : Bool) → (b == byte) ≡ q → IsDivided byte bs (before byte bs) → IsDivided byte (b ∷ bs) (before byte (b ∷ bs))
divided_cons byte b bs true e behind = record {
  lacks = rw e tt;
  stops = rw e (eqb-true b byte e);
}
divided_cons byte b bs false e behind =
    let other : not (b == byte) ≡ true = rw e refl in
    record {
      lacks = rw (e, one-add) (no_eqb b byte other, behind.lacks);
      stops = rw (e, one-add) behind.stops;
    }

divided : (byte : ℕ) (text : List ℕ) → IsDivided byte text (before byte text)
divided byte [] = record { lacks = tt; stops = tt }
divided byte (b ∷ bs) = divided_cons byte b bs (b == byte) refl (divided byte bs)

divided_at : (byte : ℕ) (text : List ℕ) (n : ℕ) → n ≡ length (take_while (λ b. not (b == byte)) text) → IsDivided byte text n
divided_at byte text n e =
    let here : n ≡ before byte text = e ∙ length-prefix_len (λ b. not (b == byte)) text in
    rw here (divided byte text)

pub word_at : (text : List ℕ) (n : ℕ) → n ≡ length (take_while (λ b. not (b == 32)) text) → IsWord text (take n text) (drop n text)
word_at text n e =
    let d = divided_at 32 text n e in
    record { parts = sym (take-append-drop n text); lacks = d.lacks; ends = d.stops }

pub none_at : (byte : ℕ) (text : List ℕ) (n : ℕ) → n ≡ length (take_while (λ b. not (b == byte)) text) → n ≡ length text → Lacks byte text
none_at byte text n e all =
    let d = divided_at byte text n e in
    rw (take_all n text (omega arith)) at d.lacks

-- the byte behind the first n ones
begun : (byte : ℕ) (text : List ℕ) (n : ℕ) → n < length text → Stops byte (drop n text) → drop n text ≡ byte ∷ drop (n + 1) text
begun byte [] n lt s = absurd (omega arith)
begun byte (b ∷ bs) zero lt s = ap (λ x. x ∷ bs) s
begun byte (b ∷ bs) (suc n) lt s =
    let next : n + 1 ≡ suc n = omega arith in
    let more : suc n + 1 ≡ suc (suc n) = omega arith in
    begun byte bs n (omega arith) s ∙ ap (λ k. byte ∷ drop k bs) next ∙ ap (λ k. byte ∷ drop k (b ∷ bs)) (sym more)

pub cut_at : (byte : ℕ) (text : List ℕ) (n : ℕ) → n ≡ length (take_while (λ b. not (b == byte)) text) → n < length text → IsCut byte text (take n text) (drop (n + 1) text)
cut_at byte text n e lt =
    let d = divided_at byte text n e in
    record {
      parts = sym (take-append-drop n text) ∙ ap (λ l. take n text ++ l) (begun byte text n lt d.stops);
      lacks = d.lacks;
    }

-- what is found where the text doesn't end before
pub cut_found : (byte : ℕ) (text : List ℕ) (n : ℕ) → n ≡ length (take_while (λ b. not (b == byte)) text) → (n ≡ length text → ⊥)
    → IsCut byte text (take n text) (take (length text - (n + 1)) (drop (n + 1) text))
cut_found byte text n e other =
    let here : n ≡ before byte text = e ∙ length-prefix_len (λ b. not (b == byte)) text in
    let le = prefix_len-le-length (λ b. not (b == byte)) text in
    let lt : n < length text = grind (arith, here, le, other) in
    rw (take_rest text (n + 1)) (cut_at byte text n e lt)
