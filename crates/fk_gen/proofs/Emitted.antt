-- Lines that are added one by one.
use Rattle.std.proofs.Common.{◌≡◌, ℕ, zero, suc, ◌+◌, ◌-◌, ◌^◌, ◌<◌, List, [], ◌∷◌, ◌++◌, length, map, take, Option, All, slice_index_or, sym, ◌≤◌, ap, subst, ◌∙◌, arith, refl, ◌⊎◌, inl, inr}
use Rattle.std.specs.Result.{OnOk, OnErr}
use Rattle.std.specs.Prelude.{Result, Ok, Err}
use Rattle.std.proofs.lemmas.List.{length-append, length-map, length-take-le, take_all, take-append-le}
use Rattle.std.proofs.lemmas.Bool.{cases_lt}
use Rattle.std.proofs.Math.Seq.{take-append_seam, take-append-add}
use Rattle.std.proofs.lemmas.List.Elements.{All-head, All-tail}
use Rattle.fk_asm.specs.Assembly.{Assembly, AreFollowed}
use Rattle.fk_asm.specs.Block.{MarkedLine, GoesToMade, HasBegun, lines_of, with_block}
use Rattle.fk_asm.proofs.Straight.{with_block-nil, with_block-append, AreFollowed-with_block}
use Rattle.fk_gen.specs.declared.block_line.BlockLine.{BlockLine}
use Rattle.fk_gen.specs.Lines.{marked, FitLine, FitLines}

pub on_err : {T E : Type 0} (r : Result T E) (P : Type 0) → P → OnErr r P
on_err (Ok x) P p = tt
on_err (Err e) P p = p

pub fit_at : (lines : List BlockLine) (n : ℕ) (d : BlockLine) → n < length lines → FitLines (map marked lines) → FitLine (marked (slice_index_or lines n d))
fit_at [] n d lt f = absurd (omega arith)
fit_at (b ∷ lines) zero d lt f = f.0
fit_at (b ∷ lines) (suc n) d lt f = fit_at lines n d (omega arith) f.1

label_at : (bound : List (Option ℕ)) (lines : List BlockLine) (n : ℕ) (d : BlockLine) → n < length lines → All (GoesToMade bound) (map marked lines)
    → GoesToMade bound (marked (slice_index_or lines n d))
label_at bound [] n d lt f = absurd (omega arith)
label_at bound (b ∷ lines) zero d lt f = All-head (GoesToMade bound) (marked b) (map marked lines) f
label_at bound (b ∷ lines) (suc n) d lt f = label_at bound lines n d (omega arith) (All-tail (GoesToMade bound) (marked b) (map marked lines) f)

pub label_in : (old mid : Assembly) (lines : List BlockLine) (n : ℕ) (d : BlockLine) → n < length lines → All (GoesToMade old.bound) (map marked lines)
    → mid ≡ with_block old (take n (map marked lines)) → GoesToMade mid.bound (marked (slice_index_or lines n d))
label_in old mid lines n d lt f e =
    subst (λ a. GoesToMade a.bound (marked (slice_index_or lines n d))) (sym e) (label_at old.bound lines n d lt f)

take_more : (lines : List BlockLine) (n : ℕ) (d : BlockLine) → n < length lines
    → take n (map marked lines) ++ marked (slice_index_or lines n d) ∷ [] ≡ take (suc n) (map marked lines)
take_more [] n d lt = absurd (omega arith)
take_more (b ∷ lines) zero d lt = refl
take_more (b ∷ lines) (suc n) d lt = ap (λ ms. marked b ∷ ms) (take_more lines n d (omega arith))

pub take_next : (lines : List BlockLine) (n : ℕ) (d : BlockLine) → n < length lines
    → take n (map marked lines) ++ marked (slice_index_or lines n d) ∷ [] ≡ take (n + 1) (map marked lines)
take_next lines n d lt = let e : suc n ≡ n + 1 = omega arith in take_more lines n d lt ∙ ap (λ k. take k (map marked lines)) e

pub one_more : (old mid new : Assembly) (block : List MarkedLine) (m : MarkedLine) (n : ℕ) → take n block ++ m ∷ [] ≡ take (n + 1) block
    → mid ≡ with_block old (take n block) → new ≡ with_block mid (m ∷ []) → new ≡ with_block old (take (n + 1) block)
one_more old mid new block m n next e f =
    f ∙ ap (λ a. with_block a (m ∷ [])) e ∙ with_block-append old (take n block) (m ∷ []) ∙ ap (with_block old) next

pub has_room : (old mid : Assembly) (lines : List BlockLine) (n : ℕ) → n < length lines → length old.lines + length lines < 2 ^ 30
    → mid ≡ with_block old (take n (map marked lines)) → length mid.lines < 2 ^ 30 - 1
has_room old mid lines n lt room e =
    let block = map marked lines in
    let l = length-map lines marked in
    let m : length mid.lines ≡ length old.lines + n =
    ap (λ a. length a.lines) e ∙ length-append old.lines (lines_of (take n block))
    ∙ ap (λ k. length old.lines + k) (length-map (take n block) (λ m. m.line) ∙ length-take-le n block (omega arith)) in
    omega arith

first_of_both : {A : Type 0} (x y z w : A) → (x ≡ y) ⊎ (x ≡ z) → y ≡ w → z ≡ w → x ≡ w
first_of_both x y z w (inl h) e f = h ∙ e
first_of_both x y z w (inr h) e f = h ∙ f

begun_by : (c : ℕ) (old mid new : Assembly) (block : List MarkedLine) (m : MarkedLine) (n : ℕ) → take n block ++ m ∷ [] ≡ take (n + 1) block
    → mid ≡ with_block old (take n block) → new.lines ≡ (with_block mid (take c (m ∷ []))).lines → new.bound ≡ mid.bound
    → (new.commits ≡ (with_block mid (take c (m ∷ []))).commits) ⊎ (new.commits ≡ (with_block mid (take (suc c) (m ∷ []))).commits)
    → HasBegun block old new
begun_by zero old mid new block m n next e f g (inl h) = record {
  count = n;
  lines = f ∙ ap (λ a. a.lines) (with_block-nil mid ∙ e);
  bound = g ∙ ap (λ a. a.bound) e;
  entries = inl (h ∙ ap (λ a. a.commits) (with_block-nil mid ∙ e));
}
begun_by zero old mid new block m n next e f g (inr h) = record {
  count = n;
  lines = f ∙ ap (λ a. a.lines) (with_block-nil mid ∙ e);
  bound = g ∙ ap (λ a. a.bound) e;
  entries = inr (h ∙ ap (λ a. a.commits) (one_more old mid (with_block mid (m ∷ [])) block m n next e refl));
}
begun_by (suc c) old mid new block m n next e f g h =
    let all = take_all (suc c) (m ∷ []) (omega arith) in
    let more = take_all (suc (suc c)) (m ∷ []) (omega arith) in
    let to_end = one_more old mid (with_block mid (m ∷ [])) block m n next e refl in
    record {
      count = n + 1;
      lines = f ∙ ap (λ a. a.lines) (ap (with_block mid) all ∙ to_end);
      bound = g ∙ ap (λ a. a.bound) e;
      entries = inl (first_of_both new.commits _ _ _ h (ap (λ a. a.commits) (ap (with_block mid) all ∙ to_end)) (ap (λ a. a.commits) (ap (with_block mid) more ∙ to_end)));
    }

pub begun_more : (old mid new : Assembly) (block : List MarkedLine) (m : MarkedLine) (n : ℕ) → take n block ++ m ∷ [] ≡ take (n + 1) block
    → mid ≡ with_block old (take n block) → HasBegun (m ∷ []) mid new → HasBegun block old new
begun_more old mid new block m n next e b =
    let same : b.count + 1 ≡ suc b.count = omega arith in
    begun_by b.count old mid new block m n next e b.lines b.bound
    (subst (λ k. (new.commits ≡ (with_block mid (take b.count (m ∷ []))).commits) ⊎ (new.commits ≡ (with_block mid (take k (m ∷ []))).commits)) same b.entries)

-- ---- blocks one after another

pub many_lines : (old new : Assembly) (block : List MarkedLine) (n : ℕ) → new ≡ with_block old block → length block ≡ n → length new.lines ≡ length old.lines + n
many_lines old new block n e f =
    ap (λ a. length a.lines) e ∙ length-append old.lines (lines_of block) ∙ ap (λ k. length old.lines + k) (length-map block (λ m. m.line) ∙ f)

pub followed : (old new : Assembly) (block : List MarkedLine) → AreFollowed old → new ≡ with_block old block → AreFollowed new
followed old new block f e = subst AreFollowed (sym e) (AreFollowed-with_block old block f)

pub bound_stays : (old new : Assembly) (block lines : List MarkedLine) → new ≡ with_block old block → All (GoesToMade old.bound) lines → All (GoesToMade new.bound) lines
bound_stays old new block lines e all = subst (λ a. All (GoesToMade a.bound) lines) (sym e) all

pub added_both : (old mid new : Assembly) (xs ys : List MarkedLine) → mid ≡ with_block old xs → new ≡ with_block mid ys → new ≡ with_block old (xs ++ ys)
added_both old mid new xs ys e f = f ∙ ap (λ a. with_block a ys) e ∙ with_block-append old xs ys

pub begun_behind : (old mid new : Assembly) (xs ys : List MarkedLine) → mid ≡ with_block old xs → HasBegun ys mid new → HasBegun (xs ++ ys) old new
begun_behind old mid new xs ys e b =
    let both : (n : ℕ) → with_block mid (take n ys) ≡ with_block old (take (length xs + n) (xs ++ ys)) =
    λ n. added_both old mid (with_block mid (take n ys)) xs (take n ys) e refl ∙ ap (with_block old) (sym (take-append-add xs ys n)) in
    let next : length xs + (b.count + 1) ≡ length xs + b.count + 1 = omega arith in
    record {
      count = length xs + b.count;
      lines = b.lines ∙ ap (λ a. a.lines) (both b.count);
      bound = b.bound ∙ ap (λ a. a.bound) e;
      entries = elim b.entries [
        | inl f ↦ inl (f ∙ ap (λ a. a.commits) (both b.count))
        | inr f ↦ inr (f ∙ ap (λ a. a.commits) (both (b.count + 1) ∙ ap (λ n. with_block old (take n (xs ++ ys))) next))
      ];
    }

pub begun_front : (old new : Assembly) (xs ys : List MarkedLine) → HasBegun xs old new → HasBegun (xs ++ ys) old new
begun_front old new xs ys b = by (cases_lt b.count (length xs))
  where
    by : (b.count < length xs) ⊎ (length xs ≤ b.count) → HasBegun (xs ++ ys) old new
    by (inl lt) =
        let here = sym (take-append-le b.count xs ys (omega arith)) in
        let next = sym (take-append-le (b.count + 1) xs ys (omega arith)) in
        record {
          count = b.count;
          lines = b.lines ∙ ap (λ block. (with_block old block).lines) here;
          bound = b.bound;
          entries = elim b.entries [
            | inl f ↦ inl (f ∙ ap (λ block. (with_block old block).commits) here)
            | inr f ↦ inr (f ∙ ap (λ block. (with_block old block).commits) next)
          ];
        }
    by (inr le) =
        let here = take_all b.count xs le ∙ sym (take-append_seam xs ys) in
        let next = take_all (b.count + 1) xs (omega arith) ∙ sym (take-append_seam xs ys) in
        record {
          count = length xs;
          lines = b.lines ∙ ap (λ block. (with_block old block).lines) here;
          bound = b.bound;
          entries = elim b.entries [
            | inl f ↦ inl (f ∙ ap (λ block. (with_block old block).commits) here)
            | inr f ↦ inl (f ∙ ap (λ block. (with_block old block).commits) next)
          ];
        }

pub on_ok : {T E : Type 0} (r : Result T E) (P Q : Type 0) → (P → Q) → OnOk r P → OnOk r Q
on_ok (Ok x) P Q f p = f p
on_ok (Err e) P Q f p = tt

pub when_err : {T E : Type 0} (r : Result T E) (P Q : Type 0) → (P → Q) → OnErr r P → OnErr r Q
when_err (Ok x) P Q f p = tt
when_err (Err e) P Q f p = f p
