-- Blocks that are added one after another.
use Rattle.std.proofs.Common.{◌≡◌, ◌≢◌, ℕ, ◌+◌, ◌^◌, ◌<◌, ◌≤◌, List, [], ◌∷◌, ◌++◌, length, take, get_or, Option, Some, None, inl, inr, sym, ap, subst, refl, ◌∙◌, arith, length-append}
use Rattle.std.specs.Prelude.{flat_map, slice_get, slice_index_or, slice_set}
use Rattle.std.proofs.lemmas.Bool.{cases_lt}
use Rattle.std.proofs.lemmas.List.{take_more, take_all, append-nil, length-map, length-set, get_or-set_same, get_or-set_other}
use Rattle.std.proofs.lemmas.List.Concat.{flat_map-append}
use Rattle.std.proofs.lemmas.List.Folds.{length-flat_map-take}
use Rattle.std.proofs.lemmas.Option.{slice_get-get_or}
use Rattle.fk_gen.specs.declared.placed.Placed.{Placed}
use Rattle.fk_asm.specs.Assembly.{Assembly, AreFollowed}
use Rattle.fk_asm.specs.Block.{MarkedLine, lines_of, with_block}
use Rattle.fk_asm.proofs.Straight.{with_block-nil, with_block-append, AreFollowed-with_block}
use Rattle.fk_gen.specs.Lines.{label_of}
use Rattle.fk_gen_list.specs.Layout.{place, AddsBlocks}

pub length-with_block : (a : Assembly) (block : List MarkedLine) → length (with_block a block).lines ≡ length a.lines + length block
length-with_block a block =
    length-append a.lines (lines_of block) ∙ ap (λ n. length a.lines + n) (length-map block (λ m. m.line))

module _ (block : Placed → List MarkedLine) (ops : List Placed) where
  -- the blocks below an index are added, and the labels from there on are free
  pub record IsSoFar (i : ℕ) (old now : Assembly) : Type 0 where
    pub made : now ≡ record (with_block old (flat_map block (take i ops))) { bound = now.bound }
    pub count : length now.bound ≡ length old.bound
    pub labels : (j : ℕ) → j < i → slice_index_or now.bound (label_of j) None ≡ Some (place block (length old.lines) ops j)
    pub others : (label : ℕ) → label < label_of 0 → slice_index_or now.bound label None ≡ slice_index_or old.bound label None
    pub free : (j : ℕ) → i ≤ j → j < length ops → slice_index_or now.bound (label_of j) None ≡ None
    pub followed : AreFollowed now

  pub at_start : (old : Assembly) → AreFollowed old
      → ((j : ℕ) → j < length ops → slice_index_or old.bound (label_of j) None ≡ None) → IsSoFar 0 old old
  at_start old followed free = record {
    made = sym (with_block-nil old);
    count = refl;
    labels = λ j lt. absurd (omega arith);
    others = λ label lt. refl;
    free = λ j ge lt. free j lt;
    followed = followed;
  }

  -- the next block begins here
  pub here : (i : ℕ) (old now : Assembly) → IsSoFar i old now → length now.lines ≡ place block (length old.lines) ops i
  here i old now s = ap (λ a. length a.lines) s.made ∙ length-with_block old (flat_map block (take i ops))

  -- its label can be bound
  pub unbound : (i : ℕ) (old now : Assembly) → IsSoFar i old now → label_of (length ops) ≤ length old.bound → i < length ops
      → slice_get now.bound (label_of i) ≡ Some None
  unbound i old now s enough lt =
      let in' : label_of i < length now.bound = let c = s.count in omega arith in
      let free = s.free i (omega arith) lt in
      slice_get-get_or now.bound (label_of i) None in' ∙ ap Some free

  -- and there is room for it
  pub has_room : (i : ℕ) (x : Placed) (old now : Assembly) → IsSoFar i old now → i < length ops
      → length old.lines + length (flat_map block ops) < 2 ^ 30 → length now.lines + length (block (get_or ops i x)) < 2 ^ 30
  has_room i x old now s lt room =
      let at = here i old now s in
      let le = length-flat_map-take block ops i x lt in
      omega arith

  abbrev binding : (i : ℕ) → Assembly → List (Option ℕ)
  binding i now = slice_set now.bound (label_of i) (Some (length now.lines))

  one_block : (i : ℕ) (x : Placed) → i < length ops
      → flat_map block (take (i + 1) ops) ≡ flat_map block (take i ops) ++ block (get_or ops i x)
  one_block i x lt =
      ap (flat_map block) (take_more ops i x lt)
      ∙ flat_map-append block (take i ops) (get_or ops i x ∷ [])
      ∙ ap (λ l. flat_map block (take i ops) ++ l) (append-nil (block (get_or ops i x)))

  made_more : (i : ℕ) (x : Placed) (old now new : Assembly) → i < length ops
      → new ≡ with_block (record now { bound = binding i now }) (block (get_or ops i x))
      → IsSoFar i old now
      → new ≡ record (with_block old (flat_map block (take (i + 1) ops))) { bound = binding i now }
  made_more i x old now new lt added s =
      let b = block (get_or ops i x) in
      let bound = binding i now in
      added
      ∙ ap (λ (a : Assembly). with_block (record a { bound = bound }) b) s.made
      ∙ ap (λ (a : Assembly). record a { bound = bound }) (with_block-append old (flat_map block (take i ops)) b)
      ∙ ap (λ (l : List MarkedLine). record (with_block old l) { bound = bound }) (sym (one_block i x lt))

  bound_other : (i label : ℕ) (now : Assembly) → label ≢ label_of i
      → slice_index_or (binding i now) label None ≡ slice_index_or now.bound label None
  bound_other i label now ne = get_or-set_other now.bound (label_of i) label (Some (length now.lines)) None ne

  pub one_more : (i : ℕ) (x : Placed) (old now mid new : Assembly) → i < length ops → label_of (length ops) ≤ length old.bound
      → mid ≡ record now { bound = binding i now }
      → new ≡ with_block mid (block (get_or ops i x))
      → IsSoFar i old now → IsSoFar (i + 1) old new
  one_more i x old now mid new lt enough begun added s =
      let b = block (get_or ops i x) in
      let all : new ≡ with_block (record now { bound = binding i now }) b = added ∙ ap (λ a. with_block a b) begun in
      let made = made_more i x old now new lt all s in
      let bound : new.bound ≡ binding i now = ap (λ a. a.bound) made in
      let in' : label_of i < length now.bound = let c = s.count in omega arith in
      record {
        made = made ∙ ap (λ (l : List (Option ℕ)). record (with_block old (flat_map block (take (i + 1) ops))) { bound = l }) (sym bound);
        count = ap length bound ∙ length-set now.bound (label_of i) (Some (length now.lines)) ∙ s.count;
        labels = λ j below. ap (λ l. slice_index_or l (label_of j) None) bound ∙ elim (cases_lt j i) [
          | inl less ↦ bound_other i (label_of j) now (λ e. absurd (omega arith)) ∙ s.labels j less
          | inr more ↦
              let same : j ≡ i = omega arith in
              ap (λ k. slice_index_or (binding i now) (label_of k) None) same
              ∙ get_or-set_same now.bound (label_of i) (Some (length now.lines)) None in'
              ∙ ap Some (here i old now s) ∙ ap (λ k. Some (place block (length old.lines) ops k)) (sym same)
        ];
        others = λ label low. ap (λ l. slice_index_or l label None) bound
            ∙ bound_other i label now (λ e. absurd (omega arith)) ∙ s.others label low;
        free = λ j ge less. ap (λ l. slice_index_or l (label_of j) None) bound
            ∙ bound_other i (label_of j) now (λ e. absurd (omega arith)) ∙ s.free j (omega arith) less;
        followed = subst AreFollowed (sym all) (AreFollowed-with_block (record now { bound = binding i now }) b s.followed);
      }

  pub at_end : (i : ℕ) (old now : Assembly) → length ops ≤ i → IsSoFar i old now → AddsBlocks block ops old now
  at_end i old now le s = record {
    made = s.made ∙ ap (λ (l : List Placed). record (with_block old (flat_map block l)) { bound = now.bound }) (take_all i ops le);
    count = s.count;
    labels = λ j lt. s.labels j (omega arith);
    others = s.others;
  }
