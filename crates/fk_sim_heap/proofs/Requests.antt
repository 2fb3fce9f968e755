-- One request of a hart.
use Rattle.std.proofs.Common.{◌≡◌, ℕ, suc, ◌+◌, ◌-◌, ◌*◌, ◌^◌, ◌<◌, ◌≤◌, Bool, true, false, ap, subst, sym, ◌∙◌, arith, refl, ◌⊎◌, inl, inr}
use Rattle.std.specs.Prelude.{min, nat_lt, ◌==◌, ◌||◌, if◌then◌else◌}
use Rattle.fk_num.specs.Word.{word, word_sum}
use Rattle.std.proofs.Math.Nat.{min-eq_left, min-eq_right, min-le_left, min-le_right}
use Rattle.std.proofs.lemmas.Bool.{lt-ltb, le-ltb, eq-eqb, ne_eqb, cases_lt}
use Rattle.fk_meaning_store.specs.Store.{Store, shared_words, address_of}
use Rattle.fk_meaning_store.specs.Serve.{Served, hired}
use Rattle.fk_sim_heap.specs.Count.{added_by, is_past, block_at}
use Rattle.fk_sim_heap.specs.Shows.{and_full, ShowsTop}
use Rattle.fk_sim_heap.specs.Laws.{HeapsBeginUncounted, RequestsAreCounted}
use Rattle.fk_sim_heap.proofs.Hired.{hired_none, hired_some, hired_full}

pub heaps_begin_uncounted : HeapsBeginUncounted
heaps_begin_uncounted first le =
    let e : first ≡ first + 0 = omega arith in
    record { shown = e ∙ sym (min-eq_left {n = first + 0} {m = shared_words} (omega arith)); past = λ some. absurd (omega arith); few = omega arith }

-- ---- sums that don't wrap

-- whether a count is past the end, and the block
abbrev past_at : (first count : ℕ) → Bool
past_at first count = nat_lt shared_words (first + count)

abbrev block_of : (first count added : ℕ) → ℕ
block_of first count added = if (added == 0) || past_at first (count + added) then 0 else address_of (first + count)

plain_past : (first count added : ℕ) → first + count + added < 2 ^ 31 → is_past first (word_sum count added) ≡ past_at first (count + added)
plain_past first count added lt =
    let e : word_sum first (word_sum count added) ≡ first + (count + added) = omega arith in
    ap (nat_lt shared_words) e

block_cases : (none past : Bool) (first count : ℕ) → first + count < 2 ^ 29
    → (if none || past then 0 else word (address_of (word_sum first count))) ≡ (if none || past then 0 else address_of (first + count))
block_cases true past first count lt = refl
block_cases false true first count lt = refl
block_cases false false first count lt = let e : word (address_of (word_sum first count)) ≡ address_of (first + count) = omega arith in e

-- past the end the address is not asked for
block_past : (none : Bool) (first count : ℕ)
    → (if none || true then 0 else word (address_of (word_sum first count))) ≡ (if none || true then 0 else address_of (first + count))
block_past true first count = refl
block_past false first count = refl

plain_block : (first count added : ℕ) → first + count + added < 2 ^ 31 → block_at first count added ≡ block_of first count added
plain_block first count added lt =
    ap (λ b. if (added == 0) || b then 0 else word (address_of (word_sum first count))) (plain_past first count added lt)
    ∙ by (cases_lt shared_words (first + (count + added)))
  where
    by : (shared_words < first + (count + added)) ⊎ (first + (count + added) ≤ shared_words)
        → (if (added == 0) || past_at first (count + added) then 0 else word (address_of (word_sum first count))) ≡ block_of first count added
    by (inl past) =
        let e = lt-ltb shared_words (first + (count + added)) past in
        ap (λ b. if (added == 0) || b then 0 else word (address_of (word_sum first count))) e
        ∙ block_past (added == 0) first count
        ∙ ap (λ b. if (added == 0) || b then 0 else address_of (first + count)) (sym e)
    by (inr fits) = block_cases (added == 0) (past_at first (count + added)) first count (omega arith)

no_wrap : (first top count others added : ℕ) (full : Bool) → others < 1024 → added ≤ shared_words → ShowsTop first top count (and_full full others)
    → first + count + added < 2 ^ 31
no_wrap first top count others added true few le shows = let f : first + count ≤ shared_words + suc others * shared_words = shows.few in omega arith
no_wrap first top count others added false few le shows = let f : first + count ≤ shared_words + others * shared_words = shows.few in omega arith

-- ---- what is added

no_words : (full : Bool) → added_by full 0 ≡ 0
no_words true = refl
no_words false = refl

at_most_all : (full : Bool) (words : ℕ) → added_by full words ≤ shared_words
at_most_all true words = omega arith
at_most_all false words = min-le_right words shared_words

-- ---- the block

abbrev block_by : (first count : ℕ) → Bool → Bool → ℕ
block_by first count none past = if none || past then 0 else address_of (first + count)

no_block : (first count added : ℕ) → added ≡ 0 → block_of first count added ≡ 0
no_block first count added e = ap (λ b. block_by first count b (past_at first (count + added))) (eq-eqb added 0 e)

no_room : (first count added : ℕ) → 0 < added → shared_words < first + (count + added) → block_of first count added ≡ 0
no_room first count added some lt =
    ap (λ b. block_by first count b (past_at first (count + added))) (ne_eqb added 0 (λ e. omega arith))
    ∙ ap (λ b. block_by first count false b) (lt-ltb shared_words (first + (count + added)) lt)

a_block : (first count added : ℕ) → 0 < added → first + (count + added) ≤ shared_words → block_of first count added ≡ address_of (first + count)
a_block first count added some le =
    ap (λ b. block_by first count b (past_at first (count + added))) (ne_eqb added 0 (λ e. omega arith))
    ∙ ap (λ b. block_by first count false b) (le-ltb shared_words (first + (count + added)) le)

-- ---- the top of the heap

abbrev top_at : (first count : ℕ) → ℕ
top_at first count = min (first + count) shared_words

top_below : (first count : ℕ) → first + count ≤ shared_words → top_at first count ≡ first + count
top_below first count le = min-eq_left {n = first + count} {m = shared_words} le

top_past : (first count : ℕ) → shared_words ≤ first + count → top_at first count ≡ shared_words
top_past first count le = min-eq_right {n = shared_words} {m = first + count} le

some_full : (full : Bool) (others : ℕ) → 0 < others → 0 < and_full full others
some_full true others some = omega arith
some_full false others some = some

few_before : (first count added others : ℕ) (full : Bool) → (full ≡ true → added ≡ 0) → added ≤ shared_words
    → first + count ≤ shared_words + and_full full others * shared_words → first + (count + added) ≤ shared_words + suc others * shared_words
few_before first count added others true none le few = let e = none refl in let f : first + count ≤ shared_words + suc others * shared_words = few in omega arith
few_before first count added others false none le few = let f : first + count ≤ shared_words + others * shared_words = few in omega arith

shows_after : (first top count added others : ℕ) (full : Bool) → ShowsTop first top count (and_full full others) → (full ≡ true → added ≡ 0) → added ≤ shared_words
    → (shared_words < first + (count + added)) ⊎ (first + (count + added) ≤ shared_words)
    → ShowsTop first (top_at first (count + added)) (count + added) (and_full (past_at first (count + added)) others)
shows_after first top count added others full shows none le (inl past) =
    subst (λ b. ShowsTop first (top_at first (count + added)) (count + added) (and_full b others))
    (sym (lt-ltb shared_words (first + (count + added)) past))
    (record { shown = refl; past = λ some. past; few = few_before first count added others full none le shows.few })
shows_after first top count added others full shows none le (inr fits) =
    subst (λ b. ShowsTop first (top_at first (count + added)) (count + added) (and_full b others))
    (sym (le-ltb shared_words (first + (count + added)) fits))
    (record { shown = refl; past = λ some. let lt = shows.past (some_full full others some) in omega arith; few = omega arith })

-- ---- the answer

served_as : (s : Store) (top top' a a' : ℕ) → top ≡ top' → a ≡ a' → Served (record s { top = top }) a ≡ Served (record s { top = top' }) a'
served_as s top top' a a' e f = ap (λ x. Served (record s { top = x }) a) e ∙ ap (λ x. Served (record s { top = top' }) x) f

abbrev IsServed : (first count words added : ℕ) → Store → Type 0
IsServed first count words added s = hired words s ≡ Served (record s { top = top_at first (count + added) }) (block_of first count added)

-- no words are asked for
served_none : (first count words added : ℕ) (s : Store) → s.top ≡ top_at first count → words ≡ 0 → added ≡ 0 → IsServed first count words added s
served_none first count words added s top none zero =
    hired_none words s none
    ∙ served_as s s.top (top_at first (count + added)) 0 (block_of first count added)
    (top ∙ ap (top_at first) (let e : count ≡ count + added = omega arith in e)) (sym (no_block first count added zero))

-- the hart has noted that the heap is full
served_full : (first count words added : ℕ) (s : Store) → s.top ≡ top_at first count → 0 < words → added ≡ 0 → shared_words < first + count → IsServed first count words added s
served_full first count words added s top some zero past =
    let end : s.top ≡ shared_words = top ∙ top_past first count (omega arith) in
    hired_full words s some (omega arith)
    ∙ served_as s shared_words (top_at first (count + added)) 0 (block_of first count added)
    (sym (top_past first (count + added) (omega arith))) (sym (no_block first count added zero))

-- it fits
served_block : (first count words : ℕ) (s : Store) → s.top ≡ top_at first count → 0 < words → first + (count + words) ≤ shared_words → IsServed first count words words s
served_block first count words s top some fits =
    let at : s.top ≡ first + count = top ∙ top_below first count (omega arith) in
    hired_some words s some (omega arith)
    ∙ served_as s (s.top + words) (top_at first (count + words)) (address_of s.top) (block_of first count words)
    (let e : s.top + words ≡ first + (count + words) = omega arith in e ∙ sym (top_below first (count + words) fits))
    (ap address_of at ∙ sym (a_block first count words some fits))

left_before : (first count words added : ℕ) (s : Store) → s.top ≡ top_at first count → 0 < words → added ≤ words → shared_words < first + (count + added)
    → (shared_words < first + count) ⊎ (first + count ≤ shared_words) → shared_words - s.top < words
left_before first count words added s top some le past (inl full) = let e : s.top ≡ shared_words = top ∙ top_past first count (omega arith) in omega arith
left_before first count words added s top some le past (inr few) = let e : s.top ≡ first + count = top ∙ top_below first count few in omega arith

-- it doesn't fit
served_past : (first count words added : ℕ) (s : Store) → s.top ≡ top_at first count → 0 < words → 0 < added → added ≤ words → shared_words < first + (count + added)
    → IsServed first count words added s
served_past first count words added s top some one le past =
    hired_full words s some (left_before first count words added s top some le past (cases_lt shared_words (first + count)))
    ∙ served_as s shared_words (top_at first (count + added)) 0 (block_of first count added)
    (sym (top_past first (count + added) (omega arith))) (sym (no_room first count added one past))

-- where the hart has not noted that the heap is full
served_by : (first count words : ℕ) (s : Store) → 0 < first → s.top ≡ top_at first count → 0 < words
    → (shared_words < words) ⊎ (words ≤ shared_words) → (shared_words < first + (count + min words shared_words)) ⊎ (first + (count + min words shared_words) ≤ shared_words)
    → IsServed first count words (min words shared_words) s
served_by first count words s begins top some (inr small) (inr fits) =
    let same = min-eq_left {n = words} {m = shared_words} small in
    subst (λ n. IsServed first count words n s) (sym same) (served_block first count words s top some (omega arith))
served_by first count words s begins top some (inl large) (inr fits) =
    let same = min-eq_right {n = shared_words} {m = words} (omega arith) in absurd (omega arith)
served_by first count words s begins top some (inr small) (inl past) =
    let same = min-eq_left {n = words} {m = shared_words} small in
    served_past first count words (min words shared_words) s top some (omega arith) (min-le_left words shared_words) past
served_by first count words s begins top some (inl large) (inl past) =
    let same = min-eq_right {n = shared_words} {m = words} (omega arith) in
    served_past first count words (min words shared_words) s top some (omega arith) (min-le_left words shared_words) past

served : (first count others words : ℕ) (full : Bool) (s : Store) → 0 < first → ShowsTop first s.top count (and_full full others)
    → (0 < words) ⊎ (words ≤ 0) → IsServed first count words (added_by full words) s
served first count others words full s begins shows (inr none) =
    let e : words ≡ 0 = omega arith in
    served_none first count words (added_by full words) s shows.shown e (ap (added_by full) e ∙ no_words full)
served first count others words true s begins shows (inl some) = served_full first count words 0 s shows.shown some refl (shows.past (omega arith))
served first count others words false s begins shows (inl some) =
    served_by first count words s begins shows.shown some (cases_lt shared_words words) (cases_lt shared_words (first + (count + min words shared_words)))

noted_none : (full : Bool) (words : ℕ) → full ≡ true → added_by full words ≡ 0
noted_none true words e = refl
noted_none false words e = absurd (cc)

abbrev IsAnswered : (first count others words added : ℕ) (full : Bool) → Store → (top : ℕ) → Type 0
IsAnswered first count others words added full s top = (hired words s ≡ Served (record s { top = top }) (block_at first count added))
    × ShowsTop first top (word_sum count added) (and_full (is_past first (word_sum count added)) others)

answered : (first count others words added : ℕ) (full : Bool) (s : Store) (top : ℕ) → first + count + added < 2 ^ 31
    → hired words s ≡ Served (record s { top = top }) (block_of first count added)
    → ShowsTop first top (count + added) (and_full (past_at first (count + added)) others) → IsAnswered first count others words added full s top
answered first count others words added full s top lt e shows =
    let sum : word_sum count added ≡ count + added = omega arith in (
      e ∙ ap (Served (record s { top = top })) (sym (plain_block first count added lt)),
      subst (λ b. ShowsTop first top (word_sum count added) (and_full b others)) (sym (plain_past first count added lt))
          (subst (λ n. ShowsTop first top n (and_full (past_at first (count + added)) others)) (sym sum) shows),
    )

pub requests_are_counted : RequestsAreCounted
requests_are_counted first count others words full s begins few shows =
    let added = added_by full words in
    let le = at_most_all full words in
    let done = answered first count others words added full s (top_at first (count + added)) (no_wrap first s.top count others added full few le shows)
    (served first count others words full s begins shows (cases_lt 0 words))
    (shows_after first s.top count added others full shows (noted_none full words) le (cases_lt shared_words (first + (count + added)))) in
    record { top = top_at first (count + added); served = done.0; shows = done.1 }
