-- The ranges of a round, one after the other.
use Rattle.std.proofs.Common.{◌≡◌, ◌≢◌, ℕ, zero, suc, ◌+◌, ◌<◌, ◌≤◌, Bool, true, false, ◌&&◌, ◌⊎◌, inl, inr, List, [], ◌∷◌, ◌++◌, length, get_or, set, drop, map, Option, Some, None, ap, refl, sym, ◌∙◌, subst, arith}
use Rattle.std.specs.Prelude.{nat_le, slice_index, if◌then◌else◌}
use Rattle.std.proofs.lemmas.List.{length-set, drop_more, drop_all}
use Rattle.fk_trace.specs.declared.column.Column.TheVariants.{Counts}
use Rattle.fk_trace.specs.Text.{Range}
use Rattle.fk_meaning.specs.Round.{Round}
use Rattle.fk_replay_text.specs.Trace as trace
use Rattle.fk_replay_text.specs.View.{range_of}
use Rattle.fk_replay_text.specs.declared.trace.Acts.{Acts}
use Rattle.fk_replay_text.specs.Rounds.{count_in, counts_from}
use Rattle.fk_tree.specs.Tree.{Tree}
use Rattle.fk_replay_phases.specs.Present.{AreNone, present, all_acting, acting_at}
use Rattle.fk_replay_phases.specs.declared.acting.Acting.{Acting}
use Rattle.fk_replay_phases.proofs.Emptied.{index_set, index_set_other}
use Rattle.fk_replay_take.specs.Ranges.{AreRanges, with_range}

none_present : (n : ℕ) (round : Round) → ((g : ℕ) → slice_index round g ≡ 0) → present n round ≡ []
none_present n [] none = refl
none_present n (zero ∷ round) none = none_present (suc n) round (λ g. none (suc g))
none_present n (suc c ∷ round) none = absurd (let e : suc c ≡ 0 = none 0 in let z : ⊥ = omega arith in z)

-- one more behind all others
pub present_set : (n h c : ℕ) (round : Round) → h < length round → ((g : ℕ) → h ≤ g → slice_index round g ≡ 0) → present n (set round h (suc c)) ≡ present n round ++ (n + h) ∷ []
present_set n h c [] lt none = absurd (let z : ⊥ = omega arith in z)
present_set n zero c (zero ∷ round) lt none =
    let rest : present (suc n) round ≡ [] = none_present (suc n) round (λ g. none (suc g) (omega arith)) in
    ap (λ ns. n ∷ ns) rest ∙ ap (λ (m : ℕ). m ∷ []) (let e : n ≡ n + 0 = omega arith in e) ∙ sym (ap (λ ns. ns ++ (n + 0) ∷ []) rest)
present_set n zero c (suc x ∷ round) lt none = absurd (let e : suc x ≡ 0 = none 0 (omega arith) in let z : ⊥ = omega arith in z)
present_set n (suc h) c (zero ∷ round) lt none =
    present_set (suc n) h c round (omega arith) (λ g le. none (suc g) (omega arith))
    ∙ ap (λ (m : ℕ). present (suc n) round ++ m ∷ []) (let e : suc n + h ≡ n + suc h = omega arith in e)
present_set n (suc h) c (suc x ∷ round) lt none =
    ap (λ ns. n ∷ ns) (present_set (suc n) h c round (omega arith) (λ g le. none (suc g) (omega arith)))
    ∙ ap (λ (m : ℕ). n ∷ (present (suc n) round ++ m ∷ [])) (let e : suc n + h ≡ n + suc h = omega arith in e)

-- ---- one range

-- the counts in which those of a part of a range, up to a number, are the range's
abbrev pub upto : Range → (number : ℕ) → Range
upto r number = record r { last = number }

is_in : (r : Range) (h : ℕ) → Bool
is_in r h = nat_le r.first h && nat_le h r.last

index_with : (r : Range) (first : ℕ) (counts : List ℕ) (k : ℕ) → k < length counts
    → slice_index (with_range r first counts) k ≡ (if nat_le r.first (first + k) && nat_le (first + k) r.last then r.number else slice_index counts k)
index_with r first [] k lt = absurd (let z : ⊥ = omega arith in z)
index_with r first (c ∷ counts) zero lt = ap (λ (h : ℕ). if nat_le r.first h && nat_le h r.last then r.number else c) (let e : first ≡ first + 0 = omega arith in e)
index_with r first (c ∷ counts) (suc k) lt =
    index_with r (suc first) counts k (omega arith)
    ∙ ap (λ (h : ℕ). if nat_le r.first h && nat_le h r.last then r.number else slice_index counts k) (let e : suc first + k ≡ first + suc k = omega arith in e)

pub length_with : (r : Range) (first : ℕ) (counts : List ℕ) → length (with_range r first counts) ≡ length counts
length_with r first [] = refl
length_with r first (c ∷ counts) = ap suc (length_with r (suc first) counts)

pub index_of : (r : Range) (counts : List ℕ) (k : ℕ) → k < length counts
    → slice_index (with_range r 0 counts) k ≡ (if nat_le r.first k && nat_le k r.last then r.number else slice_index counts k)
index_of r counts k lt = index_with r 0 counts k lt ∙ ap (λ (h : ℕ). if nat_le r.first h && nat_le h r.last then r.number else slice_index counts k) (let e : 0 + k ≡ k = omega arith in e)

-- ---- all ranges

-- the ranges behind one have nothing up to its last number
pub none_below : (harts : ℕ) (r : Range) (rs : List Range) (h : ℕ) → trace.Rise Counts harts (Some r) rs → h ≤ r.last → count_in rs h ≡ 0
none_below harts r [] h rise le = refl
none_below harts r (s ∷ rs) h rise le =
    let above = rise.1.above in
    let ordered = rise.0.ordered in
    let not_in : (nat_le s.first h && nat_le h s.last) ≡ false = ap (λ (b : Bool). b && nat_le h s.last) (let e : nat_le s.first h ≡ false = grind arith in e) in
    ap (λ (b : Bool). if b then s.number else count_in rs h) not_in ∙ none_below harts s rs h rise.2 (omega arith)

-- the counts of the ranges before a bound, and none behind it
pub record CountsTo (harts : ℕ) (ranges : List Range) (i bound : ℕ) (counts : List ℕ) : Type 0 where
  pub many : length counts ≡ harts
  pub before : (h : ℕ) → h < bound → slice_index counts h ≡ count_in ranges h
  pub behind : (h : ℕ) → bound ≤ h → slice_index counts h ≡ 0
  pub rest : (h : ℕ) → bound ≤ h → count_in ranges h ≡ count_in (drop i ranges) h

-- those that are left rise from a bound on
pub record RiseFrom (harts bound : ℕ) (rest : List Range) : Type 0 where
  pub before : Option Range
  pub rise : trace.Rise Counts harts before rest
  pub low : (r : Range) → before ≡ Some r → bound ≡ suc r.last
  pub none : before ≡ None → bound ≡ 0

-- ---- one range, a number at a time

-- equal numbers at each place
pub same_numbers : (xs ys : List ℕ) → length xs ≡ length ys → ((h : ℕ) → h < length xs → slice_index xs h ≡ slice_index ys h) → xs ≡ ys
same_numbers [] [] e same = refl
same_numbers [] (y ∷ ys) e same = absurd (let z : ⊥ = omega arith in z)
same_numbers (x ∷ xs) [] e same = absurd (let z : ⊥ = omega arith in z)
same_numbers (x ∷ xs) (y ∷ ys) e same =
    let head : x ≡ y = same 0 (omega arith) in
    let tail = same_numbers xs ys (omega arith) (λ h lt. same (suc h) (omega arith)) in
    ap (λ (z : ℕ). z ∷ xs) head ∙ ap (λ zs. y ∷ zs) tail

pub record RangeAt (r : Range) (old : List ℕ) (number : ℕ) (counts : List ℕ) : Type 0 where
  pub many : length counts ≡ length old
  pub before : (h : ℕ) → h < number → slice_index counts h ≡ (if nat_le r.first h && nat_le h r.last then r.number else slice_index old h)
  pub behind : (h : ℕ) → number ≤ h → slice_index counts h ≡ 0

not_yet : (r : Range) (h : ℕ) → h < r.first → (nat_le r.first h && nat_le h r.last) ≡ false
not_yet r h lt = ap (λ (b : Bool). b && nat_le h r.last) (let e : nat_le r.first h ≡ false = grind arith in e)

past : (r : Range) (h : ℕ) → r.last < h → (nat_le r.first h && nat_le h r.last) ≡ false
past r h lt = ap (λ (b : Bool). nat_le r.first h && b) (let e : nat_le h r.last ≡ false = grind arith in e) ∙ and_false (nat_le r.first h)
  where
    and_false : (b : Bool) → b && false ≡ false
    and_false true = refl
    and_false false = refl

inside : (r : Range) (h : ℕ) → r.first ≤ h → h ≤ r.last → (nat_le r.first h && nat_le h r.last) ≡ true
inside r h low high = ap (λ (b : Bool). b && nat_le h r.last) (let e : nat_le r.first h ≡ true = grind arith in e) ∙ (let e : nat_le h r.last ≡ true = grind arith in e)

pub range_first : (r : Range) (old : List ℕ) → ((h : ℕ) → r.first ≤ h → slice_index old h ≡ 0) → RangeAt r old r.first old
range_first r old none = record {
  many = refl;
  before = λ h lt. sym (ap (λ (b : Bool). if b then r.number else slice_index old h) (not_yet r h lt));
  behind = none;
}

pub range_more : (r : Range) (old : List ℕ) (number : ℕ) (counts : List ℕ) → RangeAt r old number counts → r.first ≤ number → number ≤ r.last → number < length old
    → RangeAt r old (number + 1) (set counts number r.number)
range_more r old number counts at low high lt =
    let many = at.many in
    record {
      many = length-set counts number r.number ∙ at.many;
      before = λ h below. by_eq h below (or_eq h number below);
      behind = λ h le. index_set_other counts number h r.number (λ e. omega arith) ∙ at.behind h (omega arith);
    }
  where
    or_eq : (h n : ℕ) → h < n + 1 → (h < n) ⊎ (h ≡ n)
    or_eq h n lt = grind arith

    by_eq : (h : ℕ) → h < number + 1 → (h < number) ⊎ (h ≡ number) → slice_index (set counts number r.number) h ≡ (if nat_le r.first h && nat_le h r.last then r.number else slice_index old h)
    by_eq h below (inl less) = index_set_other counts number h r.number (λ e. omega arith) ∙ at.before h less
    by_eq h below (inr e) =
        let m = at.many in
        ap (slice_index (set counts number r.number)) e ∙ index_set counts number r.number (omega arith)
        ∙ sym (ap (λ (b : Bool). if b then r.number else slice_index old h) (inside r h (omega arith) (omega arith)))

pub range_present : (r : Range) (old : List ℕ) (number : ℕ) (counts : List ℕ) → RangeAt r old number counts → number < length old → 0 < r.number → present 0 (set counts number r.number) ≡ present 0 counts ++ number ∷ []
range_present r old number counts at lt some = by_count r.number refl
  where
    by_count : (c : ℕ) → r.number ≡ c → present 0 (set counts number r.number) ≡ present 0 counts ++ number ∷ []
    by_count zero e = absurd (let z : ⊥ = omega arith in z)
    by_count (suc c) e =
        let m = at.many in
        ap (λ (k : ℕ). present 0 (set counts number k)) e ∙ present_set 0 number c counts (omega arith) at.behind
        ∙ ap (λ (k : ℕ). present 0 counts ++ k ∷ []) (let z : 0 + number ≡ number = omega arith in z)

pub range_end : (r : Range) (old : List ℕ) (number : ℕ) (counts : List ℕ) → RangeAt r old number counts → r.first ≤ number → r.last < number → ((h : ℕ) → r.first ≤ h → slice_index old h ≡ 0) → counts ≡ with_range r 0 old
range_end r old number counts at low over none =
    same_numbers counts (with_range r 0 old) (at.many ∙ sym (length_with r 0 old)) (λ h lt. by_le h lt (lt_or h number))
  where
    lt_or : (h n : ℕ) → (h < n) ⊎ (n ≤ h)
    lt_or h n = grind arith

    by_le : (h : ℕ) → h < length counts → (h < number) ⊎ (number ≤ h) → slice_index counts h ≡ slice_index (with_range r 0 old) h
    by_le h lt (inl less) = at.before h less ∙ sym (index_of r old h (let m = at.many in omega arith))
    by_le h lt (inr le) =
        at.behind h le
        ∙ sym (index_of r old h (let m = at.many in omega arith) ∙ ap (λ (b : Bool). if b then r.number else slice_index old h) (past r h (omega arith)) ∙ zero_at h le)
      where
        zero_at : (h : ℕ) → number ≤ h → slice_index old h ≡ 0
        zero_at h le = by_first (lt_or h r.first)
          where
            by_first : (h < r.first) ⊎ (r.first ≤ h) → slice_index old h ≡ 0
            by_first (inr is) = none h is
            by_first (inl is) = absurd (let z : ⊥ = omega arith in z)

-- ---- all ranges

pub record EnlistsAt (harts : ℕ) (ranges : List Range) (i : ℕ) (counts : List ℕ) : Type 0 where
  pub bound : ℕ
  pub counts_to : CountsTo harts ranges i bound counts
  pub rise : RiseFrom harts bound (drop i ranges)

pub enlists_first : (harts : ℕ) (ranges : List Range) (counts : List ℕ) → AreNone harts counts → trace.Rise Counts harts None ranges → EnlistsAt harts ranges 0 counts
enlists_first harts ranges counts none rise = record {
  bound = 0;
  counts_to = record { many = none.many; before = λ h lt. absurd (let z : ⊥ = omega arith in z); behind = λ h le. none.none h; rest = λ h le. refl };
  rise = record { before = None; rise = rise; low = λ r e. absurd (let bad : None ≡ Some r = e in cc); none = λ e. refl };
}

-- what is known of the next range
pub record IsNextRange (harts : ℕ) (counts : List ℕ) (r : Range) : Type 0 where
  pub ordered : r.first ≤ r.last
  pub below : r.last < harts
  pub some : 0 < r.number
  pub few : r.number ≤ 255
  pub behind : (h : ℕ) → r.first ≤ h → slice_index counts h ≡ 0

record Next (harts bound : ℕ) (r : Range) (rs : List Range) : Type 0 where
  is : trace.IsRange Counts harts r
  low : bound ≤ r.first
  rise : trace.Rise Counts harts (Some r) rs

next_range : (harts bound : ℕ) (r : Range) (rs : List Range) → RiseFrom harts bound (r ∷ rs) → Next harts bound r rs
next_range harts bound r rs from = by_before from.before refl from.rise
  where
    by_before : (before : Option Range) → from.before ≡ before → trace.Rise Counts harts before (r ∷ rs) → Next harts bound r rs
    by_before None e rise = record { is = rise.0; low = let z = from.none e in omega arith; rise = rise.2 }
    by_before (Some q) e rise = record { is = rise.0; low = let z = from.low q e in let above = rise.1.above in omega arith; rise = rise.2 }

-- its start is not below the bound
pub next_is : (harts : ℕ) (ranges : List Range) (i : ℕ) (counts : List ℕ) (r : Range) → EnlistsAt harts ranges i counts → i < length ranges → r ≡ get_or ranges i r → IsNextRange harts counts r
next_is harts ranges i counts r at lt is =
    let split : drop i ranges ≡ r ∷ drop (i + 1) ranges = drop_more ranges i r lt ∙ ap (λ x. x ∷ drop (i + 1) ranges) (sym is) in
    let n = next_range harts at.bound r (drop (i + 1) ranges) (subst (RiseFrom harts at.bound) split at.rise) in
    record {
      ordered = n.is.ordered;
      below = n.is.below;
      some = n.is.number.0;
      few = n.is.number.1;
      behind = λ h le. at.counts_to.behind h (let low = n.low in omega arith);
    }

pub enlists_more : (harts : ℕ) (ranges : List Range) (i : ℕ) (counts : List ℕ) (r : Range) → EnlistsAt harts ranges i counts → i < length ranges → r ≡ get_or ranges i r → EnlistsAt harts ranges (i + 1) (with_range r 0 counts)
enlists_more harts ranges i counts r at lt is =
    let split : drop i ranges ≡ r ∷ drop (i + 1) ranges = drop_more ranges i r lt ∙ ap (λ x. x ∷ drop (i + 1) ranges) (sym is) in
    let n = next_range harts at.bound r (drop (i + 1) ranges) (subst (RiseFrom harts at.bound) split at.rise) in
    let to = at.counts_to in
    let low = n.low in
    let ordered = n.is.ordered in
    let below = n.is.below in
    let many = to.many in
    record {
      bound = suc r.last;
      counts_to = record {
        many = length_with r 0 counts ∙ to.many;
        before = λ h less. index_of r counts h (omega arith) ∙ by_place n h less split (lt_or h r.first) (lt_or h at.bound);
        behind = λ h le. by_length n h le (lt_or h (length counts));
        rest = λ h le. to.rest h (omega arith) ∙ ap (λ rs. count_in rs h) split ∙ ap (λ (b : Bool). if b then r.number else count_in (drop (i + 1) ranges) h) (past r h (omega arith));
      };
      rise = record { before = Some r; rise = n.rise; low = λ q e. let same : r ≡ q = cc in ap (λ (x : Range). suc x.last) same; none = λ e. absurd (let bad : Some r ≡ None = e in cc) };
    }
  where
    lt_or : (h n : ℕ) → (h < n) ⊎ (n ≤ h)
    lt_or h n = grind arith

    by_place : Next harts at.bound r (drop (i + 1) ranges) → (h : ℕ) → h < suc r.last → drop i ranges ≡ r ∷ drop (i + 1) ranges → (h < r.first) ⊎ (r.first ≤ h) → (h < at.bound) ⊎ (at.bound ≤ h)
        → (if nat_le r.first h && nat_le h r.last then r.number else slice_index counts h) ≡ count_in ranges h
    by_place n h less split (inl low) (inl bound) = ap (λ (b : Bool). if b then r.number else slice_index counts h) (not_yet r h low) ∙ at.counts_to.before h bound
    by_place n h less split (inl low) (inr bound) =
        ap (λ (b : Bool). if b then r.number else slice_index counts h) (not_yet r h low) ∙ at.counts_to.behind h bound
        ∙ sym (at.counts_to.rest h bound ∙ ap (λ rs. count_in rs h) split ∙ ap (λ (b : Bool). if b then r.number else count_in (drop (i + 1) ranges) h) (not_yet r h low)
        ∙ none_below harts r (drop (i + 1) ranges) h n.rise (omega arith))
    by_place n h less split (inr high) bound =
        let b_le : at.bound ≤ h = let low = n.low in omega arith in
        ap (λ (b : Bool). if b then r.number else slice_index counts h) (inside r h high (omega arith))
        ∙ sym (at.counts_to.rest h b_le ∙ ap (λ rs. count_in rs h) split ∙ ap (λ (b : Bool). if b then r.number else count_in (drop (i + 1) ranges) h) (inside r h high (omega arith)))

    by_length : Next harts at.bound r (drop (i + 1) ranges) → (h : ℕ) → suc r.last ≤ h → (h < length counts) ⊎ (length counts ≤ h) → slice_index (with_range r 0 counts) h ≡ 0
    by_length n h le (inl within) =
        index_of r counts h within ∙ ap (λ (b : Bool). if b then r.number else slice_index counts h) (past r h (omega arith)) ∙ at.counts_to.behind h (let low = n.low in let ordered = n.is.ordered in omega arith)
    by_length n h le (inr over) = out_of (with_range r 0 counts) h (let e = length_with r 0 counts in omega arith)
      where
        out_of : (xs : List ℕ) (h : ℕ) → length xs ≤ h → slice_index xs h ≡ 0
        out_of [] zero le = refl
        out_of [] (suc h) le = refl
        out_of (x ∷ xs) zero le = absurd (let z : ⊥ = omega arith in z)
        out_of (x ∷ xs) (suc h) le = out_of xs h (omega arith)

length_from : (rs : List Range) (first n : ℕ) → length (counts_from rs first n) ≡ n
length_from rs first zero = refl
length_from rs first (suc n) = ap suc (length_from rs (suc first) n)

index_from : (rs : List Range) (first n h : ℕ) → h < n → slice_index (counts_from rs first n) h ≡ count_in rs (first + h)
index_from rs first zero h lt = absurd (let z : ⊥ = omega arith in z)
index_from rs first (suc n) zero lt = ap (count_in rs) (let e : first ≡ first + 0 = omega arith in e)
index_from rs first (suc n) (suc h) lt = index_from rs (suc first) n h (omega arith) ∙ ap (count_in rs) (let e : suc first + h ≡ first + suc h = omega arith in e)

pub enlists_end : (harts : ℕ) (ranges : List Range) (i : ℕ) (counts : List ℕ) → EnlistsAt harts ranges i counts → length ranges ≤ i → counts ≡ counts_from ranges 0 harts
enlists_end harts ranges i counts at le =
    let many = at.counts_to.many in
    same_numbers counts (counts_from ranges 0 harts) (at.counts_to.many ∙ sym (length_from ranges 0 harts))
    (λ h lt. value h (lt_or h at.bound) ∙ ap (count_in ranges) (let e : h ≡ 0 + h = omega arith in e) ∙ sym (index_from ranges 0 harts h (omega arith)))
  where
    lt_or : (h n : ℕ) → (h < n) ⊎ (n ≤ h)
    lt_or h n = grind arith

    value : (h : ℕ) → (h < at.bound) ⊎ (at.bound ≤ h) → slice_index counts h ≡ count_in ranges h
    value h (inl less) = at.counts_to.before h less
    value h (inr over) = at.counts_to.behind h over ∙ sym (at.counts_to.rest h over ∙ ap (λ rs. count_in rs h) (drop_all i ranges le))

-- ---- those who are enlisted

pub acting_more : (tree : Tree) (acting more : List Acting) (x : Acting) (counts new : List ℕ) (number : ℕ) → acting ≡ all_acting tree (present 0 counts) → more ≡ acting ++ x ∷ [] → x ≡ acting_at tree number
    → present 0 new ≡ present 0 counts ++ number ∷ [] → more ≡ all_acting tree (present 0 new)
acting_more tree acting more x counts new number is made x_is numbers =
    made ∙ ap (λ xs. xs ++ x ∷ []) is ∙ ap (λ y. all_acting tree (present 0 counts) ++ y ∷ []) x_is
    ∙ sym (ap (all_acting tree) numbers ∙ all_append (present 0 counts))
  where
    all_append : (ns : List ℕ) → all_acting tree (ns ++ number ∷ []) ≡ all_acting tree ns ++ acting_at tree number ∷ []
    all_append [] = refl
    all_append (n ∷ ns) = ap (λ xs. acting_at tree n ∷ xs) (all_append ns)

pub none_acting : (tree : Tree) (counts : List ℕ) (n : ℕ) → AreNone n counts → [] ≡ all_acting tree (present 0 counts)
none_acting tree counts n none = sym (ap (all_acting tree) (none_present 0 counts none.none))

pub ranges_rise : (harts : ℕ) (ranges : List Range) → AreRanges harts ranges → trace.Rise Counts harts None ranges
ranges_rise harts ranges are = are.1

-- the range of an element, whatever stands for one that isn't there
pub range_at : (acts : List Acts) (i : ℕ) (d : Acts) → i < length acts → range_of (get_or acts i d) ≡ get_or (map range_of acts) i (range_of (get_or acts i d))
range_at [] i d lt = absurd (let z : ⊥ = omega arith in z)
range_at (x ∷ acts) zero d lt = refl
range_at (x ∷ acts) (suc i) d lt = range_at acts i d (omega arith)

pub many_ranges : (acts : List Acts) → length (map range_of acts) ≡ length acts
many_ranges [] = refl
many_ranges (x ∷ acts) = ap suc (many_ranges acts)
