-- Touches are marked, one after another.
use Rattle.std.proofs.Common.{◌≡◌, ◌≢◌, ℕ, ◌+◌, ◌^◌, ◌<◌, ◌≤◌, List, length, take, get_or, cond, true, false, ◌&&◌, Option, None, ◌⊎◌, inl, inr, refl, sym, ap, subst, ◌∙◌, arith}
use Rattle.std.proofs.Common.{eq-eqb, ne_eqb}
use Rattle.std.specs.Prelude.{◌==◌, All, slice_index, slice_set}
use Rattle.std.proofs.lemmas.Bool.{cases_eq, cases_lt}
use Rattle.std.proofs.lemmas.Grind.{get_or-set_at}
use Rattle.std.proofs.lemmas.List.{get_or-set_other}
use Rattle.std.proofs.lemmas.List.Sums.{sum_by_more}
use Rattle.fk_machine.specs.declared.stand.Stand.{Stand}
use Rattle.fk_audit.specs.declared.access.AccessKind.{AccessKind}
use Rattle.fk_audit.specs.declared.touch.Touch.{Touch}
use Rattle.fk_audit.specs.Mark.{IsMark, IsLeast, lesser, least_of, is_counted, counted}
use Rattle.fk_audit.proofs.LeastWords.{least_same, least_either, least_more}

-- ---- counts of one touch more

-- a count is one more at word x, and else the same
abbrev pub OneMore : ℕ → (ℕ → ℕ) → (ℕ → ℕ) → Type 0
OneMore x F G = (w : ℕ) → G w ≡ F w + cond (x == w) 1 0

pub more_at : (x : ℕ) (F G : ℕ → ℕ) → OneMore x F G → G x ≡ F x + 1
more_at x F G more = more x ∙ ap (λ b. F x + cond b 1 0) (eq-eqb x x refl)

pub more_other : (x : ℕ) (F G : ℕ → ℕ) → OneMore x F G → (w : ℕ) → (x ≡ w → ⊥) → G w ≡ F w
more_other x F G more w other =
    let e : G w ≡ F w + 0 = more w ∙ ap (λ b. F w + cond b 1 0) (ne_eqb x w other) in
    omega (arith, e)

pub more_least : (x : ℕ) (F G : ℕ → ℕ) → OneMore x F G → (w : ℕ) → F w ≤ G w
more_least x F G more w = let e = more w in omega (arith, e)

-- a touch that counts
counted_more : (stand : Stand) (kind : AccessKind) (ts : List Touch) (i : ℕ) (d : Touch) → i < length ts → is_counted stand kind (get_or ts i d) ≡ true
    → OneMore (get_or ts i d).word (counted stand kind (take i ts)) (counted stand kind (take (i + 1) ts))
counted_more stand kind ts i d within counts w =
    sum_by_more (λ x. cond (is_counted stand kind x && (x.word == w)) 1 0) ts i d within
    ∙ ap (λ b. counted stand kind (take i ts) w + cond (b && ((get_or ts i d).word == w)) 1 0) counts

-- one that doesn't
counted_same : (stand : Stand) (kind : AccessKind) (ts : List Touch) (i : ℕ) (d : Touch) → i < length ts → is_counted stand kind (get_or ts i d) ≡ false
    → (w : ℕ) → counted stand kind (take (i + 1) ts) w ≡ counted stand kind (take i ts) w
counted_same stand kind ts i d within passes w =
    let e : counted stand kind (take (i + 1) ts) w ≡ counted stand kind (take i ts) w + 0 =
    sum_by_more (λ x. cond (is_counted stand kind x && (x.word == w)) 1 0) ts i d within
    ∙ ap (λ b. counted stand kind (take i ts) w + cond (b && ((get_or ts i d).word == w)) 1 0) passes in
    omega (arith, e)

-- ---- marks and the least word that is touched twice

-- what is known after touches that count F: of the marks, and of the least word
pub record AreMarked (cycle : ℕ) (other : List ℕ) (F : ℕ → ℕ) (marks : List ℕ) (least : Option ℕ) : Type 0 where
  pub marks_are : (w : ℕ) → slice_index other w ≢ cycle → IsMark cycle (F w) (slice_index marks w)
  pub most : (w : ℕ) → slice_index marks w ≤ cycle
  pub least_is : IsLeast (λ w. (slice_index other w ≢ cycle) × (2 ≤ F w)) least

pub none_marked : (cycle : ℕ) (other marks : List ℕ) (F : ℕ → ℕ) → ((w : ℕ) → F w ≡ 0) → ((w : ℕ) → slice_index marks w < cycle) → AreMarked cycle other F marks None
none_marked cycle other marks F zero earlier =
    record {
      marks_are = λ w ne.
          let none = zero w in
          let before = earlier w in
          record { touched = λ some. absurd (omega (arith, none, some)); untouched = λ e. before };
      most = λ w. let before = earlier w in omega (arith, before);
      least_is = λ w has. let none = zero w in let two = has.1 in absurd (omega (arith, none, two));
    }

-- a touch that doesn't count, or is of a word that has the other mark
pub pass_marked : (cycle : ℕ) (other : List ℕ) (F G : ℕ → ℕ) (marks : List ℕ) (least : Option ℕ) → ((w : ℕ) → slice_index other w ≢ cycle → G w ≡ F w)
    → AreMarked cycle other F marks least → AreMarked cycle other G marks least
pass_marked cycle other F G marks least same m =
    record {
      marks_are = λ w ne. subst (λ n. IsMark cycle n (slice_index marks w)) (sym (same w ne)) (m.marks_are w ne);
      most = m.most;
      least_is = least_same (λ w. (slice_index other w ≢ cycle) × (2 ≤ F w)) (λ w. (slice_index other w ≢ cycle) × (2 ≤ G w)) least
          (λ w has. let e = same w has.0 in let two = has.1 in (has.0, omega (arith, e, two)))
          (λ w has. let e = same w has.0 in let two = has.1 in (has.0, omega (arith, e, two))) m.least_is;
    }

-- a touch of a word that the other mark is at changes no count that matters
pub same_at_other : (cycle x : ℕ) (other : List ℕ) (F G : ℕ → ℕ) → OneMore x F G → slice_index other x ≡ cycle → (w : ℕ) → slice_index other w ≢ cycle → G w ≡ F w
same_at_other cycle x other F G more e w ne = more_other x F G more w (λ (same : x ≡ w). absurd (ne (ap (slice_index other) (sym same) ∙ e)))

mark_one : (cycle x : ℕ) (marks : List ℕ) (F G : ℕ → ℕ) → x < length marks → OneMore x F G → (w : ℕ) → IsMark cycle (F w) (slice_index marks w) → IsMark cycle (G w) (slice_index (slice_set marks x cycle) w)
mark_one cycle x marks F G inside more w m =
    elim (cases_eq x w) [
      | inl same ↦
          let here = get_or-set_at marks x w cycle 0 (sym same) inside in
          let e : G w ≡ F w + 1 = more w ∙ ap (λ b. F w + cond b 1 0) (eq-eqb x w same) in
          record { touched = λ some. here; untouched = λ none. absurd (omega (arith, e, none)) }
      | inr other ↦
          let there = get_or-set_other marks x w cycle 0 (λ e. other (sym e)) in
          let e = more_other x F G more w other in
          record {
            touched = λ some. there ∙ m.touched (omega (arith, e, some));
            untouched = λ none. let before = m.untouched (omega (arith, e, none)) in omega (arith, there, before);
          }
    ]

most_one : (cycle x : ℕ) (marks : List ℕ) → x < length marks → ((w : ℕ) → slice_index marks w ≤ cycle) → (w : ℕ) → slice_index (slice_set marks x cycle) w ≤ cycle
most_one cycle x marks inside most w =
    elim (cases_eq x w) [
      | inl same ↦ let here = get_or-set_at marks x w cycle 0 (sym same) inside in omega (arith, here)
      | inr other ↦ let there = get_or-set_other marks x w cycle 0 (λ e. other (sym e)) in let before = most w in omega (arith, there, before)
    ]

-- a touch that counts
pub count_marked : (cycle x : ℕ) (other : List ℕ) (F G : ℕ → ℕ) (marks : List ℕ) (least : Option ℕ) → x < length marks → x < 2 ^ 20 → OneMore x F G → slice_index other x ≢ cycle
    → AreMarked cycle other F marks least → AreMarked cycle other G (slice_set marks x cycle) (cond (slice_index marks x == cycle) (lesser least x) least)
count_marked cycle x other F G marks least inside within more free m =
    let P : ℕ → Type 0 = λ w. (slice_index other w ≢ cycle) × (2 ≤ F w) in
    let Q : ℕ → Type 0 = λ w. (slice_index other w ≢ cycle) × (2 ≤ G w) in
    let mine = m.marks_are x free in
    let one = more_at x F G more in
    let there : (w : ℕ) → P w → Q w = λ w has. let up = more_least x F G more w in let two = has.1 in (has.0, omega (arith, up, two)) in
    let least_is : IsLeast Q (cond (slice_index marks x == cycle) (lesser least x) least) =
    elim (cases_eq (slice_index marks x) cycle) [
      | inl again ↦
          let none = mine.untouched in
          let two : 2 ≤ G x =
          elim (cases_lt (F x) 1) [
            | inl zero ↦ let less = none (omega (arith, zero)) in absurd (omega (arith, again, less))
            | inr some ↦ omega (arith, one, some)
          ] in
          let back : (w : ℕ) → Q w → P w ⊎ (w ≡ x) =
          λ w has. elim (cases_eq x w) [
            | inl same ↦ inr (sym same)
            | inr apart ↦ let e = more_other x F G more w apart in let enough = has.1 in inl (has.0, omega (arith, e, enough))
          ] in
          subst (λ b. IsLeast Q (cond b (lesser least x) least)) (sym (eq-eqb (slice_index marks x) cycle again))
          (least_more P Q x least within (free, two) there back m.least_is)
      | inr first ↦
          let some = mine.touched in
          let back : (w : ℕ) → Q w → P w =
          λ w has. elim (cases_eq x w) [
            | inl same ↦
                let enough : 2 ≤ G x = subst (λ v. 2 ≤ G v) (sym same) has.1 in
                absurd (first (some (omega (arith, one, enough))))
            | inr apart ↦ let e = more_other x F G more w apart in let enough = has.1 in (has.0, omega (arith, e, enough))
          ] in
          subst (λ b. IsLeast Q (cond b (lesser least x) least)) (sym (ne_eqb (slice_index marks x) cycle first)) (least_same P Q least there back m.least_is)
    ] in
    record {
      marks_are = λ w ne. mark_one cycle x marks F G inside more w (m.marks_are w ne);
      most = most_one cycle x marks inside m.most;
      least_is = least_is;
    }

-- one touch more, that counts
pub marked_counted : (stand : Stand) (kind : AccessKind) (cycle : ℕ) (ts : List Touch) (i : ℕ) (d : Touch) (other marks marks' : List ℕ) (least least' : Option ℕ)
    → i < length ts → All (λ t. t.word < 2 ^ 20) ts → length marks ≡ 2 ^ 20 → is_counted stand kind (get_or ts i d) ≡ true
    → marks' ≡ cond (slice_index other (get_or ts i d).word == cycle) marks (slice_set marks (get_or ts i d).word cycle)
    → least' ≡ cond (slice_index other (get_or ts i d).word == cycle) least (cond (slice_index marks (get_or ts i d).word == cycle) (lesser least (get_or ts i d).word) least)
    → AreMarked cycle other (counted stand kind (take i ts)) marks least → AreMarked cycle other (counted stand kind (take (i + 1) ts)) marks' least'
marked_counted stand kind cycle ts i d other marks marks' least least' inside all sized counts marks_are least_is m =
    let x = (get_or ts i d).word in
    let F = counted stand kind (take i ts) in
    let G = counted stand kind (take (i + 1) ts) in
    let within : x < 2 ^ 20 = all i d inside in
    let room : x < length marks = omega (arith, within, sized) in
    let more : OneMore x F G = counted_more stand kind ts i d inside counts in
    let again = cond (slice_index marks x == cycle) (lesser least x) least in
    elim (cases_eq (slice_index other x) cycle) [
      | inl e ↦
          let b = eq-eqb (slice_index other x) cycle e in
          subst (λ ms. AreMarked cycle other G ms least') (sym (marks_are ∙ ap (λ b. cond b marks (slice_set marks x cycle)) b))
          (subst (λ l. AreMarked cycle other G marks l) (sym (least_is ∙ ap (λ b. cond b least again) b))
          (pass_marked cycle other F G marks least (same_at_other cycle x other F G more e) m))
      | inr free ↦
          let b = ne_eqb (slice_index other x) cycle free in
          subst (λ ms. AreMarked cycle other G ms least') (sym (marks_are ∙ ap (λ b. cond b marks (slice_set marks x cycle)) b))
          (subst (λ l. AreMarked cycle other G (slice_set marks x cycle) l) (sym (least_is ∙ ap (λ b. cond b least again) b))
          (count_marked cycle x other F G marks least room within more free m))
    ]

-- one that doesn't
pub marked_passed : (stand : Stand) (kind : AccessKind) (cycle : ℕ) (ts : List Touch) (i : ℕ) (d : Touch) (other marks : List ℕ) (least : Option ℕ)
    → i < length ts → is_counted stand kind (get_or ts i d) ≡ false
    → AreMarked cycle other (counted stand kind (take i ts)) marks least → AreMarked cycle other (counted stand kind (take (i + 1) ts)) marks least
marked_passed stand kind cycle ts i d other marks least inside passes m =
    pass_marked cycle other (counted stand kind (take i ts)) (counted stand kind (take (i + 1) ts)) marks least (λ w ne. counted_same stand kind ts i d inside passes w) m

-- ---- words that are read and have the mark of a write

abbrev pub IsShared : ℕ → List ℕ → (ℕ → ℕ) → ℕ → Type 0
IsShared cycle written F w = (slice_index written w ≡ cycle) × (1 ≤ F w)

pub none_shared : (cycle : ℕ) (written : List ℕ) (F : ℕ → ℕ) → ((w : ℕ) → F w ≡ 0) → IsLeast (IsShared cycle written F) None
none_shared cycle written F zero = λ w has. let none = zero w in let some = has.1 in absurd (omega (arith, none, some))

pub pass_shared : (cycle : ℕ) (written : List ℕ) (F G : ℕ → ℕ) (least : Option ℕ) → ((w : ℕ) → slice_index written w ≡ cycle → G w ≡ F w) → IsLeast (IsShared cycle written F) least → IsLeast (IsShared cycle written G) least
pass_shared cycle written F G least same is =
    least_same (IsShared cycle written F) (IsShared cycle written G) least
    (λ w has. let e = same w has.0 in let some = has.1 in (has.0, omega (arith, e, some)))
    (λ w has. let e = same w has.0 in let some = has.1 in (has.0, omega (arith, e, some))) is

pub same_unwritten : (cycle x : ℕ) (written : List ℕ) (F G : ℕ → ℕ) → OneMore x F G → slice_index written x ≢ cycle → (w : ℕ) → slice_index written w ≡ cycle → G w ≡ F w
same_unwritten cycle x written F G more ne w e = more_other x F G more w (λ (same : x ≡ w). absurd (ne (ap (slice_index written) same ∙ e)))

pub count_shared : (cycle x : ℕ) (written : List ℕ) (F G : ℕ → ℕ) (least : Option ℕ) → x < 2 ^ 20 → OneMore x F G → slice_index written x ≡ cycle
    → IsLeast (IsShared cycle written F) least → IsLeast (IsShared cycle written G) (lesser least x)
count_shared cycle x written F G least within more is_written is =
    let one = more_at x F G more in
    let there : (w : ℕ) → IsShared cycle written F w → IsShared cycle written G w =
    λ w has. let up = more_least x F G more w in let some = has.1 in (has.0, omega (arith, up, some)) in
    let back : (w : ℕ) → IsShared cycle written G w → IsShared cycle written F w ⊎ (w ≡ x) =
    λ w has. elim (cases_eq x w) [
      | inl same ↦ inr (sym same)
      | inr apart ↦ let e = more_other x F G more w apart in let some = has.1 in inl (has.0, omega (arith, e, some))
    ] in
    least_more (IsShared cycle written F) (IsShared cycle written G) x least within (is_written, omega (arith, one)) there back is

-- one touch more, that counts
pub shared_counted : (stand : Stand) (kind : AccessKind) (cycle : ℕ) (ts : List Touch) (i : ℕ) (d : Touch) (written : List ℕ) (least least' : Option ℕ)
    → i < length ts → All (λ t. t.word < 2 ^ 20) ts → is_counted stand kind (get_or ts i d) ≡ true
    → least' ≡ cond (slice_index written (get_or ts i d).word == cycle) (lesser least (get_or ts i d).word) least
    → IsLeast (IsShared cycle written (counted stand kind (take i ts))) least → IsLeast (IsShared cycle written (counted stand kind (take (i + 1) ts))) least'
shared_counted stand kind cycle ts i d written least least' inside all counts least_is is =
    let x = (get_or ts i d).word in
    let F = counted stand kind (take i ts) in
    let G = counted stand kind (take (i + 1) ts) in
    let within : x < 2 ^ 20 = all i d inside in
    let more : OneMore x F G = counted_more stand kind ts i d inside counts in
    elim (cases_eq (slice_index written x) cycle) [
      | inl e ↦
          subst (λ l. IsLeast (IsShared cycle written G) l) (sym (least_is ∙ ap (λ b. cond b (lesser least x) least) (eq-eqb (slice_index written x) cycle e)))
          (count_shared cycle x written F G least within more e is)
      | inr ne ↦
          subst (λ l. IsLeast (IsShared cycle written G) l) (sym (least_is ∙ ap (λ b. cond b (lesser least x) least) (ne_eqb (slice_index written x) cycle ne)))
          (pass_shared cycle written F G least (same_unwritten cycle x written F G more ne) is)
    ]

-- one that doesn't
pub shared_passed : (stand : Stand) (kind : AccessKind) (cycle : ℕ) (ts : List Touch) (i : ℕ) (d : Touch) (written : List ℕ) (least : Option ℕ)
    → i < length ts → is_counted stand kind (get_or ts i d) ≡ false
    → IsLeast (IsShared cycle written (counted stand kind (take i ts))) least → IsLeast (IsShared cycle written (counted stand kind (take (i + 1) ts))) least
shared_passed stand kind cycle ts i d written least inside passes is =
    pass_shared cycle written (counted stand kind (take i ts)) (counted stand kind (take (i + 1) ts)) least (λ w e. counted_same stand kind ts i d inside passes w) is

-- ---- both kinds

-- the least word that harts only read, of the reads R and the writes W
pub least_read : (cycle : ℕ) (written : List ℕ) (R W : ℕ → ℕ) (least : Option ℕ) → ((w : ℕ) → IsMark cycle (W w) (slice_index written w))
    → IsLeast (λ w. (slice_index written w ≢ cycle) × (2 ≤ R w)) least → IsLeast (λ w. (2 ≤ R w) × (W w ≡ 0)) least
least_read cycle written R W least marks is =
    least_same (λ w. (slice_index written w ≢ cycle) × (2 ≤ R w)) (λ w. (2 ≤ R w) × (W w ≡ 0)) least
    (λ w has. elim (cases_lt (W w) 1) [
      | inl none ↦ (has.1, omega (arith, none))
      | inr some ↦ absurd (has.0 ((marks w).touched some))
    ])
    (λ w has. let before = (marks w).untouched has.1 in (λ e. absurd (omega (arith, before, e)), has.0)) is

-- the least word that some hart writes and another touches
pub least_write : (cycle : ℕ) (earlier written : List ℕ) (R W : ℕ → ℕ) (twice shared : Option ℕ) → ((w : ℕ) → slice_index earlier w < cycle) → ((w : ℕ) → IsMark cycle (W w) (slice_index written w))
    → IsLeast (λ w. (slice_index earlier w ≢ cycle) × (2 ≤ W w)) twice → IsLeast (IsShared cycle written R) shared → IsLeast (λ w. (2 ≤ R w + W w) × (1 ≤ W w)) (least_of twice shared)
least_write cycle earlier written R W twice shared before marks two both =
    let P : ℕ → Type 0 = λ w. (slice_index earlier w ≢ cycle) × (2 ≤ W w) in
    least_same (λ w. P w ⊎ IsShared cycle written R w) (λ w. (2 ≤ R w + W w) × (1 ≤ W w)) (least_of twice shared)
    (λ w has. elim has [
      | inl twice_there ↦ let many = twice_there.1 in (omega (arith, many), omega (arith, many))
      | inr shared_there ↦
          let mark = shared_there.0 in
          let some = shared_there.1 in
          let none = (marks w).untouched in
          let one : 1 ≤ W w =
          elim (cases_lt (W w) 1) [
            | inl zero ↦ let less = none (omega (arith, zero)) in absurd (omega (arith, mark, less))
            | inr enough ↦ enough
          ] in
          (omega (arith, one, some), one)
    ])
    (λ w has. let all = has.0 in let one = has.1 in elim (cases_lt (W w) 2) [
      | inl few ↦ inr ((marks w).touched one, omega (arith, all, few))
      | inr many ↦ let early = before w in inl (λ e. absurd (omega (arith, early, e)), many)
    ])
    (least_either P (IsShared cycle written R) twice shared two both)
