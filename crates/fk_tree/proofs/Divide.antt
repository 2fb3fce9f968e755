-- One member more joins its part.
use Rattle.std.proofs.Common.{◌≡◌, ◌≢◌, ⊎_elim, ℕ, zero, suc, ◌+◌, ◌-◌, ◌≤◌, ◌<◌, nat_lt, Bool, true, false, cond, List, [], ◌∷◌, ◌++◌, length, get_or, take, Option, Some, None, is_none, refl, sym, ap, ◌∙◌, arith, filter}
use mir.Val.{bool_byte}
use Rattle.std.proofs.lemmas.Bool.{cases_Bool, cases_eq, cond-true, cond-false, eq-eqb, ne_eqb, lt-ltb, le-ltb}
use Rattle.std.proofs.lemmas.List.{append-nil}
use Rattle.std.proofs.lemmas.List.Elements.{filter_more}
use Rattle.fk_tree.specs.declared.node.Kind.TheVariants.{Lockstep}
use Rattle.fk_tree.specs.Tree.{Node, node_of, with_node, is_from, is_in, part_of, parts_by}
use Rattle.fk_tree.specs.Sound.{is_ascending}
use Rattle.fk_tree.specs.Seen.{living_parts, with_member, divided}
use Rattle.fk_tree.proofs.Lists.{told_at}
use Rattle.fk_tree.proofs.Shapes.{with_same, with_other, from_parts, from_within}
use Rattle.fk_tree.proofs.Counts.{living_same, living_added}

pub get_or-default : (xs : List ℕ) (i d e : ℕ) → i < length xs → get_or xs i d ≡ get_or xs i e
get_or-default [] i d e lt = absurd (omega arith)
get_or-default (x ∷ xs) zero d e lt = refl
get_or-default (x ∷ xs) (suc i) d e lt = get_or-default xs i d e (omega arith)

joined : (parent h : ℕ) (ms : List ℕ) → with_member parent h (node_of ms parent Lockstep) ≡ node_of (ms ++ h ∷ []) parent Lockstep
joined parent h [] = refl
joined parent h (m ∷ ms) = refl

some-joined : (parent h : ℕ) (o : Option Node) → is_none (with_member parent h o) ≡ false
some-joined parent h None = refl
some-joined parent h (Some a) = refl

module _ (first parent parts : ℕ) (members of : List ℕ) (old : ℕ → Option Node) (up : is_ascending members ≡ true) (len : length of ≡ length members) where
  abbrev pub part : ℕ → Option ℕ
  part = parts_by parts members of

  abbrev goes : ℕ → ℕ → Bool
  goes i h = is_in (i - first) (part h)

  abbrev group : ℕ → ℕ → List ℕ
  group i j = filter (goes i) (take j members)

  part_at : (j : ℕ) → j < length members → part (get_or members j 0) ≡ part_of parts (get_or of j 0)
  part_at j lt =
      let lt' : j < length of = omega (arith, len) in
      ap (part_of parts) (told_at parts members of j up lt lt' ∙ get_or-default of j parts 0 lt')

  pub enters_at : (j : ℕ) → j < length members → get_or of j 0 < parts → part (get_or members j 0) ≡ Some (get_or of j 0)
  enters_at j lt in_part = part_at j lt ∙ cond-true (nat_lt (get_or of j 0) parts) (Some (get_or of j 0)) None (lt-ltb (get_or of j 0) parts in_part)

  pub waits_at : (j : ℕ) → j < length members → parts ≤ get_or of j 0 → part (get_or members j 0) ≡ None
  waits_at j lt out = part_at j lt ∙ cond-false (nat_lt (get_or of j 0) parts) (Some (get_or of j 0)) None (le-ltb (get_or of j 0) parts out)

  group_more : (i j : ℕ) → j < length members → goes i (get_or members j 0) ≡ true → group i (j + 1) ≡ group i j ++ get_or members j 0 ∷ []
  group_more i j lt pass =
      filter_more (goes i) members j 0 lt
      ∙ ap (λ (xs : List ℕ). group i j ++ xs) (cond-true (goes i (get_or members j 0)) (get_or members j 0 ∷ []) [] pass)

  group_same : (i j : ℕ) → j < length members → goes i (get_or members j 0) ≡ false → group i (j + 1) ≡ group i j
  group_same i j lt out =
      filter_more (goes i) members j 0 lt
      ∙ ap (λ (xs : List ℕ). group i j ++ xs) (cond-false (goes i (get_or members j 0)) (get_or members j 0 ∷ []) [] out)
      ∙ append-nil (group i j)

  abbrev after : ℕ → ℕ → Option Node
  after j i = divided first parent parts part (take j members) old i

  after_new : (j i : ℕ) → is_from first parts i ≡ true → after j i ≡ node_of (group i j) parent Lockstep
  after_new j i e = cond-true (is_from first parts i) (node_of (group i j) parent Lockstep) (old i) e

  after_old : (j i : ℕ) → is_from first parts i ≡ false → after j i ≡ old i
  after_old j i e = cond-false (is_from first parts i) (node_of (group i j) parent Lockstep) (old i) e

  same_after : (j i : ℕ) → j < length members → (is_from first parts i ≡ true → goes i (get_or members j 0) ≡ false) → after j i ≡ after (j + 1) i
  same_after j i lt out =
      ⊎_elim
      (λ new.
      after_new j i new ∙ ap (λ (ms : List ℕ). node_of ms parent Lockstep) (sym (group_same i j lt (out new))) ∙ sym (after_new (j + 1) i new))
      (λ was. after_old j i was ∙ sym (after_old (j + 1) i was))
      (cases_Bool (is_from first parts i))

  pub none_yet : ((i : ℕ) → first ≤ i → old i ≡ None) → (i : ℕ) → old i ≡ after 0 i
  none_yet fresh i =
      ⊎_elim
      (λ new. fresh i (from_parts first parts i new).0 ∙ sym (after_new 0 i new))
      (λ was. sym (after_old 0 i was))
      (cases_Bool (is_from first parts i))

  pub skips : (j : ℕ) → j < length members → parts ≤ get_or of j 0 → (i : ℕ) → after j i ≡ after (j + 1) i
  skips j lt out i = same_after j i lt (λ new. ap (is_in (i - first)) (waits_at j lt out))

  pub joins : (j k : ℕ) → j < length members → k ≡ get_or of j 0 → k < parts → (now next : ℕ → Option Node) → ((i : ℕ) → now i ≡ after j i)
      → ((i : ℕ) → next i ≡ with_node (first + k) (with_member parent (get_or members j 0) (now (first + k))) now i)
      → (i : ℕ) → next i ≡ after (j + 1) i
  joins j k lt named in_part now next before changed i =
      let h = get_or members j 0 in
      let in_part' : get_or of j 0 < parts = omega arith in
      let part_is : part h ≡ Some k = enters_at j lt in_part' ∙ ap Some (sym named) in
      ⊎_elim
      (λ e.
      let new : is_from first parts i ≡ true = from_within first parts i (omega arith) (omega arith) in
      let which : i - first ≡ k = omega arith in
      let pass : goes i h ≡ true = ap (is_in (i - first)) part_is ∙ eq-eqb (i - first) k which in
      changed i ∙ with_same (first + k) (with_member parent h (now (first + k))) now i e
      ∙ ap (λ (n : ℕ). with_member parent h (now n)) (sym e)
      ∙ ap (with_member parent h) (before i ∙ after_new j i new)
      ∙ joined parent h (group i j)
      ∙ ap (λ (ms : List ℕ). node_of ms parent Lockstep) (sym (group_more i j lt pass))
      ∙ sym (after_new (j + 1) i new))
      (λ ne.
      changed i ∙ with_other (first + k) (with_member parent h (now (first + k))) now i ne ∙ before i
      ∙ same_after j i lt (λ new.
      let low = (from_parts first parts i new).0 in
      let other : i - first ≢ k = omega (arith, low) in
      ap (is_in (i - first)) part_is ∙ ne_eqb (i - first) k other))
      (cases_eq i (first + k))

abbrev pub one_if : Bool → ℕ
one_if b = cond b 1 0

-- a part that is made is one more that has not ended
pub joined_count : (first parts parent h x : ℕ) (now next : ℕ → Option Node) → first ≤ x → x < first + parts
    → ((i : ℕ) → next i ≡ with_node x (with_member parent h (now x)) now i)
    → living_parts next first parts ≡ one_if (is_none (now x)) + living_parts now first parts
joined_count first parts parent h x now next low high changed =
    let here : is_none (next x) ≡ false = ap is_none (changed x ∙ with_same x (with_member parent h (now x)) now x refl) ∙ some-joined parent h (now x) in
    let others : (i : ℕ) → i ≢ x → is_none (now i) ≡ is_none (next i) = λ i ne. ap is_none (sym (changed i ∙ with_other x (with_member parent h (now x)) now i ne)) in
    ⊎_elim
    (λ none.
    let one : one_if (is_none (now x)) ≡ 1 = ap one_if none in
    let more = living_added now next first parts x none here others low high in
    omega arith)
    (λ some.
    let no_more : one_if (is_none (now x)) ≡ 0 = ap one_if some in
    let same : (i : ℕ) → first ≤ i → i < first + parts → is_none (now i) ≡ is_none (next i) =
    λ i lo hi. ⊎_elim (λ e. ap (λ (n : ℕ). is_none (now n)) e ∙ some ∙ sym here ∙ ap (λ (n : ℕ). is_none (next n)) (sym e)) (others i) (cases_eq i x) in
    let equal = living_same now next first parts same in
    omega arith)
    (cases_Bool (is_none (now x)))

abbrev one_unless : Bool → ℕ
one_unless b = cond b 0 1

pub none_living : (nodes : ℕ → Option Node) (first parts : ℕ) → ((i : ℕ) → first ≤ i → nodes i ≡ None) → 0 ≡ living_parts nodes first parts
none_living nodes first zero none = refl
none_living nodes first (suc parts) none =
    let here : one_unless (is_none (nodes (first + parts))) ≡ 0 = ap (λ (o : Option Node). one_unless (is_none o)) (none (first + parts) (omega arith)) in
    let rest = none_living nodes first parts none in
    omega arith

-- the count as the code raises it
pub byte_is : (b : Bool) → bool_byte b ≡ one_if b
byte_is false = refl
byte_is true = refl

pub one_if_small : (b : Bool) → one_if b ≤ 1
one_if_small false = omega arith
one_if_small true = omega arith
