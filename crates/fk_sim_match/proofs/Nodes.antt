-- Nodes own words apart, and their plan tells who meets at these.
use Rattle.std.proofs.Common.{◌≡◌, ◌≢◌, ℕ, zero, suc, ◌+◌, ◌-◌, ◌≤◌, ◌<◌, List, length, Bool, true, false, Option, Some, None, sym, ap, subst, ◌∙◌, refl, arith, ◌⊎◌, inl, inr, ⊎_elim}
use Rattle.std.specs.Prelude.{is_some, ◌==◌, if◌then◌else◌}
use Rattle.std.proofs.lemmas.Bool.{cases_Bool, cases_eq, and_parts, and_from, cond-true, cond-false, false≢true, ne_eqb}
use Rattle.fk_sim_heap.specs.Count.{asked_word}
use Rattle.fk_space.specs.Space.{Space}
use Rattle.fk_tree.specs.Tree as t
use Rattle.fk_tree.specs.Tree.{Node, Tree, kind_of, is_from, is_member, is_waiting}
use Rattle.fk_tree.proofs.Shapes.{from_parts, from_within}
use Rattle.fk_sim_nodes.specs.Node.{OwnApart}
use Rattle.fk_sim_match.specs.Plan.{IsOpen}
use Rattle.fk_sim_block.specs.Node.{root_words}
use Rattle.fk_sim_match.specs.Nodes.{first_of, own_words, owns, HaveSpaces, meeters_at, is_arrival, owner_among, meeters_by, is_arrival_by, plan_of}
use Rattle.fk_sim_match.specs.Laws.{NodesOwnApart, TellsMeeters, WordsTellMeeters}

pub few_arrivals : (offset : ℕ) → is_arrival offset ≡ true → offset < 8
few_arrivals zero is = omega arith
few_arrivals (suc zero) is = omega arith
few_arrivals (suc (suc i)) is = absurd (false≢true is)

waiting_some : (x : Option Node) → is_waiting (kind_of x) ≡ true → is_some x ≡ true
waiting_some None is = is
waiting_some (Some node) is = refl

-- of a space that has room for a header, all or that alone
own_below : (b : Bool) (low high i : ℕ) → low + 8 ≤ high → i < low + (if b then 8 else high - low) → i < high
own_below true low high i header lt = omega (arith, header, lt)
own_below false low high i header lt = omega (arith, header, lt)

own_header : (b : Bool) (low high : ℕ) → low + 8 ≤ high → 8 ≤ (if b then 8 else high - low)
own_header true low high header = omega arith
own_header false low high header = omega (arith, header)

module _ (tree : Tree) (spaces : ℕ → Space) (h : HaveSpaces tree spaces) where
  -- ---- words of spaces

  -- a group, and a word of its space
  record Lies (i g : ℕ) : Type 0 where
    lower : g ≢ 0
    some : is_some (tree.nodes g) ≡ true
    from : (spaces g).low ≤ i
    below : i < (spaces g).high

  -- a group that waits, and a word behind its header
  record IsGiven (i g : ℕ) : Type 0 where
    waits : is_waiting (t.kind tree g) ≡ true
    behind : (spaces g).low + 8 ≤ i

  lies_up : (i g : ℕ) → Lies i g → t.parent tree g ≢ 0 → Lies i (t.parent tree g)
  lies_up i g x ne =
      let nested = h.nested g x.lower x.some ne in
      let above = nested.above in
      let below = nested.below in
      let from = x.from in
      let under = x.below in
      record { lower = ne; some = waiting_some (tree.nodes (t.parent tree g)) (h.waits g x.lower x.some); from = omega (arith, above, from); below = omega (arith, below, under) }

  given_up : (i g : ℕ) → Lies i g → t.parent tree g ≢ 0 → IsGiven i (t.parent tree g)
  given_up i g x ne =
      let above = (h.nested g x.lower x.some ne).above in
      let from = x.from in
      record { waits = h.waits g x.lower x.some; behind = omega (arith, above, from) }

  -- ---- from a group up to one that it is a part of

  abbrev Leads : (steps g k : ℕ) → Type 0
  Leads zero g k = t.parent tree k ≡ g
  Leads (suc n) g k = (t.parent tree k ≢ 0) × Leads n g (t.parent tree k)

  gives : (n g k i : ℕ) → g ≢ 0 → Lies i k → Leads n g k → IsGiven i g
  gives zero g k i ne x e = subst (λ j. IsGiven i j) e (given_up i k x (λ z. ne (sym e ∙ z)))
  gives (suc n) g k i ne x l = gives n g (t.parent tree k) i ne (lies_up i k x l.0) l.1

  -- the part of it on the way
  record Passes (g k i : ℕ) : Type 0 where
    part : ℕ
    up : t.parent tree part ≡ g
    lies : Lies i part
    on : (part ≡ k) ⊎ ((n : ℕ) × Leads n part k)

  passes : (n g k i : ℕ) → Lies i k → Leads n g k → Passes g k i
  passes zero g k i x e = record { part = k; up = e; lies = x; on = inl refl }
  passes (suc n) g k i x l =
      let r = passes n g (t.parent tree k) i (lies_up i k x l.0) l.1 in
      record {
        part = r.part;
        up = r.up;
        lies = r.lies;
        on = ⊎_elim (λ e. inr (0, sym e)) (λ m. let l' : Leads (suc m.0) r.part k = (l.0, m.1) in inr (suc m.0, l')) r.on;
      }

  abbrev IsAbove : ℕ → ℕ → Type 0
  IsAbove g k = (n : ℕ) × Leads n g k

  turned : {A B : Type 0} → (A ⊎ B) → (B ⊎ A)
  turned (inl x) = inr x
  turned (inr x) = inl x

  -- two with a word in common that are parts of one are the same
  siblings : (g k i : ℕ) → Lies i g → Lies i k → t.parent tree g ≡ t.parent tree k → g ≡ k
  siblings g k i x y same =
      let from_g = x.from in
      let below_g = x.below in
      let from_k = y.from in
      let below_k = y.below in
      ⊎_elim (λ e. e)
      (λ differ.
      ⊎_elim (λ before. absurd (omega (arith, before, below_g, from_k))) (λ before. absurd (omega (arith, before, below_k, from_g)))
      (h.apart g k x.lower y.lower differ x.some y.some same))
      (cases_eq g k)

  -- of two with a word in common one is above the other
  above_by : (g k i : ℕ) → g ≢ k → Lies i g → Lies i k → (ne : t.parent tree k ≢ 0) → (g ≢ t.parent tree k → IsAbove g (t.parent tree k) ⊎ IsAbove (t.parent tree k) g)
      → IsAbove g k ⊎ IsAbove k g
  above_by g k i differ x y ne rest =
      ⊎_elim
      (λ e. inl (0, sym e))
      (λ other.
      ⊎_elim
      (λ l. let l' : Leads (suc l.0) g k = (ne, l.1) in inl (suc l.0, l'))
      (λ l.
      let r = passes l.0 (t.parent tree k) g i x l.1 in
      let e = siblings r.part k i r.lies y r.up in
      ⊎_elim (λ same. absurd (differ (sym same ∙ e))) (λ m. inr (m.0, subst (λ j. Leads m.0 j g) e m.1)) r.on)
      (rest other))
      (cases_eq g (t.parent tree k))

  above : (fuel g k i : ℕ) → (spaces g).low + (spaces k).low ≤ fuel → g ≢ k → Lies i g → Lies i k → IsAbove g k ⊎ IsAbove k g
  above zero g k i few differ x y =
      ⊎_elim
      (λ e. ⊎_elim (λ f. absurd (differ (siblings g k i x y (f ∙ sym e)))) (λ ne. let over = (h.nested g x.lower x.some ne).above in absurd (omega (arith, over, few))) (cases_eq (t.parent tree g) 0))
      (λ ne. let over = (h.nested k y.lower y.some ne).above in absurd (omega (arith, over, few)))
      (cases_eq (t.parent tree k) 0)
  above (suc fuel) g k i few differ x y =
      ⊎_elim
      (λ e.
      ⊎_elim
      (λ f. absurd (differ (siblings g k i x y (f ∙ sym e))))
      (λ ne.
      let over = (h.nested g x.lower x.some ne).above in
      turned (above_by k g i (λ z. differ (sym z)) y x ne (λ other. above fuel k (t.parent tree g) i (omega (arith, over, few)) other y (lies_up i g x ne))))
      (cases_eq (t.parent tree g) 0))
      (λ ne.
      let over = (h.nested k y.lower y.some ne).above in
      above_by g k i differ x y ne (λ other. above fuel g (t.parent tree k) i (omega (arith, over, few)) other x (lies_up i k y ne)))
      (cases_eq (t.parent tree k) 0)

  -- ---- own words

  -- a word that a node owns
  record Owned (g i : ℕ) : Type 0 where
    some : is_some (tree.nodes g) ≡ true
    from : first_of spaces g ≤ i
    below : i < first_of spaces g + own_words spaces g (t.kind tree g)

  owned : (g i : ℕ) → owns tree spaces g i ≡ true → Owned g i
  owned g i own =
      let words = own_words spaces g (t.kind tree g) in
      let parts = and_parts (is_some (tree.nodes g)) (is_from (first_of spaces g) words i) own in
      let range = from_parts (first_of spaces g) words i parts.1 in
      record { some = parts.0; from = range.0; below = range.1 }

  not_zero : (g : ℕ) → suc g ≢ 0
  not_zero g e = omega (arith, e)

  lies : (g i : ℕ) → Owned (suc g) i → Lies i (suc g)
  lies g i x =
      let s = spaces (suc g) in
      record { lower = not_zero g; some = x.some; from = x.from; below = own_below (is_waiting (t.kind tree (suc g))) s.low s.high i (h.header (suc g) (not_zero g) x.some) x.below }

  -- a group owns no word that it has given to its parts
  not_given : (g i : ℕ) → Owned (suc g) i → IsGiven i (suc g) → ⊥
  not_given g i x given =
      let low = (spaces (suc g)).low in
      let high = (spaces (suc g)).high in
      let below : i < low + 8 = subst (λ b. i < low + (if b then 8 else high - low)) given.waits x.below in
      let behind = given.behind in
      omega (arith, below, behind)

  not_both : (g k i : ℕ) → (g ≡ k → ⊥) → Owned g i → Owned k i → ⊥
  not_both zero zero i differ a b = differ refl
  not_both zero (suc k) i differ a b =
      let within = h.within (suc k) (not_zero k) b.some in
      let below = (lies k i b).below in
      let from = a.from in
      omega (arith, within, from, below)
  not_both (suc g) zero i differ a b =
      let within = h.within (suc g) (not_zero g) a.some in
      let below = (lies g i a).below in
      let from = b.from in
      omega (arith, within, from, below)
  not_both (suc g) (suc k) i differ a b =
      let x = lies g i a in
      let y = lies k i b in
      ⊎_elim (λ l. not_given g i a (gives l.0 (suc g) (suc k) i (not_zero g) y l.1)) (λ l. not_given k i b (gives l.0 (suc k) (suc g) i (not_zero k) x l.1))
      (above ((spaces (suc g)).low + (spaces (suc k)).low) (suc g) (suc k) i (omega arith) differ x y)

  other_owns_not : (g k i : ℕ) → (g ≡ k → ⊥) → owns tree spaces g i ≡ true → owns tree spaces k i ≡ false
  other_owns_not g k i differ own =
      ⊎_elim (λ both. absurd (not_both g k i differ (owned g i own) (owned k i both))) (λ no. no) (cases_Bool (owns tree spaces k i))

  -- the word that counts the words asked for lies after all of them
  not_asked : (g i : ℕ) → Owned g i → i ≡ asked_word → ⊥
  not_asked zero i x e = let below : i < root_words + 8 = x.below in omega arith
  not_asked (suc g) i x e =
      let within = h.within (suc g) (not_zero g) x.some in
      let below = (lies g i x).below in
      omega arith

  pub own_apart : OwnApart (owns tree spaces) (λ i. i == asked_word)
  own_apart = record { nodes = λ g k differ i own. other_owns_not g k i differ own; from_common = λ g i own. ne_eqb i asked_word (not_asked g i (owned g i own)) }

  -- the node that owns a word is found
  owner_is : (g word count : ℕ) → owns tree spaces g word ≡ true → g < count → owner_among tree spaces count word ≡ Some g
  owner_is g word zero own lt = absurd (omega (arith, lt))
  owner_is g word (suc k) own lt =
      ⊎_elim
      (λ same.
      cond-true (owns tree spaces k word) (Some k) (owner_among tree spaces k word) (subst (λ j. owns tree spaces j word ≡ true) same own)
      ∙ ap (λ j. Some j) (sym same))
      (λ differ.
      cond-false (owns tree spaces k word) (Some k) (owner_among tree spaces k word) (other_owns_not g k word differ own)
      ∙ owner_is g word k own (omega (arith, lt, differ)))
      (cases_eq g k)

  -- each node owns its header
  header_words : (g : ℕ) → is_some (tree.nodes g) ≡ true → 8 ≤ own_words spaces g (t.kind tree g)
  header_words zero some = omega arith
  header_words (suc g) some = own_header (is_waiting (t.kind tree (suc g))) (spaces (suc g)).low (spaces (suc g)).high (h.header (suc g) (not_zero g) some)

  pub tells : (nodes : List ℕ) (g offset : ℕ) → is_some (tree.nodes g) ≡ true → g < tree.given → offset < 8
      → TellsMeeters tree (plan_of tree spaces nodes) g offset (first_of spaces g + offset)
  tells nodes g offset some lt few =
      let first = first_of spaces g in
      let word = first + offset in
      let words = own_words spaces g (t.kind tree g) in
      let header = header_words g some in
      let own : owns tree spaces g word ≡ true = and_from (is_some (tree.nodes g)) (is_from first words word) some (from_within first words word (omega arith) (omega (arith, few, header))) in
      let owner = owner_is g word tree.given own lt in
      let e : word - first ≡ offset = omega arith in
      let who : meeters_by tree spaces word (owner_among tree spaces tree.given word) ≡ meeters_at tree g offset =
      ap (λ o. meeters_by tree spaces word o) owner ∙ ap (λ i. meeters_at tree g i) e in
      record {
        own = own;
        arrival = ap (λ o. is_arrival_by spaces word o) owner ∙ ap (λ i. is_arrival i) e;
        size = ap (λ ms. length ms) who;
        member = λ n. ap (λ ms. is_member n ms) who;
      }

  -- members of a node meet at words of its header alone
  pub record InHeader (g w : ℕ) : Type 0 where
    pub offset : ℕ
    pub few : offset < 8
    pub word : first_of spaces g + offset ≡ w
    pub arrival : is_arrival offset ≡ true

  pub open_at : (nodes : List ℕ) (g w : ℕ) → g < tree.given → IsOpen (plan_of tree spaces nodes) g w → InHeader g w
  open_at nodes g w lt is_open =
      let from = (owned g w is_open.0).from in
      let arrival : is_arrival (w - first_of spaces g) ≡ true = sym (ap (λ o. is_arrival_by spaces w o) (owner_is g w tree.given is_open.0 lt)) ∙ is_open.1 in
      record { offset = w - first_of spaces g; few = few_arrivals (w - first_of spaces g) arrival; word = omega (arith, from); arrival = arrival }

pub nodes_own_apart : NodesOwnApart
nodes_own_apart tree spaces h = own_apart tree spaces h

pub words_tell_meeters : WordsTellMeeters
words_tell_meeters tree spaces nodes g offset h some lt few = tells tree spaces h nodes g offset some lt few
