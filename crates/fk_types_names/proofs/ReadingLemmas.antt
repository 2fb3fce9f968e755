-- What a reader knows from mark to mark.
use Rattle.std.proofs.Common.{◌≡◌, ◌≢◌, ◌⊎◌, inl, inr, ℕ, zero, suc, ◌+◌, ◌<◌, ◌≤◌, List, [], ◌∷◌, ◌++◌, length, get_or, Option, Some, None, refl, sym, subst, ap, ◌∙◌, arith}
use Rattle.std.specs.Prelude.{MatchOption, IsSomeAnd, slice_get, slice_index}
use Rattle.fk_types_names.specs.declared.reader.Local.{Local}
use Rattle.fk_types_names.specs.declared.reader.Reader.{Reader}
use Rattle.fk_types_names.specs.Outline.{MarkTree, Variable, Header, Opens, Closes, Declares, Uses}
use Rattle.std.proofs.lemmas.Grind.{common_steps}
use Rattle.fk_types_names.specs.declared.outline.Declaration.{Declaration}
use Rattle.fk_types_names.specs.declared.outline.Mark.{Mark}
use Rattle.fk_types_names.specs.declared.outline.Mark.TheVariants as c
use Rattle.fk_types_names.specs.View.{mark_of}
use Rattle.fk_types_names.specs.Visible.{depth, DeclaresHere, DeclaresAt, IsVisible, IsInnermost, IsHidden}
use Rattle.fk_types_names.specs.Means.{HasBodyAt, DefinesHere}
use Rattle.fk_types_names.specs.TableView.{shown}
use Rattle.fk_types_names.specs.Locals.{Each, IsLocal, Holds}
use Rattle.fk_types_names.specs.Reading.{marks_of, AreDepths, IsOfFile, IsAt}
use Rattle.fk_types_names.proofs.LocalLemmas.{best, IsBest, IsNone, Each-map, Each-last, Holds-weaker, Holds-pop, Holds-left, Holds-again, Holds-new}
use Rattle.fk_types_names.proofs.SurveyLemmas.{at_within}

-- ---- visible at one mark and at the next

below_or : (i j : ℕ) → i < j + 1 → (i < j) ⊎ (i ≡ j)
below_or zero zero h = inr refl
below_or zero (suc j) h = inl (omega arith)
below_or (suc i) zero h = absurd (omega arith)
below_or (suc i) (suc j) h = elim (below_or i j (omega arith)) [ inl a ↦ inl (omega arith) | inr e ↦ inr (ap suc e) ]

zero_or_above : (n : ℕ) → (n ≡ 0) ⊎ (0 < n)
zero_or_above zero = inl refl
zero_or_above (suc n) = inr (omega arith)

abbrev Before : (ℕ → ℕ) → ℕ → ℕ → Type 0
Before d i j = 0 < d i → i < j

abbrev Within : (ℕ → ℕ) → ℕ → ℕ → Type 0
Within d i j = (k : ℕ) → i < k → k ≤ j → d i ≤ d k

next_from : (d : ℕ → ℕ) (i j : ℕ) → Before d i (j + 1) → Within d i (j + 1) → ((Before d i j × Within d i j) ⊎ (i ≡ j)) × (d i ≤ d (j + 1))
next_from d i j before within = elim (zero_or_above (d i)) [
  | inl z ↦ (inl (λ above. absurd (omega arith), λ k low high. within k low (omega arith)), omega arith)
  | inr above ↦ (elim (below_or i j (before above)) [ inl less ↦ inl (λ _. less, λ k low high. within k low (omega arith)) | inr e ↦ inr e ], within (j + 1) (before above) (omega arith))
]

next_of : (d : ℕ → ℕ) (i j : ℕ) → (Before d i j × Within d i j) ⊎ (i ≡ j) → d i ≤ d (j + 1) → Before d i (j + 1) × Within d i (j + 1)
next_of d i j (inl v) low = (λ above. let b : i < j = v.0 above in omega arith, λ k after upto. elim (below_or k (j + 1) (omega arith)) [ inl less ↦ v.1 k after (omega arith) | inr e ↦ subst (λ n. d i ≤ d n) (sym e) low ])
next_of d i j (inr same) low = (λ above. omega arith, λ k after upto. let e : k ≡ j + 1 = omega arith in subst (λ n. d i ≤ d n) (sym e) low)

module _ (marks : List MarkTree) where
  pub visible_next : (i j : ℕ) → IsVisible marks i (j + 1) → (IsVisible marks i j ⊎ (i ≡ j)) × (depth marks i ≤ depth marks (j + 1))
  visible_next i j v =
      let n = next_from (depth marks) i j v.before v.within in
      (elim n.0 [ inl f ↦ inl (record { before = f.0; within = f.1 }) | inr e ↦ inr e ], n.1)

  pub visible_on : (i j : ℕ) → (IsVisible marks i j ⊎ (i ≡ j)) × (depth marks i ≤ depth marks (j + 1)) → IsVisible marks i (j + 1)
  visible_on i j h =
      let n = next_of (depth marks) i j (elim h.0 [ inl v ↦ inl (v.before, v.within) | inr e ↦ inr e ]) h.1 in
      record { before = n.0; within = n.1 }

  -- what is of file scope is visible everywhere
  pub visible_file : (j i : ℕ) → depth marks i ≡ 0 → IsVisible marks i j
  visible_file j i z = record { before = before (depth marks i) z; within = λ k low high. within (depth marks i) (depth marks k) z }
    where
      before : (n : ℕ) → n ≡ 0 → 0 < n → i < j
      before n e above = absurd (omega arith)

      within : (n m : ℕ) → n ≡ 0 → n ≤ m
      within n m e = omega arith

  -- and lies no deeper than where it is visible
  pub visible_depth : (j i : ℕ) → IsVisible marks i j → depth marks i ≤ depth marks j
  visible_depth j i v = by (depth marks i) (depth marks j) (zero_or_above (depth marks i)) v.before (v.within j)
    where
      by : (n m : ℕ) → (n ≡ 0) ⊎ (0 < n) → (0 < n → i < j) → (i < j → j ≤ j → n ≤ m) → n ≤ m
      by n m (inl z) before within = omega arith
      by n m (inr above) before within = within (before above) (omega arith)

  -- one name stands at an index
  pub named_once : (at : ℕ) (name other : List ℕ) → DeclaresAt marks name at → DeclaresAt marks other at → other ≡ name
  named_once at name other h k = by (slice_get marks at) h k
    where
      by : (o : Option MarkTree) → IsSomeAnd o (DeclaresHere name) → IsSomeAnd o (DeclaresHere other) → other ≡ name
      by None h k = absurd h
      by (Some Opens) h k = absurd h
      by (Some Closes) h k = absurd h
      by (Some (Declares d)) h k = sym k ∙ h
      by (Some (Uses n)) h k = absurd h

  -- and one function is defined at it
  pub defined_once : (at : ℕ) (name other : List ℕ) → HasBodyAt marks name at → HasBodyAt marks other at → other ≡ name
  defined_once at name other h k = by (slice_get marks at) h k
    where
      by : (o : Option MarkTree) → IsSomeAnd o (DefinesHere name) → IsSomeAnd o (DefinesHere other) → other ≡ name
      by None h k = absurd h
      by (Some Opens) h k = absurd h
      by (Some Closes) h k = absurd h
      by (Some (Declares (Variable v))) h k = absurd h
      by (Some (Declares (Header f))) h k = sym k.0 ∙ h.0
      by (Some (Uses n)) h k = absurd h

-- ---- what a reader shows

pub innermost_at : (reader : Reader) (at : ℕ) → IsAt reader at → (name : List ℕ) → MatchOption (shown reader.visible name) (IsHidden (marks_of reader) name at) (IsInnermost (marks_of reader) name at)
innermost_at reader at known name = by (shown reader.visible name) (best (DeclaresAt marks) (depth marks) (λ i. IsVisible marks i at) known.file (shown reader.visible) reader.locals.items known.holds known.first (visible_file marks at) name)
  where
    marks : List MarkTree
    marks = marks_of reader

    by : (o : Option ℕ) → MatchOption o (IsNone (DeclaresAt marks) (depth marks) (λ i. IsVisible marks i at) name) (IsBest (DeclaresAt marks) (depth marks) (λ i. IsVisible marks i at) name)
        → MatchOption o (IsHidden (marks_of reader) name at) (IsInnermost (marks_of reader) name at)
    by None none = none
    by (Some i) b = record { declares = b.0; visible = b.1; innermost = b.2 }

-- what a name shows is an index of a mark
pub shown_within : (reader : Reader) (at : ℕ) → IsAt reader at → (name : List ℕ) (o : ℕ) → shown reader.visible name ≡ Some o → o < length (marks_of reader)
shown_within reader at known name o e =
    let i : IsInnermost (marks_of reader) name at o = subst (λ x. MatchOption x (IsHidden (marks_of reader) name at) (IsInnermost (marks_of reader) name at)) e (innermost_at reader at known name) in
    at_within (DeclaresHere name) (marks_of reader) o i.declares

-- equal depths, as the table has them
pub same_scope : (marks : List MarkTree) (depths : List ℕ) → AreDepths marks depths → (o at : ℕ) → o < length marks → at < length marks → slice_index depths o ≡ slice_index depths at → depth marks o ≡ depth marks at
same_scope marks depths are o at within here e = sym (are.each o (omega arith)) ∙ (e ∙ are.each at (omega arith))

pub other_scope : (marks : List MarkTree) (depths : List ℕ) → AreDepths marks depths → (o at : ℕ) → o < length marks → at < length marks → slice_index depths o ≢ slice_index depths at → depth marks o ≢ depth marks at
other_scope marks depths are o at within here n e = n (are.each o (omega arith) ∙ (e ∙ sym (are.each at (omega arith))))

-- what is read from a list of numbers
pub read_at : (xs : List ℕ) (k x : ℕ) → k < length xs → x ≡ get_or xs k x → x ≡ slice_index xs k
read_at xs k x within e = e ∙ grind (arith, common_steps)

-- a mark of another kind declares nothing
pub not_declared : (m : Mark) → ((d : Declaration) → m ≡ c.Declares d → ⊥) → (name : List ℕ) → ¬ DeclaresHere name (mark_of m)
not_declared c.Opens other name p = p
not_declared c.Closes other name p = p
not_declared (c.Declares d) other name p = other d refl
not_declared (c.Uses n) other name p = p

-- ---- past a mark, and at the next

module _ (marks : List MarkTree) (at : ℕ) where
  abbrev pub Here : ℕ → Type 0
  Here i = IsVisible marks i at

  abbrev pub Past : ℕ → Type 0
  Past i = IsVisible marks i at ⊎ (i ≡ at)

  abbrev pub Reached : ℕ → Type 0
  Reached i = Past i × (depth marks i ≤ depth marks (at + 1))

  abbrev pub Next : ℕ → Type 0
  Next i = IsVisible marks i (at + 1)

  module _ (file table : List ℕ → Option ℕ) (ls : List Local) where
    -- nothing is declared in an inner scope
    pub past_other : ((name : List ℕ) → DeclaresAt marks name at → ¬ (0 < depth marks at)) → Holds (DeclaresAt marks) (depth marks) Here Here file table ls → Holds (DeclaresAt marks) (depth marks) Past Past file table ls
    past_other none h = record {
      shows = h.shows;
      hides = h.hides;
      sound = Each-map (IsLocal (DeclaresAt marks) (depth marks) Here) (IsLocal (DeclaresAt marks) (depth marks) Past) (λ l local. (local.0, inl local.1, local.2)) ls h.sound;
      nest = h.nest;
      complete = λ name i n past above. elim past [ inl v ↦ h.complete name i n v above | inr e ↦ absurd (none name (subst (DeclaresAt marks name) e n) (subst (λ k. 0 < depth marks k) e above)) ];
    }

    -- a name that its scope declares already
    pub past_again : ((name : List ℕ) → IsOfFile marks name (file name)) → (name : List ℕ) → DeclaresAt marks name at → (o : ℕ) → table name ≡ Some o → depth marks o ≡ depth marks at
        → (table' : List ℕ → Option ℕ) → ((other : List ℕ) → table' other ≡ table other)
        → Holds (DeclaresAt marks) (depth marks) Here Here file table ls → Holds (DeclaresAt marks) (depth marks) Past Past file table' ls
    past_again first name here o shown same table' kept h =
        let past = Holds-again (DeclaresAt marks) (depth marks) file Here at name here (λ other k. named_once marks at name other here k) table ls first o shown same (λ i v above. v.before above) h in
        record { shows = λ other. kept other ∙ past.shows other; hides = past.hides; sound = past.sound; nest = past.nest; complete = past.complete }

    -- a name that it has not declared yet
    pub past_new : ((name : List ℕ) → IsOfFile marks name (file name)) → (name : List ℕ) → DeclaresAt marks name at → (table' : List ℕ → Option ℕ) (x : Local) → x.name.now ≡ name → x.mark ≡ at → x.hides ≡ table name
        → ((o : ℕ) → table name ≡ Some o → depth marks o ≢ depth marks at) → table' name ≡ Some at → ((other : List ℕ) → other ≢ name → table' other ≡ table other)
        → Holds (DeclaresAt marks) (depth marks) Here Here file table ls → Holds (DeclaresAt marks) (depth marks) Past Past file table' (ls ++ x ∷ [])
    past_new first name here table' x spelled marked hides new same others h =
        Holds-new (DeclaresAt marks) (depth marks) file Here at name here (λ other k. named_once marks at name other here k) table ls first table' x spelled marked hides new same others (visible_file marks at) (visible_depth marks at) h

  module _ (file : List ℕ → Option ℕ) (depths : List ℕ) (are : AreDepths marks depths) (among all : ℕ → Type 0) where
    -- the marks of local declarations have depths
    pub marked : (ls : List Local) → Each (IsLocal (DeclaresAt marks) (depth marks) among) ls → Each (λ l. l.mark < length depths) ls
    marked ls sound = Each-map (IsLocal (DeclaresAt marks) (depth marks) among) (λ l. l.mark < length depths)
        (λ l local. let w = at_within (DeclaresHere l.name.now) marks l.mark local.0 in let n = are.size in omega (arith, w, n)) ls sound

    level : (ls : List Local) (l : Local) → Each (IsLocal (DeclaresAt marks) (depth marks) among) (ls ++ l ∷ []) → slice_index depths l.mark ≡ depth marks l.mark
    level ls l sound =
        let local = Each-last (IsLocal (DeclaresAt marks) (depth marks) among) ls l sound in
        let w = at_within (DeclaresHere l.name.now) marks l.mark local.0 in
        are.each l.mark (omega (arith, w))

    -- one that is too deep is left
    pub popped : (limit : ℕ) → ((i : ℕ) → all i → depth marks i ≤ limit) → (table table' : List ℕ → Option ℕ) (ls : List Local) (l : Local) → limit < slice_index depths l.mark
        → table' l.name.now ≡ l.hides → ((other : List ℕ) → other ≢ l.name.now → table' other ≡ table other)
        → Holds (DeclaresAt marks) (depth marks) among all file table (ls ++ l ∷ []) → Holds (DeclaresAt marks) (depth marks) among all file table' ls
    popped limit within table table' ls l deep same others h =
        Holds-pop (DeclaresAt marks) (depth marks) file among all limit table table' ls l within
        (subst (λ n. limit < n) (level ls l h.sound) deep) same others h

    -- and then none is
    pub left : (limit : ℕ) (table : List ℕ → Option ℕ) (ls : List Local) → ((front : List Local) (l : Local) → ls ≡ front ++ l ∷ [] → slice_index depths l.mark ≤ limit)
        → Holds (DeclaresAt marks) (depth marks) among all file table ls → Holds (DeclaresAt marks) (depth marks) (λ i. among i × (depth marks i ≤ limit)) all file table ls
    left limit table ls last h =
        Holds-left (DeclaresAt marks) (depth marks) file among all limit table ls
        (λ front l e. subst (λ n. n ≤ limit) (level front l (subst (Each (IsLocal (DeclaresAt marks) (depth marks) among)) e h.sound)) (last front l e)) h

  -- what is reached is visible at the next mark
  pub next_at : (file table : List ℕ → Option ℕ) (ls : List Local) → Holds (DeclaresAt marks) (depth marks) Reached Reached file table ls → Holds (DeclaresAt marks) (depth marks) Next Next file table ls
  next_at file table ls h = Holds-weaker (DeclaresAt marks) (depth marks) file Reached Reached Next Next table ls (λ i r. visible_on marks i at r) (λ i v. visible_next marks i at v) h

  pub narrower : (file table : List ℕ → Option ℕ) (ls : List Local) → Holds (DeclaresAt marks) (depth marks) Past Past file table ls → Holds (DeclaresAt marks) (depth marks) Past Reached file table ls
  narrower file table ls h = Holds-weaker (DeclaresAt marks) (depth marks) file Past Past Past Reached table ls (λ i p. p) (λ i r. r.0) h

-- before the first mark
pub at_start : (marks : List MarkTree) (file : List ℕ → Option ℕ) → Holds (DeclaresAt marks) (depth marks) (λ i. IsVisible marks i 0) (λ i. IsVisible marks i 0) file file []
at_start marks file = record {
  shows = λ name. refl;
  hides = tt;
  sound = tt;
  nest = tt;
  complete = λ name i n v above. absurd (let b : i < 0 = v.before above in omega arith);
}
