-- The steps of a round that change the tree, one node after the other.
use Rattle.std.proofs.Common.{◌≡◌, ◌≢◌, inr, ⊎_elim, ℕ, zero, suc, ◌+◌, ◌<◌, ◌≤◌, ◌==◌, ◌&&◌, ◌||◌, nat_lt, min, Bool, true, false, not, true≢false, List, [], ◌∷◌, ◌++◌, length, slice_get, Option, Some, None, is_some, refl, sym, ap, ◌∙◌, subst, subst₂, arith, if◌then◌else◌}
use Rattle.std.specs.Prelude.{option_map}
use Rattle.std.proofs.lemmas.Bool.{cases_Bool, cases_eq, cases_lt, eqb-true, eq-eqb, ne_eqb, lt-ltb, le-ltb}
use Rattle.fk_meaning_operation.specs.declared.operation.Operation.{Operation}
use Rattle.fk_meaning_operation.specs.declared.operation.Operation.TheVariants as o
use Rattle.fk_meaning_operation.specs.declared.operation.SplitKind.{SplitKind}
use Rattle.fk_meaning_operation.specs.declared.operation.SplitKind.TheVariants as split_by
use Rattle.fk_tree.specs.declared.node.Kind.{Kind}
use Rattle.fk_tree.specs.declared.node.Kind.TheVariants.{Lockstep, Waiting, Asynchronous}
use Rattle.fk_tree.specs.Tree as t
use Rattle.fk_tree.specs.Tree.{Tree, members, members_of, parent, kind, is_member, first_part, kind_after}
use Rattle.fk_tree.specs.Sound.{Has, awaits}
use Rattle.fk_tree.proofs.Shapes.{has_some, some-given}
use Rattle.fk_tree.proofs.Turns.{IsLeaf, idle-lockstep, idle-asynchronous, idle-after, free-asynchronous, free-after}
use Rattle.fk_tree.proofs.SplitSound.{CanSplit}
use Rattle.fk_tree.proofs.ShrinkSound.{CanShrink}
use Rattle.fk_tree.proofs.Begins.{length-root, split_same}
use Rattle.fk_meaning.specs.Processor.{Processor, Setting, values, last, before}
use Rattle.fk_meaning.specs.Group.{not_negative, parts, part, if_below, enters, divided, stays, does, goes_onward, changes}
use Rattle.fk_meaning_operation.specs.declared.kinds.Class.TheVariants as class
use Rattle.fk_meaning.specs.Round.{Step, Runner, State, Round, Acting, lowest, agreed, who, change_by, all_changes, is_possible}
use Rattle.fk_meaning.specs.Behind.{tail}
use Rattle.fk_lockstep.specs.Untouched.{changes_tree}
use Rattle.fk_lockstep.specs.Counts.{Counts, ArePending, AsMany, NoMore, Leaves, CountsGoOn, IsCounted}
use Rattle.fk_lockstep.specs.Course.{InGroup, Waits, ByItself, after_waiting, Parts, Does, FollowsFor, Follows}
use Rattle.fk_lockstep.proofs.Acting.{untrue, Here, Out, told, lefts, bare, lefts_bare, Ends, HasValue, Is, AtNode, without, within, is_changing, Grouped, Parted, Loner, ahead_of, Apart, does_so, counts_so, counts_on, going_on}
use Rattle.fk_lockstep.proofs.Untouched.{step_of_none}
use Rattle.fk_lockstep.proofs.Nodes.{Frame, kind_frame, shrink_frame, split_frame}
use Rattle.fk_lockstep.proofs.Trees.{NodeIs, IsThere, ThereAt, inv_same, turned_here, turned_inv, shrunk_here, shrunk_inv, parted_here, parted_behind, parted_inv}
use Rattle.fk_lockstep.proofs.Round.{all_keep, first_is, some_at, who_is, lowest_member, actings as actings_of, settle as settle_of, new as new_of, has_at, quiet as quiet_of, now_has as now_has_of, now_here, now_inv, Sound, Ordered, Moving, all_move, number_at, acting_length}

-- splits other than `fork`
one_of_one : (b : Bool) (j : ℕ) → (if b then None else Some 0) ≡ Some j → j < 1
one_of_one true j e = absurd (cc)
one_of_one false j e = let same = first_is 0 j e in omega (arith, same)

pub one_of_none : (b : Bool) (j : ℕ) → (if b then Some 0 else None) ≡ Some j → j < 1
one_of_none true j e = let same = first_is 0 j e in omega (arith, same)
one_of_none false j e = absurd (cc)

one_of_two : (b : Bool) (j : ℕ) → (if b then Some 1 else Some 0) ≡ Some j → j < 2
one_of_two true j e = let same = first_is 1 j e in omega (arith, same)
one_of_two false j e = let same = first_is 0 j e in omega (arith, same)

below_of : (i k j : ℕ) → if_below i k ≡ Some j → j < k
below_of i k j e =
    ⊎_elim
    (λ lt. let same : i ≡ j = first_is i j (sym (cond_yes (nat_lt i k) (lt-ltb i k lt)) ∙ e) in omega (arith, lt, same))
    (λ le. absurd (cond_no (nat_lt i k) (le-ltb i k le) e))
    (cases_lt i k)
  where
    cond_yes : (b : Bool) → b ≡ true → (if b then Some i else None) ≡ Some i
    cond_yes true e' = refl
    cond_yes false e' = untrue e'

    cond_no : (b : Bool) → b ≡ false → (if b then Some i else None) ≡ Some j → ⊥
    cond_no true e' f = true≢false e'
    cond_no false e' f = cc

-- where two have as many parts, one of them enters one of those of the other
pub few : (by : SplitKind) (vs vs' : List ℕ) (j : ℕ) → parts by vs ≡ parts by vs' → part by vs ≡ Some j → j < parts by vs'
few split_by.Fork vs vs' j same e = subst (λ (k : ℕ). j < k) same (below_of (last (before 1 vs)) (parts split_by.Fork vs) j e)
few split_by.IfElse vs vs' j same e = one_of_two (last vs == 0) j e
few split_by.IfAlone vs vs' j same e = one_of_one (last vs == 0) j e
few split_by.AndThen vs vs' j same e = one_of_one (last vs == 0) j e
few split_by.OrElse vs vs' j same e = one_of_none (last vs == 0) j e
few split_by.Loop vs vs' j same e = let is = first_is 0 j e in omega (arith, is)

-- a choice of parts that leaves out what is no part
abbrev cut : (k : ℕ) → Option ℕ → Option ℕ
cut k None = None
cut k (Some j) = if_below j k

cut_few : (k : ℕ) (o' : Option ℕ) (j : ℕ) → cut k o' ≡ Some j → j < k
cut_few k None j e = absurd (cc)
cut_few k (Some j') j e = below_of j' k j e

cut_same : (k : ℕ) (o' : Option ℕ) → ((j : ℕ) → o' ≡ Some j → j < k) → cut k o' ≡ o'
cut_same k None below = refl
cut_same k (Some j) below = by (nat_lt j k) (lt-ltb j k (below j refl))
  where
    by : (b : Bool) → b ≡ true → (if b then Some j else None) ≡ Some j
    by true e = refl
    by false e = untrue e

-- lists of numbers
no_more : (more ns ms : List ℕ) → ns ≡ more ++ ms → length ns ≡ length ms → ns ≡ ms
no_more [] ns ms e size = e
no_more (m ∷ more) ns ms e size = let longer = longer_by more ms in let whole = ap length e in absurd (omega (arith, longer, whole, size))
  where
    longer_by : (xs ys : List ℕ) → length ys ≤ length (xs ++ ys)
    longer_by [] ys = omega arith
    longer_by (x' ∷ xs) ys = let rest = longer_by xs ys in omega (arith, rest)

pub no_length : (ns : List ℕ) → length ns ≡ 0 → ns ≡ []
no_length [] e = refl
no_length (n ∷ ns) e = absurd (omega (arith, e))

pub ends_none : {W : Type 0} (ws : List W) → Ends (bare ws) []
ends_none [] = tt
ends_none (w ∷ ws) = ([], refl)

never_none : {A : Type 0} (b : Bool) → ◌≡◌ {A = Option ℕ} (if b then Some 1 else Some 0) None → A
never_none true e = absurd (cc)
never_none false e = absurd (cc)

pub lt_suc : (l i : ℕ) → l ≢ i → nat_lt l (suc i) ≡ nat_lt l i
lt_suc l i ne =
    ⊎_elim
    (λ lt. let more : l < suc i = omega arith in lt-ltb l (suc i) more ∙ sym (lt-ltb l i lt))
    (λ le. let more : suc i ≤ l = omega (arith, le, ne) in le-ltb l (suc i) more ∙ sym (le-ltb l i le))
    (cases_lt l i)

module _ {W : Type 0} (next : W → Option (Step W)) (outs : W → List W) (counts : Counts W) where
  abbrev Pends : W → Processor → List ℕ → Type 0
  Pends w p ns = ArePending next outs counts w p ns

  -- what is pending behind a split
  pub record Dividing (by : SplitKind) (here : W) (rest : Bool → W) (waiter : W) (b : List (Out W)) (ns : List ℕ) : Type 0 where
    pub behind : List ℕ
    pub after : (size : ℕ) (o' : Option ℕ) (q : Processor) → Pends here q ns → Pends (rest (enters by o')) (divided by size q o') behind
    pub many : length behind ≡ counts.pending waiter
    pub ends : Ends b behind
    pub same_parts : (q r : Processor) → Pends here q ns → Pends here r ns → parts by (values q) ≡ parts by (values r)

  abbrev FirstMany : List (Out W) → Type 0
  FirstMany [] = Unit {0}
  FirstMany (y ∷ ys) = length y.numbers ≡ counts.pending y.left

  pub record Parting (by : SplitKind) (here : W) (rest : Bool → W) : Type 0 where
    pub waiter : W
    pub waiter_outs : outs waiter ≡ outs here
    pub waits : Follows next outs (Waits true) waiter
    pub outs_in : (j : ℕ) → outs (rest (enters by (Some j))) ≡ waiter ∷ outs here
    pub follows_in : (j : ℕ) → Follows next outs (InGroup false) (rest (enters by (Some j)))
    pub aside : (vs : List ℕ) → part by vs ≡ None → rest (enters by None) ≡ waiter
    pub divides : (b : List (Out W)) (ns : List ℕ) (q : Processor) → outs here ≡ lefts b → Pends here q ns → FirstMany b → Ends b ns → Dividing by here rest waiter b ns

  forking : (here : W) (rest : Bool → W) (w : W) → rest false ≡ w → CountsGoOn next outs counts (o.Split split_by.Fork) here rest
      → (b : List (Out W)) (ns : List ℕ) (q : Processor) → outs here ≡ lefts b → Pends here q ns → FirstMany b → Ends b ns → Dividing split_by.Fork here rest w b ns
  forking here rest w is c b ns q outs_are pends first ends =
      let aside_taken = c.0 0 None q ns pends in
      let in_taken = c.0 0 (Some 0) q ns pends in
      let in_size : length ns ≡ suc (length in_taken.0) = ap length in_taken.1 in
      let in_many : length in_taken.0 ≡ counts.pending (rest true) = counts.many (rest true) (divided split_by.Fork 0 q (Some 0)) in_taken.0 in_taken.2 in
      record {
        behind = tail ns;
        after = λ size o' r e. let taken = c.0 size o' r ns e in
            subst (Pends (rest (enters split_by.Fork o')) (divided split_by.Fork size r o')) (sym (ap tail taken.1)) taken.2;
        many = ap length (ap tail aside_taken.1) ∙ counts.many (rest false) (divided split_by.Fork 0 q None) aside_taken.0 aside_taken.2 ∙ ap counts.pending is;
        ends = by b (subst (NoMore next outs counts (counts.pending (rest true))) outs_are c.1) first ends (in_size ∙ ap (λ (k : ℕ). suc k) in_many);
        same_parts = λ r u e f. ap not_negative (ap head (sym (c.0 0 None r ns e).1 ∙ (c.0 0 None u ns f).1));
      }
    where
      head : List ℕ → ℕ
      head [] = 0
      head (v ∷ vs) = v

      by : (b' : List (Out W)) → NoMore next outs counts (counts.pending (rest true)) (lefts b') → FirstMany b' → Ends b' ns
          → length ns ≡ suc (counts.pending (rest true)) → Ends b' (tail ns)
      by [] less first' ends' in_many = tt
      by (y ∷ ys) less first' ends' in_many = by_more ends'.0 ends'.1
        where
          by_more : (more : List ℕ) → ns ≡ more ++ y.numbers → Ends (y ∷ ys) (tail ns)
          by_more [] e = let size = ap length e in absurd (omega (arith, size, first', less, in_many))
          by_more (m ∷ more) e = (more, ap tail e)

  parting : (by : SplitKind) (here : W) (rest : Bool → W) (os : List W) → outs (rest true) ≡ os → ((n : ℕ) → Parts next outs (FollowsFor next outs n) by here rest os)
      → CountsGoOn next outs counts (o.Split by) here rest → Parting by here rest
  parting by here rest [] e h c = absurd (h 0)
  parting split_by.Fork here rest (w ∷ ws) e h c = record {
    waiter = w;
    waiter_outs = (h 0).1;
    waits = λ n. (h n).2;
    outs_in = λ j. e ∙ ap (λ (bs : List W). w ∷ bs) (h 0).0;
    follows_in = λ j n. (h n).3;
    aside = λ vs none. (h 0).4;
    divides = forking here rest w (h 0).4 c;
  }
  parting split_by.IfElse here rest (w ∷ ws) e h c = record {
    waiter = w;
    waiter_outs = (h 0).1;
    waits = λ n. (h n).2;
    outs_in = λ j. first_outs (j == 0);
    follows_in = λ j. first_follows (j == 0);
    aside = λ vs none. never_none (last vs == 0) none;
    divides = λ b ns q outs_are pends first ends. record {
      behind = ns;
      after = λ size o' r is. c.0 size o' r ns is;
      many = counts.many here q ns pends ∙ sym (as_many (outs (rest true)) e c.1);
      ends = ends;
      same_parts = λ q r is is'. refl;
    };
  }
    where
      first_outs : (b : Bool) → outs (rest b) ≡ w ∷ outs here
      first_outs true = e ∙ ap (λ (bs : List W). w ∷ bs) (h 0).0
      first_outs false = (h 0).5 ∙ ap (λ (bs : List W). w ∷ bs) (h 0).0

      first_follows : (b : Bool) → Follows next outs (InGroup false) (rest b)
      first_follows true = λ n. (h n).3
      first_follows false = λ n. (h n).4

      as_many : (os : List W) → os ≡ w ∷ ws → AsMany next outs counts (counts.pending here) os → counts.pending w ≡ counts.pending here
      as_many os is a = subst (AsMany next outs counts (counts.pending here)) is a
  parting by here rest (w ∷ ws) e h c = record {
    waiter = w;
    waiter_outs = (h 0).1;
    waits = λ n. (h n).2;
    outs_in = λ j. e ∙ ap (λ (bs : List W). w ∷ bs) (h 0).0;
    follows_in = λ j n. (h n).3;
    aside = λ vs none. (h 0).4;
    divides = λ b ns q outs_are pends first ends. record {
      behind = ns;
      after = λ size o' r is. c.0 size o' r ns is;
      many = counts.many (rest false) (divided by 0 q None) ns (c.0 0 None q ns pends) ∙ ap counts.pending (h 0).4;
      ends = ends;
      same_parts = λ q r is is'. refl;
    };
  }

within_some : (n : ℕ) → n ≢ 0 → within n ≡ true
within_some zero ne = absurd (ne refl)
within_some (suc n) ne = refl

pub first_same : (h len a : ℕ) → h < len → nat_lt h (min a len) ≡ nat_lt h a
first_same h len a lt =
    ⊎_elim
    (λ below. let both : h < min a len = omega (arith, below, lt) in lt-ltb h (min a len) both ∙ sym (lt-ltb h a below))
    (λ above. let both : min a len ≤ h = omega (arith, above) in le-ltb h (min a len) both ∙ sym (le-ltb h a above))
    (cases_lt h a)

module _ {W : Type 0} (next : W → Option (Step W)) (outs : W → List W) (counts : Counts W) (set : Setting) (round : Round) (s : State W) (p : ℕ) (here0 : ℕ → Here W) (behind0 : ℕ → List (Out W))
    (inv0 : Sound next outs counts set round s p s.tree (has_at next outs counts set round s) here0 behind0) (ordered : Ordered next outs counts set round s p) (possible : is_possible next set round s ≡ true) where
  abbrev actings : List (Acting W)
  actings = actings_of next outs counts set round s

  abbrev settle : Runner W → Option (Step W) → Runner W
  settle r due = settle_of next outs counts set round s r due

  abbrev Held : (tree : Tree) (has : ℕ → Option (Runner W)) (here : ℕ → Here W) (behind : ℕ → List (Out W)) → Type 0
  Held tree has here behind = Sound next outs counts set round s p tree has here behind

  abbrev Moves : (g : ℕ) (op : Operation) (n : ℕ) → Type 0
  Moves g op n = Moving next outs counts set round s p here0 behind0 inv0 ordered possible g op n

  abbrev pub low : ℕ → ℕ
  low h = lowest (members s.tree (s.tree.places h))

  -- whose node has been changed has gone on, as who changes nothing
  abbrev pub mid : (gone : Bool) → Acting W → Runner W
  mid gone b = if is_changing b.due && not gone then b.runner else settle b.runner b.due

  abbrev pub mids : ℕ → ℕ → Option (Runner W)
  mids i h = option_map (mid (nat_lt (low h) i)) (slice_get actings h)

  pub record Stage (i : ℕ) (tree : Tree) : Type 0 where
    pub here : ℕ → Here W
    pub behind : ℕ → List (Out W)
    pub inv : Held tree (mids i) here behind
    pub given : s.tree.given ≤ tree.given
    pub nodes : (n : ℕ) → n < s.tree.given → i ≤ lowest (members s.tree n) → tree.nodes n ≡ s.tree.nodes n
    pub places : (h : ℕ) → h < p → i ≤ low h → tree.places h ≡ s.tree.places h

  same_mid : (b : Acting W) (gone gone' : Bool) → is_changing b.due ≡ false → mid gone b ≡ mid gone' b
  same_mid b gone gone' e =
      ap (λ (c : Bool). if c && not gone then b.runner else settle b.runner b.due) e
      ∙ sym (ap (λ (c : Bool). if c && not gone' then b.runner else settle b.runner b.due) e)

  pub at_mid : (h : ℕ) (b : Acting W) (gone : Bool) → slice_get actings h ≡ Some b → option_map (mid gone) (slice_get actings h) ≡ Some (mid gone b)
  at_mid h b gone at = ap (option_map (mid gone)) at

  pub there : (h : ℕ) → h < p → (b : Acting W) × (slice_get actings h ≡ Some b)
  there h lt =
      let many = acting_length next outs counts set round s p here0 behind0 inv0 ordered possible in
      some_at actings h (omega (arith, many))

  -- before the first change, those who bring one have not gone on
  pub first_mid : (h : ℕ) → h < p → mids 0 h ≡ now_has_of next outs counts set round s p here0 behind0 inv0 ordered possible h
  first_mid h lt =
      let b = there h lt in
      at_mid h b.0 (nat_lt (low h) 0) b.1
      ∙ ap (λ (r : Runner W). Some r) (quiet_is b.0 (nat_lt (low h) 0) (le-ltb (low h) 0 (omega arith)) (is_changing b.0.due))
      ∙ sym (ap (option_map (quiet_of next outs counts set round s p here0 behind0 inv0 ordered possible)) b.1)
    where
      quiet_is : (b : Acting W) (gone : Bool) → gone ≡ false → (c : Bool) → (if c && not gone then b.runner else settle b.runner b.due) ≡ (if c then b.runner else settle b.runner b.due)
      quiet_is b gone e true = ap (λ (g : Bool). if not g then b.runner else settle b.runner b.due) e
      quiet_is b gone e false = refl

  pub first_stage : Stage 0 s.tree
  first_stage = record {
    here = now_here next outs counts set round s p here0 behind0 inv0 ordered possible;
    behind = behind0;
    inv = inv_same (told {W = W}) (Grouped next outs counts) (Parted next outs counts) (Apart next outs counts) (Is next outs counts) p s.tree
        (now_has_of next outs counts set round s p here0 behind0 inv0 ordered possible) (mids 0)
        (now_here next outs counts set round s p here0 behind0 inv0 ordered possible) behind0 first_mid
        (now_inv next outs counts set round s p here0 behind0 inv0 ordered possible);
    given = omega arith;
    nodes = λ n lt le. refl;
    places = λ h lt le. refl;
  }

  -- nobody at a node whose lowest member is i changes it
  module _ (i : ℕ) (a : Acting W) (at : slice_get actings i ≡ Some a) (quiet : is_changing a.due ≡ true → lowest (members s.tree (s.tree.places i)) ≢ i) where
    abbrev due_changes : Acting W → Bool
    due_changes b = is_changing b.due

    pub clash : {A : Type 0} (h : ℕ) → h < p → (b : Acting W) → slice_get actings h ≡ Some b → low h ≡ i → (due : Option (Step W)) → b.due ≡ due → is_changing due ≡ true → A
    clash h lt b at_h low_h None e changing = untrue changing
    clash h lt b at_h low_h (Some step) e changing =
        let n = s.tree.places h in
        let in_low = lowest_member h (members s.tree n) (inv0.sound.placed h lt).member in
        let m = all_move next outs counts set round s p here0 behind0 inv0 ordered possible h lt b at_h step e changing (low h) in_low in
        let same : m.acting ≡ a = first_is m.acting a (sym m.at ∙ ap (slice_get actings) low_h ∙ at) in
        let changing' : is_changing a.due ≡ true = ap due_changes (sym same) ∙ ap is_changing m.due ∙ ap changes_tree m.same ∙ changing in
        let place : s.tree.places i ≡ n = ap s.tree.places (sym low_h) ∙ m.place in
        absurd (quiet changing' (ap (λ (k : ℕ). lowest (members s.tree k)) place ∙ low_h))

    pub still : (h : ℕ) → h < p → mids (suc i) h ≡ mids i h
    still h lt =
        let b = there h lt in
        ⊎_elim
        (λ same. ⊎_elim
        (λ changing. clash h lt b.0 b.1 same b.0.due refl changing)
        (λ not_so. at_mid h b.0 (nat_lt (low h) (suc i)) b.1 ∙ ap (λ (r : Runner W). Some r) (same_mid b.0 (nat_lt (low h) (suc i)) (nat_lt (low h) i) not_so) ∙ sym (at_mid h b.0 (nat_lt (low h) i) b.1))
        (cases_Bool (is_changing b.0.due)))
        (λ ne. ap (λ (gone : Bool). option_map (mid gone) (slice_get actings h)) (lt_suc (low h) i ne))
        (cases_eq (low h) i)

    pub same_stage : (tree : Tree) → Stage i tree → Stage (suc i) tree
    same_stage tree st = record {
      here = st.here;
      behind = st.behind;
      inv = inv_same (told {W = W}) (Grouped next outs counts) (Parted next outs counts) (Apart next outs counts) (Is next outs counts) p tree (mids i) (mids (suc i)) st.here st.behind still st.inv;
      given = st.given;
      nodes = λ n lt le. st.nodes n lt (omega arith);
      places = λ h lt le. st.places h lt (omega arith);
    }

  -- the lowest member of a node brings a change of it
  module _ (i : ℕ) (lt : i < p) (a : Acting W) (at : slice_get actings i ≡ Some a) (step : Step W) (due : a.due ≡ Some step) (changing : changes_tree step.operation ≡ true)
      (n : ℕ) (place : s.tree.places i ≡ n) (is_low : lowest (members s.tree n) ≡ i) (tree : Tree) (st : Stage i tree) where
    abbrev op : Operation
    op = step.operation

    abbrev value : ℕ
    value = agreed actings (members s.tree n)

    pub moves : (g : ℕ) → Has s.tree n g → Moves g op n
    moves g in_g =
        subst (λ (m : ℕ). Moves g op m) place
        (all_move next outs counts set round s p here0 behind0 inv0 ordered possible i lt a at step due changing g (subst (λ (m : ℕ). Has s.tree m g) (sym place) in_g))

    pub in_i : Has s.tree n i
    in_i = subst (λ (m : ℕ). Has s.tree m i) place (inv0.sound.placed i lt).member

    pub n_given : n < s.tree.given
    n_given = some-given p s.tree inv0.sound n (has_some s.tree n i in_i)

    pub nodes_n : tree.nodes n ≡ s.tree.nodes n
    nodes_n = st.nodes n n_given (omega (arith, is_low))

    pub had : (h : ℕ) → Has tree n h → Has s.tree n h
    had h is = subst (λ (ms : List ℕ). is_member h ms ≡ true) (ap members_of nodes_n) is

    pub has : (h : ℕ) → Has s.tree n h → Has tree n h
    has h is = subst (λ (ms : List ℕ). is_member h ms ≡ true) (sym (ap members_of nodes_n)) is

    pub low_of : (h : ℕ) → Has s.tree n h → low h ≡ i
    low_of h is = ap (λ (m : ℕ). lowest (members s.tree m)) (moves h is).place ∙ is_low

    pub place_of : (h : ℕ) → Has s.tree n h → tree.places h ≡ n
    place_of h is = let e = low_of h is in st.places h (inv0.sound.within n h is) (omega (arith, e)) ∙ (moves h is).place

    some_member : (ms : List ℕ) → ms ≢ [] → (h : ℕ) × (is_member h ms ≡ true)
    some_member [] ne = absurd (ne refl)
    some_member (h ∷ ms) ne = (h, ap (λ (c : Bool). c || is_member h ms) (eq-eqb h h refl))

    pub leaf : IsLeaf tree n
    leaf m ne some up =
        let found = some_member (members tree m) (λ empty. some (st.inv.sound.living m empty)) in
        let h = found.0 in
        let in_n : Has tree n h = subst (λ (q : ℕ). Has tree q h) up (st.inv.sound.among m h ne found.1) in
        let lt' = st.inv.sound.within m h found.1 in
        (st.inv.sound.placed h lt').own m ne (up ∙ sym (place_of h (had h in_n))) found.1

    -- a member before and after
    pub record Moved (h : ℕ) (r' : Runner W) : Type 0 where
      pub before : Runner W
      pub was : mids i h ≡ Some before
      pub known : who actings h ≡ before.has
      pub number : before.has.number ≡ h
      pub step' : Step W
      pub stands : next before.left ≡ Some step'
      pub same : step'.operation ≡ op
      pub left : r'.left ≡ step'.rest (goes_onward op value i before.has)
      pub size : ℕ
      pub has : r'.has ≡ does op value size before.has

    pub moved : (h : ℕ) (r' : Runner W) → Has tree n h → mids (suc i) h ≡ Some r' → Moved h r'
    moved h r' is e =
        let m = moves h (had h is) in
        let b = m.acting in
        let e_low = low_of h (had h is) in
        let number = number_at next outs counts set round s p here0 behind0 inv0 ordered possible h b m.at in
        let not_gone : nat_lt (low h) i ≡ false = le-ltb (low h) i (omega (arith, e_low)) in
        let gone : nat_lt (low h) (suc i) ≡ true = lt-ltb (low h) (suc i) (omega (arith, e_low)) in
        let changes' : is_changing b.due ≡ true = ap is_changing m.due ∙ ap changes_tree m.same ∙ changing in
        let after : r' ≡ settle b.runner b.due
        = first_is r' (settle b.runner b.due) (sym e ∙ at_mid h b (nat_lt (low h) (suc i)) m.at
        ∙ ap (λ (r : Runner W). Some r) (past b (is_changing b.due) (nat_lt (low h) (suc i)) changes' gone)) in
        record {
          before = b.runner;
          was = at_mid h b (nat_lt (low h) i) m.at ∙ ap (λ (r : Runner W). Some r) (not_past b (is_changing b.due) (nat_lt (low h) i) changes' not_gone);
          known = who_is actings h b m.at;
          number = number;
          step' = m.step;
          stands = m.stands;
          same = m.same;
          left = ap (λ (r : Runner W). r.left) (after ∙ ap (settle b.runner) m.due)
              ∙ settled_left b.runner m.step (ap s.tree.places number ∙ m.place) m.same;
          size = length (members (new_of next outs counts set round s) ((new_of next outs counts set round s).places b.runner.has.number));
          has = ap (λ (r : Runner W). r.has) (after ∙ ap (settle b.runner) m.due)
              ∙ settled_has b.runner m.step (ap s.tree.places number ∙ m.place) m.same;
        }
      where
        past : (b : Acting W) (c g : Bool) → c ≡ true → g ≡ true → (if c && not g then b.runner else settle b.runner b.due) ≡ settle b.runner b.due
        past b c g e' e'' = subst₂ (λ (c' g' : Bool). (if c' && not g' then b.runner else settle b.runner b.due) ≡ settle b.runner b.due) (sym e') (sym e'') refl

        not_past : (b : Acting W) (c g : Bool) → c ≡ true → g ≡ false → (if c && not g then b.runner else settle b.runner b.due) ≡ b.runner
        not_past b c g e' e'' = subst₂ (λ (c' g' : Bool). (if c' && not g' then b.runner else settle b.runner b.due) ≡ b.runner) (sym e') (sym e'') refl

        settled_left : (r : Runner W) (u : Step W) → s.tree.places r.has.number ≡ n → u.operation ≡ op → (settle r (Some u)).left ≡ u.rest (goes_onward op value i r.has)
        settled_left r u place' same' =
            ap (λ (m : ℕ). u.rest (goes_onward u.operation (agreed actings (members s.tree m)) (lowest (members s.tree m)) r.has)) place'
            ∙ ap (λ (l : ℕ). u.rest (goes_onward u.operation value l r.has)) is_low
            ∙ ap (λ (op' : Operation). u.rest (goes_onward op' value i r.has)) same'

        settled_has : (r : Runner W) (u : Step W) → s.tree.places r.has.number ≡ n → u.operation ≡ op
            → (settle r (Some u)).has ≡ does op value (length (members (new_of next outs counts set round s) ((new_of next outs counts set round s).places r.has.number))) r.has
        settled_has r u place' same' =
            let size' = length (members (new_of next outs counts set round s) ((new_of next outs counts set round s).places r.has.number)) in
            ap (λ (m : ℕ). does u.operation (agreed actings (members s.tree m)) size' r.has) place'
            ∙ ap (λ (op' : Operation). does op' value size' r.has) same'

    pub others : (h : ℕ) → h < p → is_member h (members tree n) ≡ false → mids (suc i) h ≡ mids i h
    others h lt' out =
        let b = there h lt' in
        ⊎_elim
        (λ same. ⊎_elim
        (λ changes'. clashes b.0 b.1 same b.0.due refl changes')
        (λ not_so. at_mid h b.0 (nat_lt (low h) (suc i)) b.1 ∙ ap (λ (r : Runner W). Some r) (same_mid b.0 (nat_lt (low h) (suc i)) (nat_lt (low h) i) not_so) ∙ sym (at_mid h b.0 (nat_lt (low h) i) b.1))
        (cases_Bool (is_changing b.0.due)))
        (λ ne. ap (λ (gone : Bool). option_map (mid gone) (slice_get actings h)) (lt_suc (low h) i ne))
        (cases_eq (low h) i)
      where
        clashes : {A : Type 0} (b : Acting W) → slice_get actings h ≡ Some b → low h ≡ i → (due' : Option (Step W)) → b.due ≡ due' → is_changing due' ≡ true → A
        clashes b at_h low_h None e changes' = untrue changes'
        clashes b at_h low_h (Some step'') e changes' =
            let q = s.tree.places h in
            let in_q = (inv0.sound.placed h lt').member in
            let m = all_move next outs counts set round s p here0 behind0 inv0 ordered possible h lt' b at_h step'' e changes' (low h) (lowest_member h (members s.tree q) in_q) in
            let same : q ≡ n = sym m.place ∙ ap s.tree.places low_h ∙ place in
            absurd (true≢false (sym (has h (subst (λ (j : ℕ). Has s.tree j h) same in_q)) ∙ out))

    pub record Next (tree' : Tree) : Type 0 where
      pub here' : ℕ → Here W
      pub behind' : ℕ → List (Out W)
      pub inv' : Held tree' (mids (suc i)) here' behind'
      pub frame : Frame n tree tree'

    pub next_stage : (tree' : Tree) → Next tree' → Stage (suc i) tree'
    next_stage tree' x = record {
      here = x.here';
      behind = x.behind';
      inv = x.inv';
      given = let more = x.frame.given in let before = st.given in omega (arith, more, before);
      nodes = λ q lt' le.
          let other : q ≢ n = λ e. let same : lowest (members s.tree q) ≡ i = ap (λ (j : ℕ). lowest (members s.tree j)) e ∙ is_low in absurd (omega (arith, le, same)) in
          let before = st.given in
          x.frame.nodes q (omega (arith, lt', before)) other ∙ st.nodes q lt' (omega (arith, le));
      places = λ h lt' le.
          let out : is_member h (members tree n) ≡ false
          = ⊎_elim (λ is. let e = low_of h (had h is) in absurd (omega (arith, le, e))) (λ isnt. isnt) (cases_Bool (is_member h (members tree n))) in
          x.frame.places h out ∙ st.places h lt' (omega (arith, le));
    }

    abbrev x : Here W
    x = st.here n

    abbrev b : List (Out W)
    b = st.behind n

    abbrev IsAtKind : Option Kind → Runner W → Type 0
    IsAtKind k r = IsThere (told {W = W}) (Grouped next outs counts) (Parted next outs counts) (Apart next outs counts) (Is next outs counts) p n k b x r

    abbrev NodeKind : Option Kind → Type 0
    NodeKind k = NodeIs (told {W = W}) (Grouped next outs counts) (Parted next outs counts) (Apart next outs counts) (Is next outs counts) p n k b x

    is_there : (k : Option Kind) → kind tree n ≡ k → (h : ℕ) → Has tree n h → (r : Runner W) → mids i h ≡ Some r → IsAtKind k r
    is_there k e h is r was =
        subst (λ (k' : Option Kind). IsAtKind k' r) e
        (subst (λ (q : ℕ). ThereAt (told {W = W}) (Grouped next outs counts) (Parted next outs counts) (Apart next outs counts) (Is next outs counts) p tree st.here st.behind q r) (place_of h (had h is))
        (st.inv.there h r (inv0.sound.within n h (had h is)) was))

    -- a member after an operation that all of them do, what is left on its ways, and what was pending
    record Fin (op' : Operation) (w : W) (rest : Bool → W) (ns : List ℕ) (h : ℕ) (r' : Runner W) : Type 0 where
      before : Runner W
      known : who actings h ≡ before.has
      number : before.has.number ≡ h
      left : r'.left ≡ rest (goes_onward op' value i before.has)
      size : ℕ
      has : r'.has ≡ does op' value size before.has
      numbers : ArePending next outs counts w before.has ns

    abbrev AllFin : (op' : Operation) (w : W) (rest : Bool → W) (ns : List ℕ) → Type 0
    AllFin op' w rest ns = (h : ℕ) (r' : Runner W) → Has tree n h → mids (suc i) h ≡ Some r' → Fin op' w rest ns h r'

    -- where all have the same left
    all_fin : (w : W) (ns : List ℕ)
        → ((h : ℕ) → Has tree n h → (r : Runner W) → mids i h ≡ Some r → (u : Step W) → next r.left ≡ Some u → u.operation ≡ op → (r.left ≡ w) × ArePending next outs counts w r.has ns)
        → (u : Step W) → next w ≡ Some u → AllFin op w u.rest ns
    all_fin w ns same u stands h r' is e =
        let m = moved h r' is e in
        let so = same h is m.before m.was m.step' m.stands m.same in
        let equal : m.step' ≡ u = first_is m.step' u (sym m.stands ∙ ap next so.0 ∙ stands) in
        record {
          before = m.before;
          known = m.known;
          number = m.number;
          left = m.left ∙ ap (λ (v : Step W). v.rest (goes_onward op value i m.before.has)) equal;
          size = m.size;
          has = m.has;
          numbers = so.1;
        }

    -- what is pending then, where the operation leaves it
    still_pending : (op' : Operation) (w : W) (rest : Bool → W) (ns : List ℕ) (h : ℕ) (r' : Runner W) → Leaves next outs counts class.Tree op' w rest → (f : Fin op' w rest ns h r')
        → ArePending next outs counts (rest (goes_onward op' value i f.before.has)) r'.has ns
    still_pending op' w rest ns h r' l f =
        subst (λ (q : Processor). ArePending next outs counts (rest (goes_onward op' value i f.before.has)) q ns) (sym f.has) (l value i f.size f.before.has ns f.numbers)

    after_of : (h : ℕ) → Has tree n h → (r' : Runner W) × (mids (suc i) h ≡ Some r')
    after_of h is = let c = there h (inv0.sound.within n h (had h is)) in (mid (nat_lt (low h) (suc i)) c.0, at_mid h c.0 (nat_lt (low h) (suc i)) c.1)

    mine : (r' : Runner W) × (mids (suc i) i ≡ Some r')
    mine = let c = there i lt in (mid (nat_lt (low i) (suc i)) c.0, at_mid i c.0 (nat_lt (low i) (suc i)) c.1)

    my_move : Moved i mine.0
    my_move = moved i mine.0 (has i in_i) mine.1

    some_n : tree.nodes n ≢ None
    some_n = has_some tree n i (has i in_i)

    unit : (w : W) (ns : List ℕ) (r' : Runner W) → r'.left ≡ w → ArePending next outs counts w r'.has ns → IsCounted next outs counts w → (Is next outs counts) (without w ns) r'
    unit w ns r' e f c = record { left = e; value = tt; numbers = f; counted = c }

    -- a group in lockstep
    module _ (locked : kind tree n ≡ Some Lockstep) (g : Grouped next outs counts b x) (rest : Bool → W) where
      lower : n ≢ 0
      lower zero' = st.inv.sound.free (sym (ap (kind tree) zero') ∙ locked)

      can_shrink : CanShrink n tree
      can_shrink = record { lower = lower; there = some_n; leaf = leaf }

      up_parted : Parted next outs counts (parent tree n) (st.behind (parent tree n)) (st.here (parent tree n))
      up_parted = by (kind tree (parent tree n)) (st.inv.sound.awaited n lower some_n) (st.inv.node (parent tree n))
        where
          by : (k : Option Kind) → awaits k n ≡ true
              → NodeIs (told {W = W}) (Grouped next outs counts) (Parted next outs counts) (Apart next outs counts) (Is next outs counts) p (parent tree n) k (st.behind (parent tree n)) (st.here (parent tree n))
              → Parted next outs counts (parent tree n) (st.behind (parent tree n)) (st.here (parent tree n))
          by None e h = untrue e
          by (Some Lockstep) e h = untrue e
          by (Some (Waiting first k)) e h = h
          by (Some (Asynchronous alone)) e h = untrue e

      first_many : FirstMany next outs counts b
      first_many =
          subst (FirstMany next outs counts) (sym (st.inv.chain n lower some_n)) up_parted.at.many

      -- who leaves has what those have who wait
      is_up : (w : W) (r' : Runner W) → outs x.left ≡ w ∷ outs w → r'.left ≡ w → ArePending next outs counts w r'.has x.numbers → IsCounted next outs counts w
          → (Is next outs counts) (st.here (parent tree n)) r'
      is_up w r' e is same counted =
          let up = st.here (parent tree n) in
          let lists : w ∷ outs w ≡ up.left ∷ lefts (st.behind (parent tree n)) = sym e ∙ g.outs_are ∙ ap lefts (st.inv.chain n lower some_n) in
          let left_is : w ≡ up.left = cons_first lists in
          let ends : Ends (told up ∷ st.behind (parent tree n)) x.numbers = subst (λ (bs : List (Out W)). Ends bs x.numbers) (st.inv.chain n lower some_n) g.ends in
          let size : length x.numbers ≡ length up.numbers = counts.many w r'.has x.numbers same ∙ ap counts.pending left_is ∙ sym up_parted.at.many in
          record {
            left = is ∙ left_is;
            value = plain up.agreed up_parted.unagreed;
            numbers = subst (ArePending next outs counts up.left r'.has) (no_more ends.0 x.numbers up.numbers ends.1 size) (subst (λ (v : W). ArePending next outs counts v r'.has x.numbers) left_is same);
            counted = subst (IsCounted next outs counts) left_is counted;
          }
        where
          cons_first : {v w' : W} {vs ws : List W} → v ∷ vs ≡ w' ∷ ws → v ≡ w'
          cons_first e' = cc

          plain : (o' : Option ℕ) → o' ≡ None → HasValue o' r'
          plain None e' = tt
          plain (Some v) e' = absurd (cc)

      numbers_of : (op' : Operation) → AllFin op' x.left rest x.numbers → (h : ℕ) → Has tree n h → ArePending next outs counts x.left (who actings h) x.numbers
      numbers_of op' fin h is =
          let r' = after_of h is in
          let f = fin h r'.0 is r'.1 in
          subst (λ (q : Processor). ArePending next outs counts x.left q x.numbers) (sym f.known) f.numbers

      group_splits : (by : SplitKind) (d : Parting next outs counts by x.left rest) → Dividing next outs counts by x.left rest d.waiter b x.numbers
          → ((onward : Bool) → IsCounted next outs counts (rest onward)) → AllFin (o.Split by) x.left rest x.numbers → Next (changes (o.Split by) n (who actings) value i tree)
      group_splits by d v on fin =
          let vs = values (who actings i) in
          let k = parts by vs in
          let into : ℕ → Option ℕ = λ h. part by (values (who actings h)) in
          let into' : ℕ → Option ℕ = λ h. cut k (into h) in
          let ns = v.behind in
          let numbers_at : (h : ℕ) → Has tree n h → ArePending next outs counts x.left (who actings h) x.numbers = numbers_of (o.Split by) fin in
          let same_into : (h : ℕ) → Has tree n h → into' h ≡ into h
          = λ h is. cut_same k (into h) (λ j e. few by (values (who actings h)) vs j (v.same_parts (who actings h) (who actings i) (numbers_at h is) (numbers_at i (has i in_i))) e) in
          let can : CanSplit n k into' tree = record { there = some_n; leaf = leaf; few = λ h j e. cut_few k (into h) j e } in
          let waits : Parted next outs counts n b (without d.waiter ns)
          = record {
            outs_are = d.waiter_outs ∙ g.outs_are;
            follows = subst (λ (w : Bool). Follows next outs (Waits w) d.waiter) (sym (within_some n lower)) d.waits;
            unagreed = refl;
            at = record { many = v.many; ends = v.ends };
          } in
          let inside : ℕ → Here W = λ j. without (rest (enters by (Some j))) ns in
          let parts_in : (j : ℕ) → Grouped next outs counts (told (without d.waiter ns) ∷ b) (inside j)
          = λ j. record { outs_are = d.outs_in j ∙ ap (λ (bs : List W). d.waiter ∷ bs) g.outs_are; follows = d.follows_in j; ends = ([], refl) } in
          let way_in : (h : ℕ) (o' : Option ℕ) (r' : Runner W) → Has tree n h → into h ≡ o' → mids (suc i) h ≡ Some r' → r'.left ≡ rest (enters by o')
          = λ h o' r' is e e'. let f = fin h r' is e' in f.left ∙ ap (λ (q : Processor). rest (enters by (part by (values q)))) (sym f.known) ∙ ap (λ (o'' : Option ℕ). rest (enters by o'')) e in
          let numbers_in : (h : ℕ) (o' : Option ℕ) (r' : Runner W) → Has tree n h → into h ≡ o' → mids (suc i) h ≡ Some r' → ArePending next outs counts (rest (enters by o')) r'.has ns
          = λ h o' r' is e e'.
          let f = fin h r' is e' in
          let part_is : part by (values f.before.has) ≡ o' = ap (λ (q : Processor). part by (values q)) (sym f.known) ∙ e in
          subst (λ (q : Processor). ArePending next outs counts (rest (enters by o')) q ns) (sym (f.has ∙ ap (λ (o'' : Option ℕ). divided by f.size f.before.has o'') part_is))
          (v.after f.size o' f.before.has f.numbers) in
          let enter : (h j : ℕ) (r' : Runner W) → Has tree n h → into' h ≡ Some j → mids (suc i) h ≡ Some r' → (Is next outs counts) (inside j) r'
          = λ h j r' is e e'.
          let e'' : into h ≡ Some j = sym (same_into h is) ∙ e in
          unit (rest (enters by (Some j))) ns r' (way_in h (Some j) r' is e'' e') (numbers_in h (Some j) r' is e'' e') (on (enters by (Some j))) in
          let stay : (h : ℕ) (r' : Runner W) → Has tree n h → into' h ≡ None → mids (suc i) h ≡ Some r' → (Is next outs counts) (without d.waiter ns) r'
          = λ h r' is e e'.
          let e'' : into h ≡ None = sym (same_into h is) ∙ e in
          let aside : rest (enters by None) ≡ d.waiter = d.aside (values (who actings h)) e'' in
          unit d.waiter ns r' (way_in h None r' is e'' e' ∙ aside)
          (subst (λ (w : W). ArePending next outs counts w r'.has ns) aside (numbers_in h None r' is e'' e')) (subst (IsCounted next outs counts) aside (on (enters by None))) in
          subst Next (split_same n k into' into tree same_into)
          (record {
            here' = parted_here (told {W = W}) (Grouped next outs counts) (Parted next outs counts) (Apart next outs counts) (Is next outs counts) p tree (mids i) st.here st.behind st.inv n k into' can (without d.waiter ns) b inside (mids (suc i)) (λ ne. refl) waits parts_in enter stay others;
            behind' = parted_behind (told {W = W}) (Grouped next outs counts) (Parted next outs counts) (Apart next outs counts) (Is next outs counts) p tree (mids i) st.here st.behind st.inv n k into' can (without d.waiter ns) b inside (mids (suc i)) (λ ne. refl) waits parts_in enter stay others;
            inv' = parted_inv (told {W = W}) (Grouped next outs counts) (Parted next outs counts) (Apart next outs counts) (Is next outs counts) p tree (mids i) st.here st.behind st.inv n k into' can (without d.waiter ns) b inside (mids (suc i)) (λ ne. refl) waits parts_in enter stay others;
            frame = split_frame n k into' tree;
          })

      group_shrinks : (keep : ℕ → Bool) (new : Here W) → Grouped next outs counts b new
          → ((h : ℕ) (r' : Runner W) → Has tree n h → keep h ≡ true → mids (suc i) h ≡ Some r' → (Is next outs counts) new r')
          → ((h : ℕ) (r' : Runner W) → Has tree n h → keep h ≡ false → mids (suc i) h ≡ Some r' → (Is next outs counts) (st.here (parent tree n)) r')
          → Next (t.shrink n keep tree)
      group_shrinks keep new fits stayers leavers = record {
        here' = shrunk_here (told {W = W}) (Grouped next outs counts) (Parted next outs counts) (Apart next outs counts) (Is next outs counts) p tree (mids i) st.here st.behind st.inv n keep can_shrink new (mids (suc i)) locked fits stayers leavers others;
        behind' = st.behind;
        inv' = shrunk_inv (told {W = W}) (Grouped next outs counts) (Parted next outs counts) (Apart next outs counts) (Is next outs counts) p tree (mids i) st.here st.behind st.inv n keep can_shrink new (mids (suc i)) locked fits stayers leavers others;
        frame = shrink_frame n keep tree;
      }

      shrinks : Does next outs (FollowsFor next outs 0) (InGroup (is_some x.agreed)) o.Shrink x.left rest → Follows next outs (InGroup false) (rest true)
          → Leaves next outs counts class.Tree o.Shrink x.left rest → ((onward : Bool) → IsCounted next outs counts (rest onward)) → AllFin o.Shrink x.left rest x.numbers
          → Next (changes o.Shrink n (who actings) value i tree)
      shrinks d follows l on fin =
          group_shrinks (λ h. stays (who actings h)) (without (rest true) x.numbers) (record { outs_are = d.0 ∙ g.outs_are; follows = follows; ends = g.ends })
          (λ h r' is keep e. unit (rest true) x.numbers r' (at_way h true r' is keep e) (pending_at h true r' is keep e) (on true))
          (λ h r' is keep e. is_up (rest false) r' d.2 (at_way h false r' is keep e) (pending_at h false r' is keep e) (on false))
        where
          at_way : (h : ℕ) (way : Bool) (r' : Runner W) → Has tree n h → stays (who actings h) ≡ way → mids (suc i) h ≡ Some r' → r'.left ≡ rest way
          at_way h way r' is keep e = let f = fin h r' is e in f.left ∙ ap (λ (q : Processor). rest (stays q)) (sym f.known) ∙ ap rest keep

          pending_at : (h : ℕ) (way : Bool) (r' : Runner W) → Has tree n h → stays (who actings h) ≡ way → mids (suc i) h ≡ Some r' → ArePending next outs counts (rest way) r'.has x.numbers
          pending_at h way r' is keep e =
              let f = fin h r' is e in
              subst (λ (c : Bool). ArePending next outs counts (rest c) r'.has x.numbers) (ap stays (sym f.known) ∙ keep) (still_pending o.Shrink x.left rest x.numbers h r' l f)

      finishes : outs x.left ≡ rest true ∷ outs (rest true) → Leaves next outs counts class.Tree o.End x.left rest → ((onward : Bool) → IsCounted next outs counts (rest onward))
          → AllFin o.End x.left rest x.numbers → Next (changes o.End n (who actings) value i tree)
      finishes d l on fin =
          group_shrinks (λ h. false) x g (λ h r' is keep e. untrue keep)
          (λ h r' is keep e. let f = fin h r' is e in is_up (rest true) r' d f.left (still_pending o.End x.left rest x.numbers h r' l f) (on true))

      opens : (alone : Bool) (op' : Operation) → outs (rest true) ≡ rest false ∷ outs x.left → outs (rest false) ≡ rest false ∷ outs x.left
          → Follows next outs (ByItself true) (rest true) → Follows next outs (ByItself true) (rest false)
          → Leaves next outs counts class.Tree op' x.left rest → length x.numbers ≡ counts.pending (rest false) → ((onward : Bool) → IsCounted next outs counts (rest onward))
          → AllFin op' x.left rest x.numbers → Next (t.with_kind n (Asynchronous alone) tree)
      opens alone op' first second follows_first follows_second l many on fin =
          let new : Here W = without (rest false) x.numbers in
          let inside : (h : ℕ) (r' : Runner W) → Has tree n h → mids (suc i) h ≡ Some r' → Apart next outs counts n b new r'
          = λ h r' is e. let f = fin h r' is e in lone n lower r' (goes_onward op' value i f.before.has) f.left (still_pending op' x.left rest x.numbers h r' l f) in
          record {
            here' = turned_here (told {W = W}) (Grouped next outs counts) (Parted next outs counts) (Apart next outs counts) (Is next outs counts) p tree (mids i) st.here st.behind st.inv n (Asynchronous alone) new (mids (suc i)) leaf (idle-asynchronous alone) (λ zero'. free-asynchronous alone) some_n tt inside others;
            behind' = st.behind;
            inv' = turned_inv (told {W = W}) (Grouped next outs counts) (Parted next outs counts) (Apart next outs counts) (Is next outs counts) p tree (mids i) st.here st.behind st.inv n (Asynchronous alone) new (mids (suc i)) leaf (idle-asynchronous alone) (λ zero'. free-asynchronous alone) some_n tt inside others;
            frame = kind_frame n (Asynchronous alone) tree;
          }
        where
          outs_by : (way : Bool) → outs (rest way) ≡ rest false ∷ lefts b
          outs_by true = first ∙ ap (λ (bs : List W). rest false ∷ bs) g.outs_are
          outs_by false = second ∙ ap (λ (bs : List W). rest false ∷ bs) g.outs_are

          follows_by : (way : Bool) → Follows next outs (ByItself true) (rest way)
          follows_by true = follows_first
          follows_by false = follows_second

          lone : (m : ℕ) → m ≢ 0 → (r' : Runner W) (way : Bool) → r'.left ≡ rest way → ArePending next outs counts (rest way) r'.has x.numbers
              → Apart next outs counts m b (without (rest false) x.numbers) r'
          lone zero ne r' way e f = absurd (ne refl)
          lone (suc m) ne r' way e f = inr (record {
            outs_are = ap outs e ∙ outs_by way;
            follows = subst (Follows next outs (ByItself true)) (sym e) (follows_by way);
            more = [];
            numbers = subst (λ (w : W). ArePending next outs counts w r'.has x.numbers) (sym e) f;
            counted = subst (IsCounted next outs counts) (sym e) (on way);
            holds = record { many = many; ends = g.ends };
          })

      group_by : (op' : Operation) → changes_tree op' ≡ true → ((k : ℕ) → Does next outs (FollowsFor next outs k) (InGroup (is_some x.agreed)) op' x.left rest)
          → CountsGoOn next outs counts op' x.left rest → (q : Processor) → ArePending next outs counts x.left q x.numbers → ((onward : Bool) → IsCounted next outs counts (rest onward))
          → AllFin op' x.left rest x.numbers → Next (changes op' n (who actings) value i tree)
      group_by (o.Split by) c d k q pends on fin =
          let parts_of = parting next outs counts by x.left rest (outs (rest true)) refl d k in
          group_splits by parts_of (parts_of.divides b x.numbers q g.outs_are pends first_many g.ends) on fin
      group_by o.Shrink c d k q pends on fin = shrinks (d 0) (λ m. (d m).1) k on fin
      group_by o.End c d k q pends on fin = finishes (d 0) k on fin
      group_by o.Farm c d k q pends on fin =
          let met : counts.pending (rest false) ≡ counts.pending x.left = subst (AsMany next outs counts (counts.pending x.left)) (d 0).0 k.1 in
          opens false o.Farm (d 0).0 (d 0).1 (λ m. (d m).2) (λ m. (d m).3) k.0 (counts.many x.left q x.numbers pends ∙ sym met) on fin
      group_by o.Seq c d k q pends on fin =
          opens true o.Seq (d 0).0 (d 0).1 (λ m. (d m).2) (λ m. (d m).3) k
          (counts.many (rest false) q x.numbers
          (subst (λ (c' : Bool). ArePending next outs counts (rest c') q x.numbers) (ne_eqb q.number (suc q.number) (λ same. omega (arith, same))) (k 0 (suc q.number) 0 q x.numbers pends))) on fin
      group_by o.Begin c d k q pends on fin = absurd (d 0)
      group_by o.Resume c d k q pends on fin = absurd (d 0)
      group_by (o.Meet true) c d k q pends on fin = absurd (d 0)
      group_by (o.Meet false) c d k q pends on fin = untrue c
      group_by op' c d k q pends on fin = untrue c

    in_group : kind tree n ≡ Some Lockstep → Next (changes op n (who actings) value i tree)
    in_group locked =
        let g : Grouped next outs counts b x = subst NodeKind locked (st.inv.node n) in
        let u = my_move.step' in
        let is_mine : (Is next outs counts) x my_move.before = is_there (Some Lockstep) locked i (has i in_i) my_move.before my_move.was in
        let stands : next x.left ≡ Some u = ap next (sym is_mine.left) ∙ my_move.stands in
        let so = does_so next outs counts (InGroup (is_some x.agreed)) x.left u g.follows stands in
        group_by locked g u.rest op changing
        (λ k. subst (λ (op' : Operation). Does next outs (FollowsFor next outs k) (InGroup (is_some x.agreed)) op' x.left u.rest) my_move.same (so k))
        (subst (λ (op' : Operation). CountsGoOn next outs counts op' x.left u.rest) my_move.same (counts_so next outs counts x.left u is_mine.counted stands))
        my_move.before.has is_mine.numbers
        (counts_on next outs counts x.left u is_mine.counted stands)
        (all_fin x.left x.numbers (λ h is r was v e same. let is_h = is_there (Some Lockstep) locked h is r was in (is_h.left, is_h.numbers)) u stands)

    abbrev NodeKind' : Here W → Type 0
    NodeKind' y = NodeIs (told {W = W}) (Grouped next outs counts) (Parted next outs counts) (Apart next outs counts) (Is next outs counts) p n (Some (kind_after n)) b y

    abbrev IsKind' : Here W → Runner W → Type 0
    IsKind' y r = IsThere (told {W = W}) (Grouped next outs counts) (Parted next outs counts) (Apart next outs counts) (Is next outs counts) p n (Some (kind_after n)) b y r

    -- a node that waited goes on
    resumed : (rest : Bool → W) → Parted next outs counts n b x → outs (rest true) ≡ outs x.left → Follows next outs (after_waiting (within n)) (rest true)
        → Leaves next outs counts class.Tree o.Resume x.left rest → ((onward : Bool) → IsCounted next outs counts (rest onward)) → AllFin o.Resume x.left rest x.numbers
        → Next (t.with_kind n (kind_after n) tree)
    resumed rest g same follows l on fin =
        let new : Here W = without (rest true) x.numbers in
        let fits : NodeKind' new = node_by n (rest true) (same ∙ g.outs_are) follows in
        let inside : (h : ℕ) (r' : Runner W) → Has tree n h → mids (suc i) h ≡ Some r' → IsKind' new r'
        = λ h r' is e.
        let f = fin h r' is e in
        there_by n (rest true) (same ∙ g.outs_are) follows (on true) r' f.left
        (still_pending o.Resume x.left rest x.numbers h r' l f) in
        record {
          here' = turned_here (told {W = W}) (Grouped next outs counts) (Parted next outs counts) (Apart next outs counts) (Is next outs counts) p tree (mids i) st.here st.behind st.inv n (kind_after n) new (mids (suc i)) leaf (idle-after n) (free-after n) some_n fits inside others;
          behind' = st.behind;
          inv' = turned_inv (told {W = W}) (Grouped next outs counts) (Parted next outs counts) (Apart next outs counts) (Is next outs counts) p tree (mids i) st.here st.behind st.inv n (kind_after n) new (mids (suc i)) leaf (idle-after n) (free-after n) some_n fits inside others;
          frame = kind_frame n (kind_after n) tree;
        }
      where
        node_by : (m : ℕ) (w : W) → outs w ≡ lefts b → Follows next outs (after_waiting (within m)) w
            → NodeIs (told {W = W}) (Grouped next outs counts) (Parted next outs counts) (Apart next outs counts) (Is next outs counts) p m (Some (kind_after m)) b (without w x.numbers)
        node_by zero w e f = tt
        node_by (suc m) w e f = record { outs_are = e; follows = f; ends = g.at.ends }

        there_by : (m : ℕ) (w : W) → outs w ≡ lefts b → Follows next outs (after_waiting (within m)) w → IsCounted next outs counts w
            → (r : Runner W) → r.left ≡ w → ArePending next outs counts w r.has x.numbers
            → IsThere (told {W = W}) (Grouped next outs counts) (Parted next outs counts) (Apart next outs counts) (Is next outs counts) p m (Some (kind_after m)) b (without w x.numbers) r
        there_by zero w e f c r is num = inr (record {
          outs_are = ap outs is ∙ e;
          follows = subst (Follows next outs (ByItself false)) (sym is) f;
          more = [];
          numbers = subst (λ (v : W). ArePending next outs counts v r.has x.numbers) (sym is) num;
          counted = subst (IsCounted next outs counts) (sym is) c;
          holds = record { many = counts.many w r.has x.numbers num; ends = g.at.ends };
        })
        there_by (suc m) w e f c r is num = unit w x.numbers r is num c

    waiting_by : (op' : Operation) (rest : Bool → W) → ((k : ℕ) → Does next outs (FollowsFor next outs k) (Waits (within n)) op' x.left rest) → Parted next outs counts n b x
        → CountsGoOn next outs counts op' x.left rest → ((onward : Bool) → IsCounted next outs counts (rest onward)) → AllFin op' x.left rest x.numbers
        → Next (changes op' n (who actings) value i tree)
    waiting_by o.Resume rest d g c on fin = resumed rest g (d 0).0 (λ k. (d k).1) c on fin
    waiting_by op' rest d g c on fin = absurd (d 0)

    in_waiting : (first k : ℕ) → kind tree n ≡ Some (Waiting first k) → Next (changes op n (who actings) value i tree)
    in_waiting first k waiting =
        let g : Parted next outs counts n b x = subst NodeKind waiting (st.inv.node n) in
        let u = my_move.step' in
        let is_mine : (Is next outs counts) x my_move.before = is_there (Some (Waiting first k)) waiting i (has i in_i) my_move.before my_move.was in
        let stands : next x.left ≡ Some u = ap next (sym is_mine.left) ∙ my_move.stands in
        let so = does_so next outs counts (Waits (within n)) x.left u g.follows stands in
        waiting_by op u.rest
        (λ m. subst (λ (op' : Operation). Does next outs (FollowsFor next outs m) (Waits (within n)) op' x.left u.rest) my_move.same (so m)) g
        (subst (λ (op' : Operation). CountsGoOn next outs counts op' x.left u.rest) my_move.same (counts_so next outs counts x.left u is_mine.counted stands))
        (counts_on next outs counts x.left u is_mine.counted stands)
        (all_fin x.left x.numbers (λ h is r was v e same. let is_h = is_there (Some (Waiting first k)) waiting h is r was in (is_h.left, is_h.numbers)) u stands)

    -- a meeting of those who run by themselves
    meets_first : (alone : Bool) (op' : Operation) (w : W) (rest : Bool → W) → changes_tree op' ≡ true → Does next outs (FollowsFor next outs 0) (ByItself alone) op' w rest → (ws : List W) × (outs w ≡ w ∷ ws)
    meets_first true o.Begin w rest c d = absurd d
    meets_first false o.Begin w rest c d = (outs (rest false), d.0)
    meets_first true (o.Meet true) w rest c d = (outs (rest true), d.0)
    meets_first false (o.Meet true) w rest c d = absurd d
    meets_first true (o.Meet false) w rest c d = untrue c
    meets_first false (o.Meet false) w rest c d = untrue c
    meets_first true (o.Split by) w rest c d = absurd d
    meets_first true o.Shrink w rest c d = absurd d
    meets_first true o.End w rest c d = absurd d
    meets_first true o.Farm w rest c d = absurd d
    meets_first true o.Seq w rest c d = absurd d
    meets_first true o.Resume w rest c d = absurd d
    meets_first false (o.Split by) w rest c d = absurd d
    meets_first false o.Shrink w rest c d = absurd d
    meets_first false o.End w rest c d = absurd d
    meets_first false o.Farm w rest c d = absurd d
    meets_first false o.Seq w rest c d = absurd d
    meets_first false o.Resume w rest c d = absurd d
    meets_first true op' w rest c d = untrue c
    meets_first false op' w rest c d = untrue c

    abbrev ahead : List W
    ahead = ahead_of next outs counts n b x

    cons_same : (v w : W) (vs ws : List W) → v ∷ vs ≡ w ∷ ws → v ≡ w
    cons_same v w vs ws e = cc

    cons_rest : (v w : W) (vs ws : List W) → v ∷ vs ≡ w ∷ ws → vs ≡ ws
    cons_rest v w vs ws e = cc

    ahead_inside : (m : ℕ) → within m ≡ true → ahead_of next outs counts m b x ≡ x.left ∷ lefts b
    ahead_inside zero e = untrue e
    ahead_inside (suc m) e = refl

    outside_root : (m : ℕ) → within m ≡ false → m ≡ 0
    outside_root zero e = refl
    outside_root (suc m) e = absurd (true≢false e)

    inside_lower : (m : ℕ) → within m ≡ true → m ≢ 0
    inside_lower zero e same = untrue e
    inside_lower (suc m) e same = omega (arith, same)

    abbrev IsLone : Runner W → Type 0
    IsLone r = Loner next outs counts (within n) ahead x.numbers (AtNode next outs counts b x) r

    -- who have come to one operation of their bodies
    abbrev AllCome : (op' : Operation) (w : W) (rest : Bool → W) → Type 0
    AllCome op' w rest = (ns : List ℕ) → ((r : Runner W) → IsLone r → r.left ≡ w → ArePending next outs counts w r.has ns) → AllFin op' w rest ns

    meets : (w : W) (rest : Bool → W) → within n ≡ true → outs w ≡ ahead → outs w ≡ w ∷ outs (rest true) → Follows next outs (InGroup false) (rest true)
        → Leaves next outs counts class.Tree (o.Meet true) w rest → ((onward : Bool) → IsCounted next outs counts (rest onward)) → AtNode next outs counts b x → AllCome (o.Meet true) w rest
        → Next (t.with_kind n Lockstep tree)
    meets w rest inner is d follows l on at_n come =
        let new : Here W = without (rest true) x.numbers in
        let lists : w ∷ outs (rest true) ≡ x.left ∷ lefts b = sym d ∙ is ∙ ahead_inside n inner in
        let met : w ≡ x.left = cons_same w x.left (outs (rest true)) (lefts b) lists in
        let same : outs (rest true) ≡ lefts b = cons_rest w x.left (outs (rest true)) (lefts b) lists in
        let fits : Grouped next outs counts b new = record { outs_are = same; follows = follows; ends = at_n.ends } in
        let fin : AllFin (o.Meet true) w rest x.numbers
        = come x.numbers (λ r lone e.
        let pending : ArePending next outs counts w r.has (lone.more ++ x.numbers) = subst (λ (v : W). ArePending next outs counts v r.has (lone.more ++ x.numbers)) e lone.numbers in
        subst (ArePending next outs counts w r.has)
        (no_more lone.more (lone.more ++ x.numbers) x.numbers refl (counts.many w r.has (lone.more ++ x.numbers) pending ∙ ap counts.pending met ∙ sym at_n.many)) pending) in
        let inside : (h : ℕ) (r' : Runner W) → Has tree n h → mids (suc i) h ≡ Some r' → (Is next outs counts) new r'
        = λ h r' in_h e. let f = fin h r' in_h e in unit (rest true) x.numbers r' f.left (still_pending (o.Meet true) w rest x.numbers h r' l f) (on true) in
        let free : n ≡ 0 → Lockstep ≢ Lockstep = λ zero'. absurd (inside_lower n inner zero') in
        record {
          here' = turned_here (told {W = W}) (Grouped next outs counts) (Parted next outs counts) (Apart next outs counts) (Is next outs counts) p tree (mids i) st.here st.behind st.inv n Lockstep new (mids (suc i)) leaf idle-lockstep free some_n fits inside others;
          behind' = st.behind;
          inv' = turned_inv (told {W = W}) (Grouped next outs counts) (Parted next outs counts) (Apart next outs counts) (Is next outs counts) p tree (mids i) st.here st.behind st.inv n Lockstep new (mids (suc i)) leaf idle-lockstep free some_n fits inside others;
          frame = kind_frame n Lockstep tree;
        }

    first_in : (h count j : ℕ) → first_part count h ≡ Some j → nat_lt h count ≡ true
    first_in h count j e = by (nat_lt h count) e
      where
        by : (c : Bool) → (if c then Some 0 else None) ≡ Some j → c ≡ true
        by true e' = refl
        by false e' = absurd (cc)

    first_out : (h count : ℕ) → first_part count h ≡ None → nat_lt h count ≡ false
    first_out h count e = by (nat_lt h count) e
      where
        by : (c : Bool) → ◌≡◌ {A = Option ℕ} (if c then Some 0 else None) None → c ≡ false
        by true e' = absurd (cc)
        by false e' = refl

    begins : (w : W) (rest : Bool → W) → within n ≡ false → outs (rest true) ≡ rest false ∷ outs (rest false) → Follows next outs (Waits false) (rest false) → Follows next outs (InGroup false) (rest true)
        → Leaves next outs counts class.Tree o.Begin w rest → counts.pending w ≡ 0 → ((onward : Bool) → IsCounted next outs counts (rest onward)) → AllCome o.Begin w rest
        → Next (changes o.Begin n (who actings) value i tree)
    begins w rest outer d waits_on follows l none on come = subst (λ (q : ℕ). Next (t.split q 1 (first_part count) tree)) root next'
      where
        root : n ≡ 0
        root = outside_root n outer

        count : ℕ
        count = min (not_negative value) (length (members tree n))

        size : length (members tree n) ≡ p
        size = ap (λ (q : ℕ). length (members tree q)) root ∙ length-root p tree st.inv.sound

        can : CanSplit n 1 (first_part count) tree
        can = record { there = some_n; leaf = leaf; few = λ h j e. one_of_none (nat_lt h count) j e }

        fin : AllFin o.Begin w rest []
        fin =
            come [] (λ r lone e.
            let pending : ArePending next outs counts w r.has (lone.more ++ x.numbers) = subst (λ (v : W). ArePending next outs counts v r.has (lone.more ++ x.numbers)) e lone.numbers in
            subst (ArePending next outs counts w r.has) (no_length (lone.more ++ x.numbers) (counts.many w r.has (lone.more ++ x.numbers) pending ∙ none)) pending)

        mine' : Fin o.Begin w rest [] i mine.0
        mine' = fin i mine.0 (has i in_i) mine.1

        -- nobody is taken for a group of none
        waiting_is : ArePending next outs counts (rest false) (does o.Begin 0 0 mine'.before.has) []
        waiting_is =
            subst (λ (c : Bool). ArePending next outs counts (rest c) (does o.Begin 0 0 mine'.before.has) []) (le-ltb mine'.before.has.number 0 (omega arith)) (l 0 0 0 mine'.before.has [] mine'.numbers)

        waits : Parted next outs counts n (bare (outs (rest false))) (without (rest false) [])
        waits = record {
          outs_are = sym (lefts_bare (outs (rest false)));
          follows = subst (λ (c : Bool). Follows next outs (Waits c) (rest false)) (sym outer) waits_on;
          unagreed = refl;
          at = record { many = counts.many (rest false) (does o.Begin 0 0 mine'.before.has) [] waiting_is; ends = ends_none (outs (rest false)) };
        }

        parts_in : (j : ℕ) → Grouped next outs counts (told (without (rest false) []) ∷ bare (outs (rest false))) (without (rest true) [])
        parts_in j = record { outs_are = d ∙ ap (λ (bs : List W). rest false ∷ bs) (sym (lefts_bare (outs (rest false)))); follows = follows; ends = ([], refl) }

        keeps : n ≢ 0 → (bare (outs (rest false))) ≡ b
        keeps ne = absurd (ne root)

        way_is : (h : ℕ) (c : Bool) (r' : Runner W) → Has tree n h → nat_lt h count ≡ c → mids (suc i) h ≡ Some r' → r'.left ≡ rest c
        way_is h c r' in_h is e =
            let f = fin h r' in_h e in
            let small : h < length (members tree n) = let lt' = st.inv.sound.within n h in_h in omega (arith, lt', size) in
            f.left ∙ ap rest (ap (λ (q : ℕ). nat_lt q (not_negative value)) f.number ∙ sym (first_same h (length (members tree n)) (not_negative value) small) ∙ is)

        pending_is : (h : ℕ) (c : Bool) (r' : Runner W) → Has tree n h → nat_lt h count ≡ c → mids (suc i) h ≡ Some r' → ArePending next outs counts (rest c) r'.has []
        pending_is h c r' in_h is e =
            let f = fin h r' in_h e in
            let small : h < length (members tree n) = let lt' = st.inv.sound.within n h in_h in omega (arith, lt', size) in
            subst (λ (c' : Bool). ArePending next outs counts (rest c') r'.has []) (ap (λ (q : ℕ). nat_lt q (not_negative value)) f.number ∙ sym (first_same h (length (members tree n)) (not_negative value) small) ∙ is)
            (still_pending o.Begin w rest [] h r' l f)

        enter : (h j : ℕ) (r' : Runner W) → Has tree n h → first_part count h ≡ Some j → mids (suc i) h ≡ Some r' → (Is next outs counts) (without (rest true) []) r'
        enter h j r' in_h e e' = unit (rest true) [] r' (way_is h true r' in_h (first_in h count j e) e') (pending_is h true r' in_h (first_in h count j e) e') (on true)

        stay : (h : ℕ) (r' : Runner W) → Has tree n h → first_part count h ≡ None → mids (suc i) h ≡ Some r' → (Is next outs counts) (without (rest false) []) r'
        stay h r' in_h e e' = unit (rest false) [] r' (way_is h false r' in_h (first_out h count e) e') (pending_is h false r' in_h (first_out h count e) e') (on false)

        next' : Next (t.split n 1 (first_part count) tree)
        next' = record {
          here' = parted_here (told {W = W}) (Grouped next outs counts) (Parted next outs counts) (Apart next outs counts) (Is next outs counts) p tree (mids i) st.here st.behind st.inv n 1 (first_part count) can (without (rest false) []) (bare (outs (rest false))) (λ j. without (rest true) []) (mids (suc i)) keeps waits parts_in enter stay others;
          behind' = parted_behind (told {W = W}) (Grouped next outs counts) (Parted next outs counts) (Apart next outs counts) (Is next outs counts) p tree (mids i) st.here st.behind st.inv n 1 (first_part count) can (without (rest false) []) (bare (outs (rest false))) (λ j. without (rest true) []) (mids (suc i)) keeps waits parts_in enter stay others;
          inv' = parted_inv (told {W = W}) (Grouped next outs counts) (Parted next outs counts) (Apart next outs counts) (Is next outs counts) p tree (mids i) st.here st.behind st.inv n 1 (first_part count) can (without (rest false) []) (bare (outs (rest false))) (λ j. without (rest true) []) (mids (suc i)) keeps waits parts_in enter stay others;
          frame = split_frame n 1 (first_part count) tree;
        }

    alone_by : (alone : Bool) → within n ≡ alone → (op' : Operation) (w : W) (rest : Bool → W) → changes_tree op' ≡ true → outs w ≡ ahead
        → ((k : ℕ) → Does next outs (FollowsFor next outs k) (ByItself alone) op' w rest) → CountsGoOn next outs counts op' w rest → ((onward : Bool) → IsCounted next outs counts (rest onward))
        → AtNode next outs counts b x → AllCome op' w rest → Next (changes op' n (who actings) value i tree)
    alone_by true e o.Begin w rest c is d k on at_n come = absurd (d 0)
    alone_by false e o.Begin w rest c is d k on at_n come = begins w rest e (d 0).2 (λ m. (d m).1) (λ m. (d m).3) k.0 k.1 on come
    alone_by true e (o.Meet true) w rest c is d k on at_n come = meets w rest e is (d 0).0 (λ m. (d m).1) k on at_n come
    alone_by false e (o.Meet true) w rest c is d k on at_n come = absurd (d 0)
    alone_by true e (o.Meet false) w rest c is d k on at_n come = untrue c
    alone_by false e (o.Meet false) w rest c is d k on at_n come = untrue c
    alone_by true e (o.Split by) w rest c is d k on at_n come = absurd (d 0)
    alone_by true e o.Shrink w rest c is d k on at_n come = absurd (d 0)
    alone_by true e o.End w rest c is d k on at_n come = absurd (d 0)
    alone_by true e o.Farm w rest c is d k on at_n come = absurd (d 0)
    alone_by true e o.Seq w rest c is d k on at_n come = absurd (d 0)
    alone_by true e o.Resume w rest c is d k on at_n come = absurd (d 0)
    alone_by false e (o.Split by) w rest c is d k on at_n come = absurd (d 0)
    alone_by false e o.Shrink w rest c is d k on at_n come = absurd (d 0)
    alone_by false e o.End w rest c is d k on at_n come = absurd (d 0)
    alone_by false e o.Farm w rest c is d k on at_n come = absurd (d 0)
    alone_by false e o.Seq w rest c is d k on at_n come = absurd (d 0)
    alone_by false e o.Resume w rest c is d k on at_n come = absurd (d 0)
    alone_by true e op' w rest c is d k on at_n come = untrue c
    alone_by false e op' w rest c is d k on at_n come = untrue c

    in_body : (alone : Bool) → kind tree n ≡ Some (Asynchronous alone) → Next (changes op n (who actings) value i tree)
    in_body alone body =
        let lone : (h : ℕ) → Has tree n h → (r : Runner W) → mids i h ≡ Some r → (u : Step W) → next r.left ≡ Some u → IsLone r
        = λ h in_h r was u stands. going_on next outs counts (within n) ahead x.numbers (AtNode next outs counts b x) r (is_there (Some (Asynchronous alone)) body h in_h r was) u stands in
        let w = my_move.before.left in
        let u = my_move.step' in
        let mine' = lone i (has i in_i) my_move.before my_move.was u my_move.stands in
        let so = does_so next outs counts (ByItself (within n)) w u mine'.follows my_move.stands in
        let does_op : (k : ℕ) → Does next outs (FollowsFor next outs k) (ByItself (within n)) op w u.rest
        = λ k. subst (λ (op' : Operation). Does next outs (FollowsFor next outs k) (ByItself (within n)) op' w u.rest) my_move.same (so k) in
        let my_first = meets_first (within n) op w u.rest changing (does_op 0) in
        let equal : (h : ℕ) → Has tree n h → (r : Runner W) → mids i h ≡ Some r → (v : Step W) → next r.left ≡ Some v → v.operation ≡ op → r.left ≡ w
        = λ h in_h r was v stands same.
        let l = lone h in_h r was v stands in
        let does_v = subst (λ (op' : Operation). Does next outs (FollowsFor next outs 0) (ByItself (within n)) op' r.left v.rest) same (does_so next outs counts (ByItself (within n)) r.left v l.follows stands 0) in
        let first' = meets_first (within n) op r.left v.rest changing does_v in
        cons_same r.left w first'.0 my_first.0 (sym first'.1 ∙ l.outs_are ∙ sym mine'.outs_are ∙ my_first.1) in
        alone_by (within n) refl op w u.rest changing mine'.outs_are does_op
        (subst (λ (op' : Operation). CountsGoOn next outs counts op' w u.rest) my_move.same (counts_so next outs counts w u mine'.counted my_move.stands))
        (counts_on next outs counts w u mine'.counted my_move.stands) mine'.holds
        (λ ns numbers. all_fin w ns (λ h in_h r was v stands same. let e = equal h in_h r was v stands same in (e, numbers r (lone h in_h r was v stands) e)) u my_move.stands)

    none_of : (o' : Option t.Node) → t.kind_of o' ≡ None → o' ≡ None
    none_of None e = refl
    none_of (Some c) e = cc

    -- a `start` is at the root, and each member enters one of the parts that the lowest one has
    pub record Allowed : Type 0 where
      pub root : op ≡ o.Begin → n ≡ 0
      pub enters_one : (by : SplitKind) → op ≡ o.Split by → (h j : ℕ) → Has tree n h → part by (values (who actings h)) ≡ Some j → j < parts by (values (who actings i))
      pub shrunk : op ≡ o.Shrink → n ≢ 0
      pub ended : op ≡ o.End → n ≢ 0

    alone_root : (alone : Bool) → within n ≡ alone → (w : W) (rest : Bool → W) → Does next outs (FollowsFor next outs 0) (ByItself alone) o.Begin w rest → n ≡ 0
    alone_root true e w rest d = absurd d
    alone_root false e w rest d = outside_root n e

    alone_split : (alone : Bool) (by : SplitKind) (w : W) (rest : Bool → W) → Does next outs (FollowsFor next outs 0) (ByItself alone) (o.Split by) w rest → ⊥
    alone_split true by w rest d = d
    alone_split false by w rest d = d

    alone_shrink : (alone : Bool) (w : W) (rest : Bool → W) → Does next outs (FollowsFor next outs 0) (ByItself alone) o.Shrink w rest → ⊥
    alone_shrink true w rest d = d
    alone_shrink false w rest d = d

    alone_end : (alone : Bool) (w : W) (rest : Bool → W) → Does next outs (FollowsFor next outs 0) (ByItself alone) o.End w rest → ⊥
    alone_end true w rest d = d
    alone_end false w rest d = d

    pub allowed : Allowed
    allowed = by (kind tree n) refl
      where
        u : Step W
        u = my_move.step'

        -- the members of a group make as many parts
        same_parts : (locked : kind tree n ≡ Some Lockstep) → Grouped next outs counts b x → (v : Step W) → (Is next outs counts) x my_move.before → (by' : SplitKind) → op ≡ o.Split by'
            → (h : ℕ) → Has tree n h → parts by' (values (who actings h)) ≡ parts by' (values (who actings i))
        same_parts locked g v is_mine by' e h is =
            let stands : next x.left ≡ Some u = ap next (sym is_mine.left) ∙ my_move.stands in
            let so = does_so next outs counts (InGroup (is_some x.agreed)) x.left u g.follows stands in
            let does_op : (k : ℕ) → Does next outs (FollowsFor next outs k) (InGroup (is_some x.agreed)) (o.Split by') x.left u.rest
            = λ k. subst (λ (op' : Operation). Does next outs (FollowsFor next outs k) (InGroup (is_some x.agreed)) op' x.left u.rest) (my_move.same ∙ e) (so k) in
            let c : CountsGoOn next outs counts (o.Split by') x.left u.rest
            = subst (λ (op' : Operation). CountsGoOn next outs counts op' x.left u.rest) (my_move.same ∙ e) (counts_so next outs counts x.left u is_mine.counted stands) in
            let d = parting next outs counts by' x.left u.rest (outs (u.rest true)) refl does_op c in
            let divides = d.divides b x.numbers my_move.before.has g.outs_are is_mine.numbers (first_many locked g u.rest) g.ends in
            let fin = all_fin x.left x.numbers (λ h' is' r was v' e' same. let is_h = is_there (Some Lockstep) locked h' is' r was in (is_h.left, is_h.numbers)) u stands in
            let numbers_at = numbers_of locked g u.rest op fin in
            divides.same_parts (who actings h) (who actings i) (numbers_at h is) (numbers_at i (has i in_i))

        by : (k : Option Kind) → kind tree n ≡ k → Allowed
        by None e = absurd (some_n (none_of (tree.nodes n) e))
        by (Some Lockstep) e =
            let g : Grouped next outs counts b x = subst NodeKind e (st.inv.node n) in
            let is_mine : (Is next outs counts) x my_move.before = is_there (Some Lockstep) e i (has i in_i) my_move.before my_move.was in
            let so = does_so next outs counts (InGroup (is_some x.agreed)) x.left u g.follows (ap next (sym is_mine.left) ∙ my_move.stands) 0 in
            let does_op : (op' : Operation) → op ≡ op' → Does next outs (FollowsFor next outs 0) (InGroup (is_some x.agreed)) op' x.left u.rest
            = λ op' e'. subst (λ (op'' : Operation). Does next outs (FollowsFor next outs 0) (InGroup (is_some x.agreed)) op'' x.left u.rest) (my_move.same ∙ e') so in
            record {
              root = λ e'. absurd (does_op o.Begin e');
              enters_one = λ by' e' h j is into. few by' (values (who actings h)) (values (who actings i)) j (same_parts e g u is_mine by' e' h is) into;
              shrunk = λ e'. lower e g u.rest;
              ended = λ e'. lower e g u.rest;
            }
        by (Some (Waiting first k)) e =
            let g : Parted next outs counts n b x = subst NodeKind e (st.inv.node n) in
            let is_mine : (Is next outs counts) x my_move.before = is_there (Some (Waiting first k)) e i (has i in_i) my_move.before my_move.was in
            let so = does_so next outs counts (Waits (within n)) x.left u g.follows (ap next (sym is_mine.left) ∙ my_move.stands) 0 in
            let does_op : (op' : Operation) → op ≡ op' → Does next outs (FollowsFor next outs 0) (Waits (within n)) op' x.left u.rest
            = λ op' e'. subst (λ (op'' : Operation). Does next outs (FollowsFor next outs 0) (Waits (within n)) op'' x.left u.rest) (my_move.same ∙ e') so in
            record {
              root = λ e'. absurd (does_op o.Begin e');
              enters_one = λ by' e' h j is into. absurd (does_op (o.Split by') e');
              shrunk = λ e'. absurd (does_op o.Shrink e');
              ended = λ e'. absurd (does_op o.End e');
            }
        by (Some (Asynchronous alone)) e =
            let w = my_move.before.left in
            let lone = going_on next outs counts (within n) ahead x.numbers (AtNode next outs counts b x) my_move.before (is_there (Some (Asynchronous alone)) e i (has i in_i) my_move.before my_move.was) u my_move.stands in
            let so = does_so next outs counts (ByItself (within n)) w u lone.follows my_move.stands 0 in
            let does_op : (op' : Operation) → op ≡ op' → Does next outs (FollowsFor next outs 0) (ByItself (within n)) op' w u.rest
            = λ op' e'. subst (λ (op'' : Operation). Does next outs (FollowsFor next outs 0) (ByItself (within n)) op'' w u.rest) (my_move.same ∙ e') so in
            record {
              root = λ e'. alone_root (within n) refl w u.rest (does_op o.Begin e');
              enters_one = λ by' e' h j is into. absurd (alone_split (within n) by' w u.rest (does_op (o.Split by') e'));
              shrunk = λ e'. absurd (alone_shrink (within n) w u.rest (does_op o.Shrink e'));
              ended = λ e'. absurd (alone_end (within n) w u.rest (does_op o.End e'));
            }

    pub brought : Stage (suc i) (changes op n (who actings) value i tree)
    brought = by (kind tree n) refl
      where
        by : (k : Option Kind) → kind tree n ≡ k → Stage (suc i) (changes op n (who actings) value i tree)
        by None e = absurd (some_n (none_of (tree.nodes n) e))
        by (Some Lockstep) e = next_stage (changes op n (who actings) value i tree) (in_group e)
        by (Some (Waiting first k)) e = next_stage (changes op n (who actings) value i tree) (in_waiting first k e)
        by (Some (Asynchronous alone)) e = next_stage (changes op n (who actings) value i tree) (in_body alone e)

  -- what a processor's step makes of a tree: nothing, or as that of the lowest member of its node a change
  pub by_step : (After : Tree → Type 0) (i : ℕ) (a : Acting W) (tree : Tree)
      → ((is_changing a.due ≡ true → lowest (members s.tree (s.tree.places i)) ≢ i) → After tree)
      → ((step : Step W) → a.due ≡ Some step → changes_tree step.operation ≡ true → lowest (members s.tree (s.tree.places i)) ≡ i
      → After (changes step.operation (s.tree.places i) (who actings) (agreed actings (members s.tree (s.tree.places i))) i tree))
      → After (change_by actings s.tree i a.due tree)
  by_step After i a tree quiet changed = by_due a.due refl
    where
      by_due : (due : Option (Step W)) → a.due ≡ due → After (change_by actings s.tree i due tree)
      by_due None e = quiet (λ changing. untrue (sym (ap is_changing e) ∙ changing))
      by_due (Some step) e = by_low (i == lowest (members s.tree (s.tree.places i))) refl
        where
          by_change : lowest (members s.tree (s.tree.places i)) ≡ i → (c : Bool) → changes_tree step.operation ≡ c
              → After (changes step.operation (s.tree.places i) (who actings) (agreed actings (members s.tree (s.tree.places i))) i tree)
          by_change low_i true e' = changed step e e' low_i
          by_change low_i false e' =
              subst After (sym (step_of_none (s.tree.places i) (who actings) (agreed actings (members s.tree (s.tree.places i))) i tree step.operation e'))
              (quiet (λ changing. absurd (true≢false (sym changing ∙ ap is_changing e ∙ e'))))

          by_low : (c : Bool) → (i == lowest (members s.tree (s.tree.places i))) ≡ c
              → After (if c then changes step.operation (s.tree.places i) (who actings) (agreed actings (members s.tree (s.tree.places i))) i tree else tree)
          by_low true e' = by_change (sym (eqb-true i (lowest (members s.tree (s.tree.places i))) e')) (changes_tree step.operation) refl
          by_low false e' =
              quiet (λ changing low_i. absurd (true≢false (sym (eq-eqb i (lowest (members s.tree (s.tree.places i))) (sym low_i)) ∙ e')))

  stage_after : (i : ℕ) → i < p → (a : Acting W) → slice_get actings i ≡ Some a → (tree : Tree) → Stage i tree → Stage (suc i) (change_by actings s.tree i a.due tree)
  stage_after i lt a at tree st =
      by_step (Stage (suc i)) i a tree (λ quiet. same_stage i a at quiet tree st)
      (λ step due changing low_i. brought i lt a at step due changing (s.tree.places i) refl low_i tree st)

  pub last_stage : Stage p (all_changes actings s.tree actings s.tree)
  last_stage = all_keep next outs counts set round s p here0 behind0 inv0 ordered possible Stage stage_after first_stage
