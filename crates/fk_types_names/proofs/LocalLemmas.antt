-- How the declarations of open scopes change, and what they show.
use Rattle.std.proofs.Common.{◌≡◌, ◌≢◌, ◌⊎◌, inl, inr, ℕ, zero, suc, ◌<◌, ◌≤◌, Bool, true, false, cond, List, [], ◌∷◌, ◌++◌, Option, Some, None, Decides, nat_eq, refl, sym, subst, ap, ◌∙◌, arith}
use Rattle.std.specs.Prelude.{MatchOption}
use Rattle.std.specs.Cmp.Lexicographic.{pointwise}
use Rattle.std.proofs.lemmas.Bool.{false≢true}
use Rattle.std.proofs.lemmas.Slice.Eq.{bytes_eq-Decides}
use Rattle.fk_types_names.specs.declared.reader.Local.{Local}
use Rattle.fk_types_names.specs.Locals.{Each, One, shown_with, shown_after, Hide, IsAround, Nest, IsFirstOf, IsLocal, IsFor, Holds}

-- ---- facts of each, and of one

pub Each-push : (P : Local → Type 0) (ls : List Local) (x : Local) → Each P ls → P x → Each P (ls ++ x ∷ [])
Each-push P [] x h p = (p, tt)
Each-push P (l ∷ ls) x h p = (h.0, Each-push P ls x h.1 p)

pub Each-front : (P : Local → Type 0) (ls : List Local) (x : Local) → Each P (ls ++ x ∷ []) → Each P ls
Each-front P [] x h = tt
Each-front P (l ∷ ls) x h = (h.0, Each-front P ls x h.1)

pub Each-last : (P : Local → Type 0) (ls : List Local) (x : Local) → Each P (ls ++ x ∷ []) → P x
Each-last P [] x h = h.0
Each-last P (l ∷ ls) x h = Each-last P ls x h.1

pub Each-map : (P Q : Local → Type 0) → ((l : Local) → P l → Q l) → (ls : List Local) → Each P ls → Each Q ls
Each-map P Q f [] h = tt
Each-map P Q f (l ∷ ls) h = (f l h.0, Each-map P Q f ls h.1)

pub Each-both : (P Q R : Local → Type 0) → ((l : Local) → P l → Q l → R l) → (ls : List Local) → Each P ls → Each Q ls → Each R ls
Each-both P Q R f [] h k = tt
Each-both P Q R f (l ∷ ls) h k = (f l h.0 k.0, Each-both P Q R f ls h.1 k.1)

pub One-left : (P : Local → Type 0) (ls : List Local) (x : Local) → One P ls → One P (ls ++ x ∷ [])
One-left P [] x h = absurd h
One-left P (l ∷ ls) x (inl p) = inl p
One-left P (l ∷ ls) x (inr h) = inr (One-left P ls x h)

pub One-right : (P : Local → Type 0) (ls : List Local) (x : Local) → P x → One P (ls ++ x ∷ [])
One-right P [] x p = inl p
One-right P (l ∷ ls) x p = inr (One-right P ls x p)

pub One-cases : (P : Local → Type 0) (ls : List Local) (x : Local) → One P (ls ++ x ∷ []) → One P ls ⊎ P x
One-cases P [] x (inl p) = inr p
One-cases P [] x (inr h) = absurd h
One-cases P (l ∷ ls) x (inl p) = inl (inl p)
One-cases P (l ∷ ls) x (inr h) = elim (One-cases P ls x h) [ inl q ↦ inl (inr q) | inr p ↦ inr p ]

-- what is known of the one, by what is known of each
pub One-gives : (P Q : Local → Type 0) (R : Type 0) → ((l : Local) → P l → Q l → R) → (ls : List Local) → One P ls → Each Q ls → R
One-gives P Q R f [] h k = absurd h
One-gives P Q R f (l ∷ ls) (inl p) k = f l p k.0
One-gives P Q R f (l ∷ ls) (inr h) k = One-gives P Q R f ls h k.1

pub One-with : (P Q R : Local → Type 0) → ((l : Local) → P l → Q l → R l) → (ls : List Local) → One P ls → Each Q ls → One R ls
One-with P Q R f [] h k = absurd h
One-with P Q R f (l ∷ ls) (inl p) k = inl (f l p k.0)
One-with P Q R f (l ∷ ls) (inr h) k = inr (One-with P Q R f ls h k.1)

-- ---- the last one

pub Hide-push : (shows : List ℕ → Option ℕ) (ls : List Local) (x : Local) → Hide shows ls → x.hides ≡ shown_after shows ls x.name.now → Hide shows (ls ++ x ∷ [])
Hide-push shows [] x h e = (e, tt)
Hide-push shows (l ∷ ls) x h e = (h.0, Hide-push (shown_with shows l) ls x h.1 e)

pub Hide-front : (shows : List ℕ → Option ℕ) (ls : List Local) (x : Local) → Hide shows (ls ++ x ∷ []) → Hide shows ls
Hide-front shows [] x h = tt
Hide-front shows (l ∷ ls) x h = (h.0, Hide-front (shown_with shows l) ls x h.1)

pub Hide-last : (shows : List ℕ → Option ℕ) (ls : List Local) (x : Local) → Hide shows (ls ++ x ∷ []) → x.hides ≡ shown_after shows ls x.name.now
Hide-last shows [] x h = h.0
Hide-last shows (l ∷ ls) x h = Hide-last (shown_with shows l) ls x h.1

pub shown_after-push : (shows : List ℕ → Option ℕ) (ls : List Local) (x : Local) (name : List ℕ) → shown_after shows (ls ++ x ∷ []) name ≡ shown_with (shown_after shows ls) x name
shown_after-push shows [] x name = refl
shown_after-push shows (l ∷ ls) x name = shown_after-push (shown_with shows l) ls x name

pub Nest-push : (depth : ℕ → ℕ) (ls : List Local) (x : Local) → Nest depth ls → Each (λ l. IsAround depth l x) ls → Nest depth (ls ++ x ∷ [])
Nest-push depth [] x h a = (tt, tt)
Nest-push depth (l ∷ ls) x h a = (Each-push (IsAround depth l) ls x h.0 a.0, Nest-push depth ls x h.1 a.1)

pub Nest-front : (depth : ℕ → ℕ) (ls : List Local) (x : Local) → Nest depth (ls ++ x ∷ []) → Nest depth ls
Nest-front depth [] x h = tt
Nest-front depth (l ∷ ls) x h = (Each-front (IsAround depth l) ls x h.0, Nest-front depth ls x h.1)

pub Nest-last : (depth : ℕ → ℕ) (ls : List Local) (x : Local) → Nest depth (ls ++ x ∷ []) → Each (λ l. IsAround depth l x) ls
Nest-last depth [] x h = tt
Nest-last depth (l ∷ ls) x h = (Each-last (IsAround depth l) ls x h.0, Nest-last depth ls x h.1)

-- ---- what a name shows

pub shown_with-same : (shows : List ℕ → Option ℕ) (l : Local) (name : List ℕ) → name ≡ l.name.now → shown_with shows l name ≡ Some l.mark
shown_with-same shows l name e = ap (λ b. cond b (Some l.mark) (shows name)) ((bytes_eq-Decides name l.name.now).1 e)

pub shown_with-other : (shows : List ℕ → Option ℕ) (l : Local) (name : List ℕ) → name ≢ l.name.now → shown_with shows l name ≡ shows name
shown_with-other shows l name n = by (pointwise nat_eq name l.name.now) (bytes_eq-Decides name l.name.now)
  where
    by : (b : Bool) → Decides b (name ≡ l.name.now) → cond b (Some l.mark) (shows name) ≡ shows name
    by true d = absurd (n (d.0 refl))
    by false d = refl

-- what is shown comes from before or from one of them
pub shown_after-from : (shows : List ℕ → Option ℕ) (ls : List Local) (name : List ℕ) (o : ℕ) → shown_after shows ls name ≡ Some o → (shows name ≡ Some o) ⊎ One (λ l. (l.name.now ≡ name) × (l.mark ≡ o)) ls
shown_after-from shows [] name o e = inl e
shown_after-from shows (l ∷ ls) name o e = elim (shown_after-from (shown_with shows l) ls name o e) [ inl f ↦ by (pointwise nat_eq name l.name.now) (bytes_eq-Decides name l.name.now) f | inr h ↦ inr (inr h) ]
  where
    some : (x y : ℕ) → Some x ≡ Some y → x ≡ y
    some x y e = cc

    by : (b : Bool) → Decides b (name ≡ l.name.now) → cond b (Some l.mark) (shows name) ≡ Some o → (shows name ≡ Some o) ⊎ One (λ r. (r.name.now ≡ name) × (r.mark ≡ o)) (l ∷ ls)
    by true d f = inr (inl (sym (d.0 refl), some l.mark o f))
    by false d f = inl f

-- ---- the innermost one

module _ (named : List ℕ → ℕ → Type 0) (depth : ℕ → ℕ) (among : ℕ → Type 0) (name : List ℕ) where
  -- this one is innermost, and the first there
  abbrev pub Outranks : ℕ → ℕ → Type 0
  Outranks i k = (depth k < depth i) ⊎ ((depth k ≡ depth i) × (i ≤ k))

  abbrev pub IsBest : ℕ → Type 0
  IsBest i = named name i × among i × ((k : ℕ) → named name k → among k → Outranks i k)

  abbrev pub IsNone : Type 0
  IsNone = (k : ℕ) → named name k → ¬ among k

  abbrev Covers : Option ℕ → ℕ → Type 0
  Covers o k = MatchOption o ⊥ (λ i. Outranks i k)

  abbrev Owns : Option ℕ → List Local → Type 0
  Owns o ls = MatchOption o (Unit {0}) (λ i. named name i × among i × Each (λ l. l.name.now ≡ name → depth i < depth l.mark) ls)

  best-from : (shows : List ℕ → Option ℕ) (ls : List Local) → Owns (shows name) ls → ((k : ℕ) → named name k → among k → Covers (shows name) k ⊎ One (IsFor depth name k) ls)
      → Each (IsLocal named depth among) ls → Nest depth ls → MatchOption (shown_after shows ls name) IsNone IsBest
  best-from shows [] own cov sound nest = by (shows name) own cov
    where
      by : (o : Option ℕ) → Owns o [] → ((k : ℕ) → named name k → among k → Covers o k ⊎ ⊥) → MatchOption o IsNone IsBest
      by None own cov = λ k n a. elim (cov k n a) [ inl c ↦ c | inr c ↦ c ]
      by (Some i) own cov = (own.0, own.1, λ k n a. elim (cov k n a) [ inl c ↦ c | inr c ↦ absurd c ])
  best-from shows (l ∷ ls) own cov sound nest =
      let d = bytes_eq-Decides name l.name.now in
      best-from (shown_with shows l) ls
      (owns (pointwise nat_eq name l.name.now) d (shows name) own)
      (λ k n a. covers (pointwise nat_eq name l.name.now) d (shows name) own k (cov k n a))
      sound.1 nest.1
    where
      owns : (b : Bool) → Decides b (name ≡ l.name.now) → (o : Option ℕ) → Owns o (l ∷ ls) → Owns (cond b (Some l.mark) o) ls
      owns true d o own = (
        subst (λ n. named n l.mark) (sym (d.0 refl)) sound.0.0,
        sound.0.1,
        Each-map (IsAround depth l) (λ r. r.name.now ≡ name → depth l.mark < depth r.mark) (λ r around e. around.1 (sym (d.0 refl) ∙ sym e)) ls nest.0,
      )
      owns false d None own = tt
      owns false d (Some i) own = (own.0, own.1, own.2.1)

      covers : (b : Bool) → Decides b (name ≡ l.name.now) → (o : Option ℕ) → Owns o (l ∷ ls) → (k : ℕ) → Covers o k ⊎ One (IsFor depth name k) (l ∷ ls) → Covers (cond b (Some l.mark) o) k ⊎ One (IsFor depth name k) ls
      covers true d None own k (inl c) = absurd c
      covers true d (Some i) own k (inl (inl less)) = let above : depth i < depth l.mark = own.2.0 (sym (d.0 refl)) in inl (inl (omega arith))
      covers true d (Some i) own k (inl (inr same)) = let above : depth i < depth l.mark = own.2.0 (sym (d.0 refl)) in let e : depth k ≡ depth i = same.0 in inl (inl (omega arith))
      covers true d o own k (inr (inl this)) = inl (inr (sym this.1, this.2))
      covers true d o own k (inr (inr h)) = inr h
      covers false d o own k (inl c) = inl c
      covers false d o own k (inr (inl this)) = absurd (false≢true (d.1 (sym this.0)))
      covers false d o own k (inr (inr h)) = inr h

zero_or_above : (n : ℕ) → (n ≡ 0) ⊎ (0 < n)
zero_or_above zero = inl refl
zero_or_above (suc n) = inr (omega arith)

-- what the file scope says of each name
abbrev pub IsFile : (List ℕ → ℕ → Type 0) → (ℕ → ℕ) → (List ℕ → Option ℕ) → Type 0
IsFile named depth file = (name : List ℕ) → IsFirstOf (λ k. named name k × (depth k ≡ 0)) (file name)

module _ (named : List ℕ → ℕ → Type 0) (depth : ℕ → ℕ) (among : ℕ → Type 0) (file table : List ℕ → Option ℕ) (ls : List Local) where
  -- the table shows the innermost declaration of each name
  pub best : Holds named depth among among file table ls → IsFile named depth file → ((i : ℕ) → depth i ≡ 0 → among i)
      → (name : List ℕ) → MatchOption (table name) (IsNone named depth among name) (IsBest named depth among name)
  best h f flat name =
      subst (λ o. MatchOption o (IsNone named depth among name) (IsBest named depth among name)) (sym (h.shows name))
      (best-from named depth among name file ls (owns (file name) (f name)) (λ k n a. covers (file name) (f name) k n a (zero_or_above (depth k))) h.sound h.nest)
    where
      owns : (o : Option ℕ) → IsFirstOf (λ k. named name k × (depth k ≡ 0)) o → Owns named depth among name o ls
      owns None first = tt
      owns (Some i) first = (
        first.0.0,
        flat i first.0.1,
        Each-map (IsLocal named depth among) (λ l. l.name.now ≡ name → depth i < depth l.mark) (λ l local e. let z : depth i ≡ 0 = first.0.1 in let above : 0 < depth l.mark = local.2 in omega arith) ls h.sound,
      )

      covers : (o : Option ℕ) → IsFirstOf (λ k. named name k × (depth k ≡ 0)) o → (k : ℕ) → named name k → among k → (depth k ≡ 0) ⊎ (0 < depth k) → Covers named depth among name o k ⊎ One (IsFor depth name k) ls
      covers None first k n a (inl z) = absurd (first k (n, z))
      covers (Some i) first k n a (inl z) = inl (inr (z ∙ sym first.0.1, first.1 k (n, z)))
      covers o first k n a (inr above) = inr (h.complete name k n a above)

-- ---- how they change

module _ (named : List ℕ → ℕ → Type 0) (depth : ℕ → ℕ) (file : List ℕ → Option ℕ) where
  -- fewer facts
  pub Holds-weaker : (among all among' all' : ℕ → Type 0) (table : List ℕ → Option ℕ) (ls : List Local) → ((i : ℕ) → among i → among' i) → ((i : ℕ) → all' i → all i)
      → Holds named depth among all file table ls → Holds named depth among' all' file table ls
  Holds-weaker among all among' all' table ls wider fewer h = record {
    shows = h.shows;
    hides = h.hides;
    sound = Each-map (IsLocal named depth among) (IsLocal named depth among') (λ l local. (local.0, wider l.mark local.1, local.2)) ls h.sound;
    nest = h.nest;
    complete = λ name i n a above. h.complete name i n (fewer i a) above;
  }

  -- the last one is left, where it is too deep
  pub Holds-pop : (among all : ℕ → Type 0) (limit : ℕ) (table table' : List ℕ → Option ℕ) (ls : List Local) (l : Local) → ((i : ℕ) → all i → depth i ≤ limit) → limit < depth l.mark
      → table' l.name.now ≡ l.hides → ((other : List ℕ) → other ≢ l.name.now → table' other ≡ table other)
      → Holds named depth among all file table (ls ++ l ∷ []) → Holds named depth among all file table' ls
  Holds-pop among all limit table table' ls l within deep same others h = record {
    shows = λ name. shows name (pointwise nat_eq name l.name.now) (bytes_eq-Decides name l.name.now);
    hides = Hide-front file ls l h.hides;
    sound = Each-front (IsLocal named depth among) ls l h.sound;
    nest = Nest-front depth ls l h.nest;
    complete = λ name i n a above. elim (One-cases (IsFor depth name i) ls l (h.complete name i n a above)) [ inl one ↦ one | inr for ↦ absurd (let e : depth l.mark ≡ depth i = for.1 in let low : depth i ≤ limit = within i a in omega arith) ];
  }
    where
      shows : (name : List ℕ) (b : Bool) → Decides b (name ≡ l.name.now) → table' name ≡ shown_after file ls name
      shows name true d = let e = d.0 refl in subst (λ n. table' n ≡ shown_after file ls n) (sym e) (same ∙ Hide-last file ls l h.hides)
      shows name false d =
          let n : name ≢ l.name.now = λ e. false≢true (d.1 e) in
          others name n ∙ (h.shows name ∙ (shown_after-push file ls l name ∙ shown_with-other (shown_after file ls) l name n))

  -- once the last one is not too deep, none is
  pub Holds-left : (among all : ℕ → Type 0) (limit : ℕ) (table : List ℕ → Option ℕ) (ls : List Local)
      → ((front : List Local) (l : Local) → ls ≡ front ++ l ∷ [] → depth l.mark ≤ limit)
      → Holds named depth among all file table ls → Holds named depth (λ i. among i × (depth i ≤ limit)) all file table ls
  Holds-left among all limit table ls last h = record {
    shows = h.shows;
    hides = h.hides;
    sound = by (ends ls);
    nest = h.nest;
    complete = h.complete;
  }
    where
      ends : (xs : List Local) → (xs ≡ []) ⊎ ((front : List Local) × (l : Local) × (xs ≡ front ++ l ∷ []))
      ends [] = inl refl
      ends (x ∷ xs) = elim (ends xs) [ inl e ↦ inr ([], x, ap (λ ys. x ∷ ys) e) | inr s ↦ inr (x ∷ s.0, s.1, ap (λ ys. x ∷ ys) s.2) ]

      by : (ls ≡ []) ⊎ ((front : List Local) × (l : Local) × (ls ≡ front ++ l ∷ [])) → Each (IsLocal named depth (λ i. among i × (depth i ≤ limit))) ls
      by (inl e) = subst (Each (IsLocal named depth (λ i. among i × (depth i ≤ limit)))) (sym e) tt
      by (inr s) =
          let front = s.0 in
          let l = s.1 in
          let top : depth l.mark ≤ limit = last front l s.2 in
          let sound = subst (Each (IsLocal named depth among)) s.2 h.sound in
          let around = Nest-last depth front l (subst (Nest depth) s.2 h.nest) in
          subst (Each (IsLocal named depth (λ i. among i × (depth i ≤ limit)))) (sym s.2)
          (Each-push (IsLocal named depth (λ i. among i × (depth i ≤ limit))) front l
          (Each-both (IsLocal named depth among) (λ r. IsAround depth r l) (IsLocal named depth (λ i. among i × (depth i ≤ limit))) (λ r local below. (local.0, (local.1, let b : depth r.mark ≤ depth l.mark = below.0 in omega arith), local.2)) front (Each-front (IsLocal named depth among) front l sound) around)
          (let local = Each-last (IsLocal named depth among) front l sound in (local.0, (local.1, top), local.2)))

  module _ (among : ℕ → Type 0) (at : ℕ) (name : List ℕ) (here : named name at) (only : (other : List ℕ) → named other at → other ≡ name)
      (table : List ℕ → Option ℕ) (ls : List Local) (f : IsFile named depth file) where
    -- a name that its scope declares already
    pub Holds-again : (o : ℕ) → table name ≡ Some o → depth o ≡ depth at → ((i : ℕ) → among i → 0 < depth i → i < at)
        → Holds named depth among among file table ls → Holds named depth (λ i. among i ⊎ (i ≡ at)) (λ i. among i ⊎ (i ≡ at)) file table ls
    Holds-again o shown same before h = record {
      shows = h.shows;
      hides = h.hides;
      sound = Each-map (IsLocal named depth among) (IsLocal named depth (λ i. among i ⊎ (i ≡ at))) (λ l local. (local.0, inl local.1, local.2)) ls h.sound;
      nest = h.nest;
      complete = complete;
    }
      where
        there : (shown_name : List ℕ) → shown_name ≡ name → 0 < depth at → (file name ≡ Some o) ⊎ One (λ l. (l.name.now ≡ name) × (l.mark ≡ o)) ls → One (IsFor depth shown_name at) ls
        there n e above (inl of_file) = absurd (no (file name) of_file (f name))
          where
            no : (x : Option ℕ) → x ≡ Some o → IsFirstOf (λ k. named name k × (depth k ≡ 0)) x → ⊥
            no None p first = absurd (let q : None ≡ Some o = p in cc)
            no (Some k) p first = let q : k ≡ o = some k o p in let z : depth k ≡ 0 = first.0.1 in let same' : depth k ≡ depth o = ap depth q in omega (arith, z, same', same, above)
              where
                some : (x y : ℕ) → Some x ≡ Some y → x ≡ y
                some x y r = cc
        there n e above (inr one) = One-with (λ l. (l.name.now ≡ name) × (l.mark ≡ o)) (IsLocal named depth among) (IsFor depth n at)
            (λ l p local. let d : depth l.mark ≡ depth o = ap depth p.1 in let b : l.mark < at = before l.mark local.1 local.2 in (p.0 ∙ sym e, d ∙ same, omega arith)) ls one h.sound

        complete : (other : List ℕ) (i : ℕ) → named other i → among i ⊎ (i ≡ at) → 0 < depth i → One (IsFor depth other i) ls
        complete other i n (inl a) above = h.complete other i n a above
        complete other i n (inr e) above =
            let n' : named other at = subst (named other) e n in
            let above' : 0 < depth at = subst (λ k. 0 < depth k) e above in
            subst (λ k. One (IsFor depth other k) ls) (sym e)
            (there other (only other n') above' (shown_after-from file ls name o (sym (h.shows name) ∙ shown)))

    -- a name that its scope has not declared yet
    pub Holds-new : (table' : List ℕ → Option ℕ) (x : Local) → x.name.now ≡ name → x.mark ≡ at → x.hides ≡ table name
        → ((o : ℕ) → table name ≡ Some o → depth o ≢ depth at) → table' name ≡ Some at → ((other : List ℕ) → other ≢ name → table' other ≡ table other)
        → ((i : ℕ) → depth i ≡ 0 → among i) → ((i : ℕ) → among i → depth i ≤ depth at)
        → Holds named depth among among file table ls → Holds named depth (λ i. among i ⊎ (i ≡ at)) (λ i. among i ⊎ (i ≡ at)) file table' (ls ++ x ∷ [])
    Holds-new table' x spelled marked hides new same others flat low h = record {
      shows = λ other. shows other (pointwise nat_eq other x.name.now) (bytes_eq-Decides other x.name.now);
      hides = Hide-push file ls x h.hides (hides ∙ (h.shows name ∙ ap (shown_after file ls) (sym spelled)));
      sound = Each-push (IsLocal named depth both) ls x (Each-map (IsLocal named depth among) (IsLocal named depth both) (λ l local. (local.0, inl local.1, local.2)) ls h.sound) this;
      nest = Nest-push depth ls x h.nest (Each-map (IsLocal named depth among) (λ l. IsAround depth l x) around ls h.sound);
      complete = complete;
    }
      where
        both : ℕ → Type 0
        both i = among i ⊎ (i ≡ at)

        shows : (other : List ℕ) (b : Bool) → Decides b (other ≡ x.name.now) → table' other ≡ shown_after file (ls ++ x ∷ []) other
        shows other true d =
            let e = d.0 refl in
            let e' : other ≡ name = e ∙ spelled in
            subst (λ n. table' n ≡ Some at) (sym e') same ∙ (ap (λ m. Some m) (sym marked) ∙ (sym (shown_with-same (shown_after file ls) x other e) ∙ sym (shown_after-push file ls x other)))
        shows other false d =
            let n : other ≢ x.name.now = λ e. false≢true (d.1 e) in
            others other (λ e. n (e ∙ sym spelled)) ∙ (h.shows other ∙ (sym (shown_with-other (shown_after file ls) x other n) ∙ sym (shown_after-push file ls x other)))

        ranks : MatchOption (table name) (IsNone named depth among name) (IsBest named depth among name)
        ranks = best named depth among file table ls h f flat name

        -- a visible declaration of the name lies in another scope
        other_scope : (o : Option ℕ) → table name ≡ o → MatchOption o (IsNone named depth among name) (IsBest named depth among name) → (k : ℕ) → named name k → among k → depth k ≢ depth at
        other_scope None e b k n a same_depth = absurd (b k n a)
        other_scope (Some i) e b k n a same_depth =
            let top : depth i ≤ depth at = low i b.1 in
            let apart : depth i ≢ depth at = new i e in
            elim (b.2 k n a) [ inl less ↦ (let less' : depth k < depth i = less in omega arith) | inr tie ↦ apart (sym tie.0 ∙ same_depth) ]

        above : 0 < depth at
        above = elim (zero_or_above (depth at)) [ inl z ↦ absurd (other_scope (table name) refl ranks at here (flat at z) refl) | inr p ↦ p ]

        this : IsLocal named depth both x
        this = (
          subst (λ n. named n x.mark) (sym spelled) (subst (named name) (sym marked) here),
          inr marked,
          subst (λ k. 0 < depth k) (sym marked) above,
        )

        around : (l : Local) → IsLocal named depth among l → IsAround depth l x
        around l local =
            let below : depth l.mark ≤ depth at = low l.mark local.1 in
            let level : depth x.mark ≡ depth at = ap depth marked in (
              omega (arith, below, level),
              λ e. let n : named name l.mark = subst (λ m. named m l.mark) (e ∙ spelled) local.0 in
                  let apart : depth l.mark ≢ depth at = other_scope (table name) refl ranks l.mark n local.1 in
                  omega (arith, below, level, apart),
            )

        complete : (other : List ℕ) (i : ℕ) → named other i → both i → 0 < depth i → One (IsFor depth other i) (ls ++ x ∷ [])
        complete other i n (inl a) high = One-left (IsFor depth other i) ls x (h.complete other i n a high)
        complete other i n (inr e) high =
            let n' : named other at = subst (named other) e n in
            One-right (IsFor depth other i) ls x (spelled ∙ sym (only other n'), ap depth (marked ∙ sym e), let m : x.mark ≡ i = marked ∙ sym e in omega arith)
