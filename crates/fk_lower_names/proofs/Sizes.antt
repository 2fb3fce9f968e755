-- Each type that is declared has words, at least one, and each member lies within the words of its struct.
use Rattle.std.proofs.Common.{◌≡◌, inl, inr, ℕ, zero, suc, ◌+◌, ◌*◌, ◌<◌, ◌≤◌, Bool, true, false, ◌||◌, cond, List, [], ◌∷◌, length, map, take, Option, Some, None, unwrap_or, slice_get, refl, sym, ap, subst, ◌∙◌, arith}
use Rattle.std.specs.Prelude.{◌==◌}
use Rattle.std.specs.Option.{option_map, option_and_then}
use Rattle.std.proofs.lemmas.Bool.{cases_eq, cases_order, eqb-true, eq-eqb, or_cases, false≢true}
use Rattle.std.proofs.lemmas.Option.{same_Some, slice_get-map, slice_get_within}
use Rattle.fk_syntax.specs.Tree as t
use Rattle.fk_syntax.specs.Tree.{BaseType}
use Rattle.fk_syntax.specs.Program.{DeclaredTree}
use Rattle.fk_check_rules.specs.declared.rule.Rule.TheVariants as rules
use Rattle.fk_types_graph.specs.Graph.{Walk, LeadsTo}
use Rattle.fk_types_name_rules.proofs.ListLemmas.{some_at}
use Rattle.fk_types_structs.specs.declared.types.Root.{Root}
use Rattle.fk_types_structs.specs.declared.types.Root.TheVariants as r
use Rattle.fk_types_structs.specs.declared.types.DataType.{DataType}
use Rattle.fk_types_structs.specs.Types.{StructTree, first_of, struct_named, root_of, type_declared, names_of, member_types, member_type, all_types}
use Rattle.fk_types_structs.specs.Words.{Sizes, element_words, type_words, plus, total_words, words_within}
use Rattle.fk_types_structs.specs.Sizes.{HasTypeWords, HasOffset}
use Rattle.fk_types_structs.proofs.WordLemmas.{one-type}
use Rattle.fk_types_struct_rules.specs.Declarations.{DeclarationBreaks}
use Rattle.fk_types_struct_rules.specs.Structs.{held_by, held_at, Holds, StructsBreak, whole}
use Rattle.fk_check_laws.proofs.Typed.{Unbroken}

-- ---- how many of the first numbers are not seen yet

abbrev unless : Bool → ℕ
unless b = cond b 0 1

abbrev left : (ℕ → Bool) → ℕ → ℕ
left seen zero = 0
left seen (suc n) = unless (seen n) + left seen n

abbrev with_seen : (ℕ → Bool) → ℕ → ℕ → Bool
with_seen seen i k = seen k || (k == i)

fewer_one : (a b : Bool) → unless (a || b) ≤ unless a
fewer_one true b = omega arith
fewer_one false true = omega arith
fewer_one false false = omega arith

no_more : (seen : ℕ → Bool) (i n : ℕ) → left (with_seen seen i) n ≤ left seen n
no_more seen i zero = omega arith
no_more seen i (suc n) = omega (arith, no_more seen i n, fewer_one (seen n) (n == i))

fewer : (seen : ℕ → Bool) (i n : ℕ) → seen i ≡ false → i < n → left (with_seen seen i) n < left seen n
fewer seen i zero new low = absurd (omega (arith, low))
fewer seen i (suc n) new low = elim (cases_eq n i) [
  | inl same ↦
      let now : (seen n || (n == i)) ≡ true = by (seen n) (n == i) (eq-eqb n i same) in
      omega (arith, no_more seen i n, ap unless now, ap unless (ap seen same ∙ new))
  | inr other ↦ omega (arith, fewer seen i n new (omega (arith, low, other)), fewer_one (seen n) (n == i))
]
  where
    by : (a b : Bool) → b ≡ true → (a || b) ≡ true
    by true b e = refl
    by false b e = e

some_left : (seen : ℕ → Bool) (i n : ℕ) → seen i ≡ false → i < n → 1 ≤ left seen n
some_left seen i n new low = omega (arith, fewer seen i n new low)

-- ---- types with words

abbrev pub IsRoot : (structs : List StructTree) → Root → (stars : ℕ) → Type 0
IsRoot structs r.Int stars = Unit {0}
IsRoot structs r.Unsigned stars = Unit {0}
IsRoot structs r.Void zero = ⊥
IsRoot structs r.Void (suc stars) = Unit {0}
IsRoot structs (r.Struct i) zero = i < length structs
IsRoot structs (r.Struct i) (suc stars) = Unit {0}

-- a type that may be declared
pub record IsSound (structs : List StructTree) (type : DataType) : Type 0 where
  pub root : IsRoot structs type.root type.stars
  pub length : (n : ℕ) → type.length ≡ Some n → 1 ≤ n

pub record HasSound (structs : List StructTree) (d : DeclaredTree) : Type 0 where
  pub type : DataType
  pub is : type_declared structs d ≡ Some type
  pub sound : IsSound structs type

pub first_within : (text : List ℕ) (names : List (List ℕ)) (i : ℕ) → first_of text names ≡ Some i → i < length names
first_within text [] i e = absurd (cc)
first_within text (name ∷ names) i e = by _ (first_of text names) (λ k found. first_within text names k found) e
  where
    by : (b : Bool) (o : Option ℕ) → ((k : ℕ) → o ≡ Some k → k < length names) → cond b (Some 0) (option_map suc o) ≡ Some i → i < suc (length names)
    by true o found is = omega (arith, same_Some 0 i is)
    by false None found is = absurd (cc)
    by false (Some k) found is = omega (arith, found k refl, same_Some (suc k) i is)

names_long : (structs : List StructTree) → length (names_of structs) ≡ length structs
names_long [] = refl
names_long (s ∷ structs) = ap suc (names_long structs)

module _ (structs : List StructTree) where
  pub has_sound : (d : DeclaredTree) → Unbroken (DeclarationBreaks structs d) → HasSound structs d
  has_sound d un = by d.kind.base refl d.kind.stars refl
    where
      long : (n : ℕ) → d.length ≡ Some n → 1 ≤ n
      long zero e = absurd (un d.name.place rules.WrongSize (inr (inr (refl, (inl (0, e, inl refl), refl)))))
      long (suc n) e = omega arith

      sound : (root : Root) → root_of structs d.kind.base ≡ Some root → IsRoot structs root d.kind.stars → HasSound structs d
      sound root is right = record {
        type = record { root = root; stars = d.kind.stars; length = d.length };
        is = ap (option_map (λ (x : Root). record { root = x; stars = d.kind.stars; length = d.length })) is;
        sound = record { root = right; length = long };
      }

      of_struct : (name : t.Named) → d.kind.base ≡ t.Struct name → (o : Option ℕ) → struct_named structs name.bytes ≡ o → (stars : ℕ) → d.kind.stars ≡ stars → HasSound structs d
      of_struct name base None none stars e = absurd (un name.place rules.NoStruct (inl (refl, (name, base, none, refl))))
      of_struct name base (Some i) found zero e =
          sound (r.Struct i) (ap (root_of structs) base ∙ ap (option_map r.Struct) found)
          (subst (IsRoot structs (r.Struct i)) (sym e) (omega (arith, first_within name.bytes (names_of structs) i found, names_long structs)))
      of_struct name base (Some i) found (suc stars) e =
          sound (r.Struct i) (ap (root_of structs) base ∙ ap (option_map r.Struct) found) (subst (IsRoot structs (r.Struct i)) (sym e) tt)

      by : (base : BaseType) → d.kind.base ≡ base → (stars : ℕ) → d.kind.stars ≡ stars → HasSound structs d
      by t.Int base stars e = sound r.Int (ap (root_of structs) base) tt
      by t.Unsigned base stars e = sound r.Unsigned (ap (root_of structs) base) tt
      by t.Void base zero e = absurd (un d.name.place rules.NoVariable (inr (inl (refl, ((base, e), refl)))))
      by t.Void base (suc stars) e = sound r.Void (ap (root_of structs) base) (subst (IsRoot structs r.Void) (sym e) tt)
      by (t.Struct name) base stars e = of_struct name base (struct_named structs name.bytes) refl stars e

  -- so many words, at least one
  abbrev Sized : Option ℕ → Type 0
  Sized o = (w : ℕ) × (o ≡ Some w) × (1 ≤ w)

  times_one : (a b : ℕ) → 1 ≤ a → 1 ≤ b → 1 ≤ a * b
  times_one zero b x y = absurd (omega (arith, x))
  times_one (suc a) zero x y = absurd (omega (arith, y))
  times_one (suc a) (suc b) x y = omega arith

  type_sized : (sizes : Sizes) (type : DataType) → IsSound structs type → ((i : ℕ) → held_by type.root type.stars ≡ Some i → i < length structs → Sized (sizes i)) → Sized (type_words sizes type)
  type_sized sizes type sound go = let e = element type.root type.stars sound.root go in by type.length sound.length (element_words sizes type.root type.stars) e
    where
      element : (root : Root) (stars : ℕ) → IsRoot structs root stars → ((i : ℕ) → held_by root stars ≡ Some i → i < length structs → Sized (sizes i)) → Sized (element_words sizes root stars)
      element r.Int zero right go = (1, refl, omega arith)
      element r.Int (suc stars) right go = (1, refl, omega arith)
      element r.Unsigned zero right go = (1, refl, omega arith)
      element r.Unsigned (suc stars) right go = (1, refl, omega arith)
      element r.Void zero right go = absurd right
      element r.Void (suc stars) right go = (1, refl, omega arith)
      element (r.Struct i) zero right go = go i refl right
      element (r.Struct i) (suc stars) right go = (1, refl, omega arith)

      by : (size : Option ℕ) → ((n : ℕ) → size ≡ Some n → 1 ≤ n) → (o : Option ℕ) → Sized o → Sized (option_map (λ n. n * unwrap_or size 1) o)
      by None long o h = (h.0 * 1, ap (option_map (λ n. n * 1)) h.1, omega (arith, h.2))
      by (Some n) long o h = (h.0 * n, ap (option_map (λ k. k * n)) h.1, times_one h.0 n h.2 (long n refl))

  -- members one after the other have at least as many words as there are
  all_sized : (sizes : Sizes) (ds : List DeclaredTree) → ((place : ℕ) (d : DeclaredTree) → slice_get ds place ≡ Some d → Sized (option_and_then (type_words sizes) (type_declared structs d)))
      → (w : ℕ) × (total_words sizes (map (type_declared structs) ds) ≡ Some w) × (length ds ≤ w)
  all_sized sizes [] go = (0, refl, omega arith)
  all_sized sizes (d ∷ ds) go =
      let first = go 0 d refl in
      let others = all_sized sizes ds (λ place e at. go (suc place) e at) in
      (first.0 + others.0, ap (λ o. plus o (total_words sizes (map (type_declared structs) ds))) first.1 ∙ ap (plus (Some first.0)) others.1, omega (arith, first.2, others.2))

  appended : (Step : ℕ → ℕ → Type 0) (steps a b c : ℕ) → Walk Step steps a b → Step b c → Walk Step (suc steps) a c
  appended Step zero a b c walk step = (c, subst (λ k. Step k c) (sym walk) step, refl)
  appended Step (suc steps) a b c walk step = (walk.0, walk.1, appended Step steps walk.0 b c walk.2 step)

  types_at : (i : ℕ) (s : StructTree) → slice_get structs i ≡ Some s → slice_get (all_types structs) i ≡ Some (member_types structs s)
  types_at i s at = slice_get-map (member_types structs) structs i ∙ ap (option_map (member_types structs)) at

  module _ (un : Unbroken (StructsBreak structs)) (full : (i : ℕ) (s : StructTree) → slice_get structs i ≡ Some s → 1 ≤ length s.members) where
    pub member_right : (i place : ℕ) (s : StructTree) (d : DeclaredTree) → slice_get structs i ≡ Some s → slice_get s.members place ≡ Some d → Unbroken (DeclarationBreaks structs d)
    member_right i place s d at there spot rule broken = un spot rule (inr (i, s, at, inr (place, d, there, inr broken)))

    never_itself : (i : ℕ) (s : StructTree) → slice_get structs i ≡ Some s → LeadsTo (Holds structs) i i → ⊥
    never_itself i s at holds = un s.name.place rules.NoStruct (inl (i, s, at, (refl, (holds, refl))))

    -- no struct holds itself, so each has words after so many steps as there are structs that aren't seen to hold it
    abbrev AreSized : (fuel : ℕ) → Type 0
    AreSized fuel =
        (seen : ℕ → Bool) (i : ℕ) → left seen (length structs) ≤ fuel → i < length structs → ((k : ℕ) → seen k ≡ true → LeadsTo (Holds structs) k i)
        → Sized (words_within fuel (all_types structs) i)

    module _ (seen : ℕ → Bool) (i : ℕ) (low : i < length structs) (leads : (k : ℕ) → seen k ≡ true → LeadsTo (Holds structs) k i) (s : StructTree) (at : slice_get structs i ≡ Some s) where
      new : seen i ≡ false
      new = by (seen i) refl
        where
          by : (b : Bool) → seen i ≡ b → seen i ≡ false
          by true old = absurd (never_itself i s at (leads i old))
          by false e = e

      next : (place j : ℕ) → held_at structs i place ≡ Some j → (k : ℕ) → with_seen seen i k ≡ true → LeadsTo (Holds structs) k j
      next place j held k old = elim (or_cases (seen k) (k == i) old) [
        | inl before ↦ let walk = leads k before in (suc walk.0, appended (Holds structs) (suc walk.0) k i j walk.1 (place, held))
        | inr here ↦ (0, (j, subst (λ x. Holds structs x j) (sym (eqb-true k i here)) (place, held), refl))
      ]

      member_sized : (fuel : ℕ) → left seen (length structs) ≤ suc fuel → AreSized fuel → (place : ℕ) (d : DeclaredTree) → slice_get s.members place ≡ Some d → HasSound structs d
          → Sized (option_and_then (type_words (words_within fuel (all_types structs))) (type_declared structs d))
      member_sized fuel few go place d there has =
          let type = has.type in
          let member : member_type structs i place ≡ Some type =
          ap (option_and_then (λ (x : StructTree). option_and_then (type_declared structs) (slice_get x.members place))) at
          ∙ ap (option_and_then (type_declared structs)) there ∙ has.is in
          let words = type_sized (words_within fuel (all_types structs)) type has.sound
          (λ j e inside. go (with_seen seen i) j (omega (arith, fewer seen i (length structs) new low, few)) inside
          (next place j (ap (option_and_then (λ (x : DataType). held_by x.root x.stars)) member ∙ e))) in
          (words.0, ap (option_and_then (type_words (words_within fuel (all_types structs)))) has.is ∙ words.1, words.2)

      one_sized : (fuel : ℕ) → left seen (length structs) ≤ suc fuel → AreSized fuel → Sized (words_within (suc fuel) (all_types structs) i)
      one_sized fuel few go =
          let all = all_sized (words_within fuel (all_types structs)) s.members
          (λ place d there. member_sized fuel few go place d there (has_sound d (member_right i place s d at there))) in
          (all.0, ap (option_and_then (total_words (words_within fuel (all_types structs)))) (types_at i s at) ∙ all.1, omega (arith, all.2, full i s at))

    sized : (fuel : ℕ) → AreSized fuel
    sized zero seen i few low leads =
        let found = some_at structs i low in
        absurd (omega (arith, some_left seen i (length structs) (new seen i low leads found.0 found.1) low, few))
    sized (suc fuel) seen i few low leads =
        let found = some_at structs i low in
        one_sized seen i low leads found.0 found.1 fuel few (sized fuel)

    -- a type that may be declared has words
    pub sound_words : (type : DataType) → IsSound structs type → (w : ℕ) × HasTypeWords structs type w × (1 ≤ w)
    sound_words type sound =
        let fuel = left (λ k. false) (length structs) in
        let words = type_sized (words_within fuel (all_types structs)) type sound
        (λ i held low. sized fuel (λ k. false) i (omega arith) low (λ k e. absurd (false≢true e))) in
        (words.0, (fuel, words.1), words.2)

    -- of what is declared they are few
    pub declared_words : (d : DeclaredTree) (type : DataType) → Unbroken (DeclarationBreaks structs d) → type_declared structs d ≡ Some type
        → (w : ℕ) × HasTypeWords structs type w × (1 ≤ w) × (w ≤ 524288)
    declared_words d type right is =
        let has = has_sound d right in
        let one : has.type ≡ type = same_Some has.type type (sym has.is ∙ is) in
        let words = sound_words type (subst (IsSound structs) one has.sound) in
        (words.0, words.1, words.2, few words.0 words.1)
      where
        few : (w : ℕ) → HasTypeWords structs type w → w ≤ 524288
        few w has = elim (cases_order w 524288) [
          | inl same ↦ omega (arith, same)
          | inr (inl less) ↦ omega (arith, less)
          | inr (inr more) ↦ absurd (right d.name.place rules.WrongSize (inr (inr (refl, (inr (type, is, (w, has, more)), refl)))))
        ]

  -- ---- members

  pub one_size : (type : DataType) (m n : ℕ) → HasTypeWords structs type m → HasTypeWords structs type n → m ≡ n
  one_size type m n h k = one-type (all_types structs) type m n h k

  -- what stands before one of several, and the words of that one
  record SplitKind (sizes : Sizes) (types : List (Option DataType)) (place : ℕ) (type : DataType) (w : ℕ) : Type 0 where
    before : ℕ
    own : ℕ
    lies : total_words sizes (take place types) ≡ Some before
    has : type_words sizes type ≡ Some own
    within : before + own ≤ w

  sum_of : (p q : Option ℕ) (w : ℕ) → plus p q ≡ Some w → (a : ℕ) × (b : ℕ) × (p ≡ Some a) × (q ≡ Some b) × (a + b ≡ w)
  sum_of None q w e = absurd (cc)
  sum_of (Some a) None w e = absurd (cc)
  sum_of (Some a) (Some b) w e = (a, b, refl, refl, same_Some (a + b) w e)

  split : (sizes : Sizes) (types : List (Option DataType)) (place : ℕ) (type : DataType) (w : ℕ) → total_words sizes types ≡ Some w → slice_get types place ≡ Some (Some type)
      → SplitKind sizes types place type w
  split sizes [] place type w total at = absurd (cc)
  split sizes (x ∷ types) zero type w total at =
      let s = sum_of (option_and_then (type_words sizes) x) (total_words sizes types) w total in
      record {
        before = 0;
        own = s.0;
        lies = refl;
        has = sym (ap (option_and_then (type_words sizes)) (same_Some x (Some type) at)) ∙ s.2;
        within = omega (arith, s.4);
      }
  split sizes (x ∷ types) (suc place) type w total at =
      let s = sum_of (option_and_then (type_words sizes) x) (total_words sizes types) w total in
      let rest = split sizes types place type s.1 s.3 at in
      record {
        before = s.0 + rest.before;
        own = rest.own;
        lies = ap (λ o. plus o (total_words sizes (take place types))) s.2 ∙ ap (plus (Some s.0)) rest.lies;
        has = rest.has;
        within = let inner = rest.within in omega (arith, s.4, inner);
      }

  -- a member lies so many words behind the beginning of its struct
  pub record Lies (index place : ℕ) (type : DataType) (w : ℕ) : Type 0 where
    pub offset : ℕ
    pub own : ℕ
    pub lies : HasOffset structs index place offset
    pub has : HasTypeWords structs type own
    pub within : offset + own ≤ w

  pub member_lies : (index place : ℕ) (s : StructTree) (d : DeclaredTree) (type : DataType) (w : ℕ) → slice_get structs index ≡ Some s → slice_get s.members place ≡ Some d
      → type_declared structs d ≡ Some type → HasTypeWords structs (whole index) w → Lies index place type w
  member_lies index place s d type w at there is (zero, has) = absurd (cc)
  member_lies index place s d type w at there is (suc depth, has) =
      let all : (k : ℕ) × (words_within (suc depth) (all_types structs) index ≡ Some k) × (k * 1 ≡ w) = once (words_within (suc depth) (all_types structs) index) has in
      let total = sym (ap (option_and_then (total_words (words_within depth (all_types structs)))) (types_at index s at)) ∙ all.1 in
      let here = slice_get-map (type_declared structs) s.members place ∙ ap (option_map (type_declared structs)) there ∙ ap Some is in
      let x = split (words_within depth (all_types structs)) (member_types structs s) place type all.0 total here in
      record {
        offset = x.before;
        own = x.own;
        lies = (s, at, slice_get_within s.members place d there, (depth, x.lies));
        has = (depth, x.has);
        within = let inner = x.within in omega (arith, inner, all.2);
      }
    where
      once : (o : Option ℕ) → option_map (λ n. n * 1) o ≡ Some w → (k : ℕ) × (o ≡ Some k) × (k * 1 ≡ w)
      once None e = absurd (cc)
      once (Some k) e = (k, refl, same_Some (k * 1) w e)
