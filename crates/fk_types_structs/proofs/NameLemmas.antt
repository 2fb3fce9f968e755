-- Where names stand first, and tables of it.
use Rattle.std.proofs.Common.{◌≡◌, ℕ, suc, ◌+◌, Bool, true, false, cond, List, [], ◌∷◌, ◌++◌, Bor, length, ◌<◌, take, get_or, is_some, Option, Some, None, nat_eq, refl, sym, ap, ◌∙◌}
use Rattle.std.specs.Option.{option_map, option_copied}
use Rattle.std.proofs.lemmas.List.{take_more}
use Rattle.std.specs.Map.{lookup}
use Rattle.std.specs.Cmp.Lexicographic.{pointwise}
use Rattle.std.proofs.lemmas.Bool.{false≢true}
use Rattle.std.proofs.lemmas.Slice.Eq.{bytes_eq-Decides}
use Rattle.fk_types_structs.specs.Types.{first_of}
use Rattle.fk_types_structs.specs.View.{Finds}

-- the first of two, where it is there
abbrev or_else : {X : Type 0} → Option X → Option X → Option X
or_else None o = o
or_else (Some x) o = Some x

or_else-none : {X : Type 0} (o : Option X) → or_else o None ≡ o
or_else-none None = refl
or_else-none (Some x) = refl

first_of-push : (text : List ℕ) (names : List (List ℕ)) (name : List ℕ) → first_of text (names ++ name ∷ []) ≡ or_else (first_of text names) (cond (pointwise nat_eq text name) (Some (length names)) None)
first_of-push text [] name = by (pointwise nat_eq text name)
  where
    by : (b : Bool) → cond b (Some 0) (option_map suc None) ≡ cond b (Some 0) None
    by true = refl
    by false = refl
first_of-push text (other ∷ names) name = by (pointwise nat_eq text other) (pointwise nat_eq text name) (first_of text names) (first_of text (names ++ name ∷ [])) (first_of-push text names name)
  where
    by : (b c : Bool) (before after : Option ℕ) → after ≡ or_else before (cond c (Some (length names)) None)
        → cond b (Some 0) (option_map suc after) ≡ or_else (cond b (Some 0) (option_map suc before)) (cond c (Some (length (other ∷ names))) None)
    by true c before after e = refl
    by false true None after e = ap (option_map suc) e
    by false false None after e = ap (option_map suc) e
    by false c (Some x) after e = ap (option_map suc) e

lookup-push : {K X : Type 0} (test : K → Bool) (entries : List (K × X)) (key : K) (value : X) → lookup test (entries ++ (key, value) ∷ []) ≡ or_else (lookup test entries) (cond (test key) (Some value) None)
lookup-push test [] key value = refl
lookup-push test (e ∷ entries) key value = by (test e.0) (lookup-push test entries key value)
  where
    by : (b : Bool) → lookup test (entries ++ (key, value) ∷ []) ≡ or_else (lookup test entries) (cond (test key) (Some value) None)
        → cond b (Some e.1) (lookup test (entries ++ (key, value) ∷ [])) ≡ or_else (cond b (Some e.1) (lookup test entries)) (cond (test key) (Some value) None)
    by true h = refl
    by false h = h

-- a table takes a name that isn't in it yet
pub Finds-new : (entries : List (Bor (List ℕ) × ℕ)) (names : List (List ℕ)) (name : Bor (List ℕ)) → Finds entries names → Finds (entries ++ (name, length names) ∷ []) (names ++ name.now ∷ [])
Finds-new entries names name h text =
    lookup-push (λ n. pointwise nat_eq text n.now) entries name (length names)
    ∙ ap (λ o. or_else o (cond (pointwise nat_eq text name.now) (Some (length names)) None)) (h text)
    ∙ sym (first_of-push text names name.now)

-- and has one that is in it already
pub Finds-old : (entries : List (Bor (List ℕ) × ℕ)) (names : List (List ℕ)) (name : List ℕ) (place : ℕ) → lookup (λ n. pointwise nat_eq name n.now) entries ≡ Some place → Finds entries names → Finds entries (names ++ name ∷ [])
Finds-old entries names name place there h text = by (pointwise nat_eq text name) refl ∙ sym (first_of-push text names name)
  where
    by : (b : Bool) → pointwise nat_eq text name ≡ b → lookup (λ n. pointwise nat_eq text n.now) entries ≡ or_else (first_of text names) (cond (pointwise nat_eq text name) (Some (length names)) None)
    by true e = let same : text ≡ name = (bytes_eq-Decides text name).0 e in
        let first : first_of text names ≡ Some place = sym (h text) ∙ ap (λ t. lookup (λ n. pointwise nat_eq t n.now) entries) same ∙ there in
        h text ∙ first ∙ ap (λ o. or_else o (cond (pointwise nat_eq text name) (Some (length names)) None)) (sym first)
    by false e = h text ∙ sym (or_else-none (first_of text names)) ∙ ap (λ b. or_else (first_of text names) (cond b (Some (length names)) None)) (sym e)

-- what an answer of a table says
module _ (r : Option (Bor ℕ)) (looked : Option ℕ) (value : option_copied r ≡ looked) where
  pub looked-some : is_some r ≡ true → (place : ℕ) × (looked ≡ Some place)
  looked-some e = by r refl
    where
      by : (o : Option (Bor ℕ)) → r ≡ o → (place : ℕ) × (looked ≡ Some place)
      by None n = absurd (false≢true (sym (ap is_some n) ∙ e))
      by (Some b) n = (b.now, sym value ∙ ap option_copied n)

  pub looked-none : is_some r ≡ false → looked ≡ None
  looked-none e = by r refl
    where
      by : (o : Option (Bor ℕ)) → r ≡ o → looked ≡ None
      by None n = sym value ∙ ap option_copied n
      by (Some b) n = absurd (false≢true (sym e ∙ ap is_some n))

-- one name more
pub take-names : (names : List (List ℕ)) (place : ℕ) (name : List ℕ) → place < length names → get_or names place [] ≡ name → take place names ++ name ∷ [] ≡ take (place + 1) names
take-names names place name within is = ap (λ n. take place names ++ n ∷ []) (sym is) ∙ sym (take_more names place [] within)
