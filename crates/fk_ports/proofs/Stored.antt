-- A list of files as a map from names to bytes, where the first file of a name counts.
use Rattle.std.proofs.Common.{◌≡◌, ℕ, zero, suc, ◌<◌, ◌≤◌, Bool, true, false, cond, List, [], ◌∷◌, ◌++◌, Option, Some, None, length, get_or, set, map, arith, refl, sym, ap, ◌∙◌}
use Rattle.std.proofs.lemmas.List.{map-append}
use Rattle.std.proofs.lemmas.List.Quantifiers.{position-Some}
use Rattle.std.proofs.lemmas.List.Sums.{fails_before_first}
use Rattle.std.specs.FinMap.{find, from_entries, from_entries_push, get-from_entries, get-insert, same_map, slice_cmp-IsAntisymmetric, nat_cmp-IsAntisymmetric}
use Rattle.std.specs.List.{position, position_or_len}
use Rattle.std.specs.Ordering.{eq_by_cmp, is_eq, nat_cmp}
use Rattle.std.specs.Prelude.{String, Vec, string_bytes}
use Rattle.std.specs.Cmp.Lexicographic.{slice_cmp, nat_list_cmp_total, texts_ties}
use Rattle.std.specs.declared.cmp.Ordering.{Ordering}
use Rattle.std.specs.declared.cmp.Ordering.TheVariants.{Less, Equal, Greater}
use Rattle.std.specs.declared.alloc.Global.{Global}
use Rattle.fk_ports.specs.Files.{file, with_file}
use Rattle.fk_ports.specs.InMemory.{entry, is_named, stored_files}

abbrev same : List ℕ → List ℕ → Bool
same = eq_by_cmp (slice_cmp nat_cmp)

abbrev found : List ℕ → List (List ℕ × List ℕ) → Option (List ℕ)
found = find (slice_cmp nat_cmp)

equal : (o : Ordering) → is_eq o ≡ true → o ≡ Equal
equal Less e = cc
equal Equal e = refl
equal Greater e = cc

same_name : (q name : List ℕ) → same q name ≡ true → q ≡ name
same_name q name e = slice_cmp-IsAntisymmetric nat_cmp-IsAntisymmetric q name (equal (slice_cmp nat_cmp q name) e)

-- a file is written over one of the same name
over : (b c : Bool) (v w : List ℕ) (rest : Option (List ℕ)) → c ≡ b → cond b (Some v) rest ≡ cond b (Some v) (cond c (Some w) rest)
over true c v w rest e = refl
over false c v w rest e = ap (λ d. cond d (Some w) rest) (sym e)

-- or behind one of another name
behind : (b c : Bool) (v w : List ℕ) (rest : Option (List ℕ)) → (b ≡ true → c ≡ true → false ≡ true)
    → cond c (Some w) (cond b (Some v) rest) ≡ cond b (Some v) (cond c (Some w) rest)
behind true true v w rest apart = absurd (cc (apart refl refl))
behind true false v w rest apart = refl
behind false c v w rest apart = refl

module _ {S : Type 0} (entry : S → List ℕ × List ℕ) where
  found_first : (list : List S) (name : List ℕ) (i : ℕ) (d : S) → i < length list
      → same name (entry (get_or list i d)).0 ≡ true
      → ((k : ℕ) → k < i → same name (entry (get_or list k d)).0 ≡ false)
      → found name (map entry list) ≡ Some (entry (get_or list i d)).1
  found_first [] name i d h e before = absurd (omega arith)
  found_first (x ∷ list) name zero d h e before = ap (λ b. cond b (Some (entry x).1) (found name (map entry list))) e
  found_first (x ∷ list) name (suc i) d h e before =
      ap (λ b. cond b (Some (entry x).1) (found name (map entry list))) (before 0 (omega arith))
      ∙ found_first list name i d (omega arith) e (λ k p. before (suc k) (omega arith))

  found_none : (list : List S) (name : List ℕ)
      → ((k : ℕ) (d : S) → k < length list → same name (entry (get_or list k d)).0 ≡ false)
      → found name (map entry list) ≡ None
  found_none [] name before = refl
  found_none (x ∷ list) name before =
      ap (λ b. cond b (Some (entry x).1) (found name (map entry list))) (before 0 x (omega arith))
      ∙ found_none list name (λ k d p. before (suc k) d (omega arith))

  found_set : (list : List S) (name q : List ℕ) (i : ℕ) (d new : S) → i < length list
      → same name (entry (get_or list i d)).0 ≡ true
      → ((k : ℕ) → k < i → same name (entry (get_or list k d)).0 ≡ false)
      → (entry new).0 ≡ name
      → found q (map entry (set list i new)) ≡ cond (same q name) (Some (entry new).1) (found q (map entry list))
  found_set [] name q i d new h e before key = absurd (omega arith)
  found_set (x ∷ list) name q zero d new h e before key =
      let old : name ≡ (entry x).0 = same_name name (entry x).0 e in
      ap (λ k. cond (same q k) (Some (entry new).1) (found q (map entry list))) key
      ∙ over (same q name) (same q (entry x).0) (entry new).1 (entry x).1 (found q (map entry list)) (ap (same q) (sym old))
  found_set (x ∷ list) name q (suc i) d new h e before key =
      let rest = found_set list name q i d new (omega arith) e (λ k p. before (suc k) (omega arith)) key in
      ap (λ r. cond (same q (entry x).0) (Some (entry x).1) r) rest
      ∙ behind (same q name) (same q (entry x).0) (entry new).1 (entry x).1 (found q (map entry list))
      (λ b c. sym (before 0 (omega arith)) ∙ ap (λ k. same k (entry x).0) (sym (same_name q name b)) ∙ c)

abbrev Stored : Type 0
Stored = String Global × Vec ℕ Global

no_place : {S : Type 0} (p : S → Bool) (list : List S) → position p list ≡ None → length list ≤ position_or_len p list
no_place p list e = grind arith

module _ (list : List Stored) (name : List ℕ) where
  named : (k : ℕ) (d : Stored) (b : Bool) → is_named name (get_or list k d) ≡ b → same name (entry (get_or list k d)).0 ≡ b
  named k d b e = sym (texts_ties name (string_bytes (get_or list k d).0)) ∙ e

  pub file-at : (i : ℕ) (stored : Stored) → position (is_named name) list ≡ Some i → stored ≡ get_or list i stored
      → file (stored_files list) name ≡ Some stored.1.items
  file-at i stored e is =
      let first = position-Some (is_named name) list i stored e in
      get-from_entries nat_list_cmp_total (map entry list) name
      ∙ found_first entry list name i stored first.0 (named i stored true first.1) (λ k h. named k stored false (first.2 k h))
      ∙ ap (λ s. Some (entry s).1) (sym is)

  pub file-none : position (is_named name) list ≡ None → file (stored_files list) name ≡ None
  file-none e =
      let long = no_place (is_named name) list e in
      get-from_entries nat_list_cmp_total (map entry list) name
      ∙ found_none entry list name (λ k d h. named k d false (fails_before_first (is_named name) list k d (omega arith)))

  pub stored_files-set : (i : ℕ) (old : Stored) (bytes : Vec ℕ Global) → position (is_named name) list ≡ Some i → old ≡ get_or list i old
      → stored_files (set list i (old.0, bytes)) ≡ with_file (stored_files list) name bytes.items
  stored_files-set i old bytes e is =
      let first = position-Some (is_named name) list i old e in
      let here = named i old true first.1 in
      let key : string_bytes old.0 ≡ name = ap (λ s. string_bytes s.0) is ∙ sym (same_name name _ here) in
      same_map nat_list_cmp_total (slice_cmp-IsAntisymmetric nat_cmp-IsAntisymmetric) _ _ (λ q.
      get-from_entries nat_list_cmp_total (map entry (set list i (old.0, bytes))) q
      ∙ found_set entry list name q i old (old.0, bytes) first.0 here (λ k h. named k old false (first.2 k h)) key
      ∙ ap (cond (same q name) (Some bytes.items)) (sym (get-from_entries nat_list_cmp_total (map entry list) q))
      ∙ sym (get-insert nat_list_cmp_total (stored_files list) name bytes.items q))

  pub stored_files-push : (new : Stored) → position (is_named name) list ≡ None → (entry new).0 ≡ name
      → stored_files (list ++ new ∷ []) ≡ with_file (stored_files list) name (entry new).1
  stored_files-push new e key =
      let lacks = sym (get-from_entries nat_list_cmp_total (map entry list) name) ∙ file-none e in
      ap from_entries (map-append entry list (new ∷ []))
      ∙ ap (λ n. from_entries (map entry list ++ (n, (entry new).1) ∷ [])) key
      ∙ from_entries_push nat_list_cmp_total (slice_cmp-IsAntisymmetric nat_cmp-IsAntisymmetric) (map entry list) name (entry new).1 lacks
