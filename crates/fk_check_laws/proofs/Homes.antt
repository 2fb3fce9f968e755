-- Where the variables lie that names mean: each has its home.
use Rattle.std.proofs.Common.{◌≡◌, ◌⊎◌, inl, inr, ℕ, zero, suc, ◌+◌, ◌-◌, ◌<◌, ◌≤◌, List, [], ◌∷◌, ◌++◌, length, take, map, Option, Some, None, slice_get, refl, sym, ap, subst, ◌∙◌, append-nil, length-append, arith}
use Rattle.std.specs.Prelude.{IsSome, count_by, cond}
use Rattle.std.proofs.Math.Seq.{take-append-add}
use Rattle.std.proofs.lemmas.List.{take-append-le}
use Rattle.std.proofs.lemmas.List.Sums.{sum_by-append}
use Rattle.std.proofs.lemmas.Bool.{cases_lt}
use Rattle.std.proofs.lemmas.Option.{slice_get_within}
use Rattle.fk_syntax.specs.declared.facts.Facts.{Facts}
use Rattle.fk_syntax.specs.Program.{DeclaredTree, Statements, FunctionTree, ItemTree, ProgramTree, StructItem, VariablesItem, FunctionItem}
use Rattle.fk_types_names.specs.declared.names.Meaning.TheVariants as m
use Rattle.fk_types_names.specs.Outline.{DeclarationTree, MarkTree, Variable, Header, Opens, Closes, Declares, Uses, outline, variables_marks, body_marks, item_marks, items_marks, declared_in, declarations, optional_marks}
use Rattle.fk_types_names.specs.Visible.{is_opening, is_closing, IsInnermost}
use Rattle.fk_types_names.specs.Means.{Means, Denotes, binding, DefinesHere}
use Rattle.fk_types_name_rules.proofs.ListLemmas.{at_some}
use Rattle.fk_types_obligations.specs.Pieces.{item_pieces}
use Rattle.fk_types_rules.proofs.References.{declared_in-append}
use Rattle.fk_types_rules.proofs.Pieces.{of_items}
use Rattle.fk_types_bindings.proofs.BodyLemmas.{declared_here}
use Rattle.fk_meaning_forms.specs.declared.tables.Slot.{Slot}
use Rattle.fk_meaning_forms.specs.Tables.{nth, no_slot, slot}
use Rattle.fk_layout_slots.specs.Told.{Told}
use Rattle.fk_layout_slots.specs.Places.{none_taken}
use Rattle.fk_layout_slots.specs.Slots.{item_slots, items_slots, behind_item}
use Rattle.fk_layout.specs.Layout.{told_by}
use Rattle.fk_parse_laws.specs.Trim.{ParametersAreTrim, ItemIsTrim, ItemsAreTrim}
use Rattle.fk_check_laws.specs.Correct.{IsCorrect}
use Rattle.fk_check_laws.proofs.Notes.{tables}
use Rattle.fk_check_laws.proofs.Declared.{Declared, Beside, beside_at, IsHomeFor, MayHaveHome, IsWholeItem, item_homes, item_length}
use Rattle.fk_check_laws.proofs.Level.{IsLevel, level_item}
use Rattle.fk_check_laws.proofs.Shut.{opened, closed, DeclaresAny, IsShut, steady, never_seen}

-- ---- lists behind one another

front_get : {X : Type 0} (xs ys : List X) (i : ℕ) → i < length xs → slice_get (xs ++ ys) i ≡ slice_get xs i
front_get [] ys i less = absurd (omega (arith, less))
front_get (x ∷ xs) ys zero less = refl
front_get (x ∷ xs) ys (suc i) less = front_get xs ys i (omega (arith, less))

abbrev behind_all : {X : Type 0} → List X → ℕ → ℕ
behind_all [] i = i
behind_all (x ∷ xs) i = suc (behind_all xs i)

behind_sum : {X : Type 0} (xs : List X) (i : ℕ) → behind_all xs i ≡ length xs + i
behind_sum [] i = omega arith
behind_sum (x ∷ xs) i = omega (arith, behind_sum xs i)

back_all : {X : Type 0} (xs ys : List X) (i : ℕ) → slice_get (xs ++ ys) (behind_all xs i) ≡ slice_get ys i
back_all [] ys i = refl
back_all (x ∷ xs) ys i = back_all xs ys i

pub back_get : {X : Type 0} (xs ys : List X) (i : ℕ) → slice_get (xs ++ ys) (length xs + i) ≡ slice_get ys i
back_get xs ys i = ap (slice_get (xs ++ ys)) (sym (behind_sum xs i)) ∙ back_all xs ys i

front_nth : {X : Type 0} (other : X) (xs ys : List X) (i : ℕ) → i < length xs → nth other (xs ++ ys) i ≡ nth other xs i
front_nth other [] ys i less = absurd (omega (arith, less))
front_nth other (x ∷ xs) ys zero less = refl
front_nth other (x ∷ xs) ys (suc i) less = front_nth other xs ys i (omega (arith, less))

back_nth_all : {X : Type 0} (other : X) (xs ys : List X) (i : ℕ) → nth other (xs ++ ys) (behind_all xs i) ≡ nth other ys i
back_nth_all other [] ys i = refl
back_nth_all other (x ∷ xs) ys i = back_nth_all other xs ys i

back_nth : {X : Type 0} (other : X) (xs ys : List X) (i : ℕ) → nth other (xs ++ ys) (length xs + i) ≡ nth other ys i
back_nth other xs ys i = ap (nth other (xs ++ ys)) (sym (behind_sum xs i)) ∙ back_nth_all other xs ys i

-- ---- what is shut is so among other marks

shut_front : (xs ys : List MarkTree) (at : ℕ) → IsShut xs at → IsShut (xs ++ ys) at
shut_front xs ys at h =
    let within = slice_get_within xs h.close Closes h.closes in
    let behind = h.behind in
    let same = take-append-le at xs ys (omega (arith, within, behind)) in
    record {
      close = h.close;
      behind = h.behind;
      closes = front_get xs ys h.close within ∙ h.closes;
      quiet = λ k low high. let d = h.quiet k low high in (d.0, front_get xs ys k (omega (arith, within, high)) ∙ d.1);
      inside = subst (λ (ms : List MarkTree). count_by is_closing ms < count_by is_opening ms) (sym same) h.inside;
    }

shut_back : (xs ys : List MarkTree) (at : ℕ) → IsLevel xs → IsShut ys at → IsShut (xs ++ ys) (length xs + at)
shut_back xs ys at level h =
    let n = length xs in
    let behind = h.behind in
    record {
      close = n + h.close;
      behind = omega (arith, behind);
      closes = back_get xs ys h.close ∙ h.closes;
      quiet = λ k low high.
          let d = h.quiet (k - n) (omega (arith, low)) (omega (arith, low, high)) in
          (d.0, ap (slice_get (xs ++ ys)) (omega (arith, low)) ∙ back_get xs ys (k - n) ∙ d.1);
      inside = subst (λ (ms : List MarkTree). count_by is_closing ms < count_by is_opening ms) (sym (take-append-add xs ys at))
          (let o : count_by is_opening (xs ++ take at ys) ≡ count_by is_opening xs + count_by is_opening (take at ys) = sum_by-append (λ (x : MarkTree). cond (is_opening x) 1 0) xs (take at ys) in
          let c : count_by is_closing (xs ++ take at ys) ≡ count_by is_closing xs + count_by is_closing (take at ys) = sum_by-append (λ (x : MarkTree). cond (is_closing x) 1 0) xs (take at ys) in
          let inside = h.inside in
          let even = level.even in
          omega (arith, o, c, inside, even));
    }

-- ---- each variable among marks has its home, or is shut

abbrev AreHomed : List Slot → List MarkTree → Type 0
AreHomed slots marks = (at : ℕ) (x : DeclaredTree) → slice_get marks at ≡ Some (Declares (Variable x))
    → IsHomeFor x.shared (nth no_slot slots (binding marks at)).home ⊎ IsShut marks at

homed_both : (ss ts : List Slot) (ms ns : List MarkTree) → length ss ≡ length (declared_in ms) → IsLevel ms → AreHomed ss ms → AreHomed ts ns → AreHomed (ss ++ ts) (ms ++ ns)
homed_both ss ts ms ns same level h k at x is = elim (cases_lt at (length ms)) [
  | inl less ↦
      let here : slice_get ms at ≡ Some (Declares (Variable x)) = sym (front_get ms ns at less) ∙ is in
      let number : binding (ms ++ ns) at ≡ binding ms at = ap (λ (xs : List MarkTree). length (declared_in xs)) (take-append-le at ms ns (omega (arith, less))) in
      let low = slice_get_within (declared_in ms) (binding ms at) (Variable x) (declared_here ms at (Variable x) here) in
      elim (h at x here) [
        | inl home ↦ inl (subst (λ (s : Slot). IsHomeFor x.shared s.home) (sym (ap (nth no_slot (ss ++ ts)) number ∙ front_nth no_slot ss ts (binding ms at) (omega (arith, low, same)))) home)
        | inr shut ↦ inr (shut_front ms ns at shut)
      ]
  | inr more ↦
      let n = at - length ms in
      let sum : at ≡ length ms + n = omega (arith, more) in
      let here : slice_get ns n ≡ Some (Declares (Variable x)) = sym (back_get ms ns n) ∙ ap (slice_get (ms ++ ns)) (sym sum) ∙ is in
      let number : binding (ms ++ ns) at ≡ length ss + binding ns n = number_behind n sum in
      elim (k n x here) [
        | inl home ↦ inl (subst (λ (s : Slot). IsHomeFor x.shared s.home) (sym (ap (nth no_slot (ss ++ ts)) number ∙ back_nth no_slot ss ts (binding ns n))) home)
        | inr shut ↦ inr (subst (IsShut (ms ++ ns)) (sym sum) (shut_back ms ns n level shut))
      ]
]
  where
    number_behind : (n : ℕ) → at ≡ length ms + n → binding (ms ++ ns) at ≡ length ss + binding ns n
    number_behind n sum =
        let marks = ap (λ i. take i (ms ++ ns)) sum ∙ take-append-add ms ns n in
        let all = ap (λ (xs : List MarkTree). length (declared_in xs)) marks ∙ ap (λ (ds : List DeclarationTree). length ds) (declared_in-append ms (take n ns)) in
        omega (arith, all, length-append (declared_in ms) (declared_in (take n ns)), same)

-- ---- items

item_declared : (x : ItemTree) → Declared (item_pieces x) ≡ declared_in (item_marks x)
item_declared x =
    ap Declared (sym (append-nil (item_pieces x))) ∙ (of_items (x ∷ [])).declared ∙ ap declared_in (append-nil (item_marks x))

module _ (told : Told) where
  homed_whole : (file : _) (x : ItemTree) → IsWholeItem told x → AreHomed (item_slots told file x) (item_marks x)
  homed_whole file x whole at v is =
      inl (beside_at (MayHaveHome told) (item_slots told file x) (declared_in (item_marks x))
      (subst (Beside (MayHaveHome told) (item_slots told file x)) (item_declared x) (item_homes told file x whole)) (binding (item_marks x) at) (Variable v)
      (declared_here (item_marks x) at (Variable v) is))

-- a header without a body
abbrev declares_of : List DeclaredTree → List MarkTree
declares_of ps = map (λ (x : DeclaredTree). Declares (Variable x)) ps

bare : (ps : List DeclaredTree) → ParametersAreTrim ps → variables_marks ps ≡ declares_of ps
bare [] h = refl
bare (x ∷ ps) h =
    ap (λ (ms : List MarkTree). ms ++ variables_marks ps) (ap (λ (o : _). Declares (Variable x) ∷ optional_marks o) h.0)
    ∙ ap (λ (ms : List MarkTree). Declares (Variable x) ∷ ms) (bare ps h.1)

declares_at : (ps : List DeclaredTree) (rest : List MarkTree) (k : ℕ) → k < length ps → DeclaresAny (declares_of ps ++ rest) k
declares_at [] rest k less = absurd (omega (arith, less))
declares_at (x ∷ ps) rest zero less = (Variable x, refl)
declares_at (x ∷ ps) rest (suc k) less = declares_at ps rest k (omega (arith, less))

closes_at : (ps : List DeclaredTree) → slice_get (declares_of ps ++ Closes ∷ []) (length ps) ≡ Some Closes
closes_at [] = refl
closes_at (x ∷ ps) = closes_at ps

up_to : (ps : List DeclaredTree) (k : ℕ) (d : DeclarationTree) → slice_get (declares_of ps ++ Closes ∷ []) k ≡ Some (Declares d) → k < length ps
up_to [] zero d is = absurd (cc)
up_to [] (suc k) d is = absurd (cc)
up_to (x ∷ ps) zero d is = omega arith
up_to (x ∷ ps) (suc k) d is = omega (arith, up_to ps k d is)

module _ (f : FunctionTree) (ps : List DeclaredTree) where
  abbrev marks : List MarkTree
  marks = Declares (Header f) ∷ Opens ∷ declares_of ps ++ Closes ∷ []

  quiet : (k : ℕ) → 2 ≤ k → k < suc (suc (length ps)) → DeclaresAny marks k
  quiet zero low high = absurd (omega (arith, low))
  quiet (suc zero) low high = absurd (omega (arith, low))
  quiet (suc (suc k)) low high = declares_at ps (Closes ∷ []) k (omega (arith, high))

  shut_there : (at : ℕ) (x : DeclaredTree) → slice_get marks at ≡ Some (Declares (Variable x)) → IsShut marks at
  shut_there zero x is = absurd (cc)
  shut_there (suc zero) x is = absurd (cc)
  shut_there (suc (suc j)) x is =
      let less = up_to ps j (Variable x) is in
      let same = steady marks 2 j (λ k low high. quiet k low (omega (arith, high, less))) (suc (suc j)) (omega arith) in
      let o : opened marks 2 ≡ 1 = refl in
      let c : closed marks 2 ≡ 0 = refl in
      record {
        close = suc (suc (length ps));
        behind = omega (arith, less);
        closes = closes_at ps;
        quiet = λ k low high. quiet k (omega (arith, low)) high;
        inside = omega (arith, same.0, same.1, o, c);
      }

module _ (told : Told) where
  homed_item : (file : _) (x : ItemTree) → ItemIsTrim x → AreHomed (item_slots told file x) (item_marks x)
  homed_item file (StructItem name members) trim at x is = homed_whole told file (StructItem name members) tt at x is
  homed_item file (VariablesItem variables) trim at x is = homed_whole told file (VariablesItem variables) tt at x is
  homed_item file (FunctionItem f) trim at x is = by f.body refl
    where
      by : (o : Option Statements) → f.body ≡ o → IsHomeFor x.shared (nth no_slot (item_slots told file (FunctionItem f)) (binding (item_marks (FunctionItem f)) at)).home ⊎ IsShut (item_marks (FunctionItem f)) at
      by (Some body) has = homed_whole told file (FunctionItem f) (subst IsSome (sym has) refl) at x is
      by None has =
          let e : item_marks (FunctionItem f) ≡ marks f f.parameters =
          ap (λ (ms : List MarkTree). Declares (Header f) ∷ Opens ∷ ms ++ Closes ∷ [])
          (ap (λ (o : Option Statements). variables_marks f.parameters ++ body_marks o) has ∙ append-nil (variables_marks f.parameters) ∙ bare f.parameters trim.0) in
          inr (subst (λ (ms : List MarkTree). IsShut ms at) (sym e) (shut_there f f.parameters at x (subst (λ (ms : List MarkTree). slice_get ms at ≡ Some (Declares (Variable x))) e is)))

  homed_items : (file : _) (xs : List ItemTree) → ItemsAreTrim xs → AreHomed (items_slots told file xs) (items_marks xs)
  homed_items file [] trim at x is = absurd (cc)
  homed_items file (x ∷ xs) trim at v is =
      homed_both (item_slots told file x) (items_slots told (behind_item told file x) xs) (item_marks x) (items_marks xs)
      (item_length told file x ∙ ap (λ (ds : List DeclarationTree). length ds) (item_declared x)) (level_item x)
      (homed_item file x trim.0) (homed_items (behind_item told file x) xs trim.1) at v is

-- ---- the variable that a name means

module _ (program : ProgramTree) (facts : Facts) (valid : IsCorrect program facts) (trim : ItemsAreTrim program.items) where
  variable_same : (x y : DeclaredTree) → Some (Variable x) ≡ Some (Variable y) → x ≡ y
  variable_same x y e = cc

  no_header : (f : FunctionTree) (x : DeclaredTree) → Some (Header f) ≡ Some (Variable x) → ⊥
  no_header f x e = cc

  pub home_of : (token number : ℕ) (x : DeclaredTree) → Means program token (m.Declared number) → slice_get (declarations program) number ≡ Some (Variable x)
      → IsHomeFor x.shared (slot (tables program facts valid) number).home
  home_of token number x means is = by means.meant.0 means.meant.1 means.meant.2 means.meant.3 means.meant.4 means.meant.5 means.meant.6
    where
      by : (at : ℕ) (d : DeclarationTree) (meant : ℕ) → IsInnermost (outline program) means.name.bytes means.from at → slice_get (outline program) at ≡ Some (Declares d) → Denotes (outline program) means.name.bytes at d meant → number ≡ binding (outline program) meant
          → IsHomeFor x.shared (slot (tables program facts valid) number).home
      by at (Variable v) meant inner here stands same =
          let number_is : number ≡ binding (outline program) at = same ∙ ap (binding (outline program)) stands in
          let one : v ≡ x = variable_same v x (sym (declared_here (outline program) at (Variable v) here) ∙ ap (slice_get (declarations program)) (sym number_is) ∙ is) in
          elim (homed_items (told_by facts) none_taken program.items trim at v here) [
            | inl home ↦ subst (λ (y : DeclaredTree). IsHomeFor y.shared (slot (tables program facts valid) number).home) one
                (subst (λ n. IsHomeFor v.shared (slot (tables program facts valid) n).home) (sym number_is) home)
            | inr shut ↦ absurd (never_seen (outline program) at shut means.name means.from means.used inner.visible)
          ]
      by at (Header f) meant inner here (inl defined) same = let h = at_some (DefinesHere means.name.bytes) (outline program) meant defined.body in absurd (defining h.0 h.1 h.2)
        where
          defining : (mark : MarkTree) → slice_get (outline program) meant ≡ Some mark → DefinesHere means.name.bytes mark → ⊥
          defining Opens there h = h
          defining Closes there h = h
          defining (Uses name) there h = h
          defining (Declares (Variable v)) there h = h
          defining (Declares (Header g)) there h = no_header g x (sym (declared_here (outline program) meant (Header g) there) ∙ ap (slice_get (declarations program)) (sym same) ∙ is)
      by at (Header f) meant inner here (inr alone) same =
          absurd (no_header f x (sym (declared_here (outline program) at (Header f) here) ∙ ap (slice_get (declarations program)) (sym (same ∙ ap (binding (outline program)) alone.0)) ∙ is))
