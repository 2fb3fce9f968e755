-- The structs that structs hold, as a graph.
use Rattle.std.proofs.Common.{◌≡◌, ℕ, ◌+◌, ◌<◌, ◌≤◌, inl, inr, List, [], ◌∷◌, ◌++◌, Option, Some, None, Vec, Global, Contains, length, length-append, slice_get, refl, sym, ap, subst, ◌∙◌, arith}
use Rattle.std.specs.Option.{option_and_then, option_to_list}
use Rattle.std.proofs.lemmas.Option.{same_Some, none-some, option_and_then_some, slice_get_within}
use Rattle.std.proofs.lemmas.List.Elements.{Contains-append_left, Contains-append_cases, Contains-push}
use Rattle.std.proofs.Math.Nat.{eq-or-lt_of_le}
use Rattle.fk_syntax.specs.declared.place.Place.{Place}
use Rattle.fk_syntax.specs.Program.{DeclaredTree}
use Rattle.fk_check_rules.specs.declared.rule.Rule.{Rule}
use Rattle.fk_check_rules.specs.declared.rule.Rule.TheVariants as rules
use Rattle.fk_check_rules.specs.declared.fault.Fault.{Fault}
use Rattle.fk_check_rules.specs.Least.{IsLeast, only, either, among_first}
use Rattle.fk_check_rules.proofs.LeastLemmas.{IsLeast-same}
use Rattle.fk_types_graph.specs.Graph.{HasEdge, IsOnCycle}
use Rattle.fk_types_graph.proofs.SearchLemmas.{LeadsTo-same, in_none, in_one}
use Rattle.fk_types_structs.specs.declared.types.DataType.{DataType}
use Rattle.fk_types_structs.specs.Types.{StructTree, type_declared, member_type}
use Rattle.fk_types_structs.proofs.WordLemmas.{slice_get-last, slice_get-front}
use Rattle.fk_types_struct_rules.specs.Declarations.{At}
use Rattle.fk_types_struct_rules.specs.Structs.{held_by, held_at, Holds, HoldsItself, HoldingBreaks}
use Rattle.fk_types_struct_rules.specs.Holding.{AreHeld, AreFirstEdges, AreEdges, told}
use Rattle.fk_types_struct_rules.proofs.StructLemmas.{IsLeast-told, IsLeast-joined}

le_of_lt_add_one : (i n : ℕ) → i < n + 1 → i ≤ n
le_of_lt_add_one i n l = omega (arith, l)

module _ (structs : List StructTree) where
  -- the members of a struct, one after the other
  pub AreHeld-none : (index : ℕ) → AreHeld structs index 0 []
  AreHeld-none index = record {
    told = λ other c. absurd (in_none other c);
    all = λ place other l e. absurd (omega (arith, l));
  }

  pub AreHeld-more : (index place : ℕ) (held next : List ℕ) → AreHeld structs index place held → next ≡ held ++ option_to_list (held_at structs index place) → AreHeld structs index (place + 1) next
  AreHeld-more index place held next h is = subst (AreHeld structs index (place + 1)) (sym is) (by (held_at structs index place) refl)
    where
      by : (o : Option ℕ) → held_at structs index place ≡ o → AreHeld structs index (place + 1) (held ++ option_to_list o)
      by None e = record {
        told = λ other c. elim (Contains-append_cases held [] other c) [ inl old ↦ h.told other old | inr new ↦ absurd (in_none other new) ];
        all = λ p other l at. elim (eq-or-lt_of_le (le_of_lt_add_one p place l)) [
          | inl same ↦ absurd (none-some other (sym e ∙ ap (held_at structs index) (sym same) ∙ at))
          | inr less ↦ Contains-append_left held [] other (h.all p other less at)
        ];
      }
      by (Some x) e = record {
        told = λ other c. elim (Contains-append_cases held (x ∷ []) other c) [ inl old ↦ h.told other old | inr new ↦ (place, e ∙ ap Some (in_one x other new)) ];
        all = λ p other l at. elim (eq-or-lt_of_le (le_of_lt_add_one p place l)) [
          | inl same ↦ subst (Contains (held ++ x ∷ [])) (same_Some x other (sym e ∙ ap (held_at structs index) (sym same) ∙ at)) (Contains-push held x)
          | inr less ↦ Contains-append_left held (x ∷ []) other (h.all p other less at)
        ];
      }

  -- what a struct holds, it holds by one of its members
  held_at-of : (index place other : ℕ) → held_at structs index place ≡ Some other → (s : StructTree) × (slice_get structs index ≡ Some s) × (place < length s.members)
  held_at-of index place other e =
      option_and_then_some (λ (type : DataType). held_by type.root type.stars) (member_type structs index place) other e
      (λ type is _. option_and_then_some (λ (s : StructTree). option_and_then (type_declared structs) (slice_get s.members place)) (slice_get structs index) type is
      (λ s there inner. option_and_then_some (type_declared structs) (slice_get s.members place) type inner
      (λ (d : DeclaredTree) at _. (s, there, slice_get_within s.members place d at))))

  held_at-within : (index place other : ℕ) (s : StructTree) → slice_get structs index ≡ Some s → held_at structs index place ≡ Some other → place < length s.members
  held_at-within index place other s there e =
      let x = held_at-of index place other e in
      subst (λ (t : StructTree). place < length t.members) (same_Some x.0 s (sym x.1 ∙ there)) x.2

  Holds-within : (index other : ℕ) → Holds structs index other → index < length structs
  Holds-within index other h = let x = held_at-of index h.0 other h.1 in slice_get_within structs index x.0 x.1

  -- the structs, one after the other
  pub AreFirstEdges-none : AreFirstEdges structs 0 []
  AreFirstEdges-none = record {
    same_length = refl;
    told = λ a b e. absurd (none-some e.0 e.1);
    all = λ a b l h. absurd (omega (arith, l));
  }

  pub AreFirstEdges-more : (n : ℕ) (graph : List (Vec ℕ Global)) (row : Vec ℕ Global) (s : StructTree) → slice_get structs n ≡ Some s → AreFirstEdges structs n graph → AreHeld structs n (length s.members) row.items → AreFirstEdges structs (n + 1) (graph ++ row ∷ [])
  AreFirstEdges-more n graph row s there h held = record {
    same_length = length-append graph (row ∷ []) ∙ ap (λ k. k + 1) h.same_length;
    told = λ a b e. elim (eq-or-lt_of_le (le_of_lt_add_one a n (inside a e.0 e.1))) [
      | inl same ↦ subst (λ k. Holds structs k b) (sym same)
          (held.told b (subst (λ (r : Vec ℕ Global). Contains r.items b) (same_Some e.0 row (sym e.1 ∙ ap (slice_get (graph ++ row ∷ [])) same ∙ last)) e.2))
      | inr less ↦ h.told a b (e.0, sym (slice_get-front graph row a (shorter a less)) ∙ e.1, e.2)
    ];
    all = λ a b l x. elim (eq-or-lt_of_le (le_of_lt_add_one a n l)) [
      | inl same ↦ (
        row,
        ap (slice_get (graph ++ row ∷ [])) same ∙ last,
        let at : held_at structs n x.0 ≡ Some b = subst (λ k. held_at structs k x.0 ≡ Some b) same x.1 in
            held.all x.0 b (held_at-within n x.0 b s there at) at,
      )
      | inr less ↦ let e = h.all a b less x in (e.0, slice_get-front graph row a (shorter a less) ∙ e.1, e.2)
    ];
  }
    where
      last : slice_get (graph ++ row ∷ []) n ≡ Some row
      last = ap (slice_get (graph ++ row ∷ [])) (sym h.same_length) ∙ slice_get-last graph row

      shorter : (a : ℕ) → a < n → a < length graph
      shorter a l = subst (λ k. a < k) (sym h.same_length) l

      inside : (a : ℕ) (r : Vec ℕ Global) → slice_get (graph ++ row ∷ []) a ≡ Some r → a < n + 1
      inside a r at = subst (λ k. a < k) (length-append graph (row ∷ []) ∙ ap (λ k. k + 1) h.same_length) (slice_get_within (graph ++ row ∷ []) a r at)

  -- a struct holds itself where it lies on a cycle
  module _ (graph : List (Vec ℕ Global)) (edges : AreEdges structs graph) where
    pub IsOnCycle-holds : (v : ℕ) → IsOnCycle graph v → HoldsItself structs v
    IsOnCycle-holds v h = LeadsTo-same (HasEdge graph) (Holds structs) edges.told v v h

    pub HoldsItself-cycle : (v : ℕ) → HoldsItself structs v → IsOnCycle graph v
    HoldsItself-cycle v h = LeadsTo-same (Holds structs) (HasEdge graph) (λ a b e. edges.all a b (Holds-within a b e) e) v v h

    pub IsLeast-holding : (n : ℕ) (s : StructTree) (before r : Option Fault) → slice_get structs n ≡ Some s → IsLeast (among_first n (HoldingBreaks structs) structs) before
        → IsLeast (either (told before) (only rules.NoStruct (At s.name.place (IsOnCycle graph n)))) r → IsLeast (among_first (n + 1) (HoldingBreaks structs) structs) r
    IsLeast-holding n s before r there l m = IsLeast-joined (HoldingBreaks structs) structs n s there r
        (IsLeast-told (among_first n (HoldingBreaks structs) structs) (HoldingBreaks structs n s) before r l
        (IsLeast-same (either (told before) (only rules.NoStruct (At s.name.place (IsOnCycle graph n)))) (either (told before) (HoldingBreaks structs n s)) to from r m))
      where
        to : (place : Place) (rule : Rule) → either (told before) (only rules.NoStruct (At s.name.place (IsOnCycle graph n))) place rule → either (told before) (HoldingBreaks structs n s) place rule
        to place rule (inl e) = inl e
        to place rule (inr q) = inr (q.0, (IsOnCycle-holds n q.1.0, q.1.1))

        from : (place : Place) (rule : Rule) → either (told before) (HoldingBreaks structs n s) place rule → either (told before) (only rules.NoStruct (At s.name.place (IsOnCycle graph n))) place rule
        from place rule (inl e) = inl e
        from place rule (inr q) = inr (q.0, (HoldsItself-cycle n q.1.0, q.1.1))
