-- What is too much of a text, as its refusal.
use Rattle.std.proofs.Common.{◌≡◌, ℕ, ◌-◌, ◌^◌, ◌≤◌, Bool, true, false, List, [], ◌∷◌, length, Option, Some, None, Contains, inl, inr, refl, sym, ap, subst}
use Rattle.std.specs.Prelude.{min, nat_lt, if◌then◌else◌}
use Rattle.fk_syntax.specs.declared.facts.Facts.{Facts}
use Rattle.fk_syntax.specs.declared.place.Place.{Place}
use Rattle.fk_syntax.specs.Program.{Statements, FunctionTree, ItemTree, StructItem, VariablesItem, FunctionItem, ProgramTree}
use Rattle.fk_meaning_forms.specs.Tables.{Tables}
use Rattle.fk_meaning_forms.specs.Program.{with_body, functions_of}
use Rattle.fk_layout.specs.declared.sites.LayoutFault.{LayoutFault}
use Rattle.fk_layout.specs.declared.sites.LayoutFault.TheVariants as layout
use Rattle.fk_layout.specs.Frames.{private_words, first_large_in}
use Rattle.fk_layout.specs.Layout.{tables_by}
use Rattle.fk_layout.specs.Refusal.{IsRefusal}
use Rattle.fk_compile_text.proofs.Elements.{Contains-head, Contains-tail, Contains-cons_cases, Contains-nil}
use Rattle.fk_compile_text.specs.declared.refusal.Refusal.{Refusal}
use Rattle.fk_compile_text.specs.declared.refusal.Refusal.TheVariants.{BadByte, OpenComment, OpenString, WideNumber, Unexpected, EndOfText, Nesting, Rule, TooManySites, FrameTooLarge, GlobalsTooLarge, SourceTooLong, Memory}
use Rattle.fk_compile_text.specs.Refusal.{IsRefusedText, IsOfFunction, TellsFrame, TellsFault}
use Rattle.fk_compile_text.specs.Text.{IsChecked}

-- the place that is told, if one is
abbrev place_in : Option (Place × ℕ) → Place → Place
place_in None place = place
place_in (Some told) place = told.0

-- the first large frame is that of a function
large_in : (tables : Tables) (items : List ItemTree) (fs : List FunctionTree) (place : Place) (words : ℕ) → first_large_in tables items fs ≡ Some (place, words)
    → (f : FunctionTree) × Contains fs f × (f.name.place ≡ place)
large_in tables items [] place words e = absurd cc
large_in tables items (f ∷ fs) place words e = by (nat_lt 64 (private_words tables items f)) (λ h. large_in tables items fs place words h) e
  where
    by : (b : Bool) → (first_large_in tables items fs ≡ Some (place, words) → (g : FunctionTree) × Contains fs g × (g.name.place ≡ place))
        → (if b then Some (f.name.place, min (private_words tables items f) (2 ^ 32 - 1)) else first_large_in tables items fs) ≡ Some (place, words)
        → (g : FunctionTree) × Contains (f ∷ fs) g × (g.name.place ≡ place)
    by true rest h = (f, Contains-head f fs, ap (λ (o : Option (Place × ℕ)). place_in o place) h)
    by false rest h = let found = rest h in (found.0, Contains-tail f found.0 fs found.1, found.2)

-- which is one of the items
function_item : (items : List ItemTree) (f : FunctionTree) → Contains (functions_of items) f → Contains items (FunctionItem f)
function_item [] f h = absurd (Contains-nil f h)
function_item (StructItem name members ∷ items) f h = Contains-tail (StructItem name members) (FunctionItem f) items (function_item items f h)
function_item (VariablesItem variables ∷ items) f h = Contains-tail (VariablesItem variables) (FunctionItem f) items (function_item items f h)
function_item (FunctionItem g ∷ items) f h = by g.body (λ k. function_item items f k) h
  where
    by : (body : Option Statements) → (Contains (functions_of items) f → Contains items (FunctionItem f)) → Contains (with_body g body (functions_of items)) f
        → Contains (FunctionItem g ∷ items) (FunctionItem f)
    by None rest k = Contains-tail (FunctionItem g) (FunctionItem f) items (rest k)
    by (Some body) rest k = elim (Contains-cons_cases g f (functions_of items) k) [
      | inl same ↦ subst (λ (x : FunctionTree). Contains (FunctionItem g ∷ items) (FunctionItem x)) same (Contains-head (FunctionItem g) items)
      | inr old ↦ Contains-tail (FunctionItem g) (FunctionItem f) items (rest old)
    ]

pub of_function : (tables : Tables) (items : List ItemTree) (fault : LayoutFault) → IsRefusal tables items fault → IsOfFunction items fault
of_function tables items (layout.TooManySites count) refused = tt
of_function tables items (layout.FrameTooLarge place words) refused =
    let large = large_in tables items (functions_of items) place words refused.1 in
    (large.0.name.bytes, (FunctionItem large.0, function_item items large.0 large.1, (large.2, refl)))
of_function tables items (layout.GlobalsTooLarge words) refused = tt
of_function tables items layout.Memory refused = tt

-- a text that keeps all rules, of which this is too much, is refused by what tells that
module _ (source : List ℕ) (tree : ProgramTree) (facts : Facts) (short : length source ≤ 1048576) (checked : IsChecked source tree facts) where
  by_frame : (place : Place) (words : ℕ) (refusal : Refusal) → IsRefusal (tables_by tree facts) tree.items (layout.FrameTooLarge place words)
      → TellsFrame tree.items place words refusal → IsRefusedText source refusal
  by_frame place words (BadByte at) refused tells = absurd tells
  by_frame place words (OpenComment at) refused tells = absurd tells
  by_frame place words (OpenString at) refused tells = absurd tells
  by_frame place words (WideNumber at) refused tells = absurd tells
  by_frame place words (Unexpected at) refused tells = absurd tells
  by_frame place words EndOfText refused tells = absurd tells
  by_frame place words (Nesting at) refused tells = absurd tells
  by_frame place words (Rule at number) refused tells = absurd tells
  by_frame place words (TooManySites count) refused tells = absurd tells
  by_frame place words (FrameTooLarge name told) refused tells = (
    short,
    record {
      tree = tree;
      facts = facts;
      checked = checked;
      place = place;
      refused = subst (λ (n : ℕ). IsRefusal (tables_by tree facts) tree.items (layout.FrameTooLarge place n)) (sym tells.1) refused;
      named = tells.0;
    },
  )
  by_frame place words (GlobalsTooLarge count) refused tells = absurd tells
  by_frame place words (SourceTooLong bytes) refused tells = absurd tells
  by_frame place words (Memory e) refused tells = tt

  pub refused_by : (fault : LayoutFault) (refusal : Refusal) → IsRefusal (tables_by tree facts) tree.items fault → TellsFault tree.items fault refusal → IsRefusedText source refusal
  refused_by (layout.TooManySites count) refusal refused tells =
      subst (IsRefusedText source) (sym tells) (short, record { tree = tree; facts = facts; checked = checked; refused = refused })
  refused_by (layout.FrameTooLarge place words) refusal refused tells = by_frame place words refusal refused tells
  refused_by (layout.GlobalsTooLarge words) refusal refused tells =
      subst (IsRefusedText source) (sym tells) (short, record { tree = tree; facts = facts; checked = checked; refused = refused })
  refused_by layout.Memory refusal refused tells = subst (IsRefusedText source) (sym tells.1) tt
