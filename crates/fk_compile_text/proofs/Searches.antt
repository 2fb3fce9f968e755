-- Searches for a function by its place and for a row by its name, one element further.
use Rattle.std.proofs.Common.{◌≡◌, ◌≢◌, ℕ, ◌+◌, ◌<◌, ◌≤◌, false, List, [], ◌∷◌, ◌++◌, All, Contains, length, get_or, map, take, inl, inr, sym, ap, ◌∙◌, subst, arith}
use Rattle.std.proofs.lemmas.List.{take_more, take_all, get_or-map, length-map}
use Rattle.std.proofs.lemmas.List.Elements.{All-push, Contains-push_cases}
use Rattle.fk_syntax.specs.declared.place.Place.{Place}
use Rattle.fk_syntax.specs.declared.program.Item.{Item}
use Rattle.fk_syntax.specs.Program.{ItemTree}
use Rattle.fk_syntax.specs.ProgramView.{item_of}
use Rattle.fk_layout_globals.specs.declared.rows.GlobalRow.{GlobalRow}
use Rattle.fk_layout_globals.specs.Rows.{Row}
use Rattle.fk_layout_globals.specs.View.{row_of}
use Rattle.fk_compile_text.specs.Text.{IsFunctionAt, HasFunctionAt}

module _ {A X : Type 0} (f : A → X) (items : List A) (i : ℕ) (item : A) (within : i < length items) (is : item ≡ get_or items i item) where
  read_at : get_or (map f items) i (f item) ≡ f item
  read_at = get_or-map f items i item (f item) within ∙ ap f (sym is)

  longer : take (i + 1) (map f items) ≡ take i (map f items) ++ f item ∷ []
  longer = take_more (map f items) i (f item) (omega (arith, length-map items f)) ∙ ap (λ x. take i (map f items) ++ x ∷ []) read_at

  pub has_it : Contains (map f items) (f item)
  has_it = (i, omega (arith, length-map items f), read_at)

-- no function of these items stands at a place
abbrev pub HasNone : List ItemTree → Place → Type 0
HasNone items place = (name : List ℕ) → ¬ HasFunctionAt items place name

module _ (items : List Item) (place : Place) (i : ℕ) where
  pub none_more : (item : Item) → i < length items → item ≡ get_or items i item → ((name : List ℕ) → ¬ IsFunctionAt place name (item_of item))
      → HasNone (take i (map item_of items)) place → HasNone (take (i + 1) (map item_of items)) place
  none_more item within is none before name h =
      let there = subst (λ (xs : List ItemTree). Contains xs h.0) (longer item_of items i item within is) h.1 in
      elim (Contains-push_cases (take i (map item_of items)) (item_of item) h.0 there) [
        | inl old ↦ before name (h.0, old, h.2)
        | inr same ↦ none name (subst (IsFunctionAt place name) (sym same) h.2)
      ]

  pub none_at_all : length items ≤ i → HasNone (take i (map item_of items)) place → HasNone (map item_of items) place
  none_at_all past none = subst (λ (xs : List ItemTree). HasNone xs place) (take_all i (map item_of items) (omega (arith, length-map items item_of))) none

-- what is read behind all rows
abbrev pub no_row : GlobalRow
no_row = record { name = record { ref_ptr = (0, 0); now = [] }; first = 0; words = 0; signed = false }

-- no row of these has a name
abbrev pub LackName : List ℕ → List Row → Type 0
LackName name list = All (λ (row : Row). row.name ≢ name) list

module _ (list : List GlobalRow) (name : List ℕ) (i : ℕ) where
  pub lack_more : (row : GlobalRow) → i < length list → row ≡ get_or list i row → row.name.now ≢ name → LackName name (take i (map row_of list)) → LackName name (take (i + 1) (map row_of list))
  lack_more row within is other before =
      subst (LackName name) (sym (longer row_of list i row within is)) (All-push (λ (r : Row). r.name ≢ name) (take i (map row_of list)) (row_of row) before other)

  pub lack_at_all : length list ≤ i → LackName name (take i (map row_of list)) → LackName name (map row_of list)
  lack_at_all past before = subst (LackName name) (take_all i (map row_of list) (omega (arith, length-map list row_of))) before
