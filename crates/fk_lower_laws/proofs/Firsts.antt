-- The private variables of file scope are few: they are among the words of the frame of `main`.
use Rattle.std.proofs.Common.{◌≡◌, inl, inr, ℕ, ◌+◌, ◌-◌, ◌*◌, ◌<◌, ◌≤◌, Bool, true, false, List, [], ◌∷◌, Some, None, refl, sym, ap, ◌∙◌, arith}
use Rattle.std.specs.Prelude.{nat_lt, min, ◌^◌, if◌then◌else◌}
use Rattle.std.proofs.lemmas.Bool.{cases_lt, lt-ltb}
use Rattle.std.proofs.lemmas.List.{length-map}
use Rattle.fk_syntax.specs.Program.{FunctionTree, ItemTree}
use Rattle.fk_meaning_forms.specs.Tables.{Tables}
use Rattle.fk_meaning_forms.specs.Program.{functions_of, is_main}
use Rattle.fk_layout_globals.specs.Constants.{told}
use Rattle.fk_layout_globals.specs.Rows.{first_of}
use Rattle.fk_layout_globals.specs.Variables.{variables_of}
use Rattle.fk_layout_slots.specs.Slots.{own_of}
use Rattle.fk_layout.specs.Frames.{told_in, file_privates, values_of, nesting_of, private_words, first_large_in}
use Rattle.fk_layout.specs.Layout.{tables_by}
use Rattle.fk_check_laws.proofs.Each.{Each, each_map}
use Rattle.fk_check_laws.proofs.Main.{there_is_main}
use Rattle.fk_lower_laws.specs.LoweringLaws.{FirstsAreFew}

module _ (tables : Tables) (items : List ItemTree) where
  abbrev IsSmall : FunctionTree → Type 0
  IsSmall f = private_words tables items f ≤ 64

  -- no frame is large
  pub small : (fs : List FunctionTree) → first_large_in tables items fs ≡ None → Each IsSmall fs
  small [] none = tt
  small (f ∷ fs) none = by (nat_lt 64 (private_words tables items f)) refl none (λ e. small fs e)
    where
      by : (b : Bool) → nat_lt 64 (private_words tables items f) ≡ b
          → (if b then Some (f.name.place, min (private_words tables items f) (2 ^ 32 - 1)) else first_large_in tables items fs) ≡ None
          → (first_large_in tables items fs ≡ None → Each IsSmall fs) → Each IsSmall (f ∷ fs)
      by true is e others = absurd (cc)
      by false is e others = (
        elim (cases_lt 64 (private_words tables items f)) [
          | inl more ↦ absurd (let clash = sym is ∙ lt-ltb 64 (private_words tables items f) more in cc)
          | inr less ↦ omega (arith, less)
        ],
        others e,
      )

  abbrev with_file : Bool → ℕ
  with_file main = if main then file_privates items else 0

  -- so with many private variables of file scope none is `main`
  no_main : 56 < file_privates items → (f : FunctionTree) → IsSmall f → is_main f ≡ false
  no_main many f few = by (is_main f) refl
    where
      by : (main : Bool) → is_main f ≡ main → main ≡ false
      by false is = refl
      by true is =
          let own : ℕ = (own_of (told_in tables) f).privates in
          let values : ℕ = values_of tables items f in
          let nesting : ℕ = nesting_of tables items f in
          let all : 8 + (own + with_file (is_main f)) + values + 4 * nesting ≤ 64 = few in
          absurd (omega (arith, all, ap with_file is, many))

pub firsts_are_few : FirstsAreFew
firsts_are_few program facts valid fits =
    let tables = tables_by program facts in
    let count = length-map (variables_of false program.items) (first_of (told facts.notes.items facts.kinds.items)) in
    elim (cases_lt 56 (file_privates program.items)) [
      | inl many ↦ absurd (there_is_main program facts valid (each_map (IsSmall tables program.items) (λ f. is_main f ≡ false)
          (no_main tables program.items many) (functions_of program.items) (small tables program.items (functions_of program.items) fits.frames)))
      | inr few ↦ omega (arith, few, count)
    ]
