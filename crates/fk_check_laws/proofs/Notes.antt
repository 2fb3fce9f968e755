-- What the notes of a correct program say of its tokens.
use Rattle.std.proofs.Common.{◌≡◌, ℕ, zero, suc, ◌<◌, ◌≤◌, Bool, List, [], ◌∷◌, length, Some, slice_get, refl, ap, ◌∙◌, arith}
use Rattle.std.specs.Prelude.{Contains, IsTrue, ◌↔◌}
use Rattle.std.proofs.lemmas.Option.{slice_get_within, get_or_from_slice_get}
use Rattle.fk_syntax.specs.declared.facts.Facts.{Facts}
use Rattle.fk_syntax.specs.declared.facts.Note.{Note}
use Rattle.fk_syntax.specs.Program.{ProgramTree}
use Rattle.fk_check_rules.specs.declared.rule.Rule.{Rule}
use Rattle.fk_types_name_rules.proofs.ListLemmas.{some_at}
use Rattle.fk_types_rules.specs.Bound.{IsBound}
use Rattle.fk_regions.specs.declared.around.Holder.{Holder}
use Rattle.fk_regions.specs.Called.{Calls}
use Rattle.fk_regions.specs.Tokens as r
use Rattle.fk_regions.specs.Broken as rb
use Rattle.fk_regions.specs.Broken.{IsSynchronous}
use Rattle.fk_sharing.specs.Broken.{SplitsAt}
use Rattle.fk_meaning_forms.specs.Tables.{Tables, nth, no_note, note}
use Rattle.fk_layout.specs.Layout.{tables_by}
use Rattle.fk_check_laws.specs.Correct.{IsCorrect}
use Rattle.fk_check_laws.proofs.Each.{Each, each}

pub nth_at : {X : Type 0} (other : X) (xs : List X) (n : ℕ) (x : X) → slice_get xs n ≡ Some x → nth other xs n ≡ x
nth_at other [] n x is = absurd (cc)
nth_at other (y ∷ xs) zero x is = cc
nth_at other (y ∷ xs) (suc n) x is = nth_at other xs n x is

pub nth_past : {X : Type 0} (other : X) (xs : List X) (n : ℕ) → length xs ≤ n → nth other xs n ≡ other
nth_past other [] n past = refl
nth_past other (y ∷ xs) zero past = absurd (omega (arith, past))
nth_past other (y ∷ xs) (suc n) past = nth_past other xs n (omega (arith, past))

pub among : {X : Type 0} (xs : List X) (i : ℕ) (x : X) → slice_get xs i ≡ Some x → Contains xs x
among xs i x is = (i, slice_get_within xs i x is, get_or_from_slice_get xs i x x is)

module _ (program : ProgramTree) (facts : Facts) (valid : IsCorrect program facts) where
  abbrev pub tables : Tables
  tables = tables_by program facts

  -- the note of a token
  pub record NoteAt (at : ℕ) : Type 0 where
    pub old : Note
    pub is_old : slice_get valid.known.typed.notes.items at ≡ Some old
    pub sync : Bool
    pub shared : Bool
    pub splits : Bool
    pub is : note tables at ≡ record old { sync = sync; shared = shared; splits = splits }
    pub sync_is : IsTrue sync ↔ IsSynchronous program at
    pub splits_is : IsTrue splits ↔ SplitsAt program at

  pub note_at : (at : ℕ) → at < program.tokens → NoteAt at
  note_at at low =
      let k = valid.known in
      let found = some_at k.typed.notes.items at (omega (arith, low, k.types.known.tokens)) in
      let regions' = k.regions.notes at found.0 found.1 in
      let sharing' = k.sharing.notes at (record found.0 { sync = regions'.0 }) regions'.1 in
      record {
        old = found.0;
        is_old = found.1;
        sync = regions'.0;
        shared = sharing'.0;
        splits = sharing'.1;
        is = nth_at no_note facts.notes.items at (record found.0 { sync = regions'.0; shared = sharing'.0; splits = sharing'.1 }) sharing'.2;
        sync_is = regions'.2;
        splits_is = sharing'.4;
      }

  pub binding_is : (at bound : ℕ) → at < program.tokens → IsBound valid.known.types.env program at bound → (note tables at).binding ≡ bound
  binding_is at bound low h =
      let n = note_at at low in
      ap (λ (m : Note). m.binding) n.is ∙ (valid.known.types.known.notes at n.old n.is_old).binding bound h

  -- ---- the tokens by which regions are told

  abbrev pub Theirs : Type 0
  Theirs = r.TokenIn (List Holder)

  -- it breaks no rule
  abbrev pub Unmisplaced : Theirs → Type 0
  Unmisplaced x = (rule : Rule) → rb.BreaksRule (Calls program x.spot.at) x rule → ⊥

  pub unmisplaced : (i : ℕ) (x : Theirs) → slice_get (r.tokens program) i ≡ Some x → Unmisplaced x
  unmisplaced i x is rule broken = valid.known.regions.kept x.spot.place rule (i, x, is, refl, broken)

  pub all_unmisplaced : Each Unmisplaced (r.tokens program)
  all_unmisplaced = each Unmisplaced (r.tokens program) unmisplaced
