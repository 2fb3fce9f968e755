-- What the notes of a program that keeps all rules say of its tokens, and what is known of the tokens of a valid one.
use Rattle.std.proofs.Common.{◌≡◌, inl, inr, ℕ, ◌<◌, ◌≤◌, true, List, [], ◌∷◌, length, codes, Option, Some, slice_get, refl, sym, ap, subst, ◌∙◌, arith}
use Rattle.std.proofs.lemmas.Bool.{cases_lt, false≢true}
use Rattle.std.proofs.lemmas.Slice.Eq.{bytes_eq-Decides}
use Rattle.fk_syntax.specs.declared.facts.Facts.{Facts}
use Rattle.fk_syntax.specs.declared.facts.Note.{Note}
use Rattle.fk_syntax.specs.declared.program.Mode.{Mode}
use Rattle.fk_syntax.specs.declared.program.Mode.TheVariants.{Async}
use Rattle.fk_syntax.specs.Program.{FunctionTree, ProgramTree, FunctionItem}
use Rattle.fk_syntax.specs.Nodes.{items_indices}
use Rattle.fk_check_rules.specs.declared.rule.Rule.{Rule}
use Rattle.fk_check_rules.specs.declared.rule.Rule.TheVariants as rules
use Rattle.fk_sharing_class.specs.declared.thing.Thing.{Thing}
use Rattle.fk_sharing_class.specs.Things.{Tells}
use Rattle.fk_regions.specs.declared.around.Region.TheVariants.{Synchronous}
use Rattle.fk_regions.specs.Around.{region}
use Rattle.fk_regions.specs.Tokens as r
use Rattle.fk_regions.specs.Broken.{IsSynchronous}
use Rattle.fk_sharing.specs.declared.around.Holder as h
use Rattle.fk_sharing.specs.Tokens as s
use Rattle.fk_sharing.specs.Broken as sb
use Rattle.fk_sharing.specs.Broken.{SplitsAt}
use Rattle.fk_sharing.proofs.Lockstep.{splits-synchronous}
use Rattle.fk_meaning_forms.specs.Tables.{Tables, no_note, note}
use Rattle.fk_meaning_forms.specs.Program.{is_main}
use Rattle.fk_layout.specs.Layout.{tables_by}
use Rattle.fk_types_rules.proofs.Counting.{times, node_times, contained, node-once, node-below}
use Rattle.fk_check_laws.specs.Correct.{IsCorrect}
use Rattle.fk_check_laws.proofs.Each.{Each, each, same_at}
use Rattle.fk_check_laws.proofs.Notes.{nth_past, among, note_at, Theirs, Unmisplaced, unmisplaced}
use Rattle.fk_check_laws.proofs.RegionTokens as regions
use Rattle.fk_check_laws.proofs.SharingTokens as sharing

module _ (program : ProgramTree) (facts : Facts) (valid : IsCorrect program facts) where
  abbrev T : Tables
  T = tables_by program facts

  many : length facts.notes.items ≡ program.tokens
  many = valid.known.sharing.length ∙ valid.known.regions.length ∙ valid.known.types.known.tokens

  sync_from : (at : ℕ) → at < program.tokens → IsSynchronous program at → (note T at).sync ≡ true
  sync_from at low h = let n = note_at program facts valid at low in ap (λ (m : Note). m.sync) n.is ∙ n.sync_is.1 h

  pub splits_from : (at : ℕ) → (note T at).splits ≡ true → SplitsAt program at
  splits_from at is = elim (cases_lt at program.tokens) [
    | inl low ↦ let n = note_at program facts valid at low in n.splits_is.0 (sym (ap (λ (m : Note). m.splits) n.is) ∙ is)
    | inr past ↦ absurd (false≢true (sym (ap (λ (m : Note). m.splits) (nth_past no_note facts.notes.items at (omega (arith, past, many)))) ∙ is))
  ]

  sync_to : (at : ℕ) → (note T at).sync ≡ true → IsSynchronous program at
  sync_to at is = elim (cases_lt at program.tokens) [
    | inl low ↦ let n = note_at program facts valid at low in n.sync_is.0 (sym (ap (λ (m : Note). m.sync) n.is) ∙ is)
    | inr past ↦ absurd (false≢true (sym (ap (λ (m : Note). m.sync) (nth_past no_note facts.notes.items at (omega (arith, past, many)))) ∙ is))
  ]

  -- ---- the tokens by which regions are told

  region_nodes : (at : ℕ) → times regions.place at (r.tokens program) ≤ node_times at (items_indices program.items)
  region_nodes at = (regions.of_items ◌∷◌ [] program.items).count at

  region_same : (i j : ℕ) (x y : Theirs program facts valid) → slice_get (r.tokens program) i ≡ Some x → slice_get (r.tokens program) j ≡ Some y → x.spot.at ≡ y.spot.at → x ≡ y
  region_same i j x y is other same =
      same_at regions.place (r.tokens program) (λ at. omega (arith, region_nodes at, node-once at (items_indices program.items) valid.well_formed.distinct)) i j x y is other same

  region_low : (i : ℕ) (x : Theirs program facts valid) → slice_get (r.tokens program) i ≡ Some x → x.spot.at < program.tokens
  region_low i x is = node-below program.tokens x.spot.at (items_indices program.items) valid.well_formed.below
      (omega (arith, region_nodes x.spot.at, contained regions.place (r.tokens program) x (among (r.tokens program) i x is)))

  -- a token is where its note says
  sync_region : (i : ℕ) (x : Theirs program facts valid) → slice_get (r.tokens program) i ≡ Some x → IsSynchronous program x.spot.at → region x.around ≡ Synchronous
  sync_region i x is h = subst (λ (y : Theirs program facts valid). region y.around ≡ Synchronous) (region_same h.0 i h.1 x h.2 is h.3) h.4

  pub split_region : (i : ℕ) (x : Theirs program facts valid) → slice_get (r.tokens program) i ≡ Some x → (note T x.spot.at).splits ≡ true → region x.around ≡ Synchronous
  split_region i x is e = sync_region i x is (splits-synchronous program x.spot.at (splits_from x.spot.at e))

  -- `main` is asynchronous
  pub async_by : (f : FunctionTree) (index : ℕ) → slice_get program.items index ≡ Some (FunctionItem f) → is_main f ≡ true → (mode : Mode) → f.mode ≡ mode → (mode ≡ Async → ⊥) → ⊥
  async_by f index there main mode is other = valid.known.types.kept f.name.place rules.NoMain
      (inl (inr (inr (inr (inr (refl, inr (index, f, there, ((bytes_eq-Decides f.name.bytes (codes "main")).0 main, (λ both. other (sym is ∙ both.1))), refl)))))))

module _ (program : ProgramTree) (facts : Facts) (valid : IsCorrect program facts) where
  abbrev pub tables : Tables
  tables = tables_by program facts

  -- it breaks no rule, and is noted where it stands
  pub record IsRight (x : Theirs program facts valid) : Type 0 where
    pub unbroken : Unmisplaced program facts valid x
    pub sync : region x.around ≡ Synchronous → (note tables x.spot.at).sync ≡ true
    pub alone : (note tables x.spot.at).splits ≡ true → region x.around ≡ Synchronous
    pub agrees : (note tables x.spot.at).sync ≡ true → region x.around ≡ Synchronous

  right : (i : ℕ) (x : Theirs program facts valid) → slice_get (r.tokens program) i ≡ Some x → IsRight x
  right i x is = record {
    unbroken = unmisplaced program facts valid i x is;
    sync = λ e. sync_from program facts valid x.spot.at (region_low program facts valid i x is) (i, x, is, refl, e);
    alone = split_region program facts valid i x is;
    agrees = λ e. sync_region program facts valid i x is (sync_to program facts valid x.spot.at e);
  }

  pub all_right : Each IsRight (r.tokens program)
  all_right = each IsRight (r.tokens program) right

  -- ---- those by which sharing is told

  abbrev pub Ours : Type 0
  Ours = s.TokenIn (List h.Holder)

  module _ (thing : ℕ → Option Thing) where
    sharing_same : (i j : ℕ) (x y : Ours) → slice_get (s.tokens thing program) i ≡ Some x → slice_get (s.tokens thing program) j ≡ Some y → x.spot.at ≡ y.spot.at → x ≡ y
    sharing_same i j x y is other same = same_at (sharing.place thing) (s.tokens thing program)
        (λ at. omega (arith, (sharing.of_items thing ◌∷◌ [] program.items).count at, node-once at (items_indices program.items) valid.well_formed.distinct)) i j x y is other same

    -- it breaks no rule, and is the only one at its token
    pub record IsOurs (x : Ours) : Type 0 where
      pub unbroken : Tells program thing → (rule : Rule) → sb.BreaksRule x.around x.word rule → ⊥
      pub same : (i : ℕ) (y : Ours) → slice_get (s.tokens thing program) i ≡ Some y → y.spot.at ≡ x.spot.at → y ≡ x

    pub all_ours : Each IsOurs (s.tokens thing program)
    all_ours = each IsOurs (s.tokens thing program) (λ i x is. record {
      unbroken = λ tells rule broken. valid.known.sharing.kept x.spot.place rule (thing, tells, i, x, is, refl, broken);
      same = λ j y other e. sharing_same j i y x other is e;
    })
