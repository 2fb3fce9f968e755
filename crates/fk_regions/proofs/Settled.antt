-- The answer of the whole call.
use Rattle.std.proofs.Common.{◌≡◌, ◌⊎◌, inl, inr, ℕ, true, false, List, map, fold, length, Option, Some, None, slice_get, sym, ap, subst, ◌∙◌}
use Rattle.std.proofs.lemmas.List.{length-map}
use Rattle.fk_syntax.specs.declared.place.Place.{Place}
use Rattle.fk_syntax.specs.declared.facts.Note.{Note}
use Rattle.fk_syntax.specs.declared.facts.Facts.{Facts}
use Rattle.fk_syntax.specs.declared.facts.CheckFault.TheVariants as f
use Rattle.fk_syntax.specs.Program.{ProgramTree}
use Rattle.fk_check_rules.specs.declared.rule.Rule.{Rule}
use Rattle.fk_check_rules.specs.declared.fault.Fault.{Fault}
use Rattle.fk_check_rules.specs.Rules.{number_of}
use Rattle.fk_check_rules.specs.Least.{IsLeast, among}
use Rattle.fk_types_names.specs.declared.names.Names.{Names}
use Rattle.fk_types_names.specs.Names.{AreNames}
use Rattle.fk_regions.specs.declared.token.Token.{Token}
use Rattle.fk_regions.specs.Tokens.{items_tokens, tokens}
use Rattle.fk_regions.specs.Collected.{within, outside, seen}
use Rattle.fk_regions.specs.Retold.{retold}
use Rattle.fk_regions.specs.Marked.{cleared, after}
use Rattle.fk_regions.specs.Found.{TokenBreaks}
use Rattle.fk_regions.specs.Broken.{Broken, IsSynchronous, SaysRegion, AreRegions, IsRefusal}
use Rattle.fk_regions.proofs.Retold.{tokens-retold}
use Rattle.fk_regions.proofs.Finding.{get-map, least-broken}
use Rattle.fk_regions.proofs.Marking.{Stands, marks-say, length-marks}

module _ (program : ProgramTree) (list : List Token) (same : map seen list ≡ items_tokens within outside program.items) where
  told : map seen list ≡ map retold (tokens program)
  told = same ∙ sym (tokens-retold program)

  module _ (names : Names) (are : AreNames program names) (r : Option Fault) (least : IsLeast (among (TokenBreaks names) list) r) where
    pub refused : (fault : Fault) (number : ℕ) → r ≡ Some fault → number ≡ number_of fault.rule → IsRefusal program (f.Rule fault.place number)
    refused fault number e n = (fault.rule, subst (IsLeast (Broken program)) e (least-broken program names are list told r least), n)

    pub unbroken : r ≡ None → (place : Place) (rule : Rule) → ¬ Broken program place rule
    unbroken e = subst (IsLeast (Broken program)) e (least-broken program names are list told r least)

  says-region : (old : List Note) (index : ℕ) (note : Note) → slice_get old index ≡ Some note → SaysRegion program index note (slice_get (fold after (map cleared old) (map seen list)) index)
  says-region old index note there =
      let t = marks-say (tokens program) (map cleared old) index (cleared note) (get-map cleared old index note there) in
      (t.0, ap (λ l. slice_get (fold after (map cleared old) l) index) told ∙ t.1, (λ h. only (t.2.0 h), λ s. t.2.1 (inr s)))
    where
      only : (false ≡ true) ⊎ Stands (tokens program) index → IsSynchronous program index
      only (inl h) = absurd (cc)
      only (inr s) = s

  pub accepted : (old new : Facts) → ((place : Place) (rule : Rule) → ¬ Broken program place rule) → new.kinds ≡ old.kinds → new.notes.items ≡ fold after (map cleared old.notes.items) (map seen list) → AreRegions program old new
  accepted old new kept kinds marks = record {
    kept = kept;
    kinds = kinds;
    length = ap length marks ∙ length-marks (map seen list) (map cleared old.notes.items) ∙ length-map old.notes.items cleared;
    notes = λ index note there. subst (λ l. SaysRegion program index note (slice_get l index)) (sym marks) (says-region old.notes.items index note there);
  }
