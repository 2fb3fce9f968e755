-- The answer of the whole call.
use Rattle.std.proofs.Common.{◌≡◌, ◌↔◌, ℕ, Bool, true, false, List, map, fold, length, Option, Some, None, slice_get, sym, ap, subst, ◌∙◌}
use Rattle.std.proofs.lemmas.List.{length-map}
use Rattle.fk_syntax.specs.declared.place.Place.{Place}
use Rattle.fk_syntax.specs.declared.facts.Note.{Note}
use Rattle.fk_syntax.specs.declared.facts.Facts.{Facts}
use Rattle.fk_syntax.specs.declared.facts.CheckFault.TheVariants as f
use Rattle.fk_syntax.specs.Program.{ProgramTree}
use Rattle.fk_check_rules.specs.declared.rule.Rule.{Rule}
use Rattle.fk_check_rules.specs.declared.fault.Fault.{Fault}
use Rattle.fk_check_rules.specs.Rules.{number_of}
use Rattle.fk_check_rules.specs.Least.{IsLeast, among}
use Rattle.fk_types_names.specs.declared.names.Names.{Names}
use Rattle.fk_types_names.specs.Names.{AreNames}
use Rattle.fk_sharing_class.specs.Things.{thing_in}
use Rattle.fk_sharing_class.proofs.Telling.{names-tell, same-telling}
use Rattle.fk_regions.proofs.Finding.{get-map}
use Rattle.fk_sharing.specs.declared.token.Token.{Token}
use Rattle.fk_sharing.specs.Tokens.{items_tokens, tokens}
use Rattle.fk_sharing.specs.Collected.{within, outside, seen}
use Rattle.fk_sharing.specs.Retold.{retold}
use Rattle.fk_sharing.specs.Marked.{cleared, after}
use Rattle.fk_sharing.specs.Found.{TokenBreaks}
use Rattle.fk_sharing.specs.Broken.{HasAt, Broken, SaysSharing, AreShared, IsRefusal}
use Rattle.fk_sharing.proofs.Retold.{tokens-retold}
use Rattle.fk_sharing.proofs.Finding.{least-broken}
use Rattle.fk_sharing.proofs.Marking.{Held, Has, raised, is_shared, is_split, marks-say, raised-has, length-marks}

module _ (program : ProgramTree) (names : Names) (are : AreNames program names) (list : List Token) (same : map seen list ≡ items_tokens (thing_in names) within outside program.items) where
  told : map seen list ≡ map retold (tokens (thing_in names) program)
  told = same ∙ sym (tokens-retold (thing_in names) program)

  module _ (r : Option Fault) (least : IsLeast (among TokenBreaks list) r) where
    pub refused : (fault : Fault) (number : ℕ) → r ≡ Some fault → number ≡ number_of fault.rule → IsRefusal program (f.Rule fault.place number)
    refused fault number e n = (fault.rule, subst (IsLeast (Broken program)) e (least-broken program names are list told r least), n)

    pub unbroken : r ≡ None → (place : Place) (rule : Rule) → ¬ Broken program place rule
    unbroken e = subst (IsLeast (Broken program)) e (least-broken program names are list told r least)

  -- what one token is found to be by the names that are known, one is in the program
  has-at : (test : Held → Bool) (index : ℕ) → (raised test index false (tokens (thing_in names) program) ≡ true) ↔ HasAt program test index
  has-at test index =
      let known = raised-has test index (tokens (thing_in names) program) in (
        (λ h. let t = known.0 h in (thing_in names, names-tell program names are, t.0, t.1, t.2, t.3, t.4)),
        (λ h. known.1 (subst (λ thing. Has test (tokens thing program) index) (same-telling program h.0 (thing_in names) h.1 (names-tell program names are)) (h.2, h.3, h.4, h.5, h.6))),
      )

  says-sharing : (old : List Note) (index : ℕ) (note : Note) → slice_get old index ≡ Some note → SaysSharing program index note (slice_get (fold after (map cleared old) (map seen list)) index)
  says-sharing old index note there =
      let all = tokens (thing_in names) program in
      let says = marks-say all (map cleared old) index (cleared note) (get-map cleared old index note there) in
      (raised is_shared index false all, raised is_split index false all, ap (λ l. slice_get (fold after (map cleared old) l) index) told ∙ says, has-at is_shared index, has-at is_split index)

  pub accepted : (old new : Facts) → ((place : Place) (rule : Rule) → ¬ Broken program place rule) → new.kinds ≡ old.kinds → new.notes.items ≡ fold after (map cleared old.notes.items) (map seen list) → AreShared program old new
  accepted old new kept kinds marks = record {
    kept = kept;
    kinds = kinds;
    length = ap length marks ∙ length-marks (map seen list) (map cleared old.notes.items) ∙ length-map old.notes.items cleared;
    notes = λ index note there. subst (λ l. SaysSharing program index note (slice_get l index)) (sym marks) (says-sharing old.notes.items index note there);
  }
