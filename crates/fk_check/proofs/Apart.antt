-- A program that keeps all rules breaks none first, and one that doesn't breaks at most one first.
use Rattle.std.proofs.Common.{◌≡◌, ℕ, Some, sym, ap, ◌∙◌, arith}
use Rattle.fk_syntax.specs.declared.place.Place.{Place}
use Rattle.fk_syntax.specs.declared.facts.CheckFault.TheVariants as fault
use Rattle.fk_syntax.specs.Program.{ProgramTree}
use Rattle.fk_check_rules.specs.declared.rule.Rule.{Rule}
use Rattle.fk_check_rules.specs.declared.fault.Fault.{Fault}
use Rattle.fk_check_rules.specs.Rules.{number_of}
use Rattle.fk_check_rules.specs.Least.{Breaks, IsLeast, IsNoLater}
use Rattle.fk_types_rules.specs.Broken as types
use Rattle.fk_types_rules.proofs.Alike.{alike}
use Rattle.fk_regions.specs.Broken as regions
use Rattle.fk_sharing.specs.Broken as sharing
use Rattle.fk_check.specs.Rules.{KeepsTypes, KeepsRegions, KeepsSharing, Keeps, BreaksFirst, by_types, by_regions, by_sharing}
use Rattle.fk_check.specs.Laws.{KeepsOrBreaks, BreaksOneFirst}

-- the same place, and the same number
abbrev IsSame : Place → Place → ℕ → ℕ → Type 0
IsSame place other m n = (place ≡ other) × (m ≡ n)

abbrev place_at : ℕ → ℕ → Place
place_at line column = record { line = line; column = column }

same_place : (p q : Place) → p.line ≡ q.line → p.column ≡ q.column → p ≡ q
same_place p q line column =
    let first : place_at p.line p.column ≡ place_at q.line p.column = ap (λ l. place_at l p.column) line in
    let second : place_at q.line p.column ≡ place_at q.line q.column = ap (λ c. place_at q.line c) column in
    first ∙ second

-- of two faults none of which is later
same_fault : (f g : Fault) → IsNoLater f g → IsNoLater g f → IsSame f.place g.place (number_of f.rule) (number_of g.rule)
same_fault f g before after =
    let line : f.place.line ≡ g.place.line = grind arith in
    let column : f.place.column ≡ g.place.column = grind arith in
    let number : number_of f.rule ≡ number_of g.rule = grind arith in
    (same_place f.place g.place line column, number)

-- the first faults of what breaks the same
same_least : (P Q : Breaks) → ((place : Place) (rule : Rule) → P place rule → Q place rule) → ((place : Place) (rule : Rule) → Q place rule → P place rule)
    → (f g : Fault) → IsLeast P (Some f) → IsLeast Q (Some g) → IsSame f.place g.place (number_of f.rule) (number_of g.rule)
same_least P Q to from f g first second =
    same_fault f g (first.1 g (from g.place g.rule second.0)) (second.1 f (to f.place f.rule first.0))

module _ (program : ProgramTree) (place : Place) (m : ℕ) where
  abbrev TypesRefuse : Type 0
  TypesRefuse = types.IsRefusal program (fault.Rule place m)

  abbrev RegionsRefuse : Type 0
  RegionsRefuse = regions.IsRefusal program (fault.Rule place m)

  abbrev SharingRefuses : Type 0
  SharingRefuses = sharing.IsRefusal program (fault.Rule place m)

  -- what is kept isn't broken
  types_kept : KeepsTypes program → TypesRefuse → ⊥
  types_kept kept (env, right, rule, least, is) = kept.none place rule (alike program env kept.env right kept.right place rule least.0)

  regions_kept : KeepsRegions program → RegionsRefuse → ⊥
  regions_kept kept (rule, least, is) = kept place rule least.0

  sharing_kept : KeepsSharing program → SharingRefuses → ⊥
  sharing_kept kept (rule, least, is) = kept place rule least.0

  pub apart : Keeps program → BreaksFirst program place m → ⊥
  apart kept (by_types refused) = types_kept kept.types refused
  apart kept (by_regions t refused) = regions_kept kept.regions refused
  apart kept (by_sharing t r refused) = sharing_kept kept.sharing refused

  module _ (other : Place) (n : ℕ) where
    one_of_types : TypesRefuse → types.IsRefusal program (fault.Rule other n) → IsSame place other m n
    one_of_types (env, right, rule, least, is) (last, fits, second, again, also) =
        let same = same_least (types.Broken env program) (types.Broken last program) (alike program env last right fits) (alike program last env fits right)
        (record { place = place; rule = rule }) (record { place = other; rule = second }) least again in
        (same.0, is ∙ same.1 ∙ sym also)

    one_of_regions : RegionsRefuse → regions.IsRefusal program (fault.Rule other n) → IsSame place other m n
    one_of_regions (rule, least, is) (second, again, also) =
        let same = same_least (regions.Broken program) (regions.Broken program) (λ at r b. b) (λ at r b. b)
        (record { place = place; rule = rule }) (record { place = other; rule = second }) least again in
        (same.0, is ∙ same.1 ∙ sym also)

    one_of_sharing : SharingRefuses → sharing.IsRefusal program (fault.Rule other n) → IsSame place other m n
    one_of_sharing (rule, least, is) (second, again, also) =
        let same = same_least (sharing.Broken program) (sharing.Broken program) (λ at r b. b) (λ at r b. b)
        (record { place = place; rule = rule }) (record { place = other; rule = second }) least again in
        (same.0, is ∙ same.1 ∙ sym also)

module _ (program : ProgramTree) (place other : Place) (m n : ℕ) where
  one : BreaksFirst program place m → BreaksFirst program other n → IsSame place other m n
  one (by_types refused) (by_types again) = one_of_types program place m other n refused again
  one (by_types refused) (by_regions t again) = absurd (types_kept program place m t refused)
  one (by_types refused) (by_sharing t r again) = absurd (types_kept program place m t refused)
  one (by_regions t refused) (by_types again) = absurd (types_kept program other n t again)
  one (by_regions t refused) (by_regions u again) = one_of_regions program place m other n refused again
  one (by_regions t refused) (by_sharing u r again) = absurd (regions_kept program place m r refused)
  one (by_sharing t r refused) (by_types again) = absurd (types_kept program other n t again)
  one (by_sharing t r refused) (by_regions u again) = absurd (regions_kept program other n r again)
  one (by_sharing t r refused) (by_sharing u s again) = one_of_sharing program place m other n refused again

pub keeps_or_breaks : KeepsOrBreaks
keeps_or_breaks program place number kept broken = apart program place number kept broken

pub breaks_one_first : BreaksOneFirst
breaks_one_first program place other m n first second = one program place other m n first second
