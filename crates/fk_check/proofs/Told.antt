-- The answer, by what the three families of rules told.
use Rattle.std.proofs.Common.{◌≡◌, Ok, Err, sym, subst}
use Rattle.std.specs.Prelude.{Result, IfErr, IfOk, OnOk, MatchResult}
use Rattle.fk_syntax.specs.declared.facts.CheckFault.{CheckFault}
use Rattle.fk_syntax.specs.declared.facts.CheckFault.TheVariants as fault
use Rattle.fk_syntax.specs.declared.facts.Facts.{Facts}
use Rattle.fk_syntax.specs.Program.{ProgramTree}
use Rattle.fk_types_rules.specs.Facts.{AreFacts}
use Rattle.fk_regions.specs.Broken as regions
use Rattle.fk_sharing.specs.Broken as sharing
use Rattle.fk_check.specs.Rules.{KeepsTypes, Keeps, IsRefusal, by_regions, by_sharing}
use Rattle.fk_check.specs.Known.{AreAllFacts}

module _ (program : ProgramTree) (typed placed facts : Facts) (types : AreFacts program typed) where
  keeps_types : KeepsTypes program
  keeps_types = record { env = types.env; right = types.right; none = types.kept }

  refused_by_regions : (f : CheckFault) → regions.IsRefusal program f → IsRefusal program f
  refused_by_regions (fault.Rule place number) refusal = by_regions keeps_types refusal
  refused_by_regions fault.Memory refusal = tt

  refused_by_sharing : regions.AreRegions program typed placed → (f : CheckFault) → sharing.IsRefusal program f → IsRefusal program f
  refused_by_sharing are (fault.Rule place number) refusal = by_sharing keeps_types are.kept refusal
  refused_by_sharing are fault.Memory refusal = tt

  abbrev Told : {X Y : Type 0} → Result X CheckFault → Result Y CheckFault → Result Facts CheckFault → Type 0
  Told a b r = MatchResult a (λ _. MatchResult b (λ _. r ≡ Ok facts) (λ f. r ≡ Err f)) (λ f. r ≡ Err f)

  -- what each of the last two told is right, and so is the answer
  abbrev IsRight : Result Facts CheckFault → Type 0
  IsRight r = IfOk r (AreAllFacts program) × OnOk r (Keeps program) × IfErr r (IsRefusal program)

  module _ {X Y : Type 0} (a : Result X CheckFault) (b : Result Y CheckFault) (r : Result Facts CheckFault)
      (on_regions : MatchResult a (λ _. regions.AreRegions program typed placed) (regions.IsRefusal program))
      (on_sharing : MatchResult b (λ _. sharing.AreShared program placed facts) (sharing.IsRefusal program)) where
    pub right : Told a b r → IsRight r
    right is = by a b on_regions on_sharing is
      where
        by : (a : Result X CheckFault) (b : Result Y CheckFault) → MatchResult a (λ _. regions.AreRegions program typed placed) (regions.IsRefusal program)
            → MatchResult b (λ _. sharing.AreShared program placed facts) (sharing.IsRefusal program) → Told a b r → IsRight r
        by (Ok x) (Ok y) are shared is = subst IsRight (sym is) (
          record { typed = typed; placed = placed; types = types; regions = are; sharing = shared },
          record { types = keeps_types; regions = are.kept; sharing = shared.kept },
          tt,
        )
        by (Ok x) (Err f) are refusal is = subst IsRight (sym is) (tt, tt, refused_by_sharing are f refusal)
        by (Err f) b refusal other is = subst IsRight (sym is) (tt, tt, refused_by_regions f refusal)
