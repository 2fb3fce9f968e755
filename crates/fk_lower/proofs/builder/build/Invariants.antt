-- What is built so far comes, by the events that are left, to what all of them come to, and so do the sites. Of code those that are
-- left are in their places.
use Rattle.std.proofs.Common.{◌≡◌, ◌+◌, [], map, drop, fold}
use Rattle.std.specs.List.{count_by}
use Rattle.fk_syntax.specs.declared.place.Place.{Place}
use Rattle.fk_meaning_forms.specs.Code.{Code, done}
use Rattle.fk_lower.specs.Building.{building, after, has_site, events_of, IsUnbegun}
use Rattle.fk_lower.specs.BuilderView.{event_of, building_of, IsBuilderMeasured}
use Rattle.fk_lower.specs.Faults.{IsFew}
use Rattle.fk_lower.proofs.Placing.{AllPlaced}
use Rattle.fk_lower.proofs.builder.build.Given as goal

abbrev pub invariant-loop-event : goal.invariant-loop-event
invariant-loop-event l = record {
  built : fold after (building_of l.builder) (map event_of (drop l.event-index l.events)) ≡ fold after (building l.site [] done) (map event_of l.events);
  measured : IsBuilderMeasured l.builder;
  few : IsFew (building_of l.builder);
  counted : l.builder.site + count_by has_site (map event_of (drop l.event-index l.events)) ≡ l.site + count_by has_site (map event_of l.events);
  placed : (code : Code Place) → IsUnbegun code → events_of code ≡ map event_of l.events
      → AllPlaced (building_of l.builder) (map event_of (drop l.event-index l.events));
}
