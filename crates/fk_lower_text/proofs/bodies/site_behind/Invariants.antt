-- The site so far, and those that are left, come to the one behind all.
use Rattle.std.proofs.Common.{◌≡◌, ◌+◌, map, drop}
use Rattle.std.specs.List.{count_by}
use Rattle.fk_lower.specs.Building.{has_site}
use Rattle.fk_lower.specs.BuilderView.{event_of}
use Rattle.fk_lower_text.proofs.bodies.site_behind.Given as goal

abbrev pub invariant-loop-event : goal.invariant-loop-event
invariant-loop-event l =
    l.behind + count_by has_site (map event_of (drop l.event-index l.events)) ≡ l.site + count_by has_site (map event_of l.events)
