-- A visitor that lists the operations that it is shown, as long as there is room.
use Rattle.std.specs.Prelude.{ℕ, ◌+◌, length, nat_lt, Option, Some, None, if◌then◌else◌}
use Rattle.std.specs.Vec.{with_item}
use Rattle.fk_syntax.specs.declared.place.Place.{Place}
use Rattle.fk_meaning_operation.specs.declared.operation.Operation.{Operation}
use Rattle.fk_meaning_operation.specs.Kinds.{kind_of}
use Rattle.fk_layout_walk.specs.declared.visitor.Event.{Event}
use Rattle.fk_layout_walk.specs.declared.visitor.Mark.{Mark}
use Rattle.fk_layout_walk.specs.Event.{operation_of}
use Rattle.fk_layout.specs.declared.listed.Site.{Site}
use Rattle.fk_layout.specs.declared.listed.Listing.{Listing}

-- a site in the form that an image has
abbrev pub site : (ℕ × Place) → Site
site operation = record { kind = operation.0; place = operation.1 }

abbrev pub written : Listing → Site → Listing
written listing x =
    record { sites = with_item listing.sites listing.filled x; filled = listing.filled + 1 }

abbrev pub with_operation : Listing → Option (Operation × Place) → Listing
with_operation listing None = listing
with_operation listing (Some operation) =
    if nat_lt listing.filled (length listing.sites.items)
    then written listing (site (kind_of operation.0, operation.1))
    else listing

abbrev pub listing_after : Listing → Event → Listing
listing_after listing event = with_operation listing (operation_of event)

abbrev pub no_mark : Listing → Mark
no_mark listing = record { values = 0; most = 0; nesting = 0; deepest = 0 }
