-- The site of a number.
use Rattle.std.proofs.Common.{◌≡◌, ℕ, List, map, Option, Some, None, sym, ap, ◌∙◌}
use Rattle.std.specs.Prelude.{option_map, slice_get}
use Rattle.std.proofs.lemmas.Option.{slice_get-map}
use Rattle.fk_syntax.specs.declared.place.Place.{Place}
use Rattle.fk_layout.specs.declared.listed.Site.{Site}
use Rattle.fk_layout.specs.Listing.{site}
use Rattle.fk_compile.specs.Faithful.{in_image}

pub told_site : (sites : List Site) (all : List (ℕ × Place)) (k : ℕ) (x : Site) → sites ≡ map site all → slice_get sites k ≡ Some x → slice_get (map in_image all) k ≡ Some (x.kind, x.place.line, x.place.column)
told_site sites all k x are is =
    slice_get-map in_image all k
    ∙ by (slice_get all k) (sym (slice_get-map site all k) ∙ ap (λ (xs : List Site). slice_get xs k) (sym are) ∙ is)
  where
    by : (there : Option (ℕ × Place)) → option_map site there ≡ Some x → option_map in_image there ≡ Some (x.kind, x.place.line, x.place.column)
    by None e = absurd (cc)
    by (Some p) e =
        let same : site p ≡ x = cc in
        ap (λ (s : Site). Some (s.kind, s.place.line, s.place.column)) same
