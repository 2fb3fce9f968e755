use Rattle.std.proofs.Common.{◌≡◌, ℕ, List, Option, None, Some, Bor, length, slice_get, refl, sym, ap, ◌∙◌}
use Rattle.std.proofs.lemmas.Option.{slice_get_past, slice_get_read}
use Rattle.std.specs.Option.{option_copied}
use Rattle.std.specs.Slice.{IsItemAt}
use Rattle.fk_top.specs.Outcome.{fault_report}
use Rattle.fk_top.proofs.stand.stand_report.Goals as goal

-- what `get` lends is the item of that number
copied-get : {X : Type 0} (xs : List X) (i : ℕ) (r : Option (Bor X)) → IsItemAt xs i r → option_copied r ≡ slice_get xs i
copied-get xs i None h = sym (slice_get_past xs i h.3)
copied-get xs i (Some x) h = sym (slice_get_read xs (length xs) i x.now refl h.3.0 h.1)

pub returns-in-Faulted : goal.returns-in-Faulted
returns-in-Faulted c =
    let at = copied-get c.deref.result.now c.in-Faulted.site c.get.result c.get.ensures.lookup in
    let site = c.copied-site.ensures ∙ at ∙ ap (λ sites. slice_get sites c.in-Faulted.site) c.deref.ensures.value in
    rw c.in-Faulted.is (c.fault_report.ensures ∙ ap (λ s. fault_report s c.in-Faulted.processor c.args.cycles) site)
