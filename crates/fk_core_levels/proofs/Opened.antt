-- The innermost open part is the last that a pass keeps.
use Rattle.std.proofs.Common.{◌≡◌, ℕ, List, [], ◌∷◌, ◌++◌, map, Option, ap, ◌∙◌}
use Rattle.std.specs.Prelude.{reverse}
use Rattle.std.proofs.lemmas.List.{map-append, reverse-append}
use Rattle.fk_meaning_operation.specs.declared.operation.SplitKind.{SplitKind}
use Rattle.fk_core_levels.specs.declared.open.Open.{Open}
use Rattle.fk_core_levels.specs.Forks.{OpenPart, Parts, left_by, opened}
use Rattle.fk_core_levels.specs.Open.{part_of}

abbrev parts_in : List Open → (words : ℕ) → Parts
parts_in parts words = record { parts = reverse (map part_of parts); words = words }

abbrev open_part : Option ℕ → (words : ℕ) → Open
open_part fork words = record { fork = fork; words = words }

abbrev at_begin : List OpenPart → Parts
at_begin held = record { parts = held; words = 0 }

abbrev begun : Option ℕ → (words : ℕ) → List OpenPart → Parts
begun fork words held = at_begin (record { fork = fork; words = words } ∷ held)

pub opened_parts : (by : SplitKind) (old new : List Open) (fork : Option ℕ) (words : ℕ) → new ≡ old ++ open_part fork words ∷ [] → fork ≡ left_by by words
    → parts_in new 0 ≡ opened by (parts_in old words)
opened_parts by old new fork words pushed left =
    ap (λ (parts : List Open). parts_in parts 0) pushed
    ∙ ap (λ (held : List OpenPart). at_begin held)
    (ap (λ (held : List OpenPart). reverse held) (map-append part_of old (open_part fork words ∷ []))
    ∙ reverse-append (map part_of old) (part_of (open_part fork words) ∷ []))
    ∙ ap (λ (f : Option ℕ). begun f words (reverse (map part_of old))) left
