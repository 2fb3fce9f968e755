-- Why the variables of file scope are refused.
use Rattle.std.specs.Prelude.{◌≡◌, ℕ, ◌<◌, ◌^◌, ◌-◌, min, ⊤}
use Rattle.fk_num.specs.Limits.{most_data_words}
use Rattle.fk_layout_globals.specs.declared.layout.GlobalsFault.{GlobalsFault}
use Rattle.fk_layout_globals.specs.declared.layout.GlobalsFault.TheVariants.{TooLarge, Memory}

-- there are more words than an image can have, and the fault reports them. If there isn't enough
-- memory, the fault says nothing about them
abbrev pub IsFault : (words : ℕ) → GlobalsFault → Type 0
IsFault words (TooLarge told) = (most_data_words < words) × (told ≡ min words (2 ^ 64 - 1))
IsFault words Memory = ⊤
