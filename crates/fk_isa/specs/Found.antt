-- What `row` finds for a word, and the table.
use Rattle.std.specs.Prelude.{◌≡◌, ℕ, ◌↔◌, Some, None}
use Rattle.fk_isa.specs.declared.instruction.Instruction.{Instruction}
use Rattle.fk_isa.specs.Find.{row}
use Rattle.fk_isa.specs.Row.{Row}

-- No row of the table is that of the word.
abbrev pub HasNoRow : ℕ → Type 0
HasNoRow word = (i : Instruction) → ¬ (Row word i)

-- `row` finds an instruction exactly if its row is that of the word, and nothing exactly if no row
-- is.
abbrev pub FindsRow : ℕ → Type 0
FindsRow word = ((i : Instruction) → (row word ≡ Some i) ↔ Row word i)
    × ((row word ≡ None) ↔ HasNoRow word)
