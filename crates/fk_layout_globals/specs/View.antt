-- The values of the code in the form of the definitions.
use Rattle.fk_meaning_forms.specs.Tables.{Tables}
use Rattle.fk_layout_globals.specs.declared.types.Types.{Types}
use Rattle.fk_layout_globals.specs.declared.rows.GlobalRow.{GlobalRow}
use Rattle.fk_layout_globals.specs.Constants.{told}
use Rattle.fk_layout_globals.specs.Rows.{Row}

abbrev pub tables_of : Types → Tables
tables_of types = told types.notes.now types.kinds.now

abbrev pub row_of : GlobalRow → Row
row_of row =
    record { name = row.name.now; first = row.first; words = row.words; signed = row.signed }
