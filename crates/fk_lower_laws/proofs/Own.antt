-- The code of programs that keep all rules names words that are there.
use Rattle.fk_layout.specs.Frames.{file_privates, values_of}
use Rattle.fk_layout.specs.Layout.{tables_by}
use Rattle.fk_check_laws.proofs.Programs.{correct_programs_fit}
use Rattle.fk_lower_laws.specs.Room.{own_words}
use Rattle.fk_lower_laws.specs.RoomLaws.{NamesHaveWords}
use Rattle.fk_lower_laws.proofs.Functions.{code_names_words}
use Rattle.fk_lower_laws.proofs.Names.{functions_name}
use Rattle.fk_lower_names.proofs.WordRoom.{small_frames}

pub names_have_words : NamesHaveWords
names_have_words program facts valid trim fits binding =
    let tables = tables_by program facts in
    code_names_words tables program (own_words tables program.items) (values_of tables program.items) (file_privates program.items) (correct_programs_fit program facts valid trim)
    (small_frames program facts valid fits) (functions_name program facts valid trim fits) binding
