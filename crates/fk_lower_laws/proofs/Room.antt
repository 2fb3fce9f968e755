-- Programs that keep all rules and have a layout have room in frames.
use Rattle.fk_layout.specs.Layout.{tables_by}
use Rattle.fk_lower_laws.specs.RoomLaws.{words_of, values_in, nested_in, CorrectProgramsHaveRoom}
use Rattle.fk_lower_laws.proofs.Values.{values_have_room}
use Rattle.fk_lower_laws.proofs.Own.{names_have_words}

pub correct_programs_have_room : CorrectProgramsHaveRoom
correct_programs_have_room program facts valid trim proper fits =
    let values = values_have_room program facts valid trim proper fits in
    record {
      words = words_of (tables_by program facts) program;
      most = values_in (tables_by program facts) program;
      nested = nested_in (tables_by program facts) program;
      room = values.room;
      own = names_have_words program facts valid trim fits;
      few = values.few;
      parts = values.parts;
    }
