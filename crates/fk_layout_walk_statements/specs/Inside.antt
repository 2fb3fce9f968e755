-- The function around statements, in the form that the definitions of code use.
use Rattle.fk_meaning_forms.specs.Statements as s
use Rattle.fk_layout_walk_statements.specs.declared.inside.Inside.{Inside}

abbrev pub inside_of : Inside → s.Inside
inside_of inside = record { main = inside.main; framed = inside.framed }
