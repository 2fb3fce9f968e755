-- Programs as trees: their sites, and runs of them. Expected values are those of another interpreter of the same rules.
use Rattle.std.proofs.Common.{◌≡◌, [], ◌∷◌, Some, None, refl, true, false}
use Rattle.std.specs.Prelude.{replicate, codes}
use Rattle.fk_syntax.specs.declared.program.Mode.TheVariants as m
use Rattle.fk_syntax.specs.declared.sign.Sign.TheVariants as g
use Rattle.fk_syntax.specs.Tree as t
use Rattle.fk_syntax.specs.Program as p
use Rattle.fk_syntax.specs.Program.{ProgramTree}
use Rattle.fk_meaning.specs.Processor.{setting_of}
use Rattle.fk_meaning.specs.Schedule.{Schedule, SourceFinished, SourceFaulted}
use Rattle.fk_meaning_forms.specs.declared.tables.Home.TheVariants as h
use Rattle.fk_meaning_forms.specs.Tables.{Tables}
use Rattle.fk_meaning_forms.specs.Program.{sites_of}
use Rattle.fk_meaning_forms.proofs.Short.{place, sp, nm, ty, dc, nn, nt, kd, sl, rg, k, at, function}
use Rattle.fk_meaning.specs.Program.{next_in, program_opening}
use Rattle.fk_meaning.proofs.Seen.{Line, Byte, lines, seen}

-- sh int x; void main(void) { start { x = $; } }
abbrev pub last_writer_program : ProgramTree
last_writer_program = record {
  items =
      (p.VariablesItem ((dc true (ty t.Int 0) (nm (codes "x") 2 1 8) None None) ∷ []))
      ∷ (p.FunctionItem (function m.Async (ty t.Void 0) (nm (codes "main") 5 1 16) [] (Some ((p.statement (p.Start (sp 10 1 29) None (p.Block (p.statement (p.Expression (t.Assign (sp 13 1 39) g.Assign (t.Variable (nm (codes "x") 12 1 37)) (t.GroupRank (sp 14 1 41)))) p.no_statements))) p.no_statements)))))
      ∷ [];
  end = place 1 47;
  tokens = 18;
}

abbrev pub last_writer_tables : Tables
last_writer_tables = record {
  notes = nn ∷ nn ∷ nt 0 0 false false false ∷ nn ∷ nn ∷ nt 0 1 false false false ∷ nn ∷ nn ∷ nn ∷ nn ∷ nt 0 0 false false false ∷ nn ∷ nt 0 0 true true false ∷ nt 0 0 true false false ∷ nt 0 0 true false false ∷ [];
  kinds = kd 1 false false 0 ∷ [];
  slots = sl h.Global 0 ∷ sl h.NoWord 0 ∷ [];
  regions = [];
}

last_writer_sites : sites_of last_writer_tables last_writer_program
    ≡ k 2 ∷ k 23 ∷ k 1 ∷ k 2 ∷ k 14 ∷ k 4 ∷ k 29 ∷ k 30 ∷ k 34 ∷ []
last_writer_sites = refl

abbrev pub last_writer_rounds : Schedule
last_writer_rounds =
    (1 ∷ 1 ∷ []) ∷ (1 ∷ 1 ∷ []) ∷ (3 ∷ 3 ∷ []) ∷ (2 ∷ 2 ∷ []) ∷ (1 ∷ 1 ∷ []) ∷ (1 ∷ 1 ∷ []) ∷ []

last_writer : seen (next_in last_writer_tables last_writer_program) (setting_of 2 (0 ∷ []) []) last_writer_rounds None (0 ∷ []) (program_opening last_writer_tables last_writer_program (0 ∷ []) [] [] 2)
    ≡ (lines [] [], (1 ∷ []), SourceFinished, true)
last_writer = refl

-- sh int c; sh int r[3]; void main(void) { start { r[$] = mpadd(&c, -1); } }
abbrev pub ascending_mpadd_program : ProgramTree
ascending_mpadd_program = record {
  items =
      (p.VariablesItem ((dc true (ty t.Int 0) (nm (codes "c") 2 1 8) None None) ∷ []))
      ∷ (p.VariablesItem ((dc true (ty t.Int 0) (nm (codes "r") 6 1 18) (Some 3) None) ∷ []))
      ∷ (p.FunctionItem (function m.Async (ty t.Void 0) (nm (codes "main") 12 1 29) [] (Some ((p.statement (p.Start (sp 17 1 42) None (p.Block (p.statement (p.Expression (t.Assign (sp 23 1 55) g.Assign (t.Postfix (t.Variable (nm (codes "r") 19 1 50)) (t.index (sp 20 1 51) (t.GroupRank (sp 21 1 52)) t.no_suffixes)) (t.Postfix (t.Variable (nm (codes "mpadd") 24 1 57)) (t.call (sp 25 1 62) (t.tree (t.Prefix (sp 26 1 63) g.Ampersand (t.Variable (nm (codes "c") 27 1 64))) (t.tree (t.Prefix (sp 29 1 67) g.Minus (t.Number (sp 30 1 68) 1 false)) t.no_trees)) t.no_suffixes)))) p.no_statements))) p.no_statements)))))
      ∷ [];
  end = place 1 75;
  tokens = 35;
}

abbrev pub ascending_mpadd_tables : Tables
ascending_mpadd_tables = record {
  notes = nn ∷ nn ∷ nt 0 0 false false false ∷ nn ∷ nn ∷ nn ∷ nt 1 1 false false false ∷ nn ∷ nn ∷ nn ∷ nn ∷ nn ∷ nt 0 2 false false false ∷ nn ∷ nn ∷ nn ∷ nn ∷ nt 0 0 false false false ∷ nn ∷ nt 1 1 true true false ∷ nt 0 0 true false false ∷ nt 0 0 true false false ∷ nn ∷ nt 0 0 true false false ∷ nt 0 4294967295 false false false ∷ nt 0 0 true false false ∷ nt 2 0 true true false ∷ nt 0 0 true true false ∷ nn ∷ nt 0 0 true true false ∷ nt 0 0 true true false ∷ [];
  kinds = kd 1 false false 0 ∷ kd 3 false true 4 ∷ kd 1 true false 4 ∷ [];
  slots = sl h.Global 0 ∷ sl h.Global 1 ∷ sl h.NoWord 0 ∷ [];
  regions = [];
}

ascending_mpadd_sites : sites_of ascending_mpadd_tables ascending_mpadd_program
    ≡ k 2 ∷ k 23 ∷ k 1 ∷ k 2 ∷ k 8 ∷ at 12 1 51 ∷ k 1 ∷ at 12 1 57 ∷ k 1 ∷ k 6 ∷ k 15 ∷ k 14 ∷ k 4 ∷ k 29 ∷ k 30 ∷ k 34 ∷ []
ascending_mpadd_sites = refl

abbrev pub ascending_mpadd_rounds : Schedule
ascending_mpadd_rounds =
    (1 ∷ 1 ∷ 1 ∷ []) ∷ (1 ∷ 1 ∷ 1 ∷ []) ∷ (4 ∷ 4 ∷ 4 ∷ []) ∷ (2 ∷ 2 ∷ 2 ∷ []) ∷ (3 ∷ 3 ∷ 3 ∷ []) ∷ (1 ∷ 1 ∷ 1 ∷ []) ∷ (2 ∷ 2 ∷ 2 ∷ []) ∷ (1 ∷ 1 ∷ 1 ∷ []) ∷ (1 ∷ 1 ∷ 1 ∷ []) ∷ []

ascending_mpadd : seen (next_in ascending_mpadd_tables ascending_mpadd_program) (setting_of 3 (0 ∷ 0 ∷ 0 ∷ 0 ∷ []) []) ascending_mpadd_rounds None (0 ∷ 1 ∷ 2 ∷ 3 ∷ []) (program_opening ascending_mpadd_tables ascending_mpadd_program (0 ∷ 0 ∷ 0 ∷ 0 ∷ []) [] [] 3)
    ≡ (lines [] [], (4294967293 ∷ 0 ∷ 4294967295 ∷ 4294967294 ∷ []), SourceFinished, true)
ascending_mpadd = refl

-- sh int z[2]; void main(void) { start { if ($ % 2) z[0] = $; else z[1] = groupsize(); } }
abbrev pub private_if_program : ProgramTree
private_if_program = record {
  items =
      (p.VariablesItem ((dc true (ty t.Int 0) (nm (codes "z") 2 1 8) (Some 2) None) ∷ []))
      ∷ (p.FunctionItem (function m.Async (ty t.Void 0) (nm (codes "main") 8 1 19) [] (Some ((p.statement (p.Start (sp 13 1 32) None (p.Block (p.statement (p.IfElse (sp 15 1 40) (t.Chain (t.GroupRank (sp 17 1 44)) (t.link (sp 18 1 46) g.Percent (t.Number (sp 19 1 48) 2 false) t.no_links)) (p.Expression (t.Assign (sp 25 1 56) g.Assign (t.Postfix (t.Variable (nm (codes "z") 21 1 51)) (t.index (sp 22 1 52) (t.Number (sp 23 1 53) 0 false) t.no_suffixes)) (t.GroupRank (sp 26 1 58)))) (p.Expression (t.Assign (sp 33 1 71) g.Assign (t.Postfix (t.Variable (nm (codes "z") 29 1 66)) (t.index (sp 30 1 67) (t.Number (sp 31 1 68) 1 false) t.no_suffixes)) (t.Postfix (t.Variable (nm (codes "groupsize") 34 1 73)) (t.call (sp 35 1 82) t.no_trees t.no_suffixes))))) p.no_statements))) p.no_statements)))))
      ∷ [];
  end = place 1 89;
  tokens = 40;
}

abbrev pub private_if_tables : Tables
private_if_tables = record {
  notes = nn ∷ nn ∷ nt 0 0 false false false ∷ nn ∷ nn ∷ nn ∷ nn ∷ nn ∷ nt 0 1 false false false ∷ nn ∷ nn ∷ nn ∷ nn ∷ nt 0 0 false false false ∷ nn ∷ nt 0 0 true false true ∷ nn ∷ nt 1 0 true false false ∷ nt 1 0 true false false ∷ nt 1 0 true true false ∷ nn ∷ nt 0 0 true true false ∷ nt 1 0 true true false ∷ nt 1 0 true true false ∷ nn ∷ nt 1 0 true false false ∷ nt 1 0 true false false ∷ nn ∷ nn ∷ nt 0 0 true true false ∷ nt 1 0 true true false ∷ nt 1 0 true true false ∷ nn ∷ nt 1 0 true true false ∷ nt 0 4294967295 false false false ∷ nt 1 0 true true false ∷ [];
  kinds = kd 2 false true 4 ∷ kd 1 false false 0 ∷ [];
  slots = sl h.Global 0 ∷ sl h.NoWord 0 ∷ [];
  regions = [];
}

private_if_sites : sites_of private_if_tables private_if_program
    ≡ k 2 ∷ k 23 ∷ k 2 ∷ k 1 ∷ k 7 ∷ at 27 1 40 ∷ k 1 ∷ k 1 ∷ k 8 ∷ at 12 1 52 ∷ k 2 ∷ k 14 ∷ k 4 ∷ k 29 ∷ k 1 ∷ k 1 ∷ k 8 ∷ at 12 1 67 ∷ k 2 ∷ k 14 ∷ k 4 ∷ k 29 ∷ k 30 ∷ k 29 ∷ k 30 ∷ k 34 ∷ []
private_if_sites = refl

abbrev pub private_if_rounds : Schedule
private_if_rounds =
    (1 ∷ 1 ∷ 1 ∷ []) ∷ (1 ∷ 1 ∷ 1 ∷ []) ∷ (4 ∷ 4 ∷ 4 ∷ []) ∷ (4 ∷ 4 ∷ 4 ∷ []) ∷ (2 ∷ 2 ∷ 2 ∷ []) ∷ (2 ∷ 2 ∷ 2 ∷ []) ∷ (1 ∷ 1 ∷ 1 ∷ []) ∷ (1 ∷ 1 ∷ 1 ∷ []) ∷ (1 ∷ 1 ∷ 1 ∷ []) ∷ (1 ∷ 1 ∷ 1 ∷ []) ∷ []

private_if : seen (next_in private_if_tables private_if_program) (setting_of 3 (0 ∷ 0 ∷ []) []) private_if_rounds None (0 ∷ 1 ∷ []) (program_opening private_if_tables private_if_program (0 ∷ 0 ∷ []) [] [] 3)
    ≡ (lines [] [], (1 ∷ 2 ∷ []), SourceFinished, true)
private_if = refl

-- sh int r[3]; void main(void) { start { pr int i; i = $; while (i) { mpadd(&r[0], 1); i--; } r[1] = $; r[2] = groupsize(); } }
abbrev pub shrinking_while_program : ProgramTree
shrinking_while_program = record {
  items =
      (p.VariablesItem ((dc true (ty t.Int 0) (nm (codes "r") 2 1 8) (Some 3) None) ∷ []))
      ∷ (p.FunctionItem (function m.Async (ty t.Void 0) (nm (codes "main") 8 1 19) [] (Some ((p.statement (p.Start (sp 13 1 32) None (p.Block (p.statement (p.Declare ((dc false (ty t.Int 0) (nm (codes "i") 17 1 47) None None) ∷ [])) (p.statement (p.Expression (t.Assign (sp 20 1 52) g.Assign (t.Variable (nm (codes "i") 19 1 50)) (t.GroupRank (sp 21 1 54)))) (p.statement (p.While (sp 23 1 57) (t.Variable (nm (codes "i") 25 1 64)) (p.Block (p.statement (p.Expression (t.Postfix (t.Variable (nm (codes "mpadd") 28 1 69)) (t.call (sp 29 1 74) (t.tree (t.Prefix (sp 30 1 75) g.Ampersand (t.Postfix (t.Variable (nm (codes "r") 31 1 76)) (t.index (sp 32 1 77) (t.Number (sp 33 1 78) 0 false) t.no_suffixes))) (t.tree (t.Number (sp 36 1 82) 1 false) t.no_trees)) t.no_suffixes))) (p.statement (p.Expression (t.Postfix (t.Variable (nm (codes "i") 39 1 86)) (t.down (sp 40 1 87) t.no_suffixes))) p.no_statements)))) (p.statement (p.Expression (t.Assign (sp 47 1 98) g.Assign (t.Postfix (t.Variable (nm (codes "r") 43 1 93)) (t.index (sp 44 1 94) (t.Number (sp 45 1 95) 1 false) t.no_suffixes)) (t.GroupRank (sp 48 1 100)))) (p.statement (p.Expression (t.Assign (sp 54 1 108) g.Assign (t.Postfix (t.Variable (nm (codes "r") 50 1 103)) (t.index (sp 51 1 104) (t.Number (sp 52 1 105) 2 false) t.no_suffixes)) (t.Postfix (t.Variable (nm (codes "groupsize") 55 1 110)) (t.call (sp 56 1 119) t.no_trees t.no_suffixes)))) p.no_statements))))))) p.no_statements)))))
      ∷ [];
  end = place 1 126;
  tokens = 61;
}

abbrev pub shrinking_while_tables : Tables
shrinking_while_tables = record {
  notes = nn ∷ nn ∷ nt 0 0 false false false ∷ nn ∷ nn ∷ nn ∷ nn ∷ nn ∷ nt 0 1 false false false ∷ nn ∷ nn ∷ nn ∷ nn ∷ nt 0 0 false false false ∷ nn ∷ nn ∷ nn ∷ nt 1 2 false false false ∷ nn ∷ nt 1 2 true false false ∷ nt 1 0 true false false ∷ nt 1 0 true false false ∷ nn ∷ nt 0 0 true false true ∷ nn ∷ nt 1 2 true false false ∷ nn ∷ nn ∷ nt 0 4294967295 false false false ∷ nt 1 0 true false false ∷ nt 2 0 true true false ∷ nt 0 0 true true false ∷ nt 1 0 true true false ∷ nt 1 0 true true false ∷ nn ∷ nn ∷ nt 1 0 true true false ∷ nn ∷ nn ∷ nt 1 2 true false false ∷ nt 1 0 true false false ∷ nn ∷ nn ∷ nt 0 0 true true false ∷ nt 1 0 true true false ∷ nt 1 0 true true false ∷ nn ∷ nt 1 0 true false false ∷ nt 1 0 true false false ∷ nn ∷ nt 0 0 true true false ∷ nt 1 0 true true false ∷ nt 1 0 true true false ∷ nn ∷ nt 1 0 true true false ∷ nt 0 4294967295 false false false ∷ nt 1 0 true true false ∷ [];
  kinds = kd 3 false true 4 ∷ kd 1 false false 0 ∷ kd 1 true false 4 ∷ [];
  slots = sl h.Global 0 ∷ sl h.NoWord 0 ∷ sl h.Private 0 ∷ [];
  regions = [];
}

shrinking_while_sites : sites_of shrinking_while_tables shrinking_while_program
    ≡ k 2 ∷ k 23 ∷ k 1 ∷ k 3 ∷ k 4 ∷ k 2 ∷ k 3 ∷ k 4 ∷ at 27 1 57 ∷ k 2 ∷ k 28 ∷ k 1 ∷ k 1 ∷ k 8 ∷ at 12 1 77 ∷ at 12 1 69 ∷ k 1 ∷ k 15 ∷ k 4 ∷ k 2 ∷ k 1 ∷ k 7 ∷ k 3 ∷ k 1 ∷ k 7 ∷ k 4 ∷ k 30 ∷ k 1 ∷ k 1 ∷ k 8 ∷ at 12 1 94 ∷ k 2 ∷ k 14 ∷ k 4 ∷ k 1 ∷ k 1 ∷ k 8 ∷ at 12 1 104 ∷ k 2 ∷ k 14 ∷ k 4 ∷ k 29 ∷ k 30 ∷ k 34 ∷ []
shrinking_while_sites = refl

abbrev pub shrinking_while_rounds : Schedule
shrinking_while_rounds =
    (1 ∷ 1 ∷ 1 ∷ []) ∷ (1 ∷ 1 ∷ 1 ∷ []) ∷ (7 ∷ 7 ∷ 7 ∷ []) ∷ (2 ∷ 2 ∷ 2 ∷ []) ∷ (0 ∷ 4 ∷ 4 ∷ []) ∷ (0 ∷ 1 ∷ 1 ∷ []) ∷ (0 ∷ 2 ∷ 2 ∷ []) ∷ (0 ∷ 10 ∷ 10 ∷ []) ∷ (0 ∷ 0 ∷ 4 ∷ []) ∷ (0 ∷ 0 ∷ 1 ∷ []) ∷ (0 ∷ 0 ∷ 2 ∷ []) ∷ (0 ∷ 0 ∷ 10 ∷ []) ∷ (1 ∷ 1 ∷ 1 ∷ []) ∷ (4 ∷ 4 ∷ 4 ∷ []) ∷ (2 ∷ 2 ∷ 2 ∷ []) ∷ (5 ∷ 5 ∷ 5 ∷ []) ∷ (2 ∷ 2 ∷ 2 ∷ []) ∷ (2 ∷ 2 ∷ 2 ∷ []) ∷ (1 ∷ 1 ∷ 1 ∷ []) ∷ (1 ∷ 1 ∷ 1 ∷ []) ∷ []

shrinking_while : seen (next_in shrinking_while_tables shrinking_while_program) (setting_of 3 (0 ∷ 0 ∷ 0 ∷ []) []) shrinking_while_rounds None (0 ∷ 1 ∷ 2 ∷ []) (program_opening shrinking_while_tables shrinking_while_program (0 ∷ 0 ∷ 0 ∷ []) [] [] 3)
    ≡ (lines [] [], (3 ∷ 2 ∷ 3 ∷ []), SourceFinished, true)
shrinking_while = refl

-- sh int s[3]; void main(void) { start fork (3; @=$%3; $=$/3) s[@] = groupsize() + 10 * $; }
abbrev pub three_way_fork_program : ProgramTree
three_way_fork_program = record {
  items =
      (p.VariablesItem ((dc true (ty t.Int 0) (nm (codes "s") 2 1 8) (Some 3) None) ∷ []))
      ∷ (p.FunctionItem (function m.Async (ty t.Void 0) (nm (codes "main") 8 1 19) [] (Some ((p.statement (p.Start (sp 13 1 32) None (p.Fork (sp 14 1 38) (t.Number (sp 16 1 44) 3 false) (t.Chain (t.GroupRank (sp 20 1 49)) (t.link (sp 21 1 50) g.Percent (t.Number (sp 22 1 51) 3 false) t.no_links)) (Some (t.Chain (t.GroupRank (sp 26 1 56)) (t.link (sp 27 1 57) g.Slash (t.Number (sp 28 1 58) 3 false) t.no_links))) (p.Expression (t.Assign (sp 34 1 66) g.Assign (t.Postfix (t.Variable (nm (codes "s") 30 1 61)) (t.index (sp 31 1 62) (t.GroupNumber (sp 32 1 63)) t.no_suffixes)) (t.Chain (t.Postfix (t.Variable (nm (codes "groupsize") 35 1 68)) (t.call (sp 36 1 77) t.no_trees t.no_suffixes)) (t.link (sp 38 1 80) g.Plus (t.Chain (t.Number (sp 39 1 82) 10 false) (t.link (sp 40 1 85) g.Star (t.GroupRank (sp 41 1 87)) t.no_links)) t.no_links)))))) p.no_statements)))))
      ∷ [];
  end = place 1 91;
  tokens = 44;
}

abbrev pub three_way_fork_tables : Tables
three_way_fork_tables = record {
  notes = nn ∷ nn ∷ nt 0 0 false false false ∷ nn ∷ nn ∷ nn ∷ nn ∷ nn ∷ nt 0 1 false false false ∷ nn ∷ nn ∷ nn ∷ nn ∷ nt 0 0 false false false ∷ nt 0 0 true false false ∷ nn ∷ nt 1 0 true true false ∷ nn ∷ nn ∷ nn ∷ nt 1 0 true false false ∷ nt 1 0 true false false ∷ nt 1 0 true true false ∷ nn ∷ nn ∷ nn ∷ nt 1 0 true false false ∷ nt 1 0 true false false ∷ nt 1 0 true true false ∷ nn ∷ nt 0 0 true true false ∷ nt 1 0 true true false ∷ nt 1 0 true true false ∷ nn ∷ nt 1 0 true false false ∷ nt 0 4294967295 false false false ∷ nt 1 0 true true false ∷ nn ∷ nt 1 0 true false false ∷ nt 1 0 true true false ∷ nt 1 0 true false false ∷ nt 1 0 true false false ∷ [];
  kinds = kd 3 false true 4 ∷ kd 1 false false 0 ∷ [];
  slots = sl h.Global 0 ∷ sl h.NoWord 0 ∷ [];
  regions = [];
}

three_way_fork_sites : sites_of three_way_fork_tables three_way_fork_program
    ≡ k 2 ∷ k 23 ∷ k 1 ∷ k 24 ∷ k 2 ∷ k 1 ∷ k 7 ∷ k 2 ∷ k 1 ∷ k 7 ∷ at 27 1 38 ∷ k 1 ∷ k 2 ∷ k 8 ∷ at 12 1 62 ∷ k 2 ∷ k 1 ∷ k 2 ∷ k 7 ∷ k 7 ∷ k 14 ∷ k 4 ∷ k 29 ∷ k 30 ∷ k 29 ∷ k 30 ∷ k 34 ∷ []
three_way_fork_sites = refl

abbrev pub three_way_fork_rounds : Schedule
three_way_fork_rounds =
    (1 ∷ 1 ∷ 1 ∷ 1 ∷ []) ∷ (1 ∷ 1 ∷ 1 ∷ 1 ∷ []) ∷ (2 ∷ 2 ∷ 2 ∷ 2 ∷ []) ∷ (7 ∷ 7 ∷ 7 ∷ 7 ∷ []) ∷ (4 ∷ 4 ∷ 4 ∷ 4 ∷ []) ∷ (6 ∷ 6 ∷ 6 ∷ 6 ∷ []) ∷ (2 ∷ 2 ∷ 2 ∷ 2 ∷ []) ∷ (1 ∷ 1 ∷ 1 ∷ 1 ∷ []) ∷ (1 ∷ 1 ∷ 1 ∷ 1 ∷ []) ∷ (1 ∷ 1 ∷ 1 ∷ 1 ∷ []) ∷ (1 ∷ 1 ∷ 1 ∷ 1 ∷ []) ∷ []

three_way_fork : seen (next_in three_way_fork_tables three_way_fork_program) (setting_of 4 (0 ∷ 0 ∷ 0 ∷ []) []) three_way_fork_rounds None (0 ∷ 1 ∷ 2 ∷ []) (program_opening three_way_fork_tables three_way_fork_program (0 ∷ 0 ∷ 0 ∷ []) [] [] 4)
    ≡ (lines [] [], (12 ∷ 1 ∷ 1 ∷ []), SourceFinished, true)
three_way_fork = refl

-- sh int c; void main(void) { start { farm { mpadd(&c, $); barrier; if ($ == 1) putint(c); } c = groupsize(); } }
abbrev pub farm_barrier_program : ProgramTree
farm_barrier_program = record {
  items =
      (p.VariablesItem ((dc true (ty t.Int 0) (nm (codes "c") 2 1 8) None None) ∷ []))
      ∷ (p.FunctionItem (function m.Async (ty t.Void 0) (nm (codes "main") 5 1 16) [] (Some ((p.statement (p.Start (sp 10 1 29) None (p.Block (p.statement (p.Farm (sp 12 1 37) (p.Block (p.statement (p.Expression (t.Postfix (t.Variable (nm (codes "mpadd") 14 1 44)) (t.call (sp 15 1 49) (t.tree (t.Prefix (sp 16 1 50) g.Ampersand (t.Variable (nm (codes "c") 17 1 51))) (t.tree (t.GroupRank (sp 19 1 54)) t.no_trees)) t.no_suffixes))) (p.statement (p.Barrier (sp 22 1 58)) (p.statement (p.If (sp 24 1 67) (t.Chain (t.GroupRank (sp 26 1 71)) (t.link (sp 27 1 73) g.EqualTo (t.Number (sp 28 1 76) 1 false) t.no_links)) (p.Expression (t.Postfix (t.Variable (nm (codes "putint") 30 1 79)) (t.call (sp 31 1 85) (t.tree (t.Variable (nm (codes "c") 32 1 86)) t.no_trees) t.no_suffixes)))) p.no_statements))))) (p.statement (p.Expression (t.Assign (sp 37 1 94) g.Assign (t.Variable (nm (codes "c") 36 1 92)) (t.Postfix (t.Variable (nm (codes "groupsize") 38 1 96)) (t.call (sp 39 1 105) t.no_trees t.no_suffixes)))) p.no_statements)))) p.no_statements)))))
      ∷ [];
  end = place 1 112;
  tokens = 44;
}

abbrev pub farm_barrier_tables : Tables
farm_barrier_tables = record {
  notes = nn ∷ nn ∷ nt 0 0 false false false ∷ nn ∷ nn ∷ nt 0 1 false false false ∷ nn ∷ nn ∷ nn ∷ nn ∷ nt 0 0 false false false ∷ nn ∷ nt 0 0 true false false ∷ nn ∷ nt 0 4294967295 false false false ∷ nt 0 0 false false false ∷ nt 1 0 false true false ∷ nt 0 0 false true false ∷ nn ∷ nt 0 0 false false false ∷ nn ∷ nn ∷ nt 0 0 false false false ∷ nn ∷ nt 0 0 false false false ∷ nn ∷ nt 0 0 false false false ∷ nt 0 0 false false false ∷ nt 0 0 false true false ∷ nn ∷ nt 0 4294967295 false false false ∷ nt 2 0 false false false ∷ nt 0 0 false true false ∷ nn ∷ nn ∷ nn ∷ nt 0 0 true true false ∷ nt 0 0 true true false ∷ nt 0 4294967295 false false false ∷ nt 0 0 true true false ∷ [];
  kinds = kd 1 false false 0 ∷ kd 1 true false 4 ∷ kd 0 false false 0 ∷ [];
  slots = sl h.Global 0 ∷ sl h.NoWord 0 ∷ [];
  regions = [];
}

farm_barrier_sites : sites_of farm_barrier_tables farm_barrier_program
    ≡ k 2 ∷ k 23 ∷ k 31 ∷ k 1 ∷ at 12 1 44 ∷ k 2 ∷ k 15 ∷ k 4 ∷ k 33 ∷ k 2 ∷ k 1 ∷ k 7 ∷ k 9 ∷ k 1 ∷ k 13 ∷ k 19 ∷ k 33 ∷ k 1 ∷ k 2 ∷ k 14 ∷ k 4 ∷ k 29 ∷ k 30 ∷ k 34 ∷ []
farm_barrier_sites = refl

abbrev pub farm_barrier_rounds : Schedule
farm_barrier_rounds =
    (1 ∷ 1 ∷ 1 ∷ []) ∷ (1 ∷ 1 ∷ 1 ∷ []) ∷ (1 ∷ 1 ∷ 1 ∷ []) ∷ (2 ∷ 2 ∷ 2 ∷ []) ∷ (2 ∷ 2 ∷ 2 ∷ []) ∷ (1 ∷ 1 ∷ 1 ∷ []) ∷ (1 ∷ 1 ∷ 1 ∷ []) ∷ (4 ∷ 6 ∷ 4 ∷ []) ∷ (0 ∷ 1 ∷ 0 ∷ []) ∷ (1 ∷ 1 ∷ 1 ∷ []) ∷ (3 ∷ 3 ∷ 3 ∷ []) ∷ (2 ∷ 2 ∷ 2 ∷ []) ∷ (1 ∷ 1 ∷ 1 ∷ []) ∷ (1 ∷ 1 ∷ 1 ∷ []) ∷ []

farm_barrier : seen (next_in farm_barrier_tables farm_barrier_program) (setting_of 3 (0 ∷ []) []) farm_barrier_rounds None (0 ∷ []) (program_opening farm_barrier_tables farm_barrier_program (0 ∷ []) [] [] 3)
    ≡ (lines [] (Line 3 ∷ []), (3 ∷ []), SourceFinished, true)
farm_barrier = refl

-- void main(void) { start (2) { seq putint($ + 5); } }
abbrev pub lowest_alone_program : ProgramTree
lowest_alone_program = record {
  items =
      (p.FunctionItem (function m.Async (ty t.Void 0) (nm (codes "main") 1 1 6) [] (Some ((p.statement (p.Start (sp 6 1 19) (Some (t.Number (sp 8 1 26) 2 false)) (p.Block (p.statement (p.Seq (sp 11 1 31) (p.Expression (t.Postfix (t.Variable (nm (codes "putint") 12 1 35)) (t.call (sp 13 1 41) (t.tree (t.Chain (t.GroupRank (sp 14 1 42)) (t.link (sp 15 1 44) g.Plus (t.Number (sp 16 1 46) 5 false) t.no_links)) t.no_trees) t.no_suffixes)))) p.no_statements))) p.no_statements)))))
      ∷ [];
  end = place 1 53;
  tokens = 21;
}

abbrev pub lowest_alone_tables : Tables
lowest_alone_tables = record {
  notes = nn ∷ nt 0 0 false false false ∷ nn ∷ nn ∷ nn ∷ nn ∷ nt 0 0 false false false ∷ nn ∷ nt 0 0 false true false ∷ nn ∷ nn ∷ nt 0 0 true false false ∷ nt 0 4294967295 false false false ∷ nt 1 0 false false false ∷ nt 0 0 false false false ∷ nt 0 0 false false false ∷ nt 0 0 false true false ∷ [];
  kinds = kd 1 false false 0 ∷ kd 0 false false 0 ∷ [];
  slots = sl h.NoWord 0 ∷ [];
  regions = [];
}

lowest_alone_sites : sites_of lowest_alone_tables lowest_alone_program
    ≡ k 1 ∷ k 23 ∷ k 32 ∷ k 2 ∷ k 1 ∷ k 7 ∷ k 19 ∷ k 33 ∷ k 29 ∷ k 30 ∷ k 34 ∷ []
lowest_alone_sites = refl

abbrev pub lowest_alone_rounds : Schedule
lowest_alone_rounds =
    (1 ∷ 1 ∷ 1 ∷ []) ∷ (1 ∷ 1 ∷ 1 ∷ []) ∷ (1 ∷ 1 ∷ 0 ∷ []) ∷ (4 ∷ 0 ∷ 0 ∷ []) ∷ (1 ∷ 1 ∷ 0 ∷ []) ∷ (1 ∷ 1 ∷ 0 ∷ []) ∷ (1 ∷ 1 ∷ 1 ∷ []) ∷ (1 ∷ 1 ∷ 1 ∷ []) ∷ []

lowest_alone : seen (next_in lowest_alone_tables lowest_alone_program) (setting_of 3 [] []) lowest_alone_rounds None [] (program_opening lowest_alone_tables lowest_alone_program [] [] [] 3)
    ≡ (lines [] (Line 5 ∷ []), [], SourceFinished, true)
lowest_alone = refl

-- void main(void) { start { fork (26215; @=0; $=0) seq putint(1); } }
abbrev pub no_space_program : ProgramTree
no_space_program = record {
  items =
      (p.FunctionItem (function m.Async (ty t.Void 0) (nm (codes "main") 1 1 6) [] (Some ((p.statement (p.Start (sp 6 1 19) None (p.Block (p.statement (p.Fork (sp 8 1 27) (t.Number (sp 10 1 33) 26215 false) (t.Number (sp 14 1 42) 0 false) (Some (t.Number (sp 18 1 47) 0 false)) (p.Seq (sp 20 1 50) (p.Expression (t.Postfix (t.Variable (nm (codes "putint") 21 1 54)) (t.call (sp 22 1 60) (t.tree (t.Number (sp 23 1 61) 1 false) t.no_trees) t.no_suffixes))))) p.no_statements))) p.no_statements)))))
      ∷ [];
  end = place 1 68;
  tokens = 28;
}

abbrev pub no_space_tables : Tables
no_space_tables = record {
  notes = nn ∷ nt 0 0 false false false ∷ nn ∷ nn ∷ nn ∷ nn ∷ nt 0 0 false false false ∷ nn ∷ nt 0 0 true false false ∷ nn ∷ nt 0 0 true true false ∷ nn ∷ nn ∷ nn ∷ nt 0 0 true true false ∷ nn ∷ nn ∷ nn ∷ nt 0 0 true true false ∷ nn ∷ nt 0 0 true false false ∷ nt 0 4294967295 false false false ∷ nt 1 0 false false false ∷ nt 0 0 false true false ∷ [];
  kinds = kd 1 false false 0 ∷ kd 0 false false 0 ∷ [];
  slots = sl h.NoWord 0 ∷ [];
  regions = [];
}

no_space_sites : sites_of no_space_tables no_space_program
    ≡ k 2 ∷ k 23 ∷ k 1 ∷ k 24 ∷ k 1 ∷ k 1 ∷ at 27 1 27 ∷ k 32 ∷ k 1 ∷ k 19 ∷ k 33 ∷ k 29 ∷ k 30 ∷ k 29 ∷ k 30 ∷ k 34 ∷ []
no_space_sites = refl

abbrev pub no_space_rounds : Schedule
no_space_rounds =
    (1 ∷ 1 ∷ []) ∷ (1 ∷ 1 ∷ []) ∷ (2 ∷ 2 ∷ []) ∷ []

no_space : seen (next_in no_space_tables no_space_program) (setting_of 2 [] []) no_space_rounds (Some (3 ∷ 3 ∷ [])) [] (program_opening no_space_tables no_space_program [] [] [] 2)
    ≡ (lines [] [], [], SourceFaulted (record { site = 6; processor = 0 }), true)
no_space = refl

-- sh int x; void main(void) { start { pr int *p = &x; if ($ == 1) p = 0; putint($); x = *p; } }
abbrev pub bad_address_program : ProgramTree
bad_address_program = record {
  items =
      (p.VariablesItem ((dc true (ty t.Int 0) (nm (codes "x") 2 1 8) None None) ∷ []))
      ∷ (p.FunctionItem (function m.Async (ty t.Void 0) (nm (codes "main") 5 1 16) [] (Some ((p.statement (p.Start (sp 10 1 29) None (p.Block (p.statement (p.Declare ((dc false (ty t.Int 1) (nm (codes "p") 15 1 45) None (Some (t.Prefix (sp 17 1 49) g.Ampersand (t.Variable (nm (codes "x") 18 1 50))))) ∷ [])) (p.statement (p.If (sp 20 1 53) (t.Chain (t.GroupRank (sp 22 1 57)) (t.link (sp 23 1 59) g.EqualTo (t.Number (sp 24 1 62) 1 false) t.no_links)) (p.Expression (t.Assign (sp 27 1 67) g.Assign (t.Variable (nm (codes "p") 26 1 65)) (t.Number (sp 28 1 69) 0 false)))) (p.statement (p.Expression (t.Postfix (t.Variable (nm (codes "putint") 30 1 72)) (t.call (sp 31 1 78) (t.tree (t.GroupRank (sp 32 1 79)) t.no_trees) t.no_suffixes))) (p.statement (p.Expression (t.Assign (sp 36 1 85) g.Assign (t.Variable (nm (codes "x") 35 1 83)) (t.Prefix (sp 37 1 87) g.Star (t.Variable (nm (codes "p") 38 1 88))))) p.no_statements)))))) p.no_statements)))))
      ∷ [];
  end = place 1 94;
  tokens = 42;
}

abbrev pub bad_address_tables : Tables
bad_address_tables = record {
  notes = nn ∷ nn ∷ nt 0 0 false false false ∷ nn ∷ nn ∷ nt 0 1 false false false ∷ nn ∷ nn ∷ nn ∷ nn ∷ nt 0 0 false false false ∷ nn ∷ nn ∷ nn ∷ nn ∷ nt 1 2 false false false ∷ nn ∷ nt 1 0 true true false ∷ nt 0 0 true true false ∷ nn ∷ nt 0 0 true false true ∷ nn ∷ nt 0 0 true false false ∷ nt 0 0 true false false ∷ nt 0 0 true true false ∷ nn ∷ nt 1 2 true false false ∷ nt 1 0 true true false ∷ nt 0 0 true true false ∷ nn ∷ nt 0 4294967295 false false false ∷ nt 2 0 true false false ∷ nt 0 0 true false false ∷ nn ∷ nn ∷ nt 0 0 true true false ∷ nt 0 0 true false false ∷ nt 0 0 true false false ∷ nt 1 2 true false false ∷ [];
  kinds = kd 1 false false 0 ∷ kd 1 true false 4 ∷ kd 0 false false 0 ∷ [];
  slots = sl h.Global 0 ∷ sl h.NoWord 0 ∷ sl h.Private 0 ∷ [];
  regions = [];
}

bad_address_sites : sites_of bad_address_tables bad_address_program
    ≡ k 2 ∷ k 23 ∷ k 1 ∷ k 3 ∷ k 4 ∷ k 2 ∷ k 1 ∷ k 7 ∷ at 27 1 53 ∷ k 1 ∷ k 3 ∷ k 4 ∷ k 29 ∷ k 30 ∷ k 2 ∷ k 19 ∷ k 1 ∷ k 2 ∷ at 12 1 87 ∷ k 13 ∷ k 14 ∷ k 4 ∷ k 29 ∷ k 30 ∷ k 34 ∷ []
bad_address_sites = refl

abbrev pub bad_address_rounds : Schedule
bad_address_rounds =
    (1 ∷ 1 ∷ 1 ∷ []) ∷ (1 ∷ 1 ∷ 1 ∷ []) ∷ (7 ∷ 7 ∷ 7 ∷ []) ∷ (0 ∷ 4 ∷ 0 ∷ []) ∷ (1 ∷ 1 ∷ 1 ∷ []) ∷ (2 ∷ 2 ∷ 2 ∷ []) ∷ []

bad_address : seen (next_in bad_address_tables bad_address_program) (setting_of 3 (0 ∷ []) []) bad_address_rounds (Some (3 ∷ 3 ∷ 3 ∷ [])) (0 ∷ []) (program_opening bad_address_tables bad_address_program (0 ∷ []) [] [] 3)
    ≡ (lines [] (Line 0 ∷ Line 1 ∷ Line 2 ∷ []), (0 ∷ []), SourceFaulted (record { site = 18; processor = 1 }), true)
bad_address = refl

-- sh int r; sync int twice(sh int n) { sh int k; k = n + n; return k; } void main(void) { start { r = twice($); } }
abbrev pub group_frame_program : ProgramTree
group_frame_program = record {
  items =
      (p.VariablesItem ((dc true (ty t.Int 0) (nm (codes "r") 2 1 8) None None) ∷ []))
      ∷ (p.FunctionItem (function m.Sync (ty t.Int 0) (nm (codes "twice") 6 1 20) ((dc true (ty t.Int 0) (nm (codes "n") 10 1 33) None None) ∷ []) (Some ((p.statement (p.Declare ((dc true (ty t.Int 0) (nm (codes "k") 15 1 45) None None) ∷ [])) (p.statement (p.Expression (t.Assign (sp 18 1 50) g.Assign (t.Variable (nm (codes "k") 17 1 48)) (t.Chain (t.Variable (nm (codes "n") 19 1 52)) (t.link (sp 20 1 54) g.Plus (t.Variable (nm (codes "n") 21 1 56)) t.no_links)))) (p.statement (p.Return (sp 23 1 59) (Some (t.Variable (nm (codes "k") 24 1 66)))) p.no_statements)))))))
      ∷ (p.FunctionItem (function m.Async (ty t.Void 0) (nm (codes "main") 28 1 76) [] (Some ((p.statement (p.Start (sp 33 1 89) None (p.Block (p.statement (p.Expression (t.Assign (sp 36 1 99) g.Assign (t.Variable (nm (codes "r") 35 1 97)) (t.Postfix (t.Variable (nm (codes "twice") 37 1 101)) (t.call (sp 38 1 106) (t.tree (t.GroupRank (sp 39 1 107)) t.no_trees) t.no_suffixes)))) p.no_statements))) p.no_statements)))))
      ∷ [];
  end = place 1 114;
  tokens = 44;
}

abbrev pub group_frame_tables : Tables
group_frame_tables = record {
  notes = nn ∷ nn ∷ nt 0 0 false false false ∷ nn ∷ nn ∷ nn ∷ nt 0 1 false false false ∷ nn ∷ nn ∷ nn ∷ nt 0 2 false false false ∷ nn ∷ nn ∷ nn ∷ nn ∷ nt 0 3 false false false ∷ nn ∷ nt 0 3 true true false ∷ nt 0 0 true true false ∷ nt 0 2 true true false ∷ nt 0 0 true true false ∷ nt 0 2 true true false ∷ nn ∷ nt 0 0 true false false ∷ nt 0 3 true true false ∷ nn ∷ nn ∷ nn ∷ nt 0 4 false false false ∷ nn ∷ nn ∷ nn ∷ nn ∷ nt 0 0 false false false ∷ nn ∷ nt 0 0 true true false ∷ nt 0 0 true false false ∷ nt 0 1 false false false ∷ nt 0 0 true false false ∷ nt 0 0 true false false ∷ [];
  kinds = kd 1 false false 0 ∷ [];
  slots = sl h.Global 0 ∷ sl h.NoWord 0 ∷ sl (h.Group 0) 0 ∷ sl (h.Group 0) 1 ∷ sl h.NoWord 0 ∷ [];
  regions = rg 6 0 0 2 ∷ [];
}

group_frame_sites : sites_of group_frame_tables group_frame_program
    ≡ k 2 ∷ k 1 ∷ k 14 ∷ k 4 ∷ k 2 ∷ k 2 ∷ k 13 ∷ k 2 ∷ k 13 ∷ k 7 ∷ k 14 ∷ k 4 ∷ k 2 ∷ k 13 ∷ k 11 ∷ k 1 ∷ k 11 ∷ k 2 ∷ k 23 ∷ k 1 ∷ k 2 ∷ k 24 ∷ at 22 1 101 ∷ at 25 1 101 ∷ k 2 ∷ k 2 ∷ k 14 ∷ k 4 ∷ k 14 ∷ k 4 ∷ k 29 ∷ k 30 ∷ k 34 ∷ []
group_frame_sites = refl

abbrev pub group_frame_rounds : Schedule
group_frame_rounds =
    (1 ∷ 1 ∷ []) ∷ (1 ∷ 1 ∷ []) ∷ (3 ∷ 3 ∷ []) ∷ (1 ∷ 1 ∷ []) ∷ (1 ∷ 1 ∷ []) ∷ (3 ∷ 3 ∷ []) ∷ (4 ∷ 4 ∷ []) ∷ (4 ∷ 4 ∷ []) ∷ (2 ∷ 2 ∷ []) ∷ (2 ∷ 2 ∷ []) ∷ (3 ∷ 3 ∷ []) ∷ (2 ∷ 2 ∷ []) ∷ (2 ∷ 2 ∷ []) ∷ (1 ∷ 1 ∷ []) ∷ (1 ∷ 1 ∷ []) ∷ []

group_frame : seen (next_in group_frame_tables group_frame_program) (setting_of 2 (0 ∷ []) []) group_frame_rounds None (0 ∷ []) (program_opening group_frame_tables group_frame_program (0 ∷ []) [] [] 2)
    ≡ (lines [] [], (2 ∷ []), SourceFinished, true)
group_frame = refl

-- sh int r[2]; void main(void) { start { pr int a; a = $ > 1 && mpadd(&r[0], 1) >= 0; r[1] = groupsize(); } }
abbrev pub private_and_program : ProgramTree
private_and_program = record {
  items =
      (p.VariablesItem ((dc true (ty t.Int 0) (nm (codes "r") 2 1 8) (Some 2) None) ∷ []))
      ∷ (p.FunctionItem (function m.Async (ty t.Void 0) (nm (codes "main") 8 1 19) [] (Some ((p.statement (p.Start (sp 13 1 32) None (p.Block (p.statement (p.Declare ((dc false (ty t.Int 0) (nm (codes "a") 17 1 47) None None) ∷ [])) (p.statement (p.Expression (t.Assign (sp 20 1 52) g.Assign (t.Variable (nm (codes "a") 19 1 50)) (t.Chain (t.Chain (t.GroupRank (sp 21 1 54)) (t.link (sp 22 1 56) g.GreaterThan (t.Number (sp 23 1 58) 1 false) t.no_links)) (t.link (sp 24 1 60) g.AndAnd (t.Chain (t.Postfix (t.Variable (nm (codes "mpadd") 25 1 63)) (t.call (sp 26 1 68) (t.tree (t.Prefix (sp 27 1 69) g.Ampersand (t.Postfix (t.Variable (nm (codes "r") 28 1 70)) (t.index (sp 29 1 71) (t.Number (sp 30 1 72) 0 false) t.no_suffixes))) (t.tree (t.Number (sp 33 1 76) 1 false) t.no_trees)) t.no_suffixes)) (t.link (sp 35 1 79) g.GreaterOrEqual (t.Number (sp 36 1 82) 0 false) t.no_links)) t.no_links)))) (p.statement (p.Expression (t.Assign (sp 42 1 90) g.Assign (t.Postfix (t.Variable (nm (codes "r") 38 1 85)) (t.index (sp 39 1 86) (t.Number (sp 40 1 87) 1 false) t.no_suffixes)) (t.Postfix (t.Variable (nm (codes "groupsize") 43 1 92)) (t.call (sp 44 1 101) t.no_trees t.no_suffixes)))) p.no_statements))))) p.no_statements)))))
      ∷ [];
  end = place 1 108;
  tokens = 49;
}

abbrev pub private_and_tables : Tables
private_and_tables = record {
  notes = nn ∷ nn ∷ nt 0 0 false false false ∷ nn ∷ nn ∷ nn ∷ nn ∷ nn ∷ nt 0 1 false false false ∷ nn ∷ nn ∷ nn ∷ nn ∷ nt 0 0 false false false ∷ nn ∷ nn ∷ nn ∷ nt 1 2 false false false ∷ nn ∷ nt 1 2 true false false ∷ nt 1 0 true false false ∷ nt 1 0 true false false ∷ nt 1 0 true false false ∷ nt 1 0 true true false ∷ nt 1 0 true false true ∷ nt 0 4294967295 false false false ∷ nt 1 0 true false false ∷ nt 2 0 true true false ∷ nt 0 0 true true false ∷ nt 1 0 true true false ∷ nt 1 0 true true false ∷ nn ∷ nn ∷ nt 1 0 true true false ∷ nn ∷ nt 1 0 true false false ∷ nt 1 0 true true false ∷ nn ∷ nt 0 0 true true false ∷ nt 1 0 true true false ∷ nt 1 0 true true false ∷ nn ∷ nt 1 0 true true false ∷ nt 0 4294967295 false false false ∷ nt 1 0 true true false ∷ [];
  kinds = kd 2 false true 4 ∷ kd 1 false false 0 ∷ kd 1 true false 4 ∷ [];
  slots = sl h.Global 0 ∷ sl h.NoWord 0 ∷ sl h.Private 0 ∷ [];
  regions = [];
}

private_and_sites : sites_of private_and_tables private_and_program
    ≡ k 2 ∷ k 23 ∷ k 1 ∷ k 3 ∷ k 4 ∷ k 2 ∷ k 1 ∷ k 7 ∷ at 27 1 60 ∷ k 1 ∷ k 1 ∷ k 8 ∷ at 12 1 71 ∷ at 12 1 63 ∷ k 1 ∷ k 15 ∷ k 1 ∷ k 7 ∷ k 1 ∷ k 7 ∷ k 29 ∷ k 30 ∷ k 3 ∷ k 4 ∷ k 1 ∷ k 1 ∷ k 8 ∷ at 12 1 86 ∷ k 2 ∷ k 14 ∷ k 4 ∷ k 29 ∷ k 30 ∷ k 34 ∷ []
private_and_sites = refl

abbrev pub private_and_rounds : Schedule
private_and_rounds =
    (1 ∷ 1 ∷ 1 ∷ 1 ∷ []) ∷ (1 ∷ 1 ∷ 1 ∷ 1 ∷ []) ∷ (7 ∷ 7 ∷ 7 ∷ 7 ∷ []) ∷ (0 ∷ 0 ∷ 4 ∷ 4 ∷ []) ∷ (0 ∷ 0 ∷ 1 ∷ 1 ∷ []) ∷ (0 ∷ 0 ∷ 2 ∷ 2 ∷ []) ∷ (0 ∷ 0 ∷ 5 ∷ 5 ∷ []) ∷ (1 ∷ 1 ∷ 1 ∷ 1 ∷ []) ∷ (6 ∷ 6 ∷ 6 ∷ 6 ∷ []) ∷ (2 ∷ 2 ∷ 2 ∷ 2 ∷ []) ∷ (2 ∷ 2 ∷ 2 ∷ 2 ∷ []) ∷ (1 ∷ 1 ∷ 1 ∷ 1 ∷ []) ∷ (1 ∷ 1 ∷ 1 ∷ 1 ∷ []) ∷ []

private_and : seen (next_in private_and_tables private_and_program) (setting_of 4 (0 ∷ 0 ∷ []) []) private_and_rounds None (0 ∷ 1 ∷ []) (program_opening private_and_tables private_and_program (0 ∷ 0 ∷ []) [] [] 4)
    ≡ (lines [] [], (2 ∷ 4 ∷ []), SourceFinished, true)
private_and = refl

-- sh int r[3]; void main(void) { start r[$] = $ ? 10 + $ : 7; }
abbrev pub private_choice_program : ProgramTree
private_choice_program = record {
  items =
      (p.VariablesItem ((dc true (ty t.Int 0) (nm (codes "r") 2 1 8) (Some 3) None) ∷ []))
      ∷ (p.FunctionItem (function m.Async (ty t.Void 0) (nm (codes "main") 8 1 19) [] (Some ((p.statement (p.Start (sp 13 1 32) None (p.Expression (t.Assign (sp 18 1 43) g.Assign (t.Postfix (t.Variable (nm (codes "r") 14 1 38)) (t.index (sp 15 1 39) (t.GroupRank (sp 16 1 40)) t.no_suffixes)) (t.Choose (sp 20 1 47) (t.GroupRank (sp 19 1 45)) (t.Chain (t.Number (sp 21 1 49) 10 false) (t.link (sp 22 1 52) g.Plus (t.GroupRank (sp 23 1 54)) t.no_links)) (t.Number (sp 25 1 58) 7 false))))) p.no_statements)))))
      ∷ [];
  end = place 1 62;
  tokens = 28;
}

abbrev pub private_choice_tables : Tables
private_choice_tables = record {
  notes = nn ∷ nn ∷ nt 0 0 false false false ∷ nn ∷ nn ∷ nn ∷ nn ∷ nn ∷ nt 0 1 false false false ∷ nn ∷ nn ∷ nn ∷ nn ∷ nt 0 0 false false false ∷ nt 0 0 true true false ∷ nt 1 0 true false false ∷ nt 1 0 true false false ∷ nn ∷ nt 1 0 true false false ∷ nt 1 0 true false false ∷ nt 1 0 true false true ∷ nt 1 0 true true false ∷ nt 1 0 true false false ∷ nt 1 0 true false false ∷ nn ∷ nt 1 0 true true false ∷ [];
  kinds = kd 3 false true 4 ∷ kd 1 false false 0 ∷ [];
  slots = sl h.Global 0 ∷ sl h.NoWord 0 ∷ [];
  regions = [];
}

private_choice_sites : sites_of private_choice_tables private_choice_program
    ≡ k 2 ∷ k 23 ∷ k 1 ∷ k 2 ∷ k 8 ∷ at 12 1 39 ∷ k 2 ∷ at 27 1 47 ∷ k 1 ∷ k 2 ∷ k 7 ∷ k 29 ∷ k 1 ∷ k 29 ∷ k 30 ∷ k 14 ∷ k 4 ∷ k 29 ∷ k 30 ∷ k 34 ∷ []
private_choice_sites = refl

abbrev pub private_choice_rounds : Schedule
private_choice_rounds =
    (1 ∷ 1 ∷ 1 ∷ []) ∷ (1 ∷ 1 ∷ 1 ∷ []) ∷ (4 ∷ 4 ∷ 4 ∷ []) ∷ (2 ∷ 2 ∷ 2 ∷ []) ∷ (2 ∷ 4 ∷ 4 ∷ []) ∷ (1 ∷ 1 ∷ 1 ∷ []) ∷ (1 ∷ 1 ∷ 1 ∷ []) ∷ (2 ∷ 2 ∷ 2 ∷ []) ∷ (1 ∷ 1 ∷ 1 ∷ []) ∷ (1 ∷ 1 ∷ 1 ∷ []) ∷ []

private_choice : seen (next_in private_choice_tables private_choice_program) (setting_of 3 (0 ∷ 0 ∷ 0 ∷ []) []) private_choice_rounds None (0 ∷ 1 ∷ 2 ∷ []) (program_opening private_choice_tables private_choice_program (0 ∷ 0 ∷ 0 ∷ []) [] [] 3)
    ≡ (lines [] [], (7 ∷ 11 ∷ 12 ∷ []), SourceFinished, true)
private_choice = refl

-- int f(int n) { return n ? 1 + f(n - 1) : 0; } void main(void) { putint(f(3)); }
abbrev recursion_program : ProgramTree
recursion_program = record {
  items =
      (p.FunctionItem (function m.Async (ty t.Int 0) (nm (codes "f") 1 1 5) ((dc false (ty t.Int 0) (nm (codes "n") 4 1 11) None None) ∷ []) (Some ((p.statement (p.Return (sp 7 1 16) (Some (t.Choose (sp 9 1 25) (t.Variable (nm (codes "n") 8 1 23)) (t.Chain (t.Number (sp 10 1 27) 1 false) (t.link (sp 11 1 29) g.Plus (t.Postfix (t.Variable (nm (codes "f") 12 1 31)) (t.call (sp 13 1 32) (t.tree (t.Chain (t.Variable (nm (codes "n") 14 1 33)) (t.link (sp 15 1 35) g.Minus (t.Number (sp 16 1 37) 1 false) t.no_links)) t.no_trees) t.no_suffixes)) t.no_links)) (t.Number (sp 19 1 42) 0 false)))) p.no_statements)))))
      ∷ (p.FunctionItem (function m.Async (ty t.Void 0) (nm (codes "main") 23 1 52) [] (Some ((p.statement (p.Expression (t.Postfix (t.Variable (nm (codes "putint") 28 1 65)) (t.call (sp 29 1 71) (t.tree (t.Postfix (t.Variable (nm (codes "f") 30 1 72)) (t.call (sp 31 1 73) (t.tree (t.Number (sp 32 1 74) 3 false) t.no_trees) t.no_suffixes)) t.no_trees) t.no_suffixes))) p.no_statements)))))
      ∷ [];
  end = place 1 80;
  tokens = 37;
}

abbrev recursion_tables : Tables
recursion_tables = record {
  notes = nn ∷ nt 0 0 false false false ∷ nn ∷ nn ∷ nt 0 1 false false false ∷ nn ∷ nn ∷ nt 0 0 false false false ∷ nt 0 1 false false false ∷ nt 0 0 false false false ∷ nt 0 0 false true false ∷ nt 0 0 false false false ∷ nt 0 0 false false false ∷ nt 0 0 false false false ∷ nt 0 1 false false false ∷ nt 0 0 false false false ∷ nt 0 0 false true false ∷ nn ∷ nn ∷ nt 0 0 false true false ∷ nn ∷ nn ∷ nn ∷ nt 0 2 false false false ∷ nn ∷ nn ∷ nn ∷ nn ∷ nt 0 4294967295 false false false ∷ nt 1 0 false false false ∷ nt 0 0 false false false ∷ nt 0 0 false false false ∷ nt 0 0 false true false ∷ [];
  kinds = kd 1 false false 0 ∷ kd 0 false false 0 ∷ [];
  slots = sl h.NoWord 0 ∷ sl h.Private 0 ∷ sl h.NoWord 0 ∷ [];
  regions = [];
}

recursion_sites : sites_of recursion_tables recursion_program
    ≡ k 2 ∷ k 9 ∷ k 1 ∷ k 2 ∷ k 1 ∷ k 7 ∷ at 22 1 31 ∷ k 7 ∷ k 1 ∷ k 11 ∷ k 1 ∷ k 11 ∷ k 1 ∷ at 22 1 72 ∷ k 19 ∷ k 34 ∷ []
recursion_sites = refl

abbrev recursion_rounds : Schedule
recursion_rounds =
    (2 ∷ []) ∷ (7 ∷ []) ∷ (7 ∷ []) ∷ (7 ∷ []) ∷ (11 ∷ []) ∷ (1 ∷ []) ∷ []

recursion : seen (next_in recursion_tables recursion_program) (setting_of 1 [] []) recursion_rounds None [] (program_opening recursion_tables recursion_program [] [] [] 1)
    ≡ (lines [] (Line 3 ∷ []), [], SourceFinished, true)
recursion = refl

-- void main(void) { int i; int s = 0; for (i = 0; i < 9; i++) { if (i == 1) continue; if (i == 4) break; s += i; } do { s = s * 2; } while (s < 30); putint(s); puts("a\n"); }
abbrev loops_program : ProgramTree
loops_program = record {
  items =
      (p.FunctionItem (function m.Async (ty t.Void 0) (nm (codes "main") 1 1 6) [] (Some ((p.statement (p.Declare ((dc false (ty t.Int 0) (nm (codes "i") 7 1 23) None None) ∷ [])) (p.statement (p.Declare ((dc false (ty t.Int 0) (nm (codes "s") 10 1 30) None (Some (t.Number (sp 12 1 34) 0 false))) ∷ [])) (p.statement (p.For (sp 14 1 37) (Some (t.Assign (sp 17 1 44) g.Assign (t.Variable (nm (codes "i") 16 1 42)) (t.Number (sp 18 1 46) 0 false))) (Some (t.Chain (t.Variable (nm (codes "i") 20 1 49)) (t.link (sp 21 1 51) g.LessThan (t.Number (sp 22 1 53) 9 false) t.no_links))) (Some (t.Postfix (t.Variable (nm (codes "i") 24 1 56)) (t.up (sp 25 1 57) t.no_suffixes))) (p.Block (p.statement (p.If (sp 28 1 63) (t.Chain (t.Variable (nm (codes "i") 30 1 67)) (t.link (sp 31 1 69) g.EqualTo (t.Number (sp 32 1 72) 1 false) t.no_links)) (p.Continue (sp 34 1 75))) (p.statement (p.If (sp 36 1 85) (t.Chain (t.Variable (nm (codes "i") 38 1 89)) (t.link (sp 39 1 91) g.EqualTo (t.Number (sp 40 1 94) 4 false) t.no_links)) (p.Break (sp 42 1 97))) (p.statement (p.Expression (t.Assign (sp 45 1 106) g.PlusAssign (t.Variable (nm (codes "s") 44 1 104)) (t.Variable (nm (codes "i") 46 1 109)))) p.no_statements))))) (p.statement (p.DoWhile (sp 49 1 114) (p.Block (p.statement (p.Expression (t.Assign (sp 52 1 121) g.Assign (t.Variable (nm (codes "s") 51 1 119)) (t.Chain (t.Variable (nm (codes "s") 53 1 123)) (t.link (sp 54 1 125) g.Star (t.Number (sp 55 1 127) 2 false) t.no_links)))) p.no_statements)) (t.Chain (t.Variable (nm (codes "s") 60 1 139)) (t.link (sp 61 1 141) g.LessThan (t.Number (sp 62 1 143) 30 false) t.no_links))) (p.statement (p.Expression (t.Postfix (t.Variable (nm (codes "putint") 65 1 148)) (t.call (sp 66 1 154) (t.tree (t.Variable (nm (codes "s") 67 1 155)) t.no_trees) t.no_suffixes))) (p.statement (p.Expression (t.Puts (sp 70 1 159) (34 ∷ 97 ∷ 92 ∷ 110 ∷ 34 ∷ []))) p.no_statements))))))))))
      ∷ [];
  end = place 1 173;
  tokens = 76;
}

abbrev loops_tables : Tables
loops_tables = record {
  notes = nn ∷ nt 0 0 false false false ∷ nn ∷ nn ∷ nn ∷ nn ∷ nn ∷ nt 0 1 false false false ∷ nn ∷ nn ∷ nt 0 2 false false false ∷ nn ∷ nt 0 0 false true false ∷ nn ∷ nt 0 0 false false false ∷ nn ∷ nt 0 1 false false false ∷ nt 0 0 false true false ∷ nt 0 0 false true false ∷ nn ∷ nt 0 1 false false false ∷ nt 0 0 false false false ∷ nt 0 0 false true false ∷ nn ∷ nt 0 1 false false false ∷ nt 0 0 false false false ∷ nn ∷ nn ∷ nt 0 0 false false false ∷ nn ∷ nt 0 1 false false false ∷ nt 0 0 false false false ∷ nt 0 0 false true false ∷ nn ∷ nt 0 0 false false false ∷ nn ∷ nt 0 0 false false false ∷ nn ∷ nt 0 1 false false false ∷ nt 0 0 false false false ∷ nt 0 0 false true false ∷ nn ∷ nt 0 0 false false false ∷ nn ∷ nt 0 2 false false false ∷ nt 0 0 false false false ∷ nt 0 1 false false false ∷ nn ∷ nn ∷ nt 0 0 false false false ∷ nn ∷ nt 0 2 false false false ∷ nt 0 0 false false false ∷ nt 0 2 false false false ∷ nt 0 0 false false false ∷ nt 0 0 false true false ∷ nn ∷ nn ∷ nn ∷ nn ∷ nt 0 2 false false false ∷ nt 0 0 false false false ∷ nt 0 0 false true false ∷ nn ∷ nn ∷ nt 0 4294967295 false false false ∷ nt 1 0 false false false ∷ nt 0 2 false false false ∷ nn ∷ nn ∷ nt 1 0 false false false ∷ [];
  kinds = kd 1 false false 0 ∷ kd 0 false false 0 ∷ [];
  slots = sl h.NoWord 0 ∷ sl h.Private 0 ∷ sl h.Private 1 ∷ [];
  regions = [];
}

loops_sites : sites_of loops_tables loops_program
    ≡ k 1 ∷ k 3 ∷ k 4 ∷ k 1 ∷ k 3 ∷ k 4 ∷ k 1 ∷ k 3 ∷ k 4 ∷ k 2 ∷ k 1 ∷ k 7 ∷ k 9 ∷ k 2 ∷ k 1 ∷ k 7 ∷ k 9 ∷ k 2 ∷ k 1 ∷ k 7 ∷ k 9 ∷ k 2 ∷ k 2 ∷ k 7 ∷ k 3 ∷ k 4 ∷ k 2 ∷ k 1 ∷ k 7 ∷ k 3 ∷ k 1 ∷ k 7 ∷ k 4 ∷ k 2 ∷ k 1 ∷ k 7 ∷ k 3 ∷ k 4 ∷ k 2 ∷ k 1 ∷ k 7 ∷ k 9 ∷ k 2 ∷ k 19 ∷ k 1 ∷ k 20 ∷ k 1 ∷ k 20 ∷ k 34 ∷ []
loops_sites = refl

abbrev loops_rounds : Schedule
loops_rounds =
    (137 ∷ []) ∷ (2 ∷ []) ∷ (2 ∷ []) ∷ (1 ∷ []) ∷ []

loops : seen (next_in loops_tables loops_program) (setting_of 1 [] []) loops_rounds None [] (program_opening loops_tables loops_program [] [] [] 1)
    ≡ (lines [] (Line 40 ∷ Byte 97 ∷ Byte 10 ∷ []), [], SourceFinished, true)
loops = refl

-- void main(void) { putint(malloc(65536) != 0); putint(malloc(4) != 0); putint(shmalloc(1) != 0); start { putint(shalloc(2097124) != 0); putint(shalloc(2097000) != 0); } }
abbrev heaps_program : ProgramTree
heaps_program = record {
  items =
      (p.FunctionItem (function m.Async (ty t.Void 0) (nm (codes "main") 1 1 6) [] (Some ((p.statement (p.Expression (t.Postfix (t.Variable (nm (codes "putint") 6 1 19)) (t.call (sp 7 1 25) (t.tree (t.Chain (t.Postfix (t.Variable (nm (codes "malloc") 8 1 26)) (t.call (sp 9 1 32) (t.tree (t.Number (sp 10 1 33) 65536 false) t.no_trees) t.no_suffixes)) (t.link (sp 12 1 40) g.NotEqualTo (t.Number (sp 13 1 43) 0 false) t.no_links)) t.no_trees) t.no_suffixes))) (p.statement (p.Expression (t.Postfix (t.Variable (nm (codes "putint") 16 1 47)) (t.call (sp 17 1 53) (t.tree (t.Chain (t.Postfix (t.Variable (nm (codes "malloc") 18 1 54)) (t.call (sp 19 1 60) (t.tree (t.Number (sp 20 1 61) 4 false) t.no_trees) t.no_suffixes)) (t.link (sp 22 1 64) g.NotEqualTo (t.Number (sp 23 1 67) 0 false) t.no_links)) t.no_trees) t.no_suffixes))) (p.statement (p.Expression (t.Postfix (t.Variable (nm (codes "putint") 26 1 71)) (t.call (sp 27 1 77) (t.tree (t.Chain (t.Postfix (t.Variable (nm (codes "shmalloc") 28 1 78)) (t.call (sp 29 1 86) (t.tree (t.Number (sp 30 1 87) 1 false) t.no_trees) t.no_suffixes)) (t.link (sp 32 1 90) g.NotEqualTo (t.Number (sp 33 1 93) 0 false) t.no_links)) t.no_trees) t.no_suffixes))) (p.statement (p.Start (sp 36 1 97) None (p.Block (p.statement (p.Expression (t.Postfix (t.Variable (nm (codes "putint") 38 1 105)) (t.call (sp 39 1 111) (t.tree (t.Chain (t.Postfix (t.Variable (nm (codes "shalloc") 40 1 112)) (t.call (sp 41 1 119) (t.tree (t.Number (sp 42 1 120) 2097124 false) t.no_trees) t.no_suffixes)) (t.link (sp 44 1 129) g.NotEqualTo (t.Number (sp 45 1 132) 0 false) t.no_links)) t.no_trees) t.no_suffixes))) (p.statement (p.Expression (t.Postfix (t.Variable (nm (codes "putint") 48 1 136)) (t.call (sp 49 1 142) (t.tree (t.Chain (t.Postfix (t.Variable (nm (codes "shalloc") 50 1 143)) (t.call (sp 51 1 150) (t.tree (t.Number (sp 52 1 151) 2097000 false) t.no_trees) t.no_suffixes)) (t.link (sp 54 1 160) g.NotEqualTo (t.Number (sp 55 1 163) 0 false) t.no_links)) t.no_trees) t.no_suffixes))) p.no_statements)))) p.no_statements))))))))
      ∷ [];
  end = place 1 170;
  tokens = 60;
}

abbrev heaps_tables : Tables
heaps_tables = record {
  notes = nn ∷ nt 0 0 false false false ∷ nn ∷ nn ∷ nn ∷ nn ∷ nt 0 4294967295 false false false ∷ nt 0 0 false false false ∷ nt 0 4294967295 false false false ∷ nt 2 0 false false false ∷ nt 1 0 false true false ∷ nn ∷ nt 1 0 false false false ∷ nt 1 0 false true false ∷ nn ∷ nn ∷ nt 0 4294967295 false false false ∷ nt 0 0 false false false ∷ nt 0 4294967295 false false false ∷ nt 2 0 false false false ∷ nt 1 0 false true false ∷ nn ∷ nt 1 0 false false false ∷ nt 1 0 false true false ∷ nn ∷ nn ∷ nt 0 4294967295 false false false ∷ nt 0 0 false false false ∷ nt 0 4294967295 false false false ∷ nt 2 0 false false false ∷ nt 1 0 false true false ∷ nn ∷ nt 1 0 false false false ∷ nt 1 0 false true false ∷ nn ∷ nn ∷ nt 0 0 false false false ∷ nn ∷ nt 0 4294967295 false false false ∷ nt 0 0 true false false ∷ nt 0 4294967295 false false false ∷ nt 2 0 true true false ∷ nt 1 0 true true false ∷ nn ∷ nt 1 0 true true false ∷ nt 1 0 true true false ∷ nn ∷ nn ∷ nt 0 4294967295 false false false ∷ nt 0 0 true false false ∷ nt 0 4294967295 false false false ∷ nt 2 0 true true false ∷ nt 1 0 true true false ∷ nn ∷ nt 1 0 true true false ∷ nt 1 0 true true false ∷ [];
  kinds = kd 0 false false 0 ∷ kd 1 false false 0 ∷ kd 1 true false 0 ∷ [];
  slots = sl h.NoWord 0 ∷ [];
  regions = [];
}

heaps_sites : sites_of heaps_tables heaps_program
    ≡ k 1 ∷ k 10 ∷ k 1 ∷ k 7 ∷ k 19 ∷ k 1 ∷ k 10 ∷ k 1 ∷ k 7 ∷ k 19 ∷ k 1 ∷ k 21 ∷ k 1 ∷ k 7 ∷ k 19 ∷ k 2 ∷ k 23 ∷ k 1 ∷ k 24 ∷ k 26 ∷ k 1 ∷ k 7 ∷ k 19 ∷ k 1 ∷ k 24 ∷ k 26 ∷ k 1 ∷ k 7 ∷ k 19 ∷ k 29 ∷ k 30 ∷ k 34 ∷ []
heaps_sites = refl

abbrev heaps_rounds : Schedule
heaps_rounds =
    (5 ∷ []) ∷ (5 ∷ []) ∷ (2 ∷ []) ∷ (3 ∷ []) ∷ (1 ∷ []) ∷ (1 ∷ []) ∷ (2 ∷ []) ∷ (1 ∷ []) ∷ (3 ∷ []) ∷ (2 ∷ []) ∷ (1 ∷ []) ∷ (3 ∷ []) ∷ (1 ∷ []) ∷ (1 ∷ []) ∷ (1 ∷ []) ∷ []

heaps : seen (next_in heaps_tables heaps_program) (setting_of 1 [] []) heaps_rounds None [] (program_opening heaps_tables heaps_program [] [] [] 1)
    ≡ (lines [] (Line 1 ∷ Line 0 ∷ Line 1 ∷ Line 0 ∷ Line 1 ∷ []), [], SourceFinished, true)
heaps = refl

-- sh int t; void main(void) { start { int i; for (i = 0; i < __inputs; i++) t += __input[i]; } }
abbrev pub input_sum_program : ProgramTree
input_sum_program = record {
  items =
      (p.VariablesItem ((dc true (ty t.Int 0) (nm (codes "t") 2 1 8) None None) ∷ []))
      ∷ (p.FunctionItem (function m.Async (ty t.Void 0) (nm (codes "main") 5 1 16) [] (Some ((p.statement (p.Start (sp 10 1 29) None (p.Block (p.statement (p.Declare ((dc false (ty t.Int 0) (nm (codes "i") 13 1 41) None None) ∷ [])) (p.statement (p.For (sp 15 1 44) (Some (t.Assign (sp 18 1 51) g.Assign (t.Variable (nm (codes "i") 17 1 49)) (t.Number (sp 19 1 53) 0 false))) (Some (t.Chain (t.Variable (nm (codes "i") 21 1 56)) (t.link (sp 22 1 58) g.LessThan (t.Variable (nm (codes "__inputs") 23 1 60)) t.no_links))) (Some (t.Postfix (t.Variable (nm (codes "i") 25 1 70)) (t.up (sp 26 1 71) t.no_suffixes))) (p.Expression (t.Assign (sp 29 1 77) g.PlusAssign (t.Variable (nm (codes "t") 28 1 75)) (t.Postfix (t.Variable (nm (codes "__input") 30 1 80)) (t.index (sp 31 1 87) (t.Variable (nm (codes "i") 32 1 88)) t.no_suffixes))))) p.no_statements)))) p.no_statements)))))
      ∷ [];
  end = place 1 95;
  tokens = 37;
}

abbrev pub input_sum_tables : Tables
input_sum_tables = record {
  notes = nn ∷ nn ∷ nt 0 0 false false false ∷ nn ∷ nn ∷ nt 0 1 false false false ∷ nn ∷ nn ∷ nn ∷ nn ∷ nt 0 0 false false false ∷ nn ∷ nn ∷ nt 0 2 false false false ∷ nn ∷ nt 0 0 true false true ∷ nn ∷ nt 0 2 true false false ∷ nt 0 0 true true false ∷ nt 0 0 true true false ∷ nn ∷ nt 0 2 true false false ∷ nt 0 0 true false false ∷ nt 0 4294967295 true true false ∷ nn ∷ nt 0 2 true false false ∷ nt 0 0 true false false ∷ nn ∷ nt 0 0 true true false ∷ nt 0 0 true false false ∷ nt 1 4294967295 true true false ∷ nt 0 0 true false false ∷ nt 0 2 true false false ∷ [];
  kinds = kd 1 false false 0 ∷ kd 1 false true 4 ∷ [];
  slots = sl h.Global 0 ∷ sl h.NoWord 0 ∷ sl h.Private 0 ∷ [];
  regions = [];
}

input_sum_sites : sites_of input_sum_tables input_sum_program
    ≡ k 2 ∷ k 23 ∷ k 1 ∷ k 3 ∷ k 4 ∷ k 1 ∷ k 3 ∷ k 4 ∷ at 27 1 44 ∷ k 2 ∷ k 2 ∷ k 7 ∷ k 28 ∷ k 1 ∷ k 5 ∷ k 13 ∷ k 2 ∷ k 2 ∷ k 8 ∷ at 12 1 87 ∷ k 13 ∷ k 7 ∷ k 14 ∷ k 4 ∷ k 2 ∷ k 1 ∷ k 7 ∷ k 3 ∷ k 1 ∷ k 7 ∷ k 4 ∷ k 30 ∷ k 29 ∷ k 30 ∷ k 34 ∷ []
input_sum_sites = refl

abbrev pub input_sum_rounds : Schedule
input_sum_rounds =
    (1 ∷ 1 ∷ []) ∷ (1 ∷ 1 ∷ []) ∷ (7 ∷ 7 ∷ []) ∷ (4 ∷ 4 ∷ []) ∷ (3 ∷ 3 ∷ []) ∷ (4 ∷ 4 ∷ []) ∷ (1 ∷ 1 ∷ []) ∷ (2 ∷ 2 ∷ []) ∷ (12 ∷ 12 ∷ []) ∷ (3 ∷ 3 ∷ []) ∷ (4 ∷ 4 ∷ []) ∷ (1 ∷ 1 ∷ []) ∷ (2 ∷ 2 ∷ []) ∷ (12 ∷ 12 ∷ []) ∷ (1 ∷ 1 ∷ []) ∷ (1 ∷ 1 ∷ []) ∷ (1 ∷ 1 ∷ []) ∷ (1 ∷ 1 ∷ []) ∷ []

input_sum : seen (next_in input_sum_tables input_sum_program) (setting_of 2 (0 ∷ []) (4 ∷ 5 ∷ [])) input_sum_rounds None (0 ∷ []) (program_opening input_sum_tables input_sum_program (0 ∷ []) [] (4 ∷ 5 ∷ []) 2)
    ≡ (lines [] [], (9 ∷ []), SourceFinished, true)
input_sum = refl

-- sh int x; void main(void) { start { sh int k; k = $; if (k) x = k + 3; else x = 9; } }
abbrev pub shared_condition_program : ProgramTree
shared_condition_program = record {
  items =
      (p.VariablesItem ((dc true (ty t.Int 0) (nm (codes "x") 2 1 8) None None) ∷ []))
      ∷ (p.FunctionItem (function m.Async (ty t.Void 0) (nm (codes "main") 5 1 16) [] (Some ((p.statement (p.Start (sp 10 1 29) None (p.Block (p.statement (p.Declare ((dc true (ty t.Int 0) (nm (codes "k") 14 1 44) None None) ∷ [])) (p.statement (p.Expression (t.Assign (sp 17 1 49) g.Assign (t.Variable (nm (codes "k") 16 1 47)) (t.GroupRank (sp 18 1 51)))) (p.statement (p.IfElse (sp 20 1 54) (t.Variable (nm (codes "k") 22 1 58)) (p.Expression (t.Assign (sp 25 1 63) g.Assign (t.Variable (nm (codes "x") 24 1 61)) (t.Chain (t.Variable (nm (codes "k") 26 1 65)) (t.link (sp 27 1 67) g.Plus (t.Number (sp 28 1 69) 3 false) t.no_links)))) (p.Expression (t.Assign (sp 32 1 79) g.Assign (t.Variable (nm (codes "x") 31 1 77)) (t.Number (sp 33 1 81) 9 false)))) p.no_statements))))) p.no_statements)))))
      ∷ [];
  end = place 1 87;
  tokens = 37;
}

abbrev pub shared_condition_tables : Tables
shared_condition_tables = record {
  notes = nn ∷ nn ∷ nt 0 0 false false false ∷ nn ∷ nn ∷ nt 0 1 false false false ∷ nn ∷ nn ∷ nn ∷ nn ∷ nt 0 0 false false false ∷ nn ∷ nn ∷ nn ∷ nt 0 2 false false false ∷ nn ∷ nt 0 2 true true false ∷ nt 0 0 true false false ∷ nt 0 0 true false false ∷ nn ∷ nt 0 0 true false false ∷ nn ∷ nt 0 2 true true false ∷ nn ∷ nt 0 0 true true false ∷ nt 0 0 true true false ∷ nt 0 2 true true false ∷ nt 0 0 true true false ∷ nt 0 0 true true false ∷ nn ∷ nn ∷ nt 0 0 true true false ∷ nt 0 0 true true false ∷ nt 0 0 true true false ∷ [];
  kinds = kd 1 false false 0 ∷ [];
  slots = sl h.Global 0 ∷ sl h.NoWord 0 ∷ sl (h.Group 0) 0 ∷ [];
  regions = rg 10 0 1 1 ∷ [];
}

shared_condition_sites : sites_of shared_condition_tables shared_condition_program
    ≡ k 2 ∷ k 23 ∷ at 25 1 29 ∷ k 2 ∷ k 1 ∷ k 14 ∷ k 4 ∷ k 2 ∷ k 2 ∷ k 14 ∷ k 4 ∷ k 2 ∷ k 13 ∷ k 24 ∷ k 9 ∷ k 1 ∷ k 2 ∷ k 13 ∷ k 1 ∷ k 7 ∷ k 14 ∷ k 4 ∷ k 1 ∷ k 1 ∷ k 14 ∷ k 4 ∷ k 29 ∷ k 30 ∷ k 34 ∷ []
shared_condition_sites = refl

abbrev pub shared_condition_rounds : Schedule
shared_condition_rounds =
    (1 ∷ 1 ∷ []) ∷ (1 ∷ 1 ∷ []) ∷ (1 ∷ 1 ∷ []) ∷ (3 ∷ 3 ∷ []) ∷ (4 ∷ 4 ∷ []) ∷ (3 ∷ 3 ∷ []) ∷ (1 ∷ 1 ∷ []) ∷ (4 ∷ 4 ∷ []) ∷ (3 ∷ 3 ∷ []) ∷ (2 ∷ 2 ∷ []) ∷ (1 ∷ 1 ∷ []) ∷ (1 ∷ 1 ∷ []) ∷ []

shared_condition : seen (next_in shared_condition_tables shared_condition_program) (setting_of 2 (0 ∷ []) []) shared_condition_rounds None (0 ∷ 1 ∷ 2 ∷ 12 ∷ []) (program_opening shared_condition_tables shared_condition_program (0 ∷ []) [] [] 2)
    ≡ (lines [] [], (4 ∷ 0 ∷ 0 ∷ 0 ∷ []), SourceFinished, true)
shared_condition = refl

-- struct S { int a; int *b; int c[2]; }; sh struct S s; sh int y; void main(void) { struct S *p = &s; y = 8; s.b = &y; p->c[1] = *p->b + 1; s.a = p->c[1]++; putint(s.c[1] >= s.a || y); }
abbrev structs_program : ProgramTree
structs_program = record {
  items =
      (p.StructItem (nm (codes "S") 1 1 8) [])
      ∷ (p.VariablesItem ((dc true (ty (t.Struct (nm (codes "S") 20 1 50)) 0) (nm (codes "s") 21 1 52) None None) ∷ []))
      ∷ (p.VariablesItem ((dc true (ty t.Int 0) (nm (codes "y") 25 1 62) None None) ∷ []))
      ∷ (p.FunctionItem (function m.Async (ty t.Void 0) (nm (codes "main") 28 1 70) [] (Some ((p.statement (p.Declare ((dc false (ty (t.Struct (nm (codes "S") 34 1 90)) 1) (nm (codes "p") 36 1 93) None (Some (t.Prefix (sp 38 1 97) g.Ampersand (t.Variable (nm (codes "s") 39 1 98))))) ∷ [])) (p.statement (p.Expression (t.Assign (sp 42 1 103) g.Assign (t.Variable (nm (codes "y") 41 1 101)) (t.Number (sp 43 1 105) 8 false))) (p.statement (p.Expression (t.Assign (sp 48 1 112) g.Assign (t.Postfix (t.Variable (nm (codes "s") 45 1 108)) (t.dot (sp 46 1 109) (nm (codes "b") 47 1 110) t.no_suffixes)) (t.Prefix (sp 49 1 114) g.Ampersand (t.Variable (nm (codes "y") 50 1 115))))) (p.statement (p.Expression (t.Assign (sp 58 1 126) g.Assign (t.Postfix (t.Variable (nm (codes "p") 52 1 118)) (t.arrow (sp 53 1 119) (nm (codes "c") 54 1 121) (t.index (sp 55 1 122) (t.Number (sp 56 1 123) 1 false) t.no_suffixes))) (t.Chain (t.Prefix (sp 59 1 128) g.Star (t.Postfix (t.Variable (nm (codes "p") 60 1 129)) (t.arrow (sp 61 1 130) (nm (codes "b") 62 1 132) t.no_suffixes))) (t.link (sp 63 1 134) g.Plus (t.Number (sp 64 1 136) 1 false) t.no_links)))) (p.statement (p.Expression (t.Assign (sp 69 1 143) g.Assign (t.Postfix (t.Variable (nm (codes "s") 66 1 139)) (t.dot (sp 67 1 140) (nm (codes "a") 68 1 141) t.no_suffixes)) (t.Postfix (t.Variable (nm (codes "p") 70 1 145)) (t.arrow (sp 71 1 146) (nm (codes "c") 72 1 148) (t.index (sp 73 1 149) (t.Number (sp 74 1 150) 1 false) (t.up (sp 76 1 152) t.no_suffixes)))))) (p.statement (p.Expression (t.Postfix (t.Variable (nm (codes "putint") 78 1 156)) (t.call (sp 79 1 162) (t.tree (t.Chain (t.Chain (t.Postfix (t.Variable (nm (codes "s") 80 1 163)) (t.dot (sp 81 1 164) (nm (codes "c") 82 1 165) (t.index (sp 83 1 166) (t.Number (sp 84 1 167) 1 false) t.no_suffixes))) (t.link (sp 86 1 170) g.GreaterOrEqual (t.Postfix (t.Variable (nm (codes "s") 87 1 173)) (t.dot (sp 88 1 174) (nm (codes "a") 89 1 175) t.no_suffixes)) t.no_links)) (t.link (sp 90 1 177) g.OrOr (t.Variable (nm (codes "y") 91 1 180)) t.no_links)) t.no_trees) t.no_suffixes))) p.no_statements))))))))))
      ∷ [];
  end = place 1 185;
  tokens = 95;
}

abbrev structs_tables : Tables
structs_tables = record {
  notes = nn ∷ nn ∷ nn ∷ nn ∷ nn ∷ nn ∷ nn ∷ nn ∷ nn ∷ nn ∷ nn ∷ nn ∷ nn ∷ nn ∷ nn ∷ nn ∷ nn ∷ nn ∷ nn ∷ nn ∷ nn ∷ nt 0 0 false false false ∷ nn ∷ nn ∷ nn ∷ nt 1 1 false false false ∷ nn ∷ nn ∷ nt 0 2 false false false ∷ nn ∷ nn ∷ nn ∷ nn ∷ nn ∷ nn ∷ nn ∷ nt 2 3 false false false ∷ nn ∷ nt 2 0 false true false ∷ nt 0 0 false true false ∷ nn ∷ nt 1 1 false true false ∷ nt 1 0 false true false ∷ nt 1 0 false true false ∷ nn ∷ nt 0 0 false true false ∷ nt 3 0 false true false ∷ nt 0 1 false false false ∷ nt 3 0 false true false ∷ nt 3 0 false true false ∷ nt 1 1 false true false ∷ nn ∷ nt 2 3 false false false ∷ nt 4 0 false false false ∷ nt 0 2 false false false ∷ nt 1 0 false false false ∷ nt 1 0 false true false ∷ nn ∷ nt 1 0 false false false ∷ nt 1 0 false false false ∷ nt 2 3 false false false ∷ nt 3 0 false false false ∷ nt 0 1 false false false ∷ nt 1 0 false false false ∷ nt 1 0 false true false ∷ nn ∷ nt 0 0 false true false ∷ nt 1 0 false true false ∷ nt 0 0 false false false ∷ nt 1 0 false false false ∷ nt 2 3 false false false ∷ nt 4 0 false false false ∷ nt 0 2 false false false ∷ nt 1 0 false false false ∷ nt 1 0 false true false ∷ nn ∷ nt 1 0 false false false ∷ nn ∷ nt 0 4294967295 false false false ∷ nt 5 0 false false false ∷ nt 0 0 false true false ∷ nt 4 0 false true false ∷ nt 0 2 false false false ∷ nt 1 0 false true false ∷ nt 1 0 false true false ∷ nn ∷ nt 1 0 false true false ∷ nt 0 0 false true false ∷ nt 1 0 false true false ∷ nt 0 0 false false false ∷ nt 1 0 false true false ∷ nt 1 1 false true false ∷ [];
  kinds = kd 4 false false 0 ∷ kd 1 false false 0 ∷ kd 1 true false 16 ∷ kd 1 true false 4 ∷ kd 2 false true 4 ∷ kd 0 false false 0 ∷ [];
  slots = sl h.Global 0 ∷ sl h.Global 4 ∷ sl h.NoWord 0 ∷ sl h.Private 0 ∷ [];
  regions = [];
}

structs_sites : sites_of structs_tables structs_program
    ≡ k 1 ∷ k 3 ∷ k 4 ∷ k 1 ∷ k 1 ∷ k 14 ∷ k 4 ∷ k 1 ∷ k 1 ∷ k 7 ∷ k 1 ∷ k 14 ∷ k 4 ∷ k 2 ∷ k 1 ∷ k 7 ∷ k 1 ∷ k 8 ∷ at 12 1 122 ∷ k 2 ∷ k 1 ∷ k 7 ∷ at 12 1 130 ∷ k 13 ∷ at 12 1 128 ∷ k 13 ∷ k 1 ∷ k 7 ∷ k 14 ∷ k 4 ∷ k 1 ∷ k 1 ∷ k 7 ∷ k 2 ∷ k 1 ∷ k 7 ∷ k 1 ∷ k 8 ∷ at 12 1 149 ∷ k 5 ∷ k 13 ∷ k 1 ∷ k 7 ∷ k 14 ∷ k 1 ∷ k 7 ∷ k 14 ∷ k 4 ∷ k 1 ∷ k 1 ∷ k 7 ∷ k 1 ∷ k 8 ∷ at 12 1 166 ∷ k 13 ∷ k 1 ∷ k 1 ∷ k 7 ∷ k 13 ∷ k 7 ∷ k 9 ∷ k 1 ∷ k 13 ∷ k 1 ∷ k 7 ∷ k 1 ∷ k 19 ∷ k 34 ∷ []
structs_sites = refl

abbrev structs_rounds : Schedule
structs_rounds =
    (6 ∷ []) ∷ (6 ∷ []) ∷ (7 ∷ []) ∷ (4 ∷ []) ∷ (1 ∷ []) ∷ (1 ∷ []) ∷ (1 ∷ []) ∷ (3 ∷ []) ∷ (10 ∷ []) ∷ (2 ∷ []) ∷ (3 ∷ []) ∷ (3 ∷ []) ∷ (7 ∷ []) ∷ (1 ∷ []) ∷ (4 ∷ []) ∷ (4 ∷ []) ∷ (1 ∷ []) ∷ []

structs : seen (next_in structs_tables structs_program) (setting_of 1 (0 ∷ 0 ∷ 0 ∷ 0 ∷ 0 ∷ []) []) structs_rounds None (0 ∷ 1 ∷ 2 ∷ 3 ∷ 4 ∷ []) (program_opening structs_tables structs_program (0 ∷ 0 ∷ 0 ∷ 0 ∷ 0 ∷ []) [] [] 1)
    ≡ (lines [] (Line 1 ∷ []), (9 ∷ 268435472 ∷ 0 ∷ 10 ∷ 8 ∷ []), SourceFinished, true)
structs = refl

-- void f(void) { f(); } void main(void) { f(); }
abbrev pub no_depth_program : ProgramTree
no_depth_program = record {
  items =
      (p.FunctionItem (function m.Async (ty t.Void 0) (nm (codes "f") 1 1 6) [] (Some ((p.statement (p.Expression (t.Postfix (t.Variable (nm (codes "f") 6 1 16)) (t.call (sp 7 1 17) t.no_trees t.no_suffixes))) p.no_statements)))))
      ∷ (p.FunctionItem (function m.Async (ty t.Void 0) (nm (codes "main") 12 1 28) [] (Some ((p.statement (p.Expression (t.Postfix (t.Variable (nm (codes "f") 17 1 41)) (t.call (sp 18 1 42) t.no_trees t.no_suffixes))) p.no_statements)))))
      ∷ [];
  end = place 1 47;
  tokens = 22;
}

abbrev pub no_depth_tables : Tables
no_depth_tables = record {
  notes = nn ∷ nt 0 0 false false false ∷ nn ∷ nn ∷ nn ∷ nn ∷ nt 0 0 false false false ∷ nt 0 0 false false false ∷ nn ∷ nn ∷ nn ∷ nn ∷ nt 0 1 false false false ∷ nn ∷ nn ∷ nn ∷ nn ∷ nt 0 0 false false false ∷ nt 0 0 false false false ∷ [];
  kinds = kd 0 false false 0 ∷ [];
  slots = sl h.NoWord 0 ∷ sl h.NoWord 0 ∷ [];
  regions = [];
}

no_depth_sites : sites_of no_depth_tables no_depth_program
    ≡ at 22 1 16 ∷ k 11 ∷ at 22 1 41 ∷ k 34 ∷ []
no_depth_sites = refl

-- by hand: 255 calls can begin, and the next one can't
abbrev pub no_depth_rounds : Schedule
no_depth_rounds = replicate 255 (1 ∷ [])

no_depth : seen (next_in no_depth_tables no_depth_program) (setting_of 1 [] []) no_depth_rounds (Some (1 ∷ [])) [] (program_opening no_depth_tables no_depth_program [] [] [] 1)
    ≡ (lines [] [], [], SourceFaulted (record { site = 0; processor = 0 }), true)
no_depth = refl

-- sync void f(void) { sh int a[524281]; } void main(void) { start f(); }
abbrev pub no_frame_program : ProgramTree
no_frame_program = record {
  items =
      (p.FunctionItem (function m.Sync (ty t.Void 0) (nm (codes "f") 2 1 11) [] (Some ((p.statement (p.Declare ((dc true (ty t.Int 0) (nm (codes "a") 9 1 28) (Some 524281) None) ∷ [])) p.no_statements)))))
      ∷ (p.FunctionItem (function m.Async (ty t.Void 0) (nm (codes "main") 16 1 46) [] (Some ((p.statement (p.Start (sp 21 1 59) None (p.Expression (t.Postfix (t.Variable (nm (codes "f") 22 1 65)) (t.call (sp 23 1 66) t.no_trees t.no_suffixes)))) p.no_statements)))))
      ∷ [];
  end = place 1 71;
  tokens = 27;
}

abbrev pub no_frame_tables : Tables
no_frame_tables = record {
  notes = nn ∷ nn ∷ nt 0 0 false false false ∷ nn ∷ nn ∷ nn ∷ nn ∷ nn ∷ nn ∷ nt 1 1 false false false ∷ nn ∷ nn ∷ nn ∷ nn ∷ nn ∷ nn ∷ nt 0 2 false false false ∷ nn ∷ nn ∷ nn ∷ nn ∷ nt 0 0 false false false ∷ nt 0 0 true false false ∷ nt 0 0 true false false ∷ [];
  kinds = kd 0 false false 0 ∷ kd 524281 false true 4 ∷ [];
  slots = sl h.NoWord 0 ∷ sl (h.Group 0) 0 ∷ sl h.NoWord 0 ∷ [];
  regions = rg 2 0 0 524281 ∷ [];
}

no_frame_sites : sites_of no_frame_tables no_frame_program
    ≡ k 11 ∷ k 2 ∷ k 23 ∷ at 22 1 65 ∷ at 25 1 65 ∷ k 29 ∷ k 30 ∷ k 34 ∷ []
no_frame_sites = refl

-- by hand: of the 524,288 words of the group space 8 are its header, so one word more is wanted than is free
abbrev pub no_frame_rounds : Schedule
no_frame_rounds = (1 ∷ []) ∷ (1 ∷ []) ∷ (1 ∷ []) ∷ []

no_frame : seen (next_in no_frame_tables no_frame_program) (setting_of 1 [] []) no_frame_rounds (Some (1 ∷ [])) [] (program_opening no_frame_tables no_frame_program [] [] [] 1)
    ≡ (lines [] [], [], SourceFaulted (record { site = 4; processor = 0 }), true)
no_frame = refl
