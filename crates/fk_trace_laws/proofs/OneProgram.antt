-- A text has one program, with one set of tables and one list of initial words.
use Rattle.std.proofs.Common.{◌≡◌, ℕ, List, ap, subst, ◌∙◌}
use Rattle.fk_syntax.specs.declared.facts.Facts.{Facts}
use Rattle.fk_syntax.specs.declared.facts.Kind.{Kind}
use Rattle.fk_syntax.specs.declared.facts.Note.{Note}
use Rattle.fk_syntax.specs.Program.{ProgramTree}
use Rattle.fk_lex.specs.Reading.{Spelled}
use Rattle.fk_lex.proofs.Determined as lexed
use Rattle.fk_parse.specs.Parses.{SpellsProgram}
use Rattle.fk_parse.proofs.Texts.{one_tree}
use Rattle.fk_check.specs.Known.{AreAllFacts}
use Rattle.fk_check.specs.Laws.{AreSame}
use Rattle.fk_check.proofs.OneFacts.{one_facts}
use Rattle.fk_meaning_forms.specs.Tables.{Tables}
use Rattle.fk_layout_slots.specs.Frames.{regions_of}
use Rattle.fk_layout_slots.specs.Slots.{slots_of}
use Rattle.fk_layout.specs.Layout.{tables_by}
use Rattle.fk_layout_globals.specs.Constants.{told}
use Rattle.fk_layout_globals.specs.Rows.{firsts, words}
use Rattle.fk_compile_text.specs.Text.{HasTree, IsChecked}
use Rattle.fk_compile.specs.Faithful.{firsts_by, words_by}

pub same_tree : (source : List ℕ) (tree other : ProgramTree) → HasTree source tree → HasTree source other → tree ≡ other
same_tree source tree other a b =
    let same = lexed.one_reading.tokens source a.tokens b.tokens a.spelled b.spelled in
    one_tree b.tokens tree other (subst (λ (ts : List Spelled). SpellsProgram ts tree) same a.derived) b.derived

-- the same facts, the same tables
abbrev made : ProgramTree → List Note → List Kind → Tables
made tree notes kinds = record {
  notes = notes;
  kinds = kinds;
  slots = slots_of (record { notes = notes; kinds = kinds }) tree.items;
  regions = regions_of (record { notes = notes; kinds = kinds }) tree.items;
}

pub same_tables : (tree : ProgramTree) (one other : Facts) → AreSame one other → tables_by tree one ≡ tables_by tree other
same_tables tree one other same =
    ap (λ (ns : List Note). made tree ns one.kinds.items) same.notes ∙ ap (λ (ks : List Kind). made tree other.notes.items ks) same.kinds

-- and so have two checks of one text
module _ (source : List ℕ) (one other : ProgramTree) (by with : Facts) (checked : IsChecked source one by) (again : IsChecked source other with) where
  same : one ≡ other
  same = same_tree source one other checked.parsed again.parsed

  facts : AreSame by with
  facts = one_facts other by with (subst (λ (t : ProgramTree). AreAllFacts t by) same checked.known) again.known

  pub one_tables : tables_by one by ≡ tables_by other with
  one_tables = ap (λ (t : ProgramTree). tables_by t by) same ∙ same_tables other by with facts

  -- the words of shared variables
  pub one_words : words_by one by ≡ words_by other with
  one_words =
      ap (λ (t : ProgramTree). words_by t by) same
      ∙ (ap (λ (ns : List Note). words (told ns by.kinds.items) other.items) facts.notes ∙ ap (λ (ks : List Kind). words (told with.notes.items ks) other.items) facts.kinds)

  -- the first values of private variables of file scope
  pub one_firsts : firsts_by one by ≡ firsts_by other with
  one_firsts =
      ap (λ (t : ProgramTree). firsts_by t by) same
      ∙ (ap (λ (ns : List Note). firsts (told ns by.kinds.items) other.items) facts.notes ∙ ap (λ (ks : List Kind). firsts (told with.notes.items ks) other.items) facts.kinds)

  -- what holds by one check holds by the other
  pub moved : (F : Tables → ProgramTree → (words firsts : List ℕ) → Type 0) → F (tables_by one by) one (words_by one by) (firsts_by one by) → F (tables_by other with) other (words_by other with) (firsts_by other with)
  moved F it =
      subst (λ (ws : List ℕ). F (tables_by other with) other (words_by other with) ws) one_firsts
      (subst (λ (ws : List ℕ). F (tables_by other with) other ws (firsts_by one by)) one_words
      (subst (λ (t : ProgramTree). F (tables_by other with) t (words_by one by) (firsts_by one by)) same
      (subst (λ (ts : Tables). F ts one (words_by one by) (firsts_by one by)) one_tables it)))
