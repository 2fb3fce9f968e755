-- What it means that an image is faithful to a text.
use Rattle.std.specs.Prelude.{◌≡◌, ℕ, ◌^◌, ◌<◌, ◌≤◌, List, length, map}
use Rattle.fk_num.specs.Limits.{most_text_bytes}
use Rattle.fk_syntax.specs.declared.facts.Facts.{Facts}
use Rattle.fk_syntax.specs.declared.place.Place.{Place}
use Rattle.fk_syntax.specs.Program.{ProgramTree}
use Rattle.fk_meaning_forms.specs.Program.{sites_of}
use Rattle.fk_meaning.specs.Program.{next_in, program_opening}
use Rattle.fk_layout_globals.specs.Constants.{told}
use Rattle.fk_layout_globals.specs.Rows.{words, firsts}
use Rattle.fk_layout.specs.Layout.{tables_by}
use Rattle.fk_layout.specs.Refusal.{Fits}
use Rattle.fk_layout.specs.declared.listed.Site.{Site}
use Rattle.fk_image.specs.declared.Image.{Image}
use Rattle.fk_image.specs.Limits.{IsWithinLimits}
use Rattle.fk_sim_rounds.specs.Follows.{IsInput, Follows}
use Rattle.fk_compile_text.specs.Text.{IsChecked}

-- A site of a text, as an image has it: its kind, line and column.
abbrev pub in_image : ℕ × Place → ℕ × ℕ × ℕ
in_image site = (site.0, site.1.line, site.1.column)

-- A site of the site table, as an image has it.
abbrev pub in_table : Site → ℕ × ℕ × ℕ
in_table site = in_image (site.kind, site.place)

-- The initial words of shared variables, and those of private variables of file scope.
abbrev pub words_by : ProgramTree → Facts → List ℕ
words_by program facts = words (told facts.notes.items facts.kinds.items) program.items

abbrev pub firsts_by : ProgramTree → Facts → List ℕ
firsts_by program facts = firsts (told facts.notes.items facts.kinds.items) program.items

-- The machine follows the program, for every input, number of harts and bound on the cycles.
pub record IsFaithfulTo (program : ProgramTree) (facts : Facts) (image : Image) : Type 0 where
  pub limits : IsWithinLimits image
  pub sites_are : image.sites.items ≡ map in_image (sites_of (tables_by program facts) program)
  pub globals_are : image.globals.items ≡ words_by program facts
  pub follows : (input : List ℕ) (p n : ℕ) → IsInput image input → 1 ≤ p → p ≤ 1024 → n < 2 ^ 32
      → Follows (next_in (tables_by program facts) program) image input p n
      (program_opening (tables_by program facts) program (words_by program facts)
      (firsts_by program facts) input p)

-- the text isn't too long and keeps all rules, its operations are few enough, its frames and shared
-- variables are small enough, and the image is faithful to it
pub record IsFaithful (source : List ℕ) (image : Image) : Type 0 where
  pub short : length source ≤ most_text_bytes
  pub program : ProgramTree
  pub facts : Facts
  pub checked : IsChecked source program facts
  pub fits : Fits (tables_by program facts) program.items
  pub faithful : IsFaithfulTo program facts image
