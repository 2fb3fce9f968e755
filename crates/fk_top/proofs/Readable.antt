-- What is read whole, and that what is in order is not refused.
use Rattle.std.proofs.Common.{◌≡◌, ◌≢◌, ℕ, refl, ◌+◌, ◌*◌, ◌≤◌, ◌<◌, true, List, [], ◌∷◌, ◌++◌, codes, length, take, flat_map, None, Some, Contains, inl, inr, sym, ap, subst, ◌∙◌, arith}
use Rattle.std.proofs.lemmas.List.{length-append, length-take, take_all}
use Rattle.std.proofs.lemmas.List.Elements.{All-contains}
use Rattle.std.proofs.lemmas.Option.{none-some}
use Rattle.fk_syntax.specs.declared.facts.Facts.{Facts}
use Rattle.fk_syntax.specs.declared.place.Place.{Place}
use Rattle.fk_syntax.specs.Program.{DeclaredTree, ItemTree, ProgramTree}
use Rattle.fk_lex.specs.Reading.{Spelled}
use Rattle.fk_lex.proofs.Determined as lexed
use Rattle.fk_parse_combinators.specs.declared.fault.SyntaxFault.{SyntaxFault}
use Rattle.fk_parse_combinators.specs.declared.fault.SyntaxFault.TheVariants as syntax_fault
use Rattle.fk_parse_combinators.specs.Faults.{IsMemory}
use Rattle.fk_parse.specs.Parses.{SpellsProgram}
use Rattle.fk_parse.proofs.Texts.{tree_or_fault}
use Rattle.fk_check.specs.Rules.{BreaksFirst}
use Rattle.fk_check.specs.Known.{AreAllFacts}
use Rattle.fk_check.proofs.Apart.{keeps_or_breaks}
use Rattle.fk_check.proofs.OneFacts.{one_facts}
use Rattle.fk_compile_text.proofs.Elements.{Contains-head, Contains-tail, Contains-cons_cases, Contains-nil}
use Rattle.fk_meaning_forms.specs.Tables.{Tables}
use Rattle.fk_layout.specs.declared.sites.LayoutFault.{LayoutFault}
use Rattle.fk_layout.specs.declared.sites.LayoutFault.TheVariants as layout
use Rattle.fk_layout.specs.Layout.{tables_by}
use Rattle.fk_layout.specs.Refusal.{IsRefusal, Fits}
use Rattle.fk_layout_globals.specs.Constants.{told}
use Rattle.fk_layout_globals.specs.Variables.{variables_of}
use Rattle.fk_layout_globals.specs.Rows.{Row, words_of, row_at, rows_from, rows, words}
use Rattle.fk_image.specs.declared.Image.{Image}
use Rattle.fk_image.specs.Spelling.{IsImageOf, word_bytes, image_words, site_words, commit_words}
use Rattle.fk_image.proofs.Accepted.{no_refusal}
use Rattle.fk_image.proofs.Commits.{few_of_image}
use Rattle.fk_image.proofs.Images.{length-words, length-sites, length-commits}
use Rattle.fk_elf.specs.Files.{IsElfOf}
use Rattle.fk_elf.proofs.Faults.{no_refusal as no_elf_refusal}
use Rattle.fk_elf.proofs.Files.{file-long, small}
use Rattle.fk_compile_text.specs.declared.refusal.Refusal.{Refusal}
use Rattle.fk_compile_text.specs.declared.refusal.Refusal.TheVariants.{BadByte, OpenComment, OpenString, WideNumber, Unexpected, EndOfText, Nesting, Rule, TooManySites, FrameTooLarge, GlobalsTooLarge, SourceTooLong, Memory}
use Rattle.fk_compile_text.specs.Refusal.{IsRefusedText}
use Rattle.fk_compile_text.specs.Text.{HasTree, HasSyntaxFault, HasBrokenRule, HasGlobal, HasLayout, IsChecked}
use Rattle.fk_trace_laws.proofs.OneProgram.{same_tables, same_tree}
use Rattle.fk_top.specs.declared.report.Report.{Report}
use Rattle.fk_top.specs.Refused.{IsRefusedBy, IsNoElfAs, IsNoImageAs, refusal_line}
use Rattle.fk_top.specs.Call.{IsText, IsElf, IsImage}

-- what was read short of its bound was read whole
pub whole : (most : ℕ) (bytes : List ℕ) → length (take most bytes) < most → take most bytes ≡ bytes
whole most bytes few = take_all most bytes (omega (arith, length-take most bytes, few))

-- ---- sources

-- a text that has a tree has no fault of syntax
not_faulty : (source : List ℕ) (tree : ProgramTree) (fault : SyntaxFault) → HasTree source tree → HasSyntaxFault source fault → IsMemory fault
not_faulty source tree fault parsed faulty =
    let same = lexed.one_reading.tokens source parsed.tokens faulty.tokens parsed.spelled faulty.spelled in
    tree_or_fault faulty.tokens tree fault (subst (λ (ts : List Spelled). SpellsProgram ts tree) same parsed.derived) faulty.refused

kept_or_not : (source : List ℕ) (place : Place) (number : ℕ) → HasLayout source → HasBrokenRule source place number → ⊥
kept_or_not source place number laid breaks =
    let same = same_tree source breaks.tree laid.tree breaks.parsed laid.checked.parsed in
    keeps_or_breaks laid.tree place number laid.checked.kept (subst (λ (tree : ProgramTree). BreaksFirst tree place number) same breaks.broken)

-- of what fits nothing is too much
fits_or_not : (tables : Tables) (items : List ItemTree) (fault : LayoutFault) → Fits tables items → IsRefusal tables items fault → fault ≢ layout.Memory → ⊥
fits_or_not tables items (layout.TooManySites count) fits refused is = let few = fits.sites in absurd (omega (arith, few, refused.0))
fits_or_not tables items (layout.FrameTooLarge place words) fits refused is = none-some (place, words) (sym fits.frames ∙ refused.1)
fits_or_not tables items (layout.GlobalsTooLarge count) fits refused is = let few = fits.words in absurd (omega (arith, few, refused.2))
fits_or_not tables items layout.Memory fits refused is = is refl

-- a text that has a layout, by some facts, isn't refused by it, by other facts
laid_or_refused : (source : List ℕ) (tree : ProgramTree) (facts : Facts) (fault : LayoutFault) → HasLayout source → IsChecked source tree facts → IsRefusal (tables_by tree facts) tree.items fault
    → fault ≢ layout.Memory → ⊥
laid_or_refused source tree facts fault laid checked refused is =
    let same = same_tree source laid.tree tree laid.checked.parsed checked.parsed in
    let known = subst (λ (t : ProgramTree). AreAllFacts t laid.facts) same laid.checked.known in
    let tables = same_tables tree laid.facts facts (one_facts tree laid.facts facts known checked.known) in
    let fits = subst (λ (t : ProgramTree). Fits (tables_by t laid.facts) t.items) same laid.fits in
    fits_or_not (tables_by tree facts) tree.items fault (subst (λ (t : Tables). Fits t tree.items) tables fits) refused is

not_refused : (source : List ℕ) (refusal : Refusal) (line : List ℕ) → IsText source → IsRefusedText source refusal → refusal_line refusal ≡ Some line → ⊥
not_refused source (BadByte place) line text refused says = lexed.one_reading.apart source text.laid.checked.parsed.tokens _ text.laid.checked.parsed.spelled refused.1
not_refused source (OpenComment place) line text refused says = lexed.one_reading.apart source text.laid.checked.parsed.tokens _ text.laid.checked.parsed.spelled refused.1
not_refused source (OpenString place) line text refused says = lexed.one_reading.apart source text.laid.checked.parsed.tokens _ text.laid.checked.parsed.spelled refused.1
not_refused source (WideNumber place) line text refused says = lexed.one_reading.apart source text.laid.checked.parsed.tokens _ text.laid.checked.parsed.spelled refused.1
not_refused source (Unexpected place) line text refused says = not_faulty source text.laid.tree (syntax_fault.Unexpected place) text.laid.checked.parsed refused.1
not_refused source EndOfText line text refused says = not_faulty source text.laid.tree syntax_fault.EndOfText text.laid.checked.parsed refused.1
not_refused source (Nesting place) line text refused says = not_faulty source text.laid.tree (syntax_fault.Nesting place) text.laid.checked.parsed refused.1
not_refused source (Rule place number) line text refused says = kept_or_not source place number text.laid refused.1
not_refused source (TooManySites count) line text refused says =
    laid_or_refused source refused.1.tree refused.1.facts (layout.TooManySites count) text.laid refused.1.checked refused.1.refused (λ e. cc)
not_refused source (FrameTooLarge name words) line text refused says =
    laid_or_refused source refused.1.tree refused.1.facts (layout.FrameTooLarge refused.1.place words) text.laid refused.1.checked refused.1.refused (λ e. cc)
not_refused source (GlobalsTooLarge words) line text refused says =
    laid_or_refused source refused.1.tree refused.1.facts (layout.GlobalsTooLarge words) text.laid refused.1.checked refused.1.refused (λ e. cc)
not_refused source (SourceTooLong bytes) line text refused says = let short = text.short in absurd (omega (arith, refused.0, refused.1))
not_refused source (Memory e) line text refused says = cc

pub text_accepted : (source : List ℕ) (line : List ℕ) → IsText source → IsRefusedBy source line → ⊥
text_accepted source line text r = not_refused source r.refusal line text r.refused r.says

-- ---- images

length-image_words : (image : Image) → length (image_words image) ≡ 5 + length image.code.items + length image.globals.items + 3 * length image.sites.items + 2 * length image.commits.items
length-image_words image =
    let code = image.code.items in
    let globals = image.globals.items in
    let sites = flat_map site_words image.sites.items in
    let commits = flat_map commit_words image.commits.items in
    omega (arith, length-append (code ++ globals ++ sites) commits, length-append (code ++ globals) sites, length-append code globals, length-sites image.sites.items, length-commits image.commits.items)

pub image_short : (bytes : List ℕ) (image : Image) → IsImageOf bytes image → length bytes ≤ 5434904
image_short bytes image is =
    let spelled = ap length is.spelling ∙ length-append (codes "FK95") (flat_map word_bytes (image_words image)) in
    let words = length-words (image_words image) in
    let parts = length-image_words image in
    let commits = few_of_image image is.limits in
    omega (arith, image.code.ok.0, image.globals.ok.0, image.sites.ok.0, image.commits.ok.0, is.limits.code, is.limits.globals, is.limits.few_sites)

pub image_accepted : (bytes : List ℕ) (report : Report) → IsImage bytes → IsNoImageAs bytes report → ⊥
image_accepted bytes report image r = no_refusal bytes image.0 r.fault image.1 r.refused

-- ---- ELF files

pub elf_short : (bytes : List ℕ) (image : Image) → IsElfOf bytes image → length bytes ≤ 5435036
elf_short bytes image is =
    let small = small image is.limits in
    omega (arith, file-long bytes image is, small.code, small.globals, small.entries)

pub elf_accepted : (bytes : List ℕ) (report : Report) → IsElf bytes → IsNoElfAs bytes report → ⊥
elf_accepted bytes report file r = no_elf_refusal bytes file.0 r.fault file.1 r.refused

-- ---- variables

-- a row has a counterpart of its name among the rows by other facts
other_row : (tables other : Tables) (variables : List DeclaredTree) (first second : ℕ) (row : Row) → Contains (rows_from tables first variables) row
    → (counterpart : Row) × Contains (rows_from other second variables) counterpart × (counterpart.name ≡ row.name)
other_row tables other [] first second row h = absurd (Contains-nil row h)
other_row tables other (v ∷ vs) first second row h =
    elim (Contains-cons_cases (row_at tables first v) row (rows_from tables (first + words_of tables v) vs) h) [
      | inl same ↦ (row_at other second v, Contains-head (row_at other second v) (rows_from other (second + words_of other v) vs), ap (λ (r : Row). r.name) same)
      | inr rest ↦
          let found = other_row tables other vs (first + words_of tables v) (second + words_of other v) row rest in
          (found.0, Contains-tail (row_at other second v) found.0 (rows_from other (second + words_of other v) vs) found.1, found.2)
    ]

-- a text that has no variable of a name has no row of it
pub variable_there : (source name : List ℕ) (row : Row) → HasGlobal source name None → HasGlobal source name (Some row) → ⊥
variable_there source name row none some =
    let tables = told some.laid.facts.notes.items some.laid.facts.kinds.items in
    let other = told none.laid.facts.notes.items none.laid.facts.kinds.items in
    let same = same_tree source some.laid.tree none.laid.tree some.laid.checked.parsed none.laid.checked.parsed in
    let found = other_row tables other (variables_of true some.laid.tree.items) 0 0 row some.is.0 in
    let here = subst (λ (tree : ProgramTree). Contains (rows other tree.items) found.0) same found.1 in
    All-contains (λ (r : Row). r.name ≢ name) (rows other none.laid.tree.items) found.0 none.is here (found.2 ∙ some.is.1)
