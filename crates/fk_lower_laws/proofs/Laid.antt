-- Texts of few operations can be laid.
use Rattle.std.proofs.Common.{◌≡◌, List, [], ◌∷◌, length, refl, ap, arith, length-append}
use Rattle.fk_syntax.specs.Program.{FunctionTree, ItemTree}
use Rattle.fk_meaning_forms.specs.Code.{sites}
use Rattle.fk_meaning_forms.specs.Tables.{Tables}
use Rattle.fk_meaning_forms.specs.Program.{functions_of, sites_in}
use Rattle.fk_meaning_forms.proofs.Ranks.{counted}
use Rattle.fk_layout_walk.specs.declared.known.ProgramTables.{ProgramTables}
use Rattle.fk_layout_walk.specs.Known.{tables_of}
use Rattle.fk_layout_walk_statements.specs.Texts.{functions_in, code_in}
use Rattle.fk_lower_text.specs.Laid.{sizes}
use Rattle.fk_lower_text.proofs.Laying.{all_plain}
use Rattle.fk_lower_laws.specs.LoweringLaws.{TextsCanBeLaid}
use Rattle.fk_lower_laws.proofs.Bindings.{bindings_go_up}

-- a text has as many operations as sites
as_many : (known : ProgramTables) (fs : List FunctionTree) → sizes known fs ≡ length (sites_in (tables_of known) (functions_in known) fs)
as_many known [] = refl
as_many known (f ∷ fs) =
    omega (arith, counted (code_in known f), as_many known fs, length-append (sites (code_in known f)) (sites_in (tables_of known) (functions_in known) fs))

pub texts_can_be_laid : TextsCanBeLaid
texts_can_be_laid program facts known valid of fits whole =
    let count = λ (tables : Tables) (items : List ItemTree). length (sites_in tables (functions_of items) (functions_of items)) in
    let own = ap (λ (tables : Tables). count tables program.items) of.tables in
    let items = ap (λ (items : List ItemTree). count (tables_of known) items) of.items in
    let few = fits.sites in
    record {
      up = bindings_go_up program facts known valid of;
      plain = all_plain known (functions_in known) whole;
      few = omega (arith, few, own, items, as_many known (functions_in known));
    }
