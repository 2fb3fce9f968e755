use Rattle.std.proofs.Common.{◌≡◌, ℕ, List, Option, Some, None, Result, Ok, Err, map, sym, ap, subst, inl, inr, ◌⊎◌}
use Rattle.std.specs.Prelude.{IfOk, option_map}
use Rattle.std.specs.declared.alloc.AllocError.{AllocError}
use Rattle.fk_image.specs.declared.Image.{Image}
use Rattle.fk_top_words.specs.Arguments.{Text}
use Rattle.fk_layout_globals.specs.declared.rows.GlobalRow.{GlobalRow}
use Rattle.fk_layout_globals.specs.Rows.{Row}
use Rattle.fk_layout_globals.specs.View.{row_of}
use Rattle.fk_compile_text.specs.Text.{HasGlobal, IsRowOf}
use Rattle.fk_compile_text.proofs.Shared.{global_of, row_few}
use Rattle.fk_compile.specs.Faithful.{IsFaithful}
use Rattle.fk_top.specs.declared.ending.Ending.{Ending}
use Rattle.fk_top.specs.Ending.{outcome_of}
use Rattle.fk_top.specs.Outcome.{Prints, EndsOn, LacksGlobal, RunsSource, IsShown}
use Rattle.fk_top.proofs.source.run_and_show.Goals as goal

-- what comes of an image of a source comes of the source
runs : (r : Result Ending AllocError) (source text : List ℕ) (image : Image) (p n : ℕ) (show asked : Option Text) (shown : Option Row) → show ≡ asked → IsFaithful source image → IsShown source asked shown
    → IfOk r (λ e. EndsOn image text p n (Prints shown) (outcome_of e)) → IfOk r (λ e. LacksGlobal source show (outcome_of e) ⊎ RunsSource source text p n show (outcome_of e))
runs (Ok e) source text image p n show asked shown same compiled is ends =
    inr (record { image = image; compiled = compiled; shown = shown; is_shown = subst (λ (s : Option Text). IsShown source s shown) (sym same) is; ends = ends })
runs (Err e) source text image p n show asked shown same compiled is ends = tt

-- the row of a variable has its name
called : (source name : List ℕ) (row : Row) → HasGlobal source name (Some row) → HasGlobal source name (Some (record { name = name; first = row.first; words = row.words; signed = row.signed }))
called source name row has =
    subst (λ (n : List ℕ). HasGlobal source name (Some (record { name = n; first = row.first; words = row.words; signed = row.signed }))) has.is.1 has

-- what is found among the rows, which are passed as a slice, with a name that is passed as bytes
found : (rows list : List GlobalRow) (bytes name : List ℕ) (row : Option GlobalRow) → list ≡ rows → bytes ≡ name
    → IsRowOf (map row_of list) bytes (option_map row_of row) → IsRowOf (map row_of rows) name (option_map row_of row)
found rows list bytes name row same_rows same_name is =
    subst (λ (n : List ℕ). IsRowOf (map row_of rows) n (option_map row_of row)) same_name
    (subst (λ (rs : List GlobalRow). IsRowOf (map row_of rs) bytes (option_map row_of row)) same_rows is)

pub returns-in_default : goal.returns-in_default
returns-in_default c = λ source faithful rows.
    runs c.run_ending.result source c.args.text.now c.args.compiled.image _ _ _ None None (ap (option_map (λ s. s.now)) c.in_default.is) faithful tt c.run_ending.ensures

pub invariant_of-variable : goal.invariant_of-variable
invariant_of-variable c =
    let rows = c.args.compiled.rows.items in
    let name = c.in-Some.name.now in
    let row = c.in-Some-find_global.row in
    record {
      few = row_few c.requires.rows.0 name rows c.requires.rows.1 (Some row)
          (found rows c.deref.result.now c.as_bytes.result.now name (Some row) c.deref.ensures.value c.as_bytes.ensures.value c.in-Some-find_global.ensures);
    }

pub returns-in-Some-find_global : goal.returns-in-Some-find_global
returns-in-Some-find_global c = λ source faithful has.
    let rows = c.args.compiled.rows.items in
    let name = c.in-Some.name.now in
    let row = c.in-Some-find_global.row in
    let is = found rows c.deref.result.now c.as_bytes.result.now name (Some row) c.deref.ensures.value c.as_bytes.ensures.value c.in-Some-find_global.ensures in
    runs c.run_ending-in-Some-find_global.result source c.args.text.now c.args.compiled.image _ _ _ (Some name)
    (Some (record { name = name; first = row.first; words = row.words; signed = row.signed }))
    (ap (option_map (λ s. s.now)) c.in-Some.is) faithful (called source name (row_of row) (global_of source name rows has (Some row) is)) c.run_ending-in-Some-find_global.ensures

pub returns : goal.returns
returns c = λ source faithful has.
    let rows = c.args.compiled.rows.items in
    let name = c.in-Some.name.now in
    inl (record {
      name = name;
      asked = ap (option_map (λ s. s.now)) c.in-Some.is;
      short = faithful.short;
      none = global_of source name rows has None (found rows c.deref.result.now c.as_bytes.result.now name None c.deref.ensures.value c.as_bytes.ensures.value c.in-None.ensures);
      is = c.no_global.ensures;
    })
