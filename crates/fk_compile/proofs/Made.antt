-- The image that is put together of the code of a text's list.
use Rattle.std.proofs.Common.{◌≡◌, ℕ, ◌^◌, ◌<◌, ◌≤◌, true, List, [], ◌∷◌, All, Ok, IfOk, length, refl, sym, ap, subst, ◌∙◌, arith}
use Rattle.std.specs.Prelude.{Result, MatchResult, map, vec_len}
use Rattle.std.specs.declared.alloc.Global.{Global}
use Rattle.std.specs.declared.vec.Vec.{Vec}
use Rattle.std.specs.Result.{IsErrAnd}
use Rattle.std.proofs.lemmas.List.{length-map}
use Rattle.fk_syntax.specs.declared.facts.Facts.{Facts}
use Rattle.fk_syntax.specs.declared.place.Place.{Place}
use Rattle.fk_syntax.specs.Program.{ProgramTree}
use Rattle.fk_meaning_forms.specs.Program.{functions_of, sites_of}
use Rattle.fk_layout_globals.specs.Constants.{told}
use Rattle.fk_layout_globals.specs.Variables.{variables_of}
use Rattle.fk_layout_globals.proofs.Lengths.{length_of_words}
use Rattle.fk_layout.specs.Layout.{IsLayout, tables_by}
use Rattle.fk_layout.specs.Listing.{site}
use Rattle.fk_layout.specs.Refusal.{Fits}
use Rattle.fk_layout.specs.declared.layout.Layout.{Layout}
use Rattle.fk_layout.specs.declared.listed.Site.{Site}
use Rattle.fk_core.specs.declared.op.CoreOp.{CoreOp}
use Rattle.fk_image.specs.declared.Image.{Image}
use Rattle.fk_image.specs.Limits.{IsSite, IsCommit, Rise}
use Rattle.fk_asm.specs.Commits.{IsCommitTable}
use Rattle.fk_asm.specs.declared.code.Code.{Code}
use Rattle.fk_sim_block.specs.Node.{Gathering}
use Rattle.fk_sim_block.specs.Law.{GroupLaw}
use Rattle.fk_gen_list.specs.Cycles.{cycles_of}
use Rattle.fk_gen_list.specs.Laws.{nestings_of}
use Rattle.fk_gen_list.specs.Whole.{GivesGroupLaw}
use Rattle.fk_compile.specs.ListLaws.{StepsFindValues}
use Rattle.fk_sim_runs.specs.Follow.{CarriesTrees}
use Rattle.fk_core_levels.specs.Forks.{level_forks}
use Rattle.fk_core_levels.proofs.Lasts.{levels_tell_forks}
use Rattle.fk_core_levels.specs.Levels.{AreLevels}
use Rattle.fk_core_liveness.specs.declared.set.Set.{Set}
use Rattle.fk_core_liveness.specs.Live.{IsLeast, words_in}
use Rattle.fk_gen.specs.declared.placed.Levels.{Levels}
use Rattle.fk_lower_laws.specs.Certain.{HasFrames}
use Rattle.fk_gen_list.specs.Generable.{IsGenerable, GivesWholeCode, HasWholeCode, HasCode, places_in}
use Rattle.fk_compile_text.proofs.Parts.{kept as passed}
use Rattle.fk_compile.specs.Lists.{HasListOf, IsGrouped}
use Rattle.fk_compile.specs.Faithful.{in_image, in_table, words_by}
use Rattle.fk_compile.specs.Events.{TellsEventsOf}
use Rattle.fk_compile.proofs.Rooms.{all_levels, shrinks_deep, parts_deep}
use Rattle.fk_compile.proofs.Limits.{sites_fit, commits_fit, commits_rise}
use Rattle.fk_compile.proofs.Theorem.{IsCompiled}

-- what is so of the code of a list, of which the parts of a layout are handed over
pub gives_still : (Gives : List CoreOp → List Set → List Levels → (main : ℕ) → List ℕ → (globals : ℕ) → Code → Type 0) (core ops : List CoreOp) (kept kept' : List Set) (saved saved' : List Levels) (main : ℕ)
    (firsts given : List ℕ) (count globals : ℕ) (code : Code) → ops ≡ core → kept' ≡ kept → saved' ≡ saved → given ≡ firsts → globals ≡ count
    → Gives ops kept' saved' main given globals code → Gives core kept saved main firsts count code
gives_still Gives core ops kept kept' saved saved' main firsts given count globals code same_ops same_kept same_saved same_firsts same_count gives =
    let of_core = subst (λ (list : List CoreOp). Gives list kept' saved' main given globals code) same_ops gives in
    let with_kept = subst (λ (sets : List Set). Gives core sets saved' main given globals code) same_kept of_core in
    let with_saved = subst (λ (levels : List Levels). Gives core kept levels main given globals code) same_saved with_kept in
    subst (λ (n : ℕ). Gives core kept saved main firsts n code) same_count (subst (λ (ws : List ℕ). Gives core kept saved main ws globals code) same_firsts with_saved)

-- a list of which code is made
pub is_generable : (core ops : List CoreOp) (kept kept' : List Set) (saved saved' : List Levels) (main : ℕ) (firsts given : List ℕ) → ops ≡ core → kept' ≡ kept → saved' ≡ saved → given ≡ firsts
    → IsGenerable core kept saved main firsts → IsGenerable ops kept' saved' main given
is_generable core ops kept kept' saved saved' main firsts given same_ops same_kept same_saved same_firsts h =
    let with_firsts = subst (λ (ws : List ℕ). IsGenerable core kept saved main ws) (sym same_firsts) h in
    let with_saved = subst (λ (levels : List Levels). IsGenerable core kept levels main given) (sym same_saved) with_firsts in
    let with_kept = subst (λ (sets : List Set). IsGenerable core sets saved' main given) (sym same_kept) with_saved in
    subst (λ (list : List CoreOp). IsGenerable list kept' saved' main given) (sym same_ops) with_kept

-- the levels that are found for a list
pub are_levels : {E D : Type 0} (Q : E → D → Type 0) (core ops : List CoreOp) (r : Result (Vec Levels Global) E) (m : Result (Vec Levels Global) D) (saved : Vec Levels Global) → ops ≡ core
    → IfOk r (λ v. AreLevels ops v.items) → MatchResult r (λ x. m ≡ Ok x) (λ e. IsErrAnd m (Q e)) → m ≡ Ok saved → AreLevels core saved.items
are_levels Q core ops r m saved same levels cases was = subst (λ (list : List CoreOp). AreLevels list saved.items) same (passed _ Q r m saved levels cases was)

-- the sites of a layout, as an image has them
as_in_image : (all : List (ℕ × Place)) → map in_table (map site all) ≡ map in_image all
as_in_image [] = refl
as_in_image (s ∷ all) = ap (λ rest. in_image s ∷ rest) (as_in_image all)

module _ (program : ProgramTree) (facts : Facts) (layout : Layout) (laid : IsLayout program facts layout) (fits : Fits (tables_by program facts) program.items) where
  -- as many globals as a layout may have
  pub few_words : vec_len layout.words ≤ 524288
  few_words =
      let count : length layout.words.items ≡ length (words_by program facts) = ap (λ (ws : List ℕ). length ws) laid.words in
      let all = length_of_words (told facts.notes.items facts.kinds.items) (variables_of true program.items) in
      let few = fits.words in
      let held = layout.words.ok.0 in
      omega (arith, count, all, few, held)

  module _ (core : List CoreOp) (kept : List Set) (saved : List Levels) (main : ℕ) (code : Code) (image : Image) where
    -- what the code and the table of sites are, of which the image is put together
    pub record IsPutTogether : Type 0 where
      pub list : HasListOf (tables_by program facts) program core main
      pub grouped : IsGrouped core main (length layout.firsts.items)
      pub held : HasFrames core kept main (length layout.firsts.items)
      pub least : IsLeast core (words_in kept)
      pub levels : AreLevels core saved
      pub law : GivesGroupLaw core kept saved main layout.firsts.items (vec_len layout.words) code
      pub whole : GivesWholeCode core kept saved main layout.firsts.items (vec_len layout.words) code
      pub table : IsCommitTable (vec_len code.words) code.commits.items
      pub some : 1 ≤ vec_len code.words
      pub few : vec_len code.words ≤ 262144
      pub has_code : image.code ≡ code.words
      pub has_commits : image.commits ≡ code.commits
      pub has_globals : image.globals ≡ layout.words
      pub has_sites : image.sites.items ≡ map in_table layout.sites.items
      pub firsts_are_words : All (λ w. w < 2 ^ 32) layout.firsts.items
      pub globals_are_words : All (λ w. w < 2 ^ 32) layout.words.items

    module _ (p : IsPutTogether) where
      sites_are : image.sites.items ≡ map in_image (sites_of (tables_by program facts) program)
      sites_are =
          p.has_sites ∙ ap (λ (sites : List Site). map in_table sites) laid.sites
          ∙ as_in_image (sites_of (tables_by program facts) program)

      has : HasCode code (vec_len layout.words) image
      has = record {
        words = ap (λ v. v.items) p.has_code;
        commits = ap (λ v. v.items) p.has_commits;
        globals_of = let held = layout.words.ok.0 in let same = ap (λ v. length v.items) p.has_globals in omega (arith, held, same);
      }

      given : StepsFindValues → (block : (index : ℕ) → ℕ) × (start : Gathering)
          × GroupLaw core image (places_in core block p.held.frames) (nestings_of saved (level_forks core) start) (cycles_of core (vec_len layout.words) kept saved) layout.firsts.items main
      given values =
          p.law image p.held.frames has p.held.suits p.held.keeps p.held.of_file (values core p.grouped.can.enough) (level_forks core) (levels_tell_forks core saved p.levels)
          (λ block start. all_levels core main (length layout.firsts.items) kept p.grouped.can.steady.within.begins p.grouped.can.steady.within.leads p.held p.least saved p.levels
          (shrinks_deep core main p.grouped.can.nests) (parts_deep core main p.grouped.can.nests) start block)

      pub is_compiled : StepsFindValues → IsCompiled program facts core main image
      is_compiled values = let law = given values in record {
        list = p.list;
        places = places_in core law.0 p.held.frames;
        nestings = nestings_of saved (level_forks core) law.1;
        cycles = cycles_of core (vec_len layout.words) kept saved;
        carries =
            subst
            (λ (firsts : List ℕ).
            CarriesTrees core main firsts (places_in core law.0 p.held.frames) (nestings_of saved (level_forks core) law.1) (cycles_of core (vec_len layout.words) kept saved) image)
            laid.firsts
            (record {
              tree = p.grouped.tree saved p.levels law.1;
              blocks = law.2;
              firsts_are_words = p.firsts_are_words;
              globals_are_words = subst (λ v. All (λ w. w < 2 ^ 32) v.items) (sym p.has_globals) p.globals_are_words;
            });
        limits = record {
          some_code = let same = ap (λ v. vec_len v) p.has_code in omega (arith, same, p.some);
          code = let same = ap (λ v. vec_len v) p.has_code in omega (arith, same, p.few);
          globals = let same = ap (λ v. vec_len v) p.has_globals in omega (arith, same, few_words);
          few_sites =
              let held = image.sites.ok.0 in
              let same = ap (λ (sites : List (ℕ × ℕ × ℕ)). length sites) sites_are in
              let all = length-map (sites_of (tables_by program facts) program) in_image in
              omega (arith, held, same, all, fits.sites);
          sites = subst (All IsSite) (sym sites_are) (sites_fit (tables_by program facts) (functions_of program.items) (functions_of program.items));
          commits =
              subst (λ v. All (IsCommit (vec_len image.code)) v.items) (sym p.has_commits)
              (subst (λ v. All (IsCommit (vec_len v)) code.commits.items) (sym p.has_code) (commits_fit (vec_len code.words) code.commits.items p.table));
          rise = subst (λ v. Rise v.items) (sym p.has_commits) (commits_rise code.commits.items p.table.rise);
        };
        sites_are = sites_are;
        globals_are = ap (λ v. v.items) p.has_globals ∙ laid.words;
      }

      pub tells_events : TellsEventsOf program facts image
      tells_events = let all = p.whole image p.held.frames has p.held.of_file in record {
        core = core;
        main = main;
        list = p.list;
        kept = kept;
        saved = saved;
        bound = all.1.0;
        places = places_in core all.0 p.held.frames;
        code =
            subst (λ (firsts : List ℕ). HasWholeCode core kept saved image all.1.0 (places_in core all.0 p.held.frames) firsts main) laid.firsts
            all.1.1.0;
        events = all.1.1.1;
      }
