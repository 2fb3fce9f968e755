-- What is told of the tokens, the marks and the references of an expression is told of it as a tree.
use Rattle.std.proofs.Common.{◌≡◌, ℕ, true, List, ◌++◌, Option, Some, None, refl, subst}
use Rattle.std.proofs.lemmas.Bool.{false≢true}
use Rattle.fk_syntax.specs.declared.place.Spot.{Spot}
use Rattle.fk_syntax.specs.declared.sign.Sign.{Sign}
use Rattle.fk_syntax.specs.declared.sign.Sign.TheVariants as g
use Rattle.fk_syntax.specs.Tree as t
use Rattle.fk_syntax.specs.Tree.{Named, Tree, Links, Trees, Suffixes}
use Rattle.fk_types_names.specs.Outline.{MarkTree, Uses, tree_marks, links_marks, trees_marks, suffixes_marks, optional_marks}
use Rattle.fk_types_references.specs.References.{ReferenceTree, Name, main_token, tree_references, links_references, trees_references, suffixes_references, optional_references}
use Rattle.fk_regions.specs.declared.around.Holder.{Holder}
use Rattle.fk_regions.specs.declared.token.Word.{Word}
use Rattle.fk_regions.specs.declared.token.Word.TheVariants as w
use Rattle.fk_regions.specs.Tokens.{TokenIn, token_in, spot_of, spelling_of, word_of_sign, tree_tokens, links_tokens, trees_tokens, suffixes_tokens, optional_tokens}
use Rattle.fk_lockstep.specs.Told.{is_logical, Told, LinksTold, SuffixesTold, AllTold, OptionTold}
use Rattle.fk_check_laws.proofs.Each.{Each, front_of, rest_of}

logical_word : (sign : Sign) → is_logical sign ≡ true → word_of_sign sign ≡ w.Branching
logical_word g.AndAnd e = refl
logical_word g.OrOr e = refl
logical_word sign e = absurd (false≢true e)

module _ (T : TokenIn (List Holder) → Type 0) (M : MarkTree → Type 0) (R : ReferenceTree → Type 0) (around : List Holder) (Decides : (at : ℕ) → Type 0) (Means : Named → Type 0)
    (decides : (spot : Spot) → T (token_in around spot w.Branching) → Decides spot.at)
    (means : (name : Named) → T (token_in around (spot_of name) (w.Name (spelling_of name.bytes))) → M (Uses name) → R (Name name) → Means name) where
  mutual
    pub told : (x : Tree) → Each T (tree_tokens around x) → Each M (tree_marks x) → Each R (tree_references x) → Told Decides Means x
    told (t.Number spot value unsigned) a b c = tt
    told (t.Puts spot text) a b c = tt
    told (t.Sizeof spot type) a b c = tt
    told (t.Variable name) a b c = means name a.0 b.0 c.0
    told (t.GroupNumber spot) a b c = tt
    told (t.GroupRank spot) a b c = tt
    told (t.Prefix spot sign operand) a b c = told operand a.1 b c
    told (t.Cast spot type operand) a b c = told operand a.1 b c
    told (t.Chain first links) a b c = (
      told first (front_of T (tree_tokens around first) (links_tokens around links) a) (front_of M (tree_marks first) (links_marks links) b)
          (front_of R (tree_references first) (links_references links) c),
      told_links links (rest_of T (tree_tokens around first) (links_tokens around links) a) (rest_of M (tree_marks first) (links_marks links) b)
          (rest_of R (tree_references first) (links_references links) c),
    )
    told (t.Postfix whole suffixes) a b c = (
      told whole (front_of T (tree_tokens around whole) (suffixes_tokens around suffixes) a) (front_of M (tree_marks whole) (suffixes_marks suffixes) b)
          (front_of R (tree_references whole) (suffixes_references (main_token whole) suffixes) c),
      told_suffixes (main_token whole) suffixes (rest_of T (tree_tokens around whole) (suffixes_tokens around suffixes) a) (rest_of M (tree_marks whole) (suffixes_marks suffixes) b)
          (rest_of R (tree_references whole) (suffixes_references (main_token whole) suffixes) c),
    )
    told (t.Assign spot sign target value) a b c = (
      told target (front_of T (tree_tokens around target) (tree_tokens around value) a.1) (front_of M (tree_marks target) (tree_marks value) b)
          (front_of R (tree_references target) (tree_references value) c),
      told value (rest_of T (tree_tokens around target) (tree_tokens around value) a.1) (rest_of M (tree_marks target) (tree_marks value) b)
          (rest_of R (tree_references target) (tree_references value) c),
    )
    told (t.Choose spot condition first second) a b c =
        let a' = front_of T (tree_tokens around condition ++ tree_tokens around first) (tree_tokens around second) a.1 in
        let b' = front_of M (tree_marks condition ++ tree_marks first) (tree_marks second) b in
        let c' = front_of R (tree_references condition ++ tree_references first) (tree_references second) c in (
          decides spot a.0,
          told condition (front_of T (tree_tokens around condition) (tree_tokens around first) a') (front_of M (tree_marks condition) (tree_marks first) b')
              (front_of R (tree_references condition) (tree_references first) c'),
          told first (rest_of T (tree_tokens around condition) (tree_tokens around first) a') (rest_of M (tree_marks condition) (tree_marks first) b')
              (rest_of R (tree_references condition) (tree_references first) c'),
          told second (rest_of T (tree_tokens around condition ++ tree_tokens around first) (tree_tokens around second) a.1)
              (rest_of M (tree_marks condition ++ tree_marks first) (tree_marks second) b) (rest_of R (tree_references condition ++ tree_references first) (tree_references second) c),
        )

    told_links : (x : Links) → Each T (links_tokens around x) → Each M (links_marks x) → Each R (links_references x) → LinksTold Decides Means x
    told_links t.no_links a b c = tt
    told_links (t.link spot sign right others) a b c = (
      (λ e. decides spot (subst (λ (word : Word). T (token_in around spot word)) (logical_word sign e) a.0)),
      told right (front_of T (tree_tokens around right) (links_tokens around others) a.1) (front_of M (tree_marks right) (links_marks others) b)
          (front_of R (tree_references right) (links_references others) c),
      told_links others (rest_of T (tree_tokens around right) (links_tokens around others) a.1) (rest_of M (tree_marks right) (links_marks others) b)
          (rest_of R (tree_references right) (links_references others) c),
    )

    told_all : (x : Trees) → Each T (trees_tokens around x) → Each M (trees_marks x) → Each R (trees_references x) → AllTold Decides Means x
    told_all t.no_trees a b c = tt
    told_all (t.tree first others) a b c = (
      told first (front_of T (tree_tokens around first) (trees_tokens around others) a) (front_of M (tree_marks first) (trees_marks others) b)
          (front_of R (tree_references first) (trees_references others) c),
      told_all others (rest_of T (tree_tokens around first) (trees_tokens around others) a) (rest_of M (tree_marks first) (trees_marks others) b)
          (rest_of R (tree_references first) (trees_references others) c),
    )

    told_suffixes : (whole : ℕ) (x : Suffixes) → Each T (suffixes_tokens around x) → Each M (suffixes_marks x) → Each R (suffixes_references whole x) → SuffixesTold Decides Means x
    told_suffixes whole t.no_suffixes a b c = tt
    told_suffixes whole (t.index spot by others) a b c = (
      told by (front_of T (tree_tokens around by) (suffixes_tokens around others) a.1) (front_of M (tree_marks by) (suffixes_marks others) b)
          (front_of R (tree_references by) (suffixes_references spot.at others) c),
      told_suffixes spot.at others (rest_of T (tree_tokens around by) (suffixes_tokens around others) a.1) (rest_of M (tree_marks by) (suffixes_marks others) b)
          (rest_of R (tree_references by) (suffixes_references spot.at others) c),
    )
    told_suffixes whole (t.call spot arguments others) a b c = (
      told_all arguments (front_of T (trees_tokens around arguments) (suffixes_tokens around others) a.1) (front_of M (trees_marks arguments) (suffixes_marks others) b)
          (front_of R (trees_references arguments) (suffixes_references spot.at others) c),
      told_suffixes spot.at others (rest_of T (trees_tokens around arguments) (suffixes_tokens around others) a.1) (rest_of M (trees_marks arguments) (suffixes_marks others) b)
          (rest_of R (trees_references arguments) (suffixes_references spot.at others) c),
    )
    told_suffixes whole (t.dot spot member others) a b c = told_suffixes spot.at others a.1.1 b c.1
    told_suffixes whole (t.arrow spot member others) a b c = told_suffixes spot.at others a.1.1 b c.1
    told_suffixes whole (t.up spot others) a b c = told_suffixes spot.at others a.1 b c
    told_suffixes whole (t.down spot others) a b c = told_suffixes spot.at others a.1 b c

  pub told_option : (x : Option Tree) → Each T (optional_tokens around x) → Each M (optional_marks x) → Each R (optional_references x) → OptionTold Decides Means x
  told_option None a b c = tt
  told_option (Some x) a b c = told x a b c
