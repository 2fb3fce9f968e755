use Rattle.std.proofs.lemmas.List.{at_drop_all}
use Rattle.std.proofs.Common.{◌≡◌, ◌+◌, false, slice_get, [], ◌++◌, map, refl, sym, ap, subst, ◌∙◌}
use Rattle.fk_syntax.specs.Tree as x
use Rattle.fk_syntax.specs.Tree.{links_of, suffixes_of, trees_of}
use Rattle.fk_syntax.specs.View.{named, type_of, tree_of, link_of, suffix_of}
use Rattle.fk_syntax.proofs.Views.{tree_of-Number, tree_of-Puts, tree_of-Sizeof, tree_of-Named, tree_of-GroupNumber, tree_of-GroupRank, tree_of-Prefix, tree_of-Cast, tree_of-Chain, tree_of-Postfix, tree_of-Assign, tree_of-Choose, suffix_of-Index, suffix_of-Call, suffix_of-Dot, suffix_of-Arrow, suffix_of-Up, suffix_of-Down}
use Rattle.fk_types_judgments.specs.Term as m
use Rattle.fk_types_judgments.specs.Term.{Term, Terms, term_of, with_links, with_suffixes, with_arguments, count_of}
use Rattle.fk_types_judgments.specs.Typing.{noted, all_noted, parameters_of}
use Rattle.fk_types_forms.specs.Scope.{meant_of, env_in}
use Rattle.fk_types_expressions.specs.Read.{IsRead}
use Rattle.fk_types_expressions.proofs.ReadLemmas.{notes-two, read-more, read-tree, read-suffix, link-step, suffix-step, argument-step, noted-prefix, noted-joined}
use Rattle.fk_types_forms.proofs.PartLemmas.{both-same, three-same}
use Rattle.fk_types_expressions.proofs.walk.+expression.Goals as goal

pub expression-returns-in-Number : goal.expression-returns-in-Number
expression-returns-in-Number t c = read-tree (env_in c.args.scope.now) _ (x.Number c.in-Number.spot c.in-Number.value c.in-Number.unsigned) (m.Number c.in-Number.spot c.in-Number.value c.in-Number.unsigned) _ [] _ _ _ _ _ (ap tree_of c.in-Number.is ∙ tree_of-Number _ _ _) refl refl (c.number.ensures (env_in c.args.scope.now)) c.keep.ensures.same c.keep.ensures.types refl

pub expression-returns-in-Puts : goal.expression-returns-in-Puts
expression-returns-in-Puts t c = read-tree (env_in c.args.scope.now) _ (x.Puts c.in-Puts.spot c.in-Puts.field-1.now) (m.Puts c.in-Puts.spot) _ [] _ _ _ _ _ (ap tree_of c.in-Puts.is ∙ tree_of-Puts _ _) refl refl (c.puts.ensures (env_in c.args.scope.now)) c.keep-in-Puts.ensures.same c.keep-in-Puts.ensures.types refl

pub expression-returns-in-Sizeof : goal.expression-returns-in-Sizeof
expression-returns-in-Sizeof t c = read-tree (env_in c.args.scope.now) _ (x.Sizeof c.in-Sizeof.spot (type_of c.in-Sizeof.kind)) (m.Sizeof c.in-Sizeof.spot (type_of c.in-Sizeof.kind)) _ [] _ _ _ _ _ (ap tree_of c.in-Sizeof.is ∙ tree_of-Sizeof _ _) refl refl c.size.ensures c.keep-in-Sizeof.ensures.same c.keep-in-Sizeof.ensures.types refl

pub expression-returns-in-Named : goal.expression-returns-in-Named
expression-returns-in-Named t c = read-tree (env_in c.args.scope.now) _ (x.Variable (named c.in-Named.named)) (m.Use (named c.in-Named.named)) _ [] _ _ _ _ _ (ap tree_of c.in-Named.is ∙ tree_of-Named _) refl refl c.name.ensures c.keep-in-Named.ensures.same c.keep-in-Named.ensures.types refl

pub expression-returns-in-GroupNumber : goal.expression-returns-in-GroupNumber
expression-returns-in-GroupNumber t c = read-tree (env_in c.args.scope.now) _ (x.GroupNumber c.in-GroupNumber.spot) (m.GroupNumber c.in-GroupNumber.spot) _ [] _ _ _ _ _ (ap tree_of c.in-GroupNumber.is ∙ tree_of-GroupNumber _) refl refl (c.group_number.ensures.number (env_in c.args.scope.now)) c.keep-in-GroupNumber.ensures.same c.keep-in-GroupNumber.ensures.types refl

pub expression-returns-in-GroupRank : goal.expression-returns-in-GroupRank
expression-returns-in-GroupRank t c = read-tree (env_in c.args.scope.now) _ (x.GroupRank c.in-GroupRank.spot) (m.GroupRank c.in-GroupRank.spot) _ [] _ _ _ _ _ (ap tree_of c.in-GroupRank.is ∙ tree_of-GroupRank _) refl refl (c.group_number-in-GroupRank.ensures.rank (env_in c.args.scope.now)) c.keep-in-GroupRank.ensures.same c.keep-in-GroupRank.ensures.types refl

pub expression-returns-in-Prefix : goal.expression-returns-in-Prefix
expression-returns-in-Prefix t c =
    let E = env_in c.args.scope.now in
    let spot = c.in-Prefix.spot in
    let sign = c.in-Prefix.sign in
    let r = c.expression-operand.ensures in
    let d : c.deref.result.now ≡ c.in-Prefix.operand.value = cc in
    let u = term_of (tree_of c.deref.result.now) in
    read-tree E _ (x.Prefix spot sign (tree_of c.deref.result.now)) (m.prefix_term spot sign u) _ (noted E u) _ _ _ _ _
    (ap tree_of c.in-Prefix.is ∙ tree_of-Prefix spot sign c.in-Prefix.operand ∙ ap (λ v. x.Prefix spot sign (tree_of v)) (sym d)) refl
    r.types (c.prefix.ensures E u r.is) c.keep-in-Prefix.ensures.same c.keep-in-Prefix.ensures.types (noted-prefix E spot sign u)

pub expression-returns-in-Cast : goal.expression-returns-in-Cast
expression-returns-in-Cast t c =
    let E = env_in c.args.scope.now in
    let spot = c.in-Cast.spot in
    let type = type_of c.in-Cast.kind in
    let r = c.expression-operand-in-Cast.ensures in
    let d : c.deref-in-Cast.result.now ≡ c.in-Cast.operand.value = cc in
    let u = term_of (tree_of c.deref-in-Cast.result.now) in
    read-tree E _ (x.Cast spot type (tree_of c.deref-in-Cast.result.now)) (m.Cast spot type u) _ (noted E u) _ _ _ _ _
    (ap tree_of c.in-Cast.is ∙ tree_of-Cast spot c.in-Cast.kind c.in-Cast.operand ∙ ap (λ v. x.Cast spot type (tree_of v)) (sym d)) refl
    r.types (c.cast.ensures u r.is) c.keep-in-Cast.ensures.same c.keep-in-Cast.ensures.types refl

pub expression-returns-in-Assign : goal.expression-returns-in-Assign
expression-returns-in-Assign t c =
    let E = env_in c.args.scope.now in
    let spot = c.in-Assign.spot in
    let sign = c.in-Assign.sign in
    let rp = c.expression-place.ensures in
    let rv = c.expression-value.ensures in
    let dp : c.deref-in-Assign.result.now ≡ c.in-Assign.place.value = cc in
    let dv : c.deref-in-Assign-2.result.now ≡ c.in-Assign.value.value = cc in
    let p = term_of (tree_of c.deref-in-Assign.result.now) in
    let v = term_of (tree_of c.deref-in-Assign-2.result.now) in
    read-tree E _ (x.Assign spot sign (tree_of c.deref-in-Assign.result.now) (tree_of c.deref-in-Assign-2.result.now)) (m.Assign spot sign p v) _ (noted E p ++ noted E v) _ _ _ _ _
    (ap tree_of c.in-Assign.is ∙ tree_of-Assign spot sign c.in-Assign.place c.in-Assign.value ∙ both-same (λ a b. x.Assign spot sign (tree_of a) (tree_of b)) _ _ _ _ (sym dp) (sym dv)) refl
    (notes-two c.args.types.now _ _ (noted E p) (noted E v) rp.types rv.types) (c.assign.ensures E p v rp.is rv.is) c.keep-in-Assign.ensures.same c.keep-in-Assign.ensures.types refl

pub expression-returns-in-Choose : goal.expression-returns-in-Choose
expression-returns-in-Choose t c =
    let E = env_in c.args.scope.now in
    let spot = c.in-Choose.spot in
    let ra = c.expression-condition.ensures in
    let rb = c.expression-first-in-Choose.ensures in
    let rd = c.expression-second.ensures in
    let da : c.deref-in-Choose.result.now ≡ c.in-Choose.condition.value = cc in
    let db : c.deref-in-Choose-2.result.now ≡ c.in-Choose.first.value = cc in
    let dd : c.deref-in-Choose-3.result.now ≡ c.in-Choose.second.value = cc in
    let a = term_of (tree_of c.deref-in-Choose.result.now) in
    let b = term_of (tree_of c.deref-in-Choose-2.result.now) in
    let d = term_of (tree_of c.deref-in-Choose-3.result.now) in
    read-tree E _ (x.Choose spot (tree_of c.deref-in-Choose.result.now) (tree_of c.deref-in-Choose-2.result.now) (tree_of c.deref-in-Choose-3.result.now)) (m.Choose spot a b d) _ (noted E a ++ noted E b ++ noted E d) _ _ _ _ _
    (ap tree_of c.in-Choose.is ∙ tree_of-Choose spot c.in-Choose.condition c.in-Choose.first c.in-Choose.second
    ∙ three-same (λ p q r. x.Choose spot (tree_of p) (tree_of q) (tree_of r)) _ _ _ _ _ _ (sym da) (sym db) (sym dd)) refl
    (notes-two c.args.types.now _ _ (noted E a ++ noted E b) (noted E d) (notes-two c.args.types.now _ _ (noted E a) (noted E b) ra.types rb.types) rd.types) (c.choose.ensures E a b d ra.is rb.is rd.is) c.keep-in-Choose.ensures.same c.keep-in-Choose.ensures.types refl

pub expression-returns-in-Chain : goal.expression-returns-in-Chain
expression-returns-in-Chain t c =
    let E = env_in c.args.scope.now in
    let df : c.deref-in-Chain.result.now ≡ c.in-Chain.first.value = cc in
    let dl : c.deref-in-Chain-2.result.now ≡ c.in-Chain.links.items = cc in
    subst (λ v. IsRead E v c.args.types.now c.chain.new.types c.chain.result)
    (both-same (λ a b. with_links (term_of (tree_of a)) (links_of (map link_of b))) _ _ _ _ df dl
    ∙ sym (ap term_of (ap tree_of c.in-Chain.is ∙ tree_of-Chain c.in-Chain.first c.in-Chain.links)))
    (c.chain.ensures c.args.types.now (term_of (tree_of c.deref-in-Chain.result.now)) c.expression-first.ensures)

pub expression-returns-in-Postfix : goal.expression-returns-in-Postfix
expression-returns-in-Postfix t c =
    let E = env_in c.args.scope.now in
    let df : c.deref-in-Postfix.result.now ≡ c.in-Postfix.whole.value = cc in
    let dl : c.deref-in-Postfix-2.result.now ≡ c.in-Postfix.suffixes.items = cc in
    subst (λ v. IsRead E v c.args.types.now c.postfix.new.types c.postfix.result)
    (both-same (λ a b. with_suffixes (term_of (tree_of a)) (suffixes_of (map suffix_of b))) _ _ _ _ df dl
    ∙ sym (ap term_of (ap tree_of c.in-Postfix.is ∙ tree_of-Postfix c.in-Postfix.whole c.in-Postfix.suffixes)))
    (c.postfix.ensures c.args.types.now (term_of (tree_of c.deref-in-Postfix.result.now)) c.expression-whole.ensures)

pub with_link-returns : goal.with_link-returns
with_link-returns t c = λ start u is.
    let E = env_in c.args.scope.now in
    let r = c.expression-right.ensures in
    let v = term_of (tree_of c.args.link.now.right) in
    read-more E (m.joined_term c.args.link.now.spot c.args.link.now.sign u v) c.args.link.now.spot.at (noted E u ++ noted E v) start _ _ _ _
    (notes-two start _ _ (noted E u) (noted E v) is.types r.types) (c.with_sign.ensures E u v is.is r.is) c.keep.ensures.same c.keep.ensures.types (noted-joined E c.args.link.now.spot c.args.link.now.sign u v)

pub chain-loop-link-init : goal.chain-loop-link-init
chain-loop-link-init t c = λ start u is. (u, is, refl)

pub chain-loop-link-preserved : goal.chain-loop-link-preserved
chain-loop-link-preserved t c = λ start u is.
    let h = c.loop-link.invariant start u is in
    let link = c.link-item.result in (
      m.joined_term link.spot link.sign h.0 (term_of (tree_of link.right)),
      c.with_link-before.ensures start h.0 h.1,
      sym (link-step c.args.links.now c.loop-link.link-index link h.0 c.loop-link-test.true c.link-item.is) ∙ h.2,
    )

pub chain-returns : goal.chain-returns
chain-returns t c = λ start u is.
    let h = c.loop-link.invariant start u is in
    subst (λ v. IsRead (env_in c.args.scope.now) v start c.loop-link.types c.loop-link.before)
    (sym (at_drop_all (λ ls. with_links h.0 (links_of (map link_of ls))) c.args.links.now c.loop-link.link-index c.loop-link-test.false) ∙ h.2) h.1

pub postfix-loop-after-init : goal.postfix-loop-after-init
postfix-loop-after-init t c = λ start u is. (u, is, refl)

pub postfix-loop-after-preserved : goal.postfix-loop-after-preserved
postfix-loop-after-preserved t c = λ start u is.
    let h = c.loop-after.invariant start u is in
    let after = c.after-item.result in (
      with_suffixes h.0 (x.suffix (suffix_of after) x.no_suffixes),
      c.with_suffix-before.ensures start h.0 h.1,
      sym (suffix-step c.args.suffixes.now c.loop-after.after-index after h.0 c.loop-after-test.true c.after-item.is) ∙ h.2,
    )

pub postfix-returns : goal.postfix-returns
postfix-returns t c = λ start u is.
    let h = c.loop-after.invariant start u is in
    subst (λ v. IsRead (env_in c.args.scope.now) v start c.loop-after.types c.loop-after.before)
    (sym (at_drop_all (λ ls. with_suffixes h.0 (suffixes_of (map suffix_of ls))) c.args.suffixes.now c.loop-after.after-index c.loop-after-test.false) ∙ h.2) h.1

pub with_argument-returns : goal.with_argument-returns
with_argument-returns t c = λ start ps ts known fits.
    let r = c.expression-last.ensures in
    record {
      are = c.also.ensures (env_in c.args.scope.now) ps ts (term_of (tree_of c.args.argument.now)) known.are r.is fits;
      types = notes-two start _ _ (all_noted (env_in c.args.scope.now) ts) (noted (env_in c.args.scope.now) (term_of (tree_of c.args.argument.now))) known.types r.types;
    }

pub arguments-loop-index-init : goal.arguments-loop-index-init
arguments-loop-index-init t c = (
  m.no_terms,
  record { are = c.no_arguments-known.ensures (env_in c.args.scope.now) (parameters_of (meant_of c.args.thing)); types = refl },
  refl,
  refl,
)

pub arguments-loop-index-preserved : goal.arguments-loop-index-preserved
arguments-loop-index-preserved t c =
    let h = c.loop-index.invariant in
    let ps = parameters_of (meant_of c.args.thing) in
    let last = c.index-given-index.result in (
      m.also h.0 (term_of (tree_of last)),
      c.with_argument-known.ensures c.args.types.now ps h.0 h.1 (c.parameter.ensures ∙ ap (slice_get ps) h.2),
      ap (λ n. n + 1) h.2,
      sym (argument-step c.args.given.now c.loop-index.index last h.0 c.loop-index-test.true c.index-given-index.is) ∙ h.3,
    )

pub with_suffix-returns-in-Index : goal.with_suffix-returns-in-Index
with_suffix-returns-in-Index t c = λ start u is.
    let E = env_in c.args.scope.now in
    let spot = c.in-Index.spot in
    let r = c.expression-by.ensures in
    let v = term_of (tree_of c.in-Index.by) in
    read-suffix E u _ (x.Index spot (tree_of c.in-Index.by)) (m.Index spot u v) _ (noted E u ++ noted E v) start _ _ _ _
    (ap suffix_of c.in-Index.is ∙ suffix_of-Index spot c.in-Index.by) refl
    (notes-two start _ _ (noted E u) (noted E v) is.types r.types) (c.index.ensures E u v is.is r.is) c.keep.ensures.same c.keep.ensures.types refl

pub with_suffix-returns-in-Call : goal.with_suffix-returns-in-Call
with_suffix-returns-in-Call t c = λ start u is.
    let E = env_in c.args.scope.now in
    let spot = c.in-Call.spot in
    let given = c.deref.result.now in
    let d : given ≡ c.in-Call.given.items = c.deref.ensures.value in
    let ts = with_arguments m.no_terms (trees_of (map tree_of given)) in
    let r = c.arguments-known.ensures.read in
    let count : c.len.result ≡ count_of ts = c.len.ensures ∙ sym c.deref.ensures.len ∙ c.arguments-known.ensures.count in
    read-suffix E u _ (x.Call spot (trees_of (map tree_of given))) (m.Call spot u ts) _ (noted E u ++ all_noted E ts) start _ _ _ _
    (ap suffix_of c.in-Call.is ∙ suffix_of-Call spot c.in-Call.given ∙ ap (λ v. x.Call spot (trees_of (map tree_of v))) (sym d)) refl
    (notes-two start _ _ (noted E u) (all_noted E ts) is.types r.types) (c.call.ensures E u ts is.is (c.called-thing.ensures u is.is) count r.are) c.keep-in-Call.ensures.same c.keep-in-Call.ensures.types refl

pub with_suffix-returns-in-Dot : goal.with_suffix-returns-in-Dot
with_suffix-returns-in-Dot t c = λ start u is.
    let E = env_in c.args.scope.now in
    read-suffix E u _ (x.Dot c.in-Dot.spot (named c.in-Dot.named)) (m.Member c.in-Dot.spot u (named c.in-Dot.named)) _ (noted E u) start _ _ _ _
    (ap suffix_of c.in-Dot.is ∙ suffix_of-Dot c.in-Dot.spot c.in-Dot.named) refl
    is.types (c.member.ensures u is.is) c.keep-in-Dot.ensures.same c.keep-in-Dot.ensures.types refl

pub with_suffix-returns-in-Arrow : goal.with_suffix-returns-in-Arrow
with_suffix-returns-in-Arrow t c = λ start u is.
    let E = env_in c.args.scope.now in
    read-suffix E u _ (x.Arrow c.in-Arrow.spot (named c.in-Arrow.named)) (m.Through c.in-Arrow.spot u (named c.in-Arrow.named)) _ (noted E u) start _ _ _ _
    (ap suffix_of c.in-Arrow.is ∙ suffix_of-Arrow c.in-Arrow.spot c.in-Arrow.named) refl
    is.types (c.through.ensures u is.is) c.keep-in-Arrow.ensures.same c.keep-in-Arrow.ensures.types refl

pub with_suffix-returns-in-Up : goal.with_suffix-returns-in-Up
with_suffix-returns-in-Up t c = λ start u is.
    let E = env_in c.args.scope.now in
    read-suffix E u _ (x.Up c.in-Up.spot) (m.Count c.in-Up.spot false u) _ (noted E u) start _ _ _ _
    (ap suffix_of c.in-Up.is ∙ suffix_of-Up c.in-Up.spot) refl
    is.types (c.counted_after.ensures E u is.is) c.keep-in-Up.ensures.same c.keep-in-Up.ensures.types refl

pub with_suffix-returns-in-Down : goal.with_suffix-returns-in-Down
with_suffix-returns-in-Down t c = λ start u is.
    let E = env_in c.args.scope.now in
    read-suffix E u _ (x.Down c.in-Down.spot) (m.Count c.in-Down.spot false u) _ (noted E u) start _ _ _ _
    (ap suffix_of c.in-Down.is ∙ suffix_of-Down c.in-Down.spot) refl
    is.types (c.counted_after-in-Down.ensures E u is.is) c.keep-in-Down.ensures.same c.keep-in-Down.ensures.types refl
