use Rattle.std.proofs.Common.{inl, inr, length, sym, subst, ap, ◌∙◌}
use Rattle.fk_types_names.specs.Filling.{AreApart, AreFound, IsSurvey}
use Rattle.fk_types_names.specs.Scoped.{all_marks}
use Rattle.fk_types_names.proofs.FindLemmas.{found_none, none_or, written}
use Rattle.fk_types_names.proofs.names.meanings.Goals as goal

pub find_all-requires : goal.find_all-requires
find_all-requires c =
    let marks = all_marks c.args.scoped.now in
    let items = c.in_ok-meanings.meanings.items in
    let value = c.deref_mut.ensures.value in
    let start = found_none marks c.args.tokens items (c.in_ok-meanings.ensures.items_if_clones_equal (λ y h. elim (none_or y) [ inl e ↦ e | inr s ↦ absurd (rw s.1 at h) ])) in
    record {
      sound = c.requires.sound;
      known = subst (λ ms. IsSurvey ms c.in_ok-survey.survey) c.list.ensures c.in_ok-survey.ensures;
      apart = subst (λ n. AreApart marks n) (sym (ap length value ∙ start.size)) c.requires.apart;
      before = subst (λ xs. AreFound marks (length xs) xs 0) (sym value) (subst (λ n. AreFound marks n items 0) (sym start.size) start);
    }

pub returns : goal.returns
returns c =
    let marks = all_marks c.args.scoped.now in
    let all = c.in_ok-meanings.meanings in
    let new = c.find_all.new.meanings in
    let items = ap length c.deref_mut.ensures.value in
    let start = found_none marks c.args.tokens all.items (c.in_ok-meanings.ensures.items_if_clones_equal (λ y h. elim (none_or y) [ inl e ↦ e | inr s ↦ absurd (rw s.1 at h) ])) in
    let found = c.find_all.ensures in
    subst (λ xs. AreFound marks c.args.tokens xs (length marks)) (sym (written all.len new all.items (sym all.ok.0) (found.size ∙ items)))
    (subst (λ n. AreFound marks n new (length marks)) (items ∙ start.size) found)
