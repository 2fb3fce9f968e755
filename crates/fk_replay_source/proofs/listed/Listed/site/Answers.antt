use Rattle.std.proofs.Common.{ℕ, Some, sym, ap, ◌∙◌}
use Rattle.std.proofs.lemmas.Option.{slice_get-get_or}
use Rattle.fk_syntax.specs.ProgramView.{program_of}
use Rattle.fk_meaning_forms.specs.Program.{sites_of}
use Rattle.fk_layout.specs.Layout.{tables_by}
use Rattle.fk_replay_source.proofs.Sites.{told_site}
use Rattle.fk_replay_source.proofs.listed.Listed.site.Goals as goal

pub returns : goal.returns
returns c =
    let text = c.args.self.now.text in
    let program = program_of text.tree in
    let sites = c.deref.result.now in
    let site = c.in_ok-site.site.now in
    let look = c.in_ok-site.ensures.lookup in
    let there = slice_get-get_or sites c.args.number site look.3.0 ∙ ap Some (sym (look.3.1 site)) in
    ap (λ (kind : ℕ). Some (kind, site.place.line, site.place.column)) c.from.ensures
    ∙ sym (told_site sites (sites_of (tables_by program text.facts) program) c.args.number site (c.deref.ensures.value ∙ c.requires.sites) there)
