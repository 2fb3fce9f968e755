use Rattle.std.proofs.Common.{length, refl, sym, subst, ap, ◌∙◌}
use Rattle.std.specs.Prelude.{slice_get}
use Rattle.fk_syntax.specs.ProgramView.{program_of}
use Rattle.fk_types_names.specs.Outline.{outline, declared_in}
use Rattle.fk_types_names.specs.Filling.{AreApart, AreFound}
use Rattle.fk_types_names.proofs.Apart.{apart_in}
use Rattle.fk_types_names.proofs.FindLemmas.{found_all, flat}
use Rattle.fk_types_names.proofs.names.resolve.Goals as goal

pub meanings-requires : goal.meanings-requires
meanings-requires c =
    let program = program_of c.args.program.now in
    record {
      sound = c.requires.scoped.sound;
      apart = subst (λ ms. AreApart ms program.tokens) (sym c.requires.scoped.marks) (apart_in program c.requires.well_formed);
    }

pub returns : goal.returns
returns c =
    let program = program_of c.args.program.now in
    let marks = outline program in
    let items = c.in_ok-meanings.field-0.items in
    let all = subst (λ ms. AreFound ms program.tokens items (length ms)) c.requires.scoped.marks c.in_ok-meanings.ensures in
    let apart = apart_in program c.requires.well_formed in
    record {
      declared = c.in_ok-declarations.ensures ∙ ap declared_in (c.list.ensures ∙ c.requires.scoped.marks);
      means = λ token m.
          let f = found_all marks program.tokens (length marks) items apart all refl token m in
          let o = flat (slice_get items token) m in (
            λ e. f.0 (o.0 e),
            λ means. o.1 (f.1 means),
          );
    }
