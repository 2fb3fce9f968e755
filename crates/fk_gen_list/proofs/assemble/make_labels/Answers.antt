use Rattle.std.proofs.Common.{◌≡◌, ◌∙◌, ◌++◌, [], ◌∷◌, List, Option, None, ℕ, ap, length, arith}
use Rattle.std.proofs.lemmas.List.{length-replicate, replicate-append-replicate}
use Rattle.fk_asm.specs.Assembly.{Assembly, empty}
use Rattle.fk_gen_list.proofs.assemble.make_labels.Goals as goal

pub label-requires : goal.label-requires
label-requires c =
    let count : length c.loop.into.bound ≡ c.loop.counter =
    ap (λ (a : Assembly). length a.bound) c.loop.invariant.made ∙ length-replicate c.loop.counter None in
    record { few = omega arith }

pub loop-preserved : goal.loop-preserved
loop-preserved c = record {
  made =
      c.in_ok-label.ensures.made
      ∙ ap (λ (a : Assembly). record a { bound = a.bound ++ None ∷ [] }) c.loop.invariant.made
      ∙ ap (λ (l : List (Option ℕ)). record empty { bound = l }) (replicate-append-replicate c.loop.counter 1 None);
  within = omega arith;
}
