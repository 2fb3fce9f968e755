-- The trees are closed terms, so they compute.
use Rattle.std.proofs.Common.{ℕ, length, sym, ap, ◌∙◌}
use Rattle.fk_tree.specs.Tree.{Tree, root, begin, kind, members, is_waiting}
use Rattle.fk_meaning_tests.proofs.tree.split_by_rest.Goals as goal

abbrev started : Tree
started = begin 7 (root 7)

pub begin-requires-clause-idle : goal.begin-requires-clause-idle
begin-requires-clause-idle c = ap (λ (t : Tree). is_waiting (kind t 0)) c.requires.root

pub split-requires-clause-lockstep : goal.split-requires-clause-lockstep
split-requires-clause-lockstep c =
    ap (λ (t : Tree). kind t c.in_ok-group.group) (c.in_ok-group.ensures.tree ∙ ap (begin 7) c.requires.root)
    ∙ ap (kind started) (c.in_ok-group.ensures.first ∙ ap (λ (t : Tree). t.given) c.requires.root)

pub split-requires-clause-length : goal.split-requires-clause-length
split-requires-clause-length c =
    sym (ap (λ (t : Tree). length (members t c.in_ok-group.group)) (c.in_ok-group.ensures.tree ∙ ap (begin 7) c.requires.root)
    ∙ ap (λ (n : ℕ). length (members started n)) (c.in_ok-group.ensures.first ∙ ap (λ (t : Tree). t.given) c.requires.root))
