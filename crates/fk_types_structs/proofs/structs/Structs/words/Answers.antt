use Rattle.std.proofs.Common.{◌≡◌, ap, ◌∙◌}
use Rattle.std.specs.Option.{option_map}
use Rattle.fk_types_structs.specs.Types.{all_types}
use Rattle.fk_types_structs.specs.Words.{type_words, capped}
use Rattle.fk_types_structs.specs.Table.{sizes_of}
use Rattle.fk_types_structs.specs.Sizes.{HasTypeWords}
use Rattle.fk_types_structs.specs.Whole.{structs_in}
use Rattle.fk_types_structs.proofs.WordLemmas.{type_exact, type_none}
use Rattle.fk_types_structs.proofs.LayoutLemmas.{capped-some, capped-none}
use Rattle.fk_types_structs.proofs.structs.Structs.words.Goals as goal

told : (c : goal.After-type_words) → c.type_words.result ≡ option_map capped (type_words (sizes_of c.args.self.now.sizes.items) c.args.kind.now)
told c = c.type_words.ensures ∙ ap (λ t. option_map capped (type_words (sizes_of t) c.args.kind.now)) c.deref.ensures.value

pub returns-clause-some : goal.returns-clause-some
returns-clause-some c = capped-some c.type_words.result (type_words (sizes_of c.args.self.now.sizes.items) c.args.kind.now) (HasTypeWords (structs_in c.args.self.now) c.args.kind.now) (told c)
    (type_exact (all_types (structs_in c.args.self.now)) c.args.self.now.sizes.items c.requires.sizes c.args.kind.now)

pub returns-clause-none : goal.returns-clause-none
returns-clause-none c = λ n exact h. type_none (all_types (structs_in c.args.self.now)) c.args.self.now.sizes.items c.requires.sizes c.args.kind.now
    (capped-none c.type_words.result (type_words (sizes_of c.args.self.now.sizes.items) c.args.kind.now) (told c) n) exact h.0 h.1
