use Rattle.std.proofs.Common.{ℕ, ◌+◌, ◌<◌, ◌≤◌, ◌∷◌, ◌++◌, [], List, length, map, drop, ap, sym, ◌∙◌, subst, arith}
use Rattle.std.specs.Prelude.{Option}
use Rattle.std.proofs.lemmas.List.{append_assoc}
use Rattle.fk_syntax.specs.declared.place.Place.{Place}
use Rattle.fk_syntax.specs.Program.{FunctionTree}
use Rattle.fk_syntax.specs.ProgramView.{function_of}
use Rattle.fk_meaning_forms.specs.declared.tables.FrameSize.{FrameSize}
use Rattle.fk_meaning_forms.specs.Program.{functions_of, sites_in}
use Rattle.fk_layout_walk.specs.Known.{tables_of, items_in}
use Rattle.fk_layout.specs.Frames.{told_in, functions_behind, first_large_in, first_large, frame_of}
use Rattle.fk_layout.specs.Refusal.{TellsLarge}
use Rattle.fk_layout.proofs.Sizing.{rest_at, own_at, fewer, passed_on}
use Rattle.fk_layout.proofs.frames.fitting_frames.Goals as goal

pub frame_of-requires-clause-own : goal.frame_of-requires-clause-own
frame_of-requires-clause-own c =
    let known = c.args.known.now in
    let less : c.loop-index.index < length c.in-Ok.functions.items = omega arith in
    own_at (told_in (tables_of known)) c.args.owns.now (functions_of (items_in known)) c.in-Ok.functions.items c.loop-index.index (record { privates = 0; words = 0 }) c.index.result.now c.requires.owns c.in-Ok.ensures less c.index.ensures

pub frame_of-requires-clause-small : goal.frame_of-requires-clause-small
frame_of-requires-clause-small c =
    let known = c.args.known.now in
    let gs = c.in-Ok.functions.items in
    let i = c.loop-index.index in
    let less : i < length gs = omega arith in
    let all = functions_of (items_in known) in
    let left : length (sites_in (tables_of known) all (function_of c.index.result.now.now ∷ functions_behind (drop (i + 1) gs))) ≤ 16000 =
    subst (λ (fs : List FunctionTree). length (sites_in (tables_of known) all fs) ≤ 16000) (rest_at gs i c.index.result.now less c.index.ensures) c.loop-index.invariant.few in
    let few = (fewer (tables_of known) all (functions_behind (drop (i + 1) gs)) (function_of c.index.result.now.now) left).0 in
    omega (arith, few)

pub returns-in_err-frame-clause-refused : goal.returns-in_err-frame-clause-refused
returns-in_err-frame-clause-refused c =
    let known = c.args.known.now in
    let gs = c.in-Ok.functions.items in
    let i = c.loop-index.index in
    let less : i < length gs = omega arith in
    let rest = rest_at gs i c.index.result.now less c.index.ensures in
    let first = first_large_in (tables_of known) (items_in known) in
    passed_on c.from_residual.result c.in_err-frame.field-0.0 (TellsLarge (first_large (tables_of known) (items_in known))) c.from_residual.ensures.1
    (subst (λ (large : Option (Place × ℕ)). TellsLarge large c.in_err-frame.field-0.0)
    (ap (λ (fs : List FunctionTree). first fs) (sym rest) ∙ c.loop-index.invariant.large ∙ ap (λ (fs : List FunctionTree). first fs) c.in-Ok.ensures)
    (c.in_err-frame.ensures.large (functions_behind (drop (i + 1) gs))))

pub loop-index-preserved : goal.loop-index-preserved
loop-index-preserved c =
    let known = c.args.known.now in
    let gs = c.in-Ok.functions.items in
    let i = c.loop-index.index in
    let less : i < length gs = omega arith in
    let rest = rest_at gs i c.index.result.now less c.index.ensures in
    let others = functions_behind (drop (i + 1) gs) in
    let framed = frame_of (tables_of known) (items_in known) in
    let done = c.loop-index.frames.items in
    let left : length (sites_in (tables_of known) (functions_of (items_in known)) (function_of c.index.result.now.now ∷ others)) ≤ 16000 =
    subst (λ (fs : List FunctionTree). length (sites_in (tables_of known) (functions_of (items_in known)) fs) ≤ 16000) rest c.loop-index.invariant.few in
    record {
      frames = ap (λ (xs : List FrameSize). xs ++ map framed others) c.in-Ok-push.ensures.items
          ∙ append_assoc done (c.in_ok-frame.frame ∷ []) (map framed others)
          ∙ ap (λ (x : FrameSize). done ++ x ∷ map framed others) c.in_ok-frame.ensures.frame
          ∙ ap (λ (fs : List FunctionTree). done ++ map framed fs) (sym rest)
          ∙ c.loop-index.invariant.frames;
      large = sym (c.in_ok-frame.ensures.fits others)
          ∙ ap (λ (fs : List FunctionTree). first_large_in (tables_of known) (items_in known) fs) (sym rest)
          ∙ c.loop-index.invariant.large;
      few = (fewer (tables_of known) (functions_of (items_in known)) others (function_of c.index.result.now.now) left).1;
    }
