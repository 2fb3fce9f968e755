-- The premises, met by a list: all processors begin a group, which takes a frame, agrees on a number, takes a block, asks for
-- one of the heap too, divides by `$`, runs a body in which they meet, and ends.
use Rattle.std.proofs.Common.{◌≡◌, ◌≢◌, ℕ, zero, suc, ◌<◌, Bool, true, false, List, [], ◌∷◌, length, Option, Some, None, refl, sym, ap, ◌∙◌, subst, arith, if◌then◌else◌}
use Rattle.std.specs.Prelude.{◌==◌, slice_get, slice_index}
use Rattle.std.proofs.lemmas.Bool.{false≢true}
use Rattle.std.proofs.lemmas.List.Elements.{All-nil}
use Rattle.fk_num.specs.Word.{Memory}
use Rattle.fk_space.specs.Space.{Space, IsSpace, frame, block}
use Rattle.fk_meaning_operation.specs.Kinds.{class_of}
use Rattle.fk_meaning_operation.specs.declared.kinds.Class.TheVariants.{Local, Request, Tree}
use Rattle.fk_meaning_operation.specs.declared.operation.OwnValue.TheVariants as k
use Rattle.fk_meaning_operation.specs.declared.operation.SplitKind.TheVariants.{IfAlone, Fork}
use Rattle.fk_meaning_operation.specs.declared.operation.Operation.{Operation}
use Rattle.fk_meaning_operation.specs.declared.operation.Operation.TheVariants as o
use Rattle.fk_meaning_store.specs.Serve.{words_of}
use Rattle.fk_meaning.specs.Processor.{Level, Processor, Setting, setting_of, values, last, before, drop_last, in_place, enter_level, to_outer}
use Rattle.fk_meaning.specs.Local.{local, is_onward}
use Rattle.fk_meaning.specs.Request.{with_answer}
use Rattle.fk_meaning.specs.Group.{is_taken, start_level, part, enters, divided, framed, allotted, with_block, does, goes_onward}
use Rattle.fk_meaning.specs.Round.{Step, Runner}
use Rattle.fk_meaning.specs.Schedule.{Schedule, run, beginners}
use Rattle.fk_core.specs.declared.op.CoreOp.{CoreOp}
use Rattle.fk_core.specs.Numbers.{operation_of}
use Rattle.fk_core.specs.Next.{Position, position, is_jump, led_by, landing_by, landing, follows, next, list_opening}
use Rattle.fk_core.specs.WellFormed.{LeadsOn, HasDepths}
use Rattle.fk_core.proofs.Examples.{op}
use Rattle.fk_lockstep.specs.Course.{InGroup, Waits, ByItself, Follows}
use Rattle.fk_lockstep.specs.Frames.{IsFramed}
use Rattle.fk_lockstep.proofs.Round.{some_at}
use Rattle.fk_lockstep_frames.specs.Nests.{Nest, OfFunction, OfPart, nesting, levels_of, forks_of}
use Rattle.fk_lockstep_frames.specs.Lists as l
use Rattle.fk_lockstep_frames.specs.Lists.{HasLocalFrames}
use Rattle.fk_lockstep_frames.proofs.Found.{found}
use Rattle.fk_lockstep_frames.proofs.Lists.{lists_tell_frames}
use Rattle.fk_lockstep_tree.specs.Where as w
use Rattle.fk_lockstep_tree.specs.Where.{Goes}
use Rattle.fk_lockstep_tree.specs.Rounds.{HaveOwnSpaces}
use Rattle.fk_lockstep_tree.specs.Runs.{AlwaysInTree}
use Rattle.fk_lockstep_tree.proofs.Runs.{runs_stay_in_trees}
use Rattle.fk_lockstep_tree.proofs.Uncounted.{no_counts, uncounted}
use Rattle.fk_sim_block.specs.Next.{step_at}
use Rattle.fk_sim_block.specs.Ready.{MayDo}
use Rattle.fk_sim_block.specs.Lists.{StaysInList, AlwaysMay, is_end}
use Rattle.fk_sim_block.specs.Node.{Nestings}
use Rattle.fk_sim_block.proofs.Standing.{landing_here}
use Rattle.fk_sim_rounds.proofs.Kept.{gone, AreKept, AllKept, run_kept, kept_at}
use Rattle.fk_sim_runs.specs.Lists.{IsOfTree}

-- get the number of processors; begin; a frame of 2 words; push 1, agree; a block; a request; drop; get `$`; a part of those whose `$`
-- isn't 0, and its end; resume; a `farm` with a barrier; the end; resume; halt
abbrev core : List CoreOp
core =
    op 2 0 5 0 0 ∷ op 23 1 0 16 1 ∷ op 25 2 259 0 0 ∷ op 1 3 1 0 0 ∷ op 24 4 0 0 1 ∷ op 26 5 0 0 1 ∷ op 21 6 0 0 1 ∷ op 4 7 0 0 1 ∷
    op 2 8 2 0 0 ∷ op 27 9 0 11 1 ∷ op 29 10 0 11 0 ∷ op 30 11 0 0 0 ∷
    op 31 12 0 14 0 ∷ op 33 13 0 0 0 ∷ op 33 14 1 0 0 ∷ op 29 15 0 16 0 ∷ op 30 16 0 0 0 ∷ op 34 17 0 0 0 ∷ []

abbrev nth : {A : Type 0} → (otherwise : A) → List A → ℕ → A
nth otherwise [] i = otherwise
nth otherwise (x ∷ xs) zero = x
nth otherwise (x ∷ xs) (suc i) = nth otherwise xs i

-- ---- groups, parts and bodies in their order

abbrev At : ℕ → Position
At i = position i []

abbrev to_end : List Position
to_end = At 16 ∷ []

abbrev in_split : List Position
in_split = At 11 ∷ At 16 ∷ []

abbrev in_body : List Position
in_body = At 14 ∷ At 16 ∷ []

abbrev outs : Position → List Position
outs w =
    nth []
    ((At 1 ∷ []) ∷ (At 1 ∷ []) ∷ to_end ∷ to_end ∷ to_end ∷ to_end ∷ to_end ∷ to_end ∷ to_end ∷ to_end ∷ in_split ∷ to_end ∷ to_end ∷ in_body ∷ in_body ∷ to_end ∷ [])
    w.at

follows_17 : Follows (next core) outs (ByItself false) (At 17)
follows_17 zero = tt
follows_17 (suc n) = λ onward. refl

follows_16 : Follows (next core) outs (Waits false) (At 16)
follows_16 zero = tt
follows_16 (suc n) = (refl, follows_17 n)

follows_15 : Follows (next core) outs (InGroup false) (At 15)
follows_15 zero = tt
follows_15 (suc n) = refl

follows_14 : Follows (next core) outs (ByItself true) (At 14)
follows_14 zero = tt
follows_14 (suc n) = (refl, follows_15 n)

follows_13 : Follows (next core) outs (ByItself true) (At 13)
follows_13 zero = tt
follows_13 (suc n) = elim [ true ↦ (refl, follows_14 n) | false ↦ (refl, follows_14 n) ]

follows_12 : Follows (next core) outs (InGroup false) (At 12)
follows_12 zero = tt
follows_12 (suc n) = (refl, refl, follows_13 n, follows_14 n)

follows_11 : Follows (next core) outs (Waits true) (At 11)
follows_11 zero = tt
follows_11 (suc n) = (refl, follows_12 n)

follows_10 : Follows (next core) outs (InGroup false) (At 10)
follows_10 zero = tt
follows_10 (suc n) = refl

follows_9 : Follows (next core) outs (InGroup false) (At 9)
follows_9 zero = tt
follows_9 (suc n) = (refl, refl, follows_11 n, follows_10 n, refl)

follows_8 : Follows (next core) outs (InGroup false) (At 8)
follows_8 zero = tt
follows_8 (suc n) = elim [ true ↦ (refl, follows_9 n) | false ↦ (refl, follows_9 n) ]

follows_7 : Follows (next core) outs (InGroup false) (At 7)
follows_7 zero = tt
follows_7 (suc n) = elim [ true ↦ (refl, follows_8 n) | false ↦ (refl, follows_8 n) ]

follows_6 : Follows (next core) outs (InGroup false) (At 6)
follows_6 zero = tt
follows_6 (suc n) = elim [ true ↦ (refl, follows_7 n) | false ↦ (refl, follows_7 n) ]

follows_5 : Follows (next core) outs (InGroup true) (At 5)
follows_5 zero = tt
follows_5 (suc n) = (refl, elim [ true ↦ (refl, follows_6 n) | false ↦ (refl, follows_6 n) ])

follows_4 : Follows (next core) outs (InGroup false) (At 4)
follows_4 zero = tt
follows_4 (suc n) = elim [ true ↦ (refl, follows_5 n) | false ↦ (refl, follows_5 n) ]

follows_3 : Follows (next core) outs (InGroup false) (At 3)
follows_3 zero = tt
follows_3 (suc n) = elim [ true ↦ (refl, follows_4 n) | false ↦ (refl, follows_4 n) ]

follows_2 : Follows (next core) outs (InGroup false) (At 2)
follows_2 zero = tt
follows_2 (suc n) = elim [ true ↦ (refl, follows_3 n) | false ↦ (refl, follows_3 n) ]

follows_1 : Follows (next core) outs (ByItself false) (At 1)
follows_1 zero = tt
follows_1 (suc n) = (refl, follows_16 n, refl, follows_2 n)

follows_0 : Follows (next core) outs (ByItself false) (At 0)
follows_0 zero = tt
follows_0 (suc n) = elim [ true ↦ (refl, follows_1 n) | false ↦ (refl, follows_1 n) ]

goes_18 : Goes (next core) w.InRoot (At 18)
goes_18 zero = tt
goes_18 (suc n) = refl

goes_17 : Goes (next core) w.InRoot (At 17)
goes_17 zero = tt
goes_17 (suc n) = elim [ true ↦ (w.InRoot, refl, goes_18 n) | false ↦ (w.InRoot, refl, goes_18 n) ]

goes_16 : Goes (next core) (w.Waits 0) (At 16)
goes_16 zero = tt
goes_16 (suc n) = elim [ true ↦ (w.InRoot, refl, goes_17 n) | false ↦ (w.InRoot, refl, goes_17 n) ]

goes_15 : Goes (next core) (w.InGroup 0) (At 15)
goes_15 zero = tt
goes_15 (suc n) = elim [ true ↦ (w.Waits 0, refl, goes_16 n) | false ↦ (w.Waits 0, refl, goes_16 n) ]

goes_14 : Goes (next core) (w.InBody 0) (At 14)
goes_14 zero = tt
goes_14 (suc n) = elim [ true ↦ (w.InGroup 0, refl, goes_15 n) | false ↦ (w.InGroup 0, refl, goes_15 n) ]

behind_14 : Goes (next core) (w.BehindBody 0) (At 14)
behind_14 zero = tt
behind_14 (suc n) = elim [ true ↦ (w.InGroup 0, refl, goes_15 n) | false ↦ (w.InGroup 0, refl, goes_15 n) ]

goes_13 : Goes (next core) (w.InBody 0) (At 13)
goes_13 zero = tt
goes_13 (suc n) = elim [ true ↦ (w.InBody 0, refl, goes_14 n) | false ↦ (w.InBody 0, refl, goes_14 n) ]

goes_12 : Goes (next core) (w.InGroup 0) (At 12)
goes_12 zero = tt
goes_12 (suc n) = elim [ true ↦ (w.InBody 0, refl, goes_13 n) | false ↦ (w.BehindBody 0, refl, behind_14 n) ]

goes_11 : Goes (next core) (w.Waits 1) (At 11)
goes_11 zero = tt
goes_11 (suc n) = elim [ true ↦ (w.InGroup 0, refl, goes_12 n) | false ↦ (w.InGroup 0, refl, goes_12 n) ]

goes_10 : Goes (next core) (w.InGroup 1) (At 10)
goes_10 zero = tt
goes_10 (suc n) = elim [ true ↦ (w.Waits 1, refl, goes_11 n) | false ↦ (w.Waits 1, refl, goes_11 n) ]

goes_9 : Goes (next core) (w.InGroup 0) (At 9)
goes_9 zero = tt
goes_9 (suc n) = elim [ true ↦ (w.InGroup 1, refl, goes_10 n) | false ↦ (w.Waits 1, refl, goes_11 n) ]

goes_8 : Goes (next core) (w.InGroup 0) (At 8)
goes_8 zero = tt
goes_8 (suc n) = elim [ true ↦ (w.InGroup 0, refl, goes_9 n) | false ↦ (w.InGroup 0, refl, goes_9 n) ]

goes_7 : Goes (next core) (w.InGroup 0) (At 7)
goes_7 zero = tt
goes_7 (suc n) = elim [ true ↦ (w.InGroup 0, refl, goes_8 n) | false ↦ (w.InGroup 0, refl, goes_8 n) ]

goes_6 : Goes (next core) (w.InGroup 0) (At 6)
goes_6 zero = tt
goes_6 (suc n) = elim [ true ↦ (w.InGroup 0, refl, goes_7 n) | false ↦ (w.InGroup 0, refl, goes_7 n) ]

goes_5 : Goes (next core) (w.InGroup 0) (At 5)
goes_5 zero = tt
goes_5 (suc n) = elim [ true ↦ (w.InGroup 0, refl, goes_6 n) | false ↦ (w.InGroup 0, refl, goes_6 n) ]

goes_4 : Goes (next core) (w.InGroup 0) (At 4)
goes_4 zero = tt
goes_4 (suc n) = elim [ true ↦ (w.InGroup 0, refl, goes_5 n) | false ↦ (w.InGroup 0, refl, goes_5 n) ]

goes_3 : Goes (next core) (w.InGroup 0) (At 3)
goes_3 zero = tt
goes_3 (suc n) = elim [ true ↦ (w.InGroup 0, refl, goes_4 n) | false ↦ (w.InGroup 0, refl, goes_4 n) ]

goes_2 : Goes (next core) (w.InGroup 0) (At 2)
goes_2 zero = tt
goes_2 (suc n) = elim [ true ↦ (w.InGroup 0, refl, goes_3 n) | false ↦ (w.InGroup 0, refl, goes_3 n) ]

goes_1 : Goes (next core) w.InRoot (At 1)
goes_1 zero = tt
goes_1 (suc n) = elim [ true ↦ (w.InGroup 0, refl, goes_2 n) | false ↦ (w.Waits 0, refl, goes_16 n) ]

goes_0 : Goes (next core) w.InRoot (At 0)
goes_0 zero = tt
goes_0 (suc n) = elim [ true ↦ (w.InRoot, refl, goes_1 n) | false ↦ (w.InRoot, refl, goes_1 n) ]

-- ---- no call waits

abbrev calls_of : Position → ℕ
calls_of w = length w.callers

framed_18 : IsFramed (next core) outs calls_of 0 true (At 18)
framed_18 zero = tt
framed_18 (suc n) = tt

framed_17 : IsFramed (next core) outs calls_of 0 true (At 17)
framed_17 zero = tt
framed_17 (suc n) = record {
  calls = elim [ true ↦ refl | false ↦ refl ];
  in_group = λ e. absurd (cc);
  own = λ e. absurd (cc);
  outermost = λ e. refl;
  met = λ e. absurd (cc);
  goes_on = elim [ true ↦ framed_18 n | false ↦ framed_18 n ];
}

framed_16 : IsFramed (next core) outs calls_of 0 false (At 16)
framed_16 zero = tt
framed_16 (suc n) = record {
  calls = elim [ true ↦ refl | false ↦ refl ];
  in_group = λ e. refl;
  own = λ e. absurd (cc);
  outermost = λ e. refl;
  met = λ e. absurd (cc);
  goes_on = elim [ true ↦ framed_17 n | false ↦ framed_17 n ];
}

framed_15 : IsFramed (next core) outs calls_of 1 false (At 15)
framed_15 zero = tt
framed_15 (suc n) = record {
  calls = elim [ true ↦ refl | false ↦ refl ];
  in_group = λ e. refl;
  own = λ e. absurd (cc);
  outermost = λ e. refl;
  met = λ e. absurd (cc);
  goes_on = elim [ true ↦ framed_16 n | false ↦ framed_16 n ];
}

framed_14 : IsFramed (next core) outs calls_of 1 true (At 14)
framed_14 zero = tt
framed_14 (suc n) = record {
  calls = elim [ true ↦ refl | false ↦ refl ];
  in_group = λ e. absurd (cc);
  own = λ e. absurd (cc);
  outermost = λ e. refl;
  met = λ e. absurd (cc);
  goes_on = elim [ true ↦ framed_15 n | false ↦ framed_15 n ];
}

framed_13 : IsFramed (next core) outs calls_of 1 true (At 13)
framed_13 zero = tt
framed_13 (suc n) = record {
  calls = elim [ true ↦ refl | false ↦ refl ];
  in_group = λ e. absurd (cc);
  own = λ e. absurd (cc);
  outermost = λ e. refl;
  met = λ e. absurd (cc);
  goes_on = elim [ true ↦ framed_14 n | false ↦ framed_14 n ];
}

framed_12 : IsFramed (next core) outs calls_of 1 false (At 12)
framed_12 zero = tt
framed_12 (suc n) = record {
  calls = elim [ true ↦ refl | false ↦ refl ];
  in_group = λ e. refl;
  own = λ e. absurd (cc);
  outermost = λ e. refl;
  met = λ e. absurd (cc);
  goes_on = elim [ true ↦ framed_13 n | false ↦ framed_14 n ];
}

framed_11 : IsFramed (next core) outs calls_of 1 false (At 11)
framed_11 zero = tt
framed_11 (suc n) = record {
  calls = elim [ true ↦ refl | false ↦ refl ];
  in_group = λ e. refl;
  own = λ e. absurd (cc);
  outermost = λ e. refl;
  met = λ e. absurd (cc);
  goes_on = elim [ true ↦ framed_12 n | false ↦ framed_12 n ];
}

framed_10 : IsFramed (next core) outs calls_of 2 false (At 10)
framed_10 zero = tt
framed_10 (suc n) = record {
  calls = elim [ true ↦ refl | false ↦ refl ];
  in_group = λ e. refl;
  own = λ e. absurd (cc);
  outermost = λ e. refl;
  met = λ e. absurd (cc);
  goes_on = elim [ true ↦ framed_11 n | false ↦ framed_11 n ];
}

framed_9 : IsFramed (next core) outs calls_of 1 false (At 9)
framed_9 zero = tt
framed_9 (suc n) = record {
  calls = elim [ true ↦ refl | false ↦ refl ];
  in_group = λ e. refl;
  own = λ e. absurd (cc);
  outermost = λ e. refl;
  met = λ e. refl;
  goes_on = elim [ true ↦ framed_10 n | false ↦ framed_11 n ];
}

framed_8 : IsFramed (next core) outs calls_of 1 false (At 8)
framed_8 zero = tt
framed_8 (suc n) = record {
  calls = elim [ true ↦ refl | false ↦ refl ];
  in_group = λ e. refl;
  own = λ e. absurd (cc);
  outermost = λ e. refl;
  met = λ e. absurd (cc);
  goes_on = elim [ true ↦ framed_9 n | false ↦ framed_9 n ];
}

framed_7 : IsFramed (next core) outs calls_of 1 false (At 7)
framed_7 zero = tt
framed_7 (suc n) = record {
  calls = elim [ true ↦ refl | false ↦ refl ];
  in_group = λ e. refl;
  own = λ e. absurd (cc);
  outermost = λ e. refl;
  met = λ e. absurd (cc);
  goes_on = elim [ true ↦ framed_8 n | false ↦ framed_8 n ];
}

framed_6 : IsFramed (next core) outs calls_of 1 false (At 6)
framed_6 zero = tt
framed_6 (suc n) = record {
  calls = elim [ true ↦ refl | false ↦ refl ];
  in_group = λ e. refl;
  own = λ e. absurd (cc);
  outermost = λ e. refl;
  met = λ e. absurd (cc);
  goes_on = elim [ true ↦ framed_7 n | false ↦ framed_7 n ];
}

framed_5 : IsFramed (next core) outs calls_of 1 false (At 5)
framed_5 zero = tt
framed_5 (suc n) = record {
  calls = elim [ true ↦ refl | false ↦ refl ];
  in_group = λ e. refl;
  own = λ e. absurd (cc);
  outermost = λ e. refl;
  met = λ e. absurd (cc);
  goes_on = elim [ true ↦ framed_6 n | false ↦ framed_6 n ];
}

framed_4 : IsFramed (next core) outs calls_of 1 false (At 4)
framed_4 zero = tt
framed_4 (suc n) = record {
  calls = elim [ true ↦ refl | false ↦ refl ];
  in_group = λ e. refl;
  own = λ e. absurd (cc);
  outermost = λ e. refl;
  met = λ e. absurd (cc);
  goes_on = elim [ true ↦ framed_5 n | false ↦ framed_5 n ];
}

framed_3 : IsFramed (next core) outs calls_of 1 false (At 3)
framed_3 zero = tt
framed_3 (suc n) = record {
  calls = elim [ true ↦ refl | false ↦ refl ];
  in_group = λ e. refl;
  own = λ e. absurd (cc);
  outermost = λ e. refl;
  met = λ e. absurd (cc);
  goes_on = elim [ true ↦ framed_4 n | false ↦ framed_4 n ];
}

framed_2 : IsFramed (next core) outs calls_of 1 false (At 2)
framed_2 zero = tt
framed_2 (suc n) = record {
  calls = elim [ true ↦ refl | false ↦ refl ];
  in_group = λ e. refl;
  own = λ e. absurd (cc);
  outermost = λ e. refl;
  met = λ e. absurd (cc);
  goes_on = elim [ true ↦ framed_3 n | false ↦ framed_3 n ];
}

framed_1 : IsFramed (next core) outs calls_of 0 true (At 1)
framed_1 zero = tt
framed_1 (suc n) = record {
  calls = elim [ true ↦ refl | false ↦ refl ];
  in_group = λ e. absurd (cc);
  own = λ e. absurd (cc);
  outermost = λ e. refl;
  met = λ e. absurd (cc);
  goes_on = elim [ true ↦ framed_2 n | false ↦ framed_16 n ];
}

framed_0 : IsFramed (next core) outs calls_of 0 true (At 0)
framed_0 zero = tt
framed_0 (suc n) = record {
  calls = elim [ true ↦ refl | false ↦ refl ];
  in_group = λ e. absurd (cc);
  own = λ e. absurd (cc);
  outermost = λ e. refl;
  met = λ e. absurd (cc);
  goes_on = elim [ true ↦ framed_1 n | false ↦ framed_1 n ];
}

-- ---- how many values there are at each index, and which frames

abbrev DepthIn : List CoreOp → (index values : ℕ) → Type 0
DepthIn [] zero n = Unit {0}
DepthIn [] (suc i) n = ⊥
DepthIn (x ∷ ops) zero n = n ≡ x.depth
DepthIn (x ∷ ops) (suc i) n = DepthIn ops i n

depth_in : (ops : List CoreOp) (i n : ℕ) (x : CoreOp) → DepthIn ops i n → slice_get ops i ≡ Some x → n ≡ x.depth
depth_in [] i n x d e = absurd (cc)
depth_in (y ∷ ops) zero n x d e = let same : y ≡ x = cc in d ∙ ap (λ z. z.depth) same
depth_in (y ∷ ops) (suc i) n x d e = depth_in ops i n x d e

abbrev IsAt : Runner Position → Type 0
IsAt r = (r.left.callers ≡ []) × DepthIn core r.left.at (length (values r.has))

abbrev outermost : List Nest
outermost = OfFunction None ∷ []

abbrev in_start : (frame : Option ℕ) → List Nest
in_start frame = OfPart true frame ∷ outermost

abbrev framing : List Nest
framing = in_start (Some 2)

abbrev dividing : List Nest
dividing = OfPart false None ∷ framing

abbrev nests : ℕ → List Nest
nests =
    nth outermost
    (outermost ∷ outermost ∷ in_start None ∷ framing ∷ framing ∷ framing ∷ framing ∷ framing ∷ framing ∷ framing ∷ dividing ∷
    framing ∷ framing ∷ framing ∷ framing ∷ framing ∷ [])

abbrev in_main : ℕ → Bool
in_main i = true

abbrev nestings : Nestings
nestings = record {
  levels = λ i. levels_of (in_main i) (nests i);
  nest = λ i. nesting (nests i);
  forks = λ i level. forks_of (in_main i) (nests i) level;
  behind = λ i. 0;
  start = record { there = λ i. record { at = 0; changes = λ r. false }; coming = λ i h. h };
}

-- ---- one operation

-- the operation at an index, with `depth` values, goes on in the list, and where it does as many values are as stand there
record Moves (i target depth : ℕ) (operation : Operation) : Type 0 where
  locals : (set : Setting) (has : Processor) → class_of operation ≡ Local → length (values has) ≡ depth
      → IsAt (record { left = follows core operation i target [] (is_onward operation has); has = local set operation has })
  requests : (v : ℕ) (has : Processor) → class_of operation ≡ Request → length (values has) ≡ depth
      → IsAt (record { left = follows core operation i target [] true; has = with_answer operation v has })
  steps : (highest lowest size : ℕ) (has : Processor) → class_of operation ≡ Tree → length (values has) ≡ depth
      → IsAt (record { left = follows core operation i target [] (goes_onward operation highest lowest has); has = does operation highest size has })

record Is (i : ℕ) (x : CoreOp) : Type 0 where
  operation : Operation
  reads : operation_of x.kind x.number ≡ Some operation
  no_jump : is_jump x ≡ false
  within : is_end operation ≡ false → (onward : Bool) → StaysInList core (follows core operation i x.target [] onward)
  may : (r : Runner Position) → r.left.callers ≡ [] → IsSpace r.has.level.space → MayDo operation r
  frames : l.Fits core in_main nests i x.target operation
  moves : Moves i x.target x.depth operation

dropped : (vs : List ℕ) → length vs ≡ 1 → length (before 1 vs) ≡ 0
dropped [] e = absurd (omega (arith, e))
dropped (v ∷ vs) e = omega (arith, e)

replaced : (v : ℕ) (vs : List ℕ) → length vs ≡ 1 → length (v ∷ before 1 vs) ≡ 1
replaced v vs e = ap suc (dropped vs e)

begun : (b : Bool) (size : ℕ) (has : Processor) → length (values has) ≡ 1
    → IsAt (record { left = follows core o.Begin 1 16 [] b; has = if b then enter_level (start_level has size) (drop_last 1 has) else drop_last 1 has })
begun true size has d = (refl, dropped (values has) d)
begun false size has d = (refl, dropped (values has) d)

framed_there : (has : Processor) (s : Option Space) → length (values has) ≡ 0 → IsAt (record { left = At 3; has = framed 1 has s })
framed_there has None d = (refl, d)
framed_there has (Some s) d = (refl, d)

allotted_there : (has : Processor) (b : Option (ℕ × Space)) → length (values has) ≡ 1 → IsAt (record { left = At 6; has = allotted has b })
allotted_there has None d = (refl, replaced 0 (values has) d)
allotted_there has (Some b) d = (refl, replaced 0 (values has) d)

block_there : (words : ℕ) (has : Processor) → length (values has) ≡ 1 → IsAt (record { left = At 6; has = with_block words has })
block_there words has d = by (words == 0)
  where
    by : (none : Bool) → IsAt (record { left = At 6; has = if none then in_place 0 has else allotted has (block has.level.space words) })
    by true = (refl, replaced 0 (values has) d)
    by false = allotted_there has (block has.level.space words) d

left_there : (i : ℕ) (has : Processor) (outer : List Level) → DepthIn core i (length (values has)) → IsAt (record { left = At i; has = to_outer has outer })
left_there i has [] d = (refl, d)
left_there i has (around ∷ ls) d = (refl, d)

split_there : (size : ℕ) (has : Processor) (x : Option ℕ) → length (values has) ≡ 1
    → IsAt (record { left = follows core (o.Split IfAlone) 9 11 [] (enters IfAlone x); has = divided IfAlone size has x })
split_there size has None d = (refl, dropped (values has) d)
split_there size has (Some i) d = (refl, dropped (values has) d)

-- indices in the list
at_index : (i : ℕ) → i < 18 → StaysInList core (At i)
at_index i lt = record { at = lt; callers = All-nil (λ j. j < 18) }

either_way : (a b : ℕ) → a < 18 → b < 18 → (to : Bool → Position) → to true ≡ At a → to false ≡ At b → (onward : Bool) → StaysInList core (to onward)
either_way a b lt lt' to e f true = subst (StaysInList core) (sym e) (at_index a lt)
either_way a b lt lt' to e f false = subst (StaysInList core) (sym f) (at_index b lt')

leads : (there : List Nest) (i j : ℕ) → nests j ≡ there → l.Leads core in_main nests there i j
leads there i j nested = record { main = refl; nested = nested }

fits : (operation : Operation) (i target : ℕ) → l.Asks core in_main nests operation i → l.GoesOn core in_main nests operation i target
    → l.Fits core in_main nests i target operation
fits operation i target asks goes_on = record { asks = asks; goes_on = goes_on }

counts : Is 0 (op 2 0 5 0 0)
counts = record {
  operation = o.Get k.Processors;
  reads = refl;
  no_jump = refl;
  within = λ ends. either_way 1 1 (omega arith) (omega arith) (follows core (o.Get k.Processors) 0 0 []) refl refl;
  may = λ r none space. tt;
  frames = fits (o.Get k.Processors) 0 0 tt (elim [ true ↦ leads outermost 0 1 refl | false ↦ leads outermost 0 1 refl ]);
  moves = record {
    locals = λ set has c d. (refl, ap suc d);
    requests = λ v has c. absurd (cc);
    steps = λ highest lowest size has c. absurd (cc);
  };
}

begins : Is 1 (op 23 1 0 16 1)
begins = record {
  operation = o.Begin;
  reads = refl;
  no_jump = refl;
  within = λ ends. either_way 2 16 (omega arith) (omega arith) (follows core o.Begin 1 16 []) refl refl;
  may = λ r none space. tt;
  frames = fits o.Begin 1 16 (record { main = refl; nested = refl }) (elim [ true ↦ leads (in_start None) 1 2 refl | false ↦ leads outermost 1 16 refl ]);
  moves = record {
    locals = λ set has c. absurd (cc);
    requests = λ v has c. absurd (cc);
    steps = λ highest lowest size has c d. begun (is_taken highest has) size has d;
  };
}

takes_frame : Is 2 (op 25 2 259 0 0)
takes_frame = record {
  operation = o.Frame 1 2;
  reads = refl;
  no_jump = refl;
  within = λ ends. either_way 3 3 (omega arith) (omega arith) (follows core (o.Frame 1 2) 2 0 []) refl refl;
  may = λ r none space. space;
  frames = fits (o.Frame 1 2) 2 0 (refl, refl) (elim [ true ↦ leads framing 2 3 refl | false ↦ leads framing 2 3 refl ]);
  moves = record {
    locals = λ set has c. absurd (cc);
    requests = λ v has c. absurd (cc);
    steps = λ highest lowest size has c d. framed_there has (frame has.level.space 2) d;
  };
}

pushes : Is 3 (op 1 3 1 0 0)
pushes = record {
  operation = o.Push 1;
  reads = refl;
  no_jump = refl;
  within = λ ends. either_way 4 4 (omega arith) (omega arith) (follows core (o.Push 1) 3 0 []) refl refl;
  may = λ r none space. tt;
  frames = fits (o.Push 1) 3 0 tt (elim [ true ↦ leads framing 3 4 refl | false ↦ leads framing 3 4 refl ]);
  moves = record {
    locals = λ set has c d. (refl, ap suc d);
    requests = λ v has c. absurd (cc);
    steps = λ highest lowest size has c. absurd (cc);
  };
}

agrees : Is 4 (op 24 4 0 0 1)
agrees = record {
  operation = o.Agree;
  reads = refl;
  no_jump = refl;
  within = λ ends. either_way 5 5 (omega arith) (omega arith) (follows core o.Agree 4 0 []) refl refl;
  may = λ r none space. tt;
  frames = fits o.Agree 4 0 tt (elim [ true ↦ leads framing 4 5 refl | false ↦ leads framing 4 5 refl ]);
  moves = record {
    locals = λ set has c. absurd (cc);
    requests = λ v has c. absurd (cc);
    steps = λ highest lowest size has c d. (refl, replaced highest (values has) d);
  };
}

takes_block : Is 5 (op 26 5 0 0 1)
takes_block = record {
  operation = o.Block;
  reads = refl;
  no_jump = refl;
  within = λ ends. either_way 6 6 (omega arith) (omega arith) (follows core o.Block 5 0 []) refl refl;
  may = λ r none space. space;
  frames = fits o.Block 5 0 tt (elim [ true ↦ leads framing 5 6 refl | false ↦ leads framing 5 6 refl ]);
  moves = record {
    locals = λ set has c. absurd (cc);
    requests = λ v has c. absurd (cc);
    steps = λ highest lowest size has c d. block_there (words_of (last (values has))) has d;
  };
}

asks_heap : Is 6 (op 21 6 0 0 1)
asks_heap = record {
  operation = o.Heap;
  reads = refl;
  no_jump = refl;
  within = λ ends. either_way 7 7 (omega arith) (omega arith) (follows core o.Heap 6 0 []) refl refl;
  may = λ r none space. tt;
  frames = fits o.Heap 6 0 tt (elim [ true ↦ leads framing 6 7 refl | false ↦ leads framing 6 7 refl ]);
  moves = record {
    locals = λ set has c. absurd (cc);
    requests = λ v has c d. (refl, replaced v (values has) d);
    steps = λ highest lowest size has c. absurd (cc);
  };
}

drops : Is 7 (op 4 7 0 0 1)
drops = record {
  operation = o.DropLast;
  reads = refl;
  no_jump = refl;
  within = λ ends. either_way 8 8 (omega arith) (omega arith) (follows core o.DropLast 7 0 []) refl refl;
  may = λ r none space. tt;
  frames = fits o.DropLast 7 0 tt (elim [ true ↦ leads framing 7 8 refl | false ↦ leads framing 7 8 refl ]);
  moves = record {
    locals = λ set has c d. (refl, dropped (values has) d);
    requests = λ v has c. absurd (cc);
    steps = λ highest lowest size has c. absurd (cc);
  };
}

gets_rank : Is 8 (op 2 8 2 0 0)
gets_rank = record {
  operation = o.Get k.Rank;
  reads = refl;
  no_jump = refl;
  within = λ ends. either_way 9 9 (omega arith) (omega arith) (follows core (o.Get k.Rank) 8 0 []) refl refl;
  may = λ r none space. tt;
  frames = fits (o.Get k.Rank) 8 0 tt (elim [ true ↦ leads framing 8 9 refl | false ↦ leads framing 8 9 refl ]);
  moves = record {
    locals = λ set has c d. (refl, ap suc d);
    requests = λ v has c. absurd (cc);
    steps = λ highest lowest size has c. absurd (cc);
  };
}

splits : Is 9 (op 27 9 0 11 1)
splits = record {
  operation = o.Split IfAlone;
  reads = refl;
  no_jump = refl;
  within = λ ends. either_way 10 11 (omega arith) (omega arith) (follows core (o.Split IfAlone) 9 11 []) refl refl;
  may = λ r none space. tt;
  frames = fits (o.Split IfAlone) 9 11 tt (elim [ true ↦ leads dividing 9 10 refl | false ↦ leads framing 9 11 refl ]);
  moves = record {
    locals = λ set has c. absurd (cc);
    requests = λ v has c. absurd (cc);
    steps = λ highest lowest size has c d. split_there size has (part IfAlone (values has)) d;
  };
}

ends_part : Is 10 (op 29 10 0 11 0)
ends_part = record {
  operation = o.End;
  reads = refl;
  no_jump = refl;
  within = λ ends. either_way 11 11 (omega arith) (omega arith) (follows core o.End 10 11 []) refl refl;
  may = λ r none space. tt;
  frames = fits o.End 10 11 tt (elim [ true ↦ leads framing 10 11 refl | false ↦ leads framing 10 11 refl ]);
  moves = record {
    locals = λ set has c. absurd (cc);
    requests = λ v has c. absurd (cc);
    steps = λ highest lowest size has c d. left_there 11 has has.outer d;
  };
}

goes_on : Is 11 (op 30 11 0 0 0)
goes_on = record {
  operation = o.Resume;
  reads = refl;
  no_jump = refl;
  within = λ ends. either_way 12 12 (omega arith) (omega arith) (follows core o.Resume 11 0 []) refl refl;
  may = λ r none space. tt;
  frames = fits o.Resume 11 0 tt (elim [ true ↦ leads framing 11 12 refl | false ↦ leads framing 11 12 refl ]);
  moves = record {
    locals = λ set has c. absurd (cc);
    requests = λ v has c. absurd (cc);
    steps = λ highest lowest size has c d. (refl, d);
  };
}

farms : Is 12 (op 31 12 0 14 0)
farms = record {
  operation = o.Farm;
  reads = refl;
  no_jump = refl;
  within = λ ends. either_way 13 14 (omega arith) (omega arith) (follows core o.Farm 12 14 []) refl refl;
  may = λ r none space. tt;
  frames = fits o.Farm 12 14 tt (elim [ true ↦ leads framing 12 13 refl | false ↦ leads framing 12 14 refl ]);
  moves = record {
    locals = λ set has c. absurd (cc);
    requests = λ v has c. absurd (cc);
    steps = λ highest lowest size has c d. (refl, d);
  };
}

waits : Is 13 (op 33 13 0 0 0)
waits = record {
  operation = o.Meet false;
  reads = refl;
  no_jump = refl;
  within = λ ends. either_way 14 14 (omega arith) (omega arith) (follows core (o.Meet false) 13 0 []) refl refl;
  may = λ r none space. tt;
  frames = fits (o.Meet false) 13 0 tt (elim [ true ↦ leads framing 13 14 refl | false ↦ leads framing 13 14 refl ]);
  moves = record {
    locals = λ set has c. absurd (cc);
    requests = λ v has c. absurd (cc);
    steps = λ highest lowest size has c d. (refl, d);
  };
}

meets : Is 14 (op 33 14 1 0 0)
meets = record {
  operation = o.Meet true;
  reads = refl;
  no_jump = refl;
  within = λ ends. either_way 15 15 (omega arith) (omega arith) (follows core (o.Meet true) 14 0 []) refl refl;
  may = λ r none space. tt;
  frames = fits (o.Meet true) 14 0 tt (elim [ true ↦ leads framing 14 15 refl | false ↦ leads framing 14 15 refl ]);
  moves = record {
    locals = λ set has c. absurd (cc);
    requests = λ v has c. absurd (cc);
    steps = λ highest lowest size has c d. (refl, d);
  };
}

ends : Is 15 (op 29 15 0 16 0)
ends = record {
  operation = o.End;
  reads = refl;
  no_jump = refl;
  within = λ ends. either_way 16 16 (omega arith) (omega arith) (follows core o.End 15 16 []) refl refl;
  may = λ r none space. tt;
  frames = fits o.End 15 16 tt (elim [ true ↦ leads outermost 15 16 refl | false ↦ leads outermost 15 16 refl ]);
  moves = record {
    locals = λ set has c. absurd (cc);
    requests = λ v has c. absurd (cc);
    steps = λ highest lowest size has c d. left_there 16 has has.outer d;
  };
}

resumes : Is 16 (op 30 16 0 0 0)
resumes = record {
  operation = o.Resume;
  reads = refl;
  no_jump = refl;
  within = λ ends. either_way 17 17 (omega arith) (omega arith) (follows core o.Resume 16 0 []) refl refl;
  may = λ r none space. tt;
  frames = fits o.Resume 16 0 tt (elim [ true ↦ leads outermost 16 17 refl | false ↦ leads outermost 16 17 refl ]);
  moves = record {
    locals = λ set has c. absurd (cc);
    requests = λ v has c. absurd (cc);
    steps = λ highest lowest size has c d. (refl, d);
  };
}

halts : Is 17 (op 34 17 0 0 0)
halts = record {
  operation = o.Halt;
  reads = refl;
  no_jump = refl;
  within = λ ends. absurd (cc);
  may = λ r none space. none;
  frames = fits o.Halt 17 0 tt (record { main = refl; nested = refl });
  moves = record {
    locals = λ set has c. absurd (cc);
    requests = λ v has c. absurd (cc);
    steps = λ highest lowest size has c d. (refl, tt);
  };
}

-- ---- all of them

abbrev Each : (ℕ → CoreOp → Type 0) → List CoreOp → Type 0
Each P [] = Unit {0}
Each P (x ∷ ops) = P 0 x × Each (λ i. P (suc i)) ops

each_at : (P : ℕ → CoreOp → Type 0) (ops : List CoreOp) → Each P ops → (i : ℕ) (x : CoreOp) → slice_get ops i ≡ Some x → P i x
each_at P [] all i x e = absurd (cc)
each_at P (y ∷ ops) all zero x e = let same : y ≡ x = cc in subst (P 0) same all.0
each_at P (y ∷ ops) all (suc i) x e = each_at (λ j. P (suc j)) ops all.1 i x e

all_are : Each Is core
all_are =
    (counts, (begins, (takes_frame, (pushes, (agrees, (takes_block, (asks_heap, (drops, (gets_rank, (splits, (ends_part, (goes_on, (farms, (waits, (meets, (ends, (resumes, (halts, tt))))))))))))))))))

is_at : (i : ℕ) (x : CoreOp) → slice_get core i ≡ Some x → Is i x
is_at i x e = each_at Is core all_are i x e

same_operation : (i : ℕ) (x : CoreOp) (operation : Operation) (it : Is i x) → operation_of x.kind x.number ≡ Some operation → it.operation ≡ operation
same_operation i x operation it reads = let e = sym it.reads ∙ reads in cc

-- no operation is a jump
lands : (i : ℕ) → landing core i ≡ i
lands i = by (slice_get core i) refl
  where
    by : (x : Option CoreOp) → slice_get core i ≡ x → landing core i ≡ i
    by None e = ap (λ x. led_by x (landing_by core 17) i) e
    by (Some x) e = landing_here core i x e (is_at i x e).no_jump

here : (i : ℕ) (x : CoreOp) → slice_get core (landing core i) ≡ Some x → slice_get core i ≡ Some x
here i x e = ap (λ j. slice_get core j) (sym (lands i)) ∙ e

-- the next operation of a processor
record Next (r : Runner Position) (step : Step Position) : Type 0 where
  x : CoreOp
  it : Is r.left.at x
  depth : length (values r.has) ≡ x.depth
  step_is : step ≡ step_at core r.left.at x it.operation []

next_of : (r : Runner Position) (step : Step Position) → IsAt r → next core r.left ≡ Some step → Next r step
next_of r step is n =
    let f = found core r.left step n in
    let stands = here r.left.at f.op f.stands in
    let it = is_at r.left.at f.op stands in
    record {
      x = f.op;
      it = it;
      depth = depth_in core r.left.at (length (values r.has)) f.op is.1 stands;
      step_is = f.is ∙ ap (λ i. step_at core i f.op f.operation r.left.callers) (lands r.left.at)
          ∙ ap (λ q. step_at core r.left.at f.op q r.left.callers) (sym (same_operation r.left.at f.op f.operation it f.reads))
          ∙ ap (λ cs. step_at core r.left.at f.op it.operation cs) is.0;
    }

kept : (set : Setting) → AreKept (next core) set IsAt
kept set = record {
  locals = λ r step is n c.
      let x = next_of r step is n in
      let class = ap (λ (s : Step Position). class_of s.operation) (sym x.step_is) ∙ c in
      subst (λ (s : Step Position). IsAt (gone s (is_onward s.operation r.has) (local set s.operation r.has))) (sym x.step_is) (x.it.moves.locals set r.has class x.depth);
  requests = λ r step s s' v is n c served.
      let x = next_of r step is n in
      let class = ap (λ (q : Step Position). class_of q.operation) (sym x.step_is) ∙ c in
      subst (λ (q : Step Position). IsAt (gone q true (with_answer q.operation v r.has))) (sym x.step_is) (x.it.moves.requests v r.has class x.depth);
  steps = λ r step highest lowest size is n c.
      let x = next_of r step is n in
      let class = ap (λ (s : Step Position). class_of s.operation) (sym x.step_is) ∙ c in
      subst (λ (s : Step Position). IsAt (gone s (goes_onward s.operation highest lowest r.has) (does s.operation highest size r.has))) (sym x.step_is)
      (x.it.moves.steps highest lowest size r.has class x.depth);
}

all_begin : (set : Setting) (firsts : Memory) (number count : ℕ) → AllKept (next core) set IsAt (kept set) (beginners set firsts (position 0 []) number count)
all_begin set firsts number zero = tt
all_begin set firsts number (suc n) = ((refl, refl), all_begin set firsts (suc number) n)

always_at : (words firsts input : List ℕ) (p : ℕ) (schedule : Schedule) (h : ℕ) (r : Runner Position)
    → slice_get (run (next core) (setting_of p words input) schedule (list_opening 0 words firsts input p)).runners h ≡ Some r → IsAt r
always_at words firsts input p schedule h r at =
    let set = setting_of p words input in
    let all = run_kept (next core) set IsAt (kept set) schedule (list_opening 0 words firsts input p) (all_begin set (slice_index firsts) 0 p) in
    kept_at (next core) set IsAt (kept set) (run (next core) set schedule (list_opening 0 words firsts input p)).runners h r all at

-- ---- the list

leads_on : LeadsOn core
leads_on i lt =
    let x = some_at core i lt in
    let it = is_at i x.0 x.1 in
    record { op = x.0; operation = it.operation; stands = ap (λ j. slice_get core j) (lands i) ∙ x.1; is_read = it.reads }

depths : HasDepths core 0
depths words firsts input p schedule possible running h r x at stands =
    depth_in core r.left.at (length (values r.has)) x (always_at words firsts input p schedule h r at).1 (here r.left.at x stands)

-- there is no jump
no_jumps : (i : ℕ) (x : CoreOp) → slice_get core i ≡ Some x → is_jump x ≡ true → l.Leads core in_main nests (nests i) i x.target
no_jumps i x stands jump = absurd (let e = sym (is_at i x stands).no_jump ∙ jump in cc)

abbrev frames : HasLocalFrames core 0
frames = record {
  in_main = in_main;
  nests = nests;
  begins = record { main = refl; nested = refl };
  ends = record { main = refl; nested = refl };
  jumps = no_jumps;
  fits = λ i x operation stands reads.
      let it = is_at i x stands in subst (l.Fits core in_main nests i x.target) (same_operation i x operation it reads) it.frames;
}

may : AlwaysMay core 0
may words firsts input p schedule space h r x operation at stands reads =
    let it = is_at r.left.at x (here r.left.at x stands) in
    let told = lists_tell_frames core 0 frames words firsts input p schedule space h r at in
    subst (λ q. MayDo q r) (same_operation r.left.at x operation it reads)
    (it.may r (always_at words firsts input p schedule h r at).0 told.nests.spaces.0.space)

-- nobody forks
abbrev forks : Option Operation → Bool
forks (Some (o.Split Fork)) = true
forks read = false

none_fork : Each (λ i x. forks (operation_of x.kind x.number) ≡ false) core
none_fork =
    (refl, (refl, (refl, (refl, (refl, (refl, (refl, (refl, (refl, (refl, (refl, (refl, (refl, (refl, (refl, (refl, (refl, (refl, tt))))))))))))))))))

never_forks : (w : Position) (step : Step Position) → next core w ≡ Some step → step.operation ≢ o.Split Fork
never_forks w step e is =
    let f = found core w step e in
    let read : operation_of f.op.kind f.op.number ≡ Some (o.Split Fork) = f.reads ∙ ap (λ (s : Step Position). Some s.operation) (sym f.is) ∙ ap (λ (op : Operation). Some op) is in
    false≢true (sym (each_at (λ i x. forks (operation_of x.kind x.number) ≡ false) core none_fork w.at f.op (here w.at f.op f.stands)) ∙ ap forks read)

in_tree : AlwaysInTree (next core) (λ w. landing core w.at) (At 0)
in_tree processors globals firsts input schedule some space possible single none =
    let own : (before : Schedule) → HaveOwnSpaces (run (next core) (setting_of processors globals input) before (list_opening 0 globals firsts input processors))
    = λ before h r at. (lists_tell_frames core 0 frames globals firsts input processors before space h r at).nests.spaces.0.space in
    let all = runs_stay_in_trees Position (next core) outs (no_counts Position) calls_of (At 0) processors globals input (slice_index firsts) schedule follows_0 (λ p. refl) (λ n. uncounted (next core) outs never_forks n (At 0)) goes_0 refl framed_0 own some possible single none in
    record {
      sound = all.0.tree;
      one_program = all.0.members;
      one_space = all.1;
      tree = all.2;
      beginners = λ g h r q a b at at' e f is is'. ap (λ (w : Position). landing core w.at) (all.0.beginners g h r q a b at at' e f is is');
    }

pub list : IsOfTree core nestings 0
list = record {
  begins = omega arith;
  jumps = λ i x stands jump. absurd (let e = sym (is_at i x stands).no_jump ∙ jump in cc);
  within = λ i x operation at.
      let it = is_at i x at.stands in
      subst (λ q. is_end q ≡ false → (onward : Bool) → StaysInList core (follows core q i x.target [] onward)) (same_operation i x operation it at.is_read) it.within;
  frames = frames;
  levels = λ i lt. refl;
  nest = λ i lt. refl;
  forks = λ i level lt few. refl;
  in_tree = in_tree;
  well_formed = record { leads_on = leads_on; depths = depths };
  may = may;
}
