-- When a text is refused.
use Rattle.std.specs.Prelude.{◌≡◌, ℕ, ◌<◌, ◌≤◌, List, length}
use Rattle.std.specs.declared.alloc.AllocError.{AllocError}
use Rattle.fk_num.specs.Limits.{most_text_bytes}
use Rattle.fk_syntax.specs.declared.place.Place.{Place}
use Rattle.fk_syntax.specs.Program.{ItemTree}
use Rattle.fk_lex.specs.declared.token.LexFault.TheVariants as fault
use Rattle.fk_lex.specs.Reading.{Faults}
use Rattle.fk_parse_combinators.specs.declared.fault.SyntaxFault.TheVariants as syntax_fault
use Rattle.fk_layout.specs.declared.sites.LayoutFault.{LayoutFault}
use Rattle.fk_layout.specs.declared.sites.LayoutFault.TheVariants as layout
use Rattle.fk_compile_text.specs.Text.{HasSyntaxFault, HasBrokenRule, HasFunctionAt, HasTooMuch}
use Rattle.fk_compile_text.specs.Text.{HasLargeFrame}
use Rattle.fk_compile_text.specs.declared.refusal.Refusal.{Refusal}
use Rattle.fk_compile_text.specs.declared.refusal.Refusal.TheVariants.{BadByte, OpenComment}
use Rattle.fk_compile_text.specs.declared.refusal.Refusal.TheVariants.{OpenString, WideNumber}
use Rattle.fk_compile_text.specs.declared.refusal.Refusal.TheVariants.{Unexpected, EndOfText}
use Rattle.fk_compile_text.specs.declared.refusal.Refusal.TheVariants.{Nesting, Rule, TooManySites}
use Rattle.fk_compile_text.specs.declared.refusal.Refusal.TheVariants.{FrameTooLarge}
use Rattle.fk_compile_text.specs.declared.refusal.Refusal.TheVariants.{GlobalsTooLarge}
use Rattle.fk_compile_text.specs.declared.refusal.Refusal.TheVariants.{SourceTooLong}
use Rattle.fk_compile_text.specs.declared.refusal.Refusal.TheVariants.{Memory}

-- The first refusal of a text that applies. The text is too long. If it isn't, it has a lexical
-- fault at the least place. If it has tokens, they have no tree, because of a fault at a token or
-- at the end. If they have one, it breaks this rule first. If it keeps all rules, there is too much
-- of something for a layout.
abbrev pub IsRefusedText : List ℕ → Refusal → Type 0
IsRefusedText source (SourceTooLong bytes) = (bytes ≡ length source) × (most_text_bytes < bytes)
IsRefusedText source (BadByte place) = (length source ≤ most_text_bytes)
    × Faults source (fault.BadByte place)
IsRefusedText source (OpenComment place) = (length source ≤ most_text_bytes)
    × Faults source (fault.OpenComment place)
IsRefusedText source (OpenString place) = (length source ≤ most_text_bytes)
    × Faults source (fault.OpenString place)
IsRefusedText source (WideNumber place) = (length source ≤ most_text_bytes)
    × Faults source (fault.WideNumber place)
IsRefusedText source (Unexpected place) = (length source ≤ most_text_bytes)
    × HasSyntaxFault source (syntax_fault.Unexpected place)
IsRefusedText source EndOfText = (length source ≤ most_text_bytes)
    × HasSyntaxFault source syntax_fault.EndOfText
IsRefusedText source (Nesting place) = (length source ≤ most_text_bytes)
    × HasSyntaxFault source (syntax_fault.Nesting place)
IsRefusedText source (Rule place number) = (length source ≤ most_text_bytes)
    × HasBrokenRule source place number
IsRefusedText source (TooManySites count) = (length source ≤ most_text_bytes)
    × HasTooMuch source (layout.TooManySites count)
IsRefusedText source (FrameTooLarge name words) = (length source ≤ most_text_bytes)
    × HasLargeFrame source name.items words
IsRefusedText source (GlobalsTooLarge words) = (length source ≤ most_text_bytes)
    × HasTooMuch source (layout.GlobalsTooLarge words)
IsRefusedText source (Memory e) = Unit {0}

-- ---- a fault of the layout, as a refusal

-- If a frame is too large, its function is one of these items.
abbrev pub IsOfFunction : List ItemTree → LayoutFault → Type 0
IsOfFunction items (layout.FrameTooLarge place words) = (name : List ℕ)
    × HasFunctionAt items place name
IsOfFunction items fault = Unit {0}

-- The refusal has the name of a function at a place, and its words; or there isn't enough memory
-- for the name.
abbrev pub TellsFrame : List ItemTree → Place → ℕ → Refusal → Type 0
TellsFrame items place words (FrameTooLarge name told) = HasFunctionAt items place name.items
    × (told ≡ words)
TellsFrame items place words (Memory e) = Unit {0}
TellsFrame items place words refusal = ⊥

abbrev pub TellsFault : List ItemTree → LayoutFault → Refusal → Type 0
TellsFault items (layout.TooManySites count) refusal = refusal ≡ TooManySites count
TellsFault items (layout.FrameTooLarge place words) refusal = TellsFrame items place words refusal
TellsFault items (layout.GlobalsTooLarge words) refusal = refusal ≡ GlobalsTooLarge words
TellsFault items layout.Memory refusal = (e : AllocError) × (refusal ≡ Memory e)
