-- The page's case, computed. Assumes nothing.
use mathlib.Core.Path.{◌≡◌, refl}
use mathlib.Core.List.{List}
use Prim.Native.Nat.{ℕ, ◌≤◌}
use lib.ListN.{length}
use borrow.Author.Tests.{le-ltb}
use Rattle.notions.specs.First.{first}
use Rattle.octets.specs.Numbers.{number}
use Rattle.layout.specs.Layouts.{layout_of, layout_check}
use Rattle.steps.specs.Steps.{step_of}
use Rattle.rules.specs.Rules.{cause}
use Rattle.monitor.specs.Decisions.{next}
use Rattle.effects.specs.Effects.{exposing, answer, stored, storing, written}
use Rattle.monitor.specs.Runs.{begin, before, said, resetting}
use Rattle.traces.specs.Traces.{steps}
use Rattle.traces.specs.Traces.{trace_check}
use Rattle.file_contents.specs.Contents.{begins, entry_fails, first_failing, file_check, body}
use Rattle.file_segments.specs.Segments.{place, reached, segments, segment_fails, first_wrong, segment_check, image}
use Rattle.report.specs.Text.{places, decimal, line, lines, totals_line, judged_text}
use Rattle.runfile.specs.Promises.{file_layout, file_memory, file_trace, file_totals, bodies_check, judge_check}
use Rattle.claims_examples.specs.PageCase as claim
use Rattle.std.specs.Prelude.{Ok}

printed : judged_text (said (file_layout claim.file) (steps (file_trace claim.file)) (begin (file_memory claim.file)))
    (file_totals claim.file) ≡ claim.text
unfolding first layout_of step_of cause next exposing answer stored storing written before resetting begins number body
    place reached segments image places decimal line lines totals_line judged_text
printed = refl

contents_pass : file_check claim.file ≡ Ok tt
unfolding file_check first_failing first entry_fails begins number
contents_pass = refl

bodies_pass : (memory room : List ℕ) → length memory ≡ 65536 → 28 ≤ length room
    → bodies_check (body claim.file 0) (body claim.file 1) (body claim.file 2) memory room ≡ Ok tt
unfolding bodies_check body begins number layout_check segment_check first_wrong segments segment_fails place reached first
    trace_check
bodies_pass memory room h g = simp (h, le-ltb (length room) 28 g)

pub page_case : claim.PageCase
unfolding judge_check
page_case memory room h g = simp (contents_pass, bodies_pass memory room h g) printed
