-- What the contracts of this crate's own functions say; no other crate needs it. Assumes nothing.
use Rattle.std.specs.Prelude.{◌≡◌, true, false, List, ℕ, ◌+◌, ◌*◌, ◌^◌, ◌≤◌, ◌<◌, length, get_or, Option, Some, None, Err, Ok, Result}
use Rattle.std.proofs.lemmas.List.Edits.{sets}
use Rattle.effects.specs.declared.StepAnswer.{StepAnswer}
use Rattle.traces.specs.Traces.{answer_size}
use Rattle.report.specs.declared.Writer.{Writer}
use Rattle.report.specs.Text as T
use Rattle.report.specs.Text.{judged_text, refused_line}
use Rattle.monitor.specs.declared.Totals.{Totals}
use Rattle.refusal.specs.declared.Refusal.{Refusal}

-- the writer w has become w': a text is laid into its buffer from its place on, as far as it fits, and its place is the
-- one behind it, if there is such a place. The buffer is the one that was lent.
pub record Wrote (w w' : Writer) (text : List ℕ) : Type 0 where
  pub same : w'.out.ghost_name ≡ w.out.ghost_name
  pub next : w.at + length text < 2 ^ 64 → w'.at ≡ w.at + length text
  pub laid : w.at + length text < 2 ^ 64 → w'.out.now ≡ sets w.out.now w.at text

-- a byte that is exposed, or none
abbrev pub shown : Option ℕ → List ℕ
shown None = T.shown false 0
shown (Some b) = T.shown true b

-- the answer of step k that stands in a room
abbrev pub answer_at : List ℕ → ℕ → StepAnswer
answer_at room k = record {
  cause = get_or room (answer_size * k) 0;
  exposed = get_or room (answer_size * k + 1) 0;
  cpubyte = get_or room (answer_size * k + 2) 0;
  dmabyte = get_or room (answer_size * k + 3) 0;
}

-- the text of an answer, and of the room in which its steps' answers stand
abbrev pub text_of : Result Totals Refusal → List ℕ → List ℕ
text_of (Ok t) room = judged_text (answer_at room) t
text_of (Err r) room = refused_line r

-- the room holds the answers
abbrev pub Tellable : Result Totals Refusal → ℕ → Type 0
Tellable (Ok t) room = answer_size * t.steps ≤ room
Tellable (Err r) room = Unit {0}
