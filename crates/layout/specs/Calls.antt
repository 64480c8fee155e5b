-- What every call on a board's memory refuses first. Assumes nothing.
use Rattle.std.specs.Prelude.{not, List, ℕ, eqb, length}
use Rattle.notions.specs.Choice.{pick}
use Rattle.refusal.specs.Answers.{Answer, refused_at, and_then}
use Rattle.refusal.specs.declared.Reason.TheVariants.{MemorySize}
use Rattle.layout.specs.Layouts.{layout_check}

-- the memory has one byte for each address
abbrev pub memory_bytes : ℕ
memory_bytes = 65536

-- refusal 1, then the layout's, then the rest
abbrev pub call_check : List ℕ → List ℕ → Answer → Answer
call_check memory layout rest =
    pick (not (eqb (length memory) memory_bytes)) (refused_at MemorySize 0) (and_then (layout_check layout) rest)
