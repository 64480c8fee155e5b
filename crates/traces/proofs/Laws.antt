-- The laws of a trace's bytes, for the crates above. Assumes nothing.
use mathlib.Core.Path.{◌≡◌, ◌∙◌}
use mathlib.Core.List.{List}
use Prim.Native.Nat.{ℕ, ◌+◌, ◌*◌, ◌<◌}
use lib.ListN.{get_or, drop}
use lib.Seq.{get_or-take, get_or-drop}
use borrow.Author.Tests.{lt-ltb}
use Rattle.traces.specs.Traces.{step_size, count, step_bytes}
use Rattle.traces.specs.Promises.{GivesRecord}

-- byte j of step n
pub step_byte : (b : List ℕ) (n j : ℕ) → j < step_size → get_or (step_bytes b n) j 0 ≡ get_or b (step_size * n + j) 0
step_byte b n j h = get_or-take step_size (drop (step_size * n) b) j 0 h ∙ get_or-drop (step_size * n) b j 0

-- the record of a step that is there
pub record_there : (b : List ℕ) (n : ℕ) (r : List ℕ) → n < count b → GivesRecord b n r → r ≡ step_bytes b n
record_there b n r h e = e ∙ simp (lt-ltb n (count b) h)
