-- What the writing of a file's text promises, for all inputs. Assumes nothing.
use Rattle.std.specs.Prelude.{◌≡◌, List, ◌++◌, ℕ, length, take, drop}
use Rattle.runfile.specs.Promises.{memory_left, room_left}
use Rattle.report.specs.Text.{file_text}

-- `text`: the text's length, whether it fits or not; a buffer that is too short holds the beginning of the text, and a
-- longer one keeps what stood behind it. Memory, room and out are lent, and the others are what stands there
-- afterwards.
pub record Writes (file memory room out memory' room' out' : List ℕ) (r : ℕ) : Type 0 where
  pub answered : r ≡ length (file_text file memory room)
  pub memory_left : memory' ≡ memory_left file memory room
  pub room_left : room' ≡ room_left file memory room
  pub out_left : out' ≡ take (length out) (file_text file memory room) ++ drop (length (file_text file memory room)) out
