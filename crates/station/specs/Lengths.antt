-- The lengths that `check` takes, in the rules page's words: exactly these pass, as proofs/Laws.antt shows.
-- Assumes nothing.
use Rattle.std.specs.Prelude.{◌≡◌, List, ℕ, ◌≤◌, length}
use Rattle.hmac.specs.Promises as hmac
use Rattle.routine.specs.Routine.{key_bytes, string_bytes}

-- a key of 64 bytes, a challenge and a reply of 32, a region of 1 to 65,536
pub record Lengths (k c given region : List ℕ) : Type 0 where
  pub key : length k ≡ key_bytes
  pub challenge : length c ≡ string_bytes
  pub reply : length given ≡ string_bytes
  pub some : 1 ≤ length region
  pub most : length region ≤ hmac.most
